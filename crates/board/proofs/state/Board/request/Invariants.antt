use Rattle.std.proofs.Common.{◌≡◌}
use Rattle.dma.specs.Registers.{with_status}
use Rattle.board.specs.Grant.{requested}
use Rattle.board.proofs.state.Board.request.Given as goal

-- the request bits of the channels so far
abbrev pub invariant-loop-channel : goal.invariant-loop-channel
invariant-loop-channel g l = l.dma ≡ with_status l.fn.self.dma (requested l.fn.self (g.R.Rack.meaning l.rack) l.channel)
