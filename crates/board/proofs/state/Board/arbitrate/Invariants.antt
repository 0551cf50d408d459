use Rattle.std.proofs.Common.{◌≡◌, ℕ, ◌<◌, false}
use Rattle.board.specs.Grant.{open_at, contends}
use Rattle.board.proofs.state.Board.arbitrate.Given as goal

-- no lower level contends
abbrev pub invariant-loop-level : goal.invariant-loop-level
invariant-loop-level g l = (k : ℕ) → k < l.level → contends l.self (g.R.Rack.meaning l.rack) k ≡ false

-- no lower channel is open at the level
abbrev pub invariant-loop-channel : goal.invariant-loop-channel
invariant-loop-channel g l = (k : ℕ) → k < l.channel → open_at l.self l.level k ≡ false
