use Rattle.std.proofs.Common.{rules}
use Rattle.board.proofs.Searched.{won}
use Rattle.board.proofs.state.Board.arbitrate.Goals as goal

pub returns-then-registers-level-clause-winner : goal.returns-then-registers-level-clause-winner
returns-then-registers-level-clause-winner g c =
    won c.args.self.now (g.R.Rack.meaning c.args.rack.now) c.loop-level.level c.loop-channel.channel c.loop-level-test.true c.loop-channel-test.true c.loop-level.invariant c.loop-channel.invariant (search rules) (search rules)
