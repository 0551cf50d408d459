use Rattle.std.proofs.Common.{[], ap}
use Rattle.runs.specs.World.{world, run}
use Rattle.runs.proofs.perform.Goals as goal

pub returns-clause-law : goal.returns-clause-law
unfolding run
returns-clause-law g c =
    let law = rw c.in_ok-result.was at c.go_on-result.ensures.law in
    law (g.M.Memory.meaning c.args.memory.now) (g.R.Rack.meaning c.args.rack.now) c.args.journal.now []
    (record { bytes = g.met.M.Memory.bytes c.args.memory.now; units = g.met.R.Rack.waiting_fit c.args.rack.now })
    (ap (λ b. world b (g.M.Memory.meaning c.args.memory.now) (g.R.Rack.meaning c.args.rack.now) c.args.journal.now) c.power_on.ensures.board)
