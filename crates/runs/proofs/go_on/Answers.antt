use Rattle.std.proofs.Common.{rules, arith}
use Rattle.std.proofs.lemmas.Grind.{common_steps}
use Rattle.runs.specs.World.{World, world}
use Rattle.runs.proofs.Answering.{none_ran, one_more, goes_on}
use Rattle.runs.proofs.go_on.Goals as goal

pub loop-call-init : goal.loop-call-init
loop-call-init g c = record { ran = none_ran _ _ _ c.in-Ok.ensures.items; room = search rules }

pub loop-call-preserved : goal.loop-call-preserved
loop-call-preserved g c =
    record {
      ran = one_more _ c.loop-call.invariant.ran c.loop-call-test.true c.act-answer.ensures.answered c.act-answer.ensures.left c.push_reserved.ensures.items;
      room = search rules;
    }

pub returns-clause-law : goal.returns-clause-law
returns-clause-law g c =
    let w : World = world c.args.board.now (g.M.Memory.meaning c.args.memory.now) (g.R.Rack.meaning c.args.rack.now) c.args.journal.now in
    let v : World = world c.loop-call.board (g.M.Memory.meaning c.loop-call.memory) (g.R.Rack.meaning c.loop-call.rack) c.loop-call.journal in
    goes_on w c.args.calls.now v (grind (arith, common_steps))
