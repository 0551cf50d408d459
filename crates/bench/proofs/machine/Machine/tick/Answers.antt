use Rattle.std.proofs.Common.{ℕ, sym, ap, ◌∙◌, add-one, rules}
use Rattle.runs.specs.declared.Call.TheVariants.{Tick}
use Rattle.runs.specs.World.{World, after}
use Rattle.bench.specs.Calls.{ticks}
use Rattle.bench.specs.Machine.{world_of}
use Rattle.bench.proofs.machine.Machine.tick.Goals as goal

pub loop-init : goal.loop-init
unfolding ticks
loop-init g c = search rules

pub loop-preserved : goal.loop-preserved
unfolding ticks
loop-preserved g c =
    let w : World = world_of g.M.Memory.meaning g.R.Rack.meaning c.args.self.now in
    c.call.ensures.after ∙ (ap (λ (z : World). after z Tick) c.loop.invariant ∙ ap (λ (n : ℕ). ticks n w) (sym (add-one c.loop.counter)))
