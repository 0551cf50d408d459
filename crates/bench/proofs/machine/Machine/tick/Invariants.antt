use Rattle.std.proofs.Common.{◌≡◌}
use Rattle.bench.specs.Machine.{world_of}
use Rattle.bench.specs.Calls.{ticks}
use Rattle.bench.proofs.machine.Machine.tick.Given as goal

-- the ticks so far
abbrev pub invariant-loop : goal.invariant-loop
invariant-loop g l = world_of g.M.Memory.meaning g.R.Rack.meaning l.self ≡ ticks l.counter (world_of g.M.Memory.meaning g.R.Rack.meaning l.initial.self)
