-- The machine: a board, and the memory, the rack and the journal that its calls go to.
use Rattle.std.specs.Prelude.{vec_items}
use Rattle.memory.specs.Meaning.{Contents}
use Rattle.rack.specs.Meaning.{Levels}
use Rattle.runs.specs.World.{World, world}
use Rattle.bench.specs.declared.machine.Machine.{Machine}

-- what a machine means, from the meanings of its memory and its rack
abbrev pub world_of : {M R : Type 0} → (M → Contents) → (R → Levels) → Machine M R → World
world_of memory rack m = world m.board (memory m.memory) (rack m.rack) (vec_items m.journal)
