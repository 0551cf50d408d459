-- The machine that a rig lays out, before its first call.
use Rattle.std.specs.Prelude.{ℕ, [], replicate, Some, None, Option}
use Rattle.memory.specs.declared.flat.FlatMemory.{FlatMemory}
use Rattle.memory.specs.declared.protected.Protected.{Protected}
use Rattle.memory.specs.Meaning.{Contents}
use Rattle.memory.specs.Makes.{flat, guarded, flat_meaning, protected_meaning}
use Rattle.rack.specs.declared.weighing.WeighingCard.{WeighingCard}
use Rattle.rack.specs.declared.printer.TicketPrinter.{TicketPrinter}
use Rattle.rack.specs.declared.pair.Pair.{Pair}
use Rattle.rack.specs.Meaning.{Levels}
use Rattle.rack.specs.Makes.{one_card, weighing, weighing_line, printing, printing_line, pair}
use Rattle.rack.specs.Racks.{weighing_meaning, printing_meaning, pair_meaning}
use Rattle.bench.specs.declared.rig.Rig.{Rig}
use Rattle.bench.specs.declared.machine.Machine.{Machine}
use Rattle.runs.specs.World.{World, opening}
use Rattle.bench.specs.Machine.{world_of}

-- what is given, or what holds where it is absent
abbrev pub or_else : {X : Type 0} → Option X → X → X
or_else None x = x
or_else (Some y) x = y

-- a weighing card; where no level is given it is made for 255, which is none
abbrev pub scale_at : Option ℕ → Levels
scale_at level = one_card (or_else level 255) (weighing []) weighing_line

-- a ticket printer likewise
abbrev pub printer_at : Option ℕ → Levels
printer_at level = one_card (or_else level 255) (printing []) printing_line

-- zero bytes, 65536 of them where no length is given, under the protected range
abbrev pub memory_of : Rig → Contents
memory_of r = guarded (flat (replicate (or_else r.memory 65536) 0)) (or_else r.protect (0, 0)).0 (or_else r.protect (0, 0)).1

-- the first scale before the second, and both before the printer
abbrev pub rack_of : Rig → Levels
rack_of r = pair (scale_at r.first_scale) (pair (scale_at r.second_scale) (printer_at r.printer))

-- all of it; a journal has 4096 words where no length is given
abbrev pub laid_out : Rig → World
laid_out r = opening (memory_of r) (rack_of r) (replicate (or_else r.journal 4096) 0)

-- what the yard's rack means
abbrev pub rack_meaning : Pair WeighingCard (Pair WeighingCard TicketPrinter) → Levels
rack_meaning = pair_meaning weighing_meaning (pair_meaning weighing_meaning printing_meaning)

-- what a machine of the yard's memory and rack means
abbrev pub yard_world : Machine (Protected FlatMemory) (Pair WeighingCard (Pair WeighingCard TicketPrinter)) → World
yard_world m = world_of (protected_meaning flat_meaning) rack_meaning m
