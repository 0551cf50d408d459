-- The refusals by number, and what a fault tells.
use Rattle.std.specs.Prelude.{ℕ}
use Rattle.fault.specs.declared.Refusal.{Refusal}
use Rattle.fault.specs.declared.Refusal.TheVariants.{NoSuchPort, NotListed, WrongWay, CountOfOne, MemoryAbsent, MemoryProtected, JournalFull, CannotServe, ArrivalNotTaken, TooLarge, NoWriter, NotALine}
use Rattle.fault.specs.declared.Fault.{Fault}

-- the number by which each refusal is told
abbrev pub number : Refusal → ℕ
number NoSuchPort = 1
number NotListed = 2
number WrongWay = 3
number CountOfOne = 4
number MemoryAbsent = 5
number MemoryProtected = 6
number JournalFull = 7
number CannotServe = 8
number ArrivalNotTaken = 9
number TooLarge = 10
number NoWriter = 11
number NotALine = 12

-- a fault of the board itself, which is layer 0
abbrev pub own : Refusal → ℕ → Fault
own why place = record { refusal = why; place = place; layer = 0 }
