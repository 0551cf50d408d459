-- Arrival, load and store: what the processor's side of the bus answers and leaves.
use Rattle.std.specs.Prelude.{ℕ, ◌+◌, false, cond, List, length, Ok, Err, Result, nat_le, slice_set}
use Rattle.fault.specs.declared.Fault.{Fault}
use Rattle.fault.specs.declared.Refusal.TheVariants.{JournalFull, TooLarge}
use Rattle.fault.specs.Numbers.{own}
use Rattle.journal.specs.declared.Kind.TheVariants.{Store}
use Rattle.journal.specs.declared.Line.{Line}
use Rattle.journal.specs.Layout.{word}
use Rattle.journal.specs.Room.{full}
use Rattle.memory.specs.declared.MemoryFault.{MemoryFault}
use Rattle.memory.specs.Meaning.{Answer, Contents, written, read_answer, from_memory}
use Rattle.rack.specs.Meaning.{Levels, arrive_answer, arrived}
use Rattle.board.specs.declared.state.Board.{Board}
use Rattle.board.specs.State.{with_lines}
use Rattle.board.specs.Grant.{granted}
use Rattle.board.specs.Carry.{Outcome, carried}

-- an arrival at a level above 14 is too large, before the rack is asked
abbrev pub arrival_answer : Levels → ℕ → ℕ → Result (Unit {0}) Fault
arrival_answer r l u = cond (nat_le 15 l) (Err (own TooLarge l)) (arrive_answer (r.at l) l u)

abbrev pub arrival_after : Levels → ℕ → ℕ → Levels
arrival_after r l u = cond (nat_le 15 l) r (arrived r l u)

-- a memory's fault rises into the board's
abbrev pub from_memory_answer : {X : Type 0} → Result X MemoryFault → Result X Fault
from_memory_answer (Ok x) = Ok x
from_memory_answer (Err f) = Err (from_memory f)

-- an address of 2^24 and above is too large, before the memory is asked
abbrev pub loaded : Contents → ℕ → Result ℕ Fault
loaded m a = cond (nat_le 16777216 a) (Err (own TooLarge a)) (from_memory_answer (read_answer m a))

-- the line of a store
abbrev pub store_line : ℕ → ℕ → Line
store_line a v = record { kind = Store; channel = 0; wide = false; last = false; level = 15; address = a; unit = v }

-- everything after a store
pub record Stored : Type 0 where
  pub board : Board
  pub memory : Contents
  pub journal : List ℕ
  pub answer : Result (Unit {0}) Fault

abbrev pub these_stored : Board → Contents → List ℕ → Result (Unit {0}) Fault → Stored
these_stored b m j a = record { board = b; memory = m; journal = j; answer = a }

abbrev pub store_by : Answer → Board → Contents → List ℕ → ℕ → ℕ → Stored
store_by (Ok x) b m j a v = these_stored (with_lines b (b.lines + 1)) (written m a v) (slice_set j b.lines (word (store_line a v))) (Ok tt)
store_by (Err f) b m j a v = these_stored b m j (Err (from_memory f))

-- too large, then a full journal, then the memory's answer
abbrev pub stored : Board → Contents → List ℕ → ℕ → ℕ → Stored
stored b m j a v =
    cond (nat_le 16777216 a) (these_stored b m j (Err (own TooLarge a)))
    (cond (full b.lines (length j)) (these_stored b m j (Err (own JournalFull a)))
    (store_by (m.writes a) b m j a v))

-- a grant and its carry
abbrev pub cycled : Board → Contents → Levels → List ℕ → Outcome
cycled b m r j = carried (granted b r).board m r j (granted b r).level (granted b r).channel
