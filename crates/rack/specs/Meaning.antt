-- What a rack means: for each level what stands there, and the rule of its request line.
use Rattle.std.specs.List.{list_all}
use Rattle.std.specs.Prelude.{ℕ, ◌+◌, ◌-◌, Bool, true, false, cond, ◌&&◌, List, [], ◌∷◌, ◌++◌, length, drop, Some, None, Ok, Err, Option, Result, ◌==◌, nat_lt, slice_index}
use Rattle.fault.specs.Numbers.{own}
use Rattle.fault.specs.declared.Fault.{Fault}
use Rattle.fault.specs.declared.Refusal.TheVariants.{CannotServe, ArrivalNotTaken}
use Rattle.rack.specs.declared.Kind.{Kind}
use Rattle.rack.specs.declared.Kind.TheVariants.{Empty, Giver, Taker}
use Rattle.rack.specs.declared.LevelSummary.{LevelSummary}

-- what stands at a level: its kind, whether its units have 16 bits or 8, its request line,
-- the units that wait to be given and those that were taken, in their order, and the room that is left
pub record Level : Type 0 where
  pub kind : Kind
  pub wide : Bool
  pub line : Bool
  pub waiting : List ℕ
  pub taken : List ℕ
  pub room : ℕ

-- a call that changes a level
pub data Event : Type 0 where
  arrival : ℕ → Event
  giving : Event
  taking : ℕ → Event
  last_told : Event

-- whether the line is up after a call, from the level before it
abbrev pub LineRule : Type 0
LineRule = Level → Event → Bool

-- a rack: its levels by number, and the rule of each line, which stays
pub record Levels : Type 0 where
  pub at : ℕ → Level
  pub rule : ℕ → LineRule

-- no card
abbrev pub is_empty : Kind → Bool
is_empty Empty = true
is_empty Giver = false
is_empty Taker = false

-- a card that gives units
abbrev pub is_giver : Kind → Bool
is_giver Empty = false
is_giver Giver = true
is_giver Taker = false

-- a card that takes units
abbrev pub is_taker : Kind → Bool
is_taker Empty = false
is_taker Giver = false
is_taker Taker = true

-- a unit of 16 bits where the level is wide, else of 8
abbrev pub fits : Bool → ℕ → Bool
fits wide u = nat_lt u (cond wide 65536 256)

-- units that all fit
abbrev pub all_fit : Bool → List ℕ → Bool
all_fit wide = list_all (fits wide)

-- a giver with a waiting unit, a taker with room
abbrev pub ready : Kind → ℕ → ℕ → Bool
ready Empty waiting room = false
ready Giver waiting room = nat_lt 0 waiting
ready Taker waiting room = nat_lt 0 room

-- a level that can serve
abbrev pub able : Level → Bool
able v = ready v.kind (length v.waiting) v.room

-- the levels with v at the level l
abbrev pub put : (ℕ → Level) → ℕ → Level → ℕ → Level
put f l v k = cond (k == l) v (f k)

-- a rack with v at the level l; the rules stay
abbrev pub with_level : Levels → ℕ → Level → Levels
with_level r l v = record r { at = put r.at l v }

-- the level as a caller sees it, with the units counted
abbrev pub summary : Level → LevelSummary
summary v = record { kind = v.kind; wide = v.wide; line = v.line; waiting = length v.waiting; taken = length v.taken; room = v.room }

-- the unit at the place k, if there is one
abbrev pub unit_at : List ℕ → ℕ → Option ℕ
unit_at us k = cond (nat_lt k (length us)) (Some (slice_index us k)) None

-- Arrival: a giver with room takes in a unit that fits.
abbrev pub arrives : Level → ℕ → Bool
arrives v u = is_giver v.kind && (nat_lt 0 v.room && fits v.wide u)

-- what an arrival of the unit u at the level l answers
abbrev pub arrive_answer : Level → ℕ → ℕ → Result (Unit {0}) Fault
arrive_answer v l u = cond (arrives v u) (Ok tt) (Err (own ArrivalNotTaken l))

-- one unit more waits, at the end
abbrev pub joined : Level → ℕ → Bool → Level
joined v u line = record v { line = line; waiting = v.waiting ++ u ∷ []; room = v.room - 1 }

-- what an arrival leaves
abbrev pub arrived : Levels → ℕ → ℕ → Levels
arrived r l u = cond (arrives (r.at l) u) (with_level r l (joined (r.at l) u (r.rule l (r.at l) (arrival u)))) r

-- Giving: a giver hands out the unit that has waited longest.
abbrev pub gives : Level → Bool
gives v = is_giver v.kind && nat_lt 0 (length v.waiting)

-- what giving at the level l answers
abbrev pub give_answer : Level → ℕ → Result ℕ Fault
give_answer v l = cond (gives v) (Ok (slice_index v.waiting 0)) (Err (own CannotServe l))

-- the first unit waits no more
abbrev pub emptied : Level → Bool → Level
emptied v line = record v { line = line; waiting = drop 1 v.waiting; room = v.room + 1 }

-- what giving leaves
abbrev pub gave : Levels → ℕ → Levels
gave r l = cond (gives (r.at l)) (with_level r l (emptied (r.at l) (r.rule l (r.at l) giving))) r

-- Taking: a taker with room takes a unit that fits.
abbrev pub takes : Level → ℕ → Bool
takes v u = is_taker v.kind && (nat_lt 0 v.room && fits v.wide u)

-- what taking the unit u at the level l answers
abbrev pub take_answer : Level → ℕ → ℕ → Result (Unit {0}) Fault
take_answer v l u = cond (takes v u) (Ok tt) (Err (own CannotServe l))

-- one unit more is taken, at the end
abbrev pub filled : Level → ℕ → Bool → Level
filled v u line = record v { line = line; taken = v.taken ++ u ∷ []; room = v.room - 1 }

-- what taking leaves
abbrev pub took : Levels → ℕ → ℕ → Levels
took r l u = cond (takes (r.at l) u) (with_level r l (filled (r.at l) u (r.rule l (r.at l) (taking u)))) r

-- Telling the last: only the line can change.
abbrev pub lined : Level → Bool → Level
lined v line = record v { line = line }

-- what telling a level that a transfer was the last leaves
abbrev pub told : Levels → ℕ → Levels
told r l = with_level r l (lined (r.at l) (r.rule l (r.at l) last_told))
