-- The makes of rack: what stands at their levels, and the rules of their lines.
use Rattle.std.specs.Prelude.{ℕ, ◌-◌, Bool, true, false, cond, ◌&&◌, List, [], length, ◌==◌, nat_lt}
use Rattle.rack.specs.declared.Kind.TheVariants.{Empty, Giver, Taker}
use Rattle.rack.specs.Meaning.{Level, arrival, giving, taking, last_told, LineRule, Levels, is_empty}

-- a level with no card
abbrev pub nothing : Level
nothing = record { kind = Empty; wide = false; line = false; waiting = []; taken = []; room = 0 }

-- a line that never changes
abbrev pub keeps : ℕ → LineRule
keeps l v e = v.line

-- a rack with no card
abbrev pub empty_rack : Levels
empty_rack = record { at = λ l. nothing; rule = keeps }

-- a card made for the level n stands at the level l; above 14 it stands nowhere
abbrev pub stands_at : ℕ → ℕ → Bool
stands_at n l = l == n && nat_lt n 15

-- one card, made for the level n
abbrev pub one_card : ℕ → Level → LineRule → Levels
one_card n v rule = record { at = λ l. cond (stands_at n l) v nothing; rule = λ l. rule }

-- how many units wait at most on a weighing card
abbrev pub weighing_room : ℕ
weighing_room = 512

-- the weighing card's line is up while a unit waits
abbrev pub weighing_line : LineRule
weighing_line v (arrival u) = true
weighing_line v giving = nat_lt 1 (length v.waiting)
weighing_line v (taking u) = v.line
weighing_line v last_told = v.line

-- a weighing card with the units us waiting: a giver of 16 bits
abbrev pub weighing : List ℕ → Level
weighing us = record { kind = Giver; wide = true; line = nat_lt 0 (length us); waiting = us; taken = []; room = weighing_room - length us }

-- how many units a ticket printer takes
abbrev pub printing_room : ℕ
printing_room = 2048

-- the ticket printer's line is up while room is left
abbrev pub printing_line : LineRule
printing_line v (arrival u) = v.line
printing_line v giving = v.line
printing_line v (taking u) = nat_lt 1 v.room
printing_line v last_told = v.line

-- a ticket printer that has taken the units us: a taker of 8 bits
abbrev pub printing : List ℕ → Level
printing us = record { kind = Taker; wide = false; line = nat_lt 0 (printing_room - length us); waiting = []; taken = us; room = printing_room - length us }

-- two racks: the second has the levels at which the first holds no card
abbrev pub pair : Levels → Levels → Levels
pair a b = record {
  at = λ l. cond (is_empty (a.at l).kind) (b.at l) (a.at l);
  rule = λ l. cond (is_empty (a.at l).kind) (b.rule l) (a.rule l);
}
