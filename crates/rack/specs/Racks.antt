-- What a value of each make means.
use Rattle.std.specs.Prelude.{vec_items}
use Rattle.std.specs.VecDeque.{deque_items}
use Rattle.rack.specs.declared.empty.EmptyRack.{EmptyRack}
use Rattle.rack.specs.declared.weighing.WeighingCard.{WeighingCard}
use Rattle.rack.specs.declared.printer.TicketPrinter.{TicketPrinter}
use Rattle.rack.specs.declared.pair.Pair.{Pair}
use Rattle.rack.specs.Meaning.{Levels}
use Rattle.rack.specs.Makes.{empty_rack, one_card, weighing, weighing_line, printing, printing_line, pair}

-- an empty rack
abbrev pub empty_meaning : EmptyRack → Levels
empty_meaning r = empty_rack

-- a weighing card at its level, with its units waiting
abbrev pub weighing_meaning : WeighingCard → Levels
weighing_meaning c = one_card c.level (weighing (deque_items c.units)) weighing_line

-- a ticket printer at its level, with its bytes taken
abbrev pub printing_meaning : TicketPrinter → Levels
printing_meaning p = one_card p.level (printing (vec_items p.bytes)) printing_line

-- a pair, from the meanings of the two
abbrev pub pair_meaning : {A B : Type 0} → (A → Levels) → (B → Levels) → Pair A B → Levels
pair_meaning first second p = pair (first p.first) (second p.second)
