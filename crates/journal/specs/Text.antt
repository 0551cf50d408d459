-- How a line is printed.
use Rattle.std.specs.Prelude.{ℕ, List, ◌++◌, codes}
use Rattle.std.specs.Fmt.{decimal}
use Rattle.fault.specs.Text.{hexadecimal}
use Rattle.journal.specs.declared.Line.{Line}
use Rattle.journal.specs.Layout.{number_of_kind, bit}

-- kind, channel and the two marks of one bit
abbrev pub marks_text : Line → List ℕ
marks_text l =
    codes "kind " ++ (decimal (number_of_kind l.kind) ++ (codes " channel " ++ (decimal l.channel ++ (codes " wide " ++ (decimal (bit l.wide) ++ (codes " last " ++ decimal (bit l.last)))))))

-- level, the address in six digits and the unit in four
abbrev pub place_text : Line → List ℕ
place_text l =
    codes " level " ++ (decimal l.level ++ (codes " address " ++ (hexadecimal 6 l.address ++ (codes " unit " ++ hexadecimal 4 l.unit))))

-- the fields of a line in their order, each after its name
abbrev pub line_text : Line → List ℕ
line_text l = marks_text l ++ place_text l
