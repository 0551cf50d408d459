-- How an answer is printed.
use Rattle.std.specs.Prelude.{ℕ, List, [], ◌++◌, codes, Some, None, Ok, Err, Option, Result}
use Rattle.std.specs.Fmt.{decimal}
use Rattle.fault.specs.declared.Fault.{Fault}
use Rattle.fault.specs.Text.{hexadecimal, fault_text}
use Rattle.bench.specs.declared.machine.Outcome.{Outcome}
use Rattle.bench.specs.declared.machine.Outcome.TheVariants.{Done, Byte, Place, Carried}
use Rattle.bench.specs.declared.machine.Answer.{Answer}

-- what was brought: a byte in two digits, a line by its place or by its word
abbrev pub outcome_text : Outcome → List ℕ
outcome_text Done = codes "ok"
outcome_text (Byte v) = hexadecimal 2 v
outcome_text (Place place) = codes "line " ++ decimal place
outcome_text (Carried (Some word)) = codes "line " ++ hexadecimal 16 word
outcome_text (Carried None) = codes "no line"

-- the level that won the bus
abbrev pub winner_text : Option ℕ → List ℕ
winner_text None = []
winner_text (Some level) = codes "level " ++ (decimal level ++ codes " ")

abbrev pub told_or_refused : Result Outcome Fault → List ℕ
told_or_refused (Ok outcome) = outcome_text outcome
told_or_refused (Err f) = fault_text f

-- the winner before all else
abbrev pub answer_text : Answer → List ℕ
answer_text a = winner_text a.winner ++ told_or_refused a.outcome
