-- What the lines of a journal come to, whatever is counted of each.
use Rattle.std.specs.Prelude.{ℕ, List, take, Ok, Err, fold, Result}
use Rattle.fault.specs.declared.Fault.{Fault}
use Rattle.journal.specs.declared.Line.{Line}
use Rattle.journal.specs.Layout.{unpacked}

-- what a word reads as, counted; one that is no line is passed over
abbrev pub with_reading : {T : Type 0} → (T → Line → T) → T → Result Line Fault → T
with_reading with_line t (Ok l) = with_line t l
with_reading with_line t (Err f) = t

-- one word more
abbrev pub with_word : {T : Type 0} → (T → Line → T) → T → ℕ → T
with_word with_line t w = with_reading with_line t (unpacked w)

-- the lines of the first 65,536 words, from totals of none on
unfoldable pub counted : {T : Type 0} → (T → Line → T) → T → List ℕ → T
counted with_line none ws = fold (with_word with_line) none (take 65536 ws)
