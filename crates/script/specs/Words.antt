-- How a line is parted into words.
use Rattle.std.specs.Prelude.{ℕ, Bool, cond, ◌||◌, List, length, drop, Some, None, Option, ◌==◌}
use Rattle.std.specs.List.{prefix_len, position_or_len, before_first}

-- space, tab and carriage return
abbrev pub is_blank : ℕ → Bool
is_blank c = c == 32 || (c == 9 || c == 13)

-- `#`
abbrev pub starts_comment : ℕ → Bool
starts_comment c = c == 35

-- a line up to its comment
abbrev pub before_comment : List ℕ → List ℕ
before_comment t = before_first starts_comment t

-- a text from its first word on
abbrev pub from_word : List ℕ → List ℕ
from_word t = drop (prefix_len is_blank t) t

-- the first word of a text, empty where there is none
abbrev pub first_word : List ℕ → List ℕ
first_word t = before_first is_blank (from_word t)

-- whether a text has no byte
abbrev pub is_empty : List ℕ → Bool
is_empty w = length w == 0

-- the first word of a text, if it has one
abbrev pub word_of : List ℕ → Option (List ℕ)
word_of t = cond (is_empty (first_word t)) None (Some (first_word t))

-- what follows the first word
abbrev pub after_word : List ℕ → List ℕ
after_word t = drop (position_or_len is_blank (from_word t)) (from_word t)
