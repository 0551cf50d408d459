-- How a number is written: digits of its base, no sign, no prefix, and no more than a limit.
use Rattle.std.specs.Prelude.{ℕ, ◌+◌, ◌-◌, ◌*◌, cond, ◌&&◌, List, [], ◌∷◌, Some, None, Option, nat_le}
use Rattle.script.specs.declared.number.Base.{Base}
use Rattle.script.specs.declared.number.Base.TheVariants.{Decimal, Hexadecimal}

-- how many digits a base has
abbrev pub radix : Base → ℕ
radix Decimal = 10
radix Hexadecimal = 16

-- a byte from low to high stands for a digit, low for the given one
abbrev pub ranged : ℕ → ℕ → ℕ → ℕ → Option ℕ → Option ℕ
ranged low high digit c others = cond (nat_le low c && nat_le c high) (Some (c - low + digit)) others

-- the digit that a byte stands for: 0 to 9, and in base 16 also A to F and a to f
abbrev pub digit_of : Base → ℕ → Option ℕ
digit_of Decimal c = ranged 48 57 0 c None
digit_of Hexadecimal c = ranged 48 57 0 c (ranged 65 70 10 c (ranged 97 102 10 c None))

-- one digit more, while the limit is kept
abbrev pub grown : Base → ℕ → ℕ → Option ℕ → Option ℕ
grown base limit n None = None
grown base limit n (Some digit) = cond (nat_le (n * radix base + digit) limit) (Some (n * radix base + digit)) None

-- what further bytes make of the number so far
abbrev pub numeral_after : Base → ℕ → Option ℕ → List ℕ → Option ℕ
numeral_after base limit so_far [] = so_far
numeral_after base limit None (c ∷ cs) = None
numeral_after base limit (Some n) (c ∷ cs) = numeral_after base limit (grown base limit n (digit_of base c)) cs

-- the number that a text writes; no digit writes none
abbrev pub numeral : Base → ℕ → List ℕ → Option ℕ
numeral base limit [] = None
numeral base limit (c ∷ cs) = numeral_after base limit (Some 0) (c ∷ cs)
