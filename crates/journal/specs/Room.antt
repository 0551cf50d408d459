-- How many lines a journal takes.
use Rattle.std.specs.Prelude.{ℕ, min, Bool, nat_le}

-- full at its length or at 65,536 lines, whichever is less
abbrev pub full : ℕ → ℕ → Bool
full lines size = nat_le (min size 65536) lines
