-- What the words of a journal come to at one level.
use Rattle.std.specs.Prelude.{ℕ, ◌+◌, ◌*◌, ◌<◌, Bool, true, false, cond, List, ◌==◌}
use Rattle.journal.specs.declared.Kind.{Kind}
use Rattle.journal.specs.declared.Kind.TheVariants.{CardToMemory, MemoryToCard, Verify, Store}
use Rattle.journal.specs.declared.Line.{Line}
use Rattle.accounts.specs.declared.levels.LevelTotals.{LevelTotals}
use Rattle.accounts.specs.Lines.{counted}

-- no line at the level
abbrev pub nothing : LevelTotals
nothing = record { to_memory = 0; to_card = 0; last_marks = 0; sum = 0 }

-- totals below a number of lines, and the sum below that of so many units
abbrev pub IsBelow : LevelTotals → ℕ → Type 0
IsBelow t n = (t.to_memory < n) × (t.to_card < n) × (t.last_marks < n) × (t.sum < n * 65536)

-- a line's last mark, where it has one
abbrev pub with_mark : LevelTotals → Bool → LevelTotals
with_mark t true = record { to_memory = t.to_memory; to_card = t.to_card; last_marks = t.last_marks + 1; sum = t.sum }
with_mark t false = t

-- a unit from the card
abbrev pub with_given : LevelTotals → ℕ → LevelTotals
with_given t unit = record { to_memory = t.to_memory + 1; to_card = t.to_card; last_marks = t.last_marks; sum = t.sum + unit }

-- a unit to the card
abbrev pub with_taken : LevelTotals → LevelTotals
with_taken t = record { to_memory = t.to_memory; to_card = t.to_card + 1; last_marks = t.last_marks; sum = t.sum }

-- one line more of a kind; a store is no card's
abbrev pub with_kind : LevelTotals → Line → Kind → LevelTotals
with_kind t l CardToMemory = with_mark (with_given t l.unit) l.last
with_kind t l MemoryToCard = with_mark (with_taken t) l.last
with_kind t l Verify = with_mark t l.last
with_kind t l Store = t

-- a line, counted where it is one of the level
abbrev pub with_line : ℕ → LevelTotals → Line → LevelTotals
with_line level t l = cond (l.level == level) (with_kind t l l.kind) t

-- the lines of a level among the first 65,536 words
abbrev pub tallied_level : List ℕ → ℕ → LevelTotals
tallied_level ws level = counted (with_line level) nothing ws
