-- What the words of a journal come to by kind.
use Rattle.std.specs.Prelude.{ℕ, ◌+◌, ◌<◌, List}
use Rattle.journal.specs.declared.Kind.{Kind}
use Rattle.journal.specs.declared.Kind.TheVariants.{CardToMemory, MemoryToCard, Verify, Store}
use Rattle.journal.specs.declared.Line.{Line}
use Rattle.accounts.specs.declared.kinds.Totals.{Totals}
use Rattle.accounts.specs.Lines.{counted}

-- no line
abbrev pub no_lines : Totals
no_lines = record { to_memory = 0; to_card = 0; verify = 0; stores = 0 }

-- totals below a limit
abbrev pub IsBelow : Totals → ℕ → Type 0
IsBelow t n = (t.to_memory < n) × (t.to_card < n) × (t.verify < n) × (t.stores < n)

-- one line more of a kind
abbrev pub with_kind : Totals → Kind → Totals
with_kind t CardToMemory = record { to_memory = t.to_memory + 1; to_card = t.to_card; verify = t.verify; stores = t.stores }
with_kind t MemoryToCard = record { to_memory = t.to_memory; to_card = t.to_card + 1; verify = t.verify; stores = t.stores }
with_kind t Verify = record { to_memory = t.to_memory; to_card = t.to_card; verify = t.verify + 1; stores = t.stores }
with_kind t Store = record { to_memory = t.to_memory; to_card = t.to_card; verify = t.verify; stores = t.stores + 1 }

-- one line more
abbrev pub with_line : Totals → Line → Totals
with_line t l = with_kind t l.kind

-- the lines of the first 65,536 words
abbrev pub tallied : List ℕ → Totals
tallied ws = counted with_line no_lines ws
