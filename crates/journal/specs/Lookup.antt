-- Which line wrote an address.
use Rattle.std.specs.Prelude.{◌≡◌, ℕ, ◌+◌, ◌%◌, ◌^◌, ◌<◌, ◌≤◌, Bool, true, false, cond, ◌&&◌, ◌||◌, List, length, Ok, Err, Result, ◌==◌, slice_index, nat_le}
use Rattle.fault.specs.declared.Fault.{Fault}
use Rattle.fault.specs.declared.Refusal.TheVariants.{TooLarge, NoWriter}
use Rattle.fault.specs.Numbers.{own}
use Rattle.journal.specs.declared.Kind.{Kind}
use Rattle.journal.specs.declared.Kind.TheVariants.{CardToMemory, MemoryToCard, Verify, Store}
use Rattle.journal.specs.declared.Line.{Line}
use Rattle.journal.specs.Layout.{unpacked}

-- the kinds that write memory
abbrev pub writes : Kind → Bool
writes CardToMemory = true
writes MemoryToCard = false
writes Verify = false
writes Store = true

-- a line reaches its address and, if wide, the next one modulo 2 ^ 24
abbrev pub reaches : Line → ℕ → Bool
reaches l a = l.address == a || (l.wide && (l.address + 1) % 2 ^ 24 == a)

-- whether what a word reads as wrote the address
abbrev pub wrote_as : Result Line Fault → ℕ → Bool
wrote_as (Ok l) a = writes l.kind && reaches l a
wrote_as (Err _) a = false

-- whether a word wrote the address; one that is no line wrote nothing
abbrev pub wrote : ℕ → ℕ → Bool
wrote w a = wrote_as (unpacked w) a

-- an address of 2 ^ 24 and above is too large
abbrev pub address_answer : ℕ → Result (Unit {0}) Fault
address_answer a = cond (nat_le 16777216 a) (Err (own TooLarge a)) (Ok tt)

-- an answer: the place of a word that wrote the address, or the refusal of one too large, or that no word wrote it
abbrev pub Found : List ℕ → ℕ → Result ℕ Fault → Type 0
Found ws a (Ok i) = (a < 2 ^ 24) × (i < length ws) × (wrote (slice_index ws i) a ≡ true)
Found ws a (Err f) =
    (2 ^ 24 ≤ a → f ≡ own TooLarge a) ×
    (a < 2 ^ 24 → (f ≡ own NoWriter a) × ((k : ℕ) → k < length ws → wrote (slice_index ws k) a ≡ false))
