-- What each make of memory means.
use Rattle.std.specs.Prelude.{◌≡◌, ℕ, ◌%◌, ◌<◌, ◌≤◌, Bool, cond, ◌&&◌, ◌⊎◌, List, length, Ok, Err, vec_items, nat_le, nat_lt, slice_index}
use Rattle.memory.specs.declared.Reason.TheVariants.{Absent, Protected}
use Rattle.memory.specs.declared.flat.FlatMemory.{FlatMemory}
use Rattle.memory.specs.declared.protected.Protected.{Protected as ProtectedMemory}
use Rattle.memory.specs.Meaning.{Answer, Contents, own_fault, risen}

-- the address a is present below the number of bytes, and absent from there on
abbrev pub present : List ℕ → ℕ → Answer
present xs a = cond (nat_lt a (length xs)) (Ok tt) (Err (own_fault Absent a))

-- flat memory: what is present may be read and written
abbrev pub flat : List ℕ → Contents
flat xs = record { byte = λ a. slice_index xs a % 256; reads = present xs; writes = present xs }

-- what a flat memory means: what its bytes mean
abbrev pub flat_meaning : FlatMemory → Contents
flat_meaning m = flat (vec_items m.bytes)

-- an answer of the memory beneath, whose fault rises
abbrev pub rise : Answer → Answer
rise (Ok x) = Ok x
rise (Err f) = Err (risen f)

-- whether the address a is in the range from lo up to but not hi
abbrev pub within : ℕ → ℕ → ℕ → Bool
within lo hi a = nat_le lo a && nat_lt a hi

-- writing the address a is refused in the range, absent or not; elsewhere the memory beneath answers
abbrev pub guard : Contents → ℕ → ℕ → ℕ → Answer
guard m lo hi a = cond (within lo hi a) (Err (own_fault Protected a)) (rise (m.writes a))

-- a memory with the range from lo up to but not hi protected
abbrev pub guarded : Contents → ℕ → ℕ → Contents
guarded m lo hi = record { byte = m.byte; reads = λ a. rise (m.reads a); writes = guard m lo hi }

-- what a protected memory means, from the meaning of the one beneath
abbrev pub protected_meaning : {M : Type 0} → (M → Contents) → ProtectedMemory M → Contents
protected_meaning meaning p = guarded (meaning p.inner) p.range.start p.range.end

-- outside its range a protected memory answers as the one beneath, whose faults rise; inside it no writing is allowed
pub record Shields (m : Contents) (lo hi : ℕ) (p : Contents) : Type 0 where
  pub bytes : (a : ℕ) → p.byte a ≡ m.byte a
  pub reading : (a : ℕ) → p.reads a ≡ rise (m.reads a)
  pub outside : (a : ℕ) → (a < lo) ⊎ (hi ≤ a) → p.writes a ≡ rise (m.writes a)
  pub inside : (a : ℕ) → lo ≤ a → a < hi → p.writes a ≡ Err (own_fault Protected a)
