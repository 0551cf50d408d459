-- What a memory means, and what reading and writing it answer and leave.
use Rattle.std.specs.Prelude.{ℕ, ◌+◌, min, cond, Ok, Err, Result, ◌==◌}
use Rattle.fault.specs.declared.Fault.{Fault}
use Rattle.fault.specs.declared.Refusal.{Refusal}
use Rattle.fault.specs.declared.Refusal.TheVariants.{MemoryAbsent, MemoryProtected}
use Rattle.memory.specs.declared.MemoryFault.{MemoryFault}
use Rattle.memory.specs.declared.Reason.{Reason}
use Rattle.memory.specs.declared.Reason.TheVariants.{Absent, Protected}

-- the refusal that each reason is told as
abbrev pub refusal_of : Reason → Refusal
refusal_of Absent = MemoryAbsent
refusal_of Protected = MemoryProtected

-- yes, or the fault
abbrev pub Answer : Type 0
Answer = Result (Unit {0}) MemoryFault

-- for each address the byte there, and what asking to read and to write it answers
pub record Contents : Type 0 where
  pub byte : ℕ → ℕ
  pub reads : ℕ → Answer
  pub writes : ℕ → Answer

-- the byte where the answer is yes, else the fault
abbrev pub answered : Answer → ℕ → Result ℕ MemoryFault
answered (Ok x) b = Ok b
answered (Err f) b = Err f

-- the first of two where the answer is yes, else the second
abbrev pub granted : {X : Type 0} → Answer → X → X → X
granted (Ok x) m n = m
granted (Err f) m n = n

-- the bytes with b at the address a
abbrev pub put : (ℕ → ℕ) → ℕ → ℕ → ℕ → ℕ
put f a b k = cond (k == a) b (f k)

-- the contents with b at the address a; what may be read and written stays
abbrev pub written : Contents → ℕ → ℕ → Contents
written m a b = record { byte = put m.byte a b; reads = m.reads; writes = m.writes }

-- what reading the address a answers
abbrev pub read_answer : Contents → ℕ → Result ℕ MemoryFault
read_answer m a = answered (m.reads a) (m.byte a)

-- what writing b to the address a leaves
abbrev pub wrote : Contents → ℕ → ℕ → Contents
wrote m a b = granted (m.writes a) (written m a b) m

-- a fault of the memory that is asked, which is layer 1
abbrev pub own_fault : Reason → ℕ → MemoryFault
own_fault why place = record { reason = why; place = place; layer = 1 }

-- a fault of the memory beneath, one layer further down, 255 at most
abbrev pub risen : MemoryFault → MemoryFault
risen f = record { reason = f.reason; place = f.place; layer = min (f.layer + 1) 255 }

-- a memory's fault as a fault of the board's call
abbrev pub from_memory : MemoryFault → Fault
from_memory f = record { refusal = refusal_of f.reason; place = f.place; layer = f.layer }
