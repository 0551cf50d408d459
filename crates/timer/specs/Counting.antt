-- One counter, event by event.
use Rattle.std.specs.Prelude.{ℕ, ◌+◌, ◌-◌, ◌*◌, ◌/◌, ◌%◌, Bool, true, false, cond, not, ◌&&◌, Some, None, Ok, Err, Option, Result, ◌==◌, nat_le, nat_lt}
use Rattle.fault.specs.declared.Refusal.{Refusal}
use Rattle.fault.specs.declared.Refusal.TheVariants.{WrongWay, CountOfOne}
use Rattle.timer.specs.declared.counter.Mode.{Mode}
use Rattle.timer.specs.declared.counter.Mode.TheVariants.{TerminalCount, RateGenerator, SquareWave}
use Rattle.timer.specs.declared.counter.Access.{Access}
use Rattle.timer.specs.declared.counter.Access.TheVariants.{Low, High, LowThenHigh}
use Rattle.timer.specs.declared.counter.Phase.{Phase}
use Rattle.timer.specs.declared.counter.Phase.TheVariants.{Unset, Empty, First, Again, Running}
use Rattle.timer.specs.declared.counter.Event.{Event}
use Rattle.timer.specs.declared.counter.Event.TheVariants.{Clock, GateRise, GateFall, Byte}
use Rattle.timer.specs.declared.counter.Counter.{Counter}
use Rattle.timer.specs.declared.counter.Setting.{Setting}

-- the number of each mode
abbrev pub mode_number : Mode → ℕ
mode_number TerminalCount = 0
mode_number RateGenerator = 2
mode_number SquareWave = 3

-- bits 5-4 of a control byte
abbrev pub access_bits : Access → ℕ
access_bits Low = 1
access_bits High = 2
access_bits LowThenHigh = 3

abbrev pub is_set_up : Phase → Bool
is_set_up Unset = false
is_set_up Empty = true
is_set_up First = true
is_set_up Again = true
is_set_up Running = true

-- the counter with another phase, standing count, oddness of its load, and OUT
abbrev pub ran : Counter → Phase → ℕ → Bool → Bool → Counter
ran c p n odd out = record { full = c.full; mode = c.mode; access = c.access; phase = p; newest = c.newest; standing = n; odd = odd; out = out; half = c.half; read_high = c.read_high }

-- the counter with another phase, newest whole count, OUT and half-done write
abbrev pub wrote : Counter → Phase → ℕ → Bool → Option ℕ → Counter
wrote c p n out half = record { full = c.full; mode = c.mode; access = c.access; phase = p; newest = n; standing = c.standing; odd = c.odd; out = out; half = half; read_high = c.read_high }

-- OUT as a control byte leaves it: low in mode 0, else high
abbrev pub start_out : Mode → Bool
start_out TerminalCount = false
start_out RateGenerator = true
start_out SquareWave = true

-- a counter as a control byte leaves it
abbrev pub set_up : ℕ → Mode → Access → Counter
set_up full m a = record { full = full; mode = m; access = a; phase = Empty; newest = 0; standing = 0; odd = false; out = start_out m; half = None; read_high = false }

-- a counter at power-on
abbrev pub unset : ℕ → Bool → Counter
unset full out = record { full = full; mode = TerminalCount; access = Low; phase = Unset; newest = 0; standing = 0; odd = false; out = out; half = None; read_high = false }

-- Clocks.

-- where a load starts: mode 3 takes one off an odd count
abbrev pub start : Mode → ℕ → ℕ
start TerminalCount n = n
start RateGenerator n = n
start SquareWave n = n - n % 2

-- the newest whole count is loaded, and nothing is counted
abbrev pub loaded : Counter → Bool → Counter
loaded c out = ran c Running (start c.mode c.newest) (c.newest % 2 == 1) out

-- one less, and from 0 on to the full count less one
abbrev pub less : ℕ → ℕ → ℕ
less full n = cond (n == 0) (full - 1) (n - 1)

-- mode 0: OUT goes high at zero; a half-done write stops the count
abbrev pub terminal : Counter → Option ℕ → Counter
terminal c (Some b) = c
terminal c None = ran c c.phase (less c.full c.standing) c.odd (cond (c.standing == 1) true c.out)

-- mode 2: OUT goes low at 1, and the next clock loads with OUT high
abbrev pub rate : Counter → Counter
rate c = cond (nat_le c.standing 1) (loaded c true) (ran c c.phase (c.standing - 1) c.odd (cond (c.standing == 2) false c.out))

-- mode 3: by two; used up, OUT flips and the newest count is loaded, after one more clock for an odd load with OUT high
abbrev pub square : Counter → Counter
square c =
    cond (nat_lt 2 c.standing) (ran c c.phase (c.standing - 2) c.odd c.out)
    (cond (c.odd && c.out && nat_lt 0 c.standing) (ran c c.phase 0 c.odd c.out) (loaded c (not c.out)))

abbrev pub counted : Mode → Counter → Counter
counted TerminalCount c = terminal c c.half
counted RateGenerator c = rate c
counted SquareWave c = square c

-- a clock with the gate's level: the first load comes whatever the gate
abbrev pub clocked : Phase → Bool → Counter → Counter
clocked Unset g c = c
clocked Empty g c = c
clocked First g c = loaded c c.out
clocked Again true c = loaded c c.out
clocked Again false c = c
clocked Running true c = counted c.mode c
clocked Running false c = c

-- Gate edges.

-- a rise asks for a load in modes 2 and 3, unless the first is still to come
abbrev pub again : Phase → Phase
again Unset = Unset
again Empty = Empty
again First = First
again Again = Again
again Running = Again

abbrev pub risen : Mode → Counter → Counter
risen TerminalCount c = c
risen RateGenerator c = ran c (again c.phase) c.standing c.odd c.out
risen SquareWave c = ran c (again c.phase) c.standing c.odd c.out

-- a fall puts OUT high in modes 2 and 3
abbrev pub fallen : Mode → Counter → Counter
fallen TerminalCount c = c
fallen RateGenerator c = ran c c.phase c.standing c.odd true
fallen SquareWave c = ran c c.phase c.standing c.odd true

-- Count bytes.

-- the count that a byte makes whole, if it does
abbrev pub whole : Access → Option ℕ → ℕ → Option ℕ
whole Low half b = Some b
whole High half b = Some (256 * b)
whole LowThenHigh None b = None
whole LowThenHigh (Some l) b = Some (l + 256 * b)

-- a whole count of 1 is refused in modes 2 and 3
abbrev pub falls_short : Mode → ℕ → Bool
falls_short TerminalCount n = false
falls_short RateGenerator n = n == 1
falls_short SquareWave n = n == 1

-- a written 0 means the full count
abbrev pub written : ℕ → ℕ → ℕ
written full n = cond (n == 0) full n

-- the clock after a whole count loads it; in modes 2 and 3 after the first
abbrev pub first : Phase → Phase
first Unset = Unset
first Empty = First
first First = First
first Again = Again
first Running = Running

abbrev pub after_whole : Mode → Phase → Phase
after_whole TerminalCount p = First
after_whole RateGenerator p = first p
after_whole SquareWave p = first p

-- in mode 0 a count byte puts OUT low
abbrev pub out_at_byte : Mode → Bool → Bool
out_at_byte TerminalCount out = false
out_at_byte RateGenerator out = out
out_at_byte SquareWave out = out

abbrev pub taken : Counter → ℕ → Option ℕ → Counter
taken c b None = wrote c c.phase c.newest (out_at_byte c.mode c.out) (Some b)
taken c b (Some n) =
    cond (falls_short c.mode n) c
    (wrote c (after_whole c.mode c.phase) (written c.full n) (out_at_byte c.mode c.out) None)

abbrev pub took : Counter → Option ℕ → Result (Unit {0}) Refusal
took c None = Ok tt
took c (Some n) = cond (falls_short c.mode n) (Err CountOfOne) (Ok tt)

-- The counter after an event, and what the event is answered. Before set-up nothing changes and a byte is refused.
abbrev pub stepped : Counter → Event → Counter
stepped c (Clock g) = clocked c.phase g c
stepped c GateRise = cond (is_set_up c.phase) (risen c.mode c) c
stepped c GateFall = cond (is_set_up c.phase) (fallen c.mode c) c
stepped c (Byte b) = cond (is_set_up c.phase) (taken c b (whole c.access c.half b)) c

abbrev pub answered : Counter → Event → Result (Unit {0}) Refusal
answered c (Clock g) = Ok tt
answered c GateRise = Ok tt
answered c GateFall = Ok tt
answered c (Byte b) = cond (is_set_up c.phase) (took c (whole c.access c.half b)) (Err WrongWay)

-- Reads of the standing count, a full one as 0.

-- whether the high byte is read, and whether it is next time
abbrev pub reads_high : Access → Bool → Bool
reads_high Low high = false
reads_high High high = true
reads_high LowThenHigh high = high

abbrev pub turned : Access → Bool → Bool
turned Low high = high
turned High high = high
turned LowThenHigh high = not high

abbrev pub read_answer : Counter → Result ℕ Refusal
read_answer c = cond (is_set_up c.phase) (Ok (cond (reads_high c.access c.read_high) (c.standing / 256 % 256) (c.standing % 256))) (Err WrongWay)

abbrev pub after_read : Counter → Counter
after_read c = cond (is_set_up c.phase) (record { full = c.full; mode = c.mode; access = c.access; phase = c.phase; newest = c.newest; standing = c.standing; odd = c.odd; out = c.out; half = c.half; read_high = turned c.access c.read_high }) c

-- A look at a counter: nothing before its control byte.
abbrev pub setting : Counter → Option Setting
setting c = cond (is_set_up c.phase) (Some (record { mode = c.mode; access = c.access; standing = c.standing })) None
