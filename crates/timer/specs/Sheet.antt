-- The control bytes of port 0043: bits 7-6 the counter, bits 5-4 its bytes, bits 3-1 the mode, bit 0 zero.
use Rattle.std.specs.Prelude.{ℕ, ◌+◌, ◌*◌, ◌/◌, ◌%◌, Bool, cond, ◌&&◌, ◌||◌, Some, None, Ok, Err, Option, Result, ◌==◌}
use Rattle.fault.specs.declared.Refusal.{Refusal}
use Rattle.fault.specs.declared.Refusal.TheVariants.{NotListed}
use Rattle.timer.specs.declared.counter.Access.{Access}
use Rattle.timer.specs.declared.counter.Access.TheVariants.{Low, High, LowThenHigh}
use Rattle.timer.specs.declared.counter.Mode.{Mode}
use Rattle.timer.specs.declared.counter.Mode.TheVariants.{TerminalCount, RateGenerator, SquareWave}
use Rattle.timer.specs.declared.sheet.Control.{Control}
use Rattle.timer.specs.declared.sheet.CounterName.{CounterName}
use Rattle.timer.specs.declared.sheet.CounterName.TheVariants.{System, Speaker}
use Rattle.timer.specs.Counting.{mode_number, access_bits}

-- the number of each counter that port 0043 sets up
abbrev pub counter_number : CounterName → ℕ
counter_number System = 0
counter_number Speaker = 2

-- the three fields of a byte
abbrev pub counter_field : ℕ → ℕ
counter_field b = b / 64

abbrev pub access_field : ℕ → ℕ
access_field b = b / 16 % 4

abbrev pub mode_field : ℕ → ℕ
mode_field b = b / 2 % 8

-- a field is the number of one of its cases
abbrev pub names_counter : ℕ → Bool
names_counter n = n == counter_number System || n == counter_number Speaker

abbrev pub names_access : ℕ → Bool
names_access n = (n == access_bits Low || n == access_bits High) || n == access_bits LowThenHigh

abbrev pub names_mode : ℕ → Bool
names_mode n = (n == mode_number TerminalCount || n == mode_number RateGenerator) || n == mode_number SquareWave

abbrev pub listed : ℕ → Bool
listed b = b % 2 == 0 && (names_counter (counter_field b) && (names_access (access_field b) && names_mode (mode_field b)))

-- the sheet's number for a byte
abbrev pub entry_of : ℕ → ℕ
entry_of b = cond (listed b) (1 + mode_field b + 8 * access_field b + 32 * counter_field b) 0

-- the case whose number a field is
abbrev pub counter_of : ℕ → CounterName
counter_of n = cond (n == counter_number System) System Speaker

abbrev pub access_of : ℕ → Access
access_of n = cond (n == access_bits Low) Low (cond (n == access_bits High) High LowThenHigh)

abbrev pub mode_of : ℕ → Mode
mode_of n = cond (n == mode_number TerminalCount) TerminalCount (cond (n == mode_number RateGenerator) RateGenerator SquareWave)

-- the case of a number, if it has one
abbrev pub counter_from : ℕ → Result CounterName Refusal
counter_from n = cond (names_counter n) (Ok (counter_of n)) (Err NotListed)

abbrev pub access_from : ℕ → Result Access Refusal
access_from n = cond (names_access n) (Ok (access_of n)) (Err NotListed)

abbrev pub mode_from : ℕ → Result Mode Refusal
mode_from n = cond (names_mode n) (Ok (mode_of n)) (Err NotListed)

-- what a byte asks for, if it is listed
abbrev pub control_of : ℕ → Option Control
control_of b =
    cond (listed b)
    (Some (record { counter = counter_of (counter_field b); access = access_of (access_field b); mode = mode_of (mode_field b) }))
    None
