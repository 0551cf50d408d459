-- Worked cases, from power-on, by the rules together.
use Rattle.std.specs.Prelude.{◌≡◌, ℕ, zero, suc, Bool, true, false, List, [], ◌∷◌, Ok, Err}
use Rattle.fault.specs.declared.Refusal.TheVariants.{CountOfOne}
use Rattle.timer.specs.declared.timers.Timers.{Timers}
use Rattle.timer.specs.declared.timers.CountPort.TheVariants.{System, Watchdog}
use Rattle.timer.specs.Timing.{at_power_on, ticked, out3_rises, acknowledged, controlled, watchdog_controlled, count_written, write_answer}

abbrev pub ticks : ℕ → Timers → Timers
ticks zero t = t
ticks (suc n) t = ticks n (ticked t)

-- OUT 0 after each of n ticks
abbrev pub outs : ℕ → Timers → List Bool
outs zero t = []
outs (suc n) t = (ticked t).system.out ∷ outs n (ticked t)

-- whether OUT 3 rises at each of n ticks
abbrev pub alarms : ℕ → Timers → List Bool
alarms zero t = []
alarms (suc n) t = out3_rises t (ticked t) ∷ alarms n (ticked t)

-- counter 0 under a control byte and a count, low byte first
abbrev pub system_set : ℕ → ℕ → Timers
system_set control low = count_written (count_written (controlled at_power_on control) System low) System 0

-- 34 with 3: OUT 0 falls on tick 3, rises on 4 and 7
abbrev pub RateCase : Type 0
RateCase = outs 7 (system_set 0x34 3) ≡ true ∷ true ∷ false ∷ true ∷ true ∷ false ∷ true ∷ []

-- 36 with 3: low on tick 3, high on 4
abbrev pub SquareCase : Type 0
SquareCase = outs 4 (system_set 0x36 3) ≡ true ∷ true ∷ false ∷ true ∷ []

-- 30 with 2: rises on tick 3
abbrev pub TerminalCase : Type 0
TerminalCase = outs 3 (system_set 0x30 2) ≡ false ∷ false ∷ true ∷ []

-- counter 0 in mode 2 with the low byte of its count written
abbrev pub half_written : ℕ → Timers
half_written low = count_written (controlled at_power_on 0x34) System low

-- 34 with 1 is refused and the half-done write stays; 34 with 2 is taken
pub record OneCase : Type 0 where
  pub refused : write_answer (half_written 1) System 0 ≡ Err CountOfOne
  pub stays : count_written (half_written 1) System 0 ≡ half_written 1
  pub taken : write_answer (half_written 2) System 0 ≡ Ok tt

-- a watchdog of 2 beside a counter 0 that rises on ticks 3, 5, 7 and 9, the latch clear
abbrev pub watched : Timers
watched = count_written (watchdog_controlled (system_set 0x34 2) 0x10) Watchdog 2

-- rise 3 raises OUT 3; acknowledged after rise 2, rise 4 does
pub record WatchdogCase : Type 0 where
  pub third : alarms 7 watched ≡ false ∷ false ∷ false ∷ false ∷ false ∷ false ∷ true ∷ []
  pub fourth : alarms 4 (acknowledged (ticks 5 watched)) ≡ false ∷ false ∷ false ∷ true ∷ []
