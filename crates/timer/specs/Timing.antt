-- The three counters together, the latch of interrupt 0 and the gate of counter 2.
use Rattle.std.specs.Prelude.{◌≡◌, ℕ, Bool, true, false, cond, not, ◌&&◌, Some, None, Ok, Err, Option, Result, ◌==◌}
use Rattle.fault.specs.declared.Refusal.{Refusal}
use Rattle.fault.specs.declared.Refusal.TheVariants.{NotListed}
use Rattle.timer.specs.declared.counter.Mode.TheVariants.{TerminalCount}
use Rattle.timer.specs.declared.counter.Access.TheVariants.{Low}
use Rattle.timer.specs.declared.counter.Event.TheVariants.{Clock, GateRise, GateFall, Byte}
use Rattle.timer.specs.declared.counter.Counter.{Counter}
use Rattle.timer.specs.declared.sheet.CounterName.{CounterName}
use Rattle.timer.specs.declared.sheet.CounterName.TheVariants.{System, Speaker}
use Rattle.timer.specs.declared.sheet.Control.{Control}
use Rattle.timer.specs.declared.timers.Timers.{Timers}
use Rattle.timer.specs.declared.timers.CountPort.{CountPort}
use Rattle.timer.specs.declared.timers.CountPort.TheVariants.{System as SystemPort, Speaker as SpeakerPort, Watchdog as WatchdogPort}
use Rattle.timer.specs.Counting.{stepped, answered, unset, set_up, read_answer, after_read}
use Rattle.timer.specs.Sheet.{control_of}

-- at power-on OUT 0 and 2 are high, OUT 3 low, and no counter is set up
abbrev pub at_power_on : Timers
at_power_on = record { system = unset 65536 true; speaker = unset 65536 true; watchdog = unset 256 false; latch = false; gate = false }

abbrev pub with_system : Timers → Counter → Timers
with_system t c = record { system = c; speaker = t.speaker; watchdog = t.watchdog; latch = t.latch; gate = t.gate }

abbrev pub with_speaker : Timers → Counter → Timers
with_speaker t c = record { system = t.system; speaker = c; watchdog = t.watchdog; latch = t.latch; gate = t.gate }

abbrev pub with_watchdog : Timers → Counter → Timers
with_watchdog t c = record { system = t.system; speaker = t.speaker; watchdog = c; latch = t.latch; gate = t.gate }

abbrev pub with_latch : Timers → Bool → Timers
with_latch t b = record { system = t.system; speaker = t.speaker; watchdog = t.watchdog; latch = b; gate = t.gate }

abbrev pub with_gate : Timers → Bool → Timers
with_gate t b = record { system = t.system; speaker = t.speaker; watchdog = t.watchdog; latch = t.latch; gate = b }

-- a signal goes from low to high
abbrev pub rises : Bool → Bool → Bool
rises was is = not was && is

-- a rise of OUT 0 clocks the watchdog, whose gate is the latch, and then sets the latch
abbrev pub followed : Bool → Timers → Timers
followed was t = cond (rises was t.system.out) (with_latch (with_watchdog t (stepped t.watchdog (Clock t.latch))) true) t

-- OUT 3 rises from one state to the other
abbrev pub out3_rises : Timers → Timers → Bool
out3_rises s t = rises s.watchdog.out t.watchdog.out

-- a tick clocks counters 0 and 2
abbrev pub ticked : Timers → Timers
ticked t = followed t.system.out (with_speaker (with_system t (stepped t.system (Clock true))) (stepped t.speaker (Clock t.gate)))

-- from one state to the other counter 3 stays, unless OUT 0 rises, and the counters of OUT 0 and 2 do not touch each other
pub record Apart (s t : Timers) : Type 0 where
  pub watchdog_stays : rises s.system.out t.system.out ≡ false → t.watchdog ≡ s.watchdog
  pub system_alone : t.system ≡ stepped s.system (Clock true)
  pub speaker_alone : t.speaker ≡ stepped s.speaker (Clock s.gate)

abbrev pub acknowledged : Timers → Timers
acknowledged t = with_latch t false

-- the counter behind a count port, and the timers with another in its place
abbrev pub counter_at : Timers → CountPort → Counter
counter_at t SystemPort = t.system
counter_at t SpeakerPort = t.speaker
counter_at t WatchdogPort = t.watchdog

abbrev pub with_counter : Timers → CountPort → Counter → Timers
with_counter t SystemPort c = with_system t c
with_counter t SpeakerPort c = with_speaker t c
with_counter t WatchdogPort c = with_watchdog t c

-- the count port of a counter that port 0043 sets up
abbrev pub port_of : CounterName → CountPort
port_of System = SystemPort
port_of Speaker = SpeakerPort

-- a control byte to port 0043
abbrev pub set_at : CounterName → Timers → Control → Timers
set_at n t k = with_counter t (port_of n) (set_up (counter_at t (port_of n)).full k.mode k.access)

abbrev pub controlled_by : Option Control → Timers → Timers
controlled_by None t = t
controlled_by (Some k) t = followed t.system.out (set_at k.counter t k)

abbrev pub controlled : Timers → ℕ → Timers
controlled t b = controlled_by (control_of b) t

abbrev pub control_answer_by : Option Control → Bool → Result Bool Refusal
control_answer_by None rose = Err NotListed
control_answer_by (Some k) rose = Ok rose

abbrev pub control_answer : Timers → ℕ → Result Bool Refusal
control_answer t b = control_answer_by (control_of b) (out3_rises t (controlled t b))

-- a control byte to port 0047: 10, mode 0 by low bytes
abbrev pub watchdog_controlled : Timers → ℕ → Timers
watchdog_controlled t b = cond (b == 0x10) (with_watchdog t (set_up t.watchdog.full TerminalCount Low)) t

abbrev pub watchdog_answer : ℕ → Result (Unit {0}) Refusal
watchdog_answer b = cond (b == 0x10) (Ok tt) (Err NotListed)

-- count bytes written and read
abbrev pub count_written : Timers → CountPort → ℕ → Timers
count_written t p b = with_counter t p (stepped (counter_at t p) (Byte b))

abbrev pub write_answer : Timers → CountPort → ℕ → Result (Unit {0}) Refusal
write_answer t p b = answered (counter_at t p) (Byte b)

abbrev pub count_read : Timers → CountPort → Timers
count_read t p = with_counter t p (after_read (counter_at t p))

abbrev pub read_from : Timers → CountPort → Result ℕ Refusal
read_from t p = read_answer (counter_at t p)

-- the gate of counter 2, by its edges
abbrev pub edged : Bool → Bool → Counter → Counter
edged true true c = c
edged true false c = stepped c GateFall
edged false true c = stepped c GateRise
edged false false c = c

abbrev pub gated : Timers → Bool → Timers
gated t b = with_gate (with_speaker t (edged t.gate b t.speaker)) b
