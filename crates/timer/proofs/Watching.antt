-- The watchdog's law: counter 3 sees only the rises of OUT 0, each with the latch that it found.
use Rattle.std.proofs.Common.{◌≡◌, ℕ, ◌-◌, ◌%◌, ◌<◌, Bool, true, false, cond, eqb, leb, List, [], ◌∷◌, drop, Some, None, Option, refl, ap, ◌∙◌, arith}
use Rattle.std.proofs.lemmas.Bool.Decides.{nat_tests}
use Rattle.timer.specs.declared.counter.Access.TheVariants.{Low}
use Rattle.timer.specs.declared.counter.Counter.{Counter}
use Rattle.timer.specs.declared.counter.Event.TheVariants.{Clock, Byte}
use Rattle.timer.specs.declared.counter.Mode.{Mode}
use Rattle.timer.specs.declared.counter.Mode.TheVariants.{TerminalCount, RateGenerator, SquareWave}
use Rattle.timer.specs.declared.counter.Phase.{Phase}
use Rattle.timer.specs.declared.counter.Phase.TheVariants.{Unset, Empty, First, Again, Running}
use Rattle.timer.specs.declared.sheet.Control.{Control}
use Rattle.timer.specs.declared.sheet.CounterName.{CounterName}
use Rattle.timer.specs.declared.sheet.CounterName.TheVariants.{System, Speaker}
use Rattle.timer.specs.declared.timers.CountPort.TheVariants.{System as SystemPort, Speaker as SpeakerPort, Watchdog as WatchdogPort}
use Rattle.timer.specs.declared.timers.Timers.{Timers}
use Rattle.timer.specs.Counting.{stepped, written, less, after_read, taken, out_at_byte, terminal, rate, square, counted, clocked}
use Rattle.timer.specs.Sheet.{control_of}
use Rattle.timer.specs.Timing.{rises, followed, controlled_by, set_at, count_written, with_system, with_speaker}
use Rattle.timer.specs.Watchdog.{Between, tick, acknowledgement, control, system_count, speaker_count, count_read_at, gate_put, performed, run, found, unanswered, Watches, WatchdogLaw}

-- counter 3 running or about to load, whatever the rest
abbrev pub dog : Phase → ℕ → ℕ → Bool → Bool → Bool → Counter
dog p newest s odd out high = record { full = 256; mode = TerminalCount; access = Low; phase = p; newest = newest; standing = s; odd = odd; out = out; half = None; read_high = high }

-- clocks with gates
abbrev pub gated_clocks : Counter → List Bool → Counter
gated_clocks c [] = c
gated_clocks c (g ∷ gs) = gated_clocks (stepped c (Clock g)) gs

-- once high, OUT 3 stays high
high : (gs : List Bool) (x k : ℕ) (o h : Bool) → (gated_clocks (dog Running x k o true h) gs).out ≡ true
high [] x k o h = refl
high (false ∷ gs) x k o h = high gs x k o h
high (true ∷ gs) x k o h = grind (arith, nat_tests, high gs x (less 256 k) o h)

-- from a loaded count k
running_law : (gs : List Bool) (x k : ℕ) (o h : Bool) → 0 < k → (gated_clocks (dog Running x k o false h) gs).out ≡ leb k (unanswered gs)
running_law [] x k o h p = grind (arith, nat_tests)
running_law (false ∷ gs) x k o h p = running_law gs x k o h p
running_law (true ∷ gs) x k o h p = grind (arith, nat_tests, high gs x (k - 1) o h, running_law gs x (k - 1) o h)

-- from a count that the first clock loads
pub waiting_law : (gs : List Bool) (n s : ℕ) (o h : Bool) → 0 < n → (gated_clocks (dog First n s o false h) gs).out ≡ leb n (unanswered (drop 1 gs))
waiting_law [] n s o h p = grind (arith, nat_tests)
waiting_law (g ∷ gs) n s o h p = running_law gs n n (eqb (n % 2) 1) h p

-- a counter 3 whose count n the next clock loads
pub record Waits (n : ℕ) (c : Counter) : Type 0 where
  pub standing : ℕ
  pub odd : Bool
  pub high : Bool
  pub is : c ≡ dog First n standing odd false high

pub waits_law : (n : ℕ) (c : Counter) (gs : List Bool) → Waits n c → 0 < n → (gated_clocks c gs).out ≡ leb n (unanswered (drop 1 gs))
waits_law n c gs w p = rw w.is (waiting_law gs n w.standing w.odd w.high p)

-- What each call between does to counter 3.

pub rises_same : (b : Bool) → rises b b ≡ false
rises_same true = refl
rises_same false = refl

followed_watchdog : (was : Bool) (t : Timers) → (followed was t).watchdog ≡ cond (rises was t.system.out) (stepped t.watchdog (Clock t.latch)) t.watchdog
followed_watchdog was t = grind (arith, nat_tests)

pub followed_system : (was : Bool) (t : Timers) → (followed was t).system ≡ t.system
followed_system was t = grind (arith, nat_tests)

-- counter 3 is clocked under the latch where OUT 0 rises from s to t, and stays where it does not
abbrev pub Follows : Timers → Timers → Type 0
Follows s t = t.watchdog ≡ cond (rises s.system.out t.system.out) (stepped s.watchdog (Clock s.latch)) s.watchdog

-- a change of the other counters that is followed
pub by_follow : (s t : Timers) → t.watchdog ≡ s.watchdog → t.latch ≡ s.latch → Follows s (followed s.system.out t)
by_follow s t p q = grind (arith, nat_tests, followed_watchdog, followed_system)

-- a change under which OUT 0 does not rise and counter 3 stays
pub no_rise : (s t : Timers) → rises s.system.out t.system.out ≡ false → t.watchdog ≡ s.watchdog → Follows s t
no_rise s t e p = rw e p

-- a count byte does not raise OUT
at_byte_no_rise : (m : Mode) (o : Bool) → rises o (out_at_byte m o) ≡ false
at_byte_no_rise TerminalCount true = refl
at_byte_no_rise TerminalCount false = refl
at_byte_no_rise RateGenerator o = rises_same o
at_byte_no_rise SquareWave o = rises_same o

taken_no_rise : (c : Counter) (b : ℕ) (w : Option ℕ) → rises c.out (taken c b w).out ≡ false
taken_no_rise c b None = at_byte_no_rise c.mode c.out
taken_no_rise c b (Some n) = grind (arith, nat_tests, rises_same, at_byte_no_rise)

pub byte_no_rise : (c : Counter) (b : ℕ) → rises c.out (stepped c (Byte b)).out ≡ false
byte_no_rise c b = grind (arith, nat_tests, taken_no_rise)

pub read_out : (c : Counter) → (after_read c).out ≡ c.out
read_out c = grind (arith, nat_tests)

-- a counter that is read by low bytes is not changed by reading
pub read_low : (c : Counter) → c.access ≡ Low → after_read c ≡ c
read_low c e = grind (arith, nat_tests)

set_watchdog : (n : CounterName) (t : Timers) (k : Control) → (set_at n t k).watchdog ≡ t.watchdog
set_watchdog System t k = refl
set_watchdog Speaker t k = refl

set_latch : (n : CounterName) (t : Timers) (k : Control) → (set_at n t k).latch ≡ t.latch
set_latch System t k = refl
set_latch Speaker t k = refl

pub control_follows : (t : Timers) (k : Option Control) → Follows t (controlled_by k t)
control_follows t None = no_rise t t (rises_same t.system.out) refl
control_follows t (Some k) = by_follow t (set_at k.counter t k) (set_watchdog k.counter t k) (set_latch k.counter t k)

pub follows : (t : Timers) (c : Between) → t.watchdog.access ≡ Low → Follows t (performed t c)
follows t tick e = by_follow t (with_speaker (with_system t (stepped t.system (Clock true))) (stepped t.speaker (Clock t.gate))) refl refl
follows t acknowledgement e = no_rise t (performed t acknowledgement) (rises_same t.system.out) refl
follows t (control b) e = control_follows t (control_of b)
follows t (system_count b) e = no_rise t (performed t (system_count b)) (byte_no_rise t.system b) refl
follows t (speaker_count b) e = no_rise t (performed t (speaker_count b)) (rises_same t.system.out) refl
follows t (count_read_at SystemPort) e =
    no_rise t (performed t (count_read_at SystemPort)) (ap (rises t.system.out) (read_out t.system) ∙ rises_same t.system.out) refl
follows t (count_read_at SpeakerPort) e = no_rise t (performed t (count_read_at SpeakerPort)) (rises_same t.system.out) refl
follows t (count_read_at WatchdogPort) e = no_rise t (performed t (count_read_at WatchdogPort)) (rises_same t.system.out) (read_low t.watchdog e)
follows t (gate_put g) e = no_rise t (performed t (gate_put g)) (rises_same t.system.out) refl

-- a clock keeps which bytes are read
terminal_access : (c : Counter) (h : Option ℕ) → (terminal c h).access ≡ c.access
terminal_access c (Some b) = refl
terminal_access c None = refl

rate_access : (c : Counter) → (rate c).access ≡ c.access
rate_access c = grind (arith, nat_tests)

square_access : (c : Counter) → (square c).access ≡ c.access
square_access c = grind (arith, nat_tests)

by_mode : (m : Mode) (c : Counter) → (counted m c).access ≡ c.access
by_mode TerminalCount c = terminal_access c c.half
by_mode RateGenerator c = rate_access c
by_mode SquareWave c = square_access c

by_phase : (p : Phase) (c : Counter) (g : Bool) → (clocked p g c).access ≡ c.access
by_phase Unset c g = refl
by_phase Empty c g = refl
by_phase First c g = refl
by_phase Again c true = refl
by_phase Again c false = refl
by_phase Running c true = by_mode c.mode c
by_phase Running c false = refl

pub clock_access : (c : Counter) (g : Bool) → (stepped c (Clock g)).access ≡ c.access
clock_access c g = by_phase c.phase c g

keeps_access : (s t : Timers) → s.watchdog.access ≡ Low → Follows s t → t.watchdog.access ≡ Low
keeps_access s t e f = grind (arith, nat_tests, clock_access)

-- over a run, counter 3 sees the rises alone
sees : (cs : List Between) (t : Timers) → t.watchdog.access ≡ Low → (run t cs).watchdog ≡ gated_clocks t.watchdog (found t cs)
sees [] t e = refl
sees (c ∷ cs) t e = grind (arith, nat_tests, follows t c e, sees cs (performed t c) (keeps_access t (performed t c) e (follows t c e)))

-- a written count waits to be loaded
pub count_waits : (c : Counter) (n : ℕ) → Watches c → stepped c (Byte n) ≡ dog First (written 256 n) c.standing c.odd false c.read_high
count_waits c n w = grind (arith, nat_tests)

positive : (n : ℕ) → 0 < written 256 n
positive n = grind (arith, nat_tests)

pub watchdog_law : WatchdogLaw
watchdog_law t n cs w = grind (arith, nat_tests, count_waits t.watchdog n w, sees cs (count_written t WatchdogPort n), waiting_law, positive n)
