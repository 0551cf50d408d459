-- The watchdog over whole runs: how many unanswered rises of OUT 0 raise OUT 3.
use Rattle.std.specs.Prelude.{◌≡◌, ℕ, suc, Bool, true, false, cond, List, [], ◌∷◌, drop, None, nat_le}
use Rattle.timer.specs.declared.counter.Access.TheVariants.{Low}
use Rattle.timer.specs.declared.counter.Counter.{Counter}
use Rattle.timer.specs.declared.counter.Mode.TheVariants.{TerminalCount}
use Rattle.timer.specs.declared.timers.CountPort.{CountPort}
use Rattle.timer.specs.declared.timers.CountPort.TheVariants.{System as SystemPort, Speaker as SpeakerPort, Watchdog as WatchdogPort}
use Rattle.timer.specs.declared.timers.Timers.{Timers}
use Rattle.timer.specs.Counting.{is_set_up, written}
use Rattle.timer.specs.Timing.{rises, ticked, acknowledged, controlled, count_written, count_read, gated}

-- what may come between: all but a count or a control byte for counter 3
pub data Between : Type 0 where
  tick : Between
  acknowledgement : Between
  control : ℕ → Between
  system_count : ℕ → Between
  speaker_count : ℕ → Between
  count_read_at : CountPort → Between
  gate_put : Bool → Between

abbrev pub performed : Timers → Between → Timers
performed t tick = ticked t
performed t acknowledgement = acknowledged t
performed t (control b) = controlled t b
performed t (system_count b) = count_written t SystemPort b
performed t (speaker_count b) = count_written t SpeakerPort b
performed t (count_read_at p) = count_read t p
performed t (gate_put g) = gated t g

abbrev pub run : Timers → List Between → Timers
run t [] = t
run t (c ∷ cs) = run (performed t c) cs

-- a call after which OUT 0 has risen
abbrev pub rises_at : Timers → Between → Bool
rises_at t c = rises t.system.out (performed t c).system.out

-- for each rise of OUT 0, in order, whether it found the latch set
abbrev pub found : Timers → List Between → List Bool
found t [] = []
found t (c ∷ cs) = cond (rises_at t c) (t.latch ∷ found (performed t c) cs) (found (performed t c) cs)

-- how many found it set, and so were unanswered
abbrev pub unanswered : List Bool → ℕ
unanswered [] = 0
unanswered (true ∷ gs) = suc (unanswered gs)
unanswered (false ∷ gs) = unanswered gs

-- counter 3 as port 0047 sets it up, at any point of its life
pub record Watches (c : Counter) : Type 0 where
  pub full_count : c.full ≡ 256
  pub mode_0 : c.mode ≡ TerminalCount
  pub low_bytes : c.access ≡ Low
  pub no_half : c.half ≡ None
  pub ready : is_set_up c.phase ≡ true

-- After a count n the first rise loads it; OUT 3 is high exactly from the rise on that is the n-th unanswered one after that.
abbrev pub WatchdogLaw : Type 0
WatchdogLaw =
    (t : Timers) (n : ℕ) (cs : List Between) → Watches t.watchdog
    → (run (count_written t WatchdogPort n) cs).watchdog.out
    ≡ nat_le (written 256 n) (unanswered (drop 1 (found (count_written t WatchdogPort n) cs)))
