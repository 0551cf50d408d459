-- What port accesses, ticks and acknowledgements keep of the board.
use Rattle.std.proofs.Common.{◌≡◌, ℕ, ◌<◌, Bool, true, false, cond, not, ◌&&◌, eqb, List, length, Some, None, Ok, Err, Option, sym, refl, ap, ◌∙◌, subst}
use Rattle.std.proofs.lemmas.Bool.{both_ways}
use Rattle.fault.specs.declared.Refusal.TheVariants.{CountOfOne, WrongWay, NotListed}
use Rattle.dma.specs.declared.channel.Channel.{Channel}
use Rattle.dma.specs.declared.command.Direction.TheVariants.{Function as FunctionByte, Write}
use Rattle.dma.specs.Channels.{has}
use Rattle.dma.specs.Commands.{decided}
use Rattle.dma.specs.Registers.{nth_channel, WriteOutcome}
use Rattle.timer.specs.declared.counter.Access.TheVariants.{Low}
use Rattle.timer.specs.declared.counter.Counter.{Counter}
use Rattle.timer.specs.declared.counter.Event.TheVariants.{Clock, Byte}
use Rattle.timer.specs.declared.counter.Mode.TheVariants.{TerminalCount}
use Rattle.timer.specs.declared.counter.Phase.{Phase}
use Rattle.timer.specs.declared.counter.Phase.TheVariants.{Unset, Empty, First, Again, Running}
use Rattle.timer.specs.declared.timers.CountPort.TheVariants.{System, Speaker, Watchdog}
use Rattle.timer.specs.declared.timers.Timers.{Timers}
use Rattle.timer.specs.Counting.{stepped, answered, is_set_up, taken, took, whole, falls_short, written, wrote, after_whole, out_at_byte, set_up}
use Rattle.timer.specs.Timing.{rises, out3_rises, gated, with_watchdog}
use Rattle.timer.specs.Watchdog.{tick, control, system_count, speaker_count, count_read_at, acknowledgement}
use Rattle.timer.proofs.Watching.{Follows, follows, no_rise, rises_same, read_out, dog, Waits, count_waits}
use Rattle.board.specs.declared.ports.Port.{Port}
use Rattle.board.specs.declared.ports.Port.TheVariants.{Function, Data, Count, Control, WatchdogControl, SystemControlB, Arbiter, SystemControlA}
use Rattle.board.specs.declared.state.Board.{Board}
use Rattle.board.specs.State.{channel_at}
use Rattle.board.specs.Ports.{at_port, masked_if, answered_if, write_by, read_by, tick_after, acknowledge_after}
use Rattle.runs.specs.World.{done_or_refused}
use Rattle.runs.specs.Law.{is_done, names, reaches_watchdog, clears_mask}
use Rattle.runs.proofs.Sound.{Dog, SoundBoard, sound_kept}
use Rattle.runs.proofs.Tables.{accepted, TableKept, function_kept, data_kept}

-- What a change of the board alone keeps, up to what is said of the call: the channels it names, whether it reaches
-- counter 3, whether it clears the mask.
pub record BoardStep (named : ℕ → Bool) (reached cleared : Bool) (b b' : Board) : Type 0 where
  pub lines_kept : b'.lines ≡ b.lines
  pub stays : (i : ℕ) → named i ≡ false → channel_at b' i ≡ channel_at b i
  pub clock : reached ≡ false → Follows b.timers b'.timers
  pub fires : reached ≡ false → b.timers.watchdog.out ≡ false → b'.timers.watchdog.out ≡ true → b'.arbitration.mask ≡ true
  pub holds : b.arbitration.mask ≡ true → cleared ≡ false → b'.arbitration.mask ≡ true
  pub sound : SoundBoard b'

never_fires : (o o' m : Bool) → o' ≡ o → o ≡ false → o' ≡ true → m ≡ true
never_fires o o' m e p q = absurd (both_ways o p (sym e ∙ q))

abbrev nth : List Channel → ℕ → Channel
nth cs i = nth_channel cs i

rising : (o o' m : Bool) → o ≡ false → o' ≡ true → cond (rises o o') true m ≡ true
rising o o' m p q = rw (p, q)

stays_set : (r m : Bool) → m ≡ true → cond r true m ≡ true
stays_set true m e = refl
stays_set false m e = e

-- a counter of counter 3's make, field by field
as_made : (c : Counter) → Dog c → c ≡ dog c.phase c.newest c.standing c.odd c.out c.read_high
as_made c d =
    λ i. record { full = d.full_count i; mode = d.mode_0 i; access = d.low_bytes i; phase = c.phase; newest = c.newest; standing = c.standing; odd = c.odd; out = c.out; half = d.no_half i; read_high = c.read_high }

-- counter 3 keeps its make over clocks
clock_dog : (c : Counter) (g : Bool) → Dog c → Dog (stepped c (Clock g))
clock_dog c g d =
    subst (λ (z : Counter). Dog (stepped z (Clock g))) (sym (as_made c d)) (by_phase c.phase g)
  where
    by_phase : (p : Phase) (g : Bool) → Dog (stepped (dog p c.newest c.standing c.odd c.out c.read_high) (Clock g))
    by_phase Unset g = record { full_count = refl; mode_0 = refl; low_bytes = refl; no_half = refl }
    by_phase Empty g = record { full_count = refl; mode_0 = refl; low_bytes = refl; no_half = refl }
    by_phase First g = record { full_count = refl; mode_0 = refl; low_bytes = refl; no_half = refl }
    by_phase Again true = record { full_count = refl; mode_0 = refl; low_bytes = refl; no_half = refl }
    by_phase Again false = record { full_count = refl; mode_0 = refl; low_bytes = refl; no_half = refl }
    by_phase Running true = record { full_count = refl; mode_0 = refl; low_bytes = refl; no_half = refl }
    by_phase Running false = record { full_count = refl; mode_0 = refl; low_bytes = refl; no_half = refl }

dog_follows : (s t : Timers) → Follows s t → Dog s.watchdog → Dog t.watchdog
dog_follows s t f d = subst Dog (sym f) (go (rises s.system.out t.system.out))
  where
    go : (r : Bool) → Dog (cond r (stepped s.watchdog (Clock s.latch)) s.watchdog)
    go true = clock_dog s.watchdog s.latch d
    go false = d

-- nothing changed but what the dma, the arbitration's other fields or the line count say
pub same_step : (named : ℕ → Bool) (reached cleared : Bool) (b b' : Board) → SoundBoard b → b'.lines ≡ b.lines → b'.channels ≡ b.channels → b'.timers ≡ b.timers
    → (b.arbitration.mask ≡ true → cleared ≡ false → b'.arbitration.mask ≡ true) → BoardStep named reached cleared b b'
same_step named reached cleared b b' s l c t m =
    record {
      lines_kept = l;
      stays = λ i e. ap (λ (cs : List Channel). nth cs i) c;
      clock = λ r. no_rise b.timers b'.timers (ap (λ (u : Timers). rises b.timers.system.out u.system.out) t ∙ rises_same b.timers.system.out) (ap (λ (u : Timers). u.watchdog) t);
      fires = λ r. never_fires _ _ _ (ap (λ (u : Timers). u.watchdog.out) t);
      holds = m;
      sound = sound_kept b b' c (subst Dog (sym (ap (λ (u : Timers). u.watchdog) t)) s.dog) s;
    }

-- the table of channels changed, and the timers did not
table_step : (named : ℕ → Bool) (o : WriteOutcome) (b b' : Board) (p : ℕ) → SoundBoard b → TableKept named o b.channels p
    → b'.lines ≡ b.lines → b'.channels ≡ o.channels → b'.timers ≡ b.timers → b'.arbitration ≡ b.arbitration
    → BoardStep (λ i. named i && accepted o.answer p) false false b b'
table_step named o b b' p s k l c t a =
    record {
      lines_kept = l;
      stays = λ i e. ap (λ (cs : List Channel). nth cs i) c ∙ k.stays i e;
      clock = λ r. no_rise b.timers b'.timers (ap (λ (u : Timers). rises b.timers.system.out u.system.out) t ∙ rises_same b.timers.system.out) (ap (λ (u : Timers). u.watchdog) t);
      fires = λ r. never_fires _ _ _ (ap (λ (u : Timers). u.watchdog.out) t);
      holds = λ m e. ap (λ z. z.mask) a ∙ m;
      sound = record { eight = ap length c ∙ k.same_length ∙ s.eight; counts = λ i. subst (λ (cs : List Channel). (nth cs i).count < 65536) (sym c) (k.small s.counts i); dog = subst Dog (sym (ap (λ (u : Timers). u.watchdog) t)) s.dog };
    }

-- the timers changed by a call that does not reach counter 3 but through OUT 0; a rise of OUT 3 sets the mask
pub timers_step : (named : ℕ → Bool) (reached cleared : Bool) (b b' : Board) → SoundBoard b → b'.lines ≡ b.lines → b'.channels ≡ b.channels
    → Follows b.timers b'.timers → b'.arbitration ≡ masked_if (out3_rises b.timers b'.timers) b.arbitration → BoardStep named reached cleared b b'
timers_step named reached cleared b b' s l c f a =
    record {
      lines_kept = l;
      stays = λ i e. ap (λ (cs : List Channel). nth cs i) c;
      clock = λ r. f;
      fires = λ r low high. ap (λ z. z.mask) a ∙ rising b.timers.watchdog.out b'.timers.watchdog.out b.arbitration.mask low high;
      holds = λ m e. ap (λ z. z.mask) a ∙ stays_set (out3_rises b.timers b'.timers) b.arbitration.mask m;
      sound = sound_kept b b' c (dog_follows b.timers b'.timers f s.dog) s;
    }

-- the mask stays where OUT 3 does
no_mask : (b b' : Board) → b'.timers.watchdog.out ≡ b.timers.watchdog.out → b.arbitration ≡ masked_if (out3_rises b.timers b'.timers) b.arbitration
no_mask b b' e = ap (λ (r : Bool). masked_if r b.arbitration) (sym (ap (rises b.timers.watchdog.out) e ∙ rises_same b.timers.watchdog.out))

-- a refused count byte leaves its counter
took_same : (c : Counter) (v : ℕ) (w : Option ℕ) (p : ℕ) → accepted (took c w) p ≡ false → taken c v w ≡ c
took_same c v None p e = absurd (both_ways true e refl)
took_same c v (Some n) p e = go (falls_short c.mode n) e
  where
    go : (t : Bool) → accepted (cond t (Err CountOfOne) (Ok tt)) p ≡ false
        → cond t c (wrote c (after_whole c.mode c.phase) (written c.full n) (out_at_byte c.mode c.out) None) ≡ c
    go true e = refl
    go false e = absurd (both_ways true e refl)

refused_same : (c : Counter) (v p : ℕ) → accepted (answered c (Byte v)) p ≡ false → stepped c (Byte v) ≡ c
refused_same c v p e = go (is_set_up c.phase) e
  where
    go : (t : Bool) → accepted (cond t (took c (whole c.access c.half v)) (Err WrongWay)) p ≡ false → cond t (taken c v (whole c.access c.half v)) c ≡ c
    go true e = took_same c v (whole c.access c.half v) p e
    go false e = refl

-- counter 3 keeps its make over count bytes
byte_dog : (c : Counter) (v : ℕ) → Dog c → Dog (stepped c (Byte v))
byte_dog c v d =
    subst (λ (z : Counter). Dog (stepped z (Byte v))) (sym (as_made c d)) (by_phase c.phase)
  where
    by_phase : (p : Phase) → Dog (stepped (dog p c.newest c.standing c.odd c.out c.read_high) (Byte v))
    by_phase Unset = record { full_count = refl; mode_0 = refl; low_bytes = refl; no_half = refl }
    by_phase Empty = record { full_count = refl; mode_0 = refl; low_bytes = refl; no_half = refl }
    by_phase First = record { full_count = refl; mode_0 = refl; low_bytes = refl; no_half = refl }
    by_phase Again = record { full_count = refl; mode_0 = refl; low_bytes = refl; no_half = refl }
    by_phase Running = record { full_count = refl; mode_0 = refl; low_bytes = refl; no_half = refl }

-- a call that reaches counter 3: what it keeps where it is refused
watchdog_step : (named : ℕ → Bool) (reached cleared : Bool) (b b' : Board) → SoundBoard b → b'.lines ≡ b.lines → b'.channels ≡ b.channels → b'.arbitration ≡ b.arbitration
    → b'.timers.system ≡ b.timers.system → (reached ≡ false → b'.timers.watchdog ≡ b.timers.watchdog) → Dog b'.timers.watchdog → BoardStep named reached cleared b b'
watchdog_step named reached cleared b b' s l c a y k d =
    record {
      lines_kept = l;
      stays = λ i e. ap (λ (cs : List Channel). nth cs i) c;
      clock = λ r. no_rise b.timers b'.timers (ap (λ (u : Counter). rises b.timers.system.out u.out) y ∙ rises_same b.timers.system.out) (k r);
      fires = λ r. never_fires _ _ _ (ap (λ (u : Counter). u.out) (k r));
      holds = λ m e. ap (λ z. z.mask) a ∙ m;
      sound = sound_kept b b' c d s;
    }

not_back : (t : Bool) → not t ≡ false → t ≡ true
not_back true e = refl
not_back false e = sym e

-- The ports, written.
abbrev Written : Option Port → Board → ℕ → ℕ → Type 0
Written o b p v =
    BoardStep (λ i. names o i b v && is_done (done_or_refused (write_by o b p v).answer)) (reaches_watchdog o && is_done (done_or_refused (write_by o b p v).answer)) (clears_mask o v) b (write_by o b p v).board

control_written : (b : Board) (p v : ℕ) → SoundBoard b → Written (Some WatchdogControl) b p v
control_written b p v s = go (eqb v 0x10)
  where
    go : (t : Bool)
        → BoardStep (λ i. false) (is_done (done_or_refused (at_port (cond t (Ok tt) (Err NotListed)) p))) false b
        (record { channels = b.channels; dma = b.dma; arbitration = b.arbitration; timers = cond t (with_watchdog b.timers (set_up b.timers.watchdog.full TerminalCount Low)) b.timers; port61 = b.port61; lines = b.lines })
    go true = watchdog_step _ _ _ b _ s refl refl refl refl (λ r. absurd (both_ways true r refl)) (record { full_count = s.dog.full_count; mode_0 = refl; low_bytes = refl; no_half = refl })
    go false = same_step _ _ _ b _ s refl refl refl (λ m e. m)

answered_watchdog : (clear : Bool) (t : Timers) → (answered_if clear t).watchdog ≡ t.watchdog
answered_watchdog true t = refl
answered_watchdog false t = refl

answered_system : (clear : Bool) (t : Timers) → (answered_if clear t).system ≡ t.system
answered_system true t = refl
answered_system false t = refl

pub written_step : (o : Option Port) (b : Board) (p v : ℕ) → v < 256 → SoundBoard b → Written o b p v
written_step None b p v h s = same_step _ _ _ b b s refl refl refl (λ m e. m)
written_step (Some Function) b p v h s = table_step _ _ b _ p s (function_kept (decided v FunctionByte b.dma.pointer) b.dma b.channels v p s.counts refl) refl refl refl refl
written_step (Some Data) b p v h s = table_step _ _ b _ p s (data_kept (decided b.dma.function Write b.dma.pointer) b.dma b.channels v p s.counts h) refl refl refl refl
written_step (Some (Count System)) b p v h s = timers_step _ _ _ b _ s refl refl (follows b.timers (system_count v) s.dog.low_bytes) (no_mask b (write_by (Some (Count System)) b p v).board refl)
written_step (Some (Count Speaker)) b p v h s = timers_step _ _ _ b _ s refl refl (follows b.timers (speaker_count v) s.dog.low_bytes) (no_mask b (write_by (Some (Count Speaker)) b p v).board refl)
written_step (Some (Count Watchdog)) b p v h s = watchdog_step _ _ _ b _ s refl refl refl refl (refused_same b.timers.watchdog v p) (byte_dog b.timers.watchdog v s.dog)
written_step (Some Control) b p v h s = timers_step _ _ _ b _ s refl refl (follows b.timers (control v) s.dog.low_bytes) refl
written_step (Some WatchdogControl) b p v h s = control_written b p v s
written_step (Some SystemControlB) b p v h s =
    watchdog_step _ _ _ b _ s refl refl refl (answered_system (has v 128) (gated b.timers (has v 1))) (λ r. answered_watchdog (has v 128) (gated b.timers (has v 1)))
    (subst Dog (sym (answered_watchdog (has v 128) (gated b.timers (has v 1)))) s.dog)
written_step (Some Arbiter) b p v h s = same_step _ _ _ b _ s refl refl refl (λ m e. not_back (has v 64) e)
written_step (Some SystemControlA) b p v h s = same_step _ _ _ b b s refl refl refl (λ m e. m)

-- The ports, read.
pub read_step : (o : Option Port) (b : Board) (p : ℕ) → SoundBoard b → BoardStep (λ i. false) false false b (read_by o b p).board
read_step None b p s = same_step _ _ _ b b s refl refl refl (λ m e. m)
read_step (Some Function) b p s = same_step _ _ _ b b s refl refl refl (λ m e. m)
read_step (Some Data) b p s = same_step _ _ _ b _ s refl refl refl (λ m e. m)
read_step (Some (Count System)) b p s = timers_step _ _ _ b _ s refl refl (follows b.timers (count_read_at System) s.dog.low_bytes) (no_mask b (read_by (Some (Count System)) b p).board refl)
read_step (Some (Count Speaker)) b p s = timers_step _ _ _ b _ s refl refl (follows b.timers (count_read_at Speaker) s.dog.low_bytes) (no_mask b (read_by (Some (Count Speaker)) b p).board refl)
read_step (Some (Count Watchdog)) b p s = timers_step _ _ _ b _ s refl refl (follows b.timers (count_read_at Watchdog) s.dog.low_bytes) (no_mask b (read_by (Some (Count Watchdog)) b p).board (read_out b.timers.watchdog))
read_step (Some Control) b p s = same_step _ _ _ b b s refl refl refl (λ m e. m)
read_step (Some WatchdogControl) b p s = same_step _ _ _ b b s refl refl refl (λ m e. m)
read_step (Some SystemControlB) b p s = same_step _ _ _ b b s refl refl refl (λ m e. m)
read_step (Some Arbiter) b p s = same_step _ _ _ b b s refl refl refl (λ m e. m)
read_step (Some SystemControlA) b p s = same_step _ _ _ b b s refl refl refl (λ m e. m)

-- Ticks and acknowledgements.
pub tick_step : (b : Board) → SoundBoard b → BoardStep (λ i. false) false false b (tick_after b)
tick_step b s = timers_step _ _ _ b _ s refl refl (follows b.timers tick s.dog.low_bytes) refl

pub acknowledge_step : (b : Board) → SoundBoard b → BoardStep (λ i. false) false false b (acknowledge_after b)
acknowledge_step b s = timers_step _ _ _ b _ s refl refl (follows b.timers acknowledgement s.dog.low_bytes) (no_mask b (acknowledge_after b) refl)

-- An accepted count at port 0044 waits to be loaded.
pub armed_waits : (c : Counter) (v p : ℕ) → Dog c → accepted (answered c (Byte v)) p ≡ true → Waits (written 256 v) (stepped c (Byte v))
armed_waits c v p d e =
    record {
      standing = c.standing;
      odd = c.odd;
      high = c.read_high;
      is = count_waits c v (record { full_count = d.full_count; mode_0 = d.mode_0; low_bytes = d.low_bytes; no_half = d.no_half; ready = go (is_set_up c.phase) e });
    }
  where
    go : (t : Bool) → accepted (cond t (took c (whole c.access c.half v)) (Err WrongWay)) p ≡ true → t ≡ true
    go true e = refl
    go false e = e
