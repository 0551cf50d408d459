-- Each call keeps the laws of a step, and what the worlds of a run keep.
use Rattle.std.proofs.Common.{◌≡◌, ℕ, zero, suc, ◌%◌, ◌^◌, ◌<◌, Bool, true, false, cond, ◌&&◌, eqb, ltb, leb, List, [], ◌∷◌, ◌++◌, length, take, Ok, Err, Result, sym, refl, ap, ◌∙◌, append-nil, arith}
use mathlib.Core.Bool.{and-false}
use Rattle.std.proofs.lemmas.List.{take_more_set}
use Rattle.std.proofs.lemmas.Bool.{and_from, both_ways, cond-false, leb-false, lt-ltb, cond_both}
use Rattle.fault.specs.declared.Fault.{Fault}
use Rattle.fault.specs.declared.Refusal.TheVariants.{TooLarge, JournalFull, ArrivalNotTaken}
use Rattle.fault.specs.Numbers.{own}
use Rattle.timer.specs.declared.timers.Timers.{Timers}
use Rattle.timer.specs.declared.counter.Event.TheVariants.{Clock}
use Rattle.timer.specs.Counting.{written as count_meant, stepped as counter_stepped}
use Rattle.timer.specs.Timing.{rises}
use Rattle.timer.proofs.Watching.{no_rise, rises_same, Waits}
use Rattle.journal.specs.Layout.{word}
use Rattle.journal.specs.Room.{full}
use Rattle.memory.specs.Meaning.{Answer, Contents, put as put_byte, from_memory}
use Rattle.rack.specs.Meaning.{Levels, arrival, arrives, arrive_answer, arrived, joined, with_level}
use Rattle.board.specs.declared.state.Board.{Board}
use Rattle.dma.specs.Registers.{nth_channel}
use Rattle.board.specs.State.{started, first_channels, was_reset}
use Rattle.board.specs.Ports.{port_of}
use Rattle.board.specs.Calls.{arrival_answer, arrival_after, store_line, Stored, these_stored, store_by}
use Rattle.runs.specs.declared.Call.{Call}
use Rattle.runs.specs.declared.Call.TheVariants.{ReadPort, WritePort, Tick, Acknowledge, Arrive, Load, Store, Reset, Grant}
use Rattle.runs.specs.declared.Reply.TheVariants.{Done}
use Rattle.runs.specs.World.{World, opening, on_board, after_store, store_outcome, after, answer, done_or_refused, run}
use Rattle.runs.specs.Law.{words, is_done, post, units, brought, by_store, owed_by, of_channel, touches, out_0, rise, restarts, lifts, by_dma, Lawful, RunLaw}
use Rattle.runs.proofs.Step.{Step, idle, AllListed}
use Rattle.runs.proofs.Sound.{SoundBoard, Sound, sound_kept}
use Rattle.runs.proofs.Racks.{Fit, arrived_waiting, arrived_taken, arrived_fit}
use Rattle.runs.proofs.Ports.{BoardStep, same_step, written_step, read_step, tick_step, acknowledge_step, armed_waits}
use Rattle.runs.proofs.Checks.{not_full}
use Rattle.runs.proofs.Carries.{LineStep, no_line, carry_step, put_small}
use Rattle.runs.proofs.Runs.{run_law}

-- a call keeps the laws of a step, and what the worlds of a run keep
record Kept (w : World) (c : Call) (v : World) : Type 0 where
  step : Step w c v
  sound : Sound v

-- A call that works on the board alone and puts down no line.
board_call : (w : World) (c : Call) (b : Board) (named : ℕ → Bool) (reached cleared : Bool) → Sound w → BoardStep named reached cleared w.board b
    → ((i : ℕ) → touches i w c ≡ named i) → restarts w c ≡ reached → lifts w c ≡ cleared → ((l : ℕ) → brought w c l ≡ []) → [] ≡ owed_by w c
    → (restarts w c ≡ false → rise w c ≡ rises (out_0 w) b.timers.system.out) → Kept w c (on_board w b)
unfolding post units of_channel by_dma AllListed
board_call w c b named reached cleared ok s t r k g o q =
    record {
      step = record {
        put = [];
        fine = tt;
        journal = ap (λ (n : ℕ). take n w.journal) s.lines_kept ∙ sym (append-nil (words w));
        bytes = refl;
        waiting = λ l. ap (λ (z : List ℕ). (w.rack.at l).waiting ++ z) (g l) ∙ append-nil _;
        taken = λ l. append-nil _;
        makes = o;
        silent = λ i m. refl;
        served = λ i h e. idle refl (s.stays i (sym (t i) ∙ e));
        clock = λ e. s.clock (sym r ∙ e) ∙ ap (λ (z : Bool). cond z (counter_stepped w.board.timers.watchdog (Clock w.board.timers.latch)) w.board.timers.watchdog) (sym (q e));
        fires = λ e. s.fires (sym r ∙ e);
        holds = λ m e. s.holds m (sym k ∙ e);
        halts = λ m. refl;
      };
      sound = record { board = s.sound; bytes = ok.bytes; fit = ok.fit };
    }

-- the timers and the mask where neither changed
clock_kept : (w v : World) → v.board.timers ≡ w.board.timers
    → v.board.timers.watchdog ≡ cond (rises (out_0 w) (out_0 v)) (counter_stepped w.board.timers.watchdog (Clock w.board.timers.latch)) w.board.timers.watchdog
clock_kept w v t = no_rise w.board.timers v.board.timers (ap (λ (u : Timers). rises (out_0 w) u.system.out) t ∙ rises_same (out_0 w)) (ap (λ (u : Timers). u.watchdog) t)

fires_kept : (w v : World) (m : Bool) → v.board.timers ≡ w.board.timers → w.board.timers.watchdog.out ≡ false → v.board.timers.watchdog.out ≡ true → m ≡ true
fires_kept w v m t low high = absurd (both_ways w.board.timers.watchdog.out low (sym (ap (λ (u : Timers). u.watchdog.out) t) ∙ high))

-- A call that leaves the timers, brings no unit and is no reset, by what it does with lines.
line_call : (w : World) (c : Call) (v : World) → LineStep w v (owed_by w c) → ((l : ℕ) → brought w c l ≡ []) → rise w c ≡ rises (out_0 w) (out_0 v) → Kept w c v
line_call w c v s g q =
    record {
      step = record {
        put = s.put;
        fine = s.fine;
        journal = s.journal;
        bytes = s.bytes;
        waiting = λ l. ap (λ (z : List ℕ). (w.rack.at l).waiting ++ z) (g l) ∙ append-nil _ ∙ s.waiting l;
        taken = s.taken;
        makes = s.makes;
        silent = s.silent;
        served = λ i h e. s.served i h;
        clock = λ e. clock_kept w v s.timers ∙ ap (λ (z : Bool). cond z (counter_stepped w.board.timers.watchdog (Clock w.board.timers.latch)) w.board.timers.watchdog) (sym q);
        fires = λ e. fires_kept w v _ s.timers;
        holds = λ m e. s.holds m;
        halts = s.halts;
      };
      sound = s.sound;
    }

-- Stores.

-- what an outcome of a store keeps: the lines owed are its own
abbrev StoreStep : World → ℕ → ℕ → Stored → Type 0
StoreStep w a v o = LineStep w (after_store w o) (cond (is_done (done_or_refused o.answer)) (by_store a (v % 256) ∷ []) [])

stored_line : (w : World) (a v : ℕ) → Sound w → a < 16777216 → w.board.lines < length w.journal
    → StoreStep w a v (store_by (Ok tt) w.board w.memory w.journal a (v % 256))
unfolding post units of_channel by_dma AllListed
stored_line w a v ok low room =
    record {
      put = store_line a (v % 256) ∷ [];
      fine = (and_from true _ refl (and_from (ltb a (2 ^ 24)) _ (lt-ltb a (2 ^ 24) low) (and_from (ltb (v % 256) 256) true (lt-ltb (v % 256) 256 (omega arith)) refl)), tt);
      journal = take_more_set w.journal w.board.lines (word (store_line a (v % 256))) room;
      bytes = let e : v % 256 ≡ v % 256 % 256 = omega arith in ap (put_byte w.memory.byte a) e;
      waiting = λ l. refl;
      taken = λ l. append-nil _;
      makes = refl;
      silent = λ i m. no_channel i;
      served = λ i h. idle (no_channel i) refl;
      timers = refl;
      holds = λ m. m;
      halts = λ m. refl;
      sound = record { board = sound_kept w.board _ refl ok.board.dog ok.board; bytes = put_small w.memory.byte a (v % 256) ok.bytes (omega arith); fit = ok.fit };
    }
  where
    no_channel : (i : ℕ) → cond (eqb 0 i && false) (store_line a (v % 256) ∷ []) [] ≡ []
    no_channel i = cond-false (eqb 0 i && false) _ _ (and-false (eqb 0 i))

store_step : (w : World) (a v : ℕ) → Sound w → StoreStep w a v (store_outcome w a v)
store_step w a v ok =
    cond_both (leb 16777216 a) _ _ (StoreStep w a v) (λ e. refused (own TooLarge a))
    (λ e. cond_both (full w.board.lines (length w.journal)) _ _ (StoreStep w a v) (λ f. refused (own JournalFull a)) (λ f. by_memory (w.memory.writes a) e f))
  where
    refused : (f : Fault) → StoreStep w a v (these_stored w.board w.memory w.journal (Err f))
    refused f = no_line w w.board ok refl refl refl (λ m. m)

    by_memory : (m : Answer) → leb 16777216 a ≡ false → full w.board.lines (length w.journal) ≡ false → StoreStep w a v (store_by m w.board w.memory w.journal a (v % 256))
    by_memory (Ok tt) e f = stored_line w a v ok (leb-false 16777216 a e) (not_full w.board.lines (length w.journal) f)
    by_memory (Err g) e f = refused (from_memory g)

-- Arrivals.
record ArrivalStep (w : World) (l u : ℕ) (a : Result (Unit {0}) Fault) (r : Levels) : Type 0 where
  waiting : (k : ℕ) → (w.rack.at k).waiting ++ cond (eqb k l && is_done (done_or_refused a)) (u ∷ []) [] ≡ (r.at k).waiting
  taken : (k : ℕ) → (r.at k).taken ≡ (w.rack.at k).taken
  fit : (k : ℕ) → Fit (r.at k)

arrival_step : (w : World) (l u : ℕ) → Sound w → ArrivalStep w l u (arrival_answer w.rack l u) (arrival_after w.rack l u)
arrival_step w l u ok = by_level (leb 15 l)
  where
    refused : (f : Fault) → ArrivalStep w l u (Err f) w.rack
    refused f = record { waiting = λ k. arrived_waiting w.rack l u k false; taken = λ k. refl; fit = ok.fit }

    by_rack : (t : Bool) → arrives (w.rack.at l) u ≡ t → ArrivalStep w l u (cond t (Ok tt) (Err (own ArrivalNotTaken l))) (cond t (with_level w.rack l (joined (w.rack.at l) u (w.rack.rule l (w.rack.at l) (arrival u)))) w.rack)
    by_rack true e = record { waiting = λ k. arrived_waiting w.rack l u k true; taken = λ k. arrived_taken w.rack l u k true; fit = arrived_fit w.rack l u true e ok.fit }
    by_rack false e = refused (own ArrivalNotTaken l)

    by_level : (t : Bool) → ArrivalStep w l u (cond t (Err (own TooLarge l)) (arrive_answer (w.rack.at l) l u)) (cond t w.rack (arrived w.rack l u))
    by_level true = refused (own TooLarge l)
    by_level false = by_rack (arrives (w.rack.at l) u) refl

arrive_call : (w : World) (l u : ℕ) → Sound w → Kept w (Arrive l u) (after w (Arrive l u))
unfolding after answer touches restarts lifts brought owed_by post units of_channel by_dma AllListed
arrive_call w l u ok =
    let s = arrival_step w l u ok in
    record {
      step = record {
        put = [];
        fine = tt;
        journal = sym (append-nil (words w));
        bytes = refl;
        waiting = s.waiting;
        taken = λ k. append-nil _ ∙ sym (s.taken k);
        makes = refl;
        silent = λ i m. refl;
        served = λ i h e. idle refl refl;
        clock = λ e. clock_kept w w refl;
        fires = λ e. fires_kept w w _ refl;
        holds = λ m e. m;
        halts = λ m. refl;
      };
      sound = record { board = ok.board; bytes = ok.bytes; fit = s.fit };
    }

-- A reset leaves the power-on state.
first_small : (i : ℕ) → (nth_channel first_channels i).count < 65536
first_small zero = omega arith
first_small (suc zero) = omega arith
first_small (suc (suc zero)) = omega arith
first_small (suc (suc (suc zero))) = omega arith
first_small (suc (suc (suc (suc zero)))) = omega arith
first_small (suc (suc (suc (suc (suc zero))))) = omega arith
first_small (suc (suc (suc (suc (suc (suc zero)))))) = omega arith
first_small (suc (suc (suc (suc (suc (suc (suc zero))))))) = omega arith
first_small (suc (suc (suc (suc (suc (suc (suc (suc i)))))))) = omega arith

reset_board : (n : ℕ) → SoundBoard (started n)
reset_board n = record { eight = refl; counts = first_small; dog = record { full_count = refl; mode_0 = refl; low_bytes = refl; no_half = refl } }

reset_step : (b : Board) → BoardStep (λ i. true) true true b (was_reset b)
reset_step b = record { lines_kept = refl; stays = λ i e. cc; clock = λ e. cc; fires = λ e. cc; holds = λ m e. cc; sound = reset_board b.lines }

low_byte : (v : ℕ) → v % 256 < 256
low_byte v = omega arith

call_kept : (w : World) (c : Call) → Sound w → Kept w c (after w c)
unfolding after answer touches restarts lifts brought owed_by
call_kept w (ReadPort p) ok = board_call w (ReadPort p) _ (λ i. false) false false ok (read_step (port_of p) w.board p ok.board) (λ i. refl) refl refl (λ l. refl) refl (λ e. refl)
call_kept w (WritePort p v) ok = board_call w (WritePort p v) _ _ _ _ ok (written_step (port_of p) w.board p (v % 256) (low_byte v) ok.board) (λ i. refl) refl refl (λ l. refl) refl (λ e. refl)
call_kept w Tick ok = board_call w Tick _ (λ i. false) false false ok (tick_step w.board ok.board) (λ i. refl) refl refl (λ l. refl) refl (λ e. refl)
call_kept w Acknowledge ok = board_call w Acknowledge _ (λ i. false) false false ok (acknowledge_step w.board ok.board) (λ i. refl) refl refl (λ l. refl) refl (λ e. refl)
call_kept w (Arrive l u) ok = arrive_call w l u ok
call_kept w (Load a) ok = board_call w (Load a) w.board (λ i. false) false false ok (same_step _ _ _ w.board w.board ok.board refl refl refl (λ m e. m)) (λ i. refl) refl refl (λ l. refl) refl (λ e. refl)
call_kept w (Store a v) ok = line_call w (Store a v) _ (store_step w a v ok) (λ l. refl) refl
call_kept w Reset ok = board_call w Reset _ (λ i. true) true true ok (reset_step w.board) (λ i. refl) refl refl (λ l. refl) refl (λ e. cc)
call_kept w Grant ok = line_call w Grant _ (carry_step w ok) (λ l. refl) refl

armed : (w : World) (n : ℕ) → Sound w → answer w (WritePort 0x44 n) ≡ Ok Done → Waits (count_meant 256 (n % 256)) (after w (WritePort 0x44 n)).board.timers.watchdog
unfolding after answer
armed w n ok e = armed_waits w.board.timers.watchdog (n % 256) 0x44 ok.board.dog (ap is_done e)

-- the law over runs, from an unused board
pub opening_sound : (m : Contents) (r : Levels) (j : List ℕ) → Lawful m r → Sound (opening m r j)
opening_sound m r j h = record { board = reset_board 0; bytes = h.bytes; fit = h.units }

pub law_of_runs : (m : Contents) (r : Levels) (j : List ℕ) (calls : List Call) → Lawful m r → RunLaw (opening m r j) calls (run (opening m r j) calls)
law_of_runs m r j calls h = run_law Sound (λ w c ok. (call_kept w c ok).step) (λ w c ok. (call_kept w c ok).sound) (λ w ok. ok.board.counts) armed (opening m r j) (opening_sound m r j h) calls
