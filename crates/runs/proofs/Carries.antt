-- A grant and its carry.
use Rattle.std.proofs.Common.{◌≡◌, ℕ, ◌+◌, ◌*◌, ◌/◌, ◌%◌, ◌^◌, ◌<◌, Bool, true, false, cond, not, ◌&&◌, eqb, ltb, leb, List, [], ◌∷◌, ◌++◌, map, length, get_or, take, set, Ok, Err, Result, sym, refl, ap, ◌∙◌, subst, append-nil, arith, length-set}
use Rattle.std.proofs.lemmas.List.{take_more_set, get_or-set_same}
use Rattle.std.proofs.lemmas.Bool.{and_from, eqb-true, both_ways, cond-true, cond-false, ltb-true, lt-ltb, le-leb, cond_both}
use Rattle.fault.specs.declared.Fault.{Fault}
use Rattle.fault.specs.declared.Refusal.{Refusal}
use Rattle.fault.specs.declared.Refusal.TheVariants.{JournalFull}
use Rattle.fault.specs.Numbers.{number}
use Rattle.dma.specs.declared.channel.Channel.{Channel}
use Rattle.dma.specs.Channels.{after as onward, memory_address, stepped, with_mask}
use Rattle.dma.specs.Registers.{no_channel, nth_channel}
use Rattle.timer.specs.declared.timers.Timers.{Timers}
use Rattle.journal.specs.declared.Line.{Line}
use Rattle.journal.specs.Layout.{word, listed, suits}
use Rattle.memory.specs.Meaning.{put as put_byte}
use Rattle.rack.specs.Meaning.{Levels, fits, gives, takes}
use Rattle.board.specs.declared.carry.Motion.{Motion}
use Rattle.board.specs.declared.carry.Motion.TheVariants.{ToMemory, ToCard, Verify}
use Rattle.board.specs.declared.carry.Transfer.{Transfer}
use Rattle.board.specs.declared.state.Board.{Board}
use Rattle.board.specs.State.{channel_at}
use Rattle.board.specs.Carry.{wide_mode, motion_of, transfer, checked, fetched, landed, unit_of, memory_moved, rack_moved, line_of, line_kind, counted, told_if, Outcome, these, performed, failing, outcome, carried}
use Rattle.board.specs.Grant.{Granted, winner_of, serving, requested, won_by}
use Rattle.runs.specs.World.{World, world, after_carry, carry_outcome, carried_or_refused}
use Rattle.runs.specs.Law.{words, is_store, post, posted, units, is_given, is_taken, Making, by_carry, making, is_line, of_channel, by_dma}
use Rattle.runs.proofs.Step.{Served, idle, line, advanced, AllListed}
use Rattle.runs.proofs.Sound.{Dog, Sound, sound_kept}
use Rattle.runs.proofs.Tables.{set_small, other_stays}
use Rattle.runs.proofs.Racks.{Fit, fit_first, gave_waiting, gave_taken, gave_fit, took_taken, took_waiting, took_fit, told_waiting, told_taken, told_fit}
use Rattle.runs.proofs.Checks.{winner_low, server_low, passed, card_width, giver_gives, taker_takes}

-- what a change keeps that leaves the timers, and owes lines of these makings
pub record LineStep (w v : World) (owed : List Making) : Type 0 where
  pub put : List Line
  pub fine : AllListed put
  pub journal : words v ≡ words w ++ map word put
  pub bytes : v.memory.byte ≡ post w.memory.byte put
  pub waiting : (l : ℕ) → (w.rack.at l).waiting ≡ units is_given l put ++ (v.rack.at l).waiting
  pub taken : (l : ℕ) → (w.rack.at l).taken ++ units is_taken l put ≡ (v.rack.at l).taken
  pub makes : map making put ≡ owed
  pub silent : (i : ℕ) → (channel_at w.board i).masked ≡ true → of_channel i put ≡ []
  pub served : (i : ℕ) → i < 8 → Served (channel_at w.board i) (channel_at v.board i) (of_channel i put)
  pub timers : v.board.timers ≡ w.board.timers
  pub holds : w.board.arbitration.mask ≡ true → v.board.arbitration.mask ≡ true
  pub halts : w.board.arbitration.mask ≡ true → by_dma put ≡ []
  pub sound : Sound v

-- an outcome of a carry owes a line where its answer is yes
abbrev pub CarryStep : World → Outcome → Type 0
CarryStep w o = LineStep w (after_carry o) (cond (is_line (carried_or_refused o.answer)) (by_carry o.board.arbitration.winner ∷ []) [])

-- no line
pub no_line : (w : World) (b : Board) → Sound w → b.channels ≡ w.board.channels → b.lines ≡ w.board.lines → b.timers ≡ w.board.timers
    → (w.board.arbitration.mask ≡ true → b.arbitration.mask ≡ true) → LineStep w (world b w.memory w.rack w.journal) []
unfolding post units of_channel by_dma AllListed
no_line w b s c l t m =
    record {
      put = [];
      fine = tt;
      journal = ap (λ (n : ℕ). take n w.journal) l ∙ sym (append-nil (words w));
      bytes = refl;
      waiting = λ k. refl;
      taken = λ k. append-nil _;
      makes = refl;
      silent = λ i h. refl;
      served = λ i h. idle refl (ap (λ (cs : List Channel). nth_channel cs i) c);
      timers = t;
      holds = m;
      halts = λ h. refl;
      sound = record { board = sound_kept w.board b c (subst (λ (u : Timers). Dog u.watchdog) (sym t) s.board.dog) s.board; bytes = s.bytes; fit = s.fit };
    }

-- bytes stay bytes
pub put_small : (f : ℕ → ℕ) (a v : ℕ) → ((k : ℕ) → f k < 256) → v < 256 → (k : ℕ) → put_byte f a v k < 256
put_small f a v h hv k = cond_both (eqb k a) v (f k) (λ (t : ℕ). t < 256) (λ e. hv) (λ e. h k)

-- One unit.
module _
    (w : World) (ok : Sound w) (b : Board)
    (same_channels : b.channels ≡ w.board.channels) (same_lines : b.lines ≡ w.board.lines) (same_timers : b.timers ≡ w.board.timers)
    (off : w.board.arbitration.mask ≡ false)
    (n l : ℕ) (n_low : n < 8) (l_low : l < 15) (won : b.arbitration.winner ≡ l)
    (room : w.board.lines < length w.journal)
    (unmasked : (channel_at w.board n).masked ≡ false)
  where
    abbrev c : Channel
    c = channel_at w.board n

    abbrev unit_transfer : Motion → Bool → Bool → Transfer
    unit_transfer k wd la = record { motion = k; channel = n; level = l; wide = wd; last = la; address = memory_address c }

    abbrev moved_unit : Motion → Bool → Bool → ℕ
    moved_unit k wd la = unit_of k w.memory w.rack (unit_transfer k wd la)

    -- the unit fits the width
    fits_fetched : (wd : Bool) (a : ℕ) → fits wd (fetched w.memory wd a) ≡ true
    fits_fetched true a = let x = ok.bytes a in let y = ok.bytes (onward a 1) in lt-ltb (w.memory.byte a + 256 * w.memory.byte (onward a 1)) 65536 (omega arith)
    fits_fetched false a = let x = ok.bytes a in lt-ltb (w.memory.byte a + 0) 256 (omega arith)

    fits_unit : (k : Motion) (wd la : Bool) → (w.rack.at l).wide ≡ wd → fits wd (moved_unit k wd la) ≡ true
    fits_unit ToMemory wd la e = subst (λ (z : Bool). fits z (get_or (w.rack.at l).waiting 0 0) ≡ true) e (fit_first (w.rack.at l).wide (w.rack.at l).waiting (ok.fit l))
    fits_unit ToCard wd la e = fits_fetched wd (memory_address c)
    fits_unit Verify true la e = refl
    fits_unit Verify false la e = refl

    -- its line is one that there is
    limit : (wd : Bool) (u : ℕ) → fits wd u ≡ true → ltb u (cond wd (2 ^ 16) 256) ≡ true
    limit true u e = e
    limit false u e = e

    listed_by : (k : Motion) (wd la : Bool) (u : ℕ) → fits wd u ≡ true → suits (line_kind k) (line_of (unit_transfer k wd la) u) ≡ true → listed (line_of (unit_transfer k wd la) u) ≡ true
    listed_by k wd la u f s =
        and_from (leb n 7) _ (le-leb n 7 (omega arith)) (and_from (ltb (memory_address c) (2 ^ 24)) _ (lt-ltb (memory_address c) (2 ^ 24) (omega arith)) (and_from (ltb u (cond wd (2 ^ 16) 256)) _ (limit wd u f) s))

    listed_line : (k : Motion) (wd la : Bool) → (w.rack.at l).wide ≡ wd → listed (line_of (unit_transfer k wd la) (moved_unit k wd la)) ≡ true
    listed_line ToMemory wd la e = listed_by ToMemory wd la (moved_unit ToMemory wd la) (fits_unit ToMemory wd la e) (le-leb l 14 (omega arith))
    listed_line ToCard wd la e = listed_by ToCard wd la (moved_unit ToCard wd la) (fits_unit ToCard wd la e) (le-leb l 14 (omega arith))
    listed_line Verify wd la e = listed_by Verify wd la 0 (fits_unit Verify wd la e) (and_from (leb l 14) (eqb 0 0) (le-leb l 14 (omega arith)) refl)

    -- bytes
    posts : (k : Motion) (wd la : Bool) (u : ℕ) → (memory_moved k w.memory (unit_transfer k wd la) u).byte ≡ posted w.memory.byte (line_of (unit_transfer k wd la) u)
    posts ToMemory true la u = refl
    posts ToMemory false la u = refl
    posts ToCard wd la u = refl
    posts Verify wd la u = refl

    -- the channels after the unit
    abbrev cs : List Channel
    cs = w.board.channels

    n_in : n < length cs
    n_in = let e : length cs ≡ 8 = ok.board.eight in omega arith

    abbrev table : Bool → Bool → List Channel
    table wd la = cond la (set (set cs n (stepped (nth_channel cs n) wd)) n (with_mask (nth_channel (set cs n (stepped (nth_channel cs n) wd)) n) true)) (set cs n (stepped (nth_channel cs n) wd))

    counted_channels : (k : Motion) (wd la : Bool) → (counted b (unit_transfer k wd la)).channels ≡ table wd la
    counted_channels k wd true = ap (λ (z : List Channel). set (set z n (stepped (nth_channel z n) wd)) n (with_mask (nth_channel (set z n (stepped (nth_channel z n) wd)) n) true)) same_channels
    counted_channels k wd false = ap (λ (z : List Channel). set z n (stepped (nth_channel z n) wd)) same_channels

    counted_timers : (k : Motion) (wd la : Bool) → (counted b (unit_transfer k wd la)).timers ≡ w.board.timers
    counted_timers k wd true = same_timers
    counted_timers k wd false = same_timers

    counted_winner : (k : Motion) (wd la : Bool) → (counted b (unit_transfer k wd la)).arbitration.winner ≡ l
    counted_winner k wd true = won
    counted_winner k wd false = won

    table_length : (wd la : Bool) → length (table wd la) ≡ 8
    table_length wd true = length-set (set cs n (stepped (nth_channel cs n) wd)) n _ ∙ length-set cs n _ ∙ ok.board.eight
    table_length wd false = length-set cs n _ ∙ ok.board.eight

    stepped_small : (d : Channel) (wd : Bool) → (stepped d wd).count < 65536
    stepped_small d wd = omega arith

    one_small : (wd : Bool) (i : ℕ) → (nth_channel (set cs n (stepped (nth_channel cs n) wd)) i).count < 65536
    one_small wd = set_small cs n (stepped (nth_channel cs n) wd) ok.board.counts (stepped_small (nth_channel cs n) wd)

    table_small : (wd la : Bool) (i : ℕ) → (nth_channel (table wd la) i).count < 65536
    table_small wd true = set_small (set cs n (stepped (nth_channel cs n) wd)) n (with_mask (nth_channel (set cs n (stepped (nth_channel cs n) wd)) n) true) (one_small wd) (one_small wd n)
    table_small wd false = one_small wd

    -- the channel itself, and another
    one_here : (wd : Bool) → nth_channel (set cs n (stepped (nth_channel cs n) wd)) n ≡ stepped c wd
    one_here wd = get_or-set_same cs n (stepped (nth_channel cs n) wd) no_channel n_in

    table_here : (wd la : Bool) → wd ≡ wide_mode c.mode → la ≡ eqb c.count 0 → nth_channel (table wd la) n ≡ advanced c
    table_here wd true e q =
        get_or-set_same (set cs n (stepped (nth_channel cs n) wd)) n _ no_channel (subst (λ (z : ℕ). n < z) (sym (length-set cs n (stepped (nth_channel cs n) wd))) n_in)
        ∙ ap (λ (d : Channel). with_mask d true) (one_here wd ∙ ap (stepped c) e)
        ∙ sym (cond-true (eqb c.count 0) _ _ (sym q))
    table_here wd false e q = one_here wd ∙ ap (stepped c) e ∙ sym (cond-false (eqb c.count 0) _ _ (sym q))

    table_other : (wd la : Bool) (i : ℕ) → eqb n i ≡ false → nth_channel (table wd la) i ≡ nth_channel cs i
    table_other wd true i e = other_stays (set cs n (stepped (nth_channel cs n) wd)) n i _ e ∙ other_stays cs n i _ e
    table_other wd false i e = other_stays cs n i _ e

    not_store : (k : Motion) → is_store (line_kind k) ≡ false
    not_store ToMemory = refl
    not_store ToCard = refl
    not_store Verify = refl

    abbrev the_line : Motion → Bool → Bool → Line
    the_line k wd la = line_of (unit_transfer k wd la) (moved_unit k wd la)

    only_line : (k : Motion) (wd la : Bool) (i : ℕ) → of_channel i (the_line k wd la ∷ []) ≡ cond (eqb n i) (the_line k wd la ∷ []) []
    unfolding of_channel
    only_line k wd la i = go (eqb n i) (is_store (line_kind k)) (not_store k)
      where
        go : (t s : Bool) → s ≡ false → cond (t && not s) (the_line k wd la ∷ []) [] ≡ cond t (the_line k wd la ∷ []) []
        go t true e = absurd (both_ways true e refl)
        go true false e = refl
        go false false e = refl

    silent_line : (k : Motion) (wd la : Bool) (i : ℕ) → (channel_at w.board i).masked ≡ true → of_channel i (the_line k wd la ∷ []) ≡ []
    silent_line k wd la i m = only_line k wd la i ∙ go (eqb n i) (eqb-true n i)
      where
        go : (t : Bool) → (t ≡ true → n ≡ i) → cond t (the_line k wd la ∷ []) [] ≡ []
        go true h = absurd (both_ways (channel_at w.board n).masked unmasked (ap (λ (z : ℕ). (channel_at w.board z).masked) (h refl) ∙ m))
        go false h = refl

    served_line : (k : Motion) (wd la : Bool) → wd ≡ wide_mode c.mode → la ≡ eqb c.count 0 → (i : ℕ) → Served (channel_at w.board i) (channel_at (counted b (unit_transfer k wd la)) i) (of_channel i (the_line k wd la ∷ []))
    served_line k wd la e q i =
        subst (λ (z : List Line). Served (channel_at w.board i) (channel_at (counted b (unit_transfer k wd la)) i) z) (sym (only_line k wd la i))
        (subst (λ (z : List Channel). Served (channel_at w.board i) (nth_channel z i) (cond (eqb n i) (the_line k wd la ∷ []) [])) (sym (counted_channels k wd la)) (go (eqb n i) refl))
      where
        go : (t : Bool) → eqb n i ≡ t → Served (channel_at w.board i) (nth_channel (table wd la) i) (cond t (the_line k wd la ∷ []) [])
        go true h =
            subst (λ (z : ℕ). Served (channel_at w.board z) (nth_channel (table wd la) z) (the_line k wd la ∷ [])) (eqb-true n i h)
            (line (the_line k wd la) refl unmasked refl q (table_here wd la e q))
        go false h = idle refl (table_other wd la i h)

    -- units at the levels
    abbrev rack_after : Motion → Bool → Bool → Levels
    rack_after k wd la = told_if la (rack_moved k w.rack (unit_transfer k wd la) (moved_unit k wd la)) l

    waiting_line : (k : Motion) (wd la : Bool) → (k ≡ ToMemory → gives (w.rack.at l) ≡ true) → (k ≡ ToCard → takes (w.rack.at l) (moved_unit k wd la) ≡ true)
        → (i : ℕ) → (w.rack.at i).waiting ≡ units is_given i (the_line k wd la ∷ []) ++ ((rack_after k wd la).at i).waiting
    unfolding units
    waiting_line ToMemory wd la g t i =
        gave_waiting w.rack l i (g refl)
        ∙ ap (λ (z : List ℕ). cond (eqb l i) (moved_unit ToMemory wd la ∷ []) [] ++ z) (sym (told_waiting (rack_moved ToMemory w.rack (unit_transfer ToMemory wd la) (moved_unit ToMemory wd la)) la l i))
    waiting_line ToCard wd la g t i =
        sym (told_waiting (rack_moved ToCard w.rack (unit_transfer ToCard wd la) (moved_unit ToCard wd la)) la l i ∙ took_waiting w.rack l (moved_unit ToCard wd la) i (t refl))
    waiting_line Verify wd la g t i = sym (told_waiting w.rack la l i)

    taken_line : (k : Motion) (wd la : Bool) → (k ≡ ToMemory → gives (w.rack.at l) ≡ true) → (k ≡ ToCard → takes (w.rack.at l) (moved_unit k wd la) ≡ true)
        → (i : ℕ) → (w.rack.at i).taken ++ units is_taken i (the_line k wd la ∷ []) ≡ ((rack_after k wd la).at i).taken
    unfolding units
    taken_line ToMemory wd la g t i = append-nil _ ∙ sym (told_taken (rack_moved ToMemory w.rack (unit_transfer ToMemory wd la) (moved_unit ToMemory wd la)) la l i ∙ gave_taken w.rack l i (g refl))
    taken_line ToCard wd la g t i = took_taken w.rack l (moved_unit ToCard wd la) i (t refl) ∙ sym (told_taken (rack_moved ToCard w.rack (unit_transfer ToCard wd la) (moved_unit ToCard wd la)) la l i)
    taken_line Verify wd la g t i = append-nil _ ∙ sym (told_taken w.rack la l i)

    fit_line : (k : Motion) (wd la : Bool) → (k ≡ ToMemory → gives (w.rack.at l) ≡ true) → (k ≡ ToCard → takes (w.rack.at l) (moved_unit k wd la) ≡ true) → (i : ℕ) → Fit ((rack_after k wd la).at i)
    fit_line ToMemory wd la g t = told_fit (rack_moved ToMemory w.rack (unit_transfer ToMemory wd la) (moved_unit ToMemory wd la)) la l (gave_fit w.rack l (g refl) ok.fit)
    fit_line ToCard wd la g t = told_fit (rack_moved ToCard w.rack (unit_transfer ToCard wd la) (moved_unit ToCard wd la)) la l (took_fit w.rack l (moved_unit ToCard wd la) (t refl) ok.fit)
    fit_line Verify wd la g t = told_fit w.rack la l ok.fit

    -- bytes stay bytes
    landed_small : (wd : Bool) (a u : ℕ) → fits wd u ≡ true → (k : ℕ) → (landed w.memory wd a u).byte k < 256
    landed_small true a u f = let h = ltb-true u 65536 f in put_small (put_byte w.memory.byte a (u % 256)) (onward a 1) (u / 256) (put_small w.memory.byte a (u % 256) ok.bytes (omega arith)) (omega arith)
    landed_small false a u f = put_small w.memory.byte a (u % 256) ok.bytes (omega arith)

    bytes_line : (k : Motion) (wd la : Bool) → (w.rack.at l).wide ≡ wd → (a : ℕ) → (memory_moved k w.memory (unit_transfer k wd la) (moved_unit k wd la)).byte a < 256
    bytes_line ToMemory wd la e = landed_small wd (memory_address c) (moved_unit ToMemory wd la) (fits_unit ToMemory wd la e)
    bytes_line ToCard wd la e = ok.bytes
    bytes_line Verify wd la e = ok.bytes

    one_making : (k : Motion) (wd la : Bool) → making (the_line k wd la) ≡ by_carry l
    one_making ToMemory wd la = refl
    one_making ToCard wd la = refl
    one_making Verify wd la = refl

    move_step : (k : Motion) (wd la : Bool) → (w.rack.at l).wide ≡ wd → wd ≡ wide_mode c.mode → la ≡ eqb c.count 0
        → (k ≡ ToMemory → gives (w.rack.at l) ≡ true) → (k ≡ ToCard → takes (w.rack.at l) (moved_unit k wd la) ≡ true)
        → CarryStep w (performed b w.memory w.rack w.journal (unit_transfer k wd la) (moved_unit k wd la))
    unfolding post AllListed
    move_step k wd la e q z g t =
        record {
          put = the_line k wd la ∷ [];
          fine = (listed_line k wd la e, tt);
          journal = ap (λ (i : ℕ). take (i + 1) (set w.journal i (word (the_line k wd la)))) same_lines ∙ take_more_set w.journal w.board.lines (word (the_line k wd la)) room;
          bytes = posts k wd la (moved_unit k wd la);
          waiting = waiting_line k wd la g t;
          taken = taken_line k wd la g t;
          makes = ap (λ (m : Making). m ∷ []) (one_making k wd la ∙ ap by_carry (sym (counted_winner k wd la)));
          silent = silent_line k wd la;
          served = λ i h. served_line k wd la q z i;
          timers = counted_timers k wd la;
          holds = λ m. absurd (both_ways w.board.arbitration.mask off m);
          halts = λ m. absurd (both_ways w.board.arbitration.mask off m);
          sound = record {
            board = record {
              eight = ap length (counted_channels k wd la) ∙ table_length wd la;
              counts = λ i. subst (λ (y : List Channel). (nth_channel y i).count < 65536) (sym (counted_channels k wd la)) (table_small wd la i);
              dog = subst (λ (u : Timers). Dog u.watchdog) (sym (counted_timers k wd la)) ok.board.dog;
            };
            bytes = bytes_line k wd la e;
            fit = fit_line k wd la g t;
          };
        }

-- the refused checks show at port 0090, but for a full journal
failing_keeps : {A : Type 0} (part : Board → A) (why : Refusal) (b : Board)
    → part (record { channels = b.channels; dma = b.dma; arbitration = record { bit7 = b.arbitration.bit7; mask = true; timeout = true; winner = b.arbitration.winner }; timers = b.timers; port61 = b.port61; lines = b.lines }) ≡ part b
    → part (failing why b) ≡ part b
failing_keeps part why b e = cond_both (eqb (number why) (number JournalFull)) b _ (λ z. part z ≡ part b) (λ _. refl) (λ _. e)

-- the grant's board
abbrev to_processor : World → Granted
to_processor w = record { board = won_by w.board 15; level = 15; channel = 0 }

abbrev winner_board : World → Board
winner_board w = won_by (record { channels = w.board.channels; dma = record { function = w.board.dma.function; pointer = w.board.dma.pointer; status = requested w.board w.rack 8 }; arbitration = w.board.arbitration; timers = w.board.timers; port61 = w.board.port61; lines = w.board.lines }) (winner_of w.board w.rack)

abbrev to_winner : World → Granted
to_winner w = record { board = winner_board w; level = winner_of w.board w.rack; channel = serving w.board (winner_of w.board w.rack) }

moved_step : (w : World) → Sound w → w.board.arbitration.mask ≡ false → eqb (winner_of w.board w.rack) 15 ≡ false → (t : Transfer)
    → checked (winner_board w) w.memory w.rack (length w.journal) (winner_of w.board w.rack) (serving w.board (winner_of w.board w.rack)) ≡ Ok t
    → CarryStep w (performed (winner_board w) w.memory w.rack w.journal t (unit_of t.motion w.memory w.rack t))
moved_step w ok off some t e =
    let l : ℕ = winner_of w.board w.rack in
    let n : ℕ = serving w.board l in
    let p = passed (winner_board w) w.memory w.rack (length w.journal) l n t e in
    let c : Channel = channel_at w.board n in
    let width : (w.rack.at l).wide ≡ wide_mode c.mode = card_width c.mode (w.rack.at l) p.card in
    subst (λ (z : Transfer). CarryStep w (performed (winner_board w) w.memory w.rack w.journal z (unit_of z.motion w.memory w.rack z))) (sym p.is)
    (move_step w ok (winner_board w) refl refl refl off n l (server_low w.board w.rack some) (winner_low w.board w.rack some) refl p.room p.unmasked
    (motion_of c.mode) (wide_mode c.mode) (eqb c.count 0) width refl refl
    (giver_gives c.mode (w.rack.at l) p.card)
    (λ k. taker_takes c.mode (w.rack.at l) _ p.card k
    (subst (λ (z : Bool). fits z (unit_of (motion_of c.mode) w.memory w.rack (transfer c l n)) ≡ true) (sym width)
    (fits_unit w ok (winner_board w) refl refl refl off n l (server_low w.board w.rack some) (winner_low w.board w.rack some) refl p.room p.unmasked (motion_of c.mode) (wide_mode c.mode) (eqb c.count 0) width))))

pub carry_step : (w : World) → Sound w → CarryStep w (carry_outcome w)
carry_step w ok = by_mask w.board.arbitration.mask refl
  where
    by_check : (o : Result Transfer Fault) → w.board.arbitration.mask ≡ false → eqb (winner_of w.board w.rack) 15 ≡ false
        → checked (winner_board w) w.memory w.rack (length w.journal) (winner_of w.board w.rack) (serving w.board (winner_of w.board w.rack)) ≡ o
        → CarryStep w (outcome o (winner_board w) w.memory w.rack w.journal)
    by_check (Ok t) off some e = moved_step w ok off some t e
    by_check (Err f) off some e =
        no_line w (failing f.refusal (winner_board w)) ok (failing_keeps (λ b. b.channels) f.refusal (winner_board w) refl) (failing_keeps (λ b. b.lines) f.refusal (winner_board w) refl) (failing_keeps (λ b. b.timers) f.refusal (winner_board w) refl)
        (λ m. absurd (both_ways w.board.arbitration.mask off m))

    by_winner : (t : Bool) → w.board.arbitration.mask ≡ false → eqb (winner_of w.board w.rack) 15 ≡ t
        → CarryStep w (cond t (these (winner_board w) w.memory w.rack w.journal (Ok false))
        (outcome (checked (winner_board w) w.memory w.rack (length w.journal) (winner_of w.board w.rack) (serving w.board (winner_of w.board w.rack))) (winner_board w) w.memory w.rack w.journal))
    by_winner true off e = no_line w (winner_board w) ok refl refl refl (λ m. m)
    by_winner false off e = by_check _ off e refl

    by_mask : (t : Bool) → w.board.arbitration.mask ≡ t
        → CarryStep w (carried (cond t (to_processor w) (to_winner w)).board w.memory w.rack w.journal (cond t (to_processor w) (to_winner w)).level (cond t (to_processor w) (to_winner w)).channel)
    by_mask true e = no_line w (won_by w.board 15) ok refl refl refl (λ m. m)
    by_mask false e = by_winner (eqb (winner_of w.board w.rack) 15) e refl
