-- The law over whole runs, from the laws of one step.
use Rattle.std.proofs.Common.{◌≡◌, ℕ, zero, suc, ◌*◌, ◌%◌, ◌<◌, Bool, true, false, cond, not, ◌&&◌, eqb, leb, List, [], ◌∷◌, ◌++◌, map, length, get_or, drop, Ok, sym, refl, ap, ◌∙◌, subst, append_assoc, append-nil, arith}
use mathlib.Core.List.{nil≢cons}
use Rattle.std.proofs.Math.Seq.{drop-append_seam}
use Rattle.std.proofs.lemmas.List.{map-append}
use Rattle.std.specs.Cmp.{both_ways as same_tests}
use Rattle.std.proofs.lemmas.Bool.{eqb-true, eqb-false, eq-eqb, both_ways, cond-false, cond-true, lt-leb, le-leb}
use Rattle.std.proofs.lemmas.Bool.Decides.{nat_tests}
use Rattle.dma.specs.declared.channel.Channel.{Channel}
use Rattle.dma.specs.Channels.{after as onward, unit_bytes, memory_address, stepped}
use Rattle.timer.specs.declared.counter.Counter.{Counter}
use Rattle.timer.specs.declared.counter.Event.TheVariants.{Clock}
use Rattle.timer.specs.Counting.{stepped as counter_stepped, written}
use Rattle.timer.proofs.Watching.{Waits, gated_clocks, waits_law}
use Rattle.journal.specs.declared.Kind.{Kind}
use Rattle.journal.specs.declared.Kind.TheVariants.{CardToMemory, MemoryToCard, Verify, Store}
use Rattle.journal.specs.declared.Line.{Line}
use Rattle.journal.specs.Layout.{word, listed}
use Rattle.journal.proofs.Codec.{reads_back}
use Rattle.board.specs.State.{channel_at}
use Rattle.board.specs.Carry.{wide_mode}
use Rattle.board.specs.Calls.{store_line}
use Rattle.runs.specs.declared.Call.{Call}
use Rattle.runs.specs.declared.Call.TheVariants.{WritePort}
use Rattle.runs.specs.declared.Reply.TheVariants.{Done}
use Rattle.runs.specs.World.{World, after, answer, run}
use Rattle.runs.specs.Law.{line_in, read_line, words, lines, since, Readable, Never, is_store, post, posted, units, is_given, is_taken, brought, arrivals, making, owed, Posting, of_channel, touches, InSequence, Counts, rise, found, unanswered, restarts, lifts, by_dma, Halted, Stop, RunLaw}
use Rattle.runs.proofs.Step.{Step, Served, idle, line, AllListed}

-- Two lists in a row.

pub run-++ : (w : World) (cs ds : List Call) → run w (cs ++ ds) ≡ run (run w cs) ds
unfolding run
run-++ w [] ds = refl
run-++ w (c ∷ cs) ds = run-++ (after w c) cs ds

post-++ : (f : ℕ → ℕ) (xs ys : List Line) → post f (xs ++ ys) ≡ post (post f xs) ys
unfolding post
post-++ f [] ys = refl
post-++ f (x ∷ xs) ys = post-++ (posted f x) xs ys

-- a filter of two lists in a row
keep-++ : {A : Type 0} (b : Bool) (x : A) (p q r : List A) → p ≡ q ++ r → cond b (x ∷ p) p ≡ cond b (x ∷ q) q ++ r
keep-++ true x p q r e = ap (λ t. x ∷ t) e
keep-++ false x p q r e = e

skip-++ : {A : Type 0} (b : Bool) (x : A) (p q r : List A) → p ≡ q ++ r → cond b p (x ∷ p) ≡ cond b q (x ∷ q) ++ r
skip-++ true x p q r e = e
skip-++ false x p q r e = ap (λ t. x ∷ t) e

units-++ : (of : Kind → Bool) (l : ℕ) (xs ys : List Line) → units of l (xs ++ ys) ≡ units of l xs ++ units of l ys
unfolding units
units-++ of l [] ys = refl
units-++ of l (x ∷ xs) ys = keep-++ (of x.kind && eqb x.level l) x.unit _ _ _ (units-++ of l xs ys)

of_channel-++ : (i : ℕ) (xs ys : List Line) → of_channel i (xs ++ ys) ≡ of_channel i xs ++ of_channel i ys
unfolding of_channel
of_channel-++ i [] ys = refl
of_channel-++ i (x ∷ xs) ys = keep-++ (eqb x.channel i && not (is_store x.kind)) x _ _ _ (of_channel-++ i xs ys)

by_dma-++ : (xs ys : List Line) → by_dma (xs ++ ys) ≡ by_dma xs ++ by_dma ys
unfolding by_dma
by_dma-++ [] ys = refl
by_dma-++ (x ∷ xs) ys = skip-++ (is_store x.kind) x _ _ _ (by_dma-++ xs ys)

-- The words of listed lines read back.

word_back : (x : Line) → listed x ≡ true → line_in (word x) ≡ x
word_back x h = ap read_line (reads_back x h)

words_back : (xs : List Line) → AllListed xs → map line_in (map word xs) ≡ xs
unfolding AllListed
words_back [] h = refl
words_back (x ∷ xs) h = λ i. word_back x h.0 i ∷ words_back xs h.1 i

words_readable : (xs : List Line) → AllListed xs → Readable (map word xs)
unfolding AllListed Readable
words_readable [] h = tt
words_readable (x ∷ xs) h = (reads_back x h.0 ∙ ap Ok (sym (word_back x h.0)), words_readable xs h.1)

all-++ : (xs ys : List Line) → AllListed xs → AllListed ys → AllListed (xs ++ ys)
unfolding AllListed
all-++ [] ys p q = q
all-++ (x ∷ xs) ys p q = (p.0, all-++ xs ys p.1 q)

-- Lines of no DMA are no units of a card.

not_dma : (of : Kind → Bool) (k : Kind) → of Store ≡ false → is_store k ≡ true → of k ≡ false
not_dma of CardToMemory e s = cc
not_dma of MemoryToCard e s = cc
not_dma of Verify e s = cc
not_dma of Store e s = e

keep_none : (of : Kind → Bool) (x : Line) (l : ℕ) (p r : List ℕ) (q : List Line) (b : Bool) → of Store ≡ false → is_store x.kind ≡ b
    → cond b q (x ∷ q) ≡ [] → (q ≡ [] → r ≡ []) → cond (of x.kind && eqb x.level l) p r ≡ []
keep_none of x l p r q true s e n f = let z : of x.kind ≡ false = not_dma of x.kind s e in simp z (f n)
keep_none of x l p r q false s e n f = absurd (nil≢cons (sym n))

no_units : (of : Kind → Bool) (l : ℕ) (xs : List Line) → of Store ≡ false → by_dma xs ≡ [] → units of l xs ≡ []
unfolding units by_dma
no_units of l [] s e = refl
no_units of l (x ∷ xs) s e = keep_none of x l _ _ (by_dma xs) (is_store x.kind) s refl e (no_units of l xs s)

-- Sequences of a channel's lines.

onward_more : (a k : ℕ) (w : Bool) → onward (onward a (unit_bytes w)) (k * unit_bytes w) ≡ onward a (suc k * unit_bytes w)
onward_more a k true = omega arith
onward_more a k false = omega arith

onward_none : (a : ℕ) (w : Bool) → a % 16777216 ≡ onward a (0 * unit_bytes w)
onward_none a true = omega arith
onward_none a false = omega arith

eqb_alike : (a b c d : ℕ) → (a ≡ b → c ≡ d) → (c ≡ d → a ≡ b) → eqb a b ≡ eqb c d
eqb_alike a b c d f g = same_tests (eqb a b) (eqb c d) (λ e. eq-eqb c d (f (eqb-true a b e))) (λ e. eq-eqb a b (g (eqb-true c d e)))

none_in_sequence : (c : Channel) → InSequence c []
none_in_sequence c = record { most = omega arith; address = λ k h. absurd (omega arith); last = λ k h. absurd (omega arith) }

-- the last line
one_in_sequence : (c : Channel) (x : Line) → x.address ≡ memory_address c → x.last ≡ eqb c.count 0 → c.count ≡ 0 → InSequence c (x ∷ [])
one_in_sequence c x a t z = record { most = omega arith; address = at; last = ends }
  where
    at : (k : ℕ) → k < length (x ∷ []) → (get_or (x ∷ []) k (store_line 0 0)).address ≡ onward c.address (k * unit_bytes (wide_mode c.mode))
    at zero h = a ∙ onward_none c.address (wide_mode c.mode)
    at (suc k) h = absurd (omega arith)

    ends : (k : ℕ) → k < length (x ∷ []) → (get_or (x ∷ []) k (store_line 0 0)).last ≡ eqb k c.count
    ends zero h = t ∙ eqb_alike _ _ _ _ sym sym
    ends (suc k) h = absurd (omega arith)

-- one line more in front
next_in_sequence : (c : Channel) (x : Line) (ys : List Line) → x.address ≡ memory_address c → x.last ≡ eqb c.count 0 → 0 < c.count → c.count < 65536
    → InSequence (stepped c (wide_mode c.mode)) ys → InSequence c (x ∷ ys)
next_in_sequence c x ys a t z b s = record { most = omega (arith, s.most); address = at; last = ends }
  where
    at : (k : ℕ) → k < length (x ∷ ys) → (get_or (x ∷ ys) k (store_line 0 0)).address ≡ onward c.address (k * unit_bytes (wide_mode c.mode))
    at zero h = a ∙ onward_none c.address (wide_mode c.mode)
    at (suc k) h = s.address k (omega arith) ∙ onward_more c.address k (wide_mode c.mode)

    ends : (k : ℕ) → k < length (x ∷ ys) → (get_or (x ∷ ys) k (store_line 0 0)).last ≡ eqb k c.count
    ends zero h = t ∙ eqb_alike _ _ _ _ sym sym
    ends (suc k) h = s.last k (omega arith) ∙ eqb_alike _ _ _ _ (λ q. omega arith) (λ q. omega arith)

more_in_sequence : (c c' : Channel) (xs ys : List Line) → c.masked ≡ false → c.count < 65536 → Served c c' xs
    → (c'.masked ≡ false → InSequence c' ys) → (c'.masked ≡ true → ys ≡ []) → InSequence c (xs ++ ys)
more_in_sequence c c' xs ys m b (idle e k) more none =
    subst (λ (t : List Line). InSequence c (t ++ ys)) (sym e) (subst (λ (t : Channel). InSequence t ys) k (more (ap (λ (t : Channel). t.masked) k ∙ m)))
more_in_sequence c c' xs ys m b (line x e o a t k) more none = subst (λ (t : List Line). InSequence c (t ++ ys)) (sym e) (go (eqb c.count 0) refl)
  where
    go : (q : Bool) → eqb c.count 0 ≡ q → InSequence c (x ∷ ys)
    go true q = subst (λ (t : List Line). InSequence c (x ∷ t)) (sym (none (ap (λ (t : Channel). t.masked) (k ∙ cond-true (eqb c.count 0) _ _ q)))) (one_in_sequence c x a t (eqb-true _ _ q))
    go false q =
        let f : c' ≡ stepped c (wide_mode c.mode) = k ∙ cond-false (eqb c.count 0) _ _ q in
        next_in_sequence c x ys a t (let ne : c.count ≡ 0 → ⊥ = eqb-false _ _ q in grind arith) b
        (subst (λ (t : Channel). InSequence t ys) f (more (ap (λ (t : Channel). t.masked) f ∙ m)))

-- Calls one by one.

pub run_push : (w : World) (cs : List Call) (c : Call) → run w (cs ++ (c ∷ [])) ≡ after (run w cs) c
unfolding run
run_push w cs c = run-++ w cs (c ∷ [])

never_push : (test : World → Call → Bool) (w : World) (cs : List Call) (c : Call) → Never test w (cs ++ (c ∷ [])) → Never test w cs × (test (run w cs) c ≡ false)
unfolding Never run
never_push test w [] c n = (tt, n.0)
never_push test w (x ∷ xs) c n = let m = never_push test (after w x) xs c n.1 in ((n.0, m.0), m.1)

counts_some : (n : ℕ) → 0 < written 256 (n % 256)
counts_some n = grind (arith, nat_tests)

-- what a run must know of single steps
module _
    (Sound : World → Type 0)
    (law : (w : World) (c : Call) → Sound w → Step w c (after w c))
    (kept : (w : World) (c : Call) → Sound w → Sound (after w c))
    (small : (w : World) → Sound w → (i : ℕ) → (channel_at w.board i).count < 65536)
    (armed : (w : World) (n : ℕ) → Sound w → answer w (WritePort 0x44 n) ≡ Ok Done → Waits (written 256 (n % 256)) (after w (WritePort 0x44 n)).board.timers.watchdog)
  where
    sound_run : (w : World) → Sound w → (cs : List Call) → Sound (run w cs)
    unfolding run
    sound_run w ok [] = ok
    sound_run w ok (c ∷ cs) = sound_run (after w c) (kept w c ok) cs

    -- the lines that a list of calls puts down
    log : (w : World) (ok : Sound w) → List Call → List Line
    log w ok [] = []
    log w ok (c ∷ cs) = (law w c ok).put ++ log (after w c) (kept w c ok) cs

    log_fine : (w : World) (ok : Sound w) (cs : List Call) → AllListed (log w ok cs)
    unfolding log AllListed
    log_fine w ok [] = tt
    log_fine w ok (c ∷ cs) = all-++ (law w c ok).put (log (after w c) (kept w c ok) cs) (law w c ok).fine (log_fine (after w c) (kept w c ok) cs)

    log_words : (w : World) (ok : Sound w) (cs : List Call) → words (run w cs) ≡ words w ++ map word (log w ok cs)
    unfolding run log
    log_words w ok [] = sym (append-nil (words w))
    log_words w ok (c ∷ cs) =
        log_words (after w c) (kept w c ok) cs
        ∙ ap (λ t. t ++ map word (log (after w c) (kept w c ok) cs)) (law w c ok).journal
        ∙ append_assoc (words w) (map word (law w c ok).put) (map word (log (after w c) (kept w c ok) cs))
        ∙ ap (λ t. words w ++ t) (sym (map-append word (law w c ok).put (log (after w c) (kept w c ok) cs)))

    new_words : (w : World) (ok : Sound w) (cs : List Call) → drop (length (words w)) (words (run w cs)) ≡ map word (log w ok cs)
    new_words w ok cs = ap (drop (length (words w))) (log_words w ok cs) ∙ drop-append_seam (words w) (map word (log w ok cs))

    since_log : (w : World) (ok : Sound w) (cs : List Call) → since w (run w cs) ≡ log w ok cs
    since_log w ok cs =
        ap (λ t. drop (length (lines w)) (map line_in t)) (log_words w ok cs)
        ∙ ap (drop (length (lines w))) (map-append line_in (words w) (map word (log w ok cs)))
        ∙ drop-append_seam (lines w) (map line_in (map word (log w ok cs)))
        ∙ words_back (log w ok cs) (log_fine w ok cs)

    since_step : (w : World) (ok : Sound w) (c : Call) → since w (after w c) ≡ (law w c ok).put
    unfolding run log
    since_step w ok c = since_log w ok (c ∷ []) ∙ append-nil (law w c ok).put

    -- A

    log_bytes : (w : World) (ok : Sound w) (cs : List Call) → (run w cs).memory.byte ≡ post w.memory.byte (log w ok cs)
    unfolding run log post
    log_bytes w ok [] = refl
    log_bytes w ok (c ∷ cs) =
        log_bytes (after w c) (kept w c ok) cs
        ∙ ap (λ f. post f (log (after w c) (kept w c ok) cs)) (law w c ok).bytes
        ∙ sym (post-++ w.memory.byte (law w c ok).put (log (after w c) (kept w c ok) cs))

    log_waiting : (w : World) (ok : Sound w) (cs : List Call) (l : ℕ) → (w.rack.at l).waiting ++ arrivals w cs l ≡ units is_given l (log w ok cs) ++ ((run w cs).rack.at l).waiting
    unfolding run log arrivals units
    log_waiting w ok [] l = append-nil _
    log_waiting w ok (c ∷ cs) l =
        let p : List ℕ = units is_given l (law w c ok).put in
        let q : List ℕ = units is_given l (log (after w c) (kept w c ok) cs) in
        let z : List ℕ = ((run (after w c) cs).rack.at l).waiting in
        sym (append_assoc (w.rack.at l).waiting (brought w c l) (arrivals (after w c) cs l))
        ∙ ap (λ t. t ++ arrivals (after w c) cs l) ((law w c ok).waiting l)
        ∙ append_assoc p ((after w c).rack.at l).waiting (arrivals (after w c) cs l)
        ∙ ap (λ t. p ++ t) (log_waiting (after w c) (kept w c ok) cs l)
        ∙ sym (append_assoc p q z)
        ∙ ap (λ t. t ++ z) (sym (units-++ is_given l (law w c ok).put (log (after w c) (kept w c ok) cs)))

    log_taken : (w : World) (ok : Sound w) (cs : List Call) (l : ℕ) → (w.rack.at l).taken ++ units is_taken l (log w ok cs) ≡ ((run w cs).rack.at l).taken
    unfolding run log units
    log_taken w ok [] l = append-nil _
    log_taken w ok (c ∷ cs) l =
        let t₀ : List ℕ = (w.rack.at l).taken in
        let q : List ℕ = units is_taken l (log (after w c) (kept w c ok) cs) in
        ap (λ t. t₀ ++ t) (units-++ is_taken l (law w c ok).put (log (after w c) (kept w c ok) cs))
        ∙ sym (append_assoc t₀ (units is_taken l (law w c ok).put) q)
        ∙ ap (λ t. t ++ q) ((law w c ok).taken l)
        ∙ log_taken (after w c) (kept w c ok) cs l

    log_owed : (w : World) (ok : Sound w) (cs : List Call) → map making (log w ok cs) ≡ owed w cs
    unfolding log owed
    log_owed w ok [] = refl
    log_owed w ok (c ∷ cs) =
        map-append making (law w c ok).put (log (after w c) (kept w c ok) cs)
        ∙ (λ i. (law w c ok).makes i ++ log_owed (after w c) (kept w c ok) cs i)

    posting : (w : World) (ok : Sound w) (cs : List Call) → Posting w cs (run w cs)
    posting w ok cs =
        record {
          bytes = λ a. rw (since_log w ok cs) (ap (λ (f : ℕ → ℕ). f a) (log_bytes w ok cs));
          waiting = λ l. rw (since_log w ok cs) (log_waiting w ok cs l);
          taken = λ l. rw (since_log w ok cs) (log_taken w ok cs l);
          each_line = ap (map making) (since_log w ok cs) ∙ log_owed w ok cs;
          reads_back = subst Readable (sym (new_words w ok cs)) (words_readable (log w ok cs) (log_fine w ok cs));
        }

    -- B

    mute : (w : World) (ok : Sound w) (cs : List Call) (i : ℕ) → i < 8 → (channel_at w.board i).masked ≡ true → Never (touches i) w cs → of_channel i (log w ok cs) ≡ []
    unfolding run log Never of_channel
    mute w ok [] i h m n = refl
    mute w ok (c ∷ cs) i h m n =
        of_channel-++ i (law w c ok).put (log (after w c) (kept w c ok) cs)
        ∙ ap (λ t. t ++ of_channel i (log (after w c) (kept w c ok) cs)) ((law w c ok).silent i m)
        ∙ mute (after w c) (kept w c ok) cs i h (stays ((law w c ok).served i h n.0)) n.1
      where
        stays : Served (channel_at w.board i) (channel_at (after w c).board i) (of_channel i (law w c ok).put) → (channel_at (after w c).board i).masked ≡ true
        stays (idle e k) = ap (λ (t : Channel). t.masked) k ∙ m
        stays (line x e o a t k) = absurd (both_ways _ o m)

    sequence : (w : World) (ok : Sound w) (cs : List Call) (i : ℕ) → i < 8 → (channel_at w.board i).masked ≡ false → Never (touches i) w cs
        → InSequence (channel_at w.board i) (of_channel i (log w ok cs))
    unfolding run log Never of_channel
    sequence w ok [] i h m n = none_in_sequence (channel_at w.board i)
    sequence w ok (c ∷ cs) i h m n =
        subst (InSequence (channel_at w.board i)) (sym (of_channel-++ i (law w c ok).put (log (after w c) (kept w c ok) cs)))
        (more_in_sequence (channel_at w.board i) (channel_at (after w c).board i) (of_channel i (law w c ok).put) (of_channel i (log (after w c) (kept w c ok) cs)) m (small w ok i)
        ((law w c ok).served i h n.0) (λ o. sequence (after w c) (kept w c ok) cs i h o n.1) (λ o. mute (after w c) (kept w c ok) cs i h o n.1))

    counts : (w : World) (ok : Sound w) (cs : List Call) → Counts w cs
    counts w ok cs = record { silent = quiet; sequence = in_order }
      where
        quiet : (past : List Call) (c : Call) (rest : List Call) → cs ≡ past ++ (c ∷ rest) → (i : ℕ)
            → (channel_at (run w past).board i).masked ≡ true → of_channel i (since (run w past) (after (run w past) c)) ≡ []
        quiet past c rest e i m =
            let at : Sound (run w past) = sound_run w ok past in
            ap (of_channel i) (since_step (run w past) at c) ∙ (law (run w past) c at).silent i m

        in_order : (past stretch rest : List Call) → cs ≡ past ++ (stretch ++ rest) → (i : ℕ) → i < 8
            → (channel_at (run w past).board i).masked ≡ false → Never (touches i) (run w past) stretch
            → InSequence (channel_at (run w past).board i) (of_channel i (since (run w past) (run (run w past) stretch)))
        in_order past stretch rest e i h m n =
            let at : Sound (run w past) = sound_run w ok past in
            subst (λ (t : List Line). InSequence (channel_at (run w past).board i) (of_channel i t)) (sym (since_log (run w past) at stretch)) (sequence (run w past) at stretch i h m n)

    -- C

    halted_log : (w : World) (ok : Sound w) (cs : List Call) → w.board.arbitration.mask ≡ true → Never lifts w cs → by_dma (log w ok cs) ≡ []
    unfolding log Never by_dma
    halted_log w ok [] s n = refl
    halted_log w ok (c ∷ cs) s n =
        by_dma-++ (law w c ok).put (log (after w c) (kept w c ok) cs)
        ∙ ap (λ t. t ++ by_dma (log (after w c) (kept w c ok) cs)) ((law w c ok).halts s)
        ∙ halted_log (after w c) (kept w c ok) cs ((law w c ok).holds s n.0) n.1

    halted : (w : World) (ok : Sound w) (cs : List Call) → w.board.arbitration.mask ≡ true → Never lifts w cs → Halted w cs (run w cs)
    halted w ok cs s n =
        let none : by_dma (log w ok cs) ≡ [] = halted_log w ok cs s n in
        record {
          no_line = ap by_dma (since_log w ok cs) ∙ none;
          waiting = λ l. log_waiting w ok cs l ∙ ap (λ t. t ++ ((run w cs).rack.at l).waiting) (no_units is_given l (log w ok cs) refl none);
          taken = λ l. sym (append-nil _) ∙ ap (λ t. (w.rack.at l).taken ++ t) (sym (no_units is_taken l (log w ok cs) refl none)) ∙ log_taken w ok cs l;
        }

    -- counter 3 sees the rises alone
    sees : (w : World) (ok : Sound w) (cs : List Call) → Never restarts w cs → (run w cs).board.timers.watchdog ≡ gated_clocks w.board.timers.watchdog (found w cs)
    unfolding run Never found
    sees w ok [] n = refl
    sees w ok (c ∷ cs) n =
        sees (after w c) (kept w c ok) cs n.1
        ∙ ap (λ d. gated_clocks d (found (after w c) cs)) ((law w c ok).clock n.0)
        ∙ choice (rise w c)
      where
        choice : (b : Bool) → gated_clocks (cond b (counter_stepped w.board.timers.watchdog (Clock w.board.timers.latch)) w.board.timers.watchdog) (found (after w c) cs)
            ≡ gated_clocks w.board.timers.watchdog (cond b (w.board.timers.latch ∷ found (after w c) cs) (found (after w c) cs))
        choice true = refl
        choice false = refl

    -- OUT 3 after an accepted count
    out_3 : (w : World) (ok : Sound w) (n : ℕ) (cs : List Call) → answer w (WritePort 0x44 n) ≡ Ok Done → Never restarts (after w (WritePort 0x44 n)) cs
        → (run (after w (WritePort 0x44 n)) cs).board.timers.watchdog.out ≡ leb (written 256 (n % 256)) (unanswered (after w (WritePort 0x44 n)) cs)
    out_3 w ok n cs d r =
        ap (λ (c : Counter). c.out) (sees (after w (WritePort 0x44 n)) (kept w (WritePort 0x44 n) ok) cs r)
        ∙ waits_law (written 256 (n % 256)) (after w (WritePort 0x44 n)).board.timers.watchdog (found (after w (WritePort 0x44 n)) cs) (armed w n ok d) (counts_some n)

    stop : (w : World) (ok : Sound w) (cs : List Call) → Stop w cs
    stop w ok cs past n counting nth stretch rest e d never few enough unlifted =
        let here : Sound (run w past) = sound_run w ok past in
        let a : World = after (run w past) (WritePort 0x44 n) in
        let at : Sound a = kept (run w past) (WritePort 0x44 n) here in
        let parts = never_push restarts a counting nth never in
        let low : (run a counting).board.timers.watchdog.out ≡ false = out_3 (run w past) here n counting d parts.0 ∙ lt-leb (written 256 (n % 256)) (unanswered a counting) few in
        let p = run_push a counting nth in
        let high : (after (run a counting) nth).board.timers.watchdog.out ≡ true =
        ap (λ (v : World). v.board.timers.watchdog.out) (sym p) ∙ out_3 (run w past) here n (counting ++ (nth ∷ [])) d never ∙ le-leb (written 256 (n % 256)) (unanswered a (counting ++ (nth ∷ []))) (omega arith) in
        let s : (after (run a counting) nth).board.arbitration.mask ≡ true = (law (run a counting) nth (sound_run a at counting)).fires parts.1 low high in
        let s₂ : (run a (counting ++ (nth ∷ []))).board.arbitration.mask ≡ true = ap (λ (v : World). v.board.arbitration.mask) p ∙ s in
        halted (run a (counting ++ (nth ∷ []))) (sound_run a at (counting ++ (nth ∷ []))) stretch s₂ unlifted

    pub run_law : (w : World) (ok : Sound w) (cs : List Call) → RunLaw w cs (run w cs)
    run_law w ok cs = record { posting = posting w ok cs; counts = counts w ok cs; stop = stop w ok cs }
