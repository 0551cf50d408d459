-- The closed forms of OUT, by the state of the counter after each clock of a period.
use Rattle.std.proofs.Common.{◌≡◌, ℕ, zero, suc, ◌+◌, ◌-◌, ◌*◌, ◌/◌, ◌%◌, ◌<◌, ◌≤◌, Bool, true, false, cond, not, eqb, ltb, None, sym, refl, ap, ◌∙◌, ⊎_elim, mod-lt, mod-eq_of_lt, suc-mul, add_comm, suc-add, div-add-mod', zero-add, zero-mul, arith}
use native.Mathlib.Nat.{suc-mod, mod_self}
use Rattle.std.proofs.lemmas.Bool.{cases_lt}
use Rattle.std.proofs.lemmas.Bool.Decides.{nat_tests}
use Rattle.timer.specs.declared.counter.Access.{Access}
use Rattle.timer.specs.declared.counter.Access.TheVariants.{Low, High, LowThenHigh}
use Rattle.timer.specs.declared.counter.Counter.{Counter}
use Rattle.timer.specs.declared.counter.Event.TheVariants.{Clock}
use Rattle.timer.specs.declared.counter.Mode.{Mode}
use Rattle.timer.specs.declared.counter.Mode.TheVariants.{TerminalCount, RateGenerator, SquareWave}
use Rattle.timer.specs.declared.counter.Phase.TheVariants.{First, Running}
use Rattle.timer.specs.Counting.{stepped, start_out, less, written, falls_short}
use Rattle.timer.specs.Periods.{clocks, prepared, count_of, out_form, ClosedForm}

-- the clocks of a sum, and whole periods
clocks_add : (a b : ℕ) (c : Counter) → clocks (a + b) c ≡ clocks a (clocks b c)
clocks_add zero b c = ap (λ n. clocks n c) (zero-add b)
clocks_add (suc a) b c = ap (λ n. clocks n c) (suc-add a b) ∙ ap (λ d. stepped d (Clock true)) (clocks_add a b c)

clocks_mul : (q n : ℕ) (c : Counter) → clocks n c ≡ c → clocks (q * n) c ≡ c
clocks_mul zero n c p = let e : zero * n ≡ 0 = zero-mul n in ap (λ k. clocks k c) e
clocks_mul (suc q) n c p =
    let e : suc q * n ≡ n + q * n = suc-mul q n ∙ add_comm (q * n) n in
    ap (λ k. clocks k c) e ∙ (clocks_add n (q * n) c ∙ (ap (clocks n) (clocks_mul q n c p) ∙ p))

pub clocks_mod : (t n : ℕ) (c : Counter) → clocks n c ≡ c → clocks t c ≡ clocks (t % n) c
clocks_mod t n c p =
    let e : t ≡ t % n + t / n * n = sym (div-add-mod' t n) ∙ add_comm (t / n * n) (t % n) in
    ap (λ k. clocks k c) e ∙ (clocks_add (t % n) (t / n * n) c ∙ ap (clocks (t % n)) (clocks_mul (t / n) n c p))

-- one clock first and then t
after_load : (t : ℕ) (c : Counter) → clocks (suc t) c ≡ clocks t (stepped c (Clock true))
after_load zero c = refl
after_load (suc t) c = ap (λ d. stepped d (Clock true)) (after_load t c)

-- a counter with its count not yet loaded, and one that runs
abbrev waiting : ℕ → Mode → Access → ℕ → Counter
waiting full m a n = record { full = full; mode = m; access = a; phase = First; newest = n; standing = 0; odd = false; out = start_out m; half = None; read_high = false }

abbrev running : ℕ → Mode → Access → ℕ → ℕ → Bool → Bool → Counter
running full m a n s odd out = record { full = full; mode = m; access = a; phase = Running; newest = n; standing = s; odd = odd; out = out; half = None; read_high = false }

-- the state after the count's bytes
pub is_prepared : (full : ℕ) (m : Mode) (a : Access) (l h : ℕ) → falls_short m (count_of a l h) ≡ false
    → prepared full m a l h ≡ waiting full m a (written full (count_of a l h))
is_prepared full TerminalCount Low l h e = refl
is_prepared full TerminalCount High l h e = refl
is_prepared full TerminalCount LowThenHigh l h e = refl
is_prepared full RateGenerator Low l h e = rw e
is_prepared full RateGenerator High l h e = rw e
is_prepared full RateGenerator LowThenHigh l h e = rw e
is_prepared full SquareWave Low l h e = rw e
is_prepared full SquareWave High l h e = rw e
is_prepared full SquareWave LowThenHigh l h e = rw e

-- Mode 0.
module _ (full : ℕ) (a : Access) (n : ℕ) (pos : 1 ≤ n) where
  abbrev from0 : Counter
  from0 = waiting full TerminalCount a n

  abbrev at0 : ℕ → Bool → Counter
  at0 s out = running full TerminalCount a n s (eqb (n % 2) 1) out

  step0 : (s s' : ℕ) (u u' : Bool) → less full s ≡ s' → cond (eqb s 1) true u ≡ u' → stepped (at0 s u) (Clock true) ≡ at0 s' u'
  step0 s s' u u' p q = λ i. at0 (p i) (q i)

  low0 : (t : ℕ) → t < n → clocks (suc t) from0 ≡ at0 (n - t) false
  low0 zero h = grind arith
  low0 (suc t) h = grind (arith, nat_tests, low0 t)

  high0 : (t : ℕ) → n ≤ t → (s : ℕ) × (clocks (suc t) from0 ≡ at0 s true)
  high0 zero h = absurd (omega arith)
  high0 (suc t) h = ⊎_elim
      (λ (lt : t < n).
      let e : n - t ≡ 1 = omega arith in
      let f : cond (eqb (n - t) 1) true false ≡ true = grind (arith, nat_tests) in
      (less full (n - t), ap (λ d. stepped d (Clock true)) (low0 t lt) ∙ step0 (n - t) (less full (n - t)) false true refl f))
      (λ (ge : n ≤ t).
      let r = high0 t ge in
      let f : cond (eqb r.0 1) true true ≡ true = grind (arith, nat_tests) in
      (less full r.0, ap (λ d. stepped d (Clock true)) r.1 ∙ step0 r.0 (less full r.0) true true refl f))
      (cases_lt t n)

  pub form0 : (t : ℕ) → (clocks (suc t) from0).out ≡ ltb n (suc t)
  form0 t = grind (arith, nat_tests, low0 t, high0 t)

-- a number and the next one, modulo n
next_mod : (t n : ℕ) → 0 < n → suc t % n ≡ cond (eqb (suc (t % n)) n) 0 (suc (t % n))
next_mod t n h = grind (arith, nat_tests, suc-mod t n, mod_self n, mod-lt t h, mod-eq_of_lt)

-- Mode 2.
module _ (full : ℕ) (a : Access) (n : ℕ) (two : 2 ≤ n) where
  abbrev at2 : ℕ → Bool → Counter
  at2 s out = running full RateGenerator a n s (eqb (n % 2) 1) out

  within2 : (j : ℕ) → j < n → clocks j (at2 n true) ≡ at2 (n - j) (not (eqb (suc j) n))
  within2 zero h = grind (arith, nat_tests)
  within2 (suc j) h = grind (arith, nat_tests, within2 j)

  period2 : (k : ℕ) → suc k ≡ n → clocks (suc k) (at2 n true) ≡ at2 n true
  period2 k e = grind (arith, nat_tests, within2 k)

  whole2 : clocks n (at2 n true) ≡ at2 n true
  whole2 = let e : suc (n - 1) ≡ n = omega arith in ap (λ k. clocks k (at2 n true)) (sym e) ∙ period2 (n - 1) e

  pub form2 : (t : ℕ) → (clocks (suc t) (waiting full RateGenerator a n)).out ≡ not (eqb (suc t % n) 0)
  form2 t = grind (arith, nat_tests, after_load t (waiting full RateGenerator a n), mod-lt, clocks_mod t n (at2 n true) whole2, within2 (t % n), next_mod t n)

-- Mode 3: the first half of a period, rounded up, and the second.
module _ (full : ℕ) (a : Access) (n : ℕ) (two : 2 ≤ n) where
  abbrev at3 : ℕ → Bool → Counter
  at3 s out = running full SquareWave a n s (eqb (n % 2) 1) out

  abbrev load3 : ℕ
  load3 = n - n % 2

  high3 : (j : ℕ) → j < (n + 1) / 2 → clocks j (at3 load3 true) ≡ at3 (load3 - 2 * j) true
  high3 zero h = grind arith
  high3 (suc j) h = grind (arith, nat_tests, high3 j)

  low3 : (j : ℕ) → j < n / 2 → clocks j (at3 load3 false) ≡ at3 (load3 - 2 * j) false
  low3 zero h = grind arith
  low3 (suc j) h = grind (arith, nat_tests, low3 j)

  end_high : (k : ℕ) → suc k ≡ (n + 1) / 2 → clocks (suc k) (at3 load3 true) ≡ at3 load3 false
  end_high k e = grind (arith, nat_tests, high3 k)

  end_low : (k : ℕ) → suc k ≡ n / 2 → clocks (suc k) (at3 load3 false) ≡ at3 load3 true
  end_low k e = grind (arith, nat_tests, low3 k)

  to_low : clocks ((n + 1) / 2) (at3 load3 true) ≡ at3 load3 false
  to_low = let e : suc ((n + 1) / 2 - 1) ≡ (n + 1) / 2 = omega arith in ap (λ k. clocks k (at3 load3 true)) (sym e) ∙ end_high ((n + 1) / 2 - 1) e

  to_high : clocks (n / 2) (at3 load3 false) ≡ at3 load3 true
  to_high = let e : suc (n / 2 - 1) ≡ n / 2 = omega arith in ap (λ k. clocks k (at3 load3 false)) (sym e) ∙ end_low (n / 2 - 1) e

  whole3 : clocks n (at3 load3 true) ≡ at3 load3 true
  whole3 =
      let e : n ≡ n / 2 + (n + 1) / 2 = omega arith in
      ap (λ k. clocks k (at3 load3 true)) e ∙ (clocks_add (n / 2) ((n + 1) / 2) (at3 load3 true) ∙ (ap (clocks (n / 2)) to_low ∙ to_high))

  by_half : (j : ℕ) → j < n → (clocks j (at3 load3 true)).out ≡ ltb j ((n + 1) / 2)
  by_half j h = grind (arith, nat_tests, high3 j, low3 (j - (n + 1) / 2), to_low, clocks_add (j - (n + 1) / 2) ((n + 1) / 2) (at3 load3 true))

  pub form3 : (t : ℕ) → (clocks (suc t) (waiting full SquareWave a n)).out ≡ ltb ((suc t - 1) % n) ((n + 1) / 2)
  form3 t =
      let e : clocks (suc t) (waiting full SquareWave a n) ≡ clocks t (at3 load3 true) = after_load t (waiting full SquareWave a n) in
      let f : t ≡ suc t - 1 = omega arith in
      ap (λ d. d.out) (e ∙ clocks_mod t n (at3 load3 true) whole3)
      ∙ (by_half (t % n) (mod-lt t (omega arith)) ∙ ap (λ k. ltb (k % n) ((n + 1) / 2)) f)

by_mode : (full : ℕ) (m : Mode) (a : Access) (w t : ℕ) → 2 ≤ full → falls_short m w ≡ false
    → (clocks (suc t) (waiting full m a (written full w))).out ≡ out_form m (written full w) (suc t)
by_mode full TerminalCount a w t f e = form0 full a (written full w) (grind (arith, nat_tests)) t
by_mode full RateGenerator a w t f e = form2 full a (written full w) (grind (arith, nat_tests)) t
by_mode full SquareWave a w t f e = form3 full a (written full w) (grind (arith, nat_tests)) t

pub closed_form : ClosedForm
closed_form full m a l h t f e =
    ap (λ c. (clocks (suc t) c).out) (is_prepared full m a l h e) ∙ by_mode full m a (count_of a l h) t f e

-- the same for any number of clocks but 0
pub closed_at : (full : ℕ) (m : Mode) (a : Access) (l h t : ℕ) → 2 ≤ full → falls_short m (count_of a l h) ≡ false → 0 < t
    → (clocks t (prepared full m a l h)).out ≡ out_form m (written full (count_of a l h)) t
closed_at full m a l h zero f e p = absurd (omega arith)
closed_at full m a l h (suc t) f e p = closed_form full m a l h t f e

-- before the first clock OUT is as the control byte left it
pub closed_start : (full : ℕ) (m : Mode) (a : Access) (l h : ℕ) → falls_short m (count_of a l h) ≡ false
    → (clocks 0 (prepared full m a l h)).out ≡ start_out m
closed_start full m a l h e = ap (λ c. c.out) (is_prepared full m a l h e)
