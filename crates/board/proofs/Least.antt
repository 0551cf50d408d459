-- The least number that passes a test, from what a search finds.
use Rattle.std.proofs.Common.{◌≡◌, ℕ, zero, suc, ◌<◌, ◌≤◌, Bool, true, false, cond, ltb, sym, refl, ap, ◌∙◌, ⊎_elim, arith}
use Rattle.std.proofs.lemmas.Bool.{cases_lt, lt-ltb, le-ltb, ltb-true, ltb-false}
use Rattle.board.specs.Grant.{least}

pub least_first : (p : ℕ → Bool) (n k : ℕ) → k ≤ n → ((j : ℕ) → j < k → p j ≡ false) → (k < n → p k ≡ true) → least p n ≡ k
unfolding least
least_first p zero k h below here = omega arith
least_first p (suc n) k h below here = ⊎_elim
    (λ (lt : k < suc n).
    let e : least p n ≡ k = least_first p n k (omega arith) below (λ q. here lt) in
    ⊎_elim
    (λ (q : k < n). let t : ltb k n ≡ true = lt-ltb k n q in rw (e, t))
    (λ (q : n ≤ k). let t : ltb k n ≡ false = le-ltb k n q in let s : k ≡ n = omega arith in let y : p k ≡ true = here lt in let z : p n ≡ true = rw s at y in rw (e, t, z) (sym s))
    (cases_lt k n))
    (λ (ge : suc n ≤ k).
    let s : k ≡ suc n = omega arith in
    let e : least p n ≡ n = least_first p n n (omega arith) (λ j q. below j (omega arith)) (λ q. let z : n < k = omega arith in absurd (omega arith)) in
    let t : ltb n n ≡ false = le-ltb n n (omega arith) in
    let z : p n ≡ false = below n (omega arith) in
    rw (e, t, z) (sym s))
    (cases_lt k (suc n))

-- the least number that passes passes, and it is n at most
pub least_passes : (p : ℕ → Bool) (n : ℕ) → least p n < n → p (least p n) ≡ true
unfolding least
least_passes p zero h = absurd (omega arith)
least_passes p (suc n) h = go (ltb (least p n) n) (least_passes p n) (ltb-true (least p n) n) (p n) refl h
  where
    go : (t : Bool) → (least p n < n → p (least p n) ≡ true) → (t ≡ true → least p n < n) → (q : Bool) → p n ≡ q → cond t (least p n) (cond q n (suc n)) < suc n → p (cond t (least p n) (cond q n (suc n))) ≡ true
    go true again lt q e h = again (lt refl)
    go false again lt true e h = e
    go false again lt false e h = absurd (omega arith)

pub least_most : (p : ℕ → Bool) (n : ℕ) → least p n ≤ n
unfolding least
least_most p zero = omega arith
least_most p (suc n) = go (ltb (least p n) n) (p n) (least_most p n)
  where
    go : (t q : Bool) → least p n ≤ n → cond t (least p n) (cond q n (suc n)) ≤ suc n
    go true q h = omega arith
    go false true h = omega arith
    go false false h = omega arith

-- nothing below it passes
pub least_below : (p : ℕ → Bool) (n k : ℕ) → k < least p n → p k ≡ false
unfolding least
least_below p zero k h = absurd (omega arith)
least_below p (suc n) k h = go (ltb (least p n) n) (ltb-false (least p n) n) (p n) refl h (least_below p n k)
  where
    go : (t : Bool) → (t ≡ false → n ≤ least p n) → (q : Bool) → p n ≡ q → k < cond t (least p n) (cond q n (suc n)) → (k < least p n → p k ≡ false) → p k ≡ false
    go true ge q e lt below = below lt
    go false ge true e lt below = let g = ge refl in below (omega arith)
    go false ge false e lt below =
        let g = ge refl in
        ⊎_elim (λ (a : k < n). below (omega arith)) (λ (a : n ≤ k). let s : k ≡ n = omega arith in ap p s ∙ e) (cases_lt k n)
