-- What arrivals, gives, takes and being told the last unit leave at each level.
use Rattle.std.proofs.Common.{◌≡◌, ℕ, Bool, true, false, cond, ◌&&◌, eqb, ltb, List, [], ◌∷◌, ◌++◌, length, get_or, drop, sym, refl, ap, ◌∙◌, subst, append-nil, arith}
use Rattle.std.proofs.lemmas.Bool.{eqb-true, and_parts, cond-true, cond_both}
use Rattle.std.proofs.lemmas.Bool.Decides.{nat_tests}
use Rattle.rack.specs.Meaning.{Level, Levels, arrival, giving, taking, last_told, is_giver, fits, all_fit, gives, takes, arrives, with_level, joined, emptied, filled, lined, gave, took}
use Rattle.std.proofs.lemmas.List.Folds.{list_all-append}
use Rattle.board.specs.Carry.{told_if}

-- a part of a level after another level was put in
at_level : {A : Type 0} (f : Level → A) (r : Levels) (l k : ℕ) (v : Level) → f ((with_level r l v).at k) ≡ cond (eqb k l) (f v) (f (r.at k))
at_level f r l k v = go (eqb k l)
  where
    go : (t : Bool) → f (cond t v (r.at k)) ≡ cond t (f v) (f (r.at k))
    go true = refl
    go false = refl

-- a part that the other level shares stays
stays_at : {A : Type 0} (f : Level → A) (r : Levels) (l k : ℕ) (v : Level) → f v ≡ f (r.at l) → f ((with_level r l v).at k) ≡ f (r.at k)
stays_at f r l k v e = cond_both (eqb k l) v (r.at k) (λ z. f z ≡ f (r.at k)) (λ t. e ∙ ap (λ (z : ℕ). f (r.at z)) (sym (eqb-true k l t))) (λ t. refl)

-- a property that holds of the level put in and of all before holds of all after
all_at : (P : Level → Type 0) (r : Levels) (l : ℕ) (v : Level) → ((k : ℕ) → P (r.at k)) → P v → (k : ℕ) → P ((with_level r l v).at k)
all_at P r l v h p k = cond_both (eqb k l) v (r.at k) P (λ t. p) (λ t. h k)

abbrev pub Fit : Level → Type 0
Fit v = all_fit v.wide v.waiting ≡ true

fit_rest : (w : Bool) (xs : List ℕ) → all_fit w xs ≡ true → all_fit w (drop 1 xs) ≡ true
fit_rest w [] h = refl
fit_rest w (x ∷ xs) h = (and_parts (fits w x) (all_fit w xs) h).1

pub fit_first : (w : Bool) (xs : List ℕ) → all_fit w xs ≡ true → fits w (get_or xs 0 0) ≡ true
fit_first true [] h = refl
fit_first false [] h = refl
fit_first w (x ∷ xs) h = (and_parts (fits w x) (all_fit w xs) h).0

-- Arrivals.

-- a rack after an arrival, by whether it is taken
abbrev came : Levels → ℕ → ℕ → Bool → Levels
came r l u t = cond t (with_level r l (joined (r.at l) u (r.rule l (r.at l) (arrival u)))) r

pub arrived_waiting : (r : Levels) (l u k : ℕ) (t : Bool) → (r.at k).waiting ++ cond (eqb k l && t) (u ∷ []) [] ≡ ((came r l u t).at k).waiting
arrived_waiting r l u k true = go (eqb k l) (eqb-true k l) ∙ sym (at_level (λ v. v.waiting) r l k (joined (r.at l) u (r.rule l (r.at l) (arrival u))))
  where
    go : (e : Bool) → (e ≡ true → k ≡ l) → (r.at k).waiting ++ cond (e && true) (u ∷ []) [] ≡ cond e ((r.at l).waiting ++ u ∷ []) (r.at k).waiting
    go true h = ap (λ (z : ℕ). (r.at z).waiting ++ u ∷ []) (h refl)
    go false h = append-nil _
arrived_waiting r l u k false = go (eqb k l)
  where
    go : (e : Bool) → (r.at k).waiting ++ cond (e && false) (u ∷ []) [] ≡ (r.at k).waiting
    go true = append-nil _
    go false = append-nil _

pub arrived_taken : (r : Levels) (l u k : ℕ) (t : Bool) → ((came r l u t).at k).taken ≡ (r.at k).taken
arrived_taken r l u k true = stays_at (λ v. v.taken) r l k (joined (r.at l) u (r.rule l (r.at l) (arrival u))) refl
arrived_taken r l u k false = refl

pub arrived_fit : (r : Levels) (l u : ℕ) (t : Bool) → arrives (r.at l) u ≡ t → ((k : ℕ) → Fit (r.at k)) → (k : ℕ) → Fit ((came r l u t).at k)
arrived_fit r l u true e h k =
    let p = and_parts (is_giver (r.at l).kind) (ltb 0 (r.at l).room && fits (r.at l).wide u) e in
    let q = and_parts (ltb 0 (r.at l).room) (fits (r.at l).wide u) p.1 in
    all_at Fit r l (joined (r.at l) u (r.rule l (r.at l) (arrival u))) h (rw (list_all-append, h l, q.1)) k
arrived_fit r l u false e h k = h k

-- Being told the last unit.
pub told_waiting : (r : Levels) (t : Bool) (l k : ℕ) → ((told_if t r l).at k).waiting ≡ (r.at k).waiting
told_waiting r true l k = stays_at (λ v. v.waiting) r l k (lined (r.at l) (r.rule l (r.at l) last_told)) refl
told_waiting r false l k = refl

pub told_taken : (r : Levels) (t : Bool) (l k : ℕ) → ((told_if t r l).at k).taken ≡ (r.at k).taken
told_taken r true l k = stays_at (λ v. v.taken) r l k (lined (r.at l) (r.rule l (r.at l) last_told)) refl
told_taken r false l k = refl

pub told_fit : (r : Levels) (t : Bool) (l : ℕ) → ((k : ℕ) → Fit (r.at k)) → (k : ℕ) → Fit ((told_if t r l).at k)
told_fit r true l h k = all_at Fit r l (lined (r.at l) (r.rule l (r.at l) last_told)) h (h l) k
told_fit r false l h k = h k

-- Giving by a card that can.
first_and_rest : (xs : List ℕ) → ltb 0 (length xs) ≡ true → xs ≡ get_or xs 0 0 ∷ drop 1 xs
first_and_rest [] e = cc
first_and_rest (x ∷ xs) e = refl

turned : (a b : ℕ) → eqb b a ≡ eqb a b
turned a b = grind (arith, nat_tests)

-- the units at the front or the end of a level's list, where it is that level
front : (r : Levels) (l k : ℕ) (v : Level) (u : ℕ) → (r.at l).waiting ≡ u ∷ v.waiting → (r.at k).waiting ≡ cond (eqb l k) (u ∷ []) [] ++ ((with_level r l v).at k).waiting
front r l k v u e =
    let p = sym (at_level (λ z. z.waiting) r l k v) in
    let q = turned l k in
    go (eqb k l) (eqb-true k l) ∙ (λ i. cond (q i) (u ∷ []) [] ++ p i)
  where
    go : (t : Bool) → (t ≡ true → k ≡ l) → (r.at k).waiting ≡ cond t (u ∷ []) [] ++ cond t v.waiting (r.at k).waiting
    go true h = ap (λ (z : ℕ). (r.at z).waiting) (h refl) ∙ e
    go false h = refl

back : (r : Levels) (l k : ℕ) (v : Level) (u : ℕ) → v.taken ≡ (r.at l).taken ++ u ∷ [] → (r.at k).taken ++ cond (eqb l k) (u ∷ []) [] ≡ ((with_level r l v).at k).taken
back r l k v u e =
    let p = sym (at_level (λ z. z.taken) r l k v) in
    let q = sym (turned l k) in
    (λ i. (r.at k).taken ++ cond (q i) (u ∷ []) []) ∙ (go (eqb k l) (eqb-true k l) ∙ p)
  where
    go : (t : Bool) → (t ≡ true → k ≡ l) → (r.at k).taken ++ cond t (u ∷ []) [] ≡ cond t v.taken (r.at k).taken
    go true h = ap (λ (z : ℕ). (r.at z).taken ++ u ∷ []) (h refl) ∙ sym e
    go false h = append-nil _

abbrev given_level : Levels → ℕ → Level
given_level r l = emptied (r.at l) (r.rule l (r.at l) giving)

pub gave_is : (r : Levels) (l : ℕ) → gives (r.at l) ≡ true → gave r l ≡ with_level r l (given_level r l)
gave_is r l e = cond-true (gives (r.at l)) _ _ e

pub gave_waiting : (r : Levels) (l k : ℕ) → gives (r.at l) ≡ true → (r.at k).waiting ≡ cond (eqb l k) (get_or (r.at l).waiting 0 0 ∷ []) [] ++ ((gave r l).at k).waiting
gave_waiting r l k e =
    front r l k (given_level r l) (get_or (r.at l).waiting 0 0) (first_and_rest (r.at l).waiting (and_parts (is_giver (r.at l).kind) (ltb 0 (length (r.at l).waiting)) e).1)
    ∙ ap (λ (z : Levels). cond (eqb l k) (get_or (r.at l).waiting 0 0 ∷ []) [] ++ (z.at k).waiting) (sym (gave_is r l e))

pub gave_taken : (r : Levels) (l k : ℕ) → gives (r.at l) ≡ true → ((gave r l).at k).taken ≡ (r.at k).taken
gave_taken r l k e = ap (λ (z : Levels). (z.at k).taken) (gave_is r l e) ∙ stays_at (λ v. v.taken) r l k (given_level r l) refl

pub gave_fit : (r : Levels) (l : ℕ) → gives (r.at l) ≡ true → ((k : ℕ) → Fit (r.at k)) → (k : ℕ) → Fit ((gave r l).at k)
gave_fit r l e h k = subst (λ (z : Levels). Fit (z.at k)) (sym (gave_is r l e)) (all_at Fit r l (given_level r l) h (fit_rest (r.at l).wide (r.at l).waiting (h l)) k)

-- Taking by a card that can.
abbrev taken_level : Levels → ℕ → ℕ → Level
taken_level r l u = filled (r.at l) u (r.rule l (r.at l) (taking u))

pub took_is : (r : Levels) (l u : ℕ) → takes (r.at l) u ≡ true → took r l u ≡ with_level r l (taken_level r l u)
took_is r l u e = cond-true (takes (r.at l) u) _ _ e

pub took_taken : (r : Levels) (l u k : ℕ) → takes (r.at l) u ≡ true → (r.at k).taken ++ cond (eqb l k) (u ∷ []) [] ≡ ((took r l u).at k).taken
took_taken r l u k e = back r l k (taken_level r l u) u refl ∙ ap (λ (z : Levels). (z.at k).taken) (sym (took_is r l u e))

pub took_waiting : (r : Levels) (l u k : ℕ) → takes (r.at l) u ≡ true → ((took r l u).at k).waiting ≡ (r.at k).waiting
took_waiting r l u k e = ap (λ (z : Levels). (z.at k).waiting) (took_is r l u e) ∙ stays_at (λ v. v.waiting) r l k (taken_level r l u) refl

pub took_fit : (r : Levels) (l u : ℕ) → takes (r.at l) u ≡ true → ((k : ℕ) → Fit (r.at k)) → (k : ℕ) → Fit ((took r l u).at k)
took_fit r l u e h k = subst (λ (z : Levels). Fit (z.at k)) (sym (took_is r l u e)) (all_at Fit r l (taken_level r l u) h (h l) k)
