-- How the number of a text comes about byte by byte.
use Rattle.std.proofs.Common.{◌≡◌, ℕ, ◌≤◌, List, [], ◌∷◌, ◌++◌, length, Some, None, Option, MatchOption, IfSome, sym, refl, subst, ap, ◌∙◌, arith}
use denote.Param.Members.{Mut, Called}
use Rattle.std.specs.Iterator.{Yields, YieldsThen}
use Rattle.std.specs.List.{FoldsTo}
use Rattle.std.specs.Str.Iter.{bytes_rest, bytes_steps}
use Rattle.std.proofs.lemmas.Bool.Decides.{nat_tests}
use Rattle.script.specs.declared.number.Base.{Base}
use Rattle.script.specs.Number.{digit_of, grown, numeral_after}

-- a number that grew keeps the limit
pub grown_bound : (base : Base) (limit n : ℕ) (digit : Option ℕ) (m : ℕ) → Some m ≡ grown base limit n digit → m ≤ limit
grown_bound base limit n None m h = grind arith
grown_bound base limit n (Some d) m h = grind (arith, nat_tests)

-- once refused, a text stays so
pub none_stays : (base : Base) (limit : ℕ) (cs : List ℕ) → numeral_after base limit None cs ≡ None
none_stays base limit [] = refl
none_stays base limit (c ∷ cs) = refl

-- the bytes that came stand before those that are left
pub came : (s t : _) (xs : List ℕ) → Yields bytes_steps s xs t → bytes_rest s ≡ xs ++ bytes_rest t
came s t [] h = ap bytes_rest h
came s t (x ∷ xs) (j, e, h) = e ∙ ap (λ ys. x ∷ ys) (came j t xs h)

-- the turns over bytes that came lead from one number to the next
pub turned : {F : Type 0} (base : Base) (limit : ℕ) (R : F × ℕ → ℕ → F × ℕ → Type 0) (f : F) → ((n x : ℕ) (q : F × ℕ) → R (f, n) x q → (q.0 ≡ f) × (grown base limit n (digit_of base x) ≡ Some q.1)) → (n : ℕ) (xs : List ℕ) (q : F × ℕ) → FoldsTo R (f, n) xs q → (q.0 ≡ f) × ((ys : List ℕ) → numeral_after base limit (Some n) (xs ++ ys) ≡ numeral_after base limit (Some q.1) ys)
turned base limit R f turn n [] q h = (ap (λ p. p.0) (sym h), λ ys. ap (λ p. numeral_after base limit (Some p.1) ys) h)
turned {F} base limit R f turn n (x ∷ xs) q (j, t, h) =
    let (same, grew) = turn n x j t in
    let rest = turned base limit R f turn j.1 xs q (subst (λ (z : F). FoldsTo R (z, j.1) xs q) same h) in
    (rest.0, λ ys. ap (λ o. numeral_after base limit o (xs ++ ys)) grew ∙ rest.1 ys)

ended_after : (base : Base) (limit : ℕ) (so_far : Option ℕ) (cs : List ℕ) → length cs ≡ 0 → numeral_after base limit so_far cs ≡ so_far
ended_after base limit so_far [] h = refl
ended_after base limit so_far (c ∷ cs) h = absurd (omega arith)

-- a fold over the bytes of a text that grows a number by each gives what they write
pub read_on : {F E : Type 0} {g : Mut F (ℕ × (ℕ × Unit {0})) (Option ℕ)} {R : F × ℕ → ℕ → F × ℕ → Type 0} (base : Base) (limit : ℕ) (f : F) (r : Option ℕ) (s u : _) → ((n x : ℕ) (q : F × ℕ) → R (f, n) x q → (q.0 ≡ f) × (grown base limit n (digit_of base x) ≡ Some q.1)) → ((n x : ℕ) (v : Option ℕ) (q : F) → Called g f (n, (x, tt)) v q → v ≡ grown base limit n (digit_of base x)) → (xs : List ℕ) × (o : Option ℕ) × (p : F) × (a : ℕ) × YieldsThen bytes_steps s xs o u × FoldsTo {P = F × ℕ} R (f, 0) xs (p, a) × MatchOption o (r ≡ Some a) (λ x. (v : Option ℕ) × (h : F) × (e : E) × Called g p (a, (x, tt)) v h × (v ≡ None) × (r ≡ None)) → r ≡ numeral_after base limit (Some 0) (bytes_rest s)
read_on base limit f r s u turn call (xs, None, p, a, (t, y, ended), folds, is) =
    let on = turned base limit _ f turn 0 xs (p, a) folds in
    is ∙ (sym (ended_after base limit (Some a) (bytes_rest t) ended.0) ∙ (sym (on.1 (bytes_rest t)) ∙ ap (numeral_after base limit (Some 0)) (sym (came s t xs y))))
read_on {F} {E} {g} base limit f r s u turn call (xs, Some x, p, a, (t, y, ended), folds, (v, h, e, called, none, is)) =
    let on = turned base limit _ f turn 0 xs (p, a) folds in
    let stops : v ≡ grown base limit a (digit_of base x) = call a x v h (subst (λ (z : F). Called g z (a, (x, tt)) v h) on.0 called) in
    let refused : numeral_after base limit (Some a) (x ∷ bytes_rest u) ≡ None = ap (λ o. numeral_after base limit o (bytes_rest u)) (sym stops ∙ none) ∙ none_stays base limit (bytes_rest u) in
    is ∙ (sym refused ∙ (ap (numeral_after base limit (Some a)) (sym ended) ∙ (sym (on.1 (bytes_rest t)) ∙ ap (numeral_after base limit (Some 0)) (sym (came s t xs y)))))

after_bound : (base : Base) (limit : ℕ) (so_far : Option ℕ) (cs : List ℕ) (a : ℕ) → ((m : ℕ) → so_far ≡ Some m → m ≤ limit) → numeral_after base limit so_far cs ≡ Some a → a ≤ limit
after_bound base limit so_far [] a k h = k a h
after_bound base limit None (c ∷ cs) a k h = absurd cc
after_bound base limit (Some n) (c ∷ cs) a k h =
    after_bound base limit (grown base limit n (digit_of base c)) cs a (λ m e. grown_bound base limit n (digit_of base c) m (sym e)) h

-- a number that is read keeps its limit
pub bounded : (base : Base) (limit : ℕ) (cs : List ℕ) (r : Option ℕ) → r ≡ numeral_after base limit (Some 0) cs → IfSome r (λ n. n ≤ limit)
bounded base limit cs None h = tt
bounded base limit cs (Some n) h = after_bound base limit (Some 0) cs n (λ m e. grind arith) (sym h)
