-- Packing and unpacking undo each other.
use Rattle.std.proofs.Common.{◌≡◌, ℕ, ◌/◌, ◌%◌, ◌^◌, ◌<◌, Bool, true, false, cond, ◌&&◌, eqb, Some, Ok, Err, Result, refl, ap, ◌∙◌, subst, arith}
use Rattle.std.proofs.lemmas.Bool.{cond-true, eq-eqb, and_from}
use Rattle.std.proofs.lemmas.Grind.{common_steps}
use Rattle.fault.specs.declared.Fault.{Fault}
use Rattle.journal.specs.declared.Kind.{Kind}
use Rattle.journal.specs.declared.Kind.TheVariants.{CardToMemory, MemoryToCard, Verify, Store}
use Rattle.journal.specs.declared.Line.{Line}
use Rattle.journal.specs.Layout.{number_of_kind, kind_of, listed, bit, word, packed, fields, line_in, line_of, or_refused, unpacked}

-- the fields are within their widths
pub record Fitting (l : Line) : Type 0 where
  pub channel : l.channel < 8
  pub wide : bit l.wide < 2
  pub last : bit l.last < 2
  pub level : l.level < 16
  pub address : l.address < 2 ^ 24
  pub unit : l.unit < 2 ^ 16

-- a line that is there has fields within their widths
pub fits : (l : Line) → listed l ≡ true → Fitting l
fits l h =
    record {
      channel = grind (arith, common_steps);
      wide = grind (arith, common_steps);
      last = grind (arith, common_steps);
      level = grind (arith, common_steps);
      address = grind (arith, common_steps);
      unit = grind (arith, common_steps);
    }

pub kind_of_number : (k : Kind) → kind_of (number_of_kind k) ≡ Some k
kind_of_number CardToMemory = refl
kind_of_number MemoryToCard = refl
kind_of_number Verify = refl
kind_of_number Store = refl

-- a number that names a kind is that kind's number
pub number_of_kind_of : (n : ℕ) (k : Kind) → kind_of n ≡ Some k → number_of_kind k ≡ n
number_of_kind_of n k h = grind (arith, common_steps)

bit_back : (b : Bool) (n : ℕ) → n ≡ bit b → eqb n 1 ≡ b
bit_back true n e = grind (arith, common_steps)
bit_back false n e = grind (arith, common_steps)

-- what the places of a line's word hold
pub fields_back : (l : Line) → Fitting l → fields l.kind (word l) ≡ l
fields_back l h =
    let n : ℕ = word l in
    let k₂ : n / 2 ^ 57 % 8 ≡ l.channel = omega arith in
    let k₃ : n / 2 ^ 56 % 2 ≡ bit l.wide = omega arith in
    let k₄ : n / 2 ^ 55 % 2 ≡ bit l.last = omega arith in
    let k₅ : n / 2 ^ 51 % 16 ≡ l.level = omega arith in
    let k₆ : n / 2 ^ 16 % 2 ^ 24 ≡ l.address = omega arith in
    let k₇ : n % 2 ^ 16 ≡ l.unit = omega arith in
    λ i. record { kind = l.kind; channel = k₂ i; wide = bit_back l.wide _ k₃ i; last = bit_back l.last _ k₄ i; level = k₅ i; address = k₆ i; unit = k₇ i }

-- a line that is there reads back from its word
pub reads_back : (l : Line) → listed l ≡ true → unpacked (word l) ≡ Ok l
reads_back l h =
    let f = fits l h in
    let back = fields_back l f in
    let top : word l / 2 ^ 60 ≡ number_of_kind l.kind = omega arith in
    let gap : word l / 2 ^ 40 % 2 ^ 11 ≡ 0 = omega arith in
    let kind : kind_of (word l / 2 ^ 60) ≡ Some l.kind = ap kind_of top ∙ kind_of_number l.kind in
    let tests : (eqb (word l / 2 ^ 40 % 2 ^ 11) 0 && listed (fields l.kind (word l))) ≡ true = and_from _ _ (eq-eqb _ 0 gap) (ap listed back ∙ h) in
    let there : line_of (word l) ≡ Some l = ap (λ o. line_in o (word l)) kind ∙ (cond-true _ _ _ tests ∙ ap Some back) in
    ap (λ o. or_refused o (word l)) there

packs_only : (b : Bool) (v w : ℕ) (f : Fault) → cond {A = Result ℕ Fault} b (Ok v) (Err f) ≡ Ok w → (b ≡ true) × (v ≡ w)
packs_only true v w f h = grind (arith, common_steps)
packs_only false v w f h = grind (arith, common_steps)

-- a word that some line packs to reads as that line
pub accepts : (w : ℕ) (l : Line) → packed l ≡ Ok w → unpacked w ≡ Ok l
accepts w l h =
    let p = packs_only (listed l) (word l) w _ h in
    subst (λ v. unpacked v ≡ Ok l) p.1 (reads_back l p.0)
