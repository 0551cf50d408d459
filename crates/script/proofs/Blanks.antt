-- What the methods of `str` find at blanks, in the words of specs.
use Rattle.std.proofs.Common.{◌≡◌, ℕ, ◌<◌, ◌≤◌, Bool, true, false, List, [], ◌∷◌, ◌++◌, length, get_or, take, drop, Some, None, Option, MatchOption, IfSome, sym, ap, subst, ◌∙◌, refl, length-take, ⊎_elim, arith}
use Rattle.std.specs.Option.{unwrap_or}
use Rattle.std.specs.List.{position_or_len}
use Rattle.std.specs.Char.{IsScalar, char_set_contains}
use Rattle.std.specs.Str.{NoCharPasses}
use Rattle.std.specs.Str.Pattern.{FindsBy, FindsPrefixBy, CutsPrefixes, IsTrimStartMatches, MatchBeginsAt}
use Rattle.std.proofs.lemmas.Bool.{cases_lt}
use Rattle.std.proofs.lemmas.Bool.Decides.{nat_tests}
use Rattle.std.proofs.lemmas.Grind.{common_steps}
use Rattle.std.proofs.lemmas.List.{get_or-take}
use Rattle.std.proofs.lemmas.List.Sums.{position_or_len_is}
use Rattle.std.proofs.lemmas.Str.{NoCharPasses-byte, encode_ascii, len_utf8_bounds}
use Rattle.std.proofs.lemmas.Str.Pattern.{drop_at_char}
use Rattle.script.specs.Words.{is_blank, from_word}

-- k tells the characters of the list of blanks
abbrev pub TellsBlanks : (ℕ → Bool) → Type 0
TellsBlanks k = (c : ℕ) → char_set_contains (32 ∷ 9 ∷ 13 ∷ []) c ≡ k c

-- where that list first occurs in a text, and how much of its front it is
abbrev pub Finds : List ℕ → Option (ℕ × ℕ) → Type 0
Finds s r = (k : ℕ → Bool) → TellsBlanks k → FindsBy k s r

abbrev pub Begins : List ℕ → Option ℕ → Type 0
Begins s r = (k : ℕ → Bool) → TellsBlanks k → FindsPrefixBy k s r

blanks : TellsBlanks is_blank
blanks c = grind (arith, nat_tests)

ascii : (c : ℕ) → is_blank c ≡ true → c < 128
ascii c h = grind (arith, nat_tests)

high : (c : ℕ) → 128 ≤ c → is_blank c ≡ false
high c h = grind (arith, nat_tests)

scalar_blank : (c : ℕ) → is_blank c ≡ true → IsScalar c
scalar_blank c h = grind (arith, nat_tests)

none_blank : (s : List ℕ) (i : ℕ) → NoCharPasses is_blank s → i < length s → is_blank (get_or s i 0) ≡ false
none_blank s i h l = ⊎_elim (NoCharPasses-byte is_blank s i h l) (high (get_or s i 0)) (cases_lt (get_or s i 0) 128)

-- `find` gives the length of the word that a text begins with
pub word_ends : (s : List ℕ) (r : Option ℕ) → MatchOption r (Finds s None) (MatchBeginsAt Finds s) → unwrap_or r (length s) ≡ position_or_len is_blank s
word_ends s None h =
    sym (position_or_len_is is_blank s (length s) 0 (omega arith) (λ k l. none_blank s k (h is_blank blanks) l) (λ l. absurd (omega arith)))
word_ends s (Some i) (j, f, on, starts, ends) =
    let (before, (c, passes, at)) = f is_blank blanks in
    let here : get_or s i 0 ≡ c = at.byte (ascii c passes) in
    sym
    (position_or_len_is is_blank s i 0 (starts.0)
    (λ k l. let e : get_or (take i s) k 0 ≡ get_or s k 0 = get_or-take i s k 0 l in subst (λ b. is_blank b ≡ false) e (none_blank (take i s) k before (omega (arith, length-take i s))))
    (λ l. ap is_blank here ∙ passes))

begins_blank : (c : ℕ) (cs : List ℕ) → is_blank c ≡ true → from_word (c ∷ cs) ≡ from_word cs
begins_blank c cs h = grind (arith, common_steps)

cut_one : (s : List ℕ) (n : ℕ) → Begins s (Some n) → from_word s ≡ from_word (drop n s)
cut_one s n b =
    let (c, passes, at) = b is_blank blanks in
    ap from_word (drop_at_char c s 0 n at (ascii c passes)) ∙ begins_blank c (drop n s) passes

cut_all : (s : List ℕ) (ns : List ℕ) (r : List ℕ) → CutsPrefixes Begins s ns r → from_word s ≡ from_word r
cut_all s [] r h = ap from_word (sym h)
cut_all s (n ∷ ns) r (m, h, b, e) = cut_all s ns m h ∙ (cut_one m n b ∙ ap from_word (sym e))

nothing_left : (r : List ℕ) (o : Option ℕ) → Begins r o → IfSome o (λ n. n ≡ 0) → from_word r ≡ r
nothing_left [] None h z = refl
nothing_left (b ∷ bs) None h z =
    let dark : is_blank b ≡ true → is_blank b ≡ false = λ p. h is_blank blanks b bs (scalar_blank b p) (ap (λ cs. cs ++ bs) (sym (encode_ascii b (ascii b p)))) in
    grind (arith, common_steps, dark)
nothing_left r (Some n) h z =
    let (c, passes, at) = h is_blank blanks in absurd (omega (arith, at.ends, (len_utf8_bounds c).0))

-- `trim_start_matches` gives the text from its first word on
pub trimmed : (s r : List ℕ) → IsTrimStartMatches Begins s r → r ≡ from_word s
trimmed s r ((ns, cuts), (o, b, z)) = sym (cut_all s ns r cuts ∙ nothing_left r o b z)
