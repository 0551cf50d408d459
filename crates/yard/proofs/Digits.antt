-- Numbers in so many hexadecimal digits, and the texts that are put together from them.
use Rattle.std.proofs.Common.{◌≡◌, ℕ, zero, suc, ◌+◌, ◌-◌, ◌/◌, ◌%◌, ◌^◌, ◌<◌, Bool, true, false, cond, eqb, ltb, Ok, Err, Result, List, [], ◌∷◌, ◌++◌, length, refl, sym, ap, ◌∙◌, arith, subst}
use Rattle.std.specs.Prelude.{replicate, codes}
use Rattle.std.specs.Fmt.{digit_glyph, digits, digits_onto, decimal, padded_integral, char_count}
use Rattle.std.proofs.lemmas.List.{append-nil}
use Rattle.std.proofs.lemmas.Bool.{cond-true, eq-eqb, eqb-true, lt-ltb, and_parts, ltb-true}
use Rattle.std.proofs.Math.Nat.{pow-suc}
use Rattle.std.proofs.lemmas.Fmt.{decimal_digit, hex_byte}
use Rattle.std.proofs.lemmas.Str.{IsAscii-append}
use Rattle.std.proofs.lemmas.Str.Ascii.{IsAscii-nil, IsAscii-cons}
use Rattle.std.specs.Str.{IsAscii}
use Rattle.std.specs.Result.{IsOk}
use Rattle.std.specs.Prelude.{MatchResult}
use Rattle.std.specs.List.{list_all}
use Rattle.std.specs.Char.{is_ascii}
use Rattle.dma.specs.declared.channel.Channel.{Channel}
use Rattle.dma.specs.Channels.{memory_address}
use Rattle.yard.specs.Views.{registers_text}
use Rattle.std.proofs.lemmas.Grind.{common_steps}
use Rattle.fault.specs.Text.{hexadecimal}
use Rattle.fault.specs.Numbers.{own}
use Rattle.fault.specs.declared.Fault.{Fault}
use Rattle.fault.specs.declared.Refusal.TheVariants.{NotALine}
use Rattle.journal.specs.declared.Line.{Line}
use Rattle.journal.specs.declared.Kind.{Kind}
use Rattle.journal.specs.declared.Kind.TheVariants.{CardToMemory, MemoryToCard, Verify, Store}
use Rattle.journal.specs.Layout.{listed, packed, word, number_of_kind, bit}
use Rattle.journal.specs.Text.{marks_text}

-- the last k digits of n, in front of a text
abbrev pub spread : ℕ → ℕ → List ℕ → List ℕ
spread zero n acc = acc
spread (suc k) n acc = spread k (n / 16) (digit_glyph true (n % 16) ∷ acc)

zero_behind : (k : ℕ) (acc : List ℕ) → replicate k 48 ++ (48 ∷ acc) ≡ 48 ∷ (replicate k 48 ++ acc)
zero_behind zero acc = refl
zero_behind (suc k) acc = ap (λ t. 48 ∷ t) (zero_behind k acc)

zeros : (k : ℕ) (acc : List ℕ) → spread k 0 acc ≡ replicate k 48 ++ acc
zeros zero acc = refl
zeros (suc k) acc = zeros k (48 ∷ acc) ∙ zero_behind k acc

-- a text behind as many zeros as it is short of a width
abbrev short : ℕ → List ℕ → List ℕ
short width text = replicate (width - length text) 48 ++ text

-- a number of one digit
one_digit : (k n : ℕ) (acc : List ℕ) → n / 16 ≡ 0 → short (suc k + length acc) (digit_glyph true (n % 16) ∷ acc) ≡ spread (suc k) n acc
one_digit k n acc none =
    ap (λ z. replicate z 48 ++ (digit_glyph true (n % 16) ∷ acc)) {x = suc k + length acc - suc (length acc)} {y = k} (omega arith)
    ∙ sym (zeros k (digit_glyph true (n % 16) ∷ acc))
    ∙ ap (λ q. spread k q (digit_glyph true (n % 16) ∷ acc)) (sym none)

-- the digits behind as many zeros as they are short of the width
onto : (k n m : ℕ) (acc : List ℕ) → n < 16 ^ suc k → k < m → short (suc k + length acc) (digits_onto m 16 true n acc) ≡ spread (suc k) n acc
onto k n zero acc small deep = absurd (omega arith)
onto zero n (suc m) acc small deep =
    let none : n / 16 ≡ 0 = omega (arith, pow-suc 16 0) in
    ap (short (suc zero + length acc)) (cond-true (eqb (n / 16) 0) _ _ (eq-eqb _ 0 none)) ∙ one_digit zero n acc none
onto (suc j) n (suc m) acc small deep = go (eqb (n / 16) 0) refl (onto j (n / 16) m (digit_glyph true (n % 16) ∷ acc) (omega (arith, pow-suc 16 (suc j))) (omega arith))
  where
    rest : List ℕ
    rest = digit_glyph true (n % 16) ∷ acc

    go : (t : Bool) → eqb (n / 16) 0 ≡ t → short (suc j + length rest) (digits_onto m 16 true (n / 16) rest) ≡ spread (suc j) (n / 16) rest → short (suc (suc j) + length acc) (cond t rest (digits_onto m 16 true (n / 16) rest)) ≡ spread (suc (suc j)) n acc
    go true e less = one_digit (suc j) n acc (eqb-true _ 0 e)
    go false e less =
        ap (λ z. short z (digits_onto m 16 true (n / 16) rest)) {x = suc (suc j) + length acc} {y = suc j + suc (length acc)} (omega arith)
        ∙ less

-- a number that has no more digits than the width
pub hexadecimal_is : (k n : ℕ) → n < 16 ^ suc k → k < 64 → hexadecimal (suc k) n ≡ spread (suc k) n []
unfolding padded_integral char_count digits
hexadecimal_is k n small deep =
    ap (λ z. replicate z 48 ++ (digits_onto 64 16 true n [] ++ [])) {x = suc k - length (digits_onto 64 16 true n []) - 0 - 0} {y = suc k + 0 - length (digits_onto 64 16 true n [])} (omega arith)
    ∙ ap (λ t. replicate (suc k + 0 - length (digits_onto 64 16 true n [])) 48 ++ t) (append-nil (digits_onto 64 16 true n []))
    ∙ onto k n 64 [] small deep

-- the two digits of a byte, in front of a text
abbrev byte_digits : ℕ → List ℕ → List ℕ
byte_digits b acc = digit_glyph true (b / 16) ∷ digit_glyph true (b % 16) ∷ acc

-- the last k bytes of n, each in two digits, in front of a text
abbrev byte_by_byte : ℕ → ℕ → List ℕ → List ℕ
byte_by_byte zero n acc = acc
byte_by_byte (suc k) n acc = byte_by_byte k (n / 256) (byte_digits (n % 256) acc)

abbrev twice : ℕ → ℕ
twice zero = zero
twice (suc k) = suc (suc (twice k))

spread_bytes : (k n : ℕ) (acc : List ℕ) → spread (twice k) n acc ≡ byte_by_byte k n acc
spread_bytes zero n acc = refl
spread_bytes (suc k) n acc = (λ i. spread (twice k) (rest i) (digit_glyph true (high i) ∷ digit_glyph true (low i) ∷ acc)) ∙ spread_bytes k (n / 256) (byte_digits (n % 256) acc)
  where
    rest : n / 16 / 16 ≡ n / 256
    rest = omega arith

    high : n / 16 % 16 ≡ n % 256 / 16
    high = omega arith

    low : n % 16 ≡ n % 256 % 16
    low = omega arith

pub one_byte : (n : ℕ) → n < 256 → hexadecimal 2 n ≡ byte_digits n []
one_byte = hex_byte true

pub two_bytes : (n : ℕ) → n < 65536 → hexadecimal 4 n ≡ byte_digits (n / 256 % 256) (byte_digits (n % 256) [])
two_bytes n small = hexadecimal_is 3 n small (omega arith) ∙ spread_bytes 2 n []

pub three_bytes : (n : ℕ) → n < 2 ^ 24 → hexadecimal 6 n ≡ byte_digits (n / 65536 % 256) (byte_digits (n / 256 % 256) (byte_digits (n % 256) []))
three_bytes n small = hexadecimal_is 5 n small (omega arith) ∙ spread_bytes 3 n [] ∙ (λ i. byte_digits (d2 i % 256) (byte_digits (n / 256 % 256) (byte_digits (n % 256) [])))
  where
    d2 : n / 256 / 256 ≡ n / 65536
    d2 = omega arith

pub eight_bytes : (n : ℕ) → n < 2 ^ 64 → hexadecimal 16 n
    ≡ byte_digits (n / 2 ^ 56 % 256) (byte_digits (n / 2 ^ 48 % 256) (byte_digits (n / 2 ^ 40 % 256) (byte_digits (n / 2 ^ 32 % 256) (byte_digits (n / 2 ^ 24 % 256) (byte_digits (n / 65536 % 256) (byte_digits (n / 256 % 256) (byte_digits (n % 256) [])))))))
eight_bytes n small =
    hexadecimal_is 15 n small (omega arith) ∙ spread_bytes 8 n []
    ∙ (λ i. byte_digits (d7 i % 256) (byte_digits (d6 i % 256) (byte_digits (d5 i % 256) (byte_digits (d4 i % 256) (byte_digits (d3 i % 256) (byte_digits (d2 i % 256) (byte_digits (n / 256 % 256) (byte_digits (n % 256) []))))))))
  where
    more : (a : ℕ) {q : ℕ} → q ≡ n / 2 ^ a → n / 2 ^ a / 256 ≡ n / 2 ^ (a + 8) → q / 256 ≡ n / 2 ^ (a + 8)
    more a e step = ap (λ q. q / 256) e ∙ step

    d2 : n / 256 / 256 ≡ n / 2 ^ 16
    d2 = omega arith

    d3 : n / 256 / 256 / 256 ≡ n / 2 ^ 24
    d3 = more 16 d2 (omega arith)

    d4 : n / 256 / 256 / 256 / 256 ≡ n / 2 ^ 32
    d4 = more 24 d3 (omega arith)

    d5 : n / 256 / 256 / 256 / 256 / 256 ≡ n / 2 ^ 40
    d5 = more 32 d4 (omega arith)

    d6 : n / 256 / 256 / 256 / 256 / 256 / 256 ≡ n / 2 ^ 48
    d6 = more 40 d5 (omega arith)

    d7 : n / 256 / 256 / 256 / 256 / 256 / 256 / 256 ≡ n / 2 ^ 56
    d7 = more 48 d6 (omega arith)

-- a digit below ten is the same in both bases
one : (n : ℕ) → n < 10 → decimal n ≡ digit_glyph true n ∷ []
one n small = decimal_digit n small ∙ ap (λ g. g ∷ []) (sym (cond-true (ltb n 10) (48 + n) (55 + n) (lt-ltb _ _ small)))

-- a line that packs is listed
pub is_listed : (l : Line) (w : ℕ) → packed l ≡ Ok w → listed l ≡ true
is_listed l w h = go (listed l) refl h
  where
    go : (t : Bool) → listed l ≡ t → cond {A = Result ℕ Fault} t (Ok (word l)) (Err (own NotALine (number_of_kind l.kind))) ≡ Ok w → listed l ≡ true
    go true e h = e
    go false e h = grind (arith, common_steps)

pub kind_small : (k : Kind) → number_of_kind k < 10
kind_small CardToMemory = omega arith
kind_small MemoryToCard = omega arith
kind_small Verify = omega arith
kind_small Store = omega arith

bit_small : (b : Bool) → bit b < 10
bit_small true = omega arith
bit_small false = omega arith

pub channel_small : (l : Line) → listed l ≡ true → l.channel < 10
channel_small l h = grind (arith, common_steps)

-- the numbers of a listed line up to its level have one digit each
pub marks : (l : Line) → listed l ≡ true → codes " " ++ (marks_text l ++ codes " level ")
    ≡ codes " kind " ++ (digit_glyph true (number_of_kind l.kind) ∷ (codes " channel " ++ (digit_glyph true l.channel ∷ (codes " wide " ++ (digit_glyph true (bit l.wide) ∷ (codes " last " ++ (digit_glyph true (bit l.last) ∷ codes " level ")))))))
marks l h =
    let kind = one (number_of_kind l.kind) (kind_small l.kind) in
    let channel = one l.channel (channel_small l h) in
    let wide = one (bit l.wide) (bit_small l.wide) in
    let ending = one (bit l.last) (bit_small l.last) in
    λ i. codes " " ++ ((codes "kind " ++ (kind i ++ (codes " channel " ++ (channel i ++ (codes " wide " ++ (wide i ++ (codes " last " ++ ending i))))))) ++ codes " level ")

pub address_small : (l : Line) → listed l ≡ true → l.address < 2 ^ 24
address_small l h = grind (arith, common_steps)

pub unit_small : (l : Line) → listed l ≡ true → l.unit < 65536
unit_small l h = grind (arith, common_steps)

-- what is written so is ASCII

under : (d : ℕ) → d < 16 → digit_glyph true d < 128
under d small = go (ltb d 10)
  where
    go : (t : Bool) → cond t (48 + d) (55 + d) < 128
    go true = omega arith
    go false = omega arith

spread_ascii : (k n : ℕ) (acc : List ℕ) → IsAscii acc → IsAscii (spread k n acc)
spread_ascii zero n acc h = h
spread_ascii (suc k) n acc h = spread_ascii k (n / 16) (digit_glyph true (n % 16) ∷ acc) (IsAscii-cons _ acc (under (n % 16) (omega arith)) h)

pub hexadecimal_ascii : (k n : ℕ) → n < 16 ^ suc k → k < 64 → IsAscii (hexadecimal (suc k) n)
hexadecimal_ascii k n small deep = subst IsAscii (sym (hexadecimal_is k n small deep)) (spread_ascii (suc k) n [] IsAscii-nil)

plain : (bs : List ℕ) → list_all is_ascii bs ≡ true → IsAscii bs
plain [] h = IsAscii-nil
plain (b ∷ bs) h = let p = and_parts _ _ h in IsAscii-cons b bs (ltb-true b 128 p.0) (plain bs p.1)

-- a literal before a text
led : (xs ys : List ℕ) → list_all is_ascii xs ≡ true → IsAscii ys → IsAscii (xs ++ ys)
led xs ys h rest = IsAscii-append xs ys (plain xs h) rest

pub word_ascii : (n : ℕ) → n < 2 ^ 64 → IsAscii (hexadecimal 16 n)
word_ascii n small = hexadecimal_ascii 15 n small (omega arith)

pub registers_ascii : (c : Channel) → memory_address c < 2 ^ 24 → c.count < 65536 → c.io < 65536 → c.mode < 256 → IsAscii (registers_text c)
registers_ascii c a n i m =
    led (codes ": address ") _ refl (IsAscii-append _ _ (hexadecimal_ascii 5 (memory_address c) a (omega arith))
    (led (codes " count ") _ refl (IsAscii-append _ _ (hexadecimal_ascii 3 c.count n (omega arith))
    (led (codes " io ") _ refl (IsAscii-append _ _ (hexadecimal_ascii 3 c.io i (omega arith))
    (led (codes " mode ") _ refl (IsAscii-append _ _ (hexadecimal_ascii 1 c.mode m (omega arith)) (plain (codes " ") refl))))))))

pub tail_ascii : (l : Line) → listed l ≡ true → IsAscii (codes " address " ++ (hexadecimal 6 l.address ++ (codes " unit " ++ hexadecimal 4 l.unit)))
tail_ascii l h =
    led (codes " address ") _ refl (IsAscii-append _ _ (hexadecimal_ascii 5 l.address (address_small l h) (omega arith))
    (led (codes " unit ") _ refl (hexadecimal_ascii 3 l.unit (unit_small l h) (omega arith))))

digit_alone : (n : ℕ) → n < 10 → IsAscii (decimal n)
digit_alone n small = subst IsAscii (sym (one n small)) (IsAscii-cons _ [] (under n (omega arith)) IsAscii-nil)

pub head_ascii : (l : Line) → listed l ≡ true → IsAscii (codes " " ++ (marks_text l ++ codes " level "))
head_ascii l h =
    led (codes " ") (marks_text l ++ codes " level ") refl (IsAscii-append (marks_text l) (codes " level ")
    (led (codes "kind ") _ refl (IsAscii-append _ _ (digit_alone _ (kind_small l.kind))
    (led (codes " channel ") _ refl (IsAscii-append _ _ (digit_alone _ (channel_small l h))
    (led (codes " wide ") _ refl (IsAscii-append _ _ (digit_alone _ (bit_small l.wide))
    (led (codes " last ") _ refl (digit_alone _ (bit_small l.last)))))))))
    (plain (codes " level ") refl))

-- what cannot be an error is a value
pub no_err : {X Y : Type 0} (r : Result X Y) (P : X → Type 0) (Q : Y → Type 0) → MatchResult r P Q → ((y : Y) → Q y → ⊥) → IsOk r
no_err (Ok x) P Q h never = refl
no_err (Err y) P Q h never = absurd (never y h)
