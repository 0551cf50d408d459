-- A journal word, most significant field first: kind 4 bits, channel 3, wide 1, last 1, level 4, zero 11, address 24, unit 16.
use Rattle.std.specs.Prelude.{ℕ, ◌+◌, ◌*◌, ◌/◌, ◌%◌, ◌^◌, Bool, true, false, cond, not, ◌&&◌, Some, None, Ok, Err, Option, Result, ok_or, ◌==◌, nat_le, nat_lt}
use Rattle.fault.specs.declared.Fault.{Fault}
use Rattle.fault.specs.declared.Refusal.TheVariants.{NotALine}
use Rattle.fault.specs.Numbers.{own}
use Rattle.journal.specs.declared.Kind.{Kind}
use Rattle.journal.specs.declared.Kind.TheVariants.{CardToMemory, MemoryToCard, Verify, Store}
use Rattle.journal.specs.declared.Line.{Line}

-- the number of each kind
abbrev pub number_of_kind : Kind → ℕ
number_of_kind CardToMemory = 1
number_of_kind MemoryToCard = 2
number_of_kind Verify = 3
number_of_kind Store = 4

-- the kind at its own number, at any other what the other kinds say
abbrev pub numbered : Kind → ℕ → Option Kind → Option Kind
numbered kind k others = cond (k == number_of_kind kind) (Some kind) others

-- the kind of a number
abbrev pub kind_of : ℕ → Option Kind
kind_of k = numbered CardToMemory k (numbered MemoryToCard k (numbered Verify k (numbered Store k None)))

-- the kind of a number, or the refusal of a number that no kind has
abbrev pub kind_read : ℕ → Result Kind Fault
kind_read k = ok_or (kind_of k) (own NotALine k)

-- what a line of each kind keeps to, besides its fields' widths
abbrev pub suits : Kind → Line → Bool
suits CardToMemory l = nat_le l.level 14
suits MemoryToCard l = nat_le l.level 14
suits Verify l = nat_le l.level 14 && l.unit == 0
suits Store l = l.channel == 0 && (not l.wide && (not l.last && l.level == 15))

-- which lines there are
abbrev pub listed : Line → Bool
listed l = nat_le l.channel 7 && (nat_lt l.address (2 ^ 24) && (nat_lt l.unit (cond l.wide (2 ^ 16) 256) && suits l.kind l))

-- a field of one bit
abbrev pub bit : Bool → ℕ
bit true = 1
bit false = 0

-- the fields of a line in their places
abbrev pub word : Line → ℕ
word l = number_of_kind l.kind * 2 ^ 60 + l.channel * 2 ^ 57 + bit l.wide * 2 ^ 56 + bit l.last * 2 ^ 55 + l.level * 2 ^ 51 + l.address * 2 ^ 16 + l.unit

-- the word of a line, where there is such a line
abbrev pub packed : Line → Result ℕ Fault
packed l = cond (listed l) (Ok (word l)) (Err (own NotALine (number_of_kind l.kind)))

-- the fields that stand in a word beneath its kind
abbrev pub fields : Kind → ℕ → Line
fields kind w =
    record {
      kind = kind;
      channel = w / 2 ^ 57 % 8;
      wide = (w / 2 ^ 56 % 2 == 1);
      last = (w / 2 ^ 55 % 2 == 1);
      level = w / 2 ^ 51 % 16;
      address = w / 2 ^ 16 % 2 ^ 24;
      unit = w % 2 ^ 16;
    }

-- the line in a word of a kind, if the eleven bits are zero and there is such a line
abbrev pub line_in : Option Kind → ℕ → Option Line
line_in None w = None
line_in (Some kind) w = cond (w / 2 ^ 40 % 2 ^ 11 == 0 && listed (fields kind w)) (Some (fields kind w)) None

-- the line in a word, whose kind stands at the top
abbrev pub line_of : ℕ → Option Line
line_of w = line_in (kind_of (w / 2 ^ 60)) w

-- a line, or the refusal of a word that is none
abbrev pub or_refused : Option Line → ℕ → Result Line Fault
or_refused (Some l) w = Ok l
or_refused None w = Err (own NotALine (w / 2 ^ 60))

-- the line of a word, where it is one
abbrev pub unpacked : ℕ → Result Line Fault
unpacked w = or_refused (line_of w) w
