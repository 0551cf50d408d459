-- The entries of a script: their names, their operands, and what a line reads as.
use Rattle.std.specs.Prelude.{ℕ, ◌^◌, ◌<◌, ◌≤◌, Bool, true, false, cond, not, ◌&&◌, ◌||◌, List, [], ◌∷◌, Some, None, Ok, Err, codes, Option, Result, ok_or, unwrap_or}
use Rattle.std.specs.Str.{bytes_eq}
use Rattle.script.specs.declared.number.Base.{Base}
use Rattle.script.specs.declared.number.Base.TheVariants.{Decimal, Hexadecimal}
use Rattle.script.specs.declared.names.Name.{Name}
use Rattle.script.specs.declared.names.Name.TheVariants as name
use Rattle.script.specs.declared.operands.Operand.{Operand}
use Rattle.script.specs.declared.Part.{Part}
use Rattle.script.specs.declared.Part.TheVariants as part
use Rattle.script.specs.declared.Entry.{Entry}
use Rattle.script.specs.declared.Entry.TheVariants as entry
use Rattle.script.specs.declared.Misread.{Misread}
use Rattle.script.specs.declared.Misread.TheVariants.{UnknownEntry, TooFewWords, TooManyWords, BadNumber}
use Rattle.script.specs.Number.{numeral}
use Rattle.script.specs.Words.{is_empty, before_comment, first_word, word_of, after_word}

-- the word of each name
abbrev pub text_of : Name → List ℕ
text_of name.Memory = codes "memory"
text_of name.Protect = codes "protect"
text_of name.Scale = codes "scale"
text_of name.Printer = codes "printer"
text_of name.Journal = codes "journal"
text_of name.In = codes "in"
text_of name.Out = codes "out"
text_of name.Tick = codes "tick"
text_of name.Acknowledge = codes "ack"
text_of name.Arrive = codes "arrive"
text_of name.Load = codes "load"
text_of name.Store = codes "store"
text_of name.Reset = codes "reset"
text_of name.Grant = codes "grant"
text_of name.Find = codes "find"
text_of name.State = codes "state"
text_of name.Level = codes "level"
text_of name.Lines = codes "lines"

-- every name
abbrev pub every : List Name
every = name.Memory ∷ name.Protect ∷ name.Scale ∷ name.Printer ∷ name.Journal ∷ name.In ∷ name.Out ∷ name.Tick ∷ name.Acknowledge ∷ name.Arrive ∷ name.Load ∷ name.Store ∷ name.Reset ∷ name.Grant ∷ name.Find ∷ name.State ∷ name.Level ∷ name.Lines ∷ []

-- the first of some names whose word a text is
abbrev pub name_among : List Name → List ℕ → Option Name
name_among [] t = None
name_among (n ∷ ns) t = cond (bytes_eq t (text_of n)) (Some n) (name_among ns t)

-- the name that a text is
abbrev pub name_of : List ℕ → Option Name
name_of t = name_among every t

-- the name that a text is, or else why the line is no entry
abbrev pub named : List ℕ → Result Name Misread
named t = ok_or (name_of t) UnknownEntry

-- an operand that has to be there
abbrev pub required : Base → ℕ → Option Operand
required base limit = Some (record { base = base; limit = limit; absent = None })

-- the first operand of each entry; a tick without a count is one
abbrev pub first_of : Name → Option Operand
first_of name.Memory = required Decimal 16777216
first_of name.Protect = required Hexadecimal 4294967295
first_of name.Scale = required Decimal 255
first_of name.Printer = required Decimal 255
first_of name.Journal = required Decimal 65536
first_of name.In = required Hexadecimal 65535
first_of name.Out = required Hexadecimal 65535
first_of name.Tick = Some (record { base = Decimal; limit = 16777215; absent = Some 1 })
first_of name.Acknowledge = None
first_of name.Arrive = required Decimal 255
first_of name.Load = required Hexadecimal 4294967295
first_of name.Store = required Hexadecimal 4294967295
first_of name.Reset = None
first_of name.Grant = None
first_of name.Find = required Hexadecimal 4294967295
first_of name.State = None
first_of name.Level = required Decimal 255
first_of name.Lines = None

-- the second operand of each entry
abbrev pub second_of : Name → Option Operand
second_of name.Memory = None
second_of name.Protect = required Hexadecimal 4294967295
second_of name.Scale = None
second_of name.Printer = None
second_of name.Journal = None
second_of name.In = None
second_of name.Out = required Hexadecimal 255
second_of name.Tick = None
second_of name.Acknowledge = None
second_of name.Arrive = required Hexadecimal 65535
second_of name.Load = None
second_of name.Store = required Hexadecimal 255
second_of name.Reset = None
second_of name.Grant = None
second_of name.Find = None
second_of name.State = None
second_of name.Level = None
second_of name.Lines = None

-- the most that an operand may be
abbrev pub limit_of : Option Operand → ℕ
limit_of None = 0
limit_of (Some o) = o.limit

-- what an operand is without its word keeps its limit
abbrev pub AbsentWithin : Option Operand → Type 0
AbsentWithin None = Unit {0}
AbsentWithin (Some o) = unwrap_or o.absent 0 ≤ o.limit

-- the entry of a name with its operands
abbrev pub built : Name → ℕ → ℕ → Entry
built name.Memory a b = entry.Part (part.Memory a)
built name.Protect a b = entry.Part (part.Protect a b)
built name.Scale a b = entry.Part (part.Scale a)
built name.Printer a b = entry.Part (part.Printer a)
built name.Journal a b = entry.Part (part.Journal a)
built name.In a b = entry.In a
built name.Out a b = entry.Out a b
built name.Tick a b = entry.Tick a
built name.Acknowledge a b = entry.Acknowledge
built name.Arrive a b = entry.Arrive a b
built name.Load a b = entry.Load a
built name.Store a b = entry.Store a b
built name.Reset a b = entry.Reset
built name.Grant a b = entry.Grant
built name.Find a b = entry.Find a
built name.State a b = entry.State
built name.Level a b = entry.Level a
built name.Lines a b = entry.Lines

-- whether there is nothing
abbrev pub is_none : {X : Type 0} → Option X → Bool
is_none None = true
is_none (Some x) = false

-- whether a word has to be there and is not
abbrev pub lacks : Option Operand → Option (List ℕ) → Bool
lacks None w = false
lacks (Some o) w = is_none o.absent && is_none w

-- whether a word is there that no operand takes
abbrev pub exceeds : Option Operand → Option (List ℕ) → Bool
exceeds None w = not (is_none w)
exceeds (Some o) w = false

-- the number that a word gives for an operand
abbrev pub operand_value : Option Operand → Option (List ℕ) → Option ℕ
operand_value None w = Some 0
operand_value (Some o) None = o.absent
operand_value (Some o) (Some w) = numeral o.base o.limit w

-- the entry, if both numbers are
abbrev pub entry_with : Name → Option ℕ → Option ℕ → Result Entry Misread
entry_with n None b = Err BadNumber
entry_with n (Some a) None = Err BadNumber
entry_with n (Some a) (Some b) = Ok (built n a b)

-- the entry of a name and three words: first their number is tested, then the numbers they write
abbrev pub entry_of : Name → Option (List ℕ) → Option (List ℕ) → Option (List ℕ) → Result Entry Misread
entry_of n a b more =
    cond (lacks (first_of n) a || lacks (second_of n) b) (Err TooFewWords)
    (cond (exceeds (first_of n) a || (exceeds (second_of n) b || not (is_none more))) (Err TooManyWords)
    (entry_with n (operand_value (first_of n) a) (operand_value (second_of n) b)))

-- the entry of a name, if it is one, and the words of a text
abbrev pub entry_called : Result Name Misread → List ℕ → Result Entry Misread
entry_called (Err why) rest = Err why
entry_called (Ok n) rest = entry_of n (word_of rest) (word_of (after_word rest)) (word_of (after_word (after_word rest)))

-- an entry that was read, as one of the lines that may have none
abbrev pub some_read : Result Entry Misread → Result (Option Entry) Misread
some_read (Ok e) = Ok (Some e)
some_read (Err why) = Err why

-- what a text without a comment reads as; one with no word is no entry
abbrev pub plain_reading : List ℕ → Result (Option Entry) Misread
plain_reading t = cond (is_empty (first_word t)) (Ok None) (some_read (entry_called (named (first_word t)) (after_word t)))

-- what a line reads as
abbrev pub reading : List ℕ → Result (Option Entry) Misread
reading line = plain_reading (before_comment line)

-- the numbers of a part are within their limits
abbrev pub PartWithin : Part → Type 0
PartWithin (part.Memory a) = a ≤ 16777216
PartWithin (part.Protect a b) = (a < 2 ^ 32) × (b < 2 ^ 32)
PartWithin (part.Scale a) = a < 2 ^ 8
PartWithin (part.Printer a) = a < 2 ^ 8
PartWithin (part.Journal a) = a ≤ 65536

-- the numbers of an entry are within their limits
abbrev pub Within : Entry → Type 0
Within (entry.Part p) = PartWithin p
Within (entry.In a) = a < 2 ^ 16
Within (entry.Out a b) = (a < 2 ^ 16) × (b < 2 ^ 8)
Within (entry.Tick a) = a < 2 ^ 24
Within entry.Acknowledge = Unit {0}
Within (entry.Arrive a b) = (a < 2 ^ 8) × (b < 2 ^ 16)
Within (entry.Load a) = a < 2 ^ 32
Within (entry.Store a b) = (a < 2 ^ 32) × (b < 2 ^ 8)
Within entry.Reset = Unit {0}
Within entry.Grant = Unit {0}
Within (entry.Find a) = a < 2 ^ 32
Within entry.State = Unit {0}
Within (entry.Level a) = a < 2 ^ 8
Within entry.Lines = Unit {0}

-- the same of a line, which may have no entry
abbrev pub WithinLine : Option Entry → Type 0
WithinLine None = Unit {0}
WithinLine (Some e) = Within e

-- the entries that lay out the board before the first call
abbrev pub is_rig_entry : Entry → Bool
is_rig_entry (entry.Part p) = true
is_rig_entry (entry.In a) = false
is_rig_entry (entry.Out a b) = false
is_rig_entry (entry.Tick a) = false
is_rig_entry entry.Acknowledge = false
is_rig_entry (entry.Arrive a b) = false
is_rig_entry (entry.Load a) = false
is_rig_entry (entry.Store a b) = false
is_rig_entry entry.Reset = false
is_rig_entry entry.Grant = false
is_rig_entry (entry.Find a) = false
is_rig_entry entry.State = false
is_rig_entry (entry.Level a) = false
is_rig_entry entry.Lines = false

-- what is told of a line that is no entry
abbrev pub told : Misread → List ℕ
told UnknownEntry = codes "unknown entry"
told TooFewWords = codes "too few words"
told TooManyWords = codes "too many words"
told BadNumber = codes "a number that does not fit"
