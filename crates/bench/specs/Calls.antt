-- What each entry of a script answers and leaves; an entry that is no call does nothing.
use Rattle.std.specs.Prelude.{◌≡◌, ℕ, zero, suc, ◌-◌, Bool, true, false, Some, None, Ok, Err, is_err, Option, Result, length, slice_get}
use Rattle.fault.specs.declared.Fault.{Fault}
use Rattle.journal.specs.Lookup.{Found}
use Rattle.runs.specs.declared.Call.{Call}
use Rattle.runs.specs.declared.Call.TheVariants as call
use Rattle.runs.specs.declared.Reply.TheVariants as told
use Rattle.runs.specs.World.{World, Answer as CallAnswer, after, answer}
use Rattle.script.specs.declared.Entry.{Entry}
use Rattle.script.specs.declared.Entry.TheVariants as entry
use Rattle.bench.specs.declared.machine.Answer.{Answer}
use Rattle.bench.specs.declared.machine.Outcome.{Outcome}
use Rattle.bench.specs.declared.machine.Outcome.TheVariants.{Done, Byte, Place, Carried}
use Rattle.runs.specs.Law.{words}

-- the answers that refuse
abbrev pub refuses : Answer → Bool
refuses a = is_err a.outcome

-- an entry that brings nothing
abbrev pub done : Answer
done = record { winner = None; outcome = Ok Done }

-- the answer of the look-up
abbrev pub line : Result ℕ Fault → Answer
line (Ok place) = record { winner = None; outcome = Ok (Place place) }
line (Err f) = record { winner = None; outcome = Err f }

-- the call that an entry is, but for ticks and the look-up
abbrev pub call_of : Entry → Option Call
call_of (entry.Part p) = None
call_of (entry.In p) = Some (call.ReadPort p)
call_of (entry.Out p v) = Some (call.WritePort p v)
call_of (entry.Tick n) = None
call_of entry.Acknowledge = Some call.Acknowledge
call_of (entry.Arrive l u) = Some (call.Arrive l u)
call_of (entry.Load a) = Some (call.Load a)
call_of (entry.Store a v) = Some (call.Store a v)
call_of entry.Reset = Some call.Reset
call_of entry.Grant = Some call.Grant
call_of (entry.Find a) = None
call_of entry.State = None
call_of (entry.Level l) = None
call_of entry.Lines = None

-- what a call brings: the word of its line where a carry put one down
abbrev pub brought : CallAnswer → Option ℕ → Result Outcome Fault
brought (Ok told.Done) word = Ok Done
brought (Ok (told.Byte v)) word = Ok (Byte v)
brought (Ok (told.Carried true)) word = Ok (Carried word)
brought (Ok (told.Carried false)) word = Ok (Carried None)
brought (Err f) word = Err f

-- the answer of a call as it is printed, with the level that won
abbrev pub shown : CallAnswer → Option ℕ → Option ℕ → Answer
shown answer winner word = record { winner = winner; outcome = brought answer word }

-- the level that won the bus, after a grant
abbrev pub winner_of : World → Call → Option ℕ
winner_of w (call.ReadPort p) = None
winner_of w (call.WritePort p v) = None
winner_of w call.Tick = None
winner_of w call.Acknowledge = None
winner_of w (call.Arrive l u) = None
winner_of w (call.Load a) = None
winner_of w (call.Store a v) = None
winner_of w call.Reset = None
winner_of w call.Grant = Some w.board.arbitration.winner

-- the word of the line put down last
abbrev pub last_word : World → Option ℕ
last_word w = slice_get (words w) (length (words w) - 1)

abbrev pub shown_of : World → Call → Answer
shown_of w c = shown (answer w c) (winner_of (after w c) c) (last_word (after w c))

-- the world after n ticks
unfoldable pub ticks : ℕ → World → World
ticks zero w = w
ticks (suc n) w = after (ticks n w) call.Tick

-- an answer that the look-up may give
abbrev pub FoundLine : World → ℕ → Answer → Type 0
FoundLine w a found = (r : Result ℕ Fault) × Found (words w) a r × (found ≡ line r)

-- what an entry leaves
abbrev pub left_by : Entry → World → World
left_by (entry.Part p) w = w
left_by (entry.In p) w = after w (call.ReadPort p)
left_by (entry.Out p v) w = after w (call.WritePort p v)
left_by (entry.Tick n) w = ticks n w
left_by entry.Acknowledge w = after w call.Acknowledge
left_by (entry.Arrive l u) w = after w (call.Arrive l u)
left_by (entry.Load a) w = after w (call.Load a)
left_by (entry.Store a v) w = after w (call.Store a v)
left_by entry.Reset w = after w call.Reset
left_by entry.Grant w = after w call.Grant
left_by (entry.Find a) w = w
left_by entry.State w = w
left_by (entry.Level l) w = w
left_by entry.Lines w = w

-- the answers of an entry; which of several lines the look-up gives is free
abbrev pub Answers : World → Entry → Answer → Type 0
Answers w (entry.Part p) r = r ≡ done
Answers w (entry.In p) r = r ≡ shown_of w (call.ReadPort p)
Answers w (entry.Out p v) r = r ≡ shown_of w (call.WritePort p v)
Answers w (entry.Tick n) r = r ≡ done
Answers w entry.Acknowledge r = r ≡ shown_of w call.Acknowledge
Answers w (entry.Arrive l u) r = r ≡ shown_of w (call.Arrive l u)
Answers w (entry.Load a) r = r ≡ shown_of w (call.Load a)
Answers w (entry.Store a v) r = r ≡ shown_of w (call.Store a v)
Answers w entry.Reset r = r ≡ shown_of w call.Reset
Answers w entry.Grant r = r ≡ shown_of w call.Grant
Answers w (entry.Find a) r = FoundLine w a r
Answers w entry.State r = r ≡ done
Answers w (entry.Level l) r = r ≡ done
Answers w entry.Lines r = r ≡ done
