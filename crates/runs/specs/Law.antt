-- What holds of every list of calls: the rules say what one call does, this says what all of them come to.
use Rattle.std.specs.Prelude.{◌≡◌, ℕ, ◌+◌, ◌*◌, ◌/◌, ◌%◌, ◌<◌, ◌≤◌, Bool, true, false, cond, not, ◌&&◌, ◌||◌, List, [], ◌∷◌, ◌++◌, map, length, get_or, take, drop, Some, None, Ok, Err, Option, Result, ◌==◌, slice_index_or}
use Rattle.fault.specs.declared.Fault.{Fault}
use Rattle.dma.specs.declared.channel.Channel.{Channel}
use Rattle.dma.specs.Channels.{has, after as onward, unit_bytes}
use Rattle.dma.specs.Commands.{command, channel_of}
use Rattle.timer.specs.declared.timers.CountPort.TheVariants.{System, Speaker, Watchdog}
use Rattle.timer.specs.Counting.{written}
use Rattle.timer.specs.Timing.{rises}
use Rattle.timer.specs.Watchdog.{unanswered as how_many}
use Rattle.journal.specs.declared.Kind.{Kind}
use Rattle.journal.specs.declared.Kind.TheVariants.{CardToMemory, MemoryToCard, Verify, Store as StoreKind}
use Rattle.journal.specs.declared.Line.{Line}
use Rattle.journal.specs.Layout.{unpacked}
use Rattle.memory.specs.Meaning.{Contents, put}
use Rattle.rack.specs.Meaning.{Levels, all_fit}
use Rattle.board.specs.declared.ports.Port.{Port}
use Rattle.board.specs.declared.ports.Port.TheVariants.{Function, Data, Count, Control, WatchdogControl, SystemControlB, Arbiter, SystemControlA}
use Rattle.board.specs.declared.state.Board.{Board}
use Rattle.board.specs.State.{channel_at}
use Rattle.board.specs.Ports.{port_of}
use Rattle.board.specs.Carry.{wide_mode}
use Rattle.board.specs.Calls.{store_line}
use Rattle.runs.specs.declared.Call.{Call}
use Rattle.runs.specs.declared.Call.TheVariants.{ReadPort, WritePort, Tick, Acknowledge, Arrive, Load, Store, Reset, Grant}
use Rattle.runs.specs.declared.Reply.TheVariants.{Done, Byte, Carried}
use Rattle.runs.specs.World.{World, opening, after, Answer, answer, run}

-- The journal's lines.

-- the line in a word; the words that are put down all hold one
abbrev pub read_line : Result Line Fault → Line
read_line (Ok x) = x
read_line (Err f) = store_line 0 0

abbrev pub line_in : ℕ → Line
line_in word = read_line (unpacked word)

-- the words put down so far are the journal's first, and these are their lines
abbrev pub words : World → List ℕ
words w = take w.board.lines w.journal

abbrev pub lines : World → List Line
lines w = map line_in (words w)

-- the lines that were put down from one state to a later one
abbrev pub since : World → World → List Line
since w v = drop (length (lines w)) (lines v)

-- each word holds a line
unfoldable pub Readable : List ℕ → Type 0
Readable [] = Unit {0}
Readable (word ∷ ws) = (unpacked word ≡ Ok (line_in word)) × Readable ws

-- at no call of the list, each on the result so far, does the test come out true
unfoldable pub Never : (World → Call → Bool) → World → List Call → Type 0
Never test w [] = Unit {0}
Never test w (c ∷ cs) = (test w c ≡ false) × Never test (after w c) cs

abbrev pub is_store : Kind → Bool
is_store CardToMemory = false
is_store MemoryToCard = false
is_store Verify = false
is_store StoreKind = true

abbrev pub is_done : Answer → Bool
is_done (Ok Done) = true
is_done (Ok (Byte v)) = false
is_done (Ok (Carried line)) = false
is_done (Err f) = false

abbrev pub is_line : Answer → Bool
is_line (Ok Done) = false
is_line (Ok (Byte v)) = false
is_line (Ok (Carried line)) = line
is_line (Err f) = false

-- A. POSTING

-- kinds 1 and 4 store the low byte at the address and, when wide, the high byte behind it
abbrev pub landed_on : (ℕ → ℕ) → Line → ℕ → ℕ
landed_on f x = cond x.wide (put (put f x.address (x.unit % 256)) (onward x.address 1) (x.unit / 256)) (put f x.address (x.unit % 256))

abbrev pub posted_by : Kind → (ℕ → ℕ) → Line → ℕ → ℕ
posted_by CardToMemory f x = landed_on f x
posted_by MemoryToCard f x = f
posted_by Verify f x = f
posted_by StoreKind f x = landed_on f x

abbrev pub posted : (ℕ → ℕ) → Line → ℕ → ℕ
posted f x = posted_by x.kind f x

unfoldable pub post : (ℕ → ℕ) → List Line → ℕ → ℕ
post f [] = f
post f (x ∷ xs) = post (posted f x) xs

-- the units of the lines from cards to memory at one level, and from memory to cards, in order
abbrev pub is_given : Kind → Bool
is_given CardToMemory = true
is_given MemoryToCard = false
is_given Verify = false
is_given StoreKind = false

abbrev pub is_taken : Kind → Bool
is_taken CardToMemory = false
is_taken MemoryToCard = true
is_taken Verify = false
is_taken StoreKind = false

unfoldable pub units : (Kind → Bool) → ℕ → List Line → List ℕ
units of l [] = []
units of l (x ∷ xs) = cond (of x.kind && x.level == l) (x.unit ∷ units of l xs) (units of l xs)

-- the unit that a call brings to level k, if it is accepted
unfoldable pub brought : World → Call → ℕ → List ℕ
brought w (ReadPort p) k = []
brought w (WritePort p v) k = []
brought w Tick k = []
brought w Acknowledge k = []
brought w (Arrive l u) k = cond (k == l && is_done (answer w (Arrive l u))) (u ∷ []) []
brought w (Load a) k = []
brought w (Store a v) k = []
brought w Reset k = []
brought w Grant k = []

-- the accepted arrivals at a level, in order
unfoldable pub arrivals : World → List Call → ℕ → List ℕ
arrivals w [] k = []
arrivals w (c ∷ cs) k = brought w c k ++ arrivals (after w c) cs k

-- what a line tells of its making: a store of a byte at an address, or a carry at a level
pub data Making : Type 0 where
  by_store : ℕ → ℕ → Making
  by_carry : ℕ → Making

abbrev pub made_by : Kind → Line → Making
made_by CardToMemory x = by_carry x.level
made_by MemoryToCard x = by_carry x.level
made_by Verify x = by_carry x.level
made_by StoreKind x = by_store x.address x.unit

abbrev pub making : Line → Making
making x = made_by x.kind x

-- one line for an accepted store, and one for a carry that answers yes, at the level that won
unfoldable pub owed_by : World → Call → List Making
owed_by w (ReadPort p) = []
owed_by w (WritePort p v) = []
owed_by w Tick = []
owed_by w Acknowledge = []
owed_by w (Arrive l u) = []
owed_by w (Load a) = []
owed_by w (Store a v) = cond (is_done (answer w (Store a v))) (by_store a (v % 256) ∷ []) []
owed_by w Reset = []
owed_by w Grant = cond (is_line (answer w Grant)) (by_carry (after w Grant).board.arbitration.winner ∷ []) []

unfoldable pub owed : World → List Call → List Making
owed w [] = []
owed w (c ∷ cs) = owed_by w c ++ owed (after w c) cs

-- from w the calls lead to v: its bytes and units are those that lines and arrivals give, posted in order upon those of w;
-- its lines are those owed, in order and no other, and each word reads back
pub record Posting (w : World) (calls : List Call) (v : World) : Type 0 where
  pub bytes : (a : ℕ) → v.memory.byte a ≡ post w.memory.byte (since w v) a
  pub waiting : (l : ℕ) → (w.rack.at l).waiting ++ arrivals w calls l ≡ units is_given l (since w v) ++ (v.rack.at l).waiting
  pub taken : (l : ℕ) → (w.rack.at l).taken ++ units is_taken l (since w v) ≡ (v.rack.at l).taken
  pub each_line : map making (since w v) ≡ owed w calls
  pub reads_back : Readable (drop (length (words w)) (words v))

-- B. COUNTS

-- the lines of a channel: those of kinds 1 to 3 that carry it
unfoldable pub of_channel : ℕ → List Line → List Line
of_channel i [] = []
of_channel i (x ∷ xs) = cond (x.channel == i && not (is_store x.kind)) (x ∷ of_channel i xs) (of_channel i xs)

-- a function byte names its channel, a master clear every channel, a byte at port 001A the channel of the function byte
abbrev pub names : Option Port → ℕ → Board → ℕ → Bool
names None i b v = false
names (Some Function) i b v = command v == 13 || channel_of v == i
names (Some Data) i b v = channel_of b.dma.function == i
names (Some (Count c)) i b v = false
names (Some Control) i b v = false
names (Some WatchdogControl) i b v = false
names (Some SystemControlB) i b v = false
names (Some Arbiter) i b v = false
names (Some SystemControlA) i b v = false

-- accepted writes that name a channel, and a reset, touch it
unfoldable pub touches : ℕ → World → Call → Bool
touches i w (ReadPort p) = false
touches i w (WritePort p v) = names (port_of p) i w.board (v % 256) && is_done (answer w (WritePort p v))
touches i w Tick = false
touches i w Acknowledge = false
touches i w (Arrive l u) = false
touches i w (Load a) = false
touches i w (Store a v) = false
touches i w Reset = true
touches i w Grant = false

-- the lines of a channel from where it stood open as c: at most its count and one, their addresses in sequence,
-- and the one after as many as its count, if reached, alone the last
pub record InSequence (c : Channel) (xs : List Line) : Type 0 where
  pub most : length xs ≤ c.count + 1
  pub address : (k : ℕ) → k < length xs → (get_or xs k (store_line 0 0)).address ≡ onward c.address (k * unit_bytes (wide_mode c.mode))
  pub last : (k : ℕ) → k < length xs → (get_or xs k (store_line 0 0)).last ≡ (k == c.count)

pub record Counts (w : World) (calls : List Call) : Type 0 where
  -- while masked a channel has no line
  pub silent : (past : List Call) (c : Call) (rest : List Call) → calls ≡ past ++ (c ∷ rest) → (i : ℕ)
      → (channel_at (run w past).board i).masked ≡ true → of_channel i (since (run w past) (after (run w past) c)) ≡ []
  -- from any place where it is open, as long as it is untouched
  pub sequence : (past stretch rest : List Call) → calls ≡ past ++ (stretch ++ rest) → (i : ℕ) → i < 8
      → (channel_at (run w past).board i).masked ≡ false → Never (touches i) (run w past) stretch
      → InSequence (channel_at (run w past).board i) (of_channel i (since (run w past) (run (run w past) stretch)))

-- C. STOP

-- OUT 0 rises; a reset that lifts it is no rise
abbrev pub is_reset : Call → Bool
is_reset (ReadPort p) = false
is_reset (WritePort p v) = false
is_reset Tick = false
is_reset Acknowledge = false
is_reset (Arrive l u) = false
is_reset (Load a) = false
is_reset (Store a v) = false
is_reset Reset = true
is_reset Grant = false

abbrev pub out_0 : World → Bool
out_0 w = w.board.timers.system.out

abbrev pub rise : World → Call → Bool
rise w c = not (is_reset c) && rises (out_0 w) (out_0 (after w c))

-- for each rise of OUT 0 in the list, whether it found the latch set
unfoldable pub found : World → List Call → List Bool
found w [] = []
found w (c ∷ cs) = cond (rise w c) (w.board.timers.latch ∷ found (after w c) cs) (found (after w c) cs)

-- rises without an acknowledgement since the one before; the first rise only loads the count
abbrev pub unanswered : World → List Call → ℕ
unanswered w cs = how_many (drop 1 (found w cs))

-- an accepted byte at port 0044 or 0047, or a reset
abbrev pub reaches_watchdog : Option Port → Bool
reaches_watchdog None = false
reaches_watchdog (Some Function) = false
reaches_watchdog (Some Data) = false
reaches_watchdog (Some (Count System)) = false
reaches_watchdog (Some (Count Speaker)) = false
reaches_watchdog (Some (Count Watchdog)) = true
reaches_watchdog (Some Control) = false
reaches_watchdog (Some WatchdogControl) = true
reaches_watchdog (Some SystemControlB) = false
reaches_watchdog (Some Arbiter) = false
reaches_watchdog (Some SystemControlA) = false

unfoldable pub restarts : World → Call → Bool
restarts w (ReadPort p) = false
restarts w (WritePort p v) = reaches_watchdog (port_of p) && is_done (answer w (WritePort p v))
restarts w Tick = false
restarts w Acknowledge = false
restarts w (Arrive l u) = false
restarts w (Load a) = false
restarts w (Store a v) = false
restarts w Reset = true
restarts w Grant = false

-- a write to port 0090 with bit 6 clear, or a reset
abbrev pub clears_mask : Option Port → ℕ → Bool
clears_mask None v = false
clears_mask (Some Function) v = false
clears_mask (Some Data) v = false
clears_mask (Some (Count c)) v = false
clears_mask (Some Control) v = false
clears_mask (Some WatchdogControl) v = false
clears_mask (Some SystemControlB) v = false
clears_mask (Some Arbiter) v = not (has v 64)
clears_mask (Some SystemControlA) v = false

unfoldable pub lifts : World → Call → Bool
lifts w (ReadPort p) = false
lifts w (WritePort p v) = clears_mask (port_of p) (v % 256)
lifts w Tick = false
lifts w Acknowledge = false
lifts w (Arrive l u) = false
lifts w (Load a) = false
lifts w (Store a v) = false
lifts w Reset = true
lifts w Grant = false

-- the lines of kinds 1 to 3
unfoldable pub by_dma : List Line → List Line
by_dma [] = []
by_dma (x ∷ xs) = cond (is_store x.kind) (by_dma xs) (x ∷ by_dma xs)

-- no line of kinds 1 to 3 is put down, and no card gives or takes a unit
pub record Halted (w : World) (calls : List Call) (v : World) : Type 0 where
  pub no_line : by_dma (since w v) ≡ []
  pub waiting : (l : ℕ) → (w.rack.at l).waiting ++ arrivals w calls l ≡ (v.rack.at l).waiting
  pub taken : (l : ℕ) → (w.rack.at l).taken ≡ (v.rack.at l).taken

-- from the Nth unanswered rise of OUT 0 after an accepted count N at port 0044, 256 for 0, until the mask is lifted
abbrev pub Stop : World → List Call → Type 0
Stop w calls =
    (past : List Call) (n : ℕ) (counting : List Call) (nth : Call) (stretch rest : List Call)
    → calls ≡ past ++ (WritePort 0x44 n ∷ (counting ++ (nth ∷ (stretch ++ rest))))
    → answer (run w past) (WritePort 0x44 n) ≡ Ok Done
    → Never restarts (after (run w past) (WritePort 0x44 n)) (counting ++ (nth ∷ []))
    → unanswered (after (run w past) (WritePort 0x44 n)) counting < written 256 (n % 256)
    → unanswered (after (run w past) (WritePort 0x44 n)) (counting ++ (nth ∷ [])) ≡ written 256 (n % 256)
    → Never lifts (run (after (run w past) (WritePort 0x44 n)) (counting ++ (nth ∷ []))) stretch
    → Halted (run (after (run w past) (WritePort 0x44 n)) (counting ++ (nth ∷ []))) stretch
    (run (run (after (run w past) (WritePort 0x44 n)) (counting ++ (nth ∷ []))) stretch)

-- all three
pub record RunLaw (w : World) (calls : List Call) (v : World) : Type 0 where
  pub posting : Posting w calls v
  pub counts : Counts w calls
  pub stop : Stop w calls

-- a memory whose bytes are bytes, and a rack whose waiting units fit: what every make keeps
pub record Lawful (m : Contents) (r : Levels) : Type 0 where
  pub bytes : (a : ℕ) → m.byte a < 256
  pub units : (l : ℕ) → all_fit (r.at l).wide (r.at l).waiting ≡ true

-- whatever list has led to w from an unused board, all three hold of that list followed by the calls
abbrev pub GoesOn : World → List Call → World → Type 0
GoesOn w calls v =
    (m : Contents) (r : Levels) (j : List ℕ) (past : List Call) → Lawful m r → w ≡ run (opening m r j) past → RunLaw (opening m r j) (past ++ calls) v

-- each call's answer is the one that the rules give on the result so far
pub record Answered (w : World) (calls : List Call) (answers : List Answer) : Type 0 where
  pub as_many : length answers ≡ length calls
  pub each : (k : ℕ) → k < length calls → slice_index_or answers k (Ok Done) ≡ answer (run w (take k calls)) (slice_index_or calls k Tick)
