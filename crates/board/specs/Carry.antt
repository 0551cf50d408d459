-- What carry checks, in order, and what the moving of one unit leaves.
use Rattle.std.specs.Prelude.{◌≡◌, ℕ, ◌+◌, ◌*◌, ◌/◌, ◌%◌, ◌^◌, ◌<◌, Bool, true, false, cond, not, ◌&&◌, ◌||◌, List, length, Ok, Err, Result, ◌==◌, nat_lt, slice_index, slice_set}
use Rattle.fault.specs.declared.Fault.{Fault}
use Rattle.fault.specs.declared.Refusal.{Refusal}
use Rattle.fault.specs.declared.Refusal.TheVariants.{JournalFull, CannotServe}
use Rattle.fault.specs.Numbers.{number, own}
use Rattle.dma.specs.declared.channel.Channel.{Channel}
use Rattle.dma.specs.declared.controller.Mark.TheVariants.{Last}
use Rattle.dma.specs.Channels.{has, after, memory_address, stepped, with_mask}
use Rattle.dma.specs.Registers.{marked, with_status}
use Rattle.journal.specs.declared.Kind.{Kind as LineKind}
use Rattle.journal.specs.declared.Kind.TheVariants.{CardToMemory, MemoryToCard, Verify as VerifyLine}
use Rattle.journal.specs.declared.Line.{Line}
use Rattle.journal.specs.Layout.{word}
use Rattle.journal.specs.Room.{full}
use Rattle.memory.specs.Meaning.{Answer, Contents, written, from_memory}
use Rattle.rack.specs.Meaning.{Levels, Level, able, gives, gave, took, told, is_giver, is_taker}
use Rattle.board.specs.declared.carry.Motion.{Motion}
use Rattle.board.specs.declared.carry.Motion.TheVariants.{ToMemory, ToCard, Verify}
use Rattle.board.specs.declared.carry.Transfer.{Transfer}
use Rattle.board.specs.declared.state.Arbitration.{Arbitration}
use Rattle.board.specs.declared.state.Board.{Board}
use Rattle.board.specs.State.{channel_at, with_channel, with_dma, with_arbitration, with_lines}

-- mode bit 6 is 16-bit units, bit 3 writes memory from a giver, bit 2 moves units
abbrev pub wide_mode : ℕ → Bool
wide_mode mode = has mode 64

abbrev pub motion_of : ℕ → Motion
motion_of mode = cond (has mode 4) (cond (has mode 8) ToMemory ToCard) Verify

abbrev pub same : Bool → Bool → Bool
same true b = b
same false b = not b

-- the channel is open at the level, and the line is up
abbrev pub asked : Channel → Level → ℕ → Bool
asked c v l = not c.masked && (c.level == l && v.line)

-- the card is of the mode's width and kind
abbrev pub suits_card : ℕ → Level → Bool
suits_card mode v = same v.wide (wide_mode mode) && cond (has mode 8) (is_giver v.kind) (is_taker v.kind)

-- and able to give or take, unless the channel verifies
abbrev pub serves : ℕ → Level → Bool
serves mode v = suits_card mode v && (not (has mode 4) || able v)

-- the low byte's answer and then the high byte's
abbrev pub both : Answer → Answer → Answer
both (Ok x) b = b
both (Err f) b = Err f

abbrev pub span : (ℕ → Answer) → Bool → ℕ → Answer
span ask wide a = both (ask a) (cond wide (ask (after a 1)) (Ok tt))

-- all that asking may answer at an address of 32 bits is what the function tells
abbrev pub AnswersBy : (ℕ → Answer → Type 0) → (ℕ → Answer) → Type 0
AnswersBy may_answer answers = (a : ℕ) (x : Answer) → a < 2 ^ 32 → may_answer a x → x ≡ answers a

-- a verify asks for reading only
abbrev pub memory_answer : Contents → Motion → Bool → ℕ → Answer
memory_answer m ToMemory wide a = span m.writes wide a
memory_answer m ToCard wide a = span m.reads wide a
memory_answer m Verify wide a = span m.reads wide a

-- the unit that channel n is to move at the level: the last where its count is 0
abbrev pub transfer : Channel → ℕ → ℕ → Transfer
transfer c l n = record { motion = motion_of c.mode; channel = n; level = l; wide = wide_mode c.mode; last = (c.count == 0); address = memory_address c }

abbrev pub by_memory : Answer → Transfer → Result Transfer Fault
by_memory (Ok x) t = Ok t
by_memory (Err f) t = Err (from_memory f)

-- full journal; mask, level and line; the card; memory
abbrev pub checked : Board → Contents → Levels → ℕ → ℕ → ℕ → Result Transfer Fault
checked b m r size l n =
    cond (full b.lines size) (Err (own JournalFull l))
    (cond (not (asked (channel_at b n) (r.at l) l)) (Err (own CannotServe l))
    (cond (not (serves (channel_at b n).mode (r.at l))) (Err (own CannotServe l))
    (by_memory (memory_answer m (motion_of (channel_at b n).mode) (wide_mode (channel_at b n).mode) (memory_address (channel_at b n))) (transfer (channel_at b n) l n))))

-- what the checks have shown of a transfer
abbrev pub card_able_for : Motion → Level → Bool
card_able_for ToMemory v = gives v
card_able_for ToCard v = is_taker v.kind && nat_lt 0 v.room
card_able_for Verify v = true

pub record Ready (t : Transfer) (m : Contents) (r : Levels) : Type 0 where
  pub channel_low : t.channel < 8
  pub level_low : t.level < 15
  pub address_low : t.address < 16777216
  pub same_width : (r.at t.level).wide ≡ t.wide
  pub memory_yes : memory_answer m t.motion t.wide t.address ≡ Ok tt
  pub card_able : card_able_for t.motion (r.at t.level) ≡ true

-- a unit's low byte lies at the address and its high byte at the next
abbrev pub fetched : Contents → Bool → ℕ → ℕ
fetched m wide a = m.byte a + cond wide (256 * m.byte (after a 1)) 0

abbrev pub landed : Contents → Bool → ℕ → ℕ → Contents
landed m wide a u = cond wide (written (written m a (u % 256)) (after a 1) (u / 256)) (written m a (u % 256))

-- the unit that is moved, and the memory and rack after it
abbrev pub unit_of : Motion → Contents → Levels → Transfer → ℕ
unit_of ToMemory m r t = slice_index (r.at t.level).waiting 0
unit_of ToCard m r t = fetched m t.wide t.address
unit_of Verify m r t = 0

abbrev pub memory_moved : Motion → Contents → Transfer → ℕ → Contents
memory_moved ToMemory m t u = landed m t.wide t.address u
memory_moved ToCard m t u = m
memory_moved Verify m t u = m

abbrev pub rack_moved : Motion → Levels → Transfer → ℕ → Levels
rack_moved ToMemory r t u = gave r t.level
rack_moved ToCard r t u = took r t.level u
rack_moved Verify r t u = r

-- the line of a unit
abbrev pub line_kind : Motion → LineKind
line_kind ToMemory = CardToMemory
line_kind ToCard = MemoryToCard
line_kind Verify = VerifyLine

abbrev pub line_of : Transfer → ℕ → Line
line_of t u = record { kind = line_kind t.motion; channel = t.channel; wide = t.wide; last = t.last; level = t.level; address = t.address; unit = u }

-- the last unit sets the channel's mask and its status bit
abbrev pub ended : Board → ℕ → Board
ended b n = with_dma (with_channel b n (with_mask (channel_at b n) true)) (with_status b.dma (marked b.dma.status n Last))

abbrev pub channel_stepped : Board → Transfer → Board
channel_stepped b t = with_channel b t.channel (stepped (channel_at b t.channel) t.wide)

-- the unit's channel stepped, and ended after the last unit
abbrev pub stepped_or_ended : Board → Transfer → Board
stepped_or_ended b t = cond t.last (ended (channel_stepped b t) t.channel) (channel_stepped b t)

-- the board after a unit
abbrev pub counted : Board → Transfer → Board
counted b t = with_lines (stepped_or_ended b t) (b.lines + 1)

-- the card is told the last unit
abbrev pub told_if : Bool → Levels → ℕ → Levels
told_if last r l = cond last (told r l) r

-- everything after a carry
pub record Outcome : Type 0 where
  pub board : Board
  pub memory : Contents
  pub rack : Levels
  pub journal : List ℕ
  pub answer : Result Bool Fault

abbrev pub these : Board → Contents → Levels → List ℕ → Result Bool Fault → Outcome
these b m r j a = record { board = b; memory = m; rack = r; journal = j; answer = a }

abbrev pub performed : Board → Contents → Levels → List ℕ → Transfer → ℕ → Outcome
performed b m r j t u =
    these (counted b t) (memory_moved t.motion m t u) (told_if t.last (rack_moved t.motion r t u) t.level)
    (slice_set j b.lines (word (line_of t u))) (Ok true)

-- bits 5 and 6 of port 0090
abbrev pub with_failure : Arbitration → Arbitration
with_failure a = record a { mask = true; timeout = true }

-- a full journal leaves port 0090 as it was
abbrev pub failing : Refusal → Board → Board
failing why b = cond (number why == number JournalFull) b (with_arbitration b (with_failure b.arbitration))

abbrev pub outcome : Result Transfer Fault → Board → Contents → Levels → List ℕ → Outcome
outcome (Err f) b m r j = these (failing f.refusal b) m r j (Err f)
outcome (Ok t) b m r j = performed b m r j t (unit_of t.motion m r t)

-- carry for a grant of the level to channel n; at level 15 nothing moves
abbrev pub carried : Board → Contents → Levels → List ℕ → ℕ → ℕ → Outcome
carried b m r j l n = cond (l == 15) (these b m r j (Ok false)) (outcome (checked b m r (length j) l n) b m r j)
