-- Worked cases, from power-on through the ports, by the rules together.
use Rattle.std.specs.Prelude.{◌≡◌, ℕ, zero, suc, Bool, true, false, cond, List, [], ◌∷◌, ◌++◌, replicate, Ok, Err, ◌==◌, slice_index_or}
use Rattle.fault.specs.declared.Refusal.TheVariants.{CountOfOne}
use Rattle.fault.specs.Numbers.{own}
use Rattle.memory.specs.Meaning.{Contents}
use Rattle.rack.specs.declared.Kind.TheVariants.{Empty, Giver}
use Rattle.rack.specs.Meaning.{Level, Levels}
use Rattle.board.specs.declared.state.Board.{Board}
use Rattle.board.specs.State.{unused, channel_at}
use Rattle.board.specs.Ports.{port_written, port_read, tick_after, acknowledge_after}
use Rattle.board.specs.Carry.{Outcome}
use Rattle.board.specs.Calls.{cycled}

-- a byte for a port
pub record PortByte : Type 0 where
  pub port : ℕ
  pub byte : ℕ

-- bytes for port 001A, and before them a function byte for 0018
abbrev pub data_bytes : List ℕ → List PortByte
data_bytes [] = []
data_bytes (v ∷ vs) = record { port = 0x1A; byte = v } ∷ data_bytes vs

abbrev pub command : ℕ → List ℕ → List PortByte
command f vs = record { port = 0x18; byte = f } ∷ data_bytes vs

-- the board after the bytes are written in turn
abbrev pub after_writes : Board → List PortByte → Board
after_writes b [] = b
after_writes b (v ∷ vs) = after_writes (port_written b v.port v.byte).board vs

-- a memory with every byte 0, all of it there
abbrev pub blank : Contents
blank = record { byte = λ a. 0; reads = λ a. Ok tt; writes = λ a. Ok tt }

-- a rack with one giver, its line up while a unit waits
abbrev pub waits : List ℕ → Bool
waits [] = false
waits (u ∷ us) = true

abbrev pub giver : Bool → List ℕ → Level
giver wide units = record { kind = Giver; wide = wide; line = waits units; waiting = units; taken = []; room = 9 }

abbrev pub vacant : Level
vacant = record { kind = Empty; wide = false; line = false; waiting = []; taken = []; room = 0 }

abbrev pub giver_at : ℕ → Bool → List ℕ → Levels
giver_at l wide units = record { at = λ k. cond (k == l) (giver wide units) vacant; rule = λ k v e. v.line }

-- channel 2 from power-on: address, count, mode, mask cleared
abbrev pub opened : List ℕ → List ℕ → ℕ → Board
opened address count mode = after_writes unused (command 0x22 address ++ (command 0x42 count ++ (command 0x72 (mode ∷ []) ++ command 0xA2 [])))

-- 22 to port 0018 and FF, FF, 01 to port 001A leave address 01FFFF
abbrev pub AddressCase : Type 0
AddressCase = (channel_at (after_writes unused (command 0x22 (0xFF ∷ 0xFF ∷ 0x01 ∷ []))) 2).address ≡ 0x01FFFF

-- with count 0, mode 0C, open, and 41 waiting in an 8-bit giver on level 2, one grant and carry
abbrev pub one_byte : Outcome
one_byte = cycled (opened (0xFF ∷ 0xFF ∷ 0x01 ∷ []) (0 ∷ 0 ∷ []) 0x0C) blank (giver_at 2 false (0x41 ∷ [])) (replicate 4 0)

-- the byte lands; address 020000, count FFFF, masked
pub record ByteCase : Type 0 where
  pub answered : one_byte.answer ≡ Ok true
  pub lands : one_byte.memory.byte 0x01FFFF ≡ 0x41
  pub address : (channel_at one_byte.board 2).address ≡ 0x020000
  pub count : (channel_at one_byte.board 2).count ≡ 0xFFFF
  pub masked : (channel_at one_byte.board 2).masked ≡ true

-- 62 to port 0018, and the board after one status read
abbrev pub status_asked : Board
status_asked = after_writes one_byte.board (command 0x62 [])

abbrev pub status_read_once : Board
status_read_once = (port_read status_asked 0x1A).board

-- the line is 14900001FFFF0041; status reads 44, then 00
pub record LineCase : Type 0 where
  pub line : slice_index_or one_byte.journal 0 0 ≡ 0x14900001FFFF0041
  pub status : (port_read status_asked 0x1A).answer ≡ Ok 0x44
  pub again : (port_read status_read_once 0x1A).answer ≡ Ok 0x00

-- the 16-bit unit 1234 at FFFFFF
abbrev pub wrapping : Outcome
wrapping = cycled (opened (0xFF ∷ 0xFF ∷ 0xFF ∷ []) (0 ∷ 0 ∷ []) 0x4C) blank (giver_at 2 true (0x1234 ∷ [])) (replicate 4 0)

-- leaves 34 there and 12 at 000000
pub record WideCase : Type 0 where
  pub low : wrapping.memory.byte 0xFFFFFF ≡ 0x34
  pub high : wrapping.memory.byte 0x000000 ≡ 0x12

-- count 1: two grants with their carries, of 41 and 42
abbrev pub first_unit : Outcome
first_unit = cycled (opened (0 ∷ 0 ∷ 0 ∷ []) (1 ∷ 0 ∷ []) 0x0C) blank (giver_at 2 false (0x41 ∷ 0x42 ∷ [])) (replicate 4 0)

abbrev pub second_unit : Outcome
second_unit = cycled first_unit.board first_unit.memory first_unit.rack first_unit.journal

-- the second unit is the last: its line is marked and the channel masked, the first's is not
pub record CountCase : Type 0 where
  pub first_line : slice_index_or second_unit.journal 0 0 ≡ 0x1410000000000041
  pub first_open : (channel_at first_unit.board 2).masked ≡ false
  pub second_line : slice_index_or second_unit.journal 1 0 ≡ 0x1490000000010042
  pub second_masked : (channel_at second_unit.board 2).masked ≡ true

-- Counters, by port writes and ticks.

-- a byte for each of some ports
abbrev pub to : ℕ → ℕ → PortByte
to p v = record { port = p; byte = v }

abbrev pub after_ticks : ℕ → Board → Board
after_ticks zero b = b
after_ticks (suc n) b = after_ticks n (tick_after b)

-- OUT 0 after each of n ticks
abbrev pub outs : ℕ → Board → List Bool
outs zero b = []
outs (suc n) b = (tick_after b).timers.system.out ∷ outs n (tick_after b)

-- bit 6 of port 0090 after each of n ticks
abbrev pub stops : ℕ → Board → List Bool
stops zero b = []
stops (suc n) b = (tick_after b).arbitration.mask ∷ stops n (tick_after b)

-- counter 0 under a control byte with a count, low byte first
abbrev pub counter_0 : ℕ → ℕ → Board
counter_0 control low = after_writes unused (to 0x43 control ∷ to 0x40 low ∷ to 0x40 0 ∷ [])

-- 34 with 3: OUT 0 falls on tick 3, rises on 4 and 7; 36 with 3: low on tick 3, high on 4; 30 with 2: rises on tick 3
pub record CounterCase : Type 0 where
  pub rate : outs 7 (counter_0 0x34 3) ≡ true ∷ true ∷ false ∷ true ∷ true ∷ false ∷ true ∷ []
  pub square : outs 4 (counter_0 0x36 3) ≡ true ∷ true ∷ false ∷ true ∷ []
  pub terminal : outs 3 (counter_0 0x30 2) ≡ false ∷ false ∷ true ∷ []

-- counter 0 in mode 2 with the low byte of its count written
abbrev pub half_written : ℕ → Board
half_written low = after_writes unused (to 0x43 0x34 ∷ to 0x40 low ∷ [])

-- 34 with 1 gets 4 and changes nothing; 34 with 2 is taken
pub record OneCase : Type 0 where
  pub refused : (port_written (half_written 1) 0x40 0).answer ≡ Err (own CountOfOne 0x40)
  pub unaltered : (port_written (half_written 1) 0x40 0).board ≡ half_written 1
  pub taken : (port_written (half_written 2) 0x40 0).answer ≡ Ok tt

-- a watchdog of 2 beside a counter 0 that rises on ticks 3, 5, 7 and 9, the latch clear
abbrev pub watched : Board
watched = after_writes (counter_0 0x34 2) (to 0x47 0x10 ∷ to 0x44 2 ∷ [])

-- rise 3 stops arbitration; acknowledged after rise 2, rise 4 does
pub record WatchdogCase : Type 0 where
  pub third : stops 7 watched ≡ false ∷ false ∷ false ∷ false ∷ false ∷ false ∷ true ∷ []
  pub fourth : stops 4 (acknowledge_after (after_ticks 5 watched)) ≡ false ∷ false ∷ false ∷ true ∷ []
