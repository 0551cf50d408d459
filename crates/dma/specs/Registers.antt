-- The controller's registers as ports 0018 and 001A reach them.
use Rattle.std.specs.Prelude.{ℕ, ◌+◌, ◌*◌, ◌/◌, ◌%◌, ◌^◌, Bool, true, false, cond, not, List, [], ◌∷◌, map, Some, None, Ok, Err, Option, Result, bit_or, nat_le, slice_index, slice_index_or, slice_set}
use Rattle.fault.specs.declared.Refusal.{Refusal}
use Rattle.fault.specs.declared.Refusal.TheVariants.{NotListed, WrongWay}
use Rattle.dma.specs.declared.channel.Channel.{Channel}
use Rattle.dma.specs.declared.command.Direction.TheVariants.{Function, Write, Read}
use Rattle.dma.specs.declared.command.Part.{Part}
use Rattle.dma.specs.declared.command.Part.TheVariants.{IoLow, IoHigh, AddressLow, AddressMiddle, AddressHigh, CountLow, CountHigh, Mode, Level}
use Rattle.dma.specs.declared.command.Action.{Action}
use Rattle.dma.specs.declared.command.Action.TheVariants.{Select, SetMask, ClearMask, MasterClear, Status, Register}
use Rattle.dma.specs.declared.controller.Controller.{Controller}
use Rattle.dma.specs.declared.controller.Mark.{Mark}
use Rattle.dma.specs.declared.controller.Mark.TheVariants.{Last, Request}
use Rattle.dma.specs.Channels.{has, with_mask}
use Rattle.dma.specs.Commands.{channel_of, decided}

-- what a read past the table would give: all zero
abbrev pub no_channel : Channel
no_channel = record { address = 0; count = 0; io = 0; mode = 0; masked = false; level = 0 }

-- channel n of the table
abbrev pub nth_channel : List Channel → ℕ → Channel
nth_channel cs n = slice_index_or cs n no_channel

-- one byte of a channel's registers
abbrev pub part_of : Part → Channel → ℕ
part_of IoLow c = c.io % 256
part_of IoHigh c = c.io / 256
part_of AddressLow c = c.address % 256
part_of AddressMiddle c = c.address / 256 % 256
part_of AddressHigh c = c.address / 65536 % 256
part_of CountLow c = c.count % 256
part_of CountHigh c = c.count / 256
part_of Mode c = c.mode
part_of Level c = c.level

abbrev pub with_io : Channel → ℕ → Channel
with_io c v = record { address = c.address; count = c.count; io = v; mode = c.mode; masked = c.masked; level = c.level }

abbrev pub with_address : Channel → ℕ → Channel
with_address c v = record { address = v; count = c.count; io = c.io; mode = c.mode; masked = c.masked; level = c.level }

abbrev pub with_count : Channel → ℕ → Channel
with_count c v = record { address = c.address; count = v; io = c.io; mode = c.mode; masked = c.masked; level = c.level }

abbrev pub with_mode : Channel → ℕ → Channel
with_mode c v = record { address = c.address; count = c.count; io = c.io; mode = v; masked = c.masked; level = c.level }

abbrev pub with_level : Channel → ℕ → Channel
with_level c v = record { address = c.address; count = c.count; io = c.io; mode = c.mode; masked = c.masked; level = v }

-- the channel with that byte put in, the register's others kept
abbrev pub with_part : Part → Channel → ℕ → Channel
with_part IoLow c b = with_io c (c.io / 256 * 256 + b)
with_part IoHigh c b = with_io c (b * 256 + c.io % 256)
with_part AddressLow c b = with_address c (c.address / 256 * 256 + b)
with_part AddressMiddle c b = with_address c (c.address / 65536 * 65536 + b * 256 + c.address % 256)
with_part AddressHigh c b = with_address c (b * 65536 + c.address % 65536)
with_part CountLow c b = with_count c (c.count / 256 * 256 + b)
with_part CountHigh c b = with_count c (b * 256 + c.count % 256)
with_part Mode c b = with_mode c b
with_part Level c b = with_level c b

-- a mode byte has no bit but 6, 3 and 2; a level is 14 at most
abbrev pub takes_byte : Part → ℕ → Bool
takes_byte IoLow b = true
takes_byte IoHigh b = true
takes_byte AddressLow b = true
takes_byte AddressMiddle b = true
takes_byte AddressHigh b = true
takes_byte CountLow b = true
takes_byte CountHigh b = true
takes_byte Mode b = not (has b 0xB3)
takes_byte Level b = nat_le b 14

-- the byte pointer after that byte: 0 after the register's last
abbrev pub next_pointer : Part → ℕ
next_pointer IoLow = 1
next_pointer IoHigh = 0
next_pointer AddressLow = 1
next_pointer AddressMiddle = 2
next_pointer AddressHigh = 0
next_pointer CountLow = 1
next_pointer CountHigh = 0
next_pointer Mode = 0
next_pointer Level = 0

-- at power-on and after a master clear
abbrev pub cleared : Controller
cleared = record { function = 0; pointer = 0; status = 0 ∷ 0 ∷ [] }

abbrev pub selected : Controller → ℕ → Controller
selected k f = record { function = f; pointer = 0; status = k.status }

abbrev pub with_pointer : Controller → ℕ → Controller
with_pointer k p = record { function = k.function; pointer = p; status = k.status }

-- status bits 3-0: a last unit; bits 7-4: a request
abbrev pub first_bit : Mark → ℕ
first_bit Last = 0
first_bit Request = 4

abbrev pub group : ℕ → ℕ
group n = n % 8 / 4

abbrev pub marked : List ℕ → ℕ → Mark → List ℕ
marked s n m = slice_set s (group n) (bit_or (slice_index s (group n)) (2 ^ (first_bit m + n % 4)))

abbrev pub with_status : Controller → List ℕ → Controller
with_status k s = record { function = k.function; pointer = k.pointer; status = s }

-- channel n of the table with its mask so
abbrev pub masked_at : List Channel → ℕ → Bool → List Channel
masked_at cs n m = slice_set cs n (with_mask (nth_channel cs n) m)

abbrev pub all_masked : List Channel → List Channel
all_masked cs = map (λ c. with_mask c true) cs

-- what a write to port 0018 or 001A answers and leaves
pub record WriteOutcome : Type 0 where
  pub answer : Result (Unit {0}) Refusal
  pub controller : Controller
  pub channels : List Channel

abbrev pub refused_write : Controller → List Channel → Refusal → WriteOutcome
refused_write k cs why = record { answer = Err why; controller = k; channels = cs }

abbrev pub function_by : Option Action → Controller → List Channel → ℕ → WriteOutcome
function_by None k cs f = refused_write k cs NotListed
function_by (Some Select) k cs f = record { answer = Ok tt; controller = selected k f; channels = cs }
function_by (Some SetMask) k cs f = record { answer = Ok tt; controller = selected k f; channels = masked_at cs (channel_of f) true }
function_by (Some ClearMask) k cs f = record { answer = Ok tt; controller = selected k f; channels = masked_at cs (channel_of f) false }
function_by (Some MasterClear) k cs f = record { answer = Ok tt; controller = cleared; channels = all_masked cs }
function_by (Some Status) k cs f = refused_write k cs NotListed
function_by (Some (Register p)) k cs f = refused_write k cs NotListed

-- a function byte to port 0018
abbrev pub function_written : Controller → List Channel → ℕ → WriteOutcome
function_written k cs f = function_by (decided f Function k.pointer) k cs f

abbrev pub part_written : Part → Controller → List Channel → ℕ → WriteOutcome
part_written p k cs b =
    cond (takes_byte p b)
    (record {
      answer = Ok tt;
      controller = with_pointer k (next_pointer p);
      channels = slice_set cs (channel_of k.function) (with_part p (nth_channel cs (channel_of k.function)) b);
    })
    (refused_write k cs NotListed)

abbrev pub data_by : Option Action → Controller → List Channel → ℕ → WriteOutcome
data_by None k cs b = refused_write k cs WrongWay
data_by (Some Select) k cs b = refused_write k cs WrongWay
data_by (Some SetMask) k cs b = refused_write k cs WrongWay
data_by (Some ClearMask) k cs b = refused_write k cs WrongWay
data_by (Some MasterClear) k cs b = refused_write k cs WrongWay
data_by (Some Status) k cs b = refused_write k cs WrongWay
data_by (Some (Register p)) k cs b = part_written p k cs b

-- a byte to port 001A
abbrev pub data_written : Controller → List Channel → ℕ → WriteOutcome
data_written k cs b = data_by (decided k.function Write k.pointer) k cs b

-- what a read of port 001A answers and leaves; the channels stay
pub record ReadOutcome : Type 0 where
  pub answer : Result ℕ Refusal
  pub controller : Controller

abbrev pub refused_read : Controller → ReadOutcome
refused_read k = record { answer = Err WrongWay; controller = k }

-- a status byte reads and is zeroed
abbrev pub status_read : Controller → ℕ → ReadOutcome
status_read k g = record { answer = Ok (slice_index k.status g); controller = with_pointer (with_status k (slice_set k.status g 0)) 0 }

abbrev pub read_by : Option Action → Controller → List Channel → ReadOutcome
read_by None k cs = refused_read k
read_by (Some Select) k cs = refused_read k
read_by (Some SetMask) k cs = refused_read k
read_by (Some ClearMask) k cs = refused_read k
read_by (Some MasterClear) k cs = refused_read k
read_by (Some Status) k cs = status_read k (group k.function)
read_by (Some (Register p)) k cs = record
    { answer = Ok (part_of p (nth_channel cs (channel_of k.function))); controller = with_pointer k (next_pointer p) }

-- a byte from port 001A
abbrev pub data_read : Controller → List Channel → ReadOutcome
data_read k cs = read_by (decided k.function Read k.pointer) k cs
