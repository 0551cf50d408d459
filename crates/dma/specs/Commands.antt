-- What a function byte asks for: command in bits 7-4, 0 in bit 3, channel in bits 2-0.
use Rattle.std.specs.Prelude.{ℕ, ◌/◌, ◌%◌, Bool, cond, ◌&&◌, ◌||◌, Some, None, Option, ◌==◌, nat_le}
use Rattle.dma.specs.declared.command.Direction.{Direction}
use Rattle.dma.specs.declared.command.Direction.TheVariants.{Function, Write, Read}
use Rattle.dma.specs.declared.command.Part.{Part}
use Rattle.dma.specs.declared.command.Part.TheVariants.{IoLow, IoHigh, AddressLow, AddressMiddle, AddressHigh, CountLow, CountHigh, Mode, Level}
use Rattle.dma.specs.declared.command.Action.{Action}
use Rattle.dma.specs.declared.command.Action.TheVariants.{Select, SetMask, ClearMask, MasterClear, Status, Register}

abbrev pub command : ℕ → ℕ
command f = f / 16

abbrev pub channel_of : ℕ → ℕ
channel_of f = f % 8

-- only channels 0 and 4 have a level register
abbrev pub has_level : ℕ → Bool
has_level f = channel_of f % 4 == 0

-- the register's bytes, low first
abbrev pub io_part : ℕ → Part
io_part p = cond (p == 0) IoLow IoHigh

abbrev pub address_part : ℕ → Part
address_part p = cond (p == 0) AddressLow (cond (p == 1) AddressMiddle AddressHigh)

abbrev pub count_part : ℕ → Part
count_part p = cond (p == 0) CountLow CountHigh

-- registers that port 001A may read and write alike: I/O address, mode, level
abbrev pub both_ways : ℕ → ℕ → Option Action → Option Action
both_ways f p otherwise =
    cond (command f == 0) (Some (Register (io_part p)))
    (cond (command f == 7) (Some (Register Mode))
    (cond (command f == 8 && has_level f) (Some (Register Level)) otherwise))

-- commands 2 and 4 write address and count; 3, 5 and 6 read address, count and status
abbrev pub data_action : Direction → ℕ → ℕ → Option Action
data_action Function f p = None
data_action Write f p =
    both_ways f p
    (cond (command f == 2) (Some (Register (address_part p)))
    (cond (command f == 4) (Some (Register (count_part p))) None))
data_action Read f p =
    both_ways f p
    (cond (command f == 3) (Some (Register (address_part p)))
    (cond (command f == 5) (Some (Register (count_part p)))
    (cond (command f == 6) (Some Status) None)))

-- commands 9, A and D act at once; 0 and 2 to 7, and 8 for a channel that has a level, name a register
abbrev pub function_action : ℕ → Option Action
function_action f =
    cond (command f == 9) (Some SetMask)
    (cond (command f == 10) (Some ClearMask)
    (cond (command f == 13) (Some MasterClear)
    (cond ((command f == 0 || (nat_le 2 (command f) && nat_le (command f) 7)) || (command f == 8 && has_level f)) (Some Select) None)))

abbrev pub by_direction : Direction → ℕ → ℕ → Option Action
by_direction Function f p = function_action f
by_direction Write f p = data_action Write f p
by_direction Read f p = data_action Read f p

-- no byte with bit 3 set is listed
abbrev pub decided : ℕ → Direction → ℕ → Option Action
decided f d p = cond (f / 8 % 2 == 1) None (by_direction d f p)
