-- What is printed of the board's registers.
use Rattle.std.specs.Prelude.{ℕ, Bool, Ok, Err, Result, ◌+◌, ◌*◌, List, ◌++◌, codes, slice_index, if◌then◌else◌}
use Rattle.std.specs.Fmt.{decimal}
use Rattle.std.specs.declared.option.Option.{Option}
use Rattle.std.specs.declared.option.Option.TheVariants.{None, Some}
use Rattle.fault.specs.Text.{hexadecimal}
use Rattle.fault.specs.declared.Fault.{Fault}
use Rattle.journal.specs.declared.Line.{Line}
use Rattle.journal.specs.Layout.{unpacked}
use Rattle.journal.specs.Text.{line_text}
use Rattle.dma.specs.declared.channel.Channel.{Channel}
use Rattle.dma.specs.declared.controller.Controller.{Controller}
use Rattle.dma.specs.Channels.{memory_address}
use Rattle.timer.specs.declared.counter.Setting.{Setting}
use Rattle.timer.specs.Counting.{mode_number, access_bits}
use Rattle.board.specs.declared.state.Arbitration.{Arbitration}
use Rattle.board.specs.declared.state.Registers.{Registers}
use Rattle.board.specs.Ports.{bit}

-- bits 7 to 5 of port 0090
abbrev pub high_bits : Arbitration → ℕ
high_bits a = 128 * bit a.bit7 + 64 * bit a.mask + 32 * bit a.timeout

-- a channel's registers up to the mask, the address in its 24 bits
abbrev pub registers_text : Channel → List ℕ
registers_text c =
    codes ": address " ++ (hexadecimal 6 (memory_address c) ++ (codes " count " ++ (hexadecimal 4 c.count ++ (codes " io " ++ (hexadecimal 4 c.io ++ (codes " mode " ++ (hexadecimal 2 c.mode ++ codes " ")))))))

-- a channel by its number
abbrev pub channel_text : ℕ → Channel → List ℕ
channel_text n c =
    codes "channel " ++ (decimal n ++ (registers_text c ++ ((if c.masked then codes "masked" else codes "open") ++ (codes " level " ++ decimal c.level))))

-- function byte, byte pointer, and the status of channels 0 to 3 and 4 to 7
abbrev pub controller_text : Controller → List ℕ
controller_text c =
    codes "dma: function " ++ (hexadecimal 2 c.function ++ (codes " pointer " ++ (decimal c.pointer ++ (codes " status " ++ (hexadecimal 2 (slice_index c.status 0) ++ (codes " " ++ hexadecimal 2 (slice_index c.status 1)))))))

-- a counter that is not set up shows OUT alone
abbrev pub setting_text : Option Setting → List ℕ
setting_text None = codes " not set up"
setting_text (Some s) = codes " mode " ++ (decimal (mode_number s.mode) ++ (codes " bytes " ++ (decimal (access_bits s.access) ++ (codes " standing " ++ decimal s.standing))))

-- OUT, and what is set up
abbrev pub counter_text : ℕ → Bool → Option Setting → List ℕ
counter_text n out setting = codes "counter " ++ (decimal n ++ (codes ": out " ++ (decimal (bit out) ++ setting_text setting)))

-- ports 0061 and 0090, the last winner, the latch, and how many lines were put down
abbrev pub ports_text : Registers → List ℕ
ports_text r =
    codes "ports: 0061 " ++ (hexadecimal 2 r.port61 ++ (codes " 0090 " ++ (hexadecimal 2 (high_bits r.arbitration) ++ (codes " winner " ++ (decimal r.arbitration.winner
    ++ (codes " latch " ++ (decimal (bit r.timers.latch) ++ (codes " lines " ++ decimal r.lines))))))))

-- the fields of the line that a word holds
abbrev pub held_text : Result Line Fault → List ℕ
held_text (Ok l) = codes " " ++ line_text l
held_text (Err f) = codes " no line"

-- a word of the journal by its place, in sixteen digits, and what it holds
abbrev pub word_text : ℕ → ℕ → List ℕ
word_text place w = codes "line " ++ (decimal place ++ (codes ": " ++ (hexadecimal 16 w ++ held_text (unpacked w))))
