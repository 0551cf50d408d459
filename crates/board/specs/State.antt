-- The board's registers, and the board with one group of them put anew.
use Rattle.std.specs.Prelude.{ℕ, false, List, [], ◌∷◌, slice_set}
use Rattle.dma.specs.declared.channel.Channel.{Channel}
use Rattle.dma.specs.declared.controller.Controller.{Controller}
use Rattle.dma.specs.Channels.{fresh}
use Rattle.dma.specs.Registers.{nth_channel, cleared}
use Rattle.timer.specs.declared.timers.Timers.{Timers}
use Rattle.timer.specs.Timing.{at_power_on}
use Rattle.board.specs.declared.state.Arbitration.{Arbitration}
use Rattle.board.specs.declared.state.Board.{Board}
use Rattle.board.specs.declared.state.Registers.{Registers}

-- what a look at the board shows: every register as it is
abbrev pub shown : Board → Registers
shown b = record { channels = b.channels; dma = b.dma; arbitration = b.arbitration; timers = b.timers; port61 = b.port61; lines = b.lines }

-- channel n of the board
abbrev pub channel_at : Board → ℕ → Channel
channel_at b n = nth_channel b.channels n

abbrev pub with_channels : Board → List Channel → Board
with_channels b cs = record b { channels = cs }

abbrev pub with_channel : Board → ℕ → Channel → Board
with_channel b n c = with_channels b (slice_set b.channels n c)

abbrev pub with_dma : Board → Controller → Board
with_dma b k = record b { dma = k }

abbrev pub with_arbitration : Board → Arbitration → Board
with_arbitration b a = record b { arbitration = a }

abbrev pub with_lines : Board → ℕ → Board
with_lines b n = record b { lines = n }

abbrev pub with_timers : Board → Timers → Board
with_timers b t = record b { timers = t }

-- bits 3-0 of port 0061
abbrev pub with_port61 : Board → ℕ → Board
with_port61 b v = record b { port61 = v }

-- At power-on all is 0 but the masks; a channel's level is its number, and the last winner is 15.
abbrev pub first_channels : List Channel
first_channels = fresh 0 ∷ fresh 1 ∷ fresh 2 ∷ fresh 3 ∷ fresh 4 ∷ fresh 5 ∷ fresh 6 ∷ fresh 7 ∷ []

abbrev pub at_rest : Arbitration
at_rest = record { bit7 = false; mask = false; timeout = false; winner = 15 }

-- the power-on state, with that many lines put down
abbrev pub started : ℕ → Board
started n = record { channels = first_channels; dma = cleared; arbitration = at_rest; timers = at_power_on; port61 = 0; lines = n }

-- a board that has had no call
abbrev pub unused : Board
unused = started 0

-- a reset keeps the line count and nothing else
abbrev pub was_reset : Board → Board
was_reset b = started b.lines
