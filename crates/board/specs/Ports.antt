-- What a port access answers, and the board after it.
use Rattle.std.specs.Prelude.{ℕ, ◌+◌, ◌*◌, ◌%◌, Bool, true, cond, ◌&&◌, Some, None, Ok, Err, Option, Result, ◌==◌}
use Rattle.fault.specs.declared.Fault.{Fault}
use Rattle.fault.specs.declared.Refusal.{Refusal}
use Rattle.fault.specs.declared.Refusal.TheVariants.{NoSuchPort}
use Rattle.fault.specs.Numbers.{own}
use Rattle.dma.specs.Channels.{has}
use Rattle.dma.specs.Registers.{WriteOutcome, ReadOutcome, function_written, data_written, data_read}
use Rattle.timer.specs.declared.timers.CountPort.TheVariants.{System, Speaker, Watchdog}
use Rattle.timer.specs.declared.timers.Timers.{Timers}
use Rattle.timer.specs.Timing.{out3_rises, ticked, acknowledged, controlled, control_answer, watchdog_controlled, watchdog_answer, count_written, write_answer, count_read, read_from, gated}
use Rattle.board.specs.declared.ports.Port.{Port}
use Rattle.board.specs.declared.ports.Port.TheVariants.{Function, Data, Count, Control, WatchdogControl, SystemControlB, Arbiter, SystemControlA}
use Rattle.board.specs.declared.state.Arbitration.{Arbitration}
use Rattle.board.specs.declared.state.Board.{Board}
use Rattle.board.specs.State.{with_channels, with_dma, with_arbitration, with_timers, with_port61}

-- the ports that there are
abbrev pub port_of : ℕ → Option Port
port_of p =
    cond (p == 0x18) (Some Function)
    (cond (p == 0x1A) (Some Data)
    (cond (p == 0x40) (Some (Count System))
    (cond (p == 0x42) (Some (Count Speaker))
    (cond (p == 0x43) (Some Control)
    (cond (p == 0x44) (Some (Count Watchdog))
    (cond (p == 0x47) (Some WatchdogControl)
    (cond (p == 0x61) (Some SystemControlB)
    (cond (p == 0x90) (Some Arbiter)
    (cond (p == 0x92) (Some SystemControlA) None)))))))))

abbrev pub bit : Bool → ℕ
bit b = cond b 1 0

-- Port 0090.

-- it reads its bits 7 to 5, and the last winner in bits 3-0
abbrev pub arbitration_byte : Arbitration → ℕ
arbitration_byte a = 128 * bit a.bit7 + 64 * bit a.mask + 32 * bit a.timeout + a.winner % 16

-- it keeps bits 7 and 6 as written; with bit 6 clear, bit 5 is zeroed
abbrev pub arbitration_written : Arbitration → ℕ → Arbitration
arbitration_written a v = record a { bit7 = has v 128; mask = has v 64; timeout = has v 64 && a.timeout }

-- Timers on the board.

-- bit 6 of port 0090, where OUT 3 has risen
abbrev pub masked_if : Bool → Arbitration → Arbitration
masked_if rose a = record a { mask = cond rose true a.mask }

-- the board with its timers put anew; a rise of OUT 3 sets bit 6 of port 0090
abbrev pub timed : Board → Timers → Board
timed b t = with_arbitration (with_timers b t) (masked_if (out3_rises b.timers t) b.arbitration)

abbrev pub tick_after : Board → Board
tick_after b = timed b (ticked b.timers)

abbrev pub acknowledge_after : Board → Board
acknowledge_after b = with_timers b (acknowledged b.timers)

-- port 0061 keeps bits 3-0, of which bit 0 is the gate of counter 2; bit 7 clears the latch
abbrev pub answered_if : Bool → Timers → Timers
answered_if clear t = cond clear (acknowledged t) t

abbrev pub port61_written : Board → ℕ → Board
port61_written b v = with_port61 (with_timers b (answered_if (has v 128) (gated b.timers (has v 1)))) (v % 16)

-- it reads those bits, and OUT 2 as bit 5
abbrev pub port61_byte : Board → ℕ
port61_byte b = 32 * bit b.timers.speaker.out + b.port61 % 16

-- port 0092 reads OUT 3 as bit 4
abbrev pub port92_byte : Board → ℕ
port92_byte b = 16 * bit b.timers.watchdog.out

-- Writes.

-- a refusal of the controller or the timers, at the port
abbrev pub at_port : {X : Type 0} → Result X Refusal → ℕ → Result X Fault
at_port (Ok x) p = Ok x
at_port (Err why) p = Err (own why p)

-- an answer without its value
abbrev pub done : {X : Type 0} → Result X Refusal → Result (Unit {0}) Refusal
done (Ok x) = Ok tt
done (Err why) = Err why

pub record PortWrite : Type 0 where
  pub answer : Result (Unit {0}) Fault
  pub board : Board

abbrev pub no_write : Board → ℕ → PortWrite
no_write b p = record { answer = Err (own NoSuchPort p); board = b }

abbrev pub dma_write : Board → ℕ → WriteOutcome → PortWrite
dma_write b p o = record { answer = at_port o.answer p; board = with_dma (with_channels b o.channels) o.controller }

-- ports that are only read: 0092
abbrev pub write_by : Option Port → Board → ℕ → ℕ → PortWrite
write_by None b p v = no_write b p
write_by (Some Function) b p v = dma_write b p (function_written b.dma b.channels v)
write_by (Some Data) b p v = dma_write b p (data_written b.dma b.channels v)
write_by (Some (Count c)) b p v = record { answer = at_port (write_answer b.timers c v) p; board = with_timers b (count_written b.timers c v) }
write_by (Some Control) b p v = record { answer = at_port (done (control_answer b.timers v)) p; board = timed b (controlled b.timers v) }
write_by (Some WatchdogControl) b p v = record { answer = at_port (watchdog_answer v) p; board = with_timers b (watchdog_controlled b.timers v) }
write_by (Some SystemControlB) b p v = record { answer = Ok tt; board = port61_written b v }
write_by (Some Arbiter) b p v = record { answer = Ok tt; board = with_arbitration b (arbitration_written b.arbitration v) }
write_by (Some SystemControlA) b p v = no_write b p

-- a byte written to a port
abbrev pub port_written : Board → ℕ → ℕ → PortWrite
port_written b p v = write_by (port_of p) b p v

-- Reads.

pub record PortRead : Type 0 where
  pub answer : Result ℕ Fault
  pub board : Board

abbrev pub no_read : Board → ℕ → PortRead
no_read b p = record { answer = Err (own NoSuchPort p); board = b }

abbrev pub dma_read : Board → ℕ → ReadOutcome → PortRead
dma_read b p o = record { answer = at_port o.answer p; board = with_dma b o.controller }

-- ports that are only written: 0018, 0043, 0047
abbrev pub read_by : Option Port → Board → ℕ → PortRead
read_by None b p = no_read b p
read_by (Some Function) b p = no_read b p
read_by (Some Data) b p = dma_read b p (data_read b.dma b.channels)
read_by (Some (Count c)) b p = record { answer = at_port (read_from b.timers c) p; board = with_timers b (count_read b.timers c) }
read_by (Some Control) b p = no_read b p
read_by (Some WatchdogControl) b p = no_read b p
read_by (Some SystemControlB) b p = record { answer = Ok (port61_byte b); board = b }
read_by (Some Arbiter) b p = record { answer = Ok (arbitration_byte b.arbitration); board = b }
read_by (Some SystemControlA) b p = record { answer = Ok (port92_byte b); board = b }

-- a byte read from a port
abbrev pub port_read : Board → ℕ → PortRead
port_read b p = read_by (port_of p) b p
