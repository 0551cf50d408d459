-- All that the calls work on, and what one call answers and leaves by the rules.
use Rattle.std.specs.Prelude.{ℕ, ◌%◌, Bool, List, [], ◌∷◌, Ok, Err, Result}
use Rattle.fault.specs.declared.Fault.{Fault}
use Rattle.memory.specs.Meaning.{Contents}
use Rattle.rack.specs.Meaning.{Levels}
use Rattle.board.specs.declared.state.Board.{Board}
use Rattle.board.specs.State.{unused, was_reset}
use Rattle.board.specs.Ports.{port_written, port_read, tick_after, acknowledge_after}
use Rattle.board.specs.Carry.{Outcome}
use Rattle.board.specs.Calls.{arrival_answer, arrival_after, loaded, Stored, stored, cycled}
use Rattle.runs.specs.declared.Call.{Call}
use Rattle.runs.specs.declared.Call.TheVariants.{ReadPort, WritePort, Tick, Acknowledge, Arrive, Load, Store, Reset, Grant}
use Rattle.runs.specs.declared.Reply.{Reply}
use Rattle.runs.specs.declared.Reply.TheVariants.{Done, Byte, Carried}

-- the board, what memory and rack mean, and the journal's words
pub record World : Type 0 where
  pub board : Board
  pub memory : Contents
  pub rack : Levels
  pub journal : List ℕ

abbrev pub world : Board → Contents → Levels → List ℕ → World
world b m r j = record { board = b; memory = m; rack = r; journal = j }

-- a board that nobody has used
abbrev pub opening : Contents → Levels → List ℕ → World
opening m r j = world unused m r j

abbrev pub on_board : World → Board → World
on_board w b = world b w.memory w.rack w.journal

abbrev pub after_store : World → Stored → World
after_store w o = world o.board o.memory w.rack o.journal

abbrev pub after_carry : Outcome → World
after_carry o = world o.board o.memory o.rack o.journal

abbrev pub store_outcome : World → ℕ → ℕ → Stored
store_outcome w a v = stored w.board w.memory w.journal a (v % 256)

abbrev pub carry_outcome : World → Outcome
carry_outcome w = cycled w.board w.memory w.rack w.journal

-- what a call leaves; a byte of a call has 8 bits
unfoldable pub after : World → Call → World
after w (ReadPort p) = on_board w (port_read w.board p).board
after w (WritePort p v) = on_board w (port_written w.board p (v % 256)).board
after w Tick = on_board w (tick_after w.board)
after w Acknowledge = on_board w (acknowledge_after w.board)
after w (Arrive l u) = world w.board w.memory (arrival_after w.rack l u) w.journal
after w (Load a) = w
after w (Store a v) = after_store w (store_outcome w a v)
after w Reset = on_board w (was_reset w.board)
after w Grant = after_carry (carry_outcome w)

-- a reply, or the fault that refuses the call
abbrev pub Answer : Type 0
Answer = Result Reply Fault

abbrev pub done_or_refused : Result (Unit {0}) Fault → Answer
done_or_refused (Ok x) = Ok Done
done_or_refused (Err f) = Err f

abbrev pub byte_or_refused : Result ℕ Fault → Answer
byte_or_refused (Ok v) = Ok (Byte v)
byte_or_refused (Err f) = Err f

abbrev pub carried_or_refused : Result Bool Fault → Answer
carried_or_refused (Ok line) = Ok (Carried line)
carried_or_refused (Err f) = Err f

-- what a call answers
unfoldable pub answer : World → Call → Answer
answer w (ReadPort p) = byte_or_refused (port_read w.board p).answer
answer w (WritePort p v) = done_or_refused (port_written w.board p (v % 256)).answer
answer w Tick = Ok Done
answer w Acknowledge = Ok Done
answer w (Arrive l u) = done_or_refused (arrival_answer w.rack l u)
answer w (Load a) = byte_or_refused (loaded w.memory a)
answer w (Store a v) = done_or_refused (store_outcome w a v).answer
answer w Reset = Ok Done
answer w Grant = carried_or_refused (carry_outcome w).answer

-- what a list of calls leads to
unfoldable pub run : World → List Call → World
run w [] = w
run w (c ∷ cs) = run (after w c) cs
