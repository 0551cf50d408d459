-- Small runs, computed: the premises of the law can be met.
use Rattle.std.specs.Prelude.{◌≡◌, ℕ, Bool, true, false, cond, List, [], ◌∷◌, ◌++◌, replicate, Ok, ◌==◌}
use Rattle.journal.specs.declared.Kind.TheVariants.{CardToMemory}
use Rattle.journal.specs.declared.Line.{Line}
use Rattle.memory.specs.Meaning.{Contents}
use Rattle.rack.specs.declared.Kind.TheVariants.{Empty, Giver}
use Rattle.rack.specs.Meaning.{Level, Levels}
use Rattle.board.specs.State.{channel_at}
use Rattle.runs.specs.declared.Call.{Call}
use Rattle.runs.specs.declared.Call.TheVariants.{WritePort, Tick, Grant}
use Rattle.runs.specs.declared.Reply.TheVariants.{Done}
use Rattle.runs.specs.World.{World, opening, after, answer, run}
use Rattle.runs.specs.Law.{lines, Never, of_channel, touches, unanswered, restarts}

-- a memory all there, and an 8-bit giver on level 2 with three units, its line up
abbrev pub ram : Contents
ram = record { byte = λ a. 0; reads = λ a. Ok tt; writes = λ a. Ok tt }

abbrev pub scale : Level
scale = record { kind = Giver; wide = false; line = true; waiting = 0x41 ∷ 0x42 ∷ 0x43 ∷ []; taken = []; room = 9 }

abbrev pub vacant : Level
vacant = record { kind = Empty; wide = false; line = false; waiting = []; taken = []; room = 0 }

abbrev pub rack : Levels
rack = record { at = λ l. cond (l == 2) scale vacant; rule = λ l v e. true }

abbrev pub start : World
start = opening ram rack (replicate 4 0)

-- channel 2 with address 0, count 1, mode 0C, open
abbrev pub programmed : List Call
programmed =
    WritePort 0x18 0x22 ∷ WritePort 0x1A 0 ∷ WritePort 0x1A 0 ∷ WritePort 0x1A 0 ∷ WritePort 0x18 0x42 ∷ WritePort 0x1A 1 ∷ WritePort 0x1A 0
    ∷ WritePort 0x18 0x72 ∷ WritePort 0x1A 0x0C ∷ WritePort 0x18 0xA2 ∷ []

abbrev pub unit_line : ℕ → ℕ → Bool → Line
unit_line a u last = record { kind = CardToMemory; channel = 2; wide = false; last = last; level = 2; address = a; unit = u }

abbrev pub three_grants : List Call
three_grants = Grant ∷ Grant ∷ Grant ∷ []

-- it stands open at count 1, and over three grants, untouched, it has two lines, the second the last
pub record CountMet : Type 0 where
  pub unmasked : (channel_at (run start programmed).board 2).masked ≡ false
  pub count : (channel_at (run start programmed).board 2).count ≡ 1
  pub untouched : Never (touches 2) (run start programmed) three_grants
  pub two_lines : of_channel 2 (lines (run start (programmed ++ three_grants))) ≡ unit_line 0 0x41 false ∷ unit_line 1 0x42 true ∷ []

-- counter 0 by 2 in mode 2, which rises on ticks 3 and 5, and counter 3 set up
abbrev pub watching : List Call
watching = WritePort 0x43 0x34 ∷ WritePort 0x40 2 ∷ WritePort 0x40 0 ∷ WritePort 0x47 0x10 ∷ []

abbrev pub armed : World
armed = after (run start watching) (WritePort 0x44 1)

-- a watchdog of 1: the rise on tick 3 loads, the one on tick 5 is unanswered, and arbitration is stopped
pub record StopMet : Type 0 where
  pub accepted : answer (run start watching) (WritePort 0x44 1) ≡ Ok Done
  pub alone : Never restarts armed (Tick ∷ Tick ∷ Tick ∷ Tick ∷ Tick ∷ [])
  pub before : unanswered armed (Tick ∷ Tick ∷ Tick ∷ Tick ∷ []) ≡ 0
  pub nth : unanswered armed (Tick ∷ Tick ∷ Tick ∷ Tick ∷ Tick ∷ []) ≡ 1
  pub stopped : (run armed (Tick ∷ Tick ∷ Tick ∷ Tick ∷ Tick ∷ [])).board.arbitration.mask ≡ true
