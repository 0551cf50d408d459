-- The laws of one step, from which the law over whole runs is proved. A new call owes these and nothing else.
use Rattle.std.proofs.Common.{◌≡◌, ℕ, ◌<◌, true, false, cond, eqb, List, [], ◌∷◌, ◌++◌, map}
use Rattle.dma.specs.declared.channel.Channel.{Channel}
use Rattle.dma.specs.Channels.{memory_address, stepped, with_mask}
use Rattle.timer.specs.declared.counter.Event.TheVariants.{Clock}
use Rattle.timer.specs.Counting.{stepped as counter_stepped}
use Rattle.journal.specs.declared.Line.{Line}
use Rattle.journal.specs.Layout.{word, listed}
use Rattle.board.specs.State.{channel_at}
use Rattle.board.specs.Carry.{wide_mode}
use Rattle.runs.specs.declared.Call.{Call}
use Rattle.runs.specs.World.{World}
use Rattle.runs.specs.Law.{words, post, units, is_given, is_taken, brought, making, owed_by, of_channel, touches, rise, restarts, lifts, by_dma}

-- a channel after one unit: stepped, and closed if its count was 0
abbrev pub advanced : Channel → Channel
advanced c = cond (eqb c.count 0) (with_mask (stepped c (wide_mode c.mode)) true) (stepped c (wide_mode c.mode))

-- what a step that does not touch a channel does with it: nothing, or one line
pub data Served (c c' : Channel) (xs : List Line) : Type 0 where
  idle : xs ≡ [] → c' ≡ c → Served c c' xs
  line : (x : Line) → xs ≡ x ∷ [] → c.masked ≡ false → x.address ≡ memory_address c → x.last ≡ eqb c.count 0 → c' ≡ advanced c → Served c c' xs

-- each line is one that there is
unfoldable pub AllListed : List Line → Type 0
AllListed [] = Unit {0}
AllListed (x ∷ xs) = (listed x ≡ true) × AllListed xs

pub record Step (w : World) (c : Call) (v : World) : Type 0 where
  -- the lines that it puts down
  pub put : List Line
  pub fine : AllListed put
  pub journal : words v ≡ words w ++ map word put
  -- posting
  pub bytes : v.memory.byte ≡ post w.memory.byte put
  pub waiting : (l : ℕ) → (w.rack.at l).waiting ++ brought w c l ≡ units is_given l put ++ (v.rack.at l).waiting
  pub taken : (l : ℕ) → (w.rack.at l).taken ++ units is_taken l put ≡ (v.rack.at l).taken
  pub makes : map making put ≡ owed_by w c
  -- channels
  pub silent : (i : ℕ) → (channel_at w.board i).masked ≡ true → of_channel i put ≡ []
  pub served : (i : ℕ) → i < 8 → touches i w c ≡ false → Served (channel_at w.board i) (channel_at v.board i) (of_channel i put)
  -- the watchdog
  pub clock : restarts w c ≡ false
      → v.board.timers.watchdog ≡ cond (rise w c) (counter_stepped w.board.timers.watchdog (Clock w.board.timers.latch)) w.board.timers.watchdog
  pub fires : restarts w c ≡ false → w.board.timers.watchdog.out ≡ false → v.board.timers.watchdog.out ≡ true → v.board.arbitration.mask ≡ true
  pub holds : w.board.arbitration.mask ≡ true → lifts w c ≡ false → v.board.arbitration.mask ≡ true
  pub halts : w.board.arbitration.mask ≡ true → by_dma put ≡ []
