-- What the worlds of a run keep.
use Rattle.std.proofs.Common.{◌≡◌, ℕ, ◌<◌, true, List, length, None, sym, ap, ◌∙◌, subst}
use Rattle.dma.specs.declared.channel.Channel.{Channel}
use Rattle.dma.specs.Registers.{nth_channel}
use Rattle.timer.specs.declared.counter.Access.TheVariants.{Low}
use Rattle.timer.specs.declared.counter.Counter.{Counter}
use Rattle.timer.specs.declared.counter.Mode.TheVariants.{TerminalCount}
use Rattle.rack.specs.Meaning.{all_fit}
use Rattle.board.specs.declared.state.Board.{Board}
use Rattle.board.specs.State.{channel_at}
use Rattle.runs.specs.World.{World}

-- counter 3 is in mode 0 by low bytes
pub record Dog (c : Counter) : Type 0 where
  pub full_count : c.full ≡ 256
  pub mode_0 : c.mode ≡ TerminalCount
  pub low_bytes : c.access ≡ Low
  pub no_half : c.half ≡ None

-- eight channels with counts of 16 bits
pub record SoundBoard (b : Board) : Type 0 where
  pub eight : length b.channels ≡ 8
  pub counts : (i : ℕ) → (channel_at b i).count < 65536
  pub dog : Dog b.timers.watchdog

-- channels that stay, and counter 3 as made
pub sound_kept : (b b' : Board) → b'.channels ≡ b.channels → Dog b'.timers.watchdog → SoundBoard b → SoundBoard b'
sound_kept b b' c d s = record { eight = ap length c ∙ s.eight; counts = λ i. subst (λ (cs : List Channel). (nth_channel cs i).count < 65536) (sym c) (s.counts i); dog = d }

-- bytes are bytes, and waiting units fit
pub record Sound (w : World) : Type 0 where
  pub board : SoundBoard w.board
  pub bytes : (a : ℕ) → w.memory.byte a < 256
  pub fit : (l : ℕ) → all_fit (w.rack.at l).wide (w.rack.at l).waiting ≡ true
