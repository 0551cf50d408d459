-- Which level wins the bus, and which channel serves it.
use Rattle.std.specs.Prelude.{◌≡◌, ℕ, zero, suc, ◌<◌, ◌≤◌, Bool, true, false, cond, not, ◌&&◌, List, Some, None, Option, ◌==◌, nat_lt}
use Rattle.dma.specs.declared.controller.Mark.TheVariants.{Request}
use Rattle.dma.specs.Registers.{marked, with_status}
use Rattle.rack.specs.Meaning.{Levels}
use Rattle.board.specs.declared.state.Arbitration.{Arbitration}
use Rattle.board.specs.declared.state.Board.{Board}
use Rattle.board.specs.declared.winner.Winner.{Winner}
use Rattle.board.specs.State.{channel_at, with_dma, with_arbitration}

-- the least number below n that passes the test, or n
unfoldable pub least : (ℕ → Bool) → ℕ → ℕ
least p zero = 0
least p (suc n) = cond (nat_lt (least p n) n) (least p n) (cond (p n) n (suc n))

-- channel n is open at the level
abbrev pub open_at : Board → ℕ → ℕ → Bool
open_at b l n = not (channel_at b n).masked && (channel_at b n).level == l

-- the lowest-numbered open channel at the level, or 8
abbrev pub server : Board → ℕ → ℕ
server b l = least (open_at b l) 8

-- the level's line is up and it has an open channel
abbrev pub contends : Board → Levels → ℕ → Bool
contends b r l = (r.at l).line && nat_lt (server b l) 8

-- the lowest such level, or 15
abbrev pub winner_of : Board → Levels → ℕ
winner_of b r = least (contends b r) 15

-- the channel that serves the winner; 0 where the processor wins
abbrev pub serving : Board → ℕ → ℕ
serving b l = cond (l == 15) 0 (server b l)

-- an arbitration's answer: the winner with its channel, or none where the processor wins
abbrev pub Won : Board → Levels → Option Winner → Type 0
Won b r None = winner_of b r ≡ 15
Won b r (Some w) = (w.level ≡ winner_of b r) × (w.channel ≡ serving b (winner_of b r))

-- the status after the request bits of the first n channels: masked or open, by its level's line
unfoldable pub requested : Board → Levels → ℕ → List ℕ
requested b r zero = b.dma.status
requested b r (suc n) = cond (r.at (channel_at b n).level).line (marked (requested b r n) n Request) (requested b r n)

abbrev pub with_winner : Arbitration → ℕ → Arbitration
with_winner a l = record a { winner = l }

-- the board after a level has won
abbrev pub won_by : Board → ℕ → Board
won_by b l = with_arbitration b (with_winner b.arbitration l)

-- a grant: the board after it, the level and the channel that serves it
pub record Granted : Type 0 where
  pub board : Board
  pub level : ℕ
  pub channel : ℕ

-- with bit 6 of port 0090 set the processor wins and no request bit changes
abbrev pub granted : Board → Levels → Granted
granted b r =
    cond b.arbitration.mask
    (record { board = won_by b 15; level = 15; channel = 0 })
    (record {
      board = won_by (with_dma b (with_status b.dma (requested b r 8))) (winner_of b r);
      level = winner_of b r;
      channel = serving b (winner_of b r);
    })

-- What a grant comes to, told without the way of finding it.

-- channel n is open at the level
abbrev pub Open : Board → ℕ → ℕ → Type 0
Open b l n = ((channel_at b n).masked ≡ false) × ((channel_at b n).level ≡ l)

-- the level's line is up, and some channel is open there
abbrev pub Contends : Board → Levels → ℕ → Type 0
Contends b r l = ((r.at l).line ≡ true) × ((n : ℕ) × ((n < 8) × Open b l n))

-- the least level that contends, with its least open channel, or 15 where none does
pub record Wins (b : Board) (r : Levels) (l n : ℕ) : Type 0 where
  pub most : l ≤ 15
  pub contending : l < 15 → Contends b r l
  pub lowest : (k : ℕ) → k < l → Contends b r k → ⊥
  pub server : l < 15 → (n < 8) × Open b l n
  pub first : (k : ℕ) → l < 15 → k < n → Open b l k → ⊥

-- with bit 6 of port 0090 set, 15 always, and no request bit changes; with it clear, the least level that contends
pub record Arbitrated (b : Board) (r : Levels) (g : Granted) : Type 0 where
  pub processor : b.arbitration.mask ≡ true → (g.level ≡ 15) × (g.board.dma.status ≡ b.dma.status)
  pub winner : b.arbitration.mask ≡ false → Wins b r g.level g.channel
  pub kept : g.board.arbitration.winner ≡ g.level
