-- The winner is the least level that contends.
use Rattle.std.proofs.Common.{◌≡◌, ℕ, ◌<◌, ◌≤◌, true, not, eqb, ltb, refl, ⊎_elim, arith}
use Rattle.std.proofs.lemmas.Bool.{and_parts, and_from, not-true, ltb-true, lt-ltb, eqb-true, eq-eqb, cases_lt, both_ways, ne_eqb, cond-false}
use Rattle.rack.specs.Meaning.{Levels}
use Rattle.board.specs.declared.state.Board.{Board}
use Rattle.board.specs.State.{channel_at}
use Rattle.board.specs.Grant.{open_at, server, contends, winner_of, serving, Open, Contends, Wins}
use Rattle.board.proofs.Least.{least_passes, least_most, least_below}

-- the tests and what they say
open_is : (b : Board) (l n : ℕ) → open_at b l n ≡ true → Open b l n
open_is b l n e =
    let p = and_parts (not (channel_at b n).masked) (eqb (channel_at b n).level l) e in
    (not-true (channel_at b n).masked p.0, eqb-true (channel_at b n).level l p.1)

open_shows : (b : Board) (l n : ℕ) → Open b l n → open_at b l n ≡ true
open_shows b l n o = and_from (not (channel_at b n).masked) (eqb (channel_at b n).level l) (rw o.0 refl) (eq-eqb (channel_at b n).level l o.1)

contends_is : (b : Board) (r : Levels) (l : ℕ) → contends b r l ≡ true → ((r.at l).line ≡ true) × (server b l < 8)
contends_is b r l e = let p = and_parts (r.at l).line (ltb (server b l) 8) e in (p.0, ltb-true (server b l) 8 p.1)

server_open : (b : Board) (l : ℕ) → server b l < 8 → Open b l (server b l)
server_open b l h = open_is b l (server b l) (least_passes (open_at b l) 8 h)

-- a level at which a channel is open has a server
served : (b : Board) (l n : ℕ) → n < 8 → Open b l n → server b l < 8
served b l n h o =
    ⊎_elim (λ (lt : server b l < 8). lt)
    (λ (ge : 8 ≤ server b l). absurd (both_ways (open_at b l n) (least_below (open_at b l) 8 n (omega arith)) (open_shows b l n o)))
    (cases_lt (server b l) 8)

contends_shows : (b : Board) (r : Levels) (l : ℕ) → Contends b r l → contends b r l ≡ true
contends_shows b r l c = and_from (r.at l).line (ltb (server b l) 8) c.0 (lt-ltb (server b l) 8 (served b l c.1.0 c.1.1.0 c.1.1.1))

serving_is : (b : Board) (l : ℕ) → l < 15 → serving b l ≡ server b l
serving_is b l h = cond-false (eqb l 15) 0 (server b l) (ne_eqb l 15 (λ q. omega arith))

pub wins : (b : Board) (r : Levels) → Wins b r (winner_of b r) (serving b (winner_of b r))
wins b r =
    let contending : winner_of b r < 15 → ((r.at (winner_of b r)).line ≡ true) × (server b (winner_of b r) < 8) =
    λ h. contends_is b r (winner_of b r) (least_passes (contends b r) 15 h) in
    record {
      most = least_most (contends b r) 15;
      contending = λ h. ((contending h).0, (server b (winner_of b r), ((contending h).1, server_open b (winner_of b r) (contending h).1)));
      lowest = λ k h c. both_ways (contends b r k) (least_below (contends b r) 15 k h) (contends_shows b r k c);
      server = λ h. rw (serving_is b (winner_of b r) h) ((contending h).1, server_open b (winner_of b r) (contending h).1);
      first = λ k h lt o.
          let e = serving_is b (winner_of b r) h in
          both_ways (open_at b (winner_of b r) k) (least_below (open_at b (winner_of b r)) 8 k (omega arith)) (open_shows b (winner_of b r) k o);
    }
