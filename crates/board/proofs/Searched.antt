-- What a search through the levels and channels has found.
use Rattle.std.proofs.Common.{◌≡◌, ℕ, ◌<◌, true, false, eqb, ltb, sym, refl, arith}
use Rattle.std.proofs.lemmas.Bool.{lt-ltb, and_from, and_right, ne_eqb}
use Rattle.rack.specs.Meaning.{Levels}
use Rattle.board.specs.declared.state.Board.{Board}
use Rattle.board.specs.Grant.{open_at, server, contends, winner_of, serving}
use Rattle.board.proofs.Least.{least_first}

-- the channel n serves the level l, and no lower level contends
pub won : (b : Board) (r : Levels) (l n : ℕ) → l < 15 → n < 8
    → ((k : ℕ) → k < l → contends b r k ≡ false) → ((k : ℕ) → k < n → open_at b l k ≡ false)
    → (r.at l).line ≡ true → open_at b l n ≡ true → (l ≡ winner_of b r) × (n ≡ serving b (winner_of b r))
won b r l n lt nt lower below up here =
    let s : server b l ≡ n = least_first (open_at b l) 8 n (omega arith) below (λ _. here) in
    let u : ltb (server b l) 8 ≡ true = rw s (lt-ltb n 8 nt) in
    let t : contends b r l ≡ true = and_from (r.at l).line (ltb (server b l) 8) up u in
    let e : winner_of b r ≡ l = least_first (contends b r) 15 l (omega arith) lower (λ _. t) in
    let z : eqb l 15 ≡ false = ne_eqb l 15 (λ q. omega arith) in
    (sym e, rw (e, z) (sym s))

-- a level with no open channel does not contend
pub passed : (b : Board) (r : Levels) (l : ℕ) → ((k : ℕ) → k < 8 → open_at b l k ≡ false) → contends b r l ≡ false
passed b r l below =
    let s : server b l ≡ 8 = least_first (open_at b l) 8 8 (omega arith) below (λ q. absurd (omega arith)) in
    and_right (r.at l).line (ltb (server b l) 8) (rw s refl)

-- where no level contends, the processor wins
pub none_won : (b : Board) (r : Levels) → ((k : ℕ) → k < 15 → contends b r k ≡ false) → winner_of b r ≡ 15
none_won b r lower = least_first (contends b r) 15 15 (omega arith) lower (λ q. absurd (omega arith))
