-- What carry's checks show of a transfer that passed them.
use Rattle.std.proofs.Common.{◌≡◌, ℕ, ◌<◌, Bool, true, false, cond, not, ◌&&◌, ◌||◌, eqb, ltb, List, length, Ok, Err, sym, refl, ◌∙◌, subst, arith}
use Rattle.std.proofs.lemmas.Bool.{and_parts, and_from, not-true, ltb-true, eqb-false, cond-true, cond-false}
use Rattle.std.proofs.lemmas.Bool.Decides.{nat_tests}
use Rattle.fault.specs.declared.Fault.{Fault}
use Rattle.dma.specs.Channels.{has, memory_address}
use Rattle.journal.specs.Room.{full}
use Rattle.memory.specs.Meaning.{Answer, Contents}
use Rattle.rack.specs.declared.Kind.{Kind}
use Rattle.rack.specs.declared.Kind.TheVariants.{Empty, Giver, Taker}
use Rattle.rack.specs.Meaning.{Level, Levels, able, ready, gives, takes, fits, is_giver, is_taker}
use Rattle.board.specs.declared.carry.Motion.TheVariants.{ToMemory, ToCard, Verify}
use Rattle.board.specs.declared.carry.Transfer.{Transfer}
use Rattle.board.specs.declared.state.Board.{Board}
use Rattle.board.specs.State.{channel_at}
use Rattle.board.specs.Grant.{server, contends, winner_of, serving}
use Rattle.board.specs.Carry.{wide_mode, motion_of, same, asked, suits_card, serves, memory_answer, transfer, by_memory, checked}
use Rattle.board.proofs.Least.{least_passes, least_most}

-- a winner that is not the processor has a channel to serve it
pub winner_low : (b : Board) (r : Levels) → eqb (winner_of b r) 15 ≡ false → winner_of b r < 15
winner_low b r e = let n : winner_of b r ≡ 15 → ⊥ = eqb-false (winner_of b r) 15 e in let m = least_most (contends b r) 15 in grind arith

pub server_low : (b : Board) (r : Levels) → eqb (winner_of b r) 15 ≡ false → serving b (winner_of b r) < 8
server_low b r e =
    let c : contends b r (winner_of b r) ≡ true = least_passes (contends b r) 15 (winner_low b r e) in
    let l : ltb (server b (winner_of b r)) 8 ≡ true = (and_parts (r.at (winner_of b r)).line (ltb (server b (winner_of b r)) 8) c).1 in
    subst (λ (z : ℕ). z < 8) (sym (cond-false (eqb (winner_of b r) 15) 0 (server b (winner_of b r)) e)) (ltb-true (server b (winner_of b r)) 8 l)

-- The checks.
pub record Passed (b : Board) (m : Contents) (r : Levels) (size l n : ℕ) (t : Transfer) : Type 0 where
  pub room : b.lines < size
  pub unmasked : (channel_at b n).masked ≡ false
  pub card : serves (channel_at b n).mode (r.at l) ≡ true
  pub is : t ≡ transfer (channel_at b n) l n

pub not_full : (n size : ℕ) → full n size ≡ false → n < size
not_full n size h = grind (arith, nat_tests)

chosen : (f a s : Bool) (e1 e2 e3 : Fault) (m : Answer) (t u : Transfer)
    → cond f (Err e1) (cond (not a) (Err e2) (cond (not s) (Err e3) (by_memory m t))) ≡ Ok u → (f ≡ false) × (a ≡ true) × (s ≡ true) × (u ≡ t)
chosen f a s e1 e2 e3 m t u h = grind arith

pub passed : (b : Board) (m : Contents) (r : Levels) (size l n : ℕ) (t : Transfer) → checked b m r size l n ≡ Ok t → Passed b m r size l n t
passed b m r size l n t h =
    let q = chosen (full b.lines size) (asked (channel_at b n) (r.at l) l) (serves (channel_at b n).mode (r.at l)) _ _ _
    (memory_answer m (motion_of (channel_at b n).mode) (wide_mode (channel_at b n).mode) (memory_address (channel_at b n))) (transfer (channel_at b n) l n) t h in
    record {
      room = not_full b.lines size q.0;
      unmasked = not-true (channel_at b n).masked (and_parts (not (channel_at b n).masked) (eqb (channel_at b n).level l && (r.at l).line) q.1).0;
      card = q.2;
      is = q.3;
    }

-- What the card's check shows, by the way that the unit goes.
same_is : (x y : Bool) → same x y ≡ true → x ≡ y
same_is true true e = refl
same_is true false e = sym e
same_is false true e = e
same_is false false e = refl

pub card_width : (mode : ℕ) (v : Level) → serves mode v ≡ true → v.wide ≡ wide_mode mode
card_width mode v e =
    let p = (and_parts (suits_card mode v) (not (has mode 4) || able v) e).0 in
    same_is v.wide (wide_mode mode) (and_parts (same v.wide (wide_mode mode)) (cond (has mode 8) (is_giver v.kind) (is_taker v.kind)) p).0

able_giver : (k : Kind) (w : List ℕ) (room : ℕ) → is_giver k ≡ true → ready k (length w) room ≡ true → (is_giver k && ltb 0 (length w)) ≡ true
able_giver Empty w room g e = g
able_giver Giver w room g e = e
able_giver Taker w room g e = cc

able_taker : (k : Kind) (w : List ℕ) (room u : ℕ) (wide : Bool) → is_taker k ≡ true → ready k (length w) room ≡ true → fits wide u ≡ true → (is_taker k && (ltb 0 room && fits wide u)) ≡ true
able_taker Empty w room u wide g e f = g
able_taker Giver w room u wide g e f = cc
able_taker Taker w room u wide g e f = and_from (ltb 0 room) (fits wide u) e f

-- the kind and the ability, where units are moved
moving : (mode : ℕ) (v : Level) → serves mode v ≡ true → has mode 4 ≡ true → (cond (has mode 8) (is_giver v.kind) (is_taker v.kind) ≡ true) × (able v ≡ true)
moving mode v e h =
    let p = and_parts (suits_card mode v) (not (has mode 4) || able v) e in
    let q = and_parts (same v.wide (wide_mode mode)) (cond (has mode 8) (is_giver v.kind) (is_taker v.kind)) p.0 in
    let a : able v ≡ true = go (has mode 4) h p.1 in
    (q.1, a)
  where
    go : (t : Bool) → t ≡ true → (not t || able v) ≡ true → able v ≡ true
    go true z s = s
    go false z s = cc

pub giver_gives : (mode : ℕ) (v : Level) → serves mode v ≡ true → motion_of mode ≡ ToMemory → gives v ≡ true
giver_gives mode v e k = go (has mode 4) (has mode 8) refl refl k
  where
    go : (t g : Bool) → has mode 4 ≡ t → has mode 8 ≡ g → cond t (cond g ToMemory ToCard) Verify ≡ ToMemory → gives v ≡ true
    go true true x y z = let m = moving mode v e x in able_giver v.kind v.waiting v.room (sym (cond-true (has mode 8) _ _ y) ∙ m.0) m.1
    go true false x y z = cc
    go false g x y z = cc

pub taker_takes : (mode : ℕ) (v : Level) (u : ℕ) → serves mode v ≡ true → motion_of mode ≡ ToCard → fits v.wide u ≡ true → takes v u ≡ true
taker_takes mode v u e k f = go (has mode 4) (has mode 8) refl refl k
  where
    go : (t g : Bool) → has mode 4 ≡ t → has mode 8 ≡ g → cond t (cond g ToMemory ToCard) Verify ≡ ToCard → takes v u ≡ true
    go true false x y z = let m = moving mode v e x in able_taker v.kind v.waiting v.room u v.wide (sym (cond-false (has mode 8) _ _ y) ∙ m.0) m.1 f
    go true true x y z = cc
    go false g x y z = cc
