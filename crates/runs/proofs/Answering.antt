-- The answers of a run, one by one.
use Rattle.std.proofs.Common.{◌≡◌, ℕ, ◌+◌, ◌%◌, ◌<◌, List, [], ◌∷◌, ◌++◌, length, get_or, take, IfOk, Ok, Result, sym, refl, ap, ◌∙◌, subst, below_more, arith}
use Rattle.std.proofs.lemmas.List.{take_more, get_or_default, get_or_append_left, get_or_push, length_push}
use Rattle.runs.specs.declared.Call.{Call}
use Rattle.runs.specs.declared.Call.TheVariants.{Tick}
use Rattle.runs.specs.declared.Reply.TheVariants.{Done}
use Rattle.runs.specs.World.{World, opening, after, Answer, answer, run}
use Rattle.runs.specs.Law.{GoesOn, RunLaw}
use Rattle.runs.proofs.Runs.{run-++, run_push}
use Rattle.runs.proofs.Laws.{law_of_runs}

-- a byte of a call has 8 bits
pub byte_stays : (v : ℕ) → v < 256 → v % 256 ≡ v
byte_stays v h = omega arith

-- n calls led from w to v, and these are their answers
pub record Ran (w : World) (calls : List Call) (n : ℕ) (answers : List Answer) (v : World) : Type 0 where
  pub reached : v ≡ run w (take n calls)
  pub as_many : length answers ≡ n
  pub each : (k : ℕ) → k < n → get_or answers k (Ok Done) ≡ answer (run w (take k calls)) (get_or calls k Tick)

pub none_ran : (w : World) (calls : List Call) (answers : List Answer) → answers ≡ [] → Ran w calls 0 answers w
unfolding run
none_ran w calls answers e = record { reached = refl; as_many = ap length e; each = λ k h. absurd (omega arith) }

pub one_more : {w v v' : World} {calls : List Call} {n : ℕ} {answers answers' : List Answer} {a : Answer} (d : Call) → Ran w calls n answers v → n < length calls
    → a ≡ answer v (get_or calls n d) → v' ≡ after v (get_or calls n d) → answers' ≡ answers ++ a ∷ [] → Ran w calls (n + 1) answers' v'
one_more {w} {v} {v'} {calls} {n} {answers} {answers'} {a} d s h e f p =
    record {
      reached = f ∙ ap (λ (z : World). after z (get_or calls n d)) s.reached ∙ sym (ap (run w) (take_more calls n d h) ∙ run_push w (take n calls) (get_or calls n d));
      as_many = ap length p ∙ length_push answers a ∙ ap (λ k. k + 1) s.as_many;
      each = below_more _ n (λ k l. rw p (get_or_append_left answers (a ∷ []) (Ok Done) k (let z = s.as_many in omega arith) ∙ s.each k l))
          (rw p (get_or_push answers a (Ok Done) n s.as_many ∙ e ∙ ap (λ (t : World). answer t (get_or calls n d)) s.reached ∙ ap (answer (run w (take n calls))) (get_or_default calls n d Tick h)));
    }

pub goes_on : (w : World) (calls : List Call) (v : World) → v ≡ run w calls → GoesOn w calls v
goes_on w calls v e m r j past h q =
    subst (RunLaw (opening m r j) (past ++ calls)) (run-++ (opening m r j) past calls ∙ ap (λ (z : World). run z calls) (sym q) ∙ sym e) (law_of_runs m r j (past ++ calls) h)

-- what is said of an answer that is there
pub made_at : {X Y : Type 0} (P : X → Type 0) (r : Result X Y) (x : X) → r ≡ Ok x → IfOk r P → P x
made_at P r x e h = subst (λ z. IfOk z P) e h
