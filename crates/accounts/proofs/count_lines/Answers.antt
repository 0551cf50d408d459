use Rattle.std.proofs.Common.{◌≡◌, ℕ, ◌+◌, ◌-◌, ◌<◌, List, length, take, get_or, fold, sym, ap, ◌∙◌, subst, arith}
use Rattle.std.proofs.lemmas.List.Sums.{fold_more}
use Rattle.accounts.specs.Lines.{with_reading, with_word}
use Rattle.accounts.proofs.count_lines.Goals as goal
use Rattle.accounts.proofs.count_lines.Goals.{in-Ok, in_default}

-- one word more
turn : {T : Type 0} (step : T → ℕ → T) (none t u : T) (ws : List ℕ) (i : ℕ) → i < length ws → t ≡ fold step none (take i ws) → u ≡ step t (get_or ws i 0) → u ≡ fold step none (take (i + 1) ws)
turn step none t u ws i h e f = f ∙ (ap (λ s. step s (get_or ws i 0)) e ∙ sym (fold_more step none ws i 0 h))

pub loop-word-preserved : goal.loop-word-preserved
loop-word-preserved g c =
    let k = g.T.Count in
    let read = with_reading (k.with_line c.args.selection) c.loop-word.totals in
    let next = turn (with_word (k.with_line c.args.selection)) c.args.none c.loop-word.totals c.match-unpack.totals c.first_words-word-items.result.now c.loop-word.word-index c.loop-word-test.true c.loop-word.invariant.0 in
    elim c.match-unpack.branch [
      | in-Ok w ↦ (
        next (w.totals-is ∙ (w.count.ensures.after ∙ ap read w.in-Ok.ensures.answer)),
        λ n h.
            let one : n - 1 + 1 ≡ n = omega arith in
            subst (λ m. k.Below c.match-unpack.totals m) one
            (rw w.totals-is (w.count.ensures.below (n - 1) (c.loop-word.invariant.1 (n - 1) (omega arith)))),
      )
      | in_default w ↦ (
        next (w.totals-is ∙ ap read (sym w.in_default.is ∙ c.unpack.ensures.answer)),
        λ n h. rw w.totals-is (c.loop-word.invariant.1 n (omega arith)),
      )
    ]
