use Rattle.std.proofs.Common.{◌≡◌, ℕ, ◌<◌, take, fold}
use Rattle.accounts.specs.Lines.{with_word}
use Rattle.accounts.proofs.count_lines.Given as goal

-- the words so far are counted
abbrev pub invariant-loop-word : goal.invariant-loop-word
invariant-loop-word g l =
    let c = g.T.Count in
    (l.totals ≡ fold (with_word (c.with_line l.selection)) l.fn.none (take l.word-index l.word-items))
    × ((n : ℕ) → l.word-index < n → c.Below l.totals n)
