use Rattle.std.proofs.Common.{ℕ, List, ap, ◌∙◌}
use Rattle.std.proofs.lemmas.List.{with_items_is}
use Rattle.runs.specs.World.{world, opening, run}
use Rattle.bench.proofs.layout.start.Goals as goal

pub returns : goal.returns
unfolding run
returns g c =
    let r = c.in_ok-performed.ensures.reached in
    let words = c.as_mut_slice.ensures.value in
    let kept = with_items_is c.args.journal c.perform.new.journal (c.perform.auto.journal ∙ c.as_mut_slice.ensures.len) in
    ap (λ (j : List ℕ). world c.in_ok-performed.performed.board (g.M.Memory.meaning c.perform.new.memory) (g.R.Rack.meaning c.perform.new.rack) j) kept
    ∙ (r ∙ ap (λ (j : List ℕ). opening (g.M.Memory.meaning c.args.memory) (g.R.Rack.meaning c.args.rack) j) words)
