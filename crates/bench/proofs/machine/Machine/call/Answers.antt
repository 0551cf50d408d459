use Rattle.std.proofs.Common.{◌≡◌, ℕ, List, ap, ◌∙◌}
use Rattle.std.proofs.lemmas.List.{with_items_is}
use Rattle.runs.specs.World.{World, world, after, answer}
use Rattle.bench.specs.Machine.{world_of}
use Rattle.bench.proofs.machine.Machine.call.Goals as goal

pub returns : goal.returns
returns g c =
    let was = c.args.self.now in
    let call = c.args.call in
    let w : World = world was.board (g.M.Memory.meaning was.memory) (g.R.Rack.meaning was.rack) c.as_mut_slice-journal.result.now in
    let e : w ≡ world_of g.M.Memory.meaning g.R.Rack.meaning was = ap (λ (j : List ℕ). world was.board (g.M.Memory.meaning was.memory) (g.R.Rack.meaning was.rack) j) c.as_mut_slice-journal.ensures.value in
    let kept = with_items_is was.journal c.perform_one.new.journal (c.perform_one.auto.journal ∙ c.as_mut_slice-journal.ensures.len) in
    record {
      answer = c.perform_one.ensures.answered ∙ ap (λ (z : World). answer z call) e;
      after = ap (λ (j : List ℕ). world c.perform_one.new.board (g.M.Memory.meaning c.perform_one.new.memory) (g.R.Rack.meaning c.perform_one.new.rack) j) kept ∙ (c.perform_one.ensures.left ∙ ap (λ (z : World). after z call) e);
    }
