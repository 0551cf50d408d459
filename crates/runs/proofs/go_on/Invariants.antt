use Rattle.std.proofs.Common.{◌≤◌, length, vec_items, vec_capacity}
use Rattle.runs.specs.World.{world}
use Rattle.runs.proofs.Answering.{Ran}
use Rattle.runs.proofs.go_on.Given as goal

-- the calls so far have led here, each of them answered, and the room for the answers is there
abbrev pub invariant-loop-call : goal.invariant-loop-call
invariant-loop-call g l =
    record {
      ran : Ran (world l.initial.board (g.M.Memory.meaning l.initial.memory) (g.R.Rack.meaning l.initial.rack) l.initial.journal) l.calls l.call-index (vec_items l.answers)
          (world l.board (g.M.Memory.meaning l.memory) (g.R.Rack.meaning l.rack) l.journal);
      room : length l.calls ≤ vec_capacity l.answers;
    }
