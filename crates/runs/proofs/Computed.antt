-- The small runs compute.
use Rattle.std.proofs.Common.{◌≡◌, ◌++◌, refl}
use Rattle.board.specs.Grant.{least, requested}
use Rattle.runs.specs.World.{after, answer, run}
use Rattle.runs.specs.Law.{Never, of_channel, touches, found, restarts}
use Rattle.runs.specs.Examples.{CountMet, StopMet, start, programmed, three_grants}

pub count_met : CountMet
unfolding run after answer least requested Never touches of_channel
count_met = record { unmasked = refl; count = refl; untouched = (refl, (refl, (refl, tt))); two_lines = refl }

pub stop_met : StopMet
unfolding run after answer least requested Never restarts found
stop_met = record { accepted = refl; alone = (refl, (refl, (refl, (refl, (refl, tt))))); before = refl; nth = refl; stopped = refl }

pub lines_put : (run start (programmed ++ three_grants)).board.lines ≡ 2
unfolding run after least requested
lines_put = refl

pub ruleset small_runs = (count_met, stop_met, lines_put)
