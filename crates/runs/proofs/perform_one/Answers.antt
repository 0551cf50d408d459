use Rattle.runs.specs.World.{run}
use Rattle.runs.proofs.Answering.{goes_on}
use Rattle.runs.proofs.perform_one.Goals as goal

pub returns-clause-law : goal.returns-clause-law
unfolding run
returns-clause-law g c = goes_on _ _ _ c.act.ensures.left
