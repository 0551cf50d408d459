use Rattle.script.proofs.Blanks.{trimmed}
use Rattle.script.proofs.words.skip_blanks.Goals as goal

pub returns-clause-text : goal.returns-clause-text
returns-clause-text c = trimmed _ _ c.trim_start_matches.ensures.matches
