use Rattle.std.proofs.Common.{◌∙◌}
use Rattle.script.proofs.Blanks.{word_ends}
use Rattle.script.proofs.words.word_len.Goals as goal

pub returns-clause-len : goal.returns-clause-len
returns-clause-len c = c.unwrap_or.ensures ∙ word_ends _ _ c.find.ensures.cases
