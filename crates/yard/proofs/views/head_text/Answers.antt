use Rattle.std.proofs.Common.{rules, subst, sym}
use Rattle.std.specs.Str.{IsAscii}
use Rattle.yard.proofs.Digits.{marks, kind_small, channel_small, head_ascii}
use Rattle.yard.proofs.views.head_text.Goals as goal

pub returns-clause-text : goal.returns-clause-text
returns-clause-text c = search (rules, marks, kind_small, channel_small)

pub returns-clause-ascii : goal.returns-clause-ascii
returns-clause-ascii c = subst IsAscii (sym (returns-clause-text c)) (head_ascii c.args.line c.requires)
