use Rattle.std.proofs.Common.{rules, subst, sym}
use Rattle.std.specs.Str.{IsAscii}
use Rattle.yard.proofs.Digits.{two_bytes, three_bytes, address_small, unit_small, tail_ascii}
use Rattle.yard.proofs.views.tail_text.Goals as goal

pub returns-clause-text : goal.returns-clause-text
returns-clause-text c = search (rules, two_bytes, three_bytes, address_small, unit_small)

pub returns-clause-ascii : goal.returns-clause-ascii
returns-clause-ascii c = subst IsAscii (sym (returns-clause-text c)) (tail_ascii c.args.line c.requires)
