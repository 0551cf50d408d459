use Rattle.std.proofs.Common.{rules, subst, sym}
use Rattle.std.specs.Str.{IsAscii}
use Rattle.yard.proofs.Digits.{eight_bytes, word_ascii}
use Rattle.yard.proofs.views.word_digits.Goals as goal

pub returns-clause-text : goal.returns-clause-text
returns-clause-text c = search (rules, eight_bytes)

pub returns-clause-ascii : goal.returns-clause-ascii
returns-clause-ascii c = subst IsAscii (sym (returns-clause-text c)) (word_ascii c.args.word c.ranges.word.fits)
