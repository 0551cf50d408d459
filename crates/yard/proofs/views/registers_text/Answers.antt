use Rattle.std.proofs.Common.{rules, subst, sym}
use Rattle.std.specs.Str.{IsAscii}
use Rattle.yard.proofs.Digits.{one_byte, two_bytes, three_bytes, registers_ascii}
use Rattle.yard.proofs.views.registers_text.Goals as goal

pub returns-clause-text : goal.returns-clause-text
returns-clause-text c = search (rules, one_byte, two_bytes, three_bytes)

pub returns-clause-ascii : goal.returns-clause-ascii
returns-clause-ascii c = subst IsAscii (sym (returns-clause-text c)) (registers_ascii c.args.channel.now (search rules) (search rules) (search rules) (search rules))
