use Rattle.std.proofs.Common.{rules, ap, ◌∙◌, Some}
use Rattle.script.specs.Number.{numeral_after}
use Rattle.script.proofs.Numerals.{read_on, bounded}
use Rattle.script.proofs.number.Base.grow_by.Goals as goal

pub returns-clause-answer : goal.returns-clause-answer
returns-clause-answer c =
    read_on c.args.self c.args.limit _ _ _ _ (λ n x q k. search rules) (λ n x v q k. search rules) c.try_fold.ensures.ran ∙
    ap (numeral_after c.args.self c.args.limit (Some 0)) c.bytes.ensures.rest

pub returns-clause-bound : goal.returns-clause-bound
returns-clause-bound c = bounded c.args.self c.args.limit c.args.digits.now _ (returns-clause-answer c)
