use Rattle.std.proofs.Common.{◌≡◌, Err, rules, ◌∙◌}
use Rattle.journal.specs.Layout.{unpacked}
use Rattle.journal.proofs.Codec.{accepts}
use Rattle.journal.proofs.Line.unpack.Goals as goal

pub returns-else-word-eq0-clause-accepted : goal.returns-else-word-eq0-clause-accepted
returns-else-word-eq0-clause-accepted c =
    let refused : Err c.not_a_line.result ≡ unpacked c.args.word = search rules in
    λ l h. refused ∙ accepts c.args.word l h
