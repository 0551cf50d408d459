use Rattle.std.proofs.lemmas.Str.{IsUtf8-from_ascii}
use Rattle.yard.proofs.Digits.{no_err}
use Rattle.yard.proofs.views.write_ascii.Goals as goal

pub unwrap-requires : goal.unwrap-requires
unwrap-requires g c = no_err c.from_utf8.result _ _ c.from_utf8.ensures.cases (λ e h. h.0 (IsUtf8-from_ascii c.args.bytes.now c.requires))
