use Rattle.std.proofs.Common.{refl}
use Rattle.k_lex_conditions.proofs.laws.examples.Goals as goal

pub returns : goal.returns
returns c = record {
  trap = refl;
  asked = refl;
  neither = refl;
  either = refl;
  picked = refl;
  untold = refl;
  converts = refl;
  alternative = refl;
  shifted = refl;
  compared = refl;
  unknown = refl;
}
