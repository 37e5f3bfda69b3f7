use Rattle.std.proofs.Common.{ap, sym, ◌∙◌}
use Rattle.std.specs.Float.{float_with_sign}
use Rattle.std.specs.Float.Ieee.{neg}
use Rattle.k_math.proofs.SignLaws.{turned_size}
use Rattle.k_math.proofs.library.with_sign.Goals as goal

pub returns-then-negative : goal.returns-then-negative
returns-then-negative c = ap neg c.abs.ensures.value ∙ turned_size c.args.x ∙ ap (λ s. float_with_sign s c.args.x) (sym c.if-negative.true)
