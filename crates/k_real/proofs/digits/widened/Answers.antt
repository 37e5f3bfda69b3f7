use Rattle.std.proofs.Common.{ap, ◌∙◌}
use Rattle.std.specs.Prelude.{◌++◌}
use Rattle.k_real.proofs.RoundingLaws.{widened_spells}
use Rattle.k_real.proofs.digits.widened.Goals as goal

pub returns-then-xs-gt0 : goal.returns-then-xs-gt0
returns-then-xs-gt0 c =
    widened_spells c.args.xs.now c.extend_from_slice.new.self.items c.args.many c.requires c.if-xs-gt0.true
    (c.in_ok-extend_from_slice.ensures.items ∙ ap (λ l. l ++ c.args.xs.now) c.in_ok-ys.ensures)
