use Rattle.k_real.proofs.ScientificLaws.{all_are, none_are}
use Rattle.k_real.proofs.scientific.all_digits.Goals as goal

pub returns-then-xs-gt0 : goal.returns-then-xs-gt0
returns-then-xs-gt0 c = all_are c.args.xs.now c.args.a c.requires c.if-xs-gt0.true

pub returns : goal.returns
returns c = none_are c.args.xs.now c.args.a c.places.result c.requires c.if-xs-gt0.false c.places.ensures.value
