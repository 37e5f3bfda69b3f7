use Rattle.k_optab.specs.declared.class.Class.TheVariants as class
use Rattle.k_carry.proofs.advance.enter.Goals as goal

pub returns : goal.returns
returns c = (class.Move, c.enter.ensures c.args.region c.requires.kind)
