use Rattle.std.proofs.Common.{◌*◌, ◌^◌}
use Rattle.k_math.proofs.RemainderLaws.{below_divisor, once_more}
use Rattle.k_math.proofs.remainder.left_over.Goals as goal

pub doubled-rest-requires-clause-below : goal.doubled-rest-requires-clause-below
doubled-rest-requires-clause-below c = below_divisor (c.args.m * 2 ^ c.loop-k._k) c.args.n c.loop-k.rest c.requires.some c.loop-k.invariant

pub loop-k-preserved : goal.loop-k-preserved
loop-k-preserved c = once_more c.args.m c.loop-k._k c.args.n c.loop-k.rest c.doubled-rest.result c.loop-k.invariant c.doubled-rest.ensures
