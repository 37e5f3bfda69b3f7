use Rattle.std.proofs.Common.{refl}
use Rattle.k_hexadecimal.specs.Hexadecimal.{number}
use Rattle.k_hexadecimal.proofs.HexadecimalLaws.{none_yet}
use Rattle.k_hexadecimal.proofs.StepLaws.{prefix_is}
use Rattle.k_hexadecimal.proofs.hexadecimal.behind_prefix.Goals as goal

pub with_fraction-requires-clause-some : goal.with_fraction-requires-clause-some
with_fraction-requires-clause-some c = (number 0 c.args.text.now, c.read.ensures.value 0 (none_yet _ refl refl refl))

pub returns : goal.returns
returns c = prefix_is c.args.p _ c.args.text.now c.read.result.1.now c.with_fraction.result c.read.ensures.rest refl (c.with_fraction.ensures (number 0 c.args.text.now) (c.read.ensures.value 0 (none_yet _ refl refl refl)))
