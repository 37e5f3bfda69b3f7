use Rattle.std.proofs.lemmas.Nat.{leading_top}
use Rattle.k_hexadecimal.proofs.HexadecimalLaws.{size_by}
use Rattle.k_hexadecimal.proofs.hexadecimal.bits.Goals as goal

pub returns-clause-value : goal.returns-clause-value
returns-clause-value c = let top = leading_top 64 c.args.n c.requires c.ranges.n.fits in size_by c.args.n _ top.0 top.1 top.2 top.3
