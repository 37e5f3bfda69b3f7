use Rattle.std.proofs.Common.{arith}
use Rattle.std.specs.Int.{IsGcd}
use Rattle.std.proofs.lemmas.Nat.Gcd.{IsGcd-from_zero, IsGcd-from_mod}
use Rattle.k_selfpar.proofs.Lowest.{gcd_positive}
use Rattle.k_selfpar.proofs.euclid.gcd.Goals as goal

pub loop-y-preserved : goal.loop-y-preserved
loop-y-preserved c g h = c.loop-y.invariant g (IsGcd-from_mod _ _ g h)

pub returns : goal.returns
returns c =
    let greatest : IsGcd c.args.a c.args.b c.loop-y.x = c.loop-y.invariant _ (IsGcd-from_zero _ _ (omega arith)) in
    record { greatest = greatest; positive = λ some. gcd_positive _ _ _ some greatest }
