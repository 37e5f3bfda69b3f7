use Rattle.std.proofs.Common.{arith, subst}
use Rattle.std.specs.Prelude.{◌+◌, ◌*◌}
use Rattle.k_real.specs.Digits.{value, Spells}
use Rattle.k_real.proofs.DigitLaws.{spelled_bit}
use Rattle.k_real.proofs.digits.digits_of.Goals as goal

pub loop-left-preserved : goal.loop-left-preserved
loop-left-preserved c = record {
  some = let s = c.loop-left.invariant.some in omega arith;
  spells = spelled_bit c.args.n c.loop-left.left c.loop-left.ys.items c.in_ok-ys.ys.items c.loop-left-test.true c.loop-left.invariant.spells
      (subst (λ w. Spells c.in_ok-ys.ys.items (value c.loop-left.ys.items * 2 + w)) c.bit_at.ensures.value (subst (λ u. Spells c.in_ok-ys.ys.items (value u * 2 + c.bit_at.result)) c.deref.ensures.value c.in_ok-ys.ensures));
}
