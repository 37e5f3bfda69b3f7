use Rattle.std.proofs.Common.{◌≡◌, ℕ, ◌<◌, get_or, length}
use Rattle.k_math.specs.Reduction.{limb, carried}
use Rattle.k_math.proofs.reduction.product_limbs.Given as goal

abbrev pub invariant-loop-i : goal.invariant-loop-i
invariant-loop-i l = record {
  size : length l.limbs ≡ 7;
  done : (k : ℕ) → k < l.i → get_or l.limbs k 0 ≡ limb l.m l.c k;
  over : l.carry ≡ carried l.m l.c l.i;
}
