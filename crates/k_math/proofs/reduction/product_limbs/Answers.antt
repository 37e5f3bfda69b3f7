use Rattle.std.proofs.Common.{◌<◌, ◌≡◌, ◌≢◌, ◌∙◌, length, arith, get_or-set_other, get_or-set_same, below_more}
use Rattle.std.proofs.lemmas.List.{length-set}
use Rattle.k_math.proofs.ReductionLaws.{limb_is, carried_is}
use Rattle.k_math.proofs.reduction.product_limbs.Goals as goal

pub loop-i-preserved : goal.loop-i-preserved
loop-i-preserved c =
    let long : length c.loop-i.limbs ≡ 7 = c.loop-i.invariant.size in
    let lt : c.loop-i.i < length c.loop-i.limbs = omega (arith, long) in
    record {
      size = length-set c.loop-i.limbs c.loop-i.i c.low_half.result ∙ c.loop-i.invariant.size;
      done =
          below_more _ _
          (λ k h. let ne : k ≢ c.loop-i.i = omega arith in rw get_or-set_other (c.loop-i.invariant.done k h))
          (rw get_or-set_same (limb_is c.args.m c.args.c c.loop-i.i _ _ _ _ c.ratio_bits.ensures c.loop-i.invariant.over c.column-sum.ensures.value c.low_half.ensures));
      over = carried_is c.args.m c.args.c c.loop-i.i _ _ _ _ c.ratio_bits.ensures c.loop-i.invariant.over c.column-sum.ensures.value c.high_half-carry.ensures;
    }
