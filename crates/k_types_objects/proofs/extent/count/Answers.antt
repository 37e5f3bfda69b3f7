use Rattle.std.proofs.Common.{◌≡◌, length, arith, rules}
use Rattle.k_types_objects.specs.Products.{counted}
use Rattle.k_types_objects.specs.KeptSizes.{sizes_in}
use Rattle.k_types_objects.proofs.Extents.{counts_all, counts_more}
use Rattle.k_types_objects.proofs.extent.count.Goals as goal

pub loop-size-preserved : goal.loop-size-preserved
loop-size-preserved c = record {
  within = c.count_with-count.ensures.within;
  left = counts_more c.loop-size.count c.count_with-count.result (counted c.args.first (sizes_in c.args.sizes.now)) c.in-Some.size.now c.loop-size.rest.now c.in-Some.more.now
      c.count_with-count.ensures.value c.in-Some.ensures.cases.0 c.loop-size.invariant.left;
}

pub returns : goal.returns
returns c =
    let none : length c.loop-size.rest.now ≡ 0 = first_of (search rules, grind arith, omega arith) in
    counts_all c.loop-size.count (counted c.args.first (sizes_in c.args.sizes.now)) c.loop-size.rest.now c.loop-size.invariant.within c.loop-size.invariant.left none
