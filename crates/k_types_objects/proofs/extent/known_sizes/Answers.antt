use Rattle.std.proofs.Common.{◌≡◌, length, arith, rules}
use Rattle.k_types_meaning.specs.Dimensions.{known_sizes}
use Rattle.k_types_objects.specs.KeptSizes.{sizes_in}
use Rattle.k_types_objects.proofs.Extents.{known_all, known_more}
use Rattle.k_types_objects.proofs.extent.known_sizes.Goals as goal

pub loop-size-preserved : goal.loop-size-preserved
loop-size-preserved c = record {
  within = c.times_known-elements.ensures.within;
  left = known_more c.loop-size.elements c.in_ok-known.known c.times_known-elements.result c.in-Some.size.now c.loop-size.rest.now c.in-Some.more.now
      c.loop-size.dims c.push.new.self (known_sizes 1 (sizes_in c.args.sizes.now))
      c.in_ok-known.ensures.value c.times_known-elements.ensures.value c.in_ok-push.ensures.ok c.in-Some.ensures.cases.0 c.loop-size.invariant.left;
}

pub returns : goal.returns
returns c =
    let none : length c.loop-size.rest.now ≡ 0 = first_of (search rules, grind arith, omega arith) in
    known_all c.loop-size.elements c.loop-size.rest.now c.loop-size.dims (known_sizes 1 (sizes_in c.args.sizes.now)) c.loop-size.invariant.left none
