use Rattle.std.proofs.Common.{◌≡◌, ◌<◌, ◌++◌, ◌∙◌, Some, get_or, length, slice_get, reverse, arith, ap, refl}
use Rattle.std.proofs.lemmas.List.{take_at}
use Rattle.std.proofs.lemmas.Option.{slice_get-get_or, slice_get_read}
use Rattle.k_report.specs.PlanLines.{regions_to}
use Rattle.k_report.proofs.RegionLists.{at_root, gone_up, parent_before, regions_below}
use Rattle.k_report.proofs.plan_lines.regions_to.Goals as goal

pub loop-at-smaller : goal.loop-at-smaller
loop-at-smaller c =
    let x = c.index-contexts-at.result in
    let found : slice_get c.args.contexts.now c.loop-at.at ≡ Some x =
    slice_get_read c.args.contexts.now (length c.args.contexts.now) c.loop-at.at x refl c.loop-at.invariant.within c.index-contexts-at.is in
    parent_before c.args.contexts.now c.requires.parents c.loop-at.at x c.loop-at-test.true found

pub loop-at-preserved : goal.loop-at-preserved
loop-at-preserved c =
    let contexts = c.args.contexts.now in
    let x = c.index-contexts-at.result in
    let found : slice_get contexts c.loop-at.at ≡ Some x =
    slice_get_read contexts (length contexts) c.loop-at.at x refl c.loop-at.invariant.within c.index-contexts-at.is in
    let before : x.parent < c.loop-at.at = parent_before contexts c.requires.parents c.loop-at.at x c.loop-at-test.true found in
    let low = c.loop-at.invariant.within in
    record {
      within = omega arith;
      so_far = ap (λ l. regions_to contexts x.parent ++ reverse l) c.in_ok-push.ensures.items
          ∙ gone_up (regions_to contexts x.parent) (regions_to contexts c.loop-at.at) (regions_to contexts c.args.number) c.loop-at.regions.items x.region
          (regions_below contexts c.requires.parents c.loop-at.at x c.loop-at-test.true found) c.loop-at.invariant.so_far;
    }

pub returns : goal.returns
returns c =
    let contexts = c.args.contexts.now in
    let root = get_or contexts 0 c.index-contexts-0.result in
    let some : 0 < length contexts = omega arith in
    let found : slice_get contexts 0 ≡ Some root = slice_get-get_or contexts 0 c.index-contexts-0.result some in
    take_at c.reverse.new.self _ c.push-2.new.self.len (c.reverse.ensures.len ∙ c.as_mut_slice.ensures.len)
    ∙ (c.reverse.ensures.after ∙ ap reverse (c.as_mut_slice.ensures.value ∙ c.in_ok-push-2.ensures.items))
    ∙ at_root contexts c.loop-at.at root (regions_to contexts c.args.number) c.loop-at.regions.items c.loop-at-test.false found c.loop-at.invariant.so_far
