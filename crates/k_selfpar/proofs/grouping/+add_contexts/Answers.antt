use Rattle.std.proofs.Common.{◌≡◌, ◌+◌, ◌<◌, ◌^◌, List, [], ◌∷◌, Result, Err, length, sym, ap, ◌∙◌, subst, rules, arith, length-append}
use Rattle.std.proofs.lemmas.List.{nil_from_length}
use Rattle.k_selfpar.specs.Grouping.{AddsContexts, AreChildren, Fits}
use Rattle.k_selfpar.specs.Items.{AreItems, total}
use Rattle.k_selfpar.specs.declared.context.ContextFault.{ContextFault}
use Rattle.k_selfpar.specs.declared.item.Item.{Item}
use Rattle.k_selfpar.proofs.Grouped.{all_listed, children_few, children_fit, children_lower, err_below, fitting_small, front_fits, front_items, ok_below, region_there, wide_here}
use Rattle.k_selfpar.proofs.Profile.{have_children}
use Rattle.k_selfpar.proofs.grouping.+add_contexts.Goals as goal

pub returns-then-number-eq-MOST_CONTEXTS : goal.returns-then-number-eq-MOST_CONTEXTS
returns-then-number-eq-MOST_CONTEXTS t c =
    let full : length c.loop-first.contexts ≡ 65536 = omega (arith, c.len-number.ensures, c.if-number-eq-MOST_CONTEXTS.true) in
    wide_here c.args.regions.now c.args.dict.now c.args.parent c.args.items.now c.loop-first.rest.now c.args.contexts.now c.loop-first.contexts c.loop-first.invariant
    c.in-Some.first.now c.in-Some.field-0-1.now c.in-Some.ensures.cases.0 c.split_region.result.0.now c.split_region.result.1.now c.split_region.ensures.whole
    c.split_region.ensures.same c.split_region.ensures.other
    c.requires.profile.interned.earlier c.requires.regions full

pub children_of-requires-clause-items : goal.children_of-requires-clause-items
children_of-requires-clause-items t c =
    front_items c.args.regions.now c.args.dict.now c.args.parent c.args.items.now c.loop-first.rest.now c.args.contexts.now c.loop-first.contexts c.loop-first.invariant
    c.in-Some.first.now c.in-Some.field-0-1.now c.in-Some.ensures.cases.0 c.split_region.result.0.now c.split_region.result.1.now c.split_region.ensures.whole
    c.split_region.ensures.same c.split_region.ensures.other

pub children_of-requires-clause-fits : goal.children_of-requires-clause-fits
children_of-requires-clause-fits t c =
    front_fits c.args.regions.now c.args.dict.now c.args.parent c.args.items.now c.loop-first.rest.now c.args.contexts.now c.loop-first.contexts c.loop-first.invariant
    c.in-Some.first.now c.in-Some.field-0-1.now c.in-Some.ensures.cases.0 c.split_region.result.0.now c.split_region.result.1.now c.split_region.ensures.whole
    c.split_region.ensures.same c.split_region.ensures.other

pub context_of-context-requires-clause-region : goal.context_of-context-requires-clause-region
context_of-context-requires-clause-region t c =
    region_there c.args.regions.now c.args.dict.now c.args.parent c.args.items.now c.loop-first.rest.now c.args.contexts.now c.loop-first.contexts c.loop-first.invariant
    c.in-Some.first.now c.in-Some.field-0-1.now c.in-Some.ensures.cases.0 c.split_region.result.0.now c.split_region.result.1.now c.split_region.ensures.whole
    c.split_region.ensures.same c.split_region.ensures.other
    c.requires.profile.interned.earlier c.requires.regions

pub context_of-context-requires-clause-items : goal.context_of-context-requires-clause-items
context_of-context-requires-clause-items t c =
    front_items c.args.regions.now c.args.dict.now c.args.parent c.args.items.now c.loop-first.rest.now c.args.contexts.now c.loop-first.contexts c.loop-first.invariant
    c.in-Some.first.now c.in-Some.field-0-1.now c.in-Some.ensures.cases.0 c.split_region.result.0.now c.split_region.result.1.now c.split_region.ensures.whole
    c.split_region.ensures.same c.split_region.ensures.other

pub context_of-context-requires-clause-small : goal.context_of-context-requires-clause-small
context_of-context-requires-clause-small t c =
    let are : AreItems c.args.dict.now c.split_region.result.0.now =
    front_items c.args.regions.now c.args.dict.now c.args.parent c.args.items.now c.loop-first.rest.now c.args.contexts.now c.loop-first.contexts c.loop-first.invariant
    c.in-Some.first.now c.in-Some.field-0-1.now c.in-Some.ensures.cases.0 c.split_region.result.0.now c.split_region.result.1.now c.split_region.ensures.whole
    c.split_region.ensures.same c.split_region.ensures.other in
    let fits : Fits c.args.dict.now c.split_region.result.0.now =
    front_fits c.args.regions.now c.args.dict.now c.args.parent c.args.items.now c.loop-first.rest.now c.args.contexts.now c.loop-first.contexts c.loop-first.invariant
    c.in-Some.first.now c.in-Some.field-0-1.now c.in-Some.ensures.cases.0 c.split_region.result.0.now c.split_region.result.1.now c.split_region.ensures.whole
    c.split_region.ensures.same c.split_region.ensures.other in
    fitting_small c.args.dict.now c.requires.profile c.split_region.result.0.now are fits

pub context_of-context-requires-clause-have : goal.context_of-context-requires-clause-have
context_of-context-requires-clause-have t c = have_children c.args.dict.now c.requires.profile

pub context_of-context-requires-clause-few : goal.context_of-context-requires-clause-few
context_of-context-requires-clause-few t c =
    let are : AreItems c.args.dict.now c.split_region.result.0.now =
    front_items c.args.regions.now c.args.dict.now c.args.parent c.args.items.now c.loop-first.rest.now c.args.contexts.now c.loop-first.contexts c.loop-first.invariant
    c.in-Some.first.now c.in-Some.field-0-1.now c.in-Some.ensures.cases.0 c.split_region.result.0.now c.split_region.result.1.now c.split_region.ensures.whole
    c.split_region.ensures.same c.split_region.ensures.other in
    let fits : Fits c.args.dict.now c.split_region.result.0.now =
    front_fits c.args.regions.now c.args.dict.now c.args.parent c.args.items.now c.loop-first.rest.now c.args.contexts.now c.loop-first.contexts c.loop-first.invariant
    c.in-Some.first.now c.in-Some.field-0-1.now c.in-Some.ensures.cases.0 c.split_region.result.0.now c.split_region.result.1.now c.split_region.ensures.whole
    c.split_region.ensures.same c.split_region.ensures.other in
    let P : List Item → Type 0 = λ l. total (λ n. 1) l < 2 ^ 64 in
    subst P (sym c.as_slice-below.ensures.value)
    (children_few c.args.dict.now c.requires.profile c.split_region.result.0.now are fits c.in_ok-children.children.items c.in_ok-children.ensures)

pub add_contexts-requires : goal.add_contexts-requires
add_contexts-requires t c =
    let are : AreItems c.args.dict.now c.split_region.result.0.now =
    front_items c.args.regions.now c.args.dict.now c.args.parent c.args.items.now c.loop-first.rest.now c.args.contexts.now c.loop-first.contexts c.loop-first.invariant
    c.in-Some.first.now c.in-Some.field-0-1.now c.in-Some.ensures.cases.0 c.split_region.result.0.now c.split_region.result.1.now c.split_region.ensures.whole
    c.split_region.ensures.same c.split_region.ensures.other in
    let fits : Fits c.args.dict.now c.split_region.result.0.now =
    front_fits c.args.regions.now c.args.dict.now c.args.parent c.args.items.now c.loop-first.rest.now c.args.contexts.now c.loop-first.contexts c.loop-first.invariant
    c.in-Some.first.now c.in-Some.field-0-1.now c.in-Some.ensures.cases.0 c.split_region.result.0.now c.split_region.result.1.now c.split_region.ensures.whole
    c.split_region.ensures.same c.split_region.ensures.other in
    let P : List Item → Type 0 = λ l. AreChildren c.args.dict.now c.split_region.result.0.now l in
    let of : AreChildren c.args.dict.now c.split_region.result.0.now c.as_slice-below.result.now =
    subst P (sym c.as_slice-below.ensures.value) c.in_ok-children.ensures in
    let lower = children_lower c.args.regions.now c.args.dict.now c.args.parent c.args.items.now c.loop-first.rest.now c.args.contexts.now c.loop-first.contexts c.loop-first.invariant
    c.in-Some.first.now c.in-Some.field-0-1.now c.in-Some.ensures.cases.0 c.split_region.result.0.now c.split_region.result.1.now c.split_region.ensures.whole
    c.split_region.ensures.same c.split_region.ensures.other
    c.as_slice-below.result.now of in
    let count : length c.push.new.self ≡ length c.loop-first.contexts + 1 =
    ap length c.in_ok-push.ensures.ok ∙ length-append c.loop-first.contexts (c.context_of-context.result ∷ []) in (
      omega (arith, lower, c.decreases),
      (
        of.are,
        (
          of.rise,
          (
            c.requires.profile,
            (
              c.requires.regions,
              (
                children_fit c.args.dict.now c.requires.profile c.split_region.result.0.now are fits c.as_slice-below.result.now of,
                omega (arith, count, c.len-number.ensures, c.if-number-eq-MOST_CONTEXTS.false, c.loop-first.invariant.room),
              ),
            ),
          ),
        ),
      ),
    )

pub returns-in_err-add_contexts : goal.returns-in_err-add_contexts
returns-in_err-add_contexts t c =
    let same : c.from_residual-in_err-add_contexts.result ≡ Err c.in_err-add_contexts.field-0.0 = first_of (search rules, grind arith, cc) in
    let P : List Item → Type 0 = λ l. AreChildren c.args.dict.now c.split_region.result.0.now l in
    let of : AreChildren c.args.dict.now c.split_region.result.0.now c.as_slice-below.result.now =
    subst P (sym c.as_slice-below.ensures.value) c.in_ok-children.ensures in
    let R : Result (Unit {0}) ContextFault → Type 0 =
    λ r. AddsContexts c.args.regions.now c.args.dict.now c.args.parent c.args.items.now c.args.contexts.now r c.add_contexts.new.contexts in
    subst R (sym same)
    (err_below c.args.regions.now c.args.dict.now c.args.parent c.args.items.now c.loop-first.rest.now c.args.contexts.now c.loop-first.contexts c.loop-first.invariant
    c.in-Some.first.now c.in-Some.field-0-1.now c.in-Some.ensures.cases.0 c.split_region.result.0.now c.split_region.result.1.now c.split_region.ensures.whole
    c.split_region.ensures.same c.split_region.ensures.other
    c.as_slice-below.result.now of c.context_of-context.result
    c.context_of-context.ensures
    c.requires.profile.interned.earlier c.requires.regions c.len-number.result c.len-number.ensures c.push.new.self c.add_contexts.new.contexts c.add_contexts.new.contexts
    c.in_ok-push.ensures.ok c.in_err-add_contexts.field-0.0 c.in_err-add_contexts.ensures)

pub loop-first-preserved : goal.loop-first-preserved
loop-first-preserved t c =
    let P : List Item → Type 0 = λ l. AreChildren c.args.dict.now c.split_region.result.0.now l in
    let of : AreChildren c.args.dict.now c.split_region.result.0.now c.as_slice-below.result.now =
    subst P (sym c.as_slice-below.ensures.value) c.in_ok-children.ensures in
    ok_below c.args.regions.now c.args.dict.now c.args.parent c.args.items.now c.loop-first.rest.now c.args.contexts.now c.loop-first.contexts c.loop-first.invariant
    c.in-Some.first.now c.in-Some.field-0-1.now c.in-Some.ensures.cases.0 c.split_region.result.0.now c.split_region.result.1.now c.split_region.ensures.whole
    c.split_region.ensures.same c.split_region.ensures.other
    c.as_slice-below.result.now of c.context_of-context.result
    c.context_of-context.ensures
    c.len-number.result c.len-number.ensures c.push.new.self c.add_contexts.new.contexts c.in_ok-push.ensures.ok c.in_ok-add_contexts.ensures

pub returns : goal.returns
returns t c =
    all_listed c.args.regions.now c.args.dict.now c.args.parent c.args.items.now c.loop-first.rest.now c.args.contexts.now c.loop-first.contexts c.loop-first.invariant
    (nil_from_length c.loop-first.rest.now c.in_default.ensures.cases)
