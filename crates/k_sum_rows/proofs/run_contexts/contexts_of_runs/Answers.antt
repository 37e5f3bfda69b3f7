use Rattle.std.proofs.Common.{List, Ok, Err, sym, ◌∙◌, subst}
use Rattle.k_optab.specs.declared.region.Region.{Region}
use Rattle.k_selfpar.specs.Grouping.{Fits}
use Rattle.k_selfpar.specs.Items.{AreItems, Rise}
use Rattle.k_selfpar.specs.declared.item.Item.{Item}
use Rattle.k_sum_rows.specs.Runs.{GivesRunContexts, run_trees}
use Rattle.k_sum_rows.proofs.Listed.{contexts_at_least_one, contexts_can_plan, contexts_given, contexts_refused, items_are, items_fit, items_rise}
use Rattle.k_sum_rows.proofs.run_contexts.contexts_of_runs.Goals as goal

pub add_contexts-requires-clause-items : goal.add_contexts-requires-clause-items
add_contexts-requires-clause-items c =
    let P : List Item → Type 0 = AreItems c.args.dict.now in
    subst P (sym (c.as_slice-outermost.ensures.value ∙ c.in-Ok.ensures)) (items_are c.args.dict.now c.requires.profile c.args.roots.now c.requires.roots)

pub add_contexts-requires-clause-rise : goal.add_contexts-requires-clause-rise
add_contexts-requires-clause-rise c =
    let P : List Item → Type 0 = Rise 0 in
    subst P (sym (c.as_slice-outermost.ensures.value ∙ c.in-Ok.ensures)) (items_rise c.args.dict.now c.requires.profile c.args.roots.now c.requires.roots c.requires.one)

pub add_contexts-requires-clause-fits : goal.add_contexts-requires-clause-fits
add_contexts-requires-clause-fits c =
    let P : List Item → Type 0 = Fits c.args.dict.now in
    subst P (sym (c.as_slice-outermost.ensures.value ∙ c.in-Ok.ensures)) (items_fit c.args.dict.now c.requires.profile c.args.roots.now c.requires.roots)

pub returns-in-Ok-add_contexts-clause-contexts : goal.returns-in-Ok-add_contexts-clause-contexts
returns-in-Ok-add_contexts-clause-contexts c =
    let P : List Region → Type 0 = λ regions. GivesRunContexts regions (run_trees c.args.dict.now c.args.roots.now) (Ok c.add_contexts.new.contexts) in
    subst P c.as_slice.ensures
    (contexts_given c.args.dict.now c.requires.profile c.args.roots.now c.requires.roots c.as_slice.result.now c.as_slice-outermost.result.now (c.as_slice-outermost.ensures.value ∙ c.in-Ok.ensures)
    c.new-contexts.result c.add_contexts.new.contexts c.new-contexts.ensures c.in-Ok-add_contexts.ensures)

pub returns-in-Ok-add_contexts-clause-at_least_one : goal.returns-in-Ok-add_contexts-clause-at_least_one
returns-in-Ok-add_contexts-clause-at_least_one c =
    contexts_at_least_one c.args.dict.now c.requires.profile c.args.roots.now c.requires.roots c.as_slice.result.now c.as_slice-outermost.result.now (c.as_slice-outermost.ensures.value ∙ c.in-Ok.ensures)
    c.new-contexts.result c.add_contexts.new.contexts c.new-contexts.ensures c.in-Ok-add_contexts.ensures

pub returns-in-Ok-add_contexts-clause-can_plan : goal.returns-in-Ok-add_contexts-clause-can_plan
returns-in-Ok-add_contexts-clause-can_plan c =
    contexts_can_plan c.args.dict.now c.requires.profile c.args.roots.now c.requires.roots c.as_slice.result.now c.as_slice-outermost.result.now (c.as_slice-outermost.ensures.value ∙ c.in-Ok.ensures)
    c.new-contexts.result c.add_contexts.new.contexts c.new-contexts.ensures c.requires.one c.in-Ok-add_contexts.ensures

pub returns-clause-contexts : goal.returns-clause-contexts
returns-clause-contexts c =
    let P : List Region → Type 0 = λ regions. GivesRunContexts regions (run_trees c.args.dict.now c.args.roots.now) (Err c.in-Err.fault) in
    subst P c.as_slice.ensures
    (contexts_refused c.args.dict.now c.requires.profile c.args.roots.now c.requires.roots c.as_slice.result.now c.as_slice-outermost.result.now (c.as_slice-outermost.ensures.value ∙ c.in-Ok.ensures)
    c.new-contexts.result c.add_contexts.new.contexts c.new-contexts.ensures c.in-Err.fault c.in-Err.ensures)
