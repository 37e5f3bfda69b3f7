use Rattle.std.proofs.Common.{◌≡◌, ℕ, ◌≤◌, List, [], ◌∷◌, ◌++◌, length, sym, ap, ◌∙◌, subst}
use Rattle.k_selfpar.specs.Contexts.{AreUnder, ContextsAreAtLeastOne}
use Rattle.k_selfpar.specs.Grouping.{Fits, standing}
use Rattle.k_selfpar.specs.Items.{item_of}
use Rattle.k_selfpar.specs.Nested.{CanPlan}
use Rattle.k_selfpar.specs.declared.context.Context.{Context}
use Rattle.k_selfpar.specs.declared.item.Item.{Item}
use Rattle.k_selfpar.proofs.Grouped.{root_fits, root_items}
use Rattle.k_selfpar.proofs.Nested.{contexts_can_be_planned}
use Rattle.k_selfpar.proofs.Profile.{Bounded}
use Rattle.k_selfpar.proofs.Standing.{bounded_standing}
use Rattle.k_selfpar.proofs.Under.{under_at_least_one}
use Rattle.k_selfpar.proofs.grouping.contexts.Goals as goal

pub add_contexts-requires-clause-fits : goal.add_contexts-requires-clause-fits
add_contexts-requires-clause-fits c =
    let P : Item → Type 0 = λ i. Fits c.args.dict.now (i ∷ []) in
    subst P (sym c.item_of-first.ensures) (root_fits c.args.dict.now c.requires.profile c.args.root c.requires.root)

pub returns-in-Ok-clause-at_least_one : goal.returns-in-Ok-clause-at_least_one
returns-in-Ok-clause-at_least_one c =
    let adds = c.in-Ok.ensures in
    let is : c.add_contexts.new.contexts ≡ adds.0 = adds.1 ∙ ap (λ (l : List Context). l ++ adds.0) c.new-contexts.ensures in
    let P : Item → Type 0 = λ i. Bounded (standing c.args.dict.now (i ∷ [])) in
    let bounded : Bounded (standing c.args.dict.now (c.item_of-first.result ∷ [])) =
    subst P (sym c.item_of-first.ensures)
    (bounded_standing c.args.dict.now c.requires.profile (item_of c.args.dict.now c.args.root 1 ∷ [])
    (root_items c.args.dict.now c.requires.profile c.args.root c.requires.root)) in
    let Q : List Context → Type 0 = ContextsAreAtLeastOne in
    subst Q (sym is)
    (under_at_least_one c.as_slice.result.now 0 (length c.new-contexts.result) (standing c.args.dict.now (c.item_of-first.result ∷ [])) adds.0 adds.2 bounded)

pub returns-in-Ok-clause-can_plan : goal.returns-in-Ok-clause-can_plan
returns-in-Ok-clause-can_plan c =
    let adds = c.in-Ok.ensures in
    let is : c.add_contexts.new.contexts ≡ adds.0 = adds.1 ∙ ap (λ (l : List Context). l ++ adds.0) c.new-contexts.ensures in
    let U : ℕ → Type 0 = λ n. AreUnder c.as_slice.result.now 0 n (standing c.args.dict.now (c.item_of-first.result ∷ [])) adds.0 in
    let V : Item → Type 0 = λ i. AreUnder c.as_slice.result.now 0 0 (standing c.args.dict.now (i ∷ [])) adds.0 in
    let few : length adds.0 ≤ 65536 = subst (λ (l : List Context). length l ≤ 65536) is adds.3 in
    let Q : List Context → Type 0 = CanPlan in
    subst Q (sym is)
    (contexts_can_be_planned c.as_slice.result.now c.args.dict.now c.args.root adds.0 c.requires.profile c.requires.root
    (subst V c.item_of-first.ensures (subst U (ap (λ (l : List Context). length l) c.new-contexts.ensures) adds.2)) few)
