use Rattle.std.proofs.Common.{inr, refl, sym, subst}
use Rattle.k_types_meaning.specs.declared.fault.TypeFault.TheVariants as fault
use Rattle.k_types_meaning.specs.Initialisers.{Items, excess, giving}
use Rattle.k_types_meaning.specs.Made.{then_made}
use Rattle.k_types_rules.specs.Views.{Refuses}
use Rattle.k_types_declarations.proofs.braces.refuse.Goals as goal

pub returns : goal.returns
returns c =
    λ kept.
    let g = giving c.args.names.now c.args.item.now in
    let given = c.in_ok-judge_alone.ensures in
    subst (λ p. Refuses (fault.Kinds p) (then_made g.alone (λ taken. excess {A = Items} g.place))) (sym (c.place_of.ensures c.args.names.now))
    (subst (λ m. Refuses (fault.Kinds g.place) (then_made m (λ taken. excess {A = Items} g.place))) (sym given.1) (inr refl))
