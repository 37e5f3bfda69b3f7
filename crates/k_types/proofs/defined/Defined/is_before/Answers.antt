use Rattle.std.proofs.Common.{ap, ◌∙◌, take}
use Rattle.k_types_meaning.specs.Units.{is_name}
use Rattle.k_types.proofs.Places.{before_is, is_below}
use Rattle.k_types.proofs.defined.Defined.is_before.Goals as goal

pub returns-in-Some : goal.returns-in-Some
returns-in-Some c =
    ap (λ o. is_below o c.args.count) (c.in-Some.ensures.value ∙ c.self.invariant.1 c.args.name.now)
    ∙ (before_is c.self.inside.names c.args.name.now c.args.count ∙ ap (λ names. is_name (take c.args.count names) c.args.name.now) c.self.view_is)

pub returns-in-None : goal.returns-in-None
returns-in-None c =
    ap (λ o. is_below o c.args.count) (c.in-None.ensures.value ∙ c.self.invariant.1 c.args.name.now)
    ∙ (before_is c.self.inside.names c.args.name.now c.args.count ∙ ap (λ names. is_name (take c.args.count names) c.args.name.now) c.self.view_is)
