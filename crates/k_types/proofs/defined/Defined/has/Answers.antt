use Rattle.std.proofs.Common.{ap, ◌∙◌}
use Rattle.std.specs.Prelude.{is_some}
use Rattle.k_types_meaning.specs.Units.{is_name}
use Rattle.k_types.proofs.Places.{there_is}
use Rattle.k_types.proofs.defined.Defined.has.Goals as goal

pub returns-in-Some : goal.returns-in-Some
returns-in-Some c =
    ap is_some (c.in-Some.ensures.value ∙ c.self.invariant.1 c.args.name.now)
    ∙ (there_is c.self.inside.names c.args.name.now ∙ ap (λ names. is_name names c.args.name.now) c.self.view_is)

pub returns-in-None : goal.returns-in-None
returns-in-None c =
    ap is_some (c.in-None.ensures.value ∙ c.self.invariant.1 c.args.name.now)
    ∙ (there_is c.self.inside.names c.args.name.now ∙ ap (λ names. is_name names c.args.name.now) c.self.view_is)
