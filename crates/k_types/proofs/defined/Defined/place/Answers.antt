use Rattle.std.proofs.Common.{ap, ◌∙◌, length}
use Rattle.k_types_meaning.specs.Names.{place_in}
use Rattle.k_types.proofs.Places.{place_is, place_or}
use Rattle.k_types.proofs.defined.Defined.place.Goals as goal

pub returns-in-Some : goal.returns-in-Some
returns-in-Some c =
    ap (λ o. place_or o (length c.self.inside.names)) (c.in-Some.ensures.value ∙ c.self.invariant.1 c.args.name.now)
    ∙ (place_is c.self.inside.names c.args.name.now ∙ ap (λ names. place_in names c.args.name.now) c.self.view_is)

pub returns-in-None : goal.returns-in-None
returns-in-None c =
    c.self.invariant.0
    ∙ (ap (λ o. place_or o (length c.self.inside.names)) (c.in-None.ensures.value ∙ c.self.invariant.1 c.args.name.now)
    ∙ (place_is c.self.inside.names c.args.name.now ∙ ap (λ names. place_in names c.args.name.now) c.self.view_is))
