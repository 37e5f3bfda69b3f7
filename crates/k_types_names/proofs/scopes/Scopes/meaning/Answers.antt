use Rattle.std.proofs.Common.{ap, ◌∙◌, reverse}
use Rattle.std.specs.BTreeMap.{get_by_text}
use Rattle.k_types_meaning.specs.Names.{meaning_of}
use Rattle.k_types_names.proofs.Kept.{meant, meant_is}
use Rattle.k_types_names.proofs.scopes.Scopes.meaning.Goals as goal

pub returns-in-Some : goal.returns-in-Some
returns-in-Some c =
    ap meant c.in-Some.ensures.value
    ∙ (meant_is (reverse c.self.inside.slots.items) (get_by_text c.self.inside.known) c.self.invariant.known_all c.as_str.result.now
    ∙ (ap (λ names. meaning_of names c.as_str.result.now) c.self.view_is ∙ ap (meaning_of c.args.self.now) c.as_str.ensures))

pub returns-in-None : goal.returns-in-None
returns-in-None c =
    ap meant c.in-None.ensures.value
    ∙ (meant_is (reverse c.self.inside.slots.items) (get_by_text c.self.inside.known) c.self.invariant.known_all c.as_str.result.now
    ∙ (ap (λ names. meaning_of names c.as_str.result.now) c.self.view_is ∙ ap (meaning_of c.args.self.now) c.as_str.ensures))
