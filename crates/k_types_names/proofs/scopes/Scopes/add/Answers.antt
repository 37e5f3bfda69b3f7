use Rattle.std.proofs.Common.{◌≡◌, ◌++◌, [], ◌∷◌, ap, sym, subst, refl, ◌∙◌, if◌then◌else◌, reverse, vec_capacity, vec_len}
use Rattle.std.specs.BTreeMap.{get_by_text}
use Rattle.std.specs.String.{string_bytes}
use Rattle.k_types_meaning.specs.Names.{Names, library}
use Rattle.std.specs.Prelude.{◌||◌}
use Rattle.k_types_meaning.specs.Declarations.{entered}
use Rattle.k_types_names.specs.Scoping.{innermost, stands_in}
use Rattle.k_types_names.specs.Slots.{IsKept, from, names_in}
use Rattle.k_types_names.specs.declared.scopes.Slot.{Slot}
use Rattle.k_types_names.specs.declared.scopes.Slot.TheVariants.{Named}
use Rattle.k_types_names.proofs.Kept.{kept_added, names_added, newest_first, pushed, stands_is, twice_is}
use Rattle.k_types_names.proofs.scopes.Scopes.add.Goals as goal

pub invariant_of-self-2 : goal.invariant_of-self-2
invariant_of-self-2 c =
    let name = c.in-Ok.copies.0 in
    let key = c.in-Ok.copies.1 in
    let same : string_bytes key ≡ string_bytes name = c.in-Ok.ensures.second ∙ sym c.in-Ok.ensures.first in
    let old = c.self.inside.slots.items in
    let known = get_by_text c.self.inside.known in
    let slot : Slot = Named name c.in_ok-hidden.hidden in
    let room = pushed c.push.result (vec_len c.reserve.new.self) (vec_capacity c.reserve.new.self) c.push.ensures.full c.in_default.ensures.ok in
    let items : c.push.new.self.items ≡ old ++ slot ∷ [] =
    c.push.ensures.items ∙ (ap (λ b. if b then c.reserve.new.self.items ++ slot ∷ [] else c.reserve.new.self.items) room ∙ ap (λ s. s ++ slot ∷ []) c.reserve.ensures.items) in
    subst (λ slots. IsKept c.self.inside.depth slots (get_by_text c.learn.new.known)) (sym (newest_first old c.push.new.self.items slot items))
    (kept_added (reverse old) known (get_by_text c.learn.new.known) name c.in_ok-hidden.hidden
    (record { depth = c.self.inside.depth; meaning = c.args.meaning }) (string_bytes key) same c.in_ok-hidden.ensures.before c.in_ok-hidden.ensures.ok
    c.self.inside.depth c.self.invariant refl)

pub returns-clause-stood : goal.returns-clause-stood
returns-clause-stood c =
    let key = c.in-Ok.copies.1 in
    let known = get_by_text c.self.inside.known in
    let slots = reverse c.self.inside.slots.items in
    ap (λ b. b || stands_in library c.args.name.now)
    (c.is_from-stood.ensures
    ∙ (ap (λ o. from o c.self.inside.depth) (c.in_ok-hidden.ensures.before ∙ ap known c.in-Ok.ensures.second)
    ∙ (ap (from (known c.args.name.now)) c.self.invariant.counted
    ∙ (stands_is slots known c.self.invariant.known_all c.args.name.now ∙ ap (λ (names : Names). stands_in (innermost names) c.args.name.now) c.self.view_is))))
    ∙ twice_is c.args.self.now c.args.name.now

pub returns-clause-ok : goal.returns-clause-ok
returns-clause-ok c =
    let name = c.in-Ok.copies.0 in
    let key = c.in-Ok.copies.1 in
    let same : string_bytes key ≡ string_bytes name = c.in-Ok.ensures.second ∙ sym c.in-Ok.ensures.first in
    let old = c.self.inside.slots.items in
    let known = get_by_text c.self.inside.known in
    let slot : Slot = Named name c.in_ok-hidden.hidden in
    let room = pushed c.push.result (vec_len c.reserve.new.self) (vec_capacity c.reserve.new.self) c.push.ensures.full c.in_default.ensures.ok in
    let items : c.push.new.self.items ≡ old ++ slot ∷ [] =
    c.push.ensures.items ∙ (ap (λ b. if b then c.reserve.new.self.items ++ slot ∷ [] else c.reserve.new.self.items) room ∙ ap (λ s. s ++ slot ∷ []) c.reserve.ensures.items) in
    ap (λ slots. names_in slots (get_by_text c.learn.new.known)) (newest_first old c.push.new.self.items slot items)
    ∙ (names_added (reverse old) known (get_by_text c.learn.new.known) name c.in_ok-hidden.hidden
    (record { depth = c.self.inside.depth; meaning = c.args.meaning }) (string_bytes key) same c.in_ok-hidden.ensures.before c.in_ok-hidden.ensures.ok
    ∙ (ap (λ x. entered x c.args.meaning (names_in (reverse old) known)) c.in-Ok.ensures.first
    ∙ ap (entered c.args.name.now c.args.meaning) c.self.view_is))
