use Rattle.std.proofs.Common.{◌≡◌, ◌↔◌, ◌+◌, Bool, IsTrue, [], ◌∷◌, length, sym, ap, ◌∙◌, subst, length-append}
use Rattle.k_dict_saved.specs.Formats.{IsPostOrder}
use Rattle.k_dict_saved.proofs.Visiting.{order_is}
use Rattle.k_dict_saved.proofs.reading.order.are_in_post_order.Goals as goal

pub returns-in-Some : goal.returns-in-Some
returns-in-Some c =
    let last : length c.args.entries.now ≡ length c.in-Some.before.now + 1 =
    ap length c.in-Some.ensures.cases.0 ∙ length-append c.in-Some.before.now (c.in-Some.field-0-0.now ∷ []) in
    let P : Bool → Type 0 = λ b. IsTrue b ↔ IsPostOrder c.args.entries.now in
    subst P (sym c.is_some.ensures)
    (order_is c.args.entries.now c.requires.runs c.requires.distinct.apart (length c.in-Some.before.now) c.visit.result last c.visit.ensures)
