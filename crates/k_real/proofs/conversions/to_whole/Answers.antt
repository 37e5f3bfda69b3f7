use Rattle.std.proofs.Common.{sym, ap, ◌∙◌, subst}
use Rattle.std.specs.Prelude.{T}
use Rattle.std.specs.Int.{w64, w128}
use Rattle.std.specs.Float.{binary64}
use Rattle.std.specs.Float.Ieee.{fits}
use Rattle.std.specs.Float.Ieee.Bits.{of_bits-fits}
use Rattle.std.specs.Option.{option_and_then}
use Rattle.std.proofs.lemmas.Int.{to_z-of_z}
use Rattle.k_real.specs.Conversions.{held, whole_part}
use Rattle.k_real.proofs.WholeParts.{above_minus_one, signed_part, unsigned_part, no_part}
use Rattle.k_real.proofs.conversions.to_whole.Goals as goal

pub truncating_f64_to_u64-requires-clause-lower_bound :
    goal.truncating_f64_to_u64-requires-clause-lower_bound
truncating_f64_to_u64-requires-clause-lower_bound c = above_minus_one c.real_of_code-x.result (sym c.is_above_signed.ensures ∙ c.if-is_above_signed.true)

pub returns-then-is_signed : goal.returns-then-is_signed
returns-then-is_signed c =
    let whole = signed_part c.real_of_code-x.result c.truncating_f64_to_i64.result (sym c.is_signed.ensures ∙ c.if-is_signed.true) c.truncating_f64_to_i64.ensures in
    c.held_by.ensures ∙ ap (held c.args.kind) (to_z-of_z w128 c.from.result (record { sfits = c.from.type_inv }) ∙ c.from.ensures ∙ to_z-of_z w64 c.truncating_f64_to_i64.result (record { sfits = c.truncating_f64_to_i64.type_inv })) ∙ sym (ap (option_and_then (held c.args.kind)) (ap whole_part (sym c.real_of_code-x.ensures) ∙ whole))

pub returns-then-is_above_signed : goal.returns-then-is_above_signed
returns-then-is_above_signed c =
    let whole = unsigned_part c.real_of_code-x.result c.truncating_f64_to_u64.result (sym c.is_above_signed.ensures ∙ c.if-is_above_signed.true) c.truncating_f64_to_u64.ensures in
    c.held_by-then-is_above_signed.ensures
    ∙ ap (held c.args.kind) (to_z-of_z w128 c.from-then-is_above_signed.result (record { sfits = c.from-then-is_above_signed.type_inv }) ∙ c.from-then-is_above_signed.ensures)
    ∙ sym (ap (option_and_then (held c.args.kind)) (ap whole_part (sym c.real_of_code-x.ensures) ∙ whole))

pub returns-else-is_above_signed : goal.returns-else-is_above_signed
returns-else-is_above_signed c =
    let f = subst (λ x. T (fits binary64 x)) (sym c.real_of_code-x.ensures) (of_bits-fits binary64 c.args.a) in
    sym (ap (λ x. option_and_then (held c.args.kind) (whole_part x)) (sym c.real_of_code-x.ensures)
    ∙ no_part c.args.kind c.real_of_code-x.result f (sym c.is_signed.ensures ∙ c.if-is_signed.false) (sym c.is_above_signed.ensures ∙ c.if-is_above_signed.false))
