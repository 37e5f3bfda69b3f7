use Rattle.std.proofs.Common.{◌∙◌, ap, sym, None}
use Rattle.k_parse_steps.specs.Operators.{binding_by, other_binding}
use Rattle.k_parse_steps.proofs.Ranks.{binary_binds, others_bind}
use Rattle.k_parse_steps.proofs.operators.binding_of.Goals as goal

pub returns-in-Some : goal.returns-in-Some
returns-in-Some c = binary_binds c.args.mark c.in-Some.rank (sym c.binary_rank.ensures.rank ∙ c.in-Some.is)

pub returns-then-is_assignment : goal.returns-then-is_assignment
returns-then-is_assignment c =
    ap (λ b. binding_by None b (other_binding c.args.mark)) (sym c.if-is_assignment.true ∙ c.is_assignment.ensures)
    ∙ others_bind c.args.mark (sym c.binary_rank.ensures.rank ∙ c.in_default.is)

pub returns : goal.returns
returns c =
    c.other_binding.ensures
    ∙ ap (λ b. binding_by None b (other_binding c.args.mark)) (sym c.if-is_assignment.false ∙ c.is_assignment.ensures)
    ∙ others_bind c.args.mark (sym c.binary_rank.ensures.rank ∙ c.in_default.is)
