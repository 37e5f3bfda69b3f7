use Rattle.std.proofs.Common.{IsTrue, sym, subst, rules}
use Rattle.std.specs.Int.{w128}
use Rattle.std.proofs.lemmas.Int.{to_z-of_z}
use Rattle.k_num.specs.Kind.{is_held}
use Rattle.k_num.specs.Arithmetic.{CanBeRight}
use Rattle.k_lex_conditions.proofs.Operands.{can_be_right}
use Rattle.k_lex_conditions.proofs.operations.right_operand.Goals as goal

pub returns-clause-fits : goal.returns-clause-fits
returns-clause-fits c =
    subst (λ z. CanBeRight c.args.op c.args.kind z) (sym (to_z-of_z w128 c.operand_in.result (search rules)))
    (can_be_right c.args.op c.args.kind c.args.own c.operand_in.result (subst (λ k. IsTrue (is_held k c.operand_in.result)) c.right_in.ensures c.operand_in.ensures.held))
