use Rattle.std.proofs.Common.{◌+◌, subst}
use Rattle.k_num.specs.declared.numbers.Kind.{Kind}
use Rattle.k_lower_code.specs.Assignments.{converts_back, converts_side}
use Rattle.k_lower_code.specs.Operators.{binary_on}
use Rattle.k_lower_code.specs.Pieces.{◌>>>◌}
use Rattle.k_lower_expressions.specs.Arounds.{program_of}
use Rattle.k_lower_expressions.proofs.Emitted.{Emits, behind}
use Rattle.k_lower_expressions.proofs.assignment.combine.Goals as goal

pub returns : goal.returns
returns c =
    let p = program_of c.args.around.now in
    let at = c.args.place in
    let op = c.args.change.0 in
    let kind = c.args.change.1 in
    let of = c.args.kinds.0 in
    let by_of = c.args.kinds.1 in
    let r = c.args.r in
    subst (λ (side : Kind). Emits c.bring_back.result (converts_side p at of kind (r + 1) c.args.old >>> λ a. converts_side p at by_of side (r + 2) c.args.by >>> λ b. binary_on p at op kind (r + 1) a b >>> converts_back p at kind of (r + 1)) c.args.out.now.items c.bring_back.new.out.items) c.side_kind.ensures
    (behind (λ a. converts_side p at by_of c.side_kind.result (r + 2) c.args.by >>> λ b. binary_on p at op kind (r + 1) a b >>> converts_back p at kind of (r + 1)) c.bring_back.result _ _ _ _ _ c.in_ok-a.ensures
    (behind (λ b. binary_on p at op kind (r + 1) c.in_ok-a.a b >>> converts_back p at kind of (r + 1)) c.bring_back.result _ _ _ _ c.bring_back.new.out.items c.in_ok-b.ensures
    (behind (converts_back p at kind of (r + 1)) c.bring_back.result _ _ _ _ _ c.in_ok-v.ensures c.bring_back.ensures)))
