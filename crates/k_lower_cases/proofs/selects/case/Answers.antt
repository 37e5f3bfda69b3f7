use Rattle.std.proofs.Common.{subst}
use Rattle.k_code.specs.declared.instruction.Do.{Do}
use Rattle.k_lower_code.specs.Pieces.{sets}
use Rattle.k_lower_expressions.specs.Arounds.{program_of}
use Rattle.k_lower_expressions.proofs.Emitted.{Emitted}
use Rattle.k_lower_cases.proofs.Cased.{case_emitted}
use Rattle.k_lower_cases.proofs.selects.case.Goals as goal

pub returns : goal.returns
returns c =
    let p = program_of c.args.around.now in
    case_emitted p c.args.kind c.args.r c.args.on c.args.place c.args.value.now c.args.at c.in_ok-register.register _ _ _ c.does.result _ _ _
    c.in_ok-register.ensures
    (subst (λ (act : Do). Emitted c.in_ok-equal.equal (sets p c.args.place (λ register. act) c.in_ok-register.register) c.args.out.now.items c.sets.new.out.items) c.equals-act.ensures c.in_ok-equal.ensures)
    c.in_ok-number.ensures c.in_ok-other.ensures c.does.ensures
