use Rattle.std.proofs.Common.{List, [], ◌∷◌, ◌++◌, ◌≤◌, length, drop, ap, subst, sym, ◌∙◌}
use Rattle.k_code.specs.declared.code.CodeFunc.{CodeFunc}
use Rattle.k_code.specs.declared.instruction.Instr.{Instr}
use Rattle.k_lower_parts.specs.Parts.{func_with}
use Rattle.k_lower.specs.Sources.{program_of}
use Rattle.k_lower.proofs.Listed.{entry_below, func_is}
use Rattle.k_lower.proofs.functions.push_function.Goals as goal

pub from-instrs-requires : goal.from-instrs-requires
from-instrs-requires c =
    subst (λ (xs : List Instr). c.in_ok-entry.entry ≤ length xs) (sym c.as_slice.ensures.value)
    (entry_below (program_of c.args.source.now) c.args.number c.args.f.now c.in_ok-entry.entry c.args.out.now.items c.emit.new.out.items c.in_ok-entry.ensures
    c.in_ok-emit.ensures)

pub returns-clause-func : goal.returns-clause-func
returns-clause-func c =
    c.in_ok-push.ensures.items
    ∙ ap (λ (func : CodeFunc). c.args.funcs.now.items ++ func ∷ [])
    (func_is (program_of c.args.source.now) c.args.number c.args.f.now c.in_ok-entry.entry c.args.out.now.items c.emit.new.out.items c.in_ok-func.func
    c.in_ok-entry.ensures c.in_ok-emit.ensures
    (c.in_ok-func.ensures ∙ ap (func_with c.args.number c.args.f.now c.in_ok-entry.entry) (c.from-instrs.ensures ∙ ap (drop c.in_ok-entry.entry) c.as_slice.ensures.value)))
