use Rattle.std.proofs.Common.{◌<◌, ◌∙◌, List, length, slice_get, ap, sym, subst}
use Rattle.k_code.specs.declared.code.CodeFunc.{CodeFunc}
use Rattle.k_carry_storage.specs.Running.{setting_of}
use Rattle.k_carry_storage.proofs.Moving.{all_told, begins_kept}
use Rattle.k_carry_storage.proofs.running.begin.Goals as goal

pub function_at-main-requires : goal.function_at-main-requires
function_at-main-requires c =
    subst (λ (funcs : List CodeFunc). c.args.program.now.code.now.main < length funcs) (sym c.as_slice.ensures) c.requires.setting.valid.main

pub run-requires-clause-kept : goal.run-requires-clause-kept
run-requires-clause-kept c =
    begins_kept (setting_of c.args.program.now) c.args.store.now c.function_at-main.result c.args.noted.now.gathering c.enter.new.self c.args.noted.now.loads c.args.noted.now.stores
    c.requires.setting c.requires.starts
    (ap (λ (funcs : List CodeFunc). slice_get funcs c.args.program.now.code.now.main) (sym c.as_slice.ensures) ∙ c.function_at-main.ensures)
    c.requires.nothing c.in_ok-enter.ensures c.requires.loads c.requires.stores

pub returns : goal.returns
returns c =
    all_told (setting_of c.args.program.now) c.run.new.noted.gathering c.in_ok-end.end c.tell.result c.in_ok-end.ensures c.tell.ensures
