use Rattle.std.proofs.Common.{◌≡◌, ◌<◌, ◌^◌, List, Some, Ok, Err, length, subst, sym, rules}
use Rattle.std.specs.Prelude.{slice_get}
use Rattle.k_world.specs.Worlds.{World}
use Rattle.k_code.specs.declared.code.CodeFunc.{CodeFunc}
use Rattle.k_code.specs.declared.code.CodeObject.{CodeObject}
use Rattle.k_hcpa_store.specs.Opening.{OpensAll}
use Rattle.k_hcpa_store.specs.Sound.{IsSound}
use Rattle.k_hcpa_store.proofs.Beginning.{begun_sound, starts_ok, starts_err}
use Rattle.k_hcpa_store.proofs.state.State.start.Goals as goal

pub returns-in-Err-clause-starts : goal.returns-in-Err-clause-starts
returns-in-Err-clause-starts c =
    starts_err c.args.code.now c.args.input.now c.args.budget c.new-world.result c.open_objects.new.world c.in-Err.stop c.new-world.ensures
    (subst (λ (xs : List CodeObject). OpensAll xs c.new-world.result (Err c.in-Err.stop) c.open_objects.new.world) c.as_slice.ensures c.in-Err.ensures)

pub returns-in-Ok-clause-starts : goal.returns-in-Ok-clause-starts
returns-in-Ok-clause-starts c =
    let at : slice_get c.args.code.now.funcs c.args.code.now.main ≡ Some c.in-Some.f =
    sym (subst (λ (fs : List CodeFunc). Some c.in-Some.f ≡ slice_get fs c.args.code.now.main) c.as_slice-2.ensures c.in-Some.ensures) in
    starts_ok c.args.code.now c.args.input.now c.args.budget c.in-Some.f c.open_objects.new.world c.in-Ok.state at
    (subst (λ (w : World). OpensAll c.args.code.now.objects w (Ok c.in_default.field-0) c.open_objects.new.world) c.new-world.ensures
    (subst (λ (xs : List CodeObject). OpensAll xs c.new-world.result (Ok c.in_default.field-0) c.open_objects.new.world) c.as_slice.ensures c.in_default.ensures))
    c.in-Ok.ensures

pub returns-in-Ok-clause-sound : goal.returns-in-Ok-clause-sound
returns-in-Ok-clause-sound c =
    let at : slice_get c.args.code.now.funcs c.args.code.now.main ≡ Some c.in-Some.f =
    sym (subst (λ (fs : List CodeFunc). Some c.in-Some.f ≡ slice_get fs c.args.code.now.main) c.as_slice-2.ensures c.in-Some.ensures) in
    let few : length c.args.code.now.instrs < 2 ^ 64 = search rules in
    subst IsSound (sym c.in-Ok.ensures) (begun_sound c.args.code.now c.in-Some.f c.open_objects.new.world c.requires few at)
