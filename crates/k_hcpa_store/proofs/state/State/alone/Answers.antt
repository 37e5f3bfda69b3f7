-- Each instruction goes as its lemma says.
use Rattle.std.proofs.Common.{◌+◌, ◌-◌, ◌++◌, [], ◌∷◌, List, Some, None, length, ◌∙◌, ap, subst, arith}
use Rattle.std.specs.Prelude.{slice_get, option_map}
use Rattle.k_num.specs.declared.initial.Initial.{Initial}
use Rattle.k_mem.specs.declared.start.Start.TheVariants.{Unset}
use Rattle.k_world.specs.Changes.{object_made, objects_kept}
use Rattle.k_world.specs.Values.{pointer_to}
use Rattle.k_code.specs.declared.instruction.Do.{Do}
use Rattle.k_code.specs.Named.{register_set}
use Rattle.k_code.specs.Steps.{number_of}
use Rattle.k_hcpa_store.specs.Kept.{Kept}
use Rattle.k_hcpa_store.specs.Parts.{Comes, Fills, IsWithin, Opens, named_object, set_and_on}
use Rattle.k_hcpa_store.proofs.Operating.{within, pc_within}
use Rattle.k_hcpa_store.proofs.Moving.{saved_keep, saved_back, saved_restore, jumped, fallen_off, addressed, object_opened, objects_closed, object_filled_on, forgotten, saved_on, kept_on, taken_back, restored_on}
use Rattle.k_hcpa_store.proofs.state.State.alone.Goals as goal

pub next-next-requires : goal.next-next-requires
next-next-requires c = pc_within c.args.self.now c.args.instr.now c.requires.sound c.requires.next

pub set_and_on-requires-clause-within : goal.set_and_on-requires-clause-within
unfolding register_set
set_and_on-requires-clause-within c = subst (λ (x : Do). IsWithin c.args.self.now.call.first (register_set x) c.args.self.now.registers) c.in-Address.is (within c.args.self.now c.args.instr.now c.requires.sound c.requires.next)

pub set_and_on-requires-in-Forget-clause-within : goal.set_and_on-requires-in-Forget-clause-within
unfolding register_set
set_and_on-requires-in-Forget-clause-within c = subst (λ (x : Do). IsWithin c.args.self.now.call.first (register_set x) c.args.self.now.registers) c.in-Forget.is (within c.args.self.now c.args.instr.now c.requires.sound c.requires.next)

pub drop_saved-requires : goal.drop_saved-requires
drop_saved-requires c = omega (arith, saved_keep c.args.self.now c.args.instr.now c.requires.sound c.requires.next c.in-Keep.is)

pub drop_saved-source-requires : goal.drop_saved-source-requires
drop_saved-source-requires c = omega (arith, saved_back c.args.self.now c.args.instr.now c.requires.sound c.requires.next c.in-Back.is)

pub newest_saved-source-requires : goal.newest_saved-source-requires
newest_saved-source-requires c = omega (arith, saved_restore c.args.self.now c.args.instr.now c.requires.sound c.requires.next c.in-Restore.is)

pub returns-in-Jump : goal.returns-in-Jump
returns-in-Jump c = jumped c.args.self.now c.args.instr.now c.requires.sound c.requires.next c.in-Jump.to c.in-Jump.is c.go.new.self c.go.ensures

pub returns-in-FallOff : goal.returns-in-FallOff
returns-in-FallOff c = fallen_off c.args.self.now c.args.instr.now c.requires.sound c.requires.next c.in-FallOff.is

pub returns-in-Address : goal.returns-in-Address
returns-in-Address c =
    let s : Kept = c.args.self.now in
    addressed c.args.self.now c.args.instr.now c.requires.sound c.requires.next c.in-Address.home c.in-Address.offset c.in-Address.to c.in-Address.is c.set_and_on.new.self
    (c.set_and_on.ensures ∙ ap (λ slot. set_and_on (Some c.in-Address.to) slot c.next-next.result s) (c.pointer_to-slot.ensures.meant ∙ ap (option_map (λ n. pointer_to n c.in-Address.offset)) c.object_at.ensures)
    ∙ ap (λ n. set_and_on (Some c.in-Address.to) (option_map (λ k. pointer_to k c.in-Address.offset) (named_object c.in-Address.home s)) n s) c.next-next.ensures)

pub returns-in-ObjectOpen : goal.returns-in-ObjectOpen
returns-in-ObjectOpen c =
    let s : Kept = c.args.self.now in
    object_opened c.args.self.now c.args.instr.now c.requires.sound c.requires.next c.in-ObjectOpen.elements c.in-ObjectOpen.is c.open_object.result c.open_object.new.self
    (subst (λ n. Opens c.args.instr.now.place n (object_made s.world Unset c.in-ObjectOpen.elements) s c.open_object.result c.open_object.new.self) c.next-next.ensures c.open_object.ensures)

pub returns-in-ObjectsClose : goal.returns-in-ObjectsClose
returns-in-ObjectsClose c =
    let s : Kept = c.args.self.now in
    objects_closed c.args.self.now c.args.instr.now c.requires.sound c.requires.next c.in-ObjectsClose.count c.in-ObjectsClose.is c.close_objects.new.self
    (c.close_objects.ensures ∙ ap (λ n. record s { pc = n; world = objects_kept s.world (length s.world.memory.live - c.in-ObjectsClose.count) }) c.next-next.ensures)

pub returns-in-Fill : goal.returns-in-Fill
returns-in-Fill c =
    let s : Kept = c.args.self.now in
    object_filled_on c.args.self.now c.args.instr.now c.requires.sound c.requires.next c.in-Fill.local c.in-Fill.values c.in-Fill.is c.fill_local.result c.fill_local.new.self
    (subst (λ n. Fills (number_of (slice_get s.world.memory.live (s.call.base + c.in-Fill.local))) c.in-Fill.values n s c.fill_local.result c.fill_local.new.self) c.next-next.ensures
    (subst (λ (values : List Initial). Fills (number_of (slice_get s.world.memory.live (s.call.base + c.in-Fill.local))) values c.next-next.result s c.fill_local.result c.fill_local.new.self) c.as_slice.ensures c.fill_local.ensures))

pub returns-in-Forget : goal.returns-in-Forget
returns-in-Forget c =
    forgotten c.args.self.now c.args.instr.now c.requires.sound c.requires.next c.in-Forget.register c.in-Forget.is c.set_and_on-in-Forget.new.self
    (c.set_and_on-in-Forget.ensures ∙ ap (λ n. set_and_on (Some c.in-Forget.register) None n c.args.self.now) c.next-next.ensures)

pub returns-in-Save : goal.returns-in-Save
returns-in-Save c =
    let s : Kept = c.args.self.now in
    saved_on c.args.self.now c.args.instr.now c.requires.sound c.requires.next c.in-Save.is c.save.result c.save.new.self
    (subst (λ n. Comes (record s { pc = n; saved = s.saved ++ s.world.control ∷ [] }) s c.save.result c.save.new.self) c.next-next.ensures c.save.ensures)

pub returns-in-Keep : goal.returns-in-Keep
returns-in-Keep c =
    let s : Kept = c.args.self.now in
    kept_on c.args.self.now c.args.instr.now c.requires.sound c.requires.next c.in-Keep.is c.drop_saved.result c.drop_saved.new.self
    (c.drop_saved.ensures.rest ∙ ap (λ n. record s { pc = n; saved = c.drop_saved.new.self.saved }) c.next-next.ensures) c.drop_saved.ensures.newest

pub returns-in-Back : goal.returns-in-Back
returns-in-Back c =
    let s : Kept = c.args.self.now in
    let mid : Kept = c.drop_saved-source.new.self in
    taken_back c.args.self.now c.args.instr.now c.requires.sound c.requires.next c.in-Back.is c.drop_saved-source.result mid.saved c.set_control.new.self
    (c.set_control.ensures ∙ ap (λ (m : Kept). record m { pc = c.next-next.result; world = record m.world { control = c.drop_saved-source.result } }) c.drop_saved-source.ensures.rest
    ∙ ap (λ n. record s { pc = n; saved = mid.saved; world = record s.world { control = c.drop_saved-source.result } }) c.next-next.ensures) c.drop_saved-source.ensures.newest

pub returns-in-Restore : goal.returns-in-Restore
returns-in-Restore c =
    let s : Kept = c.args.self.now in
    restored_on c.args.self.now c.args.instr.now c.requires.sound c.requires.next c.in-Restore.is c.newest_saved-source.result c.set_control-in-Restore.new.self c.newest_saved-source.ensures
    (c.set_control-in-Restore.ensures ∙ ap (λ n. record s { pc = n; world = record s.world { control = c.newest_saved-source.result } }) c.next-next.ensures)
