use Rattle.std.proofs.Common.{◌≡◌, ◌+◌, ◌∷◌, [], ◌++◌, List, length, reverse, vec_len, refl, sym, ◌∙◌, ap, Ok, subst, rules}
use Rattle.std.proofs.lemmas.List.{reverse-append}
use Rattle.k_world.specs.declared.act.Act.TheVariants as does
use Rattle.k_world.specs.Answers.{Makes}
use Rattle.k_world.specs.declared.value.Read.{Read}
use Rattle.k_code.specs.Steps.{parameters}
use Rattle.k_hcpa_store.specs.declared.call.Caller.{Caller}
use Rattle.k_hcpa_store.specs.Calls.{held_up_to, slots_of}
use Rattle.k_hcpa_store.proofs.Entering.{call_refused, call_entered, reads_told}
use Rattle.k_hcpa_store.proofs.Keeping.{kept_again}
use Rattle.k_hcpa_store.proofs.state.State.call_function.Goals as goal

pub returns-in-Err : goal.returns-in-Err
returns-in-Err c =
    call_refused _ _ _ c.args.place c.args.f c.args.func c.args.args.now c.args.to c.in-Err.stop _ c.operation.new.self c.self.view_is
    (reads_told _ _ c.self.inside.registers _ c.args.args.now _ c.deref-2.ensures.value c.in-Ok.ensures.read refl) c.in-Err.ensures.made
    (λ i. record {
      code = c.self.inside.code.now;
      pc = c.self.inside.pc;
      call = c.self.inside.call;
      waiting = reverse (c.in-Ok-reserve.ensures.items i);
      registers = kept_again c.self.inside.registers c.begin.new.self c.keep.new.self _ c.count-first.result c.in-Ok-begin.ensures c.count-first.ensures c.keep.ensures i;
      saved = c.self.inside.saved.items;
      world = c.operation.new.self;
    })

pub returns : goal.returns
returns c =
    let saves : vec_len c.self.inside.saved ≡ length c.self.inside.saved.items = search rules in
    let told = reads_told _ _ c.self.inside.registers _ c.args.args.now _ c.deref-2.ensures.value c.in-Ok.ensures.read refl in
    let told_first = reads_told _ _ c.self.inside.registers _ c.args.args.now _ c.deref.ensures.value c.in-Ok.ensures.read refl in
    let saved_is = c.len.ensures ∙ saves in
    let waits = ap (λ (xs : List Caller). reverse xs) (c.push_reserved.ensures.items ∙ (λ i. c.in-Ok-reserve.ensures.items i ++ record { call = c.self.inside.call; back = c.self.inside.pc + 1; to = c.args.to } ∷ []))
    ∙ reverse-append c.self.inside.waiting.items (record { call = c.self.inside.call; back = c.self.inside.pc + 1; to = c.args.to } ∷ []) in
    let holds = c.in-Ok-begin.ensures ∙ (λ i. c.self.inside.registers ++ held_up_to c.args.f.registers (parameters c.args.f.params (slots_of (told_first i)))) in
    let worlds = c.set_calls.ensures ∙ (λ i. record c.operation.new.self { calls = c.calls-calls.ensures i + 1; size = c.size-size.ensures i + c.from.ensures i }) in
    call_entered _ _ _ c.args.place c.args.f c.args.func c.args.args.now c.args.to c.self.view_is
    (record {
      done = c.in-Ok-operation.done;
      world = c.operation.new.self;
      made = λ class latency. subst (λ (x : List Read). Makes class latency c.args.place does.Call x c.self.inside.world (Ok c.in-Ok-operation.done) c.operation.new.self) told (c.in-Ok-operation.ensures.made class latency);
      few = sym (c.overflows.ensures.meant c.operation.new.self (sym c.calls-calls.ensures) (sym c.size-size.ensures)) ∙ c.if-overflows.false;
      is = λ i. record {
        code = c.self.inside.code.now;
        pc = c.args.f.entry;
        call = record { func = c.args.func; first = c.count-first.ensures i; saved = saved_is i; regions = 0; base = c.live_objects.ensures i };
        waiting = waits i;
        registers = holds i;
        saved = c.self.inside.saved.items;
        world = worlds i;
      };
    })
