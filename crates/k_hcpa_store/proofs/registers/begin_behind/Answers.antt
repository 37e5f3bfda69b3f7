use Rattle.std.proofs.Common.{◌∷◌, [], List, map, ◌∙◌, ap, arith}
use Rattle.std.proofs.lemmas.List.{map-append}
use Rattle.k_code.specs.Steps.{parameters}
use Rattle.k_hcpa_store.specs.declared.register.Register.{Register}
use Rattle.k_hcpa_store.specs.Calls.{slots_of}
use Rattle.k_hcpa_store.specs.Slots.{held_of}
use Rattle.k_hcpa_store.proofs.Entering.{none_more, one_more}
use Rattle.k_hcpa_store.proofs.registers.begin_behind.Goals as goal

pub loop-k-init : goal.loop-k-init
loop-k-init c = record { begun = none_more (map held_of c.args.list.now.items) (parameters c.args.f.params (slots_of c.args.reads.now)); room = omega arith }

pub loop-k-preserved : goal.loop-k-preserved
loop-k-preserved c = record {
  begun = one_more (map held_of c.args.list.now.items) _ (map held_of c.push_reserved.new.self.items) c.loop-k.k (parameters c.args.f.params (slots_of c.args.reads.now)) (held_of c.register_of.result)
      c.loop-k.invariant.begun (ap (λ (xs : List Register). map held_of xs) c.push_reserved.ensures.items ∙ map-append held_of _ (c.register_of.result ∷ [])) (c.register_of.ensures ∙ c.parameter.ensures.held);
  room = omega arith;
}
