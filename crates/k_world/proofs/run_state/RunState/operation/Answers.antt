use Rattle.std.proofs.Common.{◌≡◌, ℕ, ◌-◌, ◌<◌, true, false, nat_eq, sym, ◌∙◌, ap, arith, eq-eqb}
use Rattle.std.proofs.lemmas.Bool.{ne_eqb}
use Rattle.k_world.specs.Answers.{act_of}
use Rattle.k_world.specs.Operands.{are_set}
use Rattle.k_world.specs.Worlds.{World}
use Rattle.k_world.proofs.Operations.{makes_none, makes_unset, operation_told, operation_refused, still_left}
use Rattle.k_world.proofs.run_state.RunState.operation.Goals as goal

pub returns-then-self-clause-made : goal.returns-then-self-clause-made
returns-then-self-clause-made c =
    let left : c.self.inside.budget - c.self.inside.made ≡ c.args.self.now.left = ap (λ (v : World). v.left) c.self.view_is in
    let none : nat_eq c.args.self.now.left 0 ≡ true = eq-eqb c.args.self.now.left 0 (omega (arith, left, c.if-self.true)) in
    λ class latency. makes_none class latency c.args.place (act_of c.args.act) c.args.reads.now c.args.self.now none

pub returns-then-not-are_set-clause-made : goal.returns-then-not-are_set-clause-made
returns-then-not-are_set-clause-made c =
    let left : c.self.inside.budget - c.self.inside.made ≡ c.args.self.now.left = ap (λ (v : World). v.left) c.self.view_is in
    let some : nat_eq c.args.self.now.left 0 ≡ false = ne_eqb c.args.self.now.left 0 (λ e. omega (arith, e, left, c.if-self.false)) in
    let unset : are_set c.args.reads.now ≡ false = grind (arith, c.are_set.ensures, c.if-not-are_set.true) in
    λ class latency. makes_unset class latency c.args.place (act_of c.args.act) c.args.reads.now c.args.self.now some unset

pub count-requires : goal.count-requires
count-requires c =
    let left : c.self.inside.budget - c.self.inside.made ≡ c.args.self.now.left = ap (λ (v : World). v.left) c.self.view_is in
    let still : c.args.self.now.left ≡ c.perform.new.self.left = still_left (act_of c.args.act) c.args.reads.now c.args.self.now c.perform.new.self c.in-Ok.performed c.in-Ok.ensures in
    omega (arith, left, still, c.if-self.false)

pub returns-in-Ok-clause-made : goal.returns-in-Ok-clause-made
returns-in-Ok-clause-made c =
    let left : c.self.inside.budget - c.self.inside.made ≡ c.args.self.now.left = ap (λ (v : World). v.left) c.self.view_is in
    let some : nat_eq c.args.self.now.left 0 ≡ false = ne_eqb c.args.self.now.left 0 (λ e. omega (arith, e, left, c.if-self.false)) in
    let set : are_set c.args.reads.now ≡ true = grind (arith, c.are_set.ensures, c.if-not-are_set.false) in
    let quiet : c.args.self.now.telling ≡ false = sym (ap (λ (v : World). v.telling) c.self.view_is) in
    let control : c.self.inside.control ≡ c.args.self.now.control = ap (λ (v : World). v.control) c.self.view_is in
    λ class latency. operation_told class latency c.args.place (act_of c.args.act) c.args.reads.now c.args.self.now c.perform.new.self c.in-Ok.performed
    c.self.inside.control c.count.result c.count.new.self quiet some set c.in-Ok.ensures control c.count.ensures.done c.count.ensures.state

pub returns-in-Err-clause-made : goal.returns-in-Err-clause-made
returns-in-Err-clause-made c =
    let left : c.self.inside.budget - c.self.inside.made ≡ c.args.self.now.left = ap (λ (v : World). v.left) c.self.view_is in
    let some : nat_eq c.args.self.now.left 0 ≡ false = ne_eqb c.args.self.now.left 0 (λ e. omega (arith, e, left, c.if-self.false)) in
    let set : are_set c.args.reads.now ≡ true = grind (arith, c.are_set.ensures, c.if-not-are_set.false) in
    λ class latency. operation_refused class latency c.args.place (act_of c.args.act) c.args.reads.now c.args.self.now c.perform.new.self c.in-Err.refusal
    c.stopped.result some set c.in-Err.ensures c.stopped.ensures
