use Rattle.std.proofs.Common.{◌≡◌, length, arith}
use Rattle.k_code.proofs.Settling.{first_target, jump_agrees, jump_target, no_targets, second_target, test_agrees, test_differs}
use Rattle.k_code.proofs.validity.balances.jumps_agree.Goals as goal

pub overflow_sub-then : goal.overflow_sub-then
overflow_sub-then c = (c.requires c.in-Test.then (first_target c.args.entry c.args.act.now c.in-Test.a c.in-Test.then c.in-Test.other c.in-Test.to c.in-Test.class c.in-Test.is)).0

pub agrees-requires : goal.agrees-requires
agrees-requires c =
    let h = c.requires c.in-Test.then (first_target c.args.entry c.args.act.now c.in-Test.a c.in-Test.then c.in-Test.other c.in-Test.to c.in-Test.class c.in-Test.is) in
    omega (arith, h.0, h.1)

pub overflow_sub-other : goal.overflow_sub-other
overflow_sub-other c = (c.requires c.in-Test.other (second_target c.args.entry c.args.act.now c.in-Test.a c.in-Test.then c.in-Test.other c.in-Test.to c.in-Test.class c.in-Test.is)).0

pub agrees-requires-then-agrees : goal.agrees-requires-then-agrees
agrees-requires-then-agrees c =
    let h = c.requires c.in-Test.other (second_target c.args.entry c.args.act.now c.in-Test.a c.in-Test.then c.in-Test.other c.in-Test.to c.in-Test.class c.in-Test.is) in
    let long : length c.agrees.new.before ≡ length c.args.before.now = c.agrees.auto.before in
    omega (arith, h.0, h.1, long)

pub overflow_sub-to : goal.overflow_sub-to
overflow_sub-to c = (c.requires c.in-Jump.to (jump_target c.args.entry c.args.act.now c.in-Jump.to c.in-Jump.is)).0

pub agrees-requires-in-Jump : goal.agrees-requires-in-Jump
agrees-requires-in-Jump c = let h = c.requires c.in-Jump.to (jump_target c.args.entry c.args.act.now c.in-Jump.to c.in-Jump.is) in omega (arith, h.0, h.1)

pub returns-then-agrees : goal.returns-then-agrees
returns-then-agrees c =
    test_agrees c.args.entry c.args.act.now c.in-Test.a c.in-Test.then c.in-Test.other c.in-Test.to c.in-Test.class c.in-Test.is
    c.args.balance c.args.before.now c.agrees.new.before c.agrees-then-agrees.new.before c.agrees-then-agrees.result
    (c.requires c.in-Test.then (first_target c.args.entry c.args.act.now c.in-Test.a c.in-Test.then c.in-Test.other c.in-Test.to c.in-Test.class c.in-Test.is)).0
    (c.requires c.in-Test.other (second_target c.args.entry c.args.act.now c.in-Test.a c.in-Test.then c.in-Test.other c.in-Test.to c.in-Test.class c.in-Test.is)).0
    c.if-agrees.ensures c.agrees-then-agrees.ensures

pub returns-else-agrees : goal.returns-else-agrees
returns-else-agrees c =
    test_differs c.args.entry c.args.act.now c.in-Test.a c.in-Test.then c.in-Test.other c.in-Test.to c.in-Test.class c.in-Test.is
    c.args.balance c.args.before.now c.agrees.new.before c.agrees.result
    (c.requires c.in-Test.then (first_target c.args.entry c.args.act.now c.in-Test.a c.in-Test.then c.in-Test.other c.in-Test.to c.in-Test.class c.in-Test.is)).0
    c.if-agrees.false c.agrees.ensures

pub returns-in-Jump : goal.returns-in-Jump
returns-in-Jump c =
    jump_agrees c.args.entry c.args.act.now c.in-Jump.to c.in-Jump.is c.args.balance c.args.before.now c.agrees-in-Jump.new.before c.agrees-in-Jump.result
    (c.requires c.in-Jump.to (jump_target c.args.entry c.args.act.now c.in-Jump.to c.in-Jump.is)).0 c.agrees-in-Jump.ensures

pub returns-in_default : goal.returns-in_default
returns-in_default c = no_targets c.args.entry c.args.act.now c.args.balance c.args.before.now c.in_default.not-Test c.in_default.not-Jump
