use Rattle.std.proofs.Common.{refl}
use Rattle.k_sum_read.proofs.ExitSteps.{head_found, refused_exits, wrong_at_ops}
use Rattle.k_sum_read.proofs.head.head.Goals as goal

pub returns-in-None : goal.returns-in-None
returns-in-None c =
    wrong_at_ops c.args.text.now c.in-Ok.exit_text.now c.in-Ok.runs c.in-Ok.count c.in-Ok.ensures c.in-Ok-exits.list c.in-Ok-exits.total c.in-Ok-exits.ops_text.now c.in-Ok-exits.ensures
    c.in-None.ensures

pub returns-in-Some : goal.returns-in-Some
returns-in-Some c =
    head_found c.args.text.now c.in-Ok.exit_text.now c.in-Ok.runs c.in-Ok.count c.in-Ok.ensures c.in-Ok-exits.list c.in-Ok-exits.total c.in-Ok-exits.ops_text.now c.in-Ok-exits.ensures
    c.in-Some.ops c.in-Some.rest.now c.in-Some.ensures _ refl

pub returns-in-Err-exits : goal.returns-in-Err-exits
returns-in-Err-exits c = refused_exits c.args.text.now c.in-Ok.exit_text.now c.in-Ok.runs c.in-Ok.count c.in-Ok.ensures c.in-Err-exits.halt c.in-Err-exits.ensures
