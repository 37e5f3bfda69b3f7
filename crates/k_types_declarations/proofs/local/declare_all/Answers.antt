use Rattle.k_types_meaning.specs.Statements.{declare_all}
use Rattle.k_types_declarations.specs.Results.{seen}
use Rattle.k_types_declarations.proofs.Declaring.{declares_more, declares_all, declares_refused}
use Rattle.k_types_declarations.proofs.local.declare_all.Goals as goal

pub loop-declarator-preserved : goal.loop-declarator-preserved
loop-declarator-preserved c =
    declares_more c.args.saying.now c.as_slice-declarator-items.result.now (declare_all c.args.saying.now (seen c.args.known.now) c.args.list.now)
    c.loop-declarator.declarator-index c.declarator-item.result c.loop-declarator.all c.push.new.self c.in-Ok.declared (seen c.loop-declarator.known) (seen c.declare.new.known)
    c.loop-declarator-test.true c.declarator-item.is c.loop-declarator.invariant c.in-Ok.ensures c.in_ok-push.ensures.ok

pub returns-in-Err : goal.returns-in-Err
returns-in-Err c =
    declares_refused c.args.saying.now c.as_slice-declarator-items.result.now (declare_all c.args.saying.now (seen c.args.known.now) c.args.list.now)
    c.loop-declarator.declarator-index c.declarator-item.result c.loop-declarator.all (seen c.loop-declarator.known) c.in-Err.fault
    c.loop-declarator-test.true c.declarator-item.is c.loop-declarator.invariant c.in-Err.ensures

pub returns : goal.returns
returns c =
    declares_all c.args.saying.now c.as_slice-declarator-items.result.now (declare_all c.args.saying.now (seen c.args.known.now) c.args.list.now)
    c.loop-declarator.declarator-index c.loop-declarator.all (seen c.loop-declarator.known) (seen c.args.known.now)
    c.loop-declarator-test.false c.loop-declarator.invariant
