use Rattle.k_types_declarations.proofs.Declarators.{sizes_refused}
use Rattle.k_types_declarations.proofs.declarator.judge_declarator.Goals as goal

pub returns-in-Err : goal.returns-in-Err
returns-in-Err c = sizes_refused c.args.file c.args.saying.now c.args.number c.args.names.now c.args.declarator.now c.in-Err.fault c.in-Err.ensures

pub returns : goal.returns
returns c =
    let given = c.in-Ok.ensures in
    c.judge_beginning.ensures given.0 c.args.taken.now given.1 given.3 given.4 given.2
