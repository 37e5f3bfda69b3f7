use Rattle.std.proofs.Common.{◌≡◌, Err, IfErr, sym, subst, rules, arith}
use Rattle.k_types_meaning.specs.declared.fault.TypeFault.{TypeFault}
use Rattle.k_types_meaning.specs.Units.{faults}
use Rattle.k_types.specs.Results.{IsFirstFault}
use Rattle.k_types.proofs.Sources.{calls_refused, is_typed, items_refused, main_refused, no_faults}
use Rattle.k_types.proofs.source.check.Goals as goal

pub returns-in_err-tree-clause-refused : goal.returns-in_err-tree-clause-refused
returns-in_err-tree-clause-refused c =
    let same : c.from_residual-in_err-tree.result ≡ Err c.in_err-tree.field-0.0 = first_of (search rules, grind arith, cc) in
    subst (λ r. IfErr r (λ (f : TypeFault). IsFirstFault f (faults c.args.unit.now))) (sym same) (items_refused c.args.unit.now c.in_err-tree.field-0.0 c.in_err-tree.ensures)

pub returns-in_err-test_calls-clause-refused : goal.returns-in_err-test_calls-clause-refused
returns-in_err-test_calls-clause-refused c =
    let same : c.from_residual-in_err-test_calls.result ≡ Err c.in_err-test_calls.field-0.0 = first_of (search rules, grind arith, cc) in
    subst (λ r. IfErr r (λ (f : TypeFault). IsFirstFault f (faults c.args.unit.now))) (sym same)
    (calls_refused c.args.unit.now c.in_ok-tree.tree c.in_ok-tree.ensures c.in_err-test_calls.field-0.0 c.in_err-test_calls.ensures)

pub returns-in_err-test_main-clause-refused : goal.returns-in_err-test_main-clause-refused
returns-in_err-test_main-clause-refused c =
    let same : c.from_residual-in_err-test_main.result ≡ Err c.in_err-test_main.field-0.0 = first_of (search rules, grind arith, cc) in
    subst (λ r. IfErr r (λ (f : TypeFault). IsFirstFault f (faults c.args.unit.now))) (sym same)
    (main_refused c.args.unit.now c.in_ok-tree.tree c.in_ok-tree.ensures c.in_err-test_main.field-0.0 c.in_ok-test_calls.ensures c.in_err-test_main.ensures)

pub returns-clause-faultless : goal.returns-clause-faultless
returns-clause-faultless c = no_faults c.args.unit.now c.in_ok-tree.tree c.in_ok-tree.ensures c.in_ok-test_calls.ensures c.in_ok-test_main.ensures

pub returns-clause-typed : goal.returns-clause-typed
returns-clause-typed c = is_typed c.args.unit.now c.in_ok-tree.tree c.in_ok-tree.ensures c.number.new.unit c.in_ok-number.ensures.same c.in_ok-number.ensures.numbered
