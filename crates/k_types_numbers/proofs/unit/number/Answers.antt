use Rattle.k_types_numbers.proofs.UnitForms.{functions_lent, unit_numbered}
use Rattle.k_types_numbers.proofs.unit.number.Goals as goal

pub returns-clause-numbered : goal.returns-clause-numbered
returns-clause-numbered c =
    unit_numbered c.args.unit.now _ _ _ c.new-counts.ensures
    (functions_lent _ _ _ _ _ c.as_mut_slice.ensures.value c.number_functions.auto.functions c.in_ok-number_functions.ensures)
