use Rattle.k_types_numbers.proofs.StatementForms.{clauses_numbered}
use Rattle.k_types_numbers.proofs.statement.number_clauses.Goals as goal

pub returns : goal.returns
returns c =
    clauses_numbered _ _ _ _ _ _ _ _ _ _ c.in_ok-number_first.ensures c.in_ok-number_option.ensures c.in_ok-number_option-2.ensures
