-- For contracts between crates: nobody has to believe it.
-- What lies around a statement, with its type lent.
use Rattle.k_types_meaning.specs.Statements as statements
use Rattle.k_types_rules.specs.Views.{type_of}
use Rattle.k_types_statements.specs.declared.around.Around.{Around}

-- what lies around a statement
abbrev pub around_of : Around → statements.Around
around_of a = record { in_loop = a.in_loop; in_switch = a.in_switch; result = type_of a.result }
