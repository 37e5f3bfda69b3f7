use Rattle.std.proofs.Common.{◌≡◌, drop}
use Rattle.k_pragma.specs.Conditions.{all_pass, private_where_needed}
use Rattle.k_pragma.proofs.conditions.all_private.Given as goal

abbrev pub invariant-loop-variable : goal.invariant-loop-variable
invariant-loop-variable l = record {
  counted : l.number ≡ l.variable-index;
  left :
      all_pass (private_where_needed l.occurs l.setters l.at) l.number (drop l.variable-index l.variables)
      ≡ all_pass (private_where_needed l.occurs l.setters l.at) 0 l.variables;
}
