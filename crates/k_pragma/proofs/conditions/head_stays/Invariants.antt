use Rattle.std.proofs.Common.{◌≡◌, drop}
use Rattle.k_pragma.specs.Conditions.{all_pass, keeps_head}
use Rattle.k_pragma.proofs.conditions.head_stays.Given as goal

abbrev pub invariant-loop-variable : goal.invariant-loop-variable
invariant-loop-variable l = record {
  counted : l.number ≡ l.variable-index;
  left :
      all_pass (keeps_head l.occurs l.at) l.number (drop l.variable-index l.variables) ≡ all_pass (keeps_head l.occurs l.at) 0 l.variables;
}
