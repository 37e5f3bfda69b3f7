use Rattle.std.proofs.Common.{◌≡◌, ◌++◌, map}
use Rattle.k_lex_macros.specs.Macros.{fulls, full_at, placed}
use Rattle.k_lex_macros.specs.Table.{listed, owed, turns, AreSteps}
use Rattle.k_lex_macros.proofs.macros.Macros.write_out.Given as goal

abbrev pub invariant-loop-step : goal.invariant-loop-step
invariant-loop-step l = record {
  owed : l.tokens ++ map (placed l.place) (owed l.self l.stack.items) ≡ l.fn.tokens ++ map (placed l.place) (full_at (fulls (listed l.self)) l.number);
  steps : AreSteps l.self l.stack.items;
}

abbrev pub decreases-loop-step : goal.decreases-loop-step
decreases-loop-step l = turns l.self l.stack.items
