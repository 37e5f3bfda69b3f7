use Rattle.std.proofs.Common.{take}
use Rattle.k_lex_macros.specs.Table.{IsNewPlan}
use Rattle.k_lex_macros.proofs.macros.Macros.plan_of.Given as goal

abbrev pub invariant-loop-at : goal.invariant-loop-at
invariant-loop-at l = IsNewPlan l.self l.body l.plan (take l.at l.body)
