use Rattle.k_types_declarations.proofs.AloneLaws.{Judges}
use Rattle.k_types_declarations.proofs.alone.+alone.Given as goal

abbrev pub invariant-judge_all_alone-loop-item : goal.invariant-judge_all_alone-loop-item
invariant-judge_all_alone-loop-item l = Judges l.names l.item-items l.item-index l.fn.taken l.taken
