-- Believed with a public law.
-- What holds of annotated sources: the statement of the law.
use Rattle.std.specs.Prelude.{ℕ, ◌≡◌, ◌≤◌, List, length}
use Rattle.k_optab.specs.declared.node.Node.{Node}
use Rattle.k_optab.specs.Tree.{IsTree}
use Rattle.k_types_meaning.specs.declared.tree.unit.TUnit.{TUnit}
use Rattle.k_marks_meaning.specs.declared.Marks.{Marks}
use Rattle.k_report_profile.specs.RunReport.{IsWhole, Ran}
use Rattle.k_carry_pairs.specs.declared.pairs.LoopPairs.{LoopPairs}
use Rattle.k_pragma_profile.specs.Annotated.{IsRunAnnotation}

-- a run whose tree has at most 2 ^ 59 instances has one annotated source
abbrev pub RunAnnotationIsUnique : Type 0
RunAnnotationIsUnique = (source : List ℕ) (typed : TUnit) (marks : Marks) (ran : Ran) (found : List LoopPairs) (nodes : List Node) (one other : List ℕ) → IsWhole ran
    → IsTree ran.depth ran.events nodes → length nodes ≤ 576460752303423488 → IsRunAnnotation source typed marks ran found one
    → IsRunAnnotation source typed marks ran found other → one ≡ other
