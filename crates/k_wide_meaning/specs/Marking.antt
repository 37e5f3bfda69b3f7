-- Believed with a public law.
-- *Wide marks*: which loops are counted and which reads are broken. The statements with a leaving jump are those of *Marks*.
use Rattle.std.specs.Prelude.{ℕ, ◌≡◌, Bool, List, [], ◌∷◌, ◌++◌, map}
use Rattle.k_types_meaning.specs.declared.tree.unit.TFunc.{TFunc}
use Rattle.k_types_meaning.specs.declared.tree.unit.TUnit.{TUnit}
use Rattle.k_marks_meaning.specs.declared.Marks.{Marks}
use Rattle.k_marks_meaning.specs.Marking.{flags, left_among, statements_in}
use Rattle.k_wide_meaning.specs.Contents.{WideLoop, function_seen}
use Rattle.k_wide_meaning.specs.Calls.{IsCalling, done_beyond, is_plain}
use Rattle.k_wide_meaning.specs.Loops.{Around, text_of, is_counted, broken_by}

-- what stands around a loop of this function
abbrev pub around : TUnit → (ℕ → ℕ → Bool) → TFunc → WideLoop → Around
around unit called f l = record { variables = f.variables; plain = is_plain unit; beyond = done_beyond unit.functions called (text_of l) }

-- whether loops of a function are counted
abbrev pub counted_of : TUnit → (ℕ → ℕ → Bool) → TFunc → List WideLoop → List Bool
counted_of unit called f ls = map (λ (l : WideLoop). is_counted (around unit called f l) l) ls

-- the reads that loops of a function break
abbrev pub broken_of : TUnit → (ℕ → ℕ → Bool) → TFunc → List WideLoop → List ℕ
broken_of unit called f [] = []
broken_of unit called f (l ∷ ls) = broken_by (around unit called f l) l ++ broken_of unit called f ls

-- which loops of functions are counted, in text order
abbrev pub counted_in : TUnit → (ℕ → ℕ → Bool) → List TFunc → List Bool
counted_in unit called [] = []
counted_in unit called (f ∷ fs) = counted_of unit called f (function_seen f).loops ++ counted_in unit called fs

-- the reads that the loops of functions break
abbrev pub broken_in : TUnit → (ℕ → ℕ → Bool) → List TFunc → List ℕ
broken_in unit called [] = []
broken_in unit called (f ∷ fs) = broken_of unit called f (function_seen f).loops ++ broken_in unit called fs

-- the marks of a source, by a test that tells which function can be called from which
unfoldable pub marks_by : TUnit → (ℕ → ℕ → Bool) → Marks
marks_by unit called = record {
  counted = counted_in unit called unit.functions;
  broken = flags unit.nodes (broken_in unit called unit.functions);
  leaves = flags unit.nodes (left_among (statements_in unit.functions));
}

-- *Wide marks* of a source
abbrev pub AreWideMarks : TUnit → Marks → Type 0
AreWideMarks unit marks = (called : ℕ → ℕ → Bool) × IsCalling unit.functions called × (marks ≡ marks_by unit called)
