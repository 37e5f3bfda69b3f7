-- Believed with a public law.
-- What holds of *Wide marks*.
use Rattle.std.specs.Prelude.{ℕ, ◌≡◌, Bool, List}
use Rattle.k_types_meaning.specs.declared.tree.unit.TFunc.{TFunc}
use Rattle.k_types_meaning.specs.declared.tree.unit.TUnit.{TUnit}
use Rattle.k_marks_meaning.specs.declared.Marks.{Marks}
use Rattle.k_wide_meaning.specs.Calls.{IsCalling}
use Rattle.k_wide_meaning.specs.Marking.{AreWideMarks}

-- which function can be called from which can be told
abbrev pub CallsAreTold : Type 0
CallsAreTold = (fs : List TFunc) → (called : ℕ → ℕ → Bool) × IsCalling fs called

-- each typed tree has Wide marks
abbrev pub MarksExist : Type 0
MarksExist = (unit : TUnit) → (marks : Marks) × AreWideMarks unit marks

-- and no others
abbrev pub MarksAreUnique : Type 0
MarksAreUnique = (unit : TUnit) (a b : Marks) → AreWideMarks unit a → AreWideMarks unit b → a ≡ b
