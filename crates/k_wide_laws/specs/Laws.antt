-- Believed with a public law.
-- What *Wide marks* have of *Marks*.
use Rattle.std.specs.Prelude.{ℕ, ◌≡◌, Bool, true, List, slice_get, Some}
use Rattle.k_tree.specs.declared.tree.unit.Unit as source
use Rattle.k_types_meaning.specs.declared.tree.unit.TUnit.{TUnit}
use Rattle.k_types_meaning.specs.Bare.{IsTyped}
use Rattle.k_marks_meaning.specs.declared.Marks.{Marks}
use Rattle.k_marks_meaning.specs.Marking.{marks_of}
use Rattle.k_wide_meaning.specs.Marking.{AreWideMarks}

-- what the one list marks the other marks
abbrev pub HasAll : List Bool → List Bool → Type 0
HasAll stated wide = (n : ℕ) → slice_get stated n ≡ Some true → slice_get wide n ≡ Some true

-- each loop and each read that is marked is marked in Wide, and the same statements leave
pub record HasStated (stated wide : Marks) : Type 0 where
  pub counted : HasAll stated.counted wide.counted
  pub broken : HasAll stated.broken wide.broken
  pub leaves : wide.leaves ≡ stated.leaves

-- *Wide marks* of a source that has a typed tree have what *Marks* of it have
abbrev pub WideHasStated : Type 0
WideHasStated = (unit : source.Unit) (typed : TUnit) (marks : Marks) → IsTyped unit typed → AreWideMarks typed marks → HasStated (marks_of typed) marks
