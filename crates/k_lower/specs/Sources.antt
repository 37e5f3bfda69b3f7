-- For contracts between crates: nobody has to believe it.
-- What does not change while a program is lowered, as the definitions see it.
use Rattle.std.specs.Prelude.{ℕ, ◌≡◌, List, slice_get, Option, Some}
use Rattle.k_types_meaning.specs.declared.tree.unit.TFunc.{TFunc}
use Rattle.k_evaluation.specs.States.{Program}
use Rattle.k_lower_code.specs.Functions.{inside}
use Rattle.k_lower_extents.specs.declared.extent.Extent.{Extent}
use Rattle.k_lower_extents.specs.Extents.{AreAllExtents}
use Rattle.k_lower.specs.declared.source.Source.{Source}

-- the program
abbrev pub program_of : Source → Program
program_of s = record { unit = s.unit.now; marks = s.marks.now; latencies = s.latencies.now }

-- a table has the extents of the statements of all functions
abbrev pub HasStatements : Program → List (Option Extent) → Type 0
HasStatements program table =
    (n : ℕ) (f : TFunc) → slice_get program.unit.functions n ≡ Some f → AreAllExtents table (inside program n f) f.body
