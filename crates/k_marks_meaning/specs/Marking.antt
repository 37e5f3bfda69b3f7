-- Believed with the theorem on the top call.
-- *Marks*: which loops are counted, which reads are broken, and which statements leave.
use Rattle.std.specs.Prelude.{ℕ, nat_eq, Bool, if◌then◌else◌, List, [], ◌∷◌, ◌++◌, map}
use Rattle.std.specs.List.{list_any}
use Rattle.k_types_meaning.specs.declared.tree.unit.TFunc.{TFunc}
use Rattle.k_types_meaning.specs.declared.tree.unit.TUnit.{TUnit}
use Rattle.k_types_meaning.specs.Numbered.{numbers_from}
use Rattle.k_marks_meaning.specs.declared.Marks.{Marks}
use Rattle.k_marks_meaning.specs.declared.jumps.StatementJumps.{StatementJumps}
use Rattle.k_marks_meaning.specs.Jumps.{is_left}
use Rattle.k_marks_meaning.specs.Loops.{is_counted, broken_by_all}
use Rattle.k_marks_meaning.specs.Contents.{Inside, inside, row}

-- what a function has in it
abbrev pub function_inside : TFunc → Inside
function_inside f = row (map inside f.body)

-- which loops of functions are counted, in text order
abbrev pub counted_in : List TFunc → List Bool
counted_in [] = []
counted_in (f ∷ fs) = map (is_counted f.variables) (function_inside f).loops ++ counted_in fs

-- the reads that the loops of functions break, by the numbers of their nodes
abbrev pub broken_in : List TFunc → List ℕ
broken_in [] = []
broken_in (f ∷ fs) = broken_by_all f.variables (function_inside f).loops ++ broken_in fs

-- the statements of functions with their jumps
abbrev pub statements_in : List TFunc → List StatementJumps
statements_in [] = []
statements_in (f ∷ fs) = (function_inside f).statements ++ statements_in fs

-- the number of a statement, where its text holds a leaving jump
abbrev pub left_at : StatementJumps → List ℕ
left_at s = if is_left s.itself then s.number ∷ [] else []

-- the same of statements
abbrev pub left_among : List StatementJumps → List ℕ
left_among [] = []
left_among (s ∷ ss) = left_at s ++ left_among ss

-- of the numbers below this one, whether each is among those
abbrev pub flags : ℕ → List ℕ → List Bool
flags count numbers = map (λ n. list_any (λ m. nat_eq m n) numbers) (numbers_from 0 count)

-- *Marks* of a source: loops by their number, reads and statements by the number of their node
unfoldable pub marks_of : TUnit → Marks
marks_of unit = record {
  counted = counted_in unit.functions;
  broken = flags unit.nodes (broken_in unit.functions);
  leaves = flags unit.nodes (left_among (statements_in unit.functions));
}
