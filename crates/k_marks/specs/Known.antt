-- For contracts between crates: nobody has to believe it.
-- What is known of each variable in a loop, when what happens to variables is gone through once.
use Rattle.std.specs.Prelude.{ℕ, ◌≤◌, ◌≡◌, nat_eq, Bool, true, false, not, ◌&&◌, if◌then◌else◌, List, [], ◌∷◌, ◌++◌, count_by, Option, Some, None, slice_set}
use Rattle.std.specs.List.{slice_get}
use Rattle.k_types_meaning.specs.declared.tree.expression.TExpr.{TExpr}
use Rattle.k_types_meaning.specs.declared.tree.unit.TVariable.{TVariable}
use Rattle.k_marks.specs.declared.known.Entry.{Entry}
use Rattle.k_marks.specs.declared.known.How.{How}
use Rattle.k_marks.specs.declared.known.How.TheVariants.{Nowhere, By, Elsewhere}
use Rattle.k_marks.specs.declared.known.Occurrence.{Occurrence}
use Rattle.k_marks_meaning.specs.declared.uses.Group.{Group}
use Rattle.k_marks_meaning.specs.declared.uses.Read.{Read}
use Rattle.k_marks_meaning.specs.declared.uses.Use.{Use}
use Rattle.k_marks_meaning.specs.declared.uses.Use.TheVariants.{Names, Assigns, Declares, Reduces}
use Rattle.k_marks_meaning.specs.Loops.{Loop, same_group, is_register, assigns_it, bound_of, is_fixed, runs_through}

-- nothing
abbrev pub nothing_known : Occurrence
nothing_known = record { assigned = false; how = Nowhere }

-- how a variable occurs behind a statement that reduces it
abbrev pub how_behind : How → Group → How
how_behind Nowhere g = By g
how_behind (By h) g = if same_group h g then By h else Elsewhere
how_behind Elsewhere g = Elsewhere

-- a variable may be one that operators of a group reduce
abbrev pub allows : How → Group → Bool
allows Nowhere g = true
allows (By h) g = same_group h g
allows Elsewhere g = false

-- the variable to which something happens
abbrev pub variable_in : Use → ℕ
variable_in (Names n) = n
variable_in (Assigns n) = n
variable_in (Declares n) = n
variable_in (Reduces r) = r.variable

-- what is known of a variable behind what happens to it
abbrev pub behind : Use → Occurrence → Occurrence
behind (Names n) k = record { assigned = k.assigned; how = Elsewhere }
behind (Assigns n) k = record { assigned = true; how = Elsewhere }
behind (Declares n) k = record { assigned = k.assigned; how = Elsewhere }
behind (Reduces r) k = record { assigned = true; how = how_behind k.how r.group }

-- what is known of this variable behind what happens to some variable
abbrev pub known_behind : ℕ → Use → Occurrence → Occurrence
known_behind n u k = if nat_eq (variable_in u) n then behind u k else k

-- what is known of this variable behind all that happens
abbrev pub known_from : ℕ → Occurrence → List Use → Occurrence
known_from n k [] = k
known_from n k (u ∷ us) = known_from n (known_behind n u k) us

-- what an entry says in the loop of this number
abbrev pub said : ℕ → Option Entry → Occurrence
said turn None = nothing_known
said turn (Some e) = if nat_eq e.turn turn then e.known else nothing_known

-- what a table says of a variable in the loop of this number
abbrev pub look : ℕ → List Entry → ℕ → Occurrence
look turn table n = said turn (slice_get table n)

-- a table behind what happens to a variable
abbrev pub table_with : ℕ → Use → List Entry → List Entry
table_with turn u table =
    slice_set table (variable_in u) (record { turn = turn; known = behind u (look turn table (variable_in u)) })

-- a table behind all that happens in a loop
abbrev pub table_with_all : ℕ → List Use → List Entry → List Entry
table_with_all turn [] table = table
table_with_all turn (u ∷ us) table = table_with_all turn us (table_with turn u table)

-- by the table, a variable keeps its value in the loop
abbrev pub known_stays : List TVariable → List Entry → ℕ → ℕ → Bool
known_stays vs table turn n = is_register vs n && not (look turn table n).assigned

-- by the table, a bound is built from variables that keep their values
abbrev pub known_bound : List TVariable → List Entry → ℕ → Option TExpr → Bool
known_bound vs table turn None = false
known_bound vs table turn (Some bound) = is_fixed (known_stays vs table turn) bound

-- by the table and by all that happens in the loop, a loop is counted whose step counts this variable
abbrev pub known_counts : List TVariable → List Entry → ℕ → List Use → Loop → Option Read → Bool
known_counts vs table turn uses l None = false
known_counts vs table turn uses l (Some i) =
    (is_register vs i.variable && nat_eq (count_by (assigns_it i.variable) uses) 1)
    && (known_bound vs table turn (bound_of i.variable l.test) && runs_through l)

-- by the table, a variable is reduced by operators of a group
abbrev pub known_reduced : List TVariable → List Entry → ℕ → ℕ → Group → Bool
known_reduced vs table turn n g = is_register vs n && allows (look turn table n).how g

-- by the table, the read that is broken where this happens
abbrev pub known_read : List TVariable → List Entry → ℕ → Use → List ℕ
known_read vs table turn (Reduces r) = if known_reduced vs table turn r.variable r.group then r.read ∷ [] else []
known_read vs table turn _ = []

-- the same of all that happens
abbrev pub known_reads : List TVariable → List Entry → ℕ → List Use → List ℕ
known_reads vs table turn [] = []
known_reads vs table turn (u ∷ us) = known_read vs table turn u ++ known_reads vs table turn us

-- an entry of no loop
abbrev pub blank : Entry
blank = record { turn = 0; known = nothing_known }

-- a table says nothing in the loops from this number on
abbrev pub IsFresh : ℕ → List Entry → Type 0
IsFresh turn table = (t n : ℕ) → turn ≤ t → look t table n ≡ nothing_known
