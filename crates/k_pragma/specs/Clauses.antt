-- Believed with the theorem on the top call.
-- The OpenMP line of a loop: its clauses and the names in them.
use Rattle.std.specs.Prelude.{ℕ, ◌+◌, Bool, if◌then◌else◌, List, [], ◌∷◌, ◌++◌, codes, map}
use Rattle.std.specs.List.{flat_map}
use Rattle.k_types_meaning.specs.declared.tree.unit.TVariable.{TVariable}
use Rattle.k_marks_meaning.specs.declared.uses.Group.TheVariants.{Sums, Products, Ands, Ors, Xors}
use Rattle.k_pragma_texts.specs.declared.occurrence.LoopText.{LoopText}
use Rattle.k_pragma_texts.specs.declared.occurrence.Occurrence.{Occurrence}
use Rattle.k_pragma.specs.declared.clauses.Clause.{Clause}
use Rattle.k_pragma.specs.declared.clauses.Clause.TheVariants.{Reduction, Private}
use Rattle.k_pragma.specs.Conditions.{is_reduction, must_be_private}
use Rattle.k_pragma.specs.Names.{are_apart, name_of}

-- a variable of this number stands in a clause
abbrev pub belongs : List Occurrence → LoopText → Clause → ℕ → TVariable → Bool
belongs occurs l (Reduction g) n v = is_reduction occurs l g n v
belongs occurs l Private n v = must_be_private occurs l n v

-- the numbers of those variables, the first of which has this one, that stand in a clause, in order of declaration
abbrev pub numbers_in : List Occurrence → LoopText → Clause → ℕ → List TVariable → List ℕ
numbers_in occurs l clause n [] = []
numbers_in occurs l clause n (v ∷ vs) =
    (if belongs occurs l clause n v then n ∷ [] else []) ++ numbers_in occurs l clause (n + 1) vs

-- THE NAMES IN A CLAUSE of a loop of a function whose variables have these names
abbrev pub names_in : List (List ℕ) → List Occurrence → LoopText → List TVariable → Clause → List (List ℕ)
names_in names occurs l vs clause = map (name_of names) (numbers_in occurs l clause 0 vs)

-- the clauses that a line may have, in their order
abbrev pub clauses : List Clause
clauses = Reduction Sums ∷ Reduction Products ∷ Reduction Ands ∷ Reduction Ors ∷ Reduction Xors ∷ Private ∷ []

-- the numbers of the variables that stand in these clauses
abbrev pub numbers_in_all : List Occurrence → LoopText → List TVariable → List Clause → List ℕ
numbers_in_all occurs l vs [] = []
numbers_in_all occurs l vs (clause ∷ list) = numbers_in occurs l clause 0 vs ++ numbers_in_all occurs l vs list

-- the names in all clauses of a loop
abbrev pub all_names : List (List ℕ) → List Occurrence → LoopText → List TVariable → List (List ℕ)
all_names names occurs l vs = map (name_of names) (numbers_in_all occurs l vs clauses)

-- they are words, and no two are one
abbrev pub has_names : List (List ℕ) → List Occurrence → LoopText → List TVariable → Bool
has_names names occurs l vs = are_apart (all_names names occurs l vs)

-- a clause up to its first name
abbrev pub clause_head : Clause → List ℕ
clause_head (Reduction Sums) = codes " reduction(+:"
clause_head (Reduction Products) = codes " reduction(*:"
clause_head (Reduction Ands) = codes " reduction(&:"
clause_head (Reduction Ors) = codes " reduction(|:"
clause_head (Reduction Xors) = codes " reduction(^:"
clause_head Private = codes " private("

-- a name behind a comma
abbrev pub behind_comma : List ℕ → List ℕ
behind_comma name = codes "," ++ name

-- a clause with these names; without a name there is none
abbrev pub clause_of : Clause → List (List ℕ) → List ℕ
clause_of clause [] = []
clause_of clause (name ∷ names) = clause_head clause ++ name ++ flat_map behind_comma names ++ codes ")"

-- a clause of a loop of a function whose variables have these names
abbrev pub clause_text : List (List ℕ) → List Occurrence → LoopText → List TVariable → Clause → List ℕ
clause_text names occurs l vs clause = clause_of clause (names_in names occurs l vs clause)

-- THE OPENMP LINE of a loop, between two newlines: its clauses stand in this order
abbrev pub pragma_text : List (List ℕ) → List Occurrence → LoopText → List TVariable → List ℕ
pragma_text names occurs l vs = codes "\n#pragma omp parallel for" ++ flat_map (clause_text names occurs l vs) clauses ++ codes "\n"
