-- Believed with the theorem on the top call.
-- Which loops may be marked, and with which lines.
use Rattle.std.specs.Prelude.{ℕ, ◌+◌, ◌*◌, nat_eq, Bool, false, ◌&&◌, if◌then◌else◌, List, [], ◌∷◌, ◌++◌, length, slice_get, unwrap_or}
use Rattle.std.specs.List.{flat_map, list_any}
use Rattle.k_types_meaning.specs.declared.tree.unit.TFunc.{TFunc}
use Rattle.k_types_meaning.specs.declared.tree.unit.TVariable.{TVariable}
use Rattle.k_carry_pairs.specs.declared.pairs.LoopPairs.{LoopPairs}
use Rattle.k_pragma_texts.specs.declared.occurrence.LoopText.{LoopText}
use Rattle.k_pragma_texts.specs.declared.occurrence.Occurrence.{Occurrence}
use Rattle.k_pragma_texts.specs.declared.occurrence.Setter.{Setter}
use Rattle.k_pragma_texts.specs.Texts.{function_held}
use Rattle.k_pragma.specs.declared.pragmas.Pragma.{Pragma}
use Rattle.k_pragma_written.specs.declared.told.Written.{Written}
use Rattle.k_pragma.specs.Clauses.{has_names, pragma_text}
use Rattle.k_pragma.specs.Conditions.{has_plain_head, shares_nothing}
use Rattle.k_pragma.specs.Names.{names_of}

-- the pairs of a loop were looked for, and there are none
abbrev pub is_without_pairs : ℕ → LoopPairs → Bool
is_without_pairs region l = nat_eq l.region region && nat_eq (length l.pairs) 0

-- THE THIRD CONDITION: the loop of this region is among the loops that were looked at, with no pairs
abbrev pub carries_nothing : List LoopPairs → ℕ → Bool
carries_nothing loops region = list_any (is_without_pairs region) loops

-- the first condition and the third: the loops that are picked and carry nothing, by their regions
abbrev pub candidates : List LoopPairs → List ℕ → List ℕ
candidates loops [] = []
candidates loops (region ∷ picked) = (if carries_nothing loops region then region ∷ [] else []) ++ candidates loops picked

-- the region of the loop of this number in the function of this number: each function and, behind it, each of its loops is followed by what is in it
abbrev pub region_of_loop : ℕ → ℕ → ℕ
region_of_loop function loop = function + 1 + 2 * loop

-- the loop of this number has this
abbrev pub is_set : List Bool → ℕ → Bool
is_set list loop = unwrap_or (slice_get list loop) false

-- THE SECOND CONDITION: the loop of this number is counted
abbrev pub is_counted : List Bool → ℕ → Bool
is_counted counted loop = is_set counted loop

-- THE SEVENTH CONDITION: OpenMP gives the loop C's meaning (OpenMP 5.0, 2.9.1), since it has the canonical form by its types and as it is written,
-- and first part and test stay as they are while it runs
abbrev pub has_meaning : List Bool → List Occurrence → LoopText → List TVariable → Bool
has_meaning bare occurs l vs = (l.canonical && is_set bare l.number) && has_plain_head occurs l vs

-- the loop of a region in a function with these variables meets all conditions but those on the text at its place
abbrev pub is_fit : List ℕ → List Bool → List Bool → ℕ → List TVariable → List Occurrence → List Setter → LoopText → Bool
is_fit among counted bare region vs occurs setters l =
    (list_any (λ r. nat_eq r region) among && is_counted counted l.number) && (shares_nothing occurs setters l vs && has_meaning bare occurs l vs)

-- it does, and the variables of its clauses have names of their own
abbrev pub is_ready : List ℕ → List Bool → List Bool → List (List ℕ) → ℕ → List TVariable → List Occurrence → List Setter → LoopText → Bool
is_ready among counted bare names region vs occurs setters l = is_fit among counted bare region vs occurs setters l && has_names names occurs l vs

-- the line of the loop of a region, where it is ready
abbrev pub pragma_if : Bool → ℕ → List (List ℕ) → List Occurrence → LoopText → List TVariable → List Pragma
pragma_if ready region names occurs l vs = if ready then record { region = region; text = pragma_text names occurs l vs } ∷ [] else []

-- the line of a loop of the function of this number, where it is ready
abbrev pub pragma_by : List ℕ → List Bool → List Bool → List (List ℕ) → ℕ → List TVariable → List Occurrence → List Setter → LoopText → List Pragma
pragma_by among counted bare names number vs occurs setters l =
    pragma_if (is_ready among counted bare names (region_of_loop number l.number) vs occurs setters l) (region_of_loop number l.number) names occurs l vs

-- the lines of these loops in a text
abbrev pub pragmas_of_text : List ℕ → List Bool → List Bool → List (List ℕ) → ℕ → List TVariable → List Occurrence → List Setter → List LoopText → List Pragma
pragmas_of_text among counted bare names number vs occurs setters loops = flat_map (pragma_by among counted bare names number vs occurs setters) loops

-- the lines of the loops of the function of this number
abbrev pub pragmas_of : List ℕ → List Bool → Written → ℕ → TFunc → List Pragma
pragmas_of among counted written number f =
    pragmas_of_text among counted written.bare (names_of written number) number f.variables (function_held f).occurs (function_held f).setters (function_held f).loops

-- the lines of the loops of functions, the first of which has this number
abbrev pub pragmas_in : List ℕ → List Bool → Written → ℕ → List TFunc → List Pragma
pragmas_in among counted written number [] = []
pragmas_in among counted written number (f ∷ fs) = pragmas_of among counted written number f ++ pragmas_in among counted written (number + 1) fs
