-- Believed with a public law.
-- Which functions can be called from which, and plain globals.
use Rattle.std.specs.Prelude.{ℕ, nat_eq, ◌+◌, ◌≡◌, Bool, true, false, IsTrue, ◌&&◌, not, if◌then◌else◌, List, [], ◌∷◌, ◌++◌, Option, Some, None, filter}
use Rattle.std.specs.List.{list_any, slice_get}
use Rattle.k_types_meaning.specs.declared.tree.unit.TFunc.{TFunc}
use Rattle.k_types_meaning.specs.declared.tree.unit.TObject.{TObject}
use Rattle.k_types_meaning.specs.declared.tree.unit.TUnit.{TUnit}
use Rattle.k_marks_meaning.specs.Loops.{is_number}
use Rattle.k_wide_meaning.specs.declared.occurrences.Scalar.{Scalar}
use Rattle.k_wide_meaning.specs.declared.occurrences.Scalar.TheVariants.{Variable, Object}
use Rattle.k_wide_meaning.specs.declared.occurrences.Occurrence.{Occurrence}
use Rattle.k_wide_meaning.specs.declared.occurrences.Occurrence.TheVariants.{Names, Assigns, Reduces, Addresses, Calls}
use Rattle.k_wide_meaning.specs.Contents.{function_seen}

-- what happens is a call of this function
abbrev pub is_call : ℕ → Occurrence → Bool
is_call n (Calls m) = nat_eq m n
is_call n _ = false

-- this function calls that one by name
pub record IsCalledBy (fs : List TFunc) (f g : ℕ) : Type 0 where
  pub caller : TFunc
  pub there : slice_get fs f ≡ Some caller
  pub calls : IsTrue (list_any (is_call g) (function_seen caller).occurs)

-- FROM THIS FUNCTION THAT ONE CAN BE CALLED, or is it: calls by name, followed through
pub data CanCall (fs : List TFunc) (f : ℕ) : ℕ → Type 0 where
  itself : CanCall fs f f
  through : (g h : ℕ) → CanCall fs f g → IsCalledBy fs g h → CanCall fs f h

-- a test tells which function can be called from which
abbrev pub IsCalling : List TFunc → (ℕ → ℕ → Bool) → Type 0
IsCalling fs called = (f g : ℕ) → (IsTrue (called f g) → CanCall fs f g) × (CanCall fs f g → IsTrue (called f g))

-- a function can be called from where this happens
abbrev pub leads_to : (ℕ → ℕ → Bool) → ℕ → Occurrence → Bool
leads_to called g (Calls f) = called f g
leads_to called g _ = false

-- a scalar is a file object
abbrev pub is_object : Scalar → Bool
is_object (Variable n) = false
is_object (Object n) = true

-- what happens to file objects, beside their addresses
abbrev pub is_of_object : Occurrence → Bool
is_of_object (Names s) = is_object s
is_of_object (Assigns s) = is_object s
is_of_object (Reduces r) = is_object r.scalar
is_of_object _ = false

-- the functions of which it is known that they can be called do this to file objects, where the first has this number
abbrev pub done_from : ℕ → (ℕ → Bool) → List TFunc → List Occurrence
done_from n can [] = []
done_from n can (f ∷ fs) = (if can n then filter is_of_object (function_seen f).occurs else []) ++ done_from (n + 1) can fs

-- WHAT HAPPENS TO FILE OBJECTS in the functions that can be called from a text that does this
abbrev pub done_beyond : List TFunc → (ℕ → ℕ → Bool) → List Occurrence → List Occurrence
done_beyond fs called text = done_from 0 (λ g. list_any (leads_to called g) text) fs

-- the address of this object is taken
abbrev pub is_addressed : ℕ → Occurrence → Bool
is_addressed n (Addresses m) = nat_eq m n
is_addressed n _ = false

-- the address of this object is taken in one of these functions
abbrev pub is_addressed_in : ℕ → List TFunc → Bool
is_addressed_in n fs = list_any (λ (f : TFunc). list_any (is_addressed n) (function_seen f).occurs) fs

-- a file object, if there is one, is a whole number
abbrev pub is_number_there : Option TObject → Bool
is_number_there None = false
is_number_there (Some o) = is_number o.of

-- A PLAIN GLOBAL: a file object that is a whole number, and nowhere in the source the operand of `&`
abbrev pub is_plain : TUnit → ℕ → Bool
is_plain unit n = is_number_there (slice_get unit.objects n) && not (is_addressed_in n unit.functions)
