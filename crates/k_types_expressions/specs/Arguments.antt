-- For contracts between crates: nobody has to believe it.
-- Judged arguments of calls, and what comes of passing them.
use Rattle.std.specs.Prelude.{◌≡◌, ℕ, List, [], ◌∷◌, ◌++◌, map, Option, Some, None}
use Rattle.k_num.specs.declared.place.Place.{Place}
use Rattle.k_types_meaning.specs.declared.fault.TypeFault.TheVariants as fault
use Rattle.k_types_meaning.specs.declared.tree.expression.TExpr.{TExpr}
use Rattle.k_types_meaning.specs.CallRules.{Passing, Passes, WrongKind, WrongCount, all_taken}
use Rattle.k_types_meaning.specs.Conversions.{Typed}
use Rattle.k_types_meaning.specs.Formats.{marks_of}
use Rattle.k_types_meaning.specs.Made.{Made, Fine, Faulty, refused}
use Rattle.k_types_rules.specs.declared.judged.TypedExpr.{TypedExpr}
use Rattle.k_types_names.specs.declared.formats.Format.{Format}
use Rattle.k_types_names.specs.Forms.{format_of}
use Rattle.k_types_rules.specs.Views.{typed}

-- the first of some lists, and the empty list where there is none
abbrev pub first_list : List (List ℕ) → List ℕ
first_list [] = []
first_list (t ∷ ts) = t

-- the lists behind the first
abbrev pub later_lists : List (List ℕ) → List (List ℕ)
later_lists [] = []
later_lists (t ∷ ts) = ts

-- judged arguments, with the variables to which `&` is applied in each
abbrev pub typed_all : List TypedExpr → List (List ℕ) → List Typed
typed_all [] ts = []
typed_all (j ∷ js) ts = typed j (first_list ts) ∷ typed_all js (later_lists ts)

-- judged arguments alone
abbrev pub bare : List TypedExpr → List Typed
bare js = map (λ (j : TypedExpr). typed j []) js

-- what comes of passing arguments, as trees or a fault
abbrev pub passed_made : Place → Passing → Made (List TExpr)
passed_made p (Passes trees) = Fine trees
passed_made p WrongKind = refused (fault.Kinds p)
passed_made p WrongCount = refused (fault.Arity p)

-- what is made before the others that are made
abbrev pub made_before : {A : Type 0} → List A → Made (List A) → Made (List A)
made_before first (Fine more) = Fine (first ++ more)
made_before first (Faulty f fs) = Faulty f fs

-- Arguments were judged, and the variables to which `&` is applied in them were put behind the older ones.
abbrev pub GivesAll : List TypedExpr → List ℕ → List ℕ → Made (List Typed) → Type 0
GivesAll js older newer m = (ts : List (List ℕ)) × (m ≡ Fine (typed_all js ts)) × (newer ≡ older ++ all_taken (typed_all js ts))

-- trees before those that there may be
abbrev pub trees_before_option : List TExpr → Option (List TExpr) → Option (List TExpr)
trees_before_option trees None = None
trees_before_option trees (Some more) = Some (trees ++ more)

-- the format that bytes are, if there are bytes and they are a format
abbrev pub format_in : Option (List ℕ) → Option Format
format_in None = None
format_in (Some bytes) = format_of (marks_of bytes)
