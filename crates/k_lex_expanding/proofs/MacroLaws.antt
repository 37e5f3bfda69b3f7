-- Macros by their numbers.
use Rattle.std.proofs.Common.{◌≡◌, ℕ, zero, suc, ◌<◌, true, if◌then◌else◌, List, [], ◌∷◌, Some, length, drop, get_or, ap, sym, ◌∙◌, arith}
use Rattle.std.proofs.lemmas.Option.{slice_get-get_or}
use Rattle.k_lex_pieces.specs.Bytes.{same}
use Rattle.k_lex_expansion.specs.declared.macros.Macro.{Macro}
use Rattle.k_lex_expansion.specs.Expansion.{named}
use Rattle.k_lex_expanding.specs.Macros.{Is}

named_there : (macros : List Macro) (name : List ℕ) (k : ℕ) (d : Macro) → k < length macros → same (get_or macros k d).name name ≡ true → named (drop k macros) name ≡ Some (get_or macros k d)
named_there [] name k d lt is = absurd (omega (arith, lt))
named_there (m ∷ macros) name zero d lt is = ap (λ b. if b then Some m else named macros name) is
named_there (m ∷ macros) name (suc k) d lt is = named_there macros name k d (omega (arith, lt)) is

-- the first of this name
pub found : (macros : List Macro) (name : List ℕ) (k : ℕ) (d : Macro) → k < length macros → same (get_or macros k d).name name ≡ true → named (drop k macros) name ≡ named macros name
    → Is macros k (named macros name)
found macros name k d lt is all = record { one = get_or macros k d; there = slice_get-get_or macros k d lt; wanted = sym all ∙ named_there macros name k d lt is }
