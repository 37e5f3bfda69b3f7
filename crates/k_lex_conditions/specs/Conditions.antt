-- Believed with a public law.
-- What a condition is, and whether it holds (C17 6.10.1p3).
use Rattle.std.specs.Prelude.{◌≡◌, Bool, not, ℤ, List, Option, Some, None}
use Rattle.k_num.specs.Arithmetic.{is_zero}
use Rattle.k_tree.specs.Spelling.{Spelled}
use Rattle.k_lex_conditions.specs.declared.value.Known.{Known}
use Rattle.k_lex_conditions.specs.Trees.{Tree, Ranked, spelling}
use Rattle.k_lex_conditions.specs.Values.{value}

-- a number holds where it is not 0
abbrev pub holding : Option ℤ → Option Bool
holding None = None
holding (Some z) = Some (not (is_zero z))

-- these tokens spell a tree of the grammar that has a value, and it holds, or doesn't
pub record Condition (names : List Known) (tokens : Spelled) (holds : Bool) : Type 0 where
  pub tree : Tree
  pub ranked : Ranked 2 tree
  pub spelled : spelling tree ≡ tokens
  pub valued : holding (value names tree).number ≡ Some holds

-- whether the condition holds, or that these tokens are none
abbrev pub IsDecided : List Known → Spelled → Option Bool → Type 0
IsDecided names tokens (Some holds) = Condition names tokens holds
IsDecided names tokens None = (holds : Bool) → Condition names tokens holds → ⊥

-- the tokens of a condition are those of one tree
abbrev pub TreeIsUnique : Type 0
TreeIsUnique = (a b : Tree) → Ranked 2 a → Ranked 2 b → spelling a ≡ spelling b → a ≡ b
