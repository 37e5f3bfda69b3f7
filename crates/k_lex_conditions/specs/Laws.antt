-- Believed with a public law.
-- Conditions whose value is told.
use Rattle.std.specs.Prelude.{ℕ, ◌≡◌, true, false, [], Some, None, codes}
use Rattle.k_num.specs.declared.numbers.Kind.TheVariants.{I32, U32}
use Rattle.k_tree.specs.declared.tokens.TokenKind.TheVariants as token
use Rattle.k_tree.specs.declared.tokens.mark.Mark.TheVariants as mark
use Rattle.k_lex_conditions.specs.Trees.{Tree, operand, sign, operation, choice}
use Rattle.k_lex_conditions.specs.Values.{value}
use Rattle.k_lex_conditions.specs.Conditions.{holding}

-- a constant without suffix
abbrev pub plain : ℕ → Tree
plain n = operand (token.Number I32 n)

-- a constant with the suffix u
abbrev pub unsigned : ℕ → Tree
unsigned n = operand (token.Number U32 n)

-- 1/0
abbrev pub divided : Tree
divided = operation mark.Slash (plain 1) (plain 0)

-- worked examples (6.10.1, 6.5.5p5, 6.5.13p4, 6.5.14p4, 6.5.15p4, 6.3.1.8)
pub record Examples : Type 0 where
  -- `1/0` has no value
  pub trap : (value [] divided).number ≡ None
  -- nor has `1 && 1/0`, but `0 && 1/0` has one, and so has `2 || 1/0`
  pub asked : (value [] (operation mark.AmpersandAmpersand (plain 1) divided)).number ≡ None
  pub neither : holding (value [] (operation mark.AmpersandAmpersand (plain 0) divided)).number ≡ Some false
  pub either : holding (value [] (operation mark.BarBar (plain 2) divided)).number ≡ Some true
  -- `1 ? 2 : 1/0` is 2, and `1/0 ? 2 : 2` is none
  pub picked : (value [] (choice (plain 1) (plain 2) divided)).number ≡ (value [] (plain 2)).number
  pub untold : (value [] (choice divided (plain 2) (plain 2))).number ≡ None
  -- -1 is converted where the other operand is unsigned: `-1 > 0u` holds, and so does `(1 ? -1 : 0u) > 0`
  pub converts : holding (value [] (operation mark.Greater (sign mark.Minus (plain 1)) (unsigned 0))).number ≡ Some true
  pub alternative : holding (value [] (operation mark.Greater (choice (plain 1) (sign mark.Minus (plain 1)) (unsigned 0)) (plain 0))).number ≡ Some true
  -- but a shift is made in the kind of its left operand: `-1 >> 1u < 0` holds
  pub shifted : holding (value [] (operation mark.Less (operation mark.ShiftRight (sign mark.Minus (plain 1)) (unsigned 1)) (plain 0))).number ≡ Some true
  -- a comparison gives a signed number: `(0u < 1u) - 2 < 0` holds
  pub compared : holding (value [] (operation mark.Less (operation mark.Minus (operation mark.Less (unsigned 0) (unsigned 1)) (plain 2)) (plain 0))).number ≡ Some true
  -- a name that isn't known is 0
  pub unknown : holding (value [] (operand (token.Name (codes "A")))).number ≡ Some false
