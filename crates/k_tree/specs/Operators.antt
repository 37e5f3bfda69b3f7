-- Believed with the theorem on the top call.
-- The operators that marks are.
use Rattle.std.specs.Prelude.{Option, Some, None}
use Rattle.k_num.specs.declared.numbers.Bin.{Bin}
use Rattle.k_num.specs.declared.numbers.Bin.TheVariants.{Add, Sub, Mul, Div, Rem, And, Or, Xor, Shl, Shr, Lt, Le, Gt, Ge, Eq, Ne, LogAnd, LogOr}
use Rattle.k_tree.specs.declared.tokens.mark.Mark.{Mark}
use Rattle.k_tree.specs.declared.tokens.mark.Mark.TheVariants as mark

-- C17 6.5.5 to 6.5.14: the binary operator that a mark is between two operands
abbrev pub operator_of : Mark → Option Bin
operator_of mark.Plus = Some Add
operator_of mark.Minus = Some Sub
operator_of mark.Star = Some Mul
operator_of mark.Slash = Some Div
operator_of mark.Percent = Some Rem
operator_of mark.Ampersand = Some And
operator_of mark.Bar = Some Or
operator_of mark.Caret = Some Xor
operator_of mark.ShiftLeft = Some Shl
operator_of mark.ShiftRight = Some Shr
operator_of mark.Less = Some Lt
operator_of mark.LessEqual = Some Le
operator_of mark.Greater = Some Gt
operator_of mark.GreaterEqual = Some Ge
operator_of mark.EqualEqual = Some Eq
operator_of mark.ExclaimEqual = Some Ne
operator_of mark.AmpersandAmpersand = Some LogAnd
operator_of mark.BarBar = Some LogOr
operator_of _ = None

-- C17 6.5.16.2: the binary operator that a compound assignment applies
abbrev pub compound_operator_of : Mark → Option Bin
compound_operator_of mark.PlusEqual = Some Add
compound_operator_of mark.MinusEqual = Some Sub
compound_operator_of mark.StarEqual = Some Mul
compound_operator_of mark.SlashEqual = Some Div
compound_operator_of mark.PercentEqual = Some Rem
compound_operator_of mark.AmpersandEqual = Some And
compound_operator_of mark.BarEqual = Some Or
compound_operator_of mark.CaretEqual = Some Xor
compound_operator_of mark.ShiftLeftEqual = Some Shl
compound_operator_of mark.ShiftRightEqual = Some Shr
compound_operator_of _ = None
