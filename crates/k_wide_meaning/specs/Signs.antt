-- Believed with a public law.
-- Expressions that are the same tree up to places: their operators and operands, in text order and parents first, are the same.
use Rattle.std.specs.Prelude.{Bool, true, false, ◌&&◌, not, List, [], ◌∷◌, ◌++◌}
use Rattle.std.specs.List.{list_any}
use Rattle.std.specs.Cmp.Lexicographic.{pointwise}
use Rattle.k_types_meaning.specs.declared.tree.expression.TExpr.{TExpr, fold-TExpr}
use Rattle.k_types_meaning.specs.declared.tree.expression.TExpr.TheOpen.{TExpr-F}
use Rattle.k_wide_meaning.specs.contracts.signs.SignPartialEq.TheImpl as signs
use Rattle.k_wide_meaning.specs.declared.signs.Sign.{Sign}
use Rattle.k_wide_meaning.specs.declared.signs.Sign.TheVariants as sign

-- the signs of an expression, of whose operands they are known; each sign has one number of operands, so no two trees have the same signs
abbrev pub signs_step : TExpr-F (List Sign) → List Sign
signs_step (TExpr-F.Number node value) = sign.Number value ∷ []
signs_step (TExpr-F.Object node n) = sign.Object n ∷ []
signs_step (TExpr-F.Variable node n) = sign.Variable n ∷ []
signs_step (TExpr-F.Index node a b) = sign.Index ∷ (a ++ b)
signs_step (TExpr-F.Address node a) = sign.Address ∷ a
signs_step (TExpr-F.Deref node a) = sign.Deref ∷ a
signs_step (TExpr-F.Plus node a) = sign.Plus ∷ a
signs_step (TExpr-F.Unary node op kind a) = sign.Unary op kind ∷ a
signs_step (TExpr-F.Convert node a) = sign.Convert node.of ∷ a
signs_step (TExpr-F.Cast node a) = sign.Cast node.of ∷ a
signs_step (TExpr-F.Binary node op kind a b) = sign.Binary op kind ∷ (a ++ b)
signs_step (TExpr-F.Both node a b) = sign.Both ∷ (a ++ b)
signs_step (TExpr-F.Either node a b) = sign.Either ∷ (a ++ b)
signs_step (TExpr-F.Forward node a b) = sign.Forward ∷ (a ++ b)
signs_step (TExpr-F.Onto node a b) = sign.Onto ∷ (a ++ b)
signs_step (TExpr-F.Back node a b) = sign.Back ∷ (a ++ b)
signs_step (TExpr-F.PtrCompare node op a b) = sign.PtrCompare op ∷ (a ++ b)
signs_step (TExpr-F.PtrDistance node a b) = sign.PtrDistance ∷ (a ++ b)
signs_step (TExpr-F.Cond node a b c) = sign.Cond ∷ (a ++ (b ++ c))
signs_step (TExpr-F.Comma node a b) = sign.Comma ∷ (a ++ b)
signs_step _ = sign.Other ∷ []

-- the signs of an expression
abbrev pub signs_of : TExpr → List Sign
signs_of = fold-TExpr (List Sign) signs_step

-- a sign stands for a side effect, a call or a string, each of which is an object of its own
abbrev pub is_other : Sign → Bool
is_other sign.Other = true
is_other _ = false

-- TWO EXPRESSIONS ARE THE SAME up to places, and have no side effect and no call
abbrev pub are_same : TExpr → TExpr → Bool
are_same a b = pointwise signs.ghosts.eq (signs_of a) (signs_of b) && not (list_any is_other (signs_of a))
