-- An expression keeps its node as it is lowered.
use Rattle.std.proofs.Common.{◌≡◌, ◌∙◌, List, refl, sym, ap}
use Rattle.k_types_meaning.specs.Conversions.{node_of, node_step}
use Rattle.k_types_meaning.specs.declared.tree.expression.TExpr.{TExpr, fold_out-TExpr, map-TExpr, out-TExpr}
use Rattle.k_types_meaning.specs.declared.tree.expression.TExpr.TheOpen.{TExpr-F}
use Rattle.k_types_meaning.specs.declared.tree.unit.TVariable.{TVariable}
use Rattle.k_evaluation.specs.States.{Program}
use Rattle.k_lower_code.specs.Assignments.{assign, assign_by, pre, post}
use Rattle.k_lower_code.specs.Expressions.{lower_step, lowered}
use Rattle.k_lower_code.specs.Library.{getchar, putchar, puts, printf, call}
use Rattle.k_lower_code.specs.Lowered.{Lowered}
use Rattle.k_lower_code.specs.Operators.{plus, unary, convert, cast, binary, compare, distance, both, either, cond, comma}
use Rattle.k_lower_code.specs.Places.{number, string, object, variable, index, deref, address, forward, back, onto}

module _ (program : Program) (vs : List TVariable) where
  by_layer : (z : TExpr-F TExpr) → (lower_step program vs (map-TExpr TExpr Lowered (lowered program vs) z)).node ≡ node_step z
  unfolding number string object variable index deref address forward back onto plus unary convert cast binary compare distance both either cond comma assign assign_by pre post getchar putchar puts printf call
  by_layer (TExpr-F.Number node z) = refl
  by_layer (TExpr-F.Str node n bytes) = refl
  by_layer (TExpr-F.Object node n) = refl
  by_layer (TExpr-F.Variable node n) = refl
  by_layer (TExpr-F.Index node a b) = refl
  by_layer (TExpr-F.Call node f args) = refl
  by_layer (TExpr-F.Getchar node) = refl
  by_layer (TExpr-F.Putchar node a) = refl
  by_layer (TExpr-F.Puts node a) = refl
  by_layer (TExpr-F.Printf node format args) = refl
  by_layer (TExpr-F.Post node change a) = refl
  by_layer (TExpr-F.Pre node change a) = refl
  by_layer (TExpr-F.Address node a) = refl
  by_layer (TExpr-F.Deref node a) = refl
  by_layer (TExpr-F.Plus node a) = refl
  by_layer (TExpr-F.Unary node op kind a) = refl
  by_layer (TExpr-F.Convert node a) = refl
  by_layer (TExpr-F.Cast node a) = refl
  by_layer (TExpr-F.Binary node op kind a b) = refl
  by_layer (TExpr-F.Both node a b) = refl
  by_layer (TExpr-F.Either node a b) = refl
  by_layer (TExpr-F.Forward node a b) = refl
  by_layer (TExpr-F.Onto node a b) = refl
  by_layer (TExpr-F.Back node a b) = refl
  by_layer (TExpr-F.PtrCompare node op a b) = refl
  by_layer (TExpr-F.PtrDistance node a b) = refl
  by_layer (TExpr-F.Cond node a b c) = refl
  by_layer (TExpr-F.Assign node a b) = refl
  by_layer (TExpr-F.AssignBy node change a b) = refl
  by_layer (TExpr-F.Comma node a b) = refl

  -- THE NODE
  pub node_is : (e : TExpr) → (lowered program vs e).node ≡ node_of e
  node_is e = ap (λ (l : Lowered). l.node) (fold_out-TExpr Lowered (lower_step program vs) e) ∙ by_layer (out-TExpr e)
