-- The code of each expression may stand anywhere in a text, where what the expression names is there.
use Rattle.std.proofs.Common.{◌≡◌, nat_lt, nat_le, ◌&&◌, Bool, true, List, [], ◌∷◌, map, length, sym, subst}
use Rattle.std.proofs.lemmas.Bool.{and_parts, leb-true, ltb-true}
use Rattle.k_types_meaning.specs.declared.tree.expression.TExpr.{TExpr, fold-roll-TExpr, ind-TExpr, map-TExpr}
use Rattle.k_types_meaning.specs.declared.tree.expression.TExpr.TheOpen.{TExpr-F}
use Rattle.k_types_meaning.specs.declared.tree.unit.TVariable.{TVariable}
use Rattle.k_code.specs.declared.code.Code.{Code}
use Rattle.k_evaluation.specs.Places.{string_number}
use Rattle.k_evaluation.specs.States.{Program}
use Rattle.k_lower_code.specs.Expressions.{lower_step, lowered}
use Rattle.k_lower_code.specs.Lowered.{Lowered}
use Rattle.k_lower_valid.specs.Names.{expr_step, expr_named, all_named}
use Rattle.k_lower_valid.proofs.Texts.{HasTable}
use Rattle.k_lower_valid.proofs.ExpressionRows.{LoweredStands, AllStand, number_stands, string_stands, object_stands, variable_stands, index_stands, deref_stands, address_stands, forward_stands, back_stands, onto_stands, plus_stands, unary_stands, convert_stands, cast_stands, binary_stands, compare_stands, distance_stands, both_stands, either_stands, cond_stands, comma_stands, assign_stands, assign_by_stands, pre_stands, post_stands, getchar_stands, putchar_stands, puts_stands, printf_stands, call_stands}

module _ (code : Code) (program : Program) (table : HasTable program) (vs : List TVariable) where
  abbrev made : TExpr → Lowered
  made = lowered program vs

  abbrev named : TExpr → Bool
  named = expr_named program code

  -- an expression stands where it names what is there
  abbrev Right : TExpr → Type 0
  Right e = named e ≡ true → LoweredStands code (made e)

  all_stand : {B : Type 0} (items : List B) (expr : B → TExpr) → ((b : B) → Right (expr b)) → all_named (map named (map expr items)) ≡ true
      → AllStand code (map made (map expr items))
  all_stand [] expr each all = tt
  all_stand (b ∷ items) expr each all =
      (each b (and_parts (named (expr b)) (all_named (map named (map expr items))) all).0, all_stand items expr each (and_parts (named (expr b)) (all_named (map named (map expr items))) all).1)

  abbrev Layer : TExpr-F TExpr → Type 0
  Layer z = expr_step program code (map-TExpr TExpr Bool named z) ≡ true → LoweredStands code (lower_step program vs (map-TExpr TExpr Lowered made z))

  by : (y : TExpr-F ((e : TExpr) × Right e)) → Layer (map-TExpr _ TExpr (λ (e : (e : TExpr) × Right e). e.0) y)
  by (TExpr-F.Number node z) all = number_stands code program table node z
  by (TExpr-F.Str node n bytes) all =
      string_stands code program table node n bytes (ltb-true (string_number program n) (length code.objects) (and_parts (nat_lt (string_number program n) (length code.objects)) (nat_le (length bytes) 4194304) all).0)
      (leb-true (length bytes) 4194304 (and_parts (nat_lt (string_number program n) (length code.objects)) (nat_le (length bytes) 4194304) all).1)
  by (TExpr-F.Object node n) all = object_stands code program table node n (ltb-true n (length code.objects) all)
  by (TExpr-F.Variable node n) all = variable_stands code program table vs node n
  by (TExpr-F.Index node a b) all = index_stands code program table node (made a.0) (made b.0) (a.1 (and_parts (named a.0) (named b.0) all).0) (b.1 (and_parts (named a.0) (named b.0) all).1)
  by (TExpr-F.Call node f args) all =
      call_stands code program table node f _ (ltb-true f (length code.funcs) (and_parts (nat_lt f (length code.funcs)) _ all).0) (all_stand args (λ e. e.0) (λ e. e.1) (and_parts (nat_lt f (length code.funcs)) _ all).1)
  by (TExpr-F.Getchar node) all = getchar_stands code program table node
  by (TExpr-F.Putchar node a) all = putchar_stands code program table node (made a.0) (a.1 all)
  by (TExpr-F.Puts node a) all = puts_stands code program table node (made a.0) (a.1 all)
  by (TExpr-F.Printf node format args) all =
      printf_stands code program table node format _ (and_parts _ (all_named (map named (map (λ (e : (e : TExpr) × Right e). e.0) args))) all).0 (all_stand args (λ e. e.0) (λ e. e.1) (and_parts _ (all_named (map named (map (λ (e : (e : TExpr) × Right e). e.0) args))) all).1)
  by (TExpr-F.Post node change a) all = post_stands code program table node change (made a.0) (a.1 all)
  by (TExpr-F.Pre node change a) all = pre_stands code program table node change (made a.0) (a.1 all)
  by (TExpr-F.Address node a) all = address_stands code program table node (made a.0) (a.1 all)
  by (TExpr-F.Deref node a) all = deref_stands code program table node (made a.0) (a.1 all)
  by (TExpr-F.Plus node a) all = plus_stands code program table node (made a.0) (a.1 all)
  by (TExpr-F.Unary node op kind a) all = unary_stands code program table node op kind (made a.0) (a.1 all)
  by (TExpr-F.Convert node a) all = convert_stands code program table node (made a.0) (a.1 all)
  by (TExpr-F.Cast node a) all = cast_stands code program table node (made a.0) (a.1 all)
  by (TExpr-F.Binary node op kind a b) all = binary_stands code program table node op kind (made a.0) (made b.0) (a.1 (and_parts (named a.0) (named b.0) all).0) (b.1 (and_parts (named a.0) (named b.0) all).1)
  by (TExpr-F.Both node a b) all = both_stands code program table node (made a.0) (made b.0) (a.1 (and_parts (named a.0) (named b.0) all).0) (b.1 (and_parts (named a.0) (named b.0) all).1)
  by (TExpr-F.Either node a b) all = either_stands code program table node (made a.0) (made b.0) (a.1 (and_parts (named a.0) (named b.0) all).0) (b.1 (and_parts (named a.0) (named b.0) all).1)
  by (TExpr-F.Forward node a b) all = forward_stands code program table node (made a.0) (made b.0) (a.1 (and_parts (named a.0) (named b.0) all).0) (b.1 (and_parts (named a.0) (named b.0) all).1)
  by (TExpr-F.Onto node a b) all = onto_stands code program table node (made a.0) (made b.0) (a.1 (and_parts (named a.0) (named b.0) all).0) (b.1 (and_parts (named a.0) (named b.0) all).1)
  by (TExpr-F.Back node a b) all = back_stands code program table node (made a.0) (made b.0) (a.1 (and_parts (named a.0) (named b.0) all).0) (b.1 (and_parts (named a.0) (named b.0) all).1)
  by (TExpr-F.PtrCompare node op a b) all = compare_stands code program table node op (made a.0) (made b.0) (a.1 (and_parts (named a.0) (named b.0) all).0) (b.1 (and_parts (named a.0) (named b.0) all).1)
  by (TExpr-F.PtrDistance node a b) all = distance_stands code program table node (made a.0) (made b.0) (a.1 (and_parts (named a.0) (named b.0) all).0) (b.1 (and_parts (named a.0) (named b.0) all).1)
  by (TExpr-F.Cond node a b c) all = cond_stands code program table node (made a.0) (made b.0) (made c.0) (a.1 (and_parts (named a.0) (named b.0 && named c.0) all).0)
      (b.1 (and_parts (named b.0) (named c.0) (and_parts (named a.0) (named b.0 && named c.0) all).1).0) (c.1 (and_parts (named b.0) (named c.0) (and_parts (named a.0) (named b.0 && named c.0) all).1).1)
  by (TExpr-F.Assign node a b) all = assign_stands code program table node (made a.0) (made b.0) (a.1 (and_parts (named a.0) (named b.0) all).0) (b.1 (and_parts (named a.0) (named b.0) all).1)
  by (TExpr-F.AssignBy node change a b) all = assign_by_stands code program table node change (made a.0) (made b.0) (a.1 (and_parts (named a.0) (named b.0) all).0) (b.1 (and_parts (named a.0) (named b.0) all).1)
  by (TExpr-F.Comma node a b) all = comma_stands code program table node (made a.0) (made b.0) (a.1 (and_parts (named a.0) (named b.0) all).0) (b.1 (and_parts (named a.0) (named b.0) all).1)

  -- AN EXPRESSION
  pub expression_stands : (e : TExpr) → expr_named program code e ≡ true → LoweredStands code (lowered program vs e)
  expression_stands =
      ind-TExpr Right
      (λ x y is named_here.
      subst (LoweredStands code) (sym (fold-roll-TExpr Lowered (lower_step program vs) x))
      (subst Layer is (by y) (subst (λ b. b ≡ true) (fold-roll-TExpr Bool (expr_step program code) x) named_here)))
