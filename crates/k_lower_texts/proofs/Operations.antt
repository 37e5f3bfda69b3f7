-- What the rules of operators with two or three operands make passes where their operands do.
use Rattle.std.proofs.Common.{◌≡◌, Option, Some, None, Bool, true, false, ◌&&◌, if◌then◌else◌, refl, ◌∙◌, subst}
use Rattle.std.proofs.lemmas.Bool.{and_from}
use Rattle.k_num.specs.declared.numbers.Bin.{Bin}
use Rattle.k_num.specs.declared.numbers.Bin.TheVariants.{Add, Sub, Shl, Shr, LogAnd, LogOr}
use Rattle.k_num.specs.declared.numbers.Kind.{Kind}
use Rattle.k_num.specs.declared.numbers.Kind.TheVariants.{I32, I64}
use Rattle.k_num.specs.declared.place.Place.{Place}
use Rattle.k_num.specs.Kind.{promoted, common_kind}
use Rattle.k_tree.specs.declared.tokens.mark.Mark.{Mark}
use Rattle.k_tree.specs.Operators.{operator_of, compound_operator_of}
use Rattle.k_types_meaning.specs.declared.fault.TypeFault.TheVariants as fault
use Rattle.k_types_meaning.specs.declared.types.CType.TheVariants as ctype
use Rattle.k_types_meaning.specs.declared.types.Element.{Element}
use Rattle.k_types_meaning.specs.declared.types.TType.{TType}
use Rattle.k_types_meaning.specs.declared.types.TType.TheVariants as ttype
use Rattle.k_types_meaning.specs.declared.tree.expression.Change.{Change}
use Rattle.k_types_meaning.specs.declared.tree.expression.Change.TheVariants as change
use Rattle.k_types_meaning.specs.declared.tree.expression.TExpr.{TExpr}
use Rattle.k_types_meaning.specs.declared.tree.expression.TExpr.TheVariants as typed
use Rattle.k_types_meaning.specs.Conversions.{Typed, at, in_kind, number_in_kind, passed}
use Rattle.k_types_meaning.specs.Made.{Fine, refused}
use Rattle.k_types_meaning.specs.Operands.{value, number}
use Rattle.k_types_meaning.specs.Operators.{Operand, Nothing, ANumber, APointer, compares, taken_in, taken_in_three, shift_of, common_of, on_numbers, pointer_and_number, number_and_pointer, equal_pointers, two_pointers, operand, operated, operated_by, binary_rule, arms, cond_of_kind, cond_rule, assigned, change_kind, right_kind, changed, moved, changed_by, assign_by, assign_rule, comma_rule}
use Rattle.k_types_meaning.specs.Types.{decayed, same_element, equal_element, number_kind, told, pointer_to}
use Rattle.k_types_meaning.proofs.Fine.{IfFine, IfThere}
use Rattle.k_types_meaning.proofs.Folds.{typed_Binary, typed_Both, typed_Either, typed_Forward, typed_Onto, typed_Back, typed_PtrCompare, typed_PtrDistance, typed_Cond, typed_Assign, typed_AssignBy, typed_Comma}
use Rattle.k_lower_texts.specs.Laws.{NumbersFollow}
use Rattle.k_lower_texts.specs.Passing.{Asks, expr_step, expr_passes}
use Rattle.k_lower_texts.proofs.Conversions.{Passes, both_pass, in_its_kind, is_passed, number_in_its_kind}
use Rattle.k_lower_texts.proofs.Operands.{G, written_passes}
use Rattle.k_lower_texts.proofs.Small.{AreSmall, SmallOperand, decayed_small, operand_small}

module _ (asks : Asks) (numbers : NumbersFollow asks) where
  -- OPERATIONS ON NUMBERS
  binary_is : (p : Place) (op : Bin) (result wide : Kind) (a b : TExpr) → Passes asks a → Passes asks b → Passes asks (typed.Binary (at p (ttype.Number result)) op wide a b)
  binary_is p op result wide a b h k = typed_Binary Bool (expr_step asks) (at p (ttype.Number result)) op wide a b ∙ both_pass asks a b h k

  module _ (p : Place) (x y : Typed) (h : G asks x) (k : G asks y) where
    common_passes : (op : Bin) (i j : Kind) → G asks (common_of p op (if compares op then I32 else common_kind i j) (common_kind i j) i j x y)
    common_passes op i j = (
      binary_is p op (if compares op then I32 else common_kind i j) (common_kind i j) (in_kind i (common_kind i j) x.tree) (in_kind j (common_kind i j) y.tree)
          (in_its_kind asks numbers i (common_kind i j) x.tree h.0) (in_its_kind asks numbers j (common_kind i j) y.tree k.0),
      tt,
    )

    shift_passes : (op : Bin) (i j : Kind) → G asks (shift_of p op i j x y)
    shift_passes op i j = (
      binary_is p op (promoted i) (promoted i) (in_kind i (promoted i) x.tree) (in_kind j (promoted j) y.tree)
          (in_its_kind asks numbers i (promoted i) x.tree h.0) (in_its_kind asks numbers j (promoted j) y.tree k.0),
      tt,
    )

    numbers_pass : (op : Bin) (i j : Kind) → G asks (on_numbers p op i j x y)
    numbers_pass LogAnd i j = (typed_Both Bool (expr_step asks) (at p (ttype.Number I32)) x.tree y.tree ∙ both_pass asks x.tree y.tree h.0 k.0, tt)
    numbers_pass LogOr i j = (typed_Either Bool (expr_step asks) (at p (ttype.Number I32)) x.tree y.tree ∙ both_pass asks x.tree y.tree h.0 k.0, tt)
    numbers_pass Shl i j = shift_passes Shl i j
    numbers_pass Shr i j = shift_passes Shr i j
    numbers_pass op i j = common_passes op i j

    -- OPERATIONS ON POINTERS
    pointer_number_passes : (op : Bin) (e : Element) → AreSmall e.dims → IfFine (G asks) (pointer_and_number p op e x y)
    pointer_number_passes Add e small = (typed_Forward Bool (expr_step asks) (at p (pointer_to e)) x.tree y.tree ∙ both_pass asks x.tree y.tree h.0 k.0, small)
    pointer_number_passes Sub e small = (typed_Back Bool (expr_step asks) (at p (pointer_to e)) x.tree y.tree ∙ both_pass asks x.tree y.tree h.0 k.0, small)
    pointer_number_passes _ e small = tt

    number_pointer_passes : (op : Bin) (e : Element) → AreSmall e.dims → IfFine (G asks) (number_and_pointer p op e x y)
    number_pointer_passes Add e small = (typed_Onto Bool (expr_step asks) (at p (pointer_to e)) x.tree y.tree ∙ both_pass asks x.tree y.tree h.0 k.0, small)
    number_pointer_passes _ e small = tt

    compare_passes : (op : Bin) (compared : Bool)
        → IfFine (G asks) (if compared then Fine (number I32 (typed.PtrCompare (at p (ttype.Number I32)) op x.tree y.tree) (taken_in x y)) else refused (fault.Kinds p))
    compare_passes op true = (typed_PtrCompare Bool (expr_step asks) (at p (ttype.Number I32)) op x.tree y.tree ∙ both_pass asks x.tree y.tree h.0 k.0, tt)
    compare_passes op false = tt

    equal_pointers_pass : (op : Bin) → IfFine (G asks) (equal_pointers p op x y)
    equal_pointers_pass Sub = (typed_PtrDistance Bool (expr_step asks) (at p (ttype.Number I64)) x.tree y.tree ∙ both_pass asks x.tree y.tree h.0 k.0, tt)
    equal_pointers_pass op = compare_passes op (compares op)

    two_pointers_pass : (op : Bin) (d e : Element) → IfFine (G asks) (two_pointers p op d e x y)
    two_pointers_pass op d e = by (same_element d e)
      where
        by : (same : Bool) → IfFine (G asks) (if same then equal_pointers p op x y else refused (fault.Kinds p))
        by true = equal_pointers_pass op
        by false = tt

    operated_passes : (op : Bin) (l r : Operand) → SmallOperand l → SmallOperand r → IfFine (G asks) (operated p op l r x y)
    operated_passes op (ANumber i) (ANumber j) a b = numbers_pass op i j
    operated_passes op (APointer d) (ANumber j) a b = pointer_number_passes op d a
    operated_passes op (ANumber i) (APointer e) a b = number_pointer_passes op e b
    operated_passes op (APointer d) (APointer e) a b = two_pointers_pass op d e
    operated_passes op Nothing r a b = tt
    operated_passes op (ANumber i) Nothing a b = tt
    operated_passes op (APointer d) Nothing a b = tt

    by_operator : (o : Option Bin) → IfFine (G asks) (operated_by p o x y)
    by_operator None = tt
    by_operator (Some op) = operated_passes op (operand x.of) (operand y.of) (operand_small x.of h.1) (operand_small y.of k.1)

  pub binary_passes : (p : Place) (op : Mark) (x y : Typed) → G asks x → G asks y → IfFine (G asks) (binary_rule p op x y)
  unfolding binary_rule
  binary_passes p op x y h k = by_operator p x y h k (operator_of op)

  -- `?:`
  cond_is : (p : Place) (of : TType) (t a b : TExpr) → Passes asks t → Passes asks a → Passes asks b → Passes asks (typed.Cond (at p of) t a b)
  cond_is p of t a b h k j =
      typed_Cond Bool (expr_step asks) (at p of) t a b ∙ and_from (expr_passes asks t) (expr_passes asks a && expr_passes asks b) h (both_pass asks a b k j)

  module _ (p : Place) (t x y : Typed) (g : G asks t) (h : G asks x) (k : G asks y) where
    arms_pass : (a b : Operand) → SmallOperand a → IfFine (G asks) (arms p a b t x y)
    arms_pass (ANumber i) (ANumber j) s = (
      cond_is p (ttype.Number (common_kind i j)) t.tree (in_kind i (common_kind i j) x.tree) (in_kind j (common_kind i j) y.tree) g.0
          (in_its_kind asks numbers i (common_kind i j) x.tree h.0) (in_its_kind asks numbers j (common_kind i j) y.tree k.0),
      tt,
    )
    arms_pass (APointer d) (APointer e) s = by (equal_element d e)
      where
        by : (same : Bool) → IfFine (G asks) (if same then Fine (value (ctype.Pointer d) (typed.Cond (at p (pointer_to d)) t.tree x.tree y.tree) (taken_in_three t x y)) else refused (fault.Kinds p))
        by true = (cond_is p (pointer_to d) t.tree x.tree y.tree g.0 h.0 k.0, s)
        by false = tt
    arms_pass Nothing Nothing s = (cond_is p ttype.Void t.tree x.tree y.tree g.0 h.0 k.0, tt)
    arms_pass Nothing (ANumber j) s = tt
    arms_pass Nothing (APointer e) s = tt
    arms_pass (ANumber i) Nothing s = tt
    arms_pass (ANumber i) (APointer e) s = tt
    arms_pass (APointer d) Nothing s = tt
    arms_pass (APointer d) (ANumber j) s = tt

    tested_passes : (kind : Option Kind) → IfFine (G asks) (cond_of_kind p kind t x y)
    tested_passes None = tt
    tested_passes (Some kind) = arms_pass (operand x.of) (operand y.of) (operand_small x.of h.1)

  pub cond_passes : (p : Place) (t x y : Typed) → G asks t → G asks x → G asks y → IfFine (G asks) (cond_rule p t x y)
  unfolding cond_rule
  cond_passes p t x y g h k = tested_passes p t x y g h k (number_kind t.of)

  -- ASSIGNMENTS
  module _ (p : Place) (x y : Typed) (h : G asks x) (k : G asks y) where
    set_passes : (o : Option TExpr) → passed x.of y ≡ o → IfFine (G asks) (assigned p x y o)
    set_passes None is = tt
    set_passes (Some tree) is =
        written_passes asks numbers p x.place (value (decayed x.of) (typed.Assign (at p (told x.of)) x.tree tree) (taken_in x y))
        (typed_Assign Bool (expr_step asks) (at p (told x.of)) x.tree tree ∙ both_pass asks x.tree tree h.0 (subst (IfThere (Passes asks)) is (is_passed asks numbers x.of y k.0)), decayed_small x.of h.1)

    changed_passes : (by : Change) (tree : TExpr) → Passes asks tree → IfFine (G asks) (changed p x y by tree)
    changed_passes by tree r =
        written_passes asks numbers p x.place (value (decayed x.of) (typed.AssignBy (at p (told x.of)) by x.tree tree) (taken_in x y))
        (typed_AssignBy Bool (expr_step asks) (at p (told x.of)) by x.tree tree ∙ both_pass asks x.tree tree h.0 r, decayed_small x.of h.1)

    moved_passes : (op : Bin) → IfFine (G asks) (moved p op x y)
    moved_passes Add = changed_passes change.Forward y.tree k.0
    moved_passes Sub = changed_passes change.Back y.tree k.0
    moved_passes _ = tt

    changed_by_passes : (op : Bin) (l r : Operand) → IfFine (G asks) (changed_by p op l r x y)
    changed_by_passes op (ANumber i) (ANumber j) =
        changed_passes (change.Number op (change_kind op i j)) (number_in_kind j (right_kind op i j) y.tree) (number_in_its_kind asks numbers j (right_kind op i j) y.tree k.0)
    changed_by_passes op (APointer d) (ANumber j) = moved_passes op
    changed_by_passes op (ANumber i) (APointer e) = tt
    changed_by_passes op (APointer d) (APointer e) = tt
    changed_by_passes op Nothing r = tt
    changed_by_passes op (ANumber i) Nothing = tt
    changed_by_passes op (APointer d) Nothing = tt

    assign_by_passes : (o : Option Bin) → IfFine (G asks) (assign_by p o x y)
    assign_by_passes None = set_passes (passed x.of y) refl
    assign_by_passes (Some op) = changed_by_passes op (operand x.of) (operand y.of)

  pub assign_passes : (p : Place) (op : Mark) (x y : Typed) → G asks x → G asks y → IfFine (G asks) (assign_rule p op x y)
  unfolding assign_rule
  assign_passes p op x y h k = assign_by_passes p x y h k (compound_operator_of op)

  -- THE COMMA
  pub comma_passes : (p : Place) (x y : Typed) → G asks x → G asks y → IfFine (G asks) (comma_rule p x y)
  unfolding comma_rule
  comma_passes p x y h k = (typed_Comma Bool (expr_step asks) (at p (told y.of)) x.tree y.tree ∙ both_pass asks x.tree y.tree h.0 k.0, decayed_small y.of k.1)
