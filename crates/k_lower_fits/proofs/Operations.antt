-- What the rules of operators with two or three operands make is good where their operands are.
use Rattle.std.proofs.Common.{◌≡◌, ℕ, ◌+◌, Option, Some, None, Bool, true, false, ◌&&◌, if◌then◌else◌, refl, sym, ◌∙◌, ap, subst, arith}
use Rattle.std.specs.Prelude.{◌||◌, not}
use Rattle.std.proofs.lemmas.Bool.{and_from}
use Rattle.k_num.specs.declared.numbers.Bin.{Bin}
use Rattle.k_num.specs.declared.numbers.Bin.TheVariants.{Add, Sub, Shl, Shr, LogAnd, LogOr}
use Rattle.k_num.specs.declared.numbers.Kind.{Kind}
use Rattle.k_num.specs.declared.numbers.Kind.TheVariants.{I32, I64}
use Rattle.k_num.specs.declared.place.Place.{Place}
use Rattle.k_num.specs.Kind.{promoted, common_kind}
use Rattle.k_tree.specs.declared.tokens.mark.Mark.{Mark}
use Rattle.k_tree.specs.Operators.{operator_of, compound_operator_of}
use Rattle.k_types_meaning.specs.declared.fault.TypeFault.TheVariants as fault
use Rattle.k_types_meaning.specs.declared.types.CType.{CType}
use Rattle.k_types_meaning.specs.declared.types.CType.TheVariants as ctype
use Rattle.k_types_meaning.specs.declared.types.Element.{Element}
use Rattle.k_types_meaning.specs.declared.types.TType.TheVariants as ttype
use Rattle.k_types_meaning.specs.declared.tree.expression.Change.{Change}
use Rattle.k_types_meaning.specs.declared.tree.expression.Change.TheVariants as change
use Rattle.k_types_meaning.specs.declared.tree.expression.Node.{Node}
use Rattle.k_types_meaning.specs.declared.tree.expression.TExpr.{TExpr}
use Rattle.k_types_meaning.specs.declared.tree.expression.TExpr.TheVariants as typed
use Rattle.k_types_meaning.specs.Conversions.{Typed, at, in_kind, number_in_kind, passed}
use Rattle.k_types_meaning.specs.Made.{Fine, refused}
use Rattle.k_types_meaning.specs.Operands.{value, number}
use Rattle.k_types_meaning.specs.Operators.{Operand, Nothing, ANumber, APointer, compares, taken_in, taken_in_three, shift_of, common_of, on_numbers, pointer_and_number, number_and_pointer, equal_pointers, two_pointers, operand, operated, operated_by, binary_rule, arms, cond_of_kind, cond_rule, assigned, change_kind, right_kind, changed, moved, changed_by, assign_by, assign_rule, comma_rule}
use Rattle.k_types_meaning.specs.Types.{decayed, same_element, equal_element, number_kind, told, pointer_to}
use Rattle.k_types_meaning.proofs.Fine.{IfFine}
use Rattle.k_types_meaning.proofs.Folds.{typed_Binary, typed_Both, typed_Either, typed_Forward, typed_Onto, typed_Back, typed_PtrCompare, typed_PtrDistance, typed_Cond, typed_Assign, typed_AssignBy, typed_Comma}
use Rattle.k_lower_fits.specs.Costs.{Cost, expression, above, then_, expr_cost, expr_cost_step}
use Rattle.k_lower_fits.specs.Fits.{Limits, Use, expr_fits, expr_step, has_values}
use Rattle.k_lower_fits.proofs.Operands.{written_good}
use Rattle.k_lower_fits.proofs.Ready.{HasValues, May, number_has_values, Pays, PaysMore, pays_one, pays_less, pays_above, pays_then, Ready, IfReady, Good, ready, unused, good_by, regrouped, of_two, two_change, in_its_kind, kind_any_use, any_use, number_in_its_kind, is_passed}

-- an operand that is something has values
operand_has_values : (of : CType) (o : Operand) → operand of ≡ o → (o ≡ Nothing → ⊥) → HasValues of
operand_has_values ctype.Void o is some = absurd (some (sym is))
operand_has_values (ctype.Number kind) o is some = refl
operand_has_values (ctype.Pointer e) o is some = refl
operand_has_values (ctype.Array n e) o is some = refl

a_number : (of : CType) (k : Kind) → operand of ≡ ANumber k → HasValues of
a_number of k is = operand_has_values of (ANumber k) is (λ same. cc)

a_pointer : (of : CType) (e : Element) → operand of ≡ APointer e → HasValues of
a_pointer of e is = operand_has_values of (APointer e) is (λ same. cc)

-- what an array gives has values as the array does
decayed_values : (of : CType) → has_values (told (decayed of)) ≡ has_values (told of)
decayed_values ctype.Void = refl
decayed_values (ctype.Number kind) = refl
decayed_values (ctype.Pointer e) = refl
decayed_values (ctype.Array n e) = refl

module _ (limits : Limits) where
  abbrev R : ℕ → TExpr → Type 0
  R n e = Ready limits n e

  -- OPERATIONS ON NUMBERS
  binary_is : (p : Place) (op : Bin) (result wide : Kind) (m n : ℕ) (x y : Typed) (a b : TExpr) → R m a → R n b
      → Good limits (1 + m + n) (number result (typed.Binary (at p (ttype.Number result)) op wide a b) (taken_in x y))
  binary_is p op result wide m n x y a b h k =
      of_two limits m n (number result (typed.Binary (at p (ttype.Number result)) op wide a b) (taken_in x y)) a b
      (typed_Binary Use (expr_step limits) (at p (ttype.Number result)) op wide a b) (typed_Binary Cost expr_cost_step (at p (ttype.Number result)) op wide a b) h k

  module _ (p : Place) (m n : ℕ) (x y : Typed) (h : Good limits m x) (k : Good limits n y) where
    common_good : (op : Bin) (i j : Kind) → HasValues x.of → HasValues y.of
        → Good limits (1 + m + n) (common_of p op (if compares op then I32 else common_kind i j) (common_kind i j) i j x y)
    common_good op i j has also =
        binary_is p op (if compares op then I32 else common_kind i j) (common_kind i j) m n x y (in_kind i (common_kind i j) x.tree) (in_kind j (common_kind i j) y.tree)
        (in_its_kind limits m i (common_kind i j) x has h) (in_its_kind limits n j (common_kind i j) y also k)

    shift_good : (op : Bin) (i j : Kind) → HasValues x.of → HasValues y.of → Good limits (1 + m + n) (shift_of p op i j x y)
    shift_good op i j has also =
        binary_is p op (promoted i) (promoted i) m n x y (in_kind i (promoted i) x.tree) (in_kind j (promoted j) y.tree)
        (in_its_kind limits m i (promoted i) x has h) (in_its_kind limits n j (promoted j) y also k)

    numbers_good : (op : Bin) (i j : Kind) → HasValues x.of → HasValues y.of → Good limits (1 + m + n) (on_numbers p op i j x y)
    numbers_good LogAnd i j has also =
        of_two limits m n (number I32 (typed.Both (at p (ttype.Number I32)) x.tree y.tree) (taken_in x y)) x.tree y.tree
        (typed_Both Use (expr_step limits) (at p (ttype.Number I32)) x.tree y.tree) (typed_Both Cost expr_cost_step (at p (ttype.Number I32)) x.tree y.tree)
        (ready limits m x has h) (ready limits n y also k)
    numbers_good LogOr i j has also =
        of_two limits m n (number I32 (typed.Either (at p (ttype.Number I32)) x.tree y.tree) (taken_in x y)) x.tree y.tree
        (typed_Either Use (expr_step limits) (at p (ttype.Number I32)) x.tree y.tree) (typed_Either Cost expr_cost_step (at p (ttype.Number I32)) x.tree y.tree)
        (ready limits m x has h) (ready limits n y also k)
    numbers_good Shl i j has also = shift_good Shl i j has also
    numbers_good Shr i j has also = shift_good Shr i j has also
    numbers_good op i j has also = common_good op i j has also

    -- OPERATIONS ON POINTERS
    pointer_number_good : (op : Bin) (e : Element) → HasValues x.of → HasValues y.of → IfFine (Good limits (1 + m + n)) (pointer_and_number p op e x y)
    pointer_number_good Add e has also =
        of_two limits m n (value (ctype.Pointer e) (typed.Forward (at p (pointer_to e)) x.tree y.tree) (taken_in x y)) x.tree y.tree
        (typed_Forward Use (expr_step limits) (at p (pointer_to e)) x.tree y.tree) (typed_Forward Cost expr_cost_step (at p (pointer_to e)) x.tree y.tree)
        (ready limits m x has h) (ready limits n y also k)
    pointer_number_good Sub e has also =
        of_two limits m n (value (ctype.Pointer e) (typed.Back (at p (pointer_to e)) x.tree y.tree) (taken_in x y)) x.tree y.tree
        (typed_Back Use (expr_step limits) (at p (pointer_to e)) x.tree y.tree) (typed_Back Cost expr_cost_step (at p (pointer_to e)) x.tree y.tree)
        (ready limits m x has h) (ready limits n y also k)
    pointer_number_good _ e has also = tt

    number_pointer_good : (op : Bin) (e : Element) → HasValues x.of → HasValues y.of → IfFine (Good limits (1 + m + n)) (number_and_pointer p op e x y)
    number_pointer_good Add e has also =
        of_two limits m n (value (ctype.Pointer e) (typed.Onto (at p (pointer_to e)) x.tree y.tree) (taken_in x y)) x.tree y.tree
        (typed_Onto Use (expr_step limits) (at p (pointer_to e)) x.tree y.tree) (typed_Onto Cost expr_cost_step (at p (pointer_to e)) x.tree y.tree)
        (ready limits m x has h) (ready limits n y also k)
    number_pointer_good _ e has also = tt

    compare_good : (op : Bin) (compared : Bool) → HasValues x.of → HasValues y.of
        → IfFine (Good limits (1 + m + n)) (if compared then Fine (number I32 (typed.PtrCompare (at p (ttype.Number I32)) op x.tree y.tree) (taken_in x y)) else refused (fault.Kinds p))
    compare_good op true has also =
        of_two limits m n (number I32 (typed.PtrCompare (at p (ttype.Number I32)) op x.tree y.tree) (taken_in x y)) x.tree y.tree
        (typed_PtrCompare Use (expr_step limits) (at p (ttype.Number I32)) op x.tree y.tree) (typed_PtrCompare Cost expr_cost_step (at p (ttype.Number I32)) op x.tree y.tree)
        (ready limits m x has h) (ready limits n y also k)
    compare_good op false has also = tt

    equal_pointers_good : (op : Bin) → HasValues x.of → HasValues y.of → IfFine (Good limits (1 + m + n)) (equal_pointers p op x y)
    equal_pointers_good Sub has also =
        of_two limits m n (number I64 (typed.PtrDistance (at p (ttype.Number I64)) x.tree y.tree) (taken_in x y)) x.tree y.tree
        (typed_PtrDistance Use (expr_step limits) (at p (ttype.Number I64)) x.tree y.tree) (typed_PtrDistance Cost expr_cost_step (at p (ttype.Number I64)) x.tree y.tree)
        (ready limits m x has h) (ready limits n y also k)
    equal_pointers_good op has also = compare_good op (compares op) has also

    two_pointers_good : (op : Bin) (d e : Element) → HasValues x.of → HasValues y.of → IfFine (Good limits (1 + m + n)) (two_pointers p op d e x y)
    two_pointers_good op d e has also = by (same_element d e)
      where
        by : (same : Bool) → IfFine (Good limits (1 + m + n)) (if same then equal_pointers p op x y else refused (fault.Kinds p))
        by true = equal_pointers_good op has also
        by false = tt

    operated_good : (op : Bin) (l r : Operand) → operand x.of ≡ l → operand y.of ≡ r → IfFine (Good limits (1 + m + n)) (operated p op l r x y)
    operated_good op (ANumber i) (ANumber j) a b = numbers_good op i j (a_number x.of i a) (a_number y.of j b)
    operated_good op (APointer d) (ANumber j) a b = pointer_number_good op d (a_pointer x.of d a) (a_number y.of j b)
    operated_good op (ANumber i) (APointer e) a b = number_pointer_good op e (a_number x.of i a) (a_pointer y.of e b)
    operated_good op (APointer d) (APointer e) a b = two_pointers_good op d e (a_pointer x.of d a) (a_pointer y.of e b)
    operated_good op Nothing r a b = tt
    operated_good op (ANumber i) Nothing a b = tt
    operated_good op (APointer d) Nothing a b = tt

    by_operator : (o : Option Bin) → IfFine (Good limits (1 + m + n)) (operated_by p o x y)
    by_operator None = tt
    by_operator (Some op) = operated_good op (operand x.of) (operand y.of) refl refl

  pub binary_good : (p : Place) (op : Mark) (m n : ℕ) (x y : Typed) → Good limits m x → Good limits n y → IfFine (Good limits (1 + m + n)) (binary_rule p op x y)
  unfolding binary_rule
  binary_good p op m n x y h k = by_operator p m n x y h k (operator_of op)

  -- `?:`
  pays_arms : (l m n : ℕ) (a b c : Cost) → Pays l a → Pays m b → Pays n c → PaysMore (1 + l + m + n) (expression (then_ a (then_ b c)))
  pays_arms l m n a b c h k j =
      subst (λ (i : ℕ). PaysMore i (expression (then_ a (then_ b c)))) (let e : 1 + (l + (m + n)) ≡ 1 + l + m + n = omega arith in e)
      (pays_one (l + (m + n)) (then_ a (then_ b c)) (pays_then l (m + n) a (then_ b c) h (pays_then m n b c k j)))

  -- whose arms fit as its value is used
  cond_is : (l m n : ℕ) (v : Typed) (node : Node) (t a b : TExpr) → v.tree ≡ typed.Cond node t a b → R l t → Pays m (expr_cost a) → Pays n (expr_cost b)
      → ((used : Bool) → May v.of used → (expr_fits limits a used ≡ true) × (expr_fits limits b used ≡ true)) → Good limits (1 + l + m + n) v
  cond_is l m n v node t a b is h k j each =
      good_by limits (1 + l + m + n) v (λ used. expr_fits limits t true && (expr_fits limits a used && expr_fits limits b used)) (expression (then_ (expr_cost t) (then_ (expr_cost a) (expr_cost b))))
      (ap (expr_fits limits) is ∙ typed_Cond Use (expr_step limits) node t a b) (ap expr_cost is ∙ typed_Cond Cost expr_cost_step node t a b)
      (λ used may. and_from (expr_fits limits t true) (expr_fits limits a used && expr_fits limits b used) h.fits (and_from (expr_fits limits a used) (expr_fits limits b used) (each used may).0 (each used may).1))
      (pays_arms l m n (expr_cost t) (expr_cost a) (expr_cost b) h.pays k j)

  module _ (p : Place) (l m n : ℕ) (t x y : Typed) (g : Good limits l t) (h : Good limits m x) (k : Good limits n y) where
    arms_good : (a b : Operand) → operand x.of ≡ a → operand y.of ≡ b → HasValues t.of
        → IfFine (Good limits (1 + l + m + n)) (arms p a b t x y)
    arms_good (ANumber i) (ANumber j) a b has =
        let to : Kind = common_kind i j in
        cond_is l m n (number to (typed.Cond (at p (ttype.Number to)) t.tree (in_kind i to x.tree) (in_kind j to y.tree)) (taken_in_three t x y)) (at p (ttype.Number to))
        t.tree (in_kind i to x.tree) (in_kind j to y.tree) refl (ready limits l t has g)
        (in_its_kind limits m i to x (a_number x.of i a) h).pays (in_its_kind limits n j to y (a_number y.of j b) k).pays
        (λ used may. (kind_any_use limits m i to x (a_number x.of i a) h used, kind_any_use limits n j to y (a_number y.of j b) k used))
    arms_good (APointer d) (APointer e) a b has = by (equal_element d e)
      where
        by : (same : Bool) → IfFine (Good limits (1 + l + m + n)) (if same then Fine (value (ctype.Pointer d) (typed.Cond (at p (pointer_to d)) t.tree x.tree y.tree) (taken_in_three t x y)) else refused (fault.Kinds p))
        by true =
            cond_is l m n (value (ctype.Pointer d) (typed.Cond (at p (pointer_to d)) t.tree x.tree y.tree) (taken_in_three t x y)) (at p (pointer_to d)) t.tree x.tree y.tree refl (ready limits l t has g)
            (pays_less m (expr_cost x.tree) h.pays) (pays_less n (expr_cost y.tree) k.pays)
            (λ used may. (any_use limits m x (a_pointer x.of d a) h used, any_use limits n y (a_pointer y.of e b) k used))
        by false = tt
    arms_good Nothing Nothing a b has =
        cond_is l m n (value ctype.Void (typed.Cond (at p ttype.Void) t.tree x.tree y.tree) (taken_in_three t x y)) (at p ttype.Void) t.tree x.tree y.tree refl (ready limits l t has g)
        (pays_less m (expr_cost x.tree) h.pays) (pays_less n (expr_cost y.tree) k.pays) nothing
      where
        nothing : (used : Bool) → May ctype.Void used → (expr_fits limits x.tree used ≡ true) × (expr_fits limits y.tree used ≡ true)
        nothing true may = absurd cc
        nothing false may = (unused limits m x h, unused limits n y k)
    arms_good Nothing (ANumber j) a b has = tt
    arms_good Nothing (APointer e) a b has = tt
    arms_good (ANumber i) Nothing a b has = tt
    arms_good (ANumber i) (APointer e) a b has = tt
    arms_good (APointer d) Nothing a b has = tt
    arms_good (APointer d) (ANumber j) a b has = tt

    tested_good : (kind : Option Kind) → number_kind t.of ≡ kind
        → IfFine (Good limits (1 + l + m + n)) (cond_of_kind p kind t x y)
    tested_good None is = tt
    tested_good (Some kind) is = arms_good (operand x.of) (operand y.of) refl refl (number_has_values t.of kind is)

  pub cond_good : (p : Place) (l m n : ℕ) (t x y : Typed) → Good limits l t → Good limits m x → Good limits n y → IfFine (Good limits (1 + l + m + n)) (cond_rule p t x y)
  unfolding cond_rule
  cond_good p l m n t x y g h k = tested_good p l m n t x y g h k (number_kind t.of) refl

  -- ASSIGNMENTS
  -- what a value is passed to has values
  pub passed_to : (to : CType) (v : Typed) (tree : TExpr) → passed to v ≡ Some tree → HasValues to
  unfolding passed
  passed_to ctype.Void v tree is = absurd cc
  passed_to (ctype.Number kind) v tree is = refl
  passed_to (ctype.Pointer e) v tree is = refl
  passed_to (ctype.Array n e) v tree is = refl

  module _ (p : Place) (m n : ℕ) (x y : Typed) (h : Good limits m x) (k : Good limits n y) where
    set_good : (o : Option TExpr) → passed x.of y ≡ o → IfFine (Good limits (1 + m + n)) (assigned p x y o)
    set_good None is = tt
    set_good (Some tree) is =
        written_good limits p (1 + m + n) x.place (value (decayed x.of) (typed.Assign (at p (told x.of)) x.tree tree) (taken_in x y))
        (of_two limits m n (value (decayed x.of) (typed.Assign (at p (told x.of)) x.tree tree) (taken_in x y)) x.tree tree
        (typed_Assign Use (expr_step limits) (at p (told x.of)) x.tree tree) (typed_Assign Cost expr_cost_step (at p (told x.of)) x.tree tree)
        (ready limits m x (passed_to x.of y tree is) h) (subst (IfReady limits n) is (is_passed limits n x.of y k)))

    changed_good : (by : Change) (tree : TExpr) → HasValues x.of → R n tree → IfFine (Good limits (1 + m + n)) (changed p x y by tree)
    changed_good by tree has r =
        written_good limits p (1 + m + n) x.place (value (decayed x.of) (typed.AssignBy (at p (told x.of)) by x.tree tree) (taken_in x y))
        (two_change limits m n (value (decayed x.of) (typed.AssignBy (at p (told x.of)) by x.tree tree) (taken_in x y)) x.tree tree
        (typed_AssignBy Use (expr_step limits) (at p (told x.of)) by x.tree tree) (typed_AssignBy Cost expr_cost_step (at p (told x.of)) by x.tree tree)
        (ready limits m x has h) r)

    moved_good : (op : Bin) → HasValues x.of → HasValues y.of → IfFine (Good limits (1 + m + n)) (moved p op x y)
    moved_good Add has also = changed_good change.Forward y.tree has (ready limits n y also k)
    moved_good Sub has also = changed_good change.Back y.tree has (ready limits n y also k)
    moved_good _ has also = tt

    changed_by_good : (op : Bin) (l r : Operand) → operand x.of ≡ l → operand y.of ≡ r → IfFine (Good limits (1 + m + n)) (changed_by p op l r x y)
    changed_by_good op (ANumber i) (ANumber j) a b =
        changed_good (change.Number op (change_kind op i j)) (number_in_kind j (right_kind op i j) y.tree) (a_number x.of i a)
        (number_in_its_kind limits n j (right_kind op i j) y (a_number y.of j b) k)
    changed_by_good op (APointer d) (ANumber j) a b = moved_good op (a_pointer x.of d a) (a_number y.of j b)
    changed_by_good op (ANumber i) (APointer e) a b = tt
    changed_by_good op (APointer d) (APointer e) a b = tt
    changed_by_good op Nothing r a b = tt
    changed_by_good op (ANumber i) Nothing a b = tt
    changed_by_good op (APointer d) Nothing a b = tt

    assign_by_good : (o : Option Bin) → IfFine (Good limits (1 + m + n)) (assign_by p o x y)
    assign_by_good None = set_good (passed x.of y) refl
    assign_by_good (Some op) = changed_by_good op (operand x.of) (operand y.of) refl refl

  pub assign_good : (p : Place) (op : Mark) (m n : ℕ) (x y : Typed) → Good limits m x → Good limits n y → IfFine (Good limits (1 + m + n)) (assign_rule p op x y)
  unfolding assign_rule
  assign_good p op m n x y h k = assign_by_good p m n x y h k (compound_operator_of op)

  -- THE COMMA
  pub comma_good : (p : Place) (m n : ℕ) (x y : Typed) → Good limits m x → Good limits n y → IfFine (Good limits (1 + m + n)) (comma_rule p x y)
  unfolding comma_rule
  comma_good p m n x y h k =
      let v : Typed = value (decayed y.of) (typed.Comma (at p (told y.of)) x.tree y.tree) (taken_in x y) in
      regrouped limits m n v
      (good_by limits (1 + (m + n)) v (λ used. expr_fits limits x.tree false && expr_fits limits y.tree used) (expression (above (expr_cost x.tree) (expr_cost y.tree)))
      (typed_Comma Use (expr_step limits) (at p (told y.of)) x.tree y.tree) (typed_Comma Cost expr_cost_step (at p (told y.of)) x.tree y.tree)
      (λ used may. and_from (expr_fits limits x.tree false) (expr_fits limits y.tree used) (unused limits m x h)
      (k.fits used (subst (λ (b : Bool). (not used || b) ≡ true) (decayed_values y.of) may)))
      (pays_one (m + n) (above (expr_cost x.tree) (expr_cost y.tree)) (pays_above m n (expr_cost x.tree) (expr_cost y.tree) (pays_less m (expr_cost x.tree) h.pays) (pays_less n (expr_cost y.tree) k.pays))))
