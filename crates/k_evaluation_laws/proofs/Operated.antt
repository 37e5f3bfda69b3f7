-- What the rules of operators and of calls make fits where their operands do; so does each judged expression.
use Rattle.std.proofs.Common.{◌≡◌, ℕ, List, [], ◌∷◌, map, slice_get, Option, Some, None, Bool, true, false, ◌&&◌, if◌then◌else◌, refl, sym, ◌∙◌, ap, subst}
use Rattle.std.specs.Prelude.{◌==◌}
use Rattle.std.proofs.lemmas.Bool.{and_from, and_parts}
use Rattle.k_num.specs.declared.numbers.Bin.{Bin}
use Rattle.k_num.specs.declared.numbers.Bin.TheVariants.{Add, Sub, Mul, Div, Rem, And, Or, Xor, Shl, Shr, Lt, Le, Gt, Ge, Eq, Ne, LogAnd, LogOr}
use Rattle.k_num.specs.declared.numbers.Kind.{Kind}
use Rattle.k_num.specs.declared.numbers.Kind.TheVariants.{I32, I64}
use Rattle.k_num.specs.declared.place.Place.{Place}
use Rattle.k_num.specs.Kind.{size, promoted, common_kind}
use Rattle.k_tree.specs.declared.tokens.mark.Mark.{Mark}
use Rattle.k_tree.specs.declared.tree.expression.Expr.{Expr}
use Rattle.k_tree.specs.Operators.{operator_of, compound_operator_of}
use Rattle.k_types_meaning.specs.declared.fault.TypeFault.TheVariants as fault
use Rattle.k_types_meaning.specs.declared.names.Library.{Library}
use Rattle.k_types_meaning.specs.declared.names.Library.TheVariants.{Getchar, Putchar, Puts, Printf}
use Rattle.k_types_meaning.specs.declared.names.Meaning.{Meaning}
use Rattle.k_types_meaning.specs.declared.names.Meaning.TheVariants as meaning
use Rattle.k_types_meaning.specs.declared.names.Signature.{Signature}
use Rattle.k_types_meaning.specs.declared.types.CType.{CType}
use Rattle.k_types_meaning.specs.declared.types.CType.TheVariants as ctype
use Rattle.k_types_meaning.specs.declared.types.Element.{Element}
use Rattle.k_types_meaning.specs.declared.types.TType.{TType}
use Rattle.k_types_meaning.specs.declared.types.TType.TheVariants as ttype
use Rattle.k_types_meaning.specs.declared.tree.expression.Change.{Change}
use Rattle.k_types_meaning.specs.declared.tree.expression.Change.TheVariants as change
use Rattle.k_types_meaning.specs.declared.tree.expression.TExpr.{TExpr}
use Rattle.k_types_meaning.specs.declared.tree.expression.TExpr.TheOpen.{TExpr-F}
use Rattle.k_types_meaning.specs.declared.tree.expression.TExpr.TheVariants as typed
use Rattle.k_types_meaning.specs.CallRules.{all_taken, Passing, Passes, WrongKind, WrongCount, passed_before, passing, called_with, function_called, getchar_called, putchar_tree, putchar_called, bytes_in, has_zero, put_line, puts_called, formatted, tree_before, all_formatted, print_trees, print_marks, print_bytes, printf_called, library_called, called, call_rule}
use Rattle.k_types_meaning.specs.Conversions.{Typed, at, in_kind, number_in_kind, passed}
use Rattle.k_types_meaning.specs.Elaborated.{Elab, ElabAll, name, number, character, string, paren, index, call, postfix, prefix, unary, sizeof_expr, sizeof_type, cast, binary, conditional, assignment, comma, no_args, more_args}
use Rattle.k_types_meaning.specs.Formats as formats
use Rattle.k_types_meaning.specs.Formats.{marks_of, pieces_of, kinds_taken}
use Rattle.k_types_meaning.specs.Made.{Made, Fine, refused}
use Rattle.k_types_meaning.specs.Names.{Names, meaning_of}
use Rattle.k_types_meaning.specs.Operands as operands
use Rattle.k_types_meaning.specs.Operands.{name_rule, number_rule, char_rule, string_rule, index_rule, unary_rule, post_rule, pre_rule, sizeof_rule, sizeof_type_rule, cast_rule}
use Rattle.k_types_meaning.specs.Operators as ops
use Rattle.k_types_meaning.specs.Operators.{compares, taken_in, taken_in_three, shift_of, common_of, on_numbers, pointer_and_number, number_and_pointer, equal_pointers, two_pointers, operand, operated, operated_by, binary_rule, arms, cond_of_kind, cond_rule, assigned, change_kind, right_kind, changed, moved, changed_by, assign_by, assign_rule, comma_rule}
use Rattle.k_types_meaning.specs.Types.{decayed, same_kind, same_element, equal_element, number_kind, told, pointer_to}
use Rattle.k_types_meaning.proofs.Fine.{IfFine}
use Rattle.k_types_meaning.proofs.Folds.{typed_Binary, typed_Both, typed_Either, typed_Forward, typed_Onto, typed_Back, typed_PtrCompare, typed_PtrDistance, typed_Cond, typed_Assign, typed_AssignBy, typed_Comma, typed_Call, typed_Getchar, typed_Putchar, typed_Puts, typed_Printf}
use Rattle.k_lower_fits.proofs.Named.{NamesEach, found}
use Rattle.k_evaluation_laws.specs.Kinds.{Sort, NoValue, ANumber, APointer, sort_of}
use Rattle.k_evaluation_laws.proofs.Fits.{Around, Callee, Seen, same, is_nothing, is_number, is_pointer, unused_or, binary_fits, change_fits, call_fits, all_fit, all_same, expr_step, see}
use Rattle.k_evaluation_laws.proofs.Judged.{sort_in, kind_itself, sort_itself, unused_itself, decayed_sort, IsCallee, NameFits, Is, Good, is_by, as_sort, test_of, kind_is, number_kind_fits, as_number, IfIs, is_passed, passed_some, written_good, name_good, number_good, char_good, string_good, index_good, unary_good, post_good, pre_good, sizeof_good, sizeof_type_good, cast_good}

-- what an operand is
number_operand : (of : CType) (k : Kind) → operand of ≡ ops.ANumber k → sort_in of ≡ ANumber k
number_operand ctype.Void k is = absurd (cc is)
number_operand (ctype.Number j) k is = ap ANumber (by is)
  where
    by : ops.ANumber j ≡ ops.ANumber k → j ≡ k
    by same_one = cc same_one
number_operand (ctype.Pointer e) k is = absurd (cc is)
number_operand (ctype.Array n e) k is = absurd (cc is)

pointer_operand : (of : CType) (e : Element) → operand of ≡ ops.APointer e → sort_in of ≡ APointer e.kind
pointer_operand ctype.Void e is = absurd (cc is)
pointer_operand (ctype.Number j) e is = absurd (cc is)
pointer_operand (ctype.Pointer d) e is = ap (λ (x : Element). APointer x.kind) (by is)
  where
    by : ops.APointer d ≡ ops.APointer e → d ≡ e
    by same_one = cc same_one
pointer_operand (ctype.Array n d) e is = ap (λ (x : Element). APointer x.kind) (by is)
  where
    by : ops.APointer d ≡ ops.APointer e → d ≡ e
    by same_one = cc same_one

-- tests give an int, and other operators a number of their kind
common_fits : (op : Bin) (k : Kind) → binary_fits op k (ANumber (if compares op then I32 else k)) ≡ true
common_fits Add k = kind_itself k
common_fits Sub k = kind_itself k
common_fits Mul k = kind_itself k
common_fits Div k = kind_itself k
common_fits Rem k = kind_itself k
common_fits And k = kind_itself k
common_fits Or k = kind_itself k
common_fits Xor k = kind_itself k
common_fits Shl k = kind_itself k
common_fits Shr k = kind_itself k
common_fits Lt k = refl
common_fits Le k = refl
common_fits Gt k = refl
common_fits Ge k = refl
common_fits Eq k = refl
common_fits Ne k = refl
common_fits LogAnd k = refl
common_fits LogOr k = refl

module _ (site : Around) where
  abbrev G : Typed → Type 0
  G v = Good site v

  abbrev S : TExpr → Seen
  S e = see site e

  both_fit : (a b : TExpr) → (S a).fits ≡ true → (S b).fits ≡ true → ((S a).fits && (S b).fits) ≡ true
  both_fit a b h k = and_from (S a).fits (S b).fits h k

  -- OPERATIONS ON NUMBERS
  binary_is : (p : Place) (op : Bin) (result wide : Kind) (a b : TExpr) → binary_fits op wide (ANumber result) ≡ true → (S a).fits ≡ true → (S b).fits ≡ true
      → Is site (ANumber result) (typed.Binary (at p (ttype.Number result)) op wide a b)
  binary_is p op result wide a b fit h k =
      is_by site (ANumber result) (typed.Binary (at p (ttype.Number result)) op wide a b) (expr_step site (TExpr-F.Binary (at p (ttype.Number result)) op wide (S a) (S b)))
      (typed_Binary Seen (expr_step site) (at p (ttype.Number result)) op wide a b) refl (and_from (binary_fits op wide (ANumber result)) ((S a).fits && (S b).fits) fit (both_fit a b h k))

  module _ (p : Place) (x y : Typed) (h : Good site x) (k : Good site y) where
    -- an operand in another kind fits
    in_kind_fits : (from to : Kind) (v : Typed) → sort_in v.of ≡ ANumber from → Good site v → (S (in_kind from to v.tree)).fits ≡ true
    in_kind_fits from to v is good = (kind_is site from to v.tree (as_sort site (sort_in v.of) (ANumber from) v.tree is good)).fits

    common_good : (op : Bin) (i j : Kind) → sort_in x.of ≡ ANumber i → sort_in y.of ≡ ANumber j → G (common_of p op (if compares op then I32 else common_kind i j) (common_kind i j) i j x y)
    common_good op i j is also =
        binary_is p op (if compares op then I32 else common_kind i j) (common_kind i j) (in_kind i (common_kind i j) x.tree) (in_kind j (common_kind i j) y.tree) (common_fits op (common_kind i j))
        (in_kind_fits i (common_kind i j) x is h) (in_kind_fits j (common_kind i j) y also k)

    shift_good : (op : Bin) (i j : Kind) → binary_fits op (promoted i) (ANumber (promoted i)) ≡ true → sort_in x.of ≡ ANumber i → sort_in y.of ≡ ANumber j → G (shift_of p op i j x y)
    shift_good op i j fit is also =
        binary_is p op (promoted i) (promoted i) (in_kind i (promoted i) x.tree) (in_kind j (promoted j) y.tree) fit (in_kind_fits i (promoted i) x is h) (in_kind_fits j (promoted j) y also k)

    numbers_good : (op : Bin) (i j : Kind) → sort_in x.of ≡ ANumber i → sort_in y.of ≡ ANumber j → G (on_numbers p op i j x y)
    numbers_good LogAnd i j is also =
        is_by site (ANumber I32) (typed.Both (at p (ttype.Number I32)) x.tree y.tree) (expr_step site (TExpr-F.Both (at p (ttype.Number I32)) (S x.tree) (S y.tree)))
        (typed_Both Seen (expr_step site) (at p (ttype.Number I32)) x.tree y.tree) refl (both_fit x.tree y.tree h.fits k.fits)
    numbers_good LogOr i j is also =
        is_by site (ANumber I32) (typed.Either (at p (ttype.Number I32)) x.tree y.tree) (expr_step site (TExpr-F.Either (at p (ttype.Number I32)) (S x.tree) (S y.tree)))
        (typed_Either Seen (expr_step site) (at p (ttype.Number I32)) x.tree y.tree) refl (both_fit x.tree y.tree h.fits k.fits)
    numbers_good Shl i j is also = shift_good Shl i j (kind_itself (promoted i)) is also
    numbers_good Shr i j is also = shift_good Shr i j (kind_itself (promoted i)) is also
    numbers_good op i j is also = common_good op i j is also

    -- OPERATIONS ON POINTERS
    moved_fits : (s : Sort) (e a b : TExpr) → is_pointer s ≡ true → is_nothing s ≡ false → Is site s e → (S a).fits ≡ true → (S b).fits ≡ true
        → (same s (S e).of && (is_pointer s && ((S a).fits && (S b).fits))) ≡ true
    moved_fits s e a b is some one first second =
        and_from (same s (S e).of) (is_pointer s && ((S a).fits && (S b).fits)) (test_of site (λ (t : Sort). same s t) s e one (sort_itself s some))
        (and_from (is_pointer s) ((S a).fits && (S b).fits) is (both_fit a b first second))

    pointer_number_good : (op : Bin) (e : Element) → sort_in x.of ≡ APointer e.kind → IfFine (Good site) (pointer_and_number p op e x y)
    pointer_number_good Add e is =
        is_by site (APointer e.kind) (typed.Forward (at p (pointer_to e)) x.tree y.tree) (expr_step site (TExpr-F.Forward (at p (pointer_to e)) (S x.tree) (S y.tree)))
        (typed_Forward Seen (expr_step site) (at p (pointer_to e)) x.tree y.tree) refl
        (moved_fits (APointer e.kind) x.tree x.tree y.tree refl refl (as_sort site (sort_in x.of) (APointer e.kind) x.tree is h) h.fits k.fits)
    pointer_number_good Sub e is =
        is_by site (APointer e.kind) (typed.Back (at p (pointer_to e)) x.tree y.tree) (expr_step site (TExpr-F.Back (at p (pointer_to e)) (S x.tree) (S y.tree)))
        (typed_Back Seen (expr_step site) (at p (pointer_to e)) x.tree y.tree) refl
        (moved_fits (APointer e.kind) x.tree x.tree y.tree refl refl (as_sort site (sort_in x.of) (APointer e.kind) x.tree is h) h.fits k.fits)
    pointer_number_good _ e is = tt

    number_pointer_good : (op : Bin) (e : Element) → sort_in y.of ≡ APointer e.kind → IfFine (Good site) (number_and_pointer p op e x y)
    number_pointer_good Add e is =
        is_by site (APointer e.kind) (typed.Onto (at p (pointer_to e)) x.tree y.tree) (expr_step site (TExpr-F.Onto (at p (pointer_to e)) (S x.tree) (S y.tree)))
        (typed_Onto Seen (expr_step site) (at p (pointer_to e)) x.tree y.tree) refl
        (moved_fits (APointer e.kind) y.tree x.tree y.tree refl refl (as_sort site (sort_in y.of) (APointer e.kind) y.tree is k) h.fits k.fits)
    number_pointer_good _ e is = tt

    compare_good : (op : Bin) (compared : Bool)
        → IfFine (Good site) (if compared then Fine (operands.number I32 (typed.PtrCompare (at p (ttype.Number I32)) op x.tree y.tree) (taken_in x y)) else refused (fault.Kinds p))
    compare_good op true =
        is_by site (ANumber I32) (typed.PtrCompare (at p (ttype.Number I32)) op x.tree y.tree) (expr_step site (TExpr-F.PtrCompare (at p (ttype.Number I32)) op (S x.tree) (S y.tree)))
        (typed_PtrCompare Seen (expr_step site) (at p (ttype.Number I32)) op x.tree y.tree) refl (both_fit x.tree y.tree h.fits k.fits)
    compare_good op false = tt

    equal_pointers_good : (op : Bin) (d e : Element) → sort_in x.of ≡ APointer d.kind → sort_in y.of ≡ APointer e.kind → IfFine (Good site) (equal_pointers p op x y)
    equal_pointers_good Sub d e is also =
        is_by site (ANumber I64) (typed.PtrDistance (at p (ttype.Number I64)) x.tree y.tree) (expr_step site (TExpr-F.PtrDistance (at p (ttype.Number I64)) (S x.tree) (S y.tree)))
        (typed_PtrDistance Seen (expr_step site) (at p (ttype.Number I64)) x.tree y.tree) refl
        (and_from (is_pointer (S x.tree).of && is_pointer (S y.tree).of) ((S x.tree).fits && (S y.tree).fits)
        (and_from (is_pointer (S x.tree).of) (is_pointer (S y.tree).of) (ap is_pointer (h.of ∙ is)) (ap is_pointer (k.of ∙ also))) (both_fit x.tree y.tree h.fits k.fits))
    equal_pointers_good op d e is also = compare_good op (compares op)

    two_pointers_good : (op : Bin) (d e : Element) → sort_in x.of ≡ APointer d.kind → sort_in y.of ≡ APointer e.kind → IfFine (Good site) (two_pointers p op d e x y)
    two_pointers_good op d e is also = by (same_element d e)
      where
        by : (equal : Bool) → IfFine (Good site) (if equal then equal_pointers p op x y else refused (fault.Kinds p))
        by true = equal_pointers_good op d e is also
        by false = tt

    operated_good : (op : Bin) (l r : ops.Operand) → operand x.of ≡ l → operand y.of ≡ r → IfFine (Good site) (operated p op l r x y)
    operated_good op (ops.ANumber i) (ops.ANumber j) a b = numbers_good op i j (number_operand x.of i a) (number_operand y.of j b)
    operated_good op (ops.APointer d) (ops.ANumber j) a b = pointer_number_good op d (pointer_operand x.of d a)
    operated_good op (ops.ANumber i) (ops.APointer e) a b = number_pointer_good op e (pointer_operand y.of e b)
    operated_good op (ops.APointer d) (ops.APointer e) a b = two_pointers_good op d e (pointer_operand x.of d a) (pointer_operand y.of e b)
    operated_good op ops.Nothing r a b = tt
    operated_good op (ops.ANumber i) ops.Nothing a b = tt
    operated_good op (ops.APointer d) ops.Nothing a b = tt

    by_operator : (o : Option Bin) → IfFine (Good site) (operated_by p o x y)
    by_operator None = tt
    by_operator (Some op) = operated_good op (operand x.of) (operand y.of) refl refl

    -- ASSIGNMENTS
    set_good : (o : Option TExpr) → passed x.of y ≡ o → IfFine (Good site) (assigned p x y o)
    set_good None is = tt
    set_good (Some tree) is =
        let s : Sort = sort_in x.of in
        let some : is_nothing s ≡ false = passed_some site x.of y tree is in
        let right : Is site s tree = subst (IfIs site s) is (is_passed site x.of y k) in
        written_good site p x.place (operands.value (decayed x.of) (typed.Assign (at p (told x.of)) x.tree tree) (taken_in x y))
        (is_by site (sort_in (decayed x.of)) (typed.Assign (at p (told x.of)) x.tree tree) (expr_step site (TExpr-F.Assign (at p (told x.of)) (S x.tree) (S tree)))
        (typed_Assign Seen (expr_step site) (at p (told x.of)) x.tree tree) (sym (decayed_sort x.of))
        (and_from (same s (S x.tree).of) (same s (S tree).of && ((S x.tree).fits && (S tree).fits)) (test_of site (λ (t : Sort). same s t) s x.tree h (sort_itself s some))
        (and_from (same s (S tree).of) ((S x.tree).fits && (S tree).fits) (test_of site (λ (t : Sort). same s t) s tree right (sort_itself s some)) (both_fit x.tree tree h.fits right.fits))))

    changed_good : (by : Change) (tree : TExpr) → change_fits by (sort_in x.of) ≡ true → is_nothing (sort_in x.of) ≡ false → (S tree).fits ≡ true → IfFine (Good site) (changed p x y by tree)
    changed_good by tree fit some right =
        let s : Sort = sort_in x.of in
        written_good site p x.place (operands.value (decayed x.of) (typed.AssignBy (at p (told x.of)) by x.tree tree) (taken_in x y))
        (is_by site (sort_in (decayed x.of)) (typed.AssignBy (at p (told x.of)) by x.tree tree) (expr_step site (TExpr-F.AssignBy (at p (told x.of)) by (S x.tree) (S tree)))
        (typed_AssignBy Seen (expr_step site) (at p (told x.of)) by x.tree tree) (sym (decayed_sort x.of))
        (and_from (change_fits by s) (same s (S x.tree).of && ((S x.tree).fits && (S tree).fits)) fit
        (and_from (same s (S x.tree).of) ((S x.tree).fits && (S tree).fits) (test_of site (λ (t : Sort). same s t) s x.tree h (sort_itself s some)) (both_fit x.tree tree h.fits right))))

    moved_good : (op : Bin) (d : Element) → sort_in x.of ≡ APointer d.kind → IfFine (Good site) (moved p op x y)
    moved_good Add d is = changed_good change.Forward y.tree (ap is_pointer is) (ap is_nothing is) k.fits
    moved_good Sub d is = changed_good change.Back y.tree (ap is_pointer is) (ap is_nothing is) k.fits
    moved_good _ d is = tt

    changed_by_good : (op : Bin) (l r : ops.Operand) → operand x.of ≡ l → operand y.of ≡ r → IfFine (Good site) (changed_by p op l r x y)
    changed_by_good op (ops.ANumber i) (ops.ANumber j) a b =
        changed_good (change.Number op (change_kind op i j)) (number_in_kind j (right_kind op i j) y.tree) (ap is_number (number_operand x.of i a)) (ap is_nothing (number_operand x.of i a))
        (number_kind_fits site j (right_kind op i j) y.tree (as_sort site (sort_in y.of) (ANumber j) y.tree (number_operand y.of j b) k))
    changed_by_good op (ops.APointer d) (ops.ANumber j) a b = moved_good op d (pointer_operand x.of d a)
    changed_by_good op (ops.ANumber i) (ops.APointer e) a b = tt
    changed_by_good op (ops.APointer d) (ops.APointer e) a b = tt
    changed_by_good op ops.Nothing r a b = tt
    changed_by_good op (ops.ANumber i) ops.Nothing a b = tt
    changed_by_good op (ops.APointer d) ops.Nothing a b = tt

    assign_by_good : (o : Option Bin) → IfFine (Good site) (assign_by p o x y)
    assign_by_good None = set_good (passed x.of y) refl
    assign_by_good (Some op) = changed_by_good op (operand x.of) (operand y.of) refl refl

  pub binary_good : (p : Place) (op : Mark) (x y : Typed) → G x → G y → IfFine (Good site) (binary_rule p op x y)
  unfolding binary_rule
  binary_good p op x y h k = by_operator p x y h k (operator_of op)

  pub assign_good : (p : Place) (op : Mark) (x y : Typed) → G x → G y → IfFine (Good site) (assign_rule p op x y)
  unfolding assign_rule
  assign_good p op x y h k = assign_by_good p x y h k (compound_operator_of op)

  -- `?:`
  cond_is : (p : Place) (s : Sort) (of : TType) (t a b : TExpr) → sort_of of ≡ s → unused_or s (same s (S a).of && same s (S b).of) ≡ true → (S t).fits ≡ true → (S a).fits ≡ true → (S b).fits ≡ true
      → Is site s (typed.Cond (at p of) t a b)
  cond_is p s of t a b is fit one two three =
      is_by site s (typed.Cond (at p of) t a b) (expr_step site (TExpr-F.Cond (at p of) (S t) (S a) (S b))) (typed_Cond Seen (expr_step site) (at p of) t a b) is
      (and_from (unused_or (sort_of of) (same (sort_of of) (S a).of && same (sort_of of) (S b).of)) ((S t).fits && ((S a).fits && (S b).fits))
      (subst (λ (x : Sort). unused_or x (same x (S a).of && same x (S b).of) ≡ true) (sym is) fit) (and_from (S t).fits ((S a).fits && (S b).fits) one (both_fit a b two three)))

  module _ (p : Place) (t x y : Typed) (g : Good site t) (h : Good site x) (k : Good site y) where
    arms_good : (a b : ops.Operand) → operand x.of ≡ a → operand y.of ≡ b → IfFine (Good site) (arms p a b t x y)
    arms_good (ops.ANumber i) (ops.ANumber j) a b =
        let to : Kind = common_kind i j in
        let first : Is site (ANumber to) (in_kind i to x.tree) = kind_is site i to x.tree (as_sort site (sort_in x.of) (ANumber i) x.tree (number_operand x.of i a) h) in
        let second : Is site (ANumber to) (in_kind j to y.tree) = kind_is site j to y.tree (as_sort site (sort_in y.of) (ANumber j) y.tree (number_operand y.of j b) k) in
        cond_is p (ANumber to) (ttype.Number to) t.tree (in_kind i to x.tree) (in_kind j to y.tree) refl
        (and_from (same (ANumber to) (S (in_kind i to x.tree)).of) (same (ANumber to) (S (in_kind j to y.tree)).of)
        (test_of site (λ (u : Sort). same (ANumber to) u) (ANumber to) (in_kind i to x.tree) first (kind_itself to))
        (test_of site (λ (u : Sort). same (ANumber to) u) (ANumber to) (in_kind j to y.tree) second (kind_itself to))) g.fits first.fits second.fits
    arms_good (ops.APointer d) (ops.APointer e) a b = by (equal_element d e) refl
      where
        by : (equal : Bool) → equal_element d e ≡ equal
            → IfFine (Good site) (if equal then Fine (operands.value (ctype.Pointer d) (typed.Cond (at p (pointer_to d)) t.tree x.tree y.tree) (taken_in_three t x y)) else refused (fault.Kinds p))
        by true equal =
            cond_is p (APointer d.kind) (pointer_to d) t.tree x.tree y.tree refl
            (and_from (same (APointer d.kind) (S x.tree).of) (same (APointer d.kind) (S y.tree).of)
            (test_of site (λ (u : Sort). same (APointer d.kind) u) (APointer d.kind) x.tree (as_sort site (sort_in x.of) (APointer d.kind) x.tree (pointer_operand x.of d a) h) (kind_itself d.kind))
            (test_of site (λ (u : Sort). same (APointer d.kind) u) (APointer e.kind) y.tree (as_sort site (sort_in y.of) (APointer e.kind) y.tree (pointer_operand y.of e b) k)
            (and_parts (same_kind d.kind e.kind) _ (and_parts (same_element d e) _ equal).0).0)) g.fits h.fits k.fits
        by false equal = tt
    arms_good ops.Nothing ops.Nothing a b = cond_is p NoValue ttype.Void t.tree x.tree y.tree refl refl g.fits h.fits k.fits
    arms_good ops.Nothing (ops.ANumber j) a b = tt
    arms_good ops.Nothing (ops.APointer e) a b = tt
    arms_good (ops.ANumber i) ops.Nothing a b = tt
    arms_good (ops.ANumber i) (ops.APointer e) a b = tt
    arms_good (ops.APointer d) ops.Nothing a b = tt
    arms_good (ops.APointer d) (ops.ANumber j) a b = tt

    tested_good : (kind : Option Kind) → IfFine (Good site) (cond_of_kind p kind t x y)
    tested_good None = tt
    tested_good (Some kind) = arms_good (operand x.of) (operand y.of) refl refl

  pub cond_good : (p : Place) (t x y : Typed) → G t → G x → G y → IfFine (Good site) (cond_rule p t x y)
  unfolding cond_rule
  cond_good p t x y g h k = tested_good p t x y g h k (number_kind t.of)

  -- THE COMMA
  pub comma_good : (p : Place) (x y : Typed) → G x → G y → IfFine (Good site) (comma_rule p x y)
  unfolding comma_rule
  comma_good p x y h k =
      let s : Sort = sort_in y.of in
      is_by site (sort_in (decayed y.of)) (typed.Comma (at p (told y.of)) x.tree y.tree) (expr_step site (TExpr-F.Comma (at p (told y.of)) (S x.tree) (S y.tree)))
      (typed_Comma Seen (expr_step site) (at p (told y.of)) x.tree y.tree) (sym (decayed_sort y.of))
      (and_from (unused_or s (same s (S y.tree).of)) ((S x.tree).fits && (S y.tree).fits)
      (test_of site (λ (t : Sort). unused_or s (same s t)) s y.tree k (unused_itself s)) (both_fit x.tree y.tree h.fits k.fits))

  -- ARGUMENTS
  abbrev pub AllGood : List Typed → Type 0
  AllGood [] = Unit {0}
  AllGood (v ∷ vs) = G v × AllGood vs

  abbrev PassingIs : List CType → Passing → Type 0
  PassingIs types (Passes trees) = (all_same (map sort_in types) (map (see site) trees) ≡ true) × (all_fit (map (see site) trees) ≡ true)
  PassingIs types WrongKind = Unit {0}
  PassingIs types WrongCount = Unit {0}

  before_is : (t : CType) (types : List CType) (o : Option TExpr) (rest : Passing) → ((e : TExpr) → o ≡ Some e → Is site (sort_in t) e × (is_nothing (sort_in t) ≡ false)) → PassingIs types rest
      → PassingIs (t ∷ types) (passed_before o rest)
  before_is t types None rest one h = tt
  before_is t types (Some e) (Passes trees) one h =
      let here = one e refl in (
        and_from (same (sort_in t) (S e).of) (all_same (map sort_in types) (map (see site) trees)) (test_of site (λ (u : Sort). same (sort_in t) u) (sort_in t) e here.0 (sort_itself (sort_in t) here.1)) h.0,
        and_from (S e).fits (all_fit (map (see site) trees)) here.0.fits h.1,
      )
  before_is t types (Some e) WrongKind one h = tt
  before_is t types (Some e) WrongCount one h = tt

  passing_is : (types : List CType) (args : List Typed) → AllGood args → PassingIs types (passing types args)
  passing_is [] [] h = (refl, refl)
  passing_is [] (a ∷ args) h = tt
  passing_is (t ∷ types) [] h = tt
  passing_is (t ∷ types) (a ∷ args) h =
      before_is t types (passed t a) (passing types args) (λ e is. (subst (IfIs site (sort_in t)) is (is_passed site t a h.0), passed_some site t a e is)) (passing_is types args h.1)

  with_good : (p : Place) (types : List CType) (result : CType) (tree : List TExpr → TExpr) (taken : List ℕ) (given : Passing) → PassingIs types given
      → ((trees : List TExpr) → all_same (map sort_in types) (map (see site) trees) ≡ true → all_fit (map (see site) trees) ≡ true → Is site (sort_in result) (tree trees))
      → IfFine (Good site) (called_with p result tree taken given)
  with_good p types result tree taken (Passes trees) h each = each trees h.0 h.1
  with_good p types result tree taken WrongKind h each = tt
  with_good p types result tree taken WrongCount h each = tt

  -- CALLS of a function
  call_is : (s : Signature) (seens : List Seen) (o : Option Callee) → IsCallee o s → all_same (map sort_in s.params) seens ≡ true → call_fits o (sort_in s.result) seens ≡ true
  call_is s seens None is passes = refl
  call_is s seens (Some c) is passes =
      subst (λ (d : Callee). call_fits (Some d) (sort_in s.result) seens ≡ true) (sym is)
      (and_from (unused_or (sort_in s.result) (same (sort_in s.result) (sort_in s.result))) (all_same (map sort_in s.params) seens) (unused_itself (sort_in s.result)) passes)

  function_good : (p : Place) (s : Signature) (args : List Typed) → IsCallee (slice_get site.callees s.number) s → AllGood args → IfFine (Good site) (function_called p s args)
  function_good p s args c h =
      with_good p s.params s.result (λ trees. typed.Call (at p (told s.result)) s.number trees) (all_taken args) (passing s.params args) (passing_is s.params args h)
      (λ trees passes fit.
      is_by site (sort_in s.result) (typed.Call (at p (told s.result)) s.number trees) (expr_step site (TExpr-F.Call (at p (told s.result)) s.number (map (see site) trees)))
      (typed_Call Seen (expr_step site) (at p (told s.result)) s.number trees) refl
      (and_from (call_fits (slice_get site.callees s.number) (sort_in s.result) (map (see site) trees)) (all_fit (map (see site) trees))
      (call_is s (map (see site) trees) (slice_get site.callees s.number) c passes) fit))

  -- CALLS of the library
  getchar_is : (p : Place) → Is site (ANumber I32) (typed.Getchar (at p (ttype.Number I32)))
  getchar_is p =
      is_by site (ANumber I32) (typed.Getchar (at p (ttype.Number I32))) (expr_step site (TExpr-F.Getchar (at p (ttype.Number I32)))) (typed_Getchar Seen (expr_step site) (at p (ttype.Number I32))) refl refl

  getchar_good : (p : Place) (args : List Typed) → IfFine (Good site) (getchar_called p args)
  getchar_good p [] = getchar_is p
  getchar_good p (a ∷ args) = tt

  putchar_is : (p : Place) (trees : List TExpr) → all_fit (map (see site) trees) ≡ true → Is site (ANumber I32) (putchar_tree p trees)
  putchar_is p [] fit = getchar_is p
  putchar_is p (tree ∷ trees) fit =
      is_by site (ANumber I32) (typed.Putchar (at p (ttype.Number I32)) tree) (expr_step site (TExpr-F.Putchar (at p (ttype.Number I32)) (S tree)))
      (typed_Putchar Seen (expr_step site) (at p (ttype.Number I32)) tree) refl (and_parts (S tree).fits (all_fit (map (see site) trees)) fit).0

  putchar_good : (p : Place) (args : List Typed) → AllGood args → IfFine (Good site) (putchar_called p args)
  putchar_good p args h =
      with_good p (ctype.Number I32 ∷ []) (ctype.Number I32) (putchar_tree p) (all_taken args) (passing (ctype.Number I32 ∷ []) args) (passing_is (ctype.Number I32 ∷ []) args h)
      (λ trees passes fit. putchar_is p trees fit)

  line_good : (p : Place) (taken : List ℕ) (v : Typed) (o : Option (List ℕ)) → Good site v → IfFine (Good site) (put_line p taken v.tree o)
  line_good p taken v None h = tt
  line_good p taken v (Some bytes) h = by (has_zero bytes)
    where
      by : (b : Bool) → IfFine (Good site) (if b then refused (fault.BadFormat p) else Fine (operands.number I32 (typed.Puts (at p (ttype.Number I32)) v.tree) taken))
      by true = tt
      by false =
          is_by site (ANumber I32) (typed.Puts (at p (ttype.Number I32)) v.tree) (expr_step site (TExpr-F.Puts (at p (ttype.Number I32)) (S v.tree)))
          (typed_Puts Seen (expr_step site) (at p (ttype.Number I32)) v.tree) refl h.fits

  puts_good : (p : Place) (args : List Typed) → AllGood args → IfFine (Good site) (puts_called p args)
  puts_good p [] h = tt
  puts_good p (a ∷ []) h = line_good p (all_taken (a ∷ [])) a (bytes_in a.tree) h.0
  puts_good p (a ∷ b ∷ args) h = tt

  abbrev FitsIfThere : Option TExpr → Type 0
  FitsIfThere None = Unit {0}
  FitsIfThere (Some e) = (S e).fits ≡ true

  formatted_fits : (to : Kind) (a : Typed) (o : Option Kind) → number_kind a.of ≡ o → Good site a → FitsIfThere (formatted to a o)
  formatted_fits to a None is h = tt
  formatted_fits to a (Some from) is h = by (size (promoted from) == size to)
    where
      by : (b : Bool) → FitsIfThere (if b then Some (in_kind from to a.tree) else None)
      by true = (kind_is site from to a.tree (as_number site a from is h)).fits
      by false = tt

  abbrev TreesFit : Option (List TExpr) → Type 0
  TreesFit None = Unit {0}
  TreesFit (Some trees) = all_fit (map (see site) trees) ≡ true

  tree_before_fits : (o : Option TExpr) (rest : Option (List TExpr)) → FitsIfThere o → TreesFit rest → TreesFit (tree_before o rest)
  tree_before_fits None rest h k = tt
  tree_before_fits (Some e) None h k = tt
  tree_before_fits (Some e) (Some trees) h k = and_from (S e).fits (all_fit (map (see site) trees)) h k

  all_formatted_fit : (kinds : List Kind) (args : List Typed) → AllGood args → TreesFit (all_formatted kinds args)
  all_formatted_fit [] [] h = refl
  all_formatted_fit [] (a ∷ args) h = tt
  all_formatted_fit (kind ∷ kinds) [] h = tt
  all_formatted_fit (kind ∷ kinds) (a ∷ args) h =
      tree_before_fits (formatted kind a (number_kind a.of)) (all_formatted kinds args) (formatted_fits kind a (number_kind a.of) refl h.0) (all_formatted_fit kinds args h.1)

  print_trees_good : (p : Place) (marks : List formats.FormatMark) (taken : List ℕ) (o : Option (List TExpr)) → TreesFit o → IfFine (Good site) (print_trees p marks taken o)
  print_trees_good p marks taken None h = tt
  print_trees_good p marks taken (Some trees) h =
      is_by site (ANumber I32) (typed.Printf (at p (ttype.Number I32)) (pieces_of marks) trees) (expr_step site (TExpr-F.Printf (at p (ttype.Number I32)) (pieces_of marks) (map (see site) trees)))
      (typed_Printf Seen (expr_step site) (at p (ttype.Number I32)) (pieces_of marks) trees) refl h

  print_marks_good : (p : Place) (taken : List ℕ) (args : List Typed) (o : Option (List formats.FormatMark)) → AllGood args → IfFine (Good site) (print_marks p taken args o)
  print_marks_good p taken args None h = tt
  print_marks_good p taken args (Some marks) h = print_trees_good p marks taken (all_formatted (kinds_taken marks) args) (all_formatted_fit (kinds_taken marks) args h)

  print_bytes_good : (p : Place) (taken : List ℕ) (args : List Typed) (o : Option (List ℕ)) → AllGood args → IfFine (Good site) (print_bytes p taken args o)
  print_bytes_good p taken args None h = tt
  print_bytes_good p taken args (Some bytes) h = print_marks_good p taken args (marks_of bytes) h

  printf_good : (p : Place) (args : List Typed) → AllGood args → IfFine (Good site) (printf_called p args)
  printf_good p [] h = tt
  printf_good p (a ∷ args) h = print_bytes_good p (all_taken (a ∷ args)) args (bytes_in a.tree) h.1

  library_good : (p : Place) (f : Library) (args : List Typed) → AllGood args → IfFine (Good site) (library_called p f args)
  library_good p Getchar args h = getchar_good p args
  library_good p Putchar args h = putchar_good p args h
  library_good p Puts args h = puts_good p args h
  library_good p Printf args h = printf_good p args h

  called_good : (p : Place) (x : List ℕ) (args : List Typed) (o : Option Meaning) → ((m : Meaning) → o ≡ Some m → NameFits site x m) → AllGood args → IfFine (Good site) (called p x args o)
  called_good p x args None fit h = tt
  called_good p x args (Some (meaning.Variable n of fixed)) fit h = tt
  called_good p x args (Some (meaning.Object n of fixed)) fit h = tt
  called_good p x args (Some (meaning.Function s)) fit h = function_good p s args (fit (meaning.Function s) refl) h
  called_good p x args (Some (meaning.Library function)) fit h = library_good p function args h

  pub call_good : (names : Names) (p : Place) (x : List ℕ) (args : List Typed) → NamesEach (NameFits site) names → AllGood args → IfFine (Good site) (call_rule names p x args)
  unfolding call_rule
  call_good names p x args fit h = called_good p x args (meaning_of names x) (λ m is. found (NameFits site) names x m fit is) h

  -- EXPRESSIONS
  makes : (m : Made Typed) (v : Typed) → m ≡ Fine v → IfFine (Good site) m → Good site v
  makes m v is h = subst (IfFine (Good site)) is h

  mutual
    pub expr_good : (names : Names) (e : Expr) (v : Typed) → NamesEach (NameFits site) names → Elab names e v → Good site v
    expr_good _ _ _ fit (name names p x v is) = makes (name_rule names p x) v is (name_good site names p x fit)
    expr_good _ _ _ fit (number names p kind n v is) = makes (number_rule p kind n) v is (number_good site p kind n)
    expr_good _ _ _ fit (character names p z v is) = makes (char_rule p z) v is (char_good site p z)
    expr_good _ _ _ fit (string names p bytes v is) = makes (string_rule p bytes) v is (string_good site p bytes)
    expr_good _ _ _ fit (paren names p e v x) = expr_good names e v fit x
    expr_good _ _ _ fit (index names p a b x y v l r is) = makes (index_rule p x y) v is (index_good site p x y (expr_good names a x fit l) (expr_good names b y fit r))
    expr_good _ _ _ fit (call names p f args xs v all is) = makes (call_rule names p f xs) v is (call_good names p f xs fit (all_good names args xs fit all))
    expr_good _ _ _ fit (postfix names p op a x v l is) = makes (post_rule p op x) v is (post_good site p op x (expr_good names a x fit l))
    expr_good _ _ _ fit (prefix names p op a x v l is) = makes (pre_rule p op x) v is (pre_good site p op x (expr_good names a x fit l))
    expr_good _ _ _ fit (unary names p op a x v l is) = makes (unary_rule p op x) v is (unary_good site p op x (expr_good names a x fit l))
    expr_good _ _ _ fit (sizeof_expr names p a x v l is) = makes (sizeof_rule p x) v is (sizeof_good site p x)
    expr_good _ _ _ fit (sizeof_type names p specs stars v is) = makes (sizeof_type_rule p specs stars) v is (sizeof_type_good site p specs stars)
    expr_good _ _ _ fit (cast names p specs stars a x v l is) = makes (cast_rule p specs stars x) v is (cast_good site p specs stars x (expr_good names a x fit l))
    expr_good _ _ _ fit (binary names p op a b x y v l r is) = makes (binary_rule p op x y) v is (binary_good p op x y (expr_good names a x fit l) (expr_good names b y fit r))
    expr_good _ _ _ fit (conditional names p a b c x y z v l r s is) =
        makes (cond_rule p x y z) v is (cond_good p x y z (expr_good names a x fit l) (expr_good names b y fit r) (expr_good names c z fit s))
    expr_good _ _ _ fit (assignment names p op a b x y v l r is) = makes (assign_rule p op x y) v is (assign_good p op x y (expr_good names a x fit l) (expr_good names b y fit r))
    expr_good _ _ _ fit (comma names p a b x y v l r is) = makes (comma_rule p x y) v is (comma_good p x y (expr_good names a x fit l) (expr_good names b y fit r))

    all_good : (names : Names) (es : List Expr) (vs : List Typed) → NamesEach (NameFits site) names → ElabAll names es vs → AllGood vs
    all_good _ _ _ fit (no_args names) = tt
    all_good _ _ _ fit (more_args names e es v vs x xs) = (expr_good names e v fit x, all_good names es vs fit xs)
