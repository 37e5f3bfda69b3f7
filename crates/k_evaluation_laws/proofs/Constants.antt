-- What the value of a constant expression is: a number of the kind of its type, where the constants in it are numbers of theirs (C17 6.6).
use Rattle.std.proofs.Common.{◌≡◌, ℕ, ℤ, pos, List, [], ◌∷◌, Option, Some, None, Result, Ok, Err, Bool, true, false, ◌&&◌, if◌then◌else◌, refl, sym, ◌∙◌, subst}
use Rattle.std.specs.Prelude.{IfOk, IsTrue}
use Rattle.std.proofs.lemmas.Bool.{and_parts}
use Rattle.k_num.specs.Arithmetic as arithmetic
use Rattle.k_num.specs.Arithmetic.{is_zero, truth, unary_value}
use Rattle.k_num.specs.Kind.{common_kind, converted, is_held, promoted}
use Rattle.k_num.specs.declared.numbers.Bin.{Bin}
use Rattle.k_num.specs.declared.numbers.Bin.TheVariants.{Add, Sub, Mul, Div, Rem, And, Or, Xor, Shl, Shr, Lt, Le, Gt, Ge, Eq, Ne, LogAnd, LogOr}
use Rattle.k_num.specs.declared.numbers.Kind.{Kind}
use Rattle.k_num.specs.declared.numbers.Kind.TheVariants.{I8, U8, I16, U16, I32, U32, I64, U64}
use Rattle.k_num.specs.declared.numbers.NumTrap.{NumTrap}
use Rattle.k_num.specs.declared.numbers.Un.{Un}
use Rattle.k_num.specs.declared.numbers.Un.TheVariants as un
use Rattle.k_num.specs.declared.place.Place.{Place}
use Rattle.k_num.proofs.ArithmeticLaws.{held_complement, held_negated, held_value}
use Rattle.k_num.proofs.KindLaws.{held_converted, zero_held}
use Rattle.k_tree.specs.Operators.{compound_operator_of, operator_of}
use Rattle.k_tree.specs.declared.tokens.mark.Mark.{Mark}
use Rattle.k_tree.specs.declared.tokens.mark.Mark.TheVariants as mark
use Rattle.k_tree.specs.declared.tokens.word.Word.{Word}
use Rattle.k_tree.specs.declared.tree.expression.Expr.{Expr}
use Rattle.k_types_meaning.specs.declared.fault.TypeFault.TheVariants as fault
use Rattle.k_types_meaning.specs.declared.names.Library.{Library}
use Rattle.k_types_meaning.specs.declared.names.Library.TheVariants.{Getchar, Putchar, Puts, Printf}
use Rattle.k_types_meaning.specs.declared.names.Meaning.{Meaning}
use Rattle.k_types_meaning.specs.declared.names.Meaning.TheVariants as meaning
use Rattle.k_types_meaning.specs.declared.tree.expression.Change.{Change}
use Rattle.k_types_meaning.specs.declared.tree.expression.Change.TheVariants as change
use Rattle.k_types_meaning.specs.declared.tree.expression.TExpr.{TExpr}
use Rattle.k_types_meaning.specs.declared.tree.expression.TExpr.TheVariants as typed
use Rattle.k_types_meaning.specs.declared.types.CType.{CType}
use Rattle.k_types_meaning.specs.declared.types.CType.TheVariants as ctype
use Rattle.k_types_meaning.specs.declared.types.Element.{Element}
use Rattle.k_types_meaning.specs.declared.types.TType.{TType}
use Rattle.k_types_meaning.specs.declared.types.TType.TheVariants as ttype
use Rattle.k_types_meaning.specs.CallRules.{Passing, Passes, WrongKind, WrongCount, all_formatted, all_taken, bytes_in, call_rule, called, called_with, getchar_called, has_zero, library_called, passing, print_bytes, print_marks, print_trees, printf_called, put_line, putchar_tree, puts_called}
use Rattle.k_types_meaning.specs.Constants.{in_type, truth_of, untrapped, value_of, value_step, with_one, with_two}
use Rattle.k_types_meaning.specs.Conversions.{Typed, at, conversion, in_kind, node_of, number_in, number_in_kind, passed}
use Rattle.k_types_meaning.specs.Elaborated.{Elab, name, number, character, string, paren, index, call, postfix, prefix, unary, sizeof_expr, sizeof_type, cast, binary, conditional, assignment, comma}
use Rattle.k_types_meaning.specs.Formats as formats
use Rattle.k_types_meaning.specs.Formats.{kinds_taken, marks_of, pieces_of}
use Rattle.k_types_meaning.specs.Made.{Made, Fine, refused}
use Rattle.k_types_meaning.specs.Names.{Names, meaning_of}
use Rattle.k_types_meaning.specs.Operands as operands
use Rattle.k_types_meaning.specs.Operands.{addressed, cast_number, cast_pointer, cast_rule, cast_to, char_rule, index_rule, indexed, name_rule, named, number_rule, of_number, plus_of, pointed_to, post_rule, pre_rule, size_named, size_number, sizeof_rule, sizeof_type_rule, step_change, stepped, string_rule, unary_kind, unary_of, unary_rule, written}
use Rattle.k_types_meaning.specs.Operators as ops
use Rattle.k_types_meaning.specs.Operators.{Operand, arms, assign_by, assign_rule, assigned, binary_rule, change_kind, changed, changed_by, comma_rule, common_of, compares, cond_rule, equal_pointers, moved, number_and_pointer, on_numbers, operand, operated, operated_by, pointer_and_number, right_kind, shift_of, taken_in, taken_in_three, cond_of_kind, two_pointers}
use Rattle.k_types_meaning.specs.Specifiers.{type_named}
use Rattle.k_types_meaning.specs.Types.{as_type, decayed, equal_element, number_kind, pointed, pointer_to, same_element, same_kind, size_of, told}
use Rattle.k_types_meaning.proofs.Fine.{IfFine}
use Rattle.k_types_meaning.proofs.Folds.{typed_Assign, typed_AssignBy, typed_Binary, typed_Both, typed_Call, typed_Cast, typed_Comma, typed_Cond, typed_Convert, typed_Deref, typed_Either, typed_Getchar, typed_Index, typed_Number, typed_Object, typed_Plus, typed_Post, typed_Pre, typed_Printf, typed_PtrCompare, typed_PtrDistance, typed_Putchar, typed_Puts, typed_Unary, typed_Variable}
use Rattle.k_lower_texts.specs.Passing.{expr_passes, expr_step}
use Rattle.k_evaluation_laws.proofs.Formats.{asks}
use Rattle.k_evaluation_laws.proofs.Slots.{one_kind}

-- a value is a number of the kind, where there is one
abbrev pub HeldAs : Kind → Option ℤ → Type 0
HeldAs kind None = Unit {0}
HeldAs kind (Some z) = IsTrue (is_held kind z)

-- where the type is that of a number
abbrev pub HeldIn : CType → Option ℤ → Type 0
HeldIn ctype.Void o = Unit {0}
HeldIn (ctype.Number kind) o = HeldAs kind o
HeldIn (ctype.Pointer e) o = Unit {0}
HeldIn (ctype.Array n e) o = Unit {0}

-- the constants in a tree are numbers of their kinds
abbrev pub Ranged : TExpr → Type 0
Ranged e = expr_passes asks e ≡ true

-- A JUDGED EXPRESSION has a value of its type, where it has one
abbrev pub IsHeld : Typed → Type 0
IsHeld v = Ranged v.tree → HeldIn v.of (value_of v.tree)

-- an expression that is no constant has none
none_held : (of : CType) (e : TExpr) → value_of e ≡ None → HeldIn of (value_of e)
none_held ctype.Void e is = tt
none_held (ctype.Number kind) e is = subst (HeldAs kind) (sym is) tt
none_held (ctype.Pointer d) e is = tt
none_held (ctype.Array n d) e is = tt

-- a type that is known to be that of a number
pub by_kind : (of : CType) (kind : Kind) (o : Option ℤ) → number_kind of ≡ Some kind → HeldIn of o → HeldAs kind o
by_kind ctype.Void kind o is h = absurd (cc is)
by_kind (ctype.Number k) kind o is h = subst (λ (j : Kind). HeldAs j o) (same is) h
  where
    same : number_kind (ctype.Number k) ≡ Some kind → k ≡ kind
    same equal = cc equal
by_kind (ctype.Pointer d) kind o is h = absurd (cc is)
by_kind (ctype.Array n d) kind o is h = absurd (cc is)

by_operand : (of : CType) (kind : Kind) (o : Option ℤ) → operand of ≡ ops.ANumber kind → HeldIn of o → HeldAs kind o
by_operand ctype.Void kind o is h = absurd (cc is)
by_operand (ctype.Number k) kind o is h = subst (λ (j : Kind). HeldAs j o) (same is) h
  where
    same : operand (ctype.Number k) ≡ ops.ANumber kind → k ≡ kind
    same equal = cc equal
by_operand (ctype.Pointer d) kind o is h = absurd (cc is)
by_operand (ctype.Array n d) kind o is h = absurd (cc is)

-- ARITHMETIC gives numbers of its kind
untrapped_held : (kind : Kind) (r : Result ℤ NumTrap) → IfOk r (λ z. IsTrue (is_held kind z)) → HeldAs kind (untrapped r)
untrapped_held kind (Ok z) h = h
untrapped_held kind (Err trap) h = tt

one_held : (kind : Kind) → IsTrue (is_held kind (pos 1))
one_held I8 = refl
one_held U8 = refl
one_held I16 = refl
one_held U16 = refl
one_held I32 = refl
one_held U32 = refl
one_held I64 = refl
one_held U64 = refl

truth_held : (kind : Kind) (holds : Bool) → IsTrue (is_held kind (truth holds))
truth_held kind true = one_held kind
truth_held kind false = zero_held kind

truth_is_held : (o : Option ℤ) → HeldAs I32 (with_one o truth_of)
truth_is_held None = tt
truth_is_held (Some z) = by (is_zero z)
  where
    by : (b : Bool) → HeldAs I32 (if b then Some (pos 0) else Some (pos 1))
    by true = zero_held I32
    by false = one_held I32

converted_held : (to : Kind) (o : Option ℤ) → HeldAs to (with_one o (in_type (ttype.Number to)))
converted_held to None = tt
converted_held to (Some z) = held_converted to z

unary_held : (op : Un) (kind : Kind) (o : Option ℤ) → HeldAs (unary_kind op kind) (with_one o (λ x. untrapped (unary_value op kind x)))
unary_held op kind None = tt
unary_held un.Neg kind (Some z) = untrapped_held kind (unary_value un.Neg kind z) (held_negated kind z)
unary_held un.Complement kind (Some z) = untrapped_held kind (unary_value un.Complement kind z) (held_complement kind z)
unary_held un.Not kind (Some z) = truth_held I32 (is_zero z)

-- what an operator gives: of a test an int, else a number of its kind
abbrev result_kind : Bin → Kind → Kind
result_kind op kind = if compares op then I32 else kind

two_held : (op : Bin) (kind : Kind) (a b : ℤ) → IsTrue (is_held kind a) → HeldAs (result_kind op kind) (untrapped (arithmetic.value op kind a b))
two_held Add kind a b h = untrapped_held kind (arithmetic.value Add kind a b) (held_value Add kind a b refl h)
two_held Sub kind a b h = untrapped_held kind (arithmetic.value Sub kind a b) (held_value Sub kind a b refl h)
two_held Mul kind a b h = untrapped_held kind (arithmetic.value Mul kind a b) (held_value Mul kind a b refl h)
two_held Div kind a b h = untrapped_held kind (arithmetic.value Div kind a b) (held_value Div kind a b refl h)
two_held Rem kind a b h = untrapped_held kind (arithmetic.value Rem kind a b) (held_value Rem kind a b refl h)
two_held And kind a b h = untrapped_held kind (arithmetic.value And kind a b) (held_value And kind a b refl h)
two_held Or kind a b h = untrapped_held kind (arithmetic.value Or kind a b) (held_value Or kind a b refl h)
two_held Xor kind a b h = untrapped_held kind (arithmetic.value Xor kind a b) (held_value Xor kind a b refl h)
two_held Shl kind a b h = untrapped_held kind (arithmetic.value Shl kind a b) (held_value Shl kind a b refl h)
two_held Shr kind a b h = untrapped_held kind (arithmetic.value Shr kind a b) (held_value Shr kind a b refl h)
two_held Lt kind a b h = truth_held I32 _
two_held Le kind a b h = truth_held I32 _
two_held Gt kind a b h = truth_held I32 _
two_held Ge kind a b h = truth_held I32 _
two_held Eq kind a b h = truth_held I32 _
two_held Ne kind a b h = truth_held I32 _
two_held LogAnd kind a b h = truth_held kind _
two_held LogOr kind a b h = truth_held kind _

binary_held : (op : Bin) (kind : Kind) (a b : Option ℤ) → HeldAs kind a → HeldAs (result_kind op kind) (with_two a b (λ x y. untrapped (arithmetic.value op kind x y)))
binary_held op kind None b h = tt
binary_held op kind (Some x) None h = tt
binary_held op kind (Some x) (Some y) h = two_held op kind x y h

both_held : (a b : Option ℤ) → HeldAs I32 (with_one a (λ x. if is_zero x then Some (pos 0) else with_one b truth_of))
both_held None b = tt
both_held (Some x) b = by (is_zero x)
  where
    by : (zero : Bool) → HeldAs I32 (if zero then Some (pos 0) else with_one b truth_of)
    by true = zero_held I32
    by false = truth_is_held b

either_held : (a b : Option ℤ) → HeldAs I32 (with_one a (λ x. if is_zero x then with_one b truth_of else Some (pos 1)))
either_held None b = tt
either_held (Some x) b = by (is_zero x)
  where
    by : (zero : Bool) → HeldAs I32 (if zero then with_one b truth_of else Some (pos 1))
    by true = truth_is_held b
    by false = one_held I32

chosen_held : (kind : Kind) (test a b : Option ℤ) → HeldAs kind a → HeldAs kind b → HeldAs kind (with_one test (λ x. if is_zero x then b else a))
chosen_held kind None a b h k = tt
chosen_held kind (Some x) a b h k = by (is_zero x)
  where
    by : (zero : Bool) → HeldAs kind (if zero then b else a)
    by true = k
    by false = h

-- an expression in another kind
pub in_kind_held : (from to : Kind) (e : TExpr) → (Ranged e → HeldAs from (value_of e)) → Ranged (in_kind from to e) → HeldAs to (value_of (in_kind from to e))
unfolding in_kind
in_kind_held from to e h = by (same_kind from to) refl
  where
    converts : (o : Option ℤ) → HeldAs to (value_of (conversion to e o))
    converts None = subst (HeldAs to) (sym (typed_Convert (Option ℤ) value_step (at (node_of e).place (ttype.Number to)) e)) (converted_held to (value_of e))
    converts (Some z) = subst (HeldAs to) (sym (typed_Number (Option ℤ) value_step (at (node_of e).place (ttype.Number to)) (converted to z))) (held_converted to z)

    by : (b : Bool) → same_kind from to ≡ b → Ranged (if b then e else conversion to e (number_in e)) → HeldAs to (value_of (if b then e else conversion to e (number_in e)))
    by true is ranged = subst (λ (j : Kind). HeldAs j (value_of e)) (one_kind from to is) (h ranged)
    by false is ranged = converts (number_in e)

-- NAMES, CONSTANTS AND PLACES
name_held : (p : Place) (x : List ℕ) (o : Option Meaning) → IfFine IsHeld (named p x o)
name_held p x None = tt
name_held p x (Some (meaning.Variable n of fixed)) = λ ranged. none_held of (typed.Variable (at p (told of)) n) (typed_Variable (Option ℤ) value_step (at p (told of)) n)
name_held p x (Some (meaning.Object n of fixed)) = λ ranged. none_held of (typed.Object (at p (told of)) n) (typed_Object (Option ℤ) value_step (at p (told of)) n)
name_held p x (Some (meaning.Function signature)) = tt
name_held p x (Some (meaning.Library function)) = tt

number_held : (p : Place) (kind : Kind) (z : ℤ) → Ranged (typed.Number (at p (ttype.Number kind)) z) → HeldAs kind (value_of (typed.Number (at p (ttype.Number kind)) z))
number_held p kind z ranged =
    subst (HeldAs kind) (sym (typed_Number (Option ℤ) value_step (at p (ttype.Number kind)) z)) (sym (typed_Number Bool (expr_step asks) (at p (ttype.Number kind)) z) ∙ ranged)

index_held : (p : Place) (a b : Typed) (e : Option Element) (kind : Option Kind) → IfFine IsHeld (indexed p a b e kind)
index_held p a b None kind = tt
index_held p a b (Some e) None = tt
index_held p a b (Some e) (Some kind) =
    let of : CType = as_type e.kind e.dims e.fixed in
    λ ranged. none_held of (typed.Index (at p (told of)) a.tree b.tree) (typed_Index (Option ℤ) value_step (at p (told of)) a.tree b.tree)

deref_held : (p : Place) (e : Typed) (o : Option Element) → IfFine IsHeld (pointed_to p e o)
deref_held p e None = tt
deref_held p e (Some d) =
    let of : CType = as_type d.kind d.dims d.fixed in
    λ ranged. none_held of (typed.Deref (at p (told of)) e.tree) (typed_Deref (Option ℤ) value_step (at p (told of)) e.tree)

address_held : (p : Place) (e : Typed) (kind : Option Kind) (fixed : Option Bool) → IfFine IsHeld (addressed p e kind fixed)
address_held p e None fixed = tt
address_held p e (Some kind) None = tt
address_held p e (Some kind) (Some fixed) = λ ranged. tt

-- OPERATORS WITH ONE OPERAND
of_number_held : (p : Place) (e : Typed) (o : Option Kind) (made : Kind → Typed) → ((k : Kind) → o ≡ Some k → IsHeld (made k)) → IfFine IsHeld (of_number p e o made)
of_number_held p e None made each = tt
of_number_held p e (Some kind) made each = each kind refl

module _ (p : Place) (e : Typed) (h : IsHeld e) where
  -- the promoted operand
  promoted_held : (kind : Kind) → number_kind e.of ≡ Some kind → Ranged (in_kind kind (promoted kind) e.tree) → HeldAs (promoted kind) (value_of (in_kind kind (promoted kind) e.tree))
  promoted_held kind is = in_kind_held kind (promoted kind) e.tree (λ ranged. by_kind e.of kind (value_of e.tree) is (h ranged))

  plus_held : (kind : Kind) → number_kind e.of ≡ Some kind → IsHeld (plus_of p e kind)
  plus_held kind is ranged =
      let node = at p (ttype.Number (promoted kind)) in
      let inner : TExpr = in_kind kind (promoted kind) e.tree in
      subst (HeldAs (promoted kind)) (sym (typed_Plus (Option ℤ) value_step node inner)) (promoted_held kind is (sym (typed_Plus Bool (expr_step asks) node inner) ∙ ranged))

  sign_held : (op : Un) (kind : Kind) → number_kind e.of ≡ Some kind → IsHeld (unary_of p op e kind)
  sign_held op kind is ranged =
      let inner : TExpr = in_kind kind (promoted kind) e.tree in
      subst (HeldAs (unary_kind op (promoted kind))) (sym (typed_Unary (Option ℤ) value_step (at p (ttype.Number (unary_kind op (promoted kind)))) op (promoted kind) inner))
      (unary_held op (promoted kind) (value_of inner))

  unary_is_held : (op : Mark) → IfFine IsHeld (unary_rule p op e)
  unfolding unary_rule
  unary_is_held mark.Ampersand = address_held p e (number_kind e.of) e.place
  unary_is_held mark.Star = deref_held p e (pointed e.of)
  unary_is_held mark.Plus = of_number_held p e (number_kind e.of) (plus_of p e) plus_held
  unary_is_held mark.Minus = of_number_held p e (number_kind e.of) (unary_of p un.Neg e) (sign_held un.Neg)
  unary_is_held mark.Tilde = of_number_held p e (number_kind e.of) (unary_of p un.Complement e) (sign_held un.Complement)
  unary_is_held mark.Exclaim = of_number_held p e (number_kind e.of) (unary_of p un.Not e) (sign_held un.Not)
  unary_is_held _ = tt

-- what is written is what is made
written_held : (p : Place) (fixed : Option Bool) (v : Typed) → IsHeld v → IfFine IsHeld (written p fixed v)
written_held p None v h = tt
written_held p (Some true) v h = tt
written_held p (Some false) v h = h

stepped_held : (p : Place) (e : Typed) (tree : TType → Change → TExpr) (o : Option Change) → ((of : TType) (to : Change) → value_of (tree of to) ≡ None) → IfFine IsHeld (stepped p e tree o)
stepped_held p e tree None each = tt
stepped_held p e tree (Some to) each =
    written_held p e.place (operands.value (decayed e.of) (tree (told e.of) to) e.taken) (λ ranged. none_held (decayed e.of) (tree (told e.of) to) (each (told e.of) to))

post_held : (p : Place) (op : Mark) (e : Typed) → IfFine IsHeld (post_rule p op e)
unfolding post_rule
post_held p op e = stepped_held p e (λ of to. typed.Post (at p of) to e.tree) (step_change op e.of) (λ of to. typed_Post (Option ℤ) value_step (at p of) to e.tree)

pre_held : (p : Place) (op : Mark) (e : Typed) → IfFine IsHeld (pre_rule p op e)
unfolding pre_rule
pre_held p op e = stepped_held p e (λ of to. typed.Pre (at p of) to e.tree) (step_change op e.of) (λ of to. typed_Pre (Option ℤ) value_step (at p of) to e.tree)

-- `sizeof` AND CASTS
size_held : (p : Place) (taken : List ℕ) (of : CType) → IfFine IsHeld (size_number p taken of)
size_held p taken ctype.Void = tt
size_held p taken (ctype.Number kind) = number_held p U64 (pos (size_of (ctype.Number kind)))
size_held p taken (ctype.Pointer e) = number_held p U64 (pos (size_of (ctype.Pointer e)))
size_held p taken (ctype.Array n e) = number_held p U64 (pos (size_of (ctype.Array n e)))

sizeof_held : (p : Place) (e : Typed) → IfFine IsHeld (sizeof_rule p e)
unfolding sizeof_rule
sizeof_held p e = size_held p e.taken e.of

sizeof_type_held : (p : Place) (specs : List Word) (stars : List Bool) → IfFine IsHeld (sizeof_type_rule p specs stars)
unfolding sizeof_type_rule
sizeof_type_held p specs stars = by (type_named specs stars)
  where
    by : (o : Option CType) → IfFine IsHeld (size_named p o)
    by None = tt
    by (Some of) = size_held p [] of

cast_number_held : (p : Place) (to : Kind) (e : Typed) (from : Option Kind) → IfFine IsHeld (cast_number p to e from)
cast_number_held p to e None = tt
cast_number_held p to e (Some from) = λ ranged. subst (HeldAs to) (sym (typed_Cast (Option ℤ) value_step (at p (ttype.Number to)) e.tree)) (converted_held to (value_of e.tree))

cast_pointer_held : (p : Place) (to : Element) (e : Typed) (from : Option Element) → IfFine IsHeld (cast_pointer p to e from)
cast_pointer_held p to e None = tt
cast_pointer_held p to e (Some from) = by (equal_element to from)
  where
    by : (b : Bool) → IfFine IsHeld (if b then Fine (operands.value (ctype.Pointer to) (typed.Cast (at p (pointer_to to)) e.tree) e.taken) else refused (fault.Kinds p))
    by true = λ ranged. tt
    by false = tt

cast_to_held : (p : Place) (o : Option CType) (e : Typed) → IfFine IsHeld (cast_to p o e)
cast_to_held p None e = tt
cast_to_held p (Some ctype.Void) e = λ ranged. tt
cast_to_held p (Some (ctype.Number to)) e = cast_number_held p to e (number_kind e.of)
cast_to_held p (Some (ctype.Pointer to)) e = cast_pointer_held p to e (pointed e.of)
cast_to_held p (Some (ctype.Array k to)) e = tt

cast_held : (p : Place) (specs : List Word) (stars : List Bool) (e : Typed) → IfFine IsHeld (cast_rule p specs stars e)
unfolding cast_rule
cast_held p specs stars e = cast_to_held p (type_named specs stars) e

-- CALLS have no value that is constant
with_held : (p : Place) (result : CType) (tree : List TExpr → TExpr) (taken : List ℕ) (given : Passing) → ((trees : List TExpr) → value_of (tree trees) ≡ None)
    → IfFine IsHeld (called_with p result tree taken given)
with_held p result tree taken (Passes trees) each = λ ranged. none_held result (tree trees) (each trees)
with_held p result tree taken WrongKind each = tt
with_held p result tree taken WrongCount each = tt

getchar_none : (p : Place) → value_of (typed.Getchar (at p (ttype.Number I32))) ≡ None
getchar_none p = typed_Getchar (Option ℤ) value_step (at p (ttype.Number I32))

putchar_none : (p : Place) (trees : List TExpr) → value_of (putchar_tree p trees) ≡ None
putchar_none p [] = getchar_none p
putchar_none p (tree ∷ trees) = typed_Putchar (Option ℤ) value_step (at p (ttype.Number I32)) tree

getchar_held : (p : Place) (args : List Typed) → IfFine IsHeld (getchar_called p args)
getchar_held p [] = λ ranged. none_held (ctype.Number I32) (typed.Getchar (at p (ttype.Number I32))) (getchar_none p)
getchar_held p (a ∷ args) = tt

line_held : (p : Place) (taken : List ℕ) (tree : TExpr) (o : Option (List ℕ)) → IfFine IsHeld (put_line p taken tree o)
line_held p taken tree None = tt
line_held p taken tree (Some bytes) = by (has_zero bytes)
  where
    by : (b : Bool) → IfFine IsHeld (if b then refused (fault.BadFormat p) else Fine (operands.number I32 (typed.Puts (at p (ttype.Number I32)) tree) taken))
    by true = tt
    by false = λ ranged. none_held (ctype.Number I32) (typed.Puts (at p (ttype.Number I32)) tree) (typed_Puts (Option ℤ) value_step (at p (ttype.Number I32)) tree)

puts_held : (p : Place) (args : List Typed) → IfFine IsHeld (puts_called p args)
puts_held p [] = tt
puts_held p (a ∷ []) = line_held p (all_taken (a ∷ [])) a.tree (bytes_in a.tree)
puts_held p (a ∷ b ∷ args) = tt

trees_held : (p : Place) (marks : List formats.FormatMark) (taken : List ℕ) (o : Option (List TExpr)) → IfFine IsHeld (print_trees p marks taken o)
trees_held p marks taken None = tt
trees_held p marks taken (Some trees) =
    λ ranged. none_held (ctype.Number I32) (typed.Printf (at p (ttype.Number I32)) (pieces_of marks) trees) (typed_Printf (Option ℤ) value_step (at p (ttype.Number I32)) (pieces_of marks) trees)

marks_held : (p : Place) (taken : List ℕ) (args : List Typed) (o : Option (List formats.FormatMark)) → IfFine IsHeld (print_marks p taken args o)
marks_held p taken args None = tt
marks_held p taken args (Some marks) = trees_held p marks taken (all_formatted (kinds_taken marks) args)

bytes_held : (p : Place) (taken : List ℕ) (args : List Typed) (o : Option (List ℕ)) → IfFine IsHeld (print_bytes p taken args o)
bytes_held p taken args None = tt
bytes_held p taken args (Some bytes) = marks_held p taken args (marks_of bytes)

printf_held : (p : Place) (args : List Typed) → IfFine IsHeld (printf_called p args)
printf_held p [] = tt
printf_held p (a ∷ args) = bytes_held p (all_taken (a ∷ args)) args (bytes_in a.tree)

library_held : (p : Place) (function : Library) (args : List Typed) → IfFine IsHeld (library_called p function args)
library_held p Getchar args = getchar_held p args
library_held p Putchar args = with_held p (ctype.Number I32) (putchar_tree p) (all_taken args) (passing (ctype.Number I32 ∷ []) args) (putchar_none p)
library_held p Puts args = puts_held p args
library_held p Printf args = printf_held p args

called_held : (p : Place) (x : List ℕ) (args : List Typed) (o : Option Meaning) → IfFine IsHeld (called p x args o)
called_held p x args None = tt
called_held p x args (Some (meaning.Variable n of fixed)) = tt
called_held p x args (Some (meaning.Object n of fixed)) = tt
called_held p x args (Some (meaning.Function s)) =
    with_held p s.result (λ trees. typed.Call (at p (told s.result)) s.number trees) (all_taken args) (passing s.params args)
    (λ trees. typed_Call (Option ℤ) value_step (at p (told s.result)) s.number trees)
called_held p x args (Some (meaning.Library function)) = library_held p function args

call_held : (names : Names) (p : Place) (x : List ℕ) (args : List Typed) → IfFine IsHeld (call_rule names p x args)
unfolding call_rule
call_held names p x args = called_held p x args (meaning_of names x)

-- OPERATORS WITH TWO OPERANDS
module _ (p : Place) (x y : Typed) (h : IsHeld x) where
  -- an operation on the left operand in the kind in which it is made
  made_held : (op : Bin) (i to wide other : Kind) → operand x.of ≡ ops.ANumber i → (to ≡ result_kind op wide) → (right : TExpr)
      → Ranged (typed.Binary (at p (ttype.Number to)) op wide (in_kind i wide x.tree) right) → HeldAs to (value_of (typed.Binary (at p (ttype.Number to)) op wide (in_kind i wide x.tree) right))
  made_held op i to wide other is same right ranged =
      let left : TExpr = in_kind i wide x.tree in
      let node = at p (ttype.Number to) in
      let both = and_parts (expr_passes asks left) (expr_passes asks right) (sym (typed_Binary Bool (expr_step asks) node op wide left right) ∙ ranged) in
      subst (HeldAs to) (sym (typed_Binary (Option ℤ) value_step node op wide left right))
      (subst (λ (j : Kind). HeldAs j (with_two (value_of left) (value_of right) (λ a b. untrapped (arithmetic.value op wide a b)))) (sym same)
      (binary_held op wide (value_of left) (value_of right) (in_kind_held i wide x.tree (λ one. by_operand x.of i (value_of x.tree) is (h one)) both.0)))

  common_held : (op : Bin) (i j : Kind) → operand x.of ≡ ops.ANumber i → IsHeld (common_of p op (result_kind op (common_kind i j)) (common_kind i j) i j x y)
  common_held op i j is = made_held op i (result_kind op (common_kind i j)) (common_kind i j) j is refl (in_kind j (common_kind i j) y.tree)

  numbers_held : (op : Bin) (i j : Kind) → operand x.of ≡ ops.ANumber i → IsHeld (on_numbers p op i j x y)
  numbers_held LogAnd i j is = λ ranged. subst (HeldAs I32) (sym (typed_Both (Option ℤ) value_step (at p (ttype.Number I32)) x.tree y.tree)) (both_held (value_of x.tree) (value_of y.tree))
  numbers_held LogOr i j is = λ ranged. subst (HeldAs I32) (sym (typed_Either (Option ℤ) value_step (at p (ttype.Number I32)) x.tree y.tree)) (either_held (value_of x.tree) (value_of y.tree))
  numbers_held Shl i j is = made_held Shl i (promoted i) (promoted i) j is refl (in_kind j (promoted j) y.tree)
  numbers_held Shr i j is = made_held Shr i (promoted i) (promoted i) j is refl (in_kind j (promoted j) y.tree)
  numbers_held op i j is = common_held op i j is

  pointer_number_held : (op : Bin) (e : Element) → IfFine IsHeld (pointer_and_number p op e x y)
  pointer_number_held Add e = λ ranged. tt
  pointer_number_held Sub e = λ ranged. tt
  pointer_number_held _ e = tt

  number_pointer_held : (op : Bin) (e : Element) → IfFine IsHeld (number_and_pointer p op e x y)
  number_pointer_held Add e = λ ranged. tt
  number_pointer_held _ e = tt

  compare_held : (op : Bin) (b : Bool)
      → IfFine IsHeld (if b then Fine (operands.number I32 (typed.PtrCompare (at p (ttype.Number I32)) op x.tree y.tree) (taken_in x y)) else refused (fault.Kinds p))
  compare_held op true = λ ranged. none_held (ctype.Number I32) (typed.PtrCompare (at p (ttype.Number I32)) op x.tree y.tree) (typed_PtrCompare (Option ℤ) value_step (at p (ttype.Number I32)) op x.tree y.tree)
  compare_held op false = tt

  equal_pointers_held : (op : Bin) → IfFine IsHeld (equal_pointers p op x y)
  equal_pointers_held Sub = λ ranged. none_held (ctype.Number I64) (typed.PtrDistance (at p (ttype.Number I64)) x.tree y.tree) (typed_PtrDistance (Option ℤ) value_step (at p (ttype.Number I64)) x.tree y.tree)
  equal_pointers_held op = compare_held op (compares op)

  two_pointers_held : (op : Bin) (d e : Element) → IfFine IsHeld (two_pointers p op d e x y)
  two_pointers_held op d e = by (same_element d e)
    where
      by : (b : Bool) → IfFine IsHeld (if b then equal_pointers p op x y else refused (fault.Kinds p))
      by true = equal_pointers_held op
      by false = tt

  operated_held : (op : Bin) (l r : Operand) → operand x.of ≡ l → IfFine IsHeld (operated p op l r x y)
  operated_held op (ops.ANumber i) (ops.ANumber j) is = numbers_held op i j is
  operated_held op (ops.APointer d) (ops.ANumber j) is = pointer_number_held op d
  operated_held op (ops.ANumber i) (ops.APointer e) is = number_pointer_held op e
  operated_held op (ops.APointer d) (ops.APointer e) is = two_pointers_held op d e
  operated_held op ops.Nothing r is = tt
  operated_held op (ops.ANumber i) ops.Nothing is = tt
  operated_held op (ops.APointer d) ops.Nothing is = tt

  by_operator : (o : Option Bin) → IfFine IsHeld (operated_by p o x y)
  by_operator None = tt
  by_operator (Some op) = operated_held op (operand x.of) (operand y.of) refl

binary_is_held : (p : Place) (op : Mark) (x y : Typed) → IsHeld x → IfFine IsHeld (binary_rule p op x y)
unfolding binary_rule
binary_is_held p op x y h = by_operator p x y h (operator_of op)

-- `?:`
module _ (p : Place) (t x y : Typed) (h : IsHeld x) (k : IsHeld y) where
  arms_held : (a b : Operand) → operand x.of ≡ a → operand y.of ≡ b → IfFine IsHeld (arms p a b t x y)
  arms_held (ops.ANumber i) (ops.ANumber j) is also = λ ranged.
      let wide : Kind = common_kind i j in
      let a : TExpr = in_kind i wide x.tree in
      let b : TExpr = in_kind j wide y.tree in
      let node = at p (ttype.Number wide) in
      let all = and_parts (expr_passes asks t.tree) (expr_passes asks a && expr_passes asks b) (sym (typed_Cond Bool (expr_step asks) node t.tree a b) ∙ ranged) in
      let both = and_parts (expr_passes asks a) (expr_passes asks b) all.1 in
      subst (HeldAs wide) (sym (typed_Cond (Option ℤ) value_step node t.tree a b))
      (chosen_held wide (value_of t.tree) (value_of a) (value_of b) (in_kind_held i wide x.tree (λ one. by_operand x.of i (value_of x.tree) is (h one)) both.0)
      (in_kind_held j wide y.tree (λ one. by_operand y.of j (value_of y.tree) also (k one)) both.1))
  arms_held (ops.APointer d) (ops.APointer e) is also = by (equal_element d e)
    where
      by : (b : Bool) → IfFine IsHeld (if b then Fine (operands.value (ctype.Pointer d) (typed.Cond (at p (pointer_to d)) t.tree x.tree y.tree) (taken_in_three t x y)) else refused (fault.Kinds p))
      by true = λ ranged. tt
      by false = tt
  arms_held ops.Nothing ops.Nothing is also = λ ranged. tt
  arms_held ops.Nothing (ops.ANumber j) is also = tt
  arms_held ops.Nothing (ops.APointer e) is also = tt
  arms_held (ops.ANumber i) ops.Nothing is also = tt
  arms_held (ops.ANumber i) (ops.APointer e) is also = tt
  arms_held (ops.APointer d) ops.Nothing is also = tt
  arms_held (ops.APointer d) (ops.ANumber j) is also = tt

  tested_held : (kind : Option Kind) → IfFine IsHeld (cond_of_kind p kind t x y)
  tested_held None = tt
  tested_held (Some kind) = arms_held (operand x.of) (operand y.of) refl refl

cond_held : (p : Place) (t x y : Typed) → IsHeld x → IsHeld y → IfFine IsHeld (cond_rule p t x y)
unfolding cond_rule
cond_held p t x y h k = tested_held p t x y h k (number_kind t.of)

-- ASSIGNMENTS AND THE COMMA
module _ (p : Place) (x y : Typed) where
  set_held : (o : Option TExpr) → IfFine IsHeld (assigned p x y o)
  set_held None = tt
  set_held (Some tree) =
      written_held p x.place (operands.value (decayed x.of) (typed.Assign (at p (told x.of)) x.tree tree) (taken_in x y))
      (λ ranged. none_held (decayed x.of) (typed.Assign (at p (told x.of)) x.tree tree) (typed_Assign (Option ℤ) value_step (at p (told x.of)) x.tree tree))

  changed_held : (to : Change) (tree : TExpr) → IfFine IsHeld (changed p x y to tree)
  changed_held to tree =
      written_held p x.place (operands.value (decayed x.of) (typed.AssignBy (at p (told x.of)) to x.tree tree) (taken_in x y))
      (λ ranged. none_held (decayed x.of) (typed.AssignBy (at p (told x.of)) to x.tree tree) (typed_AssignBy (Option ℤ) value_step (at p (told x.of)) to x.tree tree))

  moved_held : (op : Bin) → IfFine IsHeld (moved p op x y)
  moved_held Add = changed_held change.Forward y.tree
  moved_held Sub = changed_held change.Back y.tree
  moved_held _ = tt

  changed_by_held : (op : Bin) (l r : Operand) → IfFine IsHeld (changed_by p op l r x y)
  changed_by_held op (ops.ANumber i) (ops.ANumber j) = changed_held (change.Number op (change_kind op i j)) (number_in_kind j (right_kind op i j) y.tree)
  changed_by_held op (ops.APointer d) (ops.ANumber j) = moved_held op
  changed_by_held op (ops.ANumber i) (ops.APointer e) = tt
  changed_by_held op (ops.APointer d) (ops.APointer e) = tt
  changed_by_held op ops.Nothing r = tt
  changed_by_held op (ops.ANumber i) ops.Nothing = tt
  changed_by_held op (ops.APointer d) ops.Nothing = tt

  assign_by_held : (o : Option Bin) → IfFine IsHeld (assign_by p o x y)
  assign_by_held None = set_held (passed x.of y)
  assign_by_held (Some op) = changed_by_held op (operand x.of) (operand y.of)

assign_held : (p : Place) (op : Mark) (x y : Typed) → IfFine IsHeld (assign_rule p op x y)
unfolding assign_rule
assign_held p op x y = assign_by_held p x y (compound_operator_of op)

comma_held : (p : Place) (x y : Typed) → IfFine IsHeld (comma_rule p x y)
unfolding comma_rule
comma_held p x y = λ ranged. none_held (decayed y.of) (typed.Comma (at p (told y.of)) x.tree y.tree) (typed_Comma (Option ℤ) value_step (at p (told y.of)) x.tree y.tree)

-- EXPRESSIONS
makes : (m : Made Typed) (v : Typed) → m ≡ Fine v → IfFine IsHeld m → IsHeld v
makes m v is h = subst (IfFine IsHeld) is h

by_name : (names : Names) (p : Place) (x : List ℕ) → IfFine IsHeld (name_rule names p x)
unfolding name_rule
by_name names p x = name_held p x (meaning_of names x)

by_number : (p : Place) (kind : Kind) (n : ℕ) → IfFine IsHeld (number_rule p kind n)
unfolding number_rule
by_number p kind n = number_held p kind (pos n)

by_character : (p : Place) (z : ℤ) → IfFine IsHeld (char_rule p z)
unfolding char_rule
by_character p z = number_held p I32 z

by_string : (p : Place) (bytes : List ℕ) → IfFine IsHeld (string_rule p bytes)
unfolding string_rule
by_string p bytes = λ ranged. tt

by_index : (p : Place) (a b : Typed) → IfFine IsHeld (index_rule p a b)
unfolding index_rule
by_index p a b = index_held p a b (pointed a.of) (number_kind b.of)

-- THE VALUE OF A CONSTANT EXPRESSION is of its type
pub constants_held : (names : Names) (e : Expr) (v : Typed) → Elab names e v → IsHeld v
constants_held _ _ _ (name names p x v is) = makes (name_rule names p x) v is (by_name names p x)
constants_held _ _ _ (number names p kind n v is) = makes (number_rule p kind n) v is (by_number p kind n)
constants_held _ _ _ (character names p z v is) = makes (char_rule p z) v is (by_character p z)
constants_held _ _ _ (string names p bytes v is) = makes (string_rule p bytes) v is (by_string p bytes)
constants_held _ _ _ (paren names p e v x) = constants_held names e v x
constants_held _ _ _ (index names p a b x y v l r is) = makes (index_rule p x y) v is (by_index p x y)
constants_held _ _ _ (call names p f args xs v all is) = makes (call_rule names p f xs) v is (call_held names p f xs)
constants_held _ _ _ (postfix names p op a x v l is) = makes (post_rule p op x) v is (post_held p op x)
constants_held _ _ _ (prefix names p op a x v l is) = makes (pre_rule p op x) v is (pre_held p op x)
constants_held _ _ _ (unary names p op a x v l is) = makes (unary_rule p op x) v is (unary_is_held p x (constants_held names a x l) op)
constants_held _ _ _ (sizeof_expr names p a x v l is) = makes (sizeof_rule p x) v is (sizeof_held p x)
constants_held _ _ _ (sizeof_type names p specs stars v is) = makes (sizeof_type_rule p specs stars) v is (sizeof_type_held p specs stars)
constants_held _ _ _ (cast names p specs stars a x v l is) = makes (cast_rule p specs stars x) v is (cast_held p specs stars x)
constants_held _ _ _ (binary names p op a b x y v l r is) = makes (binary_rule p op x y) v is (binary_is_held p op x y (constants_held names a x l))
constants_held _ _ _ (conditional names p a b c x y z v l r s is) = makes (cond_rule p x y z) v is (cond_held p x y z (constants_held names b y r) (constants_held names c z s))
constants_held _ _ _ (assignment names p op a b x y v l r is) = makes (assign_rule p op x y) v is (assign_held p op x y)
constants_held _ _ _ (comma names p a b x y v l r is) = makes (comma_rule p x y) v is (comma_held p x y)
