-- Judging an expression makes a tree without numbers.
use Rattle.std.proofs.Common.{ℕ, ℤ, ◌≡◌, subst, Bool, true, false, cond, List, [], ◌∷◌, map, Option, Some, None}
use Rattle.k_num.specs.declared.numbers.Bin.{Bin}
use Rattle.k_num.specs.declared.numbers.Bin.TheVariants.{Add, Sub, Shl, Shr, LogAnd, LogOr}
use Rattle.k_num.specs.declared.numbers.Kind.{Kind}
use Rattle.k_num.specs.declared.numbers.Kind.TheVariants.{I32, I64, U64}
use Rattle.k_num.specs.declared.numbers.Un.{Un}
use Rattle.k_num.specs.declared.numbers.Un.TheVariants as un
use Rattle.k_num.specs.declared.place.Place.{Place}
use Rattle.k_num.specs.Kind.{promoted, common_kind, size}
use Rattle.k_tree.specs.declared.tokens.mark.Mark.{Mark}
use Rattle.k_tree.specs.declared.tokens.mark.Mark.TheVariants as mark
use Rattle.k_tree.specs.declared.tokens.word.Word.{Word}
use Rattle.k_tree.specs.declared.tree.expression.Expr.{Expr}
use Rattle.k_tree.specs.Operators.{operator_of, compound_operator_of}
use Rattle.k_types_meaning.specs.declared.fault.TypeFault.TheVariants as fault
use Rattle.k_types_meaning.specs.declared.names.Library.{Library}
use Rattle.k_types_meaning.specs.declared.names.Library.TheVariants.{Getchar, Putchar, Puts, Printf}
use Rattle.k_types_meaning.specs.declared.names.Meaning.{Meaning}
use Rattle.k_types_meaning.specs.declared.names.Meaning.TheVariants as meaning
use Rattle.k_types_meaning.specs.declared.names.Signature.{Signature}
use Rattle.k_types_meaning.specs.declared.tree.expression.Change.{Change}
use Rattle.k_types_meaning.specs.declared.tree.expression.Change.TheVariants as change
use Rattle.k_types_meaning.specs.declared.tree.expression.TExpr.{TExpr}
use Rattle.k_types_meaning.specs.declared.tree.expression.TExpr.TheVariants as typed
use Rattle.k_types_meaning.specs.declared.types.CType.{CType}
use Rattle.k_types_meaning.specs.declared.types.CType.TheVariants as ctype
use Rattle.k_types_meaning.specs.declared.types.Element.{Element}
use Rattle.k_types_meaning.specs.declared.types.TType.{TType}
use Rattle.k_types_meaning.specs.declared.types.TType.TheVariants as ttype
use Rattle.k_types_meaning.specs.CallRules.{Passing, Passes, WrongKind, WrongCount, all_formatted, all_taken, bytes_in, call_rule, called, called_with, formatted, function_called, getchar_called, has_zero, library_called, passed_before, passing, print_bytes, print_marks, print_trees, printf_called, put_line, putchar_called, putchar_tree, puts_called, tree_before}
use Rattle.k_types_meaning.specs.Conversions.{Typed, at, in_kind, keeps_const, number_in_kind, passed, passed_number, passed_pointer}
use Rattle.k_types_meaning.specs.Elaborated.{Elab, ElabAll, name, number, character, string, paren, index, call, postfix, prefix, unary, sizeof_expr, sizeof_type, cast, binary, conditional, assignment, comma, no_args, more_args}
use Rattle.k_types_meaning.specs.Expressions.{judge}
use Rattle.k_types_meaning.specs.Formats as formats
use Rattle.k_types_meaning.specs.Formats.{kinds_taken, marks_of, pieces_of}
use Rattle.k_types_meaning.specs.Made.{Made, Fine, refused}
use Rattle.k_types_meaning.specs.Names.{Names, meaning_of}
use Rattle.k_types_meaning.specs.Operands as operands
use Rattle.k_types_meaning.specs.Operands.{addressed, cast_number, cast_pointer, cast_rule, cast_to, char_rule, index_rule, indexed, name_rule, named, number_rule, of_number, plus_of, pointed_to, post_rule, pre_rule, size_named, size_number, sizeof_rule, sizeof_type_rule, step_change, stepped, string_rule, string_type, unary_kind, unary_of, unary_rule, value, variable_step, written}
use Rattle.k_types_meaning.specs.Operators.{Operand, Nothing, ANumber, APointer, arms, assign_by, assign_rule, assigned, binary_rule, change_kind, changed, changed_by, comma_rule, common_of, compares, cond_rule, equal_pointers, moved, number_and_pointer, on_numbers, operand, operated, operated_by, pointer_and_number, right_kind, set_rule, shift_of, taken_in, taken_in_three, cond_of_kind, two_pointers}
use Rattle.k_types_meaning.specs.Specifiers.{type_named}
use Rattle.k_types_meaning.specs.Types.{as_type, decayed, equal_element, number_kind, pointed, pointer_to, same_element, told}
use Rattle.k_types_meaning.proofs.Elaborates.{sound}
use Rattle.k_types_meaning.proofs.Fine.{AllOf, IfFine, IfThere, cond_has, if_fine}
use Rattle.k_types_bare.proofs.Nodes.{IsBare, bare_Number, bare_Str, bare_Object, bare_Variable, bare_Index, bare_Call, bare_Getchar, bare_Putchar, bare_Puts, bare_Printf, bare_Post, bare_Pre, bare_Address, bare_Deref, bare_Plus, bare_Unary, bare_Cast, bare_Binary, bare_Both, bare_Either, bare_Forward, bare_Onto, bare_Back, bare_PtrCompare, bare_PtrDistance, bare_Cond, bare_Assign, bare_AssignBy, bare_Comma, bare_in_kind, bare_number_in_kind}

-- a judged expression has no numbers
abbrev pub IsBareTyped : Typed → Type 0
IsBareTyped v = IsBare v.tree

-- what is made has no numbers
abbrev pub BareMade : Made Typed → Type 0
BareMade m = IfFine IsBareTyped m

-- names and constants
bare_named : (p : Place) (x : List ℕ) (m : Option Meaning) → BareMade (named p x m)
bare_named p x None = tt
bare_named p x (Some (meaning.Variable n of fixed)) = bare_Variable p (told of) n
bare_named p x (Some (meaning.Object n of fixed)) = bare_Object p (told of) n
bare_named p x (Some (meaning.Function signature)) = tt
bare_named p x (Some (meaning.Library function)) = tt

bare_name : (names : Names) (p : Place) (x : List ℕ) → BareMade (name_rule names p x)
unfolding name_rule
bare_name names p x = bare_named p x (meaning_of names x)

bare_number : (p : Place) (kind : Kind) (n : ℕ) → BareMade (number_rule p kind n)
unfolding number_rule
bare_number p kind n = bare_Number p (ttype.Number kind) _

bare_char : (p : Place) (z : ℤ) → BareMade (char_rule p z)
unfolding char_rule
bare_char p z = bare_Number p (ttype.Number I32) z

bare_string : (p : Place) (bytes : List ℕ) → BareMade (string_rule p bytes)
unfolding string_rule
bare_string p bytes = bare_Str p (told (string_type bytes)) bytes

-- an index
bare_indexed : (p : Place) (x y : Typed) (e : Option Element) (k : Option Kind) → IsBareTyped x → IsBareTyped y → BareMade (indexed p x y e k)
bare_indexed p x y None k hx hy = tt
bare_indexed p x y (Some e) None hx hy = tt
bare_indexed p x y (Some e) (Some k) hx hy = bare_Index p (told (as_type e.kind e.dims e.fixed)) x.tree y.tree hx hy

bare_index : (p : Place) (x y : Typed) → IsBareTyped x → IsBareTyped y → BareMade (index_rule p x y)
unfolding index_rule
bare_index p x y hx hy = bare_indexed p x y (pointed x.of) (number_kind y.of) hx hy

-- operators with one operand
bare_pointed_to : (p : Place) (v : Typed) (e : Option Element) → IsBareTyped v → BareMade (pointed_to p v e)
bare_pointed_to p v None h = tt
bare_pointed_to p v (Some e) h = bare_Deref p (told (as_type e.kind e.dims e.fixed)) v.tree h

bare_addressed : (p : Place) (v : Typed) (k : Option Kind) (fixed : Option Bool) → IsBareTyped v → BareMade (addressed p v k fixed)
bare_addressed p v None fixed h = tt
bare_addressed p v (Some kind) None h = tt
bare_addressed p v (Some kind) (Some fixed) h = bare_Address p (pointer_to (record { kind = kind; dims = []; fixed = fixed })) v.tree h

bare_of_number : (p : Place) (v : Typed) (k : Option Kind) (made : Kind → Typed) → ((kind : Kind) → IsBareTyped (made kind)) → BareMade (of_number p v k made)
bare_of_number p v None made each = tt
bare_of_number p v (Some kind) made each = each kind

bare_plus : (p : Place) (v : Typed) → IsBareTyped v → (kind : Kind) → IsBareTyped (plus_of p v kind)
bare_plus p v h kind = bare_Plus p (ttype.Number (promoted kind)) (in_kind kind (promoted kind) v.tree) (bare_in_kind kind (promoted kind) v.tree h)

bare_unary_of : (p : Place) (op : Un) (v : Typed) → IsBareTyped v → (kind : Kind) → IsBareTyped (unary_of p op v kind)
bare_unary_of p op v h kind =
    bare_Unary p (ttype.Number (unary_kind op (promoted kind))) op (promoted kind) (in_kind kind (promoted kind) v.tree) (bare_in_kind kind (promoted kind) v.tree h)

bare_unary : (p : Place) (op : Mark) (v : Typed) → IsBareTyped v → BareMade (unary_rule p op v)
unfolding unary_rule
bare_unary p mark.Ampersand v h = bare_addressed p v (number_kind v.of) v.place h
bare_unary p mark.Star v h = bare_pointed_to p v (pointed v.of) h
bare_unary p mark.Plus v h = bare_of_number p v (number_kind v.of) (plus_of p v) (bare_plus p v h)
bare_unary p mark.Minus v h = bare_of_number p v (number_kind v.of) (unary_of p un.Neg v) (bare_unary_of p un.Neg v h)
bare_unary p mark.Tilde v h = bare_of_number p v (number_kind v.of) (unary_of p un.Complement v) (bare_unary_of p un.Complement v h)
bare_unary p mark.Exclaim v h = bare_of_number p v (number_kind v.of) (unary_of p un.Not v) (bare_unary_of p un.Not v h)
bare_unary p _ v h = tt

bare_written : (p : Place) (o : Option Bool) (v : Typed) → IsBareTyped v → BareMade (written p o v)
bare_written p None v h = tt
bare_written p (Some true) v h = tt
bare_written p (Some false) v h = h

bare_stepped : (p : Place) (v : Typed) (tree : TType → Change → TExpr) (o : Option Change) → ((of : TType) (c : Change) → IsBare (tree of c)) → BareMade (stepped p v tree o)
bare_stepped p v tree None each = tt
bare_stepped p v tree (Some c) each = bare_written p v.place (value (decayed v.of) (tree (told v.of) c) v.taken) (each (told v.of) c)

bare_post : (p : Place) (op : Mark) (v : Typed) → IsBareTyped v → BareMade (post_rule p op v)
unfolding post_rule
bare_post p op v h = bare_stepped p v (λ of c. typed.Post (at p of) c v.tree) (step_change op v.of) (λ of c. bare_Post p of c v.tree h)

bare_pre : (p : Place) (op : Mark) (v : Typed) → IsBareTyped v → BareMade (pre_rule p op v)
unfolding pre_rule
bare_pre p op v h = bare_stepped p v (λ of c. typed.Pre (at p of) c v.tree) (step_change op v.of) (λ of c. bare_Pre p of c v.tree h)

-- sizeof and casts
bare_size : (p : Place) (taken : List ℕ) (of : CType) → BareMade (size_number p taken of)
bare_size p taken ctype.Void = tt
bare_size p taken (ctype.Number kind) = bare_Number p (ttype.Number U64) _
bare_size p taken (ctype.Pointer e) = bare_Number p (ttype.Number U64) _
bare_size p taken (ctype.Array count e) = bare_Number p (ttype.Number U64) _

bare_sizeof : (p : Place) (v : Typed) → BareMade (sizeof_rule p v)
unfolding sizeof_rule
bare_sizeof p v = bare_size p v.taken v.of

bare_size_named : (p : Place) (of : Option CType) → BareMade (size_named p of)
bare_size_named p None = tt
bare_size_named p (Some of) = bare_size p [] of

bare_sizeof_type : (p : Place) (specs : List Word) (stars : List Bool) → BareMade (sizeof_type_rule p specs stars)
unfolding sizeof_type_rule
bare_sizeof_type p specs stars = bare_size_named p (type_named specs stars)

bare_cast_number : (p : Place) (to : Kind) (v : Typed) (k : Option Kind) → IsBareTyped v → BareMade (cast_number p to v k)
bare_cast_number p to v None h = tt
bare_cast_number p to v (Some from) h = bare_Cast p (ttype.Number to) v.tree h

bare_cast_pointer : (p : Place) (to : Element) (v : Typed) (e : Option Element) → IsBareTyped v → BareMade (cast_pointer p to v e)
bare_cast_pointer p to v None h = tt
bare_cast_pointer p to v (Some from) h =
    cond_has IsBareTyped (equal_element to from) (Fine (value (ctype.Pointer to) (typed.Cast (at p (pointer_to to)) v.tree) v.taken)) (refused (fault.Kinds p))
    (bare_Cast p (pointer_to to) v.tree h) tt

bare_cast_to : (p : Place) (of : Option CType) (v : Typed) → IsBareTyped v → BareMade (cast_to p of v)
bare_cast_to p None v h = tt
bare_cast_to p (Some ctype.Void) v h = bare_Cast p ttype.Void v.tree h
bare_cast_to p (Some (ctype.Number to)) v h = bare_cast_number p to v (number_kind v.of) h
bare_cast_to p (Some (ctype.Pointer to)) v h = bare_cast_pointer p to v (pointed v.of) h
bare_cast_to p (Some (ctype.Array count to)) v h = tt

bare_cast : (p : Place) (specs : List Word) (stars : List Bool) (v : Typed) → IsBareTyped v → BareMade (cast_rule p specs stars v)
unfolding cast_rule
bare_cast p specs stars v h = bare_cast_to p (type_named specs stars) v h

-- operators with two operands
module _ (p : Place) (l r : Typed) (hl : IsBareTyped l) (hr : IsBareTyped r) where
  bare_shift : (op : Bin) (j k : Kind) → IsBareTyped (shift_of p op j k l r)
  bare_shift op j k =
      bare_Binary p (ttype.Number (promoted j)) op (promoted j) (in_kind j (promoted j) l.tree) (in_kind k (promoted k) r.tree)
      (bare_in_kind j (promoted j) l.tree hl) (bare_in_kind k (promoted k) r.tree hr)

  bare_common : (op : Bin) (result common j k : Kind) → IsBareTyped (common_of p op result common j k l r)
  bare_common op result common j k =
      bare_Binary p (ttype.Number result) op common (in_kind j common l.tree) (in_kind k common r.tree)
      (bare_in_kind j common l.tree hl) (bare_in_kind k common r.tree hr)

  bare_on_numbers : (op : Bin) (j k : Kind) → IsBareTyped (on_numbers p op j k l r)
  bare_on_numbers LogAnd j k = bare_Both p (ttype.Number I32) l.tree r.tree hl hr
  bare_on_numbers LogOr j k = bare_Either p (ttype.Number I32) l.tree r.tree hl hr
  bare_on_numbers Shl j k = bare_shift Shl j k
  bare_on_numbers Shr j k = bare_shift Shr j k
  bare_on_numbers op j k = bare_common op (cond (compares op) I32 (common_kind j k)) (common_kind j k) j k

  bare_pointer_and_number : (op : Bin) (e : Element) → BareMade (pointer_and_number p op e l r)
  bare_pointer_and_number Add e = bare_Forward p (pointer_to e) l.tree r.tree hl hr
  bare_pointer_and_number Sub e = bare_Back p (pointer_to e) l.tree r.tree hl hr
  bare_pointer_and_number _ e = tt

  bare_number_and_pointer : (op : Bin) (e : Element) → BareMade (number_and_pointer p op e l r)
  bare_number_and_pointer Add e = bare_Onto p (pointer_to e) l.tree r.tree hl hr
  bare_number_and_pointer _ e = tt

  bare_compared : (op : Bin) → BareMade (equal_pointers p op l r)
  bare_compared Sub = bare_PtrDistance p (ttype.Number I64) l.tree r.tree hl hr
  bare_compared op =
      cond_has IsBareTyped (compares op) (Fine (operands.number I32 (typed.PtrCompare (at p (ttype.Number I32)) op l.tree r.tree) (taken_in l r))) (refused (fault.Kinds p))
      (bare_PtrCompare p (ttype.Number I32) op l.tree r.tree hl hr) tt

  bare_two_pointers : (op : Bin) (a b : Element) → BareMade (two_pointers p op a b l r)
  bare_two_pointers op a b = cond_has IsBareTyped (same_element a b) (equal_pointers p op l r) (refused (fault.Kinds p)) (bare_compared op) tt

  bare_operated : (op : Bin) (a b : Operand) → BareMade (operated p op a b l r)
  bare_operated op (ANumber j) (ANumber k) = bare_on_numbers op j k
  bare_operated op (APointer a) (ANumber k) = bare_pointer_and_number op a
  bare_operated op (ANumber j) (APointer b) = bare_number_and_pointer op b
  bare_operated op (APointer a) (APointer b) = bare_two_pointers op a b
  bare_operated op Nothing b = tt
  bare_operated op (ANumber j) Nothing = tt
  bare_operated op (APointer a) Nothing = tt

  bare_operated_by : (op : Option Bin) → BareMade (operated_by p op l r)
  bare_operated_by None = tt
  bare_operated_by (Some op) = bare_operated op (operand l.of) (operand r.of)

  bare_binary : (op : Mark) → BareMade (binary_rule p op l r)
  unfolding binary_rule
  bare_binary op = bare_operated_by (operator_of op)

  bare_comma : BareMade (comma_rule p l r)
  unfolding comma_rule
  bare_comma = bare_Comma p (told r.of) l.tree r.tree hl hr

-- the arms of `?:`
module _ (p : Place) (t a b : Typed) (ht : IsBareTyped t) (ha : IsBareTyped a) (hb : IsBareTyped b) where
  bare_arms : (x y : Operand) → BareMade (arms p x y t a b)
  bare_arms (ANumber j) (ANumber k) =
      bare_Cond p (ttype.Number (common_kind j k)) t.tree (in_kind j (common_kind j k) a.tree) (in_kind k (common_kind j k) b.tree) ht
      (bare_in_kind j (common_kind j k) a.tree ha) (bare_in_kind k (common_kind j k) b.tree hb)
  bare_arms (APointer e) (APointer f) =
      cond_has IsBareTyped (equal_element e f) (Fine (value (ctype.Pointer e) (typed.Cond (at p (pointer_to e)) t.tree a.tree b.tree) (taken_in_three t a b))) (refused (fault.Kinds p))
      (bare_Cond p (pointer_to e) t.tree a.tree b.tree ht ha hb) tt
  bare_arms Nothing Nothing = bare_Cond p ttype.Void t.tree a.tree b.tree ht ha hb
  bare_arms Nothing (ANumber k) = tt
  bare_arms Nothing (APointer f) = tt
  bare_arms (ANumber j) Nothing = tt
  bare_arms (ANumber j) (APointer f) = tt
  bare_arms (APointer e) Nothing = tt
  bare_arms (APointer e) (ANumber k) = tt

  bare_tested : (k : Option Kind) → BareMade (cond_of_kind p k t a b)
  bare_tested None = tt
  bare_tested (Some kind) = bare_arms (operand a.of) (operand b.of)

  bare_conditional : BareMade (cond_rule p t a b)
  unfolding cond_rule
  bare_conditional = bare_tested (number_kind t.of)

-- what is passed to a type
abbrev pub BareOption : Option TExpr → Type 0
BareOption o = IfThere IsBare o

bare_passed_number : (to : Kind) (e : TExpr) (k : Option Kind) → IsBare e → BareOption (passed_number to e k)
bare_passed_number to e None h = tt
bare_passed_number to e (Some from) h = bare_in_kind from to e h

bare_if : (b : Bool) (e : TExpr) → IsBare e → BareOption (cond b (Some e) None)
bare_if true e h = h
bare_if false e h = tt

bare_passed_pointer : (to : Element) (e : TExpr) (o : Option Element) → IsBare e → BareOption (passed_pointer to e o)
bare_passed_pointer to e None h = tt
bare_passed_pointer to e (Some from) h = bare_if (keeps_const to from) e h

pub bare_passed : (of : CType) (v : Typed) → IsBareTyped v → BareOption (passed of v)
unfolding passed
bare_passed ctype.Void v h = tt
bare_passed (ctype.Number kind) v h = bare_passed_number kind v.tree (number_kind v.of) h
bare_passed (ctype.Pointer e) v h = bare_passed_pointer e v.tree (pointed v.of) h
bare_passed (ctype.Array count e) v h = bare_passed_pointer e v.tree (pointed v.of) h

-- assignments
module _ (p : Place) (l r : Typed) (hl : IsBareTyped l) (hr : IsBareTyped r) where
  bare_assigned : (o : Option TExpr) → BareOption o → BareMade (assigned p l r o)
  bare_assigned None h = tt
  bare_assigned (Some tree) h = bare_written p l.place (value (decayed l.of) (typed.Assign (at p (told l.of)) l.tree tree) (taken_in l r)) (bare_Assign p (told l.of) l.tree tree hl h)

  bare_changed : (c : Change) (tree : TExpr) → IsBare tree → BareMade (changed p l r c tree)
  bare_changed c tree h = bare_written p l.place (value (decayed l.of) (typed.AssignBy (at p (told l.of)) c l.tree tree) (taken_in l r)) (bare_AssignBy p (told l.of) c l.tree tree hl h)

  bare_moved : (op : Bin) → BareMade (moved p op l r)
  bare_moved Add = bare_changed change.Forward r.tree hr
  bare_moved Sub = bare_changed change.Back r.tree hr
  bare_moved _ = tt

  bare_changed_by : (op : Bin) (a b : Operand) → BareMade (changed_by p op a b l r)
  bare_changed_by op (ANumber j) (ANumber k) =
      bare_changed (change.Number op (change_kind op j k)) (number_in_kind k (right_kind op j k) r.tree) (bare_number_in_kind k (right_kind op j k) r.tree hr)
  bare_changed_by op (APointer a) (ANumber k) = bare_moved op
  bare_changed_by op (ANumber j) (APointer b) = tt
  bare_changed_by op (APointer a) (APointer b) = tt
  bare_changed_by op Nothing b = tt
  bare_changed_by op (ANumber j) Nothing = tt
  bare_changed_by op (APointer a) Nothing = tt

  bare_assign_by : (op : Option Bin) → BareMade (assign_by p op l r)
  bare_assign_by None = bare_assigned (passed l.of r) (bare_passed l.of r hr)
  bare_assign_by (Some op) = bare_changed_by op (operand l.of) (operand r.of)

  bare_assignment : (op : Mark) → BareMade (assign_rule p op l r)
  unfolding assign_rule
  bare_assignment op = bare_assign_by (compound_operator_of op)

-- arguments that are passed
abbrev BarePassing : Passing → Type 0
BarePassing (Passes trees) = AllOf IsBare trees
BarePassing WrongKind = Unit {0}
BarePassing WrongCount = Unit {0}

bare_passed_before : (o : Option TExpr) (rest : Passing) → BareOption o → BarePassing rest → BarePassing (passed_before o rest)
bare_passed_before None rest h k = tt
bare_passed_before (Some tree) (Passes trees) h k = (h, k)
bare_passed_before (Some tree) WrongKind h k = tt
bare_passed_before (Some tree) WrongCount h k = tt

bare_passing : (params : List CType) (args : List Typed) → AllOf IsBareTyped args → BarePassing (passing params args)
bare_passing [] [] all = tt
bare_passing [] (a ∷ args) all = tt
bare_passing (t ∷ params) [] all = tt
bare_passing (t ∷ params) (a ∷ args) all = bare_passed_before (passed t a) (passing params args) (bare_passed t a all.0) (bare_passing params args all.1)

bare_called_with : (p : Place) (result : CType) (tree : List TExpr → TExpr) (taken : List ℕ) (o : Passing) → ((trees : List TExpr) → AllOf IsBare trees → IsBare (tree trees))
    → BarePassing o → BareMade (called_with p result tree taken o)
bare_called_with p result tree taken (Passes trees) each h = each trees h
bare_called_with p result tree taken WrongKind each h = tt
bare_called_with p result tree taken WrongCount each h = tt

bare_function_called : (p : Place) (f : Signature) (args : List Typed) → AllOf IsBareTyped args → BareMade (function_called p f args)
bare_function_called p f args all =
    bare_called_with p f.result (λ trees. typed.Call (at p (told f.result)) f.number trees) (all_taken args) (passing f.params args)
    (λ trees bare. bare_Call p (told f.result) f.number trees bare) (bare_passing f.params args all)

bare_getchar : (p : Place) (args : List Typed) → BareMade (getchar_called p args)
bare_getchar p [] = bare_Getchar p (ttype.Number I32)
bare_getchar p (a ∷ args) = tt

bare_putchar_tree : (p : Place) (trees : List TExpr) → AllOf IsBare trees → IsBare (putchar_tree p trees)
bare_putchar_tree p [] all = bare_Getchar p (ttype.Number I32)
bare_putchar_tree p (tree ∷ trees) all = bare_Putchar p (ttype.Number I32) tree all.0

bare_putchar : (p : Place) (args : List Typed) → AllOf IsBareTyped args → BareMade (putchar_called p args)
bare_putchar p args all =
    bare_called_with p (ctype.Number I32) (putchar_tree p) (all_taken args) (passing (ctype.Number I32 ∷ []) args) (bare_putchar_tree p)
    (bare_passing (ctype.Number I32 ∷ []) args all)

bare_put_line : (p : Place) (taken : List ℕ) (tree : TExpr) (o : Option (List ℕ)) → IsBare tree → BareMade (put_line p taken tree o)
bare_put_line p taken tree None h = tt
bare_put_line p taken tree (Some bytes) h =
    cond_has IsBareTyped (has_zero bytes) (refused (fault.BadFormat p)) (Fine (operands.number I32 (typed.Puts (at p (ttype.Number I32)) tree) taken)) tt
    (bare_Puts p (ttype.Number I32) tree h)

bare_puts : (p : Place) (args : List Typed) → AllOf IsBareTyped args → BareMade (puts_called p args)
bare_puts p [] all = tt
bare_puts p (a ∷ []) all = bare_put_line p (all_taken (a ∷ [])) a.tree (bytes_in a.tree) all.0
bare_puts p (a ∷ b ∷ args) all = tt

-- arguments that are printed
abbrev BareTrees : Option (List TExpr) → Type 0
BareTrees o = IfThere (AllOf IsBare) o

bare_formatted : (to : Kind) (v : Typed) (k : Option Kind) → IsBareTyped v → BareOption (formatted to v k)
bare_formatted to v None h = tt
bare_formatted to v (Some from) h = bare_if _ (in_kind from to v.tree) (bare_in_kind from to v.tree h)

bare_tree_before : (o : Option TExpr) (trees : Option (List TExpr)) → BareOption o → BareTrees trees → BareTrees (tree_before o trees)
bare_tree_before None trees h k = tt
bare_tree_before (Some tree) None h k = tt
bare_tree_before (Some tree) (Some trees) h k = (h, k)

bare_all_formatted : (kinds : List Kind) (args : List Typed) → AllOf IsBareTyped args → BareTrees (all_formatted kinds args)
bare_all_formatted [] [] all = tt
bare_all_formatted [] (a ∷ args) all = tt
bare_all_formatted (kind ∷ kinds) [] all = tt
bare_all_formatted (kind ∷ kinds) (a ∷ args) all =
    bare_tree_before (formatted kind a (number_kind a.of)) (all_formatted kinds args) (bare_formatted kind a (number_kind a.of) all.0) (bare_all_formatted kinds args all.1)

bare_print_trees : (p : Place) (marks : List formats.FormatMark) (taken : List ℕ) (o : Option (List TExpr)) → BareTrees o → BareMade (print_trees p marks taken o)
bare_print_trees p marks taken None h = tt
bare_print_trees p marks taken (Some trees) h = bare_Printf p (ttype.Number I32) (pieces_of marks) trees h

bare_print_marks : (p : Place) (taken : List ℕ) (args : List Typed) (o : Option (List formats.FormatMark)) → AllOf IsBareTyped args → BareMade (print_marks p taken args o)
bare_print_marks p taken args None all = tt
bare_print_marks p taken args (Some marks) all = bare_print_trees p marks taken (all_formatted (kinds_taken marks) args) (bare_all_formatted (kinds_taken marks) args all)

bare_print_bytes : (p : Place) (taken : List ℕ) (args : List Typed) (o : Option (List ℕ)) → AllOf IsBareTyped args → BareMade (print_bytes p taken args o)
bare_print_bytes p taken args None all = tt
bare_print_bytes p taken args (Some bytes) all = bare_print_marks p taken args (marks_of bytes) all

bare_printf : (p : Place) (args : List Typed) → AllOf IsBareTyped args → BareMade (printf_called p args)
bare_printf p [] all = tt
bare_printf p (a ∷ args) all = bare_print_bytes p (all_taken (a ∷ args)) args (bytes_in a.tree) all.1

-- calls
bare_library_called : (p : Place) (f : Library) (args : List Typed) → AllOf IsBareTyped args → BareMade (library_called p f args)
bare_library_called p Getchar args all = bare_getchar p args
bare_library_called p Putchar args all = bare_putchar p args all
bare_library_called p Puts args all = bare_puts p args all
bare_library_called p Printf args all = bare_printf p args all

bare_called : (p : Place) (x : List ℕ) (args : List Typed) (m : Option Meaning) → AllOf IsBareTyped args → BareMade (called p x args m)
bare_called p x args None all = tt
bare_called p x args (Some (meaning.Variable n of fixed)) all = tt
bare_called p x args (Some (meaning.Object n of fixed)) all = tt
bare_called p x args (Some (meaning.Function signature)) all = bare_function_called p signature args all
bare_called p x args (Some (meaning.Library function)) all = bare_library_called p function args all

bare_call : (names : Names) (p : Place) (x : List ℕ) (args : List Typed) → AllOf IsBareTyped args → BareMade (call_rule names p x args)
unfolding call_rule
bare_call names p x args all = bare_called p x args (meaning_of names x) all

mutual
  -- what an expression means has no numbers
  elab_bare : (names : Names) (e : Expr) (v : Typed) → Elab names e v → IsBareTyped v
  elab_bare _ _ _ (name names p x v is) = subst BareMade is (bare_name names p x)
  elab_bare _ _ _ (number names p kind n v is) = subst BareMade is (bare_number p kind n)
  elab_bare _ _ _ (character names p z v is) = subst BareMade is (bare_char p z)
  elab_bare _ _ _ (string names p bytes v is) = subst BareMade is (bare_string p bytes)
  elab_bare _ _ _ (paren names p e v is) = elab_bare names e v is
  elab_bare _ _ _ (index names p a b x y v l r is) = subst BareMade is (bare_index p x y (elab_bare names a x l) (elab_bare names b y r))
  elab_bare _ _ _ (call names p f args xs v all is) = subst BareMade is (bare_call names p f xs (elab_all_bare names args xs all))
  elab_bare _ _ _ (postfix names p op a x v l is) = subst BareMade is (bare_post p op x (elab_bare names a x l))
  elab_bare _ _ _ (prefix names p op a x v l is) = subst BareMade is (bare_pre p op x (elab_bare names a x l))
  elab_bare _ _ _ (unary names p op a x v l is) = subst BareMade is (bare_unary p op x (elab_bare names a x l))
  elab_bare _ _ _ (sizeof_expr names p a x v l is) = subst BareMade is (bare_sizeof p x)
  elab_bare _ _ _ (sizeof_type names p specs stars v is) = subst BareMade is (bare_sizeof_type p specs stars)
  elab_bare _ _ _ (cast names p specs stars a x v l is) = subst BareMade is (bare_cast p specs stars x (elab_bare names a x l))
  elab_bare _ _ _ (binary names p op a b x y v l r is) = subst BareMade is (bare_binary p x y (elab_bare names a x l) (elab_bare names b y r) op)
  elab_bare _ _ _ (conditional names p a b c x y z v l m r is) =
      subst BareMade is (bare_conditional p x y z (elab_bare names a x l) (elab_bare names b y m) (elab_bare names c z r))
  elab_bare _ _ _ (assignment names p op a b x y v l r is) = subst BareMade is (bare_assignment p x y (elab_bare names a x l) (elab_bare names b y r) op)
  elab_bare _ _ _ (comma names p a b x y v l r is) = subst BareMade is (bare_comma p x y (elab_bare names a x l) (elab_bare names b y r))

  -- all arguments
  elab_all_bare : (names : Names) (es : List Expr) (vs : List Typed) → ElabAll names es vs → AllOf IsBareTyped vs
  elab_all_bare _ _ _ (no_args names) = tt
  elab_all_bare _ _ _ (more_args names e es v vs first others) = (elab_bare names e v first, elab_all_bare names es vs others)

-- judging an expression makes a tree without numbers
pub judge_bare : (names : Names) (e : Expr) → BareMade (judge names e)
judge_bare names e = if_fine IsBareTyped (judge names e) (λ v is. elab_bare names e v (sound names e v is))
