-- What the rules of operators with two or three operands make is meant as their operands are.
use Rattle.std.proofs.Common.{◌≡◌, ℕ, ◌<◌, ◌≤◌, ℤ, ◌++◌, Option, Some, None, Bool, true, false, ◌&&◌, if◌then◌else◌, refl, sym, ◌∙◌, ap, subst}
use Rattle.std.specs.Prelude.{IsSome}
use Rattle.std.proofs.lemmas.Option.{same_Some}
use Rattle.k_num.specs.declared.numbers.Bin.{Bin}
use Rattle.k_num.specs.declared.numbers.Bin.TheVariants.{Add, Sub, Mul, And, Or, Xor, Shl, Shr, LogAnd, LogOr}
use Rattle.k_num.specs.declared.numbers.Kind.{Kind}
use Rattle.k_num.specs.declared.numbers.Kind.TheVariants.{I32, I64}
use Rattle.k_num.specs.declared.place.Place.{Place}
use Rattle.k_num.specs.Kind.{width, converted, promoted, common_kind}
use Rattle.k_num.proofs.CommonKinds.{common_not_narrower}
use Rattle.k_tree.specs.declared.tokens.mark.Mark.{Mark}
use Rattle.k_tree.specs.Operators.{operator_of, compound_operator_of}
use Rattle.k_types_meaning.specs.declared.fault.TypeFault.TheVariants as fault
use Rattle.k_types_meaning.specs.declared.types.CType.{CType}
use Rattle.k_types_meaning.specs.declared.types.CType.TheVariants as ctype
use Rattle.k_types_meaning.specs.declared.types.Element.{Element}
use Rattle.k_types_meaning.specs.declared.types.TType.{TType}
use Rattle.k_types_meaning.specs.declared.types.TType.TheVariants as ttype
use Rattle.k_types_meaning.specs.declared.tree.expression.Change.{Change}
use Rattle.k_types_meaning.specs.declared.tree.expression.Change.TheVariants as change
use Rattle.k_types_meaning.specs.declared.tree.expression.TExpr.{TExpr, out-TExpr}
use Rattle.k_types_meaning.specs.declared.tree.expression.TExpr.TheOpen.{TExpr-F}
use Rattle.k_types_meaning.specs.declared.tree.expression.TExpr.TheVariants as typed
use Rattle.k_types_meaning.specs.Conversions.{Typed, at, node_of, in_kind, number_in, conversion, number_in_kind, passed, passed_number, passed_pointer, keeps_const}
use Rattle.k_types_meaning.specs.Made.{Fine, refused}
use Rattle.k_types_meaning.specs.Operands.{value, number}
use Rattle.k_types_meaning.specs.Operators.{Operand, Nothing, ANumber, APointer, compares, taken_in, taken_in_three, shift_of, common_of, on_numbers, pointer_and_number, number_and_pointer, equal_pointers, two_pointers, operand, operated, operated_by, binary_rule, arms, cond_of_kind, cond_rule, assigned, change_kind, right_kind, changed, moved, changed_by, assign_by, assign_rule, comma_rule}
use Rattle.k_types_meaning.specs.Types.{decayed, same_kind, same_element, equal_element, number_kind, pointed, told, pointer_to}
use Rattle.k_marks_meaning.specs.declared.uses.Group.{Group}
use Rattle.k_marks_meaning.specs.Uses.{used, uses_of, assigns}
use Rattle.k_marks_meaning.specs.Reductions.{group_of, variable_of, read_of, unconverted_step, unconverted}
use Rattle.k_marks_meaning.specs.Loops.{reads}
use Rattle.k_marks_laws.specs.Contributions.{Reducing, reducing_by, simple_by}
use Rattle.k_marks_laws.specs.Counted.{IsTypedChange}
use Rattle.k_marks_laws.specs.Reduced.{IsTypedOperation, IsTypedRight}
use Rattle.k_marks_laws.proofs.Typing.{change_not_narrower}
use Rattle.k_marks_laws.proofs.Values.{one_kind}
use Rattle.k_types_meaning.proofs.Fine.{IfFine}
use Rattle.k_marks_laws.proofs.Good.{GoodAt}
use Rattle.k_marks_laws.proofs.Meant.{Meant, TopAt, Below, meant_of, each_both, each_target, kind_below, number_kind_below, changes_well, variable_kind, kind_reads, side_typed}
use Rattle.k_marks_laws.proofs.Operands.{written_meant}
use Rattle.k_marks_laws.proofs.Out.{out_Number, out_Convert, out_Binary, out_Both, out_Either, out_Forward, out_Onto, out_Back, out_PtrCompare, out_PtrDistance, out_Cond, out_Assign, out_AssignBy, out_Comma}

-- numbers of one kind
abbrev kind_or : Kind → CType → Kind
kind_or k (ctype.Number j) = j
kind_or k _ = k

one_number : (j k : Kind) → ctype.Number j ≡ ctype.Number k → j ≡ k
one_number j k is = ap (kind_or j) is

-- an operand that is a number has its kind
number_of : (c : CType) (j : Kind) → operand c ≡ ANumber j → c ≡ ctype.Number j
number_of ctype.Void j is = absurd cc
number_of (ctype.Number k) j is = ap ctype.Number (ap or_kind is)
  where
    or_kind : Operand → Kind
    or_kind (ANumber i) = i
    or_kind _ = k
number_of (ctype.Pointer e) j is = absurd cc
number_of (ctype.Array n e) j is = absurd cc

number_kind_is : (c : CType) (j : Kind) → number_kind c ≡ Some j → c ≡ ctype.Number j
number_kind_is ctype.Void j is = absurd cc
number_kind_is (ctype.Number k) j is = ap ctype.Number (same_Some k j is)
number_kind_is (ctype.Pointer e) j is = absurd cc
number_kind_is (ctype.Array n e) j is = absurd cc

-- operators of groups compare nothing
result_is : (op : Bin) (group : Group) (common : Kind) → group_of op ≡ Some group → ctype.Number (if compares op then I32 else common) ≡ ctype.Number common
result_is Add group common is = refl
result_is Sub group common is = refl
result_is Mul group common is = refl
result_is And group common is = refl
result_is Or group common is = refl
result_is Xor group common is = refl
result_is _ group common is = absurd cc

module _ (K : ℕ → Kind → Type 0) (count : ℕ) where
  abbrev pub M : Typed → Type 0
  M v = Meant K count v

  abbrev low : ℕ → Type 0
  low n = n < count

  -- OPERATIONS ON NUMBERS
  -- what the left side reads has its kind
  left_wider : (x : Typed) (j k : Kind) → x.of ≡ ctype.Number j → M x → (n : ℕ) → reads n (read_of (in_kind j (common_kind j k) x.tree)) ≡ true → (kind : Kind) → K n kind
      → width kind ≤ width (common_kind j k)
  left_wider x j k of a n read kind has =
      subst (λ (i : Kind). width i ≤ width (common_kind j k))
      (one_number j kind (sym of ∙ variable_kind K x n kind a.top (kind_reads K x j (common_kind j k) n a.top read) has)) (common_not_narrower j k)

  common_meant : (p : Place) (op : Bin) (j k : Kind) (x y : Typed) → x.of ≡ ctype.Number j → M x → M y
      → M (common_of p op (if compares op then I32 else common_kind j k) (common_kind j k) j k x y)
  common_meant p op j k x y of a b =
      let common : Kind = common_kind j k in
      let result : Kind = if compares op then I32 else common in
      meant_of K count (common_of p op result common j k x y) (TExpr-F.Binary (at p (ttype.Number result)) op common (in_kind j common x.tree) (in_kind k common y.tree))
      (out_Binary (at p (ttype.Number result)) op common (in_kind j common x.tree) (in_kind k common y.tree))
      (each_both low (uses_of (in_kind j common x.tree)) (uses_of (in_kind k common y.tree)) (kind_below K count j common x.tree a.below) (kind_below K count k common y.tree b.below))
      (side_typed K x j common a.top)
      (λ group grouped. (result_is op group common grouped, left_wider x j k of a))

  shift_meant : (p : Place) (op : Bin) (j k : Kind) (x y : Typed) → ((group : Group) → group_of op ≡ Some group → ⊥) → M x → M y → M (shift_of p op j k x y)
  shift_meant p op j k x y none a b =
      meant_of K count (shift_of p op j k x y)
      (TExpr-F.Binary (at p (ttype.Number (promoted j))) op (promoted j) (in_kind j (promoted j) x.tree) (in_kind k (promoted k) y.tree))
      (out_Binary (at p (ttype.Number (promoted j))) op (promoted j) (in_kind j (promoted j) x.tree) (in_kind k (promoted k) y.tree))
      (each_both low (uses_of (in_kind j (promoted j) x.tree)) (uses_of (in_kind k (promoted k) y.tree))
      (kind_below K count j (promoted j) x.tree a.below) (kind_below K count k (promoted k) y.tree b.below))
      (side_typed K x j (promoted j) a.top)
      (λ group grouped. absurd (none group grouped))

  numbers_meant : (p : Place) (op : Bin) (j k : Kind) (x y : Typed) → x.of ≡ ctype.Number j → M x → M y → M (on_numbers p op j k x y)
  numbers_meant p LogAnd j k x y of a b =
      meant_of K count (number I32 (typed.Both (at p (ttype.Number I32)) x.tree y.tree) (taken_in x y)) (TExpr-F.Both (at p (ttype.Number I32)) x.tree y.tree)
      (out_Both (at p (ttype.Number I32)) x.tree y.tree) (each_both low (uses_of x.tree) (uses_of y.tree) a.below b.below) tt tt
  numbers_meant p LogOr j k x y of a b =
      meant_of K count (number I32 (typed.Either (at p (ttype.Number I32)) x.tree y.tree) (taken_in x y)) (TExpr-F.Either (at p (ttype.Number I32)) x.tree y.tree)
      (out_Either (at p (ttype.Number I32)) x.tree y.tree) (each_both low (uses_of x.tree) (uses_of y.tree) a.below b.below) tt tt
  numbers_meant p Shl j k x y of a b = shift_meant p Shl j k x y (λ group is. cc) a b
  numbers_meant p Shr j k x y of a b = shift_meant p Shr j k x y (λ group is. cc) a b
  numbers_meant p op j k x y of a b = common_meant p op j k x y of a b

  -- OPERATIONS ON POINTERS
  pointer_number_meant : (p : Place) (op : Bin) (e : Element) (x y : Typed) → M x → M y → IfFine (Meant K count) (pointer_and_number p op e x y)
  pointer_number_meant p Add e x y a b =
      meant_of K count (value (ctype.Pointer e) (typed.Forward (at p (pointer_to e)) x.tree y.tree) (taken_in x y)) (TExpr-F.Forward (at p (pointer_to e)) x.tree y.tree)
      (out_Forward (at p (pointer_to e)) x.tree y.tree) (each_both low (uses_of x.tree) (uses_of y.tree) a.below b.below) tt tt
  pointer_number_meant p Sub e x y a b =
      meant_of K count (value (ctype.Pointer e) (typed.Back (at p (pointer_to e)) x.tree y.tree) (taken_in x y)) (TExpr-F.Back (at p (pointer_to e)) x.tree y.tree)
      (out_Back (at p (pointer_to e)) x.tree y.tree) (each_both low (uses_of x.tree) (uses_of y.tree) a.below b.below) tt tt
  pointer_number_meant p _ e x y a b = tt

  number_pointer_meant : (p : Place) (op : Bin) (e : Element) (x y : Typed) → M x → M y → IfFine (Meant K count) (number_and_pointer p op e x y)
  number_pointer_meant p Add e x y a b =
      meant_of K count (value (ctype.Pointer e) (typed.Onto (at p (pointer_to e)) x.tree y.tree) (taken_in x y)) (TExpr-F.Onto (at p (pointer_to e)) x.tree y.tree)
      (out_Onto (at p (pointer_to e)) x.tree y.tree) (each_both low (uses_of x.tree) (uses_of y.tree) a.below b.below) tt tt
  number_pointer_meant p _ e x y a b = tt

  compare_meant : (p : Place) (op : Bin) (x y : Typed) (compared : Bool) → M x → M y
      → IfFine (Meant K count) (if compared then Fine (number I32 (typed.PtrCompare (at p (ttype.Number I32)) op x.tree y.tree) (taken_in x y)) else refused (fault.Kinds p))
  compare_meant p op x y true a b =
      meant_of K count (number I32 (typed.PtrCompare (at p (ttype.Number I32)) op x.tree y.tree) (taken_in x y)) (TExpr-F.PtrCompare (at p (ttype.Number I32)) op x.tree y.tree)
      (out_PtrCompare (at p (ttype.Number I32)) op x.tree y.tree) (each_both low (uses_of x.tree) (uses_of y.tree) a.below b.below) tt tt
  compare_meant p op x y false a b = tt

  equal_pointers_meant : (p : Place) (op : Bin) (x y : Typed) → M x → M y → IfFine (Meant K count) (equal_pointers p op x y)
  equal_pointers_meant p Sub x y a b =
      meant_of K count (number I64 (typed.PtrDistance (at p (ttype.Number I64)) x.tree y.tree) (taken_in x y)) (TExpr-F.PtrDistance (at p (ttype.Number I64)) x.tree y.tree)
      (out_PtrDistance (at p (ttype.Number I64)) x.tree y.tree) (each_both low (uses_of x.tree) (uses_of y.tree) a.below b.below) tt tt
  equal_pointers_meant p op x y a b = compare_meant p op x y (compares op) a b

  two_pointers_meant : (p : Place) (op : Bin) (d e : Element) (x y : Typed) → M x → M y → IfFine (Meant K count) (two_pointers p op d e x y)
  two_pointers_meant p op d e x y a b = by (same_element d e)
    where
      by : (same : Bool) → IfFine (Meant K count) (if same then equal_pointers p op x y else refused (fault.Kinds p))
      by true = equal_pointers_meant p op x y a b
      by false = tt

  operated_meant : (p : Place) (op : Bin) (l r : Operand) (x y : Typed) → operand x.of ≡ l → M x → M y → IfFine (Meant K count) (operated p op l r x y)
  operated_meant p op (ANumber j) (ANumber k) x y is a b = numbers_meant p op j k x y (number_of x.of j is) a b
  operated_meant p op (APointer d) (ANumber k) x y is a b = pointer_number_meant p op d x y a b
  operated_meant p op (ANumber j) (APointer e) x y is a b = number_pointer_meant p op e x y a b
  operated_meant p op (APointer d) (APointer e) x y is a b = two_pointers_meant p op d e x y a b
  operated_meant p op Nothing r x y is a b = tt
  operated_meant p op (ANumber j) Nothing x y is a b = tt
  operated_meant p op (APointer d) Nothing x y is a b = tt

  pub binary_meant : (p : Place) (op : Mark) (x y : Typed) → M x → M y → IfFine (Meant K count) (binary_rule p op x y)
  unfolding binary_rule
  binary_meant p op x y a b = by (operator_of op)
    where
      by : (o : Option Bin) → IfFine (Meant K count) (operated_by p o x y)
      by None = tt
      by (Some o) = operated_meant p o (operand x.of) (operand y.of) x y refl a b

  -- `?:`
  cond_is : (p : Place) (v : Typed) (of : TType) (a b c : TExpr) → v.tree ≡ typed.Cond (at p of) a b c → Below K count a → Below K count b → Below K count c → M v
  cond_is p v of a b c is h k j =
      meant_of K count v (TExpr-F.Cond (at p of) a b c) (ap out-TExpr is ∙ out_Cond (at p of) a b c)
      (each_both low (uses_of a) (uses_of b ++ uses_of c) h (each_both low (uses_of b) (uses_of c) k j)) tt tt

  arms_meant : (p : Place) (l r : Operand) (x y z : Typed) → M x → M y → M z → IfFine (Meant K count) (arms p l r x y z)
  arms_meant p (ANumber j) (ANumber k) x y z a b c =
      let common : Kind = common_kind j k in
      cond_is p (number common (typed.Cond (at p (ttype.Number common)) x.tree (in_kind j common y.tree) (in_kind k common z.tree)) (taken_in_three x y z)) (ttype.Number common)
      x.tree (in_kind j common y.tree) (in_kind k common z.tree) refl a.below (kind_below K count j common y.tree b.below) (kind_below K count k common z.tree c.below)
  arms_meant p (APointer d) (APointer e) x y z a b c = by (equal_element d e)
    where
      by : (same : Bool) → IfFine (Meant K count)
          (if same then Fine (value (ctype.Pointer d) (typed.Cond (at p (pointer_to d)) x.tree y.tree z.tree) (taken_in_three x y z)) else refused (fault.Kinds p))
      by true =
          cond_is p (value (ctype.Pointer d) (typed.Cond (at p (pointer_to d)) x.tree y.tree z.tree) (taken_in_three x y z)) (pointer_to d) x.tree y.tree z.tree refl a.below b.below c.below
      by false = tt
  arms_meant p Nothing Nothing x y z a b c =
      cond_is p (value ctype.Void (typed.Cond (at p ttype.Void) x.tree y.tree z.tree) (taken_in_three x y z)) ttype.Void x.tree y.tree z.tree refl a.below b.below c.below
  arms_meant p Nothing (ANumber k) x y z a b c = tt
  arms_meant p Nothing (APointer e) x y z a b c = tt
  arms_meant p (ANumber j) Nothing x y z a b c = tt
  arms_meant p (ANumber j) (APointer e) x y z a b c = tt
  arms_meant p (APointer d) Nothing x y z a b c = tt
  arms_meant p (APointer d) (ANumber k) x y z a b c = tt

  pub cond_meant : (p : Place) (x y z : Typed) → M x → M y → M z → IfFine (Meant K count) (cond_rule p x y z)
  unfolding cond_rule
  cond_meant p x y z a b c = by (number_kind x.of)
    where
      by : (o : Option Kind) → IfFine (Meant K count) (cond_of_kind p o x y z)
      by None = tt
      by (Some kind) = arms_meant p (operand y.of) (operand z.of) x y z a b c

  -- `s = s op e`
  -- the operation that an expression is, where it reduces a variable of a kind
  operation_at : (n : ℕ) (kind : Kind) (here : Bool) (of : CType) (y : TExpr-F TExpr) → K n kind → GoodAt K y → TopAt K of y → IsSome (simple_by n here y) → IsTypedOperation kind y
  operation_at n kind here of (TExpr-F.Binary node op wide left right) has good top some =
      let found = simple_found here (reads n (read_of left)) (group_of op) (record { op = op; before = Some left; other = right }) some in
      ((top found.0 found.2).1 n found.1 kind has, good)
    where
      simple_found : (a b : Bool) (g : Option Group) (r : Reducing) → IsSome (reducing_by (a && b) g r) → (group : Group) × (b ≡ true) × (g ≡ Some group)
      simple_found false b g r h = absurd cc
      simple_found true false g r h = absurd cc
      simple_found true true None r h = absurd cc
      simple_found true true (Some group) r h = (group, refl, refl)
  operation_at n kind here of _ has good top some = tt

  -- and its kind is that of its type
  right_at : (n : ℕ) (kind : Kind) (here : Bool) (of : CType) (y : TExpr-F TExpr) → of ≡ ctype.Number kind → GoodAt K y → TopAt K of y → IsSome (simple_by n here y) → IsTypedRight kind y
  right_at n kind here of (TExpr-F.Binary node op wide left right) is good top some =
      let found = grouped_of (here && reads n (read_of left)) (group_of op) (record { op = op; before = Some left; other = right }) some in
      (one_number wide kind (sym (top found.0 found.1).0 ∙ is), good)
    where
      grouped_of : (b : Bool) (g : Option Group) (r : Reducing) → IsSome (reducing_by b g r) → (group : Group) × (g ≡ Some group)
      grouped_of false g r h = absurd cc
      grouped_of true None r h = absurd cc
      grouped_of true (Some group) r h = (group, refl)
  right_at n kind here of (TExpr-F.Convert node e) is good top some = absurd top
  right_at n kind here of _ is good top some = tt

  -- an operand is no conversion
  unconverted_at : (of : CType) (whole : TExpr) (y : TExpr-F TExpr) → TopAt K of y → unconverted_step whole y ≡ whole
  unconverted_at of whole (TExpr-F.Convert node e) top = absurd top
  unconverted_at of whole _ top = refl

  -- a conversion is one of the operand
  converted_right : (n : ℕ) (kind : Kind) (here : Bool) (y : Typed) (o : Option ℤ) → K n kind → M y
      → IsSome (simple_by n here (out-TExpr (unconverted (conversion kind y.tree o)))) → IsTypedRight kind (out-TExpr (conversion kind y.tree o))
  converted_right n kind here y None has b some =
      let node = at (node_of y.tree).place (ttype.Number kind) in
      let is : out-TExpr (typed.Convert node y.tree) ≡ TExpr-F.Convert node y.tree = out_Convert node y.tree in
      subst (IsTypedRight kind) (sym is) (
        refl,
        operation_at n kind here y.of (out-TExpr y.tree) has b.good b.top
            (subst (λ (z : TExpr-F TExpr). IsSome (simple_by n here (out-TExpr (unconverted_step (typed.Convert node y.tree) z)))) is some),
      )
  converted_right n kind here y (Some z) has b some =
      subst (IsTypedRight kind) (sym (out_Number (at (node_of y.tree).place (ttype.Number kind)) (converted kind z))) tt

  -- the right side is converted to the kind of the variable
  passed_right : (n : ℕ) (from kind : Kind) (here : Bool) (y : Typed) → y.of ≡ ctype.Number from → K n kind → M y
      → IsSome (simple_by n here (out-TExpr (unconverted (in_kind from kind y.tree)))) → IsTypedRight kind (out-TExpr (in_kind from kind y.tree))
  unfolding in_kind
  passed_right n from kind here y of has b some = by (same_kind from kind) refl some
    where
      by : (same : Bool) → same_kind from kind ≡ same
          → IsSome (simple_by n here (out-TExpr (unconverted (if same then y.tree else conversion kind y.tree (number_in y.tree)))))
          → IsTypedRight kind (out-TExpr (if same then y.tree else conversion kind y.tree (number_in y.tree)))
      by true is h =
          right_at n kind here y.of (out-TExpr y.tree) (of ∙ ap ctype.Number (one_kind from kind is)) b.good b.top
          (subst (λ (e : TExpr). IsSome (simple_by n here (out-TExpr e))) (unconverted_at y.of y.tree (out-TExpr y.tree) b.top) h)
      by false is h = converted_right n kind here y (number_in y.tree) has b h

  -- what is passed to a number
  number_right : (n : ℕ) (kind : Kind) (here : Bool) (y : Typed) (o : Option Kind) (tree : TExpr) → number_kind y.of ≡ o → passed_number kind y.tree o ≡ Some tree → K n kind → M y
      → IsSome (simple_by n here (out-TExpr (unconverted tree))) → IsTypedRight kind (out-TExpr tree)
  number_right n kind here y None tree of is has b some = absurd cc
  number_right n kind here y (Some from) tree of is has b some =
      let same : in_kind from kind y.tree ≡ tree = same_Some (in_kind from kind y.tree) tree is in
      subst (λ (e : TExpr). IsTypedRight kind (out-TExpr e)) same
      (passed_right n from kind here y (number_kind_is y.of from of) has b
      (subst (λ (e : TExpr). IsSome (simple_by n here (out-TExpr (unconverted e)))) (sym same) some))

  -- an expression that is read as a variable, where anything reduces it
  simple_here : (n : ℕ) (here : Bool) (y : TExpr-F TExpr) → IsSome (simple_by n here y) → here ≡ true
  simple_here n true y some = refl
  simple_here n false (TExpr-F.Binary node op kind left right) some = absurd cc
  simple_here n false _ some = absurd cc

  set_well : (x y : Typed) (tree : TExpr) → passed x.of y ≡ Some tree → M x → M y → (n : ℕ) (kind : Kind) → K n kind
      → IsSome (simple_by n (reads n (variable_of x.tree)) (out-TExpr (unconverted tree))) → IsTypedRight kind (out-TExpr tree)
  unfolding passed
  set_well x y tree is a b n kind has some =
      let of : x.of ≡ ctype.Number kind = variable_kind K x n kind a.top (simple_here n (reads n (variable_of x.tree)) (out-TExpr (unconverted tree)) some) has in
      number_right n kind (reads n (variable_of x.tree)) y (number_kind y.of) tree refl (sym (ap (λ (c : CType). passed c y) of) ∙ is) has b some

  -- what is passed names what is passed names
  abbrev pub OptionBelow : Option TExpr → Type 0
  OptionBelow None = Unit {0}
  OptionBelow (Some e) = Below K count e

  passed_number_below : (to : Kind) (y : Typed) (o : Option Kind) → M y → OptionBelow (passed_number to y.tree o)
  passed_number_below to y None b = tt
  passed_number_below to y (Some from) b = kind_below K count from to y.tree b.below

  passed_pointer_below : (e : Element) (y : Typed) (o : Option Element) → M y → OptionBelow (passed_pointer e y.tree o)
  passed_pointer_below e y None b = tt
  passed_pointer_below e y (Some from) b = by (keeps_const e from)
    where
      by : (keeps : Bool) → OptionBelow (if keeps then Some y.tree else None)
      by true = b.below
      by false = tt

  pub passed_below : (to : CType) (y : Typed) → M y → OptionBelow (passed to y)
  unfolding passed
  passed_below ctype.Void y b = tt
  passed_below (ctype.Number kind) y b = passed_number_below kind y (number_kind y.of) b
  passed_below (ctype.Pointer e) y b = passed_pointer_below e y (pointed y.of) b
  passed_below (ctype.Array n e) y b = passed_pointer_below e y (pointed y.of) b

  set_meant : (p : Place) (x y : Typed) (o : Option TExpr) → passed x.of y ≡ o → OptionBelow o → M x → M y → IfFine (Meant K count) (assigned p x y o)
  set_meant p x y None is below a b = tt
  set_meant p x y (Some tree) is below a b =
      written_meant K count p x.place (value (decayed x.of) (typed.Assign (at p (told x.of)) x.tree tree) (taken_in x y))
      (meant_of K count (value (decayed x.of) (typed.Assign (at p (told x.of)) x.tree tree) (taken_in x y)) (TExpr-F.Assign (at p (told x.of)) x.tree tree)
      (out_Assign (at p (told x.of)) x.tree tree)
      (each_both low (assigns (used x.tree).itself ++ uses_of x.tree) (uses_of tree) (each_target low (used x.tree).itself (uses_of x.tree) a.below) below)
      (set_well x y tree is a b) tt)

  -- COMPOUND ASSIGNMENTS
  changed_meant : (p : Place) (x y : Typed) (by : Change) (tree : TExpr) → ((kind : Kind) → x.of ≡ ctype.Number kind → IsTypedChange kind (at p (told x.of)) by) → Below K count tree → M x
      → IfFine (Meant K count) (changed p x y by tree)
  changed_meant p x y by tree well below a =
      written_meant K count p x.place (value (decayed x.of) (typed.AssignBy (at p (told x.of)) by x.tree tree) (taken_in x y))
      (meant_of K count (value (decayed x.of) (typed.AssignBy (at p (told x.of)) by x.tree tree) (taken_in x y)) (TExpr-F.AssignBy (at p (told x.of)) by x.tree tree)
      (out_AssignBy (at p (told x.of)) by x.tree tree)
      (each_both low (assigns (used x.tree).itself ++ uses_of x.tree) (uses_of tree) (each_target low (used x.tree).itself (uses_of x.tree) a.below) below)
      (changes_well K x (at p (told x.of)) by a.top well) tt)

  moved_meant : (p : Place) (op : Bin) (x y : Typed) → M x → M y → IfFine (Meant K count) (moved p op x y)
  moved_meant p Add x y a b = changed_meant p x y change.Forward y.tree (λ kind of. tt) b.below a
  moved_meant p Sub x y a b = changed_meant p x y change.Back y.tree (λ kind of. tt) b.below a
  moved_meant p _ x y a b = tt

  change_well : (p : Place) (op : Bin) (j k : Kind) (x : Typed) → x.of ≡ ctype.Number j → (kind : Kind) → x.of ≡ ctype.Number kind
      → IsTypedChange kind (at p (told x.of)) (change.Number op (change_kind op j k))
  change_well p op j k x of kind is =
      (ap told is, subst (λ (i : Kind). width i ≤ width (change_kind op j k)) (one_number j kind (sym of ∙ is)) (change_not_narrower op j k))

  changed_by_meant : (p : Place) (op : Bin) (l r : Operand) (x y : Typed) → operand x.of ≡ l → M x → M y → IfFine (Meant K count) (changed_by p op l r x y)
  changed_by_meant p op (ANumber j) (ANumber k) x y is a b =
      changed_meant p x y (change.Number op (change_kind op j k)) (number_in_kind k (right_kind op j k) y.tree) (change_well p op j k x (number_of x.of j is))
      (number_kind_below K count k (right_kind op j k) y.tree b.below) a
  changed_by_meant p op (APointer d) (ANumber k) x y is a b = moved_meant p op x y a b
  changed_by_meant p op (ANumber j) (APointer e) x y is a b = tt
  changed_by_meant p op (APointer d) (APointer e) x y is a b = tt
  changed_by_meant p op Nothing r x y is a b = tt
  changed_by_meant p op (ANumber j) Nothing x y is a b = tt
  changed_by_meant p op (APointer d) Nothing x y is a b = tt

  pub assign_meant : (p : Place) (op : Mark) (x y : Typed) → M x → M y → IfFine (Meant K count) (assign_rule p op x y)
  unfolding assign_rule
  assign_meant p op x y a b = by (compound_operator_of op)
    where
      by : (o : Option Bin) → IfFine (Meant K count) (assign_by p o x y)
      by None = set_meant p x y (passed x.of y) refl (passed_below x.of y b) a b
      by (Some o) = changed_by_meant p o (operand x.of) (operand y.of) x y refl a b

  pub comma_meant : (p : Place) (x y : Typed) → M x → M y → IfFine (Meant K count) (comma_rule p x y)
  unfolding comma_rule
  comma_meant p x y a b =
      meant_of K count (value (decayed y.of) (typed.Comma (at p (told y.of)) x.tree y.tree) (taken_in x y)) (TExpr-F.Comma (at p (told y.of)) x.tree y.tree)
      (out_Comma (at p (told y.of)) x.tree y.tree) (each_both low (uses_of x.tree) (uses_of y.tree) a.below b.below) tt tt
