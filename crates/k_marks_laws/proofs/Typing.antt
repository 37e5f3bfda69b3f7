-- What the rules of typing give to a step.
use Rattle.std.proofs.Common.{◌≡◌, ℕ, ◌≤◌, List, Option, Some, None, Bool, true, false, if◌then◌else◌, refl, sym, ◌∙◌, ap, subst, arith}
use Rattle.k_num.specs.declared.numbers.Bin.{Bin}
use Rattle.k_num.specs.declared.numbers.Bin.TheVariants.{Add, Sub, Mul, And, Or, Xor, Shl, Shr, LogAnd, LogOr}
use Rattle.k_num.specs.declared.numbers.Kind.{Kind}
use Rattle.k_num.specs.declared.numbers.Kind.TheVariants.{I8, U8, I16, U16, I32, U32, I64, U64}
use Rattle.k_num.specs.declared.place.Place.{Place}
use Rattle.k_num.specs.Kind.{width, promoted, common_kind}
use Rattle.k_num.proofs.CommonKinds.{common_not_narrower}
use Rattle.k_tree.specs.declared.tokens.mark.Mark.{Mark}
use Rattle.k_tree.specs.Operators.{operator_of, compound_operator_of}
use Rattle.k_types_meaning.specs.declared.types.CType.{CType}
use Rattle.k_types_meaning.specs.declared.types.CType.TheVariants as ctype
use Rattle.k_types_meaning.specs.declared.types.Element.{Element}
use Rattle.k_types_meaning.specs.declared.types.TType.{TType}
use Rattle.k_types_meaning.specs.declared.types.TType.TheVariants as ttype
use Rattle.k_types_meaning.specs.declared.tree.expression.Change.{Change}
use Rattle.k_types_meaning.specs.declared.tree.expression.Change.TheVariants as change
use Rattle.k_types_meaning.specs.declared.tree.expression.Node.{Node}
use Rattle.k_types_meaning.specs.declared.tree.expression.TExpr.{TExpr, out-TExpr, out-roll-TExpr}
use Rattle.k_types_meaning.specs.declared.tree.expression.TExpr.TheOpen.{TExpr-F}
use Rattle.k_types_meaning.specs.declared.tree.expression.TExpr.TheVariants as typed
use Rattle.k_types_meaning.specs.Conversions.{Typed, at, node_of, in_kind, number_in_kind, number_in, conversion, passed, passed_number}
use Rattle.k_types_meaning.specs.Made.{Made, Fine, Faulty}
use Rattle.k_types_meaning.specs.Operands.{value, written, step_operator, step_change, stepped, post_rule, pre_rule}
use Rattle.k_types_meaning.specs.Operators.{Operand, taken_in, number_and_pointer, Nothing, ANumber, APointer, operand, compares, on_numbers, common_of, operated, operated_by, binary_rule, assigned, set_rule, change_kind, right_kind, changed_by, assign_by, assign_rule}
use Rattle.k_types_meaning.specs.Types.{told, decayed, same_kind, number_kind, pointer_to}
use Rattle.k_marks_meaning.specs.declared.uses.Group.{Group}
use Rattle.k_marks_meaning.specs.Reductions.{group_of}
use Rattle.k_marks_laws.specs.Counted.{IsTypedStepAt, IsTypedSide, IsTypedTestAt}
use Rattle.k_marks_laws.specs.Reduced.{IsTypedOperation, IsTypedRight, IsTypedAssignment}
use Rattle.k_marks_laws.specs.Typing.{PostfixIsTyped, PrefixIsTyped, AssignmentIsTyped, TestIsTyped, ReductionIsTyped}
use Rattle.k_marks_laws.proofs.Values.{one_kind}

in_fine : {A : Type 0} (a b : A) → Fine a ≡ Fine b → a ≡ b
in_fine {A} a b is = ap (λ (m : Made A). or_else m) is
  where
    or_else : Made A → A
    or_else (Fine x) = x
    or_else (Faulty f fs) = a

written_is : (p : Place) (fixed : Option Bool) (x v : Typed) → written p fixed x ≡ Fine v → x ≡ v
written_is p None x v is = absurd cc
written_is p (Some true) x v is = absurd cc
written_is p (Some false) x v is = in_fine x v is

-- the tree of `++` and `--` of a number of a kind
stepped_tree : (p : Place) (op : Mark) (kind : Kind) (e v : Typed) (tree : TType → Change → TExpr) → e.of ≡ ctype.Number kind
    → stepped p e tree (step_change op e.of) ≡ Fine v → tree (told e.of) (change.Number (step_operator op) (common_kind kind I32)) ≡ v.tree
stepped_tree p op kind e v tree of is =
    ap (λ (x : Typed). x.tree)
    (written_is p e.place (value (decayed e.of) (tree (told e.of) (change.Number (step_operator op) (common_kind kind I32))) e.taken) v
    (sym (ap (λ (c : CType). stepped p e tree (step_change op c)) of) ∙ is))

pub postfix_typed : PostfixIsTyped
unfolding post_rule out-TExpr denote.Hole.Carrier.out
postfix_typed p op kind e v of is =
    subst (λ (t : TExpr). IsTypedStepAt kind (out-TExpr t)) (stepped_tree p op kind e v (λ of change. typed.Post (at p of) change e.tree) of is)
    (ap told of, common_not_narrower kind I32)

pub prefix_typed : PrefixIsTyped
unfolding pre_rule out-TExpr denote.Hole.Carrier.out
prefix_typed p op kind e v of is =
    subst (λ (t : TExpr). IsTypedStepAt kind (out-TExpr t)) (stepped_tree p op kind e v (λ of change. typed.Pre (at p of) change e.tree) of is)
    (ap told of, common_not_narrower kind I32)

-- COMPOUND ASSIGNMENTS are made in a kind that is no narrower
promoted_not_narrower : (kind : Kind) → width kind ≤ width (promoted kind)
promoted_not_narrower I8 = omega arith
promoted_not_narrower U8 = omega arith
promoted_not_narrower I16 = omega arith
promoted_not_narrower U16 = omega arith
promoted_not_narrower I32 = omega arith
promoted_not_narrower U32 = omega arith
promoted_not_narrower I64 = omega arith
promoted_not_narrower U64 = omega arith

pub change_not_narrower : (op : Bin) (j k : Kind) → width j ≤ width (change_kind op j k)
change_not_narrower Shl j k = promoted_not_narrower j
change_not_narrower Shr j k = promoted_not_narrower j
change_not_narrower _ j k = common_not_narrower j k

-- an assignment that is written is its tree
written_tree : (p : Place) (fixed : Option Bool) (of : CType) (tree : TExpr) (taken : List ℕ) (v : Typed) → written p fixed (value of tree taken) ≡ Fine v → tree ≡ v.tree
written_tree p fixed of tree taken v is = ap (λ (x : Typed). x.tree) (written_is p fixed (value of tree taken) v is)

changed_typed : (p : Place) (op : Bin) (kind : Kind) (b : Operand) (e right v : Typed) → e.of ≡ ctype.Number kind → changed_by p op (ANumber kind) b e right ≡ Fine v
    → IsTypedStepAt kind (out-TExpr v.tree)
unfolding out-TExpr denote.Hole.Carrier.out
changed_typed p op kind (ANumber k) e right v of is =
    subst (λ (t : TExpr). IsTypedStepAt kind (out-TExpr t))
    (written_tree p e.place (decayed e.of)
    (typed.AssignBy (at p (told e.of)) (change.Number op (change_kind op kind k)) e.tree (number_in_kind k (right_kind op kind k) right.tree)) (taken_in e right) v is)
    (ap told of, change_not_narrower op kind k)
changed_typed p op kind (APointer b) e right v of is = absurd cc
changed_typed p op kind Nothing e right v of is = absurd cc

set_typed : (p : Place) (kind : Kind) (tree : Option TExpr) (e right v : Typed) → assigned p e right tree ≡ Fine v → IsTypedStepAt kind (out-TExpr v.tree)
unfolding out-TExpr denote.Hole.Carrier.out
set_typed p kind None e right v is = absurd cc
set_typed p kind (Some tree) e right v is =
    subst (λ (t : TExpr). IsTypedStepAt kind (out-TExpr t)) (written_tree p e.place (decayed e.of) (typed.Assign (at p (told e.of)) e.tree tree) (taken_in e right) v is) tt

pub assignment_typed : AssignmentIsTyped
unfolding assign_rule
assignment_typed p op kind e right v of is = by (compound_operator_of op) is
  where
    by : (o : Option Bin) → assign_by p o e right ≡ Fine v → IsTypedStepAt kind (out-TExpr v.tree)
    by None h = set_typed p kind (passed e.of right) e right v h
    by (Some o) h =
        changed_typed p o kind (operand right.of) e right v of
        (sym (ap (λ (a : Operand). changed_by p o a (operand right.of) e right) (ap operand of)) ∙ h)

-- THE SHAPE OF A TREE with operands
of_binary : (P : TExpr-F TExpr → Type 0) (node : Node) (op : Bin) (kind : Kind) (left right : TExpr) → P (TExpr-F.Binary node op kind left right) → P (out-TExpr (typed.Binary node op kind left right))
of_binary P node op kind left right h =
    subst P (sym (ap out-TExpr (sym (typed.rolls-Binary node op kind left right)) ∙ out-roll-TExpr (TExpr-F.Binary node op kind left right))) h

of_convert : (P : TExpr-F TExpr → Type 0) (node : Node) (e : TExpr) → P (TExpr-F.Convert node e) → P (out-TExpr (typed.Convert node e))
of_convert P node e h = subst P (sym (ap out-TExpr (sym (typed.rolls-Convert node e)) ∙ out-roll-TExpr (TExpr-F.Convert node e))) h

of_assign : (P : TExpr-F TExpr → Type 0) (node : Node) (left right : TExpr) → P (TExpr-F.Assign node left right) → P (out-TExpr (typed.Assign node left right))
of_assign P node left right h = subst P (sym (ap out-TExpr (sym (typed.rolls-Assign node left right)) ∙ out-roll-TExpr (TExpr-F.Assign node left right))) h

-- A VARIABLE as the side of an operation
side_typed : (kind wide : Kind) (node : Node) (n : ℕ) → IsTypedSide wide (out-TExpr (in_kind kind wide (typed.Variable node n)))
unfolding in_kind out-TExpr denote.Hole.Carrier.out
side_typed kind wide node n = by (same_kind kind wide)
  where
    by : (b : Bool) → IsTypedSide wide (out-TExpr (if b then typed.Variable node n else conversion wide (typed.Variable node n) (number_in (typed.Variable node n))))
    by true = tt
    by false = refl

-- `i op right` of numbers
numbers_typed : (p : Place) (op : Bin) (j k : Kind) (node : Node) (n : ℕ) (i right : Typed) → i.tree ≡ typed.Variable node n
    → IsTypedTestAt (out-TExpr (on_numbers p op j k i right).tree)
unfolding out-TExpr denote.Hole.Carrier.out
numbers_typed p LogAnd j k node n i right is = tt
numbers_typed p LogOr j k node n i right is = tt
numbers_typed p Shl j k node n i right is =
    of_binary IsTypedTestAt (at p (ttype.Number (promoted j))) Shl (promoted j) (in_kind j (promoted j) i.tree) (in_kind k (promoted k) right.tree)
    (subst (λ (t : TExpr). IsTypedSide (promoted j) (out-TExpr (in_kind j (promoted j) t))) (sym is) (side_typed j (promoted j) node n))
numbers_typed p Shr j k node n i right is =
    of_binary IsTypedTestAt (at p (ttype.Number (promoted j))) Shr (promoted j) (in_kind j (promoted j) i.tree) (in_kind k (promoted k) right.tree)
    (subst (λ (t : TExpr). IsTypedSide (promoted j) (out-TExpr (in_kind j (promoted j) t))) (sym is) (side_typed j (promoted j) node n))
numbers_typed p op j k node n i right is =
    of_binary IsTypedTestAt (at p (ttype.Number (if compares op then I32 else common_kind j k))) op (common_kind j k) (in_kind j (common_kind j k) i.tree) (in_kind k (common_kind j k) right.tree)
    (subst (λ (t : TExpr). IsTypedSide (common_kind j k) (out-TExpr (in_kind j (common_kind j k) t))) (sym is) (side_typed j (common_kind j k) node n))

moved_typed : (p : Place) (op : Bin) (b : Element) (i right v : Typed) → number_and_pointer p op b i right ≡ Fine v → IsTypedTestAt (out-TExpr v.tree)
unfolding out-TExpr denote.Hole.Carrier.out
moved_typed p Add b i right v h =
    subst (λ (x : Typed). IsTypedTestAt (out-TExpr x.tree))
    (in_fine (value (ctype.Pointer b) (typed.Onto (at p (pointer_to b)) i.tree right.tree) (taken_in i right)) v h) tt
moved_typed p _ b i right v h = absurd cc

operated_typed : (p : Place) (op : Bin) (kind : Kind) (b : Operand) (node : Node) (n : ℕ) (i right v : Typed) → i.tree ≡ typed.Variable node n
    → operated p op (ANumber kind) b i right ≡ Fine v → IsTypedTestAt (out-TExpr v.tree)
operated_typed p op kind (ANumber k) node n i right v is h =
    subst (λ (x : Typed). IsTypedTestAt (out-TExpr x.tree)) (in_fine (on_numbers p op kind k i right) v h) (numbers_typed p op kind k node n i right is)
operated_typed p op kind (APointer b) node n i right v is h = moved_typed p op b i right v h
operated_typed p op kind Nothing node n i right v is h = absurd cc

pub test_typed : TestIsTyped
unfolding binary_rule
test_typed p op kind node n i right v of is h = by (operator_of op) h
  where
    by : (o : Option Bin) → operated_by p o i right ≡ Fine v → IsTypedTestAt (out-TExpr v.tree)
    by None gave = absurd cc
    by (Some o) gave =
        operated_typed p o kind (operand right.of) node n i right v is (sym (ap (λ (a : Operand). operated p o a (operand right.of) i right) (ap operand of)) ∙ gave)

-- `s = s op right` WITH AN OPERATOR OF A GROUP
grouped_numbers : (p : Place) (op : Bin) (group : Group) (j k : Kind) (left right : Typed) → group_of op ≡ Some group
    → on_numbers p op j k left right ≡ common_of p op (common_kind j k) (common_kind j k) j k left right
grouped_numbers p Add group j k left right is = refl
grouped_numbers p Sub group j k left right is = refl
grouped_numbers p Mul group j k left right is = refl
grouped_numbers p And group j k left right is = refl
grouped_numbers p Or group j k left right is = refl
grouped_numbers p Xor group j k left right is = refl
grouped_numbers p _ group j k left right is = absurd cc

-- the operation, in the kind of s
right_typed : (kind common k : Kind) (outer node : Node) (op : Bin) (n : ℕ) (left other : TExpr) → left ≡ typed.Variable node n → width kind ≤ width common
    → IsTypedRight kind (out-TExpr (in_kind common kind (typed.Binary outer op common (in_kind kind common left) other)))
unfolding in_kind out-TExpr denote.Hole.Carrier.out
right_typed kind common k outer node op n left other is wider = by (same_kind common kind) refl
  where
    side : IsTypedSide common (out-TExpr (in_kind kind common left))
    side = subst (λ (t : TExpr). IsTypedSide common (out-TExpr (in_kind kind common t))) (sym is) (side_typed kind common node n)

    whole : TExpr
    whole = typed.Binary outer op common (in_kind kind common left) other

    by : (b : Bool) → same_kind common kind ≡ b → IsTypedRight kind (out-TExpr (if b then whole else conversion kind whole (number_in whole)))
    by true same = of_binary (IsTypedRight kind) outer op common (in_kind kind common left) other (one_kind common kind same, side)
    by false same =
        of_convert (IsTypedRight kind) (at (node_of whole).place (ttype.Number kind)) whole
        (refl, of_binary (IsTypedOperation kind) outer op common (in_kind kind common left) other (wider, side))

-- a pointer is not assigned to a number
no_pointer : (p : Place) (kind : Kind) (b : Element) (s r v : Typed) → s.of ≡ ctype.Number kind → r.of ≡ ctype.Pointer b → set_rule p s r ≡ Fine v → ⊥
unfolding passed
no_pointer p kind b s r v of is gave =
    refuted (sym (ap (λ (o : Option TExpr). assigned p s r o) (ap (λ (c : CType). passed c r) of ∙ ap (λ (c : CType). passed_number kind r.tree (number_kind c)) is)) ∙ gave)
  where
    refuted : assigned p s r None ≡ Fine v → ⊥
    refuted h = cc

reduced_typed : (p q : Place) (op : Bin) (group : Group) (kind : Kind) (b : Operand) (node : Node) (n : ℕ) (s right r v : Typed) → s.of ≡ ctype.Number kind → s.tree ≡ typed.Variable node n
    → group_of op ≡ Some group → operated q op (ANumber kind) b s right ≡ Fine r → set_rule p s r ≡ Fine v → IsTypedAssignment kind (out-TExpr v.tree)
unfolding passed out-TExpr denote.Hole.Carrier.out
reduced_typed p q op group kind (ANumber k) node n s right r v of is grouped made gave =
    subst (λ (t : TExpr). IsTypedAssignment kind (out-TExpr t)) (written_tree p s.place (decayed s.of) (typed.Assign (at p (told s.of)) s.tree tree) (taken_in s sum) v known)
    (of_assign (IsTypedAssignment kind) (at p (told s.of)) s.tree tree
    (right_typed kind common k (at q (ttype.Number common)) node op n s.tree (in_kind k common right.tree) is (common_not_narrower kind k)))
  where
    common : Kind
    common = common_kind kind k

    sum : Typed
    sum = common_of q op common common kind k s right

    tree : TExpr
    tree = in_kind common kind sum.tree

    sum_is : r ≡ sum
    sum_is = sym (in_fine (on_numbers q op kind k s right) r made) ∙ grouped_numbers q op group kind k s right grouped

    known : assigned p s sum (Some tree) ≡ Fine v
    known = sym (ap (λ (c : CType). assigned p s sum (passed c sum)) of) ∙ (ap (set_rule p s) (sym sum_is) ∙ gave)
reduced_typed p q Add group kind (APointer b) node n s right r v of is grouped made gave =
    absurd (no_pointer p kind b s r v of (ap (λ (x : Typed). x.of) (sym (in_fine (value (ctype.Pointer b) (typed.Onto (at q (pointer_to b)) s.tree right.tree) (taken_in s right)) r made))) gave)
reduced_typed p q _ group kind (APointer b) node n s right r v of is grouped made gave = absurd cc
reduced_typed p q op group kind Nothing node n s right r v of is grouped made gave = absurd cc

pub reduction_typed : ReductionIsTyped
unfolding binary_rule
reduction_typed p q mark op group kind node n s right r v of is mark_is grouped made gave =
    reduced_typed p q op group kind (operand right.of) node n s right r v of is grouped
    (sym (ap (λ (a : Operand). operated q op a (operand right.of) s right) (ap operand of)) ∙ (ap (λ (o : Option Bin). operated_by q o s right) (sym mark_is) ∙ made)) gave
