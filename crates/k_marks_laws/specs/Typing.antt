-- Believed with a public law.
-- TYPING: what its rules give is what the laws ask of a step.
use Rattle.std.specs.Prelude.{ℕ, ◌≡◌, Some}
use Rattle.k_num.specs.declared.numbers.Bin.{Bin}
use Rattle.k_num.specs.declared.numbers.Kind.{Kind}
use Rattle.k_num.specs.declared.place.Place.{Place}
use Rattle.k_tree.specs.declared.tokens.mark.Mark.{Mark}
use Rattle.k_tree.specs.Operators.{operator_of}
use Rattle.k_types_meaning.specs.declared.types.CType.TheVariants as ctype
use Rattle.k_types_meaning.specs.declared.tree.expression.Node.{Node}
use Rattle.k_types_meaning.specs.declared.tree.expression.TExpr.{out-TExpr}
use Rattle.k_types_meaning.specs.declared.tree.expression.TExpr.TheVariants as typed
use Rattle.k_types_meaning.specs.Conversions.{Typed}
use Rattle.k_types_meaning.specs.Made.{Fine}
use Rattle.k_types_meaning.specs.Operands.{post_rule, pre_rule}
use Rattle.k_types_meaning.specs.Operators.{assign_rule, binary_rule, set_rule}
use Rattle.k_marks_meaning.specs.declared.uses.Group.{Group}
use Rattle.k_marks_meaning.specs.Reductions.{group_of}
use Rattle.k_marks_laws.specs.Counted.{IsTypedStepAt, IsTypedTestAt}
use Rattle.k_marks_laws.specs.Reduced.{IsTypedAssignment}

-- `e ++` and `e --` of a number of a kind
abbrev pub PostfixIsTyped : Type 0
PostfixIsTyped = (p : Place) (op : Mark) (kind : Kind) (e v : Typed) → e.of ≡ ctype.Number kind → post_rule p op e ≡ Fine v → IsTypedStepAt kind (out-TExpr v.tree)

-- `++ e` and `-- e`
abbrev pub PrefixIsTyped : Type 0
PrefixIsTyped = (p : Place) (op : Mark) (kind : Kind) (e v : Typed) → e.of ≡ ctype.Number kind → pre_rule p op e ≡ Fine v → IsTypedStepAt kind (out-TExpr v.tree)

-- `e op= right`
abbrev pub AssignmentIsTyped : Type 0
AssignmentIsTyped =
    (p : Place) (op : Mark) (kind : Kind) (e right v : Typed) → e.of ≡ ctype.Number kind → assign_rule p op e right ≡ Fine v → IsTypedStepAt kind (out-TExpr v.tree)

-- `i op right`, where i is a variable
abbrev pub TestIsTyped : Type 0
TestIsTyped =
    (p : Place) (op : Mark) (kind : Kind) (node : Node) (n : ℕ) (i right v : Typed) → i.of ≡ ctype.Number kind → i.tree ≡ typed.Variable node n → binary_rule p op i right ≡ Fine v
    → IsTypedTestAt (out-TExpr v.tree)

-- `s = s op right`, where s is a variable and the operator is one of a group
abbrev pub ReductionIsTyped : Type 0
ReductionIsTyped =
    (p q : Place) (mark : Mark) (op : Bin) (group : Group) (kind : Kind) (node : Node) (n : ℕ) (s right r v : Typed) → s.of ≡ ctype.Number kind → s.tree ≡ typed.Variable node n
    → operator_of mark ≡ Some op → group_of op ≡ Some group → binary_rule q mark s right ≡ Fine r → set_rule p s r ≡ Fine v → IsTypedAssignment kind (out-TExpr v.tree)
