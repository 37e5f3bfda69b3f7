-- Believed with a public law.
-- The rows of assignments, `++` and `--`.
use Rattle.std.specs.Prelude.{ℕ, ◌+◌, Bool, true, false, if◌then◌else◌, pos, Option, Some, None}
use Rattle.k_num.specs.declared.place.Place.{Place}
use Rattle.k_num.specs.declared.numbers.Kind.{Kind}
use Rattle.k_num.specs.declared.numbers.Bin.{Bin}
use Rattle.k_types_meaning.specs.declared.types.TType.{TType}
use Rattle.k_types_meaning.specs.declared.tree.expression.Change.{Change}
use Rattle.k_types_meaning.specs.declared.tree.expression.Change.TheVariants as change
use Rattle.k_types_meaning.specs.declared.tree.expression.Node.{Node}
use Rattle.k_types_meaning.specs.Types.{same_kind}
use Rattle.k_code.specs.declared.instruction.Arg.{Arg}
use Rattle.k_code.specs.declared.instruction.Arg.TheVariants.{Number, Reg}
use Rattle.k_code.specs.declared.instruction.Do.TheVariants.{Load, Move, Store}
use Rattle.k_evaluation.specs.Assignments.{side_kind}
use Rattle.k_evaluation.specs.Meanings.{kind_of, scale_of}
use Rattle.k_evaluation.specs.States.{Program}
use Rattle.k_lower_code.specs.Lowered.{Lowered, Designated, InRegister, InMemory, only_value}
use Rattle.k_lower_code.specs.Operators.{converts, binary_on, moves}
use Rattle.k_lower_code.specs.Pieces.{Piece, only, ◌>>>◌, does, sets, if_used}
use Rattle.k_lower_code.specs.Places.{offset}

-- a value is written to a place: to a register by a move, to memory by a store, whose value goes to a register where it is used
abbrev pub writes : Program → Place → Bool → ℕ → Designated → Arg → Piece Arg
writes program place used r (InRegister n broken) a = does program place (Move a n) >>> λ done. only (Reg n false)
writes program place used r (InMemory address) a = does program place (Store address a (if_used used r)) >>> λ done. only (Reg r false)

-- the right side of `=` behind its place
abbrev pub behind_place : Program → Place → Lowered → Bool → ℕ → Designated → Piece Arg
behind_place program place right used r target = right.value true (r + 1) >>> writes program place used r target

-- `place = right`
unfoldable pub assign : Program → Node → Lowered → Lowered → Lowered
assign program node left right = only_value node (λ used r. left.place r >>> behind_place program node.place right used r)

-- the old value of a place that is changed
abbrev pub old_value : Program → Place → ℕ → Designated → Piece Arg
old_value program place r (InRegister n broken) = only (Reg n broken)
old_value program place r (InMemory address) = sets program place (Load address) r

-- a value of one kind in another, by a conversion where they differ
abbrev pub converts_between : Program → Place → Kind → Kind → ℕ → Arg → Piece Arg
converts_between program place from to r a = if same_kind from to then only a else converts program place (Some to) r a

-- the same of a value whose kind may not be known
abbrev pub converts_side : Program → Place → Option Kind → Kind → ℕ → Arg → Piece Arg
converts_side program place None to r a = only a
converts_side program place (Some from) to r a = converts_between program place from to r a

-- a result brought back to the kind of its place
abbrev pub converts_back : Program → Place → Kind → Option Kind → ℕ → Arg → Piece Arg
converts_back program place from None r a = only a
converts_back program place from (Some to) r a = converts_between program place from to r a

-- what an operator makes of the old value of a place and of a right operand: the conversions of both, the operation, the conversion back;
-- the right operand stands in the first register, the old value and the result in the next, and the right operand converted in the third
abbrev pub combined : Program → Place → Bin → Kind → Option Kind → Option Kind → ℕ → Arg → Arg → Piece Arg
combined program place op kind of by_of r old by =
    converts_side program place of kind (r + 1) old >>> λ a. converts_side program place by_of (side_kind op kind by_of) (r + 2) by >>> λ b.
    binary_on program place op kind (r + 1) a b >>> converts_back program place kind of (r + 1)

-- what a change makes of the old value of a place of this type and of a right operand of that kind
abbrev pub changed : Program → Place → Change → TType → Option Kind → ℕ → Arg → Arg → Piece Arg
changed program place (change.Number op kind) of by_of r old by = combined program place op kind (kind_of of) by_of r old by
changed program place change.Forward of by_of r old by = offset program place false (scale_of of) (r + 1) old by
changed program place change.Back of by_of r old by = offset program place true (scale_of of) (r + 1) old by

-- a place is changed, behind its right operand and its old value
abbrev pub changes : Program → Node → Change → Option Kind → Bool → ℕ → Designated → Arg → Arg → Piece Arg
changes program node change by_of used r target by old =
    changed program node.place change node.of by_of (r + 1) old by >>> writes program node.place used r target

-- a place is changed, behind its right operand
abbrev pub changes_old : Program → Node → Change → Option Kind → Bool → ℕ → Designated → Arg → Piece Arg
changes_old program node change by_of used r target by =
    old_value program node.place (r + 2) target >>> changes program node change by_of used r target by

-- the right side of a compound assignment behind its place
abbrev pub behind_changed : Program → Node → Change → Lowered → Bool → ℕ → Designated → Piece Arg
behind_changed program node change right used r target =
    right.value true (r + 1) >>> changes_old program node change (kind_of right.node.of) used r target

-- `place op= right`
unfoldable pub assign_by : Program → Node → Change → Lowered → Lowered → Lowered
assign_by program node change left right =
    only_value node (λ used r. left.place r >>> behind_changed program node change right used r)

-- the number 1, which is the right operand of `++` and `--`
abbrev pub one : Arg
one = Number (pos 1)

-- `++ place`, `-- place`
unfoldable pub pre : Program → Node → Change → Lowered → Lowered
pre program node change e = only_value node (λ used r. e.place r >>> λ target. changes_old program node change None used r target one)

-- behind the old value of `place ++`, whose place stands in the second register: where it is used, it is moved to the first
abbrev pub after_old : Program → Node → Change → Bool → ℕ → Designated → Arg → Piece Arg
after_old program node change false r target old = changes program node change None false (r + 1) target one old
after_old program node change true r target old =
    moves program node.place r old >>> λ kept. changes program node change None false (r + 1) target one old >>> λ v. only kept

-- behind the place of `place ++`
abbrev pub after_place : Program → Node → Change → Bool → ℕ → Designated → Piece Arg
after_place program node change used r target = old_value program node.place (r + 3) target >>> after_old program node change used r target

-- `place ++`, `place --`
unfoldable pub post : Program → Node → Change → Lowered → Lowered
post program node change e = only_value node (λ used r. e.place (r + 1) >>> after_place program node change used r)
