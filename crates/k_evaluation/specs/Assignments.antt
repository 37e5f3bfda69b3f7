-- Believed with the theorem on the top call.
-- The rows of assignments: `=`, the compound forms, `++` and `--` (C17 6.5.2.4, 6.5.3.1, 6.5.16).
use Rattle.std.specs.Prelude.{Bool, true, false, if◌then◌else◌, pos, [], ◌∷◌, Option, Some, None}
use Rattle.k_num.specs.declared.place.Place.{Place}
use Rattle.k_num.specs.declared.numbers.Kind.{Kind}
use Rattle.k_num.specs.declared.numbers.Bin.{Bin}
use Rattle.k_num.specs.declared.numbers.Bin.TheVariants.{Shl, Shr}
use Rattle.k_num.specs.Kind.{promoted}
use Rattle.k_optab.specs.declared.class.Class.TheVariants as class
use Rattle.k_types_meaning.specs.declared.types.TType.{TType}
use Rattle.k_types_meaning.specs.declared.tree.expression.Change.{Change}
use Rattle.k_types_meaning.specs.declared.tree.expression.Change.TheVariants as change
use Rattle.k_types_meaning.specs.declared.tree.expression.Node.{Node}
use Rattle.k_types_meaning.specs.Types.{same_kind}
use Rattle.k_world.specs.declared.act.Act.TheVariants as act
use Rattle.k_world.specs.declared.value.Value.TheVariants as value
use Rattle.k_evaluation.specs.declared.operand.Operand.{Operand}
use Rattle.k_evaluation.specs.declared.operand.Operand.TheVariants.{Constant, Register}
use Rattle.k_evaluation.specs.declared.operand.Target.{Target}
use Rattle.k_evaluation.specs.declared.operand.Target.TheVariants.{InRegister, InMemory}
use Rattle.k_evaluation.specs.States.{Program, Part, ◌>>=◌, gives, makes, computes, sets}
use Rattle.k_evaluation.specs.Meanings.{Meaning, only_value, kind_of, scale_of}
use Rattle.k_evaluation.specs.Places.{offset}
use Rattle.k_evaluation.specs.Operators.{converts, binary_on, kind_or_int, moves}

-- A value is written to a place: to a register by a move, to memory by a store at an address. The assignment to a register is read by the
-- operation that uses it (C17 6.5.16p3).
abbrev pub writes : Program → Place → Target → Operand → Part Operand
writes program place (InRegister n broken) a =
    makes program class.Move place act.Move (a ∷ []) >>= λ held. sets n (Some held) >>= λ done. gives (Register n false)
writes program place (InMemory address) a = computes program class.Store place act.Store (address ∷ a ∷ [])

-- the right side of `=` behind its place
abbrev pub behind_place : Program → Place → Meaning → Target → Part Operand
behind_place program place right target = right.value true >>= writes program place target

-- `place = right`: the place, the right side, the move or the store (C17 6.5.16.1)
unfoldable pub assign : Program → Node → Meaning → Meaning → Meaning
assign program node left right = only_value node (λ used. left.place >>= behind_place program node.place right)

-- the old value of a place that is changed: memory is loaded, a register is read by the operation that uses it
abbrev pub old_value : Program → Place → Target → Part Operand
old_value program place (InRegister n broken) = gives (Register n broken)
old_value program place (InMemory address) = computes program class.Load place act.Load (address ∷ [])

-- a value of one kind in another, by a conversion where they differ
abbrev pub converts_between : Program → Place → Kind → Kind → Operand → Part Operand
converts_between program place from to a = if same_kind from to then gives a else converts program place (Some to) a

-- the same of a value whose kind may not be known: then it has the other already
abbrev pub converts_side : Program → Place → Option Kind → Kind → Operand → Part Operand
converts_side program place None to a = gives a
converts_side program place (Some from) to a = converts_between program place from to a

-- a result brought back to the kind of its place
abbrev pub converts_back : Program → Place → Kind → Option Kind → Operand → Part Operand
converts_back program place from None a = gives a
converts_back program place from (Some to) a = converts_between program place from to a

-- C17 6.5.7p3: the kind of the right operand of an operation in a kind: of a shift its own promoted kind
abbrev pub side_kind : Bin → Kind → Option Kind → Kind
side_kind Shl kind from = promoted (kind_or_int from)
side_kind Shr kind from = promoted (kind_or_int from)
side_kind op kind from = kind

-- What an operator makes of the old value of a place of this kind and of a right operand of that kind: the conversions of both, the
-- operation, the conversion back.
abbrev pub combined : Program → Place → Bin → Kind → Option Kind → Option Kind → Operand → Operand → Part Operand
combined program place op kind of by_of old by =
    converts_side program place of kind old >>= λ a. converts_side program place by_of (side_kind op kind by_of) by >>= λ b.
    binary_on program place op kind a b >>= converts_back program place kind of

-- what a change makes of the old value of a place of this type and of a right operand of that kind
abbrev pub changed : Program → Place → Change → TType → Option Kind → Operand → Operand → Part Operand
changed program place (change.Number op kind) of by_of old by = combined program place op kind (kind_of of) by_of old by
changed program place change.Forward of by_of old by = offset program place false (scale_of of) old by
changed program place change.Back of by_of old by = offset program place true (scale_of of) old by

-- a place is changed, behind its right operand and its old value
abbrev pub changes : Program → Node → Change → Option Kind → Target → Operand → Operand → Part Operand
changes program node change by_of target by old =
    changed program node.place change node.of by_of old by >>= writes program node.place target

-- a place is changed, behind its right operand
abbrev pub changes_old : Program → Node → Change → Option Kind → Target → Operand → Part Operand
changes_old program node change by_of target by = old_value program node.place target >>= changes program node change by_of target by

-- the right side of a compound assignment behind its place
abbrev pub behind_changed : Program → Node → Change → Meaning → Target → Part Operand
behind_changed program node change right target =
    right.value true >>= changes_old program node change (kind_of right.node.of) target

-- `place op= right`: the place, the right side, the load where it is memory, the conversions, the operation, the conversion back, the
-- move or the store (C17 6.5.16.2)
unfoldable pub assign_by : Program → Node → Change → Meaning → Meaning → Meaning
assign_by program node change left right = only_value node (λ used. left.place >>= behind_changed program node change right)

-- the number 1, of every kind, which is the right operand of `++` and `--`
abbrev pub one : Operand
one = Constant (value.Number (pos 1))

-- `++ place`, `-- place`: as `place op= 1` (C17 6.5.3.1)
unfoldable pub pre : Program → Node → Change → Meaning → Meaning
pre program node change e = only_value node (λ used. e.place >>= λ target. changes_old program node change None target one)

-- behind the old value of `place ++`: where it is used, it is moved first
abbrev pub after_old : Program → Node → Change → Bool → Target → Operand → Part Operand
after_old program node change false target old = changes program node change None target one old
after_old program node change true target old =
    moves program node.place old >>= λ kept. changes program node change None target one old >>= λ v. gives kept

-- behind the place of `place ++`
abbrev pub after_place : Program → Node → Change → Bool → Target → Part Operand
after_place program node change used target = old_value program node.place target >>= after_old program node change used target

-- `place ++`, `place --`: as `place op= 1`; the value, where it is used, is the old one, which is moved first (C17 6.5.2.4)
unfoldable pub post : Program → Node → Change → Meaning → Meaning
post program node change e = only_value node (λ used. e.place >>= after_place program node change used)
