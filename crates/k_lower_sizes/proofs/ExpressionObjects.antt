-- The code of expressions speaks of none of a call's objects.
use Rattle.std.proofs.Common.{ℕ, ◌+◌, ◌≤◌, max, Bool, true, false, if◌then◌else◌, ℤ, List, [], ◌∷◌, ◌++◌, map, Option, Some, None, sym, subst, arith}
use Rattle.std.proofs.Math.Nat.{le-max_left, le-max_right, max-le}
use Rattle.k_num.specs.declared.place.Place.{Place}
use Rattle.k_num.specs.declared.numbers.Kind.{Kind}
use Rattle.k_num.specs.declared.numbers.Bin.{Bin}
use Rattle.k_num.specs.declared.numbers.Bin.TheVariants as bin
use Rattle.k_num.specs.declared.numbers.Un.{Un}
use Rattle.k_types_meaning.specs.declared.types.TType.{TType}
use Rattle.k_types_meaning.specs.declared.types.TType.TheVariants as ttype
use Rattle.k_types_meaning.specs.declared.tree.expression.Change.{Change}
use Rattle.k_types_meaning.specs.declared.tree.expression.Change.TheVariants as change
use Rattle.k_types_meaning.specs.declared.tree.expression.Node.{Node}
use Rattle.k_types_meaning.specs.declared.tree.expression.Piece.{Piece as Written}
use Rattle.k_types_meaning.specs.declared.tree.expression.TExpr.{TExpr, fold-roll-TExpr, ind-TExpr, map-TExpr}
use Rattle.k_types_meaning.specs.declared.tree.expression.TExpr.TheOpen.{TExpr-F}
use Rattle.k_types_meaning.specs.declared.tree.unit.TVariable.{TVariable}
use Rattle.k_types_meaning.specs.Types.{same_kind}
use Rattle.k_world.specs.declared.act.Out.{Out}
use Rattle.k_world.specs.declared.act.Out.TheVariants as out
use Rattle.k_code.specs.declared.instruction.Arg.{Arg}
use Rattle.k_code.specs.declared.instruction.Arg.TheVariants.{Number, Reg}
use Rattle.k_code.specs.declared.instruction.Do.{Do}
use Rattle.k_code.specs.declared.instruction.Do.TheVariants as act
use Rattle.k_code.specs.declared.instruction.Home.TheVariants.{File}
use Rattle.k_code.specs.declared.instruction.Instr.{Instr}
use Rattle.k_evaluation.specs.Assignments.{side_kind}
use Rattle.k_evaluation.specs.Library.{chunk_of}
use Rattle.k_evaluation.specs.Meanings.{kind_of, scale_of}
use Rattle.k_evaluation.specs.Operators.{kind_or_int}
use Rattle.k_evaluation.specs.Places.{string_number, is_register}
use Rattle.k_evaluation.specs.States.{Program}
use Rattle.k_lower_code.specs.Expressions.{lower_step, lowered}
use Rattle.k_lower_code.specs.Lowered.{Lowered, Designated, InRegister, InMemory, only_value, loads, value_in_memory, value_at, at_place, on_one, behind_one, on_two, in_turn}
use Rattle.k_lower_code.specs.Pieces.{Piece, only, ◌>>>◌, does, sets, nothing, settled, if_used, instruction}
use Rattle.k_lower_code.specs.Places as places
use Rattle.k_lower_code.specs.Operators as operators
use Rattle.k_lower_code.specs.Assignments as assignments
use Rattle.k_lower_code.specs.Library as library
use Rattle.k_lower_sizes.specs.Named.{objects_named, objects_of}

-- instructions one behind another speak of no more than both
pub both_name : (bound : ℕ) (one other : List Instr) → objects_of one ≤ bound → objects_of other ≤ bound → objects_of (one ++ other) ≤ bound
both_name bound [] other a b = b
both_name bound (i ∷ one) other a b =
    max-le (let x : objects_named i.act ≤ max (objects_named i.act) (objects_of one) = le-max_left (objects_named i.act) (objects_of one) in (let e : objects_named i.act ≤ bound = omega (arith, x, a) in e))
    (both_name bound one other (let x : objects_of one ≤ max (objects_named i.act) (objects_of one) = le-max_right (objects_named i.act) (objects_of one) in (let e : objects_of one ≤ bound = omega (arith, x, a) in e)) b)

-- a piece speaks of none
abbrev pub Plain : {A : Type 0} → Piece A → Type 0
Plain piece = (first : ℕ) → objects_of (piece.code first) ≤ 0

pub zero : 0 ≤ 0
zero = omega arith

pub only_plain : {A : Type 0} (a : A) → Plain (only a)
only_plain a first = zero

pub binds_plain : {A B : Type 0} (piece : Piece A) (next : A → Piece B) → Plain piece → Plain (next piece.gives) → Plain (piece >>> next)
binds_plain piece next one other first = both_name 0 (piece.code first) ((next piece.gives).code (first + piece.size)) (one first) (other (first + piece.size))

-- an expression speaks of none, as a value and as a place
pub record NamesNone (e : Lowered) : Type 0 where
  pub value : (used : Bool) (r : ℕ) → Plain (e.value used r)
  pub place : (r : ℕ) → Plain (e.place r)

abbrev AllNone : List Lowered → Type 0
AllNone [] = Unit {0}
AllNone (e ∷ es) = NamesNone e × AllNone es

only_value_none : (node : Node) (v : Bool → ℕ → Piece Arg) → ((used : Bool) (r : ℕ) → Plain (v used r)) → NamesNone (only_value node v)
only_value_none node v each = record { value = each; place = λ r first. zero }

on_one_none : (node : Node) (e : Lowered) (operation : ℕ → Arg → Piece Arg) → NamesNone e → ((r : ℕ) (x : Arg) → Plain (operation r x)) → NamesNone (on_one node e operation)
on_one_none node e operation is each = only_value_none node (λ used r. e.value true r >>> operation r) (λ used r. binds_plain (e.value true r) (operation r) (is.value true r) (each r (e.value true r).gives))

on_two_none : (node : Node) (e f : Lowered) (operation : ℕ → Arg → Arg → Piece Arg) → NamesNone e → NamesNone f → ((r : ℕ) (x y : Arg) → Plain (operation r x y)) → NamesNone (on_two node e f operation)
on_two_none node e f operation is other each =
    on_one_none node e (behind_one f operation) is (λ r x. binds_plain (f.value true (r + 1)) (operation r x) (other.value true (r + 1)) (each r x (f.value true (r + 1)).gives))

in_turn_plain : (es : List Lowered) (r : ℕ) → AllNone es → Plain (in_turn es r)
in_turn_plain [] r all = only_plain {A = List Arg} []
in_turn_plain (e ∷ es) r all =
    binds_plain (e.value true r) (λ a. in_turn es (r + 1) >>> λ rest. only (a ∷ rest)) (all.0.value true r)
    (binds_plain (in_turn es (r + 1)) (λ rest. only ((e.value true r).gives ∷ rest)) (in_turn_plain es (r + 1) all.1) (only_plain ((e.value true r).gives ∷ (in_turn es (r + 1)).gives)))

module _ (program : Program) where
  -- an instruction that speaks of none
  pub does_plain : (place : Place) (what : Do) → objects_named what ≤ 0 → Plain (does program place what)
  does_plain place what is first = max-le is zero

  pub sets_plain : (place : Place) (what : ℕ → Do) (to : ℕ) → objects_named (what to) ≤ 0 → Plain (sets program place what to)
  sets_plain place what to is = binds_plain (does program place (what to)) (λ done. only (Reg to false)) (does_plain place (what to) is) (only_plain (Reg to false))

  settled_plain : {A : Type 0} (place : Place) (piece : Piece A) → Plain piece → Plain (settled program place piece)
  unfolding objects_named
  settled_plain place piece is =
      binds_plain (does program place act.Save) (λ saved. piece >>> λ a. does program place act.Back >>> λ back. only a) (does_plain place act.Save zero)
      (binds_plain piece (λ a. does program place act.Back >>> λ back. only a) is
      (binds_plain (does program place act.Back) (λ back. only piece.gives) (does_plain place act.Back zero) (only_plain piece.gives)))

  loads_plain : (place : Place) (used : Bool) (r : ℕ) (a : Arg) → Plain (loads program place used r a)
  unfolding objects_named
  loads_plain place false r a = only_plain nothing
  loads_plain place true r a = sets_plain place (act.Load a) r zero

  in_memory_plain : (place : Place) (of : TType) (used : Bool) (r : ℕ) (a : Arg) → Plain (value_in_memory program place of used r a)
  in_memory_plain place ttype.Void used r a = only_plain nothing
  in_memory_plain place (ttype.Number kind) used r a = loads_plain place used r a
  in_memory_plain place (ttype.Pointer target) used r a = only_plain a

  value_at_plain : (node : Node) (used : Bool) (r : ℕ) (d : Designated) → Plain (value_at program node used r d)
  value_at_plain node used r (InRegister n broken) = only_plain (Reg n broken)
  value_at_plain node used r (InMemory a) = in_memory_plain node.place node.of used r a

  at_place_none : (node : Node) (place : ℕ → Piece Designated) → ((r : ℕ) → Plain (place r)) → NamesNone (at_place program node place)
  at_place_none node place each = record { value = λ used r. binds_plain (place r) (value_at program node used r) (each r) (value_at_plain node used r (place r).gives); place = each }

  -- PLACES
  number_none : (node : Node) (z : ℤ) → NamesNone (places.number node z)
  unfolding places.number
  number_none node z = only_value_none node (λ used r. only (Number z)) (λ used r. only_plain (Number z))

  address_of_plain : (place : Place) (object r : ℕ) → Plain (places.address_of program place object r)
  unfolding objects_named
  address_of_plain place object r = sets_plain place (act.Address (File object) 0) r zero

  string_value_plain : (place : Place) (object : ℕ) (used : Bool) (r : ℕ) → Plain (places.string_value program place object used r)
  string_value_plain place object false r = only_plain nothing
  string_value_plain place object true r = address_of_plain place object r

  string_none : (node : Node) (n : ℕ) (bytes : List ℕ) → NamesNone (places.string program node n bytes)
  unfolding places.string
  string_none node n bytes = record { value = λ used r. string_value_plain node.place (string_number program n) used r; place = λ r first. zero }

  object_none : (node : Node) (n : ℕ) → NamesNone (places.object program node n)
  unfolding places.object
  object_none node n =
      at_place_none node (λ r. places.address_of program node.place n r >>> λ address. only (InMemory address))
      (λ r. binds_plain (places.address_of program node.place n r) (λ address. only (InMemory address)) (address_of_plain node.place n r) (λ first. zero))

  variable_none : (vs : List TVariable) (node : Node) (n : ℕ) → NamesNone (places.variable program vs node n)
  unfolding places.variable
  variable_none vs node n = at_place_none node (λ r. only (places.variable_place program node n (is_register vs n))) (λ r first. zero)

  offset_plain : (place : Place) (minus : Bool) (scale r : ℕ) (a b : Arg) → Plain (places.offset program place minus scale r a b)
  unfolding objects_named
  offset_plain place minus scale r a b = sets_plain place (act.Offset minus scale a b) r zero

  index_none : (node : Node) (base by : Lowered) → NamesNone base → NamesNone by → NamesNone (places.index program node base by)
  unfolding places.index
  index_none node base by is other =
      at_place_none node (λ r. base.value true r >>> places.behind_base program node.place (scale_of base.node.of) by r)
      (λ r. binds_plain (base.value true r) (places.behind_base program node.place (scale_of base.node.of) by r) (is.value true r)
      (binds_plain (by.value true (r + 1)) (places.element_at program node.place (scale_of base.node.of) r (base.value true r).gives) (other.value true (r + 1))
      (binds_plain (places.offset program node.place false (scale_of base.node.of) r (base.value true r).gives (by.value true (r + 1)).gives) (λ address. only (InMemory address))
      (offset_plain node.place false (scale_of base.node.of) r (base.value true r).gives (by.value true (r + 1)).gives) (λ first. zero))))

  deref_none : (node : Node) (e : Lowered) → NamesNone e → NamesNone (places.deref program node e)
  unfolding places.deref
  deref_none node e is = at_place_none node (λ r. e.value true r >>> λ pointer. only (InMemory pointer)) (λ r. binds_plain (e.value true r) (λ pointer. only (InMemory pointer)) (is.value true r) (λ first. zero))

  address_none : (node : Node) (e : Lowered) → NamesNone e → NamesNone (places.address node e)
  unfolding places.address
  address_none node e is =
      only_value_none node (λ used r. e.place r >>> λ target. only (places.address_at target)) (λ used r. binds_plain (e.place r) (λ target. only (places.address_at target)) (is.place r) (λ first. zero))

  forward_none : (node : Node) (e f : Lowered) → NamesNone e → NamesNone f → NamesNone (places.forward program node e f)
  unfolding places.forward
  forward_none node e f is other = on_two_none node e f (places.offset program node.place false (scale_of node.of)) is other (λ r x y. offset_plain node.place false (scale_of node.of) r x y)

  back_none : (node : Node) (e f : Lowered) → NamesNone e → NamesNone f → NamesNone (places.back program node e f)
  unfolding places.back
  back_none node e f is other = on_two_none node e f (places.offset program node.place true (scale_of node.of)) is other (λ r x y. offset_plain node.place true (scale_of node.of) r x y)

  onto_none : (node : Node) (e f : Lowered) → NamesNone e → NamesNone f → NamesNone (places.onto program node e f)
  unfolding places.onto
  onto_none node e f is other = on_two_none node e f (places.offset_onto program node.place (scale_of node.of)) is other (λ r x y. offset_plain node.place false (scale_of node.of) r y x)

  -- OPERATORS
  plus_none : (node : Node) (e : Lowered) → NamesNone e → NamesNone (operators.plus node e)
  unfolding operators.plus
  plus_none node e is = only_value_none node e.value is.value

  unary_none : (node : Node) (op : Un) (kind : Kind) (e : Lowered) → NamesNone e → NamesNone (operators.unary program node op kind e)
  unfolding operators.unary objects_named
  unary_none node op kind e is = on_one_none node e (operators.unary_on program node.place op kind) is (λ r x. sets_plain node.place (act.Unary op kind x) r zero)

  converts_plain : (place : Place) (kind : Option Kind) (r : ℕ) (a : Arg) → Plain (operators.converts program place kind r a)
  unfolding objects_named
  converts_plain place None r a = only_plain a
  converts_plain place (Some kind) r a = sets_plain place (act.Convert kind a) r zero

  convert_none : (node : Node) (e : Lowered) → NamesNone e → NamesNone (operators.convert program node e)
  unfolding operators.convert
  convert_none node e is = on_one_none node e (operators.converts program node.place (kind_of node.of)) is (λ r x. converts_plain node.place (kind_of node.of) r x)

  cast_to_plain : (place : Place) (of : TType) (e : Lowered) → NamesNone e → (used : Bool) (r : ℕ) → Plain (operators.cast_to program place of e used r)
  cast_to_plain place ttype.Void e is used r = binds_plain (e.value false r) (λ x. only nothing) (is.value false r) (only_plain nothing)
  cast_to_plain place (ttype.Number kind) e is used r = binds_plain (e.value true r) (operators.converts program place (Some kind) r) (is.value true r) (converts_plain place (Some kind) r (e.value true r).gives)
  cast_to_plain place (ttype.Pointer target) e is used r = is.value used r

  cast_none : (node : Node) (e : Lowered) → NamesNone e → NamesNone (operators.cast program node e)
  unfolding operators.cast
  cast_none node e is = only_value_none node (operators.cast_to program node.place node.of e) (cast_to_plain node.place node.of e is)

  binary_plain : (place : Place) (op : Bin) (kind : Kind) (r : ℕ) (a b : Arg) → Plain (operators.binary_on program place op kind r a b)
  unfolding objects_named
  binary_plain place op kind r a b = sets_plain place (act.Binary op kind a b) r zero

  binary_none : (node : Node) (op : Bin) (kind : Kind) (e f : Lowered) → NamesNone e → NamesNone f → NamesNone (operators.binary program node op kind e f)
  unfolding operators.binary
  binary_none node op kind e f is other = on_two_none node e f (operators.binary_on program node.place op kind) is other (λ r x y. binary_plain node.place op kind r x y)

  compare_none : (node : Node) (op : Bin) (e f : Lowered) → NamesNone e → NamesNone f → NamesNone (operators.compare program node op e f)
  unfolding operators.compare objects_named
  compare_none node op e f is other = on_two_none node e f (operators.compare_on program node.place op) is other (λ r x y. sets_plain node.place (act.PtrCompare op x y) r zero)

  distance_none : (node : Node) (e f : Lowered) → NamesNone e → NamesNone f → NamesNone (operators.distance program node e f)
  unfolding operators.distance objects_named
  distance_none node e f is other = on_two_none node e f (operators.distance_on program node.place (scale_of e.node.of)) is other (λ r x y. sets_plain node.place (act.PtrDistance (scale_of e.node.of) x y) r zero)

  comma_none : (node : Node) (e f : Lowered) → NamesNone e → NamesNone f → NamesNone (operators.comma node e f)
  unfolding operators.comma
  comma_none node e f is other =
      only_value_none node (λ used r. e.value false r >>> λ x. f.value used r) (λ used r. binds_plain (e.value false r) (λ x. f.value used r) (is.value false r) (other.value used r))

  tests_before_plain : (place : Place) (decides : Bool) (to : Option ℕ) (a : Arg) (piece : Piece (Unit {0})) → Plain piece → Plain (operators.tests_before program place decides to a piece)
  unfolding objects_named
  tests_before_plain place false to a piece is first = max-le zero (is (first + 1))
  tests_before_plain place true to a piece is first = max-le zero (is (first + 1))

  truth_of_plain : (node : Node) (f : Lowered) (r : ℕ) → NamesNone f → Plain (operators.truth_of program node f r)
  unfolding objects_named
  truth_of_plain node f r is =
      binds_plain (f.value true (r + 1)) (λ x. does program node.place (act.Binary bin.Ne (kind_or_int (kind_of f.node.of)) x nothing r)) (is.value true (r + 1))
      (does_plain node.place (act.Binary bin.Ne (kind_or_int (kind_of f.node.of)) (f.value true (r + 1)).gives nothing r) zero)

  logical_none : (node : Node) (decides : Bool) (e f : Lowered) → NamesNone e → NamesNone f → NamesNone (operators.logical program node decides e f)
  logical_none node decides e f is other =
      only_value_none node (λ used r. settled program node.place (e.value true r >>> λ x. operators.tests_before program node.place decides (Some r) x (operators.truth_of program node f r) >>> λ done. only (Reg r false)))
      (λ used r.
      settled_plain node.place (e.value true r >>> λ x. operators.tests_before program node.place decides (Some r) x (operators.truth_of program node f r) >>> λ done. only (Reg r false))
      (binds_plain (e.value true r) (λ x. operators.tests_before program node.place decides (Some r) x (operators.truth_of program node f r) >>> λ done. only (Reg r false)) (is.value true r)
      (binds_plain (operators.tests_before program node.place decides (Some r) (e.value true r).gives (operators.truth_of program node f r)) (λ done. only (Reg r false))
      (tests_before_plain node.place decides (Some r) (e.value true r).gives (operators.truth_of program node f r) (truth_of_plain node f r other)) (only_plain (Reg r false)))))

  both_row_none : (node : Node) (e f : Lowered) → NamesNone e → NamesNone f → NamesNone (operators.both program node e f)
  unfolding operators.both
  both_row_none node e f is other = logical_none node false e f is other

  either_none : (node : Node) (e f : Lowered) → NamesNone e → NamesNone f → NamesNone (operators.either program node e f)
  unfolding operators.either
  either_none node e f is other = logical_none node true e f is other

  moves_plain : (place : Place) (r : ℕ) (a : Arg) → Plain (operators.moves program place r a)
  unfolding objects_named
  moves_plain place r a = sets_plain place (act.Move a) r zero

  arm_plain : (place : Place) (of : TType) (r : ℕ) (e : Lowered) → NamesNone e → Plain (operators.arm program place of r e)
  arm_plain place ttype.Void r e is = binds_plain (e.value false r) (λ x. only nothing) (is.value false r) (only_plain nothing)
  arm_plain place (ttype.Number kind) r e is = binds_plain (e.value true r) (operators.moves program place r) (is.value true r) (moves_plain place r (e.value true r).gives)
  arm_plain place (ttype.Pointer target) r e is = binds_plain (e.value true r) (operators.moves program place r) (is.value true r) (moves_plain place r (e.value true r).gives)

  chooses_plain : (place : Place) (a : Arg) (one other : Piece Arg) → Plain one → Plain other → Plain (operators.chooses program place a one other)
  unfolding objects_named
  chooses_plain place a one other is second first =
      max-le zero (both_name 0 (one.code (first + 1)) (instruction program place (act.Jump ((((first + 1) + one.size) + 1) + other.size)) ∷ other.code (((first + 1) + one.size) + 1)) (is (first + 1))
      (max-le zero (second (((first + 1) + one.size) + 1))))

  cond_none : (node : Node) (test e f : Lowered) → NamesNone test → NamesNone e → NamesNone f → NamesNone (operators.cond program node test e f)
  unfolding operators.cond
  cond_none node test e f tested is other =
      only_value_none node
      (λ used r. settled program node.place (test.value true r >>> λ x. operators.chooses program node.place x (operators.arm program node.place node.of r e) (operators.arm program node.place node.of r f)))
      (λ used r.
      settled_plain node.place (test.value true r >>> λ x. operators.chooses program node.place x (operators.arm program node.place node.of r e) (operators.arm program node.place node.of r f))
      (binds_plain (test.value true r) (λ x. operators.chooses program node.place x (operators.arm program node.place node.of r e) (operators.arm program node.place node.of r f)) (tested.value true r)
      (chooses_plain node.place (test.value true r).gives (operators.arm program node.place node.of r e) (operators.arm program node.place node.of r f) (arm_plain node.place node.of r e is)
      (arm_plain node.place node.of r f other))))

  -- ASSIGNMENTS
  pub writes_plain : (place : Place) (used : Bool) (r : ℕ) (d : Designated) (a : Arg) → Plain (assignments.writes program place used r d a)
  unfolding objects_named
  writes_plain place used r (InRegister n broken) a = binds_plain (does program place (act.Move a n)) (λ done. only (Reg n false)) (does_plain place (act.Move a n) zero) (only_plain (Reg n false))
  writes_plain place used r (InMemory address) a =
      binds_plain (does program place (act.Store address a (if_used used r))) (λ done. only (Reg r false))
      (does_plain place (act.Store address a (if_used used r)) zero) (only_plain (Reg r false))

  assign_none : (node : Node) (e f : Lowered) → NamesNone e → NamesNone f → NamesNone (assignments.assign program node e f)
  unfolding assignments.assign
  assign_none node e f is other =
      only_value_none node (λ used r. e.place r >>> assignments.behind_place program node.place f used r)
      (λ used r. binds_plain (e.place r) (assignments.behind_place program node.place f used r) (is.place r)
      (binds_plain (f.value true (r + 1)) (assignments.writes program node.place used r (e.place r).gives) (other.value true (r + 1)) (writes_plain node.place used r (e.place r).gives (f.value true (r + 1)).gives)))

  old_value_plain : (place : Place) (r : ℕ) (d : Designated) → Plain (assignments.old_value program place r d)
  unfolding objects_named
  old_value_plain place r (InRegister n broken) = only_plain (Reg n broken)
  old_value_plain place r (InMemory address) = sets_plain place (act.Load address) r zero

  between_by : (place : Place) (to : Kind) (r : ℕ) (a : Arg) (same : Bool) → Plain (if same then only a else operators.converts program place (Some to) r a)
  between_by place to r a true = only_plain a
  between_by place to r a false = converts_plain place (Some to) r a

  side_plain : (place : Place) (from : Option Kind) (to : Kind) (r : ℕ) (a : Arg) → Plain (assignments.converts_side program place from to r a)
  side_plain place None to r a = only_plain a
  side_plain place (Some from) to r a = between_by place to r a (same_kind from to)

  back_to_plain : (place : Place) (from : Kind) (to : Option Kind) (r : ℕ) (a : Arg) → Plain (assignments.converts_back program place from to r a)
  back_to_plain place from None r a = only_plain a
  back_to_plain place from (Some to) r a = between_by place to r a (same_kind from to)

  combined_plain : (place : Place) (op : Bin) (kind : Kind) (of by_of : Option Kind) (r : ℕ) (old by : Arg) → Plain (assignments.combined program place op kind of by_of r old by)
  combined_plain place op kind of by_of r old by =
      binds_plain (assignments.converts_side program place of kind (r + 1) old)
      (λ a. assignments.converts_side program place by_of (side_kind op kind by_of) (r + 2) by >>> λ b. operators.binary_on program place op kind (r + 1) a b >>> assignments.converts_back program place kind of (r + 1))
      (side_plain place of kind (r + 1) old)
      (binds_plain (assignments.converts_side program place by_of (side_kind op kind by_of) (r + 2) by)
      (λ b. operators.binary_on program place op kind (r + 1) (assignments.converts_side program place of kind (r + 1) old).gives b >>> assignments.converts_back program place kind of (r + 1))
      (side_plain place by_of (side_kind op kind by_of) (r + 2) by)
      (binds_plain (operators.binary_on program place op kind (r + 1) (assignments.converts_side program place of kind (r + 1) old).gives (assignments.converts_side program place by_of (side_kind op kind by_of) (r + 2) by).gives)
      (assignments.converts_back program place kind of (r + 1))
      (binary_plain place op kind (r + 1) (assignments.converts_side program place of kind (r + 1) old).gives (assignments.converts_side program place by_of (side_kind op kind by_of) (r + 2) by).gives)
      (back_to_plain place kind of (r + 1) (Reg (r + 1) false))))

  changed_plain : (place : Place) (how : Change) (of : TType) (by_of : Option Kind) (r : ℕ) (old by : Arg) → Plain (assignments.changed program place how of by_of r old by)
  changed_plain place (change.Number op kind) of by_of r old by = combined_plain place op kind (kind_of of) by_of r old by
  changed_plain place change.Forward of by_of r old by = offset_plain place false (scale_of of) (r + 1) old by
  changed_plain place change.Back of by_of r old by = offset_plain place true (scale_of of) (r + 1) old by

  changes_plain : (node : Node) (how : Change) (by_of : Option Kind) (used : Bool) (r : ℕ) (d : Designated) (by old : Arg) → Plain (assignments.changes program node how by_of used r d by old)
  changes_plain node how by_of used r d by old =
      binds_plain (assignments.changed program node.place how node.of by_of (r + 1) old by) (assignments.writes program node.place used r d) (changed_plain node.place how node.of by_of (r + 1) old by)
      (writes_plain node.place used r d _)

  changes_old_plain : (node : Node) (how : Change) (by_of : Option Kind) (used : Bool) (r : ℕ) (d : Designated) (by : Arg) → Plain (assignments.changes_old program node how by_of used r d by)
  changes_old_plain node how by_of used r d by =
      binds_plain (assignments.old_value program node.place (r + 2) d) (assignments.changes program node how by_of used r d by) (old_value_plain node.place (r + 2) d)
      (changes_plain node how by_of used r d by (assignments.old_value program node.place (r + 2) d).gives)

  assign_by_none : (node : Node) (how : Change) (e f : Lowered) → NamesNone e → NamesNone f → NamesNone (assignments.assign_by program node how e f)
  unfolding assignments.assign_by
  assign_by_none node how e f is other =
      only_value_none node (λ used r. e.place r >>> assignments.behind_changed program node how f used r)
      (λ used r. binds_plain (e.place r) (assignments.behind_changed program node how f used r) (is.place r)
      (binds_plain (f.value true (r + 1)) (assignments.changes_old program node how (kind_of f.node.of) used r (e.place r).gives) (other.value true (r + 1))
      (changes_old_plain node how (kind_of f.node.of) used r (e.place r).gives (f.value true (r + 1)).gives)))

  pre_none : (node : Node) (how : Change) (e : Lowered) → NamesNone e → NamesNone (assignments.pre program node how e)
  unfolding assignments.pre
  pre_none node how e is =
      only_value_none node (λ used r. e.place r >>> λ target. assignments.changes_old program node how None used r target assignments.one)
      (λ used r. binds_plain (e.place r) (λ target. assignments.changes_old program node how None used r target assignments.one) (is.place r) (changes_old_plain node how None used r (e.place r).gives assignments.one))

  after_old_plain : (node : Node) (how : Change) (used : Bool) (r : ℕ) (d : Designated) (old : Arg) → Plain (assignments.after_old program node how used r d old)
  after_old_plain node how false r d old = changes_plain node how None false (r + 1) d assignments.one old
  after_old_plain node how true r d old =
      binds_plain (operators.moves program node.place r old) (λ kept. assignments.changes program node how None false (r + 1) d assignments.one old >>> λ v. only kept) (moves_plain node.place r old)
      (binds_plain (assignments.changes program node how None false (r + 1) d assignments.one old) (λ v. only (operators.moves program node.place r old).gives)
      (changes_plain node how None false (r + 1) d assignments.one old) (only_plain (operators.moves program node.place r old).gives))

  post_none : (node : Node) (how : Change) (e : Lowered) → NamesNone e → NamesNone (assignments.post program node how e)
  unfolding assignments.post
  post_none node how e is =
      only_value_none node (λ used r. e.place (r + 1) >>> assignments.after_place program node how used r)
      (λ used r. binds_plain (e.place (r + 1)) (assignments.after_place program node how used r) (is.place (r + 1))
      (binds_plain (assignments.old_value program node.place (r + 3) (e.place (r + 1)).gives) (assignments.after_old program node how used r (e.place (r + 1)).gives)
      (old_value_plain node.place (r + 3) (e.place (r + 1)).gives) (after_old_plain node how used r (e.place (r + 1)).gives _)))

  -- CALLS
  getchar_none : (node : Node) → NamesNone (library.getchar program node)
  unfolding library.getchar objects_named
  getchar_none node = only_value_none node (λ used r. sets program node.place act.Input r) (λ used r. sets_plain node.place act.Input r zero)

  outputs_plain : (place : Place) (what : Out) (r : ℕ) (args : List Arg) → Plain (library.outputs program place what r args)
  unfolding objects_named
  outputs_plain place what r args = sets_plain place (act.Output what args) r zero

  putchar_none : (node : Node) (e : Lowered) → NamesNone e → NamesNone (library.putchar program node e)
  unfolding library.putchar
  putchar_none node e is = on_one_none node e (library.puts_byte program node.place) is (λ r x. outputs_plain node.place out.Byte r (x ∷ []))

  puts_none : (node : Node) (e : Lowered) → NamesNone (library.puts program node e)
  unfolding library.puts
  puts_none node e = only_value_none node (λ used r. library.outputs program node.place (out.Line e.text) r []) (λ used r. outputs_plain node.place (out.Line e.text) r [])

  printf_none : (node : Node) (format : List Written) (args : List Lowered) → AllNone args → NamesNone (library.printf program node format args)
  unfolding library.printf
  printf_none node format args all =
      only_value_none node (λ used r. in_turn args r >>> library.outputs program node.place (out.Format (map chunk_of format)) r)
      (λ used r. binds_plain (in_turn args r) (library.outputs program node.place (out.Format (map chunk_of format)) r) (in_turn_plain args r all)
      (outputs_plain node.place (out.Format (map chunk_of format)) r (in_turn args r).gives))

  calls_with_plain : (node : Node) (f : ℕ) (used : Bool) (r : ℕ) (args : List Arg) → Plain (library.calls_with program node f used r args)
  unfolding objects_named
  calls_with_plain node f used r args =
      settled_plain node.place (does program node.place (act.Call f args (library.returned_to node.of used r)) >>> λ done. only (library.value_returned node.of r))
      (binds_plain (does program node.place (act.Call f args (library.returned_to node.of used r))) (λ done. only (library.value_returned node.of r))
      (does_plain node.place (act.Call f args (library.returned_to node.of used r)) zero) (only_plain (library.value_returned node.of r)))

  call_none : (node : Node) (f : ℕ) (args : List Lowered) → AllNone args → NamesNone (library.call program node f args)
  unfolding library.call
  call_none node f args all =
      only_value_none node (λ used r. in_turn args r >>> library.calls_with program node f used r)
      (λ used r. binds_plain (in_turn args r) (library.calls_with program node f used r) (in_turn_plain args r all) (calls_with_plain node f used r (in_turn args r).gives))

  module _ (vs : List TVariable) where
    abbrev made : TExpr → Lowered
    made = lowered program vs

    abbrev None_ : TExpr → Type 0
    None_ e = NamesNone (made e)

    abbrev Pair : Type 0
    Pair = (e : TExpr) × None_ e

    all_none : (items : List Pair) → AllNone (map made (map (λ (x : Pair). x.0) items))
    all_none [] = tt
    all_none (x ∷ items) = (x.1, all_none items)

    abbrev Layer : TExpr-F TExpr → Type 0
    Layer z = NamesNone (lower_step program vs (map-TExpr TExpr Lowered made z))

    by : (y : TExpr-F Pair) → Layer (map-TExpr _ TExpr (λ (x : Pair). x.0) y)
    by (TExpr-F.Number node z) = number_none node z
    by (TExpr-F.Str node n bytes) = string_none node n bytes
    by (TExpr-F.Object node n) = object_none node n
    by (TExpr-F.Variable node n) = variable_none vs node n
    by (TExpr-F.Index node a b) = index_none node (made a.0) (made b.0) a.1 b.1
    by (TExpr-F.Call node f args) = call_none node f _ (all_none args)
    by (TExpr-F.Getchar node) = getchar_none node
    by (TExpr-F.Putchar node a) = putchar_none node (made a.0) a.1
    by (TExpr-F.Puts node a) = puts_none node (made a.0)
    by (TExpr-F.Printf node format args) = printf_none node format _ (all_none args)
    by (TExpr-F.Post node change a) = post_none node change (made a.0) a.1
    by (TExpr-F.Pre node change a) = pre_none node change (made a.0) a.1
    by (TExpr-F.Address node a) = address_none node (made a.0) a.1
    by (TExpr-F.Deref node a) = deref_none node (made a.0) a.1
    by (TExpr-F.Plus node a) = plus_none node (made a.0) a.1
    by (TExpr-F.Unary node op kind a) = unary_none node op kind (made a.0) a.1
    by (TExpr-F.Convert node a) = convert_none node (made a.0) a.1
    by (TExpr-F.Cast node a) = cast_none node (made a.0) a.1
    by (TExpr-F.Binary node op kind a b) = binary_none node op kind (made a.0) (made b.0) a.1 b.1
    by (TExpr-F.Both node a b) = both_row_none node (made a.0) (made b.0) a.1 b.1
    by (TExpr-F.Either node a b) = either_none node (made a.0) (made b.0) a.1 b.1
    by (TExpr-F.Forward node a b) = forward_none node (made a.0) (made b.0) a.1 b.1
    by (TExpr-F.Onto node a b) = onto_none node (made a.0) (made b.0) a.1 b.1
    by (TExpr-F.Back node a b) = back_none node (made a.0) (made b.0) a.1 b.1
    by (TExpr-F.PtrCompare node op a b) = compare_none node op (made a.0) (made b.0) a.1 b.1
    by (TExpr-F.PtrDistance node a b) = distance_none node (made a.0) (made b.0) a.1 b.1
    by (TExpr-F.Cond node a b c) = cond_none node (made a.0) (made b.0) (made c.0) a.1 b.1 c.1
    by (TExpr-F.Assign node a b) = assign_none node (made a.0) (made b.0) a.1 b.1
    by (TExpr-F.AssignBy node change a b) = assign_by_none node change (made a.0) (made b.0) a.1 b.1
    by (TExpr-F.Comma node a b) = comma_none node (made a.0) (made b.0) a.1 b.1

    -- AN EXPRESSION
    pub expression_names_none : (e : TExpr) → NamesNone (lowered program vs e)
    expression_names_none = ind-TExpr None_ (λ x y is. subst NamesNone (sym (fold-roll-TExpr Lowered (lower_step program vs) x)) (subst Layer is (by y)))
