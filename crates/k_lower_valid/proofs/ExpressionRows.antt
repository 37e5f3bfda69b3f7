-- The rows of expressions may stand anywhere in a text, where their operands may.
use Rattle.std.proofs.Common.{ℕ, ◌≡◌, ◌+◌, ◌<◌, ◌≤◌, Bool, true, false, if◌then◌else◌, ℤ, List, [], ◌∷◌, map, length, Option, Some, None, refl, arith}
use Rattle.std.proofs.lemmas.Bool.{lt-ltb}
use Rattle.k_num.specs.declared.place.Place.{Place}
use Rattle.k_num.specs.declared.numbers.Kind.{Kind}
use Rattle.k_num.specs.declared.numbers.Bin.{Bin}
use Rattle.k_num.specs.declared.numbers.Bin.TheVariants as bin
use Rattle.k_num.specs.declared.numbers.Un.{Un}
use Rattle.k_types_meaning.specs.declared.types.TType.{TType}
use Rattle.k_types_meaning.specs.declared.types.TType.TheVariants as ttype
use Rattle.k_types_meaning.specs.declared.tree.expression.Change.{Change}
use Rattle.k_types_meaning.specs.declared.tree.expression.Change.TheVariants as change
use Rattle.k_types_meaning.specs.declared.tree.expression.Node.{Node}
use Rattle.k_types_meaning.specs.declared.tree.expression.Piece.{Piece as Written}
use Rattle.k_types_meaning.specs.declared.tree.unit.TVariable.{TVariable}
use Rattle.k_types_meaning.specs.Types.{same_kind}
use Rattle.k_world.specs.declared.act.Out.{Out}
use Rattle.k_world.specs.declared.act.Out.TheVariants as out
use Rattle.k_code.specs.declared.code.Code.{Code}
use Rattle.k_code.specs.declared.instruction.Arg.{Arg}
use Rattle.k_code.specs.declared.instruction.Arg.TheVariants.{Number, Reg}
use Rattle.k_code.specs.declared.instruction.Do.TheVariants as act
use Rattle.k_code.specs.declared.instruction.Home.TheVariants.{File}
use Rattle.k_code.specs.Balances.{left_open, is_met, goes_on}
use Rattle.k_code.specs.Named.{is_there, out_is_short}
use Rattle.k_evaluation.specs.Assignments.{side_kind}
use Rattle.k_evaluation.specs.Library.{chunk_of}
use Rattle.k_evaluation.specs.Meanings.{kind_of, scale_of}
use Rattle.k_evaluation.specs.Operators.{kind_or_int}
use Rattle.k_evaluation.specs.Places.{string_number, is_register}
use Rattle.k_evaluation.specs.States.{Program}
use Rattle.k_lower_code.specs.Lowered.{Lowered, Designated, InRegister, InMemory, only_value, loads, value_in_memory, value_at, at_place, on_one, behind_one, on_two, in_turn}
use Rattle.k_lower_code.specs.Pieces.{Piece, only, ◌>>>◌, does, sets, nothing, if_used, settled}
use Rattle.k_lower_code.specs.Places as places
use Rattle.k_lower_code.specs.Operators as operators
use Rattle.k_lower_code.specs.Assignments as assignments
use Rattle.k_lower_code.specs.Library as library
use Rattle.k_lower_valid.proofs.Texts.{HasTable}
use Rattle.k_lower_valid.proofs.Stands.{Stands, only_stands, binds_stand, does_stands, sets_stand, settled_stands, tests_before_stands, chooses_stands}

-- AN EXPRESSION'S CODE MAY STAND ANYWHERE, that of its value and that of its place, and its text is short
pub record LoweredStands (code : Code) (e : Lowered) : Type 0 where
  pub value : (used : Bool) (r : ℕ) → Stands code (e.value used r)
  pub place : (r : ℕ) → Stands code (e.place r)
  pub short : length e.text ≤ 4194304

-- so may that of several
abbrev pub AllStand : Code → List Lowered → Type 0
AllStand code [] = Unit {0}
AllStand code (e ∷ es) = LoweredStands code e × AllStand code es

module _ (code : Code) (program : Program) (table : HasTable program) where
  pub only_value_stands : (node : Node) (v : Bool → ℕ → Piece Arg) → ((used : Bool) (r : ℕ) → Stands code (v used r)) → LoweredStands code (only_value node v)
  only_value_stands node v value = record { value = value; place = λ r. only_stands code (InMemory nothing); short = omega arith }

  loads_stand : (place : Place) (used : Bool) (r : ℕ) (a : Arg) → Stands code (loads program place used r a)
  unfolding goes_on left_open is_met is_there
  loads_stand place false r a = only_stands code nothing
  loads_stand place true r a = sets_stand code program table place (act.Load a) r refl (λ b. refl) (λ b. refl) refl refl

  in_memory_stands : (place : Place) (of : TType) (used : Bool) (r : ℕ) (a : Arg) → Stands code (value_in_memory program place of used r a)
  in_memory_stands place ttype.Void used r a = only_stands code nothing
  in_memory_stands place (ttype.Number kind) used r a = loads_stand place used r a
  in_memory_stands place (ttype.Pointer target) used r a = only_stands code a

  value_at_stands : (node : Node) (used : Bool) (r : ℕ) (d : Designated) → Stands code (value_at program node used r d)
  value_at_stands node used r (InRegister n broken) = only_stands code (Reg n broken)
  value_at_stands node used r (InMemory a) = in_memory_stands node.place node.of used r a

  at_place_stands : (node : Node) (place : ℕ → Piece Designated) → ((r : ℕ) → Stands code (place r)) → LoweredStands code (at_place program node place)
  at_place_stands node place each = record {
    value = λ used r. binds_stand code (place r) (value_at program node used r) (each r) (value_at_stands node used r (place r).gives);
    place = each;
    short = omega arith;
  }

  on_one_stands : (node : Node) (e : Lowered) (operation : ℕ → Arg → Piece Arg) → LoweredStands code e → ((r : ℕ) (a : Arg) → Stands code (operation r a))
      → LoweredStands code (on_one node e operation)
  on_one_stands node e operation is each = only_value_stands node (λ used r. e.value true r >>> operation r)
      (λ used r. binds_stand code (e.value true r) (operation r) (is.value true r) (each r (e.value true r).gives))

  on_two_stands : (node : Node) (left right : Lowered) (operation : ℕ → Arg → Arg → Piece Arg) → LoweredStands code left → LoweredStands code right
      → ((r : ℕ) (a b : Arg) → Stands code (operation r a b)) → LoweredStands code (on_two node left right operation)
  on_two_stands node left right operation first second each = on_one_stands node left (behind_one right operation) first
      (λ r a. binds_stand code (right.value true (r + 1)) (operation r a) (second.value true (r + 1)) (each r a (right.value true (r + 1)).gives))

  in_turn_stands : (es : List Lowered) (r : ℕ) → AllStand code es → Stands code (in_turn es r)
  in_turn_stands [] r all = only_stands code []
  in_turn_stands (e ∷ es) r all =
      binds_stand code (e.value true r) (λ a. in_turn es (r + 1) >>> λ rest. only (a ∷ rest)) (all.0.value true r)
      (binds_stand code (in_turn es (r + 1)) (λ rest. only ((e.value true r).gives ∷ rest)) (in_turn_stands es (r + 1) all.1) (only_stands code _))

  -- PLACES
  pub number_stands : (node : Node) (z : ℤ) → LoweredStands code (places.number node z)
  unfolding places.number
  number_stands node z = only_value_stands node (λ used r. only (Number z)) (λ used r. only_stands code (Number z))

  address_of_stands : (place : Place) (object r : ℕ) → object < length code.objects → Stands code (places.address_of program place object r)
  unfolding goes_on left_open is_met is_there
  address_of_stands place object r there = sets_stand code program table place (act.Address (File object) 0) r refl (λ b. refl) (λ b. refl) (lt-ltb object (length code.objects) there) refl

  string_value_stands : (place : Place) (object : ℕ) (used : Bool) (r : ℕ) → object < length code.objects → Stands code (places.string_value program place object used r)
  string_value_stands place object false r there = only_stands code nothing
  string_value_stands place object true r there = address_of_stands place object r there

  pub string_stands : (node : Node) (n : ℕ) (bytes : List ℕ) → string_number program n < length code.objects → length bytes ≤ 4194304 → LoweredStands code (places.string program node n bytes)
  unfolding places.string
  string_stands node n bytes there short = record {
    value = λ used r. string_value_stands node.place (string_number program n) used r there;
    place = λ r. only_stands code (InMemory nothing);
    short = short;
  }

  pub object_stands : (node : Node) (n : ℕ) → n < length code.objects → LoweredStands code (places.object program node n)
  unfolding places.object
  object_stands node n there = at_place_stands node (λ r. places.address_of program node.place n r >>> λ address. only (InMemory address))
      (λ r. binds_stand code (places.address_of program node.place n r) (λ address. only (InMemory address)) (address_of_stands node.place n r there) (only_stands code _))

  variable_place_stands : (node : Node) (n : ℕ) (b : Bool) → Stands code (only (places.variable_place program node n b))
  variable_place_stands node n b = only_stands code (places.variable_place program node n b)

  pub variable_stands : (vs : List TVariable) (node : Node) (n : ℕ) → LoweredStands code (places.variable program vs node n)
  unfolding places.variable
  variable_stands vs node n = at_place_stands node (λ r. only (places.variable_place program node n (is_register vs n))) (λ r. variable_place_stands node n (is_register vs n))

  offset_stands : (place : Place) (minus : Bool) (scale r : ℕ) (a b : Arg) → Stands code (places.offset program place minus scale r a b)
  unfolding goes_on left_open is_met is_there
  offset_stands place minus scale r a b = sets_stand code program table place (act.Offset minus scale a b) r refl (λ b. refl) (λ b. refl) refl refl

  element_stands : (place : Place) (scale r : ℕ) (a b : Arg) → Stands code (places.element_at program place scale r a b)
  element_stands place scale r a b =
      binds_stand code (places.offset program place false scale r a b) (λ address. only (InMemory address)) (offset_stands place false scale r a b) (only_stands code _)

  pub index_stands : (node : Node) (base by : Lowered) → LoweredStands code base → LoweredStands code by → LoweredStands code (places.index program node base by)
  unfolding places.index
  index_stands node base by first second = at_place_stands node (λ r. base.value true r >>> places.behind_base program node.place (scale_of base.node.of) by r)
      (λ r. binds_stand code (base.value true r) (places.behind_base program node.place (scale_of base.node.of) by r) (first.value true r)
      (binds_stand code (by.value true (r + 1)) (places.element_at program node.place (scale_of base.node.of) r (base.value true r).gives) (second.value true (r + 1))
      (element_stands node.place (scale_of base.node.of) r (base.value true r).gives (by.value true (r + 1)).gives)))

  pub deref_stands : (node : Node) (e : Lowered) → LoweredStands code e → LoweredStands code (places.deref program node e)
  unfolding places.deref
  deref_stands node e is = at_place_stands node (λ r. e.value true r >>> λ pointer. only (InMemory pointer))
      (λ r. binds_stand code (e.value true r) (λ pointer. only (InMemory pointer)) (is.value true r) (only_stands code _))

  pub address_stands : (node : Node) (e : Lowered) → LoweredStands code e → LoweredStands code (places.address node e)
  unfolding places.address
  address_stands node e is = only_value_stands node (λ used r. e.place r >>> λ target. only (places.address_at target))
      (λ used r. binds_stand code (e.place r) (λ target. only (places.address_at target)) (is.place r) (only_stands code _))

  pub forward_stands : (node : Node) (a b : Lowered) → LoweredStands code a → LoweredStands code b → LoweredStands code (places.forward program node a b)
  unfolding places.forward
  forward_stands node a b first second = on_two_stands node a b (places.offset program node.place false (scale_of node.of)) first second (λ r x y. offset_stands node.place false (scale_of node.of) r x y)

  pub back_stands : (node : Node) (a b : Lowered) → LoweredStands code a → LoweredStands code b → LoweredStands code (places.back program node a b)
  unfolding places.back
  back_stands node a b first second = on_two_stands node a b (places.offset program node.place true (scale_of node.of)) first second (λ r x y. offset_stands node.place true (scale_of node.of) r x y)

  pub onto_stands : (node : Node) (a b : Lowered) → LoweredStands code a → LoweredStands code b → LoweredStands code (places.onto program node a b)
  unfolding places.onto
  onto_stands node a b first second = on_two_stands node a b (places.offset_onto program node.place (scale_of node.of)) first second (λ r x y. offset_stands node.place false (scale_of node.of) r y x)

  -- OPERATORS
  pub plus_stands : (node : Node) (e : Lowered) → LoweredStands code e → LoweredStands code (operators.plus node e)
  unfolding operators.plus
  plus_stands node e is = only_value_stands node e.value is.value

  pub unary_stands : (node : Node) (op : Un) (kind : Kind) (e : Lowered) → LoweredStands code e → LoweredStands code (operators.unary program node op kind e)
  unfolding operators.unary goes_on left_open is_met is_there
  unary_stands node op kind e is = on_one_stands node e (operators.unary_on program node.place op kind) is
      (λ r a. sets_stand code program table node.place (act.Unary op kind a) r refl (λ b. refl) (λ b. refl) refl refl)

  converts_stand : (place : Place) (kind : Option Kind) (r : ℕ) (a : Arg) → Stands code (operators.converts program place kind r a)
  unfolding goes_on left_open is_met is_there
  converts_stand place None r a = only_stands code a
  converts_stand place (Some kind) r a = sets_stand code program table place (act.Convert kind a) r refl (λ b. refl) (λ b. refl) refl refl

  pub convert_stands : (node : Node) (e : Lowered) → LoweredStands code e → LoweredStands code (operators.convert program node e)
  unfolding operators.convert
  convert_stands node e is = on_one_stands node e (operators.converts program node.place (kind_of node.of)) is (converts_stand node.place (kind_of node.of))

  cast_to_stands : (place : Place) (of : TType) (e : Lowered) → LoweredStands code e → (used : Bool) (r : ℕ) → Stands code (operators.cast_to program place of e used r)
  cast_to_stands place ttype.Void e is used r = binds_stand code (e.value false r) (λ a. only nothing) (is.value false r) (only_stands code nothing)
  cast_to_stands place (ttype.Number kind) e is used r =
      binds_stand code (e.value true r) (operators.converts program place (Some kind) r) (is.value true r) (converts_stand place (Some kind) r (e.value true r).gives)
  cast_to_stands place (ttype.Pointer target) e is used r = is.value used r

  pub cast_stands : (node : Node) (e : Lowered) → LoweredStands code e → LoweredStands code (operators.cast program node e)
  unfolding operators.cast
  cast_stands node e is = only_value_stands node (operators.cast_to program node.place node.of e) (cast_to_stands node.place node.of e is)

  binary_on_stands : (place : Place) (op : Bin) (kind : Kind) (r : ℕ) (a b : Arg) → Stands code (operators.binary_on program place op kind r a b)
  unfolding goes_on left_open is_met is_there
  binary_on_stands place op kind r a b = sets_stand code program table place (act.Binary op kind a b) r refl (λ b. refl) (λ b. refl) refl refl

  pub binary_stands : (node : Node) (op : Bin) (kind : Kind) (a b : Lowered) → LoweredStands code a → LoweredStands code b → LoweredStands code (operators.binary program node op kind a b)
  unfolding operators.binary
  binary_stands node op kind a b first second = on_two_stands node a b (operators.binary_on program node.place op kind) first second (binary_on_stands node.place op kind)

  pub compare_stands : (node : Node) (op : Bin) (a b : Lowered) → LoweredStands code a → LoweredStands code b → LoweredStands code (operators.compare program node op a b)
  unfolding operators.compare goes_on left_open is_met is_there
  compare_stands node op a b first second = on_two_stands node a b (operators.compare_on program node.place op) first second
      (λ r x y. sets_stand code program table node.place (act.PtrCompare op x y) r refl (λ b. refl) (λ b. refl) refl refl)

  pub distance_stands : (node : Node) (a b : Lowered) → LoweredStands code a → LoweredStands code b → LoweredStands code (operators.distance program node a b)
  unfolding operators.distance goes_on left_open is_met is_there
  distance_stands node a b first second = on_two_stands node a b (operators.distance_on program node.place (scale_of a.node.of)) first second
      (λ r x y. sets_stand code program table node.place (act.PtrDistance (scale_of a.node.of) x y) r refl (λ b. refl) (λ b. refl) refl refl)

  truth_of_stands : (node : Node) (right : Lowered) (r : ℕ) → LoweredStands code right → Stands code (operators.truth_of program node right r)
  unfolding goes_on left_open is_met is_there
  truth_of_stands node right r is =
      binds_stand code (right.value true (r + 1)) (λ b. does program node.place (act.Binary bin.Ne (kind_or_int (kind_of right.node.of)) b nothing r)) (is.value true (r + 1))
      (does_stands code program table node.place (act.Binary bin.Ne (kind_or_int (kind_of right.node.of)) (right.value true (r + 1)).gives nothing r) refl (λ b. refl) (λ b. refl) refl refl)

  logical_stands : (node : Node) (decides : Bool) (a b : Lowered) → LoweredStands code a → LoweredStands code b → LoweredStands code (operators.logical program node decides a b)
  logical_stands node decides a b first second = only_value_stands node
      (λ used r. settled program node.place (a.value true r >>> λ x. operators.tests_before program node.place decides (Some r) x (operators.truth_of program node b r) >>> λ done. only (Reg r false)))
      (λ used r. settled_stands code program table node.place (a.value true r >>> λ x. operators.tests_before program node.place decides (Some r) x (operators.truth_of program node b r) >>> λ done. only (Reg r false))
      (binds_stand code (a.value true r) (λ x. operators.tests_before program node.place decides (Some r) x (operators.truth_of program node b r) >>> λ done. only (Reg r false)) (first.value true r)
      (binds_stand code (operators.tests_before program node.place decides (Some r) (a.value true r).gives (operators.truth_of program node b r)) (λ done. only (Reg r false))
      (tests_before_stands code program table node.place decides (Some r) (a.value true r).gives (operators.truth_of program node b r) (truth_of_stands node b r second))
      (only_stands code (Reg r false)))))

  pub both_stands : (node : Node) (a b : Lowered) → LoweredStands code a → LoweredStands code b → LoweredStands code (operators.both program node a b)
  unfolding operators.both
  both_stands node a b first second = logical_stands node false a b first second

  pub either_stands : (node : Node) (a b : Lowered) → LoweredStands code a → LoweredStands code b → LoweredStands code (operators.either program node a b)
  unfolding operators.either
  either_stands node a b first second = logical_stands node true a b first second

  moves_stand : (place : Place) (r : ℕ) (a : Arg) → Stands code (operators.moves program place r a)
  unfolding goes_on left_open is_met is_there
  moves_stand place r a = sets_stand code program table place (act.Move a) r refl (λ b. refl) (λ b. refl) refl refl

  arm_stands : (place : Place) (of : TType) (r : ℕ) (e : Lowered) → LoweredStands code e → Stands code (operators.arm program place of r e)
  arm_stands place ttype.Void r e is = binds_stand code (e.value false r) (λ a. only nothing) (is.value false r) (only_stands code nothing)
  arm_stands place (ttype.Number kind) r e is = binds_stand code (e.value true r) (operators.moves program place r) (is.value true r) (moves_stand place r (e.value true r).gives)
  arm_stands place (ttype.Pointer target) r e is = binds_stand code (e.value true r) (operators.moves program place r) (is.value true r) (moves_stand place r (e.value true r).gives)

  pub cond_stands : (node : Node) (test a b : Lowered) → LoweredStands code test → LoweredStands code a → LoweredStands code b → LoweredStands code (operators.cond program node test a b)
  unfolding operators.cond
  cond_stands node test a b is first second = only_value_stands node
      (λ used r. settled program node.place (test.value true r >>> λ x. operators.chooses program node.place x (operators.arm program node.place node.of r a) (operators.arm program node.place node.of r b)))
      (λ used r. settled_stands code program table node.place
      (test.value true r >>> λ x. operators.chooses program node.place x (operators.arm program node.place node.of r a) (operators.arm program node.place node.of r b))
      (binds_stand code (test.value true r) (λ x. operators.chooses program node.place x (operators.arm program node.place node.of r a) (operators.arm program node.place node.of r b)) (is.value true r)
      (chooses_stands code program table node.place (test.value true r).gives (operators.arm program node.place node.of r a) (operators.arm program node.place node.of r b)
      (arm_stands node.place node.of r a first) (arm_stands node.place node.of r b second))))

  pub comma_stands : (node : Node) (a b : Lowered) → LoweredStands code a → LoweredStands code b → LoweredStands code (operators.comma node a b)
  unfolding operators.comma
  comma_stands node a b first second = only_value_stands node (λ used r. a.value false r >>> λ x. b.value used r)
      (λ used r. binds_stand code (a.value false r) (λ x. b.value used r) (first.value false r) (second.value used r))

  -- ASSIGNMENTS
  pub writes_stand : (place : Place) (used : Bool) (r : ℕ) (d : Designated) (a : Arg) → Stands code (assignments.writes program place used r d a)
  unfolding goes_on left_open is_met is_there
  writes_stand place used r (InRegister n broken) a =
      binds_stand code (does program place (act.Move a n)) (λ done. only (Reg n false)) (does_stands code program table place (act.Move a n) refl (λ b. refl) (λ b. refl) refl refl) (only_stands code (Reg n false))
  writes_stand place used r (InMemory address) a =
      binds_stand code (does program place (act.Store address a (if_used used r))) (λ done. only (Reg r false))
      (does_stands code program table place (act.Store address a (if_used used r)) refl (λ b. refl) (λ b. refl) refl refl) (only_stands code (Reg r false))

  pub assign_stands : (node : Node) (a b : Lowered) → LoweredStands code a → LoweredStands code b → LoweredStands code (assignments.assign program node a b)
  unfolding assignments.assign
  assign_stands node a b first second = only_value_stands node (λ used r. a.place r >>> assignments.behind_place program node.place b used r)
      (λ used r. binds_stand code (a.place r) (assignments.behind_place program node.place b used r) (first.place r)
      (binds_stand code (b.value true (r + 1)) (assignments.writes program node.place used r (a.place r).gives) (second.value true (r + 1))
      (writes_stand node.place used r (a.place r).gives (b.value true (r + 1)).gives)))

  old_value_stands : (place : Place) (r : ℕ) (d : Designated) → Stands code (assignments.old_value program place r d)
  unfolding goes_on left_open is_met is_there
  old_value_stands place r (InRegister n broken) = only_stands code (Reg n broken)
  old_value_stands place r (InMemory address) = sets_stand code program table place (act.Load address) r refl (λ b. refl) (λ b. refl) refl refl

  between_by : (place : Place) (to : Kind) (r : ℕ) (a : Arg) (same : Bool) → Stands code (if same then only a else operators.converts program place (Some to) r a)
  between_by place to r a true = only_stands code a
  between_by place to r a false = converts_stand place (Some to) r a

  side_stands : (place : Place) (from : Option Kind) (to : Kind) (r : ℕ) (a : Arg) → Stands code (assignments.converts_side program place from to r a)
  side_stands place None to r a = only_stands code a
  side_stands place (Some from) to r a = between_by place to r a (same_kind from to)

  back_to_stands : (place : Place) (from : Kind) (to : Option Kind) (r : ℕ) (a : Arg) → Stands code (assignments.converts_back program place from to r a)
  back_to_stands place from None r a = only_stands code a
  back_to_stands place from (Some to) r a = between_by place to r a (same_kind from to)

  combined_stands : (place : Place) (op : Bin) (kind : Kind) (of by_of : Option Kind) (r : ℕ) (old by : Arg) → Stands code (assignments.combined program place op kind of by_of r old by)
  combined_stands place op kind of by_of r old by =
      binds_stand code (assignments.converts_side program place of kind (r + 1) old)
      (λ a. assignments.converts_side program place by_of (side_kind op kind by_of) (r + 2) by >>> λ b.
      operators.binary_on program place op kind (r + 1) a b >>> assignments.converts_back program place kind of (r + 1))
      (side_stands place of kind (r + 1) old)
      (binds_stand code (assignments.converts_side program place by_of (side_kind op kind by_of) (r + 2) by)
      (λ b. operators.binary_on program place op kind (r + 1) (assignments.converts_side program place of kind (r + 1) old).gives b >>> assignments.converts_back program place kind of (r + 1))
      (side_stands place by_of (side_kind op kind by_of) (r + 2) by)
      (binds_stand code (operators.binary_on program place op kind (r + 1) (assignments.converts_side program place of kind (r + 1) old).gives (assignments.converts_side program place by_of (side_kind op kind by_of) (r + 2) by).gives)
      (assignments.converts_back program place kind of (r + 1))
      (binary_on_stands place op kind (r + 1) (assignments.converts_side program place of kind (r + 1) old).gives (assignments.converts_side program place by_of (side_kind op kind by_of) (r + 2) by).gives)
      (back_to_stands place kind of (r + 1) _)))

  changed_stands : (place : Place) (how : Change) (of : TType) (by_of : Option Kind) (r : ℕ) (old by : Arg) → Stands code (assignments.changed program place how of by_of r old by)
  changed_stands place (change.Number op kind) of by_of r old by = combined_stands place op kind (kind_of of) by_of r old by
  changed_stands place change.Forward of by_of r old by = offset_stands place false (scale_of of) (r + 1) old by
  changed_stands place change.Back of by_of r old by = offset_stands place true (scale_of of) (r + 1) old by

  changes_stand : (node : Node) (how : Change) (by_of : Option Kind) (used : Bool) (r : ℕ) (d : Designated) (by old : Arg) → Stands code (assignments.changes program node how by_of used r d by old)
  changes_stand node how by_of used r d by old =
      binds_stand code (assignments.changed program node.place how node.of by_of (r + 1) old by) (assignments.writes program node.place used r d)
      (changed_stands node.place how node.of by_of (r + 1) old by) (writes_stand node.place used r d _)

  changes_old_stands : (node : Node) (how : Change) (by_of : Option Kind) (used : Bool) (r : ℕ) (d : Designated) (by : Arg) → Stands code (assignments.changes_old program node how by_of used r d by)
  changes_old_stands node how by_of used r d by =
      binds_stand code (assignments.old_value program node.place (r + 2) d) (assignments.changes program node how by_of used r d by)
      (old_value_stands node.place (r + 2) d) (changes_stand node how by_of used r d by (assignments.old_value program node.place (r + 2) d).gives)

  pub assign_by_stands : (node : Node) (how : Change) (a b : Lowered) → LoweredStands code a → LoweredStands code b → LoweredStands code (assignments.assign_by program node how a b)
  unfolding assignments.assign_by
  assign_by_stands node how a b first second = only_value_stands node (λ used r. a.place r >>> assignments.behind_changed program node how b used r)
      (λ used r. binds_stand code (a.place r) (assignments.behind_changed program node how b used r) (first.place r)
      (binds_stand code (b.value true (r + 1)) (assignments.changes_old program node how (kind_of b.node.of) used r (a.place r).gives) (second.value true (r + 1))
      (changes_old_stands node how (kind_of b.node.of) used r (a.place r).gives (b.value true (r + 1)).gives)))

  pub pre_stands : (node : Node) (how : Change) (e : Lowered) → LoweredStands code e → LoweredStands code (assignments.pre program node how e)
  unfolding assignments.pre
  pre_stands node how e is = only_value_stands node (λ used r. e.place r >>> λ target. assignments.changes_old program node how None used r target assignments.one)
      (λ used r. binds_stand code (e.place r) (λ target. assignments.changes_old program node how None used r target assignments.one) (is.place r)
      (changes_old_stands node how None used r (e.place r).gives assignments.one))

  after_old_stands : (node : Node) (how : Change) (used : Bool) (r : ℕ) (d : Designated) (old : Arg) → Stands code (assignments.after_old program node how used r d old)
  after_old_stands node how false r d old = changes_stand node how None false (r + 1) d assignments.one old
  after_old_stands node how true r d old =
      binds_stand code (operators.moves program node.place r old) (λ kept. assignments.changes program node how None false (r + 1) d assignments.one old >>> λ v. only kept)
      (moves_stand node.place r old)
      (binds_stand code (assignments.changes program node how None false (r + 1) d assignments.one old) (λ v. only (operators.moves program node.place r old).gives)
      (changes_stand node how None false (r + 1) d assignments.one old) (only_stands code _))

  pub post_stands : (node : Node) (how : Change) (e : Lowered) → LoweredStands code e → LoweredStands code (assignments.post program node how e)
  unfolding assignments.post
  post_stands node how e is = only_value_stands node (λ used r. e.place (r + 1) >>> assignments.after_place program node how used r)
      (λ used r. binds_stand code (e.place (r + 1)) (assignments.after_place program node how used r) (is.place (r + 1))
      (binds_stand code (assignments.old_value program node.place (r + 3) (e.place (r + 1)).gives) (assignments.after_old program node how used r (e.place (r + 1)).gives)
      (old_value_stands node.place (r + 3) (e.place (r + 1)).gives) (after_old_stands node how used r (e.place (r + 1)).gives _)))

  -- CALLS
  outputs_stand : (place : Place) (what : Out) (r : ℕ) (args : List Arg) → out_is_short what ≡ true → Stands code (library.outputs program place what r args)
  unfolding goes_on left_open is_met is_there
  outputs_stand place what r args short = sets_stand code program table place (act.Output what args) r refl (λ b. refl) (λ b. refl) refl short

  pub getchar_stands : (node : Node) → LoweredStands code (library.getchar program node)
  unfolding library.getchar goes_on left_open is_met is_there
  getchar_stands node = only_value_stands node (λ used r. sets program node.place act.Input r)
      (λ used r. sets_stand code program table node.place act.Input r refl (λ b. refl) (λ b. refl) refl refl)

  byte_stands : (place : Place) (r : ℕ) (a : Arg) → Stands code (library.puts_byte program place r a)
  unfolding out_is_short
  byte_stands place r a = outputs_stand place out.Byte r (a ∷ []) refl

  pub putchar_stands : (node : Node) (e : Lowered) → LoweredStands code e → LoweredStands code (library.putchar program node e)
  unfolding library.putchar
  putchar_stands node e is = on_one_stands node e (library.puts_byte program node.place) is (byte_stands node.place)

  line_is_short : (bytes : List ℕ) → length bytes ≤ 4194304 → out_is_short (out.Line bytes) ≡ true
  unfolding out_is_short
  line_is_short bytes short = Rattle.std.proofs.lemmas.Bool.le-leb (length bytes) 4194304 short

  pub puts_stands : (node : Node) (e : Lowered) → LoweredStands code e → LoweredStands code (library.puts program node e)
  unfolding library.puts
  puts_stands node e is = only_value_stands node (λ used r. library.outputs program node.place (out.Line e.text) r [])
      (λ used r. outputs_stand node.place (out.Line e.text) r [] (line_is_short e.text is.short))

  pub printf_stands : (node : Node) (format : List Written) (args : List Lowered) → out_is_short (out.Format (map chunk_of format)) ≡ true → AllStand code args
      → LoweredStands code (library.printf program node format args)
  unfolding library.printf
  printf_stands node format args short all = only_value_stands node (λ used r. in_turn args r >>> library.outputs program node.place (out.Format (map chunk_of format)) r)
      (λ used r. binds_stand code (in_turn args r) (library.outputs program node.place (out.Format (map chunk_of format)) r) (in_turn_stands args r all)
      (outputs_stand node.place (out.Format (map chunk_of format)) r (in_turn args r).gives short))

  calls_with_stands : (node : Node) (f : ℕ) (used : Bool) (r : ℕ) (args : List Arg) → f < length code.funcs → Stands code (library.calls_with program node f used r args)
  unfolding goes_on left_open is_met is_there
  calls_with_stands node f used r args there =
      settled_stands code program table node.place (does program node.place (act.Call f args (library.returned_to node.of used r)) >>> λ done. only (library.value_returned node.of r))
      (binds_stand code (does program node.place (act.Call f args (library.returned_to node.of used r))) (λ done. only (library.value_returned node.of r))
      (does_stands code program table node.place (act.Call f args (library.returned_to node.of used r)) refl (λ b. refl) (λ b. refl) (lt-ltb f (length code.funcs) there) refl)
      (only_stands code (library.value_returned node.of r)))

  pub call_stands : (node : Node) (f : ℕ) (args : List Lowered) → f < length code.funcs → AllStand code args → LoweredStands code (library.call program node f args)
  unfolding library.call
  call_stands node f args there all = only_value_stands node (λ used r. in_turn args r >>> library.calls_with program node f used r)
      (λ used r. binds_stand code (in_turn args r) (library.calls_with program node f used r) (in_turn_stands args r all) (calls_with_stands node f used r (in_turn args r).gives there))
