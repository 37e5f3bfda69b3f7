-- Each expression uses few registers: those of variables, and as many temporaries as its constructs cost.
use Rattle.std.proofs.Common.{ℕ, ◌≡◌, ◌+◌, ◌<◌, ◌≤◌, ◌&&◌, not, max, Bool, true, false, if◌then◌else◌, ℤ, List, [], ◌∷◌, ◌++◌, map, slice_get, Option, Some, None, sym, subst, arith}
use Rattle.std.proofs.lemmas.Bool.{and_parts, ltb-true}
use Rattle.std.proofs.Math.Nat.{le-max_left, le-max_right, max-le}
use Rattle.k_num.specs.declared.place.Place.{Place}
use Rattle.k_num.specs.declared.numbers.Kind.{Kind}
use Rattle.k_num.specs.declared.numbers.Bin.{Bin}
use Rattle.k_num.specs.declared.numbers.Bin.TheVariants as bin
use Rattle.k_num.specs.declared.numbers.Un.{Un}
use Rattle.k_optab.specs.declared.class.Class.TheVariants as class
use Rattle.k_types_meaning.specs.declared.types.TType.{TType}
use Rattle.k_types_meaning.specs.declared.types.TType.TheVariants as ttype
use Rattle.k_types_meaning.specs.declared.tree.expression.Change.{Change}
use Rattle.k_types_meaning.specs.declared.tree.expression.Change.TheVariants as change
use Rattle.k_types_meaning.specs.declared.tree.expression.Node.{Node}
use Rattle.k_types_meaning.specs.declared.tree.expression.Piece.{Piece as Written}
use Rattle.k_types_meaning.specs.declared.tree.expression.TExpr.{TExpr, roll-TExpr, fold-roll-TExpr, ind-TExpr, map-TExpr}
use Rattle.k_types_meaning.specs.declared.tree.expression.TExpr.TheOpen.{TExpr-F}
use Rattle.k_types_meaning.specs.declared.tree.unit.TVariable.{TVariable}
use Rattle.k_types_meaning.specs.Types.{same_kind}
use Rattle.k_world.specs.declared.act.Out.{Out}
use Rattle.k_world.specs.declared.act.Out.TheVariants as out
use Rattle.k_code.specs.declared.instruction.Arg.{Arg}
use Rattle.k_code.specs.declared.instruction.Arg.TheVariants.{Number, Reg}
use Rattle.k_code.specs.declared.instruction.Do.{Do}
use Rattle.k_code.specs.declared.instruction.Do.TheVariants as act
use Rattle.k_code.specs.declared.instruction.Home.TheVariants.{File}
use Rattle.k_code.specs.declared.instruction.Instr.{Instr}
use Rattle.k_code.specs.Named.{operands, register_set, registers_needed, up_to_operand, up_to_operands, up_to_register}
use Rattle.k_evaluation.specs.Assignments.{side_kind}
use Rattle.k_evaluation.specs.Library.{chunk_of}
use Rattle.k_evaluation.specs.Meanings.{kind_of, scale_of}
use Rattle.k_evaluation.specs.Operators.{kind_or_int}
use Rattle.k_evaluation.specs.Places.{string_number, is_register}
use Rattle.k_evaluation.specs.States.{Program}
use Rattle.k_lower_code.specs.Expressions.{lower_step, lowered}
use Rattle.k_lower_code.specs.Functions.{registers_of}
use Rattle.k_lower_code.specs.Lowered.{Lowered, Designated, InRegister, InMemory, only_value, loads, value_in_memory, value_at, at_place, on_one, behind_one, on_two, in_turn}
use Rattle.k_lower_code.specs.Pieces.{Piece, only, ◌>>>◌, does, sets, nothing, if_used, settled, instruction}
use Rattle.k_lower_code.specs.Places as places
use Rattle.k_lower_code.specs.Operators as operators
use Rattle.k_lower_code.specs.Assignments as assignments
use Rattle.k_lower_code.specs.Library as library
use Rattle.k_lower_fits.specs.Costs.{Cost, arguments, expr_cost_step, expr_cost}
use Rattle.k_lower_fits.specs.Fits.{Limits, Callee, Use, has_values, all_used, call_fits, cast_fits, expr_step, expr_fits}

-- instructions one behind another need no more registers than both
pub both_need : (bound : ℕ) (one other : List Instr) → registers_of one ≤ bound → registers_of other ≤ bound → registers_of (one ++ other) ≤ bound
both_need bound [] other a b = b
both_need bound (i ∷ one) other a b =
    max-le (let x : registers_needed i.act ≤ max (registers_needed i.act) (registers_of one) = le-max_left (registers_needed i.act) (registers_of one) in (let e : registers_needed i.act ≤ bound = omega (arith, x, a) in e))
    (both_need bound one other (let x : registers_of one ≤ max (registers_needed i.act) (registers_of one) = le-max_right (registers_needed i.act) (registers_of one) in (let e : registers_of one ≤ bound = omega (arith, x, a) in e)) b)

pub least_left : (r a b bound : ℕ) → r + max a b ≤ bound → r + a ≤ bound
least_left r a b bound few = (let x : a ≤ max a b = le-max_left a b in omega (arith, x, few))

pub least_right : (r a b bound : ℕ) → r + max a b ≤ bound → r + b ≤ bound
least_right r a b bound few = (let x : b ≤ max a b = le-max_right a b in omega (arith, x, few))

module _ (program : Program) (count bound : ℕ) (all : count ≤ bound) where
  -- what an instruction and a piece need is below the bound, and so is what the piece gives
  abbrev pub ArgIn : Arg → Type 0
  ArgIn a = up_to_operand a ≤ bound

  abbrev pub PlaceIn : Designated → Type 0
  PlaceIn (InRegister n broken) = n + 1 ≤ bound
  PlaceIn (InMemory a) = ArgIn a

  abbrev pub Done : Unit {0} → Type 0
  Done u = Unit {0}

  abbrev pub ArgsIn : List Arg → Type 0
  ArgsIn args = up_to_operands args ≤ bound

  pub record In {A : Type 0} (ok : A → Type 0) (piece : Piece A) : Type 0 where
    pub needs : (first : ℕ) → registers_of (piece.code first) ≤ bound
    pub gives : ok piece.gives

  pub only_in : {A : Type 0} (ok : A → Type 0) (a : A) → ok a → In ok (only a)
  only_in ok a is = record { needs = λ first. (let e : 0 ≤ bound = omega arith in e); gives = is }

  pub binds_in : {A B : Type 0} (p : A → Type 0) (q : B → Type 0) (piece : Piece A) (next : A → Piece B) → In p piece → (p piece.gives → In q (next piece.gives)) → In q (piece >>> next)
  binds_in p q piece next one other = record {
    needs = λ first. both_need bound (piece.code first) ((next piece.gives).code (first + piece.size)) (one.needs first) ((other one.gives).needs (first + piece.size));
    gives = (other one.gives).gives;
  }

  pub does_in : (place : Place) (what : Do) → up_to_operands (operands what) ≤ bound → up_to_register (register_set what) ≤ bound → In Done (does program place what)
  unfolding registers_needed
  does_in place what args set = record { needs = λ first. max-le (max-le args set) (let e : 0 ≤ bound = omega arith in e); gives = tt }

  pub sets_in : (place : Place) (what : ℕ → Do) (to : ℕ) → up_to_operands (operands (what to)) ≤ bound → up_to_register (register_set (what to)) ≤ bound → to + 1 ≤ bound → In ArgIn (sets program place what to)
  sets_in place what to args set low = binds_in Done ArgIn (does program place (what to)) (λ done. only (Reg to false)) (does_in place (what to) args set) (λ u. only_in ArgIn (Reg to false) low)

  zero_in : 0 ≤ bound
  zero_in = omega arith

  pub one_arg : (a : Arg) → ArgIn a → ArgsIn (a ∷ [])
  one_arg a is = max-le is zero_in

  pub two_args : (a b : Arg) → ArgIn a → ArgIn b → ArgsIn (a ∷ b ∷ [])
  two_args a b x y = max-le x (max-le y zero_in)

  pub settled_in : {A : Type 0} (ok : A → Type 0) (place : Place) (piece : Piece A) → In ok piece → In ok (settled program place piece)
  unfolding operands register_set
  settled_in ok place piece is =
      binds_in Done ok (does program place act.Save) (λ saved. piece >>> λ a. does program place act.Back >>> λ back. only a) (does_in place act.Save zero_in zero_in)
      (λ u. binds_in ok ok piece (λ a. does program place act.Back >>> λ back. only a) is
      (λ given. binds_in Done ok (does program place act.Back) (λ back. only piece.gives) (does_in place act.Back zero_in zero_in) (λ v. only_in ok piece.gives given)))

  -- AN EXPRESSION with temporaries from a register on, of which it has so many
  pub record Lies (e : Lowered) (c : ℕ) : Type 0 where
    pub some : 1 ≤ c
    pub value : (used : Bool) (r : ℕ) → r + c ≤ bound → In ArgIn (e.value used r)
    pub place : (r : ℕ) → r + c ≤ bound → In PlaceIn (e.place r)

  only_value_lies : (node : Node) (v : Bool → ℕ → Piece Arg) (c : ℕ) → 1 ≤ c → ((used : Bool) (r : ℕ) → r + c ≤ bound → In ArgIn (v used r)) → Lies (only_value node v) c
  only_value_lies node v c some each = record { some = some; value = each; place = λ r few. only_in PlaceIn (InMemory nothing) zero_in }

  loads_in : (place : Place) (used : Bool) (r : ℕ) (a : Arg) → r + 1 ≤ bound → ArgIn a → In ArgIn (loads program place used r a)
  unfolding operands register_set
  loads_in place false r a low is = only_in ArgIn nothing zero_in
  loads_in place true r a low is = sets_in place (act.Load a) r (one_arg a is) low low

  in_memory_in : (place : Place) (of : TType) (used : Bool) (r : ℕ) (a : Arg) → r + 1 ≤ bound → ArgIn a → In ArgIn (value_in_memory program place of used r a)
  in_memory_in place ttype.Void used r a low is = only_in ArgIn nothing zero_in
  in_memory_in place (ttype.Number kind) used r a low is = loads_in place used r a low is
  in_memory_in place (ttype.Pointer target) used r a low is = only_in ArgIn a is

  value_at_in : (node : Node) (used : Bool) (r : ℕ) (d : Designated) → r + 1 ≤ bound → PlaceIn d → In ArgIn (value_at program node used r d)
  value_at_in node used r (InRegister n broken) low is = only_in ArgIn (Reg n broken) is
  value_at_in node used r (InMemory a) low is = in_memory_in node.place node.of used r a low is

  at_place_lies : (node : Node) (place : ℕ → Piece Designated) (c : ℕ) → 1 ≤ c → ((r : ℕ) → r + c ≤ bound → In PlaceIn (place r)) → Lies (at_place program node place) c
  at_place_lies node place c some each = record {
    some = some;
    value = λ used r few. binds_in PlaceIn ArgIn (place r) (value_at program node used r) (each r few) (λ is. value_at_in node used r (place r).gives (omega (arith, some, few)) is);
    place = each;
  }

  -- the cost of an expression over that of its operands
  abbrev one_of : ℕ → ℕ
  one_of a = max 1 a

  abbrev two_of : ℕ → ℕ → ℕ
  two_of a b = max 1 (max a (1 + b))

  some_of : (a : ℕ) → 1 ≤ max 1 a
  some_of a = le-max_left 1 a

  first_of : (r a b : ℕ) → r + two_of a b ≤ bound → r + a ≤ bound
  first_of r a b few = least_left r a (1 + b) bound (least_right r 1 (max a (1 + b)) bound few)

  second_of : (r a b : ℕ) → r + two_of a b ≤ bound → (r + 1) + b ≤ bound
  second_of r a b few = (let x : r + (1 + b) ≤ bound = least_right r a (1 + b) bound (least_right r 1 (max a (1 + b)) bound few) in omega (arith, x))

  own_of : (r a : ℕ) → r + max 1 a ≤ bound → r + 1 ≤ bound
  own_of r a few = least_left r 1 a bound few

  on_one_lies : (node : Node) (e : Lowered) (operation : ℕ → Arg → Piece Arg) (a c : ℕ) → Lies e a → 1 ≤ c → ((r : ℕ) → r + c ≤ bound → r + a ≤ bound)
      → ((r : ℕ) (x : Arg) → r + c ≤ bound → ArgIn x → In ArgIn (operation r x)) → Lies (on_one node e operation) c
  on_one_lies node e operation a c is some less each = only_value_lies node (λ used r. e.value true r >>> operation r) c some
      (λ used r few. binds_in ArgIn ArgIn (e.value true r) (operation r) (is.value true r (less r few)) (λ given. each r (e.value true r).gives few given))

  on_two_lies : (node : Node) (e f : Lowered) (operation : ℕ → Arg → Arg → Piece Arg) (a b : ℕ) → Lies e a → Lies f b
      → ((r : ℕ) (x y : Arg) → r + 1 ≤ bound → ArgIn x → ArgIn y → In ArgIn (operation r x y)) → Lies (on_two node e f operation) (two_of a b)
  on_two_lies node e f operation a b is other each = on_one_lies node e (behind_one f operation) a (two_of a b) is (some_of (max a (1 + b))) (λ r few. first_of r a b few)
      (λ r x few given. binds_in ArgIn ArgIn (f.value true (r + 1)) (operation r x) (other.value true (r + 1) (second_of r a b few))
      (λ gives. each r x (f.value true (r + 1)).gives (own_of r (max a (1 + b)) few) given gives))

  -- PLACES
  pub number_lies : (node : Node) (z : ℤ) → Lies (places.number node z) 1
  unfolding places.number
  number_lies node z = only_value_lies node (λ used r. only (Number z)) 1 (omega arith) (λ used r few. only_in ArgIn (Number z) zero_in)

  address_of_in : (place : Place) (object r : ℕ) → r + 1 ≤ bound → In ArgIn (places.address_of program place object r)
  unfolding operands register_set
  address_of_in place object r low = sets_in place (act.Address (File object) 0) r zero_in low low

  string_value_in : (place : Place) (object : ℕ) (used : Bool) (r : ℕ) → r + 1 ≤ bound → In ArgIn (places.string_value program place object used r)
  string_value_in place object false r low = only_in ArgIn nothing zero_in
  string_value_in place object true r low = address_of_in place object r low

  pub string_lies : (node : Node) (n : ℕ) (bytes : List ℕ) → Lies (places.string program node n bytes) 1
  unfolding places.string
  string_lies node n bytes = record { some = omega arith; value = λ used r few. string_value_in node.place (string_number program n) used r few; place = λ r few. only_in PlaceIn (InMemory nothing) zero_in }

  pub object_lies : (node : Node) (n : ℕ) → Lies (places.object program node n) 1
  unfolding places.object
  object_lies node n = at_place_lies node (λ r. places.address_of program node.place n r >>> λ address. only (InMemory address)) 1 (omega arith)
      (λ r few. binds_in ArgIn PlaceIn (places.address_of program node.place n r) (λ address. only (InMemory address)) (address_of_in node.place n r few) (λ given. only_in PlaceIn (InMemory _) given))

  variable_place_in : (node : Node) (n : ℕ) (b : Bool) → n + 1 ≤ bound → PlaceIn (places.variable_place program node n b)
  variable_place_in node n true is = is
  variable_place_in node n false is = is

  pub variable_lies : (vs : List TVariable) (node : Node) (n : ℕ) → n < count → Lies (places.variable program vs node n) 1
  unfolding places.variable
  variable_lies vs node n there = at_place_lies node (λ r. only (places.variable_place program node n (is_register vs n))) 1 (omega arith)
      (λ r few. only_in PlaceIn (places.variable_place program node n (is_register vs n)) (variable_place_in node n (is_register vs n) (omega (arith, there, all))))

  offset_in : (place : Place) (minus : Bool) (scale r : ℕ) (a b : Arg) → r + 1 ≤ bound → ArgIn a → ArgIn b → In ArgIn (places.offset program place minus scale r a b)
  unfolding operands register_set
  offset_in place minus scale r a b low x y = sets_in place (act.Offset minus scale a b) r (two_args a b x y) low low

  pub index_lies : (node : Node) (base by : Lowered) (a b : ℕ) → Lies base a → Lies by b → Lies (places.index program node base by) (two_of a b)
  unfolding places.index
  index_lies node base by a b first second = at_place_lies node (λ r. base.value true r >>> places.behind_base program node.place (scale_of base.node.of) by r) (two_of a b) (some_of (max a (1 + b)))
      (λ r few. binds_in ArgIn PlaceIn (base.value true r) (places.behind_base program node.place (scale_of base.node.of) by r) (first.value true r (first_of r a b few))
      (λ x. binds_in ArgIn PlaceIn (by.value true (r + 1)) (places.element_at program node.place (scale_of base.node.of) r (base.value true r).gives) (second.value true (r + 1) (second_of r a b few))
      (λ y. binds_in ArgIn PlaceIn (places.offset program node.place false (scale_of base.node.of) r (base.value true r).gives (by.value true (r + 1)).gives) (λ address. only (InMemory address))
      (offset_in node.place false (scale_of base.node.of) r (base.value true r).gives (by.value true (r + 1)).gives (own_of r (max a (1 + b)) few) x y) (λ given. only_in PlaceIn (InMemory _) given))))

  one_less : (r a : ℕ) → r + max 1 a ≤ bound → r + a ≤ bound
  one_less r a few = least_right r 1 a bound few

  pub deref_lies : (node : Node) (e : Lowered) (a : ℕ) → Lies e a → Lies (places.deref program node e) (one_of a)
  unfolding places.deref
  deref_lies node e a is = at_place_lies node (λ r. e.value true r >>> λ pointer. only (InMemory pointer)) (one_of a) (some_of a)
      (λ r few. binds_in ArgIn PlaceIn (e.value true r) (λ pointer. only (InMemory pointer)) (is.value true r (one_less r a few)) (λ given. only_in PlaceIn (InMemory _) given))

  address_in : (d : Designated) → PlaceIn d → ArgIn (places.address_at d)
  address_in (InRegister n broken) is = zero_in
  address_in (InMemory a) is = is

  pub address_lies : (node : Node) (e : Lowered) (a : ℕ) → Lies e a → Lies (places.address node e) (one_of a)
  unfolding places.address
  address_lies node e a is = only_value_lies node (λ used r. e.place r >>> λ target. only (places.address_at target)) (one_of a) (some_of a)
      (λ used r few. binds_in PlaceIn ArgIn (e.place r) (λ target. only (places.address_at target)) (is.place r (one_less r a few)) (λ given. only_in ArgIn (places.address_at (e.place r).gives) (address_in (e.place r).gives given)))

  pub forward_lies : (node : Node) (e f : Lowered) (a b : ℕ) → Lies e a → Lies f b → Lies (places.forward program node e f) (two_of a b)
  unfolding places.forward
  forward_lies node e f a b is other = on_two_lies node e f (places.offset program node.place false (scale_of node.of)) a b is other (λ r x y low p q. offset_in node.place false (scale_of node.of) r x y low p q)

  pub back_lies : (node : Node) (e f : Lowered) (a b : ℕ) → Lies e a → Lies f b → Lies (places.back program node e f) (two_of a b)
  unfolding places.back
  back_lies node e f a b is other = on_two_lies node e f (places.offset program node.place true (scale_of node.of)) a b is other (λ r x y low p q. offset_in node.place true (scale_of node.of) r x y low p q)

  pub onto_lies : (node : Node) (e f : Lowered) (a b : ℕ) → Lies e a → Lies f b → Lies (places.onto program node e f) (two_of a b)
  unfolding places.onto
  onto_lies node e f a b is other = on_two_lies node e f (places.offset_onto program node.place (scale_of node.of)) a b is other (λ r x y low p q. offset_in node.place false (scale_of node.of) r y x low q p)

  -- OPERATORS
  pub plus_lies : (node : Node) (e : Lowered) (a : ℕ) → Lies e a → Lies (operators.plus node e) (one_of a)
  unfolding operators.plus
  plus_lies node e a is = only_value_lies node e.value (one_of a) (some_of a) (λ used r few. is.value used r (one_less r a few))

  pub unary_lies : (node : Node) (op : Un) (kind : Kind) (e : Lowered) (a : ℕ) → Lies e a → Lies (operators.unary program node op kind e) (one_of a)
  unfolding operators.unary operands register_set
  unary_lies node op kind e a is = on_one_lies node e (operators.unary_on program node.place op kind) a (one_of a) is (some_of a) (λ r few. one_less r a few)
      (λ r x few given. sets_in node.place (act.Unary op kind x) r (one_arg x given) (own_of r a few) (own_of r a few))

  converts_in : (place : Place) (kind : Option Kind) (r : ℕ) (a : Arg) → r + 1 ≤ bound → ArgIn a → In ArgIn (operators.converts program place kind r a)
  unfolding operands register_set
  converts_in place None r a low is = only_in ArgIn a is
  converts_in place (Some kind) r a low is = sets_in place (act.Convert kind a) r (one_arg a is) low low

  pub convert_lies : (node : Node) (e : Lowered) (a : ℕ) → Lies e a → Lies (operators.convert program node e) a
  unfolding operators.convert
  convert_lies node e a is = on_one_lies node e (operators.converts program node.place (kind_of node.of)) a a is is.some (λ r few. few)
      (λ r x few given. converts_in node.place (kind_of node.of) r x (let some : 1 ≤ a = is.some in omega (arith, some, few)) given)

  cast_to_in : (place : Place) (of : TType) (e : Lowered) (a : ℕ) → Lies e a → (used : Bool) (r : ℕ) → r + one_of a ≤ bound → In ArgIn (operators.cast_to program place of e used r)
  cast_to_in place ttype.Void e a is used r few = binds_in ArgIn ArgIn (e.value false r) (λ x. only nothing) (is.value false r (one_less r a few)) (λ given. only_in ArgIn nothing zero_in)
  cast_to_in place (ttype.Number kind) e a is used r few =
      binds_in ArgIn ArgIn (e.value true r) (operators.converts program place (Some kind) r) (is.value true r (one_less r a few)) (λ given. converts_in place (Some kind) r (e.value true r).gives (own_of r a few) given)
  cast_to_in place (ttype.Pointer target) e a is used r few = is.value used r (one_less r a few)

  pub cast_lies : (node : Node) (e : Lowered) (a : ℕ) → Lies e a → Lies (operators.cast program node e) (one_of a)
  unfolding operators.cast
  cast_lies node e a is = only_value_lies node (operators.cast_to program node.place node.of e) (one_of a) (some_of a) (cast_to_in node.place node.of e a is)

  binary_in : (place : Place) (op : Bin) (kind : Kind) (r : ℕ) (a b : Arg) → r + 1 ≤ bound → ArgIn a → ArgIn b → In ArgIn (operators.binary_on program place op kind r a b)
  unfolding operands register_set
  binary_in place op kind r a b low x y = sets_in place (act.Binary op kind a b) r (two_args a b x y) low low

  pub binary_lies : (node : Node) (op : Bin) (kind : Kind) (e f : Lowered) (a b : ℕ) → Lies e a → Lies f b → Lies (operators.binary program node op kind e f) (two_of a b)
  unfolding operators.binary
  binary_lies node op kind e f a b is other = on_two_lies node e f (operators.binary_on program node.place op kind) a b is other (λ r x y low p q. binary_in node.place op kind r x y low p q)

  pub compare_lies : (node : Node) (op : Bin) (e f : Lowered) (a b : ℕ) → Lies e a → Lies f b → Lies (operators.compare program node op e f) (two_of a b)
  unfolding operators.compare operands register_set
  compare_lies node op e f a b is other = on_two_lies node e f (operators.compare_on program node.place op) a b is other (λ r x y low p q. sets_in node.place (act.PtrCompare op x y) r (two_args x y p q) low low)

  pub distance_lies : (node : Node) (e f : Lowered) (a b : ℕ) → Lies e a → Lies f b → Lies (operators.distance program node e f) (two_of a b)
  unfolding operators.distance operands register_set
  distance_lies node e f a b is other = on_two_lies node e f (operators.distance_on program node.place (scale_of e.node.of)) a b is other
      (λ r x y low p q. sets_in node.place (act.PtrDistance (scale_of e.node.of) x y) r (two_args x y p q) low low)

  pub comma_lies : (node : Node) (e f : Lowered) (a b : ℕ) → Lies e a → Lies f b → Lies (operators.comma node e f) (two_of a b)
  unfolding operators.comma
  comma_lies node e f a b is other = only_value_lies node (λ used r. e.value false r >>> λ x. f.value used r) (two_of a b) (some_of (max a (1 + b)))
      (λ used r few. binds_in ArgIn ArgIn (e.value false r) (λ x. f.value used r) (is.value false r (first_of r a b few)) (λ given. other.value used r (let x : (r + 1) + b ≤ bound = second_of r a b few in omega (arith, x))))

  -- tests, which have an operand each
  test_need : (place : Place) (a : Arg) (taken other : ℕ) (to : Option ℕ) → ArgIn a → up_to_register to ≤ bound → registers_needed (act.Test a taken other to class.Test) ≤ bound
  unfolding registers_needed operands register_set
  test_need place a taken other to is low = max-le (one_arg a is) low

  jump_need : (to : ℕ) → registers_needed (act.Jump to) ≤ bound
  unfolding registers_needed operands register_set
  jump_need to = max-le zero_in zero_in

  tests_before_in : (place : Place) (decides : Bool) (to : ℕ) (a : Arg) (piece : Piece (Unit {0})) → to + 1 ≤ bound → ArgIn a → In Done piece → In Done (operators.tests_before program place decides (Some to) a piece)
  tests_before_in place false to a piece low given is = record { needs = λ first. max-le (test_need place a (first + 1) ((first + 1) + piece.size) (Some to) given low) (is.needs (first + 1)); gives = tt }
  tests_before_in place true to a piece low given is = record { needs = λ first. max-le (test_need place a ((first + 1) + piece.size) (first + 1) (Some to) given low) (is.needs (first + 1)); gives = tt }

  truth_of_in : (node : Node) (f : Lowered) (r b : ℕ) → Lies f b → r + 1 ≤ bound → (r + 1) + b ≤ bound → In Done (operators.truth_of program node f r)
  unfolding operands register_set
  truth_of_in node f r b is low few = binds_in ArgIn Done (f.value true (r + 1)) (λ x. does program node.place (act.Binary bin.Ne (kind_or_int (kind_of f.node.of)) x nothing r)) (is.value true (r + 1) few)
      (λ given. does_in node.place (act.Binary bin.Ne (kind_or_int (kind_of f.node.of)) (f.value true (r + 1)).gives nothing r) (two_args (f.value true (r + 1)).gives nothing given zero_in) low)

  logical_lies : (node : Node) (decides : Bool) (e f : Lowered) (a b : ℕ) → Lies e a → Lies f b → Lies (operators.logical program node decides e f) (two_of a b)
  logical_lies node decides e f a b is other = only_value_lies node
      (λ used r. settled program node.place (e.value true r >>> λ x. operators.tests_before program node.place decides (Some r) x (operators.truth_of program node f r) >>> λ done. only (Reg r false))) (two_of a b) (some_of (max a (1 + b)))
      (λ used r few. settled_in ArgIn node.place (e.value true r >>> λ x. operators.tests_before program node.place decides (Some r) x (operators.truth_of program node f r) >>> λ done. only (Reg r false))
      (binds_in ArgIn ArgIn (e.value true r) (λ x. operators.tests_before program node.place decides (Some r) x (operators.truth_of program node f r) >>> λ done. only (Reg r false)) (is.value true r (first_of r a b few))
      (λ given. binds_in Done ArgIn (operators.tests_before program node.place decides (Some r) (e.value true r).gives (operators.truth_of program node f r)) (λ done. only (Reg r false))
      (tests_before_in node.place decides r (e.value true r).gives (operators.truth_of program node f r) (own_of r (max a (1 + b)) few) given (truth_of_in node f r b other (own_of r (max a (1 + b)) few) (second_of r a b few)))
      (λ u. only_in ArgIn (Reg r false) (own_of r (max a (1 + b)) few)))))

  pub both_lies : (node : Node) (e f : Lowered) (a b : ℕ) → Lies e a → Lies f b → Lies (operators.both program node e f) (two_of a b)
  unfolding operators.both
  both_lies node e f a b is other = logical_lies node false e f a b is other

  pub either_lies : (node : Node) (e f : Lowered) (a b : ℕ) → Lies e a → Lies f b → Lies (operators.either program node e f) (two_of a b)
  unfolding operators.either
  either_lies node e f a b is other = logical_lies node true e f a b is other

  moves_in : (place : Place) (r : ℕ) (a : Arg) → r + 1 ≤ bound → ArgIn a → In ArgIn (operators.moves program place r a)
  unfolding operands register_set
  moves_in place r a low is = sets_in place (act.Move a) r (one_arg a is) low low

  arm_in : (place : Place) (of : TType) (r : ℕ) (e : Lowered) (a : ℕ) → Lies e a → r + 1 ≤ bound → r + a ≤ bound → In ArgIn (operators.arm program place of r e)
  arm_in place ttype.Void r e a is low few = binds_in ArgIn ArgIn (e.value false r) (λ x. only nothing) (is.value false r few) (λ given. only_in ArgIn nothing zero_in)
  arm_in place (ttype.Number kind) r e a is low few = binds_in ArgIn ArgIn (e.value true r) (operators.moves program place r) (is.value true r few) (λ given. moves_in place r (e.value true r).gives low given)
  arm_in place (ttype.Pointer target) r e a is low few = binds_in ArgIn ArgIn (e.value true r) (operators.moves program place r) (is.value true r few) (λ given. moves_in place r (e.value true r).gives low given)

  chooses_in : (place : Place) (a : Arg) (one other : Piece Arg) → ArgIn a → In ArgIn one → In ArgIn other → In ArgIn (operators.chooses program place a one other)
  chooses_in place a one other given first_arm second_arm = record {
    needs = λ first. max-le (test_need place a (first + 1) (((first + 1) + one.size) + 1) None given zero_in)
        (both_need bound (one.code (first + 1)) (instruction program place (act.Jump ((((first + 1) + one.size) + 1) + other.size)) ∷ other.code (((first + 1) + one.size) + 1)) (first_arm.needs (first + 1))
        (max-le (jump_need ((((first + 1) + one.size) + 1) + other.size)) (second_arm.needs (((first + 1) + one.size) + 1))));
    gives = second_arm.gives;
  }

  pub cond_lies : (node : Node) (test e f : Lowered) (t a b : ℕ) → Lies test t → Lies e a → Lies f b → Lies (operators.cond program node test e f) (max 1 (max t (max a b)))
  unfolding operators.cond
  cond_lies node test e f t a b tested is other = only_value_lies node
      (λ used r. settled program node.place (test.value true r >>> λ x. operators.chooses program node.place x (operators.arm program node.place node.of r e) (operators.arm program node.place node.of r f))) (max 1 (max t (max a b))) (some_of (max t (max a b)))
      (λ used r few. settled_in ArgIn node.place (test.value true r >>> λ x. operators.chooses program node.place x (operators.arm program node.place node.of r e) (operators.arm program node.place node.of r f))
      (binds_in ArgIn ArgIn (test.value true r) (λ x. operators.chooses program node.place x (operators.arm program node.place node.of r e) (operators.arm program node.place node.of r f))
      (tested.value true r (least_left r t (max a b) bound (one_less r (max t (max a b)) few)))
      (λ given. chooses_in node.place (test.value true r).gives (operators.arm program node.place node.of r e) (operators.arm program node.place node.of r f) given
      (arm_in node.place node.of r e a is (own_of r (max t (max a b)) few) (least_left r a b bound (least_right r t (max a b) bound (one_less r (max t (max a b)) few))))
      (arm_in node.place node.of r f b other (own_of r (max t (max a b)) few) (least_right r a b bound (least_right r t (max a b) bound (one_less r (max t (max a b)) few)))))))

  -- ASSIGNMENTS
  used_in : (used : Bool) (r : ℕ) → r + 1 ≤ bound → up_to_register (if_used used r) ≤ bound
  used_in false r low = zero_in
  used_in true r low = low

  pub writes_in : (place : Place) (used : Bool) (r : ℕ) (d : Designated) (a : Arg) → r + 1 ≤ bound → PlaceIn d → ArgIn a → In ArgIn (assignments.writes program place used r d a)
  unfolding operands register_set
  writes_in place used r (InRegister n broken) a low there given = binds_in Done ArgIn (does program place (act.Move a n)) (λ done. only (Reg n false)) (does_in place (act.Move a n) (one_arg a given) there) (λ u. only_in ArgIn (Reg n false) there)
  writes_in place used r (InMemory address) a low there given = binds_in Done ArgIn (does program place (act.Store address a (if_used used r))) (λ done. only (Reg r false))
      (does_in place (act.Store address a (if_used used r)) (two_args address a there given) (used_in used r low)) (λ u. only_in ArgIn (Reg r false) low)

  pub assign_lies : (node : Node) (e f : Lowered) (a b : ℕ) → Lies e a → Lies f b → Lies (assignments.assign program node e f) (two_of a b)
  unfolding assignments.assign
  assign_lies node e f a b is other = only_value_lies node (λ used r. e.place r >>> assignments.behind_place program node.place f used r) (two_of a b) (some_of (max a (1 + b)))
      (λ used r few. binds_in PlaceIn ArgIn (e.place r) (assignments.behind_place program node.place f used r) (is.place r (first_of r a b few))
      (λ there. binds_in ArgIn ArgIn (f.value true (r + 1)) (assignments.writes program node.place used r (e.place r).gives) (other.value true (r + 1) (second_of r a b few))
      (λ given. writes_in node.place used r (e.place r).gives (f.value true (r + 1)).gives (own_of r (max a (1 + b)) few) there given)))

  old_value_in : (place : Place) (r : ℕ) (d : Designated) → r + 1 ≤ bound → PlaceIn d → In ArgIn (assignments.old_value program place r d)
  unfolding operands register_set
  old_value_in place r (InRegister n broken) low there = only_in ArgIn (Reg n broken) there
  old_value_in place r (InMemory address) low there = sets_in place (act.Load address) r (one_arg address there) low low

  between_by : (place : Place) (to : Kind) (r : ℕ) (a : Arg) (same : Bool) → r + 1 ≤ bound → ArgIn a → In ArgIn (if same then only a else operators.converts program place (Some to) r a)
  between_by place to r a true low is = only_in ArgIn a is
  between_by place to r a false low is = converts_in place (Some to) r a low is

  side_in : (place : Place) (from : Option Kind) (to : Kind) (r : ℕ) (a : Arg) → r + 1 ≤ bound → ArgIn a → In ArgIn (assignments.converts_side program place from to r a)
  side_in place None to r a low is = only_in ArgIn a is
  side_in place (Some from) to r a low is = between_by place to r a (same_kind from to) low is

  -- so is the conversion of a right operand, which has a register of its own where its kind is known
  abbrev IfKind : Option Kind → Type 0 → Type 0
  IfKind None X = Unit {0}
  IfKind (Some kind) X = X

  whichever : (o : Option Kind) (X : Type 0) → X → IfKind o X
  whichever None X x = tt
  whichever (Some kind) X x = x

  right_in : (place : Place) (from : Option Kind) (to : Kind) (r : ℕ) (a : Arg) → IfKind from (r + 1 ≤ bound) → ArgIn a → In ArgIn (assignments.converts_side program place from to r a)
  right_in place None to r a low is = only_in ArgIn a is
  right_in place (Some from) to r a low is = between_by place to r a (same_kind from to) low is

  back_to_in : (place : Place) (from : Kind) (to : Option Kind) (r : ℕ) (a : Arg) → r + 1 ≤ bound → ArgIn a → In ArgIn (assignments.converts_back program place from to r a)
  back_to_in place from None r a low is = only_in ArgIn a is
  back_to_in place from (Some to) r a low is = between_by place to r a (same_kind from to) low is

  combined_in : (place : Place) (op : Bin) (kind : Kind) (of by_of : Option Kind) (r : ℕ) (old by : Arg) → r + 2 ≤ bound → IfKind by_of ((r + 2) + 1 ≤ bound) → ArgIn old → ArgIn by
      → In ArgIn (assignments.combined program place op kind of by_of r old by)
  combined_in place op kind of by_of r old by low more x y =
      binds_in ArgIn ArgIn (assignments.converts_side program place of kind (r + 1) old)
      (λ a. assignments.converts_side program place by_of (side_kind op kind by_of) (r + 2) by >>> λ b. operators.binary_on program place op kind (r + 1) a b >>> assignments.converts_back program place kind of (r + 1))
      (side_in place of kind (r + 1) old (omega (arith, low)) x)
      (λ p. binds_in ArgIn ArgIn (assignments.converts_side program place by_of (side_kind op kind by_of) (r + 2) by)
      (λ b. operators.binary_on program place op kind (r + 1) (assignments.converts_side program place of kind (r + 1) old).gives b >>> assignments.converts_back program place kind of (r + 1))
      (right_in place by_of (side_kind op kind by_of) (r + 2) by more y)
      (λ q. binds_in ArgIn ArgIn (operators.binary_on program place op kind (r + 1) (assignments.converts_side program place of kind (r + 1) old).gives (assignments.converts_side program place by_of (side_kind op kind by_of) (r + 2) by).gives)
      (assignments.converts_back program place kind of (r + 1))
      (binary_in place op kind (r + 1) (assignments.converts_side program place of kind (r + 1) old).gives (assignments.converts_side program place by_of (side_kind op kind by_of) (r + 2) by).gives (omega (arith, low)) p q)
      (λ given. back_to_in place kind of (r + 1) (Reg (r + 1) false) (omega (arith, low)) given)))

  changed_in : (place : Place) (how : Change) (of : TType) (by_of : Option Kind) (r : ℕ) (old by : Arg) → r + 2 ≤ bound → IfKind by_of ((r + 2) + 1 ≤ bound) → ArgIn old → ArgIn by
      → In ArgIn (assignments.changed program place how of by_of r old by)
  changed_in place (change.Number op kind) of by_of r old by low more x y = combined_in place op kind (kind_of of) by_of r old by low more x y
  changed_in place change.Forward of by_of r old by low more x y = offset_in place false (scale_of of) (r + 1) old by (omega (arith, low)) x y
  changed_in place change.Back of by_of r old by low more x y = offset_in place true (scale_of of) (r + 1) old by (omega (arith, low)) x y

  changes_in : (node : Node) (how : Change) (by_of : Option Kind) (used : Bool) (r : ℕ) (d : Designated) (by old : Arg) → r + 3 ≤ bound → IfKind by_of (((r + 1) + 2) + 1 ≤ bound) → PlaceIn d → ArgIn by → ArgIn old
      → In ArgIn (assignments.changes program node how by_of used r d by old)
  changes_in node how by_of used r d by old low more there x y =
      binds_in ArgIn ArgIn (assignments.changed program node.place how node.of by_of (r + 1) old by) (assignments.writes program node.place used r d)
      (changed_in node.place how node.of by_of (r + 1) old by (omega (arith, low)) more y x)
      (λ given. writes_in node.place used r d _ (omega (arith, low)) there given)

  changes_old_in : (node : Node) (how : Change) (by_of : Option Kind) (used : Bool) (r : ℕ) (d : Designated) (by : Arg) → r + 3 ≤ bound → IfKind by_of (((r + 1) + 2) + 1 ≤ bound) → PlaceIn d → ArgIn by
      → In ArgIn (assignments.changes_old program node how by_of used r d by)
  changes_old_in node how by_of used r d by low more there x =
      binds_in ArgIn ArgIn (assignments.old_value program node.place (r + 2) d) (assignments.changes program node how by_of used r d by) (old_value_in node.place (r + 2) d (omega (arith, low)) there)
      (λ y. changes_in node how by_of used r d by (assignments.old_value program node.place (r + 2) d).gives low more there x y)

  four_of : (r a : ℕ) → r + max 4 a ≤ bound → r + 4 ≤ bound
  four_of r a few = least_left r 4 a bound few

  some_four : (a : ℕ) → 1 ≤ max 4 a
  some_four a = (let x : 4 ≤ max 4 a = le-max_left 4 a in omega (arith, x))

  pub assign_by_lies : (node : Node) (how : Change) (e f : Lowered) (a b : ℕ) → Lies e a → Lies f b → Lies (assignments.assign_by program node how e f) (max 4 (max a (1 + b)))
  unfolding assignments.assign_by
  assign_by_lies node how e f a b is other = only_value_lies node (λ used r. e.place r >>> assignments.behind_changed program node how f used r) (max 4 (max a (1 + b))) (some_four (max a (1 + b)))
      (λ used r few. binds_in PlaceIn ArgIn (e.place r) (assignments.behind_changed program node how f used r) (is.place r (least_left r a (1 + b) bound (least_right r 4 (max a (1 + b)) bound few)))
      (λ there. binds_in ArgIn ArgIn (f.value true (r + 1)) (assignments.changes_old program node how (kind_of f.node.of) used r (e.place r).gives)
      (other.value true (r + 1) (let x : r + (1 + b) ≤ bound = least_right r a (1 + b) bound (least_right r 4 (max a (1 + b)) bound few) in omega (arith, x)))
      (λ given. changes_old_in node how (kind_of f.node.of) used r (e.place r).gives (f.value true (r + 1)).gives (let x : r + 4 ≤ bound = four_of r (max a (1 + b)) few in omega (arith, x))
      (whichever (kind_of f.node.of) (((r + 1) + 2) + 1 ≤ bound) (let x : r + 4 ≤ bound = four_of r (max a (1 + b)) few in omega (arith, x))) there given)))

  pub pre_lies : (node : Node) (how : Change) (e : Lowered) (a : ℕ) → Lies e a → Lies (assignments.pre program node how e) (max 4 a)
  unfolding assignments.pre
  pre_lies node how e a is = only_value_lies node (λ used r. e.place r >>> λ target. assignments.changes_old program node how None used r target assignments.one) (max 4 a) (some_four a)
      (λ used r few. binds_in PlaceIn ArgIn (e.place r) (λ target. assignments.changes_old program node how None used r target assignments.one) (is.place r (least_right r 4 a bound few))
      (λ there. changes_old_in node how None used r (e.place r).gives assignments.one (let x : r + 4 ≤ bound = four_of r a few in omega (arith, x)) tt there zero_in))

  after_old_in : (node : Node) (how : Change) (used : Bool) (r : ℕ) (d : Designated) (old : Arg) → r + 4 ≤ bound → PlaceIn d → ArgIn old → In ArgIn (assignments.after_old program node how used r d old)
  after_old_in node how false r d old low there given = changes_in node how None false (r + 1) d assignments.one old (omega (arith, low)) tt there zero_in given
  after_old_in node how true r d old low there given =
      binds_in ArgIn ArgIn (operators.moves program node.place r old) (λ kept. assignments.changes program node how None false (r + 1) d assignments.one old >>> λ v. only kept) (moves_in node.place r old (omega (arith, low)) given)
      (λ kept. binds_in ArgIn ArgIn (assignments.changes program node how None false (r + 1) d assignments.one old) (λ v. only (operators.moves program node.place r old).gives)
      (changes_in node how None false (r + 1) d assignments.one old (omega (arith, low)) tt there zero_in given) (λ u. only_in ArgIn (operators.moves program node.place r old).gives kept))

  pub post_lies : (node : Node) (how : Change) (e : Lowered) (a : ℕ) → Lies e a → Lies (assignments.post program node how e) (max 4 (max 0 (1 + a)))
  unfolding assignments.post
  post_lies node how e a is = only_value_lies node (λ used r. e.place (r + 1) >>> assignments.after_place program node how used r) (max 4 (max 0 (1 + a))) (some_four (max 0 (1 + a)))
      (λ used r few. binds_in PlaceIn ArgIn (e.place (r + 1)) (assignments.after_place program node how used r)
      (is.place (r + 1) (let x : r + (1 + a) ≤ bound = least_right r 0 (1 + a) bound (least_right r 4 (max 0 (1 + a)) bound few) in omega (arith, x)))
      (λ there. binds_in ArgIn ArgIn (assignments.old_value program node.place (r + 3) (e.place (r + 1)).gives) (assignments.after_old program node how used r (e.place (r + 1)).gives)
      (old_value_in node.place (r + 3) (e.place (r + 1)).gives (let x : r + 4 ≤ bound = four_of r (max 0 (1 + a)) few in omega (arith, x)) there)
      (λ given. after_old_in node how used r (e.place (r + 1)).gives _ (four_of r (max 0 (1 + a)) few) there given)))

  -- CALLS
  pub getchar_lies : (node : Node) → Lies (library.getchar program node) 1
  unfolding library.getchar operands register_set
  getchar_lies node = only_value_lies node (λ used r. sets program node.place act.Input r) 1 (omega arith) (λ used r few. sets_in node.place act.Input r zero_in few few)

  outputs_in : (place : Place) (what : Out) (r : ℕ) (args : List Arg) → r + 1 ≤ bound → ArgsIn args → In ArgIn (library.outputs program place what r args)
  unfolding operands register_set
  outputs_in place what r args low given = sets_in place (act.Output what args) r given low low

  pub putchar_lies : (node : Node) (e : Lowered) (a : ℕ) → Lies e a → Lies (library.putchar program node e) (one_of a)
  unfolding library.putchar
  putchar_lies node e a is = on_one_lies node e (library.puts_byte program node.place) a (one_of a) is (some_of a) (λ r few. one_less r a few)
      (λ r x few given. outputs_in node.place out.Byte r (x ∷ []) (own_of r a few) (one_arg x given))

  pub puts_lies : (node : Node) (e : Lowered) (a : ℕ) → Lies (library.puts program node e) (one_of a)
  unfolding library.puts
  puts_lies node e a = only_value_lies node (λ used r. library.outputs program node.place (out.Line e.text) r []) (one_of a) (some_of a) (λ used r few. outputs_in node.place (out.Line e.text) r [] (own_of r a few) zero_in)

  -- operands from left to right
  abbrev AllLie : List Lowered → List Cost → Type 0
  AllLie [] [] = Unit {0}
  AllLie (e ∷ es) [] = ⊥
  AllLie [] (c ∷ cs) = ⊥
  AllLie (e ∷ es) (c ∷ cs) = Lies e c.registers × AllLie es cs

  in_turn_in : (es : List Lowered) (cs : List Cost) (r : ℕ) → AllLie es cs → r + (arguments cs).registers ≤ bound → In ArgsIn (in_turn es r)
  in_turn_in [] [] r lie few = only_in ArgsIn [] zero_in
  in_turn_in (e ∷ es) [] r lie few = absurd lie
  in_turn_in [] (c ∷ cs) r lie few = absurd lie
  in_turn_in (e ∷ es) (c ∷ cs) r lie few =
      binds_in ArgIn ArgsIn (e.value true r) (λ a. in_turn es (r + 1) >>> λ rest. only (a ∷ rest)) (lie.0.value true r (least_left r c.registers (1 + (arguments cs).registers) bound few))
      (λ given. binds_in ArgsIn ArgsIn (in_turn es (r + 1)) (λ rest. only ((e.value true r).gives ∷ rest))
      (in_turn_in es cs (r + 1) lie.1 (let x : r + (1 + (arguments cs).registers) ≤ bound = least_right r c.registers (1 + (arguments cs).registers) bound few in omega (arith, x)))
      (λ rest. only_in ArgsIn ((e.value true r).gives ∷ (in_turn es (r + 1)).gives) (max-le given rest)))

  pub printf_lies : (node : Node) (format : List Written) (args : List Lowered) (cs : List Cost) → AllLie args cs → Lies (library.printf program node format args) (one_of (arguments cs).registers)
  unfolding library.printf
  printf_lies node format args cs lie = only_value_lies node (λ used r. in_turn args r >>> library.outputs program node.place (out.Format (map chunk_of format)) r) (one_of (arguments cs).registers) (some_of (arguments cs).registers)
      (λ used r few. binds_in ArgsIn ArgIn (in_turn args r) (library.outputs program node.place (out.Format (map chunk_of format)) r) (in_turn_in args cs r lie (one_less r (arguments cs).registers few))
      (λ given. outputs_in node.place (out.Format (map chunk_of format)) r (in_turn args r).gives (own_of r (arguments cs).registers few) given))

  returned_in : (of : TType) (used : Bool) (r : ℕ) → r + 1 ≤ bound → up_to_register (library.returned_to of used r) ≤ bound
  returned_in ttype.Void used r low = zero_in
  returned_in (ttype.Number kind) used r low = used_in used r low
  returned_in (ttype.Pointer target) used r low = used_in used r low

  given_in : (of : TType) (r : ℕ) → r + 1 ≤ bound → ArgIn (library.value_returned of r)
  given_in ttype.Void r low = zero_in
  given_in (ttype.Number kind) r low = low
  given_in (ttype.Pointer target) r low = low

  calls_with_in : (node : Node) (f : ℕ) (used : Bool) (r : ℕ) (args : List Arg) → r + 1 ≤ bound → ArgsIn args → In ArgIn (library.calls_with program node f used r args)
  unfolding operands register_set
  calls_with_in node f used r args low given =
      settled_in ArgIn node.place (does program node.place (act.Call f args (library.returned_to node.of used r)) >>> λ done. only (library.value_returned node.of r))
      (binds_in Done ArgIn (does program node.place (act.Call f args (library.returned_to node.of used r))) (λ done. only (library.value_returned node.of r))
      (does_in node.place (act.Call f args (library.returned_to node.of used r)) given (returned_in node.of used r low)) (λ u. only_in ArgIn (library.value_returned node.of r) (given_in node.of r low)))

  pub call_lies : (node : Node) (f : ℕ) (args : List Lowered) (cs : List Cost) → AllLie args cs → Lies (library.call program node f args) (one_of (arguments cs).registers)
  unfolding library.call
  call_lies node f args cs lie = only_value_lies node (λ used r. in_turn args r >>> library.calls_with program node f used r) (one_of (arguments cs).registers) (some_of (arguments cs).registers)
      (λ used r few. binds_in ArgsIn ArgIn (in_turn args r) (library.calls_with program node f used r) (in_turn_in args cs r lie (one_less r (arguments cs).registers few))
      (λ given. calls_with_in node f used r (in_turn args r).gives (own_of r (arguments cs).registers few) given))

  -- THE TREE, where it fits
  module _ (vs : List TVariable) (limits : Limits) (variables : limits.variables ≤ count) where
    abbrev made : TExpr → Lowered
    made = lowered program vs

    abbrev fits : TExpr → Use
    fits = expr_fits limits

    abbrev cost : TExpr → ℕ
    cost e = (expr_cost e).registers

    abbrev Right : TExpr → Type 0
    Right e = (used : Bool) → fits e used ≡ true → Lies (made e) (cost e)

    all_lie : {B : Type 0} (items : List B) (expr : B → TExpr) → ((b : B) → Right (expr b)) → all_used (map fits (map expr items)) ≡ true → AllLie (map made (map expr items)) (map expr_cost (map expr items))
    all_lie [] expr each holds = tt
    all_lie (b ∷ items) expr each holds = (each b true (and_parts (fits (expr b) true) (all_used (map fits (map expr items))) holds).0, all_lie items expr each (and_parts (fits (expr b) true) (all_used (map fits (map expr items))) holds).1)

    abbrev Layer : TExpr-F TExpr → Type 0
    Layer z = (used : Bool) → expr_step limits (map-TExpr TExpr Use fits z) used ≡ true → Lies (lower_step program vs (map-TExpr TExpr Lowered made z)) (expr_cost_step (map-TExpr TExpr Cost expr_cost z)).registers

    call_arguments : (f : Option Callee) (n : ℕ) (used rest : Bool) → (call_fits f n used && rest) ≡ true → rest ≡ true
    call_arguments f n used rest holds = (and_parts (call_fits f n used) rest holds).1

    cast_operand : (values : Bool) (e : TExpr) → Right e → (used : Bool) → cast_fits values (fits e) used ≡ true → Lies (made e) (cost e)
    cast_operand true e is used holds = is true holds
    cast_operand false e is used holds = is false (and_parts (not used) (fits e false) holds).1

    by : (y : TExpr-F ((e : TExpr) × Right e)) → Layer (map-TExpr _ TExpr (λ (e : (e : TExpr) × Right e). e.0) y)
    by (TExpr-F.Number node z) used holds = number_lies node z
    by (TExpr-F.Str node n bytes) used holds = string_lies node n bytes
    by (TExpr-F.Object node n) used holds = object_lies node n
    by (TExpr-F.Variable node n) used holds = variable_lies vs node n (let x : n < limits.variables = ltb-true n limits.variables holds in omega (arith, x, variables))
    by (TExpr-F.Index node a b) used holds = index_lies node (made a.0) (made b.0) (cost a.0) (cost b.0) (a.1 true (and_parts (fits a.0 true) (fits b.0 true) holds).0) (b.1 true (and_parts (fits a.0 true) (fits b.0 true) holds).1)
    by (TExpr-F.Call node f args) used holds = call_lies node f _ _ (all_lie args (λ e. e.0) (λ e. e.1) (call_arguments (slice_get limits.callees f) _ used _ holds))
    by (TExpr-F.Getchar node) used holds = getchar_lies node
    by (TExpr-F.Putchar node a) used holds = putchar_lies node (made a.0) (cost a.0) (a.1 true holds)
    by (TExpr-F.Puts node a) used holds = puts_lies node (made a.0) (cost a.0)
    by (TExpr-F.Printf node format args) used holds = printf_lies node format _ _ (all_lie args (λ e. e.0) (λ e. e.1) holds)
    by (TExpr-F.Post node change a) used holds = post_lies node change (made a.0) (cost a.0) (a.1 true holds)
    by (TExpr-F.Pre node change a) used holds = pre_lies node change (made a.0) (cost a.0) (a.1 true holds)
    by (TExpr-F.Address node a) used holds = address_lies node (made a.0) (cost a.0) (a.1 true holds)
    by (TExpr-F.Deref node a) used holds = deref_lies node (made a.0) (cost a.0) (a.1 true holds)
    by (TExpr-F.Plus node a) used holds = plus_lies node (made a.0) (cost a.0) (a.1 true holds)
    by (TExpr-F.Unary node op kind a) used holds = unary_lies node op kind (made a.0) (cost a.0) (a.1 true holds)
    by (TExpr-F.Convert node a) used holds = convert_lies node (made a.0) (cost a.0) (a.1 true holds)
    by (TExpr-F.Cast node a) used holds = cast_lies node (made a.0) (cost a.0) (cast_operand (has_values node.of) a.0 a.1 used holds)
    by (TExpr-F.Binary node op kind a b) used holds = binary_lies node op kind (made a.0) (made b.0) (cost a.0) (cost b.0) (a.1 true (and_parts (fits a.0 true) (fits b.0 true) holds).0) (b.1 true (and_parts (fits a.0 true) (fits b.0 true) holds).1)
    by (TExpr-F.Both node a b) used holds = both_lies node (made a.0) (made b.0) (cost a.0) (cost b.0) (a.1 true (and_parts (fits a.0 true) (fits b.0 true) holds).0) (b.1 true (and_parts (fits a.0 true) (fits b.0 true) holds).1)
    by (TExpr-F.Either node a b) used holds = either_lies node (made a.0) (made b.0) (cost a.0) (cost b.0) (a.1 true (and_parts (fits a.0 true) (fits b.0 true) holds).0) (b.1 true (and_parts (fits a.0 true) (fits b.0 true) holds).1)
    by (TExpr-F.Forward node a b) used holds = forward_lies node (made a.0) (made b.0) (cost a.0) (cost b.0) (a.1 true (and_parts (fits a.0 true) (fits b.0 true) holds).0) (b.1 true (and_parts (fits a.0 true) (fits b.0 true) holds).1)
    by (TExpr-F.Onto node a b) used holds = onto_lies node (made a.0) (made b.0) (cost a.0) (cost b.0) (a.1 true (and_parts (fits a.0 true) (fits b.0 true) holds).0) (b.1 true (and_parts (fits a.0 true) (fits b.0 true) holds).1)
    by (TExpr-F.Back node a b) used holds = back_lies node (made a.0) (made b.0) (cost a.0) (cost b.0) (a.1 true (and_parts (fits a.0 true) (fits b.0 true) holds).0) (b.1 true (and_parts (fits a.0 true) (fits b.0 true) holds).1)
    by (TExpr-F.PtrCompare node op a b) used holds = compare_lies node op (made a.0) (made b.0) (cost a.0) (cost b.0) (a.1 true (and_parts (fits a.0 true) (fits b.0 true) holds).0) (b.1 true (and_parts (fits a.0 true) (fits b.0 true) holds).1)
    by (TExpr-F.PtrDistance node a b) used holds = distance_lies node (made a.0) (made b.0) (cost a.0) (cost b.0) (a.1 true (and_parts (fits a.0 true) (fits b.0 true) holds).0) (b.1 true (and_parts (fits a.0 true) (fits b.0 true) holds).1)
    by (TExpr-F.Cond node a b c) used holds = cond_lies node (made a.0) (made b.0) (made c.0) (cost a.0) (cost b.0) (cost c.0) (a.1 true (and_parts (fits a.0 true) (fits b.0 used && fits c.0 used) holds).0)
        (b.1 used (and_parts (fits b.0 used) (fits c.0 used) (and_parts (fits a.0 true) (fits b.0 used && fits c.0 used) holds).1).0) (c.1 used (and_parts (fits b.0 used) (fits c.0 used) (and_parts (fits a.0 true) (fits b.0 used && fits c.0 used) holds).1).1)
    by (TExpr-F.Assign node a b) used holds = assign_lies node (made a.0) (made b.0) (cost a.0) (cost b.0) (a.1 true (and_parts (fits a.0 true) (fits b.0 true) holds).0) (b.1 true (and_parts (fits a.0 true) (fits b.0 true) holds).1)
    by (TExpr-F.AssignBy node change a b) used holds = assign_by_lies node change (made a.0) (made b.0) (cost a.0) (cost b.0) (a.1 true (and_parts (fits a.0 true) (fits b.0 true) holds).0) (b.1 true (and_parts (fits a.0 true) (fits b.0 true) holds).1)
    by (TExpr-F.Comma node a b) used holds = comma_lies node (made a.0) (made b.0) (cost a.0) (cost b.0) (a.1 false (and_parts (fits a.0 false) (fits b.0 used) holds).0) (b.1 used (and_parts (fits a.0 false) (fits b.0 used) holds).1)

    -- AN EXPRESSION that fits
    pub expression_lies : (e : TExpr) (used : Bool) → expr_fits limits e used ≡ true → Lies (lowered program vs e) (expr_cost e).registers
    expression_lies =
        ind-TExpr Right
        (λ x y is used holds.
        subst (λ e. Lies e (expr_cost (roll-TExpr x)).registers) (sym (fold-roll-TExpr Lowered (lower_step program vs) x))
        (subst (λ (c : Cost). Lies (lower_step program vs (map-TExpr TExpr Lowered made x)) c.registers) (sym (fold-roll-TExpr Cost expr_cost_step x))
        (subst Layer is (by y) used (subst (λ (u : Use). u used ≡ true) (fold-roll-TExpr Use (expr_step limits) x) holds))))
