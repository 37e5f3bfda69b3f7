-- Each expression has at most as many instructions as its constructs cost.
use Rattle.std.proofs.Common.{ℕ, ◌≡◌, ◌+◌, ◌≤◌, Bool, true, false, if◌then◌else◌, ℤ, List, [], ◌∷◌, map, Option, Some, None, refl, sym, subst, arith}
use Rattle.k_num.specs.declared.place.Place.{Place}
use Rattle.k_num.specs.declared.numbers.Kind.{Kind}
use Rattle.k_num.specs.declared.numbers.Bin.{Bin}
use Rattle.k_num.specs.declared.numbers.Un.{Un}
use Rattle.k_types_meaning.specs.declared.types.TType.{TType}
use Rattle.k_types_meaning.specs.declared.types.TType.TheVariants as ttype
use Rattle.k_types_meaning.specs.declared.tree.expression.Change.{Change}
use Rattle.k_types_meaning.specs.declared.tree.expression.Change.TheVariants as change
use Rattle.k_types_meaning.specs.declared.tree.expression.Node.{Node}
use Rattle.k_types_meaning.specs.declared.tree.expression.Piece.{Piece as Written}
use Rattle.k_types_meaning.specs.declared.tree.expression.TExpr.{TExpr, roll-TExpr, fold-roll-TExpr, ind-TExpr, map-TExpr}
use Rattle.k_types_meaning.specs.declared.tree.expression.TExpr.TheOpen.{TExpr-F}
use Rattle.k_types_meaning.specs.declared.tree.unit.TVariable.{TVariable}
use Rattle.k_types_meaning.specs.Types.{same_kind}
use Rattle.k_world.specs.declared.act.Out.TheVariants as out
use Rattle.k_code.specs.declared.instruction.Arg.{Arg}
use Rattle.k_evaluation.specs.Assignments.{side_kind}
use Rattle.k_evaluation.specs.Library.{chunk_of}
use Rattle.k_evaluation.specs.Meanings.{kind_of, scale_of}
use Rattle.k_evaluation.specs.Places.{string_number, is_register}
use Rattle.k_evaluation.specs.States.{Program}
use Rattle.k_lower_code.specs.Expressions.{lower_step, lowered}
use Rattle.k_lower_code.specs.Lowered.{Lowered, Designated, InRegister, InMemory, only_value, loads, value_in_memory, value_at, at_place, on_one, behind_one, on_two, in_turn}
use Rattle.k_lower_code.specs.Pieces.{Piece, only, ◌>>>◌, nothing}
use Rattle.k_lower_code.specs.Places as places
use Rattle.k_lower_code.specs.Operators as operators
use Rattle.k_lower_code.specs.Assignments as assignments
use Rattle.k_lower_code.specs.Library as library
use Rattle.k_lower_fits.specs.Costs.{Cost, expr_cost_step, expr_cost, arguments}

-- AN EXPRESSION HAS AT MOST so many instructions, as a value and as a place
pub record Small (e : Lowered) (n : ℕ) : Type 0 where
  pub value : (used : Bool) (r : ℕ) → (e.value used r).size ≤ n
  pub place : (r : ℕ) → (e.place r).size ≤ n

-- several have, each with the temporaries behind those before it
abbrev pub AllSmall : List Lowered → List Cost → Type 0
AllSmall [] [] = Unit {0}
AllSmall (e ∷ es) [] = ⊥
AllSmall [] (c ∷ cs) = ⊥
AllSmall (e ∷ es) (c ∷ cs) = Small e c.instructions × AllSmall es cs

both_small : {A B : Type 0} (piece : Piece A) (next : A → Piece B) (a b n : ℕ) → piece.size ≤ a → (next piece.gives).size ≤ b → a + b ≤ n → (piece >>> next).size ≤ n
both_small piece next a b n x y sum = (let e : piece.size + (next piece.gives).size ≤ n = omega (arith, x, y, sum) in e)

none_small : (n : ℕ) → 0 ≤ n
none_small n = omega arith

one_small : (n : ℕ) → 1 ≤ 1 + n
one_small n = omega arith

only_value_small : (node : Node) (v : Bool → ℕ → Piece Arg) (n : ℕ) → ((used : Bool) (r : ℕ) → (v used r).size ≤ n) → Small (only_value node v) n
only_value_small node v n each = record { value = each; place = λ r. none_small n }

on_one_small : (node : Node) (e : Lowered) (operation : ℕ → Arg → Piece Arg) (a k n : ℕ) → Small e a → ((r : ℕ) (x : Arg) → (operation r x).size ≤ k) → a + k ≤ n → Small (on_one node e operation) n
on_one_small node e operation a k n is each sum = only_value_small node (λ used r. e.value true r >>> operation r) n
    (λ used r. both_small (e.value true r) (operation r) a k n (is.value true r) (each r (e.value true r).gives) sum)

on_two_small : (node : Node) (e f : Lowered) (operation : ℕ → Arg → Arg → Piece Arg) (a b k n : ℕ) → Small e a → Small f b → ((r : ℕ) (x y : Arg) → (operation r x y).size ≤ k) → a + (b + k) ≤ n
    → Small (on_two node e f operation) n
on_two_small node e f operation a b k n is other each sum = on_one_small node e (behind_one f operation) a (b + k) n is
    (λ r x. both_small (f.value true (r + 1)) (operation r x) b k (b + k) (other.value true (r + 1)) (each r x (f.value true (r + 1)).gives) (omega arith)) sum

in_turn_small : (es : List Lowered) (cs : List Cost) (r : ℕ) → AllSmall es cs → (in_turn es r).size ≤ (arguments cs).instructions
in_turn_small [] [] r all = none_small 0
in_turn_small (e ∷ es) [] r all = absurd all
in_turn_small [] (c ∷ cs) r all = absurd all
in_turn_small (e ∷ es) (c ∷ cs) r all =
    (let one : (e.value true r).size ≤ c.instructions = all.0.value true r in
    (let rest : (in_turn es (r + 1)).size ≤ (arguments cs).instructions = in_turn_small es cs (r + 1) all.1 in
    (let goal : (e.value true r).size + ((in_turn es (r + 1)).size + 0) ≤ c.instructions + (arguments cs).instructions = omega (arith, one, rest) in goal)))

module _ (program : Program) where
  loads_small : (place : Place) (used : Bool) (r : ℕ) (a : Arg) → (loads program place used r a).size ≤ 1
  loads_small place false r a = none_small 1
  loads_small place true r a = one_small 0

  in_memory_small : (place : Place) (of : TType) (used : Bool) (r : ℕ) (a : Arg) → (value_in_memory program place of used r a).size ≤ 1
  in_memory_small place ttype.Void used r a = none_small 1
  in_memory_small place (ttype.Number kind) used r a = loads_small place used r a
  in_memory_small place (ttype.Pointer target) used r a = none_small 1

  value_at_small : (node : Node) (used : Bool) (r : ℕ) (d : Designated) → (value_at program node used r d).size ≤ 1
  value_at_small node used r (InRegister n broken) = none_small 1
  value_at_small node used r (InMemory a) = in_memory_small node.place node.of used r a

  at_place_small : (node : Node) (place : ℕ → Piece Designated) (a n : ℕ) → ((r : ℕ) → (place r).size ≤ a) → a + 1 ≤ n → Small (at_place program node place) n
  at_place_small node place a n each sum = record {
    value = λ used r. both_small (place r) (value_at program node used r) a 1 n (each r) (value_at_small node used r (place r).gives) sum;
    place = λ r. (let one : (place r).size ≤ a = each r in (let e : (place r).size ≤ n = omega (arith, one, sum) in e));
  }

  -- PLACES
  number_small : (node : Node) (z : ℤ) → Small (places.number node z) 16
  unfolding places.number
  number_small node z = only_value_small node _ 16 (λ used r. none_small 16)

  string_value_small : (place : Place) (object : ℕ) (used : Bool) (r : ℕ) → (places.string_value program place object used r).size ≤ 16
  string_value_small place object false r = none_small 16
  string_value_small place object true r = one_small 15

  string_small : (node : Node) (n : ℕ) (bytes : List ℕ) → Small (places.string program node n bytes) 16
  unfolding places.string
  string_small node n bytes = record { value = λ used r. string_value_small node.place (string_number program n) used r; place = λ r. none_small 16 }

  object_small : (node : Node) (n : ℕ) → Small (places.object program node n) 16
  unfolding places.object
  object_small node n = at_place_small node (λ r. places.address_of program node.place n r >>> λ address. only (InMemory address)) 1 16 (λ r. one_small 0) (omega arith)

  variable_small : (vs : List TVariable) (node : Node) (n : ℕ) → Small (places.variable program vs node n) 16
  unfolding places.variable
  variable_small vs node n = at_place_small node (λ r. only (places.variable_place program node n (is_register vs n))) 0 16 (λ r. none_small 0) (omega arith)

  index_small : (node : Node) (base by : Lowered) (a b : ℕ) → Small base a → Small by b → Small (places.index program node base by) (16 + (a + b))
  unfolding places.index
  index_small node base by a b first second =
      at_place_small node (λ r. base.value true r >>> places.behind_base program node.place (scale_of base.node.of) by r) (a + (b + 1)) (16 + (a + b))
      (λ r. both_small (base.value true r) (places.behind_base program node.place (scale_of base.node.of) by r) a (b + 1) (a + (b + 1)) (first.value true r)
      (both_small (by.value true (r + 1)) (places.element_at program node.place (scale_of base.node.of) r (base.value true r).gives) b 1 (b + 1) (second.value true (r + 1)) (one_small 0) (omega arith)) (omega arith)) (omega arith)

  deref_small : (node : Node) (e : Lowered) (a : ℕ) → Small e a → Small (places.deref program node e) (16 + a)
  unfolding places.deref
  deref_small node e a is = at_place_small node (λ r. e.value true r >>> λ pointer. only (InMemory pointer)) (a + 0) (16 + a)
      (λ r. both_small (e.value true r) (λ pointer. only (InMemory pointer)) a 0 (a + 0) (is.value true r) (none_small 0) (omega arith)) (omega arith)

  address_small : (node : Node) (e : Lowered) (a : ℕ) → Small e a → Small (places.address node e) (16 + a)
  unfolding places.address
  address_small node e a is = only_value_small node (λ used r. e.place r >>> λ target. only (places.address_at target)) (16 + a)
      (λ used r. both_small (e.place r) (λ target. only (places.address_at target)) a 0 (16 + a) (is.place r) (none_small 0) (omega arith))

  forward_small : (node : Node) (e f : Lowered) (a b : ℕ) → Small e a → Small f b → Small (places.forward program node e f) (16 + (a + b))
  unfolding places.forward
  forward_small node e f a b is other = on_two_small node e f (places.offset program node.place false (scale_of node.of)) a b 1 (16 + (a + b)) is other (λ r x y. one_small 0) (omega arith)

  back_small : (node : Node) (e f : Lowered) (a b : ℕ) → Small e a → Small f b → Small (places.back program node e f) (16 + (a + b))
  unfolding places.back
  back_small node e f a b is other = on_two_small node e f (places.offset program node.place true (scale_of node.of)) a b 1 (16 + (a + b)) is other (λ r x y. one_small 0) (omega arith)

  onto_small : (node : Node) (e f : Lowered) (a b : ℕ) → Small e a → Small f b → Small (places.onto program node e f) (16 + (a + b))
  unfolding places.onto
  onto_small node e f a b is other = on_two_small node e f (places.offset_onto program node.place (scale_of node.of)) a b 1 (16 + (a + b)) is other (λ r x y. one_small 0) (omega arith)

  -- OPERATORS
  plus_small : (node : Node) (e : Lowered) (a : ℕ) → Small e a → Small (operators.plus node e) (16 + a)
  unfolding operators.plus
  plus_small node e a is = only_value_small node e.value (16 + a) (λ used r. (let one : (e.value used r).size ≤ a = is.value used r in (let goal : (e.value used r).size ≤ 16 + a = omega (arith, one) in goal)))

  unary_small : (node : Node) (op : Un) (kind : Kind) (e : Lowered) (a : ℕ) → Small e a → Small (operators.unary program node op kind e) (16 + a)
  unfolding operators.unary
  unary_small node op kind e a is = on_one_small node e (operators.unary_on program node.place op kind) a 1 (16 + a) is (λ r x. one_small 0) (omega arith)

  converts_small : (place : Place) (kind : Option Kind) (r : ℕ) (a : Arg) → (operators.converts program place kind r a).size ≤ 1
  converts_small place None r a = none_small 1
  converts_small place (Some kind) r a = one_small 0

  convert_small : (node : Node) (e : Lowered) (a : ℕ) → Small e a → Small (operators.convert program node e) (4 + a)
  unfolding operators.convert
  convert_small node e a is = on_one_small node e (operators.converts program node.place (kind_of node.of)) a 1 (4 + a) is (converts_small node.place (kind_of node.of)) (omega arith)

  cast_to_small : (place : Place) (of : TType) (e : Lowered) (a : ℕ) → Small e a → (used : Bool) (r : ℕ) → (operators.cast_to program place of e used r).size ≤ 16 + a
  cast_to_small place ttype.Void e a is used r = both_small (e.value false r) (λ x. only nothing) a 0 (16 + a) (is.value false r) (none_small 0) (omega arith)
  cast_to_small place (ttype.Number kind) e a is used r = both_small (e.value true r) (operators.converts program place (Some kind) r) a 1 (16 + a) (is.value true r) (one_small 0) (omega arith)
  cast_to_small place (ttype.Pointer target) e a is used r = (let one : (e.value used r).size ≤ a = is.value used r in (let goal : (e.value used r).size ≤ 16 + a = omega (arith, one) in goal))

  cast_small : (node : Node) (e : Lowered) (a : ℕ) → Small e a → Small (operators.cast program node e) (16 + a)
  unfolding operators.cast
  cast_small node e a is = only_value_small node (operators.cast_to program node.place node.of e) (16 + a) (cast_to_small node.place node.of e a is)

  binary_small : (node : Node) (op : Bin) (kind : Kind) (e f : Lowered) (a b : ℕ) → Small e a → Small f b → Small (operators.binary program node op kind e f) (16 + (a + b))
  unfolding operators.binary
  binary_small node op kind e f a b is other = on_two_small node e f (operators.binary_on program node.place op kind) a b 1 (16 + (a + b)) is other (λ r x y. one_small 0) (omega arith)

  compare_small : (node : Node) (op : Bin) (e f : Lowered) (a b : ℕ) → Small e a → Small f b → Small (operators.compare program node op e f) (16 + (a + b))
  unfolding operators.compare
  compare_small node op e f a b is other = on_two_small node e f (operators.compare_on program node.place op) a b 1 (16 + (a + b)) is other (λ r x y. one_small 0) (omega arith)

  distance_small : (node : Node) (e f : Lowered) (a b : ℕ) → Small e a → Small f b → Small (operators.distance program node e f) (16 + (a + b))
  unfolding operators.distance
  distance_small node e f a b is other = on_two_small node e f (operators.distance_on program node.place (scale_of e.node.of)) a b 1 (16 + (a + b)) is other (λ r x y. one_small 0) (omega arith)

  tests_size : (place : Place) (decides : Bool) (to : Option ℕ) (a : Arg) (piece : Piece (Unit {0})) → (operators.tests_before program place decides to a piece).size ≡ 1 + piece.size
  tests_size place false to a piece = refl
  tests_size place true to a piece = refl

  logical_small : (node : Node) (decides : Bool) (e f : Lowered) (a b : ℕ) → Small e a → Small f b → Small (operators.logical program node decides e f) (16 + (a + b))
  logical_small node decides e f a b is other = only_value_small node _ (16 + (a + b)) (λ used r.
      (let one : (e.value true r).size ≤ a = is.value true r in
      (let two : (f.value true (r + 1)).size ≤ b = other.value true (r + 1) in
      (let three : (operators.tests_before program node.place decides (Some r) (e.value true r).gives (operators.truth_of program node f r)).size ≡ 1 + ((f.value true (r + 1)).size + 1) =
      tests_size node.place decides (Some r) (e.value true r).gives (operators.truth_of program node f r) in
      (let goal : 1 + (((e.value true r).size + ((operators.tests_before program node.place decides (Some r) (e.value true r).gives (operators.truth_of program node f r)).size + 0)) + (1 + 0)) ≤ 16 + (a + b) =
      omega (arith, one, two, three) in goal)))))

  both_row_small : (node : Node) (e f : Lowered) (a b : ℕ) → Small e a → Small f b → Small (operators.both program node e f) (16 + (a + b))
  unfolding operators.both
  both_row_small node e f a b is other = logical_small node false e f a b is other

  either_small : (node : Node) (e f : Lowered) (a b : ℕ) → Small e a → Small f b → Small (operators.either program node e f) (16 + (a + b))
  unfolding operators.either
  either_small node e f a b is other = logical_small node true e f a b is other

  arm_small : (place : Place) (of : TType) (r : ℕ) (e : Lowered) (a : ℕ) → Small e a → (operators.arm program place of r e).size ≤ a + 1
  arm_small place ttype.Void r e a is = both_small (e.value false r) (λ x. only nothing) a 0 (a + 1) (is.value false r) (none_small 0) (omega arith)
  arm_small place (ttype.Number kind) r e a is = both_small (e.value true r) (operators.moves program place r) a 1 (a + 1) (is.value true r) (one_small 0) (omega arith)
  arm_small place (ttype.Pointer target) r e a is = both_small (e.value true r) (operators.moves program place r) a 1 (a + 1) (is.value true r) (one_small 0) (omega arith)

  cond_small : (node : Node) (test e f : Lowered) (t a b : ℕ) → Small test t → Small e a → Small f b → Small (operators.cond program node test e f) (16 + (t + (a + b)))
  unfolding operators.cond
  cond_small node test e f t a b tested is other = only_value_small node _ (16 + (t + (a + b))) (λ used r.
      (let one : (test.value true r).size ≤ t = tested.value true r in
      (let two : (operators.arm program node.place node.of r e).size ≤ a + 1 = arm_small node.place node.of r e a is in
      (let three : (operators.arm program node.place node.of r f).size ≤ b + 1 = arm_small node.place node.of r f b other in
      (let goal : 1 + (((test.value true r).size + (((1 + (operators.arm program node.place node.of r e).size) + 1) + (operators.arm program node.place node.of r f).size)) + (1 + 0)) ≤ 16 + (t + (a + b)) =
      omega (arith, one, two, three) in goal)))))

  comma_small : (node : Node) (e f : Lowered) (a b : ℕ) → Small e a → Small f b → Small (operators.comma node e f) (16 + (a + b))
  unfolding operators.comma
  comma_small node e f a b is other = only_value_small node (λ used r. e.value false r >>> λ x. f.value used r) (16 + (a + b))
      (λ used r. both_small (e.value false r) (λ x. f.value used r) a b (16 + (a + b)) (is.value false r) (other.value used r) (omega arith))

  -- ASSIGNMENTS
  pub writes_small : (place : Place) (used : Bool) (r : ℕ) (d : Designated) (a : Arg) → (assignments.writes program place used r d a).size ≤ 1
  writes_small place used r (InRegister n broken) a = one_small 0
  writes_small place used r (InMemory address) a = one_small 0

  assign_small : (node : Node) (e f : Lowered) (a b : ℕ) → Small e a → Small f b → Small (assignments.assign program node e f) (16 + (a + b))
  unfolding assignments.assign
  assign_small node e f a b is other = only_value_small node (λ used r. e.place r >>> assignments.behind_place program node.place f used r) (16 + (a + b))
      (λ used r. both_small (e.place r) (assignments.behind_place program node.place f used r) a (b + 1) (16 + (a + b)) (is.place r)
      (both_small (f.value true (r + 1)) (assignments.writes program node.place used r (e.place r).gives) b 1 (b + 1) (other.value true (r + 1)) (writes_small node.place used r (e.place r).gives (f.value true (r + 1)).gives) (omega arith)) (omega arith))

  old_value_small : (place : Place) (r : ℕ) (d : Designated) → (assignments.old_value program place r d).size ≤ 1
  old_value_small place r (InRegister n broken) = none_small 1
  old_value_small place r (InMemory address) = one_small 0

  between_by : (place : Place) (to : Kind) (r : ℕ) (a : Arg) (same : Bool) → (if same then only a else operators.converts program place (Some to) r a).size ≤ 1
  between_by place to r a true = none_small 1
  between_by place to r a false = one_small 0

  side_small : (place : Place) (from : Option Kind) (to : Kind) (r : ℕ) (a : Arg) → (assignments.converts_side program place from to r a).size ≤ 1
  side_small place None to r a = none_small 1
  side_small place (Some from) to r a = between_by place to r a (same_kind from to)

  back_to_small : (place : Place) (from : Kind) (to : Option Kind) (r : ℕ) (a : Arg) → (assignments.converts_back program place from to r a).size ≤ 1
  back_to_small place from None r a = none_small 1
  back_to_small place from (Some to) r a = between_by place to r a (same_kind from to)

  combined_small : (place : Place) (op : Bin) (kind : Kind) (of by_of : Option Kind) (r : ℕ) (old by : Arg) → (assignments.combined program place op kind of by_of r old by).size ≤ 4
  combined_small place op kind of by_of r old by =
      both_small (assignments.converts_side program place of kind (r + 1) old)
      (λ a. assignments.converts_side program place by_of (side_kind op kind by_of) (r + 2) by >>> λ b. operators.binary_on program place op kind (r + 1) a b >>> assignments.converts_back program place kind of (r + 1))
      1 3 4 (side_small place of kind (r + 1) old)
      (both_small (assignments.converts_side program place by_of (side_kind op kind by_of) (r + 2) by)
      (λ b. operators.binary_on program place op kind (r + 1) (assignments.converts_side program place of kind (r + 1) old).gives b >>> assignments.converts_back program place kind of (r + 1))
      1 2 3 (side_small place by_of (side_kind op kind by_of) (r + 2) by)
      (both_small (operators.binary_on program place op kind (r + 1) (assignments.converts_side program place of kind (r + 1) old).gives (assignments.converts_side program place by_of (side_kind op kind by_of) (r + 2) by).gives)
      (assignments.converts_back program place kind of (r + 1)) 1 1 2 (one_small 0) (back_to_small place kind of (r + 1) _) (omega arith)) (omega arith)) (omega arith)

  changed_small : (place : Place) (how : Change) (of : TType) (by_of : Option Kind) (r : ℕ) (old by : Arg) → (assignments.changed program place how of by_of r old by).size ≤ 4
  changed_small place (change.Number op kind) of by_of r old by = combined_small place op kind (kind_of of) by_of r old by
  changed_small place change.Forward of by_of r old by = one_small 3
  changed_small place change.Back of by_of r old by = one_small 3

  changes_small : (node : Node) (how : Change) (by_of : Option Kind) (used : Bool) (r : ℕ) (d : Designated) (by old : Arg) → (assignments.changes program node how by_of used r d by old).size ≤ 5
  changes_small node how by_of used r d by old =
      both_small (assignments.changed program node.place how node.of by_of (r + 1) old by) (assignments.writes program node.place used r d) 4 1 5 (changed_small node.place how node.of by_of (r + 1) old by) (writes_small node.place used r d _) (omega arith)

  changes_old_small : (node : Node) (how : Change) (by_of : Option Kind) (used : Bool) (r : ℕ) (d : Designated) (by : Arg) → (assignments.changes_old program node how by_of used r d by).size ≤ 6
  changes_old_small node how by_of used r d by =
      both_small (assignments.old_value program node.place (r + 2) d) (assignments.changes program node how by_of used r d by) 1 5 6 (old_value_small node.place (r + 2) d) (changes_small node how by_of used r d by _) (omega arith)

  assign_by_small : (node : Node) (how : Change) (e f : Lowered) (a b : ℕ) → Small e a → Small f b → Small (assignments.assign_by program node how e f) (16 + (a + b))
  unfolding assignments.assign_by
  assign_by_small node how e f a b is other = only_value_small node (λ used r. e.place r >>> assignments.behind_changed program node how f used r) (16 + (a + b))
      (λ used r. both_small (e.place r) (assignments.behind_changed program node how f used r) a (b + 6) (16 + (a + b)) (is.place r)
      (both_small (f.value true (r + 1)) (assignments.changes_old program node how (kind_of f.node.of) used r (e.place r).gives) b 6 (b + 6) (other.value true (r + 1))
      (changes_old_small node how (kind_of f.node.of) used r (e.place r).gives (f.value true (r + 1)).gives) (omega arith)) (omega arith))

  pre_small : (node : Node) (how : Change) (e : Lowered) (a : ℕ) → Small e a → Small (assignments.pre program node how e) (16 + a)
  unfolding assignments.pre
  pre_small node how e a is = only_value_small node (λ used r. e.place r >>> λ target. assignments.changes_old program node how None used r target assignments.one) (16 + a)
      (λ used r. both_small (e.place r) (λ target. assignments.changes_old program node how None used r target assignments.one) a 6 (16 + a) (is.place r) (changes_old_small node how None used r (e.place r).gives assignments.one) (omega arith))

  after_old_small : (node : Node) (how : Change) (used : Bool) (r : ℕ) (d : Designated) (old : Arg) → (assignments.after_old program node how used r d old).size ≤ 6
  after_old_small node how false r d old =
      (let one : (assignments.changes program node how None false (r + 1) d assignments.one old).size ≤ 5 = changes_small node how None false (r + 1) d assignments.one old in
      (let goal : (assignments.changes program node how None false (r + 1) d assignments.one old).size ≤ 6 = omega (arith, one) in goal))
  after_old_small node how true r d old =
      both_small (operators.moves program node.place r old) (λ kept. assignments.changes program node how None false (r + 1) d assignments.one old >>> λ v. only kept) 1 5 6 (one_small 0)
      (both_small (assignments.changes program node how None false (r + 1) d assignments.one old) (λ v. only (operators.moves program node.place r old).gives) 5 0 5 (changes_small node how None false (r + 1) d assignments.one old) (none_small 0) (omega arith)) (omega arith)

  post_small : (node : Node) (how : Change) (e : Lowered) (a : ℕ) → Small e a → Small (assignments.post program node how e) (16 + (0 + a))
  unfolding assignments.post
  post_small node how e a is = only_value_small node (λ used r. e.place (r + 1) >>> assignments.after_place program node how used r) (16 + (0 + a))
      (λ used r. both_small (e.place (r + 1)) (assignments.after_place program node how used r) a 7 (16 + (0 + a)) (is.place (r + 1))
      (both_small (assignments.old_value program node.place (r + 3) (e.place (r + 1)).gives) (assignments.after_old program node how used r (e.place (r + 1)).gives) 1 6 7
      (old_value_small node.place (r + 3) (e.place (r + 1)).gives) (after_old_small node how used r (e.place (r + 1)).gives _) (omega arith)) (omega arith))

  -- CALLS
  getchar_small : (node : Node) → Small (library.getchar program node) 16
  unfolding library.getchar
  getchar_small node = only_value_small node _ 16 (λ used r. one_small 15)

  putchar_small : (node : Node) (e : Lowered) (a : ℕ) → Small e a → Small (library.putchar program node e) (16 + a)
  unfolding library.putchar
  putchar_small node e a is = on_one_small node e (library.puts_byte program node.place) a 1 (16 + a) is (λ r x. one_small 0) (omega arith)

  puts_small : (node : Node) (e : Lowered) (a : ℕ) → Small (library.puts program node e) (16 + a)
  unfolding library.puts
  puts_small node e a = only_value_small node _ (16 + a) (λ used r. (let goal : 1 ≤ 16 + a = omega arith in goal))

  printf_small : (node : Node) (format : List Written) (args : List Lowered) (cs : List Cost) → AllSmall args cs → Small (library.printf program node format args) (16 + (arguments cs).instructions)
  unfolding library.printf
  printf_small node format args cs all = only_value_small node _ (16 + (arguments cs).instructions)
      (λ used r. both_small (in_turn args r) (library.outputs program node.place (out.Format (map chunk_of format)) r) (arguments cs).instructions 1 (16 + (arguments cs).instructions) (in_turn_small args cs r all) (one_small 0) (omega arith))

  call_small : (node : Node) (f : ℕ) (args : List Lowered) (cs : List Cost) → AllSmall args cs → Small (library.call program node f args) (16 + (arguments cs).instructions)
  unfolding library.call
  call_small node f args cs all = only_value_small node _ (16 + (arguments cs).instructions)
      (λ used r. both_small (in_turn args r) (library.calls_with program node f used r) (arguments cs).instructions 3 (16 + (arguments cs).instructions) (in_turn_small args cs r all) (let goal : 3 ≤ 3 = omega arith in goal) (omega arith))

  module _ (vs : List TVariable) where
    abbrev made : TExpr → Lowered
    made = lowered program vs

    abbrev Fine : TExpr → Type 0
    Fine e = Small (made e) (expr_cost e).instructions

    all_small : {B : Type 0} (items : List B) (expr : B → TExpr) → ((b : B) → Fine (expr b)) → AllSmall (map made (map expr items)) (map expr_cost (map expr items))
    all_small [] expr each = tt
    all_small (b ∷ items) expr each = (each b, all_small items expr each)

    abbrev Layer : TExpr-F TExpr → Type 0
    Layer z = Small (lower_step program vs (map-TExpr TExpr Lowered made z)) (expr_cost_step (map-TExpr TExpr Cost expr_cost z)).instructions

    abbrev cost : TExpr → ℕ
    cost e = (expr_cost e).instructions

    by : (y : TExpr-F ((e : TExpr) × Fine e)) → Layer (map-TExpr _ TExpr (λ (e : (e : TExpr) × Fine e). e.0) y)
    by (TExpr-F.Number node z) = number_small node z
    by (TExpr-F.Str node n bytes) = string_small node n bytes
    by (TExpr-F.Object node n) = object_small node n
    by (TExpr-F.Variable node n) = variable_small vs node n
    by (TExpr-F.Index node a b) = index_small node (made a.0) (made b.0) (cost a.0) (cost b.0) a.1 b.1
    by (TExpr-F.Call node f args) = call_small node f _ _ (all_small args (λ e. e.0) (λ e. e.1))
    by (TExpr-F.Getchar node) = getchar_small node
    by (TExpr-F.Putchar node a) = putchar_small node (made a.0) (cost a.0) a.1
    by (TExpr-F.Puts node a) = puts_small node (made a.0) (cost a.0)
    by (TExpr-F.Printf node format args) = printf_small node format _ _ (all_small args (λ e. e.0) (λ e. e.1))
    by (TExpr-F.Post node change a) = post_small node change (made a.0) (cost a.0) a.1
    by (TExpr-F.Pre node change a) = pre_small node change (made a.0) (cost a.0) a.1
    by (TExpr-F.Address node a) = address_small node (made a.0) (cost a.0) a.1
    by (TExpr-F.Deref node a) = deref_small node (made a.0) (cost a.0) a.1
    by (TExpr-F.Plus node a) = plus_small node (made a.0) (cost a.0) a.1
    by (TExpr-F.Unary node op kind a) = unary_small node op kind (made a.0) (cost a.0) a.1
    by (TExpr-F.Convert node a) = convert_small node (made a.0) (cost a.0) a.1
    by (TExpr-F.Cast node a) = cast_small node (made a.0) (cost a.0) a.1
    by (TExpr-F.Binary node op kind a b) = binary_small node op kind (made a.0) (made b.0) (cost a.0) (cost b.0) a.1 b.1
    by (TExpr-F.Both node a b) = both_row_small node (made a.0) (made b.0) (cost a.0) (cost b.0) a.1 b.1
    by (TExpr-F.Either node a b) = either_small node (made a.0) (made b.0) (cost a.0) (cost b.0) a.1 b.1
    by (TExpr-F.Forward node a b) = forward_small node (made a.0) (made b.0) (cost a.0) (cost b.0) a.1 b.1
    by (TExpr-F.Onto node a b) = onto_small node (made a.0) (made b.0) (cost a.0) (cost b.0) a.1 b.1
    by (TExpr-F.Back node a b) = back_small node (made a.0) (made b.0) (cost a.0) (cost b.0) a.1 b.1
    by (TExpr-F.PtrCompare node op a b) = compare_small node op (made a.0) (made b.0) (cost a.0) (cost b.0) a.1 b.1
    by (TExpr-F.PtrDistance node a b) = distance_small node (made a.0) (made b.0) (cost a.0) (cost b.0) a.1 b.1
    by (TExpr-F.Cond node a b c) = cond_small node (made a.0) (made b.0) (made c.0) (cost a.0) (cost b.0) (cost c.0) a.1 b.1 c.1
    by (TExpr-F.Assign node a b) = assign_small node (made a.0) (made b.0) (cost a.0) (cost b.0) a.1 b.1
    by (TExpr-F.AssignBy node change a b) = assign_by_small node change (made a.0) (made b.0) (cost a.0) (cost b.0) a.1 b.1
    by (TExpr-F.Comma node a b) = comma_small node (made a.0) (made b.0) (cost a.0) (cost b.0) a.1 b.1

    -- AN EXPRESSION
    pub expression_small : (e : TExpr) → Small (lowered program vs e) (expr_cost e).instructions
    expression_small =
        ind-TExpr Fine
        (λ x y is.
        subst (λ e. Small e (expr_cost (roll-TExpr x)).instructions) (sym (fold-roll-TExpr Lowered (lower_step program vs) x))
        (subst (λ (c : Cost). Small (lower_step program vs (map-TExpr TExpr Lowered made x)) c.instructions) (sym (fold-roll-TExpr Cost expr_cost_step x)) (subst Layer is (by y))))
