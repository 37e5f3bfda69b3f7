-- The extent of each construct of expressions, by those of its operands.
use Rattle.std.proofs.Common.{ℕ, ◌≡◌, ◌+◌, Bool, true, false, List, [], ◌∷◌, Option, Some, None, ℤ, refl, ap, ◌∙◌, arith}
use Rattle.std.specs.Prelude.{if◌then◌else◌}
use Rattle.k_num.specs.declared.numbers.Bin.{Bin}
use Rattle.k_num.specs.declared.numbers.Kind.{Kind}
use Rattle.k_num.specs.declared.numbers.Un.{Un}
use Rattle.k_num.specs.declared.place.Place.{Place}
use Rattle.k_types_meaning.specs.declared.types.TType.{TType}
use Rattle.k_types_meaning.specs.declared.types.TType.TheVariants as ttype
use Rattle.k_types_meaning.specs.declared.tree.expression.Change.{Change}
use Rattle.k_types_meaning.specs.declared.tree.expression.Change.TheVariants as change
use Rattle.k_types_meaning.specs.declared.tree.expression.Node.{Node}
use Rattle.k_types_meaning.specs.declared.tree.expression.Piece.{Piece as Written}
use Rattle.k_types_meaning.specs.declared.tree.unit.TVariable.{TVariable}
use Rattle.k_types_meaning.specs.Types.{same_kind}
use Rattle.k_code.specs.declared.instruction.Arg.{Arg}
use Rattle.k_code.specs.declared.instruction.Arg.TheVariants.{Number, Reg}
use Rattle.k_evaluation.specs.Assignments.{side_kind}
use Rattle.k_evaluation.specs.Meanings.{kind_of, scale_of}
use Rattle.k_evaluation.specs.Places.{is_register}
use Rattle.k_evaluation.specs.States.{Program}
use Rattle.k_lower_code.specs.Assignments.{writes, behind_place, assign, old_value, converts_between, converts_side, converts_back, combined, changed, changes, changes_old, behind_changed, assign_by, one, pre, after_place, post}
use Rattle.k_lower_code.specs.Library.{getchar, putchar, puts, printf, call, puts_byte}
use Rattle.k_lower_code.specs.Lowered.{Lowered, Designated, InRegister, InMemory, only_value, value_in_memory, value_at, at_place, on_one, behind_one, on_two, in_turn}
use Rattle.k_lower_code.specs.Operators.{plus, unary, unary_on, converts, convert, cast_to, cast, binary_on, binary, compare_on, compare, distance_on, distance, tests_before, truth_of, logical, both, either, arm, chooses, cond, comma}
use Rattle.k_lower_code.specs.Pieces.{Piece, only, ◌>>>◌, settled}
use Rattle.k_lower_code.specs.Places.{number, address_of, string, object, variable_place, variable, offset, behind_base, index, deref, address_at, address, forward, back, offset_onto, onto}
use Rattle.k_lower_extents.specs.declared.expression.ExpressionExtent.{ExpressionExtent}
use Rattle.k_lower_extents.specs.ExpressionSums as sums
use Rattle.k_lower_extents.specs.Sized.{IsExtent, stands_in_register}

-- these are the extents of operands
abbrev pub AreExtents : List Lowered → List ExpressionExtent → Type 0
AreExtents [] [] = Unit {0}
AreExtents [] (x ∷ xs) = ⊥
AreExtents (l ∷ ls) [] = ⊥
AreExtents (l ∷ ls) (x ∷ xs) = IsExtent l x × AreExtents ls xs

module _ (program : Program) where
  -- an expression that is no place
  no_place : (node : Node) (v : Bool → ℕ → Piece Arg) (used unused : ℕ) → ((r : ℕ) → (v true r).size ≡ used) → ((r : ℕ) → (v false r).size ≡ unused)
      → IsExtent (only_value node v) (sums.no_place node.of used unused)
  no_place node v used unused a b = record { used = a; unused = b; place = λ r. refl; in_register = λ r. refl; of = refl }

  -- what stands in memory
  loaded : (place : Place) (of : TType) (r : ℕ) (a : Arg) → (value_in_memory program place of true r a).size ≡ sums.load_size of
  loaded place ttype.Void r a = refl
  loaded place (ttype.Number kind) r a = refl
  loaded place (ttype.Pointer target) r a = refl

  unloaded : (place : Place) (of : TType) (r : ℕ) (a : Arg) → (value_in_memory program place of false r a).size ≡ 0
  unloaded place ttype.Void r a = refl
  unloaded place (ttype.Number kind) r a = refl
  unloaded place (ttype.Pointer target) r a = refl

  -- an expression that is a place in memory
  in_memory : (node : Node) (place : ℕ → Piece Designated) (n : ℕ) → ((r : ℕ) → (place r).size ≡ n) → (address : ℕ → Arg)
      → ((r : ℕ) → (place r).gives ≡ InMemory (address r)) → IsExtent (at_place program node place) (sums.in_memory node.of n)
  in_memory node place n size address gives = record {
    used = λ r.
        (let front : (place r).size ≡ n = size r in
        (let load : (value_at program node true r (place r).gives).size ≡ sums.load_size node.of =
        ap (λ d. (value_at program node true r d).size) (gives r) ∙ loaded node.place node.of r (address r) in
        omega (arith, front, load)));
    unused = λ r.
        (let front : (place r).size ≡ n = size r in
        (let none : (value_at program node false r (place r).gives).size ≡ 0 =
        ap (λ d. (value_at program node false r d).size) (gives r) ∙ unloaded node.place node.of r (address r) in
        omega (arith, front, none)));
    place = size;
    in_register = λ r. ap stands_in_register (gives r);
    of = refl;
  }

  pub number_row : (node : Node) (z : ℤ) → IsExtent (number node z) (sums.no_place node.of 0 0)
  unfolding number
  number_row node z = no_place node (λ used r. only (Number z)) 0 0 (λ r. refl) (λ r. refl)

  pub string_row : (node : Node) (n : ℕ) (bytes : List ℕ) → IsExtent (string program node n bytes) (sums.no_place node.of 1 0)
  unfolding string
  string_row node n bytes = record { used = λ r. refl; unused = λ r. refl; place = λ r. refl; in_register = λ r. refl; of = refl }

  pub object_row : (node : Node) (n : ℕ) → IsExtent (object program node n) (sums.in_memory node.of 1)
  unfolding object
  object_row node n =
      in_memory node (λ r. address_of program node.place n r >>> λ address. only (InMemory address)) 1 (λ r. refl) (λ r. Reg r false) (λ r. refl)

  variable_by : (node : Node) (n : ℕ) (register : Bool)
      → IsExtent (at_place program node (λ r. only (variable_place program node n register))) (sums.variable node.of register)
  variable_by node n true = record { used = λ r. refl; unused = λ r. refl; place = λ r. refl; in_register = λ r. refl; of = refl }
  variable_by node n false = in_memory node (λ r. only (InMemory (Reg n false))) 0 (λ r. refl) (λ r. Reg n false) (λ r. refl)

  pub variable_row : (vs : List TVariable) (node : Node) (n : ℕ) → IsExtent (variable program vs node n) (sums.variable node.of (is_register vs n))
  unfolding variable
  variable_row vs node n = variable_by node n (is_register vs n)

  pub index_row : (node : Node) (a b : Lowered) (x y : ExpressionExtent) → IsExtent a x → IsExtent b y
      → IsExtent (index program node a b) (sums.element node.of x y)
  unfolding index
  index_row node a b x y one two =
      in_memory node (λ r. a.value true r >>> behind_base program node.place (scale_of a.node.of) b r) (x.used + y.used + 1)
      (λ r.
      (let first : (a.value true r).size ≡ x.used = one.used r in
      (let second : (b.value true (r + 1)).size ≡ y.used = two.used (r + 1) in
      omega (arith, first, second))))
      (λ r. Reg r false) (λ r. refl)

  pub deref_row : (node : Node) (a : Lowered) (x : ExpressionExtent) → IsExtent a x → IsExtent (deref program node a) (sums.in_memory node.of x.used)
  unfolding deref
  deref_row node a x one =
      in_memory node (λ r. a.value true r >>> λ pointer. only (InMemory pointer)) x.used
      (λ r. (let first : (a.value true r).size ≡ x.used = one.used r in omega (arith, first))) (λ r. (a.value true r).gives) (λ r. refl)

  pub address_row : (node : Node) (a : Lowered) (x : ExpressionExtent) → IsExtent a x → IsExtent (address node a) (sums.one_size node.of x.place)
  unfolding address
  address_row node a x one =
      (let same : (r : ℕ) → (a.place r >>> λ target. only (address_at target)).size ≡ x.place =
      λ r. (let first : (a.place r).size ≡ x.place = one.place r in omega (arith, first)) in
      no_place node (λ used r. a.place r >>> λ target. only (address_at target)) x.place x.place same same)

  pub plus_row : (node : Node) (a : Lowered) (x : ExpressionExtent) → IsExtent a x → IsExtent (plus node a) (sums.no_place node.of x.used x.unused)
  unfolding plus
  plus_row node a x one = no_place node a.value x.used x.unused one.used one.unused

  -- so many instructions behind an operand
  behind_operand : (node : Node) (a : Lowered) (x : ExpressionExtent) (operation : ℕ → Arg → Piece Arg) (n : ℕ)
      → ((r : ℕ) (v : Arg) → (operation r v).size ≡ n) → IsExtent a x → IsExtent (on_one node a operation) (sums.on_one node.of x n)
  behind_operand node a x operation n more one =
      (let same : (r : ℕ) → (a.value true r >>> operation r).size ≡ x.used + n =
      λ r.
      (let first : (a.value true r).size ≡ x.used = one.used r in
      (let second : (operation r (a.value true r).gives).size ≡ n = more r (a.value true r).gives in
      omega (arith, first, second))) in
      no_place node (λ used r. a.value true r >>> operation r) (x.used + n) (x.used + n) same same)

  -- so many with two operands
  behind_operands : (node : Node) (a b : Lowered) (x y : ExpressionExtent) (operation : ℕ → Arg → Arg → Piece Arg) (n : ℕ)
      → ((r : ℕ) (v u : Arg) → (operation r v u).size ≡ n) → IsExtent a x → IsExtent b y → IsExtent (on_two node a b operation) (sums.on_two node.of x y n)
  behind_operands node a b x y operation n more one two =
      (let same : (r : ℕ) → (a.value true r >>> behind_one b operation r).size ≡ x.used + y.used + n =
      λ r.
      (let first : (a.value true r).size ≡ x.used = one.used r in
      (let second : (b.value true (r + 1)).size ≡ y.used = two.used (r + 1) in
      (let third : (operation r (a.value true r).gives (b.value true (r + 1)).gives).size ≡ n = more r (a.value true r).gives (b.value true (r + 1)).gives in
      omega (arith, first, second, third)))) in
      no_place node (λ used r. a.value true r >>> behind_one b operation r) (x.used + y.used + n) (x.used + y.used + n) same same)

  pub unary_row : (node : Node) (op : Un) (kind : Kind) (a : Lowered) (x : ExpressionExtent) → IsExtent a x
      → IsExtent (unary program node op kind a) (sums.on_one node.of x 1)
  unfolding unary
  unary_row node op kind a x one = behind_operand node a x (unary_on program node.place op kind) 1 (λ r v. refl) one

  converted : (place : Place) (of : TType) (r : ℕ) (a : Arg) → (converts program place (kind_of of) r a).size ≡ sums.conversion_size of
  converted place ttype.Void r a = refl
  converted place (ttype.Number kind) r a = refl
  converted place (ttype.Pointer target) r a = refl

  pub convert_row : (node : Node) (a : Lowered) (x : ExpressionExtent) → IsExtent a x
      → IsExtent (convert program node a) (sums.on_one node.of x (sums.conversion_size node.of))
  unfolding convert
  convert_row node a x one = behind_operand node a x (converts program node.place (kind_of node.of)) (sums.conversion_size node.of) (converted node.place node.of) one

  -- a cast
  cast_used : (place : Place) (of : TType) (a : Lowered) (x : ExpressionExtent) → IsExtent a x → (r : ℕ) → (cast_to program place of a true r).size ≡ (sums.cast of x).used
  cast_used place ttype.Void a x one r = (let first : (a.value false r).size ≡ x.unused = one.unused r in omega (arith, first))
  cast_used place (ttype.Number kind) a x one r = (let first : (a.value true r).size ≡ x.used = one.used r in omega (arith, first))
  cast_used place (ttype.Pointer target) a x one r = one.used r

  cast_unused : (place : Place) (of : TType) (a : Lowered) (x : ExpressionExtent) → IsExtent a x → (r : ℕ) → (cast_to program place of a false r).size ≡ (sums.cast of x).unused
  cast_unused place ttype.Void a x one r = (let first : (a.value false r).size ≡ x.unused = one.unused r in omega (arith, first))
  cast_unused place (ttype.Number kind) a x one r = (let first : (a.value true r).size ≡ x.used = one.used r in omega (arith, first))
  cast_unused place (ttype.Pointer target) a x one r = one.unused r

  cast_place : (of : TType) (x : ExpressionExtent) → 0 ≡ (sums.cast of x).place
  cast_place ttype.Void x = refl
  cast_place (ttype.Number kind) x = refl
  cast_place (ttype.Pointer target) x = refl

  cast_register : (of : TType) (x : ExpressionExtent) → false ≡ (sums.cast of x).in_register
  cast_register ttype.Void x = refl
  cast_register (ttype.Number kind) x = refl
  cast_register (ttype.Pointer target) x = refl

  cast_of : (of : TType) (x : ExpressionExtent) → of ≡ (sums.cast of x).of
  cast_of ttype.Void x = refl
  cast_of (ttype.Number kind) x = refl
  cast_of (ttype.Pointer target) x = refl

  pub cast_row : (node : Node) (a : Lowered) (x : ExpressionExtent) → IsExtent a x → IsExtent (cast program node a) (sums.cast node.of x)
  unfolding cast
  cast_row node a x one = record {
    used = cast_used node.place node.of a x one;
    unused = cast_unused node.place node.of a x one;
    place = λ r. cast_place node.of x;
    in_register = λ r. cast_register node.of x;
    of = cast_of node.of x;
  }

  pub binary_row : (node : Node) (op : Bin) (kind : Kind) (a b : Lowered) (x y : ExpressionExtent) → IsExtent a x → IsExtent b y
      → IsExtent (binary program node op kind a b) (sums.on_two node.of x y 1)
  unfolding binary
  binary_row node op kind a b x y one two = behind_operands node a b x y (binary_on program node.place op kind) 1 (λ r v u. refl) one two

  pub compare_row : (node : Node) (op : Bin) (a b : Lowered) (x y : ExpressionExtent) → IsExtent a x → IsExtent b y
      → IsExtent (compare program node op a b) (sums.on_two node.of x y 1)
  unfolding compare
  compare_row node op a b x y one two = behind_operands node a b x y (compare_on program node.place op) 1 (λ r v u. refl) one two

  pub distance_row : (node : Node) (a b : Lowered) (x y : ExpressionExtent) → IsExtent a x → IsExtent b y
      → IsExtent (distance program node a b) (sums.on_two node.of x y 1)
  unfolding distance
  distance_row node a b x y one two = behind_operands node a b x y (distance_on program node.place (scale_of a.node.of)) 1 (λ r v u. refl) one two

  pub forward_row : (node : Node) (a b : Lowered) (x y : ExpressionExtent) → IsExtent a x → IsExtent b y
      → IsExtent (forward program node a b) (sums.on_two node.of x y 1)
  unfolding forward
  forward_row node a b x y one two = behind_operands node a b x y (offset program node.place false (scale_of node.of)) 1 (λ r v u. refl) one two

  pub back_row : (node : Node) (a b : Lowered) (x y : ExpressionExtent) → IsExtent a x → IsExtent b y
      → IsExtent (back program node a b) (sums.on_two node.of x y 1)
  unfolding back
  back_row node a b x y one two = behind_operands node a b x y (offset program node.place true (scale_of node.of)) 1 (λ r v u. refl) one two

  pub onto_row : (node : Node) (a b : Lowered) (x y : ExpressionExtent) → IsExtent a x → IsExtent b y
      → IsExtent (onto program node a b) (sums.on_two node.of x y 1)
  unfolding onto
  onto_row node a b x y one two = behind_operands node a b x y (offset_onto program node.place (scale_of node.of)) 1 (λ r v u. refl) one two

  -- `&&` and `||`
  tested : (place : Place) (decides : Bool) (to : Option ℕ) (a : Arg) (piece : Piece (Unit {0})) → (tests_before program place decides to a piece).size ≡ 1 + piece.size
  tested place false to a piece = refl
  tested place true to a piece = refl

  logical_row : (node : Node) (decides : Bool) (a b : Lowered) (x y : ExpressionExtent) → IsExtent a x → IsExtent b y
      → IsExtent (logical program node decides a b) (sums.on_two node.of x y 4)
  logical_row node decides a b x y one two =
      (let v : ℕ → Piece Arg = λ r.
      settled program node.place (a.value true r >>> λ c. tests_before program node.place decides (Some r) c (truth_of program node b r) >>> λ done. only (Reg r false)) in
      (let same : (r : ℕ) → (v r).size ≡ x.used + y.used + 4 =
      λ r.
      (let first : (a.value true r).size ≡ x.used = one.used r in
      (let second : (b.value true (r + 1)).size ≡ y.used = two.used (r + 1) in
      (let test : (tests_before program node.place decides (Some r) (a.value true r).gives (truth_of program node b r)).size ≡ 1 + ((b.value true (r + 1)).size + 1) =
      tested node.place decides (Some r) (a.value true r).gives (truth_of program node b r) in
      omega (arith, first, second, test)))) in
      no_place node (λ used r. v r) (x.used + y.used + 4) (x.used + y.used + 4) same same))

  pub both_row : (node : Node) (a b : Lowered) (x y : ExpressionExtent) → IsExtent a x → IsExtent b y → IsExtent (both program node a b) (sums.on_two node.of x y 4)
  unfolding both
  both_row node a b x y one two = logical_row node false a b x y one two

  pub either_row : (node : Node) (a b : Lowered) (x y : ExpressionExtent) → IsExtent a x → IsExtent b y
      → IsExtent (either program node a b) (sums.on_two node.of x y 4)
  unfolding either
  either_row node a b x y one two = logical_row node true a b x y one two

  -- `?:`
  arm_sized : (place : Place) (of : TType) (r : ℕ) (a : Lowered) (x : ExpressionExtent) → IsExtent a x → (arm program place of r a).size ≡ sums.arm_size of x
  arm_sized place ttype.Void r a x one = (let first : (a.value false r).size ≡ x.unused = one.unused r in omega (arith, first))
  arm_sized place (ttype.Number kind) r a x one = (let first : (a.value true r).size ≡ x.used = one.used r in omega (arith, first))
  arm_sized place (ttype.Pointer target) r a x one = (let first : (a.value true r).size ≡ x.used = one.used r in omega (arith, first))

  pub cond_row : (node : Node) (a b c : Lowered) (x y z : ExpressionExtent) → IsExtent a x → IsExtent b y → IsExtent c z
      → IsExtent (cond program node a b c) (sums.choice node.of x y z)
  unfolding cond
  cond_row node a b c x y z one two three =
      (let v : ℕ → Piece Arg = λ r.
      settled program node.place (a.value true r >>> λ t. chooses program node.place t (arm program node.place node.of r b) (arm program node.place node.of r c)) in
      (let n : ℕ = x.used + sums.arm_size node.of y + sums.arm_size node.of z + 4 in
      (let same : (r : ℕ) → (v r).size ≡ n =
      λ r.
      (let first : (a.value true r).size ≡ x.used = one.used r in
      (let second : (arm program node.place node.of r b).size ≡ sums.arm_size node.of y = arm_sized node.place node.of r b y two in
      (let third : (arm program node.place node.of r c).size ≡ sums.arm_size node.of z = arm_sized node.place node.of r c z three in
      omega (arith, first, second, third)))) in
      no_place node (λ used r. v r) n n same same)))

  pub comma_row : (node : Node) (a b : Lowered) (x y : ExpressionExtent) → IsExtent a x → IsExtent b y → IsExtent (comma node a b) (sums.comma node.of x y)
  unfolding comma
  comma_row node a b x y one two =
      no_place node (λ used r. a.value false r >>> λ v. b.value used r) (x.unused + y.used) (x.unused + y.unused)
      (λ r. (let first : (a.value false r).size ≡ x.unused = one.unused r in (let second : (b.value true r).size ≡ y.used = two.used r in omega (arith, first, second))))
      (λ r. (let first : (a.value false r).size ≡ x.unused = one.unused r in (let second : (b.value false r).size ≡ y.unused = two.unused r in omega (arith, first, second))))

  -- calls
  turned : (args : List Lowered) (xs : List ExpressionExtent) → AreExtents args xs → (r : ℕ) → (in_turn args r).size ≡ sums.total xs
  turned [] [] all r = refl
  turned [] (x ∷ xs) all r = absurd all
  turned (a ∷ args) [] all r = absurd all
  turned (a ∷ args) (x ∷ xs) all r =
      (let first : (a.value true r).size ≡ x.used = all.0.used r in
      (let rest : (in_turn args (r + 1)).size ≡ sums.total xs = turned args xs all.1 (r + 1) in
      omega (arith, first, rest)))

  pub getchar_row : (node : Node) → IsExtent (getchar program node) (sums.one_size node.of 1)
  unfolding getchar
  getchar_row node = record { used = λ r. refl; unused = λ r. refl; place = λ r. refl; in_register = λ r. refl; of = refl }

  pub putchar_row : (node : Node) (a : Lowered) (x : ExpressionExtent) → IsExtent a x → IsExtent (putchar program node a) (sums.on_one node.of x 1)
  unfolding putchar
  putchar_row node a x one = behind_operand node a x (puts_byte program node.place) 1 (λ r v. refl) one

  pub puts_row : (node : Node) (a : Lowered) → IsExtent (puts program node a) (sums.one_size node.of 1)
  unfolding puts
  puts_row node a = record { used = λ r. refl; unused = λ r. refl; place = λ r. refl; in_register = λ r. refl; of = refl }

  pub printf_row : (node : Node) (format : List Written) (args : List Lowered) (xs : List ExpressionExtent) → AreExtents args xs
      → IsExtent (printf program node format args) (sums.one_size node.of (sums.total xs + 1))
  unfolding printf
  printf_row node format args xs all = record {
    used = λ r. (let front : (in_turn args r).size ≡ sums.total xs = turned args xs all r in omega (arith, front));
    unused = λ r. (let front : (in_turn args r).size ≡ sums.total xs = turned args xs all r in omega (arith, front));
    place = λ r. refl;
    in_register = λ r. refl;
    of = refl;
  }

  pub call_row : (node : Node) (f : ℕ) (args : List Lowered) (xs : List ExpressionExtent) → AreExtents args xs
      → IsExtent (call program node f args) (sums.one_size node.of (sums.total xs + 3))
  unfolding call
  call_row node f args xs all = record {
    used = λ r. (let front : (in_turn args r).size ≡ sums.total xs = turned args xs all r in omega (arith, front));
    unused = λ r. (let front : (in_turn args r).size ≡ sums.total xs = turned args xs all r in omega (arith, front));
    place = λ r. refl;
    in_register = λ r. refl;
    of = refl;
  }

  -- assignments
  written : (place : Place) (used : Bool) (r : ℕ) (target : Designated) (a : Arg) → (writes program place used r target a).size ≡ 1
  written place used r (InRegister n broken) a = refl
  written place used r (InMemory address) a = refl

  pub assign_row : (node : Node) (a b : Lowered) (x y : ExpressionExtent) → IsExtent a x → IsExtent b y
      → IsExtent (assign program node a b) (sums.assign node.of x y)
  unfolding assign
  assign_row node a b x y one two =
      (let v : Bool → ℕ → Piece Arg = λ used r. a.place r >>> behind_place program node.place b used r in
      (let same : (used : Bool) (r : ℕ) → (v used r).size ≡ x.place + y.used + 1 =
      λ used r.
      (let first : (a.place r).size ≡ x.place = one.place r in
      (let second : (b.value true (r + 1)).size ≡ y.used = two.used (r + 1) in
      (let third : (writes program node.place used r (a.place r).gives (b.value true (r + 1)).gives).size ≡ 1 =
      written node.place used r (a.place r).gives (b.value true (r + 1)).gives in
      omega (arith, first, second, third)))) in
      no_place node v (x.place + y.used + 1) (x.place + y.used + 1) (same true) (same false)))

  -- conversions of a change
  between_sized : (place : Place) (from to : Kind) (r : ℕ) (a : Arg) → (converts_between program place from to r a).size ≡ sums.between_size from to
  between_sized place from to r a = by (same_kind from to)
    where
      by : (b : Bool) → (if b then only a else converts program place (Some to) r a).size ≡ (if b then 0 else 1)
      by true = refl
      by false = refl

  side_sized : (place : Place) (from : Option Kind) (to : Kind) (r : ℕ) (a : Arg) → (converts_side program place from to r a).size ≡ sums.side_size from to
  side_sized place None to r a = refl
  side_sized place (Some from) to r a = between_sized place from to r a

  back_sized : (place : Place) (from : Kind) (to : Option Kind) (r : ℕ) (a : Arg) → (converts_back program place from to r a).size ≡ sums.back_size from to
  back_sized place from None r a = refl
  back_sized place from (Some to) r a = between_sized place from to r a

  combined_sized : (place : Place) (op : Bin) (kind : Kind) (of by_of : Option Kind) (r : ℕ) (old by : Arg)
      → (combined program place op kind of by_of r old by).size ≡ sums.combined_size op kind of by_of
  combined_sized place op kind of by_of r old by =
      (let a : Piece Arg = converts_side program place of kind (r + 1) old in
      (let b : Piece Arg = converts_side program place by_of (side_kind op kind by_of) (r + 2) by in
      (let first : a.size ≡ sums.side_size of kind = side_sized place of kind (r + 1) old in
      (let second : b.size ≡ sums.side_size by_of (side_kind op kind by_of) = side_sized place by_of (side_kind op kind by_of) (r + 2) by in
      (let third : (converts_back program place kind of (r + 1) (Reg (r + 1) false)).size ≡ sums.back_size kind of =
      back_sized place kind of (r + 1) (Reg (r + 1) false) in
      omega (arith, first, second, third))))))

  changed_sized : (place : Place) (change : Change) (of : TType) (by_of : Option Kind) (r : ℕ) (old by : Arg)
      → (changed program place change of by_of r old by).size ≡ sums.change_size change of by_of
  changed_sized place (change.Number op kind) of by_of r old by = combined_sized place op kind (kind_of of) by_of r old by
  changed_sized place change.Forward of by_of r old by = refl
  changed_sized place change.Back of by_of r old by = refl

  changes_sized : (node : Node) (change : Change) (by_of : Option Kind) (used : Bool) (r : ℕ) (target : Designated) (by old : Arg)
      → (changes program node change by_of used r target by old).size ≡ sums.change_size change node.of by_of + 1
  changes_sized node change by_of used r target by old =
      (let made : Piece Arg = changed program node.place change node.of by_of (r + 1) old by in
      (let first : made.size ≡ sums.change_size change node.of by_of = changed_sized node.place change node.of by_of (r + 1) old by in
      (let second : (writes program node.place used r target made.gives).size ≡ 1 = written node.place used r target made.gives in
      omega (arith, first, second))))

  old_sized : (place : Place) (r : ℕ) (target : Designated) → (old_value program place r target).size ≡ sums.old_size (stands_in_register target)
  old_sized place r (InRegister n broken) = refl
  old_sized place r (InMemory address) = refl

  changing_sized : (node : Node) (change : Change) (by_of : Option Kind) (used : Bool) (r : ℕ) (target : Designated) (by : Arg) (register : Bool)
      → stands_in_register target ≡ register → (changes_old program node change by_of used r target by).size ≡ sums.changing_size change node.of register by_of
  changing_sized node change by_of used r target by register is =
      (let old : Piece Arg = old_value program node.place (r + 2) target in
      (let first : old.size ≡ sums.old_size register = old_sized node.place (r + 2) target ∙ ap sums.old_size is in
      (let second : (changes program node change by_of used r target by old.gives).size ≡ sums.change_size change node.of by_of + 1 =
      changes_sized node change by_of used r target by old.gives in
      omega (arith, first, second))))

  pub assign_by_row : (node : Node) (change : Change) (a b : Lowered) (x y : ExpressionExtent) → IsExtent a x → IsExtent b y
      → IsExtent (assign_by program node change a b) (sums.assign_by node.of change x y)
  unfolding assign_by
  assign_by_row node change a b x y one two =
      (let n : ℕ = x.place + y.used + sums.changing_size change node.of x.in_register (kind_of y.of) in
      (let v : Bool → ℕ → Piece Arg = λ used r. a.place r >>> behind_changed program node change b used r in
      (let same : (used : Bool) (r : ℕ) → (v used r).size ≡ n =
      λ used r.
      (let first : (a.place r).size ≡ x.place = one.place r in
      (let second : (b.value true (r + 1)).size ≡ y.used = two.used (r + 1) in
      (let third : (changes_old program node change (kind_of b.node.of) used r (a.place r).gives (b.value true (r + 1)).gives).size
      ≡ sums.changing_size change node.of x.in_register (kind_of y.of) =
      changing_sized node change (kind_of b.node.of) used r (a.place r).gives (b.value true (r + 1)).gives x.in_register (one.in_register r)
      ∙ ap (λ (of : TType). sums.changing_size change node.of x.in_register (kind_of of)) two.of in
      omega (arith, first, second, third)))) in
      no_place node v n n (same true) (same false))))

  pub pre_row : (node : Node) (change : Change) (a : Lowered) (x : ExpressionExtent) → IsExtent a x
      → IsExtent (pre program node change a) (sums.pre node.of change x)
  unfolding pre
  pre_row node change a x it =
      (let n : ℕ = x.place + sums.changing_size change node.of x.in_register None in
      (let v : Bool → ℕ → Piece Arg = λ used r. a.place r >>> λ target. changes_old program node change None used r target one in
      (let same : (used : Bool) (r : ℕ) → (v used r).size ≡ n =
      λ used r.
      (let first : (a.place r).size ≡ x.place = it.place r in
      (let second : (changes_old program node change None used r (a.place r).gives one).size ≡ sums.changing_size change node.of x.in_register None =
      changing_sized node change None used r (a.place r).gives one x.in_register (it.in_register r) in
      omega (arith, first, second))) in
      no_place node v n n (same true) (same false))))

  pub post_row : (node : Node) (change : Change) (a : Lowered) (x : ExpressionExtent) → IsExtent a x
      → IsExtent (post program node change a) (sums.post node.of change x)
  unfolding post
  post_row node change a x it =
      (let n : ℕ = x.place + sums.changing_size change node.of x.in_register None in
      (let v : Bool → ℕ → Piece Arg = λ used r. a.place (r + 1) >>> after_place program node change used r in
      no_place node v (n + 1) n
      (λ r.
      (let target : Designated = (a.place (r + 1)).gives in
      (let old : Piece Arg = old_value program node.place (r + 3) target in
      (let first : (a.place (r + 1)).size ≡ x.place = it.place (r + 1) in
      (let second : old.size ≡ sums.old_size x.in_register = old_sized node.place (r + 3) target ∙ ap sums.old_size (it.in_register (r + 1)) in
      (let third : (changes program node change None false (r + 1) target one old.gives).size ≡ sums.change_size change node.of None + 1 =
      changes_sized node change None false (r + 1) target one old.gives in
      omega (arith, first, second, third)))))))
      (λ r.
      (let target : Designated = (a.place (r + 1)).gives in
      (let old : Piece Arg = old_value program node.place (r + 3) target in
      (let first : (a.place (r + 1)).size ≡ x.place = it.place (r + 1) in
      (let second : old.size ≡ sums.old_size x.in_register = old_sized node.place (r + 3) target ∙ ap sums.old_size (it.in_register (r + 1)) in
      (let third : (changes program node change None false (r + 1) target one old.gives).size ≡ sums.change_size change node.of None + 1 =
      changes_sized node change None false (r + 1) target one old.gives in
      omega (arith, first, second, third)))))))))
