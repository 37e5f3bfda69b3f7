-- What acts give and leave, where their operands are what they should be.
use Rattle.std.proofs.Common.{◌≡◌, ℕ, zero, suc, ◌+◌, ◌≤◌, ◌<◌, ℤ, pos, negsuc, IsTrue, IfOk, Bool, true, false, if◌then◌else◌, List, [], ◌∷◌, ◌++◌, length, map, slice_get, Option, Some, None, Result, Ok, Err, refl, sym, subst, arith, inl, inr, length-append}
use Rattle.std.specs.Prelude.{◌/◌, ◌%◌, ◌==◌, not, int_lt, int_le}
use Rattle.std.specs.Fmt.{digit_glyph, digits, digits_onto}
use Rattle.std.specs.Ordering.{int_eq}
use Rattle.std.proofs.lemmas.Int.{ints}
use Rattle.k_num.specs.declared.numbers.Bin.{Bin}
use Rattle.k_num.specs.declared.numbers.Bin.TheVariants.{Lt, Le, Gt, Ge, Ne}
use Rattle.k_num.specs.declared.numbers.Kind.{Kind}
use Rattle.k_num.specs.declared.numbers.Kind.TheVariants.{I8, U8, I16, U16, I32, U32, I64, U64}
use Rattle.k_num.specs.declared.numbers.Un.TheVariants.{Not}
use Rattle.k_num.specs.Arithmetic.{value, unary_value, truth, is_zero}
use Rattle.k_num.specs.ArithmeticLaws.{IsTruth, gives_number}
use Rattle.k_num.specs.Kind.{is_held, converted, remainder}
use Rattle.k_num.proofs.ArithmeticLaws.{truth_value, truth_not}
use Rattle.k_num.proofs.KindLaws.{zero_held, remainder_below}
use Rattle.k_ending.specs.declared.ending.Trap.{Trap}
use Rattle.k_ending.specs.Traps.{trap_of}
use Rattle.k_mem.specs.declared.fault.MemTrap.{MemTrap}
use Rattle.k_mem.specs.declared.pointer.Pointer.{Pointer}
use Rattle.k_mem.specs.Memory.{Memory}
use Rattle.k_mem.specs.Calls.{load_of, store_of, shift_of, order_of, same_of}
use Rattle.k_types_meaning.specs.declared.tree.expression.Piece.{Piece}
use Rattle.k_types_meaning.specs.declared.tree.expression.Piece.TheVariants as piece
use Rattle.k_types_meaning.specs.declared.tree.expression.Written.{Written}
use Rattle.k_types_meaning.specs.declared.tree.expression.Written.TheVariants as written
use Rattle.k_world.specs.declared.act.Act.{Act}
use Rattle.k_world.specs.declared.act.Act.TheVariants as act
use Rattle.k_world.specs.declared.act.Chunk.TheVariants as chunk
use Rattle.k_world.specs.declared.act.Out.TheVariants as out
use Rattle.k_world.specs.declared.value.Held.{Held}
use Rattle.k_world.specs.declared.value.Read.{Read}
use Rattle.k_world.specs.declared.value.Value.{Value}
use Rattle.k_world.specs.declared.value.Value.TheVariants as valued
use Rattle.k_world.specs.Acts.{Given, work, effect, given_by, then_given, trap_of_memory, distance, offset_work, compared, compare_work, distance_work, load_work, store_work, next_byte, test_work, output_value, one_number, two_numbers, one_pointer, pointer_and_number, two_pointers, one_value, binary_work, unary_work, right_kind, store_effect, output_effect, behind_byte, first_number, behind_value, argument_before, bytes_before, conversion_bytes, formatted}
use Rattle.k_world.specs.Acts as acts
use Rattle.k_world.specs.Operands.{values_of}
use Rattle.k_world.specs.WorldLaws.{AreBytes}
use Rattle.k_world.specs.Worlds.{World}
use Rattle.k_world_laws.specs.Laws.{IsNumberOf, kind_of_act}
use Rattle.k_world_laws.proofs.Results.{results_are_held}
use Rattle.k_evaluation.specs.Library.{chunk_of, conversion_of}
use Rattle.k_evaluation_laws.proofs.Ranges.{most_written}
use Rattle.k_evaluation_laws.specs.Kinds.{Sort, NoValue, ANumber, APointer, kind_in, PointsInto, IsValue, IsRightWorld, AreObjectsOf}
use Rattle.k_evaluation_laws.proofs.Memory.{load_right, shift_right, order_right, store_right}

-- what a slot holds, if anything, is like this
abbrev pub IfHeld : (Value → Type 0) → Option Held → Type 0
IfHeld P None = Unit {0}
IfHeld P (Some held) = P held.value

-- a pointer is one to an element of a kind
abbrev pub IsAddress : List Kind → Kind → Value → Type 0
IsAddress kinds kind (valued.Number z) = Unit {0}
IsAddress kinds kind (valued.Pointer p) = slice_get kinds p.object ≡ Some kind

pub address_of_pointer : (kinds : List Kind) (kind : Kind) (v : Value) → IsValue kinds (APointer kind) v → IsAddress kinds kind v
address_of_pointer kinds kind (valued.Number z) h = tt
address_of_pointer kinds kind (valued.Pointer p) h = h.0

pub held_so : (P Q : Value → Type 0) (slot : Option Held) → ((v : Value) → P v → Q v) → IfHeld P slot → IfHeld Q slot
held_so P Q None so h = tt
held_so P Q (Some held) so h = so held.value h

-- a number of 0 or 1 is one of each kind
one_held : (kind : Kind) → IsTrue (is_held kind (pos 1))
one_held I8 = refl
one_held U8 = refl
one_held I16 = refl
one_held U16 = refl
one_held I32 = refl
one_held U32 = refl
one_held I64 = refl
one_held U64 = refl

pub truth_held : (kind : Kind) (b : Bool) → IsTrue (is_held kind (truth b))
truth_held kind true = one_held kind
truth_held kind false = zero_held kind

is_truth_held : (kind : Kind) (z : ℤ) → IsTruth z → IsTrue (is_held kind z)
is_truth_held kind z (inl none) = subst (λ (n : ℤ). IsTrue (is_held kind n)) (sym none) (zero_held kind)
is_truth_held kind z (inr one) = subst (λ (n : ℤ). IsTrue (is_held kind n)) (sym one) (one_held kind)

-- WHAT COMES OF A RESULT
pub given_ok : {A E : Type 0} (P : A → Type 0) (Q : Value → Type 0) (t : E → Trap) (f : A → Value) (r : Result A E) → ((a : A) → P a → Q (f a)) → IfOk r P → IfOk (then_given t f r) Q
given_ok P Q t f (Ok a) so h = so a h
given_ok P Q t f (Err e) so h = tt

-- whatever the result is
any_ok : {A : Type 0} (r : Result A Trap) → IfOk r (λ a. Unit {0})
any_ok (Ok a) = tt
any_ok (Err t) = tt

pub by_operands : {A : Type 0} (Q : Value → Type 0) (f : A → Given) (o : Option A) → ((a : A) → o ≡ Some a → IfOk (f a) Q) → IfOk (given_by f o) Q
by_operands Q f None each = tt
by_operands Q f (Some a) each = each a refl

-- a number is one of the kind, if it is stored
abbrev pub IsStored : Kind → Value → Type 0
IsStored kind (valued.Number z) = IsTrue (is_held kind z)
IsStored kind (valued.Pointer p) = Unit {0}

-- so is each value of a sort, where that has values
pub stored_value : (kinds : List Kind) (s : Sort) (v : Value) → (s ≡ NoValue → ⊥) → IsValue kinds s v → IsStored (kind_in s) v
stored_value kinds NoValue v some h = absurd (some refl)
stored_value kinds (ANumber kind) (valued.Number z) some h = h
stored_value kinds (ANumber kind) (valued.Pointer p) some h = tt
stored_value kinds (APointer kind) (valued.Number z) some h = h
stored_value kinds (APointer kind) (valued.Pointer p) some h = tt

-- and a number of its kind is a value of the sort
pub number_value : (kinds : List Kind) (s : Sort) (v : Value) → IsValue kinds (ANumber (kind_in s)) v → IsValue kinds s v
number_value kinds NoValue v h = tt
number_value kinds (ANumber kind) v h = h
number_value kinds (APointer kind) (valued.Number z) h = h
number_value kinds (APointer kind) (valued.Pointer p) h = absurd h

pub ok_so : {A : Type 0} (P Q : A → Type 0) (r : Result A Trap) → ((a : A) → P a → Q a) → IfOk r P → IfOk r Q
ok_so P Q (Ok a) so h = so a h
ok_so P Q (Err t) so h = tt

-- what a store writes: a number of the kind, where it points to an element
abbrev pub IsWrite : List Kind → Kind → Option (Pointer × ℤ) → Type 0
IsWrite kinds kind None = Unit {0}
IsWrite kinds kind (Some s) = (slice_get kinds s.0.object ≡ Some kind) × IsTrue (is_held kind s.1)

pub is_write : (kinds : List Kind) (kind : Kind) (a b : Read) → IfHeld (IsAddress kinds kind) a.slot → IfHeld (IsStored kind) b.slot → IsWrite kinds kind (pointer_and_number (values_of (a ∷ b ∷ [])))
is_write kinds kind a b h g = by a.slot b.slot h g
  where
    values : (u v : Value) → IsAddress kinds kind u → IsStored kind v → IsWrite kinds kind (pointer_and_number (u ∷ v ∷ []))
    values (valued.Number y) v one two = tt
    values (valued.Pointer p) (valued.Number z) one two = (one, two)
    values (valued.Pointer p) (valued.Pointer q) one two = tt

    by : (x y : Option Held) → IfHeld (IsAddress kinds kind) x → IfHeld (IsStored kind) y
        → IsWrite kinds kind (pointer_and_number (values_of (record { slot = x; broken = a.broken } ∷ record { slot = y; broken = b.broken } ∷ [])))
    by None None one two = tt
    by None (Some y) one two = tt
    by (Some x) None one two = tt
    by (Some x) (Some y) one two = values x.value y.value one two

-- THE COUNT OF BYTES that a format writes
before_short : (bytes : List ℕ) (r : Result (List ℕ) Trap) (m n : ℕ) → length bytes ≤ m → IfOk r (λ b. length b ≤ n) → IfOk (bytes_before bytes r) (λ b. length b ≤ m + n)
before_short bytes (Ok more) m n h k = let sum : length (bytes ++ more) ≡ length bytes + length more = length-append bytes more in omega (arith, sum, h, k)
before_short bytes (Err t) m n h k = tt

onto_short : (base : ℕ) (upper : Bool) (k n : ℕ) (rest : List ℕ) → length (digits_onto k base upper n rest) ≤ k + length rest
onto_short base upper zero n rest = omega arith
onto_short base upper (suc k) n rest = by (n / base == 0) (onto_short base upper k (n / base) (digit_glyph upper (n % base) ∷ rest))
  where
    by : (b : Bool) → length (digits_onto k base upper (n / base) (digit_glyph upper (n % base) ∷ rest)) ≤ k + suc (length rest)
        → length (if b then digit_glyph upper (n % base) ∷ rest else digits_onto k base upper (n / base) (digit_glyph upper (n % base) ∷ rest)) ≤ suc k + length rest
    by true more = omega arith
    by false more = omega (arith, more)

digits_short : (base : ℕ) (upper : Bool) (n : ℕ) → length (digits base upper n) ≤ 64
unfolding digits
digits_short base upper n = onto_short base upper 64 n []

conversion_short : (how : Written) (z : ℤ) → length (conversion_bytes (conversion_of how) z) ≤ 65
conversion_short written.Byte z = omega arith
conversion_short written.Decimal (pos n) = let few : length (digits 10 false n) ≤ 64 = digits_short 10 false n in omega (arith, few)
conversion_short written.Decimal (negsuc n) = let few : length (digits 10 false (suc n)) ≤ 64 = digits_short 10 false (suc n) in omega (arith, few)
conversion_short written.Hex z = let few : length (digits 16 false (remainder U64 z)) ≤ 64 = digits_short 16 false (remainder U64 z) in omega (arith, few)

argument_short : (how : Written) (o : Option ℤ) (r : Result (List ℕ) Trap) (n : ℕ) → IfOk r (λ b. length b ≤ n) → IfOk (argument_before (conversion_of how) o r) (λ b. length b ≤ 65 + n)
argument_short how None r n h = tt
argument_short how (Some z) r n h = before_short (conversion_bytes (conversion_of how) z) r 65 n (conversion_short how z) h

formatted_short : (format : List Piece) (values : List Value) → IfOk (formatted (map chunk_of format) values) (λ bytes. length bytes ≤ most_written format)
formatted_short [] values = omega arith
formatted_short (piece.Bytes bytes ∷ format) values =
    before_short bytes (formatted (map chunk_of format) values) (length bytes) (most_written format) (omega arith) (formatted_short format values)
formatted_short (piece.Argument written.Byte ∷ format) values =
    argument_short written.Byte (first_number values) (formatted (map chunk_of format) (behind_value values)) (most_written format) (formatted_short format (behind_value values))
formatted_short (piece.Argument written.Decimal ∷ format) values =
    argument_short written.Decimal (first_number values) (formatted (map chunk_of format) (behind_value values)) (most_written format) (formatted_short format (behind_value values))
formatted_short (piece.Argument written.Hex ∷ format) values =
    argument_short written.Hex (first_number values) (formatted (map chunk_of format) (behind_value values)) (most_written format) (formatted_short format (behind_value values))

-- WORLDS behind an effect
bytes_behind : (input : List ℕ) → AreBytes input → AreBytes (behind_byte input)
bytes_behind [] h = tt
bytes_behind (b ∷ input) h = h.1

stored_world : (kinds : List Kind) (w : World) (kind : Kind) (number : ℕ) (o : Option (Pointer × ℤ)) → IsWrite kinds kind o → IsRightWorld kinds w → IsRightWorld kinds (store_effect number o w)
stored_world kinds w kind number None one h = h
stored_world kinds w kind number (Some s) one h = record { objects = store_right kinds w.memory s.0 s.1 kind h.objects one.0 one.1; made = h.made; input = h.input }

output_world : (kinds : List Kind) (w : World) (number : ℕ) (r : Result (List ℕ) Trap) → IsRightWorld kinds w → IsRightWorld kinds (output_effect number r w)
output_world kinds w number (Ok bytes) h = record { objects = h.objects; made = h.made; input = h.input }
output_world kinds w number (Err t) h = h

-- what a store writes is of the kind of its object
abbrev pub WritesRight : List Kind → Act → List Value → Type 0
WritesRight kinds act.Store values = (kind : Kind) × IsWrite kinds kind (pointer_and_number values)
WritesRight kinds _ values = Unit {0}

module _ (kinds : List Kind) (w : World) where
  -- ACTS IN A KIND
  pub number_given : (what : Act) (kind : Kind) (values : List Value) → kind_of_act what ≡ Some kind → IfOk (work what values w) (IsValue kinds (ANumber kind))
  number_given what kind values is = so (work what values w) (results_are_held what kind values w is)
    where
      of : (v : Value) → IsNumberOf kind v → IsValue kinds (ANumber kind) v
      of (valued.Number z) h = h
      of (valued.Pointer p) h = absurd h

      so : (r : Given) → IfOk r (IsNumberOf kind) → IfOk r (IsValue kinds (ANumber kind))
      so (Ok v) h = of v h
      so (Err t) h = tt

  -- a test gives 0 or 1, which each kind holds
  pub binary_truth : (op : Bin) (kind to : Kind) (values : List Value) → gives_number op ≡ false → IfOk (work (act.Binary op kind) values w) (IsValue kinds (ANumber to))
  unfolding work
  binary_truth op kind to values is =
      by_operands (IsValue kinds (ANumber to)) (λ n. binary_work op kind n.0 n.1) (two_numbers values)
      (λ n found. given_ok IsTruth (IsValue kinds (ANumber to)) trap_of valued.Number (value op kind (converted kind n.0) (converted (right_kind op kind) n.1)) (λ z one. is_truth_held to z one)
      (truth_value op kind (converted kind n.0) (converted (right_kind op kind) n.1) is))

  pub not_truth : (kind to : Kind) (values : List Value) → IfOk (work (act.Unary Not kind) values w) (IsValue kinds (ANumber to))
  unfolding work
  not_truth kind to values =
      by_operands (IsValue kinds (ANumber to)) (unary_work Not kind) (one_number values)
      (λ a found. given_ok IsTruth (IsValue kinds (ANumber to)) trap_of valued.Number (unary_value Not kind (converted kind a)) (λ z one. is_truth_held to z one) (truth_not kind (converted kind a)))

  pub test_given : (to : Kind) (values : List Value) → IfOk (work act.Test values w) (IsValue kinds (ANumber to))
  unfolding work
  test_given to values = by_operands (IsValue kinds (ANumber to)) test_work (one_number values) (λ a found. truth_held to (not (is_zero a)))

  -- POINTERS
  compared_held : (op : Bin) (d : ℤ) (to : Kind) → IsValue kinds (ANumber to) (compared op d)
  compared_held Lt d to = truth_held to (int_lt d (pos 0))
  compared_held Le d to = truth_held to (int_le d (pos 0))
  compared_held Gt d to = truth_held to (int_lt (pos 0) d)
  compared_held Ge d to = truth_held to (int_le (pos 0) d)
  compared_held op d to = truth_held to (int_eq d (pos 0))

  any_order : (op : Bin) (to : Kind) (r : Result ℤ MemTrap) → IfOk (then_given trap_of_memory (compared op) r) (IsValue kinds (ANumber to))
  any_order op to (Ok d) = compared_held op d to
  any_order op to (Err t) = tt

  any_same : (to : Kind) (r : Result Bool MemTrap) → IfOk (then_given trap_of_memory (λ same. valued.Number (truth same)) r) (IsValue kinds (ANumber to))
  any_same to (Ok b) = truth_held to b
  any_same to (Err t) = tt

  any_other : (to : Kind) (r : Result Bool MemTrap) → IfOk (then_given trap_of_memory (λ same. valued.Number (truth (not same))) r) (IsValue kinds (ANumber to))
  any_other to (Ok b) = truth_held to (not b)
  any_other to (Err t) = tt

  compare_work_held : (op : Bin) (m : Memory) (p q : Pointer) (to : Kind) → IfOk (compare_work op m p q) (IsValue kinds (ANumber to))
  compare_work_held Lt m p q to = any_order Lt to (order_of m p q)
  compare_work_held Le m p q to = any_order Le to (order_of m p q)
  compare_work_held Gt m p q to = any_order Gt to (order_of m p q)
  compare_work_held Ge m p q to = any_order Ge to (order_of m p q)
  compare_work_held Ne m p q to = any_other to (same_of m p q)
  compare_work_held op m p q to = any_same to (same_of m p q)

  pub compare_given : (op : Bin) (to : Kind) (values : List Value) → IfOk (work (act.PtrCompare op) values w) (IsValue kinds (ANumber to))
  unfolding work
  compare_given op to values = by_operands (IsValue kinds (ANumber to)) (λ p. compare_work op w.memory p.0 p.1) (two_pointers values) (λ p found. compare_work_held op w.memory p.0 p.1 to)

  module _ (right : AreObjectsOf kinds w.memory.live) where
    -- a pointer that is moved
    pub offset_given : (minus : Bool) (scale : ℕ) (kind : Kind) (a b : Read) → IfHeld (IsValue kinds (APointer kind)) a.slot
        → IfOk (work (act.Offset minus scale) (values_of (a ∷ b ∷ [])) w) (IsValue kinds (APointer kind))
    unfolding work
    offset_given minus scale kind a b h = by a.slot b.slot h
      where
        moved : (p : Pointer) (z : ℤ) → PointsInto kinds kind p → IfOk (offset_work minus scale w.memory p z) (IsValue kinds (APointer kind))
        moved p z one =
            given_ok (PointsInto kinds kind) (IsValue kinds (APointer kind)) trap_of_memory valued.Pointer (shift_of w.memory p (distance minus scale z)) (λ q to. to)
            (shift_right kinds w.memory p (distance minus scale z) kind right one.0)

        values : (u v : Value) → IsValue kinds (APointer kind) u
            → IfOk (given_by (λ n. offset_work minus scale w.memory n.0 n.1) (pointer_and_number (u ∷ v ∷ []))) (IsValue kinds (APointer kind))
        values (valued.Number y) v one = tt
        values (valued.Pointer p) (valued.Number z) one = moved p z one
        values (valued.Pointer p) (valued.Pointer q) one = tt

        by : (x y : Option Held) → IfHeld (IsValue kinds (APointer kind)) x
            → IfOk (given_by (λ n. offset_work minus scale w.memory n.0 n.1) (pointer_and_number (values_of (record { slot = x; broken = a.broken } ∷ record { slot = y; broken = b.broken } ∷ []))))
            (IsValue kinds (APointer kind))
        by None None one = tt
        by None (Some y) one = tt
        by (Some x) None one = tt
        by (Some x) (Some y) one = values x.value y.value one

    -- the difference of two
    pub distance_given : (scale : ℕ) (j k : Kind) (a b : Read) → IfHeld (IsValue kinds (APointer j)) a.slot → IfHeld (IsValue kinds (APointer k)) b.slot
        → IfOk (work (act.PtrDistance scale) (values_of (a ∷ b ∷ [])) w) (IsValue kinds (ANumber I64))
    unfolding work
    distance_given scale j k a b h g = by a.slot b.slot h g
      where
        far : (p q : Pointer) → PointsInto kinds j p → PointsInto kinds k q → IfOk (distance_work scale w.memory p q) (IsValue kinds (ANumber I64))
        far p q one two =
            given_ok _ (IsValue kinds (ANumber I64)) trap_of_memory _ (order_of w.memory p q) (λ d to. to) (order_right w.memory p q scale one.1 two.1)

        values : (u v : Value) → IsValue kinds (APointer j) u → IsValue kinds (APointer k) v
            → IfOk (given_by (λ p. distance_work scale w.memory p.0 p.1) (two_pointers (u ∷ v ∷ []))) (IsValue kinds (ANumber I64))
        values (valued.Number y) v one two = tt
        values (valued.Pointer p) (valued.Number z) one two = tt
        values (valued.Pointer p) (valued.Pointer q) one two = far p q one two

        by : (x y : Option Held) → IfHeld (IsValue kinds (APointer j)) x → IfHeld (IsValue kinds (APointer k)) y
            → IfOk (given_by (λ p. distance_work scale w.memory p.0 p.1) (two_pointers (values_of (record { slot = x; broken = a.broken } ∷ record { slot = y; broken = b.broken } ∷ []))))
            (IsValue kinds (ANumber I64))
        by None None one two = tt
        by None (Some y) one two = tt
        by (Some x) None one two = tt
        by (Some x) (Some y) one two = values x.value y.value one two

    -- ELEMENTS
    -- a load gives a number of the kind of its object
    pub load_given : (kind : Kind) (a : Read) → IfHeld (IsAddress kinds kind) a.slot → IfOk (work act.Load (values_of (a ∷ [])) w) (IsValue kinds (ANumber kind))
    unfolding work
    load_given kind a h = by a.slot h
      where
        values : (u : Value) → IsAddress kinds kind u → IfOk (given_by (load_work w.memory) (one_pointer (u ∷ []))) (IsValue kinds (ANumber kind))
        values (valued.Number z) one = tt
        values (valued.Pointer p) one =
            given_ok _ (IsValue kinds (ANumber kind)) trap_of_memory _ (load_of w.memory p) (λ found to. to) (load_right kinds w.memory p kind right one)

        by : (x : Option Held) → IfHeld (IsAddress kinds kind) x → IfOk (given_by (load_work w.memory) (one_pointer (values_of (record { slot = x; broken = a.broken } ∷ [])))) (IsValue kinds (ANumber kind))
        by None one = tt
        by (Some x) one = values x.value one

  -- its value is that number
  pub store_given : (kind : Kind) (values : List Value) → IsWrite kinds kind (pointer_and_number values) → IfOk (work act.Store values w) (IsValue kinds (ANumber kind))
  unfolding work
  store_given kind values h = by (pointer_and_number values) h
    where
      so : (z : ℤ) (r : Result ℕ MemTrap) → IsTrue (is_held kind z) → IfOk (then_given trap_of_memory (λ element. valued.Number z) r) (IsValue kinds (ANumber kind))
      so z (Ok n) one = one
      so z (Err t) one = tt

      by : (o : Option (Pointer × ℤ)) → IsWrite kinds kind o → IfOk (given_by (λ n. store_work w.memory n.0 n.1) o) (IsValue kinds (ANumber kind))
      by None one = tt
      by (Some s) one = so s.1 (store_of w.memory s.0) one.1

  -- MOVES
  pub move_given : (s : Sort) (a : Read) → IfHeld (IsValue kinds s) a.slot → IfOk (work act.Move (values_of (a ∷ [])) w) (IsValue kinds s)
  unfolding work
  move_given s a h = by a.slot h
    where
      by : (x : Option Held) → IfHeld (IsValue kinds s) x → IfOk (given_by (λ v. Ok v) (one_value (values_of (record { slot = x; broken = a.broken } ∷ [])))) (IsValue kinds s)
      by None one = tt
      by (Some x) one = one

  -- a call
  pub call_given : (values : List Value) → IfOk (work act.Call values w) (IsValue kinds NoValue)
  unfolding work
  call_given values = tt

  -- INPUT AND OUTPUT
  minus_one : IsTrue (is_held I32 (negsuc 0))
  minus_one = refl

  byte_held : (b : ℕ) → b < 256 → IsTrue (is_held I32 (pos b))
  byte_held b below = grind (arith, ints)

  pub input_given : (values : List Value) → AreBytes w.input → IfOk (work act.Input values w) (IsValue kinds (ANumber I32))
  unfolding work
  input_given values bytes = by w.input bytes
    where
      by : (input : List ℕ) → AreBytes input → IsValue kinds (ANumber I32) (next_byte input)
      by [] h = minus_one
      by (b ∷ input) h = byte_held b h.0

  pub putchar_given : (values : List Value) → IfOk (work (act.Output out.Byte) values w) (IsValue kinds (ANumber I32))
  unfolding work
  putchar_given values = by (first_number values)
    where
      by : (o : Option ℤ) → IfOk (then_given (λ t. t) (output_value out.Byte) (argument_before chunk.Byte o (Ok []))) (IsValue kinds (ANumber I32))
      by None = tt
      by (Some z) = byte_held (remainder U8 z) (remainder_below U8 z)

  pub puts_given : (bytes : List ℕ) (values : List Value) → IfOk (work (act.Output (out.Line bytes)) values w) (IsValue kinds (ANumber I32))
  unfolding work
  puts_given bytes values = zero_held I32

  count_held : (n most : ℕ) → n ≤ most → most ≤ 2147483647 → IsTrue (is_held I32 (pos n))
  count_held n most few short = grind (arith, ints)

  pub printf_given : (format : List Piece) (values : List Value) → most_written format ≤ 2147483647
      → IfOk (work (act.Output (out.Format (map chunk_of format))) values w) (IsValue kinds (ANumber I32))
  unfolding work
  printf_given format values short =
      given_ok (λ bytes. length bytes ≤ most_written format) (IsValue kinds (ANumber I32)) (λ t. t) (output_value (out.Format (map chunk_of format))) (formatted (map chunk_of format) values)
      (λ bytes few. count_held (length bytes) (most_written format) few short) (formatted_short format values)

  -- WHAT ACTS LEAVE
  pub effect_right : (what : Act) (number : ℕ) (values : List Value) → WritesRight kinds what values → IsRightWorld kinds w → IsRightWorld kinds (effect what number values w)
  unfolding effect
  effect_right (act.Binary op kind) number values one h = h
  effect_right (act.Unary op kind) number values one h = h
  effect_right (act.Convert kind) number values one h = h
  effect_right act.Move number values one h = h
  effect_right (act.Offset minus scale) number values one h = h
  effect_right (act.PtrCompare op) number values one h = h
  effect_right (act.PtrDistance scale) number values one h = h
  effect_right act.Load number values one h = h
  effect_right act.Store number values one h = stored_world kinds w one.0 number (pointer_and_number values) one.1 h
  effect_right act.Input number values one h = record { objects = h.objects; made = h.made; input = bytes_behind w.input h.input }
  effect_right (act.Output what) number values one h = output_world kinds w number (acts.written what values) h
  effect_right act.Test number values one h = record { objects = h.objects; made = h.made; input = h.input }
  effect_right act.Call number values one h = h
