-- What each row of the table of expressions leaves of a variable, where its operands leave it.
use Rattle.std.proofs.Common.{◌≡◌, ℕ, ℤ, List, [], ◌∷◌, map, Option, Some, None, Bool, true, false, nat_eq, if◌then◌else◌, refl, subst}
use Rattle.k_num.specs.declared.place.Place.{Place}
use Rattle.k_num.specs.declared.numbers.Bin.{Bin}
use Rattle.k_num.specs.declared.numbers.Bin.TheVariants as bin
use Rattle.k_num.specs.declared.numbers.Kind.{Kind}
use Rattle.k_num.specs.declared.numbers.Un.{Un}
use Rattle.k_optab.specs.declared.class.Class.TheVariants as class
use Rattle.k_types_meaning.specs.declared.types.TType.{TType}
use Rattle.k_types_meaning.specs.declared.types.TType.TheVariants as ttype
use Rattle.k_types_meaning.specs.declared.tree.expression.Change.{Change}
use Rattle.k_types_meaning.specs.declared.tree.expression.Change.TheVariants as change
use Rattle.k_types_meaning.specs.declared.tree.expression.Node.{Node}
use Rattle.k_types_meaning.specs.declared.tree.expression.Piece.{Piece}
use Rattle.k_types_meaning.specs.declared.tree.unit.TVariable.{TVariable}
use Rattle.k_types_meaning.specs.Types.{same_kind}
use Rattle.k_world.specs.declared.act.Act.TheVariants as act
use Rattle.k_world.specs.declared.act.Out.{Out}
use Rattle.k_world.specs.declared.act.Out.TheVariants as out
use Rattle.k_world.specs.declared.value.Held.{Held}
use Rattle.k_world.specs.declared.value.Value.TheVariants as value
use Rattle.k_evaluation.specs.declared.operand.Operand.{Operand}
use Rattle.k_evaluation.specs.declared.operand.Operand.TheVariants.{Constant, Holding, Register}
use Rattle.k_evaluation.specs.declared.operand.Target.{Target}
use Rattle.k_evaluation.specs.declared.operand.Target.TheVariants.{InRegister, InMemory}
use Rattle.k_evaluation.specs.States.{Program, Part, ◌>>=◌, gives, makes, computes, sets, settled}
use Rattle.k_evaluation.specs.Meanings.{Meaning, nothing, only_value, at_place, value_at, value_in_memory, loads, on_one, on_two, behind_one, in_turn, tests, holds, kind_of, scale_of}
use Rattle.k_evaluation.specs.Places.{number, string, object, variable, index, deref, address, forward, back, onto, address_of, variable_place, is_register, offset, element_at, behind_base, address_at, offset_onto}
use Rattle.k_evaluation.specs.Operators.{plus, unary, convert, cast, binary, compare, distance, both, either, cond, comma, unary_on, converts, cast_to, class_of, binary_on, compare_on, distance_on, truth_on, truth_of, behind_test, same_truth, kind_or_int, logical, moves, arm, arm_by}
use Rattle.k_evaluation.specs.Assignments.{assign, assign_by, pre, post, writes, behind_place, old_value, converts_between, converts_side, converts_back, side_kind, combined, changed, changes, changes_old, behind_changed, one, after_old, after_place}
use Rattle.k_evaluation.specs.Library.{getchar, putchar, puts, printf, outputs, puts_byte, chunk_of}
use Rattle.k_evaluation.specs.Expressions.{Calls, call}
use Rattle.k_marks_laws.proofs.Parts.{Keeps, Any, binds, thus, gives_kept, makes_kept, computes_kept, sets_kept, settled_kept}

-- a place that is a register is this variable
abbrev pub IsAt : Option ℕ → Target → Type 0
IsAt itself (InRegister m broken) = itself ≡ Some m
IsAt itself (InMemory a) = Unit {0}

-- an expression keeps a variable as a value
abbrev pub ValueKeeps : ℕ → Meaning → Type 0
ValueKeeps n e = (used : Bool) → Keeps n Any (e.value used)

-- and as a place, which is this variable where it is a register
abbrev pub MeaningKeeps : ℕ → Option ℕ → Meaning → Type 0
MeaningKeeps n itself e = ValueKeeps n e × Keeps n (IsAt itself) e.place

-- several do
abbrev pub AllKeep : ℕ → List Meaning → Type 0
AllKeep n [] = Unit {0}
AllKeep n (e ∷ es) = ValueKeeps n e × AllKeep n es

-- calls do
abbrev pub CallsKeep : ℕ → Calls → Type 0
CallsKeep n calls = (f : ℕ) (place : Place) (args : List Operand) → Keeps n Any (calls f place args)

-- a variable, if there is one, is another than this
abbrev pub IsOther : ℕ → Option ℕ → Type 0
IsOther n None = Unit {0}
IsOther n (Some m) = nat_eq m n ≡ false

-- a place is not this variable
abbrev pub IsAway : ℕ → Target → Type 0
IsAway n (InRegister m broken) = nat_eq m n ≡ false
IsAway n (InMemory a) = Unit {0}

is_away : (n : ℕ) (itself : Option ℕ) (target : Target) → IsAt itself target → IsOther n itself → IsAway n target
is_away n itself (InRegister m broken) is other = subst (IsOther n) is other
is_away n itself (InMemory a) is other = tt

module _ (n : ℕ) (program : Program) where
  only_value_keeps : (node : Node) (v : Bool → Part Operand) → ((used : Bool) → Keeps n Any (v used)) → MeaningKeeps n None (only_value node v)
  only_value_keeps node v each = (each, λ s. (refl, tt))

  on_one_keeps : (node : Node) (e : Meaning) (operation : Operand → Part Operand) → ValueKeeps n e → ((a : Operand) → Keeps n Any (operation a))
      → MeaningKeeps n None (on_one node e operation)
  on_one_keeps node e operation kept each = only_value_keeps node (λ used. e.value true >>= operation) (λ used. thus n (e.value true) operation (kept true) each)

  on_two_keeps : (node : Node) (left right : Meaning) (operation : Operand → Operand → Part Operand) → ValueKeeps n left → ValueKeeps n right
      → ((a b : Operand) → Keeps n Any (operation a b)) → MeaningKeeps n None (on_two node left right operation)
  on_two_keeps node left right operation first second each =
      on_one_keeps node left (behind_one right operation) first (λ a. thus n (right.value true) (operation a) (second true) (each a))

  loads_keep : (place : Place) (used : Bool) (a : Operand) → Keeps n Any (loads program place used a)
  loads_keep place false a = gives_kept n nothing
  loads_keep place true a = computes_kept n program class.Load place act.Load (a ∷ [])

  in_memory_keeps : (place : Place) (of : TType) (used : Bool) (a : Operand) → Keeps n Any (value_in_memory program place of used a)
  in_memory_keeps place ttype.Void used a = gives_kept n nothing
  in_memory_keeps place (ttype.Number kind) used a = loads_keep place used a
  in_memory_keeps place (ttype.Pointer target) used a = gives_kept n a

  value_at_keeps : (node : Node) (used : Bool) (target : Target) → Keeps n Any (value_at program node used target)
  value_at_keeps node used (InRegister m broken) = gives_kept n (Register m broken)
  value_at_keeps node used (InMemory a) = in_memory_keeps node.place node.of used a

  at_place_keeps : (itself : Option ℕ) (node : Node) (place : Part Target) → Keeps n (IsAt itself) place → MeaningKeeps n itself (at_place program node place)
  at_place_keeps itself node place kept = (λ used. binds n (IsAt itself) Any place (value_at program node used) kept (λ target is. value_at_keeps node used target), kept)

  in_turn_keeps : (es : List Meaning) → AllKeep n es → Keeps n Any (in_turn es)
  in_turn_keeps [] kept = gives_kept {A = List Operand} n []
  in_turn_keeps (e ∷ es) kept =
      thus n (e.value true) (λ a. in_turn es >>= λ rest. gives (a ∷ rest)) (kept.0 true)
      (λ a. thus n (in_turn es) (λ rest. gives (a ∷ rest)) (in_turn_keeps es kept.1) (λ rest. gives_kept n (a ∷ rest)))

  pub tests_keep : (place : Place) (a : Operand) → Keeps n Any (tests program place a)
  tests_keep place a = makes_kept n program class.Test place act.Test (a ∷ [])

  -- PLACES
  pub number_keeps : (node : Node) (z : ℤ) → MeaningKeeps n None (number node z)
  unfolding number
  number_keeps node z = only_value_keeps node (λ used. gives (Constant (value.Number z))) (λ used. gives_kept n (Constant (value.Number z)))

  pub string_keeps : (node : Node) (k : ℕ) (bytes : List ℕ) → MeaningKeeps n None (string program node k bytes)
  unfolding string
  string_keeps node k bytes = (λ used s. (refl, tt), λ s. (refl, tt))

  pub object_keeps : (node : Node) (k : ℕ) → MeaningKeeps n None (object program node k)
  unfolding object
  object_keeps node k = at_place_keeps None node (gives (InMemory (address_of k))) (λ s. (refl, tt))

  variable_place_keeps : (node : Node) (m : ℕ) (b : Bool) → Keeps n (IsAt (Some m)) (variable_place program node m b)
  variable_place_keeps node m true s = (refl, refl)
  variable_place_keeps node m false s = (refl, tt)

  pub variable_keeps : (vs : List TVariable) (node : Node) (m : ℕ) → MeaningKeeps n (Some m) (variable program vs node m)
  unfolding variable
  variable_keeps vs node m = at_place_keeps (Some m) node (variable_place program node m (is_register vs m)) (variable_place_keeps node m (is_register vs m))

  offset_keeps : (place : Place) (minus : Bool) (scale : ℕ) (a b : Operand) → Keeps n Any (offset program place minus scale a b)
  offset_keeps place minus scale a b = computes_kept n program class.Simple place (act.Offset minus scale) (a ∷ b ∷ [])

  -- an operand is an address
  at_address : (a : Operand) → Keeps n (IsAt None) (gives (InMemory a))
  at_address a s = (refl, tt)

  element_keeps : (place : Place) (scale : ℕ) (a b : Operand) → Keeps n (IsAt None) (element_at program place scale a b)
  element_keeps place scale a b =
      binds n Any (IsAt None) (offset program place false scale a b) (λ address. gives (InMemory address)) (offset_keeps place false scale a b) (λ address p. at_address address)

  pub index_keeps : (node : Node) (base by : Meaning) → ValueKeeps n base → ValueKeeps n by → MeaningKeeps n None (index program node base by)
  unfolding index
  index_keeps node base by first second =
      at_place_keeps None node (base.value true >>= behind_base program node.place (scale_of base.node.of) by)
      (binds n Any (IsAt None) (base.value true) (behind_base program node.place (scale_of base.node.of) by) (first true)
      (λ a p. binds n Any (IsAt None) (by.value true) (element_at program node.place (scale_of base.node.of) a) (second true)
      (λ b q. element_keeps node.place (scale_of base.node.of) a b)))

  pub deref_keeps : (node : Node) (e : Meaning) → ValueKeeps n e → MeaningKeeps n None (deref program node e)
  unfolding deref
  deref_keeps node e kept =
      at_place_keeps None node (e.value true >>= λ pointer. gives (InMemory pointer))
      (binds n Any (IsAt None) (e.value true) (λ pointer. gives (InMemory pointer)) (kept true) (λ a p. at_address a))

  pub address_keeps : (itself : Option ℕ) (node : Node) (e : Meaning) → Keeps n (IsAt itself) e.place → MeaningKeeps n None (address node e)
  unfolding address
  address_keeps itself node e kept =
      only_value_keeps node (λ used. e.place >>= λ target. gives (address_at target))
      (λ used. binds n (IsAt itself) Any e.place (λ target. gives (address_at target)) kept (λ target is. gives_kept n (address_at target)))

  pub forward_keeps : (node : Node) (pointer by : Meaning) → ValueKeeps n pointer → ValueKeeps n by → MeaningKeeps n None (forward program node pointer by)
  unfolding forward
  forward_keeps node pointer by first second =
      on_two_keeps node pointer by (offset program node.place false (scale_of node.of)) first second (offset_keeps node.place false (scale_of node.of))

  pub back_keeps : (node : Node) (pointer by : Meaning) → ValueKeeps n pointer → ValueKeeps n by → MeaningKeeps n None (back program node pointer by)
  unfolding back
  back_keeps node pointer by first second =
      on_two_keeps node pointer by (offset program node.place true (scale_of node.of)) first second (offset_keeps node.place true (scale_of node.of))

  pub onto_keeps : (node : Node) (by pointer : Meaning) → ValueKeeps n by → ValueKeeps n pointer → MeaningKeeps n None (onto program node by pointer)
  unfolding onto
  onto_keeps node by pointer first second =
      on_two_keeps node by pointer (offset_onto program node.place (scale_of node.of)) first second (λ b a. offset_keeps node.place false (scale_of node.of) a b)

  -- OPERATORS
  pub plus_keeps : (node : Node) (e : Meaning) → ValueKeeps n e → MeaningKeeps n None (plus node e)
  unfolding plus
  plus_keeps node e kept = only_value_keeps node e.value kept

  pub unary_keeps : (node : Node) (op : Un) (kind : Kind) (e : Meaning) → ValueKeeps n e → MeaningKeeps n None (unary program node op kind e)
  unfolding unary
  unary_keeps node op kind e kept =
      on_one_keeps node e (unary_on program node.place op kind) kept (λ a. computes_kept n program class.Simple node.place (act.Unary op kind) (a ∷ []))

  converts_keep : (place : Place) (to : Option Kind) (a : Operand) → Keeps n Any (converts program place to a)
  converts_keep place None a = gives_kept n a
  converts_keep place (Some kind) a = computes_kept n program class.Conv place (act.Convert kind) (a ∷ [])

  pub convert_keeps : (node : Node) (e : Meaning) → ValueKeeps n e → MeaningKeeps n None (convert program node e)
  unfolding convert
  convert_keeps node e kept = on_one_keeps node e (converts program node.place (kind_of node.of)) kept (converts_keep node.place (kind_of node.of))

  unused_keeps : (e : Meaning) → ValueKeeps n e → Keeps n Any (e.value false >>= λ a. gives nothing)
  unused_keeps e kept = thus n (e.value false) (λ a. gives nothing) (kept false) (λ a. gives_kept n nothing)

  cast_to_keeps : (place : Place) (of : TType) (e : Meaning) (used : Bool) → ValueKeeps n e → Keeps n Any (cast_to program place of e used)
  cast_to_keeps place ttype.Void e used kept = unused_keeps e kept
  cast_to_keeps place (ttype.Number kind) e used kept = thus n (e.value true) (converts program place (Some kind)) (kept true) (converts_keep place (Some kind))
  cast_to_keeps place (ttype.Pointer target) e used kept = kept used

  pub cast_keeps : (node : Node) (e : Meaning) → ValueKeeps n e → MeaningKeeps n None (cast program node e)
  unfolding cast
  cast_keeps node e kept = only_value_keeps node (cast_to program node.place node.of e) (λ used. cast_to_keeps node.place node.of e used kept)

  binary_on_keeps : (place : Place) (op : Bin) (kind : Kind) (a b : Operand) → Keeps n Any (binary_on program place op kind a b)
  binary_on_keeps place op kind a b = computes_kept n program (class_of op) place (act.Binary op kind) (a ∷ b ∷ [])

  pub binary_keeps : (node : Node) (op : Bin) (kind : Kind) (left right : Meaning) → ValueKeeps n left → ValueKeeps n right
      → MeaningKeeps n None (binary program node op kind left right)
  unfolding binary
  binary_keeps node op kind left right first second =
      on_two_keeps node left right (binary_on program node.place op kind) first second (binary_on_keeps node.place op kind)

  pub compare_keeps : (node : Node) (op : Bin) (left right : Meaning) → ValueKeeps n left → ValueKeeps n right → MeaningKeeps n None (compare program node op left right)
  unfolding compare
  compare_keeps node op left right first second =
      on_two_keeps node left right (compare_on program node.place op) first second
      (λ a b. computes_kept n program class.Simple node.place (act.PtrCompare op) (a ∷ b ∷ []))

  pub distance_keeps : (node : Node) (left right : Meaning) → ValueKeeps n left → ValueKeeps n right → MeaningKeeps n None (distance program node left right)
  unfolding distance
  distance_keeps node left right first second =
      on_two_keeps node left right (distance_on program node.place (scale_of left.node.of)) first second
      (λ a b. computes_kept n program class.Div node.place (act.PtrDistance (scale_of left.node.of)) (a ∷ b ∷ []))

  truth_of_keeps : (node : Node) (right : Meaning) → ValueKeeps n right → Keeps n Any (truth_of program node right)
  truth_of_keeps node right kept =
      thus n (right.value true) (truth_on program node.place (kind_or_int (kind_of right.node.of))) (kept true)
      (λ b. computes_kept n program class.Simple node.place (act.Binary bin.Ne (kind_or_int (kind_of right.node.of))) (b ∷ nothing ∷ []))

  behind_test_keeps : (node : Node) (decides : Bool) (right : Meaning) (test : Held) → ValueKeeps n right → Keeps n Any (behind_test program node decides right test)
  behind_test_keeps node decides right test kept = by (same_truth (holds test) decides)
    where
      by : (b : Bool) → Keeps n Any (if b then gives (Holding test) else truth_of program node right)
      by true = gives_kept n (Holding test)
      by false = truth_of_keeps node right kept

  logical_keeps : (node : Node) (decides : Bool) (left right : Meaning) → ValueKeeps n left → ValueKeeps n right → MeaningKeeps n None (logical program node decides left right)
  logical_keeps node decides left right first second =
      only_value_keeps node (λ used. settled false (left.value true >>= λ a. tests program node.place a >>= behind_test program node decides right))
      (λ used. settled_kept n false (left.value true >>= λ a. tests program node.place a >>= behind_test program node decides right)
      (thus n (left.value true) (λ a. tests program node.place a >>= behind_test program node decides right) (first true)
      (λ a. thus n (tests program node.place a) (behind_test program node decides right) (tests_keep node.place a)
      (λ test. behind_test_keeps node decides right test second))))

  pub both_keeps : (node : Node) (left right : Meaning) → ValueKeeps n left → ValueKeeps n right → MeaningKeeps n None (both program node left right)
  unfolding both
  both_keeps node left right first second = logical_keeps node false left right first second

  pub either_keeps : (node : Node) (left right : Meaning) → ValueKeeps n left → ValueKeeps n right → MeaningKeeps n None (either program node left right)
  unfolding either
  either_keeps node left right first second = logical_keeps node true left right first second

  moves_keep : (place : Place) (a : Operand) → Keeps n Any (moves program place a)
  moves_keep place a = computes_kept n program class.Move place act.Move (a ∷ [])

  arm_keeps : (place : Place) (of : TType) (e : Meaning) → ValueKeeps n e → Keeps n Any (arm program place of e)
  arm_keeps place ttype.Void e kept = unused_keeps e kept
  arm_keeps place (ttype.Number kind) e kept = thus n (e.value true) (moves program place) (kept true) (moves_keep place)
  arm_keeps place (ttype.Pointer target) e kept = thus n (e.value true) (moves program place) (kept true) (moves_keep place)

  arm_by_keeps : (node : Node) (first second : Meaning) (test : Held) → ValueKeeps n first → ValueKeeps n second → Keeps n Any (arm_by program node first second test)
  arm_by_keeps node first second test one two = by (holds test)
    where
      by : (b : Bool) → Keeps n Any (if b then arm program node.place node.of first else arm program node.place node.of second)
      by true = arm_keeps node.place node.of first one
      by false = arm_keeps node.place node.of second two

  pub cond_keeps : (node : Node) (test first second : Meaning) → ValueKeeps n test → ValueKeeps n first → ValueKeeps n second
      → MeaningKeeps n None (cond program node test first second)
  unfolding cond
  cond_keeps node test first second tested one two =
      only_value_keeps node (λ used. settled false (test.value true >>= λ a. tests program node.place a >>= arm_by program node first second))
      (λ used. settled_kept n false (test.value true >>= λ a. tests program node.place a >>= arm_by program node first second)
      (thus n (test.value true) (λ a. tests program node.place a >>= arm_by program node first second) (tested true)
      (λ a. thus n (tests program node.place a) (arm_by program node first second) (tests_keep node.place a)
      (λ t. arm_by_keeps node first second t one two))))

  pub comma_keeps : (node : Node) (left right : Meaning) → ValueKeeps n left → ValueKeeps n right → MeaningKeeps n None (comma node left right)
  unfolding comma
  comma_keeps node left right first second =
      only_value_keeps node (λ used. left.value false >>= λ a. right.value used)
      (λ used. thus n (left.value false) (λ a. right.value used) (first false) (λ a. second used))

  -- ASSIGNMENTS
  pub writes_keep : (place : Place) (target : Target) (a : Operand) → IsAway n target → Keeps n Any (writes program place target a)
  writes_keep place (InRegister m broken) a away =
      thus n (makes program class.Move place act.Move (a ∷ [])) (λ held. sets m (Some held) >>= λ done. gives (Register m false))
      (makes_kept n program class.Move place act.Move (a ∷ []))
      (λ held. thus n (sets m (Some held)) (λ done. gives (Register m false)) (sets_kept n m (Some held) away) (λ done. gives_kept n (Register m false)))
  writes_keep place (InMemory address) a away = computes_kept n program class.Store place act.Store (address ∷ a ∷ [])

  pub assign_keeps : (itself : Option ℕ) (node : Node) (left right : Meaning) → IsOther n itself → Keeps n (IsAt itself) left.place → ValueKeeps n right
      → MeaningKeeps n None (assign program node left right)
  unfolding assign
  assign_keeps itself node left right other first second =
      only_value_keeps node (λ used. left.place >>= behind_place program node.place right)
      (λ used. binds n (IsAt itself) Any left.place (behind_place program node.place right) first
      (λ target is. thus n (right.value true) (writes program node.place target) (second true)
      (λ a. writes_keep node.place target a (is_away n itself target is other))))

  old_value_keeps : (place : Place) (target : Target) → Keeps n Any (old_value program place target)
  old_value_keeps place (InRegister m broken) = gives_kept n (Register m broken)
  old_value_keeps place (InMemory address) = computes_kept n program class.Load place act.Load (address ∷ [])

  converts_between_keeps : (place : Place) (from to : Kind) (a : Operand) → Keeps n Any (converts_between program place from to a)
  converts_between_keeps place from to a = by (same_kind from to)
    where
      by : (b : Bool) → Keeps n Any (if b then gives a else converts program place (Some to) a)
      by true = gives_kept n a
      by false = converts_keep place (Some to) a

  converts_side_keeps : (place : Place) (from : Option Kind) (to : Kind) (a : Operand) → Keeps n Any (converts_side program place from to a)
  converts_side_keeps place None to a = gives_kept n a
  converts_side_keeps place (Some from) to a = converts_between_keeps place from to a

  converts_back_keeps : (place : Place) (from : Kind) (to : Option Kind) (a : Operand) → Keeps n Any (converts_back program place from to a)
  converts_back_keeps place from None a = gives_kept n a
  converts_back_keeps place from (Some to) a = converts_between_keeps place from to a

  combined_keeps : (place : Place) (op : Bin) (kind : Kind) (of by_of : Option Kind) (old by : Operand) → Keeps n Any (combined program place op kind of by_of old by)
  combined_keeps place op kind of by_of old by =
      let back : Operand → Part Operand = converts_back program place kind of in
      let last : Operand → Operand → Part Operand = (λ a b. binary_on program place op kind a b >>= back) in
      thus n (converts_side program place of kind old) (λ a. converts_side program place by_of (side_kind op kind by_of) by >>= last a)
      (converts_side_keeps place of kind old)
      (λ a. thus n (converts_side program place by_of (side_kind op kind by_of) by) (last a) (converts_side_keeps place by_of (side_kind op kind by_of) by)
      (λ b. thus n (binary_on program place op kind a b) back (binary_on_keeps place op kind a b) (converts_back_keeps place kind of)))

  changed_keeps : (place : Place) (by_change : Change) (of : TType) (by_of : Option Kind) (old by : Operand) → Keeps n Any (changed program place by_change of by_of old by)
  changed_keeps place (change.Number op kind) of by_of old by = combined_keeps place op kind (kind_of of) by_of old by
  changed_keeps place change.Forward of by_of old by = offset_keeps place false (scale_of of) old by
  changed_keeps place change.Back of by_of old by = offset_keeps place true (scale_of of) old by

  changes_keep : (node : Node) (by_change : Change) (by_of : Option Kind) (target : Target) (by old : Operand) → IsAway n target
      → Keeps n Any (changes program node by_change by_of target by old)
  changes_keep node by_change by_of target by old away =
      thus n (changed program node.place by_change node.of by_of old by) (writes program node.place target)
      (changed_keeps node.place by_change node.of by_of old by) (λ v. writes_keep node.place target v away)

  changes_old_keep : (node : Node) (by_change : Change) (by_of : Option Kind) (target : Target) (by : Operand) → IsAway n target
      → Keeps n Any (changes_old program node by_change by_of target by)
  changes_old_keep node by_change by_of target by away =
      thus n (old_value program node.place target) (changes program node by_change by_of target by) (old_value_keeps node.place target)
      (λ old. changes_keep node by_change by_of target by old away)

  pub assign_by_keeps : (itself : Option ℕ) (node : Node) (by_change : Change) (left right : Meaning) → IsOther n itself → Keeps n (IsAt itself) left.place
      → ValueKeeps n right → MeaningKeeps n None (assign_by program node by_change left right)
  unfolding assign_by
  assign_by_keeps itself node by_change left right other first second =
      only_value_keeps node (λ used. left.place >>= behind_changed program node by_change right)
      (λ used. binds n (IsAt itself) Any left.place (behind_changed program node by_change right) first
      (λ target is. thus n (right.value true) (changes_old program node by_change (kind_of right.node.of) target) (second true)
      (λ by. changes_old_keep node by_change (kind_of right.node.of) target by (is_away n itself target is other))))

  pub pre_keeps : (itself : Option ℕ) (node : Node) (by_change : Change) (e : Meaning) → IsOther n itself → Keeps n (IsAt itself) e.place
      → MeaningKeeps n None (pre program node by_change e)
  unfolding pre
  pre_keeps itself node by_change e other kept =
      only_value_keeps node (λ used. e.place >>= λ target. changes_old program node by_change None target one)
      (λ used. binds n (IsAt itself) Any e.place (λ target. changes_old program node by_change None target one) kept
      (λ target is. changes_old_keep node by_change None target one (is_away n itself target is other)))

  after_old_keeps : (node : Node) (by_change : Change) (used : Bool) (target : Target) (old : Operand) → IsAway n target
      → Keeps n Any (after_old program node by_change used target old)
  after_old_keeps node by_change false target old away = changes_keep node by_change None target one old away
  after_old_keeps node by_change true target old away =
      thus n (moves program node.place old) (λ kept. changes program node by_change None target one old >>= λ v. gives kept) (moves_keep node.place old)
      (λ kept. thus n (changes program node by_change None target one old) (λ v. gives kept) (changes_keep node by_change None target one old away) (λ v. gives_kept n kept))

  pub post_keeps : (itself : Option ℕ) (node : Node) (by_change : Change) (e : Meaning) → IsOther n itself → Keeps n (IsAt itself) e.place
      → MeaningKeeps n None (post program node by_change e)
  unfolding post
  post_keeps itself node by_change e other kept =
      only_value_keeps node (λ used. e.place >>= after_place program node by_change used)
      (λ used. binds n (IsAt itself) Any e.place (after_place program node by_change used) kept
      (λ target is. thus n (old_value program node.place target) (after_old program node by_change used target) (old_value_keeps node.place target)
      (λ old. after_old_keeps node by_change used target old (is_away n itself target is other))))

  -- THE LIBRARY AND CALLS
  pub getchar_keeps : (node : Node) → MeaningKeeps n None (getchar program node)
  unfolding getchar
  getchar_keeps node = only_value_keeps node (λ used. computes program class.Input node.place act.Input []) (λ used. computes_kept n program class.Input node.place act.Input [])

  outputs_keep : (place : Place) (what : Out) (args : List Operand) → Keeps n Any (outputs program place what args)
  outputs_keep place what args = computes_kept n program class.Output place (act.Output what) args

  pub putchar_keeps : (node : Node) (e : Meaning) → ValueKeeps n e → MeaningKeeps n None (putchar program node e)
  unfolding putchar
  putchar_keeps node e kept = on_one_keeps node e (puts_byte program node.place) kept (λ a. outputs_keep node.place out.Byte (a ∷ []))

  pub puts_keeps : (node : Node) (e : Meaning) → MeaningKeeps n None (puts program node e)
  unfolding puts
  puts_keeps node e = only_value_keeps node (λ used. outputs program node.place (out.Line e.text) []) (λ used. outputs_keep node.place (out.Line e.text) [])

  pub printf_keeps : (node : Node) (format : List Piece) (args : List Meaning) → AllKeep n args → MeaningKeeps n None (printf program node format args)
  unfolding printf
  printf_keeps node format args kept =
      only_value_keeps node (λ used. in_turn args >>= outputs program node.place (out.Format (map chunk_of format)))
      (λ used. thus n (in_turn args) (outputs program node.place (out.Format (map chunk_of format))) (in_turn_keeps args kept)
      (λ operands. outputs_keep node.place (out.Format (map chunk_of format)) operands))

  pub call_keeps : (calls : Calls) (node : Node) (f : ℕ) (args : List Meaning) → CallsKeep n calls → AllKeep n args → MeaningKeeps n None (call calls node f args)
  unfolding call
  call_keeps calls node f args calls_keep kept =
      only_value_keeps node (λ used. in_turn args >>= calls f node.place)
      (λ used. thus n (in_turn args) (calls f node.place) (in_turn_keeps args kept) (calls_keep f node.place))
