-- Expressions keep the control source, where calls do.
use Rattle.std.proofs.Common.{ℕ, ℤ, List, [], ◌∷◌, map, Option, Some, None, Bool, true, false, if◌then◌else◌, refl, sym, subst}
use Rattle.k_num.specs.declared.place.Place.{Place}
use Rattle.k_num.specs.declared.numbers.Bin.{Bin}
use Rattle.k_num.specs.declared.numbers.Bin.TheVariants as bin
use Rattle.k_num.specs.declared.numbers.Kind.{Kind}
use Rattle.k_num.specs.declared.numbers.Un.{Un}
use Rattle.k_optab.specs.declared.class.Class.TheVariants as class
use Rattle.k_types_meaning.specs.declared.types.TType.{TType}
use Rattle.k_types_meaning.specs.declared.types.TType.TheVariants as ttype
use Rattle.k_types_meaning.specs.declared.tree.expression.Change.{Change}
use Rattle.k_types_meaning.specs.declared.tree.expression.Change.TheVariants as change
use Rattle.k_types_meaning.specs.declared.tree.expression.Node.{Node}
use Rattle.k_types_meaning.specs.declared.tree.expression.TExpr.{TExpr, fold-roll-TExpr, ind-TExpr, map-TExpr}
use Rattle.k_types_meaning.specs.declared.tree.expression.TExpr.TheOpen.{TExpr-F}
use Rattle.k_types_meaning.specs.declared.tree.unit.TVariable.{TVariable}
use Rattle.k_types_meaning.specs.Types.{same_kind}
use Rattle.k_world.specs.declared.act.Act.TheVariants as act
use Rattle.k_world.specs.declared.act.Out.TheVariants as out
use Rattle.k_world.specs.declared.value.Held.{Held}
use Rattle.k_world.specs.declared.value.Value.TheVariants as value
use Rattle.k_evaluation.specs.declared.operand.Operand.{Operand}
use Rattle.k_evaluation.specs.declared.operand.Operand.TheVariants.{Constant, Holding, Register}
use Rattle.k_evaluation.specs.declared.operand.Target.{Target}
use Rattle.k_evaluation.specs.declared.operand.Target.TheVariants.{InRegister, InMemory}
use Rattle.k_evaluation.specs.States.{Program, Part, ◌>>=◌, gives, settled}
use Rattle.k_evaluation.specs.Meanings.{Meaning, nothing, only_value, at_place, value_at, value_in_memory, loads, on_one, on_two, in_turn, tests, holds, kind_of, scale_of}
use Rattle.k_evaluation.specs.Places.{number, string, object, variable, index, deref, address, forward, back, onto, variable_place, is_register, offset, element_at}
use Rattle.k_evaluation.specs.Operators.{plus, unary, convert, cast, binary, compare, distance, both, either, cond, comma, converts, cast_to, class_of, binary_on, truth_of, behind_test, same_truth, kind_or_int, logical, moves, arm, arm_by}
use Rattle.k_evaluation.specs.Assignments.{assign, assign_by, pre, post, writes, old_value, converts_between, converts_side, converts_back, changed, changes, changes_old, one, after_old}
use Rattle.k_evaluation.specs.Library.{getchar, putchar, puts, printf, chunk_of}
use Rattle.k_evaluation.specs.Expressions.{Calls, call, eval_step, eval}
use Rattle.k_types_meaning.specs.declared.tree.expression.Piece.{Piece}
use Rattle.k_evaluation_control.proofs.Kept.{Keeps, Does, then_keeps, then_tidies, tidies, gives_keeps, sets_keeps, settled_keeps, makes_keeps, computes_keeps}

-- an expression keeps the control source, as a value and as a place
pub record MeaningKeeps (e : Meaning) : Type 0 where
  pub value : (used : Bool) → Keeps (e.value used)
  pub place : Keeps e.place

-- so do several
abbrev pub AllKeep : List Meaning → Type 0
AllKeep [] = Unit {0}
AllKeep (e ∷ es) = MeaningKeeps e × AllKeep es

-- so do the calls
abbrev pub CallsKeep : Calls → Type 0
CallsKeep calls = (f : ℕ) (place : Place) (args : List Operand) → Keeps (calls f place args)

value_keeps : (node : Node) (v : Bool → Part Operand) → ((used : Bool) → Keeps (v used)) → MeaningKeeps (only_value node v)
value_keeps node v each = record { value = each; place = gives_keeps (InMemory nothing) }

one_keeps : (node : Node) (e : Meaning) (operation : Operand → Part Operand) → MeaningKeeps e → ((a : Operand) → Keeps (operation a)) → MeaningKeeps (on_one node e operation)
one_keeps node e operation h each = value_keeps node (λ used. e.value true >>= operation) (λ used. then_keeps (e.value true) operation (h.value true) each)

two_keeps : (node : Node) (left right : Meaning) (operation : Operand → Operand → Part Operand) → MeaningKeeps left → MeaningKeeps right
    → ((a b : Operand) → Keeps (operation a b)) → MeaningKeeps (on_two node left right operation)
two_keeps node left right operation h k each =
    one_keeps node left (λ a. right.value true >>= operation a) h (λ a. then_keeps (right.value true) (operation a) (k.value true) (each a))

turn_keeps : (es : List Meaning) → AllKeep es → Keeps (in_turn es)
turn_keeps [] h = gives_keeps []
turn_keeps (e ∷ es) h =
    then_keeps (e.value true) (λ a. in_turn es >>= λ rest. gives (a ∷ rest)) (h.0.value true)
    (λ a. then_keeps (in_turn es) (λ rest. gives (a ∷ rest)) (turn_keeps es h.1) (λ rest. gives_keeps (a ∷ rest)))

module _ (program : Program) where
  loads_keeps : (place : Place) (used : Bool) (a : Operand) → Keeps (loads program place used a)
  loads_keeps place false a = gives_keeps nothing
  loads_keeps place true a = computes_keeps program class.Load place act.Load (a ∷ [])

  in_memory_keeps : (place : Place) (of : TType) (used : Bool) (a : Operand) → Keeps (value_in_memory program place of used a)
  in_memory_keeps place ttype.Void used a = gives_keeps nothing
  in_memory_keeps place (ttype.Number kind) used a = loads_keeps place used a
  in_memory_keeps place (ttype.Pointer target) used a = gives_keeps a

  value_at_keeps : (node : Node) (used : Bool) (target : Target) → Keeps (value_at program node used target)
  value_at_keeps node used (InRegister n broken) = gives_keeps (Register n broken)
  value_at_keeps node used (InMemory a) = in_memory_keeps node.place node.of used a

  place_keeps : (node : Node) (place : Part Target) → Keeps place → MeaningKeeps (at_place program node place)
  place_keeps node place h = record {
    value = λ used. then_keeps place (value_at program node used) h (value_at_keeps node used);
    place = h;
  }

  tests_tidies : (place : Place) (a : Operand) → Does false (tests program place a)
  tests_tidies place a = makes_keeps program class.Test place act.Test (a ∷ [])

  -- PLACES
  number_keeps : (node : Node) (z : ℤ) → MeaningKeeps (number node z)
  unfolding number
  number_keeps node z = value_keeps node (λ used. gives (Constant (value.Number z))) (λ used. gives_keeps (Constant (value.Number z)))

  string_keeps : (node : Node) (n : ℕ) (bytes : List ℕ) → MeaningKeeps (string program node n bytes)
  unfolding string
  string_keeps node n bytes = record { value = λ used. gives_keeps _; place = gives_keeps (InMemory nothing) }

  object_keeps : (node : Node) (n : ℕ) → MeaningKeeps (object program node n)
  unfolding object
  object_keeps node n = place_keeps node _ (gives_keeps _)

  variable_place_keeps : (node : Node) (n : ℕ) (b : Bool) → Keeps (variable_place program node n b)
  variable_place_keeps node n true = record { leaves = λ k s tidy. (tidy, refl) }
  variable_place_keeps node n false = record { leaves = λ k s tidy. (tidy, refl) }

  variable_keeps : (vs : List TVariable) (node : Node) (n : ℕ) → MeaningKeeps (variable program vs node n)
  unfolding variable
  variable_keeps vs node n = place_keeps node (variable_place program node n (is_register vs n)) (variable_place_keeps node n (is_register vs n))

  offset_keeps : (place : Place) (minus : Bool) (scale : ℕ) (a b : Operand) → Keeps (offset program place minus scale a b)
  offset_keeps place minus scale a b = computes_keeps program class.Simple place (act.Offset minus scale) (a ∷ b ∷ [])

  element_keeps : (place : Place) (scale : ℕ) (a b : Operand) → Keeps (element_at program place scale a b)
  element_keeps place scale a b =
      then_keeps (offset program place false scale a b) (λ address. gives (InMemory address)) (offset_keeps place false scale a b) (λ address. gives_keeps (InMemory address))

  index_keeps : (node : Node) (base by : Meaning) → MeaningKeeps base → MeaningKeeps by → MeaningKeeps (index program node base by)
  unfolding index
  index_keeps node base by h k =
      place_keeps node (base.value true >>= λ a. by.value true >>= element_at program node.place (scale_of base.node.of) a)
      (then_keeps (base.value true) (λ a. by.value true >>= element_at program node.place (scale_of base.node.of) a) (h.value true)
      (λ a. then_keeps (by.value true) (element_at program node.place (scale_of base.node.of) a) (k.value true) (element_keeps node.place (scale_of base.node.of) a)))

  deref_keeps : (node : Node) (e : Meaning) → MeaningKeeps e → MeaningKeeps (deref program node e)
  unfolding deref
  deref_keeps node e h =
      place_keeps node (e.value true >>= λ pointer. gives (InMemory pointer))
      (then_keeps (e.value true) (λ pointer. gives (InMemory pointer)) (h.value true) (λ a. gives_keeps (InMemory a)))

  address_keeps : (node : Node) (e : Meaning) → MeaningKeeps e → MeaningKeeps (address node e)
  unfolding address
  address_keeps node e h = value_keeps node _ (λ used. then_keeps e.place _ h.place (λ target. gives_keeps _))

  forward_keeps : (node : Node) (a b : Meaning) → MeaningKeeps a → MeaningKeeps b → MeaningKeeps (forward program node a b)
  unfolding forward
  forward_keeps node a b h k = two_keeps node a b _ h k (λ x y. offset_keeps node.place false (scale_of node.of) x y)

  back_keeps : (node : Node) (a b : Meaning) → MeaningKeeps a → MeaningKeeps b → MeaningKeeps (back program node a b)
  unfolding back
  back_keeps node a b h k = two_keeps node a b _ h k (λ x y. offset_keeps node.place true (scale_of node.of) x y)

  onto_keeps : (node : Node) (a b : Meaning) → MeaningKeeps a → MeaningKeeps b → MeaningKeeps (onto program node a b)
  unfolding onto
  onto_keeps node a b h k = two_keeps node a b _ h k (λ x y. offset_keeps node.place false (scale_of node.of) y x)

  -- OPERATORS
  plus_keeps : (node : Node) (e : Meaning) → MeaningKeeps e → MeaningKeeps (plus node e)
  unfolding plus
  plus_keeps node e h = value_keeps node e.value h.value

  unary_keeps : (node : Node) (op : Un) (kind : Kind) (e : Meaning) → MeaningKeeps e → MeaningKeeps (unary program node op kind e)
  unfolding unary
  unary_keeps node op kind e h = one_keeps node e _ h (λ a. computes_keeps program class.Simple node.place (act.Unary op kind) (a ∷ []))

  converts_keeps : (place : Place) (to : Option Kind) (a : Operand) → Keeps (converts program place to a)
  converts_keeps place None a = gives_keeps a
  converts_keeps place (Some kind) a = computes_keeps program class.Conv place (act.Convert kind) (a ∷ [])

  convert_keeps : (node : Node) (e : Meaning) → MeaningKeeps e → MeaningKeeps (convert program node e)
  unfolding convert
  convert_keeps node e h = one_keeps node e (converts program node.place (kind_of node.of)) h (converts_keeps node.place (kind_of node.of))

  cast_to_keeps : (place : Place) (of : TType) (e : Meaning) (used : Bool) → MeaningKeeps e → Keeps (cast_to program place of e used)
  cast_to_keeps place ttype.Void e used h = then_keeps (e.value false) (λ a. gives nothing) (h.value false) (λ a. gives_keeps nothing)
  cast_to_keeps place (ttype.Number kind) e used h = then_keeps (e.value true) (converts program place (Some kind)) (h.value true) (converts_keeps place (Some kind))
  cast_to_keeps place (ttype.Pointer target) e used h = h.value used

  cast_keeps : (node : Node) (e : Meaning) → MeaningKeeps e → MeaningKeeps (cast program node e)
  unfolding cast
  cast_keeps node e h = value_keeps node (cast_to program node.place node.of e) (λ used. cast_to_keeps node.place node.of e used h)

  binary_on_keeps : (place : Place) (op : Bin) (kind : Kind) (a b : Operand) → Keeps (binary_on program place op kind a b)
  binary_on_keeps place op kind a b = computes_keeps program (class_of op) place (act.Binary op kind) (a ∷ b ∷ [])

  binary_keeps : (node : Node) (op : Bin) (kind : Kind) (a b : Meaning) → MeaningKeeps a → MeaningKeeps b → MeaningKeeps (binary program node op kind a b)
  unfolding binary
  binary_keeps node op kind a b h k = two_keeps node a b (binary_on program node.place op kind) h k (binary_on_keeps node.place op kind)

  compare_keeps : (node : Node) (op : Bin) (a b : Meaning) → MeaningKeeps a → MeaningKeeps b → MeaningKeeps (compare program node op a b)
  unfolding compare
  compare_keeps node op a b h k = two_keeps node a b _ h k (λ x y. computes_keeps program class.Simple node.place (act.PtrCompare op) (x ∷ y ∷ []))

  distance_keeps : (node : Node) (a b : Meaning) → MeaningKeeps a → MeaningKeeps b → MeaningKeeps (distance program node a b)
  unfolding distance
  distance_keeps node a b h k = two_keeps node a b _ h k (λ x y. computes_keeps program class.Div node.place (act.PtrDistance (scale_of a.node.of)) (x ∷ y ∷ []))

  truth_keeps : (node : Node) (right : Meaning) → MeaningKeeps right → Keeps (truth_of program node right)
  truth_keeps node right h =
      then_keeps (right.value true) _ (h.value true)
      (λ b. computes_keeps program class.Simple node.place (act.Binary bin.Ne (kind_or_int (kind_of right.node.of))) (b ∷ nothing ∷ []))

  behind_test_keeps : (node : Node) (decides : Bool) (right : Meaning) (test : Held) → MeaningKeeps right → Keeps (behind_test program node decides right test)
  behind_test_keeps node decides right test h = by (same_truth (holds test) decides)
    where
      by : (b : Bool) → Keeps (if b then gives (Holding test) else truth_of program node right)
      by true = gives_keeps (Holding test)
      by false = truth_keeps node right h

  logical_keeps : (node : Node) (decides : Bool) (left right : Meaning) → MeaningKeeps left → MeaningKeeps right → MeaningKeeps (logical program node decides left right)
  logical_keeps node decides left right h k =
      value_keeps node (λ used. settled false (left.value true >>= λ a. tests program node.place a >>= behind_test program node decides right))
      (λ used. settled_keeps (left.value true >>= λ a. tests program node.place a >>= behind_test program node decides right)
      (then_tidies (left.value true) (λ a. tests program node.place a >>= behind_test program node decides right) (tidies (left.value true) (h.value true))
      (λ a. then_tidies (tests program node.place a) (behind_test program node decides right) (tests_tidies node.place a)
      (λ test. tidies (behind_test program node decides right test) (behind_test_keeps node decides right test k)))))

  both_keeps : (node : Node) (a b : Meaning) → MeaningKeeps a → MeaningKeeps b → MeaningKeeps (both program node a b)
  unfolding both
  both_keeps node a b h k = logical_keeps node false a b h k

  either_keeps : (node : Node) (a b : Meaning) → MeaningKeeps a → MeaningKeeps b → MeaningKeeps (either program node a b)
  unfolding either
  either_keeps node a b h k = logical_keeps node true a b h k

  moves_keeps : (place : Place) (a : Operand) → Keeps (moves program place a)
  moves_keeps place a = computes_keeps program class.Move place act.Move (a ∷ [])

  arm_keeps : (place : Place) (of : TType) (e : Meaning) → MeaningKeeps e → Keeps (arm program place of e)
  arm_keeps place ttype.Void e h = then_keeps (e.value false) (λ a. gives nothing) (h.value false) (λ a. gives_keeps nothing)
  arm_keeps place (ttype.Number kind) e h = then_keeps (e.value true) (moves program place) (h.value true) (moves_keeps place)
  arm_keeps place (ttype.Pointer target) e h = then_keeps (e.value true) (moves program place) (h.value true) (moves_keeps place)

  arm_by_keeps : (node : Node) (first second : Meaning) (test : Held) → MeaningKeeps first → MeaningKeeps second → Keeps (arm_by program node first second test)
  arm_by_keeps node first second test h k = by (holds test)
    where
      by : (b : Bool) → Keeps (if b then arm program node.place node.of first else arm program node.place node.of second)
      by true = arm_keeps node.place node.of first h
      by false = arm_keeps node.place node.of second k

  cond_keeps : (node : Node) (test a b : Meaning) → MeaningKeeps test → MeaningKeeps a → MeaningKeeps b → MeaningKeeps (cond program node test a b)
  unfolding cond
  cond_keeps node test a b t h k =
      value_keeps node (λ used. settled false (test.value true >>= λ x. tests program node.place x >>= arm_by program node a b))
      (λ used. settled_keeps (test.value true >>= λ x. tests program node.place x >>= arm_by program node a b)
      (then_tidies (test.value true) (λ x. tests program node.place x >>= arm_by program node a b) (tidies (test.value true) (t.value true))
      (λ x. then_tidies (tests program node.place x) (arm_by program node a b) (tests_tidies node.place x)
      (λ held. tidies (arm_by program node a b held) (arm_by_keeps node a b held h k)))))

  comma_keeps : (node : Node) (a b : Meaning) → MeaningKeeps a → MeaningKeeps b → MeaningKeeps (comma node a b)
  unfolding comma
  comma_keeps node a b h k = value_keeps node (λ used. a.value false >>= λ x. b.value used) (λ used. then_keeps (a.value false) (λ x. b.value used) (h.value false) (λ x. k.value used))

  -- ASSIGNMENTS
  pub writes_keeps : (place : Place) (target : Target) (a : Operand) → Keeps (writes program place target a)
  writes_keeps place (InRegister n broken) a =
      then_keeps _ _ (makes_keeps program class.Move place act.Move (a ∷ []))
      (λ held. then_keeps _ _ (sets_keeps n (Some held)) (λ done. gives_keeps (Register n false)))
  writes_keeps place (InMemory address) a = computes_keeps program class.Store place act.Store (address ∷ a ∷ [])

  assign_keeps : (node : Node) (left right : Meaning) → MeaningKeeps left → MeaningKeeps right → MeaningKeeps (assign program node left right)
  unfolding assign
  assign_keeps node left right h k =
      value_keeps node _ (λ used. then_keeps left.place _ h.place (λ target. then_keeps (right.value true) (writes program node.place target) (k.value true) (writes_keeps node.place target)))

  old_keeps : (place : Place) (target : Target) → Keeps (old_value program place target)
  old_keeps place (InRegister n broken) = gives_keeps (Register n broken)
  old_keeps place (InMemory address) = computes_keeps program class.Load place act.Load (address ∷ [])

  between_keeps : (place : Place) (from to : Kind) (a : Operand) → Keeps (converts_between program place from to a)
  between_keeps place from to a = by (same_kind from to)
    where
      by : (b : Bool) → Keeps (if b then gives a else converts program place (Some to) a)
      by true = gives_keeps a
      by false = converts_keeps place (Some to) a

  side_keeps : (place : Place) (from : Option Kind) (to : Kind) (a : Operand) → Keeps (converts_side program place from to a)
  side_keeps place None to a = gives_keeps a
  side_keeps place (Some from) to a = between_keeps place from to a

  back_in_keeps : (place : Place) (from : Kind) (to : Option Kind) (a : Operand) → Keeps (converts_back program place from to a)
  back_in_keeps place from None a = gives_keeps a
  back_in_keeps place from (Some to) a = between_keeps place from to a

  changed_keeps : (place : Place) (c : Change) (of : TType) (by_of : Option Kind) (old by : Operand) → Keeps (changed program place c of by_of old by)
  changed_keeps place (change.Number op kind) of by_of old by =
      then_keeps _ _ (side_keeps place (kind_of of) kind old)
      (λ a. then_keeps _ _ (side_keeps place by_of _ by)
      (λ b. then_keeps (binary_on program place op kind a b) (converts_back program place kind (kind_of of)) (binary_on_keeps place op kind a b) (back_in_keeps place kind (kind_of of))))
  changed_keeps place change.Forward of by_of old by = offset_keeps place false (scale_of of) old by
  changed_keeps place change.Back of by_of old by = offset_keeps place true (scale_of of) old by

  changes_keeps : (node : Node) (c : Change) (by_of : Option Kind) (target : Target) (by old : Operand) → Keeps (changes program node c by_of target by old)
  changes_keeps node c by_of target by old =
      then_keeps (changed program node.place c node.of by_of old by) (writes program node.place target) (changed_keeps node.place c node.of by_of old by) (writes_keeps node.place target)

  changes_old_keeps : (node : Node) (c : Change) (by_of : Option Kind) (target : Target) (by : Operand) → Keeps (changes_old program node c by_of target by)
  changes_old_keeps node c by_of target by =
      then_keeps (old_value program node.place target) (changes program node c by_of target by) (old_keeps node.place target) (changes_keeps node c by_of target by)

  assign_by_keeps : (node : Node) (c : Change) (left right : Meaning) → MeaningKeeps left → MeaningKeeps right → MeaningKeeps (assign_by program node c left right)
  unfolding assign_by
  assign_by_keeps node c left right h k =
      value_keeps node _ (λ used. then_keeps left.place _ h.place
      (λ target. then_keeps (right.value true) (changes_old program node c (kind_of right.node.of) target) (k.value true) (changes_old_keeps node c (kind_of right.node.of) target)))

  pre_keeps : (node : Node) (c : Change) (e : Meaning) → MeaningKeeps e → MeaningKeeps (pre program node c e)
  unfolding pre
  pre_keeps node c e h = value_keeps node _ (λ used. then_keeps e.place _ h.place (λ target. changes_old_keeps node c None target one))

  after_old_keeps : (node : Node) (c : Change) (used : Bool) (target : Target) (old : Operand) → Keeps (after_old program node c used target old)
  after_old_keeps node c false target old = changes_keeps node c None target one old
  after_old_keeps node c true target old =
      then_keeps (moves program node.place old) _ (moves_keeps node.place old)
      (λ kept. then_keeps (changes program node c None target one old) (λ v. gives kept) (changes_keeps node c None target one old) (λ v. gives_keeps kept))

  post_keeps : (node : Node) (c : Change) (e : Meaning) → MeaningKeeps e → MeaningKeeps (post program node c e)
  unfolding post
  post_keeps node c e h =
      value_keeps node _ (λ used. then_keeps e.place _ h.place
      (λ target. then_keeps (old_value program node.place target) (after_old program node c used target) (old_keeps node.place target) (after_old_keeps node c used target)))

  -- THE LIBRARY AND CALLS
  getchar_keeps : (node : Node) → MeaningKeeps (getchar program node)
  unfolding getchar
  getchar_keeps node = value_keeps node _ (λ used. computes_keeps program class.Input node.place act.Input [])

  putchar_keeps : (node : Node) (e : Meaning) → MeaningKeeps e → MeaningKeeps (putchar program node e)
  unfolding putchar
  putchar_keeps node e h = one_keeps node e _ h (λ a. computes_keeps program class.Output node.place (act.Output out.Byte) (a ∷ []))

  puts_keeps : (node : Node) (e : Meaning) → MeaningKeeps e → MeaningKeeps (puts program node e)
  unfolding puts
  puts_keeps node e h = value_keeps node _ (λ used. computes_keeps program class.Output node.place (act.Output (out.Line e.text)) [])

  printf_keeps : (node : Node) (format : List Piece) (args : List Meaning) → AllKeep args → MeaningKeeps (printf program node format args)
  unfolding printf
  printf_keeps node format args k =
      value_keeps node _ (λ used. then_keeps (in_turn args) _ (turn_keeps args k)
      (λ operands. computes_keeps program class.Output node.place (act.Output (out.Format (map chunk_of format))) operands))

  call_keeps : (calls : Calls) (node : Node) (f : ℕ) (args : List Meaning) → CallsKeep calls → AllKeep args → MeaningKeeps (call calls node f args)
  unfolding call
  call_keeps calls node f args h k = value_keeps node (λ used. in_turn args >>= calls f node.place) (λ used. then_keeps (in_turn args) (calls f node.place) (turn_keeps args k) (h f node.place))

  -- AN EXPRESSION
  module _ (vs : List TVariable) (calls : Calls) (calls_keep : CallsKeep calls) where
    abbrev meaning : TExpr → Meaning
    meaning = eval program vs calls

    abbrev step : TExpr-F Meaning → Meaning
    step = eval_step program vs calls

    -- an expression keeps the control source
    abbrev ExprKeeps : TExpr → Type 0
    ExprKeeps e = MeaningKeeps (meaning e)

    all_keep : (items : List ((e : TExpr) × ExprKeeps e)) → AllKeep (map meaning (map (λ (x : (e : TExpr) × ExprKeeps e). x.0) items))
    all_keep [] = tt
    all_keep (x ∷ items) = (x.1, all_keep items)

    step_keeps : (y : TExpr-F ((e : TExpr) × ExprKeeps e)) → MeaningKeeps (step (map-TExpr TExpr Meaning meaning (map-TExpr _ TExpr (λ (x : (e : TExpr) × ExprKeeps e). x.0) y)))
    step_keeps (TExpr-F.Number node z) = number_keeps node z
    step_keeps (TExpr-F.Str node n bytes) = string_keeps node n bytes
    step_keeps (TExpr-F.Object node n) = object_keeps node n
    step_keeps (TExpr-F.Variable node n) = variable_keeps vs node n
    step_keeps (TExpr-F.Index node a b) = index_keeps node (meaning a.0) (meaning b.0) a.1 b.1
    step_keeps (TExpr-F.Call node f args) = call_keeps calls node f _ calls_keep (all_keep args)
    step_keeps (TExpr-F.Getchar node) = getchar_keeps node
    step_keeps (TExpr-F.Putchar node a) = putchar_keeps node (meaning a.0) a.1
    step_keeps (TExpr-F.Puts node a) = puts_keeps node (meaning a.0) a.1
    step_keeps (TExpr-F.Printf node format args) = printf_keeps node format _ (all_keep args)
    step_keeps (TExpr-F.Post node c a) = post_keeps node c (meaning a.0) a.1
    step_keeps (TExpr-F.Pre node c a) = pre_keeps node c (meaning a.0) a.1
    step_keeps (TExpr-F.Address node a) = address_keeps node (meaning a.0) a.1
    step_keeps (TExpr-F.Deref node a) = deref_keeps node (meaning a.0) a.1
    step_keeps (TExpr-F.Plus node a) = plus_keeps node (meaning a.0) a.1
    step_keeps (TExpr-F.Unary node op kind a) = unary_keeps node op kind (meaning a.0) a.1
    step_keeps (TExpr-F.Convert node a) = convert_keeps node (meaning a.0) a.1
    step_keeps (TExpr-F.Cast node a) = cast_keeps node (meaning a.0) a.1
    step_keeps (TExpr-F.Binary node op kind a b) = binary_keeps node op kind (meaning a.0) (meaning b.0) a.1 b.1
    step_keeps (TExpr-F.Both node a b) = both_keeps node (meaning a.0) (meaning b.0) a.1 b.1
    step_keeps (TExpr-F.Either node a b) = either_keeps node (meaning a.0) (meaning b.0) a.1 b.1
    step_keeps (TExpr-F.Forward node a b) = forward_keeps node (meaning a.0) (meaning b.0) a.1 b.1
    step_keeps (TExpr-F.Onto node a b) = onto_keeps node (meaning a.0) (meaning b.0) a.1 b.1
    step_keeps (TExpr-F.Back node a b) = back_keeps node (meaning a.0) (meaning b.0) a.1 b.1
    step_keeps (TExpr-F.PtrCompare node op a b) = compare_keeps node op (meaning a.0) (meaning b.0) a.1 b.1
    step_keeps (TExpr-F.PtrDistance node a b) = distance_keeps node (meaning a.0) (meaning b.0) a.1 b.1
    step_keeps (TExpr-F.Cond node a b c) = cond_keeps node (meaning a.0) (meaning b.0) (meaning c.0) a.1 b.1 c.1
    step_keeps (TExpr-F.Assign node a b) = assign_keeps node (meaning a.0) (meaning b.0) a.1 b.1
    step_keeps (TExpr-F.AssignBy node c a b) = assign_by_keeps node c (meaning a.0) (meaning b.0) a.1 b.1
    step_keeps (TExpr-F.Comma node a b) = comma_keeps node (meaning a.0) (meaning b.0) a.1 b.1

    pub eval_keeps : (e : TExpr) → MeaningKeeps (eval program vs calls e)
    eval_keeps =
        ind-TExpr ExprKeeps
        (λ x y is.
        subst MeaningKeeps (sym (fold-roll-TExpr Meaning step x))
        (subst (λ (z : TExpr-F TExpr). MeaningKeeps (step (map-TExpr TExpr Meaning meaning z))) is (step_keeps y)))
