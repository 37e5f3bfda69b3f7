-- Expressions write bytes, where their texts are bytes and calls write bytes.
use Rattle.std.proofs.Common.{ℕ, ℤ, pos, List, [], ◌∷◌, ◌++◌, map, Option, Some, None, Bool, true, false, if◌then◌else◌, sym, subst}
use Rattle.std.specs.List.{concat}
use Rattle.k_num.specs.declared.place.Place.{Place}
use Rattle.k_num.specs.declared.numbers.Bin.{Bin}
use Rattle.k_num.specs.declared.numbers.Bin.TheVariants as bin
use Rattle.k_num.specs.declared.numbers.Kind.{Kind}
use Rattle.k_num.specs.declared.numbers.Un.{Un}
use Rattle.k_optab.specs.declared.class.Class.TheVariants as class
use Rattle.k_types_meaning.specs.declared.types.TType.{TType}
use Rattle.k_types_meaning.specs.declared.types.TType.TheVariants as ttype
use Rattle.k_types_meaning.specs.declared.tree.expression.Change.{Change}
use Rattle.k_types_meaning.specs.declared.tree.expression.Change.TheVariants as change
use Rattle.k_types_meaning.specs.declared.tree.expression.Node.{Node}
use Rattle.k_types_meaning.specs.declared.tree.expression.Piece.{Piece}
use Rattle.k_types_meaning.specs.declared.tree.expression.Piece.TheVariants as piece
use Rattle.k_types_meaning.specs.declared.tree.expression.Written.{Written}
use Rattle.k_types_meaning.specs.declared.tree.expression.Written.TheVariants as how
use Rattle.k_types_meaning.specs.declared.tree.expression.TExpr.{TExpr, fold-roll-TExpr, ind-TExpr, map-TExpr}
use Rattle.k_types_meaning.specs.declared.tree.expression.TExpr.TheOpen.{TExpr-F}
use Rattle.k_types_meaning.specs.declared.tree.unit.TVariable.{TVariable}
use Rattle.k_types_meaning.specs.Types.{same_kind}
use Rattle.k_world.specs.declared.act.Act.TheVariants as act
use Rattle.k_world.specs.declared.act.Out.TheVariants as out
use Rattle.k_world.specs.declared.value.Held.{Held}
use Rattle.k_world.specs.declared.value.Value.TheVariants as value
use Rattle.k_world.specs.WorldLaws.{AreBytes}
use Rattle.k_evaluation.specs.declared.operand.Operand.{Operand}
use Rattle.k_evaluation.specs.declared.operand.Operand.TheVariants.{Constant, Holding, Register}
use Rattle.k_evaluation.specs.declared.operand.Target.{Target}
use Rattle.k_evaluation.specs.declared.operand.Target.TheVariants.{InRegister, InMemory}
use Rattle.k_evaluation.specs.States.{Program, Part, ◌>>=◌, gives, settled}
use Rattle.k_evaluation.specs.Meanings.{Meaning, nothing, only_value, at_place, value_at, value_in_memory, loads, on_one, on_two, in_turn, tests, holds, kind_of, scale_of}
use Rattle.k_evaluation.specs.Places.{number, string, object, variable, index, deref, address, forward, back, onto, variable_place, is_register, offset, element_at}
use Rattle.k_evaluation.specs.Operators.{plus, unary, convert, cast, binary, compare, distance, both, either, cond, comma, converts, cast_to, class_of, binary_on, truth_of, behind_test, same_truth, kind_or_int, logical, moves, arm, arm_by}
use Rattle.k_evaluation.specs.Assignments.{assign, assign_by, pre, post, writes, old_value, converts_between, converts_side, converts_back, combined, changed, changes, changes_old, one, after_old}
use Rattle.k_evaluation.specs.Library.{getchar, putchar, puts, printf, conversion_of, chunk_of}
use Rattle.k_evaluation.specs.Expressions.{Calls, call, eval_step, eval}
use Rattle.k_evaluation.specs.Texts.{piece_text, texts_step, texts}
use Rattle.k_evaluation.proofs.Written.{bytes_first, bytes_second, ChunksAreClean, IsClean, then_clean, gives_clean, sets_clean, settled_clean, makes_clean, computes_clean}

-- an expression writes bytes, as a value and as a place, and its text is bytes
pub record CleanMeaning (e : Meaning) : Type 0 where
  pub value : (used : Bool) → IsClean (e.value used)
  pub place : IsClean e.place
  pub text : AreBytes e.text

-- so do several
abbrev pub AreClean : List Meaning → Type 0
AreClean [] = Unit {0}
AreClean (e ∷ es) = CleanMeaning e × AreClean es

-- the calls write bytes
abbrev pub CleanCalls : Calls → Type 0
CleanCalls calls = (f : ℕ) (place : Place) (args : List Operand) → IsClean (calls f place args)

value_clean : (node : Node) (v : Bool → Part Operand) → ((used : Bool) → IsClean (v used)) → CleanMeaning (only_value node v)
value_clean node v each = record { value = each; place = gives_clean (InMemory nothing); text = tt }

one_clean : (node : Node) (e : Meaning) (operation : Operand → Part Operand) → CleanMeaning e → ((a : Operand) → IsClean (operation a)) → CleanMeaning (on_one node e operation)
one_clean node e operation h each = value_clean node (λ used. e.value true >>= operation) (λ used. then_clean (e.value true) operation (h.value true) each)

two_clean : (node : Node) (left right : Meaning) (operation : Operand → Operand → Part Operand) → CleanMeaning left → CleanMeaning right
    → ((a b : Operand) → IsClean (operation a b)) → CleanMeaning (on_two node left right operation)
two_clean node left right operation h k each =
    one_clean node left (λ a. right.value true >>= operation a) h (λ a. then_clean (right.value true) (operation a) (k.value true) (each a))

turn_clean : (es : List Meaning) → AreClean es → IsClean (in_turn es)
turn_clean [] h = gives_clean []
turn_clean (e ∷ es) h =
    then_clean (e.value true) (λ a. in_turn es >>= λ rest. gives (a ∷ rest)) (h.0.value true)
    (λ a. then_clean (in_turn es) (λ rest. gives (a ∷ rest)) (turn_clean es h.1) (λ rest. gives_clean (a ∷ rest)))

module _ (program : Program) where
  loads_clean : (place : Place) (used : Bool) (a : Operand) → IsClean (loads program place used a)
  loads_clean place false a = gives_clean nothing
  loads_clean place true a = computes_clean program class.Load place act.Load (a ∷ []) tt

  in_memory_clean : (place : Place) (of : TType) (used : Bool) (a : Operand) → IsClean (value_in_memory program place of used a)
  in_memory_clean place ttype.Void used a = gives_clean nothing
  in_memory_clean place (ttype.Number kind) used a = loads_clean place used a
  in_memory_clean place (ttype.Pointer target) used a = gives_clean a

  value_at_clean : (node : Node) (used : Bool) (target : Target) → IsClean (value_at program node used target)
  value_at_clean node used (InRegister n broken) = gives_clean (Register n broken)
  value_at_clean node used (InMemory a) = in_memory_clean node.place node.of used a

  place_clean : (node : Node) (place : Part Target) → IsClean place → CleanMeaning (at_place program node place)
  place_clean node place h = record {
    value = λ used. then_clean place (value_at program node used) h (value_at_clean node used);
    place = h;
    text = tt;
  }

  pub tests_clean : (place : Place) (a : Operand) → IsClean (tests program place a)
  tests_clean place a = makes_clean program class.Test place act.Test (a ∷ []) tt

  -- PLACES
  number_clean : (node : Node) (z : ℤ) → CleanMeaning (number node z)
  unfolding number
  number_clean node z = value_clean node (λ used. gives (Constant (value.Number z))) (λ used. gives_clean (Constant (value.Number z)))

  string_clean : (node : Node) (n : ℕ) (bytes : List ℕ) → AreBytes bytes → CleanMeaning (string program node n bytes)
  unfolding string
  string_clean node n bytes h = record { value = λ used. gives_clean _; place = gives_clean (InMemory nothing); text = h }

  object_clean : (node : Node) (n : ℕ) → CleanMeaning (object program node n)
  unfolding object
  object_clean node n = place_clean node _ (gives_clean _)

  variable_place_clean : (node : Node) (n : ℕ) (b : Bool) → IsClean (variable_place program node n b)
  variable_place_clean node n true = record { clean = λ s bytes. bytes }
  variable_place_clean node n false = record { clean = λ s bytes. bytes }

  variable_clean : (vs : List TVariable) (node : Node) (n : ℕ) → CleanMeaning (variable program vs node n)
  unfolding variable
  variable_clean vs node n = place_clean node (variable_place program node n (is_register vs n)) (variable_place_clean node n (is_register vs n))

  offset_clean : (place : Place) (minus : Bool) (scale : ℕ) (a b : Operand) → IsClean (offset program place minus scale a b)
  offset_clean place minus scale a b = computes_clean program class.Simple place (act.Offset minus scale) (a ∷ b ∷ []) tt

  element_clean : (place : Place) (scale : ℕ) (a b : Operand) → IsClean (element_at program place scale a b)
  element_clean place scale a b =
      then_clean (offset program place false scale a b) (λ address. gives (InMemory address)) (offset_clean place false scale a b) (λ address. gives_clean (InMemory address))

  index_clean : (node : Node) (base by : Meaning) → CleanMeaning base → CleanMeaning by → CleanMeaning (index program node base by)
  unfolding index
  index_clean node base by h k =
      place_clean node (base.value true >>= λ a. by.value true >>= element_at program node.place (scale_of base.node.of) a)
      (then_clean (base.value true) (λ a. by.value true >>= element_at program node.place (scale_of base.node.of) a) (h.value true)
      (λ a. then_clean (by.value true) (element_at program node.place (scale_of base.node.of) a) (k.value true) (element_clean node.place (scale_of base.node.of) a)))

  deref_clean : (node : Node) (e : Meaning) → CleanMeaning e → CleanMeaning (deref program node e)
  unfolding deref
  deref_clean node e h =
      place_clean node (e.value true >>= λ pointer. gives (InMemory pointer))
      (then_clean (e.value true) (λ pointer. gives (InMemory pointer)) (h.value true) (λ a. gives_clean (InMemory a)))

  address_clean : (node : Node) (e : Meaning) → CleanMeaning e → CleanMeaning (address node e)
  unfolding address
  address_clean node e h = value_clean node _ (λ used. then_clean e.place _ h.place (λ target. gives_clean _))

  forward_clean : (node : Node) (a b : Meaning) → CleanMeaning a → CleanMeaning b → CleanMeaning (forward program node a b)
  unfolding forward
  forward_clean node a b h k = two_clean node a b _ h k (λ x y. offset_clean node.place false (scale_of node.of) x y)

  back_clean : (node : Node) (a b : Meaning) → CleanMeaning a → CleanMeaning b → CleanMeaning (back program node a b)
  unfolding back
  back_clean node a b h k = two_clean node a b _ h k (λ x y. offset_clean node.place true (scale_of node.of) x y)

  onto_clean : (node : Node) (a b : Meaning) → CleanMeaning a → CleanMeaning b → CleanMeaning (onto program node a b)
  unfolding onto
  onto_clean node a b h k = two_clean node a b _ h k (λ x y. offset_clean node.place false (scale_of node.of) y x)

  -- OPERATORS
  plus_clean : (node : Node) (e : Meaning) → CleanMeaning e → CleanMeaning (plus node e)
  unfolding plus
  plus_clean node e h = value_clean node e.value h.value

  unary_clean : (node : Node) (op : Un) (kind : Kind) (e : Meaning) → CleanMeaning e → CleanMeaning (unary program node op kind e)
  unfolding unary
  unary_clean node op kind e h = one_clean node e _ h (λ a. computes_clean program class.Simple node.place (act.Unary op kind) (a ∷ []) tt)

  converts_clean : (place : Place) (to : Option Kind) (a : Operand) → IsClean (converts program place to a)
  converts_clean place None a = gives_clean a
  converts_clean place (Some kind) a = computes_clean program class.Conv place (act.Convert kind) (a ∷ []) tt

  convert_clean : (node : Node) (e : Meaning) → CleanMeaning e → CleanMeaning (convert program node e)
  unfolding convert
  convert_clean node e h = one_clean node e (converts program node.place (kind_of node.of)) h (converts_clean node.place (kind_of node.of))

  cast_to_clean : (place : Place) (of : TType) (e : Meaning) (used : Bool) → CleanMeaning e → IsClean (cast_to program place of e used)
  cast_to_clean place ttype.Void e used h = then_clean (e.value false) (λ a. gives nothing) (h.value false) (λ a. gives_clean nothing)
  cast_to_clean place (ttype.Number kind) e used h = then_clean (e.value true) (converts program place (Some kind)) (h.value true) (converts_clean place (Some kind))
  cast_to_clean place (ttype.Pointer target) e used h = h.value used

  cast_clean : (node : Node) (e : Meaning) → CleanMeaning e → CleanMeaning (cast program node e)
  unfolding cast
  cast_clean node e h = value_clean node (cast_to program node.place node.of e) (λ used. cast_to_clean node.place node.of e used h)

  binary_on_clean : (place : Place) (op : Bin) (kind : Kind) (a b : Operand) → IsClean (binary_on program place op kind a b)
  binary_on_clean place op kind a b = computes_clean program (class_of op) place (act.Binary op kind) (a ∷ b ∷ []) tt

  binary_clean : (node : Node) (op : Bin) (kind : Kind) (a b : Meaning) → CleanMeaning a → CleanMeaning b → CleanMeaning (binary program node op kind a b)
  unfolding binary
  binary_clean node op kind a b h k = two_clean node a b (binary_on program node.place op kind) h k (binary_on_clean node.place op kind)

  compare_clean : (node : Node) (op : Bin) (a b : Meaning) → CleanMeaning a → CleanMeaning b → CleanMeaning (compare program node op a b)
  unfolding compare
  compare_clean node op a b h k = two_clean node a b _ h k (λ x y. computes_clean program class.Simple node.place (act.PtrCompare op) (x ∷ y ∷ []) tt)

  distance_clean : (node : Node) (a b : Meaning) → CleanMeaning a → CleanMeaning b → CleanMeaning (distance program node a b)
  unfolding distance
  distance_clean node a b h k = two_clean node a b _ h k (λ x y. computes_clean program class.Div node.place (act.PtrDistance (scale_of a.node.of)) (x ∷ y ∷ []) tt)

  truth_clean : (node : Node) (right : Meaning) → CleanMeaning right → IsClean (truth_of program node right)
  truth_clean node right h =
      then_clean (right.value true) _ (h.value true)
      (λ b. computes_clean program class.Simple node.place (act.Binary bin.Ne (kind_or_int (kind_of right.node.of))) (b ∷ nothing ∷ []) tt)

  behind_test_clean : (node : Node) (decides : Bool) (right : Meaning) (test : Held) → CleanMeaning right → IsClean (behind_test program node decides right test)
  behind_test_clean node decides right test h = by (same_truth (holds test) decides)
    where
      by : (b : Bool) → IsClean (if b then gives (Holding test) else truth_of program node right)
      by true = gives_clean (Holding test)
      by false = truth_clean node right h

  logical_clean : (node : Node) (decides : Bool) (left right : Meaning) → CleanMeaning left → CleanMeaning right → CleanMeaning (logical program node decides left right)
  logical_clean node decides left right h k =
      value_clean node (λ used. settled false (left.value true >>= λ a. tests program node.place a >>= behind_test program node decides right))
      (λ used. settled_clean false (left.value true >>= λ a. tests program node.place a >>= behind_test program node decides right)
      (then_clean (left.value true) (λ a. tests program node.place a >>= behind_test program node decides right) (h.value true)
      (λ a. then_clean (tests program node.place a) (behind_test program node decides right) (tests_clean node.place a) (λ test. behind_test_clean node decides right test k))))

  both_clean : (node : Node) (a b : Meaning) → CleanMeaning a → CleanMeaning b → CleanMeaning (both program node a b)
  unfolding both
  both_clean node a b h k = logical_clean node false a b h k

  either_clean : (node : Node) (a b : Meaning) → CleanMeaning a → CleanMeaning b → CleanMeaning (either program node a b)
  unfolding either
  either_clean node a b h k = logical_clean node true a b h k

  moves_clean : (place : Place) (a : Operand) → IsClean (moves program place a)
  moves_clean place a = computes_clean program class.Move place act.Move (a ∷ []) tt

  arm_clean : (place : Place) (of : TType) (e : Meaning) → CleanMeaning e → IsClean (arm program place of e)
  arm_clean place ttype.Void e h = then_clean (e.value false) (λ a. gives nothing) (h.value false) (λ a. gives_clean nothing)
  arm_clean place (ttype.Number kind) e h = then_clean (e.value true) (moves program place) (h.value true) (moves_clean place)
  arm_clean place (ttype.Pointer target) e h = then_clean (e.value true) (moves program place) (h.value true) (moves_clean place)

  arm_by_clean : (node : Node) (first second : Meaning) (test : Held) → CleanMeaning first → CleanMeaning second → IsClean (arm_by program node first second test)
  arm_by_clean node first second test h k = by (holds test)
    where
      by : (b : Bool) → IsClean (if b then arm program node.place node.of first else arm program node.place node.of second)
      by true = arm_clean node.place node.of first h
      by false = arm_clean node.place node.of second k

  cond_clean : (node : Node) (test a b : Meaning) → CleanMeaning test → CleanMeaning a → CleanMeaning b → CleanMeaning (cond program node test a b)
  unfolding cond
  cond_clean node test a b t h k =
      value_clean node (λ used. settled false (test.value true >>= λ x. tests program node.place x >>= arm_by program node a b))
      (λ used. settled_clean false (test.value true >>= λ x. tests program node.place x >>= arm_by program node a b)
      (then_clean (test.value true) (λ x. tests program node.place x >>= arm_by program node a b) (t.value true)
      (λ x. then_clean (tests program node.place x) (arm_by program node a b) (tests_clean node.place x) (λ held. arm_by_clean node a b held h k))))

  comma_clean : (node : Node) (a b : Meaning) → CleanMeaning a → CleanMeaning b → CleanMeaning (comma node a b)
  unfolding comma
  comma_clean node a b h k = value_clean node (λ used. a.value false >>= λ x. b.value used) (λ used. then_clean (a.value false) (λ x. b.value used) (h.value false) (λ x. k.value used))

  -- ASSIGNMENTS
  pub writes_clean : (place : Place) (target : Target) (a : Operand) → IsClean (writes program place target a)
  writes_clean place (InRegister n broken) a =
      then_clean _ _ (makes_clean program class.Move place act.Move (a ∷ []) tt)
      (λ held. then_clean _ _ (sets_clean n (Some held)) (λ done. gives_clean (Register n false)))
  writes_clean place (InMemory address) a = computes_clean program class.Store place act.Store (address ∷ a ∷ []) tt

  assign_clean : (node : Node) (left right : Meaning) → CleanMeaning left → CleanMeaning right → CleanMeaning (assign program node left right)
  unfolding assign
  assign_clean node left right h k =
      value_clean node _ (λ used. then_clean left.place _ h.place (λ target. then_clean (right.value true) (writes program node.place target) (k.value true) (writes_clean node.place target)))

  old_clean : (place : Place) (target : Target) → IsClean (old_value program place target)
  old_clean place (InRegister n broken) = gives_clean (Register n broken)
  old_clean place (InMemory address) = computes_clean program class.Load place act.Load (address ∷ []) tt

  between_clean : (place : Place) (from to : Kind) (a : Operand) → IsClean (converts_between program place from to a)
  between_clean place from to a = by (same_kind from to)
    where
      by : (b : Bool) → IsClean (if b then gives a else converts program place (Some to) a)
      by true = gives_clean a
      by false = converts_clean place (Some to) a

  side_clean : (place : Place) (from : Option Kind) (to : Kind) (a : Operand) → IsClean (converts_side program place from to a)
  side_clean place None to a = gives_clean a
  side_clean place (Some from) to a = between_clean place from to a

  back_in_clean : (place : Place) (from : Kind) (to : Option Kind) (a : Operand) → IsClean (converts_back program place from to a)
  back_in_clean place from None a = gives_clean a
  back_in_clean place from (Some to) a = between_clean place from to a

  changed_clean : (place : Place) (c : Change) (of : TType) (by_of : Option Kind) (old by : Operand) → IsClean (changed program place c of by_of old by)
  changed_clean place (change.Number op kind) of by_of old by =
      then_clean _ _ (side_clean place (kind_of of) kind old)
      (λ a. then_clean _ _ (side_clean place by_of _ by)
      (λ b. then_clean (binary_on program place op kind a b) (converts_back program place kind (kind_of of)) (binary_on_clean place op kind a b) (back_in_clean place kind (kind_of of))))
  changed_clean place change.Forward of by_of old by = offset_clean place false (scale_of of) old by
  changed_clean place change.Back of by_of old by = offset_clean place true (scale_of of) old by

  changes_clean : (node : Node) (c : Change) (by_of : Option Kind) (target : Target) (by old : Operand) → IsClean (changes program node c by_of target by old)
  changes_clean node c by_of target by old =
      then_clean (changed program node.place c node.of by_of old by) (writes program node.place target) (changed_clean node.place c node.of by_of old by) (writes_clean node.place target)

  changes_old_clean : (node : Node) (c : Change) (by_of : Option Kind) (target : Target) (by : Operand) → IsClean (changes_old program node c by_of target by)
  changes_old_clean node c by_of target by =
      then_clean (old_value program node.place target) (changes program node c by_of target by) (old_clean node.place target) (changes_clean node c by_of target by)

  assign_by_clean : (node : Node) (c : Change) (left right : Meaning) → CleanMeaning left → CleanMeaning right → CleanMeaning (assign_by program node c left right)
  unfolding assign_by
  assign_by_clean node c left right h k =
      value_clean node _ (λ used. then_clean left.place _ h.place
      (λ target. then_clean (right.value true) (changes_old program node c (kind_of right.node.of) target) (k.value true) (changes_old_clean node c (kind_of right.node.of) target)))

  pre_clean : (node : Node) (c : Change) (e : Meaning) → CleanMeaning e → CleanMeaning (pre program node c e)
  unfolding pre
  pre_clean node c e h = value_clean node _ (λ used. then_clean e.place _ h.place (λ target. changes_old_clean node c None target one))

  after_old_clean : (node : Node) (c : Change) (used : Bool) (target : Target) (old : Operand) → IsClean (after_old program node c used target old)
  after_old_clean node c false target old = changes_clean node c None target one old
  after_old_clean node c true target old =
      then_clean (moves program node.place old) _ (moves_clean node.place old)
      (λ kept. then_clean (changes program node c None target one old) (λ v. gives kept) (changes_clean node c None target one old) (λ v. gives_clean kept))

  post_clean : (node : Node) (c : Change) (e : Meaning) → CleanMeaning e → CleanMeaning (post program node c e)
  unfolding post
  post_clean node c e h =
      value_clean node _ (λ used. then_clean e.place _ h.place
      (λ target. then_clean (old_value program node.place target) (after_old program node c used target) (old_clean node.place target) (after_old_clean node c used target)))

  -- THE LIBRARY AND CALLS
  getchar_clean : (node : Node) → CleanMeaning (getchar program node)
  unfolding getchar
  getchar_clean node = value_clean node _ (λ used. computes_clean program class.Input node.place act.Input [] tt)

  putchar_clean : (node : Node) (e : Meaning) → CleanMeaning e → CleanMeaning (putchar program node e)
  unfolding putchar
  putchar_clean node e h = one_clean node e _ h (λ a. computes_clean program class.Output node.place (act.Output out.Byte) (a ∷ []) tt)

  puts_clean : (node : Node) (e : Meaning) → CleanMeaning e → CleanMeaning (puts program node e)
  unfolding puts
  puts_clean node e h = value_clean node _ (λ used. computes_clean program class.Output node.place (act.Output (out.Line e.text)) [] h.text)

  written_as : (how_written : Written) (chunks : List _) → ChunksAreClean chunks → ChunksAreClean (conversion_of how_written ∷ chunks)
  written_as how.Byte chunks h = h
  written_as how.Decimal chunks h = h
  written_as how.Hex chunks h = h

  format_clean : (format : List Piece) → AreBytes (concat (map piece_text format)) → ChunksAreClean (map chunk_of format)
  format_clean [] h = tt
  format_clean (piece.Bytes bytes ∷ format) h = (bytes_first bytes (concat (map piece_text format)) h, format_clean format (bytes_second bytes (concat (map piece_text format)) h))
  format_clean (piece.Argument w ∷ format) h = written_as w (map chunk_of format) (format_clean format h)

  printf_clean : (node : Node) (format : List Piece) (args : List Meaning) → AreBytes (concat (map piece_text format)) → AreClean args → CleanMeaning (printf program node format args)
  unfolding printf
  printf_clean node format args h k =
      value_clean node _ (λ used. then_clean (in_turn args) _ (turn_clean args k)
      (λ operands. computes_clean program class.Output node.place (act.Output (out.Format (map chunk_of format))) operands (format_clean format h)))

  call_clean : (calls : Calls) (node : Node) (f : ℕ) (args : List Meaning) → CleanCalls calls → AreClean args → CleanMeaning (call calls node f args)
  unfolding call
  call_clean calls node f args h k = value_clean node (λ used. in_turn args >>= calls f node.place) (λ used. then_clean (in_turn args) (calls f node.place) (turn_clean args k) (h f node.place))

  -- AN EXPRESSION
  module _ (vs : List TVariable) (calls : Calls) (calls_clean : CleanCalls calls) where
    abbrev meaning : TExpr → Meaning
    meaning = eval program vs calls

    abbrev step : TExpr-F Meaning → Meaning
    step = eval_step program vs calls

    -- an expression writes bytes where its texts are bytes
    abbrev Writes : TExpr → Type 0
    Writes e = AreBytes (texts e) → CleanMeaning (meaning e)

    -- the same of the results of its parts
    abbrev WritesStep : TExpr-F TExpr → Type 0
    WritesStep x = AreBytes (texts_step (map-TExpr TExpr (List ℕ) texts x)) → CleanMeaning (step (map-TExpr TExpr Meaning meaning x))

    all_clean : (items : List ((e : TExpr) × Writes e)) → AreBytes (concat (map texts (map (λ (x : (e : TExpr) × Writes e). x.0) items)))
        → AreClean (map meaning (map (λ (x : (e : TExpr) × Writes e). x.0) items))
    all_clean [] h = tt
    all_clean (x ∷ items) h =
        let rest : List ℕ = concat (map texts (map (λ (x : (e : TExpr) × Writes e). x.0) items)) in
        (x.1 (bytes_first (texts x.0) rest h), all_clean items (bytes_second (texts x.0) rest h))

    step_clean : (y : TExpr-F ((e : TExpr) × Writes e)) → WritesStep (map-TExpr _ TExpr (λ (x : (e : TExpr) × Writes e). x.0) y)
    step_clean (TExpr-F.Number node z) h = number_clean node z
    step_clean (TExpr-F.Str node n bytes) h = string_clean node n bytes h
    step_clean (TExpr-F.Object node n) h = object_clean node n
    step_clean (TExpr-F.Variable node n) h = variable_clean vs node n
    step_clean (TExpr-F.Index node a b) h = index_clean node (meaning a.0) (meaning b.0) (a.1 (bytes_first (texts a.0) (texts b.0) h)) (b.1 (bytes_second (texts a.0) (texts b.0) h))
    step_clean (TExpr-F.Call node f args) h = call_clean calls node f _ calls_clean (all_clean args h)
    step_clean (TExpr-F.Getchar node) h = getchar_clean node
    step_clean (TExpr-F.Putchar node a) h = putchar_clean node (meaning a.0) (a.1 h)
    step_clean (TExpr-F.Puts node a) h = puts_clean node (meaning a.0) (a.1 h)
    step_clean (TExpr-F.Printf node format args) h =
        let rest : List ℕ = concat (map texts (map (λ (x : (e : TExpr) × Writes e). x.0) args)) in
        printf_clean node format _ (bytes_first (concat (map piece_text format)) rest h) (all_clean args (bytes_second (concat (map piece_text format)) rest h))
    step_clean (TExpr-F.Post node c a) h = post_clean node c (meaning a.0) (a.1 h)
    step_clean (TExpr-F.Pre node c a) h = pre_clean node c (meaning a.0) (a.1 h)
    step_clean (TExpr-F.Address node a) h = address_clean node (meaning a.0) (a.1 h)
    step_clean (TExpr-F.Deref node a) h = deref_clean node (meaning a.0) (a.1 h)
    step_clean (TExpr-F.Plus node a) h = plus_clean node (meaning a.0) (a.1 h)
    step_clean (TExpr-F.Unary node op kind a) h = unary_clean node op kind (meaning a.0) (a.1 h)
    step_clean (TExpr-F.Convert node a) h = convert_clean node (meaning a.0) (a.1 h)
    step_clean (TExpr-F.Cast node a) h = cast_clean node (meaning a.0) (a.1 h)
    step_clean (TExpr-F.Binary node op kind a b) h =
        binary_clean node op kind (meaning a.0) (meaning b.0) (a.1 (bytes_first (texts a.0) (texts b.0) h)) (b.1 (bytes_second (texts a.0) (texts b.0) h))
    step_clean (TExpr-F.Both node a b) h = both_clean node (meaning a.0) (meaning b.0) (a.1 (bytes_first (texts a.0) (texts b.0) h)) (b.1 (bytes_second (texts a.0) (texts b.0) h))
    step_clean (TExpr-F.Either node a b) h = either_clean node (meaning a.0) (meaning b.0) (a.1 (bytes_first (texts a.0) (texts b.0) h)) (b.1 (bytes_second (texts a.0) (texts b.0) h))
    step_clean (TExpr-F.Forward node a b) h = forward_clean node (meaning a.0) (meaning b.0) (a.1 (bytes_first (texts a.0) (texts b.0) h)) (b.1 (bytes_second (texts a.0) (texts b.0) h))
    step_clean (TExpr-F.Onto node a b) h = onto_clean node (meaning a.0) (meaning b.0) (a.1 (bytes_first (texts a.0) (texts b.0) h)) (b.1 (bytes_second (texts a.0) (texts b.0) h))
    step_clean (TExpr-F.Back node a b) h = back_clean node (meaning a.0) (meaning b.0) (a.1 (bytes_first (texts a.0) (texts b.0) h)) (b.1 (bytes_second (texts a.0) (texts b.0) h))
    step_clean (TExpr-F.PtrCompare node op a b) h =
        compare_clean node op (meaning a.0) (meaning b.0) (a.1 (bytes_first (texts a.0) (texts b.0) h)) (b.1 (bytes_second (texts a.0) (texts b.0) h))
    step_clean (TExpr-F.PtrDistance node a b) h =
        distance_clean node (meaning a.0) (meaning b.0) (a.1 (bytes_first (texts a.0) (texts b.0) h)) (b.1 (bytes_second (texts a.0) (texts b.0) h))
    step_clean (TExpr-F.Cond node a b c) h =
        let rest = bytes_second (texts a.0) (texts b.0 ++ texts c.0) h in
        cond_clean node (meaning a.0) (meaning b.0) (meaning c.0) (a.1 (bytes_first (texts a.0) (texts b.0 ++ texts c.0) h))
        (b.1 (bytes_first (texts b.0) (texts c.0) rest)) (c.1 (bytes_second (texts b.0) (texts c.0) rest))
    step_clean (TExpr-F.Assign node a b) h = assign_clean node (meaning a.0) (meaning b.0) (a.1 (bytes_first (texts a.0) (texts b.0) h)) (b.1 (bytes_second (texts a.0) (texts b.0) h))
    step_clean (TExpr-F.AssignBy node c a b) h =
        assign_by_clean node c (meaning a.0) (meaning b.0) (a.1 (bytes_first (texts a.0) (texts b.0) h)) (b.1 (bytes_second (texts a.0) (texts b.0) h))
    step_clean (TExpr-F.Comma node a b) h = comma_clean node (meaning a.0) (meaning b.0) (a.1 (bytes_first (texts a.0) (texts b.0) h)) (b.1 (bytes_second (texts a.0) (texts b.0) h))

    pub eval_clean : (e : TExpr) → AreBytes (texts e) → CleanMeaning (eval program vs calls e)
    eval_clean =
        ind-TExpr Writes
        (λ x y is h.
        let parts : WritesStep x = subst WritesStep is (step_clean y) in
        subst CleanMeaning (sym (fold-roll-TExpr Meaning step x)) (parts (subst AreBytes (fold-roll-TExpr (List ℕ) texts_step x) h)))
