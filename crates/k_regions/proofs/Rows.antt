-- Expressions add such events, where calls do.
use Rattle.std.proofs.Common.{ℕ, ℤ, List, [], ◌∷◌, map, Option, Some, None, Bool, true, false, if◌then◌else◌, refl, sym, subst}
use Rattle.k_num.specs.declared.place.Place.{Place}
use Rattle.k_num.specs.declared.numbers.Bin.{Bin}
use Rattle.k_num.specs.declared.numbers.Bin.TheVariants as bin
use Rattle.k_num.specs.declared.numbers.Kind.{Kind}
use Rattle.k_num.specs.declared.numbers.Un.{Un}
use Rattle.k_optab.specs.declared.class.Class.TheVariants as class
use Rattle.k_types_meaning.specs.declared.types.TType.{TType}
use Rattle.k_types_meaning.specs.declared.types.TType.TheVariants as ttype
use Rattle.k_types_meaning.specs.declared.tree.expression.Change.{Change}
use Rattle.k_types_meaning.specs.declared.tree.expression.Change.TheVariants as change
use Rattle.k_types_meaning.specs.declared.tree.expression.Node.{Node}
use Rattle.k_types_meaning.specs.declared.tree.expression.TExpr.{TExpr, fold-roll-TExpr, ind-TExpr, map-TExpr}
use Rattle.k_types_meaning.specs.declared.tree.expression.TExpr.TheOpen.{TExpr-F}
use Rattle.k_types_meaning.specs.declared.tree.unit.TVariable.{TVariable}
use Rattle.k_types_meaning.specs.Types.{same_kind}
use Rattle.k_world.specs.declared.act.Act.TheVariants as act
use Rattle.k_world.specs.declared.act.Out.TheVariants as out
use Rattle.k_world.specs.declared.value.Held.{Held}
use Rattle.k_world.specs.declared.value.Value.TheVariants as value
use Rattle.k_evaluation.specs.declared.operand.Operand.{Operand}
use Rattle.k_evaluation.specs.declared.operand.Operand.TheVariants.{Constant, Holding, Register}
use Rattle.k_evaluation.specs.declared.operand.Target.{Target}
use Rattle.k_evaluation.specs.declared.operand.Target.TheVariants.{InRegister, InMemory}
use Rattle.k_evaluation.specs.States.{Program, Part, ◌>>=◌, gives, settled}
use Rattle.k_evaluation.specs.Meanings.{Meaning, nothing, only_value, at_place, value_at, value_in_memory, loads, on_one, on_two, in_turn, tests, holds, kind_of, scale_of}
use Rattle.k_evaluation.specs.Places.{number, string, object, variable, index, deref, address, forward, back, onto, variable_place, is_register, offset, element_at}
use Rattle.k_evaluation.specs.Operators.{plus, unary, convert, cast, binary, compare, distance, both, either, cond, comma, converts, cast_to, class_of, binary_on, truth_of, behind_test, same_truth, kind_or_int, logical, moves, arm, arm_by}
use Rattle.k_evaluation.specs.Assignments.{assign, assign_by, pre, post, writes, old_value, converts_between, converts_side, converts_back, changed, changes, changes_old, one, after_old}
use Rattle.k_evaluation.specs.Library.{getchar, putchar, puts, printf, chunk_of}
use Rattle.k_evaluation.specs.Expressions.{Calls, call, eval_step, eval}
use Rattle.k_types_meaning.specs.declared.tree.expression.Piece.{Piece}
use Rattle.k_regions.proofs.Added.{Policy, Adds, then_adds, gives_adds, sets_adds, settled_adds, makes_adds, computes_adds, still_adds}

module _ (P : Policy) where
  -- an expression adds such events, as a value and as a place
  pub record MeaningAdds (e : Meaning) : Type 0 where
    pub value : (used : Bool) → Adds P (e.value used)
    pub place : Adds P e.place

  -- so do several
  abbrev pub AllAdd : List Meaning → Type 0
  AllAdd [] = Unit {0}
  AllAdd (e ∷ es) = MeaningAdds e × AllAdd es

  -- so do the calls
  abbrev pub CallsAdd : Calls → Type 0
  CallsAdd calls = (f : ℕ) (place : Place) (args : List Operand) → Adds P (calls f place args)

  value_adds : (node : Node) (v : Bool → Part Operand) → ((used : Bool) → Adds P (v used)) → MeaningAdds (only_value node v)
  value_adds node v each = record { value = each; place = gives_adds P (InMemory nothing) }

  one_adds : (node : Node) (e : Meaning) (operation : Operand → Part Operand) → MeaningAdds e → ((a : Operand) → Adds P (operation a)) → MeaningAdds (on_one node e operation)
  one_adds node e operation h each = value_adds node (λ used. e.value true >>= operation) (λ used. then_adds P (e.value true) operation (h.value true) each)

  two_adds : (node : Node) (left right : Meaning) (operation : Operand → Operand → Part Operand) → MeaningAdds left → MeaningAdds right
      → ((a b : Operand) → Adds P (operation a b)) → MeaningAdds (on_two node left right operation)
  two_adds node left right operation h k each =
      one_adds node left (λ a. right.value true >>= operation a) h (λ a. then_adds P (right.value true) (operation a) (k.value true) (each a))

  turn_adds : (es : List Meaning) → AllAdd es → Adds P (in_turn es)
  turn_adds [] h = gives_adds P []
  turn_adds (e ∷ es) h =
      then_adds P (e.value true) (λ a. in_turn es >>= λ rest. gives (a ∷ rest)) (h.0.value true)
      (λ a. then_adds P (in_turn es) (λ rest. gives (a ∷ rest)) (turn_adds es h.1) (λ rest. gives_adds P (a ∷ rest)))

  module _ (program : Program) where
    loads_adds : (place : Place) (used : Bool) (a : Operand) → Adds P (loads program place used a)
    loads_adds place false a = gives_adds P nothing
    loads_adds place true a = computes_adds P program class.Load place act.Load (a ∷ [])

    in_memory_adds : (place : Place) (of : TType) (used : Bool) (a : Operand) → Adds P (value_in_memory program place of used a)
    in_memory_adds place ttype.Void used a = gives_adds P nothing
    in_memory_adds place (ttype.Number kind) used a = loads_adds place used a
    in_memory_adds place (ttype.Pointer target) used a = gives_adds P a

    value_at_adds : (node : Node) (used : Bool) (target : Target) → Adds P (value_at program node used target)
    value_at_adds node used (InRegister n broken) = gives_adds P (Register n broken)
    value_at_adds node used (InMemory a) = in_memory_adds node.place node.of used a

    place_adds : (node : Node) (place : Part Target) → Adds P place → MeaningAdds (at_place program node place)
    place_adds node place h = record {
      value = λ used. then_adds P place (value_at program node used) h (value_at_adds node used);
      place = h;
    }

    tests_adds : (place : Place) (a : Operand) → Adds P (tests program place a)
    tests_adds place a = makes_adds P program class.Test place act.Test (a ∷ [])

    -- PLACES
    number_adds : (node : Node) (z : ℤ) → MeaningAdds (number node z)
    unfolding number
    number_adds node z = value_adds node (λ used. gives (Constant (value.Number z))) (λ used. gives_adds P (Constant (value.Number z)))

    string_adds : (node : Node) (n : ℕ) (bytes : List ℕ) → MeaningAdds (string program node n bytes)
    unfolding string
    string_adds node n bytes = record { value = λ used. gives_adds P _; place = gives_adds P (InMemory nothing) }

    object_adds : (node : Node) (n : ℕ) → MeaningAdds (object program node n)
    unfolding object
    object_adds node n = place_adds node _ (gives_adds P _)

    variable_place_adds : (node : Node) (n : ℕ) (b : Bool) → Adds P (variable_place program node n b)
    variable_place_adds node n true = still_adds P (variable_place program node n true) (record { still = λ s. refl })
    variable_place_adds node n false = still_adds P (variable_place program node n false) (record { still = λ s. refl })

    variable_adds : (vs : List TVariable) (node : Node) (n : ℕ) → MeaningAdds (variable program vs node n)
    unfolding variable
    variable_adds vs node n = place_adds node (variable_place program node n (is_register vs n)) (variable_place_adds node n (is_register vs n))

    offset_adds : (place : Place) (minus : Bool) (scale : ℕ) (a b : Operand) → Adds P (offset program place minus scale a b)
    offset_adds place minus scale a b = computes_adds P program class.Simple place (act.Offset minus scale) (a ∷ b ∷ [])

    element_adds : (place : Place) (scale : ℕ) (a b : Operand) → Adds P (element_at program place scale a b)
    element_adds place scale a b =
        then_adds P (offset program place false scale a b) (λ address. gives (InMemory address)) (offset_adds place false scale a b) (λ address. gives_adds P (InMemory address))

    index_adds : (node : Node) (base by : Meaning) → MeaningAdds base → MeaningAdds by → MeaningAdds (index program node base by)
    unfolding index
    index_adds node base by h k =
        place_adds node (base.value true >>= λ a. by.value true >>= element_at program node.place (scale_of base.node.of) a)
        (then_adds P (base.value true) (λ a. by.value true >>= element_at program node.place (scale_of base.node.of) a) (h.value true)
        (λ a. then_adds P (by.value true) (element_at program node.place (scale_of base.node.of) a) (k.value true) (element_adds node.place (scale_of base.node.of) a)))

    deref_adds : (node : Node) (e : Meaning) → MeaningAdds e → MeaningAdds (deref program node e)
    unfolding deref
    deref_adds node e h =
        place_adds node (e.value true >>= λ pointer. gives (InMemory pointer))
        (then_adds P (e.value true) (λ pointer. gives (InMemory pointer)) (h.value true) (λ a. gives_adds P (InMemory a)))

    address_adds : (node : Node) (e : Meaning) → MeaningAdds e → MeaningAdds (address node e)
    unfolding address
    address_adds node e h = value_adds node _ (λ used. then_adds P e.place _ h.place (λ target. gives_adds P _))

    forward_adds : (node : Node) (a b : Meaning) → MeaningAdds a → MeaningAdds b → MeaningAdds (forward program node a b)
    unfolding forward
    forward_adds node a b h k = two_adds node a b _ h k (λ x y. offset_adds node.place false (scale_of node.of) x y)

    back_adds : (node : Node) (a b : Meaning) → MeaningAdds a → MeaningAdds b → MeaningAdds (back program node a b)
    unfolding back
    back_adds node a b h k = two_adds node a b _ h k (λ x y. offset_adds node.place true (scale_of node.of) x y)

    onto_adds : (node : Node) (a b : Meaning) → MeaningAdds a → MeaningAdds b → MeaningAdds (onto program node a b)
    unfolding onto
    onto_adds node a b h k = two_adds node a b _ h k (λ x y. offset_adds node.place false (scale_of node.of) y x)

    -- OPERATORS
    plus_adds : (node : Node) (e : Meaning) → MeaningAdds e → MeaningAdds (plus node e)
    unfolding plus
    plus_adds node e h = value_adds node e.value h.value

    unary_adds : (node : Node) (op : Un) (kind : Kind) (e : Meaning) → MeaningAdds e → MeaningAdds (unary program node op kind e)
    unfolding unary
    unary_adds node op kind e h = one_adds node e _ h (λ a. computes_adds P program class.Simple node.place (act.Unary op kind) (a ∷ []))

    converts_adds : (place : Place) (to : Option Kind) (a : Operand) → Adds P (converts program place to a)
    converts_adds place None a = gives_adds P a
    converts_adds place (Some kind) a = computes_adds P program class.Conv place (act.Convert kind) (a ∷ [])

    convert_adds : (node : Node) (e : Meaning) → MeaningAdds e → MeaningAdds (convert program node e)
    unfolding convert
    convert_adds node e h = one_adds node e (converts program node.place (kind_of node.of)) h (converts_adds node.place (kind_of node.of))

    cast_to_adds : (place : Place) (of : TType) (e : Meaning) (used : Bool) → MeaningAdds e → Adds P (cast_to program place of e used)
    cast_to_adds place ttype.Void e used h = then_adds P (e.value false) (λ a. gives nothing) (h.value false) (λ a. gives_adds P nothing)
    cast_to_adds place (ttype.Number kind) e used h = then_adds P (e.value true) (converts program place (Some kind)) (h.value true) (converts_adds place (Some kind))
    cast_to_adds place (ttype.Pointer target) e used h = h.value used

    cast_adds : (node : Node) (e : Meaning) → MeaningAdds e → MeaningAdds (cast program node e)
    unfolding cast
    cast_adds node e h = value_adds node (cast_to program node.place node.of e) (λ used. cast_to_adds node.place node.of e used h)

    binary_on_adds : (place : Place) (op : Bin) (kind : Kind) (a b : Operand) → Adds P (binary_on program place op kind a b)
    binary_on_adds place op kind a b = computes_adds P program (class_of op) place (act.Binary op kind) (a ∷ b ∷ [])

    binary_adds : (node : Node) (op : Bin) (kind : Kind) (a b : Meaning) → MeaningAdds a → MeaningAdds b → MeaningAdds (binary program node op kind a b)
    unfolding binary
    binary_adds node op kind a b h k = two_adds node a b (binary_on program node.place op kind) h k (binary_on_adds node.place op kind)

    compare_adds : (node : Node) (op : Bin) (a b : Meaning) → MeaningAdds a → MeaningAdds b → MeaningAdds (compare program node op a b)
    unfolding compare
    compare_adds node op a b h k = two_adds node a b _ h k (λ x y. computes_adds P program class.Simple node.place (act.PtrCompare op) (x ∷ y ∷ []))

    distance_adds : (node : Node) (a b : Meaning) → MeaningAdds a → MeaningAdds b → MeaningAdds (distance program node a b)
    unfolding distance
    distance_adds node a b h k = two_adds node a b _ h k (λ x y. computes_adds P program class.Div node.place (act.PtrDistance (scale_of a.node.of)) (x ∷ y ∷ []))

    truth_adds : (node : Node) (right : Meaning) → MeaningAdds right → Adds P (truth_of program node right)
    truth_adds node right h =
        then_adds P (right.value true) _ (h.value true)
        (λ b. computes_adds P program class.Simple node.place (act.Binary bin.Ne (kind_or_int (kind_of right.node.of))) (b ∷ nothing ∷ []))

    behind_test_adds : (node : Node) (decides : Bool) (right : Meaning) (test : Held) → MeaningAdds right → Adds P (behind_test program node decides right test)
    behind_test_adds node decides right test h = by (same_truth (holds test) decides)
      where
        by : (b : Bool) → Adds P (if b then gives (Holding test) else truth_of program node right)
        by true = gives_adds P (Holding test)
        by false = truth_adds node right h

    logical_adds : (node : Node) (decides : Bool) (left right : Meaning) → MeaningAdds left → MeaningAdds right → MeaningAdds (logical program node decides left right)
    logical_adds node decides left right h k =
        value_adds node (λ used. settled false (left.value true >>= λ a. tests program node.place a >>= behind_test program node decides right))
        (λ used. settled_adds P false (left.value true >>= λ a. tests program node.place a >>= behind_test program node decides right)
        (then_adds P (left.value true) (λ a. tests program node.place a >>= behind_test program node decides right) (h.value true)
        (λ a. then_adds P (tests program node.place a) (behind_test program node decides right) (tests_adds node.place a) (λ test. behind_test_adds node decides right test k))))

    both_adds : (node : Node) (a b : Meaning) → MeaningAdds a → MeaningAdds b → MeaningAdds (both program node a b)
    unfolding both
    both_adds node a b h k = logical_adds node false a b h k

    either_adds : (node : Node) (a b : Meaning) → MeaningAdds a → MeaningAdds b → MeaningAdds (either program node a b)
    unfolding either
    either_adds node a b h k = logical_adds node true a b h k

    moves_adds : (place : Place) (a : Operand) → Adds P (moves program place a)
    moves_adds place a = computes_adds P program class.Move place act.Move (a ∷ [])

    arm_adds : (place : Place) (of : TType) (e : Meaning) → MeaningAdds e → Adds P (arm program place of e)
    arm_adds place ttype.Void e h = then_adds P (e.value false) (λ a. gives nothing) (h.value false) (λ a. gives_adds P nothing)
    arm_adds place (ttype.Number kind) e h = then_adds P (e.value true) (moves program place) (h.value true) (moves_adds place)
    arm_adds place (ttype.Pointer target) e h = then_adds P (e.value true) (moves program place) (h.value true) (moves_adds place)

    arm_by_adds : (node : Node) (first second : Meaning) (test : Held) → MeaningAdds first → MeaningAdds second → Adds P (arm_by program node first second test)
    arm_by_adds node first second test h k = by (holds test)
      where
        by : (b : Bool) → Adds P (if b then arm program node.place node.of first else arm program node.place node.of second)
        by true = arm_adds node.place node.of first h
        by false = arm_adds node.place node.of second k

    cond_adds : (node : Node) (test a b : Meaning) → MeaningAdds test → MeaningAdds a → MeaningAdds b → MeaningAdds (cond program node test a b)
    unfolding cond
    cond_adds node test a b t h k =
        value_adds node (λ used. settled false (test.value true >>= λ x. tests program node.place x >>= arm_by program node a b))
        (λ used. settled_adds P false (test.value true >>= λ x. tests program node.place x >>= arm_by program node a b)
        (then_adds P (test.value true) (λ x. tests program node.place x >>= arm_by program node a b) (t.value true)
        (λ x. then_adds P (tests program node.place x) (arm_by program node a b) (tests_adds node.place x) (λ held. arm_by_adds node a b held h k))))

    comma_adds : (node : Node) (a b : Meaning) → MeaningAdds a → MeaningAdds b → MeaningAdds (comma node a b)
    unfolding comma
    comma_adds node a b h k = value_adds node (λ used. a.value false >>= λ x. b.value used) (λ used. then_adds P (a.value false) (λ x. b.value used) (h.value false) (λ x. k.value used))

    -- ASSIGNMENTS
    pub writes_adds : (place : Place) (target : Target) (a : Operand) → Adds P (writes program place target a)
    writes_adds place (InRegister n broken) a =
        then_adds P _ _ (makes_adds P program class.Move place act.Move (a ∷ []))
        (λ held. then_adds P _ _ (sets_adds P n (Some held)) (λ done. gives_adds P (Register n false)))
    writes_adds place (InMemory address) a = computes_adds P program class.Store place act.Store (address ∷ a ∷ [])

    assign_adds : (node : Node) (left right : Meaning) → MeaningAdds left → MeaningAdds right → MeaningAdds (assign program node left right)
    unfolding assign
    assign_adds node left right h k =
        value_adds node _ (λ used. then_adds P left.place _ h.place (λ target. then_adds P (right.value true) (writes program node.place target) (k.value true) (writes_adds node.place target)))

    old_adds : (place : Place) (target : Target) → Adds P (old_value program place target)
    old_adds place (InRegister n broken) = gives_adds P (Register n broken)
    old_adds place (InMemory address) = computes_adds P program class.Load place act.Load (address ∷ [])

    between_adds : (place : Place) (from to : Kind) (a : Operand) → Adds P (converts_between program place from to a)
    between_adds place from to a = by (same_kind from to)
      where
        by : (b : Bool) → Adds P (if b then gives a else converts program place (Some to) a)
        by true = gives_adds P a
        by false = converts_adds place (Some to) a

    side_adds : (place : Place) (from : Option Kind) (to : Kind) (a : Operand) → Adds P (converts_side program place from to a)
    side_adds place None to a = gives_adds P a
    side_adds place (Some from) to a = between_adds place from to a

    back_in_adds : (place : Place) (from : Kind) (to : Option Kind) (a : Operand) → Adds P (converts_back program place from to a)
    back_in_adds place from None a = gives_adds P a
    back_in_adds place from (Some to) a = between_adds place from to a

    changed_adds : (place : Place) (c : Change) (of : TType) (by_of : Option Kind) (old by : Operand) → Adds P (changed program place c of by_of old by)
    changed_adds place (change.Number op kind) of by_of old by =
        then_adds P _ _ (side_adds place (kind_of of) kind old)
        (λ a. then_adds P _ _ (side_adds place by_of _ by)
        (λ b. then_adds P (binary_on program place op kind a b) (converts_back program place kind (kind_of of)) (binary_on_adds place op kind a b) (back_in_adds place kind (kind_of of))))
    changed_adds place change.Forward of by_of old by = offset_adds place false (scale_of of) old by
    changed_adds place change.Back of by_of old by = offset_adds place true (scale_of of) old by

    changes_adds : (node : Node) (c : Change) (by_of : Option Kind) (target : Target) (by old : Operand) → Adds P (changes program node c by_of target by old)
    changes_adds node c by_of target by old =
        then_adds P (changed program node.place c node.of by_of old by) (writes program node.place target) (changed_adds node.place c node.of by_of old by) (writes_adds node.place target)

    changes_old_adds : (node : Node) (c : Change) (by_of : Option Kind) (target : Target) (by : Operand) → Adds P (changes_old program node c by_of target by)
    changes_old_adds node c by_of target by =
        then_adds P (old_value program node.place target) (changes program node c by_of target by) (old_adds node.place target) (changes_adds node c by_of target by)

    assign_by_adds : (node : Node) (c : Change) (left right : Meaning) → MeaningAdds left → MeaningAdds right → MeaningAdds (assign_by program node c left right)
    unfolding assign_by
    assign_by_adds node c left right h k =
        value_adds node _ (λ used. then_adds P left.place _ h.place
        (λ target. then_adds P (right.value true) (changes_old program node c (kind_of right.node.of) target) (k.value true) (changes_old_adds node c (kind_of right.node.of) target)))

    pre_adds : (node : Node) (c : Change) (e : Meaning) → MeaningAdds e → MeaningAdds (pre program node c e)
    unfolding pre
    pre_adds node c e h = value_adds node _ (λ used. then_adds P e.place _ h.place (λ target. changes_old_adds node c None target one))

    after_old_adds : (node : Node) (c : Change) (used : Bool) (target : Target) (old : Operand) → Adds P (after_old program node c used target old)
    after_old_adds node c false target old = changes_adds node c None target one old
    after_old_adds node c true target old =
        then_adds P (moves program node.place old) _ (moves_adds node.place old)
        (λ kept. then_adds P (changes program node c None target one old) (λ v. gives kept) (changes_adds node c None target one old) (λ v. gives_adds P kept))

    post_adds : (node : Node) (c : Change) (e : Meaning) → MeaningAdds e → MeaningAdds (post program node c e)
    unfolding post
    post_adds node c e h =
        value_adds node _ (λ used. then_adds P e.place _ h.place
        (λ target. then_adds P (old_value program node.place target) (after_old program node c used target) (old_adds node.place target) (after_old_adds node c used target)))

    -- THE LIBRARY AND CALLS
    getchar_adds : (node : Node) → MeaningAdds (getchar program node)
    unfolding getchar
    getchar_adds node = value_adds node _ (λ used. computes_adds P program class.Input node.place act.Input [])

    putchar_adds : (node : Node) (e : Meaning) → MeaningAdds e → MeaningAdds (putchar program node e)
    unfolding putchar
    putchar_adds node e h = one_adds node e _ h (λ a. computes_adds P program class.Output node.place (act.Output out.Byte) (a ∷ []))

    puts_adds : (node : Node) (e : Meaning) → MeaningAdds e → MeaningAdds (puts program node e)
    unfolding puts
    puts_adds node e h = value_adds node _ (λ used. computes_adds P program class.Output node.place (act.Output (out.Line e.text)) [])

    printf_adds : (node : Node) (format : List Piece) (args : List Meaning) → AllAdd args → MeaningAdds (printf program node format args)
    unfolding printf
    printf_adds node format args k =
        value_adds node _ (λ used. then_adds P (in_turn args) _ (turn_adds args k)
        (λ operands. computes_adds P program class.Output node.place (act.Output (out.Format (map chunk_of format))) operands))

    call_adds : (calls : Calls) (node : Node) (f : ℕ) (args : List Meaning) → CallsAdd calls → AllAdd args → MeaningAdds (call calls node f args)
    unfolding call
    call_adds calls node f args h k = value_adds node (λ used. in_turn args >>= calls f node.place) (λ used. then_adds P (in_turn args) (calls f node.place) (turn_adds args k) (h f node.place))

    -- AN EXPRESSION
    module _ (vs : List TVariable) (calls : Calls) (calls_add : CallsAdd calls) where
      abbrev meaning : TExpr → Meaning
      meaning = eval program vs calls

      abbrev step : TExpr-F Meaning → Meaning
      step = eval_step program vs calls

      -- an expression adds such events
      abbrev ExprAdds : TExpr → Type 0
      ExprAdds e = MeaningAdds (meaning e)

      all_add : (items : List ((e : TExpr) × ExprAdds e)) → AllAdd (map meaning (map (λ (x : (e : TExpr) × ExprAdds e). x.0) items))
      all_add [] = tt
      all_add (x ∷ items) = (x.1, all_add items)

      step_adds : (y : TExpr-F ((e : TExpr) × ExprAdds e)) → MeaningAdds (step (map-TExpr TExpr Meaning meaning (map-TExpr _ TExpr (λ (x : (e : TExpr) × ExprAdds e). x.0) y)))
      step_adds (TExpr-F.Number node z) = number_adds node z
      step_adds (TExpr-F.Str node n bytes) = string_adds node n bytes
      step_adds (TExpr-F.Object node n) = object_adds node n
      step_adds (TExpr-F.Variable node n) = variable_adds vs node n
      step_adds (TExpr-F.Index node a b) = index_adds node (meaning a.0) (meaning b.0) a.1 b.1
      step_adds (TExpr-F.Call node f args) = call_adds calls node f _ calls_add (all_add args)
      step_adds (TExpr-F.Getchar node) = getchar_adds node
      step_adds (TExpr-F.Putchar node a) = putchar_adds node (meaning a.0) a.1
      step_adds (TExpr-F.Puts node a) = puts_adds node (meaning a.0) a.1
      step_adds (TExpr-F.Printf node format args) = printf_adds node format _ (all_add args)
      step_adds (TExpr-F.Post node c a) = post_adds node c (meaning a.0) a.1
      step_adds (TExpr-F.Pre node c a) = pre_adds node c (meaning a.0) a.1
      step_adds (TExpr-F.Address node a) = address_adds node (meaning a.0) a.1
      step_adds (TExpr-F.Deref node a) = deref_adds node (meaning a.0) a.1
      step_adds (TExpr-F.Plus node a) = plus_adds node (meaning a.0) a.1
      step_adds (TExpr-F.Unary node op kind a) = unary_adds node op kind (meaning a.0) a.1
      step_adds (TExpr-F.Convert node a) = convert_adds node (meaning a.0) a.1
      step_adds (TExpr-F.Cast node a) = cast_adds node (meaning a.0) a.1
      step_adds (TExpr-F.Binary node op kind a b) = binary_adds node op kind (meaning a.0) (meaning b.0) a.1 b.1
      step_adds (TExpr-F.Both node a b) = both_adds node (meaning a.0) (meaning b.0) a.1 b.1
      step_adds (TExpr-F.Either node a b) = either_adds node (meaning a.0) (meaning b.0) a.1 b.1
      step_adds (TExpr-F.Forward node a b) = forward_adds node (meaning a.0) (meaning b.0) a.1 b.1
      step_adds (TExpr-F.Onto node a b) = onto_adds node (meaning a.0) (meaning b.0) a.1 b.1
      step_adds (TExpr-F.Back node a b) = back_adds node (meaning a.0) (meaning b.0) a.1 b.1
      step_adds (TExpr-F.PtrCompare node op a b) = compare_adds node op (meaning a.0) (meaning b.0) a.1 b.1
      step_adds (TExpr-F.PtrDistance node a b) = distance_adds node (meaning a.0) (meaning b.0) a.1 b.1
      step_adds (TExpr-F.Cond node a b c) = cond_adds node (meaning a.0) (meaning b.0) (meaning c.0) a.1 b.1 c.1
      step_adds (TExpr-F.Assign node a b) = assign_adds node (meaning a.0) (meaning b.0) a.1 b.1
      step_adds (TExpr-F.AssignBy node c a b) = assign_by_adds node c (meaning a.0) (meaning b.0) a.1 b.1
      step_adds (TExpr-F.Comma node a b) = comma_adds node (meaning a.0) (meaning b.0) a.1 b.1

      pub eval_adds : (e : TExpr) → MeaningAdds (eval program vs calls e)
      eval_adds =
          ind-TExpr ExprAdds
          (λ x y is.
          subst MeaningAdds (sym (fold-roll-TExpr Meaning step x))
          (subst (λ (z : TExpr-F TExpr). MeaningAdds (step (map-TExpr TExpr Meaning meaning z))) is (step_adds y)))
