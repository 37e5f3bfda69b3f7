-- Each row of the table of expressions is lawful where its operands are.
use Rattle.std.proofs.Common.{ℕ, ℤ, List, [], ◌∷◌, ◌++◌, map, Option, Some, None, Bool, true, false, if◌then◌else◌}
use Rattle.k_num.specs.declared.place.Place.{Place}
use Rattle.k_num.specs.declared.numbers.Bin.{Bin}
use Rattle.k_num.specs.declared.numbers.Bin.TheVariants as bin
use Rattle.k_num.specs.declared.numbers.Kind.{Kind}
use Rattle.k_num.specs.declared.numbers.Un.{Un}
use Rattle.k_optab.specs.declared.class.Class.TheVariants as class
use Rattle.k_types_meaning.specs.declared.types.TType.{TType}
use Rattle.k_types_meaning.specs.declared.types.TType.TheVariants as ttype
use Rattle.k_types_meaning.specs.declared.tree.expression.Change.{Change}
use Rattle.k_types_meaning.specs.declared.tree.expression.Change.TheVariants as change
use Rattle.k_types_meaning.specs.declared.tree.expression.Node.{Node}
use Rattle.k_types_meaning.specs.declared.tree.expression.Piece.{Piece}
use Rattle.k_types_meaning.specs.declared.tree.unit.TVariable.{TVariable}
use Rattle.k_types_meaning.specs.Types.{same_kind}
use Rattle.k_world.specs.declared.act.Act.TheVariants as act
use Rattle.k_world.specs.declared.act.Out.{Out}
use Rattle.k_world.specs.declared.act.Out.TheVariants as out
use Rattle.k_world.specs.declared.value.Held.{Held}
use Rattle.k_world.specs.declared.value.Value.TheVariants as value
use Rattle.k_evaluation.specs.declared.operand.Operand.{Operand}
use Rattle.k_evaluation.specs.declared.operand.Operand.TheVariants.{Constant, Holding, Register}
use Rattle.k_evaluation.specs.declared.operand.Target.{Target}
use Rattle.k_evaluation.specs.declared.operand.Target.TheVariants.{InRegister, InMemory}
use Rattle.k_evaluation.specs.States.{Part, ◌>>=◌, gives, makes, computes, sets, settled}
use Rattle.k_evaluation.specs.Meanings.{Meaning, nothing, only_value, at_place, value_at, value_in_memory, loads, on_one, on_two, behind_one, in_turn, tests, holds, kind_of, scale_of}
use Rattle.k_evaluation.specs.Places.{number, string, object, variable, index, deref, address, forward, back, onto, address_of, string_number, variable_place, is_register, is_broken, offset, element_at, behind_base, address_at, offset_onto}
use Rattle.k_evaluation.specs.Operators.{plus, unary, convert, cast, binary, compare, distance, both, either, cond, comma, unary_on, converts, cast_to, class_of, binary_on, compare_on, distance_on, truth_on, truth_of, behind_test, same_truth, kind_or_int, logical, moves, arm, arm_by}
use Rattle.k_evaluation.specs.Assignments.{assign, assign_by, pre, post, writes, behind_place, old_value, converts_between, converts_side, converts_back, side_kind, combined, changed, changes, changes_old, behind_changed, one, after_old, after_place}
use Rattle.k_evaluation.specs.Library.{getchar, putchar, puts, printf, outputs, puts_byte, chunk_of}
use Rattle.k_evaluation.specs.Expressions.{Calls, call}
use Rattle.k_evaluation.proofs.Kept.{Setting, OperandComes, OperandsCome}
use Rattle.k_evaluation.proofs.Parts.{Brings, of_operand, of_held, of_none, binds, needs, anywhere, before_both, behind_both, gives_lawful, sets_lawful, settled_lawful, makes_lawful, computes_lawful}

-- what a place has
abbrev pub of_target : Target → List Operand
of_target (InRegister n broken) = []
of_target (InMemory a) = a ∷ []

-- several operands
abbrev pub of_operands : List Operand → List Operand
of_operands as_ = as_

-- an expression is lawful as a value and as a place
abbrev pub LawfulMeaning : Setting → Meaning → Type 0
LawfulMeaning g e = ((used : Bool) → Brings g [] of_operand (e.value used)) × Brings g [] of_target e.place

-- so are several
abbrev pub AreLawful : Setting → List Meaning → Type 0
AreLawful g [] = Unit {0}
AreLawful g (e ∷ es) = LawfulMeaning g e × AreLawful g es

-- the calls are lawful
abbrev pub LawfulCalls : Setting → Calls → Type 0
LawfulCalls g calls = (f : ℕ) (place : Place) (args : List Operand) → Brings g args of_operand (calls f place args)

module _ (g : Setting) where
  gives_nothing : (waiting : List Operand) → Brings g waiting of_operand (gives nothing)
  gives_nothing waiting = gives_lawful g waiting of_operand nothing (λ made w. (tt, tt))

  -- the first of those that wait
  gives_first : (a : Operand) (waiting : List Operand) → Brings g (a ∷ waiting) of_operand (gives a)
  gives_first a waiting = gives_lawful g (a ∷ waiting) of_operand a (λ made w. (w.0, tt))

  only_value_lawful : (node : Node) (v : Bool → Part Operand) → ((used : Bool) → Brings g [] of_operand (v used)) → LawfulMeaning g (only_value node v)
  only_value_lawful node v each = (each, gives_lawful g [] of_target (InMemory nothing) (λ made w. (tt, tt)))

  on_one_lawful : (node : Node) (e : Meaning) (operation : Operand → Part Operand) → LawfulMeaning g e
      → ((a : Operand) → Brings g (a ∷ []) of_operand (operation a)) → LawfulMeaning g (on_one node e operation)
  on_one_lawful node e operation lawful each =
      only_value_lawful node (λ used. e.value true >>= operation) (λ used. binds g [] of_operand of_operand (e.value true) operation (lawful.0 true) each)

  on_two_lawful : (node : Node) (left right : Meaning) (operation : Operand → Operand → Part Operand) → LawfulMeaning g left → LawfulMeaning g right
      → ((a b : Operand) → Brings g (b ∷ a ∷ []) of_operand (operation a b)) → LawfulMeaning g (on_two node left right operation)
  on_two_lawful node left right operation first second each =
      on_one_lawful node left (behind_one right operation) first
      (λ a. binds g (a ∷ []) of_operand of_operand (right.value true) (operation a) (anywhere g (a ∷ []) of_operand (right.value true) (second.0 true)) (each a))

  loads_lawful : (place : Place) (used : Bool) (a : Operand) → Brings g (a ∷ []) of_operand (loads g.program place used a)
  loads_lawful place false a = gives_nothing (a ∷ [])
  loads_lawful place true a = computes_lawful g class.Load place act.Load (a ∷ []) (a ∷ []) (λ made w. w)

  in_memory_lawful : (place : Place) (of : TType) (used : Bool) (a : Operand) → Brings g (a ∷ []) of_operand (value_in_memory g.program place of used a)
  in_memory_lawful place ttype.Void used a = gives_nothing (a ∷ [])
  in_memory_lawful place (ttype.Number kind) used a = loads_lawful place used a
  in_memory_lawful place (ttype.Pointer target) used a = gives_first a []

  value_at_lawful : (node : Node) (used : Bool) (target : Target) → Brings g (of_target target ++ []) of_operand (value_at g.program node used target)
  value_at_lawful node used (InRegister n broken) = gives_lawful g [] of_operand (Register n broken) (λ made w. (tt, tt))
  value_at_lawful node used (InMemory a) = in_memory_lawful node.place node.of used a

  at_place_lawful : (node : Node) (place : Part Target) → Brings g [] of_target place → LawfulMeaning g (at_place g.program node place)
  at_place_lawful node place lawful = (
    λ used. binds g [] of_target of_operand place (value_at g.program node used) lawful (value_at_lawful node used),
    lawful,
  )

  in_turn_lawful : (es : List Meaning) → AreLawful g es → Brings g [] of_operands (in_turn es)
  in_turn_lawful [] lawful = gives_lawful g [] of_operands [] (λ made w. tt)
  in_turn_lawful (e ∷ es) lawful =
      binds g [] of_operand of_operands (e.value true) (λ a. in_turn es >>= λ rest. gives (a ∷ rest)) (lawful.0.0 true)
      (λ a. binds g (a ∷ []) of_operands of_operands (in_turn es) (λ rest. gives (a ∷ rest))
      (anywhere g (a ∷ []) of_operands (in_turn es) (in_turn_lawful es lawful.1))
      (λ rest. gives_lawful g (rest ++ a ∷ []) of_operands (a ∷ rest) (λ made w. ((behind_both made rest (a ∷ []) w).0, before_both made rest (a ∷ []) w))))

  pub tests_lawful : (place : Place) (a : Operand) → Brings g (a ∷ []) of_held (tests g.program place a)
  tests_lawful place a = makes_lawful g class.Test place act.Test (a ∷ []) (a ∷ []) (λ made w. w)

  -- PLACES
  pub number_lawful : (node : Node) (z : ℤ) → LawfulMeaning g (number node z)
  unfolding number
  number_lawful node z = only_value_lawful node (λ used. gives (Constant (value.Number z))) (λ used. gives_lawful g [] of_operand (Constant (value.Number z)) (λ made w. (tt, tt)))

  pub string_lawful : (node : Node) (n : ℕ) (bytes : List ℕ) → LawfulMeaning g (string g.program node n bytes)
  unfolding string
  string_lawful node n bytes = (
    λ used. gives_lawful g [] of_operand (address_of (string_number g.program n)) (λ made w. (tt, tt)),
    gives_lawful g [] of_target (InMemory nothing) (λ made w. (tt, tt)),
  )

  pub object_lawful : (node : Node) (n : ℕ) → LawfulMeaning g (object g.program node n)
  unfolding object
  object_lawful node n = at_place_lawful node (gives (InMemory (address_of n))) (gives_lawful g [] of_target (InMemory (address_of n)) (λ made w. (tt, tt)))

  variable_place_lawful : (node : Node) (n : ℕ) (b : Bool) → Brings g [] of_target (variable_place g.program node n b)
  variable_place_lawful node n true = gives_lawful g [] of_target (InRegister n (is_broken g.program node.number)) (λ made w. tt)
  variable_place_lawful node n false = gives_lawful g [] of_target (InMemory (Register n false)) (λ made w. (tt, tt))

  pub variable_lawful : (vs : List TVariable) (node : Node) (n : ℕ) → LawfulMeaning g (variable g.program vs node n)
  unfolding variable
  variable_lawful vs node n = at_place_lawful node (variable_place g.program node n (is_register vs n)) (variable_place_lawful node n (is_register vs n))

  offset_lawful : (place : Place) (minus : Bool) (scale : ℕ) (a b : Operand) (waiting : List Operand)
      → ((made : ℕ) → OperandsCome made waiting → OperandsCome made (a ∷ b ∷ [])) → Brings g waiting of_operand (offset g.program place minus scale a b)
  offset_lawful place minus scale a b waiting from = computes_lawful g class.Simple place (act.Offset minus scale) (a ∷ b ∷ []) waiting from

  element_lawful : (place : Place) (scale : ℕ) (a b : Operand) → Brings g (b ∷ a ∷ []) of_target (element_at g.program place scale a b)
  element_lawful place scale a b =
      binds g (b ∷ a ∷ []) of_operand of_target (offset g.program place false scale a b) (λ address. gives (InMemory address))
      (offset_lawful place false scale a b (b ∷ a ∷ []) (λ made w. (w.1.0, (w.0, tt))))
      (λ address. gives_lawful g (address ∷ b ∷ a ∷ []) of_target (InMemory address) (λ made w. (w.0, tt)))

  pub index_lawful : (node : Node) (base by : Meaning) → LawfulMeaning g base → LawfulMeaning g by → LawfulMeaning g (index g.program node base by)
  unfolding index
  index_lawful node base by first second =
      at_place_lawful node (base.value true >>= behind_base g.program node.place (scale_of base.node.of) by)
      (binds g [] of_operand of_target (base.value true) (behind_base g.program node.place (scale_of base.node.of) by) (first.0 true)
      (λ a. binds g (a ∷ []) of_operand of_target (by.value true) (element_at g.program node.place (scale_of base.node.of) a)
      (anywhere g (a ∷ []) of_operand (by.value true) (second.0 true))
      (λ b. element_lawful node.place (scale_of base.node.of) a b)))

  pub deref_lawful : (node : Node) (e : Meaning) → LawfulMeaning g e → LawfulMeaning g (deref g.program node e)
  unfolding deref
  deref_lawful node e lawful =
      at_place_lawful node (e.value true >>= λ pointer. gives (InMemory pointer))
      (binds g [] of_operand of_target (e.value true) (λ pointer. gives (InMemory pointer)) (lawful.0 true)
      (λ a. gives_lawful g (a ∷ []) of_target (InMemory a) (λ made w. (w.0, tt))))

  address_at_lawful : (target : Target) → Brings g (of_target target ++ []) of_operand (gives (address_at target))
  address_at_lawful (InRegister n broken) = gives_nothing []
  address_at_lawful (InMemory a) = gives_first a []

  pub address_lawful : (node : Node) (e : Meaning) → LawfulMeaning g e → LawfulMeaning g (address node e)
  unfolding address
  address_lawful node e lawful =
      only_value_lawful node (λ used. e.place >>= λ target. gives (address_at target))
      (λ used. binds g [] of_target of_operand e.place (λ target. gives (address_at target)) lawful.1 address_at_lawful)

  pub forward_lawful : (node : Node) (pointer by : Meaning) → LawfulMeaning g pointer → LawfulMeaning g by → LawfulMeaning g (forward g.program node pointer by)
  unfolding forward
  forward_lawful node pointer by first second =
      on_two_lawful node pointer by (offset g.program node.place false (scale_of node.of)) first second
      (λ a b. offset_lawful node.place false (scale_of node.of) a b (b ∷ a ∷ []) (λ made w. (w.1.0, (w.0, tt))))

  pub back_lawful : (node : Node) (pointer by : Meaning) → LawfulMeaning g pointer → LawfulMeaning g by → LawfulMeaning g (back g.program node pointer by)
  unfolding back
  back_lawful node pointer by first second =
      on_two_lawful node pointer by (offset g.program node.place true (scale_of node.of)) first second
      (λ a b. offset_lawful node.place true (scale_of node.of) a b (b ∷ a ∷ []) (λ made w. (w.1.0, (w.0, tt))))

  pub onto_lawful : (node : Node) (by pointer : Meaning) → LawfulMeaning g by → LawfulMeaning g pointer → LawfulMeaning g (onto g.program node by pointer)
  unfolding onto
  onto_lawful node by pointer first second =
      on_two_lawful node by pointer (offset_onto g.program node.place (scale_of node.of)) first second
      (λ b a. offset_lawful node.place false (scale_of node.of) a b (a ∷ b ∷ []) (λ made w. w))

  -- OPERATORS
  pub plus_lawful : (node : Node) (e : Meaning) → LawfulMeaning g e → LawfulMeaning g (plus node e)
  unfolding plus
  plus_lawful node e lawful = only_value_lawful node e.value lawful.0

  pub unary_lawful : (node : Node) (op : Un) (kind : Kind) (e : Meaning) → LawfulMeaning g e → LawfulMeaning g (unary g.program node op kind e)
  unfolding unary
  unary_lawful node op kind e lawful =
      on_one_lawful node e (unary_on g.program node.place op kind) lawful (λ a. computes_lawful g class.Simple node.place (act.Unary op kind) (a ∷ []) (a ∷ []) (λ made w. w))

  converts_lawful : (place : Place) (to : Option Kind) (a : Operand) (waiting : List Operand) → ((made : ℕ) → OperandsCome made waiting → OperandComes made a)
      → Brings g waiting of_operand (converts g.program place to a)
  converts_lawful place None a waiting from = gives_lawful g waiting of_operand a (λ made w. (from made w, tt))
  converts_lawful place (Some kind) a waiting from = computes_lawful g class.Conv place (act.Convert kind) (a ∷ []) waiting (λ made w. (from made w, tt))

  pub convert_lawful : (node : Node) (e : Meaning) → LawfulMeaning g e → LawfulMeaning g (convert g.program node e)
  unfolding convert
  convert_lawful node e lawful =
      on_one_lawful node e (converts g.program node.place (kind_of node.of)) lawful (λ a. converts_lawful node.place (kind_of node.of) a (a ∷ []) (λ made w. w.0))

  cast_to_lawful : (place : Place) (of : TType) (e : Meaning) (used : Bool) → LawfulMeaning g e → Brings g [] of_operand (cast_to g.program place of e used)
  cast_to_lawful place ttype.Void e used lawful =
      binds g [] of_operand of_operand (e.value false) (λ a. gives nothing) (lawful.0 false) (λ a. gives_nothing (a ∷ []))
  cast_to_lawful place (ttype.Number kind) e used lawful =
      binds g [] of_operand of_operand (e.value true) (converts g.program place (Some kind)) (lawful.0 true)
      (λ a. converts_lawful place (Some kind) a (a ∷ []) (λ made w. w.0))
  cast_to_lawful place (ttype.Pointer target) e used lawful = lawful.0 used

  pub cast_lawful : (node : Node) (e : Meaning) → LawfulMeaning g e → LawfulMeaning g (cast g.program node e)
  unfolding cast
  cast_lawful node e lawful = only_value_lawful node (cast_to g.program node.place node.of e) (λ used. cast_to_lawful node.place node.of e used lawful)

  binary_on_lawful : (place : Place) (op : Bin) (kind : Kind) (a b : Operand) (waiting : List Operand)
      → ((made : ℕ) → OperandsCome made waiting → OperandsCome made (a ∷ b ∷ [])) → Brings g waiting of_operand (binary_on g.program place op kind a b)
  binary_on_lawful place op kind a b waiting from = computes_lawful g (class_of op) place (act.Binary op kind) (a ∷ b ∷ []) waiting from

  pub binary_lawful : (node : Node) (op : Bin) (kind : Kind) (left right : Meaning) → LawfulMeaning g left → LawfulMeaning g right
      → LawfulMeaning g (binary g.program node op kind left right)
  unfolding binary
  binary_lawful node op kind left right first second =
      on_two_lawful node left right (binary_on g.program node.place op kind) first second
      (λ a b. binary_on_lawful node.place op kind a b (b ∷ a ∷ []) (λ made w. (w.1.0, (w.0, tt))))

  pub compare_lawful : (node : Node) (op : Bin) (left right : Meaning) → LawfulMeaning g left → LawfulMeaning g right → LawfulMeaning g (compare g.program node op left right)
  unfolding compare
  compare_lawful node op left right first second =
      on_two_lawful node left right (compare_on g.program node.place op) first second
      (λ a b. computes_lawful g class.Simple node.place (act.PtrCompare op) (a ∷ b ∷ []) (b ∷ a ∷ []) (λ made w. (w.1.0, (w.0, tt))))

  pub distance_lawful : (node : Node) (left right : Meaning) → LawfulMeaning g left → LawfulMeaning g right → LawfulMeaning g (distance g.program node left right)
  unfolding distance
  distance_lawful node left right first second =
      on_two_lawful node left right (distance_on g.program node.place (scale_of left.node.of)) first second
      (λ a b. computes_lawful g class.Div node.place (act.PtrDistance (scale_of left.node.of)) (a ∷ b ∷ []) (b ∷ a ∷ []) (λ made w. (w.1.0, (w.0, tt))))

  truth_of_lawful : (node : Node) (right : Meaning) → LawfulMeaning g right → Brings g [] of_operand (truth_of g.program node right)
  truth_of_lawful node right lawful =
      binds g [] of_operand of_operand (right.value true) (truth_on g.program node.place (kind_or_int (kind_of right.node.of))) (lawful.0 true)
      (λ b. computes_lawful g class.Simple node.place (act.Binary bin.Ne (kind_or_int (kind_of right.node.of))) (b ∷ nothing ∷ []) (b ∷ []) (λ made w. (w.0, (tt, tt))))

  behind_test_lawful : (node : Node) (decides : Bool) (right : Meaning) (test : Held) (waiting : List Operand) → LawfulMeaning g right
      → Brings g (Holding test ∷ waiting) of_operand (behind_test g.program node decides right test)
  behind_test_lawful node decides right test waiting lawful = by (same_truth (holds test) decides)
    where
      by : (b : Bool) → Brings g (Holding test ∷ waiting) of_operand (if b then gives (Holding test) else truth_of g.program node right)
      by true = gives_first (Holding test) waiting
      by false = anywhere g (Holding test ∷ waiting) of_operand (truth_of g.program node right) (truth_of_lawful node right lawful)

  logical_lawful : (node : Node) (decides : Bool) (left right : Meaning) → LawfulMeaning g left → LawfulMeaning g right → LawfulMeaning g (logical g.program node decides left right)
  logical_lawful node decides left right first second =
      only_value_lawful node (λ used. settled false (left.value true >>= λ a. tests g.program node.place a >>= behind_test g.program node decides right))
      (λ used. settled_lawful g of_operand false (left.value true >>= λ a. tests g.program node.place a >>= behind_test g.program node decides right)
      (binds g [] of_operand of_operand (left.value true) (λ a. tests g.program node.place a >>= behind_test g.program node decides right) (first.0 true)
      (λ a. binds g (a ∷ []) of_held of_operand (tests g.program node.place a) (behind_test g.program node decides right) (tests_lawful node.place a)
      (λ test. behind_test_lawful node decides right test (a ∷ []) second))))

  pub both_lawful : (node : Node) (left right : Meaning) → LawfulMeaning g left → LawfulMeaning g right → LawfulMeaning g (both g.program node left right)
  unfolding both
  both_lawful node left right first second = logical_lawful node false left right first second

  pub either_lawful : (node : Node) (left right : Meaning) → LawfulMeaning g left → LawfulMeaning g right → LawfulMeaning g (either g.program node left right)
  unfolding either
  either_lawful node left right first second = logical_lawful node true left right first second

  moves_lawful : (place : Place) (a : Operand) (waiting : List Operand) → ((made : ℕ) → OperandsCome made waiting → OperandComes made a)
      → Brings g waiting of_operand (moves g.program place a)
  moves_lawful place a waiting from = computes_lawful g class.Move place act.Move (a ∷ []) waiting (λ made w. (from made w, tt))

  arm_lawful : (place : Place) (of : TType) (e : Meaning) → LawfulMeaning g e → Brings g [] of_operand (arm g.program place of e)
  arm_lawful place ttype.Void e lawful = binds g [] of_operand of_operand (e.value false) (λ a. gives nothing) (lawful.0 false) (λ a. gives_nothing (a ∷ []))
  arm_lawful place (ttype.Number kind) e lawful =
      binds g [] of_operand of_operand (e.value true) (moves g.program place) (lawful.0 true) (λ a. moves_lawful place a (a ∷ []) (λ made w. w.0))
  arm_lawful place (ttype.Pointer target) e lawful =
      binds g [] of_operand of_operand (e.value true) (moves g.program place) (lawful.0 true) (λ a. moves_lawful place a (a ∷ []) (λ made w. w.0))

  arm_by_lawful : (node : Node) (first second : Meaning) (test : Held) (waiting : List Operand) → LawfulMeaning g first → LawfulMeaning g second
      → Brings g waiting of_operand (arm_by g.program node first second test)
  arm_by_lawful node first second test waiting one two = by (holds test)
    where
      by : (b : Bool) → Brings g waiting of_operand (if b then arm g.program node.place node.of first else arm g.program node.place node.of second)
      by true = anywhere g waiting of_operand (arm g.program node.place node.of first) (arm_lawful node.place node.of first one)
      by false = anywhere g waiting of_operand (arm g.program node.place node.of second) (arm_lawful node.place node.of second two)

  pub cond_lawful : (node : Node) (test first second : Meaning) → LawfulMeaning g test → LawfulMeaning g first → LawfulMeaning g second
      → LawfulMeaning g (cond g.program node test first second)
  unfolding cond
  cond_lawful node test first second tested one two =
      only_value_lawful node (λ used. settled false (test.value true >>= λ a. tests g.program node.place a >>= arm_by g.program node first second))
      (λ used. settled_lawful g of_operand false (test.value true >>= λ a. tests g.program node.place a >>= arm_by g.program node first second)
      (binds g [] of_operand of_operand (test.value true) (λ a. tests g.program node.place a >>= arm_by g.program node first second) (tested.0 true)
      (λ a. binds g (a ∷ []) of_held of_operand (tests g.program node.place a) (arm_by g.program node first second) (tests_lawful node.place a)
      (λ t. arm_by_lawful node first second t (Holding t ∷ a ∷ []) one two))))

  pub comma_lawful : (node : Node) (left right : Meaning) → LawfulMeaning g left → LawfulMeaning g right → LawfulMeaning g (comma node left right)
  unfolding comma
  comma_lawful node left right first second =
      only_value_lawful node (λ used. left.value false >>= λ a. right.value used)
      (λ used. binds g [] of_operand of_operand (left.value false) (λ a. right.value used) (first.0 false)
      (λ a. anywhere g (a ∷ []) of_operand (right.value used) (second.0 used)))

  -- ASSIGNMENTS
  pub writes_lawful : (place : Place) (target : Target) (a : Operand) (waiting : List Operand)
      → ((made : ℕ) → OperandsCome made waiting → OperandsCome made (a ∷ of_target target)) → Brings g waiting of_operand (writes g.program place target a)
  writes_lawful place (InRegister n broken) a waiting from =
      binds g waiting of_held of_operand (makes g.program class.Move place act.Move (a ∷ [])) (λ held. sets n (Some held) >>= λ done. gives (Register n false))
      (makes_lawful g class.Move place act.Move (a ∷ []) waiting from)
      (λ held. binds g (Holding held ∷ waiting) of_none of_operand (sets n (Some held)) (λ done. gives (Register n false))
      (sets_lawful g (Holding held ∷ waiting) n (Some held) (λ made w. w.0))
      (λ done. gives_lawful g (Holding held ∷ waiting) of_operand (Register n false) (λ made w. (tt, tt))))
  writes_lawful place (InMemory address) a waiting from =
      computes_lawful g class.Store place act.Store (address ∷ a ∷ []) waiting (λ made w. let h = from made w in (h.1.0, (h.0, tt)))

  pub assign_lawful : (node : Node) (left right : Meaning) → LawfulMeaning g left → LawfulMeaning g right → LawfulMeaning g (assign g.program node left right)
  unfolding assign
  assign_lawful node left right first second =
      only_value_lawful node (λ used. left.place >>= behind_place g.program node.place right)
      (λ used. binds g [] of_target of_operand left.place (behind_place g.program node.place right) first.1
      (λ target. binds g (of_target target ++ []) of_operand of_operand (right.value true) (writes g.program node.place target)
      (anywhere g (of_target target ++ []) of_operand (right.value true) (second.0 true))
      (λ a. writes_lawful node.place target a (a ∷ (of_target target ++ [])) (λ made w. (w.0, before_both made (of_target target) [] w.1)))))

  old_value_lawful : (place : Place) (target : Target) (waiting : List Operand) → ((made : ℕ) → OperandsCome made waiting → OperandsCome made (of_target target))
      → Brings g waiting of_operand (old_value g.program place target)
  old_value_lawful place (InRegister n broken) waiting from = gives_lawful g waiting of_operand (Register n broken) (λ made w. (tt, tt))
  old_value_lawful place (InMemory address) waiting from = computes_lawful g class.Load place act.Load (address ∷ []) waiting from

  converts_between_lawful : (place : Place) (from to : Kind) (a : Operand) (waiting : List Operand) → ((made : ℕ) → OperandsCome made waiting → OperandComes made a)
      → Brings g waiting of_operand (converts_between g.program place from to a)
  converts_between_lawful place from to a waiting comes = by (same_kind from to)
    where
      by : (b : Bool) → Brings g waiting of_operand (if b then gives a else converts g.program place (Some to) a)
      by true = gives_lawful g waiting of_operand a (λ made w. (comes made w, tt))
      by false = converts_lawful place (Some to) a waiting comes

  converts_side_lawful : (place : Place) (from : Option Kind) (to : Kind) (a : Operand) (waiting : List Operand) → ((made : ℕ) → OperandsCome made waiting → OperandComes made a)
      → Brings g waiting of_operand (converts_side g.program place from to a)
  converts_side_lawful place None to a waiting comes = gives_lawful g waiting of_operand a (λ made w. (comes made w, tt))
  converts_side_lawful place (Some from) to a waiting comes = converts_between_lawful place from to a waiting comes

  converts_back_lawful : (place : Place) (from : Kind) (to : Option Kind) (a : Operand) (waiting : List Operand) → ((made : ℕ) → OperandsCome made waiting → OperandComes made a)
      → Brings g waiting of_operand (converts_back g.program place from to a)
  converts_back_lawful place from None a waiting comes = gives_lawful g waiting of_operand a (λ made w. (comes made w, tt))
  converts_back_lawful place from (Some to) a waiting comes = converts_between_lawful place from to a waiting comes

  combined_lawful : (place : Place) (op : Bin) (kind : Kind) (of by_of : Option Kind) (old by : Operand) (waiting : List Operand)
      → ((made : ℕ) → OperandsCome made waiting → OperandsCome made (old ∷ by ∷ [])) → Brings g waiting of_operand (combined g.program place op kind of by_of old by)
  combined_lawful place op kind of by_of old by waiting from =
      let back : Operand → Part Operand = converts_back g.program place kind of in
      let last : Operand → Operand → Part Operand = (λ a b. binary_on g.program place op kind a b >>= back) in
      binds g waiting of_operand of_operand (converts_side g.program place of kind old)
      (λ a. converts_side g.program place by_of (side_kind op kind by_of) by >>= last a)
      (converts_side_lawful place of kind old waiting (λ made w. (from made w).0))
      (λ a. binds g (a ∷ waiting) of_operand of_operand (converts_side g.program place by_of (side_kind op kind by_of) by) (last a)
      (converts_side_lawful place by_of (side_kind op kind by_of) by (a ∷ waiting) (λ made w. (from made w.1).1.0))
      (λ b. binds g (b ∷ a ∷ waiting) of_operand of_operand (binary_on g.program place op kind a b) back
      (binary_on_lawful place op kind a b (b ∷ a ∷ waiting) (λ made w. (w.1.0, (w.0, tt))))
      (λ v. converts_back_lawful place kind of v (v ∷ b ∷ a ∷ waiting) (λ made w. w.0))))

  changed_lawful : (place : Place) (by_change : Change) (of : TType) (by_of : Option Kind) (old by : Operand) (waiting : List Operand)
      → ((made : ℕ) → OperandsCome made waiting → OperandsCome made (old ∷ by ∷ [])) → Brings g waiting of_operand (changed g.program place by_change of by_of old by)
  changed_lawful place (change.Number op kind) of by_of old by waiting from = combined_lawful place op kind (kind_of of) by_of old by waiting from
  changed_lawful place change.Forward of by_of old by waiting from = offset_lawful place false (scale_of of) old by waiting from
  changed_lawful place change.Back of by_of old by waiting from = offset_lawful place true (scale_of of) old by waiting from

  changes_lawful : (node : Node) (by_change : Change) (by_of : Option Kind) (target : Target) (by old : Operand) (waiting : List Operand)
      → ((made : ℕ) → OperandsCome made waiting → OperandsCome made (old ∷ by ∷ of_target target))
      → Brings g waiting of_operand (changes g.program node by_change by_of target by old)
  changes_lawful node by_change by_of target by old waiting from =
      binds g waiting of_operand of_operand (changed g.program node.place by_change node.of by_of old by) (writes g.program node.place target)
      (changed_lawful node.place by_change node.of by_of old by waiting (λ made w. let h = from made w in (h.0, (h.1.0, tt))))
      (λ v. writes_lawful node.place target v (v ∷ waiting) (λ made w. (w.0, (from made w.1).1.1)))

  changes_old_lawful : (node : Node) (by_change : Change) (by_of : Option Kind) (target : Target) (by : Operand) (waiting : List Operand)
      → ((made : ℕ) → OperandsCome made waiting → OperandsCome made (by ∷ of_target target))
      → Brings g waiting of_operand (changes_old g.program node by_change by_of target by)
  changes_old_lawful node by_change by_of target by waiting from =
      binds g waiting of_operand of_operand (old_value g.program node.place target) (changes g.program node by_change by_of target by)
      (old_value_lawful node.place target waiting (λ made w. (from made w).1))
      (λ old. changes_lawful node by_change by_of target by old (old ∷ waiting) (λ made w. (w.0, from made w.1)))

  pub assign_by_lawful : (node : Node) (by_change : Change) (left right : Meaning) → LawfulMeaning g left → LawfulMeaning g right
      → LawfulMeaning g (assign_by g.program node by_change left right)
  unfolding assign_by
  assign_by_lawful node by_change left right first second =
      only_value_lawful node (λ used. left.place >>= behind_changed g.program node by_change right)
      (λ used. binds g [] of_target of_operand left.place (behind_changed g.program node by_change right) first.1
      (λ target. binds g (of_target target ++ []) of_operand of_operand (right.value true) (changes_old g.program node by_change (kind_of right.node.of) target)
      (anywhere g (of_target target ++ []) of_operand (right.value true) (second.0 true))
      (λ by. changes_old_lawful node by_change (kind_of right.node.of) target by (by ∷ (of_target target ++ []))
      (λ made w. (w.0, before_both made (of_target target) [] w.1)))))

  pub pre_lawful : (node : Node) (by_change : Change) (e : Meaning) → LawfulMeaning g e → LawfulMeaning g (pre g.program node by_change e)
  unfolding pre
  pre_lawful node by_change e lawful =
      only_value_lawful node (λ used. e.place >>= λ target. changes_old g.program node by_change None target one)
      (λ used. binds g [] of_target of_operand e.place (λ target. changes_old g.program node by_change None target one) lawful.1
      (λ target. changes_old_lawful node by_change None target one (of_target target ++ []) (λ made w. (tt, before_both made (of_target target) [] w))))

  after_old_lawful : (node : Node) (by_change : Change) (used : Bool) (target : Target) (old : Operand) (waiting : List Operand)
      → ((made : ℕ) → OperandsCome made waiting → OperandsCome made (old ∷ of_target target))
      → Brings g waiting of_operand (after_old g.program node by_change used target old)
  after_old_lawful node by_change false target old waiting from =
      changes_lawful node by_change None target one old waiting (λ made w. let h = from made w in (h.0, (tt, h.1)))
  after_old_lawful node by_change true target old waiting from =
      binds g waiting of_operand of_operand (moves g.program node.place old) (λ kept. changes g.program node by_change None target one old >>= λ v. gives kept)
      (moves_lawful node.place old waiting (λ made w. (from made w).0))
      (λ kept. binds g (kept ∷ waiting) of_operand of_operand (changes g.program node by_change None target one old) (λ v. gives kept)
      (changes_lawful node by_change None target one old (kept ∷ waiting) (λ made w. let h = from made w.1 in (h.0, (tt, h.1))))
      (λ v. gives_lawful g (v ∷ kept ∷ waiting) of_operand kept (λ made w. (w.1.0, tt))))

  pub post_lawful : (node : Node) (by_change : Change) (e : Meaning) → LawfulMeaning g e → LawfulMeaning g (post g.program node by_change e)
  unfolding post
  post_lawful node by_change e lawful =
      only_value_lawful node (λ used. e.place >>= after_place g.program node by_change used)
      (λ used. binds g [] of_target of_operand e.place (after_place g.program node by_change used) lawful.1
      (λ target. binds g (of_target target ++ []) of_operand of_operand (old_value g.program node.place target) (after_old g.program node by_change used target)
      (old_value_lawful node.place target (of_target target ++ []) (λ made w. before_both made (of_target target) [] w))
      (λ old. after_old_lawful node by_change used target old (old ∷ (of_target target ++ [])) (λ made w. (w.0, before_both made (of_target target) [] w.1)))))

  -- THE LIBRARY AND CALLS
  pub getchar_lawful : (node : Node) → LawfulMeaning g (getchar g.program node)
  unfolding getchar
  getchar_lawful node =
      only_value_lawful node (λ used. computes g.program class.Input node.place act.Input []) (λ used. computes_lawful g class.Input node.place act.Input [] [] (λ made w. tt))

  outputs_lawful : (place : Place) (what : Out) (args : List Operand) (waiting : List Operand) → ((made : ℕ) → OperandsCome made waiting → OperandsCome made args)
      → Brings g waiting of_operand (outputs g.program place what args)
  outputs_lawful place what args waiting from = computes_lawful g class.Output place (act.Output what) args waiting from

  pub putchar_lawful : (node : Node) (e : Meaning) → LawfulMeaning g e → LawfulMeaning g (putchar g.program node e)
  unfolding putchar
  putchar_lawful node e lawful = on_one_lawful node e (puts_byte g.program node.place) lawful (λ a. outputs_lawful node.place out.Byte (a ∷ []) (a ∷ []) (λ made w. w))

  pub puts_lawful : (node : Node) (e : Meaning) → LawfulMeaning g (puts g.program node e)
  unfolding puts
  puts_lawful node e =
      only_value_lawful node (λ used. outputs g.program node.place (out.Line e.text) []) (λ used. outputs_lawful node.place (out.Line e.text) [] [] (λ made w. tt))

  pub printf_lawful : (node : Node) (format : List Piece) (args : List Meaning) → AreLawful g args → LawfulMeaning g (printf g.program node format args)
  unfolding printf
  printf_lawful node format args lawful =
      only_value_lawful node (λ used. in_turn args >>= outputs g.program node.place (out.Format (map chunk_of format)))
      (λ used. binds g [] of_operands of_operand (in_turn args) (outputs g.program node.place (out.Format (map chunk_of format))) (in_turn_lawful args lawful)
      (λ operands. outputs_lawful node.place (out.Format (map chunk_of format)) operands (operands ++ []) (λ made w. before_both made operands [] w)))

  pub call_lawful : (calls : Calls) (node : Node) (f : ℕ) (args : List Meaning) → LawfulCalls g calls → AreLawful g args → LawfulMeaning g (call calls node f args)
  unfolding call
  call_lawful calls node f args calls_lawful lawful =
      only_value_lawful node (λ used. in_turn args >>= calls f node.place)
      (λ used. binds g [] of_operands of_operand (in_turn args) (calls f node.place) (in_turn_lawful args lawful)
      (λ operands. needs g (operands ++ []) operands of_operand (calls f node.place operands) (λ made w. before_both made operands [] w) (calls_lawful f node.place operands)))
