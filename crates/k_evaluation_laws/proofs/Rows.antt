-- Each row of the table of expressions keeps states right and gives a value of its type, where its operands do.
use Rattle.std.proofs.Common.{◌≡◌, ℕ, zero, suc, ◌≤◌, ℤ, IfOk, List, [], ◌∷◌, ◌++◌, map, slice_get, Option, Some, None, Bool, true, false, if◌then◌else◌, refl, sym, ◌∙◌, ap, subst, arith}
use Rattle.std.specs.Prelude.{nat_eq}
use Rattle.std.proofs.lemmas.Bool.{eqb-true}
use Rattle.std.proofs.lemmas.Option.{same_Some}
use Rattle.k_num.specs.declared.place.Place.{Place}
use Rattle.k_num.specs.declared.numbers.Bin.{Bin}
use Rattle.k_num.specs.declared.numbers.Bin.TheVariants as bin
use Rattle.k_num.specs.declared.numbers.Kind.{Kind}
use Rattle.k_num.specs.declared.numbers.Kind.TheVariants.{I8, I32, I64}
use Rattle.k_num.specs.declared.numbers.Un.{Un}
use Rattle.k_num.specs.declared.numbers.Un.TheVariants.{Neg, Complement, Not}
use Rattle.k_num.specs.ArithmeticLaws.{gives_number}
use Rattle.k_optab.specs.declared.class.Class.{Class}
use Rattle.k_optab.specs.declared.class.Class.TheVariants as class
use Rattle.k_types_meaning.specs.declared.types.TType.{TType}
use Rattle.k_types_meaning.specs.declared.types.TType.TheVariants as ttype
use Rattle.k_types_meaning.specs.declared.tree.expression.Change.{Change}
use Rattle.k_types_meaning.specs.declared.tree.expression.Change.TheVariants as change
use Rattle.k_types_meaning.specs.declared.tree.expression.Node.{Node}
use Rattle.k_types_meaning.specs.declared.tree.expression.Piece.{Piece}
use Rattle.k_types_meaning.specs.declared.tree.unit.TFunc.{TFunc}
use Rattle.k_types_meaning.specs.declared.tree.unit.TVariable.{TVariable}
use Rattle.k_types_meaning.specs.Types.{same_kind}
use Rattle.k_world.specs.declared.act.Act.{Act}
use Rattle.k_world.specs.declared.act.Act.TheVariants as act
use Rattle.k_world.specs.declared.act.Out.TheVariants as out
use Rattle.k_world.specs.declared.value.Held.{Held}
use Rattle.k_world.specs.declared.value.Value.{Value}
use Rattle.k_world.specs.declared.value.Value.TheVariants as value
use Rattle.k_world.specs.Acts.{work}
use Rattle.k_world.specs.Operands.{values_of}
use Rattle.k_evaluation.specs.declared.operand.Operand.{Operand}
use Rattle.k_evaluation.specs.declared.operand.Operand.TheVariants.{Constant, Holding, Register}
use Rattle.k_evaluation.specs.declared.operand.Target.{Target}
use Rattle.k_evaluation.specs.declared.operand.Target.TheVariants.{InRegister, InMemory}
use Rattle.k_evaluation.specs.States.{Program, State, Part, ◌>>=◌, gives, read, makes, computes, sets, settled}
use Rattle.k_evaluation.specs.Meanings.{Meaning, nothing, only_value, at_place, value_at, value_in_memory, loads, on_one, on_two, behind_one, in_turn, tests, holds, kind_of, scale_of}
use Rattle.k_evaluation.specs.Places.{number, string, object, variable, index, deref, address, forward, back, onto, address_of, string_number, variable_place, has_register, is_register, is_broken, offset, element_at, behind_base, address_at, offset_onto}
use Rattle.k_evaluation.specs.Operators.{plus, unary, convert, cast, binary, compare, distance, both, either, cond, comma, unary_on, converts, cast_to, class_of, binary_on, compare_on, distance_on, truth_on, truth_of, behind_test, same_truth, kind_or_int, logical, moves, arm, arm_by}
use Rattle.k_evaluation.specs.Assignments.{assign, assign_by, pre, post, writes, behind_place, old_value, converts_between, converts_side, converts_back, side_kind, combined, changed, changes, changes_old, behind_changed, one, after_old, after_place}
use Rattle.k_evaluation.specs.Library.{getchar, putchar, puts, printf, outputs, puts_byte, chunk_of}
use Rattle.k_evaluation.specs.Expressions.{Calls, call}
use Rattle.k_evaluation_laws.specs.Kinds.{start_kinds, Sort, NoValue, ANumber, APointer, sort_of, kind_in, IsValue, IsIn}
use Rattle.k_evaluation_laws.proofs.Fits.{callee, same, is_number, is_pointer, unused_or, unary_fits, binary_fits, cast_fits, change_fits}
use Rattle.k_evaluation_laws.proofs.Ranges.{is_in_range, most_written}
use Rattle.k_evaluation_laws.proofs.Acts.{IsStored, WritesRight, held_so, ok_so, stored_value, number_value, is_write, number_given, binary_truth, not_truth, test_given, compare_given, offset_given, distance_given, load_given, store_given, move_given, input_given, putchar_given, puts_given, printf_given}
use Rattle.k_evaluation_laws.proofs.Keeping.{Here, gives_known, GivesSort, IsOperand, IsRegister, Waiting, AValue, AVariable, AllHold, hold_front, hold_behind, Brings, of_none, of_operand, of_held, of_target, binds, needs, anywhere, so, gives_right, sets_right, settled_right, operand_read, address_read, unused_operand, variable_operand, makes_right, computes_right}
use Rattle.k_evaluation_laws.proofs.Slots.{one_kind, one_sort, number_sort, pointer_sort, nothing_is, value_in}

-- the sort of what an expression gives
abbrev pub sort : Meaning → Sort
sort e = sort_of e.node.of

-- AN EXPRESSION IS RIGHT: it keeps states right, and its value and its place are of its type
pub record IsRightMeaning (vs : Here) (e : Meaning) : Type 0 where
  pub value : (used : Bool) → Brings vs [] (of_operand (sort e)) (e.value used)
  pub place : Brings vs [] (of_target (sort e)) e.place

abbrev pub AreRight : Here → List Meaning → Type 0
AreRight vs [] = Unit {0}
AreRight vs (e ∷ es) = IsRightMeaning vs e × AreRight vs es

-- operands of sorts, as many as there are of both
abbrev pub of_operands : List Sort → List Operand → List Waiting
of_operands [] operands = []
of_operands (s ∷ sorts) [] = []
of_operands (s ∷ sorts) (a ∷ operands) = AValue s a ∷ of_operands sorts operands

-- a call with these variables
abbrev pub here : Program → List TVariable → Here
here program variables = record { vars = variables; start = start_kinds program.unit }

-- THE CALLS ARE RIGHT: where arguments are what the parameters of a function are, a call keeps states right and gives what its result is; where no function is
-- there, it gives nothing
pub record AreRightCalls (program : Program) (calls : Calls) : Type 0 where
  pub there : (variables : List TVariable) (n : ℕ) (f : TFunc) (place : Place) (args : List Operand) → slice_get program.unit.functions n ≡ Some f
      → Brings (here program variables) (of_operands (callee f).params args) (of_operand (sort_of f.result)) (calls n place args)
  pub missing : (variables : List TVariable) (n : ℕ) (s : Sort) (place : Place) (args : List Operand) → slice_get program.unit.functions n ≡ None
      → Brings (here program variables) [] (of_operand s) (calls n place args)

module _ (program : Program) (vs : Here) where
  gives_nothing : (waiting : List Waiting) (s : Sort) → Brings vs waiting (of_operand s) (gives nothing)
  gives_nothing waiting s = gives_right vs waiting (of_operand s) nothing (λ kinds wait. (nothing_is kinds s, tt))

  -- the first of those that wait
  gives_first : (s : Sort) (a : Operand) (waiting : List Waiting) → Brings vs (AValue s a ∷ waiting) (of_operand s) (gives a)
  gives_first s a waiting = gives_right vs (AValue s a ∷ waiting) (of_operand s) a (λ kinds wait. (wait.0, tt))

  -- as another sort that is the same
  as_sort : (waiting : List Waiting) (s t : Sort) (part : Part Operand) → s ≡ t → Brings vs waiting (of_operand s) part → Brings vs waiting (of_operand t) part
  as_sort waiting s t part is h = subst (λ (x : Sort). Brings vs waiting (of_operand x) part) is h

  -- as no value
  as_nothing : (waiting : List Waiting) (s : Sort) (part : Part Operand) → Brings vs waiting (of_operand s) part → Brings vs waiting (of_operand NoValue) part
  as_nothing waiting s part h = so vs waiting (of_operand s) (of_operand NoValue) part (λ a kinds wait. (unused_operand kinds vs a, tt)) h

  -- as nothing that is used, or as the same sort
  as_used : (waiting : List Waiting) (t s : Sort) (part : Part Operand) → unused_or t (same t s) ≡ true → Brings vs waiting (of_operand s) part → Brings vs waiting (of_operand t) part
  as_used waiting NoValue s part is h = as_nothing waiting s part h
  as_used waiting (ANumber kind) s part is h = as_sort waiting s (ANumber kind) part (sym (one_sort (ANumber kind) s is)) h
  as_used waiting (APointer kind) s part is h = as_sort waiting s (APointer kind) part (sym (one_sort (APointer kind) s is)) h

  only_value_right : (node : Node) (v : Bool → Part Operand) → ((used : Bool) → Brings vs [] (of_operand (sort_of node.of)) (v used)) → IsRightMeaning vs (only_value node v)
  only_value_right node v each = record {
    value = each;
    place = gives_right vs [] (of_target (sort_of node.of)) (InMemory nothing) (λ kinds wait. (nothing_is kinds (APointer (kind_in (sort_of node.of))), tt));
  }

  on_one_right : (node : Node) (e : Meaning) (operation : Operand → Part Operand) → IsRightMeaning vs e
      → ((a : Operand) → Brings vs (AValue (sort e) a ∷ []) (of_operand (sort_of node.of)) (operation a)) → IsRightMeaning vs (on_one node e operation)
  on_one_right node e operation right each =
      only_value_right node (λ used. e.value true >>= operation)
      (λ used. binds vs [] (of_operand (sort e)) (of_operand (sort_of node.of)) (e.value true) operation (right.value true) each)

  on_two_right : (node : Node) (left right : Meaning) (operation : Operand → Operand → Part Operand) → IsRightMeaning vs left → IsRightMeaning vs right
      → ((a b : Operand) → Brings vs (AValue (sort right) b ∷ AValue (sort left) a ∷ []) (of_operand (sort_of node.of)) (operation a b)) → IsRightMeaning vs (on_two node left right operation)
  on_two_right node left right operation first second each =
      on_one_right node left (behind_one right operation) first
      (λ a. binds vs (AValue (sort left) a ∷ []) (of_operand (sort right)) (of_operand (sort_of node.of)) (right.value true) (operation a)
      (anywhere vs (AValue (sort left) a ∷ []) (of_operand (sort right)) (right.value true) (second.value true)) (each a))

  -- ELEMENTS
  pub loads_right : (place : Place) (used : Bool) (kind : Kind) (a : Operand) (waiting : List Waiting)
      → ((kinds : List Kind) → AllHold kinds vs waiting → IsOperand kinds vs (APointer kind) a) → Brings vs waiting (of_operand (ANumber kind)) (loads program place used a)
  loads_right place false kind a waiting from = gives_nothing waiting (ANumber kind)
  loads_right place true kind a waiting from =
      computes_right vs waiting (ANumber kind) program class.Load place act.Load (a ∷ [])
      (λ kinds s right wait. (load_given kinds s.world right.world.objects kind (read s a) (address_read kinds vs s kind a right (from kinds wait)), tt))

  in_memory_right : (place : Place) (of : TType) (used : Bool) (a : Operand)
      → Brings vs (AValue (APointer (kind_in (sort_of of))) a ∷ []) (of_operand (sort_of of)) (value_in_memory program place of used a)
  in_memory_right place ttype.Void used a = gives_nothing (AValue (APointer I32) a ∷ []) NoValue
  in_memory_right place (ttype.Number kind) used a = loads_right place used kind a (AValue (APointer kind) a ∷ []) (λ kinds wait. wait.0)
  in_memory_right place (ttype.Pointer target) used a = gives_first (APointer target.kind) a []

  value_at_right : (node : Node) (used : Bool) (target : Target) → Brings vs (of_target (sort_of node.of) target ++ []) (of_operand (sort_of node.of)) (value_at program node used target)
  value_at_right node used (InRegister n broken) =
      gives_right vs (AVariable (sort_of node.of) n ∷ []) (of_operand (sort_of node.of)) (Register n broken) (λ kinds wait. (variable_operand kinds vs (sort_of node.of) n broken wait.0, tt))
  value_at_right node used (InMemory a) = in_memory_right node.place node.of used a

  at_place_right : (node : Node) (place : Part Target) → Brings vs [] (of_target (sort_of node.of)) place → IsRightMeaning vs (at_place program node place)
  at_place_right node place h = record {
    value = λ used.
        binds vs [] (of_target (sort_of node.of)) (of_operand (sort_of node.of)) place (value_at program node used) h (value_at_right node used);
    place = h;
  }

  in_turn_right : (es : List Meaning) → AreRight vs es → Brings vs [] (of_operands (map sort es)) (in_turn es)
  in_turn_right [] right = gives_right vs [] (of_operands []) [] (λ kinds wait. tt)
  in_turn_right (e ∷ es) right =
      binds vs [] (of_operand (sort e)) (of_operands (sort e ∷ map sort es)) (e.value true) (λ a. in_turn es >>= λ rest. gives (a ∷ rest)) (right.0.value true)
      (λ a. binds vs (AValue (sort e) a ∷ []) (of_operands (map sort es)) (of_operands (sort e ∷ map sort es)) (in_turn es) (λ rest. gives (a ∷ rest))
      (anywhere vs (AValue (sort e) a ∷ []) (of_operands (map sort es)) (in_turn es) (in_turn_right es right.1))
      (λ rest. gives_right vs (of_operands (map sort es) rest ++ AValue (sort e) a ∷ []) (of_operands (sort e ∷ map sort es)) (a ∷ rest)
      (λ kinds wait.
      ((hold_behind kinds vs (of_operands (map sort es) rest) (AValue (sort e) a ∷ []) wait).0, hold_front kinds vs (of_operands (map sort es) rest) (AValue (sort e) a ∷ []) wait))))

  -- a test gives 0 or 1, which each kind holds
  pub tests_right : (waiting : List Waiting) (place : Place) (a : Operand) (to : Kind) → Brings vs waiting (of_held (ANumber to)) (tests program place a)
  tests_right waiting place a to =
      makes_right vs waiting (ANumber to) program class.Test place act.Test (a ∷ [])
      (λ kinds s right wait. (test_given kinds s.world to (values_of (map (read s) (a ∷ []))), tt))

  -- CONSTANTS AND PLACES
  constant_value : (kinds : List Kind) (of : TType) (z : ℤ) → is_number (sort_of of) ≡ true → is_in_range of z ≡ true → IsValue kinds (sort_of of) (value.Number z)
  constant_value kinds ttype.Void z is range = tt
  constant_value kinds (ttype.Number kind) z is range = range
  constant_value kinds (ttype.Pointer target) z is range = absurd (cc is)

  pub number_right : (node : Node) (z : ℤ) → is_number (sort_of node.of) ≡ true → is_in_range node.of z ≡ true → IsRightMeaning vs (number node z)
  unfolding number
  number_right node z is range =
      only_value_right node (λ used. gives (Constant (value.Number z)))
      (λ used. gives_right vs [] (of_operand (sort_of node.of)) (Constant (value.Number z)) (λ kinds wait. (constant_value kinds node.of z is range, tt)))

  pub string_right : (node : Node) (n : ℕ) (bytes : List ℕ) → sort_of node.of ≡ APointer I8 → slice_get vs.start (string_number program n) ≡ Some I8
      → IsRightMeaning vs (string program node n bytes)
  unfolding string
  string_right node n bytes is known = record {
    value = λ used.
        as_sort [] (APointer I8) (sort_of node.of) (gives (address_of (string_number program n))) (sym is)
        (gives_known vs [] (of_operand (APointer I8)) (address_of (string_number program n)) (λ kinds begins. ((begins (string_number program n) I8 known, omega arith), tt)));
    place = gives_right vs [] (of_target (sort_of node.of)) (InMemory nothing) (λ kinds wait. (nothing_is kinds (APointer (kind_in (sort_of node.of))), tt));
  }

  pub object_right : (node : Node) (n : ℕ) → slice_get vs.start n ≡ Some (kind_in (sort_of node.of)) → IsRightMeaning vs (object program node n)
  unfolding object
  object_right node n known =
      at_place_right node (gives (InMemory (address_of n)))
      (gives_known vs [] (of_target (sort_of node.of)) (InMemory (address_of n)) (λ kinds begins. ((begins n (kind_in (sort_of node.of)) known, omega arith), tt)))

  -- a variable that is memory is read as the pointer to its object
  pub memory_reads : (elements : ℕ) (t : Sort) → nat_eq elements 0 ≡ false → (t ≡ NoValue → ⊥) → GivesSort elements t (APointer (kind_in t))
  memory_reads elements NoValue none some = absurd (some refl)
  memory_reads zero (ANumber kind) none some = absurd (cc none)
  memory_reads (suc count) (ANumber kind) none some = refl
  memory_reads zero (APointer kind) none some = refl
  memory_reads (suc count) (APointer kind) none some = refl

  pub variable_right : (node : Node) (n : ℕ) (v : TVariable) → slice_get vs.vars n ≡ Some v → sort_of v.of ≡ sort_of node.of → (sort_of node.of ≡ NoValue → ⊥)
      → IsRightMeaning vs (variable program vs.vars node n)
  unfolding variable
  variable_right node n v there is some = at_place_right node (variable_place program node n (is_register vs.vars n)) (by (is_register vs.vars n) refl)
    where
      elements_are : (b : Bool) → is_register vs.vars n ≡ b → nat_eq v.elements 0 ≡ b
      elements_are b same = sym (ap (λ (o : Option TVariable). has_register o) there) ∙ same

      by : (b : Bool) → is_register vs.vars n ≡ b → Brings vs [] (of_target (sort_of node.of)) (variable_place program node n b)
      by true same =
          gives_right vs [] (of_target (sort_of node.of)) (InRegister n (is_broken program node.number))
          (λ kinds wait. ((v, there, eqb-true v.elements 0 (elements_are true same), is), tt))
      by false same =
          gives_right vs [] (of_target (sort_of node.of)) (InMemory (Register n false))
          (λ kinds wait. (
            (v, there, subst (λ (t : Sort). GivesSort v.elements (sort_of v.of) (APointer (kind_in t))) is (memory_reads v.elements (sort_of v.of) (elements_are false same) (λ none. some (sym is ∙ none)))),
            tt,
          ))

  pub offset_right : (place : Place) (minus : Bool) (scale : ℕ) (kind : Kind) (a b : Operand) (waiting : List Waiting)
      → ((kinds : List Kind) → AllHold kinds vs waiting → IsOperand kinds vs (APointer kind) a) → Brings vs waiting (of_operand (APointer kind)) (offset program place minus scale a b)
  offset_right place minus scale kind a b waiting from =
      computes_right vs waiting (APointer kind) program class.Simple place (act.Offset minus scale) (a ∷ b ∷ [])
      (λ kinds s right wait.
      (offset_given kinds s.world right.world.objects minus scale kind (read s a) (read s b) (operand_read kinds vs s (APointer kind) a right (from kinds wait)), tt))

  element_right : (place : Place) (scale : ℕ) (s : Sort) (a b : Operand) (waiting : List Waiting)
      → ((kinds : List Kind) → AllHold kinds vs waiting → IsOperand kinds vs (APointer (kind_in s)) a) → Brings vs waiting (of_target s) (element_at program place scale a b)
  element_right place scale s a b waiting from =
      binds vs waiting (of_operand (APointer (kind_in s))) (of_target s) (offset program place false scale a b) (λ address. gives (InMemory address))
      (offset_right place false scale (kind_in s) a b waiting from)
      (λ address. gives_right vs (AValue (APointer (kind_in s)) address ∷ waiting) (of_target s) (InMemory address) (λ kinds wait. (wait.0, tt)))

  -- an operand of a sort that is the same
  operand_as : (kinds : List Kind) (s t : Sort) (a : Operand) → s ≡ t → IsOperand kinds vs s a → IsOperand kinds vs t a
  operand_as kinds s t a is h = subst (λ (x : Sort). IsOperand kinds vs x a) is h

  pub index_right : (node : Node) (base by : Meaning) → sort base ≡ APointer (kind_in (sort_of node.of)) → IsRightMeaning vs base → IsRightMeaning vs by
      → IsRightMeaning vs (index program node base by)
  unfolding index
  index_right node base by is first second =
      at_place_right node (base.value true >>= behind_base program node.place (scale_of base.node.of) by)
      (binds vs [] (of_operand (sort base)) (of_target (sort_of node.of)) (base.value true) (behind_base program node.place (scale_of base.node.of) by) (first.value true)
      (λ a. binds vs (AValue (sort base) a ∷ []) (of_operand (sort by)) (of_target (sort_of node.of)) (by.value true) (element_at program node.place (scale_of base.node.of) a)
      (anywhere vs (AValue (sort base) a ∷ []) (of_operand (sort by)) (by.value true) (second.value true))
      (λ b. element_right node.place (scale_of base.node.of) (sort_of node.of) a b (AValue (sort by) b ∷ AValue (sort base) a ∷ [])
      (λ kinds wait. operand_as kinds (sort base) (APointer (kind_in (sort_of node.of))) a is wait.1.0))))

  pub deref_right : (node : Node) (e : Meaning) → sort e ≡ APointer (kind_in (sort_of node.of)) → IsRightMeaning vs e → IsRightMeaning vs (deref program node e)
  unfolding deref
  deref_right node e is right =
      at_place_right node (e.value true >>= λ pointer. gives (InMemory pointer))
      (binds vs [] (of_operand (sort e)) (of_target (sort_of node.of)) (e.value true) (λ pointer. gives (InMemory pointer)) (right.value true)
      (λ a. gives_right vs (AValue (sort e) a ∷ []) (of_target (sort_of node.of)) (InMemory a)
      (λ kinds wait. (operand_as kinds (sort e) (APointer (kind_in (sort_of node.of))) a is wait.0, tt))))

  address_at_right : (s : Sort) (target : Target) → Brings vs (of_target s target ++ []) (of_operand (APointer (kind_in s))) (gives (address_at target))
  address_at_right s (InRegister n broken) = gives_nothing (AVariable s n ∷ []) (APointer (kind_in s))
  address_at_right s (InMemory a) = gives_first (APointer (kind_in s)) a []

  pub address_right : (node : Node) (e : Meaning) → sort_of node.of ≡ APointer (kind_in (sort e)) → IsRightMeaning vs e → IsRightMeaning vs (address node e)
  unfolding address
  address_right node e is right =
      only_value_right node (λ used. e.place >>= λ target. gives (address_at target))
      (λ used. as_sort [] (APointer (kind_in (sort e))) (sort_of node.of) (e.place >>= λ target. gives (address_at target)) (sym is)
      (binds vs [] (of_target (sort e)) (of_operand (APointer (kind_in (sort e)))) e.place (λ target. gives (address_at target)) right.place (address_at_right (sort e))))

  -- a pointer that is moved is of its own sort
  moved_right : (node : Node) (minus : Bool) (s : Sort) (a b : Operand) (waiting : List Waiting) → sort_of node.of ≡ s → is_pointer (sort_of node.of) ≡ true
      → ((kinds : List Kind) → AllHold kinds vs waiting → IsOperand kinds vs s a) → Brings vs waiting (of_operand (sort_of node.of)) (offset program node.place minus (scale_of node.of) a b)
  moved_right node minus s a b waiting same_as is from =
      let to : sort_of node.of ≡ APointer (kind_in (sort_of node.of)) = pointer_sort (sort_of node.of) is in
      as_sort waiting (APointer (kind_in (sort_of node.of))) (sort_of node.of) (offset program node.place minus (scale_of node.of) a b) (sym to)
      (offset_right node.place minus (scale_of node.of) (kind_in (sort_of node.of)) a b waiting
      (λ kinds wait. operand_as kinds s (APointer (kind_in (sort_of node.of))) a (sym same_as ∙ to) (from kinds wait)))

  pub forward_right : (node : Node) (pointer by : Meaning) → sort_of node.of ≡ sort pointer → is_pointer (sort_of node.of) ≡ true → IsRightMeaning vs pointer → IsRightMeaning vs by
      → IsRightMeaning vs (forward program node pointer by)
  unfolding forward
  forward_right node pointer by same_as is first second =
      on_two_right node pointer by (offset program node.place false (scale_of node.of)) first second
      (λ a b. moved_right node false (sort pointer) a b (AValue (sort by) b ∷ AValue (sort pointer) a ∷ []) same_as is (λ kinds wait. wait.1.0))

  pub back_right : (node : Node) (pointer by : Meaning) → sort_of node.of ≡ sort pointer → is_pointer (sort_of node.of) ≡ true → IsRightMeaning vs pointer → IsRightMeaning vs by
      → IsRightMeaning vs (back program node pointer by)
  unfolding back
  back_right node pointer by same_as is first second =
      on_two_right node pointer by (offset program node.place true (scale_of node.of)) first second
      (λ a b. moved_right node true (sort pointer) a b (AValue (sort by) b ∷ AValue (sort pointer) a ∷ []) same_as is (λ kinds wait. wait.1.0))

  pub onto_right : (node : Node) (by pointer : Meaning) → sort_of node.of ≡ sort pointer → is_pointer (sort_of node.of) ≡ true → IsRightMeaning vs by → IsRightMeaning vs pointer
      → IsRightMeaning vs (onto program node by pointer)
  unfolding onto
  onto_right node by pointer same_as is first second =
      on_two_right node by pointer (offset_onto program node.place (scale_of node.of)) first second
      (λ b a. moved_right node false (sort pointer) a b (AValue (sort pointer) a ∷ AValue (sort by) b ∷ []) same_as is (λ kinds wait. wait.0))

  -- OPERATORS
  pub plus_right : (node : Node) (e : Meaning) → sort_of node.of ≡ sort e → IsRightMeaning vs e → IsRightMeaning vs (plus node e)
  unfolding plus
  plus_right node e is right = only_value_right node e.value (λ used. as_sort [] (sort e) (sort_of node.of) (e.value used) (sym is) (right.value used))

  -- an operation whose act gives a number of a kind, whatever its operands
  kind_computes : (waiting : List Waiting) (class : Class) (place : Place) (what : Act) (operands : List Operand) (kind : Kind)
      → ((kinds : List Kind) (s : State) → IfOk (work what (values_of (map (read s) operands)) s.world) (IsValue kinds (ANumber kind)))
      → ((kinds : List Kind) (values : List Value) → WritesRight kinds what values) → Brings vs waiting (of_operand (ANumber kind)) (computes program class place what operands)
  kind_computes waiting class place what operands kind gives_it writes_none =
      computes_right vs waiting (ANumber kind) program class place what operands (λ kinds s right wait. (gives_it kinds s, writes_none kinds (values_of (map (read s) operands))))

  -- a number of a kind, as its sort
  as_number : (waiting : List Waiting) (s : Sort) (part : Part Operand) → is_number s ≡ true → ((kind : Kind) → Brings vs waiting (of_operand (ANumber kind)) part) → Brings vs waiting (of_operand s) part
  as_number waiting s part is h = as_sort waiting (ANumber (kind_in s)) s part (sym (number_sort s is)) (h (kind_in s))

  unary_on_right : (place : Place) (op : Un) (kind : Kind) (s : Sort) (a : Operand) (waiting : List Waiting) → unary_fits op kind s ≡ true
      → Brings vs waiting (of_operand s) (unary_on program place op kind a)
  unary_on_right place Neg kind s a waiting is =
      as_sort waiting (ANumber kind) s (unary_on program place Neg kind a) (sym (one_sort s (ANumber kind) is))
      (kind_computes waiting class.Simple place (act.Unary Neg kind) (a ∷ []) kind (λ kinds t. number_given kinds t.world (act.Unary Neg kind) kind (values_of (map (read t) (a ∷ []))) refl) (λ kinds values. tt))
  unary_on_right place Complement kind s a waiting is =
      as_sort waiting (ANumber kind) s (unary_on program place Complement kind a) (sym (one_sort s (ANumber kind) is))
      (kind_computes waiting class.Simple place (act.Unary Complement kind) (a ∷ []) kind
      (λ kinds t. number_given kinds t.world (act.Unary Complement kind) kind (values_of (map (read t) (a ∷ []))) refl) (λ kinds values. tt))
  unary_on_right place Not kind s a waiting is =
      as_number waiting s (unary_on program place Not kind a) is
      (λ to. kind_computes waiting class.Simple place (act.Unary Not kind) (a ∷ []) to (λ kinds t. not_truth kinds t.world kind to (values_of (map (read t) (a ∷ [])))) (λ kinds values. tt))

  pub unary_right : (node : Node) (op : Un) (kind : Kind) (e : Meaning) → unary_fits op kind (sort_of node.of) ≡ true → IsRightMeaning vs e → IsRightMeaning vs (unary program node op kind e)
  unfolding unary
  unary_right node op kind e is right =
      on_one_right node e (unary_on program node.place op kind) right (λ a. unary_on_right node.place op kind (sort_of node.of) a (AValue (sort e) a ∷ []) is)

  pub converts_right : (waiting : List Waiting) (place : Place) (kind : Kind) (a : Operand) → Brings vs waiting (of_operand (ANumber kind)) (converts program place (Some kind) a)
  converts_right waiting place kind a =
      kind_computes waiting class.Conv place (act.Convert kind) (a ∷ []) kind (λ kinds t. number_given kinds t.world (act.Convert kind) kind (values_of (map (read t) (a ∷ []))) refl) (λ kinds values. tt)

  converts_to : (waiting : List Waiting) (place : Place) (of : TType) (a : Operand) → is_number (sort_of of) ≡ true → Brings vs waiting (of_operand (sort_of of)) (converts program place (kind_of of) a)
  converts_to waiting place ttype.Void a is = absurd (cc is)
  converts_to waiting place (ttype.Number kind) a is = converts_right waiting place kind a
  converts_to waiting place (ttype.Pointer target) a is = absurd (cc is)

  pub convert_right : (node : Node) (e : Meaning) → is_number (sort_of node.of) ≡ true → IsRightMeaning vs e → IsRightMeaning vs (convert program node e)
  unfolding convert
  convert_right node e is right =
      on_one_right node e (converts program node.place (kind_of node.of)) right (λ a. converts_to (AValue (sort e) a ∷ []) node.place node.of a is)

  cast_to_right : (place : Place) (of : TType) (e : Meaning) (used : Bool) → cast_fits (sort_of of) (sort e) ≡ true → IsRightMeaning vs e
      → Brings vs [] (of_operand (sort_of of)) (cast_to program place of e used)
  cast_to_right place ttype.Void e used is right =
      binds vs [] (of_operand (sort e)) (of_operand NoValue) (e.value false) (λ a. gives nothing) (right.value false) (λ a. gives_nothing (AValue (sort e) a ∷ []) NoValue)
  cast_to_right place (ttype.Number kind) e used is right =
      binds vs [] (of_operand (sort e)) (of_operand (ANumber kind)) (e.value true) (converts program place (Some kind)) (right.value true)
      (λ a. converts_right (AValue (sort e) a ∷ []) place kind a)
  cast_to_right place (ttype.Pointer target) e used is right =
      as_sort [] (sort e) (APointer target.kind) (e.value used) (sym (one_sort (APointer target.kind) (sort e) is)) (right.value used)

  pub cast_right : (node : Node) (e : Meaning) → cast_fits (sort_of node.of) (sort e) ≡ true → IsRightMeaning vs e → IsRightMeaning vs (cast program node e)
  unfolding cast
  cast_right node e is right = only_value_right node (cast_to program node.place node.of e) (λ used. cast_to_right node.place node.of e used is right)

  binary_on_right : (place : Place) (op : Bin) (kind : Kind) (s : Sort) (a b : Operand) (waiting : List Waiting) → binary_fits op kind s ≡ true
      → Brings vs waiting (of_operand s) (binary_on program place op kind a b)
  binary_on_right place op kind s a b waiting is = by (gives_number op) refl is
    where
      by : (number : Bool) → gives_number op ≡ number → (if number then same s (ANumber kind) else is_number s) ≡ true → Brings vs waiting (of_operand s) (binary_on program place op kind a b)
      by true gives_it fits =
          as_sort waiting (ANumber kind) s (binary_on program place op kind a b) (sym (one_sort s (ANumber kind) fits))
          (kind_computes waiting (class_of op) place (act.Binary op kind) (a ∷ b ∷ []) kind
          (λ kinds t. number_given kinds t.world (act.Binary op kind) kind (values_of (map (read t) (a ∷ b ∷ []))) refl) (λ kinds values. tt))
      by false gives_it fits =
          as_number waiting s (binary_on program place op kind a b) fits
          (λ to. kind_computes waiting (class_of op) place (act.Binary op kind) (a ∷ b ∷ []) to
          (λ kinds t. binary_truth kinds t.world op kind to (values_of (map (read t) (a ∷ b ∷ []))) gives_it) (λ kinds values. tt))

  pub binary_right : (node : Node) (op : Bin) (kind : Kind) (left right : Meaning) → binary_fits op kind (sort_of node.of) ≡ true → IsRightMeaning vs left → IsRightMeaning vs right
      → IsRightMeaning vs (binary program node op kind left right)
  unfolding binary
  binary_right node op kind left right is first second =
      on_two_right node left right (binary_on program node.place op kind) first second
      (λ a b. binary_on_right node.place op kind (sort_of node.of) a b (AValue (sort right) b ∷ AValue (sort left) a ∷ []) is)

  pub compare_right : (node : Node) (op : Bin) (left right : Meaning) → is_number (sort_of node.of) ≡ true → IsRightMeaning vs left → IsRightMeaning vs right
      → IsRightMeaning vs (compare program node op left right)
  unfolding compare
  compare_right node op left right is first second =
      on_two_right node left right (compare_on program node.place op) first second
      (λ a b. as_number (AValue (sort right) b ∷ AValue (sort left) a ∷ []) (sort_of node.of) (compare_on program node.place op a b) is
      (λ to. kind_computes (AValue (sort right) b ∷ AValue (sort left) a ∷ []) class.Simple node.place (act.PtrCompare op) (a ∷ b ∷ []) to
      (λ kinds t. compare_given kinds t.world op to (values_of (map (read t) (a ∷ b ∷ [])))) (λ kinds values. tt)))

  pub distance_right : (node : Node) (left right : Meaning) → sort_of node.of ≡ ANumber I64 → is_pointer (sort left) ≡ true → is_pointer (sort right) ≡ true → IsRightMeaning vs left
      → IsRightMeaning vs right → IsRightMeaning vs (distance program node left right)
  unfolding distance
  distance_right node left right is one two first second =
      on_two_right node left right (distance_on program node.place (scale_of left.node.of)) first second
      (λ a b. as_sort (AValue (sort right) b ∷ AValue (sort left) a ∷ []) (ANumber I64) (sort_of node.of) (distance_on program node.place (scale_of left.node.of) a b) (sym is)
      (computes_right vs (AValue (sort right) b ∷ AValue (sort left) a ∷ []) (ANumber I64) program class.Div node.place (act.PtrDistance (scale_of left.node.of)) (a ∷ b ∷ [])
      (λ kinds s well wait. (
        distance_given kinds s.world well.world.objects (scale_of left.node.of) (kind_in (sort left)) (kind_in (sort right)) (read s a) (read s b)
            (operand_read kinds vs s (APointer (kind_in (sort left))) a well (operand_as kinds (sort left) (APointer (kind_in (sort left))) a (pointer_sort (sort left) one) wait.1.0))
            (operand_read kinds vs s (APointer (kind_in (sort right))) b well (operand_as kinds (sort right) (APointer (kind_in (sort right))) b (pointer_sort (sort right) two) wait.0)),
        tt,
      ))))

  truth_of_right : (node : Node) (right : Meaning) (to : Kind) → IsRightMeaning vs right → Brings vs [] (of_operand (ANumber to)) (truth_of program node right)
  truth_of_right node right to well =
      binds vs [] (of_operand (sort right)) (of_operand (ANumber to)) (right.value true) (truth_on program node.place (kind_or_int (kind_of right.node.of))) (well.value true)
      (λ b. kind_computes (AValue (sort right) b ∷ []) class.Simple node.place (act.Binary bin.Ne (kind_or_int (kind_of right.node.of))) (b ∷ nothing ∷ []) to
      (λ kinds t. binary_truth kinds t.world bin.Ne (kind_or_int (kind_of right.node.of)) to (values_of (map (read t) (b ∷ nothing ∷ []))) refl) (λ kinds values. tt))

  behind_test_right : (node : Node) (decides : Bool) (right : Meaning) (test : Held) (to : Kind) (waiting : List Waiting) → IsRightMeaning vs right
      → Brings vs (AValue (ANumber to) (Holding test) ∷ waiting) (of_operand (ANumber to)) (behind_test program node decides right test)
  behind_test_right node decides right test to waiting well = by (same_truth (holds test) decides)
    where
      by : (b : Bool) → Brings vs (AValue (ANumber to) (Holding test) ∷ waiting) (of_operand (ANumber to)) (if b then gives (Holding test) else truth_of program node right)
      by true = gives_first (ANumber to) (Holding test) waiting
      by false = anywhere vs (AValue (ANumber to) (Holding test) ∷ waiting) (of_operand (ANumber to)) (truth_of program node right) (truth_of_right node right to well)

  logical_right : (node : Node) (decides : Bool) (left right : Meaning) → is_number (sort_of node.of) ≡ true → IsRightMeaning vs left → IsRightMeaning vs right
      → IsRightMeaning vs (logical program node decides left right)
  logical_right node decides left right is first second =
      only_value_right node (λ used. settled false (left.value true >>= λ a. tests program node.place a >>= behind_test program node decides right))
      (λ used. settled_right vs [] (of_operand (sort_of node.of)) false (left.value true >>= λ a. tests program node.place a >>= behind_test program node decides right)
      (as_number [] (sort_of node.of) (left.value true >>= λ a. tests program node.place a >>= behind_test program node decides right) is
      (λ to. binds vs [] (of_operand (sort left)) (of_operand (ANumber to)) (left.value true) (λ a. tests program node.place a >>= behind_test program node decides right) (first.value true)
      (λ a. binds vs (AValue (sort left) a ∷ []) (of_held (ANumber to)) (of_operand (ANumber to)) (tests program node.place a) (behind_test program node decides right)
      (tests_right (AValue (sort left) a ∷ []) node.place a to)
      (λ test. behind_test_right node decides right test to (AValue (sort left) a ∷ []) second)))))

  pub both_right : (node : Node) (left right : Meaning) → is_number (sort_of node.of) ≡ true → IsRightMeaning vs left → IsRightMeaning vs right → IsRightMeaning vs (both program node left right)
  unfolding both
  both_right node left right is first second = logical_right node false left right is first second

  pub either_right : (node : Node) (left right : Meaning) → is_number (sort_of node.of) ≡ true → IsRightMeaning vs left → IsRightMeaning vs right → IsRightMeaning vs (either program node left right)
  unfolding either
  either_right node left right is first second = logical_right node true left right is first second

  pub moves_right : (waiting : List Waiting) (s : Sort) (place : Place) (a : Operand) → ((kinds : List Kind) → AllHold kinds vs waiting → IsOperand kinds vs s a)
      → Brings vs waiting (of_operand s) (moves program place a)
  moves_right waiting s place a from =
      computes_right vs waiting s program class.Move place act.Move (a ∷ [])
      (λ kinds t right wait. (move_given kinds t.world s (read t a) (operand_read kinds vs t s a right (from kinds wait)), tt))

  -- the value of an arm, as its sort
  moved_arm : (place : Place) (s : Sort) (e : Meaning) → sort e ≡ s → IsRightMeaning vs e → Brings vs [] (of_operand s) (e.value true >>= moves program place)
  moved_arm place s e is right =
      binds vs [] (of_operand (sort e)) (of_operand s) (e.value true) (moves program place) (right.value true)
      (λ a. moves_right (AValue (sort e) a ∷ []) s place a (λ kinds wait. operand_as kinds (sort e) s a is wait.0))

  arm_right : (place : Place) (of : TType) (e : Meaning) → unused_or (sort_of of) (same (sort_of of) (sort e)) ≡ true → IsRightMeaning vs e → Brings vs [] (of_operand (sort_of of)) (arm program place of e)
  arm_right place ttype.Void e is right =
      binds vs [] (of_operand (sort e)) (of_operand NoValue) (e.value false) (λ a. gives nothing) (right.value false) (λ a. gives_nothing (AValue (sort e) a ∷ []) NoValue)
  arm_right place (ttype.Number kind) e is right = moved_arm place (ANumber kind) e (sym (one_sort (ANumber kind) (sort e) is)) right
  arm_right place (ttype.Pointer target) e is right = moved_arm place (APointer target.kind) e (sym (one_sort (APointer target.kind) (sort e) is)) right

  arm_by_right : (node : Node) (first second : Meaning) (test : Held) (waiting : List Waiting) → unused_or (sort_of node.of) (same (sort_of node.of) (sort first)) ≡ true
      → unused_or (sort_of node.of) (same (sort_of node.of) (sort second)) ≡ true → IsRightMeaning vs first → IsRightMeaning vs second
      → Brings vs waiting (of_operand (sort_of node.of)) (arm_by program node first second test)
  arm_by_right node first second test waiting is also one two = by (holds test)
    where
      by : (b : Bool) → Brings vs waiting (of_operand (sort_of node.of)) (if b then arm program node.place node.of first else arm program node.place node.of second)
      by true = anywhere vs waiting (of_operand (sort_of node.of)) (arm program node.place node.of first) (arm_right node.place node.of first is one)
      by false = anywhere vs waiting (of_operand (sort_of node.of)) (arm program node.place node.of second) (arm_right node.place node.of second also two)

  pub cond_right : (node : Node) (test first second : Meaning) → unused_or (sort_of node.of) (same (sort_of node.of) (sort first)) ≡ true
      → unused_or (sort_of node.of) (same (sort_of node.of) (sort second)) ≡ true → IsRightMeaning vs test → IsRightMeaning vs first → IsRightMeaning vs second
      → IsRightMeaning vs (cond program node test first second)
  unfolding cond
  cond_right node test first second is also tested one two =
      only_value_right node (λ used. settled false (test.value true >>= λ a. tests program node.place a >>= arm_by program node first second))
      (λ used. settled_right vs [] (of_operand (sort_of node.of)) false (test.value true >>= λ a. tests program node.place a >>= arm_by program node first second)
      (binds vs [] (of_operand (sort test)) (of_operand (sort_of node.of)) (test.value true) (λ a. tests program node.place a >>= arm_by program node first second) (tested.value true)
      (λ a. binds vs (AValue (sort test) a ∷ []) (of_held (ANumber I32)) (of_operand (sort_of node.of)) (tests program node.place a) (arm_by program node first second)
      (tests_right (AValue (sort test) a ∷ []) node.place a I32)
      (λ t. arm_by_right node first second t (AValue (ANumber I32) (Holding t) ∷ AValue (sort test) a ∷ []) is also one two))))

  pub comma_right : (node : Node) (left right : Meaning) → unused_or (sort_of node.of) (same (sort_of node.of) (sort right)) ≡ true → IsRightMeaning vs left → IsRightMeaning vs right
      → IsRightMeaning vs (comma node left right)
  unfolding comma
  comma_right node left right is first second =
      only_value_right node (λ used. left.value false >>= λ a. right.value used)
      (λ used. binds vs [] (of_operand (sort left)) (of_operand (sort_of node.of)) (left.value false) (λ a. right.value used) (first.value false)
      (λ a. anywhere vs (AValue (sort left) a ∷ []) (of_operand (sort_of node.of)) (right.value used)
      (as_used [] (sort_of node.of) (sort right) (right.value used) is (second.value used))))

  -- ASSIGNMENTS
  pub writes_right : (place : Place) (target : Target) (a : Operand) (s : Sort) (waiting : List Waiting) → (s ≡ NoValue → ⊥)
      → ((kinds : List Kind) → AllHold kinds vs waiting → AllHold kinds vs (AValue s a ∷ of_target s target)) → Brings vs waiting (of_operand s) (writes program place target a)
  writes_right place (InRegister n broken) a s waiting some from =
      binds vs waiting (of_held s) (of_operand s) (makes program class.Move place act.Move (a ∷ [])) (λ held. sets n (Some held) >>= λ done. gives (Register n false))
      (makes_right vs waiting s program class.Move place act.Move (a ∷ [])
      (λ kinds t right wait. (move_given kinds t.world s (read t a) (operand_read kinds vs t s a right (from kinds wait).0), tt)))
      (λ held. binds vs (AValue s (Holding held) ∷ waiting) of_none (of_operand s) (sets n (Some held)) (λ done. gives (Register n false))
      (sets_right vs (AValue s (Holding held) ∷ waiting) n (Some held) (λ kinds v wait there. slot_of kinds v held.value there (from kinds wait.1).1.0 wait.0))
      (λ done. gives_right vs (AValue s (Holding held) ∷ waiting) (of_operand s) (Register n false)
      (λ kinds wait. (variable_operand kinds vs s n false (from kinds wait.1).1.0, tt))))
    where
      slot_of : (kinds : List Kind) (v : TVariable) (x : Value) → slice_get vs.vars n ≡ Some v → IsRegister vs n s → IsValue kinds s x → IsIn kinds v.elements (sort_of v.of) x
      slot_of kinds v x there register h =
          let same_one : register.0 ≡ v = same_Some register.0 v (sym register.1 ∙ there) in
          subst (λ (u : TVariable). IsIn kinds u.elements (sort_of u.of) x) same_one
          (value_in kinds register.0.elements (sort_of register.0.of) x (subst (λ (t : Sort). IsValue kinds t x) (sym register.3) h))
  writes_right place (InMemory address) a s waiting some from =
      computes_right vs waiting s program class.Store place act.Store (address ∷ a ∷ [])
      (λ kinds t right wait.
      let h = from kinds wait in
      let write = is_write kinds (kind_in s) (read t address) (read t a) (address_read kinds vs t (kind_in s) address right h.1.0)
      (held_so (IsValue kinds s) (IsStored (kind_in s)) (read t a).slot (λ v one. stored_value kinds s v some one) (operand_read kinds vs t s a right h.0)) in (
        ok_so (IsValue kinds (ANumber (kind_in s))) (IsValue kinds s) (work act.Store (values_of (map (read t) (address ∷ a ∷ []))) t.world) (λ v one. number_value kinds s v one)
            (store_given kinds t.world (kind_in s) (values_of (map (read t) (address ∷ a ∷ []))) write),
        (kind_in s, write),
      ))

  pub assign_right : (node : Node) (left right : Meaning) → (sort_of node.of ≡ NoValue → ⊥) → sort_of node.of ≡ sort left → sort_of node.of ≡ sort right → IsRightMeaning vs left → IsRightMeaning vs right
      → IsRightMeaning vs (assign program node left right)
  unfolding assign
  assign_right node left right some is also first second =
      only_value_right node (λ used. left.place >>= behind_place program node.place right)
      (λ used. binds vs [] (of_target (sort left)) (of_operand (sort_of node.of)) left.place (behind_place program node.place right) first.place
      (λ target. binds vs (of_target (sort left) target ++ []) (of_operand (sort right)) (of_operand (sort_of node.of)) (right.value true) (writes program node.place target)
      (anywhere vs (of_target (sort left) target ++ []) (of_operand (sort right)) (right.value true) (second.value true))
      (λ a. writes_right node.place target a (sort_of node.of) (AValue (sort right) a ∷ (of_target (sort left) target ++ [])) some
      (λ kinds wait. (
        operand_as kinds (sort right) (sort_of node.of) a (sym also) wait.0,
        subst (λ (t : Sort). AllHold kinds vs (of_target t target)) (sym is) (hold_front kinds vs (of_target (sort left) target) [] wait.1),
      )))))

  old_value_right : (place : Place) (target : Target) (s : Sort) (waiting : List Waiting) → ((kinds : List Kind) → AllHold kinds vs waiting → AllHold kinds vs (of_target s target))
      → Brings vs waiting (of_operand s) (old_value program place target)
  old_value_right place (InRegister n broken) s waiting from =
      gives_right vs waiting (of_operand s) (Register n broken) (λ kinds wait. (variable_operand kinds vs s n broken (from kinds wait).0, tt))
  old_value_right place (InMemory address) s waiting from =
      computes_right vs waiting s program class.Load place act.Load (address ∷ [])
      (λ kinds t right wait. (
        ok_so (IsValue kinds (ANumber (kind_in s))) (IsValue kinds s) (work act.Load (values_of (map (read t) (address ∷ []))) t.world) (λ v one. number_value kinds s v one)
            (load_given kinds t.world right.world.objects (kind_in s) (read t address) (address_read kinds vs t (kind_in s) address right (from kinds wait).0)),
        tt,
      ))

  -- a part that gives an operand of any sort, in which nothing is asked of what it gives
  any_converts : (place : Place) (from to : Kind) (a : Operand) (waiting : List Waiting) → Brings vs waiting (of_operand NoValue) (converts_between program place from to a)
  any_converts place from to a waiting = by (same_kind from to)
    where
      by : (b : Bool) → Brings vs waiting (of_operand NoValue) (if b then gives a else converts program place (Some to) a)
      by true = gives_right vs waiting (of_operand NoValue) a (λ kinds wait. (unused_operand kinds vs a, tt))
      by false = as_nothing waiting (ANumber to) (converts program place (Some to) a) (converts_right waiting place to a)

  any_side : (place : Place) (from : Option Kind) (to : Kind) (a : Operand) (waiting : List Waiting) → Brings vs waiting (of_operand NoValue) (converts_side program place from to a)
  any_side place None to a waiting = gives_right vs waiting (of_operand NoValue) a (λ kinds wait. (unused_operand kinds vs a, tt))
  any_side place (Some from) to a waiting = any_converts place from to a waiting

  -- a result that is brought back to the kind of its place is of that kind
  back_right_kind : (place : Place) (from to : Kind) (a : Operand) (waiting : List Waiting) → ((kinds : List Kind) → AllHold kinds vs waiting → IsOperand kinds vs (ANumber from) a)
      → Brings vs waiting (of_operand (ANumber to)) (converts_between program place from to a)
  back_right_kind place from to a waiting h = by (same_kind from to) refl
    where
      by : (b : Bool) → same_kind from to ≡ b → Brings vs waiting (of_operand (ANumber to)) (if b then gives a else converts program place (Some to) a)
      by true is = gives_right vs waiting (of_operand (ANumber to)) a (λ kinds wait. (operand_as kinds (ANumber from) (ANumber to) a (ap ANumber (one_kind from to is)) (h kinds wait), tt))
      by false is = converts_right waiting place to a

  -- a binary operation gives a number of its kind, be it a test or not
  kind_binary : (place : Place) (op : Bin) (kind : Kind) (a b : Operand) (waiting : List Waiting) → Brings vs waiting (of_operand (ANumber kind)) (binary_on program place op kind a b)
  kind_binary place op kind a b waiting =
      kind_computes waiting (class_of op) place (act.Binary op kind) (a ∷ b ∷ []) kind (λ kinds t. number_given kinds t.world (act.Binary op kind) kind (values_of (map (read t) (a ∷ b ∷ []))) refl) (λ kinds values. tt)

  combined_right : (place : Place) (op : Bin) (kind to : Kind) (by_of : Option Kind) (old by : Operand) (waiting : List Waiting)
      → Brings vs waiting (of_operand (ANumber to)) (combined program place op kind (Some to) by_of old by)
  combined_right place op kind to by_of old by waiting =
      let back : Operand → Part Operand = converts_back program place kind (Some to) in
      let last : Operand → Operand → Part Operand = (λ a b. binary_on program place op kind a b >>= back) in
      binds vs waiting (of_operand NoValue) (of_operand (ANumber to)) (converts_side program place (Some to) kind old)
      (λ a. converts_side program place by_of (side_kind op kind by_of) by >>= last a) (any_side place (Some to) kind old waiting)
      (λ a. binds vs (AValue NoValue a ∷ waiting) (of_operand NoValue) (of_operand (ANumber to)) (converts_side program place by_of (side_kind op kind by_of) by) (last a)
      (any_side place by_of (side_kind op kind by_of) by (AValue NoValue a ∷ waiting))
      (λ b. binds vs (AValue NoValue b ∷ AValue NoValue a ∷ waiting) (of_operand (ANumber kind)) (of_operand (ANumber to)) (binary_on program place op kind a b) back
      (kind_binary place op kind a b (AValue NoValue b ∷ AValue NoValue a ∷ waiting))
      (λ v. back_right_kind place kind to v (AValue (ANumber kind) v ∷ AValue NoValue b ∷ AValue NoValue a ∷ waiting) (λ kinds wait. wait.0))))

  changed_right : (node : Node) (by_change : Change) (of : TType) (by_of : Option Kind) (old by : Operand) (waiting : List Waiting) → change_fits by_change (sort_of of) ≡ true
      → ((kinds : List Kind) → AllHold kinds vs waiting → IsOperand kinds vs (sort_of of) old) → Brings vs waiting (of_operand (sort_of of)) (changed program node.place by_change of by_of old by)
  changed_right node (change.Number op kind) ttype.Void by_of old by waiting is from = absurd (cc is)
  changed_right node (change.Number op kind) (ttype.Number to) by_of old by waiting is from = combined_right node.place op kind to by_of old by waiting
  changed_right node (change.Number op kind) (ttype.Pointer target) by_of old by waiting is from = absurd (cc is)
  changed_right node change.Forward ttype.Void by_of old by waiting is from = absurd (cc is)
  changed_right node change.Forward (ttype.Number to) by_of old by waiting is from = absurd (cc is)
  changed_right node change.Forward (ttype.Pointer target) by_of old by waiting is from = offset_right node.place false (scale_of (ttype.Pointer target)) target.kind old by waiting from
  changed_right node change.Back ttype.Void by_of old by waiting is from = absurd (cc is)
  changed_right node change.Back (ttype.Number to) by_of old by waiting is from = absurd (cc is)
  changed_right node change.Back (ttype.Pointer target) by_of old by waiting is from = offset_right node.place true (scale_of (ttype.Pointer target)) target.kind old by waiting from

  changes_right : (node : Node) (by_change : Change) (by_of : Option Kind) (target : Target) (by old : Operand) (waiting : List Waiting) → (sort_of node.of ≡ NoValue → ⊥)
      → change_fits by_change (sort_of node.of) ≡ true → ((kinds : List Kind) → AllHold kinds vs waiting → AllHold kinds vs (AValue (sort_of node.of) old ∷ of_target (sort_of node.of) target))
      → Brings vs waiting (of_operand (sort_of node.of)) (changes program node by_change by_of target by old)
  changes_right node by_change by_of target by old waiting some is from =
      binds vs waiting (of_operand (sort_of node.of)) (of_operand (sort_of node.of)) (changed program node.place by_change node.of by_of old by) (writes program node.place target)
      (changed_right node by_change node.of by_of old by waiting is (λ kinds wait. (from kinds wait).0))
      (λ v. writes_right node.place target v (sort_of node.of) (AValue (sort_of node.of) v ∷ waiting) some (λ kinds wait. (wait.0, (from kinds wait.1).1)))

  changes_old_right : (node : Node) (by_change : Change) (by_of : Option Kind) (target : Target) (by : Operand) (waiting : List Waiting) → (sort_of node.of ≡ NoValue → ⊥)
      → change_fits by_change (sort_of node.of) ≡ true → ((kinds : List Kind) → AllHold kinds vs waiting → AllHold kinds vs (of_target (sort_of node.of) target))
      → Brings vs waiting (of_operand (sort_of node.of)) (changes_old program node by_change by_of target by)
  changes_old_right node by_change by_of target by waiting some is from =
      binds vs waiting (of_operand (sort_of node.of)) (of_operand (sort_of node.of)) (old_value program node.place target) (changes program node by_change by_of target by)
      (old_value_right node.place target (sort_of node.of) waiting from)
      (λ old. changes_right node by_change by_of target by old (AValue (sort_of node.of) old ∷ waiting) some is (λ kinds wait. (wait.0, from kinds wait.1)))

  -- a place that waits, as one of another sort that is the same
  place_waits : (kinds : List Kind) (s t : Sort) (target : Target) → t ≡ s → AllHold kinds vs (of_target s target ++ []) → AllHold kinds vs (of_target t target)
  place_waits kinds s t target is wait = subst (λ (x : Sort). AllHold kinds vs (of_target x target)) (sym is) (hold_front kinds vs (of_target s target) [] wait)

  pub assign_by_right : (node : Node) (by_change : Change) (left right : Meaning) → (sort_of node.of ≡ NoValue → ⊥) → change_fits by_change (sort_of node.of) ≡ true
      → sort_of node.of ≡ sort left → IsRightMeaning vs left → IsRightMeaning vs right → IsRightMeaning vs (assign_by program node by_change left right)
  unfolding assign_by
  assign_by_right node by_change left right some fits is first second =
      only_value_right node (λ used. left.place >>= behind_changed program node by_change right)
      (λ used. binds vs [] (of_target (sort left)) (of_operand (sort_of node.of)) left.place (behind_changed program node by_change right) first.place
      (λ target. binds vs (of_target (sort left) target ++ []) (of_operand (sort right)) (of_operand (sort_of node.of)) (right.value true)
      (changes_old program node by_change (kind_of right.node.of) target)
      (anywhere vs (of_target (sort left) target ++ []) (of_operand (sort right)) (right.value true) (second.value true))
      (λ by. changes_old_right node by_change (kind_of right.node.of) target by (AValue (sort right) by ∷ (of_target (sort left) target ++ [])) some fits
      (λ kinds wait. place_waits kinds (sort left) (sort_of node.of) target is wait.1))))

  pub pre_right : (node : Node) (by_change : Change) (e : Meaning) → (sort_of node.of ≡ NoValue → ⊥) → change_fits by_change (sort_of node.of) ≡ true → sort_of node.of ≡ sort e
      → IsRightMeaning vs e → IsRightMeaning vs (pre program node by_change e)
  unfolding pre
  pre_right node by_change e some fits is right =
      only_value_right node (λ used. e.place >>= λ target. changes_old program node by_change None target one)
      (λ used. binds vs [] (of_target (sort e)) (of_operand (sort_of node.of)) e.place (λ target. changes_old program node by_change None target one) right.place
      (λ target. changes_old_right node by_change None target one (of_target (sort e) target ++ []) some fits (λ kinds wait. place_waits kinds (sort e) (sort_of node.of) target is wait)))

  after_old_right : (node : Node) (by_change : Change) (used : Bool) (target : Target) (old : Operand) (waiting : List Waiting) → (sort_of node.of ≡ NoValue → ⊥)
      → change_fits by_change (sort_of node.of) ≡ true → ((kinds : List Kind) → AllHold kinds vs waiting → AllHold kinds vs (AValue (sort_of node.of) old ∷ of_target (sort_of node.of) target))
      → Brings vs waiting (of_operand (sort_of node.of)) (after_old program node by_change used target old)
  after_old_right node by_change false target old waiting some is from = changes_right node by_change None target one old waiting some is from
  after_old_right node by_change true target old waiting some is from =
      binds vs waiting (of_operand (sort_of node.of)) (of_operand (sort_of node.of)) (moves program node.place old)
      (λ kept. changes program node by_change None target one old >>= λ v. gives kept) (moves_right waiting (sort_of node.of) node.place old (λ kinds wait. (from kinds wait).0))
      (λ kept. binds vs (AValue (sort_of node.of) kept ∷ waiting) (of_operand (sort_of node.of)) (of_operand (sort_of node.of)) (changes program node by_change None target one old)
      (λ v. gives kept)
      (changes_right node by_change None target one old (AValue (sort_of node.of) kept ∷ waiting) some is (λ kinds wait. from kinds wait.1))
      (λ v. gives_right vs (AValue (sort_of node.of) v ∷ AValue (sort_of node.of) kept ∷ waiting) (of_operand (sort_of node.of)) kept (λ kinds wait. (wait.1.0, tt))))

  pub post_right : (node : Node) (by_change : Change) (e : Meaning) → (sort_of node.of ≡ NoValue → ⊥) → change_fits by_change (sort_of node.of) ≡ true → sort_of node.of ≡ sort e
      → IsRightMeaning vs e → IsRightMeaning vs (post program node by_change e)
  unfolding post
  post_right node by_change e some fits is right =
      only_value_right node (λ used. e.place >>= after_place program node by_change used)
      (λ used. binds vs [] (of_target (sort e)) (of_operand (sort_of node.of)) e.place (after_place program node by_change used) right.place
      (λ target. binds vs (of_target (sort e) target ++ []) (of_operand (sort_of node.of)) (of_operand (sort_of node.of)) (old_value program node.place target)
      (after_old program node by_change used target)
      (old_value_right node.place target (sort_of node.of) (of_target (sort e) target ++ []) (λ kinds wait. place_waits kinds (sort e) (sort_of node.of) target is wait))
      (λ old. after_old_right node by_change used target old (AValue (sort_of node.of) old ∷ (of_target (sort e) target ++ [])) some fits
      (λ kinds wait. (wait.0, place_waits kinds (sort e) (sort_of node.of) target is wait.1)))))

  -- THE LIBRARY AND CALLS
  pub getchar_right : (node : Node) → sort_of node.of ≡ ANumber I32 → IsRightMeaning vs (getchar program node)
  unfolding getchar
  getchar_right node is =
      only_value_right node (λ used. computes program class.Input node.place act.Input [])
      (λ used. as_sort [] (ANumber I32) (sort_of node.of) (computes program class.Input node.place act.Input []) (sym is)
      (computes_right vs [] (ANumber I32) program class.Input node.place act.Input [] (λ kinds s right wait. (input_given kinds s.world [] right.world.input, tt))))

  pub putchar_right : (node : Node) (e : Meaning) → sort_of node.of ≡ ANumber I32 → IsRightMeaning vs e → IsRightMeaning vs (putchar program node e)
  unfolding putchar
  putchar_right node e is right =
      on_one_right node e (puts_byte program node.place) right
      (λ a. as_sort (AValue (sort e) a ∷ []) (ANumber I32) (sort_of node.of) (puts_byte program node.place a) (sym is)
      (computes_right vs (AValue (sort e) a ∷ []) (ANumber I32) program class.Output node.place (act.Output out.Byte) (a ∷ [])
      (λ kinds s well wait. (putchar_given kinds s.world (values_of (map (read s) (a ∷ []))), tt))))

  pub puts_right : (node : Node) (e : Meaning) → sort_of node.of ≡ ANumber I32 → IsRightMeaning vs (puts program node e)
  unfolding puts
  puts_right node e is =
      only_value_right node (λ used. outputs program node.place (out.Line e.text) [])
      (λ used. as_sort [] (ANumber I32) (sort_of node.of) (outputs program node.place (out.Line e.text) []) (sym is)
      (computes_right vs [] (ANumber I32) program class.Output node.place (act.Output (out.Line e.text)) [] (λ kinds s well wait. (puts_given kinds s.world e.text [], tt))))

  pub printf_right : (node : Node) (format : List Piece) (args : List Meaning) → sort_of node.of ≡ ANumber I32 → most_written format ≤ 2147483647 → AreRight vs args
      → IsRightMeaning vs (printf program node format args)
  unfolding printf
  printf_right node format args is short right =
      only_value_right node (λ used. in_turn args >>= outputs program node.place (out.Format (map chunk_of format)))
      (λ used. as_sort [] (ANumber I32) (sort_of node.of) (in_turn args >>= outputs program node.place (out.Format (map chunk_of format))) (sym is)
      (binds vs [] (of_operands (map sort args)) (of_operand (ANumber I32)) (in_turn args) (outputs program node.place (out.Format (map chunk_of format))) (in_turn_right args right)
      (λ operands. computes_right vs (of_operands (map sort args) operands ++ []) (ANumber I32) program class.Output node.place (act.Output (out.Format (map chunk_of format))) operands
      (λ kinds s well wait. (printf_given kinds s.world format (values_of (map (read s) operands)) short, tt)))))

-- parameters are of the sorts of arguments
abbrev pub Passes : List Sort → List Sort → Type 0
Passes [] sorts = Unit {0}
Passes (p ∷ params) [] = ⊥
Passes (p ∷ params) (s ∷ sorts) = (p ≡ s) × Passes params sorts

pub passed : (kinds : List Kind) (vs : Here) (params sorts : List Sort) (operands : List Operand) → Passes params sorts → AllHold kinds vs (of_operands sorts operands)
    → AllHold kinds vs (of_operands params operands)
passed kinds vs [] sorts operands h wait = tt
passed kinds vs (p ∷ params) [] operands h wait = absurd h
passed kinds vs (p ∷ params) (s ∷ sorts) [] h wait = tt
passed kinds vs (p ∷ params) (s ∷ sorts) (a ∷ operands) h wait =
    (subst (λ (x : Sort). IsOperand kinds vs x a) (sym h.0) wait.0, passed kinds vs params sorts operands h.1 wait.1)

pub call_right : (program : Program) (variables : List TVariable) (calls : Calls) (node : Node) (n : ℕ) (args : List Meaning) (f : TFunc) → AreRightCalls program calls
    → slice_get program.unit.functions n ≡ Some f → unused_or (sort_of node.of) (same (sort_of node.of) (sort_of f.result)) ≡ true → Passes (callee f).params (map sort args)
    → AreRight (here program variables) args → IsRightMeaning (here program variables) (call calls node n args)
unfolding call
call_right program variables calls node n args f calls_right there is passes right =
    let vs : Here = here program variables in
    only_value_right program vs node (λ used. in_turn args >>= calls n node.place)
    (λ used. binds vs [] (of_operands (map sort args)) (of_operand (sort_of node.of)) (in_turn args) (calls n node.place) (in_turn_right program vs args right)
    (λ operands. as_used program vs (of_operands (map sort args) operands ++ []) (sort_of node.of) (sort_of f.result) (calls n node.place operands) is
    (needs vs (of_operands (map sort args) operands ++ []) (of_operands (callee f).params operands) (of_operand (sort_of f.result)) (calls n node.place operands)
    (λ kinds wait. passed kinds vs (callee f).params (map sort args) operands passes (hold_front kinds vs (of_operands (map sort args) operands) [] wait))
    (calls_right.there variables n f node.place operands there))))

pub missing_right : (program : Program) (variables : List TVariable) (calls : Calls) (node : Node) (n : ℕ) (args : List Meaning) → AreRightCalls program calls
    → slice_get program.unit.functions n ≡ None → AreRight (here program variables) args → IsRightMeaning (here program variables) (call calls node n args)
unfolding call
missing_right program variables calls node n args calls_right none right =
    let vs : Here = here program variables in
    only_value_right program vs node (λ used. in_turn args >>= calls n node.place)
    (λ used. binds vs [] (of_operands (map sort args)) (of_operand (sort_of node.of)) (in_turn args) (calls n node.place) (in_turn_right program vs args right)
    (λ operands. anywhere vs (of_operands (map sort args) operands ++ []) (of_operand (sort_of node.of)) (calls n node.place operands)
    (calls_right.missing variables n (sort_of node.of) node.place operands none)))
