-- What an expression is lowered as, by its form.
use Rattle.std.proofs.Common.{ℕ, ℤ, ◌≡◌, ◌+◌, ◌∙◌, Bool, true, false, List, [], map, None, refl, sym, ap, subst}
use Rattle.k_num.specs.declared.numbers.Bin.{Bin}
use Rattle.k_num.specs.declared.numbers.Kind.{Kind}
use Rattle.k_num.specs.declared.numbers.Un.{Un}
use Rattle.k_types_meaning.proofs.Folds.{typed_Address, typed_Assign, typed_AssignBy, typed_Back, typed_Binary, typed_Both, typed_Call, typed_Cast, typed_Comma, typed_Cond, typed_Convert, typed_Deref, typed_Either, typed_Forward, typed_Getchar, typed_Index, typed_Number, typed_Object, typed_Onto, typed_Plus, typed_Post, typed_Pre, typed_Printf, typed_PtrCompare, typed_PtrDistance, typed_Putchar, typed_Puts, typed_Str, typed_Unary, typed_Variable}
use Rattle.k_types_meaning.specs.declared.tree.expression.Change.{Change}
use Rattle.k_types_meaning.specs.declared.tree.expression.Node.{Node}
use Rattle.k_types_meaning.specs.declared.tree.expression.Piece.{Piece}
use Rattle.k_types_meaning.specs.declared.tree.expression.TExpr.{TExpr}
use Rattle.k_types_meaning.specs.declared.tree.expression.TExpr.TheOpen.{TExpr-F}
use Rattle.k_types_meaning.specs.declared.tree.expression.TExpr.TheVariants as typed
use Rattle.k_world.specs.declared.act.Out.TheVariants as out
use Rattle.k_code.specs.declared.instruction.Arg.TheVariants.{Number}
use Rattle.k_code.specs.declared.instruction.Do.TheVariants as act
use Rattle.k_evaluation.specs.Library.{chunk_of}
use Rattle.k_evaluation.specs.Meanings.{kind_of, scale_of}
use Rattle.k_evaluation.specs.Places.{is_register, string_number}
use Rattle.k_lower_code.specs.Assignments.{after_place, assign, assign_by, behind_changed, behind_place, changes_old, one, post, pre}
use Rattle.k_lower_code.specs.Expressions.{lower_step}
use Rattle.k_lower_code.specs.Library.{call, calls_with, getchar, outputs, printf, putchar, puts, puts_byte}
use Rattle.k_lower_code.specs.Lowered.{InMemory, Lowered, behind_one, in_turn, value_at}
use Rattle.k_lower_code.specs.Operators.{binary, binary_on, both, cast, cast_to, comma, compare, compare_on, cond, convert, converts, distance, distance_on, either, plus, unary, unary_on}
use Rattle.k_lower_code.specs.Pieces.{◌>>>◌, only, sets, settled}
use Rattle.k_lower_code.specs.Places.{address, address_at, address_of, back, behind_base, deref, forward, index, number, object, offset, offset_onto, onto, string, string_value, variable}
use Rattle.k_lower_code.specs.Places as places
use Rattle.k_lower_expressions.specs.declared.around.Around.{Around}
use Rattle.k_lower_expressions.specs.Arounds.{lowered_in, program_of}
use Rattle.k_lower_expressions.specs.Makings.{chosen, decided}

-- an expression, of whose operands it is known how they are lowered
abbrev pub step_in : Around → TExpr-F Lowered → Lowered
step_in a = lower_step (program_of a) a.variables.now

module _ (a : Around) (e : TExpr) (node : Node) (used : Bool) (r : ℕ) where
  pub number_row : (z : ℤ) → e ≡ typed.Number node z → (lowered_in a e).value used r ≡ (only (Number z))
  unfolding number
  number_row z is = ap (λ (x : TExpr). (lowered_in a x).value used r) is ∙ ap (λ (l : Lowered). l.value used r) (typed_Number Lowered (step_in a) node z)

  pub string_row : (n : ℕ) (bytes : List ℕ) → e ≡ typed.Str node n bytes → (lowered_in a e).value used r ≡ (string_value (program_of a) node.place (string_number (program_of a) n) used r)
  unfolding string
  string_row n bytes is = ap (λ (x : TExpr). (lowered_in a x).value used r) is ∙ ap (λ (l : Lowered). l.value used r) (typed_Str Lowered (step_in a) node n bytes)

  pub call_row : (f : ℕ) (args : List TExpr) → e ≡ typed.Call node f args → (lowered_in a e).value used r ≡ (in_turn (map (lowered_in a) args) r >>> calls_with (program_of a) node f used r)
  unfolding call
  call_row f args is = ap (λ (x : TExpr). (lowered_in a x).value used r) is ∙ ap (λ (l : Lowered). l.value used r) (typed_Call Lowered (step_in a) node f args)

  pub getchar_row : e ≡ typed.Getchar node → (lowered_in a e).value used r ≡ (sets (program_of a) node.place act.Input r)
  unfolding getchar
  getchar_row is = ap (λ (x : TExpr). (lowered_in a x).value used r) is ∙ ap (λ (l : Lowered). l.value used r) (typed_Getchar Lowered (step_in a) node)

  pub putchar_row : (x : TExpr) → e ≡ typed.Putchar node x → (lowered_in a e).value used r ≡ ((lowered_in a x).value true r >>> puts_byte (program_of a) node.place r)
  unfolding putchar
  putchar_row x is = ap (λ (x : TExpr). (lowered_in a x).value used r) is ∙ ap (λ (l : Lowered). l.value used r) (typed_Putchar Lowered (step_in a) node x)

  pub puts_row : (x : TExpr) → e ≡ typed.Puts node x → (lowered_in a e).value used r ≡ (outputs (program_of a) node.place (out.Line (lowered_in a x).text) r [])
  unfolding puts
  puts_row x is = ap (λ (x : TExpr). (lowered_in a x).value used r) is ∙ ap (λ (l : Lowered). l.value used r) (typed_Puts Lowered (step_in a) node x)

  pub printf_row : (format : List Piece) (args : List TExpr) → e ≡ typed.Printf node format args → (lowered_in a e).value used r ≡ (in_turn (map (lowered_in a) args) r >>> outputs (program_of a) node.place (out.Format (map chunk_of format)) r)
  unfolding printf
  printf_row format args is = ap (λ (x : TExpr). (lowered_in a x).value used r) is ∙ ap (λ (l : Lowered). l.value used r) (typed_Printf Lowered (step_in a) node format args)

  pub post_row : (change : Change) (x : TExpr) → e ≡ typed.Post node change x → (lowered_in a e).value used r ≡ ((lowered_in a x).place (r + 1) >>> after_place (program_of a) node change used r)
  unfolding post
  post_row change x is = ap (λ (x : TExpr). (lowered_in a x).value used r) is ∙ ap (λ (l : Lowered). l.value used r) (typed_Post Lowered (step_in a) node change x)

  pub pre_row : (change : Change) (x : TExpr) → e ≡ typed.Pre node change x → (lowered_in a e).value used r ≡ ((lowered_in a x).place r >>> λ target. changes_old (program_of a) node change None used r target one)
  unfolding pre
  pre_row change x is = ap (λ (x : TExpr). (lowered_in a x).value used r) is ∙ ap (λ (l : Lowered). l.value used r) (typed_Pre Lowered (step_in a) node change x)

  pub address_row : (x : TExpr) → e ≡ typed.Address node x → (lowered_in a e).value used r ≡ ((lowered_in a x).place r >>> λ target. only (address_at target))
  unfolding address
  address_row x is = ap (λ (x : TExpr). (lowered_in a x).value used r) is ∙ ap (λ (l : Lowered). l.value used r) (typed_Address Lowered (step_in a) node x)

  pub plus_row : (x : TExpr) → e ≡ typed.Plus node x → (lowered_in a e).value used r ≡ ((lowered_in a x).value used r)
  unfolding plus
  plus_row x is = ap (λ (x : TExpr). (lowered_in a x).value used r) is ∙ ap (λ (l : Lowered). l.value used r) (typed_Plus Lowered (step_in a) node x)

  pub unary_row : (op : Un) (kind : Kind) (x : TExpr) → e ≡ typed.Unary node op kind x → (lowered_in a e).value used r ≡ ((lowered_in a x).value true r >>> unary_on (program_of a) node.place op kind r)
  unfolding unary
  unary_row op kind x is = ap (λ (x : TExpr). (lowered_in a x).value used r) is ∙ ap (λ (l : Lowered). l.value used r) (typed_Unary Lowered (step_in a) node op kind x)

  pub convert_row : (x : TExpr) → e ≡ typed.Convert node x → (lowered_in a e).value used r ≡ ((lowered_in a x).value true r >>> converts (program_of a) node.place (kind_of node.of) r)
  unfolding convert
  convert_row x is = ap (λ (x : TExpr). (lowered_in a x).value used r) is ∙ ap (λ (l : Lowered). l.value used r) (typed_Convert Lowered (step_in a) node x)

  pub cast_row : (x : TExpr) → e ≡ typed.Cast node x → (lowered_in a e).value used r ≡ (cast_to (program_of a) node.place node.of (lowered_in a x) used r)
  unfolding cast
  cast_row x is = ap (λ (x : TExpr). (lowered_in a x).value used r) is ∙ ap (λ (l : Lowered). l.value used r) (typed_Cast Lowered (step_in a) node x)

  pub binary_row : (op : Bin) (kind : Kind) (x y : TExpr) → e ≡ typed.Binary node op kind x y → (lowered_in a e).value used r ≡ ((lowered_in a x).value true r >>> behind_one (lowered_in a y) (binary_on (program_of a) node.place op kind) r)
  unfolding binary
  binary_row op kind x y is = ap (λ (x : TExpr). (lowered_in a x).value used r) is ∙ ap (λ (l : Lowered). l.value used r) (typed_Binary Lowered (step_in a) node op kind x y)

  pub both_row : (x y : TExpr) → e ≡ typed.Both node x y → (lowered_in a e).value used r ≡ (settled (program_of a) node.place (decided (program_of a) node false (lowered_in a x) (lowered_in a y) r))
  unfolding both
  both_row x y is = ap (λ (x : TExpr). (lowered_in a x).value used r) is ∙ ap (λ (l : Lowered). l.value used r) (typed_Both Lowered (step_in a) node x y)

  pub either_row : (x y : TExpr) → e ≡ typed.Either node x y → (lowered_in a e).value used r ≡ (settled (program_of a) node.place (decided (program_of a) node true (lowered_in a x) (lowered_in a y) r))
  unfolding either
  either_row x y is = ap (λ (x : TExpr). (lowered_in a x).value used r) is ∙ ap (λ (l : Lowered). l.value used r) (typed_Either Lowered (step_in a) node x y)

  pub forward_row : (x y : TExpr) → e ≡ typed.Forward node x y → (lowered_in a e).value used r ≡ ((lowered_in a x).value true r >>> behind_one (lowered_in a y) (offset (program_of a) node.place false (scale_of node.of)) r)
  unfolding forward
  forward_row x y is = ap (λ (x : TExpr). (lowered_in a x).value used r) is ∙ ap (λ (l : Lowered). l.value used r) (typed_Forward Lowered (step_in a) node x y)

  pub onto_row : (x y : TExpr) → e ≡ typed.Onto node x y → (lowered_in a e).value used r ≡ ((lowered_in a x).value true r >>> behind_one (lowered_in a y) (offset_onto (program_of a) node.place (scale_of node.of)) r)
  unfolding onto
  onto_row x y is = ap (λ (x : TExpr). (lowered_in a x).value used r) is ∙ ap (λ (l : Lowered). l.value used r) (typed_Onto Lowered (step_in a) node x y)

  pub back_row : (x y : TExpr) → e ≡ typed.Back node x y → (lowered_in a e).value used r ≡ ((lowered_in a x).value true r >>> behind_one (lowered_in a y) (offset (program_of a) node.place true (scale_of node.of)) r)
  unfolding back
  back_row x y is = ap (λ (x : TExpr). (lowered_in a x).value used r) is ∙ ap (λ (l : Lowered). l.value used r) (typed_Back Lowered (step_in a) node x y)

  pub compare_row : (op : Bin) (x y : TExpr) → e ≡ typed.PtrCompare node op x y → (lowered_in a e).value used r ≡ ((lowered_in a x).value true r >>> behind_one (lowered_in a y) (compare_on (program_of a) node.place op) r)
  unfolding compare
  compare_row op x y is = ap (λ (x : TExpr). (lowered_in a x).value used r) is ∙ ap (λ (l : Lowered). l.value used r) (typed_PtrCompare Lowered (step_in a) node op x y)

  pub distance_row : (x y : TExpr) → e ≡ typed.PtrDistance node x y → (lowered_in a e).value used r ≡ ((lowered_in a x).value true r >>> behind_one (lowered_in a y) (distance_on (program_of a) node.place (scale_of (lowered_in a x).node.of)) r)
  unfolding distance
  distance_row x y is = ap (λ (x : TExpr). (lowered_in a x).value used r) is ∙ ap (λ (l : Lowered). l.value used r) (typed_PtrDistance Lowered (step_in a) node x y)

  pub cond_row : (x y z : TExpr) → e ≡ typed.Cond node x y z → (lowered_in a e).value used r ≡ (settled (program_of a) node.place (chosen (program_of a) node (lowered_in a x) (lowered_in a y) (lowered_in a z) r))
  unfolding cond
  cond_row x y z is = ap (λ (x : TExpr). (lowered_in a x).value used r) is ∙ ap (λ (l : Lowered). l.value used r) (typed_Cond Lowered (step_in a) node x y z)

  pub assign_row : (x y : TExpr) → e ≡ typed.Assign node x y → (lowered_in a e).value used r ≡ ((lowered_in a x).place r >>> behind_place (program_of a) node.place (lowered_in a y) used r)
  unfolding assign
  assign_row x y is = ap (λ (x : TExpr). (lowered_in a x).value used r) is ∙ ap (λ (l : Lowered). l.value used r) (typed_Assign Lowered (step_in a) node x y)

  pub assign_by_row : (change : Change) (x y : TExpr) → e ≡ typed.AssignBy node change x y → (lowered_in a e).value used r ≡ ((lowered_in a x).place r >>> behind_changed (program_of a) node change (lowered_in a y) used r)
  unfolding assign_by
  assign_by_row change x y is = ap (λ (x : TExpr). (lowered_in a x).value used r) is ∙ ap (λ (l : Lowered). l.value used r) (typed_AssignBy Lowered (step_in a) node change x y)

  pub comma_row : (x y : TExpr) → e ≡ typed.Comma node x y → (lowered_in a e).value used r ≡ ((lowered_in a x).value false r >>> λ x. (lowered_in a y).value used r)
  unfolding comma
  comma_row x y is = ap (λ (x : TExpr). (lowered_in a x).value used r) is ∙ ap (λ (l : Lowered). l.value used r) (typed_Comma Lowered (step_in a) node x y)

  pub object_read : (n : ℕ) → e ≡ typed.Object node n → (lowered_in a e).value used r ≡ ((lowered_in a e).place r >>> value_at (program_of a) node used r)
  unfolding object
  object_read n is =
      subst (λ (l : Lowered). l.value used r ≡ (l.place r >>> value_at (program_of a) node used r)) (sym (ap (lowered_in a) is ∙ typed_Object Lowered (step_in a) node n)) refl

  pub variable_read : (n : ℕ) → e ≡ typed.Variable node n → (lowered_in a e).value used r ≡ ((lowered_in a e).place r >>> value_at (program_of a) node used r)
  unfolding variable
  variable_read n is =
      subst (λ (l : Lowered). l.value used r ≡ (l.place r >>> value_at (program_of a) node used r)) (sym (ap (lowered_in a) is ∙ typed_Variable Lowered (step_in a) node n)) refl

  pub index_read : (x y : TExpr) → e ≡ typed.Index node x y → (lowered_in a e).value used r ≡ ((lowered_in a e).place r >>> value_at (program_of a) node used r)
  unfolding index
  index_read x y is =
      subst (λ (l : Lowered). l.value used r ≡ (l.place r >>> value_at (program_of a) node used r)) (sym (ap (lowered_in a) is ∙ typed_Index Lowered (step_in a) node x y)) refl

  pub deref_read : (x : TExpr) → e ≡ typed.Deref node x → (lowered_in a e).value used r ≡ ((lowered_in a e).place r >>> value_at (program_of a) node used r)
  unfolding deref
  deref_read x is =
      subst (λ (l : Lowered). l.value used r ≡ (l.place r >>> value_at (program_of a) node used r)) (sym (ap (lowered_in a) is ∙ typed_Deref Lowered (step_in a) node x)) refl

module _ (a : Around) (e : TExpr) (node : Node) (r : ℕ) where
  pub object_place : (n : ℕ) → e ≡ typed.Object node n → (lowered_in a e).place r ≡ (address_of (program_of a) node.place n r >>> λ address. only (InMemory address))
  unfolding object
  object_place n is = ap (λ (x : TExpr). (lowered_in a x).place r) is ∙ ap (λ (l : Lowered). l.place r) (typed_Object Lowered (step_in a) node n)

  pub variable_place : (n : ℕ) → e ≡ typed.Variable node n → (lowered_in a e).place r ≡ (only (places.variable_place (program_of a) node n (is_register a.variables.now n)))
  unfolding variable
  variable_place n is = ap (λ (x : TExpr). (lowered_in a x).place r) is ∙ ap (λ (l : Lowered). l.place r) (typed_Variable Lowered (step_in a) node n)

  pub index_place : (x y : TExpr) → e ≡ typed.Index node x y → (lowered_in a e).place r ≡ ((lowered_in a x).value true r >>> behind_base (program_of a) node.place (scale_of (lowered_in a x).node.of) (lowered_in a y) r)
  unfolding index
  index_place x y is = ap (λ (x : TExpr). (lowered_in a x).place r) is ∙ ap (λ (l : Lowered). l.place r) (typed_Index Lowered (step_in a) node x y)

  pub deref_place : (x : TExpr) → e ≡ typed.Deref node x → (lowered_in a e).place r ≡ ((lowered_in a x).value true r >>> λ pointer. only (InMemory pointer))
  unfolding deref
  deref_place x is = ap (λ (x : TExpr). (lowered_in a x).place r) is ∙ ap (λ (l : Lowered). l.place r) (typed_Deref Lowered (step_in a) node x)
