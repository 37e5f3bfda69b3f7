-- INDUCTION: what the test of a counted loop finds.
use Rattle.std.proofs.Common.{◌≡◌, ℕ, ℤ, List, [], ◌∷◌, map, Option, Some, None, Ok, Bool, true, false, not, nat_eq, refl, sym, ◌∙◌, ap, subst, slice_get}
use Rattle.std.proofs.lemmas.Bool.{eqb-true}
use Rattle.k_num.specs.declared.place.Place.{Place}
use Rattle.k_num.specs.declared.numbers.Bin.{Bin}
use Rattle.k_num.specs.declared.numbers.Bin.TheVariants.{Shl, Shr}
use Rattle.k_num.specs.declared.numbers.Kind.{Kind}
use Rattle.k_num.specs.Arithmetic.{value, truth, is_zero}
use Rattle.k_num.specs.Kind.{converted}
use Rattle.k_num.proofs.KindLaws.{converted-converted}
use Rattle.k_optab.specs.declared.class.Class.TheVariants as class
use Rattle.k_types_meaning.specs.declared.types.TType.{TType}
use Rattle.k_types_meaning.specs.declared.types.TType.TheVariants as ttype
use Rattle.k_types_meaning.specs.declared.tree.expression.Node.{Node}
use Rattle.k_types_meaning.specs.declared.tree.expression.TExpr.{TExpr, out-TExpr}
use Rattle.k_types_meaning.specs.declared.tree.expression.TExpr.TheOpen.{TExpr-F}
use Rattle.k_types_meaning.specs.declared.tree.unit.TVariable.{TVariable}
use Rattle.k_world.specs.declared.act.Act.TheVariants as act
use Rattle.k_world.specs.declared.value.Held.{Held}
use Rattle.k_world.specs.declared.value.Value.{Value}
use Rattle.k_world.specs.declared.value.Value.TheVariants.{Number, Pointer}
use Rattle.k_world.specs.Acts.{Given, work, right_kind}
use Rattle.k_world.specs.Operands.{values_of, value_before, value_in}
use Rattle.k_world.specs.Worlds.{World}
use Rattle.k_marks_meaning.specs.Reductions.{variable_step, variable_of, read_step, read_of}
use Rattle.k_marks_meaning.specs.Loops.{tests, reads}
use Rattle.k_evaluation.specs.declared.operand.Operand.{Operand}
use Rattle.k_evaluation.specs.declared.operand.Operand.TheVariants.{Holding, Register}
use Rattle.k_evaluation.specs.States.{Program, State, Outcome, Goes, Stops, Part, follow, gives, held_by, read, makes}
use Rattle.k_evaluation.specs.Meanings.{Meaning, kind_of, value_at, holds, behind_one}
use Rattle.k_evaluation.specs.Meanings as meanings
use Rattle.k_evaluation.specs.Places.{variable, variable_place, is_register, is_broken}
use Rattle.k_evaluation.specs.Operators.{convert, converts, binary_on, class_of}
use Rattle.k_evaluation.specs.Expressions.{Calls}
use Rattle.k_marks_laws.specs.Counted.{IsTypedSide}
use Rattle.k_marks_laws.proofs.Values.{value_by, read_front, MakesValue, makes_value, in_ok, one_value_is, ComputesAt, Computes, computes_so, converts_number, binary_works}
use Rattle.k_marks_laws.proofs.Stepped.{meaning, meaning_at, meaning_is}

-- what holds where a part goes on
abbrev pub At : {A : Type 0} → (A → State → Type 0) → Outcome A → Type 0
At P (Goes a t) = P a t
At P (Stops end w) = Unit {0}

-- so it holds behind a part, if it holds of what follows each outcome of it
pub follow_at : {A B : Type 0} (Q : B → State → Type 0) (o : Outcome A) (next : A → Part B) → ((a : A) (t : State) → o ≡ Goes a t → At Q (next a t)) → At Q (follow o next)
follow_at Q (Goes a t) next each = each a t refl
follow_at Q (Stops end w) next each = tt

pub at_goes : {A : Type 0} (P : A → State → Type 0) (o : Outcome A) (a : A) (t : State) → At P o → o ≡ Goes a t → P a t
at_goes P o a t h is = subst (At P) is h

pub computed_is : (us : List (Option Held)) (P : ℤ → Type 0) (o : Outcome Operand) (a : Operand) (t : State) → ComputesAt us P o → o ≡ Goes a t
    → (t.vars ≡ us) × (z : ℤ) × (value_by us a ≡ Some (Number z)) × P z
computed_is us P o a t h is = subst (ComputesAt us P) is h

made_is : (s : State) (r : Given) (o : Outcome Held) (held : Held) (t : State) → MakesValue s r o → o ≡ Goes held t → (t.vars ≡ s.vars) × (r ≡ Ok held.value)
made_is s r o held t h is = subst (MakesValue s r) is h

-- AN OPERAND THAT IS A VARIABLE in a register gives the register
module _ (program : Program) (vs : List TVariable) (calls : Calls) (n : ℕ) (register : is_register vs n ≡ true) where
  abbrev pub IsRegister : Meaning → Type 0
  IsRegister m = (broken : Bool) × ((s : State) → m.value true s ≡ Goes (Register n broken) s)

  pub variable_gives : (node : Node) → IsRegister (variable program vs node n)
  unfolding variable
  variable_gives node = (is_broken program node.number, λ s. ap (λ (b : Bool). follow (variable_place program node n b s) (value_at program node true)) register)

  pub variable_is_it : (node : Node) (m : ℕ) → nat_eq m n ≡ true → IsRegister (variable program vs node m)
  variable_is_it node m is = subst (λ (k : ℕ). IsRegister (variable program vs node k)) (sym (eqb-true m n is)) (variable_gives node)

  is_it_at : (y : TExpr-F TExpr) → reads n (variable_step y) ≡ true → IsRegister (meaning_at program vs calls y)
  is_it_at (TExpr-F.Variable node m) is = variable_is_it node m is
  is_it_at _ is = absurd cc

  pub is_it : (e : TExpr) → reads n (variable_of e) ≡ true → IsRegister (meaning program vs calls e)
  is_it e is = subst IsRegister (sym (meaning_is program vs calls e)) (is_it_at (out-TExpr e) is)

-- the value of a conversion to a kind is converted
pub convert_value : (program : Program) (node : Node) (kind : Kind) (e : Meaning) (s : State) → node.of ≡ ttype.Number kind
    → (convert program node e).value true s ≡ follow (e.value true s) (converts program node.place (Some kind))
unfolding convert
convert_value program node kind e s of = ap (λ (t : TType). follow (e.value true s) (converts program node.place (kind_of t))) of

-- THE LEFT SIDE of the test is the variable, or its conversion to the kind of the comparison
module _ (program : Program) (vs : List TVariable) (calls : Calls) (us : List (Option Held)) (n : ℕ) (x : ℤ) (register : is_register vs n ≡ true)
    (there : value_in (held_by (slice_get us n)) ≡ Some (Number x)) (wide : Kind) where
  abbrev IsItThere : ℤ → Type 0
  IsItThere z = converted wide z ≡ converted wide x

  register_computes : (m : Meaning) → IsRegister program vs calls n register m → Computes us IsItThere (m.value true)
  register_computes m is s same = subst (ComputesAt us IsItThere) (sym (is.1 s)) (same, x, there, refl)

  convert_computes : (node : Node) (e : Meaning) → node.of ≡ ttype.Number wide → IsRegister program vs calls n register e → Computes us IsItThere ((convert program node e).value true)
  convert_computes node e of is s same =
      subst (ComputesAt us IsItThere) (sym (convert_value program node wide e s of))
      (subst (λ (o : Outcome Operand). ComputesAt us IsItThere (follow o (converts program node.place (Some wide)))) (sym (is.1 s))
      (computes_so us (λ v. v ≡ converted wide x) IsItThere (converts program node.place (Some wide) (Register n is.0))
      (λ v h. ap (converted wide) h ∙ converted-converted wide x) (converts_number us program node.place wide (Register n is.0) x there) s same))

  left_at : (y : TExpr-F TExpr) → reads n (read_step y) ≡ true → IsTypedSide wide y → Computes us IsItThere ((meaning_at program vs calls y).value true)
  left_at (TExpr-F.Variable node m) is typed = register_computes (variable program vs node m) (variable_is_it program vs calls n register node m is)
  left_at (TExpr-F.Convert node e) is typed = convert_computes node (meaning program vs calls e) typed (is_it program vs calls n register e is)
  left_at _ is typed = absurd cc

  pub left_computes : (e : TExpr) → reads n (read_of e) ≡ true → IsTypedSide wide (out-TExpr e)
      → Computes us (λ z. converted wide z ≡ converted wide x) ((meaning program vs calls e).value true)
  left_computes e is typed = subst (λ (m : Meaning). Computes us IsItThere (m.value true)) (sym (meaning_is program vs calls e)) (left_at (out-TExpr e) is typed)

-- THE COMPARISON of a number with what an operand holds: it is made only where that is a number too
compares_values : (op : Bin) (wide : Kind) (z : ℤ) (u v : Value) (w : World) → work (act.Binary op wide) (Number z ∷ u ∷ []) w ≡ Ok v
    → (y : ℤ) × (c : ℤ) × (u ≡ Number y) × (v ≡ Number c) × (value op wide (converted wide z) (converted (right_kind op wide) y) ≡ Ok c)
unfolding work
compares_values op wide z (Number y) v w is = let found = binary_works op wide z y w v is in (y, found.0, refl, found.1, found.2)
compares_values op wide z (Pointer p) v w is = absurd cc

compares_slots : (op : Bin) (wide : Kind) (z : ℤ) (slot : Option Held) (v : Value) (w : World) → work (act.Binary op wide) (Number z ∷ value_before slot []) w ≡ Ok v
    → (y : ℤ) × (c : ℤ) × (value_in slot ≡ Some (Number y)) × (v ≡ Number c) × (value op wide (converted wide z) (converted (right_kind op wide) y) ≡ Ok c)
unfolding work
compares_slots op wide z None v w is = absurd cc
compares_slots op wide z (Some held) v w is = let found = compares_values op wide z held.value v w is in (found.0, found.1, ap Some found.2, found.3, found.4)

tests_right : (op : Bin) (wide : Kind) → tests op ≡ true → right_kind op wide ≡ wide
tests_right Shl wide is = absurd cc
tests_right Shr wide is = absurd cc
tests_right _ wide is = refl

met_again : (b : Bool) → not (is_zero (truth b)) ≡ b
met_again true = refl
met_again false = refl

-- THE TEST of a number
test_work_is : (c : ℤ) (w : World) → work act.Test (Number c ∷ []) w ≡ Ok (Number (truth (not (is_zero c))))
unfolding work
test_work_is c w = refl

-- what a value of this sort is to a test
abbrev number_met : Value → Bool
number_met (Number c) = not (is_zero c)
number_met (Pointer p) = true

module _ (program : Program) (place : Place) where
  pub tests_number : (s : State) (a : Operand) (c : ℤ) → value_by s.vars a ≡ Some (Number c)
      → At (λ test t. holds test ≡ not (is_zero c)) (meanings.tests program place a s)
  tests_number s a c is = of (meanings.tests program place a s) (makes_value program class.Test place act.Test (a ∷ []) s)
    where
      gave : (v : Value) → work act.Test (values_of (map (read s) (a ∷ []))) s.world ≡ Ok v → number_met v ≡ not (is_zero c)
      gave v h =
          sym (ap number_met (in_ok (Number (truth (not (is_zero c)))) v (sym (test_work_is c s.world)
          ∙ (ap (λ (vals : List Value). work act.Test vals s.world) (sym (one_value_is s a (Number c) is)) ∙ h))))
          ∙ met_again (not (is_zero c))

      of : (o : Outcome Held) → MakesValue s (work act.Test (values_of (map (read s) (a ∷ []))) s.world) o → At (λ test t. holds test ≡ not (is_zero c)) o
      of (Goes held t) h = gave held.value h.1
      of (Stops end w) h = tt

  -- the comparison, and the number that the right operand holds
  pub compares_number : (op : Bin) (wide : Kind) (s : State) (a b : Operand) (z : ℤ) → tests op ≡ true → value_by s.vars a ≡ Some (Number z)
      → At (λ c t. (y : ℤ) × (found : ℤ) × (value_in (read s b).slot ≡ Some (Number y)) × (value_by t.vars c ≡ Some (Number found))
      × (value op wide (converted wide z) (converted wide y) ≡ Ok found)) (binary_on program place op wide a b s)
  compares_number op wide s a b z tested is =
      follow_at Q (makes program (class_of op) place (act.Binary op wide) (a ∷ b ∷ []) s) (λ held. gives (Holding held)) (λ held t made.
      let gave = made_is s (work (act.Binary op wide) (values_of (map (read s) (a ∷ b ∷ []))) s.world) (makes program (class_of op) place (act.Binary op wide) (a ∷ b ∷ []) s) held t
      (makes_value program (class_of op) place (act.Binary op wide) (a ∷ b ∷ []) s) made in
      let found = compares_slots op wide z (read s b).slot held.value s.world
      (ap (λ (vals : List Value). work (act.Binary op wide) vals s.world) (sym (read_front s a (Number z) (values_of (map (read s) (b ∷ []))) is)) ∙ gave.1) in
      (found.0, found.1, found.2, ap Some found.3, ap (λ (k : Kind). value op wide (converted wide z) (converted k found.0)) (sym (tests_right op wide tested)) ∙ found.4))
    where
      Q : Operand → State → Type 0
      Q c t = (y : ℤ) × (found : ℤ) × (value_in (read s b).slot ≡ Some (Number y)) × (value_by t.vars c ≡ Some (Number found))
          × (value op wide (converted wide z) (converted wide y) ≡ Ok found)
