-- The step of a counted loop adds its number to the loop's variable.
use Rattle.std.proofs.Common.{◌≡◌, ℕ, ◌≤◌, ℤ, pos, neg_ℤ, List, Option, Some, None, Bool, true, false, ◌&&◌, refl, sym, ◌∙◌, ap, subst}
use Rattle.k_num.specs.declared.numbers.Bin.{Bin}
use Rattle.k_num.specs.declared.numbers.Bin.TheVariants.{Add, Sub}
use Rattle.k_num.specs.declared.numbers.Kind.{Kind}
use Rattle.k_num.specs.Combining.{combined, is_modular}
use Rattle.k_num.specs.Kind.{width}
use Rattle.k_num.proofs.Combining.{difference_is_sum}
use Rattle.k_types_meaning.specs.declared.types.TType.TheVariants as ttype
use Rattle.k_types_meaning.specs.declared.tree.expression.Change.{Change}
use Rattle.k_types_meaning.specs.declared.tree.expression.Change.TheVariants as change
use Rattle.k_types_meaning.specs.declared.tree.expression.Node.{Node}
use Rattle.k_types_meaning.specs.declared.tree.expression.TExpr.{TExpr, fold_out-TExpr, map-TExpr, out-TExpr}
use Rattle.k_types_meaning.specs.declared.tree.expression.TExpr.TheOpen.{TExpr-F}
use Rattle.k_types_meaning.specs.declared.tree.unit.TVariable.{TVariable}
use Rattle.k_world.specs.declared.value.Value.TheVariants.{Number}
use Rattle.k_marks_meaning.specs.declared.uses.Read.{Read}
use Rattle.k_marks_meaning.specs.Reductions.{variable_step, variable_of}
use Rattle.k_marks_meaning.specs.Loops.{adds, nonzero_step, is_nonzero, read_if, counter_step, counter_of}
use Rattle.k_evaluation.specs.declared.operand.Operand.{Operand}
use Rattle.k_evaluation.specs.declared.operand.Operand.TheVariants.{Constant}
use Rattle.k_evaluation.specs.declared.operand.Target.{Target}
use Rattle.k_evaluation.specs.declared.operand.Target.TheVariants.{InRegister}
use Rattle.k_evaluation.specs.States.{Program, State, Outcome, Goes, follow}
use Rattle.k_evaluation.specs.Meanings.{Meaning, kind_of}
use Rattle.k_evaluation.specs.Places.{is_register, is_broken, variable, variable_place, number}
use Rattle.k_evaluation.specs.Assignments.{assign_by, pre, post, one, after_place, behind_changed, changes_old}
use Rattle.k_evaluation.specs.Expressions.{Calls, eval_step, eval}
use Rattle.k_marks_laws.specs.Turns.{HoldsNumber}
use Rattle.k_marks_laws.specs.Counted.{added_by, number_step, step_at, IsTypedChange, IsTypedStepAt}
use Rattle.k_marks_laws.proofs.Conditions.{both_true}
use Rattle.k_marks_laws.proofs.Steps.{Reaches, changes_reach}

-- what is in an option
pub in_some : {A : Type 0} (a b : A) → Some a ≡ Some b → a ≡ b
in_some {A = A} a b is = ap (λ (o : Option A). or_else o) is
  where
    or_else : Option A → A
    or_else None = a
    or_else (Some x) = x

module _ (program : Program) (vs : List TVariable) (calls : Calls) where
  abbrev pub meaning : TExpr → Meaning
  meaning = eval program vs calls

  -- what an expression means, by its operands
  abbrev pub meaning_at : TExpr-F TExpr → Meaning
  meaning_at x = eval_step program vs calls (map-TExpr TExpr Meaning meaning x)

  pub meaning_is : (e : TExpr) → meaning e ≡ meaning_at (out-TExpr e)
  meaning_is e = fold_out-TExpr Meaning (eval_step program vs calls) e

  -- AN EXPRESSION THAT IS A VARIABLE is the place of it, where it is a register
  abbrev IsPlaceOf : ℕ → Meaning → Type 0
  IsPlaceOf n m = (broken : Bool) × ((s : State) → m.place s ≡ Goes (InRegister n broken) s)

  variable_is_place : (node : Node) (n : ℕ) → is_register vs n ≡ true → IsPlaceOf n (variable program vs node n)
  unfolding variable
  variable_is_place node n register = (is_broken program node.number, λ s. ap (λ (b : Bool). variable_place program node n b s) register)

  place_at : (x : TExpr-F TExpr) (i : Read) → variable_step x ≡ Some i → is_register vs i.variable ≡ true → IsPlaceOf i.variable (meaning_at x)
  place_at (TExpr-F.Variable node n) i is register =
      let same : n ≡ i.variable = ap (λ (r : Read). r.variable) (in_some (record { variable = n; node = node.number }) i is) in
      subst (λ (m : ℕ). IsPlaceOf m (variable program vs node n)) same (variable_is_place node n (ap (is_register vs) same ∙ register))
  place_at _ i is register = absurd cc

  pub place_of : (e : TExpr) (i : Read) → variable_of e ≡ Some i → is_register vs i.variable ≡ true → IsPlaceOf i.variable (meaning e)
  place_of e i is register = subst (IsPlaceOf i.variable) (sym (meaning_is e)) (place_at (out-TExpr e) i is register)

  module _ (n : ℕ) (kind : Kind) (s : State) (x : ℤ) (there : HoldsNumber s n x) where
    -- what the change of a variable comes to, by what its operator combines
    module _ (node : Node) (op : Bin) (wide : Kind) (modular : is_modular op ≡ true) (of : node.of ≡ ttype.Number kind) (wider : width kind ≤ width wide) where
      pub post_reaches : (e : Meaning) → IsPlaceOf n e → Reaches n (combined op kind x (pos 1)) ((post program node (change.Number op wide) e).value false s)
      unfolding post
      post_reaches e here =
          subst (λ (o : Outcome Target). Reaches n (combined op kind x (pos 1)) (follow o (after_place program node (change.Number op wide) false))) (sym (here.1 s))
          (changes_reach program node n here.0 kind wide op None one x (pos 1) s modular of wider there refl)

      pub pre_reaches : (used : Bool) (e : Meaning) → IsPlaceOf n e → Reaches n (combined op kind x (pos 1)) ((pre program node (change.Number op wide) e).value used s)
      unfolding pre
      pre_reaches used e here =
          subst (λ (o : Outcome Target). Reaches n (combined op kind x (pos 1)) (follow o (λ target. changes_old program node (change.Number op wide) None target one))) (sym (here.1 s))
          (changes_reach program node n here.0 kind wide op None one x (pos 1) s modular of wider there refl)

      -- a right side that is a number
      pub by_number_reaches : (used : Bool) (left right : Meaning) (y : ℤ) → IsPlaceOf n left → ((u : State) → right.value true u ≡ Goes (Constant (Number y)) u)
          → Reaches n (combined op kind x y) ((assign_by program node (change.Number op wide) left right).value used s)
      unfolding assign_by
      by_number_reaches used left right y here gave =
          subst (λ (o : Outcome Target). Reaches n (combined op kind x y) (follow o (behind_changed program node (change.Number op wide) right))) (sym (here.1 s))
          (subst (λ (o : Outcome Operand). Reaches n (combined op kind x y) (follow o (changes_old program node (change.Number op wide) (kind_of right.node.of) (InRegister n here.0)))) (sym (gave s))
          (changes_reach program node n here.0 kind wide op (kind_of right.node.of) (Constant (Number y)) x y s modular of wider there refl))

    -- an operator that adds
    abbrev Adds : ℤ → Outcome Operand → Type 0
    Adds d o = Reaches n (combined Add kind x d) o

    subtracted : (d : ℤ) (o : Outcome Operand) → Reaches n (combined Sub kind x d) o → Adds (neg_ℤ d) o
    subtracted d o h = subst (λ (z : ℤ). Reaches n z o) (difference_is_sum kind x d) h

    post_adds : (node : Node) (by : Change) (e : Meaning) → adds by ≡ true → IsTypedChange kind node by → IsPlaceOf n e → Adds (added_by by (pos 1)) ((post program node by e).value false s)
    post_adds node (change.Number Add wide) e is typed here = post_reaches node Add wide refl typed.0 typed.1 e here
    post_adds node (change.Number Sub wide) e is typed here =
        subtracted (pos 1) ((post program node (change.Number Sub wide) e).value false s) (post_reaches node Sub wide refl typed.0 typed.1 e here)
    post_adds node _ e is typed here = absurd cc

    pre_adds : (node : Node) (by : Change) (e : Meaning) → adds by ≡ true → IsTypedChange kind node by → IsPlaceOf n e → Adds (added_by by (pos 1)) ((pre program node by e).value false s)
    pre_adds node (change.Number Add wide) e is typed here = pre_reaches node Add wide refl typed.0 typed.1 false e here
    pre_adds node (change.Number Sub wide) e is typed here =
        subtracted (pos 1) ((pre program node (change.Number Sub wide) e).value false s) (pre_reaches node Sub wide refl typed.0 typed.1 false e here)
    pre_adds node _ e is typed here = absurd cc

    by_adds : (node : Node) (by : Change) (left right : Meaning) (y : ℤ) → adds by ≡ true → IsTypedChange kind node by → IsPlaceOf n left
        → ((u : State) → right.value true u ≡ Goes (Constant (Number y)) u) → Adds (added_by by y) ((assign_by program node by left right).value false s)
    by_adds node (change.Number Add wide) left right y is typed here gave = by_number_reaches node Add wide refl typed.0 typed.1 false left right y here gave
    by_adds node (change.Number Sub wide) left right y is typed here gave =
        subtracted y ((assign_by program node (change.Number Sub wide) left right).value false s) (by_number_reaches node Sub wide refl typed.0 typed.1 false left right y here gave)
    by_adds node _ left right y is typed here gave = absurd cc

  -- a number that is no 0 gives itself
  number_value : (node : Node) (z : ℤ) (u : State) → (number node z).value true u ≡ Goes (Constant (Number z)) u
  unfolding number
  number_value node z u = refl

  number_at : (y : TExpr-F TExpr) → nonzero_step y ≡ true → (u : State) → (meaning_at y).value true u ≡ Goes (Constant (Number (number_step y))) u
  number_at (TExpr-F.Number node z) is u = number_value node z u
  number_at _ is u = absurd cc

  number_is : (e : TExpr) → is_nonzero e ≡ true → (u : State) → (meaning e).value true u ≡ Goes (Constant (Number (number_step (out-TExpr e)))) u
  number_is e is u = subst (λ (m : Meaning). m.value true u ≡ Goes (Constant (Number (number_step (out-TExpr e)))) u) (sym (meaning_is e)) (number_at (out-TExpr e) is u)

  -- what a read needs to be one
  read_there : (b : Bool) (e : TExpr) (i : Read) → read_if b e ≡ Some i → (b ≡ true) × (variable_of e ≡ Some i)
  read_there true e i is = (refl, is)
  read_there false e i is = absurd cc

  module _ (i : Read) (kind : Kind) (register : is_register vs i.variable ≡ true) (s : State) (x : ℤ) (there : HoldsNumber s i.variable x) where
    step_adds_at : (y : TExpr-F TExpr) → counter_step y ≡ Some i → IsTypedStepAt kind y → Reaches i.variable (combined Add kind x (step_at y)) ((meaning_at y).value false s)
    step_adds_at (TExpr-F.Post node by e) is typed =
        let found = read_there (adds by) e i is in post_adds i.variable kind s x there node by (meaning e) found.0 typed (place_of e i found.1 register)
    step_adds_at (TExpr-F.Pre node by e) is typed =
        let found = read_there (adds by) e i is in pre_adds i.variable kind s x there node by (meaning e) found.0 typed (place_of e i found.1 register)
    step_adds_at (TExpr-F.AssignBy node by left right) is typed =
        let found = read_there (adds by && is_nonzero right) left i is in
        let tests = both_true (adds by) (is_nonzero right) found.0 in
        by_adds i.variable kind s x there node by (meaning left) (meaning right) (number_step (out-TExpr right)) tests.0 typed (place_of left i found.1 register) (number_is right tests.1)
    step_adds_at _ is typed = absurd cc

    -- THE STEP
    pub step_adds : (e : TExpr) → counter_of e ≡ Some i → IsTypedStepAt kind (out-TExpr e) → Reaches i.variable (combined Add kind x (step_at (out-TExpr e))) ((meaning e).value false s)
    step_adds e is typed =
        subst (λ (m : Meaning). Reaches i.variable (combined Add kind x (step_at (out-TExpr e))) (m.value false s)) (sym (meaning_is e)) (step_adds_at (out-TExpr e) is typed)
