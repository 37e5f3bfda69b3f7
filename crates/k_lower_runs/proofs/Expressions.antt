-- The code of an expression does what the expression means, where its calls do.
use Rattle.std.proofs.Common.{ℕ, ◌≡◌, Bool, true, List, [], ◌∷◌, map, sym, subst}
use Rattle.std.proofs.lemmas.Bool.{and_parts, ltb-true}
use Rattle.k_types_meaning.specs.declared.tree.expression.Node.{Node}
use Rattle.k_types_meaning.specs.declared.tree.expression.TExpr.{TExpr, roll-TExpr, fold-roll-TExpr, ind-TExpr, map-TExpr}
use Rattle.k_types_meaning.specs.declared.tree.expression.TExpr.TheOpen.{TExpr-F}
use Rattle.k_types_meaning.specs.declared.tree.unit.TVariable.{TVariable}
use Rattle.k_code.specs.declared.code.Code.{Code}
use Rattle.k_evaluation.specs.Expressions.{Calls, eval_step, eval}
use Rattle.k_evaluation.specs.Meanings.{Meaning}
use Rattle.k_evaluation.specs.States.{Program}
use Rattle.k_lower_code.specs.Expressions.{lower_step, lowered}
use Rattle.k_lower_code.specs.Lowered.{Lowered}
use Rattle.k_lower_runs.specs.Doing.{CallFollows}
use Rattle.k_lower_runs.specs.Sound.{all_true, sound_step, is_sound}
use Rattle.k_lower_runs.proofs.AssignmentRows.{assign_does, assign_by_does, pre_does, post_does}
use Rattle.k_lower_runs.proofs.LibraryRows.{AllDo, getchar_does, putchar_does, puts_does, printf_does, call_does}
use Rattle.k_lower_runs.proofs.OperatorRows.{plus_does, unary_does, convert_does, cast_does, binary_does, compare_does, distance_does, comma_does}
use Rattle.k_lower_runs.proofs.PlaceRows.{number_does, string_does, object_does, variable_does, index_does, deref_does, address_does, forward_does, back_does, onto_does}
use Rattle.k_lower_runs.proofs.TestRows.{both_does, either_does, cond_does}
use Rattle.k_lower_runs.proofs.Values.{Does}

module _ (code : Code) (deep count : ℕ) (program : Program) (vs : List TVariable) (calls : Calls) (fits : Node → ℕ → Bool)
    (calls_follow : (node : Node) (f : ℕ) → fits node f ≡ true → CallFollows code deep count program calls node f) where
  abbrev meaning : TExpr → Meaning
  meaning = eval program vs calls

  abbrev code_of : TExpr → Lowered
  code_of = lowered program vs

  abbrev sound : TExpr → Bool
  sound = is_sound count fits

  -- where it is sound it does what it means
  abbrev DoesIf : Meaning → Lowered → Bool → Type 0
  DoesIf m e b = b ≡ true → Does code deep count m e

  abbrev Of : TExpr → Type 0
  Of e = DoesIf (meaning e) (code_of e) (sound e)

  all_do : {B : Type 0} (items : List B) (expr : B → TExpr) → ((b : B) → Of (expr b)) → all_true (map sound (map expr items)) ≡ true
      → AllDo code deep count program (map meaning (map expr items)) (map code_of (map expr items))
  all_do [] expr each is = tt
  all_do (b ∷ items) expr each is = (each b (and_parts (sound (expr b)) _ is).0, all_do items expr each (and_parts (sound (expr b)) _ is).1)

  -- an expression
  pub expression_does : (e : TExpr) → is_sound count fits e ≡ true → Does code deep count (eval program vs calls e) (lowered program vs e)
  expression_does =
      ind-TExpr Of
      (λ x y is.
      let parts : DoesIf (eval_step program vs calls (map-TExpr TExpr Meaning meaning x)) (lower_step program vs (map-TExpr TExpr Lowered code_of x)) (sound_step count fits (map-TExpr TExpr Bool sound x)) =
      subst (λ (z : TExpr-F TExpr). DoesIf (eval_step program vs calls (map-TExpr TExpr Meaning meaning z)) (lower_step program vs (map-TExpr TExpr Lowered code_of z)) (sound_step count fits (map-TExpr TExpr Bool sound z))) is
      (elim y as (λ z. DoesIf (eval_step program vs calls (map-TExpr TExpr Meaning meaning (map-TExpr _ TExpr (λ e. e.0) z))) (lower_step program vs (map-TExpr TExpr Lowered code_of (map-TExpr _ TExpr (λ e. e.0) z)))
      (sound_step count fits (map-TExpr TExpr Bool sound (map-TExpr _ TExpr (λ e. e.0) z)))) [
        | TExpr-F.Number node z ↦ (λ s. number_does code deep count program node z)
        | TExpr-F.Str node n bytes ↦ (λ s. string_does code deep count program node n bytes)
        | TExpr-F.Object node n ↦ (λ s. object_does code deep count program node n)
        | TExpr-F.Variable node n ↦ (λ s. variable_does code deep count program vs node n (ltb-true n count s))
        | TExpr-F.Index node a b ↦ (λ s. index_does code deep count program node _ _ _ _ (a.1 (and_parts (sound a.0) (sound b.0) s).0) (b.1 (and_parts (sound a.0) (sound b.0) s).1))
        | TExpr-F.Call node f args ↦ (λ s. call_does code deep count program calls node f _ _ (calls_follow node f (and_parts (fits node f) _ s).0) (all_do args (λ e. e.0) (λ e. e.1) (and_parts (fits node f) _ s).1))
        | TExpr-F.Getchar node ↦ (λ s. getchar_does code deep count program node)
        | TExpr-F.Putchar node a ↦ (λ s. putchar_does code deep count program node _ _ (a.1 s))
        | TExpr-F.Puts node a ↦ (λ s. puts_does code deep count program node _ _ (a.1 s))
        | TExpr-F.Printf node format args ↦ (λ s. printf_does code deep count program node format _ _ (all_do args (λ e. e.0) (λ e. e.1) s))
        | TExpr-F.Post node change a ↦ (λ s. post_does code deep count program node change _ _ (a.1 s))
        | TExpr-F.Pre node change a ↦ (λ s. pre_does code deep count program node change _ _ (a.1 s))
        | TExpr-F.Address node a ↦ (λ s. address_does code deep count program node _ _ (a.1 s))
        | TExpr-F.Deref node a ↦ (λ s. deref_does code deep count program node _ _ (a.1 s))
        | TExpr-F.Plus node a ↦ (λ s. plus_does code deep count program node _ _ (a.1 s))
        | TExpr-F.Unary node op kind a ↦ (λ s. unary_does code deep count program node op kind _ _ (a.1 s))
        | TExpr-F.Convert node a ↦ (λ s. convert_does code deep count program node _ _ (a.1 s))
        | TExpr-F.Cast node a ↦ (λ s. cast_does code deep count program node _ _ (a.1 s))
        | TExpr-F.Binary node op kind a b ↦ (λ s. binary_does code deep count program node op kind _ _ _ _ (a.1 (and_parts (sound a.0) (sound b.0) s).0) (b.1 (and_parts (sound a.0) (sound b.0) s).1))
        | TExpr-F.Both node a b ↦ (λ s. both_does code deep count program node _ _ _ _ (a.1 (and_parts (sound a.0) (sound b.0) s).0) (b.1 (and_parts (sound a.0) (sound b.0) s).1))
        | TExpr-F.Either node a b ↦ (λ s. either_does code deep count program node _ _ _ _ (a.1 (and_parts (sound a.0) (sound b.0) s).0) (b.1 (and_parts (sound a.0) (sound b.0) s).1))
        | TExpr-F.Forward node a b ↦ (λ s. forward_does code deep count program node _ _ _ _ (a.1 (and_parts (sound a.0) (sound b.0) s).0) (b.1 (and_parts (sound a.0) (sound b.0) s).1))
        | TExpr-F.Onto node a b ↦ (λ s. onto_does code deep count program node _ _ _ _ (a.1 (and_parts (sound a.0) (sound b.0) s).0) (b.1 (and_parts (sound a.0) (sound b.0) s).1))
        | TExpr-F.Back node a b ↦ (λ s. back_does code deep count program node _ _ _ _ (a.1 (and_parts (sound a.0) (sound b.0) s).0) (b.1 (and_parts (sound a.0) (sound b.0) s).1))
        | TExpr-F.PtrCompare node op a b ↦ (λ s. compare_does code deep count program node op _ _ _ _ (a.1 (and_parts (sound a.0) (sound b.0) s).0) (b.1 (and_parts (sound a.0) (sound b.0) s).1))
        | TExpr-F.PtrDistance node a b ↦ (λ s. distance_does code deep count program node _ _ _ _ (a.1 (and_parts (sound a.0) (sound b.0) s).0) (b.1 (and_parts (sound a.0) (sound b.0) s).1))
        | TExpr-F.Cond node a b c ↦ (λ s. cond_does code deep count program node _ _ _ _ _ _ (a.1 (and_parts (sound a.0) _ s).0) (b.1 (and_parts (sound b.0) (sound c.0) (and_parts (sound a.0) _ s).1).0)
            (c.1 (and_parts (sound b.0) (sound c.0) (and_parts (sound a.0) _ s).1).1))
        | TExpr-F.Assign node a b ↦ (λ s. assign_does code deep count program node _ _ _ _ (a.1 (and_parts (sound a.0) (sound b.0) s).0) (b.1 (and_parts (sound a.0) (sound b.0) s).1))
        | TExpr-F.AssignBy node change a b ↦ (λ s. assign_by_does code deep count program node change _ _ _ _ (a.1 (and_parts (sound a.0) (sound b.0) s).0) (b.1 (and_parts (sound a.0) (sound b.0) s).1))
        | TExpr-F.Comma node a b ↦ (λ s. comma_does code deep count program node _ _ _ _ (a.1 (and_parts (sound a.0) (sound b.0) s).0) (b.1 (and_parts (sound a.0) (sound b.0) s).1))
      ]) in
      subst (λ m. DoesIf m (code_of (roll-TExpr x)) (sound (roll-TExpr x))) (sym (fold-roll-TExpr Meaning (eval_step program vs calls) x))
      (subst (λ e. DoesIf (eval_step program vs calls (map-TExpr TExpr Meaning meaning x)) e (sound (roll-TExpr x))) (sym (fold-roll-TExpr Lowered (lower_step program vs) x))
      (subst (λ b. DoesIf (eval_step program vs calls (map-TExpr TExpr Meaning meaning x)) (lower_step program vs (map-TExpr TExpr Lowered code_of x)) b) (sym (fold-roll-TExpr Bool (sound_step count fits) x)) parts)))
