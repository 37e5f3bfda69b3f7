-- Expressions are lawful, where calls are.
use Rattle.std.proofs.Common.{List, [], ◌∷◌, map, sym, subst}
use Rattle.k_types_meaning.specs.declared.tree.expression.TExpr.{TExpr, fold-roll-TExpr, ind-TExpr, map-TExpr}
use Rattle.k_types_meaning.specs.declared.tree.expression.TExpr.TheOpen.{TExpr-F}
use Rattle.k_types_meaning.specs.declared.tree.unit.TVariable.{TVariable}
use Rattle.k_evaluation.specs.Meanings.{Meaning}
use Rattle.k_evaluation.specs.Expressions.{Calls, eval_step, eval}
use Rattle.k_evaluation.proofs.Kept.{Setting}
use Rattle.k_evaluation.proofs.Rows.{LawfulMeaning, AreLawful, LawfulCalls, number_lawful, string_lawful, object_lawful, variable_lawful, index_lawful, call_lawful, getchar_lawful, putchar_lawful, puts_lawful, printf_lawful, post_lawful, pre_lawful, address_lawful, deref_lawful, plus_lawful, unary_lawful, convert_lawful, cast_lawful, binary_lawful, both_lawful, either_lawful, forward_lawful, onto_lawful, back_lawful, compare_lawful, distance_lawful, cond_lawful, assign_lawful, assign_by_lawful, comma_lawful}

module _ (g : Setting) (vs : List TVariable) (calls : Calls) (calls_lawful : LawfulCalls g calls) where
  abbrev meaning : TExpr → Meaning
  meaning = eval g.program vs calls

  abbrev step : TExpr-F Meaning → Meaning
  step = eval_step g.program vs calls

  all_lawful : {B : Type 0} (items : List B) (expr : B → TExpr) → ((b : B) → LawfulMeaning g (meaning (expr b))) → AreLawful g (map meaning (map expr items))
  all_lawful [] expr lawful = tt
  all_lawful (b ∷ items) expr lawful = (lawful b, all_lawful items expr lawful)

  -- an expression
  pub eval_lawful : (e : TExpr) → LawfulMeaning g (eval g.program vs calls e)
  eval_lawful =
      ind-TExpr (λ e. LawfulMeaning g (meaning e))
      (λ x y is.
      let parts : LawfulMeaning g (step (map-TExpr TExpr Meaning meaning x)) =
      subst (λ (z : TExpr-F TExpr). LawfulMeaning g (step (map-TExpr TExpr Meaning meaning z))) is
      (elim y as (λ z. LawfulMeaning g (step (map-TExpr TExpr Meaning meaning (map-TExpr _ TExpr (λ e. e.0) z)))) [
        | TExpr-F.Number node z ↦ number_lawful g node z
        | TExpr-F.Str node n bytes ↦ string_lawful g node n bytes
        | TExpr-F.Object node n ↦ object_lawful g node n
        | TExpr-F.Variable node n ↦ variable_lawful g vs node n
        | TExpr-F.Index node a b ↦ index_lawful g node (meaning a.0) (meaning b.0) a.1 b.1
        | TExpr-F.Call node f args ↦ call_lawful g calls node f _ calls_lawful (all_lawful args (λ e. e.0) (λ e. e.1))
        | TExpr-F.Getchar node ↦ getchar_lawful g node
        | TExpr-F.Putchar node a ↦ putchar_lawful g node (meaning a.0) a.1
        | TExpr-F.Puts node a ↦ puts_lawful g node (meaning a.0)
        | TExpr-F.Printf node format args ↦ printf_lawful g node format _ (all_lawful args (λ e. e.0) (λ e. e.1))
        | TExpr-F.Post node change a ↦ post_lawful g node change (meaning a.0) a.1
        | TExpr-F.Pre node change a ↦ pre_lawful g node change (meaning a.0) a.1
        | TExpr-F.Address node a ↦ address_lawful g node (meaning a.0) a.1
        | TExpr-F.Deref node a ↦ deref_lawful g node (meaning a.0) a.1
        | TExpr-F.Plus node a ↦ plus_lawful g node (meaning a.0) a.1
        | TExpr-F.Unary node op kind a ↦ unary_lawful g node op kind (meaning a.0) a.1
        | TExpr-F.Convert node a ↦ convert_lawful g node (meaning a.0) a.1
        | TExpr-F.Cast node a ↦ cast_lawful g node (meaning a.0) a.1
        | TExpr-F.Binary node op kind a b ↦ binary_lawful g node op kind (meaning a.0) (meaning b.0) a.1 b.1
        | TExpr-F.Both node a b ↦ both_lawful g node (meaning a.0) (meaning b.0) a.1 b.1
        | TExpr-F.Either node a b ↦ either_lawful g node (meaning a.0) (meaning b.0) a.1 b.1
        | TExpr-F.Forward node a b ↦ forward_lawful g node (meaning a.0) (meaning b.0) a.1 b.1
        | TExpr-F.Onto node a b ↦ onto_lawful g node (meaning a.0) (meaning b.0) a.1 b.1
        | TExpr-F.Back node a b ↦ back_lawful g node (meaning a.0) (meaning b.0) a.1 b.1
        | TExpr-F.PtrCompare node op a b ↦ compare_lawful g node op (meaning a.0) (meaning b.0) a.1 b.1
        | TExpr-F.PtrDistance node a b ↦ distance_lawful g node (meaning a.0) (meaning b.0) a.1 b.1
        | TExpr-F.Cond node a b c ↦ cond_lawful g node (meaning a.0) (meaning b.0) (meaning c.0) a.1 b.1 c.1
        | TExpr-F.Assign node a b ↦ assign_lawful g node (meaning a.0) (meaning b.0) a.1 b.1
        | TExpr-F.AssignBy node change a b ↦ assign_by_lawful g node change (meaning a.0) (meaning b.0) a.1 b.1
        | TExpr-F.Comma node a b ↦ comma_lawful g node (meaning a.0) (meaning b.0) a.1 b.1
      ]) in
      subst (LawfulMeaning g) (sym (fold-roll-TExpr Meaning step x)) parts)
