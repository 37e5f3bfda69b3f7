-- Expressions keep each variable that their text does not change, where calls do.
use Rattle.std.proofs.Common.{ℕ, List, [], ◌∷◌, ◌++◌, map, Option, Some, None, sym, subst}
use Rattle.k_types_meaning.specs.declared.tree.expression.TExpr.{TExpr, fold-roll-TExpr, ind-TExpr, map-TExpr, roll-TExpr}
use Rattle.k_types_meaning.specs.declared.tree.expression.TExpr.TheOpen.{TExpr-F}
use Rattle.k_types_meaning.specs.declared.tree.unit.TVariable.{TVariable}
use Rattle.k_marks_meaning.specs.declared.uses.Use.{Use}
use Rattle.k_marks_meaning.specs.Uses.{Used, used, uses_step, in_order, assigns}
use Rattle.k_evaluation.specs.States.{Program}
use Rattle.k_evaluation.specs.Meanings.{Meaning}
use Rattle.k_evaluation.specs.Expressions.{Calls, eval_step, eval}
use Rattle.k_marks_laws.specs.Frames.{IsSpared}
use Rattle.k_marks_laws.proofs.Rows.{MeaningKeeps, AllKeep, CallsKeep, IsOther, number_keeps, string_keeps, object_keeps, variable_keeps, index_keeps, call_keeps, getchar_keeps, putchar_keeps, puts_keeps, printf_keeps, post_keeps, pre_keeps, address_keeps, deref_keeps, plus_keeps, unary_keeps, convert_keeps, cast_keeps, binary_keeps, both_keeps, either_keeps, forward_keeps, onto_keeps, back_keeps, compare_keeps, distance_keeps, cond_keeps, assign_keeps, assign_by_keeps, comma_keeps}

-- what is spared by two texts is spared by each
pub front : (n : ℕ) (xs ys : List Use) → IsSpared n (xs ++ ys) → IsSpared n xs
front n [] ys h = tt
front n (x ∷ xs) ys h = (h.0, front n xs ys h.1)

pub behind : (n : ℕ) (xs ys : List Use) → IsSpared n (xs ++ ys) → IsSpared n ys
behind n [] ys h = h
behind n (x ∷ xs) ys h = behind n xs ys h.1

pub spared_both : (n : ℕ) (xs ys : List Use) → IsSpared n xs → IsSpared n ys → IsSpared n (xs ++ ys)
spared_both n [] ys h k = k
spared_both n (x ∷ xs) ys h k = (h.0, spared_both n xs ys h.1 k)

-- so the operand that is assigned is another variable
other_of : (n : ℕ) (itself : Option ℕ) (uses : List Use) → IsSpared n (assigns itself ++ uses) → IsOther n itself × IsSpared n uses
other_of n None uses h = (tt, h)
other_of n (Some m) uses h = (h.0, h.1)

module _ (n : ℕ) (program : Program) (vs : List TVariable) (calls : Calls) (calls_keep : CallsKeep n calls) where
  abbrev meaning : TExpr → Meaning
  meaning = eval program vs calls

  abbrev step : TExpr-F Meaning → Meaning
  step = eval_step program vs calls

  -- an expression with these uses and this meaning keeps the variable where it is spared
  abbrev IsFramed : Used → Meaning → Type 0
  IsFramed u m = IsSpared n u.uses → MeaningKeeps n u.itself m

  all_keep : {B : Type 0} (items : List B) (expr : B → TExpr) → ((b : B) → IsFramed (used (expr b)) (meaning (expr b)))
      → IsSpared n (in_order (map used (map expr items))) → AllKeep n (map meaning (map expr items))
  all_keep [] expr framed h = tt
  all_keep (b ∷ items) expr framed h = (
    (framed b (front n (used (expr b)).uses (in_order (map used (map expr items))) h)).0,
    all_keep items expr framed (behind n (used (expr b)).uses (in_order (map used (map expr items))) h),
  )

  -- the operand of an assignment, where the variable is spared
  target_other : (e : TExpr) → IsSpared n (assigns (used e).itself ++ (used e).uses) → IsOther n (used e).itself × IsSpared n (used e).uses
  target_other e h = other_of n (used e).itself (used e).uses h

  -- an expression
  pub eval_keeps : (e : TExpr) → IsFramed (used e) (meaning e)
  eval_keeps =
      ind-TExpr (λ e. IsFramed (used e) (meaning e))
      (λ x y is.
      let parts : IsFramed (uses_step (map-TExpr TExpr Used used x)) (step (map-TExpr TExpr Meaning meaning x)) =
      subst (λ (z : TExpr-F TExpr). IsFramed (uses_step (map-TExpr TExpr Used used z)) (step (map-TExpr TExpr Meaning meaning z))) is
      (elim y as (λ z. IsFramed (uses_step (map-TExpr TExpr Used used (map-TExpr _ TExpr (λ e. e.0) z))) (step (map-TExpr TExpr Meaning meaning (map-TExpr _ TExpr (λ e. e.0) z)))) [
        | TExpr-F.Number node z ↦ λ h. number_keeps n program node z
        | TExpr-F.Str node k bytes ↦ λ h. string_keeps n program node k bytes
        | TExpr-F.Object node k ↦ λ h. object_keeps n program node k
        | TExpr-F.Variable node m ↦ λ h. variable_keeps n program vs node m
        | TExpr-F.Index node a b ↦ λ h. index_keeps n program node (meaning a.0) (meaning b.0) (a.1 (front n (used a.0).uses (used b.0).uses h)).0 (b.1 (behind n (used a.0).uses (used b.0).uses h)).0
        | TExpr-F.Call node f args ↦ λ h. call_keeps n program calls node f _ calls_keep (all_keep args (λ e. e.0) (λ e. e.1) h)
        | TExpr-F.Getchar node ↦ λ h. getchar_keeps n program node
        | TExpr-F.Putchar node a ↦ λ h. putchar_keeps n program node (meaning a.0) (a.1 h).0
        | TExpr-F.Puts node a ↦ λ h. puts_keeps n program node (meaning a.0)
        | TExpr-F.Printf node format args ↦ λ h. printf_keeps n program node format _ (all_keep args (λ e. e.0) (λ e. e.1) h)
        | TExpr-F.Post node change a ↦ λ h. (let t = target_other a.0 h in post_keeps n program (used a.0).itself node change (meaning a.0) t.0 (a.1 t.1).1)
        | TExpr-F.Pre node change a ↦ λ h. (let t = target_other a.0 h in pre_keeps n program (used a.0).itself node change (meaning a.0) t.0 (a.1 t.1).1)
        | TExpr-F.Address node a ↦ λ h. address_keeps n program (used a.0).itself node (meaning a.0) (a.1 h).1
        | TExpr-F.Deref node a ↦ λ h. deref_keeps n program node (meaning a.0) (a.1 h).0
        | TExpr-F.Plus node a ↦ λ h. plus_keeps n program node (meaning a.0) (a.1 h).0
        | TExpr-F.Unary node op kind a ↦ λ h. unary_keeps n program node op kind (meaning a.0) (a.1 h).0
        | TExpr-F.Convert node a ↦ λ h. convert_keeps n program node (meaning a.0) (a.1 h).0
        | TExpr-F.Cast node a ↦ λ h. cast_keeps n program node (meaning a.0) (a.1 h).0
        | TExpr-F.Binary node op kind a b ↦ λ h. binary_keeps n program node op kind (meaning a.0) (meaning b.0) (a.1 (front n (used a.0).uses (used b.0).uses h)).0 (b.1 (behind n (used a.0).uses (used b.0).uses h)).0
        | TExpr-F.Both node a b ↦ λ h. both_keeps n program node (meaning a.0) (meaning b.0) (a.1 (front n (used a.0).uses (used b.0).uses h)).0 (b.1 (behind n (used a.0).uses (used b.0).uses h)).0
        | TExpr-F.Either node a b ↦ λ h. either_keeps n program node (meaning a.0) (meaning b.0) (a.1 (front n (used a.0).uses (used b.0).uses h)).0 (b.1 (behind n (used a.0).uses (used b.0).uses h)).0
        | TExpr-F.Forward node a b ↦ λ h. forward_keeps n program node (meaning a.0) (meaning b.0) (a.1 (front n (used a.0).uses (used b.0).uses h)).0 (b.1 (behind n (used a.0).uses (used b.0).uses h)).0
        | TExpr-F.Onto node a b ↦ λ h. onto_keeps n program node (meaning a.0) (meaning b.0) (a.1 (front n (used a.0).uses (used b.0).uses h)).0 (b.1 (behind n (used a.0).uses (used b.0).uses h)).0
        | TExpr-F.Back node a b ↦ λ h. back_keeps n program node (meaning a.0) (meaning b.0) (a.1 (front n (used a.0).uses (used b.0).uses h)).0 (b.1 (behind n (used a.0).uses (used b.0).uses h)).0
        | TExpr-F.PtrCompare node op a b ↦ λ h. compare_keeps n program node op (meaning a.0) (meaning b.0) (a.1 (front n (used a.0).uses (used b.0).uses h)).0 (b.1 (behind n (used a.0).uses (used b.0).uses h)).0
        | TExpr-F.PtrDistance node a b ↦ λ h. distance_keeps n program node (meaning a.0) (meaning b.0) (a.1 (front n (used a.0).uses (used b.0).uses h)).0 (b.1 (behind n (used a.0).uses (used b.0).uses h)).0
        | TExpr-F.Cond node a b c ↦ λ h.
            (let rest = behind n (used a.0).uses ((used b.0).uses ++ (used c.0).uses) h in
            cond_keeps n program node (meaning a.0) (meaning b.0) (meaning c.0) (a.1 (front n (used a.0).uses ((used b.0).uses ++ (used c.0).uses) h)).0
            (b.1 (front n (used b.0).uses (used c.0).uses rest)).0 (c.1 (behind n (used b.0).uses (used c.0).uses rest)).0)
        | TExpr-F.Assign node a b ↦ λ h.
            (let t = target_other a.0 (front n (assigns (used a.0).itself ++ (used a.0).uses) (used b.0).uses h) in
            assign_keeps n program (used a.0).itself node (meaning a.0) (meaning b.0) t.0 (a.1 t.1).1
            (b.1 (behind n (assigns (used a.0).itself ++ (used a.0).uses) (used b.0).uses h)).0)
        | TExpr-F.AssignBy node change a b ↦ λ h.
            (let t = target_other a.0 (front n (assigns (used a.0).itself ++ (used a.0).uses) (used b.0).uses h) in
            assign_by_keeps n program (used a.0).itself node change (meaning a.0) (meaning b.0) t.0 (a.1 t.1).1
            (b.1 (behind n (assigns (used a.0).itself ++ (used a.0).uses) (used b.0).uses h)).0)
        | TExpr-F.Comma node a b ↦ λ h. comma_keeps n program node (meaning a.0) (meaning b.0) (a.1 (front n (used a.0).uses (used b.0).uses h)).0 (b.1 (behind n (used a.0).uses (used b.0).uses h)).0
      ]) in
      subst (λ (u : Used). IsFramed u (meaning (roll-TExpr x))) (sym (fold-roll-TExpr Used uses_step x))
      (subst (IsFramed (uses_step (map-TExpr TExpr Used used x))) (sym (fold-roll-TExpr Meaning step x)) parts))
