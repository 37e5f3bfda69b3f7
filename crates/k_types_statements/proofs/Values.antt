-- What comes of a judged expression in a statement.
use Rattle.std.proofs.Common.{◌≡◌, ℕ, ℤ, Bool, true, false, not, if◌then◌else◌, List, [], ◌∷◌, ◌++◌, Option, Some, None, Ok, refl, sym, ◌∙◌, ap, subst}
use Rattle.k_num.specs.declared.numbers.Kind.{Kind}
use Rattle.k_num.specs.declared.place.Place.{Place}
use Rattle.k_num.specs.Kind.{converted}
use Rattle.k_tree.specs.declared.tree.expression.Expr.{Expr}
use Rattle.k_types_meaning.specs.declared.fault.TypeFault.TheVariants as fault
use Rattle.k_types_meaning.specs.declared.tree.statement.TPart.TheVariants as typed_part
use Rattle.k_types_meaning.specs.Constants.{constant}
use Rattle.k_types_meaning.specs.Conversions.{Typed}
use Rattle.k_types_meaning.specs.Expressions.{judge}
use Rattle.k_types_meaning.specs.Made.{Fine, Faulty, then_made}
use Rattle.k_types_meaning.specs.Statements.{Around, Known, Labels, at_known, behind, taken_of, case_made, constant_labels, case_labels, case_rule, is_among, option_judged}
use Rattle.k_types_meaning.specs.Types.{number_kind}
use Rattle.k_types_rules.specs.declared.judged.TypedExpr.{TypedExpr}
use Rattle.k_types_rules.specs.Views.{type_of, typed}
use Rattle.k_types_expressions.specs.Results.{Gives}
use Rattle.k_types_statements.specs.declared.switch.Labels as kept
use Rattle.k_types_statements.specs.declared.valued.Valued.{Valued}
use Rattle.k_types_statements.specs.Labels.{converted_option, Holds, PartRuns}
use Rattle.k_types_statements.specs.Results.{RunsAs, judged_at, valued_of, valued_option}
use Rattle.k_types_statements.proofs.Judging.{one_runs}

-- what is known behind a judged expression
taken_behind : (j : TypedExpr) (e : Expr) (older : Known) (taken newer : List ℕ)
    → judge older.names e ≡ Fine (typed j taken) → newer ≡ older.taken ++ taken
    → (let k : Known = record older { taken = newer } in k) ≡ behind older (at_known older e)
taken_behind j e older taken newer made put =
    ap (λ (l : List ℕ). let k : Known = record older { taken = l } in k) (put ∙ ap (λ m. older.taken ++ taken_of m) (sym made))

-- an expression was judged
pub value_runs : (t : Valued) (j : TypedExpr) (e : Expr) (older : Known) (newer : List ℕ)
    → Gives (Ok j) older.taken newer (judge older.names e)
    → t ≡ record { tree = j.tree; kind = number_kind (type_of j.of) }
    → RunsAs valued_of (Ok t) older (record older { taken = newer }) (judged_at older e)
value_runs t j e older newer (taken, made, put) shown = (typed j taken, shown, (made, taken_behind j e older taken newer made put, refl))

module _ (p : Place) (e : Expr) (around : Around) (kind : Kind) (labels : Labels) (older newer : Known) (t : Valued) where
  -- what is made of a case whose value is new
  case_fine : (o : Option ℤ) (value : ℤ) → converted_option kind o ≡ Some value → is_among labels.cases value ≡ false
      → case_made p kind labels o ≡ Fine (typed_part.Case p value)
  case_fine None value is among = cc
  case_fine (Some z) value is among =
      let same : converted kind z ≡ value = cc in
      let there : is_among labels.cases (converted kind z) ≡ false = cc in
      ap (λ b. if b then Faulty (fault.CaseAgain p) [] else Fine (typed_part.Case p (converted kind z))) there
      ∙ ap (λ x. Fine (typed_part.Case p x)) same

  -- the labels behind a case
  labelled : (k : kept.Labels) (o : Option ℤ) (value : ℤ) → converted_option kind o ≡ Some value
      → Holds k (record labels { cases = value ∷ labels.cases }) → Holds k (constant_labels kind labels o)
  labelled k None value is holds = cc
  labelled k (Some z) value is holds =
      let same : value ≡ converted kind z = cc in
      subst (λ x. Holds k (record labels { cases = x ∷ labels.cases })) same holds

  -- a case
  pub case_runs : (value : ℤ) (k : kept.Labels) → RunsAs valued_of (Ok t) older newer (judged_at older e)
      → converted_option kind (constant t.tree) ≡ Some value → is_among labels.cases value ≡ false
      → Holds k (record labels { cases = value ∷ labels.cases })
      → PartRuns (Ok (typed_part.Case p value)) older newer k (case_rule p e around kind labels older)
  unfolding case_rule
  case_runs value k (v, shown, (made, after, names)) is among holds =
      let tree : t.tree ≡ v.tree = ap (λ (w : Valued). w.tree) shown in
      let found : converted_option kind (constant v.tree) ≡ Some value = subst (λ x. converted_option kind (constant x) ≡ Some value) tree is in (
        ap (λ m. then_made m (λ w. case_made p kind labels (constant w.tree))) made ∙ case_fine (constant v.tree) value found among,
        after,
        names,
        subst (λ m. Holds k (case_labels kind labels m)) (sym made) (labelled k (constant v.tree) value found holds),
      )

-- an expression that may be left out, and is there
pub option_runs : (t : Valued) (e : Expr) (older newer : Known)
    → RunsAs valued_of (Ok t) older newer (judged_at older e) → RunsAs valued_option (Ok (Some t)) older newer (option_judged older (Some e))
option_runs t e older newer (v, shown, runs) =
    (Some v, ap Some shown, one_runs (Ok (Some v)) v older newer (judged_at older e) (λ (v : Typed). Fine (Some v)) runs refl)

-- a value that was put among others was not there
pub absent : (there added : Bool) → added ≡ not there → not added ≡ false → there ≡ false
absent true added put is = cc
absent false added put is = refl
