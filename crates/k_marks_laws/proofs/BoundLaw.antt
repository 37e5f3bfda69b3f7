-- INDUCTION: the bound of a counted loop, by its conditions and the frame.
use Rattle.std.proofs.Common.{◌≡◌, ℕ, zero, suc, ◌+◌, List, [], ◌∷◌, ◌++◌, Option, Some, None, Bool, true, false, ◌&&◌, ◌||◌, not, refl, sym, ◌∙◌, ap, subst}
use Rattle.std.specs.List.{list_any}
use Rattle.k_types_meaning.specs.declared.tree.expression.TExpr.{TExpr, out-TExpr}
use Rattle.k_types_meaning.specs.declared.tree.expression.TExpr.TheOpen.{TExpr-F}
use Rattle.k_world.specs.declared.value.Held.{Held}
use Rattle.k_world.specs.declared.value.Value.{Value}
use Rattle.k_world.specs.Operands.{value_in}
use Rattle.k_marks_meaning.specs.declared.uses.Use.{Use}
use Rattle.k_marks_meaning.specs.Uses.{Used, uses_of, option_uses, first_declares}
use Rattle.k_marks_meaning.specs.Contents.{inside}
use Rattle.k_marks_meaning.specs.Reductions.{read_of}
use Rattle.k_marks_meaning.specs.Loops.{Loop, assigns_it, is_assigned, loop_uses, stays, tests, reads, expr_if, bound_step, bound_of, has_bound}
use Rattle.k_marks_meaning.specs.Loops as marks
use Rattle.k_evaluation.specs.declared.flow.Flow.{Flow}
use Rattle.k_evaluation.specs.declared.flow.Flow.TheVariants.{Continued}
use Rattle.k_evaluation.specs.States.{State, gives, held_in}
use Rattle.k_evaluation.specs.Flows.{Within, means}
use Rattle.k_evaluation.specs.Places.{is_register}
use Rattle.k_evaluation.specs.Loops.{LoopParts, loop_region}
use Rattle.k_evaluation.specs.Statements.{does}
use Rattle.k_evaluation.specs.Calls.{within, calls}
use Rattle.k_marks_laws.specs.Frames.{IsSpared}
use Rattle.k_marks_laws.specs.Turns.{TLoop, marked, parts_of, IsBeforeTest}
use Rattle.k_marks_laws.specs.Counted.{IsNotDeclared, EachNamed, HasValue, BoundIsSame}
use Rattle.k_marks_laws.proofs.Parts.{Kept, Keeps, Any, gives_kept, region_kept}
use Rattle.k_marks_laws.proofs.Rows.{CallsKeep}
use Rattle.k_marks_laws.proofs.Executed.{test_keeps, step_keeps, tested_turn_keeps}
use Rattle.k_marks_laws.proofs.Bodies.{calls_keep, does_keeps}
use Rattle.k_marks_laws.proofs.OneVariable.{uses_at, used_is}
use Rattle.k_marks_laws.proofs.Conditions.{Counts, counted_counts, both_true, not_true, neither, register_of, spared_of, undeclared_option}
use Rattle.k_marks_laws.proofs.Bounds.{each_behind, fixed_same, one_value}

-- A VARIABLE THAT ALL PARTS OF A LOOP KEEP is kept by its turns
pub kept_turns : (n : ℕ) (l : LoopParts) (before : Option ℕ) → Keeps n Any l.test → Keeps n Any l.step → Keeps n Any l.body
    → (k : ℕ) (s t : State) → IsBeforeTest l before k s t → held_in t n ≡ held_in s n
kept_turns n l before test step body zero s t is = ap (λ (u : State). held_in u n) is
kept_turns n l before test step body (suc k) s t is =
    kept_turns n l before test step body k is.0 t is.2
    ∙ (subst (Kept {A = Flow} n Any s) is.1 (tested_turn_keeps n l test step body before (gives Continued) (gives_kept n Continued) s)).0

any_front : (p : Use → Bool) (xs ys : List Use) → list_any p (xs ++ ys) ≡ false → list_any p xs ≡ false
any_front p [] ys is = refl
any_front p (x ∷ xs) ys is = let e = neither (p x) (list_any p (xs ++ ys)) is in ap (λ (b : Bool). b || list_any p xs) e.0 ∙ any_front p xs ys e.1

any_behind : (p : Use → Bool) (xs ys : List Use) → list_any p (xs ++ ys) ≡ false → list_any p ys ≡ false
any_behind p [] ys is = is
any_behind p (x ∷ xs) ys is = any_behind p xs ys (neither (p x) (list_any p (xs ++ ys)) is).1

-- what holds of each name of the test holds of each of the bound
abbrev EachBound : (ℕ → Type 0) → Option TExpr → Type 0
EachBound P None = Unit {0}
EachBound P (Some e) = EachNamed P (uses_of e)

if_each : (P : ℕ → Type 0) (e : TExpr) (b : Bool) → EachNamed P (uses_of e) → EachBound P (expr_if b e)
if_each P e true each = each
if_each P e false each = tt

bound_at : (P : ℕ → Type 0) (n : ℕ) (y : TExpr-F TExpr) → EachNamed P (uses_at y).uses → EachBound P (bound_step n y)
bound_at P n (TExpr-F.Binary node op kind left right) each = if_each P right (tests op && reads n (read_of left)) (each_behind P (uses_of left) (uses_of right) each)
bound_at P n _ each = tt

bound_each : (P : ℕ → Type 0) (n : ℕ) (test : Option TExpr) → EachNamed P (option_uses test) → EachBound P (bound_of n test)
bound_each P n None each = tt
bound_each P n (Some e) each = bound_at P n (out-TExpr e) (subst (λ (u : Used). EachNamed P u.uses) (used_is e) each)

module _ (w : Within) (calls_keep : (n : ℕ) → CallsKeep n w.calls) (l : TLoop) (before : Option ℕ) (k : ℕ) (s t : State) (turns : IsBeforeTest (parts_of w l) before k s t) where
  abbrev InScope : ℕ → Type 0
  InScope n = IsNotDeclared n (inside l.body).uses

  -- a variable that stays holds the same
  stayed : (n : ℕ) → stays w.vars (marked l) n ≡ true → InScope n → (is_register w.vars n ≡ true) × (value_in (held_in s n) ≡ value_in (held_in t n))
  stayed n is scope =
      let found = both_true (marks.is_register w.vars n) (not (is_assigned (marked l) n)) is in
      let none : list_any (assigns_it n) (loop_uses (marked l)) ≡ false = not_true (is_assigned (marked l) n) found.1 in
      let behind_start = any_behind (assigns_it n) (first_declares l.start) (option_uses l.test ++ (option_uses l.step ++ (inside l.body).uses)) none in
      let behind_test = any_behind (assigns_it n) (option_uses l.test) (option_uses l.step ++ (inside l.body).uses) behind_start in
      let test : IsSpared n (option_uses l.test) =
      spared_of n (option_uses l.test) (any_front (assigns_it n) (option_uses l.test) (option_uses l.step ++ (inside l.body).uses) behind_start) (undeclared_option n l.test) in
      let step : IsSpared n (option_uses l.step) =
      spared_of n (option_uses l.step) (any_front (assigns_it n) (option_uses l.step) (inside l.body).uses behind_test) (undeclared_option n l.step) in
      let body : IsSpared n (inside l.body).uses = spared_of n (inside l.body).uses (any_behind (assigns_it n) (option_uses l.step) (inside l.body).uses behind_test) scope in (
        register_of w.vars n found.0,
        sym (ap (λ (slot : Option Held). value_in slot) (kept_turns n (parts_of w l) before (test_keeps n w (calls_keep n) l.spot.place l.test test) (step_keeps n w (calls_keep n) l.step step)
            (region_kept n (loop_region w.function l.number + 1) (does w l.body).does (does_keeps n w (calls_keep n) l.body body)) k s t turns)),
      )

  same_bound : (b : Option TExpr) (x y : Value) → has_bound w.vars (marked l) b ≡ true → EachBound InScope b → HasValue w b s x → HasValue w b t y → x ≡ y
  same_bound None x y is each one two = absurd one
  same_bound (Some e) x y is each one two =
      one_value s.vars t.vars ((means w e).value true (record s { world = one.0 })) ((means w e).value true (record t { world = two.0 })) one.1 two.1 one.2 two.2 x y
      (fixed_same w.program w.vars w.calls s.vars t.vars (stays w.vars (marked l)) InScope stayed e is each true (record s { world = one.0 }) (record t { world = two.0 }) refl refl)
      one.3 two.3 one.4 two.4

pub bound_is_same : BoundIsSame
bound_is_same program depth number f l i kind is step typed before k s t x y turns one two =
    let w : Within = within program (calls depth program) number f in
    let c : Counts f.variables (marked l) i = counted_counts f.variables (marked l) i is step in
    same_bound w (λ n. calls_keep n program depth) l before k s t turns (bound_of i.variable l.test) x y c.bound
    (bound_each (λ n. IsNotDeclared n (inside l.body).uses) i.variable l.test typed.scopes) one two
