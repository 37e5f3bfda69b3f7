-- INDUCTION: each test of a counted loop is one on its variable and its bound.
use Rattle.std.proofs.Common.{◌≡◌, ℕ, ℤ, List, [], ◌∷◌, Option, Some, None, Ok, Bool, true, false, ◌&&◌, not, refl, sym, ◌∙◌, ap, subst}
use Rattle.k_num.specs.declared.place.Place.{Place}
use Rattle.k_num.specs.declared.numbers.Bin.{Bin}
use Rattle.k_num.specs.declared.numbers.Kind.{Kind}
use Rattle.k_num.specs.Arithmetic.{value, is_zero}
use Rattle.k_num.specs.Kind.{converted}
use Rattle.k_types_meaning.specs.declared.tree.expression.Node.{Node}
use Rattle.k_types_meaning.specs.declared.tree.expression.TExpr.{TExpr, out-TExpr}
use Rattle.k_types_meaning.specs.declared.tree.expression.TExpr.TheOpen.{TExpr-F}
use Rattle.k_types_meaning.specs.declared.tree.unit.TVariable.{TVariable}
use Rattle.k_world.specs.declared.value.Held.{Held}
use Rattle.k_world.specs.declared.value.Value.TheVariants.{Number}
use Rattle.k_world.specs.Operands.{value_in}
use Rattle.k_marks_meaning.specs.declared.uses.Use.{Use}
use Rattle.k_marks_meaning.specs.declared.uses.Use.TheVariants.{Names, Assigns, Declares, Reduces}
use Rattle.k_marks_meaning.specs.Uses.{uses_of}
use Rattle.k_marks_meaning.specs.Reductions.{read_of}
use Rattle.k_marks_meaning.specs.Loops.{Loop, stays, is_assigned, is_fixed, tests, reads, expr_if, bound_step, bound_of, has_bound}
use Rattle.k_marks_meaning.specs.Loops as marks
use Rattle.k_evaluation.specs.declared.operand.Operand.{Operand}
use Rattle.k_evaluation.specs.States.{State, Outcome, Goes, Stops, Part, ◌>>=◌, read, settles}
use Rattle.k_evaluation.specs.Flows.{Within, means}
use Rattle.k_evaluation.specs.Meanings.{Meaning, holds, behind_one}
use Rattle.k_evaluation.specs.Meanings as meanings
use Rattle.k_evaluation.specs.Operators.{binary, binary_on}
use Rattle.k_evaluation.specs.Loops.{starts, test_or_one}
use Rattle.k_evaluation.specs.Places.{is_register}
use Rattle.k_evaluation.specs.Calls.{within, calls}
use Rattle.k_marks_laws.specs.Turns.{marked, parts_of, HoldsNumber}
use Rattle.k_marks_laws.specs.Counted.{IsTypedTestAt, IsTypedTest, EachNamed, HasValue}
use Rattle.k_marks_laws.specs.Ended.{is_met, compared_at, compared, TestsAreOnBoth}
use Rattle.k_marks_laws.proofs.Values.{value_by}
use Rattle.k_marks_laws.proofs.Stepped.{meaning_at, meaning_is}
use Rattle.k_marks_laws.proofs.Conditions.{Counts, counted_counts, both_true, register_of}
use Rattle.k_marks_laws.proofs.Bounds.{fixed_same, two_values}
use Rattle.k_marks_laws.proofs.Tested.{At, follow_at, at_goes, computed_is, left_computes, compares_number, tests_number}

-- whatever is named
abbrev AnyName : ℕ → Type 0
AnyName n = Unit {0}

any_named : (us : List Use) → EachNamed AnyName us
any_named [] = tt
any_named (Names m ∷ us) = (tt, any_named us)
any_named (Assigns m ∷ us) = any_named us
any_named (Declares m ∷ us) = any_named us
any_named (Reduces r ∷ us) = any_named us

-- a state whose variables hold what those of another hold is that one in another world
same_state : (s t : State) → t.vars ≡ s.vars → t ≡ record s { world = t.world }
same_state s t same = ap (λ (vars : List (Option Held)). record t { vars = vars }) same

-- an expression is there only where a test holds
if_there : (vs : List TVariable) (l : Loop) (b : Bool) (e : TExpr) → has_bound vs l (expr_if b e) ≡ true → (b ≡ true) × (is_fixed (stays vs l) e ≡ true)
if_there vs l true e is = (refl, is)
if_there vs l false e is = absurd cc

module _ (w : Within) (l : Loop) (n : ℕ) (s : State) (x : ℤ) (register : is_register w.vars n ≡ true) (there : HoldsNumber s n x) where
  -- the bound, where it is evaluated, leaves the variables
  fixed_leaves : (e : TExpr) → is_fixed (stays w.vars l) e ≡ true → (t u : State) (b : Operand) → t.vars ≡ s.vars → (means w e).value true t ≡ Goes b u → u.vars ≡ s.vars
  fixed_leaves e is t u b same gave =
      (two_values s.vars s.vars ((means w e).value true t) ((means w e).value true t) b b u u
      (fixed_same w.program w.vars w.calls s.vars s.vars (stays w.vars l) AnyName
      (λ m stays p. (register_of w.vars m (both_true (marks.is_register w.vars m) (not (is_assigned l m)) stays).0, refl)) e is (any_named (uses_of e)) true t t same same)
      gave gave).0

  -- what a test finds: the bound has a value, and the test is one on both
  abbrev Finds : Option TExpr → (ℤ → Bool) → Held → State → Type 0
  Finds bound test held t = (y : ℤ) × HasValue w bound s (Number y) × (holds held ≡ test y)

  -- the comparison of a variable with an expression that is fixed
  module _ (node : Node) (op : Bin) (wide : Kind) (left right : TExpr) (tested : tests op ≡ true) (is : reads n (read_of left) ≡ true) (fixed : is_fixed (stays w.vars l) right ≡ true)
      (typed : IsTypedTestAt (TExpr-F.Binary node op wide left right)) where
    -- what the comparison gives: the bound has a value, and this is the number
    abbrev Gave : Operand → State → Type 0
    Gave c t = (y : ℤ) × HasValue w (Some right) s (Number y) × (found : ℤ) × (value_by t.vars c ≡ Some (Number found))
        × (value op wide (converted wide x) (converted wide y) ≡ Ok found)

    behind_right : (a b : Operand) (t u : State) (z : ℤ) → t.vars ≡ s.vars → u.vars ≡ s.vars → value_by s.vars a ≡ Some (Number z) → converted wide z ≡ converted wide x
        → (means w right).value true t ≡ Goes b u → At Gave (binary_on w.program node.place op wide a b u)
    behind_right a b t u z same also gave like at_right =
        weaker (binary_on w.program node.place op wide a b u)
        (compares_number w.program node.place op wide u a b z tested (subst (λ (vars : List (Option Held)). value_by vars a ≡ Some (Number z)) (sym also) gave))
      where
        here : (means w right).value true (record s { world = t.world }) ≡ Goes b u
        here = subst (λ (q : State). (means w right).value true q ≡ Goes b u) (same_state s t same) at_right

        weaker : (o : Outcome Operand) → At (λ c v. (y : ℤ) × (found : ℤ) × (value_in (read u b).slot ≡ Some (Number y)) × (value_by v.vars c ≡ Some (Number found))
            × (value op wide (converted wide z) (converted wide y) ≡ Ok found)) o → At Gave o
        weaker (Goes c v) h =
            (h.0, (t.world, b, u, here, h.2), h.1, h.3, ap (λ (k : ℤ). value op wide k (converted wide h.0)) (sym like) ∙ h.4)
        weaker (Stops end v) h = tt

    abbrev compares : Part Operand
    compares = (binary w.program node op wide (means w left) (means w right)).value true

    compares_both : (t : State) → t.vars ≡ s.vars → At Gave (compares t)
    unfolding binary
    compares_both t same =
        follow_at Gave ((means w left).value true t) (behind_one (means w right) (binary_on w.program node.place op wide)) (λ a u at_left.
        let first = computed_is s.vars (λ z. converted wide z ≡ converted wide x) ((means w left).value true t) a u
        (left_computes w.program w.vars w.calls s.vars n x register there wide left is typed t same) at_left in
        follow_at Gave ((means w right).value true u) (binary_on w.program node.place op wide a) (λ b v at_right.
        behind_right a b u v first.1 first.0 (fixed_leaves right fixed u v b first.0 at_right) first.2 first.3 at_right))

    -- the whole test
    abbrev test : ℤ → Bool
    test y = is_met (value op wide (converted wide x) (converted wide y))

    module _ (place : Place) (t : State) (same : t.vars ≡ s.vars) where
      tested_both : (c : Operand) (u : State) → compares t ≡ Goes c u → At (Finds (Some right) test) (meanings.tests w.program place c u)
      tested_both c u at_it = weaker (meanings.tests w.program place c u) (tests_number w.program place u c gave.2 gave.3)
        where
          gave : Gave c u
          gave = at_goes Gave (compares t) c u (compares_both t same) at_it

          weaker : (o : Outcome Held) → At (λ held v. holds held ≡ not (is_zero gave.2)) o → At (Finds (Some right) test) o
          weaker (Goes held v) h = (gave.0, gave.1, h ∙ sym (ap is_met gave.4))
          weaker (Stops end v) h = tt

      compared_tests : At (Finds (Some right) test) ((compares >>= meanings.tests w.program place) t)
      compared_tests = follow_at (Finds (Some right) test) (compares t) (meanings.tests w.program place) tested_both

  -- the test, by the shape of its expression
  module _ (place : Place) (t : State) (same : t.vars ≡ s.vars) where
    test_at : (y : TExpr-F TExpr) → has_bound w.vars l (bound_step n y) ≡ true → IsTypedTestAt y
        → At (Finds (bound_step n y) (compared_at y x)) (((meaning_at w.program w.vars w.calls y).value true >>= meanings.tests w.program place) t)
    test_at (TExpr-F.Binary node op wide left right) is typed =
        let found = if_there w.vars l (tests op && reads n (read_of left)) right is in
        let both = both_true (tests op) (reads n (read_of left)) found.0 in
        subst (λ (b : Bool). At (Finds (expr_if b right) (compared_at (TExpr-F.Binary node op wide left right) x))
        (((meaning_at w.program w.vars w.calls (TExpr-F.Binary node op wide left right)).value true >>= meanings.tests w.program place) t)) (sym found.0)
        (compared_tests node op wide left right both.0 both.1 found.1 typed place t same)
    test_at _ is typed = absurd cc

    test_of : (test : Option TExpr) → has_bound w.vars l (bound_of n test) ≡ true → IsTypedTest test → At (Finds (bound_of n test) (compared test x)) (test_or_one w place test t)
    test_of None is typed = absurd cc
    test_of (Some e) is typed =
        subst (λ (m : Meaning). At (Finds (bound_of n (Some e)) (compared (Some e) x)) ((m.value true >>= meanings.tests w.program place) t))
        (sym (meaning_is w.program w.vars w.calls e)) (test_at (out-TExpr e) is typed)

-- what holds of a part whatever the control source before it
settled_at : {A : Type 0} (Q : A → State → Type 0) (part : Part A) (stays : Bool) (before : Option ℕ) (s : State) → ((t : State) → t.vars ≡ s.vars → At Q (part t))
    → At Q ((settles stays before >>= λ ready. part) s)
settled_at Q part true before s each = each s refl
settled_at Q part false before s each = each (record s { world = record s.world { control = before } }) refl

pub tests_are_on_both : TestsAreOnBoth
tests_are_on_both program depth number f l i kind is step typed before s t x test there made =
    let w : Within = within program (calls depth program) number f in
    let c : Counts f.variables (marked l) i = counted_counts f.variables (marked l) i is step in
    at_goes (Finds w (marked l) i.variable s x (register_of f.variables i.variable c.register) there (bound_of i.variable l.test) (compared l.test x))
    (starts (parts_of w l) before (parts_of w l).test s) test t
    (settled_at (Finds w (marked l) i.variable s x (register_of f.variables i.variable c.register) there (bound_of i.variable l.test) (compared l.test x)) (parts_of w l).test
    (not (parts_of w l).counted) before s
    (λ u same. test_of w (marked l) i.variable s x (register_of f.variables i.variable c.register) there l.spot.place u same l.test c.bound typed.test)) made
