-- THE BOUND of a counted loop has the same value at every test.
use Rattle.std.proofs.Common.{◌≡◌, ℕ, List, [], ◌∷◌, ◌++◌, Option, Some, Bool, true, ◌&&◌, sym, ◌∙◌, ap, subst, slice_get}
use Rattle.k_types_meaning.specs.declared.tree.expression.TExpr.{TExpr, fold-roll-TExpr, ind-TExpr, map-TExpr, roll-TExpr}
use Rattle.k_types_meaning.specs.declared.tree.expression.TExpr.TheOpen.{TExpr-F}
use Rattle.k_types_meaning.specs.declared.tree.unit.TVariable.{TVariable}
use Rattle.k_world.specs.declared.value.Held.{Held}
use Rattle.k_world.specs.declared.value.Value.{Value}
use Rattle.k_world.specs.Operands.{value_in}
use Rattle.k_marks_meaning.specs.declared.uses.Use.{Use}
use Rattle.k_marks_meaning.specs.declared.uses.Use.TheVariants.{Names, Assigns, Declares, Reduces}
use Rattle.k_marks_meaning.specs.Uses.{Used, used, uses_step, uses_of}
use Rattle.k_marks_meaning.specs.Loops.{fixed_step, is_fixed}
use Rattle.k_evaluation.specs.declared.operand.Operand.{Operand}
use Rattle.k_evaluation.specs.States.{Program, State, Outcome, Goes, held_by, read}
use Rattle.k_evaluation.specs.Meanings.{Meaning}
use Rattle.k_evaluation.specs.Places.{is_register}
use Rattle.k_evaluation.specs.Expressions.{Calls, eval_step, eval}
use Rattle.k_marks_laws.specs.Counted.{EachNamed}
use Rattle.k_marks_laws.proofs.Values.{value_by, read_value}
use Rattle.k_marks_laws.proofs.Stepped.{in_some}
use Rattle.k_marks_laws.proofs.Conditions.{both_true}
use Rattle.k_marks_laws.proofs.Twice.{TwoAt, SameOperand, SameMeaning, same_number, same_variable, same_plus, same_unary, same_convert, same_cast, same_binary, same_both, same_either, same_cond, same_comma}

-- what holds of each name in two texts holds in each
pub each_front : (P : ℕ → Type 0) (xs ys : List Use) → EachNamed P (xs ++ ys) → EachNamed P xs
each_front P [] ys h = tt
each_front P (Names m ∷ xs) ys h = (h.0, each_front P xs ys h.1)
each_front P (Assigns m ∷ xs) ys h = each_front P xs ys h
each_front P (Declares m ∷ xs) ys h = each_front P xs ys h
each_front P (Reduces r ∷ xs) ys h = each_front P xs ys h

pub each_behind : (P : ℕ → Type 0) (xs ys : List Use) → EachNamed P (xs ++ ys) → EachNamed P ys
each_behind P [] ys h = h
each_behind P (Names m ∷ xs) ys h = each_behind P xs ys h.1
each_behind P (Assigns m ∷ xs) ys h = each_behind P xs ys h
each_behind P (Declares m ∷ xs) ys h = each_behind P xs ys h
each_behind P (Reduces r ∷ xs) ys h = each_behind P xs ys h

module _ (program : Program) (vars : List TVariable) (calls : Calls) (us vs : List (Option Held)) (fixed : ℕ → Bool) (P : ℕ → Type 0)
    (same : (n : ℕ) → fixed n ≡ true → P n → (is_register vars n ≡ true) × (value_in (held_by (slice_get us n)) ≡ value_in (held_by (slice_get vs n)))) where
  abbrev meaning : TExpr → Meaning
  meaning = eval program vars calls

  abbrev step : TExpr-F Meaning → Meaning
  step = eval_step program vars calls

  -- an expression that is fixed, which names this and means that, comes to the same
  abbrev IsSame : Bool → Used → Meaning → Type 0
  IsSame b u m = b ≡ true → EachNamed P u.uses → SameMeaning us vs program m

  abbrev OfExpr : TExpr → Type 0
  OfExpr e = IsSame (is_fixed fixed e) (used e) (meaning e)

  abbrev At : TExpr-F TExpr → Type 0
  At z = IsSame (fixed_step fixed (map-TExpr TExpr Bool (is_fixed fixed) z)) (uses_step (map-TExpr TExpr Used used z)) (step (map-TExpr TExpr Meaning meaning z))

  -- two operands
  module _ (a b : TExpr) (one : OfExpr a) (two : OfExpr b) (is : (is_fixed fixed a && is_fixed fixed b) ≡ true) (each : EachNamed P (uses_of a ++ uses_of b)) where
    left : SameMeaning us vs program (meaning a)
    left = one (both_true (is_fixed fixed a) (is_fixed fixed b) is).0 (each_front P (uses_of a) (uses_of b) each)

    right : SameMeaning us vs program (meaning b)
    right = two (both_true (is_fixed fixed a) (is_fixed fixed b) is).1 (each_behind P (uses_of a) (uses_of b) each)

  by : (y : TExpr-F ((e : TExpr) × OfExpr e)) → At (map-TExpr _ TExpr (λ (x : (e : TExpr) × OfExpr e). x.0) y)
  by (TExpr-F.Number node z) is each = same_number us vs program node z
  by (TExpr-F.Variable node n) is each = let h = same n is each.0 in same_variable us vs program vars node n h.0 h.1
  by (TExpr-F.Plus node a) is each = same_plus us vs program node (meaning a.0) (a.1 is each)
  by (TExpr-F.Unary node op kind a) is each = same_unary us vs program node op kind (meaning a.0) (a.1 is each)
  by (TExpr-F.Convert node a) is each = same_convert us vs program node (meaning a.0) (a.1 is each)
  by (TExpr-F.Cast node a) is each = same_cast us vs program node (meaning a.0) (a.1 is each)
  by (TExpr-F.Binary node op kind a b) is each =
      same_binary us vs program node op kind (meaning a.0) (meaning b.0) (left a.0 b.0 a.1 b.1 is each) (right a.0 b.0 a.1 b.1 is each)
  by (TExpr-F.Both node a b) is each = same_both us vs program node (meaning a.0) (meaning b.0) (left a.0 b.0 a.1 b.1 is each) (right a.0 b.0 a.1 b.1 is each)
  by (TExpr-F.Either node a b) is each = same_either us vs program node (meaning a.0) (meaning b.0) (left a.0 b.0 a.1 b.1 is each) (right a.0 b.0 a.1 b.1 is each)
  by (TExpr-F.Cond node a b c) is each =
      let first = both_true (is_fixed fixed a.0) (is_fixed fixed b.0 && is_fixed fixed c.0) is in
      let rest : EachNamed P (uses_of b.0 ++ uses_of c.0) = each_behind P (uses_of a.0) (uses_of b.0 ++ uses_of c.0) each in
      same_cond us vs program node (meaning a.0) (meaning b.0) (meaning c.0) (a.1 first.0 (each_front P (uses_of a.0) (uses_of b.0 ++ uses_of c.0) each))
      (left b.0 c.0 b.1 c.1 first.1 rest) (right b.0 c.0 b.1 c.1 first.1 rest)
  by (TExpr-F.Comma node a b) is each = same_comma us vs program node (meaning a.0) (meaning b.0) (left a.0 b.0 a.1 b.1 is each) (right a.0 b.0 a.1 b.1 is each)
  by _ is each = absurd cc

  pub fixed_same : (e : TExpr) → OfExpr e
  fixed_same =
      ind-TExpr OfExpr
      (λ x y is.
      subst (λ (b : Bool). IsSame b (used (roll-TExpr x)) (meaning (roll-TExpr x))) (sym (fold-roll-TExpr Bool (fixed_step fixed) x))
      (subst (λ (u : Used). IsSame (fixed_step fixed (map-TExpr TExpr Bool (is_fixed fixed) x)) u (meaning (roll-TExpr x))) (sym (fold-roll-TExpr Used uses_step x))
      (subst (IsSame (fixed_step fixed (map-TExpr TExpr Bool (is_fixed fixed) x)) (uses_step (map-TExpr TExpr Used used x))) (sym (fold-roll-TExpr Meaning step x))
      (subst At is (by y)))))

-- the values that two runs gave
pub two_values : (us vs : List (Option Held)) (o r : Outcome Operand) (a b : Operand) (s t : State) → TwoAt us vs (SameOperand us vs) o r → o ≡ Goes a s → r ≡ Goes b t
    → (s.vars ≡ us) × (t.vars ≡ vs) × (value_by us a ≡ value_by vs b)
two_values us vs o r a b s t h is also =
    subst (λ (q : Outcome Operand). TwoAt us vs (SameOperand us vs) (Goes a s) q) also (subst (λ (q : Outcome Operand). TwoAt us vs (SameOperand us vs) q r) is h)

-- what an operand holds behind a part that left the variables as they were
held_value : (ws : List (Option Held)) (s : State) (a : Operand) (x : Value) → s.vars ≡ ws → value_in (read s a).slot ≡ Some x → value_by ws a ≡ Some x
held_value ws s a x same is = ap (λ (vars : List (Option Held)). value_by vars a) (sym same) ∙ (sym (read_value s a) ∙ is)

pub one_value : (us vs : List (Option Held)) (o r : Outcome Operand) (a b : Operand) (s t : State) (x y : Value) → TwoAt us vs (SameOperand us vs) o r
    → o ≡ Goes a s → r ≡ Goes b t → value_in (read s a).slot ≡ Some x → value_in (read t b).slot ≡ Some y → x ≡ y
one_value us vs o r a b s t x y h is also gave gave_too =
    let both = two_values us vs o r a b s t h is also in
    in_some x y (sym (held_value us s a x both.0 gave) ∙ (both.2 ∙ held_value vs t b y both.1 gave_too))
