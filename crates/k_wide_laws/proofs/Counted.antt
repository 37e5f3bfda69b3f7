-- A loop that *Marks* counts is counted in Wide, and steps the variable that its step changes.
use Rattle.std.proofs.Common.{◌≡◌, ℕ, zero, suc, ◌+◌, Bool, true, false, not, List, [], ◌∷◌, ◌++◌, map, Option, Some, None, refl, sym, ◌∙◌, ap, subst, true≢false, arith}
use Rattle.std.specs.Prelude.{nat_eq, ◌&&◌, ◌||◌, cond, count_by, filter, if◌then◌else◌}
use Rattle.std.specs.List.{list_all, list_any, sum_by}
use Rattle.std.proofs.lemmas.Bool.{eq-eqb, eqb-true}
use Rattle.std.proofs.lemmas.List.Sums.{sum_by-append, sum_by-cons}
use Rattle.k_types_meaning.specs.declared.tree.expression.TExpr.{TExpr, fold_out-TExpr, fold-roll-TExpr, ind-TExpr, map-TExpr, out-TExpr}
use Rattle.k_types_meaning.specs.declared.tree.expression.TExpr.TheOpen.{TExpr-F}
use Rattle.k_types_meaning.specs.declared.tree.unit.TVariable.{TVariable}
use Rattle.k_marks_meaning.specs.declared.jumps.Jumps.{Jumps}
use Rattle.k_marks_meaning.specs.declared.uses.Read.{Read}
use Rattle.k_marks_meaning.specs.declared.uses.Use.{Use}
use Rattle.k_marks_meaning.specs.declared.uses.Use.TheVariants as stated
use Rattle.k_marks_meaning.specs.Uses.{Used, uses_step, uses_of, option_uses, first_declares}
use Rattle.k_marks_meaning.specs.Reductions.{variable_step, variable_of, read_step, read_of, unconverted_step, unconverted}
use Rattle.k_marks_meaning.specs.Loops.{Loop, loop_uses, is_register, assigns_it, is_assigned, stays, adds, nonzero_step, is_nonzero, read_if, counter_step, counter_of, tests, reads, expr_if, bound_step, bound_of, fixed_step, is_fixed, has_bound}
use Rattle.k_marks_meaning.specs.Contents.{inside}
use Rattle.k_wide_meaning.specs.declared.occurrences.Scalar.{Scalar}
use Rattle.k_wide_meaning.specs.declared.occurrences.Scalar.TheVariants.{Variable, Object}
use Rattle.k_wide_meaning.specs.declared.occurrences.Reducing.{Reducing}
use Rattle.k_wide_meaning.specs.declared.occurrences.Occurrence.{Occurrence}
use Rattle.k_wide_meaning.specs.declared.occurrences.Occurrence.TheVariants as occurs
use Rattle.k_wide_meaning.specs.Occurrences.{Occurring, occurring, occurs_step, scalar, target, occurs_in, option_occurs, same_scalar}
use Rattle.k_wide_meaning.specs.Contents.{WideLoop, seen}
use Rattle.k_wide_meaning.specs.Steps.{Step, step_if, step_in, step_of, listed, split, commas, operands, all_listed, steps_in_step, unit_step, compares, compared_step, step_in_test, beside_step, either_step, is_there, beside_compared}
use Rattle.k_wide_meaning.specs.Loops as wide
use Rattle.k_wide_meaning.specs.Loops.{Around, text_of, reach_of, built_step, is_built, first_sort, second_sort, third_sort, steps_alone, stepped, is_stepped, steers, is_own_step, is_steered, is_one, is_tested_first}
use Rattle.k_marks_laws.specs.Turns.{TLoop, marked}
use Rattle.k_marks_laws.specs.Counted.{IsNotDeclared, EachNamed}
use Rattle.k_marks_laws.proofs.Conditions.{Counts, undeclared_option, test_named, neither, not_true}
use Rattle.k_wide_laws.proofs.Kept.{Compatible, both_true, and_both, both_all, option_kept}
use Rattle.k_wide_laws.proofs.Forms.{uses_at, used_is}
use Rattle.k_wide_laws.proofs.Statements.{statement_kept}
use Rattle.k_wide_laws.proofs.Like.{IsLike}

-- WHAT LEAVES A VARIABLE, assigns and declares it not
abbrev sets : ℕ → Use → Bool
sets n (stated.Names m) = false
sets n (stated.Assigns m) = nat_eq m n
sets n (stated.Declares m) = nat_eq m n
sets n (stated.Reduces r) = nat_eq r.variable n

abbrev pub leaves : ℕ → Use → Bool
leaves n u = not (sets n u)

abbrev pub leaves_in_wide : ℕ → Occurrence → Bool
leaves_in_wide n o = not (wide.assigns_it (Variable n) o)

left_by : (n m : ℕ) (r : Reducing) → r.scalar ≡ Variable m → not (nat_eq m n) ≡ true → leaves_in_wide n (occurs.Reduces r) ≡ true
left_by n m r is h = subst (λ (s : Scalar). not (same_scalar s (Variable n)) ≡ true) (sym is) h

object_left : (n m : ℕ) (r : Reducing) → r.scalar ≡ Object m → leaves_in_wide n (occurs.Reduces r) ≡ true
object_left n m r is = subst (λ (s : Scalar). not (same_scalar s (Variable n)) ≡ true) (sym is) refl

pub leaving : (n : ℕ) → Compatible (leaves n) (leaves_in_wide n)
leaving n = record {
  names = λ m h. refl;
  assigns = λ m h. h;
  declares = λ m h. h;
  reduces = λ r h. h;
  by_assign = λ r m is h. left_by n m r is h;
  by_both = λ r s is names h. left_by n s.variable r is h;
  object_named = λ m. refl;
  object_assigned = λ m. refl;
  object_reduced = λ r m is. object_left n m r is;
  addressed = λ m. refl;
  called = λ m. refl;
}

-- what neither assigns nor declares a variable leaves it
left_alone : (n : ℕ) (us : List Use) → list_any (assigns_it n) us ≡ false → IsNotDeclared n us → list_all (leaves n) us ≡ true
left_alone n [] is h = refl
left_alone n (stated.Names m ∷ us) is h = left_alone n us is h
left_alone n (stated.Assigns m ∷ us) is h =
    let e = neither (nat_eq m n) (list_any (assigns_it n) us) is in and_both (not (nat_eq m n)) (list_all (leaves n) us) (ap not e.0) (left_alone n us e.1 h)
left_alone n (stated.Declares m ∷ us) is h = and_both (not (nat_eq m n)) (list_all (leaves n) us) (ap not h.0) (left_alone n us is h.1)
left_alone n (stated.Reduces r ∷ us) is h =
    let e = neither (nat_eq r.variable n) (list_any (assigns_it n) us) is in and_both (not (nat_eq r.variable n)) (list_all (leaves n) us) (ap not e.0) (left_alone n us e.1 h)

-- so nothing assigns it
none_of : {A : Type 0} (f : A → Bool) (xs : List A) → list_all (λ x. not (f x)) xs ≡ true → list_any f xs ≡ false
none_of f [] h = refl
none_of f (x ∷ xs) h = by (f x) (none_of f xs) h
  where
    by : (b : Bool) → (list_all (λ y. not (f y)) xs ≡ true → list_any f xs ≡ false) → (not b && list_all (λ y. not (f y)) xs) ≡ true → (b || list_any f xs) ≡ false
    by true rest k = absurd (true≢false (sym k))
    by false rest k = rest k

none_counted : {A : Type 0} (f : A → Bool) (xs : List A) → list_all (λ x. not (f x)) xs ≡ true → count_by f xs ≡ 0
none_counted f [] h = refl
none_counted f (x ∷ xs) h = sum_by-cons (λ y. cond (f y) 1 0) x xs ∙ by (f x) (none_counted f xs) h
  where
    by : (b : Bool) → (list_all (λ y. not (f y)) xs ≡ true → count_by f xs ≡ 0) → (not b && list_all (λ y. not (f y)) xs) ≡ true → cond b 1 0 + count_by f xs ≡ 0
    by true rest k = absurd (true≢false (sym k))
    by false rest k = let e : count_by f xs ≡ 0 = rest k in omega (arith, e)

-- THE STEP: it is one of the first sort, by a number, and assigns its variable once
occurring_is : (e : TExpr) → occurring e ≡ occurs_step (map-TExpr TExpr Occurring occurring (out-TExpr e))
occurring_is e = fold_out-TExpr Occurring occurs_step e

variable_at : (z : TExpr-F TExpr) (i : Read) → variable_step z ≡ Some i → occurs_step (map-TExpr TExpr Occurring occurring z) ≡ scalar (Variable i.variable)
variable_at (TExpr-F.Variable node n) i h = ap (λ (r : Option Read). scalar (Variable (number r))) h
  where
    number : Option Read → ℕ
    number None = 0
    number (Some r) = r.variable
variable_at _ i h = absurd cc

variable_occurs : (e : TExpr) (i : Read) → variable_of e ≡ Some i → occurring e ≡ scalar (Variable i.variable)
variable_occurs e i h = occurring_is e ∙ variable_at (out-TExpr e) i h

number_at : (z : TExpr-F TExpr) → nonzero_step z ≡ true → (occurs_step (map-TExpr TExpr Occurring occurring z)).all ≡ []
number_at (TExpr-F.Number node value) h = refl
number_at _ h = absurd cc

number_fixed_at : (like : Scalar → Bool) (z : TExpr-F TExpr) → nonzero_step z ≡ true → built_step like (map-TExpr TExpr Bool (is_built like) z) ≡ true
number_fixed_at like (TExpr-F.Number node value) h = refl
number_fixed_at like _ h = absurd cc

number_fixed : (like : Scalar → Bool) (e : TExpr) → is_nonzero e ≡ true → is_built like e ≡ true
number_fixed like e h = fold_out-TExpr Bool (built_step like) e ∙ number_fixed_at like (out-TExpr e) h

once : (n : ℕ) → count_by (wide.assigns_it (Variable n)) (occurs.Assigns (Variable n) ∷ occurs.Names (Variable n) ∷ []) ≡ 1
once n =
    sum_by-cons (λ o. cond (wide.assigns_it (Variable n) o) 1 0) (occurs.Assigns (Variable n)) (occurs.Names (Variable n) ∷ [])
    ∙ ap (λ b. cond b 1 0 + 0) (eq-eqb n n refl)

-- what the step of a counted loop comes to
pub record Steps (around : Around) (w : WideLoop) (i : Read) (e : TExpr) : Type 0 where
  pub step : Step
  pub is_step : step_of e ≡ Some step
  pub of : step.v ≡ i
  pub fixed : wide.is_fixed around w step.d ≡ true
  pub alone : count_by (wide.assigns_it (Variable i.variable)) (occurs_in e) ≡ 1
  pub no_comma : (k : ℕ) → operands k e ≡ e ∷ []

read_there : (b : Bool) (e : TExpr) (i : Read) → read_if b e ≡ Some i → (b ≡ true) × (variable_of e ≡ Some i)
read_there true e i is = (refl, is)
read_there false e i is = absurd cc

step_found : (b : Bool) (d : Option TExpr) (v : Option Read) (i : Read) → b ≡ true → v ≡ Some i → step_if b d v ≡ Some (record { v = i; d = d })
step_found true d None i is h = absurd cc
step_found true d (Some v) i is h = ap (λ (r : Option Read). step_if true d r) h
step_found false d v i is h = absurd (true≢false (sym is))

split_at : (parts : TExpr → List TExpr) (e : TExpr) (z : TExpr-F TExpr) (i : Read) → counter_step z ≡ Some i → split parts e z ≡ e ∷ []
split_at parts e (TExpr-F.Comma node a b) i h = absurd cc
split_at parts e _ i h = refl

operands_alone : (e : TExpr) (i : Read) → counter_of e ≡ Some i → (k : ℕ) → operands k e ≡ e ∷ []
unfolding operands
operands_alone e i h zero = refl
operands_alone e i h (suc k) = split_at (operands k) e (out-TExpr e) i h

-- one of the parts of a list
any_parts : {A : Type 0} (f : A → Bool) (xs ys : List A) → list_any f (xs ++ ys) ≡ false → (list_any f xs ≡ false) × (list_any f ys ≡ false)
any_parts f [] ys h = (refl, h)
any_parts f (x ∷ xs) ys h =
    let front = neither (f x) (list_any f (xs ++ ys)) h in
    let rest = any_parts f xs ys front.1 in
    (ap (λ b. b || list_any f xs) front.0 ∙ rest.0, rest.1)

each_both : (P : ℕ → Type 0) (xs ys : List Use) → EachNamed P (xs ++ ys) → EachNamed P xs × EachNamed P ys
each_both P [] ys h = (tt, h)
each_both P (stated.Names n ∷ xs) ys h = let rest = each_both P xs ys h.1 in ((h.0, rest.0), rest.1)
each_both P (stated.Assigns n ∷ xs) ys h = each_both P xs ys h
each_both P (stated.Declares n ∷ xs) ys h = each_both P xs ys h
each_both P (stated.Reduces r ∷ xs) ys h = each_both P xs ys h

filter_head : {A : Type 0} (f : A → Bool) (x : A) (xs : List A) → f x ≡ true → filter f (x ∷ xs) ≡ x ∷ filter f xs
filter_head f x xs h = ap (λ b. if b then x ∷ filter f xs else filter f xs) h

-- A BOUND is built in Wide where *Marks* says that it is fixed
module _ (fixed : ℕ → Bool) (like : Scalar → Bool) (P : ℕ → Type 0) (leaf : (n : ℕ) → fixed n ≡ true → P n → like (Variable n) ≡ true) where
  abbrev IsBuilt : TExpr → Type 0
  IsBuilt e = is_fixed fixed e ≡ true → EachNamed P (uses_of e) → is_built like e ≡ true

  abbrev BuiltLayer : TExpr-F TExpr → Type 0
  BuiltLayer z = fixed_step fixed (map-TExpr TExpr Bool (is_fixed fixed) z) ≡ true → EachNamed P (uses_at z).uses → built_step like (map-TExpr TExpr Bool (is_built like) z) ≡ true

  two_built : (a b : TExpr) → IsBuilt a → IsBuilt b → (is_fixed fixed a && is_fixed fixed b) ≡ true → EachNamed P (uses_of a ++ uses_of b) → (is_built like a && is_built like b) ≡ true
  two_built a b f g h each =
      let parts = both_true (is_fixed fixed a) (is_fixed fixed b) h in
      let named = each_both P (uses_of a) (uses_of b) each in
      and_both (is_built like a) (is_built like b) (f parts.0 named.0) (g parts.1 named.1)

  built_layer : (y : TExpr-F ((e : TExpr) × IsBuilt e)) → BuiltLayer (map-TExpr _ TExpr (λ (x : (e : TExpr) × IsBuilt e). x.0) y)
  built_layer (TExpr-F.Number node z) h each = refl
  built_layer (TExpr-F.Variable node n) h each = leaf n h each.0
  built_layer (TExpr-F.Plus node a) h each = a.1 h each
  built_layer (TExpr-F.Unary node op kind a) h each = a.1 h each
  built_layer (TExpr-F.Convert node a) h each = a.1 h each
  built_layer (TExpr-F.Cast node a) h each = a.1 h each
  built_layer (TExpr-F.Binary node op kind a b) h each = two_built a.0 b.0 a.1 b.1 h each
  built_layer (TExpr-F.Both node a b) h each = two_built a.0 b.0 a.1 b.1 h each
  built_layer (TExpr-F.Either node a b) h each = two_built a.0 b.0 a.1 b.1 h each
  built_layer (TExpr-F.Comma node a b) h each = two_built a.0 b.0 a.1 b.1 h each
  built_layer (TExpr-F.Cond node a b d) h each =
      let parts = both_true (is_fixed fixed a.0) (is_fixed fixed b.0 && is_fixed fixed d.0) h in
      let named = each_both P (uses_of a.0) (uses_of b.0 ++ uses_of d.0) each in
      and_both (is_built like a.0) (is_built like b.0 && is_built like d.0) (a.1 parts.0 named.0) (two_built b.0 d.0 b.1 d.1 parts.1 named.1)
  built_layer _ h each = absurd (true≢false (sym h))

  pub built : (e : TExpr) → is_fixed fixed e ≡ true → EachNamed P (uses_of e) → is_built like e ≡ true
  built =
      ind-TExpr IsBuilt
      (λ x y is h each.
      fold-roll-TExpr Bool (built_step like) x
      ∙ subst BuiltLayer is (built_layer y) (sym (fold-roll-TExpr Bool (fixed_step fixed) x) ∙ h) (subst (λ (u : Used). EachNamed P u.uses) (fold-roll-TExpr Used uses_step x) each))

-- THE STEP
module _ (around : Around) (w : WideLoop) where
  alone_is : (i : Read) (e : TExpr) → occurs_in e ≡ occurs.Assigns (Variable i.variable) ∷ occurs.Names (Variable i.variable) ∷ [] → count_by (wide.assigns_it (Variable i.variable)) (occurs_in e) ≡ 1
  alone_is i e is = ap (λ (os : List Occurrence). count_by (wide.assigns_it (Variable i.variable)) os) is ∙ once i.variable

  occurs_at : (e : TExpr) (z : TExpr-F TExpr) → out-TExpr e ≡ z → occurs_in e ≡ (occurs_step (map-TExpr TExpr Occurring occurring z)).all
  occurs_at e z is = ap (λ (o : Occurring). o.all) (occurring_is e ∙ ap (λ (y : TExpr-F TExpr). occurs_step (map-TExpr TExpr Occurring occurring y)) is)

  steps_at : (e : TExpr) (z : TExpr-F TExpr) (i : Read) → out-TExpr e ≡ z → counter_step z ≡ Some i → Steps around w i e
  steps_at e (TExpr-F.Post node by a) i is h =
      let read = read_there (adds by) a i h in
      record {
        step = record { v = i; d = None };
        is_step = ap step_in is ∙ step_found (adds by) None (variable_of a) i read.0 read.1;
        of = refl;
        fixed = refl;
        alone = alone_is i e (occurs_at e (TExpr-F.Post node by a) is ∙ ap target (variable_occurs a i read.1));
        no_comma = operands_alone e i (ap counter_step is ∙ h);
      }
  steps_at e (TExpr-F.Pre node by a) i is h =
      let read = read_there (adds by) a i h in
      record {
        step = record { v = i; d = None };
        is_step = ap step_in is ∙ step_found (adds by) None (variable_of a) i read.0 read.1;
        of = refl;
        fixed = refl;
        alone = alone_is i e (occurs_at e (TExpr-F.Pre node by a) is ∙ ap target (variable_occurs a i read.1));
        no_comma = operands_alone e i (ap counter_step is ∙ h);
      }
  steps_at e (TExpr-F.AssignBy node by left right) i is h =
      let read = read_there (adds by && is_nonzero right) left i h in
      let parts = both_true (adds by) (is_nonzero right) read.0 in
      let nothing : occurs_in right ≡ [] = occurs_at right (out-TExpr right) refl ∙ number_at (out-TExpr right) parts.1 in
      record {
        step = record { v = i; d = Some right };
        is_step = ap step_in is ∙ step_found (adds by) (Some right) (variable_of left) i parts.0 read.1;
        of = refl;
        fixed = number_fixed (wide.stays around w) right parts.1;
        alone = alone_is i e (occurs_at e (TExpr-F.AssignBy node by left right) is ∙ (λ j. target (variable_occurs left i read.1 j) ++ nothing j));
        no_comma = operands_alone e i (ap counter_step is ∙ h);
      }
  steps_at e _ i is h = absurd cc

  pub step_steps : (e : TExpr) (i : Read) → counter_of e ≡ Some i → Steps around w i e
  step_steps e i h = steps_at e (out-TExpr e) i refl h

-- what a test has, by its form
abbrev step_at_form : TExpr-F TExpr → Option Step
step_at_form z = either_step (unit_step z) (compared_step z)

abbrev beside_at : TExpr → Option Step → Option Step → TExpr-F TExpr → List TExpr
beside_at test unit compared z = if is_there unit then [] else beside_compared test compared z

-- where a variable is read, there is no STEP
no_unit : (n : ℕ) (y : TExpr-F TExpr) → reads n (variable_step y) ≡ true → unit_step y ≡ None
no_unit n (TExpr-F.Variable node m) h = refl
no_unit n _ h = absurd (true≢false (sym h))

no_unit_at : (n : ℕ) (left : TExpr) (z : TExpr-F TExpr) → out-TExpr left ≡ z → reads n (read_step z) ≡ true → unit_step (out-TExpr (unconverted_step left z)) ≡ None
no_unit_at n left (TExpr-F.Variable node m) is h = ap unit_step is
no_unit_at n left (TExpr-F.Convert node a) is h = no_unit n (out-TExpr a) h
no_unit_at n left _ is h = absurd (true≢false (sym h))

if_none : (b : Bool) (s : Option Step) → s ≡ None → (if b then s else None) ≡ None
if_none true s h = h
if_none false s h = refl

read_built : (n : ℕ) (like : Scalar → Bool) (y : TExpr-F TExpr) → like (Variable n) ≡ true → reads n (variable_step y) ≡ true → built_step like (map-TExpr TExpr Bool (is_built like) y) ≡ true
read_built n like (TExpr-F.Variable node m) own h = subst (λ (k : ℕ). like (Variable k) ≡ true) (sym (eqb-true m n h)) own
read_built n like _ own h = absurd (true≢false (sym h))

operand_built : (n : ℕ) (like : Scalar → Bool) (y : TExpr-F TExpr) → like (Variable n) ≡ true → reads n (read_step y) ≡ true → built_step like (map-TExpr TExpr Bool (is_built like) y) ≡ true
operand_built n like (TExpr-F.Variable node m) own h = subst (λ (k : ℕ). like (Variable k) ≡ true) (sym (eqb-true m n h)) own
operand_built n like (TExpr-F.Convert node a) own h = fold_out-TExpr Bool (built_step like) a ∙ read_built n like (out-TExpr a) own h
operand_built n like _ own h = absurd (true≢false (sym h))

bound_found : (vs : List TVariable) (l : Loop) (b : Bool) (right : TExpr) → has_bound vs l (expr_if b right) ≡ true → (b ≡ true) × (is_fixed (stays vs l) right ≡ true)
bound_found vs l true right h = (refl, h)
bound_found vs l false right h = absurd (true≢false (sym h))

-- A LOOP THAT *MARKS* COUNTS
module _ (around : Around) (t : TLoop) (w : WideLoop) (like : IsLike t (marked t) w) (i : Read) (c : Counts around.variables (marked t) i)
    (scopes : EachNamed (λ n. IsNotDeclared n (inside t.body).uses) (option_uses t.test)) where
  text_is : text_of w ≡ option_occurs t.test ++ (option_occurs t.step ++ (seen t.body).occurs)
  text_is = λ j. option_occurs (like.test j) ++ (option_occurs (like.step j) ++ like.occurs j)

  undeclared : IsNotDeclared i.variable (inside t.body).uses
  undeclared = test_named (λ n. IsNotDeclared n (inside t.body).uses) around.variables (marked t) i.variable t.test c.bound scopes

  option_left : (n : ℕ) (e : Option TExpr) → list_any (assigns_it n) (option_uses e) ≡ false → list_all (leaves_in_wide n) (option_occurs e) ≡ true
  option_left n e h = option_kept (leaves n) (leaves_in_wide n) (leaving n) e (left_alone n (option_uses e) h (undeclared_option n e))

  body_left : (n : ℕ) → list_any (assigns_it n) (inside t.body).uses ≡ false → IsNotDeclared n (inside t.body).uses → list_all (leaves_in_wide n) (seen t.body).occurs ≡ true
  body_left n h d = statement_kept (leaves n) (leaves_in_wide n) (leaving n) t.body (left_alone n (inside t.body).uses h d)

  -- what the bound names stays
  leaf : (n : ℕ) → stays around.variables (marked t) n ≡ true → IsNotDeclared n (inside t.body).uses → wide.stays around w (Variable n) ≡ true
  leaf n h d =
      let parts = both_true (is_register around.variables n) (not (is_assigned (marked t) n)) h in
      let none : list_any (assigns_it n) (loop_uses (marked t)) ≡ false = not_true (is_assigned (marked t) n) parts.1 in
      let one = any_parts (assigns_it n) (first_declares t.start) (option_uses t.test ++ (option_uses t.step ++ (inside t.body).uses)) none in
      let two = any_parts (assigns_it n) (option_uses t.test) (option_uses t.step ++ (inside t.body).uses) one.1 in
      let three = any_parts (assigns_it n) (option_uses t.step) (inside t.body).uses two.1 in
      let all : list_all (leaves_in_wide n) (option_occurs t.test ++ (option_occurs t.step ++ (seen t.body).occurs)) ≡ true =
      both_all (leaves_in_wide n) (option_occurs t.test) (option_occurs t.step ++ (seen t.body).occurs) (option_left n t.test two.0)
      (both_all (leaves_in_wide n) (option_occurs t.step) (seen t.body).occurs (option_left n t.step three.0) (body_left n three.1 d)) in
      and_both (is_register around.variables n) (not (list_any (wide.assigns_it (Variable n)) (text_of w))) parts.0
      (ap not (none_of (wide.assigns_it (Variable n)) (text_of w) (subst (λ (os : List Occurrence). list_all (leaves_in_wide n) os ≡ true) (sym text_is) all)))

  module _ (e : TExpr) (step_is : t.step ≡ Some e) (steps : Steps around w i e) where
    counted_once : count_by (wide.assigns_it (Variable i.variable)) (text_of w) ≡ 1
    counted_once =
        let f : Occurrence → ℕ = (λ o. cond (wide.assigns_it (Variable i.variable) o) 1 0) in
        let test_none : sum_by f (option_occurs t.test) ≡ 0 = none_counted (wide.assigns_it (Variable i.variable)) (option_occurs t.test) (option_left i.variable t.test c.test) in
        let body_none : sum_by f (seen t.body).occurs ≡ 0 = none_counted (wide.assigns_it (Variable i.variable)) (seen t.body).occurs (body_left i.variable c.body undeclared) in
        let step_once : sum_by f (option_occurs t.step) ≡ 1 = ap (λ (x : Option TExpr). sum_by f (option_occurs x)) step_is ∙ steps.alone in
        let first : sum_by f (option_occurs t.test ++ (option_occurs t.step ++ (seen t.body).occurs)) ≡ sum_by f (option_occurs t.test) + sum_by f (option_occurs t.step ++ (seen t.body).occurs) =
        sum_by-append f (option_occurs t.test) (option_occurs t.step ++ (seen t.body).occurs) in
        let second : sum_by f (option_occurs t.step ++ (seen t.body).occurs) ≡ sum_by f (option_occurs t.step) + sum_by f (seen t.body).occurs =
        sum_by-append f (option_occurs t.step) (seen t.body).occurs in
        let whole : sum_by f (text_of w) ≡ sum_by f (option_occurs t.test ++ (option_occurs t.step ++ (seen t.body).occurs)) = ap (sum_by f) text_is in
        omega (arith, whole, first, second, test_none, body_none, step_once)

    is_alone : steps_alone around w steps.step ≡ true
    is_alone =
        and_both (is_register around.variables steps.step.v.variable)
        (nat_eq (count_by (wide.assigns_it (Variable steps.step.v.variable)) (text_of w)) 1 && wide.is_fixed around w steps.step.d)
        (subst (λ (r : Read). is_register around.variables r.variable ≡ true) (sym steps.of) c.register)
        (and_both (nat_eq (count_by (wide.assigns_it (Variable steps.step.v.variable)) (text_of w)) 1) (wide.is_fixed around w steps.step.d)
        (subst (λ (r : Read). nat_eq (count_by (wide.assigns_it (Variable r.variable)) (text_of w)) 1 ≡ true) (sym steps.of) (eq-eqb (count_by (wide.assigns_it (Variable i.variable)) (text_of w)) 1 counted_once)) steps.fixed)

    first_is : first_sort w ≡ steps.step ∷ []
    first_is =
        ap steps_in_step (like.step ∙ step_is)
        ∙ (ap (λ (es : List TExpr). all_listed (map step_of es)) (steps.no_comma (commas e)) ∙ ap (λ (s : Option Step). listed s ++ []) steps.is_step)

    pub stepped_is : stepped around w ≡ steps.step ∷ filter (steps_alone around w) (second_sort w ++ third_sort w)
    unfolding stepped
    stepped_is =
        ap (λ (ss : List Step). filter (steps_alone around w) (ss ++ (second_sort w ++ third_sort w))) first_is
        ∙ filter_head (steps_alone around w) steps.step (second_sort w ++ third_sort w) is_alone

    own_stepped : is_stepped around w i.variable ≡ true
    own_stepped =
        ap (λ (ss : List Step). list_any (λ (s : Step). nat_eq s.v.variable i.variable) ss) stepped_is
        ∙ ap (λ b. b || list_any (λ (s : Step). nat_eq s.v.variable i.variable) (filter (steps_alone around w) (second_sort w ++ third_sort w)))
        (eq-eqb steps.step.v.variable i.variable (ap (λ (r : Read). r.variable) steps.of))

    or_right : (a b : Bool) → b ≡ true → (a || b) ≡ true
    or_right true b h = refl
    or_right false b h = h

    or_left : (a b : Bool) → a ≡ true → (a || b) ≡ true
    or_left true b h = refl
    or_left false b h = absurd (true≢false (sym h))

    own_steers : steers around w (Variable i.variable) ≡ true
    own_steers = or_right (wide.stays around w (Variable i.variable)) (is_stepped around w i.variable) own_stepped

    bound_steers : (right : TExpr) → is_fixed (stays around.variables (marked t)) right ≡ true → EachNamed (λ n. IsNotDeclared n (inside t.body).uses) (uses_of right) → is_built (steers around w) right ≡ true
    bound_steers right h each =
        built (stays around.variables (marked t)) (steers around w) (λ n. IsNotDeclared n (inside t.body).uses)
        (λ n h d. or_left (wide.stays around w (Variable n)) (is_stepped around w n) (leaf n h d)) right h each

    steered_at : (test : TExpr) (z : TExpr-F TExpr) → out-TExpr test ≡ z → has_bound around.variables (marked t) (bound_step i.variable z) ≡ true
        → EachNamed (λ n. IsNotDeclared n (inside t.body).uses) (uses_at z).uses → is_steered around w (Some test) ≡ true
    steered_at test (TExpr-F.Binary node op kind left right) is h each =
        let found = bound_found around.variables (marked t) (tests op && reads i.variable (read_of left)) right h in
        let read : reads i.variable (read_of left) ≡ true = (both_true (tests op) (reads i.variable (read_of left)) found.0).1 in
        let no_step : compared_step (TExpr-F.Binary node op kind left right) ≡ None =
        if_none (compares op) (unit_step (out-TExpr (unconverted left))) (no_unit_at i.variable left (out-TExpr left) refl read) in
        let in_test : step_in_test test ≡ None = ap step_at_form is ∙ no_step in
        let beside : beside_step test ≡ test ∷ [] =
        ap (λ (z : TExpr-F TExpr). beside_at test (unit_step z) (compared_step z) z) is ∙ ap (λ (s : Option Step). beside_at test None s (TExpr-F.Binary node op kind left right)) no_step in
        let named = each_both (λ n. IsNotDeclared n (inside t.body).uses) (uses_of left) (uses_of right) each in
        let whole : is_built (steers around w) test ≡ true =
        fold_out-TExpr Bool (built_step (steers around w)) test
        ∙ (ap (λ (z : TExpr-F TExpr). built_step (steers around w) (map-TExpr TExpr Bool (is_built (steers around w)) z)) is
        ∙ and_both (is_built (steers around w) left) (is_built (steers around w) right)
        (fold_out-TExpr Bool (built_step (steers around w)) left ∙ operand_built i.variable (steers around w) (out-TExpr left) own_steers read) (bound_steers right found.1 named.1)) in
        and_both (is_own_step around w (step_in_test test)) (list_all (is_built (steers around w)) (beside_step test)) (ap (is_own_step around w) in_test)
        (ap (list_all (is_built (steers around w))) beside ∙ and_both (is_built (steers around w) test) true whole refl)
    steered_at test _ is h each = absurd (true≢false (sym h))

    steered : (test : Option TExpr) → has_bound around.variables (marked t) (bound_of i.variable test) ≡ true → EachNamed (λ n. IsNotDeclared n (inside t.body).uses) (option_uses test) → is_steered around w test ≡ true
    steered None h each = absurd (true≢false (sym h))
    steered (Some test) h each = steered_at test (out-TExpr test) refl h (subst (λ (u : Used). EachNamed (λ n. IsNotDeclared n (inside t.body).uses) u.uses) (used_is test) each)

    pub counted_in_wide : wide.is_counted around w ≡ true
    unfolding wide.is_counted
    counted_in_wide =
        and_both (is_tested_first w.sort) (is_one (stepped around w) && (is_steered around w w.test && (not w.jumps.breaks && not w.jumps.returns))) (ap is_tested_first (like.stepped e step_is))
        (and_both (is_one (stepped around w)) (is_steered around w w.test && (not w.jumps.breaks && not w.jumps.returns)) (ap is_one stepped_is)
        (and_both (is_steered around w w.test) (not w.jumps.breaks && not w.jumps.returns) (ap (is_steered around w) like.test ∙ steered t.test c.bound scopes)
        (ap (λ (j : Jumps). not j.breaks && not j.returns) like.jumps ∙ c.through)))
