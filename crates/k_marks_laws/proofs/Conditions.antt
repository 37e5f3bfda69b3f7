-- What the conditions of a counted loop say, one by one.
use Rattle.std.proofs.Common.{◌≡◌, ℕ, ◌+◌, ◌≤◌, List, [], ◌∷◌, ◌++◌, map, Option, Some, None, Bool, true, false, ◌&&◌, ◌||◌, not, nat_eq, refl, sym, ◌∙◌, ap, subst, slice_get, arith}
use Rattle.std.specs.Prelude.{cond, count_by}
use Rattle.std.specs.List.{list_any, sum_by}
use Rattle.std.proofs.lemmas.Bool.{eqb-true, eqb-false}
use Rattle.std.proofs.lemmas.List.Sums.{sum_by-append, sum_by-cons}
use Rattle.k_types_meaning.specs.declared.tree.expression.TExpr.{TExpr, fold-roll-TExpr, ind-TExpr, map-TExpr, out-TExpr}
use Rattle.k_types_meaning.specs.declared.tree.expression.TExpr.TheOpen.{TExpr-F}
use Rattle.k_types_meaning.specs.declared.tree.unit.TVariable.{TVariable}
use Rattle.k_marks_meaning.specs.declared.uses.Read.{Read}
use Rattle.k_marks_meaning.specs.declared.uses.Use.{Use}
use Rattle.k_marks_meaning.specs.declared.uses.Use.TheVariants.{Names, Assigns, Declares, Reduces}
use Rattle.k_marks_meaning.specs.Uses.{Used, used, uses_step, uses_of, in_order, assigns, option_uses, first_declares}
use Rattle.k_marks_meaning.specs.Reductions.{variable_of, read_of}
use Rattle.k_marks_meaning.specs.Loops.{Loop, loop_uses, is_number, is_register_there, is_register, assigns_it, adds, is_nonzero, read_if, counter_step, counter_of, counter, tests, reads, expr_if, bound_step, steps_alone, has_bound, bound_of, runs_through, counts, is_counted}
use Rattle.k_evaluation.specs.Places.{has_register}
use Rattle.k_evaluation.specs.Places as places
use Rattle.k_marks_laws.specs.Frames.{IsSpared}
use Rattle.k_marks_laws.specs.Counted.{IsNotDeclared, EachNamed}
use Rattle.k_marks_laws.proofs.OneVariable.{uses_at, used_is, IsRead, variable_is, IsNamed, read_is}

pub both_true : (a b : Bool) → (a && b) ≡ true → (a ≡ true) × (b ≡ true)
both_true true b is = (refl, is)
both_true false b is = absurd cc

-- a whole number in a register is in a register
there_register : (v : Option TVariable) → is_register_there v ≡ true → has_register v ≡ true
there_register None is = absurd cc
there_register (Some v) is = (both_true (is_number v.of) (nat_eq v.elements 0) is).1

pub register_of : (vs : List TVariable) (n : ℕ) → is_register vs n ≡ true → places.is_register vs n ≡ true
register_of vs n is = there_register (slice_get vs n) is

pub not_true : (b : Bool) → not b ≡ true → b ≡ false
not_true false is = refl
not_true true is = absurd cc

-- no is neither
pub neither : (a b : Bool) → (a || b) ≡ false → (a ≡ false) × (b ≡ false)
neither true b is = absurd cc
neither false b is = (refl, is)

-- a variable that is neither assigned nor declared is spared
pub spared_of : (n : ℕ) (us : List Use) → list_any (assigns_it n) us ≡ false → IsNotDeclared n us → IsSpared n us
spared_of n [] is h = tt
spared_of n (Names m ∷ us) is h = (refl, spared_of n us is h)
spared_of n (Assigns m ∷ us) is h = let e = neither (nat_eq m n) (list_any (assigns_it n) us) is in (e.0, spared_of n us e.1 h)
spared_of n (Declares m ∷ us) is h = (h.0, spared_of n us is h.1)
spared_of n (Reduces r ∷ us) is h = let e = neither (nat_eq r.variable n) (list_any (assigns_it n) us) is in (e.0, spared_of n us e.1 h)

-- AN EXPRESSION names and assigns variables, and does nothing else with them
abbrev pub IsPlain : List Use → Type 0
IsPlain [] = Unit {0}
IsPlain (Names m ∷ us) = IsPlain us
IsPlain (Assigns m ∷ us) = IsPlain us
IsPlain (Declares m ∷ us) = ⊥
IsPlain (Reduces r ∷ us) = ⊥

plain_both : (xs ys : List Use) → IsPlain xs → IsPlain ys → IsPlain (xs ++ ys)
plain_both [] ys h k = k
plain_both (Names m ∷ xs) ys h k = plain_both xs ys h k
plain_both (Assigns m ∷ xs) ys h k = plain_both xs ys h k
plain_both (Declares m ∷ xs) ys h k = absurd h
plain_both (Reduces r ∷ xs) ys h k = absurd h

plain_assigned : (itself : Option ℕ) (us : List Use) → IsPlain us → IsPlain (assigns itself ++ us)
plain_assigned None us h = h
plain_assigned (Some m) us h = h

abbrev PlainExpr : TExpr → Type 0
PlainExpr e = IsPlain (uses_of e)

all_plain : {B : Type 0} (items : List B) (expr : B → TExpr) → ((b : B) → PlainExpr (expr b)) → IsPlain (in_order (map used (map expr items)))
all_plain [] expr each = tt
all_plain (b ∷ items) expr each = plain_both (uses_of (expr b)) (in_order (map used (map expr items))) (each b) (all_plain items expr each)

pub plain : (e : TExpr) → PlainExpr e
plain =
    ind-TExpr PlainExpr
    (λ x y is.
    let parts : IsPlain (uses_at x).uses =
    subst (λ (z : TExpr-F TExpr). IsPlain (uses_at z).uses) is
    (elim y as (λ z. IsPlain (uses_at (map-TExpr _ TExpr (λ e. e.0) z)).uses) [
      | TExpr-F.Number node z ↦ tt
      | TExpr-F.Str node k bytes ↦ tt
      | TExpr-F.Object node k ↦ tt
      | TExpr-F.Variable node m ↦ tt
      | TExpr-F.Index node a b ↦ plain_both (uses_of a.0) (uses_of b.0) a.1 b.1
      | TExpr-F.Call node f args ↦ all_plain args (λ e. e.0) (λ e. e.1)
      | TExpr-F.Getchar node ↦ tt
      | TExpr-F.Putchar node a ↦ a.1
      | TExpr-F.Puts node a ↦ a.1
      | TExpr-F.Printf node format args ↦ all_plain args (λ e. e.0) (λ e. e.1)
      | TExpr-F.Post node change a ↦ plain_assigned (used a.0).itself (uses_of a.0) a.1
      | TExpr-F.Pre node change a ↦ plain_assigned (used a.0).itself (uses_of a.0) a.1
      | TExpr-F.Address node a ↦ a.1
      | TExpr-F.Deref node a ↦ a.1
      | TExpr-F.Plus node a ↦ a.1
      | TExpr-F.Unary node op kind a ↦ a.1
      | TExpr-F.Convert node a ↦ a.1
      | TExpr-F.Cast node a ↦ a.1
      | TExpr-F.Binary node op kind a b ↦ plain_both (uses_of a.0) (uses_of b.0) a.1 b.1
      | TExpr-F.Both node a b ↦ plain_both (uses_of a.0) (uses_of b.0) a.1 b.1
      | TExpr-F.Either node a b ↦ plain_both (uses_of a.0) (uses_of b.0) a.1 b.1
      | TExpr-F.Forward node a b ↦ plain_both (uses_of a.0) (uses_of b.0) a.1 b.1
      | TExpr-F.Onto node a b ↦ plain_both (uses_of a.0) (uses_of b.0) a.1 b.1
      | TExpr-F.Back node a b ↦ plain_both (uses_of a.0) (uses_of b.0) a.1 b.1
      | TExpr-F.PtrCompare node op a b ↦ plain_both (uses_of a.0) (uses_of b.0) a.1 b.1
      | TExpr-F.PtrDistance node a b ↦ plain_both (uses_of a.0) (uses_of b.0) a.1 b.1
      | TExpr-F.Cond node a b c ↦ plain_both (uses_of a.0) (uses_of b.0 ++ uses_of c.0) a.1 (plain_both (uses_of b.0) (uses_of c.0) b.1 c.1)
      | TExpr-F.Assign node a b ↦
          plain_both (assigns (used a.0).itself ++ uses_of a.0) (uses_of b.0) (plain_assigned (used a.0).itself (uses_of a.0) a.1) b.1
      | TExpr-F.AssignBy node change a b ↦
          plain_both (assigns (used a.0).itself ++ uses_of a.0) (uses_of b.0) (plain_assigned (used a.0).itself (uses_of a.0) a.1) b.1
      | TExpr-F.Comma node a b ↦ plain_both (uses_of a.0) (uses_of b.0) a.1 b.1
    ]) in
    subst (λ (u : Used). IsPlain u.uses) (sym (fold-roll-TExpr Used uses_step x)) parts)

-- so it declares nothing
plain_undeclared : (n : ℕ) (us : List Use) → IsPlain us → IsNotDeclared n us
plain_undeclared n [] h = tt
plain_undeclared n (Names m ∷ us) h = plain_undeclared n us h
plain_undeclared n (Assigns m ∷ us) h = plain_undeclared n us h
plain_undeclared n (Declares m ∷ us) h = absurd h
plain_undeclared n (Reduces r ∷ us) h = absurd h

pub undeclared_option : (n : ℕ) (e : Option TExpr) → IsNotDeclared n (option_uses e)
undeclared_option n None = tt
undeclared_option n (Some e) = plain_undeclared n (uses_of e) (plain e)

-- HOW OFTEN A VARIABLE IS ASSIGNED
none_counted : (n : ℕ) (us : List Use) → count_by (assigns_it n) us ≡ 0 → list_any (assigns_it n) us ≡ false
none_counted n [] is = refl
none_counted n (u ∷ us) is = by (assigns_it n u) (sym (sum_by-cons (λ v. cond (assigns_it n v) 1 0) u us) ∙ is) (none_counted n us)
  where
    by : (b : Bool) → cond b 1 0 + count_by (assigns_it n) us ≡ 0 → (count_by (assigns_it n) us ≡ 0 → list_any (assigns_it n) us ≡ false) → (b || list_any (assigns_it n) us) ≡ false
    by true h rest = absurd (omega (arith, h))
    by false h rest = rest (omega (arith, h))

once_there : (n : ℕ) (us : List Use) → 1 ≤ count_by (assigns_it n) (Assigns n ∷ us)
once_there n us = by (nat_eq n n) refl
  where
    counted : count_by (assigns_it n) (Assigns n ∷ us) ≡ cond (nat_eq n n) 1 0 + count_by (assigns_it n) us
    counted = sum_by-cons (λ v. cond (assigns_it n v) 1 0) (Assigns n) us

    by : (b : Bool) → nat_eq n n ≡ b → 1 ≤ count_by (assigns_it n) (Assigns n ∷ us)
    by true is = let e : count_by (assigns_it n) (Assigns n ∷ us) ≡ 1 + count_by (assigns_it n) us = counted ∙ ap (λ (b : Bool). cond b 1 0 + count_by (assigns_it n) us) is in omega (arith, e)
    by false is = absurd (eqb-false n n is refl)

-- in four parts that assign it once, the third among them, the others do not
others_none : (p : Use → Bool) (as_ bs cs ds : List Use) → count_by p (as_ ++ (bs ++ (cs ++ ds))) ≡ 1 → 1 ≤ count_by p cs
    → (count_by p bs ≡ 0) × (count_by p ds ≡ 0)
others_none p as_ bs cs ds once there =
    let f : Use → ℕ = (λ v. cond (p v) 1 0) in
    let first : sum_by f (as_ ++ (bs ++ (cs ++ ds))) ≡ sum_by f as_ + sum_by f (bs ++ (cs ++ ds)) = sum_by-append f as_ (bs ++ (cs ++ ds)) in
    let second : sum_by f (bs ++ (cs ++ ds)) ≡ sum_by f bs + sum_by f (cs ++ ds) = sum_by-append f bs (cs ++ ds) in
    let third : sum_by f (cs ++ ds) ≡ sum_by f cs + sum_by f ds = sum_by-append f cs ds in
    (omega (arith, once, there, first, second, third), omega (arith, once, there, first, second, third))

-- THE STEP assigns its variable
pub read_there : (b : Bool) (e : TExpr) (i : Read) → read_if b e ≡ Some i → variable_of e ≡ Some i
read_there true e i is = is
read_there false e i is = absurd cc

target_there : (e : TExpr) (i : Read) (more : List Use) → variable_of e ≡ Some i
    → (rest : List Use) × ((assigns (used e).itself ++ uses_of e) ++ more ≡ Assigns i.variable ∷ rest)
target_there e i more is =
    let itself : IsRead (Some i) (used e) = subst (λ (r : Option Read). IsRead r (used e)) is (variable_is e) in
    (Names i.variable ∷ more, ap (λ (u : Used). (assigns u.itself ++ u.uses) ++ more) itself)

step_assigns_at : (y : TExpr-F TExpr) (i : Read) → counter_step y ≡ Some i → (rest : List Use) × ((uses_at y).uses ≡ Assigns i.variable ∷ rest)
step_assigns_at (TExpr-F.Post node by e) i is =
    let itself : IsRead (Some i) (used e) = subst (λ (r : Option Read). IsRead r (used e)) (read_there (adds by) e i is) (variable_is e) in
    (Names i.variable ∷ [], ap (λ (u : Used). assigns u.itself ++ u.uses) itself)
step_assigns_at (TExpr-F.Pre node by e) i is =
    let itself : IsRead (Some i) (used e) = subst (λ (r : Option Read). IsRead r (used e)) (read_there (adds by) e i is) (variable_is e) in
    (Names i.variable ∷ [], ap (λ (u : Used). assigns u.itself ++ u.uses) itself)
step_assigns_at (TExpr-F.AssignBy node by left right) i is = target_there left i (uses_of right) (read_there (adds by && is_nonzero right) left i is)
step_assigns_at _ i is = absurd cc

step_assigns : (e : TExpr) (i : Read) → counter_of e ≡ Some i → 1 ≤ count_by (assigns_it i.variable) (uses_of e)
step_assigns e i is =
    let found = step_assigns_at (out-TExpr e) i is in
    let all : uses_of e ≡ Assigns i.variable ∷ found.0 = ap (λ (u : Used). u.uses) (used_is e) ∙ found.1 in
    subst (λ (us : List Use). 1 ≤ count_by (assigns_it i.variable) us) (sym all) (once_there i.variable found.0)

counter_assigns : (step : Option TExpr) (i : Read) → counter step ≡ Some i → 1 ≤ count_by (assigns_it i.variable) (option_uses step)
counter_assigns None i is = absurd cc
counter_assigns (Some e) i is = step_assigns e i is

-- THE CONDITIONS
pub record Counts (vs : List TVariable) (l : Loop) (i : Read) : Type 0 where
  pub register : is_register vs i.variable ≡ true
  pub test : list_any (assigns_it i.variable) (option_uses l.test) ≡ false
  pub body : list_any (assigns_it i.variable) l.body_uses ≡ false
  pub bound : has_bound vs l (bound_of i.variable l.test) ≡ true
  pub through : runs_through l ≡ true

counts_of : (vs : List TVariable) (l : Loop) (i : Read) → counter l.step ≡ Some i
    → (steps_alone vs l i.variable && (has_bound vs l (bound_of i.variable l.test) && runs_through l)) ≡ true → Counts vs l i
counts_of vs l i step is =
    let first = both_true (steps_alone vs l i.variable) (has_bound vs l (bound_of i.variable l.test) && runs_through l) is in
    let alone = both_true (is_register vs i.variable) (nat_eq (count_by (assigns_it i.variable) (loop_uses l)) 1) first.0 in
    let rest = both_true (has_bound vs l (bound_of i.variable l.test)) (runs_through l) first.1 in
    let none = others_none (assigns_it i.variable) (first_declares l.start) (option_uses l.test) (option_uses l.step) l.body_uses
    (eqb-true (count_by (assigns_it i.variable) (loop_uses l)) 1 alone.1) (counter_assigns l.step i step) in
    record {
      register = alone.0;
      test = none_counted i.variable (option_uses l.test) none.0;
      body = none_counted i.variable l.body_uses none.1;
      bound = rest.0;
      through = rest.1;
    }

pub counted_counts : (vs : List TVariable) (l : Loop) (i : Read) → is_counted vs l ≡ true → counter l.step ≡ Some i → Counts vs l i
unfolding is_counted
counted_counts vs l i is step = counts_of vs l i step (sym (ap (counts vs l) step) ∙ is)

-- THE TEST names the variable
same_named : (P : ℕ → Type 0) (vs : List TVariable) (l : Loop) (right : TExpr) (m n : ℕ) (named more : List Use) (b : Bool) → nat_eq m n ≡ b
    → has_bound vs l (expr_if b right) ≡ true → named ≡ Names m ∷ [] → EachNamed P (named ++ more) → P n
same_named P vs l right m n named more false e is names each = absurd cc
same_named P vs l right m n named more true e is names each = subst P (eqb-true m n e) (subst (λ (us : List Use). EachNamed P (us ++ more)) names each).0

left_named : (P : ℕ → Type 0) (vs : List TVariable) (l : Loop) (right : TExpr) (n : ℕ) (named more : List Use) (b : Bool) (r : Option Read)
    → has_bound vs l (expr_if (b && reads n r) right) ≡ true → IsNamed r named → EachNamed P (named ++ more) → P n
left_named P vs l right n named more false r is names each = absurd cc
left_named P vs l right n named more true None is names each = absurd cc
left_named P vs l right n named more true (Some r) is names each = same_named P vs l right r.variable n named more (nat_eq r.variable n) refl is names each

test_named_at : (P : ℕ → Type 0) (vs : List TVariable) (l : Loop) (n : ℕ) (y : TExpr-F TExpr) → has_bound vs l (bound_step n y) ≡ true → EachNamed P (uses_at y).uses → P n
test_named_at P vs l n (TExpr-F.Binary node op kind left right) is each =
    left_named P vs l right n (uses_of left) (uses_of right) (tests op) (read_of left) is (read_is left) each
test_named_at P vs l n _ is each = absurd cc

pub test_named : (P : ℕ → Type 0) (vs : List TVariable) (l : Loop) (n : ℕ) (test : Option TExpr) → has_bound vs l (bound_of n test) ≡ true → EachNamed P (option_uses test) → P n
test_named P vs l n None is each = absurd cc
test_named P vs l n (Some e) is each = test_named_at P vs l n (out-TExpr e) is (subst (λ (u : Used). EachNamed P u.uses) (used_is e) each)
