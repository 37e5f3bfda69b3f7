-- Each loop of a source with a typed tree is typed as the laws of loops ask.
use Rattle.std.proofs.Common.{◌≡◌, ℕ, zero, suc, List, [], ◌∷◌, map, slice_get, Option, Some, None, sym, ap, subst}
use Rattle.std.proofs.lemmas.Option.{none-some, same_Some}
use Rattle.k_num.specs.declared.numbers.Kind.{Kind}
use Rattle.k_tree.specs.declared.tree.unit.Unit as source
use Rattle.k_types_meaning.specs.declared.tree.expression.TExpr.{TExpr}
use Rattle.k_types_meaning.specs.declared.tree.unit.TFunc.{TFunc}
use Rattle.k_types_meaning.specs.declared.tree.unit.TUnit.{TUnit}
use Rattle.k_types_meaning.specs.Bare.{IsTyped, bare_function}
use Rattle.k_types_meaning.specs.Units.{defined_by, nothing_known}
use Rattle.k_types_meaning.proofs.SourcesElaborate.{typed_items_elaborate}
use Rattle.k_marks_meaning.specs.declared.uses.Read.{Read}
use Rattle.k_marks_meaning.specs.Loops.{counter}
use Rattle.k_marks_laws.specs.Counted.{IsOfKind}
use Rattle.k_marks_laws.specs.Reduced.{expressions_in}
use Rattle.k_marks_laws.specs.Turns.{TLoop}
use Rattle.k_marks_laws.specs.Laws.{IsLoopOf, LoopsAreTyped, ReductionsAreTyped}
use Rattle.k_marks_laws.specs.Standing.{loops_of}
use Rattle.k_marks_laws.proofs.SourceBodies.{good_loop_bare}
use Rattle.k_marks_laws.proofs.Functions.{FunctionSound, AllSound, items_come}
use Rattle.k_marks_laws.proofs.Good.{good_test, good_step, good_reductions}
use Rattle.k_marks_laws.proofs.Scopes.{NamesEach, IsNoVariable}
use Rattle.k_marks_laws.proofs.Sound.{GoodLoop, AllLoops, WithStep}
use Rattle.k_marks_laws.proofs.Standing.{bare_loop, all_loops_bare}

-- one of several functions without their numbers
function_there : (fs : List TFunc) (n : ℕ) (f : TFunc) → slice_get fs n ≡ Some f → AllSound (map bare_function fs) → FunctionSound (bare_function f)
function_there [] n f there h = absurd (none-some f there)
function_there (g ∷ fs) zero f there h = subst (λ (x : TFunc). FunctionSound (bare_function x)) (same_Some g f there) h.0
function_there (g ∷ fs) (suc n) f there h = function_there fs n f there h.1

-- one of several loops without their numbers
loop_there : (K : ℕ → Kind → Type 0) (ls : List TLoop) (k : ℕ) (l : TLoop) → slice_get ls k ≡ Some l → AllLoops K (map bare_loop ls) → GoodLoop K (bare_loop l)
loop_there K [] k l there h = absurd (none-some l there)
loop_there K (x ∷ ls) zero l there h = subst (λ (y : TLoop). GoodLoop K (bare_loop y)) (same_Some x l there) h.0
loop_there K (x ∷ ls) (suc k) l there h = loop_there K ls k l there h.1

-- nothing but the library is known at the start
nothing_named : NamesEach IsNoVariable nothing_known.names
nothing_named = (tt, ((tt, (tt, (tt, (tt, tt)))), tt))

all_sound : (unit : source.Unit) (typed : TUnit) → IsTyped unit typed → AllSound (map bare_function typed.functions)
all_sound unit typed h =
    let found = (typed_items_elaborate unit typed).0 h in
    subst AllSound (sym (ap (λ (u : TUnit). u.functions) (found.3).0)) (items_come (defined_by unit) nothing_known unit.items found.0 found.1 found.2 nothing_named).0

pub loop_good : (unit : source.Unit) (typed : TUnit) (number : ℕ) (f : TFunc) (l : TLoop) → IsLoopOf unit typed number f l → GoodLoop (IsOfKind f.variables) l
loop_good unit typed number f l h =
    let K : ℕ → Kind → Type 0 = IsOfKind f.variables in
    let here : FunctionSound (bare_function f) = function_there typed.functions number f h.there (all_sound unit typed h.typed_tree) in
    good_loop_bare K l (loop_there K (loops_of f) h.stands.0 l h.stands.1 (subst (AllLoops K) (all_loops_bare f.body) here))

-- a loop that may be counted has a step
counts_with : {X : Type 0} (step : Option TExpr) {i : Read} → counter step ≡ Some i → WithStep step X → X
counts_with None is h = absurd cc
counts_with (Some e) is h = h

pub loops_are_typed : LoopsAreTyped
loops_are_typed unit typed number f l i kind h counts of =
    let good = loop_good unit typed number f l h in
    record {
      step = good_step (IsOfKind f.variables) i kind of l.step counts good.step;
      test = good_test (IsOfKind f.variables) l.test good.test;
      scopes = counts_with l.step counts good.scopes;
    }

pub reductions_are_typed : ReductionsAreTyped
reductions_are_typed unit typed number f l n kind h of =
    good_reductions (IsOfKind f.variables) n kind of (expressions_in l.body) (loop_good unit typed number f l h).actions
