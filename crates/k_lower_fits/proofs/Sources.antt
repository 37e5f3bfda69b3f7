-- Each function of a source without faults fits and is small.
use Rattle.std.proofs.Common.{◌≡◌, ℕ, zero, suc, ◌+◌, ◌*◌, ◌≤◌, max, true, List, [], ◌∷◌, map, length, slice_get, Option, Some, refl, sym, ◌∙◌, ap, subst, arith}
use Rattle.std.specs.Prelude.{All}
use Rattle.std.proofs.lemmas.Option.{none-some, same_Some}
use Rattle.k_tree.specs.declared.tree.unit.Unit as source
use Rattle.k_types_meaning.specs.declared.tree.unit.TFunc.{TFunc}
use Rattle.k_types_meaning.specs.declared.tree.unit.TUnit.{TUnit}
use Rattle.k_types_meaning.specs.declared.tree.unit.TObject.{TObject}
use Rattle.k_types_meaning.specs.Bare.{IsTyped, bare_function}
use Rattle.k_types_meaning.specs.Called.{Called, calls_of_unit, all_calls, item_calls}
use Rattle.k_types_meaning.specs.Laws.{MeansTree}
use Rattle.k_types_meaning.specs.Names.{place_in}
use Rattle.k_types_meaning.specs.Units.{Parts, defined_by, faults, is_name, nothing_known}
use Rattle.k_types_meaning.specs.ElaboratedUnits.{ElabUnit, IsDefined, whole}
use Rattle.k_types_meaning.proofs.Fine.{AllOf}
use Rattle.k_types_meaning.proofs.SourcesElaborate.{typed_trees_elaborate}
use Rattle.k_lower_fits.specs.Costs.{Cost, of_function, of_parameter}
use Rattle.k_lower_fits.specs.Fits.{Callee, callee}
use Rattle.k_lower_fits.specs.Laws.{FunctionsAreSmall, FunctionsFit}
use Rattle.k_lower_fits.proofs.Alike.{body_costs, body_fit}
use Rattle.k_lower_fits.proofs.Functions.{FunctionGood, called_at, items_good, items_named, items_shaped, limits_with}
use Rattle.k_lower_fits.proofs.Numbers.{loops_below, strings_below}
use Rattle.k_lower_fits.proofs.Signatures.{settled}
use Rattle.k_lower_fits.proofs.Split.{all_of}

pub unit_calls : (P : Called → Type 0) (unit : source.Unit) → All P (calls_of_unit unit) → AllOf P (all_calls (map item_calls unit.items))
unfolding calls_of_unit
unit_calls P unit h = all_of P (all_calls (map item_calls unit.items)) h

-- the functions of a source, before they are numbered
unit_good : (unit : source.Unit) (parts : Parts) → ElabUnit unit parts → AllOf (FunctionGood (length parts.objects) (map callee parts.functions)) parts.functions
unit_good _ _ (whole unit parts after items calls main) =
    let C : List ℕ → Option Callee = settled nothing_known.names unit.items in
    let names : map (λ (f : TFunc). f.name) parts.functions ≡ defined_by unit = items_named (defined_by unit) nothing_known unit.items parts after items in
    let shaped = items_shaped C (defined_by unit) nothing_known unit.items parts after items (λ x. refl) in
    let there : (x : List ℕ) → is_name (defined_by unit) x ≡ true → slice_get (map callee parts.functions) (place_in (defined_by unit) x) ≡ C x =
    subst (λ (ns : List (List ℕ)). (x : List ℕ) → is_name ns x ≡ true → slice_get (map callee parts.functions) (place_in ns x) ≡ C x) names (λ x named. called_at C parts.functions x shaped named) in
    items_good C (length parts.objects) (map callee parts.functions) (defined_by unit) nothing_known unit.items parts after items there (λ x. refl) (omega arith)
    (tt, ((tt, (tt, (tt, (tt, tt)))), tt)) (unit_calls (IsDefined (defined_by unit)) unit calls)

-- a function with its numbers
numbered : (objects : ℕ) (callees : List Callee) (f : TFunc) → FunctionGood objects callees (bare_function f) → FunctionGood objects callees f
numbered objects callees f h = record {
  params = h.params;
  body = sym (body_fit (limits_with objects callees f) f.body) ∙ h.body;
  registers = subst (λ (c : Cost). length f.variables + max 1 c.registers ≤ 2 * f.nodes) (body_costs f.body) h.registers;
  instructions = subst (λ (c : Cost). of_function + of_parameter * f.params + c.instructions ≤ 512 * f.nodes) (body_costs f.body) h.instructions;
}

pub same_callees : (fs : List TFunc) → map callee (map bare_function fs) ≡ map callee fs
same_callees [] = refl
same_callees (f ∷ fs) = ap (λ (cs : List Callee). callee f ∷ cs) (same_callees fs)

there : (objects : ℕ) (callees : List Callee) (fs : List TFunc) (n : ℕ) (f : TFunc) → slice_get fs n ≡ Some f → AllOf (FunctionGood objects callees) (map bare_function fs) → FunctionGood objects callees f
there objects callees [] n f is h = absurd (none-some f is)
there objects callees (g ∷ fs) zero f is h = subst (FunctionGood objects callees) (same_Some g f is) (numbered objects callees g h.0)
there objects callees (g ∷ fs) (suc n) f is h = there objects callees fs n f is h.1

function_good : (unit : source.Unit) (typed : TUnit) (n : ℕ) (f : TFunc) → IsTyped unit typed → faults unit ≡ [] → slice_get typed.functions n ≡ Some f
    → FunctionGood (length typed.objects) (map callee typed.functions) f
function_good unit typed n f h none is =
    let means : MeansTree unit typed = (typed_trees_elaborate unit typed).0 (h, none) in
    let parts : Parts = means.0 in
    let tree = (means.2).0 in
    let fs : map bare_function typed.functions ≡ parts.functions = ap (λ (u : TUnit). u.functions) tree in
    let os : typed.objects ≡ parts.objects = ap (λ (u : TUnit). u.objects) tree in
    let good : AllOf (FunctionGood (length parts.objects) (map callee parts.functions)) parts.functions = unit_good unit parts means.1 in
    let moved : AllOf (FunctionGood (length typed.objects) (map callee (map bare_function typed.functions))) (map bare_function typed.functions) =
    subst (λ (gs : List TFunc). AllOf (FunctionGood (length typed.objects) (map callee gs)) gs) (sym fs)
    (subst (λ (xs : List TObject). AllOf (FunctionGood (length xs) (map callee parts.functions)) parts.functions) (sym os) good) in
    there (length typed.objects) (map callee typed.functions) typed.functions n f is
    (subst (λ (cs : List Callee). AllOf (FunctionGood (length typed.objects) cs) (map bare_function typed.functions)) (same_callees typed.functions) moved)

pub functions_fit : FunctionsFit
unfolding IsTyped
functions_fit unit typed n f h none is =
    let good = function_good unit typed n f h none is in
    record { params = good.params; body = good.body; strings = strings_below typed n f h.3 is; loops = loops_below typed n f h.3 is }

pub functions_are_small : FunctionsAreSmall
functions_are_small unit typed n f h none is =
    let good = function_good unit typed n f h none is in
    record { registers = good.registers; instructions = good.instructions }
