-- Each function of a source without faults fits.
use Rattle.std.proofs.Common.{◌≡◌, ℕ, zero, suc, ◌+◌, List, [], ◌∷◌, map, slice_get, Option, Some, refl, sym, ◌∙◌, ap, subst, arith}
use Rattle.std.specs.Prelude.{codes}
use Rattle.std.proofs.lemmas.Option.{none-some, same_Some}
use Rattle.k_num.specs.declared.numbers.Kind.TheVariants.{I32}
use Rattle.k_tree.specs.declared.tree.unit.Unit as source
use Rattle.k_types_meaning.specs.declared.tree.unit.TFunc.{TFunc}
use Rattle.k_types_meaning.specs.declared.tree.unit.TObject.{TObject}
use Rattle.k_types_meaning.specs.declared.tree.unit.TUnit.{TUnit}
use Rattle.k_types_meaning.specs.Bare.{IsTyped, bare_function}
use Rattle.k_types_meaning.specs.ElaboratedUnits.{ElabUnit, whole}
use Rattle.k_types_meaning.specs.Laws.{MeansTree}
use Rattle.k_types_meaning.specs.Names.{place_in}
use Rattle.k_types_meaning.specs.Units.{Parts, defined_by, faults, nothing_known}
use Rattle.k_types_meaning.proofs.Fine.{AllOf}
use Rattle.k_types_meaning.proofs.SourcesElaborate.{typed_trees_elaborate}
use Rattle.k_lower_fits.proofs.Functions.{items_named}
use Rattle.k_evaluation_laws.specs.Kinds.{Sort, ANumber, sort_of}
use Rattle.k_evaluation_laws.proofs.Fits.{Callee, callee, FunctionFits}
use Rattle.k_evaluation_laws.proofs.Alike.{body_alike}
use Rattle.k_evaluation_laws.proofs.Functions.{FunctionGood, GivesInt, IsSettled, IsShaped, main_settled, called_at, items_good, items_shaped, site_of}
use Rattle.k_evaluation_laws.proofs.Signatures.{settled}

-- the sorts of file objects
abbrev sorts_of_objects : List TObject → List Sort
sorts_of_objects os = map (λ (o : TObject). sort_of o.of) os

objects_there : (os : List TObject) (n : ℕ) (o : TObject) → slice_get os n ≡ Some o → slice_get (sorts_of_objects os) n ≡ Some (sort_of o.of)
objects_there [] n o is = absurd (none-some o is)
objects_there (x ∷ os) zero o is = ap (λ (y : TObject). Some (sort_of y.of)) (same_Some x o is)
objects_there (x ∷ os) (suc n) o is = objects_there os n o is

-- the functions of a source, before they are numbered
unit_good : (unit : source.Unit) (parts : Parts) → ElabUnit unit parts → AllOf (FunctionGood (sorts_of_objects parts.objects) (map callee parts.functions)) parts.functions
unit_good _ _ (whole unit parts after items calls main) =
    let C : List ℕ → Option Callee = settled nothing_known.names unit.items in
    let names : map (λ (f : TFunc). f.name) parts.functions ≡ defined_by unit = items_named (defined_by unit) nothing_known unit.items parts after items in
    let shaped = items_shaped C (defined_by unit) nothing_known unit.items parts after items (λ x. refl) in
    let there : (x : List ℕ) → IsSettled C x (slice_get (map callee parts.functions) (place_in (defined_by unit) x)) =
    subst (λ (ns : List (List ℕ)). (x : List ℕ) → IsSettled C x (slice_get (map callee parts.functions) (place_in ns x))) names (λ x. called_at C parts.functions x shaped) in
    items_good C (sorts_of_objects parts.objects) (map callee parts.functions) (defined_by unit) nothing_known unit.items parts after items there (λ x. refl)
    (λ k o is. subst (λ (m : ℕ). slice_get (sorts_of_objects parts.objects) m ≡ Some (sort_of o.of)) (let e : k ≡ 0 + k = omega arith in e) (objects_there parts.objects k o is))
    (tt, ((tt, (tt, (tt, (tt, tt)))), tt))

-- a function with its numbers
numbered : (sorts : List Sort) (callees : List Callee) (f : TFunc) → FunctionGood sorts callees (bare_function f) → FunctionGood sorts callees f
numbered sorts callees f h = record { params = h.params; body = sym (body_alike (site_of sorts callees f) f.body) ∙ h.body }

same_callees : (fs : List TFunc) → map callee (map bare_function fs) ≡ map callee fs
same_callees [] = refl
same_callees (f ∷ fs) = ap (λ (cs : List Callee). callee f ∷ cs) (same_callees fs)

there : (sorts : List Sort) (callees : List Callee) (fs : List TFunc) (n : ℕ) (f : TFunc) → slice_get fs n ≡ Some f → AllOf (FunctionGood sorts callees) (map bare_function fs) → FunctionGood sorts callees f
there sorts callees [] n f is h = absurd (none-some f is)
there sorts callees (g ∷ fs) zero f is h = subst (FunctionGood sorts callees) (same_Some g f is) (numbered sorts callees g h.0)
there sorts callees (g ∷ fs) (suc n) f is h = there sorts callees fs n f is h.1

pub functions_fit : (unit : source.Unit) (typed : TUnit) (n : ℕ) (f : TFunc) → IsTyped unit typed → faults unit ≡ [] → slice_get typed.functions n ≡ Some f → FunctionFits typed f
functions_fit unit typed n f h none is =
    let means : MeansTree unit typed = (typed_trees_elaborate unit typed).0 (h, none) in
    let parts : Parts = means.0 in
    let tree = (means.2).0 in
    let fs : map bare_function typed.functions ≡ parts.functions = ap (λ (u : TUnit). u.functions) tree in
    let os : typed.objects ≡ parts.objects = ap (λ (u : TUnit). u.objects) tree in
    let good : AllOf (FunctionGood (sorts_of_objects parts.objects) (map callee parts.functions)) parts.functions = unit_good unit parts means.1 in
    let moved : AllOf (FunctionGood (sorts_of_objects typed.objects) (map callee (map bare_function typed.functions))) (map bare_function typed.functions) =
    subst (λ (gs : List TFunc). AllOf (FunctionGood (sorts_of_objects typed.objects) (map callee gs)) gs) (sym fs)
    (subst (λ (xs : List TObject). AllOf (FunctionGood (sorts_of_objects xs) (map callee parts.functions)) parts.functions) (sym os) good) in
    let good_one : FunctionGood (sorts_of_objects typed.objects) (map callee typed.functions) f =
    there (sorts_of_objects typed.objects) (map callee typed.functions) typed.functions n f is
    (subst (λ (cs : List Callee). AllOf (FunctionGood (sorts_of_objects typed.objects) cs) (map bare_function typed.functions)) (same_callees typed.functions) moved) in
    record { params = good_one.params; body = good_one.body }

-- MAIN gives an int
shaped_at : (C : List ℕ → Option Callee) (fs : List TFunc) (n : ℕ) (f : TFunc) → slice_get fs n ≡ Some f → AllOf (IsShaped C) (map bare_function fs) → Some (callee f) ≡ C f.name
shaped_at C [] n f is h = absurd (none-some f is)
shaped_at C (g ∷ fs) zero f is h = subst (λ (x : TFunc). Some (callee x) ≡ C x.name) (same_Some g f is) h.0
shaped_at C (g ∷ fs) (suc n) f is h = shaped_at C fs n f is h.1

-- how the functions of a source are settled
abbrev Settles : source.Unit → List TFunc → Type 0
Settles unit fs = AllOf (IsShaped (settled nothing_known.names unit.items)) fs × GivesInt (settled nothing_known.names unit.items (codes "main"))

unit_settles : (unit : source.Unit) (parts : Parts) → ElabUnit unit parts → Settles unit parts.functions
unit_settles _ _ (whole unit parts after items calls main) =
    let C : List ℕ → Option Callee = settled nothing_known.names unit.items in (
      items_shaped C (defined_by unit) nothing_known unit.items parts after items (λ x. refl),
      main_settled C (defined_by unit) nothing_known unit.items parts after items (λ x. refl) main,
    )

pub main_is_int : (unit : source.Unit) (typed : TUnit) (n : ℕ) (f : TFunc) → IsTyped unit typed → faults unit ≡ [] → slice_get typed.functions n ≡ Some f → f.name ≡ codes "main"
    → sort_of f.result ≡ ANumber I32
main_is_int unit typed n f h none is named =
    let C : List ℕ → Option Callee = settled nothing_known.names unit.items in
    let means : MeansTree unit typed = (typed_trees_elaborate unit typed).0 (h, none) in
    let parts : Parts = means.0 in
    let fs : map bare_function typed.functions ≡ parts.functions = ap (λ (u : TUnit). u.functions) (means.2).0 in
    let settles : Settles unit parts.functions = unit_settles unit parts means.1 in
    subst GivesInt (sym (shaped_at C typed.functions n f is (subst (AllOf (IsShaped C)) (sym fs) settles.0) ∙ ap C named)) settles.1
