-- The extents of a program, from what the code lists of its functions.
use Rattle.std.proofs.Common.{ℕ, zero, suc, ◌≡◌, ◌+◌, ◌<◌, nat_eq, Bool, List, [], ◌∷◌, ◌++◌, map, take, drop, get_or, length, slice_get, Option, Some, refl, sym, ap, subst, ◌∙◌, append_assoc, arith}
use Rattle.std.specs.Prelude.{if◌then◌else◌}
use Rattle.std.proofs.lemmas.Bool.{ne_eqb}
use Rattle.std.proofs.lemmas.List.{drop_more}
use Rattle.std.proofs.lemmas.Option.{none-some}
use Rattle.k_num.specs.declared.place.Place.{Place}
use Rattle.k_types_meaning.specs.declared.tree.statement.TStmt.{TStmt}
use Rattle.k_types_meaning.specs.declared.tree.unit.TFunc.{TFunc}
use Rattle.k_types_meaning.specs.declared.tree.unit.TVariable.{TVariable}
use Rattle.k_evaluation.specs.States.{Program}
use Rattle.k_lower_code.specs.Functions.{serves_by, serves, inside, function}
use Rattle.k_lower_code.specs.Statements.{lowered}
use Rattle.k_lower_code.specs.Stretches.{Inside, in_order}
use Rattle.k_lower_extents.specs.declared.extent.Extent.{Extent}
use Rattle.k_lower_extents.specs.declared.extent.NumberedExtent.{NumberedExtent}
use Rattle.k_lower_extents.specs.Extents.{AreEntries, HasExtents, all_extents, extent_of, listed}
use Rattle.k_lower_extents.specs.StatementSums as sums
use Rattle.k_lower_extents.proofs.ListedExtents.{summed_listed}
use Rattle.k_lower_extents.proofs.NestedExtents.{front, itself_is, rest}
use Rattle.k_lower_extents.proofs.StatementRows.{order_row}

-- parameters
served_by : (program : Program) (r : ℕ) (place : Place) (n elements : ℕ) → (serves_by program r place n elements).size ≡ (if nat_eq elements 0 then 0 else 4)
served_by program r place n zero = refl
served_by program r place n (suc elements) = ap (λ (b : Bool). if b then 0 else 4) (sym (ne_eqb (suc elements) 0 (λ is. absurd (omega (arith, is)))))

served : (program : Program) (r : ℕ) (close : Place) (n count : ℕ) (vs : List TVariable) → (serves program r close n count vs).size ≡ sums.served_size (take count vs)
served program r close n zero vs = refl
served program r close n (suc count) [] = refl
served program r close n (suc count) (v ∷ vs) =
    (let one : (serves_by program r v.place n v.elements).size ≡ (if nat_eq v.elements 0 then 0 else 4) = served_by program r v.place n v.elements in
    (let more : (serves program r close (n + 1) count vs).size ≡ sums.served_size (take count vs) = served program r close (n + 1) count vs in
    omega (arith, one, more)))

module _ (w : Inside) where
  -- the statements of a function
  within_same : (ss : List TStmt) → sums.all_within (map (sums.summed_stmt w.vars w.program.marks.counted) ss) ≡ all_extents (map (listed w) ss)
  within_same [] = refl
  within_same (s ∷ ss) = λ i. (summed_listed w s i).extents ++ within_same ss i

  themselves_same : (ss : List TStmt) → sums.themselves (map (sums.summed_stmt w.vars w.program.marks.counted) ss) ≡ map extent_of (map (lowered w) ss)
  themselves_same [] = refl
  themselves_same (s ∷ ss) =
      (let one : (sums.summed_stmt w.vars w.program.marks.counted s).itself ≡ extent_of (lowered w s) =
      ap (λ (x : sums.Summed). x.itself) (summed_listed w s) ∙ ap extent_of (itself_is w s) in
      (λ i. one i ∷ themselves_same ss i))

-- A FUNCTION
pub function_sized : (program : Program) (n : ℕ) (f : TFunc) → (function program n f).size ≡ sums.function_size program.marks.counted f
unfolding function
function_sized program n f =
    (let w : Inside = inside program n f in
    (let front : (serves program (length f.variables) f.close 0 f.params f.variables).size ≡ sums.served_size (take f.params f.variables) =
    served program (length f.variables) f.close 0 f.params f.variables in
    (let text : (in_order program f.close (map (lowered w) f.body)).size
    ≡ (sums.in_order (sums.themselves (map (sums.summed_stmt f.variables program.marks.counted) f.body))).size =
    ap (λ (x : Extent). x.size) (order_row program f.close (map (lowered w) f.body) ∙ ap sums.in_order (sym (themselves_same w f.body))) in
    omega (arith, front, text))))

-- THE FUNCTIONS OF A PROGRAM, by their numbers
same_Some : {X : Type 0} (x y : X) → Some x ≡ Some y → x ≡ y
same_Some x y is = cc

statements_of_function : (t : List (Option Extent)) (counted : List Bool) (fs : List TFunc) (n : ℕ) (f : TFunc) → slice_get fs n ≡ Some f
    → AreEntries t (sums.functions_within counted fs) → AreEntries t (sums.function_within counted f)
statements_of_function t counted [] n f is all = absurd (none-some f is)
statements_of_function t counted (g ∷ fs) zero f is all =
    subst (λ (x : TFunc). AreEntries t (sums.function_within counted x)) (same_Some g f is) (front t (sums.function_within counted g) (sums.functions_within counted fs) all)
statements_of_function t counted (g ∷ fs) (suc n) f is all =
    statements_of_function t counted fs n f is (rest t (sums.function_within counted g) (sums.functions_within counted fs) all)

size_of_function : (counted : List Bool) (fs : List TFunc) (n : ℕ) (f : TFunc) → slice_get fs n ≡ Some f
    → slice_get (map (sums.function_size counted) fs) n ≡ Some (sums.function_size counted f)
size_of_function counted [] n f is = absurd (none-some f is)
size_of_function counted (g ∷ fs) zero f is = ap (λ (x : TFunc). Some (sums.function_size counted x)) (same_Some g f is)
size_of_function counted (g ∷ fs) (suc n) f is = size_of_function counted fs n f is

-- A PROGRAM
pub program_has : (program : Program) (t : List (Option Extent)) (found : List NumberedExtent) (sizes : List ℕ)
    → found ≡ sums.functions_within program.marks.counted program.unit.functions → sizes ≡ map (sums.function_size program.marks.counted) program.unit.functions
    → AreEntries t found → HasExtents program (record { statements = t; functions = sizes })
program_has program t found sizes found_is sizes_are all = record {
  statements = λ n f is.
      subst (AreEntries t) (within_same (inside program n f) f.body)
      (statements_of_function t program.marks.counted program.unit.functions n f is (subst (AreEntries t) found_is all));
  functions = λ n f is.
      ap (λ (xs : List ℕ). slice_get xs n) sizes_are
      ∙ (size_of_function program.marks.counted program.unit.functions n f is ∙ ap (λ (size : ℕ). Some size) (sym (function_sized program n f)));
}

-- one function more
pub more_sizes : (counted : List Bool) (fs : List TFunc) (i : ℕ) (f : TFunc) (before more all : List ℕ) (size : ℕ) → i < length fs → f ≡ get_or fs i f
    → more ≡ before ++ size ∷ [] → size ≡ sums.function_size counted f → before ++ map (sums.function_size counted) (drop i fs) ≡ all
    → more ++ map (sums.function_size counted) (drop (i + 1) fs) ≡ all
more_sizes counted fs i f before more all size below is more_is size_is so_far =
    (let here : drop i fs ≡ f ∷ drop (i + 1) fs = drop_more fs i f below ∙ ap (λ (g : TFunc). g ∷ drop (i + 1) fs) (sym is) in
    ap (λ (xs : List ℕ). xs ++ map (sums.function_size counted) (drop (i + 1) fs)) more_is
    ∙ (append_assoc before (size ∷ []) (map (sums.function_size counted) (drop (i + 1) fs))
    ∙ (ap (λ (n : ℕ). before ++ n ∷ map (sums.function_size counted) (drop (i + 1) fs)) size_is
    ∙ (ap (λ (gs : List TFunc). before ++ map (sums.function_size counted) gs) (sym here) ∙ so_far))))

pub more_within : (counted : List Bool) (fs : List TFunc) (i : ℕ) (f : TFunc) (before more all : List NumberedExtent) → i < length fs → f ≡ get_or fs i f
    → more ≡ before ++ sums.function_within counted f → before ++ sums.functions_within counted (drop i fs) ≡ all
    → more ++ sums.functions_within counted (drop (i + 1) fs) ≡ all
more_within counted fs i f before more all below is more_is so_far =
    (let here : drop i fs ≡ f ∷ drop (i + 1) fs = drop_more fs i f below ∙ ap (λ (g : TFunc). g ∷ drop (i + 1) fs) (sym is) in
    ap (λ (xs : List NumberedExtent). xs ++ sums.functions_within counted (drop (i + 1) fs)) more_is
    ∙ (append_assoc before (sums.function_within counted f) (sums.functions_within counted (drop (i + 1) fs))
    ∙ (ap (λ (gs : List TFunc). before ++ sums.functions_within counted gs) (sym here) ∙ so_far)))
