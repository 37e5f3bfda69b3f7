use Rattle.std.proofs.Common.{ℕ, ◌≡◌, List, ◌++◌, map, sym, ap, subst, ◌∙◌, Option}
use Rattle.k_evaluation.specs.States.{Program}
use Rattle.k_lower_extents.specs.declared.extent.Extent.{Extent}
use Rattle.k_lower_extents.specs.declared.extent.NumberedExtent.{NumberedExtent}
use Rattle.k_lower_extents.specs.Extents.{AreEntries}
use Rattle.k_lower_extents.specs.StatementSums.{function_size, functions_within}
use Rattle.k_lower_extents.proofs.ProgramExtents.{program_has}
use Rattle.k_lower_extents.proofs.unit.extents_of.Goals as goal

pub returns : goal.returns
returns c = λ latencies.
    (let program : Program = record { unit = c.args.unit.now; marks = c.args.marks.now; latencies = latencies } in
    (let found : c.as_slice-2.result.now ≡ functions_within program.marks.counted program.unit.functions =
    c.as_slice-2.ensures.value ∙ (c.in_ok-list_functions.ensures.found
    ∙ (ap (λ (xs : List NumberedExtent). xs ++ functions_within c.as_slice-counted.result.now c.as_slice.result.now) c.new-found.ensures.items
    ∙ (λ i. functions_within (c.as_slice-counted.ensures i) (c.as_slice.ensures i)))) in
    (let sizes : c.from_vec-2.result ≡ map (function_size program.marks.counted) program.unit.functions =
    c.from_vec-2.ensures ∙ (c.in_ok-list_functions.ensures.sizes
    ∙ (ap (λ (xs : List ℕ). xs ++ map (function_size c.as_slice-counted.result.now) c.as_slice.result.now) c.new-sizes.ensures.items
    ∙ (λ i. map (function_size (c.as_slice-counted.ensures i)) (c.as_slice.ensures i)))) in
    (let entries : AreEntries c.from_vec.result c.as_slice-2.result.now =
    subst (λ (t : List (Option Extent)). AreEntries t c.as_slice-2.result.now) (sym c.from_vec.ensures) c.in_ok-table.ensures in
    program_has program c.from_vec.result c.as_slice-2.result.now c.from_vec-2.result found sizes entries))))
