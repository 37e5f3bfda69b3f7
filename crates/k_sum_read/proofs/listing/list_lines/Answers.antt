use Rattle.std.proofs.Common.{List, None, Some, refl, subst, sym}
use Rattle.k_optab.specs.declared.region.Region.{Region}
use Rattle.k_dict_saved.specs.Reading.{FoundCount}
use Rattle.k_sum_read.proofs.ListSteps.{all_listed, no_count, refused_entries, refused_regions, wrong_at_count}
use Rattle.k_sum_read.proofs.listing.list_lines.Goals as goal

pub returns-in_default : goal.returns-in_default
returns-in_default c = no_count c.args.text.now c.in_default.ensures.value

pub returns-in-Err : goal.returns-in-Err
returns-in-Err c = refused_regions c.args.text.now c.in-Some.count c.in-Some.region_text.now c.in-Some.ensures.value c.in-Err.halt c.in-Err.ensures

pub returns-in-None : goal.returns-in-None
returns-in-None c =
    let P : List Region → Type 0 = λ l. FoundCount l c.in-Ok.count_text.now None in
    wrong_at_count c.args.text.now c.in-Some.count c.in-Some.region_text.now c.in-Some.ensures.value c.in-Ok.list c.in-Ok.count_text.now c.in-Ok.ensures (subst P c.as_slice.ensures c.in-None.ensures)

pub returns-in-Err-entries : goal.returns-in-Err-entries
returns-in-Err-entries c =
    let P : List Region → Type 0 = λ l. FoundCount l c.in-Ok.count_text.now (Some (c.in-Some-count_line.number, c.in-Some-count_line.entry_text.now)) in
    refused_entries c.args.text.now c.in-Some.count c.in-Some.region_text.now c.in-Some.ensures.value c.in-Ok.list c.in-Ok.count_text.now c.in-Ok.ensures
    c.in-Some-count_line.number c.in-Some-count_line.entry_text.now (subst P c.as_slice.ensures c.in-Some-count_line.ensures) c.in-Err-entries.halt (c.in-Err-entries.ensures c.in-Ok.list (sym c.len.ensures))

pub returns-in-Ok-entries : goal.returns-in-Ok-entries
returns-in-Ok-entries c =
    let P : List Region → Type 0 = λ l. FoundCount l c.in-Ok.count_text.now (Some (c.in-Some-count_line.number, c.in-Some-count_line.entry_text.now)) in
    all_listed c.args.text.now c.in-Some.count c.in-Some.region_text.now c.in-Some.ensures.value c.in-Ok.list c.in-Ok.count_text.now c.in-Ok.ensures
    c.in-Some-count_line.number c.in-Some-count_line.entry_text.now (subst P c.as_slice.ensures c.in-Some-count_line.ensures) c.in-Ok-entries.table c.in-Ok-entries.extents c.in-Ok-entries.rest.now
    (c.in-Ok-entries.ensures c.in-Ok.list (sym c.len.ensures)) _ refl
