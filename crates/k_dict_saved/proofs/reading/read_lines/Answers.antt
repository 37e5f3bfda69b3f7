use Rattle.std.proofs.Common.{◌≡◌, ◌≤◌, arith, length, List, ℤ, sym, subst, None, Some}
use Rattle.std.specs.Int.{w32}
use Rattle.std.proofs.lemmas.Int.{to_z-of_z}
use Rattle.k_optab.specs.declared.region.Region.{Region}
use Rattle.k_dict_saved.specs.Reading.{FoundCount, HasHead}
use Rattle.k_dict_saved.proofs.Whole.{finished, refused_entries, refused_regions, wrong_at_count}
use Rattle.k_dict_saved.proofs.reading.read_lines.Goals as goal

pub returns-in-Err : goal.returns-in-Err
returns-in-Err c = refused_regions c.args.format c.in_ok-exit.exit c.in_ok-exit.ops c.in_ok-exit.count c.args.text.now c.in_ok-exit.region_text.now c.in_ok-exit.ensures c.in-Err.halt (c.in-Err.ensures c.args.format)

pub returns-in-None : goal.returns-in-None
returns-in-None c =
    let P : List Region → Type 0 = λ l. FoundCount l c.in-Ok.count_text.now None in
    wrong_at_count c.args.format c.in_ok-exit.exit c.in_ok-exit.ops c.in_ok-exit.count c.args.text.now c.in_ok-exit.region_text.now c.in_ok-exit.ensures c.in-Ok.list c.in-Ok.count_text.now (c.in-Ok.ensures c.args.format)
    (subst P c.as_slice.ensures c.in-None.ensures)

pub returns-in-Err-entries : goal.returns-in-Err-entries
returns-in-Err-entries c =
    let P : List Region → Type 0 = λ l. FoundCount l c.in-Ok.count_text.now (Some (c.in-Some.number, c.in-Some.entry_text.now)) in
    refused_entries c.args.format c.in_ok-exit.exit c.in_ok-exit.ops c.in_ok-exit.count c.args.text.now c.in_ok-exit.region_text.now c.in_ok-exit.ensures c.in-Ok.list c.in-Ok.count_text.now (c.in-Ok.ensures c.args.format)
    c.in-Some.number c.in-Some.entry_text.now (subst P c.as_slice.ensures c.in-Some.ensures) c.in-Err-entries.halt (c.in-Err-entries.ensures c.in-Ok.list (sym c.len.ensures))

pub returns-in-Ok-entries : goal.returns-in-Ok-entries
returns-in-Ok-entries c =
    let P : List Region → Type 0 = λ l. FoundCount l c.in-Ok.count_text.now (Some (c.in-Some.number, c.in-Some.entry_text.now)) in
    let H : ℤ → Type 0 = λ z. HasHead z c.in_ok-exit.ops c.in_ok-exit.count c.args.text.now c.in_ok-exit.region_text.now in
    let head = subst H (sym (to_z-of_z w32 c.in_ok-exit.exit c.in_ok-exit.ensures.exit_fits)) c.in_ok-exit.ensures in
    finished c.args.format _ c.in_ok-exit.ops c.in_ok-exit.count c.args.text.now c.in_ok-exit.region_text.now head c.in-Ok.list c.in-Ok.count_text.now (c.in-Ok.ensures c.args.format)
    c.in-Some.number c.in-Some.entry_text.now (subst P c.as_slice.ensures c.in-Some.ensures) c.in-Ok-entries.table c.in-Ok-entries.end.now
    (c.in-Ok-entries.ensures c.in-Ok.list (sym c.len.ensures)) c.finish.result c.finish.ensures

pub finish-requires : goal.finish-requires
finish-requires c = (c.in-Ok-entries.ensures c.in-Ok.list (sym c.len.ensures)).5

pub overflow_cast-len : goal.overflow_cast-len
overflow_cast-len c =
    let all : length c.in-Ok.list ≡ c.in_ok-exit.count = (c.in-Ok.ensures c.args.format).1 in
    let few : c.in_ok-exit.count ≤ 524288 = c.in_ok-exit.ensures.few in omega (arith, c.len.ensures)
