use Rattle.std.proofs.Common.{◌≡◌, ◌<◌, Some, sym, arith}
use Rattle.k_spage.specs.Pages.{rows_under, page_size}
use Rattle.k_spage.proofs.Paged.{some_rows}
use Rattle.k_spage.proofs.pages.clear_page.Goals as goal

pub clear_rows-requires : goal.clear_rows-requires
clear_rows-requires c =
    let key = c.in-Some.key in
    let page = rows_under c.args.pages.now.slots (Some key) in
    let all : page_size page ≡ 256 = c.requires.pages.sizes c.args.page key (sym c.in-Some.ensures) in
    let some : 0 < page_size page = omega (arith, all) in
    record { there = some_rows page some }
