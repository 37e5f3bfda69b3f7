use Rattle.std.proofs.Common.{refl, rules}
use Rattle.k_spage.specs.Pages.{page_width, page_greatest}
use Rattle.k_spage.proofs.Paged.{IsNewPage, new_page_rows, ArePages-new, new_page_more, HasRowsFor-new}
use Rattle.k_spage.proofs.pages.add_page.Goals as goal

pub returns : goal.returns
returns c =
    let e = c.insert_reserved-key.ensures in
    let old = c.args.pages.now.slots in
    let new = c.insert_reserved-key.new.self.slots in
    let table = c.args.table.now.items in
    let page = c.args.page in
    let key = c.insert_reserved-key.result in
    let rows = c.args.rows in
    let n : IsNewPage old new table page key rows = record {
      pages = c.requires.pages;
      named = c.requires.named;
      absent = c.requires.absent;
      vacant = e.was_vacant;
      made = e.updates.changed;
      counted = c.requires.size;
      blank = c.requires.blank;
      others = e.updates.others;
      count = e.len;
    } in
    record {
      pages = ArePages-new old new table page key rows n;
      same = new_page_rows old new table page key rows n;
      wider = new_page_more (λ o. page_width o) refl old new table page key rows n;
      greater = new_page_more (λ o. page_greatest o) refl old new table page key rows n;
      others = search rules;
      kept = search rules;
      here = HasRowsFor-new old new table page key rows n;
    }
