use Rattle.k_spage.proofs.Paged.{named_within}
use Rattle.k_spage.proofs.pages.key_of_page.Goals as goal

pub bounds-table-page : goal.bounds-table-page
bounds-table-page c = named_within c.args.table.now c.args.page c.requires
