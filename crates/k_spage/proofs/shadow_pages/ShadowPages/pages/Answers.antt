use Rattle.std.proofs.Common.{◌∙◌, ap, sym, count_by, is_some}
use Rattle.std.proofs.lemmas.List.{take_all}
use Rattle.k_spage.proofs.Counted.{count_below-keys}
use Rattle.k_spage.proofs.shadow_pages.ShadowPages.pages.Goals as goal

pub returns : goal.returns
returns c =
    let s = c.args.self.now in
    let table = s.table.items in
    record { count = c.len.ensures ∙ s.kept.counted ∙ sym (count_below-keys table 16384 ∙ ap (λ keys. count_by is_some keys) (take_all 16384 table s.kept.few)) }
