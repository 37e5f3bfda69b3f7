use Rattle.std.proofs.Common.{w32}
use Rattle.std.proofs.lemmas.Int.{to_z-of_z}
use Rattle.std.proofs.lemmas.Result.{IfOk-weaker}
use Rattle.k_data_profile.specs.Pages.{IsPage}
use Rattle.k_data_profile.proofs.Pages.{wide_page}
use Rattle.k_data_profile.proofs.paged.without_plan.Goals as goal

pub returns : goal.returns
returns c =
    IfOk-weaker c.page.result _ (λ text. IsPage c.args.name.now c.args.source.now c.args.saved.now c.args.with_dict text.items)
    (λ text is. wide_page c.args.name.now c.args.source.now c.args.saved.now c.args.with_dict c.args.rows.now c.new-contexts.result _ c.args.work c.args.path _
    text.items c.requires.rows c.requires.many c.new-contexts.ensures (to_z-of_z w32 c.args.saved.now.exit c.requires.saved.exit) c.requires.work c.requires.path
    c.listed.ensures is)
    c.page.ensures
