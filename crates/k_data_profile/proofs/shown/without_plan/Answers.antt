use Rattle.std.proofs.Common.{w32}
use Rattle.std.proofs.lemmas.Int.{to_z-of_z}
use Rattle.std.proofs.lemmas.Result.{IfOk-weaker}
use Rattle.k_data_profile.specs.Shown.{IsDocument}
use Rattle.k_data_profile.proofs.Texts.{wide_document}
use Rattle.k_data_profile.proofs.shown.without_plan.Goals as goal

pub returns : goal.returns
returns c =
    IfOk-weaker c.profile_json.result _ (λ text. IsDocument c.args.saved.now c.args.with_dict text.items)
    (λ text is. wide_document c.args.saved.now c.args.with_dict c.args.rows.now c.new-contexts.result _ _ text.items
    c.requires.rows c.requires.many c.new-contexts.ensures (to_z-of_z w32 c.args.saved.now.exit c.requires.saved.exit) c.listed.ensures is)
    c.profile_json.ensures
