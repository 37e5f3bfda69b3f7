use Rattle.std.proofs.Common.{ℕ, List, subst}
use Rattle.std.proofs.lemmas.Result.{IfOk-weaker}
use Rattle.k_regions.specs.Regions.{regions_of}
use Rattle.k_data_profile.specs.Pages.{IsRunPage}
use Rattle.k_top_answers.specs.Answers.{ran_of}
use Rattle.k_top_lemmas.specs.Parts.{running_of}
use Rattle.k_top_lemmas.proofs.Machine.{summed_found}
use Rattle.k_top_commands.proofs.paged.page_text.Goals as goal

pub run_page-requires : goal.run_page-requires
run_page-requires c =
    let ran = ran_of (running_of c.args.ready.now) c.args.exit c.requires.0 in
    (ran, summed_found ran c.args.exit c.ranges.exit c.args.ops (regions_of c.args.ready.now.program.typed) c.in_ok-regions.regions c.in_ok-regions.ensures c.args.told c.requires.1)

pub returns : goal.returns
returns c =
    IfOk-weaker c.run_page.result _ _
    (λ text pages depth s.
    let ran = ran_of (running_of c.args.ready.now) c.args.exit depth in
    subst (λ (source : List ℕ). IsRunPage c.args.name.now source ran c.args.dict text.items) c.as_slice-source.ensures
    (pages ran (summed_found ran c.args.exit c.ranges.exit c.args.ops (regions_of c.args.ready.now.program.typed) c.in_ok-regions.regions c.in_ok-regions.ensures c.args.told s)))
    c.run_page.ensures
