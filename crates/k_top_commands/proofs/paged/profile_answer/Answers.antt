use Rattle.k_top_lemmas.specs.Parts.{running_of}
use Rattle.k_top_lemmas.proofs.Machine.{shown_returned, summed_shown}
use Rattle.k_top_lemmas.proofs.PageLemmas.{returned_paged}
use Rattle.k_top_commands.proofs.paged.profile_answer.Goals as goal

pub page_text-requires : goal.page_text-requires
page_text-requires c =
    let (depth, first, fit, is) = c.requires in
    (depth, summed_shown c.args.ready.now depth fit first c.args.profile is c.in-Returned.exit c.in-Returned.is c.dict_of-told.result c.dict_of-told.ensures)

pub returns-in_ok-text-in-Returned : goal.returns-in_ok-text-in-Returned
returns-in_ok-text-in-Returned c =
    λ depth first fit is.
    returned_paged c.args.name.now c.args.ready.now.program.source c.args.dict (running_of c.args.ready.now) depth first c.args.profile is _
    (shown_returned c.args.ready.now depth fit first c.args.profile is c.in-Returned.exit c.in-Returned.is) c.in_ok-text-in-Returned.text.items
    (c.in_ok-text-in-Returned.ensures depth
    (summed_shown c.args.ready.now depth fit first c.args.profile is c.in-Returned.exit c.in-Returned.is c.dict_of-told.result c.dict_of-told.ensures))
    c.done.result c.done.ensures
