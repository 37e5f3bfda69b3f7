use Rattle.k_top_lemmas.specs.Parts.{running_of}
use Rattle.k_top_lemmas.proofs.AnnotateLemmas.{returned_annotated}
use Rattle.k_top_lemmas.proofs.Machine.{shown_returned, summed_shown}
use Rattle.k_top_commands.proofs.annotated.profile_answer.Goals as goal

pub annotation_text-requires-clause-summed : goal.annotation_text-requires-clause-summed
annotation_text-requires-clause-summed c =
    let (depth, first, fit, is) = c.requires in
    (depth, summed_shown c.args.ready.now depth fit first c.args.profile is c.in-Returned.exit c.in-Returned.is c.dict_of-told.result c.dict_of-told.ensures)

pub annotation_text-requires-clause-short : goal.annotation_text-requires-clause-short
annotation_text-requires-clause-short c = let (depth, first, fit, is) = c.requires in fit.program.short

pub returns-in_ok-text-in-Returned : goal.returns-in_ok-text-in-Returned
returns-in_ok-text-in-Returned c =
    λ depth first strict fit is finds.
    returned_annotated c.args.ready.now.program.source (running_of c.args.ready.now) depth first c.args.profile is strict c.args.found.now.loops finds _
    (shown_returned c.args.ready.now depth fit first c.args.profile is c.in-Returned.exit c.in-Returned.is) c.args.ready.now.program.marks fit.program.marks
    c.in_ok-text-in-Returned.text.items
    (c.in_ok-text-in-Returned.ensures depth
    (summed_shown c.args.ready.now depth fit first c.args.profile is c.in-Returned.exit c.in-Returned.is c.dict_of-told.result c.dict_of-told.ensures))
    c.done.result c.done.ensures
