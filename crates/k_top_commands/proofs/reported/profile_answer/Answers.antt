use Rattle.std.proofs.Common.{ℕ, List, subst, sym}
use Rattle.std.proofs.lemmas.Result.{IfOk-weaker}
use Rattle.k_top_answers.specs.Steps.{run_of}
use Rattle.k_top_lemmas.specs.Parts.{running_of}
use Rattle.k_top_lemmas.specs.Streams.{IsSplit}
use Rattle.k_top_lemmas.proofs.Machine.{shown_returned, summed_shown}
use Rattle.k_top_lemmas.proofs.Streaming.{held, returned_streamed}
use Rattle.k_top_commands.proofs.reported.profile_answer.Goals as goal

pub report_answer-requires : goal.report_answer-requires
report_answer-requires c =
    let (depth, first, fit, is) = c.requires in
    (depth, summed_shown c.args.ready.now depth fit first c.args.profile is c.in-Returned.exit c.in-Returned.is c.dict_of-told.result c.dict_of-told.ensures)

pub returns-in-Returned : goal.returns-in-Returned
returns-in-Returned c =
    let r = running_of c.args.ready.now in
    let p = c.args.profile in
    IfOk-weaker c.report_answer.result _ _
    (λ answer reported depth first fit is.
    returned_streamed r depth c.args.dict c.args.save first p is _ (shown_returned c.args.ready.now depth fit first p is c.in-Returned.exit c.in-Returned.is) answer
    (reported depth first (summed_shown c.args.ready.now depth fit first p is c.in-Returned.exit c.in-Returned.is c.dict_of-told.result c.dict_of-told.ensures)
    (subst (λ (rest : List ℕ). IsSplit first rest (run_of r).output) (sym c.as_slice.ensures) (held r depth c.args.dict c.args.save first p is))))
    c.report_answer.ensures
