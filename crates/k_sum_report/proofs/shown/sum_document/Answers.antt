use Rattle.std.proofs.lemmas.Result.{IfOk-weaker}
use Rattle.k_sum_report.specs.SumReport.{IsSumDocument}
use Rattle.k_sum_report.proofs.Texts.{parts_document}
use Rattle.k_sum_report.proofs.shown.sum_document.Goals as goal

pub returns : goal.returns
returns c =
    IfOk-weaker c.sum_json.result _ (λ text. IsSumDocument c.args.sum.now c.args.with_dict text.items)
    (λ text is. parts_document c.args.sum.now c.args.with_dict c.in_ok-parts.parts c.in_ok-parts.ensures _ c.listed.ensures _ c.as_ref.ensures.value text.items is)
    c.sum_json.ensures
