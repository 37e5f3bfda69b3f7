use Rattle.std.proofs.Common.{◌∙◌, ap, string_bytes}
use Rattle.std.proofs.lemmas.Result.{IfOk-weaker}
use Rattle.k_report_profile.specs.Report.{nodes_of_profile}
use Rattle.k_top_lemmas.specs.Parts.{IsTreeText}
use Rattle.k_top_answers.specs.Texts.{root_lines}
use Rattle.k_top_lemmas.proofs.Reporting.{tree_told}
use Rattle.k_top_commands.proofs.summary.tree_text.Goals as goal

pub returns : goal.returns
returns c =
    let entry = c.entry-root.result.now in
    IfOk-weaker c.root_text.result _ (λ text. IsTreeText (nodes_of_profile c.args.saved.now) (string_bytes text))
    (λ text is. tree_told c.args.saved.now c.len-at.result entry c.in_ok-rows.field-0 (string_bytes text) c.requires c.len-at.ensures.count
    c.entry-root.ensures.value c.in_ok-rows.ensures.rows (is ∙ ap (root_lines entry.work entry.path) c.len-count.ensures))
    c.root_text.ensures
