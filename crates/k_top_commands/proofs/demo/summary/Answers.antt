use Rattle.std.proofs.Common.{◌∙◌, ◌++◌, false, w32}
use Rattle.std.proofs.lemmas.Int.{to_z-of_z}
use Rattle.k_regions.specs.Regions.{regions_of}
use Rattle.k_report_profile.specs.RunReport.{IsRunReport}
use Rattle.k_top_answers.specs.Answers.{ran_of}
use Rattle.k_top_lemmas.specs.Parts.{running_of}
use Rattle.k_top_answers.specs.Texts.{demo_line, run_lines}
use Rattle.k_top_lemmas.proofs.Machine.{summed_found}
use Rattle.k_top_lemmas.proofs.SummaryLemmas.{lines_told, summed}
use Rattle.k_top_commands.proofs.demo.summary.Goals as goal

pub summary_report-requires : goal.summary_report-requires
summary_report-requires c =
    let ran = ran_of (running_of c.args.ready.now) c.args.exit 24 in
    (ran, summed_found ran c.args.exit c.ranges.exit c.args.ops (regions_of c.args.ready.now.program.typed) c.in_ok-regions.regions c.in_ok-regions.ensures c.args.told c.requires)

pub returns : goal.returns
returns c =
    let ran = ran_of (running_of c.args.ready.now) c.args.exit 24 in
    let profiled = c.in_ok-profiled.profiled in
    let report : IsRunReport ran false profiled.saved profiled.report.items =
    c.in_ok-profiled.ensures.report ran
    (summed_found ran c.args.exit c.ranges.exit c.args.ops (regions_of c.args.ready.now.program.typed) c.in_ok-regions.regions c.in_ok-regions.ensures c.args.told c.requires) in
    summed c.args.number c.args.loops c.args.written ran _ c.in_ok-bytes.bytes.items
    (lines_told ran false profiled.report.items _ profiled.saved report c.in_ok-lines.ensures)
    (c.in_ok-bytes.ensures.items ∙ c.as_bytes.ensures.value ∙ c.in_ok-push_str.ensures.bytes
    ∙ (λ i. (c.in_ok-text.ensures ∙ (λ j. demo_line c.args.number c.args.loops ++ run_lines c.args.written (to_z-of_z w32 c.args.exit c.ranges.exit j) (c.requires.ops_are j))) i ++ c.as_str.ensures.value i))
