use Rattle.std.proofs.Common.{◌∙◌, ◌++◌, None, ap}
use Rattle.k_regions.specs.Regions.{regions_of}
use Rattle.k_top_answers.specs.Answers.{ran_of}
use Rattle.k_top_answers.specs.Steps.{run_of}
use Rattle.k_top_answers.specs.Texts.{with_report}
use Rattle.k_top_lemmas.specs.Parts.{running_of}
use Rattle.k_top_lemmas.proofs.Machine.{summed_found}
use Rattle.k_top_lemmas.proofs.Streaming.{held_report}
use Rattle.k_top_commands.proofs.reported.report_answer.Goals as goal

pub summary_report-requires : goal.summary_report-requires
summary_report-requires c =
    let ran = ran_of (running_of c.args.ready.now) c.args.exit c.requires.0 in
    (ran, summed_found ran c.args.exit c.ranges.exit c.args.ops (regions_of c.args.ready.now.program.typed) c.in_ok-regions.regions c.in_ok-regions.ensures c.args.told c.requires.1)

pub returns : goal.returns
returns c =
    let profiled = c.in_ok-profiled.profiled in
    let output = (run_of (running_of c.args.ready.now)).output in
    λ depth first s held.
    let ran = ran_of (running_of c.args.ready.now) c.args.exit depth in
    record {
      profile = profiled.saved;
      report = profiled.report.items;
      is_report = c.in_ok-profiled.ensures.report ran
          (summed_found ran c.args.exit c.ranges.exit c.args.ops (regions_of c.args.ready.now.program.typed) c.in_ok-regions.regions c.in_ok-regions.ensures c.args.told s);
      is = λ i. record {
        out = (ap (λ bytes. first ++ bytes) (c.from_vec.ensures ∙ c.in_ok-out.ensures ∙ ap (λ report. with_report c.args.rest.now report) c.as_slice.ensures.value)
            ∙ held_report first c.args.rest.now output profiled.report.items held) i;
        failure = None;
        more = None;
        saved = c.in_ok-saved.ensures i;
      };
    }
