use Rattle.std.proofs.Common.{refl, sym, subst}
use Rattle.k_words.specs.Within.{IsJobWithin}
use Rattle.k_words.specs.declared.job.Form.TheVariants as shown
use Rattle.k_words.specs.declared.job.Job.{Job}
use Rattle.k_top_lemmas.specs.Phases.{Around, FindsJob}
use Rattle.k_top_lemmas.proofs.FileLemmas.{check_found, show_found}
use Rattle.k_top_lemmas.proofs.MergeLemmas.{merge_found}
use Rattle.k_top.proofs.asked.untimed_answer.Goals as goal

pub graph_job-requires : goal.graph_job-requires
graph_job-requires g c = subst IsJobWithin c.in-Graph.is c.requires.within

pub carried_job-requires : goal.carried_job-requires
carried_job-requires g c = subst IsJobWithin c.in-Carried.is c.requires.within

pub replay_job-requires : goal.replay_job-requires
replay_job-requires g c = subst IsJobWithin c.in-Replay.is c.requires.within

pub merge_answer-requires : goal.merge_answer-requires
merge_answer-requires g c = (subst IsJobWithin c.in-Merge.is c.requires.within).once

pub returns-in-Graph : goal.returns-in-Graph
returns-in-Graph g c =
    let old : Around = record { files = g.F.Files.seen c.args.files.now; input = g.S.Source.seen c.args.input.now } in
    let new : Around = record { files = g.F.Files.seen c.graph_job.new.files; input = g.S.Source.seen c.graph_job.new.input } in
    subst (λ (j : Job). FindsJob c.graph_job.result j old new) (sym c.in-Graph.is) c.graph_job.ensures

pub returns-in-Carried : goal.returns-in-Carried
returns-in-Carried g c =
    let old : Around = record { files = g.F.Files.seen c.args.files.now; input = g.S.Source.seen c.args.input.now } in
    let new : Around = record { files = g.F.Files.seen c.carried_job.new.files; input = g.S.Source.seen c.carried_job.new.input } in
    subst (λ (j : Job). FindsJob c.carried_job.result j old new) (sym c.in-Carried.is) c.carried_job.ensures

pub returns-in-Replay : goal.returns-in-Replay
returns-in-Replay g c =
    let old : Around = record { files = g.F.Files.seen c.args.files.now; input = g.S.Source.seen c.args.input.now } in
    let new : Around = record { files = g.F.Files.seen c.replay_job.new.files; input = g.S.Source.seen c.replay_job.new.input } in
    subst (λ (j : Job). FindsJob c.replay_job.result j old new) (sym c.in-Replay.is) c.replay_job.ensures

pub returns-in-Show : goal.returns-in-Show
returns-in-Show g c =
    let old : Around = record { files = g.F.Files.seen c.args.files.now; input = g.S.Source.seen c.args.input.now } in
    let new : Around = record { files = g.F.Files.seen c.show_answer.new.files; input = g.S.Source.seen c.args.input.now } in
    subst (λ (j : Job). FindsJob c.show_answer.result j old new) (sym c.in-Show.is) (show_found c.in-Show.file (shown.Report c.in-Show.dict) old new refl c.show_answer.result c.show_answer.ensures)

pub returns-in-ShowJson : goal.returns-in-ShowJson
returns-in-ShowJson g c =
    let old : Around = record { files = g.F.Files.seen c.args.files.now; input = g.S.Source.seen c.args.input.now } in
    let new : Around = record { files = g.F.Files.seen c.show_answer-in-ShowJson.new.files; input = g.S.Source.seen c.args.input.now } in
    subst (λ (j : Job). FindsJob c.show_answer-in-ShowJson.result j old new) (sym c.in-ShowJson.is) (show_found c.in-ShowJson.file (shown.Json c.in-ShowJson.dict) old new refl c.show_answer-in-ShowJson.result c.show_answer-in-ShowJson.ensures)

pub returns-in-ShowCsv : goal.returns-in-ShowCsv
returns-in-ShowCsv g c =
    let old : Around = record { files = g.F.Files.seen c.args.files.now; input = g.S.Source.seen c.args.input.now } in
    let new : Around = record { files = g.F.Files.seen c.show_answer-in-ShowCsv.new.files; input = g.S.Source.seen c.args.input.now } in
    subst (λ (j : Job). FindsJob c.show_answer-in-ShowCsv.result j old new) (sym c.in-ShowCsv.is) (show_found c.in-ShowCsv.file shown.Csv old new refl c.show_answer-in-ShowCsv.result c.show_answer-in-ShowCsv.ensures)

pub returns-in-Merge : goal.returns-in-Merge
returns-in-Merge g c =
    let old : Around = record { files = g.F.Files.seen c.args.files.now; input = g.S.Source.seen c.args.input.now } in
    let new : Around = record { files = g.F.Files.seen c.merge_answer.new.files; input = g.S.Source.seen c.args.input.now } in
    subst (λ (j : Job). FindsJob c.merge_answer.result j old new) (sym c.in-Merge.is) (merge_found c.in-Merge.save c.in-Merge.parts old new refl c.merge_answer.result c.merge_answer.ensures)

pub returns-in-Check : goal.returns-in-Check
returns-in-Check g c =
    let old : Around = record { files = g.F.Files.seen c.args.files.now; input = g.S.Source.seen c.args.input.now } in
    let new : Around = record { files = g.F.Files.seen c.check_answer.new.files; input = g.S.Source.seen c.args.input.now } in
    subst (λ (j : Job). FindsJob c.check_answer.result j old new) (sym c.in-Check.is) (check_found c.in-Check.file old new refl c.check_answer.result c.check_answer.ensures)
