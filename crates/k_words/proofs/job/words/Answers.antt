use Rattle.std.proofs.Common.{◌∙◌, Some, ap, string_bytes, sym}
use Rattle.k_words.specs.declared.option.Command.TheVariants.{Run, Graph, Carried, Replay, Page, Annotate, Show, Merge, Check, Demo}
use Rattle.k_words.specs.Settings.{seen_words}
use Rattle.k_words.specs.Words.{command_of}
use Rattle.k_words.proofs.Answering.{of_arguments}
use Rattle.k_words.proofs.job.words.Goals as goal

pub returns-in-Some-Run : goal.returns-in-Some-Run
returns-in-Some-Run c =
    of_arguments (seen_words c.args.list.now) (string_bytes c.in-Some.command.now) (seen_words c.in-Some.arguments.now) Run c.run_job.result
    (ap seen_words c.in-Some.ensures.cases.0)
    (ap command_of (sym c.as_str.ensures.value) ∙ sym c.command_of.ensures ∙ c.in-Some-Run.is ∙ ap Some c.in-Some-Run.field-0-is) c.run_job.ensures

pub returns-in-Some-Graph : goal.returns-in-Some-Graph
returns-in-Some-Graph c =
    of_arguments (seen_words c.args.list.now) (string_bytes c.in-Some.command.now) (seen_words c.in-Some.arguments.now) Graph c.graph_job.result
    (ap seen_words c.in-Some.ensures.cases.0)
    (ap command_of (sym c.as_str.ensures.value) ∙ sym c.command_of.ensures ∙ c.in-Some-Graph.is ∙ ap Some c.in-Some-Graph.field-0-is) c.graph_job.ensures

pub returns-in-Some-Carried : goal.returns-in-Some-Carried
returns-in-Some-Carried c =
    of_arguments (seen_words c.args.list.now) (string_bytes c.in-Some.command.now) (seen_words c.in-Some.arguments.now) Carried c.carried_job.result
    (ap seen_words c.in-Some.ensures.cases.0)
    (ap command_of (sym c.as_str.ensures.value) ∙ sym c.command_of.ensures ∙ c.in-Some-Carried.is ∙ ap Some c.in-Some-Carried.field-0-is) c.carried_job.ensures

pub returns-in-Some-Replay : goal.returns-in-Some-Replay
returns-in-Some-Replay c =
    of_arguments (seen_words c.args.list.now) (string_bytes c.in-Some.command.now) (seen_words c.in-Some.arguments.now) Replay c.replay_job.result
    (ap seen_words c.in-Some.ensures.cases.0)
    (ap command_of (sym c.as_str.ensures.value) ∙ sym c.command_of.ensures ∙ c.in-Some-Replay.is ∙ ap Some c.in-Some-Replay.field-0-is) c.replay_job.ensures

pub returns-in-Some-Page : goal.returns-in-Some-Page
returns-in-Some-Page c =
    of_arguments (seen_words c.args.list.now) (string_bytes c.in-Some.command.now) (seen_words c.in-Some.arguments.now) Page c.page_job.result
    (ap seen_words c.in-Some.ensures.cases.0)
    (ap command_of (sym c.as_str.ensures.value) ∙ sym c.command_of.ensures ∙ c.in-Some-Page.is ∙ ap Some c.in-Some-Page.field-0-is) c.page_job.ensures

pub returns-in-Some-Annotate : goal.returns-in-Some-Annotate
returns-in-Some-Annotate c =
    of_arguments (seen_words c.args.list.now) (string_bytes c.in-Some.command.now) (seen_words c.in-Some.arguments.now) Annotate c.annotate_job.result
    (ap seen_words c.in-Some.ensures.cases.0)
    (ap command_of (sym c.as_str.ensures.value) ∙ sym c.command_of.ensures ∙ c.in-Some-Annotate.is ∙ ap Some c.in-Some-Annotate.field-0-is) c.annotate_job.ensures

pub returns-in-Some-Show : goal.returns-in-Some-Show
returns-in-Some-Show c =
    of_arguments (seen_words c.args.list.now) (string_bytes c.in-Some.command.now) (seen_words c.in-Some.arguments.now) Show c.show_job.result
    (ap seen_words c.in-Some.ensures.cases.0)
    (ap command_of (sym c.as_str.ensures.value) ∙ sym c.command_of.ensures ∙ c.in-Some-Show.is ∙ ap Some c.in-Some-Show.field-0-is) c.show_job.ensures

pub returns-in-Some-Merge : goal.returns-in-Some-Merge
returns-in-Some-Merge c =
    of_arguments (seen_words c.args.list.now) (string_bytes c.in-Some.command.now) (seen_words c.in-Some.arguments.now) Merge c.merge_job.result
    (ap seen_words c.in-Some.ensures.cases.0)
    (ap command_of (sym c.as_str.ensures.value) ∙ sym c.command_of.ensures ∙ c.in-Some-Merge.is ∙ ap Some c.in-Some-Merge.field-0-is) c.merge_job.ensures

pub returns-in-Some-Check : goal.returns-in-Some-Check
returns-in-Some-Check c =
    of_arguments (seen_words c.args.list.now) (string_bytes c.in-Some.command.now) (seen_words c.in-Some.arguments.now) Check c.check_job.result
    (ap seen_words c.in-Some.ensures.cases.0)
    (ap command_of (sym c.as_str.ensures.value) ∙ sym c.command_of.ensures ∙ c.in-Some-Check.is ∙ ap Some c.in-Some-Check.field-0-is) c.check_job.ensures

pub returns-in-Some-Demo : goal.returns-in-Some-Demo
returns-in-Some-Demo c =
    of_arguments (seen_words c.args.list.now) (string_bytes c.in-Some.command.now) (seen_words c.in-Some.arguments.now) Demo c.demo_job.result
    (ap seen_words c.in-Some.ensures.cases.0)
    (ap command_of (sym c.as_str.ensures.value) ∙ sym c.command_of.ensures ∙ c.in-Some-Demo.is ∙ ap Some c.in-Some-Demo.field-0-is) c.demo_job.ensures
