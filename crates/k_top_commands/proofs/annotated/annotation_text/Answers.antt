use Rattle.std.proofs.Common.{ℕ, List, ◌≤◌, length, sym, subst}
use Rattle.std.proofs.lemmas.Result.{IfOk-weaker}
use Rattle.k_regions.specs.Regions.{regions_of}
use Rattle.k_pragma_profile.specs.Annotated.{IsRunAnnotation}
use Rattle.k_top_answers.specs.Answers.{ran_of}
use Rattle.k_top_lemmas.specs.Parts.{running_of}
use Rattle.k_top_lemmas.proofs.Machine.{summed_found}
use Rattle.k_top_commands.proofs.annotated.annotation_text.Goals as goal

pub run_annotation-requires-clause-summed : goal.run_annotation-requires-clause-summed
run_annotation-requires-clause-summed c =
    let ran = ran_of (running_of c.args.ready.now) c.args.exit c.requires.summed.0 in
    (ran, summed_found ran c.args.exit c.ranges.exit c.args.ops (regions_of c.args.ready.now.program.typed) c.in_ok-regions.regions c.in_ok-regions.ensures c.args.told c.requires.summed.1)

pub run_annotation-requires-clause-short : goal.run_annotation-requires-clause-short
run_annotation-requires-clause-short c = subst (λ (source : List ℕ). length source ≤ 1048576) (sym c.as_slice-source.ensures) c.requires.short

pub returns : goal.returns
returns c =
    let p = c.args.ready.now.program in
    IfOk-weaker c.run_annotation.result _ _
    (λ text told depth s.
    let ran = ran_of (running_of c.args.ready.now) c.args.exit depth in
    subst (λ (source : List ℕ). IsRunAnnotation source p.typed p.marks ran c.args.found.now.loops text.items) c.as_slice-source.ensures
    (told ran (summed_found ran c.args.exit c.ranges.exit c.args.ops (regions_of p.typed) c.in_ok-regions.regions c.in_ok-regions.ensures c.args.told s)))
    c.run_annotation.ensures
