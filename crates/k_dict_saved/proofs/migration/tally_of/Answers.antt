use Rattle.std.proofs.lemmas.List.{nil_from_length}
use Rattle.k_dict_saved.proofs.Migrating.{add_fits, renumbering_done, renumbering_more, renumbering_start}
use Rattle.k_dict_saved.proofs.migration.tally_of.Goals as goal

pub loop-run-init : goal.loop-run-init
loop-run-init c = renumbering_start c.args.numbers.now c.args.runs.now c.new-tally.result c.requires.below c.new-tally.ensures

pub add-requires : goal.add-requires
add-requires c =
    add_fits c.number_at-number.result c.loop-run.tally c.in-Some.run'.now c.loop-run.rest.now c.in-Some.later.now c.args.runs.now c.loop-run.invariant.sum
    c.in-Some.ensures.cases.0 c.requires.few

pub loop-run-preserved : goal.loop-run-preserved
loop-run-preserved c =
    renumbering_more c.args.numbers.now c.args.runs.now c.loop-run.rest.now c.in-Some.later.now c.loop-run.tally c.add.new.self c.in-Some.run'.now
    c.number_at-number.result c.loop-run.invariant c.in-Some.ensures.cases.0 c.number_at-number.ensures c.in_ok-add.ensures.ok

pub returns : goal.returns
returns c =
    renumbering_done c.args.numbers.now c.args.runs.now c.loop-run.rest.now c.loop-run.tally c.loop-run.invariant
    (nil_from_length c.loop-run.rest.now c.in_default.ensures.cases)
