use Rattle.k_advise_verdicts.proofs.Telling.{all_told, more_told, none_told}
use Rattle.k_advise_verdicts.proofs.walk.verdicts.Goals as goal

pub loop-row-init : goal.loop-row-init
loop-row-init c =
    none_told c.args.start c.args.facts.now c.args.standings.now c.args.carried.now c.args.shared.now c.args.rows.now c.new-found.result c.new-found.ensures
    c.requires.rows c.requires.facts c.requires.carried c.requires.shared

pub loop-row-preserved : goal.loop-row-preserved
loop-row-preserved c =
    more_told c.args.start c.args.facts.now c.args.standings.now c.args.carried.now c.args.shared.now c.args.rows.now
    c.loop-row.facts.now c.loop-row.carried.now c.loop-row.shared.now c.loop-row.rest.now c.in-Some.later.now c.loop-row.found c.add_verdict.new.verdicts
    c.in-Some.row.now c.loop-row.invariant c.in-Some.ensures.cases.0
    c.facts_from-facts.result.now c.carried_from-carried.result.now c.shared_from-shared.result.now c.standing_at-standing.result c.front_facts-known.result
    c.front_carried-pairs.result.now c.front_shared-storage.result.now
    c.facts_from-facts.ensures c.carried_from-carried.ensures c.shared_from-shared.ensures
    c.standing_at-standing.ensures c.front_facts-known.ensures c.front_carried-pairs.ensures c.front_shared-storage.ensures c.in_ok-add_verdict.ensures

pub returns : goal.returns
returns c =
    all_told c.args.start c.args.facts.now c.args.standings.now c.args.carried.now c.args.shared.now c.args.rows.now
    c.loop-row.facts.now c.loop-row.carried.now c.loop-row.shared.now c.loop-row.rest.now c.loop-row.found c.loop-row.invariant c.in_default.ensures.cases
