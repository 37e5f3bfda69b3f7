use Rattle.std.proofs.Common.{◌∙◌, ap, sym, reverse}
use Rattle.std.proofs.lemmas.Result.{on_ok_weaker}
use Rattle.k_hcpa_summaries.specs.Closing.{pending}
use Rattle.k_hcpa_summaries.proofs.Opens.{last_counts, counted_last}
use Rattle.k_hcpa_summaries.proofs.closing.count_last.Goals as goal

pub count-requires : goal.count-requires
count-requires c =
    let found = c.in-Some-last_mut.ensures.item in
    last_counts c.args.levels.now c.in-Some-last_mut.level.now c.in-Some.child found.3.0 found.1 c.requires

pub returns-in-Some-last_mut-clause-ok : goal.returns-in-Some-last_mut-clause-ok
returns-in-Some-last_mut-clause-ok c =
    let found = c.in-Some-last_mut.ensures.item in
    on_ok_weaker c.count.result (λ made. counted_last c.args.levels.now c.in-Some-last_mut.level.now c.count.new.self c.in-Some.child found.3.0 found.1 made
    ∙ ap (λ last. pending last (reverse c.args.levels.now)) (sym c.in-Some.is)) c.count.ensures.ok
