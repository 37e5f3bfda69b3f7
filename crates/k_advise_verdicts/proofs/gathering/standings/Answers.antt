use Rattle.std.proofs.Common.{List, map, sym, ap, ◌∙◌, subst}
use Rattle.k_selfpar.specs.declared.context.Context.{Context}
use Rattle.k_advise_plan.specs.Plan.{picks_from}
use Rattle.k_advise_verdicts.specs.declared.placing.Placed.{Placed}
use Rattle.k_advise_verdicts.specs.Placing.{AreGathered, ArePlaced, standing_of}
use Rattle.k_advise_verdicts.proofs.ByRegion.{all_stand}
use Rattle.k_advise_verdicts.proofs.gathering.standings.Goals as goal

pub returns : goal.returns
returns c = λ plan of.
    all_stand c.args.team.now c.args.contexts.now plan c.in_ok-placed.placed c.in_ok-table.table.items c.in_ok-found.found
    (subst (λ (l : List Context). ArePlaced c.args.team.now l plan c.in_ok-placed.placed) c.as_slice.ensures
    (c.in_ok-placed.ensures plan (of ∙ ap (λ (l : List Context). picks_from c.args.team.now 0 plan l) (sym c.as_slice.ensures))))
    (subst (λ (l : List Placed). AreGathered l c.in_ok-table.table.items) c.as_slice-2.ensures c.in_ok-table.ensures)
    (c.in_ok-found.ensures ∙ ap (map standing_of) c.as_slice-3.ensures.value)
