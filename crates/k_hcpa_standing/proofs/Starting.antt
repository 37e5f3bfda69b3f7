-- Where a machine stands before the first instruction, and how it ends where nothing has happened more.
use Rattle.std.proofs.Common.{[], ◌∷◌, List, arith, refl, sym, subst, inl}
use Rattle.std.proofs.lemmas.List.{append-nil}
use Rattle.k_optab.specs.declared.event.Event.{Event}
use Rattle.k_optab.specs.declared.event.Event.TheVariants as event
use Rattle.k_hcpa_meaning.specs.Behind.{behind_all}
use Rattle.k_hcpa_meaning.specs.Summed.{IsSummed}
use Rattle.k_hcpa_meaning.specs.Summing.{nothing_entered}
use Rattle.k_hcpa_meaning.specs.Timed.{ArePaths}
use Rattle.k_hcpa_calls.proofs.Started.{starts_are_timed}
use Rattle.k_hcpa_summed.proofs.Summaries.{entries_summed, nothing_summed}
use Rattle.k_hcpa_standing.specs.Laws.{EndsStand, StartsStand}
use Rattle.k_hcpa_standing.proofs.Behind.{stopped}
use Rattle.k_hcpa_standing.proofs.Operations.{entered_more}

-- main was entered
pub starts_stand : StartsStand
starts_stand s c f set there is = record {
  events = event.Enter f.region ∷ [];
  before = [];
  run = is;
  written = refl;
  happened = λ none. cc none;
  timed = starts_are_timed s.code s.depth set.valid s.input s.budget (behind_all (event.Enter f.region ∷ []) [] c) is;
  summed = entries_summed s.depth [] nothing_entered f.region (inl refl) (nothing_summed s.depth);
  entered = (let more = entered_more s.depth f.region nothing_entered in omega (arith, more));
}

-- the run ends, and nothing has happened more
pub ends_stand : EndsStand
ends_stand s count taken c t sum end here ends =
    stopped s count taken c t sum here end c.world [] t.paths sum ends
    (subst (λ (events : List Event). ArePaths s.depth events t.paths) (sym (append-nil here.events)) here.timed.paths)
    (subst (λ (events : List Event). IsSummed s.depth events sum) (sym (append-nil here.events)) here.summed)
