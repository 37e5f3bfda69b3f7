-- A run is told in one way.
use Rattle.std.proofs.Common.{ℕ, zero, suc, ◌≡◌, ◌+◌, List, arith, sym, ap, ◌∙◌}
use Rattle.k_optab.specs.declared.event.Event.{Event}
use Rattle.k_ending.specs.declared.ending.End.{End}
use Rattle.k_world.specs.Deeds.{Deed}
use Rattle.k_world.specs.Worlds.{World}
use Rattle.k_code.specs.declared.code.Code.{Code}
use Rattle.k_code.specs.Runs.{HasOutcome}
use Rattle.k_code.specs.Steps.{Over, step}
use Rattle.k_code.specs.Telling.{HasToldOutcome, telling_of, untold, untold_run}
use Rattle.k_code.proofs.Stepping.{over_stays}
use Rattle.k_code.proofs.Telling.{telling_changes_nothing}

-- a run that has ended stays so
told_once : (code : Code) (input : List ℕ) (budget n more : ℕ) (end : End) (w : World) → telling_of code input budget n ≡ Over end w
    → telling_of code input budget (n + more) ≡ Over end w
told_once code input budget n zero end w is = (let e : n + 0 ≡ n = omega arith in ap (λ (m : ℕ). telling_of code input budget m) e ∙ is)
told_once code input budget n (suc more) end w is =
    let e : n + suc more ≡ suc (n + more) = omega arith in
    ap (λ (m : ℕ). telling_of code input budget m) e ∙ (ap (step code) (told_once code input budget n more end w is) ∙ over_stays code end w)

same_world : (e f : End) (v w : World) → Over e v ≡ Over f w → v ≡ w
same_world e f v w same = cc same

module _ (code : Code) (input : List ℕ) (budget : ℕ) where
  -- it does the same
  pub one_told : (a b : List Deed) (es fs : List Event) (o p : List ℕ) (e f : End) → HasToldOutcome code input budget a es o e → HasToldOutcome code input budget b fs p f
      → a ≡ b
  one_told a b es fs o p e f x y =
      let sum : x.count + y.count ≡ y.count + x.count = omega arith in
      let both : Over e x.world ≡ Over f y.world =
      sym (told_once code input budget x.count y.count e x.world x.is)
      ∙ (ap (λ (m : ℕ). telling_of code input budget m) sum ∙ told_once code input budget y.count x.count f y.world y.is) in
      sym x.deeds_are ∙ (ap (λ (w : World). w.deeds) (same_world e f x.world y.world both) ∙ y.deeds_are)

  -- and it is the run in which nothing is told
  pub untold_outcome : (deeds : List Deed) (events : List Event) (output : List ℕ) (end : End) → HasToldOutcome code input budget deeds events output end
      → HasOutcome code input budget events output end
  untold_outcome deeds events output end x = record {
    count = x.count;
    world = untold x.world;
    is = telling_changes_nothing code input budget x.count ∙ ap untold_run x.is;
    events_are = x.events_are;
    output_is = x.output_is;
  }
