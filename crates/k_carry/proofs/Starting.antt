-- How a run begins, and what is told where it has ended.
use Rattle.std.proofs.Common.{◌≡◌, ℕ, zero, suc, ◌<◌, ◌≤◌, List, [], ◌∷◌, length, slice_get, Some, Result, Ok, Err, arith, refl, sym, subst, ap, ◌∙◌}
use Rattle.std.specs.Prelude.{IfOk}
use Rattle.std.proofs.lemmas.Result.{IfOk-weaker}
use Rattle.k_num.specs.declared.memory.NoMemory.{NoMemory}
use Rattle.k_num.specs.declared.place.Place.{Place}
use Rattle.k_optab.specs.declared.event.Event.{Event}
use Rattle.k_optab.specs.declared.event.Event.TheVariants.{Enter}
use Rattle.k_optab.specs.declared.region.Region.{Region}
use Rattle.k_optab.specs.Events.{operations}
use Rattle.k_optab.specs.Open.{open_after}
use Rattle.k_ending.specs.declared.ending.End.{End}
use Rattle.k_world.specs.declared.answer.Stop.TheVariants as stop
use Rattle.k_code.specs.declared.code.CodeFunc.{CodeFunc}
use Rattle.k_code.specs.Steps.{Over}
use Rattle.k_hcpa_store.specs.Kept.{Kept, configuration_of}
use Rattle.k_hcpa_store.specs.Leads.{Starts}
use Rattle.k_carry_pairs.specs.declared.pairs.CarriedPairs.{CarriedPairs}
use Rattle.k_carry_pairs.specs.declared.pairs.LoopPairs.{LoopPairs}
use Rattle.k_carry_pairs.specs.Carried.{AreCarried}
use Rattle.k_carry_pairs.specs.Gathered.{Gathered, Gathers, entered, loops_from, nothing}
use Rattle.k_carry_pairs.proofs.Behind.{entered_gathers, nothing_gathers}
use Rattle.k_carry_pairs.proofs.Telling.{loops_are_carried}
use Rattle.k_carry.specs.declared.places.Places.{Places}
use Rattle.k_carry.specs.Answer.{TellsOf}
use Rattle.k_carry.specs.Running.{HasEnded, IsGathered, IsKept, IsOfProgram, IsSetting, IsToldOf, Stands, StandsBehind}
use Rattle.k_carry.specs.Sources.{ArePlaces, IsPlaceOf, Setting}
use Rattle.k_carry.proofs.Noticing.{entered_of_program}
use Rattle.k_carry.proofs.Stepping.{made_is, none_told}

there : {X : Type 0} (xs : List X) (n : ℕ) → n < length xs → (x : X) × (slice_get xs n ≡ Some x)
there [] n low = absurd (omega arith)
there (x ∷ xs) zero low = (x, refl)
there (x ∷ xs) (suc n) low = there xs n (omega arith)

-- a run that begins stands behind the entry of main's instance
pub started : (s : Setting) (k : Kept) (f : CodeFunc) → Starts s.code s.input s.budget (Ok k) → slice_get s.code.funcs s.code.main ≡ Some f → StandsBehind s (Enter f.region ∷ []) k
started s k f starts main =
    let one : length (open_after (Enter f.region ∷ [])) ≡ 1 = refl in
    record {
      count = 0;
      taken = [];
      code = starts.0;
      run = starts.1 f main;
      opened = omega (arith, one);
    }

pub begins : (s : Setting) (k : Kept) → IsSetting s → Starts s.code s.input s.budget (Ok k) → Stands s k
begins s k set starts =
    let valid = set.valid in
    let f = there s.code.funcs s.code.main valid.main in
    (Enter f.0.region ∷ [], started s k f.0 starts f.1)

pub begins_first : (s : Setting) (k : Kept) (number : ℕ) → IsSetting s → Starts s.code s.input s.budget (Ok k) → (configuration_of k).world.made ≤ number
begins_first s k number set starts =
    let valid = set.valid in
    let f = there s.code.funcs s.code.main valid.main in
    let none : (configuration_of k).world.made ≡ 0 = made_is s (Enter f.0.region ∷ []) k set (started s k f.0 starts f.1) in
    omega (arith, none)

-- what is kept of it
pub begins_kept : (s : Setting) (k : Kept) (f : CodeFunc) (g g' : Gathered) (p : Places) → IsSetting s → Starts s.code s.input s.budget (Ok k)
    → slice_get s.code.funcs s.code.main ≡ Some f → g ≡ nothing s.code.regions s.depth → g' ≡ entered f.region 0 g → ArePlaces s p → IsKept s k g' p
begins_kept s k f g g' p set starts main none is places = record {
  events = Enter f.region ∷ [];
  stands = started s k f starts main;
  gathers = subst (λ (x : Gathered). Gathers (Enter f.region ∷ []) x) (sym same)
      (entered_gathers [] f.region 0 (nothing s.code.regions s.depth) refl (nothing_gathers s.code.regions s.depth));
  of = subst (λ (x : Gathered). IsOfProgram s x) (sym same)
      (entered_of_program s 0 (Some f.region) (nothing s.code.regions s.depth) (record { regions = refl; depth = refl }));
  places = places;
}
  where
    same : g' ≡ entered f.region 0 (nothing s.code.regions s.depth)
    same = is ∙ ap (λ (x : Gathered). entered f.region 0 x) none

-- a run that ends at once
pub ended_at_once : (s : Setting) (end : End) → Starts s.code s.input s.budget (Err (stop.Ended end)) → HasEnded s [] end
ended_at_once s end starts = record { count = 0; world = starts.0; run = starts.3; events_are = starts.1 }

pub none_at_once : (s : Setting) (number : ℕ) (end : End) (place : Place) → Starts s.code s.input s.budget (Err (stop.Ended end)) → IsPlaceOf s number place
none_at_once s number end place starts =
    none_told s 0 number end starts.0 place starts.3 (omega (arith, ap (λ (es : List Event). length (operations es)) starts.1))

-- what is told where a run has ended
pub tells : (s : Setting) (g : Gathered) (end : End) (c : CarriedPairs) → IsGathered s g end → IsToldOf g end c → TellsOf s.code s.input s.budget s.depth c
tells s g end c is told =
    let ended : HasEnded s is.0 end = is.1 in
    record {
      events = is.0;
      output = ended.world.output;
      outcome = record {
        count = ended.count;
        world = ended.world;
        is = ended.run ∙ ap (λ (e : End). Over e ended.world) (sym told.ends);
        events_are = ended.events_are;
        output_is = refl;
      };
      carried = by is.3;
    }
  where
    by : IsOfProgram s g → AreCarried s.code.regions s.depth is.0 c.loops
    by of =
        subst (λ (loops : List LoopPairs). AreCarried s.code.regions s.depth is.0 loops) (sym told.loops)
        (subst (λ (regions : List Region). AreCarried regions s.depth is.0 (loops_from 0 g.seen g.found)) of.regions
        (subst (λ (depth : ℕ). AreCarried g.regions depth is.0 (loops_from 0 g.seen g.found)) of.depth
        (loops_are_carried is.0 g is.2)))

-- the same of what was told, if it was
pub all_told : (s : Setting) (g : Gathered) (end : End) (r : Result CarriedPairs NoMemory) → IsGathered s g end → IfOk r (λ c. IsToldOf g end c)
    → IfOk r (λ c. TellsOf s.code s.input s.budget s.depth c)
all_told s g end r is told = IfOk-weaker r (λ c. IsToldOf g end c) (λ c. TellsOf s.code s.input s.budget s.depth c) (λ c one. tells s g end c is one) told

pub told_at_once : (s : Setting) (g : Gathered) (end : End) → g ≡ nothing s.code.regions s.depth → Starts s.code s.input s.budget (Err (stop.Ended end)) → IsGathered s g end
told_at_once s g end none starts = (
  [],
  ended_at_once s end starts,
  subst (λ (x : Gathered). Gathers [] x) (sym none) (nothing_gathers s.code.regions s.depth),
  subst (λ (x : Gathered). IsOfProgram s x) (sym none) (record { regions = refl; depth = refl }),
)
