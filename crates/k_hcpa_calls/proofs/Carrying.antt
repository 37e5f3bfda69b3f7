-- Times where locations hold what others held, and paths where regions are left.
use Rattle.std.proofs.Common.{◌≡◌, ℕ, zero, suc, ◌+◌, ◌-◌, ◌<◌, ◌≤◌, List, [], ◌∷◌, ◌++◌, length, replicate, slice_get, Option, Some, Bool, true, false, refl, sym, arith, subst}
use Rattle.std.specs.Prelude.{if◌then◌else◌, nat_lt}
use Rattle.std.proofs.lemmas.Bool.{ltb-true, ltb-false}
use Rattle.std.proofs.lemmas.List.{append_assoc, append-nil}
use Rattle.k_optab.specs.declared.event.Event.{Event}
use Rattle.k_optab.specs.declared.event.Event.TheVariants.{Exit}
use Rattle.k_optab.specs.Events.{Operation, operations}
use Rattle.k_optab.specs.Graph.{IsTime}
use Rattle.k_optab.specs.Open.{Open, open_after}
use Rattle.k_code.specs.declared.code.Code.{Code}
use Rattle.k_code.specs.Steps.{Configuration}
use Rattle.k_hcpa_meaning.specs.Locations.{source_at, saved_in, frames_of}
use Rattle.k_hcpa_meaning.specs.Timed.{live_levels, ArePaths, IsTimed}
use Rattle.k_hcpa_meaning.specs.Timings.{Location, Timing, HasLevels, time_of, innermost_gone, left_below, all_left_below}
use Rattle.k_hcpa_laws.specs.Carried.{IsCarried, timed, kept}
use Rattle.k_hcpa_laws.proofs.Opened.{left_length, paths_left, paths_shallower}

-- where no operation is made, times are those of sources again where each is carried
pub still : (code : Code) (depth : ℕ) (c next : Configuration) (t new : Timing) → IsTimed code depth c t
    → operations next.world.events ≡ operations c.world.events → HasLevels (live_levels depth next.world.events) new
    → length new.saved ≡ length (saved_in (frames_of next)) → ArePaths depth next.world.events new.paths
    → ((level : ℕ) (o : Open) (at : Location) (source : Option ℕ) → level < live_levels depth next.world.events
    → slice_get (open_after next.world.events) level ≡ Some o → source_at code next at ≡ Some source
    → IsCarried code depth c t (operations c.world.events) level o source (time_of new at level))
    → IsTimed code depth next new
still code depth c next t new was same shape saved paths each = record {
  shape = shape;
  saved = saved;
  times = λ level o at source live there holds.
      subst (λ (ops : List Operation). IsTime ops o.start source (time_of new at level)) (sym same)
      (carried level o source (time_of new at level) (each level o at source live there holds));
  paths = paths;
}
  where
    carried : (level : ℕ) (o : Open) (source : Option ℕ) (time : ℕ) → IsCarried code depth c t (operations c.world.events) level o source time
        → IsTime (operations c.world.events) o.start source time
    carried level o source time (timed is) = is
    carried level o source time (kept at live there holds same_time) =
        subst (λ (n : ℕ). IsTime (operations c.world.events) o.start source n) same_time (was.times level o at source live there holds)

-- the paths where the innermost region is left
one_path : (depth : ℕ) (events : List Event) (t : Timing) → 0 < length (open_after events) → ArePaths depth events t.paths
    → ArePaths depth (events ++ Exit ∷ []) (left_below depth (length (open_after events)) t).paths
one_path depth events t some paths = by (nat_lt depth (length (open_after events))) refl
  where
    by : (b : Bool) → nat_lt depth (length (open_after events)) ≡ b
        → ArePaths depth (events ++ Exit ∷ []) (let new : Timing = if b then t else innermost_gone t in new.paths)
    by true is = paths_shallower depth events t.paths some (ltb-true depth (length (open_after events)) is) paths
    by false is = paths_left depth events t.paths some (ltb-false depth (length (open_after events)) is) paths

-- and where more are left
pub leaving_paths : (depth n : ℕ) (events : List Event) (t : Timing) → n ≤ length (open_after events) → ArePaths depth events t.paths
    → ArePaths depth (events ++ replicate n Exit) (all_left_below depth (length (open_after events)) n t).paths
leaving_paths depth zero events t low paths = subst (λ (all : List Event). ArePaths depth all t.paths) (sym (append-nil events)) paths
leaving_paths depth (suc n) events t low paths =
    let count : ℕ = length (open_after events) in
    let some : 0 < count = omega arith in
    let fewer : length (open_after (events ++ Exit ∷ [])) + 1 ≡ count = left_length events some in
    let now : length (open_after (events ++ Exit ∷ [])) ≡ count - 1 = omega (arith, fewer) in
    let rest : ArePaths depth ((events ++ Exit ∷ []) ++ replicate n Exit)
    (all_left_below depth (length (open_after (events ++ Exit ∷ []))) n (left_below depth count t)).paths =
    leaving_paths depth n (events ++ Exit ∷ []) (left_below depth count t) (omega (arith, fewer)) (one_path depth events t some paths) in
    subst (λ (m : ℕ). ArePaths depth (events ++ replicate (suc n) Exit) (all_left_below depth m n (left_below depth count t)).paths) now
    (subst (λ (all : List Event). ArePaths depth all (all_left_below depth (length (open_after (events ++ Exit ∷ []))) n (left_below depth count t)).paths)
    (append_assoc events (Exit ∷ []) (replicate n Exit)) rest)
