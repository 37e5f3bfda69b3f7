-- Times behind a step, where each is that of its source or was one before: they are heaviest paths again.
use Rattle.std.proofs.Common.{ℕ, ◌≡◌, ◌<◌, List, ◌++◌, length, slice_get, Option, Some, None, arith, sym, subst}
use Rattle.k_optab.specs.Events.{Operation, operations}
use Rattle.k_optab.specs.Graph.{IsTime}
use Rattle.k_optab.specs.Open.{Open, open_after}
use Rattle.k_optab.proofs.History.{longer_keeps_time}
use Rattle.k_code.specs.declared.code.Code.{Code}
use Rattle.k_code.specs.Steps.{Configuration}
use Rattle.k_hcpa_meaning.specs.Locations.{source_at, saved_in, frames_of}
use Rattle.k_hcpa_meaning.specs.Timed.{live_levels, ArePaths, CameEarlier, IsTimed, IsTraced}
use Rattle.k_hcpa_meaning.specs.Timings.{Location, Timing, HasLevels, time_of}
use Rattle.k_hcpa_laws.specs.Carried.{IsCarried, timed, kept}

-- operations that are made later leave the time of a source that came earlier as it is
still_timed : (ops more : List Operation) (made start : ℕ) (source : Option ℕ) (time : ℕ) → made ≡ length ops → CameEarlier made (Some source)
    → IsTime ops start source time → IsTime (ops ++ more) start source time
still_timed ops more made start None time same came is = is
still_timed ops more made start (Some q) time same came is =
    longer_keeps_time ops more start q time (omega (arith, same, came)) is

-- so it is with what a location holds
pub held_timed : (code : Code) (c : Configuration) (more : List Operation) (start : ℕ) (at : Location) (source : Option ℕ) (time : ℕ)
    → IsTraced code c → source_at code c at ≡ Some source
    → IsTime (operations c.world.events) start source time → IsTime (operations c.world.events ++ more) start source time
held_timed code c more start at source time traced holds is =
    still_timed (operations c.world.events) more c.world.made start source time (sym traced.made)
    (subst (λ (found : Option (Option ℕ)). CameEarlier c.world.made found) holds (traced.came at)) is

-- a time that is carried is that of its source
pub carried_time : (code : Code) (depth : ℕ) (c : Configuration) (t : Timing) (more : List Operation) (level : ℕ) (o : Open) (source : Option ℕ) (time : ℕ)
    → IsTraced code c → IsTimed code depth c t
    → IsCarried code depth c t (operations c.world.events ++ more) level o source time → IsTime (operations c.world.events ++ more) o.start source time
carried_time code depth c t more level o source time traced is (timed known) = known
carried_time code depth c t more level o source time traced is (kept at live there holds same) =
    subst (λ (n : ℕ). IsTime (operations c.world.events ++ more) o.start source n) same
    (held_timed code c more o.start at source (time_of t at level) traced holds (is.times level o at source live there holds))

-- THE CORE: times of the right shape, with the weights of the heaviest paths of the open instances, are heaviest paths where each is carried
pub carried : (code : Code) (depth : ℕ) (c c' : Configuration) (t t' : Timing) (more : List Operation)
    → IsTraced code c → IsTimed code depth c t
    → operations c'.world.events ≡ operations c.world.events ++ more
    → HasLevels (live_levels depth c'.world.events) t'
    → length t'.saved ≡ length (saved_in (frames_of c'))
    → ArePaths depth c'.world.events t'.paths
    → ((level : ℕ) (o : Open) (at : Location) (source : Option ℕ) → level < live_levels depth c'.world.events
    → slice_get (open_after c'.world.events) level ≡ Some o → source_at code c' at ≡ Some source
    → IsCarried code depth c t (operations c.world.events ++ more) level o source (time_of t' at level))
    → IsTimed code depth c' t'
carried code depth c c' t t' more traced is same shape saved paths each = record {
  shape = shape;
  saved = saved;
  times = λ level o at source live there holds.
      subst (λ (ops : List Operation). IsTime ops o.start source (time_of t' at level)) (sym same)
      (carried_time code depth c t more level o source (time_of t' at level) traced is (each level o at source live there holds));
  paths = paths;
}
