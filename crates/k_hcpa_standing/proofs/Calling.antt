-- A call stands behind its operation and the entry of its region, or the run is over behind its operation.
use Rattle.std.proofs.Common.{◌≡◌, ℕ, ◌<◌, inr, List, [], ◌∷◌, ◌++◌, Option, Some, sym, ◌∙◌, ap, arith, subst, append_assoc}
use Rattle.k_optab.specs.declared.class.Class.TheVariants as class
use Rattle.k_optab.specs.declared.event.Event.{Event}
use Rattle.k_optab.specs.declared.event.Event.TheVariants as event
use Rattle.k_world.specs.declared.act.Act.TheVariants as does
use Rattle.k_world.specs.Worlds.{World}
use Rattle.k_code.specs.declared.instruction.Arg.{Arg}
use Rattle.k_code.specs.declared.instruction.Do.{Do}
use Rattle.k_code.specs.declared.instruction.Do.TheVariants as act
use Rattle.k_code.specs.Runs.{world_of}
use Rattle.k_code.specs.Steps.{Configuration, Run, operation_of}
use Rattle.k_hcpa_meaning.specs.Calls.{called_below}
use Rattle.k_hcpa_meaning.specs.Locations.{first_register, frames_of, widths}
use Rattle.k_hcpa_meaning.specs.Summed.{IsSummed}
use Rattle.k_hcpa_meaning.specs.Summing.{operation_made, region_entered}
use Rattle.k_hcpa_meaning.specs.Timed.{IsTimed}
use Rattle.k_hcpa_calls.proofs.Called.{calls_have_paths, calls_keep_times}
use Rattle.k_hcpa_summed.proofs.Summaries.{entries_summed, operations_summed}
use Rattle.k_hcpa_standing.specs.Laws.{CallsStand, OverflowsStand}
use Rattle.k_hcpa_standing.proofs.Behind.{further, further_short, goes_by, happened_more, stepped, whole}
use Rattle.k_hcpa_standing.proofs.Operations.{entered_more}
use Rattle.k_hcpa_standing.proofs.Stepped.{ends_by, ends_run, ends_short, grown, regions_open, was_made}

-- a call makes this operation
call_makes : (what : Do) (func : ℕ) (args : List Arg) (to : Option ℕ) → what ≡ act.Call func args to → operation_of what ≡ Some (class.Call, does.Call)
unfolding operation_of
call_makes what func args to is = ap operation_of is

pub calls_stand : CallsStand
calls_stand s count taken c next t sum i func args to f sources setting stands there is found goes =
    let op : Event = event.Op class.Call i.latency sources i.place in
    let enter : Event = event.Enter f.region in
    let more : List Event = op ∷ enter ∷ [] in
    let behind : Configuration = further s count taken c t sum stands next more goes in
    let open_now = stands.summed.opened in
    let open_there = regions_open s count taken c t sum setting stands in
    let some : 0 < sum.opened = omega (arith, open_now, open_there) in
    record {
      events = stands.events ++ more;
      before = stands.before;
      run = stepped s count taken c t sum stands next more goes;
      written = stands.written;
      happened = happened_more stands.events more stands.happened;
      timed = subst (λ n. IsTimed s.code s.depth behind (called_below s.depth n (first_register s.code c) (widths s.code (frames_of c)) f.params args i.latency t))
          (sym stands.summed.opened)
          (calls_keep_times s.code s.depth (whole s count taken c t sum stands) behind t i func args to f
          (goes_by s count taken c t sum setting stands next more goes i there) is found
          (further_short s count taken c t sum setting stands next more goes) stands.timed);
      summed = subst (λ (es : List Event). IsSummed s.depth es (region_entered s.depth f.region (operation_made i.latency sum)))
          (append_assoc stands.events (op ∷ []) (enter ∷ []))
          (entries_summed s.depth (stands.events ++ op ∷ []) (operation_made i.latency sum) f.region (inr some)
          (operations_summed s.depth stands.events sum class.Call i.latency sources i.place stands.happened stands.summed));
      entered = (let one = entered_more s.depth f.region (operation_made i.latency sum) in let old = stands.entered in omega (arith, one, old));
    }

pub overflows_stand : OverflowsStand
overflows_stand s count taken c t sum i func args to end w sources setting stands there is ends =
    let op : Event = event.Op class.Call i.latency sources i.place in
    let all : Configuration = whole s count taken c t sum stands in
    let makes = call_makes i.act func args to is in
    let made = was_made s.code all i (class.Call, does.Call) there makes
    (λ same. grown stands.events [] op (sym (ap (λ (r : Run). let v : World = world_of r in v.events) (ends stands.events stands.before)) ∙ same)) in
    record {
      events = stands.events ++ op ∷ [];
      before = stands.before;
      run = ends_run s count taken c t sum setting stands i there (op ∷ []) end w ends;
      written = stands.written;
      heaviest = calls_have_paths s.code s.depth all t i func args to made.held made.world _ end
          (ends_by s count taken c t sum setting stands i there (op ∷ []) end w ends) is made.gives
          (ends_short s count taken c t sum setting stands i there (op ∷ []) end w ends) stands.timed;
      summed = operations_summed s.depth stands.events sum class.Call i.latency sources i.place stands.happened stands.summed;
    }
