-- How often the operation of an instruction reads times, by what a machine keeps.
use Rattle.std.proofs.Common.{ℕ, ◌≡◌, ◌*◌, List, length, Option, Bool, true, false, Ok, Err, arith, refl, ap, ◌∙◌}
use Rattle.std.specs.Prelude.{if◌then◌else◌, min, nat_eq}
use Rattle.k_num.specs.declared.place.Place.{Place}
use Rattle.k_optab.specs.declared.class.Class.{Class}
use Rattle.k_optab.specs.declared.event.Event.{Event}
use Rattle.k_ending.specs.declared.ending.End.TheVariants.{Trapped, OutOfSteps}
use Rattle.k_ending.specs.declared.ending.Trap.TheVariants.{Uninit}
use Rattle.k_world.specs.declared.act.Act.{Act}
use Rattle.k_world.specs.declared.act.Act.TheVariants as does
use Rattle.k_world.specs.declared.value.Read.{Read}
use Rattle.k_world.specs.declared.value.Value.{Value}
use Rattle.k_world.specs.Acts.{Given, work}
use Rattle.k_world.specs.Operands.{are_set, values_of}
use Rattle.k_world.specs.Operations.{Made, Ends, acted, operation}
use Rattle.k_world.specs.Worlds.{World}
use Rattle.k_code.specs.declared.instruction.Instr.{Instr}
use Rattle.k_code.specs.Named.{operands}
use Rattle.k_code.specs.Reads.{if_made, open_regions, reads_of_instruction, reads_of_operation, reads_of_step, reads_once}
use Rattle.k_code.specs.Runs.{run_of}
use Rattle.k_code.specs.Steps.{reads_of}
use Rattle.k_hcpa_meaning.specs.Behind.{world_behind}
use Rattle.k_hcpa_standing.specs.Laws.{ReadsAreCounted}
use Rattle.k_hcpa_standing.proofs.Behind.{whole, whole_traced}

-- the value of an act does not hang on what lies behind a world
work_behind : (what : Act) (values : List Value) (events : List Event) (before : List ℕ) (w : World) → work what values (world_behind events before w) ≡ work what values w
unfolding work
work_behind (does.Binary op kind) values events before w = refl
work_behind (does.Unary op kind) values events before w = refl
work_behind (does.Convert kind) values events before w = refl
work_behind does.Move values events before w = refl
work_behind (does.Offset minus scale) values events before w = refl
work_behind (does.PtrCompare op) values events before w = refl
work_behind (does.PtrDistance scale) values events before w = refl
work_behind does.Load values events before w = refl
work_behind does.Store values events before w = refl
work_behind does.Input values events before w = refl
work_behind (does.Output written) values events before w = refl
work_behind does.Test values events before w = refl
work_behind does.Call values events before w = refl

-- so its operation is made there, or is not
module _ (class : Class) (latency : ℕ) (place : Place) (what : Act) (reads : List Read) (events : List Event) (before : List ℕ) (w : World) (count : ℕ) where
  abbrev made_in : Bool → Bool → Given → World → Made
  made_in out set given world =
      if out then Ends OutOfSteps world else if set then acted class latency place what reads world given else Ends (Trapped Uninit place) world

  same_made : (out set : Bool) (given : Given) → if_made count (made_in out set given (world_behind events before w)) ≡ if_made count (made_in out set given w)
  same_made true set given = refl
  same_made false true (Ok value) = refl
  same_made false true (Err trap) = refl
  same_made false false given = refl

  made_behind : if_made count (operation class latency place what reads (world_behind events before w)) ≡ if_made count (operation class latency place what reads w)
  unfolding operation
  made_behind =
      ap (λ (given : Given). if_made count (made_in (nat_eq w.left 0) (are_set reads) given (world_behind events before w)))
      (work_behind what (values_of reads) events before w)
      ∙ same_made (nat_eq w.left 0) (are_set reads) (work what (values_of reads) w)

-- at each live level once
pub reads_are_counted : ReadsAreCounted
unfolding reads_of_step
reads_are_counted s count taken c t sum i o held w set here there makes gives =
    let levels : length t.paths ≡ min s.depth (open_regions c) =
    here.timed.paths.count ∙ ap (λ (regions : ℕ). min s.depth regions) (whole_traced s count taken c t sum set here).opened in
    let most : ℕ = reads_once o.1 (length (operands i.act)) * min s.depth (open_regions c) in
    let stepping : reads_of_step s.code s.depth (run_of s.code s.input s.budget count) ≡ most =
    ap (reads_of_step s.code s.depth) here.run
    ∙ ap (λ (found : Option Instr). reads_of_instruction s.code s.depth (whole s count taken c t sum here) found) there
    ∙ ap (λ (found : Option (Class × Act)). reads_of_operation s.depth (whole s count taken c t sum here) i found) makes
    ∙ made_behind o.0 i.latency i.place o.1 (reads_of c i.act) here.events here.before c.world most
    ∙ ap (λ (made : Made). if_made most made) gives in
    let same : reads_once o.1 (length (operands i.act)) * length t.paths ≡ most = ap (λ (levels : ℕ). reads_once o.1 (length (operands i.act)) * levels) levels in
    omega (arith, same, stepping)
