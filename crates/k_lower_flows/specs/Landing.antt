-- For contracts between crates: nobody has to believe it.
-- In which words the code of a statement does what *Evaluation* says of it.
use Rattle.std.specs.Prelude.{ℕ, ◌≡◌, ◌+◌, ◌≤◌, Bool, true, false, List, length, map, take, nat_eq, Option, None, Some}
use Rattle.k_mem.specs.Memory.{Object}
use Rattle.k_world.specs.declared.value.Held.{Held}
use Rattle.k_world.specs.Changes.{objects_kept}
use Rattle.k_world.specs.Worlds.{World}
use Rattle.k_code.specs.declared.code.Code.{Code}
use Rattle.k_code.specs.Runs.{world_of}
use Rattle.k_code.specs.Steps.{Frame, Run, Going, handed_back, left_by, no_value}
use Rattle.k_evaluation.specs.declared.flow.Flow.{Flow}
use Rattle.k_evaluation.specs.declared.flow.Flow.TheVariants.{Normal, Broke, Continued, Returned}
use Rattle.k_evaluation.specs.Flows.{Doing}
use Rattle.k_evaluation.specs.States.{State, Outcome, Goes, Stops, Part}
use Rattle.k_evaluation_control.specs.Laws.{IsTidy}
use Rattle.k_lower_code.specs.Stretches as stretches
use Rattle.k_lower_code.specs.Stretches.{Stretch}
use Rattle.k_lower_runs.specs.Following.{Registers, Site, at, live_at, Agrees, HasAt, Reaches, EndsSo}

-- the numbers of its oldest live objects, so many
abbrev pub first_numbers : ℕ → World → List ℕ
first_numbers count w = take count (map (λ (o : Object). o.number) w.memory.live)

-- A call, before which so many objects were live, has gone on: these are live as before, and so are the calls; no operation is given back.
pub record Stays (base : ℕ) (before after : World) : Type 0 where
  pub older : first_numbers base after ≡ first_numbers base before
  pub calls : after.calls ≡ before.calls
  pub size : after.size ≡ before.size
  pub left : after.left ≤ before.left

-- the call itself
abbrev pub frame_of : Site → Frame
frame_of site = record { func = site.func; registers = λ k. None; saved = site.saved; regions = site.regions; base = site.base }

-- what a call hands back that returns this: main gives 0 where it returns nothing
abbrev pub handed : Bool → Option Held → Option Held
handed in_main None = no_value in_main
handed in_main (Some held) = Some held

module _ (code : Code) where
  -- A run leads to where the call has returned: its regions are left and its objects dead, and what it gives is handed back, under some control
  -- source.
  pub record Returns (site : Site) (from : Run) (v : Option Held) (w : World) : Type 0 where
    pub control : Option ℕ
    pub reaches : Reaches code from (handed_back site.waiting (handed (nat_eq site.func code.main) v) (record (left_by code (frame_of site) w) { control = control }))
    pub stays : Stays site.base (world_of from) w

  module _ (deep count : ℕ) where
    -- A run leads to an instruction, with the whole world of this state, in which so many objects are live.
    pub record Here (site : Site) (from : Run) (pc live : ℕ) (s : State) : Type 0 where
      pub registers : Registers
      pub reaches : Reaches code from (Going (at site pc registers s.world))
      pub agrees : Agrees count s registers
      pub live_are : length s.world.memory.live ≡ live
      pub stays : Stays site.base (world_of from) s.world

    -- The same where so many of its objects are kept: code closes them where *Evaluation* goes on to the end of the block.
    pub record Closed (site : Site) (from : Run) (pc live : ℕ) (s : State) : Type 0 where
      pub registers : Registers
      pub reaches : Reaches code from (Going (at site pc registers (objects_kept s.world live)))
      pub agrees : Agrees count s registers
      pub enough : live ≤ length s.world.memory.live
      pub stays : Stays site.base (world_of from) s.world

    -- one or the other
    abbrev pub On : Bool → Site → Run → ℕ → ℕ → State → Type 0
    On true = Here
    On false = Closed

    -- Where a statement leads to: where it ended normally to the instruction behind it, with the objects that it made; where by `break` or
    -- `continue` to the one that its site names, without them; or the call returns; or the run ends.
    abbrev pub Lands : Bool → Site → stretches.Site → Run → ℕ → ℕ → Outcome Flow → Type 0
    Lands exact site target from next opens (Goes Normal s) = On exact site from next (site.base + (target.objects + opens)) s
    Lands exact site target from next opens (Goes Broke s) = On exact site from target.breaks (site.base + target.objects) s
    Lands exact site target from next opens (Goes Continued s) = On exact site from target.continues (site.base + target.objects) s
    Lands exact site target from next opens (Goes (Returned v) s) = Returns site from v s.world
    Lands exact site target from next opens (Stops end w) = EndsSo code from end w

    -- A PART AND A STRETCH: wherever the code has the stretch, in whatever call, it leads where the part does
    abbrev pub Lies : Bool → Part Flow → Stretch → Type 0
    Lies exact part t =
        (site : Site) (target : stretches.Site) (first : ℕ) (s : State) (registers : Registers) → HasAt code first (t.code target first) → Agrees count s registers
        → IsTidy (live_at deep) s.world → length s.world.memory.live ≡ site.base + target.objects
        → Lands exact site target (Going (at site first registers s.world)) (first + t.size) t.opens (part s)

    -- THE CODE OF A STATEMENT DOES WHAT IT DOES
    pub record Performs (d : Doing) (t : Stretch) : Type 0 where
      pub lies : Lies true d.does t
      pub sized : (target : stretches.Site) (first : ℕ) → length (t.code target first) ≡ t.size
      pub jumps : d.jumps ≡ t.jumps
