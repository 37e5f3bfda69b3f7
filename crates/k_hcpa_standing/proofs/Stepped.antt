-- Operations that a step makes, and steps by which a run ends.
use Rattle.std.proofs.Common.{◌≡◌, ◌≢◌, ℕ, ◌+◌, ◌^◌, ◌<◌, ◌≤◌, List, ◌∷◌, ◌++◌, length, slice_get, Some, refl, ◌∙◌, ap, arith, length-append}
use Rattle.k_optab.specs.declared.class.Class.{Class}
use Rattle.k_optab.specs.declared.event.Event.{Event}
use Rattle.k_optab.specs.Events.{operations, total_latency}
use Rattle.k_optab.specs.Open.{open_after}
use Rattle.k_ending.specs.declared.ending.End.{End}
use Rattle.k_world.specs.declared.act.Act.{Act}
use Rattle.k_world.specs.declared.value.Held.{Held}
use Rattle.k_world.specs.Operations.{Made, Gives, Ends, operation}
use Rattle.k_world.specs.Worlds.{World}
use Rattle.k_code.specs.declared.code.Code.{Code}
use Rattle.k_code.specs.declared.instruction.Instr.{Instr}
use Rattle.k_code.specs.Finds.{Finds}
use Rattle.k_code.specs.Reads.{open_waiting}
use Rattle.k_code.specs.Runs.{run_of, world_of}
use Rattle.k_code.specs.Steps.{Configuration, Run, Going, Over, at_instruction, by_kind, by_operation, operation_of, reads_of, step}
use Rattle.k_code.proofs.Finding.{instructions_find}
use Rattle.k_hcpa_meaning.specs.Behind.{world_behind}
use Rattle.k_hcpa_meaning.specs.Summing.{Summing}
use Rattle.k_hcpa_meaning.specs.Timings.{Timing}
use Rattle.k_hcpa_laws.proofs.Ending.{operation_refused}
use Rattle.k_hcpa_calls.specs.Laws.{Stops}
use Rattle.k_hcpa_standing.specs.Standing.{EndsWith, IsSetting, Setting, Stands}
use Rattle.k_hcpa_standing.proofs.Behind.{next, run_short, whole, whole_traced}

-- events that grow are others
pub grown : (events more : List Event) (e : Event) → events ++ e ∷ more ≢ events
grown events more e same =
    let longer : length (events ++ e ∷ more) ≡ length events + length (e ∷ more) = length-append events (e ∷ more) in
    let as_long : length (events ++ e ∷ more) ≡ length events = ap (λ (es : List Event). length es) same in
    absurd (omega arith)

-- how an instruction goes that makes an operation
pub by_its_operation : (code : Code) (c : Configuration) (i : Instr) (o : Class × Act) → slice_get code.instrs c.pc ≡ Some i → operation_of i.act ≡ Some o
    → step code (Going c) ≡ by_operation code i c (operation o.0 i.latency i.place o.1 (reads_of c i.act) c.world)
unfolding step
by_its_operation code c i o there makes = ap (at_instruction code c) there ∙ ap (by_kind code i c) makes

-- an operation was made, and gave this
pub record WasMade (c : Configuration) (i : Instr) (o : Class × Act) : Type 0 where
  pub held : Held
  pub world : World
  pub gives : operation o.0 i.latency i.place o.1 (reads_of c i.act) c.world ≡ Gives held world

-- where the events of a run grow by an instruction's step its operation was made
pub was_made : (code : Code) (c : Configuration) (i : Instr) (o : Class × Act) → slice_get code.instrs c.pc ≡ Some i → operation_of i.act ≡ Some o
    → (let w : World = world_of (step code (Going c)) in w.events) ≢ c.world.events → WasMade c i o
was_made code c i o there makes grows = by (operation o.0 i.latency i.place o.1 (reads_of c i.act) c.world) refl
  where
    by : (m : Made) → operation o.0 i.latency i.place o.1 (reads_of c i.act) c.world ≡ m → WasMade c i o
    by (Gives held w) is = record { held = held; world = w; gives = is }
    by (Ends end w) is =
        let over : step code (Going c) ≡ Over end w = by_its_operation code c i o there makes ∙ ap (by_operation code i c) is in
        let same : w ≡ c.world = operation_refused o.0 i.latency i.place o.1 (reads_of c i.act) c.world end w is in
        absurd (grows (ap (λ (r : Run). let v : World = world_of r in v.events) over ∙ ap (λ (v : World). v.events) same))

module _ (s : Setting) (count taken : ℕ) (c : Configuration) (t : Timing) (sum : Summing) (setting : IsSetting s) (stands : Stands s count taken c t sum) where
  pub finds : Finds s.code (whole s count taken c t sum stands)
  finds = instructions_find s.code setting.valid s.input s.budget count (whole s count taken c t sum stands) stands.run

  -- the regions of the newest call are open
  pub regions_open : c.frame.regions + 1 ≤ length (open_after stands.events)
  regions_open =
      let all : length (open_after stands.events) ≡ c.frame.regions + 1 + open_waiting c.waiting =
      (let is = whole_traced s count taken c t sum setting stands in is.opened) in
      omega (arith, all)

  -- the run ends by the next step
  module _ (i : Instr) (there : slice_get s.code.instrs c.pc ≡ Some i) (more : List Event) (end : End) (w : World) (ends : EndsWith s.code c more end w) where
    abbrev pub last : World
    last = world_behind (stands.events ++ more) stands.before w

    pub ends_run : run_of s.code s.input s.budget (count + 1) ≡ Over end last
    ends_run = ap (λ n. run_of s.code s.input s.budget n) (next count) ∙ ap (step s.code) stands.run ∙ ends stands.events stands.before

    pub ends_short : total_latency (operations (stands.events ++ more)) < 2 ^ 64
    ends_short = run_short s (count + 1) (Over end last) setting ends_run

    pub ends_by : Stops s.code (whole s count taken c t sum stands) i end last
    ends_by = record {
      there = there;
      step = ends stands.events stands.before;
      traced = whole_traced s count taken c t sum setting stands;
      finds = finds;
    }
