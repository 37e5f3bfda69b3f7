-- A return stands behind its operation, where it has one, and the exits of its regions; so does the end of a run by the return of main's call.
use Rattle.std.proofs.Common.{◌≡◌, ◌≢◌, ℕ, zero, suc, ◌+◌, ◌^◌, ◌<◌, ◌≤◌, List, [], ◌∷◌, ◌++◌, length, replicate, slice_get, Option, Some, None, refl, sym, ◌∙◌, ap, arith, subst, append-nil}
use Rattle.std.specs.Prelude.{nat_lt, if◌then◌else◌}
use Rattle.k_optab.specs.declared.class.Class.TheVariants as class
use Rattle.k_optab.specs.declared.event.Event.{Event}
use Rattle.k_optab.specs.declared.event.Event.TheVariants as event
use Rattle.k_optab.specs.declared.event.Src.{Src}
use Rattle.k_optab.specs.Events.{Operation, operations, total_latency}
use Rattle.k_optab.specs.Open.{Open, open_after}
use Rattle.k_optab.proofs.Trees.{operations-append}
use Rattle.k_ending.specs.declared.ending.End.{End}
use Rattle.k_ending.specs.declared.ending.End.TheVariants.{Returned}
use Rattle.k_world.specs.declared.act.Act.TheVariants as does
use Rattle.k_world.specs.declared.value.Held.{Held}
use Rattle.k_world.specs.Acts.{hidden}
use Rattle.k_world.specs.Operands.{sources as sources_of, values_of}
use Rattle.k_world.specs.Operations.{Gives, operation}
use Rattle.k_world.specs.Values.{exit_of}
use Rattle.k_world.specs.Worlds.{World}
use Rattle.k_code.specs.declared.code.Code.{Code}
use Rattle.k_code.specs.declared.instruction.Arg.{Arg}
use Rattle.k_code.specs.declared.instruction.Do.{Do}
use Rattle.k_code.specs.declared.instruction.Do.TheVariants as act
use Rattle.k_code.specs.declared.instruction.Instr.{Instr}
use Rattle.k_code.specs.Runs.{world_of}
use Rattle.k_code.specs.Steps.{Configuration, Waiting, Run, Going, Over, alone, at_instruction, behind, by_kind, by_operation, handed_back, is_in_main, left_by, no_value, operation_of, reads_of, returned, step}
use Rattle.k_hcpa_meaning.specs.Calls.{returned_below}
use Rattle.k_hcpa_meaning.specs.Locations.{first_register, saved_in, waiting_frames}
use Rattle.k_hcpa_meaning.specs.Summed.{IsSummed}
use Rattle.k_hcpa_meaning.specs.Summing.{Summing, operation_made, paths_outside, last_path, region_left, regions_left}
use Rattle.k_hcpa_meaning.specs.Timed.{ArePaths, IsTimed}
use Rattle.k_hcpa_meaning.specs.Timings.{Timing}
use Rattle.k_hcpa_traced.proofs.Worlds.{exits_none}
use Rattle.k_hcpa_laws.proofs.Operations.{given_events, operation_given}
use Rattle.k_hcpa_calls.specs.Laws.{Stops, back_register}
use Rattle.k_hcpa_calls.proofs.Made.{IsQuiet, move_quiet, operation_timed, same_open}
use Rattle.k_hcpa_calls.proofs.Outcomes.{same_end}
use Rattle.k_hcpa_calls.proofs.Returned.{last_returns_have_paths, returns_keep_times}
use Rattle.k_hcpa_summed.proofs.Leaving.{exits_summed}
use Rattle.k_hcpa_summed.proofs.Summaries.{operations_summed}
use Rattle.k_hcpa_standing.specs.Laws.{LastReturnsStand, ReturnsStand, moved_times, moved_work, return_events, returned_sums}
use Rattle.k_hcpa_standing.specs.Standing.{IsSetting, Setting, Stands}
use Rattle.k_hcpa_standing.proofs.Behind.{further, further_short, goes_by, happened_more, stepped, whole, whole_traced}
use Rattle.k_hcpa_standing.proofs.Operations.{left_same}
use Rattle.k_hcpa_standing.proofs.Stepped.{WasMade, by_its_operation, ends_by, ends_run, ends_short, finds, grown, last, regions_open, was_made}

-- no instance is entered where one is left
regions_enter_none : (depth : ℕ) (paths : List ℕ) (n : ℕ) (s : Summing) → (regions_left depth paths n s).entered ≡ s.entered
regions_enter_none depth paths zero s = refl
regions_enter_none depth paths (suc n) s =
    regions_enter_none depth (if nat_lt depth s.opened then paths else paths_outside paths) n (region_left depth (last_path paths) s)
    ∙ left_same depth (last_path paths) s

moved_enters_none : (value : Option Arg) (latency : ℕ) (s : Summing) → (moved_work value latency s).entered ≡ s.entered
moved_enters_none None latency s = refl
moved_enters_none (Some a) latency s = refl

-- exits are no operations
exits_operations : (events : List Event) (n : ℕ) → operations (events ++ replicate n event.Exit) ≡ operations events
exits_operations events n =
    operations-append events (replicate n event.Exit) ∙ (ap (λ (ops : List Operation). operations events ++ ops) (exits_none n) ∙ append-nil (operations events))

-- whatever a return hands back, the world is that of the run behind it
handed_world : (waiting : List Waiting) (slot : Option Held) (w : World) → world_of (handed_back waiting slot w) ≡ w
handed_world [] slot w = refl
handed_world (f ∷ waiting) slot w = refl

-- a return without a value makes no operation, one with a value this one
none_makes : (what : Do) → what ≡ act.Return None → operation_of what ≡ None
unfolding operation_of
none_makes what is = ap operation_of is

value_makes : (what : Do) (a : Arg) → what ≡ act.Return (Some a) → operation_of what ≡ Some (class.Move, does.Move)
unfolding operation_of
value_makes what a is = ap operation_of is

module _ (code : Code) (c : Configuration) (i : Instr) (there : slice_get code.instrs c.pc ≡ Some i) where
  none_returns : i.act ≡ act.Return None → step code (Going c) ≡ returned code (no_value (is_in_main code c)) c
  unfolding step alone
  none_returns is =
      ap (at_instruction code c) there ∙ (ap (by_kind code i c) (none_makes i.act is) ∙ ap (λ (what : Do). alone code i.place what c) is)

  value_returns : (a : Arg) (held : Held) (w : World) → i.act ≡ act.Return (Some a)
      → operation class.Move i.latency i.place does.Move (reads_of c i.act) c.world ≡ Gives held w
      → step code (Going c) ≡ handed_back c.waiting (Some held) (left_by code c.frame w)
  unfolding behind
  value_returns a held w is gives =
      by_its_operation code c i (class.Move, does.Move) there (value_makes i.act a is)
      ∙ (ap (by_operation code i c) gives ∙ ap (λ (what : Do). behind code i.place what held (record c { world = w })) is)

module _ (s : Setting) (count taken : ℕ) (c : Configuration) (t : Timing) (sum : Summing) (i : Instr) (setting : IsSetting s) (stands : Stands s count taken c t sum)
    (there : slice_get s.code.instrs c.pc ≡ Some i) where
  abbrev all : Configuration
  all = whole s count taken c t sum stands

  abbrev regions : ℕ
  regions = c.frame.regions + 1

  abbrev now : Option Arg → List Src → List Event
  now value sources = stands.events ++ return_events i value sources regions

  low : regions ≤ length (open_after stands.events)
  low = regions_open s count taken c t sum setting stands

  -- what is so of a return
  record Has (value : Option Arg) (sources : List Src) : Type 0 where
    slot : Option Held
    world : World
    is : step s.code (Going all) ≡ handed_back c.waiting slot (left_by s.code c.frame world)
    happened : now value sources ≢ []
    summed : IsSummed s.depth (now value sources) (returned_sums s c value i.latency t sum)

  has_none : (sources : List Src) → i.act ≡ act.Return None → Has None sources
  has_none sources is = record {
    slot = no_value (is_in_main s.code all);
    world = all.world;
    is = none_returns s.code all i there is;
    happened = happened_more stands.events (replicate regions event.Exit) stands.happened;
    summed = exits_summed s.depth stands.events sum t.paths regions setting.tracks low stands.timed.paths stands.summed;
  }

  module _ (a : Arg) (sources : List Src) (is : i.act ≡ act.Return (Some a)) (short : total_latency (operations (now (Some a) sources)) < 2 ^ 64)
      (behind_is : (let w : World = world_of (step s.code (Going all)) in w.events) ≡ now (Some a) sources) where
    abbrev op : Event
    op = event.Op class.Move i.latency sources i.place

    made : WasMade all i (class.Move, does.Move)
    made = was_made s.code all i (class.Move, does.Move) there (value_makes i.act a is)
        (λ same. grown stands.events (replicate regions event.Exit) op (sym behind_is ∙ same))

    quiet : IsQuiet i.act does.Move (a ∷ [])
    quiet = subst (λ (what : Do). IsQuiet what does.Move (a ∷ [])) (sym is) (move_quiet a)

    abbrev made_events : List Event
    made_events = made.world.events

    goes_back : step s.code (Going all) ≡ handed_back c.waiting (Some made.held) (left_by s.code c.frame made.world)
    goes_back = value_returns s.code all i there a made.held made.world is made.gives

    -- the events are those behind the operation, and the exits
    parts : made_events ++ replicate regions event.Exit ≡ now (Some a) sources
    parts =
        ap (λ (w : World). w.events) (sym (handed_world c.waiting (Some made.held) (left_by s.code c.frame made.world)))
        ∙ (ap (λ (r : Run). let w : World = world_of r in w.events) (sym goes_back) ∙ behind_is)

    made_short : total_latency (operations made_events) < 2 ^ 64
    made_short =
        subst (λ (ops : List Operation). total_latency ops < 2 ^ 64)
        (ap (λ (es : List Event). operations es) (sym parts) ∙ exits_operations made_events regions) short

    made_paths : ArePaths s.depth made_events (let u : Timing = moved_times (first_register s.code c) (Some a) i.latency t in u.paths)
    made_paths =
        let making = operation_timed s.code s.depth all t class.Move i does.Move (a ∷ []) made.held made.world quiet made.gives there
        (whole_traced s count taken c t sum setting stands) (finds s count taken c t sum setting stands) stands.timed made_short in
        making.timed.paths

    made_summed : IsSummed s.depth made_events (operation_made i.latency sum)
    made_summed =
        let reads = reads_of all i.act in
        let given = operation_given class.Move i.latency i.place does.Move reads all.world made.held made.world made.gives in
        subst (λ (es : List Event). IsSummed s.depth es (operation_made i.latency sum))
        (sym (given_events class.Move i.latency i.place does.Move reads all.world made.held made.world given))
        (operations_summed s.depth stands.events sum class.Move i.latency (sources_of reads (hidden does.Move (values_of reads) all.world) all.world.control) i.place
        stands.happened stands.summed)

    made_low : regions ≤ length (open_after made_events)
    made_low =
        let same = ap (λ (opens : List Open). length opens) (same_open s.code s.depth all t class.Move i does.Move (a ∷ []) made.held made.world quiet made.gives) in
        subst (λ n. regions ≤ n) (sym same) low

    has_value : Has (Some a) sources
    has_value = record {
      slot = Some made.held;
      world = made.world;
      is = goes_back;
      happened = happened_more stands.events (op ∷ replicate regions event.Exit) stands.happened;
      summed = subst (λ (es : List Event). IsSummed s.depth es (returned_sums s c (Some a) i.latency t sum)) parts
          (exits_summed s.depth made_events (operation_made i.latency sum) (let u : Timing = moved_times (first_register s.code c) (Some a) i.latency t in u.paths)
          regions setting.tracks made_low made_paths made_summed);
    }

  has : (value : Option Arg) (sources : List Src) → i.act ≡ act.Return value → total_latency (operations (now value sources)) < 2 ^ 64
      → (let w : World = world_of (step s.code (Going all)) in w.events) ≡ now value sources → Has value sources
  has None sources is short behind_is = has_none sources is
  has (Some a) sources is short behind_is = has_value a sources is short behind_is

  -- no instance is entered
  none_entered : (value : Option Arg) → (let sums : Summing = returned_sums s c value i.latency t sum in sums.entered) ≡ sum.entered
  none_entered value =
      regions_enter_none s.depth (let u : Timing = moved_times (first_register s.code c) value i.latency t in u.paths) regions (moved_work value i.latency sum)
      ∙ moved_enters_none value i.latency sum

pub returns_stand : ReturnsStand
returns_stand s count taken c next t sum i value caller waiting sources setting stands there is waits goes =
    let more : List Event = return_events i value sources (c.frame.regions + 1) in
    let back = further s count taken c t sum stands next more goes in
    let brief = further_short s count taken c t sum setting stands next more goes in
    let found = has s count taken c t sum i setting stands there value sources is brief
    (ap (λ (r : Run). let w : World = world_of r in w.events) (goes stands.events stands.before)) in
    record {
      events = stands.events ++ more;
      before = stands.before;
      run = stepped s count taken c t sum stands next more goes;
      written = stands.written;
      happened = found.happened;
      timed = subst (λ n. IsTimed s.code s.depth back
          (returned_below s.depth n (first_register s.code c) value i.latency (back_register s.code caller waiting) (length (saved_in (waiting_frames c.waiting)))
          (c.frame.regions + 1) t)) (sym stands.summed.opened)
          (returns_keep_times s.code s.depth (whole s count taken c t sum stands) back t i value caller waiting
          (goes_by s count taken c t sum setting stands next more goes i there) is waits brief stands.timed);
      summed = found.summed;
      entered = (let none = none_entered s count taken c t sum i setting stands there value in let old = stands.entered in omega (arith, none, old));
    }

pub last_returns_stand : LastReturnsStand
last_returns_stand s count taken c t sum i value end w back saved sources setting stands there is none ends =
    let more : List Event = return_events i value sources (c.frame.regions + 1) in
    let all : Configuration = whole s count taken c t sum stands in
    let over : World = last s count taken c t sum setting stands i there more end w ends in
    let brief = ends_short s count taken c t sum setting stands i there more end w ends in
    let found = has s count taken c t sum i setting stands there value sources is brief
    (ap (λ (r : Run). let v : World = world_of r in v.events) (ends stands.events stands.before)) in
    let left : World = left_by s.code c.frame found.world in
    let handed : step s.code (Going all) ≡ Over (Returned (exit_of found.slot)) left =
    found.is ∙ ap (λ (waiting : List Waiting). handed_back waiting found.slot left) none in
    let end_is : end ≡ Returned (exit_of found.slot) =
    same_end end (Returned (exit_of found.slot)) over left (sym (ends stands.events stands.before) ∙ handed) in
    let stops : Stops s.code all i (Returned (exit_of found.slot)) over =
    subst (λ (e : End). Stops s.code all i e over) end_is (ends_by s count taken c t sum setting stands i there more end w ends) in
    record {
      events = stands.events ++ more;
      before = stands.before;
      run = ends_run s count taken c t sum setting stands i there more end w ends;
      written = stands.written;
      heaviest = subst (λ n. ArePaths s.depth (stands.events ++ more)
          (let u : Timing = returned_below s.depth n (first_register s.code c) value i.latency back saved (c.frame.regions + 1) t in u.paths)) (sym stands.summed.opened)
          (last_returns_have_paths s.code s.depth all t i value (exit_of found.slot) over back saved stops is none brief stands.timed);
      summed = found.summed;
    }
