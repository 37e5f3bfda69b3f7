-- A whole program and its flat code: where its functions stand, how it begins, and how it ends.
use Rattle.std.proofs.Common.{ℕ, zero, suc, ◌≡◌, ◌+◌, ◌-◌, nat_eq, Bool, true, false, List, [], ◌∷◌, ◌++◌, length, map, slice_get, Option, None, Some, refl, sym, subst, ap, ◌∙◌, append_assoc, arith}
use Rattle.std.proofs.lemmas.List.{length-append}
use Rattle.std.proofs.lemmas.Option.{none-some}
use Rattle.k_num.specs.declared.place.Place.{Place}
use Rattle.k_ending.specs.declared.ending.End.TheVariants.{Returned}
use Rattle.k_types_meaning.specs.declared.tree.unit.TFunc.{TFunc}
use Rattle.k_types_meaning.specs.declared.tree.unit.TObject.{TObject}
use Rattle.k_types_meaning.specs.declared.tree.unit.TString.{TString}
use Rattle.k_mem.specs.declared.start.Start.TheVariants.{Zero}
use Rattle.k_world.specs.declared.value.Held.{Held}
use Rattle.k_world.specs.Changes.{object_made, object_filled, string_made}
use Rattle.k_world.specs.Limits.{call_limit}
use Rattle.k_world.specs.Values.{exit_of}
use Rattle.k_world.specs.Worlds.{World, fresh_telling}
use Rattle.k_code.specs.declared.code.Code.{Code}
use Rattle.k_code.specs.declared.code.CodeObject.{CodeObject}
use Rattle.k_code.specs.declared.instruction.Do.TheVariants as do_
use Rattle.k_code.specs.declared.instruction.Instr.{Instr}
use Rattle.k_code.specs.Telling.{HasToldOutcome}
use Rattle.k_code.specs.Runs.{HasOutcome, start, start_in, begun_with, with_object, with_objects, or_limit, main_called}
use Rattle.k_code.specs.Steps.{Run, Over}
use Rattle.k_code.specs.Steps.{entered as code_entered}
use Rattle.k_evaluation.specs.Calls.{calls}
use Rattle.k_evaluation.specs.Deeds.{deeds_in, telling_run}
use Rattle.k_evaluation.specs.Runs.{starts_object, starts_objects, starts_strings, runs_main, whole, ended, initial, run}
use Rattle.k_evaluation.specs.Objects.{made_object, fills}
use Rattle.k_evaluation.specs.States.{Program, State, Outcome, Goes, Stops, follow, ◌>>=◌}
use Rattle.k_evaluation_control.specs.Laws.{IsTidy}
use Rattle.k_evaluation_control.proofs.Kept.{Leaves}
use Rattle.k_evaluation_control.proofs.Starts.{starts_objects_tidies, starts_strings_tidies, fresh_is_tidy}
use Rattle.k_evaluation_control.proofs.Statements.{calls_keep}
use Rattle.k_lower_code.specs.Functions.{function, function_code}
use Rattle.k_lower_code.specs.Pieces.{instruction}
use Rattle.k_lower_code.specs.Programs.{code_func, code_funcs, functions_code, flattened, literal, plain}
use Rattle.k_lower_runs.specs.Sound.{calls_fit}
use Rattle.k_lower_runs.proofs.Leads.{HasAt, Reaches, EndsSo, has_first, has_rest}
use Rattle.k_lower_flows.specs.Functions.{IsSound}
use Rattle.k_lower_flows.specs.Laws.{IsReady, CodeDoesAsItsProgram, CodeRunsAsItsProgram}
use Rattle.k_lower_flows.proofs.Calls.{Has, AllFollow, Back, calls_do, runs_back}
use Rattle.k_lower_flows.proofs.Functions.{function_sized}
use Rattle.k_lower_flows.proofs.Landing.{handed}

-- code without instructions: whatever is asked of the code of calls is so of it
abbrev nothing : Program → Code
nothing program = record { funcs = []; instrs = []; regions = []; objects = []; main = program.unit.main }

sized : (program : Program) (number : ℕ) (f : TFunc) → IsSound program (calls_fit program.unit) f → (first : ℕ) → length (function_code program number f first) ≡ (function program number f).size
sized program number f sound first =
    function_sized (nothing program) 0 program number f (calls 0 program) (calls_keep program 0) (calls_fit program.unit)
    (λ node g fits used r low os args site at s registers has begins same. absurd (none-some (instruction program node.place do_.Save) has.0)) sound (record { objects = 0; breaks = 0; continues = 0 }) first

-- WHERE FUNCTIONS STAND
module _ (code : Code) where
  has_at_end : (first : ℕ) (earlier later : List Instr) → code.instrs ≡ earlier ++ later → length earlier ≡ first → HasAt code first later
  has_at_end first earlier [] is long = tt
  has_at_end first earlier (i ∷ later) is long = (
    ap (λ l. slice_get l first) is ∙ get_behind earlier i later first long,
    has_at_end (first + 1) (earlier ++ i ∷ []) later (is ∙ sym (append_assoc earlier (i ∷ []) later)) (length-append earlier (i ∷ []) ∙ (let e : length earlier + 1 ≡ first + 1 = omega (arith, long) in e)),
  ) where
    get_behind : (earlier : List Instr) (i : Instr) (later : List Instr) (k : ℕ) → length earlier ≡ k → slice_get (earlier ++ i ∷ later) k ≡ Some i
    get_behind [] i later zero long = refl
    get_behind [] i later (suc k) long = absurd (omega (arith, long))
    get_behind (x ∷ earlier) i later zero long = absurd (omega (arith, long))
    get_behind (x ∷ earlier) i later (suc k) long = get_behind earlier i later k (omega (arith, long))

module _ (program : Program) (ready : IsReady program) where
  abbrev code : Code
  code = flattened program

  -- the functions from this number on stand one behind another from that instruction on
  functions_stand : (fs : List TFunc) (number first k : ℕ) (f : TFunc) → ((k : ℕ) (g : TFunc) → slice_get fs k ≡ Some g → IsSound program (calls_fit program.unit) g)
      → HasAt code first (functions_code program number first fs) → slice_get fs k ≡ Some f
      → (at : ℕ) × (slice_get (code_funcs program number first fs) k ≡ Some (code_func program (number + k) f at)) × HasAt code at (function_code program (number + k) f at)
  functions_stand [] number first k f sound has is = absurd (cc is)
  functions_stand (g ∷ fs) number first zero f sound has is =
      let same : g ≡ f = cc is in
      let there : number ≡ number + 0 = omega arith in (
        first,
        (λ i. Some (code_func program (there i) (same i) first)),
        subst (λ (n : ℕ). HasAt code first (function_code program n f first)) there
            (subst (λ (x : TFunc). HasAt code first (function_code program number x first)) same
            (has_first code first (function_code program number g first) (functions_code program (number + 1) (first + (function program number g).size) fs) has)),
      )
  functions_stand (g ∷ fs) number first (suc k) f sound has is =
      let rest = functions_stand fs (number + 1) (first + (function program number g).size) k f (λ j x there. sound (suc j) x there)
      (has_rest code first (function_code program number g first) (functions_code program (number + 1) (first + (function program number g).size) fs) (function program number g).size
      (sized program number g (sound 0 g refl) first) has) is in
      let there : (number + 1) + k ≡ number + suc k = omega arith in (
        rest.0,
        rest.1 ∙ ap (λ (n : ℕ). Some (code_func program n f rest.0)) there,
        subst (λ (n : ℕ). HasAt code rest.0 (function_code program n f rest.0)) there rest.2,
      )

  has : Has code program
  unfolding flattened
  has = record {
    main = refl;
    function = λ number f is.
        subst (λ (n : ℕ). (at : ℕ) × (slice_get (code_funcs program 0 0 program.unit.functions) number ≡ Some (code_func program n f at)) × HasAt code at (function_code program n f at))
        (omega arith)
        (functions_stand program.unit.functions 0 0 number f ready.functions (has_at_end code 0 [] (functions_code program 0 0 program.unit.functions) refl refl) is);
    sound = ready.functions;
  }

  -- HOW A RUN BEGINS: its objects
  -- a run has ended so, or goes on with this world
  abbrev Begun : Run → (World → Run) → Outcome (Unit {0}) → Type 0
  Begun r on (Goes done s) = r ≡ on s.world
  Begun r on (Stops end w) = r ≡ Over end w

  then_begin : (first second : Run) (on : World → Run) → first ≡ second → (o : Outcome (Unit {0})) → Begun second on o → Begun first on o
  then_begin first second on same (Goes done t) begun = same ∙ begun
  then_begin first second on same (Stops end w) begun = same ∙ begun

  objects_begin : (os : List TObject) (more : List CodeObject) (on : World → Run) (s : State) → Begun (with_objects (map plain os ++ more) on s.world) (with_objects more on) (starts_objects os s)
  unfolding with_object
  objects_begin [] more on s = refl
  objects_begin (o ∷ os) more on s = by (object_made s.world Zero o.elements) (objects_begin os more on)
    where
      by : (m : Option World) → ((t : State) → Begun (with_objects (map plain os ++ more) on t.world) (with_objects more on) (starts_objects os t))
          → Begun (or_limit o.place s.world (with_objects (map plain os ++ more) on) (begun_with o.first s.world.memory.made m)) (with_objects more on)
          (follow (follow (made_object o.place s m) (λ home. fills home o.first)) (λ done. starts_objects os))
      by None rest = refl
      by (Some w) rest = rest (record s { world = object_filled w s.world.memory.made o.first })

  strings_begin : (ts : List TString) (on : World → Run) (s : State) → Begun (with_objects (map literal ts) on s.world) on (starts_strings ts s)
  unfolding with_object
  strings_begin [] on s = refl
  strings_begin (t ∷ ts) on s = by (string_made s.world (t.bytes ++ 0 ∷ [])) (strings_begin ts on)
    where
      by : (m : Option World) → ((x : State) → Begun (with_objects (map literal ts) on x.world) on (starts_strings ts x)) → Begun (or_limit t.place s.world (with_objects (map literal ts) on) m) on (follow (made_object t.place s m) (λ home. starts_strings ts))
      by None rest = refl
      by (Some w) rest = rest (record s { world = w })

  -- the objects of the code are those of the program, and behind them its strings
  all_begin : (os : List TObject) (ts : List TString) (on : World → Run) (s : State)
      → Begun (with_objects (map plain os ++ map literal ts) on s.world) on ((starts_objects os >>= λ objects. starts_strings ts) s)
  all_begin os ts on s = by (starts_objects os s) (objects_begin os (map literal ts) on s)
    where
      by : (o : Outcome (Unit {0})) → Begun (with_objects (map plain os ++ map literal ts) on s.world) (with_objects (map literal ts) on) o
          → Begun (with_objects (map plain os ++ map literal ts) on s.world) on (follow o (λ objects. starts_strings ts))
      by (Goes done t) same = then_begin (with_objects (map plain os ++ map literal ts) on s.world) (with_objects (map literal ts) on t.world) on same (starts_strings ts t) (strings_begin ts on t)
      by (Stops end w) same = same

-- HOW A RUN ENDS: main is called
-- main's number is that of its value, and 0 where it has none
exit_same : (in_main : Bool) (v : Option Held) → exit_of (handed in_main v) ≡ exit_of v
exit_same false None = refl
exit_same true None = refl
exit_same in_main (Some held) = refl

module _ (program : Program) (ready : IsReady program) where
  abbrev its_code : Code
  its_code = flattened program

  its_parts : Has its_code program
  its_parts = has program ready

  -- a run ends as this outcome of main says
  abbrev EndsAs : Run → Outcome (Option Held) → Type 0
  EndsAs r (Goes v t) = EndsSo its_code r (Returned (exit_of v)) t.world
  EndsAs r (Stops end w) = EndsSo its_code r end w

  -- so many calls may be live beside main's
  abbrev beside : ℕ
  beside = call_limit - 1

  its_calls : AllFollow its_code program its_parts beside
  its_calls = calls_do its_code program its_parts beside (omega arith)

  handed_over : (r : Run) (number : ℕ) (f : TFunc) (is : slice_get program.unit.functions number ≡ Some f) (before : World) (o : Outcome (Option Held))
      → Back its_code program its_parts beside its_calls number f is r [] before o → EndsAs r o
  handed_over r number f is before (Stops end w) ends = ends
  handed_over r number f is before (Goes v t) back = record {
    last = record t.world { calls = before.calls; size = before.size; control = back.0 };
    reaches = subst (λ z. Reaches its_code r (Over (Returned z) (record t.world { calls = before.calls; size = before.size; control = back.0 }))) (exit_same (nat_eq number its_code.main) v) back.1;
    events = refl;
    output = refl;
    deeds = refl;
  }

  abbrev main_of : Option TFunc
  main_of = slice_get program.unit.functions program.unit.main

  -- a function of the code is entered as main is
  abbrev entered_as : ℕ → ℕ → TFunc → ℕ → World → Run
  entered_as at number f first w = code_entered (code_func program number f first) at [] [] w

  main_runs : (f : TFunc) → main_of ≡ Some f → (s : State) → IsTidy 0 s.world → EndsAs (main_called its_code (slice_get its_code.funcs its_code.main) s.world) (runs_main program (Some f) s)
  main_runs f is s tidy =
      let there = its_parts.function program.unit.main f is in
      let back = runs_back its_code program its_parts beside its_calls program.unit.main f is [] s [] there.0 there.1 there.2
      (record { laid = tidy.laid; origins = tidy.origins; calls = omega (arith, tidy.calls) }) in
      let called : slice_get its_code.funcs its_code.main ≡ Some (code_func program program.unit.main f there.0) = ap (slice_get its_code.funcs) its_parts.main ∙ there.1 in
      subst (λ (r : Run). EndsAs r (runs_main program (Some f) s))
      (sym (ap (λ g. main_called its_code g s.world) called ∙ ap (λ n. entered_as n program.unit.main f there.0 s.world) its_parts.main))
      (handed_over (entered_as program.unit.main program.unit.main f there.0 s.world) program.unit.main f is s.world (runs_main program (Some f) s) back)

  main_ends : (s : State) → IsTidy 0 s.world → EndsAs (main_called its_code (slice_get its_code.funcs its_code.main) s.world) (runs_main program main_of s)
  main_ends s tidy = subst (λ (g : Option TFunc). EndsAs (main_called its_code (slice_get its_code.funcs its_code.main) s.world) (runs_main program g s)) (sym ready.main.1) (main_runs ready.main.0 ready.main.1 s tidy)

  abbrev on : World → Run
  on w = main_called its_code (slice_get its_code.funcs its_code.main) w

  strings_end : (r : Run) (before : Option ℕ) (o : Outcome (Unit {0})) → Begun program ready r on o → Leaves 0 false before o → EndsAs r (follow o (λ strings. runs_main program main_of))
  strings_end r before (Goes done s) begun leaves = subst (λ (x : Run). EndsAs x (runs_main program main_of s)) (sym begun) (main_ends s leaves.0)
  strings_end r before (Stops end w) begun leaves = record { last = w; reaches = (zero, begun); events = refl; output = refl; deeds = refl }

  objects_end : (r : Run) (before : Option ℕ) (o : Outcome (Unit {0})) → Begun program ready r (with_objects (map literal program.unit.strings) on) o → Leaves 0 false before o
      → EndsAs r (follow o (λ objects. starts_strings program.unit.strings >>= λ strings. runs_main program main_of))
  objects_end r before (Goes done s) begun leaves =
      strings_end r s.world.control (starts_strings program.unit.strings s)
      (then_begin program ready r (with_objects (map literal program.unit.strings) on s.world) on begun (starts_strings program.unit.strings s) (strings_begin program ready program.unit.strings on s))
      ((starts_strings_tidies program.unit.strings).leaves 0 s leaves.0)
  objects_end r before (Stops end w) begun leaves = record { last = w; reaches = (zero, begun); events = refl; output = refl; deeds = refl }

  -- the run ends as the program's does, from each tidy world
  run_ends : (s : State) → IsTidy 0 s.world → EndsAs (start_in its_code s.world) (whole program s)
  unfolding whole flattened
  run_ends s tidy =
      objects_end (start_in its_code s.world) s.world.control (starts_objects program.unit.objects s)
      (objects_begin program ready program.unit.objects (map literal program.unit.strings) on s)
      ((starts_objects_tidies program.unit.objects).leaves 0 s tidy)

  outcome_is : (input : List ℕ) (budget : ℕ) (o : Outcome (Option Held)) → EndsAs (start its_code input budget) o → HasOutcome its_code input budget (ended o).events (ended o).output (ended o).end
  outcome_is input budget (Goes v t) ends = record { count = ends.reaches.0; world = ends.last; is = ends.reaches.1; events_are = ends.events; output_is = ends.output }
  outcome_is input budget (Stops end w) ends = record { count = ends.reaches.0; world = ends.last; is = ends.reaches.1; events_are = ends.events; output_is = ends.output }

  -- so does the run in which it is told what operations do
  told_is : (input : List ℕ) (budget : ℕ) (o : Outcome (Option Held)) → EndsAs (start_in its_code (fresh_telling budget input)) o
      → HasToldOutcome its_code input budget (deeds_in o) (ended o).events (ended o).output (ended o).end
  told_is input budget (Goes v t) ends =
      record { count = ends.reaches.0; world = ends.last; is = ends.reaches.1; deeds_are = ends.deeds; events_are = ends.events; output_is = ends.output }
  told_is input budget (Stops end w) ends =
      record { count = ends.reaches.0; world = ends.last; is = ends.reaches.1; deeds_are = ends.deeds; events_are = ends.events; output_is = ends.output }

pub code_runs_as_its_program : CodeRunsAsItsProgram
unfolding run start
code_runs_as_its_program program input budget ready =
    outcome_is program ready input budget (whole program (initial input budget)) (run_ends program ready (initial input budget) (fresh_is_tidy budget input))

pub code_does_as_its_program : CodeDoesAsItsProgram
unfolding telling_run
code_does_as_its_program program input budget ready =
    let tidy = fresh_is_tidy budget input in
    let s : State = record { vars = []; world = fresh_telling budget input } in
    told_is program ready input budget (whole program s) (run_ends program ready s (record { laid = tidy.laid; origins = tidy.origins; calls = tidy.calls }))
