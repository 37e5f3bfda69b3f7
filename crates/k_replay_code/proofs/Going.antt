-- Where a run that is recorded stands behind one instruction more, and what its record says once it has ended.
use Rattle.std.proofs.Common.{◌≡◌, ℕ, zero, suc, ◌+◌, ◌*◌, ◌^◌, ◌<◌, ◌≤◌, List, [], ◌∷◌, ◌++◌, length, slice_get, map, Option, Some, None, Result, Ok, Err, arith, refl, sym, subst, ap, inl, inr, ◌∙◌}
use Rattle.std.proofs.lemmas.List.{append-nil, map-append}
use Rattle.std.specs.Prelude.{IfOk}
use Rattle.k_num.specs.declared.memory.NoMemory.{NoMemory}
use Rattle.k_optab.specs.declared.event.Event.{Event}
use Rattle.k_optab.specs.declared.event.Event.TheVariants.{Enter}
use Rattle.k_optab.specs.Events.{Operation, operations}
use Rattle.k_optab.proofs.Trees.{operations-append}
use Rattle.k_ending.specs.declared.ending.End.{End}
use Rattle.k_world.specs.declared.answer.Stop.{Stop}
use Rattle.k_world.specs.declared.answer.Stop.TheVariants as stop
use Rattle.k_world.specs.Deeds.{Deed}
use Rattle.k_world.specs.Worlds.{World}
use Rattle.k_code.specs.declared.code.Code.{Code}
use Rattle.k_code.specs.declared.code.CodeFunc.{CodeFunc}
use Rattle.k_code.specs.declared.instruction.Do.{Do}
use Rattle.k_code.specs.declared.instruction.Do.TheVariants.{Address, Fill}
use Rattle.k_code.specs.declared.instruction.Home.TheVariants.{File, Local}
use Rattle.k_code.specs.Endings.{ahead}
use Rattle.k_code.specs.Finds.{Finds, FindsObject}
use Rattle.k_code.specs.Runs.{run_of}
use Rattle.k_code.specs.Steps.{Configuration, Run, Going, Over, step}
use Rattle.k_code.specs.Valid.{IsValid}
use Rattle.k_code.proofs.Ending.{cycles_make_operations}
use Rattle.k_code.proofs.Finding.{instructions_find}
use Rattle.k_hcpa_meaning.specs.Behind.{behind_all, world_behind}
use Rattle.k_hcpa_store.specs.Kept.{Kept, configuration_of}
use Rattle.k_hcpa_store.specs.Leads.{GoesOn, Starts}
use Rattle.k_replay_record.specs.declared.record.Datum.{Datum}
use Rattle.k_replay_record.specs.declared.record.Record.{Record}
use Rattle.k_replay_record.specs.declared.record.Step.{Step}
use Rattle.k_replay_record.specs.Recorded.{IsRecorded, Recorded}
use Rattle.k_replay_record.specs.Records.{IsRecord}
use Rattle.k_replay_record.specs.Serial.{serial, serial_bytes, values_with}
use Rattle.k_replay_recording.specs.Laws.{from_numbers}
use Rattle.k_replay_code.specs.Performed.{performed, performed_next}
use Rattle.k_replay_code.specs.Recorded.{IsRecordOf, numbers, source_numbers, step_for, step_numbers, value_for}
use Rattle.k_replay_code.specs.Running.{AreTaped, HasEnded, Setting, Stands, Stepped, left_to_go}
use Rattle.k_replay_code.specs.Steps.{Advanced, GoesOrEnds, IsTaped}
use Rattle.k_replay_code.proofs.Leaving.{there}

-- an object is found whatever lies behind
finds_object : (what : Do) (events : List Event) (taken : List ℕ) (c : Configuration) → FindsObject what (behind_all events taken c) → FindsObject what c
finds_object (Address (File n) offset to) events taken c is = is
finds_object (Address (Local n) offset to) events taken c is = is
finds_object (Fill local values) events taken c is = is
finds_object what events taken c is = is

finds_here : (code : Code) (events : List Event) (taken : List ℕ) (c : Configuration) → Finds code (behind_all events taken c) → Finds code c
finds_here code events taken c f = record {
  instr = f.instr;
  is = f.is;
  func = f.func;
  of = f.of;
  registers = f.registers;
  targets = f.targets;
  names = f.names;
  object = finds_object f.instr.act events taken c f.object;
  balance = f.balance;
}

-- the sources of operations, one list behind the other
source_numbers-append : (xs ys : List Event) → source_numbers (xs ++ ys) ≡ source_numbers xs ++ source_numbers ys
source_numbers-append xs ys =
    ap (λ (ops : List Operation). map (λ (op : Operation). numbers op.sources) ops) (operations-append xs ys)
    ∙ map-append (λ (op : Operation). numbers op.sources) (operations xs) (operations ys)

step_numbers-append : (xs ys : List Step) → step_numbers (xs ++ ys) ≡ step_numbers xs ++ step_numbers ys
step_numbers-append xs ys = map-append (λ (s : Step). from_numbers s.operands) xs ys

performed_on : (s : Setting) (count : ℕ) (ps : List Deed) → performed_next s.code (run_of s.code s.input s.budget count) ≡ ps
    → performed s.code s.input s.budget (suc count) ≡ performed s.code s.input s.budget count ++ ps
unfolding performed
performed_on s count ps is = ap (λ (more : List Deed). performed s.code s.input s.budget count ++ more) is

performed_none : (s : Setting) → performed s.code s.input s.budget 0 ≡ []
unfolding performed
performed_none s = refl

module _ (s : Setting) (k : Kept) (r : Recorded) (valid : IsValid s.code) (here : Stands s k r) where
  abbrev now : Configuration
  now = behind_all here.events [] (configuration_of k)

  pub finds : Finds k.code (configuration_of k)
  finds =
      subst (λ (code : Code). Finds code (configuration_of k)) (sym here.code)
      (finds_here s.code here.events [] (configuration_of k) (instructions_find s.code valid s.input s.budget here.count now here.run))

  next_run : (run : List Event → List ℕ → Run) → ((events : List Event) (taken : List ℕ) → step k.code (Going (behind_all events taken (configuration_of k))) ≡ run events taken)
      → run_of s.code s.input s.budget (suc here.count) ≡ run here.events []
  next_run run steps = ap (step s.code) here.run ∙ (ap (λ (code : Code). step code (Going now)) (sym here.code) ∙ steps here.events [])

  -- it comes nearer to its end
  nearer : (more : List Event) (k' : Kept) → GoesOn k more k' → left_to_go k' < left_to_go k
  nearer more k' on =
      let after : Configuration = behind_all (here.events ++ more) [] (configuration_of k') in
      let same : suc here.count ≡ here.count + 1 = omega arith in
      let run : run_of s.code s.input s.budget (suc here.count) ≡ Going after =
      next_run (λ events taken. Going (behind_all (events ++ more) taken (configuration_of k'))) on.1 in
      let law = cycles_make_operations s.code valid s.input s.budget here.count now after here.run in
      let next = cycles_make_operations s.code valid s.input s.budget (suc here.count) after after run in
      let old_ahead : ahead k.code (configuration_of k) ≡ ahead s.code (configuration_of k) = ap (λ (code : Code). ahead code (configuration_of k)) here.code in
      let new_ahead : ahead k'.code (configuration_of k') ≡ ahead s.code (configuration_of k') = ap (λ (code : Code). ahead code (configuration_of k')) (on.0 ∙ here.code) in
      elim (law.1 (subst (λ (j : ℕ). run_of s.code s.input s.budget j ≡ Going after) same run)) [
        | inl made ↦
            (let left : (configuration_of k').world.left + 1 ≡ (configuration_of k).world.left = made in
            let low : ahead s.code (configuration_of k') ≤ 2 ^ 29 = next.0 in
            less_left (configuration_of k').world.left (configuration_of k).world.left (ahead k'.code (configuration_of k')) (ahead k.code (configuration_of k)) left (omega (arith, new_ahead, low)))
        | inr on_ahead ↦
            (let left : (configuration_of k').world.left ≡ (configuration_of k).world.left = on_ahead.0 in
            let less : ahead s.code (configuration_of k') < ahead s.code (configuration_of k) = on_ahead.1 in
            omega (arith, ap (λ (n : ℕ). n * (2 ^ 29 + 1)) left, old_ahead, new_ahead, less))
      ]
    where
      less_left : (a b x y : ℕ) → a + 1 ≡ b → x ≤ 2 ^ 29 → a * (2 ^ 29 + 1) + x < b * (2 ^ 29 + 1) + y
      less_left a b x y same low = omega (arith, same, low)

  module _ (end : Option End) (k' : Kept) (r' : Recorded) (did : Advanced k end k' r r') where
    next_performed : performed s.code s.input s.budget (suc here.count) ≡ performed s.code s.input s.budget here.count ++ did.made
    next_performed =
        performed_on s here.count did.made
        (ap (performed_next s.code) here.run ∙ (ap (λ (code : Code). performed_next code (Going now)) (sym here.code) ∙ did.performs here.events []))

    taped : IsTaped (performed s.code s.input s.budget here.count ++ did.made) r'
    taped = (let t = here.taped in did.adds (performed s.code s.input s.budget here.count) t.taped)

    next_sources : step_numbers r'.steps ≡ source_numbers (here.events ++ did.more)
    next_sources =
        let t = here.taped in
        let old = t.taped in
        let new = taped in
        ap step_numbers (new.steps ∙ map-append step_for (performed s.code s.input s.budget here.count) did.made)
        ∙ step_numbers-append (map step_for (performed s.code s.input s.budget here.count)) (map step_for did.made)
        ∙ (λ j. (ap step_numbers (sym old.steps) ∙ t.sources) j ++ did.sources j)
        ∙ sym (source_numbers-append here.events did.more)

    next_taped : AreTaped s (suc here.count) (here.events ++ did.more) r'
    next_taped = record { taped = subst (λ (ps : List Deed). IsTaped ps r') (sym next_performed) taped; sources = next_sources }

  -- one instruction more
  pub stepped : (end : Option End) (k' : Kept) (r' : Recorded) → Advanced k end k' r r' → Stepped s k end k' r'
  stepped None k' r' did =
      let on : GoesOn k did.more k' = did.goes in (
        record {
          count = suc here.count;
          events = here.events ++ did.more;
          code = on.0 ∙ here.code;
          run = next_run (λ events taken. Going (behind_all (events ++ did.more) taken (configuration_of k'))) on.1;
          taped = next_taped None k' r' did;
        },
        nearer did.more k' on,
      )
  stepped (Some end) k' r' did =
      let over : GoesOrEnds k did.more (Some end) k' = did.goes in
      record {
        count = suc here.count;
        world = world_behind (here.events ++ did.more) [] over.0;
        run = next_run (λ events taken. Over end (world_behind (events ++ did.more) taken over.0)) over.2;
        output = over.1;
        taped = next_taped (Some end) k' r' did;
      }

no_values : serial [] ≡ []
unfolding values_with
no_values = refl

-- nothing is recorded
none_taped : (s : Setting) (r : Recorded) → r.steps ≡ [] → IsRecorded r → IsTaped (performed s.code s.input s.budget 0) r
none_taped s r none fits = subst (λ (ps : List Deed). IsTaped ps r) (sym (performed_none s)) (record {
  steps = none;
  values = ap serial none ∙ no_values;
  fits = fits;
})

-- a run that begins
pub begins : (s : Setting) (k : Kept) (r : Recorded) → IsValid s.code → Starts s.code s.input s.budget (Ok k) → r.steps ≡ [] → IsRecorded r → Stands s k r
begins s k r valid starts none fits =
    let f = there s.code.funcs s.code.main valid.main in
    record {
      count = 0;
      events = Enter f.0.region ∷ [];
      code = starts.0;
      run = starts.1 f.0 f.1;
      taped = record { taped = none_taped s r none fits; sources = ap step_numbers none };
    }

-- the record of a run that has ended
pub recorded : (s : Setting) (k : Kept) (r : Recorded) (end : End) (tape : Record) → HasEnded s k r end → r.output ≡ (configuration_of k).world.output
    → IsRecord tape → tape.steps ≡ r.steps → tape.output ≡ serial_bytes r.steps → tape.end ≡ end → IsRecordOf s.code s.input s.budget tape
recorded s k r end tape is wrote fits steps output ends =
    let all = is.taped in
    let t = all.taped in
    let f = t.fits in
    let written : serial_bytes r.steps ≡ is.world.output = sym f.output ∙ wrote ∙ sym is.output in
    record {
      count = is.count;
      world = is.world;
      ends = is.run ∙ ap (λ (e : End). Over e is.world) (sym ends);
      steps = steps ∙ t.steps;
      values = ap serial steps ∙ t.values;
      sources = ap step_numbers steps ∙ all.sources;
      output = output ∙ written;
      written = ap serial_bytes steps ∙ written;
      fits = fits;
    }

-- the same where it ends at once
pub recorded_at_once : (s : Setting) (r : Recorded) (end : End) (tape : Record) → Starts s.code s.input s.budget (Err (stop.Ended end)) → r.steps ≡ [] → IsRecorded r
    → IsRecord tape → tape.steps ≡ r.steps → tape.output ≡ serial_bytes r.steps → tape.end ≡ end → IsRecordOf s.code s.input s.budget tape
recorded_at_once s r end tape starts none taped fits steps output ends =
    let t = none_taped s r none taped in
    let no_bytes : serial_bytes r.steps ≡ [] = ap serial_bytes none in
    record {
      count = 0;
      world = starts.0;
      ends = starts.3 ∙ ap (λ (e : End). Over e starts.0) (sym ends);
      steps = steps ∙ t.steps;
      values = ap serial steps ∙ t.values;
      sources = ap step_numbers (steps ∙ none) ∙ ap source_numbers (sym starts.1);
      output = output ∙ no_bytes ∙ sym starts.2;
      written = ap serial_bytes steps ∙ no_bytes ∙ sym starts.2;
      fits = fits;
    }

-- what is recorded computes its own values
pub still_recorded : (s : Setting) (k : Kept) (r : Recorded) → Stands s k r → IsRecorded r
still_recorded s k r is = (let all = is.taped in let t = all.taped in t.fits)

pub ended_recorded : (s : Setting) (k : Kept) (r : Recorded) (end : End) → HasEnded s k r end → IsRecorded r
ended_recorded s k r end is = (let all = is.taped in let t = all.taped in t.fits)

-- the same of what was told
pub all_at_once : (s : Setting) (r : Recorded) (st : Stop) (result : Result Record NoMemory) → Starts s.code s.input s.budget (Err st) → r.steps ≡ [] → IsRecorded r
    → IfOk result (λ made. (end : End) × (st ≡ stop.Ended end) × IsRecord made × (made.steps ≡ r.steps) × (made.output ≡ serial_bytes r.steps) × (made.end ≡ end))
    → IfOk result (λ made. IsRecordOf s.code s.input s.budget made)
all_at_once s r st (Err e) starts none fits is = is
all_at_once s r st (Ok made) starts none fits is =
    recorded_at_once s r is.0 made (subst (λ (x : Stop). Starts s.code s.input s.budget (Err x)) is.1 starts) none fits is.2 is.3 is.4 is.5
