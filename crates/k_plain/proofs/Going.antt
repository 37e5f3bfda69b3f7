-- Where a run stands behind one instruction more.
use Rattle.std.proofs.Common.{◌≡◌, ℕ, suc, ◌+◌, ◌*◌, ◌^◌, ◌<◌, ◌≤◌, List, [], ◌∷◌, ◌++◌, slice_get, Option, Some, None, Ok, Err, arith, sym, subst, ap, inl, inr, ◌∙◌}
use Rattle.k_optab.specs.declared.event.Event.{Event}
use Rattle.k_optab.specs.declared.event.Event.TheVariants.{Enter}
use Rattle.k_ending.specs.declared.ending.End.{End}
use Rattle.k_world.specs.declared.answer.Stop.TheVariants as stop
use Rattle.k_code.specs.declared.code.Code.{Code}
use Rattle.k_code.specs.declared.code.CodeFunc.{CodeFunc}
use Rattle.k_code.specs.declared.instruction.Do.{Do}
use Rattle.k_code.specs.declared.instruction.Do.TheVariants.{Address, Fill}
use Rattle.k_code.specs.declared.instruction.Home.TheVariants.{File, Local}
use Rattle.k_code.specs.Endings.{ahead}
use Rattle.k_code.specs.Finds.{Finds, FindsObject}
use Rattle.k_code.specs.Runs.{HasOutcome, run_of}
use Rattle.k_code.specs.Steps.{Configuration, Run, Going, Over, step}
use Rattle.k_code.specs.Valid.{IsValid}
use Rattle.k_code.proofs.Ending.{cycles_make_operations}
use Rattle.k_code.proofs.Finding.{instructions_find}
use Rattle.k_hcpa_meaning.specs.Behind.{behind_all, world_behind}
use Rattle.k_hcpa_store.specs.Kept.{Kept, configuration_of}
use Rattle.k_hcpa_store.specs.Leads.{GoesOn, Starts}
use Rattle.k_plain.specs.declared.setting.Setting.{Setting}
use Rattle.k_plain.specs.Running.{Stands, Stepped, left_to_go}
use Rattle.k_plain.specs.Steps.{Advanced, GoesOrEnds}

-- an object is found whatever lies behind
finds_object : (what : Do) (events : List Event) (taken : List ℕ) (c : Configuration) → FindsObject what (behind_all events taken c) → FindsObject what c
finds_object (Address (File n) offset to) events taken c is = is
finds_object (Address (Local n) offset to) events taken c is = is
finds_object (Fill local values) events taken c is = is
finds_object what events taken c is = is

finds_here : (code : Code) (events : List Event) (taken : List ℕ) (c : Configuration) → Finds code (behind_all events taken c) → Finds code c
finds_here code events taken c f = record {
  instr = f.instr;
  is = f.is;
  func = f.func;
  of = f.of;
  registers = f.registers;
  targets = f.targets;
  names = f.names;
  object = finds_object f.instr.act events taken c f.object;
  balance = f.balance;
}

module _ (s : Setting) (k : Kept) (listed : List Event) (valid : IsValid s.code.now) (here : Stands s k listed) where
  abbrev now : Configuration
  now = behind_all listed [] (configuration_of k)

  pub finds : Finds k.code (configuration_of k)
  finds =
      subst (λ (code : Code). Finds code (configuration_of k)) (sym here.code)
      (finds_here s.code.now listed [] (configuration_of k) (instructions_find s.code.now valid s.input.now s.budget here.count now here.run))

  next_run : (run : List Event → List ℕ → Run) → ((events : List Event) (taken : List ℕ) → step k.code (Going (behind_all events taken (configuration_of k))) ≡ run events taken)
      → run_of s.code.now s.input.now s.budget (suc here.count) ≡ run listed []
  next_run run steps = ap (step s.code.now) here.run ∙ (ap (λ (code : Code). step code (Going now)) (sym here.code) ∙ steps listed [])

  -- it comes nearer to its end
  nearer : (more : List Event) (k' : Kept) → GoesOn k more k' → left_to_go k' < left_to_go k
  nearer more k' on =
      let after : Configuration = behind_all (listed ++ more) [] (configuration_of k') in
      let same : suc here.count ≡ here.count + 1 = omega arith in
      let run : run_of s.code.now s.input.now s.budget (suc here.count) ≡ Going after =
      next_run (λ events taken. Going (behind_all (events ++ more) taken (configuration_of k'))) on.1 in
      let law = cycles_make_operations s.code.now valid s.input.now s.budget here.count now after here.run in
      let next = cycles_make_operations s.code.now valid s.input.now s.budget (suc here.count) after after run in
      let old_ahead : ahead k.code (configuration_of k) ≡ ahead s.code.now (configuration_of k) = ap (λ (code : Code). ahead code (configuration_of k)) here.code in
      let new_ahead : ahead k'.code (configuration_of k') ≡ ahead s.code.now (configuration_of k') = ap (λ (code : Code). ahead code (configuration_of k')) (on.0 ∙ here.code) in
      elim (law.1 (subst (λ (j : ℕ). run_of s.code.now s.input.now s.budget j ≡ Going after) same run)) [
        | inl made ↦
            (let left : (configuration_of k').world.left + 1 ≡ (configuration_of k).world.left = made in
            let low : ahead s.code.now (configuration_of k') ≤ 2 ^ 29 = next.0 in
            less_left (configuration_of k').world.left (configuration_of k).world.left (ahead k'.code (configuration_of k')) (ahead k.code (configuration_of k)) left (omega (arith, new_ahead, low)))
        | inr on_ahead ↦
            (let left : (configuration_of k').world.left ≡ (configuration_of k).world.left = on_ahead.0 in
            let less : ahead s.code.now (configuration_of k') < ahead s.code.now (configuration_of k) = on_ahead.1 in
            omega (arith, ap (λ (n : ℕ). n * (2 ^ 29 + 1)) left, old_ahead, new_ahead, less))
      ]
    where
      less_left : (a b x y : ℕ) → a + 1 ≡ b → x ≤ 2 ^ 29 → a * (2 ^ 29 + 1) + x < b * (2 ^ 29 + 1) + y
      less_left a b x y same low = omega (arith, same, low)

  -- one instruction more
  pub stepped : (end : Option End) (k' : Kept) (after : List Event) → Advanced k end k' listed after → Stepped s k end k' after
  stepped None k' after did =
      let on : GoesOn k did.more k' = did.goes in (
        record {
          count = suc here.count;
          code = on.0 ∙ here.code;
          run = next_run (λ events taken. Going (behind_all (events ++ did.more) taken (configuration_of k'))) on.1
              ∙ (λ j. Going (behind_all (sym did.listed j) [] (configuration_of k')));
        },
        nearer did.more k' on,
      )
  stepped (Some end) k' after did =
      let over : GoesOrEnds k did.more (Some end) k' = did.goes in
      record {
        count = suc here.count;
        world = world_behind (listed ++ did.more) [] over.0;
        is = next_run (λ events taken. Over end (world_behind (events ++ did.more) taken over.0)) over.2;
        events_are = sym did.listed;
        output_is = over.1;
      }

-- a run that begins
pub begins : (s : Setting) (k : Kept) (f : CodeFunc) (events : List Event) → Starts s.code.now s.input.now s.budget (Ok k)
    → slice_get s.code.now.funcs s.code.now.main ≡ Some f → events ≡ Enter f.region ∷ [] → Stands s k events
begins s k f events starts main listed = record {
  count = 0;
  code = starts.0;
  run = starts.1 f main ∙ (λ j. Going (behind_all (sym listed j) [] (configuration_of k)));
}

-- one that has ended at once
pub at_once : (code : Code) (input : List ℕ) (budget : ℕ) (end : End) (events : List Event) (output : List ℕ) → Starts code input budget (Err (stop.Ended end))
    → events ≡ [] → output ≡ [] → HasOutcome code input budget events output end
at_once code input budget end events output starts none nothing =
    record { count = 0; world = starts.0; is = starts.3; events_are = starts.1 ∙ sym none; output_is = starts.2 ∙ sym nothing }
