-- Where a machine stands before the first instruction.
use Rattle.std.proofs.Common.{◌≡◌, ◌+◌, ◌≤◌, slice_get, Some, Ok, arith, subst, sym}
use Rattle.k_code.specs.declared.code.CodeFunc.{CodeFunc}
use Rattle.k_hcpa_meaning.specs.Summing.{Summing, nothing_entered, region_entered}
use Rattle.k_hcpa_meaning.specs.Timings.{Timing, entered_below, no_levels}
use Rattle.k_hcpa_standing.specs.Standing.{IsSetting, Setting, Stands}
use Rattle.k_hcpa_standing.proofs.Starting.{starts_stand}
use Rattle.k_hcpa_store.specs.Kept.{configuration_of}
use Rattle.k_hcpa_store.specs.Leads.{Starts}
use Rattle.k_hcpa_times.specs.Seen.{Seen, instance_entered}
use Rattle.k_hcpa_steps.specs.Keeping.{Keeping, StandsAt}
use Rattle.k_hcpa_steps.proofs.Levels.{one_level}

-- main was entered
pub start_stands : (s : Setting) → IsSetting s → (f : CodeFunc) → slice_get s.code.funcs s.code.main ≡ Some f → (new : Keeping) → Starts s.code s.input s.budget (Ok new.kept)
    → (seen : Seen) → seen.timing ≡ no_levels → seen.entries ≡ 0 → 2097152 ≤ seen.registers → 4194304 ≤ seen.elements
    → new.seen ≡ instance_entered s.depth 0 seen → new.sum ≡ region_entered s.depth f.region nothing_entered → StandsAt s 0 0 new
start_stands s set f found new starts seen none entries registers elements times sum =
    let c = configuration_of new.kept in
    let one = one_level s.depth 0 in
    record {
      code = starts.0;
      stands = subst (λ (x : Seen). Stands s 0 0 c x.timing new.sum) (sym times)
          (subst (λ (x : Summing). Stands s 0 0 c (entered_below s.depth 0 seen.timing) x) (sym sum)
          (subst (λ (t : Timing). Stands s 0 0 c (entered_below s.depth 0 t) (region_entered s.depth f.region nothing_entered)) (sym none)
          (starts_stand s c f set found (starts.1 f found))));
      registers = subst (λ (x : Seen). 2097152 ≤ x.registers) (sym times) registers;
      elements = subst (λ (x : Seen). 4194304 ≤ x.elements) (sym times) elements;
      entries = subst (λ (x : Seen). x.entries ≤ 0 + 1) (sym times) (omega (arith, entries, one));
    }
