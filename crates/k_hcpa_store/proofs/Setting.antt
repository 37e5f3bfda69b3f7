-- A configuration in which a register of the newest call is set.
use Rattle.std.proofs.Common.{◌≡◌, ◌≢◌, ℕ, ◌+◌, ◌<◌, List, length, take, Option, Some, None, Bool, true, false, nat_eq, get_or, set, refl, ◌∙◌, ap, arith}
use Rattle.std.specs.Prelude.{if◌then◌else◌, slice_set}
use Rattle.std.proofs.Math.ListN.{length-set}
use Rattle.std.proofs.lemmas.Bool.{eqb-true, eqb-false}
use Rattle.std.proofs.lemmas.List.{get_or-set_same, get_or-set_other, take-set-le}
use Rattle.k_world.specs.declared.value.Held.{Held}
use Rattle.k_world.specs.Worlds.{World}
use Rattle.k_code.specs.Steps.{with_slot, with_register}
use Rattle.k_hcpa_store.specs.declared.call.Call.{Call}
use Rattle.k_hcpa_store.specs.Kept.{Kept, window, frame_of, waiting_of, configuration_of}
use Rattle.k_hcpa_store.specs.Parts.{with_set, IsWithin}

window_set : (registers : List (Option Held)) (first r : ℕ) (slot : Option Held) → first + r < length registers
    → (k : ℕ) → window (slice_set registers (first + r) slot) first k ≡ with_slot r slot (window registers first) k
window_set registers first r slot within k = go (nat_eq k r) refl
  where
    go : (b : Bool) → nat_eq k r ≡ b → get_or (set registers (first + r) slot) (first + k) None ≡ (if b then slot else get_or registers (first + k) None)
    go true is =
        let same : k ≡ r = eqb-true k r is in
        ap (λ (n : ℕ). get_or (set registers (first + r) slot) (first + n) None) same ∙ get_or-set_same registers (first + r) slot None within
    go false is =
        let other : first + k ≢ first + r = λ e. eqb-false k r is (omega (arith, e)) in
        get_or-set_other registers (first + r) (first + k) slot None other

-- the newest call with its register set
pub frame_set : (call : Call) (registers : List (Option Held)) (saved : List (Option ℕ)) (r : Option ℕ) (slot : Option Held) → IsWithin call.first r registers
    → frame_of call (with_set call.first r slot registers) saved ≡ with_register r slot (frame_of call registers saved)
frame_set call registers saved None slot within = refl
frame_set call registers saved (Some r) slot within =
    λ i. record (frame_of call registers saved) { registers = λ k. window_set registers call.first r slot within k i }

-- what stands before it stays
pub before_set : (first : ℕ) (registers : List (Option Held)) (r : Option ℕ) (slot : Option Held) → take first (with_set first r slot registers) ≡ take first registers
before_set first registers None slot = refl
before_set first registers (Some r) slot = take-set-le first registers (first + r) slot (omega arith)

pub length_set : (first : ℕ) (registers : List (Option Held)) (r : Option ℕ) (slot : Option Held) → length (with_set first r slot registers) ≡ length registers
length_set first registers None slot = refl
length_set first registers (Some r) slot = length-set registers (first + r) slot

-- a register is set, and the run goes on elsewhere and in another world
pub configuration_set : (s : Kept) (r : Option ℕ) (slot : Option Held) (pc : ℕ) (w : World) → IsWithin s.call.first r s.registers
    → configuration_of (record s { pc = pc; registers = with_set s.call.first r slot s.registers; world = w })
    ≡ record (configuration_of s) { pc = pc; frame = with_register r slot (configuration_of s).frame; world = w }
unfolding configuration_of
configuration_set s r slot pc w within = λ i. record {
  pc = pc;
  frame = frame_set s.call s.registers s.saved r slot within i;
  waiting = waiting_of s.waiting (before_set s.call.first s.registers r slot i) (take s.call.saved s.saved);
  world = w;
}
