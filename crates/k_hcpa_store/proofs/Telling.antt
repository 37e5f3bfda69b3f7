-- What a store tells of its configuration.
use Rattle.std.proofs.Common.{◌≡◌, ℕ, ◌+◌, ◌-◌, ◌*◌, ◌<◌, ◌≤◌, List, [], ◌∷◌, length, map, take, drop, reverse, Option, Some, None, refl, sym, ◌∙◌, ap, subst, arith}
use Rattle.std.specs.Prelude.{slice_get, option_map, IfSome}
use Rattle.std.proofs.lemmas.List.{length-append, length-drop, length-reverse, length-take-le}
use Rattle.std.proofs.lemmas.Option.{same_Some, slice_get_within}
use Rattle.k_num.specs.Top.{top}
use Rattle.k_world.specs.declared.value.Held.{Held}
use Rattle.k_code.specs.declared.code.Code.{Code}
use Rattle.k_code.specs.declared.code.CodeFunc.{CodeFunc}
use Rattle.k_code.specs.declared.instruction.Instr.{Instr}
use Rattle.k_code.specs.Finds.{Finds}
use Rattle.k_code.specs.Named.{up_to_register}
use Rattle.k_code.specs.Steps.{size_of}
use Rattle.k_code.specs.Valid.{IsValid}
use Rattle.k_hcpa_meaning.specs.Locations.{first_register, frames_of, registers_of, saved_in, waiting_frames, width, widths}
use Rattle.k_hcpa_store.specs.declared.call.Call.{Call}
use Rattle.k_hcpa_store.specs.declared.call.Caller.{Caller}
use Rattle.k_hcpa_store.specs.Kept.{Kept, waiting_of, configuration_of}
use Rattle.k_hcpa_store.specs.Leads.{IsNext, back_register}
use Rattle.k_hcpa_store.specs.Sound.{IsSound, AreLaid, AreThere, calls_of, sizes}

-- an instruction is next
pub found : (s : Kept) → Finds s.code (configuration_of s) → s.pc < length s.code.instrs
unfolding configuration_of
found s finds = slice_get_within s.code.instrs s.pc finds.instr finds.is

pub is_next : (inside s : Kept) (i : Instr) → inside ≡ s → slice_get inside.code.instrs inside.pc ≡ Some i → Finds s.code (configuration_of s) → IsNext s i
unfolding configuration_of
is_next inside s i same at finds = record { is = subst (λ (x : Kept). slice_get x.code.instrs x.pc ≡ Some i) same at; finds = finds }

-- the control sources that waiting calls have saved are as many as stand before the newest one's
length_waiting : (code : Code) (waiting : List Caller) (registers : List (Option Held)) (saved : List (Option ℕ)) (n : ℕ)
    → AreLaid code (map (λ (w : Caller). w.call) waiting) n (length saved) → length (saved_in (waiting_frames (waiting_of waiting registers saved))) ≡ length saved
length_waiting code [] registers saved n laid = sym laid.1
length_waiting code (w ∷ waiting) registers saved n laid =
    let fewer : length (take w.call.saved saved) ≡ w.call.saved = length-take-le w.call.saved saved laid.1 in
    let before = length_waiting code waiting (take w.call.first registers) (take w.call.saved saved) w.call.first
    (subst (λ k. AreLaid code (map (λ (x : Caller). x.call) waiting) w.call.first k) (sym fewer) laid.2) in
    let own : length (reverse (reverse (drop w.call.saved saved))) ≡ length saved - w.call.saved =
    length-reverse (reverse (drop w.call.saved saved)) ∙ length-reverse (drop w.call.saved saved) ∙ length-drop w.call.saved saved in
    length-append (saved_in (waiting_frames (waiting_of waiting (take w.call.first registers) (take w.call.saved saved)))) (reverse (reverse (drop w.call.saved saved)))
    ∙ omega (arith, before, own, fewer, laid.1)

pub saved_before_is : (s : Kept) → IsSound s → s.call.saved ≡ length (saved_in (waiting_frames (configuration_of s).waiting))
unfolding configuration_of
saved_before_is s sound =
    let fewer : length (take s.call.saved s.saved) ≡ s.call.saved = length-take-le s.call.saved s.saved sound.laid.1 in
    sym (length_waiting s.code s.waiting (take s.call.first s.registers) (take s.call.saved s.saved) s.call.first
    (subst (λ k. AreLaid s.code (map (λ (x : Caller). x.call) s.waiting) s.call.first k) (sym fewer) sound.laid.2) ∙ fewer)

pub saved_is : (s : Kept) → IsSound s → length s.saved ≡ length (saved_in (frames_of (configuration_of s)))
unfolding configuration_of
saved_is s sound =
    let before = saved_before_is s sound in
    let own : length (reverse (reverse (drop s.call.saved s.saved))) ≡ length s.saved - s.call.saved =
    length-reverse (reverse (drop s.call.saved s.saved)) ∙ length-reverse (drop s.call.saved s.saved) ∙ length-drop s.call.saved s.saved in
    sym (length-append (saved_in (waiting_frames (configuration_of s).waiting)) (reverse (reverse (drop s.call.saved s.saved)))
    ∙ omega (arith, before, own, sound.laid.1))

-- the registers of waiting calls end where the newest one's begin
widths_waiting : (code : Code) (waiting : List Caller) (registers : List (Option Held)) (saved : List (Option ℕ)) (n m : ℕ)
    → AreLaid code (map (λ (w : Caller). w.call) waiting) n m → widths code (waiting_frames (waiting_of waiting registers saved)) ≡ n
widths_waiting code [] registers saved n m laid = sym laid.0
widths_waiting code (w ∷ waiting) registers saved n m laid =
    let before = widths_waiting code waiting (take w.call.first registers) (take w.call.saved saved) w.call.first w.call.saved laid.2 in
    omega (arith, before, laid.0)

pub first_is : (s : Kept) → IsSound s → s.call.first ≡ first_register s.code (configuration_of s)
unfolding configuration_of
first_is s sound = sym (widths_waiting s.code s.waiting (take s.call.first s.registers) (take s.call.saved s.saved) s.call.first s.call.saved sound.laid.2)

-- a call has at most twice as many registers as its function's size
width_small : (code : Code) → IsValid code → (func : ℕ) → width code func ≤ 2 * size_of (slice_get code.funcs func)
width_small code valid func = go (slice_get code.funcs func) refl
  where
    go : (f : Option CodeFunc) → slice_get code.funcs func ≡ f → registers_of f ≤ 2 * size_of f
    go None at = omega arith
    go (Some f) at = (valid.funcs func f at).registers

laid_small : (code : Code) → IsValid code → (calls : List Call) (n m : ℕ) → AreLaid code calls n m → n ≤ 2 * sizes code calls
laid_small code valid [] n m laid = omega (arith, laid.0)
laid_small code valid (c ∷ calls) n m laid =
    omega (arith, laid.0, width_small code valid c.func, laid_small code valid calls c.first c.saved laid.2)

pub few_registers : (s : Kept) → IsSound s → s.call.first + width s.code s.call.func ≤ 2097152
few_registers s sound =
    omega (arith, laid_small s.code sound.valid (calls_of s) (length s.registers) (length s.saved) sound.laid, sound.laid.0, sound.size, sound.few)

-- the newest call's registers end where those of all live calls do
pub next_is : (s : Kept) → IsSound s → length s.registers ≡ widths s.code (frames_of (configuration_of s))
unfolding configuration_of
next_is s sound = omega (arith, sound.laid.0, first_is s sound)

pub few_next : (s : Kept) → IsSound s → length s.registers ≤ 2097152
few_next s sound = omega (arith, sound.laid.0, few_registers s sound)

-- the register that gets what the newest call returns, by the call that waits for it
pub back_none : (s : Kept) → None ≡ top s.waiting → None ≡ back_register s.code (configuration_of s).waiting
unfolding configuration_of
back_none s is = go s.waiting refl is
  where
    go : (waiting : List Caller) → s.waiting ≡ waiting → None ≡ top waiting → None ≡ back_register s.code (configuration_of s).waiting
    go [] same e = sym (ap (λ (ws : List Caller). back_register s.code (waiting_of ws (take s.call.first s.registers) (take s.call.saved s.saved))) same)
    go (w ∷ rest) same e = absurd (cc e)

module _ (s : Kept) (sound : IsSound s) (w : Caller) (newest : Some w ≡ top s.waiting) where
  rest_is : (rest : List Caller) × (s.waiting ≡ w ∷ rest)
  rest_is = go s.waiting refl newest
    where
      go : (waiting : List Caller) → s.waiting ≡ waiting → Some w ≡ top waiting → (rest : List Caller) × (s.waiting ≡ w ∷ rest)
      go [] same e = absurd (cc e)
      go (v ∷ rest) same e = (rest, same ∙ ap (λ (x : Caller). x ∷ rest) (sym (same_Some w v e)))

  laid_on : AreLaid s.code (w.call ∷ map (λ (x : Caller). x.call) rest_is.0) s.call.first s.call.saved
  laid_on = subst (λ (ws : List Caller). AreLaid s.code (map (λ (x : Caller). x.call) ws) s.call.first s.call.saved) rest_is.1 sound.laid.2

  pub back_is : back_register s.code (configuration_of s).waiting ≡ option_map (λ r. w.call.first + r) w.to
  unfolding configuration_of
  back_is =
      ap (λ (ws : List Caller). back_register s.code (waiting_of ws (take s.call.first s.registers) (take s.call.saved s.saved))) rest_is.1
      ∙ ap (λ n. option_map (λ r. n + r) w.to)
      (widths_waiting s.code rest_is.0 (take w.call.first (take s.call.first s.registers)) (take w.call.saved (take s.call.saved s.saved)) w.call.first w.call.saved laid_on.2)

  back_below : (r : ℕ) → w.to ≡ Some r → w.call.first + r < s.call.first
  back_below r is =
      let there : up_to_register w.to ≤ width s.code w.call.func =
      (subst (λ (ws : List Caller). AreThere s.code ws) rest_is.1 sound.backs).0 in
      let within : r + 1 ≤ width s.code w.call.func = subst (λ (to : Option ℕ). up_to_register to ≤ width s.code w.call.func) is there in
      omega (arith, within, laid_on.0)

  -- it has a number of 32 bits
  pub back_few : (r : ℕ) → w.to ≡ Some r → w.call.first + r < 4294967296
  back_few r is = omega (arith, back_below r is, few_registers s sound)

  -- and is one of the older calls'
  pub back_older : (told : Option ℕ) → told ≡ option_map (λ r. w.call.first + r) w.to → IfSome told (λ r. r < first_register s.code (configuration_of s))
  back_older told is = subst (λ (o : Option ℕ). IfSome o (λ r. r < first_register s.code (configuration_of s))) (sym is) (go w.to refl)
    where
      go : (to : Option ℕ) → w.to ≡ to → IfSome (option_map (λ r. w.call.first + r) to) (λ r. r < first_register s.code (configuration_of s))
      go None same = tt
      go (Some r) same = omega (arith, back_below r same, first_is s sound)

pub few_told : (s : Kept) → IsSound s → s.call.first + width s.code (configuration_of s).frame.func ≤ 2097152
unfolding configuration_of
few_told s sound = few_registers s sound
