-- Bounds on registers and elements.
use Rattle.std.proofs.Common.{◌≡◌, ℕ, ◌+◌, ◌*◌, ◌<◌, ◌≤◌, ℤ, List, [], ◌∷◌, Option, Some, None, Result, Ok, Err, refl, subst, arith}
use Rattle.std.specs.Prelude.{slice_get}
use Rattle.std.proofs.lemmas.Option.{none-some, same_Some}
use Rattle.k_mem.specs.declared.fault.MemTrap.{MemTrap}
use Rattle.k_mem.specs.declared.pointer.Pointer.{Pointer}
use Rattle.k_mem.specs.Memory.{Memory, IsLaidOut, live_elements}
use Rattle.k_mem.specs.Calls.{load_of, store_of, with_value, stored}
use Rattle.k_mem.proofs.LaidOut.{laid_rewritten}
use Rattle.k_mem.proofs.Numbers.{length_with_value}
use Rattle.k_world.specs.declared.act.Act.TheVariants as act
use Rattle.k_world.specs.Acts.{touched, element_found, element_or_none, element_read, element_written, one_pointer, pointer_and_number}
use Rattle.k_world.proofs.Elements.{loaded_within, stored_within}
use Rattle.k_code.specs.declared.code.Code.{Code}
use Rattle.k_code.specs.declared.code.CodeFunc.{CodeFunc}
use Rattle.k_code.specs.Steps.{Waiting, size_of}
use Rattle.k_code.specs.Valid.{IsValid}
use Rattle.k_code.proofs.Ending.{run_sound}
use Rattle.k_code.proofs.Running.{Sound, total_size}
use Rattle.k_hcpa_meaning.specs.Locations.{waiting_frames, width, widths, registers_of}
use Rattle.k_hcpa_traced.specs.Laws.{RegistersAreFew, TouchedElementsAreLive, ElementsAreFew}
use Rattle.k_hcpa_traced.proofs.Running.{configurations_are_traced}

-- a call has at most two registers for each node of its function
width_bounded : (code : Code) → IsValid code → (func : ℕ) (o : Option CodeFunc) → slice_get code.funcs func ≡ o → registers_of o ≤ 2 * size_of o
width_bounded code valid func None is = omega arith
width_bounded code valid func (Some f) is = (valid.funcs func f is).registers

widths_bounded : (code : Code) → IsValid code → (waiting : List Waiting) → widths code (waiting_frames waiting) ≤ 2 * total_size code waiting
widths_bounded code valid [] = omega arith
widths_bounded code valid (w ∷ waiting) =
    let one : width code w.frame.func ≤ 2 * size_of (slice_get code.funcs w.frame.func) = width_bounded code valid w.frame.func (slice_get code.funcs w.frame.func) refl in
    let rest = widths_bounded code valid waiting in
    omega (arith, one, rest)

pub registers_are_few : RegistersAreFew
registers_are_few code valid input budget n c is =
    let s : Sound code valid c = run_sound code valid input budget n c is in
    let one : width code c.frame.func ≤ 2 * size_of (slice_get code.funcs c.frame.func) = width_bounded code valid c.frame.func (slice_get code.funcs c.frame.func) refl in
    let rest = widths_bounded code valid c.waiting in
    let total : c.world.size ≡ size_of (slice_get code.funcs c.frame.func) + total_size code c.waiting = s.size in
    let fits : c.world.size ≤ 1048576 = s.fits in
    omega (arith, one, rest, total, fits)

read_live : (m : Memory) (p : Pointer) (element : ℕ) → IsLaidOut m → (r : Result (ℤ × ℕ) MemTrap) → load_of m p ≡ r → element_found r ≡ Some element
    → element < live_elements m
read_live m p element laid (Ok found) at is =
    subst (λ n. n < live_elements m) (same_Some found.1 element is) (loaded_within m p found.0 found.1 laid at)
read_live m p element laid (Err t) at is = absurd (none-some element is)

written_live : (m : Memory) (p : Pointer) (v : ℤ) (element : ℕ) → IsLaidOut m → (r : Result ℕ MemTrap) → store_of m p ≡ r → element_or_none r ≡ Some element
    → element < live_elements m
written_live m p v element laid (Ok n) at is =
    subst (λ k. k < live_elements m) (same_Some n element is)
    (stored_within m (stored m p v) p v n (laid_rewritten (with_value p.offset v) p.object (length_with_value p.offset v) m laid) refl at).0
written_live m p v element laid (Err t) at is = absurd (none-some element is)

load_live : (m : Memory) (p : Option Pointer) (element : ℕ) → IsLaidOut m → element_read m p ≡ Some element → element < live_elements m
load_live m None element laid is = absurd (none-some element is)
load_live m (Some p) element laid is = read_live m p element laid (load_of m p) refl is

store_live : (m : Memory) (s : Option (Pointer × ℤ)) (element : ℕ) → IsLaidOut m → element_written m s ≡ Some element → element < live_elements m
store_live m None element laid is = absurd (none-some element is)
store_live m (Some s) element laid is = written_live m s.0 s.1 element laid (store_of m s.0) refl is

pub touched_elements_are_live : TouchedElementsAreLive
unfolding touched
touched_elements_are_live act.Load values m element laid is = load_live m (one_pointer values) element laid is
touched_elements_are_live act.Store values m element laid is = store_live m (pointer_and_number values) element laid is
touched_elements_are_live what values m element laid is = absurd (none-some element is)

pub elements_are_few : ElementsAreFew
elements_are_few code valid input budget n c what values element is touches =
    let laid : IsLaidOut c.world.memory = (configurations_are_traced code valid input budget n c is).laid in
    let low = touched_elements_are_live what values c.world.memory element laid touches in
    let few : live_elements c.world.memory ≤ 4194304 = laid.few_elements in
    omega (arith, low, few)
