-- What the accesses of operations do to memory.
use Rattle.std.proofs.Common.{ℕ, ℤ, ◌≡◌, ◌&&◌, Bool, true, false, List, [], ◌∷◌, Option, Some, None, Result, Ok, Err, refl}
use Rattle.k_ending.specs.declared.ending.Trap.{Trap}
use Rattle.k_mem.specs.declared.fault.MemTrap.{MemTrap}
use Rattle.k_mem.specs.declared.pointer.Pointer.{Pointer}
use Rattle.k_mem.specs.Calls.{load_of, store_of}
use Rattle.k_world.specs.declared.act.Act.{Act}
use Rattle.k_world.specs.declared.act.Act.TheVariants as act
use Rattle.k_world.specs.declared.value.Held.{Held}
use Rattle.k_world.specs.declared.value.Read.{Read}
use Rattle.k_world.specs.declared.value.Value.{Value}
use Rattle.k_world.specs.declared.value.Value.TheVariants as held
use Rattle.k_world.specs.Acts.{effect, in_one, output_effect, pointer_of, then_given, trap_of_memory, work, written}
use Rattle.k_world.specs.Operands.{are_set, is_set, value_before, value_in, values_of}
use Rattle.k_world.specs.Worlds.{World}
use Rattle.k_carry_storage_pairs.specs.Accesses.{accessed, accessed_by, element_in, way_of}
use Rattle.k_carry_storage_pairs.specs.Laws.{AccessesAreMade, DoesAccess, DoesTo}

-- an element was found, or the load trapped
loaded : (v : Value) (w : World) (p : Pointer) (found : Result (ℤ × ℕ) MemTrap) → load_of w.memory p ≡ found
    → then_given trap_of_memory (λ (f : ℤ × ℕ). held.Number f.0) found ≡ Ok v → DoesTo false p v w.memory w.memory
loaded v w p (Ok f) is gave = (refl, (f, is, cc gave))
loaded v w p (Err t) is gave = absurd (cc gave)

-- a load, by the value of its first operand
load_made : (x : Value) (values : List Value) (v : Value) (w : World) → work act.Load (x ∷ values) w ≡ Ok v → DoesAccess (accessed false (pointer_of x)) v w.memory w.memory
unfolding work
load_made (held.Number a) values v w gave = refl
load_made (held.Pointer p) [] v w gave = loaded v w p (load_of w.memory p) refl gave
load_made (held.Pointer p) (y ∷ values) v w gave = absurd (cc gave)

-- an element was there, or the store trapped
set_to : (v : Value) (n : ℤ) (found : Result ℕ MemTrap) → then_given trap_of_memory (λ (element : ℕ). held.Number n) found ≡ Ok v → v ≡ held.Number n
set_to v n (Ok element) gave = cc gave
set_to v n (Err t) gave = absurd (cc gave)

-- a store, by the value of its first operand
store_made : (x : Value) (values : List Value) (v : Value) (number : ℕ) (w : World) → work act.Store (x ∷ values) w ≡ Ok v
    → DoesAccess (accessed true (pointer_of x)) v w.memory (effect act.Store number (x ∷ values) w).memory
unfolding work effect
store_made (held.Number a) [] v number w gave = refl
store_made (held.Number a) (y ∷ []) v number w gave = refl
store_made (held.Number a) (y ∷ z ∷ values) v number w gave = refl
store_made (held.Pointer p) [] v number w gave = absurd (cc gave)
store_made (held.Pointer p) (held.Number n ∷ []) v number w gave = (n, (set_to v n (store_of w.memory p) gave, refl))
store_made (held.Pointer p) (held.Pointer q ∷ []) v number w gave = absurd (cc gave)
store_made (held.Pointer p) (y ∷ z ∷ values) v number w gave = absurd (cc gave)

-- the same by what the first operand holds
load_held : (slot : Option Held) (values : List Value) (v : Value) (w : World) → work act.Load (value_before slot values) w ≡ Ok v
    → DoesAccess (accessed false (in_one pointer_of (value_in slot))) v w.memory w.memory
load_held None values v w gave = refl
load_held (Some x) values v w gave = load_made x.value values v w gave

store_held : (slot : Option Held) (rest : Bool) (values : List Value) (v : Value) (number : ℕ) (w : World) → (is_set slot && rest) ≡ true
    → work act.Store (value_before slot values) w ≡ Ok v
    → DoesAccess (accessed true (in_one pointer_of (value_in slot))) v w.memory (effect act.Store number (value_before slot values) w).memory
store_held None rest values v number w set gave = absurd (cc set)
store_held (Some x) rest values v number w set gave = store_made x.value values v number w gave

-- output changes no memory
output_stays : (number : ℕ) (bytes : Result (List ℕ) Trap) (w : World) → (output_effect number bytes w).memory ≡ w.memory
output_stays number (Ok bytes) w = refl
output_stays number (Err t) w = refl

-- by the act
act_made : (what : Act) (reads : List Read) (v : Value) (number : ℕ) (w : World) → are_set reads ≡ true → work what (values_of reads) w ≡ Ok v
    → DoesAccess (accessed_by (way_of what) (element_in reads)) v w.memory (effect what number (values_of reads) w).memory
unfolding way_of effect
act_made (act.Binary op kind) reads v number w set gave = refl
act_made (act.Unary op kind) reads v number w set gave = refl
act_made (act.Convert kind) reads v number w set gave = refl
act_made act.Move reads v number w set gave = refl
act_made (act.Offset minus scale) reads v number w set gave = refl
act_made (act.PtrCompare op) reads v number w set gave = refl
act_made (act.PtrDistance scale) reads v number w set gave = refl
act_made act.Load [] v number w set gave = refl
act_made act.Load (r ∷ reads) v number w set gave = load_held r.slot (values_of reads) v w gave
act_made act.Store [] v number w set gave = refl
act_made act.Store (r ∷ reads) v number w set gave = store_held r.slot (are_set reads) (values_of reads) v number w set gave
act_made act.Input reads v number w set gave = refl
act_made (act.Output what) reads v number w set gave = output_stays number (written what (values_of reads)) w
act_made act.Test reads v number w set gave = refl
act_made act.Call reads v number w set gave = refl

pub accesses_are_made : AccessesAreMade
accesses_are_made d number w set gave = act_made d.what d.reads d.value number w set gave
