-- What calls hold came from operations that were made.
use Rattle.std.proofs.Common.{ℕ, zero, suc, ◌+◌, ◌≤◌, List, [], ◌∷◌, ◌++◌, map, take, drop, replicate, reverse, Option, Some, None, Result, Ok, Err, Bool, true, false, nat_eq, sym, subst, arith}
use Rattle.std.specs.Prelude.{if◌then◌else◌, slice_get, nat_lt}
use Rattle.std.proofs.lemmas.List.{reverse-append}
use Rattle.k_mem.specs.declared.fault.MemTrap.{MemTrap}
use Rattle.k_world.specs.declared.value.Held.{Held}
use Rattle.k_world.specs.declared.value.Read.{Read}
use Rattle.k_world.specs.Changes.{without_origins}
use Rattle.k_world.specs.Operands.{source_in, held_by}
use Rattle.k_world.specs.WorldLaws.{IsMade, AreMade, AllComeFrom}
use Rattle.k_code.specs.declared.instruction.Arg.{Arg}
use Rattle.k_code.specs.declared.instruction.Arg.TheVariants.{Number, Reg}
use Rattle.k_code.specs.Steps.{Frame, read_of, with_slot, with_register, parameters, newest, older}

-- what came from the first operations came from the first of more
pub made_later : (a b : ℕ) (source : Option ℕ) → a ≤ b → IsMade a source → IsMade b source
made_later a b None low h = tt
made_later a b (Some number) low h = omega arith

pub all_later : (a b : ℕ) (sources : List (Option ℕ)) → a ≤ b → AreMade a sources → AreMade b sources
all_later a b [] low h = tt
all_later a b (source ∷ sources) low h = (made_later a b source low h.0, all_later a b sources low h.1)

-- lists of sources
pub both_made : (made : ℕ) (xs ys : List (Option ℕ)) → AreMade made xs → AreMade made ys → AreMade made (xs ++ ys)
both_made made [] ys h k = k
both_made made (x ∷ xs) ys h k = (h.0, both_made made xs ys h.1 k)

pub none_made : (made n : ℕ) → AreMade made (replicate n None)
none_made made zero = tt
none_made made (suc n) = (tt, none_made made n)

pub take_made : (made n : ℕ) (xs : List (Option ℕ)) → AreMade made xs → AreMade made (take n xs)
take_made made zero xs h = tt
take_made made (suc n) [] h = tt
take_made made (suc n) (x ∷ xs) h = (h.0, take_made made n xs h.1)

drop_made : (made n : ℕ) (xs : List (Option ℕ)) → AreMade made xs → AreMade made (drop n xs)
drop_made made zero xs h = h
drop_made made (suc n) [] h = tt
drop_made made (suc n) (x ∷ xs) h = drop_made made n xs h.1

pub reverse_made : (made : ℕ) (xs : List (Option ℕ)) → AreMade made xs → AreMade made (reverse xs)
reverse_made made [] h = tt
reverse_made made (x ∷ xs) h =
    subst (AreMade made) (sym (reverse-append (x ∷ []) xs)) (both_made made (reverse xs) (x ∷ []) (reverse_made made xs h.1) (h.0, tt))

pub without_made : (made : ℕ) (first count : Result ℕ MemTrap) (origins : List (Option ℕ)) → AreMade made origins → AreMade made (without_origins first count origins)
without_made made (Ok first) (Ok count) origins h =
    both_made made (take first origins ++ replicate count None) (drop (first + count) origins)
    (both_made made (take first origins) (replicate count None) (take_made made first origins h) (none_made made count))
    (drop_made made (first + count) origins h)
without_made made (Ok first) (Err t) origins h = h
without_made made (Err t) count origins h = h

pub newest_made : (made : ℕ) (saved : List (Option ℕ)) → AreMade made saved → IsMade made (newest saved)
newest_made made [] h = tt
newest_made made (x ∷ saved) h = h.0

pub older_made : (made : ℕ) (saved : List (Option ℕ)) → AreMade made saved → AreMade made (older saved)
older_made made [] h = tt
older_made made (x ∷ saved) h = h.1

-- what the registers and the saved control sources of a call hold came from the first operations
abbrev pub Comes : ℕ → (ℕ → Option Held) → List (Option ℕ) → Type 0
Comes made registers saved = ((k : ℕ) → IsMade made (source_in (registers k))) × AreMade made saved

-- so does what these calls hold
abbrev pub AllCome : ℕ → List Frame → Type 0
AllCome made [] = Unit {0}
AllCome made (f ∷ frames) = Comes made f.registers f.saved × AllCome made frames

pub comes_later : (a b : ℕ) (frames : List Frame) → a ≤ b → AllCome a frames → AllCome b frames
comes_later a b [] low h = tt
comes_later a b (f ∷ frames) low h =
    ((λ k. made_later a b (source_in (f.registers k)) low (h.0.0 k), all_later a b f.saved low h.0.1), comes_later a b frames low h.1)

slot_comes : (made r : ℕ) (slot : Option Held) (registers : ℕ → Option Held) (k : ℕ) → IsMade made (source_in slot) → IsMade made (source_in (registers k))
    → IsMade made (source_in (with_slot r slot registers k))
slot_comes made r slot registers k one h = by (nat_eq k r)
  where
    by : (b : Bool) → IsMade made (source_in (if b then slot else registers k))
    by true = one
    by false = h

-- a register that is set
pub set_comes : (made : ℕ) (to : Option ℕ) (slot : Option Held) (f : Frame) → IsMade made (source_in slot) → Comes made f.registers f.saved
    → Comes made (with_register to slot f).registers (with_register to slot f).saved
set_comes made None slot f one h = h
set_comes made (Some r) slot f one h = (λ k. slot_comes made r slot f.registers k one (h.0 k), h.1)

-- what operands read
pub reads_come : (made : ℕ) (registers : ℕ → Option Held) (args : List Arg) → ((k : ℕ) → IsMade made (source_in (registers k)))
    → AllComeFrom made (map (read_of registers) args)
reads_come made registers [] h = tt
reads_come made registers (Number n ∷ args) h = (tt, reads_come made registers args h)
reads_come made registers (Reg r broken ∷ args) h = (h r, reads_come made registers args h)

slots_come : (made : ℕ) (reads : List Read) (k : ℕ) → AllComeFrom made reads → IsMade made (source_in (held_by (slice_get (map (λ (r : Read). r.slot) reads) k)))
slots_come made [] k h = tt
slots_come made (r ∷ reads) zero h = h.0
slots_come made (r ∷ reads) (suc k) h = slots_come made reads k h.1

-- what parameters hold
pub parameters_come : (made count : ℕ) (reads : List Read) (k : ℕ) → AllComeFrom made reads
    → IsMade made (source_in (parameters count (map (λ (r : Read). r.slot) reads) k))
parameters_come made count reads k h = by (nat_lt k count)
  where
    by : (b : Bool) → IsMade made (source_in (if b then held_by (slice_get (map (λ (r : Read). r.slot) reads) k) else None))
    by true = slots_come made reads k h
    by false = tt
