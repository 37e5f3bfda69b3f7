-- For contracts between crates: nobody has to believe it.
-- What each part of the check of validity decides, in the words of `Valid` and `Balances`.
use Rattle.std.specs.Prelude.{ℕ, ◌≡◌, ◌+◌, ◌*◌, ◌<◌, ◌≤◌, nat_eq, ◌||◌, ◌↔◌, ◌⊎◌, Bool, true, false, List, [], ◌∷◌, length, take, slice_get, Option, Some, None}
use Rattle.k_code.specs.declared.code.Code.{Code}
use Rattle.k_code.specs.declared.code.CodeFunc.{CodeFunc}
use Rattle.k_code.specs.declared.balance.Balance.{Balance}
use Rattle.k_code.specs.declared.validity.extents.Extent.{Extent}
use Rattle.k_code.specs.declared.instruction.Do.{Do}
use Rattle.k_code.specs.declared.instruction.Instr.{Instr}
use Rattle.k_code.specs.Balances.{IsBalance, IsBelow, left_open, goes_on}
use Rattle.k_code.specs.Named.{registers_needed}
use Rattle.k_code.specs.Valid.{end_of, body_of, is_in_range, stays_within}

-- some function begins with the instruction of that number
abbrev pub is_entry : List CodeFunc → ℕ → Bool
is_entry [] k = false
is_entry (f ∷ funcs) k = nat_eq f.entry k || is_entry funcs k

-- marks of the entries of functions are set, beside those that were
abbrev pub Marks : List CodeFunc → List Bool → List Bool → Type 0
Marks funcs old new = (length new ≡ length old) × ((k : ℕ) (b : Bool) → slice_get old k ≡ Some b → slice_get new k ≡ Some (is_entry funcs k || b))

-- of each instruction of a program there is a mark, which says whether a function begins with it
abbrev pub AreMarks : Code → List Bool → Type 0
AreMarks code marks = (length marks ≡ length code.instrs) × ((k : ℕ) → k < length code.instrs → slice_get marks k ≡ Some (is_entry code.funcs k))

-- the next mark behind the first is there, or none is left
pub record IsNext (marks : List Bool) (first next : ℕ) : Type 0 where
  pub later : first < next
  pub within : next ≤ length marks
  pub unmarked : (k : ℕ) → first < k → k < next → slice_get marks k ≡ Some false
  pub marked : next < length marks → slice_get marks next ≡ Some true

-- so many registers serve for each of these instructions
abbrev pub Serve : List Instr → ℕ → Type 0
Serve instrs n = (k : ℕ) (i : Instr) → slice_get instrs k ≡ Some i → registers_needed i.act ≤ n

-- so many serve, and no fewer
abbrev pub AreNeeded : List Instr → ℕ → Type 0
AreNeeded instrs most = (n : ℕ) → (most ≤ n) ↔ Serve instrs n

-- where the instructions of the functions with this entry end, and how many registers they need
pub record IsExtent (code : Code) (entry : ℕ) (e : Extent) : Type 0 where
  pub end : e.end ≡ end_of code.funcs (length code.instrs) entry
  pub registers : AreNeeded (body_of code entry) e.registers

-- of an instruction: the extent of the functions that begin with it, none where none does
abbrev pub IsExtentOf : Code → ℕ → Option Extent → Type 0
IsExtentOf code entry None = is_entry code.funcs entry ≡ false
IsExtentOf code entry (Some e) = (is_entry code.funcs entry ≡ true) × IsExtent code entry e

-- the same of each of the first `count` instructions
abbrev pub AreExtentsOf : Code → ℕ → List (Option Extent) → Type 0
AreExtentsOf code count extents = (length extents ≡ count) × ((k : ℕ) (o : Option Extent) → slice_get extents k ≡ Some o → IsExtentOf code k o)

-- of all instructions
abbrev pub AreExtents : Code → List (Option Extent) → Type 0
AreExtents code extents = AreExtentsOf code (length code.instrs) extents

-- the numbers of a function are in their ranges
pub record HasNumbers (code : Code) (f : CodeFunc) : Type 0 where
  pub entry : f.entry < length code.instrs
  pub region : f.region < length code.regions
  pub least_size : 1 ≤ f.size
  pub greatest_size : f.size ≤ 1048576
  pub registers : f.registers ≤ 2 * f.size
  pub params : f.params ≤ f.registers

-- those of all of these
abbrev pub HaveNumbers : Code → List CodeFunc → Type 0
HaveNumbers code funcs = (n : ℕ) (f : CodeFunc) → slice_get funcs n ≡ Some f → HasNumbers code f

-- a function has few enough instructions, and registers enough for them
pub record HasRoom (code : Code) (f : CodeFunc) : Type 0 where
  pub short : length (body_of code f.entry) ≤ 512 * f.size
  pub needs : Serve (body_of code f.entry) f.registers

-- so do all of these
abbrev pub HaveRoom : Code → List CodeFunc → Type 0
HaveRoom code funcs = (n : ℕ) (f : CodeFunc) → slice_get funcs n ≡ Some f → HasRoom code f

-- the instructions of a function with this entry are in their ranges, but for their registers and what they find open
abbrev pub AreInRange : Code → ℕ → List Instr → Type 0
AreInRange code entry instrs = (k : ℕ) (i : Instr) → slice_get instrs k ≡ Some i → is_in_range code entry (length instrs) k i ≡ true

-- each jump among them is to one of them
abbrev pub JumpsAreWithin : ℕ → List Instr → Type 0
JumpsAreWithin entry instrs = (k : ℕ) (i : Instr) → slice_get instrs k ≡ Some i → stays_within entry (length instrs) k i.act ≡ true

-- they are balanced
abbrev pub HasBalance : ℕ → List Instr → Type 0
HasBalance entry instrs = (before : ℕ → Balance) × IsBalance entry instrs before

-- the functions with this entry are in their ranges and balanced
abbrev pub BodyFits : Code → ℕ → Type 0
BodyFits code entry = AreInRange code entry (body_of code entry) × HasBalance entry (body_of code entry)

-- the same, if one begins there
abbrev pub EntryFits : Code → ℕ → Type 0
EntryFits code entry = is_entry code.funcs entry ≡ true → BodyFits code entry

-- the same of each of the first `count` instructions
abbrev pub EntriesFit : Code → ℕ → Type 0
EntriesFit code count = (k : ℕ) → k < count → EntryFits code k

-- a balance is known before an instruction, by its order
abbrev pub IsKnown : List (Option Balance) → ℕ → Balance → Type 0
IsKnown list k b = slice_get list k ≡ Some (Some b)

-- none is
abbrev pub IsOpen : List (Option Balance) → ℕ → Type 0
IsOpen list k = slice_get list k ≡ Some None

-- this balance is known at these places from now on, and else nothing has changed
pub record Adds (at : ℕ → Type 0) (b : Balance) (old new : List (Option Balance)) : Type 0 where
  pub long : length new ≡ length old
  pub here : (k : ℕ) → at k → IsKnown new k b
  pub kept : (k : ℕ) (c : Balance) → IsKnown old k c → IsKnown new k c
  pub only : (k : ℕ) (c : Balance) → IsKnown new k c → IsKnown old k c ⊎ (at k × (c ≡ b))

-- another balance is known at one of these places
pub record Differs (at : ℕ → Type 0) (b : Balance) (list : List (Option Balance)) : Type 0 where
  pub place : ℕ
  pub other : Balance
  pub there : at place
  pub known : IsKnown list place other
  pub differs : other ≡ b → ⊥

-- a balance agrees with what is known at these places, or it doesn't
abbrev pub Agrees : Bool → (ℕ → Type 0) → Balance → List (Option Balance) → List (Option Balance) → Type 0
Agrees true at b old new = Adds at b old new
Agrees false at b old new = Differs at b old

-- the balance behind an instruction agrees: what that leaves, or if it doesn't go on, what is known, or else the same
abbrev pub Follows : Bool → ℕ → Do → Balance → List (Option Balance) → List (Option Balance) → Type 0
Follows answer k act b old new =
    (goes_on act ≡ true → Agrees answer (λ t. t ≡ k + 1) (left_open act b) old new)
    × (goes_on act ≡ false → (answer ≡ true) × Adds (λ t. (t ≡ k + 1) × IsOpen old t) b old new)

-- BEHIND THE FIRST k INSTRUCTIONS OF A FUNCTION: a function is a balance of these exactly if it has all that is known. What is before the next instruction
-- is known
pub record Knows (entry : ℕ) (instrs : List Instr) (k : ℕ) (list : List (Option Balance)) : Type 0 where
  pub long : length list ≡ length instrs + 1
  pub here : (b : Balance) × IsKnown list k b
  pub below : (t : ℕ) (b : Balance) → IsKnown list t b → IsBelow (k + 1) b
  pub same : (before : ℕ → Balance) → IsBalance entry (take k instrs) before ↔ ((t : ℕ) (b : Balance) → IsKnown list t b → before t ≡ b)

-- one instruction more, or there is no balance
abbrev pub Settles : Bool → ℕ → List Instr → ℕ → List (Option Balance) → Type 0
Settles true entry instrs k new = Knows entry instrs (k + 1) new
Settles false entry instrs k new = HasBalance entry instrs → ⊥
