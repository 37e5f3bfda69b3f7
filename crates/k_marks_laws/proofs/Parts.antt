-- What the parts that a run is made of leave of a variable.
use Rattle.std.proofs.Common.{◌≡◌, ℕ, zero, suc, List, [], ◌∷◌, map, Option, Some, None, Bool, true, false, nat_eq, refl, ◌∙◌, ap, subst, slice_get, slice_set}
use Rattle.std.proofs.lemmas.Bool.{eqb-false}
use Rattle.k_num.specs.declared.initial.Initial.{Initial}
use Rattle.k_num.specs.declared.place.Place.{Place}
use Rattle.k_optab.specs.declared.class.Class.{Class}
use Rattle.k_optab.specs.Latencies.{latency}
use Rattle.k_ending.specs.declared.ending.Trap.{Trap}
use Rattle.k_mem.specs.declared.start.Start.{Start}
use Rattle.k_world.specs.declared.act.Act.{Act}
use Rattle.k_world.specs.declared.value.Held.{Held}
use Rattle.k_world.specs.Operations.{Made, Gives, Ends, operation}
use Rattle.k_world.specs.Worlds.{World}
use Rattle.k_world.specs.Changes.{object_made}
use Rattle.k_evaluation.specs.declared.operand.Operand.{Operand}
use Rattle.k_evaluation.specs.declared.operand.Operand.TheVariants.{Holding}
use Rattle.k_evaluation.specs.States.{Program, State, Outcome, Goes, Stops, Part, follow, ◌>>=◌, gives, traps, held_by, held_in, read, made, makes, computes, sets, enters, exits, region, control, settles, settled}
use Rattle.k_evaluation.specs.Objects.{made_object, makes_object, fills, live, keeps, block}
use Rattle.k_marks_laws.specs.Frames.{Leaves}

-- where a part goes on, the variable holds what it held, and what is given is like this
abbrev pub Kept : {A : Type 0} → ℕ → (A → Type 0) → State → Outcome A → Type 0
Kept n P s (Goes a t) = (held_in t n ≡ held_in s n) × P a
Kept n P s (Stops end w) = Unit {0}

-- A PART KEEPS A VARIABLE, and gives what is like this
abbrev pub Keeps : {A : Type 0} → ℕ → (A → Type 0) → Part A → Type 0
Keeps n P part = (s : State) → Kept n P s (part s)

-- whatever is given
abbrev pub Any : {A : Type 0} → A → Type 0
Any a = Unit {0}

-- what is kept is left
leaves_outcome : {A : Type 0} (n : ℕ) (s t : State) (a : A) (o : Outcome A) → Kept n Any s o → o ≡ Goes a t → held_in t n ≡ held_in s n
leaves_outcome {A = A} n s t a o kept is = (subst (Kept {A = A} n Any s) is kept).0

pub leaves_of : {A : Type 0} (n : ℕ) (part : Part A) → Keeps n Any part → Leaves n part
leaves_of n part kept s t a is = leaves_outcome n s t a (part s) (kept s) is

kept_from : {B : Type 0} (n : ℕ) (Q : B → Type 0) (s t : State) (o : Outcome B) → held_in t n ≡ held_in s n → Kept n Q t o → Kept n Q s o
kept_from n Q s t (Goes b u) same h = (h.0 ∙ same, h.1)
kept_from n Q s t (Stops end w) same h = tt

pub kept_follow : {A B : Type 0} (n : ℕ) (P : A → Type 0) (Q : B → Type 0) (s : State) (o : Outcome A) (next : A → Part B)
    → Kept n P s o → ((a : A) → P a → Keeps n Q (next a)) → Kept n Q s (follow o next)
kept_follow n P Q s (Goes a t) next h k = kept_from n Q s t (next a t) h.0 (k a h.1 t)
kept_follow n P Q s (Stops end w) next h k = tt

-- ONE PART BEHIND ANOTHER
pub binds : {A B : Type 0} (n : ℕ) (P : A → Type 0) (Q : B → Type 0) (part : Part A) (next : A → Part B)
    → Keeps n P part → ((a : A) → P a → Keeps n Q (next a)) → Keeps n Q (part >>= next)
binds n P Q part next first second s = kept_follow n P Q s (part s) next (first s) second

-- the same, whatever is given
pub thus : {A B : Type 0} (n : ℕ) (part : Part A) (next : A → Part B) → Keeps n Any part → ((a : A) → Keeps n Any (next a)) → Keeps n Any (part >>= next)
thus n part next first second = binds n Any Any part next first (λ a p. second a)

pub gives_kept : {A : Type 0} (n : ℕ) (a : A) → Keeps n Any (gives a)
gives_kept n a s = (refl, tt)

pub traps_kept : (A : Type 0) (n : ℕ) (trap : Trap) (place : Place) → Keeps {A = A} n Any (traps trap place)
traps_kept A n trap place s = tt

-- AN OPERATION
made_kept : (n : ℕ) (s : State) (m : Made) → Kept n Any s (made s m)
made_kept n s (Gives held w) = (refl, tt)
made_kept n s (Ends end w) = tt

module _ (n : ℕ) (program : Program) (class : Class) (place : Place) (act : Act) (operands : List Operand) where
  pub makes_kept : Keeps n Any (makes program class place act operands)
  makes_kept s = made_kept n s (operation class (latency program.latencies class) place act (map (read s) operands) s.world)

  pub computes_kept : Keeps n Any (computes program class place act operands)
  computes_kept = thus n (makes program class place act operands) (λ held. gives (Holding held)) makes_kept (λ held. gives_kept n (Holding held))

-- A VARIABLE IS SET
pub slot_other : (slots : List (Option Held)) (m n : ℕ) (slot : Option Held) → (m ≡ n → ⊥) → held_by (slice_get (slice_set slots m slot) n) ≡ held_by (slice_get slots n)
slot_other [] m n slot differ = refl
slot_other (x ∷ slots) zero zero slot differ = absurd (differ refl)
slot_other (x ∷ slots) zero (suc n) slot differ = refl
slot_other (x ∷ slots) (suc m) zero slot differ = refl
slot_other (x ∷ slots) (suc m) (suc n) slot differ = slot_other slots m n slot (λ e. differ (ap suc e))

pub sets_kept : (n m : ℕ) (slot : Option Held) → nat_eq m n ≡ false → Keeps n Any (sets m slot)
sets_kept n m slot differ s = (slot_other s.vars m n slot (eqb-false m n differ), tt)

-- EVENTS AND THE CONTROL SOURCE
pub settles_kept : (n : ℕ) (stays : Bool) (c : Option ℕ) → Keeps n Any (settles stays c)
settles_kept n true c s = (refl, tt)
settles_kept n false c s = (refl, tt)

pub region_kept : {A : Type 0} (n number : ℕ) (part : Part A) → Keeps n Any part → Keeps n Any (region number part)
region_kept {A = A} n number part kept =
    thus {B = A} n (enters number) (λ entered. part >>= λ a. exits >>= λ left. gives a) (λ s. (refl, tt))
    (λ entered. thus {B = A} n part (λ a. exits >>= λ left. gives a) kept
    (λ a. thus {B = A} n exits (λ left. gives a) (λ s. (refl, tt)) (λ left. gives_kept n a)))

pub settled_kept : {A : Type 0} (n : ℕ) (stays : Bool) (part : Part A) → Keeps n Any part → Keeps n Any (settled stays part)
settled_kept {A = A} n stays part kept =
    thus {B = A} n control (λ c. part >>= λ a. settles stays c >>= λ done. gives a) (λ s. (refl, tt))
    (λ c. thus {B = A} n part (λ a. settles stays c >>= λ done. gives a) kept
    (λ a. thus {B = A} n (settles stays c) (λ done. gives a) (settles_kept n stays c) (λ done. gives_kept n a)))

-- OBJECTS
made_object_kept : (n : ℕ) (place : Place) (s : State) (w : Option World) → Kept n Any s (made_object place s w)
made_object_kept n place s None = tt
made_object_kept n place s (Some w) = (refl, tt)

pub makes_object_kept : (n : ℕ) (place : Place) (start : Start) (count : ℕ) → Keeps n Any (makes_object place start count)
makes_object_kept n place start count s = made_object_kept n place s (object_made s.world start count)

pub fills_kept : (n : ℕ) (home : Held) (items : List Initial) → Keeps n Any (fills home items)
fills_kept n home items s = (refl, tt)

pub block_kept : {A : Type 0} (n : ℕ) (part : Part A) → Keeps n Any part → Keeps n Any (block part)
block_kept {A = A} n part kept =
    thus {B = A} n live (λ count. part >>= λ a. keeps count >>= λ done. gives a) (λ s. (refl, tt))
    (λ count. thus {B = A} n part (λ a. keeps count >>= λ done. gives a) kept
    (λ a. thus {B = A} n (keeps count) (λ done. gives a) (λ s. (refl, tt)) (λ done. gives_kept n a)))
