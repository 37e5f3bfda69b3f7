-- What the parts of a run leave, where they go on: a tidy world, and the control source as it was, where that is asked.
use Rattle.std.proofs.Common.{◌≡◌, ◌≢◌, ℕ, List, ◌++◌, map, replicate, Option, Some, None, Bool, true, false, not, refl, sym, ◌∙◌, ap}
use Rattle.k_num.specs.declared.initial.Initial.{Initial}
use Rattle.k_num.specs.declared.place.Place.{Place}
use Rattle.k_optab.specs.declared.class.Class.{Class}
use Rattle.k_optab.specs.Latencies.{latency}
use Rattle.k_ending.specs.declared.ending.Trap.{Trap}
use Rattle.k_mem.specs.declared.start.Start.TheVariants.{Unset}
use Rattle.k_world.specs.declared.act.Act.{Act}
use Rattle.k_world.specs.declared.act.Act.TheVariants as act
use Rattle.k_world.specs.declared.value.Held.{Held}
use Rattle.k_world.specs.declared.value.Value.{Value}
use Rattle.k_world.specs.declared.value.Value.TheVariants as value
use Rattle.k_mem.specs.Memory.{Memory}
use Rattle.k_mem.specs.Calls.{push_of}
use Rattle.k_world.specs.Changes.{object_made, with_elements}
use Rattle.k_world.specs.Operations.{Made, Gives, Ends, operation}
use Rattle.k_world.specs.Worlds.{World}
use Rattle.k_world.specs.WorldLaws.{WhereMade}
use Rattle.k_world.proofs.Sound.{control_stays}
use Rattle.k_evaluation.specs.declared.operand.Operand.{Operand}
use Rattle.k_evaluation.specs.declared.operand.Operand.TheVariants.{Holding}
use Rattle.k_evaluation.specs.States.{Program, State, Outcome, Goes, Stops, Part, follow, ◌>>=◌, gives, traps, read, made, makes, computes, sets, region, enters, exits, control, controls, settles, settled}
use Rattle.k_evaluation.specs.Objects.{made_object, makes_object, with_items_at, fills, live, keeps, block}
use Rattle.k_evaluation_control.specs.Laws.{IsTidy}
use Rattle.k_evaluation_control.proofs.Tidy.{operation_tidy, made_tidy, kept_tidy, filled_tidy}

-- the control source is as before, where that is asked
abbrev pub Where : Bool → Option ℕ → Option ℕ → Type 0
Where false before after = Unit {0}
Where true before after = after ≡ before

where_itself : (same : Bool) (c : Option ℕ) → Where same c c
where_itself false c = tt
where_itself true c = refl

where_both : (same : Bool) (a b c : Option ℕ) → Where same a b → Where same b c → Where same a c
where_both false a b c h k = tt
where_both true a b c h k = k ∙ h

-- what comes of a part that began under this control source, with so many calls live
abbrev pub Leaves : {A : Type 0} → ℕ → Bool → Option ℕ → Outcome A → Type 0
Leaves k same before (Goes a t) = IsTidy k t.world × Where same before t.world.control
Leaves k same before (Stops end w) = Unit {0}

-- a part leaves that, in whatever tidy world it begins
pub record Does {A : Type 0} (same : Bool) (part : Part A) : Type 0 where
  pub leaves : (k : ℕ) (s : State) → IsTidy k s.world → Leaves k same s.world.control (part s)

-- it keeps the control source
abbrev pub Keeps : {A : Type 0} → Part A → Type 0
Keeps part = Does true part

leaves_from : {A : Type 0} (k : ℕ) (same : Bool) (a b : Option ℕ) (o : Outcome A) → Where same a b → Leaves k same b o → Leaves k same a o
leaves_from n same a b (Goes x t) h k = (k.0, where_both same a b t.world.control h k.1)
leaves_from n same a b (Stops end w) h k = tt

leaves_behind : {A B : Type 0} (k : ℕ) (same : Bool) (before : Option ℕ) (o : Outcome A) (next : A → Part B) → Leaves k same before o → ((a : A) → Does same (next a)) → Leaves k same before (follow o next)
leaves_behind n same before (Goes a t) next h k = leaves_from n same before t.world.control (next a t) h.1 ((k a).leaves n t h.0)
leaves_behind n same before (Stops end w) next h k = tt

-- one part behind another
pub then_does : {A B : Type 0} (same : Bool) (part : Part A) (next : A → Part B) → Does same part → ((a : A) → Does same (next a)) → Does same (part >>= next)
then_does same part next h more = record { leaves = λ k s tidy. leaves_behind k same s.world.control (part s) next (h.leaves k s tidy) more }

pub then_keeps : {A B : Type 0} (part : Part A) (next : A → Part B) → Keeps part → ((a : A) → Keeps (next a)) → Keeps (part >>= next)
then_keeps part next h k = then_does true part next h k

pub then_tidies : {A B : Type 0} (part : Part A) (next : A → Part B) → Does false part → ((a : A) → Does false (next a)) → Does false (part >>= next)
then_tidies part next h k = then_does false part next h k

tidies_leaves : {A : Type 0} (k : ℕ) (before : Option ℕ) (o : Outcome A) → Leaves k true before o → Leaves k false before o
tidies_leaves k before (Goes a t) h = (h.0, tt)
tidies_leaves k before (Stops end w) h = tt

-- less is asked
pub tidies : {A : Type 0} (part : Part A) → Keeps part → Does false part
tidies part h = record { leaves = λ k s tidy. tidies_leaves k s.world.control (part s) (h.leaves k s tidy) }

pub gives_does : {A : Type 0} (same : Bool) (a : A) → Does same (gives a)
gives_does same a = record { leaves = λ k s tidy. (tidy, where_itself same s.world.control) }

pub gives_keeps : {A : Type 0} (a : A) → Keeps (gives a)
gives_keeps a = gives_does true a

pub traps_keeps : {A : Type 0} (trap : Trap) (place : Place) → Keeps (traps {A = A} trap place)
traps_keeps {A} trap place = record { leaves = λ k s tidy. tt }

pub sets_keeps : (n : ℕ) (slot : Option Held) → Keeps (sets n slot)
sets_keeps n slot = record { leaves = λ k s tidy. (tidy, refl) }

-- OBJECTS
object_leaves : (k : ℕ) (place : Place) (s : State) (m : Option World) → ((w : World) → m ≡ Some w → IsTidy k w × (w.control ≡ s.world.control)) → Leaves k true s.world.control (made_object place s m)
object_leaves k place s None h = tt
object_leaves k place s (Some w) h = h w refl

made_control : (w : World) (count : ℕ) (after : World) → object_made w Unset count ≡ Some after → after.control ≡ w.control
made_control w count after is = by (push_of w.memory Unset count) is
  where
    by : (m : Option Memory) → with_elements count w m ≡ Some after → after.control ≡ w.control
    by None is = absurd (cc is)
    by (Some m) is = let new : record w { memory = m; origins = w.origins ++ replicate count None } ≡ after = cc is in sym (ap (λ (v : World). v.control) new)

pub makes_object_keeps : (place : Place) (count : ℕ) → Keeps (makes_object place Unset count)
makes_object_keeps place count = record {
  leaves = λ k s tidy. object_leaves k place s (object_made s.world Unset count) (λ w is. (made_tidy k s.world w Unset count tt tidy is, made_control s.world count w is));
}

items_tidy : (k : ℕ) (v : Value) (items : List Initial) (w : World) → IsTidy k w → IsTidy k (with_items_at v items w)
items_tidy k (value.Number z) items w tidy = tidy
items_tidy k (value.Pointer p) items w tidy = filled_tidy k w p.object items tidy

items_control : (v : Value) (items : List Initial) (w : World) → (with_items_at v items w).control ≡ w.control
items_control (value.Number z) items w = refl
items_control (value.Pointer p) items w = refl

pub fills_keeps : (home : Held) (items : List Initial) → Keeps (fills home items)
fills_keeps home items = record { leaves = λ k s tidy. (items_tidy k home.value items s.world tidy, items_control home.value items s.world) }

pub live_keeps : Keeps live
live_keeps = record { leaves = λ k s tidy. (tidy, refl) }

pub keeps_keeps : (count : ℕ) → Keeps (keeps count)
keeps_keeps count = record { leaves = λ k s tidy. (kept_tidy k s.world count tidy, refl) }

-- a block around a part
pub block_keeps : {A : Type 0} (part : Part A) → Keeps part → Keeps (block part)
block_keeps part h =
    then_keeps live (λ count. part >>= λ a. keeps count >>= λ kept. gives a) live_keeps
    (λ count. then_keeps part (λ a. keeps count >>= λ kept. gives a) h
    (λ a. then_keeps (keeps count) (λ kept. gives a) (keeps_keeps count) (λ kept. gives_keeps a)))

-- EVENTS
pub enters_keeps : (number : ℕ) → Keeps (enters number)
enters_keeps number = record { leaves = λ k s tidy. (record { laid = tidy.laid; origins = tidy.origins; calls = tidy.calls }, refl) }

pub exits_keeps : Keeps exits
exits_keeps = record { leaves = λ k s tidy. (record { laid = tidy.laid; origins = tidy.origins; calls = tidy.calls }, refl) }

-- what keeps the control source does whatever is asked
pub at_least : {A : Type 0} (same : Bool) (part : Part A) → Keeps part → Does same part
at_least true part h = h
at_least false part h = tidies part h

-- a region around a part
pub region_does : {A : Type 0} (same : Bool) (number : ℕ) (part : Part A) → Does same part → Does same (region number part)
region_does same number part h =
    then_does same (enters number) (λ entered. part >>= λ a. exits >>= λ left. gives a) (at_least same (enters number) (enters_keeps number))
    (λ entered. then_does same part (λ a. exits >>= λ left. gives a) h
    (λ a. then_does same exits (λ left. gives a) (at_least same exits exits_keeps) (λ left. gives_does same a)))

-- CONTROL
pub control_keeps : Keeps control
control_keeps = record { leaves = λ k s tidy. (tidy, refl) }

controls_tidies : (c : Option ℕ) → Does false (controls c)
controls_tidies c = record { leaves = λ k s tidy. (record { laid = tidy.laid; origins = tidy.origins; calls = tidy.calls }, tt) }

pub settles_tidies : (stays : Bool) (c : Option ℕ) → Does false (settles stays c)
settles_tidies true c = gives_does false tt
settles_tidies false c = controls_tidies c

settled_leaves : {A : Type 0} (k : ℕ) (before : Option ℕ) (o : Outcome A) → Leaves k false before o → Leaves k true before (follow o (λ a. controls before >>= λ done. gives a))
settled_leaves k before (Goes a t) h = (record { laid = h.0.laid; origins = h.0.origins; calls = h.0.calls }, refl)
settled_leaves k before (Stops end w) h = tt

-- the control source behind it is as before
pub settled_keeps : {A : Type 0} (part : Part A) → Does false part → Keeps (settled false part)
settled_keeps part h = record { leaves = λ k s tidy. settled_leaves k s.world.control (part s) (h.leaves k s tidy) }

-- AN OPERATION keeps the control source unless it is a test
abbrev pub is_test : Act → Bool
is_test act.Test = true
is_test _ = false

no_test : (what : Act) → is_test what ≡ false → what ≢ act.Test
no_test what is test = absurd (cc (sym is ∙ ap is_test test))

made_leaves : (k : ℕ) (same : Bool) (s : State) (m : Made) → WhereMade (λ before after. IsTidy k after) s.world m → WhereMade (λ before after. Where same before.control after.control) s.world m
    → Leaves k same s.world.control (made s m)
made_leaves k same s (Gives held w) tidy where_ = (tidy, where_)
made_leaves k same s (Ends end w) tidy where_ = tt

none_asked : (w : World) (m : Made) → WhereMade (λ before after. Where false before.control after.control) w m
none_asked w (Gives held after) = tt
none_asked w (Ends end after) = tt

module _ (program : Program) (class : Class) (place : Place) (what : Act) (operands : List Operand) where
  abbrev asked : Bool
  asked = not (is_test what)

  kept_by : (b : Bool) → is_test what ≡ b → (s : State)
      → WhereMade (λ before after. Where (not b) before.control after.control) s.world (operation class (latency program.latencies class) place what (map (read s) operands) s.world)
  kept_by false is s = control_stays class (latency program.latencies class) place what (map (read s) operands) s.world (no_test what is)
  kept_by true is s = none_asked s.world (operation class (latency program.latencies class) place what (map (read s) operands) s.world)

  pub makes_keeps : Does asked (makes program class place what operands)
  makes_keeps = record {
    leaves = λ k s tidy. made_leaves k asked s (operation class (latency program.latencies class) place what (map (read s) operands) s.world)
        (operation_tidy k class (latency program.latencies class) place what (map (read s) operands) s.world tidy) (kept_by (is_test what) refl s);
  }

  pub computes_keeps : Does asked (computes program class place what operands)
  computes_keeps = then_does asked (makes program class place what operands) (λ held. gives (Holding held)) makes_keeps (λ held. gives_does asked (Holding held))
