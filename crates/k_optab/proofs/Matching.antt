-- The events before a matching Exit are the balanced ones that an Exit follows.
use Rattle.std.proofs.Common.{◌≡◌, ℕ, zero, suc, List, [], ◌∷◌, ◌++◌, Option, Some, None, refl, sym, ◌∙◌, subst, ap, append_assoc, append-nil}
use Rattle.std.specs.Prelude.{option_map}
use Rattle.k_num.specs.declared.place.Place.{Place}
use Rattle.k_optab.specs.declared.class.Class.{Class}
use Rattle.k_optab.specs.declared.event.Src.{Src}
use Rattle.k_optab.specs.declared.event.Event.{Event}
use Rattle.k_optab.specs.declared.event.Event.TheVariants.{Op, Enter, Exit}
use Rattle.k_optab.specs.Instances.{Balanced, nothing, operation, instance, until_exit}

-- what a mapped option holds comes from what the option held
pub mapped : {A B : Type 0} (f : A → B) (o : Option A) (y : B) → option_map f o ≡ Some y → (x : A) × (o ≡ Some x) × (f x ≡ y)
mapped f None y h = cc
mapped f (Some x) y h = (x, refl, cc)

-- balanced events change nothing of which Exit is the matching one
pub balanced_within : (inside tail after : List Event) (within : ℕ) → Balanced inside → until_exit tail within ≡ Some after
    → until_exit (inside ++ tail) within ≡ Some (inside ++ after)
balanced_within _ tail after within nothing h = h
balanced_within _ tail after within (operation class latency sources place events balanced) h =
    ap (λ o. option_map (λ es. Op class latency sources place ∷ es) o) (balanced_within events tail after within balanced h)
balanced_within _ tail after within (instance region inside events inner balanced) h =
    let later : until_exit (events ++ tail) within ≡ Some (events ++ after) = balanced_within events tail after within balanced h in
    let exited : until_exit (Exit ∷ (events ++ tail)) (suc within) ≡ Some (Exit ∷ (events ++ after)) =
    ap (λ o. option_map (λ es. Exit ∷ es) o) later in
    let whole : until_exit (inside ++ (Exit ∷ (events ++ tail))) (suc within) ≡ Some (inside ++ (Exit ∷ (events ++ after))) =
    balanced_within inside (Exit ∷ (events ++ tail)) (Exit ∷ (events ++ after)) (suc within) inner exited in
    let left : (inside ++ Exit ∷ events) ++ tail ≡ inside ++ (Exit ∷ (events ++ tail)) = append_assoc inside (Exit ∷ events) tail in
    let right : (inside ++ Exit ∷ events) ++ after ≡ inside ++ (Exit ∷ (events ++ after)) = append_assoc inside (Exit ∷ events) after in
    ap (λ es. option_map (λ rest. Enter region ∷ rest) (until_exit es (suc within))) left
    ∙ (ap (λ o. option_map (λ es. Enter region ∷ es) o) whole ∙ ap (λ es. Some (Enter region ∷ es)) (sym right))

-- balanced events, so many times an Exit and balanced events again
pub data Nested : ℕ → List Event → Type 0 where
  last : (events : List Event) → Balanced events → Nested zero events
  more : (within : ℕ) (events later : List Event) → Balanced events → Nested within later → Nested (suc within) (events ++ Exit ∷ later)

pub entered_before : (within : ℕ) (region : ℕ) (events : List Event) → Nested (suc within) events → Nested within (Enter region ∷ events)
entered_before _ region _ (more _ events later balanced (last _ other)) = last _ (instance region events later balanced other)
entered_before _ region _ (more _ events later balanced (more within second third other nested)) =
    let assoc : (events ++ Exit ∷ second) ++ Exit ∷ third ≡ events ++ (Exit ∷ (second ++ Exit ∷ third)) =
    append_assoc events (Exit ∷ second) (Exit ∷ third) in
    subst (λ es. Nested (suc within) (Enter region ∷ es)) assoc
    (more within (Enter region ∷ events ++ Exit ∷ second) third (instance region events second balanced other) nested)

pub operation_before : (class : Class) (latency : ℕ) (sources : List Src) (place : Place) (within : ℕ) (events : List Event)
    → Nested within events → Nested within (Op class latency sources place ∷ events)
operation_before class latency sources place _ _ (last events balanced) = last _ (operation class latency sources place events balanced)
operation_before class latency sources place _ _ (more within events later balanced nested) =
    more within (Op class latency sources place ∷ events) later (operation class latency sources place events balanced) nested

-- the matching Exit stands behind events that are balanced but for the instances to be left first
pub nested_until : (events : List Event) (within : ℕ) (inside : List Event) → until_exit events within ≡ Some inside
    → Nested within inside × ((rest : List Event) × (events ≡ inside ++ Exit ∷ rest))
nested_until [] within inside h = cc
nested_until (Op class latency sources place ∷ events) within inside h =
    let found : (es : List Event) × (until_exit events within ≡ Some es) × (Op class latency sources place ∷ es ≡ inside) =
    mapped (λ es. Op class latency sources place ∷ es) (until_exit events within) inside h in
    let rest : Nested within found.0 × ((after : List Event) × (events ≡ found.0 ++ Exit ∷ after)) = nested_until events within found.0 found.1 in
    subst (λ es. Nested within es × ((after : List Event) × (Op class latency sources place ∷ events ≡ es ++ Exit ∷ after))) found.2
    (operation_before class latency sources place within found.0 rest.0, (rest.1.0, ap (λ es. Op class latency sources place ∷ es) rest.1.1))
nested_until (Enter region ∷ events) within inside h =
    let found : (es : List Event) × (until_exit events (suc within) ≡ Some es) × (Enter region ∷ es ≡ inside) =
    mapped (λ es. Enter region ∷ es) (until_exit events (suc within)) inside h in
    let rest : Nested (suc within) found.0 × ((after : List Event) × (events ≡ found.0 ++ Exit ∷ after)) = nested_until events (suc within) found.0 found.1 in
    subst (λ es. Nested within es × ((after : List Event) × (Enter region ∷ events ≡ es ++ Exit ∷ after))) found.2
    (entered_before within region found.0 rest.0, (rest.1.0, ap (λ es. Enter region ∷ es) rest.1.1))
nested_until (Exit ∷ events) zero inside h =
    let empty : [] ≡ inside = cc in
    subst (λ es. Nested zero es × ((after : List Event) × (Exit ∷ events ≡ es ++ Exit ∷ after))) empty (last [] nothing, (events, refl))
nested_until (Exit ∷ events) (suc within) inside h =
    let found : (es : List Event) × (until_exit events within ≡ Some es) × (Exit ∷ es ≡ inside) =
    mapped (λ es. Exit ∷ es) (until_exit events within) inside h in
    let rest : Nested within found.0 × ((after : List Event) × (events ≡ found.0 ++ Exit ∷ after)) = nested_until events within found.0 found.1 in
    subst (λ es. Nested (suc within) es × ((after : List Event) × (Exit ∷ events ≡ es ++ Exit ∷ after))) found.2
    (more within [] found.0 nothing rest.0, (rest.1.0, ap (λ es. Exit ∷ es) rest.1.1))

pub balanced_of : (events : List Event) → Nested zero events → Balanced events
balanced_of _ (last events balanced) = balanced

pub matching_exit : (events inside : List Event) → until_exit events 0 ≡ Some inside
    → Balanced inside × ((rest : List Event) × (events ≡ inside ++ Exit ∷ rest))
matching_exit events inside h =
    let found : Nested zero inside × ((rest : List Event) × (events ≡ inside ++ Exit ∷ rest)) = nested_until events 0 inside h in
    (balanced_of inside found.0, found.1)

pub balanced_to_exit : (events inside : List Event) → Balanced inside × ((rest : List Event) × (events ≡ inside ++ Exit ∷ rest))
    → until_exit events 0 ≡ Some inside
balanced_to_exit events inside are =
    let found : until_exit (inside ++ Exit ∷ are.1.0) 0 ≡ Some (inside ++ []) = balanced_within inside (Exit ∷ are.1.0) [] 0 are.0 refl in
    ap (λ es. until_exit es 0) are.1.1 ∙ (found ∙ ap Some (append-nil inside))
