-- Closed instances stand in order of entry, and no two of them cross.
use Rattle.std.proofs.Common.{◌≡◌, ℕ, zero, suc, ◌+◌, ◌-◌, ◌<◌, ◌≤◌, ◌⊎◌, inl, inr, List, [], ◌∷◌, ◌++◌, length, Option, Some, None, refl, ap, arith}
use Rattle.std.specs.Prelude.{All, AllPairs, nat_lt}
use Rattle.std.proofs.lemmas.List.Elements.{All-cons, All-filter}
use Rattle.std.proofs.lemmas.List.Kept.{AllPairs-filter, AllPairs-cons}
use Rattle.k_optab.specs.declared.event.Event.{Event}
use Rattle.k_optab.specs.declared.event.Event.TheVariants.{Op, Enter, Exit}
use Rattle.k_optab.specs.Events.{operations}
use Rattle.k_optab.specs.declared.closed.Closed.{Closed}
use Rattle.k_optab.specs.Instances.{until_exit, instance_of, closed_from, tracked}
use Rattle.k_optab.specs.InstanceLaws.{Precedes}
use Rattle.k_optab.proofs.Matching.{mapped}

-- what holds of an instance, where it is closed, and of each one of a list holds of each of them together
pub all_with_instance : (P : Closed → Type 0) (region depth enter start : ℕ) (found : Option (List Event)) (list : List Closed)
    → ((inside : List Event) → found ≡ Some inside
    → P (record { region = region; depth = depth; enter = enter; exit = enter + 1 + length inside; start = start; end = start + length (operations inside) }))
    → All P list → All P (instance_of region depth enter start found ++ list)
all_with_instance P region depth enter start None list one all = all
all_with_instance P region depth enter start (Some inside) list one all = All-cons P _ list (one inside refl) all

-- all instances of these events are entered from a place on
pub entered_from : (events : List Event) (low before made depth : ℕ) → low ≤ before → All (λ i. low ≤ i.enter) (closed_from events before made depth)
entered_from [] low before made depth from = λ k d within. absurd (omega arith)
entered_from (Op class latency sources place ∷ events) low before made depth from =
    entered_from events low (before + 1) (made + 1) depth (omega arith)
entered_from (Enter region ∷ events) low before made depth from =
    all_with_instance (λ i. low ≤ i.enter) region depth before made (until_exit events 0) (closed_from events (before + 1) made (depth + 1))
    (λ inside is. from) (entered_from events low (before + 1) made (depth + 1) (omega arith))
entered_from (Exit ∷ events) low before made depth from = entered_from events low (before + 1) made (depth - 1) (omega arith)

-- an inner instance is left before the outer one
left_sooner : (events : List Event) (inner outer : ℕ) (first second : List Event) → inner < outer
    → until_exit events inner ≡ Some first → until_exit events outer ≡ Some second → length first < length second
left_sooner [] inner outer first second less one other = cc
left_sooner (Op class latency sources place ∷ events) inner outer first second less one other =
    let a = mapped (λ es. Op class latency sources place ∷ es) (until_exit events inner) first one in
    let b = mapped (λ es. Op class latency sources place ∷ es) (until_exit events outer) second other in
    let shorter : length a.0 < length b.0 = left_sooner events inner outer a.0 b.0 less a.1 b.1 in
    let one_is : suc (length a.0) ≡ length first = ap length a.2 in
    let other_is : suc (length b.0) ≡ length second = ap length b.2 in
    omega arith
left_sooner (Enter region ∷ events) inner outer first second less one other =
    let a = mapped (λ es. Enter region ∷ es) (until_exit events (suc inner)) first one in
    let b = mapped (λ es. Enter region ∷ es) (until_exit events (suc outer)) second other in
    let shorter : length a.0 < length b.0 = left_sooner events (suc inner) (suc outer) a.0 b.0 (omega arith) a.1 b.1 in
    let one_is : suc (length a.0) ≡ length first = ap length a.2 in
    let other_is : suc (length b.0) ≡ length second = ap length b.2 in
    omega arith
left_sooner (Exit ∷ events) inner zero first second less one other = absurd (omega arith)
left_sooner (Exit ∷ events) zero (suc outer) first second less one other =
    let b = mapped (λ es. Exit ∷ es) (until_exit events outer) second other in
    let none : [] ≡ first = cc in
    let one_is : 0 ≡ length first = ap length none in
    let other_is : suc (length b.0) ≡ length second = ap length b.2 in
    omega arith
left_sooner (Exit ∷ events) (suc inner) (suc outer) first second less one other =
    let a = mapped (λ es. Exit ∷ es) (until_exit events inner) first one in
    let b = mapped (λ es. Exit ∷ es) (until_exit events outer) second other in
    let shorter : length a.0 < length b.0 = left_sooner events inner outer a.0 b.0 (omega arith) a.1 b.1 in
    let one_is : suc (length a.0) ≡ length first = ap length a.2 in
    let other_is : suc (length b.0) ≡ length second = ap length b.2 in
    omega arith

-- an instance is left before this place, or entered behind it
abbrev Avoids : ℕ → Closed → Type 0
Avoids place i = (i.exit < place) ⊎ (place < i.enter)

-- no instance crosses an Exit that leaves an outer one
avoided : (events : List Event) (before made depth within : ℕ) (inside : List Event) → until_exit events within ≡ Some inside
    → (place : ℕ) → place ≡ before + length inside → All (Avoids place) (closed_from events before made depth)
avoided [] before made depth within inside left place at = cc
avoided (Op class latency sources place' ∷ events) before made depth within inside left place at =
    let a = mapped (λ es. Op class latency sources place' ∷ es) (until_exit events within) inside left in
    let is : suc (length a.0) ≡ length inside = ap length a.2 in
    avoided events (before + 1) (made + 1) depth within a.0 a.1 place (omega arith)
avoided (Enter region ∷ events) before made depth within inside left place at =
    let a = mapped (λ es. Enter region ∷ es) (until_exit events (suc within)) inside left in
    let is : suc (length a.0) ≡ length inside = ap length a.2 in
    all_with_instance (Avoids place) region depth before made (until_exit events 0) (closed_from events (before + 1) made (depth + 1))
    (λ first found.
    let sooner : length first < length a.0 = left_sooner events 0 (suc within) first a.0 (omega arith) found a.1 in
    let before_it : before + 1 + length first < place = omega arith in
    inl before_it)
    (avoided events (before + 1) made (depth + 1) (suc within) a.0 a.1 place (omega arith))
avoided (Exit ∷ events) before made depth zero inside left place at =
    let none : [] ≡ inside = cc in
    let is : 0 ≡ length inside = ap length none in
    let later : All (λ i. place + 1 ≤ i.enter) (closed_from events (before + 1) made (depth - 1)) =
    entered_from events (place + 1) (before + 1) made (depth - 1) (omega arith) in
    λ k d low. inr (omega (arith, later k d low))
avoided (Exit ∷ events) before made depth (suc within) inside left place at =
    let a = mapped (λ es. Exit ∷ es) (until_exit events within) inside left in
    let is : suc (length a.0) ≡ length inside = ap length a.2 in
    avoided events (before + 1) made (depth - 1) within a.0 a.1 place (omega arith)

-- the instance that is entered first precedes the others
precedes_with_instance : (region depth enter start : ℕ) (found : Option (List Event)) (list : List Closed)
    → All (λ i. enter + 1 ≤ i.enter) list
    → ((inside : List Event) → found ≡ Some inside → All (Avoids (enter + 1 + length inside)) list)
    → AllPairs Precedes list → AllPairs Precedes (instance_of region depth enter start found ++ list)
precedes_with_instance region depth enter start None list later avoids pairs = pairs
precedes_with_instance region depth enter start (Some inside) list later avoids pairs =
    AllPairs-cons Precedes _ list
    (λ k d low. record { entered = omega (arith, later k d low); left = avoids inside refl k d low })
    pairs

pub never_crossing : (events : List Event) (before made depth : ℕ) → AllPairs Precedes (closed_from events before made depth)
never_crossing [] before made depth = λ i j d less within. absurd (omega arith)
never_crossing (Op class latency sources place ∷ events) before made depth = never_crossing events (before + 1) (made + 1) depth
never_crossing (Enter region ∷ events) before made depth =
    precedes_with_instance region depth before made (until_exit events 0) (closed_from events (before + 1) made (depth + 1))
    (entered_from events (before + 1) (before + 1) made (depth + 1) (omega arith))
    (λ inside found. avoided events (before + 1) made (depth + 1) 0 inside found (before + 1 + length inside) refl)
    (never_crossing events (before + 1) made (depth + 1))
never_crossing (Exit ∷ events) before made depth = never_crossing events (before + 1) made (depth - 1)

pub instances_never_cross : (depth : ℕ) (events : List Event) → AllPairs Precedes (tracked depth events)
instances_never_cross depth events =
    AllPairs-filter Precedes (λ i. nat_lt i.depth depth) (closed_from events 0 0 0) (never_crossing events 0 0 0)

-- an instance is left after it is entered
pub left_later : (events : List Event) (before made depth : ℕ) → All (λ i. i.enter < i.exit) (closed_from events before made depth)
left_later [] before made depth = λ k d within. absurd (omega arith)
left_later (Op class latency sources place ∷ events) before made depth = left_later events (before + 1) (made + 1) depth
left_later (Enter region ∷ events) before made depth =
    all_with_instance (λ i. i.enter < i.exit) region depth before made (until_exit events 0) (closed_from events (before + 1) made (depth + 1))
    (λ inside is. omega arith) (left_later events (before + 1) made (depth + 1))
left_later (Exit ∷ events) before made depth = left_later events (before + 1) made (depth - 1)

pub instances_are_left_later : (depth : ℕ) (events : List Event) → All (λ i. i.enter < i.exit) (tracked depth events)
instances_are_left_later depth events =
    All-filter (λ i. nat_lt i.depth depth) (λ i. i.enter < i.exit) (closed_from events 0 0 0) (left_later events 0 0 0)
