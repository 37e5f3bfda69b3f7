-- The intervals of closed instances lie as the instances do.
use Rattle.std.proofs.Common.{◌≡◌, ℕ, zero, suc, ◌+◌, ◌-◌, ◌<◌, ◌≤◌, List, [], ◌∷◌, ◌++◌, length, Option, Some, None, refl, ap, arith}
use Rattle.std.specs.Prelude.{All, AllPairs, nat_lt}
use Rattle.std.proofs.lemmas.List.Elements.{All-filter}
use Rattle.std.proofs.lemmas.List.Kept.{AllPairs-filter, AllPairs-cons}
use Rattle.k_optab.specs.declared.event.Event.{Event}
use Rattle.k_optab.specs.declared.event.Event.TheVariants.{Op, Enter, Exit}
use Rattle.k_optab.specs.Events.{operations}
use Rattle.k_optab.specs.declared.closed.Closed.{Closed}
use Rattle.k_optab.specs.Instances.{until_exit, instance_of, closed_from, tracked}
use Rattle.k_optab.specs.InstanceLaws.{LieAsInstances}
use Rattle.k_optab.proofs.Crossing.{all_with_instance, entered_from, left_later}
use Rattle.k_optab.proofs.Matching.{mapped}

-- all instances of these events start from a number on
started_from : (events : List Event) (low before made depth : ℕ) → low ≤ made → All (λ i. low ≤ i.start) (closed_from events before made depth)
started_from [] low before made depth from = λ k d within. absurd (omega arith)
started_from (Op class latency sources place ∷ events) low before made depth from =
    started_from events low (before + 1) (made + 1) depth (omega arith)
started_from (Enter region ∷ events) low before made depth from =
    all_with_instance (λ i. low ≤ i.start) region depth before made (until_exit events 0) (closed_from events (before + 1) made (depth + 1))
    (λ inside is. from) (started_from events low (before + 1) made (depth + 1) from)
started_from (Exit ∷ events) low before made depth from = started_from events low (before + 1) made (depth - 1) from

-- an inner instance has no more operations than the outer one up to its Exit
fewer_inside : (events : List Event) (inner outer : ℕ) (first second : List Event) → inner < outer
    → until_exit events inner ≡ Some first → until_exit events outer ≡ Some second → length (operations first) ≤ length (operations second)
fewer_inside [] inner outer first second less one other = cc
fewer_inside (Op class latency sources place ∷ events) inner outer first second less one other =
    let a = mapped (λ es. Op class latency sources place ∷ es) (until_exit events inner) first one in
    let b = mapped (λ es. Op class latency sources place ∷ es) (until_exit events outer) second other in
    let fewer : length (operations a.0) ≤ length (operations b.0) = fewer_inside events inner outer a.0 b.0 less a.1 b.1 in
    let one_is : suc (length (operations a.0)) ≡ length (operations first) = ap (λ es. length (operations es)) a.2 in
    let other_is : suc (length (operations b.0)) ≡ length (operations second) = ap (λ es. length (operations es)) b.2 in
    omega arith
fewer_inside (Enter region ∷ events) inner outer first second less one other =
    let a = mapped (λ es. Enter region ∷ es) (until_exit events (suc inner)) first one in
    let b = mapped (λ es. Enter region ∷ es) (until_exit events (suc outer)) second other in
    let fewer : length (operations a.0) ≤ length (operations b.0) = fewer_inside events (suc inner) (suc outer) a.0 b.0 (omega arith) a.1 b.1 in
    let one_is : length (operations a.0) ≡ length (operations first) = ap (λ es. length (operations es)) a.2 in
    let other_is : length (operations b.0) ≡ length (operations second) = ap (λ es. length (operations es)) b.2 in
    omega arith
fewer_inside (Exit ∷ events) inner zero first second less one other = absurd (omega arith)
fewer_inside (Exit ∷ events) zero (suc outer) first second less one other =
    let none : [] ≡ first = cc in
    let one_is : 0 ≡ length (operations first) = ap (λ es. length (operations es)) none in
    omega arith
fewer_inside (Exit ∷ events) (suc inner) (suc outer) first second less one other =
    let a = mapped (λ es. Exit ∷ es) (until_exit events inner) first one in
    let b = mapped (λ es. Exit ∷ es) (until_exit events outer) second other in
    let fewer : length (operations a.0) ≤ length (operations b.0) = fewer_inside events inner outer a.0 b.0 (omega arith) a.1 b.1 in
    let one_is : length (operations a.0) ≡ length (operations first) = ap (λ es. length (operations es)) a.2 in
    let other_is : length (operations b.0) ≡ length (operations second) = ap (λ es. length (operations es)) b.2 in
    omega arith

-- an instance that is left before this place ends by this number, and one that is entered behind it starts from there
record Lies (place total : ℕ) (i : Closed) : Type 0 where
  before : i.exit < place → i.end ≤ total
  behind : place < i.enter → total ≤ i.start

lying : (events : List Event) (before made depth within : ℕ) (inside : List Event) → until_exit events within ≡ Some inside
    → (place total : ℕ) → place ≡ before + length inside → total ≡ made + length (operations inside) → All (Lies place total) (closed_from events before made depth)
lying [] before made depth within inside left place total at count = cc
lying (Op class latency sources place' ∷ events) before made depth within inside left place total at count =
    let a = mapped (λ es. Op class latency sources place' ∷ es) (until_exit events within) inside left in
    let is : suc (length a.0) ≡ length inside = ap length a.2 in
    let made_is : suc (length (operations a.0)) ≡ length (operations inside) = ap (λ es. length (operations es)) a.2 in
    lying events (before + 1) (made + 1) depth within a.0 a.1 place total (omega arith) (omega arith)
lying (Enter region ∷ events) before made depth within inside left place total at count =
    let a = mapped (λ es. Enter region ∷ es) (until_exit events (suc within)) inside left in
    let is : suc (length a.0) ≡ length inside = ap length a.2 in
    let made_is : length (operations a.0) ≡ length (operations inside) = ap (λ es. length (operations es)) a.2 in
    all_with_instance (Lies place total) region depth before made (until_exit events 0) (closed_from events (before + 1) made (depth + 1))
    (λ first found.
    let fewer : length (operations first) ≤ length (operations a.0) = fewer_inside events 0 (suc within) first a.0 (omega arith) found a.1 in
    record { before = λ sooner. omega arith; behind = λ (later : place < before). absurd (omega arith) })
    (lying events (before + 1) made (depth + 1) (suc within) a.0 a.1 place total (omega arith) (omega arith))
lying (Exit ∷ events) before made depth zero inside left place total at count =
    let none : [] ≡ inside = cc in
    let is : 0 ≡ length inside = ap length none in
    let made_is : 0 ≡ length (operations inside) = ap (λ es. length (operations es)) none in
    let entered : All (λ i. place + 1 ≤ i.enter) (closed_from events (before + 1) made (depth - 1)) =
    entered_from events (place + 1) (before + 1) made (depth - 1) (omega arith) in
    let started : All (λ i. total ≤ i.start) (closed_from events (before + 1) made (depth - 1)) =
    started_from events total (before + 1) made (depth - 1) (omega arith) in
    let left : All (λ i. i.enter < i.exit) (closed_from events (before + 1) made (depth - 1)) = left_later events (before + 1) made (depth - 1) in
    λ k d low. record { before = λ sooner. absurd (omega (arith, sooner, entered k d low, left k d low)); behind = λ later. started k d low }
lying (Exit ∷ events) before made depth (suc within) inside left place total at count =
    let a = mapped (λ es. Exit ∷ es) (until_exit events within) inside left in
    let is : suc (length a.0) ≡ length inside = ap length a.2 in
    let made_is : length (operations a.0) ≡ length (operations inside) = ap (λ es. length (operations es)) a.2 in
    lying events (before + 1) made (depth - 1) within a.0 a.1 place total (omega arith) (omega arith)

lie_with_instance : (region depth enter start : ℕ) (found : Option (List Event)) (list : List Closed) → All (λ i. start ≤ i.start) list
    → ((inside : List Event) → found ≡ Some inside → All (Lies (enter + 1 + length inside) (start + length (operations inside))) list)
    → AllPairs LieAsInstances list → AllPairs LieAsInstances (instance_of region depth enter start found ++ list)
lie_with_instance region depth enter start None list started lies pairs = pairs
lie_with_instance region depth enter start (Some inside) list started lies pairs =
    AllPairs-cons LieAsInstances _ list
    (λ k d low. record {
      within = λ sooner. (started k d low, (lies inside refl k d low).before sooner);
      apart = λ later. (lies inside refl k d low).behind later;
    })
    pairs

lie_as_instances : (events : List Event) (before made depth : ℕ) → AllPairs LieAsInstances (closed_from events before made depth)
lie_as_instances [] before made depth = λ i j d less within. absurd (omega arith)
lie_as_instances (Op class latency sources place ∷ events) before made depth = lie_as_instances events (before + 1) (made + 1) depth
lie_as_instances (Enter region ∷ events) before made depth =
    lie_with_instance region depth before made (until_exit events 0) (closed_from events (before + 1) made (depth + 1))
    (started_from events made (before + 1) made (depth + 1) (omega arith))
    (λ inside found. lying events (before + 1) made (depth + 1) 0 inside found (before + 1 + length inside) (made + length (operations inside)) refl refl)
    (lie_as_instances events (before + 1) made (depth + 1))
lie_as_instances (Exit ∷ events) before made depth = lie_as_instances events (before + 1) made (depth - 1)

pub intervals_lie_as_instances : (depth : ℕ) (events : List Event) → AllPairs LieAsInstances (tracked depth events)
intervals_lie_as_instances depth events =
    AllPairs-filter LieAsInstances (λ i. nat_lt i.depth depth) (closed_from events 0 0 0) (lie_as_instances events 0 0 0)

-- an instance's interval ends where it starts or behind
ordered : (events : List Event) (before made depth : ℕ) → All (λ i. i.start ≤ i.end) (closed_from events before made depth)
ordered [] before made depth = λ k d within. absurd (omega arith)
ordered (Op class latency sources place ∷ events) before made depth = ordered events (before + 1) (made + 1) depth
ordered (Enter region ∷ events) before made depth =
    all_with_instance (λ i. i.start ≤ i.end) region depth before made (until_exit events 0) (closed_from events (before + 1) made (depth + 1))
    (λ inside is. omega arith) (ordered events (before + 1) made (depth + 1))
ordered (Exit ∷ events) before made depth = ordered events (before + 1) made (depth - 1)

pub intervals_are_ordered : (depth : ℕ) (events : List Event) → All (λ i. i.start ≤ i.end) (tracked depth events)
intervals_are_ordered depth events = All-filter (λ i. nat_lt i.depth depth) (λ i. i.start ≤ i.end) (closed_from events 0 0 0) (ordered events 0 0 0)
