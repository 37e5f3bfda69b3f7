-- What one event more does to the open instances and to the closed ones.
use Rattle.std.proofs.Common.{◌≡◌, ℕ, zero, suc, ◌+◌, ◌-◌, ◌<◌, ◌≤◌, List, [], ◌∷◌, ◌++◌, length, Option, Some, None, refl, sym, ◌∙◌, subst, ap, arith, append_assoc, append-nil, slice_get}
use Rattle.std.specs.Prelude.{filter, nat_lt, option_map}
use Rattle.k_optab.specs.declared.event.Event.{Event}
use Rattle.k_optab.specs.declared.event.Event.TheVariants.{Op, Enter, Exit}
use Rattle.k_optab.specs.Events.{operations}
use Rattle.k_optab.specs.Instances.{Balanced, nothing, operation, instance, closed_from, instance_of, until_exit}
use Rattle.k_optab.specs.Open.{Open, open_after, open_from, open_of}
use Rattle.k_optab.specs.OpenLaws.{EntersOpenInstances, IdleExitsKeepInstances, OperationsKeepInstances}
use Rattle.k_optab.proofs.Matching as matching
use Rattle.k_optab.proofs.Matching.{Nested, balanced_of, balanced_to_exit, entered_before, mapped, operation_before}

-- what a mapped option does not hold, the option did not
pub unmapped : {A B : Type 0} (f : A → B) (o : Option A) → option_map f o ≡ None → o ≡ None
unmapped f None h = refl
unmapped f (Some x) h = cc

-- no list with an item at its end is empty
pub no_last : {A : Type 0} (xs : List A) (x : A) → [] ≡ xs ++ x ∷ [] → ⊥
no_last [] x h = cc
no_last (y ∷ xs) x h = cc

-- an Exit that has come stays where it is
pub kept_exit : (events more inside : List Event) (within : ℕ) → until_exit events within ≡ Some inside
    → until_exit (events ++ more) within ≡ Some inside
kept_exit [] more inside within h = cc
kept_exit (Op class latency sources place ∷ events) more inside within h =
    let a = mapped (λ es. Op class latency sources place ∷ es) (until_exit events within) inside h in
    ap (λ o. option_map (λ es. Op class latency sources place ∷ es) o) (kept_exit events more a.0 within a.1) ∙ ap Some a.2
kept_exit (Enter region ∷ events) more inside within h =
    let a = mapped (λ es. Enter region ∷ es) (until_exit events (suc within)) inside h in
    ap (λ o. option_map (λ es. Enter region ∷ es) o) (kept_exit events more a.0 (suc within) a.1) ∙ ap Some a.2
kept_exit (Exit ∷ events) more inside zero h = h
kept_exit (Exit ∷ events) more inside (suc within) h =
    let a = mapped (λ es. Exit ∷ es) (until_exit events within) inside h in
    ap (λ o. option_map (λ es. Exit ∷ es) o) (kept_exit events more a.0 within a.1) ∙ ap Some a.2

-- how many of these Exits leave instances that were entered before
abbrev pub leaving : List Event → ℕ
leaving [] = 0
leaving (Op class latency sources place ∷ events) = leaving events
leaving (Enter region ∷ events) = leaving events - 1
leaving (Exit ∷ events) = leaving events + 1

pub found_leaving : (events inside : List Event) (within : ℕ) → until_exit events within ≡ Some inside → within < leaving events
found_leaving [] inside within h = cc
found_leaving (Op class latency sources place ∷ events) inside within h =
    let a = mapped (λ es. Op class latency sources place ∷ es) (until_exit events within) inside h in found_leaving events a.0 within a.1
found_leaving (Enter region ∷ events) inside within h =
    let a = mapped (λ es. Enter region ∷ es) (until_exit events (suc within)) inside h in
    let more : suc within < leaving events = found_leaving events a.0 (suc within) a.1 in
    omega arith
found_leaving (Exit ∷ events) inside zero h = omega arith
found_leaving (Exit ∷ events) inside (suc within) h =
    let a = mapped (λ es. Exit ∷ es) (until_exit events within) inside h in
    let more : within < leaving events = found_leaving events a.0 within a.1 in
    omega arith

pub none_leaving : (events : List Event) (within : ℕ) → until_exit events within ≡ None → leaving events ≤ within
none_leaving [] within h = omega arith
none_leaving (Op class latency sources place ∷ events) within h =
    none_leaving events within (unmapped (λ es. Op class latency sources place ∷ es) (until_exit events within) h)
none_leaving (Enter region ∷ events) within h =
    let few : leaving events ≤ suc within = none_leaving events (suc within) (unmapped (λ es. Enter region ∷ es) (until_exit events (suc within)) h) in
    omega arith
none_leaving (Exit ∷ events) zero h = cc
none_leaving (Exit ∷ events) (suc within) h =
    let few : leaving events ≤ within = none_leaving events within (unmapped (λ es. Exit ∷ es) (until_exit events within) h) in
    omega arith

-- how many instances are open after these events, where so many are open before them
abbrev pub count_after : List Event → ℕ → ℕ
count_after [] n = n
count_after (Op class latency sources place ∷ events) n = count_after events n
count_after (Enter region ∷ events) n = count_after events (n + 1)
count_after (Exit ∷ events) n = count_after events (n - 1)

counted_with : (region depth enter start n x : ℕ) (found : Option (List Event)) (list : List Open) → (found ≡ None → x ≤ 0)
    → ((inside : List Event) → found ≡ Some inside → 0 < x)
    → (n + 1 - x) + length list ≡ (n - (x - 1)) + length (open_of region depth enter start found ++ list)
counted_with region depth enter start n x None list none some = let few : x ≤ 0 = none refl in omega arith
counted_with region depth enter start n x (Some inside) list none some = let one : 0 < x = some inside refl in omega arith

pub counted : (events : List Event) (before made depth n : ℕ) → count_after events n ≡ (n - leaving events) + length (open_from events before made depth)
counted [] before made depth n = omega arith
counted (Op class latency sources place ∷ events) before made depth n = counted events (before + 1) (made + 1) depth n
counted (Enter region ∷ events) before made depth n =
    counted events (before + 1) made (depth + 1) (n + 1)
    ∙ counted_with region depth before made n (leaving events) (until_exit events 0) (open_from events (before + 1) made (depth + 1))
    (none_leaving events 0) (λ inside. found_leaving events inside 0)
counted (Exit ∷ events) before made depth n =
    let rest : count_after events (n - 1) ≡ (n - 1 - leaving events) + length (open_from events (before + 1) made (depth - 1)) =
    counted events (before + 1) made (depth - 1) (n - 1) in
    omega arith

-- an open instance's depth is its place in the list
depth_with : (region depth enter start x : ℕ) (found : Option (List Event)) (list : List Open) (k : ℕ) (o : Open) → (found ≡ None → x ≤ 0)
    → ((inside : List Event) → found ≡ Some inside → 0 < x)
    → ((j : ℕ) (i : Open) → slice_get list j ≡ Some i → i.depth ≡ (depth + 1 - x) + j)
    → slice_get (open_of region depth enter start found ++ list) k ≡ Some o → o.depth ≡ (depth - (x - 1)) + k
depth_with region depth enter start x None list zero o none some rest at =
    let few : x ≤ 0 = none refl in
    let same : record { region = region; depth = depth; enter = enter; start = start } ≡ o = cc in
    let its : depth ≡ o.depth = ap (λ (i : Open). i.depth) same in
    omega arith
depth_with region depth enter start x None list (suc k) o none some rest at =
    let few : x ≤ 0 = none refl in
    let its : o.depth ≡ (depth + 1 - x) + k = rest k o at in
    omega arith
depth_with region depth enter start x (Some inside) list k o none some rest at =
    let one : 0 < x = some inside refl in
    let its : o.depth ≡ (depth + 1 - x) + k = rest k o at in
    omega arith

depth_at : (events : List Event) (before made depth k : ℕ) (o : Open) → slice_get (open_from events before made depth) k ≡ Some o
    → o.depth ≡ (depth - leaving events) + k
depth_at [] before made depth k o at = cc
depth_at (Op class latency sources place ∷ events) before made depth k o at = depth_at events (before + 1) (made + 1) depth k o at
depth_at (Enter region ∷ events) before made depth k o at =
    depth_with region depth before made (leaving events) (until_exit events 0) (open_from events (before + 1) made (depth + 1)) k o
    (none_leaving events 0) (λ inside. found_leaving events inside 0) (λ j i. depth_at events (before + 1) made (depth + 1) j i) at
depth_at (Exit ∷ events) before made depth k o at =
    let its : o.depth ≡ (depth - 1 - leaving events) + k = depth_at events (before + 1) made (depth - 1) k o at in omega arith

pub open_depths : (events : List Event) (k : ℕ) (o : Open) → slice_get (open_after events) k ≡ Some o → o.depth ≡ k
open_depths events k o at = let its : o.depth ≡ (0 - leaving events) + k = depth_at events 0 0 0 k o at in omega arith

-- an event that leaves nothing
abbrev pub IsQuiet : Event → Type 0
IsQuiet event = (within : ℕ) → until_exit (event ∷ []) within ≡ None

pub quiet_exit : (event : Event) → IsQuiet event → (events : List Event) (within : ℕ) → until_exit (events ++ event ∷ []) within ≡ until_exit events within
quiet_exit event quiet [] within = quiet within
quiet_exit event quiet (Op class latency sources place ∷ events) within =
    ap (λ o. option_map (λ es. Op class latency sources place ∷ es) o) (quiet_exit event quiet events within)
quiet_exit event quiet (Enter region ∷ events) within =
    ap (λ o. option_map (λ es. Enter region ∷ es) o) (quiet_exit event quiet events (suc within))
quiet_exit event quiet (Exit ∷ events) zero = refl
quiet_exit event quiet (Exit ∷ events) (suc within) = ap (λ o. option_map (λ es. Exit ∷ es) o) (quiet_exit event quiet events within)

pub quiet_closed : (event : Event) → IsQuiet event → ((before made depth : ℕ) → closed_from (event ∷ []) before made depth ≡ [])
    → (events : List Event) (before made depth : ℕ) → closed_from (events ++ event ∷ []) before made depth ≡ closed_from events before made depth
quiet_closed event quiet none [] before made depth = none before made depth
quiet_closed event quiet none (Op class latency sources place ∷ events) before made depth = quiet_closed event quiet none events (before + 1) (made + 1) depth
quiet_closed event quiet none (Enter region ∷ events) before made depth =
    ap (λ o. instance_of region depth before made o ++ closed_from (events ++ event ∷ []) (before + 1) made (depth + 1)) (quiet_exit event quiet events 0)
    ∙ ap (λ l. instance_of region depth before made (until_exit events 0) ++ l) (quiet_closed event quiet none events (before + 1) made (depth + 1))
quiet_closed event quiet none (Exit ∷ events) before made depth = quiet_closed event quiet none events (before + 1) made (depth - 1)

pub quiet_open : (event : Event) → IsQuiet event → (events : List Event) (before made depth after total deep : ℕ) → after ≡ before + length events
    → total ≡ made + length (operations events) → deep ≡ count_after events depth
    → open_from (events ++ event ∷ []) before made depth ≡ open_from events before made depth ++ open_from (event ∷ []) after total deep
quiet_open event quiet [] before made depth after total deep at count many =
    let place : before ≡ after = omega arith in
    let number : made ≡ total = omega arith in
    ap (λ b. open_from (event ∷ []) b made depth) place
    ∙ (ap (λ m. open_from (event ∷ []) after m depth) number ∙ ap (λ d. open_from (event ∷ []) after total d) (sym many))
quiet_open event quiet (Op class latency sources place ∷ events) before made depth after total deep at count many =
    quiet_open event quiet events (before + 1) (made + 1) depth after total deep (omega arith) (omega arith) many
quiet_open event quiet (Enter region ∷ events) before made depth after total deep at count many =
    ap (λ o. open_of region depth before made o ++ open_from (events ++ event ∷ []) (before + 1) made (depth + 1)) (quiet_exit event quiet events 0)
    ∙ (ap (λ l. open_of region depth before made (until_exit events 0) ++ l)
    (quiet_open event quiet events (before + 1) made (depth + 1) after total deep (omega arith) count many)
    ∙ sym (append_assoc (open_of region depth before made (until_exit events 0)) (open_from events (before + 1) made (depth + 1))
    (open_from (event ∷ []) after total deep)))
quiet_open event quiet (Exit ∷ events) before made depth after total deep at count many =
    quiet_open event quiet events (before + 1) made (depth - 1) after total deep (omega arith) count many

-- where nothing is open behind an Enter, its Exit comes
pub none_open : (region depth enter start : ℕ) (found : Option (List Event)) (list : List Open) → open_of region depth enter start found ++ list ≡ []
    → (inside : List Event) × (found ≡ Some inside) × (list ≡ [])
none_open region depth enter start None list h = cc
none_open region depth enter start (Some inside) list h = (inside, refl, h)

-- an Exit with nothing open
pub idle_open : (events : List Event) (before made depth : ℕ) → open_from events before made depth ≡ []
    → open_from (events ++ Exit ∷ []) before made depth ≡ []
idle_open [] before made depth none = refl
idle_open (Op class latency sources place ∷ events) before made depth none = idle_open events (before + 1) (made + 1) depth none
idle_open (Enter region ∷ events) before made depth none =
    let a = none_open region depth before made (until_exit events 0) (open_from events (before + 1) made (depth + 1)) none in
    ap (λ o. open_of region depth before made o ++ open_from (events ++ Exit ∷ []) (before + 1) made (depth + 1)) (kept_exit events (Exit ∷ []) a.0 0 a.1)
    ∙ idle_open events (before + 1) made (depth + 1) a.2
idle_open (Exit ∷ events) before made depth none = idle_open events (before + 1) made (depth - 1) none

pub idle_closed : (events : List Event) (before made depth : ℕ) → open_from events before made depth ≡ []
    → closed_from (events ++ Exit ∷ []) before made depth ≡ closed_from events before made depth
idle_closed [] before made depth none = refl
idle_closed (Op class latency sources place ∷ events) before made depth none = idle_closed events (before + 1) (made + 1) depth none
idle_closed (Enter region ∷ events) before made depth none =
    let a = none_open region depth before made (until_exit events 0) (open_from events (before + 1) made (depth + 1)) none in
    ap (λ o. instance_of region depth before made o ++ closed_from (events ++ Exit ∷ []) (before + 1) made (depth + 1))
    (kept_exit events (Exit ∷ []) a.0 0 a.1 ∙ sym a.1)
    ∙ ap (λ l. instance_of region depth before made (until_exit events 0) ++ l) (idle_closed events (before + 1) made (depth + 1) a.2)
idle_closed (Exit ∷ events) before made depth none = idle_closed events (before + 1) made (depth - 1) none

-- no Exit within balanced events leaves an instance around them
pub none_within_balanced : (inside tail : List Event) (within : ℕ) → Balanced inside → until_exit tail within ≡ None
    → until_exit (inside ++ tail) within ≡ None
none_within_balanced _ tail within nothing h = h
none_within_balanced _ tail within (operation class latency sources place events balanced) h =
    ap (λ o. option_map (λ es. Op class latency sources place ∷ es) o) (none_within_balanced events tail within balanced h)
none_within_balanced _ tail within (instance region inside events inner balanced) h =
    let later : until_exit (Exit ∷ (events ++ tail)) (suc within) ≡ None =
    ap (λ o. option_map (λ es. Exit ∷ es) o) (none_within_balanced events tail within balanced h) in
    let whole : until_exit (inside ++ (Exit ∷ (events ++ tail))) (suc within) ≡ None = none_within_balanced inside (Exit ∷ (events ++ tail)) (suc within) inner later in
    ap (λ es. option_map (λ rest. Enter region ∷ rest) (until_exit es (suc within))) (append_assoc inside (Exit ∷ events) tail)
    ∙ ap (λ o. option_map (λ es. Enter region ∷ es) o) whole

-- events that leave nothing open that they enter are balanced but for Exits
abbrev Settled : ℕ → List Event → Type 0
Settled within events = (j : ℕ) × (j ≤ within) × Nested j events

settled_enter : (j within region : ℕ) (events inside : List Event) → until_exit events 0 ≡ Some inside → j ≤ suc within → Nested j events
    → Settled within (Enter region ∷ events)
settled_enter zero within region events inside found low nested =
    let none : until_exit (events ++ []) 0 ≡ None = none_within_balanced events [] 0 (balanced_of events nested) refl in
    let same : until_exit events 0 ≡ None = ap (λ es. until_exit es 0) (sym (append-nil events)) ∙ none in
    cc
settled_enter (suc j) within region events inside found low nested = (j, omega arith, entered_before j region events nested)

settled : (events : List Event) (within before made depth : ℕ) → until_exit events within ≡ None → open_from events before made depth ≡ []
    → Settled within events
settled [] within before made depth left none = (0, omega arith, matching.last [] nothing)
settled (Op class latency sources place ∷ events) within before made depth left none =
    let rest = settled events within (before + 1) (made + 1) depth (unmapped (λ es. Op class latency sources place ∷ es) (until_exit events within) left) none in
    (rest.0, rest.1, operation_before class latency sources place rest.0 events rest.2)
settled (Enter region ∷ events) within before made depth left none =
    let a = none_open region depth before made (until_exit events 0) (open_from events (before + 1) made (depth + 1)) none in
    let rest = settled events (suc within) (before + 1) made (depth + 1) (unmapped (λ es. Enter region ∷ es) (until_exit events (suc within)) left) a.2 in
    settled_enter rest.0 within region events a.0 a.1 rest.1 rest.2
settled (Exit ∷ events) zero before made depth left none = cc
settled (Exit ∷ events) (suc within) before made depth left none =
    let rest = settled events within (before + 1) made (depth - 1) (unmapped (λ es. Exit ∷ es) (until_exit events within) left) none in
    (suc rest.0, omega (arith, rest.1), matching.more rest.0 [] events nothing rest.2)

pub balanced_rest : (events : List Event) (before made depth : ℕ) → until_exit events 0 ≡ None → open_from events before made depth ≡ [] → Balanced events
balanced_rest events before made depth left none =
    let rest = settled events 0 before made depth left none in
    let no_exit : rest.0 ≡ 0 = omega (arith, rest.1) in
    balanced_of events (subst (λ n. Nested n events) no_exit rest.2)

-- the last of the open instances is the one at the head, or stands behind it
pub last_of : {R : Type 0} (region depth enter start : ℕ) (found : Option (List Event)) (list outer : List Open) (o : Open)
    → open_of region depth enter start found ++ list ≡ outer ++ o ∷ []
    → ((inside : List Event) → found ≡ Some inside → list ≡ outer ++ o ∷ [] → R)
    → (found ≡ None → outer ≡ [] → list ≡ [] → record { region = region; depth = depth; enter = enter; start = start } ≡ o → R)
    → ((rest : List Open) → found ≡ None → record { region = region; depth = depth; enter = enter; start = start } ∷ rest ≡ outer
    → list ≡ rest ++ o ∷ [] → R)
    → R
last_of region depth enter start (Some inside) list outer o h left last further = left inside refl h
last_of region depth enter start None list [] o h left last further =
    let none : list ≡ [] = cc in
    let same : record { region = region; depth = depth; enter = enter; start = start } ≡ o = cc in
    last refl refl none same
last_of region depth enter start None list (x ∷ outer) o h left last further =
    let same : record { region = region; depth = depth; enter = enter; start = start } ≡ x = cc in
    let rest : list ≡ outer ++ o ∷ [] = cc in
    further outer refl (ap (λ (y : Open). y ∷ outer) same) rest

-- an Exit that leaves an instance within is not the one of an instance around it
pub stays_open : (events : List Event) (within before made depth : ℕ) (outer : List Open) (o : Open) → until_exit events within ≡ None
    → open_from events before made depth ≡ outer ++ o ∷ [] → until_exit (events ++ Exit ∷ []) within ≡ None
stays_open [] within before made depth outer o left are = absurd (no_last outer o are)
stays_open (Op class latency sources place ∷ events) within before made depth outer o left are =
    ap (λ f. option_map (λ es. Op class latency sources place ∷ es) f)
    (stays_open events within (before + 1) (made + 1) depth outer o (unmapped (λ es. Op class latency sources place ∷ es) (until_exit events within) left) are)
stays_open (Enter region ∷ events) within before made depth outer o left are =
    let none : until_exit events (suc within) ≡ None = unmapped (λ es. Enter region ∷ es) (until_exit events (suc within)) left in
    let rest : until_exit (events ++ Exit ∷ []) (suc within) ≡ None =
    last_of region depth before made (until_exit events 0) (open_from events (before + 1) made (depth + 1)) outer o are
    (λ inside found there. stays_open events (suc within) (before + 1) made (depth + 1) outer o none there)
    (λ found empty settled is. none_within_balanced events (Exit ∷ []) (suc within) (balanced_rest events (before + 1) made (depth + 1) found settled) refl)
    (λ later found is there. stays_open events (suc within) (before + 1) made (depth + 1) later o none there) in
    ap (λ f. option_map (λ es. Enter region ∷ es) f) rest
stays_open (Exit ∷ events) zero before made depth outer o left are = cc
stays_open (Exit ∷ events) (suc within) before made depth outer o left are =
    ap (λ f. option_map (λ es. Exit ∷ es) f)
    (stays_open events within (before + 1) made (depth - 1) outer o (unmapped (λ es. Exit ∷ es) (until_exit events within) left) are)

-- an Exit behind balanced events is that of the instance around them
pub exit_behind : (events : List Event) (before made depth : ℕ) → until_exit events 0 ≡ None → open_from events before made depth ≡ []
    → until_exit (events ++ Exit ∷ []) 0 ≡ Some events
exit_behind events before made depth found none =
    balanced_to_exit (events ++ Exit ∷ []) events (balanced_rest events before made depth found none, ([], refl))

-- the instance that was entered last is left
pub exit_open : (events : List Event) (before made depth : ℕ) (outer : List Open) (o : Open) → open_from events before made depth ≡ outer ++ o ∷ []
    → open_from (events ++ Exit ∷ []) before made depth ≡ outer
exit_open [] before made depth outer o are = absurd (no_last outer o are)
exit_open (Op class latency sources place ∷ events) before made depth outer o are = exit_open events (before + 1) (made + 1) depth outer o are
exit_open (Enter region ∷ events) before made depth outer o are =
    last_of region depth before made (until_exit events 0) (open_from events (before + 1) made (depth + 1)) outer o are
    (λ inside found there. with_exit (Some inside) (kept_exit events (Exit ∷ []) inside 0 found) ∙ exit_open events (before + 1) made (depth + 1) outer o there)
    (λ found empty settled is.
    with_exit (Some events) (exit_behind events (before + 1) made (depth + 1) found settled)
    ∙ (idle_open events (before + 1) made (depth + 1) settled ∙ sym empty))
    (λ later found is there.
    with_exit None (stays_open events 0 (before + 1) made (depth + 1) later o found there)
    ∙ (ap (λ l. record { region = region; depth = depth; enter = before; start = made } ∷ l) (exit_open events (before + 1) made (depth + 1) later o there) ∙ is))
  where
    with_exit : (found : Option (List Event)) → until_exit (events ++ Exit ∷ []) 0 ≡ found
        → open_from (Enter region ∷ (events ++ Exit ∷ [])) before made depth
        ≡ open_of region depth before made found ++ open_from (events ++ Exit ∷ []) (before + 1) made (depth + 1)
    with_exit found is = ap (λ f. open_of region depth before made f ++ open_from (events ++ Exit ∷ []) (before + 1) made (depth + 1)) is
exit_open (Exit ∷ events) before made depth outer o are = exit_open events (before + 1) made (depth - 1) outer o are

-- balanced events leave nothing open
pub none_open_balanced : (events rest : List Event) (before made depth : ℕ) → Balanced events
    → ((before made depth : ℕ) → open_from rest before made depth ≡ []) → open_from (events ++ rest) before made depth ≡ []
none_open_balanced _ rest before made depth nothing none = none before made depth
none_open_balanced _ rest before made depth (operation class latency sources place events balanced) none =
    none_open_balanced events rest (before + 1) (made + 1) depth balanced none
none_open_balanced _ rest before made depth (instance region inside events within balanced) none =
    let shape : (inside ++ Exit ∷ events) ++ rest ≡ inside ++ Exit ∷ (events ++ rest) = append_assoc inside (Exit ∷ events) rest in
    let left : until_exit (inside ++ Exit ∷ (events ++ rest)) 0 ≡ Some inside =
    balanced_to_exit (inside ++ Exit ∷ (events ++ rest)) inside (within, (events ++ rest, refl)) in
    ap (λ l. open_of region depth before made (until_exit l 0) ++ open_from l (before + 1) made (depth + 1)) shape
    ∙ (ap (λ f. open_of region depth before made f ++ open_from (inside ++ Exit ∷ (events ++ rest)) (before + 1) made (depth + 1)) left
    ∙ none_open_balanced inside (Exit ∷ (events ++ rest)) (before + 1) made (depth + 1) within
    (λ b m d. none_open_balanced events rest (b + 1) m (d - 1) balanced none))

pub balanced_leave_nothing_open : (events : List Event) → Balanced events → open_after events ≡ []
balanced_leave_nothing_open events balanced =
    ap (λ es. open_after es) (sym (append-nil events)) ∙ none_open_balanced events [] 0 0 0 balanced (λ before made depth. refl)

-- the three events at the end of a run's events so far
pub operations_keep : OperationsKeepInstances
operations_keep events class latency sources place =
    let event : Event = Op class latency sources place in (
      quiet_open event (λ within. refl) events 0 0 0 (length events) (length (operations events)) (count_after events 0) (omega arith) (omega arith) refl
          ∙ append-nil (open_after events),
      λ depth. ap (λ l. filter (λ i. nat_lt i.depth depth) l) (quiet_closed event (λ within. refl) (λ before made deep. refl) events 0 0 0),
    )

pub enters_open : EntersOpenInstances
enters_open events region =
    let counts : count_after events 0 ≡ (0 - leaving events) + length (open_after events) = counted events 0 0 0 0 in
    let deep : length (open_after events) ≡ count_after events 0 = omega arith in (
      quiet_open (Enter region) (λ within. refl) events 0 0 0 (length events) (length (operations events)) (length (open_after events)) (omega arith) (omega arith) deep,
      λ depth. ap (λ l. filter (λ i. nat_lt i.depth depth) l) (quiet_closed (Enter region) (λ within. refl) (λ before made deep. refl) events 0 0 0),
    )

pub idle_exits_keep : IdleExitsKeepInstances
idle_exits_keep events none =
    (idle_open events 0 0 0 none, λ depth. ap (λ l. filter (λ i. nat_lt i.depth depth) l) (idle_closed events 0 0 0 none))
