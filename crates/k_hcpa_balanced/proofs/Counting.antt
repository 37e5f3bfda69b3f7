-- Events by how many instances are open: what stays open, what is entered, and how many instances there are.
use Rattle.std.proofs.Common.{◌≡◌, ℕ, zero, suc, ◌+◌, ◌-◌, ◌≤◌, Bool, true, false, List, [], ◌∷◌, ◌++◌, length, Option, Some, None, option_map, refl, sym, ap, ◌∙◌, subst, arith, length-append}
use Rattle.std.specs.Prelude.{filter, nat_lt, replicate, if◌then◌else◌}
use Rattle.k_optab.specs.declared.closed.Closed.{Closed}
use Rattle.k_optab.specs.declared.event.Event.{Event}
use Rattle.k_optab.specs.declared.event.Event.TheVariants.{Op, Enter, Exit}
use Rattle.k_optab.specs.Entered.{EnterBelow}
use Rattle.k_optab.specs.Instances.{Balanced, closed_from, instance_of, tracked, until_exit}
use Rattle.k_optab.specs.Open.{open_after, open_from}
use Rattle.k_optab.proofs.Opening.{balanced_rest, count_after, counted}

-- no Exit leaves more than what these events enter, and so many instances that were open before
abbrev pub Stays : ℕ → List Event → Type 0
Stays n [] = Unit {0}
Stays n (Op class latency sources place ∷ events) = Stays n events
Stays n (Enter region ∷ events) = Stays (n + 1) events
Stays n (Exit ∷ events) = (1 ≤ n) × Stays (n - 1) events

pub stays_append : (xs ys : List Event) (n : ℕ) → Stays n xs → Stays (count_after xs n) ys → Stays n (xs ++ ys)
stays_append [] ys n stays more = more
stays_append (Op class latency sources place ∷ xs) ys n stays more = stays_append xs ys n stays more
stays_append (Enter region ∷ xs) ys n stays more = stays_append xs ys (n + 1) stays more
stays_append (Exit ∷ xs) ys n stays more = (stays.0, stays_append xs ys (n - 1) stays.1 more)

pub count_append : (xs ys : List Event) (n : ℕ) → count_after (xs ++ ys) n ≡ count_after ys (count_after xs n)
count_append [] ys n = refl
count_append (Op class latency sources place ∷ xs) ys n = count_append xs ys n
count_append (Enter region ∷ xs) ys n = count_append xs ys (n + 1)
count_append (Exit ∷ xs) ys n = count_append xs ys (n - 1)

-- an instance more that is open before stays open
pub count_more : (xs : List Event) (n : ℕ) → Stays n xs → count_after xs (n + 1) ≡ count_after xs n + 1
count_more [] n stays = refl
count_more (Op class latency sources place ∷ xs) n stays = count_more xs n stays
count_more (Enter region ∷ xs) n stays = count_more xs (n + 1) stays
count_more (Exit ∷ xs) n stays =
    let some : 1 ≤ n = stays.0 in
    let same : n + 1 - 1 ≡ n - 1 + 1 = omega arith in
    ap (count_after xs) same ∙ count_more xs (n - 1) stays.1

-- nothing that was open before is left
pub stays_open : (xs : List Event) (n : ℕ) → Stays n xs → until_exit xs n ≡ None
stays_open [] n stays = refl
stays_open (Op class latency sources place ∷ xs) n stays = ap (option_map (λ es. Op class latency sources place ∷ es)) (stays_open xs n stays)
stays_open (Enter region ∷ xs) n stays =
    let same : n + 1 ≡ suc n = omega arith in
    ap (option_map (λ es. Enter region ∷ es)) (stays_open xs (suc n) (subst (λ m. Stays m xs) same stays))
stays_open (Exit ∷ xs) zero stays = absurd (omega (arith, stays.0))
stays_open (Exit ∷ xs) (suc n) stays =
    let same : suc n - 1 ≡ n = omega arith in
    ap (option_map (λ es. Exit ∷ es)) (stays_open xs n (subst (λ m. Stays m xs) same stays.1))

pub stays_exits : (k n : ℕ) → k ≤ n → Stays n (replicate k Exit)
stays_exits zero n low = tt
stays_exits (suc k) n low = (omega arith, stays_exits k (n - 1) (omega arith))

pub count_exits : (k n : ℕ) → count_after (replicate k Exit) n ≡ n - k
count_exits zero n = omega arith
count_exits (suc k) n = (let rest = count_exits k (n - 1) in omega (arith, rest))

-- how many instances are open behind events
pub count_open : (events : List Event) → count_after events 0 ≡ length (open_after events)
count_open events = (let all = counted events 0 0 0 0 in omega (arith, all))

none_open : {X : Type 0} (xs : List X) → length xs ≡ 0 → xs ≡ []
none_open [] none = refl
none_open (x ∷ xs) none = absurd (omega arith)

-- where nothing is open behind events that leave no more than they enter, they are balanced
pub stays_balanced : (events : List Event) → Stays 0 events → count_after events 0 ≡ 0 → Balanced events
stays_balanced events stays none =
    balanced_rest events 0 0 0 (stays_open events 0 stays) (none_open (open_from events 0 0 0) (sym (count_open events) ∙ none))

-- how many instances are entered
abbrev pub entries : List Event → ℕ
entries [] = 0
entries (Op class latency sources place ∷ events) = entries events
entries (Enter region ∷ events) = entries events + 1
entries (Exit ∷ events) = entries events

pub entries_append : (xs ys : List Event) → entries (xs ++ ys) ≡ entries xs + entries ys
entries_append [] ys = omega arith
entries_append (Op class latency sources place ∷ xs) ys = entries_append xs ys
entries_append (Enter region ∷ xs) ys = (let rest = entries_append xs ys in omega (arith, rest))
entries_append (Exit ∷ xs) ys = entries_append xs ys

pub entries_exits : (k : ℕ) → entries (replicate k Exit) ≡ 0
entries_exits zero = refl
entries_exits (suc k) = entries_exits k

pub below_append : (count : ℕ) (xs ys : List Event) → EnterBelow count xs → EnterBelow count ys → EnterBelow count (xs ++ ys)
below_append count [] ys one two = two
below_append count (Op class latency sources place ∷ xs) ys one two = below_append count xs ys one two
below_append count (Enter region ∷ xs) ys one two = (one.0, below_append count xs ys one.1 two)
below_append count (Exit ∷ xs) ys one two = below_append count xs ys one two

pub below_exits : (count k : ℕ) → EnterBelow count (replicate k Exit)
below_exits count zero = tt
below_exits count (suc k) = below_exits count k

one_closed : (region depth enter start : ℕ) (found : Option (List Event)) → length (instance_of region depth enter start found) ≤ 1
one_closed region depth enter start None = omega arith
one_closed region depth enter start (Some inside) = omega arith

-- no more instances are closed than were entered
closed_few : (events : List Event) (before made depth : ℕ) → length (closed_from events before made depth) ≤ entries events
closed_few [] before made depth = omega arith
closed_few (Op class latency sources place ∷ events) before made depth = closed_few events (before + 1) (made + 1) depth
closed_few (Enter region ∷ events) before made depth =
    let rest = closed_few events (before + 1) made (depth + 1) in
    let one = one_closed region depth before made (until_exit events 0) in
    let all = length-append (instance_of region depth before made (until_exit events 0)) (closed_from events (before + 1) made (depth + 1)) in
    omega (arith, rest, one, all)
closed_few (Exit ∷ events) before made depth = closed_few events (before + 1) made (depth - 1)

kept_few : (limit : ℕ) (list : List Closed) → length (filter (λ i. nat_lt i.depth limit) list) ≤ length list
kept_few limit [] = omega arith
kept_few limit (i ∷ list) = by (nat_lt i.depth limit) (kept_few limit list)
  where
    by : (b : Bool) → length (filter (λ j. nat_lt j.depth limit) list) ≤ length list
        → length (if b then i ∷ filter (λ j. nat_lt j.depth limit) list else filter (λ j. nat_lt j.depth limit) list) ≤ length (i ∷ list)
    by true few = omega (arith, few)
    by false few = omega (arith, few)

pub tracked_few : (depth : ℕ) (events : List Event) → length (tracked depth events) ≤ entries events
tracked_few depth events =
    let kept = kept_few depth (closed_from events 0 0 0) in
    let closed = closed_few events 0 0 0 in
    omega (arith, kept, closed)
