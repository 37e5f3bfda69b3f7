-- An Exit puts the instance that it leaves before those within it.
use Rattle.std.proofs.Common.{◌≡◌, ℕ, zero, suc, ◌+◌, ◌-◌, ◌<◌, ◌≤◌, List, [], ◌∷◌, ◌++◌, length, Bool, Option, Some, None, refl, sym, ◌∙◌, subst, ap, arith, lt-ltb, le-ltb}
use Rattle.std.specs.Prelude.{All, AllPairs, filter, nat_lt}
use Rattle.std.proofs.lemmas.Bool.{cond-true, cond-false}
use Rattle.std.proofs.lemmas.List.Elements.{All-cons, All-nil, All-filter, All-weaker, filter-append}
use Rattle.std.proofs.lemmas.List.Kept.{AllPairs-cons}
use Rattle.k_optab.specs.declared.closed.Closed.{Closed}
use Rattle.k_optab.specs.declared.event.Event.{Event}
use Rattle.k_optab.specs.declared.event.Event.TheVariants.{Op, Enter, Exit}
use Rattle.k_optab.specs.Events.{operations}
use Rattle.k_optab.specs.Instances.{closed_from, instance_of, tracked, until_exit}
use Rattle.k_optab.specs.Open.{Open, left_at, open_after, open_from, open_of}
use Rattle.k_optab.specs.OpenLaws.{Closes, IsAround, IsPutIn}
use Rattle.k_optab.proofs.Crossing.{all_with_instance, entered_from}
use Rattle.k_optab.proofs.Matching.{mapped}
use Rattle.k_optab.proofs.Opening.{exit_behind, exit_open, found_leaving, idle_closed, kept_exit, last_of, leaving, no_last, none_leaving, stays_open, unmapped}

-- the last open instance is entered from a place on
last_from : (events : List Event) (low before made depth : ℕ) (outer : List Open) (o : Open) → low ≤ before
    → open_from events before made depth ≡ outer ++ o ∷ [] → low ≤ o.enter
last_from [] low before made depth outer o from are = absurd (no_last outer o are)
last_from (Op class latency sources place ∷ events) low before made depth outer o from are =
    last_from events low (before + 1) (made + 1) depth outer o (omega arith) are
last_from (Enter region ∷ events) low before made depth outer o from are =
    last_of region depth before made (until_exit events 0) (open_from events (before + 1) made (depth + 1)) outer o are
    (λ inside found there. last_from events low (before + 1) made (depth + 1) outer o (omega arith) there)
    (λ found empty settled is. let its : before ≡ o.enter = ap (λ (x : Open). x.enter) is in omega arith)
    (λ later found is there. last_from events low (before + 1) made (depth + 1) later o (omega arith) there)
last_from (Exit ∷ events) low before made depth outer o from are = last_from events low (before + 1) made (depth - 1) outer o (omega arith) are

-- it is entered behind the Exit of an instance around these events
last_behind : (events : List Event) (within before made depth : ℕ) (inside : List Event) (outer : List Open) (o : Open) → until_exit events within ≡ Some inside
    → open_from events before made depth ≡ outer ++ o ∷ [] → before + length inside < o.enter
last_behind [] within before made depth inside outer o left are = absurd (no_last outer o are)
last_behind (Op class latency sources place ∷ events) within before made depth inside outer o left are =
    let a = mapped (λ es. Op class latency sources place ∷ es) (until_exit events within) inside left in
    let size : suc (length a.0) ≡ length inside = ap length a.2 in
    let rest : before + 1 + length a.0 < o.enter = last_behind events within (before + 1) (made + 1) depth a.0 outer o a.1 are in
    omega arith
last_behind (Enter region ∷ events) within before made depth inside outer o left are =
    let a = mapped (λ es. Enter region ∷ es) (until_exit events (suc within)) inside left in
    let size : suc (length a.0) ≡ length inside = ap length a.2 in
    let many : suc within < leaving events = found_leaving events a.0 (suc within) a.1 in
    last_of region depth before made (until_exit events 0) (open_from events (before + 1) made (depth + 1)) outer o are
    (λ first found there.
    let rest : before + 1 + length a.0 < o.enter = last_behind events (suc within) (before + 1) made (depth + 1) a.0 outer o a.1 there in omega arith)
    (λ found empty settled is. absurd (omega (arith, many, none_leaving events 0 found)))
    (λ later found is there. absurd (omega (arith, many, none_leaving events 0 found)))
last_behind (Exit ∷ events) zero before made depth inside outer o left are =
    let none : [] ≡ inside = cc in
    let size : 0 ≡ length inside = ap length none in
    let from : before + 1 ≤ o.enter = last_from events (before + 1) (before + 1) made (depth - 1) outer o (omega arith) are in
    omega arith
last_behind (Exit ∷ events) (suc within) before made depth inside outer o left are =
    let a = mapped (λ es. Exit ∷ es) (until_exit events within) inside left in
    let size : suc (length a.0) ≡ length inside = ap length a.2 in
    let rest : before + 1 + length a.0 < o.enter = last_behind events within (before + 1) made (depth - 1) a.0 outer o a.1 are in
    omega arith

-- what is closed where an instance around it is open lies deeper
deeper : (events : List Event) (within low before made depth : ℕ) → until_exit events within ≡ None → low + within ≤ depth
    → All (λ i. low ≤ i.depth) (closed_from events before made depth)
deeper [] within low before made depth left from = All-nil (λ (i : Closed). low ≤ i.depth)
deeper (Op class latency sources place ∷ events) within low before made depth left from =
    deeper events within low (before + 1) (made + 1) depth (unmapped (λ es. Op class latency sources place ∷ es) (until_exit events within) left) from
deeper (Enter region ∷ events) within low before made depth left from =
    all_with_instance (λ i. low ≤ i.depth) region depth before made (until_exit events 0) (closed_from events (before + 1) made (depth + 1))
    (λ inside is. omega arith)
    (deeper events (suc within) low (before + 1) made (depth + 1) (unmapped (λ es. Enter region ∷ es) (until_exit events (suc within)) left) (omega arith))
deeper (Exit ∷ events) zero low before made depth left from = cc
deeper (Exit ∷ events) (suc within) low before made depth left from =
    deeper events within low (before + 1) made (depth - 1) (unmapped (λ es. Exit ∷ es) (until_exit events within) left) (omega arith)

-- a list, and the list with this instance put in
pub record Splits (list now : List Closed) (i : Closed) : Type 0 where
  pub before : List Closed
  pub inside : List Closed
  pub so_far : list ≡ before ++ inside
  pub after : now ≡ before ++ i ∷ inside
  pub put_in : IsPutIn before inside i

-- behind instances that are left before it was entered
splits_with : (region depth enter start : ℕ) (found : List Event) (list now : List Closed) (i : Closed) → enter + 1 + length found < i.enter → Splits list now i
    → Splits (instance_of region depth enter start (Some found) ++ list) (instance_of region depth enter start (Some found) ++ now) i
splits_with region depth enter start found list now i sooner splits =
    let first : Closed = record { region = region; depth = depth; enter = enter; exit = enter + 1 + length found; start = start; end = start + length (operations found) } in
    record {
      before = first ∷ splits.before;
      inside = splits.inside;
      so_far = ap (λ l. first ∷ l) splits.so_far;
      after = ap (λ l. first ∷ l) splits.after;
      put_in = record {
        earlier = All-cons (λ j. j.exit < i.enter) first splits.before sooner splits.put_in.earlier;
        within = splits.put_in.within;
        deeper = splits.put_in.deeper;
      };
    }

-- and at the head of those that are entered behind it
splits_here : (region depth enter start exit end : ℕ) (inside : List Event) (list now : List Closed) (o : Open) → exit ≡ enter + 1 + length inside
    → end ≡ start + length (operations inside) → record { region = region; depth = depth; enter = enter; start = start } ≡ o → now ≡ list
    → All (λ j. enter + 1 ≤ j.enter) list → All (λ j. depth + 1 ≤ j.depth) list
    → Splits list (instance_of region depth enter start (Some inside) ++ now) (left_at exit end o)
splits_here region depth enter start exit end inside list now o at count is same later lower =
    let this : Open = record { region = region; depth = depth; enter = enter; start = start } in
    let P : Open → Type 0 = λ x. Splits list (instance_of region depth enter start (Some inside) ++ now) (left_at exit end x) in
    subst P is (record {
      before = [];
      inside = list;
      so_far = refl;
      after =
          ap (λ n. left_at n (start + length (operations inside)) this ∷ now) (sym at)
          ∙ (ap (λ n. left_at exit n this ∷ now) (sym count) ∙ ap (λ l. left_at exit end this ∷ l) same);
      put_in = record {
        earlier = All-nil (λ (j : Closed). j.exit < enter);
        within = All-weaker (λ (j : Closed). enter + 1 ≤ j.enter) (λ j. enter < j.enter) (λ j less. omega arith) list later;
        deeper = All-weaker (λ (j : Closed). depth + 1 ≤ j.depth) (λ j. depth < j.depth) (λ j less. omega arith) list lower;
      };
    })

-- the same for what the events have at that place
shown : (region depth enter start : ℕ) (f f' g g' : Option (List Event)) (list now : List Closed) (i : Closed) → f' ≡ f → g' ≡ g
    → Splits (instance_of region depth enter start f ++ list) (instance_of region depth enter start g ++ now) i
    → Splits (instance_of region depth enter start f' ++ list) (instance_of region depth enter start g' ++ now) i
shown region depth enter start f f' g g' list now i p q splits =
    subst (λ x. Splits (instance_of region depth enter start x ++ list) (instance_of region depth enter start g' ++ now) i) (sym p)
    (subst (λ x. Splits (instance_of region depth enter start f ++ list) (instance_of region depth enter start x ++ now) i) (sym q) splits)

exit_closes : (events : List Event) (before made depth exit end : ℕ) (outer : List Open) (o : Open) → exit ≡ before + length events
    → end ≡ made + length (operations events) → open_from events before made depth ≡ outer ++ o ∷ []
    → Splits (closed_from events before made depth) (closed_from (events ++ Exit ∷ []) before made depth) (left_at exit end o)
exit_closes [] before made depth exit end outer o at count are = absurd (no_last outer o are)
exit_closes (Op class latency sources place ∷ events) before made depth exit end outer o at count are =
    exit_closes events (before + 1) (made + 1) depth exit end outer o (omega arith) (omega arith) are
exit_closes (Enter region ∷ events) before made depth exit end outer o at count are =
    let list = closed_from events (before + 1) made (depth + 1) in
    let now = closed_from (events ++ Exit ∷ []) (before + 1) made (depth + 1) in
    let behind : exit ≡ before + 1 + length events = omega arith in
    last_of region depth before made (until_exit events 0) (open_from events (before + 1) made (depth + 1)) outer o are
    (λ inside found there.
    shown region depth before made (Some inside) (until_exit events 0) (Some inside) (until_exit (events ++ Exit ∷ []) 0) list now (left_at exit end o) found
    (kept_exit events (Exit ∷ []) inside 0 found)
    (splits_with region depth before made inside list now (left_at exit end o)
    (last_behind events 0 (before + 1) made (depth + 1) inside outer o found there)
    (exit_closes events (before + 1) made (depth + 1) exit end outer o behind count there)))
    (λ found empty settled is.
    shown region depth before made None (until_exit events 0) (Some events) (until_exit (events ++ Exit ∷ []) 0) list now (left_at exit end o) found
    (exit_behind events (before + 1) made (depth + 1) found settled)
    (splits_here region depth before made exit end events list now o behind count is (idle_closed events (before + 1) made (depth + 1) settled)
    (entered_from events (before + 1) (before + 1) made (depth + 1) (omega arith))
    (deeper events 0 (depth + 1) (before + 1) made (depth + 1) found (omega arith))))
    (λ later found is there.
    shown region depth before made None (until_exit events 0) None (until_exit (events ++ Exit ∷ []) 0) list now (left_at exit end o) found
    (stays_open events 0 (before + 1) made (depth + 1) later o found there)
    (exit_closes events (before + 1) made (depth + 1) exit end later o behind count there))
exit_closes (Exit ∷ events) before made depth exit end outer o at count are =
    exit_closes events (before + 1) made (depth - 1) exit end outer o (omega arith) count are

-- of the tracked instances
closes_tracked : (depth : ℕ) (events : List Event) (i : Closed) → Splits (closed_from events 0 0 0) (closed_from (events ++ Exit ∷ []) 0 0 0) i → Closes depth events i
closes_tracked depth events i splits =
    let test : Closed → Bool = λ j. nat_lt j.depth depth in
    let whole : tracked depth (events ++ Exit ∷ []) ≡ filter test splits.before ++ filter test (i ∷ splits.inside) =
    ap (λ l. filter test l) splits.after ∙ filter-append test splits.before (i ∷ splits.inside) in
    let old : tracked depth events ≡ filter test splits.before ++ filter test splits.inside =
    ap (λ l. filter test l) splits.so_far ∙ filter-append test splits.before splits.inside in
    record {
      before = filter test splits.before;
      inside = filter test splits.inside;
      so_far = old;
      put_in = record {
        earlier = All-filter test (λ j. j.exit < i.enter) splits.before splits.put_in.earlier;
        within = All-filter test (λ j. i.enter < j.enter) splits.inside splits.put_in.within;
        deeper = All-filter test (λ j. i.depth < j.depth) splits.inside splits.put_in.deeper;
      };
      shallow = λ low.
          whole ∙ ap (λ l. filter test splits.before ++ l)
          (cond-true (test i) (i ∷ filter test splits.inside) (filter test splits.inside) (lt-ltb i.depth depth low));
      deep = λ high.
          whole ∙ (ap (λ l. filter test splits.before ++ l)
          (cond-false (test i) (i ∷ filter test splits.inside) (filter test splits.inside) (le-ltb i.depth depth high)) ∙ sym old);
    }

pub exits_close_the_last : (events : List Event) (outer : List Open) (last : Open) → open_after events ≡ outer ++ last ∷ []
    → (open_after (events ++ Exit ∷ []) ≡ outer) × ((depth : ℕ) → Closes depth events (left_at (length events) (length (operations events)) last))
exits_close_the_last events outer last are = (
  exit_open events 0 0 0 outer last are,
  λ depth. closes_tracked depth events (left_at (length events) (length (operations events)) last)
      (exit_closes events 0 0 0 (length events) (length (operations events)) outer last (omega arith) (omega arith) are),
)

-- what holds of an open instance at the head, and of each behind it, holds of each
all_with_open : (P : Open → Type 0) (region depth enter start : ℕ) (found : Option (List Event)) (list : List Open)
    → P (record { region = region; depth = depth; enter = enter; start = start }) → All P list → All P (open_of region depth enter start found ++ list)
all_with_open P region depth enter start None list one all = All-cons P _ list one all
all_with_open P region depth enter start (Some inside) list one all = all

-- the open instances are entered from a place on, and start from a number on
pub began_from : (events : List Event) (place number before made depth : ℕ) → place ≤ before → number ≤ made
    → All (λ o. (place ≤ o.enter) × (number ≤ o.start)) (open_from events before made depth)
began_from [] place number before made depth from low = All-nil (λ (o : Open). (place ≤ o.enter) × (number ≤ o.start))
began_from (Op class latency sources here ∷ events) place number before made depth from low =
    began_from events place number (before + 1) (made + 1) depth (omega arith) (omega arith)
began_from (Enter region ∷ events) place number before made depth from low =
    all_with_open (λ o. (place ≤ o.enter) × (number ≤ o.start)) region depth before made (until_exit events 0)
    (open_from events (before + 1) made (depth + 1)) (from, low) (began_from events place number (before + 1) made (depth + 1) (omega arith) low)
began_from (Exit ∷ events) place number before made depth from low =
    began_from events place number (before + 1) made (depth - 1) (omega arith) low

-- and are entered among the events
began_among : (events : List Event) (before made depth after total : ℕ) → after ≡ before + length events → total ≡ made + length (operations events)
    → All (λ o. (o.enter < after) × (o.start ≤ total)) (open_from events before made depth)
began_among [] before made depth after total at count = All-nil (λ (o : Open). (o.enter < after) × (o.start ≤ total))
began_among (Op class latency sources place ∷ events) before made depth after total at count =
    began_among events (before + 1) (made + 1) depth after total (omega arith) (omega arith)
began_among (Enter region ∷ events) before made depth after total at count =
    all_with_open (λ o. (o.enter < after) × (o.start ≤ total)) region depth before made (until_exit events 0)
    (open_from events (before + 1) made (depth + 1)) (omega arith, omega arith)
    (began_among events (before + 1) made (depth + 1) after total (omega arith) count)
began_among (Exit ∷ events) before made depth after total at count =
    began_among events (before + 1) made (depth - 1) after total (omega arith) count

pub open_instances_began : (events : List Event) → All (λ o. (o.enter < length events) × (o.start ≤ length (operations events))) (open_after events)
open_instances_began events = began_among events 0 0 0 (length events) (length (operations events)) (omega arith) (omega arith)

nest_with : (region depth enter start : ℕ) (found : Option (List Event)) (list : List Open)
    → All (λ o. (enter + 1 ≤ o.enter) × (start ≤ o.start)) list → AllPairs IsAround list
    → AllPairs IsAround (open_of region depth enter start found ++ list)
nest_with region depth enter start None list later pairs =
    AllPairs-cons IsAround (record { region = region; depth = depth; enter = enter; start = start }) list
    (All-weaker (λ (o : Open). (enter + 1 ≤ o.enter) × (start ≤ o.start)) (IsAround (record { region = region; depth = depth; enter = enter; start = start }))
    (λ o is. record { entered = omega (arith, is.0); started = is.1 }) list later)
    pairs
nest_with region depth enter start (Some inside) list later pairs = pairs

nest : (events : List Event) (before made depth : ℕ) → AllPairs IsAround (open_from events before made depth)
nest [] before made depth = λ i j d less within. absurd (omega arith)
nest (Op class latency sources place ∷ events) before made depth = nest events (before + 1) (made + 1) depth
nest (Enter region ∷ events) before made depth =
    nest_with region depth before made (until_exit events 0) (open_from events (before + 1) made (depth + 1))
    (began_from events (before + 1) made (before + 1) made (depth + 1) (omega arith) (omega arith)) (nest events (before + 1) made (depth + 1))
nest (Exit ∷ events) before made depth = nest events (before + 1) made (depth - 1)

pub open_instances_nest : (events : List Event) → AllPairs IsAround (open_after events)
open_instances_nest events = nest events 0 0 0
