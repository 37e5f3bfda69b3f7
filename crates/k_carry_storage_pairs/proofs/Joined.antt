-- The storage pairs of loops, put together of those of both kinds.
use Rattle.std.proofs.Common.{ℕ, ◌≡◌, ◌⊎◌, nat_eq, nat_lt, Bool, true, false, List, [], ◌∷◌, ◌++◌, map, arith, refl, sym, subst, ap, inl, inr, ◌∙◌}
use Rattle.std.specs.Prelude.{if◌then◌else◌, Option}
use Rattle.std.proofs.lemmas.List.{append-nil}
use Rattle.k_optab.specs.declared.event.Event.{Event}
use Rattle.k_optab.specs.declared.region.Region.{Region}
use Rattle.k_optab.specs.Open.{Open}
use Rattle.k_carry_pairs.specs.declared.pairs.LoopPairs.{LoopPairs}
use Rattle.k_carry_pairs.specs.declared.pairs.Pair.{Pair}
use Rattle.k_carry_pairs.specs.Carried.{AllPass, AreCarried, AreSorted, IsAmong, IsLoopOf, IsPair, IsTracked, loop_before, pair_before}
use Rattle.k_carry_pairs.proofs.Lists.{among_either, among_left, among_right, passes}
use Rattle.k_carry_storage_pairs.specs.declared.access.Access.{Access}
use Rattle.k_carry_storage_pairs.specs.declared.pairs.LoopStorage.{LoopStorage}
use Rattle.k_carry_storage_pairs.specs.declared.pairs.Shared.{Shared}
use Rattle.k_carry_storage_pairs.specs.declared.pairs.Sharing.{Sharing}
use Rattle.k_carry_storage_pairs.specs.declared.pairs.Sharing.TheVariants as sharing
use Rattle.k_carry_storage_pairs.specs.Kept.{Relists, joined, one_joined, pairs_among}
use Rattle.k_carry_storage_pairs.specs.Storage.{AreShared, IsShared, IsStorageOf, as_shared, kind_behind, places_of, shared_before, storage_before}
use Rattle.k_carry_storage_pairs.proofs.Alike.{tracked_alike, tracked_as}
use Rattle.k_carry_storage_pairs.proofs.Relisted.{pair_shared, shared_pair}

pub among_map : {X Y : Type 0} (f : X → Y) (xs : List X) (y : Y) → IsAmong y (map f xs) → (x : X) × (IsAmong x xs × (f x ≡ y))
among_map f [] y is = absurd is
among_map f (x ∷ xs) y (inl here) = (x, (inl refl, here))
among_map f (x ∷ xs) y (inr later) = (let rest = among_map f xs y later in (rest.0, (inr rest.1.0, rest.1.1)))

pub map_among : {X Y : Type 0} (f : X → Y) (xs : List X) (x : X) → IsAmong x xs → IsAmong (f x) (map f xs)
map_among f [] x is = absurd is
map_among f (y ∷ xs) x (inl here) = inl (ap f here)
map_among f (y ∷ xs) x (inr later) = inr (map_among f xs x later)

-- pairs of one kind stand as pairs do
same_kind : (kind : Sharing) (a b : Pair) → pair_before a b ≡ true → shared_before (as_shared kind a) (as_shared kind b) ≡ true
same_kind sharing.Anti a b is = is
same_kind sharing.Output a b is = is

pass_kind : (kind : Sharing) (a : Pair) (pairs : List Pair) → AllPass (pair_before a) pairs → AllPass (shared_before (as_shared kind a)) (map (as_shared kind) pairs)
pass_kind kind a [] all = tt
pass_kind kind a (b ∷ pairs) all = (same_kind kind a b all.0, pass_kind kind a pairs all.1)

sorted_kind : (kind : Sharing) (pairs : List Pair) → AreSorted pair_before pairs → AreSorted shared_before (map (as_shared kind) pairs)
sorted_kind kind [] sorted = tt
sorted_kind kind (a ∷ pairs) sorted = (pass_kind kind a pairs sorted.0, sorted_kind kind pairs sorted.1)

pass_outputs : (a : Pair) (pairs : List Pair) → AllPass (shared_before (as_shared sharing.Anti a)) (map (as_shared sharing.Output) pairs)
pass_outputs a [] = tt
pass_outputs a (b ∷ pairs) = (refl, pass_outputs a pairs)

pass_both : (test : Shared → Bool) (xs ys : List Shared) → AllPass test xs → AllPass test ys → AllPass test (xs ++ ys)
pass_both test [] ys one two = two
pass_both test (x ∷ xs) ys one two = (one.0, pass_both test xs ys one.1 two)

sorted_both : (xs ys : List Pair) → AreSorted pair_before xs → AreSorted pair_before ys
    → AreSorted shared_before (map (as_shared sharing.Anti) xs ++ map (as_shared sharing.Output) ys)
sorted_both [] ys one two = sorted_kind sharing.Output ys two
sorted_both (x ∷ xs) ys one two = (
  pass_both (shared_before (as_shared sharing.Anti x)) (map (as_shared sharing.Anti) xs) (map (as_shared sharing.Output) ys)
      (pass_kind sharing.Anti x xs one.0) (pass_outputs x ys),
  sorted_both xs ys one.1 two,
)

-- of sorted loops one alone has a region
none_among : (kind : Sharing) (region : ℕ) (loops : List LoopPairs) → AllPass (λ (m : LoopPairs). nat_lt region m.region) loops → pairs_among kind region loops ≡ []
none_among kind region [] all = refl
none_among kind region (m ∷ loops) all =
    let test : nat_lt region m.region ≡ true = all.0 in
    let differs : nat_eq m.region region ≡ false = grind arith in
    ap (λ (b : Bool). (if b then map (as_shared kind) m.pairs else []) ++ pairs_among kind region loops) differs ∙ none_among kind region loops all.1

found_among : (kind : Sharing) (loops : List LoopPairs) (l : LoopPairs) → AreSorted loop_before loops → IsAmong l loops
    → pairs_among kind l.region loops ≡ map (as_shared kind) l.pairs
found_among kind [] l sorted is = absurd is
found_among kind (m ∷ loops) l sorted (inl here) =
    let itself : nat_eq m.region m.region ≡ true = grind arith in
    subst (λ (x : LoopPairs). pairs_among kind x.region (m ∷ loops) ≡ map (as_shared kind) x.pairs) here
    (ap (λ (b : Bool). (if b then map (as_shared kind) m.pairs else []) ++ pairs_among kind m.region loops) itself
    ∙ (ap (λ (rest : List Shared). map (as_shared kind) m.pairs ++ rest) (none_among kind m.region loops sorted.0) ∙ append-nil (map (as_shared kind) m.pairs)))
found_among kind (m ∷ loops) l sorted (inr later) =
    let test : nat_lt m.region l.region ≡ true = passes (loop_before m) loops l sorted.0 later in
    let differs : nat_eq m.region l.region ≡ false = grind arith in
    ap (λ (b : Bool). (if b then map (as_shared kind) m.pairs else []) ++ pairs_among kind l.region loops) differs ∙ found_among kind loops l sorted.1 later

among_joined : (stores loads : List LoopPairs) (l : LoopStorage) → IsAmong l (joined stores loads) → (m : LoopPairs) × (IsAmong m loads × (one_joined stores m ≡ l))
among_joined stores [] l is = absurd is
among_joined stores (m ∷ loads) l (inl here) = (m, (inl refl, here))
among_joined stores (m ∷ loads) l (inr later) = (let rest = among_joined stores loads l later in (rest.0, (inr rest.1.0, rest.1.1)))

joined_among : (stores loads : List LoopPairs) (m : LoopPairs) → IsAmong m loads → IsAmong (one_joined stores m) (joined stores loads)
joined_among stores [] m is = absurd is
joined_among stores (x ∷ loads) m (inl here) = inl (ap (one_joined stores) here)
joined_among stores (x ∷ loads) m (inr later) = inr (joined_among stores loads m later)

pass_joined : (stores : List LoopPairs) (x : LoopPairs) (loads : List LoopPairs) → AllPass (loop_before x) loads → AllPass (storage_before (one_joined stores x)) (joined stores loads)
pass_joined stores x [] all = tt
pass_joined stores x (m ∷ loads) all = (all.0, pass_joined stores x loads all.1)

joined_sorted : (stores loads : List LoopPairs) → AreSorted loop_before loads → AreSorted storage_before (joined stores loads)
joined_sorted stores [] sorted = tt
joined_sorted stores (x ∷ loads) sorted = (pass_joined stores x loads sorted.0, joined_sorted stores loads sorted.1)

module _ (regions : List Region) (depth : ℕ) (events : List Event) (accesses : List (Option Access)) (load_events store_events : List Event) (loads stores : List LoopPairs)
    (on_loads : Relists false depth events accesses load_events) (on_stores : Relists true depth events accesses store_events)
    (a : AreCarried regions depth load_events loads) (b : AreCarried regions depth store_events stores) where
  one_is : (m : LoopPairs) → IsAmong m loads → IsStorageOf regions depth events accesses (one_joined stores m)
  one_is m among = record {
    is_loop = of.is_loop;
    tracked = tracked;
    sorted = subst (λ (ps : List Shared). AreSorted shared_before ps) (sym pairs) (sorted_both m.pairs other.0.pairs of.sorted of_other.sorted);
    sound = λ s is. sound s (among_either s (map (as_shared sharing.Anti) m.pairs) (map (as_shared sharing.Output) other.0.pairs) (subst (λ (ps : List Shared). IsAmong s ps) pairs is));
    complete = λ s it. subst (λ (ps : List Shared). IsAmong s ps) (sym pairs) (complete s it it.2.writes refl);
  }
    where
      of : IsLoopOf regions depth load_events m
      of = a.sound m among

      tracked : (o : Open) × IsTracked depth events m.region o
      tracked = (of.tracked.0, tracked_as events load_events on_loads.alike depth m.region of.tracked.0 of.tracked.1)

      other : (l : LoopPairs) × IsAmong l stores × (l.region ≡ m.region)
      other = b.complete m.region of.is_loop (tracked.0, tracked_alike events store_events on_stores.alike depth m.region tracked.0 tracked.1)

      of_other : IsLoopOf regions depth store_events other.0
      of_other = b.sound other.0 other.1

      pairs : (one_joined stores m).pairs ≡ map (as_shared sharing.Anti) m.pairs ++ map (as_shared sharing.Output) other.0.pairs
      pairs =
          ap (λ (rest : List Shared). map (as_shared sharing.Anti) m.pairs ++ rest)
          (subst (λ (r : ℕ). pairs_among sharing.Output r stores ≡ map (as_shared sharing.Output) other.0.pairs) other.2
          (found_among sharing.Output stores other.0 b.sorted other.1))

      sound : (s : Shared) → IsAmong s (map (as_shared sharing.Anti) m.pairs) ⊎ IsAmong s (map (as_shared sharing.Output) other.0.pairs)
          → IsShared depth events accesses m.region s
      sound s (inl first) =
          let pair = among_map (as_shared sharing.Anti) m.pairs s first in
          subst (λ (x : Shared). IsShared depth events accesses m.region x) pair.1.1
          (pair_shared false depth events accesses load_events on_loads m.region pair.0 (of.sound pair.0 pair.1.0))
      sound s (inr second) =
          let pair = among_map (as_shared sharing.Output) other.0.pairs s second in
          subst (λ (x : Shared). IsShared depth events accesses m.region x) pair.1.1
          (pair_shared true depth events accesses store_events on_stores m.region pair.0
          (subst (λ (r : ℕ). IsPair depth store_events r pair.0) other.2 (of_other.sound pair.0 pair.1.0)))

      complete : (s : Shared) (it : IsShared depth events accesses m.region s) (w : Bool) → it.2.writes ≡ w
          → IsAmong s (map (as_shared sharing.Anti) m.pairs ++ map (as_shared sharing.Output) other.0.pairs)
      complete s it false way =
          let kind : sharing.Anti ≡ s.kind = ap kind_behind (sym way) ∙ it.2.kind in
          let found : IsAmong (places_of s) m.pairs =
          of.complete (places_of s) (shared_pair false depth events accesses load_events on_loads m.region s it way) in
          among_left s (map (as_shared sharing.Anti) m.pairs) (map (as_shared sharing.Output) other.0.pairs)
          (subst (λ (x : Shared). IsAmong x (map (as_shared sharing.Anti) m.pairs)) (λ i. record { kind = kind i; from = s.from; to = s.to })
          (map_among (as_shared sharing.Anti) m.pairs (places_of s) found))
      complete s it true way =
          let kind : sharing.Output ≡ s.kind = ap kind_behind (sym way) ∙ it.2.kind in
          let found : IsAmong (places_of s) other.0.pairs =
          of_other.complete (places_of s)
          (subst (λ (r : ℕ). IsPair depth store_events r (places_of s)) (sym other.2)
          (shared_pair true depth events accesses store_events on_stores m.region s it way)) in
          among_right s (map (as_shared sharing.Anti) m.pairs) (map (as_shared sharing.Output) other.0.pairs)
          (subst (λ (x : Shared). IsAmong x (map (as_shared sharing.Output) other.0.pairs)) (λ i. record { kind = kind i; from = s.from; to = s.to })
          (map_among (as_shared sharing.Output) other.0.pairs (places_of s) found))

  pub joined_are_shared : AreShared regions depth events accesses (joined stores loads)
  joined_are_shared = record {
    sorted = joined_sorted stores loads a.sorted;
    sound = λ l is.
        (let m = among_joined stores loads l is in subst (λ (x : LoopStorage). IsStorageOf regions depth events accesses x) m.1.1 (one_is m.0 m.1.0));
    complete = λ region looping tracked.
        (let m = a.complete region looping (tracked.0, tracked_alike events load_events on_loads.alike depth region tracked.0 tracked.1) in
        (one_joined stores m.0, joined_among stores loads m.0 m.1, m.2));
  }
