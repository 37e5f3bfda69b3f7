-- What is listed of an access for the starts of the tracked instances: the first of each to make it.
use Rattle.std.proofs.Common.{ℕ, zero, suc, ◌≡◌, ◌<◌, ◌≤◌, ◌⊎◌, min, List, [], ◌∷◌, ◌++◌, length, map, take, slice_get, Some, None, arith, refl, sym, subst, ap, inl, inr, ◌∙◌}
use Rattle.std.specs.Prelude.{Option}
use Rattle.std.proofs.lemmas.Bool.{cases_lt}
use Rattle.std.proofs.lemmas.List.{length-map}
use Rattle.std.proofs.lemmas.Option.{slice_get_within}
use Rattle.std.proofs.Math.Nat.{le-min, min-le_left}
use Rattle.k_num.specs.declared.place.Place.{Place}
use Rattle.k_optab.specs.declared.class.Class.{Class}
use Rattle.k_optab.specs.declared.event.Event.{Event}
use Rattle.k_optab.specs.declared.event.Event.TheVariants.{Op}
use Rattle.k_optab.specs.declared.event.Src.{Src}
use Rattle.k_optab.specs.Events.{Operation, made_before, operations}
use Rattle.k_optab.specs.Open.{Open, open_after}
use Rattle.k_optab.proofs.Opening.{open_depths, operations_keep}
use Rattle.k_carry_pairs.specs.declared.origin.Origin.{Origin}
use Rattle.k_carry_pairs.specs.Carried.{IsAmong, LiesIn}
use Rattle.k_carry_pairs.proofs.Events.{lies_from, lies_less, lies_more, made_same}
use Rattle.k_carry_pairs.proofs.Turning.{stands_next}
use Rattle.k_carry_pairs.proofs.Lists.{among_either, among_left, among_right, get_last, take_whole}
use Rattle.k_carry_storage_pairs.specs.declared.access.Access.{Access}
use Rattle.k_carry_storage_pairs.specs.Firsts.{IsNoted, OneIsBehind, least, listed}
use Rattle.k_carry_storage_pairs.specs.Kept.{IsOrigin, Knows}
use Rattle.k_carry_storage_pairs.specs.Storage.{IsFirst, MakesAccess}
use Rattle.k_carry_storage_pairs.proofs.Firsting.{IsLeast, least_is, listed_either, listed_there}
use Rattle.k_carry_storage_pairs.proofs.Going.{first_back, makes_back, makes_on, origin_on}
use Rattle.k_carry_storage_pairs.proofs.Within.{lies_in, made_before_later}

-- an item of a list at its place
among_index : {X : Type 0} (xs : List X) (x : X) → IsAmong x xs → (k : ℕ) × (slice_get xs k ≡ Some x)
among_index [] x is = absurd is
among_index {X = X} (y ∷ xs) x (inl here) = (zero, ap (λ (z : X). Some z) here)
among_index (y ∷ xs) x (inr later) = (let rest = among_index xs x later in (suc rest.0, rest.1))

-- what is among the first of a mapped list
among_taken : {X Y : Type 0} (f : X → Y) (n : ℕ) (xs : List X) (y : Y) → IsAmong y (take n (map f xs)) → (k : ℕ) × ((x : X) × ((k < n) × ((slice_get xs k ≡ Some x) × (f x ≡ y))))
among_taken f zero xs y is = absurd is
among_taken f (suc n) [] y is = absurd is
among_taken f (suc n) (x ∷ xs) y (inl here) = (zero, (x, (omega arith, (refl, here))))
among_taken f (suc n) (x ∷ xs) y (inr later) =
    let rest = among_taken f n xs y later in
    let low : rest.0 < n = rest.1.1.0 in
    (suc rest.0, (rest.1.0, (omega (arith, low), (rest.1.1.1.0, rest.1.1.1.1))))

taken_among : {X Y : Type 0} (f : X → Y) (n : ℕ) (xs : List X) (k : ℕ) (x : X) → k < n → slice_get xs k ≡ Some x → IsAmong (f x) (take n (map f xs))
taken_among f zero xs k x low is = absurd (omega (arith, low))
taken_among f (suc n) [] k x low is = absurd (cc is)
taken_among {Y = Y} f (suc n) (y ∷ xs) zero x low is = inl (ap f (cc is))
taken_among f (suc n) (y ∷ xs) (suc k) x low is = inr (taken_among f n xs k x (omega (arith, low)) is)

-- the starts of the tracked instances
abbrev pub tracked_starts : ℕ → List ℕ → List ℕ
tracked_starts depth starts = take (min depth (length starts)) starts

module _ (depth : ℕ) (events : List Event) (accesses : List (Option Access)) (a : Access) (origins : List Origin) (starts : List ℕ)
    (starts_are : starts ≡ map (λ (o : Open). o.start) (open_after events)) (is : Knows depth events accesses a origins) where
  -- the instance of a start, and the start of an instance
  pub start_of : (start : ℕ) → IsAmong start (tracked_starts depth starts) → (o : Open) × (IsAmong o (open_after events) × ((o.depth < depth) × (o.start ≡ start)))
  start_of start among =
      let there = among_taken (λ (o : Open). o.start) (min depth (length starts)) (open_after events) start
      (subst (λ (all : List ℕ). IsAmong start (take (min depth (length starts)) all)) starts_are among) in
      let o : Open = there.1.0 in
      let deep : o.depth ≡ there.0 = open_depths events there.0 o there.1.1.1.0 in
      let low : there.0 < min depth (length starts) = there.1.1.0 in
      let most : min depth (length starts) ≤ depth = min-le_left depth (length starts) in
      (o, (among_get (open_after events) there.0 o there.1.1.1.0, (omega (arith, deep, low, most), there.1.1.1.1)))
    where
      among_get : (xs : List Open) (k : ℕ) (x : Open) → slice_get xs k ≡ Some x → IsAmong x xs
      among_get [] k x is = absurd (cc is)
      among_get (y ∷ xs) zero x is = inl (cc is)
      among_get (y ∷ xs) (suc k) x is = inr (among_get xs k x is)

  pub start_there : (o : Open) → IsAmong o (open_after events) → o.depth < depth → IsAmong o.start (tracked_starts depth starts)
  start_there o alive shallow =
      let at = among_index (open_after events) o alive in
      let deep : o.depth ≡ at.0 = open_depths events at.0 o at.1 in
      let within : at.0 < length (open_after events) = slice_get_within (open_after events) at.0 o at.1 in
      let count : length starts ≡ length (open_after events) =
      ap (λ (all : List ℕ). length all) starts_are ∙ length-map (open_after events) (λ (p : Open). p.start) in
      let one : suc at.0 ≤ depth = omega (arith, deep, shallow) in
      let two : suc at.0 ≤ length starts = omega (arith, within, count) in
      let low : suc at.0 ≤ min depth (length starts) = le-min {k = suc at.0} {a = depth} {b = length starts} one two in
      subst (λ (all : List ℕ). IsAmong o.start (take (min depth (length starts)) all)) (sym starts_are)
      (taken_among (λ (p : Open). p.start) (min depth (length starts)) (open_after events) at.0 o (omega (arith, low)) at.1)

  -- an operation that is kept lies in an open instance that begins with it or before
  pub origin_lies : (o : Open) → IsAmong o (open_after events) → (x : Origin) (of : IsOrigin events accesses a x) → o.start ≤ x.number → LiesIn events of.at o
  origin_lies o alive x of low = lies_in events of.at of.op o of.made.stands alive (omega (arith, of.number, low))

  module _ (o : Open) (alive : IsAmong o (open_after events)) (shallow : o.depth < depth) (x : Origin) (of : IsOrigin events accesses a x)
      (least_is_x : least o.start origins None ≡ Some x) where
    -- none makes the access before the least that is kept
    none_earlier : (n i : ℕ) (op : Operation) → i < n → i < of.at → LiesIn events i o → MakesAccess events accesses i op a → ⊥
    none_earlier zero i op below before lies made = omega (arith, below)
    none_earlier (suc n) i op below before lies made =
        let first : IsFirst events accesses o i a =
        λ j other less within makes. none_earlier n j other (omega (arith, less, below)) (omega (arith, less, before)) within makes in
        let known = is.complete o i op alive shallow lies made first in
        let within : i < length events = slice_get_within events i (Op op.class op.latency op.sources op.place) made.stands in
        let start : o.start ≤ made_before i events = lies_from events i o (omega (arith, within)) lies in
        let least_of : IsLeast o.start origins None (least o.start origins None) = least_is o.start origins None in
        let bound = least_of.bound known.0 known.1.0 (omega (arith, start, known.1.1)) in
        let both : Some bound.0 ≡ Some x = sym bound.1.0 ∙ least_is_x in
        let same : bound.0 ≡ x = cc both in
        let number : bound.0.number ≡ x.number = ap (λ (y : Origin). y.number) same in
        let less : made_before i events < made_before of.at events = made_before_later events i of.at op made.stands before in
        omega (arith, bound.1.1, number, less, of.number, known.1.1)

    pub least_first : IsFirst events accesses o of.at a
    least_first i op before lies made = none_earlier (suc i) i op (omega arith) before lies made

  -- what is listed is the first of an instance
  pub record Firstly (x : Origin) : Type 0 where
    pub of : IsOrigin events accesses a x
    pub o : Open
    pub alive : IsAmong o (open_after events)
    pub lies : LiesIn events of.at o
    pub first : IsFirst events accesses o of.at a

  pub listed_first : (x : Origin) → IsAmong x (listed (tracked_starts depth starts) origins []) → Firstly x
  listed_first x among = by (listed_either (tracked_starts depth starts) origins [] x among)
    where
      by : IsAmong x [] ⊎ ((start : ℕ) × (IsAmong start (tracked_starts depth starts) × (least start origins None ≡ Some x))) → Firstly x
      by (inl none) = absurd none
      by (inr at) =
          let there = start_of at.0 at.1.0 in
          let o : Open = there.0 in
          let best : least o.start origins None ≡ Some x = ap (λ (n : ℕ). least n origins None) there.1.1.1 ∙ at.1.1 in
          let least_of : IsLeast o.start origins None (least o.start origins None) = least_is o.start origins None in
          found o there.1.0 there.1.1.0 best (least_of.sound x best)
        where
          found : (o : Open) → IsAmong o (open_after events) → o.depth < depth → least o.start origins None ≡ Some x
              → (None ≡ Some x) ⊎ (IsAmong x origins × (o.start ≤ x.number)) → Firstly x
          found o alive shallow best (inl none) = absurd (cc none)
          found o alive shallow best (inr some) =
              let of : IsOrigin events accesses a x = is.sound x some.0 in
              record {
                of = of;
                o = o;
                alive = alive;
                lies = origin_lies o alive x of some.1;
                first = least_first o alive shallow x of best;
              }

  -- and the first of each tracked instance is listed
  pub first_listed : (o : Open) (at : ℕ) (op : Operation) → IsAmong o (open_after events) → o.depth < depth → LiesIn events at o → MakesAccess events accesses at op a
      → IsFirst events accesses o at a → (x : Origin) × (IsAmong x (listed (tracked_starts depth starts) origins []) × (x.number ≡ made_before at events))
  first_listed o at op alive shallow lies made first =
      let known = is.complete o at op alive shallow lies made first in
      let within : at < length events = slice_get_within events at (Op op.class op.latency op.sources op.place) made.stands in
      let start : o.start ≤ made_before at events = lies_from events at o (omega (arith, within)) lies in
      let least_of : IsLeast o.start origins None (least o.start origins None) = least_is o.start origins None in
      let bound = least_of.bound known.0 known.1.0 (omega (arith, start, known.1.1)) in
      let x : Origin = bound.0 in (
        x,
        (
          listed_there (tracked_starts depth starts) origins [] o.start x (start_there o alive shallow) bound.1.0,
          same x (least_of.sound x bound.1.0) (omega (arith, bound.1.1, known.1.1)),
        ),
      )
    where
      same : (x : Origin) → (None ≡ Some x) ⊎ (IsAmong x origins × (o.start ≤ x.number)) → x.number ≤ made_before at events → x.number ≡ made_before at events
      same x (inl none) low = absurd (cc none)
      same x (inr some) low =
          let of : IsOrigin events accesses a x = is.sound x some.0 in
          elim (cases_lt of.at at) [
            | inl before ↦ absurd (first of.at of.op before (origin_lies o alive x of some.1) of.made)
            | inr behind ↦ elim (cases_lt at of.at) [
              | inl less ↦
                  (let more : made_before at events < made_before of.at events = made_before_later events at of.at op made.stands less in
                  omega (arith, more, of.number, low))
              | inr high ↦ (let here : of.at ≡ at = omega (arith, behind, high) in sym of.number ∙ ap (λ (n : ℕ). made_before n events) here)
            ]
          ]

  -- what is known of an access behind an operation that makes it
  module _ (class : Class) (latency : ℕ) (sources : List Src) (place : Place) (numbered : length accesses ≡ length (operations events)) where
    abbrev done : Event
    done = Op class latency sources place

    abbrev behind : List Event
    behind = events ++ done ∷ []

    abbrev all : List (Option Access)
    all = accesses ++ Some a ∷ []

    abbrev now : Origin
    now = record { number = length (operations events); place = place }

    made_here : made_before (length events) behind ≡ length (operations events)
    made_here =
        made_same events (done ∷ []) (length events) (omega arith)
        ∙ ap (λ (es : List Event). length (operations es)) (take_whole (length events) events (omega arith))

    now_is : IsOrigin behind all a now
    now_is = record {
      at = length events;
      op = record { class = class; latency = latency; sources = sources; place = place };
      made = record {
        stands = get_last events done;
        accessed = ap (λ (n : ℕ). slice_get all n) (made_here ∙ sym numbered) ∙ get_last accesses (Some a);
      };
      number = made_here;
      place = refl;
    }

    alive_before : (o : Open) → IsAmong o (open_after behind) → IsAmong o (open_after events)
    alive_before o alive = subst (λ (opened : List Open). IsAmong o opened) (operations_keep events class latency sources place).0 alive

    -- what is known of what was made before
    old_known : (new : List Origin)
        → ((o : Open) (at : ℕ) (op : Operation) → IsAmong o (open_after events) → o.depth < depth → LiesIn events at o → MakesAccess events accesses at op a
        → IsFirst events accesses o at a → (x : Origin) × (IsAmong x new × (x.number ≡ made_before at events)))
        → (o : Open) (at : ℕ) (op : Operation) → at < length events → IsAmong o (open_after behind) → o.depth < depth → LiesIn behind at o
        → MakesAccess behind all at op a → IsFirst behind all o at a → (x : Origin) × (IsAmong x new × (x.number ≡ made_before at behind))
    old_known new known o at op low alive shallow lies made first =
        let x = known o at op (alive_before o alive) shallow (lies_less events (done ∷ []) at o (omega (arith, low)) lies)
        (makes_back events done accesses (Some a ∷ []) numbered at op a low made) (first_back events done accesses (Some a ∷ []) numbered o at a (omega (arith, low)) first) in
        (x.0, (x.1.0, x.1.1 ∙ sym (made_same events (done ∷ []) at (omega (arith, low)))))

    -- where one that lies in all tracked instances is kept, the new one is the first of none
    none_first : OneIsBehind (tracked_starts depth starts) origins → (o : Open) → IsAmong o (open_after events) → o.depth < depth → IsFirst behind all o (length events) a → ⊥
    none_first one o alive shallow first =
        let x : Origin = one.0 in
        let of : IsOrigin events accesses a x = is.sound x one.1.0 in
        let low : of.at < length events = slice_get_within events of.at (Op of.op.class of.op.latency of.op.sources of.op.place) of.made.stands in
        let lies : LiesIn events of.at o = origin_lies o alive x of (one.1.1 o.start (start_there o alive shallow)) in
        first of.at of.op low (lies_more events (done ∷ []) of.at o (omega (arith, low)) lies) (makes_on events done accesses (Some a ∷ []) numbered of.at of.op a of.made)

    pub noted_knows : (new : List Origin) → IsNoted (tracked_starts depth starts) now origins new → Knows depth behind all a new
    noted_knows new (inl same) = subst (λ (list : List Origin). Knows depth behind all a list) (sym same.0) (record {
      sound = λ x among. origin_on events done accesses (Some a ∷ []) numbered a x (is.sound x among);
      complete = λ o at op alive shallow lies made first. elim (stands_next events done at op made.stands) [
        | inl old ↦ old_known origins is.complete o at op old.0 alive shallow lies made first
        | inr last ↦ absurd (none_first same.1 o (alive_before o alive) shallow (subst (λ (n : ℕ). IsFirst behind all o n a) last.0 first))
      ];
    })
    noted_knows new (inr same) = subst (λ (list : List Origin). Knows depth behind all a list) (sym same) (record {
      sound = λ x among. elim (among_either x (listed (tracked_starts depth starts) origins []) (now ∷ []) among) [
        | inl old ↦ (let found = listed_first x old in origin_on events done accesses (Some a ∷ []) numbered a x found.of)
        | inr (inl new) ↦ subst (λ (y : Origin). IsOrigin behind all a y) new now_is
        | inr (inr none) ↦ absurd none
      ];
      complete = λ o at op alive shallow lies made first. elim (stands_next events done at op made.stands) [
        | inl old ↦
            (let x = old_known (listed (tracked_starts depth starts) origins []) first_listed o at op old.0 alive shallow lies made first in
            (x.0, (among_left x.0 (listed (tracked_starts depth starts) origins []) (now ∷ []) x.1.0, x.1.1)))
        | inr last ↦
            (now, (among_right now (listed (tracked_starts depth starts) origins []) (now ∷ []) (inl refl), sym (ap (λ (n : ℕ). made_before n behind) last.0 ∙ made_here)))
      ];
    })
