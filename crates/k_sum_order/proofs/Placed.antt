-- The entries of a level, brought in order behind those of lower ones.
use Rattle.std.proofs.Common.{◌≡◌, ℕ, ◌+◌, ◌<◌, ◌≤◌, ◌≢◌, ◌⊎◌, inl, inr, List, [], ◌∷◌, length, get_or, set, Some, slice_get, refl, sym, ap, ◌∙◌, subst, arith, get_or-set_other, get_or-set_same}
use Rattle.std.proofs.Math.ListN.{length-set}
use Rattle.std.proofs.lemmas.Bool.{cases_lt, cases_order}
use Rattle.std.proofs.lemmas.Option.{same_Some, slice_get_within}
use Rattle.k_dict_entries.specs.Entries.{NameEarlier}
use Rattle.k_dict_entries.specs.Gathering.{number_of, with_entry}
use Rattle.k_dict_entries.specs.Rules.{entry_of}
use Rattle.k_dict_entries.specs.declared.entry.Entry.{Entry}
use Rattle.k_dict_entries.proofs.Numbers.{is_in_or_absent, number_absent, number_found, with_absent, with_there}
use Rattle.k_dict_entries.proofs.Places.{place_kept, place_of_push}
use Rattle.k_dict_entries.proofs.Walking.{has_added}
use Rattle.k_dict_saved.specs.Migration.{renumbered, renumbered_entry}
use Rattle.k_sum_order.specs.Order.{AreInOrder, AreOrdered, ComesBefore}
use Rattle.k_sum_order.specs.Placing.{AreLevels, AreOrderedTo, Ordering, entry_with, placed, placed_all}
use Rattle.k_sum_order.proofs.Comparing.{before_not, before_or, order_apart, order_push}
use Rattle.k_sum_order.proofs.LevelOrder.{each_child, lower_first}
use Rattle.k_sum_order.proofs.Naming.{each_more, renumbered_same}
use Rattle.k_sum_order.proofs.OneOrder.{entry_there}

-- a number is one of these
abbrev pub IsAmong : ℕ → List ℕ → Type 0
IsAmong n [] = ⊥
IsAmong n (m ∷ list) = (n ≡ m) ⊎ IsAmong n list

module _ (entries : List Entry) (levels : List ℕ) (earlier : NameEarlier entries) (are : AreLevels entries levels) (level : ℕ) (first : List ℕ) where
  abbrev level_at : ℕ → ℕ
  level_at n = get_or levels n 0

  -- the entry of a number, once those of lower levels are in order
  abbrev now : ℕ → Entry
  now n = entry_with entries first n

  -- no entry comes before one of these that stands before it
  abbrev pub Rise : List ℕ → Type 0
  Rise [] = Unit {0}
  Rise (m ∷ list) = ((n : ℕ) → IsAmong n list → ¬ ComesBefore (now n) (now m)) × Rise list

  -- these entries are there and of the level
  abbrev pub AreOfLevel : List ℕ → Type 0
  AreOfLevel [] = Unit {0}
  AreOfLevel (m ∷ list) = (m < length entries) × (level_at m ≡ level) × AreOfLevel list

  -- where the placing stands: those that have been placed, and those that are to be
  pub record IsAt (In : ℕ → Type 0) (rest : List ℕ) (o : Ordering) : Type 0 where
    pub count : length o.numbers ≡ length entries
    pub order : AreInOrder o.dict
    pub lower : (n : ℕ) → level_at n < level → get_or o.numbers n 0 ≡ get_or first n 0
    pub each : (n : ℕ) → n < length entries → In n → slice_get o.dict (get_or o.numbers n 0) ≡ Some (now n)
    pub no_other : (k : ℕ) (d : Entry) → slice_get o.dict k ≡ Some d → (n : ℕ) × (n < length entries) × In n × (get_or o.numbers n 0 ≡ k)
    pub after : (n k : ℕ) (d : Entry) → IsAmong n rest → slice_get o.dict k ≡ Some d → ¬ ComesBefore (now n) d

  turn : (In Now : ℕ → Type 0) → ((n : ℕ) → In n → Now n) → ((n : ℕ) → Now n → In n) → (rest : List ℕ) (o : Ordering) → IsAt In rest o → IsAt Now rest o
  turn In Now there back rest o at = record {
    count = at.count;
    order = at.order;
    lower = at.lower;
    each = λ n within is. at.each n within (back n is);
    no_other = λ k d is. let from = at.no_other k d is in (from.0, from.1, there from.0 from.2, from.3);
    after = at.after;
  }

  -- an entry of the level is the same whichever of the level have been placed
  now_is : (numbers : List ℕ) → ((n : ℕ) → level_at n < level → get_or numbers n 0 ≡ get_or first n 0) → (n : ℕ) → n < length entries → level_at n ≤ level
      → entry_with entries numbers n ≡ now n
  now_is numbers lower n within few =
      let e : Entry = entry_of entries n in
      let runs : renumbered numbers e.runs [] ≡ renumbered first e.runs [] =
      renumbered_same numbers first e.runs []
      (each_more (λ c. (c < n) × (level_at c < level_at n)) (λ c. get_or numbers c 0 ≡ get_or first c 0) (λ c both. lower c (omega (arith, both.1))) e.runs
      (each_child entries levels earlier are n within)) in
      λ i. record { region = e.region; work = e.work; path = e.path; runs = runs i }

  module _ (In : ℕ → Type 0) (x : ℕ) (rest : List ℕ) (o : Ordering) (at : IsAt In (x ∷ rest) o) (of : AreOfLevel (x ∷ rest)) (rise : Rise (x ∷ rest))
      (lower_in : (n : ℕ) → In n → (level_at n < level) ⊎ (level_at n ≡ level)) where
    abbrev e : Entry
    e = now x

    abbrev dict : List Entry
    dict = with_entry o.dict e

    abbrev number : ℕ
    number = number_of o.dict e

    abbrev numbers : List ℕ
    numbers = set o.numbers x number

    within : x < length o.numbers
    within = let count = at.count in let inside : x < length entries = of.0 in omega arith

    here : get_or numbers x 0 ≡ number
    here = let inside = within in rw get_or-set_same refl

    other : (n : ℕ) → n ≢ x → get_or numbers n 0 ≡ get_or o.numbers n 0
    other n differs = rw get_or-set_other refl

    there : slice_get dict number ≡ Some e
    there = let added = has_added o.dict e in
        let P : ℕ → Type 0 = λ k. slice_get dict k ≡ Some e in subst P added.number (number_found dict e added.there.0 added.there.1)

    kept : (k : ℕ) (d : Entry) → slice_get o.dict k ≡ Some d → slice_get dict k ≡ Some d
    kept k d is = let added = has_added o.dict e in
        let P : List Entry → Type 0 = λ l. slice_get l k ≡ Some d in subst P (sym added.kept) (place_kept o.dict added.more k d is)

    order_now : AreInOrder dict
    order_now = let P : List Entry → Type 0 = AreInOrder in elim (is_in_or_absent o.dict e) [
      | inl is ↦ subst P (sym (with_there o.dict e is.0 is.1)) at.order
      | inr absent ↦ subst P (sym (with_absent o.dict e absent)) (order_push o.dict e at.order (λ k d is. elim (before_or d e) [
        | inl before ↦ before
        | inr not ↦ elim not [
          | inl same ↦ absurd (absent k (is ∙ ap Some same))
          | inr behind ↦ absurd (at.after x k d (inl refl) is behind)
        ]
      ]))
    ]

    -- an entry that is there now was there, or is this one
    was : (k : ℕ) (d : Entry) → slice_get dict k ≡ Some d → (slice_get o.dict k ≡ Some d) ⊎ ((d ≡ e) × (number ≡ k))
    was k d is = elim (is_in_or_absent o.dict e) [
      | inl in_there ↦ (let P : List Entry → Type 0 = λ l. slice_get l k ≡ Some d in inl (subst P (with_there o.dict e in_there.0 in_there.1) is))
      | inr absent ↦ (let P : List Entry → Type 0 = λ l. slice_get l k ≡ Some d in elim (place_of_push o.dict e k d (subst P (with_absent o.dict e absent) is)) [
        | inl old ↦ inl old
        | inr new ↦ inr (new.1, number_absent o.dict e absent ∙ sym new.0)
      ])
    ]

    abbrev Now : ℕ → Type 0
    Now n = (n ≡ x) ⊎ In n

    each_now : (n : ℕ) → n < length entries → Now n → slice_get dict (get_or numbers n 0) ≡ Some (now n)
    each_now n inside is =
        let P : ℕ → Type 0 = λ m. slice_get dict (get_or numbers m 0) ≡ Some (now m) in
        let Q : ℕ → Type 0 = λ k. slice_get dict k ≡ Some e in
        let this : slice_get dict (get_or numbers x 0) ≡ Some e = subst Q (sym here) there in
        let R : ℕ → Type 0 = λ k. slice_get dict k ≡ Some (now n) in
        let old : In n → n ≢ x → slice_get dict (get_or numbers n 0) ≡ Some (now n) = λ was differs.
        subst R (sym (other n differs)) (kept (get_or o.numbers n 0) (now n) (at.each n inside was)) in
        elim is [
          | inl same ↦ subst P (sym same) this
          | inr was ↦ elim (cases_order n x) [
            | inl same ↦ subst P (sym same) this
            | inr differ ↦ elim differ [
              | inl less ↦ (let differs : n ≢ x = omega arith in old was differs)
              | inr more ↦ (let differs : n ≢ x = omega arith in old was differs)
            ]
          ]
        ]

    no_other_now : (k : ℕ) (d : Entry) → slice_get dict k ≡ Some d → (n : ℕ) × (n < length entries) × Now n × (get_or numbers n 0 ≡ k)
    no_other_now k d is = elim (was k d is) [
      | inl old ↦ (let from = at.no_other k d old in
          let n : ℕ = from.0 in
          let keeps : n ≢ x → (m : ℕ) × (m < length entries) × Now m × (get_or numbers m 0 ≡ k) = λ differs. (n, from.1, inr from.2, other n differs ∙ from.3) in
          elim (cases_order n x) [
            | inl same ↦ (let P : ℕ → Type 0 = λ m. get_or o.numbers m 0 ≡ k in
                let Q : ℕ → Type 0 = λ m. slice_get o.dict m ≡ Some (now n) in
                let R : ℕ → Type 0 = λ m. slice_get o.dict k ≡ Some (now m) in
                let found : slice_get o.dict k ≡ Some e = subst R same (subst Q from.3 (at.each n from.1 from.2)) in
                let equal : number ≡ k = order_apart o.dict at.order number k e (number_found o.dict e k found) found in
                (x, of.0, inl refl, here ∙ equal))
            | inr differ ↦ elim differ [
              | inl less ↦ (let differs : n ≢ x = omega arith in keeps differs)
              | inr more ↦ (let differs : n ≢ x = omega arith in keeps differs)
            ]
          ])
      | inr new ↦ (x, of.0, inl refl, here ∙ new.1)
    ]

    after_now : (n k : ℕ) (d : Entry) → IsAmong n rest → slice_get dict k ≡ Some d → ¬ ComesBefore (now n) d
    after_now n k d among is before = elim (was k d is) [
      | inl old ↦ at.after n k d (inr among) old before
      | inr new ↦ (let P : Entry → Type 0 = ComesBefore (now n) in rise.0 n among (subst P new.0 before))
    ]

    lower_now : (n : ℕ) → level_at n < level → get_or numbers n 0 ≡ get_or first n 0
    lower_now n less =
        let level_is : level_at x ≡ level = of.1 in
        elim (cases_order n x) [
          | inl same ↦ (let equal = ap level_at same in absurd (omega arith))
          | inr differ ↦ elim differ [
            | inl low ↦ (let differs : n ≢ x = omega arith in other n differs ∙ at.lower n less)
            | inr high ↦ (let differs : n ≢ x = omega arith in other n differs ∙ at.lower n less)
          ]
        ]

    next : IsAt Now rest (record { dict = dict; numbers = numbers })
    next = record {
      count = length-set o.numbers x number ∙ at.count;
      order = order_now;
      lower = lower_now;
      each = each_now;
      no_other = no_other_now;
      after = after_now;
    }

    next_placed : IsAt Now rest (placed entries o x)
    next_placed =
        let few : level_at x ≤ level = (let level_is : level_at x ≡ level = of.1 in omega arith) in
        let same : entry_with entries o.numbers x ≡ e = now_is o.numbers at.lower x of.0 few in
        let P : Entry → Type 0 = λ d. IsAt Now rest (record { dict = with_entry o.dict d; numbers = set o.numbers x (number_of o.dict d) }) in
        subst P (sym same) next

  all_placed : (list : List ℕ) (In : ℕ → Type 0) (o : Ordering) → IsAt In list o → AreOfLevel list → Rise list
      → ((n : ℕ) → In n → (level_at n < level) ⊎ (level_at n ≡ level)) → IsAt (λ n. IsAmong n list ⊎ In n) [] (placed_all entries o list)
  all_placed [] In o at of rise lower_in = turn In (λ n. IsAmong n [] ⊎ In n) (λ n is. inr is) (λ n is. elim is [ inl none ↦ absurd none | inr was ↦ was ]) [] o at
  all_placed (x ∷ list) In o at of rise lower_in =
      let Now : ℕ → Type 0 = λ n. (n ≡ x) ⊎ In n in
      let level_is : level_at x ≡ level = of.1 in
      let rest : IsAt (λ n. IsAmong n list ⊎ Now n) [] (placed_all entries (placed entries o x) list) =
      all_placed list Now (placed entries o x) (next_placed In x list o at of rise lower_in) of.2 rise.1
      (λ n is. elim is [ inl same ↦ inr (ap level_at same ∙ level_is) | inr was ↦ lower_in n was ]) in
      turn (λ n. IsAmong n list ⊎ Now n) (λ n. IsAmong n (x ∷ list) ⊎ In n)
      (λ n is. elim is [ inl among ↦ inl (inr among) | inr now' ↦ elim now' [ inl same ↦ inl (inl same) | inr was ↦ inr was ] ])
      (λ n is. elim is [ inl among ↦ elim among [ inl same ↦ inr (inl same) | inr later ↦ inl later ] | inr was ↦ inr (inr was) ])
      [] (placed_all entries (placed entries o x) list) rest

among_level : (entries : List Entry) (levels : List ℕ) (level : ℕ) (earlier : NameEarlier entries) (are : AreLevels entries levels) (first list : List ℕ)
    → AreOfLevel entries levels earlier are level first list → (n : ℕ) → IsAmong n list → get_or levels n 0 ≡ level
among_level entries levels level earlier are first [] of n among = absurd among
among_level entries levels level earlier are first (x ∷ list) of n among = elim among [
  | inl same ↦ ap (λ m. get_or levels m 0) same ∙ of.1
  | inr later ↦ among_level entries levels level earlier are first list of.2 n later
]

-- a level is in order once its entries are placed
pub level_ordered : (entries : List Entry) (levels : List ℕ) (level : ℕ) (o : Ordering) (list : List ℕ) (earlier : NameEarlier entries) (are : AreLevels entries levels)
    → AreOrderedTo entries levels level o → AreOfLevel entries levels earlier are level o.numbers list → Rise entries levels earlier are level o.numbers list
    → ((n : ℕ) → n < length entries → get_or levels n 0 ≡ level → IsAmong n list)
    → AreOrderedTo entries levels (level + 1) (placed_all entries o list)
level_ordered entries levels level o list earlier are at of rise all =
    let Low : ℕ → Type 0 = λ n. get_or levels n 0 < level in
    let begin : IsAt entries levels earlier are level o.numbers Low list o = record {
      count = at.count;
      order = at.order;
      lower = λ n less. refl;
      each = λ n within less. at.each n within less;
      no_other = λ k d is. let from = at.no_other k d is in (from.0, from.1, from.2, from.3);
      after = λ n k d among is before.
          let from = at.no_other k d is in
          let m : ℕ = from.0 in
          let level_is = among_level entries levels level earlier are o.numbers list of n among in
          let less : get_or levels m 0 < level = from.2 in
          let P : ℕ → Type 0 = λ j. slice_get o.dict j ≡ Some (entry_with entries o.numbers m) in
          let here : d ≡ entry_with entries o.numbers m = same_Some d (entry_with entries o.numbers m) (sym is ∙ subst P from.3 (at.each m from.1 less)) in
          let Q : Entry → Type 0 = λ x. ComesBefore (entry_with entries o.numbers n) x in
          before_not (entry_with entries o.numbers n) (entry_with entries o.numbers m) (subst Q here before)
          (lower_first entries levels earlier are level o at m n from.1 (among_within list of n among) (omega arith) (omega arith));
    } in
    let done = all_placed entries levels earlier are level o.numbers list Low o begin of rise (λ n is. inl is) in
    let new : Ordering = placed_all entries o list in
    record {
      count = done.count;
      order = done.order;
      each = λ n within less.
          let here : slice_get new.dict (get_or new.numbers n 0) ≡ Some (entry_with entries o.numbers n) =
          done.each n within (elim (cases_lt (get_or levels n 0) level) [ inl low ↦ inr low | inr high ↦ inl (all n within (omega arith)) ]) in
          here ∙ ap Some (sym (now_is entries levels earlier are level o.numbers new.numbers done.lower n within (omega arith)));
      no_other = λ k d is.
          let from = done.no_other k d is in
          let low : get_or levels from.0 0 < level + 1 = elim from.2 [
            | inl among ↦ (let level_is = among_level entries levels level earlier are o.numbers list of from.0 among in omega arith)
            | inr less ↦ omega arith
          ] in (from.0, from.1, low, from.3);
    }
  where
    among_within : (list : List ℕ) → AreOfLevel entries levels earlier are level o.numbers list → (n : ℕ) → IsAmong n list → n < length entries
    among_within [] of n among = absurd among
    among_within (x ∷ list) of n among = elim among [ inl same ↦ (let inside : x < length entries = of.0 in omega arith) | inr later ↦ among_within list of.2 n later ]

-- nothing is in order at first
pub ordered_start : (entries : List Entry) (levels : List ℕ) (o : Ordering) → length o.numbers ≡ length entries → o.dict ≡ [] → AreOrderedTo entries levels 0 o
ordered_start entries levels o count none =
    let empty : (k : ℕ) (d : Entry) → slice_get o.dict k ≡ Some d → ⊥ =
    (λ k d is. let P : List Entry → Type 0 = λ l. slice_get l k ≡ Some d in let inside = slice_get_within [] k d (subst P none is) in omega arith) in
    record {
      count = count;
      order = λ m n d e less is is'. absurd (empty m d is);
      each = λ n within less. absurd (omega arith);
      no_other = λ k d is. absurd (empty k d is);
    }

-- all are once no level is left
pub ordered_done : (entries : List Entry) (levels : List ℕ) (end : ℕ) (o : Ordering) → AreOrderedTo entries levels end o
    → ((n : ℕ) → n < length entries → get_or levels n 0 < end) → AreOrdered entries o.numbers o.dict
ordered_done entries levels end o at all = record {
  count = at.count;
  order = at.order;
  each = λ n e is.
      let within = slice_get_within entries n e is in
      let same : entry_of entries n ≡ e = same_Some (entry_of entries n) e (sym (entry_there entries n within) ∙ is) in
      at.each n within (all n within) ∙ ap (λ x. Some (renumbered_entry o.numbers x)) same;
  no_other = λ k d is. let from = at.no_other k d is in (from.0, from.1, from.3);
}
