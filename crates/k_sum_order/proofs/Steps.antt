-- What the steps of the calls keep.
use Rattle.std.proofs.Common.{◌≡◌, ℕ, ◌+◌, ◌^◌, ◌<◌, inl, inr, false, All, Contains, List, [], ◌∷◌, ◌++◌, length, get_or, set, Some, slice_get, refl, sym, ap, ◌∙◌, subst, arith}
use Rattle.std.proofs.lemmas.Bool.{cases_lt}
use Rattle.std.proofs.lemmas.Cmp.{nat_cmp_total, nat_list_cmp_total, on_total, then_total}
use Rattle.std.proofs.lemmas.List.{map-append}
use Rattle.std.proofs.lemmas.List.Elements.{All-push, Contains-append_left, Contains-push}
use Rattle.std.proofs.lemmas.List.Sorted.{ranks_by, sorted_far}
use Rattle.std.proofs.lemmas.Option.{same_Some, slice_get-get_or}
use Rattle.std.specs.Cmp.{IsTotalOrder}
use Rattle.std.specs.Cmp.Lexicographic.{slice_cmp}
use Rattle.std.specs.List.Sorted.{IsSortedBy}
use Rattle.std.specs.Ordering.{is_lt, nat_cmp, ordering_then}
use Rattle.std.specs.declared.cmp.Ordering.{Ordering as Order}
use Rattle.std.specs.declared.cmp.Ordering.TheVariants.{Less, Equal, Greater}
use Rattle.k_dict_entries.specs.Entries.{AreApart, AreDistinct, AreRuns, NameBelow, NameEarlier}
use Rattle.k_dict_entries.specs.Gathering.{number_of, with_entry}
use Rattle.k_dict_entries.specs.Interning.{HasNumber}
use Rattle.k_dict_entries.specs.Rules.{entry_of}
use Rattle.k_dict_entries.specs.Tallies.{total}
use Rattle.k_dict_entries.specs.declared.entry.Entry.{Entry}
use Rattle.k_dict_entries.specs.declared.entry.Run.{Run}
use Rattle.k_dict_entries.proofs.EntryTrees.{below_bound}
use Rattle.k_dict_entries.proofs.Numbers.{IsAbsent, not_contained, number_absent, number_found, with_absent, with_there}
use Rattle.k_dict_entries.proofs.Places.{place_behind}
use Rattle.k_dict_entries.proofs.Pushes.{none_interned}
use Rattle.k_dict_entries.proofs.Sound.{AreRuns-wider}
use Rattle.k_dict_saved.specs.Migration.{HaveFewChildren, renumbered, renumbered_entry}
use Rattle.k_sum.specs.Exits.{total as ends_total}
use Rattle.k_sum.specs.Sums.{HasBounds}
use Rattle.k_sum.specs.declared.sum.Sum.{Sum}
use Rattle.k_sum.proofs.Joins.{total-renumbered}
use Rattle.k_sum_order.specs.Order.{AreOrdered, key_of}
use Rattle.k_sum_order.specs.Placing.{AreRanked, HaveRisingKeys, Ordering, entry_with, placed}
use Rattle.k_sum_order.specs.declared.batch.Ranked.{Ranked}
use Rattle.k_sum_order.proofs.Batches.{numbers_of}
use Rattle.k_sum_order.proofs.OneOrder.{entry_there}
use Rattle.k_sum_order.proofs.Ordered.{roots_rise}

-- ---- an entry by its number

module _ (entries : List Entry) (n : ℕ) (e : Entry) (within : n < length entries) (is : e ≡ get_or entries n e) where
  pub item_at : slice_get entries n ≡ Some e
  item_at = slice_get-get_or entries n e within ∙ ap Some (sym is)

  pub item_is : entry_of entries n ≡ e
  item_is = same_Some (entry_of entries n) e (sym (entry_there entries n within) ∙ item_at)

  pub item_below : NameEarlier entries → (high : ℕ) → high ≡ length entries → NameBelow high e.runs
  item_below earlier high same = below_bound 0 high e.runs (AreRuns-wider 0 n high e.runs (omega arith) (earlier n e item_at))

  pub item_few : HaveFewChildren entries → total e.runs < 2 ^ 64
  item_few few = few n e item_at

-- ---- placing

-- an entry with this number was there, or was added, where no two entries are equal
number_is : (old new : List Entry) (e : Entry) (n : ℕ) → AreApart new → HasNumber old new e n → (new ≡ with_entry old e) × (n ≡ number_of old e)
number_is old new e n apart has = elim has.list [
  | inl there ↦ (let P : List Entry → Type 0 = λ l. slice_get l n ≡ Some e in
      let at : slice_get old n ≡ Some e = subst P there.1 has.at in
      let Q : List Entry → Type 0 = λ l. slice_get l (number_of old e) ≡ Some e in
      let number : slice_get new (number_of old e) ≡ Some e = subst Q (sym there.1) (number_found old e n at) in
      (there.1 ∙ sym (with_there old e n at), apart n (number_of old e) e has.at number))
  | inr added ↦ (let absent : IsAbsent old e = not_contained old e added.0 in
      let P : List Entry → Type 0 = λ l. slice_get l (length old) ≡ Some e in
      let last : slice_get new (length old) ≡ Some e = subst P (sym added.1) (place_behind old e []) in
      (added.1 ∙ sym (with_absent old e absent), apart n (length old) e has.at last ∙ sym (number_absent old e absent)))
]

pub placed_is : (entries : List Entry) (numbers : List ℕ) (old new : List Entry) (n found : ℕ) (e d : Entry) → d ≡ renumbered_entry numbers e → entry_of entries n ≡ e
    → HasNumber old new d found → AreApart new
    → ◌≡◌ {A = Ordering} (record { dict = new; numbers = set numbers n found }) (placed entries (record { dict = old; numbers = numbers }) n)
placed_is entries numbers old new n found e d same is has apart =
    let both = number_is old new d found apart has in
    let renumbered' : d ≡ entry_with entries numbers n = same ∙ sym (ap (renumbered_entry numbers) is) in
    let dict : new ≡ with_entry old (entry_with entries numbers n) = both.0 ∙ ap (with_entry old) renumbered' in
    let number : found ≡ number_of old (entry_with entries numbers n) = both.1 ∙ ap (number_of old) renumbered' in
    λ i. record { dict = dict i; numbers = set numbers n (number i) }

-- no entries are those of a table
pub none_distinct : (entries : List Entry) → entries ≡ [] → AreDistinct entries
none_distinct entries none = let are = none_interned entries none in record { few = are.few; few_runs = are.few_runs; apart = are.apart }

-- ---- sorting

abbrev by_both : Ranked → Ranked → Order
by_both x y = ordering_then (slice_cmp nat_cmp x.key.items y.key.items) (nat_cmp x.number y.number)

total_order : IsTotalOrder by_both
total_order = then_total (on_total (λ (r : Ranked). r.key.items) nat_list_cmp_total) (on_total (λ (r : Ranked). r.number) nat_cmp_total)

first_not : (o p : Order) → is_lt (ordering_then o p) ≡ false → is_lt o ≡ false
first_not Less p h = h
first_not Equal p h = refl
first_not Greater p h = refl

pub keys_rise : (items : List Ranked) → IsSortedBy (λ x y. is_lt (by_both x y)) items → HaveRisingKeys items
keys_rise items sorted j k d less within =
    let x : Ranked = get_or items k d in
    let y : Ranked = get_or items j d in
    first_not (slice_cmp nat_cmp x.key.items y.key.items) (nat_cmp x.number y.number)
    (sorted_far (λ (x : Ranked) (y : Ranked). is_lt (by_both x y)) (ranks_by total_order (λ (r : Ranked). r)) items sorted j k d less within)

-- ---- finding the entries of a level

module _ (entries : List Entry) (levels numbers : List ℕ) (level n : ℕ) (items : List Ranked) (are : AreRanked entries levels numbers level n items) where
  abbrev IsOne : ℕ → Ranked → Type 0
  IsOne high r = (r.number < high) × (get_or levels r.number 0 ≡ level) × (r.key.items ≡ key_of (entry_with entries numbers r.number))

  each_kept : All (IsOne (n + 1)) items
  each_kept k d less = let one = are.each k d less in (omega (arith, one.0), one.1, one.2)

  pub ranked_skip : ¬ (get_or levels n 0 ≡ level) → AreRanked entries levels numbers level (n + 1) items
  ranked_skip other = record {
    each = each_kept;
    all = λ m less is. elim (cases_lt m n) [
      | inl low ↦ are.all m low is
      | inr high ↦ (let same : m ≡ n = omega arith in absurd (other (ap (λ k. get_or levels k 0) (sym same) ∙ is)))
    ];
  }

  pub ranked_more : (r : Ranked) (new : List Ranked) → r.number ≡ n → get_or levels n 0 ≡ level → r.key.items ≡ key_of (entry_with entries numbers n) → new ≡ items ++ r ∷ []
      → AreRanked entries levels numbers level (n + 1) new
  ranked_more r new number here key is =
      let P : List Ranked → Type 0 = AreRanked entries levels numbers level (n + 1) in
      let list : numbers_of (items ++ r ∷ []) ≡ numbers_of items ++ r.number ∷ [] = map-append (λ (s : Ranked). s.number) items (r ∷ []) in
      let one : IsOne (n + 1) r = (omega arith, ap (λ k. get_or levels k 0) number ∙ here, key ∙ ap (λ k. key_of (entry_with entries numbers k)) (sym number)) in
      let Q : List ℕ → ℕ → Type 0 = λ l m. Contains l m in
      let there : (m : ℕ) → m < n + 1 → get_or levels m 0 ≡ level → Contains (numbers_of items ++ r.number ∷ []) m = (λ m less at. elim (cases_lt m n) [
        | inl low ↦ Contains-append_left (numbers_of items) (r.number ∷ []) m (are.all m low at)
        | inr high ↦ (let same : r.number ≡ m = omega arith in
            let R : ℕ → Type 0 = λ k. Contains (numbers_of items ++ r.number ∷ []) k in subst R same (Contains-push (numbers_of items) r.number))
      ]) in
      subst P (sym is) (record {
        each = All-push (IsOne (n + 1)) items r each_kept one;
        all = λ m less at. let S : List ℕ → Type 0 = λ l. Contains l m in subst S (sym list) (there m less at);
      })

-- ---- a sum in order keeps its bounds

pub bounds_stay : (sum ordered : Sum) (numbers : List ℕ) → HasBounds sum → NameEarlier sum.dict → AreOrdered sum.dict numbers ordered.dict
    → ordered.roots ≡ renumbered numbers sum.roots [] → ordered.runs ≡ sum.runs → ordered.exits ≡ sum.exits → ordered.ops ≡ sum.ops → ordered.work ≡ sum.work
    → HasBounds ordered
bounds_stay sum ordered numbers bounds earlier are roots runs exits ops work =
    let below : NameBelow (length sum.dict) sum.roots = below_bound 0 (length sum.dict) sum.roots bounds.roots in
    let P : List Run → Type 0 = AreRuns 0 (length ordered.dict) in
    let Q : ℕ → Type 0 = λ n. n < 2 ^ 32 in
    let R : ℕ → Type 0 = λ n. n < 2 ^ 62 in
    let counted = total-renumbered numbers sum.roots [] in
    let same_total : total ordered.roots ≡ total sum.roots = ap total roots ∙ omega arith in
    let count = bounds.count in
    let most = bounds.ops in
    record {
      runs = subst Q (sym runs) bounds.runs;
      ops = omega arith;
      work = subst R (sym work) bounds.work;
      exits = ap ends_total exits ∙ bounds.exits ∙ sym runs;
      count = same_total ∙ bounds.count ∙ sym runs;
      roots = subst P (sym roots) (roots_rise sum.dict numbers ordered.dict earlier are sum.roots below);
      children = λ k d at.
          let from = are.no_other k d at in
          let n : ℕ = from.0 in
          let e : Entry = entry_of sum.dict n in
          let here : slice_get sum.dict n ≡ Some e = entry_there sum.dict n from.1 in
          let S : ℕ → Type 0 = λ m. slice_get ordered.dict m ≡ Some (renumbered_entry numbers e) in
          let is : d ≡ renumbered_entry numbers e = same_Some d (renumbered_entry numbers e) (sym at ∙ subst S from.2 (are.each n e here)) in
          let T : Entry → Type 0 = λ x. total x.runs < 2 ^ 64 in
          let few = bounds.children n e here in
          let same = total-renumbered numbers e.runs [] in
          subst T (sym is) (omega arith);
    }
