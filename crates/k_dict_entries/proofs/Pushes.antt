-- What a dictionary's entries keep where one is added, or the newest go.
use Rattle.std.proofs.Common.{◌≡◌, ℕ, ◌+◌, ◌-◌, ◌<◌, ◌≤◌, ◌⊎◌, if◌then◌else◌, inl, inr, Bool, true, false, ◌≢◌, List, [], ◌∷◌, ◌++◌, length, take, drop, Some, Result, Ok, Err, slice_get, position, Contains, sum_by, refl, sym, ap, ◌∙◌, subst, true≢false, arith, length-append, length-take}
use Rattle.std.specs.List.{list_any}
use Rattle.std.proofs.lemmas.List.{take-append-drop}
use Rattle.std.proofs.lemmas.List.Sums.{sum_by-append, sum_by-take-le}
use Rattle.std.proofs.lemmas.List.Folds.{list_any_at}
use Rattle.std.proofs.lemmas.List.Quantifiers.{position-Some}
use Rattle.std.proofs.lemmas.Option.{none-some, slice_get-get_or}
use Rattle.k_dict_entries.specs.Entries.{AreRuns, NameEarlier, AreApart, AreDistinct, AreInterned, all_runs}
use Rattle.k_dict_entries.specs.Interning.{CanIntern, HasNumber, Interns}
use Rattle.k_dict_entries.specs.declared.entry.Entry.{Entry}
use Rattle.k_dict_entries.specs.declared.dict.DictFault.{DictFault}
use Rattle.k_dict_entries.specs.declared.dict.DictFault.TheVariants.{Full, Memory}
use Rattle.k_dict_entries.specs.declared.dict.Which.TheVariants.{Entries, AllRuns}
use Rattle.k_dict_entries.proofs.Equal.{entry_eq, entry_decides}
use Rattle.k_dict_entries.proofs.Places.{place_of_push, place_in_take, is_there}

-- the entry that was found stands where it was found
pub found_at : (entries : List Entry) (e : Entry) (n : ℕ) → position (entry_eq e) entries ≡ Some n → slice_get entries n ≡ Some e
found_at entries e n h =
    let at = position-Some (entry_eq e) entries n e h in
    slice_get-get_or entries n e at.0 ∙ ap Some (sym ((entry_decides e _).0 at.1))

-- an entry that was not found is not there
pub not_there : (entries : List Entry) (e : Entry) → list_any (entry_eq e) entries ≡ false → ¬ Contains entries e
not_there entries e h there =
    let same = (entry_decides e e).1 refl in
    let P : Entry → Type 0 = λ x. entry_eq e x ≡ true in
    true≢false (sym (list_any_at (entry_eq e) entries there.0 e there.1 (subst P (sym there.2) same)) ∙ h)

-- the runs of all entries with one more
pub all_runs-push : (entries : List Entry) (e : Entry) → all_runs (entries ++ e ∷ []) ≡ all_runs entries + length e.runs
all_runs-push entries e = sum_by-append (λ x. length x.runs) entries (e ∷ []) ∙ omega arith

-- the runs of the first entries and of the others together
pub all_runs-cut : (n : ℕ) (entries : List Entry) → all_runs (take n entries) + all_runs (drop n entries) ≡ all_runs entries
all_runs-cut n entries =
    sym (sum_by-append (λ x. length x.runs) (take n entries) (drop n entries)) ∙ ap all_runs (take-append-drop n entries)

-- entries that name earlier ones, and one more that does
pub NameEarlier-push : (entries : List Entry) (e : Entry) → NameEarlier entries → CanIntern entries e → NameEarlier (entries ++ e ∷ [])
NameEarlier-push entries e earlier can n x h = elim (place_of_push entries e n x h) [
  | inl k ↦ earlier n x k
  | inr k ↦ let P : ℕ → Type 0 = λ m. AreRuns 0 m x.runs in let Q : Entry → Type 0 = λ y. AreRuns 0 (length entries) y.runs in
      subst P (sym k.0) (subst Q (sym k.1) can)
]

-- entries that are apart, and one more that is not among them
pub AreApart-push : (entries : List Entry) (e : Entry) → AreApart entries → ¬ Contains entries e → AreApart (entries ++ e ∷ [])
AreApart-push entries e apart absent m n x at_m at_n = elim (place_of_push entries e m x at_m) [
  | inl k ↦ elim (place_of_push entries e n x at_n) [
    | inl l ↦ apart m n x k l
    | inr l ↦ absurd (absent (is_there entries m e (k ∙ ap Some l.1)))
  ]
  | inr k ↦ elim (place_of_push entries e n x at_n) [
    | inl l ↦ absurd (absent (is_there entries n e (l ∙ ap Some k.1)))
    | inr l ↦ k.0 ∙ sym l.0
  ]
]

-- entries without repeats, with one more that there is room for
pub AreDistinct-push : (entries : List Entry) (e : Entry) → AreDistinct entries → ¬ Contains entries e
    → length entries < 1048576 → all_runs entries + length e.runs ≤ 16777216 → AreDistinct (entries ++ e ∷ [])
AreDistinct-push entries e are absent room runs = record {
  few = omega (arith, length-append entries (e ∷ []));
  few_runs = omega (arith, all_runs-push entries e);
  apart = AreApart-push entries e are.apart absent;
}

-- the first entries of a table
pub AreDistinct-take : (keep : ℕ) (entries : List Entry) → AreDistinct entries → AreDistinct (take keep entries)
AreDistinct-take keep entries are = record {
  few = omega (arith, length-take keep entries, are.few);
  few_runs = omega (arith, all_runs-cut keep entries, are.few_runs);
  apart = λ m n e h k. are.apart m n e (place_in_take keep entries m e h) (place_in_take keep entries n e k);
}

-- entries without repeats that name earlier ones are those of a dictionary
pub interned : (entries : List Entry) → AreDistinct entries → NameEarlier entries → AreInterned entries
interned entries are earlier = record { few = are.few; few_runs = are.few_runs; earlier = earlier; apart = are.apart }

-- the first of the entries that name earlier ones
pub NameEarlier-take : (keep : ℕ) (entries : List Entry) → NameEarlier entries → NameEarlier (take keep entries)
NameEarlier-take keep entries earlier n e h = earlier n e (place_in_take keep entries n e h)

-- entries still name earlier ones where one was added that does
pub NameEarlier-interned : (old new : List Entry) (e : Entry) (result : Result ℕ DictFault) → NameEarlier old → CanIntern old e → Interns old e result new
    → NameEarlier new
NameEarlier-interned old new e (Ok n) earlier can has = let P : List Entry → Type 0 = NameEarlier in elim has.list [
  | inl there ↦ subst P (sym there.1) earlier
  | inr added ↦ subst P (sym added.1) (NameEarlier-push old e earlier can)
]
NameEarlier-interned old new e (Err (Full Entries)) earlier can has = let P : List Entry → Type 0 = NameEarlier in subst P (sym has.2) earlier
NameEarlier-interned old new e (Err (Full AllRuns)) earlier can has = let P : List Entry → Type 0 = NameEarlier in subst P (sym has.3) earlier
NameEarlier-interned old new e (Err Memory) earlier can has = let P : List Entry → Type 0 = NameEarlier in subst P (sym has) earlier

-- the entry that was found is there with that number
pub found_number : (keys now : List Entry) (e : Entry) (n : ℕ) → keys ≡ now → Some n ≡ position (entry_eq e) keys → HasNumber now now e n
found_number keys now e n is at =
    let P : List Entry → Type 0 = λ entries. HasNumber entries entries e n in
    let there = found_at keys e n (sym at) in
    subst P is (record { at = there; list = inl (is_there keys n e there, refl) })

-- the entry that was not found is not there
pub absent : (keys now : List Entry) (e : Entry) → keys ≡ now → false ≡ list_any (entry_eq e) keys → ¬ Contains now e
absent keys now e is none = let P : List Entry → Type 0 = λ entries. ¬ Contains entries e in subst P is (not_there keys e (sym none))

-- there would be too many runs
pub too_many : (keys now : List Entry) (e : Entry) (runs count : ℕ) → keys ≡ now → AreDistinct keys → runs ≡ all_runs keys → count ≡ length e.runs
    → length keys ≢ 1048576 → 16777216 < runs + count → (length now < 1048576) × (16777216 < all_runs now + length e.runs)
too_many keys now e runs count is are sum number other more =
    let P : List Entry → Type 0 = λ entries. (length entries < 1048576) × (16777216 < all_runs entries + length e.runs) in
    let few = are.few in subst P is (omega arith, omega arith)

-- the keys with one more are entries without repeats
pub added : (keys new : List Entry) (e : Entry) (runs count : ℕ) → AreDistinct keys → runs ≡ all_runs keys → count ≡ length e.runs
    → false ≡ list_any (entry_eq e) keys → length keys ≢ 1048576 → runs + count ≤ 16777216
    → new ≡ (if list_any (entry_eq e) keys then keys else keys ++ e ∷ []) → (runs + count ≡ all_runs new) × AreDistinct new
added keys new e runs count are sum number none other most is =
    let last : new ≡ keys ++ e ∷ [] = is ∙ ap (λ t. if t then keys else keys ++ e ∷ []) (sym none) in
    let few = are.few in
    let P : List Entry → Type 0 = λ entries. (runs + count ≡ all_runs entries) × AreDistinct entries in
    subst P (sym last) (
      omega (arith, all_runs-push keys e),
      AreDistinct-push keys e are (not_there keys e (sym none)) (omega arith) (omega arith),
    )

-- the entry that was added stands last
pub added_last : (keys now new : List Entry) (e : Entry) (n : ℕ) → keys ≡ now → false ≡ list_any (entry_eq e) keys
    → new ≡ (if list_any (entry_eq e) keys then keys else keys ++ e ∷ [])
    → (found : Entry) × (slice_get new n ≡ Some found) × (entry_eq e found ≡ true) → HasNumber now new e n
added_last keys now new e n is none last stored =
    let P : List Entry → Type 0 = λ entries. (¬ Contains entries e) × (new ≡ entries ++ e ∷ []) in
    record {
      at = stored.1 ∙ ap Some (sym ((entry_decides e stored.0).0 stored.2));
      list = inr (subst P is (not_there keys e (sym none), last ∙ ap (λ t. if t then keys else keys ++ e ∷ []) (sym none)));
    }

-- the runs of the newest entries are among all runs
pub newest_runs : (keep runs gone : ℕ) (entries newest : List Entry) → runs ≡ all_runs entries → newest ≡ drop keep entries → gone ≡ all_runs newest
    → (gone ≤ runs) × (runs - gone ≡ all_runs (take keep entries))
newest_runs keep runs gone entries newest sum is count =
    let cut = all_runs-cut keep entries in let same : gone ≡ all_runs (drop keep entries) = count ∙ ap all_runs is in (omega arith, omega arith)

-- there are no more runs of the newest entries than of all
pub few_newest : (keep : ℕ) (entries newest : List Entry) → AreDistinct entries → newest ≡ drop keep entries → all_runs newest ≤ 16777216
few_newest keep entries newest are is =
    let cut = all_runs-cut keep entries in let few = are.few_runs in
    let same : all_runs newest ≡ all_runs (drop keep entries) = ap all_runs is in omega arith

-- no entries are those of a dictionary
pub none_interned : (entries : List Entry) → entries ≡ [] → AreInterned entries
none_interned entries none =
    subst AreInterned (sym none)
    (record { few = omega arith; few_runs = omega arith; earlier = λ n e h. absurd (none-some e h); apart = λ m n e h k. absurd (none-some e h) })
