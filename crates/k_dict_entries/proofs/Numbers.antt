-- The number of an entry among entries.
use Rattle.std.proofs.Common.{◌≡◌, ℕ, zero, suc, ◌<◌, ◌⊎◌, inl, inr, Bool, true, false, ◌&&◌, nat_eq, true≢false, List, [], ◌∷◌, ◌++◌, length, Some, slice_get, Contains, get_or, refl, sym, ap, ◌∙◌, subst, if◌then◌else◌}
use Rattle.std.proofs.lemmas.Option.{none-some, same_Some, slice_get-get_or, slice_get_within, get_or_from_slice_get}
use Rattle.k_dict_entries.specs.Gathering.{is_entry, number_of, with_entry}
use Rattle.k_dict_entries.specs.declared.entry.Entry.{Entry}
use Rattle.k_dict_entries.proofs.Equal.{entry_decides}

-- an entry stands among entries
abbrev pub IsIn : List Entry → Entry → Type 0
IsIn entries e = (n : ℕ) × (slice_get entries n ≡ Some e)

-- an entry does not stand among entries
abbrev pub IsAbsent : List Entry → Entry → Type 0
IsAbsent entries e = (n : ℕ) → slice_get entries n ≡ Some e → ⊥

module _ (d : Entry) (entries : List Entry) (e : Entry) where
  number-here : d ≡ e → number_of (d ∷ entries) e ≡ 0
  number-here same = ap (λ b. if b then 0 else suc (number_of entries e)) ((entry_decides e d).1 (sym same))

  number-there : ¬ (d ≡ e) → number_of (d ∷ entries) e ≡ suc (number_of entries e)
  number-there other = by (is_entry e d) refl
    where
      by : (b : Bool) → is_entry e d ≡ b → number_of (d ∷ entries) e ≡ suc (number_of entries e)
      by true h = absurd (other (sym ((entry_decides e d).0 h)))
      by false h = ap (λ b. if b then 0 else suc (number_of entries e)) h

  with-here : d ≡ e → with_entry (d ∷ entries) e ≡ d ∷ entries
  with-here same = ap (λ b. if b then d ∷ entries else d ∷ with_entry entries e) ((entry_decides e d).1 (sym same))

  with-there : ¬ (d ≡ e) → with_entry (d ∷ entries) e ≡ d ∷ with_entry entries e
  with-there other = by (is_entry e d) refl
    where
      by : (b : Bool) → is_entry e d ≡ b → with_entry (d ∷ entries) e ≡ d ∷ with_entry entries e
      by true h = absurd (other (sym ((entry_decides e d).0 h)))
      by false h = ap (λ b. if b then d ∷ entries else d ∷ with_entry entries e) h

  -- the first of the entries is this one or not
  pub is_first : (d ≡ e) ⊎ (¬ (d ≡ e))
  is_first = by (is_entry e d) refl
    where
      by : (b : Bool) → is_entry e d ≡ b → (d ≡ e) ⊎ (¬ (d ≡ e))
      by true h = inl (sym ((entry_decides e d).0 h))
      by false h = inr (λ same. true≢false (sym ((entry_decides e d).1 (sym same)) ∙ h))

-- an entry stands among entries or not
pub is_in_or_absent : (entries : List Entry) (e : Entry) → IsIn entries e ⊎ IsAbsent entries e
is_in_or_absent [] e = inr (λ n at. none-some e at)
is_in_or_absent (d ∷ entries) e = elim (is_first d entries e) [
  | inl same ↦ inl (0, ap Some same)
  | inr other ↦ elim (is_in_or_absent entries e) [
    | inl there ↦ inl (suc there.0, there.1)
    | inr absent ↦ inr (nowhere d entries e other absent)
  ]
]
  where
    nowhere : (d : Entry) (entries : List Entry) (e : Entry) → ¬ (d ≡ e) → IsAbsent entries e → IsAbsent (d ∷ entries) e
    nowhere d entries e other absent zero at = other (same_Some d e at)
    nowhere d entries e other absent (suc n) at = absent n at

-- an entry that is not contained is absent
pub not_contained : (entries : List Entry) (e : Entry) → ¬ Contains entries e → IsAbsent entries e
not_contained entries e none n at = none (n, slice_get_within entries n e at, get_or_from_slice_get entries n e e at)

-- an absent entry is not contained
pub absent_is : (entries : List Entry) (e : Entry) → IsAbsent entries e → ¬ Contains entries e
absent_is entries e absent there = absent there.0 (slice_get-get_or entries there.0 e there.1 ∙ ap Some there.2)

-- an entry stands at its number
pub number_found : (entries : List Entry) (e : Entry) (n : ℕ) → slice_get entries n ≡ Some e → slice_get entries (number_of entries e) ≡ Some e
number_found [] e n at = absurd (none-some e at)
number_found (d ∷ entries) e zero at = ap (λ k. slice_get (d ∷ entries) k) (number-here d entries e (same_Some d e at)) ∙ at
number_found (d ∷ entries) e (suc n) at = elim (is_first d entries e) [
  | inl same ↦ ap (λ k. slice_get (d ∷ entries) k) (number-here d entries e same) ∙ ap Some same
  | inr other ↦ ap (λ k. slice_get (d ∷ entries) k) (number-there d entries e other) ∙ number_found entries e n at
]

-- an entry keeps its number where entries follow
pub number_kept : (entries more : List Entry) (e : Entry) (n : ℕ) → slice_get entries n ≡ Some e → number_of (entries ++ more) e ≡ number_of entries e
number_kept [] more e n at = absurd (none-some e at)
number_kept (d ∷ entries) more e zero at =
    number-here d (entries ++ more) e (same_Some d e at) ∙ sym (number-here d entries e (same_Some d e at))
number_kept (d ∷ entries) more e (suc n) at = elim (is_first d entries e) [
  | inl same ↦ number-here d (entries ++ more) e same ∙ sym (number-here d entries e same)
  | inr other ↦ number-there d (entries ++ more) e other ∙ ap suc (number_kept entries more e n at) ∙ sym (number-there d entries e other)
]

-- an absent entry has the number of the next one
pub number_absent : (entries : List Entry) (e : Entry) → IsAbsent entries e → number_of entries e ≡ length entries
number_absent [] e absent = refl
number_absent (d ∷ entries) e absent =
    number-there d entries e (λ same. absent 0 (ap Some same)) ∙ ap suc (number_absent entries e (λ n at. absent (suc n) at))

-- and keeps it when it is added
pub number_added : (entries : List Entry) (e : Entry) → IsAbsent entries e → number_of (entries ++ e ∷ []) e ≡ number_of entries e
number_added [] e absent = number-here e [] e refl
number_added (d ∷ entries) e absent =
    let other : ¬ (d ≡ e) = λ same. absent 0 (ap Some same) in
    number-there d (entries ++ e ∷ []) e other ∙ ap suc (number_added entries e (λ n at. absent (suc n) at)) ∙ sym (number-there d entries e other)

-- nothing is added where the entry is there
pub with_there : (entries : List Entry) (e : Entry) (n : ℕ) → slice_get entries n ≡ Some e → with_entry entries e ≡ entries
with_there [] e n at = absurd (none-some e at)
with_there (d ∷ entries) e zero at = with-here d entries e (same_Some d e at)
with_there (d ∷ entries) e (suc n) at = elim (is_first d entries e) [
  | inl same ↦ with-here d entries e same
  | inr other ↦ with-there d entries e other ∙ ap (λ l. d ∷ l) (with_there entries e n at)
]

-- an absent entry is added last
pub with_absent : (entries : List Entry) (e : Entry) → IsAbsent entries e → with_entry entries e ≡ entries ++ e ∷ []
with_absent [] e absent = refl
with_absent (d ∷ entries) e absent =
    with-there d entries e (λ same. absent 0 (ap Some same)) ∙ ap (λ l. d ∷ l) (with_absent entries e (λ n at. absent (suc n) at))
