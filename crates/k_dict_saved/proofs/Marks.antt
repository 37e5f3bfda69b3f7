-- Which entries are marked.
use Rattle.std.proofs.Common.{◌≡◌, ℕ, zero, suc, ◌+◌, ◌<◌, ◌≤◌, ◌⊎◌, inl, inr, Bool, true, false, ◌&&◌, List, [], ◌∷◌, length, get_or, set, Some, slice_get, refl, sym, ap, ◌∙◌, subst, arith, replicate}
use Rattle.std.proofs.lemmas.Bool.{and_parts, and_from, cases_order, false≢true}
use Rattle.std.proofs.lemmas.List.{get_or-replicate, get_or-set_other, get_or-set_same, length-replicate, length-set}
use Rattle.k_dict_entries.specs.Entries.{AreRuns, NameBelow, NameEarlier}
use Rattle.k_dict_saved.specs.Formats.{AreNamed, IsNamedBy, Names}
use Rattle.k_dict_saved.specs.Reading.{AllNameBelow, are_marked, marked, marked_all}
use Rattle.k_dict_entries.specs.declared.entry.Entry.{Entry}
use Rattle.k_dict_entries.specs.declared.entry.Run.{Run}
use Rattle.k_dict_entries.proofs.EntryTrees.{below_bound}

-- marking keeps the number of marks
pub length-marked : (marks : List Bool) (runs : List Run) → length (marked marks runs) ≡ length marks
length-marked marks [] = refl
length-marked marks (run ∷ runs) = length-marked (set marks run.entry true) runs ∙ length-set marks run.entry true

-- a mark is set where a run names its place, or was set before
pub marked_set : (marks : List Bool) (runs : List Run) (n : ℕ) → NameBelow (length marks) runs
    → (get_or (marked marks runs) n false ≡ true → (get_or marks n false ≡ true) ⊎ Names n runs)
    × ((get_or marks n false ≡ true) ⊎ Names n runs → get_or (marked marks runs) n false ≡ true)
marked_set marks [] n below = (λ h. inl h, λ h. elim h [ inl k ↦ k | inr k ↦ absurd k ])
marked_set marks (run ∷ runs) n below =
    let P : ℕ → Type 0 = λ k. NameBelow k runs in
    let later = marked_set (set marks run.entry true) runs n (subst P (sym (length-set marks run.entry true)) below.2) in
    let here : run.entry ≡ n → get_or (set marks run.entry true) n false ≡ true =
    λ same. ap (λ k. get_or (set marks run.entry true) k false) (sym same) ∙ get_or-set_same marks run.entry true false below.0 in (
      λ h. elim (later.0 h) [ inl k ↦ first k | inr k ↦ inr (inr k) ],
      λ h. later.1 (elim h [ inl k ↦ inl (before k) | inr k ↦ elim k [ inl same ↦ inl (here same) | inr more ↦ inr more ] ]),
    )
  where
    other : (run.entry ≡ n → ⊥) → get_or (set marks run.entry true) n false ≡ get_or marks n false
    other apart = get_or-set_other marks run.entry n true false (λ e. apart (sym e))

    first : get_or (set marks run.entry true) n false ≡ true → (get_or marks n false ≡ true) ⊎ Names n (run ∷ runs)
    first k = elim (cases_order run.entry n) [
      | inl same ↦ inr (inl same)
      | inr order ↦ inl (sym (other (λ e. elim order [ inl less ↦ absurd (omega arith) | inr more ↦ absurd (omega arith) ])) ∙ k)
    ]

    before : get_or marks n false ≡ true → get_or (set marks run.entry true) n false ≡ true
    before k = elim (cases_order run.entry n) [
      | inl same ↦ ap (λ m. get_or (set marks run.entry true) m false) (sym same) ∙ get_or-set_same marks run.entry true false below.0
      | inr order ↦ other (λ e. elim order [ inl less ↦ absurd (omega arith) | inr more ↦ absurd (omega arith) ]) ∙ k
    ]

-- the same of all entries
pub marked_all_set : (marks : List Bool) (entries : List Entry) (n : ℕ) → AllNameBelow (length marks) entries
    → (get_or (marked_all marks entries) n false ≡ true → (get_or marks n false ≡ true) ⊎ IsNamedBy n entries)
    × ((get_or marks n false ≡ true) ⊎ IsNamedBy n entries → get_or (marked_all marks entries) n false ≡ true)
marked_all_set marks [] n below = (λ h. inl h, λ h. elim h [ inl k ↦ k | inr k ↦ absurd k ])
marked_all_set marks (e ∷ entries) n below =
    let P : ℕ → Type 0 = λ k. AllNameBelow k entries in
    let one = marked_set marks e.runs n below.0 in
    let later = marked_all_set (marked marks e.runs) entries n (subst P (sym (length-marked marks e.runs)) below.1) in (
      λ h. elim (later.0 h) [ inl k ↦ elim (one.0 k) [ inl set ↦ inl set | inr named ↦ inr (inl named) ] | inr k ↦ inr (inr k) ],
      λ h. later.1 (elim h [ inl k ↦ inl (one.1 (inl k)) | inr k ↦ elim k [ inl named ↦ inl (one.1 (inr named)) | inr more ↦ inr more ] ]),
    )

-- so does marking by all entries
pub length-marked_all : (marks : List Bool) (entries : List Entry) → length (marked_all marks entries) ≡ length marks
length-marked_all marks [] = refl
length-marked_all marks (e ∷ entries) = length-marked_all (marked marks e.runs) entries ∙ length-marked marks e.runs

-- all are marked but the last
all_but_last : (marks : List Bool)
    → (are_marked marks ≡ true → (n : ℕ) → n + 1 < length marks → get_or marks n false ≡ true)
    × (((n : ℕ) → n + 1 < length marks → get_or marks n false ≡ true) → are_marked marks ≡ true)
all_but_last [] = (λ h n less. absurd (omega arith), λ h. refl)
all_but_last (m ∷ []) = (λ h n less. absurd (omega arith), λ h. refl)
all_but_last (m ∷ l ∷ marks) =
    let later = all_but_last (l ∷ marks) in
    (λ h n less. to later.0 n h less, λ h. and_from m (are_marked (l ∷ marks)) (h 0 (omega arith)) (later.1 (λ n less. h (suc n) (omega arith))))
  where
    to : (are_marked (l ∷ marks) ≡ true → (n : ℕ) → n + 1 < length (l ∷ marks) → get_or (l ∷ marks) n false ≡ true) → (n : ℕ) → (m && are_marked (l ∷ marks)) ≡ true → n + 1 < length (m ∷ l ∷ marks) → get_or (m ∷ l ∷ marks) n false ≡ true
    to later zero h less = (and_parts m (are_marked (l ∷ marks)) h).0
    to later (suc n) h less = later (and_parts m (are_marked (l ∷ marks)) h).1 n (omega arith)

-- entries that name earlier ones name entries of the list
pub all_below : (entries : List Entry) → NameEarlier entries → AllNameBelow (length entries) entries
all_below entries earlier = by 0 entries (λ n e h. first n e h) (omega arith)
  where
    first : (n : ℕ) (e : Entry) → slice_get entries n ≡ Some e → AreRuns 0 (0 + n) e.runs
    first n e h = let P : ℕ → Type 0 = λ k. AreRuns 0 k e.runs in let place : n ≡ 0 + n = omega arith in subst P place (earlier n e h)

    raise : (n m : ℕ) (runs : List Run) → n ≤ m → NameBelow n runs → NameBelow m runs
    raise n m [] le below = tt
    raise n m (run ∷ runs) le below = let here = below.0 in (omega arith, below.1, raise n m runs le below.2)

    by : (start : ℕ) (list : List Entry) → ((n : ℕ) (e : Entry) → slice_get list n ≡ Some e → AreRuns 0 (start + n) e.runs) → start + length list ≤ length entries
        → AllNameBelow (length entries) list
    by start [] each few = tt
    by start (e ∷ list) each few =
        let P : ℕ → Type 0 = λ k. k ≤ length entries in (
          raise (start + 0) (length entries) e.runs (omega arith) (below_bound 0 (start + 0) e.runs (each 0 e refl)),
          by (suc start) list (λ n x h. shift n x h) (omega arith),
        )
      where
        shift : (n : ℕ) (x : Entry) → slice_get list n ≡ Some x → AreRuns 0 (suc start + n) x.runs
        shift n x h = let P : ℕ → Type 0 = λ k. AreRuns 0 k x.runs in let place : start + suc n ≡ suc start + n = omega arith in subst P place (each (suc n) x h)

module _ (entries : List Entry) (earlier : NameEarlier entries) where
  marks_length : length (marked_all (replicate (length entries) false) entries) ≡ length entries
  marks_length = length-marked_all (replicate (length entries) false) entries ∙ length-replicate (length entries) false

  unmarked : (n : ℕ) → n < length entries → get_or (replicate (length entries) false) n false ≡ true → ⊥
  unmarked n less h = false≢true (sym (get_or-replicate (length entries) n false false less) ∙ h)

  pub below_marks : AllNameBelow (length (replicate (length entries) false)) entries
  below_marks = let P : ℕ → Type 0 = λ k. AllNameBelow k entries in subst P (sym (length-replicate (length entries) false)) (all_below entries earlier)

  -- the marks tell whether each entry but the last is named
  pub marks_tell : (are_marked (marked_all (replicate (length entries) false) entries) ≡ true → AreNamed entries)
      × (AreNamed entries → are_marked (marked_all (replicate (length entries) false) entries) ≡ true)
  marks_tell =
      let both = all_but_last (marked_all (replicate (length entries) false) entries) in let count = marks_length in (
        λ h n less. elim ((marked_all_set (replicate (length entries) false) entries n below_marks).0 (both.0 h n (omega arith))) [
          | inl k ↦ absurd (unmarked n (omega arith) k)
          | inr named ↦ named
        ],
        λ named. both.1 (λ n less. (marked_all_set (replicate (length entries) false) entries n below_marks).1 (inr (named n (omega arith)))),
      )
