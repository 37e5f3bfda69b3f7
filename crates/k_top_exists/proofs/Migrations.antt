-- A profile of format 1 has one of format 2 that it becomes: its entries are interned one by one, and there is room for all of them.
use Rattle.std.proofs.Common.{◌≡◌, ◌⊎◌, inl, inr, ℕ, ◌+◌, ◌<◌, ◌≤◌, List, [], ◌∷◌, ◌++◌, length, Contains, refl, arith}
use Rattle.std.proofs.lemmas.Bool.{cases_lt}
use Rattle.k_dict_entries.specs.Entries.{AreDistinct, AreInterned, all_runs, trees_of}
use Rattle.k_dict_entries.specs.Interning.{CanIntern, HasNumber}
use Rattle.k_dict_entries.specs.declared.dict.DictFault.TheVariants.{Full}
use Rattle.k_dict_entries.specs.declared.dict.Which.TheVariants.{Entries, AllRuns}
use Rattle.k_dict_entries.specs.declared.entry.Entry.{Entry}
use Rattle.k_dict_entries.proofs.Numbers.{IsAbsent, IsIn, absent_is, is_in_or_absent}
use Rattle.k_dict_entries.proofs.Places.{is_there, place_behind}
use Rattle.k_dict_entries.proofs.Pushes.{AreDistinct-push, NameEarlier-push, interned}
use Rattle.k_dict_saved.specs.Formats.{HaveRuns}
use Rattle.k_dict_saved.specs.declared.format.Format.TheVariants.{One}
use Rattle.k_dict_saved.specs.Migration.{AreOfShapes, renumbered_entry}
use Rattle.k_dict_saved.specs.Profile.{IsMigrated, IsOld, IsSaved}
use Rattle.k_dict_saved.specs.declared.saved.Old.{Old}
use Rattle.k_dict_saved.specs.declared.saved.Saved.{Saved}
use Rattle.k_dict_saved.proofs.Migrated.{is_migrated, is_saved}
use Rattle.k_dict_saved.proofs.Migrating.{Migrating, can_intern, migrating_done, migrating_more, migrating_start, never_full}

-- entries that are interned with one more, and its number
abbrev Interned : List Entry → Entry → Type 0
Interned dict d = (new : List Entry) × (n : ℕ) × AreInterned new × HasNumber dict new d n

-- an entry that is there
interned_there : (dict : List Entry) (d : Entry) → AreInterned dict → IsIn dict d → Interned dict d
interned_there dict d are there = (dict, there.0, are, record { at = there.1; list = inl (is_there dict there.0 d there.1, refl) })

-- an entry that is not, where there is room for it
interned_anew : (dict : List Entry) (d : Entry) → AreInterned dict → CanIntern dict d → IsAbsent dict d → length dict < 1048576
    → all_runs dict + length d.runs ≤ 16777216 → Interned dict d
interned_anew dict d are can absent room runs =
    let none : ¬ Contains dict d = absent_is dict d absent in
    let distinct : AreDistinct dict = record { few = are.few; few_runs = are.few_runs; apart = are.apart } in (
      dict ++ d ∷ [],
      length dict,
      interned (dict ++ d ∷ []) (AreDistinct-push dict d distinct none room runs) (NameEarlier-push dict d are.earlier can),
      record { at = place_behind dict d []; list = inr (none, refl) },
    )

-- the entries of the shapes of entries of format 1
abbrev HasShapes : List Entry → Type 0
HasShapes entries = (dict : List Entry) × AreOfShapes (trees_of entries) dict × AreInterned dict

module _ (entries : List Entry) (runs : HaveRuns One entries) (distinct : AreDistinct entries) where
  -- one more entry can be interned
  intern_next : (rest later dict : List Entry) (numbers : List ℕ) (e : Entry) → Migrating entries rest dict numbers → rest ≡ e ∷ later
      → Interned dict (renumbered_entry numbers e)
  intern_next rest later dict numbers e at is = by (is_in_or_absent dict (renumbered_entry numbers e))
    where
      by : IsIn dict (renumbered_entry numbers e) ⊎ IsAbsent dict (renumbered_entry numbers e) → Interned dict (renumbered_entry numbers e)
      by (inl there) = interned_there dict (renumbered_entry numbers e) at.interned there
      by (inr absent) =
          let d : Entry = renumbered_entry numbers e in
          let none : ¬ Contains dict d = absent_is dict d absent in
          let few = at.interned.few in
          elim (cases_lt (length dict) 1048576) [
            | inl room ↦ elim (cases_lt 16777216 (all_runs dict + length d.runs)) [
              | inl many ↦ absurd (never_full entries rest later dict numbers e at is runs distinct dict d refl (Full AllRuns) AllRuns refl (none, room, many, refl))
              | inr fits ↦ interned_anew dict d at.interned (can_intern entries rest later dict numbers e at is runs d refl) absent room fits
            ]
            | inr full ↦ (let all : length dict ≡ 1048576 = omega arith in
                absurd (never_full entries rest later dict numbers e at is runs distinct dict d refl (Full Entries) Entries refl (none, all, refl)))
          ]

  -- all that are left are interned
  migrate_rest : (rest dict : List Entry) (numbers : List ℕ) → Migrating entries rest dict numbers → HasShapes entries
  migrate_rest [] dict numbers at = (dict, migrating_done entries [] dict numbers at refl, at.interned)
  migrate_rest (e ∷ later) dict numbers at =
      let next = intern_next (e ∷ later) later dict numbers e at refl in
      migrate_rest later next.0 (numbers ++ next.1 ∷ [])
      (migrating_more entries (e ∷ later) later dict numbers e at refl runs next.0 (renumbered_entry numbers e) next.1 refl next.2 next.3 (numbers ++ next.1 ∷ []) refl)

  has_shapes : HasShapes entries
  has_shapes = migrate_rest entries [] [] (migrating_start entries [] [] refl refl)

-- a profile of format 1 becomes one of format 2
pub old_is_migrated : (old : Old) → IsOld old → (saved : Saved) × IsSaved saved × IsMigrated old saved
old_is_migrated old is =
    let made = has_shapes old.entries is.entries.runs is.entries.distinct in
    let saved : Saved = record { exit = old.exit; ops = old.ops; regions = old.regions; dict = made.0 } in
    (saved, is_saved old saved is refl refl refl made.1 made.2, is_migrated old saved is refl refl refl made.1 made.2)
