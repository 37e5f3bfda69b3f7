-- Profiles and their files: what is read of a file is its profile, and what is made of one of format 1.
use Rattle.std.proofs.Common.{◌≡◌, ℕ, ◌+◌, inl, inr, length, Result, Ok, Err, refl, sym, ap, ◌∙◌, subst, arith}
use Rattle.k_dict_entries.specs.Dictionary.{IsDictionaryOf}
use Rattle.k_dict_entries.specs.Entries.{NameEarlier, expansion, tree_at}
use Rattle.k_dict_entries.specs.Laws.{AreAlike}
use Rattle.k_dict_entries.proofs.Forests.{SameShape-sym}
use Rattle.k_dict_entries.proofs.Pushes.{interned}
use Rattle.k_dict_entries.proofs.Unique.{one_dictionary, root_is}
use Rattle.k_dict_saved.specs.FileText.{file_text}
use Rattle.k_dict_saved.specs.Files.{IsFile}
use Rattle.k_dict_saved.specs.Formats.{HaveRuns, IsAccepted}
use Rattle.k_dict_saved.specs.declared.fault.SavedFault.{SavedFault}
use Rattle.k_dict_saved.specs.declared.fault.SavedFault.TheVariants as faults
use Rattle.k_dict_saved.specs.declared.file.File.{File}
use Rattle.k_dict_saved.specs.declared.format.Accepts.TheVariants.{OneAlone, Both}
use Rattle.k_dict_saved.specs.declared.format.Format.{Format}
use Rattle.k_dict_saved.specs.declared.format.Format.TheVariants.{One, Two}
use Rattle.k_dict_saved.proofs.Made.{no_file_wrong, one_text}
use Rattle.k_dict_saved.specs.Laws.{ReadsMigrated, ReadsOldOne, ReadsSaved}
use Rattle.k_dict_saved.specs.Profile.{IsMigrated, IsOld, IsSaved, Reads, ReadsOld, Spells}
use Rattle.k_dict_saved.specs.SavedText.{file_of_old, file_of_saved, old_text, saved_text}
use Rattle.k_dict_saved.specs.declared.saved.Old.{Old}
use Rattle.k_dict_saved.specs.declared.saved.Saved.{Saved}

-- a profile that can be saved is one whose file keeps the rules
pub saved_file : (v : Saved) → IsSaved v → IsFile (file_of_saved v)
saved_file v saved = record {
  exit = saved.exit;
  ops = saved.ops;
  regions = saved.regions;
  entries = record {
    some = saved.profile.some;
    distinct = record { few = saved.profile.interned.few; few_runs = saved.profile.interned.few_runs; apart = saved.profile.interned.apart };
    runs = saved.profile.interned.earlier;
    numbers = saved.profile.numbers;
    levels = saved.profile.levels;
    instances = saved.profile.instances;
  };
  in_list = saved.in_list;
  main = saved.main;
  none_left = saved.named;
}

-- a file in format 2 that keeps the rules is that of a profile that can be saved
pub file_saved : (v : Saved) → IsFile (file_of_saved v) → IsSaved v
file_saved v is = record {
  exit = is.exit;
  ops = is.ops;
  regions = is.regions;
  profile = record {
    some = is.entries.some;
    interned = interned v.dict is.entries.distinct is.entries.runs;
    numbers = is.entries.numbers;
    levels = is.entries.levels;
    instances = is.entries.instances;
  };
  in_list = is.in_list;
  main = is.main;
  named = is.none_left;
}

-- two profiles with one file are one
pub one_saved : (v w : Saved) → IsSaved v → IsSaved w → saved_text v ≡ saved_text w → v ≡ w
one_saved v w one other is =
    let same = one_text (file_of_saved v) (file_of_saved w) (saved_file v one) (saved_file w other) is in
    λ i. record { exit = (same i).exit; ops = (same i).ops; regions = (same i).regions; dict = (same i).entries }

pub one_old : (v w : Old) → IsOld v → IsOld w → old_text v ≡ old_text w → v ≡ w
one_old v w one other is =
    let same = one_text (file_of_old v) (file_of_old w) one other is in
    λ i. record { exit = (same i).exit; ops = (same i).ops; regions = (same i).regions; entries = (same i).entries }

-- no file is of both formats
pub no_both : (v : Saved) (w : Old) → IsSaved v → IsOld w → saved_text v ≡ old_text w → ⊥
no_both v w one other is = apart (ap (λ f. f.format) (one_text (file_of_saved v) (file_of_old w) (saved_file v one) other is))
  where
    apart : ◌≡◌ {A = Format} Two One → ⊥
    apart same = let P : Format → Type 0 = λ f. IsAccepted OneAlone f in subst P (sym same) tt

-- the file of a profile is read as that profile
pub read_of_write : (v : Saved) (result : Result Saved SavedFault) → IsSaved v → Reads (saved_text v) result → ReadsSaved v result
read_of_write v (Ok w) saved reads = elim reads.1 [
  | inl same ↦ one_saved w v reads.0 saved (sym same)
  | inr old ↦ absurd (no_both v old.0 saved old.1 old.2)
]
read_of_write v (Err (faults.NotSaved place)) saved reads = no_file_wrong Both (file_of_saved v) place tt (saved_file v saved) reads
read_of_write v (Err faults.Memory) saved reads = tt

-- the file of a profile of format 1 is read as that profile
pub read_of_old : (v : Old) (result : Result Old SavedFault) → IsOld v → ReadsOld (old_text v) result → ReadsOldOne v result
read_of_old v (Ok w) is reads = one_old w v reads.0 is (sym reads.1)
read_of_old v (Err (faults.NotSaved place)) is reads = no_file_wrong OneAlone (file_of_old v) place tt is reads
read_of_old v (Err faults.Memory) is reads = tt

-- or as what it becomes
pub read_migrated : (v : Old) (result : Result Saved SavedFault) → IsOld v → Reads (old_text v) result → ReadsMigrated v result
read_migrated v (Ok w) is reads = elim reads.1 [
  | inl same ↦ absurd (no_both w v reads.0 is (sym same))
  | inr old ↦ (let P : Old → Type 0 = λ o. IsMigrated o w in subst P (one_old old.0 v old.1 is (sym old.2)) old.3)
]
read_migrated v (Err (faults.NotSaved place)) is reads = no_file_wrong Both (file_of_old v) place tt is reads
read_migrated v (Err faults.Memory) is reads = tt

-- it becomes one profile
pub one_migration : (v : Old) (one other : Saved) → IsMigrated v one → IsMigrated v other → one ≡ other
one_migration v one other first second =
    let last = first.last in let last' = second.last in
    let same : second.root ≡ first.root = omega arith in
    let P : ℕ → Type 0 = λ n. IsDictionaryOf (tree_at v.entries n) other.dict in
    let dict : one.dict ≡ other.dict = one_dictionary (tree_at v.entries first.root) one.dict other.dict first.dict (subst P same second.dict) in
    let exit : one.exit ≡ other.exit = first.exit ∙ sym second.exit in
    let ops : one.ops ≡ other.ops = first.ops ∙ sym second.ops in
    let regions : one.regions ≡ other.regions = first.regions ∙ sym second.regions in
    λ i. record { exit = exit i; ops = ops i; regions = regions i; dict = dict i }

-- whose last entry stands for the old tree
pub migration_expands : (v : Old) (w : Saved) (is : IsMigrated v w)
    → (root : ℕ) × (length w.dict ≡ root + 1) × AreAlike (expansion w.dict root) (expansion v.entries is.root)
migration_expands v w is =
    let root = root_is (tree_at v.entries is.root) w.dict is.dict in
    (root.0, root.1, (tree_at w.dict root.0, tree_at v.entries is.root, refl, refl, SameShape-sym (tree_at v.entries is.root) (tree_at w.dict root.0) root.2))

-- the runs of a file of format 2
pub names_earlier : (file : File) → file.format ≡ Two → IsFile file → NameEarlier file.entries
names_earlier file two is = let P : Format → Type 0 = λ f. HaveRuns f file.entries in subst P two is.entries.runs

-- the profile of a file of format 2
pub two_saved : (file : File) (saved : Saved) → file.format ≡ Two → IsFile file → file_of_saved saved ≡ record file { format = Two }
    → IsSaved saved × Spells (file_text file) saved
two_saved file saved two is made =
    let same : file_of_saved saved ≡ file = made ∙ (λ i. record file { format = sym two i }) in
    let P : File → Type 0 = IsFile in
    (file_saved saved (subst P (sym same) is), inl (ap file_text (sym same)))
