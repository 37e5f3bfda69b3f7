-- The arguments of `merge`, one after another.
use Rattle.std.proofs.Common.{◌≡◌, ◌+◌, ◌<◌, ◌≤◌, ◌∙◌, ℕ, Bool, if◌then◌else◌, List, [], ◌∷◌, length, Option, Some, None, ap, arith, inl, inr, refl, string_bytes, subst, sym, zero-add}
use Rattle.std.proofs.Math.Bool.{or-true}
use Rattle.std.proofs.lemmas.Bool.{lt-ltb, le-ltb}
use Rattle.std.proofs.lemmas.List.{length-map}
use Rattle.std.proofs.lemmas.Option.{none-some, slice_get-get_or, slice_get_past, slice_get_within}
use Rattle.std.specs.Prelude.{String, slice_get}
use Rattle.std.specs.declared.alloc.Global.{Global}
use Rattle.k_words.specs.declared.usage.Usage.{Usage}
use Rattle.k_words.specs.declared.usage.Usage.TheVariants.{NoFile, UnknownWord}
use Rattle.k_words.specs.Settings.{IsFirst, seen_words}
use Rattle.k_words.specs.Parts.{parts_of}
use Rattle.k_words.specs.Within.{AreParts, IsWithin}
use Rattle.k_words.specs.Words.{AreRight, is_no_file, merge_fault, merged_fault}
use Rattle.k_words.proofs.Naming.{once_of, times_of}
use Rattle.k_words.proofs.Reading.{below_next, below_or_past}

-- so many arguments name files, and none of them is one too many
pub record NameFiles (words : List (List ℕ)) (k number : ℕ) : Type 0 where
  pub at : number ≡ k
  pub few : number ≤ 4097
  pub right : (j : ℕ) → j < k → merge_fault words j ≡ None

-- an argument is missing, or it may be
missing_early : (words : List (List ℕ)) (k : ℕ) → length words ≤ k → k < 3 → merge_fault words k ≡ Some NoFile
missing_early words k past low = ap (λ o. merged_fault o k) (slice_get_past words k past) ∙ ap (λ (b : Bool). if b then Some NoFile else None) (lt-ltb k 3 low)

pub missing_late : (words : List (List ℕ)) (k : ℕ) → length words ≤ k → 3 ≤ k → merge_fault words k ≡ None
missing_late words k past high = ap (λ o. merged_fault o k) (slice_get_past words k past) ∙ ap (λ (b : Bool). if b then Some NoFile else None) (le-ltb k 3 high)

module _ (words : List (List ℕ)) (k number : ℕ) (names : NameFiles words k number) where
  -- the fault of a word is that of its place
  fault_here : (word : List ℕ) → slice_get words k ≡ Some word → merge_fault words k ≡ merged_fault (Some word) number
  fault_here word is = ap (λ o. merged_fault o k) is ∙ ap (λ n. merged_fault (Some word) n) (sym names.at)

  -- the first argument that is wrong
  pub first_wrong : (word : List ℕ) (fault : Usage) → slice_get words k ≡ Some word → merged_fault (Some word) number ≡ Some fault → IsFirst (merge_fault words) fault
  first_wrong word fault is wrong = record { at = k; wrong = fault_here word is ∙ wrong; before = names.right }

  -- one more that is right
  pub name_more : (word : List ℕ) → slice_get words k ≡ Some word → merged_fault (Some word) number ≡ None → number ≤ 4096 → NameFiles words (k + 1) (number + 1)
  name_more word is fine few = record {
    at = ap (λ n. n + 1) names.at;
    few = omega (arith, few);
    right = λ j below. elim (below_next k j below) [
      | inl earlier ↦ names.right j earlier
      | inr here ↦ subst (λ n. merge_fault words n ≡ None) (sym here) (fault_here word is ∙ fine)
    ];
  }

  module _ (past : length words ≤ k) where
    -- the first argument is missing of those that have to be there
    pub missing : number < 3 → IsFirst (merge_fault words) NoFile
    missing low = record { at = k; wrong = missing_early words k past (omega (arith, low, names.at)); before = names.right }

    -- all are right
    pub name_all : 3 ≤ number → AreRight (merge_fault words)
    name_all high = λ j. elim (below_or_past j k) [
      | inl earlier ↦ names.right j earlier
      | inr later ↦ missing_late words j (omega (arith, past, later)) (omega (arith, high, later, names.at))
    ]

-- how many files right arguments name: there is a third word
third : (words : List (List ℕ)) (o : Option (List ℕ)) → slice_get words 2 ≡ o → merged_fault o 2 ≡ None → 2 < length words
third words None is right = absurd (none-some _ (sym right))
third words (Some word) is right = slice_get_within words 2 word is

-- and none behind the last that may be
last : (words : List (List ℕ)) (o : Option (List ℕ)) → slice_get words 4097 ≡ o → merged_fault o 4097 ≡ None → o ≡ None
last words None is right = refl
last words (Some word) is right =
    absurd (none-some _ (sym right ∙ ap (λ (b : Bool). if b then Some (UnknownWord 4098) else None) (or-true (is_no_file word))))

files_within : (save : List ℕ) (files : List (List ℕ)) → AreRight (merge_fault (save ∷ files)) → IsWithin 2 4096 (length files)
files_within save files right =
    let some : 2 < length (save ∷ files) = third (save ∷ files) (slice_get (save ∷ files) 2) refl (right 2) in
    let none : slice_get files 4096 ≡ None = last (save ∷ files) (slice_get (save ∷ files) 4097) refl (right 4097) in
    record { at_least = omega (arith, some); at_most = short files none }
  where
    short : (files : List (List ℕ)) → slice_get files 4096 ≡ None → length files ≤ 4096
    short files none = elim (below_or_past 4096 (length files)) [
      | inl there ↦ absurd (none-some _ (sym none ∙ slice_get-get_or files 4096 [] there))
      | inr past ↦ past
    ]

-- right arguments name few files
pub few_files : (arguments : List (List ℕ)) (save : List ℕ) (files : List (List ℕ)) → arguments ≡ save ∷ files → AreRight (merge_fault arguments) → length files ≤ 4096
few_files arguments save files split right = (files_within save files (subst (λ words. AreRight (merge_fault words)) split right)).at_most

-- so many words as their bytes
pub few_words : (words : List (String Global)) → length (seen_words words) ≤ 4096 → length words ≤ 4096
few_words words few = let same = length-map words string_bytes in omega (arith, few, same)

-- and their files are to be put together
pub are_parts : (save : List ℕ) (files : List (List ℕ)) → AreRight (merge_fault (save ∷ files)) → AreParts (parts_of [] files)
are_parts save files right =
    let within = files_within save files right in
    record { once = once_of [] files tt; count = subst (λ n. IsWithin 2 4096 n) (sym (times_of [] files ∙ zero-add (length files))) within }
