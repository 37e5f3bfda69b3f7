-- Files, each once, with how often it is named.
use Rattle.std.proofs.Common.{◌≡◌, ◌≢◌, ◌+◌, ◌<◌, ◌≤◌, ◌∙◌, ℕ, suc, zero, Bool, true, false, if◌then◌else◌, nat_eq, List, [], ◌∷◌, ◌++◌, drop, get_or, length, Some, ap, arith, refl, slice_get, slice_set, string_bytes, subst, sym}
use Rattle.std.specs.Cmp.{unsigned_Decides}
use Rattle.std.proofs.lemmas.Slice.Eq.{slice_eq-Decides}
use Rattle.std.proofs.lemmas.List.{drop_more}
use Rattle.std.proofs.lemmas.Option.{none-some, same_Some, slice_get_read}
use Rattle.std.specs.Prelude.{String}
use Rattle.std.specs.declared.alloc.Global.{Global}
use Rattle.std.specs.Cmp.Lexicographic.{pointwise}
use Rattle.k_words.specs.declared.merging.Part.{Part}
use Rattle.k_words.specs.Settings.{seen_words}
use Rattle.k_words.specs.Parts.{AreNamedOnce, HaveNot, all_times, parts_of, place_of, with_file}

-- one time more
abbrev once_more : Part → Part
once_more part = record { file = part.file; times = part.times + 1 }

-- a file that is there counts once more where it stands
pub named_again : (parts : List Part) (file : List ℕ) (part : Part) → slice_get parts (place_of parts file) ≡ Some part
    → with_file parts file ≡ slice_set parts (place_of parts file) (once_more part)
named_again [] file part is = absurd (none-some _ is)
named_again (first ∷ parts) file part is = by (λ there. named_again parts file part there) (pointwise nat_eq first.file file) is
  where
    by : (slice_get parts (place_of parts file) ≡ Some part → with_file parts file ≡ slice_set parts (place_of parts file) (once_more part)) → (b : Bool)
        → slice_get (first ∷ parts) (if b then zero else suc (place_of parts file)) ≡ Some part
        → (if b then once_more first ∷ parts else first ∷ with_file parts file)
        ≡ slice_set (first ∷ parts) (if b then zero else suc (place_of parts file)) (once_more part)
    by later true is = ap (λ p. once_more p ∷ parts) (same_Some first part is)
    by later false is = ap (λ list. first ∷ list) (later is)

-- one that is not there stands last
pub named_first : (parts : List Part) (file : List ℕ) → length parts ≤ place_of parts file → with_file parts file ≡ parts ++ record { file = file; times = 1 } ∷ []
named_first [] file past = refl
named_first (first ∷ parts) file past = by (λ later. named_first parts file later) (pointwise nat_eq first.file file) past
  where
    by : (length parts ≤ place_of parts file → with_file parts file ≡ parts ++ record { file = file; times = 1 } ∷ []) → (b : Bool)
        → length (first ∷ parts) ≤ (if b then zero else suc (place_of parts file))
        → (if b then once_more first ∷ parts else first ∷ with_file parts file) ≡ (first ∷ parts) ++ record { file = file; times = 1 } ∷ []
    by rest true past = absurd (omega (arith, past))
    by rest false past = ap (λ list. first ∷ list) (rest (omega (arith, past)))

-- a name more is one time more
pub times_with : (parts : List Part) (file : List ℕ) → all_times (with_file parts file) ≡ all_times parts + 1
times_with [] file = refl
times_with (first ∷ parts) file = by (times_with parts file) (pointwise nat_eq first.file file)
  where
    by : all_times (with_file parts file) ≡ all_times parts + 1 → (b : Bool)
        → all_times (if b then once_more first ∷ parts else first ∷ with_file parts file) ≡ (first.times + all_times parts) + 1
    by more true = omega arith
    by more false = omega (arith, more)

pub times_of : (parts : List Part) (words : List (List ℕ)) → all_times (parts_of parts words) ≡ all_times parts + length words
times_of parts [] = omega arith
times_of parts (word ∷ words) = let first = times_with parts word in let rest = times_of (with_file parts word) words in omega (arith, first, rest)

-- a part's times are some of all
pub part_times : (parts : List Part) (n : ℕ) (part : Part) → slice_get parts n ≡ Some part → part.times ≤ all_times parts
part_times [] n part is = absurd (none-some _ is)
part_times (first ∷ parts) zero part is = let same = ap (λ (p : Part). p.times) (same_Some first part is) in omega (arith, same)
part_times (first ∷ parts) (suc n) part is = let below = part_times parts n part is in omega (arith, below)

-- each file stands once
have_not_with : (name : List ℕ) (parts : List Part) (file : List ℕ) → HaveNot name parts → file ≢ name → HaveNot name (with_file parts file)
have_not_with name [] file none other = (other, tt)
have_not_with name (first ∷ parts) file none other = by (have_not_with name parts file none.1 other) (pointwise nat_eq first.file file)
  where
    by : HaveNot name (with_file parts file) → (b : Bool) → HaveNot name (if b then once_more first ∷ parts else first ∷ with_file parts file)
    by rest true = none
    by rest false = (none.0, rest)

once_with : (parts : List Part) (file : List ℕ) → AreNamedOnce parts → AreNamedOnce (with_file parts file)
once_with [] file are = (omega arith, tt, tt)
once_with (first ∷ parts) file are = by (once_with parts file are.2) (pointwise nat_eq first.file file) refl
  where
    other : pointwise nat_eq first.file file ≡ false → file ≢ first.file
    other is same = let equal : pointwise nat_eq first.file file ≡ true = (slice_eq-Decides unsigned_Decides first.file file (pointwise nat_eq first.file file) refl).1 (sym same) in cc

    by : AreNamedOnce (with_file parts file) → (b : Bool) → pointwise nat_eq first.file file ≡ b
        → AreNamedOnce (if b then once_more first ∷ parts else first ∷ with_file parts file)
    by rest true is = (omega (arith, are.0), are.1, are.2)
    by rest false is = (are.0, have_not_with first.file parts file are.1 (other is), rest)

pub once_of : (parts : List Part) (words : List (List ℕ)) → AreNamedOnce parts → AreNamedOnce (parts_of parts words)
once_of parts [] are = are
once_of parts (word ∷ words) are = once_of (with_file parts word) words (once_with parts word are)

-- ---- what the calls do

module _ (parts list : List Part) (file : List ℕ) (place : ℕ) (is : place ≡ place_of list file) (same : list ≡ parts) where
  -- the file's own place
  own_place : place ≡ place_of parts file
  own_place = is ∙ ap (λ l. place_of l file) same

  -- it is there already
  pub again : (part : Part) → place < length parts → part ≡ get_or parts place part → slice_set parts place (once_more part) ≡ with_file parts file
  again part within at =
      ap (λ n. slice_set parts n (once_more part)) own_place
      ∙ sym (named_again parts file part (subst (λ n. slice_get parts n ≡ Some part) own_place (slice_get_read parts (length parts) place part refl within at)))

  -- it is new
  pub anew : (part : Part) (new : List Part) → length parts ≤ place → part ≡ record { file = file; times = 1 } → new ≡ parts ++ part ∷ [] → new ≡ with_file parts file
  anew part new past part_is is =
      is ∙ ap (λ p. parts ++ p ∷ []) part_is ∙ sym (named_first parts file (subst (λ n. length parts ≤ n) own_place past))

-- one of few times can be one more
pub few_times : (parts : List Part) (place : ℕ) (part : Part) → place < length parts → part ≡ get_or parts place part → all_times parts ≤ 4096 → part.times ≤ 4096
few_times parts place part within at few =
    let below = part_times parts place part (slice_get_read parts (length parts) place part refl within at) in omega (arith, below, few)

-- the words behind one
pub next_word : (words : List (String Global)) (k : ℕ) (word : String Global) → k < length words → word ≡ get_or words k word
    → seen_words (drop k words) ≡ string_bytes word ∷ seen_words (drop (k + 1) words)
next_word words k word within is = ap seen_words (drop_more words k word within ∙ ap (λ w. w ∷ drop (k + 1) words) (sym is))
