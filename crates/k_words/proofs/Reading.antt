-- The words behind a file, one after another.
use Rattle.std.proofs.Common.{◌≡◌, ◌+◌, ◌<◌, ◌≤◌, ◌∙◌, ◌⊎◌, ℕ, suc, zero, List, [], ◌∷◌, ◌++◌, length, take, take_all, get_or, Option, Some, None, option_map, String, Global, string_bytes, add-one, ap, arith, inl, inr, refl, subst, sym}
use Rattle.std.proofs.lemmas.Bool.{cases_Bool}
use Rattle.std.proofs.lemmas.Bool.Decides.{nat_tests}
use Rattle.std.proofs.lemmas.Option.{slice_get-get_or, slice_get-map, slice_get_past, slice_get_within}
use Rattle.std.specs.Prelude.{nat_lt, slice_get}
use Rattle.k_words.specs.declared.option.Command.{Command}
use Rattle.k_words.specs.declared.usage.Usage.{Usage}
use Rattle.k_words.specs.Settings.{Given, IsFirst, ReadsAll, TakesWord, bars, count, given, seen_words, settings_fault, word_fault}
use Rattle.k_words.proofs.Given.{count-set, given-more}

-- so many words were read, none of them is wrong, and this is what they give
pub record IsRead (command : Command) (words : List (List ℕ)) (k index : ℕ) (g : Given) : Type 0 where
  pub at : index ≡ 2 + k
  pub counted : k ≡ count g
  pub so_far : g ≡ given command (take k words)
  pub right : (j : ℕ) → j < k → settings_fault command words j ≡ None

-- the word at a place
pub seen_at : (words : List (String Global)) (k : ℕ) (word : String Global) → k < length words → word ≡ get_or words k word → slice_get (seen_words words) k ≡ Some (string_bytes word)
seen_at words k word within is =
    slice_get-map string_bytes words k ∙ ap (option_map string_bytes) (slice_get-get_or words k word within ∙ ap Some (sym is))

abbrev first_or : {A : Type 0} → Option A → A → A
first_or None d = d
first_or (Some x) d = x

take_next : {A : Type 0} (xs : List A) (k : ℕ) (x : A) → slice_get xs k ≡ Some x → take (suc k) xs ≡ take k xs ++ x ∷ []
take_next [] k x h = absurd (omega (arith, slice_get_within [] k x h))
take_next (y ∷ xs) zero x h = ap (λ o. first_or o y ∷ []) h
take_next (y ∷ xs) (suc k) x h = ap (λ t. y ∷ t) (take_next xs k x h)

pub below_next : (k j : ℕ) → j < k + 1 → (j < k) ⊎ (j ≡ k)
below_next k j h = elim (cases_Bool (nat_lt j k)) [
  | inl less ↦ inl (grind (arith, nat_tests))
  | inr more ↦ inr (grind (arith, nat_tests))
]

pub below_or_past : (j k : ℕ) → (j < k) ⊎ (k ≤ j)
below_or_past j k = elim (cases_Bool (nat_lt j k)) [
  | inl less ↦ inl (grind (arith, nat_tests))
  | inr more ↦ inr (grind (arith, nat_tests))
]

module _ (command : Command) (words : List (List ℕ)) (k index : ℕ) (old : Given) (read : IsRead command words k index old) where
  -- the fault of a word is that of its place
  fault-here : (word : List ℕ) → slice_get words k ≡ Some word → settings_fault command words k ≡ word_fault command (bars old) word index
  fault-here word is = rw (is, ← read.so_far) (ap (λ i. word_fault command (bars old) word i) (omega (arith, read.at)))

  -- the first word that is wrong
  pub first_wrong : (word : List ℕ) (fault : Usage) → slice_get words k ≡ Some word → word_fault command (bars old) word index ≡ Some fault
      → IsFirst (settings_fault command words) fault
  first_wrong word fault is wrong = record { at = k; wrong = fault-here word is ∙ wrong; before = read.right }

  -- a word more that is right
  pub read_more : (word : List ℕ) (new : Given) → slice_get words k ≡ Some word → TakesWord command old word index new → IsRead command words (k + 1) (index + 1) new
  read_more word new is takes = record {
    at = omega (arith, read.at);
    counted = sym (count-set command old new takes.setting takes.value takes.first takes.made ∙ ap (λ n. n + 1) (sym read.counted));
    so_far = given-more command (take k words) word takes.setting takes.value new takes.option (rw read.so_far at takes.first) (rw read.so_far at takes.made)
        ∙ ap (given command) (sym (ap (λ n. take n words) (add-one k) ∙ take_next words k word is));
    right = λ j below. elim (below_next k j below) [
      | inl earlier ↦ read.right j earlier
      | inr here ↦ subst (λ n. settings_fault command words n ≡ None) (sym here) (fault-here word is ∙ takes.right)
    ];
  }

  -- all words were read
  pub read_all : length words ≤ k → ReadsAll command words old
  read_all past = record {
    right = λ j. elim (below_or_past j k) [
      | inl earlier ↦ read.right j earlier
      | inr later ↦ rw (slice_get_past words j (omega (arith, past, later))) refl
    ];
    all = read.so_far ∙ ap (given command) (take_all k words past);
  }
