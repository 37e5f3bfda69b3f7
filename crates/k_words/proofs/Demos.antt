-- The answer to the arguments of `demo`.
use Rattle.std.proofs.Common.{◌≡◌, ◌+◌, ℕ, List, [], ◌∷◌, Some, None, Err, refl}
use Rattle.std.specs.Prelude.{slice_get}
use Rattle.k_words.specs.declared.usage.Usage.{Usage}
use Rattle.k_words.specs.declared.usage.Usage.TheVariants.{UnknownWord, BadNumber, NoFile}
use Rattle.k_words.specs.Settings.{IsFirst}
use Rattle.k_words.specs.Words.{Answers, demo_fault, demo_job, demo_loops, demo_number, loops_fault, one_too_many}
use Rattle.k_words.proofs.Answering.{first_here, first_later}

module _ (arguments : List (List ℕ)) (number : List ℕ) (words : List (List ℕ)) (split : arguments ≡ number ∷ words) where
  module _ (n : ℕ) (is : demo_number number ≡ Some n) where
    behind : (fault : Usage) → IsFirst (loops_fault words) fault → IsFirst (demo_fault arguments) fault
    behind fault first = rw split (first_later (demo_fault (number ∷ words)) (loops_fault words) (rw is refl) (λ k. refl) fault first)

    pub no_loops : words ≡ [] → Answers (demo_fault arguments) (demo_job arguments) (Err NoFile)
    no_loops none = behind NoFile (rw none (first_here _ NoFile refl))

    module _ (loops : List ℕ) (rest : List (List ℕ)) (more : words ≡ loops ∷ rest) where
      pub wrong_loops : demo_loops loops ≡ None → Answers (demo_fault arguments) (demo_job arguments) (Err (BadNumber 2))
      wrong_loops none = behind (BadNumber 2) (rw more (first_here _ (BadNumber 2) (rw none refl)))

      module _ (l : ℕ) (are : demo_loops loops ≡ Some l) where
        pub one_more : (word : List ℕ) (words_left : List (List ℕ)) → rest ≡ word ∷ words_left
            → Answers (demo_fault arguments) (demo_job arguments) (Err (UnknownWord 3))
        one_more word words_left left =
            behind (UnknownWord 3) (rw more (first_later (loops_fault (loops ∷ rest)) (λ k. one_too_many (slice_get rest k) (k + 3)) (rw are refl) (λ k. refl)
            (UnknownWord 3) (first_here _ (UnknownWord 3) (rw left refl))))
