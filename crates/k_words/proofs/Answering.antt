-- From the answer to a command's arguments to the answer to the words.
use Rattle.std.proofs.Common.{◌≡◌, ◌<◌, ◌∙◌, ℕ, suc, zero, false, List, ◌∷◌, Option, Some, None, Result, Ok, Err, arith, refl}
use Rattle.k_words.specs.declared.job.Job.{Job}
use Rattle.k_words.specs.declared.option.Command.{Command}
use Rattle.k_words.specs.declared.usage.Usage.{Usage}
use Rattle.k_words.specs.declared.usage.Usage.TheVariants.{NoCommand, UnknownWord, BadNumber, Twice, NoFile, Memory}
use Rattle.k_words.specs.Settings.{IsFirst, settings_fault}
use Rattle.k_words.specs.Words.{Answers, IsAnswer, argument_fault, command_of, fault_at, file_fault, is_no_file, job_of, job_with}

module _ (f g : ℕ → Option Usage) (front : f 0 ≡ None) (behind : (k : ℕ) → f (suc k) ≡ g k) where
  before_later : (at : ℕ) → ((k : ℕ) → k < at → g k ≡ None) → (k : ℕ) → k < suc at → f k ≡ None
  before_later at earlier zero below = front
  before_later at earlier (suc k) below = behind k ∙ earlier k (omega (arith, below))

  -- the first wrong word behind one that is right
  pub first_later : (fault : Usage) → IsFirst g fault → IsFirst f fault
  first_later fault first = record { at = suc first.at; wrong = behind first.at ∙ first.wrong; before = before_later first.at first.before }

  pub right_later : ((k : ℕ) → g k ≡ None) → (k : ℕ) → f k ≡ None
  right_later right zero = front
  right_later right (suc k) = behind k ∙ right k

  -- the answer behind a word that is right
  pub answers_later : (asked : Option Job) (r : Result Job Usage) → Answers g asked r → Answers f asked r
  answers_later asked (Ok j) (right, is) = (right_later right, is)
  answers_later asked (Err NoCommand) first = first_later NoCommand first
  answers_later asked (Err (UnknownWord index)) first = first_later (UnknownWord index) first
  answers_later asked (Err (BadNumber index)) first = first_later (BadNumber index) first
  answers_later asked (Err (Twice index)) first = first_later (Twice index) first
  answers_later asked (Err NoFile) first = first_later NoFile first
  answers_later asked (Err Memory) first = tt

-- the first word of all
pub first_here : (f : ℕ → Option Usage) (fault : Usage) → f 0 ≡ Some fault → IsFirst f fault
first_here f fault wrong = record { at = 0; wrong = wrong; before = λ k below. absurd (omega (arith, below)) }

-- a command answers for its arguments
pub of_arguments : (all : List (List ℕ)) (word : List ℕ) (words : List (List ℕ)) (command : Command) (r : Result Job Usage) → all ≡ word ∷ words → command_of word ≡ Some command
    → Answers (argument_fault command words) (job_with words command) r → IsAnswer all r
of_arguments all word words command r split is answers =
    let behind : (k : ℕ) → fault_at (word ∷ words) (suc k) ≡ argument_fault command words k = λ k. rw is refl in
    let asked : job_of (word ∷ words) ≡ job_with words command = rw is refl in
    rw (split, asked) (answers_later (fault_at (word ∷ words)) (argument_fault command words) (rw is refl) behind (job_with words command) r answers)

module _ (command : Command) (arguments : List (List ℕ)) (file : List ℕ) (words : List (List ℕ)) (split : arguments ≡ file ∷ words) where
  -- an option that is wrong
  pub wrong_option : is_no_file file ≡ false → (fault : Usage) → IsFirst (settings_fault command words) fault → IsFirst (file_fault command arguments) fault
  wrong_option named fault first = rw split (first_later (file_fault command (file ∷ words)) (settings_fault command words) (rw named refl) (λ k. refl) fault first)
