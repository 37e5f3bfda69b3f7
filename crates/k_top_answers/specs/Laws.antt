-- Believed with a public law.
-- What holds of answers.
use Rattle.std.specs.Prelude.{ℕ, ◌≡◌, ◌≤◌, List, [], None, Ok}
use Rattle.k_words.specs.Words.{IsAnswer as Read}
use Rattle.k_words.specs.declared.job.Job.TheVariants as job
use Rattle.k_top_answers.specs.declared.answer.Answer.{Answer}
use Rattle.k_top_answers.specs.Answers.{IsAnswer}
use Rattle.k_top_answers.specs.Failures.{status_of}
use Rattle.k_top_answers.specs.Steps.{Outside}

-- words have at most one answer, whatever the outside holds
abbrev pub AnswersAreUnique : Type 0
AnswersAreUnique = (words : List (List ℕ)) (outside : Outside) (one other : Answer) → IsAnswer words outside one → IsAnswer words outside other → one ≡ other

-- an answer of status 3 or a higher one puts nothing on out
abbrev pub RefusalsPutNothing : Type 0
RefusalsPutNothing = (words : List (List ℕ)) (outside : Outside) (answer : Answer) → IsAnswer words outside answer → 3 ≤ status_of answer.failure → answer.out ≡ []

-- an answer to words that do not ask for `check` tells no more on err than its line
abbrev pub OthersTellTheirLine : Type 0
OthersTellTheirLine = (words : List (List ℕ)) (outside : Outside) (answer : Answer) → IsAnswer words outside answer
    → ((file : List ℕ) → ¬ Read words (Ok (job.Check file))) → answer.more ≡ None
