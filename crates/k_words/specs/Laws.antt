-- Believed with a public law.
-- What holds of answers.
use Rattle.std.specs.Prelude.{ℕ, ◌≡◌, ◌≢◌, List, Result, Err}
use Rattle.k_words.specs.declared.job.Job.{Job}
use Rattle.k_words.specs.declared.usage.Usage.{Usage}
use Rattle.k_words.specs.declared.usage.Usage.TheVariants.{Memory}
use Rattle.k_words.specs.Words.{IsAnswer}

-- any words have an answer that is no want of memory
abbrev pub AnswerExists : Type 0
AnswerExists = (words : List (List ℕ)) → (answer : Result Job Usage) × IsAnswer words answer × (answer ≢ Err Memory)

-- and no second one
abbrev pub AnswerIsUnique : Type 0
AnswerIsUnique = (words : List (List ℕ)) (one other : Result Job Usage) → IsAnswer words one → IsAnswer words other
    → one ≢ Err Memory → other ≢ Err Memory → one ≡ other
