-- Believed with a public law.
-- Words have exactly one answer.
use Rattle.std.specs.Prelude.{ℕ, ◌≡◌, List}
use Rattle.k_top_answers.specs.declared.answer.Answer.{Answer}
use Rattle.k_top_answers.specs.Answers.{IsAnswer}
use Rattle.k_top_answers.specs.Steps.{Outside}

-- the answer to these words, where the outside holds this, and no other is one
pub record IsTheAnswer (words : List (List ℕ)) (outside : Outside) (answer : Answer) : Type 0 where
  pub is : IsAnswer words outside answer
  pub alone : (other : Answer) → IsAnswer words outside other → other ≡ answer

-- all words have an answer, whatever the outside holds, and only one
abbrev pub WordsHaveOneAnswer : Type 0
WordsHaveOneAnswer = (words : List (List ℕ)) (outside : Outside) → (answer : Answer) × IsTheAnswer words outside answer
