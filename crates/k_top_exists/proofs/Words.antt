-- Words have an answer.
use Rattle.k_words.proofs.OneAnswer.{answer_exists}
use Rattle.k_top_exists.specs.Files.{WordsAreAnswered}

-- any words have an answer that is no want of memory
pub words_are_answered : WordsAreAnswered
words_are_answered = answer_exists
