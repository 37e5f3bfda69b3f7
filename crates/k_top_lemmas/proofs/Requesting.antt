-- What was asked of files, as a front of what is to be asked.
use Rattle.std.proofs.Common.{ℕ, ◌≡◌, ◌≢◌, refl, ap, sym, ◌∙◌, List, [], ◌∷◌, ◌++◌, Result, Ok, Err, inl, inr}
use Rattle.std.proofs.lemmas.List.{append-nil, append_assoc}
use Rattle.k_edge.specs.FilesWords.{FilesState, after}
use Rattle.k_edge.specs.declared.request.Request.{Request}
use Rattle.k_words.proofs.OneAnswer.{answer_exists}
use Rattle.k_words.specs.Words as words
use Rattle.k_words.specs.declared.job.Job.{Job}
use Rattle.k_words.specs.declared.usage.Usage.{Usage}
use Rattle.k_words.specs.declared.usage.Usage.TheVariants as usage
use Rattle.k_top_answers.specs.Requests.{AreToLoad, IsFront, loads_of}

-- nothing was asked
pub after_none : (old : FilesState) → old ≡ after [] old
after_none old = λ i. record old { requests = sym (append-nil old.requests) i }

-- one thing was asked after another
pub after_twice : (first second : List Request) (old : FilesState) → after second (after first old) ≡ after (first ++ second) old
after_twice first second old = λ i. record old { requests = append_assoc old.requests first second i }

pub front_same : (made all : List Request) → made ≡ all → IsFront made all
front_same made all is = ([], sym is ∙ sym (append-nil made))

pub front_longer : (made all more : List Request) → IsFront made all → IsFront made (all ++ more)
front_longer made all more (rest, is) = (rest ++ more, ap (λ (l : List Request). l ++ more) is ∙ append_assoc made rest more)

pub some_asked : (request : Request) (others : List Request) → request ∷ others ≢ []
some_asked request others is = cc

-- words have some files loaded, or none
pub loads_exist : (list : List (List ℕ)) → (loads : List Request) × AreToLoad list loads
loads_exist list = by_answer (answer_exists list)
  where
    by_answer : (read : Result Job Usage) × words.IsAnswer list read × (read ≢ Err usage.Memory) → (loads : List Request) × AreToLoad list loads
    by_answer (Ok asked, is, other) = (loads_of asked, inl (asked, is, refl))
    by_answer (Err fault, is, other) = ([], inr (fault, (λ e. other (ap Err e)), is, refl))
