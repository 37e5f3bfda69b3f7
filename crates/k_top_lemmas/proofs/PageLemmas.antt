-- What the answer of `page` comes to, behind a run of this profile.
use Rattle.std.proofs.Common.{ℕ, ℤ, ◌≡◌, ◌∙◌, Bool, List, [], sym, subst}
use Rattle.k_ending.specs.declared.ending.End.{End}
use Rattle.k_ending.specs.declared.ending.End.TheVariants as end
use Rattle.k_hcpa.specs.declared.profile.Profile.{Profile}
use Rattle.k_data_profile.specs.Pages.{IsRunPage}
use Rattle.k_top_answers.specs.declared.answer.Answer.{Answer}
use Rattle.k_top_answers.specs.Answers.{AnswersPage, done, ended, ran_of}
use Rattle.k_top_answers.specs.Steps.{Running, run_of}
use Rattle.k_top_lemmas.specs.Parts.{IsProfileOfRun}
use Rattle.k_top_lemmas.proofs.Machine.{IsBroken}

module _ (file source : List ℕ) (dict : Bool) (r : Running) (depth : ℕ) (first : List ℕ) (p : Profile) (is : IsProfileOfRun r depth first p) where
  pub returned_paged : (exit : ℤ) → p.end ≡ end.Returned exit → (text : List ℕ) → IsRunPage file source (ran_of r exit depth) dict text → (answer : Answer)
      → answer ≡ done text → AnswersPage file source depth dict answer r (run_of r).end
  returned_paged exit same text page answer told =
      subst (λ (e : End). AnswersPage file source depth dict answer r e) (sym same ∙ is.end) (text, page, told)

  pub ended_paged : (how : End) → p.end ≡ how → IsBroken how → (answer : Answer) → answer ≡ ended [] r.steps how
      → AnswersPage file source depth dict answer r (run_of r).end
  ended_paged (end.Returned exit) same broken answer told = absurd broken
  ended_paged (end.Trapped trap place) same broken answer told = subst (λ (e : End). AnswersPage file source depth dict answer r e) (sym same ∙ is.end) told
  ended_paged end.OutOfSteps same broken answer told = subst (λ (e : End). AnswersPage file source depth dict answer r e) (sym same ∙ is.end) told
