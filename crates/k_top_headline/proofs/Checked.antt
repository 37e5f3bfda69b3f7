-- What `check` tells.
use Rattle.std.proofs.Common.{ℕ, ◌≡◌, subst, List, [], Option, Some, None}
use Rattle.k_types_meaning.specs.declared.tree.unit.TUnit.{TUnit}
use Rattle.k_words.specs.declared.job.Job.TheVariants as job
use Rattle.k_top_answers.specs.declared.answer.Answer.{Answer}
use Rattle.k_top_answers.specs.declared.failure.Failure.{Failure}
use Rattle.k_top_answers.specs.Answers.{AnswersChecked, AnswersJob, checked, done, refusal}
use Rattle.k_top_answers.specs.Checks.{told}
use Rattle.k_top_answers.specs.Clauses.{IsGiven, Keeps, World}
use Rattle.k_top_answers.specs.Steps.{AnswersFound, file_limit}
use Rattle.k_top_headline.specs.Headline.{HoldsFile, WentWell}
use Rattle.k_top_headline.specs.OtherCommands.{AcceptedIsTold, RefusalIsTold}
use Rattle.k_top_headline.proofs.Given.{job_given}
use Rattle.k_top_headline.proofs.Ready.{found_answered, held_outside, source_answered, source_refused}
use Rattle.k_top_headline.proofs.Runs.{tells_answer}

-- the answer that was given is that to these bytes
bytes_given : (words : List (List ℕ)) (status : ℕ) (old new : World) (file bytes : List ℕ) → Keeps words status old new → WentWell words (job.Check file) status old new
    → HoldsFile old file bytes → IsGiven (λ (answer : Answer). AnswersChecked file answer bytes) status old new
bytes_given words status old new file bytes keeps is holds =
    let given : IsGiven (λ (answer : Answer). AnswersJob keeps.outside answer (job.Check file)) status old new = job_given words (job.Check file) status old new keeps is in
    let F : Failure → Type 0 = λ failure. given.answer ≡ refusal failure in
    let next : List ℕ → Type 0 = AnswersChecked file given.answer in
    record {
      answer = given.answer;
      is_answer = found_answered F file_limit file next bytes holds.few
          (subst (λ (content : Option (List ℕ)). AnswersFound F file_limit file next content)
          (held_outside old.files.held keeps.outside.files file bytes keeps.fits.files holds.held) given.is_answer);
      status_is = given.status_is;
      grows = given.grows;
      told = given.told;
      files = given.files;
    }

-- A SOURCE IS ACCEPTED
pub accepted_is_told : AcceptedIsTold
accepted_is_told words status old new file bytes typed keeps is holds accepted =
    let given = bytes_given words status old new file bytes keeps is holds in
    tells_answer (λ (answer : Answer). AnswersChecked file answer bytes) status old new given None None
    (source_answered (λ failure. given.answer ≡ checked (told file bytes failure) failure) (λ (t : TUnit). given.answer ≡ done []) bytes typed accepted given.is_answer)

-- A SOURCE IS REFUSED
pub refusal_is_told : RefusalIsTold
refusal_is_told words status old new file bytes failure keeps is holds refused =
    let given = bytes_given words status old new file bytes keeps is holds in
    tells_answer (λ (answer : Answer). AnswersChecked file answer bytes) status old new given (Some failure) (Some (told file bytes failure))
    (source_refused (λ other. given.answer ≡ checked (told file bytes other) other) (λ (t : TUnit). given.answer ≡ done []) failure bytes refused given.is_answer)
