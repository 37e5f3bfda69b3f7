-- What the answer of `demo` comes to.
use Rattle.std.proofs.Common.{ℕ, ℤ, ◌≡◌, ◌∙◌, List, [], ap, sym, subst, Ok, Err, inl, inr}
use Rattle.k_optab.specs.Latencies.{standard_latencies}
use Rattle.k_ending.specs.declared.ending.End.{End}
use Rattle.k_ending.specs.declared.ending.End.TheVariants as end
use Rattle.k_gen.specs.Text as made_text
use Rattle.k_types_meaning.specs.declared.tree.unit.TUnit.{TUnit}
use Rattle.k_words.specs.Setting.{standard_steps}
use Rattle.k_top_answers.specs.declared.answer.Answer.{Answer}
use Rattle.k_top_answers.specs.declared.failure.Failure.{Failure}
use Rattle.k_top_lemmas.specs.declared.program.Program.{Program}
use Rattle.k_top_answers.specs.Answers.{AnswersMade, done, ended, made_running, ran_of, refusal}
use Rattle.k_top_answers.specs.Texts.{IsSummary}
use Rattle.k_top_lemmas.specs.Parts.{AcceptsSource, IsProfileOfRun, running_of}
use Rattle.k_top_lemmas.specs.Phases.{IsEnd, MakesDemo}
use Rattle.k_top_answers.specs.Steps.{AnswersSource, Running, run_of}
use Rattle.k_hcpa.specs.declared.profile.Profile.{Profile}
use Rattle.k_top_lemmas.proofs.Machine.{IsBroken}
use Rattle.k_top_lemmas.proofs.ProgramLemmas.{refuses}
use Rattle.k_top_lemmas.proofs.Statuses.{done_low, ended_low}
use Rattle.k_top_lemmas.proofs.StepLemmas.{source_maps, source_quiet}

-- a program as it is made ready
abbrev ready_of : Program → Running
ready_of p = running_of (record { program = p; input = []; steps = standard_steps })

made_ends : (number loops : ℕ) (answer : Answer) (r : Running) (how : End) → AnswersMade number loops answer r how → IsEnd answer
made_ends number loops answer r (end.Returned exit) (text, is_summary, is) = record {
  low = done_low answer.failure (ap (λ (a : Answer). a.failure) is);
  saves = inl (ap (λ (a : Answer). a.failure) is);
}
made_ends number loops answer r (end.Trapped trap place) is = record {
  low = ended_low r.steps (end.Trapped trap place) answer.failure (ap (λ (a : Answer). a.failure) is);
  saves = inr (ap (λ (a : Answer). a.saved) is);
}
made_ends number loops answer r end.OutOfSteps is = record {
  low = ended_low r.steps end.OutOfSteps answer.failure (ap (λ (a : Answer). a.failure) is);
  saves = inr (ap (λ (a : Answer). a.saved) is);
}

-- DEMO, behind a run of this profile
module _ (number loops : ℕ) (r : Running) (first : List ℕ) (p : Profile) (is : IsProfileOfRun r 24 first p) where
  pub returned_made : (exit : ℤ) → p.end ≡ end.Returned exit → (text : List ℕ) → IsSummary number loops p.written (ran_of r exit 24) text → (answer : Answer) → answer ≡ done text
      → AnswersMade number loops answer r (run_of r).end
  returned_made exit same text summed answer told =
      subst (λ (e : End). AnswersMade number loops answer r e) (sym same ∙ is.end)
      (text, subst (λ (n : ℕ). IsSummary number loops n (ran_of r exit 24) text) is.written summed, told)

  pub ended_made : (how : End) → p.end ≡ how → IsBroken how → (answer : Answer) → answer ≡ ended [] r.steps how → AnswersMade number loops answer r (run_of r).end
  ended_made (end.Returned exit) same broken answer told = absurd broken
  ended_made (end.Trapped trap place) same broken answer told = subst (λ (e : End). AnswersMade number loops answer r e) (sym same ∙ is.end) told
  ended_made end.OutOfSteps same broken answer told = subst (λ (e : End). AnswersMade number loops answer r e) (sym same ∙ is.end) told

-- THE PROGRAM is accepted
pub made : (number loops : ℕ) (answer : Answer) (p : Program) (source : List ℕ) → source ≡ made_text.program number loops → AcceptsSource (Ok p) source
    → p.latencies ≡ standard_latencies → (input : List ℕ) → input ≡ []
    → AnswersMade number loops answer (running_of (record { program = p; input = input; steps = standard_steps }))
    (run_of (running_of (record { program = p; input = input; steps = standard_steps }))).end → MakesDemo (Ok answer) number loops
made number loops answer p source is_text accepts standard input none holds =
    let empty = subst (λ (i : List ℕ). AnswersMade number loops answer (running_of (record { program = p; input = i; steps = standard_steps }))
    (run_of (running_of (record { program = p; input = i; steps = standard_steps }))).end) none holds in
    let is : ready_of p ≡ made_running p.typed = ap (λ l. record { typed = p.typed; latencies = l; input = []; steps = standard_steps }) standard in
    let answers : AnswersMade number loops answer (made_running p.typed) (run_of (made_running p.typed)).end =
    subst (λ (r : Running). AnswersMade number loops answer r (run_of r).end) is empty in (
      made_ends number loops answer (made_running p.typed) (run_of (made_running p.typed)).end answers,
      λ outside.
          source_maps (λ failure. ⊥) (λ failure. answer ≡ refusal failure) (λ (t : TUnit). t ≡ p.typed)
          (λ (t : TUnit). AnswersMade number loops answer (made_running t) (run_of (made_running t)).end) (λ failure e. absurd e)
          (λ t e. subst (λ (t : TUnit). AnswersMade number loops answer (made_running t) (run_of (made_running t)).end) (sym e) answers)
          (made_text.program number loops) (subst (λ t. AcceptsSource (Ok p) t) is_text accepts),
    )

-- or refused
pub refused : (number loops : ℕ) (failure : Failure) (source : List ℕ) → source ≡ made_text.program number loops → AcceptsSource (Err failure) source
    → MakesDemo (Err failure) number loops
refused number loops failure source is_text (inl is) = subst (λ f. MakesDemo (Err f) number loops) (sym is) (tt, tt)
refused number loops failure source is_text (inr answers) = (
  source_quiet failure source answers,
  refuses _ failure (λ outside.
      source_maps (λ other. other ≡ failure) (λ other. refusal failure ≡ refusal other) (λ (t : TUnit). ⊥)
      (λ (t : TUnit). AnswersMade number loops (refusal failure) (made_running t) (run_of (made_running t)).end) (λ other e. ap refusal (sym e)) (λ s e. absurd e)
      (made_text.program number loops) (subst (λ t. AnswersSource (λ other. other ≡ failure) (λ s. ⊥) t) is_text answers)),
)
