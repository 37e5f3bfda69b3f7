-- What the answer of `annotate` comes to, behind a run of this profile whose loops carry this.
use Rattle.std.proofs.Common.{ℕ, ℤ, ◌≡◌, ◌∙◌, Bool, List, [], sym, subst}
use Rattle.k_ending.specs.declared.ending.End.{End}
use Rattle.k_ending.specs.declared.ending.End.TheVariants as end
use Rattle.k_marks_meaning.specs.Marking.{marks_of}
use Rattle.k_marks_meaning.specs.declared.Marks.{Marks}
use Rattle.k_carry_pairs.specs.declared.pairs.LoopPairs.{LoopPairs}
use Rattle.k_hcpa.specs.declared.profile.Profile.{Profile}
use Rattle.k_pragma_profile.specs.Annotated.{IsRunAnnotation}
use Rattle.k_top_answers.specs.declared.answer.Answer.{Answer}
use Rattle.k_top_answers.specs.Answers.{AnswersAnnotated, ToldAnnotated, done, ended, ran_of}
use Rattle.k_top_answers.specs.Steps.{Running, run_of}
use Rattle.k_top_lemmas.specs.Parts.{FindsMarkable, IsProfileOfRun}
use Rattle.k_top_lemmas.proofs.Machine.{IsBroken}

module _ (source : List ℕ) (r : Running) (depth : ℕ) (first : List ℕ) (p : Profile) (is : IsProfileOfRun r depth first p) where
  pub returned_annotated : (strict : Bool) (found : List LoopPairs) → FindsMarkable r depth strict found → (exit : ℤ) → p.end ≡ end.Returned exit
      → (marks : Marks) → marks ≡ marks_of r.typed → (text : List ℕ) → IsRunAnnotation source r.typed marks (ran_of r exit depth) found text
      → (answer : Answer) → answer ≡ done text → AnswersAnnotated source depth strict answer r (run_of r).end
  returned_annotated strict found finds exit same marks marked text annotated answer told =
      let so : ToldAnnotated source r exit depth strict answer = record {
        loops = finds.loops;
        are_carried = finds.are_carried;
        found = found;
        may = finds.may;
        text = text;
        annotated = subst (λ (m : Marks). IsRunAnnotation source r.typed m (ran_of r exit depth) found text) marked annotated;
        is = told;
      } in
      subst (λ (e : End). AnswersAnnotated source depth strict answer r e) (sym same ∙ is.end) so

  pub ended_annotated : (strict : Bool) (how : End) → p.end ≡ how → IsBroken how → (answer : Answer) → answer ≡ ended [] r.steps how
      → AnswersAnnotated source depth strict answer r (run_of r).end
  ended_annotated strict (end.Returned exit) same broken answer told = absurd broken
  ended_annotated strict (end.Trapped trap place) same broken answer told =
      subst (λ (e : End). AnswersAnnotated source depth strict answer r e) (sym same ∙ is.end) told
  ended_annotated strict end.OutOfSteps same broken answer told = subst (λ (e : End). AnswersAnnotated source depth strict answer r e) (sym same ∙ is.end) told
