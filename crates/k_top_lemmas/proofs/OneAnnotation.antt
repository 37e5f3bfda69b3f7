-- A run from which main returned has one annotated source.
use Rattle.std.proofs.Common.{ℕ, ◌≡◌, ◌≤◌, Bool, ap, sym, subst, ◌∙◌, List, inl, inr}
use Rattle.std.proofs.lemmas.Option.{same_Some}
use Rattle.k_ending.specs.declared.ending.End.{End}
use Rattle.k_ending.specs.declared.ending.End.TheVariants as end
use Rattle.k_marks_meaning.specs.Marking.{marks_of}
use Rattle.k_regions.specs.Regions.{regions_of}
use Rattle.k_carry_pairs.proofs.Answer.{one_answer}
use Rattle.k_carry_pairs.specs.declared.pairs.LoopPairs.{LoopPairs}
use Rattle.k_pragma_profile.specs.Annotated.{IsRunAnnotation}
use Rattle.k_pragma_profile.proofs.Annotations.{one_run_annotation}
use Rattle.k_top_answers.specs.declared.answer.Answer.{Answer}
use Rattle.k_top_answers.specs.Answers.{AnswersAnnotated, IsAnnotated, done, ran_of, refusal}
use Rattle.k_top_answers.specs.Steps.{Outside, Running, run_of}
use Rattle.k_top_answers.specs.Storage.{MayBeMarked}
use Rattle.k_top_lemmas.proofs.Agreeing.{Agree}
use Rattle.k_top_lemmas.proofs.OneStorage.{one_marked}
use Rattle.k_top_lemmas.proofs.RunLemmas.{IsSound, run_few, run_gives_int, run_whole}

one_annotated : (source : List ℕ) (depth : ℕ) (strict : Bool) (one other : Answer) (r : Running) (how : End) → (run_of r).end ≡ how → IsSound r → 1 ≤ depth → depth ≤ 32
    → AnswersAnnotated source depth strict one r how → AnswersAnnotated source depth strict other r how → one ≡ other
one_annotated source depth strict one other r (end.Returned exit) is sound some tracked a b =
    let loops : b.loops ≡ a.loops = one_answer (regions_of r.typed) depth (run_of r).events b.loops a.loops b.are_carried a.are_carried in
    let found : b.found ≡ a.found = one_marked r depth strict a.loops b.found a.found
    (subst (λ (ls : List LoopPairs). MayBeMarked strict r depth ls b.found) loops b.may) a.may in
    let texts : a.text ≡ b.text = one_run_annotation (ran_of r exit depth) (run_whole r sound exit depth is (run_gives_int r sound exit is) some tracked)
    (λ nodes tree. run_few r depth nodes sound tree) source r.typed (marks_of r.typed) a.found a.text b.text a.annotated
    (subst (λ (ls : List LoopPairs). IsRunAnnotation source r.typed (marks_of r.typed) (ran_of r exit depth) ls b.text) found b.annotated) in
    a.is ∙ ap done texts ∙ sym b.is
one_annotated source depth strict one other r (end.Trapped trap place) is sound some tracked a b = a ∙ sym b
one_annotated source depth strict one other r end.OutOfSteps is sound some tracked a b = a ∙ sym b

pub by_annotated : (outside : Outside) (file : List ℕ) (depth : ℕ) (strict : Bool) (one other : Answer) → 1 ≤ depth → depth ≤ 32
    → Agree {A = Running} (λ failure. one ≡ refusal failure) (λ failure. other ≡ refusal failure)
    (λ r. IsAnnotated outside file depth strict one r × IsSound r) (IsAnnotated outside file depth strict other) → one ≡ other
by_annotated outside file depth strict one other some tracked (inl (failure, a, b)) = a ∙ sym b
by_annotated outside file depth strict one other some tracked (inr (r, ((source, holds, a), sound), (source', holds', b))) =
    let same : source' ≡ source = same_Some source' source (sym holds' ∙ holds) in
    one_annotated source depth strict one other r (run_of r).end (λ i. (run_of r).end) sound some tracked a
    (subst (λ (s : List ℕ). AnswersAnnotated s depth strict other r (run_of r).end) same b)
