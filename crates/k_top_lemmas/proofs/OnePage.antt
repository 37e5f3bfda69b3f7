-- A run from which main returned has one page.
use Rattle.std.proofs.Common.{ℕ, ◌≡◌, ◌≤◌, Bool, ap, sym, subst, ◌∙◌, List, inl, inr}
use Rattle.std.proofs.lemmas.Option.{same_Some}
use Rattle.k_ending.specs.declared.ending.End.{End}
use Rattle.k_ending.specs.declared.ending.End.TheVariants as end
use Rattle.k_data_profile.proofs.Pages.{one_run_page}
use Rattle.k_top_answers.specs.declared.answer.Answer.{Answer}
use Rattle.k_top_answers.specs.Answers.{AnswersPage, IsPaged, done, ran_of, refusal}
use Rattle.k_top_answers.specs.Steps.{Outside, Running, run_of}
use Rattle.k_top_lemmas.proofs.Agreeing.{Agree}
use Rattle.k_top_lemmas.proofs.RunLemmas.{IsSound, run_few, run_gives_int, run_whole}

one_paged : (file source : List ℕ) (depth : ℕ) (dict : Bool) (one other : Answer) (r : Running) (how : End) → (run_of r).end ≡ how → IsSound r → 1 ≤ depth → depth ≤ 32
    → AnswersPage file source depth dict one r how → AnswersPage file source depth dict other r how → one ≡ other
one_paged file source depth dict one other r (end.Returned exit) is sound some tracked (text, a, one_is) (text', b, other_is) =
    let pages : text ≡ text' = one_run_page (ran_of r exit depth) (run_whole r sound exit depth is (run_gives_int r sound exit is) some tracked)
    (λ nodes tree. run_few r depth nodes sound tree) file source dict text text' a b in
    one_is ∙ ap done pages ∙ sym other_is
one_paged file source depth dict one other r (end.Trapped trap place) is sound some tracked a b = a ∙ sym b
one_paged file source depth dict one other r end.OutOfSteps is sound some tracked a b = a ∙ sym b

pub by_paged : (outside : Outside) (file : List ℕ) (depth : ℕ) (dict : Bool) (one other : Answer) → 1 ≤ depth → depth ≤ 32
    → Agree {A = Running} (λ failure. one ≡ refusal failure) (λ failure. other ≡ refusal failure)
    (λ r. IsPaged outside file depth dict one r × IsSound r) (IsPaged outside file depth dict other) → one ≡ other
by_paged outside file depth dict one other some tracked (inl (failure, a, b)) = a ∙ sym b
by_paged outside file depth dict one other some tracked (inr (r, ((source, holds, a), sound), (source', holds', b))) =
    let same : source' ≡ source = same_Some source' source (sym holds' ∙ holds) in
    one_paged file source depth dict one other r (run_of r).end (λ i. (run_of r).end) sound some tracked a
    (subst (λ (s : List ℕ). AnswersPage file s depth dict other r (run_of r).end) same b)
