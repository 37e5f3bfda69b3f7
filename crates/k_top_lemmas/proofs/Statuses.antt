-- The status of an answer that was found: that of something that was done, of a run's end, or of a source that is refused.
use Rattle.std.proofs.Common.{ℕ, ◌≡◌, ◌≤◌, arith, sym, subst, List, Option, Some, None}
use Rattle.k_edge.specs.declared.request.Request.{Request}
use Rattle.k_ending.specs.declared.ending.End.{End}
use Rattle.k_ending.specs.declared.ending.End.TheVariants as end
use Rattle.k_top_answers.specs.declared.failure.Failure.{Failure}
use Rattle.k_top_answers.specs.declared.failure.Failure.TheVariants as why
use Rattle.k_top_answers.specs.Failures.{failure_of_end, status_of}
use Rattle.k_top_answers.specs.Requests.{AreMade}

pub done_low : (failure : Option Failure) → failure ≡ None → status_of failure ≤ 3
done_low failure is = subst (λ f. status_of f ≤ 3) (sym is) (omega arith)

end_low : (steps : ℕ) (how : End) → status_of (failure_of_end steps how) ≤ 3
end_low steps (end.Returned exit) = omega arith
end_low steps (end.Trapped trap place) = omega arith
end_low steps end.OutOfSteps = omega arith

pub ended_low : (steps : ℕ) (how : End) (failure : Option Failure) → failure ≡ failure_of_end steps how → status_of failure ≤ 3
ended_low steps how failure is = subst (λ f. status_of f ≤ 3) (sym is) (end_low steps how)

-- such an answer asks for all that is to be asked
pub all_made : (failure : Option Failure) (all made : List Request) → status_of failure ≤ 3 → made ≡ all → AreMade failure all made
all_made None all made low is = is
all_made (Some (why.Trapped trap place)) all made low is = is
all_made (Some (why.OutOfSteps steps)) all made low is = is
all_made (Some (why.Lex fault)) all made low is = is
all_made (Some (why.Parse fault)) all made low is = is
all_made (Some (why.Types fault)) all made low is = is
all_made (Some (why.Usage fault)) all made low is = is
all_made (Some (why.Absent file)) all made low is = is
all_made (Some why.ReadFault) all made low is = is
all_made (Some why.WriteFault) all made low is = is
all_made (Some why.NoMemory) all made low is = is
all_made (Some why.InputLong) all made low is = is
all_made (Some (why.Table fault)) all made low is = is
all_made (Some (why.Saved place)) all made low is = is
all_made (Some (why.FileLong file)) all made low is = is
all_made (Some (why.SavedIn file place)) all made low is = absurd (omega (arith, low))
all_made (Some (why.OtherProgram file)) all made low is = absurd (omega (arith, low))
all_made (Some (why.SumLarge file)) all made low is = absurd (omega (arith, low))
