-- The listing of the run of a program's flat code is that of the program's run.
use Rattle.std.proofs.Common.{◌≡◌, ℕ, List, Result}
use Rattle.std.specs.Prelude.{IfOk}
use Rattle.std.proofs.lemmas.Result.{IfOk-weaker}
use Rattle.k_num.specs.declared.memory.NoMemory.{NoMemory}
use Rattle.k_ending.specs.declared.listing.Listing.{Listing}
use Rattle.k_evaluation.specs.Runs.{listing_of, run}
use Rattle.k_evaluation.specs.States.{Program}
use Rattle.k_code.specs.declared.code.Code.{Code}
use Rattle.k_code.specs.Runs.{HasOutcome}
use Rattle.k_code.proofs.Stepping.{one_outcome}
use Rattle.k_lower.specs.Promises.{RunsAs, WhereAccepted}
use Rattle.k_plain.specs.Programs.{IsOfSource}

-- what is promised where some source is accepted as a program
pub where_of_source : (program : Program) → IsOfSource program → (claim : Type 0) → WhereAccepted program claim → claim
where_of_source program of claim promised = promised of.unit of.accepted of.marks

module _ (program : Program) (code : Code) (input : List ℕ) (budget : ℕ) (runs : RunsAs program code) where
  listed : (l : Listing) → HasOutcome code input budget l.events l.output l.end → l ≡ listing_of (run program input budget)
  listed l is =
      let same = one_outcome code input budget l.events (run program input budget).events l.output (run program input budget).output l.end
      (run program input budget).end is (runs input budget) in
      λ j. record { events = same.0 j; output = same.1 j; end = same.2 j }

  pub all_listed : (r : Result Listing NoMemory) → IfOk r (λ l. HasOutcome code input budget l.events l.output l.end)
      → IfOk r (λ l. l ≡ listing_of (run program input budget))
  all_listed r is =
      IfOk-weaker r (λ l. HasOutcome code input budget l.events l.output l.end) (λ l. l ≡ listing_of (run program input budget)) (λ l so. listed l so) is
