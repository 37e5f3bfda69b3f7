-- A pick of a plan carries nothing.
use Rattle.std.proofs.Common.{ℕ, ◌≡◌, ◌*◌, ◌&&◌, Bool, true, false, List, Some, slice_get, sym, ◌∙◌, subst}
use Rattle.std.specs.Prelude.{IsTrue, nat_le, nat_lt, not}
use Rattle.std.proofs.lemmas.Bool.{and_parts}
use Rattle.std.proofs.lemmas.Option.{same_Some}
use Rattle.k_optab.specs.Regions.{is_loop}
use Rattle.k_carry_pairs.specs.declared.pairs.LoopPairs.{LoopPairs}
use Rattle.k_carry_storage_pairs.specs.declared.pairs.Shared.{Shared}
use Rattle.k_selfpar.specs.declared.context.Context.{Context}
use Rattle.k_selfpar.specs.declared.row.Row.{Row}
use Rattle.k_selfpar.specs.Contexts.{root_work}
use Rattle.k_plan.specs.Choices.{Choice}
use Rattle.k_advise_plan.specs.declared.team.Team.{Team}
use Rattle.k_advise_plan.specs.Plan.{IsPassing, IsThreadedPlan}
use Rattle.k_advise_plan.specs.Saving.{passes, threaded_saving}
use Rattle.k_advise_verdicts.specs.declared.facts.LoopFacts.{LoopFacts}
use Rattle.k_advise_verdicts.specs.declared.standing.Standing.{Standing}
use Rattle.k_advise_verdicts.specs.Laws.{FlagsAreOfPairs, is_chain}
use Rattle.k_advise_verdicts.specs.Told.{number_of_pairs, of_region, pairs_in}
use Rattle.k_advise_verdicts.specs.Verdicts.{verdict_of}
use Rattle.k_advise_verdicts.proofs.Judged.{no_chain, not_set}

-- what passes carries no pair
passing_free : (team : Team) (carries : ℕ → Bool) (work : ℕ) (c : Context) → passes team carries work c ≡ true → carries c.region ≡ false
passing_free team carries work c is =
    let saved : ℕ = threaded_saving team c in
    let some : (nat_lt 0 saved && (nat_le work (1000 * saved) && not (carries c.region))) ≡ true =
    (and_parts (is_loop c.kind) (nat_lt 0 saved && (nat_le work (1000 * saved) && not (carries c.region))) is).1 in
    let enough : (nat_le work (1000 * saved) && not (carries c.region)) ≡ true =
    (and_parts (nat_lt 0 saved) (nat_le work (1000 * saved) && not (carries c.region)) some).1 in
    not_set (carries c.region) (and_parts (nat_le work (1000 * saved)) (not (carries c.region)) enough).1

pub pick_no_chain : (team : Team) (carries : ℕ → Bool) (contexts : List Context) (plan : Choice) (loops : List LoopPairs) (k : ℕ) (c : Context) (start : ℕ)
    (row : Row) (f : LoopFacts) (s : Standing) (shared : List Shared) → IsThreadedPlan team carries contexts plan → FlagsAreOfPairs carries loops → IsTrue (plan k)
    → slice_get contexts k ≡ Some c → is_chain (verdict_of start row f s (pairs_in (of_region number_of_pairs c.region loops)) shared) ≡ false
pick_no_chain team carries contexts plan loops k c start row f s shared is flags picked at =
    let passing : IsPassing team carries contexts k = is.choice.passing k picked in
    let same : passing.0 ≡ c = same_Some passing.0 c (sym passing.1 ∙ at) in
    let it : passes team carries (root_work contexts) c ≡ true = subst (λ x. passes team carries (root_work contexts) x ≡ true) same passing.2 in
    no_chain start row f s (pairs_in (of_region number_of_pairs c.region loops)) shared (flags c.region (passing_free team carries (root_work contexts) c it))
