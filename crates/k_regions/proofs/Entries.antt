-- How often a run enters regions.
use Rattle.std.proofs.Common.{◌≡◌, ℕ, ◌+◌, ◌*◌, ◌≤◌, List, length, arith, mul-add, mul-le-mul_left}
use Rattle.k_optab.specs.Events.{operations}
use Rattle.k_optab.specs.declared.region.Region.{Region}
use Rattle.k_evaluation.specs.Calls.{function_region}
use Rattle.k_evaluation.specs.Runs.{initial, run, whole}
use Rattle.k_evaluation.proofs.Runs.{kept_budget}
use Rattle.k_regions.specs.Laws.{RunsEnterFew, entries}
use Rattle.k_regions.specs.Regions.{regions_of}
use Rattle.k_regions.proofs.Whole.{ended_allowed, has_run, theirs}

-- where so many operations were made, and one more is paid for
within_budget : (price entered count budget : ℕ) → entered + 0 ≤ price + price * count → count ≤ budget → entered ≤ price * (budget + 1)
within_budget price entered count budget paid kept =
    let more : price * count ≤ price * budget = mul-le-mul_left price kept in
    let all : price * (budget + 1) ≡ price * budget + price * 1 = mul-add price budget 1 in
    omega (arith, paid, more, all)

pub enter_few : RunsEnterFew
unfolding run
enter_few unit program input budget typed none =
    let it = has_run unit program input budget typed none in
    let regions : List Region = regions_of program.unit in
    let paid = (ended_allowed (theirs regions) (function_region program.unit.main it.main) (whole program (initial input budget)) it.leaves).paid in
    within_budget (length regions) (entries (run program input budget).events) (length (operations (run program input budget).events)) budget paid (kept_budget program input budget)
