-- For contracts between crates: nobody has to believe it.
-- Verdicts in a word, and in a sentence.
use Rattle.std.specs.Prelude.{ℕ, Bool, true, false, List, codes}
use Rattle.k_advise_verdicts.specs.declared.facts.Condition.{Condition}
use Rattle.k_advise_verdicts.specs.declared.facts.Condition.TheVariants as condition
use Rattle.k_advise_verdicts.specs.declared.word.Verdict.{Verdict}
use Rattle.k_advise_verdicts.specs.declared.word.Verdict.TheVariants as verdict

-- a verdict in a word
abbrev pub word : Verdict → List ℕ
word (verdict.Parallel uneven) = codes "parallel"
word (verdict.Inside pick) = codes "inside"
word (verdict.Chain pairs) = codes "chain"
word (verdict.Shared common) = codes "shared"
word (verdict.Uncounted failing) = codes "uncounted"
word (verdict.Leaves place) = codes "leaves"
word (verdict.Small turn start) = codes "small"
word (verdict.Serial sp) = codes "serial"

-- what a loop of a verdict does
abbrev pub phrase : Verdict → List ℕ
phrase (verdict.Parallel uneven) = codes "can run in parallel"
phrase (verdict.Inside pick) = codes "stands inside a loop that is made parallel"
phrase (verdict.Chain pairs) = codes "needs in an iteration what an earlier one computed"
phrase (verdict.Shared common) = codes "has iterations that share memory or a variable"
phrase (verdict.Uncounted failing) = codes "has iterations that are not counted beforehand"
phrase (verdict.Leaves place) = codes "may be left before its last iteration"
phrase (verdict.Small turn start) = codes "takes less than it costs to begin it in parallel"
phrase (verdict.Serial sp) = codes "has next to nothing that can be done at once"

-- what fails where a loop is not counted
abbrev pub failing : Condition → List ℕ
failing condition.TestedFirst = codes "it is no for or while"
failing condition.Steps = codes "it steps no variable"
failing condition.Steered = codes "its test is not of what stays and what it steps alone"
failing condition.Unbroken = codes "a break leaves it"
failing condition.Unleft = codes "a return or exit leaves it"

-- a loop is to be made parallel
abbrev pub is_parallel : Verdict → Bool
is_parallel (verdict.Parallel uneven) = true
is_parallel _ = false

-- something stands in the way of a loop
abbrev pub is_held_up : Verdict → Bool
is_held_up (verdict.Parallel uneven) = false
is_held_up (verdict.Inside pick) = false
is_held_up _ = true
