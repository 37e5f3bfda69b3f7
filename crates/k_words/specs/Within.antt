-- Believed with a public law.
-- The limits of the numbers that are asked for.
use Rattle.std.specs.Prelude.{ℕ, ◌≤◌, List, Ok}
use Rattle.k_words.specs.declared.job.Job.{Job}
use Rattle.k_words.specs.declared.job.Job.TheVariants as job
use Rattle.k_words.specs.Parts.{AreNamedOnce, all_times}
use Rattle.k_words.specs.declared.merging.Part.{Part}
use Rattle.k_words.specs.Words.{IsAnswer}

-- a number lies within limits
pub record IsWithin (low high number : ℕ) : Type 0 where
  pub at_least : low ≤ number
  pub at_most : number ≤ high

-- the operations that a run may make, and the levels that are tracked
pub record IsRunWithin (most operations levels : ℕ) : Type 0 where
  pub steps : IsWithin 1 most operations
  pub depth : IsWithin 1 32 levels

-- the same, and how many workers there are and what their order is drawn from
pub record IsReplayWithin (operations levels count number : ℕ) : Type 0 where
  pub run : IsRunWithin 200000 operations levels
  pub workers : IsWithin 1 16 count
  pub seed : IsWithin 0 18446744073709551615 number

-- files to put together: each stands once, and together they are named 2 to 4,096 times
pub record AreParts (parts : List Part) : Type 0 where
  pub once : AreNamedOnce parts
  pub count : IsWithin 2 4096 (all_times parts)

-- the numbers of a job lie within their limits
abbrev pub IsJobWithin : Job → Type 0
IsJobWithin (job.Run file steps depth latency dict save) = IsRunWithin 1000000000 steps depth
IsJobWithin (job.Graph file steps depth latency) = IsRunWithin 200000 steps depth
IsJobWithin (job.Carried file steps depth latency storage) = IsRunWithin 1000000000 steps depth
IsJobWithin (job.Replay file steps depth latency workers seed) = IsReplayWithin steps depth workers seed
IsJobWithin (job.Page file steps depth latency dict) = IsRunWithin 1000000000 steps depth
IsJobWithin (job.Annotate file steps depth latency strict) = IsRunWithin 1000000000 steps depth
IsJobWithin (job.Show file dict) = Unit {0}
IsJobWithin (job.ShowJson file dict) = Unit {0}
IsJobWithin (job.ShowCsv file) = Unit {0}
IsJobWithin (job.Merge save parts) = AreParts parts
IsJobWithin (job.Check file) = Unit {0}
IsJobWithin (job.Demo number loops) = IsWithin 1 2000 loops

-- so do those of each job that words ask for
abbrev pub JobsAreWithin : Type 0
JobsAreWithin = (words : List (List ℕ)) (asked : Job) → IsAnswer words (Ok asked) → IsJobWithin asked
