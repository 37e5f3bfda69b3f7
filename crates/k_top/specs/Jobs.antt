-- For contracts between crates: nobody has to believe it.
-- What jobs need besides files and the input.
use Rattle.std.specs.Prelude.{Bool, true, false}
use Rattle.k_words.specs.declared.job.Job.{Job}
use Rattle.k_words.specs.declared.job.Job.TheVariants as job

-- the job has a program run on the machine that keeps its times
abbrev pub keeps_times : Job → Bool
keeps_times (job.Run file steps depth latency dict save) = true
keeps_times (job.Graph file steps depth latency) = false
keeps_times (job.Carried file steps depth latency storage) = false
keeps_times (job.Replay file steps depth latency workers seed) = false
keeps_times (job.Page file steps depth latency dict) = true
keeps_times (job.Annotate file steps depth latency strict) = true
keeps_times (job.Show file dict) = false
keeps_times (job.ShowJson file dict) = false
keeps_times (job.ShowCsv file) = false
keeps_times (job.Merge save parts) = false
keeps_times (job.Check file) = false
keeps_times (job.Demo number loops) = true
