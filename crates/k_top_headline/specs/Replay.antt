-- Believed with a public law.
-- What `kremlin replay` writes, and with which status it ends, where nothing goes wrong outside and memory suffices.
use Rattle.std.specs.Prelude.{ℕ, ◌≡◌, List, [], Option}
use Rattle.k_ending.specs.declared.ending.End.{End}
use Rattle.k_ending.specs.declared.ending.End.TheVariants.{Returned, Trapped, OutOfSteps}
use Rattle.k_replay_laws.specs.Texts.{IsReplayText}
use Rattle.k_words.specs.declared.job.Job.TheVariants as job
use Rattle.k_top_answers.specs.Clauses.{Keeps, World}
use Rattle.k_top_answers.specs.Steps.{Running, run_of}
use Rattle.k_top_headline.specs.Headline.{HoldsProgram, TellsOfRun, WentWell}

-- what is written, by how the run ended: where main returned, the program's output, how many operations the run made, in how many rounds so many workers fire
-- them, and what each worker does; and else nothing
abbrev pub WritesReplay : Running → ℕ → ℕ → List ℕ → End → Type 0
WritesReplay r workers seed text (Returned exit) = IsReplayText workers seed exit (run_of r).output (run_of r).events text
WritesReplay r workers seed text (Trapped trap place) = text ≡ []
WritesReplay r workers seed text OutOfSteps = text ≡ []

-- REPLAY, the conclusions
pub record ReplayTells (r : Running) (workers seed status : ℕ) (old new : World) : Type 0 where
  -- the output, and how workers fire the operations of the run
  pub text : List ℕ
  pub written : WritesReplay r workers seed text (run_of r).end
  -- is what is told
  pub tells : TellsOfRun r text status old new

-- REPLAY. The words ask for the replay of a file by so many workers; and the file is an accepted program, with its latencies and its input
abbrev pub ReplayIsTold : Type 0
ReplayIsTold = (words : List (List ℕ)) (status : ℕ) (old new : World) (file : List ℕ) (latency : Option (List ℕ)) (r : Running)
    (depth workers seed : ℕ) → Keeps words status old new → WentWell words (job.Replay file r.steps depth latency workers seed) status old new → HoldsProgram old file latency r
    → ReplayTells r workers seed status old new
