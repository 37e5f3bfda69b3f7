-- The jobs that are left where those are taken off of which times are kept.
use Rattle.std.proofs.Common.{ℕ, ◌≡◌, Bool, false, List, Option, refl}
use Rattle.k_words.specs.declared.job.Job.{Job}
use Rattle.k_words.specs.declared.job.Job.TheVariants as job
use Rattle.k_top.specs.Jobs.{keeps_times}

pub untimed_left : (j : Job)
    → ((file : List ℕ) (steps depth : ℕ) (latency : Option (List ℕ)) (dict : Bool) (save : Option (List ℕ)) → j ≡ job.Run file steps depth latency dict save → ⊥)
    → ((file : List ℕ) (steps depth : ℕ) (latency : Option (List ℕ)) (dict : Bool) → j ≡ job.Page file steps depth latency dict → ⊥)
    → ((file : List ℕ) (steps depth : ℕ) (latency : Option (List ℕ)) (strict : Bool) → j ≡ job.Annotate file steps depth latency strict → ⊥)
    → ((number loops : ℕ) → j ≡ job.Demo number loops → ⊥)
    → keeps_times j ≡ false
untimed_left (job.Run file steps depth latency dict save) not_run not_page not_annotate not_demo = absurd (not_run file steps depth latency dict save refl)
untimed_left (job.Graph file steps depth latency) not_run not_page not_annotate not_demo = refl
untimed_left (job.Carried file steps depth latency storage) not_run not_page not_annotate not_demo = refl
untimed_left (job.Replay file steps depth latency workers seed) not_run not_page not_annotate not_demo = refl
untimed_left (job.Page file steps depth latency dict) not_run not_page not_annotate not_demo = absurd (not_page file steps depth latency dict refl)
untimed_left (job.Annotate file steps depth latency strict) not_run not_page not_annotate not_demo = absurd (not_annotate file steps depth latency strict refl)
untimed_left (job.Show file dict) not_run not_page not_annotate not_demo = refl
untimed_left (job.ShowJson file dict) not_run not_page not_annotate not_demo = refl
untimed_left (job.ShowCsv file) not_run not_page not_annotate not_demo = refl
untimed_left (job.Merge save parts) not_run not_page not_annotate not_demo = refl
untimed_left (job.Check file) not_run not_page not_annotate not_demo = refl
untimed_left (job.Demo number loops) not_run not_page not_annotate not_demo = absurd (not_demo number loops refl)
