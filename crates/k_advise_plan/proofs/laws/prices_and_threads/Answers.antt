use Rattle.k_advise_plan.proofs.Shares.{more_start_saves_no_more, more_threads_save_no_less}
use Rattle.k_advise_plan.proofs.laws.prices_and_threads.Goals as goal

pub returns : goal.returns
returns c = record { start = more_start_saves_no_more; threads = more_threads_save_no_less }
