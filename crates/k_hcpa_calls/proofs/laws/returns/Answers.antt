use Rattle.k_hcpa_calls.proofs.Returned.{last_returns_have_paths, returns_keep_times}
use Rattle.k_hcpa_calls.proofs.laws.returns.Goals as goal

pub returns : goal.returns
returns c = record { times = returns_keep_times; paths = last_returns_have_paths }
