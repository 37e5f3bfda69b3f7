use Rattle.k_hcpa_calls.proofs.Called.{calls_have_paths, calls_keep_times, handed_calls_have_paths}
use Rattle.k_hcpa_calls.proofs.laws.calls.Goals as goal

pub returns : goal.returns
returns c = record { times = calls_keep_times; paths = calls_have_paths; handed = handed_calls_have_paths }
