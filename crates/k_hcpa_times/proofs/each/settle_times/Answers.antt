use Rattle.k_hcpa_times.proofs.Lists.{after_back, settled_paths}
use Rattle.k_hcpa_times.proofs.each.settle_times.Goals as goal

pub returns-clause-row : goal.returns-clause-row
returns-clause-row c =
    after_back c.args.latency c.advance.new.times c.as_mut_slice.result.now c.args.row.now c.as_mut_slice.ensures.times c.advance.auto.times c.advance.ensures.times

pub returns-clause-paths : goal.returns-clause-paths
returns-clause-paths c =
    settled_paths c.args.latency c.advance.new.times c.as_mut_slice.result.now c.args.row.now c.advance.new.paths c.as_mut_slice-2.result.now c.args.paths.now
    c.as_mut_slice.ensures.times c.as_mut_slice-2.ensures.times c.advance.auto.times c.advance.auto.paths c.requires c.advance.ensures.times c.advance.ensures.paths
