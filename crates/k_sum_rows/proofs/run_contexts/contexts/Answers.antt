use Rattle.std.proofs.Common.{List, sym, subst}
use Rattle.k_dict_entries.specs.declared.entry.Run.{Run}
use Rattle.k_sum_rows.specs.Runs.{AreRunRoots, GivesRunContexts, run_trees}
use Rattle.k_sum_rows.proofs.Listed.{sum_of_one, sum_roots}
use Rattle.k_sum_rows.proofs.run_contexts.contexts.Goals as goal
use Rattle.k_sum_saved.specs.SumLines.{AreOfOneRegion}

pub contexts_of_runs-requires-clause-profile : goal.contexts_of_runs-requires-clause-profile
contexts_of_runs-requires-clause-profile c = c.requires.profile

pub contexts_of_runs-requires-clause-roots : goal.contexts_of_runs-requires-clause-roots
contexts_of_runs-requires-clause-roots c =
    let P : List Run → Type 0 = AreRunRoots c.args.sum.now.dict in
    subst P (sym c.as_slice.ensures) (sum_roots c.args.sum.now c.requires)

pub contexts_of_runs-requires-clause-one : goal.contexts_of_runs-requires-clause-one
contexts_of_runs-requires-clause-one c =
    let P : List Run → Type 0 = AreOfOneRegion c.args.sum.now.dict in
    subst P (sym c.as_slice.ensures) (sum_of_one c.args.sum.now c.requires)

pub contexts_of_runs-requires-clause-regions : goal.contexts_of_runs-requires-clause-regions
contexts_of_runs-requires-clause-regions c = c.requires.in_list

pub returns-clause-contexts : goal.returns-clause-contexts
returns-clause-contexts c =
    let P : List Run → Type 0 = λ roots. GivesRunContexts c.args.sum.now.regions (run_trees c.args.sum.now.dict roots) c.contexts_of_runs.result in
    subst P c.as_slice.ensures c.contexts_of_runs.ensures.contexts
