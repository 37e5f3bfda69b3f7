use Rattle.std.proofs.Common.{List, sym, subst}
use Rattle.std.specs.Prelude.{IfOk}
use Rattle.k_dict_entries.specs.Trees.{nodes_of}
use Rattle.k_dict_entries.specs.declared.entry.Run.{Run}
use Rattle.k_selfpar.specs.Rows.{AreRows}
use Rattle.k_sum_rows.specs.Runs.{AreRunRoots, run_trees}
use Rattle.k_sum_rows.proofs.Listed.{sum_roots}
use Rattle.k_sum_rows.proofs.run_rows.rows.Goals as goal

pub rows_of_runs-requires-clause-profile : goal.rows_of_runs-requires-clause-profile
rows_of_runs-requires-clause-profile c = c.requires.profile

pub rows_of_runs-requires-clause-roots : goal.rows_of_runs-requires-clause-roots
rows_of_runs-requires-clause-roots c =
    let P : List Run → Type 0 = AreRunRoots c.args.sum.now.dict in
    subst P (sym c.as_slice.ensures) (sum_roots c.args.sum.now c.requires)

pub returns-clause-rows : goal.returns-clause-rows
returns-clause-rows c =
    let P : List Run → Type 0 = λ roots. IfOk c.rows_of_runs.result (AreRows (nodes_of 0 (run_trees c.args.sum.now.dict roots))) in
    subst P c.as_slice.ensures c.rows_of_runs.ensures.rows
