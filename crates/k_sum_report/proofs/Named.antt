-- The rows and the contexts of a sum name its regions.
use Rattle.std.proofs.Common.{◌<◌, ◌≤◌, List, length}
use Rattle.std.specs.Prelude.{All}
use Rattle.k_dict_entries.specs.Entries.{trees_of}
use Rattle.k_plan.specs.Plan.{CanPlan}
use Rattle.k_selfpar.specs.Rows.{AreRows}
use Rattle.k_selfpar.specs.declared.context.Context.{Context}
use Rattle.k_selfpar.specs.declared.row.Row.{Row}
use Rattle.k_report_profile.proofs.Named.{AreNamed, contexts_named, named_laid, named_tree, rows_named_in}
use Rattle.k_sum.specs.Laws.{forest_of}
use Rattle.k_sum.specs.declared.sum.Sum.{Sum}
use Rattle.k_sum_rows.proofs.Listed.{sum_can_plan}
use Rattle.k_sum_saved.specs.SumRules.{IsSum}
use Rattle.k_sum_report.specs.SumReport.{AreSumContexts, nodes_of_sum}

module _ (sum : Sum) (is : IsSum sum) where
  -- each instance of its runs is of a region that is there
  pub forest_named : AreNamed (length sum.regions) (forest_of sum)
  forest_named =
      named_laid (length sum.regions) (trees_of sum.dict) 0 (length sum.dict) sum.roots is.roots.rise
      (λ m below. named_tree (length sum.regions) sum.dict is.profile.interned.earlier is.in_list m below)

  pub sum_rows : (rows : List Row) → AreRows (nodes_of_sum sum) rows → All (λ (row : Row). row.region < length sum.regions) rows
  sum_rows rows are = rows_named_in (length sum.regions) (forest_of sum) rows forest_named are

  pub sum_contexts : (contexts : List Context) → AreSumContexts sum contexts → All (λ (c : Context). c.region < length sum.regions) contexts
  sum_contexts contexts are = contexts_named sum.regions 0 0 (forest_of sum) contexts are

  -- contexts that are no more than may be can be planned
  pub sum_plan : (contexts : List Context) → AreSumContexts sum contexts → length contexts ≤ 65536 → CanPlan contexts
  sum_plan contexts are few = sum_can_plan sum is contexts are few
