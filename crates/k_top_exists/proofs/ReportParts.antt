-- What a report is made of: a tree whose regions there are has contexts, and contexts that may have a plan have one.
use Rattle.std.proofs.Common.{refl, suc, arith}
use Rattle.k_dict_entries.specs.Trees.{alone, size}
use Rattle.k_selfpar.proofs.Under.{has_contexts}
use Rattle.k_plan.specs.Plan.{picks_from}
use Rattle.k_plan.specs.Choices.{total}
use Rattle.k_plan.specs.Best.{best_choice}
use Rattle.k_plan.specs.Saving.{standard_limits}
use Rattle.k_plan.proofs.Planned.{best_is_plan}
use Rattle.k_top_exists.specs.Profiles.{ContextsExist, PlansExist}

pub contexts_exist : ContextsExist
contexts_exist regions t named =
    let contexts = has_contexts regions (suc (size (alone t))) (alone t) (omega arith) named 0 0 in (contexts.0, (t, refl, contexts.1))

pub plans_exist : PlansExist
plans_exist contexts can = (
  record { picks = picks_from 0 (best_choice standard_limits contexts) contexts; total = total contexts (best_choice standard_limits contexts) },
  record { plan = best_choice standard_limits contexts; is_plan = best_is_plan standard_limits contexts can; picks = refl; total = refl },
)
