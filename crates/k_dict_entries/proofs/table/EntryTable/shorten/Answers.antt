use Rattle.std.proofs.Common.{ap, ◌∙◌, sym, subst, drop, List}
use Rattle.k_dict_entries.specs.Entries.{AreDistinct, all_runs}
use Rattle.k_dict_entries.specs.declared.entry.Entry.{Entry}
use Rattle.k_dict_entries.proofs.Pushes.{AreDistinct-take, few_newest, newest_runs}
use Rattle.k_dict_entries.proofs.table.EntryTable.shorten.Goals as goal

pub count_runs-gone-requires : goal.count_runs-gone-requires
count_runs-gone-requires c =
    few_newest c.args.keep c.self.inside.entries.keys c.split_at.result.1.now c.self.invariant.1
    (c.split_at.ensures.back ∙ ap (drop c.args.keep) c.as_slice.ensures.keys)

pub overflow_sub-self : goal.overflow_sub-self
overflow_sub-self c =
    (newest_runs c.args.keep c.self.inside.runs c.count_runs-gone.result c.self.inside.entries.keys c.split_at.result.1.now c.self.invariant.0
    (c.split_at.ensures.back ∙ ap (drop c.args.keep) c.as_slice.ensures.keys) c.count_runs-gone.ensures).0

pub invariant_of-self : goal.invariant_of-self
invariant_of-self c =
    let P : List Entry → Type 0 = AreDistinct in (
      (newest_runs c.args.keep c.self.inside.runs c.count_runs-gone.result c.self.inside.entries.keys c.split_at.result.1.now c.self.invariant.0
          (c.split_at.ensures.back ∙ ap (drop c.args.keep) c.as_slice.ensures.keys) c.count_runs-gone.ensures).1 ∙ ap all_runs (sym c.truncate.ensures.keys),
      subst P (sym c.truncate.ensures.keys) (AreDistinct-take c.args.keep c.self.inside.entries.keys c.self.invariant.1),
    )
