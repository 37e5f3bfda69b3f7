use Rattle.std.proofs.Common.{List, length, subst, arith}
use Rattle.k_dict_entries.specs.Entries.{NameBelow}
use Rattle.k_dict_entries.specs.declared.entry.Run.{Run}
use Rattle.k_sum_merge.proofs.Sized.{all_counted, counted_on}
use Rattle.k_sum_merge.proofs.sizes.instances_of.Goals as goal

pub loop-run-preserved : goal.loop-run-preserved
loop-run-preserved c =
    let P : List Run → Type 0 = NameBelow (length c.args.sizes.now) in
    let below = subst P c.in-Some.ensures.cases.0 c.loop-run.invariant.below in
    record {
      count = counted_on c.args.sizes.now c.args.runs.now c.loop-run.rest.now c.in-Some.later.now c.in-Some.run'.now c.loop-run.count c.add_times-count.result
          c.in-Some.ensures.cases.0 c.add_times-count.ensures c.loop-run.invariant.count;
      few = omega (arith, c.add_times-count.ensures);
      below = below.2;
    }

pub returns : goal.returns
returns c =
    all_counted c.args.sizes.now c.args.runs.now c.loop-run.rest.now c.loop-run.count c.in_default.ensures.cases c.loop-run.invariant.few c.loop-run.invariant.count
