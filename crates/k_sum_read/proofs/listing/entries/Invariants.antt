use Rattle.std.proofs.Common.{◌-◌, length}
use Rattle.k_dict_saved.specs.declared.format.Format.TheVariants.{Two}
use Rattle.k_dict_saved.proofs.EntrySteps.{AtEntries}
use Rattle.k_sum_order.specs.Order.{AreInOrder}
use Rattle.k_sum_read.proofs.listing.entries.Given as goal

abbrev pub invariant-lines : goal.invariant-lines
invariant-lines l = record {
  at : AtEntries Two l.regions l.count l.text l.rest l.table l.extents;
  order : AreInOrder l.table;
}

abbrev pub decreases-lines : goal.decreases-lines
decreases-lines l = l.count - length l.table
