use Rattle.std.proofs.Common.{◌≡◌, ◌+◌, ◌<◌, ◌^◌, length}
use Rattle.k_selfpar.specs.Items.{items_in, total}
use Rattle.k_selfpar.proofs.grouping.count_in.Given as goal

abbrev pub invariant-loop-item : goal.invariant-loop-item
invariant-loop-item l = record {
  counted : l.count + total (λ n. 1) (items_in l.region l.rest) ≡ total (λ n. 1) (items_in l.region l.items);
  room : l.count + total (λ n. 1) l.rest < 2 ^ 64;
}

abbrev pub decreases-loop-item : goal.decreases-loop-item
decreases-loop-item l = length l.rest
