use Rattle.std.proofs.Common.{rules, arith}
use Rattle.std.proofs.lemmas.List.Sorted.{IsNonDecreasingBy-from_sort_by_key}
use Rattle.k_selfpar.specs.declared.item.Item.{Item}
use Rattle.k_selfpar.proofs.ItemLists.{rise_of}
use Rattle.k_selfpar.proofs.item.sort_by_region.Goals as goal

pub returns-clause-sorted : goal.returns-clause-sorted
returns-clause-sorted c =
    rise_of 0 c.sort_by_key.new.self.items (λ d some. omega arith)
    (IsNonDecreasingBy-from_sort_by_key (λ (i : Item). i.region) _ c.in_ok-sort_by_key.ensures.sorted (λ a r q k. search rules))
