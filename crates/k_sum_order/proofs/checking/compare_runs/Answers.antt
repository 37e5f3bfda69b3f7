use Rattle.std.proofs.Common.{List, sym, ap, ◌∙◌}
use Rattle.std.proofs.lemmas.List.{nil_from_length}
use Rattle.std.specs.Cmp.Lexicographic.{slice_cmp}
use Rattle.std.specs.Ordering.{nat_cmp}
use Rattle.k_dict_entries.specs.declared.entry.Run.{Run}
use Rattle.k_sum_order.specs.Order.{run_numbers}
use Rattle.k_sum_order.proofs.checking.compare_runs.Goals as goal

pub returns : goal.returns
returns c =
    let none = nil_from_length c.loop-run.ones.now c.in_default.ensures.cases in
    c.compare_end.ensures
    ∙ sym (ap (λ (l : List Run). slice_cmp nat_cmp (run_numbers l) (run_numbers c.loop-run.others.now)) none) ∙ c.loop-run.invariant
