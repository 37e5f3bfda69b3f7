use Rattle.std.proofs.Common.{◌+◌, ◌<◌, ◌^◌, List, ◌∙◌, ap, sym, subst}
use Rattle.k_dict_entries.specs.Tallies.{count_of}
use Rattle.k_dict_entries.specs.declared.entry.Run.{Run}
use Rattle.k_hcpa_summaries.proofs.level.Level.runs.Goals as goal

pub with_child-all-requires : goal.with_child-all-requires
with_child-all-requires c =
    let same = c.as_slice.ensures ∙ c.in_ok-runs.ensures ∙ ap (λ l. l.runs) c.self.view_is in
    subst (λ (runs : List Run). count_of c.in-Some.child runs + 1 < 2 ^ 64) (sym same) (c.requires c.in-Some.child)
