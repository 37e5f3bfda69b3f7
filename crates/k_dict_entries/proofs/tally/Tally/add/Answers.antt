use Rattle.std.proofs.Common.{◌≡◌, ◌+◌, ap, ◌∙◌, arith, map, unwrap_or}
use Rattle.std.specs.Ordering.{nat_cmp}
use Rattle.std.specs.BTreeMap.{insert_entry}
use Rattle.k_dict_entries.specs.Tallies.{counted, count_of, run_of}
use Rattle.k_dict_entries.proofs.Tallying.{held, held_is, counted_is}
use Rattle.k_dict_entries.proofs.tally.Tally.add.Goals as goal

pub overflow_add-count : goal.overflow_add-count
overflow_add-count c =
    let before : c.unwrap_or-before.result ≡ held c.args.entry c.self.inside.counts.entries =
    c.unwrap_or-before.ensures ∙ ap (λ o. unwrap_or o 0) (c.copied.ensures ∙ c.get.ensures.value) in
    let is : c.unwrap_or-before.result ≡ count_of c.args.entry c.args.self.now =
    before ∙ held_is c.args.entry c.self.inside.counts.entries c.self.invariant ∙ ap (count_of c.args.entry) c.self.view_is in
    let room = c.requires in omega arith

pub returns-clause-ok : goal.returns-clause-ok
returns-clause-ok c =
    let before : c.unwrap_or-before.result ≡ held c.args.entry c.self.inside.counts.entries =
    c.unwrap_or-before.ensures ∙ ap (λ o. unwrap_or o 0) (c.copied.ensures ∙ c.get.ensures.value) in
    ap (map run_of) c.in_ok-insert.ensures.entries
    ∙ ap (λ b. map run_of (insert_entry nat_cmp c.self.inside.counts.entries c.args.entry (c.args.count + b))) before
    ∙ counted_is c.args.entry c.args.count c.self.inside.counts.entries c.self.invariant ∙ ap (counted c.args.entry c.args.count) c.self.view_is
