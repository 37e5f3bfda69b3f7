use Rattle.std.proofs.Common.{◌≡◌, ◌+◌, ap, ◌∙◌, arith, int_cmp, map, unwrap_or}
use Rattle.std.specs.Int.{w32}
use Rattle.std.specs.BTreeMap.{insert_entry}
use Rattle.std.proofs.lemmas.Int.{to_z-of_z}
use Rattle.k_sum.specs.Exits.{counted, exit_of, runs_of}
use Rattle.k_sum.proofs.Counting.{counted_is, held, held_is}
use Rattle.k_sum.proofs.exits.Exits.add.Goals as goal

pub overflow_add-runs : goal.overflow_add-runs
overflow_add-runs c =
    let same = to_z-of_z w32 c.args.value c.ranges.value in
    let before : c.unwrap_or-before.result ≡ held c.args.value c.self.inside.counts.entries =
    c.unwrap_or-before.ensures ∙ ap (λ o. unwrap_or o 0) (c.copied.ensures ∙ c.get.ensures.value) ∙ ap (λ v. held v c.self.inside.counts.entries) same in
    let is : c.unwrap_or-before.result ≡ runs_of c.args.value c.args.self.now =
    before ∙ held_is c.args.value c.self.inside.counts.entries c.self.invariant ∙ ap (runs_of c.args.value) c.self.view_is in
    let room = c.requires in omega arith

pub returns-clause-ok : goal.returns-clause-ok
returns-clause-ok c =
    let same = to_z-of_z w32 c.args.value c.ranges.value in
    let before : c.unwrap_or-before.result ≡ held c.args.value c.self.inside.counts.entries =
    c.unwrap_or-before.ensures ∙ ap (λ o. unwrap_or o 0) (c.copied.ensures ∙ c.get.ensures.value) ∙ ap (λ v. held v c.self.inside.counts.entries) same in
    ap (map exit_of) c.in_ok-insert.ensures.entries
    ∙ ap (λ v. map exit_of (insert_entry int_cmp c.self.inside.counts.entries v (c.args.runs + c.unwrap_or-before.result))) same
    ∙ ap (λ b. map exit_of (insert_entry int_cmp c.self.inside.counts.entries c.args.value (c.args.runs + b))) before
    ∙ counted_is c.args.value c.args.runs c.self.inside.counts.entries c.self.invariant ∙ ap (counted c.args.value c.args.runs) c.self.view_is
