use Rattle.std.proofs.Common.{◌≡◌, ◌<◌, ◌^◌, ◌+◌, ◌-◌, List, length, sym, ap, ◌∙◌, subst, arith}
use Rattle.k_dict_entries.specs.Entries.{AreRuns}
use Rattle.k_dict_entries.specs.declared.entry.Run.{Run}
use Rattle.k_selfpar.specs.Counts.{weighed}
use Rattle.k_selfpar.specs.Sums.{path_at, work_at}
use Rattle.k_selfpar.proofs.Adding.{paths_small, runs_are, runs_wider, serial_is, work_is, works_part, works_small}
use Rattle.k_selfpar.proofs.sums.serial.Goals as goal

pub sums_of_children-children-requires-clause-runs : goal.sums_of_children-children-requires-clause-runs
sums_of_children-children-requires-clause-runs c =
    let P : List Run → Type 0 = AreRuns 0 (length c.args.dict.now) in
    subst P (sym c.as_slice.ensures)
    (runs_wider 0 c.args.number (length c.args.dict.now) c.entry-entry.result.now.runs (omega (arith, c.requires.number))
    (runs_are c.args.dict.now c.requires.interned.earlier c.args.number c.entry-entry.result.now c.entry-entry.ensures.value))

pub sums_of_children-children-requires-clause-paths : goal.sums_of_children-children-requires-clause-paths
sums_of_children-children-requires-clause-paths c =
    let P : List Run → Type 0 = λ r. weighed (path_at c.args.dict.now) r < 2 ^ 62 in
    subst P (sym c.as_slice.ensures)
    (paths_small c.args.dict.now c.requires.interned.earlier c.args.number c.entry-entry.result.now c.entry-entry.ensures.value c.requires.children)

pub sums_of_children-children-requires-clause-works : goal.sums_of_children-children-requires-clause-works
sums_of_children-children-requires-clause-works c =
    let P : List Run → Type 0 = λ r. weighed (work_at c.args.dict.now) r < 2 ^ 62 in
    subst P (sym c.as_slice.ensures)
    (works_small c.args.dict.now c.requires.interned.earlier c.args.number c.entry-entry.result.now c.entry-entry.ensures.value c.requires.children)

pub overflow_sub-result : goal.overflow_sub-result
overflow_sub-result c =
    let works : c.sums_of_children-children.result.works ≡ weighed (work_at c.args.dict.now) c.entry-entry.result.now.runs =
    c.sums_of_children-children.ensures.works ∙ ap (weighed (work_at c.args.dict.now)) c.as_slice.ensures in
    let part = works_part c.args.dict.now c.requires.interned.earlier c.args.number c.entry-entry.result.now c.entry-entry.ensures.value c.requires.children in
    omega (arith, works, part)

pub overflow_add-result : goal.overflow_add-result
overflow_add-result c =
    let paths : c.sums_of_children-children.result.paths ≡ weighed (path_at c.args.dict.now) c.entry-entry.result.now.runs =
    c.sums_of_children-children.ensures.paths ∙ ap (weighed (path_at c.args.dict.now)) c.as_slice.ensures in
    let few = paths_small c.args.dict.now c.requires.interned.earlier c.args.number c.entry-entry.result.now c.entry-entry.ensures.value c.requires.children in
    let own = work_is c.args.dict.now c.requires.interned.earlier c.args.number c.entry-entry.result.now c.entry-entry.ensures.value in
    omega (arith, paths, few, own, c.requires.children.own)

pub returns : goal.returns
returns c =
    let paths : c.sums_of_children-children.result.paths ≡ weighed (path_at c.args.dict.now) c.entry-entry.result.now.runs =
    c.sums_of_children-children.ensures.paths ∙ ap (weighed (path_at c.args.dict.now)) c.as_slice.ensures in
    let works : c.sums_of_children-children.result.works ≡ weighed (work_at c.args.dict.now) c.entry-entry.result.now.runs =
    c.sums_of_children-children.ensures.works ∙ ap (weighed (work_at c.args.dict.now)) c.as_slice.ensures in
    ap (λ x. x + (c.entry-entry.result.now.work - c.sums_of_children-children.result.works)) paths
    ∙ ap (λ x. weighed (path_at c.args.dict.now) c.entry-entry.result.now.runs + (c.entry-entry.result.now.work - x)) works
    ∙ sym (serial_is c.args.dict.now c.requires.interned.earlier c.args.number c.entry-entry.result.now c.entry-entry.ensures.value)
