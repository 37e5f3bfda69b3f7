use Rattle.std.proofs.Common.{ℕ, List, length, sym, ap, ◌∙◌, subst}
use Rattle.k_dict_entries.specs.Entries.{NameBelow}
use Rattle.k_dict_saved.specs.Migration.{renumbered_entry}
use Rattle.k_dict_saved.proofs.Migrating.{below_done, can_intern, migrating_more, migrating_start, never_full, place_of_next}
use Rattle.k_dict_saved.proofs.migration.dictionary.Goals as goal

pub loop-entry-init : goal.loop-entry-init
loop-entry-init c = migrating_start c.args.entries.now c.new-dict.result c.new-numbers.result c.new-dict.ensures c.new-numbers.ensures

pub renumber-requires-clause-below : goal.renumber-requires-clause-below
renumber-requires-clause-below c =
    let P : List ℕ → Type 0 = λ l. NameBelow (length l) c.in-Some.entry.now.runs in
    subst P (sym c.as_slice.ensures)
    (below_done c.args.entries.now c.loop-entry.rest.now c.in-Some.later.now c.loop-entry.dict c.loop-entry.numbers c.in-Some.entry.now c.loop-entry.invariant
    c.in-Some.ensures.cases.0 c.requires.runs)

pub renumber-requires-clause-few : goal.renumber-requires-clause-few
renumber-requires-clause-few c =
    c.requires.few _ c.in-Some.entry.now
    (place_of_next c.args.entries.now c.loop-entry.rest.now c.in-Some.later.now c.loop-entry.dict c.loop-entry.numbers c.in-Some.entry.now c.loop-entry.invariant
    c.in-Some.ensures.cases.0 c.requires.runs)

pub intern-requires : goal.intern-requires
intern-requires c =
    can_intern c.args.entries.now c.loop-entry.rest.now c.in-Some.later.now c.loop-entry.dict c.loop-entry.numbers c.in-Some.entry.now c.loop-entry.invariant
    c.in-Some.ensures.cases.0 c.requires.runs c.in_ok-renumbered.renumbered
    (c.in_ok-renumbered.ensures ∙ ap (λ l. renumbered_entry l c.in-Some.entry.now) c.as_slice.ensures)

pub unreachable-requires : goal.unreachable-requires
unreachable-requires c =
    never_full c.args.entries.now c.loop-entry.rest.now c.in-Some.later.now c.loop-entry.dict c.loop-entry.numbers c.in-Some.entry.now c.loop-entry.invariant
    c.in-Some.ensures.cases.0 c.requires.runs c.requires.distinct c.intern.new.self c.in_ok-renumbered.renumbered
    (c.in_ok-renumbered.ensures ∙ ap (λ l. renumbered_entry l c.in-Some.entry.now) c.as_slice.ensures)
    c.in-Err-Full.field-0 c.in-Err-Full.field-0-0 c.in-Err-Full.field-0-is c.in-Err-Full.ensures.answer

pub loop-entry-preserved : goal.loop-entry-preserved
loop-entry-preserved c =
    migrating_more c.args.entries.now c.loop-entry.rest.now c.in-Some.later.now c.loop-entry.dict c.loop-entry.numbers c.in-Some.entry.now c.loop-entry.invariant
    c.in-Some.ensures.cases.0 c.requires.runs c.intern.new.self c.in_ok-renumbered.renumbered c.in-Ok.number
    (c.in_ok-renumbered.ensures ∙ ap (λ l. renumbered_entry l c.in-Some.entry.now) c.as_slice.ensures)
    c.in-Ok.ensures.interned c.in-Ok.ensures.answer c.push.new.self c.in_ok-push-in-Ok.ensures.ok
