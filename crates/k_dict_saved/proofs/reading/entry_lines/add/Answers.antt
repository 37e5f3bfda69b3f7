use Rattle.std.proofs.Common.{List, ap, ◌∙◌, subst}
use Rattle.k_dict_saved.specs.Extents.{extent_of}
use Rattle.k_dict_entries.specs.Entries.{tree_of, trees_of}
use Rattle.k_dict_saved.specs.Reading.{IsWithinRules}
use Rattle.k_dict_entries.specs.declared.entry.Entry.{Entry}
use Rattle.k_dict_saved.proofs.EntrySteps.{adds, adds_extent, adds_not}
use Rattle.k_dict_saved.proofs.reading.entry_lines.add.Goals as goal

pub returns-then-number-high-clause-answer : goal.returns-then-number-high-clause-answer
returns-then-number-high-clause-answer c =
    adds_not c.args.table.now c.intern.new.self c.args.entry c.in-Ok.number c.len-high.result c.in-Ok.ensures.answer c.len-high.ensures.count c.if-number-high.true

pub returns-in_ok-push-in-Ok-clause-answer : goal.returns-in_ok-push-in-Ok-clause-answer
returns-in_ok-push-in-Ok-clause-answer c =
    let P : List Entry → Type 0 = λ l. IsWithinRules l c.args.entry in
    adds c.args.table.now c.intern.new.self c.args.entry c.in-Ok.number c.len-high.result c.in-Ok.ensures.answer c.len-high.ensures.count c.if-number-high.false
    c.in-Ok.ensures.distinct (subst P c.entries.ensures.value c.in-Some.ensures.0) tt

pub returns-in_ok-push-in-Ok-clause-each : goal.returns-in_ok-push-in-Ok-clause-each
returns-in_ok-push-in-Ok-clause-each c =
    adds_extent c.args.table.now c.intern.new.self c.args.entry c.in-Ok.number c.len-high.result c.in-Ok.ensures.answer c.len-high.ensures.count c.if-number-high.false
    c.args.extents.now c.push.new.self c.in-Some.extent c.requires.each
    (c.in-Some.ensures.1 ∙ ap (λ l. extent_of (tree_of (trees_of l) c.args.entry)) c.entries.ensures.value) c.in_ok-push-in-Ok.ensures.ok
