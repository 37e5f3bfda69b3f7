use Rattle.std.proofs.Common.{ap, ◌∙◌, sym, subst, List, length, refl}
use Rattle.k_dict_entries.proofs.Pushes.{found_number, absent, too_many, added, added_last}
use Rattle.k_dict_entries.proofs.table.EntryTable.intern.Goals as goal

pub returns-in-Some-clause-answer : goal.returns-in-Some-clause-answer
returns-in-Some-clause-answer c = found_number c.self.inside.entries.keys c.args.self.now c.args.entry c.in-Some.number c.self.view_is c.in-Some.ensures.index

pub returns-then-len-eq-MOST_ENTRIES-clause-answer : goal.returns-then-len-eq-MOST_ENTRIES-clause-answer
returns-then-len-eq-MOST_ENTRIES-clause-answer c = (
  absent c.self.inside.entries.keys c.args.self.now c.args.entry c.self.view_is c.in_default.ensures.found,
  ap length (sym c.self.view_is) ∙ sym c.len-2.ensures.len ∙ c.if-len-eq-MOST_ENTRIES.true,
  refl,
)

pub returns-then-runs-gt-MOST_RUNS_TOGETHER-clause-answer : goal.returns-then-runs-gt-MOST_RUNS_TOGETHER-clause-answer
returns-then-runs-gt-MOST_RUNS_TOGETHER-clause-answer c =
    let many = too_many c.self.inside.entries.keys c.args.self.now c.args.entry c.self.inside.runs c.len.result c.self.view_is c.self.invariant.1
    c.self.invariant.0 c.len.ensures (λ e. c.if-len-eq-MOST_ENTRIES.false (c.len-2.ensures.len ∙ e)) c.if-runs-gt-MOST_RUNS_TOGETHER.true in
    (absent c.self.inside.entries.keys c.args.self.now c.args.entry c.self.view_is c.in_default.ensures.found, many.0, many.1, refl)

pub invariant_of-self : goal.invariant_of-self
invariant_of-self c =
    added c.self.inside.entries.keys c.insert_full.new.self.keys c.args.entry c.self.inside.runs c.len.result c.self.invariant.1 c.self.invariant.0
    c.len.ensures c.in_default.ensures.found (λ e. c.if-len-eq-MOST_ENTRIES.false (c.len-2.ensures.len ∙ e)) c.if-runs-gt-MOST_RUNS_TOGETHER.false c.in-Ok.ensures.keys

pub returns-in-Ok-clause-distinct : goal.returns-in-Ok-clause-distinct
returns-in-Ok-clause-distinct c =
    (added c.self.inside.entries.keys c.insert_full.new.self.keys c.args.entry c.self.inside.runs c.len.result c.self.invariant.1 c.self.invariant.0
    c.len.ensures c.in_default.ensures.found (λ e. c.if-len-eq-MOST_ENTRIES.false (c.len-2.ensures.len ∙ e)) c.if-runs-gt-MOST_RUNS_TOGETHER.false c.in-Ok.ensures.keys).1

pub returns-in-Ok-clause-answer : goal.returns-in-Ok-clause-answer
returns-in-Ok-clause-answer c =
    added_last c.self.inside.entries.keys c.args.self.now c.insert_full.new.self.keys c.args.entry c.in-Ok.number c.self.view_is
    c.in_default.ensures.found c.in-Ok.ensures.keys c.in-Ok.ensures.stored
