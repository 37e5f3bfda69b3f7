use Rattle.std.proofs.Common.{List, ℕ, Bor, sym, ◌∙◌, subst, arith}
use Rattle.std.proofs.lemmas.Bool.{false≢true}
use Rattle.k_dict_entries.specs.Entries.{NameBelow}
use Rattle.k_dict_saved.specs.Formats.{AreRunsOf}
use Rattle.k_dict_entries.specs.declared.entry.Entry.{Entry}
use Rattle.k_dict_entries.specs.declared.entry.Run.{Run}
use Rattle.k_dict_saved.proofs.EntrySteps.{added_entry, refused_add, refused_entry, wrong_runs}
use Rattle.k_dict_saved.proofs.Keeping.{below_of}
use Rattle.k_dict_saved.proofs.reading.entry_lines.next_entry.Goals as goal

pub returns-in-Err-clause-answer : goal.returns-in-Err-clause-answer
returns-in-Err-clause-answer c =
    let view : Entry × Bor (List ℕ) → Entry × List ℕ = λ found. (found.0, found.1.now) in
    refused_entry view c.args.format c.args.regions c.len-high.result c.args.table.now c.args.table.now c.args.text.now c.in-Err.stop c.len-high.ensures.count (omega arith) c.len-high.ensures.distinct.few
    c.in-Err.ensures

pub returns-in-Err-add-clause-answer : goal.returns-in-Err-add-clause-answer
returns-in-Err-add-clause-answer c =
    refused_add c.args.format c.args.regions c.len-high.result c.args.table.now c.add.new.table c.args.text.now c.in-Ok.rest.now c.in-Ok.entry c.len-high.ensures.count (omega arith)
    c.len-high.ensures.distinct.few c.in-Ok.ensures c.in-Err-add.stop c.in-Err-add.ensures.answer

pub returns-in-Ok-add-clause-answer : goal.returns-in-Ok-add-clause-answer
returns-in-Ok-add-clause-answer c =
    let P : List Run → Type 0 = AreRunsOf c.args.format c.len-high.result in
    added_entry c.args.format c.args.regions c.len-high.result c.args.table.now c.add.new.table c.args.text.now c.in-Ok.rest.now c.in-Ok.entry c.len-high.ensures.count (omega arith)
    c.len-high.ensures.distinct.few c.in-Ok.ensures tt (subst P c.as_slice.ensures (c.are_runs.ensures.0 c.if-are_runs.true)) c.in-Ok-add.ensures.answer

pub returns-else-are_runs-clause-answer : goal.returns-else-are_runs-clause-answer
returns-else-are_runs-clause-answer c =
    let P : List Run → Type 0 = AreRunsOf c.args.format c.len-high.result in
    wrong_runs c.args.format c.args.regions c.len-high.result c.args.table.now c.args.table.now c.args.text.now c.in-Ok.rest.now c.in-Ok.entry c.len-high.ensures.count (omega arith)
    c.len-high.ensures.distinct.few c.in-Ok.ensures
    (λ runs. false≢true (sym c.if-are_runs.false ∙ c.are_runs.ensures.1 (subst P (sym c.as_slice.ensures) runs)))

pub add-requires-clause-runs : goal.add-requires-clause-runs
add-requires-clause-runs c =
    let P : List Run → Type 0 = AreRunsOf c.args.format c.len-high.result in
    let Q : ℕ → Type 0 = λ n. NameBelow n c.in-Ok.entry.runs in
    subst Q c.len-high.ensures.count (below_of c.args.format c.len-high.result c.in-Ok.entry.runs (subst P c.as_slice.ensures (c.are_runs.ensures.0 c.if-are_runs.true)))
