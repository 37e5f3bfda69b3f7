use Rattle.std.proofs.Common.{List, refl, sym, subst, ◌∙◌}
use Rattle.std.proofs.lemmas.Bool.{false≢true}
use Rattle.k_optab.specs.declared.region.Region.{Region}
use Rattle.k_dict_entries.specs.Entries.{AreDistinct}
use Rattle.k_dict_saved.specs.Formats.{HaveRuns}
use Rattle.k_dict_saved.specs.Reading.{Ends}
use Rattle.k_dict_entries.specs.declared.entry.Entry.{Entry}
use Rattle.k_dict_saved.proofs.reading.finish.Goals as goal

pub may_end-requires-clause-runs : goal.may_end-requires-clause-runs
may_end-requires-clause-runs c =
    let P : List Entry → Type 0 = HaveRuns c.args.file.format in subst P (sym c.entries.ensures.value) c.requires

pub may_end-requires-clause-distinct : goal.may_end-requires-clause-distinct
may_end-requires-clause-distinct c =
    let P : List Entry → Type 0 = AreDistinct in subst P (sym c.entries.ensures.value) c.entries.ensures.distinct

pub returns-in-Ok-false : goal.returns-in-Ok-false
returns-in-Ok-false c =
    let Q : List Region → Type 0 = λ l. Ends c.args.file.format l c.args.file.entries c.args.text.now in
    let R : List Entry → Type 0 = λ d. Ends c.args.file.format c.as_slice.result.now d c.args.text.now in
    (λ ends. false≢true (sym c.in-Ok-false.field-0-test ∙ c.in-Ok-false.ensures.1 (subst R (sym c.entries.ensures.value) (subst Q (sym c.as_slice.ensures) ends))), refl)

pub returns-in-Ok-true : goal.returns-in-Ok-true
returns-in-Ok-true c =
    let Q : List Region → Type 0 = λ l. Ends c.args.file.format l c.args.file.entries c.args.text.now in
    let R : List Entry → Type 0 = λ d. Ends c.args.file.format c.as_slice.result.now d c.args.text.now in
    (subst Q c.as_slice.ensures (subst R c.entries.ensures.value (c.in-Ok-true.ensures.0 c.in-Ok-true.field-0-test)), refl)
