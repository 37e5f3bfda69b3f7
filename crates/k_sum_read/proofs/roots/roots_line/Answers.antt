use Rattle.std.proofs.Common.{ℕ, List, Bor, length, refl, sym, ap, ◌∙◌, subst}
use Rattle.std.proofs.lemmas.Bool.{false≢true}
use Rattle.std.proofs.lemmas.List.{length-map}
use Rattle.k_dict_entries.specs.Entries.{NameBelow, trees_of}
use Rattle.k_dict_entries.specs.declared.entry.Entry.{Entry}
use Rattle.k_dict_entries.specs.declared.entry.Run.{Run}
use Rattle.k_dict_entries.proofs.EntryTrees.{length-trees}
use Rattle.k_dict_saved.specs.Extents.{extent_of, no_sums, sums_from}
use Rattle.k_sum_saved.specs.SumLines.{AreRoots}
use Rattle.k_sum_read.proofs.RootSteps.{no_word, refused_runs, right_roots, roots_named, work_is, wrong_roots}
use Rattle.k_sum_read.proofs.roots.roots_line.Goals as goal

pub returns-in_default : goal.returns-in_default
returns-in_default c = no_word c.args.count c.args.regions.now c.args.entries.now c.args.text.now c.requires.most c.requires.few c.in_default.ensures

pub returns-in-Err : goal.returns-in-Err
returns-in-Err c =
    let view : List Run × Bor (List ℕ) → List Run × List ℕ = λ found. (found.0, found.1.now) in
    refused_runs c.args.count c.args.regions.now c.args.entries.now c.args.text.now c.requires.most c.requires.few c.in-Some.roots_text.now c.in-Some.ensures view _ c.in-Err.stop refl c.in-Err.ensures

pub sums_of-sums-requires-clause-below : goal.sums_of-sums-requires-clause-below
sums_of-sums-requires-clause-below c =
    let P : List Run → Type 0 = NameBelow (length c.args.entries.now) in
    subst P (sym c.as_slice.ensures)
    (roots_named c.args.count c.args.regions.now c.args.entries.now c.args.text.now c.requires.most c.requires.few c.in-Some.roots_text.now c.in-Some.ensures c.in-Ok.roots c.in-Ok.rest.now _ refl c.in-Ok.ensures)

pub sums_of-sums-requires-clause-each : goal.sums_of-sums-requires-clause-each
sums_of-sums-requires-clause-each c =
    ap length c.requires.extents ∙ length-map (trees_of c.args.entries.now) extent_of ∙ length-trees c.args.entries.now

pub are_roots-requires-clause-below : goal.are_roots-requires-clause-below
are_roots-requires-clause-below c =
    let P : List Run → Type 0 = NameBelow (length c.args.entries.now) in
    subst P (sym c.as_slice-in-Ok.ensures)
    (roots_named c.args.count c.args.regions.now c.args.entries.now c.args.text.now c.requires.most c.requires.few c.in-Some.roots_text.now c.in-Some.ensures c.in-Ok.roots c.in-Ok.rest.now _ refl c.in-Ok.ensures)

pub are_roots-requires-clause-sums : goal.are_roots-requires-clause-sums
are_roots-requires-clause-sums c =
    c.sums_of-sums.ensures ∙ (λ i. sums_from c.args.entries.now (c.requires.extents i) no_sums ((c.as_slice.ensures ∙ sym c.as_slice-in-Ok.ensures) i))

pub returns-in-Ok-false : goal.returns-in-Ok-false
returns-in-Ok-false c =
    let P : List Run → Type 0 = AreRoots c.args.count c.args.regions.now c.args.entries.now in
    wrong_roots c.args.count c.args.regions.now c.args.entries.now c.args.text.now c.requires.most c.requires.few c.in-Some.roots_text.now c.in-Some.ensures c.in-Ok.roots c.in-Ok.rest.now _ refl c.in-Ok.ensures
    (λ are. false≢true (sym c.in-Ok-false.field-0-test ∙ c.in-Ok-false.ensures.1 (subst P (sym c.as_slice-in-Ok.ensures) are)))

pub returns-in-Ok-true : goal.returns-in-Ok-true
returns-in-Ok-true c =
    let entries : List Entry = c.args.entries.now in
    let roots : List Run = c.in-Ok.roots in
    let P : List Run → Type 0 = AreRoots c.args.count c.args.regions.now entries in
    let are : AreRoots c.args.count c.args.regions.now entries roots = subst P c.as_slice-in-Ok.ensures (c.in-Ok-true.ensures.0 c.in-Ok-true.field-0-test) in
    let below : NameBelow (length entries) roots =
    roots_named c.args.count c.args.regions.now entries c.args.text.now c.requires.most c.requires.few c.in-Some.roots_text.now c.in-Some.ensures roots c.in-Ok.rest.now _ refl c.in-Ok.ensures in
    right_roots c.args.count c.args.regions.now entries c.args.text.now c.requires.most c.requires.few c.in-Some.roots_text.now c.in-Some.ensures roots c.in-Ok.rest.now _ refl c.in-Ok.ensures
    c.sums_of-sums.result.works are
    (work_is c.args.count c.args.regions.now entries c.args.text.now c.requires.most c.requires.few roots c.sums_of-sums.result below
    (c.sums_of-sums.ensures ∙ (λ i. sums_from entries (c.requires.extents i) no_sums (c.as_slice.ensures i))) are)
