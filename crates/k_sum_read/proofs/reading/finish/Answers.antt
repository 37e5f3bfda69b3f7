use Rattle.std.proofs.Common.{◌≤◌, List, Ok, Err, length, sym, ap, ◌∙◌, subst}
use Rattle.std.proofs.lemmas.Bool.{false≢true}
use Rattle.k_optab.specs.declared.region.Region.{Region}
use Rattle.k_dict_entries.specs.Entries.{NameEarlier}
use Rattle.k_dict_entries.specs.Rules.{NameRegions}
use Rattle.k_dict_entries.specs.declared.entry.Entry.{Entry}
use Rattle.k_dict_saved.specs.Extents.{extents_of}
use Rattle.k_dict_saved.specs.declared.reading.stop.Stop.{Stop}
use Rattle.k_sum_read.specs.Reading.{FoundRoots}
use Rattle.k_sum_read.proofs.Ending.{sum_ends, wrong_at_end, wrong_at_roots}
use Rattle.k_sum_read.proofs.reading.finish.Goals as goal

pub roots_line-requires-clause-some : goal.roots_line-requires-clause-some
roots_line-requires-clause-some c = c.requires.counts.some

pub roots_line-requires-clause-most : goal.roots_line-requires-clause-most
roots_line-requires-clause-most c = c.requires.counts.few

pub roots_line-requires-clause-few : goal.roots_line-requires-clause-few
roots_line-requires-clause-few c = let P : List Entry → Type 0 = λ l. length l ≤ 1048576 in subst P (sym c.entries.ensures.value) c.requires.listing.entries.distinct.few

pub roots_line-requires-clause-earlier : goal.roots_line-requires-clause-earlier
roots_line-requires-clause-earlier c = let P : List Entry → Type 0 = NameEarlier in subst P (sym c.entries.ensures.value) (λ n e at. c.requires.listing.entries.runs n e at)

pub roots_line-requires-clause-named : goal.roots_line-requires-clause-named
roots_line-requires-clause-named c =
    let P : List Entry → Type 0 = NameRegions (length c.as_slice.result.now) in
    let Q : List Region → Type 0 = λ l. NameRegions (length l) c.args.listing.entries in
    subst P (sym c.entries.ensures.value) (subst Q (sym c.as_slice.ensures) c.requires.listing.in_list)

pub roots_line-requires-clause-extents : goal.roots_line-requires-clause-extents
roots_line-requires-clause-extents c = c.as_slice-2.ensures ∙ c.requires.listing.extents ∙ ap extents_of (sym c.entries.ensures.value)

pub sum_from-requires : goal.sum_from-requires
sum_from-requires c = λ n e at. c.requires.listing.entries.runs n e at

pub returns-in-Err-Wrong : goal.returns-in-Err-Wrong
returns-in-Err-Wrong c =
    let P : List Region → Type 0 = λ l. FoundRoots c.args.counts.runs l c.entries.result.now c.args.text.now (Err c.in-Err-Wrong.field-0) in
    let Q : List Entry → Type 0 = λ l. FoundRoots c.args.counts.runs c.args.listing.regions l c.args.text.now (Err c.in-Err-Wrong.field-0) in
    let R : Stop → Type 0 = λ stop. FoundRoots c.args.counts.runs c.args.listing.regions c.args.listing.entries c.args.text.now (Err stop) in
    wrong_at_roots c.args.counts c.args.listing c.args.text.now
    (subst R c.in-Err-Wrong.field-0-is (subst Q c.entries.ensures.value (subst P c.as_slice.ensures c.in-Err-Wrong.ensures)))

pub returns-then-is_end : goal.returns-then-is_end
returns-then-is_end c =
    let P : List Region → Type 0 = λ l. FoundRoots c.args.counts.runs l c.entries.result.now c.args.text.now (Ok (c.in-Ok.roots, c.in-Ok.work, c.in-Ok.rest.now)) in
    let Q : List Entry → Type 0 = λ l. FoundRoots c.args.counts.runs c.args.listing.regions l c.args.text.now (Ok (c.in-Ok.roots, c.in-Ok.work, c.in-Ok.rest.now)) in
    sum_ends c.args.counts c.args.listing c.args.text.now c.in-Ok.roots c.in-Ok.work c.in-Ok.rest.now (subst Q c.entries.ensures.value (subst P c.as_slice.ensures c.in-Ok.ensures))
    (c.is_end.ensures.0 c.if-is_end.true) c.sum_from.result c.sum_from.ensures

pub returns-else-is_end : goal.returns-else-is_end
returns-else-is_end c =
    let P : List Region → Type 0 = λ l. FoundRoots c.args.counts.runs l c.entries.result.now c.args.text.now (Ok (c.in-Ok.roots, c.in-Ok.work, c.in-Ok.rest.now)) in
    let Q : List Entry → Type 0 = λ l. FoundRoots c.args.counts.runs c.args.listing.regions l c.args.text.now (Ok (c.in-Ok.roots, c.in-Ok.work, c.in-Ok.rest.now)) in
    wrong_at_end c.args.counts c.args.listing c.args.text.now c.in-Ok.roots c.in-Ok.work c.in-Ok.rest.now (subst Q c.entries.ensures.value (subst P c.as_slice.ensures c.in-Ok.ensures))
    (λ ended. false≢true (sym c.if-is_end.false ∙ c.is_end.ensures.1 ended))
