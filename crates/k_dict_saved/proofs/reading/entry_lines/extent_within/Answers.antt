use Rattle.std.proofs.Common.{◌≡◌, List, length, true, sym, ap, ◌∙◌, subst}
use Rattle.std.proofs.lemmas.Bool.{false≢true}
use Rattle.std.proofs.lemmas.List.{length-map}
use Rattle.k_dict_entries.specs.Entries.{NameBelow, trees_of}
use Rattle.k_dict_saved.specs.Extents.{extent_of, extent_over, extents_of, is_within, no_sums, sums_from}
use Rattle.k_dict_entries.specs.declared.entry.Run.{Run}
use Rattle.k_dict_entries.proofs.EntryTrees.{length-trees}
use Rattle.k_dict_saved.proofs.RunSums.{extent_is, rules_within, within_rules}
use Rattle.k_dict_saved.proofs.reading.entry_lines.extent_within.Goals as goal

pub sums_of-sums-requires-clause-below : goal.sums_of-sums-requires-clause-below
sums_of-sums-requires-clause-below c =
    let P : List Run → Type 0 = NameBelow (length c.args.entries.now) in
    subst P (sym c.as_slice.ensures) c.requires.runs

pub sums_of-sums-requires-clause-each : goal.sums_of-sums-requires-clause-each
sums_of-sums-requires-clause-each c =
    ap length c.requires.each ∙ length-map (trees_of c.args.entries.now) extent_of ∙ length-trees c.args.entries.now

pub returns-then-is_within : goal.returns-then-is_within
returns-then-is_within c =
    let below = c.requires.runs in
    let sum : c.sums_of-sums.result ≡ sums_from c.args.entries.now (extents_of c.args.entries.now) no_sums c.args.entry.now.runs =
    c.sums_of-sums.ensures ∙ (λ i. sums_from c.args.entries.now (c.requires.each i) no_sums (c.as_slice.ensures i)) in
    let within : is_within c.args.entry.now (sums_from c.args.entries.now (extents_of c.args.entries.now) no_sums c.args.entry.now.runs) ≡ true =
    ap (is_within c.args.entry.now) (sym sum) ∙ sym c.is_within.ensures ∙ c.if-is_within.true in
    let rules = within_rules c.args.entries.now c.args.entry.now below within in
    (rules, c.extent_over.ensures ∙ ap extent_over sum ∙ extent_is c.args.entries.now c.args.entry.now below rules)

pub returns-else-is_within : goal.returns-else-is_within
returns-else-is_within c = λ rules.
    let below = c.requires.runs in
    let sum : c.sums_of-sums.result ≡ sums_from c.args.entries.now (extents_of c.args.entries.now) no_sums c.args.entry.now.runs =
    c.sums_of-sums.ensures ∙ (λ i. sums_from c.args.entries.now (c.requires.each i) no_sums (c.as_slice.ensures i)) in
    false≢true (sym c.if-is_within.false ∙ c.is_within.ensures ∙ ap (is_within c.args.entry.now) sum ∙ rules_within c.args.entries.now c.args.entry.now below rules)
