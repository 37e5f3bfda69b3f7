use Rattle.std.proofs.Common.{◌≡◌, ◌<◌, ℕ, List, ◌∷◌, get_or, length, sym, ap, ◌∙◌, subst}
use Rattle.k_dict_entries.specs.Entries.{NameBelow}
use Rattle.k_dict_entries.specs.Rules.{entry_of}
use Rattle.k_dict_entries.specs.declared.entry.Entry.{Entry}
use Rattle.k_dict_entries.specs.declared.entry.Run.{Run}
use Rattle.k_sum_order.proofs.Steps.{item_is}
use Rattle.k_sum_saved.specs.SumLines.{AreOfRegion}
use Rattle.k_sum_saved.proofs.roots.are_of_one_region.Goals as goal

pub returns-in-Some : goal.returns-in-Some
returns-in-Some c =
    let entries : List Entry = c.args.entries.now in
    let roots : List Run = c.in-Some.first.now ∷ c.in-Some.field-0-1.now in
    let there : c.args.roots.now ≡ roots = c.in-Some.ensures.cases.0 in
    let N : List Run → Type 0 = NameBelow (length entries) in
    let within : c.in-Some.first.now.entry < length entries = (subst N there c.requires).0 in
    let is = item_is entries c.in-Some.first.now.entry c.index-entries-first.result within c.index-entries-first.is in
    let found : ℕ = (get_or entries c.in-Some.first.now.entry c.index-entries-first.result).region in
    let region : (entry_of entries c.in-Some.first.now.entry).region ≡ found = ap (λ (e : Entry). e.region) (is ∙ c.index-entries-first.is) in
    let S : ℕ → Type 0 = λ r. AreOfRegion r entries roots in
    let Q : List Run → Type 0 = λ l. (x : ℕ) → AreOfRegion x entries l → AreOfRegion found entries l in
    let to_first : Q c.args.roots.now = subst Q (sym there) (λ x of. subst S (sym of.0 ∙ region) of) in
    (λ h. (found, c.are_of_region.ensures.0 h), λ one. c.are_of_region.ensures.1 (to_first one.0 one.1))
