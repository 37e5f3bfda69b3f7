-- What the summary of a run says of the tree of its profile.
use Rattle.std.proofs.Common.{ℕ, ◌≡◌, ◌∙◌, ◌-◌, ap, sym, subst, List, [], ◌∷◌, length, Some, slice_get}
use Rattle.k_optab.specs.declared.node.Node.{Node}
use Rattle.k_dict_entries.specs.declared.entry.Entry.{Entry}
use Rattle.k_dict_entries.specs.Entries.{expansion}
use Rattle.k_dict_entries.specs.Trees.{Label, node_at}
use Rattle.k_dict_entries.proofs.EntryTrees.{tree_is}
use Rattle.k_report_profile.proofs.Reported.{at_root}
use Rattle.k_dict_saved.specs.declared.saved.Saved.{Saved}
use Rattle.k_dict_saved.specs.Profile.{IsSaved}
use Rattle.k_selfpar.specs.declared.row.Row.{Row}
use Rattle.k_selfpar.specs.Rows.{AreRows}
use Rattle.k_top_lemmas.specs.Parts.{IsTreeText}
use Rattle.k_top_answers.specs.Texts.{tree_lines}

-- the lines on the tree of a profile are those of its last entry
pub tree_told : (saved : Saved) (n : ℕ) (root : Entry) (rows : List Row) (text : List ℕ) → IsSaved saved → n ≡ length saved.dict
    → slice_get saved.dict (n - 1) ≡ Some root → AreRows (expansion saved.dict (n - 1)) rows
    → text ≡ tree_lines (record { region = root.region; work = root.work; path = root.path; depth = 0 } ∷ []) rows
    → IsTreeText (expansion saved.dict (length saved.dict - 1)) text
tree_told saved n root rows text is count at are lines =
    let tree = tree_is saved.dict (n - 1) root at (is.profile.interned.earlier (n - 1) root at) in
    let root_lines : Label → List ℕ = λ label. tree_lines (node_at 0 label ∷ []) rows in
    subst (λ (nodes : List Node). IsTreeText nodes text) (at_root saved n count) (rows, are, lines ∙ sym (ap (λ t. root_lines t.label) tree))
