-- The summary of the run of a made program, by what its profile says.
use Rattle.std.proofs.Common.{ℕ, ◌≡◌, ◌+◌, ◌-◌, Bool, arith, ap, refl, sym, subst, ◌∙◌, List, [], ◌∷◌, ◌++◌, length, Option, Some, None}
use Rattle.std.proofs.lemmas.Option.{none-some, same_Some}
use Rattle.k_optab.specs.declared.node.Node.{Node}
use Rattle.k_optab.specs.Tree.{IsTree}
use Rattle.k_dict_entries.specs.Entries.{expansion}
use Rattle.k_dict_entries.specs.Laws.{AreAlike}
use Rattle.k_dict_entries.specs.Trees.{node_at}
use Rattle.k_dict_entries.proofs.Unique.{dictionary_expands}
use Rattle.k_report.specs.Report.{large_line}
use Rattle.k_report_profile.specs.Report.{nodes_of_profile}
use Rattle.k_report_profile.specs.RunReport.{IsProfileOf, IsRunReport, Ran, ops_of}
use Rattle.k_report_profile.specs.RunReport as reports
use Rattle.k_dict_saved.specs.declared.saved.Saved.{Saved}
use Rattle.k_selfpar.specs.Contexts.{AreContexts}
use Rattle.k_selfpar.specs.declared.row.Row.{Row}
use Rattle.k_selfpar.proofs.Siblings.{contexts_forget_order, rows_forget_order}
use Rattle.k_top_lemmas.specs.Parts.{AreLinesIfThere, AreLinesOf}
use Rattle.k_top_answers.specs.Texts.{AreProfileLines, IsSummary, demo_line, plan_line, run_lines, tree_lines}
use Rattle.k_top_answers.specs.Texts as texts

-- the lines on a tree are those of its root
abbrev lines_on_root : Node → List Row → List ℕ
lines_on_root root rows = tree_lines (root ∷ []) rows

-- trees that are equal up to the order of siblings have the same lines
same_lines : (one other : List Node) (rows : List Row) → AreAlike one other → tree_lines one rows ≡ tree_lines other rows
same_lines one other rows (s, t, one_is, other_is, shape) =
    ap (λ l. tree_lines l rows) one_is ∙ ap (λ label. lines_on_root (node_at 0 label) rows) shape.label ∙ sym (ap (λ l. tree_lines l rows) other_is)

module _ (ran : Ran) where
  -- the profile expands to the run's tree, up to the order of siblings
  pub alike : (nodes : List Node) (saved : Saved) → IsProfileOf ran nodes saved → AreAlike (nodes_of_profile saved) nodes
  alike nodes saved is =
      let root = dictionary_expands nodes saved.dict is.dict in
      let count : length saved.dict ≡ root.0 + 1 = root.1 in
      let last : length saved.dict - 1 ≡ root.0 = omega (arith, count) in
      subst (λ n. AreAlike (expansion saved.dict n) nodes) (sym last) root.2

  -- the lines on a profile are those on the run that left it
  lines_of : (nodes : List Node) (saved : Saved) (text : List ℕ) → IsTree ran.depth ran.events nodes → IsProfileOf ran nodes saved → AreLinesOf saved text
      → AreProfileLines ran text
  lines_of nodes saved text tree is (tree_text, plan_text, (rows, are_rows, rows_is), (contexts, plan, are_contexts, planned, plan_is), text_is) =
      let same : AreAlike (nodes_of_profile saved) nodes = alike nodes saved is in
      let first : tree_text ≡ tree_lines nodes rows = rows_is ∙ same_lines (nodes_of_profile saved) nodes rows same in
      let lines : text ≡ tree_lines nodes rows ++ plan_line contexts plan = text_is ∙ (λ i. first i ++ plan_is i) in
      subst (AreProfileLines ran) (sym lines)
      (texts.whole nodes saved rows contexts plan tree is (rows_forget_order (nodes_of_profile saved) nodes rows same are_rows)
      (contexts_forget_order ran.regions (nodes_of_profile saved) nodes contexts same
      (subst (λ r. AreContexts r (nodes_of_profile saved) contexts) is.regions are_contexts)) planned)

  -- where there is a profile
  profile_told : (saved : Saved) (with_dict : Bool) (report text : List ℕ) (profile : Option Saved) → profile ≡ Some saved
      → IsRunReport ran with_dict profile report → AreLinesOf saved text → AreProfileLines ran text
  profile_told saved with_dict _ text _ some (reports.whole nodes s report tree is r) lines =
      lines_of nodes saved text tree (subst (λ x. IsProfileOf ran nodes x) (same_Some s saved some) is) lines
  profile_told saved with_dict _ text _ some (reports.large nodes tree over) lines = absurd (none-some saved some)

  -- and where there is none
  none_told : (with_dict : Bool) (report : List ℕ) (profile : Option Saved) → profile ≡ None → IsRunReport ran with_dict profile report
      → AreProfileLines ran large_line
  none_told with_dict _ _ none (reports.whole nodes s report tree is r) = absurd (none-some s (sym none))
  none_told with_dict _ _ none (reports.large nodes tree over) = texts.large nodes tree over

  pub lines_told : (with_dict : Bool) (report text : List ℕ) (profile : Option Saved) → IsRunReport ran with_dict profile report → AreLinesIfThere profile text
      → AreProfileLines ran text
  lines_told with_dict report text None is lines = subst (AreProfileLines ran) (sym lines) (none_told with_dict report None refl is)
  lines_told with_dict report text (Some saved) is lines = profile_told saved with_dict report text (Some saved) refl is lines

-- THE SUMMARY, by its lines
pub summed : (number loops bytes : ℕ) (ran : Ran) (lines text : List ℕ) → AreProfileLines ran lines
    → text ≡ (demo_line number loops ++ run_lines bytes ran.exit (ops_of ran)) ++ lines → IsSummary number loops bytes ran text
summed number loops bytes ran lines text are is = record {
  lines = lines;
  are = are;
  is = is;
}
