-- A run leaves one profile or none, and has one report.
use Rattle.std.proofs.Common.{◌≡◌, ℕ, ◌≤◌, Bool, List, [], ◌∷◌, length, Option, Some, None, refl, sym, ap, ◌∙◌, subst}
use Rattle.std.proofs.lemmas.Option.{none-some}
use Rattle.k_optab.specs.declared.closed.Closed.{Closed}
use Rattle.k_optab.specs.declared.node.Node.{Node}
use Rattle.k_optab.specs.Events.{Operation, operations}
use Rattle.k_optab.specs.Instances.{tracked}
use Rattle.k_optab.specs.Tree.{EachWith, IsNodeOf, IsTree}
use Rattle.k_optab.proofs.Heaviest.{heaviest_unique}
use Rattle.k_dict_entries.specs.Dictionary.{IsDictionary, refusal}
use Rattle.k_dict_entries.proofs.Unique.{dictionary_is_unique}
use Rattle.k_dict_saved.specs.declared.saved.Saved.{Saved}
use Rattle.k_report_profile.specs.Laws.{RunReportIsUnique}
use Rattle.k_report_profile.specs.Report.{IsReport, IsReportOf, asked}
use Rattle.k_report_profile.specs.RunReport.{IsLarge, IsProfileOf, IsRunReport, IsWhole, Ran, large, ops_of, whole}
use Rattle.k_report_profile.proofs.Recorded.{profile_reported, run_saved}
use Rattle.k_report_profile.proofs.Reported.{one_report}

same_node : (ops : List Operation) (i : Closed) (a b : Node) → IsNodeOf ops i a → IsNodeOf ops i b → a ≡ b
same_node ops i a b is also =
    let region : a.region ≡ b.region = is.region ∙ sym also.region in
    let depth : a.depth ≡ b.depth = is.depth ∙ sym also.depth in
    let work : a.work ≡ b.work = is.work ∙ sym also.work in
    let path : a.path ≡ b.path = heaviest_unique ops i.start i.end a.path b.path is.path also.path in
    λ k. record { region = region k; work = work k; path = path k; depth = depth k }

same_nodes : (ops : List Operation) (list : List Closed) (a b : List Node) → EachWith (IsNodeOf ops) list a → EachWith (IsNodeOf ops) list b → a ≡ b
same_nodes ops [] [] [] is also = refl
same_nodes ops [] [] (n ∷ b) is also = absurd also
same_nodes ops [] (m ∷ a) b is also = absurd is
same_nodes ops (i ∷ list) [] b is also = absurd is
same_nodes ops (i ∷ list) (m ∷ a) [] is also = absurd also
same_nodes ops (i ∷ list) (m ∷ a) (n ∷ b) is also =
    let first : m ≡ n = same_node ops i m n is.0 also.0 in
    let rest : a ≡ b = same_nodes ops list a b is.1 also.1 in
    λ k. first k ∷ rest k

-- events have one tree
pub one_tree : (ran : Ran) (a b : List Node) → IsTree ran.depth ran.events a → IsTree ran.depth ran.events b → a ≡ b
one_tree ran a b is also = same_nodes (operations ran.events) (tracked ran.depth ran.events) a b is also

module _ (ran : Ran) (nodes : List Node) (with_dict : Bool) (is_whole : IsWhole ran) (tree : IsTree ran.depth ran.events nodes)
    (few : length nodes ≤ 576460752303423488) where
  -- the profile and the report of this tree
  record HasReport (saved : Saved) (text : List ℕ) : Type 0 where
    profile : IsProfileOf ran nodes saved
    report : IsReport saved with_dict text

  has_report : (others : List Node) (saved : Saved) (text : List ℕ) → IsTree ran.depth ran.events others → IsProfileOf ran others saved
      → IsReportOf ran.regions ran.exit (ops_of ran) others (asked with_dict saved.dict) text → HasReport saved text
  has_report others saved text other is r =
      let same : others ≡ nodes = one_tree ran others nodes other tree in
      let P : List Node → Type 0 = λ l. IsProfileOf ran l saved in
      let Q : List Node → Type 0 = λ l. IsReportOf ran.regions ran.exit (ops_of ran) l (asked with_dict saved.dict) text in
      let profile : IsProfileOf ran nodes saved = subst P same is in
      record { profile = profile; report = profile_reported ran is_whole nodes tree saved profile with_dict text (subst Q same r) }

  both : (one other : Saved) (text text' : List ℕ) → HasReport one text → HasReport other text' → (Some one ≡ Some other) × (text ≡ text')
  both one other text text' is also =
      let exit : other.exit ≡ one.exit = also.profile.exit ∙ sym is.profile.exit in
      let ops : other.ops ≡ one.ops = also.profile.ops ∙ sym is.profile.ops in
      let regions : other.regions ≡ one.regions = also.profile.regions ∙ sym is.profile.regions in
      let dict : other.dict ≡ one.dict = dictionary_is_unique nodes other.dict one.dict also.profile.dict is.profile.dict in
      let same : other ≡ one = λ i. record { exit = exit i; ops = ops i; regions = regions i; dict = dict i } in
      let P : Saved → Type 0 = λ s. IsReport s with_dict text' in (
        ap Some (sym same),
        one_report one (run_saved ran is_whole nodes tree one is.profile few) with_dict text text' is.report (subst P same also.report),
      )

  -- a dictionary is not both within its limits and over them
  apart : (others : List Node) (saved : Saved) (text : List ℕ) → IsTree ran.depth ran.events others → HasReport saved text → IsLarge others → ⊥
  apart others saved text other is over =
      let same : others ≡ nodes = one_tree ran others nodes other tree in
      let P : List Node → Type 0 = λ l. IsDictionary l over.entries in
      let dict : saved.dict ≡ over.entries = dictionary_is_unique nodes saved.dict over.entries is.profile.dict (subst P same over.dict) in
      none-some over.which (sym is.profile.within ∙ ap (refusal 0 0) dict ∙ over.passed)

  one_run : (one other : Option Saved) (text text' : List ℕ) → IsRunReport ran with_dict one text → IsRunReport ran with_dict other text'
      → (one ≡ other) × (text ≡ text')
  one_run _ _ _ _ (whole n s t m is r) (whole n' s' t' m' is' r') = both s s' t t' (has_report n s t m is r) (has_report n' s' t' m' is' r')
  one_run _ _ _ _ (whole n s t m is r) (large n' m' over) = absurd (apart n' s t m' (has_report n s t m is r) over)
  one_run _ _ _ _ (large n m over) (whole n' s' t' m' is' r') = absurd (apart n s' t' m (has_report n' s' t' m' is' r') over)
  one_run _ _ _ _ (large n m over) (large n' m' over') = (refl, refl)

pub run_report_is_unique : RunReportIsUnique
run_report_is_unique ran nodes with_dict one other text text' is_whole tree few a b = one_run ran nodes with_dict is_whole tree few one other text text' a b
