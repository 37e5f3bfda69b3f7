-- The text of a file: its lines lead to its end, and it is that of no other file.
use Rattle.std.proofs.Common.{◌≡◌, ℕ, suc, ◌+◌, ◌≤◌, inl, inr, List, [], ◌∷◌, ◌++◌, length, get_or, Option, Some, None, slice_get, refl, sym, ap, ◌∙◌, subst, append-nil, append_assoc, length-append, arith}
use Rattle.std.specs.Prelude.{codes}
use Rattle.std.specs.List.{flat_map}
use Rattle.std.specs.Fmt.{decimal, signed_decimal}
use Rattle.std.proofs.lemmas.List.{get_or_append_left}
use Rattle.std.proofs.lemmas.List.Concat.{flat_map-cons}
use Rattle.std.proofs.lemmas.List.Sums.{sum_by-append}
use Rattle.std.proofs.lemmas.Option.{same_Some, slice_get-get_or}
use Rattle.k_optab.specs.declared.region.Region.{Region}
use Rattle.k_dict_saved.specs.Reading.{exit_at, first_at, head_lines}
use Rattle.k_dict_saved.specs.Syntax.{named_at}
use Rattle.k_dict_entries.specs.Entries.{all_runs, no_tree, tree_at, tree_of, trees_of}
use Rattle.k_dict_saved.specs.Lines.{Counted, Exited, Follows, InEntries, InRegions, IsClosed, IsFirstWrong, IsNextEntry, IsRegion, IsWhole, Leads, MayEnd, Named, Opened, Stage, arrived, last_of, onward}
use Rattle.k_dict_saved.specs.Formats.{IsAccepted, first_line}
use Rattle.k_dict_saved.specs.Files.{AreFileEntries, ArePaired, IsFile}
use Rattle.k_dict_entries.specs.Rules.{NameRegions}
use Rattle.k_text.specs.Texts.{named_line}
use Rattle.k_dict_saved.specs.FileText.{entry_line, file_text, region_line}
use Rattle.k_dict_entries.specs.Trees.{Tree, alone, height, size}
use Rattle.k_dict_entries.specs.declared.entry.Entry.{Entry}
use Rattle.k_dict_saved.specs.declared.file.File.{File}
use Rattle.k_dict_saved.specs.declared.format.Accepts.{Accepts}
use Rattle.k_dict_saved.specs.declared.format.Accepts.TheVariants.{Both}
use Rattle.k_dict_saved.specs.declared.format.Format.{Format}
use Rattle.k_dict_saved.specs.declared.format.Format.TheVariants.{One}
use Rattle.k_dict_entries.proofs.EntryTrees.{length-trees, trees-kept}
use Rattle.k_dict_saved.proofs.Files.{IsSmall, no_wrong, one_line}
use Rattle.k_dict_saved.proofs.HeadSteps.{exit_again, first_again, head_leads, head_parts}
use Rattle.k_dict_saved.proofs.Keeping.{added_tree, below_of, numbers_down}
use Rattle.k_dict_saved.proofs.Leading.{leads_through}
use Rattle.k_dict_entries.proofs.Places.{place_behind, place_kept}
use Rattle.k_dict_entries.proofs.Pushes.{all_runs-push}
use Rattle.k_dict_saved.proofs.RegionSteps.{last_push}
use Rattle.k_dict_saved.proofs.Spelled.{named_again}
use Rattle.k_dict_saved.proofs.Whole.{count_line}

-- the lines of regions lead on, and no body is missing behind them
pub leads_regions : (format : Format) (count : ℕ) (before after : List Region) → ((n : ℕ) (r : Region) → slice_get after n ≡ Some r → IsRegion r) → ArePaired (last_of before) after
    → length before + length after ≡ count
    → Leads (InRegions format count before) (flat_map region_line after) (InRegions format count (before ++ after)) × IsClosed (last_of (before ++ after))
leads_regions format count before [] each paired sum =
    let P : List Region → Type 0 = λ l. Leads (InRegions format count before) [] (InRegions format count l) × IsClosed (last_of l) in
    subst P (sym (append-nil before)) (arrived (InRegions format count before), paired)
leads_regions format count before (r ∷ after) each paired sum =
    let next : List Region = before ++ r ∷ [] in
    let Q : Option Region → Type 0 = λ last. ArePaired last after in
    let count_next = length-append before (r ∷ []) in
    let more = leads_regions format count next after (λ n x h. each (suc n) x h) (subst Q (sym (last_push None before r)) paired.1) (omega arith) in
    let line : Follows (InRegions format count before) (region_line r) (InRegions format count next) =
    inl (record { region = r; few = omega arith; right = each 0 r refl; stands = paired.0; line_is = refl; next_is = refl }) in
    let P : List Region → Type 0 = λ l. Leads (InRegions format count before) (flat_map region_line (r ∷ after)) (InRegions format count l) × IsClosed (last_of l) in
    let T : List ℕ → Type 0 = λ l. Leads (InRegions format count before) l (InRegions format count (next ++ after)) in
    subst P (append_assoc before (r ∷ []) after)
    (subst T (sym (flat_map-cons region_line r after)) (onward (InRegions format count before) (region_line r) (InRegions format count next) (flat_map region_line after) (InRegions format count (next ++ after)) line more.0), more.1)

-- each entry of a profile may stand behind those before it
pub next_entry : (format : Format) (regions : ℕ) (before : List Entry) (e : Entry) (after : List Entry) → AreFileEntries format (before ++ e ∷ after) → NameRegions regions (before ++ e ∷ after)
    → IsNextEntry format regions before e
next_entry format regions before e after are named =
    let place = place_behind before e after in
    let runs = are.runs (length before) e place in
    let kept = trees-kept (before ++ e ∷ []) after in
    let split : (before ++ e ∷ []) ++ after ≡ before ++ e ∷ after = append_assoc before (e ∷ []) after in
    let count = length-trees (before ++ e ∷ []) in let longer = length-append before (e ∷ []) in let whole = length-append before (e ∷ after) in
    let here : tree_at (before ++ e ∷ after) (length before) ≡ tree_of (trees_of before) e =
    ap (λ l. tree_at l (length before)) (sym split) ∙ ap (λ l. get_or l (length before) no_tree) kept.1
    ∙ get_or_append_left (trees_of (before ++ e ∷ [])) kept.0 no_tree (length before) (omega arith) ∙ added_tree before e in
    let P : Tree → Type 0 = λ t. height (alone t) ≤ 32 in let Q : Tree → Type 0 = λ t. size (alone t) ≤ 576460752303423488 in
    let sum : all_runs (before ++ e ∷ after) ≡ (all_runs before + length e.runs) + all_runs after =
    ap all_runs (sym split) ∙ sum_by-append (λ x. length x.runs) (before ++ e ∷ []) after ∙ ap (λ n. n + all_runs after) (all_runs-push before e) in
    let few = are.distinct.few_runs in
    record {
      region = named (length before) e place;
      runs = runs;
      new = λ there.
          let at : slice_get before there.0 ≡ Some e = slice_get-get_or before there.0 e there.1 ∙ ap Some there.2 in
          let same = are.distinct.apart there.0 (length before) e (place_kept before (e ∷ after) there.0 e at) place in
          let less = there.1 in absurd (omega arith);
      few_runs = omega arith;
      numbers = numbers_down before (e ∷ after) e (below_of format (length before) e.runs runs) (are.numbers (length before) e place);
      levels = subst P here (are.levels (length before) (omega arith));
      instances = subst Q here (are.instances (length before) (omega arith));
    }

-- the lines of entries lead on
pub leads_entries : (format : Format) (list : List Region) (count : ℕ) (before after : List Entry) → AreFileEntries format (before ++ after) → NameRegions (length list) (before ++ after)
    → length before + length after ≡ count → Leads (InEntries format list count before) (flat_map entry_line after) (InEntries format list count (before ++ after))
leads_entries format list count before [] are named sum =
    let P : List Entry → Type 0 = λ l. Leads (InEntries format list count before) [] (InEntries format list count l) in
    subst P (sym (append-nil before)) (arrived (InEntries format list count before))
leads_entries format list count before (e ∷ after) are named sum =
    let next : List Entry = before ++ e ∷ [] in
    let split : before ++ e ∷ after ≡ next ++ after = sym (append_assoc before (e ∷ []) after) in
    let longer = length-append before (e ∷ []) in
    let A : List Entry → Type 0 = AreFileEntries format in let N : List Entry → Type 0 = NameRegions (length list) in
    let more = leads_entries format list count next after (subst A split are) (subst N split named) (omega arith) in
    let line : Follows (InEntries format list count before) (entry_line e) (InEntries format list count next) =
    record { entry = e; few = omega arith; right = next_entry format (length list) before e after are named; line_is = refl; next_is = refl } in
    let P : List Entry → Type 0 = λ l. Leads (InEntries format list count before) (flat_map entry_line (e ∷ after)) (InEntries format list count l) in
    let T : List ℕ → Type 0 = λ l. Leads (InEntries format list count before) l (InEntries format list count (next ++ after)) in
    subst P (sym split)
    (subst T (sym (flat_map-cons entry_line e after)) (onward (InEntries format list count before) (entry_line e) (InEntries format list count next) (flat_map entry_line after) (InEntries format list count (next ++ after)) line more))

module _ (v : File) (is : IsFile v) where
  -- the lines behind the head
  abbrev pub body_lines : List ℕ
  body_lines = flat_map region_line v.regions ++ (count_line (length v.entries) ++ flat_map entry_line v.entries)

  -- they lead to the end
  pub body_leads : Leads (InRegions v.format (length v.regions) []) body_lines (InEntries v.format v.regions (length v.entries) v.entries)
  body_leads =
      let regions = leads_regions v.format (length v.regions) [] v.regions is.regions.each is.regions.paired (omega arith) in
      let few = is.entries.distinct.few in
      let line : Follows (InRegions v.format (length v.regions) v.regions) (count_line (length v.entries)) (InEntries v.format v.regions (length v.entries) []) =
      inr (record { entries = length v.entries; all = refl; closed = regions.1; some = is.entries.some; few = few; line_is = refl; next_is = refl }) in
      leads_through (InRegions v.format (length v.regions) []) (flat_map region_line v.regions) (InRegions v.format (length v.regions) v.regions)
      (count_line (length v.entries) ++ flat_map entry_line v.entries) (InEntries v.format v.regions (length v.entries) v.entries) regions.0
      (onward (InRegions v.format (length v.regions) v.regions) (count_line (length v.entries)) (InEntries v.format v.regions (length v.entries) []) (flat_map entry_line v.entries)
      (InEntries v.format v.regions (length v.entries) v.entries) line
      (leads_entries v.format v.regions (length v.entries) [] v.entries is.entries is.in_list (omega arith)))

  pub ends_whole : MayEnd v.format v.regions (length v.entries) v.entries
  ends_whole = record { all = refl; main = is.main; none_left = is.none_left }

  -- all lines
  abbrev pub all_lines : List ℕ
  all_lines = first_line v.format ++ (head_lines v.exit v.ops (length v.regions) ++ body_lines)

  -- they lead there
  pub file_leads : (accepts : Accepts) → IsAccepted accepts v.format → Leads (Opened accepts) all_lines (InEntries v.format v.regions (length v.entries) v.entries)
  file_leads accepts accepted =
      onward (Opened accepts) (first_line v.format) (Named v.format) (head_lines v.exit v.ops (length v.regions) ++ body_lines) (InEntries v.format v.regions (length v.entries) v.entries)
      (v.format, accepted, refl, refl)
      (leads_through (Named v.format) (head_lines v.exit v.ops (length v.regions)) (InRegions v.format (length v.regions) []) body_lines (InEntries v.format v.regions (length v.entries) v.entries)
      (head_leads v.format v.exit v.ops (length v.regions) is.exit is.ops is.regions.some is.regions.few) body_leads)

-- the parts of a file
file_parts : (v : File) (is : IsFile v) → file_text v ≡ all_lines v is ++ codes "end\n"
file_parts v is = regroup (first_line v.format) (named_line (codes "exit ") (signed_decimal v.exit)) (named_line (codes "ops ") (decimal v.ops)) (named_line (codes "regions ") (decimal (length v.regions)))
    (flat_map region_line v.regions) (count_line (length v.entries)) (flat_map entry_line v.entries) (codes "end\n")
  where
    regroup : (f e o r a c b z : List ℕ) → ((((f ++ e) ++ o) ++ (r ++ a)) ++ (c ++ b)) ++ z ≡ (f ++ ((e ++ (o ++ r)) ++ (a ++ (c ++ b)))) ++ z
    regroup f e o r a c b z = simp append_assoc

-- no file of these formats goes wrong
pub no_file_wrong : (accepts : Accepts) (v : File) (place : ℕ) → IsAccepted accepts v.format → IsFile v → IsFirstWrong accepts (file_text v) place → ⊥
no_file_wrong accepts v place accepted is wrong =
    let w = wrong.2 in
    no_wrong (Opened accepts) (all_lines v is) (InEntries v.format v.regions (length v.entries) v.entries) w.before w.stage w.rest tt (file_leads v is accepts accepted) w.leads
    (sym (file_parts v is) ∙ w.cut) (ends_whole v is) w.wrong

-- lines that lead to an end lead to one
one_end : (s : Stage) (a : List ℕ) (t : Stage) (b : List ℕ) (u : Stage) → IsSmall s → Leads s a t → Leads s b u → a ++ codes "end\n" ≡ b ++ codes "end\n" → IsWhole t → IsWhole u → t ≡ u
one_end _ _ _ _ _ small (arrived s) (arrived _) is whole other = refl
one_end _ _ _ _ u small (arrived s) (onward _ line m lines _ first rest) is whole other = absurd (no_line_behind s m line first whole)
  where
    no_line_behind : (s m : Stage) (line : List ℕ) → Follows s line m → IsWhole s → ⊥
    no_line_behind (Opened accepts) m line f w = w
    no_line_behind (Named format) m line f w = w
    no_line_behind (Exited format) m line f w = w
    no_line_behind (Counted format) m line f w = w
    no_line_behind (InRegions format count regions) m line f w = w
    no_line_behind (InEntries format regions count entries) m line f w = let few = f.few in let all = w.all in absurd (omega arith)
one_end _ _ t _ _ small (onward s line m lines _ first rest) (arrived _) is whole other = absurd (no_line_behind s m line first other)
  where
    no_line_behind : (s m : Stage) (line : List ℕ) → Follows s line m → IsWhole s → ⊥
    no_line_behind (Opened accepts) m line f w = w
    no_line_behind (Named format) m line f w = w
    no_line_behind (Exited format) m line f w = w
    no_line_behind (Counted format) m line f w = w
    no_line_behind (InRegions format count regions) m line f w = w
    no_line_behind (InEntries format regions count entries) m line f w = let few = f.few in let all = w.all in absurd (omega arith)
one_end _ _ t _ u small (onward s line m lines _ first rest) (onward _ line' m' lines' _ first' rest') is whole other =
    let same = one_line s line line' (lines ++ codes "end\n") (lines' ++ codes "end\n") m m' small first first'
    (sym (append_assoc line lines (codes "end\n")) ∙ is ∙ append_assoc line' lines' (codes "end\n")) in
    let P : Stage → Type 0 = λ k. Leads k lines' u in
    one_end m lines t lines' u same.small rest (subst P (sym same.stage) rest') same.text whole other

abbrev format_of : Stage → Format
format_of (Opened accepts) = One
format_of (Named format) = format
format_of (Exited format) = format
format_of (Counted format) = format
format_of (InRegions format count regions) = format
format_of (InEntries format regions count entries) = format

abbrev regions_of : Stage → List Region
regions_of (Opened accepts) = []
regions_of (Named format) = []
regions_of (Exited format) = []
regions_of (Counted format) = []
regions_of (InRegions format count regions) = []
regions_of (InEntries format regions count entries) = regions

abbrev entries_of : Stage → List Entry
entries_of (Opened accepts) = []
entries_of (Named format) = []
entries_of (Exited format) = []
entries_of (Counted format) = []
entries_of (InRegions format count regions) = []
entries_of (InEntries format regions count entries) = entries

-- two files with one text are one
pub one_text : (v w : File) → IsFile v → IsFile w → file_text v ≡ file_text w → v ≡ w
one_text v w one other is =
    let stages = one_end (Opened Both) (all_lines v one) (InEntries v.format v.regions (length v.entries) v.entries)
    (all_lines w other) (InEntries w.format w.regions (length w.entries) w.entries) tt (file_leads v one Both tt) (file_leads w other Both tt)
    (sym (file_parts v one) ∙ is ∙ file_parts w other) (ends_whole v one) (ends_whole w other) in
    let exits = heads (body_lines v one ++ codes "end\n") (body_lines w other ++ codes "end\n")
    (sym (parts v (body_lines v one)) ∙ sym (file_parts v one) ∙ is ∙ file_parts w other ∙ parts w (body_lines w other)) in
    λ i. record { format = format_of (stages i); exit = exits.0 i; ops = exits.1 i; regions = regions_of (stages i); entries = entries_of (stages i) }
  where
    parts : (u : File) (lines : List ℕ) → (first_line u.format ++ (head_lines u.exit u.ops (length u.regions) ++ lines)) ++ codes "end\n"
        ≡ first_line u.format ++ (named_line (codes "exit ") (signed_decimal u.exit) ++ (named_line (codes "ops ") (decimal u.ops) ++ (named_line (codes "regions ") (decimal (length u.regions)) ++ (lines ++ codes "end\n"))))
    parts u lines = append_assoc (first_line u.format) (head_lines u.exit u.ops (length u.regions) ++ lines) (codes "end\n")
        ∙ ap (λ l. first_line u.format ++ l) (append_assoc (head_lines u.exit u.ops (length u.regions)) lines (codes "end\n") ∙ head_parts u.exit u.ops (length u.regions) (lines ++ codes "end\n"))

    heads : (x y : List ℕ) → first_line v.format ++ (named_line (codes "exit ") (signed_decimal v.exit) ++ (named_line (codes "ops ") (decimal v.ops) ++ (named_line (codes "regions ") (decimal (length v.regions)) ++ x)))
        ≡ first_line w.format ++ (named_line (codes "exit ") (signed_decimal w.exit) ++ (named_line (codes "ops ") (decimal w.ops) ++ (named_line (codes "regions ") (decimal (length w.regions)) ++ y)))
        → (v.exit ≡ w.exit) × (v.ops ≡ w.ops)
    heads x y same =
        let ops_v : List ℕ = named_line (codes "ops ") (decimal v.ops) ++ (named_line (codes "regions ") (decimal (length v.regions)) ++ x) in
        let ops_w : List ℕ = named_line (codes "ops ") (decimal w.ops) ++ (named_line (codes "regions ") (decimal (length w.regions)) ++ y) in
        let exit_v : List ℕ = named_line (codes "exit ") (signed_decimal v.exit) ++ ops_v in
        let exit_w : List ℕ = named_line (codes "exit ") (signed_decimal w.exit) ++ ops_w in
        let first = same_Some (v.format, exit_v) (w.format, exit_w) (sym (first_again Both v.format exit_v tt) ∙ ap (first_at Both) same ∙ first_again Both w.format exit_w tt) in
        let a : exit_v ≡ exit_w = ap (λ p. p.1) first in
        let b = same_Some (v.exit, ops_v) (w.exit, ops_w) (sym (exit_again v.exit ops_v one.exit) ∙ ap exit_at a ∙ exit_again w.exit ops_w other.exit) in
        let tails : ops_v ≡ ops_w = ap (λ p. p.1) b in
        let c = same_Some (v.ops, named_line (codes "regions ") (decimal (length v.regions)) ++ x) (w.ops, named_line (codes "regions ") (decimal (length w.regions)) ++ y)
        (sym (named_again (codes "ops ") 0 1000000000 v.ops (named_line (codes "regions ") (decimal (length v.regions)) ++ x) (omega arith) one.ops (omega arith))
        ∙ ap (named_at (codes "ops ") 0 1000000000) tails
        ∙ named_again (codes "ops ") 0 1000000000 w.ops (named_line (codes "regions ") (decimal (length w.regions)) ++ y) (omega arith) other.ops (omega arith)) in
        (ap (λ p. p.0) b, ap (λ p. p.0) c)
