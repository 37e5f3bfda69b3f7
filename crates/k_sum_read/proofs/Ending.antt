-- The lines of the roots and of the end.
use Rattle.std.proofs.Common.{◌≡◌, ◌≢◌, ℕ, inl, inr, List, [], ◌++◌, length, Ok, Err, refl, sym, ap, ◌∙◌, subst, arith}
use Rattle.std.specs.Prelude.{codes}
use Rattle.k_optab.specs.declared.region.Region.{Region}
use Rattle.k_dict_entries.specs.declared.entry.Entry.{Entry}
use Rattle.k_dict_entries.specs.declared.entry.Run.{Run}
use Rattle.k_dict_saved.specs.Lines.{InEntries}
use Rattle.k_dict_saved.specs.Lines as lists
use Rattle.k_dict_saved.specs.declared.format.Format.TheVariants.{Two}
use Rattle.k_dict_saved.specs.declared.reading.stop.Stop.TheVariants as stops
use Rattle.k_sum.specs.SumText.{roots_text}
use Rattle.k_sum.specs.declared.sum.Sum.{Sum}
use Rattle.k_sum_read.specs.Reading.{Finishes, FoundRoots, head_of, sum_of_parts}
use Rattle.k_sum_read.specs.declared.head.Counts.{Counts as CountsValue}
use Rattle.k_sum_read.specs.declared.listing.Listing.{Listing}
use Rattle.k_sum_read.proofs.Leading.{reaches_line, wrong_behind, wrong_here}
use Rattle.k_sum_saved.specs.SumLines.{AreRoots, Follows, GoesWrong, Listed, Rooted, Stage, entries_so_far}

abbrev regions_told : lists.Stage → List Region
regions_told (lists.Opened accepts) = []
regions_told (lists.Named format) = []
regions_told (lists.Exited format) = []
regions_told (lists.Counted format) = []
regions_told (lists.InRegions format count regions) = regions
regions_told (lists.InEntries format regions count entries) = regions

module _ (counts : CountsValue) (listing : Listing) (text : List ℕ) where
  abbrev pub before : Stage
  before = Listed (head_of counts) (InEntries Two listing.regions (length listing.entries) listing.entries)

  abbrev rooted : List Run → Stage
  rooted roots = Rooted (head_of counts) listing.regions listing.entries roots

  -- no line of roots stands there
  pub wrong_at_roots : FoundRoots counts.runs listing.regions listing.entries text (Err stops.Wrong) → GoesWrong before text (length text)
  wrong_at_roots none = wrong_here before text (record { no_line = at; no_end = λ whole is. whole })
    where
      full : (line : List ℕ) (stage : lists.Stage) → lists.Follows (InEntries Two listing.regions (length listing.entries) listing.entries) line stage → ⊥
      full line stage more = let few = more.few in absurd (omega arith)

      at : (line later : List ℕ) (next : Stage) → Follows before line next → text ≢ line ++ later
      at line later next (inl more) is = full line more.stage more.follows
      at line later next (inr roots) is =
          let regions : roots.regions ≡ listing.regions = sym (ap regions_told roots.inner_is) in
          let entries : roots.entries ≡ listing.entries = sym (ap entries_so_far roots.inner_is) in
          let P : List Region → Type 0 = λ l. AreRoots counts.runs l listing.entries roots.roots in
          let Q : List Entry → Type 0 = λ l. AreRoots counts.runs roots.regions l roots.roots in
          none roots.roots later (subst P regions (subst Q entries roots.right)) (is ∙ ap (λ l. l ++ later) roots.line_is)

  module _ (roots : List Run) (work : ℕ) (rest : List ℕ) (found : FoundRoots counts.runs listing.regions listing.entries text (Ok (roots, work, rest))) where
    line : Follows before (roots_text roots) (rooted roots)
    line = inr (record { regions = listing.regions; entries = listing.entries; inner_is = refl; roots = roots; right = found.0; line_is = refl; next_is = refl })

    -- no end stands behind them
    pub wrong_at_end : (rest ≡ codes "end\n" → ⊥) → GoesWrong before text (length rest)
    wrong_at_end not_ended =
        wrong_behind before text (rooted roots) rest (length rest) (reaches_line before text (roots_text roots) (rooted roots) rest line found.1)
        (wrong_here (rooted roots) rest (record { no_line = λ line later next one is. one; no_end = λ whole is. not_ended is }))

    -- the sum
    pub sum_ends : rest ≡ codes "end\n" → (sum : Sum) → sum ≡ sum_of_parts counts listing roots work → Finishes counts listing text (Ok sum)
    sum_ends ended sum is =
        (roots, found.0, found.1 ∙ ap (λ l. roots_text roots ++ l) ended, is ∙ ap (λ n. sum_of_parts counts listing roots n) found.2)
