-- A text has one reading: lines lead to one place, and no whole file goes wrong.
use Rattle.std.proofs.Common.{◌≡◌, ℕ, ℤ, ◌+◌, ◌*◌, ◌≤◌, inl, inr, List, [], ◌∷◌, ◌++◌, length, Option, Some, refl, sym, ap, ◌∙◌, subst, append_assoc, arith}
use Rattle.std.specs.Prelude.{codes, FitsSigned}
use Rattle.std.specs.Int.{w32}
use Rattle.std.specs.List.{flat_map}
use Rattle.std.specs.Fmt.{decimal, signed_decimal}
use Rattle.std.proofs.lemmas.Option.{same_Some}
use Rattle.k_optab.specs.declared.region.Region.{Region}
use Rattle.k_scan.specs.Numbers.{number_at, signed_at}
use Rattle.k_scan.specs.Pieces.{word_at}
use Rattle.k_scan.proofs.BelowZero.{signed_again, signed_takes}
use Rattle.k_scan.proofs.Digits.{number_again, number_takes}
use Rattle.k_scan.proofs.Front.{word_again, word_takes}
use Rattle.k_dict_entries.specs.Entries.{AreRuns}
use Rattle.k_dict_entries.specs.Tallies.{total}
use Rattle.k_dict_entries.specs.declared.entry.Entry.{Entry}
use Rattle.k_dict_entries.specs.declared.entry.Run.{Run}
use Rattle.k_dict_entries.proofs.EntryTrees.{below_bound}
use Rattle.k_text.specs.Texts.{named_line, run_text}
use Rattle.k_dict_saved.specs.FileText.{entry_line, numbers_text}
use Rattle.k_dict_saved.specs.Lines.{InEntries, InRegions}
use Rattle.k_dict_saved.specs.Lines as lists
use Rattle.k_dict_saved.specs.Syntax.{◌>>=◌, entry_at, named_at}
use Rattle.k_dict_saved.specs.declared.format.Format.TheVariants.{Two}
use Rattle.k_dict_saved.proofs.Files as lists_read
use Rattle.k_dict_saved.proofs.Keeping.{few_bound}
use Rattle.k_dict_saved.proofs.Spelled.{AreSmall, bind_some, entry_again, named_again, named_parts}
use Rattle.k_sum.specs.SumText.{exit_line, roots_text}
use Rattle.k_sum.specs.declared.exits.Exit.{Exit}
use Rattle.k_sum_saved.specs.ExitLine.{exit_line_at}
use Rattle.k_sum_saved.specs.LineLaws.{FirstWrongIsOne, WholeIsNotWrong, WholeIsOne}
use Rattle.k_sum_saved.specs.SumLines.{Counted, Follows, Head, InExits, IsListLine, IsNextExit, IsRootsLine, IsWhole, IsWrong, Leads, Listed, Named, Opened, Rooted, Stage, Told, arrived, entries_so_far, onward}

-- ---- single lines

module _ {X : Type 0} (read : List ℕ → Option (X × List ℕ)) where
  -- what is read of one text
  same_read : (one other : X) (line line' rest left : List ℕ) → line ++ rest ≡ line' ++ left → read (line ++ rest) ≡ Some (one, rest) → read (line' ++ left) ≡ Some (other, left)
      → (one ≡ other) × (rest ≡ left)
  same_read one other line line' rest left is first second =
      let pair = same_Some (one, rest) (other, left) (sym first ∙ ap read is ∙ second) in (ap (λ p. p.0) pair, ap (λ p. p.1) pair)

exit_parts : (x : Exit) (rest : List ℕ) → exit_line x ++ rest ≡ signed_decimal x.value ++ 32 ∷ (decimal x.runs ++ 10 ∷ rest)
exit_parts x rest =
    append_assoc (signed_decimal x.value) (named_line (codes " ") (decimal x.runs)) rest
    ∙ ap (λ l. signed_decimal x.value ++ l) (named_parts (codes " ") (decimal x.runs) rest)

-- the line of an exit value that was read
pub exit_line_takes : (text : List ℕ) (x : Exit) (rest : List ℕ) → exit_line_at text ≡ Some (x, rest) → (text ≡ exit_line x ++ rest) × FitsSigned w32 x.value
unfolding exit_line_at
exit_line_takes text x rest h =
    let made : ℤ × List ℕ → ℕ × List ℕ → List ℕ → Exit × List ℕ = λ value runs rest. (record { value = value.0; runs = runs.0 }, rest) in
    let a = bind_some (signed_at text) (λ value. word_at (codes " ") value.1 >>= λ rest. number_at rest >>= λ runs. word_at (codes "\n") runs.1 >>= λ rest. Some (made value runs rest)) (x, rest) h in
    let b = bind_some (word_at (codes " ") a.0.1) (λ rest. number_at rest >>= λ runs. word_at (codes "\n") runs.1 >>= λ rest. Some (made a.0 runs rest)) (x, rest) a.2 in
    let c = bind_some (number_at b.0) (λ runs. word_at (codes "\n") runs.1 >>= λ rest. Some (made a.0 runs rest)) (x, rest) b.2 in
    let d = bind_some (word_at (codes "\n") c.0.1) (λ rest. Some (made a.0 c.0 rest)) (x, rest) c.2 in
    let takes = signed_takes text a.0.0 a.0.1 a.1 in
    let P : Exit × List ℕ → Type 0 = λ q. (text ≡ exit_line q.0 ++ q.1) × FitsSigned w32 q.0.value in
    subst P (same_Some (made a.0 c.0 d.0) (x, rest) d.2) (
      takes.0
          ∙ ap (λ l. signed_decimal a.0.0 ++ l) (word_takes (codes " ") a.0.1 b.0 b.1
          ∙ ap (λ l. 32 ∷ l) ((number_takes b.0 c.0.0 c.0.1 c.1).0 ∙ ap (λ l. decimal c.0.0 ++ l) (word_takes (codes "\n") c.0.1 d.0 d.1)))
          ∙ sym (exit_parts (made a.0 c.0 d.0).0 d.0),
      takes.1,
    )

-- the line of an exit value is read
pub exit_line_again : (runs : ℕ) (exits : List Exit) (x : Exit) (rest : List ℕ) → runs ≤ 4294967295 → IsNextExit runs exits x
    → exit_line_at (exit_line x ++ rest) ≡ Some (x, rest)
unfolding exit_line_at
exit_line_again runs exits x rest most right =
    let few = right.few in
    let behind : List ℕ = decimal x.runs ++ 10 ∷ rest in
    ap exit_line_at (exit_parts x rest)
    ∙ ap (λ o. o >>= λ value. word_at (codes " ") value.1 >>= λ rest. number_at rest >>= λ runs. word_at (codes "\n") runs.1 >>= λ rest.
    Some (record { value = value.0; runs = runs.0 }, rest)) (signed_again x.value (32 ∷ behind) right.value refl)
    ∙ ap (λ o. o >>= λ rest. number_at rest >>= λ runs. word_at (codes "\n") runs.1 >>= λ rest. Some (record { value = x.value; runs = runs.0 }, rest)) (word_again (codes " ") behind)
    ∙ ap (λ o. o >>= λ runs. word_at (codes "\n") runs.1 >>= λ rest. Some (record { value = x.value; runs = runs.0 }, rest)) (number_again x.runs (10 ∷ rest) (omega arith) refl)
    ∙ ap (λ o. o >>= λ rest. Some (x, rest)) (word_again (codes "\n") rest)

-- the entry whose line ends as that of roots
abbrev entry_with : List Run → Entry
entry_with roots = record { region = 0; work = 0; path = 0; runs = roots }

-- the counts of roots fit 64 bits
pub small_counts : (roots : List Run) → total roots ≤ 4294967295 → AreSmall roots
small_counts [] few = tt
small_counts (run ∷ roots) few = (omega arith, small_counts roots (omega arith))

-- the parts of the line of roots
pub roots_parts : (roots : List Run) (rest : List ℕ) → roots_text roots ++ rest ≡ codes "roots" ++ (flat_map run_text roots ++ 10 ∷ rest)
roots_parts roots rest = append_assoc (codes "roots" ++ flat_map run_text roots) (10 ∷ []) rest ∙ append_assoc (codes "roots") (flat_map run_text roots) (10 ∷ rest)

entry_parts : (roots : List Run) (rest : List ℕ) → entry_line (entry_with roots) ++ rest ≡ numbers_text (entry_with []) ++ (flat_map run_text roots ++ 10 ∷ rest)
entry_parts roots rest =
    append_assoc (numbers_text (entry_with []) ++ flat_map run_text roots) (10 ∷ []) rest ∙ append_assoc (numbers_text (entry_with [])) (flat_map run_text roots) (10 ∷ rest)

behind_word : (x y : List ℕ) → codes "roots" ++ x ≡ codes "roots" ++ y → x ≡ y
behind_word x y is = same_Some x y (sym (word_again (codes "roots") x) ∙ ap (word_at (codes "roots")) is ∙ word_again (codes "roots") y)

roots_again : (high : ℕ) (roots : List Run) (rest : List ℕ) → high ≤ 1048576 → AreRuns 0 high roots → total roots ≤ 4294967295
    → entry_at 1 high (entry_line (entry_with roots) ++ rest) ≡ Some (entry_with roots, rest)
roots_again high roots rest few rise count =
    let short = few_bound 0 high roots (omega arith) rise in
    entry_again 1 high (entry_with roots) rest (omega arith) (omega arith) (omega arith) (omega arith) (omega arith) (below_bound 0 high roots rise) (omega arith)
    (small_counts roots count)

same_roots : (high : ℕ) (one other : List Run) (rest left : List ℕ) → high ≤ 1048576 → AreRuns 0 high one → AreRuns 0 high other → total one ≤ 4294967295
    → total other ≤ 4294967295 → roots_text one ++ rest ≡ roots_text other ++ left → (one ≡ other) × (rest ≡ left)
same_roots high one other rest left few rise rise' count count' is =
    let tails : flat_map run_text one ++ 10 ∷ rest ≡ flat_map run_text other ++ 10 ∷ left =
    behind_word (flat_map run_text one ++ 10 ∷ rest) (flat_map run_text other ++ 10 ∷ left) (sym (roots_parts one rest) ∙ is ∙ roots_parts other left) in
    let lines : entry_line (entry_with one) ++ rest ≡ entry_line (entry_with other) ++ left =
    entry_parts one rest ∙ ap (λ l. numbers_text (entry_with []) ++ l) tails ∙ sym (entry_parts other left) in
    let both = same_read (entry_at 1 high) (entry_with one) (entry_with other) (entry_line (entry_with one)) (entry_line (entry_with other)) rest left lines
    (roots_again high one rest few rise count) (roots_again high other left few rise' count') in
    (ap (λ (e : Entry). e.runs) both.0, both.1)

-- ---- one line from each stage

-- the numbers that a stage tells are small enough to be read
abbrev IsSmall : Stage → Type 0
IsSmall Opened = Unit {0}
IsSmall Named = Unit {0}
IsSmall (Counted runs) = runs ≤ 4294967295
IsSmall (InExits runs count exits) = runs ≤ 4294967295
IsSmall (Told head) = head.runs ≤ 4294967295
IsSmall (Listed head inner) = (head.runs ≤ 4294967295) × lists_read.IsSmall inner
IsSmall (Rooted head regions entries roots) = Unit {0}

-- one line and the next stage, where two texts go on as one
record IsOne (next other : Stage) (rest left : List ℕ) : Type 0 where
  stage : next ≡ other
  text : rest ≡ left
  small : IsSmall next

abbrev regions_so_far : lists.Stage → List Region
regions_so_far (lists.Opened accepts) = []
regions_so_far (lists.Named format) = []
regions_so_far (lists.Exited format) = []
regions_so_far (lists.Counted format) = []
regions_so_far (lists.InRegions format count regions) = regions
regions_so_far (lists.InEntries format regions count entries) = regions

-- behind all entries none stands
none_more : (head : Head) (inner : lists.Stage) (line line' : List ℕ) (next other : Stage) → IsListLine head inner line next → IsRootsLine head inner line' other → ⊥
none_more head inner line line' next other one two =
    let P : lists.Stage → Type 0 = λ s. lists.Follows s line one.stage in
    let entry = subst P two.inner_is one.follows in
    let few = entry.few in absurd (omega arith)

one_line : (s : Stage) (line line' rest left : List ℕ) (next other : Stage) → IsSmall s → Follows s line next → Follows s line' other → line ++ rest ≡ line' ++ left
    → IsOne next other rest left
one_line Opened line line' rest left next other small one two is =
    let texts = ap (λ l. l ++ rest) (sym one.0) ∙ is ∙ ap (λ l. l ++ left) two.0 in
    let P : Stage → Type 0 = IsSmall in
    record {
      stage = one.1 ∙ sym two.1;
      text = same_Some rest left (sym (word_again (codes "kremlin sum 1\n") rest) ∙ ap (word_at (codes "kremlin sum 1\n")) texts ∙ word_again (codes "kremlin sum 1\n") left);
      small = subst P (sym one.1) tt;
    }
one_line Named line line' rest left next other small one two is =
    let texts = ap (λ l. l ++ rest) (sym one.3) ∙ is ∙ ap (λ l. l ++ left) two.3 in
    let both = same_read (named_at (codes "runs ") 1 4294967295) one.0 two.0 (named_line (codes "runs ") (decimal one.0)) (named_line (codes "runs ") (decimal two.0)) rest left texts
    (named_again (codes "runs ") 1 4294967295 one.0 rest one.1 one.2 (omega arith)) (named_again (codes "runs ") 1 4294967295 two.0 left two.1 two.2 (omega arith)) in
    let P : Stage → Type 0 = IsSmall in
    record { stage = one.4 ∙ ap (λ n. Counted n) both.0 ∙ sym two.4; text = both.1; small = subst P (sym one.4) one.2 }
one_line (Counted runs) line line' rest left next other small one two is =
    let texts = ap (λ l. l ++ rest) (sym one.3) ∙ is ∙ ap (λ l. l ++ left) two.3 in
    let both = same_read (named_at (codes "exits ") 1 runs) one.0 two.0 (named_line (codes "exits ") (decimal one.0)) (named_line (codes "exits ") (decimal two.0)) rest left texts
    (named_again (codes "exits ") 1 runs one.0 rest one.1 one.2 (omega arith)) (named_again (codes "exits ") 1 runs two.0 left two.1 two.2 (omega arith)) in
    let P : Stage → Type 0 = IsSmall in
    record { stage = one.4 ∙ ap (λ n. InExits runs n []) both.0 ∙ sym two.4; text = both.1; small = subst P (sym one.4) small }
one_line (InExits runs count exits) line line' rest left next other small (inl one) (inl two) is =
    let texts = ap (λ l. l ++ rest) (sym one.line_is) ∙ is ∙ ap (λ l. l ++ left) two.line_is in
    let both = same_read exit_line_at one.exit two.exit (exit_line one.exit) (exit_line two.exit) rest left texts
    (exit_line_again runs exits one.exit rest small one.right) (exit_line_again runs exits two.exit left small two.right) in
    let P : Stage → Type 0 = IsSmall in
    record {
      stage = one.next_is ∙ ap (λ x. InExits runs count (exits ++ x ∷ [])) both.0 ∙ sym two.next_is;
      text = both.1;
      small = subst P (sym one.next_is) small;
    }
one_line (InExits runs count exits) line line' rest left next other small (inl one) (inr two) is = let few = one.few in let all = two.all in absurd (omega arith)
one_line (InExits runs count exits) line line' rest left next other small (inr one) (inl two) is = let few = two.few in let all = one.all in absurd (omega arith)
one_line (InExits runs count exits) line line' rest left next other small (inr one) (inr two) is =
    let texts = ap (λ l. l ++ rest) (sym one.line_is) ∙ is ∙ ap (λ l. l ++ left) two.line_is in
    let most : ℕ = 1000000000 * runs in
    let both = same_read (named_at (codes "ops ") 0 most) one.ops two.ops (named_line (codes "ops ") (decimal one.ops)) (named_line (codes "ops ") (decimal two.ops)) rest left texts
    (named_again (codes "ops ") 0 most one.ops rest (omega arith) one.few (omega arith)) (named_again (codes "ops ") 0 most two.ops left (omega arith) two.few (omega arith)) in
    let P : Stage → Type 0 = IsSmall in
    record {
      stage = one.next_is ∙ ap (λ n. Told (record { runs = runs; exits = exits; ops = n })) both.0 ∙ sym two.next_is;
      text = both.1;
      small = subst P (sym one.next_is) small;
    }
one_line (Told head) line line' rest left next other small one two is =
    let texts = ap (λ l. l ++ rest) (sym one.3) ∙ is ∙ ap (λ l. l ++ left) two.3 in
    let both = same_read (named_at (codes "regions ") 1 524288) one.0 two.0 (named_line (codes "regions ") (decimal one.0)) (named_line (codes "regions ") (decimal two.0)) rest left texts
    (named_again (codes "regions ") 1 524288 one.0 rest one.1 one.2 (omega arith)) (named_again (codes "regions ") 1 524288 two.0 left two.1 two.2 (omega arith)) in
    let P : Stage → Type 0 = IsSmall in
    record { stage = one.4 ∙ ap (λ n. Listed head (InRegions Two n [])) both.0 ∙ sym two.4; text = both.1; small = subst P (sym one.4) (small, one.2) }
one_line (Listed head inner) line line' rest left next other small (inl one) (inl two) is =
    let both = lists_read.one_line inner line line' rest left one.stage two.stage small.1 one.follows two.follows is in
    let P : Stage → Type 0 = IsSmall in
    record {
      stage = one.next_is ∙ ap (λ s. Listed head s) both.stage ∙ sym two.next_is;
      text = both.text;
      small = subst P (sym one.next_is) (small.0, both.small);
    }
one_line (Listed head inner) line line' rest left next other small (inl one) (inr two) is = absurd (none_more head inner line line' next other one two)
one_line (Listed head inner) line line' rest left next other small (inr one) (inl two) is = absurd (none_more head inner line' line other next two one)
one_line (Listed head inner) line line' rest left next other small (inr one) (inr two) is =
    let texts = ap (λ l. l ++ rest) (sym one.line_is) ∙ is ∙ ap (λ l. l ++ left) two.line_is in
    let inners = sym one.inner_is ∙ two.inner_is in
    let entries : one.entries ≡ two.entries = ap entries_so_far inners in
    let regions : one.regions ≡ two.regions = ap regions_so_far inners in
    let Q : lists.Stage → Type 0 = lists_read.IsSmall in
    let few = subst Q one.inner_is small.1 in
    let R : List Entry → Type 0 = λ l. AreRuns 0 (length l) two.roots in
    let most = small.0 in let count = one.right.count in let count' = two.right.count in
    let both = same_roots (length one.entries) one.roots two.roots rest left few.0 one.right.rise (subst R (sym entries) two.right.rise) (omega arith) (omega arith) texts in
    let P : Stage → Type 0 = IsSmall in
    let same : Rooted head one.regions one.entries one.roots ≡ Rooted head two.regions two.entries two.roots = (λ i. Rooted head (regions i) (entries i) (both.0 i)) in
    record {
      stage = one.next_is ∙ same ∙ sym two.next_is;
      text = both.1;
      small = subst P (sym one.next_is) tt;
    }
one_line (Rooted head regions entries roots) line line' rest left next other small one two is = absurd one

-- ---- all lines

-- lines that go wrong go wrong at one place
one_place : (s : Stage) (a : List ℕ) (t : Stage) (b : List ℕ) (u : Stage) (x y : List ℕ) → IsSmall s → Leads s a t → Leads s b u → a ++ x ≡ b ++ y
    → IsWrong t x → IsWrong u y → length x ≡ length y
one_place _ _ _ _ _ x y small (arrived s) (arrived _) is one two = ap length is
one_place _ _ _ _ u x y small (arrived s) (onward _ line m lines _ first rest) is one two =
    absurd (one.no_line line (lines ++ y) m first (is ∙ append_assoc line lines y))
one_place _ _ t _ _ x y small (onward s line m lines _ first rest) (arrived _) is one two =
    absurd (two.no_line line (lines ++ x) m first (sym is ∙ append_assoc line lines x))
one_place _ _ t _ u x y small (onward s line m lines _ first rest) (onward _ line' m' lines' _ first' rest') is one two =
    let same = one_line s line line' (lines ++ x) (lines' ++ y) m m' small first first'
    (sym (append_assoc line lines x) ∙ is ∙ append_assoc line' lines' y) in
    let P : Stage → Type 0 = λ k. Leads k lines' u in
    one_place m lines t lines' u x y same.small rest (subst P (sym same.stage) rest') same.text one two

-- no line stands behind a whole file
ended : (s m : Stage) (line : List ℕ) → Follows s line m → IsWhole s → ⊥
ended Opened m line f w = w
ended Named m line f w = w
ended (Counted runs) m line f w = w
ended (InExits runs count exits) m line f w = w
ended (Told head) m line f w = w
ended (Listed head inner) m line f w = w
ended (Rooted head regions entries roots) m line f w = f

-- lines that lead to the end do not go wrong
no_wrong : (s : Stage) (a : List ℕ) (t : Stage) (b : List ℕ) (u : Stage) (y : List ℕ) → IsSmall s → Leads s a t → Leads s b u → a ++ codes "end\n" ≡ b ++ y
    → IsWhole t → IsWrong u y → ⊥
no_wrong _ _ _ _ _ y small (arrived s) (arrived _) is whole wrong = wrong.no_end whole (sym is)
no_wrong _ _ _ _ u y small (arrived s) (onward _ line m lines _ first rest) is whole wrong = ended s m line first whole
no_wrong _ _ t _ _ y small (onward s line m lines _ first rest) (arrived _) is whole wrong =
    wrong.no_line line (lines ++ codes "end\n") m first (sym is ∙ append_assoc line lines (codes "end\n"))
no_wrong _ _ t _ u y small (onward s line m lines _ first rest) (onward _ line' m' lines' _ first' rest') is whole wrong =
    let same = one_line s line line' (lines ++ codes "end\n") (lines' ++ y) m m' small first first'
    (sym (append_assoc line lines (codes "end\n")) ∙ is ∙ append_assoc line' lines' y) in
    let P : Stage → Type 0 = λ k. Leads k lines' u in
    no_wrong m lines t lines' u y same.small rest (subst P (sym same.stage) rest') same.text whole wrong

-- lines that lead to an end lead to one
one_end : (s : Stage) (a : List ℕ) (t : Stage) (b : List ℕ) (u : Stage) → IsSmall s → Leads s a t → Leads s b u → a ++ codes "end\n" ≡ b ++ codes "end\n" → IsWhole t → IsWhole u → t ≡ u
one_end _ _ _ _ _ small (arrived s) (arrived _) is whole other = refl
one_end _ _ _ _ u small (arrived s) (onward _ line m lines _ first rest) is whole other = absurd (ended s m line first whole)
one_end _ _ t _ _ small (onward s line m lines _ first rest) (arrived _) is whole other = absurd (ended s m line first other)
one_end _ _ t _ u small (onward s line m lines _ first rest) (onward _ line' m' lines' _ first' rest') is whole other =
    let same = one_line s line line' (lines ++ codes "end\n") (lines' ++ codes "end\n") m m' small first first'
    (sym (append_assoc line lines (codes "end\n")) ∙ is ∙ append_assoc line' lines' (codes "end\n")) in
    let P : Stage → Type 0 = λ k. Leads k lines' u in
    one_end m lines t lines' u same.small rest (subst P (sym same.stage) rest') same.text whole other

pub first_wrong_is_one : FirstWrongIsOne
first_wrong_is_one bytes one other first second =
    let a = first.2 in let b = second.2 in
    let same = one_place Opened a.before a.stage b.before b.stage a.rest b.rest tt a.leads b.leads (sym a.cut ∙ b.cut) a.wrong b.wrong in
    let left = a.left_is in let left' = b.left_is in let sum = first.1 in let sum' = second.1 in omega arith

pub whole_is_not_wrong : WholeIsNotWrong
whole_is_not_wrong lines whole place leads is wrong =
    let w = wrong.2 in no_wrong Opened lines whole w.before w.stage w.rest tt leads w.leads w.cut is w.wrong

pub whole_is_one : WholeIsOne
whole_is_one lines others one other leads others_lead is is' text = one_end Opened lines one others other tt leads others_lead text is is'
