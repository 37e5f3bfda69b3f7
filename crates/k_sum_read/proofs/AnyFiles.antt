-- Files of sums and of saved profiles.
use Rattle.std.proofs.Common.{◌≡◌, ℕ, inl, inr, List, ◌++◌, Some, None, Result, Ok, Err, refl, sym, ap, ◌∙◌, subst, append_assoc}
use Rattle.std.specs.Prelude.{IfOk, codes}
use Rattle.std.specs.Fmt.{decimal, signed_decimal}
use Rattle.std.proofs.lemmas.Option.{none-some}
use Rattle.k_dict_saved.specs.FileText.{entries_text, regions_text}
use Rattle.k_dict_saved.specs.declared.fault.SavedFault.{SavedFault}
use Rattle.k_dict_saved.specs.declared.fault.SavedFault.TheVariants.{NotSaved, Memory}
use Rattle.k_scan.specs.Pieces.{word_at}
use Rattle.k_scan.proofs.Front.{word_again, word_takes}
use Rattle.k_sum.specs.SumText.{exits_text, roots_text}
use Rattle.k_sum.specs.declared.sum.Sum.{Sum}
use Rattle.k_sum_read.specs.AnyFile.{NoFileIsOfBoth, ReadsAny, ReadsOne}
use Rattle.k_sum_read.specs.SumFile.{ReadsSum}
use Rattle.k_sum_saved.specs.Merged.{IsMerged, of_file, of_run}
use Rattle.k_text.specs.Texts.{named_line}

-- what is read of a text that begins as a sum
pub any_sum : (bytes rest : List ℕ) → word_at (codes "kremlin sum 1\n") bytes ≡ Some rest → (result : Result Sum SavedFault) → ReadsSum bytes result → ReadsAny bytes result
any_sum bytes rest begins (Ok sum) reads = inl reads
any_sum bytes rest begins (Err (NotSaved place)) reads = inl ((rest, word_takes (codes "kremlin sum 1\n") bytes rest begins), reads)
any_sum bytes rest begins (Err Memory) reads = tt

-- and of one that does not
pub any_one : (bytes : List ℕ) → word_at (codes "kremlin sum 1\n") bytes ≡ None → (result : Result Sum SavedFault) → ReadsOne bytes result → ReadsAny bytes result
any_one bytes none (Ok sum) reads = inr reads
any_one bytes none (Err (NotSaved place)) reads =
    inr (λ begins. none-some begins.0 (sym none ∙ ap (word_at (codes "kremlin sum 1\n")) begins.1 ∙ word_again (codes "kremlin sum 1\n") begins.0), reads)
any_one bytes none (Err Memory) reads = tt

-- what is read is put together of files
pub any_merged : (bytes : List ℕ) (result : Result Sum SavedFault) → ReadsAny bytes result → IfOk result IsMerged
any_merged bytes (Ok sum) reads = elim reads [
  | inl file ↦ of_file sum file.0
  | inr one ↦ (let P : Sum → Type 0 = IsMerged in subst P (sym one.3) (of_run one.0 one.1))
]
any_merged bytes (Err fault) reads = tt

pub no_file_of_both : NoFileIsOfBoth
no_file_of_both sum saved is same =
    let rest : List ℕ = named_line (codes "exit ") (signed_decimal saved.exit) ++ (named_line (codes "ops ") (decimal saved.ops) ++ (regions_text saved.regions ++ (entries_text saved.dict ++ codes "end\n"))) in
    let other : List ℕ = named_line (codes "runs ") (decimal sum.runs) ++ (exits_text sum.exits ++ (named_line (codes "ops ") (decimal sum.ops) ++ (regions_text sum.regions ++ (entries_text sum.dict ++ (roots_text sum.roots ++ codes "end\n"))))) in
    none-some rest (sym (no_profile other)
    ∙ ap (word_at (codes "kremlin 2\n")) (sym (of_sum (codes "kremlin sum 1\n") (named_line (codes "runs ") (decimal sum.runs)) (exits_text sum.exits) (named_line (codes "ops ") (decimal sum.ops))
    (regions_text sum.regions) (entries_text sum.dict) (roots_text sum.roots) (codes "end\n"))
    ∙ same ∙ of_one (codes "kremlin 2\n") (named_line (codes "exit ") (signed_decimal saved.exit)) (named_line (codes "ops ") (decimal saved.ops)) (regions_text saved.regions) (entries_text saved.dict) (codes "end\n"))
    ∙ word_again (codes "kremlin 2\n") rest)
  where
    no_profile : (text : List ℕ) → word_at (codes "kremlin 2\n") (codes "kremlin sum 1\n" ++ text) ≡ None
    no_profile text = refl

    of_sum : (a b c d e f g z : List ℕ) → (((((((a ++ b) ++ c) ++ d) ++ e) ++ f) ++ g) ++ z) ≡ a ++ (b ++ (c ++ (d ++ (e ++ (f ++ (g ++ z))))))
    of_sum a b c d e f g z = simp append_assoc

    of_one : (a b c e f z : List ℕ) → (((((a ++ b) ++ c) ++ e) ++ f) ++ z) ≡ a ++ (b ++ (c ++ (e ++ (f ++ z))))
    of_one a b c e f z = simp append_assoc
