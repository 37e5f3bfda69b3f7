-- A whole file: what its parts tell together.
use Rattle.std.proofs.Common.{◌≡◌, ◌≢◌, ◌↔◌, ◌==◌, Bool, IsTrue, suc, ℕ, ℤ, inl, inr, List, [], ◌∷◌, ◌++◌, length, Some, None, Result, Ok, Err, refl, sym, ap, ◌∙◌, subst, append_assoc, arith, ne_eqb}
use Rattle.std.specs.Prelude.{codes, IfOk}
use Rattle.std.proofs.lemmas.Bool.{false≢true}
use Rattle.std.proofs.lemmas.Option.{none-some, same_Some}
use Rattle.k_scan.specs.Pieces.{word_at}
use Rattle.k_scan.proofs.Front.{word_again, word_takes}
use Rattle.std.specs.List.{flat_map}
use Rattle.std.specs.Fmt.{decimal, signed_decimal}
use Rattle.k_optab.specs.declared.region.Region.{Region}
use Rattle.k_dict_saved.specs.Lines.{Follows, GoesWrong, InEntries, InRegions, Leads, Named, Stage}
use Rattle.k_dict_saved.specs.Formats.{first_line, IsAccepted}
use Rattle.k_dict_saved.specs.Files.{IsFile}
use Rattle.k_dict_saved.specs.Reading.{AllEntries, AllRegions, Ends, Finishes, FoundCount, HasHead, ReadsLines, head_lines, ReadsAll, first_at}
use Rattle.k_text.specs.Texts.{named_line}
use Rattle.k_dict_saved.specs.FileText.{entry_line, file_text, region_line}
use Rattle.k_dict_entries.specs.declared.entry.Entry.{Entry}
use Rattle.k_dict_saved.specs.declared.reading.stop.Halt.{Halt}
use Rattle.k_dict_saved.specs.declared.reading.stop.Halt.TheVariants as halts
use Rattle.k_dict_saved.specs.declared.file.File.{File}
use Rattle.k_dict_saved.specs.declared.format.Format.{Format}
use Rattle.k_dict_saved.proofs.Leading.{leads_once, wrong_behind, wrong_here}
use Rattle.k_dict_saved.proofs.RegionSteps.{linked_paired}
use Rattle.k_dict_saved.specs.declared.format.Accepts.{Accepts}
use Rattle.k_dict_saved.proofs.HeadSteps.{first_takes, wrong_second}

-- what a call tells of one fact it tells of two, where the other holds
pub both_hold : (A B : Type 0) {E : Type 0} (r : Result Bool E) → B → IfOk r (λ t. IsTrue t ↔ A) → IfOk r (λ t. IsTrue t ↔ (B × A))
both_hold A B (Ok t) here tells = (λ h. (here, tells.0 h), λ both. tells.1 both.1)
both_hold A B (Err e) here tells = tells

-- and of three
pub all_hold : (A B C : Type 0) {E : Type 0} (r : Result Bool E) → C → IfOk r (λ t. IsTrue t ↔ (B × A)) → IfOk r (λ t. IsTrue t ↔ (C × B × A))
all_hold A B C (Ok t) here tells = (λ h. let both = tells.0 h in (here, both.0, both.1), λ all. tells.1 (all.1, all.2))
all_hold A B C (Err e) here tells = tells

-- the last line is not there
pub no_end_here : (text : List ℕ) → word_at (codes "end\n") text ≡ None → text ≡ codes "end\n" → ⊥
no_end_here text none is =
    let nothing : List ℕ = [] in none-some nothing (sym none ∙ ap (word_at (codes "end\n")) is ∙ word_again (codes "end\n") [])

-- the last line is all that is there, where nothing stands behind it
pub end_alone : (text behind : List ℕ) (empty : Bool) → word_at (codes "end\n") text ≡ Some behind → empty ≡ (length behind == 0) → IsTrue empty ↔ (text ≡ codes "end\n")
end_alone text [] empty found is = (λ h. word_takes (codes "end\n") text [] found, λ h. is)
end_alone text (b ∷ behind) empty found is = (
  λ h. absurd (false≢true (sym (is ∙ ne_eqb (suc (length behind)) 0 (λ e. absurd (omega arith))) ∙ h)),
  λ h. absurd (other (same_Some (b ∷ behind) [] (sym found ∙ ap (word_at (codes "end\n")) h ∙ word_again (codes "end\n") []))),
)
  where
    other : ◌≡◌ {A = List ℕ} (b ∷ behind) [] → ⊥
    other same = let long : suc (length behind) ≡ 0 = ap length same in absurd (omega arith)

abbrev pub count_line : ℕ → List ℕ
count_line number = named_line (codes "entries ") (decimal number)

module _ (format : Format) (exit : ℤ) (ops count : ℕ) (text region_text : List ℕ) (head : HasHead exit ops count text region_text) where
  -- wrong behind the head
  pub wrong_in_regions : (left : ℕ) → GoesWrong (InRegions format count []) region_text left → GoesWrong (Named format) text left
  wrong_in_regions left wrong = wrong_behind (Named format) (head_lines exit ops count) (InRegions format count []) text region_text left (head.leads format) head.cut wrong

  module _ (list : List Region) (count_text : List ℕ) (all : AllRegions format count region_text (Ok (list, count_text))) where
    -- wrong behind the regions
    pub wrong_past_regions : (left : ℕ) → GoesWrong (InRegions format count list) count_text left → GoesWrong (Named format) text left
    wrong_past_regions left wrong =
        wrong_in_regions left (wrong_behind (InRegions format count []) (flat_map region_line list) (InRegions format count list) region_text count_text left all.2 all.0 wrong)

    -- no right number of entries stands there
    pub wrong_at_count : FoundCount list count_text None → GoesWrong (Named format) text (length count_text)
    wrong_at_count none = wrong_past_regions (length count_text) (wrong_here (InRegions format count list) count_text (record { no_line = at; no_end = λ whole is. whole }))
      where
        at : (line later : List ℕ) (next : Stage) → Follows (InRegions format count list) line next → count_text ≢ line ++ later
        at line later next (inl one) is = let few = one.few in let same = all.1 in absurd (omega arith)
        at line later next (inr other) is = none other.entries later other.closed other.some other.few (is ∙ ap (λ l. l ++ later) other.line_is)

    module _ (number : ℕ) (entry_text : List ℕ) (found : FoundCount list count_text (Some (number, entry_text))) where
      count_leads : Leads (InRegions format count list) (count_line number) (InEntries format list number [])
      count_leads = leads_once (InRegions format count list) (count_line number) (InEntries format list number [])
          (inr (record { entries = number; all = all.1; closed = found.0; some = found.1; few = found.2; line_is = refl; next_is = refl }))

      -- wrong among the entries
      pub wrong_in_entries : (left : ℕ) → GoesWrong (InEntries format list number []) entry_text left → GoesWrong (Named format) text left
      wrong_in_entries left wrong =
          wrong_past_regions left (wrong_behind (InRegions format count list) (count_line number) (InEntries format list number []) count_text entry_text left count_leads found.3 wrong)

      module _ (dict : List Entry) (end : List ℕ) (these : AllEntries format list number entry_text (Ok (dict, end))) where
        -- no end stands there that may
        pub wrong_at_end : ¬ Ends format list dict end → GoesWrong (Named format) text (length end)
        wrong_at_end not_ended =
            wrong_in_entries (length end) (wrong_behind (InEntries format list number []) (flat_map entry_line dict) (InEntries format list number dict) entry_text end (length end)
            these.2 these.0 (wrong_here (InEntries format list number dict) end (record { no_line = at; no_end = λ whole is. not_ended (is, whole.main, whole.none_left) })))
          where
            at : (line later : List ℕ) (next : Stage) → Follows (InEntries format list number dict) line next → end ≢ line ++ later
            at line later next one is = let few = one.few in let same = these.1 in absurd (omega arith)

        -- the file
        abbrev pub the_file : File
        the_file = record { format = format; exit = exit; ops = ops; regions = list; entries = dict }

        -- the bytes are its text
        pub text_is : end ≡ codes "end\n" → first_line format ++ text ≡ file_text the_file
        text_is ended =
            ap (λ l. first_line format ++ l) (head.cut ∙ ap (λ l. head_lines exit ops count ++ l) (all.0 ∙ ap (λ l. flat_map region_line list ++ l) (found.3 ∙ ap (λ l. count_line number ++ l)
            (these.0 ∙ ap (λ l. flat_map entry_line dict ++ l) ended))))
            ∙ (λ i. first_line format ++ (head_lines exit ops (sym all.1 i) ++ (flat_map region_line list ++ (count_line (sym these.1 i) ++ (flat_map entry_line dict ++ codes "end\n")))))
            ∙ regroup (first_line format) (named_line (codes "exit ") (signed_decimal exit)) (named_line (codes "ops ") (decimal ops)) (named_line (codes "regions ") (decimal (length list)))
            (flat_map region_line list) (count_line (length dict)) (flat_map entry_line dict) (codes "end\n")
          where
            regroup : (f e o r a c b z : List ℕ) → f ++ ((e ++ (o ++ r)) ++ (a ++ (c ++ (b ++ z)))) ≡ ((((f ++ e) ++ o) ++ (r ++ a)) ++ (c ++ b)) ++ z
            regroup f e o r a c b z = simp append_assoc

        -- and it keeps the rules
        pub is_file : Ends format list dict end → IsFile the_file
        is_file ends = record {
          exit = head.exit_fits;
          ops = head.few_ops;
          regions = record {
            some = let same = all.1 in let some = head.some in omega arith;
            few = let same = all.1 in let few = head.few in omega arith;
            each = all.3;
            paired = linked_paired None list all.4 found.0;
          };
          entries = record {
            some = let same = these.1 in let some = found.1 in omega arith;
            distinct = these.4;
            runs = these.5;
            numbers = these.3.numbers;
            levels = these.3.levels;
            instances = these.3.instances;
          };
          in_list = these.3.in_list;
          main = ends.1;
          none_left = ends.2;
        }

        -- how the reading of the lines finishes
        pub finished : (result : Result File Halt) → Finishes the_file end result → ReadsLines format text result
        finished (Ok file) ends =
            let P : File → Type 0 = λ v. (v.format ≡ format) × IsFile v × (first_line format ++ text ≡ file_text v) in
            subst P (sym ends.1) (refl, is_file ends.0, text_is ends.0.0)
        finished (Err (halts.Wrong left)) ends = let P : ℕ → Type 0 = GoesWrong (Named format) text in subst P (sym ends.1) (wrong_at_end ends.0)
        finished (Err halts.Memory) ends = tt

      -- what a refusal among the entries says
      pub refused_entries : (halt : Halt) → AllEntries format list number entry_text (Err halt) → ReadsLines format text (Err halt)
      refused_entries (halts.Wrong left) wrong = wrong_in_entries left wrong
      refused_entries halts.Memory wrong = tt

  -- what a refusal among the regions says
  pub refused_regions : (halt : Halt) → AllRegions format count region_text (Err halt) → ReadsLines format text (Err halt)
  refused_regions (halts.Wrong left) wrong = wrong_in_regions left wrong
  refused_regions halts.Memory wrong = tt

-- what the lines behind the first tell of the whole file
pub whole_of : (accepts : Accepts) (text : List ℕ) (format : Format) (rest : List ℕ) → first_at accepts text ≡ Some (format, rest) → (result : Result File Halt)
    → ReadsLines format rest result → ReadsAll accepts text result
whole_of accepts text format rest first (Ok file) reads =
    let takes = first_takes accepts text format rest first in
    let P : Format → Type 0 = IsAccepted accepts in
    (subst P (sym reads.0) takes.0, reads.1, takes.1 ∙ reads.2)
whole_of accepts text format rest first (Err (halts.Wrong left)) reads = wrong_second accepts text format rest first left reads
whole_of accepts text format rest first (Err halts.Memory) reads = tt
