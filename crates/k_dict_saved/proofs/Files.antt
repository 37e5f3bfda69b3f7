-- A file has one reading: lines lead to one place, and no file goes wrong.
use Rattle.std.proofs.Common.{◌≡◌, ℕ, ◌≤◌, inl, inr, List, [], ◌∷◌, ◌++◌, length, Option, Some, sym, ap, ◌∙◌, subst, append_assoc, arith}
use Rattle.std.specs.Prelude.{codes}
use Rattle.std.specs.Fmt.{decimal, signed_decimal}
use Rattle.std.proofs.lemmas.Option.{same_Some}
use Rattle.k_dict_saved.specs.Formats.{first_line}
use Rattle.k_dict_saved.specs.declared.format.Accepts.{Accepts}
use Rattle.k_dict_saved.specs.Lines.{Counted, Exited, Follows, InEntries, InRegions, IsFirstWrong, IsWhole, IsWrong, Leads, Named, Opened, Stage, arrived, onward}
use Rattle.k_text.specs.Texts.{named_line}
use Rattle.k_dict_saved.specs.FileText.{entry_line, region_line}
use Rattle.k_dict_saved.specs.Syntax.{entry_at, named_at, region_at}
use Rattle.k_dict_saved.specs.Reading.{exit_at, first_at}
use Rattle.k_dict_saved.proofs.EntrySteps.{next_again}
use Rattle.k_dict_saved.proofs.HeadSteps.{exit_again, first_again}
use Rattle.k_dict_saved.proofs.Spelled.{named_again, region_again}

-- the stage has few enough entries to be read
abbrev pub IsSmall : Stage → Type 0
IsSmall (Opened accepts) = Unit {0}
IsSmall (Named format) = Unit {0}
IsSmall (Exited format) = Unit {0}
IsSmall (Counted format) = Unit {0}
IsSmall (InRegions format count regions) = count ≤ 524288
IsSmall (InEntries format regions count entries) = (count ≤ 1048576) × (length regions ≤ 524288)

-- one line and the next stage, where two texts go on as one
pub record IsOne (next other : Stage) (rest left : List ℕ) : Type 0 where
  pub stage : next ≡ other
  pub text : rest ≡ left
  pub small : IsSmall next

module _ {X : Type 0} (read : List ℕ → Option (X × List ℕ)) where
  -- what is read of one text
  same_read : (one other : X) (line line' rest left : List ℕ) → line ++ rest ≡ line' ++ left → read (line ++ rest) ≡ Some (one, rest) → read (line' ++ left) ≡ Some (other, left)
      → (one ≡ other) × (rest ≡ left)
  same_read one other line line' rest left is first second =
      let pair = same_Some (one, rest) (other, left) (sym first ∙ ap read is ∙ second) in (ap (λ p. p.0) pair, ap (λ p. p.1) pair)

-- a text has one line that may stand there
pub one_line : (s : Stage) (line line' rest left : List ℕ) (next other : Stage) → IsSmall s → Follows s line next → Follows s line' other
    → line ++ rest ≡ line' ++ left → IsOne next other rest left
one_line (Opened accepts) line line' rest left next other small one two is =
    let texts = ap (λ l. l ++ rest) (sym one.2) ∙ is ∙ ap (λ l. l ++ left) two.2 in
    let both = same_read (first_at accepts) one.0 two.0 (first_line one.0) (first_line two.0) rest left texts
    (first_again accepts one.0 rest one.1) (first_again accepts two.0 left two.1) in
    let P : Stage → Type 0 = IsSmall in
    record { stage = one.3 ∙ ap (λ f. Named f) both.0 ∙ sym two.3; text = both.1; small = subst P (sym one.3) tt }
one_line (Named format) line line' rest left next other small one two is =
    let texts = ap (λ l. l ++ rest) (sym one.2) ∙ is ∙ ap (λ l. l ++ left) two.2 in
    let P : Stage → Type 0 = IsSmall in
    record {
      stage = one.3 ∙ sym two.3;
      text = (same_read exit_at one.0 two.0 (named_line (codes "exit ") (signed_decimal one.0)) (named_line (codes "exit ") (signed_decimal two.0)) rest left texts (exit_again one.0 rest one.1) (exit_again two.0 left two.1)).1;
      small = subst P (sym one.3) tt;
    }
one_line (Exited format) line line' rest left next other small one two is =
    let texts = ap (λ l. l ++ rest) (sym one.2) ∙ is ∙ ap (λ l. l ++ left) two.2 in
    let P : Stage → Type 0 = IsSmall in
    record {
      stage = one.3 ∙ sym two.3;
      text = (same_read (named_at (codes "ops ") 0 1000000000) one.0 two.0 (named_line (codes "ops ") (decimal one.0)) (named_line (codes "ops ") (decimal two.0)) rest left texts
          (named_again (codes "ops ") 0 1000000000 one.0 rest (omega arith) one.1 (omega arith)) (named_again (codes "ops ") 0 1000000000 two.0 left (omega arith) two.1 (omega arith))).1;
      small = subst P (sym one.3) tt;
    }
one_line (Counted format) line line' rest left next other small one two is =
    let texts = ap (λ l. l ++ rest) (sym one.3) ∙ is ∙ ap (λ l. l ++ left) two.3 in
    let both = same_read (named_at (codes "regions ") 1 524288) one.0 two.0 (named_line (codes "regions ") (decimal one.0)) (named_line (codes "regions ") (decimal two.0)) rest left texts
    (named_again (codes "regions ") 1 524288 one.0 rest one.1 one.2 (omega arith)) (named_again (codes "regions ") 1 524288 two.0 left two.1 two.2 (omega arith)) in
    let P : Stage → Type 0 = IsSmall in
    record { stage = one.4 ∙ ap (λ n. InRegions format n []) both.0 ∙ sym two.4; text = both.1; small = subst P (sym one.4) one.2 }
one_line (InRegions format count regions) line line' rest left next other small (inl one) (inl two) is =
    let texts = ap (λ l. l ++ rest) (sym one.line_is) ∙ is ∙ ap (λ l. l ++ left) two.line_is in
    let both = same_read region_at one.region two.region (region_line one.region) (region_line two.region) rest left texts (region_again one.region rest one.right) (region_again two.region left two.right) in
    let P : Stage → Type 0 = IsSmall in
    record {
      stage = one.next_is ∙ ap (λ r. InRegions format count (regions ++ r ∷ [])) both.0 ∙ sym two.next_is;
      text = both.1;
      small = subst P (sym one.next_is) small;
    }
one_line (InRegions format count regions) line line' rest left next other small (inl one) (inr two) is = let few = one.few in let all = two.all in absurd (omega arith)
one_line (InRegions format count regions) line line' rest left next other small (inr one) (inl two) is = let few = two.few in let all = one.all in absurd (omega arith)
one_line (InRegions format count regions) line line' rest left next other small (inr one) (inr two) is =
    let texts = ap (λ l. l ++ rest) (sym one.line_is) ∙ is ∙ ap (λ l. l ++ left) two.line_is in
    let both = same_read (named_at (codes "entries ") 1 1048576) one.entries two.entries (named_line (codes "entries ") (decimal one.entries)) (named_line (codes "entries ") (decimal two.entries)) rest left texts
    (named_again (codes "entries ") 1 1048576 one.entries rest one.some one.few (omega arith)) (named_again (codes "entries ") 1 1048576 two.entries left two.some two.few (omega arith)) in
    let all = one.all in
    let P : Stage → Type 0 = IsSmall in
    record {
      stage = one.next_is ∙ ap (λ n. InEntries format regions n []) both.0 ∙ sym two.next_is;
      text = both.1;
      small = subst P (sym one.next_is) (one.few, omega arith);
    }
one_line (InEntries format regions count entries) line line' rest left next other small one two is =
    let texts = ap (λ l. l ++ rest) (sym one.line_is) ∙ is ∙ ap (λ l. l ++ left) two.line_is in
    let few = one.few in let most = small.0 in let bound = small.1 in
    let both = same_read (entry_at (length regions) (length entries)) one.entry two.entry (entry_line one.entry) (entry_line two.entry) rest left texts
    (next_again format (length regions) entries one.entry rest (omega arith) (omega arith) one.right) (next_again format (length regions) entries two.entry left (omega arith) (omega arith) two.right) in
    let P : Stage → Type 0 = IsSmall in
    record {
      stage = one.next_is ∙ ap (λ e. InEntries format regions count (entries ++ e ∷ [])) both.0 ∙ sym two.next_is;
      text = both.1;
      small = subst P (sym one.next_is) small;
    }

-- lines that go wrong go wrong at one place
one_place : (s : Stage) (a : List ℕ) (t : Stage) (b : List ℕ) (u : Stage) (x y : List ℕ) → IsSmall s → Leads s a t → Leads s b u → a ++ x ≡ b ++ y
    → IsWrong t x → IsWrong u y → length x ≡ length y
one_place _ _ _ _ _ x y small (arrived s) (arrived _) is one two = ap length is
one_place _ _ _ _ u x y small (arrived s) (onward _ line m lines _ first rest) is one two =
    absurd (one.no_line line (lines ++ y) m first (is ∙ append_assoc line lines y))
one_place _ _ t _ _ x y small (onward s line m lines _ first rest) (arrived _) is one two =
    absurd (two.no_line line (lines ++ x) m first (sym is ∙ append_assoc line lines x))
one_place _ _ t _ u x y small (onward s line m lines _ first rest) (onward _ line' m' lines' _ first' rest') is one two =
    let same = one_line s line line' (lines ++ x) (lines' ++ y) m m' small first first'
    (sym (append_assoc line lines x) ∙ is ∙ append_assoc line' lines' y) in
    let P : Stage → Type 0 = λ k. Leads k lines' u in
    one_place m lines t lines' u x y same.small rest (subst P (sym same.stage) rest') same.text one two

-- lines that lead to the end do not go wrong
pub no_wrong : (s : Stage) (a : List ℕ) (t : Stage) (b : List ℕ) (u : Stage) (y : List ℕ) → IsSmall s → Leads s a t → Leads s b u → a ++ codes "end\n" ≡ b ++ y
    → IsWhole t → IsWrong u y → ⊥
no_wrong _ _ _ _ _ y small (arrived s) (arrived _) is whole wrong = wrong.no_end whole (sym is)
no_wrong _ _ _ _ u y small (arrived s) (onward _ line m lines _ first rest) is whole wrong = ended s first whole
  where
    ended : (s : Stage) → Follows s line m → IsWhole s → ⊥
    ended (Opened accepts) f w = w
    ended (Named format) f w = w
    ended (Exited format) f w = w
    ended (Counted format) f w = w
    ended (InRegions format count regions) f w = w
    ended (InEntries format regions count entries) f w = let few = f.few in let all = w.all in absurd (omega arith)
no_wrong _ _ t _ _ y small (onward s line m lines _ first rest) (arrived _) is whole wrong =
    wrong.no_line line (lines ++ codes "end\n") m first (sym is ∙ append_assoc line lines (codes "end\n"))
no_wrong _ _ t _ u y small (onward s line m lines _ first rest) (onward _ line' m' lines' _ first' rest') is whole wrong =
    let same = one_line s line line' (lines ++ codes "end\n") (lines' ++ y) m m' small first first'
    (sym (append_assoc line lines (codes "end\n")) ∙ is ∙ append_assoc line' lines' y) in
    let P : Stage → Type 0 = λ k. Leads k lines' u in
    no_wrong m lines t lines' u y same.small rest (subst P (sym same.stage) rest') same.text whole wrong

-- the first wrong line starts at one place
pub first_wrong_is_one : (accepts : Accepts) (bytes : List ℕ) (one other : ℕ) → IsFirstWrong accepts bytes one → IsFirstWrong accepts bytes other → one ≡ other
first_wrong_is_one accepts bytes one other first second =
    let a = first.2 in let b = second.2 in
    let same = one_place (Opened accepts) a.before a.stage b.before b.stage a.rest b.rest tt a.leads b.leads (sym a.cut ∙ b.cut) a.wrong b.wrong in
    let left = a.left_is in let left' = b.left_is in let sum = first.1 in let sum' = second.1 in omega arith
