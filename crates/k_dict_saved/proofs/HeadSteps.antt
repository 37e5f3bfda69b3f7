-- The lines before the regions, and the one behind them.
use Rattle.std.proofs.Common.{◌≡◌, ◌≢◌, ℕ, ℤ, ◌≤◌, List, [], ◌∷◌, ◌++◌, length, Option, Some, None, refl, sym, ap, ◌∙◌, subst, append_assoc, arith}
use Rattle.std.specs.Prelude.{codes, FitsSigned}
use Rattle.std.specs.Int.{w32}
use Rattle.std.specs.Fmt.{decimal, signed_decimal}
use Rattle.std.proofs.lemmas.Option.{none-some, same_Some}
use Rattle.k_optab.specs.declared.region.Region.{Region}
use Rattle.k_scan.specs.Numbers.{signed_at}
use Rattle.k_scan.specs.Pieces.{word_at}
use Rattle.k_scan.proofs.BelowZero.{signed_again, signed_takes}
use Rattle.k_scan.proofs.Front.{word_again, word_takes}
use Rattle.k_dict_saved.specs.Formats.{IsAccepted, first_line}
use Rattle.k_dict_saved.specs.Lines.{Counted, Exited, Follows, GoesWrong, InRegions, IsClosed, Leads, Named, Opened, Stage, last_of, onward}
use Rattle.k_dict_saved.specs.Reading.{HasHead, exit_at, first_at, first_format, head_lines}
use Rattle.k_text.specs.Texts.{named_line}
use Rattle.k_dict_saved.specs.Syntax.{◌>>=◌, named_at}
use Rattle.k_dict_saved.specs.declared.format.Accepts.{Accepts}
use Rattle.k_dict_saved.specs.declared.format.Accepts.TheVariants.{OneAlone, Both}
use Rattle.k_dict_saved.specs.declared.format.Format.{Format}
use Rattle.k_dict_saved.specs.declared.format.Format.TheVariants.{One, Two}
use Rattle.k_dict_saved.proofs.Leading.{leads_once, wrong_behind, wrong_here}
use Rattle.k_dict_saved.proofs.Spelled.{bind_some, named_again, named_parts, named_takes}

-- the line with a run's end that was read
pub exit_takes : (text : List ℕ) (exit : ℤ) (rest : List ℕ) → exit_at text ≡ Some (exit, rest)
    → (text ≡ named_line (codes "exit ") (signed_decimal exit) ++ rest) × FitsSigned w32 exit
unfolding exit_at
exit_takes text exit rest h =
    let a = bind_some (word_at (codes "exit ") text) (λ rest. signed_at rest >>= λ exit. word_at (codes "\n") exit.1 >>= λ rest. Some (exit.0, rest)) (exit, rest) h in
    let b = bind_some (signed_at a.0) (λ exit. word_at (codes "\n") exit.1 >>= λ rest. Some (exit.0, rest)) (exit, rest) a.2 in
    let c = bind_some (word_at (codes "\n") b.0.1) (λ rest. Some (b.0.0, rest)) (exit, rest) b.2 in
    let pair = same_Some (b.0.0, c.0) (exit, rest) c.2 in
    let takes = signed_takes a.0 b.0.0 b.0.1 b.1 in
    let P : ℤ × List ℕ → Type 0 = λ q. (text ≡ named_line (codes "exit ") (signed_decimal q.0) ++ q.1) × FitsSigned w32 q.0 in
    subst P pair (
      word_takes (codes "exit ") text a.0 a.1
          ∙ ap (λ l. codes "exit " ++ l) (takes.0 ∙ ap (λ l. signed_decimal b.0.0 ++ l) (word_takes (codes "\n") b.0.1 c.0 c.1))
          ∙ sym (named_parts (codes "exit ") (signed_decimal b.0.0) c.0),
      takes.1,
    )

-- the line with a run's end is read
pub exit_again : (exit : ℤ) (rest : List ℕ) → FitsSigned w32 exit → exit_at (named_line (codes "exit ") (signed_decimal exit) ++ rest) ≡ Some (exit, rest)
unfolding exit_at
exit_again exit rest fits =
    let whole : List ℕ → Option (ℤ × List ℕ) =
    λ text. word_at (codes "exit ") text >>= λ rest. signed_at rest >>= λ exit. word_at (codes "\n") exit.1 >>= λ rest. Some (exit.0, rest) in
    ap whole (named_parts (codes "exit ") (signed_decimal exit) rest)
    ∙ ap (λ o. o >>= λ rest. signed_at rest >>= λ exit. word_at (codes "\n") exit.1 >>= λ rest. Some (exit.0, rest)) (word_again (codes "exit ") (signed_decimal exit ++ 10 ∷ rest))
    ∙ ap (λ o. o >>= λ exit. word_at (codes "\n") exit.1 >>= λ rest. Some (exit.0, rest)) (signed_again exit (10 ∷ rest) fits refl)
    ∙ ap (λ o. o >>= λ rest. Some (exit, rest)) (word_again (codes "\n") rest)

-- the first line that was read
pub first_takes : (accepts : Accepts) (text : List ℕ) (format : Format) (rest : List ℕ) → first_at accepts text ≡ Some (format, rest)
    → IsAccepted accepts format × (text ≡ first_line format ++ rest)
unfolding first_at
first_takes OneAlone text format rest h = by (word_at (codes "kremlin 1\n") text) refl h
  where
    by : (o : Option (List ℕ)) → word_at (codes "kremlin 1\n") text ≡ o → first_format o None ≡ Some (format, rest) → IsAccepted OneAlone format × (text ≡ first_line format ++ rest)
    by (Some found) one h =
        let P : Format × List ℕ → Type 0 = λ q. IsAccepted OneAlone q.0 × (text ≡ first_line q.0 ++ q.1) in
        subst P (same_Some (One, found) (format, rest) h) (tt, word_takes (codes "kremlin 1\n") text found one)
    by None one h = absurd (none-some (format, rest) h)
first_takes Both text format rest h = by (word_at (codes "kremlin 1\n") text) (word_at (codes "kremlin 2\n") text) refl refl h
  where
    by : (o u : Option (List ℕ)) → word_at (codes "kremlin 1\n") text ≡ o → word_at (codes "kremlin 2\n") text ≡ u → first_format o u ≡ Some (format, rest)
        → IsAccepted Both format × (text ≡ first_line format ++ rest)
    by (Some found) u one two h =
        let P : Format × List ℕ → Type 0 = λ q. IsAccepted Both q.0 × (text ≡ first_line q.0 ++ q.1) in
        subst P (same_Some (One, found) (format, rest) h) (tt, word_takes (codes "kremlin 1\n") text found one)
    by None (Some found) one two h =
        let P : Format × List ℕ → Type 0 = λ q. IsAccepted Both q.0 × (text ≡ first_line q.0 ++ q.1) in
        subst P (same_Some (Two, found) (format, rest) h) (tt, word_takes (codes "kremlin 2\n") text found two)
    by None None one two h = absurd (none-some (format, rest) h)

-- the first line is read
pub first_again : (accepts : Accepts) (format : Format) (rest : List ℕ) → IsAccepted accepts format → first_at accepts (first_line format ++ rest) ≡ Some (format, rest)
unfolding first_at
first_again OneAlone One rest accepted = ap (λ o. first_format o None) (word_again (codes "kremlin 1\n") rest)
first_again OneAlone Two rest accepted = absurd accepted
first_again Both One rest accepted =
    ap (λ o. first_format o (word_at (codes "kremlin 2\n") (codes "kremlin 1\n" ++ rest))) (word_again (codes "kremlin 1\n") rest)
first_again Both Two rest accepted = ap (λ o. first_format None o) (word_again (codes "kremlin 2\n") rest)

-- no first line stands here
pub no_first : (accepts : Accepts) (text : List ℕ) → first_at accepts text ≡ None → GoesWrong (Opened accepts) text (length text)
no_first accepts text none = wrong_here (Opened accepts) text (record { no_line = at; no_end = λ whole is. whole })
  where
    at : (line later : List ℕ) (next : Stage) → Follows (Opened accepts) line next → text ≢ line ++ later
    at line later next one is =
        none-some (one.0, later) (sym none ∙ ap (first_at accepts) (is ∙ ap (λ l. l ++ later) one.2) ∙ first_again accepts one.0 later one.1)

-- no line with a run's end
pub no_exit : (format : Format) (text : List ℕ) → exit_at text ≡ None → GoesWrong (Named format) text (length text)
no_exit format text none = wrong_here (Named format) text (record { no_line = at; no_end = λ whole is. whole })
  where
    at : (line later : List ℕ) (next : Stage) → Follows (Named format) line next → text ≢ line ++ later
    at line later next one is = none-some (one.0, later) (sym none ∙ ap exit_at (is ∙ ap (λ l. l ++ later) one.2) ∙ exit_again one.0 later one.1)

-- no line with the number of operations
pub no_ops : (format : Format) (text : List ℕ) → named_at (codes "ops ") 0 1000000000 text ≡ None → GoesWrong (Exited format) text (length text)
no_ops format text none = wrong_here (Exited format) text (record { no_line = at; no_end = λ whole is. whole })
  where
    at : (line later : List ℕ) (next : Stage) → Follows (Exited format) line next → text ≢ line ++ later
    at line later next one is = none-some (one.0, later)
        (sym none ∙ ap (named_at (codes "ops ") 0 1000000000) (is ∙ ap (λ l. l ++ later) one.2)
        ∙ named_again (codes "ops ") 0 1000000000 one.0 later (omega arith) one.1 (omega arith))

-- no line with the number of regions
pub no_count : (format : Format) (text : List ℕ) → named_at (codes "regions ") 1 524288 text ≡ None → GoesWrong (Counted format) text (length text)
no_count format text none = wrong_here (Counted format) text (record { no_line = at; no_end = λ whole is. whole })
  where
    at : (line later : List ℕ) (next : Stage) → Follows (Counted format) line next → text ≢ line ++ later
    at line later next one is = none-some (one.0, later)
        (sym none ∙ ap (named_at (codes "regions ") 1 524288) (is ∙ ap (λ l. l ++ later) one.3)
        ∙ named_again (codes "regions ") 1 524288 one.0 later one.1 one.2 (omega arith))

-- the parts of a head
pub head_parts : (exit : ℤ) (ops count : ℕ) (rest : List ℕ) → head_lines exit ops count ++ rest
    ≡ named_line (codes "exit ") (signed_decimal exit) ++ (named_line (codes "ops ") (decimal ops) ++ (named_line (codes "regions ") (decimal count) ++ rest))
head_parts exit ops count rest = regroup (named_line (codes "exit ") (signed_decimal exit)) (named_line (codes "ops ") (decimal ops)) (named_line (codes "regions ") (decimal count)) rest
  where
    regroup : (a b c d : List ℕ) → (a ++ (b ++ c)) ++ d ≡ a ++ (b ++ (c ++ d))
    regroup a b c d = simp append_assoc

-- the lines of a head lead to the regions
pub head_leads : (format : Format) (exit : ℤ) (ops count : ℕ) → FitsSigned w32 exit → ops ≤ 1000000000 → 1 ≤ count → count ≤ 524288
    → Leads (Named format) (head_lines exit ops count) (InRegions format count [])
head_leads format exit ops count fits few some most =
    onward (Named format) (named_line (codes "exit ") (signed_decimal exit)) (Exited format)
    (named_line (codes "ops ") (decimal ops) ++ named_line (codes "regions ") (decimal count)) (InRegions format count []) (exit, fits, refl, refl)
    (onward (Exited format) (named_line (codes "ops ") (decimal ops)) (Counted format) (named_line (codes "regions ") (decimal count)) (InRegions format count []) (ops, few, refl, refl)
    (leads_once (Counted format) (named_line (codes "regions ") (decimal count)) (InRegions format count []) (count, some, most, refl, refl)))

-- wrong behind the first line
pub wrong_second : (accepts : Accepts) (text : List ℕ) (format : Format) (rest : List ℕ) → first_at accepts text ≡ Some (format, rest) → (left : ℕ)
    → GoesWrong (Named format) rest left → GoesWrong (Opened accepts) text left
wrong_second accepts text format rest first left wrong =
    let takes = first_takes accepts text format rest first in
    wrong_behind (Opened accepts) (first_line format) (Named format) text rest left
    (leads_once (Opened accepts) (first_line format) (Named format) (format, takes.0, refl, refl)) takes.1 wrong

module _ (exit_text : List ℕ) (exit : ℤ) (ops_text : List ℕ) (second : exit_at exit_text ≡ Some (exit, ops_text)) where
  -- wrong behind the second line
  pub wrong_third : (format : Format) (left : ℕ) → GoesWrong (Exited format) ops_text left → GoesWrong (Named format) exit_text left
  wrong_third format left wrong =
      let takes = exit_takes exit_text exit ops_text second in
      wrong_behind (Named format) (named_line (codes "exit ") (signed_decimal exit)) (Exited format) exit_text ops_text left
      (leads_once (Named format) (named_line (codes "exit ") (signed_decimal exit)) (Exited format) (exit, takes.1, refl, refl)) takes.0 wrong

  module _ (ops : ℕ) (regions_text : List ℕ) (third : named_at (codes "ops ") 0 1000000000 ops_text ≡ Some (ops, regions_text)) where
    -- wrong behind the third
    pub wrong_fourth : (format : Format) (left : ℕ) → GoesWrong (Counted format) regions_text left → GoesWrong (Named format) exit_text left
    wrong_fourth format left wrong =
        let takes = named_takes (codes "ops ") 0 1000000000 ops_text ops regions_text third in
        wrong_third format left (wrong_behind (Exited format) (named_line (codes "ops ") (decimal ops)) (Counted format) ops_text regions_text left
        (leads_once (Exited format) (named_line (codes "ops ") (decimal ops)) (Counted format) (ops, takes.2, refl, refl)) takes.0 wrong)

    -- the whole head
    pub has_head : (count : ℕ) (rest : List ℕ) → named_at (codes "regions ") 1 524288 regions_text ≡ Some (count, rest) → HasHead exit ops count exit_text rest
    has_head count rest fourth =
        let a = exit_takes exit_text exit ops_text second in
        let b = named_takes (codes "ops ") 0 1000000000 ops_text ops regions_text third in
        let c = named_takes (codes "regions ") 1 524288 regions_text count rest fourth in
        record {
          exit_fits = a.1;
          few_ops = b.2;
          some = c.1;
          few = c.2;
          cut = a.0 ∙ ap (λ l. named_line (codes "exit ") (signed_decimal exit) ++ l) (b.0 ∙ ap (λ l. named_line (codes "ops ") (decimal ops) ++ l) c.0)
              ∙ sym (head_parts exit ops count rest);
          leads = λ format. head_leads format exit ops count a.1 b.2 c.1 c.2;
        }

-- no line with the number of entries
pub no_entries : (regions : List Region) (text : List ℕ) → named_at (codes "entries ") 1 1048576 text ≡ None
    → (count : ℕ) (later : List ℕ) → IsClosed (last_of regions) → 1 ≤ count → count ≤ 1048576 → text ≢ named_line (codes "entries ") (decimal count) ++ later
no_entries regions text none count later closed some few is = none-some (count, later)
    (sym none ∙ ap (named_at (codes "entries ") 1 1048576) is ∙ named_again (codes "entries ") 1 1048576 count later some few (omega arith))
