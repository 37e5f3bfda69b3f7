-- The lines up to the regions, one by one.
use Rattle.std.proofs.Common.{◌≡◌, ◌≢◌, ℕ, ℤ, ◌+◌, ◌-◌, ◌*◌, ◌<◌, ◌≤◌, inl, inr, true, List, [], ◌∷◌, ◌++◌, length, Option, Some, None, Err, refl, sym, ap, ◌∙◌, subst, append-nil, append_assoc, length-append, arith, int_lt}
use Rattle.std.specs.Prelude.{codes, option_map}
use Rattle.std.specs.Fmt.{decimal}
use Rattle.std.proofs.lemmas.Cmp.{int_cmp_total}
use Rattle.std.proofs.lemmas.Option.{none-some, same_Some}
use Rattle.k_dict_saved.specs.Syntax.{named_at}
use Rattle.k_dict_saved.specs.declared.reading.stop.Halt.{Halt}
use Rattle.k_dict_saved.specs.declared.reading.stop.Halt.TheVariants as halts
use Rattle.k_dict_saved.proofs.Spelled.{named_again, named_takes}
use Rattle.k_scan.specs.Pieces.{Finds, word_at}
use Rattle.k_scan.proofs.Front.{word_again, word_takes}
use Rattle.k_sum.specs.Exits as ends
use Rattle.k_sum.specs.SumText.{exit_line}
use Rattle.k_sum.specs.declared.exits.Exit.{Exit}
use Rattle.k_sum.proofs.Counting.{cmp-less}
use Rattle.k_sum_read.specs.Reading.{AllExits, AreCounts, FoundHead, FoundOps, LastIsLower, NextExit, Reaches, head_of}
use Rattle.k_sum_saved.specs.SumRules.{AreBehind}
use Rattle.k_sum_read.specs.declared.head.Counts.{Counts as CountsValue}
use Rattle.k_sum_read.proofs.Leading.{at_once, reaches_line, reaches_on, wrong_behind, wrong_here}
use Rattle.k_sum_saved.specs.ExitLine.{exit_line_at}
use Rattle.k_sum_saved.specs.SumLines.{AreLower, Counted, Follows, GoesWrong, Head, InExits, IsNextExit, Named, Opened, Stage, Told}
use Rattle.k_sum_saved.proofs.OneReading.{exit_line_again, exit_line_takes}
use Rattle.k_sum_saved.proofs.Rising.{less_lt, total_more}
use Rattle.k_text.specs.Texts.{named_line}

-- ---- the lines up to the exit values

-- no first line
pub no_first : (text : List ℕ) → word_at (codes "kremlin sum 1\n") text ≡ None → GoesWrong Opened text (length text)
no_first text none = wrong_here Opened text (record { no_line = at; no_end = λ whole is. whole })
  where
    at : (line later : List ℕ) (next : Stage) → Follows Opened line next → text ≢ line ++ later
    at line later next one is =
        none-some later (sym none ∙ ap (word_at (codes "kremlin sum 1\n")) (is ∙ ap (λ l. l ++ later) one.0) ∙ word_again (codes "kremlin sum 1\n") later)

-- the first line
pub first_reaches : (text rest : List ℕ) → word_at (codes "kremlin sum 1\n") text ≡ Some rest → Reaches Opened text Named rest
first_reaches text rest found = reaches_line Opened text (codes "kremlin sum 1\n") Named rest (refl, refl) (word_takes (codes "kremlin sum 1\n") text rest found)

module _ (text runs_text : List ℕ) (first : word_at (codes "kremlin sum 1\n") text ≡ Some runs_text) where
  -- no line of how many runs there were
  pub no_runs : named_at (codes "runs ") 1 4294967295 runs_text ≡ None → GoesWrong Opened text (length runs_text)
  no_runs none =
      wrong_behind Opened text Named runs_text (length runs_text) (first_reaches text runs_text first)
      (wrong_here Named runs_text (record { no_line = at; no_end = λ whole is. whole }))
    where
      at : (line later : List ℕ) (next : Stage) → Follows Named line next → runs_text ≢ line ++ later
      at line later next one is = none-some (one.0, later)
          (sym none ∙ ap (named_at (codes "runs ") 1 4294967295) (is ∙ ap (λ l. l ++ later) one.3)
          ∙ named_again (codes "runs ") 1 4294967295 one.0 later one.1 one.2 (omega arith))

  module _ (runs : ℕ) (exits_text : List ℕ) (second : named_at (codes "runs ") 1 4294967295 runs_text ≡ Some (runs, exits_text)) where
    pub runs_reach : Reaches Opened text (Counted runs) exits_text
    runs_reach =
        let takes = named_takes (codes "runs ") 1 4294967295 runs_text runs exits_text second in
        reaches_on Opened text Named runs_text (Counted runs) exits_text (first_reaches text runs_text first)
        (reaches_line Named runs_text (named_line (codes "runs ") (decimal runs)) (Counted runs) exits_text (runs, takes.1, takes.2, refl, refl) takes.0)

    -- no line of how many exit values there are
    pub no_exits : named_at (codes "exits ") 1 runs exits_text ≡ None → GoesWrong Opened text (length exits_text)
    no_exits none =
        let takes = named_takes (codes "runs ") 1 4294967295 runs_text runs exits_text second in
        wrong_behind Opened text (Counted runs) exits_text (length exits_text) runs_reach
        (wrong_here (Counted runs) exits_text (record { no_line = at takes.2; no_end = λ whole is. whole }))
      where
        at : runs ≤ 4294967295 → (line later : List ℕ) (next : Stage) → Follows (Counted runs) line next → exits_text ≢ line ++ later
        at most line later next one is = none-some (one.0, later)
            (sym none ∙ ap (named_at (codes "exits ") 1 runs) (is ∙ ap (λ l. l ++ later) one.3)
            ∙ named_again (codes "exits ") 1 runs one.0 later one.1 one.2 (omega arith))

    pub counts_reach : (count : ℕ) (rest : List ℕ) → named_at (codes "exits ") 1 runs exits_text ≡ Some (count, rest)
        → Reaches Opened text (InExits runs count []) rest × (1 ≤ runs) × (runs ≤ 4294967295) × (1 ≤ count) × (count ≤ runs)
    counts_reach count rest third =
        let two = named_takes (codes "runs ") 1 4294967295 runs_text runs exits_text second in
        let takes = named_takes (codes "exits ") 1 runs exits_text count rest third in (
          reaches_on Opened text (Counted runs) exits_text (InExits runs count []) rest runs_reach
              (reaches_line (Counted runs) exits_text (named_line (codes "exits ") (decimal count)) (InExits runs count []) rest (count, takes.1, takes.2, refl, refl) takes.0),
          two.1,
          two.2,
          takes.1,
          takes.2,
        )

-- ---- exit values

lower_through : (n m k : ℤ) → int_lt n m ≡ true → int_lt m k ≡ true → int_lt n k ≡ true
lower_through n m k one other = less_lt n k (int_cmp_total.trans n m k (cmp-less n m one) (cmp-less m k other))

lower_push : (exits : List Exit) (x : Exit) (value : ℤ) → AreLower exits x.value → int_lt x.value value ≡ true → AreLower (exits ++ x ∷ []) value
lower_push [] x value low last = (last, tt)
lower_push (y ∷ exits) x value low last = (lower_through y.value x.value value low.0 last, lower_push exits x value low.1 last)

-- one that is higher than the last is higher than all
lower_from : (runs : ℕ) (before : List Exit) (x : Exit) (more : List Exit) (value : ℤ) → AreBehind runs before (x ∷ more) → LastIsLower (x ∷ more) value
    → AreLower (before ++ x ∷ more) value
lower_from runs before x [] value are last = lower_push before x value are.0.rise (last [] x refl)
lower_from runs before x (y ∷ more) value are last =
    let P : List Exit → Type 0 = λ l. AreLower l value in
    subst P (append_assoc before (x ∷ []) (y ∷ more))
    (lower_from runs (before ++ x ∷ []) y more value are.1 (λ b z is. last (x ∷ b) z (ap (λ l. x ∷ l) is)))

pub lower_all : (runs : ℕ) (exits : List Exit) (value : ℤ) → AreBehind runs [] exits → LastIsLower exits value → AreLower exits value
lower_all runs [] value are last = tt
lower_all runs (x ∷ exits) value are last = lower_from runs [] x exits value are last

-- and one that is higher than all is higher than the last
pub last_lower : (exits : List Exit) (value : ℤ) → AreLower exits value → LastIsLower exits value
last_lower exits value low before x is = by before (let P : List Exit → Type 0 = λ l. AreLower l value in subst P is low)
  where
    by : (l : List Exit) → AreLower (l ++ x ∷ []) value → int_lt x.value value ≡ true
    by [] low = low.0
    by (y ∷ l) low = by l low.1

-- the exit values with one more
pub behind_more : (runs : ℕ) (before exits : List Exit) (x : Exit) → AreBehind runs before exits → IsNextExit runs (before ++ exits) x → AreBehind runs before (exits ++ x ∷ [])
behind_more runs before [] x are next = let P : List Exit → Type 0 = λ l. IsNextExit runs l x in (subst P (append-nil before) next, tt)
behind_more runs before (y ∷ exits) x are next =
    let P : List Exit → Type 0 = λ l. IsNextExit runs l x in
    (are.0, behind_more runs (before ++ y ∷ []) exits x are.1 (subst P (sym (append_assoc before (y ∷ []) exits)) next))

module _ (runs total : ℕ) (exits : List Exit) (text : List ℕ) (most : runs ≤ 4294967295) (total_is : total ≡ ends.total exits) (few : total ≤ runs) (are : AreBehind runs [] exits) where
  -- no line of an exit value stands there
  pub no_exit_line : exit_line_at text ≡ None → (x : Exit) (later : List ℕ) → IsNextExit runs exits x → text ≢ exit_line x ++ later
  no_exit_line none x later next is = none-some (x, later) (sym none ∙ ap exit_line_at is ∙ exit_line_again runs exits x later most next)

  module _ (x : Exit) (rest : List ℕ) (read : exit_line_at text ≡ Some (x, rest)) where
    -- that of one that may not stand there
    pub other_exit_line : ((LastIsLower exits x.value × (1 ≤ x.runs) × (x.runs ≤ runs - total)) → ⊥) → (y : Exit) (later : List ℕ) → IsNextExit runs exits y
        → text ≢ exit_line y ++ later
    other_exit_line not_here y later next is =
        let pair = same_Some (x, rest) (y, later) (sym read ∙ ap exit_line_at is ∙ exit_line_again runs exits y later most next) in
        let P : Exit → Type 0 = λ z. LastIsLower exits z.value × (1 ≤ z.runs) × (z.runs ≤ runs - total) in
        let within = next.few in let told = total_is in let low = few in
        not_here (subst P (sym (ap (λ p. p.0) pair)) (last_lower exits y.value next.rise, next.some, omega arith))

    -- that of one that may
    pub next_exit_line : (LastIsLower exits x.value × (1 ≤ x.runs) × (x.runs ≤ runs - total)) → IsNextExit runs exits x × (text ≡ exit_line x ++ rest)
    next_exit_line here =
        let takes = exit_line_takes text x rest read in
        let within = here.2 in let told = total_is in let low = few in
        (record { value = takes.1; rise = lower_all runs exits x.value are here.0; some = here.1; few = omega arith }, takes.0)

-- where the reading of exit values stands
pub record AtExits (runs count : ℕ) (text rest : List ℕ) (exits : List Exit) (total : ℕ) : Type 0 where
  pub reach : Reaches (InExits runs count []) text (InExits runs count exits) rest
  pub few : length exits ≤ count
  pub total_is : total ≡ ends.total exits
  pub within : total ≤ runs
  pub are : AreBehind runs [] exits

-- before the first
pub exits_start : (runs count : ℕ) (text : List ℕ) (exits : List Exit) → exits ≡ [] → AtExits runs count text text exits 0
exits_start runs count text exits none =
    let P : List Exit → Type 0 = λ l. AtExits runs count text text l 0 in
    subst P (sym none) (record { reach = at_once (InExits runs count []) text; few = omega arith; total_is = refl; within = omega arith; are = tt })

module _ (runs count : ℕ) (text rest : List ℕ) (exits : List Exit) (total : ℕ) (at : AtExits runs count text rest exits total) (less : length exits < count) where
  -- behind one more
  pub exits_more : (x : Exit) (behind : List ℕ) (new : List Exit) (sum : ℕ) → NextExit runs exits rest (Some (x, behind)) → new ≡ exits ++ x ∷ [] → sum ≡ total + x.runs
      → AtExits runs count text behind new sum
  exits_more x behind new sum next is sum_is =
      let P : List Exit → Type 0 = λ l. AtExits runs count text behind l sum in
      let few = next.0.few in let told = at.total_is in let more = total_more exits x in
      let longer = length-append exits (x ∷ []) in
      let line : Follows (InExits runs count exits) (exit_line x) (InExits runs count (exits ++ x ∷ [])) =
      inl (record { exit = x; few = less; right = next.0; line_is = refl; next_is = refl }) in
      subst P (sym is) (record {
        reach = reaches_on (InExits runs count []) text (InExits runs count exits) rest (InExits runs count (exits ++ x ∷ [])) behind at.reach
            (reaches_line (InExits runs count exits) rest (exit_line x) (InExits runs count (exits ++ x ∷ [])) behind line next.1);
        few = omega arith;
        total_is = omega arith;
        within = omega arith;
        are = behind_more runs [] exits x at.are next.0;
      })

  -- where no exit value's line stands
  pub wrong_exit : (left : ℕ) → left ≡ length rest → NextExit runs exits rest None → GoesWrong (InExits runs count []) text left
  wrong_exit left left_is none =
      let P : ℕ → Type 0 = GoesWrong (InExits runs count []) text in
      subst P (sym left_is) (wrong_behind (InExits runs count []) text (InExits runs count exits) rest (length rest) at.reach
      (wrong_here (InExits runs count exits) rest (record { no_line = here; no_end = λ whole is. whole })))
    where
      here : (line later : List ℕ) (next : Stage) → Follows (InExits runs count exits) line next → rest ≢ line ++ later
      here line later next (inl one) is = none one.exit later one.right (is ∙ ap (λ l. l ++ later) one.line_is)
      here line later next (inr other) is = let all = other.all in let low = less in absurd (omega arith)

-- ---- the line of operations

-- no line of operations
pub no_ops : (runs total : ℕ) (text : List ℕ) → runs ≤ 4294967295 → named_at (codes "ops ") 0 (1000000000 * runs) text ≡ None → FoundOps runs total text None
no_ops runs total text most none ops later whole few is = none-some (ops, later)
    (sym none ∙ ap (named_at (codes "ops ") 0 (1000000000 * runs)) is ∙ named_again (codes "ops ") 0 (1000000000 * runs) ops later (omega arith) few (omega arith))

-- the line of operations
pub some_ops : (runs total : ℕ) (text : List ℕ) → total ≡ runs → (ops : ℕ) (rest : List ℕ) → named_at (codes "ops ") 0 (1000000000 * runs) text ≡ Some (ops, rest)
    → FoundOps runs total text (Some (ops, rest))
some_ops runs total text whole ops rest found =
    let takes = named_takes (codes "ops ") 0 (1000000000 * runs) text ops rest found in (whole, takes.2, takes.0)

-- what a call found of it
pub ops_found : {X : Type 0} (view : X → ℕ × List ℕ) (runs total : ℕ) (text : List ℕ) → runs ≤ 4294967295 → total ≡ runs → (r : Option X)
    → Finds view r (named_at (codes "ops ") 0 (1000000000 * runs) text) → FoundOps runs total text (option_map view r)
ops_found view runs total text most whole None finds = no_ops runs total text most finds
ops_found view runs total text most whole (Some x) finds = some_ops runs total text whole (view x).0 (view x).1 finds

-- exit values of fewer runs, or of more
pub other_total : (runs total : ℕ) (text : List ℕ) → (total ≡ runs → ⊥) → FoundOps runs total text None
other_total runs total text other ops later whole few is = absurd (other whole)

module _ (text exit_text : List ℕ) (runs count : ℕ)
    (found : Reaches Opened text (InExits runs count []) exit_text × (1 ≤ runs) × (runs ≤ 4294967295) × (1 ≤ count) × (count ≤ runs)) where
  -- wrong among the exit values
  wrong_in_exits : (left : ℕ) → GoesWrong (InExits runs count []) exit_text left → GoesWrong Opened text left
  wrong_in_exits left wrong = wrong_behind Opened text (InExits runs count []) exit_text left found.0 wrong

  -- what a refusal among them says
  pub refused_exits : (halt : Halt) → AllExits runs count exit_text (Err halt) → FoundHead text (Err halt)
  refused_exits (halts.Wrong left) wrong = wrong_in_exits left wrong
  refused_exits halts.Memory wrong = tt

  module _ (exits : List Exit) (total : ℕ) (ops_text : List ℕ)
      (all : Reaches (InExits runs count []) exit_text (InExits runs count exits) ops_text × (length exits ≡ count) × (total ≡ ends.total exits) × AreBehind runs [] exits) where
    -- wrong behind them
    pub wrong_at_ops : FoundOps runs total ops_text None → GoesWrong Opened text (length ops_text)
    wrong_at_ops none =
        wrong_in_exits (length ops_text) (wrong_behind (InExits runs count []) exit_text (InExits runs count exits) ops_text (length ops_text) all.0
        (wrong_here (InExits runs count exits) ops_text (record { no_line = here; no_end = λ whole is. whole })))
      where
        here : (line later : List ℕ) (next : Stage) → Follows (InExits runs count exits) line next → ops_text ≢ line ++ later
        here line later next (inl one) is = let few = one.few in let same = all.1 in absurd (omega arith)
        here line later next (inr other) is = none other.ops later (all.2 ∙ other.whole) other.few (is ∙ ap (λ l. l ++ later) other.line_is)

    -- the whole head
    pub head_found : (ops : ℕ) (rest : List ℕ) → FoundOps runs total ops_text (Some (ops, rest)) → (counts : CountsValue) → counts ≡ record { runs = runs; exits = exits; ops = ops }
        → Reaches Opened text (Told (head_of counts)) rest × AreCounts counts
    head_found ops rest line counts is =
        let told : Head = record { runs = runs; exits = exits; ops = ops } in
        let whole : ends.total exits ≡ runs = sym all.2 ∙ line.0 in
        let follows : Follows (InExits runs count exits) (named_line (codes "ops ") (decimal ops)) (Told told) =
        inr (record { ops = ops; all = all.1; whole = whole; few = line.1; line_is = refl; next_is = refl }) in
        let P : CountsValue → Type 0 = λ c. Reaches Opened text (Told (head_of c)) rest × AreCounts c in
        let count_is = all.1 in let some = found.3 in let few = found.4 in
        subst P (sym is) (
          reaches_on Opened text (InExits runs count []) exit_text (Told told) rest found.0
              (reaches_on (InExits runs count []) exit_text (InExits runs count exits) ops_text (Told told) rest all.0
              (reaches_line (InExits runs count exits) ops_text (named_line (codes "ops ") (decimal ops)) (Told told) rest follows line.2)),
          record {
            some = found.1;
            few = found.2;
            exits = record { some = omega arith; few = omega arith; each = all.3; whole = whole };
            ops = line.1;
          },
        )
