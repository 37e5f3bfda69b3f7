-- Entries of one dictionary added to another, one by one.
use Rattle.std.proofs.Common.{◌≡◌, ℕ, suc, ◌+◌, ◌^◌, ◌<◌, ◌⊎◌, inl, inr, List, [], ◌∷◌, ◌++◌, length, get_or, Result, Ok, Err, Some, slice_get, refl, sym, ap, ◌∙◌, subst, arith, append-nil, append_assoc, length-append}
use Rattle.std.proofs.lemmas.List.{get_or_append_left, get_or_at}
use Rattle.std.proofs.lemmas.Bool.{cases_lt}
use Rattle.k_dict_entries.specs.Dictionary.{refusal}
use Rattle.k_dict_entries.specs.Entries.{AreInterned, AreRuns, NameBelow, NameEarlier}
use Rattle.k_dict_entries.specs.Gathering.{number_of, with_entry}
use Rattle.k_dict_entries.specs.Interning.{CanIntern, Interns}
use Rattle.k_dict_entries.specs.Tallies.{count_of, counted, total}
use Rattle.k_dict_entries.specs.declared.dict.DictFault.{DictFault}
use Rattle.k_dict_entries.specs.declared.dict.DictFault.TheVariants.{Full, Memory}
use Rattle.k_dict_entries.specs.declared.dict.Which.TheVariants.{Entries, AllRuns}
use Rattle.k_dict_entries.specs.declared.entry.Entry.{Entry}
use Rattle.k_dict_entries.specs.declared.entry.Run.{Run}
use Rattle.k_dict_entries.proofs.Counting.{AreRuns-counted}
use Rattle.k_dict_entries.proofs.EntryTrees.{below_bound}
use Rattle.k_dict_entries.proofs.Numbers.{is_in_or_absent, with_absent, with_there}
use Rattle.k_dict_entries.proofs.Places.{place_behind, place_of_push}
use Rattle.k_dict_entries.proofs.Sound.{count_of-total, longer, number_is, refusal_goes_on, refused_entries, refused_runs, total-counted}
use Rattle.k_dict_entries.proofs.Walking.{has_added}
use Rattle.k_dict_saved.specs.Migration.{HaveFewChildren, renumbered, renumbered_entry}
use Rattle.k_sum.specs.Joining.{AreKnown, GoesOn, Joined, JoinsAll, JoinsOne, counted_all, joined, with_all, with_one}

-- ---- counting children

-- so many children more can be counted
pub fits : (n most : ℕ) (tally rest later : List Run) (run : Run) → total tally + total rest ≡ most → rest ≡ run ∷ later → most < 2 ^ 64
    → count_of n tally + run.count < 2 ^ 64
fits n most tally rest later run sum is few =
    let here = count_of-total n tally in let parts : total rest ≡ run.count + total later = ap total is in omega arith

-- what is counted and what is left are what there is
pub sum_more : (n most : ℕ) (tally new rest later : List Run) (run : Run) → total tally + total rest ≡ most → rest ≡ run ∷ later
    → new ≡ counted n run.count tally → total new + total later ≡ most
sum_more n most tally new rest later run sum is added =
    let parts : total rest ≡ run.count + total later = ap total is in
    let more = total-counted n run.count tally in
    let same : total new ≡ total (counted n run.count tally) = ap total added in omega arith

pub own_whole : (tally new rest later target : List Run) (run : Run) → counted_all rest tally ≡ target → rest ≡ run ∷ later
    → new ≡ counted run.entry run.count tally → counted_all later new ≡ target
own_whole tally new rest later target run whole is added =
    ap (counted_all later) added ∙ sym (ap (λ l. counted_all l tally) is) ∙ whole

pub numbered_whole : (numbers : List ℕ) (n : ℕ) (tally new rest later target : List Run) (run : Run) → renumbered numbers rest tally ≡ target → rest ≡ run ∷ later
    → n ≡ get_or numbers run.entry 0 → new ≡ counted n run.count tally → renumbered numbers later new ≡ target
numbered_whole numbers n tally new rest later target run whole is number added =
    ap (renumbered numbers later) (added ∙ ap (λ k. counted k run.count tally) number) ∙ sym (ap (λ l. renumbered numbers l tally) is) ∙ whole

pub below_more : (high : ℕ) (rest later : List Run) (run : Run) → NameBelow high rest → rest ≡ run ∷ later → (run.entry < high) × NameBelow high later
below_more high rest later run below is =
    let P : List Run → Type 0 = NameBelow high in let both = subst P is below in (both.0, both.2)

pub total-renumbered : (numbers : List ℕ) (runs so_far : List Run) → total (renumbered numbers runs so_far) ≡ total runs + total so_far
total-renumbered numbers [] so_far = omega arith
total-renumbered numbers (run ∷ runs) so_far =
    let n : ℕ = get_or numbers run.entry 0 in
    let rest = total-renumbered numbers runs (counted n run.count so_far) in let one = total-counted n run.count so_far in omega arith

pub total-all : (runs so_far : List Run) → total (counted_all runs so_far) ≡ total runs + total so_far
total-all [] so_far = omega arith
total-all (run ∷ runs) so_far =
    let rest = total-all runs (counted run.entry run.count so_far) in let one = total-counted run.entry run.count so_far in omega arith

-- counted children are runs of entries
pub rise : (numbers : List ℕ) (high : ℕ) → AreKnown high numbers → (runs so_far : List Run) → NameBelow (length numbers) runs → AreRuns 0 high so_far
    → AreRuns 0 high (renumbered numbers runs so_far)
rise numbers high known [] so_far below are = are
rise numbers high known (run ∷ runs) so_far below are =
    let n : ℕ = get_or numbers run.entry 0 in
    rise numbers high known runs (counted n run.count so_far) below.2
    (AreRuns-counted 0 high n run.count so_far (omega arith) (known run.entry below.0) below.1 are)

pub rise_all : (high : ℕ) (runs so_far : List Run) → NameBelow high runs → AreRuns 0 high so_far → AreRuns 0 high (counted_all runs so_far)
rise_all high [] so_far below are = are
rise_all high (run ∷ runs) so_far below are =
    rise_all high runs (counted run.entry run.count so_far) below.2
    (AreRuns-counted 0 high run.entry run.count so_far (omega arith) below.0 below.1 are)

-- ---- one entry

pub can_join : (dict : List Entry) (numbers : List ℕ) (e d : Entry) → AreKnown (length dict) numbers → NameBelow (length numbers) e.runs
    → d ≡ renumbered_entry numbers e → CanIntern dict d
can_join dict numbers e d known below same =
    let P : Entry → Type 0 = CanIntern dict in subst P (sym same) (rise numbers (length dict) known e.runs [] below tt)

pub joins_one : (old new : List Entry) (numbers : List ℕ) (e d : Entry) (result : Result ℕ DictFault) → d ≡ renumbered_entry numbers e → AreInterned new
    → Interns old d result new → JoinsOne old numbers e result new
joins_one old new numbers e d (Ok n) same are has =
    let is = number_is old new d n are has in (is.0 ∙ ap (with_entry old) same, is.1 ∙ ap (number_of old) same)
joins_one old new numbers e d (Err (Full Entries)) same are full =
    let P : List Entry → Type 0 = AreInterned in
    let Q : Entry → Type 0 = λ x. refusal 0 0 (with_entry old x) ≡ Some Entries in
    (subst Q same (refused_entries old d (subst P full.2 are) full.0 full.1), full.2)
joins_one old new numbers e d (Err (Full AllRuns)) same are full =
    let P : List Entry → Type 0 = AreInterned in
    let Q : Entry → Type 0 = λ x. refusal 0 0 (with_entry old x) ≡ Some AllRuns in
    (subst Q same (refused_runs old d (subst P full.3 are) full.0 full.1 full.2), full.3)
joins_one old new numbers e d (Err Memory) same are kept = kept

pub all_fit : (tally start runs more : List Run) → tally ≡ counted_all runs start → start ≡ [] → total runs + total more < 2 ^ 64
    → total tally + total more < 2 ^ 64
all_fit tally start runs more is none few =
    let same : total tally ≡ total (counted_all runs start) = ap total is in
    let sum = total-all runs start in
    let zero_of : total start ≡ 0 = ap total none in omega arith

-- ---- all entries

goes_further : (one two three : List Entry) → GoesOn one two → GoesOn two three → GoesOn one three
goes_further one two three first second =
    (first.0 ++ second.0, second.1 ∙ ap (λ l. l ++ second.0) first.1 ∙ append_assoc one first.0 second.0)

pub one_goes_on : (dict : List Entry) (d : Entry) → GoesOn dict (with_entry dict d)
one_goes_on dict d = let added = has_added dict d in (added.more, added.kept)

pub all_go_on : (j : Joined) (entries : List Entry) → GoesOn j.dict (with_all j entries).dict
all_go_on j [] = ([], sym (append-nil j.dict))
all_go_on j (e ∷ entries) =
    goes_further j.dict (with_one j e).dict (with_all (with_one j e) entries).dict (one_goes_on j.dict (renumbered_entry j.numbers e)) (all_go_on (with_one j e) entries)

pub known_one : (dict : List Entry) (numbers : List ℕ) (d : Entry) → AreKnown (length dict) numbers
    → AreKnown (length (with_entry dict d)) (numbers ++ number_of dict d ∷ [])
known_one dict numbers d known n less =
    let count = length-append numbers (number_of dict d ∷ []) in
    let more = longer dict d in
    let is : (n < length numbers) ⊎ (n ≡ length numbers) = elim (cases_lt n (length numbers)) [ inl k ↦ inl k | inr k ↦ inr (omega arith) ] in
    let P : ℕ → Type 0 = λ m. m < length (with_entry dict d) in
    elim is [
      | inl k ↦ (let low = known n k in
          subst P (sym (get_or_append_left numbers (number_of dict d ∷ []) 0 n k)) (omega arith))
      | inr k ↦ subst P (sym (get_or_at numbers (number_of dict d) [] 0 n (sym k))) more.1
    ]

pub known_all : (j : Joined) (entries : List Entry) → AreKnown (length j.dict) j.numbers → AreKnown (length (with_all j entries).dict) (with_all j entries).numbers
known_all j [] known = known
known_all j (e ∷ entries) known = known_all (with_one j e) entries (known_one j.dict j.numbers (renumbered_entry j.numbers e) known)

pub count_all : (j : Joined) (entries : List Entry) → length (with_all j entries).numbers ≡ length j.numbers + length entries
count_all j [] = omega arith
count_all j (e ∷ entries) =
    let rest = count_all (with_one j e) entries in
    let one = length-append j.numbers (number_of j.dict (renumbered_entry j.numbers e) ∷ []) in omega arith

few_one : (dict : List Entry) (d : Entry) → HaveFewChildren dict → total d.runs < 2 ^ 64 → HaveFewChildren (with_entry dict d)
few_one dict d few small =
    let P : List Entry → Type 0 = HaveFewChildren in
    elim (is_in_or_absent dict d) [
      | inl there ↦ subst P (sym (with_there dict d there.0 there.1)) few
      | inr absent ↦ subst P (sym (with_absent dict d absent)) by
    ]
  where
    by : HaveFewChildren (dict ++ d ∷ [])
    by n x at = elim (place_of_push dict d n x at) [
      | inl k ↦ few n x k
      | inr k ↦ (let P : Entry → Type 0 = λ y. total y.runs < 2 ^ 64 in subst P (sym k.1) small)
    ]

pub few_all : (j : Joined) (entries : List Entry) → HaveFewChildren j.dict → HaveFewChildren entries → HaveFewChildren (with_all j entries).dict
few_all j [] few more = few
few_all j (e ∷ entries) few more =
    let same = total-renumbered j.numbers e.runs [] in let small = more 0 e refl in
    few_all (with_one j e) entries (few_one j.dict (renumbered_entry j.numbers e) few (omega arith)) (λ n d at. more (suc n) d at)

-- where the adding of entries stands: those before these are added
pub record Joining (first entries rest dict : List Entry) (numbers : List ℕ) : Type 0 where
  pub before : List Entry
  pub cut : entries ≡ before ++ rest
  pub count : length numbers ≡ length before
  pub whole : with_all (record { dict = dict; numbers = numbers }) rest ≡ joined first entries
  pub known : AreKnown (length dict) numbers
  pub goes_on : GoesOn first dict

pub joining_start : (first entries : List Entry) (numbers : List ℕ) → numbers ≡ [] → Joining first entries entries first numbers
joining_start first entries numbers none =
    let P : List ℕ → Type 0 = Joining first entries entries first in
    subst P (sym none) (record {
      before = [];
      cut = refl;
      count = refl;
      whole = refl;
      known = λ n less. absurd (omega arith);
      goes_on = ([], sym (append-nil first));
    })

module _ (first entries rest later dict : List Entry) (numbers : List ℕ) (e : Entry) (at : Joining first entries rest dict numbers) (is : rest ≡ e ∷ later) where
  place : slice_get entries (length at.before) ≡ Some e
  place = let P : List Entry → Type 0 = λ l. slice_get l (length at.before) ≡ Some e in
      subst P (sym (at.cut ∙ ap (λ l. at.before ++ l) is)) (place_behind at.before e later)

  pub next_below : NameEarlier entries → NameBelow (length numbers) e.runs
  next_below earlier =
      let P : ℕ → Type 0 = λ n. NameBelow n e.runs in
      subst P (sym at.count) (below_bound 0 (length at.before) e.runs (earlier (length at.before) e place))

  pub next_few : HaveFewChildren entries → total e.runs < 2 ^ 64
  next_few few = few (length at.before) e place

  abbrev so_far : Joined
  so_far = record { dict = dict; numbers = numbers }

  whole_next : with_all (with_one so_far e) later ≡ joined first entries
  whole_next = sym (ap (with_all so_far) is) ∙ at.whole

  abbrev d : Entry
  d = renumbered_entry numbers e

  next : Joining first entries later (with_entry dict d) (numbers ++ number_of dict d ∷ [])
  next = record {
    before = at.before ++ e ∷ [];
    cut = at.cut ∙ ap (λ l. at.before ++ l) is ∙ sym (append_assoc at.before (e ∷ []) later);
    count = length-append numbers (number_of dict d ∷ []) ∙ ap (λ k. k + 1) at.count ∙ sym (length-append at.before (e ∷ []));
    whole = whole_next;
    known = known_one dict numbers d at.known;
    goes_on = goes_further first dict (with_entry dict d) at.goes_on (one_goes_on dict d);
  }

  pub joining_more : (new : List Entry) (n : ℕ) (numbers' : List ℕ) → JoinsOne dict numbers e (Ok n) new → numbers' ≡ numbers ++ n ∷ []
      → Joining first entries later new numbers'
  joining_more new n numbers' has pushed =
      let all : numbers' ≡ numbers ++ number_of dict d ∷ [] = pushed ∙ ap (λ k. numbers ++ k ∷ []) has.1 in
      let P : List ℕ → Type 0 = Joining first entries later new in
      let Q : List Entry → Type 0 = λ l. Joining first entries later l (numbers ++ number_of dict d ∷ []) in
      subst P (sym all) (subst Q (sym has.0) next)

  pub goes_on_unpushed : (new : List Entry) (n : ℕ) → JoinsOne dict numbers e (Ok n) new → GoesOn first new
  goes_on_unpushed new n has = let P : List Entry → Type 0 = GoesOn first in subst P (sym has.0) next.goes_on

  pub joining_refused : (fault : DictFault) (new : List Entry) → JoinsOne dict numbers e (Err fault) new → JoinsAll first entries (Err fault) new
  joining_refused (Full which) new full =
      let P : List Entry → Type 0 = GoesOn first in
      let Q : Joined → Type 0 = λ j. refusal 0 0 j.dict ≡ Some which in (
        subst Q whole_next (refusal_goes_on (with_entry dict d) (with_all (with_one so_far e) later).dict which (all_go_on (with_one so_far e) later) full.0),
        subst P (sym full.1) at.goes_on,
      )
  joining_refused Memory new full = let P : List Entry → Type 0 = GoesOn first in subst P (sym full) at.goes_on

pub joining_done : (first entries rest dict : List Entry) (numbers : List ℕ) → Joining first entries rest dict numbers → rest ≡ []
    → JoinsAll first entries (Ok numbers) dict
joining_done first entries rest dict numbers at none =
    let all : at.before ≡ entries = sym (at.cut ∙ ap (λ l. at.before ++ l) none ∙ append-nil at.before) in
    (sym at.whole ∙ ap (with_all (record { dict = dict; numbers = numbers })) none, at.known, at.count ∙ ap length all, at.goes_on)
