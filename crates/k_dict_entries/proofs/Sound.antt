-- What a gathering keeps: its numbers are small enough, and its children are runs of its entries.
use Rattle.std.proofs.Common.{◌≡◌, ℕ, suc, ◌+◌, ◌-◌, ◌^◌, ◌<◌, ◌≤◌, ◌⊎◌, inl, inr, List, [], ◌∷◌, ◌++◌, length, Some, Ok, Err, slice_get, Contains, refl, sym, ap, ◌∙◌, subst, arith, zero, append-nil, append_assoc, length-append}
use Rattle.std.proofs.lemmas.Bool.{cases_order}
use Rattle.std.proofs.lemmas.Option.{slice_get_within}
use Rattle.k_dict_entries.proofs.Machine.{closed_to-first}
use Rattle.k_optab.specs.declared.node.Node.{Node}
use Rattle.k_dict_entries.specs.Dictionary.{refusal}
use Rattle.k_dict_entries.specs.Entries.{AreRuns, AreInterned, all_runs}
use Rattle.k_dict_entries.specs.Gathering.{CanCount, HaveRuns, IsSound, Leads, LeadsTo, State, closed, closed_of, closed_times, closed_to, number_of, opened, summary, taken, weight, with_child, with_entry}
use Rattle.k_dict_entries.specs.Interning.{HasNumber, Interns}
use Rattle.k_dict_entries.specs.Tallies.{count_of, counted, total}
use Rattle.k_dict_entries.specs.declared.entry.Entry.{Entry}
use Rattle.k_dict_entries.specs.declared.entry.Run.{Run}
use Rattle.k_dict_entries.specs.declared.gathering.Level.{Level}
use Rattle.k_dict_entries.specs.declared.dict.DictFault.{DictFault}
use Rattle.k_dict_entries.specs.declared.dict.DictFault.TheVariants.{Full, Memory}
use Rattle.k_dict_entries.specs.declared.dict.Which.{Which}
use Rattle.k_dict_entries.specs.declared.dict.Which.TheVariants.{Entries, AllRuns}
use Rattle.k_dict_entries.proofs.Counting.{counted-at, counted-before, counted-behind, AreRuns-counted}
use Rattle.k_dict_entries.proofs.Numbers.{IsAbsent, not_contained, number_absent, number_found, with_absent, with_there}
use Rattle.k_dict_entries.proofs.Places.{place_behind}
use Rattle.k_dict_entries.proofs.Refusals.{refusal-behind, refusal-entries, refusal-runs, refusal_stays}
use Rattle.k_dict_entries.proofs.Tallying.{count-here, count-before, count-behind}
use Rattle.k_dict_entries.proofs.Walking.{has_added}

pub total-counted : (n count : ℕ) (runs : List Run) → total (counted n count runs) ≡ count + total runs
total-counted n count [] = omega arith
total-counted n count (run ∷ runs) = elim (cases_order n run.entry) [
  | inl at ↦ (let is : total (counted n count (run ∷ runs)) ≡ (count + run.count) + total runs = ap total (counted-at n count run runs at) in omega arith)
  | inr order ↦ elim order [
    | inl before ↦ (let is : total (counted n count (run ∷ runs)) ≡ count + (run.count + total runs) = ap total (counted-before n count run runs before) in omega arith)
    | inr behind ↦ (let is : total (counted n count (run ∷ runs)) ≡ run.count + total (counted n count runs) = ap total (counted-behind n count run runs behind) in
        let rest = total-counted n count runs in omega arith)
  ]
]

pub count_of-total : (n : ℕ) (runs : List Run) → count_of n runs ≤ total runs
count_of-total n [] = omega arith
count_of-total n (run ∷ runs) = elim (cases_order n run.entry) [
  | inl at ↦ (let is = count-here n run runs at in omega arith)
  | inr order ↦ elim order [
    | inl before ↦ (let is = count-before n run runs before in omega arith)
    | inr behind ↦ (let is = count-behind n run runs behind in let rest = count_of-total n runs in omega arith)
  ]
]

pub AreRuns-wider : (low high more : ℕ) (runs : List Run) → high ≤ more → AreRuns low high runs → AreRuns low more runs
AreRuns-wider low high more [] wider are = tt
AreRuns-wider low high more (run ∷ runs) wider are =
    let below : run.entry < high = are.1 in (are.0, omega arith, are.2, AreRuns-wider (run.entry + 1) high more runs wider are.3)

HaveRuns-wider : (high more : ℕ) (levels : List Level) → high ≤ more → HaveRuns high levels → HaveRuns more levels
HaveRuns-wider high more [] wider have = tt
HaveRuns-wider high more (l ∷ levels) wider have =
    (AreRuns-wider 0 high more l.children wider have.0, HaveRuns-wider high more levels wider have.1)

HaveRuns-child : (high n : ℕ) (levels : List Level) → n < high → HaveRuns high levels → HaveRuns high (with_child n levels)
HaveRuns-child high n [] within have = tt
HaveRuns-child high n (l ∷ levels) within have = (AreRuns-counted 0 high n 1 l.children (omega arith) within (omega arith) have.0, have.1)

-- the entries with one more are at least as many, and it has a number among them
pub longer : (entries : List Entry) (e : Entry) → (length entries ≤ length (with_entry entries e)) × (number_of entries e < length (with_entry entries e))
longer entries e =
    let added = has_added entries e in
    let list : List Entry = with_entry entries e in
    let count : length list ≡ length entries + length added.more = ap length added.kept ∙ length-append entries added.more in
    let within = slice_get_within list (number_of list e) e (number_found list e added.there.0 added.there.1) in
    let same = added.number in (omega arith, omega arith)

weight-child : (n : ℕ) (levels : List Level) → weight (with_child n levels) ≤ 1 + weight levels
weight-child n [] = omega arith
weight-child n (l ∷ levels) = let more = total-counted n 1 l.children in omega arith

pub closed_weighs : (s : State) → weight (closed s).levels ≤ weight s.levels
closed_weighs s = by s.dict s.levels
  where
    by : (dict : List Entry) (levels : List Level) → weight (closed_of dict levels).levels ≤ weight levels
    by dict [] = omega arith
    by dict (l ∷ levels) = let child = weight-child (number_of dict (summary l)) levels in let P : weight (with_child (number_of dict (summary l)) levels) ≤ 1 + weight levels = child in omega arith

closed_runs : (dict : List Entry) (levels : List Level) → HaveRuns (length dict) levels → HaveRuns (length (closed_of dict levels).dict) (closed_of dict levels).levels
closed_runs dict [] have = tt
closed_runs dict (l ∷ levels) have =
    let more = longer dict (summary l) in
    HaveRuns-child (length (with_entry dict (summary l))) (number_of dict (summary l)) levels more.1
    (HaveRuns-wider (length dict) (length (with_entry dict (summary l))) levels more.0 have.1)

-- a gathering stays sound where the innermost open instance is closed
pub closed_sound : (s : State) → IsSound s → IsSound (closed s)
closed_sound s sound =
    let less = closed_weighs s in let small = sound.small in
    record { small = omega arith; runs = closed_runs s.dict s.levels sound.runs }

pub closed_times_sound : (n : ℕ) (s : State) → IsSound s → IsSound (closed_times n s)
closed_times_sound zero s sound = sound
closed_times_sound (suc n) s sound = closed_times_sound n (closed s) (closed_sound s sound)

pub closed_times_weighs : (n : ℕ) (s : State) → weight (closed_times n s).levels ≤ weight s.levels
closed_times_weighs zero s = omega arith
closed_times_weighs (suc n) s = let one = closed_weighs s in let rest = closed_times_weighs n (closed s) in omega arith

-- the entries go on
abbrev pub GoOn : List Entry → List Entry → Type 0
GoOn entries list = (more : List Entry) × (list ≡ entries ++ more)

GoOn-further : (one two three : List Entry) → GoOn one two → GoOn two three → GoOn one three
GoOn-further one two three first second =
    (first.0 ++ second.0, second.1 ∙ ap (λ l. l ++ second.0) first.1 ∙ append_assoc one first.0 second.0)

closed_goes_on : (s : State) → GoOn s.dict (closed s).dict
closed_goes_on s = by s.dict s.levels
  where
    by : (dict : List Entry) (levels : List Level) → GoOn dict (closed_of dict levels).dict
    by dict [] = ([], sym (append-nil dict))
    by dict (l ∷ levels) = let added = has_added dict (summary l) in (added.more, added.kept)

closed_times_goes_on : (n : ℕ) (s : State) → GoOn s.dict (closed_times n s).dict
closed_times_goes_on zero s = ([], sym (append-nil s.dict))
closed_times_goes_on (suc n) s =
    GoOn-further s.dict (closed s).dict (closed_times n (closed s)).dict (closed_goes_on s) (closed_times_goes_on n (closed s))

taken_goes_on : (nodes : List Node) (s : State) → GoOn s.dict (taken nodes s).dict
taken_goes_on [] s = ([], sym (append-nil s.dict))
taken_goes_on (n ∷ nodes) s =
    GoOn-further s.dict (closed_to n.depth s).dict (taken nodes (opened n (closed_to n.depth s))).dict (closed_times_goes_on (length s.levels - n.depth) s)
    (taken_goes_on nodes (opened n (closed_to n.depth s)))

-- a limit that is passed stays passed
pub refusal_goes_on : (entries list : List Entry) (w : Which) → GoOn entries list → refusal 0 0 entries ≡ Some w → refusal 0 0 list ≡ Some w
refusal_goes_on entries list w more h =
    let P : List Entry → Type 0 = λ l. refusal 0 0 l ≡ Some w in subst P (sym more.1) (refusal_stays 0 0 entries more.0 w h)

-- .. while instances are closed
pub refusal_closed : (depth : ℕ) (s : State) (w : Which) → depth < length s.levels → refusal 0 0 (closed s).dict ≡ Some w
    → refusal 0 0 (closed_to depth s).dict ≡ Some w
refusal_closed depth s w deep h =
    let P : State → Type 0 = λ k. refusal 0 0 k.dict ≡ Some w in
    subst P (sym (closed_to-first depth s deep))
    (refusal_goes_on (closed s).dict (closed_to depth (closed s)).dict w (closed_times_goes_on (length (closed s).levels - depth) (closed s)) h)

-- .. and while nodes follow
pub refusal_taken : (n : Node) (nodes : List Node) (s : State) (w : Which) → refusal 0 0 (closed_to n.depth s).dict ≡ Some w
    → refusal 0 0 (closed_to 0 (taken (n ∷ nodes) s)).dict ≡ Some w
refusal_taken n nodes s w h =
    let here : State = closed_to n.depth s in
    let last : State = taken nodes (opened n here) in
    refusal_goes_on here.dict (closed_to 0 last).dict w
    (GoOn-further here.dict last.dict (closed_to 0 last).dict (taken_goes_on nodes (opened n here)) (closed_times_goes_on (length last.levels - 0) last)) h

-- an entry with this number was there, or was added
pub number_is : (old new : List Entry) (e : Entry) (n : ℕ) → AreInterned new → HasNumber old new e n → (new ≡ with_entry old e) × (n ≡ number_of old e)
number_is old new e n are has = elim has.list [
  | inl there ↦ (let P : List Entry → Type 0 = λ l. slice_get l n ≡ Some e in
      let at : slice_get old n ≡ Some e = subst P there.1 has.at in
      let Q : List Entry → Type 0 = λ l. slice_get l (number_of old e) ≡ Some e in
      let number : slice_get new (number_of old e) ≡ Some e = subst Q (sym there.1) (number_found old e n at) in
      (there.1 ∙ sym (with_there old e n at), are.apart n (number_of old e) e has.at number))
  | inr added ↦ (let absent : IsAbsent old e = not_contained old e added.0 in
      let P : List Entry → Type 0 = λ l. slice_get l (length old) ≡ Some e in
      let last : slice_get new (length old) ≡ Some e = subst P (sym added.1) (place_behind old e []) in
      (added.1 ∙ sym (with_absent old e absent), are.apart n (length old) e has.at last ∙ sym (number_absent old e absent)))
]

-- too many entries
pub refused_entries : (entries : List Entry) (e : Entry) → AreInterned entries → ¬ Contains entries e → length entries ≡ 1048576
    → refusal 0 0 (with_entry entries e) ≡ Some Entries
refused_entries entries e are none full =
    let P : List Entry → Type 0 = λ l. refusal 0 0 l ≡ Some Entries in
    let few = are.few in let small = are.few_runs in
    subst P (sym (with_absent entries e (not_contained entries e none)))
    (refusal-behind 0 0 entries (e ∷ []) (omega arith) (omega arith) ∙ refusal-entries (0 + length entries) (0 + all_runs entries) e [] (omega arith))

-- too many runs
pub refused_runs : (entries : List Entry) (e : Entry) → AreInterned entries → ¬ Contains entries e → length entries < 1048576
    → 16777216 < all_runs entries + length e.runs → refusal 0 0 (with_entry entries e) ≡ Some AllRuns
refused_runs entries e are none room many =
    let P : List Entry → Type 0 = λ l. refusal 0 0 l ≡ Some AllRuns in
    let few = are.few in let small = are.few_runs in
    subst P (sym (with_absent entries e (not_contained entries e none)))
    (refusal-behind 0 0 entries (e ∷ []) (omega arith) (omega arith) ∙ refusal-runs (0 + length entries) (0 + all_runs entries) e [] (omega arith) (omega arith))

-- one more child of the next open instance does not pass the greatest count
pub can_count : (n : ℕ) (l : Level) (levels : List Level) → weight (l ∷ levels) < 2 ^ 64 → CanCount n levels
can_count n l [] small = tt
can_count n l (m ∷ levels) small = let some = count_of-total n m.children in omega arith

-- the innermost open instance is closed
pub closed_is : (dict new : List Entry) (levels rest after : List Level) (l : Level) (e : Entry) (n : ℕ) → levels ≡ l ∷ rest → e ≡ summary l
    → AreInterned new → HasNumber dict new e n → after ≡ with_child n rest
    → ◌≡◌ {A = State} (record { dict = new; levels = after }) (closed_of dict levels)
closed_is dict new levels rest after l e n is same are has child =
    let number = number_is dict new e n are has in
    let P : List Level → Type 0 = λ list. ◌≡◌ {A = State} (record { dict = new; levels = after }) (closed_of dict list) in
    subst P (sym is) (λ i. record {
      dict = (number.0 ∙ ap (with_entry dict) same) i;
      levels = (child ∙ ap (λ m. with_child m rest) (number.1 ∙ ap (number_of dict) same)) i;
    })

-- its entry is refused
pub closed_refused : (T : Type 0) (dict new : List Entry) (levels rest : List Level) (l : Level) (e : Entry) (fault : DictFault) (s : State)
    → levels ≡ l ∷ rest → e ≡ summary l → AreInterned new → Interns dict e (Err fault) new → Leads {T = T} (Err fault) s (closed_of dict levels)
closed_refused T dict new levels rest l e fault s is same are answer =
    let P : List Level → Type 0 = λ list. Leads {T = T} (Err fault) s (closed_of dict list) in
    let Q : Entry → Type 0 = λ d. Interns dict d (Err fault) new in
    subst P (sym is) (by fault (subst Q same answer))
  where
    kept : new ≡ dict → AreInterned dict
    kept same_list = let R : List Entry → Type 0 = AreInterned in subst R same_list are

    by : (fault : DictFault) → Interns dict (summary l) (Err fault) new → Leads {T = T} (Err fault) s (closed_of dict (l ∷ rest))
    by (Full Entries) h = refused_entries dict (summary l) (kept h.2) h.0 h.1
    by (Full AllRuns) h = refused_runs dict (summary l) (kept h.3) h.0 h.1 h.2
    by Memory h = tt

-- the refusal of a call stays one while instances are closed
pub leads_on : (T : Type 0) (fault : DictFault) (new : State) (depth : ℕ) (s first : State) → depth < length s.levels
    → closed_to depth s ≡ closed_to depth first → Leads {T = T} (Err fault) new (closed s) → Leads {T = T} (Err fault) new (closed_to depth first)
leads_on T (Full w) new depth s first deep is h =
    let P : State → Type 0 = λ k. refusal 0 0 k.dict ≡ Some w in subst P is (refusal_closed depth s w deep h)
leads_on T Memory new depth s first deep is h = tt

-- .. and while nodes follow
pub leads_to_on : (T : Type 0) (fault : DictFault) (new target : State) (n : Node) (all nodes : List Node) (s : State) → all ≡ n ∷ nodes
    → closed_to 0 (taken all s) ≡ target → Leads {T = T} (Err fault) new (closed_to n.depth s) → LeadsTo (Err fault) target
leads_to_on T (Full w) new target n all nodes s is whole h =
    let P : State → Type 0 = λ k. refusal 0 0 k.dict ≡ Some w in
    subst P (ap (λ l. closed_to 0 (taken l s)) (sym is) ∙ whole) (refusal_taken n nodes s w h)
leads_to_on T Memory new target n all nodes s is whole h = tt

-- behind the end of the last open instances
pub leads_at_end : (T : Type 0) (fault : DictFault) (new target : State) (s : State) → closed_to 0 s ≡ target
    → Leads {T = T} (Err fault) new (closed_to 0 s) → LeadsTo (Err fault) target
leads_at_end T (Full w) new target s is h = let P : State → Type 0 = λ k. refusal 0 0 k.dict ≡ Some w in subst P is h
leads_at_end T Memory new target s is h = tt

-- closed down to a depth, a gathering weighs no more, and its children stay runs of its entries
pub closed_to_weighs : (depth : ℕ) (s : State) → weight (closed_to depth s).levels ≤ weight s.levels
closed_to_weighs depth s = closed_times_weighs (length s.levels - depth) s

pub closed_to_runs : (depth : ℕ) (s : State) → HaveRuns (length s.dict) s.levels → HaveRuns (length (closed_to depth s).dict) (closed_to depth s).levels
closed_to_runs depth s have = by (length s.levels - depth) s have
  where
    by : (n : ℕ) (s : State) → HaveRuns (length s.dict) s.levels → HaveRuns (length (closed_times n s).dict) (closed_times n s).levels
    by zero s have = have
    by (suc n) s have = by n (closed s) (closed_runs s.dict s.levels have)
