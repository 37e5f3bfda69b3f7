-- Levels are closed one by one, where the last child is counted with the level behind.
use Rattle.std.proofs.Common.{◌≡◌, ℕ, ◌+◌, ◌<◌, List, [], ◌∷◌, ◌++◌, Bool, true, false, ◌||◌, length, Option, Some, None, Err, refl, sym, ap, subst, ◌∙◌, arith, length-append, nat_lt}
use Rattle.std.specs.Prelude.{if◌then◌else◌}
use Rattle.std.proofs.lemmas.Bool.{lt-ltb, le-ltb}
use Rattle.k_dict_entries.specs.Entries.{AreInterned, all_runs}
use Rattle.k_dict_entries.specs.Gathering.{number_of, with_entry}
use Rattle.k_dict_entries.specs.Interning.{HasNumber, Interns}
use Rattle.k_dict_entries.specs.declared.entry.Entry.{Entry}
use Rattle.k_dict_entries.specs.declared.dict.DictFault.{DictFault}
use Rattle.k_dict_entries.specs.declared.dict.DictFault.TheVariants.{Full, Memory}
use Rattle.k_dict_entries.specs.declared.dict.Which.{Which}
use Rattle.k_dict_entries.specs.declared.dict.Which.TheVariants.{Entries, AllRuns}
use Rattle.k_dict_entries.proofs.Numbers.{not_contained, with_absent}
use Rattle.k_dict_entries.proofs.Pushes.{all_runs-push}
use Rattle.k_dict_entries.proofs.Sound.{number_is}
use Rattle.k_hcpa_meaning.specs.Summing.{Opened, is_over, within_limits, counted_if_kept, with_child, summary_of}
use Rattle.k_hcpa_summaries.specs.Closing.{Part, closed_once, closed_each, with_last, pending, Closes}

-- levels with entries
abbrev part : List Opened → Option (List Entry) → Part
part levels dict = record { levels = levels; dict = dict }

pending_first : (last : Option ℕ) (l : Opened) (outer : List Opened) → pending last (l ∷ outer) ≡ with_last last l ∷ outer
pending_first None l outer = refl
pending_first (Some n) l outer = refl

or_false : (x y : Bool) → x ≡ false → y ≡ false → (x || y) ≡ false
or_false true y p q = p
or_false false y p q = q

or_left : (x y : Bool) → x ≡ true → (x || y) ≡ true
or_left true y p = refl
or_left false y p = absurd (false_true p)
  where
    false_true : false ≡ true → ⊥
    false_true q = cc

or_right : (x y : Bool) → y ≡ true → (x || y) ≡ true
or_right true y p = refl
or_right false y p = p

within : (entries : List Entry) (b : Bool) → is_over entries ≡ b → within_limits entries ≡ (elim b [ true ↦ None | false ↦ Some entries ])
within entries true is = ap (λ (x : Bool). if x then None else Some entries) is
within entries false is = ap (λ (x : Bool). if x then None else Some entries) is

kept_within : (entries : List Entry) → AreInterned entries → within_limits entries ≡ Some entries
kept_within entries are =
    within entries false (or_false (nat_lt 1048576 (length entries)) (nat_lt 16777216 (all_runs entries)) (le-ltb 1048576 (length entries) are.few) (le-ltb 16777216 (all_runs entries) are.few_runs))

too_many : (entries : List Entry) (e : Entry) → length entries ≡ 1048576 → within_limits (entries ++ e ∷ []) ≡ None
too_many entries e full =
    let count : 1048576 < length (entries ++ e ∷ []) = omega (arith, length-append entries (e ∷ [])) in
    within (entries ++ e ∷ []) true (or_left (nat_lt 1048576 (length (entries ++ e ∷ []))) (nat_lt 16777216 (all_runs (entries ++ e ∷ []))) (lt-ltb 1048576 (length (entries ++ e ∷ [])) count))

too_long : (entries : List Entry) (e : Entry) → 16777216 < all_runs entries + length e.runs → within_limits (entries ++ e ∷ []) ≡ None
too_long entries e many =
    let count : 16777216 < all_runs (entries ++ e ∷ []) = omega (arith, all_runs-push entries e) in
    within (entries ++ e ∷ []) true (or_right (nat_lt 1048576 (length (entries ++ e ∷ []))) (nat_lt 16777216 (all_runs (entries ++ e ∷ []))) (lt-ltb 16777216 (all_runs (entries ++ e ∷ [])) count))

-- a level whose entry has that number
once_kept : (work path : ℕ) (l : Opened) (outer : List Opened) (old new : List Entry) (n : ℕ) → AreInterned new → HasNumber old new (summary_of l work path) n
    → closed_once work path (part (l ∷ outer) (Some old)) ≡ part (with_child n outer) (Some new)
once_kept work path l outer old new n are has =
    let e : Entry = summary_of l work path in
    let is = number_is old new e n are has in
    let dict : within_limits (with_entry old e) ≡ Some new = ap within_limits (sym is.0) ∙ kept_within new are in
    λ i. record { levels = counted_if_kept (dict i) (sym is.1 i) outer; dict = dict i }

-- a level whose entry is over the limits
once_full : (work path : ℕ) (l : Opened) (outer : List Opened) (old new : List Entry) (w : Which) → Interns old (summary_of l work path) (Err (Full w)) new
    → closed_once work path (part (l ∷ outer) (Some old)) ≡ part outer None
once_full work path l outer old new Entries full =
    let e : Entry = summary_of l work path in
    let dict : within_limits (with_entry old e) ≡ None = ap within_limits (with_absent old e (not_contained old e full.0)) ∙ too_many old e full.1 in
    λ i. record { levels = counted_if_kept (dict i) (number_of old e) outer; dict = dict i }
once_full work path l outer old new AllRuns full =
    let e : Entry = summary_of l work path in
    let dict : within_limits (with_entry old e) ≡ None = ap within_limits (with_absent old e (not_contained old e full.0)) ∙ too_long old e full.2 in
    λ i. record { levels = counted_if_kept (dict i) (number_of old e) outer; dict = dict i }

-- over the limits nothing more is kept
pub none_kept : (work : ℕ) (paths : List ℕ) (levels outer : List Opened) → length paths ≡ length levels
    → closed_each work paths (part (levels ++ outer) None) ≡ part outer None
none_kept work [] [] outer same = refl
none_kept work [] (l ∷ levels) outer same = absurd (omega arith)
none_kept work (path ∷ paths) [] outer same = absurd (omega arith)
none_kept work (path ∷ paths) (l ∷ levels) outer same = none_kept work paths levels outer (omega arith)

-- these levels, the innermost first, lead where all did
abbrev pub IsOn : ℕ → List ℕ → List Opened → List Entry → List ℕ → List Opened → Option ℕ → List Entry → Type 0
IsOn work all_paths all_levels old paths levels last dict =
    (outer : List Opened) → closed_each work paths (part (pending last (levels ++ outer)) (Some dict)) ≡ closed_each work all_paths (part (all_levels ++ outer) (Some old))

pub on_more : (work path : ℕ) (all_paths paths : List ℕ) (l : Opened) (all_levels levels : List Opened) (old dict new : List Entry) (last : Option ℕ) (n : ℕ)
    → IsOn work all_paths all_levels old (path ∷ paths) (l ∷ levels) last dict → AreInterned new → HasNumber dict new (summary_of (with_last last l) work path) n
    → IsOn work all_paths all_levels old paths levels (Some n) new
on_more work path all_paths paths l all_levels levels old dict new last n on are has outer =
    ap (λ p. closed_each work paths p) (sym (once_kept work path (with_last last l) (levels ++ outer) dict new n are has))
    ∙ ap (λ ls. closed_each work (path ∷ paths) (part ls (Some dict))) (sym (pending_first last l (levels ++ outer)))
    ∙ on outer

pub on_full : (work path : ℕ) (all_paths paths : List ℕ) (l : Opened) (all_levels levels : List Opened) (old dict new : List Entry) (last : Option ℕ) (w : Which)
    → IsOn work all_paths all_levels old (path ∷ paths) (l ∷ levels) last dict → length paths ≡ length levels
    → Interns dict (summary_of (with_last last l) work path) (Err (Full w)) new
    → (outer : List Opened) → closed_each work all_paths (part (all_levels ++ outer) (Some old)) ≡ part outer None
on_full work path all_paths paths l all_levels levels old dict new last w on same full outer =
    sym (on outer)
    ∙ ap (λ ls. closed_each work (path ∷ paths) (part ls (Some dict))) (pending_first last l (levels ++ outer))
    ∙ ap (λ p. closed_each work paths p) (once_full work path (with_last last l) (levels ++ outer) dict new w full)
    ∙ none_kept work paths levels outer same

-- what is refused
pub refused : (work path : ℕ) (all_paths paths : List ℕ) (l : Opened) (all_levels levels : List Opened) (old dict new : List Entry) (last : Option ℕ) (fault : DictFault)
    → IsOn work all_paths all_levels old (path ∷ paths) (l ∷ levels) last dict → length paths ≡ length levels
    → Interns dict (summary_of (with_last last l) work path) (Err fault) new → Closes work all_paths all_levels old (Err fault) new
refused work path all_paths paths l all_levels levels old dict new last (Full w) on same answer =
    on_full work path all_paths paths l all_levels levels old dict new last w on same answer
refused work path all_paths paths l all_levels levels old dict new last Memory on same answer = tt

-- the levels and the paths are read from their ends
pub on_read : (work path : ℕ) (all_paths paths whole_paths : List ℕ) (l : Opened) (all_levels levels whole : List Opened) (old dict : List Entry) (last : Option ℕ)
    → whole_paths ≡ path ∷ paths → whole ≡ l ∷ levels → IsOn work all_paths all_levels old whole_paths whole last dict
    → IsOn work all_paths all_levels old (path ∷ paths) (l ∷ levels) last dict
on_read work path all_paths paths whole_paths l all_levels levels whole old dict last same_paths same on =
    subst (λ ps. IsOn work all_paths all_levels old ps (l ∷ levels) last dict) same_paths (subst (λ ls. IsOn work all_paths all_levels old whole_paths ls last dict) same on)
