-- What holds of all summaries, behind levels that are closed.
use Rattle.std.proofs.Common.{◌≡◌, ℕ, ◌+◌, ◌≤◌, List, [], ◌∷◌, Bool, true, false, length, Option, Some, None, sym, ap, subst, arith}
use Rattle.std.specs.Prelude.{if◌then◌else◌}
use Rattle.k_dict_entries.specs.Gathering.{number_of, with_entry}
use Rattle.k_dict_entries.specs.declared.entry.Entry.{Entry}
use Rattle.k_dict_entries.proofs.Counting.{AreRuns-counted}
use Rattle.k_dict_entries.proofs.Sound.{longer, total-counted}
use Rattle.k_hcpa_meaning.specs.Summing.{Opened, Summing, is_over, within_limits, counted_if_kept, with_child, summary_of}
use Rattle.k_hcpa_summaries.specs.Closing.{Part, closed_once, closed_each, AreOpen, AreOpenIn}
use Rattle.k_hcpa_summaries.specs.Whole.{IsWhole, HaveRuns, AreNamed, weight}
use Rattle.k_hcpa_summaries.proofs.Opens.{runs_wider}

weight_child : (n : ℕ) (levels : List Opened) → weight (with_child n levels) ≤ 1 + weight levels
weight_child n [] = omega arith
weight_child n (l ∷ levels) = let more = total-counted n 1 l.runs in omega arith

weight_counted : (dict : Option (List Entry)) (n : ℕ) (levels : List Opened) → weight (counted_if_kept dict n levels) ≤ 1 + weight levels
weight_counted None n levels = omega arith
weight_counted (Some entries) n levels = weight_child n levels

once_weighs : (work path : ℕ) (levels : List Opened) (dict : Option (List Entry)) → weight (closed_once work path (record { levels = levels; dict = dict })).levels ≤ weight levels
once_weighs work path [] dict = omega arith
once_weighs work path (l ∷ outer) None = omega arith
once_weighs work path (l ∷ outer) (Some entries) =
    let e : Entry = summary_of l work path in
    let counted = weight_counted (within_limits (with_entry entries e)) (number_of entries e) outer in
    omega (arith, counted)

have_wider : (high more : ℕ) (levels : List Opened) → high ≤ more → HaveRuns high levels → HaveRuns more levels
have_wider high more [] wider have = tt
have_wider high more (l ∷ levels) wider have = (runs_wider 0 high more l.runs wider have.0, have_wider high more levels wider have.1)

have_child : (high n : ℕ) (levels : List Opened) → n + 1 ≤ high → HaveRuns high levels → HaveRuns high (with_child n levels)
have_child high n [] within have = tt
have_child high n (l ∷ levels) within have = (AreRuns-counted 0 high n 1 l.runs (omega arith) (omega arith) (omega arith) have.0, have.1)

named_if : (b : Bool) (entries : List Entry) (n : ℕ) (levels : List Opened) → n + 1 ≤ length entries → HaveRuns (length entries) levels
    → AreNamed (if b then None else Some entries) (counted_if_kept (if b then None else Some entries) n levels)
named_if true entries n levels within have = tt
named_if false entries n levels within have = have_child (length entries) n levels within have

once_named : (work path : ℕ) (levels : List Opened) (dict : Option (List Entry)) → AreNamed dict levels
    → AreNamed (closed_once work path (record { levels = levels; dict = dict })).dict (closed_once work path (record { levels = levels; dict = dict })).levels
once_named work path [] dict named = named
once_named work path (l ∷ outer) None named = tt
once_named work path (l ∷ outer) (Some entries) named =
    let e : Entry = summary_of l work path in
    let more = longer entries e in
    named_if (is_over (with_entry entries e)) (with_entry entries e) (number_of entries e) outer (omega (arith, more.1)) (have_wider (length entries) (length (with_entry entries e)) outer more.0 named.1)

pub each_weighs : (work : ℕ) (paths : List ℕ) (p : Part) → weight (closed_each work paths p).levels ≤ weight p.levels
each_weighs work [] p = omega arith
each_weighs work (path ∷ paths) p =
    let one = once_weighs work path p.levels p.dict in
    let rest = each_weighs work paths (closed_once work path p) in
    omega (arith, one, rest)

pub each_named : (work : ℕ) (paths : List ℕ) (p : Part) → AreNamed p.dict p.levels → AreNamed (closed_each work paths p).dict (closed_each work paths p).levels
each_named work [] p named = named
each_named work (path ∷ paths) p named = each_named work paths (closed_once work path p) (once_named work path p.levels p.dict named)

open_if : (high : ℕ) (levels : List Opened) → weight levels ≤ 4611686018427387904 → HaveRuns high levels → AreOpen high levels
open_if high [] few have = tt
open_if high (l ∷ levels) few have = (have.0, omega arith, open_if high levels (omega arith) have.1)

-- the levels can be closed
pub open_in : (s : Summing) → IsWhole s → AreOpenIn s.dict s.levels
open_in s whole = by s.dict (omega (arith, whole.few, whole.weighs)) whole.named
  where
    by : (dict : Option (List Entry)) → weight s.levels ≤ 4611686018427387904 → AreNamed dict s.levels → AreOpenIn dict s.levels
    by None few named = tt
    by (Some entries) few named = open_if (length entries) s.levels few named

-- all is whole behind levels that are closed, and instances that are left
pub whole_behind : (s t : Summing) (work : ℕ) (paths : List ℕ) → IsWhole s
    → ◌≡◌ {A = Part} (record { levels = t.levels; dict = t.dict }) (closed_each work paths (record { levels = s.levels; dict = s.dict }))
    → t.opened ≤ s.opened → t.entered ≡ s.entered → IsWhole t
whole_behind s t work paths whole is opened entered =
    let p : Part = record { levels = s.levels; dict = s.dict } in
    let lighter : weight t.levels ≤ weight s.levels = omega (arith, each_weighs work paths p, ap (λ q. weight q.levels) is) in
    record {
      few = omega (arith, whole.few, entered);
      open_few = omega (arith, whole.open_few, opened, entered);
      weighs = omega (arith, whole.weighs, lighter, entered);
      named = subst (λ (q : Part). AreNamed q.dict q.levels) (sym is) (each_named work paths p whole.named);
    }
