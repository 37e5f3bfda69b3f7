-- `==` of entries is equality.
use Rattle.std.proofs.Common.{◌≡◌, ℕ, refl, ap, Bool, ◌&&◌, nat_eq}
use Rattle.std.specs.Bool.{Decides}
use Rattle.std.specs.Cmp.Lexicographic.{pointwise}
use Rattle.std.proofs.lemmas.Bool.Decides.{Decides-eqb, Decides-and, Decides-like}
use Rattle.std.proofs.lemmas.Slice.Eq.{slice_eq-Decides}
use Rattle.k_dict_entries.specs.Gathering.{is_entry, is_run}
use Rattle.k_dict_entries.specs.declared.entry.Entry.{Entry}
use Rattle.k_dict_entries.specs.declared.entry.Run.{Run}
use Rattle.k_dict_entries.specs.contracts.entry.EntryPartialEq.TheImpl as entry_derived

-- `==` of entries, as it is derived: `is_entry`
abbrev pub entry_eq : Entry → Entry → Bool
entry_eq x y = entry_derived.eq-value.it x y

run_decides : (x y : Run) → Decides (is_run x y) (x ≡ y)
run_decides x y =
    Decides-like (is_run x y) (λ h i. record { entry = h.0 i; count = h.1 i }) (λ e. (ap (λ r. r.entry) e, ap (λ r. r.count) e))
    (Decides-and (nat_eq x.entry y.entry) (nat_eq x.count y.count) (Decides-eqb x.entry y.entry) (Decides-eqb x.count y.count))

-- the test answers whether two entries are one
pub entry_decides : (x y : Entry) → Decides (is_entry x y) (x ≡ y)
entry_decides x y =
    let runs = slice_eq-Decides run_decides x.runs y.runs (pointwise is_run x.runs y.runs) refl in
    Decides-like (is_entry x y) (λ h i. record { region = h.0 i; work = h.1.0 i; path = h.1.1.0 i; runs = h.1.1.1 i })
    (λ e. (ap (λ r. r.region) e, (ap (λ r. r.work) e, (ap (λ r. r.path) e, ap (λ r. r.runs) e))))
    (Decides-and (nat_eq x.region y.region) (nat_eq x.work y.work && (nat_eq x.path y.path && pointwise is_run x.runs y.runs)) (Decides-eqb x.region y.region)
    (Decides-and (nat_eq x.work y.work) (nat_eq x.path y.path && pointwise is_run x.runs y.runs) (Decides-eqb x.work y.work)
    (Decides-and (nat_eq x.path y.path) (pointwise is_run x.runs y.runs) (Decides-eqb x.path y.path) runs)))
