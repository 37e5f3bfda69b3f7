-- The bytes of a table tell one thing: latencies, or a fault.
use Rattle.std.proofs.Common.{ℕ, ◌≡◌, ◌≢◌, refl, sym, subst, ◌∙◌, ap, List, [], Result, Ok, Err}
use Rattle.std.proofs.lemmas.Option.{same_Some}
use Rattle.k_optab.specs.TomlTable.{IsRefused, IsTold, document_faults, table_of}
use Rattle.k_optab.specs.declared.toml_table.TableFault.{TableFault}
use Rattle.k_optab.specs.declared.toml_table.TableFault.TheVariants as table

told_same : (bytes : List ℕ) (one other : Result (List ℕ) TableFault) → IsTold bytes one → IsTold bytes other → one ≡ other
told_same bytes one other (d, (utf, is), order, gives) (e, (utf', is'), order', gives') =
    sym gives ∙ ap (λ x. table_of x (document_faults x)) (same_Some d e (sym is ∙ is')) ∙ gives'

-- latencies, or these in their place
abbrev latencies_or : List ℕ → Result (List ℕ) TableFault → List ℕ
latencies_or others (Ok latencies) = latencies
latencies_or others (Err fault) = others

-- bytes tell one list of latencies
pub same_latencies : (bytes one other : List ℕ) → IsTold bytes (Ok one) → IsTold bytes (Ok other) → one ≡ other
same_latencies bytes one other a b = ap (latencies_or []) (told_same bytes (Ok one) (Ok other) a b)

-- an answer has no fault
abbrev IsGood : Result (List ℕ) TableFault → Type 0
IsGood (Ok latencies) = Unit {0}
IsGood (Err fault) = ⊥

not_fault : (bytes latencies : List ℕ) (fault : TableFault) → IsTold bytes (Ok latencies) → IsTold bytes (Err fault) → ⊥
not_fault bytes latencies fault one other = subst IsGood (told_same bytes (Ok latencies) (Err fault) one other) tt

-- bytes that are refused tell no latencies
pub not_both : (bytes latencies : List ℕ) (fault : TableFault) → fault ≢ table.Memory → IsTold bytes (Ok latencies) → IsRefused bytes fault → ⊥
not_both bytes latencies table.NotToml other told refused = refused told.0 told.1
not_both bytes latencies (table.UnknownKey key) other told refused = not_fault bytes latencies (table.UnknownKey key) told refused
not_both bytes latencies (table.NotWhole key) other told refused = not_fault bytes latencies (table.NotWhole key) told refused
not_both bytes latencies (table.OutOfRange key number) other told refused = not_fault bytes latencies (table.OutOfRange key number) told refused
not_both bytes latencies table.Memory other told refused = other refl
