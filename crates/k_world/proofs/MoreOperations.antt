-- An operation more behind others.
use Rattle.std.proofs.Common.{◌≡◌, ℕ, zero, suc, ◌+◌, ◌≤◌, inl, inr, List, [], ◌∷◌, ◌++◌, length, Some, sym, ◌∙◌, subst, refl, arith, slice_get}
use Rattle.std.proofs.lemmas.Bool.{cases_lt}
use Rattle.k_optab.specs.Events.{AreBefore, Operation, SourcesAreEarlier, total_latency}
use Rattle.k_optab.proofs.History.{slice_get-append}

-- the latencies of operations, one behind the other
pub total-append : (xs ys : List Operation) → total_latency (xs ++ ys) ≡ total_latency xs + total_latency ys
total-append [] ys = omega arith
total-append (x ∷ xs) ys = omega (arith, total-append xs ys)

-- the operation behind others
get_last : (ops : List Operation) (x : Operation) (k : ℕ) (op : Operation) → length ops ≤ k → slice_get (ops ++ x ∷ []) k ≡ Some op → (k ≡ length ops) × (x ≡ op)
get_last [] x zero op low e = (refl, grind arith)
get_last [] x (suc k) op low e = cc
get_last (y ∷ ops) x zero op low e = absurd (omega arith)
get_last (y ∷ ops) x (suc k) op low e = let rest = get_last ops x k op (omega arith) e in (omega (arith, rest.0), rest.1)

-- an operation more, whose sources are among those before it
pub earlier_more : (ops : List Operation) (x : Operation) → SourcesAreEarlier ops → AreBefore (length ops) x.sources → SourcesAreEarlier (ops ++ x ∷ [])
earlier_more ops x earlier last k op is =
    elim (cases_lt k (length ops)) [
      | inl low ↦ earlier k op (sym (slice_get-append ops (x ∷ []) k low) ∙ is)
      | inr high ↦ let found = get_last ops x k op high is in rw found.0 (subst (λ (o : Operation). AreBefore (length ops) o.sources) found.1 last)
    ]
