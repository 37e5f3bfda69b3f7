-- The work of intervals, and reads of the list of operations.
use Rattle.std.proofs.Common.{◌≡◌, ℕ, zero, suc, ◌+◌, ◌-◌, ◌≤◌, List, [], ◌∷◌, ◌++◌, Some, take, drop, refl, sym, ap, ◌∙◌, arith, add_assoc, zero-add, slice_get}
use Rattle.std.proofs.Math.Seq.{take-add}
use Rattle.std.proofs.lemmas.List.{drop-drop, take-append-drop}
use Rattle.k_optab.specs.Events.{Operation, IsOperation, total_latency}
use Rattle.k_optab.specs.Graph.{work}

pub total_latency-append : (xs ys : List Operation) → total_latency (xs ++ ys) ≡ total_latency xs + total_latency ys
total_latency-append [] ys = sym (zero-add (total_latency ys))
total_latency-append (x ∷ xs) ys =
    ap (λ n. x.latency + n) (total_latency-append xs ys) ∙ sym (add_assoc x.latency (total_latency xs) (total_latency ys))

-- the work of an interval is that of its two parts
pub work_split : (ops : List Operation) (s m e : ℕ) → s ≤ m → m ≤ e → work ops s e ≡ work ops s m + work ops m e
work_split ops s m e low high =
    let whole : e - s ≡ (m - s) + (e - m) = omega arith in
    let start : s + (m - s) ≡ m = omega arith in
    rw whole (rw take-add (rw total_latency-append (rw drop-drop (rw start refl))))

-- one operation at the head of a list
at_first : (ops : List Operation) (k : ℕ) (op : Operation) → slice_get ops k ≡ Some op → total_latency (take 1 (drop k ops)) ≡ op.latency
at_first [] k op h = cc
at_first (x ∷ xs) zero op h = let same : x ≡ op = cc in rw same (omega arith)
at_first (x ∷ xs) (suc k) op h = at_first xs k op h

pub work_at : (ops : List Operation) (k : ℕ) (op : Operation) → IsOperation ops k op → work ops k (k + 1) ≡ op.latency
work_at ops k op h = let one : (k + 1) - k ≡ 1 = omega arith in rw one (at_first ops k op h)

pub work_more : (ops : List Operation) (s k : ℕ) (op : Operation) → s ≤ k → IsOperation ops k op
    → work ops s (k + 1) ≡ work ops s k + op.latency
work_more ops s k op low h =
    let split : work ops s (k + 1) ≡ work ops s k + work ops k (k + 1) = work_split ops s k (k + 1) low (omega arith) in
    split ∙ ap (λ n. work ops s k + n) (work_at ops k op h)

pub work_grows : (ops : List Operation) (s m e : ℕ) → s ≤ m → m ≤ e → work ops s m ≤ work ops s e
work_grows ops s m e low high = let split = work_split ops s m e low high in omega arith

pub work_narrows : (ops : List Operation) (s m e : ℕ) → s ≤ m → m ≤ e → work ops m e ≤ work ops s e
work_narrows ops s m e low high = let split = work_split ops s m e low high in omega arith

pub work_empty : (ops : List Operation) (s : ℕ) → work ops s s ≡ 0
work_empty ops s = let none : s - s ≡ 0 = omega arith in rw none refl

-- an interval's work is at most that of the whole run
pub work_at_most_total : (ops : List Operation) (s e : ℕ) → work ops s e ≤ total_latency ops
work_at_most_total ops s e =
    let front : take s ops ++ drop s ops ≡ ops = take-append-drop s ops in
    let inner : take (e - s) (drop s ops) ++ drop (e - s) (drop s ops) ≡ drop s ops = take-append-drop (e - s) (drop s ops) in
    let one : total_latency (take s ops) + total_latency (drop s ops) ≡ total_latency ops = sym (total_latency-append (take s ops) (drop s ops)) ∙ ap total_latency front in
    let two : work ops s e + total_latency (drop (e - s) (drop s ops)) ≡ total_latency (drop s ops) =
    sym (total_latency-append (take (e - s) (drop s ops)) (drop (e - s) (drop s ops))) ∙ ap total_latency inner in
    omega arith
