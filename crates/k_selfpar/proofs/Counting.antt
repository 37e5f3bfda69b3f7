-- Counts of entries, from the root down.
use Rattle.std.proofs.Common.{◌≡◌, ℕ, zero, suc, ◌+◌, ◌*◌, ◌^◌, ◌<◌, ◌≤◌, inl, inr, nat_lt, List, [], ◌∷◌, length, get_or, set, Some, slice_get, refl, sym, ap, ◌∙◌, subst, arith, add-mul, mul_assoc, length-set, if◌then◌else◌}
use Rattle.std.specs.Prelude.{replicate}
use Rattle.std.proofs.Math.Nat.{mul-add, mul-le-mul_left}
use Rattle.std.proofs.lemmas.Bool.{cases_lt, cond-true, cond-false, lt-ltb, le-ltb}
use Rattle.std.proofs.lemmas.List.{get_or-replicate, length-replicate}
use Rattle.k_dict_entries.specs.declared.entry.Entry.{Entry}
use Rattle.k_dict_entries.specs.declared.entry.Run.{Run}
use Rattle.k_dict_entries.specs.Entries.{AreRuns}
use Rattle.k_selfpar.specs.Counts.{Adds, AreCounts, CanCount, dot, weighed, with_children}

-- what entries give: the whole below number n, their own part from n on
abbrev pub mixed : ℕ → (ℕ → ℕ) → (ℕ → ℕ) → ℕ → ℕ
mixed n own f m = if nat_lt m n then f m else own m

pub dot_same : (counts : List ℕ) (k : ℕ) (g h : ℕ → ℕ) → ((m : ℕ) → k ≤ m → g m ≡ h m) → dot k counts g ≡ dot k counts h
dot_same [] k g h same = refl
dot_same (c ∷ counts) k g h same =
    ap (λ x. c * x + dot (k + 1) counts g) (same k (omega arith))
    ∙ ap (λ x. c * h k + x) (dot_same counts (k + 1) g h (λ m le. same m (omega arith)))

-- one more of an entry
pub dot_set : (counts : List ℕ) (k i n x : ℕ) (g : ℕ → ℕ) → n ≡ k + i → i < length counts
    → dot k (set counts i (get_or counts i 0 + x)) g ≡ dot k counts g + x * g n
dot_set [] k i n x g is within = absurd (omega arith)
dot_set (c ∷ counts) k zero n x g is within =
    let e : k ≡ n = omega arith in
    ap (λ y. y + dot (k + 1) counts g) (add-mul c x (g k))
    ∙ turned (c * g k) (x * g k) (dot (k + 1) counts g)
    ∙ ap (λ m. (c * g k + dot (k + 1) counts g) + x * g m) e
  where
    turned : (a b d : ℕ) → (a + b) + d ≡ (a + d) + b
    turned a b d = omega arith
dot_set (c ∷ counts) k (suc i) n x g is within =
    ap (λ y. c * g k + y) (dot_set counts (k + 1) i n x g (omega arith) (omega arith))
    ∙ grouped (c * g k) (dot (k + 1) counts g) (x * g n)
  where
    grouped : (a b d : ℕ) → a + (b + d) ≡ (a + b) + d
    grouped a b d = omega arith

-- two ways to give that differ at one entry alone
dot_change : (counts : List ℕ) (k i n : ℕ) (g h : ℕ → ℕ) → n ≡ k + i → i < length counts → ((m : ℕ) → ¬ (m ≡ n) → g m ≡ h m)
    → dot k counts g + get_or counts i 0 * h n ≡ dot k counts h + get_or counts i 0 * g n
dot_change [] k i n g h is within same = absurd (omega arith)
dot_change (c ∷ counts) k zero n g h is within same =
    let e : k ≡ n = omega arith in
    let rest : dot (k + 1) counts g ≡ dot (k + 1) counts h = dot_same counts (k + 1) g h (λ m le. same m (λ eq. absurd (omega arith))) in
    let at_g : c * g k ≡ c * g n = ap (λ m. c * g m) e in
    let at_h : c * h k ≡ c * h n = ap (λ m. c * h m) e in
    swapped (c * g k) (c * h k) (c * g n) (c * h n) (dot (k + 1) counts g) (dot (k + 1) counts h) at_g at_h rest
  where
    swapped : (a b a' b' d d' : ℕ) → a ≡ a' → b ≡ b' → d ≡ d' → (a + d) + b' ≡ (b + d') + a'
    swapped a b a' b' d d' e f g = omega arith
dot_change (c ∷ counts) k (suc i) n g h is within same =
    let here : c * g k ≡ c * h k = ap (λ x. c * x) (same k (λ eq. absurd (omega arith))) in
    let rest = dot_change counts (k + 1) i n g h (omega arith) (omega arith) same in
    joined (c * g k) (c * h k) (dot (k + 1) counts g) (dot (k + 1) counts h) (get_or counts i 0 * h n) (get_or counts i 0 * g n) here rest
  where
    joined : (a b d d' x y : ℕ) → a ≡ b → d + x ≡ d' + y → (a + d) + x ≡ (b + d') + y
    joined a b d d' x y e f = omega arith

pub dot_none : (n k : ℕ) (g : ℕ → ℕ) → dot k (replicate n 0) g ≡ 0
dot_none zero k g = refl
dot_none (suc n) k g = nothing (0 * g k) (dot (k + 1) (replicate n 0) g) (omega arith) (dot_none n (k + 1) g)
  where
    nothing : (a b : ℕ) → a ≡ 0 → b ≡ 0 → a + b ≡ 0
    nothing a b e f = omega arith

-- an entry's count, times what it gives, is part of the whole
dot_has : (counts : List ℕ) (k i n : ℕ) (g : ℕ → ℕ) → n ≡ k + i → i < length counts → get_or counts i 0 * g n ≤ dot k counts g
dot_has [] k i n g is within = absurd (omega arith)
dot_has (c ∷ counts) k zero n g is within =
    let e : n ≡ k = omega arith in let f : c * g n ≡ c * g k = ap (λ m. c * g m) e in omega arith
dot_has (c ∷ counts) k (suc i) n g is within =
    let h : get_or counts i 0 * g n ≤ dot (k + 1) counts g = dot_has counts (k + 1) i n g (omega arith) (omega arith) in omega arith

pub weighed_same : (g h : ℕ → ℕ) (low high : ℕ) (runs : List Run) → AreRuns low high runs → ((m : ℕ) → m < high → g m ≡ h m) → weighed g runs ≡ weighed h runs
weighed_same g h low high [] are same = refl
weighed_same g h low high (run ∷ runs) are same =
    ap (λ x. run.count * x + weighed g runs) (same run.entry are.1)
    ∙ ap (λ x. run.count * h run.entry + x) (weighed_same g h (run.entry + 1) high runs are.3 same)

pub length-children : (count : ℕ) (counts : List ℕ) (runs : List Run) → length (with_children count counts runs) ≡ length counts
length-children count counts [] = refl
length-children count counts (run ∷ runs) =
    length-children count (set counts run.entry (get_or counts run.entry 0 + count * run.count)) runs
    ∙ length-set counts run.entry (get_or counts run.entry 0 + count * run.count)

-- counting children adds what they give
pub dot_children : (count : ℕ) (counts : List ℕ) (low high : ℕ) (runs : List Run) (g : ℕ → ℕ) → AreRuns low high runs → high ≤ length counts
    → dot 0 (with_children count counts runs) g ≡ dot 0 counts g + count * weighed g runs
dot_children count counts low high [] g are within = none (dot 0 counts g) count
  where
    none : (x c : ℕ) → x ≡ x + c * 0
    none x c = omega arith
dot_children count counts low high (run ∷ runs) g are within =
    let entry : run.entry < high = are.1 in
    let more : List ℕ = set counts run.entry (get_or counts run.entry 0 + count * run.count) in
    let size : length more ≡ length counts = length-set counts run.entry (get_or counts run.entry 0 + count * run.count) in
    dot_children count more (run.entry + 1) high runs g are.3 (omega arith)
    ∙ ap (λ x. x + count * weighed g runs) (dot_set counts 0 run.entry run.entry (count * run.count) g (omega arith) (omega arith))
    ∙ spread (dot 0 counts g) count run.count (g run.entry) (weighed g runs)
  where
    spread : (d c n x w : ℕ) → (d + (c * n) * x) + c * w ≡ d + c * (n * x + w)
    spread d c n x w = omega (arith, mul-add c (n * x) w, mul_assoc c n x)

-- children can be counted where all that is given stays small
pub can_count : (count : ℕ) (counts : List ℕ) (low high : ℕ) (runs : List Run) (g : ℕ → ℕ) → AreRuns low high runs → high ≤ length counts
    → ((m : ℕ) → m < high → 1 ≤ g m) → dot 0 counts g + count * weighed g runs ≤ 2 ^ 59 → CanCount count counts runs
can_count count counts low high [] g are within some small = tt
can_count count counts low high (run ∷ runs) g are within some small =
    let entry : run.entry < high = are.1 in
    let more : List ℕ = set counts run.entry (get_or counts run.entry 0 + count * run.count) in
    let size : length more ≡ length counts = length-set counts run.entry (get_or counts run.entry 0 + count * run.count) in
    let there : get_or counts run.entry 0 * g run.entry ≤ dot 0 counts g = dot_has counts 0 run.entry run.entry g (omega arith) (omega arith) in
    let once : 1 ≤ g run.entry = some run.entry entry in
    let spread : count * weighed g (run ∷ runs) ≡ (count * run.count) * g run.entry + count * weighed g runs =
    opened count run.count (g run.entry) (weighed g runs) in
    let part : count * run.count ≤ (count * run.count) * g run.entry = at_least (count * run.count) (g run.entry) once in
    let held : get_or counts run.entry 0 ≤ get_or counts run.entry 0 * g run.entry = at_least (get_or counts run.entry 0) (g run.entry) once in (
      omega arith,
      omega arith,
      omega arith,
      can_count count more (run.entry + 1) high runs g are.3 (omega arith) some
          (still (dot 0 more g) (dot 0 counts g) ((count * run.count) * g run.entry) (count * weighed g runs) (count * weighed g (run ∷ runs))
          (dot_set counts 0 run.entry run.entry (count * run.count) g (omega arith) (omega arith)) spread small),
    )
  where
    opened : (c n x w : ℕ) → c * (n * x + w) ≡ (c * n) * x + c * w
    opened c n x w = omega (arith, mul-add c (n * x) w, mul_assoc c n x)

    at_least : (a x : ℕ) → 1 ≤ x → a ≤ a * x
    at_least a x le = let h : a * 1 ≤ a * x = mul-le-mul_left a le in omega arith

    still : (m d x w all : ℕ) → m ≡ d + x → all ≡ x + w → d + all ≤ 2 ^ 59 → m + w ≤ 2 ^ 59
    still m d x w all e f le = omega arith

-- the counts once the entries from number n on are done
pub record Counted (entries : List Entry) (root n : ℕ) (counts : List ℕ) : Type 0 where
  pub size : length counts ≡ root + 1
  pub low : n ≤ root + 1
  pub adds : (own f : ℕ → ℕ) → Adds entries own f → dot 0 counts (mixed n own f) ≡ f root

pub mixed_below : (n m : ℕ) (own f : ℕ → ℕ) → m < n → mixed n own f m ≡ f m
mixed_below n m own f lt = cond-true (nat_lt m n) (f m) (own m) (lt-ltb m n lt)

pub mixed_from : (n m : ℕ) (own f : ℕ → ℕ) → n ≤ m → mixed n own f m ≡ own m
mixed_from n m own f le = cond-false (nat_lt m n) (f m) (own m) (le-ltb m n le)

-- at first the root alone is counted
pub root_counted : (entries : List Entry) (root : ℕ) (zeros counts : List ℕ) → zeros ≡ replicate (root + 1) 0 → counts ≡ set zeros root 1
    → Counted entries root (root + 1) counts
root_counted entries root zeros counts none is = record {
  size = ap length is ∙ length-set zeros root 1 ∙ size;
  low = omega arith;
  adds = λ own f add.
      ap (λ l. dot 0 l (mixed (root + 1) own f)) (is ∙ ap (λ x. set zeros root x) (first (get_or zeros root 0) (ap (λ l. get_or l root 0) none ∙ get_or-replicate (root + 1) root 0 0 (omega arith))))
      ∙ dot_set zeros 0 root root 1 (mixed (root + 1) own f) (omega arith) (within)
      ∙ ap (λ x. x + 1 * mixed (root + 1) own f root) (ap (λ l. dot 0 l (mixed (root + 1) own f)) none ∙ dot_none (root + 1) 0 (mixed (root + 1) own f))
      ∙ once (mixed (root + 1) own f root)
      ∙ mixed_below (root + 1) root own f (omega arith);
}
  where
    size : length zeros ≡ root + 1
    size = ap length none ∙ length-replicate (root + 1) 0

    within : root < length zeros
    within = let e = size in omega arith

    first : (x : ℕ) → x ≡ 0 → 1 ≡ x + 1
    first x e = omega arith

    once : (x : ℕ) → 0 + 1 * x ≡ x
    once x = omega arith

-- one entry more is done: its children are counted, and what is left of it is its own part
pub entry_done : (entries : List Entry) (root n : ℕ) (counts : List ℕ) (e : Entry) (own f : ℕ → ℕ) → Counted entries root (n + 1) counts → slice_get entries n ≡ Some e
    → AreRuns 0 n e.runs → Adds entries own f → dot 0 counts (mixed n own f) + get_or counts n 0 * weighed (mixed n own f) e.runs ≡ f root
entry_done entries root n counts e own f done at runs add =
    let g : ℕ → ℕ = mixed n own f in
    let h : ℕ → ℕ = mixed (n + 1) own f in
    let c : ℕ = get_or counts n 0 in
    let low : n + 1 ≤ root + 1 = done.low in let size : length counts ≡ root + 1 = done.size in
    let change : dot 0 counts g + c * h n ≡ dot 0 counts h + c * g n =
    dot_change counts 0 n n g h (omega arith) (omega arith) (λ m other. same m other) in
    let whole : c * h n ≡ c * f n = ap (λ x. c * x) (mixed_below (n + 1) n own f (omega arith)) in
    let part : c * g n ≡ c * own n = ap (λ x. c * x) (mixed_from n n own f (omega arith)) in
    let parts : c * f n ≡ c * own n + c * weighed f e.runs = ap (λ x. c * x) (add n e at) ∙ mul-add c (own n) (weighed f e.runs) in
    let children : c * weighed g e.runs ≡ c * weighed f e.runs = ap (λ x. c * x) (weighed_same g f 0 n e.runs runs (λ m lt. mixed_below n m own f lt)) in
    joined (dot 0 counts g) (c * h n) (dot 0 counts h) (c * g n) (c * f n) (c * own n) (c * weighed f e.runs) (c * weighed g e.runs) (f root)
    change whole part parts children (done.adds own f add)
  where
    joined : (a b d e p q w v r : ℕ) → a + b ≡ d + e → b ≡ p → e ≡ q → p ≡ q + w → v ≡ w → d ≡ r → a + v ≡ r
    joined a b d e p q w v r one two three four five six = omega arith

    same : (m : ℕ) → ¬ (m ≡ n) → mixed n own f m ≡ mixed (n + 1) own f m
    same m other = elim (cases_lt m n) [
      | inl less ↦ mixed_below n m own f less ∙ sym (mixed_below (n + 1) m own f (omega arith))
      | inr more ↦ mixed_from n m own f more ∙ sym (mixed_from (n + 1) m own f (omega arith))
    ]

pub more_counted : (entries : List Entry) (root n : ℕ) (counts new : List ℕ) (e : Entry) → Counted entries root (n + 1) counts → slice_get entries n ≡ Some e
    → AreRuns 0 n e.runs → new ≡ with_children (get_or counts n 0) counts e.runs → Counted entries root n new
more_counted entries root n counts new e done at runs is = record {
  size = ap length is ∙ length-children (get_or counts n 0) counts e.runs ∙ done.size;
  low = below done.low;
  adds = λ own f add.
      ap (λ l. dot 0 l (mixed n own f)) is
      ∙ dot_children (get_or counts n 0) counts 0 n e.runs (mixed n own f) runs within
      ∙ entry_done entries root n counts e own f done at runs add;
}
  where
    below : n + 1 ≤ root + 1 → n ≤ root + 1
    below le = omega arith

    within : n ≤ length counts
    within = let size = done.size in let low = done.low in omega arith

-- its children can be counted where the tree has few instances
pub can_count_more : (entries : List Entry) (root n : ℕ) (counts : List ℕ) (e : Entry) (sizes : ℕ → ℕ) → Counted entries root (n + 1) counts → slice_get entries n ≡ Some e
    → AreRuns 0 n e.runs → Adds entries (λ m. 1) sizes → ((m : ℕ) → 1 ≤ sizes m) → sizes root ≤ 2 ^ 59 → CanCount (get_or counts n 0) counts e.runs
can_count_more entries root n counts e sizes done at runs add some few =
    can_count (get_or counts n 0) counts 0 n e.runs (mixed n (λ m. 1) sizes) runs within
    (λ m lt. subst (λ x. 1 ≤ x) (sym (mixed_below n m (λ k. 1) sizes lt)) (some m))
    (subst (λ x. x ≤ 2 ^ 59) (sym (entry_done entries root n counts e (λ m. 1) sizes done at runs add)) few)
  where
    within : n ≤ length counts
    within = let size = done.size in let low = done.low in omega arith

-- at the end all are counted
pub all_counted : (entries : List Entry) (root : ℕ) (counts : List ℕ) → Counted entries root 0 counts → AreCounts entries root counts
all_counted entries root counts done = record {
  count = done.size;
  adds = λ own f add. dot_same counts 0 own (mixed 0 own f) (λ m le. sym (mixed_from 0 m own f (omega arith))) ∙ done.adds own f add;
}
