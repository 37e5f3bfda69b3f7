-- Several instances are left one behind the other.
use Rattle.std.proofs.Common.{◌≡◌, ℕ, zero, suc, ◌+◌, ◌-◌, ◌<◌, ◌≤◌, min, List, [], ◌∷◌, ◌++◌, Bool, length, take, drop, reverse, Option, Some, None, refl, sym, ap, ◌∙◌, arith}
use Rattle.std.specs.Prelude.{if◌then◌else◌}
use Rattle.std.proofs.lemmas.Bool.{lt-ltb, le-ltb}
use Rattle.std.proofs.lemmas.List.{reverse-append, reverse-reverse, length-reverse, length-drop, take_at, take_min, take-append-drop}
use Rattle.k_dict_entries.specs.Gathering.{number_of, with_entry}
use Rattle.k_dict_entries.specs.declared.entry.Entry.{Entry}
use Rattle.k_hcpa_meaning.specs.Summing.{Opened, Summing, within_limits, counted_if_kept, with_child, summary_of, innermost_closed, last_path, paths_outside, region_left, regions_left, operation_made}
use Rattle.k_hcpa_summaries.specs.Closing.{Part, part_of, closed_once, left_open}

last_is : (xs : List ℕ) (x : ℕ) → last_path (xs ++ x ∷ []) ≡ x
last_is [] x = refl
last_is (y ∷ []) x = refl
last_is (y ∷ z ∷ xs) x = last_is (z ∷ xs) x

outside_is : (xs : List ℕ) (x : ℕ) → paths_outside (xs ++ x ∷ []) ≡ xs
outside_is [] x = refl
outside_is (y ∷ []) x = refl
outside_is (y ∷ z ∷ xs) x = ap (λ ys. y ∷ ys) (outside_is (z ∷ xs) x)

last_of_reverse : (x : ℕ) (xs : List ℕ) → last_path (reverse (x ∷ xs)) ≡ x
last_of_reverse x xs = ap (λ ys. last_path ys) (reverse-append (x ∷ []) xs) ∙ last_is (reverse xs) x

outside_of_reverse : (x : ℕ) (xs : List ℕ) → paths_outside (reverse (x ∷ xs)) ≡ reverse xs
outside_of_reverse x xs = ap (λ ys. paths_outside ys) (reverse-append (x ∷ []) xs) ∙ outside_is (reverse xs) x

length_child : (n : ℕ) (levels : List Opened) → length (with_child n levels) ≡ length levels
length_child n [] = refl
length_child n (l ∷ levels) = refl

length_counted : (dict : Option (List Entry)) (n : ℕ) (levels : List Opened) → length (counted_if_kept dict n levels) ≡ length levels
length_counted None n levels = refl
length_counted (Some entries) n levels = length_child n levels

length_once : (work path : ℕ) (l : Opened) (outer : List Opened) (dict : Option (List Entry)) → length (closed_once work path (record { levels = l ∷ outer; dict = dict })).levels ≡ length outer
length_once work path l outer None = refl
length_once work path l outer (Some entries) =
    let e : Entry = summary_of l work path in length_counted (within_limits (with_entry entries e)) (number_of entries e) outer

once_is : (path : ℕ) (levels : List Opened) (dict : Option (List Entry)) (opened entered work : ℕ)
    → innermost_closed path levels (record { levels = levels; opened = opened; entered = entered; work = work; dict = dict })
    ≡ left_open work (opened - 1) (path ∷ []) (record { levels = levels; opened = opened; entered = entered; work = work; dict = dict })
once_is path [] dict opened entered work = refl
once_is path (l ∷ outer) None opened entered work = refl
once_is path (l ∷ outer) (Some entries) opened entered work = refl

left_at : (depth path : ℕ) (s : Summing) → s.opened ≤ depth → region_left depth path s ≡ left_open s.work (s.opened - 1) (path ∷ []) s
unfolding region_left
left_at depth path s below =
    ap (λ (b : Bool). if b then record s { opened = s.opened - 1 } else innermost_closed path s.levels s) (le-ltb depth s.opened below) ∙ once_is path s.levels s.dict s.opened s.entered s.work

above : (depth path : ℕ) (s : Summing) → depth < s.opened → region_left depth path s ≡ record s { opened = s.opened - 1 }
unfolding region_left
above depth path s over = ap (λ (b : Bool). if b then record s { opened = s.opened - 1 } else innermost_closed path s.levels s) (lt-ltb depth s.opened over)

-- instances without a level are left
skipped : (depth : ℕ) (paths : List ℕ) (n k : ℕ) (s : Summing) → k ≤ n → k ≤ s.opened - depth
    → regions_left depth paths n s ≡ regions_left depth paths (n - k) (record s { opened = s.opened - k })
skipped depth paths n zero s within over = λ i. regions_left depth paths (same i) (record s { opened = there i })
  where
    same : n ≡ n - 0
    same = omega arith

    there : s.opened ≡ s.opened - 0
    there = omega arith
skipped depth paths zero (suc k) s within over = absurd (omega arith)
skipped depth paths (suc n) (suc k) s within over =
    let out : depth < s.opened = omega arith in
    let one : Summing = record s { opened = s.opened - 1 } in
    ap (λ (b : Bool). regions_left depth (if b then paths else paths_outside paths) n (region_left depth (last_path paths) s)) (lt-ltb depth s.opened out)
    ∙ ap (λ t. regions_left depth paths n t) (above depth (last_path paths) s out)
    ∙ skipped depth paths n k one (omega arith) (omega arith)
    ∙ (let rest : n - k ≡ suc n - suc k = omega arith in let fewer : s.opened - 1 - k ≡ s.opened - suc k = omega arith in
    λ i. regions_left depth paths (rest i) (record s { opened = fewer i }))

take_none : (n : ℕ) → ◌≡◌ {A = List ℕ} (take n []) []
take_none zero = refl
take_none (suc n) = refl

-- what is kept, by its parts
abbrev kept : List Opened → ℕ → ℕ → ℕ → Option (List Entry) → Summing
kept levels opened entered work dict = record { levels = levels; opened = opened; entered = entered; work = work; dict = dict }

-- instances with levels are left, and those around them
closed_all : (depth : ℕ) (paths : List ℕ) (levels : List Opened) (m opened entered work : ℕ) (dict : Option (List Entry)) → (0 < m → opened ≤ depth) → length paths ≡ length levels
    → regions_left depth (reverse paths) m (kept levels opened entered work dict) ≡ left_open work (opened - m) (take m paths) (kept levels opened entered work dict)
closed_all depth paths levels zero opened entered work dict below same =
    let there : opened ≡ opened - 0 = omega arith in λ i. kept levels (there i) entered work dict
closed_all depth [] [] (suc m) opened entered work dict below same =
    let under : opened ≤ depth = below (omega arith) in
    let s : Summing = kept [] opened entered work dict in
    let fewer : opened - 1 - m ≡ opened - suc m = omega arith in
    ap (λ (b : Bool). regions_left depth (if b then reverse [] else paths_outside (reverse [])) m (region_left depth (last_path (reverse [])) s)) (le-ltb depth opened under)
    ∙ ap (λ t. regions_left depth [] m t) (left_at depth 0 s under)
    ∙ closed_all depth [] [] m (opened - 1) entered work dict (λ some. omega arith) refl
    ∙ (λ i. left_open work (fewer i) (take_none m i) s)
closed_all depth [] (l ∷ outer) (suc m) opened entered work dict below same = absurd (omega arith)
closed_all depth (p ∷ ps) [] (suc m) opened entered work dict below same = absurd (omega arith)
closed_all depth (p ∷ ps) (l ∷ outer) (suc m) opened entered work dict below same =
    let under : opened ≤ depth = below (omega arith) in
    let s : Summing = kept (l ∷ outer) opened entered work dict in
    let behind : Part = closed_once work p (part_of s) in
    let long : length ps ≡ length behind.levels = omega (arith, length_once work p l outer dict) in
    let fewer : opened - 1 - m ≡ opened - suc m = omega arith in
    ap (λ (b : Bool). regions_left depth (if b then reverse (p ∷ ps) else paths_outside (reverse (p ∷ ps))) m (region_left depth (last_path (reverse (p ∷ ps))) s)) (le-ltb depth opened under)
    ∙ (λ i. regions_left depth (outside_of_reverse p ps i) m (region_left depth (last_of_reverse p ps i) s))
    ∙ ap (λ t. regions_left depth (reverse ps) m t) (left_at depth p s under)
    ∙ closed_all depth ps behind.levels m (opened - 1) entered work behind.dict (λ some. omega arith) long
    ∙ (λ i. left_open work (fewer i) (p ∷ take m ps) s)

-- the innermost paths, the innermost first
inner_paths : (paths : List ℕ) (n closed : ℕ) → closed ≡ min n (length paths) → take n (reverse paths) ≡ reverse (drop (length paths - closed) paths)
inner_paths paths n closed is =
    let k = length paths - closed in
    let parts : reverse paths ≡ reverse (drop k paths) ++ reverse (take k paths) = ap (λ xs. reverse xs) (sym (take-append-drop k paths)) ∙ reverse-append (take k paths) (drop k paths) in
    let long : length (reverse (drop k paths)) ≡ closed = omega (arith, length-reverse (drop k paths), length-drop k paths) in
    let few : closed ≡ min n (length (reverse paths)) = is ∙ ap (λ c. min n c) (sym (length-reverse paths)) in
    sym (take_min n (reverse paths))
    ∙ ap (λ c. take c (reverse paths)) (sym few)
    ∙ ap (λ xs. take closed xs) parts
    ∙ take_at (reverse (drop k paths)) (reverse (take k paths)) closed long

-- so many instances are left, behind an operation
pub all_left : (depth latency count closed : ℕ) (paths : List ℕ) (s : Summing) → length paths ≡ length s.levels → closed ≡ min (count - min (s.opened - depth) count) (length paths)
    → regions_left depth paths count (operation_made latency s) ≡ left_open (s.work + latency) (s.opened - count) (reverse (drop (length paths - closed) paths)) s
all_left depth latency count closed paths s same is =
    let skip = min (s.opened - depth) count in
    let made : Summing = operation_made latency s in
    let under : 0 < count - skip → s.opened - skip ≤ depth = λ some. omega arith in
    let fewer : s.opened - skip - (count - skip) ≡ s.opened - count = omega arith in
    let behind : Summing = record made { opened = s.opened - skip } in
    skipped depth paths count skip made (omega arith) (omega arith)
    ∙ ap (λ ps. regions_left depth ps (count - skip) behind) (sym (reverse-reverse paths))
    ∙ closed_all depth (reverse paths) s.levels (count - skip) (s.opened - skip) s.entered (s.work + latency) s.dict under (length-reverse paths ∙ same)
    ∙ (λ i. left_open (s.work + latency) (fewer i) (inner_paths paths (count - skip) closed is i) s)
