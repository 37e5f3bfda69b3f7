-- Taking the nodes of a tree one by one interns its instances in the order of their ends.
use Rattle.std.proofs.Common.{◌≡◌, ℕ, zero, suc, ◌+◌, ◌-◌, ◌<◌, ◌≤◌, List, [], ◌∷◌, ◌++◌, length, refl, sym, ap, ◌∙◌, subst, arith, zero-add}
use Rattle.k_optab.specs.declared.node.Node.{Node}
use Rattle.k_dict_entries.specs.Trees.{Label, Forest, Tree, bare, grown, alone, list_of, node_at, nodes_of}
use Rattle.k_dict_entries.specs.Gathering.{State, closed, closed_of, closed_times, closed_to, gathered, number_of, opened, start, taken, with_child, with_entry}
use Rattle.k_dict_entries.specs.Tallies.{counted}
use Rattle.k_dict_entries.specs.declared.entry.Entry.{Entry}
use Rattle.k_dict_entries.specs.declared.entry.Run.{Run}
use Rattle.k_dict_entries.specs.declared.gathering.Level.{Level}
use Rattle.k_dict_entries.proofs.Coding.{entry_at}
use Rattle.k_dict_entries.proofs.Walking.{Walked, walk}

pub taken-append : (xs ys : List Node) (s : State) → taken (xs ++ ys) s ≡ taken ys (taken xs s)
taken-append [] ys s = refl
taken-append (x ∷ xs) ys s = taken-append xs ys (opened x (closed_to x.depth s))

closed_times-add : (m n : ℕ) (s : State) → closed_times (m + n) s ≡ closed_times n (closed_times m s)
closed_times-add zero n s = ap (λ k. closed_times k s) (zero-add n)
closed_times-add (suc m) n s = let sums : suc m + n ≡ suc (m + n) = omega arith in ap (λ k. closed_times k s) sums ∙ closed_times-add m n (closed s)

length-closed_of : (dict : List Entry) (levels : List Level) → length (closed_of dict levels).levels ≡ length levels - 1
length-closed_of dict [] = omega arith
length-closed_of dict (l ∷ []) = omega arith
length-closed_of dict (l ∷ m ∷ levels) = omega arith

pub length-closed : (s : State) → length (closed s).levels ≡ length s.levels - 1
length-closed s = length-closed_of s.dict s.levels

length-closed_times : (n : ℕ) (s : State) → length (closed_times n s).levels ≡ length s.levels - n
length-closed_times zero s = omega arith
length-closed_times (suc n) s = let one = length-closed s in let rest = length-closed_times n (closed s) in omega arith

length-closed_to : (depth : ℕ) (s : State) → depth ≤ length s.levels → length (closed_to depth s).levels ≡ depth
length-closed_to depth s deep = let all = length-closed_times (length s.levels - depth) s in omega arith

-- nothing is closed where so many are open
pub closed_to-none : (depth : ℕ) (s : State) → length s.levels ≤ depth → closed_to depth s ≡ s
closed_to-none depth s few = let none : length s.levels - depth ≡ 0 = omega arith in ap (λ n. closed_times n s) none

-- the outermost of those that are closed is closed last
closed_to-last : (depth : ℕ) (s : State) → depth + 1 ≤ length s.levels → closed_to depth s ≡ closed (closed_to (depth + 1) s)
closed_to-last depth s deep =
    let parts : length s.levels - depth ≡ (length s.levels - (depth + 1)) + 1 = omega arith in
    ap (λ n. closed_times n s) parts ∙ closed_times-add (length s.levels - (depth + 1)) 1 s

-- the innermost of those that are closed is closed first
pub closed_to-first : (depth : ℕ) (s : State) → depth < length s.levels → closed_to depth s ≡ closed_to depth (closed s)
closed_to-first depth s deep =
    let one = length-closed s in
    let parts : length s.levels - depth ≡ suc (length (closed s).levels - depth) = omega arith in
    ap (λ n. closed_times n s) parts

-- the innermost open instance with other runs
abbrev pub count_top : (List Run → List Run) → List Level → List Level
count_top count [] = []
count_top count (l ∷ levels) = record l { children = count l.children } ∷ levels

-- where a gathering stands behind a forest
abbrev pub onto : Walked → List Level → State
onto w levels = record { dict = w.dict; levels = count_top w.count levels }

count_top-none : (levels : List Level) → count_top (λ runs. runs) levels ≡ levels
count_top-none [] = refl
count_top-none (l ∷ levels) = refl

count_top-child : (count : List Run → List Run) (n : ℕ) (levels : List Level)
    → count_top count (with_child n levels) ≡ count_top (λ runs. count (counted n 1 runs)) levels
count_top-child count n [] = refl
count_top-child count n (l ∷ levels) = refl

-- the level of an instance that was just entered
abbrev pub fresh : Label → Level
fresh x = record { region = x.region; work = x.work; path = x.path; children = [] }

pub taken_is : (f : Forest) (depth : ℕ) (s : State) → depth ≤ length s.levels
    → (closed_to depth (taken (nodes_of depth f) s) ≡ onto (walk f (closed_to depth s).dict) (closed_to depth s).levels)
    × (depth ≤ length (taken (nodes_of depth f) s).levels)
taken_is bare depth s deep =
    (λ i. record { dict = (closed_to depth s).dict; levels = sym (count_top-none (closed_to depth s).levels) i }, deep)
taken_is (grown x inner later) depth s deep =
    let before : State = closed_to depth s in
    let count = length-closed_to depth s deep in
    let entered : State = opened (node_at depth x) before in
    let opens : length entered.levels ≡ depth + 1 = omega arith in
    let inside : State = taken (nodes_of (depth + 1) inner) entered in
    let one = taken_is inner (depth + 1) entered (omega arith) in
    let first : closed_to (depth + 1) inside ≡ onto (walk inner before.dict) (fresh x ∷ before.levels) =
    one.0 ∙ ap (λ k. onto (walk inner k.dict) k.levels) (closed_to-none (depth + 1) entered (omega arith)) in
    let w : Walked = walk inner before.dict in
    let e : Entry = entry_at x (w.count []) in
    let second : closed_to depth inside ≡ record { dict = with_entry w.dict e; levels = with_child (number_of w.dict e) before.levels } =
    closed_to-last depth inside one.1 ∙ ap closed first in
    let two = taken_is later depth inside (let deeper = one.1 in omega arith) in
    let split : taken (nodes_of depth (grown x inner later)) s ≡ taken (nodes_of depth later) inside =
    taken-append (nodes_of (depth + 1) inner) (nodes_of depth later) entered in
    let v : Walked = walk later (with_entry w.dict e) in
    let P : State → Type 0 = λ k. depth ≤ length k.levels in (
      ap (closed_to depth) split ∙ two.0 ∙ ap (λ k. onto (walk later k.dict) k.levels) second
          ∙ (λ i. record { dict = v.dict; levels = count_top-child v.count (number_of w.dict e) before.levels i }),
      subst P (sym split) two.1,
    )

-- behind all nodes of a tree its entries are there
pub gathered_is : (t : Tree) → (gathered (list_of t)).dict ≡ (walk (alone t) []).dict
gathered_is t = ap (λ s. s.dict) (taken_is (alone t) 0 start (omega arith)).0
