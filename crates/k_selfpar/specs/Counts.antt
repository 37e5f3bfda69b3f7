-- For contracts between crates: nobody has to believe it.
-- How often each entry of a dictionary occurs in a tree, and what follows for sums over the tree.
use Rattle.std.specs.Prelude.{ℕ, ◌+◌, ◌*◌, ◌^◌, ◌<◌, ◌≡◌, List, [], ◌∷◌, length, Some, slice_get, slice_index_or, slice_set}
use Rattle.k_dict_entries.specs.declared.entry.Entry.{Entry}
use Rattle.k_dict_entries.specs.declared.entry.Run.{Run}

-- what children give together, where f tells what each entry gives
abbrev pub weighed : (ℕ → ℕ) → List Run → ℕ
weighed f [] = 0
weighed f (run ∷ runs) = run.count * f run.entry + weighed f runs

-- each entry gives a part of its own and what its children give
abbrev pub Adds : List Entry → (ℕ → ℕ) → (ℕ → ℕ) → Type 0
Adds entries own f = (n : ℕ) (e : Entry) → slice_get entries n ≡ Some e → f n ≡ own n + weighed f e.runs

-- what entries give, numbered from k on, each as often as it is counted
abbrev pub dot : ℕ → List ℕ → (ℕ → ℕ) → ℕ
dot k [] g = 0
dot k (count ∷ counts) g = count * g k + dot (k + 1) counts g

-- these numbers tell how often each entry up to the root's occurs in the root's tree: whatever entries give, what they give of their
-- own, as often as they are counted, is what the root gives
pub record AreCounts (entries : List Entry) (root : ℕ) (counts : List ℕ) : Type 0 where
  pub count : length counts ≡ root + 1
  pub adds : (own f : ℕ → ℕ) → Adds entries own f → dot 0 counts own ≡ f root

-- the counts with the children of so many instances that have these runs
abbrev pub with_children : ℕ → List ℕ → List Run → List ℕ
with_children count counts [] = counts
with_children count counts (run ∷ runs) =
    with_children count (slice_set counts run.entry (slice_index_or counts run.entry 0 + count * run.count)) runs

-- these children can be counted
abbrev pub CanCount : ℕ → List ℕ → List Run → Type 0
CanCount count counts [] = Unit {0}
CanCount count counts (run ∷ runs) =
    (run.entry < length counts) × (count * run.count < 2 ^ 64) × (slice_index_or counts run.entry 0 + count * run.count < 2 ^ 64)
    × CanCount count (slice_set counts run.entry (slice_index_or counts run.entry 0 + count * run.count)) runs
