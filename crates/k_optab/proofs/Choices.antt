-- The paths of chosen instances together are at most their serial times.
use Rattle.std.proofs.Common.{◌≡◌, ℕ, ◌+◌, ◌≤◌, Bool, true, false, cond, List, [], ◌∷◌, refl, sym, ◌∙◌, ap, arith}
use Rattle.std.specs.Prelude.{All, Contains, filter, ◌==◌, if◌then◌else◌}
use Rattle.std.proofs.lemmas.List.Elements.{All-cons, All-contains, All-contains_itself, All-filter, All-head, All-nil, All-tail}
use Rattle.std.proofs.lemmas.List.Sums.{sum_by-cons}
use Rattle.k_optab.specs.declared.node.Node.{Node}
use Rattle.k_optab.specs.Meaning.{HasBoundedPath, HaveBoundedPaths, Member, children, member_paths, member_serial, members, paths, serial, serial_of}

-- this instance has a bounded path
abbrev IsBounded : Member → Type 0
IsBounded m = HasBoundedPath m.node (children m.node m.later)

members_bounded : (nodes : List Node) → HaveBoundedPaths nodes → All IsBounded (members nodes)
members_bounded [] bounded = All-nil IsBounded
members_bounded (node ∷ later) bounded =
    All-cons IsBounded (record { node = node; later = later }) (members later) bounded.0 (members_bounded later bounded.1)

pub choices_are_bounded : (nodes : List Node) (chosen : List Member) → HaveBoundedPaths nodes → All (Contains (members nodes)) chosen
    → member_paths chosen ≤ member_serial chosen
choices_are_bounded nodes [] bounded all = omega arith
choices_are_bounded nodes (m ∷ chosen) bounded all =
    let there : Contains (members nodes) m = All-head (Contains (members nodes)) m chosen all in
    let its : IsBounded m = All-contains IsBounded (members nodes) m (members_bounded nodes bounded) there in
    let rest : member_paths chosen ≤ member_serial chosen = choices_are_bounded nodes chosen bounded (All-tail (Contains (members nodes)) m chosen all) in
    let short : m.node.path ≤ serial m.node m.later = its.parts in
    let whole_paths : member_paths (m ∷ chosen) ≡ m.node.path + member_paths chosen = sum_by-cons (λ (x : Member). x.node.path) m chosen in
    let whole_serial : member_serial (m ∷ chosen) ≡ serial m.node m.later + member_serial chosen =
    sum_by-cons (λ (x : Member). serial x.node x.later) m chosen in
    omega arith

-- the instances of a region
abbrev of_region : ℕ → List Node → List Member
of_region region nodes = filter (λ m. m.node.region == region) (members nodes)

paths_with : (b : Bool) (m : Member) (chosen : List Member) (nodes : List Node) → member_paths chosen ≡ paths nodes
    → member_paths (cond b (m ∷ chosen) chosen) ≡ paths (cond b (m.node ∷ nodes) nodes)
paths_with true m chosen nodes same =
    sum_by-cons (λ (x : Member). x.node.path) m chosen
    ∙ (ap (λ t. m.node.path + t) same ∙ sym (sum_by-cons (λ (n : Node). n.path) m.node nodes))
paths_with false m chosen nodes same = same

serial_with : (b : Bool) (m : Member) (chosen : List Member) (total : ℕ) → member_serial chosen ≡ total
    → member_serial (cond b (m ∷ chosen) chosen) ≡ (if b then serial m.node m.later else 0) + total
serial_with true m chosen total same =
    sum_by-cons (λ (x : Member). serial x.node x.later) m chosen ∙ ap (λ t. serial m.node m.later + t) same
serial_with false m chosen total same = omega arith

region_paths : (region : ℕ) (nodes : List Node) → member_paths (of_region region nodes) ≡ paths (filter (λ n. n.region == region) nodes)
region_paths region [] = refl
region_paths region (n ∷ later) =
    paths_with (n.region == region) (record { node = n; later = later }) (of_region region later) (filter (λ n. n.region == region) later)
    (region_paths region later)

region_serial : (region : ℕ) (nodes : List Node) → member_serial (of_region region nodes) ≡ serial_of region nodes
region_serial region [] = refl
region_serial region (n ∷ later) =
    serial_with (n.region == region) (record { node = n; later = later }) (of_region region later) (serial_of region later)
    (region_serial region later)

pub regions_are_bounded : (region : ℕ) (nodes : List Node) → HaveBoundedPaths nodes → paths (filter (λ n. n.region == region) nodes) ≤ serial_of region nodes
regions_are_bounded region nodes bounded =
    let short : member_paths (of_region region nodes) ≤ member_serial (of_region region nodes) =
    choices_are_bounded nodes (of_region region nodes) bounded
    (All-filter (λ m. m.node.region == region) (Contains (members nodes)) (members nodes) (All-contains_itself (members nodes))) in
    let one = region_paths region nodes in
    let two = region_serial region nodes in
    omega arith
