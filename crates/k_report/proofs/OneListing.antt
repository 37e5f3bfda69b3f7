-- A run and its tree have one listing: there is one chosen path of an interval.
use Rattle.std.proofs.Common.{◌≡◌, ℕ, suc, ◌+◌, ◌<◌, ◌≤◌, inl, inr, List, [], ◌∷◌, ◌++◌, length, arith, refl, ap, sym, subst, ◌∙◌}
use Rattle.std.specs.List.{All}
use Rattle.std.proofs.lemmas.Bool.{cases_lt}
use Rattle.std.proofs.Math.Nat.{eq-or-lt_of_le}
use Rattle.k_optab.specs.declared.event.Src.{Src}
use Rattle.k_optab.specs.Events.{Operation, operations}
use Rattle.k_optab.proofs.Heaviest.{heaviest_unique, same_operation}
use Rattle.k_graph.specs.declared.tree.Instance.{Instance}
use Rattle.k_graph.specs.Chosen.{ChosenTo, HasNoSource, IsChosen, IsChosenSource, follows, starts}
use Rattle.k_ending.specs.declared.listing.Listing.{Listing}
use Rattle.k_report.specs.Graph.{AreInstanceLines, IsGraphText, IsHeaviestPath, IsWithin, end_line, event_lines, instance_line}

-- a chosen source is no later than another
no_later : (ops : List Operation) (s : ℕ) (sources : List Src) (j k : ℕ) (one : IsChosenSource ops s sources j) (other : IsChosenSource ops s sources k)
    → (other.weight ≤ one.weight) × (one.weight ≤ other.weight → j ≤ k)
no_later ops s sources j k one other = elim (one.first k other.weight other.listed other.within other.heaviest) [
  | inl less ↦ (omega arith, λ same. absurd (omega arith))
  | inr equal ↦ (let same = equal.0 in omega arith, λ same. equal.1)
]

-- there is one chosen source
one_source : (ops : List Operation) (s : ℕ) (sources : List Src) (j k : ℕ) → IsChosenSource ops s sources j → IsChosenSource ops s sources k → j ≡ k
one_source ops s sources j k one other =
    let here = no_later ops s sources j k one other in
    let there = no_later ops s sources k j other one in
    let low : j ≤ k = here.1 there.0 in
    let high : k ≤ j = there.1 here.0 in
    omega arith

-- where there is no source, none is chosen
none_chosen : (ops : List Operation) (s : ℕ) (sources : List Src) (j : ℕ) → HasNoSource ops s sources → IsChosenSource ops s sources j → ⊥
none_chosen ops s sources j none one = let zero_is : one.weight ≡ 0 = none j one.weight one.listed one.within one.heaviest in let above = one.above in absurd (omega arith)

-- there is one chosen path to an operation
one_path : (ops : List Operation) (s k : ℕ) (one other : List ℕ) → ChosenTo ops s k one → ChosenTo ops s k other → one ≡ other
one_path ops s _ _ _ (starts k op is none) (starts _ op' is' none') = refl
one_path ops s _ _ _ (starts k op is none) (follows j _ nodes op' _ is' source) =
    absurd (none_chosen ops s op'.sources j (subst (λ (o : Operation). HasNoSource ops s o.sources) (same_operation ops k op op' is is') none) source)
one_path ops s _ _ _ (follows j k nodes op _ is source) (starts _ op' is' none') =
    absurd (none_chosen ops s op.sources j (subst (λ (o : Operation). HasNoSource ops s o.sources) (same_operation ops k op' op is' is) none') source)
one_path ops s _ _ _ (follows j k nodes op path is source) (follows j' _ nodes' op' path' is' source') =
    let same : j ≡ j' = one_source ops s op'.sources j j' (subst (λ (o : Operation). IsChosenSource ops s o.sources j) (same_operation ops k op op' is is') source) source' in
    ap (λ l. l ++ k ∷ []) (one_path ops s j nodes nodes' path (subst (λ n. ChosenTo ops s n nodes') (sym same) path'))

-- the operation at which a heaviest path is chosen to end is no later than another
last_first : (ops : List Operation) (s e p : ℕ) (one other : List ℕ) (f : IsChosen ops s e p one) (g : IsChosen ops s e p other) → g.last ≤ f.last
last_first ops s e p one other f g = elim (cases_lt f.last g.last) [
  | inl less ↦ (let again : p < p = g.first f.last p f.from_start less f.weighs in absurd (omega arith))
  | inr high ↦ high
]

-- there is one chosen path of a weight
one_chosen : (ops : List Operation) (s e p : ℕ) (one other : List ℕ) → IsChosen ops s e p one → IsChosen ops s e p other → one ≡ other
one_chosen ops s e p one other f g =
    let low = last_first ops s e p one other f g in
    let high = last_first ops s e p other one g f in
    let same : g.last ≡ f.last = omega arith in
    one_path ops s f.last one other f.path (subst (λ k. ChosenTo ops s k other) same g.path)

-- there is one chosen path of an instance
one_heaviest : (ops : List Operation) (n : Instance) (one other : List ℕ) → n.start ≤ n.end → IsHeaviestPath ops n one → IsHeaviestPath ops n other → one ≡ other
one_heaviest ops n one other in_order f g = elim (eq-or-lt_of_le in_order) [
  | inl empty ↦ f.none empty ∙ sym (g.none empty)
  | inr some ↦
      (let a = f.some some in let b = g.some some in
      let same : b.weight ≡ a.weight = heaviest_unique ops n.start n.end b.weight a.weight b.heaviest a.heaviest in
      one_chosen ops n.start n.end a.weight one other a.chosen (subst (λ p. IsChosen ops n.start n.end p other) same b.chosen))
]

-- there is one list of lines of instances
one_lines : (ops : List Operation) (i made : ℕ) (tree : List Instance) (one other : List ℕ) → All (IsWithin made) tree → AreInstanceLines ops i tree one
    → AreInstanceLines ops i tree other → one ≡ other
one_lines ops i made [] one other within f g = f ∙ sym g
one_lines ops i made (n ∷ tree) one other within (nodes, later, path, lines, is) (nodes', later', path', lines', is') =
    let first : IsWithin made n = within 0 n (omega arith) in
    let same : nodes ≡ nodes' = one_heaviest ops n nodes nodes' first.in_order path path' in
    let rest : later ≡ later' = one_lines ops (i + 1) made tree later later' (λ k d low. within (suc k) d (omega arith)) lines lines' in
    is ∙ (λ t. instance_line i n (same t) ++ rest t) ∙ sym is'

-- there is one listing
pub one_listing : (listing : Listing) (tree : List Instance) (one other : List ℕ) → All (IsWithin (length (operations listing.events))) tree
    → IsGraphText listing tree one → IsGraphText listing tree other → one ≡ other
one_listing listing tree one other within f g =
    let same : f.instances ≡ g.instances = one_lines (operations listing.events) 0 (length (operations listing.events)) tree f.instances g.instances within f.are g.are in
    f.text_is ∙ ap (λ lines. event_lines 0 listing.events ++ lines ++ end_line listing.end) same ∙ sym g.text_is
