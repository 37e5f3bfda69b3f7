-- What is given back by itself without numbers and by its numbers, and lists of it.
use Rattle.std.proofs.Common.{ℕ, ◌≡◌, List, [], ◌∷◌, ◌++◌, map, append_assoc, refl}
use Rattle.k_types_meaning.specs.Numbered.{Numbers, listed}
use Rattle.k_types_meaning.proofs.Filling.{Filling, Fill, fill_list}

-- from these numbers, and any behind them, this is filled in to x
abbrev pub Fills : {A : Type 0} → Numbers → Filling A → A → Type 0
Fills n fill x = (ns ss ls : List ℕ) → fill (n.nodes ++ ns) (n.strings ++ ss) (n.loops ++ ls) ≡ (x, ns, ss, ls)

-- a list, of whose items it is known
pub list_filled : {A : Type 0} (bare : A → A) (numbers : A → Numbers) (fill : A → Fill A) → ((x : A) → Fills (numbers x) (fill (bare x)).from x)
    → (xs : List A) → Fills (listed (map numbers xs)) (fill_list (map fill (map bare xs))) xs
list_filled bare numbers fill each [] ns ss ls = refl
list_filled bare numbers fill each (x ∷ xs) ns ss ls = simp (append_assoc, each x, list_filled bare numbers fill each xs)

-- a list, of whose items it is known what they are filled in to
pub list_filled_to : {A : Type 0} (to : A → A) (bare : A → A) (numbers : A → Numbers) (fill : A → Fill A) → ((x : A) → Fills (numbers x) (fill (bare x)).from (to x))
    → (xs : List A) → Fills (listed (map numbers xs)) (fill_list (map fill (map bare xs))) (map to xs)
list_filled_to to bare numbers fill each [] ns ss ls = refl
list_filled_to to bare numbers fill each (x ∷ xs) ns ss ls = simp (append_assoc, each x, list_filled_to to bare numbers fill each xs)
