-- Laws of numbers that count on: of parts one after the other, of a node before its parts, and of lists.
use Rattle.std.proofs.Common.{ℕ, suc, ◌≡◌, ◌+◌, ◌<◌, ◌≤◌, List, [], ◌∷◌, ◌++◌, map, length, take, drop, get_or, refl, sym, ap, ◌∙◌, subst, add-one, add-zero, append_assoc, arith}
use Rattle.std.proofs.Math.ListN.{set}
use Rattle.std.proofs.Math.Seq.{map-set_same}
use Rattle.std.proofs.lemmas.List.{append-nil, drop_all, get_or-set_other, length-set, map-append, take_all, take_more_set}
use Rattle.k_num.specs.declared.place.Place.{Place}
use Rattle.k_types_meaning.specs.declared.tree.unit.TString.{TString}
use Rattle.k_types_meaning.specs.Numbered.{Numbers, nothing, before, listed, node_before, numbers_from}
use Rattle.k_types_numbers.specs.declared.counts.Counts.{Counts}
use Rattle.k_types_numbers.specs.Counting.{Rises, Counted}
use Rattle.k_types_numbers.specs.Renumbering.{Renumbers, RenumbersBehind, one_loop}
use Rattle.k_types_numbers.specs.Steps.{node_counted, loop_counted, string_counted}

-- numbers that rise, and numbers that rise from there
pub rises-append : (m : ℕ) (xs ys : List ℕ) (k n : ℕ) → Rises m xs k → Rises k ys n → Rises m (xs ++ ys) n
rises-append m [] ys k n h g = subst (λ (j : ℕ). Rises j ys n) h g
rises-append m (x ∷ xs) ys k n h g = (h.0, rises-append (suc m) xs ys k n h.1 g)

-- numbers that rise are counted, and so is where they end
pub rises_from : (m : ℕ) (xs : List ℕ) (n : ℕ) → Rises m xs n → (xs ≡ numbers_from m (length xs)) × (n ≡ m + length xs)
rises_from m [] n h = (refl, h ∙ sym (add-zero m))
rises_from m (x ∷ xs) n h =
    let rest : (xs ≡ numbers_from (suc m) (length xs)) × (n ≡ suc m + length xs) = rises_from (suc m) xs n h.1 in
    ((λ i. h.0 i ∷ rest.0 i), omega (arith, rest.1))

-- nothing is counted of nothing
pub nothing_more : (s : Counts) → Counted nothing s s
nothing_more s = record { nodes = refl; strings = refl; loops = refl; texts = sym (append-nil s.texts) }

-- two parts, one after the other
pub both_counted : (a b : Numbers) (s m t : Counts) → Counted a s m → Counted b m t → Counted (before a b) s t
both_counted a b s m t h g = record {
  nodes = rises-append s.nodes a.nodes b.nodes m.nodes t.nodes h.nodes g.nodes;
  strings = rises-append s.strings a.strings b.strings m.strings t.strings h.strings g.strings;
  loops = rises-append s.loops a.loops b.loops m.loops t.loops h.loops g.loops;
  texts = g.texts ∙ (ap (λ (xs : List TString). xs ++ b.texts) h.texts ∙ append_assoc s.texts a.texts b.texts);
}

-- a node before its parts
pub node_first : (n : Numbers) (number : ℕ) (s m t : Counts) → number ≡ s.nodes → m ≡ node_counted s → Counted n m t → Counted (node_before number n) s t
node_first n number s m t is moved h =
    let g : Counted n (node_counted s) t = subst (λ (c : Counts). Counted n c t) moved h in
    record {
      nodes = (is, subst (λ (j : ℕ). Rises j n.nodes t.nodes) (add-one s.nodes) g.nodes);
      strings = g.strings;
      loops = g.loops;
      texts = g.texts;
    }

-- a loop before its parts
pub loop_first : (n : Numbers) (turns : ℕ) (s m t : Counts) → turns ≡ s.loops → m ≡ loop_counted s → Counted n m t → Counted (one_loop turns n) s t
loop_first n turns s m t is moved h =
    let g : Counted n (loop_counted s) t = subst (λ (c : Counts). Counted n c t) moved h in
    record {
      nodes = g.nodes;
      strings = g.strings;
      loops = (is, subst (λ (j : ℕ). Rises j n.loops t.loops) (add-one s.loops) g.loops);
      texts = g.texts;
    }

-- what is listed of a string but for its node
abbrev pub one_string : ℕ → Place → List ℕ → Numbers
one_string n p bytes = record { nodes = []; strings = n ∷ []; texts = record { place = p; bytes = bytes } ∷ []; loops = [] }

-- a string
pub string_first : (p : Place) (bytes : List ℕ) (n : ℕ) (s t : Counts) → n ≡ s.strings → t ≡ string_counted p bytes s → Counted (one_string n p bytes) s t
string_first p bytes n s t is moved =
    let g : Counted (one_string n p bytes) s (string_counted p bytes s) = record { nodes = refl; strings = (is, add-one s.strings); loops = refl; texts = refl } in
    subst (λ (c : Counts). Counted (one_string n p bytes) s c) (sym moved) g

-- a node with its number and its parts with theirs is numbered
pub numbered_by : (A : Type 0) (bare : A → A) (numbers : A → Numbers) (number : ℕ) (a b : A) (s m t : Counts) → number ≡ s.nodes → m ≡ node_counted s
    → RenumbersBehind A bare numbers number a b m t → Renumbers A bare numbers a b s t
numbered_by A bare numbers number a b s m t is moved h = record {
  same = h.same;
  counted = subst (λ (n : Numbers). Counted n s t) (sym h.listed) (node_first h.parts number s m t is moved h.counted);
}

-- three parts in a row
pub before-assoc : (a b c : Numbers) → before a (before b c) ≡ before (before a b) c
before-assoc a b c = λ i. record {
  nodes = sym (append_assoc a.nodes b.nodes c.nodes) i;
  strings = sym (append_assoc a.strings b.strings c.strings) i;
  texts = sym (append_assoc a.texts b.texts c.texts) i;
  loops = sym (append_assoc a.loops b.loops c.loops) i;
}

-- nothing behind a part
pub before-nothing : (a : Numbers) → before a nothing ≡ a
before-nothing a = λ i. record {
  nodes = append-nil a.nodes i;
  strings = append-nil a.strings i;
  texts = append-nil a.texts i;
  loops = append-nil a.loops i;
}

-- parts and parts behind them
pub listed-append : (as_ bs : List Numbers) → listed (as_ ++ bs) ≡ before (listed as_) (listed bs)
listed-append [] bs = refl
listed-append (a ∷ as_) bs = ap (λ (n : Numbers). before a n) (listed-append as_ bs) ∙ before-assoc a (listed as_) (listed bs)

-- one part more
pub listed-more : (A : Type 0) (numbers : A → Numbers) (xs : List A) (y : A)
    → listed (map numbers (xs ++ y ∷ [])) ≡ before (listed (map numbers xs)) (numbers y)
listed-more A numbers xs y =
    ap listed (map-append numbers xs (y ∷ []))
    ∙ (listed-append (map numbers xs) (numbers y ∷ []) ∙ ap (λ (n : Numbers). before (listed (map numbers xs)) n) (before-nothing (numbers y)))

-- The list `ys` is `xs` but for its numbers, and those of its first `i` items count on from `s` up to `t`.
pub record SoFar (A : Type 0) (bare : A → A) (numbers : A → Numbers) (xs ys : List A) (i : ℕ) (s t : Counts) : Type 0 where
  pub same : map bare ys ≡ map bare xs
  pub counted : Counted (listed (map numbers (take i ys))) s t

-- at the start
pub list_begun : (A : Type 0) (bare : A → A) (numbers : A → Numbers) (xs : List A) (s : Counts) → SoFar A bare numbers xs xs 0 s s
list_begun A bare numbers xs s = record { same = refl; counted = nothing_more s }

-- with one item more
pub list_more : (A : Type 0) (bare : A → A) (numbers : A → Numbers) (xs ys : List A) (i : ℕ) (y d : A) (s m t : Counts) → i < length ys
    → SoFar A bare numbers xs ys i s m → Renumbers A bare numbers (get_or ys i d) y m t → SoFar A bare numbers xs (set ys i y) (i + 1) s t
list_more A bare numbers xs ys i y d s m t within h k =
    let e : listed (map numbers (take (i + 1) (set ys i y))) ≡ before (listed (map numbers (take i ys))) (numbers y) =
    ap (λ (l : List A). listed (map numbers l)) (take_more_set ys i y within) ∙ listed-more A numbers (take i ys) y in
    record {
      same = map-set_same bare ys i y d k.same ∙ h.same;
      counted = subst (λ (n : Numbers). Counted n s t) (sym e) (both_counted (listed (map numbers (take i ys))) (numbers y) s m t h.counted k.counted);
    }

-- at the end
pub list_done : (A : Type 0) (bare : A → A) (numbers : A → Numbers) (xs ys : List A) (i : ℕ) (s t : Counts) → length ys ≤ i
    → SoFar A bare numbers xs ys i s t → Renumbers (List A) (map bare) (λ l. listed (map numbers l)) xs ys s t
list_done A bare numbers xs ys i s t ended h = record {
  same = h.same;
  counted = subst (λ (l : List A). Counted (listed (map numbers l)) s t) (take_all i ys ended) h.counted;
}

-- what a value becomes that is known to be of some form
pub numbered_of : (A : Type 0) (bare : A → A) (numbers : A → Numbers) (number : ℕ) (a d b : A) (s t : Counts) → a ≡ d
    → RenumbersBehind A bare numbers number d b s t → RenumbersBehind A bare numbers number a b s t
numbered_of A bare numbers number a d b s t is h =
    record { parts = h.parts; same = h.same ∙ sym (ap bare is); listed = h.listed; counted = h.counted }

-- a list that was lent as a slice, which keeps its length, ends as the slice does
pub lent : (A : Type 0) (xs ws : List A) → length ws ≡ length xs → take (length xs) (ws ++ drop (length ws) xs) ≡ ws
lent A xs ws same =
    let all : drop (length ws) xs ≡ [] = drop_all (length ws) xs (omega (arith, same)) in
    ap (λ (l : List A). take (length xs) (ws ++ l)) all
    ∙ (ap (take (length xs)) (append-nil ws) ∙ take_all (length xs) ws (omega (arith, same)))

-- the same of what is numbered in a list that was lent
pub list_lent : (A : Type 0) (bare : A → A) (numbers : A → Numbers) (xs ys ws : List A) (s t : Counts) → ys ≡ xs → length ws ≡ length ys
    → Renumbers (List A) (map bare) (λ l. listed (map numbers l)) ys ws s t
    → Renumbers (List A) (map bare) (λ l. listed (map numbers l)) xs (take (length xs) (ws ++ drop (length ws) xs)) s t
list_lent A bare numbers xs ys ws s t is same h =
    let g : Renumbers (List A) (map bare) (λ l. listed (map numbers l)) xs ws s t =
    subst (λ (l : List A). Renumbers (List A) (map bare) (λ m. listed (map numbers m)) l ws s t) is h in
    subst (λ (l : List A). Renumbers (List A) (map bare) (λ m. listed (map numbers m)) xs l s t) (sym (lent A xs ws (same ∙ ap length is))) g

-- what is not visited yet is as it was, with one item more visited
pub unvisited_more : (A : Type 0) (xs ys : List A) (i : ℕ) (y : A)
    → (length ys ≡ length xs) × ((k : ℕ) (d : A) → i ≤ k → get_or ys k d ≡ get_or xs k d)
    → (length (set ys i y) ≡ length xs) × ((k : ℕ) (d : A) → i + 1 ≤ k → get_or (set ys i y) k d ≡ get_or xs k d)
unvisited_more A xs ys i y h = (
  length-set ys i y ∙ h.0,
  λ k d above. get_or-set_other ys i k y d (λ (e : k ≡ i). omega (arith, e, above)) ∙ h.1 k d (omega (arith, above)),
)

-- what was lent is known by another name
pub renumbers_of : (A : Type 0) (bare : A → A) (numbers : A → Numbers) (a d b : A) (s t : Counts) → a ≡ d
    → Renumbers A bare numbers a b s t → Renumbers A bare numbers d b s t
renumbers_of A bare numbers a d b s t is h = record { same = h.same ∙ ap bare is; counted = h.counted }

-- what it ends as, under another name
pub ends_as : (A : Type 0) (bare : A → A) (numbers : A → Numbers) (number : ℕ) (a b f : A) (s t : Counts)
    → RenumbersBehind A bare numbers number a f s t → b ≡ f → RenumbersBehind A bare numbers number a b s t
ends_as A bare numbers number a b f s t h is = subst (λ (x : A). RenumbersBehind A bare numbers number a x s t) (sym is) h

-- what is known to be of some form, and ends as another one
pub renumbers_as : (A : Type 0) (bare : A → A) (numbers : A → Numbers) (a d b f : A) (s t : Counts) → Renumbers A bare numbers d f s t → a ≡ d → b ≡ f
    → Renumbers A bare numbers a b s t
renumbers_as A bare numbers a d b f s t h is ended =
    subst (λ (x : A). Renumbers A bare numbers a x s t) (sym ended) (record { same = h.same ∙ sym (ap bare is); counted = h.counted })
