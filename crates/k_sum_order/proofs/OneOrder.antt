-- Dictionaries in order that stand for the same trees are one.
use Rattle.std.proofs.Common.{◌≡◌, ℕ, zero, suc, ◌<◌, inl, inr, List, [], ◌∷◌, length, Option, Some, None, slice_get, refl, sym, ap, ◌∙◌, subst, arith}
use Rattle.std.proofs.lemmas.Bool.{cases_lt, cases_order}
use Rattle.std.proofs.lemmas.Option.{none-some, same_Some, slice_get-get_or, slice_get_within}
use Rattle.k_dict_entries.specs.Entries.{NameEarlier, label_of, laid, tree_at, tree_of, trees_of}
use Rattle.k_dict_entries.specs.Gathering.{number_of}
use Rattle.k_dict_entries.specs.Laws.{HaveLikes}
use Rattle.k_dict_entries.specs.Rules.{entry_of, no_entry}
use Rattle.k_dict_entries.specs.Trees.{SameShape, Tree}
use Rattle.k_dict_entries.specs.declared.entry.Entry.{Entry}
use Rattle.k_dict_entries.proofs.Coding.{AreProper, code, code-entry, code-laid, code_alike, entry_at, number_in}
use Rattle.k_dict_entries.proofs.EntryTrees.{tree_is}
use Rattle.k_dict_entries.proofs.Lists.{same_tree}
use Rattle.k_dict_entries.proofs.Numbers.{number_found}
use Rattle.k_sum_order.specs.Laws.{OrderIsOne}
use Rattle.k_sum_order.specs.Order.{AreInOrder}
use Rattle.k_sum_order.proofs.Comparing.{before_not, order_apart}

-- lists with the same items in the same places are one
same_list : (xs ys : List Entry) → ((n : ℕ) → slice_get xs n ≡ slice_get ys n) → xs ≡ ys
same_list [] [] each = refl
same_list [] (y ∷ ys) each = absurd (none-some y (each 0))
same_list (x ∷ xs) [] each = absurd (none-some x (sym (each 0)))
same_list (x ∷ xs) (y ∷ ys) each =
    let first : x ≡ y = same_Some x y (each 0) in
    let rest : xs ≡ ys = same_list xs ys (λ n. each (suc n)) in
    λ i. first i ∷ rest i

-- the entry of a number that is there
pub entry_there : (entries : List Entry) (n : ℕ) → n < length entries → slice_get entries n ≡ Some (entry_of entries n)
entry_there entries n within = slice_get-get_or entries n no_entry within

-- entries in order that name earlier ones
pub proper_order : (entries : List Entry) → NameEarlier entries → AreInOrder entries → AreProper entries
proper_order entries earlier order = record { earlier = earlier; apart = order_apart entries order }

-- the first entries of two dictionaries are the same
abbrev AgreeTo : List Entry → List Entry → ℕ → Type 0
AgreeTo one other n = (k : ℕ) → k < n → slice_get one k ≡ slice_get other k

module _ (one other : List Entry) (are : AreProper one) (others : AreProper other) (likes : HaveLikes one other) (n : ℕ) (agree : AgreeTo one other n) where
  number_kept : (fuel k : ℕ) → k < fuel → k < n → k < length one → number_in other (tree_at one k) ≡ k
  number_kept zero k less low within = absurd (omega arith)
  number_kept (suc fuel) k less low within =
      let d : Entry = entry_of one k in
      let at : slice_get one k ≡ Some d = entry_there one k within in
      let at' : slice_get other k ≡ Some d = sym (agree k low) ∙ at in
      let coded : code other (laid (trees_of one) d.runs) [] ≡ d.runs =
      code-laid other (trees_of one) 0 k d.runs [] (λ m lower. number_kept fuel m (omega arith) (omega arith) (omega arith)) (are.earlier k d at) tt in
      let tree : tree_at one k ≡ tree_of (trees_of one) d = tree_is one k d at (are.earlier k d at) in
      let same : entry_at (label_of d) (code other (laid (trees_of one) d.runs) []) ≡ d = ap (entry_at (label_of d)) coded in
      let number : number_of other d ≡ k = others.apart (number_of other d) k d (number_found other d k at') at' in
      ap (number_in other) tree ∙ ap (number_of other) same ∙ number

  -- an entry behind them is one of the other's entries
  found : (e : Entry) → slice_get one n ≡ Some e → (m : ℕ) × (slice_get other m ≡ Some e)
  found e at =
      let within : n < length one = slice_get_within one n e at in
      let like = likes n within in
      let m : ℕ = like.0 in
      let alike = like.2 in
      let d : Entry = entry_of other m in
      let there : slice_get other m ≡ Some d = entry_there other m like.1 in
      let first : alike.0 ≡ tree_of (trees_of one) e = sym (same_tree (tree_at one n) alike.0 alike.2) ∙ tree_is one n e at (are.earlier n e at) in
      let second : alike.1 ≡ tree_of (trees_of other) d = sym (same_tree (tree_at other m) alike.1 alike.3) ∙ tree_is other m d there (others.earlier m d there) in
      let P : Tree → Type 0 = λ t. SameShape t (tree_of (trees_of other) d) in
      let Q : Tree → Type 0 = λ t. SameShape alike.0 t in
      let same : SameShape (tree_of (trees_of one) e) (tree_of (trees_of other) d) = subst P first (subst Q second alike.4) in
      let coded : code other (laid (trees_of one) e.runs) [] ≡ e.runs =
      code-laid other (trees_of one) 0 n e.runs [] (λ k lower. number_kept (suc k) k (omega arith) lower (omega arith)) (are.earlier n e at) tt in
      let runs : d.runs ≡ e.runs =
      sym (code-entry other others m d there) ∙ sym (code_alike other (laid (trees_of one) e.runs) (laid (trees_of other) d.runs) same.inner []) ∙ coded in
      let label = same.label in
      let whole : d ≡ e = λ i. entry_at (sym label i) (runs i) in
      (m, there ∙ ap Some whole)

module _ (one other : List Entry) (earlier : NameEarlier one) (others_earlier : NameEarlier other) (order : AreInOrder one) (others_order : AreInOrder other)
    (likes : HaveLikes one other) (back : HaveLikes other one) where
  are : AreProper one
  are = proper_order one earlier order

  others : AreProper other
  others = proper_order other others_earlier others_order

  next : (n : ℕ) → AgreeTo one other n → (e : Entry) → slice_get one n ≡ Some e → slice_get other n ≡ Some e
  next n agree e at =
      let there = found one other are others likes n agree e at in
      let m : ℕ = there.0 in
      let turned : AgreeTo other one n = λ k less. sym (agree k less) in
      elim (cases_order m n) [
        | inl same ↦ (let P : ℕ → Type 0 = λ k. slice_get other k ≡ Some e in subst P same there.1)
        | inr order' ↦ elim order' [
          | inl less ↦ (let same : m ≡ n = are.apart m n e (agree m less ∙ there.1) at in absurd (omega arith))
          | inr more ↦ (let inside = slice_get_within other m e there.1 in
              let f : Entry = entry_of other n in
              let here : slice_get other n ≡ Some f = entry_there other n (omega arith) in
              let found' = found other one others are back n turned f here in
              let k : ℕ = found'.0 in
              elim (cases_order k n) [
                | inl same ↦ (let P : ℕ → Type 0 = λ j. slice_get one j ≡ Some f in
                    let one_is : f ≡ e = same_Some f e (sym (subst P same found'.1) ∙ at) in here ∙ ap Some one_is)
                | inr order'' ↦ elim order'' [
                  | inl less ↦ (let same : k ≡ n = others.apart k n f (sym (agree k less) ∙ found'.1) here in absurd (omega arith))
                  | inr more' ↦ absurd (before_not e f (order n k e f more' at found'.1) (others_order n m f e more here there.1))
                ]
              ])
        ]
      ]

module _ (one other : List Entry) (earlier : NameEarlier one) (others_earlier : NameEarlier other) (order : AreInOrder one) (others_order : AreInOrder other)
    (likes : HaveLikes one other) (back : HaveLikes other one) where
  here : (n : ℕ) → AgreeTo one other n → slice_get one n ≡ slice_get other n
  here n agree = by (slice_get one n) refl (slice_get other n) refl
    where
      by : (x : Option Entry) → slice_get one n ≡ x → (y : Option Entry) → slice_get other n ≡ y → slice_get one n ≡ slice_get other n
      by (Some e) at y at' = at ∙ sym (next one other earlier others_earlier order others_order likes back n agree e at)
      by None at (Some f) at' = next other one others_earlier earlier others_order order back likes n (λ k less. sym (agree k less)) f at' ∙ sym at'
      by None at None at' = at ∙ sym at'

  all : (n : ℕ) → AgreeTo one other n
  all zero k less = absurd (omega arith)
  all (suc n) k less = elim (cases_lt k n) [
    | inl low ↦ all n k low
    | inr high ↦ (let same : k ≡ n = omega arith in let P : ℕ → Type 0 = λ j. slice_get one j ≡ slice_get other j in subst P (sym same) (here n (all n)))
  ]

pub order_is_one : OrderIsOne
order_is_one one other earlier others_earlier order others_order likes back =
    same_list one other (λ n. all one other earlier others_earlier order others_order likes back (suc n) n (omega arith))
