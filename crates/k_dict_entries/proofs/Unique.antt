-- A tree has one dictionary, of which the last entry stands for the tree.
use Rattle.std.proofs.Common.{◌≡◌, ℕ, zero, suc, ◌+◌, ◌<◌, ◌≤◌, ◌⊎◌, inl, inr, List, [], ◌∷◌, ◌++◌, length, get_or, Some, slice_get, refl, sym, ap, ◌∙◌, subst, arith, length-append}
use Rattle.std.proofs.lemmas.List.{ext_get_or}
use Rattle.std.proofs.lemmas.Option.{none-some, same_Some, slice_get_within, slice_get-get_or, get_or_from_slice_get}
use Rattle.k_optab.specs.declared.node.Node.{Node}
use Rattle.k_optab.specs.Tree.{EachWith}
use Rattle.k_dict_entries.specs.Trees.{Forest, Tree, bare, grown, SameShape, alone, post_order, size}
use Rattle.k_dict_entries.specs.Entries.{NameEarlier, label_of, no_tree, tree_at, tree_of, trees_of}
use Rattle.k_dict_entries.specs.Dictionary.{Firsts, ended, again, anew, IsDictionaryOf}
use Rattle.k_dict_entries.specs.Gathering.{number_of}
use Rattle.k_dict_entries.specs.Laws.{AreAlike, DictionaryExists, DictionaryExpands, DictionaryIsUnique}
use Rattle.k_dict_entries.specs.declared.entry.Entry.{Entry}
use Rattle.k_dict_entries.proofs.Coding.{AreProper, code, code-entry, code-laid, code_alike, entry_at, number_below, number_in}
use Rattle.k_dict_entries.proofs.EntryTrees.{length-trees, tree_is}
use Rattle.k_dict_entries.proofs.Forests.{Alike-size, SameShape-further, SameShape-sym}
use Rattle.k_dict_entries.proofs.Lists.{same_tree}
use Rattle.k_dict_entries.proofs.Ordered.{is_of_tree}
use Rattle.k_dict_entries.proofs.Places.{place_behind, place_of_push}
use Rattle.k_dict_entries.proofs.Walking.{EachWith-at, EachWith-back, tree_there, walk, walk_is}

-- the first trees are the same ones
pub Firsts-unique : (Same : Tree → Tree → Type 0) (kept trees one other : List Tree) → Firsts Same kept trees one → Firsts Same kept trees other → one ≡ other
Firsts-unique Same _ _ _ _ (ended kept) (ended _) = refl
Firsts-unique Same _ _ one other (again t kept trees _ n k at same first) (again _ _ _ _ m j at' same' second) = Firsts-unique Same kept trees one other first second
Firsts-unique Same _ _ one other (again t kept trees _ n k at same first) (anew _ _ _ _ none second) = absurd (none n k at same)
Firsts-unique Same _ _ one other (anew t kept trees _ none first) (again _ _ _ _ n k at same second) = absurd (none n k at same)
Firsts-unique Same _ _ one other (anew t kept trees _ none first) (anew _ _ _ _ none' second) = Firsts-unique Same (kept ++ t ∷ []) trees one other first second

-- no two of these trees have one shape
abbrev pub HaveShapesApart : List Tree → Type 0
HaveShapesApart trees = (m n : ℕ) (s t : Tree) → slice_get trees m ≡ Some s → slice_get trees n ≡ Some t → SameShape s t → m ≡ n

apart_with : (kept : List Tree) (t : Tree) → HaveShapesApart kept → ((n : ℕ) (k : Tree) → slice_get kept n ≡ Some k → ¬ SameShape t k)
    → HaveShapesApart (kept ++ t ∷ [])
apart_with kept t apart none m n u v at other same = elim (place_of_push kept t m u at) [
  | inl here ↦ elim (place_of_push kept t n v other) [
    | inl there ↦ apart m n u v here there same
    | inr last ↦ (let P : Tree → Type 0 = λ x. SameShape u x in absurd (none m u here (SameShape-sym u t (subst P last.1 same))))
  ]
  | inr first ↦ elim (place_of_push kept t n v other) [
    | inl there ↦ (let P : Tree → Type 0 = λ x. SameShape x v in absurd (none n v there (subst P first.1 same)))
    | inr last ↦ first.0 ∙ sym last.0
  ]
]

Firsts-apart : (kept trees all : List Tree) → Firsts SameShape kept trees all → HaveShapesApart kept → HaveShapesApart all
Firsts-apart _ _ _ (ended kept) apart = apart
Firsts-apart _ _ all (again t kept trees _ n k at same first) apart = Firsts-apart kept trees all first apart
Firsts-apart _ _ all (anew t kept trees _ none first) apart = Firsts-apart (kept ++ t ∷ []) trees all first (apart_with kept t apart none)

-- an entry of a dictionary, with the shape that it stands for
pub record HasShape (entries : List Entry) (shapes : List Tree) (n : ℕ) (e : Entry) : Type 0 where
  pub shape : Tree
  pub at : slice_get shapes n ≡ Some shape
  pub same : SameShape shape (tree_of (trees_of entries) e)

has_shape : (entries : List Entry) (shapes : List Tree) → EachWith SameShape shapes (trees_of entries) → NameEarlier entries → (n : ℕ) (e : Entry)
    → slice_get entries n ≡ Some e → HasShape entries shapes n e
has_shape entries shapes stands earlier n e at =
    let within = slice_get_within entries n e at in
    let back = EachWith-back SameShape shapes (trees_of entries) n (tree_at entries n) stands (tree_there entries n within) in
    let P : Tree → Type 0 = λ t. SameShape back.0 t in
    record { shape = back.0; at = back.1; same = subst P (tree_is entries n e at (earlier n e at)) back.2 }

proper_of : (entries : List Entry) (shapes : List Tree) → EachWith SameShape shapes (trees_of entries) → NameEarlier entries → HaveShapesApart shapes
    → AreProper entries
proper_of entries shapes stands earlier apart = record {
  earlier = earlier;
  apart = λ m n e at other.
      let one = has_shape entries shapes stands earlier m e at in
      let two = has_shape entries shapes stands earlier n e other in
      let u : Tree = tree_of (trees_of entries) e in
      apart m n one.shape two.shape one.at two.at (SameShape-further one.shape u two.shape one.same (SameShape-sym two.shape u two.same));
}

length-each : {A B : Type 0} (R : A → B → Type 0) (xs : List A) (ys : List B) → EachWith R xs ys → length xs ≡ length ys
length-each R [] [] each = refl
length-each R [] (y ∷ ys) each = absurd each
length-each R (x ∷ xs) [] each = absurd each
length-each R (x ∷ xs) (y ∷ ys) each = ap suc (length-each R xs ys each.1)

module _ (shapes : List Tree) (apart : HaveShapesApart shapes) (one other : List Entry)
    (stands : EachWith SameShape shapes (trees_of one)) (earlier : NameEarlier one)
    (stands' : EachWith SameShape shapes (trees_of other)) (earlier' : NameEarlier other) where
  proper : AreProper one
  proper = proper_of one shapes stands earlier apart

  lengths : length one ≡ length other
  lengths = sym (length-trees one) ∙ sym (length-each SameShape shapes (trees_of one) stands)
      ∙ length-each SameShape shapes (trees_of other) stands' ∙ length-trees other

  -- a tree of the other list has the number of its place in the first
  number_there : (n : ℕ) → n < length one → number_in one (tree_at other n) ≡ n
  number_there n within =
      let count = lengths in
      let back = EachWith-back SameShape shapes (trees_of other) n (tree_at other n) stands' (tree_there other n (omega arith)) in
      let there = EachWith-at SameShape shapes (trees_of one) n back.0 stands back.1 in
      let same_place : there.0 ≡ tree_at one n = same_Some there.0 (tree_at one n) (sym there.1 ∙ tree_there one n within) in
      let P : Tree → Type 0 = λ t. SameShape back.0 t in
      let shape : SameShape (tree_at other n) (tree_at one n) =
      SameShape-further (tree_at other n) back.0 (tree_at one n) (SameShape-sym back.0 (tree_at other n) back.2) (subst P same_place there.2) in
      let coded : code one (tree_at other n).inner [] ≡ code one (tree_at one n).inner [] =
      code_alike one (tree_at other n).inner (tree_at one n).inner shape.inner [] in
      let label : (tree_at other n).label ≡ (tree_at one n).label = shape.label in
      let whole : entry_at (tree_at other n).label (code one (tree_at other n).inner []) ≡ entry_at (tree_at one n).label (code one (tree_at one n).inner []) =
      λ i. entry_at (label i) (coded i) in
      ap (number_of one) whole ∙ number_below one proper (suc n) n (omega arith) within

  same_entry : (n : ℕ) (e d : Entry) → slice_get one n ≡ Some e → slice_get other n ≡ Some d → e ≡ d
  same_entry n e d at at' =
      let within = slice_get_within one n e at in
      let has = has_shape one shapes stands earlier n e at in
      let has' = has_shape other shapes stands' earlier' n d at' in
      let t : Tree = tree_of (trees_of one) e in
      let u : Tree = tree_of (trees_of other) d in
      let shape_is : has.shape ≡ has'.shape = same_Some has.shape has'.shape (sym has.at ∙ has'.at) in
      let P : Tree → Type 0 = λ k. SameShape k u in
      let shape : SameShape t u = SameShape-further t has.shape u (SameShape-sym has.shape t has.same) (subst P (sym shape_is) has'.same) in
      let runs : e.runs ≡ d.runs =
      sym (code-entry one proper n e at) ∙ code_alike one t.inner u.inner shape.inner []
      ∙ code-laid one (trees_of other) 0 n d.runs [] (λ m lower. number_there m (omega arith)) (earlier' n d at') tt in
      let label : label_of e ≡ label_of d = shape.label in
      λ i. entry_at (label i) (runs i)

  same_entries : one ≡ other
  same_entries =
      let some : Entry = entry_at (no_tree).label [] in
      ext_get_or some one other lengths (λ n within. let count = lengths in
      same_entry n (get_or one n some) (get_or other n some) (slice_get-get_or one n some within) (slice_get-get_or other n some (omega arith)))

no_shapes : HaveShapesApart []
no_shapes m n s t at other same = absurd (none-some s at)

-- a tree has one dictionary
pub one_dictionary : (t : Tree) (one other : List Entry) → IsDictionaryOf t one → IsDictionaryOf t other → one ≡ other
one_dictionary t one other first second =
    let is : second.shapes ≡ first.shapes = Firsts-unique SameShape [] (post_order (alone t)) second.shapes first.shapes second.firsts first.firsts in
    let P : List Tree → Type 0 = λ shapes. EachWith SameShape shapes (trees_of other) in
    same_entries first.shapes (Firsts-apart [] (post_order (alone t)) first.shapes first.firsts no_shapes) one other first.stands first.earlier
    (subst P is second.stands) second.earlier

pub dictionary_is_unique : DictionaryIsUnique
dictionary_is_unique nodes one other first second =
    let s : Tree = first.0 in let t : Tree = second.0 in
    let same : t ≡ s = same_tree t s (sym second.1 ∙ first.1) in
    let P : Tree → Type 0 = λ u. IsDictionaryOf u other in
    one_dictionary s one other first.2 (subst P same second.2)

pub dictionary_exists : DictionaryExists
dictionary_exists nodes order =
    let tree = is_of_tree nodes order in ((walk (alone tree.0) []).dict, (tree.0, tree.1, walk_is tree.0))

-- these trees are smaller than a number
abbrev pub AreSmaller : ℕ → List Tree → Type 0
AreSmaller bound trees = (n : ℕ) (k : Tree) → slice_get trees n ≡ Some k → size k.inner < bound

-- .. by recursion
abbrev pub EachSmaller : ℕ → List Tree → Type 0
EachSmaller bound [] = Unit {0}
EachSmaller bound (t ∷ trees) = (size t.inner < bound) × EachSmaller bound trees

EachSmaller-append : (bound : ℕ) (xs ys : List Tree) → EachSmaller bound xs → EachSmaller bound ys → EachSmaller bound (xs ++ ys)
EachSmaller-append bound [] ys one other = other
EachSmaller-append bound (x ∷ xs) ys one other = (one.0, EachSmaller-append bound xs ys one.1 other)

smaller_within : (bound : ℕ) (f : Forest) → size f ≤ bound → EachSmaller bound (post_order f)
smaller_within bound bare few = tt
smaller_within bound (grown x i l) few =
    EachSmaller-append bound (post_order i) (record { label = x; inner = i } ∷ post_order l) (smaller_within bound i (omega arith))
    (omega arith, smaller_within bound l (omega arith))

smaller_push : (bound : ℕ) (kept : List Tree) (t : Tree) → AreSmaller bound kept → size t.inner < bound → AreSmaller bound (kept ++ t ∷ [])
smaller_push bound kept t are less n k at = elim (place_of_push kept t n k at) [
  | inl here ↦ are n k here
  | inr last ↦ (let P : Tree → Type 0 = λ u. size u.inner < bound in subst P (sym last.1) less)
]

-- the first trees of smaller ones are smaller, and those behind them follow
pub record Splits (kept trees more all : List Tree) (bound : ℕ) : Type 0 where
  pub middle : List Tree
  pub smaller : AreSmaller bound middle
  pub firsts : Firsts SameShape middle more all

-- the first of the trees was there or is kept
pub first_case : (Same : Tree → Tree → Type 0) (t : Tree) (kept trees all : List Tree) → Firsts Same kept (t ∷ trees) all
    → ((n : ℕ) × (k : Tree) × (slice_get kept n ≡ Some k) × Same t k × Firsts Same kept trees all)
    ⊎ (((n : ℕ) (k : Tree) → slice_get kept n ≡ Some k → ¬ Same t k) × Firsts Same (kept ++ t ∷ []) trees all)
first_case Same _ _ _ _ (again t kept trees all n k at same first) = inl (n, k, at, same, first)
first_case Same _ _ _ _ (anew t kept trees all none first) = inr (none, first)

-- behind no trees all that are kept are those so far
pub none_more : (Same : Tree → Tree → Type 0) (kept all : List Tree) → Firsts Same kept [] all → all ≡ kept
none_more Same _ _ (ended kept) = refl

split_firsts : (kept trees more all : List Tree) (bound : ℕ) → Firsts SameShape kept (trees ++ more) all → AreSmaller bound kept → EachSmaller bound trees
    → Splits kept trees more all bound
split_firsts kept [] more all bound firsts are each = record { middle = kept; smaller = are; firsts = firsts }
split_firsts kept (t ∷ trees) more all bound firsts are each = elim (first_case SameShape t kept (trees ++ more) all firsts) [
  | inl there ↦ (let rest = split_firsts kept trees more all bound there.4 are each.1 in
      record { middle = rest.middle; smaller = rest.smaller; firsts = rest.firsts })
  | inr new ↦ (let rest = split_firsts (kept ++ t ∷ []) trees more all bound new.1 (smaller_push bound kept t are each.0) each.1 in
      record { middle = rest.middle; smaller = rest.smaller; firsts = rest.firsts })
]

-- the tree itself is the last shape of its instances
last_shape : (t : Tree) (shapes : List Tree) → Firsts SameShape [] (post_order (alone t)) shapes → (middle : List Tree) × (shapes ≡ middle ++ t ∷ [])
last_shape t shapes firsts =
    let split = split_firsts [] (post_order t.inner) (t ∷ []) shapes (size t.inner) firsts (λ n k at. absurd (none-some k at))
    (smaller_within (size t.inner) t.inner (omega arith)) in
    elim (first_case SameShape t split.middle [] shapes split.firsts) [
      | inl there ↦ (let less : size there.1.inner < size t.inner = split.smaller there.0 there.1 there.2 in
          let same : size t.inner ≡ size there.1.inner = Alike-size t.inner there.1.inner there.3.inner in absurd (omega arith))
      | inr new ↦ (split.middle, none_more SameShape (split.middle ++ t ∷ []) shapes new.1)
    ]

-- the last entry stands for the tree
pub root_is : (t : Tree) (entries : List Entry) → IsDictionaryOf t entries → (root : ℕ) × (length entries ≡ root + 1) × SameShape t (tree_at entries root)
root_is t entries is =
    let last = last_shape t is.shapes is.firsts in
    let root : ℕ = length last.0 in
    let count : length entries ≡ length is.shapes = sym (length-trees entries) ∙ sym (length-each SameShape is.shapes (trees_of entries) is.stands) in
    let size_is : length is.shapes ≡ root + 1 = ap length last.1 ∙ length-append last.0 (t ∷ []) in
    let P : List Tree → Type 0 = λ shapes. slice_get shapes root ≡ Some t in
    let at : slice_get is.shapes root ≡ Some t = subst P (sym last.1) (place_behind last.0 t []) in
    let there = EachWith-at SameShape is.shapes (trees_of entries) root t is.stands at in
    let within : root < length entries = omega arith in
    let same : there.0 ≡ tree_at entries root = same_Some there.0 (tree_at entries root) (sym there.1 ∙ tree_there entries root within) in
    let Q : Tree → Type 0 = λ u. SameShape t u in
    (root, count ∙ size_is, subst Q same there.2)

pub dictionary_expands : DictionaryExpands
dictionary_expands nodes entries is =
    let root = root_is is.0 entries is.2 in
    (root.0, root.1, (tree_at entries root.0, is.0, refl, is.1, SameShape-sym is.0 (tree_at entries root.0) root.2))

-- being equal up to the order of siblings is an equivalence
pub alike_turned : (one other : List Node) → AreAlike one other → AreAlike other one
alike_turned one other are = (are.1, are.0, are.3, are.2, SameShape-sym are.0 are.1 are.4)

pub alike_further : (one other third : List Node) → AreAlike one other → AreAlike other third → AreAlike one third
alike_further one other third first second =
    let same : first.1 ≡ second.0 = same_tree first.1 second.0 (sym first.3 ∙ second.2) in
    let P : Tree → Type 0 = λ t. SameShape t second.1 in
    (first.0, second.1, first.2, second.3, SameShape-further first.0 first.1 second.1 first.4 (subst P (sym same) second.4))
