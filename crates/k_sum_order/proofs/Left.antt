-- No entry of a sum is left over, and sums of the same runs have one file.
use Rattle.std.proofs.Common.{◌≡◌, ℕ, zero, suc, ◌+◌, ◌-◌, ◌<◌, ◌≤◌, ◌⊎◌, inl, inr, List, [], ◌∷◌, ◌++◌, length, get_or, Some, slice_get, refl, sym, ap, ◌∙◌, subst, arith}
use Rattle.std.proofs.lemmas.Bool.{cases_lt}
use Rattle.std.proofs.lemmas.Option.{none-some, same_Some, slice_get_within}
use Rattle.k_dict_entries.specs.Entries.{NameBelow, NameEarlier, copies, laid, no_tree, tree_at, tree_of, trees_of}
use Rattle.k_dict_entries.specs.Laws.{HaveLikes}
use Rattle.k_dict_entries.specs.Rules.{entry_of}
use Rattle.k_dict_entries.specs.Trees.{Alike, Forest, SameShape, Tree, alone, bare, both, exchanged, further, grown, neither}
use Rattle.k_dict_entries.specs.declared.entry.Entry.{Entry}
use Rattle.k_dict_entries.specs.declared.entry.Run.{Run}
use Rattle.k_dict_entries.proofs.Again.{IsAt, from_list}
use Rattle.k_dict_entries.proofs.Coding.{AreProper, Knows, code, code_alike, entry_at, tree_alike}
use Rattle.k_dict_entries.proofs.EntryTrees.{below_bound, length-trees, tree_is}
use Rattle.k_dict_entries.proofs.Forests.{Alike-sym, SameShape-further, SameShape-refl, SameShape-sym}
use Rattle.k_dict_entries.proofs.Numbers.{IsIn}
use Rattle.k_dict_entries.proofs.Walking.{EachWith-back, tree_there}
use Rattle.k_dict_saved.specs.Formats.{IsNamedBy, Names}
use Rattle.k_sum.specs.Laws.{TellsOfRuns, forest_of, together}
use Rattle.k_sum.specs.SumText.{sum_text}
use Rattle.k_sum.specs.Sums as sums
use Rattle.k_sum.specs.declared.sum.Sum.{Sum}
use Rattle.k_sum.proofs.Meaning.{both_tell_of_all, stand}
use Rattle.k_sum_order.specs.Laws.{BothHaveNoneLeft, Has, NoneIsLeft, OneHasNoneLeft}
use Rattle.k_sum_order.specs.Order.{IsOrdered}
use Rattle.k_sum_order.proofs.OneOrder.{entry_there, order_is_one}
use Rattle.k_sum_order.proofs.Ordered.{forest_coded, forest_known, ordered_earlier, ordered_proper, tree_stays}

-- alike forests have the same shapes
pub has_alike : (t : Tree) (f g : Forest) → Alike f g → Has t f → Has t g
has_alike t _ _ neither has = has
has_alike t _ _ (both x i i' l l' inner later) has = elim has [
  | inl here ↦ inl (SameShape-further t (record { label = x; inner = i }) (record { label = x; inner = i' }) here (record { label = refl; inner = inner }))
  | inr rest ↦ elim rest [
    | inl within ↦ inr (inl (has_alike t i i' inner within))
    | inr behind ↦ inr (inr (has_alike t l l' later behind))
  ]
]
has_alike t _ _ (exchanged x y i j l) has = elim has [
  | inl first ↦ inr (inr (inl first))
  | inr rest ↦ elim rest [
    | inl within ↦ inr (inr (inr (inl within)))
    | inr behind ↦ elim behind [
      | inl second ↦ inl second
      | inr more ↦ elim more [
        | inl inside ↦ inr (inl inside)
        | inr last ↦ inr (inr (inr (inr last)))
      ]
    ]
  ]
]
has_alike t _ _ (further f g h one other) has = has_alike t g h other (has_alike t f g one has)

pub has_shape : (t u : Tree) (f : Forest) → SameShape t u → Has u f → Has t f
has_shape t u bare same has = has
has_shape t u (grown x i l) same has = elim has [
  | inl here ↦ inl (SameShape-further t u (record { label = x; inner = i }) same here)
  | inr rest ↦ elim rest [
    | inl within ↦ inr (inl (has_shape t u i same within))
    | inr behind ↦ inr (inr (has_shape t u l same behind))
  ]
]

-- what stands within a tree of a forest stands in the forest
pub has_within : (t u : Tree) (f : Forest) → Has t u.inner → Has u f → Has t f
has_within t u bare inside has = has
has_within t u (grown x i l) inside has = elim has [
  | inl here ↦ inr (inl (has_alike t u.inner i here.inner inside))
  | inr rest ↦ elim rest [
    | inl within ↦ inr (inl (has_within t u i inside within))
    | inr behind ↦ inr (inr (has_within t u l inside behind))
  ]
]

has_left : (t : Tree) (f g : Forest) → Has t f → Has t (together f g)
has_left t bare g has = absurd has
has_left t (grown x i l) g has = elim has [
  | inl here ↦ inl here
  | inr rest ↦ elim rest [ inl within ↦ inr (inl within) | inr behind ↦ inr (inr (has_left t l g behind)) ]
]

has_right : (t : Tree) (f g : Forest) → Has t g → Has t (together f g)
has_right t bare g has = has
has_right t (grown x i l) g has = inr (inr (has_right t l g has))

-- what is known of a forest is known of one that is like it
knows_alike : (entries : List Entry) (f g : Forest) → Alike f g → Knows entries f → Knows entries g
knows_alike entries _ _ neither knows = knows
knows_alike entries _ _ (both x i i' l l' inner later) knows =
    let P : List Run → Type 0 = λ c. IsIn entries (entry_at x c) in
    (knows_alike entries i i' inner knows.0, subst P (code_alike entries i i' inner []) knows.1, knows_alike entries l l' later knows.2)
knows_alike entries _ _ (exchanged x y i j l) knows = (knows.2.0, knows.2.1, (knows.0, knows.1, knows.2.2))
knows_alike entries _ _ (further f g h one other) knows = knows_alike entries g h other (knows_alike entries f g one knows)

-- a shape of a forest that is known is that of an entry
has_known : (entries : List Entry) → AreProper entries → (t : Tree) (f : Forest) → Has t f → Knows entries f
    → (m : ℕ) × (m < length entries) × SameShape t (tree_at entries m)
has_known entries proper t bare has knows = absurd has
has_known entries proper t (grown x i l) has knows = elim has [
  | inl here ↦ (let e : Entry = entry_at x (code entries i []) in
      let u : Tree = record { label = x; inner = i } in
      let m : ℕ = knows.1.0 in (
        m,
        slice_get_within entries m e knows.1.1,
        SameShape-further t u (tree_at entries m) here (tree_alike entries proper x i knows.0 m knows.1.1),
      ))
  | inr rest ↦ elim rest [
    | inl within ↦ has_known entries proper t i within knows.0
    | inr behind ↦ has_known entries proper t l behind knows.2
  ]
]

-- ---- the sum of a profile

has_copies : (count : ℕ) (t : Tree) (f : Forest) → 1 ≤ count → Has t (copies count t f)
has_copies zero t f some = absurd (omega arith)
has_copies (suc count) t f some = inl (SameShape-refl t)

behind_copies : (count : ℕ) (t u : Tree) (f : Forest) → Has t f → Has t (copies count u f)
behind_copies zero t u f has = has
behind_copies (suc count) t u f has = inr (inr (behind_copies count t u f has))

pub has_named : (trees : List Tree) (n high : ℕ) (runs : List Run) → NameBelow high runs → Names n runs → Has (get_or trees n no_tree) (laid trees runs)
has_named trees n high [] below names = absurd names
has_named trees n high (run ∷ runs) below names = elim names [
  | inl same ↦ (let P : ℕ → Type 0 = λ k. Has (get_or trees k no_tree) (laid trees (run ∷ runs)) in
      subst P same (has_copies run.count (get_or trees run.entry no_tree) (laid trees runs) below.1))
  | inr later ↦ behind_copies run.count (get_or trees n no_tree) (get_or trees run.entry no_tree) (laid trees runs) (has_named trees n high runs below.2 later)
]

-- the entry whose runs name a number
pub named_at : (n : ℕ) (entries : List Entry) → IsNamedBy n entries → (m : ℕ) × (e : Entry) × (slice_get entries m ≡ Some e) × Names n e.runs
named_at n [] named = absurd named
named_at n (e ∷ entries) named = elim named [
  | inl here ↦ (0, e, refl, here)
  | inr later ↦ (let rest = named_at n entries later in (suc rest.0, rest.1, rest.2, rest.3))
]

pub names_below : (n high : ℕ) (runs : List Run) → NameBelow high runs → Names n runs → n < high
names_below n high [] below names = absurd names
names_below n high (run ∷ runs) below names = elim names [
  | inl same ↦ (let less : run.entry < high = below.0 in omega arith)
  | inr later ↦ names_below n high runs below.2 later
]

module _ (entries : List Entry) (root : ℕ) (last : length entries ≡ root + 1) (earlier : NameEarlier entries)
    (named : (n : ℕ) → n + 1 < length entries → IsNamedBy n entries) where
  below_root : (fuel n : ℕ) → root < n + fuel → n < length entries → Has (tree_at entries n) (alone (tree_at entries root))
  below_root zero n far within = absurd (omega arith)
  below_root (suc fuel) n far within = elim (cases_lt n root) [
    | inl less ↦ (let at = named_at n entries (named n (omega arith)) in
        let m : ℕ = at.0 in
        let e : Entry = at.1 in
        let below : NameBelow m e.runs = below_bound 0 m e.runs (earlier m e at.2) in
        let more : n < m = names_below n m e.runs below at.3 in
        let inside = slice_get_within entries m e at.2 in
        let tree : tree_at entries m ≡ tree_of (trees_of entries) e = tree_is entries m e at.2 (earlier m e at.2) in
        let P : Tree → Type 0 = λ u. Has (tree_at entries n) u.inner in
        has_within (tree_at entries n) (tree_at entries m) (alone (tree_at entries root))
        (subst P (sym tree) (has_named (trees_of entries) n m e.runs below at.3)) (below_root fuel m (omega arith) inside))
    | inr more ↦ (let same : n ≡ root = omega arith in
        let P : ℕ → Type 0 = λ k. Has (tree_at entries k) (alone (tree_at entries root)) in
        subst P (sym same) (inl (SameShape-refl (tree_at entries root))))
  ]

pub one_has_none_left : OneHasNoneLeft
one_has_none_left saved is n within =
    let some = is.profile.some in
    let root : ℕ = length saved.dict - 1 in
    below_root saved.dict root (omega arith) is.profile.interned.earlier is.named (suc root) n (omega arith) within

-- ---- two sums together

tree_place : (entries : List Entry) (n : ℕ) (t : Tree) → slice_get (trees_of entries) n ≡ Some t → (n < length entries) × (t ≡ tree_at entries n)
tree_place entries n t at =
    let inside = slice_get_within (trees_of entries) n t at in
    let count = length-trees entries in
    let within : n < length entries = omega arith in
    (within, same_Some t (tree_at entries n) (sym at ∙ tree_there entries n within))

left_of : (sum : Sum) → NoneIsLeft sum → (n : ℕ) (t : Tree) → slice_get (trees_of sum.dict) n ≡ Some t → Has t (forest_of sum)
left_of sum none n t at =
    let place = tree_place sum.dict n t at in
    let P : Tree → Type 0 = λ u. Has u (forest_of sum) in subst P (sym place.1) (none n place.0)

in_append : (xs ys : List Tree) (n : ℕ) (t : Tree) → slice_get (xs ++ ys) n ≡ Some t → IsAt xs t ⊎ IsAt ys t
in_append [] ys n t at = inr (n, at)
in_append (x ∷ xs) ys zero t at = inl (0, at)
in_append (x ∷ xs) ys (suc n) t at = elim (in_append xs ys n t at) [ inl there ↦ inl (suc there.0, there.1) | inr there ↦ inr there ]

pub both_have_none_left : BothHaveNoneLeft
both_have_none_left one other tells more none none' n within =
    let all : Sum = sums.both one other in
    let stands = stand one other tells more in
    let u : Tree = tree_at all.dict n in
    let back = EachWith-back SameShape stands.are.shapes (trees_of all.dict) n u stands.are.stands (tree_there all.dict n within) in
    let t : Tree = back.0 in
    let f : Forest = forest_of one in
    let g : Forest = forest_of other in
    let there : Has t (together f g) = elim (from_list [] (trees_of one.dict ++ trees_of other.dict) stands.are.shapes stands.are.firsts n t back.1) [
      | inl none_there ↦ absurd (none-some t none_there.1)
      | inr at ↦ elim (in_append (trees_of one.dict) (trees_of other.dict) at.0 t at.1) [
        | inl first ↦ has_left t f g (left_of one none first.0 t first.1)
        | inr second ↦ has_right t f g (left_of other none' second.0 t second.1)
      ]
    ] in
    let alike = both_tell_of_all one other tells more in
    has_alike u (together f g) (forest_of all) (Alike-sym (forest_of all) (together f g) alike.1)
    (has_shape u t (together f g) (SameShape-sym t u back.2) there)

-- ---- the file of a sum in order

module _ (one other in_order other_in_order : Sum) (tells : TellsOfRuns one) (more : TellsOfRuns other) (none : NoneIsLeft one)
    (alike : Alike (forest_of one) (forest_of other)) (is : IsOrdered one in_order) (is' : IsOrdered other other_in_order) where
  known_there : Knows other_in_order.dict (forest_of other)
  known_there =
      forest_known other.dict is'.numbers other_in_order.dict more.earlier is'.dict other.roots (below_bound 0 (length other.dict) other.roots more.roots)

  likes : HaveLikes in_order.dict other_in_order.dict
  likes n within =
      let there = entry_there in_order.dict n within in
      let from = is.dict.no_other n (entry_of in_order.dict n) there in
      let k : ℕ = from.0 in
      let t : Tree = tree_at one.dict k in
      let stays : SameShape t (tree_at in_order.dict (get_or is.numbers k 0)) = tree_stays one.dict is.numbers in_order.dict tells.earlier is.dict k from.1 in
      let P : ℕ → Type 0 = λ m. SameShape t (tree_at in_order.dict m) in
      let here : SameShape t (tree_at in_order.dict n) = subst P from.2 stays in
      let proper : AreProper other_in_order.dict = ordered_proper other.dict is'.numbers other_in_order.dict more.earlier is'.dict in
      let found = has_known other_in_order.dict proper t (forest_of other) (has_alike t (forest_of one) (forest_of other) alike (none k from.1)) known_there in
      let m : ℕ = found.0 in (
        m,
        found.1,
        (
          tree_at in_order.dict n,
          tree_at other_in_order.dict m,
          refl,
          refl,
          SameShape-further (tree_at in_order.dict n) t (tree_at other_in_order.dict m) (SameShape-sym t (tree_at in_order.dict n) here) found.2,
        ),
      )

  roots_coded : in_order.roots ≡ code in_order.dict (forest_of one) []
  roots_coded =
      is.roots ∙ sym (forest_coded one.dict is.numbers in_order.dict tells.earlier is.dict one.roots (below_bound 0 (length one.dict) one.roots tells.roots))

-- sums of the same runs with the same numbers have one file
pub text_is_one : (one other in_order other_in_order : Sum) → TellsOfRuns one → TellsOfRuns other → NoneIsLeft one → NoneIsLeft other
    → Alike (forest_of one) (forest_of other) → one.runs ≡ other.runs → one.exits ≡ other.exits → one.ops ≡ other.ops → one.regions ≡ other.regions
    → IsOrdered one in_order → IsOrdered other other_in_order → sum_text in_order ≡ sum_text other_in_order
text_is_one one other in_order other_in_order tells more none none' alike runs exits ops regions is is' =
    let back : Alike (forest_of other) (forest_of one) = Alike-sym (forest_of one) (forest_of other) alike in
    let dict : in_order.dict ≡ other_in_order.dict =
    order_is_one in_order.dict other_in_order.dict (ordered_earlier one.dict is.numbers in_order.dict tells.earlier is.dict)
    (ordered_earlier other.dict is'.numbers other_in_order.dict more.earlier is'.dict) is.dict.order is'.dict.order
    (likes one other in_order other_in_order tells more none alike is is') (likes other one other_in_order in_order more tells none' back is' is) in
    let roots : in_order.roots ≡ other_in_order.roots =
    roots_coded one other in_order other_in_order tells more none alike is is'
    ∙ ap (λ d. code d (forest_of one) []) dict
    ∙ code_alike other_in_order.dict (forest_of one) (forest_of other) alike []
    ∙ sym (roots_coded other one other_in_order in_order more tells none' back is' is) in
    let runs' : in_order.runs ≡ other_in_order.runs = is.runs ∙ runs ∙ sym is'.runs in
    let exits' : in_order.exits ≡ other_in_order.exits = is.exits ∙ exits ∙ sym is'.exits in
    let ops' : in_order.ops ≡ other_in_order.ops = is.ops ∙ ops ∙ sym is'.ops in
    let regions' : in_order.regions ≡ other_in_order.regions = is.regions ∙ regions ∙ sym is'.regions in
    λ i. sum_text (record { runs = runs' i; exits = exits' i; ops = ops' i; work = 0; regions = regions' i; dict = dict i; roots = roots i })
