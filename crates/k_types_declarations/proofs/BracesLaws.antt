-- Items of braces that are judged one after the other.
use Rattle.std.proofs.Common.{◌≡◌, inl, inr, ℕ, zero, suc, ◌+◌, ◌<◌, ◌≤◌, Bool, true, false, List, [], ◌∷◌, ◌++◌, Result, Ok, Err, drop, get_or, length, map, refl, sym, ap, ◌∙◌, subst, append_assoc, append-nil, arith}
use Rattle.std.proofs.lemmas.List.{drop_all}
use Rattle.k_num.specs.declared.numbers.Kind.{Kind}
use Rattle.k_num.specs.declared.place.Place.{Place}
use Rattle.k_tree.specs.declared.tree.declaration.Init.{Init}
use Rattle.k_tree.specs.declared.tree.declaration.Init.TheVariants as init
use Rattle.k_tree.proofs.Folds.{init_List}
use Rattle.k_types_meaning.specs.declared.fault.TypeFault.{TypeFault}
use Rattle.k_types_meaning.specs.declared.fault.TypeFault.TheVariants as fault
use Rattle.k_types_meaning.specs.declared.tree.declaration.TItem.{TItem}
use Rattle.k_types_meaning.proofs.Elaborates.{not_made}
use Rattle.k_types_meaning.specs.Conversions.{Typed}
use Rattle.k_types_meaning.specs.Initialisers.{Giving, Items, braces, excess, giving, giving_step, items_of_both, items_within}
use Rattle.k_types_meaning.specs.Made.{Made, Fine, Faulty, both, then_made}
use Rattle.k_types_meaning.specs.Names.{Names}
use Rattle.k_types_meaning.specs.Types.{elements}
use Rattle.k_types_rules.specs.Views.{Refuses}
use Rattle.k_types_declarations.specs.declared.braces.FilledItems.{FilledItems}
use Rattle.k_types_declarations.specs.Braces.{Puts, PutsItem, kept_items}
use Rattle.k_types_declarations.proofs.Lists.{refuses_both, rest_from}

-- nothing is kept of no items
none_kept : (kept : Bool) → kept_items kept [] ≡ []
none_kept true = refl
none_kept false = refl

-- what is kept of two runs of items
both_kept : (kept : Bool) (a b : List TItem) → kept_items kept (a ++ b) ≡ kept_items kept a ++ kept_items kept b
both_kept true a b = refl
both_kept false a b = refl

-- all items are kept
pub all_kept : (kept : Bool) (old new items : List TItem) → kept ≡ true → new ≡ old ++ items → new ≡ old ++ kept_items kept items
all_kept kept old new items is put = put ∙ ap (λ k. old ++ kept_items k items) (sym is)

-- no item is kept
pub not_kept : (kept : Bool) (old items : List TItem) → kept ≡ false → old ≡ old ++ kept_items kept items
not_kept kept old items is = sym (ap (λ k. old ++ kept_items k items) is ∙ append-nil old)

-- two runs of items as one
abbrev pub joined : Items → Items → Items
joined a b = record { items = a.items ++ b.items; taken = a.taken ++ b.taken }

-- items before those that others make
abbrev pub items_before : Items → Made Items → Made Items
items_before a (Fine b) = Fine (joined a b)
items_before a (Faulty f fs) = Faulty f fs

-- no items
abbrev pub no_items : Items
no_items = record { items = []; taken = [] }

none_before : (m : Made Items) → items_before no_items m ≡ m
none_before (Fine a) = refl
none_before (Faulty f fs) = refl

-- an item goes before what others make
one_more : (a b : Items) (m rest : Made Items) → m ≡ Fine b → items_before a (both m rest items_of_both) ≡ items_before (joined a b) rest
one_more a b m rest is = ap (λ v. items_before a (both v rest items_of_both)) is ∙ behind a b rest
  where
    behind : (a b : Items) (rest : Made Items) → items_before a (both (Fine b) rest items_of_both) ≡ items_before (joined a b) rest
    behind a b (Fine c) =
        ap Fine (λ i. record { items = sym (append_assoc a.items b.items c.items) i; taken = sym (append_assoc a.taken b.taken c.taken) i })
    behind a b (Faulty f fs) = refl

refuses_before : (f : TypeFault) (a : Items) (m : Made Items) → Refuses f m → Refuses f (items_before a m)
refuses_before f a m (inl is) = inl is
refuses_before f a (Fine b) (inr none) = absurd none
refuses_before f a (Faulty g gs) (inr is) = inr is

-- what is too many is never made
never_fine : (m : Made (List ℕ)) (p : Place) (v : Items) → then_made m (λ taken. excess {A = Items} p) ≡ Fine v → ⊥
never_fine (Fine a) p v is = not_made (fault.Kinds p) [] v is
never_fine (Faulty f fs) p v is = not_made f fs v is

module _ (names : Names) (file kept : Bool) (kind : Kind) (dims : List ℕ) where
  -- what items give to so many elements, from this one on
  abbrev within : ℕ → ℕ → List Init → Made Items
  within count n inits = items_within file kind dims count n (map (giving names) inits)

  -- one that is judged, and those behind it
  within_more : (left next n each : ℕ) (x : Init) (rest : List Init) → left ≡ next + 1 → each ≡ elements dims
      → within left n (x ∷ rest) ≡ both ((giving names x).within file kind dims n) (within next (n + each) rest) items_of_both
  within_more zero next n each x rest is whole = absurd (omega arith)
  within_more (suc count) next n each x rest is whole =
      let same : count ≡ next = omega arith in
      ap (λ c. both ((giving names x).within file kind dims n) (within c (n + elements dims) rest) items_of_both) same
      ∙ ap (λ e. both ((giving names x).within file kind dims n) (within next (n + e) rest) items_of_both) (sym whole)

  -- one that is too many
  within_none : (left n : ℕ) (x : Init) (rest : List Init) → left ≡ 0
      → within left n (x ∷ rest)
      ≡ both (then_made (giving names x).alone (λ taken. excess (giving names x).place)) (within 0 n rest) items_of_both
  within_none zero n x rest is = refl
  within_none (suc count) n x rest is = absurd (omega arith)

  -- no item is left
  within_end : (left n : ℕ) (a : Items) → items_before a (within left n []) ≡ Fine (joined a no_items)
  within_end zero n a = refl
  within_end (suc count) n a = refl

  module _ (items : List Init) (whole : Made Items) where
    -- The items before one were judged, and with those from it on they make the whole.
    abbrev pub PutsSoFar : ℕ → ℕ → ℕ → FilledItems → FilledItems → Type 0
    PutsSoFar i left n older newer =
        (a : Items)
        × (items_before a (within left n (drop i items)) ≡ whole)
        × (newer.items ≡ older.items ++ kept_items kept a.items)
        × (newer.taken ≡ older.taken ++ a.taken)

    -- none was judged
    pub puts_none : (count n : ℕ) (older : FilledItems) → within count n items ≡ whole → PutsSoFar 0 count n older older
    puts_none count n older is = (
      no_items,
      none_before (within count n items) ∙ is,
      sym (ap (λ l. older.items ++ l) (none_kept kept) ∙ append-nil older.items),
      sym (append-nil older.taken),
    )

    -- one more was judged
    pub puts_more : (i left next n behind each : ℕ) (x : Init) (older middle newer : FilledItems)
        → i < length items → x ≡ get_or items i x → left ≡ next + 1 → behind ≡ n + each → each ≡ elements dims
        → PutsSoFar i left n older middle → Puts (Ok tt) kept middle newer ((giving names x).within file kind dims n)
        → PutsSoFar (i + 1) next behind older newer
    puts_more i left next n behind each x older middle newer inside is count place sizes (a, so_far, items_put, taken_put) (b, fine, items_more, taken_more) = (
      joined a b,
      ap (λ e. items_before (joined a b) (within next e (drop (i + 1) items))) place
          ∙ (sym (one_more a b ((giving names x).within file kind dims n) (within next (n + each) (drop (i + 1) items)) fine)
          ∙ (ap (items_before a) (sym (within_more left next n each x (drop (i + 1) items) count sizes))
          ∙ (ap (λ rest. items_before a (within left n rest)) (sym (rest_from items i x inside is)) ∙ so_far))),
      items_more
          ∙ (ap (λ l. l ++ kept_items kept b.items) items_put
          ∙ (append_assoc older.items (kept_items kept a.items) (kept_items kept b.items)
          ∙ ap (λ l. older.items ++ l) (sym (both_kept kept a.items b.items)))),
      taken_more ∙ (ap (λ l. l ++ b.taken) taken_put ∙ append_assoc older.taken a.taken b.taken),
    )

    -- all were judged
    pub puts_all : (i left n : ℕ) (older newer : FilledItems) → length items ≤ i → PutsSoFar i left n older newer → Puts (Ok tt) kept older newer whole
    puts_all i left n older newer end (a, so_far, items_put, taken_put) = (
      a,
      sym so_far
          ∙ (ap (λ rest. items_before a (within left n rest)) (drop_all i items end)
          ∙ (within_end left n a ∙ ap Fine (λ j. record { items = append-nil a.items j; taken = append-nil a.taken j }))),
      items_put,
      taken_put,
    )

    -- one has a fault
    pub puts_refused : (i left next n each : ℕ) (x : Init) (older middle : FilledItems) (f : TypeFault)
        → i < length items → x ≡ get_or items i x → left ≡ next + 1 → each ≡ elements dims
        → PutsSoFar i left n older middle → Refuses f ((giving names x).within file kind dims n) → Refuses f whole
    puts_refused i left next n each x older middle f inside is count sizes (a, so_far, _, _) refuses =
        subst (Refuses f) so_far
        (refuses_before f a (within left n (drop i items))
        (subst (Refuses f)
        (sym (ap (within left n) (rest_from items i x inside is) ∙ within_more left next n each x (drop (i + 1) items) count sizes))
        (refuses_both f ((giving names x).within file kind dims n) (within next (n + each) (drop (i + 1) items)) items_of_both refuses)))

    -- one is too many
    pub puts_excess : (i left n : ℕ) (x : Init) (older middle : FilledItems) (f : TypeFault)
        → i < length items → x ≡ get_or items i x → left ≡ 0
        → PutsSoFar i left n older middle → Refuses f (then_made (giving names x).alone (λ taken. excess {A = Items} (giving names x).place)) → Refuses f whole
    puts_excess i left n x older middle f inside is none (a, so_far, _, _) refuses =
        subst (Refuses f) so_far
        (refuses_before f a (within left n (drop i items))
        (subst (Refuses f) (sym (ap (within left n) (rest_from items i x inside is) ∙ within_none left n x (drop (i + 1) items) none))
        (refuses_both f (then_made (giving names x).alone (λ taken. excess (giving names x).place)) (within 0 n (drop (i + 1) items)) items_of_both refuses)))

    -- one is too many, so they are refused
    pub puts_too_many : (result : Result (Unit {0}) TypeFault) (i left n : ℕ) (x : Init) (older middle newer : FilledItems)
        → i < length items → x ≡ get_or items i x → left ≡ 0 → PutsSoFar i left n older middle
        → Puts result kept middle newer (then_made (giving names x).alone (λ taken. excess {A = Items} (giving names x).place)) → Puts result kept older newer whole
    puts_too_many (Ok done) i left n x older middle newer inside is none so_far (found, fine, _, _) =
        absurd (never_fine (giving names x).alone (giving names x).place found fine)
    puts_too_many (Err f) i left n x older middle newer inside is none so_far refuses =
        puts_excess i left n x older middle f inside is none so_far refuses

-- what braces give
pub list_within : (names : Names) (p : Place) (items : List Init) (comma file : Bool) (kind : Kind) (dims : List ℕ) (n : ℕ)
    → (giving names (init.List p items comma)).within file kind dims n ≡ braces file p kind dims n (map (giving names) items)
list_within names p items comma file kind dims n = ap (λ (g : Giving). g.within file kind dims n) (init_List Giving (giving_step names) p items comma)

-- an item was put, of which the expression was judged
pub puts_one : (result : Result (Unit {0}) TypeFault) (kept : Bool) (m : Made Typed) (step : Typed → Made Items) (v : Typed) (t : List ℕ) (older newer : FilledItems)
    → m ≡ Fine v → newer.taken ≡ older.taken ++ t → PutsItem result kept t older.items newer.items (step v) → Puts result kept older newer (then_made m step)
puts_one (Ok done) kept m step v t older newer is taken (items, fine, put) =
    (record { items = items; taken = t }, ap (λ w. then_made w step) is ∙ fine, put, taken)
puts_one (Err f) kept m step v t older newer is taken refuses = subst (λ w. Refuses f (then_made w step)) (sym is) refuses
