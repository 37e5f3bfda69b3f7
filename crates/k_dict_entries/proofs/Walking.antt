-- Interning the instances of a forest in the order of their ends gives the dictionary.
use Rattle.std.proofs.Common.{◌≡◌, ℕ, zero, suc, ◌+◌, ◌<◌, ◌≤◌, ◌⊎◌, inl, inr, List, [], ◌∷◌, ◌++◌, length, get_or, Some, slice_get, refl, sym, ap, ◌∙◌, subst, arith, append-nil, append_assoc}
use Rattle.std.proofs.lemmas.Option.{none-some, same_Some, slice_get_within, slice_get-get_or, get_or_from_slice_get}
use Rattle.k_optab.specs.Tree.{EachWith}
use Rattle.k_dict_entries.specs.Trees.{Label, Forest, Tree, bare, grown, SameShape, alone, post_order}
use Rattle.k_dict_entries.specs.Entries.{AreRuns, label_of, laid, no_tree, tree_at, tree_of, trees_of}
use Rattle.k_dict_entries.specs.Dictionary.{Firsts, ended, again, anew, IsDictionaryOf}
use Rattle.k_dict_entries.specs.Gathering.{number_of, with_entry}
use Rattle.k_dict_entries.specs.Tallies.{counted}
use Rattle.k_dict_entries.specs.declared.entry.Entry.{Entry}
use Rattle.k_dict_entries.specs.declared.entry.Run.{Run}
use Rattle.k_dict_entries.proofs.Coding.{AreProper, Knows, Knows-kept, code, code-entry, code-kept, code_alike, entry_at, known_alike, tree_alike, AreRuns-code}
use Rattle.k_dict_entries.proofs.EntryTrees.{length-trees, tree_is, trees-push}
use Rattle.k_dict_entries.proofs.Forests.{SameShape-sym, SameShape-further}
use Rattle.k_dict_entries.proofs.Numbers.{IsIn, IsAbsent, absent_is, is_in_or_absent, number_added, number_kept, with_absent, with_there}
use Rattle.k_dict_entries.proofs.Places.{place_behind, place_kept}
use Rattle.k_dict_entries.proofs.Pushes.{NameEarlier-push, AreApart-push}

pub EachWith-push : {A B : Type 0} (R : A → B → Type 0) (xs : List A) (ys : List B) (x : A) (y : B) → EachWith R xs ys → R x y
    → EachWith R (xs ++ x ∷ []) (ys ++ y ∷ [])
EachWith-push R [] [] x y each one = (one, tt)
EachWith-push R [] (b ∷ ys) x y each one = absurd each
EachWith-push R (a ∷ xs) [] x y each one = absurd each
EachWith-push R (a ∷ xs) (b ∷ ys) x y each one = (each.0, EachWith-push R xs ys x y each.1 one)

pub EachWith-at : {A B : Type 0} (R : A → B → Type 0) (xs : List A) (ys : List B) (n : ℕ) (x : A) → EachWith R xs ys → slice_get xs n ≡ Some x
    → (y : B) × (slice_get ys n ≡ Some y) × R x y
EachWith-at R [] ys n x each at = absurd (none-some x at)
EachWith-at R (a ∷ xs) [] n x each at = absurd each
EachWith-at R (a ∷ xs) (b ∷ ys) zero x each at = let P : _ → Type 0 = λ z. R z b in (b, refl, subst P (same_Some a x at) each.0)
EachWith-at R (a ∷ xs) (b ∷ ys) (suc n) x each at = EachWith-at R xs ys n x each.1 at

pub EachWith-back : {A B : Type 0} (R : A → B → Type 0) (xs : List A) (ys : List B) (n : ℕ) (y : B) → EachWith R xs ys → slice_get ys n ≡ Some y
    → (x : A) × (slice_get xs n ≡ Some x) × R x y
EachWith-back R xs [] n y each at = absurd (none-some y at)
EachWith-back R [] (b ∷ ys) n y each at = absurd each
EachWith-back R (a ∷ xs) (b ∷ ys) zero y each at = let P : _ → Type 0 = λ z. R a z in (a, refl, subst P (same_Some b y at) each.0)
EachWith-back R (a ∷ xs) (b ∷ ys) (suc n) y each at = EachWith-back R xs ys n y each.1 at

-- the first trees in two lists, one behind the other
pub Firsts-further : (Same : Tree → Tree → Type 0) (kept trees middle more all : List Tree) → Firsts Same kept trees middle → Firsts Same middle more all
    → Firsts Same kept (trees ++ more) all
Firsts-further Same _ _ _ more all (ended kept) other = other
Firsts-further Same _ _ middle more all (again t kept trees _ n k at same one) other =
    again t kept (trees ++ more) all n k at same (Firsts-further Same kept trees middle more all one other)
Firsts-further Same _ _ middle more all (anew t kept trees _ none one) other =
    anew t kept (trees ++ more) all none (Firsts-further Same (kept ++ t ∷ []) trees middle more all one other)

-- the entries of the trees that were seen
pub record AreEntriesOf (entries : List Entry) (seen : List Tree) : Type 0 where
  pub proper : AreProper entries
  pub shapes : List Tree
  pub firsts : Firsts SameShape [] seen shapes
  pub stands : EachWith SameShape shapes (trees_of entries)

-- the tree at a place
pub tree_there : (entries : List Entry) (n : ℕ) → n < length entries → slice_get (trees_of entries) n ≡ Some (tree_at entries n)
tree_there entries n within =
    let count = length-trees entries in slice_get-get_or (trees_of entries) n no_tree (omega arith)

-- an entry that is there stands for a tree that was seen
shape_there : (entries : List Entry) (seen : List Tree) (are : AreEntriesOf entries seen) (x : Label) (i : Forest) → Knows entries i → (n : ℕ)
    → slice_get entries n ≡ Some (entry_at x (code entries i []))
    → (k : Tree) × (slice_get are.shapes n ≡ Some k) × SameShape (record { label = x; inner = i }) k
shape_there entries seen are x i knows n at =
    let t : Tree = record { label = x; inner = i } in
    let within = slice_get_within entries n (entry_at x (code entries i [])) at in
    let back = EachWith-back SameShape are.shapes (trees_of entries) n (tree_at entries n) are.stands (tree_there entries n within) in (
      back.0,
      back.1,
      SameShape-further t (tree_at entries n) back.0 (tree_alike entries are.proper x i knows n at)
          (SameShape-sym back.0 (tree_at entries n) back.2),
    )

-- a shape that was seen has its entry
pub entry_there : (entries : List Entry) (seen : List Tree) (are : AreEntriesOf entries seen) (x : Label) (i : Forest) (n : ℕ) (k : Tree)
    → slice_get are.shapes n ≡ Some k → SameShape (record { label = x; inner = i }) k → IsIn entries (entry_at x (code entries i []))
entry_there entries seen are x i n k at same =
    let t : Tree = record { label = x; inner = i } in
    let trees : List Tree = trees_of entries in
    let there = EachWith-at SameShape are.shapes trees n k are.stands at in
    let count = length-trees entries in
    let inside : n < length trees = slice_get_within trees n there.0 there.1 in
    let within : n < length entries = omega arith in
    let some : Entry = entry_at x [] in
    let e : Entry = get_or entries n some in
    let here : slice_get entries n ≡ Some e = slice_get-get_or entries n some within in
    let is : there.0 ≡ tree_of trees e =
    sym (get_or_from_slice_get trees n there.0 no_tree there.1) ∙ tree_is entries n e here (are.proper.earlier n e here) in
    let P : Tree → Type 0 = λ u. SameShape t u in
    let shape : SameShape t (tree_of trees e) = subst P is (SameShape-further t k there.0 same there.2) in
    let coded : code entries i [] ≡ e.runs =
    code_alike entries i (laid trees e.runs) shape.inner [] ∙ code-entry entries are.proper n e here in
    let label : x ≡ label_of e = shape.label in
    let whole : entry_at x (code entries i []) ≡ e = λ j. entry_at (label j) (coded j) in
    (n, here ∙ ap Some (sym whole))

-- the runs of children are those of an entry that can be added
pub can_add : (entries : List Entry) (i : Forest) → Knows entries i → AreRuns 0 (length entries) (code entries i [])
can_add entries i knows = AreRuns-code entries i [] knows tt

module _ (entries : List Entry) (seen : List Tree) (are : AreEntriesOf entries seen) (x : Label) (i : Forest) (knows : Knows entries i) where
  closing_there : IsIn entries (entry_at x (code entries i [])) → AreEntriesOf entries (seen ++ record { label = x; inner = i } ∷ [])
  closing_there there =
      let shape = shape_there entries seen are x i knows there.0 there.1 in
      let t : Tree = record { label = x; inner = i } in
      record {
        proper = are.proper;
        shapes = are.shapes;
        firsts = Firsts-further SameShape [] seen are.shapes (t ∷ []) are.shapes are.firsts
            (again t are.shapes [] are.shapes there.0 shape.0 shape.1 shape.2 (ended are.shapes));
        stands = are.stands;
      }

  closing_anew : IsAbsent entries (entry_at x (code entries i []))
      → AreEntriesOf (entries ++ entry_at x (code entries i []) ∷ []) (seen ++ record { label = x; inner = i } ∷ [])
  closing_anew absent =
      let t : Tree = record { label = x; inner = i } in
      let e : Entry = entry_at x (code entries i []) in
      let P : List Tree → Type 0 = λ trees. EachWith SameShape (are.shapes ++ t ∷ []) trees in
      record {
        proper = record {
          earlier = NameEarlier-push entries e are.proper.earlier (can_add entries i knows);
          apart = AreApart-push entries e are.proper.apart (absent_is entries e absent);
        };
        shapes = are.shapes ++ t ∷ [];
        firsts = Firsts-further SameShape [] seen are.shapes (t ∷ []) (are.shapes ++ t ∷ []) are.firsts
            (anew t are.shapes [] (are.shapes ++ t ∷ []) (λ n k at same. let there = entry_there entries seen are x i n k at same in absent there.0 there.1)
            (ended (are.shapes ++ t ∷ [])));
        stands = subst P (sym (trees-push [] entries e))
            (EachWith-push SameShape are.shapes (trees_of entries) t (tree_of (trees_of entries) e) are.stands (known_alike entries are.proper x i knows));
      }

  -- the entries with that of one more instance, whose children are known
  pub closing : AreEntriesOf (with_entry entries (entry_at x (code entries i []))) (seen ++ record { label = x; inner = i } ∷ [])
  closing = by (is_in_or_absent entries (entry_at x (code entries i [])))
    where
      by : IsIn entries (entry_at x (code entries i [])) ⊎ IsAbsent entries (entry_at x (code entries i []))
          → AreEntriesOf (with_entry entries (entry_at x (code entries i []))) (seen ++ record { label = x; inner = i } ∷ [])
      by (inl there) = let P : List Entry → Type 0 = λ list. AreEntriesOf list (seen ++ record { label = x; inner = i } ∷ []) in
          subst P (sym (with_there entries (entry_at x (code entries i [])) there.0 there.1)) (closing_there there)
      by (inr absent) = let P : List Entry → Type 0 = λ list. AreEntriesOf list (seen ++ record { label = x; inner = i } ∷ []) in
          subst P (sym (with_absent entries (entry_at x (code entries i [])) absent)) (closing_anew absent)

-- what becomes of entries where one is added: they go on, it is there, and it has the number that it had
pub record HasAdded (entries : List Entry) (e : Entry) (list : List Entry) : Type 0 where
  pub more : List Entry
  pub kept : list ≡ entries ++ more
  pub there : IsIn list e
  pub number : number_of list e ≡ number_of entries e

pub has_added : (entries : List Entry) (e : Entry) → HasAdded entries e (with_entry entries e)
has_added entries e = by (is_in_or_absent entries e)
  where
    by : IsIn entries e ⊎ IsAbsent entries e → HasAdded entries e (with_entry entries e)
    by (inl there) = let P : List Entry → Type 0 = λ list. HasAdded entries e list in
        subst P (sym (with_there entries e there.0 there.1)) (record { more = []; kept = sym (append-nil entries); there = there; number = refl })
    by (inr absent) = let P : List Entry → Type 0 = λ list. HasAdded entries e list in
        subst P (sym (with_absent entries e absent))
        (record { more = e ∷ []; kept = refl; there = (length entries, place_behind entries e []); number = number_added entries e absent })

-- the entries of a forest behind others, and what its trees add to the runs of their parent
pub record Walked : Type 0 where
  pub dict : List Entry
  pub count : List Run → List Run

abbrev pub walk : Forest → List Entry → Walked
walk bare entries = record { dict = entries; count = λ runs. runs }
walk (grown x i l) entries = record {
  dict = (walk l (with_entry (walk i entries).dict (entry_at x ((walk i entries).count [])))).dict;
  count = λ runs. (walk l (with_entry (walk i entries).dict (entry_at x ((walk i entries).count [])))).count
      (counted (number_of (walk i entries).dict (entry_at x ((walk i entries).count []))) 1 runs);
}

-- what is known of the entries of a forest behind others
pub record WalksWell (f : Forest) (entries : List Entry) (seen : List Tree) (w : Walked) : Type 0 where
  pub are : AreEntriesOf w.dict (seen ++ post_order f)
  pub more : List Entry
  pub kept : w.dict ≡ entries ++ more
  pub knows : Knows w.dict f
  pub counts : (runs : List Run) → w.count runs ≡ code w.dict f runs

regroup : {A : Type 0} (a b : List A) (c : A) (d : List A) → ((a ++ b) ++ c ∷ []) ++ d ≡ a ++ (b ++ c ∷ d)
regroup a b c d = append_assoc (a ++ b) (c ∷ []) d ∙ append_assoc a b (c ∷ d)

pub walks_well : (f : Forest) (entries : List Entry) (seen : List Tree) → AreEntriesOf entries seen → WalksWell f entries seen (walk f entries)
walks_well bare entries seen are =
    let P : List Tree → Type 0 = λ list. AreEntriesOf entries list in
    record {
      are = subst P (sym (append-nil seen)) are;
      more = [];
      kept = sym (append-nil entries);
      knows = tt;
      counts = λ runs. refl;
    }
walks_well (grown x i l) entries seen are =
    let t : Tree = record { label = x; inner = i } in
    let one = walks_well i entries seen are in
    let first : List Entry = (walk i entries).dict in
    let e : Entry = entry_at x ((walk i entries).count []) in
    let coded : Entry = entry_at x (code first i []) in
    let same : coded ≡ e = ap (entry_at x) (sym (one.counts [])) in
    let P : Entry → Type 0 = λ d. AreEntriesOf (with_entry first d) ((seen ++ post_order i) ++ t ∷ []) in
    let second : List Entry = with_entry first e in
    let added = has_added first e in
    let two = walks_well l second ((seen ++ post_order i) ++ t ∷ []) (subst P same (closing first (seen ++ post_order i) one.are x i one.knows)) in
    let last : List Entry = (walk l second).dict in
    let behind : last ≡ first ++ (added.more ++ two.more) =
    two.kept ∙ ap (λ list. list ++ two.more) added.kept ∙ append_assoc first added.more two.more in
    let Q : List Entry → Type 0 = λ list. Knows list i in
    let inner : Knows last i = subst Q (sym behind) (Knows-kept first (added.more ++ two.more) i one.knows) in
    let R : List Entry → Type 0 = λ list. code list i [] ≡ code first i [] in
    let as_before : code last i [] ≡ code first i [] = subst R (sym behind) (code-kept first (added.more ++ two.more) i one.knows []) in
    let now : entry_at x (code last i []) ≡ e = ap (entry_at x) as_before ∙ same in
    let S : List Entry → Type 0 = λ list. slice_get list added.there.0 ≡ Some e in
    let there : slice_get last added.there.0 ≡ Some e = subst S (sym two.kept) (place_kept second two.more added.there.0 e added.there.1) in
    let U : List Entry → Type 0 = λ list. number_of list e ≡ number_of second e in
    let number : number_of last e ≡ number_of first e =
    subst U (sym two.kept) (number_kept second two.more e added.there.0 added.there.1) ∙ added.number in
    let V : List Tree → Type 0 = λ list. AreEntriesOf last list in
    record {
      are = subst V (regroup seen (post_order i) t (post_order l)) two.are;
      more = one.more ++ (added.more ++ two.more);
      kept = behind ∙ ap (λ list. list ++ (added.more ++ two.more)) one.kept ∙ append_assoc entries one.more (added.more ++ two.more);
      knows = (inner, (added.there.0, there ∙ ap Some (sym now)), two.knows);
      counts = λ runs. two.counts (counted (number_of first e) 1 runs)
          ∙ ap (λ n. code last l (counted n 1 runs)) (sym number) ∙ ap (λ d. code last l (counted (number_of last d) 1 runs)) (sym now);
    }

-- before the first tree
pub none_seen : AreEntriesOf [] []
none_seen = record {
  proper = record { earlier = λ n e at. absurd (none-some e at); apart = λ m n e at other. absurd (none-some e at) };
  shapes = [];
  firsts = ended [];
  stands = tt;
}

-- the entries of a tree are its dictionary
pub walk_is : (t : Tree) → IsDictionaryOf t (walk (alone t) []).dict
walk_is t =
    let w = walks_well (alone t) [] [] none_seen in
    record { shapes = w.are.shapes; firsts = w.are.firsts; stands = w.are.stands; earlier = w.are.proper.earlier }
