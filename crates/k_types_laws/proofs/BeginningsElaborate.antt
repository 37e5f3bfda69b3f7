-- Judging initialisers and the relation of what objects begin with agree.
use Rattle.std.proofs.Common.{◌≡◌, refl, sym, ◌∙◌, ap, subst, ℕ, zero, suc, ◌+◌, ◌≤◌, ℤ, nat_le, Bool, true, false, ◌&&◌, ◌||◌, not, if◌then◌else◌, List, [], ◌∷◌, ◌++◌, map, length, is_some, Option, Some, None, ◌⊎◌, inl, inr, arith}
use Rattle.std.specs.List.{concat}
use Rattle.std.proofs.lemmas.Bool.{and_parts, le-leb, leb-true}
use Rattle.std.proofs.lemmas.Option.{none-some, same_Some, cond_some}
use Rattle.k_num.specs.declared.numbers.Kind.{Kind}
use Rattle.k_num.specs.declared.numbers.Kind.TheVariants.{I8, U8, I16, U16, I32, U32, I64, U64}
use Rattle.k_num.specs.declared.place.Place.{Place}
use Rattle.k_tree.specs.declared.tree.declaration.Init.{Init, fold-roll-Init, ind-Init, map-Init, out-Init, roll-Init, roll-out-Init}
use Rattle.k_tree.specs.declared.tree.declaration.Init.TheOpen.{Init-F}
use Rattle.k_tree.specs.declared.tree.declaration.Init.TheVariants as init
use Rattle.k_tree.specs.declared.tree.expression.Expr.{Expr}
use Rattle.k_tree.proofs.Folds.{init_List, init_One}
use Rattle.k_types_meaning.specs.declared.fault.TypeFault.TheVariants as fault
use Rattle.k_types_meaning.specs.declared.tree.declaration.TInit.{TInit}
use Rattle.k_types_meaning.specs.declared.tree.declaration.TInit.TheVariants as begins
use Rattle.k_types_meaning.specs.declared.tree.declaration.TItem.{TItem}
use Rattle.k_types_meaning.specs.declared.tree.declaration.TItem.TheVariants as item
use Rattle.k_types_meaning.specs.declared.tree.expression.TExpr.{TExpr}
use Rattle.k_types_meaning.specs.declared.types.CType.{CType}
use Rattle.k_types_meaning.specs.declared.types.CType.TheVariants as ctype
use Rattle.k_types_meaning.specs.declared.types.Element.{Element}
use Rattle.k_types_meaning.specs.Constants.{constant}
use Rattle.k_types_meaning.specs.Conversions.{Typed, passed}
use Rattle.k_types_meaning.specs.Dimensions.{room}
use Rattle.k_types_meaning.specs.Expressions.{judge}
use Rattle.k_types_meaning.specs.Initialisers.{Beginning, Giving, Items, beginning, begun, begun_step, begun_with, braces as judged_braces, excess, fitting, given_item, giving, giving_step, items_of_both, items_within, list_given, one_given, one_item, string_given, string_item, string_of, value_given}
use Rattle.k_types_meaning.specs.Made.{Made, Fine, Faulty, all_made, both, refused, then_made}
use Rattle.k_types_meaning.specs.Names.{Names}
use Rattle.k_types_meaning.specs.Types.{elements, same_kind}
use Rattle.k_types_meaning.proofs.Elaborates.{both_fine, complete, fine_is, not_made, one_fine, sound}
use Rattle.k_types_meaning.proofs.Faultless.{both_is}
use Rattle.k_types_laws.specs.Beginnings.{Begins, Gives, ItemsOf, ItemsOfAll, MayBegin, array_items, braces, constant_value, in_function, more_items, no_items, nothing, number, number_value, pointer_value, string_of_chars, value}
use Rattle.k_types_laws.specs.Laws.{ArePositive, HasSizes, InitialisersElaborate}
use Rattle.k_types_laws.specs.Sizes.{GivesSize, IsString, by_braces, by_string}
use Rattle.k_types_laws.proofs.Strings.{string_complete, string_sound}

-- a size that is known has room for as many
room_is : (d : ℕ) → 1 ≤ d → room d ≡ d
room_is d least = ap (λ b. if b then d else 4194304) (le-leb 1 d least)

-- the kind of char
char_kind : (kind : Kind) → same_kind kind I8 ≡ true → kind ≡ I8
char_kind I8 is = refl
char_kind U8 is = absurd cc
char_kind I16 is = absurd cc
char_kind U16 is = absurd cc
char_kind I32 is = absurd cc
char_kind U32 is = absurd cc
char_kind I64 is = absurd cc
char_kind U64 is = absurd cc

-- a value that passes the test may begin an object
may_sound : (file : Bool) (tree : TExpr) → (not file || is_some (constant tree)) ≡ true → MayBegin file tree
may_sound false tree is = in_function tree
may_sound true tree is = by (constant tree) refl is
  where
    by : (o : Option ℤ) → constant tree ≡ o → is_some o ≡ true → MayBegin true tree
    by None same some = absurd cc
    by (Some z) same some = constant_value tree z same

-- it passes the test
may_complete : (file : Bool) (tree : TExpr) → MayBegin file tree → (not file || is_some (constant tree)) ≡ true
may_complete _ _ (in_function tree) = refl
may_complete _ _ (constant_value tree z is) = ap is_some is

-- a value that is given is one that was passed
value_fine : (file : Bool) (o : Option TExpr) (start : TInit) → value_given file o ≡ Some start
    → (tree : TExpr) × (o ≡ Some tree) × MayBegin file tree × (begins.Value tree ≡ start)
value_fine file None start is = absurd (none-some start is)
value_fine file (Some tree) start is =
    let found = cond_some (not file || is_some (constant tree)) (begins.Value tree) start is in
    (tree, refl, may_sound file tree found.0, found.1)

-- an item that is given is one that was passed
item_fine : (file : Bool) (p : Place) (n : ℕ) (taken : List ℕ) (o : Option TExpr) (found : Items) → given_item file p n taken o ≡ Fine found
    → (tree : TExpr) × (o ≡ Some tree) × MayBegin file tree × (Fine (record { items = item.Value p n tree ∷ []; taken = taken }) ≡ Fine found)
item_fine file p n taken None found is = absurd (not_made (fault.Kinds p) [] found is)
item_fine file p n taken (Some tree) found is = by (not file || is_some (constant tree)) refl is
  where
    by : (b : Bool) → (not file || is_some (constant tree)) ≡ b
        → (if b then Fine (record { items = item.Value p n tree ∷ []; taken = taken }) else refused (fault.Kinds p)) ≡ Fine found
        → (t : TExpr) × (Some tree ≡ Some t) × MayBegin file t × (Fine (record { items = item.Value p n t ∷ []; taken = taken }) ≡ Fine found)
    by true may made = (tree, refl, may_sound file tree may, made)
    by false may made = absurd (not_made (fault.Kinds p) [] found made)

-- a string that fits
fitting_fine : (kind : Kind) (dims : List ℕ) (count : ℕ) (text : Option (List ℕ)) (bytes : List ℕ) → fitting kind dims count text ≡ Some bytes
    → (kind ≡ I8) × (dims ≡ []) × (text ≡ Some bytes) × (length bytes ≤ room count)
fitting_fine kind dims count None bytes is = absurd (none-some bytes is)
fitting_fine kind (d ∷ ds) count (Some text) bytes is = absurd (none-some bytes is)
fitting_fine kind [] count (Some text) bytes is =
    let found = cond_some (same_kind kind I8 && nat_le (length text) (room count)) text bytes is in
    let tests = and_parts (same_kind kind I8) (nat_le (length text) (room count)) found.0 in
    (char_kind kind tests.0, refl, ap Some found.1, subst (λ t. length t ≤ room count) found.1 (leb-true (length text) (room count) tests.1))

fitting_is : (count : ℕ) (text : Option (List ℕ)) (bytes : List ℕ) → 1 ≤ count → text ≡ Some bytes → length bytes ≤ count
    → fitting I8 [] count text ≡ Some bytes
fitting_is count text bytes least is fits =
    ap (fitting I8 [] count) is
    ∙ ap (λ b. if b then Some bytes else None) (le-leb (length bytes) (room count) (subst (λ m. length bytes ≤ m) (sym (room_is count least)) fits))

-- a string that is an item
text_fine : (p : Place) (n : ℕ) (taken : List ℕ) (o : Option (List ℕ)) (found : Items) → string_item p n taken o ≡ Fine found
    → (bytes : List ℕ) × (o ≡ Some bytes) × (Fine (record { items = item.Bytes n bytes ∷ []; taken = taken }) ≡ Fine found)
text_fine p n taken None found is = absurd (not_made (fault.Kinds p) [] found is)
text_fine p n taken (Some bytes) found is = (bytes, refl, is)

module _ (names : Names) where
  -- what judging gives are items by the relation
  abbrev Sound : Init → Type 0
  Sound i =
      (file : Bool) (kind : Kind) (dims : List ℕ) (n : ℕ) (found : Items) → ArePositive dims → (giving names i).within file kind dims n ≡ Fine found
      → ItemsOf names file kind dims n i found.items found.taken

  -- an expression gives an item
  one_sound : (file : Bool) (p : Place) (e : Expr) (kind : Kind) (dims : List ℕ) (n : ℕ) (v : Typed) (found : Items) → ArePositive dims
      → judge names e ≡ Fine v → one_item file p kind dims n (string_of e) v ≡ Fine found
      → ItemsOf names file kind dims n (init.One p e) found.items found.taken
  one_sound file p e kind [] n v found least means is =
      let made = item_fine file p n v.taken (passed (ctype.Number kind) v) found is in
      subst (λ (f : Items). ItemsOf names file kind [] n (init.One p e) f.items f.taken)
      (fine_is (record { items = item.Value p n made.0 ∷ []; taken = v.taken }) found made.3)
      (number names file kind n p e made.0 v.taken (value names file (ctype.Number kind) e v made.0 (sound names e v means) made.1 made.2))
  one_sound file p e kind (d ∷ ds) n v found least means is =
      let made = text_fine p n v.taken (fitting kind ds d (string_of e)) found is in
      let fits = fitting_fine kind ds d (string_of e) made.0 made.1 in
      subst (λ (f : Items). ItemsOf names file kind (d ∷ ds) n (init.One p e) f.items f.taken)
      (fine_is (record { items = item.Bytes n made.0 ∷ []; taken = v.taken }) found made.2)
      (subst (λ k. ItemsOf names file k (d ∷ ds) n (init.One p e) (item.Bytes n made.0 ∷ []) v.taken) (sym fits.0)
      (subst (λ ns. ItemsOf names file I8 (d ∷ ns) n (init.One p e) (item.Bytes n made.0 ∷ []) v.taken) (sym fits.1)
      (string_of_chars names file d n p e v made.0 (sound names e v means) (string_sound e made.0 fits.2)
      (subst (λ m. length made.0 ≤ m) (room_is d least.0) fits.3))))

  -- initialisers, each with what holds of it
  abbrev inits : List ((i : Init) × Sound i) → List Init
  inits xs = map (λ (x : (i : Init) × Sound i). x.0) xs

  -- items of braces
  all_sound : (file : Bool) (kind : Kind) (dims : List ℕ) (count n : ℕ) (xs : List ((i : Init) × Sound i)) (found : Items) → ArePositive dims
      → items_within file kind dims count n (map (giving names) (inits xs)) ≡ Fine found
      → ItemsOfAll names file kind dims count n (inits xs) found.items found.taken
  all_sound file kind dims count n [] found least is =
      subst (λ (f : Items). ItemsOfAll names file kind dims count n [] f.items f.taken)
      (fine_is (record { items = []; taken = [] }) found is) (no_items names file kind dims count n)
  all_sound file kind dims zero n (x ∷ xs) found least is =
      let g = giving names x.0 in
      let parts = both_fine (then_made g.alone (λ taken. excess g.place)) (items_within file kind dims zero n (map (giving names) (inits xs))) items_of_both found is in
      let alone = one_fine g.alone (λ taken. excess g.place) parts.0 parts.2 in
      absurd (not_made (fault.Kinds g.place) [] parts.0 alone.2)
  all_sound file kind dims (suc count) n (x ∷ xs) found least is =
      let g = giving names x.0 in
      let parts = both_fine (g.within file kind dims n) (items_within file kind dims count (n + elements dims) (map (giving names) (inits xs))) items_of_both found is in
      subst (λ (f : Items). ItemsOfAll names file kind dims (suc count) n (x.0 ∷ inits xs) f.items f.taken)
      (fine_is (record { items = (parts.0).items ++ (parts.1).items; taken = (parts.0).taken ++ (parts.1).taken }) found parts.4)
      (more_items names file kind dims count n x.0 (inits xs) (parts.0).items (parts.1).items (parts.0).taken (parts.1).taken
      (x.1 file kind dims n parts.0 least parts.2) (all_sound file kind dims count (n + elements dims) xs parts.1 least parts.3))

  -- braces give items
  braces_sound : (file : Bool) (p : Place) (comma : Bool) (kind : Kind) (dims : List ℕ) (n : ℕ) (xs : List ((i : Init) × Sound i)) (found : Items)
      → ArePositive dims → judged_braces file p kind dims n (map (giving names) (inits xs)) ≡ Fine found
      → ItemsOf names file kind dims n (init.List p (inits xs) comma) found.items found.taken
  braces_sound file p comma kind [] n xs found least is =
      let alone = one_fine (all_made (map (λ (g : Giving). g.alone) (map (giving names) (inits xs)))) (λ taken. excess p) found is in
      absurd (not_made (fault.Kinds p) [] found alone.2)
  braces_sound file p comma kind (d ∷ ds) n xs found least is =
      braces names file kind d ds n p (inits xs) comma found.items found.taken
      (all_sound file kind ds d n xs found least.1
      (subst (λ m. items_within file kind ds m n (map (giving names) (inits xs)) ≡ Fine found) (room_is d least.0) is))

  -- the same of an initialiser that is put together
  sound_by : (y : Init-F ((i : Init) × Sound i)) (file : Bool) (kind : Kind) (dims : List ℕ) (n : ℕ) (found : Items) → ArePositive dims
      → (giving_step names (map-Init Init Giving (giving names) (map-Init _ Init (λ (i : (i : Init) × Sound i). i.0) y))).within file kind dims n ≡ Fine found
      → ItemsOf names file kind dims n (roll-Init (map-Init _ Init (λ (i : (i : Init) × Sound i). i.0) y)) found.items found.taken
  sound_by (Init-F.One p e) file kind dims n found least is =
      let parts = one_fine (judge names e) (one_item file p kind dims n (string_of e)) found is in
      subst (λ i. ItemsOf names file kind dims n i found.items found.taken) (sym (init.rolls-One p e))
      (one_sound file p e kind dims n parts.0 found least parts.1 parts.2)
  sound_by (Init-F.List p xs comma) file kind dims n found least is =
      subst (λ i. ItemsOf names file kind dims n i found.items found.taken) (sym (init.rolls-List p (inits xs) comma))
      (braces_sound file p comma kind dims n xs found least is)

  -- what an initialiser gives without a fault are items by the relation
  pub items_sound : (i : Init) → Sound i
  items_sound =
      ind-Init Sound
      (λ x y is file kind dims n found least made. subst (λ (z : Init-F Init). ItemsOf names file kind dims n (roll-Init z) found.items found.taken) is
      (sound_by y file kind dims n found least
      (ap (λ (z : Init-F Init). (giving_step names (map-Init Init Giving (giving names) z)).within file kind dims n) is
      ∙ sym (ap (λ (g : Giving). g.within file kind dims n) (fold-roll-Init Giving (giving_step names) x)) ∙ made)))

-- what is known of an expression that gives a value
gives_fine : (names : Names) (file : Bool) (of : CType) (e : Expr) (tree : TExpr) (taken : List ℕ) → Gives names file of e tree taken
    → (v : Typed) × (judge names e ≡ Fine v) × (passed of v ≡ Some tree) × MayBegin file tree × (v.taken ≡ taken)
gives_fine _ _ _ _ _ _ (value names file of e v tree means is may) = (v, complete names e v means, is, may, refl)

-- a value that is an item
given_number : (names : Names) (file : Bool) (kind : Kind) (n : ℕ) (p : Place) (e : Expr) (tree : TExpr) (taken : List ℕ)
    → Gives names file (ctype.Number kind) e tree taken
    → then_made (judge names e) (one_item file p kind [] n (string_of e)) ≡ Fine (record { items = item.Value p n tree ∷ []; taken = taken })
given_number names file kind n p e tree taken gives =
    let g = gives_fine names file (ctype.Number kind) e tree taken gives in
    ap (λ m. then_made m (one_item file p kind [] n (string_of e))) g.1
    ∙ ap (given_item file p n (g.0).taken) g.2
    ∙ ap (λ b. if b then Fine (record { items = item.Value p n tree ∷ []; taken = (g.0).taken }) else refused (fault.Kinds p)) (may_complete file tree g.3)
    ∙ ap (λ t. Fine (record { items = item.Value p n tree ∷ []; taken = t })) g.4

mutual
  -- items by the relation are what judging gives
  pub items_complete : (names : Names) (file : Bool) (kind : Kind) (dims : List ℕ) (n : ℕ) (i : Init) (items : List TItem) (taken : List ℕ)
      → ItemsOf names file kind dims n i items taken → ArePositive dims
      → (giving names i).within file kind dims n ≡ Fine (record { items = items; taken = taken })
  items_complete _ _ _ _ _ _ _ _ (number names file kind n p e tree taken gives) least =
      ap (λ (g : Giving). g.within file kind [] n) (init_One Giving (giving_step names) p e) ∙ given_number names file kind n p e tree taken gives
  items_complete _ _ _ _ _ _ _ _ (string_of_chars names file d n p e v bytes means is fits) least =
      ap (λ (g : Giving). g.within file I8 (d ∷ []) n) (init_One Giving (giving_step names) p e)
      ∙ ap (λ m. then_made m (one_item file p I8 (d ∷ []) n (string_of e))) (complete names e v means)
      ∙ ap (string_item p n v.taken) (fitting_is d (string_of e) bytes least.0 (string_complete e bytes is) fits)
  items_complete _ _ _ _ _ _ _ _ (braces names file kind d ds n p list comma items taken all) least =
      ap (λ (g : Giving). g.within file kind (d ∷ ds) n) (init_List Giving (giving_step names) p list comma)
      ∙ ap (λ m. items_within file kind ds m n (map (giving names) list)) (room_is d least.0)
      ∙ all_complete names file kind ds d n list items taken all least.1

  -- items of braces
  all_complete : (names : Names) (file : Bool) (kind : Kind) (dims : List ℕ) (count n : ℕ) (list : List Init) (items : List TItem) (taken : List ℕ)
      → ItemsOfAll names file kind dims count n list items taken → ArePositive dims
      → items_within file kind dims count n (map (giving names) list) ≡ Fine (record { items = items; taken = taken })
  all_complete _ _ _ _ _ _ _ _ _ (no_items names file kind dims count n) least = refl
  all_complete _ _ _ _ _ _ _ _ _ (more_items names file kind dims count n i list items others taken more one rest) least =
      both_is items_of_both (items_complete names file kind dims n i items taken one least)
      (all_complete names file kind dims count (n + elements dims) list others more rest least)

-- braces without items
abbrev pub IsEmpty : Init-F Init → Type 0
IsEmpty (Init-F.One p e) = ⊥
IsEmpty (Init-F.List p [] comma) = Unit {0}
IsEmpty (Init-F.List p (i ∷ list) comma) = ⊥

-- a first dimension has as many elements as it says, or no items are for it
abbrev pub HasRoom : ℕ → Init → Type 0
HasRoom count i = (1 ≤ count) ⊎ IsEmpty (out-Init i)

-- an array and an initialiser of which each dimension has as many elements as it says
abbrev pub Fits : CType → Option Init → Type 0
Fits ctype.Void start = Unit {0}
Fits (ctype.Number kind) start = Unit {0}
Fits (ctype.Pointer to) start = Unit {0}
Fits (ctype.Array count of) None = Unit {0}
Fits (ctype.Array count of) (Some i) = HasRoom count i × ArePositive of.dims

-- a count that an initialiser gives
pub given_room : (i : Init) (d : ℕ) → GivesSize i d → HasRoom d i
given_room _ _ (by_string p e bytes is) = inl (omega arith)
given_room _ _ (by_braces p [] comma) = inr (subst IsEmpty (sym (init.outs-List p [] comma)) tt)
given_room _ _ (by_braces p (i ∷ list) comma) = inl (omega arith)

module _ (names : Names) (file : Bool) (kind : Kind) (count : ℕ) (dims : List ℕ) where
  -- braces without items give none
  empty_sound : (x : Init-F Init) (found : Items) → IsEmpty x → (giving names (roll-Init x)).within file kind (count ∷ dims) 0 ≡ Fine found
      → ItemsOf names file kind (count ∷ dims) 0 (roll-Init x) found.items found.taken
  empty_sound (Init-F.One p e) found empty is = absurd empty
  empty_sound (Init-F.List p (i ∷ list) comma) found empty is = absurd empty
  empty_sound (Init-F.List p [] comma) found empty is =
      let same = ap (λ (g : Giving). g.within file kind (count ∷ dims) 0) (fold-roll-Init Giving (giving_step names) (Init-F.List p [] comma)) in
      subst (λ i. ItemsOf names file kind (count ∷ dims) 0 i found.items found.taken) (sym (init.rolls-List p [] comma))
      (subst (λ (f : Items). ItemsOf names file kind (count ∷ dims) 0 (init.List p [] comma) f.items f.taken)
      (fine_is (record { items = []; taken = [] }) found (sym same ∙ is))
      (braces names file kind count dims 0 p [] comma [] [] (no_items names file kind dims count 0)))

  -- what is given to a whole array are items by the relation
  whole_sound : (i : Init) (found : Items) → HasRoom count i → ArePositive dims → (giving names i).within file kind (count ∷ dims) 0 ≡ Fine found
      → ItemsOf names file kind (count ∷ dims) 0 i found.items found.taken
  whole_sound i found (inl least) positive is = items_sound names i file kind (count ∷ dims) 0 found (least, positive) is
  whole_sound i found (inr empty) positive is =
      subst (λ j. ItemsOf names file kind (count ∷ dims) 0 j found.items found.taken) (roll-out-Init i)
      (empty_sound (out-Init i) found empty
      (ap (λ j. (giving names j).within file kind (count ∷ dims) 0) (roll-out-Init i) ∙ is))

-- no items of braces
none_complete : (names : Names) (file : Bool) (kind : Kind) (ds : List ℕ) (d n : ℕ) (p : Place) (list : List Init) (comma : Bool) (items : List TItem) (taken : List ℕ)
    → ItemsOfAll names file kind ds d n list items taken → IsEmpty (Init-F.List p list comma)
    → items_within file kind ds (room d) n (map (giving names) list) ≡ Fine (record { items = items; taken = taken })
none_complete _ _ _ _ _ _ p _ comma _ _ (no_items names file kind dims count n) empty = refl
none_complete _ _ _ _ _ _ p _ comma _ _ (more_items names file kind dims count n i list items others taken more one rest) empty = absurd empty

-- items of braces without any are what judging gives
empty_complete : (names : Names) (file : Bool) (kind : Kind) (dims : List ℕ) (n : ℕ) (i : Init) (items : List TItem) (taken : List ℕ)
    → ItemsOf names file kind dims n i items taken → IsEmpty (out-Init i)
    → (giving names i).within file kind dims n ≡ Fine (record { items = items; taken = taken })
empty_complete _ _ _ _ _ _ _ _ (number names file kind n p e tree taken gives) empty = absurd (subst IsEmpty (init.outs-One p e) empty)
empty_complete _ _ _ _ _ _ _ _ (string_of_chars names file d n p e v bytes means is fits) empty = absurd (subst IsEmpty (init.outs-One p e) empty)
empty_complete _ _ _ _ _ _ _ _ (braces names file kind d ds n p list comma items taken all) empty =
    ap (λ (g : Giving). g.within file kind (d ∷ ds) n) (init_List Giving (giving_step names) p list comma)
    ∙ none_complete names file kind ds d n p list comma items taken all (subst IsEmpty (init.outs-List p list comma) empty)

-- items of a whole array are what judging gives
whole_complete : (names : Names) (file : Bool) (kind : Kind) (count : ℕ) (dims : List ℕ) (i : Init) (items : List TItem) (taken : List ℕ)
    → HasRoom count i → ArePositive dims → ItemsOf names file kind (count ∷ dims) 0 i items taken
    → (giving names i).within file kind (count ∷ dims) 0 ≡ Fine (record { items = items; taken = taken })
whole_complete names file kind count dims i items taken (inl least) positive its =
    items_complete names file kind (count ∷ dims) 0 i items taken its (least, positive)
whole_complete names file kind count dims i items taken (inr empty) positive its =
    empty_complete names file kind (count ∷ dims) 0 i items taken its empty

-- a string with which an array begins
string_fine : (o : Option (List ℕ)) (start : TInit) → string_given o ≡ Some start
    → (bytes : List ℕ) × (o ≡ Some bytes) × (begins.Elements (item.Bytes 0 bytes ∷ []) ≡ start)
string_fine None start is = absurd (none-some start is)
string_fine (Some bytes) start is = (bytes, refl, same_Some (begins.Elements (item.Bytes 0 bytes ∷ [])) start is)

module _ (names : Names) (file : Bool) where
  -- judging gives these items to a whole array
  abbrev GivesWhole : ℕ → Element → Init-F Init → List TItem → List ℕ → Type 0
  GivesWhole count of x items taken =
      (giving_step names (map-Init Init Giving (giving names) x)).within file of.kind (count ∷ of.dims) 0 ≡ Fine (record { items = items; taken = taken })

  -- an array begins with items that it is given
  array_fine : (count : ℕ) (of : Element) (x : Init-F Init) (start : Beginning) (begin : TInit)
      → begun_step names file (ctype.Array count of) x ≡ Fine start → start.init ≡ Some begin
      → (items : List TItem) × (begins.Elements items ≡ begin) × GivesWhole count of x items start.taken
  array_fine count of (Init-F.One p e) start begin is some =
      let parts = one_fine (judge names e) (λ v. Fine (beginning (one_given file (ctype.Array count of) (string_of e) v) v.taken)) start is in
      let same = fine_is (beginning (one_given file (ctype.Array count of) (string_of e) parts.0) (parts.0).taken) start parts.2 in
      let text = string_fine (fitting of.kind of.dims count (string_of e)) begin (ap (λ (b : Beginning). b.init) same ∙ some) in (
        item.Bytes 0 text.0 ∷ [],
        text.2,
        ap (λ m. then_made m (one_item file p of.kind (count ∷ of.dims) 0 (string_of e))) parts.1
            ∙ ap (string_item p 0 (parts.0).taken) text.1
            ∙ ap (λ (b : Beginning). Fine (record { items = item.Bytes 0 text.0 ∷ []; taken = b.taken })) same,
      )
  array_fine count of (Init-F.List p list comma) start begin is some =
      let parts = one_fine (items_within file of.kind of.dims (room count) 0 (map (giving names) list))
      (λ (found : Items). Fine (beginning (Some (begins.Elements found.items)) found.taken)) start is in
      let same = fine_is (beginning (Some (begins.Elements (parts.0).items)) (parts.0).taken) start parts.2 in (
        (parts.0).items,
        same_Some (begins.Elements (parts.0).items) begin (ap (λ (b : Beginning). b.init) same ∙ some),
        parts.1 ∙ ap (λ (b : Beginning). Fine (record { items = (parts.0).items; taken = b.taken })) same,
      )

  -- items that an array is given it begins with
  array_is : (count : ℕ) (of : Element) (x : Init-F Init) (items : List TItem) (taken : List ℕ) → GivesWhole count of x items taken
      → begun_step names file (ctype.Array count of) x ≡ Fine (beginning (Some (begins.Elements items)) taken)
  array_is count of (Init-F.One p e) items taken is =
      let parts = one_fine (judge names e) (one_item file p of.kind (count ∷ of.dims) 0 (string_of e)) (record { items = items; taken = taken }) is in
      let text = text_fine p 0 (parts.0).taken (fitting of.kind of.dims count (string_of e)) (record { items = items; taken = taken }) parts.2 in
      let same = fine_is (record { items = item.Bytes 0 text.0 ∷ []; taken = (parts.0).taken }) (record { items = items; taken = taken }) text.2 in
      ap (λ m. then_made m (λ v. Fine (beginning (one_given file (ctype.Array count of) (string_of e) v) v.taken))) parts.1
      ∙ ap (λ o. Fine (beginning (string_given o) (parts.0).taken)) text.1
      ∙ ap (λ (f : Items). Fine (beginning (Some (begins.Elements f.items)) f.taken)) same
  array_is count of (Init-F.List p list comma) items taken is =
      ap (λ m. then_made m (λ (found : Items). Fine (beginning (Some (begins.Elements found.items)) found.taken))) is

  -- a number or a pointer begins with a value that it is given
  scalar_fine : (of : CType) (e : Expr) (start : Beginning) (begin : TInit)
      → then_made (judge names e) (λ v. Fine (beginning (value_given file (passed of v)) v.taken)) ≡ Fine start → start.init ≡ Some begin
      → (tree : TExpr) × Gives names file of e tree start.taken × (begins.Value tree ≡ begin)
  scalar_fine of e start begin is some =
      let parts = one_fine (judge names e) (λ v. Fine (beginning (value_given file (passed of v)) v.taken)) start is in
      let same = fine_is (beginning (value_given file (passed of parts.0)) (parts.0).taken) start parts.2 in
      let given = value_fine file (passed of parts.0) begin (ap (λ (b : Beginning). b.init) same ∙ some) in (
        given.0,
        subst (Gives names file of e given.0) (ap (λ (b : Beginning). b.taken) same)
            (value names file of e parts.0 given.0 (sound names e parts.0 parts.1) given.1 given.2),
        given.3,
      )

  -- a value that is given it begins with
  scalar_is : (of : CType) (e : Expr) (tree : TExpr) (taken : List ℕ) → Gives names file of e tree taken
      → then_made (judge names e) (λ v. Fine (beginning (value_given file (passed of v)) v.taken)) ≡ Fine (beginning (Some (begins.Value tree)) taken)
  scalar_is of e tree taken gives =
      let g = gives_fine names file of e tree taken gives in
      ap (λ m. then_made m (λ v. Fine (beginning (value_given file (passed of v)) v.taken))) g.1
      ∙ ap (λ o. Fine (beginning (value_given file o) (g.0).taken)) g.2
      ∙ ap (λ b. Fine (beginning (if b then Some (begins.Value tree) else None) (g.0).taken)) (may_complete file tree g.3)
      ∙ ap (λ t. Fine (beginning (Some (begins.Value tree)) t)) g.4

  -- braces for what is no array are none of its type
  no_braces : (list : List Init) (start : Beginning) (begin : TInit)
      → then_made (all_made (map (λ (g : Giving). g.alone) (map (giving names) list))) (λ taken. Fine (beginning None (concat taken))) ≡ Fine start
      → start.init ≡ Some begin → ⊥
  no_braces list start begin is some =
      let parts = one_fine (all_made (map (λ (g : Giving). g.alone) (map (giving names) list))) (λ taken. Fine (beginning None (concat taken))) start is in
      none-some begin (ap (λ (b : Beginning). b.init) (fine_is (beginning None (concat parts.0)) start parts.2) ∙ some)

  -- an object that judging finds a beginning for begins with it
  step_sound : (of : CType) (x : Init-F Init) (start : Beginning) (begin : TInit) → Fits of (Some (roll-Init x))
      → begun_step names file of x ≡ Fine start → start.init ≡ Some begin → Begins names file of (Some (roll-Init x)) begin start.taken
  step_sound ctype.Void (Init-F.One p e) start begin fits is some =
      let parts = one_fine (judge names e) (λ v. Fine (beginning None v.taken)) start is in
      absurd (none-some begin (ap (λ (b : Beginning). b.init) (fine_is (beginning None (parts.0).taken) start parts.2) ∙ some))
  step_sound ctype.Void (Init-F.List p list comma) start begin fits is some = absurd (no_braces list start begin is some)
  step_sound (ctype.Number kind) (Init-F.One p e) start begin fits is some =
      let given = scalar_fine (ctype.Number kind) e start begin is some in
      subst (λ i. Begins names file (ctype.Number kind) (Some i) begin start.taken) (sym (init.rolls-One p e))
      (subst (λ b. Begins names file (ctype.Number kind) (Some (init.One p e)) b start.taken) given.2 (number_value names file kind p e given.0 start.taken given.1))
  step_sound (ctype.Number kind) (Init-F.List p list comma) start begin fits is some = absurd (no_braces list start begin is some)
  step_sound (ctype.Pointer to) (Init-F.One p e) start begin fits is some =
      let given = scalar_fine (ctype.Pointer to) e start begin is some in
      subst (λ i. Begins names file (ctype.Pointer to) (Some i) begin start.taken) (sym (init.rolls-One p e))
      (subst (λ b. Begins names file (ctype.Pointer to) (Some (init.One p e)) b start.taken) given.2 (pointer_value names file to p e given.0 start.taken given.1))
  step_sound (ctype.Pointer to) (Init-F.List p list comma) start begin fits is some = absurd (no_braces list start begin is some)
  step_sound (ctype.Array count of) x start begin fits is some =
      let given = array_fine count of x start begin is some in
      subst (λ b. Begins names file (ctype.Array count of) (Some (roll-Init x)) b start.taken) given.1
      (array_items names file count of (roll-Init x) given.0 start.taken
      (whole_sound names file of.kind count of.dims (roll-Init x) (record { items = given.0; taken = start.taken }) fits.0 fits.1
      (ap (λ (g : Giving). g.within file of.kind (count ∷ of.dims) 0) (fold-roll-Init Giving (giving_step names) x) ∙ given.2)))

  -- an object that judging finds a beginning for, with an initialiser or without
  pub begun_sound : (of : CType) (o : Option Init) (start : Beginning) (begin : TInit) → Fits of o
      → begun names file (Some of) o ≡ Fine start → start.init ≡ Some begin → Begins names file of o begin start.taken
  unfolding begun
  begun_sound of None start begin fits is some =
      let same = fine_is (beginning (Some begins.Nothing) []) start is in
      subst (Begins names file of None begin) (ap (λ (b : Beginning). b.taken) same)
      (subst (λ b. Begins names file of None b []) (same_Some begins.Nothing begin (ap (λ (b : Beginning). b.init) same ∙ some)) (nothing names file of))
  begun_sound of (Some i) start begin fits is some =
      subst (λ j. Begins names file of (Some j) begin start.taken) (roll-out-Init i)
      (step_sound of (out-Init i) start begin (subst (λ j. Fits of (Some j)) (sym (roll-out-Init i)) fits) is some)

-- with what an object begins is what judging finds
pub begun_complete : (names : Names) (file : Bool) (of : CType) (o : Option Init) (begin : TInit) (taken : List ℕ) → Fits of o
    → Begins names file of o begin taken → begun names file (Some of) o ≡ Fine (beginning (Some begin) taken)
unfolding begun
begun_complete _ _ _ _ _ _ fits (nothing names file of) = refl
begun_complete _ _ _ _ _ _ fits (number_value names file kind p e tree taken gives) =
    ap (begun_step names file (ctype.Number kind)) (init.outs-One p e) ∙ scalar_is names file (ctype.Number kind) e tree taken gives
begun_complete _ _ _ _ _ _ fits (pointer_value names file to p e tree taken gives) =
    ap (begun_step names file (ctype.Pointer to)) (init.outs-One p e) ∙ scalar_is names file (ctype.Pointer to) e tree taken gives
begun_complete _ _ _ _ _ _ fits (array_items names file count of i items taken its) =
    array_is names file count of (out-Init i) items taken
    (sym (ap (λ (g : Giving). g.within file of.kind (count ∷ of.dims) 0)
    (ap (giving names) (sym (roll-out-Init i)) ∙ fold-roll-Init Giving (giving_step names) (out-Init i)))
    ∙ whole_complete names file of.kind count of.dims i items taken fits.0 fits.1 its)

-- a type whose sizes are 1 or more has room for any initialiser
sized_fits : (of : CType) (o : Option Init) → HasSizes of → Fits of o
sized_fits ctype.Void o h = tt
sized_fits (ctype.Number kind) o h = tt
sized_fits (ctype.Pointer to) o h = tt
sized_fits (ctype.Array count of) None h = tt
sized_fits (ctype.Array count of) (Some i) h = (inl h.0, h.1)

-- judging an initialiser and the relation agree
pub initialisers_elaborate : InitialisersElaborate
initialisers_elaborate names file of o begin taken h =
    (λ is. begun_sound names file of o (beginning (Some begin) taken) begin (sized_fits of o h) is refl, begun_complete names file of o begin taken (sized_fits of o h))
