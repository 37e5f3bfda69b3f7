-- With what a declared variable begins passes where the strings of its initialiser do.
use Rattle.std.proofs.Common.{◌≡◌, ℕ, zero, suc, ◌+◌, Bool, true, false, ◌||◌, not, cond, List, [], ◌∷◌, ◌++◌, map, Option, Some, None, refl, sym, subst}
use Rattle.std.specs.Prelude.{is_some}
use Rattle.std.specs.List.{concat}
use Rattle.std.proofs.lemmas.Bool.{and_from, and_parts}
use Rattle.k_num.specs.declared.numbers.Kind.{Kind}
use Rattle.k_num.specs.declared.place.Place.{Place}
use Rattle.k_tree.specs.declared.tree.declaration.Init.{Init, fold-roll-Init, fold_out-Init, ind-Init, map-Init, out-Init}
use Rattle.k_tree.specs.declared.tree.declaration.Init.TheOpen.{Init-F}
use Rattle.k_tree.specs.declared.tree.expression.Expr.{Expr}
use Rattle.k_tree.specs.Spelling.{Spelled, spell_expr, spell_init, spell_init_step, spell_initialised, spell_last_comma, with_commas}
use Rattle.k_types_meaning.specs.declared.fault.TypeFault.TheVariants as fault
use Rattle.k_types_meaning.specs.declared.tree.declaration.TInit.{TInit}
use Rattle.k_types_meaning.specs.declared.tree.declaration.TInit.TheVariants as begins
use Rattle.k_types_meaning.specs.declared.tree.declaration.TItem.{TItem}
use Rattle.k_types_meaning.specs.declared.tree.declaration.TItem.TheVariants as item
use Rattle.k_types_meaning.specs.declared.tree.expression.TExpr.{TExpr}
use Rattle.k_types_meaning.specs.declared.types.CType.{CType}
use Rattle.k_types_meaning.specs.declared.types.CType.TheVariants as ctype
use Rattle.k_types_meaning.specs.Called.{Called, all_calls, expr_calls, init_calls, init_calls_step, start_calls}
use Rattle.k_types_meaning.specs.Constants.{constant}
use Rattle.k_types_meaning.specs.Conversions.{Typed, passed}
use Rattle.k_types_meaning.specs.Dimensions.{room}
use Rattle.k_types_meaning.specs.ElaboratedUnits.{IsDefined}
use Rattle.k_types_meaning.specs.Expressions.{judge}
use Rattle.k_types_meaning.specs.Initialisers.{Beginning, Giving, Items, beginning, begun, begun_step, begun_with, braces, excess, fitting, given_item, giving, giving_step, items_of_both, items_within, list_given, one_given, one_item, string_given, string_item, string_of, value_given}
use Rattle.k_types_meaning.specs.Made.{Made, Fine, all_made, refused, then_made}
use Rattle.k_types_meaning.specs.Names.{Names}
use Rattle.k_types_meaning.specs.Types.{elements}
use Rattle.k_types_meaning.proofs.Elaborates.{expressions_elaborate}
use Rattle.k_types_meaning.proofs.Fine.{AllOf, Anything, IfFine, IfThere, anything, both_has, cond_has, if_fine, then_has}
use Rattle.k_lower_fits.proofs.Split.{front, two}
use Rattle.k_lower_texts.specs.Laws.{FormatsFollow, NumbersFollow, TokenPasses}
use Rattle.k_lower_texts.specs.Passing.{Asks, expr_passes, item_passes, items_pass, init_passes}
use Rattle.k_lower_texts.proofs.Conversions.{Passes, is_passed}
use Rattle.k_lower_texts.proofs.Expressions.{NamesAsk, expr_good}
use Rattle.k_lower_texts.proofs.Operands.{G}
use Rattle.k_lower_texts.proofs.Split.{Each, commas_each}

module _ (asks : Asks) (numbers : NumbersFollow asks) where
  both_pass : (xs ys : List TItem) → items_pass asks xs ≡ true → items_pass asks ys ≡ true → items_pass asks (xs ++ ys) ≡ true
  both_pass [] ys h k = k
  both_pass (x ∷ xs) ys h k =
      let both = and_parts (item_passes asks x) (items_pass asks xs) h in
      and_from (item_passes asks x) (items_pass asks (xs ++ ys)) both.0 (both_pass xs ys both.1 k)

  -- items pass
  abbrev pub ItemsPass : Items → Type 0
  ItemsPass found = items_pass asks found.items ≡ true

  given_passes : (file : Bool) (p : Place) (n : ℕ) (taken : List ℕ) (o : Option TExpr) → IfThere (Passes asks) o → IfFine ItemsPass (given_item file p n taken o)
  given_passes file p n taken None h = tt
  given_passes file p n taken (Some tree) h =
      cond_has ItemsPass (not file || is_some (constant tree)) (Fine (record { items = item.Value p n tree ∷ []; taken = taken })) (refused (fault.Kinds p))
      (and_from (expr_passes asks tree) true h refl) tt

  string_item_passes : (p : Place) (n : ℕ) (taken : List ℕ) (o : Option (List ℕ)) → IfFine ItemsPass (string_item p n taken o)
  string_item_passes p n taken None = tt
  string_item_passes p n taken (Some bytes) = refl

  one_item_passes : (file : Bool) (p : Place) (kind : Kind) (dims : List ℕ) (n : ℕ) (text : Option (List ℕ)) (v : Typed) → G asks v → IfFine ItemsPass (one_item file p kind dims n text v)
  one_item_passes file p kind [] n text v h = given_passes file p n v.taken (passed (ctype.Number kind) v) (is_passed asks numbers (ctype.Number kind) v h.0)
  one_item_passes file p kind (d ∷ ds) n text v h = string_item_passes p n v.taken (fitting kind ds d text)

  -- what an initialiser gives passes
  abbrev GivesPassing : Giving → Type 0
  GivesPassing g = (file : Bool) (kind : Kind) (dims : List ℕ) (n : ℕ) → IfFine ItemsPass (g.within file kind dims n)

  both_items_pass : (a b : Items) → ItemsPass a → ItemsPass b → IfFine ItemsPass (items_of_both a b)
  both_items_pass a b h l = both_pass a.items b.items h l

  excess_passes : (p : Place) (m : Made (List ℕ)) → IfFine ItemsPass (then_made m (λ taken. excess p))
  excess_passes p m = then_has Anything ItemsPass m (λ taken. excess p) (anything m) (λ taken h. tt)

  within_passes : (file : Bool) (kind : Kind) (dims : List ℕ) (count n : ℕ) (gs : List Giving) → AllOf GivesPassing gs → IfFine ItemsPass (items_within file kind dims count n gs)
  within_passes file kind dims count n [] all = refl
  within_passes file kind dims zero n (g ∷ gs) all =
      both_has ItemsPass ItemsPass ItemsPass (then_made g.alone (λ taken. excess g.place)) (items_within file kind dims zero n gs) items_of_both
      (excess_passes g.place g.alone) (within_passes file kind dims zero n gs all.1) both_items_pass
  within_passes file kind dims (suc count) n (g ∷ gs) all =
      both_has ItemsPass ItemsPass ItemsPass (g.within file kind dims n) (items_within file kind dims count (n + elements dims) gs) items_of_both
      (all.0 file kind dims n) (within_passes file kind dims count (n + elements dims) gs all.1) both_items_pass

  braces_pass : (file : Bool) (p : Place) (kind : Kind) (dims : List ℕ) (n : ℕ) (gs : List Giving) → AllOf GivesPassing gs → IfFine ItemsPass (braces file p kind dims n gs)
  braces_pass file p kind [] n gs all =
      then_has Anything ItemsPass (all_made (map (λ (g : Giving). g.alone) gs)) (λ taken. excess p) (anything (all_made (map (λ (g : Giving). g.alone) gs))) (λ taken h. tt)
  braces_pass file p kind (d ∷ ds) n gs all = within_passes file kind ds (room d) n gs all

module _ (asks : Asks) (follow : FormatsFollow asks) (numbers : NumbersFollow asks) (defined : List (List ℕ)) (names : Names) (fit : NamesAsk asks follow numbers defined names) where
  abbrev D : List Called → Type 0
  D calls = AllOf (IsDefined defined) calls

  abbrev T : Spelled → Type 0
  T tokens = AllOf (TokenPasses asks) tokens

  -- a judged expression passes
  judged : (e : Expr) → D (expr_calls e) → T (spell_expr e) → IfFine (G asks) (judge names e)
  judged e calls texts = if_fine (G asks) (judge names e) (λ v is. expr_good asks follow numbers defined names e v fit calls texts ((expressions_elaborate names e v).0 is))

  -- what an initialiser gives passes
  abbrev GivenPasses : Init → Type 0
  GivenPasses i = D (init_calls i) → T (spell_init i) → GivesPassing asks numbers (giving names i)

  abbrev inits : List ((i : Init) × GivenPasses i) → List Init
  inits xs = map (λ (x : (i : Init) × GivenPasses i). x.0) xs

  all_given : (xs : List ((i : Init) × GivenPasses i)) → D (all_calls (map init_calls (inits xs))) → Each (TokenPasses asks) (map spell_init (inits xs)) → AllOf (GivesPassing asks numbers) (map (giving names) (inits xs))
  all_given [] calls texts = tt
  all_given (x ∷ xs) calls texts =
      let c = two (IsDefined defined) (init_calls x.0 ++ all_calls (map init_calls (inits xs))) (init_calls x.0) (all_calls (map init_calls (inits xs))) refl calls in
      (x.1 c.0 texts.0, all_given xs c.1 texts.1)

  abbrev Layer : Init-F Init → Type 0
  Layer z =
      D (init_calls_step (map-Init Init (List Called) init_calls z)) → T (spell_init_step (map-Init Init Spelled spell_init z))
      → GivesPassing asks numbers (giving_step names (map-Init Init Giving (giving names) z))

  -- the items in braces
  in_list : (p : Place) (pieces : List Spelled) (comma : Bool) → T (spell_init_step (Init-F.List p pieces comma)) → Each (TokenPasses asks) pieces
  in_list p pieces comma texts =
      commas_each (TokenPasses asks) pieces
      (front (TokenPasses asks) (with_commas pieces) (spell_last_comma comma) (front (TokenPasses asks) (with_commas pieces ++ spell_last_comma comma) _ texts.1))

  given_by : (y : Init-F ((i : Init) × GivenPasses i)) → Layer (map-Init _ Init (λ (x : (i : Init) × GivenPasses i). x.0) y)
  given_by (Init-F.One p e) calls texts file kind dims n =
      then_has (G asks) (ItemsPass asks numbers) (judge names e) (one_item file p kind dims n (string_of e)) (judged e calls texts) (λ v h. one_item_passes asks numbers file p kind dims n (string_of e) v h)
  given_by (Init-F.List p items comma) calls texts file kind dims n =
      braces_pass asks numbers file p kind dims n (map (giving names) (inits items)) (all_given items calls (in_list p (map spell_init (inits items)) comma texts))

  shifted : (c d : List Called) (s t : Spelled) (g h : Giving) → c ≡ d → s ≡ t → g ≡ h → (D d → T t → GivesPassing asks numbers h) → D c → T s → GivesPassing asks numbers g
  shifted c d s t g h is same_tokens alike given calls texts = subst (GivesPassing asks numbers) (sym alike) (given (subst D is calls) (subst T same_tokens texts))

  giving_passes : (i : Init) → GivenPasses i
  giving_passes =
      ind-Init GivenPasses
      (λ x y is. shifted _ _ _ _ _ _ (fold-roll-Init (List Called) init_calls_step x) (fold-roll-Init Spelled spell_init_step x) (fold-roll-Init Giving (giving_step names) x) (subst Layer is (given_by y)))

  all_giving : (items : List Init) → D (all_calls (map init_calls items)) → Each (TokenPasses asks) (map spell_init items) → AllOf (GivesPassing asks numbers) (map (giving names) items)
  all_giving [] calls texts = tt
  all_giving (i ∷ items) calls texts =
      let c = two (IsDefined defined) (init_calls i ++ all_calls (map init_calls items)) (init_calls i) (all_calls (map init_calls items)) refl calls in
      (giving_passes i c.0 texts.0, all_giving items c.1 texts.1)

  -- an initialiser passes
  abbrev pub InitPasses : TInit → Type 0
  InitPasses i = init_passes asks i ≡ true

  abbrev BeginsPassing : Beginning → Type 0
  BeginsPassing b = IfThere InitPasses b.init

  value_passes : (file : Bool) (o : Option TExpr) → IfThere (Passes asks) o → IfThere InitPasses (value_given file o)
  value_passes file None h = tt
  value_passes file (Some tree) h = by (not file || is_some (constant tree))
    where
      by : (b : Bool) → IfThere InitPasses (cond b (Some (begins.Value tree)) None)
      by true = h
      by false = tt

  string_passes : (o : Option (List ℕ)) → IfThere InitPasses (string_given o)
  string_passes None = tt
  string_passes (Some bytes) = refl

  one_passes : (file : Bool) (of : CType) (text : Option (List ℕ)) (v : Typed) → G asks v → IfThere InitPasses (one_given file of text v)
  one_passes file ctype.Void text v h = tt
  one_passes file (ctype.Number kind) text v h = value_passes file (passed (ctype.Number kind) v) (is_passed asks numbers (ctype.Number kind) v h.0)
  one_passes file (ctype.Pointer e) text v h = value_passes file (passed (ctype.Pointer e) v) (is_passed asks numbers (ctype.Pointer e) v h.0)
  one_passes file (ctype.Array count e) text v h = string_passes (fitting e.kind e.dims count text)

  alone_passes : (gs : List Giving) → IfFine BeginsPassing (then_made (all_made (map (λ (g : Giving). g.alone) gs)) (λ taken. Fine (beginning None (concat taken))))
  alone_passes gs =
      then_has Anything BeginsPassing (all_made (map (λ (g : Giving). g.alone) gs)) (λ taken. Fine (beginning None (concat taken)))
      (anything (all_made (map (λ (g : Giving). g.alone) gs))) (λ taken h. tt)

  list_passes : (file : Bool) (of : CType) (gs : List Giving) → AllOf (GivesPassing asks numbers) gs → IfFine BeginsPassing (list_given file of gs)
  list_passes file (ctype.Array count e) gs all =
      then_has (ItemsPass asks numbers) BeginsPassing (items_within file e.kind e.dims (room count) 0 gs)
      (λ found. Fine (beginning (Some (begins.Elements found.items)) found.taken)) (within_passes asks numbers file e.kind e.dims (room count) 0 gs all) (λ found h. h)
  list_passes file ctype.Void gs all = alone_passes gs
  list_passes file (ctype.Number kind) gs all = alone_passes gs
  list_passes file (ctype.Pointer e) gs all = alone_passes gs

  step_passes : (file : Bool) (of : CType) (x : Init-F Init) → D (init_calls_step (map-Init Init (List Called) init_calls x)) → T (spell_init_step (map-Init Init Spelled spell_init x))
      → IfFine BeginsPassing (begun_step names file of x)
  step_passes file of (Init-F.One p e) calls texts =
      then_has (G asks) BeginsPassing (judge names e) (λ v. Fine (beginning (one_given file of (string_of e) v) v.taken)) (judged e calls texts)
      (λ v h. one_passes file of (string_of e) v h)
  step_passes file of (Init-F.List p items comma) calls texts = list_passes file of (map (giving names) items) (all_giving items calls (in_list p (map spell_init items) comma texts))

  with_passes : (file : Bool) (of : CType) (i : Init) → D (init_calls i) → T (spell_init i) → IfFine BeginsPassing (begun_with names file (Some of) i)
  with_passes file of i calls texts =
      step_passes file of (out-Init i) (subst D (fold_out-Init (List Called) init_calls_step i) calls) (subst T (fold_out-Init Spelled spell_init_step i) texts)

  -- with what an object begins passes
  pub begun_passes : (file : Bool) (of : CType) (i : Option Init) → D (start_calls i) → T (spell_initialised i) → IfFine (λ (b : Beginning). IfThere InitPasses b.init) (begun names file (Some of) i)
  unfolding begun
  begun_passes file of None calls texts = refl
  begun_passes file of (Some i) calls texts = with_passes file of i calls texts.1
