-- With what a declared variable begins fits, and its nodes pay for it.
use Rattle.std.proofs.Common.{◌≡◌, ℕ, zero, suc, ◌+◌, ◌*◌, ◌≤◌, max, Bool, true, false, ◌||◌, not, cond, List, [], ◌∷◌, ◌++◌, map, Option, Some, None, refl, sym, subst, arith}
use Rattle.std.specs.Prelude.{sum, is_some}
use Rattle.std.specs.List.{concat}
use Rattle.std.proofs.lemmas.Bool.{and_from, and_parts}
use Rattle.std.proofs.Math.Nat.{max-le, le-max_left, le-max_right}
use Rattle.k_num.specs.declared.numbers.Kind.{Kind}
use Rattle.k_num.specs.declared.place.Place.{Place}
use Rattle.k_tree.specs.declared.tree.declaration.Init.{Init, fold-roll-Init, fold_out-Init, ind-Init, map-Init, out-Init}
use Rattle.k_tree.specs.declared.tree.declaration.Init.TheOpen.{Init-F}
use Rattle.k_tree.specs.declared.tree.expression.Expr.{Expr}
use Rattle.k_tree.specs.Count.{expr_count, init_count, init_step, initialised_count}
use Rattle.k_types_meaning.specs.declared.fault.TypeFault.TheVariants as fault
use Rattle.k_types_meaning.specs.declared.tree.declaration.TInit.{TInit}
use Rattle.k_types_meaning.specs.declared.tree.declaration.TInit.TheVariants as begins
use Rattle.k_types_meaning.specs.declared.tree.declaration.TItem.{TItem}
use Rattle.k_types_meaning.specs.declared.tree.declaration.TItem.TheVariants as item
use Rattle.k_types_meaning.specs.declared.tree.expression.TExpr.{TExpr}
use Rattle.k_types_meaning.specs.declared.types.CType.{CType}
use Rattle.k_types_meaning.specs.declared.types.CType.TheVariants as ctype
use Rattle.k_types_meaning.specs.Called.{Called, all_calls, expr_calls, init_calls, init_calls_step, start_calls}
use Rattle.k_types_meaning.specs.Constants.{constant}
use Rattle.k_types_meaning.specs.Conversions.{Typed, passed}
use Rattle.k_types_meaning.specs.Dimensions.{room}
use Rattle.k_types_meaning.specs.ElaboratedUnits.{IsDefined}
use Rattle.k_types_meaning.specs.Expressions.{judge}
use Rattle.k_types_meaning.specs.Initialisers.{Beginning, Giving, Items, beginning, begun, begun_step, begun_with, braces, excess, fitting, given_item, giving, giving_step, items_of_both, items_within, list_given, one_given, one_item, string_given, string_item, string_of, value_given}
use Rattle.k_types_meaning.specs.Made.{Made, Fine, Faulty, all_made, refused, then_made}
use Rattle.k_types_meaning.specs.Names.{Names}
use Rattle.k_types_meaning.specs.Types.{elements}
use Rattle.k_types_meaning.proofs.Elaborates.{expressions_elaborate}
use Rattle.k_types_meaning.proofs.Fine.{AllOf, Anything, IfFine, IfThere, anything, both_has, cond_has, if_fine, then_has}
use Rattle.k_lower_fits.specs.Costs.{Cost, and_own, above, free, in_row, of_item, expr_cost, item_cost, init_cost}
use Rattle.k_lower_fits.specs.Fits.{Limits, expr_fits, item_fits, items_fit, init_fits}
use Rattle.k_lower_fits.proofs.Expressions.{NamesFit, AreDefined, expr_good}
use Rattle.k_lower_fits.proofs.Ready.{Ready, IfReady, Good, PaysAll, is_passed, sum_cons}
use Rattle.k_lower_fits.proofs.Split as split

-- what items take together
abbrev row : List TItem → Cost
row items = in_row (map item_cost items)

row_registers : (k : ℕ) (xs ys : List TItem) → (row xs).registers ≤ k → (row ys).registers ≤ k → (row (xs ++ ys)).registers ≤ k
row_registers k [] ys h j = j
row_registers k (x ∷ xs) ys h j =
    let a : (item_cost x).registers ≤ max (item_cost x).registers (row xs).registers = le-max_left (item_cost x).registers (row xs).registers in
    let b : (row xs).registers ≤ max (item_cost x).registers (row xs).registers = le-max_right (item_cost x).registers (row xs).registers in
    let all : max (item_cost x).registers (row xs).registers ≤ k = h in
    max-le {a = (item_cost x).registers} {b = (row (xs ++ ys)).registers} {k = k} (omega (arith, a, all)) (row_registers k xs ys (omega (arith, b, all)) j)

row_instructions : (xs ys : List TItem) → (row (xs ++ ys)).instructions ≡ (row xs).instructions + (row ys).instructions
row_instructions [] ys = omega arith
row_instructions (x ∷ xs) ys = let rest : (row (xs ++ ys)).instructions ≡ (row xs).instructions + (row ys).instructions = row_instructions xs ys in omega (arith, rest)

row_both : (m n : ℕ) (xs ys : List TItem) → PaysAll m (row xs) → PaysAll n (row ys) → PaysAll (m + n) (row (xs ++ ys))
row_both m n xs ys h k =
    let r : (row xs).registers ≤ 2 * m = h.registers in
    let q : (row ys).registers ≤ 2 * n = k.registers in
    let i : (row xs).instructions ≤ 20 * m = h.instructions in
    let j : (row ys).instructions ≤ 20 * n = k.instructions in
    let total : (row (xs ++ ys)).instructions ≡ (row xs).instructions + (row ys).instructions = row_instructions xs ys in
    record { registers = row_registers (2 * (m + n)) xs ys (omega (arith, r)) (omega (arith, q)); instructions = omega (arith, i, j, total) }

pays_more : (m n : ℕ) (c : Cost) → m ≤ n → PaysAll m c → PaysAll n c
pays_more m n c more h =
    let r : c.registers ≤ 2 * m = h.registers in
    let i : c.instructions ≤ 20 * m = h.instructions in
    record { registers = omega (arith, r, more); instructions = omega (arith, i, more) }

pays_nothing : (n : ℕ) → PaysAll n free
pays_nothing n = record { registers = omega arith; instructions = omega arith }

module _ (limits : Limits) where
  fits_both : (xs ys : List TItem) → items_fit limits xs ≡ true → items_fit limits ys ≡ true → items_fit limits (xs ++ ys) ≡ true
  fits_both [] ys h k = k
  fits_both (x ∷ xs) ys h k =
      let both = and_parts (item_fits limits x) (items_fit limits xs) h in
      and_from (item_fits limits x) (items_fit limits (xs ++ ys)) both.0 (fits_both xs ys both.1 k)

  -- an operand above one register, of a tree with one node less
  pays_item : (n : ℕ) (e : TExpr) → Ready limits n e → PaysAll (1 + n) (and_own of_item (above free (expr_cost e)))
  pays_item n e h =
      let r : (expr_cost e).registers ≤ 2 * n = h.pays.registers in
      let i : (expr_cost e).instructions ≤ 20 * n = h.pays.instructions in
      record { registers = max-le {a = 0} {b = 1 + (expr_cost e).registers} {k = 2 * (1 + n)} (omega arith) (omega (arith, r)); instructions = omega (arith, i) }

  -- items fit, and so many nodes pay for them
  pub record ItemsGood (n : ℕ) (found : Items) : Type 0 where
    pub fits : items_fit limits found.items ≡ true
    pub pays : PaysAll n (row found.items)

  items_more : (m n : ℕ) (found : Items) → m ≤ n → ItemsGood m found → ItemsGood n found
  items_more m n found more h = record { fits = h.fits; pays = pays_more m n (row found.items) more h.pays }

  given_good : (file : Bool) (p : Place) (n k : ℕ) (taken : List ℕ) (o : Option TExpr) → IfReady limits k o → IfFine (ItemsGood (1 + k)) (given_item file p n taken o)
  given_good file p n k taken None h = tt
  given_good file p n k taken (Some tree) h =
      let cost : PaysAll (1 + k) (and_own of_item (above free (expr_cost tree))) = pays_item k tree h in
      let r : max 0 (1 + (expr_cost tree).registers) ≤ 2 * (1 + k) = cost.registers in
      let i : 4 + (0 + (expr_cost tree).instructions) ≤ 20 * (1 + k) = cost.instructions in
      cond_has (ItemsGood (1 + k)) (not file || is_some (constant tree)) (Fine (record { items = item.Value p n tree ∷ []; taken = taken })) (refused (fault.Kinds p))
      (record {
        fits = and_from (expr_fits limits tree true) true h.fits refl;
        pays = record {
          registers = max-le {a = max 0 (1 + (expr_cost tree).registers)} {b = 0} {k = 2 * (1 + k)} r (omega arith);
          instructions = omega (arith, i);
        };
      }) tt

  string_item_good : (p : Place) (n k : ℕ) (taken : List ℕ) (o : Option (List ℕ)) → IfFine (ItemsGood k) (string_item p n taken o)
  string_item_good p n k taken None = tt
  string_item_good p n k taken (Some bytes) = record { fits = refl; pays = record { registers = omega arith; instructions = omega arith } }

  one_item_good : (file : Bool) (p : Place) (kind : Kind) (dims : List ℕ) (n k : ℕ) (text : Option (List ℕ)) (v : Typed) → Good limits k v
      → IfFine (ItemsGood (1 + k)) (one_item file p kind dims n text v)
  one_item_good file p kind [] n k text v h = given_good file p n k v.taken (passed (ctype.Number kind) v) (is_passed limits k (ctype.Number kind) v h)
  one_item_good file p kind (d ∷ ds) n k text v h = string_item_good p n (1 + k) v.taken (fitting kind ds d text)

  -- what an initialiser gives is good, by its count
  abbrev GivesGood : ℕ → Giving → Type 0
  GivesGood k g = (file : Bool) (kind : Kind) (dims : List ℕ) (n : ℕ) → IfFine (ItemsGood k) (g.within file kind dims n)

  -- so are several
  abbrev AllGive : List ℕ → List Giving → Type 0
  AllGive ks [] = Unit {0}
  AllGive [] (g ∷ gs) = ⊥
  AllGive (k ∷ ks) (g ∷ gs) = GivesGood k g × AllGive ks gs

  both_good : (j k : ℕ) (a b : Items) → ItemsGood j a → ItemsGood k b → IfFine (ItemsGood (j + k)) (items_of_both a b)
  both_good j k a b h l = record { fits = fits_both a.items b.items h.fits l.fits; pays = row_both j k a.items b.items h.pays l.pays }

  excess_good : (k : ℕ) (p : Place) (m : Made (List ℕ)) → IfFine (ItemsGood k) (then_made m (λ taken. excess p))
  excess_good k p m = then_has Anything (ItemsGood k) m (λ taken. excess p) (anything m) (λ taken h. tt)

  summed : (k : ℕ) (ks : List ℕ) (m : Made Items) → IfFine (ItemsGood (k + sum ks)) m → IfFine (ItemsGood (sum (k ∷ ks))) m
  summed k ks m h = subst (λ (n : ℕ). IfFine (ItemsGood n) m) (sym (sum_cons k ks)) h

  within_good : (file : Bool) (kind : Kind) (dims : List ℕ) (count n : ℕ) (ks : List ℕ) (gs : List Giving) → AllGive ks gs → IfFine (ItemsGood (sum ks)) (items_within file kind dims count n gs)
  within_good file kind dims count n ks [] all = record { fits = refl; pays = pays_nothing (sum ks) }
  within_good file kind dims count n [] (g ∷ gs) all = absurd all
  within_good file kind dims zero n (k ∷ ks) (g ∷ gs) all =
      summed k ks (items_within file kind dims zero n (g ∷ gs))
      (both_has (ItemsGood k) (ItemsGood (sum ks)) (ItemsGood (k + sum ks)) (then_made g.alone (λ taken. excess g.place)) (items_within file kind dims zero n gs) items_of_both
      (excess_good k g.place g.alone) (within_good file kind dims zero n ks gs all.1) (both_good k (sum ks)))
  within_good file kind dims (suc count) n (k ∷ ks) (g ∷ gs) all =
      summed k ks (items_within file kind dims (suc count) n (g ∷ gs))
      (both_has (ItemsGood k) (ItemsGood (sum ks)) (ItemsGood (k + sum ks)) (g.within file kind dims n) (items_within file kind dims count (n + elements dims) gs) items_of_both
      (all.0 file kind dims n) (within_good file kind dims count (n + elements dims) ks gs all.1) (both_good k (sum ks)))

  braces_good : (file : Bool) (p : Place) (kind : Kind) (dims : List ℕ) (n : ℕ) (ks : List ℕ) (gs : List Giving) → AllGive ks gs → IfFine (ItemsGood (sum ks)) (braces file p kind dims n gs)
  braces_good file p kind [] n ks gs all =
      then_has Anything (ItemsGood (sum ks)) (all_made (map (λ (g : Giving). g.alone) gs)) (λ taken. excess p) (anything (all_made (map (λ (g : Giving). g.alone) gs))) (λ taken h. tt)
  braces_good file p kind (d ∷ ds) n ks gs all = within_good file kind ds (room d) n ks gs all

  one_more : (k : ℕ) (m : Made Items) → IfFine (ItemsGood k) m → IfFine (ItemsGood (1 + k)) m
  one_more k (Fine found) h = items_more k (1 + k) found (omega arith) h
  one_more k (Faulty f fs) h = tt

  -- an initialiser fits, and so many nodes pay for it
  pub record InitGood (n : ℕ) (i : TInit) : Type 0 where
    pub fits : init_fits limits i ≡ true
    pub pays : PaysAll n (init_cost i)

module _ (limits : Limits) (defined : List (List ℕ)) (names : Names) (fit : NamesFit limits defined names) where
  -- a judged expression is good
  judged : (e : Expr) → AreDefined limits defined (expr_calls e) → IfFine (Good limits (expr_count e)) (judge names e)
  judged e calls = if_fine (Good limits (expr_count e)) (judge names e) (λ v is. expr_good limits defined names e v fit calls ((expressions_elaborate names e v).0 is))

  abbrev D : List Called → Type 0
  D calls = AllOf (IsDefined defined) calls

  -- what an initialiser gives is good
  abbrev GivenGood : Init → Type 0
  GivenGood i = D (init_calls i) → GivesGood limits (init_count i) (giving names i)

  abbrev inits : List ((i : Init) × GivenGood i) → List Init
  inits xs = map (λ (x : (i : Init) × GivenGood i). x.0) xs

  all_given : (xs : List ((i : Init) × GivenGood i)) → D (all_calls (map init_calls (inits xs))) → AllGive limits (map init_count (inits xs)) (map (giving names) (inits xs))
  all_given [] calls = tt
  all_given (x ∷ xs) calls =
      let c = split.two (IsDefined defined) (init_calls x.0 ++ all_calls (map init_calls (inits xs))) (init_calls x.0) (all_calls (map init_calls (inits xs))) refl calls in
      (x.1 c.0, all_given xs c.1)

  abbrev Layer : Init-F Init → Type 0
  Layer z =
      D (init_calls_step (map-Init Init (List Called) init_calls z))
      → GivesGood limits (init_step (map-Init Init ℕ init_count z)) (giving_step names (map-Init Init Giving (giving names) z))

  given_by : (y : Init-F ((i : Init) × GivenGood i)) → Layer (map-Init _ Init (λ (x : (i : Init) × GivenGood i). x.0) y)
  given_by (Init-F.One p e) calls file kind dims n =
      then_has (Good limits (expr_count e)) (ItemsGood limits (1 + expr_count e)) (judge names e) (one_item file p kind dims n (string_of e)) (judged e calls)
      (λ v h. one_item_good limits file p kind dims n (expr_count e) (string_of e) v h)
  given_by (Init-F.List p items comma) calls file kind dims n =
      one_more limits (sum (map init_count (inits items))) (braces file p kind dims n (map (giving names) (inits items)))
      (braces_good limits file p kind dims n (map init_count (inits items)) (map (giving names) (inits items)) (all_given items calls))

  shifted : (c d : List Called) (m n : ℕ) (g h : Giving) → c ≡ d → m ≡ n → g ≡ h → (D d → GivesGood limits n h) → D c → GivesGood limits m g
  shifted c d m n g h is same alike given calls =
      subst (λ (k : ℕ). GivesGood limits k g) (sym same) (subst (GivesGood limits n) (sym alike) (given (subst D is calls)))

  giving_good : (i : Init) → GivenGood i
  giving_good =
      ind-Init GivenGood
      (λ x y is. shifted _ _ _ _ _ _ (fold-roll-Init (List Called) init_calls_step x) (fold-roll-Init ℕ init_step x) (fold-roll-Init Giving (giving_step names) x) (subst Layer is (given_by y)))

  all_giving : (items : List Init) → D (all_calls (map init_calls items)) → AllGive limits (map init_count items) (map (giving names) items)
  all_giving [] calls = tt
  all_giving (i ∷ items) calls =
      let c = split.two (IsDefined defined) (init_calls i ++ all_calls (map init_calls items)) (init_calls i) (all_calls (map init_calls items)) refl calls in
      (giving_good i c.0, all_giving items c.1)

  abbrev BeginsGood : ℕ → Beginning → Type 0
  BeginsGood n b = IfThere (InitGood limits n) b.init

  value_good : (file : Bool) (k : ℕ) (o : Option TExpr) → IfReady limits k o → IfThere (InitGood limits (1 + k)) (value_given file o)
  value_good file k None h = tt
  value_good file k (Some tree) h = by (not file || is_some (constant tree))
    where
      by : (b : Bool) → IfThere (InitGood limits (1 + k)) (cond b (Some (begins.Value tree)) None)
      by true = record { fits = h.fits; pays = pays_item limits k tree h }
      by false = tt

  string_good : (k : ℕ) (o : Option (List ℕ)) → IfThere (InitGood limits k) (string_given o)
  string_good k None = tt
  string_good k (Some bytes) = record { fits = refl; pays = record { registers = omega arith; instructions = omega arith } }

  one_good : (file : Bool) (of : CType) (k : ℕ) (text : Option (List ℕ)) (v : Typed) → Good limits k v → IfThere (InitGood limits (1 + k)) (one_given file of text v)
  one_good file ctype.Void k text v h = tt
  one_good file (ctype.Number kind) k text v h = value_good file k (passed (ctype.Number kind) v) (is_passed limits k (ctype.Number kind) v h)
  one_good file (ctype.Pointer e) k text v h = value_good file k (passed (ctype.Pointer e) v) (is_passed limits k (ctype.Pointer e) v h)
  one_good file (ctype.Array count e) k text v h = string_good (1 + k) (fitting e.kind e.dims count text)

  alone_good : (k : ℕ) (gs : List Giving) → IfFine (BeginsGood k) (then_made (all_made (map (λ (g : Giving). g.alone) gs)) (λ taken. Fine (beginning None (concat taken))))
  alone_good k gs =
      then_has Anything (BeginsGood k) (all_made (map (λ (g : Giving). g.alone) gs)) (λ taken. Fine (beginning None (concat taken)))
      (anything (all_made (map (λ (g : Giving). g.alone) gs))) (λ taken h. tt)

  list_good : (file : Bool) (of : CType) (ks : List ℕ) (gs : List Giving) → AllGive limits ks gs → IfFine (BeginsGood (1 + sum ks)) (list_given file of gs)
  list_good file (ctype.Array count e) ks gs all =
      then_has (ItemsGood limits (sum ks)) (BeginsGood (1 + sum ks)) (items_within file e.kind e.dims (room count) 0 gs)
      (λ found. Fine (beginning (Some (begins.Elements found.items)) found.taken))
      (within_good limits file e.kind e.dims (room count) 0 ks gs all) (λ found h. record { fits = h.fits; pays = pays_more (sum ks) (1 + sum ks) (row found.items) (omega arith) h.pays })
  list_good file ctype.Void ks gs all = alone_good (1 + sum ks) gs
  list_good file (ctype.Number kind) ks gs all = alone_good (1 + sum ks) gs
  list_good file (ctype.Pointer e) ks gs all = alone_good (1 + sum ks) gs

  step_good : (file : Bool) (of : CType) (x : Init-F Init) → D (init_calls_step (map-Init Init (List Called) init_calls x)) → IfFine (BeginsGood (init_step (map-Init Init ℕ init_count x))) (begun_step names file of x)
  step_good file of (Init-F.One p e) calls =
      then_has (Good limits (expr_count e)) (BeginsGood (1 + expr_count e)) (judge names e) (λ v. Fine (beginning (one_given file of (string_of e) v) v.taken)) (judged e calls)
      (λ v h. one_good file of (expr_count e) (string_of e) v h)
  step_good file of (Init-F.List p items comma) calls = list_good file of (map init_count items) (map (giving names) items) (all_giving items calls)

  with_good : (file : Bool) (of : CType) (i : Init) → D (init_calls i) → IfFine (BeginsGood (init_count i)) (begun_with names file (Some of) i)
  with_good file of i calls =
      subst (λ (k : ℕ). IfFine (BeginsGood k) (begun_step names file of (out-Init i))) (sym (fold_out-Init ℕ init_step i))
      (step_good file of (out-Init i) (subst D (fold_out-Init (List Called) init_calls_step i) calls))

  -- with what an object begins is good
  pub begun_good : (file : Bool) (of : CType) (i : Option Init) → D (start_calls i) → IfFine (BeginsGood (initialised_count i)) (begun names file (Some of) i)
  unfolding begun
  begun_good file of None calls = record { fits = refl; pays = pays_nothing 0 }
  begun_good file of (Some i) calls = with_good file of i calls
