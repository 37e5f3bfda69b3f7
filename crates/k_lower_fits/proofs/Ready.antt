-- Expressions that fit and are small, one construct from its operands.
use Rattle.std.proofs.Common.{◌≡◌, ℕ, ◌+◌, ◌*◌, ◌≤◌, Bool, true, false, ◌&&◌, List, [], ◌∷◌, map, Option, Some, None, refl, sym, ◌∙◌, ap, subst, arith}
use Rattle.std.specs.Prelude.{◌||◌, not, if◌then◌else◌, sum, max, ℤ}
use Rattle.std.proofs.lemmas.Bool.{and_from}
use Rattle.std.proofs.lemmas.List.Sums.{sum_by-cons}
use Rattle.std.proofs.Math.Nat.{max-le}
use Rattle.k_num.specs.declared.numbers.Kind.{Kind}
use Rattle.k_num.specs.Kind.{converted}
use Rattle.k_types_meaning.specs.declared.tree.expression.Node.{Node}
use Rattle.k_types_meaning.specs.declared.tree.expression.TExpr.{TExpr}
use Rattle.k_types_meaning.specs.declared.tree.expression.TExpr.TheVariants as typed
use Rattle.k_types_meaning.specs.declared.types.CType.{CType}
use Rattle.k_types_meaning.specs.declared.types.CType.TheVariants as ctype
use Rattle.k_types_meaning.specs.declared.types.TType.TheVariants as ttype
use Rattle.k_types_meaning.specs.Conversions.{Typed, at, node_of, in_kind, number_in, conversion, number_in_kind, unless_number, passed, passed_number, passed_pointer, keeps_const}
use Rattle.k_types_meaning.specs.declared.types.Element.{Element}
use Rattle.k_types_meaning.specs.Types.{told, same_kind, number_kind, pointed}
use Rattle.k_types_meaning.proofs.Folds.{typed_Number, typed_Convert}
use Rattle.k_lower_fits.specs.Costs.{Cost, expression, change, above, then_, free, arguments, expr_cost, expr_cost_step}
use Rattle.k_lower_fits.specs.Fits.{Limits, Use, all_used, expr_fits, expr_step, has_values}

-- a type has values
abbrev pub HasValues : CType → Type 0
HasValues of = has_values (told of) ≡ true

pub number_has_values : (of : CType) (kind : Kind) → number_kind of ≡ Some kind → HasValues of
number_has_values ctype.Void kind is = absurd cc
number_has_values (ctype.Number k) kind is = refl
number_has_values (ctype.Pointer e) kind is = refl
number_has_values (ctype.Array n e) kind is = refl

pub pointer_has_values : (of : CType) (e : Element) → pointed of ≡ Some e → HasValues of
pointer_has_values ctype.Void e is = absurd cc
pointer_has_values (ctype.Number k) e is = refl
pointer_has_values (ctype.Pointer f) e is = refl
pointer_has_values (ctype.Array n f) e is = refl

-- an expression of this type may stand so
abbrev pub May : CType → Bool → Type 0
May of used = (not used || has_values (told of)) ≡ true

pub sum_cons : (n : ℕ) (ns : List ℕ) → sum (n ∷ ns) ≡ n + sum ns
sum_cons n ns = sum_by-cons (λ x. x) n ns

-- so many nodes pay for so much
pub record Pays (n : ℕ) (c : Cost) : Type 0 where
  pub some : 1 ≤ n
  pub registers : c.registers ≤ 2 * n
  pub instructions : c.instructions ≤ 20 * n

-- and for a conversion too
pub record PaysMore (n : ℕ) (c : Cost) : Type 0 where
  pub some : 1 ≤ n
  pub registers : c.registers ≤ 2 * n
  pub instructions : c.instructions + 4 ≤ 20 * n

pub pays_less : (n : ℕ) (c : Cost) → PaysMore n c → Pays n c
pays_less n c h = let i : c.instructions + 4 ≤ 20 * n = h.instructions in record { some = h.some; registers = h.registers; instructions = omega (arith, i) }

pub pays_atom : PaysMore 1 (expression free)
pays_atom = record { some = omega arith; registers = max-le {a = 1} {b = 0} {k = 2 * 1} (omega arith) (omega arith); instructions = omega arith }

pub pays_one : (n : ℕ) (a : Cost) → Pays n a → PaysMore (1 + n) (expression a)
pays_one n a h =
    let i : a.instructions ≤ 20 * n = h.instructions in
    let r : a.registers ≤ 2 * n = h.registers in
    record { some = omega arith; registers = max-le {a = 1} {b = a.registers} {k = 2 * (1 + n)} (omega arith) (omega (arith, r)); instructions = omega (arith, i) }

pub pays_change : (n : ℕ) (a : Cost) → Pays n a → PaysMore (1 + n) (change a)
pays_change n a h =
    let i : a.instructions ≤ 20 * n = h.instructions in
    let r : a.registers ≤ 2 * n = h.registers in
    let s : 1 ≤ n = h.some in
    record { some = omega arith; registers = max-le {a = 4} {b = a.registers} {k = 2 * (1 + n)} (omega (arith, s)) (omega (arith, r)); instructions = omega (arith, i) }

pub pays_post : (n : ℕ) (a : Cost) → Pays n a → PaysMore (1 + n) (change (above free a))
pays_post n a h =
    let i : a.instructions ≤ 20 * n = h.instructions in
    let r : a.registers ≤ 2 * n = h.registers in
    let s : 1 ≤ n = h.some in
    record {
      some = omega arith;
      registers = max-le {a = 4} {b = max 0 (1 + a.registers)} {k = 2 * (1 + n)} (omega (arith, s)) (max-le {a = 0} {b = 1 + a.registers} {k = 2 * (1 + n)} (omega arith) (omega (arith, r)));
      instructions = omega (arith, i);
    }

pub pays_above : (m n : ℕ) (a b : Cost) → Pays m a → Pays n b → Pays (m + n) (above a b)
pays_above m n a b h k =
    let i : a.instructions ≤ 20 * m = h.instructions in
    let j : b.instructions ≤ 20 * n = k.instructions in
    let r : a.registers ≤ 2 * m = h.registers in
    let q : b.registers ≤ 2 * n = k.registers in
    let s : 1 ≤ m = h.some in
    record { some = omega (arith, s); registers = max-le {a = a.registers} {b = 1 + b.registers} {k = 2 * (m + n)} (omega (arith, r)) (omega (arith, q, s)); instructions = omega (arith, i, j) }

pub pays_then : (m n : ℕ) (a b : Cost) → Pays m a → Pays n b → Pays (m + n) (then_ a b)
pays_then m n a b h k =
    let i : a.instructions ≤ 20 * m = h.instructions in
    let j : b.instructions ≤ 20 * n = k.instructions in
    let r : a.registers ≤ 2 * m = h.registers in
    let q : b.registers ≤ 2 * n = k.registers in
    let s : 1 ≤ m = h.some in
    record { some = omega (arith, s); registers = max-le {a = a.registers} {b = b.registers} {k = 2 * (m + n)} (omega (arith, r)) (omega (arith, q)); instructions = omega (arith, i, j) }

-- so many nodes pay for so much, where there may be none
pub record PaysAll (total : ℕ) (c : Cost) : Type 0 where
  pub registers : c.registers ≤ 2 * total
  pub instructions : c.instructions ≤ 20 * total

pub pays_arguments : (total : ℕ) (c : Cost) → PaysAll total c → PaysMore (1 + total) (expression c)
pays_arguments total c h =
    let i : c.instructions ≤ 20 * total = h.instructions in
    let r : c.registers ≤ 2 * total = h.registers in
    record { some = omega arith; registers = max-le {a = 1} {b = c.registers} {k = 2 * (1 + total)} (omega arith) (omega (arith, r)); instructions = omega (arith, i) }

module _ (limits : Limits) where
  -- AN OPERAND: it fits where its value is used, and nodes pay for it
  pub record Ready (n : ℕ) (e : TExpr) : Type 0 where
    pub fits : expr_fits limits e true ≡ true
    pub pays : Pays n (expr_cost e)

  -- A JUDGED EXPRESSION, of a tree with so many nodes: it fits where it may stand, and its nodes pay for it and for a conversion
  pub record Good (n : ℕ) (v : Typed) : Type 0 where
    pub fits : (used : Bool) → May v.of used → expr_fits limits v.tree used ≡ true
    pub pays : PaysMore n (expr_cost v.tree)

  pub ready : (n : ℕ) (v : Typed) → HasValues v.of → Good n v → Ready n v.tree
  ready n v has h = record { fits = h.fits true has; pays = pays_less n (expr_cost v.tree) h.pays }

  -- where it is not used
  pub unused : (n : ℕ) (v : Typed) → Good n v → expr_fits limits v.tree false ≡ true
  unused n v h = h.fits false refl

  -- by what its tree comes to
  pub good_by : (n : ℕ) (v : Typed) (f : Use) (c : Cost) → expr_fits limits v.tree ≡ f → expr_cost v.tree ≡ c → ((used : Bool) → May v.of used → f used ≡ true) → PaysMore n c → Good n v
  good_by n v f c is costs each pays = record {
    fits = λ used may. ap (λ (g : Use). g used) is ∙ each used may;
    pays = subst (PaysMore n) (sym costs) pays;
  }

  pub atom : (v : Typed) → expr_fits limits v.tree ≡ (λ used. true) → expr_cost v.tree ≡ expression free → Good 1 v
  atom v is costs = good_by 1 v (λ used. true) (expression free) is costs (λ used may. refl) pays_atom

  pub of_one : (n : ℕ) (v : Typed) (a : TExpr) → expr_fits limits v.tree ≡ (λ used. expr_fits limits a true) → expr_cost v.tree ≡ expression (expr_cost a) → Ready n a → Good (1 + n) v
  of_one n v a is costs h = good_by (1 + n) v (λ used. expr_fits limits a true) (expression (expr_cost a)) is costs (λ used may. h.fits) (pays_one n (expr_cost a) h.pays)

  pub of_change : (n : ℕ) (v : Typed) (a : TExpr) → expr_fits limits v.tree ≡ (λ used. expr_fits limits a true) → expr_cost v.tree ≡ change (expr_cost a) → Ready n a → Good (1 + n) v
  of_change n v a is costs h = good_by (1 + n) v (λ used. expr_fits limits a true) (change (expr_cost a)) is costs (λ used may. h.fits) (pays_change n (expr_cost a) h.pays)

  pub of_post : (n : ℕ) (v : Typed) (a : TExpr) → expr_fits limits v.tree ≡ (λ used. expr_fits limits a true) → expr_cost v.tree ≡ change (above free (expr_cost a)) → Ready n a → Good (1 + n) v
  of_post n v a is costs h = good_by (1 + n) v (λ used. expr_fits limits a true) (change (above free (expr_cost a))) is costs (λ used may. h.fits) (pays_post n (expr_cost a) h.pays)

  -- of a tree with more nodes
  pub good_within : (m n : ℕ) (v : Typed) → m ≤ n → Good m v → Good n v
  good_within m n v more h =
      let r : (expr_cost v.tree).registers ≤ 2 * m = h.pays.registers in
      let i : (expr_cost v.tree).instructions + 4 ≤ 20 * m = h.pays.instructions in
      let s : 1 ≤ m = h.pays.some in
      record { fits = h.fits; pays = record { some = omega (arith, s, more); registers = omega (arith, r, more); instructions = omega (arith, i, more) } }

  pub regrouped : (m n : ℕ) (v : Typed) → Good (1 + (m + n)) v → Good (1 + m + n) v
  regrouped m n v h = subst (λ (k : ℕ). Good k v) (let e : 1 + (m + n) ≡ 1 + m + n = omega arith in e) h

  pub of_two : (m n : ℕ) (v : Typed) (a b : TExpr) → expr_fits limits v.tree ≡ (λ used. expr_fits limits a true && expr_fits limits b true) → expr_cost v.tree ≡ expression (above (expr_cost a) (expr_cost b))
      → Ready m a → Ready n b → Good (1 + m + n) v
  of_two m n v a b is costs h k =
      regrouped m n v
      (good_by (1 + (m + n)) v (λ used. expr_fits limits a true && expr_fits limits b true) (expression (above (expr_cost a) (expr_cost b))) is costs
      (λ used may. and_from (expr_fits limits a true) (expr_fits limits b true) h.fits k.fits)
      (pays_one (m + n) (above (expr_cost a) (expr_cost b)) (pays_above m n (expr_cost a) (expr_cost b) h.pays k.pays)))

  pub two_change : (m n : ℕ) (v : Typed) (a b : TExpr) → expr_fits limits v.tree ≡ (λ used. expr_fits limits a true && expr_fits limits b true) → expr_cost v.tree ≡ change (above (expr_cost a) (expr_cost b))
      → Ready m a → Ready n b → Good (1 + m + n) v
  two_change m n v a b is costs h k =
      regrouped m n v
      (good_by (1 + (m + n)) v (λ used. expr_fits limits a true && expr_fits limits b true) (change (above (expr_cost a) (expr_cost b))) is costs
      (λ used may. and_from (expr_fits limits a true) (expr_fits limits b true) h.fits k.fits)
      (pays_change (m + n) (above (expr_cost a) (expr_cost b)) (pays_above m n (expr_cost a) (expr_cost b) h.pays k.pays)))

  -- CONVERSIONS
  ready_number : (n : ℕ) (node : Node) (z : ℤ) → 1 ≤ n → Ready n (typed.Number node z)
  ready_number n node z some = record {
    fits = ap (λ (g : Use). g true) (typed_Number Use (expr_step limits) node z);
    pays = subst (Pays n) (sym (typed_Number Cost expr_cost_step node z))
        (record { some = some; registers = max-le {a = 1} {b = 0} {k = 2 * n} (omega (arith, some)) (omega arith); instructions = omega (arith, some) });
  }

  ready_convert : (n : ℕ) (node : Node) (v : Typed) → HasValues v.of → Good n v → Ready n (typed.Convert node v.tree)
  ready_convert n node v has h =
      let i : (expr_cost v.tree).instructions + 4 ≤ 20 * n = h.pays.instructions in
      record {
        fits = ap (λ (g : Use). g true) (typed_Convert Use (expr_step limits) node v.tree) ∙ h.fits true has;
        pays = subst (Pays n) (sym (typed_Convert Cost expr_cost_step node v.tree))
            (record { some = h.pays.some; registers = h.pays.registers; instructions = omega (arith, i) });
      }

  pub in_its_kind : (n : ℕ) (from to : Kind) (v : Typed) → HasValues v.of → Good n v → Ready n (in_kind from to v.tree)
  unfolding in_kind
  in_its_kind n from to v has h = by (same_kind from to)
    where
      converts : (o : Option ℤ) → Ready n (conversion to v.tree o)
      converts None = ready_convert n (at (node_of v.tree).place (ttype.Number to)) v has h
      converts (Some z) = ready_number n (at (node_of v.tree).place (ttype.Number to)) (converted to z) h.pays.some

      by : (b : Bool) → Ready n (if b then v.tree else conversion to v.tree (number_in v.tree))
      by true = ready n v has h
      by false = converts (number_in v.tree)

  -- an expression that has values fits in any case
  pub any_use : (n : ℕ) (v : Typed) → HasValues v.of → Good n v → (used : Bool) → expr_fits limits v.tree used ≡ true
  any_use n v has h true = h.fits true has
  any_use n v has h false = unused n v h

  -- so does a conversion of it
  pub kind_any_use : (n : ℕ) (from to : Kind) (v : Typed) → HasValues v.of → Good n v → (used : Bool) → expr_fits limits (in_kind from to v.tree) used ≡ true
  unfolding in_kind
  kind_any_use n from to v has h used = by (same_kind from to)
    where
      converts : (o : Option ℤ) → expr_fits limits (conversion to v.tree o) used ≡ true
      converts None = ap (λ (g : Use). g used) (typed_Convert Use (expr_step limits) (at (node_of v.tree).place (ttype.Number to)) v.tree) ∙ h.fits true has
      converts (Some z) = ap (λ (g : Use). g used) (typed_Number Use (expr_step limits) (at (node_of v.tree).place (ttype.Number to)) (converted to z))

      by : (b : Bool) → expr_fits limits (if b then v.tree else conversion to v.tree (number_in v.tree)) used ≡ true
      by true = any_use n v has h used
      by false = converts (number_in v.tree)

  pub number_in_its_kind : (n : ℕ) (from to : Kind) (v : Typed) → HasValues v.of → Good n v → Ready n (number_in_kind from to v.tree)
  unfolding number_in_kind
  number_in_its_kind n from to v has h = by (number_in v.tree)
    where
      by : (o : Option ℤ) → Ready n (unless_number v.tree (in_kind from to v.tree) o)
      by None = ready n v has h
      by (Some z) = in_its_kind n from to v has h

  -- what is passed, if it is
  abbrev pub IfReady : ℕ → Option TExpr → Type 0
  IfReady n None = Unit {0}
  IfReady n (Some e) = Ready n e

  number_passed : (n : ℕ) (to : Kind) (v : Typed) (o : Option Kind) → number_kind v.of ≡ o → Good n v → IfReady n (passed_number to v.tree o)
  number_passed n to v None is h = tt
  number_passed n to v (Some from) is h = in_its_kind n from to v (number_has_values v.of from is) h

  pointer_passed : (n : ℕ) (to : Element) (v : Typed) (o : Option Element) → pointed v.of ≡ o → Good n v → IfReady n (passed_pointer to v.tree o)
  pointer_passed n to v None is h = tt
  pointer_passed n to v (Some from) is h = by (keeps_const to from)
    where
      by : (b : Bool) → IfReady n (if b then Some v.tree else None)
      by true = ready n v (pointer_has_values v.of from is) h
      by false = tt

  pub is_passed : (n : ℕ) (to : CType) (v : Typed) → Good n v → IfReady n (passed to v)
  unfolding passed
  is_passed n ctype.Void v h = tt
  is_passed n (ctype.Number kind) v h = number_passed n kind v (number_kind v.of) refl h
  is_passed n (ctype.Pointer e) v h = pointer_passed n e v (pointed v.of) refl h
  is_passed n (ctype.Array count e) v h = pointer_passed n e v (pointed v.of) refl h

  -- SEVERAL OPERANDS, of trees with so many nodes
  abbrev pub AllReady : List ℕ → List TExpr → Type 0
  AllReady ns [] = Unit {0}
  AllReady [] (e ∷ es) = ⊥
  AllReady (n ∷ ns) (e ∷ es) = Ready n e × AllReady ns es

  pub all_fit : (ns : List ℕ) (es : List TExpr) → AllReady ns es → all_used (map (expr_fits limits) es) ≡ true
  all_fit ns [] h = refl
  all_fit [] (e ∷ es) h = absurd h
  all_fit (n ∷ ns) (e ∷ es) h = and_from (expr_fits limits e true) (all_used (map (expr_fits limits) es)) h.0.fits (all_fit ns es h.1)

  pub all_paid : (ns : List ℕ) (es : List TExpr) → AllReady ns es → PaysAll (sum ns) (arguments (map expr_cost es))
  all_paid ns [] h = record { registers = omega arith; instructions = omega arith }
  all_paid [] (e ∷ es) h = absurd h
  all_paid (n ∷ ns) (e ∷ es) h =
      let rest : PaysAll (sum ns) (arguments (map expr_cost es)) = all_paid ns es h.1 in
      let total : sum (n ∷ ns) ≡ n + sum ns = sum_cons n ns in
      let i : (expr_cost e).instructions ≤ 20 * n = h.0.pays.instructions in
      let j : (arguments (map expr_cost es)).instructions ≤ 20 * sum ns = rest.instructions in
      let r : (expr_cost e).registers ≤ 2 * n = h.0.pays.registers in
      let q : (arguments (map expr_cost es)).registers ≤ 2 * sum ns = rest.registers in
      let s : 1 ≤ n = h.0.pays.some in
      record {
        registers = max-le {a = (expr_cost e).registers} {b = 1 + (arguments (map expr_cost es)).registers} {k = 2 * sum (n ∷ ns)} (omega (arith, r, total)) (omega (arith, q, s, total));
        instructions = omega (arith, i, j, total);
      }
