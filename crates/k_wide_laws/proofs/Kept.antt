-- What holds of each use that *Marks* lists of a text holds of each occurrence that Wide lists of it: expressions.
use Rattle.std.proofs.Common.{◌≡◌, ℕ, Bool, true, false, List, [], ◌∷◌, ◌++◌, map, Option, Some, None, refl, sym, subst, true≢false}
use Rattle.std.specs.Prelude.{◌&&◌}
use Rattle.std.specs.List.{list_all}
use Rattle.k_types_meaning.specs.declared.tree.declaration.TDeclarator.{TDeclarator}
use Rattle.k_types_meaning.specs.declared.tree.declaration.TInit.{TInit}
use Rattle.k_types_meaning.specs.declared.tree.declaration.TInit.TheVariants as begins
use Rattle.k_types_meaning.specs.declared.tree.declaration.TItem.{TItem}
use Rattle.k_types_meaning.specs.declared.tree.declaration.TItem.TheVariants as item
use Rattle.k_types_meaning.specs.declared.tree.expression.TExpr.{TExpr, fold-roll-TExpr, ind-TExpr, map-TExpr, roll-TExpr}
use Rattle.k_types_meaning.specs.declared.tree.expression.TExpr.TheOpen.{TExpr-F}
use Rattle.k_types_meaning.specs.declared.tree.statement.TFirst.{TFirst}
use Rattle.k_types_meaning.specs.declared.tree.statement.TFirst.TheVariants as first
use Rattle.k_marks_meaning.specs.declared.uses.Reduction.{Reduction}
use Rattle.k_marks_meaning.specs.declared.uses.Use.{Use}
use Rattle.k_marks_meaning.specs.declared.uses.Use.TheVariants as stated
use Rattle.k_marks_meaning.specs.Uses.{Used, used, uses_step, of_uses, uses_of, assigns, in_order, option_uses, all_uses, item_uses, init_uses, declarator_uses, declared_uses, first_uses, first_declares, declares}
use Rattle.k_wide_meaning.specs.declared.occurrences.Scalar.{Scalar}
use Rattle.k_wide_meaning.specs.declared.occurrences.Scalar.TheVariants.{Variable, Object}
use Rattle.k_wide_meaning.specs.declared.occurrences.Reducing.{Reducing}
use Rattle.k_wide_meaning.specs.declared.occurrences.WideGroup.TheVariants.{By}
use Rattle.k_wide_meaning.specs.declared.occurrences.Occurrence.{Occurrence}
use Rattle.k_wide_meaning.specs.declared.occurrences.Occurrence.TheVariants as occurs
use Rattle.k_wide_meaning.specs.Occurrences as wide
use Rattle.k_wide_meaning.specs.Occurrences.{Occurring, occurring, occurs_step, of_all, scalar, occurs_in, target, assigned, addressed, option_occurs, all_of, item_occurs, init_occurs, declarator_occurs, declared_occurs, first_occurs, first_declared}

pub both_true : (a b : Bool) → (a && b) ≡ true → (a ≡ true) × (b ≡ true)
both_true true b h = (refl, h)
both_true false b h = absurd (true≢false (sym h))

pub and_both : (a b : Bool) → a ≡ true → b ≡ true → (a && b) ≡ true
and_both true b h k = k
and_both false b h k = absurd (true≢false (sym h))

-- what holds of each item of two lists, one behind the other
pub all_both : {A : Type 0} (p : A → Bool) (xs ys : List A) → list_all p (xs ++ ys) ≡ true → (list_all p xs ≡ true) × (list_all p ys ≡ true)
all_both p [] ys h = (refl, h)
all_both p (x ∷ xs) ys h =
    let front = both_true (p x) (list_all p (xs ++ ys)) h in
    let rest = all_both p xs ys front.1 in
    (and_both (p x) (list_all p xs) front.0 rest.0, rest.1)

pub both_all : {A : Type 0} (p : A → Bool) (xs ys : List A) → list_all p xs ≡ true → list_all p ys ≡ true → list_all p (xs ++ ys) ≡ true
both_all p [] ys h k = k
both_all p (x ∷ xs) ys h k =
    let front = both_true (p x) (list_all p xs) h in
    and_both (p x) (list_all p (xs ++ ys)) front.0 (both_all p xs ys front.1 k)

-- A TEST OF OCCURRENCES that says no more than one of uses
pub record Compatible (p : Use → Bool) (q : Occurrence → Bool) : Type 0 where
  pub names : (n : ℕ) → p (stated.Names n) ≡ true → q (occurs.Names (Variable n)) ≡ true
  pub assigns : (n : ℕ) → p (stated.Assigns n) ≡ true → q (occurs.Assigns (Variable n)) ≡ true
  pub declares : (n : ℕ) → p (stated.Declares n) ≡ true → q (occurs.Declares n) ≡ true
  pub reduces : (r : Reduction) → p (stated.Reduces r) ≡ true → q (occurs.Reduces (record { scalar = Variable r.variable; group = By r.group; read = r.read })) ≡ true
  pub by_assign : (r : Reducing) (n : ℕ) → r.scalar ≡ Variable n → p (stated.Assigns n) ≡ true → q (occurs.Reduces r) ≡ true
  pub by_both : (r : Reducing) (s : Reduction) → r.scalar ≡ Variable s.variable → p (stated.Names s.variable) ≡ true → p (stated.Reduces s) ≡ true → q (occurs.Reduces r) ≡ true
  pub object_named : (n : ℕ) → q (occurs.Names (Object n)) ≡ true
  pub object_assigned : (n : ℕ) → q (occurs.Assigns (Object n)) ≡ true
  pub object_reduced : (r : Reducing) (n : ℕ) → r.scalar ≡ Object n → q (occurs.Reduces r) ≡ true
  pub addressed : (n : ℕ) → q (occurs.Addresses n) ≡ true
  pub called : (n : ℕ) → q (occurs.Calls n) ≡ true

-- the variable that a scalar is
abbrev pub variable_in : Option Scalar → Option ℕ
variable_in None = None
variable_in (Some (Variable n)) = Some n
variable_in (Some (Object n)) = None

-- a use is no reduction
abbrev pub is_simple : Use → Bool
is_simple (stated.Names n) = true
is_simple (stated.Assigns n) = true
is_simple (stated.Declares n) = true
is_simple (stated.Reduces r) = false

-- what holds of the uses of an expression holds of its occurrences
pub record Good (p : Use → Bool) (q : Occurrence → Bool) (a : Occurring) (u : Used) : Type 0 where
  pub itself : variable_in a.itself ≡ u.itself
  pub keeps : list_all p u.uses ≡ true → list_all q a.all ≡ true
  pub plain : list_all is_simple u.uses ≡ true

module _ (p : Use → Bool) (q : Occurrence → Bool) (c : Compatible p q) where
  pub alone : (o : Occurrence) → q o ≡ true → list_all q (o ∷ []) ≡ true
  alone o h = and_both (q o) true h refl

  pub front : (o : Occurrence) (os : List Occurrence) → q o ≡ true → list_all q os ≡ true → list_all q (o ∷ os) ≡ true
  front o os h k = and_both (q o) (list_all q os) h k

  pub head_of : (u : Use) (us : List Use) → list_all p (u ∷ us) ≡ true → p u ≡ true
  head_of u us h = (both_true (p u) (list_all p us) h).0

  pub tail_of : (u : Use) (us : List Use) → list_all p (u ∷ us) ≡ true → list_all p us ≡ true
  tail_of u us h = (both_true (p u) (list_all p us) h).1

  one : (a : Occurring) (u : Used) → Good p q a u → Good p q (of_all a.all) (of_uses u.uses)
  one a u h = record { itself = refl; keeps = h.keeps; plain = h.plain }

  two : (a b : Occurring) (u v : Used) → Good p q a u → Good p q b v → Good p q (of_all (a.all ++ b.all)) (of_uses (u.uses ++ v.uses))
  two a b u v h k = record {
    itself = refl;
    keeps = λ all. let parts = all_both p u.uses v.uses all in both_all q a.all b.all (h.keeps parts.0) (k.keeps parts.1);
    plain = both_all is_simple u.uses v.uses h.plain k.plain;
  }

  assigned_kept : (s : Option Scalar) → list_all p (assigns (variable_in s)) ≡ true → list_all q (assigned s) ≡ true
  assigned_kept None h = refl
  assigned_kept (Some (Variable n)) h = alone (occurs.Assigns (Variable n)) (c.assigns n (head_of (stated.Assigns n) [] h))
  assigned_kept (Some (Object n)) h = alone (occurs.Assigns (Object n)) (c.object_assigned n)

  assigns_simple : (i : Option ℕ) → list_all is_simple (assigns i) ≡ true
  assigns_simple None = refl
  assigns_simple (Some n) = refl

  changed : (a : Occurring) (u : Used) → Good p q a u → Good p q (of_all (target a)) (of_uses (assigns u.itself ++ u.uses))
  changed a u h = record {
    itself = refl;
    keeps = λ all.
        let parts = all_both p (assigns u.itself) u.uses all in
        both_all q (assigned a.itself) a.all (assigned_kept a.itself (subst (λ (i : Option ℕ). list_all p (assigns i) ≡ true) (sym h.itself) parts.0)) (h.keeps parts.1);
    plain = both_all is_simple (assigns u.itself) u.uses (assigns_simple u.itself) h.plain;
  }

  put : (a b : Occurring) (u v : Used) → Good p q a u → Good p q b v → Good p q (of_all (target a ++ b.all)) (of_uses ((assigns u.itself ++ u.uses) ++ v.uses))
  put a b u v h k = two (of_all (target a)) b (of_uses (assigns u.itself ++ u.uses)) v (changed a u h) k

  addressed_kept : (s : Option Scalar) → list_all q (addressed s) ≡ true
  addressed_kept None = refl
  addressed_kept (Some (Variable n)) = refl
  addressed_kept (Some (Object n)) = alone (occurs.Addresses n) (c.addressed n)

  taken : (a : Occurring) (u : Used) → Good p q a u → Good p q (of_all (addressed a.itself ++ a.all)) (of_uses u.uses)
  taken a u h = record {
    itself = refl;
    keeps = λ all. both_all q (addressed a.itself) a.all (addressed_kept a.itself) (h.keeps all);
    plain = h.plain;
  }

  abbrev GoodExpr : TExpr → Type 0
  GoodExpr e = Good p q (occurring e) (used e)

  listed : {B : Type 0} (items : List B) (expr : B → TExpr) → ((b : B) → GoodExpr (expr b))
      → Good p q (of_all (wide.in_order (map occurring (map expr items)))) (of_uses (in_order (map used (map expr items))))
  listed [] expr each = record { itself = refl; keeps = λ all. refl; plain = refl }
  listed (b ∷ items) expr each =
      two (occurring (expr b)) (of_all (wide.in_order (map occurring (map expr items)))) (used (expr b)) (of_uses (in_order (map used (map expr items))))
      (each b) (listed items expr each)

  called : (f : ℕ) (os : List Occurrence) (us : List Use) → Good p q (of_all os) (of_uses us) → Good p q (of_all (occurs.Calls f ∷ os)) (of_uses us)
  called f os us h = record { itself = refl; keeps = λ all. front (occurs.Calls f) os (c.called f) (h.keeps all); plain = h.plain }

  nothing : Good p q (of_all []) (of_uses [])
  nothing = record { itself = refl; keeps = λ all. refl; plain = refl }

  variable : (n : ℕ) → Good p q (scalar (Variable n)) (record { itself = Some n; uses = stated.Names n ∷ [] })
  variable n = record {
    itself = refl;
    keeps = λ all. alone (occurs.Names (Variable n)) (c.names n (head_of (stated.Names n) [] all));
    plain = refl;
  }

  object : (n : ℕ) → Good p q (scalar (Object n)) (of_uses [])
  object n = record { itself = refl; keeps = λ all. alone (occurs.Names (Object n)) (c.object_named n); plain = refl }

  abbrev Layer : TExpr-F TExpr → Type 0
  Layer z = Good p q (occurs_step (map-TExpr TExpr Occurring occurring z)) (uses_step (map-TExpr TExpr Used used z))

  layer : (y : TExpr-F ((e : TExpr) × GoodExpr e)) → Layer (map-TExpr _ TExpr (λ (x : (e : TExpr) × GoodExpr e). x.0) y)
  layer (TExpr-F.Number node z) = nothing
  layer (TExpr-F.Str node k bytes) = nothing
  layer (TExpr-F.Object node k) = object k
  layer (TExpr-F.Variable node m) = variable m
  layer (TExpr-F.Index node a b) = two (occurring a.0) (occurring b.0) (used a.0) (used b.0) a.1 b.1
  layer (TExpr-F.Call node f args) =
      called f (wide.in_order (map occurring (map (λ (x : (e : TExpr) × GoodExpr e). x.0) args))) (in_order (map used (map (λ (x : (e : TExpr) × GoodExpr e). x.0) args)))
      (listed args (λ (x : (e : TExpr) × GoodExpr e). x.0) (λ (x : (e : TExpr) × GoodExpr e). x.1))
  layer (TExpr-F.Getchar node) = nothing
  layer (TExpr-F.Putchar node a) = one (occurring a.0) (used a.0) a.1
  layer (TExpr-F.Puts node a) = one (occurring a.0) (used a.0) a.1
  layer (TExpr-F.Printf node format args) = listed args (λ (x : (e : TExpr) × GoodExpr e). x.0) (λ (x : (e : TExpr) × GoodExpr e). x.1)
  layer (TExpr-F.Post node change a) = changed (occurring a.0) (used a.0) a.1
  layer (TExpr-F.Pre node change a) = changed (occurring a.0) (used a.0) a.1
  layer (TExpr-F.Address node a) = taken (occurring a.0) (used a.0) a.1
  layer (TExpr-F.Deref node a) = one (occurring a.0) (used a.0) a.1
  layer (TExpr-F.Plus node a) = one (occurring a.0) (used a.0) a.1
  layer (TExpr-F.Unary node op kind a) = one (occurring a.0) (used a.0) a.1
  layer (TExpr-F.Convert node a) = one (occurring a.0) (used a.0) a.1
  layer (TExpr-F.Cast node a) = one (occurring a.0) (used a.0) a.1
  layer (TExpr-F.Binary node op kind a b) = two (occurring a.0) (occurring b.0) (used a.0) (used b.0) a.1 b.1
  layer (TExpr-F.Both node a b) = two (occurring a.0) (occurring b.0) (used a.0) (used b.0) a.1 b.1
  layer (TExpr-F.Either node a b) = two (occurring a.0) (occurring b.0) (used a.0) (used b.0) a.1 b.1
  layer (TExpr-F.Forward node a b) = two (occurring a.0) (occurring b.0) (used a.0) (used b.0) a.1 b.1
  layer (TExpr-F.Onto node a b) = two (occurring a.0) (occurring b.0) (used a.0) (used b.0) a.1 b.1
  layer (TExpr-F.Back node a b) = two (occurring a.0) (occurring b.0) (used a.0) (used b.0) a.1 b.1
  layer (TExpr-F.PtrCompare node op a b) = two (occurring a.0) (occurring b.0) (used a.0) (used b.0) a.1 b.1
  layer (TExpr-F.PtrDistance node a b) = two (occurring a.0) (occurring b.0) (used a.0) (used b.0) a.1 b.1
  layer (TExpr-F.Cond node a b d) =
      two (occurring a.0) (of_all (occurs_in b.0 ++ occurs_in d.0)) (used a.0) (of_uses (uses_of b.0 ++ uses_of d.0)) a.1
      (two (occurring b.0) (occurring d.0) (used b.0) (used d.0) b.1 d.1)
  layer (TExpr-F.Assign node a b) = put (occurring a.0) (occurring b.0) (used a.0) (used b.0) a.1 b.1
  layer (TExpr-F.AssignBy node change a b) = put (occurring a.0) (occurring b.0) (used a.0) (used b.0) a.1 b.1
  layer (TExpr-F.Comma node a b) = two (occurring a.0) (occurring b.0) (used a.0) (used b.0) a.1 b.1

  -- EXPRESSIONS
  pub good : (e : TExpr) → Good p q (occurring e) (used e)
  good =
      ind-TExpr GoodExpr
      (λ x y is.
      subst (λ (a : Occurring). Good p q a (used (roll-TExpr x))) (sym (fold-roll-TExpr Occurring occurs_step x))
      (subst (λ (u : Used). Good p q (occurs_step (map-TExpr TExpr Occurring occurring x)) u) (sym (fold-roll-TExpr Used uses_step x)) (subst Layer is (layer y))))

  pub expression_kept : (e : TExpr) → list_all p (uses_of e) ≡ true → list_all q (occurs_in e) ≡ true
  expression_kept e h = (good e).keeps h

  pub option_kept : (e : Option TExpr) → list_all p (option_uses e) ≡ true → list_all q (option_occurs e) ≡ true
  option_kept None h = refl
  option_kept (Some e) h = expression_kept e h

  item_kept : (x : TItem) → list_all p (item_uses x) ≡ true → list_all q (item_occurs x) ≡ true
  item_kept (item.Bytes n bytes) h = refl
  item_kept (item.Value place n e) h = expression_kept e h

  items_kept : (xs : List TItem) → list_all p (all_uses (map item_uses xs)) ≡ true → list_all q (all_of (map item_occurs xs)) ≡ true
  items_kept [] h = refl
  items_kept (x ∷ xs) h =
      let parts = all_both p (item_uses x) (all_uses (map item_uses xs)) h in
      both_all q (item_occurs x) (all_of (map item_occurs xs)) (item_kept x parts.0) (items_kept xs parts.1)

  init_kept : (x : TInit) → list_all p (init_uses x) ≡ true → list_all q (init_occurs x) ≡ true
  init_kept begins.Nothing h = refl
  init_kept (begins.Value e) h = expression_kept e h
  init_kept (begins.Elements items) h = items_kept items h

  declarator_kept : (d : TDeclarator) → list_all p (declarator_uses d) ≡ true → list_all q (declarator_occurs d) ≡ true
  declarator_kept d h =
      front (occurs.Declares d.variable) (init_occurs d.init) (c.declares d.variable (head_of (stated.Declares d.variable) (init_uses d.init) h))
      (init_kept d.init (tail_of (stated.Declares d.variable) (init_uses d.init) h))

  pub declared_kept : (ds : List TDeclarator) → list_all p (declared_uses ds) ≡ true → list_all q (declared_occurs ds) ≡ true
  declared_kept [] h = refl
  declared_kept (d ∷ ds) h =
      let parts = all_both p (declarator_uses d) (declared_uses ds) h in
      both_all q (declarator_occurs d) (declared_occurs ds) (declarator_kept d parts.0) (declared_kept ds parts.1)

  pub first_kept : (f : TFirst) → list_all p (first_uses f) ≡ true → list_all q (first_occurs f) ≡ true
  first_kept first.Nothing h = refl
  first_kept (first.Value e) h = expression_kept e h
  first_kept (first.Declare list) h = declared_kept list h

  declares_kept : (ds : List TDeclarator) → list_all p (declares ds) ≡ true → list_all q (map (λ (d : TDeclarator). occurs.Declares d.variable) ds) ≡ true
  declares_kept [] h = refl
  declares_kept (d ∷ ds) h =
      front (occurs.Declares d.variable) (map (λ (e : TDeclarator). occurs.Declares e.variable) ds)
      (c.declares d.variable (head_of (stated.Declares d.variable) (declares ds) h)) (declares_kept ds (tail_of (stated.Declares d.variable) (declares ds) h))

  pub first_declared_kept : (f : TFirst) → list_all p (first_declares f) ≡ true → list_all q (first_declared f) ≡ true
  first_declared_kept first.Nothing h = refl
  first_declared_kept (first.Value e) h = refl
  first_declared_kept (first.Declare list) h = declares_kept list h
