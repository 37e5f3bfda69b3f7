-- Each reduction that *Marks* lists of a text Wide lists too, where the text does nothing else with the variable.
use Rattle.std.proofs.Common.{◌≡◌, ℕ, Bool, true, false, not, List, [], ◌∷◌, ◌++◌, map, Option, Some, None, refl, sym, ◌∙◌, ap, subst, true≢false, inl, inr}
use Rattle.std.specs.Prelude.{◌⊎◌, ◌&&◌, ◌||◌, nat_eq, unwrap_or}
use Rattle.std.specs.List.{list_all, list_any}
use Rattle.std.proofs.lemmas.Bool.{eq-eqb, eqb-true}
use Rattle.std.proofs.lemmas.Option.{same_Some}
use Rattle.k_types_meaning.specs.declared.tree.expression.TExpr.{TExpr, out-TExpr}
use Rattle.k_types_meaning.specs.declared.tree.expression.TExpr.TheOpen.{TExpr-F}
use Rattle.k_types_meaning.specs.declared.tree.declaration.TDeclarator.{TDeclarator}
use Rattle.k_types_meaning.specs.declared.tree.declaration.TInit.{TInit}
use Rattle.k_types_meaning.specs.declared.tree.declaration.TInit.TheVariants as begins
use Rattle.k_types_meaning.specs.declared.tree.declaration.TItem.{TItem}
use Rattle.k_types_meaning.specs.declared.tree.declaration.TItem.TheVariants as item
use Rattle.k_types_meaning.specs.declared.tree.statement.TFirst.{TFirst}
use Rattle.k_types_meaning.specs.declared.tree.statement.TFirst.TheVariants as first
use Rattle.k_types_meaning.specs.declared.tree.statement.TPart.{TPart, fold-roll-TPart, map-TPart, roll-TPart}
use Rattle.k_types_meaning.specs.declared.tree.statement.TPart.TheOpen.{TPart-F, TStmt-F}
use Rattle.k_types_meaning.specs.declared.tree.statement.TStmt.{TStmt, fold-roll-TStmt, ind-TStmt, map-TStmt, roll-TStmt}
use Rattle.k_marks_meaning.specs.declared.jumps.Jumps.{Jumps}
use Rattle.k_marks_meaning.specs.declared.uses.Group.{Group}
use Rattle.k_marks_meaning.specs.declared.uses.Group.TheVariants.{Sums, Products, Ands, Ors, Xors}
use Rattle.k_marks_meaning.specs.declared.uses.Read.{Read}
use Rattle.k_marks_meaning.specs.declared.uses.Reduction.{Reduction}
use Rattle.k_marks_meaning.specs.declared.uses.Use.{Use}
use Rattle.k_marks_meaning.specs.declared.uses.Use.TheVariants as stated
use Rattle.k_marks_meaning.specs.Uses.{uses_of, option_uses, all_uses, item_uses, init_uses, declared_uses, first_uses, first_declares, declares}
use Rattle.k_marks_meaning.specs.Reductions.{group_of, change_group, variable_of, read_of, read_again, unconverted, reduction, reduced_uses, action_uses}
use Rattle.k_marks_meaning.specs.Reductions as marks
use Rattle.k_marks_meaning.specs.Loops.{same_group, fits}
use Rattle.k_marks_meaning.specs.Contents.{Inside, inside_step, inside, part_inside}
use Rattle.k_marks_meaning.specs.Contents as marks_in
use Rattle.k_wide_meaning.specs.declared.occurrences.Scalar.{Scalar}
use Rattle.k_wide_meaning.specs.declared.occurrences.Scalar.TheVariants.{Variable, Object}
use Rattle.k_wide_meaning.specs.declared.occurrences.ScalarRead.{ScalarRead}
use Rattle.k_wide_meaning.specs.declared.occurrences.WideGroup.TheVariants.{By}
use Rattle.k_wide_meaning.specs.declared.occurrences.Occurrence.{Occurrence}
use Rattle.k_wide_meaning.specs.declared.occurrences.Occurrence.TheVariants as occurs
use Rattle.k_wide_meaning.specs.Occurrences.{occurs_in, option_occurs, first_occurs, same_scalar}
use Rattle.k_wide_meaning.specs.Loops as wide
use Rattle.k_wide_meaning.specs.Loops.{same_wide}
use Rattle.k_wide_meaning.specs.Reductions.{scalar_of, again, by_group, commuting, reduces_or, Compared, compared, taken_of, keeps_by, kept_step, kept_if, assigned_step, action_step, action_occurs}
use Rattle.k_wide_meaning.specs.Contents.{Member, Seen, WideLoop, seen_as, row, member, arm, members_occur, kept_first, kept_among, if_occurs, seen_step, part_step, seen, part_seen}
use Rattle.k_wide_laws.proofs.Kept.{Compatible, is_simple, both_true, all_both, good}
use Rattle.k_wide_laws.proofs.Forms.{read_at, read_in, variable_is, again_is}
use Rattle.k_wide_laws.proofs.Members.{test_names, compared_scalar, again_found}

-- A COMPATIBLE TEST: what happens is nothing to the variable, or its reduction by the group
pub same_group_is : (g h : Group) → same_group g h ≡ true → g ≡ h
same_group_is Sums Sums is = refl
same_group_is Products Products is = refl
same_group_is Ands Ands is = refl
same_group_is Ors Ors is = refl
same_group_is Xors Xors is = refl
same_group_is _ _ is = absurd (true≢false (sym is))

not_or : (a b : Bool) → not a ≡ true → (not a || b) ≡ true
not_or false b h = refl
not_or true b h = absurd (true≢false (sym h))

pub fitting : (n : ℕ) (g : Group) → Compatible (fits n g) (wide.fits (Variable n) (By g))
fitting n g = record {
  names = λ m h. h;
  assigns = λ m h. h;
  declares = λ m h. h;
  reduces = λ r h. h;
  by_assign = λ r m is h. not_or (same_scalar r.scalar (Variable n)) (same_wide r.group (By g)) (subst (λ (s : Scalar). not (same_scalar s (Variable n)) ≡ true) (sym is) h);
  by_both = λ r s is names h. not_or (same_scalar r.scalar (Variable n)) (same_wide r.group (By g)) (subst (λ (t : Scalar). not (same_scalar t (Variable n)) ≡ true) (sym is) names);
  object_named = λ m. refl;
  object_assigned = λ m. refl;
  object_reduced = λ r m is. not_or (same_scalar r.scalar (Variable n)) (same_wide r.group (By g)) (subst (λ (s : Scalar). not (same_scalar s (Variable n)) ≡ true) (sym is) refl);
  addressed = λ m. refl;
  called = λ m. refl;
}

pub any_both : {A : Type 0} (f : A → Bool) (xs ys : List A) → list_any f (xs ++ ys) ≡ true → (list_any f xs ≡ true) ⊎ (list_any f ys ≡ true)
any_both f [] ys h = inr h
any_both f (x ∷ xs) ys h = by (f x) (any_both f xs ys) h
  where
    by : (b : Bool) → (list_any f (xs ++ ys) ≡ true → (list_any f xs ≡ true) ⊎ (list_any f ys ≡ true)) → (b || list_any f (xs ++ ys)) ≡ true → ((b || list_any f xs) ≡ true) ⊎ (list_any f ys ≡ true)
    by true rest k = inl refl
    by false rest k = rest k

pub any_left : {A : Type 0} (f : A → Bool) (xs ys : List A) → list_any f xs ≡ true → list_any f (xs ++ ys) ≡ true
any_left f [] ys h = absurd (true≢false (sym h))
any_left f (x ∷ xs) ys h = by (f x) (any_left f xs ys) h
  where
    by : (b : Bool) → (list_any f xs ≡ true → list_any f (xs ++ ys) ≡ true) → (b || list_any f xs) ≡ true → (b || list_any f (xs ++ ys)) ≡ true
    by true rest k = refl
    by false rest k = rest k

pub any_right : {A : Type 0} (f : A → Bool) (xs ys : List A) → list_any f ys ≡ true → list_any f (xs ++ ys) ≡ true
any_right f [] ys h = h
any_right f (x ∷ xs) ys h = by (f x) (any_right f xs ys h)
  where
    by : (b : Bool) → list_any f (xs ++ ys) ≡ true → (b || list_any f (xs ++ ys)) ≡ true
    by true k = refl
    by false k = k

module _ (n : ℕ) (g : Group) (x : ℕ) where
  -- a use is a reduction of the variable with this read
  abbrev pub is_it : Use → Bool
  is_it (stated.Names m) = false
  is_it (stated.Assigns m) = false
  is_it (stated.Declares m) = false
  is_it (stated.Reduces r) = nat_eq r.variable n && nat_eq r.read x

  -- an occurrence is one too, by the group
  abbrev pub is_wide : Occurrence → Bool
  is_wide (occurs.Reduces r) = same_scalar r.scalar (Variable n) && (nat_eq r.read x && same_wide r.group (By g))
  is_wide _ = false

  abbrev All : List Use → Type 0
  All us = list_all (fits n g) us ≡ true

  abbrev Has : List Use → Type 0
  Has us = list_any is_it us ≡ true

  abbrev Finds : List Occurrence → Type 0
  Finds os = list_any is_wide os ≡ true

  -- an expression reduces nothing
  none_simple : (us : List Use) → list_all is_simple us ≡ true → Has us → ⊥
  none_simple [] h k = true≢false (sym k)
  none_simple (stated.Names m ∷ us) h k = none_simple us h k
  none_simple (stated.Assigns m ∷ us) h k = none_simple us h k
  none_simple (stated.Declares m ∷ us) h k = none_simple us h k
  none_simple (stated.Reduces r ∷ us) h k = true≢false (sym h)

  simple : (e : TExpr) → list_all is_simple (uses_of e) ≡ true
  simple e = (good (fits n g) (wide.fits (Variable n) (By g)) (fitting n g) e).plain

  none_in : (e : TExpr) → Has (uses_of e) → ⊥
  none_in e h = none_simple (uses_of e) (simple e) h

  none_in_option : (e : Option TExpr) → Has (option_uses e) → ⊥
  none_in_option None h = true≢false (sym h)
  none_in_option (Some e) h = none_in e h

  none_in_item : (i : TItem) → Has (item_uses i) → ⊥
  none_in_item (item.Bytes m bytes) h = true≢false (sym h)
  none_in_item (item.Value p m e) h = none_in e h

  none_in_items : (is : List TItem) → Has (all_uses (map item_uses is)) → ⊥
  none_in_items [] h = true≢false (sym h)
  none_in_items (i ∷ is) h = elim (any_both is_it (item_uses i) (all_uses (map item_uses is)) h) [
    | inl a ↦ none_in_item i a
    | inr b ↦ none_in_items is b
  ]

  none_in_init : (i : TInit) → Has (init_uses i) → ⊥
  none_in_init begins.Nothing h = true≢false (sym h)
  none_in_init (begins.Value e) h = none_in e h
  none_in_init (begins.Elements items) h = none_in_items items h

  none_in_declared : (ds : List TDeclarator) → Has (declared_uses ds) → ⊥
  none_in_declared [] h = true≢false (sym h)
  none_in_declared (d ∷ ds) h = elim (any_both is_it (init_uses d.init) (declared_uses ds) h) [
    | inl a ↦ none_in_init d.init a
    | inr b ↦ none_in_declared ds b
  ]

  none_in_first : (f : TFirst) → Has (first_uses f) → ⊥
  none_in_first first.Nothing h = true≢false (sym h)
  none_in_first (first.Value e) h = none_in e h
  none_in_first (first.Declare list) h = none_in_declared list h

  none_in_declares : (ds : List TDeclarator) → Has (declares ds) → ⊥
  none_in_declares [] h = true≢false (sym h)
  none_in_declares (d ∷ ds) h = none_in_declares ds h

  pub none_in_first_declares : (f : TFirst) → Has (first_declares f) → ⊥
  none_in_first_declares first.Nothing h = true≢false (sym h)
  none_in_first_declares (first.Value e) h = true≢false (sym h)
  none_in_first_declares (first.Declare list) h = none_in_declares list h

  -- AN EXPRESSION STATEMENT
  head_found : (r : Reduction) (beside : List Occurrence) → fits n g (stated.Reduces r) ≡ true → is_it (stated.Reduces r) ≡ true
      → Finds (occurs.Reduces (record { scalar = Variable r.variable; group = By r.group; read = r.read }) ∷ beside)
  head_found r beside may is =
      let parts = both_true (nat_eq r.variable n) (nat_eq r.read x) is in
      ap (λ (b : Bool). (b && (nat_eq r.read x && same_group r.group g)) || list_any is_wide beside) parts.0
      ∙ (ap (λ (b : Bool). (b && same_group r.group g) || list_any is_wide beside) parts.1
      ∙ ap (λ (b : Bool). b || list_any is_wide beside) (ap (λ (b : Bool). not b || same_group r.group g) (sym parts.0) ∙ may))

  reduced_at : (e right : TExpr) (W : List Occurrence) (s : Scalar) (node : ℕ) (h : Option Group) → All (reduced_uses e (reduction (read_at s node) h) right) → Has (reduced_uses e (reduction (read_at s node) h) right)
      → Finds (reduces_or W (occurs_in right) (by_group h) (Some (record { scalar = s; node = node })))
  reduced_at e right W (Variable m) node None all has = absurd (none_in e has)
  reduced_at e right W (Object m) node None all has = absurd (none_in e has)
  reduced_at e right W (Object m) node (Some h) all has = absurd (none_in e has)
  reduced_at e right W (Variable m) node (Some h) all has =
      let r : Reduction = record { variable = m; group = h; read = node } in
      let may = (both_true (fits n g (stated.Reduces r)) (list_all (fits n g) (uses_of right)) all).0 in
      by (is_it (stated.Reduces r)) refl has may
    where
      by : (b : Bool) → (nat_eq m n && nat_eq node x) ≡ b → (b || list_any is_it (uses_of right)) ≡ true → (not (nat_eq m n) || same_group h g) ≡ true
          → Finds (occurs.Reduces (record { scalar = Variable m; group = By h; read = node }) ∷ occurs_in right)
      by true is k may = head_found (record { variable = m; group = h; read = node }) (occurs_in right) may is
      by false is k may = absurd (none_in right k)

  reduced_found : (e right : TExpr) (W : List Occurrence) (s : Option ScalarRead) (h : Option Group) → All (reduced_uses e (reduction (read_in s) h) right) → Has (reduced_uses e (reduction (read_in s) h) right)
      → Finds (reduces_or W (occurs_in right) (by_group h) s)
  reduced_found e right W None h all has = absurd (none_in e has)
  reduced_found e right W (Some s) h all has = reduced_at e right W s.scalar s.node h all has

  right_found : (e left : TExpr) (y : TExpr-F TExpr) → All (marks.assigned_step e (variable_of left) y) → Has (marks.assigned_step e (variable_of left) y) → Finds (assigned_step (occurs_in e) left y)
  right_found e left (TExpr-F.Binary node op kind a b) all has =
      reduced_found e b (reduces_or (occurs_in e) (occurs_in a) (commuting op) (again (scalar_of left) b)) (again (scalar_of left) a) (group_of op)
      (subst (λ (r : Option Read). All (reduced_uses e (reduction r (group_of op)) b)) (sym (again_is left a)) all)
      (subst (λ (r : Option Read). Has (reduced_uses e (reduction r (group_of op)) b)) (sym (again_is left a)) has)
  right_found e left _ all has = absurd (none_in e has)

  found_at : (e : TExpr) (z : TExpr-F TExpr) → All (marks.action_step e z) → Has (marks.action_step e z) → Finds (action_step (occurs_in e) z)
  found_at e (TExpr-F.AssignBy node by left right) all has =
      reduced_found e right (occurs_in e) (scalar_of left) (change_group by)
      (subst (λ (r : Option Read). All (reduced_uses e (reduction r (change_group by)) right)) (sym (variable_is left)) all)
      (subst (λ (r : Option Read). Has (reduced_uses e (reduction r (change_group by)) right)) (sym (variable_is left)) has)
  found_at e (TExpr-F.Assign node left right) all has = right_found e left (out-TExpr (unconverted right)) all has
  found_at e _ all has = absurd (none_in e has)

  pub action_found : (e : TExpr) → All (action_uses e) → Has (action_uses e) → Finds (action_occurs e)
  action_found e all has = found_at e (out-TExpr e) all has

  -- A STATEMENT THAT KEEPS THE LEAST OR THE GREATEST of the variable: its test names the variable
  reduction_of : (e b : TExpr) (r : Option Read) (h : Option Group) → Has (reduced_uses e (reduction r h) b) → (a : Read) × (r ≡ Some a) × (a.variable ≡ n)
  reduction_of e b None h has = absurd (none_in e has)
  reduction_of e b (Some a) None has = absurd (none_in e has)
  reduction_of e b (Some a) (Some h) has = by (nat_eq a.variable n) refl has
    where
      by : (same : Bool) → nat_eq a.variable n ≡ same → ((same && nat_eq a.node x) || list_any is_it (uses_of b)) ≡ true → (y : Read) × (Some a ≡ Some y) × (y.variable ≡ n)
      by true is k = (a, refl, eqb-true a.variable n is)
      by false is k = absurd (none_in b k)

  assigned_of : (e left : TExpr) (y : TExpr-F TExpr) → Has (marks.assigned_step e (variable_of left) y) → (a : Read) × (variable_of left ≡ Some a) × (a.variable ≡ n)
  assigned_of e left (TExpr-F.Binary node op kind a b) has =
      let found = reduction_of e b (read_again (variable_of left) (read_of a)) (group_of op) has in
      let first = again_found (variable_of left) (read_of a) found.0 found.1 in
      (first.1.0, first.1.1, first.1.2 ∙ found.2)
  assigned_of e left _ has = absurd (none_in e has)

  found_none : (left right test : TExpr) (d : Option Compared) (os : List Occurrence) (a : Read) → compared (scalar_of left) test ≡ d → keeps_by right (taken_of right d) ≡ Some os → variable_of left ≡ Some a → a.variable ≡ n
      → All (uses_of test) → ⊥
  found_none left right test None os a is h reads same all = absurd cc
  found_none left right test (Some d) os a is h reads same all =
      let p : Use → Bool = fits n g in
      let q : Occurrence → Bool = wide.fits (Variable n) (By g) in
      let scalar_is = compared_scalar p q (fitting n g) left test d a is reads ∙ ap Variable same in
      let named : not (nat_eq n n) ≡ true = test_names p q (fitting n g) left test d n is scalar_is all in
      true≢false (sym named ∙ ap not (eq-eqb n n refl))

  kept_none_at : (test e : TExpr) (z : TExpr-F TExpr) (os : List Occurrence) → kept_step test z ≡ Some os → All (uses_of test) → Has (marks.action_step e z) → ⊥
  kept_none_at test e (TExpr-F.Assign node left right) os h all has =
      let found = assigned_of e left (out-TExpr (unconverted right)) has in
      found_none left right test (compared (scalar_of left) test) os found.0 refl h found.1 found.2 all
  kept_none_at test e _ os h all has = absurd cc

  -- what a statement does, where it is an expression statement
  abbrev ActionIs : List Use → Option TExpr → Type 0
  ActionIs us None = Unit {0}
  ActionIs us (Some e) = us ≡ action_uses e

  kept_none : (test : TExpr) (action : Option TExpr) (os : List Occurrence) (us : List Use) → kept_if test action ≡ Some os → All (uses_of test) → ActionIs us action → Has us → ⊥
  kept_none test None os us h all is has = absurd cc
  kept_none test (Some e) os us h all is has = kept_none_at test e (out-TExpr e) os h all (subst Has is has)

  -- SEVERAL STATEMENTS, which do this together
  abbrev AreFound : List Use → List Member → Type 0
  AreFound us [] = Has us → ⊥
  AreFound us (m ∷ ms) = (xs : List Use) × (ys : List Use) × (us ≡ xs ++ ys) × (All xs → Has xs → Finds m.occurs) × ActionIs xs m.action × AreFound ys ms

  members_find : (us : List Use) (ms : List Member) → AreFound us ms → All us → Has us → Finds (members_occur ms)
  members_find us [] h all has = absurd (h has)
  members_find us (m ∷ ms) (xs, ys, is, own, action, rest) all has =
      let parts = all_both (fits n g) xs ys (subst All is all) in
      elim (any_both is_it xs ys (subst Has is has)) [
        | inl a ↦ any_left is_wide m.occurs (members_occur ms) (own parts.0 a)
        | inr b ↦ any_right is_wide m.occurs (members_occur ms) (members_find ys ms rest parts.1 b)
      ]

  first_find : (own : Option (List Occurrence)) (later : List Occurrence) (m : Member) (rest : Option (List Occurrence)) (os : List Occurrence) → kept_first own later m rest ≡ Some os
      → ((k : List Occurrence) → own ≡ Some k → Finds later) → ((k : List Occurrence) → rest ≡ Some k → Finds m.occurs ⊎ Finds k) → Finds os
  first_find (Some kept) later m rest os h one other = subst Finds (same_Some (kept ++ later) os h) (any_right is_wide kept later (one kept refl))
  first_find None later m None os h one other = absurd cc
  first_find None later m (Some rest) os h one other =
      subst Finds (same_Some (m.occurs ++ rest) os h)
      (elim (other rest refl) [
        | inl a ↦ any_left is_wide m.occurs rest a
        | inr b ↦ any_right is_wide m.occurs rest b
      ])

  among_find : (test : TExpr) (us : List Use) (ms : List Member) (os : List Occurrence) → kept_among test ms ≡ Some os → All (uses_of test) → AreFound us ms → All us → Has us → Finds os
  among_find test us [] os h in_test found all has = absurd cc
  among_find test us (m ∷ ms) os h in_test (xs, ys, is, own, action, rest) all has =
      let parts = all_both (fits n g) xs ys (subst All is all) in
      elim (any_both is_it xs ys (subst Has is has)) [
        | inl a ↦
            first_find (kept_if test m.action) (members_occur ms) m (kept_among test ms) os h (λ k found. absurd (kept_none test m.action k xs found in_test action a)) (λ k found. inl (own parts.0 a))
        | inr b ↦
            first_find (kept_if test m.action) (members_occur ms) m (kept_among test ms) os h (λ k found. members_find ys ms rest parts.1 b)
            (λ k found. inr (among_find test ys ms k found in_test rest parts.1 b))
      ]

  -- WHAT A STATEMENT COMES TO
  record Comes (us : List Use) (b : Seen) : Type 0 where
    occurs : All us → Has us → Finds b.occurs
    action : ActionIs us b.action
    arm : AreFound us (arm b)

  alone : (us : List Use) → us ≡ us ++ []
  alone [] = refl
  alone (u ∷ us) = ap (λ rest. u ∷ rest) (alone us)

  other : (us : List Use) (os : List Occurrence) (jumps : Jumps) (loops : List WideLoop) → (All us → Has us → Finds os) → Comes us (seen_as os jumps loops)
  other us os jumps loops h = record { occurs = h; action = tt; arm = (us, [], alone us, h, tt, λ has. true≢false (sym has)) }

  abbrev GoesStmt : TStmt → Type 0
  GoesStmt s = Comes (inside s).uses (seen s)

  abbrev GoesPart : TPart → Type 0
  GoesPart s = Comes (part_inside s).uses (part_seen s)

  abbrev StmtAnd : Type 0
  StmtAnd = (s : TStmt) × GoesStmt s

  abbrev PartAnd : Type 0
  PartAnd = (s : TPart) × GoesPart s

  abbrev stmts : List StmtAnd → List TStmt
  stmts xs = map (λ (y : StmtAnd). y.0) xs

  abbrev parts_in : List PartAnd → List TPart
  parts_in xs = map (λ (y : PartAnd). y.0) xs

  then_found : (us vs : List Use) (os qs : List Occurrence) → (All us → Has us → Finds os) → (All vs → Has vs → Finds qs) → All (us ++ vs) → Has (us ++ vs) → Finds (os ++ qs)
  then_found us vs os qs f h all has =
      let parts = all_both (fits n g) us vs all in
      elim (any_both is_it us vs has) [
        | inl a ↦ any_left is_wide os qs (f parts.0 a)
        | inr b ↦ any_right is_wide os qs (h parts.1 b)
      ]

  row_found : (xs : List StmtAnd) → (All (marks_in.row (map inside (stmts xs))).uses → Has (marks_in.row (map inside (stmts xs))).uses → Finds (row (map seen (stmts xs))).occurs)
      × AreFound (marks_in.row (map inside (stmts xs))).uses (map member (map seen (stmts xs)))
  row_found [] = (λ all has. absurd (true≢false (sym has)), λ has. true≢false (sym has))
  row_found (y ∷ xs) =
      let rest = row_found xs in (
        then_found (inside y.0).uses (marks_in.row (map inside (stmts xs))).uses (seen y.0).occurs (row (map seen (stmts xs))).occurs y.1.occurs rest.0,
        ((inside y.0).uses, (marks_in.row (map inside (stmts xs))).uses, refl, y.1.occurs, y.1.action, rest.1),
      )

  parts_found : (xs : List PartAnd) → All (marks_in.row (map part_inside (parts_in xs))).uses → Has (marks_in.row (map part_inside (parts_in xs))).uses → Finds (row (map part_seen (parts_in xs))).occurs
  parts_found [] all has = absurd (true≢false (sym has))
  parts_found (y ∷ xs) all has =
      then_found (part_inside y.0).uses (marks_in.row (map part_inside (parts_in xs))).uses (part_seen y.0).occurs (row (map part_seen (parts_in xs))).occurs y.1.occurs (parts_found xs) all has

  or_plain : (found : Option (List Occurrence)) (plain : List Occurrence) → ((os : List Occurrence) → found ≡ Some os → Finds os) → Finds plain → Finds (unwrap_or found plain)
  or_plain None plain h k = k
  or_plain (Some os) plain h k = h os refl

  -- where nothing is found in the one part, it is in the other
  behind_found : (us vs : List Use) (os qs : List Occurrence) → (Has us → ⊥) → (All vs → Has vs → Finds qs) → All (us ++ vs) → Has (us ++ vs) → Finds (os ++ qs)
  behind_found us vs os qs none h all has = then_found us vs os qs (λ a b. absurd (none b)) h all has

  alone_found : (test : TExpr) (a : StmtAnd) → All (uses_of test ++ ((inside a.0).uses ++ [])) → Has (uses_of test ++ ((inside a.0).uses ++ [])) → Finds (if_occurs test (seen a.0) None)
  alone_found test a all has =
      let parts = all_both (fits n g) (uses_of test) ((inside a.0).uses ++ []) all in
      let own_all : All (inside a.0).uses = (all_both (fits n g) (inside a.0).uses [] parts.1).0 in
      let own : Has (inside a.0).uses =
      elim (any_both is_it (uses_of test) ((inside a.0).uses ++ []) has) [
        | inl x ↦ absurd (none_in test x)
        | inr y ↦ subst Has (sym (alone (inside a.0).uses)) y
      ] in
      or_plain (kept_among test (arm (seen a.0))) (occurs_in test ++ (seen a.0).occurs) (λ os is. among_find test (inside a.0).uses (arm (seen a.0)) os is parts.0 a.1.arm own_all own)
      (any_right is_wide (occurs_in test) (seen a.0).occurs (a.1.occurs own_all own))

  abbrev StmtLayer : TStmt-F TPart TStmt → Type 0
  StmtLayer z = Comes (inside_step (map-TStmt TPart TStmt Inside Inside part_inside inside z)).uses (seen_step (map-TStmt TPart TStmt Seen Seen part_seen seen z))

  abbrev PartLayer : TPart-F TPart TStmt → Type 0
  PartLayer z = Comes (marks_in.part_step (map-TPart TPart TStmt Inside Inside part_inside inside z)).uses (part_step (map-TPart TPart TStmt Seen Seen part_seen seen z))

  nothing_found : All [] → Has [] → Finds []
  nothing_found all has = absurd (true≢false (sym has))

  stmt_layer : (y : TStmt-F PartAnd StmtAnd) → StmtLayer (map-TStmt _ _ TPart TStmt (λ (z : PartAnd). z.0) (λ (z : StmtAnd). z.0) y)
  stmt_layer (TStmt-F.Expr spot e) = record { occurs = action_found e; action = refl; arm = (action_uses e, [], alone (action_uses e), action_found e, refl, λ has. true≢false (sym has)) }
  stmt_layer (TStmt-F.Empty spot) = other [] _ _ _ nothing_found
  stmt_layer (TStmt-F.Block spot parts) = let found = row_found parts in record { occurs = found.0; action = tt; arm = found.1 }
  stmt_layer (TStmt-F.If spot test a None) = other _ _ _ _ (alone_found test a)
  stmt_layer (TStmt-F.If spot test a (Some b)) =
      other _ _ _ _ (behind_found (uses_of test) ((inside a.0).uses ++ (inside b.0).uses) (occurs_in test) ((seen a.0).occurs ++ (seen b.0).occurs) (none_in test)
      (then_found (inside a.0).uses (inside b.0).uses (seen a.0).occurs (seen b.0).occurs a.1.occurs b.1.occurs))
  stmt_layer (TStmt-F.While spot turns test a) = other _ _ _ _ (behind_found (uses_of test) (inside a.0).uses (occurs_in test) (seen a.0).occurs (none_in test) a.1.occurs)
  stmt_layer (TStmt-F.DoWhile spot turns a test) =
      other _ _ _ _ (then_found (inside a.0).uses (uses_of test) (seen a.0).occurs (occurs_in test) a.1.occurs (λ all has. absurd (none_in test has)))
  stmt_layer (TStmt-F.For spot turns start test next a) =
      other _ _ _ _ (behind_found (first_uses start) (option_uses test ++ (option_uses next ++ (inside a.0).uses)) (first_occurs start) (option_occurs test ++ (option_occurs next ++ (seen a.0).occurs)) (none_in_first start)
      (behind_found (option_uses test) (option_uses next ++ (inside a.0).uses) (option_occurs test) (option_occurs next ++ (seen a.0).occurs) (none_in_option test)
      (behind_found (option_uses next) (inside a.0).uses (option_occurs next) (seen a.0).occurs (none_in_option next) a.1.occurs)))
  stmt_layer (TStmt-F.Switch spot kind on parts) =
      other _ _ _ _ (behind_found (uses_of on) (marks_in.row (map part_inside (parts_in parts))).uses (occurs_in on) (row (map part_seen (parts_in parts))).occurs (none_in on) (parts_found parts))
  stmt_layer (TStmt-F.Break spot) = other [] _ _ _ nothing_found
  stmt_layer (TStmt-F.Continue spot) = other [] _ _ _ nothing_found
  stmt_layer (TStmt-F.Return spot value) = other _ _ _ _ (λ all has. absurd (none_in_option value has))
  stmt_layer (TStmt-F.Declare spot list) = other _ _ _ _ (λ all has. absurd (none_in_declared list has))

  part_layer : (y : TPart-F PartAnd StmtAnd) → PartLayer (map-TPart _ _ TPart TStmt (λ (z : PartAnd). z.0) (λ (z : StmtAnd). z.0) y)
  part_layer (TPart-F.Case place z) = other [] _ _ _ nothing_found
  part_layer (TPart-F.Default place) = other [] _ _ _ nothing_found
  part_layer (TPart-F.Does place s) = s.1

  stmt_comes : (s : TStmt) → GoesStmt s
  stmt_comes =
      ind-TStmt GoesPart GoesStmt
      (λ z y is.
      subst (λ (a : Inside). Comes a.uses (part_seen (roll-TPart z))) (sym (fold-roll-TPart Inside Inside marks_in.part_step inside_step z))
      (subst (λ (b : Seen). Comes (marks_in.part_step (map-TPart TPart TStmt Inside Inside part_inside inside z)).uses b) (sym (fold-roll-TPart Seen Seen part_step seen_step z)) (subst PartLayer is (part_layer y))))
      (λ z y is.
      subst (λ (a : Inside). Comes a.uses (seen (roll-TStmt z))) (sym (fold-roll-TStmt Inside Inside marks_in.part_step inside_step z))
      (subst (λ (b : Seen). Comes (inside_step (map-TStmt TPart TStmt Inside Inside part_inside inside z)).uses b) (sym (fold-roll-TStmt Seen Seen part_step seen_step z)) (subst StmtLayer is (stmt_layer y))))

  -- STATEMENTS
  pub statement_found : (s : TStmt) → list_all (fits n g) (inside s).uses ≡ true → list_any is_it (inside s).uses ≡ true → list_any is_wide (seen s).occurs ≡ true
  statement_found s all has = (stmt_comes s).occurs all has

  pub none_in_test : (e : Option TExpr) → list_any is_it (option_uses e) ≡ true → ⊥
  none_in_test e h = none_in_option e h
