-- What holds of each use of a statement behind a test holds of each of its occurrences, where the statement keeps the least or the greatest.
use Rattle.std.proofs.Common.{◌≡◌, ℕ, Bool, true, false, List, [], ◌∷◌, ◌++◌, Option, Some, None, refl, sym, ◌∙◌, ap, subst, inl, inr}
use Rattle.std.specs.Prelude.{◌⊎◌, if◌then◌else◌, nat_eq}
use Rattle.std.specs.List.{list_all}
use Rattle.std.proofs.lemmas.Bool.{eqb-true}
use Rattle.std.proofs.lemmas.Option.{same_Some}
use Rattle.k_types_meaning.specs.declared.tree.expression.TExpr.{TExpr, out-TExpr}
use Rattle.k_types_meaning.specs.declared.tree.expression.TExpr.TheOpen.{TExpr-F}
use Rattle.k_marks_meaning.specs.declared.uses.Group.{Group}
use Rattle.k_marks_meaning.specs.declared.uses.Read.{Read}
use Rattle.k_marks_meaning.specs.declared.uses.Reduction.{Reduction}
use Rattle.k_marks_meaning.specs.declared.uses.Use.{Use}
use Rattle.k_marks_meaning.specs.declared.uses.Use.TheVariants as stated
use Rattle.k_marks_meaning.specs.Uses.{Used, used, uses_of, assigns}
use Rattle.k_marks_meaning.specs.Reductions.{group_of, variable_of, read_of, read_again, unconverted, reduction, reduced_uses, action_uses}
use Rattle.k_marks_meaning.specs.Reductions as marks
use Rattle.k_wide_meaning.specs.declared.occurrences.Scalar.{Scalar}
use Rattle.k_wide_meaning.specs.declared.occurrences.Scalar.TheVariants.{Variable, Object}
use Rattle.k_wide_meaning.specs.declared.occurrences.ScalarRead.{ScalarRead}
use Rattle.k_wide_meaning.specs.declared.occurrences.Reducing.{Reducing}
use Rattle.k_wide_meaning.specs.declared.occurrences.Occurrence.{Occurrence}
use Rattle.k_wide_meaning.specs.declared.occurrences.Occurrence.TheVariants as occurs
use Rattle.k_wide_meaning.specs.Occurrences.{occurs_in}
use Rattle.k_wide_meaning.specs.Signs.{are_same}
use Rattle.k_wide_meaning.specs.Reductions.{scalar_of, again, Compared, compared, taken_of, keeps_by, kept_step, kept_if}
use Rattle.k_wide_meaning.specs.Contents.{Member, members_occur, kept_first, kept_among}
use Rattle.k_wide_laws.proofs.Kept.{Compatible, and_both, all_both, both_all, front, head_of, tail_of, expression_kept}
use Rattle.k_wide_laws.proofs.Forms.{uses_at, used_is, read_at, read_in, variable_is, operand_is, same_found, unconverted_uses, IsSide, on_right, on_left, compared_sides, read_named, IsNamed}
use Rattle.k_wide_laws.proofs.Actions.{reducing_kept, may_assign, compared_may, assignment_parts}

-- a reduction by this read and this group, if there is one, is of the variable that is read
by_read : (r : Option Read) (g : Option Group) → (reduction r g ≡ None) ⊎ ((a : Read) × (h : Group) × (r ≡ Some a) × (reduction r g ≡ Some (record { variable = a.variable; group = h; read = a.node })))
by_read None g = inl refl
by_read (Some a) None = inl refl
by_read (Some a) (Some h) = inr (a, h, refl, refl)

-- the second read of one variable is what the operand is, and the first is of it
pub again_found : (s t : Option Read) (r : Read) → read_again s t ≡ Some r → (t ≡ Some r) × ((a : Read) × (s ≡ Some a) × (a.variable ≡ r.variable))
again_found None t r h = absurd cc
again_found (Some a) None r h = absurd cc
again_found (Some a) (Some b) r h = by (nat_eq a.variable b.variable) refl h
  where
    by : (same : Bool) → nat_eq a.variable b.variable ≡ same → (if same then Some b else None) ≡ Some r
        → (Some b ≡ Some r) × ((x : Read) × (Some a ≡ Some x) × (x.variable ≡ r.variable))
    by true is found = (found, (a, refl, eqb-true a.variable b.variable is ∙ ap (λ (x : Read). x.variable) (same_Some b r found)))
    by false is found = absurd cc

-- the variable that a scalar is, as it is read, is of this number
read_of_scalar : (s : Scalar) (node : ℕ) (a : Read) → read_at s node ≡ Some a → s ≡ Variable a.variable
read_of_scalar (Variable n) node a h = ap (λ (r : Read). Variable r.variable) (same_Some (record { variable = n; node = node }) a h)
read_of_scalar (Object n) node a h = absurd cc

module _ (p : Use → Bool) (q : Occurrence → Bool) (c : Compatible p q) where
  abbrev All : List Use → Type 0
  All us = list_all p us ≡ true

  abbrev Kept : List Occurrence → Type 0
  Kept os = list_all q os ≡ true

  -- WHAT AN ASSIGNMENT `left = right` OF *MARKS* COMES TO: what it does as it is, or a reduction of the variable that left is, whose operand on the left is that
  -- variable
  abbrev Reduced : TExpr → TExpr → Type 0
  Reduced left right =
      (r : Reduction) × (a : Read) × (variable_of left ≡ Some a) × (a.variable ≡ r.variable) × (p (stated.Reduces r) ≡ true) × (more : List Use) × (uses_of right ≡ stated.Names r.variable ∷ more) × All more

  by_binary : (e left right a b : TExpr) (g : Option Group) → (uses_of right ≡ uses_of a ++ uses_of b)
      → All (reduced_uses e (reduction (read_again (variable_of left) (read_of a)) g) b) → All (uses_of e) ⊎ Reduced left right
  by_binary e left right a b g is all = elim (by_read (read_again (variable_of left) (read_of a)) g) [
    | inl none ↦ inl (subst (λ (r : Option Reduction). All (reduced_uses e r b)) none all)
    | inr (t, h, reads, some) ↦
        (let found = again_found (variable_of left) (read_of a) t reads in
        let r : Reduction = record { variable = t.variable; group = h; read = t.node } in
        let here : All (stated.Reduces r ∷ uses_of b) = subst (λ (x : Option Reduction). All (reduced_uses e x b)) some all in
        let named : uses_of a ≡ stated.Names t.variable ∷ [] = subst (λ (x : Option Read). IsNamed x (uses_of a)) found.0 (read_named a) in
        inr (r, found.1.0, found.1.1, found.1.2, head_of p q c (stated.Reduces r) (uses_of b) here, uses_of b, is ∙ ap (λ (us : List Use). us ++ uses_of b) named, tail_of p q c (stated.Reduces r) (uses_of b) here))
  ]

  by_right : (e left right : TExpr) (y : TExpr-F TExpr) → used right ≡ uses_at y → All (marks.assigned_step e (variable_of left) y) → All (uses_of e) ⊎ Reduced left right
  by_right e left right (TExpr-F.Binary node op kind a b) is all = by_binary e left right a b (group_of op) (ap (λ (u : Used). u.uses) is) all
  by_right e left right _ is all = inl all

  -- THE TEST NAMES S
  names_side : (left side : TExpr) (r : ScalarRead) (n : ℕ) → again (scalar_of left) side ≡ Some r → r.scalar ≡ Variable n → uses_of side ≡ stated.Names n ∷ []
  names_side left side r n h is =
      let found = same_found (scalar_of left) (scalar_of (unconverted side)) r h in
      let read : read_of side ≡ Some (record { variable = n; node = r.node }) =
      sym (operand_is side) ∙ (ap read_in found.1 ∙ ap (λ (s : Scalar). read_at s r.node) is) in
      subst (λ (x : Option Read). IsNamed x (uses_of side)) read (read_named side)

  names_of : (left l r : TExpr) (s : ScalarRead) (n : ℕ) → IsSide (scalar_of left) l r s → s.scalar ≡ Variable n → All (uses_of l) → All (uses_of r) → p (stated.Names n) ≡ true
  names_of left l r s n (on_right h) is in_l in_r = head_of p q c (stated.Names n) [] (subst All (names_side left r s n h is) in_r)
  names_of left l r s n (on_left h) is in_l in_r = head_of p q c (stated.Names n) [] (subst All (names_side left l s n h is) in_l)

  pub test_names : (left test : TExpr) (d : Compared) (n : ℕ) → compared (scalar_of left) test ≡ Some d → d.s.scalar ≡ Variable n → All (uses_of test) → p (stated.Names n) ≡ true
  test_names left test d n h is all =
      let sides = compared_sides (scalar_of left) test d h in
      let parts = all_both p (uses_of sides.0) (uses_of sides.1) (subst All sides.3 all) in
      names_of left sides.0 sides.1 d.s n sides.2 is parts.0 parts.1

  -- the scalar with which the comparison is, where it is the one that is assigned
  side_scalar : (s : Option ScalarRead) (l r : TExpr) (t : ScalarRead) → IsSide s l r t → (a : ScalarRead) × (s ≡ Some a) × (t.scalar ≡ a.scalar)
  side_scalar s l r t (on_right h) = (same_found s (scalar_of (unconverted r)) t h).0
  side_scalar s l r t (on_left h) = (same_found s (scalar_of (unconverted l)) t h).0

  pub compared_scalar : (left test : TExpr) (d : Compared) (a : Read) → compared (scalar_of left) test ≡ Some d → variable_of left ≡ Some a → d.s.scalar ≡ Variable a.variable
  compared_scalar left test d a h is =
      let sides = compared_sides (scalar_of left) test d h in
      let found = side_scalar (scalar_of left) sides.0 sides.1 d.s sides.2 in
      let read : read_at found.0.scalar found.0.node ≡ Some a = sym (ap read_in found.1) ∙ (variable_is left ∙ is) in
      found.2 ∙ read_of_scalar found.0.scalar found.0.node a read

  -- A STATEMENT `left = right` THAT KEEPS THE LEAST OR THE GREATEST
  keeps_kept : (left right test : TExpr) (d : Compared) → compared (scalar_of left) test ≡ Some d → All (uses_of test)
      → ((All (assigns (used left).itself ++ uses_of left) × All (uses_of right)) ⊎ Reduced left right)
      → Kept (occurs.Reduces (record { scalar = d.s.scalar; group = d.kept; read = d.s.node }) ∷ occurs_in right)
  keeps_kept left right test d h all (inl parts) =
      let r : Reducing = record { scalar = d.s.scalar; group = d.kept; read = d.s.node } in
      front p q c (occurs.Reduces r) (occurs_in right) (reducing_kept p q c r d.s.scalar refl (compared_may p q c (scalar_of left) test d h (may_assign p q c left parts.0)))
      (expression_kept p q c right parts.1)
  keeps_kept left right test d h all (inr (r, a, reads, same, reduces, more, is, rest)) =
      let own : Reducing = record { scalar = d.s.scalar; group = d.kept; read = d.s.node } in
      let scalar_is : d.s.scalar ≡ Variable r.variable = compared_scalar left test d a h reads ∙ ap Variable same in
      let names : p (stated.Names r.variable) ≡ true = test_names left test d r.variable h scalar_is all in
      front p q c (occurs.Reduces own) (occurs_in right) (c.by_both own r scalar_is names reduces)
      (expression_kept p q c right (subst All (sym is) (and_both (p (stated.Names r.variable)) (list_all p more) names rest)))

  found_kept : (left right test : TExpr) (d : Option Compared) (os : List Occurrence) → compared (scalar_of left) test ≡ d → keeps_by right (taken_of right d) ≡ Some os → All (uses_of test)
      → ((All (assigns (used left).itself ++ uses_of left) × All (uses_of right)) ⊎ Reduced left right) → Kept os
  found_kept left right test None os is h all parts = absurd cc
  found_kept left right test (Some d) os is h all parts = by (are_same right d.e) h
    where
      by : (same : Bool) → keeps_by right (if same then Some d else None) ≡ Some os → Kept os
      by true found = subst Kept (same_Some (occurs.Reduces (record { scalar = d.s.scalar; group = d.kept; read = d.s.node }) ∷ occurs_in right) os found) (keeps_kept left right test d is all parts)
      by false found = absurd cc

  kept_at : (test e : TExpr) (z : TExpr-F TExpr) (os : List Occurrence) → used e ≡ uses_at z → kept_step test z ≡ Some os → All (uses_of test) → All (marks.action_step e z) → Kept os
  kept_at test e (TExpr-F.Assign node left right) os is h all own =
      let either : All (uses_of e) ⊎ Reduced left (unconverted right) = by_right e left (unconverted right) (out-TExpr (unconverted right)) (used_is (unconverted right)) own in
      found_kept left right test (compared (scalar_of left) test) os refl h all (parts_of either)
    where
      parts_of : All (uses_of e) ⊎ Reduced left (unconverted right) → (All (assigns (used left).itself ++ uses_of left) × All (uses_of right)) ⊎ Reduced left right
      parts_of (inl whole) = inl (assignment_parts p q c e left right (ap (λ (u : Used). u.uses) is) whole)
      parts_of (inr (r, a, reads, same, reduces, more, named, rest)) = inr (r, a, reads, same, reduces, more, sym (unconverted_uses right) ∙ named, rest)
  kept_at test e _ os is h all own = absurd cc

  -- where it is an expression statement
  abbrev pub ActionIs : Option TExpr → Type 0
  ActionIs None = Unit {0}
  ActionIs (Some e) = All (action_uses e)

  kept_member : (test : TExpr) (action : Option TExpr) (os : List Occurrence) → kept_if test action ≡ Some os → All (uses_of test) → ActionIs action → Kept os
  kept_member test None os h all own = absurd cc
  kept_member test (Some e) os h all own = kept_at test e (out-TExpr e) os (used_is e) h all own

  -- SEVERAL STATEMENTS
  abbrev pub AreKept : List Member → Type 0
  AreKept [] = Unit {0}
  AreKept (m ∷ ms) = (Kept m.occurs × ActionIs m.action) × AreKept ms

  pub members_kept : (ms : List Member) → AreKept ms → Kept (members_occur ms)
  members_kept [] h = refl
  members_kept (m ∷ ms) h = both_all q m.occurs (members_occur ms) h.0.0 (members_kept ms h.1)

  first_found : (own : Option (List Occurrence)) (later : List Occurrence) (m : Member) (rest : Option (List Occurrence)) (os : List Occurrence) → kept_first own later m rest ≡ Some os
      → ((xs : List Occurrence) → own ≡ Some xs → Kept xs) → Kept later → Kept m.occurs → ((xs : List Occurrence) → rest ≡ Some xs → Kept xs) → Kept os
  first_found (Some kept) later m rest os h own in_later in_m in_rest = subst Kept (same_Some (kept ++ later) os h) (both_all q kept later (own kept refl) in_later)
  first_found None later m None os h own in_later in_m in_rest = absurd cc
  first_found None later m (Some rest) os h own in_later in_m in_rest = subst Kept (same_Some (m.occurs ++ rest) os h) (both_all q m.occurs rest in_m (in_rest rest refl))

  pub among_kept : (test : TExpr) (ms : List Member) (os : List Occurrence) → kept_among test ms ≡ Some os → All (uses_of test) → AreKept ms → Kept os
  among_kept test [] os h all each = absurd cc
  among_kept test (m ∷ ms) os h all each =
      first_found (kept_if test m.action) (members_occur ms) m (kept_among test ms) os h (λ xs is. kept_member test m.action xs is all each.0.1) (members_kept ms each.1) each.0.0
      (λ xs is. among_kept test ms xs is all each.1)
