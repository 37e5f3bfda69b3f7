-- What holds of each use of an expression statement holds of each of its occurrences.
use Rattle.std.proofs.Common.{◌≡◌, ℕ, Bool, true, false, List, [], ◌∷◌, ◌++◌, Option, Some, None, refl, sym, ap, subst}
use Rattle.std.specs.Prelude.{◌&&◌, if◌then◌else◌}
use Rattle.std.specs.List.{list_all}
use Rattle.std.proofs.lemmas.Option.{same_Some}
use Rattle.k_types_meaning.specs.declared.tree.expression.TExpr.{TExpr, out-TExpr}
use Rattle.k_types_meaning.specs.declared.tree.expression.TExpr.TheOpen.{TExpr-F}
use Rattle.k_marks_meaning.specs.declared.uses.Group.{Group}
use Rattle.k_marks_meaning.specs.declared.uses.Read.{Read}
use Rattle.k_marks_meaning.specs.declared.uses.Reduction.{Reduction}
use Rattle.k_marks_meaning.specs.declared.uses.Use.{Use}
use Rattle.k_marks_meaning.specs.declared.uses.Use.TheVariants as stated
use Rattle.k_marks_meaning.specs.Uses.{Used, used, uses_of, assigns}
use Rattle.k_marks_meaning.specs.Reductions.{group_of, change_group, variable_of, read_of, read_again, unconverted, reduction, reduced_uses, action_uses}
use Rattle.k_marks_meaning.specs.Reductions as marks
use Rattle.k_wide_meaning.specs.declared.occurrences.Scalar.{Scalar}
use Rattle.k_wide_meaning.specs.declared.occurrences.Scalar.TheVariants.{Variable, Object}
use Rattle.k_wide_meaning.specs.declared.occurrences.ScalarRead.{ScalarRead}
use Rattle.k_wide_meaning.specs.declared.occurrences.Reducing.{Reducing}
use Rattle.k_wide_meaning.specs.declared.occurrences.WideGroup.{WideGroup}
use Rattle.k_wide_meaning.specs.declared.occurrences.WideGroup.TheVariants.{By}
use Rattle.k_wide_meaning.specs.declared.occurrences.Occurrence.{Occurrence}
use Rattle.k_wide_meaning.specs.declared.occurrences.Occurrence.TheVariants as occurs
use Rattle.k_wide_meaning.specs.Occurrences.{occurs_in}
use Rattle.k_wide_meaning.specs.Signs.{are_same}
use Rattle.k_wide_meaning.specs.Reductions.{scalar_step, scalar_of, again, reduces_or, by_group, commuting, Compared, compared, other, value_beside, same_type, chosen_by, chosen_if, assigned_step, action_step, action_occurs}
use Rattle.k_wide_laws.proofs.Kept.{Compatible, all_both, front, head_of, tail_of, expression_kept}
use Rattle.k_wide_laws.proofs.Forms.{uses_at, used_is, read_at, read_in, variable_is, again_is, same_found, unconverted_uses, value_uses, IsSide, on_right, on_left, compared_sides}

module _ (p : Use → Bool) (q : Occurrence → Bool) (c : Compatible p q) where
  abbrev All : List Use → Type 0
  All us = list_all p us ≡ true

  abbrev Kept : List Occurrence → Type 0
  Kept os = list_all q os ≡ true

  -- a scalar may be assigned
  abbrev pub MayAssign : Scalar → Type 0
  MayAssign (Variable n) = p (stated.Assigns n) ≡ true
  MayAssign (Object n) = Unit {0}

  pub reducing_kept : (r : Reducing) (s : Scalar) → r.scalar ≡ s → MayAssign s → q (occurs.Reduces r) ≡ true
  reducing_kept r (Variable n) is h = c.by_assign r n is h
  reducing_kept r (Object n) is h = c.object_reduced r n is

  abbrev pub EachMay : Option ScalarRead → Type 0
  EachMay s = (r : ScalarRead) → s ≡ Some r → MayAssign r.scalar

  or_kept : (whole beside : List Occurrence) (g : Option WideGroup) (s : Option ScalarRead) → Kept whole → Kept beside → EachMay s → Kept (reduces_or whole beside g s)
  or_kept whole beside None None k b each = k
  or_kept whole beside (Some g) None k b each = k
  or_kept whole beside None (Some s) k b each = k
  or_kept whole beside (Some g) (Some s) k b each =
      let r : Reducing = record { scalar = s.scalar; group = g; read = s.node } in
      front p q c (occurs.Reduces r) beside (reducing_kept r s.scalar refl (each s refl)) b

  -- THE ASSIGNED SCALAR
  may_at : (z : TExpr-F TExpr) (s : ScalarRead) → scalar_step z ≡ Some s → All (assigns (uses_at z).itself ++ (uses_at z).uses) → MayAssign s.scalar
  may_at (TExpr-F.Variable node n) s h all =
      subst (λ (r : ScalarRead). MayAssign r.scalar) (same_Some (record { scalar = Variable n; node = node.number }) s h)
      (head_of p q c (stated.Assigns n) (stated.Names n ∷ []) all)
  may_at (TExpr-F.Object node n) s h all =
      subst (λ (r : ScalarRead). MayAssign r.scalar) (same_Some (record { scalar = Object n; node = node.number }) s h) tt
  may_at _ s h all = absurd cc

  pub may_assign : (left : TExpr) → All (assigns (used left).itself ++ uses_of left) → EachMay (scalar_of left)
  may_assign left all s h = may_at (out-TExpr left) s h (subst (λ (u : Used). All (assigns u.itself ++ u.uses)) (used_is left) all)

  -- the same scalar, read again
  again_may : (s : Option ScalarRead) (e : TExpr) → EachMay s → EachMay (again s e)
  again_may s e each r h =
      let found = same_found s (scalar_of (unconverted e)) r h in
      subst MayAssign (sym found.0.2) (each found.0.0 found.0.1)

  -- WHERE *MARKS* HAS A REDUCTION TOO, by the operators of a group
  coincide_at : (e right : TExpr) (W : List Occurrence) (s : Scalar) (node : ℕ) (g : Option Group)
      → (All (uses_of e) → Kept (reduces_or W (occurs_in right) (by_group g) (Some (record { scalar = s; node = node }))))
      → All (reduced_uses e (reduction (read_at s node) g) right) → Kept (reduces_or W (occurs_in right) (by_group g) (Some (record { scalar = s; node = node })))
  coincide_at e right W (Variable n) node None else_ all = else_ all
  coincide_at e right W (Object n) node None else_ all = else_ all
  coincide_at e right W (Object n) node (Some g) else_ all = else_ all
  coincide_at e right W (Variable n) node (Some g) else_ all =
      let r : Reduction = record { variable = n; group = g; read = node } in
      front p q c (occurs.Reduces (record { scalar = Variable n; group = By g; read = node })) (occurs_in right)
      (c.reduces r (head_of p q c (stated.Reduces r) (uses_of right) all)) (expression_kept p q c right (tail_of p q c (stated.Reduces r) (uses_of right) all))

  coincide : (e right : TExpr) (W : List Occurrence) (s : Option ScalarRead) (g : Option Group)
      → (All (uses_of e) → Kept (reduces_or W (occurs_in right) (by_group g) s))
      → All (reduced_uses e (reduction (read_in s) g) right) → Kept (reduces_or W (occurs_in right) (by_group g) s)
  coincide e right W None g else_ all = else_ all
  coincide e right W (Some s) g else_ all = coincide_at e right W s.scalar s.node g else_ all

  -- A CHOICE
  by_kept : (whole : List Occurrence) (s : ScalarRead) (e left : TExpr) (kept : WideGroup) (d : Compared) (b : Bool) → Kept whole → MayAssign d.s.scalar → MayAssign s.scalar → Kept (occurs_in e)
      → Kept (if b
      then occurs.Reduces (record { scalar = d.s.scalar; group = kept; read = d.s.node }) ∷ occurs.Reduces (record { scalar = s.scalar; group = kept; read = s.node }) ∷ occurs_in e
      else whole)
  by_kept whole s e left kept d false k may also inner = k
  by_kept whole s e left kept d true k may also inner =
      let one : Reducing = record { scalar = d.s.scalar; group = kept; read = d.s.node } in
      let two : Reducing = record { scalar = s.scalar; group = kept; read = s.node } in
      front p q c (occurs.Reduces one) (occurs.Reduces two ∷ occurs_in e) (reducing_kept one d.s.scalar refl may)
      (front p q c (occurs.Reduces two) (occurs_in e) (reducing_kept two s.scalar refl also) inner)

  chosen_kept : (whole : List Occurrence) (left : TExpr) (kept : WideGroup) (s : Option ScalarRead) (e : Option TExpr) (d : Compared) → Kept whole → MayAssign d.s.scalar
      → EachMay s → ((x : TExpr) → e ≡ Some x → Kept (occurs_in x)) → Kept (chosen_by whole left kept s e d)
  chosen_kept whole left kept None None d k may each inner = k
  chosen_kept whole left kept None (Some e) d k may each inner = k
  chosen_kept whole left kept (Some s) None d k may each inner = k
  chosen_kept whole left kept (Some s) (Some e) d k may each inner =
      by_kept whole s e left kept d (are_same e d.e && same_type e left) k may (each s refl) (inner e refl)

  value_kept : (e : TExpr) (side : TExpr-F TExpr) → All (uses_of e) → (x : TExpr) → value_beside e side ≡ Some x → Kept (occurs_in x)
  value_kept e side all x h = expression_kept p q c x (subst All (sym (value_uses e side x h)) all)

  side_may : (s : Option ScalarRead) (left right : TExpr) (r : ScalarRead) → IsSide s left right r → EachMay s → MayAssign r.scalar
  side_may s left right r (on_right h) each = again_may s right each r h
  side_may s left right r (on_left h) each = again_may s left each r h

  pub compared_may : (s : Option ScalarRead) (test : TExpr) (d : Compared) → compared s test ≡ Some d → EachMay s → MayAssign d.s.scalar
  compared_may s test d h each = let sides = compared_sides s test d h in side_may s sides.0 sides.1 d.s sides.2 each

  choice_kept : (whole : List Occurrence) (left a b : TExpr) (d : Option Compared) → Kept whole → ((x : Compared) → d ≡ Some x → MayAssign x.s.scalar) → All (uses_of a) → All (uses_of b)
      → Kept (chosen_if whole left a b d)
  choice_kept whole left a b None k may in_a in_b = k
  choice_kept whole left a b (Some d) k may in_a in_b =
      let own : EachMay (Some d.s) = λ r h. subst (λ (x : ScalarRead). MayAssign x.scalar) (same_Some d.s r h) (may d refl) in
      let inner : Kept (chosen_by whole left (other d.kept) (again (Some d.s) a) (value_beside b (out-TExpr a)) d) =
      chosen_kept whole left (other d.kept) (again (Some d.s) a) (value_beside b (out-TExpr a)) d k (may d refl) (again_may (Some d.s) a own) (value_kept b (out-TExpr a) in_b) in
      chosen_kept (chosen_by whole left (other d.kept) (again (Some d.s) a) (value_beside b (out-TExpr a)) d) left d.kept (again (Some d.s) b) (value_beside a (out-TExpr b)) d inner (may d refl)
      (again_may (Some d.s) b own) (value_kept a (out-TExpr b) in_a)

  -- AN ASSIGNMENT `left = right`, by the form of its right side without conversion
  right_kept : (e left right : TExpr) (y : TExpr-F TExpr) → used right ≡ uses_at y
      → (All (uses_of e) → All (assigns (used left).itself ++ uses_of left) × All (uses_of right))
      → All (marks.assigned_step e (variable_of left) y) → Kept (assigned_step (occurs_in e) left y)
  right_kept e left right (TExpr-F.Binary node op kind a b) is parts all =
      let inner : All (uses_of e) → Kept (reduces_or (occurs_in e) (occurs_in a) (commuting op) (again (scalar_of left) b)) =
      (λ h.
      let both = parts h in
      let sides = all_both p (uses_of a) (uses_of b) (subst (λ (u : Used). All u.uses) is both.1) in
      or_kept (occurs_in e) (occurs_in a) (commuting op) (again (scalar_of left) b) (expression_kept p q c e h) (expression_kept p q c a sides.0)
      (again_may (scalar_of left) b (may_assign left both.0))) in
      let outer : All (uses_of e) → Kept (assigned_step (occurs_in e) left (TExpr-F.Binary node op kind a b)) =
      (λ h.
      let both = parts h in
      let sides = all_both p (uses_of a) (uses_of b) (subst (λ (u : Used). All u.uses) is both.1) in
      or_kept (reduces_or (occurs_in e) (occurs_in a) (commuting op) (again (scalar_of left) b)) (occurs_in b) (by_group (group_of op)) (again (scalar_of left) a) (inner h)
      (expression_kept p q c b sides.1) (again_may (scalar_of left) a (may_assign left both.0))) in
      coincide e b (reduces_or (occurs_in e) (occurs_in a) (commuting op) (again (scalar_of left) b)) (again (scalar_of left) a) (group_of op) outer
      (subst (λ (r : Option Read). All (reduced_uses e (reduction r (group_of op)) b)) (sym (again_is left a)) all)
  right_kept e left right (TExpr-F.Cond node test a b) is parts all =
      let both = parts all in
      let sides = all_both p (uses_of test) (uses_of a ++ uses_of b) (subst (λ (u : Used). All u.uses) is both.1) in
      let arms = all_both p (uses_of a) (uses_of b) sides.1 in
      choice_kept (occurs_in e) left a b (compared (scalar_of left) test) (expression_kept p q c e all)
      (λ d h. compared_may (scalar_of left) test d h (may_assign left both.0)) arms.0 arms.1
  right_kept e left right _ is parts all = expression_kept p q c e all

  -- the parts of an assignment
  pub assignment_parts : (e left right : TExpr) → (uses_of e ≡ (assigns (used left).itself ++ uses_of left) ++ uses_of right) → All (uses_of e)
      → All (assigns (used left).itself ++ uses_of left) × All (uses_of right)
  assignment_parts e left right is all = all_both p (assigns (used left).itself ++ uses_of left) (uses_of right) (subst All is all)

  -- AN EXPRESSION STATEMENT, by its form
  at_form : (e : TExpr) (z : TExpr-F TExpr) → used e ≡ uses_at z → All (marks.action_step e z) → Kept (action_step (occurs_in e) z)
  at_form e (TExpr-F.AssignBy node by left right) is all =
      coincide e right (occurs_in e) (scalar_of left) (change_group by)
      (λ h.
      let parts = assignment_parts e left right (ap (λ (u : Used). u.uses) is) h in
      or_kept (occurs_in e) (occurs_in right) (by_group (change_group by)) (scalar_of left) (expression_kept p q c e h) (expression_kept p q c right parts.1) (may_assign left parts.0))
      (subst (λ (r : Option Read). All (reduced_uses e (reduction r (change_group by)) right)) (sym (variable_is left)) all)
  at_form e (TExpr-F.Post node by a) is all =
      or_kept (occurs_in e) [] (by_group (change_group by)) (scalar_of a) (expression_kept p q c e all) refl (may_assign a (subst (λ (u : Used). All u.uses) is all))
  at_form e (TExpr-F.Pre node by a) is all =
      or_kept (occurs_in e) [] (by_group (change_group by)) (scalar_of a) (expression_kept p q c e all) refl (may_assign a (subst (λ (u : Used). All u.uses) is all))
  at_form e (TExpr-F.Assign node left right) is all =
      right_kept e left (unconverted right) (out-TExpr (unconverted right)) (used_is (unconverted right))
      (λ h. let parts = assignment_parts e left right (ap (λ (u : Used). u.uses) is) h in (parts.0, subst All (sym (unconverted_uses right)) parts.1)) all
  at_form e _ is all = expression_kept p q c e all

  pub action_kept : (e : TExpr) → list_all p (action_uses e) ≡ true → list_all q (action_occurs e) ≡ true
  action_kept e all = at_form e (out-TExpr e) (used_is e) all
