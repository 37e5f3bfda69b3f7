-- Statements combine a variable that they reduce with what they contribute.
use Rattle.std.proofs.Common.{◌≡◌, ℕ, ◌≤◌, ℤ, List, [], ◌∷◌, ◌++◌, Option, Some, None, Bool, true, false, ◌&&◌, ◌||◌, not, nat_eq, if◌then◌else◌, refl, sym, ◌∙◌, ap, subst, arith}
use Rattle.std.specs.List.{list_all}
use Rattle.std.specs.Prelude.{IsSome}
use Rattle.std.proofs.lemmas.Bool.{eqb-true, eqb-false}
use Rattle.k_num.specs.declared.numbers.Bin.{Bin}
use Rattle.k_num.specs.declared.numbers.Kind.{Kind}
use Rattle.k_num.specs.Kind.{width}
use Rattle.k_types_meaning.specs.declared.tree.expression.Change.TheVariants as change
use Rattle.k_types_meaning.specs.declared.tree.expression.Node.{Node}
use Rattle.k_types_meaning.specs.declared.tree.expression.TExpr.{TExpr, out-TExpr}
use Rattle.k_types_meaning.specs.declared.tree.expression.TExpr.TheOpen.{TExpr-F}
use Rattle.k_marks_meaning.specs.declared.uses.Group.{Group}
use Rattle.k_marks_meaning.specs.declared.uses.Read.{Read}
use Rattle.k_marks_meaning.specs.declared.uses.Use.{Use}
use Rattle.k_marks_meaning.specs.declared.uses.Use.TheVariants.{Names, Assigns, Declares, Reduces}
use Rattle.k_marks_meaning.specs.Uses.{Used, used, uses_of, assigns}
use Rattle.k_marks_meaning.specs.Reductions.{group_of, variable_of, read_step, read_of, read_again, reduction, reduced_uses, assigned_step, unconverted_step, action_step, action_uses}
use Rattle.k_marks_meaning.specs.Loops.{fits, same_group, reads}
use Rattle.k_evaluation.specs.declared.operand.Operand.{Operand}
use Rattle.k_evaluation.specs.declared.operand.Target.TheVariants.{InRegister}
use Rattle.k_evaluation.specs.States.{State, Outcome, Goes, follow}
use Rattle.k_evaluation.specs.Meanings.{Meaning}
use Rattle.k_evaluation.specs.Places as places
use Rattle.k_evaluation.specs.Operators.{binary, convert, converts}
use Rattle.k_evaluation.specs.Assignments.{assign, assign_by}
use Rattle.k_evaluation.specs.Flows.{Within, means}
use Rattle.k_marks_laws.specs.Frames.{IsSpared}
use Rattle.k_marks_laws.specs.Turns.{HoldsNumber}
use Rattle.k_marks_laws.specs.Counted.{IsTypedChange, IsTypedSide}
use Rattle.k_marks_laws.specs.Contributions.{Adds, none, contributed, Reducing, reducing_by, simple_by, reducing_step}
use Rattle.k_marks_laws.specs.Reduced.{combining, IsTypedOperation, IsTypedRight, IsTypedAssignment}
use Rattle.k_marks_laws.proofs.Parts.{Keeps, Any}
use Rattle.k_marks_laws.proofs.Rows.{CallsKeep}
use Rattle.k_marks_laws.proofs.Evaluated.{eval_keeps}
use Rattle.k_marks_laws.proofs.OneVariable.{uses_at, used_is, IsRead, variable_is, IsNamed, read_is}
use Rattle.k_marks_laws.proofs.Conditions.{IsPlain, plain, both_true, not_true}
use Rattle.k_marks_laws.proofs.Bodies.{assigned_spared, again_spared}
use Rattle.k_marks_laws.proofs.Stepped.{meaning_at, meaning_is, place_of}
use Rattle.k_marks_laws.proofs.Steps.{Reaches}
use Rattle.k_marks_laws.proofs.Folding.{with_all, quiet_at}
use Rattle.k_marks_laws.proofs.Tested.{variable_is_it, is_it, convert_value}
use Rattle.k_marks_laws.proofs.Reducing.{one_group, compound_folds}
use Rattle.k_marks_laws.proofs.Simple.{Sides, register_sides, convert_sides, direct_folds, through_folds}

le_self : (k : ℕ) → k ≤ k
le_self k = omega arith

-- an expression in which a variable fits, which it would reduce nowhere, does not change it
fits_spared : (n : ℕ) (g : Group) (us : List Use) → list_all (fits n g) us ≡ true → IsPlain us → IsSpared n us
fits_spared n g [] is h = tt
fits_spared n g (Names m ∷ us) is h = (refl, fits_spared n g us (both_true (not (nat_eq m n)) (list_all (fits n g) us) is).1 h)
fits_spared n g (Assigns m ∷ us) is h =
    let e = both_true (not (nat_eq m n)) (list_all (fits n g) us) is in (not_true (nat_eq m n) e.0, fits_spared n g us e.1 h)
fits_spared n g (Declares m ∷ us) is h = absurd h
fits_spared n g (Reduces r ∷ us) is h = absurd h

module _ (w : Within) (calls_keep : (n : ℕ) → CallsKeep n w.calls) (n : ℕ) (group : Group) (kind : Kind) (register : places.is_register w.vars n ≡ true) where
  -- the value of an expression that is not used, with what it contributes
  abbrev ValueFolds : TExpr → Adds → Type 0
  ValueFolds e adds = (s : State) (x : ℤ) → HoldsNumber s n x → Reaches n (with_all (combining group) kind n x (adds s)) ((means w e).value false s)

  -- an expression that does not change the variable
  quiet_value : (e : TExpr) → IsSpared n (uses_of e) → ValueFolds e none
  quiet_value e spared s x there =
      quiet_at (combining group) kind n s x ((means w e).value false s) ((eval_keeps n w.program w.vars w.calls (calls_keep n) e spared).0 false s) there

  -- a statement in which the variable fits, but which is no reduction
  whole_quiet : (e : TExpr) → list_all (fits n group) (uses_of e) ≡ true → ValueFolds e none
  whole_quiet e is = quiet_value e (fits_spared n group (uses_of e) is (plain e))

  -- nothing is reduced
  none_by : (b : Bool) (r : Reducing) → reducing_by b None r ≡ None
  none_by true r = refl
  none_by false r = refl

  -- so nothing is contributed
  none_folds : (e : TExpr) (r : Option Reducing) → r ≡ None → ValueFolds e none → ValueFolds e (contributed w r)
  none_folds e r is h = subst (λ (q : Option Reducing). ValueFolds e (contributed w q)) (sym is) h

  -- `s op= e` WITH ITS READ AND ITS GROUP
  module _ (e : TExpr) (node : Node) (op : Bin) (wide : Kind) (left right : TExpr)
      (uses_are : uses_of e ≡ (assigns (used left).itself ++ (used left).uses) ++ uses_of right)
      (means_it : means w e ≡ assign_by w.program node (change.Number op wide) (means w left) (means w right)) where
    abbrev how : Reducing
    how = record { op = op; before = None; other = right }

    grouped_case : (v : Read) (g : Group) (b : Bool) → variable_of left ≡ Some v → group_of op ≡ Some g → nat_eq v.variable n ≡ b
        → ((not b || same_group g group) && list_all (fits n group) (uses_of right)) ≡ true
        → (IsSome (reducing_by b (Some g) how) → IsTypedChange kind node (change.Number op wide))
        → ValueFolds e (contributed w (reducing_by b (Some g) how))
    grouped_case v g false from grouped differ is typed s x there =
        quiet_value e (subst (IsSpared n) (sym uses_are)
        (assigned_spared n v (used left) (uses_of right) (subst (λ (r : Option Read). IsRead r (used left)) from (variable_is left)) differ
        (fits_spared n group (uses_of right) is (plain right)))) s x there
    grouped_case v g true from grouped same is typed s x there =
        let tests = both_true (same_group g group) (list_all (fits n group) (uses_of right)) is in
        let spared : IsSpared n (uses_of right) = fits_spared n group (uses_of right) tests.1 (plain right) in
        let facts = typed refl in
        let here_is : nat_eq v.variable n ≡ true = same in
        let found = place_of w.program w.vars w.calls left v from (ap (places.is_register w.vars) (eqb-true v.variable n here_is) ∙ register) in
        subst (λ (m : Meaning). Reaches n (with_all (combining group) kind n x (contributed w (Some how) s)) (m.value false s)) (sym means_it)
        (compound_folds w.program node n kind wide op group (grouped ∙ ap Some (one_group g group tests.0)) facts.0 facts.1 (means w left) (means w right)
        found.0 x s (subst (λ (k : ℕ). (means w left).place s ≡ Goes (InRegister k found.0) s) (eqb-true v.variable n here_is) (found.1 s))
        ((eval_keeps n w.program w.vars w.calls (calls_keep n) right spared).0 true) there)

    -- whatever its left side and its operator are
    number_case : (o : Option Read) (g : Option Group) → variable_of left ≡ o → group_of op ≡ g → list_all (fits n group) (reduced_uses e (reduction o g) right) ≡ true
        → (IsSome (reducing_by (reads n o) g how) → IsTypedChange kind node (change.Number op wide)) → ValueFolds e (contributed w (reducing_by (reads n o) g how))
    number_case None g from grouped is typed = whole_quiet e is
    number_case (Some v) None from grouped is typed =
        none_folds e (reducing_by (nat_eq v.variable n) None how) (none_by (nat_eq v.variable n) how) (whole_quiet e is)
    number_case (Some v) (Some g) from grouped is typed = grouped_case v g (nat_eq v.variable n) from grouped refl is typed

  -- `s = s op e` WITH ITS READS AND ITS GROUP
  module _ (e : TExpr) (op : Bin) (left l r : TExpr) (uses_are : uses_of e ≡ (assigns (used left).itself ++ (used left).uses) ++ (uses_of l ++ uses_of r)) where
    abbrev twice : Reducing
    twice = record { op = op; before = Some l; other = r }

    -- what typing says of it, and what it comes to
    module _ (T : Type 0)
        (final : group_of op ≡ Some group → T → (broken : Bool) (x : ℤ) (s : State) → HoldsNumber s n x → reads n (read_of l) ≡ true → (means w left).place s ≡ Goes (InRegister n broken) s
        → Keeps n Any ((means w r).value true) → Reaches n (with_all (combining group) kind n x (contributed w (Some twice) s)) ((means w e).value false s)) where
      abbrev Contributes : Bool → Option Group → Type 0
      Contributes b g = (IsSome (reducing_by b g twice) → T) → ValueFolds e (contributed w (reducing_by b g twice))

      both_no : (a b : Read) → nat_eq a.variable b.variable ≡ false → (nat_eq a.variable n && nat_eq b.variable n) ≡ false
      both_no a b differ = by (nat_eq a.variable n) (nat_eq b.variable n) refl refl
        where
          by : (c d : Bool) → nat_eq a.variable n ≡ c → nat_eq b.variable n ≡ d → (c && d) ≡ false
          by false d one two = refl
          by true false one two = refl
          by true true one two = absurd (eqb-false a.variable b.variable differ (eqb-true a.variable n one ∙ sym (eqb-true b.variable n two)))

      no_group : (b : Bool) → list_all (fits n group) (uses_of e) ≡ true → Contributes b None
      no_group b is typed = none_folds e (reducing_by b None twice) (none_by b twice) (whole_quiet e is)

      not_read : (b : Bool) (g : Option Group) → b ≡ false → ValueFolds e none → Contributes b g
      not_read b g is h typed = none_folds e (reducing_by b g twice) (ap (λ (c : Bool). reducing_by c g twice) is) h

      -- both reads are of one variable: this one, or another
      reduced_case : (a b : Read) (g : Group) (c : Bool) → variable_of left ≡ Some a → read_of l ≡ Some b → group_of op ≡ Some g → a.variable ≡ b.variable → nat_eq b.variable n ≡ c
          → ((not c || same_group g group) && list_all (fits n group) (uses_of r)) ≡ true → Contributes (nat_eq a.variable n && c) (Some g)
      reduced_case a b g false from from_too grouped same differ is =
          not_read (nat_eq a.variable n && false) (Some g) (both_false (nat_eq a.variable n))
          (quiet_value e (again_spared n e r (used left) (uses_of l) a b (Some g) true (ap (λ (k : ℕ). nat_eq a.variable k) (sym same) ∙ eq_self a.variable)
          (subst (λ (q : Option Read). IsRead q (used left)) from (variable_is left)) (subst (λ (q : Option Read). IsNamed q (uses_of l)) from_too (read_is l)) uses_are
          (differ, fits_spared n group (uses_of r) is (plain r))))
        where
          both_false : (c : Bool) → (c && false) ≡ false
          both_false true = refl
          both_false false = refl

          eq_self : (m : ℕ) → nat_eq m m ≡ true
          eq_self m = by (nat_eq m m) refl
            where
              by : (c : Bool) → nat_eq m m ≡ c → nat_eq m m ≡ true
              by true h = h
              by false h = absurd (eqb-false m m h refl)
      reduced_case a b g true from from_too grouped same at_it is = subst (λ (c : Bool). Contributes (c && true) (Some g)) (sym a_is) here
        where
          a_is : nat_eq a.variable n ≡ true
          a_is = ap (λ (k : ℕ). nat_eq k n) same ∙ at_it

          here : Contributes true (Some g)
          here typed s x there =
              let tests = both_true (same_group g group) (list_all (fits n group) (uses_of r)) is in
              let found = place_of w.program w.vars w.calls left a from (ap (places.is_register w.vars) (eqb-true a.variable n a_is) ∙ register) in
              final (grouped ∙ ap Some (one_group g group tests.0)) (typed refl) found.0 x s there (ap (reads n) from_too ∙ at_it)
              (subst (λ (k : ℕ). (means w left).place s ≡ Goes (InRegister k found.0) s) (eqb-true a.variable n a_is) (found.1 s))
              ((eval_keeps n w.program w.vars w.calls (calls_keep n) r (fits_spared n group (uses_of r) tests.1 (plain r))).0 true)

      again_case : (a b : Read) (g : Option Group) (c : Bool) → variable_of left ≡ Some a → read_of l ≡ Some b → group_of op ≡ g → nat_eq a.variable b.variable ≡ c
          → list_all (fits n group) (reduced_uses e (reduction (if c then Some b else None) g) r) ≡ true → Contributes (nat_eq a.variable n && nat_eq b.variable n) g
      again_case a b g false from from_too grouped same is =
          not_read (nat_eq a.variable n && nat_eq b.variable n) g (both_no a b same) (whole_quiet e is)
      again_case a b None true from from_too grouped same is = no_group (nat_eq a.variable n && nat_eq b.variable n) is
      again_case a b (Some g) true from from_too grouped same is =
          reduced_case a b g (nat_eq b.variable n) from from_too grouped (eqb-true a.variable b.variable same) refl is

      pub simple_case : (o q : Option Read) (g : Option Group) → variable_of left ≡ o → read_of l ≡ q → group_of op ≡ g
          → list_all (fits n group) (reduced_uses e (reduction (read_again o q) g) r) ≡ true → Contributes (reads n o && reads n q) g
      simple_case None q g from from_too grouped is typed = whole_quiet e is
      simple_case (Some a) None g from from_too grouped is typed = not_read (nat_eq a.variable n && false) g (no_and (nat_eq a.variable n)) (whole_quiet e is) typed
        where
          no_and : (c : Bool) → (c && false) ≡ false
          no_and true = refl
          no_and false = refl
      simple_case (Some a) (Some b) g from from_too grouped is typed = again_case a b g (nat_eq a.variable b.variable) from from_too grouped refl is typed

  -- THE LEFT OPERAND: s, or s converted
  sides_at : (wide : Kind) (y : TExpr-F TExpr) (x : ℤ) (s : State) → HoldsNumber s n x → reads n (read_step y) ≡ true → IsTypedSide wide y
      → Sides n x wide ((meaning_at w.program w.vars w.calls y).value true s)
  sides_at wide (TExpr-F.Variable node m) x s there is typed =
      let it = variable_is_it w.program w.vars w.calls n register node m is in
      subst (Sides n x wide) (sym (it.1 s)) (register_sides w.program n wide x it.0 s there)
  sides_at wide (TExpr-F.Convert node e) x s there is typed =
      let it = is_it w.program w.vars w.calls n register e is in
      subst (Sides n x wide) (sym (convert_value w.program node wide (means w e) s typed))
      (subst (λ (o : Outcome Operand). Sides n x wide (follow o (converts w.program node.place (Some wide)))) (sym (it.1 s)) (convert_sides w.program n wide x node.place it.0 s there))
  sides_at wide _ x s there is typed = absurd cc

  sides_of : (wide : Kind) (e : TExpr) (x : ℤ) (s : State) → HoldsNumber s n x → reads n (read_of e) ≡ true → IsTypedSide wide (out-TExpr e) → Sides n x wide ((means w e).value true s)
  sides_of wide e x s there is typed =
      subst (λ (m : Meaning). Sides n x wide (m.value true s)) (sym (meaning_is w.program w.vars w.calls e)) (sides_at wide (out-TExpr e) x s there is typed)

  -- AN ASSIGNMENT, by its right side
  module _ (e : TExpr) (node : Node) (left right : TExpr) (uses_are : uses_of e ≡ (assigns (used left).itself ++ (used left).uses) ++ uses_of right)
      (means_it : means w e ≡ assign w.program node (means w left) (means w right)) where
    abbrev Simple : TExpr-F TExpr → TExpr-F TExpr → Type 0
    Simple y z =
        list_all (fits n group) (assigned_step e (variable_of left) z) ≡ true
        → (IsSome (simple_by n (reads n (variable_of left)) z) → IsTypedRight kind y)
        → ValueFolds e (contributed w (simple_by n (reads n (variable_of left)) z))

    -- an operation in the kind of s
    direct : (inner : Node) (op : Bin) (wide : Kind) (l r : TExpr) → uses_of right ≡ uses_of l ++ uses_of r
        → means w right ≡ binary w.program inner op wide (means w l) (means w r) → Simple (TExpr-F.Binary inner op wide l r) (TExpr-F.Binary inner op wide l r)
    direct inner op wide l r right_uses right_means is typed =
        simple_case e op left l r (uses_are ∙ ap (λ (us : List Use). (assigns (used left).itself ++ (used left).uses) ++ us) right_uses)
        (IsTypedRight kind (TExpr-F.Binary inner op wide l r))
        (λ grouped facts broken x s there is_left here kept.
        subst (λ (m : Meaning). Reaches n (with_all (combining group) kind n x (contributed w (Some (record { op = op; before = Some l; other = r })) s)) (m.value false s))
        (sym (means_it ∙ ap (λ (m : Meaning). assign w.program node (means w left) m) right_means))
        (direct_folds w.program node inner (means w left) (means w l) (means w r) n kind wide op group grouped broken x s facts.0
        (subst (λ (k : Kind). width kind ≤ width k) (sym facts.0) (le_self (width kind))) here kept
        (sides_of wide l x s there is_left facts.1)))
        (variable_of left) (read_of l) (group_of op) refl refl refl is typed

    -- an operation in another kind, converted
    through : (outer inner : Node) (op : Bin) (wide : Kind) (a l r : TExpr) → out-TExpr a ≡ TExpr-F.Binary inner op wide l r → uses_of right ≡ uses_of l ++ uses_of r
        → means w right ≡ convert w.program outer (binary w.program inner op wide (means w l) (means w r)) → Simple (TExpr-F.Convert outer a) (TExpr-F.Binary inner op wide l r)
    through outer inner op wide a l r a_is right_uses right_means is typed =
        simple_case e op left l r (uses_are ∙ ap (λ (us : List Use). (assigns (used left).itself ++ (used left).uses) ++ us) right_uses)
        (IsTypedRight kind (TExpr-F.Convert outer a))
        (λ grouped facts broken x s there is_left here kept.
        let operation : IsTypedOperation kind (TExpr-F.Binary inner op wide l r) = subst (IsTypedOperation kind) a_is facts.1 in
        subst (λ (m : Meaning). Reaches n (with_all (combining group) kind n x (contributed w (Some (record { op = op; before = Some l; other = r })) s)) (m.value false s))
        (sym (means_it ∙ ap (λ (m : Meaning). assign w.program node (means w left) m) right_means))
        (through_folds w.program node outer inner (means w left) (means w l) (means w r) n kind wide op group grouped broken x s facts.0 operation.0 here kept
        (sides_of wide l x s there is_left operation.1)))
        (variable_of left) (read_of l) (group_of op) refl refl refl is typed

    -- what is converted, if it is an operation
    converted_case : (outer : Node) (a : TExpr) (z : TExpr-F TExpr) → out-TExpr a ≡ z → uses_of right ≡ uses_of a → means w right ≡ convert w.program outer (means w a)
        → Simple (TExpr-F.Convert outer a) z
    converted_case outer a (TExpr-F.Binary inner op wide l r) a_is right_uses right_means =
        through outer inner op wide a l r a_is
        (right_uses ∙ (ap (λ (u : Used). u.uses) (used_is a) ∙ ap (λ (y : TExpr-F TExpr). (uses_at y).uses) a_is))
        (right_means ∙ ap (convert w.program outer) (meaning_is w.program w.vars w.calls a ∙ ap (meaning_at w.program w.vars w.calls) a_is))
    converted_case outer a _ a_is right_uses right_means = λ is typed. whole_quiet e is

    right_case : (y : TExpr-F TExpr) → out-TExpr right ≡ y → Simple y (out-TExpr (unconverted_step right y))
    right_case (TExpr-F.Convert outer a) right_is =
        converted_case outer a (out-TExpr a) refl (ap (λ (u : Used). u.uses) (used_is right) ∙ ap (λ (y : TExpr-F TExpr). (uses_at y).uses) right_is)
        (meaning_is w.program w.vars w.calls right ∙ ap (meaning_at w.program w.vars w.calls) right_is)
    right_case (TExpr-F.Binary inner op wide l r) right_is =
        subst (Simple (TExpr-F.Binary inner op wide l r)) (sym right_is)
        (direct inner op wide l r (ap (λ (u : Used). u.uses) (used_is right) ∙ ap (λ (y : TExpr-F TExpr). (uses_at y).uses) right_is)
        (meaning_is w.program w.vars w.calls right ∙ ap (meaning_at w.program w.vars w.calls) right_is))
    right_case y right_is = subst (Simple y) (sym right_is) (λ is typed. whole_quiet e is)

  -- AN EXPRESSION STATEMENT, by its expression
  no_reduction : (o : Option Read) → reduction o None ≡ None
  no_reduction None = refl
  no_reduction (Some v) = refl

  pointer_case : (e right : TExpr) (o : Option Read) → list_all (fits n group) (reduced_uses e (reduction o None) right) ≡ true → ValueFolds e none
  pointer_case e right None is = whole_quiet e is
  pointer_case e right (Some v) is = whole_quiet e is

  uses_by : (e : TExpr) (y : TExpr-F TExpr) → out-TExpr e ≡ y → uses_of e ≡ (uses_at y).uses
  uses_by e y e_is = ap (λ (u : Used). u.uses) (used_is e) ∙ ap (λ (z : TExpr-F TExpr). (uses_at z).uses) e_is

  means_by : (e : TExpr) (y : TExpr-F TExpr) → out-TExpr e ≡ y → means w e ≡ meaning_at w.program w.vars w.calls y
  means_by e y e_is = meaning_is w.program w.vars w.calls e ∙ ap (meaning_at w.program w.vars w.calls) e_is

  statement_at : (e : TExpr) (y : TExpr-F TExpr) → out-TExpr e ≡ y → list_all (fits n group) (action_step e y) ≡ true → (IsSome (reducing_step n y) → IsTypedAssignment kind y)
      → ValueFolds e (contributed w (reducing_step n y))
  statement_at e (TExpr-F.AssignBy node (change.Number op wide) left right) e_is is typed =
      number_case e node op wide left right (uses_by e (TExpr-F.AssignBy node (change.Number op wide) left right) e_is) (means_by e (TExpr-F.AssignBy node (change.Number op wide) left right) e_is)
      (variable_of left) (group_of op) refl refl is typed
  statement_at e (TExpr-F.AssignBy node change.Forward left right) e_is is typed = pointer_case e right (variable_of left) is
  statement_at e (TExpr-F.AssignBy node change.Back left right) e_is is typed = pointer_case e right (variable_of left) is
  statement_at e (TExpr-F.Assign node left right) e_is is typed =
      right_case e node left right (uses_by e (TExpr-F.Assign node left right) e_is) (means_by e (TExpr-F.Assign node left right) e_is) (out-TExpr right) refl is typed
  statement_at e _ e_is is typed = whole_quiet e is

  pub statement_folds : (e : TExpr) → list_all (fits n group) (action_uses e) ≡ true → (IsSome (reducing_step n (out-TExpr e)) → IsTypedAssignment kind (out-TExpr e))
      → ValueFolds e (contributed w (reducing_step n (out-TExpr e)))
  statement_folds e is typed = statement_at e (out-TExpr e) refl is typed
