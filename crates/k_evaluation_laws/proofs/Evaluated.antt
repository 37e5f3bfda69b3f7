-- Expressions keep states right and give values of their types, where calls do.
use Rattle.std.proofs.Common.{◌≡◌, ℕ, zero, suc, ◌+◌, ◌<◌, ◌≤◌, List, [], ◌∷◌, ◌++◌, map, length, slice_get, Option, Some, None, Bool, true, ◌&&◌, refl, sym, ◌∙◌, ap, subst, arith}
use Rattle.std.specs.Prelude.{nat_le, nat_lt}
use Rattle.std.proofs.lemmas.Bool.{and_parts}
use Rattle.std.proofs.lemmas.Bool.Decides.{nat_tests}
use Rattle.std.proofs.lemmas.Option.{none-some, same_Some}
use Rattle.k_num.specs.declared.numbers.Kind.{Kind}
use Rattle.k_num.specs.declared.numbers.Kind.TheVariants.{I8, I32, I64}
use Rattle.k_types_meaning.specs.declared.tree.expression.Node.{Node}
use Rattle.k_types_meaning.specs.declared.tree.expression.TExpr.{TExpr, fold-roll-TExpr, ind-TExpr, map-TExpr}
use Rattle.k_types_meaning.specs.declared.tree.expression.TExpr.TheOpen.{TExpr-F}
use Rattle.k_types_meaning.specs.declared.tree.unit.TObject.{TObject}
use Rattle.k_types_meaning.specs.declared.tree.unit.TString.{TString}
use Rattle.k_types_meaning.specs.declared.tree.unit.TVariable.{TVariable}
use Rattle.k_evaluation.specs.States.{Program}
use Rattle.k_evaluation.specs.Meanings.{Meaning}
use Rattle.k_evaluation.specs.Places.{number, string, object, variable, index, deref, address, forward, back, onto, string_number}
use Rattle.k_evaluation.specs.Operators.{plus, unary, convert, cast, binary, compare, distance, both, either, cond, comma}
use Rattle.k_evaluation.specs.Assignments.{assign, assign_by, pre, post}
use Rattle.k_evaluation.specs.Library.{getchar, putchar, puts, printf}
use Rattle.k_evaluation.specs.Expressions.{Calls, call, eval_step, eval}
use Rattle.k_evaluation_laws.specs.Kinds.{start_kinds, Sort, NoValue, ANumber, APointer, sort_of, kind_in}
use Rattle.k_evaluation_laws.proofs.Fits.{Around, Callee, Seen, callee, sorts_of, same, points, is_number, is_pointer, unused_or, found, unary_fits, binary_fits, cast_fits, change_fits, call_fits, all_fit, all_same, all_stand, expr_step, see, expr_fits}
use Rattle.k_evaluation_laws.proofs.Ranges as ranges
use Rattle.k_evaluation_laws.proofs.Ranges.{expr_in_range, most_written}
use Rattle.k_evaluation_laws.proofs.Keeping.{Here}
use Rattle.k_evaluation_laws.proofs.Rows.{sort, IsRightMeaning, AreRight, here, AreRightCalls, Passes, number_right, string_right, object_right, variable_right, index_right, deref_right, address_right, forward_right, back_right, onto_right, plus_right, unary_right, convert_right, cast_right, binary_right, compare_right, distance_right, both_right, either_right, cond_right, comma_right, assign_right, assign_by_right, pre_right, post_right, getchar_right, putchar_right, puts_right, printf_right, call_right, missing_right}
use Rattle.k_evaluation_laws.proofs.Slots.{one_sort, points_to, found_sort, some_sort}

-- WHAT STANDS IN A LIST of what others are
pub mapped_at : {A B : Type 0} (f : A → B) (xs : List A) (n : ℕ) (b : B) → slice_get (map f xs) n ≡ Some b → (a : A) × (slice_get xs n ≡ Some a) × (f a ≡ b)
mapped_at f [] n b is = absurd (none-some b is)
mapped_at f (x ∷ xs) zero b is = (x, refl, same_Some (f x) b is)
mapped_at f (x ∷ xs) (suc n) b is = mapped_at f xs n b is

unmapped : {A B : Type 0} (f : A → B) (xs : List A) (n : ℕ) → slice_get (map f xs) n ≡ None → slice_get xs n ≡ None
unmapped f [] n is = refl
unmapped f (x ∷ xs) zero is = absurd (cc is)
unmapped f (x ∷ xs) (suc n) is = unmapped f xs n is

kinds_front : (objects : List TObject) (rest : List Kind) (n : ℕ) (s : Sort) → slice_get (map (λ (o : TObject). sort_of o.of) objects) n ≡ Some s
    → slice_get (map (λ (o : TObject). kind_in (sort_of o.of)) objects ++ rest) n ≡ Some (kind_in s)
kinds_front [] rest n s is = absurd (none-some s is)
kinds_front (o ∷ objects) rest zero s is = ap (λ (x : Sort). Some (kind_in x)) (same_Some (sort_of o.of) s is)
kinds_front (o ∷ objects) rest (suc n) s is = kinds_front objects rest n s is

strings_at : (strings : List TString) (n : ℕ) → n < length strings → slice_get (map (λ (t : TString). I8) strings) n ≡ Some I8
strings_at [] n below = absurd (omega (arith, below))
strings_at (t ∷ strings) zero below = refl
strings_at (t ∷ strings) (suc n) below = strings_at strings n (omega (arith, below))

kinds_behind : (objects : List TObject) (rest : List Kind) (n : ℕ) → slice_get (map (λ (o : TObject). kind_in (sort_of o.of)) objects ++ rest) (length objects + n) ≡ slice_get rest n
kinds_behind [] rest n = ap (slice_get rest) (let e : 0 + n ≡ n = omega arith in e)
kinds_behind (o ∷ objects) rest n =
    ap (slice_get (kind_in (sort_of o.of) ∷ (map (λ (o : TObject). kind_in (sort_of o.of)) objects ++ rest))) (let e : suc (length objects) + n ≡ suc (length objects + n) = omega arith in e)
    ∙ kinds_behind objects rest n

below_is : (a b : ℕ) → nat_lt a b ≡ true → a < b
below_is a b is = grind (arith, nat_tests)

most_is : (a b : ℕ) → nat_le a b ≡ true → a ≤ b
most_is a b is = grind (arith, nat_tests)

-- what is found has values
found_some : (o : Option Sort) (s : Sort) → found o s ≡ true → s ≡ NoValue → ⊥
found_some None s is none = cc is
found_some (Some t) s is none = some_sort t s is (one_sort t s is ∙ none)

-- nothing is used, or both are so
unused_both : (s : Sort) (x y : Bool) → unused_or s (x && y) ≡ true → (unused_or s x ≡ true) × (unused_or s y ≡ true)
unused_both NoValue x y is = (refl, refl)
unused_both (ANumber kind) x y is = and_parts x y is
unused_both (APointer kind) x y is = and_parts x y is

module _ (program : Program) (variables : List TVariable) (result : Sort) (calls : Calls) where
  abbrev pub around : Around
  around = record {
    variables = sorts_of variables;
    objects = map (λ (o : TObject). sort_of o.of) program.unit.objects;
    callees = map callee program.unit.functions;
    result = result;
  }

  abbrev vs : Here
  vs = here program variables

  abbrev meaning : TExpr → Meaning
  meaning = eval program variables calls

  abbrev step : TExpr-F Meaning → Meaning
  step = eval_step program variables calls

  abbrev ranged : TExpr → Bool
  ranged = expr_in_range (length program.unit.strings)

  -- THE SORT of an expression is that of its node
  sort_at : (z : TExpr-F TExpr) → (expr_step around (map-TExpr TExpr Seen (see around) z)).of ≡ sort (step (map-TExpr TExpr Meaning meaning z))
  unfolding number string object variable index deref address forward back onto plus unary convert cast binary compare distance both either cond comma assign assign_by pre post getchar putchar puts printf call
  sort_at (TExpr-F.Number node value) = refl
  sort_at (TExpr-F.Str node n bytes) = refl
  sort_at (TExpr-F.Object node n) = refl
  sort_at (TExpr-F.Variable node n) = refl
  sort_at (TExpr-F.Index node a b) = refl
  sort_at (TExpr-F.Call node f args) = refl
  sort_at (TExpr-F.Getchar node) = refl
  sort_at (TExpr-F.Putchar node a) = refl
  sort_at (TExpr-F.Puts node a) = refl
  sort_at (TExpr-F.Printf node format args) = refl
  sort_at (TExpr-F.Post node by a) = refl
  sort_at (TExpr-F.Pre node by a) = refl
  sort_at (TExpr-F.Address node a) = refl
  sort_at (TExpr-F.Deref node a) = refl
  sort_at (TExpr-F.Plus node a) = refl
  sort_at (TExpr-F.Unary node op kind a) = refl
  sort_at (TExpr-F.Convert node a) = refl
  sort_at (TExpr-F.Cast node a) = refl
  sort_at (TExpr-F.Binary node op kind a b) = refl
  sort_at (TExpr-F.Both node a b) = refl
  sort_at (TExpr-F.Either node a b) = refl
  sort_at (TExpr-F.Forward node a b) = refl
  sort_at (TExpr-F.Onto node a b) = refl
  sort_at (TExpr-F.Back node a b) = refl
  sort_at (TExpr-F.PtrCompare node op a b) = refl
  sort_at (TExpr-F.PtrDistance node a b) = refl
  sort_at (TExpr-F.Cond node a b c) = refl
  sort_at (TExpr-F.Assign node a b) = refl
  sort_at (TExpr-F.AssignBy node by a b) = refl
  sort_at (TExpr-F.Comma node a b) = refl

  pub see_sort : (e : TExpr) → (see around e).of ≡ sort (meaning e)
  see_sort =
      ind-TExpr (λ e. (see around e).of ≡ sort (meaning e))
      (λ x y is. ap (λ (s : Seen). s.of) (fold-roll-TExpr Seen (expr_step around) x) ∙ sort_at x ∙ sym (ap sort (fold-roll-TExpr Meaning step x)))

  pub string_known : (n : ℕ) → n < length program.unit.strings → slice_get (start_kinds program.unit) (string_number program n) ≡ Some I8
  string_known n below = kinds_behind program.unit.objects (map (λ (t : TString). I8) program.unit.strings) n ∙ strings_at program.unit.strings n below

  -- a sort by what is seen
  to_sort : (node : Node) (e : TExpr) → same (sort_of node.of) (see around e).of ≡ true → sort_of node.of ≡ sort (meaning e)
  to_sort node e is = one_sort (sort_of node.of) (see around e).of is ∙ see_sort e

  passes : (params : List Sort) (es : List TExpr) → all_same params (map (see around) es) ≡ true → Passes params (map sort (map meaning es))
  passes [] es is = tt
  passes (p ∷ params) [] is = cc is
  passes (p ∷ params) (e ∷ es) is =
      let h = and_parts (same p (see around e).of) (all_same params (map (see around) es)) is in
      (one_sort p (see around e).of h.0 ∙ see_sort e, passes params es h.1)

  module _ (calls_right : AreRightCalls program calls) where
    abbrev OfExpr : TExpr → Type 0
    OfExpr e = expr_fits around e ≡ true → ranged e ≡ true → IsRightMeaning vs (meaning e)

    all_right : {B : Type 0} (items : List B) (expr : B → TExpr) → ((b : B) → OfExpr (expr b)) → all_fit (map (see around) (map expr items)) ≡ true
        → all_stand (map ranged (map expr items)) ≡ true → AreRight vs (map meaning (map expr items))
    all_right [] expr each fit range = tt
    all_right (b ∷ items) expr each fit range =
        let h = and_parts (see around (expr b)).fits (all_fit (map (see around) (map expr items))) fit in
        let r = and_parts (ranged (expr b)) (all_stand (map ranged (map expr items))) range in
        (each b h.0 r.0, all_right items expr each h.1 r.1)

    called : (node : Node) (n : ℕ) (es : List TExpr) (c : Option Callee) → slice_get around.callees n ≡ c → call_fits c (sort_of node.of) (map (see around) es) ≡ true
        → AreRight vs (map meaning es) → IsRightMeaning vs (call calls node n (map meaning es))
    called node n es None there is right = missing_right program variables calls node n (map meaning es) calls_right (unmapped callee program.unit.functions n there) right
    called node n es (Some c) there is right =
        let f = mapped_at callee program.unit.functions n c there in
        let h = and_parts (unused_or (sort_of node.of) (same (sort_of node.of) c.result)) (all_same c.params (map (see around) es)) is in
        call_right program variables calls node n (map meaning es) f.0 calls_right f.1
        (subst (λ (d : Callee). unused_or (sort_of node.of) (same (sort_of node.of) d.result) ≡ true) (sym f.2) h.0)
        (subst (λ (d : Callee). Passes d.params (map sort (map meaning es))) (sym f.2) (passes c.params es h.1)) right

    -- AN EXPRESSION
    abbrev Layer : TExpr-F TExpr → Type 0
    Layer z =
        (expr_step around (map-TExpr TExpr Seen (see around) z)).fits ≡ true → ranges.expr_step (length program.unit.strings) (map-TExpr TExpr Bool ranged z) ≡ true
        → IsRightMeaning vs (step (map-TExpr TExpr Meaning meaning z))

    pub eval_right : (e : TExpr) → OfExpr e
    eval_right =
        ind-TExpr OfExpr
        (λ x y is fits range.
        let parts : Layer x =
        subst Layer is
        (elim y as (λ z. Layer (map-TExpr _ TExpr (λ e. e.0) z)) [
          | TExpr-F.Number node value ↦ λ h r. number_right program vs node value h r
          | TExpr-F.Str node n bytes ↦ λ h r. string_right program vs node n bytes (one_sort (sort_of node.of) (APointer I8) h) (string_known n (below_is n (length program.unit.strings) r))
          | TExpr-F.Object node n ↦ λ h r. object_right program vs node n (kinds_front program.unit.objects (map (λ (t : TString). I8) program.unit.strings) n (sort_of node.of) (found_sort (slice_get around.objects n) (sort_of node.of) h))
          | TExpr-F.Variable node n ↦ λ h r. (
              let s = found_sort (slice_get around.variables n) (sort_of node.of) h in
              let v = mapped_at (λ (v : TVariable). sort_of v.of) variables n (sort_of node.of) s in
              variable_right program vs node n v.0 v.1 v.2 (found_some (slice_get around.variables n) (sort_of node.of) h))
          | TExpr-F.Index node a b ↦ λ h r. (
              let p = and_parts (points (see around a.0).of (sort_of node.of)) ((see around a.0).fits && (see around b.0).fits) h in let q = and_parts (see around a.0).fits (see around b.0).fits p.1 in let w = and_parts (ranged a.0) (ranged b.0) r in
              index_right program vs node (meaning a.0) (meaning b.0) (sym (see_sort a.0) ∙ points_to (see around a.0).of (sort_of node.of) p.0) (a.1 q.0 w.0) (b.1 q.1 w.1))
          | TExpr-F.Call node f args ↦ λ h r. (
              let p = and_parts (call_fits (slice_get around.callees f) (sort_of node.of) (map (see around) (map (λ e. e.0) args))) (all_fit (map (see around) (map (λ e. e.0) args))) h in
              called node f (map (λ e. e.0) args) (slice_get around.callees f) refl p.0 (all_right args (λ e. e.0) (λ e. e.1) p.1 r))
          | TExpr-F.Getchar node ↦ λ h r. getchar_right program vs node (one_sort (sort_of node.of) (ANumber I32) h)
          | TExpr-F.Putchar node a ↦ λ h r. (let p = and_parts (same (sort_of node.of) (ANumber I32)) (see around a.0).fits h in putchar_right program vs node (meaning a.0) (one_sort (sort_of node.of) (ANumber I32) p.0) (a.1 p.1 r))
          | TExpr-F.Puts node a ↦ λ h r. (let p = and_parts (same (sort_of node.of) (ANumber I32)) (see around a.0).fits h in puts_right program vs node (meaning a.0) (one_sort (sort_of node.of) (ANumber I32) p.0))
          | TExpr-F.Printf node format args ↦ λ h r. (
              let p = and_parts (same (sort_of node.of) (ANumber I32)) (all_fit (map (see around) (map (λ e. e.0) args))) h in
              let w = and_parts (nat_le (most_written format) 2147483647) (all_stand (map ranged (map (λ e. e.0) args))) r in
              printf_right program vs node format (map meaning (map (λ e. e.0) args)) (one_sort (sort_of node.of) (ANumber I32) p.0) (most_is (most_written format) 2147483647 w.0) (all_right args (λ e. e.0) (λ e. e.1) p.1 w.1))
          | TExpr-F.Post node by a ↦ λ h r. (
              let p = and_parts (change_fits by (sort_of node.of)) ((same (sort_of node.of) (see around a.0).of) && (see around a.0).fits) h in let q = and_parts (same (sort_of node.of) (see around a.0).of) (see around a.0).fits p.1 in
              post_right program vs node by (meaning a.0) (some_sort (sort_of node.of) (see around a.0).of q.0) p.0 (to_sort node a.0 q.0) (a.1 q.1 r))
          | TExpr-F.Pre node by a ↦ λ h r. (
              let p = and_parts (change_fits by (sort_of node.of)) ((same (sort_of node.of) (see around a.0).of) && (see around a.0).fits) h in let q = and_parts (same (sort_of node.of) (see around a.0).of) (see around a.0).fits p.1 in
              pre_right program vs node by (meaning a.0) (some_sort (sort_of node.of) (see around a.0).of q.0) p.0 (to_sort node a.0 q.0) (a.1 q.1 r))
          | TExpr-F.Address node a ↦ λ h r. (let p = and_parts (points (sort_of node.of) (see around a.0).of) (see around a.0).fits h in address_right program vs node (meaning a.0) (points_to (sort_of node.of) (see around a.0).of p.0 ∙ ap (λ (s : Sort). APointer (kind_in s)) (see_sort a.0)) (a.1 p.1 r))
          | TExpr-F.Deref node a ↦ λ h r. (let p = and_parts (points (see around a.0).of (sort_of node.of)) (see around a.0).fits h in deref_right program vs node (meaning a.0) (sym (see_sort a.0) ∙ points_to (see around a.0).of (sort_of node.of) p.0) (a.1 p.1 r))
          | TExpr-F.Plus node a ↦ λ h r. (let p = and_parts (same (sort_of node.of) (see around a.0).of) (see around a.0).fits h in plus_right program vs node (meaning a.0) (to_sort node a.0 p.0) (a.1 p.1 r))
          | TExpr-F.Unary node op kind a ↦ λ h r. (let p = and_parts (unary_fits op kind (sort_of node.of)) (see around a.0).fits h in unary_right program vs node op kind (meaning a.0) p.0 (a.1 p.1 r))
          | TExpr-F.Convert node a ↦ λ h r. (let p = and_parts (is_number (sort_of node.of)) (see around a.0).fits h in convert_right program vs node (meaning a.0) p.0 (a.1 p.1 r))
          | TExpr-F.Cast node a ↦ λ h r. (let p = and_parts (cast_fits (sort_of node.of) (see around a.0).of) (see around a.0).fits h in cast_right program vs node (meaning a.0) (subst (λ (s : Sort). cast_fits (sort_of node.of) s ≡ true) (see_sort a.0) p.0) (a.1 p.1 r))
          | TExpr-F.Binary node op kind a b ↦ λ h r. (
              let p = and_parts (binary_fits op kind (sort_of node.of)) ((see around a.0).fits && (see around b.0).fits) h in let q = and_parts (see around a.0).fits (see around b.0).fits p.1 in let w = and_parts (ranged a.0) (ranged b.0) r in
              binary_right program vs node op kind (meaning a.0) (meaning b.0) p.0 (a.1 q.0 w.0) (b.1 q.1 w.1))
          | TExpr-F.Both node a b ↦ λ h r. (
              let p = and_parts (is_number (sort_of node.of)) ((see around a.0).fits && (see around b.0).fits) h in let q = and_parts (see around a.0).fits (see around b.0).fits p.1 in let w = and_parts (ranged a.0) (ranged b.0) r in
              both_right program vs node (meaning a.0) (meaning b.0) p.0 (a.1 q.0 w.0) (b.1 q.1 w.1))
          | TExpr-F.Either node a b ↦ λ h r. (
              let p = and_parts (is_number (sort_of node.of)) ((see around a.0).fits && (see around b.0).fits) h in let q = and_parts (see around a.0).fits (see around b.0).fits p.1 in let w = and_parts (ranged a.0) (ranged b.0) r in
              either_right program vs node (meaning a.0) (meaning b.0) p.0 (a.1 q.0 w.0) (b.1 q.1 w.1))
          | TExpr-F.Forward node a b ↦ λ h r. (
              let p = and_parts (same (sort_of node.of) (see around a.0).of) (is_pointer (sort_of node.of) && ((see around a.0).fits && (see around b.0).fits)) h in let o = and_parts (is_pointer (sort_of node.of)) ((see around a.0).fits && (see around b.0).fits) p.1 in
              let q = and_parts (see around a.0).fits (see around b.0).fits o.1 in let w = and_parts (ranged a.0) (ranged b.0) r in
              forward_right program vs node (meaning a.0) (meaning b.0) (to_sort node a.0 p.0) o.0 (a.1 q.0 w.0) (b.1 q.1 w.1))
          | TExpr-F.Onto node a b ↦ λ h r. (
              let p = and_parts (same (sort_of node.of) (see around b.0).of) (is_pointer (sort_of node.of) && ((see around a.0).fits && (see around b.0).fits)) h in let o = and_parts (is_pointer (sort_of node.of)) ((see around a.0).fits && (see around b.0).fits) p.1 in
              let q = and_parts (see around a.0).fits (see around b.0).fits o.1 in let w = and_parts (ranged a.0) (ranged b.0) r in
              onto_right program vs node (meaning a.0) (meaning b.0) (to_sort node b.0 p.0) o.0 (a.1 q.0 w.0) (b.1 q.1 w.1))
          | TExpr-F.Back node a b ↦ λ h r. (
              let p = and_parts (same (sort_of node.of) (see around a.0).of) (is_pointer (sort_of node.of) && ((see around a.0).fits && (see around b.0).fits)) h in let o = and_parts (is_pointer (sort_of node.of)) ((see around a.0).fits && (see around b.0).fits) p.1 in
              let q = and_parts (see around a.0).fits (see around b.0).fits o.1 in let w = and_parts (ranged a.0) (ranged b.0) r in
              back_right program vs node (meaning a.0) (meaning b.0) (to_sort node a.0 p.0) o.0 (a.1 q.0 w.0) (b.1 q.1 w.1))
          | TExpr-F.PtrCompare node op a b ↦ λ h r. (
              let p = and_parts (is_number (sort_of node.of)) ((see around a.0).fits && (see around b.0).fits) h in let q = and_parts (see around a.0).fits (see around b.0).fits p.1 in let w = and_parts (ranged a.0) (ranged b.0) r in
              compare_right program vs node op (meaning a.0) (meaning b.0) p.0 (a.1 q.0 w.0) (b.1 q.1 w.1))
          | TExpr-F.PtrDistance node a b ↦ λ h r. (
              let p = and_parts (same (sort_of node.of) (ANumber I64)) ((is_pointer (see around a.0).of && is_pointer (see around b.0).of) && ((see around a.0).fits && (see around b.0).fits)) h in
              let o = and_parts (is_pointer (see around a.0).of && is_pointer (see around b.0).of) ((see around a.0).fits && (see around b.0).fits) p.1 in let u = and_parts (is_pointer (see around a.0).of) (is_pointer (see around b.0).of) o.0 in
              let q = and_parts (see around a.0).fits (see around b.0).fits o.1 in let w = and_parts (ranged a.0) (ranged b.0) r in
              distance_right program vs node (meaning a.0) (meaning b.0) (one_sort (sort_of node.of) (ANumber I64) p.0) (subst (λ (s : Sort). is_pointer s ≡ true) (see_sort a.0) u.0)
              (subst (λ (s : Sort). is_pointer s ≡ true) (see_sort b.0) u.1) (a.1 q.0 w.0) (b.1 q.1 w.1))
          | TExpr-F.Cond node a b c ↦ λ h r. (
              let p = and_parts (unused_or (sort_of node.of) ((same (sort_of node.of) (see around b.0).of) && (same (sort_of node.of) (see around c.0).of))) ((see around a.0).fits && ((see around b.0).fits && (see around c.0).fits)) h in
              let u = unused_both (sort_of node.of) (same (sort_of node.of) (see around b.0).of) (same (sort_of node.of) (see around c.0).of) p.0 in
              let q = and_parts (see around a.0).fits ((see around b.0).fits && (see around c.0).fits) p.1 in let o = and_parts (see around b.0).fits (see around c.0).fits q.1 in
              let w = and_parts (ranged a.0) ((ranged b.0) && (ranged c.0)) r in let v = and_parts (ranged b.0) (ranged c.0) w.1 in
              cond_right program vs node (meaning a.0) (meaning b.0) (meaning c.0) (subst (λ (s : Sort). unused_or (sort_of node.of) (same (sort_of node.of) s) ≡ true) (see_sort b.0) u.0)
              (subst (λ (s : Sort). unused_or (sort_of node.of) (same (sort_of node.of) s) ≡ true) (see_sort c.0) u.1) (a.1 q.0 w.0) (b.1 o.0 v.0) (c.1 o.1 v.1))
          | TExpr-F.Assign node a b ↦ λ h r. (
              let p = and_parts (same (sort_of node.of) (see around a.0).of) ((same (sort_of node.of) (see around b.0).of) && ((see around a.0).fits && (see around b.0).fits)) h in let o = and_parts (same (sort_of node.of) (see around b.0).of) ((see around a.0).fits && (see around b.0).fits) p.1 in
              let q = and_parts (see around a.0).fits (see around b.0).fits o.1 in let w = and_parts (ranged a.0) (ranged b.0) r in
              assign_right program vs node (meaning a.0) (meaning b.0) (some_sort (sort_of node.of) (see around a.0).of p.0) (to_sort node a.0 p.0) (to_sort node b.0 o.0) (a.1 q.0 w.0) (b.1 q.1 w.1))
          | TExpr-F.AssignBy node by a b ↦ λ h r. (
              let p = and_parts (change_fits by (sort_of node.of)) ((same (sort_of node.of) (see around a.0).of) && ((see around a.0).fits && (see around b.0).fits)) h in let o = and_parts (same (sort_of node.of) (see around a.0).of) ((see around a.0).fits && (see around b.0).fits) p.1 in
              let q = and_parts (see around a.0).fits (see around b.0).fits o.1 in let w = and_parts (ranged a.0) (ranged b.0) r in
              assign_by_right program vs node by (meaning a.0) (meaning b.0) (some_sort (sort_of node.of) (see around a.0).of o.0) p.0 (to_sort node a.0 o.0) (a.1 q.0 w.0) (b.1 q.1 w.1))
          | TExpr-F.Comma node a b ↦ λ h r. (
              let p = and_parts (unused_or (sort_of node.of) (same (sort_of node.of) (see around b.0).of)) ((see around a.0).fits && (see around b.0).fits) h in let q = and_parts (see around a.0).fits (see around b.0).fits p.1 in let w = and_parts (ranged a.0) (ranged b.0) r in
              comma_right program vs node (meaning a.0) (meaning b.0) (subst (λ (s : Sort). unused_or (sort_of node.of) (same (sort_of node.of) s) ≡ true) (see_sort b.0) p.0) (a.1 q.0 w.0) (b.1 q.1 w.1))
        ]) in
        subst (IsRightMeaning vs) (sym (fold-roll-TExpr Meaning step x))
        (parts (sym (ap (λ (s : Seen). s.fits) (fold-roll-TExpr Seen (expr_step around) x)) ∙ fits) (sym (fold-roll-TExpr Bool (ranges.expr_step (length program.unit.strings)) x) ∙ range)))
