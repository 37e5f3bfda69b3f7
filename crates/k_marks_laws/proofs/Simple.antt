-- `s = s op e` combines s with the value of e.
use Rattle.std.proofs.Common.{◌≡◌, ℕ, ◌≤◌, ℤ, List, [], ◌∷◌, map, Option, Some, None, Ok, Bool, true, false, refl, sym, ◌∙◌, ap, subst, slice_get}
use Rattle.std.specs.List.{fold}
use Rattle.k_num.specs.declared.numbers.Bin.{Bin}
use Rattle.k_num.specs.declared.numbers.Kind.{Kind}
use Rattle.k_num.specs.declared.place.Place.{Place}
use Rattle.k_num.specs.Arithmetic.{value}
use Rattle.k_num.specs.Combining.{combined}
use Rattle.k_num.specs.Kind.{width, converted}
use Rattle.k_num.proofs.KindLaws.{converted-converted}
use Rattle.k_optab.specs.declared.class.Class.TheVariants as class
use Rattle.k_types_meaning.specs.declared.types.TType.TheVariants as ttype
use Rattle.k_types_meaning.specs.declared.tree.expression.Node.{Node}
use Rattle.k_world.specs.declared.act.Act.TheVariants as act
use Rattle.k_world.specs.declared.value.Held.{Held}
use Rattle.k_world.specs.declared.value.Value.{Value}
use Rattle.k_world.specs.declared.value.Value.TheVariants.{Number, Pointer}
use Rattle.k_world.specs.Acts.{Given, work, right_kind}
use Rattle.k_world.specs.Operands.{values_of, value_in}
use Rattle.k_marks_meaning.specs.declared.uses.Group.{Group}
use Rattle.k_marks_meaning.specs.Reductions.{group_of}
use Rattle.k_evaluation.specs.declared.operand.Operand.{Operand}
use Rattle.k_evaluation.specs.declared.operand.Operand.TheVariants.{Holding, Register}
use Rattle.k_evaluation.specs.declared.operand.Target.{Target}
use Rattle.k_evaluation.specs.declared.operand.Target.TheVariants.{InRegister}
use Rattle.k_evaluation.specs.States.{Program, State, Outcome, Goes, Stops, follow, gives, held_by, read, makes}
use Rattle.k_evaluation.specs.Meanings.{Meaning, behind_one}
use Rattle.k_evaluation.specs.Operators.{binary, binary_on, convert, converts}
use Rattle.k_evaluation.specs.Assignments.{assign, behind_place, writes}
use Rattle.k_marks_laws.specs.Turns.{HoldsNumber}
use Rattle.k_marks_laws.specs.Counted.{signed}
use Rattle.k_marks_laws.specs.Contributions.{after, number_by}
use Rattle.k_marks_laws.specs.Reduced.{combining}
use Rattle.k_marks_laws.proofs.Parts.{Kept, Keeps, Any}
use Rattle.k_marks_laws.proofs.Values.{value_by, read_value, MakesValue, makes_value, ComputesAt, binary_number, converted_value, converts_number, modular_right, value_kept, value_combined}
use Rattle.k_marks_laws.proofs.Steps.{Reaches, writes_reach}
use Rattle.k_marks_laws.proofs.Tested.{convert_value}
use Rattle.k_marks_laws.proofs.Reducing.{combined_signed, group_modular, Never, NoNumber, binary_never}

-- s as an operand: wherever s holds x, it is a number that is x in the kind of the operation
abbrev pub IsSide : ℕ → ℤ → Kind → Operand → Type 0
IsSide n x wide a = (t : State) → HoldsNumber t n x → (z : ℤ) × (value_by t.vars a ≡ Some (Number z)) × (converted wide z ≡ converted wide x)

abbrev pub Sides : ℕ → ℤ → Kind → Outcome Operand → Type 0
Sides n x wide (Goes a t) = HoldsNumber t n x × IsSide n x wide a
Sides n x wide (Stops end w) = Unit {0}

module _ (program : Program) (place : Place) (n : ℕ) (wide : Kind) (op : Bin) (group : Group) (grouped : group_of op ≡ Some group) (x : ℤ) where
  -- WHAT THE OPERATION COMES TO: s is as before, one number is contributed, and the operation gave this
  abbrev pub Operated : List ℤ → Outcome Operand → Type 0
  Operated zs (Goes v t) =
      HoldsNumber t n x × (y : ℤ) × (zs ≡ signed op y ∷ []) × (z : ℤ) × (value_by t.vars v ≡ Some (Number z)) × (value op wide (converted wide x) (converted wide y) ≡ Ok z)
  Operated zs (Stops end w) = Unit {0}

  operated_of : (a1 y : ℤ) (t : State) (o : Outcome Operand) → converted wide a1 ≡ converted wide x → HoldsNumber t n x
      → ComputesAt t.vars (λ z. value op wide (converted wide a1) (converted (right_kind op wide) y) ≡ Ok z) o → Operated (signed op y ∷ []) o
  operated_of a1 y t (Goes v u) same there h = (
    subst (λ (vars : List (Option Held)). value_in (held_by (slice_get vars n)) ≡ Some (Number x)) (sym h.0) there,
    y,
    refl,
    h.1,
    subst (λ (vars : List (Option Held)). value_by vars v ≡ Some (Number h.1)) (sym h.0) h.2,
    ap (λ (k : ℤ). value op wide k (converted wide y)) (sym same)
        ∙ (ap (λ (k : Kind). value op wide (converted wide a1) (converted k y)) (sym (modular_right op wide (group_modular op group grouped))) ∙ h.3),
  )
  operated_of a1 y t (Stops end w) same there h = tt

  never_operated : (zs : List ℤ) (o : Outcome Operand) → Never o → Operated zs o
  never_operated zs (Goes v t) h = absurd h
  never_operated zs (Stops end w) h = tt

  on_both : (a b : Operand) (t : State) (o : Option Value) → value_by t.vars b ≡ o → IsSide n x wide a → HoldsNumber t n x → Operated (number_by op o) (binary_on program place op wide a b t)
  on_both a b t (Some (Number y)) is side there =
      let here = side t there in
      operated_of here.0 y t (binary_on program place op wide a b t) here.2 there (binary_number t.vars program place op wide a b here.0 y here.1 is t refl)
  on_both a b t None is side there = never_operated [] (binary_on program place op wide a b t) (binary_never program place op wide a b t (subst NoNumber (sym is) tt))
  on_both a b t (Some (Pointer p)) is side there = never_operated [] (binary_on program place op wide a b t) (binary_never program place op wide a b t (subst NoNumber (sym is) tt))

  right_operated : (a : Operand) (u : State) (o : Outcome Operand) → Kept n Any u o → HoldsNumber u n x → IsSide n x wide a
      → Operated (after o (λ b t. number_by op (value_in (read t b).slot))) (follow o (binary_on program place op wide a))
  right_operated a u (Goes b t) kept there side =
      on_both a b t (value_in (read t b).slot) (sym (read_value t b)) side (ap (λ (slot : Option Held). value_in slot) kept.0 ∙ there)
  right_operated a u (Stops end w) kept there side = tt

  left_operated : (right : Meaning) (o : Outcome Operand) → Keeps n Any (right.value true) → Sides n x wide o
      → Operated (after o (λ a u. after (right.value true u) (λ b t. number_by op (value_in (read t b).slot)))) (follow o (behind_one right (binary_on program place op wide)))
  left_operated right (Goes a u) kept sides = right_operated a u (right.value true u) (kept u) sides.0 sides.1
  left_operated right (Stops end w) kept sides = tt

  pub binary_operated : (node : Node) (left right : Meaning) (s : State) → node.place ≡ place → Keeps n Any (right.value true) → Sides n x wide (left.value true s)
      → Operated (after (left.value true s) (λ a u. after (right.value true u) (λ b t. number_by op (value_in (read t b).slot)))) ((binary program node op wide left right).value true s)
  unfolding binary
  binary_operated node left right s same kept sides =
      subst (λ (p : Place). Operated (after (left.value true s) (λ a u. after (right.value true u) (λ b t. number_by op (value_in (read t b).slot))))
      (follow (left.value true s) (behind_one right (binary_on program p op wide)))) (sym same) (left_operated right (left.value true s) kept sides)

  module _ (kind : Kind) (wider : width kind ≤ width wide) where
    -- what the number that was contributed makes of s
    abbrev after_one : List ℤ → ℤ
    after_one zs = fold (combined (combining group) kind) x zs

    one_added : (zs : List ℤ) (y z : ℤ) → zs ≡ signed op y ∷ [] → z ≡ combined op kind x y → z ≡ after_one zs
    one_added zs y z is same = same ∙ (combined_signed op group kind x y grouped ∙ ap after_one (sym is))

    -- the result is written as it is, where it is made in the kind of s
    direct_reaches : (at_place : Place) (broken : Bool) (zs : List ℤ) (o : Outcome Operand) → wide ≡ kind → Operated zs o
        → Reaches n (after_one zs) (follow o (writes program at_place (InRegister n broken)))
    direct_reaches at_place broken zs (Goes v t) same h =
        let y : ℤ = h.1 in
        let z : ℤ = h.3 in
        let combined_is : z ≡ combined op kind x y =
        sym (value_kept op kind wide x y z (group_modular op group grouped) same h.5) ∙ value_combined op kind wide x y z (group_modular op group grouped) wider h.5 in
        subst (λ (k : ℤ). Reaches n k (writes program at_place (InRegister n broken) v t)) (one_added zs y z h.2 combined_is)
        (writes_reach program at_place n broken v (Number x) z t h.0 h.4)
    direct_reaches at_place broken zs (Stops end w) same h = tt

    -- or converted first
    converted_reaches : (at_place : Place) (broken : Bool) (zs : List ℤ) (y z : ℤ) (t : State) (o : Outcome Operand) → HoldsNumber t n x → zs ≡ signed op y ∷ []
        → value op wide (converted wide x) (converted wide y) ≡ Ok z → ComputesAt t.vars (λ k. k ≡ converted kind z) o → Reaches n (after_one zs) (follow o (writes program at_place (InRegister n broken)))
    converted_reaches at_place broken zs y z t (Goes v u) there is gave h =
        subst (λ (k : ℤ). Reaches n k (writes program at_place (InRegister n broken) v u))
        (one_added zs y h.1 is (h.3 ∙ value_combined op kind wide x y z (group_modular op group grouped) wider gave))
        (writes_reach program at_place n broken v (Number x) h.1 u
        (subst (λ (vars : List (Option Held)). value_in (held_by (slice_get vars n)) ≡ Some (Number x)) (sym h.0) there)
        (subst (λ (vars : List (Option Held)). value_by vars v ≡ Some (Number h.1)) (sym h.0) h.2))
    converted_reaches at_place broken zs y z t (Stops end w) there is gave h = tt

    through_reaches : (at_place convert_place : Place) (broken : Bool) (zs : List ℤ) (o : Outcome Operand) → Operated zs o
        → Reaches n (after_one zs) (follow (follow o (converts program convert_place (Some kind))) (writes program at_place (InRegister n broken)))
    through_reaches at_place convert_place broken zs (Goes v t) h =
        converted_reaches at_place broken zs h.1 h.3 t (converts program convert_place (Some kind) v t) h.0 h.2 h.5 (converts_number t.vars program convert_place kind v h.3 h.4 t refl)
    through_reaches at_place convert_place broken zs (Stops end w) h = tt

-- THE LEFT SIDE `s`, or s converted to the kind of the operation
module _ (program : Program) (n : ℕ) (wide : Kind) (x : ℤ) where
  pub register_sides : (broken : Bool) (s : State) → HoldsNumber s n x → Sides n x wide (Goes (Register n broken) s)
  register_sides broken s there = (there, λ t there_too. (x, there_too, refl))

  converted_sides : (s : State) (r : Given) (o : Outcome Held) → HoldsNumber s n x → MakesValue s r o → ((v : Value) → r ≡ Ok v → v ≡ Number (converted wide x))
      → Sides n x wide (follow o (λ held. gives (Holding held)))
  converted_sides s r (Goes held t) there h from = (
    subst (λ (vars : List (Option Held)). value_in (held_by (slice_get vars n)) ≡ Some (Number x)) (sym h.0) there,
    λ u there_too. (converted wide x, ap Some (from held.value h.1), converted-converted wide x),
  )
  converted_sides s r (Stops end w) there h from = tt

  pub convert_sides : (place : Place) (broken : Bool) (s : State) → HoldsNumber s n x → Sides n x wide (converts program place (Some wide) (Register n broken) s)
  convert_sides place broken s there =
      converted_sides s (work (act.Convert wide) (values_of (map (read s) (Register n broken ∷ []))) s.world) (makes program class.Conv place (act.Convert wide) (Register n broken ∷ []) s)
      there (makes_value program class.Conv place (act.Convert wide) (Register n broken ∷ []) s) (λ v gave. converted_value s wide (Register n broken) x v there gave)

-- AN ASSIGNMENT to a register writes what its right side gives
assigned_reaches : (program : Program) (node : Node) (left right : Meaning) (n : ℕ) (broken : Bool) (z : ℤ) (s : State) → left.place s ≡ Goes (InRegister n broken) s
    → Reaches n z (follow (right.value true s) (writes program node.place (InRegister n broken))) → Reaches n z ((assign program node left right).value false s)
unfolding assign
assigned_reaches program node left right n broken z s here h =
    subst (λ (o : Outcome Target). Reaches n z (follow o (behind_place program node.place right))) (sym here) h

-- `s = s op e`, whose operation is made in the kind of s
pub direct_folds : (program : Program) (node inner : Node) (left first second : Meaning) (n : ℕ) (kind wide : Kind) (op : Bin) (group : Group) (grouped : group_of op ≡ Some group)
    (broken : Bool) (x : ℤ) (s : State) → wide ≡ kind → width kind ≤ width wide → left.place s ≡ Goes (InRegister n broken) s → Keeps n Any (second.value true)
    → Sides n x wide (first.value true s)
    → Reaches n (fold (combined (combining group) kind) x (after (first.value true s) (λ a u. after (second.value true u) (λ b t. number_by op (value_in (read t b).slot)))))
    ((assign program node left (binary program inner op wide first second)).value false s)
direct_folds program node inner left first second n kind wide op group grouped broken x s same wider here kept sides =
    let zs : List ℤ = after (first.value true s) (λ a u. after (second.value true u) (λ b t. number_by op (value_in (read t b).slot))) in
    assigned_reaches program node left (binary program inner op wide first second) n broken (fold (combined (combining group) kind) x zs) s here
    (direct_reaches program inner.place n wide op group grouped x kind wider node.place broken zs ((binary program inner op wide first second).value true s) same
    (binary_operated program inner.place n wide op group grouped x inner first second s refl kept sides))

-- or in another one
pub through_folds : (program : Program) (node outer inner : Node) (left first second : Meaning) (n : ℕ) (kind wide : Kind) (op : Bin) (group : Group) (grouped : group_of op ≡ Some group)
    (broken : Bool) (x : ℤ) (s : State) → outer.of ≡ ttype.Number kind → width kind ≤ width wide → left.place s ≡ Goes (InRegister n broken) s → Keeps n Any (second.value true)
    → Sides n x wide (first.value true s)
    → Reaches n (fold (combined (combining group) kind) x (after (first.value true s) (λ a u. after (second.value true u) (λ b t. number_by op (value_in (read t b).slot)))))
    ((assign program node left (convert program outer (binary program inner op wide first second))).value false s)
through_folds program node outer inner left first second n kind wide op group grouped broken x s of wider here kept sides =
    let zs : List ℤ = after (first.value true s) (λ a u. after (second.value true u) (λ b t. number_by op (value_in (read t b).slot))) in
    let whole : Meaning = binary program inner op wide first second in
    assigned_reaches program node left (convert program outer whole) n broken (fold (combined (combining group) kind) x zs) s here
    (subst (λ (o : Outcome Operand). Reaches n (fold (combined (combining group) kind) x zs) (follow o (writes program node.place (InRegister n broken))))
    (sym (convert_value program outer kind whole s of))
    (through_reaches program inner.place n wide op group grouped x kind wider node.place outer.place broken zs (whole.value true s)
    (binary_operated program inner.place n wide op group grouped x inner first second s refl kept sides)))
