-- A statement that reduces a variable combines it with the value of its other operand.
use Rattle.std.proofs.Common.{◌≡◌, ℕ, ◌≤◌, ℤ, List, [], ◌∷◌, map, Option, Some, None, Ok, Bool, true, false, if◌then◌else◌, refl, sym, ◌∙◌, ap, subst}
use Rattle.std.specs.List.{fold}
use Rattle.k_num.specs.declared.numbers.Bin.{Bin}
use Rattle.k_num.specs.declared.numbers.Bin.TheVariants.{Add, Sub, Mul, And, Or, Xor}
use Rattle.k_num.specs.declared.numbers.Kind.{Kind}
use Rattle.k_num.specs.declared.place.Place.{Place}
use Rattle.k_num.specs.Combining.{combined, is_modular}
use Rattle.k_num.specs.Kind.{width, converted}
use Rattle.k_num.proofs.Combining.{difference_is_sum}
use Rattle.k_optab.specs.declared.class.Class.TheVariants as class
use Rattle.k_types_meaning.specs.declared.types.TType.TheVariants as ttype
use Rattle.k_types_meaning.specs.declared.tree.expression.Change.TheVariants as change
use Rattle.k_types_meaning.specs.declared.tree.expression.Node.{Node}
use Rattle.k_types_meaning.specs.Types.{same_kind}
use Rattle.k_world.specs.declared.act.Act.TheVariants as act
use Rattle.k_world.specs.declared.value.Held.{Held}
use Rattle.k_world.specs.declared.value.Value.{Value}
use Rattle.k_world.specs.declared.value.Value.TheVariants.{Number, Pointer}
use Rattle.k_world.specs.Acts.{Given, work}
use Rattle.k_world.specs.Operands.{values_of, value_in}
use Rattle.k_world.specs.Worlds.{World}
use Rattle.k_marks_meaning.specs.declared.uses.Group.{Group}
use Rattle.k_marks_meaning.specs.declared.uses.Group.TheVariants.{Sums, Products, Ands, Ors, Xors}
use Rattle.k_marks_meaning.specs.Reductions.{group_of}
use Rattle.k_marks_meaning.specs.Loops.{same_group}
use Rattle.k_evaluation.specs.declared.operand.Operand.{Operand}
use Rattle.k_evaluation.specs.declared.operand.Operand.TheVariants.{Holding, Register}
use Rattle.k_evaluation.specs.declared.operand.Target.{Target}
use Rattle.k_evaluation.specs.declared.operand.Target.TheVariants.{InRegister}
use Rattle.k_evaluation.specs.States.{Program, State, Outcome, Goes, Stops, Part, follow, ◌>>=◌, gives, read, makes}
use Rattle.k_evaluation.specs.Meanings.{Meaning, kind_of}
use Rattle.k_evaluation.specs.Operators.{converts, binary_on, class_of}
use Rattle.k_evaluation.specs.Assignments.{assign_by, writes, behind_changed, changes_old, converts_between, converts_side, converts_back, side_kind, combined as combines}
use Rattle.k_marks_laws.specs.Turns.{HoldsNumber}
use Rattle.k_marks_laws.specs.Counted.{signed}
use Rattle.k_marks_laws.specs.Contributions.{after, number_by}
use Rattle.k_marks_laws.specs.Reduced.{combining}
use Rattle.k_marks_laws.proofs.Parts.{Kept, Keeps, Any}
use Rattle.k_marks_laws.proofs.Values.{value_by, read_value, before_value, value_before_is, MakesValue, makes_value, ComputesAt, side_number}
use Rattle.k_marks_laws.proofs.Steps.{Reaches, changes_reach}

-- THE OPERATORS OF A GROUP combine as one of them does, with the number as it is signed
pub combined_signed : (op : Bin) (group : Group) (kind : Kind) (x y : ℤ) → group_of op ≡ Some group → combined op kind x y ≡ combined (combining group) kind x (signed op y)
combined_signed Add Sums kind x y is = refl
combined_signed Sub Sums kind x y is = difference_is_sum kind x y
combined_signed Mul Products kind x y is = refl
combined_signed And Ands kind x y is = refl
combined_signed Or Ors kind x y is = refl
combined_signed Xor Xors kind x y is = refl
combined_signed _ _ kind x y is = absurd cc

pub group_modular : (op : Bin) (group : Group) → group_of op ≡ Some group → is_modular op ≡ true
group_modular Add group is = refl
group_modular Sub group is = refl
group_modular Mul group is = refl
group_modular And group is = refl
group_modular Or group is = refl
group_modular Xor group is = refl
group_modular _ group is = absurd cc

pub one_group : (g h : Group) → same_group g h ≡ true → g ≡ h
one_group Sums Sums is = refl
one_group Products Products is = refl
one_group Ands Ands is = refl
one_group Ors Ors is = refl
one_group Xors Xors is = refl
one_group _ _ is = absurd cc

-- WHAT IS NO NUMBER can't be converted, nor combined
abbrev pub NoNumber : Option Value → Type 0
NoNumber None = Unit {0}
NoNumber (Some (Number z)) = ⊥
NoNumber (Some (Pointer p)) = Unit {0}

-- a part never goes on
abbrev pub Never : {A : Type 0} → Outcome A → Type 0
Never (Goes a t) = ⊥
Never (Stops end w) = Unit {0}

never_follow : {A B : Type 0} (o : Outcome A) (next : A → Part B) → Never o → Never (follow o next)
never_follow (Goes a t) next h = absurd h
never_follow (Stops end w) next h = tt

pub never_reaches : {A : Type 0} (n : ℕ) (z : ℤ) (o : Outcome A) → Never o → Reaches n z o
never_reaches n z (Goes a t) h = absurd h
never_reaches n z (Stops end w) h = tt

values_one : (s : State) (a : Operand) → values_of (map (read s) (a ∷ [])) ≡ before_value (value_by s.vars a) []
values_one s a = value_before_is (read s a).slot [] ∙ ap (λ (o : Option Value). before_value o []) (read_value s a)

values_two : (s : State) (a b : Operand) → values_of (map (read s) (a ∷ b ∷ [])) ≡ before_value (value_by s.vars a) (before_value (value_by s.vars b) [])
values_two s a b =
    value_before_is (read s a).slot (values_of (map (read s) (b ∷ [])))
    ∙ (λ i. before_value (read_value s a i) (values_one s b i))

convert_fails : (kind : Kind) (o : Option Value) (w : World) (v : Value) → NoNumber o → work (act.Convert kind) (before_value o []) w ≡ Ok v → ⊥
unfolding work
convert_fails kind None w v fails is = cc
convert_fails kind (Some (Number z)) w v fails is = fails
convert_fails kind (Some (Pointer p)) w v fails is = cc

binary_fails : (op : Bin) (kind : Kind) (a b : Option Value) (w : World) (v : Value) → NoNumber b → work (act.Binary op kind) (before_value a (before_value b [])) w ≡ Ok v → ⊥
unfolding work
binary_fails op kind None None w v fails is = cc
binary_fails op kind None (Some (Number z)) w v fails is = fails
binary_fails op kind None (Some (Pointer p)) w v fails is = cc
binary_fails op kind (Some x) None w v fails is = cc
binary_fails op kind (Some x) (Some (Number z)) w v fails is = fails
binary_fails op kind (Some (Number x)) (Some (Pointer p)) w v fails is = cc
binary_fails op kind (Some (Pointer x)) (Some (Pointer p)) w v fails is = cc

-- an operation whose act has no value never goes on
fails_never : (s : State) (r : Given) (o : Outcome Held) (next : Held → Part Operand) → MakesValue s r o → ((v : Value) → r ≡ Ok v → ⊥) → Never (follow o next)
fails_never s r (Goes held t) next h fails = absurd (fails held.value h.1)
fails_never s r (Stops end w) next h fails = tt

module _ (program : Program) (place : Place) where
  pub binary_never : (op : Bin) (kind : Kind) (a b : Operand) (s : State) → NoNumber (value_by s.vars b) → Never (binary_on program place op kind a b s)
  binary_never op kind a b s fails =
      fails_never s (work (act.Binary op kind) (values_of (map (read s) (a ∷ b ∷ []))) s.world) (makes program (class_of op) place (act.Binary op kind) (a ∷ b ∷ []) s)
      (λ held. gives (Holding held)) (makes_value program (class_of op) place (act.Binary op kind) (a ∷ b ∷ []) s)
      (λ v is. binary_fails op kind (value_by s.vars a) (value_by s.vars b) s.world v fails
      (ap (λ (vs : List Value). work (act.Binary op kind) vs s.world) (sym (values_two s a b)) ∙ is))

  convert_never : (kind : Kind) (a : Operand) (s : State) → NoNumber (value_by s.vars a) → Never (converts program place (Some kind) a s)
  convert_never kind a s fails =
      fails_never s (work (act.Convert kind) (values_of (map (read s) (a ∷ []))) s.world) (makes program class.Conv place (act.Convert kind) (a ∷ []) s)
      (λ held. gives (Holding held)) (makes_value program class.Conv place (act.Convert kind) (a ∷ []) s)
      (λ v is. convert_fails kind (value_by s.vars a) s.world v fails (ap (λ (vs : List Value). work (act.Convert kind) vs s.world) (sym (values_one s a)) ∙ is))

  -- what is no number stays so, or is never converted
  abbrev StaysNone : Outcome Operand → Type 0
  StaysNone (Goes b t) = NoNumber (value_by t.vars b)
  StaysNone (Stops end w) = Unit {0}

  none_of : (o : Outcome Operand) → Never o → StaysNone o
  none_of (Goes b t) h = absurd h
  none_of (Stops end w) h = tt

  between_none : (from to : Kind) (a : Operand) (s : State) → NoNumber (value_by s.vars a) → StaysNone (converts_between program place from to a s)
  between_none from to a s fails = by (same_kind from to)
    where
      by : (b : Bool) → StaysNone ((if b then gives a else converts program place (Some to) a) s)
      by true = fails
      by false = none_of (converts program place (Some to) a s) (convert_never to a s fails)

  side_none : (from : Option Kind) (to : Kind) (a : Operand) (s : State) → NoNumber (value_by s.vars a) → StaysNone (converts_side program place from to a s)
  side_none None to a s fails = fails
  side_none (Some from) to a s fails = between_none from to a s fails

  none_follow : (o : Outcome Operand) (next : Operand → Part Operand) → StaysNone o → ((b : Operand) (t : State) → NoNumber (value_by t.vars b) → Never (next b t)) → Never (follow o next)
  none_follow (Goes b t) next h each = each b t h
  none_follow (Stops end w) next h each = tt

  computed_never : (vars : List (Option Held)) (P : ℤ → Type 0) (o : Outcome Operand) (next : Operand → Part Operand) → ComputesAt vars P o
      → ((a : Operand) (t : State) → t.vars ≡ vars → Never (next a t)) → Never (follow o next)
  computed_never vars P (Goes a t) next h each = each a t h.0
  computed_never vars P (Stops end w) next h each = tt

  combines_never : (op : Bin) (wide : Kind) (of by_of : Option Kind) (old by : Operand) (x : ℤ) (s : State) → value_by s.vars old ≡ Some (Number x) → NoNumber (value_by s.vars by)
      → Never (combines program place op wide of by_of old by s)
  combines_never op wide of by_of old by x s is fails =
      computed_never s.vars (λ a. converted wide a ≡ converted wide x) (converts_side program place of wide old s)
      (λ a. converts_side program place by_of (side_kind op wide by_of) by >>= λ b. binary_on program place op wide a b >>= converts_back program place wide of)
      (side_number s.vars program place of wide old x is s refl)
      (λ a t same. none_follow (converts_side program place by_of (side_kind op wide by_of) by t) (λ b. binary_on program place op wide a b >>= converts_back program place wide of)
      (side_none by_of (side_kind op wide by_of) by t (subst (λ (vars : List (Option Held)). NoNumber (value_by vars by)) (sym same) fails))
      (λ b u none. never_follow (binary_on program place op wide a b u) (converts_back program place wide of) (binary_never op wide a b u none)))

-- A COMPOUND ASSIGNMENT `s op= e`
module _ (program : Program) (node : Node) (n : ℕ) (kind wide : Kind) (op : Bin) (group : Group) (grouped : group_of op ≡ Some group)
    (of : node.of ≡ ttype.Number kind) (wider : width kind ≤ width wide) where
  abbrev with_these : ℤ → List ℤ → ℤ
  with_these x zs = fold (combined (combining group) kind) x zs

  changed_folds : (broken : Bool) (by_of : Option Kind) (by : Operand) (x : ℤ) (s : State) (o : Option Value) → value_by s.vars by ≡ o → HoldsNumber s n x
      → Reaches n (with_these x (number_by op o)) (changes_old program node (change.Number op wide) by_of (InRegister n broken) by s)
  changed_folds broken by_of by x s (Some (Number y)) is there =
      subst (λ (z : ℤ). Reaches n z (changes_old program node (change.Number op wide) by_of (InRegister n broken) by s)) (combined_signed op group kind x y grouped)
      (changes_reach program node n broken kind wide op by_of by x y s (group_modular op group grouped) of wider there is)
  changed_folds broken by_of by x s None is there =
      never_reaches n x (changes_old program node (change.Number op wide) by_of (InRegister n broken) by s)
      (never_follow (combines program node.place op wide (kind_of node.of) by_of (Register n broken) by s) (writes program node.place (InRegister n broken))
      (combines_never program node.place op wide (kind_of node.of) by_of (Register n broken) by x s there (subst NoNumber (sym is) tt)))
  changed_folds broken by_of by x s (Some (Pointer p)) is there =
      never_reaches n x (changes_old program node (change.Number op wide) by_of (InRegister n broken) by s)
      (never_follow (combines program node.place op wide (kind_of node.of) by_of (Register n broken) by s) (writes program node.place (InRegister n broken))
      (combines_never program node.place op wide (kind_of node.of) by_of (Register n broken) by x s there (subst NoNumber (sym is) tt)))

  right_folds : (broken : Bool) (by_of : Option Kind) (x : ℤ) (s : State) (o : Outcome Operand) → Kept n Any s o → HoldsNumber s n x
      → Reaches n (with_these x (after o (λ a t. number_by op (value_in (read t a).slot)))) (follow o (changes_old program node (change.Number op wide) by_of (InRegister n broken)))
  right_folds broken by_of x s (Goes a t) kept there =
      changed_folds broken by_of a x t (value_in (read t a).slot) (sym (read_value t a)) (ap (λ (slot : Option Held). value_in slot) kept.0 ∙ there)
  right_folds broken by_of x s (Stops end w) kept there = tt

  pub compound_folds : (left right : Meaning) (broken : Bool) (x : ℤ) (s : State) → left.place s ≡ Goes (InRegister n broken) s → Keeps n Any (right.value true) → HoldsNumber s n x
      → Reaches n (with_these x (after (right.value true s) (λ a t. number_by op (value_in (read t a).slot)))) ((assign_by program node (change.Number op wide) left right).value false s)
  unfolding assign_by
  compound_folds left right broken x s here kept there =
      subst (λ (o : Outcome Target). Reaches n (with_these x (after (right.value true s) (λ a t. number_by op (value_in (read t a).slot)))) (follow o (behind_changed program node (change.Number op wide) right)))
      (sym here) (right_folds broken (kind_of right.node.of) x s (right.value true s) (kept s) there)
