-- Two runs of a part, where the variables hold the same values: what comes of both.
use Rattle.std.proofs.Common.{◌≡◌, ℕ, ℤ, List, [], ◌∷◌, map, Option, Some, None, Bool, true, false, if◌then◌else◌, refl, sym, ◌∙◌, ap, subst, slice_get}
use Rattle.k_num.specs.declared.place.Place.{Place}
use Rattle.k_num.specs.declared.numbers.Bin.{Bin}
use Rattle.k_num.specs.declared.numbers.Bin.TheVariants as bin
use Rattle.k_num.specs.declared.numbers.Kind.{Kind}
use Rattle.k_num.specs.declared.numbers.Un.{Un}
use Rattle.k_optab.specs.declared.class.Class.{Class}
use Rattle.k_optab.specs.declared.class.Class.TheVariants as class
use Rattle.k_ending.specs.declared.ending.End.{End}
use Rattle.k_types_meaning.specs.declared.types.TType.{TType}
use Rattle.k_types_meaning.specs.declared.types.TType.TheVariants as ttype
use Rattle.k_types_meaning.specs.declared.tree.expression.Node.{Node}
use Rattle.k_types_meaning.specs.declared.tree.unit.TVariable.{TVariable}
use Rattle.k_world.specs.declared.act.Act.{Act}
use Rattle.k_world.specs.declared.act.Act.TheVariants as act
use Rattle.k_world.specs.declared.value.Held.{Held}
use Rattle.k_world.specs.declared.value.Value.{Value}
use Rattle.k_world.specs.declared.value.Value.TheVariants.{Number}
use Rattle.k_world.specs.Acts.{Given, work}
use Rattle.k_world.specs.Operands.{values_of, value_in}
use Rattle.k_world.specs.Worlds.{World}
use Rattle.k_evaluation.specs.declared.operand.Operand.{Operand}
use Rattle.k_evaluation.specs.declared.operand.Operand.TheVariants.{Constant, Holding}
use Rattle.k_evaluation.specs.States.{Program, State, Outcome, Goes, Stops, Part, follow, ◌>>=◌, gives, held_by, read, makes, computes, control, controls, settled}
use Rattle.k_evaluation.specs.Meanings.{Meaning, nothing, behind_one, tests, holds, is_true, kind_of, value_at}
use Rattle.k_evaluation.specs.Places.{number, variable, variable_place, is_register}
use Rattle.k_evaluation.specs.Operators.{plus, unary, convert, cast, binary, both, either, cond, comma, unary_on, converts, cast_to, class_of, binary_on, truth_on, truth_of, behind_test, same_truth, kind_or_int, logical, moves, arm, arm_by}
use Rattle.k_marks_laws.proofs.Values.{value_by, read_value, before_value, value_before_is, MakesValue, makes_value, in_ok}

module _ (us vs : List (Option Held)) where
  -- what comes of both runs, where both go on: the variables are as before, and what is given is alike
  abbrev pub TwoAt : {A : Type 0} → (A → A → Type 0) → Outcome A → Outcome A → Type 0
  TwoAt R (Goes a s) (Goes b t) = (s.vars ≡ us) × (t.vars ≡ vs) × R a b
  TwoAt R (Goes a s) (Stops end w) = Unit {0}
  TwoAt R (Stops end w) other = Unit {0}

  abbrev pub Two : {A : Type 0} → (A → A → Type 0) → Part A → Part A → Type 0
  Two R p q = (s t : State) → s.vars ≡ us → t.vars ≡ vs → TwoAt R (p s) (q t)

  two_stopped : {A : Type 0} (R : A → A → Type 0) (o : Outcome A) (end : End) (w : World) → TwoAt R o (Stops end w)
  two_stopped R (Goes a s) end w = tt
  two_stopped R (Stops e v) end w = tt

  two_follow : {A B : Type 0} (R : A → A → Type 0) (Q : B → B → Type 0) (o r : Outcome A) (next then_ : A → Part B) → TwoAt R o r
      → ((a b : A) → R a b → Two Q (next a) (then_ b)) → TwoAt Q (follow o next) (follow r then_)
  two_follow R Q (Goes a s) (Goes b t) next then_ h k = k a b h.2 s t h.0 h.1
  two_follow R Q (Goes a s) (Stops end w) next then_ h k = two_stopped Q (next a s) end w
  two_follow R Q (Stops end w) other next then_ h k = tt

  -- ONE PART BEHIND ANOTHER
  two_bind : {A B : Type 0} (R : A → A → Type 0) (Q : B → B → Type 0) (p q : Part A) (next then_ : A → Part B) → Two R p q
      → ((a b : A) → R a b → Two Q (next a) (then_ b)) → Two Q (p >>= next) (q >>= then_)
  two_bind R Q p q next then_ first second s t su tv = two_follow R Q (p s) (q t) next then_ (first s t su tv) second

  -- operands with the same value, and operations that gave the same
  abbrev pub SameOperand : Operand → Operand → Type 0
  SameOperand a b = value_by us a ≡ value_by vs b

  abbrev SameHeld : Held → Held → Type 0
  SameHeld h k = h.value ≡ k.value

  abbrev pub Same : Part Operand → Part Operand → Type 0
  Same p q = Two SameOperand p q

  two_gives : (a b : Operand) → SameOperand a b → Same (gives a) (gives b)
  two_gives a b same s t su tv = (su, tv, same)

  -- several
  abbrev AllSame : List Operand → List Operand → Type 0
  AllSame [] [] = Unit {0}
  AllSame [] (b ∷ bs) = ⊥
  AllSame (a ∷ as_) [] = ⊥
  AllSame (a ∷ as_) (b ∷ bs) = SameOperand a b × AllSame as_ bs

  value_here : (ws : List (Option Held)) (s : State) (a : Operand) → s.vars ≡ ws → value_in (read s a).slot ≡ value_by ws a
  value_here ws s a same = read_value s a ∙ ap (λ (vars : List (Option Held)). value_by vars a) same

  same_values : (s t : State) (as_ bs : List Operand) → s.vars ≡ us → t.vars ≡ vs → AllSame as_ bs → values_of (map (read s) as_) ≡ values_of (map (read t) bs)
  same_values s t [] [] su tv same = refl
  same_values s t [] (b ∷ bs) su tv same = absurd same
  same_values s t (a ∷ as_) [] su tv same = absurd same
  same_values s t (a ∷ as_) (b ∷ bs) su tv same =
      value_before_is (read s a).slot (values_of (map (read s) as_))
      ∙ (λ i. before_value ((value_here us s a su ∙ (same.0 ∙ sym (value_here vs t b tv))) i) (same_values s t as_ bs su tv same.1 i))
      ∙ sym (value_before_is (read t b).slot (values_of (map (read t) bs)))

  -- AN OPERATION whose act looks at nothing but its operands
  abbrev IsPure : Act → Type 0
  IsPure what = (values : List Value) (w v : World) → work what values w ≡ work what values v

  two_made : (s t : State) (r q : Given) (o other : Outcome Held) → MakesValue s r o → MakesValue t q other → r ≡ q → s.vars ≡ us → t.vars ≡ vs → TwoAt SameHeld o other
  two_made s t r q (Goes h u) (Goes k v) one two same su tv = (one.0 ∙ su, two.0 ∙ tv, in_ok h.value k.value (sym one.1 ∙ (same ∙ two.1)))
  two_made s t r q (Goes h u) (Stops end w) one two same su tv = tt
  two_made s t r q (Stops end w) other one two same su tv = tt

  module _ (program : Program) where
    two_makes : (class : Class) (place : Place) (what : Act) (as_ bs : List Operand) → IsPure what → AllSame as_ bs
        → Two SameHeld (makes program class place what as_) (makes program class place what bs)
    two_makes class place what as_ bs pure same s t su tv =
        two_made s t (work what (values_of (map (read s) as_)) s.world) (work what (values_of (map (read t) bs)) t.world)
        (makes program class place what as_ s) (makes program class place what bs t) (makes_value program class place what as_ s) (makes_value program class place what bs t)
        (ap (λ (values : List Value). work what values s.world) (same_values s t as_ bs su tv same) ∙ pure (values_of (map (read t) bs)) s.world t.world) su tv

    two_computes : (class : Class) (place : Place) (what : Act) (as_ bs : List Operand) → IsPure what → AllSame as_ bs
        → Same (computes program class place what as_) (computes program class place what bs)
    two_computes class place what as_ bs pure same =
        two_bind SameHeld SameOperand (makes program class place what as_) (makes program class place what bs) (λ held. gives (Holding held)) (λ held. gives (Holding held))
        (two_makes class place what as_ bs pure same) (λ h k alike. two_gives (Holding h) (Holding k) (ap Some alike))

    -- where a test is alike
    two_if : (p q p1 q1 : Part Operand) (b c : Bool) → b ≡ c → Same p p1 → Same q q1 → Same (if b then p else q) (if c then p1 else q1)
    two_if p q p1 q1 b true is one two = subst (λ (d : Bool). Same (if d then p else q) p1) (sym is) one
    two_if p q p1 q1 b false is one two = subst (λ (d : Bool). Same (if d then p else q) q1) (sym is) two

    -- the control source is as before
    two_settled : (p q : Part Operand) → Same p q → Same (settled false p) (settled false q)
    two_settled p q same =
        two_bind (λ c d. Unit {0}) SameOperand control control (λ c. p >>= λ a. controls c >>= λ done. gives a) (λ c. q >>= λ a. controls c >>= λ done. gives a)
        (λ s t su tv. (su, tv, tt))
        (λ c d alike. two_bind SameOperand SameOperand p q (λ a. controls c >>= λ done. gives a) (λ a. controls d >>= λ done. gives a) same
        (λ a b alike_too s t su tv. (su, tv, alike_too)))

    -- AN EXPRESSION comes to the same
    abbrev pub SameMeaning : Meaning → Type 0
    SameMeaning e = (used : Bool) → Same (e.value used) (e.value used)

    two_nothing : Same (gives nothing) (gives nothing)
    two_nothing = two_gives nothing nothing refl

    two_unused : (e : Meaning) → SameMeaning e → Same (e.value false >>= λ a. gives nothing) (e.value false >>= λ a. gives nothing)
    two_unused e same =
        two_bind SameOperand SameOperand (e.value false) (e.value false) (λ a. gives nothing) (λ a. gives nothing) (same false) (λ a b alike. two_nothing)

    two_behind : (e : Meaning) (f : Operand → Part Operand) → SameMeaning e → ((a b : Operand) → SameOperand a b → Same (f a) (f b)) → Same (e.value true >>= f) (e.value true >>= f)
    two_behind e f same each = two_bind SameOperand SameOperand (e.value true) (e.value true) f f (same true) each

    pub same_number : (node : Node) (z : ℤ) → SameMeaning (number node z)
    unfolding number
    same_number node z used = two_gives (Constant (Number z)) (Constant (Number z)) refl

    variable_at_same : (node : Node) (n : ℕ) (used b : Bool) → b ≡ true → value_in (held_by (slice_get us n)) ≡ value_in (held_by (slice_get vs n))
        → Same (variable_place program node n b >>= value_at program node used) (variable_place program node n b >>= value_at program node used)
    variable_at_same node n used true is same s t su tv = (su, tv, same)
    variable_at_same node n used false is same s t su tv = absurd cc

    pub same_variable : (vars : List TVariable) (node : Node) (n : ℕ) → is_register vars n ≡ true → value_in (held_by (slice_get us n)) ≡ value_in (held_by (slice_get vs n))
        → SameMeaning (variable program vars node n)
    unfolding variable
    same_variable vars node n register same used = variable_at_same node n used (is_register vars n) register same

    pub same_plus : (node : Node) (e : Meaning) → SameMeaning e → SameMeaning (plus node e)
    unfolding plus
    same_plus node e same = same

    unary_pure : (op : Un) (kind : Kind) → IsPure (act.Unary op kind)
    unfolding work
    unary_pure op kind values w v = refl

    convert_pure : (kind : Kind) → IsPure (act.Convert kind)
    unfolding work
    convert_pure kind values w v = refl

    binary_pure : (op : Bin) (kind : Kind) → IsPure (act.Binary op kind)
    unfolding work
    binary_pure op kind values w v = refl

    move_pure : IsPure act.Move
    unfolding work
    move_pure values w v = refl

    test_pure : IsPure act.Test
    unfolding work
    test_pure values w v = refl

    pub same_unary : (node : Node) (op : Un) (kind : Kind) (e : Meaning) → SameMeaning e → SameMeaning (unary program node op kind e)
    unfolding unary
    same_unary node op kind e same used =
        two_behind e (unary_on program node.place op kind) same
        (λ a b alike. two_computes class.Simple node.place (act.Unary op kind) (a ∷ []) (b ∷ []) (unary_pure op kind) (alike, tt))

    two_converts : (place : Place) (to : Option Kind) (a b : Operand) → SameOperand a b → Same (converts program place to a) (converts program place to b)
    two_converts place None a b alike = two_gives a b alike
    two_converts place (Some kind) a b alike = two_computes class.Conv place (act.Convert kind) (a ∷ []) (b ∷ []) (convert_pure kind) (alike, tt)

    pub same_convert : (node : Node) (e : Meaning) → SameMeaning e → SameMeaning (convert program node e)
    unfolding convert
    same_convert node e same used = two_behind e (converts program node.place (kind_of node.of)) same (two_converts node.place (kind_of node.of))

    two_cast : (place : Place) (of : TType) (e : Meaning) (used : Bool) → SameMeaning e → Same (cast_to program place of e used) (cast_to program place of e used)
    two_cast place ttype.Void e used same = two_unused e same
    two_cast place (ttype.Number kind) e used same = two_behind e (converts program place (Some kind)) same (two_converts place (Some kind))
    two_cast place (ttype.Pointer target) e used same = same used

    pub same_cast : (node : Node) (e : Meaning) → SameMeaning e → SameMeaning (cast program node e)
    unfolding cast
    same_cast node e same used = two_cast node.place node.of e used same

    pub same_binary : (node : Node) (op : Bin) (kind : Kind) (left right : Meaning) → SameMeaning left → SameMeaning right → SameMeaning (binary program node op kind left right)
    unfolding binary
    same_binary node op kind left right one two used =
        two_behind left (behind_one right (binary_on program node.place op kind)) one
        (λ a b alike. two_bind SameOperand SameOperand (right.value true) (right.value true) (binary_on program node.place op kind a) (binary_on program node.place op kind b) (two true)
        (λ c d also. two_computes (class_of op) node.place (act.Binary op kind) (a ∷ c ∷ []) (b ∷ d ∷ []) (binary_pure op kind) (alike, (also, tt))))

    two_truth : (node : Node) (right : Meaning) → SameMeaning right → Same (truth_of program node right) (truth_of program node right)
    two_truth node right same =
        let kind : Kind = kind_or_int (kind_of right.node.of) in
        two_behind right (truth_on program node.place kind) same
        (λ a b alike. two_computes class.Simple node.place (act.Binary bin.Ne kind) (a ∷ nothing ∷ []) (b ∷ nothing ∷ []) (binary_pure bin.Ne kind) (alike, (refl, tt)))

    two_tests : (place : Place) (a b : Operand) → SameOperand a b → Two SameHeld (tests program place a) (tests program place b)
    two_tests place a b alike = two_makes class.Test place act.Test (a ∷ []) (b ∷ []) test_pure (alike, tt)

    two_logical : (node : Node) (decides : Bool) (left right : Meaning) → SameMeaning left → SameMeaning right → SameMeaning (logical program node decides left right)
    two_logical node decides left right one two used =
        let whole : Part Operand = (left.value true >>= λ a. tests program node.place a >>= behind_test program node decides right) in
        two_settled whole whole
        (two_behind left (λ a. tests program node.place a >>= behind_test program node decides right) one
        (λ a b alike. two_bind SameHeld SameOperand (tests program node.place a) (tests program node.place b) (behind_test program node decides right) (behind_test program node decides right)
        (two_tests node.place a b alike)
        (λ h k same. two_if (gives (Holding h)) (truth_of program node right) (gives (Holding k)) (truth_of program node right)
        (same_truth (holds h) decides) (same_truth (holds k) decides) (ap (λ (v : Value). same_truth (is_true v) decides) same)
        (two_gives (Holding h) (Holding k) (ap Some same)) (two_truth node right two))))

    pub same_both : (node : Node) (left right : Meaning) → SameMeaning left → SameMeaning right → SameMeaning (both program node left right)
    unfolding both
    same_both node left right one two = two_logical node false left right one two

    pub same_either : (node : Node) (left right : Meaning) → SameMeaning left → SameMeaning right → SameMeaning (either program node left right)
    unfolding either
    same_either node left right one two = two_logical node true left right one two

    two_moves : (place : Place) (e : Meaning) → SameMeaning e → Same (e.value true >>= moves program place) (e.value true >>= moves program place)
    two_moves place e same =
        two_behind e (moves program place) same (λ a b alike. two_computes class.Move place act.Move (a ∷ []) (b ∷ []) move_pure (alike, tt))

    two_arm : (place : Place) (of : TType) (e : Meaning) → SameMeaning e → Same (arm program place of e) (arm program place of e)
    two_arm place ttype.Void e same = two_unused e same
    two_arm place (ttype.Number kind) e same = two_moves place e same
    two_arm place (ttype.Pointer target) e same = two_moves place e same

    pub same_cond : (node : Node) (test first second : Meaning) → SameMeaning test → SameMeaning first → SameMeaning second → SameMeaning (cond program node test first second)
    unfolding cond
    same_cond node test first second tested one two used =
        let whole : Part Operand = (test.value true >>= λ a. tests program node.place a >>= arm_by program node first second) in
        two_settled whole whole
        (two_behind test (λ a. tests program node.place a >>= arm_by program node first second) tested
        (λ a b alike. two_bind SameHeld SameOperand (tests program node.place a) (tests program node.place b) (arm_by program node first second) (arm_by program node first second)
        (two_tests node.place a b alike)
        (λ h k same. two_if (arm program node.place node.of first) (arm program node.place node.of second) (arm program node.place node.of first) (arm program node.place node.of second)
        (holds h) (holds k) (ap is_true same) (two_arm node.place node.of first one) (two_arm node.place node.of second two))))

    pub same_comma : (node : Node) (left right : Meaning) → SameMeaning left → SameMeaning right → SameMeaning (comma node left right)
    unfolding comma
    same_comma node left right one two used =
        two_bind SameOperand SameOperand (left.value false) (left.value false) (λ a. right.value used) (λ a. right.value used) (one false) (λ a b alike. two used)
