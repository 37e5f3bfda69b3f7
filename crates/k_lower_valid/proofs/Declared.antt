-- Declarations and parameters: what makes objects.
use Rattle.std.proofs.Common.{ℕ, zero, suc, ◌≡◌, ◌+◌, ◌<◌, true, false, List, [], ◌∷◌, ◌++◌, slice_get, None, refl, sym, subst, ap, ◌∙◌, arith}
use Rattle.std.proofs.lemmas.Bool.{and_parts, lt-ltb, or_from, true≢false}
use Rattle.k_num.specs.declared.place.Place.{Place}
use Rattle.k_types_meaning.specs.declared.tree.declaration.TDeclarator.{TDeclarator}
use Rattle.k_types_meaning.specs.declared.tree.declaration.TInit.{TInit}
use Rattle.k_types_meaning.specs.declared.tree.declaration.TInit.TheVariants as init
use Rattle.k_types_meaning.specs.declared.tree.declaration.TItem.{TItem}
use Rattle.k_types_meaning.specs.declared.tree.declaration.TItem.TheVariants as item
use Rattle.k_types_meaning.specs.declared.tree.expression.TExpr.{TExpr}
use Rattle.k_types_meaning.specs.declared.tree.statement.TFirst.{TFirst}
use Rattle.k_types_meaning.specs.declared.tree.statement.TFirst.TheVariants as start
use Rattle.k_types_meaning.specs.declared.tree.unit.TVariable.{TVariable}
use Rattle.k_code.specs.declared.balance.Balance.{Balance}
use Rattle.k_code.specs.declared.code.Code.{Code}
use Rattle.k_code.specs.declared.instruction.Arg.TheVariants.{Reg}
use Rattle.k_code.specs.declared.instruction.Do.{Do}
use Rattle.k_code.specs.declared.instruction.Do.TheVariants as act
use Rattle.k_code.specs.declared.instruction.Home.TheVariants.{Local}
use Rattle.k_code.specs.Balances.{left_open, is_met, goes_on}
use Rattle.k_code.specs.Named.{is_there, text_is_short}
use Rattle.k_evaluation.specs.Declarations.{elements_of, values_from}
use Rattle.k_evaluation.specs.States.{Program}
use Rattle.k_lower_code.specs.Assignments.{writes}
use Rattle.k_lower_code.proofs.Objects.{variable_size}
use Rattle.k_lower_code.specs.Declarations.{means, temporary, drops, initialises, begins_register, stores_at, stores_item, stores_items, begins_object, makes_variable, declares_by, declares, declares_all, starts_with}
use Rattle.k_lower_code.specs.Functions.{makes_parameter, serves_by, serves}
use Rattle.k_lower_code.specs.Lowered.{Designated, InRegister}
use Rattle.k_lower_code.specs.Pieces.{Piece, only, ◌>>>◌, does, sets}
use Rattle.k_lower_code.specs.Stretches.{Inside, nothing_done}
use Rattle.k_lower_valid.specs.Names.{expr_named, item_named, items_named, init_named, declared_named, first_named}
use Rattle.k_lower_valid.proofs.Texts.{Text, opened, HasAt, AllFine, HasTable}
use Rattle.k_lower_valid.proofs.Stands.{Stands, only_stands, binds_stand, does_stands, moved}
use Rattle.k_lower_valid.proofs.Spans.{objects_are, Spans, piece_spans, nothing_spans, behind_spans, shifted_spans}
use Rattle.k_lower_valid.proofs.Segments.{Segment, both_segments, piece_segment, going_segment}
use Rattle.k_lower_valid.proofs.ExpressionRows.{LoweredStands, writes_stand}
use Rattle.k_lower_valid.proofs.Expressions.{expression_stands}
use Rattle.k_lower_valid.proofs.Arms.{nowhere}

module _ (code : Code) where
  -- A PIECE BETWEEN TWO BALANCES: those before its instructions, and that it is a segment of any text that has it
  abbrev pub PieceAt : {A : Type 0} → Piece A → Balance → Balance → Type 0
  PieceAt piece b0 b1 = (marks : List Balance) × ((g : Text) (first : ℕ) → Segment code (Unit {0}) g first (piece.code first) marks piece.size b0 b1)

  pub stands_at : {A : Type 0} (s o r : ℕ) (piece : Piece A) → Stands code piece → PieceAt piece (opened s o r) (opened s o r)
  stands_at s o r piece is = (is.marks s o r, λ g first. piece_segment first s o r piece is)

  pub binds_at : {A B : Type 0} (b0 b1 b2 : Balance) (piece : Piece A) (next : A → Piece B) → PieceAt piece b0 b1 → PieceAt (next piece.gives) b1 b2 → PieceAt (piece >>> next) b0 b2
  binds_at b0 b1 b2 piece next one other =
      (one.0 ++ other.0, λ g first. both_segments (first + piece.size) (piece.size + (next piece.gives).size) refl refl (one.1 g first) (other.1 g (first + piece.size)))

  module _ (program : Program) (table : HasTable program) where
    pub does_at : (place : Place) (what : Do) (b0 b1 : Balance) → goes_on what ≡ true → is_there code what ≡ true → text_is_short what ≡ true → is_met what b0 ≡ true → left_open what b0 ≡ b1
        → PieceAt (does program place what) b0 b1
    does_at place what b0 b1 on there short met leave = (b0 ∷ [], λ g first. going_segment code program table place what b0 b1 on there short met leave)

  module _ (w : Inside) (table : HasTable w.program) where
    abbrev Named : TExpr → Type 0
    Named e = expr_named w.program code e ≡ true

    pub value_stands : (e : TExpr) → Named e → LoweredStands code (means w e)
    value_stands e named = expression_stands code w.program table w.vars e named

    pub drops_stand : (e : TExpr) → Named e → Stands code (drops w e)
    drops_stand e named = binds_stand code ((means w e).value false (temporary w)) (λ a. only tt) ((value_stands e named).value false (temporary w)) (only_stands code tt)

    initialises_stands : (d : TDeclarator) (e : TExpr) (target : Designated) → Named e → Stands code (initialises w d e target)
    initialises_stands d e target named =
        binds_stand code ((means w e).value true (temporary w)) (λ a. writes w.program d.place false (temporary w) target a >>> λ v. only tt) ((value_stands e named).value true (temporary w))
        (binds_stand code (writes w.program d.place false (temporary w) target ((means w e).value true (temporary w)).gives) (λ v. only tt)
        (writes_stand code w.program table d.place false (temporary w) target ((means w e).value true (temporary w)).gives) (only_stands code tt))

    register_stands : (d : TDeclarator) (i : TInit) → init_named w.program code i ≡ true → Stands code (begins_register w d i)
    unfolding goes_on left_open is_met is_there
    register_stands d init.Nothing named = does_stands code w.program table d.place (act.Forget d.variable) refl (λ b. refl) (λ b. refl) refl refl
    register_stands d (init.Value e) named = initialises_stands d e (InRegister d.variable false) named
    register_stands d (init.Elements items) named = only_stands code tt

    -- a value is stored in an object that is live
    stored_at : (s o r : ℕ) (place : Place) (object n : ℕ) (e : TExpr) → object < o → Named e → PieceAt (stores_at w place object n e) (opened s o r) (opened s o r)
    unfolding goes_on left_open is_met is_there
    stored_at s o r place object n e live named =
        binds_at (opened s o r) (opened s o r) (opened s o r) ((means w e).value true (temporary w))
        (λ a. sets w.program place (act.Address (Local object) n) (temporary w + 1) >>> λ address. does w.program place (act.Store address a None))
        (stands_at s o r ((means w e).value true (temporary w)) ((value_stands e named).value true (temporary w)))
        (binds_at (opened s o r) (opened s o r) (opened s o r) (sets w.program place (act.Address (Local object) n) (temporary w + 1))
        (λ address. does w.program place (act.Store address ((means w e).value true (temporary w)).gives None))
        (binds_at (opened s o r) (opened s o r) (opened s o r) (does w.program place (act.Address (Local object) n (temporary w + 1))) (λ done. only (Reg (temporary w + 1) false))
        (does_at w.program table place (act.Address (Local object) n (temporary w + 1)) (opened s o r) (opened s o r) refl refl refl (lt-ltb object o live) refl)
        (stands_at s o r (only (Reg (temporary w + 1) false)) (only_stands code (Reg (temporary w + 1) false))))
        (does_at w.program table place (act.Store (Reg (temporary w + 1) false) ((means w e).value true (temporary w)).gives None) (opened s o r) (opened s o r) refl refl refl refl refl))

    -- so is an item
    item_at : (s o r object : ℕ) (i : TItem) → object < o → item_named w.program code i ≡ true → PieceAt (stores_item w object i) (opened s o r) (opened s o r)
    item_at s o r object (item.Bytes n bytes) live named = stands_at s o r (only {A = Unit {0}} tt) (only_stands code {A = Unit {0}} tt)
    item_at s o r object (item.Value place n e) live named = stored_at s o r place object n e live named

    items_at : (s o r object : ℕ) (items : List TItem) → object < o → items_named w.program code items ≡ true → PieceAt (stores_items w object items) (opened s o r) (opened s o r)
    items_at s o r object [] live named = stands_at s o r (only {A = Unit {0}} tt) (only_stands code {A = Unit {0}} tt)
    items_at s o r object (i ∷ items) live named =
        binds_at (opened s o r) (opened s o r) (opened s o r) (stores_item w object i) (λ done. stores_items w object items)
        (item_at s o r object i live (and_parts (item_named w.program code i) (items_named w.program code items) named).0)
        (items_at s o r object items live (and_parts (item_named w.program code i) (items_named w.program code items) named).1)

    object_at : (d : TDeclarator) (s o r object : ℕ) (i : TInit) → object < o → init_named w.program code i ≡ true → PieceAt (begins_object w d object i) (opened s o r) (opened s o r)
    unfolding goes_on left_open is_met is_there
    object_at d s o r object init.Nothing live named = stands_at s o r (only {A = Unit {0}} tt) (only_stands code {A = Unit {0}} tt)
    object_at d s o r object (init.Value e) live named = stored_at s o r d.place object 0 e live named
    object_at d s o r object (init.Elements items) live named =
        binds_at (opened s o r) (opened s o r) (opened s o r) (does w.program d.place (act.Fill object (values_from items))) (λ filled. stores_items w object items)
        (does_at w.program table d.place (act.Fill object (values_from items)) (opened s o r) (opened s o r) refl refl refl (lt-ltb object o live) refl)
        (items_at s o r object items live named)

    -- A VARIABLE THAT IS MEMORY makes an object
    variable_at : (d : TDeclarator) (elements s o r : ℕ) → init_named w.program code d.init ≡ true → PieceAt (makes_variable w d elements o) (opened s o r) (opened s (o + 1) r)
    unfolding goes_on left_open is_met is_there
    variable_at d elements s o r named =
        binds_at (opened s o r) (opened s (o + 1) r) (opened s (o + 1) r) (does w.program d.place (act.ObjectOpen elements))
        (λ made. does w.program d.place (act.Address (Local o) 0 d.variable) >>> λ set. begins_object w d o d.init)
        (does_at w.program table d.place (act.ObjectOpen elements) (opened s o r) (opened s (o + 1) r) refl refl refl refl refl)
        (binds_at (opened s (o + 1) r) (opened s (o + 1) r) (opened s (o + 1) r) (does w.program d.place (act.Address (Local o) 0 d.variable)) (λ set. begins_object w d o d.init)
        (does_at w.program table d.place (act.Address (Local o) 0 d.variable) (opened s (o + 1) r) (opened s (o + 1) r) refl refl refl (lt-ltb o (o + 1) (omega arith)) refl)
        (object_at d s (o + 1) r o d.init (omega arith) named))

  -- A STRETCH THAT MAKES ONE OBJECT, by the piece that makes it under its number
  pub one_object : (place : Place) (piece : ℕ → Piece (Unit {0})) → ((a b : ℕ) → (piece a).size ≡ (piece b).size) → ((s o r : ℕ) → PieceAt (piece o) (opened s o r) (opened s (o + 1) r))
      → Spans code (record (nothing_done place) { size = (piece 0).size; code = λ site first. (piece site.objects).code first; opens = 1 }) 0 1
  one_object place piece same is = record {
    sized = λ site first. ((is 0 site.objects 0).1 nowhere first).sized ∙ same site.objects 0;
    marks = λ s o r. (is s o r).0;
    long = λ s o r. ((is s o r).1 nowhere 0).long ∙ same o 0;
    begins = λ g s o r a z first enters leaves labels end.
        ((is s o r).1 g first).begins labels (there g s o r z first leaves end) ∙ objects_are s r o a (omega (arith, enters));
    fine = λ g site s o r z first enters leaves saved has labels end low high breaks continues.
        subst (λ n. AllFine code g first ((piece n).code first)) (let e : o ≡ site.objects = omega (arith, enters) in e)
        (((is s o r).1 g first).fine tt (subst (λ n. HasAt g first ((piece n).code first)) (let e : site.objects ≡ o = omega (arith, enters) in e) has) labels (there g s o r z first leaves end) low
        (subst (λ n. first + n < g.end) (same 0 o) high));
    comes = λ site first holds. absurd (true≢false (sym holds));
  }
    where
      there : (g : Text) (s o r z first : ℕ) → z ≡ o + 1 → g.before (first + (piece 0).size) ≡ opened s z r → g.before (first + (piece o).size) ≡ opened s (o + 1) r
      there g s o r z first leaves end = moved g (first + (piece 0).size) (first + (piece o).size) (opened s (o + 1) r) (ap (λ n. first + n) (same 0 o)) (end ∙ objects_are s r z (o + 1) leaves)

  module _ (w : Inside) (table : HasTable w.program) where
    declares_by_spans : (d : TDeclarator) (n : ℕ) → init_named w.program code d.init ≡ true → Spans code (declares_by w d n) 0 (declares_by w d n).opens
    declares_by_spans d zero named = piece_spans code d.place (begins_register w d d.init) (register_stands w table d d.init named)
    declares_by_spans d (suc n) named = one_object d.place (makes_variable w d (suc n)) (variable_size w d (suc n)) (λ s o r. variable_at w table d (suc n) s o r named)

    declares_spans : (d : TDeclarator) → init_named w.program code d.init ≡ true → Spans code (declares w d) 0 (declares w d).opens
    unfolding declares
    declares_spans d named = declares_by_spans d (elements_of (slice_get w.vars d.variable)) named

    -- no jump leads out of declarations
    by_no_breaks : (d : TDeclarator) (n : ℕ) → (declares_by w d n).jumps.breaks ≡ false
    by_no_breaks d zero = refl
    by_no_breaks d (suc n) = refl

    by_no_continues : (d : TDeclarator) (n : ℕ) → (declares_by w d n).jumps.continues ≡ false
    by_no_continues d zero = refl
    by_no_continues d (suc n) = refl

    one_no_breaks : (d : TDeclarator) → (declares w d).jumps.breaks ≡ false
    unfolding declares
    one_no_breaks d = by_no_breaks d (elements_of (slice_get w.vars d.variable))

    one_no_continues : (d : TDeclarator) → (declares w d).jumps.continues ≡ false
    unfolding declares
    one_no_continues d = by_no_continues d (elements_of (slice_get w.vars d.variable))

    pub no_breaks : (place : Place) (ds : List TDeclarator) → (declares_all w place ds).jumps.breaks ≡ false
    no_breaks place [] = refl
    no_breaks place (d ∷ ds) = or_from (declares w d).jumps.breaks (declares_all w place ds).jumps.breaks (one_no_breaks d) (no_breaks place ds)

    pub no_continues : (place : Place) (ds : List TDeclarator) → (declares_all w place ds).jumps.continues ≡ false
    no_continues place [] = refl
    no_continues place (d ∷ ds) = or_from (declares w d).jumps.continues (declares_all w place ds).jumps.continues (one_no_continues d) (no_continues place ds)

    -- DECLARATIONS
    pub declares_all_spans : (place : Place) (ds : List TDeclarator) → declared_named w.program code ds ≡ true → Spans code (declares_all w place ds) 0 (declares_all w place ds).opens
    declares_all_spans place [] named = nothing_spans code place
    declares_all_spans place (d ∷ ds) named =
        behind_spans code (declares w d) (declares_all w place ds) 0 (declares w d).opens ((declares w d).opens + (declares_all w place ds).opens) (omega arith)
        (declares_spans d (and_parts (init_named w.program code d.init) (declared_named w.program code ds) named).0)
        (shifted_spans code (declares_all w place ds) (declares_all w place ds).opens (declares w d).opens ((declares w d).opens + (declares_all w place ds).opens) refl (no_breaks place ds) (no_continues place ds)
        (declares_all_spans place ds (and_parts (init_named w.program code d.init) (declared_named w.program code ds) named).1))

    pub starts_with_spans : (place : Place) (f : TFirst) → first_named w.program code f ≡ true → Spans code (starts_with w place f) 0 (starts_with w place f).opens
    starts_with_spans place start.Nothing named = nothing_spans code place
    starts_with_spans place (start.Value e) named = piece_spans code place (drops w e) (drops_stand w table e named)
    starts_with_spans place (start.Declare list) named = declares_all_spans place list named

    pub starts_no_breaks : (place : Place) (f : TFirst) → (starts_with w place f).jumps.breaks ≡ false
    starts_no_breaks place start.Nothing = refl
    starts_no_breaks place (start.Value e) = refl
    starts_no_breaks place (start.Declare list) = no_breaks place list

    pub starts_no_continues : (place : Place) (f : TFirst) → (starts_with w place f).jumps.continues ≡ false
    starts_no_continues place start.Nothing = refl
    starts_no_continues place (start.Value e) = refl
    starts_no_continues place (start.Declare list) = no_continues place list

  -- PARAMETERS that are memory
  module _ (program : Program) (table : HasTable program) where
    parameter_at : (register : ℕ) (place : Place) (n elements s o r : ℕ) → PieceAt (makes_parameter program register place n elements o) (opened s o r) (opened s (o + 1) r)
    unfolding goes_on left_open is_met is_there
    parameter_at register place n elements s o r =
        binds_at (opened s o r) (opened s (o + 1) r) (opened s (o + 1) r) (does program place (act.ObjectOpen elements))
        (λ made. sets program place (act.Address (Local o) 0) register >>> λ address. does program place (act.Store address (Reg n false) None) >>> λ stored. does program place (act.Address (Local o) 0 n))
        (does_at program table place (act.ObjectOpen elements) (opened s o r) (opened s (o + 1) r) refl refl refl refl refl)
        (binds_at (opened s (o + 1) r) (opened s (o + 1) r) (opened s (o + 1) r) (sets program place (act.Address (Local o) 0) register)
        (λ address. does program place (act.Store address (Reg n false) None) >>> λ stored. does program place (act.Address (Local o) 0 n))
        (binds_at (opened s (o + 1) r) (opened s (o + 1) r) (opened s (o + 1) r) (does program place (act.Address (Local o) 0 register)) (λ done. only (Reg register false))
        (does_at program table place (act.Address (Local o) 0 register) (opened s (o + 1) r) (opened s (o + 1) r) refl refl refl (lt-ltb o (o + 1) (omega arith)) refl)
        (stands_at s (o + 1) r (only (Reg register false)) (only_stands code (Reg register false))))
        (binds_at (opened s (o + 1) r) (opened s (o + 1) r) (opened s (o + 1) r) (does program place (act.Store (Reg register false) (Reg n false) None)) (λ stored. does program place (act.Address (Local o) 0 n))
        (does_at program table place (act.Store (Reg register false) (Reg n false) None) (opened s (o + 1) r) (opened s (o + 1) r) refl refl refl refl refl)
        (does_at program table place (act.Address (Local o) 0 n) (opened s (o + 1) r) (opened s (o + 1) r) refl refl refl (lt-ltb o (o + 1) (omega arith)) refl)))

    serves_by_spans : (register : ℕ) (place : Place) (n count : ℕ) → Spans code (serves_by program register place n count) 0 (serves_by program register place n count).opens
    serves_by_spans register place n zero = nothing_spans code place
    serves_by_spans register place n (suc count) = one_object place (makes_parameter program register place n (suc count)) (λ a b. refl) (λ s o r. parameter_at register place n (suc count) s o r)

    serves_by_breaks : (register : ℕ) (place : Place) (n count : ℕ) → (serves_by program register place n count).jumps.breaks ≡ false
    serves_by_breaks register place n zero = refl
    serves_by_breaks register place n (suc count) = refl

    serves_by_continues : (register : ℕ) (place : Place) (n count : ℕ) → (serves_by program register place n count).jumps.continues ≡ false
    serves_by_continues register place n zero = refl
    serves_by_continues register place n (suc count) = refl

    pub serves_breaks : (register : ℕ) (close : Place) (n count : ℕ) (vs : List TVariable) → (serves program register close n count vs).jumps.breaks ≡ false
    serves_breaks register close n zero vs = refl
    serves_breaks register close n (suc count) [] = refl
    serves_breaks register close n (suc count) (v ∷ vs) =
        or_from (serves_by program register v.place n v.elements).jumps.breaks (serves program register close (n + 1) count vs).jumps.breaks (serves_by_breaks register v.place n v.elements) (serves_breaks register close (n + 1) count vs)

    pub serves_continues : (register : ℕ) (close : Place) (n count : ℕ) (vs : List TVariable) → (serves program register close n count vs).jumps.continues ≡ false
    serves_continues register close n zero vs = refl
    serves_continues register close n (suc count) [] = refl
    serves_continues register close n (suc count) (v ∷ vs) =
        or_from (serves_by program register v.place n v.elements).jumps.continues (serves program register close (n + 1) count vs).jumps.continues (serves_by_continues register v.place n v.elements)
        (serves_continues register close (n + 1) count vs)

    pub serves_spans : (register : ℕ) (close : Place) (n count : ℕ) (vs : List TVariable) → Spans code (serves program register close n count vs) 0 (serves program register close n count vs).opens
    serves_spans register close n zero vs = nothing_spans code close
    serves_spans register close n (suc count) [] = nothing_spans code close
    serves_spans register close n (suc count) (v ∷ vs) =
        behind_spans code (serves_by program register v.place n v.elements) (serves program register close (n + 1) count vs) 0 (serves_by program register v.place n v.elements).opens
        ((serves_by program register v.place n v.elements).opens + (serves program register close (n + 1) count vs).opens) (omega arith) (serves_by_spans register v.place n v.elements)
        (shifted_spans code (serves program register close (n + 1) count vs) (serves program register close (n + 1) count vs).opens (serves_by program register v.place n v.elements).opens
        ((serves_by program register v.place n v.elements).opens + (serves program register close (n + 1) count vs).opens) refl (serves_breaks register close (n + 1) count vs) (serves_continues register close (n + 1) count vs)
        (serves_spans register close (n + 1) count vs))
