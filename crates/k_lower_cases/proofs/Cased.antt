-- The cases of a switch, emitted part by part.
use Rattle.std.proofs.Common.{ℕ, ℤ, ◌≡◌, ◌+◌, ◌<◌, List, [], ◌∷◌, ◌++◌, map, drop, get_or, length, None, Result, Ok, Err, refl, sym, ap, subst, ◌∙◌, append_assoc, false, arith}
use Rattle.std.proofs.lemmas.List.{drop_more}
use Rattle.std.specs.Prelude.{IfOk}
use Rattle.k_num.specs.declared.memory.NoMemory.{NoMemory}
use Rattle.k_num.specs.declared.numbers.Bin.TheVariants.{Eq}
use Rattle.k_num.specs.declared.numbers.Kind.{Kind}
use Rattle.k_num.specs.declared.place.Place.{Place}
use Rattle.k_optab.specs.declared.class.Class.TheVariants as class
use Rattle.k_types_meaning.proofs.Folds.{part_Case, part_Default, part_Does}
use Rattle.k_types_meaning.specs.declared.tree.statement.TPart.{TPart}
use Rattle.k_types_meaning.specs.declared.tree.statement.TPart.TheVariants as part
use Rattle.k_types_meaning.specs.declared.tree.statement.TStmt.{TStmt}
use Rattle.k_code.specs.declared.instruction.Arg.{Arg}
use Rattle.k_code.specs.declared.instruction.Arg.TheVariants.{Number, Reg}
use Rattle.k_code.specs.declared.instruction.Do.TheVariants.{Binary, Test}
use Rattle.k_code.specs.declared.instruction.Instr.{Instr}
use Rattle.k_evaluation.specs.States.{Program}
use Rattle.k_lower_code.specs.Pieces.{Piece, ◌>>>◌, does, instruction, only, sets}
use Rattle.k_lower_code.specs.Statements.{lower_step, lowered, part_step}
use Rattle.k_lower_code.specs.Stretches.{Inside, Stretch}
use Rattle.k_lower_code.specs.Switches.{PartLowered, ACase, ADefault, AStatement, cases_code, cases_size}
use Rattle.k_lower_expressions.proofs.Emitted.{Emitted, Emits, ends, nothing_emitted}
use Rattle.k_lower_extents.specs.declared.extent.Extent.{Extent}
use Rattle.k_lower_extents.specs.Extents.{extent_of, lowered_part}
use Rattle.k_lower_cases.specs.Cases.{case, cases, part_case}
use Rattle.k_lower_statements.proofs.Left.{IsLeft}

-- behind a piece that was emitted, what is left of the whole is what follows it
pub left_behind : {A B : Type 0} (piece : Piece A) (next : A → Piece B) (a : A) (whole : Piece B) (old mid new : List Instr)
    → IsLeft (piece >>> next) whole old mid → Emitted a piece mid new → IsLeft (next a) whole old new
left_behind {A} {B} piece next a whole old mid new left one =
    subst (λ (x : A). IsLeft (next x) whole old new) (sym one.gives) (record {
      gives = left.gives;
      code = (let back : ℕ → List Instr = λ n. (next piece.gives).code n in
          ap (λ (n : ℕ). new ++ back n) one.size
          ∙ (ap (λ (m : List Instr). m ++ back (length mid + piece.size)) one.code
          ∙ (append_assoc mid (piece.code (length mid)) (back (length mid + piece.size)) ∙ left.code)));
      size = (let first : length new ≡ length mid + piece.size = one.size in
          (let second : length mid + (piece.size + (next piece.gives).size) ≡ length old + whole.size = left.size in omega (arith, first, second)));
    })

module _ (program : Program) (kind : Kind) (r : ℕ) (on : Arg) where
  -- a comparison and a select behind it
  both_emitted : (place : Place) (z : ℤ) (at register other : ℕ) (a : Arg) (old mid new : List Instr) → register ≡ r + 1
      → Emitted a (sets program place (λ t. Binary Eq kind on (Number z) register) register) old mid → other ≡ length mid + 1
      → Emitted {A = Unit {0}} tt (does program place (Test a at other None class.Select)) mid new
      → Emitted {A = Unit {0}} tt (case program kind r on at place z) old new
  both_emitted place z at register other a old mid new above one next select =
      (let first : length mid ≡ length old + 1 = one.size in
      (let there : other ≡ length old + 2 = omega (arith, first, next) in
      (let second : length new ≡ length mid + 1 = select.size in
      (let given : a ≡ Reg (r + 1) false = one.gives ∙ ap (λ (n : ℕ). Reg n false) above in
      (let compared : mid ≡ old ++ instruction program place (Binary Eq kind on (Number z) (r + 1)) ∷ [] =
      one.code ∙ ap (λ (n : ℕ). old ++ instruction program place (Binary Eq kind on (Number z) n) ∷ []) above in
      record {
        gives = refl;
        code = select.code
            ∙ ((λ i. compared i ++ instruction program place (Test (given i) at (there i) None class.Select) ∷ [])
            ∙ append_assoc old (instruction program place (Binary Eq kind on (Number z) (r + 1)) ∷ [])
            (instruction program place (Test (Reg (r + 1) false) at (length old + 2) None class.Select) ∷ []));
        size = omega (arith, first, second);
      })))))

  pub case_emitted : (place : Place) (z : ℤ) (at register number other : ℕ) (a : Arg) (result : Result (Unit {0}) NoMemory) (old mid new : List Instr)
      → register ≡ r + 1 → Emitted a (sets program place (λ t. Binary Eq kind on (Number z) register) register) old mid
      → number ≡ length mid → other ≡ number + 1
      → Emits result (does program place (Test a at other None class.Select)) mid new
      → Emits result (case program kind r on at place z) old new
  case_emitted place z at register number other a (Ok done) old mid new above one here next select =
      both_emitted place z at register other a old mid new above one (next ∙ ap (λ (n : ℕ). n + 1) here) select
  case_emitted place z at register number other a (Err e) old mid new above one here next select = tt

  -- a part
  module _ (w : Inside) (p : TPart) (at : ℕ) where
    as_it_is : (lowers : PartLowered) (result : Result ℕ NoMemory) (old new : List Instr) → lowered_part w p ≡ lowers
        → Emits result (part_case program kind r on at lowers) old new → Emits result (part_case program kind r on at (lowered_part w p)) old new
    as_it_is lowers result old new is emits = subst (λ (q : PartLowered). Emits result (part_case program kind r on at q) old new) (sym is) emits

    pub of_case : (place : Place) (z : ℤ) (old new : List Instr) → p ≡ part.Case place z
        → Emitted {A = Unit {0}} tt (case program kind r on at place z) old new → Emitted at (part_case program kind r on at (lowered_part w p)) old new
    of_case place z old new is one =
        as_it_is (ACase place z) (Ok at) old new (ap (lowered_part w) is ∙ part_Case PartLowered Stretch part_step (lower_step w) place z)
        (ends {A = Unit {0}} (λ done. at) (case program kind r on at place z) tt old new one)

    pub of_default : (place : Place) (old : List Instr) → p ≡ part.Default place → Emitted at (part_case program kind r on at (lowered_part w p)) old old
    of_default place old is =
        as_it_is ADefault (Ok at) old old (ap (lowered_part w) is ∙ part_Default PartLowered Stretch part_step (lower_step w) place) (nothing_emitted at old)

    by_statement : (s : Stretch) (x : Extent) (result : Result ℕ NoMemory) (old : List Instr) → x ≡ extent_of s → IfOk result (λ n. n ≡ at + x.size)
        → Emits result (only (at + s.size)) old old
    by_statement s x (Ok n) old is next =
        subst (λ (m : ℕ). Emitted m (only (at + s.size)) old old) (sym (next ∙ ap (λ (y : Extent). at + y.size) is)) (nothing_emitted (at + s.size) old)
    by_statement s x (Err e) old is next = tt

    pub of_statement : (place : Place) (s : TStmt) (x : Extent) (result : Result ℕ NoMemory) (old : List Instr) → p ≡ part.Does place s → x ≡ extent_of (lowered w s)
        → IfOk result (λ n. n ≡ at + x.size) → Emits result (part_case program kind r on at (lowered_part w p)) old old
    of_statement place s x result old is x_is next =
        as_it_is (AStatement (lowered w s)) result old old (ap (lowered_part w) is ∙ part_Does PartLowered Stretch part_step (lower_step w) place s)
        (by_statement (lowered w s) x result old x_is next)

  -- PART BY PART
  none_behind : (first : ℕ) → first ≡ first + 0
  none_behind first = omega arith

  none_before : (size : ℕ) → size ≡ 0 + size
  none_before size = omega arith

  cases_first : (p : PartLowered) (ps : List PartLowered) (at : ℕ)
      → cases program kind r on (p ∷ ps) at ≡ (part_case program kind r on at p >>> λ (n : ℕ). cases program kind r on ps n)
  cases_first (ACase place z) ps at = refl
  cases_first ADefault ps at =
      λ i. record { size = none_before (cases_size ps) i; code = λ first. cases_code program kind r on ps at (none_behind first i); gives = tt }
  cases_first (AStatement s) ps at =
      λ i. record { size = none_before (cases_size ps) i; code = λ first. cases_code program kind r on ps (at + s.size) (none_behind first i); gives = tt }

  -- one more part was gone over
  pub one_case_more : (w : Inside) (ps : List TPart) (i : ℕ) (p : TPart) (at after : ℕ) (whole : Piece (Unit {0})) (old mid new : List Instr)
      → i < length ps → p ≡ get_or ps i p
      → Emitted after (part_case program kind r on at (lowered_part w p)) mid new
      → IsLeft (cases program kind r on (map (lowered_part w) (drop i ps)) at) whole old mid
      → IsLeft (cases program kind r on (map (lowered_part w) (drop (i + 1) ps)) after) whole old new
  one_case_more w ps i p at after whole old mid new below is one left =
      (let here : drop i ps ≡ p ∷ drop (i + 1) ps = drop_more ps i p below ∙ ap (λ (q : TPart). q ∷ drop (i + 1) ps) (sym is) in
      (let later : List PartLowered = map (lowered_part w) (drop (i + 1) ps) in
      left_behind (part_case program kind r on at (lowered_part w p)) (λ (n : ℕ). cases program kind r on later n) after whole old mid new
      (subst (λ (c : Piece (Unit {0})). IsLeft c whole old mid) (cases_first (lowered_part w p) later at)
      (subst (λ (qs : List TPart). IsLeft (cases program kind r on (map (lowered_part w) qs) at) whole old mid) here left)) one))
