-- A text and what stands around it: where the parts were emitted, the whole stretch was.
use Rattle.std.proofs.Common.{ℕ, zero, suc, ◌≡◌, ◌≢◌, ◌+◌, Bool, true, false, List, ◌++◌, length, Option, Some, None, Result, Ok, Err, refl, sym, ap, subst, ◌∙◌, append_assoc, arith}
use Rattle.std.specs.Prelude.{option_map}
use Rattle.std.proofs.lemmas.List.{append-nil}
use Rattle.k_num.specs.declared.memory.NoMemory.{NoMemory}
use Rattle.k_num.specs.declared.place.Place.{Place}
use Rattle.k_types_meaning.specs.declared.tree.expression.TExpr.{TExpr}
use Rattle.k_types_meaning.specs.declared.tree.statement.Spot.{Spot}
use Rattle.k_marks_meaning.specs.Jumps.{is_left}
use Rattle.k_code.specs.declared.instruction.Arg.{Arg}
use Rattle.k_code.specs.declared.instruction.Do.{Do}
use Rattle.k_code.specs.declared.instruction.Do.TheVariants.{Back, ObjectsClose, Save}
use Rattle.k_code.specs.declared.instruction.Instr.{Instr}
use Rattle.k_evaluation.specs.States.{Program}
use Rattle.k_lower_code.specs.Declarations.{means, temporary}
use Rattle.k_lower_code.specs.Pieces.{Piece, only, ◌>>>◌, does}
use Rattle.k_lower_code.specs.Statements.{arms, if_else, one_arm, settled_arms, two_arms}
use Rattle.k_lower_code.specs.Stretches.{Inside, Site, Stretch, behind as behind_stretch, behind_objects, closed, followed_by, settled_unless, to_pads}
use Rattle.k_lower_expressions.proofs.Emitted.{Emitted, Emits, behind, emitted_behind}
use Rattle.k_lower_extents.specs.declared.extent.Extent.{Extent}
use Rattle.k_lower_extents.specs.Extents.{extent_of}
use Rattle.k_lower_statements.specs.Sites.{at_site}
use Rattle.k_lower_blocks.specs.Arounds.{arms_left, closing, pads_of, passes_arm, tests_one, tests_two, unless}

-- a piece was emitted as another one with the same instructions
pub as_emitted : {A : Type 0} (result : Result A NoMemory) (one other : Piece A) (old new : List Instr)
    → one.gives ≡ other.gives → one.code (length old) ≡ other.code (length old) → one.size ≡ other.size → Emits result one old new → Emits result other old new
as_emitted (Ok a) one other old new gives code size e = record {
  gives = e.gives ∙ gives;
  code = e.code ∙ ap (λ (l : List Instr). old ++ l) code;
  size = e.size ∙ ap (λ (n : ℕ). length old + n) size;
}
as_emitted (Err e) one other old new gives code size emits = tt

-- where no instruction was emitted, there are those that were there
pub nothing_was : (old new : List Instr) → Emitted {A = Unit {0}} tt (only tt) old new → new ≡ old
nothing_was old new e = e.code ∙ append-nil old

module _ (program : Program) (site : Site) (result : Result (Unit {0}) NoMemory) where
  -- one text behind another
  pub behind_emitted : (one other : Stretch) (old mid new : List Instr)
      → Emitted {A = Unit {0}} tt (at_site site one) old mid → Emits result (at_site (behind_objects one.opens site) other) mid new
      → Emits result (at_site site (behind_stretch one other)) old new
  behind_emitted one other old mid new first second =
      behind {A = Unit {0}} {B = Unit {0}} (λ u. at_site (behind_objects one.opens site) other) result (at_site site one) tt old mid new first second

  closed_by : (closes : Do) (text : Stretch) (inner : Site) (old one new : List Instr) → inner ≡ to_pads text.jumps (length old + text.size) site
      → Emitted {A = Unit {0}} tt (at_site inner text) old one → Emits result (closing program text.place closes text.jumps site) one new
      → Emits result (at_site site (closed program closes text)) old new
  closed_by closes text inner old one new inner_is first second =
      let there : Site = to_pads text.jumps (length old + text.size) site in
      let ends : Piece (Unit {0}) = closing program text.place closes text.jumps site in
      let both : Piece (Unit {0}) = at_site there text >>> λ u. ends in
      let pads : Piece (Unit {0}) = pads_of program text.place closes text.jumps site in
      let last : Piece (Unit {0}) = does program text.place closes in
      as_emitted result both (at_site site (closed program closes text)) old new refl
      (sym (append_assoc (text.code there (length old)) (pads.code (length old + text.size)) (last.code 0))) (omega arith)
      (behind {A = Unit {0}} {B = Unit {0}} (λ u. ends) result (at_site there text) tt old one new
      (subst (λ (s : Site). Emitted {A = Unit {0}} tt (at_site s text) old one) inner_is first) second)

  -- A TEXT THAT IS CLOSED AT ITS END: the text at the site whose jumps go to its pads, and what stands behind it
  pub closed_emitted : (closes : Do) (text : Stretch) (x : Extent) (inner : Site) (old one new : List Instr) → x ≡ extent_of text
      → inner ≡ to_pads x.jumps (length old + x.size) site
      → Emitted {A = Unit {0}} tt (at_site inner text) old one → Emits result (closing program text.place closes x.jumps site) one new
      → Emits result (at_site site (closed program closes text)) old new
  closed_emitted closes text x inner old one new x_is inner_is first second =
      closed_by closes text inner old one new (inner_is ∙ ap (λ (y : Extent). to_pads y.jumps (length old + y.size) site) x_is) first
      (subst (λ (y : Extent). Emits result (closing program text.place closes y.jumps site) one new) x_is second)

  -- the rest of a block behind a statement that makes no objects
  pub followed_by_none : (s rest : Stretch) (n : ℕ) (old mid new : List Instr) → n ≡ 0
      → Emitted {A = Unit {0}} tt (at_site site s) old mid → Emits result (at_site (behind_objects s.opens site) rest) mid new
      → Emits result (at_site site (followed_by program s n rest)) old new
  followed_by_none s rest n old mid new none first second =
      subst (λ (k : ℕ). Emits result (at_site site (followed_by program s k rest)) old new) (sym none) (behind_emitted s rest old mid new first second)

  -- behind one that makes objects, which die at the end of the rest
  pub followed_by_some : (s rest : Stretch) (n : ℕ) (old mid new : List Instr) → n ≢ 0
      → Emitted {A = Unit {0}} tt (at_site site s) old mid
      → Emits result (at_site (behind_objects s.opens site) (closed program (ObjectsClose n) rest)) mid new
      → Emits result (at_site site (followed_by program s n rest)) old new
  followed_by_some s rest zero old mid new some first second = absurd (some refl)
  followed_by_some s rest (suc n) old mid new some first second =
      behind_emitted s (closed program (ObjectsClose (suc n)) rest) old mid new first second

  -- AN `if` WITH ONE ARM, up to where the control source is taken back
  pub one_arm_emitted : (place : Place) (test : Piece Arg) (a : Arg) (one : Stretch) (x : Extent) (old tested in_front new : List Instr) → x ≡ extent_of one
      → Emitted a test old tested → Emitted {A = Unit {0}} tt (tests_one program place a x.size) tested in_front
      → Emits result (at_site site one) in_front new → Emits result (at_site site (one_arm program place test one)) old new
  one_arm_emitted place test a one x old tested in_front new x_is first second third =
      let rest : Arg → Piece (Unit {0}) = λ b. tests_one program place b one.size >>> λ u. at_site site one in
      as_emitted result (test >>> rest) (at_site site (one_arm program place test one)) old new refl refl (omega arith)
      (behind rest result test a old tested new first
      (behind {A = Unit {0}} {B = Unit {0}} (λ u. at_site site one) result (tests_one program place a one.size) tt tested in_front new
      (subst (λ (y : Extent). Emitted {A = Unit {0}} tt (tests_one program place a y.size) tested in_front) x_is second) third))

  -- AN `if` WITH TWO ARMS, the same
  pub two_arms_emitted : (place : Place) (test : Piece Arg) (a : Arg) (one other : Stretch) (x y : Extent)
      (old tested in_front passed jumped new : List Instr) → x ≡ extent_of one → y ≡ extent_of other
      → Emitted a test old tested → Emitted {A = Unit {0}} tt (tests_two program place a x.size) tested in_front
      → Emitted {A = Unit {0}} tt (at_site site one) in_front passed → Emitted {A = Unit {0}} tt (passes_arm program place y.size) passed jumped
      → Emits result (at_site site other) jumped new → Emits result (at_site site (two_arms program place test one other)) old new
  two_arms_emitted place test a one other x y old tested in_front passed jumped new x_is y_is first second third fourth fifth =
      let last : Piece (Unit {0}) = passes_arm program place other.size >>> λ u. at_site site other in
      let both : Piece (Unit {0}) = at_site site one >>> λ u. last in
      let rest : Arg → Piece (Unit {0}) = λ b. tests_two program place b one.size >>> λ u. both in
      let arm : Piece (Unit {0}) = tests_two program place test.gives one.size >>> λ u. at_site site one in
      as_emitted result (test >>> rest) (at_site site (two_arms program place test one other)) old new refl
      (sym (append_assoc (test.code (length old)) (arm.code (length old + test.size)) (last.code (length old + test.size + 1 + one.size)))) (omega arith)
      (behind rest result test a old tested new first
      (behind {A = Unit {0}} {B = Unit {0}} (λ u. both) result (tests_two program place a one.size) tt tested in_front new
      (subst (λ (z : Extent). Emitted {A = Unit {0}} tt (tests_two program place a z.size) tested in_front) x_is second)
      (behind {A = Unit {0}} {B = Unit {0}} (λ u. last) result (at_site site one) tt in_front passed new third
      (behind {A = Unit {0}} {B = Unit {0}} (λ u. at_site site other) result (passes_arm program place other.size) tt passed jumped new
      (subst (λ (z : Extent). Emitted {A = Unit {0}} tt (passes_arm program place z.size) passed jumped) y_is fourth) fifth))))

-- A TEXT AND THE CONTROL SOURCE AROUND IT, which is saved and taken back unless it stays
pub settled_emitted : (program : Program) (site : Site) (result : Result (Unit {0}) NoMemory) (stays : Bool) (s : Stretch) (old saved done new : List Instr)
    → Emitted {A = Unit {0}} tt (unless stays program s.place Save) old saved → Emitted {A = Unit {0}} tt (at_site site s) saved done
    → Emits result (unless stays program s.place Back) done new → Emits result (at_site site (settled_unless stays program s)) old new
settled_emitted program site (Ok u) true s old saved done new first second third =
    subst (λ (l : List Instr). Emitted {A = Unit {0}} tt (at_site site s) l new) (nothing_was old saved first)
    (subst (λ (l : List Instr). Emitted {A = Unit {0}} tt (at_site site s) saved l) (sym (nothing_was done new third)) second)
settled_emitted program site (Ok u) false s old saved done new first second third =
    emitted_behind {A = Unit {0}} {B = Unit {0}} (does program s.place Save >>> λ v. at_site site s) (λ v. does program s.place Back) tt tt old done new
    (emitted_behind {A = Unit {0}} {B = Unit {0}} (does program s.place Save) (λ v. at_site site s) tt tt old saved done first second) third
settled_emitted program site (Err e) stays s old saved done new first second third = tt

module _ (w : Inside) (spot : Spot) (test : TExpr) (site : Site) (result : Result (Unit {0}) NoMemory) where
  -- the value of a test
  abbrev tested_value : Piece Arg
  tested_value = (means w test).value true (temporary w)

  arms_settled : (stays : Bool) (one : Stretch) (other : Option Stretch) (old saved done new : List Instr)
      → stays ≡ is_left (arms w.program spot.place tested_value one other).jumps
      → Emitted {A = Unit {0}} tt (unless stays w.program spot.place Save) old saved
      → Emitted {A = Unit {0}} tt (at_site site (arms w.program spot.place tested_value one other)) saved done
      → Emits result (unless stays w.program spot.place Back) done new
      → Emits result (at_site site (settled_arms w.program (arms w.program spot.place tested_value one other))) old new
  arms_settled stays one None old saved done new is first second third =
      let s : Stretch = one_arm w.program spot.place tested_value one in
      subst (λ (b : Bool). Emits result (at_site site (settled_unless b w.program s)) old new) is
      (settled_emitted w.program site result stays s old saved done new first second third)
  arms_settled stays one (Some other) old saved done new is first second third =
      let s : Stretch = two_arms w.program spot.place tested_value one other in
      subst (λ (b : Bool). Emits result (at_site site (settled_unless b w.program s)) old new) is
      (settled_emitted w.program site result stays s old saved done new first second third)

  left_same : (one : Stretch) (other : Option Stretch)
      → arms_left (extent_of one) (option_map extent_of other) ≡ is_left (arms w.program spot.place tested_value one other).jumps
  left_same one None = refl
  left_same one (Some other) = refl

  -- AN `if`: its arms, and the control source around them
  pub if_else_emitted : (stays : Bool) (one : Stretch) (other : Option Stretch) (x : Extent) (y : Option Extent) (old saved done new : List Instr)
      → x ≡ extent_of one → y ≡ option_map extent_of other → stays ≡ arms_left x y
      → Emitted {A = Unit {0}} tt (unless stays w.program spot.place Save) old saved
      → Emitted {A = Unit {0}} tt (at_site site (arms w.program spot.place tested_value one other)) saved done
      → Emits result (unless stays w.program spot.place Back) done new
      → Emits result (at_site site (if_else w spot test one other)) old new
  unfolding if_else
  if_else_emitted stays one other x y old saved done new x_is y_is is first second third =
      arms_settled stays one other old saved done new
      (is ∙ (ap (λ (z : Extent). arms_left z y) x_is ∙ (ap (λ (z : Option Extent). arms_left (extent_of one) z) y_is ∙ left_same one other)))
      first second third
