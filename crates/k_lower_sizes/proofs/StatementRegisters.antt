-- Stretches of code need few registers where their parts do.
use Rattle.std.proofs.Common.{ℕ, zero, suc, ◌+◌, ◌≤◌, ◌||◌, Bool, true, false, List, [], ◌∷◌, ◌++◌, None, arith}
use Rattle.std.proofs.Math.Nat.{max-le}
use Rattle.k_num.specs.declared.place.Place.{Place}
use Rattle.k_optab.specs.declared.class.Class.{Class}
use Rattle.k_optab.specs.declared.class.Class.TheVariants as class
use Rattle.k_marks_meaning.specs.declared.jumps.Jumps.{Jumps}
use Rattle.k_code.specs.declared.instruction.Arg.{Arg}
use Rattle.k_code.specs.declared.instruction.Do.{Do}
use Rattle.k_code.specs.declared.instruction.Do.TheVariants as act
use Rattle.k_code.specs.Named.{operands, register_set, registers_needed, up_to_operand}
use Rattle.k_evaluation.specs.Loops.{stays_behind_loop}
use Rattle.k_evaluation.specs.States.{Program}
use Rattle.k_lower_code.specs.Functions.{registers_of}
use Rattle.k_lower_code.specs.Loops.{LoopParts, if_so, saves_body, before_body, break_size, body_size, body_site, body_code, restores_step, turn_size, before_turns, end_of, turns_code, inside_loop, loop, one_if}
use Rattle.k_lower_code.specs.Pieces.{Piece, instruction}
use Rattle.k_lower_code.specs.Statements.{one_arm, two_arms}
use Rattle.k_lower_code.specs.Stretches.{Site, Stretch, behind, behind_objects, closed, pads, pads_size, pad, over, to_pads, followed_by, in_order, settled_unless}
use Rattle.k_lower_sizes.proofs.ExpressionRegisters.{both_need}

module _ (program : Program) (bound : ℕ) where
  -- a stretch needs no more registers than so many
  abbrev pub Needs : Stretch → Type 0
  Needs t = (site : Site) (first : ℕ) → registers_of (t.code site first) ≤ bound

  abbrev pub PieceNeeds : {A : Type 0} → Piece A → Type 0
  PieceNeeds piece = (first : ℕ) → registers_of (piece.code first) ≤ bound

  none : 0 ≤ bound
  none = omega arith

  -- instructions that name no registers
  pub jump_needs : (to : ℕ) → registers_needed (act.Jump to) ≤ bound
  unfolding registers_needed operands register_set
  jump_needs to = max-le none none

  close_needs : (count : ℕ) → registers_needed (act.ObjectsClose count) ≤ bound
  unfolding registers_needed operands register_set
  close_needs count = max-le none none

  save_needs : registers_needed act.Save ≤ bound
  unfolding registers_needed operands register_set
  save_needs = max-le none none

  back_needs : registers_needed act.Back ≤ bound
  unfolding registers_needed operands register_set
  back_needs = max-le none none

  restore_needs : registers_needed act.Restore ≤ bound
  unfolding registers_needed operands register_set
  restore_needs = max-le none none

  exit_needs : registers_needed act.Exit ≤ bound
  unfolding registers_needed operands register_set
  exit_needs = max-le none none

  enter_needs : (region : ℕ) → registers_needed (act.Enter region) ≤ bound
  unfolding registers_needed operands register_set
  enter_needs region = max-le none none

  pub test_needs : (a : Arg) (taken other : ℕ) (which : Class) → up_to_operand a ≤ bound → registers_needed (act.Test a taken other None which) ≤ bound
  unfolding registers_needed operands register_set
  test_needs a taken other which is = max-le (max-le is none) none

  pub behind_needs : (one other : Stretch) → Needs one → Needs other → Needs (behind one other)
  behind_needs one other a b site first = both_need bound (one.code site first) (other.code (behind_objects one.opens site) (first + one.size)) (a site first) (b (behind_objects one.opens site) (first + one.size))

  over_needs : (place : Place) (b : Bool) (to : ℕ) → registers_of (over program place b to) ≤ bound
  over_needs place false to = none
  over_needs place true to = max-le (jump_needs to) none

  pad_needs : (place : Place) (closes : Do) (b : Bool) (to : ℕ) → registers_needed closes ≤ bound → registers_of (pad program place closes b to) ≤ bound
  pad_needs place closes false to is = none
  pad_needs place closes true to is = max-le is (max-le (jump_needs to) none)

  pads_need : (place : Place) (closes : Do) (j : Jumps) (site : Site) (first : ℕ) → registers_needed closes ≤ bound → registers_of (pads program place closes j site first) ≤ bound
  pads_need place closes j site first is =
      both_need bound (over program place (j.breaks || j.continues) (first + pads_size j) ++ pad program place closes j.breaks site.breaks) (pad program place closes j.continues site.continues)
      (both_need bound (over program place (j.breaks || j.continues) (first + pads_size j)) (pad program place closes j.breaks site.breaks) (over_needs place (j.breaks || j.continues) (first + pads_size j)) (pad_needs place closes j.breaks site.breaks is))
      (pad_needs place closes j.continues site.continues is)

  closed_needs : (count : ℕ) (text : Stretch) → Needs text → Needs (closed program (act.ObjectsClose count) text)
  closed_needs count text is site first =
      both_need bound (text.code (to_pads text.jumps (first + text.size) site) first ++ pads program text.place (act.ObjectsClose count) text.jumps site (first + text.size)) (instruction program text.place (act.ObjectsClose count) ∷ [])
      (both_need bound (text.code (to_pads text.jumps (first + text.size) site) first) (pads program text.place (act.ObjectsClose count) text.jumps site (first + text.size))
      (is (to_pads text.jumps (first + text.size) site) first) (pads_need text.place (act.ObjectsClose count) text.jumps site (first + text.size) (close_needs count)))
      (max-le (close_needs count) none)

  pub followed_needs : (s rest : Stretch) (n : ℕ) → Needs s → Needs rest → Needs (followed_by program s n rest)
  followed_needs s rest zero a b = behind_needs s rest a b
  followed_needs s rest (suc n) a b = behind_needs s (closed program (act.ObjectsClose (suc n)) rest) a (closed_needs (suc n) rest b)

  abbrev pub AllNeed : List Stretch → Type 0
  AllNeed [] = Unit {0}
  AllNeed (t ∷ ts) = Needs t × AllNeed ts

  pub order_needs : (place : Place) (ts : List Stretch) → AllNeed ts → Needs (in_order program place ts)
  order_needs place [] all = λ site first. none
  order_needs place (t ∷ ts) all = followed_needs t (in_order program place ts) t.opens all.0 (order_needs place ts all.1)

  pub settled_needs : (unless : Bool) (t : Stretch) → Needs t → Needs (settled_unless unless program t)
  settled_needs true t is = is
  settled_needs false t is = λ site first. both_need bound (instruction program t.place act.Save ∷ t.code site (first + 1)) (instruction program t.place act.Back ∷ []) (max-le save_needs (is site (first + 1))) (max-le back_needs none)

  pub one_arm_needs : (place : Place) (test : Piece Arg) (one : Stretch) → PieceNeeds test → up_to_operand test.gives ≤ bound → Needs one → Needs (one_arm program place test one)
  one_arm_needs place test one tested given is site first =
      both_need bound (test.code first) (_ ∷ one.code site ((first + test.size) + 1)) (tested first) (max-le (test_needs test.gives _ _ _ given) (is site ((first + test.size) + 1)))

  pub two_arms_need : (place : Place) (test : Piece Arg) (one other : Stretch) → PieceNeeds test → up_to_operand test.gives ≤ bound → Needs one → Needs other → Needs (two_arms program place test one other)
  two_arms_need place test one other tested given is second site first =
      both_need bound (test.code first ++ (_ ∷ one.code site ((first + test.size) + 1))) (_ ∷ other.code site ((((first + test.size) + 1) + one.size) + 1))
      (both_need bound (test.code first) (_ ∷ one.code site ((first + test.size) + 1)) (tested first) (max-le (test_needs test.gives _ _ _ given) (is site ((first + test.size) + 1))))
      (max-le (jump_needs _) (second site ((((first + test.size) + 1) + one.size) + 1)))

  if_needs : (place : Place) (b : Bool) (what : Do) → registers_needed what ≤ bound → registers_of (if_so program place b what) ≤ bound
  if_needs place false what is = none
  if_needs place true what is = max-le is none

  -- LOOPS
  body_needs : (l : LoopParts) → Needs l.body → (site : Site) (end first : ℕ) → registers_of (body_code program l site end first) ≤ bound
  body_needs l is site end first =
      both_need bound _ (instruction program l.place act.Exit ∷ if_so program l.place (saves_body l) act.Back)
      (both_need bound _ (pad program l.place act.Exit l.body.jumps.breaks end)
      (both_need bound _ (over program l.place l.body.jumps.breaks (((first + before_body l) + l.body.size) + break_size l))
      (both_need bound (if_so program l.place l.counted act.Restore ++ if_so program l.place (saves_body l) act.Save)
      (instruction program l.place (act.Enter (l.region + 1)) ∷ l.body.code (body_site l site (first + before_body l)) (first + before_body l))
      (both_need bound (if_so program l.place l.counted act.Restore) (if_so program l.place (saves_body l) act.Save) (if_needs l.place l.counted act.Restore restore_needs) (if_needs l.place (saves_body l) act.Save save_needs))
      (max-le (enter_needs (l.region + 1)) (is (body_site l site (first + before_body l)) (first + before_body l))))
      (over_needs l.place l.body.jumps.breaks (((first + before_body l) + l.body.size) + break_size l)))
      (pad_needs l.place act.Exit l.body.jumps.breaks end exit_needs))
      (max-le exit_needs (if_needs l.place (saves_body l) act.Back back_needs))

  turns_need : (l : LoopParts) → Needs l.body → PieceNeeds l.test → up_to_operand l.test.gives ≤ bound → PieceNeeds l.step → (site : Site) (first : ℕ) → registers_of (turns_code program l site first) ≤ bound
  turns_need l is test given step site first =
      both_need bound _ (instruction program l.place (act.Test l.test.gives (first + before_turns l) (end_of l first) None class.Test) ∷ [])
      (both_need bound _ (l.test.code ((first + before_turns l) + turn_size l))
      (both_need bound _ (l.step.code (((first + before_turns l) + body_size l) + one_if (restores_step l)))
      (both_need bound (body_code program l site (end_of l first) (first + before_turns l)) (if_so program l.place (restores_step l) act.Restore)
      (body_needs l is site (end_of l first) (first + before_turns l)) (if_needs l.place (restores_step l) act.Restore restore_needs))
      (step (((first + before_turns l) + body_size l) + one_if (restores_step l))))
      (test ((first + before_turns l) + turn_size l)))
      (max-le (test_needs l.test.gives (first + before_turns l) (end_of l first) class.Test given) none)

  pub loop_needs : (l : LoopParts) → Needs l.body → PieceNeeds l.test → up_to_operand l.test.gives ≤ bound → PieceNeeds l.step → Needs (loop program l)
  loop_needs l is test given step = settled_needs (stays_behind_loop l.counted l.body.jumps) (inside_loop program l) (λ site first.
      both_need bound ((instruction program l.place (act.Enter l.region) ∷ if_so program l.place l.tested (act.Jump ((first + before_turns l) + turn_size l))) ++ turns_code program l site first)
      (instruction program l.place act.Exit ∷ [])
      (both_need bound (instruction program l.place (act.Enter l.region) ∷ if_so program l.place l.tested (act.Jump ((first + before_turns l) + turn_size l))) (turns_code program l site first)
      (max-le (enter_needs l.region) (if_needs l.place l.tested (act.Jump ((first + before_turns l) + turn_size l)) (jump_needs ((first + before_turns l) + turn_size l))))
      (turns_need l is test given step site first))
      (max-le exit_needs none))
