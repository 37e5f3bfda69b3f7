-- The code of a stretch speaks of no more of a call's objects than are live before it and than it has instructions.
use Rattle.std.proofs.Common.{ℕ, zero, suc, ◌≡◌, ◌+◌, ◌≤◌, ◌||◌, Bool, true, false, List, [], ◌∷◌, ◌++◌, Option, None, refl, arith}
use Rattle.std.proofs.Math.Nat.{max-le}
use Rattle.k_num.specs.declared.numbers.Bin.TheVariants.{Eq}
use Rattle.k_num.specs.declared.numbers.Kind.{Kind}
use Rattle.k_num.specs.declared.place.Place.{Place}
use Rattle.k_optab.specs.declared.class.Class.{Class}
use Rattle.k_optab.specs.declared.class.Class.TheVariants as class
use Rattle.k_marks_meaning.specs.declared.jumps.Jumps.{Jumps}
use Rattle.k_code.specs.declared.instruction.Arg.{Arg}
use Rattle.k_code.specs.declared.instruction.Arg.TheVariants.{Number, Reg}
use Rattle.k_code.specs.declared.instruction.Do.{Do}
use Rattle.k_code.specs.declared.instruction.Do.TheVariants as act
use Rattle.k_code.specs.declared.instruction.Instr.{Instr}
use Rattle.k_evaluation.specs.Loops.{stays_behind_loop}
use Rattle.k_evaluation.specs.States.{Program}
use Rattle.k_lower_code.specs.Loops.{LoopParts, if_so, saves_body, before_body, break_size, body_size, body_site, body_code, restores_step, turn_size, before_turns, end_of, turns_code, inside_loop, loop, one_if}
use Rattle.k_lower_code.specs.Pieces.{Piece, instruction}
use Rattle.k_lower_code.specs.Statements.{one_arm, two_arms}
use Rattle.k_lower_code.specs.Stretches.{Site, Stretch, behind, behind_objects, closed, pads, pads_size, pad, over, to_pads, followed_by, in_order, nothing_done, of_piece, settled_unless}
use Rattle.k_lower_code.specs.Switches.{PartLowered, ACase, ADefault, AStatement, before_default, cases_code, cases_size, skips, skips_size, statements_code, statements_of, switches}
use Rattle.k_lower_sizes.specs.Named.{objects_named, objects_of}
use Rattle.k_lower_sizes.proofs.ExpressionObjects.{Plain, both_name}

-- A STRETCH SPEAKS OF FEW: of no more objects than are live before it and than it has instructions
pub record NamesFew (t : Stretch) : Type 0 where
  pub opens : t.opens ≤ t.size
  pub names : (site : Site) (first : ℕ) → objects_of (t.code site first) ≤ site.objects + t.size

-- instructions that speak of none
jump_none : (bound to : ℕ) → objects_named (act.Jump to) ≤ bound
unfolding objects_named
jump_none bound to = omega arith

save_none : (bound : ℕ) → objects_named act.Save ≤ bound
unfolding objects_named
save_none bound = omega arith

back_none : (bound : ℕ) → objects_named act.Back ≤ bound
unfolding objects_named
back_none bound = omega arith

restore_none : (bound : ℕ) → objects_named act.Restore ≤ bound
unfolding objects_named
restore_none bound = omega arith

exit_none : (bound : ℕ) → objects_named act.Exit ≤ bound
unfolding objects_named
exit_none bound = omega arith

enter_none : (bound region : ℕ) → objects_named (act.Enter region) ≤ bound
unfolding objects_named
enter_none bound region = omega arith

test_none : (bound : ℕ) (a : Arg) (taken other : ℕ) (to : Option ℕ) (which : Class) → objects_named (act.Test a taken other to which) ≤ bound
unfolding objects_named
test_none bound a taken other to which = omega arith

compare_none : (bound : ℕ) (kind : Kind) (a b : Arg) (to : ℕ) → objects_named (act.Binary Eq kind a b to) ≤ bound
unfolding objects_named
compare_none bound kind a b to = omega arith

pub close_few : (bound count : ℕ) → count ≤ bound → objects_named (act.ObjectsClose count) ≤ bound
unfolding objects_named
close_few bound count few = few

pub nothing : (bound : ℕ) → 0 ≤ bound
nothing bound = omega arith

-- a piece that speaks of none
pub within : (bound : ℕ) (list : List Instr) → objects_of list ≤ 0 → objects_of list ≤ bound
within bound list none = omega (arith, none)

pub of_piece_few : (place : Place) (piece : Piece (Unit {0})) → Plain piece → NamesFew (of_piece place piece)
of_piece_few place piece none = record { opens = nothing piece.size; names = λ site first. within (site.objects + piece.size) (piece.code first) (none first) }

pub nothing_few : (place : Place) → NamesFew (nothing_done place)
nothing_few place = record { opens = nothing 0; names = λ site first. nothing (site.objects + 0) }

pub behind_few : (one other : Stretch) → NamesFew one → NamesFew other → NamesFew (behind one other)
behind_few one other a b =
    let p : one.opens ≤ one.size = a.opens in
    let q : other.opens ≤ other.size = b.opens in
    record {
      opens = (let e : one.opens + other.opens ≤ one.size + other.size = omega (arith, p, q) in e);
      names = λ site first.
          let x : objects_of (one.code site first) ≤ site.objects + one.size = a.names site first in
          let y : objects_of (other.code (behind_objects one.opens site) (first + one.size)) ≤ (site.objects + one.opens) + other.size = b.names (behind_objects one.opens site) (first + one.size) in
          both_name (site.objects + (one.size + other.size)) (one.code site first) (other.code (behind_objects one.opens site) (first + one.size)) (omega (arith, x)) (omega (arith, y, p));
    }

module _ (program : Program) where
  over_few : (bound : ℕ) (place : Place) (b : Bool) (to : ℕ) → objects_of (over program place b to) ≤ bound
  over_few bound place false to = nothing bound
  over_few bound place true to = max-le (jump_none bound to) (nothing bound)

  pad_few : (bound : ℕ) (place : Place) (closes : Do) (b : Bool) (to : ℕ) → objects_named closes ≤ bound → objects_of (pad program place closes b to) ≤ bound
  pad_few bound place closes false to is = nothing bound
  pad_few bound place closes true to is = max-le is (max-le (jump_none bound to) (nothing bound))

  pads_few : (bound : ℕ) (place : Place) (closes : Do) (j : Jumps) (site : Site) (first : ℕ) → objects_named closes ≤ bound → objects_of (pads program place closes j site first) ≤ bound
  pads_few bound place closes j site first is =
      both_name bound (over program place (j.breaks || j.continues) (first + pads_size j) ++ pad program place closes j.breaks site.breaks) (pad program place closes j.continues site.continues)
      (both_name bound (over program place (j.breaks || j.continues) (first + pads_size j)) (pad program place closes j.breaks site.breaks) (over_few bound place (j.breaks || j.continues) (first + pads_size j))
      (pad_few bound place closes j.breaks site.breaks is)) (pad_few bound place closes j.continues site.continues is)

  -- a closed text, where what it closes is live
  closed_names : (count : ℕ) (text : Stretch) → NamesFew text → (site : Site) (first : ℕ) → count ≤ site.objects
      → objects_of ((closed program (act.ObjectsClose count) text).code site first) ≤ site.objects + (closed program (act.ObjectsClose count) text).size
  closed_names count text is site first live =
      let bound : ℕ = site.objects + ((text.size + pads_size text.jumps) + 1) in
      let x : objects_of (text.code (to_pads text.jumps (first + text.size) site) first) ≤ site.objects + text.size = is.names (to_pads text.jumps (first + text.size) site) first in
      let closes : objects_named (act.ObjectsClose count) ≤ bound = close_few bound count (omega (arith, live)) in
      both_name bound (text.code (to_pads text.jumps (first + text.size) site) first ++ pads program text.place (act.ObjectsClose count) text.jumps site (first + text.size)) (instruction program text.place (act.ObjectsClose count) ∷ [])
      (both_name bound (text.code (to_pads text.jumps (first + text.size) site) first) (pads program text.place (act.ObjectsClose count) text.jumps site (first + text.size)) (omega (arith, x))
      (pads_few bound text.place (act.ObjectsClose count) text.jumps site (first + text.size) closes)) (max-le closes (nothing bound))

  pub followed_few : (s rest : Stretch) (n : ℕ) → s.opens ≡ n → NamesFew s → NamesFew rest → NamesFew (followed_by program s n rest)
  followed_few s rest zero same a b = behind_few s rest a b
  followed_few s rest (suc n) same a b =
      let p : s.opens ≤ s.size = a.opens in
      let long : ℕ = (closed program (act.ObjectsClose (suc n)) rest).size in
      record {
        opens = nothing (s.size + long);
        names = λ site first.
            let x : objects_of (s.code site first) ≤ site.objects + s.size = a.names site first in
            let y : objects_of ((closed program (act.ObjectsClose (suc n)) rest).code (behind_objects s.opens site) (first + s.size)) ≤ (site.objects + s.opens) + long =
            closed_names (suc n) rest b (behind_objects s.opens site) (first + s.size) (omega (arith, same)) in
            both_name (site.objects + (s.size + long)) (s.code site first) ((closed program (act.ObjectsClose (suc n)) rest).code (behind_objects s.opens site) (first + s.size)) (omega (arith, x)) (omega (arith, y, p));
      }

  abbrev pub AllFew : List Stretch → Type 0
  AllFew [] = Unit {0}
  AllFew (t ∷ ts) = NamesFew t × AllFew ts

  pub order_few : (place : Place) (ts : List Stretch) → AllFew ts → NamesFew (in_order program place ts)
  order_few place [] all = nothing_few place
  order_few place (t ∷ ts) all = followed_few t (in_order program place ts) t.opens refl all.0 (order_few place ts all.1)

  pub settled_few : (unless : Bool) (t : Stretch) → NamesFew t → NamesFew (settled_unless unless program t)
  settled_few true t is = is
  settled_few false t is =
      let p : t.opens ≤ t.size = is.opens in
      record {
        opens = (let e : t.opens ≤ (1 + t.size) + 1 = omega (arith, p) in e);
        names = λ site first.
            let bound : ℕ = site.objects + ((1 + t.size) + 1) in
            let x : objects_of (t.code site (first + 1)) ≤ site.objects + t.size = is.names site (first + 1) in
            both_name bound (instruction program t.place act.Save ∷ t.code site (first + 1)) (instruction program t.place act.Back ∷ []) (max-le (save_none bound) (omega (arith, x))) (max-le (back_none bound) (nothing bound));
      }

  pub one_arm_few : (place : Place) (test : Piece Arg) (one : Stretch) → Plain test → NamesFew one → NamesFew (one_arm program place test one)
  one_arm_few place test one none is = record {
    opens = nothing ((test.size + 1) + one.size);
    names = λ site first.
        let bound : ℕ = site.objects + ((test.size + 1) + one.size) in
        let x : objects_of (one.code site ((first + test.size) + 1)) ≤ site.objects + one.size = is.names site ((first + test.size) + 1) in
        both_name bound (test.code first) (_ ∷ one.code site ((first + test.size) + 1)) (within bound (test.code first) (none first)) (max-le (test_none bound test.gives _ _ None class.Test) (omega (arith, x)));
  }

  pub two_arms_few : (place : Place) (test : Piece Arg) (one other : Stretch) → Plain test → NamesFew one → NamesFew other → NamesFew (two_arms program place test one other)
  two_arms_few place test one other none is also = record {
    opens = nothing ((((test.size + 1) + one.size) + 1) + other.size);
    names = λ site first.
        let bound : ℕ = site.objects + ((((test.size + 1) + one.size) + 1) + other.size) in
        let x : objects_of (one.code site ((first + test.size) + 1)) ≤ site.objects + one.size = is.names site ((first + test.size) + 1) in
        let y : objects_of (other.code site ((((first + test.size) + 1) + one.size) + 1)) ≤ site.objects + other.size = also.names site ((((first + test.size) + 1) + one.size) + 1) in
        both_name bound (test.code first ++ (_ ∷ one.code site ((first + test.size) + 1))) (_ ∷ other.code site ((((first + test.size) + 1) + one.size) + 1))
        (both_name bound (test.code first) (_ ∷ one.code site ((first + test.size) + 1)) (within bound (test.code first) (none first)) (max-le (test_none bound test.gives _ _ None class.Test) (omega (arith, x))))
        (max-le (jump_none bound _) (omega (arith, y)));
  }

  -- LOOPS
  if_few : (bound : ℕ) (place : Place) (b : Bool) (what : Do) → objects_named what ≤ bound → objects_of (if_so program place b what) ≤ bound
  if_few bound place false what is = nothing bound
  if_few bound place true what is = max-le is (nothing bound)

  body_few : (l : LoopParts) (bound : ℕ) (site : Site) (end first : ℕ) → objects_of (l.body.code (body_site l site (first + before_body l)) (first + before_body l)) ≤ bound → objects_of (body_code program l site end first) ≤ bound
  body_few l bound site end first is =
      both_name bound _ (instruction program l.place act.Exit ∷ if_so program l.place (saves_body l) act.Back)
      (both_name bound _ (pad program l.place act.Exit l.body.jumps.breaks end)
      (both_name bound _ (over program l.place l.body.jumps.breaks (((first + before_body l) + l.body.size) + break_size l))
      (both_name bound (if_so program l.place l.counted act.Restore ++ if_so program l.place (saves_body l) act.Save)
      (instruction program l.place (act.Enter (l.region + 1)) ∷ l.body.code (body_site l site (first + before_body l)) (first + before_body l))
      (both_name bound (if_so program l.place l.counted act.Restore) (if_so program l.place (saves_body l) act.Save) (if_few bound l.place l.counted act.Restore (restore_none bound))
      (if_few bound l.place (saves_body l) act.Save (save_none bound))) (max-le (enter_none bound (l.region + 1)) is))
      (over_few bound l.place l.body.jumps.breaks (((first + before_body l) + l.body.size) + break_size l))) (pad_few bound l.place act.Exit l.body.jumps.breaks end (exit_none bound)))
      (max-le (exit_none bound) (if_few bound l.place (saves_body l) act.Back (back_none bound)))

  turns_few : (l : LoopParts) (bound : ℕ) (site : Site) (first : ℕ) → Plain l.test → Plain l.step
      → objects_of (l.body.code (body_site l site ((first + before_turns l) + before_body l)) ((first + before_turns l) + before_body l)) ≤ bound → objects_of (turns_code program l site first) ≤ bound
  turns_few l bound site first test step is =
      both_name bound _ (instruction program l.place (act.Test l.test.gives (first + before_turns l) (end_of l first) None class.Test) ∷ [])
      (both_name bound _ (l.test.code ((first + before_turns l) + turn_size l))
      (both_name bound _ (l.step.code (((first + before_turns l) + body_size l) + one_if (restores_step l)))
      (both_name bound (body_code program l site (end_of l first) (first + before_turns l)) (if_so program l.place (restores_step l) act.Restore) (body_few l bound site (end_of l first) (first + before_turns l) is)
      (if_few bound l.place (restores_step l) act.Restore (restore_none bound)))
      (within bound (l.step.code (((first + before_turns l) + body_size l) + one_if (restores_step l))) (step (((first + before_turns l) + body_size l) + one_if (restores_step l)))))
      (within bound (l.test.code ((first + before_turns l) + turn_size l)) (test ((first + before_turns l) + turn_size l))))
      (max-le (test_none bound l.test.gives (first + before_turns l) (end_of l first) None class.Test) (nothing bound))

  pub loop_few : (l : LoopParts) → NamesFew l.body → Plain l.test → Plain l.step → NamesFew (loop program l)
  loop_few l is test step = settled_few (stays_behind_loop l.counted l.body.jumps) (inside_loop program l) (record {
    opens = nothing (inside_loop program l).size;
    names = λ site first.
        let bound : ℕ = site.objects + (inside_loop program l).size in
        let x : objects_of (l.body.code (body_site l site ((first + before_turns l) + before_body l)) ((first + before_turns l) + before_body l)) ≤ site.objects + l.body.size =
        is.names (body_site l site ((first + before_turns l) + before_body l)) ((first + before_turns l) + before_body l) in
        let long : l.body.size ≤ (inside_loop program l).size = omega arith in
        both_name bound ((instruction program l.place (act.Enter l.region) ∷ if_so program l.place l.tested (act.Jump ((first + before_turns l) + turn_size l))) ++ turns_code program l site first)
        (instruction program l.place act.Exit ∷ [])
        (both_name bound (instruction program l.place (act.Enter l.region) ∷ if_so program l.place l.tested (act.Jump ((first + before_turns l) + turn_size l))) (turns_code program l site first)
        (max-le (enter_none bound l.region) (if_few bound l.place l.tested (act.Jump ((first + before_turns l) + turn_size l)) (jump_none bound ((first + before_turns l) + turn_size l))))
        (turns_few l bound site first test step (omega (arith, x, long)))) (max-le (exit_none bound) (nothing bound));
  })

  -- SWITCHES
  cases_few : (bound : ℕ) (kind : Kind) (r : ℕ) (on : Arg) (ps : List PartLowered) (at first : ℕ) → objects_of (cases_code program kind r on ps at first) ≤ bound
  cases_few bound kind r on [] at first = nothing bound
  cases_few bound kind r on (ACase place z ∷ ps) at first =
      max-le (compare_none bound kind on (Number z) (r + 1)) (max-le (test_none bound (Reg (r + 1) false) at (first + 2) None class.Select) (cases_few bound kind r on ps at (first + 2)))
  cases_few bound kind r on (ADefault ∷ ps) at first = cases_few bound kind r on ps at first
  cases_few bound kind r on (AStatement s ∷ ps) at first = cases_few bound kind r on ps (at + s.size) first

  skips_few : (bound : ℕ) (place : Place) (n first : ℕ) → objects_of (skips program place n first) ≤ bound
  skips_few bound place zero first = nothing bound
  skips_few bound place (suc n) first = max-le (jump_none bound _) (nothing bound)

  pub switches_few : (place : Place) (kind : Kind) (r : ℕ) (ps : List PartLowered) (on : Piece Arg) → Plain on → AllFew (statements_of ps) → NamesFew (switches program place kind r ps on)
  switches_few place kind r ps on none all =
      let block : NamesFew (in_order program place (statements_of ps)) = order_few place (statements_of ps) all in
      record {
        opens = nothing (switches program place kind r ps on).size;
        names = λ site first.
            let bound : ℕ = site.objects + (switches program place kind r ps on).size in
            let begin : ℕ = ((first + on.size) + cases_size ps) + skips_size (before_default ps) in
            let x : objects_of (statements_code program place ps site begin) ≤ site.objects + (in_order program place (statements_of ps)).size =
            block.names (record site { breaks = begin + (in_order program place (statements_of ps)).size }) begin in
            both_name bound _ (statements_code program place ps site begin)
            (both_name bound _ (skips program place (before_default ps) ((first + on.size) + cases_size ps))
            (both_name bound (on.code first) (cases_code program kind r on.gives ps begin (first + on.size)) (within bound (on.code first) (none first)) (cases_few bound kind r on.gives ps begin (first + on.size)))
            (skips_few bound place (before_default ps) ((first + on.size) + cases_size ps))) (omega (arith, x));
      }
