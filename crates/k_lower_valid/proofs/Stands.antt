-- Pieces of code that may stand anywhere in a text: their sizes, the balances before their instructions, and that each of these is fine.
use Rattle.std.proofs.Common.{ℕ, suc, ◌≡◌, ◌+◌, ◌<◌, ◌≤◌, Bool, true, false, List, [], ◌∷◌, ◌++◌, length, Option, None, ◌-◌, refl, sym, subst, ap, ◌∙◌, arith}
use Rattle.std.proofs.lemmas.List.{length-append}
use Rattle.std.proofs.lemmas.Bool.{lt-ltb}
use Rattle.k_num.specs.declared.place.Place.{Place}
use Rattle.k_optab.specs.declared.class.Class.TheVariants as class
use Rattle.k_code.specs.declared.balance.Balance.{Balance}
use Rattle.k_code.specs.declared.code.Code.{Code}
use Rattle.k_code.specs.declared.instruction.Arg.{Arg}
use Rattle.k_code.specs.declared.instruction.Do.{Do}
use Rattle.k_code.specs.declared.instruction.Do.TheVariants as act
use Rattle.k_code.specs.declared.instruction.Instr.{Instr}
use Rattle.k_code.specs.Balances.{left_open, is_met, goes_on}
use Rattle.k_code.specs.Named.{is_there, text_is_short}
use Rattle.k_evaluation.specs.States.{Program}
use Rattle.k_lower_code.specs.Operators.{chooses, tests_before}
use Rattle.k_lower_code.specs.Pieces.{Piece, only, ◌>>>◌, does, sets, settled, instruction}
use Rattle.k_lower_code.proofs.Sizes.{IsSized, only_sized, binds_sized, does_sized, settled_sized}
use Rattle.k_lower_valid.proofs.Texts.{Text, opened, as_before, HasAt, Labelled, AllFine, has_first, has_rest, labelled_first, labelled_rest, fine_both, HasTable, goes, jumps, tests}

-- a number is another one
pub moved : (g : Text) (n m : ℕ) (b : Balance) → n ≡ m → g.before n ≡ b → g.before m ≡ b
moved g n m b is here = subst (λ k. g.before k ≡ b) is here

-- what one more and one less leave
pub one_more : (n : ℕ) → (n + 1) - 1 ≡ n
one_more n = omega arith

-- one more on both sides
pub by_one : (n m : ℕ) → n ≡ m → suc n ≡ 1 + m
by_one n m same = omega (arith, same)

module _ (code : Code) where
  -- A PIECE MAY STAND ANYWHERE: it has its size, and these are the balances before its instructions, where that is open which stands before it
  -- and behind it. Where its text has these, it begins with that balance, and its instructions are fine.
  pub record Stands {A : Type 0} (piece : Piece A) : Type 0 where
    pub sized : IsSized piece
    pub marks : ℕ → ℕ → ℕ → List Balance
    pub long : (s o r : ℕ) → length (marks s o r) ≡ piece.size
    pub begins : (g : Text) (s o r first : ℕ) → Labelled g first (marks s o r) → g.before (first + piece.size) ≡ opened s o r → g.before first ≡ opened s o r
    pub fine : (g : Text) (s o r first : ℕ) → HasAt g first (piece.code first) → Labelled g first (marks s o r) → g.before (first + piece.size) ≡ opened s o r
        → g.entry ≤ first → first + piece.size < g.end → AllFine code g first (piece.code first)

  pub only_stands : {A : Type 0} (a : A) → Stands (only a)
  only_stands a = record {
    sized = only_sized a;
    marks = λ s o r. [];
    long = λ s o r. refl;
    begins = λ g s o r first labels end. moved g (first + 0) first (opened s o r) (let e : first + 0 ≡ first = omega arith in e) end;
    fine = λ g s o r first has labels end low high. tt;
  }

  pub binds_stand : {A B : Type 0} (piece : Piece A) (next : A → Piece B) → Stands piece → Stands (next piece.gives) → Stands (piece >>> next)
  binds_stand piece next one other = record {
    sized = binds_sized piece next one.sized other.sized;
    marks = λ s o r. one.marks s o r ++ other.marks s o r;
    long = λ s o r. long s o r;
    begins = λ g s o r first labels end. one.begins g s o r first (labelled_first g first (one.marks s o r) (other.marks s o r) labels) (middle g s o r first labels end);
    fine = λ g s o r first has labels end low high. fine_both code g first (piece.code first) ((next piece.gives).code (first + piece.size)) piece.size (one.sized first)
        (one.fine g s o r first (has_first g first (piece.code first) ((next piece.gives).code (first + piece.size)) has)
        (labelled_first g first (one.marks s o r) (other.marks s o r) labels) (middle g s o r first labels end) low (omega (arith, high)))
        (other.fine g s o r (first + piece.size) (has_rest g first (piece.code first) ((next piece.gives).code (first + piece.size)) piece.size (one.sized first) has)
        (labelled_rest g first (one.marks s o r) (other.marks s o r) piece.size (one.long s o r) labels) (behind g s o r first end) (omega (arith, low)) (omega (arith, high)));
  }
    where
      long : (s o r : ℕ) → length (one.marks s o r ++ other.marks s o r) ≡ piece.size + (next piece.gives).size
      long s o r =
          (let two : length (one.marks s o r ++ other.marks s o r) ≡ length (one.marks s o r) + length (other.marks s o r) = length-append (one.marks s o r) (other.marks s o r) in
          (let a : length (one.marks s o r) ≡ piece.size = one.long s o r in
          (let b : length (other.marks s o r) ≡ (next piece.gives).size = other.long s o r in omega (arith, two, a, b))))

      behind : (g : Text) (s o r first : ℕ) → g.before (first + (piece.size + (next piece.gives).size)) ≡ opened s o r → g.before ((first + piece.size) + (next piece.gives).size) ≡ opened s o r
      behind g s o r first end = moved g (first + (piece.size + (next piece.gives).size)) ((first + piece.size) + (next piece.gives).size) (opened s o r) (omega arith) end

      middle : (g : Text) (s o r first : ℕ) → Labelled g first (one.marks s o r ++ other.marks s o r) → g.before (first + (piece.size + (next piece.gives).size)) ≡ opened s o r
          → g.before (first + piece.size) ≡ opened s o r
      middle g s o r first labels end = other.begins g s o r (first + piece.size)
          (labelled_rest g first (one.marks s o r) (other.marks s o r) piece.size (one.long s o r) labels) (behind g s o r first end)

  module _ (program : Program) (table : HasTable program) where
    -- an instruction that goes on and leaves all as it is
    pub does_stands : (place : Place) (what : Do) → goes_on what ≡ true → ((b : Balance) → left_open what b ≡ b) → ((b : Balance) → is_met what b ≡ true)
        → is_there code what ≡ true → text_is_short what ≡ true → Stands (does program place what)
    does_stands place what on same met there short = record {
      sized = does_sized program place what;
      marks = λ s o r. opened s o r ∷ [];
      long = λ s o r. refl;
      begins = λ g s o r first labels end. labels.0;
      fine = λ g s o r first has labels end low high.
          (goes code g program place what first (opened s o r) table on there short (met (opened s o r)) labels.0 (end ∙ sym (same (opened s o r))) high, tt);
    }

    pub sets_stand : (place : Place) (what : ℕ → Do) (to : ℕ) → goes_on (what to) ≡ true → ((b : Balance) → left_open (what to) b ≡ b) → ((b : Balance) → is_met (what to) b ≡ true)
        → is_there code (what to) ≡ true → text_is_short (what to) ≡ true → Stands (sets program place what to)
    sets_stand place what to on same met there short =
        binds_stand (does program place (what to)) (λ done. only (Rattle.k_code.specs.declared.instruction.Arg.TheVariants.Reg to false)) (does_stands place (what to) on same met there short) (only_stands _)

    -- a piece between a `Save` and a `Back`
    pub settled_stands : {A : Type 0} (place : Place) (piece : Piece A) → Stands piece → Stands (settled program place piece)
    unfolding goes_on left_open is_met is_there
    settled_stands place piece one = record {
      sized = settled_sized program place piece one.sized;
      marks = λ s o r. opened s o r ∷ (one.marks (s + 1) o r ++ (opened (s + 1) o r ∷ []));
      long = λ s o r. long s o r;
      begins = λ g s o r first labels end. labels.0;
      fine = λ g s o r first has labels end low high. (
        goes code g program place act.Save first (opened s o r) table refl refl refl refl labels.0 (start g s o r first labels) (omega (arith, high)),
        fine_both code g (first + 1) (piece.code (first + 1)) (instruction program place act.Back ∷ []) piece.size (one.sized (first + 1))
            (one.fine g (s + 1) o r (first + 1) (has_first g (first + 1) (piece.code (first + 1)) (instruction program place act.Back ∷ []) has.1)
            (labelled_first g (first + 1) (one.marks (s + 1) o r) (opened (s + 1) o r ∷ []) labels.1) (last g s o r first labels) (omega (arith, low)) (omega (arith, high))) (
              goes code g program place act.Back ((first + 1) + piece.size) (opened (s + 1) o r) table refl refl refl (lt-ltb 0 (s + 1) (omega arith)) (last g s o r first labels)
                  (moved g (first + (1 + (piece.size + (1 + 0)))) (((first + 1) + piece.size) + 1) (opened s o r) (omega arith) end ∙ ap (λ n. opened n o r) (sym (one_more s))) (omega (arith, high)),
              tt,
            ),
      );
    }
      where
        long : (s o r : ℕ) → length (opened s o r ∷ (one.marks (s + 1) o r ++ (opened (s + 1) o r ∷ []))) ≡ 1 + (piece.size + (1 + 0))
        long s o r =
            (let two : length (one.marks (s + 1) o r ++ (opened (s + 1) o r ∷ [])) ≡ length (one.marks (s + 1) o r) + 1 = length-append (one.marks (s + 1) o r) (opened (s + 1) o r ∷ []) in
            (let a : length (one.marks (s + 1) o r) ≡ piece.size = one.long (s + 1) o r in omega (arith, two, a)))

        last : (g : Text) (s o r first : ℕ) → Labelled g first (opened s o r ∷ (one.marks (s + 1) o r ++ (opened (s + 1) o r ∷ []))) → g.before ((first + 1) + piece.size) ≡ opened (s + 1) o r
        last g s o r first labels = (labelled_rest g (first + 1) (one.marks (s + 1) o r) (opened (s + 1) o r ∷ []) piece.size (one.long (s + 1) o r) labels.1).0

        start : (g : Text) (s o r first : ℕ) → Labelled g first (opened s o r ∷ (one.marks (s + 1) o r ++ (opened (s + 1) o r ∷ []))) → g.before (first + 1) ≡ opened (s + 1) o r
        start g s o r first labels = one.begins g (s + 1) o r (first + 1) (labelled_first g (first + 1) (one.marks (s + 1) o r) (opened (s + 1) o r ∷ []) labels.1) (last g s o r first labels)

    -- a test and a piece that is jumped over
    pub tests_before_stands : (place : Place) (decides : Bool) (to : Option ℕ) (a : Arg) (piece : Piece (Unit {0})) → Stands piece → Stands (tests_before program place decides to a piece)
    tests_before_stands place false to a piece one = record {
      sized = λ first. by_one _ _ (one.sized (first + 1));
      marks = λ s o r. opened s o r ∷ one.marks s o r;
      long = λ s o r. by_one _ _ (one.long s o r);
      begins = λ g s o r first labels end. labels.0;
      fine = λ g s o r first has labels end low high.
          (let over : g.before ((first + 1) + piece.size) ≡ opened s o r = moved g (first + (1 + piece.size)) ((first + 1) + piece.size) (opened s o r) (omega arith) end in
          (let start : g.before (first + 1) ≡ opened s o r = one.begins g s o r (first + 1) labels.1 over in (
            tests code g program place a (first + 1) ((first + 1) + piece.size) to class.Test first (opened s o r) table refl labels.0 start over start
                (omega (arith, low)) (omega (arith, high)) (omega (arith, low)) (omega (arith, high)),
            one.fine g s o r (first + 1) has.1 labels.1 over (omega (arith, low)) (omega (arith, high)),
          )));
    }
    tests_before_stands place true to a piece one = record {
      sized = λ first. by_one _ _ (one.sized (first + 1));
      marks = λ s o r. opened s o r ∷ one.marks s o r;
      long = λ s o r. by_one _ _ (one.long s o r);
      begins = λ g s o r first labels end. labels.0;
      fine = λ g s o r first has labels end low high.
          (let over : g.before ((first + 1) + piece.size) ≡ opened s o r = moved g (first + (1 + piece.size)) ((first + 1) + piece.size) (opened s o r) (omega arith) end in
          (let start : g.before (first + 1) ≡ opened s o r = one.begins g s o r (first + 1) labels.1 over in (
            tests code g program place a ((first + 1) + piece.size) (first + 1) to class.Test first (opened s o r) table refl labels.0 over start start
                (omega (arith, low)) (omega (arith, high)) (omega (arith, low)) (omega (arith, high)),
            one.fine g s o r (first + 1) has.1 labels.1 over (omega (arith, low)) (omega (arith, high)),
          )));
    }

    -- a test and two arms
    pub chooses_stands : {A : Type 0} (place : Place) (a : Arg) (one other : Piece A) → Stands one → Stands other → Stands (chooses program place a one other)
    chooses_stands place a one other first_arm second_arm = record {
      sized = sized;
      marks = λ s o r. opened s o r ∷ (first_arm.marks s o r ++ (opened s o r ∷ second_arm.marks s o r));
      long = long;
      begins = λ g s o r first labels end. labels.0;
      fine = λ g s o r first has labels end low high.
          (let rest_marks : Labelled g ((first + 1) + one.size) (opened s o r ∷ second_arm.marks s o r) = labelled_rest g (first + 1) (first_arm.marks s o r) (opened s o r ∷ second_arm.marks s o r) one.size (first_arm.long s o r) labels.1 in
          (let rest_has : HasAt g ((first + 1) + one.size) (jump first ∷ other.code (((first + 1) + one.size) + 1)) = has_rest g (first + 1) (one.code (first + 1)) (jump first ∷ other.code (((first + 1) + one.size) + 1)) one.size (first_arm.sized (first + 1)) has.1 in
          (let over : g.before ((((first + 1) + one.size) + 1) + other.size) ≡ opened s o r = moved g (first + (((1 + one.size) + 1) + other.size)) ((((first + 1) + one.size) + 1) + other.size) (opened s o r) (omega arith) end in
          (let second : g.before (((first + 1) + one.size) + 1) ≡ opened s o r = second_arm.begins g s o r (((first + 1) + one.size) + 1) rest_marks.1 over in
          (let one_marks : Labelled g (first + 1) (first_arm.marks s o r) = labelled_first g (first + 1) (first_arm.marks s o r) (opened s o r ∷ second_arm.marks s o r) labels.1 in
          (let start : g.before (first + 1) ≡ opened s o r = first_arm.begins g s o r (first + 1) one_marks rest_marks.0 in (
            tests code g program place a (first + 1) (((first + 1) + one.size) + 1) None class.Test first (opened s o r) table refl labels.0 start second start
                (omega (arith, low)) (omega (arith, high)) (omega (arith, low)) (omega (arith, high)),
            fine_both code g (first + 1) (one.code (first + 1)) (jump first ∷ other.code (((first + 1) + one.size) + 1)) one.size (first_arm.sized (first + 1))
                (first_arm.fine g s o r (first + 1) (has_first g (first + 1) (one.code (first + 1)) (jump first ∷ other.code (((first + 1) + one.size) + 1)) has.1) one_marks rest_marks.0 (omega (arith, low)) (omega (arith, high))) (
                  jumps code g program place ((((first + 1) + one.size) + 1) + other.size) ((first + 1) + one.size) (opened s o r) table rest_marks.0 over (omega arith) (omega (arith, high)) (as_before (second ∙ sym rest_marks.0)),
                  second_arm.fine g s o r (((first + 1) + one.size) + 1) rest_has.1 rest_marks.1 over (omega (arith, low)) (omega (arith, high)),
                ),
          )))))));
    }
      where
        jump : ℕ → Instr
        jump first = instruction program place (act.Jump ((((first + 1) + one.size) + 1) + other.size))

        sized : IsSized (chooses program place a one other)
        sized first =
            (let two : length (one.code (first + 1) ++ (jump first ∷ other.code (((first + 1) + one.size) + 1))) ≡ length (one.code (first + 1)) + suc (length (other.code (((first + 1) + one.size) + 1))) = length-append (one.code (first + 1)) (jump first ∷ other.code (((first + 1) + one.size) + 1)) in
            (let x : length (one.code (first + 1)) ≡ one.size = first_arm.sized (first + 1) in
            (let y : length (other.code (((first + 1) + one.size) + 1)) ≡ other.size = second_arm.sized (((first + 1) + one.size) + 1) in omega (arith, two, x, y))))

        long : (s o r : ℕ) → length (opened s o r ∷ (first_arm.marks s o r ++ (opened s o r ∷ second_arm.marks s o r))) ≡ ((1 + one.size) + 1) + other.size
        long s o r =
            (let two : length (first_arm.marks s o r ++ (opened s o r ∷ second_arm.marks s o r)) ≡ length (first_arm.marks s o r) + suc (length (second_arm.marks s o r)) = length-append (first_arm.marks s o r) (opened s o r ∷ second_arm.marks s o r) in
            (let x : length (first_arm.marks s o r) ≡ one.size = first_arm.long s o r in
            (let y : length (second_arm.marks s o r) ≡ other.size = second_arm.long s o r in omega (arith, two, x, y))))
