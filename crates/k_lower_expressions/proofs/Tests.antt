-- Tests are emitted before what stands under them, with their targets filled in behind it.
use Rattle.std.proofs.Common.{ℕ, ◌≡◌, ◌+◌, Bool, true, false, List, [], ◌∷◌, ◌++◌, length, slice_set, Option, None, refl, sym, ap, ◌∙◌, append_assoc, length-append, arith}
use Rattle.std.proofs.lemmas.List.{length-set, set_at}
use Rattle.k_num.specs.declared.place.Place.{Place}
use Rattle.k_code.specs.declared.instruction.Arg.{Arg}
use Rattle.k_code.specs.declared.instruction.Do.{Do}
use Rattle.k_code.specs.declared.instruction.Do.TheVariants as act
use Rattle.k_code.specs.declared.instruction.Instr.{Instr}
use Rattle.k_evaluation.specs.States.{Program}
use Rattle.k_lower_code.specs.Operators.{chooses, tests_before}
use Rattle.k_lower_code.specs.Pieces.{Piece, does, instruction}
use Rattle.k_lower_expressions.specs.Makings.{test_by}
use Rattle.k_lower_expressions.proofs.Emitted.{Emitted}

module _ (program : Program) (place : Place) where
  -- what stands behind one instruction
  behind_instruction : {A : Type 0} (x : Do) (piece : Piece A) (u : A) (old one two : List Instr)
      → Emitted {A = Unit {0}} tt (does program place x) old one → Emitted u piece one two
      → two ≡ old ++ (instruction program place x ∷ piece.code (length old + 1))
  behind_instruction x piece u old one two first second =
      second.code ∙ (ap (λ (n : ℕ). one ++ piece.code n) first.size
      ∙ (ap (λ (m : List Instr). m ++ piece.code (length old + 1)) first.code
      ∙ append_assoc old (instruction program place x ∷ []) (piece.code (length old + 1))))

  -- such an instruction is replaced
  replaced : {A : Type 0} (x y : Do) (piece : Piece A) (u : A) (old one two : List Instr) (number : ℕ)
      → Emitted {A = Unit {0}} tt (does program place x) old one → Emitted u piece one two → number ≡ length old
      → slice_set two number (instruction program place y) ≡ old ++ (instruction program place y ∷ piece.code (length old + 1))
  replaced x y piece u old one two number first second is =
      ap (λ (l : List Instr). slice_set l number (instruction program place y)) (behind_instruction x piece u old one two first second)
      ∙ set_at old (instruction program place x) (piece.code (length old + 1)) (instruction program place y) number (sym is)

  -- a test, and a piece that is passed over where a truth was found
  pub tests_emitted : (decides : Bool) (to : Option ℕ) (a : Arg) (piece : Piece (Unit {0})) (x : Do) (old one two new : List Instr) (number inner behind : ℕ)
      → Emitted {A = Unit {0}} tt (does program place x) old one → Emitted {A = Unit {0}} tt piece one two
      → number ≡ length old → inner ≡ length one → behind ≡ length two
      → new ≡ slice_set two number (instruction program place (test_by decides a inner behind to))
      → Emitted {A = Unit {0}} tt (tests_before program place decides to a piece) old new
  tests_emitted decides to a piece x old one two new number inner behind first second number_is inner_is behind_is new_is =
      let code : List Instr = piece.code (length old + 1) in
      let test : ℕ → ℕ → Do = λ n m. test_by decides a n m to in
      let at_inner : inner ≡ length old + 1 = inner_is ∙ first.size in
      let at_behind : behind ≡ length old + 1 + piece.size = behind_is ∙ (second.size ∙ ap (λ (n : ℕ). n + piece.size) first.size) in
      let long : length new ≡ length two = ap (λ (l : List Instr). length l) new_is ∙ length-set two number (instruction program place (test inner behind)) in
      by_truth decides
      (new_is ∙ (replaced x (test inner behind) piece tt old one two number first second number_is
      ∙ (ap (λ (n : ℕ). old ++ (instruction program place (test n behind) ∷ code)) at_inner
      ∙ ap (λ (n : ℕ). old ++ (instruction program place (test (length old + 1) n) ∷ code)) at_behind)))
      (let a_size : length one ≡ length old + 1 = first.size in
      (let b_size : length two ≡ length one + piece.size = second.size in omega (arith, long, a_size, b_size)))
    where
      by_truth : (truth : Bool)
          → new ≡ old ++ (instruction program place (test_by truth a (length old + 1) (length old + 1 + piece.size) to) ∷ piece.code (length old + 1))
          → length new ≡ length old + (1 + piece.size) → Emitted {A = Unit {0}} tt (tests_before program place truth to a piece) old new
      by_truth false is long = record { gives = refl; code = is; size = long }
      by_truth true is long = record { gives = refl; code = is; size = long }

  -- a test and two arms, with a jump over the second
  pub chooses_emitted : {A : Type 0} (a : Arg) (piece other : Piece A) (x y : Do) (u v : A) (old one two three four five new : List Instr) (number jump inner second behind : ℕ)
      → Emitted {A = Unit {0}} tt (does program place x) old one → Emitted u piece one two
      → Emitted {A = Unit {0}} tt (does program place y) two three → Emitted v other three four
      → number ≡ length old → inner ≡ length one → jump ≡ length two → second ≡ length three → behind ≡ length four
      → five ≡ slice_set four number (instruction program place (test_by false a inner second None))
      → new ≡ slice_set five jump (instruction program place (act.Jump behind))
      → Emitted v (chooses program place a piece other) old new
  chooses_emitted {A} a piece other x y u v old one two three four five new number jump inner second behind
      one_is two_is three_is four_is number_is inner_is jump_is second_is behind_is five_is new_is =
      let first : ℕ = length old in
      let instr : Do → Instr = instruction program place in
      let test : ℕ → ℕ → Do = λ n m. test_by false a n m None in
      let inside : List Instr = piece.code (first + 1) in
      let last : List Instr = other.code (length two + 1) in
      let front : two ≡ old ++ (instr x ∷ inside) = behind_instruction x piece u old one two one_is two_is in
      let all : four ≡ two ++ (instr y ∷ last) = behind_instruction y other v two three four three_is four_is in
      let at_two : length two ≡ first + 1 + piece.size = two_is.size ∙ ap (λ (n : ℕ). n + piece.size) one_is.size in
      let at_three : length three ≡ length two + 1 = three_is.size in
      let at_four : length four ≡ length three + other.size = four_is.size in
      let long_front : length (old ++ (instr (test inner second) ∷ inside)) ≡ length two =
      length-append old (instr (test inner second) ∷ inside) ∙ (sym (length-append old (instr x ∷ inside)) ∙ sym (ap (λ (l : List Instr). length l) front)) in
      let five_at : five ≡ (old ++ (instr (test inner second) ∷ inside)) ++ (instr y ∷ last) =
      five_is ∙ (ap (λ (l : List Instr). slice_set l number (instr (test inner second))) (all ∙ (ap (λ (l : List Instr). l ++ (instr y ∷ last)) front ∙ append_assoc old (instr x ∷ inside) (instr y ∷ last)))
      ∙ (set_at old (instr x) (inside ++ (instr y ∷ last)) (instr (test inner second)) number (sym number_is)
      ∙ sym (append_assoc old (instr (test inner second) ∷ inside) (instr y ∷ last)))) in
      let new_at : new ≡ old ++ ((instr (test inner second) ∷ inside) ++ (instr (act.Jump behind) ∷ last)) =
      new_is ∙ (ap (λ (l : List Instr). slice_set l jump (instr (act.Jump behind))) five_at
      ∙ (set_at (old ++ (instr (test inner second) ∷ inside)) (instr y) last (instr (act.Jump behind)) jump (long_front ∙ sym jump_is)
      ∙ append_assoc old (instr (test inner second) ∷ inside) (instr (act.Jump behind) ∷ last))) in
      let at_inner : inner ≡ first + 1 = inner_is ∙ one_is.size in
      let at_second : second ≡ first + 1 + piece.size + 1 = second_is ∙ (at_three ∙ ap (λ (n : ℕ). n + 1) at_two) in
      let at_behind : behind ≡ first + 1 + piece.size + 1 + other.size = behind_is ∙ (at_four ∙ ap (λ (n : ℕ). n + other.size) (at_three ∙ ap (λ (n : ℕ). n + 1) at_two)) in
      let text : ℕ → ℕ → ℕ → List Instr → List Instr = λ n m k l. old ++ ((instr (test n m) ∷ inside) ++ (instr (act.Jump k) ∷ l)) in
      let long : length new ≡ length four =
      ap (λ (l : List Instr). length l) new_is ∙ (length-set five jump (instr (act.Jump behind)) ∙ (ap (λ (l : List Instr). length l) five_is ∙ length-set four number (instr (test inner second)))) in
      record {
        gives = four_is.gives;
        code = new_at ∙ (ap (λ (n : ℕ). text n second behind last) at_inner ∙ (ap (λ (n : ℕ). text (first + 1) n behind last) at_second
            ∙ (ap (λ (n : ℕ). text (first + 1) (first + 1 + piece.size + 1) n last) at_behind
            ∙ ap (λ (n : ℕ). text (first + 1) (first + 1 + piece.size + 1) (first + 1 + piece.size + 1 + other.size) (other.code (n + 1))) at_two)));
        size = (let is : first ≡ length old = refl in omega (arith, long, at_two, at_three, at_four, is));
      }
