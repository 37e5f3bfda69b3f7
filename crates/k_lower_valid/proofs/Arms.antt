-- The arms of an `if`.
use Rattle.std.proofs.Common.{ℕ, suc, ◌≡◌, ◌+◌, ◌<◌, ◌≤◌, ◌||◌, Bool, false, List, ◌∷◌, ◌++◌, length, None, refl, sym, subst, ◌∙◌, arith}
use Rattle.std.proofs.lemmas.Bool.{or_left, or_right, true≢false}
use Rattle.std.proofs.lemmas.List.{length-append}
use Rattle.k_num.specs.declared.place.Place.{Place}
use Rattle.k_optab.specs.declared.class.Class.TheVariants as class
use Rattle.k_code.specs.declared.balance.Balance.{Balance}
use Rattle.k_code.specs.declared.code.Code.{Code}
use Rattle.k_code.specs.declared.instruction.Arg.{Arg}
use Rattle.k_code.specs.declared.instruction.Do.TheVariants as act
use Rattle.k_code.specs.declared.instruction.Instr.{Instr}
use Rattle.k_code.specs.Balances.{jumps_to}
use Rattle.k_evaluation.specs.States.{Program}
use Rattle.k_lower_code.specs.Pieces.{Piece, instruction}
use Rattle.k_lower_code.specs.Statements.{one_arm, two_arms}
use Rattle.k_lower_code.specs.Stretches.{Site, Stretch}
use Rattle.k_lower_valid.proofs.Booleans.{or_either}
use Rattle.k_lower_valid.proofs.Texts.{Text, opened, as_before, Labelled, labelled_first, labelled_rest, HasTable, jumps, tests}
use Rattle.k_lower_valid.proofs.Stands.{Stands, moved}
use Rattle.k_lower_valid.proofs.Spans.{has_jump, Leaves, leaves_fewer, jump_first, jump_rest, objects_are, Spans}
use Rattle.k_lower_valid.proofs.Segments.{Segment, both_segments, between, one_segment, piece_segment, stretch_segment}

-- no jump leads out of such a text
pub no_leaves : (jump : Bool) (g : Text) (to behind : ℕ) (b : Balance) → jump ≡ false → Leaves jump g to behind b
no_leaves jump g to after b none holds = absurd (true≢false (sym holds ∙ none))

-- a text and a site, where none matters
abbrev pub nowhere : Text
nowhere = record { instr_at = λ n. None; before = λ n. opened 0 0 0; entry = 0; end = 0 }

abbrev pub somewhere : ℕ → Site
somewhere o = record { objects = o; breaks = 0; continues = 0 }

module _ (code : Code) (program : Program) (table : HasTable program) where
  -- what jumps out of a text goes to where it may
  abbrev Out : Stretch → Text → Site → ℕ → Balance → Type 0
  Out t g site behind b = Leaves t.jumps.breaks g site.breaks behind b × Leaves t.jumps.continues g site.continues behind b

  -- A TEST AND ONE ARM
  module _ (place : Place) (test : Piece Arg) (one : Stretch) (tested : Stands code test) (arm : Spans code one 0 0) where
    abbrev OneFacts : Text → Site → ℕ → ℕ → ℕ → ℕ → Type 0
    OneFacts g site s o r first =
        (g.before ((first + test.size) + 1) ≡ opened s o r) × (g.before (((first + test.size) + 1) + one.size) ≡ opened s o r)
        × (g.entry ≤ first) × (((first + test.size) + 1) + one.size < g.end) × Out one g site (((first + test.size) + 1) + one.size) (opened s o r)

    arm_segment : (g : Text) (site : Site) (s o r first : ℕ) → site.objects ≡ o
        → Segment code (OneFacts g site s o r first) g ((first + test.size) + 1) (one.code site ((first + test.size) + 1)) (arm.marks s o r) one.size (opened s o r) (opened s o r)
    arm_segment g site s o r first enters =
        between (opened s o r) (opened s o r) (objects_are s r (o + 0) o (omega arith)) (objects_are s r (o + 0) o (omega arith))
        (stretch_segment ((first + test.size) + 1) s o r 0 0 0 site one arm (omega (arith, enters)) (omega arith) (λ facts. facts.4.0) (λ facts. facts.4.1))

    one_segment_ : (g : Text) (site : Site) (s o r first : ℕ) → site.objects ≡ o
        → Segment code (OneFacts g site s o r first) g first ((one_arm program place test one).code site first) (tested.marks s o r ++ (opened s o r ∷ arm.marks s o r)) ((test.size + 1) + one.size) (opened s o r) (opened s o r)
    one_segment_ g site s o r first enters =
        both_segments (first + test.size) ((test.size + 1) + one.size) refl (omega arith) (piece_segment first s o r test tested)
        (both_segments ((first + test.size) + 1) (1 + one.size) refl refl
        (one_segment (λ facts has here next low high. tests code g program place test.gives ((first + test.size) + 1) (((first + test.size) + 1) + one.size) None class.Test (first + test.size) (opened s o r) table refl
        here facts.0 facts.1 next (let e : g.entry ≤ (first + test.size) + 1 = omega (arith, facts.2) in e) (let e : (first + test.size) + 1 < g.end = omega (arith, facts.3) in e)
        (let e : g.entry ≤ ((first + test.size) + 1) + one.size = omega (arith, facts.2) in e) facts.3))
        (arm_segment g site s o r first enters))

    pub one_arm_spans : Spans code (one_arm program place test one) 0 0
    one_arm_spans = record {
      sized = λ site first. (one_segment_ nowhere site 0 site.objects 0 first refl).sized;
      marks = λ s o r. tested.marks s o r ++ (opened s o r ∷ arm.marks s o r);
      long = λ s o r. (one_segment_ nowhere (somewhere o) s o r 0 refl).long;
      begins = λ g s o r a z first enters leaves labels end.
          (one_segment_ g (somewhere o) s o r first refl).begins labels (end ∙ objects_are s r z o (omega (arith, leaves))) ∙ objects_are s r o a (omega (arith, enters));
      fine = λ g site s o r z first enters leaves saved has labels end low high breaks continues.
          (let last : g.before (((first + test.size) + 1) + one.size) ≡ opened s o r = moved g (first + ((test.size + 1) + one.size)) (((first + test.size) + 1) + one.size) (opened s o r) (omega arith) (end ∙ objects_are s r z o (omega (arith, leaves))) in
          (let rest : Labelled g ((first + test.size) + 1) (arm.marks s o r) = (labelled_rest g first (tested.marks s o r) (opened s o r ∷ arm.marks s o r) test.size (tested.long s o r) labels).1 in
          (let start : g.before ((first + test.size) + 1) ≡ opened s o r = arm.begins g s o r o o ((first + test.size) + 1) (omega arith) (omega arith) rest last in
          (one_segment_ g site s o r first (omega (arith, enters))).fine (
            start,
            last,
            low,
            (let e : ((first + test.size) + 1) + one.size < g.end = omega (arith, high) in e),
            (
              leaves_fewer one.jumps.breaks g site.breaks (first + ((test.size + 1) + one.size)) (((first + test.size) + 1) + one.size) (opened s o r) (omega arith) breaks,
              leaves_fewer one.jumps.continues g site.continues (first + ((test.size + 1) + one.size)) (((first + test.size) + 1) + one.size) (opened s o r) (omega arith) continues,
            ),
          )
          has labels (end ∙ objects_are s r z o (omega (arith, leaves))) low high)));
      comes = λ site first holds. jump_rest site.continues (test.code first) (_ ∷ one.code site ((first + test.size) + 1))
          (or_right _ (has_jump site.continues (one.code site ((first + test.size) + 1))) (arm.comes site ((first + test.size) + 1) holds));
    }

  -- A TEST AND TWO ARMS
  module _ (place : Place) (test : Piece Arg) (one other : Stretch) (tested : Stands code test) (arm : Spans code one 0 0) (second : Spans code other 0 0) where
    -- the instructions behind the test, behind the first arm, and behind both
    abbrev arm_at : ℕ → ℕ
    arm_at first = (first + test.size) + 1

    abbrev jump_at : ℕ → ℕ
    jump_at first = arm_at first + one.size

    abbrev end_at : ℕ → ℕ
    end_at first = (jump_at first + 1) + other.size

    abbrev two_size : ℕ
    two_size = (((test.size + 1) + one.size) + 1) + other.size

    abbrev two_marks : ℕ → ℕ → ℕ → List Balance
    two_marks s o r = (tested.marks s o r ++ (opened s o r ∷ arm.marks s o r)) ++ (opened s o r ∷ second.marks s o r)

    pub record TwoFacts (g : Text) (site : Site) (s o r first : ℕ) : Type 0 where
      pub arm_label : g.before (arm_at first) ≡ opened s o r
      pub second_label : g.before (jump_at first + 1) ≡ opened s o r
      pub end_label : g.before (end_at first) ≡ opened s o r
      pub low : g.entry ≤ first
      pub high : end_at first < g.end
      pub one_out : Out one g site (jump_at first) (opened s o r)
      pub other_out : Out other g site (end_at first) (opened s o r)

    two_segment : (g : Text) (site : Site) (s o r first : ℕ) → site.objects ≡ o
        → Segment code (TwoFacts g site s o r first) g first ((two_arms program place test one other).code site first) (two_marks s o r) two_size (opened s o r) (opened s o r)
    two_segment g site s o r first enters =
        both_segments (jump_at first) two_size (omega arith) (omega arith)
        (both_segments (first + test.size) ((test.size + 1) + one.size) refl (omega arith) (piece_segment first s o r test tested)
        (both_segments (arm_at first) (1 + one.size) refl refl
        (one_segment (λ facts has here next low high. tests code g program place test.gives (arm_at first) (jump_at first + 1) None class.Test (first + test.size) (opened s o r) table refl
        here facts.arm_label facts.second_label next (let e : g.entry ≤ arm_at first = omega (arith, facts.low) in e) (let e : arm_at first < g.end = omega (arith, facts.high) in e)
        (let e : g.entry ≤ jump_at first + 1 = omega (arith, facts.low) in e) (let e : jump_at first + 1 < g.end = omega (arith, facts.high) in e)))
        (between (opened s o r) (opened s o r) (objects_are s r (o + 0) o (omega arith)) (objects_are s r (o + 0) o (omega arith))
        (stretch_segment (arm_at first) s o r 0 0 0 site one arm (omega (arith, enters)) (omega arith) (λ facts. facts.one_out.0) (λ facts. facts.one_out.1)))))
        (both_segments (jump_at first + 1) (1 + other.size) refl refl
        (one_segment (λ facts has here next low high. jumps code g program place (end_at first) (jump_at first) (opened s o r) table here facts.end_label (omega arith) facts.high (as_before (next ∙ sym here))))
        (between (opened s o r) (opened s o r) (objects_are s r (o + 0) o (omega arith)) (objects_are s r (o + 0) o (omega arith))
        (stretch_segment (jump_at first + 1) s o r 0 0 0 site other second (omega (arith, enters)) (omega arith) (λ facts. facts.other_out.0) (λ facts. facts.other_out.1))))

    two_facts : (g : Text) (site : Site) (s o r first : ℕ) → Labelled g first (two_marks s o r) → g.before (first + two_size) ≡ opened s o r → g.entry ≤ first → first + two_size < g.end
        → Leaves (one.jumps.breaks || other.jumps.breaks) g site.breaks (first + two_size) (opened s o r) → Leaves (one.jumps.continues || other.jumps.continues) g site.continues (first + two_size) (opened s o r)
        → TwoFacts g site s o r first
    two_facts g site s o r first labels end low high breaks continues =
        (let last : g.before (end_at first) ≡ opened s o r = moved g (first + two_size) (end_at first) (opened s o r) (omega arith) end in
        (let size : length (tested.marks s o r ++ (opened s o r ∷ arm.marks s o r)) ≡ (test.size + 1) + one.size = marks_size s o r in
        (let rest : Labelled g (first + ((test.size + 1) + one.size)) (opened s o r ∷ second.marks s o r) = labelled_rest g first (tested.marks s o r ++ (opened s o r ∷ arm.marks s o r)) (opened s o r ∷ second.marks s o r) ((test.size + 1) + one.size) size labels in
        (let rest_there : Labelled g (jump_at first) (opened s o r ∷ second.marks s o r) = subst (λ n. Labelled g n (opened s o r ∷ second.marks s o r)) (let e : first + ((test.size + 1) + one.size) ≡ jump_at first = omega arith in e) rest in
        (let second_start : g.before (jump_at first + 1) ≡ opened s o r = second.begins g s o r o o (jump_at first + 1) (omega arith) (omega arith) rest_there.1 last in
        (let front : Labelled g first (tested.marks s o r ++ (opened s o r ∷ arm.marks s o r)) = labelled_first g first (tested.marks s o r ++ (opened s o r ∷ arm.marks s o r)) (opened s o r ∷ second.marks s o r) labels in
        (let arm_marks : Labelled g (arm_at first) (arm.marks s o r) = (labelled_rest g first (tested.marks s o r) (opened s o r ∷ arm.marks s o r) test.size (tested.long s o r) front).1 in
        record {
          arm_label = arm.begins g s o r o o (arm_at first) (omega arith) (omega arith) arm_marks rest_there.0;
          second_label = second_start;
          end_label = last;
          low = low;
          high = omega (arith, high);
          one_out = (
            λ holds. leaves_fewer (one.jumps.breaks || other.jumps.breaks) g site.breaks (first + two_size) (jump_at first) (opened s o r) (omega arith) breaks (or_left one.jumps.breaks other.jumps.breaks holds),
            λ holds. leaves_fewer (one.jumps.continues || other.jumps.continues) g site.continues (first + two_size) (jump_at first) (opened s o r) (omega arith) continues (or_left one.jumps.continues other.jumps.continues holds),
          );
          other_out = (
            λ holds. leaves_fewer (one.jumps.breaks || other.jumps.breaks) g site.breaks (first + two_size) (end_at first) (opened s o r) (omega arith) breaks (or_right one.jumps.breaks other.jumps.breaks holds),
            λ holds. leaves_fewer (one.jumps.continues || other.jumps.continues) g site.continues (first + two_size) (end_at first) (opened s o r) (omega arith) continues (or_right one.jumps.continues other.jumps.continues holds),
          );
        })))))))
      where
        marks_size : (s o r : ℕ) → length (tested.marks s o r ++ (opened s o r ∷ arm.marks s o r)) ≡ (test.size + 1) + one.size
        marks_size s o r =
            (let two : length (tested.marks s o r ++ (opened s o r ∷ arm.marks s o r)) ≡ length (tested.marks s o r) + suc (length (arm.marks s o r)) = length-append (tested.marks s o r) (opened s o r ∷ arm.marks s o r) in
            (let x : length (tested.marks s o r) ≡ test.size = tested.long s o r in
            (let y : length (arm.marks s o r) ≡ one.size = arm.long s o r in omega (arith, two, x, y))))

    pub two_arms_spans : Spans code (two_arms program place test one other) 0 0
    two_arms_spans = record {
      sized = λ site first. (two_segment nowhere site 0 site.objects 0 first refl).sized;
      marks = two_marks;
      long = λ s o r. (two_segment nowhere (somewhere o) s o r 0 refl).long;
      begins = λ g s o r a z first enters leaves labels end.
          (two_segment g (somewhere o) s o r first refl).begins labels (end ∙ objects_are s r z o (omega (arith, leaves))) ∙ objects_are s r o a (omega (arith, enters));
      fine = λ g site s o r z first enters leaves saved has labels end low high breaks continues.
          (two_segment g site s o r first (omega (arith, enters))).fine
          (two_facts g site s o r first labels (end ∙ objects_are s r z o (omega (arith, leaves))) low high breaks continues)
          has labels (end ∙ objects_are s r z o (omega (arith, leaves))) low high;
      comes = λ site first holds. or_either one.jumps.continues other.jumps.continues
          (λ here. jump_first site.continues (test.code first ++ (test_here first ∷ one.code site (arm_at first))) (jump_here first ∷ other.code site (jump_at first + 1))
          (jump_rest site.continues (test.code first) (test_here first ∷ one.code site (arm_at first))
          (or_right (jumps_to (test_here first).act site.continues) (has_jump site.continues (one.code site (arm_at first))) (arm.comes site (arm_at first) here))))
          (λ later. jump_rest site.continues (test.code first ++ (test_here first ∷ one.code site (arm_at first))) (jump_here first ∷ other.code site (jump_at first + 1))
          (or_right (jumps_to (jump_here first).act site.continues) (has_jump site.continues (other.code site (jump_at first + 1))) (second.comes site (jump_at first + 1) later))) holds;
    }
      where
        test_here : ℕ → Instr
        test_here first = instruction program place (act.Test test.gives (arm_at first) (jump_at first + 1) None class.Test)

        jump_here : ℕ → Instr
        jump_here first = instruction program place (act.Jump (end_at first))
