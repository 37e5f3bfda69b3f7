-- Loops: their bodies in their regions, their turns, and the whole.
use Rattle.std.proofs.Common.{ℕ, ◌≡◌, ◌+◌, ◌-◌, ◌<◌, ◌≤◌, not, ◌&&◌, ◌||◌, Bool, true, false, List, [], ◌∷◌, ◌++◌, length, Some, None, refl, sym, subst, ap, ◌∙◌, arith}
use Rattle.std.proofs.lemmas.Bool.{and_parts, eq-eqb, lt-ltb, true≢false}
use Rattle.k_num.specs.declared.place.Place.{Place}
use Rattle.k_optab.specs.declared.class.Class.TheVariants as class
use Rattle.k_code.specs.declared.balance.Balance.{Balance}
use Rattle.k_code.specs.declared.code.Code.{Code}
use Rattle.k_code.specs.declared.instruction.Do.TheVariants as act
use Rattle.k_code.specs.declared.instruction.Instr.{Instr}
use Rattle.k_code.specs.Balances.{left_open, is_met, goes_on, jumps_to}
use Rattle.k_code.specs.Named.{is_there}
use Rattle.k_evaluation.specs.Loops.{stays_behind_loop}
use Rattle.k_evaluation.specs.States.{Program}
use Rattle.k_lower_code.specs.Loops.{LoopParts, if_so, one_if, saves_body, before_body, break_size, body_size, body_site, body_code, restores_step, turn_size, before_turns, inside_loop, loop}
use Rattle.k_lower_code.specs.Pieces.{instruction}
use Rattle.k_lower_code.specs.Stretches.{Site, over, over_size, pad, pad_size, settled_unless}
use Rattle.k_lower_valid.proofs.Texts.{Text, opened, as_before, by_jump, HasAt, Labelled, has_first, has_rest, labelled_first, labelled_rest, HasTable, jumps, tests}
use Rattle.k_lower_valid.proofs.Stands.{Stands, moved, one_more}
use Rattle.k_lower_valid.proofs.Spans.{over_marks, pad_marks, Comes, Leaves, objects_are, Spans, SpansFrom}
use Rattle.k_lower_valid.proofs.Segments.{Segment, sum_long, both_segments, between, no_segment, one_segment, piece_segment, stretch_segment, going_segment, if_segment, marks_if}
use Rattle.k_lower_valid.proofs.Blocks.{settled_spans, settled_unless_spans}
use Rattle.k_lower_valid.proofs.Arms.{nowhere, somewhere}

-- so many control sources are saved more
more_one : (s o r : ℕ) (so : Bool) → so ≡ true → opened (s + 1) o r ≡ opened (s + one_if so) o r
more_one s o r so is = ap (λ b. opened (s + one_if b) o r) (sym is)

more_none : (s o r : ℕ) (so : Bool) → so ≡ false → opened s o r ≡ opened (s + one_if so) o r
more_none s o r so is = ap (λ k. opened k o r) (let e : s ≡ s + 0 = omega arith in e) ∙ ap (λ b. opened (s + one_if b) o r) (sym is)

less_one : (s o r : ℕ) (so : Bool) → so ≡ true → opened ((s + one_if so) - 1) o r ≡ opened s o r
less_one s o r so is = ap (λ b. opened ((s + one_if b) - 1) o r) is ∙ ap (λ k. opened k o r) (one_more s)

one_met : (s : ℕ) (so : Bool) → so ≡ true → 0 < s + one_if so
one_met s so is = subst (λ b. 0 < s + one_if b) (sym is) (let e : 0 < s + 1 = omega arith in e)

-- the pad of a `break` and the jump over it
pads_two : (b : Bool) (n : ℕ) → b ≡ true → (n + over_size b) + 2 ≡ n + (over_size b + pad_size b)
pads_two true n is = (let e : (n + 1) + 2 ≡ n + 3 = omega arith in e)
pads_two false n is = absurd (true≢false (sym is))

pads_above : (b : Bool) (n : ℕ) → b ≡ true → n < n + (over_size b + pad_size b)
pads_above true n is = (let e : n < n + 3 = omega arith in e)
pads_above false n is = absurd (true≢false (sym is))

over_long : (b : Bool) (inner : Balance) → length (over_marks b inner) ≡ over_size b
over_long false inner = refl
over_long true inner = refl

pad_long : (b : Bool) (inner outer : Balance) → length (pad_marks b inner outer) ≡ pad_size b
pad_long false inner outer = refl
pad_long true inner outer = refl

pad_label : (g : Text) (n : ℕ) (b : Bool) (inner outer : Balance) → b ≡ true → Labelled g n (pad_marks b inner outer) → g.before n ≡ inner
pad_label g n true inner outer is labels = labels.0
pad_label g n false inner outer is labels = absurd (true≢false (sym is))

-- a body that saves has no break
saves_no_break : (counted breaks continues returns : Bool) → breaks ≡ true → not counted && (continues && not (breaks || returns)) ≡ false
saves_no_break true true continues returns is = refl
saves_no_break false true true returns is = refl
saves_no_break false true false returns is = refl
saves_no_break counted false continues returns is = absurd (true≢false (sym is))

module _ (code : Code) (program : Program) (table : HasTable program) where
  abbrev ifs : Bool → Balance → List Balance
  ifs so b = marks_if code program table so b

  over_segment : {F : Type 0} (place : Place) (g : Text) (n to : ℕ) (b : Bool) (inner : Balance) → (F → b ≡ true → (n < to) × (to < g.end) × (g.before to ≡ inner))
      → Segment code F g n (over program place b to) (over_marks b inner) (over_size b) inner inner
  over_segment place g n to false inner facts = no_segment n inner
  over_segment place g n to true inner facts =
      one_segment (λ f has here next low high. jumps code g program place to n inner table here ((facts f refl).2) ((facts f refl).0) ((facts f refl).1) (as_before (next ∙ sym here)))

  over_there : (place : Place) (g : Text) (n to : ℕ) (b : Bool) → b ≡ true → HasAt g n (over program place b to) → g.instr_at n ≡ Some (instruction program place (act.Jump to))
  over_there place g n to true is has = has.0
  over_there place g n to false is has = absurd (true≢false (sym is))

  pad_segment : {F : Type 0} (place : Place) (g : Text) (n end : ℕ) (b : Bool) (s o r : ℕ) → (F → b ≡ true → (n + 2 < end) × (end < g.end) × (g.before end ≡ opened s o r))
      → (F → b ≡ true → Comes g n (n + 2))
      → Segment code F g n (pad program place act.Exit b end) (pad_marks b (opened s o (r + 1)) (opened s o r)) (pad_size b) (opened s o (r + 1)) (opened s o (r + 1))
  unfolding goes_on left_open is_met is_there
  pad_segment place g n end false s o r facts comes = no_segment n (opened s o (r + 1))
  pad_segment {F = F} place g n end true s o r facts comes =
      both_segments (n + 1) 2 refl refl
      (going_segment code program table place act.Exit (opened s o (r + 1)) (opened s o r) refl refl refl (lt-ltb 0 (r + 1) (omega arith)) (ap (λ k. opened s o k) (one_more r)))
      (one_segment {code = code} {F = F} {g = g} {first = n + 1} (λ f has here next low high. jumps code g program place end (n + 1) (opened s o r) table here ((facts f refl).2)
      (let e : n + 1 < end = omega (arith, (facts f refl).0) in e) ((facts f refl).1)
      (by_jump (comes f refl).0 (comes f refl).1 (let e : (comes f refl).0 ≤ n + 1 = omega (arith, (comes f refl).2) in e) (comes f refl).3
      (subst (λ k. jumps_to (comes f refl).1.act k ≡ true) (let e : n + 2 ≡ (n + 1) + 1 = omega arith in e) (comes f refl).4))))

  module _ (l : LoopParts) (body : Spans code l.body 0 0) (inner_there : is_there code (act.Enter (l.region + 1)) ≡ true) where
    -- THE BODY in its region, of which the first instruction has this number
    abbrev jb : Bool
    jb = l.body.jumps.breaks

    abbrev sv : Bool
    sv = saves_body l

    abbrev more : ℕ → ℕ
    more s = s + one_if sv

    abbrev enter_at : ℕ → ℕ
    enter_at first = first + (one_if l.counted + one_if sv)

    abbrev inner_at : ℕ → ℕ
    inner_at first = first + before_body l

    abbrev behind_at : ℕ → ℕ
    behind_at first = inner_at first + l.body.size

    abbrev exit_at : ℕ → ℕ
    exit_at first = behind_at first + break_size l

    abbrev front_marks : ℕ → ℕ → ℕ → List Balance
    front_marks s o r = (ifs l.counted (opened s o r) ++ ifs sv (opened s o r)) ++ (opened (more s) o r ∷ body.marks (more s) o (r + 1))

    abbrev padded_marks : ℕ → ℕ → ℕ → List Balance
    padded_marks s o r = (front_marks s o r ++ over_marks jb (opened (more s) o (r + 1))) ++ pad_marks jb (opened (more s) o (r + 1)) (opened (more s) o r)

    abbrev exit_marks : ℕ → ℕ → ℕ → List Balance
    exit_marks s o r = opened (more s) o (r + 1) ∷ ifs sv (opened (more s) o r)

    abbrev body_marks : ℕ → ℕ → ℕ → List Balance
    body_marks s o r = padded_marks s o r ++ exit_marks s o r

    abbrev padded_size : ℕ
    padded_size = ((before_body l + l.body.size) + over_size jb) + pad_size jb

    abbrev front_code : Site → ℕ → List Instr
    front_code site first =
        (if_so program l.place l.counted act.Restore ++ if_so program l.place sv act.Save) ++ (instruction program l.place (act.Enter (l.region + 1)) ∷ l.body.code (body_site l site (inner_at first)) (inner_at first))

    abbrev padded_code : Site → ℕ → ℕ → List Instr
    padded_code site end first = (front_code site first ++ over program l.place jb (exit_at first)) ++ pad program l.place act.Exit jb end

    pub record BodyFacts (g : Text) (s o r end first : ℕ) : Type 0 where
      pub saved : l.counted ≡ true → 0 < s
      pub breaks : Leaves jb g (behind_at first + over_size jb) (behind_at first) (opened (more s) o (r + 1))
      pub continues : Leaves l.body.jumps.continues g (exit_at first) (behind_at first) (opened (more s) o (r + 1))
      pub exit_label : g.before (exit_at first) ≡ opened (more s) o (r + 1)
      pub exit_below : exit_at first < g.end
      pub out : jb ≡ true → (exit_at first < end) × (end < g.end) × (g.before end ≡ opened (more s) o r)
      pub jumper : jb ≡ true → g.instr_at (behind_at first) ≡ Some (instruction program l.place (act.Jump (exit_at first)))

    front_segment : (g : Text) (site : Site) (s o r end first : ℕ) → site.objects ≡ o
        → Segment code (BodyFacts g s o r end first) g first (front_code site first) (front_marks s o r) (before_body l + l.body.size) (opened s o r) (opened (more s) o (r + 1))
    unfolding goes_on left_open is_met is_there
    front_segment g site s o r end first enters =
        both_segments (enter_at first) (before_body l + l.body.size) refl (omega arith)
        (both_segments (first + one_if l.counted) (one_if l.counted + one_if sv) refl refl
        (if_segment code program table l.place l.counted act.Restore (opened s o r) (opened s o r) refl refl refl (λ f so. lt-ltb 0 s (f.saved so)) (λ so. refl) (λ so. refl))
        (if_segment code program table l.place sv act.Save (opened s o r) (opened (more s) o r) refl refl refl (λ f so. refl) (more_one s o r sv) (more_none s o r sv)))
        (both_segments (inner_at first) (1 + l.body.size) (omega arith) refl
        (going_segment code program table l.place (act.Enter (l.region + 1)) (opened (more s) o r) (opened (more s) o (r + 1)) refl inner_there refl refl refl)
        (between (opened (more s) o (r + 1)) (opened (more s) o (r + 1)) (objects_are (more s) (r + 1) (o + 0) o (omega arith)) (objects_are (more s) (r + 1) (o + 0) o (omega arith))
        (stretch_segment (inner_at first) (more s) o (r + 1) 0 0 0 (body_site l site (inner_at first)) l.body body (omega (arith, enters)) (omega arith) (λ f. f.breaks) (λ f. f.continues))))

    padded_segment : (g : Text) (site : Site) (s o r end first : ℕ) → site.objects ≡ o
        → Segment code (BodyFacts g s o r end first) g first (padded_code site end first) (padded_marks s o r) padded_size (opened s o r) (opened (more s) o (r + 1))
    unfolding jumps_to
    padded_segment g site s o r end first enters =
        both_segments (behind_at first + over_size jb) padded_size (omega arith) refl
        (both_segments (behind_at first) ((before_body l + l.body.size) + over_size jb) (omega arith) refl (front_segment g site s o r end first enters)
        (over_segment l.place g (behind_at first) (exit_at first) jb (opened (more s) o (r + 1)) (λ f is. (pads_above jb (behind_at first) is, f.exit_below, f.exit_label))))
        (pad_segment l.place g (behind_at first + over_size jb) end jb (more s) o r
        (λ f is. ((let e : (behind_at first + over_size jb) + 2 < end = omega (arith, pads_two jb (behind_at first) is, (f.out is).0) in e), (f.out is).1, (f.out is).2))
        (λ f is. (
          behind_at first,
          instruction program l.place (act.Jump (exit_at first)),
          (let e : behind_at first ≤ behind_at first + over_size jb = omega arith in e),
          f.jumper is,
          eq-eqb (exit_at first) ((behind_at first + over_size jb) + 2) (sym (pads_two jb (behind_at first) is)),
        )))

    body_segment : (g : Text) (site : Site) (s o r end first : ℕ) → site.objects ≡ o
        → Segment code (BodyFacts g s o r end first) g first (body_code program l site end first) (body_marks s o r) (body_size l) (opened s o r) (opened s o r)
    unfolding goes_on left_open is_met is_there
    body_segment g site s o r end first enters =
        both_segments (exit_at first) (body_size l) (omega arith) (omega arith) (padded_segment g site s o r end first enters)
        (both_segments (exit_at first + 1) (1 + one_if sv) refl refl
        (going_segment code program table l.place act.Exit (opened (more s) o (r + 1)) (opened (more s) o r) refl refl refl (lt-ltb 0 (r + 1) (omega arith)) (ap (λ k. opened (more s) o k) (one_more r)))
        (if_segment code program table l.place sv act.Back (opened (more s) o r) (opened s o r) refl refl refl
        (λ f so. lt-ltb 0 (more s) (one_met s sv so)) (less_one s o r sv) (λ so. sym (more_none s o r sv so))))

    -- what its text and its balances tell
    body_facts : (g : Text) (site : Site) (s o r end first : ℕ) → site.objects ≡ o → (l.counted ≡ true → 0 < s)
        → HasAt g first (body_code program l site end first) → Labelled g first (body_marks s o r) → exit_at first < end → end < g.end → g.before end ≡ opened s o r
        → BodyFacts g s o r end first
    body_facts g site s o r end first enters counted has labels low high there =
        (let padded : Segment code (BodyFacts g s o r end first) g first (padded_code site end first) (padded_marks s o r) padded_size (opened s o r) (opened (more s) o (r + 1)) = padded_segment g site s o r end first enters in
        (let front : Segment code (BodyFacts g s o r end first) g first (front_code site first) (front_marks s o r) (before_body l + l.body.size) (opened s o r) (opened (more s) o (r + 1)) = front_segment g site s o r end first enters in
        (let overs : length (front_marks s o r ++ over_marks jb (opened (more s) o (r + 1))) ≡ (before_body l + l.body.size) + over_size jb =
        sum_long (front_marks s o r) (over_marks jb (opened (more s) o (r + 1))) (before_body l + l.body.size) (over_size jb) ((before_body l + l.body.size) + over_size jb) refl front.long (over_long jb (opened (more s) o (r + 1))) in
        (let exit : g.before (exit_at first) ≡ opened (more s) o (r + 1) = moved g (first + padded_size) (exit_at first) (opened (more s) o (r + 1)) (omega arith) (labelled_rest g first (padded_marks s o r) (exit_marks s o r) padded_size padded.long labels).0 in
        (let pads : Labelled g (first + ((before_body l + l.body.size) + over_size jb)) (pad_marks jb (opened (more s) o (r + 1)) (opened (more s) o r)) =
        labelled_rest g first (front_marks s o r ++ over_marks jb (opened (more s) o (r + 1))) (pad_marks jb (opened (more s) o (r + 1)) (opened (more s) o r)) ((before_body l + l.body.size) + over_size jb) overs
        (labelled_first g first (padded_marks s o r) (exit_marks s o r) labels) in
        (let has_padded : HasAt g first (padded_code site end first) = has_first g first (padded_code site end first) (instruction program l.place act.Exit ∷ if_so program l.place sv act.Back) has in
        (let has_over : HasAt g (first + (before_body l + l.body.size)) (over program l.place jb (exit_at first)) =
        has_rest g first (front_code site first) (over program l.place jb (exit_at first)) (before_body l + l.body.size) front.sized
        (has_first g first (front_code site first ++ over program l.place jb (exit_at first)) (pad program l.place act.Exit jb end) has_padded) in
        (let jumper : jb ≡ true → g.instr_at (behind_at first) ≡ Some (instruction program l.place (act.Jump (exit_at first))) = λ is. over_there l.place g (behind_at first) (exit_at first) jb is
        (subst (λ n. HasAt g n (over program l.place jb (exit_at first))) (let e : first + (before_body l + l.body.size) ≡ behind_at first = omega arith in e) has_over) in
        (let size : break_size l ≡ over_size jb + pad_size jb = refl in
        record {
          saved = counted;
          breaks = λ is. (
            (let e : behind_at first ≤ behind_at first + over_size jb = omega arith in e),
            (let e : behind_at first + over_size jb < g.end = omega (arith, low, high, size) in e),
            pad_label g (behind_at first + over_size jb) jb (opened (more s) o (r + 1)) (opened (more s) o r) is
                (subst (λ n. Labelled g n (pad_marks jb (opened (more s) o (r + 1)) (opened (more s) o r))) (let e : first + ((before_body l + l.body.size) + over_size jb) ≡ behind_at first + over_size jb = omega arith in e) pads),
          );
          continues = λ is. ((let e : behind_at first ≤ exit_at first = omega arith in e), (let e : exit_at first < g.end = omega (arith, low, high) in e), exit);
          exit_label = exit;
          exit_below = omega (arith, low, high);
          out = λ is. (low, high, there ∙ more_none s o r sv (saves_no_break l.counted jb l.body.jumps.continues l.body.jumps.returns is));
          jumper = jumper;
        })))))))))

    module _ (test : Stands code l.test) (step : Stands code l.step) (region_there : is_there code (act.Enter l.region) ≡ true) where
      -- THE TURNS, of which the first instruction has this number
      abbrev rs : Bool
      rs = restores_step l

      abbrev step_at : ℕ → ℕ
      step_at first = (first + body_size l) + one_if rs

      abbrev test_at : ℕ → ℕ
      test_at first = first + turn_size l

      abbrev end_at : ℕ → ℕ
      end_at first = (test_at first + l.test.size) + 1

      abbrev turns : Site → ℕ → List Instr
      turns site first =
          (((body_code program l site (end_at first) first ++ if_so program l.place rs act.Restore) ++ l.step.code (step_at first)) ++ l.test.code (test_at first))
          ++ (instruction program l.place (act.Test l.test.gives first (end_at first) None class.Test) ∷ [])

      abbrev turn_marks : ℕ → ℕ → ℕ → List Balance
      turn_marks s o r = (body_marks s o r ++ ifs rs (opened s o r)) ++ step.marks s o r

      abbrev tested_marks : ℕ → ℕ → ℕ → List Balance
      tested_marks s o r = turn_marks s o r ++ test.marks s o r

      abbrev turns_marks : ℕ → ℕ → ℕ → List Balance
      turns_marks s o r = tested_marks s o r ++ (opened s o r ∷ [])

      abbrev turns_size : ℕ
      turns_size = (turn_size l + l.test.size) + 1

      pub record TurnFacts (g : Text) (s o r first : ℕ) : Type 0 where
        pub of_body : BodyFacts g s o r (end_at first) first
        pub start : g.before first ≡ opened s o r
        pub low : g.entry ≤ first
        pub high : end_at first < g.end

      turn_segment : (g : Text) (site : Site) (s o r first : ℕ) → site.objects ≡ o
          → Segment code (TurnFacts g s o r first) g first ((body_code program l site (end_at first) first ++ if_so program l.place rs act.Restore) ++ l.step.code (step_at first)) (turn_marks s o r) (turn_size l) (opened s o r) (opened s o r)
      unfolding goes_on left_open is_met is_there
      turn_segment g site s o r first enters =
          both_segments (step_at first) (turn_size l) (omega arith) refl
          (both_segments (first + body_size l) (body_size l + one_if rs) refl refl
          (Rattle.k_lower_valid.proofs.Segments.under (λ (f : TurnFacts g s o r first). f.of_body) (body_segment g site s o r (end_at first) first enters))
          (if_segment code program table l.place rs act.Restore (opened s o r) (opened s o r) refl refl refl (λ f so. lt-ltb 0 s (f.of_body.saved (and_parts l.counted l.body.jumps.continues so).0)) (λ so. refl) (λ so. refl)))
          (piece_segment (step_at first) s o r l.step step)

      turns_segment : (g : Text) (site : Site) (s o r first : ℕ) → site.objects ≡ o
          → Segment code (TurnFacts g s o r first) g first (turns site first) (turns_marks s o r) turns_size (opened s o r) (opened s o r)
      turns_segment g site s o r first enters =
          both_segments (test_at first + l.test.size) turns_size (omega arith) refl
          (both_segments (test_at first) (turn_size l + l.test.size) refl refl (turn_segment g site s o r first enters) (piece_segment (test_at first) s o r l.test test))
          (one_segment (λ f has here next low high. tests code g program l.place l.test.gives first (end_at first) None class.Test (test_at first + l.test.size) (opened s o r) table refl
          here f.start next next f.low (let e : first < g.end = omega (arith, f.high) in e) (let e : g.entry ≤ end_at first = omega (arith, f.low) in e) f.high))

      -- the balance before the test
      test_label : (g : Text) (s o r first : ℕ) → Labelled g first (turns_marks s o r) → g.before (test_at first) ≡ opened s o r
      test_label g s o r first labels =
          (let turn : Segment code (TurnFacts g s o r first) g first ((body_code program l (somewhere o) (end_at first) first ++ if_so program l.place rs act.Restore) ++ l.step.code (step_at first)) (turn_marks s o r) (turn_size l) (opened s o r) (opened s o r) =
          turn_segment g (somewhere o) s o r first refl in
          (let both : length (tested_marks s o r) ≡ turn_size l + l.test.size = sum_long (turn_marks s o r) (test.marks s o r) (turn_size l) l.test.size (turn_size l + l.test.size) refl turn.long (test.long s o r) in
          (let last : g.before (first + (turn_size l + l.test.size)) ≡ opened s o r = (labelled_rest g first (tested_marks s o r) (opened s o r ∷ []) (turn_size l + l.test.size) both labels).0 in
          test.begins g s o r (test_at first)
          (labelled_rest g first (turn_marks s o r) (test.marks s o r) (turn_size l) turn.long (labelled_first g first (tested_marks s o r) (opened s o r ∷ []) labels))
          (moved g (first + (turn_size l + l.test.size)) (test_at first + l.test.size) (opened s o r) (omega arith) last))))

      turn_facts : (g : Text) (site : Site) (s o r first : ℕ) → site.objects ≡ o → (l.counted ≡ true → 0 < s) → HasAt g first (turns site first) → Labelled g first (turns_marks s o r)
          → g.before (end_at first) ≡ opened s o r → g.entry ≤ first → end_at first < g.end → TurnFacts g s o r first
      turn_facts g site s o r first enters counted has labels there low high = record {
        of_body = body_facts g site s o r (end_at first) first enters counted
            (has_first g first (body_code program l site (end_at first) first) (if_so program l.place rs act.Restore)
            (has_first g first (body_code program l site (end_at first) first ++ if_so program l.place rs act.Restore) (l.step.code (step_at first))
            (has_first g first ((body_code program l site (end_at first) first ++ if_so program l.place rs act.Restore) ++ l.step.code (step_at first)) (l.test.code (test_at first))
            (has_first g first (((body_code program l site (end_at first) first ++ if_so program l.place rs act.Restore) ++ l.step.code (step_at first)) ++ l.test.code (test_at first))
            (instruction program l.place (act.Test l.test.gives first (end_at first) None class.Test) ∷ []) has))))
            (labelled_first g first (body_marks s o r) (ifs rs (opened s o r))
            (labelled_first g first (body_marks s o r ++ ifs rs (opened s o r)) (step.marks s o r)
            (labelled_first g first (turn_marks s o r) (test.marks s o r) (labelled_first g first (tested_marks s o r) (opened s o r ∷ []) labels))))
            (omega arith) high there;
        start = (turns_segment g site s o r first enters).begins labels (moved g (end_at first) (first + turns_size) (opened s o r) (omega arith) there);
        low = low;
        high = high;
      }

      -- THE LOOP in its region
      abbrev turns_at : ℕ → ℕ
      turns_at first = first + before_turns l

      abbrev loop_marks : ℕ → ℕ → ℕ → List Balance
      loop_marks s o r = ((opened s o r ∷ ifs l.tested (opened s o (r + 1))) ++ turns_marks s o (r + 1)) ++ (opened s o (r + 1) ∷ [])

      abbrev loop_size : ℕ
      loop_size = (((before_turns l + turn_size l) + l.test.size) + 1) + 1

      abbrev head : ℕ → List Instr
      head first = instruction program l.place (act.Enter l.region) ∷ if_so program l.place l.tested (act.Jump (test_at (turns_at first)))

      pub record LoopFacts (g : Text) (s o r first : ℕ) : Type 0 where
        pub turns_facts : TurnFacts g s o (r + 1) (turns_at first)
        pub test_first : g.before (test_at (turns_at first)) ≡ opened s o (r + 1)

      jump_segment : (g : Text) (s o r first : ℕ) (n : ℕ) (b : Bool) → n < test_at (turns_at first) → Segment code (LoopFacts g s o r first) g n (if_so program l.place b (act.Jump (test_at (turns_at first)))) (ifs b (opened s o (r + 1))) (one_if b) (opened s o (r + 1)) (opened s o (r + 1))
      jump_segment g s o r first n false below = no_segment n (opened s o (r + 1))
      jump_segment g s o r first n true below = one_segment (λ f has here next low high. jumps code g program l.place (test_at (turns_at first)) n (opened s o (r + 1)) table here f.test_first below
          (let e : test_at (turns_at first) < g.end = omega (arith, f.turns_facts.high) in e) (as_before (next ∙ sym here)))

      head_segment : (g : Text) (s o r first : ℕ) → Segment code (LoopFacts g s o r first) g first (head first) (opened s o r ∷ ifs l.tested (opened s o (r + 1))) (before_turns l) (opened s o r) (opened s o (r + 1))
      unfolding goes_on left_open is_met is_there
      head_segment g s o r first =
          both_segments (first + 1) (before_turns l) refl refl
          (going_segment code program table l.place (act.Enter l.region) (opened s o r) (opened s o (r + 1)) refl region_there refl refl refl)
          (jump_segment g s o r first (first + 1) l.tested (omega arith))

      loop_segment : (g : Text) (site : Site) (s o r first : ℕ) → site.objects ≡ o
          → Segment code (LoopFacts g s o r first) g first ((inside_loop program l).code site first) (loop_marks s o r) loop_size (opened s o r) (opened s o r)
      unfolding goes_on left_open is_met is_there
      loop_segment g site s o r first enters =
          both_segments (end_at (turns_at first)) loop_size (omega arith) (omega arith)
          (both_segments (turns_at first) (before_turns l + turns_size) refl refl (head_segment g s o r first)
          (Rattle.k_lower_valid.proofs.Segments.under (λ (f : LoopFacts g s o r first). f.turns_facts) (turns_segment g site s o (r + 1) (turns_at first) enters)))
          (going_segment code program table l.place act.Exit (opened s o (r + 1)) (opened s o r) refl refl refl (lt-ltb 0 (r + 1) (omega arith)) (ap (λ k. opened s o k) (one_more r)))

      loop_facts : (g : Text) (site : Site) (s o r first : ℕ) → site.objects ≡ o → (l.counted ≡ true → 0 < s) → HasAt g first ((inside_loop program l).code site first) → Labelled g first (loop_marks s o r)
          → g.entry ≤ first → first + loop_size < g.end → LoopFacts g s o r first
      loop_facts g site s o r first enters counted has labels low high =
          (let heads : Segment code (LoopFacts g s o r first) g first (head first) (opened s o r ∷ ifs l.tested (opened s o (r + 1))) (before_turns l) (opened s o r) (opened s o (r + 1)) = head_segment g s o r first in
          (let turning : Segment code (TurnFacts g s o (r + 1) (turns_at first)) g (turns_at first) (turns site (turns_at first)) (turns_marks s o (r + 1)) turns_size (opened s o (r + 1)) (opened s o (r + 1)) = turns_segment g site s o (r + 1) (turns_at first) enters in
          (let size : length ((opened s o r ∷ ifs l.tested (opened s o (r + 1))) ++ turns_marks s o (r + 1)) ≡ before_turns l + turns_size =
          sum_long (opened s o r ∷ ifs l.tested (opened s o (r + 1))) (turns_marks s o (r + 1)) (before_turns l) turns_size (before_turns l + turns_size) refl heads.long turning.long in
          (let there : g.before (end_at (turns_at first)) ≡ opened s o (r + 1) = moved g (first + (before_turns l + turns_size)) (end_at (turns_at first)) (opened s o (r + 1)) (omega arith)
          (labelled_rest g first ((opened s o r ∷ ifs l.tested (opened s o (r + 1))) ++ turns_marks s o (r + 1)) (opened s o (r + 1) ∷ []) (before_turns l + turns_size) size labels).0 in
          (let marks : Labelled g (turns_at first) (turns_marks s o (r + 1)) = labelled_rest g first (opened s o r ∷ ifs l.tested (opened s o (r + 1))) (turns_marks s o (r + 1)) (before_turns l) heads.long
          (labelled_first g first ((opened s o r ∷ ifs l.tested (opened s o (r + 1))) ++ turns_marks s o (r + 1)) (opened s o (r + 1) ∷ []) labels) in
          record {
            turns_facts = turn_facts g site s o (r + 1) (turns_at first) enters counted
                (has_rest g first (head first) (turns site (turns_at first)) (before_turns l) heads.sized
                (has_first g first (head first ++ turns site (turns_at first)) (instruction program l.place act.Exit ∷ []) has))
                marks there (omega (arith, low)) (omega (arith, high));
            test_first = test_label g s o (r + 1) (turns_at first) marks;
          })))))

      pub inside_spans : SpansFrom code (one_if l.counted) (inside_loop program l) 0 0
      inside_spans = record {
        sized = λ site first. (loop_segment nowhere site 0 site.objects 0 first refl).sized;
        marks = loop_marks;
        long = λ s o r. (loop_segment nowhere (somewhere o) s o r 0 refl).long;
        begins = λ g s o r a z first enters leaves labels end.
            (loop_segment g (somewhere o) s o r first refl).begins labels (end ∙ objects_are s r z o (omega (arith, leaves))) ∙ objects_are s r o a (omega (arith, enters));
        fine = λ g site s o r z first enters leaves saved has labels end low high breaks continues.
            (loop_segment g site s o r first (omega (arith, enters))).fine
            (loop_facts g site s o r first (omega (arith, enters)) (counted_saved s l.counted saved) has labels low high)
            has labels (end ∙ objects_are s r z o (omega (arith, leaves))) low high;
        comes = λ site first holds. absurd (true≢false (sym holds));
      }
        where
          counted_saved : (s : ℕ) (c : Bool) → one_if c ≤ s → c ≡ true → 0 < s
          counted_saved s true saved is = omega (arith, saved)
          counted_saved s false saved is = absurd (true≢false (sym is))

  -- A LOOP, and the control source behind it
  pub loop_spans : (l : LoopParts) → Spans code l.body 0 0 → is_there code (act.Enter (l.region + 1)) ≡ true → Stands code l.test → Stands code l.step → is_there code (act.Enter l.region) ≡ true
      → Spans code (loop program l) 0 0
  loop_spans l body inner_there test step region_there = by l.counted (stays_behind_loop l.counted l.body.jumps) refl refl (inside_spans l body inner_there test step region_there)
    where
      by : (counted stays : Bool) → counted ≡ l.counted → stays ≡ (not counted && l.body.jumps.returns) → SpansFrom code (one_if counted) (inside_loop program l) 0 0 → Spans code (settled_unless stays program (inside_loop program l)) 0 0
      by true true is how inside = absurd (true≢false how)
      by true false is how inside = settled_spans code program table (inside_loop program l) refl refl inside
      by false stays is how inside = settled_unless_spans code program table stays (inside_loop program l) (λ no. refl) (λ no. refl) inside
