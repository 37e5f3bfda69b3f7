-- Stretches of code that may stand anywhere in a function: their sizes, the balances before their instructions, and that each of these is fine.
use Rattle.std.proofs.Common.{ℕ, ◌≡◌, ◌+◌, ◌<◌, ◌≤◌, nat_eq, ◌||◌, Bool, true, false, List, [], ◌∷◌, ◌++◌, length, Some, refl, sym, subst, ap, ◌∙◌, arith}
use Rattle.std.proofs.lemmas.Bool.{eq-eqb, or_left, or_right, true≢false}
use Rattle.std.proofs.lemmas.List.{length-append}
use Rattle.k_num.specs.declared.place.Place.{Place}
use Rattle.k_marks_meaning.specs.declared.jumps.Jumps.{Jumps}
use Rattle.k_code.specs.declared.balance.Balance.{Balance}
use Rattle.k_code.specs.declared.code.Code.{Code}
use Rattle.k_code.specs.declared.instruction.Do.{Do}
use Rattle.k_code.specs.declared.instruction.Do.TheVariants as act
use Rattle.k_code.specs.declared.instruction.Instr.{Instr}
use Rattle.k_code.specs.Balances.{left_open, is_met, goes_on, jumps_to}
use Rattle.k_code.specs.Named.{is_there}
use Rattle.k_evaluation.specs.States.{Program}
use Rattle.k_lower_code.specs.Pieces.{Piece, instruction}
use Rattle.k_lower_code.specs.Stretches.{Site, Stretch, of_piece, nothing_done, behind, behind_objects, pads, pads_size, pad_size, over_size, without_objects}
use Rattle.k_lower_valid.proofs.Booleans.{or_either}
use Rattle.k_lower_valid.proofs.Texts.{Text, opened, as_before, by_jump, HasAt, Labelled, AllFine, has_first, has_rest, labelled_first, labelled_rest, fine_both, HasTable, goes, jumps}
use Rattle.k_lower_valid.proofs.Stands.{Stands, moved}

-- one of these instructions jumps there
abbrev pub has_jump : ℕ → List Instr → Bool
has_jump to [] = false
has_jump to (i ∷ instrs) = jumps_to i.act to || has_jump to instrs

-- an instruction up to this one jumps there
abbrev pub Comes : Text → ℕ → ℕ → Type 0
Comes g n to = (j : ℕ) × (i : Instr) × (j ≤ n) × (g.instr_at j ≡ Some i) × (jumps_to i.act to ≡ true)

-- where a jump leads out, it goes behind the text, within the function, and to this balance
abbrev pub Leaves : Bool → Text → ℕ → ℕ → Balance → Type 0
Leaves jump g to behind b = jump ≡ true → (behind ≤ to) × (to < g.end) × (g.before to ≡ b)

pub jump_first : (to : ℕ) (one other : List Instr) → has_jump to one ≡ true → has_jump to (one ++ other) ≡ true
jump_first to [] other holds = absurd (true≢false (sym holds))
jump_first to (i ∷ one) other holds = or_either (jumps_to i.act to) (has_jump to one) (λ here. or_left (jumps_to i.act to) (has_jump to (one ++ other)) here)
    (λ later. or_right (jumps_to i.act to) (has_jump to (one ++ other)) (jump_first to one other later)) holds

pub jump_rest : (to : ℕ) (one other : List Instr) → has_jump to other ≡ true → has_jump to (one ++ other) ≡ true
jump_rest to [] other holds = holds
jump_rest to (i ∷ one) other holds = or_right (jumps_to i.act to) (has_jump to (one ++ other)) (jump_rest to one other holds)

pub jump_comes : (g : Text) (to first : ℕ) (instrs : List Instr) (n : ℕ) → HasAt g first instrs → first + length instrs ≤ n → has_jump to instrs ≡ true → Comes g n to
jump_comes g to first [] n has low holds = absurd (true≢false (sym holds))
jump_comes g to first (i ∷ instrs) n has low holds = or_either (jumps_to i.act to) (has_jump to instrs)
    (λ here. (first, i, (let e : first ≤ n = omega (arith, low) in e), has.0, here))
    (λ later. jump_comes g to (first + 1) instrs n has.1 (omega (arith, low)) later) holds

pub objects_are : (s r a b : ℕ) → a ≡ b → opened s a r ≡ opened s b r
objects_are s r a b is = ap (λ n. opened s n r) is

pub leaves_fewer : (jump : Bool) (g : Text) (to behind less : ℕ) (b : Balance) → less ≤ behind → Leaves jump g to behind b → Leaves jump g to less b
leaves_fewer jump g to after less b few leaves holds = ((let e : less ≤ to = omega (arith, few, (leaves holds).0) in e), (leaves holds).1, (leaves holds).2)

-- the balances before a pad, and before the jump over pads, where that is open in the text and this behind it
abbrev pub pad_marks : Bool → Balance → Balance → List Balance
pad_marks false inner outer = []
pad_marks true inner outer = inner ∷ outer ∷ []

abbrev pub over_marks : Bool → Balance → List Balance
over_marks false inner = []
over_marks true inner = inner ∷ []

module _ (code : Code) where
  -- A STRETCH MAY STAND ANYWHERE, where so many more objects are live before it and behind it than at the targets of its jumps
  -- and where so many control sources are saved
  pub record SpansFrom (saves : ℕ) (t : Stretch) (enters leaves : ℕ) : Type 0 where
    pub sized : (site : Site) (first : ℕ) → length (t.code site first) ≡ t.size
    pub marks : ℕ → ℕ → ℕ → List Balance
    pub long : (s o r : ℕ) → length (marks s o r) ≡ t.size
    pub begins : (g : Text) (s o r a z first : ℕ) → a ≡ o + enters → z ≡ o + leaves → Labelled g first (marks s o r)
        → g.before (first + t.size) ≡ opened s z r → g.before first ≡ opened s a r
    pub fine : (g : Text) (site : Site) (s o r z first : ℕ) → site.objects ≡ o + enters → z ≡ o + leaves → saves ≤ s → HasAt g first (t.code site first) → Labelled g first (marks s o r)
        → g.before (first + t.size) ≡ opened s z r → g.entry ≤ first → first + t.size < g.end
        → Leaves t.jumps.breaks g site.breaks (first + t.size) (opened s o r) → Leaves t.jumps.continues g site.continues (first + t.size) (opened s o r)
        → AllFine code g first (t.code site first)
    pub comes : (site : Site) (first : ℕ) → t.jumps.continues ≡ true → has_jump site.continues (t.code site first) ≡ true

  abbrev pub Spans : Stretch → ℕ → ℕ → Type 0
  Spans t enters leaves = SpansFrom 0 t enters leaves

  -- where more are saved
  pub spans_from : (k : ℕ) (t : Stretch) (e l : ℕ) → Spans t e l → SpansFrom k t e l
  spans_from k t e l is = record {
    sized = is.sized;
    marks = is.marks;
    long = is.long;
    begins = is.begins;
    fine = λ g site s o r z first enters leaves saved has labels end low high b c. is.fine g site s o r z first enters leaves (omega arith) has labels end low high b c;
    comes = is.comes;
  }

  pub piece_spans : (place : Place) (piece : Piece (Unit {0})) → Stands code piece → Spans (of_piece place piece) 0 0
  piece_spans place piece is = record {
    sized = λ site first. is.sized first;
    marks = is.marks;
    long = is.long;
    begins = λ g s o r a z first enters leaves labels end.
        is.begins g s o r first labels (end ∙ objects_are s r z o (omega (arith, leaves))) ∙ objects_are s r o a (omega (arith, enters));
    fine = λ g site s o r z first enters leaves saved has labels end low high b c. is.fine g s o r first has labels (end ∙ objects_are s r z o (omega (arith, leaves))) low high;
    comes = λ site first holds. absurd (true≢false (sym holds));
  }

  pub nothing_spans : (place : Place) → Spans (nothing_done place) 0 0
  nothing_spans place = record {
    sized = λ site first. refl;
    marks = λ s o r. [];
    long = λ s o r. refl;
    begins = λ g s o r a z first enters leaves labels end. moved g (first + 0) first (opened s a r) (omega arith) (end ∙ objects_are s r z a (omega (arith, enters, leaves)));
    fine = λ g site s o r z first enters leaves saved has labels end low high b c. tt;
    comes = λ site first holds. absurd (true≢false (sym holds));
  }

  -- one behind another
  unfoldable pub behind_spans : (one other : Stretch) (e m l : ℕ) → m ≡ e + one.opens → Spans one e m → Spans other m l → Spans (behind one other) e l
  behind_spans one other e m l opens a b = record {
    sized = λ site first. sized site first;
    marks = λ s o r. a.marks s o r ++ b.marks s o r;
    long = λ s o r. long s o r;
    begins = λ g s o r x z first enters leaves labels end.
        a.begins g s o r x (o + m) first enters refl (labelled_first g first (a.marks s o r) (b.marks s o r) labels) (middle g s o r z first leaves labels end);
    fine = λ g site s o r z first enters leaves saved has labels end low high breaks continues.
        fine_both code g first (one.code site first) (other.code (behind_objects one.opens site) (first + one.size)) one.size (a.sized site first)
        (a.fine g site s o r (o + m) first enters refl saved (has_first g first (one.code site first) (other.code (behind_objects one.opens site) (first + one.size)) has)
        (labelled_first g first (a.marks s o r) (b.marks s o r) labels) (middle g s o r z first leaves labels end) low (omega (arith, high))
        (λ holds. leaves_fewer (one.jumps.breaks || other.jumps.breaks) g site.breaks (first + (one.size + other.size)) (first + one.size) (opened s o r) (omega arith) breaks (or_left one.jumps.breaks other.jumps.breaks holds))
        (λ holds. leaves_fewer (one.jumps.continues || other.jumps.continues) g site.continues (first + (one.size + other.size)) (first + one.size) (opened s o r) (omega arith) continues (or_left one.jumps.continues other.jumps.continues holds)))
        (b.fine g (behind_objects one.opens site) s o r z (first + one.size) (omega (arith, enters, opens)) leaves saved
        (has_rest g first (one.code site first) (other.code (behind_objects one.opens site) (first + one.size)) one.size (a.sized site first) has)
        (labelled_rest g first (a.marks s o r) (b.marks s o r) one.size (a.long s o r) labels) (end_of g s z r first end) (omega (arith, low)) (omega (arith, high))
        (λ holds. leaves_fewer (one.jumps.breaks || other.jumps.breaks) g site.breaks (first + (one.size + other.size)) ((first + one.size) + other.size) (opened s o r) (omega arith) breaks (or_right one.jumps.breaks other.jumps.breaks holds))
        (λ holds. leaves_fewer (one.jumps.continues || other.jumps.continues) g site.continues (first + (one.size + other.size)) ((first + one.size) + other.size) (opened s o r) (omega arith) continues (or_right one.jumps.continues other.jumps.continues holds)));
    comes = λ site first holds. or_either one.jumps.continues other.jumps.continues
        (λ here. jump_first site.continues (one.code site first) (other.code (behind_objects one.opens site) (first + one.size)) (a.comes site first here))
        (λ later. jump_rest site.continues (one.code site first) (other.code (behind_objects one.opens site) (first + one.size)) (b.comes (behind_objects one.opens site) (first + one.size) later)) holds;
  }
    where
      sized : (site : Site) (first : ℕ) → length (one.code site first ++ other.code (behind_objects one.opens site) (first + one.size)) ≡ one.size + other.size
      sized site first =
          (let two : length (one.code site first ++ other.code (behind_objects one.opens site) (first + one.size)) ≡ length (one.code site first) + length (other.code (behind_objects one.opens site) (first + one.size)) = length-append (one.code site first) (other.code (behind_objects one.opens site) (first + one.size)) in
          (let x : length (one.code site first) ≡ one.size = a.sized site first in
          (let y : length (other.code (behind_objects one.opens site) (first + one.size)) ≡ other.size = b.sized (behind_objects one.opens site) (first + one.size) in omega (arith, two, x, y))))

      long : (s o r : ℕ) → length (a.marks s o r ++ b.marks s o r) ≡ one.size + other.size
      long s o r =
          (let two : length (a.marks s o r ++ b.marks s o r) ≡ length (a.marks s o r) + length (b.marks s o r) = length-append (a.marks s o r) (b.marks s o r) in
          (let x : length (a.marks s o r) ≡ one.size = a.long s o r in
          (let y : length (b.marks s o r) ≡ other.size = b.long s o r in omega (arith, two, x, y))))

      end_of : (g : Text) (s z r first : ℕ) → g.before (first + (one.size + other.size)) ≡ opened s z r → g.before ((first + one.size) + other.size) ≡ opened s z r
      end_of g s z r first end = moved g (first + (one.size + other.size)) ((first + one.size) + other.size) (opened s z r) (omega arith) end

      middle : (g : Text) (s o r z first : ℕ) → z ≡ o + l → Labelled g first (a.marks s o r ++ b.marks s o r) → g.before (first + (one.size + other.size)) ≡ opened s z r
          → g.before (first + one.size) ≡ opened s (o + m) r
      middle g s o r z first leaves labels end = b.begins g s o r (o + m) z (first + one.size) refl leaves
          (labelled_rest g first (a.marks s o r) (b.marks s o r) one.size (a.long s o r) labels) (end_of g s z r first end)

  -- a stretch that no jump leaves may stand where more objects are live
  pub shifted_spans : (t : Stretch) (l m k : ℕ) → k ≡ m + l → t.jumps.breaks ≡ false → t.jumps.continues ≡ false → Spans t 0 l → Spans t m k
  shifted_spans t l m k sum no_breaks no_continues is = record {
    sized = is.sized;
    marks = λ s o r. is.marks s (o + m) r;
    long = λ s o r. is.long s (o + m) r;
    begins = λ g s o r a z first enters leaves labels end. is.begins g s (o + m) r a z first (omega (arith, enters)) (omega (arith, leaves, sum)) labels end;
    fine = λ g site s o r z first enters leaves saved has labels end low high breaks continues.
        is.fine g site s (o + m) r z first (omega (arith, enters)) (omega (arith, leaves, sum)) saved has labels end low high
        (λ holds. absurd (true≢false (sym holds ∙ no_breaks))) (λ holds. absurd (true≢false (sym holds ∙ no_continues)));
    comes = is.comes;
  }

  pub without_spans : (t : Stretch) (e l : ℕ) → Spans t e l → Spans (without_objects t) e l
  without_spans t e l is = record { sized = is.sized; marks = is.marks; long = is.long; begins = is.begins; fine = is.fine; comes = is.comes }

  module _ (program : Program) (table : HasTable program) where
    -- THE PADS and the close behind them: the balances before them, where that is open in the text and this behind it
    abbrev pub closing_marks : Jumps → Balance → Balance → List Balance
    closing_marks j inner outer = (over_marks (j.breaks || j.continues) inner ++ pad_marks j.breaks inner outer ++ pad_marks j.continues inner outer) ++ inner ∷ []

    pub closing_begins : (b c x : Bool) (g : Text) (n : ℕ) (inner outer : Balance) → Labelled g n (closing_marks (record { breaks = b; continues = c; returns = x }) inner outer) → g.before n ≡ inner
    closing_begins false false x g n inner outer labels = labels.0
    closing_begins false true x g n inner outer labels = labels.0
    closing_begins true false x g n inner outer labels = labels.0
    closing_begins true true x g n inner outer labels = labels.0

    pub closing_long : (b c x : Bool) (inner outer : Balance) → length (closing_marks (record { breaks = b; continues = c; returns = x }) inner outer) ≡ pads_size (record { breaks = b; continues = c; returns = x }) + 1
    closing_long false false x inner outer = refl
    closing_long false true x inner outer = refl
    closing_long true false x inner outer = refl
    closing_long true true x inner outer = refl

    pub closing_sized : (place : Place) (closes : Do) (b c x : Bool) (site : Site) (n : ℕ)
        → length (pads program place closes (record { breaks = b; continues = c; returns = x }) site n ++ instruction program place closes ∷ []) ≡ pads_size (record { breaks = b; continues = c; returns = x }) + 1
    closing_sized place closes false false x site n = refl
    closing_sized place closes false true x site n = refl
    closing_sized place closes true false x site n = refl
    closing_sized place closes true true x site n = refl

    -- a break and a continue of the text go to its pads
    pub closing_breaks : (b c x : Bool) (g : Text) (n : ℕ) (inner outer : Balance) → Labelled g n (closing_marks (record { breaks = b; continues = c; returns = x }) inner outer)
        → b ≡ true → g.before (n + over_size (b || c)) ≡ inner
    closing_breaks false c x g n inner outer labels holds = absurd (true≢false (sym holds))
    closing_breaks true false x g n inner outer labels holds = labels.1.0
    closing_breaks true true x g n inner outer labels holds = labels.1.0

    pub closing_continues : (b c x : Bool) (g : Text) (n : ℕ) (inner outer : Balance) → Labelled g n (closing_marks (record { breaks = b; continues = c; returns = x }) inner outer)
        → c ≡ true → g.before ((n + over_size (b || c)) + pad_size b) ≡ inner
    closing_continues b false x g n inner outer labels holds = absurd (true≢false (sym holds))
    closing_continues false true x g n inner outer labels holds = moved g (n + 1) ((n + 1) + 0) inner (omega arith) labels.1.0
    closing_continues true true x g n inner outer labels holds = moved g (((n + 1) + 1) + 1) ((n + 1) + 2) inner (omega arith) labels.1.1.1.0

    pub pads_small : (b c x : Bool) → (over_size (b || c) + pad_size b ≤ pads_size (record { breaks = b; continues = c; returns = x }))
    pads_small false false x = omega arith
    pads_small false true x = omega arith
    pads_small true false x = omega arith
    pads_small true true x = omega arith

    -- they are fine
    pub closing_fine : (place : Place) (closes : Do) (b c x : Bool) (g : Text) (site : Site) (n : ℕ) (inner outer : Balance)
        → goes_on closes ≡ true → is_there code closes ≡ true → Rattle.k_code.specs.Named.text_is_short closes ≡ true → is_met closes inner ≡ true → left_open closes inner ≡ outer
        → HasAt g n (pads program place closes (record { breaks = b; continues = c; returns = x }) site n ++ instruction program place closes ∷ [])
        → Labelled g n (closing_marks (record { breaks = b; continues = c; returns = x }) inner outer)
        → g.before ((n + pads_size (record { breaks = b; continues = c; returns = x })) + 1) ≡ outer
        → g.entry ≤ n → (n + pads_size (record { breaks = b; continues = c; returns = x })) + 1 < g.end
        → Leaves b g site.breaks ((n + pads_size (record { breaks = b; continues = c; returns = x })) + 1) outer
        → Leaves c g site.continues ((n + pads_size (record { breaks = b; continues = c; returns = x })) + 1) outer
        → (b ≡ true → c ≡ true → Comes g n ((n + 1) + 2))
        → AllFine code g n (pads program place closes (record { breaks = b; continues = c; returns = x }) site n ++ instruction program place closes ∷ [])
    unfolding jumps_to
    closing_fine place closes false false x g site n inner outer on there short met leave has labels end low high breaks continues second =
        (goes code g program place closes n inner table on there short met labels.0 (moved g ((n + 0) + 1) (n + 1) outer (omega arith) end ∙ sym leave) (omega (arith, high)), tt)
    closing_fine place closes true false x g site n inner outer on there short met leave has labels end low high breaks continues second = (
      jumps code g program place (n + 3) n inner table labels.0 (moved g (((n + 1) + 1) + 1) (n + 3) inner (omega arith) labels.1.1.1.0) (omega arith) (omega (arith, high)) (as_before (labels.1.0 ∙ sym labels.0)),
      (
        goes code g program place closes (n + 1) inner table on there short met labels.1.0 (labels.1.1.0 ∙ sym leave) (omega (arith, high)),
        (
          jumps code g program place site.breaks ((n + 1) + 1) outer table labels.1.1.0 (breaks refl).2 (let e : (n + 1) + 1 < site.breaks = omega (arith, (breaks refl).0) in e) (breaks refl).1
              (by_jump n (instruction program place (act.Jump (n + 3))) (omega arith) has.0 (eq-eqb (n + 3) (((n + 1) + 1) + 1) (omega arith))),
          (
            goes code g program place closes (((n + 1) + 1) + 1) inner table on there short met labels.1.1.1.0 (moved g ((n + 3) + 1) ((((n + 1) + 1) + 1) + 1) outer (omega arith) end ∙ sym leave) (omega (arith, high)),
            tt,
          ),
        ),
      ),
    )
    closing_fine place closes false true x g site n inner outer on there short met leave has labels end low high breaks continues second = (
      jumps code g program place (n + 3) n inner table labels.0 (moved g (((n + 1) + 1) + 1) (n + 3) inner (omega arith) labels.1.1.1.0) (omega arith) (omega (arith, high)) (as_before (labels.1.0 ∙ sym labels.0)),
      (
        goes code g program place closes (n + 1) inner table on there short met labels.1.0 (labels.1.1.0 ∙ sym leave) (omega (arith, high)),
        (
          jumps code g program place site.continues ((n + 1) + 1) outer table labels.1.1.0 (continues refl).2 (let e : (n + 1) + 1 < site.continues = omega (arith, (continues refl).0) in e) (continues refl).1
              (by_jump n (instruction program place (act.Jump (n + 3))) (omega arith) has.0 (eq-eqb (n + 3) (((n + 1) + 1) + 1) (omega arith))),
          (
            goes code g program place closes (((n + 1) + 1) + 1) inner table on there short met labels.1.1.1.0 (moved g ((n + 3) + 1) ((((n + 1) + 1) + 1) + 1) outer (omega arith) end ∙ sym leave) (omega (arith, high)),
            tt,
          ),
        ),
      ),
    )
    closing_fine place closes true true x g site n inner outer on there short met leave has labels end low high breaks continues second =
        (let comes : Comes g n ((n + 1) + 2) = second refl refl in (
          jumps code g program place (n + 5) n inner table labels.0 (moved g (((((n + 1) + 1) + 1) + 1) + 1) (n + 5) inner (omega arith) labels.1.1.1.1.1.0) (omega arith) (omega (arith, high)) (as_before (labels.1.0 ∙ sym labels.0)),
          (
            goes code g program place closes (n + 1) inner table on there short met labels.1.0 (labels.1.1.0 ∙ sym leave) (omega (arith, high)),
            (
              jumps code g program place site.breaks ((n + 1) + 1) outer table labels.1.1.0 (breaks refl).2 (let e : (n + 1) + 1 < site.breaks = omega (arith, (breaks refl).0) in e) (breaks refl).1
                  (by_jump comes.0 comes.1 (let e : comes.0 ≤ (n + 1) + 1 = omega (arith, comes.2) in e) comes.3
                  (subst (λ k. jumps_to comes.1.act k ≡ true) (let e : (n + 1) + 2 ≡ ((n + 1) + 1) + 1 = omega arith in e) comes.4)),
              (
                goes code g program place closes (((n + 1) + 1) + 1) inner table on there short met labels.1.1.1.0 (labels.1.1.1.1.0 ∙ sym leave) (omega (arith, high)),
                (
                  jumps code g program place site.continues ((((n + 1) + 1) + 1) + 1) outer table labels.1.1.1.1.0 (continues refl).2 (let e : (((n + 1) + 1) + 1) + 1 < site.continues = omega (arith, (continues refl).0) in e) (continues refl).1
                      (by_jump n (instruction program place (act.Jump (n + 5))) (omega arith) has.0 (eq-eqb (n + 5) (((((n + 1) + 1) + 1) + 1) + 1) (omega arith))),
                  (
                    goes code g program place closes (((((n + 1) + 1) + 1) + 1) + 1) inner table on there short met labels.1.1.1.1.1.0 (moved g ((n + 5) + 1) ((((((n + 1) + 1) + 1) + 1) + 1) + 1) outer (omega arith) end ∙ sym leave) (omega (arith, high)),
                    tt,
                  ),
                ),
              ),
            ),
          ),
        ))

    pub closing_comes : (place : Place) (closes : Do) (b c x : Bool) (site : Site) (n : ℕ) → c ≡ true
        → has_jump site.continues (pads program place closes (record { breaks = b; continues = c; returns = x }) site n ++ instruction program place closes ∷ []) ≡ true
    unfolding jumps_to
    closing_comes place closes b false x site n holds = absurd (true≢false (sym holds))
    closing_comes place closes false true x site n holds =
        jump_rest site.continues (instruction program place (act.Jump (n + 3)) ∷ instruction program place closes ∷ []) (instruction program place (act.Jump site.continues) ∷ instruction program place closes ∷ [])
        (or_left (nat_eq site.continues site.continues) (has_jump site.continues (instruction program place closes ∷ [])) (eq-eqb site.continues site.continues refl))
    closing_comes place closes true true x site n holds =
        jump_rest site.continues (instruction program place (act.Jump (n + 5)) ∷ instruction program place closes ∷ instruction program place (act.Jump site.breaks) ∷ instruction program place closes ∷ []) (instruction program place (act.Jump site.continues) ∷ instruction program place closes ∷ [])
        (or_left (nat_eq site.continues site.continues) (has_jump site.continues (instruction program place closes ∷ [])) (eq-eqb site.continues site.continues refl))
