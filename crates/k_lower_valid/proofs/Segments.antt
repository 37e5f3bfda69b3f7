-- Segments of one text: lists of instructions at a number, with the balances before them, and how they stand one behind another.
use Rattle.std.proofs.Common.{ℕ, ◌≡◌, ◌+◌, ◌<◌, ◌≤◌, Bool, true, false, List, [], ◌∷◌, ◌++◌, length, Some, refl, sym, subst, ◌∙◌, arith}
use Rattle.std.proofs.lemmas.List.{length-append}
use Rattle.k_num.specs.declared.place.Place.{Place}
use Rattle.k_code.specs.declared.balance.Balance.{Balance}
use Rattle.k_code.specs.declared.code.Code.{Code}
use Rattle.k_code.specs.declared.instruction.Do.{Do}
use Rattle.k_code.specs.declared.instruction.Instr.{Instr}
use Rattle.k_code.specs.Balances.{left_open, is_met, goes_on}
use Rattle.k_code.specs.Named.{is_there, text_is_short}
use Rattle.k_evaluation.specs.States.{Program}
use Rattle.k_lower_code.specs.Loops.{if_so, one_if}
use Rattle.k_lower_code.specs.Pieces.{Piece, instruction}
use Rattle.k_lower_code.specs.Stretches.{Site, Stretch}
use Rattle.k_lower_valid.proofs.Texts.{Text, opened, Fine, HasAt, Labelled, AllFine, has_first, has_rest, labelled_first, labelled_rest, fine_both, HasTable, goes}
use Rattle.k_lower_valid.proofs.Stands.{Stands, moved}
use Rattle.k_lower_valid.proofs.Spans.{Leaves, SpansFrom}

-- A SEGMENT of a text: so many instructions and balances before them, what is open before the first and behind the last; and they are fine, where
-- these facts hold.
pub record Segment (code : Code) (F : Type 0) (g : Text) (first : ℕ) (instrs : List Instr) (marks : List Balance) (size : ℕ) (b0 b1 : Balance) : Type 0 where
  pub sized : length instrs ≡ size
  pub long : length marks ≡ size
  pub begins : Labelled g first marks → g.before (first + size) ≡ b1 → g.before first ≡ b0
  pub fine : F → HasAt g first instrs → Labelled g first marks → g.before (first + size) ≡ b1 → g.entry ≤ first → first + size < g.end → AllFine code g first instrs

pub sum_long : {X : Type 0} (a b : List X) (n k t : ℕ) → t ≡ n + k → length a ≡ n → length b ≡ k → length (a ++ b) ≡ t
sum_long a b n k t sum x y = (let two : length (a ++ b) ≡ length a + length b = length-append a b in omega (arith, two, x, y, sum))

-- ONE SEGMENT BEHIND ANOTHER
pub both_segments : {code : Code} {F : Type 0} {g : Text} {first : ℕ} {one other : List Instr} {m1 m2 : List Balance} {n k : ℕ} {b0 b1 b2 : Balance} (p t : ℕ)
    → p ≡ first + n → t ≡ n + k → Segment code F g first one m1 n b0 b1 → Segment code F g p other m2 k b1 b2 → Segment code F g first (one ++ other) (m1 ++ m2) t b0 b2
both_segments {code = code} {F = F} {g = g} {first = first} {one = one} {other = other} {m1 = m1} {m2 = m2} {n = n} {k = k} {b0 = b0} {b1 = b1} {b2 = b2} p t at sum a b = record {
  sized = sum_long one other n k t sum a.sized b.sized;
  long = sum_long m1 m2 n k t sum a.long b.long;
  begins = λ labels end. a.begins (labelled_first g first m1 m2 labels) (middle labels end);
  fine = λ facts has labels end low high.
      fine_both code g first one other n a.sized
      (a.fine facts (has_first g first one other has) (labelled_first g first m1 m2 labels) (middle labels end) low (omega (arith, high, sum)))
      (subst (λ m. AllFine code g m other) at
      (b.fine facts (subst (λ m. HasAt g m other) (sym at) (has_rest g first one other n a.sized has)) (second labels) (last end) (omega (arith, low, at)) (omega (arith, high, at, sum))));
}
  where
    second : Labelled g first (m1 ++ m2) → Labelled g p m2
    second labels = subst (λ m. Labelled g m m2) (sym at) (labelled_rest g first m1 m2 n a.long labels)

    last : g.before (first + t) ≡ b2 → g.before (p + k) ≡ b2
    last end = moved g (first + t) (p + k) b2 (omega (arith, at, sum)) end

    middle : Labelled g first (m1 ++ m2) → g.before (first + t) ≡ b2 → g.before (first + n) ≡ b1
    middle labels end = moved g p (first + n) b1 at (b.begins (second labels) (last end))

-- what follows from other facts
pub under : {code : Code} {F G : Type 0} {g : Text} {first : ℕ} {instrs : List Instr} {marks : List Balance} {size : ℕ} {b0 b1 : Balance}
    → (G → F) → Segment code F g first instrs marks size b0 b1 → Segment code G g first instrs marks size b0 b1
under less a = record { sized = a.sized; long = a.long; begins = a.begins; fine = λ facts. a.fine (less facts) }

-- a segment between other balances that are equal
pub between : {code : Code} {F : Type 0} {g : Text} {first : ℕ} {instrs : List Instr} {marks : List Balance} {size : ℕ} {b0 b1 : Balance} (a0 a1 : Balance)
    → b0 ≡ a0 → b1 ≡ a1 → Segment code F g first instrs marks size b0 b1 → Segment code F g first instrs marks size a0 a1
between a0 a1 is0 is1 a = record {
  sized = a.sized;
  long = a.long;
  begins = λ labels end. a.begins labels (end ∙ sym is1) ∙ is0;
  fine = λ facts has labels end low high. a.fine facts has labels (end ∙ sym is1) low high;
}

-- nothing
pub no_segment : {code : Code} {F : Type 0} {g : Text} (first : ℕ) (b : Balance) → Segment code F g first [] [] 0 b b
no_segment {g = g} first b = record {
  sized = refl;
  long = refl;
  begins = λ labels end. moved g (first + 0) first b (omega arith) end;
  fine = λ facts has labels end low high. tt;
}

-- one instruction
pub one_segment : {code : Code} {F : Type 0} {g : Text} {first : ℕ} {i : Instr} {b0 b1 : Balance}
    → (F → g.instr_at first ≡ Some i → g.before first ≡ b0 → g.before (first + 1) ≡ b1 → g.entry ≤ first → first + 1 < g.end → Fine code g first i)
    → Segment code F g first (i ∷ []) (b0 ∷ []) 1 b0 b1
one_segment each = record {
  sized = refl;
  long = refl;
  begins = λ labels end. labels.0;
  fine = λ facts has labels end low high. (each facts has.0 labels.0 end low high, tt);
}

-- a piece
pub piece_segment : {code : Code} {F : Type 0} {g : Text} {A : Type 0} (first s o r : ℕ) (piece : Piece A) (is : Stands code piece)
    → Segment code F g first (piece.code first) (is.marks s o r) piece.size (opened s o r) (opened s o r)
piece_segment {g = g} first s o r piece is = record {
  sized = is.sized first;
  long = is.long s o r;
  begins = λ labels end. is.begins g s o r first labels end;
  fine = λ facts has labels end low high. is.fine g s o r first has labels end low high;
}

-- a stretch, where its jumps lead out as they may
pub stretch_segment : {code : Code} {F : Type 0} {g : Text} (first s o r k e l : ℕ) (site : Site) (t : Stretch) (is : SpansFrom code k t e l) → site.objects ≡ o + e → k ≤ s
    → (F → Leaves t.jumps.breaks g site.breaks (first + t.size) (opened s o r)) → (F → Leaves t.jumps.continues g site.continues (first + t.size) (opened s o r))
    → Segment code F g first (t.code site first) (is.marks s o r) t.size (opened s (o + e) r) (opened s (o + l) r)
stretch_segment {g = g} first s o r k e l site t is enters saves breaks continues = record {
  sized = is.sized site first;
  long = is.long s o r;
  begins = λ labels end. is.begins g s o r (o + e) (o + l) first refl refl labels end;
  fine = λ facts has labels end low high. is.fine g site s o r (o + l) first enters refl saves has labels end low high (breaks facts) (continues facts);
}

module _ (code : Code) (program : Program) (table : HasTable program) where
  -- an instruction that goes on
  pub going_segment : {F : Type 0} {g : Text} {first : ℕ} (place : Place) (what : Do) (b0 b1 : Balance) → goes_on what ≡ true → is_there code what ≡ true → text_is_short what ≡ true
      → is_met what b0 ≡ true → left_open what b0 ≡ b1 → Segment code F g first (instruction program place what ∷ []) (b0 ∷ []) 1 b0 b1
  going_segment {g = g} {first = first} place what b0 b1 on there short met leave =
      one_segment (λ facts has here next low high. goes code g program place what first b0 table on there short met here (next ∙ sym leave) high)

  -- the balance before one that may be left out
  abbrev pub marks_if : Bool → Balance → List Balance
  marks_if false b = []
  marks_if true b = b ∷ []

  -- such a one
  pub if_segment : {F : Type 0} {g : Text} {first : ℕ} (place : Place) (so : Bool) (what : Do) (b0 b1 : Balance) → goes_on what ≡ true → is_there code what ≡ true → text_is_short what ≡ true
      → (F → so ≡ true → is_met what b0 ≡ true) → (so ≡ true → left_open what b0 ≡ b1) → (so ≡ false → b0 ≡ b1)
      → Segment code F g first (if_so program place so what) (marks_if so b0) (one_if so) b0 b1
  if_segment {first = first} place false what b0 b1 on there short met leave same = between b0 b1 refl (same refl) (no_segment first b0)
  if_segment {g = g} {first = first} place true what b0 b1 on there short met leave same =
      one_segment (λ facts has here next low high. goes code g program place what first b0 table on there short (met facts refl) here (next ∙ sym (leave refl)) high)
