-- Texts that are closed at their ends, statements one behind another, and stretches behind which the control source is as before.
use Rattle.std.proofs.Common.{ℕ, zero, suc, ◌≡◌, ◌+◌, ◌-◌, ◌<◌, ◌≤◌, ◌||◌, Bool, true, false, List, [], ◌∷◌, ◌++◌, length, refl, sym, subst, ap, ◌∙◌, arith}
use Rattle.std.proofs.lemmas.Bool.{lt-ltb, le-leb, true≢false}
use Rattle.std.proofs.lemmas.List.{length-append, append_assoc}
use Rattle.k_num.specs.declared.place.Place.{Place}
use Rattle.k_code.specs.declared.balance.Balance.{Balance}
use Rattle.k_code.specs.declared.code.Code.{Code}
use Rattle.k_code.specs.declared.instruction.Do.TheVariants as act
use Rattle.k_code.specs.declared.instruction.Instr.{Instr}
use Rattle.k_code.specs.Balances.{left_open, is_met, goes_on}
use Rattle.k_code.specs.Named.{is_there}
use Rattle.k_evaluation.specs.States.{Program}
use Rattle.k_lower_code.specs.Pieces.{instruction}
use Rattle.k_lower_code.specs.Stretches.{Site, Stretch, behind, closed, pads, pads_size, pad_size, over_size, to_pads, followed_by, in_order, settled, settled_unless}
use Rattle.k_lower_valid.proofs.Texts.{Text, opened, HasAt, Labelled, AllFine, has_first, has_rest, labelled_first, labelled_rest, fine_both, HasTable, goes}
use Rattle.k_lower_valid.proofs.Stands.{moved, one_more}
use Rattle.k_lower_valid.proofs.Spans.{has_jump, Comes, Leaves, jump_rest, jump_comes, objects_are, Spans, SpansFrom, spans_from, nothing_spans, behind_spans, without_spans, closing_marks, closing_begins, closing_long, closing_sized, closing_breaks, closing_continues, pads_small, closing_fine, closing_comes}

module _ (code : Code) (program : Program) (table : HasTable program) where
  -- A TEXT THAT IS CLOSED: so many objects more are live in it than behind it
  module _ (text : Stretch) (n : ℕ) (is : Spans code text 0 0) where
    abbrev behind_text : Site → ℕ → List Instr
    behind_text site at = pads program text.place (act.ObjectsClose n) text.jumps site at ++ instruction program text.place (act.ObjectsClose n) ∷ []

    abbrev closing : Balance → Balance → List Balance
    closing inner outer = closing_marks code program table text.jumps inner outer

    closing_of : (s o r : ℕ) → List Balance
    closing_of s o r = closing (opened s (o + n) r) (opened s o r)

    closed_long : (s o r : ℕ) → length (is.marks s (o + n) r ++ closing (opened s (o + n) r) (opened s o r)) ≡ (text.size + pads_size text.jumps) + 1
    closed_long s o r =
        (let two : length (is.marks s (o + n) r ++ closing (opened s (o + n) r) (opened s o r)) ≡ length (is.marks s (o + n) r) + length (closing (opened s (o + n) r) (opened s o r)) = length-append (is.marks s (o + n) r) (closing (opened s (o + n) r) (opened s o r)) in
        (let x : length (is.marks s (o + n) r) ≡ text.size = is.long s (o + n) r in
        (let y : length (closing (opened s (o + n) r) (opened s o r)) ≡ pads_size text.jumps + 1 = closing_long code program table text.jumps.breaks text.jumps.continues text.jumps.returns (opened s (o + n) r) (opened s o r) in omega (arith, two, x, y))))

    closed_sized : (site : Site) (first : ℕ) → length (text.code (to_pads text.jumps (first + text.size) site) first ++ behind_text site (first + text.size)) ≡ (text.size + pads_size text.jumps) + 1
    closed_sized site first =
        (let two : length (text.code (to_pads text.jumps (first + text.size) site) first ++ behind_text site (first + text.size)) ≡ length (text.code (to_pads text.jumps (first + text.size) site) first) + length (behind_text site (first + text.size)) = length-append (text.code (to_pads text.jumps (first + text.size) site) first) (behind_text site (first + text.size)) in
        (let x : length (text.code (to_pads text.jumps (first + text.size) site) first) ≡ text.size = is.sized (to_pads text.jumps (first + text.size) site) first in
        (let y : length (behind_text site (first + text.size)) ≡ pads_size text.jumps + 1 = closing_sized code program table text.place (act.ObjectsClose n) text.jumps.breaks text.jumps.continues text.jumps.returns site (first + text.size) in omega (arith, two, x, y))))

    -- the balance at the pads, and the labels of the close
    pads_labels : (g : Text) (s o r first : ℕ) → Labelled g first (is.marks s (o + n) r ++ closing (opened s (o + n) r) (opened s o r)) → Labelled g (first + text.size) (closing (opened s (o + n) r) (opened s o r))
    pads_labels g s o r first labels = labelled_rest g first (is.marks s (o + n) r) (closing (opened s (o + n) r) (opened s o r)) text.size (is.long s (o + n) r) labels

    at_pads : (g : Text) (s o r first : ℕ) → Labelled g first (is.marks s (o + n) r ++ closing (opened s (o + n) r) (opened s o r)) → g.before (first + text.size) ≡ opened s (o + n) r
    at_pads g s o r first labels = closing_begins code program table text.jumps.breaks text.jumps.continues text.jumps.returns g (first + text.size) (opened s (o + n) r) (opened s o r) (pads_labels g s o r first labels)

    closed_fine : (g : Text) (site : Site) (s o r z first : ℕ) → site.objects ≡ o + n → z ≡ o + 0 → 0 ≤ s
        → HasAt g first (text.code (to_pads text.jumps (first + text.size) site) first ++ behind_text site (first + text.size))
        → Labelled g first (is.marks s (o + n) r ++ closing (opened s (o + n) r) (opened s o r))
        → g.before (first + ((text.size + pads_size text.jumps) + 1)) ≡ opened s z r → g.entry ≤ first → first + ((text.size + pads_size text.jumps) + 1) < g.end
        → Leaves text.jumps.breaks g site.breaks (first + ((text.size + pads_size text.jumps) + 1)) (opened s o r)
        → Leaves text.jumps.continues g site.continues (first + ((text.size + pads_size text.jumps) + 1)) (opened s o r)
        → AllFine code g first (text.code (to_pads text.jumps (first + text.size) site) first ++ behind_text site (first + text.size))
    unfolding goes_on left_open is_met is_there
    closed_fine g site s o r z first enters leaves saved has labels end low high breaks continues =
        (let inner : Site = to_pads text.jumps (first + text.size) site in
        (let has_text : HasAt g first (text.code inner first) = has_first g first (text.code inner first) (behind_text site (first + text.size)) has in
        (let small : over_size (text.jumps.breaks || text.jumps.continues) + pad_size text.jumps.breaks ≤ pads_size text.jumps = pads_small code program table text.jumps.breaks text.jumps.continues text.jumps.returns in
        fine_both code g first (text.code inner first) (behind_text site (first + text.size)) text.size (is.sized inner first)
        (is.fine g inner s (o + n) r (o + n) first (omega (arith, enters)) (omega arith) (omega arith) has_text
        (labelled_first g first (is.marks s (o + n) r) (closing (opened s (o + n) r) (opened s o r)) labels) (at_pads g s o r first labels) low (omega (arith, high))
        (λ holds. (
          (let e : first + text.size ≤ inner.breaks = omega arith in e),
          (let e : inner.breaks < g.end = omega (arith, high, small) in e),
          closing_breaks code program table text.jumps.breaks text.jumps.continues text.jumps.returns g (first + text.size) (opened s (o + n) r) (opened s o r) (pads_labels g s o r first labels) holds,
        ))
        (λ holds. (
          (let e : first + text.size ≤ inner.continues = omega arith in e),
          (let e : inner.continues < g.end = omega (arith, high, small) in e),
          closing_continues code program table text.jumps.breaks text.jumps.continues text.jumps.returns g (first + text.size) (opened s (o + n) r) (opened s o r) (pads_labels g s o r first labels) holds,
        )))
        (closing_fine code program table text.place (act.ObjectsClose n) text.jumps.breaks text.jumps.continues text.jumps.returns g site (first + text.size) (opened s (o + n) r) (opened s o r)
        refl refl refl (le-leb n (o + n) (omega arith)) (objects_are s r ((o + n) - n) o (omega arith))
        (has_rest g first (text.code inner first) (behind_text site (first + text.size)) text.size (is.sized inner first) has)
        (pads_labels g s o r first labels)
        (moved g (first + ((text.size + pads_size text.jumps) + 1)) (((first + text.size) + pads_size text.jumps) + 1) (opened s o r) (omega arith) (end ∙ objects_are s r z o (omega (arith, leaves))))
        (omega (arith, low)) (omega (arith, high))
        (λ holds. ((let e : ((first + text.size) + pads_size text.jumps) + 1 ≤ site.breaks = omega (arith, (breaks holds).0) in e), (breaks holds).1, (breaks holds).2))
        (λ holds. ((let e : ((first + text.size) + pads_size text.jumps) + 1 ≤ site.continues = omega (arith, (continues holds).0) in e), (continues holds).1, (continues holds).2))
        (λ b c. comes_to text.jumps.breaks text.jumps.continues b c g inner first (is.comes inner first c) has_text (is.sized inner first) refl)))))
      where
        comes_to : (breaks continues : Bool) → breaks ≡ true → continues ≡ true → (g : Text) (inner : Site) (first : ℕ) → has_jump inner.continues (text.code inner first) ≡ true
            → HasAt g first (text.code inner first) → length (text.code inner first) ≡ text.size
            → inner.continues ≡ ((first + text.size) + over_size (breaks || continues)) + pad_size breaks → Comes g (first + text.size) (((first + text.size) + 1) + 2)
        comes_to true continues b c g inner first comes has_text sized at =
            jump_comes g (((first + text.size) + 1) + 2) first (text.code inner first) (first + text.size) has_text (omega (arith, sized))
            (subst (λ k. has_jump k (text.code inner first) ≡ true) at comes)
        comes_to false continues b c g inner first comes has_text sized at = absurd (true≢false (sym b))

    -- the text, its pads and its close, one behind another in two ways
    same_text : (site : Site) (first : ℕ) → text.code (to_pads text.jumps (first + text.size) site) first ++ behind_text site (first + text.size) ≡ (closed program (act.ObjectsClose n) text).code site first
    same_text site first = sym (append_assoc (text.code (to_pads text.jumps (first + text.size) site) first) (pads program text.place (act.ObjectsClose n) text.jumps site (first + text.size)) (instruction program text.place (act.ObjectsClose n) ∷ []))

    pub closed_spans : Spans code (closed program (act.ObjectsClose n) text) n 0
    closed_spans = record {
      sized = λ site first. subst (λ list. length list ≡ (text.size + pads_size text.jumps) + 1) (same_text site first) (closed_sized site first);
      marks = λ s o r. is.marks s (o + n) r ++ closing (opened s (o + n) r) (opened s o r);
      long = closed_long;
      begins = λ g s o r a z first enters leaves labels end.
          is.begins g s (o + n) r (o + n) (o + n) first (omega arith) (omega arith) (labelled_first g first (is.marks s (o + n) r) (closing (opened s (o + n) r) (opened s o r)) labels) (at_pads g s o r first labels)
          ∙ objects_are s r (o + n) a (sym enters);
      fine = λ g site s o r z first enters leaves saved has labels end low high breaks continues. subst (AllFine code g first) (same_text site first)
          (closed_fine g site s o r z first enters leaves saved (subst (HasAt g first) (sym (same_text site first)) has) labels end low high breaks continues);
      comes = λ site first holds. subst (λ list. has_jump site.continues list ≡ true) (same_text site first) (jump_rest site.continues (text.code (to_pads text.jumps (first + text.size) site) first) (behind_text site (first + text.size))
          (closing_comes code program table text.place (act.ObjectsClose n) text.jumps.breaks text.jumps.continues text.jumps.returns site (first + text.size) holds));
    }

  -- THE REST OF A BLOCK behind a statement
  pub followed_by_spans : (s rest : Stretch) (n : ℕ) → n ≡ s.opens → Spans code s 0 n → Spans code rest 0 0 → Spans code (followed_by program s n rest) 0 0
  followed_by_spans s rest zero opens one other = behind_spans code s rest 0 0 0 (omega (arith, opens)) one other
  followed_by_spans s rest (suc n) opens one other =
      without_spans code (behind s (closed program (act.ObjectsClose (suc n)) rest)) 0 0
      (behind_spans code s (closed program (act.ObjectsClose (suc n)) rest) 0 (suc n) 0 (omega (arith, opens)) one (closed_spans rest (suc n) other))

  -- a statement may stand anywhere, and so may several
  abbrev pub StretchStands : Stretch → Type 0
  StretchStands s = Spans code s 0 s.opens

  abbrev pub StretchesStand : List Stretch → Type 0
  StretchesStand [] = Unit {0}
  StretchesStand (s ∷ ss) = StretchStands s × StretchesStand ss

  pub followed_by_opens : (s rest : Stretch) (n : ℕ) → n ≡ s.opens → rest.opens ≡ 0 → (followed_by program s n rest).opens ≡ 0
  followed_by_opens s rest zero opens none = (let e : s.opens + rest.opens ≡ 0 = omega (arith, opens, none) in e)
  followed_by_opens s rest (suc n) opens none = refl

  pub in_order_opens : (place : Place) (ss : List Stretch) → (in_order program place ss).opens ≡ 0
  in_order_opens place [] = refl
  in_order_opens place (s ∷ ss) = followed_by_opens s (in_order program place ss) s.opens refl (in_order_opens place ss)

  pub in_order_spans : (place : Place) (ss : List Stretch) → StretchesStand ss → Spans code (in_order program place ss) 0 0
  in_order_spans place [] all = nothing_spans code place
  in_order_spans place (s ∷ ss) all = followed_by_spans s (in_order program place ss) s.opens refl all.0 (in_order_spans place ss all.1)

  -- A STRETCH BETWEEN a `Save` and a `Back`, of which no `break` and no `continue` leads out
  pub settled_spans : (t : Stretch) → t.jumps.breaks ≡ false → t.jumps.continues ≡ false → SpansFrom code 1 t 0 0 → Spans code (settled program t) 0 0
  unfolding goes_on left_open is_met is_there
  settled_spans t no_breaks no_continues is = record {
    sized = sized;
    marks = λ s o r. opened s o r ∷ (is.marks (s + 1) o r ++ (opened (s + 1) o r ∷ []));
    long = λ s o r. long s o r;
    begins = λ g s o r a z first enters leaves labels end. labels.0 ∙ objects_are s r o a (omega (arith, enters));
    fine = λ g site s o r z first enters leaves saved has labels end low high breaks continues. (
      goes code g program t.place act.Save first (opened s o r) table refl refl refl refl labels.0 (start g s o r first labels) (omega (arith, high)),
      fine_both code g (first + 1) (t.code site (first + 1)) (instruction program t.place act.Back ∷ []) t.size (is.sized site (first + 1))
          (is.fine g site (s + 1) o r o (first + 1) enters (omega arith) (omega arith) (has_first g (first + 1) (t.code site (first + 1)) (instruction program t.place act.Back ∷ []) has.1)
          (labelled_first g (first + 1) (is.marks (s + 1) o r) (opened (s + 1) o r ∷ []) labels.1) (last g s o r first labels) (omega (arith, low)) (omega (arith, high))
          (λ holds. absurd (true≢false (sym holds ∙ no_breaks))) (λ holds. absurd (true≢false (sym holds ∙ no_continues)))) (
            goes code g program t.place act.Back ((first + 1) + t.size) (opened (s + 1) o r) table refl refl refl (lt-ltb 0 (s + 1) (omega arith)) (last g s o r first labels)
                (moved g (first + ((1 + t.size) + 1)) (((first + 1) + t.size) + 1) (opened s z r) (omega arith) end ∙ objects_are s r z o (omega (arith, leaves)) ∙ ap (λ k. opened k o r) (sym (one_more s))) (omega (arith, high)),
            tt,
          ),
    );
    comes = λ site first holds. absurd (true≢false (sym holds ∙ no_continues));
  }
    where
      sized : (site : Site) (first : ℕ) → length (instruction program t.place act.Save ∷ (t.code site (first + 1) ++ (instruction program t.place act.Back ∷ []))) ≡ (1 + t.size) + 1
      sized site first =
          (let two : length (t.code site (first + 1) ++ (instruction program t.place act.Back ∷ [])) ≡ length (t.code site (first + 1)) + 1 = length-append (t.code site (first + 1)) (instruction program t.place act.Back ∷ []) in
          (let x : length (t.code site (first + 1)) ≡ t.size = is.sized site (first + 1) in omega (arith, two, x)))

      long : (s o r : ℕ) → length (opened s o r ∷ (is.marks (s + 1) o r ++ (opened (s + 1) o r ∷ []))) ≡ (1 + t.size) + 1
      long s o r =
          (let two : length (is.marks (s + 1) o r ++ (opened (s + 1) o r ∷ [])) ≡ length (is.marks (s + 1) o r) + 1 = length-append (is.marks (s + 1) o r) (opened (s + 1) o r ∷ []) in
          (let x : length (is.marks (s + 1) o r) ≡ t.size = is.long (s + 1) o r in omega (arith, two, x)))

      last : (g : Text) (s o r first : ℕ) → Labelled g first (opened s o r ∷ (is.marks (s + 1) o r ++ (opened (s + 1) o r ∷ []))) → g.before ((first + 1) + t.size) ≡ opened (s + 1) o r
      last g s o r first labels = (labelled_rest g (first + 1) (is.marks (s + 1) o r) (opened (s + 1) o r ∷ []) t.size (is.long (s + 1) o r) labels.1).0

      start : (g : Text) (s o r first : ℕ) → Labelled g first (opened s o r ∷ (is.marks (s + 1) o r ++ (opened (s + 1) o r ∷ []))) → g.before (first + 1) ≡ opened (s + 1) o r
      start g s o r first labels = is.begins g (s + 1) o r o o (first + 1) (omega arith) (omega arith) (labelled_first g (first + 1) (is.marks (s + 1) o r) (opened (s + 1) o r ∷ []) labels.1) (last g s o r first labels)

  pub settled_unless_spans : (unless : Bool) (t : Stretch) → (unless ≡ false → t.jumps.breaks ≡ false) → (unless ≡ false → t.jumps.continues ≡ false)
      → Spans code t 0 0 → Spans code (settled_unless unless program t) 0 0
  settled_unless_spans true t no_breaks no_continues is = is
  settled_unless_spans false t no_breaks no_continues is = settled_spans t (no_breaks refl) (no_continues refl) (spans_from code 1 t 0 0 is)
