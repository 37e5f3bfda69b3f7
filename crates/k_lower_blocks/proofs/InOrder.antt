-- What is left behind statements that were emitted: a rest, and the ends of texts that are to come.
use Rattle.std.proofs.Common.{ℕ, zero, suc, ◌≡◌, ◌+◌, List, [], ◌∷◌, ◌++◌, length, Result, Ok, Err, refl, sym, ap, subst, ◌∙◌, append_assoc, arith}
use Rattle.std.proofs.lemmas.List.{append-nil}
use Rattle.k_num.specs.declared.memory.NoMemory.{NoMemory}
use Rattle.k_num.specs.declared.place.Place.{Place}
use Rattle.k_code.specs.declared.instruction.Do.TheVariants.{ObjectsClose}
use Rattle.k_code.specs.declared.instruction.Instr.{Instr}
use Rattle.k_evaluation.specs.States.{Program}
use Rattle.k_lower_code.specs.Pieces.{Piece, ◌>>>◌, does}
use Rattle.k_lower_code.specs.Stretches.{Site, Stretch, behind_objects, followed_by, nothing_done, to_pads}
use Rattle.k_lower_expressions.proofs.Emitted.{Emitted, Emits}
use Rattle.k_lower_extents.specs.declared.extent.Extent.{Extent}
use Rattle.k_lower_extents.specs.Extents.{extent_of}
use Rattle.k_lower_statements.proofs.Left.{IsLeft}
use Rattle.k_lower_statements.specs.Sites.{at_site, site_of}
use Rattle.k_lower_statements.specs.declared.site.Site as declared_site
use Rattle.k_lower_blocks.specs.Arounds.{Enters, ends_all, pads_of, rest_behind}
use Rattle.k_lower_blocks.specs.declared.block.Ending.{Ending}

-- what is left, as another piece with the same instructions
pub left_same : (rest next whole : Piece (Unit {0})) (old now : List Instr)
    → next.size ≡ rest.size → next.code (length now) ≡ rest.code (length now) → IsLeft rest whole old now → IsLeft next whole old now
left_same rest next whole old now size code left = record {
  gives = left.gives;
  code = ap (λ (l : List Instr). now ++ l) code ∙ left.code;
  size = ap (λ (n : ℕ). length now + n) size ∙ left.size;
}

-- one more piece was emitted
pub left_behind : (piece next rest whole : Piece (Unit {0})) (old now after : List Instr)
    → rest.size ≡ piece.size + next.size → rest.code (length now) ≡ piece.code (length now) ++ next.code (length now + piece.size)
    → IsLeft rest whole old now → Emitted {A = Unit {0}} tt piece now after → IsLeft next whole old after
left_behind piece next rest whole old now after size code left one = record {
  gives = left.gives;
  code = ap (λ (n : ℕ). after ++ next.code n) one.size ∙ (ap (λ (l : List Instr). l ++ next.code (length now + piece.size)) one.code
      ∙ (append_assoc now (piece.code (length now)) (next.code (length now + piece.size)) ∙ (ap (λ (l : List Instr). now ++ l) (sym code) ∙ left.code)));
  size = (let a : length after ≡ length now + piece.size = one.size in
      (let b : length now + rest.size ≡ length old + whole.size = left.size in omega (arith, a, b, size)));
}

-- all that was left was emitted
pub left_emitted : (result : Result (Unit {0}) NoMemory) (rest whole : Piece (Unit {0})) (old now new : List Instr)
    → IsLeft rest whole old now → Emits result rest now new → Emits result whole old new
left_emitted (Ok u) rest whole old now new left e = record { gives = refl; code = e.code ∙ left.code; size = e.size ∙ left.size }
left_emitted (Err e) rest whole old now new left emits = tt

module _ (program : Program) where
  -- WHAT IS LEFT behind a statement that made so many objects: a rest, and the ends that are to come
  abbrev pub rest_at : ℕ → Stretch → Site → List Ending → Piece (Unit {0})
  rest_at opens rest site ends = at_site site (rest_behind program opens rest) >>> λ done. ends_all program ends

  -- all of a text
  pub all_left : (s : Stretch) (site : Site) (old : List Instr) → IsLeft (rest_at 0 s site []) (at_site site s) old old
  all_left s site old = record {
    gives = refl;
    code = ap (λ (l : List Instr). old ++ l) (append-nil (s.code site (length old)));
    size = omega arith;
  }

  -- how a rest stands behind a statement
  followed_size : (s rest : Stretch) (n : ℕ) → (followed_by program s n rest).size ≡ s.size + (rest_behind program n rest).size
  followed_size s rest zero = refl
  followed_size s rest (suc n) = refl

  followed_code : (s rest : Stretch) (n : ℕ) (site : Site) (first : ℕ) → (followed_by program s n rest).code site first
      ≡ s.code site first ++ (rest_behind program n rest).code (behind_objects s.opens site) (first + s.size)
  followed_code s rest zero site first = refl
  followed_code s rest (suc n) site first = refl

  -- ONE MORE STATEMENT was emitted
  pub statement_emitted : (s rest : Stretch) (opens : ℕ) (site : Site) (ends : List Ending) (whole : Piece (Unit {0})) (old now after : List Instr)
      → IsLeft (rest_at 0 (followed_by program s opens rest) site ends) whole old now → Emitted {A = Unit {0}} tt (at_site site s) now after
      → IsLeft (rest_at opens rest (behind_objects s.opens site) ends) whole old after
  statement_emitted s rest opens site ends whole old now after left one =
      let all : Stretch = followed_by program s opens rest in
      let last : Stretch = rest_behind program opens rest in
      let first : ℕ = length now in
      let there : Site = behind_objects s.opens site in
      let size : all.size ≡ s.size + last.size = followed_size s rest opens in
      let at : first + all.size ≡ first + s.size + last.size = omega (arith, size) in
      left_behind (at_site site s) (rest_at opens rest there ends) (rest_at 0 all site ends) whole old now after
      (omega (arith, size))
      (ap (λ (l : List Instr). l ++ (ends_all program ends).code (first + all.size)) (followed_code s rest opens site first)
      ∙ (ap (λ (n : ℕ). (s.code site first ++ last.code there (first + s.size)) ++ (ends_all program ends).code n) at
      ∙ append_assoc (s.code site first) (last.code there (first + s.size)) ((ends_all program ends).code (first + s.size + last.size))))
      left one

  entered_by : (k : ℕ) (rest : Stretch) (site inner : declared_site.Site) (ends more : List Ending) (whole : Piece (Unit {0})) (old now : List Instr)
      → Enters k (extent_of rest) rest.place site (length now) inner ends more
      → IsLeft (rest_at k rest (site_of site) ends) whole old now → IsLeft (rest_at 0 rest (site_of inner) more) whole old now
  entered_by zero rest site inner ends more whole old now enters left =
      subst (λ (s : declared_site.Site). IsLeft (rest_at 0 rest (site_of s) more) whole old now) (sym (enters.same refl))
      (subst (λ (es : List Ending). IsLeft (rest_at 0 rest (site_of site) es) whole old now) (sym (enters.none refl)) left)
  entered_by (suc n) rest site inner ends more whole old now enters left =
      let first : ℕ = length now in
      let here : Site = site_of site in
      let there : Site = to_pads rest.jumps (first + rest.size) here in
      let end : Ending = record { place = rest.place; count = suc n; jumps = rest.jumps; site = site } in
      let later : Piece (Unit {0}) = ends_all program ends in
      let pads : Piece (Unit {0}) = pads_of program rest.place (ObjectsClose (suc n)) rest.jumps here in
      let last : Piece (Unit {0}) = does program rest.place (ObjectsClose (suc n)) in
      let text : List Instr = rest.code there first in
      let padded : List Instr = pads.code (first + rest.size) in
      let next : Piece (Unit {0}) = at_site there rest >>> λ done. ends_all program (end ∷ ends) in
      let some : suc n ≡ 0 → ⊥ = λ is. absurd (omega (arith, is)) in
      let at : first + (rest.size + pads.size + 1) ≡ first + rest.size + (pads.size + 1) = omega arith in
      subst (λ (es : List Ending). IsLeft (rest_at 0 rest (site_of inner) es) whole old now) (sym (enters.one some))
      (subst (λ (s : Site). IsLeft (rest_at 0 rest s (end ∷ ends)) whole old now) (sym (enters.inside some))
      (left_same (rest_at (suc n) rest here ends) next whole old now (omega arith)
      (sym
      (ap (λ (m : ℕ). ((text ++ padded) ++ last.code 0) ++ later.code m) at
      ∙ (ap (λ (l : List Instr). l ++ later.code (first + rest.size + (pads.size + 1))) (append_assoc text padded (last.code 0))
      ∙ append_assoc text (padded ++ last.code 0) (later.code (first + rest.size + (pads.size + 1))))))
      left))

  -- THE REST BEHIND A STATEMENT is entered
  pub rest_entered : (opens : ℕ) (rest : Stretch) (x : Extent) (at : Place) (site inner : declared_site.Site) (ends more : List Ending) (whole : Piece (Unit {0}))
      (old now : List Instr) → x ≡ extent_of rest → at ≡ rest.place → Enters opens x at site (length now) inner ends more
      → IsLeft (rest_at opens rest (site_of site) ends) whole old now → IsLeft (rest_at 0 rest (site_of inner) more) whole old now
  rest_entered opens rest x at site inner ends more whole old now x_is at_is enters left =
      entered_by opens rest site inner ends more whole old now
      (subst (λ (y : Extent). Enters opens y rest.place site (length now) inner ends more) x_is
      (subst (λ (p : Place). Enters opens x p site (length now) inner ends more) at_is enters)) left

  -- THE LAST TEXT was emitted
  pub text_emitted : (s : Stretch) (site : Site) (ends : List Ending) (whole : Piece (Unit {0})) (old now after : List Instr)
      → IsLeft (rest_at 0 s site ends) whole old now → Emitted {A = Unit {0}} tt (at_site site s) now after
      → IsLeft (ends_all program ends) whole old after
  text_emitted s site ends whole old now after left one =
      left_behind (at_site site s) (ends_all program ends) (rest_at 0 s site ends) whole old now after refl refl left one

  -- nothing is left but the ends
  pub nothing_left : (place : Place) (site : Site) (ends : List Ending) (whole : Piece (Unit {0})) (old now : List Instr)
      → IsLeft (rest_at 0 (nothing_done place) site ends) whole old now → IsLeft (ends_all program ends) whole old now
  nothing_left place site ends whole old now left =
      left_same (rest_at 0 (nothing_done place) site ends) (ends_all program ends) whole old now (omega arith)
      (ap (λ (n : ℕ). (ends_all program ends).code n) (let e : length now ≡ length now + 0 = omega arith in e)) left
