-- Statements one behind another: what is left of a block, as statement by statement is emitted.
use Rattle.std.proofs.Common.{ℕ, ◌≡◌, ◌+◌, ◌<◌, get_or, List, [], ◌∷◌, length, map, drop, Result, refl, sym, ap, subst, ◌∙◌}
use Rattle.std.proofs.lemmas.List.{drop_more}
use Rattle.k_num.specs.declared.memory.NoMemory.{NoMemory}
use Rattle.k_num.specs.declared.place.Place.{Place}
use Rattle.k_types_meaning.specs.declared.tree.statement.TStmt.{TStmt}
use Rattle.k_code.specs.declared.instruction.Instr.{Instr}
use Rattle.k_evaluation.specs.States.{Program}
use Rattle.k_lower_code.specs.Pieces.{Piece}
use Rattle.k_lower_code.specs.Statements.{lowered}
use Rattle.k_lower_code.specs.Stretches.{Inside, Site, Stretch, behind_objects, in_order}
use Rattle.k_lower_expressions.proofs.Emitted.{Emitted, Emits}
use Rattle.k_lower_extents.specs.declared.extent.Extent.{Extent}
use Rattle.k_lower_extents.specs.Extents.{extent_of, rests_of}
use Rattle.k_lower_statements.proofs.Left.{IsLeft}
use Rattle.k_lower_statements.specs.Sites.{at_site, site_of}
use Rattle.k_lower_statements.specs.declared.site.Site as declared_site
use Rattle.k_lower_blocks.specs.Arounds.{EntersBlock, Passes, ends_all}
use Rattle.k_lower_blocks.specs.declared.block.BlockRest.{BlockRest}
use Rattle.k_lower_blocks.specs.declared.block.Ending.{Ending}
use Rattle.k_lower_blocks.proofs.InOrder.{all_left, left_emitted, nothing_left, rest_at, rest_entered, statement_emitted}
use Rattle.k_lower_blocks.proofs.Places.{order_place}

-- THIS IS LEFT OF A BLOCK at this place: these statements, of which the extents of all rests are listed, and the ends that are to come
pub record BlockLeft (program : Program) (place : Place) (ss : List Stretch) (block : BlockRest) (whole : Piece (Unit {0})) (old now : List Instr) : Type 0 where
  pub rests : block.rests ≡ rests_of program place ss
  pub left : IsLeft (rest_at program block.opens (in_order program place ss) (site_of block.site) block.endings) whole old now

-- the first of a list, or this where there is none
abbrev first_or : Extent → List Extent → Extent
first_or z [] = z
first_or z (a ∷ l) = a

module _ (program : Program) (place : Place) where
  -- all of it
  pub block_begins : (ss : List Stretch) (site : declared_site.Site) (rests : List Extent) (old : List Instr) → rests ≡ rests_of program place ss
      → BlockLeft program place ss (record { site = site; opens = 0; rests = rests; endings = [] }) (at_site (site_of site) (in_order program place ss)) old old
  block_begins ss site rests old is = record { rests = is; left = all_left program (in_order program place ss) (site_of site) old }

  -- two lists of which one is known begin and go on as it does
  first_same : (x y : Extent) (xs ys : List Extent) → x ∷ xs ≡ y ∷ ys → x ≡ y
  first_same x y xs ys is = ap (λ (l : List Extent). first_or x l) is

  more_same : (x y : Extent) (xs ys : List Extent) → x ∷ xs ≡ y ∷ ys → xs ≡ ys
  more_same x y xs ys is = ap (λ (l : List Extent). drop 1 l) is

  -- the rest from the next statement on is entered
  entered : (s : Stretch) (ss : List Stretch) (block in_it : BlockRest) (at : Place) (whole : Piece (Unit {0})) (old now : List Instr)
      → BlockLeft program place (s ∷ ss) block whole old now → EntersBlock at (length now) block in_it → at ≡ s.place
      → IsLeft (rest_at program 0 (in_order program place (s ∷ ss)) (site_of in_it.site) in_it.endings) whole old now
  entered s ss block in_it at whole old now left enters at_is =
      rest_entered program block.opens (in_order program place (s ∷ ss)) enters.rest at block.site in_it.site block.endings in_it.endings whole old now
      (first_same enters.rest (extent_of (in_order program place (s ∷ ss))) in_it.rests (rests_of program place ss) (sym enters.taken ∙ left.rests))
      (at_is ∙ sym (order_place program place s ss)) enters.enters left.left

  -- ONE MORE STATEMENT of a block was emitted
  pub block_goes_on : (s : Stretch) (ss : List Stretch) (block in_it behind : BlockRest) (at : Place) (opens : ℕ) (whole : Piece (Unit {0})) (old now after : List Instr)
      → BlockLeft program place (s ∷ ss) block whole old now → EntersBlock at (length now) block in_it → at ≡ s.place
      → Emitted {A = Unit {0}} tt (at_site (site_of in_it.site) s) now after → Passes opens in_it behind → opens ≡ s.opens
      → BlockLeft program place ss behind whole old after
  block_goes_on s ss block in_it behind at opens whole old now after left enters at_is one passes opens_is =
      let rest : Stretch = in_order program place ss in
      let here : Site = site_of in_it.site in
      record {
        rests = passes.rests ∙ more_same enters.rest (extent_of (in_order program place (s ∷ ss))) in_it.rests (rests_of program place ss) (sym enters.taken ∙ left.rests);
        left = subst (λ (es : List Ending). IsLeft (rest_at program behind.opens rest (site_of behind.site) es) whole old after) (sym passes.endings)
            (subst (λ (n : ℕ). IsLeft (rest_at program n rest (site_of behind.site) in_it.endings) whole old after) (sym (passes.opens_is ∙ opens_is))
            (subst (λ (t : Site). IsLeft (rest_at program s.opens rest t in_it.endings) whole old after)
            (sym (passes.site ∙ ap (λ (n : ℕ). behind_objects n here) opens_is))
            (statement_emitted program s rest s.opens here in_it.endings whole old now after
            (entered s ss block in_it at whole old now left enters at_is) one)));
      }

  -- THE END of a block was emitted
  pub block_ends : (result : Result (Unit {0}) NoMemory) (block in_it : BlockRest) (whole : Piece (Unit {0})) (old now new : List Instr)
      → BlockLeft program place [] block whole old now → EntersBlock place (length now) block in_it
      → Emits result (ends_all program in_it.endings) now new → Emits result whole old new
  block_ends result block in_it whole old now new left enters emits =
      left_emitted result (ends_all program in_it.endings) whole old now new
      (nothing_left program place (site_of in_it.site) in_it.endings whole old now
      (rest_entered program block.opens (in_order program place []) enters.rest place block.site in_it.site block.endings in_it.endings whole old now
      (first_same enters.rest (extent_of (in_order program place [])) in_it.rests [] (sym enters.taken ∙ left.rests)) refl enters.enters left.left))
      emits

-- the same of the statement of a list at a number
pub block_at : (w : Inside) (place : Place) (items : List TStmt) (i : ℕ) (item : TStmt) (block in_it behind : BlockRest) (at : Place) (opens : ℕ)
    (whole : Piece (Unit {0})) (old now after : List Instr) → i < length items → item ≡ get_or items i item
    → BlockLeft w.program place (map (lowered w) (drop i items)) block whole old now → EntersBlock at (length now) block in_it → at ≡ (lowered w item).place
    → Emitted {A = Unit {0}} tt (at_site (site_of in_it.site) (lowered w item)) now after → Passes opens in_it behind → opens ≡ (lowered w item).opens
    → BlockLeft w.program place (map (lowered w) (drop (i + 1) items)) behind whole old after
block_at w place items i item block in_it behind at opens whole old now after below is left enters at_is one passes opens_is =
    (let here : drop i items ≡ item ∷ drop (i + 1) items = drop_more items i item below ∙ ap (λ (t : TStmt). t ∷ drop (i + 1) items) (sym is) in
    block_goes_on w.program place (lowered w item) (map (lowered w) (drop (i + 1) items)) block in_it behind at opens whole old now after
    (subst (λ (ts : List TStmt). BlockLeft w.program place (map (lowered w) ts) block whole old now) here left) enters at_is one passes opens_is)
