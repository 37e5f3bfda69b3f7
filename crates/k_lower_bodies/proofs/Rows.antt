-- Statements that were emitted are what they are lowered to.
use Rattle.std.proofs.Common.{ℕ, zero, suc, ◌≡◌, ◌+◌, ◌<◌, ◌≤◌, Bool, true, false, get_or, List, [], ◌∷◌, length, map, drop, Option, None, Some, Result, Ok, Err, refl, sym, ap, subst, ◌∙◌}
use Rattle.std.proofs.lemmas.List.{drop_all, drop_more}
use Rattle.k_num.specs.declared.memory.NoMemory.{NoMemory}
use Rattle.k_num.specs.declared.numbers.Kind.{Kind}
use Rattle.k_num.specs.declared.place.Place.{Place}
use Rattle.k_types_meaning.specs.declared.tree.expression.TExpr.{TExpr}
use Rattle.k_types_meaning.specs.declared.tree.statement.Spot.{Spot}
use Rattle.k_types_meaning.specs.declared.tree.statement.TFirst.{TFirst}
use Rattle.k_types_meaning.specs.declared.tree.statement.TPart.{TPart}
use Rattle.k_types_meaning.specs.declared.tree.statement.TPart.TheVariants as part
use Rattle.k_types_meaning.specs.declared.tree.statement.TStmt.{TStmt}
use Rattle.k_types_meaning.specs.declared.tree.statement.TStmt.TheVariants as stmt
use Rattle.k_types_meaning.proofs.Folds.{done_Block, done_alone, done_else, done_For, done_Switch, part_Case, part_Default, part_Does}
use Rattle.k_marks_meaning.specs.Jumps.{is_left, out_of_loop, out_of_switch}
use Rattle.k_code.specs.declared.instruction.Do.TheVariants.{Back, ObjectsClose, Save}
use Rattle.k_code.specs.declared.instruction.Instr.{Instr}
use Rattle.k_evaluation.specs.Loops.{stays_behind_loop}
use Rattle.k_evaluation.specs.States.{Program}
use Rattle.k_lower_code.specs.Declarations.{starts_with}
use Rattle.k_lower_code.specs.Loops.{LoopParts, inside_loop, source_loop}
use Rattle.k_lower_code.specs.Pieces.{Piece}
use Rattle.k_lower_code.specs.Statements.{compound, for_loop, lower_step, lowered, part_step}
use Rattle.k_lower_code.specs.Stretches.{Inside, Site, Stretch, behind_objects, closed, followed_by, in_order, settled_unless, to_pads}
use Rattle.k_lower_code.specs.Switches.{PartLowered, ACase, ADefault, AStatement, statements_of, switch}
use Rattle.k_lower_expressions.proofs.Emitted.{Emitted, Emits}
use Rattle.k_lower_extents.specs.declared.extent.Extent.{Extent}
use Rattle.k_lower_extents.specs.Extents.{extent_of, lowered_part, rests_of}
use Rattle.k_lower_statements.specs.Sites.{at_site, objects_at, site_of}
use Rattle.k_lower_statements.specs.declared.site.Site as declared_site
use Rattle.k_lower_blocks.specs.Arounds.{EntersBlock, ends_all, unless}
use Rattle.k_lower_blocks.specs.declared.block.BlockRest.{BlockRest}
use Rattle.k_lower_blocks.proofs.Around.{behind_emitted, closed_emitted, nothing_was, settled_emitted}
use Rattle.k_lower_blocks.proofs.Blocks.{BlockLeft, block_begins, block_ends, block_goes_on}
use Rattle.k_lower_bodies.specs.Bodies.{NextEmitted, PartEmitted, begun, closes}
use Rattle.k_lower_cases.proofs.Fronts.{settled_switch}
use Rattle.k_lower_cases.specs.Cases.{switches_in}
use Rattle.k_lower_turns.specs.declared.turns.Turns.{Turns}
use Rattle.k_lower_turns.specs.Turns.{loop_of, source_turns}

-- what was emitted for a statement, by what this is lowered to
pub as_lowered : (w : Inside) (s : TStmt) (x : Stretch) (site : Site) (result : Result (Unit {0}) NoMemory) (old new : List Instr)
    → lowered w s ≡ x → Emits result (at_site site x) old new → Emits result (at_site site (lowered w s)) old new
as_lowered w s x site result old new is emits = subst (λ (t : Stretch). Emits result (at_site site t) old new) (sym is) emits

-- a block
pub block_row : (w : Inside) (s : TStmt) (spot : Spot) (parts : List TStmt) → s ≡ stmt.Block spot parts
    → lowered w s ≡ in_order w.program spot.place (map (lowered w) parts)
unfolding compound
block_row w s spot parts is = ap (lowered w) is ∙ done_Block PartLowered Stretch part_step (lower_step w) spot parts

-- A LOOP of the source, by what was counted of its body
pub loop_emitted : (w : Inside) (spot : Spot) (number : ℕ) (test step : Option TExpr) (body : Stretch) (tested : Bool) (site : Site) (result : Result (Unit {0}) NoMemory)
    (x : Extent) (t : Turns) (stays : Bool) (old saved done new : List Instr)
    → x ≡ extent_of body → t ≡ source_turns w spot number tested x → stays ≡ stays_behind_loop t.counted t.body.jumps
    → Emitted {A = Unit {0}} tt (unless stays w.program spot.place Save) old saved
    → Emitted {A = Unit {0}} tt (at_site site (inside_loop w.program (loop_of w t test step body))) saved done
    → Emits result (unless stays w.program spot.place Back) done new
    → Emits result (at_site site (source_loop w spot number test step body tested)) old new
loop_emitted w spot number test step body tested site result x t stays old saved done new x_is t_is is first second third =
    (let u : Turns = source_turns w spot number tested (extent_of body) in
    (let same : t ≡ u = t_is ∙ ap (source_turns w spot number tested) x_is in
    (let l : Stretch = inside_loop w.program (loop_of w u test step body) in
    subst (λ (b : Bool). Emits result (at_site site (settled_unless b w.program l)) old new)
    (is ∙ ap (λ (v : Turns). stays_behind_loop v.counted v.body.jumps) same)
    (settled_emitted w.program site result stays l old saved done new first
    (subst (λ (v : Turns). Emitted {A = Unit {0}} tt (at_site site (inside_loop w.program (loop_of w v test step body))) saved done) same second) third))))

module _ (program : Program) (site : Site) (result : Result (Unit {0}) NoMemory) (s : Stretch) (l : LoopParts) where
  -- a loop behind which objects die that were made in front of it: it has no jumps that lead to pads
  loop_closed : (stays : Bool) (n : ℕ) (there : Site) (old done new : List Instr)
      → Emitted {A = Unit {0}} tt (at_site there (settled_unless stays program (inside_loop program l))) old done
      → Emits result (closes program l.place (suc n)) done new
      → Emits result (at_site there (closed program (ObjectsClose (suc n)) (settled_unless stays program (inside_loop program l)))) old new
  loop_closed true n there old done new first second =
      (let text : Stretch = inside_loop program l in
      closed_emitted program there result (ObjectsClose (suc n)) text (extent_of text) (to_pads text.jumps (length old + text.size) there) old done new refl refl first second)
  loop_closed false n there old done new first second =
      (let text : Stretch = settled_unless false program (inside_loop program l) in
      closed_emitted program there result (ObjectsClose (suc n)) text (extent_of text) (to_pads text.jumps (length old + text.size) there) old done new refl refl first second)

  nothing_behind : (text : Stretch) (r : Result (Unit {0}) NoMemory) (mid done new : List Instr) → Emitted {A = Unit {0}} tt (at_site (behind_objects s.opens site) text) mid done
      → Emits r (closes program l.place 0) done new → Emits r (at_site (behind_objects s.opens site) text) mid new
  nothing_behind text (Ok u) mid done new one none =
      subst (λ (k : List Instr). Emitted {A = Unit {0}} tt (at_site (behind_objects s.opens site) text) mid k) (sym (nothing_was done new none)) one
  nothing_behind text (Err e) mid done new one none = tt

  pub loop_followed : (stays : Bool) (n : ℕ) (old mid done new : List Instr)
      → Emitted {A = Unit {0}} tt (at_site site s) old mid
      → Emitted {A = Unit {0}} tt (at_site (behind_objects s.opens site) (settled_unless stays program (inside_loop program l))) mid done
      → Emits result (closes program l.place n) done new
      → Emits result (at_site site (followed_by program s n (settled_unless stays program (inside_loop program l)))) old new
  loop_followed stays zero old mid done new first second third =
      behind_emitted program site result s (settled_unless stays program (inside_loop program l)) old mid new first
      (nothing_behind (settled_unless stays program (inside_loop program l)) result mid done new second third)
  loop_followed stays (suc n) old mid done new first second third =
      behind_emitted program site result s (closed program (ObjectsClose (suc n)) (settled_unless stays program (inside_loop program l))) old mid new first
      (loop_closed stays n (behind_objects s.opens site) mid done new second third)

-- A `for`: what stands in front of its loop, the loop, and the end of what was declared
pub for_emitted : (w : Inside) (spot : Spot) (number : ℕ) (start : TFirst) (test step : Option TExpr) (body : Stretch) (site there : Site) (objects n : ℕ)
    (result : Result (Unit {0}) NoMemory) (old mid done new : List Instr)
    → Emitted objects (objects_at site (starts_with w spot.place start)) old mid
    → there ≡ record site { objects = objects }
    → ((k : ℕ) → objects ≡ site.objects + k → n ≡ k)
    → Emitted {A = Unit {0}} tt (at_site there (source_loop w spot number test step body true)) mid done
    → Emits result (closes w.program spot.place n) done new
    → Emits result (at_site site (for_loop w spot number start test step body)) old new
unfolding for_loop
for_emitted w spot number start test step body site there objects n result old mid done new first there_is counted second third =
    (let s : Stretch = starts_with w spot.place start in
    (let u : Turns = source_turns w spot number true (extent_of body) in
    (let l : LoopParts = loop_of w u test step body in
    loop_followed w.program site result s l (stays_behind_loop u.counted body.jumps) s.opens old mid done new
    (record { gives = refl; code = first.code; size = first.size })
    (subst (λ (x : Site). Emitted {A = Unit {0}} tt (at_site x (source_loop w spot number test step body true)) mid done)
    (there_is ∙ ap (λ (k : ℕ). record site { objects = k }) first.gives) second)
    (subst (λ (k : ℕ). Emits result (closes w.program spot.place k) done new) (counted s.opens first.gives) third))))

-- A SWITCH, by what was counted of its statements
pub switch_emitted : (w : Inside) (spot : Spot) (kind : Kind) (on : TExpr) (parts : List PartLowered) (x : Extent) (stays : Bool) (site : Site)
    (result : Result (Unit {0}) NoMemory) (old saved done new : List Instr)
    → x ≡ extent_of (in_order w.program spot.place (statements_of parts)) → stays ≡ is_left (out_of_switch x.jumps)
    → Emitted {A = Unit {0}} tt (unless stays w.program spot.place Save) old saved
    → Emitted {A = Unit {0}} tt (at_site site (switches_in w spot.place kind on parts)) saved done
    → Emits result (unless stays w.program spot.place Back) done new
    → Emits result (at_site site (switch w spot kind on parts)) old new
switch_emitted w spot kind on parts x stays site result old saved done new x_is is first second third =
    (let s : Stretch = switches_in w spot.place kind on parts in
    subst (λ (t : Stretch). Emits result (at_site site t) old new) (sym (settled_switch w spot kind on parts))
    (subst (λ (b : Bool). Emits result (at_site site (settled_unless b w.program s)) old new) (is ∙ ap (λ (y : Extent). is_left (out_of_switch y.jumps)) x_is)
    (settled_emitted w.program site result stays s old saved done new first second third)))

-- a block of which nothing was emitted
pub nothing_yet : (program : Program) (place : Place) (ss : List Stretch) (site : declared_site.Site) (rests : List Extent) (block : BlockRest) (old : List Instr)
    → block ≡ begun site rests → rests ≡ rests_of program place ss
    → BlockLeft program place ss block (at_site (site_of site) (in_order program place ss)) old old
nothing_yet program place ss site rests block old is rests_is =
    subst (λ (b : BlockRest). BlockLeft program place ss b (at_site (site_of site) (in_order program place ss)) old old) (sym is) (block_begins program place ss site rests old rests_is)

-- one more statement, and one more part
pub next_left : (program : Program) (place : Place) (s : Stretch) (ss : List Stretch) (block behind : BlockRest) (whole : Piece (Unit {0})) (old now after : List Instr)
    → NextEmitted s block behind now after → BlockLeft program place (s ∷ ss) block whole old now → BlockLeft program place ss behind whole old after
next_left program place s ss block behind whole old now after next left =
    block_goes_on program place s ss block next.inner behind next.place next.opens whole old now after left next.enters next.stands next.emitted next.passes next.makes

pub statement_left : (w : Inside) (place : Place) (items : List TStmt) (i : ℕ) (item : TStmt) (block behind : BlockRest) (whole : Piece (Unit {0})) (old now after : List Instr)
    → i < length items → item ≡ get_or items i item → NextEmitted (lowered w item) block behind now after
    → BlockLeft w.program place (map (lowered w) (drop i items)) block whole old now
    → BlockLeft w.program place (map (lowered w) (drop (i + 1) items)) behind whole old after
statement_left w place items i item block behind whole old now after below is next left =
    (let here : drop i items ≡ item ∷ drop (i + 1) items = drop_more items i item below ∙ ap (λ (t : TStmt). t ∷ drop (i + 1) items) (sym is) in
    next_left w.program place (lowered w item) (map (lowered w) (drop (i + 1) items)) block behind whole old now after next
    (subst (λ (ts : List TStmt). BlockLeft w.program place (map (lowered w) ts) block whole old now) here left))

lowered_left : (program : Program) (place : Place) (p : PartLowered) (ps : List PartLowered) (block behind : BlockRest) (whole : Piece (Unit {0})) (old now after : List Instr)
    → PartEmitted p block behind now after → BlockLeft program place (statements_of (p ∷ ps)) block whole old now
    → BlockLeft program place (statements_of ps) behind whole old after
lowered_left program place (ACase at z) ps block behind whole old now after next left =
    subst (λ (l : List Instr). BlockLeft program place (statements_of ps) behind whole old l) (sym next.1)
    (subst (λ (b : BlockRest). BlockLeft program place (statements_of ps) b whole old now) (sym next.0) left)
lowered_left program place ADefault ps block behind whole old now after next left =
    subst (λ (l : List Instr). BlockLeft program place (statements_of ps) behind whole old l) (sym next.1)
    (subst (λ (b : BlockRest). BlockLeft program place (statements_of ps) b whole old now) (sym next.0) left)
lowered_left program place (AStatement s) ps block behind whole old now after next left =
    next_left program place s (statements_of ps) block behind whole old now after next left

pub part_left : (w : Inside) (place : Place) (items : List TPart) (i : ℕ) (item : TPart) (block behind : BlockRest) (whole : Piece (Unit {0})) (old now after : List Instr)
    → i < length items → item ≡ get_or items i item → PartEmitted (lowered_part w item) block behind now after
    → BlockLeft w.program place (statements_of (map (lowered_part w) (drop i items))) block whole old now
    → BlockLeft w.program place (statements_of (map (lowered_part w) (drop (i + 1) items))) behind whole old after
part_left w place items i item block behind whole old now after below is next left =
    (let here : drop i items ≡ item ∷ drop (i + 1) items = drop_more items i item below ∙ ap (λ (t : TPart). t ∷ drop (i + 1) items) (sym is) in
    lowered_left w.program place (lowered_part w item) (map (lowered_part w) (drop (i + 1) items)) block behind whole old now after next
    (subst (λ (ts : List TPart). BlockLeft w.program place (statements_of (map (lowered_part w) ts)) block whole old now) here left))

-- the end of a block, and of the statements of a switch
pub statements_end : (w : Inside) (place : Place) (items : List TStmt) (i : ℕ) (block inner : BlockRest) (whole : Piece (Unit {0})) (result : Result (Unit {0}) NoMemory)
    (old now new : List Instr) → length items ≤ i → BlockLeft w.program place (map (lowered w) (drop i items)) block whole old now
    → EntersBlock place (length now) block inner → Emits result (ends_all w.program inner.endings) now new → Emits result whole old new
statements_end w place items i block inner whole result old now new past left enters ends =
    block_ends w.program place result block inner whole old now new
    (subst (λ (ts : List TStmt). BlockLeft w.program place (map (lowered w) ts) block whole old now) (drop_all i items past) left) enters ends

pub parts_end : (w : Inside) (place : Place) (items : List TPart) (i : ℕ) (block inner : BlockRest) (whole : Piece (Unit {0})) (result : Result (Unit {0}) NoMemory)
    (old now new : List Instr) → length items ≤ i → BlockLeft w.program place (statements_of (map (lowered_part w) (drop i items))) block whole old now
    → EntersBlock place (length now) block inner → Emits result (ends_all w.program inner.endings) now new → Emits result whole old new
parts_end w place items i block inner whole result old now new past left enters ends =
    block_ends w.program place result block inner whole old now new
    (subst (λ (ts : List TPart). BlockLeft w.program place (statements_of (map (lowered_part w) ts)) block whole old now) (drop_all i items past) left) enters ends

-- the first of these extents
abbrev first_or : Extent → List Extent → Extent
first_or z [] = z
first_or z (x ∷ xs) = x

-- the first of the extents of rests is that of all
pub first_rest : (program : Program) (place : Place) (ss : List Stretch) (x : Extent) (rests xs : List Extent) → rests ≡ x ∷ xs → rests ≡ rests_of program place ss
    → x ≡ extent_of (in_order program place ss)
first_rest program place [] x rests xs is has = ap (first_or x) (sym is ∙ has)
first_rest program place (s ∷ ss) x rests xs is has = ap (first_or x) (sym is ∙ has)
