-- Each loop that *Marks* sees Wide sees too, with the same parts.
use Rattle.std.proofs.Common.{◌≡◌, ℕ, List, [], ◌∷◌, ◌++◌, map, Option, Some, None, refl, sym, ◌∙◌, ap, subst}
use Rattle.k_types_meaning.specs.declared.tree.expression.TExpr.{TExpr}
use Rattle.k_types_meaning.specs.declared.tree.statement.Spot.{Spot}
use Rattle.k_types_meaning.specs.declared.tree.statement.TFirst.{TFirst}
use Rattle.k_types_meaning.specs.declared.tree.statement.TFirst.TheVariants as first
use Rattle.k_types_meaning.specs.declared.tree.statement.TPart.{TPart, fold-roll-TPart, map-TPart, roll-TPart}
use Rattle.k_types_meaning.specs.declared.tree.statement.TPart.TheOpen.{TPart-F, TStmt-F}
use Rattle.k_types_meaning.specs.declared.tree.statement.TStmt.{TStmt, fold-roll-TStmt, ind-TStmt, map-TStmt, roll-TStmt}
use Rattle.k_types_meaning.specs.declared.tree.unit.TFunc.{TFunc}
use Rattle.k_marks_meaning.specs.Jumps.{jumps_of_both, out_of_loop, out_of_switch}
use Rattle.k_marks_meaning.specs.Loops.{Loop}
use Rattle.k_marks_meaning.specs.Contents.{Inside, inside_step, inside, part_inside}
use Rattle.k_marks_meaning.specs.Contents as marks
use Rattle.k_marks_meaning.specs.Marking.{function_inside}
use Rattle.k_marks_laws.specs.Turns.{TLoop, marked}
use Rattle.k_marks_laws.specs.Standing.{Standing, StandingPart, standing, standing_part, standing_step, standing_part_step, loop_at, loops_of_all, loops_of_parts, loops_of}
use Rattle.k_marks_laws.proofs.Standing.{itself_is}
use Rattle.k_wide_meaning.specs.declared.loops.LoopSort.{LoopSort}
use Rattle.k_wide_meaning.specs.declared.loops.LoopSort.TheVariants as sort
use Rattle.k_wide_meaning.specs.Contents.{Seen, WideLoop, row, loop_of, seen_step, part_step, seen, part_seen, function_seen}

-- THE SAME LOOP: as it stands in the tree, as *Marks* sees it, and as Wide does
pub record IsLike (t : TLoop) (l : Loop) (w : WideLoop) : Type 0 where
  pub is_marked : l ≡ marked t
  pub start : w.start ≡ t.start
  pub test : w.test ≡ t.test
  pub step : w.step ≡ t.step
  -- one with a step is a `for`
  pub stepped : (e : TExpr) → t.step ≡ Some e → w.sort ≡ sort.For
  pub jumps : w.jumps ≡ (inside t.body).jumps
  pub occurs : w.body ≡ (seen t.body).occurs

-- the same loops, one by one
abbrev pub AreLike : List TLoop → List Loop → List WideLoop → Type 0
AreLike [] [] [] = Unit {0}
AreLike (t ∷ ts) (l ∷ ls) (w ∷ ws) = IsLike t l w × AreLike ts ls ws
AreLike _ _ _ = ⊥

like_both : (ts us : List TLoop) (as_ bs : List Loop) (xs ys : List WideLoop) → AreLike ts as_ xs → AreLike us bs ys → AreLike (ts ++ us) (as_ ++ bs) (xs ++ ys)
like_both [] us [] bs [] ys h k = k
like_both [] us [] bs (x ∷ xs) ys h k = absurd h
like_both [] us (a ∷ as_) bs [] ys h k = absurd h
like_both [] us (a ∷ as_) bs (x ∷ xs) ys h k = absurd h
like_both (t ∷ ts) us [] bs [] ys h k = absurd h
like_both (t ∷ ts) us [] bs (x ∷ xs) ys h k = absurd h
like_both (t ∷ ts) us (a ∷ as_) bs [] ys h k = absurd h
like_both (t ∷ ts) us (a ∷ as_) bs (x ∷ xs) ys h k = (h.0, like_both ts us as_ bs xs ys h.1 k)

like_alone : (ts : List TLoop) (as_ : List Loop) (xs : List WideLoop) → AreLike ts as_ xs → AreLike ts (as_ ++ []) (xs ++ [])
like_alone [] [] [] h = tt
like_alone [] [] (x ∷ xs) h = absurd h
like_alone [] (a ∷ as_) [] h = absurd h
like_alone [] (a ∷ as_) (x ∷ xs) h = absurd h
like_alone (t ∷ ts) [] [] h = absurd h
like_alone (t ∷ ts) [] (x ∷ xs) h = absurd h
like_alone (t ∷ ts) (a ∷ as_) [] h = absurd h
like_alone (t ∷ ts) (a ∷ as_) (x ∷ xs) h = (h.0, like_alone ts as_ xs h.1)

-- the same loops and jumps
pub record Agrees (ts : List TLoop) (a : Inside) (b : Seen) : Type 0 where
  pub loops : AreLike ts a.loops b.loops
  pub jumps : b.jumps ≡ a.jumps

abbrev AgreesStmt : TStmt → Type 0
AgreesStmt s = Agrees (standing s).loops (inside s) (seen s)

abbrev AgreesPart : TPart → Type 0
AgreesPart s = Agrees (standing_part s).loops (part_inside s) (part_seen s)

abbrev StmtAnd : Type 0
StmtAnd = (s : TStmt) × AgreesStmt s

abbrev PartAnd : Type 0
PartAnd = (s : TPart) × AgreesPart s

abbrev stmts : List StmtAnd → List TStmt
stmts xs = map (λ (x : StmtAnd). x.0) xs

abbrev parts_in : List PartAnd → List TPart
parts_in xs = map (λ (x : PartAnd). x.0) xs

stmts_agree : (xs : List StmtAnd) → Agrees (loops_of_all (map standing (stmts xs))) (marks.row (map inside (stmts xs))) (row (map seen (stmts xs)))
stmts_agree [] = record { loops = tt; jumps = refl }
stmts_agree (x ∷ xs) =
    let rest = stmts_agree xs in
    record {
      loops = like_both (standing x.0).loops (loops_of_all (map standing (stmts xs))) (inside x.0).loops (marks.row (map inside (stmts xs))).loops (seen x.0).loops (row (map seen (stmts xs))).loops x.1.loops rest.loops;
      jumps = λ i. jumps_of_both (x.1.jumps i) (rest.jumps i);
    }

parts_agree : (xs : List PartAnd) → Agrees (loops_of_parts (map standing_part (parts_in xs))) (marks.row (map part_inside (parts_in xs))) (row (map part_seen (parts_in xs)))
parts_agree [] = record { loops = tt; jumps = refl }
parts_agree (x ∷ xs) =
    let rest = parts_agree xs in
    record {
      loops = like_both (standing_part x.0).loops (loops_of_parts (map standing_part (parts_in xs))) (part_inside x.0).loops (marks.row (map part_inside (parts_in xs))).loops (part_seen x.0).loops (row (map part_seen (parts_in xs))).loops x.1.loops rest.loops;
      jumps = λ i. jumps_of_both (x.1.jumps i) (rest.jumps i);
    }

-- a loop with this body
loop_like : (k : LoopSort) (spot : Spot) (number : ℕ) (start : TFirst) (test next : Option TExpr) (s : TStmt) → AgreesStmt s → ((e : TExpr) → next ≡ Some e → k ≡ sort.For)
    → IsLike (loop_at spot number start test next (standing s).itself)
    (record { start = start; test = test; step = next; body_uses = (inside s).uses; body_jumps = (inside s).jumps }) (loop_of k start test next (seen s))
loop_like k spot number start test next s h is_for =
    let own : s ≡ (standing s).itself = sym (itself_is s) in
    record {
      is_marked = λ i. record { start = start; test = test; step = next; body_uses = (inside (own i)).uses; body_jumps = (inside (own i)).jumps };
      start = refl;
      test = refl;
      step = refl;
      stepped = is_for;
      jumps = h.jumps ∙ ap (λ (x : TStmt). (inside x).jumps) own;
      occurs = ap (λ (x : TStmt). (seen x).occurs) own;
    }

no_step : (k : LoopSort) (e : TExpr) → None ≡ Some e → k ≡ sort.For
no_step k e h = absurd cc

abbrev StmtLayer : TStmt-F TPart TStmt → Type 0
StmtLayer z =
    Agrees (standing_step (map-TStmt TPart TStmt StandingPart Standing standing_part standing z)).loops
    (inside_step (map-TStmt TPart TStmt Inside Inside part_inside inside z)) (seen_step (map-TStmt TPart TStmt Seen Seen part_seen seen z))

abbrev PartLayer : TPart-F TPart TStmt → Type 0
PartLayer z =
    Agrees (standing_part_step (map-TPart TPart TStmt StandingPart Standing standing_part standing z)).loops
    (marks.part_step (map-TPart TPart TStmt Inside Inside part_inside inside z)) (part_step (map-TPart TPart TStmt Seen Seen part_seen seen z))

stmt_layer : (y : TStmt-F PartAnd StmtAnd) → StmtLayer (map-TStmt _ _ TPart TStmt (λ (x : PartAnd). x.0) (λ (x : StmtAnd). x.0) y)
stmt_layer (TStmt-F.Expr spot e) = record { loops = tt; jumps = refl }
stmt_layer (TStmt-F.Empty spot) = record { loops = tt; jumps = refl }
stmt_layer (TStmt-F.Block spot parts) = let h = stmts_agree parts in record { loops = h.loops; jumps = h.jumps }
stmt_layer (TStmt-F.If spot test a None) = record {
  loops = like_alone (standing a.0).loops (inside a.0).loops (seen a.0).loops a.1.loops;
  jumps = λ i. jumps_of_both (a.1.jumps i) marks.nothing.jumps;
}
stmt_layer (TStmt-F.If spot test a (Some b)) = record {
  loops = like_both (standing a.0).loops (standing b.0).loops (inside a.0).loops (inside b.0).loops (seen a.0).loops (seen b.0).loops a.1.loops b.1.loops;
  jumps = λ i. jumps_of_both (a.1.jumps i) (b.1.jumps i);
}
stmt_layer (TStmt-F.While spot turns test a) = record {
  loops = (loop_like sort.While spot turns first.Nothing (Some test) None a.0 a.1 (no_step sort.While), a.1.loops);
  jumps = ap out_of_loop a.1.jumps;
}
stmt_layer (TStmt-F.DoWhile spot turns a test) = record {
  loops = (loop_like sort.Do spot turns first.Nothing (Some test) None a.0 a.1 (no_step sort.Do), a.1.loops);
  jumps = ap out_of_loop a.1.jumps;
}
stmt_layer (TStmt-F.For spot turns start test next a) = record {
  loops = (loop_like sort.For spot turns start test next a.0 a.1 (λ e h. refl), a.1.loops);
  jumps = ap out_of_loop a.1.jumps;
}
stmt_layer (TStmt-F.Switch spot kind on parts) = let h = parts_agree parts in record { loops = h.loops; jumps = ap out_of_switch h.jumps }
stmt_layer (TStmt-F.Break spot) = record { loops = tt; jumps = refl }
stmt_layer (TStmt-F.Continue spot) = record { loops = tt; jumps = refl }
stmt_layer (TStmt-F.Return spot value) = record { loops = tt; jumps = refl }
stmt_layer (TStmt-F.Declare spot list) = record { loops = tt; jumps = refl }

part_layer : (y : TPart-F PartAnd StmtAnd) → PartLayer (map-TPart _ _ TPart TStmt (λ (x : PartAnd). x.0) (λ (x : StmtAnd). x.0) y)
part_layer (TPart-F.Case place z) = record { loops = tt; jumps = refl }
part_layer (TPart-F.Default place) = record { loops = tt; jumps = refl }
part_layer (TPart-F.Does place s) = record { loops = s.1.loops; jumps = s.1.jumps }

stmt_agrees : (s : TStmt) → AgreesStmt s
stmt_agrees =
    ind-TStmt AgreesPart AgreesStmt
    (λ x y is.
    subst (λ (t : StandingPart). Agrees t.loops (part_inside (roll-TPart x)) (part_seen (roll-TPart x))) (sym (fold-roll-TPart StandingPart Standing standing_part_step standing_step x))
    (subst (λ (a : Inside). Agrees (standing_part_step (map-TPart TPart TStmt StandingPart Standing standing_part standing x)).loops a (part_seen (roll-TPart x))) (sym (fold-roll-TPart Inside Inside marks.part_step inside_step x))
    (subst (λ (b : Seen). Agrees (standing_part_step (map-TPart TPart TStmt StandingPart Standing standing_part standing x)).loops (marks.part_step (map-TPart TPart TStmt Inside Inside part_inside inside x)) b)
    (sym (fold-roll-TPart Seen Seen part_step seen_step x)) (subst PartLayer is (part_layer y)))))
    (λ x y is.
    subst (λ (t : Standing). Agrees t.loops (inside (roll-TStmt x)) (seen (roll-TStmt x))) (sym (fold-roll-TStmt StandingPart Standing standing_part_step standing_step x))
    (subst (λ (a : Inside). Agrees (standing_step (map-TStmt TPart TStmt StandingPart Standing standing_part standing x)).loops a (seen (roll-TStmt x))) (sym (fold-roll-TStmt Inside Inside marks.part_step inside_step x))
    (subst (λ (b : Seen). Agrees (standing_step (map-TStmt TPart TStmt StandingPart Standing standing_part standing x)).loops (inside_step (map-TStmt TPart TStmt Inside Inside part_inside inside x)) b)
    (sym (fold-roll-TStmt Seen Seen part_step seen_step x)) (subst StmtLayer is (stmt_layer y)))))

all_agree : (ss : List TStmt) → Agrees (loops_of_all (map standing ss)) (marks.row (map inside ss)) (row (map seen ss))
all_agree [] = record { loops = tt; jumps = refl }
all_agree (s ∷ ss) =
    let rest = all_agree ss in
    record {
      loops = like_both (standing s).loops (loops_of_all (map standing ss)) (inside s).loops (marks.row (map inside ss)).loops (seen s).loops (row (map seen ss)).loops (stmt_agrees s).loops rest.loops;
      jumps = λ i. jumps_of_both ((stmt_agrees s).jumps i) (rest.jumps i);
    }

-- THE LOOPS OF A FUNCTION
pub function_like : (f : TFunc) → AreLike (loops_of f) (function_inside f).loops (function_seen f).loops
function_like f = (all_agree f.body).loops
