-- A statement that fits is sound where its loops are marked.
use Rattle.std.proofs.Common.{ℕ, ◌≡◌, Bool, true, false, ◌&&◌, List, [], ◌∷◌, map, slice_get, Option, Some, None, refl, sym, ◌∙◌, ap, subst, true≢false}
use Rattle.std.specs.Prelude.{not, ◌||◌}
use Rattle.std.proofs.lemmas.Bool.{and_from, and_parts}
use Rattle.k_types_meaning.specs.declared.tree.unit.TVariable.{TVariable}
use Rattle.k_types_meaning.specs.declared.tree.expression.Node.{Node}
use Rattle.k_types_meaning.specs.declared.tree.expression.TExpr.{TExpr}
use Rattle.k_types_meaning.specs.declared.tree.statement.TFirst.TheVariants as first
use Rattle.k_types_meaning.specs.declared.tree.statement.TPart.{TPart, fold-TPart, fold-roll-TPart, map-TPart}
use Rattle.k_types_meaning.specs.declared.tree.statement.TPart.TheOpen.{TPart-F, TStmt-F}
use Rattle.k_types_meaning.specs.declared.tree.statement.TStmt.{TStmt, fold-roll-TStmt, ind-TStmt, map-TStmt}
use Rattle.k_marks_meaning.specs.declared.jumps.Jumps.{Jumps}
use Rattle.k_marks_meaning.specs.declared.Marks.{Marks}
use Rattle.k_marks_meaning.specs.declared.uses.Read.{Read}
use Rattle.k_marks_meaning.specs.Contents.{Inside, inside, part_inside, row}
use Rattle.k_marks_meaning.specs.Contents as contents
use Rattle.k_marks_meaning.specs.Jumps.{jumps_of_both, no_jumps, out_of_loop, out_of_switch}
use Rattle.k_marks_meaning.specs.Loops.{Loop, bound_of, counter, counts, has_bound, is_counted, steps_alone}
use Rattle.k_evaluation.specs.Meanings.{flag}
use Rattle.k_regions.specs.Regions.{Located, find, find_part, loops_of_all}
use Rattle.k_regions.specs.Regions as regions
use Rattle.k_lower_fits.specs.Fits.{Limits, Site, Standing, all_stand, expr_fits, stmt_fits}
use Rattle.k_lower_fits.specs.Fits as fitting
use Rattle.k_lower_fits.specs.Placed.{Placing, all_placed, placed_part, placed_step, stmt_placed}
use Rattle.k_lower_runs.specs.Sound.{all_true, first_sound, is_sound, option_sound}
use Rattle.k_lower_flows.specs.Sound.{Soundness, all_parts, all_sound, is_part, loop_sound, runs_through, soundness}
use Rattle.k_lower_flows.specs.Sound as flows
use Rattle.k_lower_accepted.specs.Sound.{stmt_sound}
use Rattle.k_lower_accepted.specs.Sound as sounds
use Rattle.k_lower_sound.proofs.Lengths.{part_alike, stmt_alike}
use Rattle.k_lower_sound.proofs.Numbers.{Agree, agree_behind, agree_front}

-- THE FIFTH CONDITION: a counted loop runs through
through : (a b c d : Bool) → (not (a && (b && (not c && not d))) || not (c || d)) ≡ true
through false b c d = refl
through true false c d = refl
through true true true d = refl
through true true false true = refl
through true true false false = refl

counted_through : (vs : List TVariable) (l : Loop) (i : Option Read) → runs_through (counts vs l i) l.body_jumps ≡ true
counted_through vs l None = refl
counted_through vs l (Some i) = through (steps_alone vs l i.variable) (has_bound vs l (bound_of i.variable l.test)) l.body_jumps.breaks l.body_jumps.returns

marked_through : (table : List Bool) (vs : List TVariable) (number : ℕ) (l : Loop) → slice_get table number ≡ Some (is_counted vs l) → runs_through (flag (slice_get table number)) l.body_jumps ≡ true
unfolding is_counted
marked_through table vs number l is = subst (λ (o : Option Bool). runs_through (flag o) l.body_jumps ≡ true) (sym is) (counted_through vs l (counter l.step))

module _ (marks : Marks) (vs : List TVariable) (limits : Limits) (fits : Node → ℕ → Bool) where
  abbrev count : ℕ
  count = limits.variables

  abbrev sound_of : TStmt → Soundness
  sound_of = soundness marks limits.gives count fits

  abbrev part_sound_of : TPart → Soundness
  part_sound_of = fold-TPart Soundness Soundness (flows.part_step marks limits.gives count fits) (flows.stmt_step marks limits.gives count fits)

  abbrev it_sound : TStmt → Bool
  it_sound = stmt_sound count fits

  abbrev part_sound : TPart → Bool
  part_sound = fold-TPart Bool Bool sounds.part_step (sounds.stmt_step count fits)

  abbrev part_fits : TPart → Standing
  part_fits = fold-TPart Standing Standing fitting.part_step (fitting.stmt_step limits)

  abbrev part_placed : TPart → Placing
  part_placed = fold-TPart Placing Placing placed_part placed_step

  abbrev Agreed : Located → Inside → Type 0
  Agreed found within = Agree marks.counted vs found.loops within.loops

  -- what is to be shown
  record Known (here : Bool) (x : Soundness) : Type 0 where
    sound : x.sound ≡ true
    declares : here ≡ false → x.declares ≡ false

  -- it is sound where it fits, is placed, has sound expressions and marked loops; and the jumps out of it are those that are marked
  record Shown (fit : Standing) (placed : Placing) (so : Bool) (found : Located) (within : Inside) (x : Soundness) : Type 0 where
    jumps : x.jumps ≡ within.jumps
    known : (here : Bool) (site : Site) → fit site ≡ true → placed here ≡ true → so ≡ true → Agreed found within → Known here x

  abbrev StmtShown : TStmt → Type 0
  StmtShown s = Shown (stmt_fits limits s) (stmt_placed s) (it_sound s) (find s) (inside s) (sound_of s)

  abbrev PartShown : TPart → Type 0
  PartShown p = Shown (part_fits p) (part_placed p) (part_sound p) (find_part p) (part_inside p) (part_sound_of p)

  abbrev Stmts : Type 0
  Stmts = (s : TStmt) × StmtShown s

  abbrev Parts : Type 0
  Parts = (p : TPart) × PartShown p

  -- A PART that is no declaration
  part_from : (x : Soundness) → Known false x → is_part x ≡ true
  part_from x k = and_from x.sound (not x.declares) k.sound (ap not (k.declares refl))

  -- SEVERAL
  record AllKnown (here : Bool) (xs : List Soundness) : Type 0 where
    sound : all_sound xs ≡ true
    parts : here ≡ false → all_parts xs ≡ true

  all_from : (here : Bool) (x : Soundness) (xs : List Soundness) → Known here x → AllKnown here xs → AllKnown here (x ∷ xs)
  all_from here x xs k ks = record {
    sound = and_from x.sound (all_sound xs) k.sound ks.sound;
    parts = λ is. and_from (is_part x) (all_parts xs) (and_from x.sound (not x.declares) k.sound (ap not (k.declares is))) (ks.parts is);
  }

  abbrev stmts : List Stmts → List TStmt
  stmts xs = map (λ (x : Stmts). x.0) xs

  abbrev parts_of : List Parts → List TPart
  parts_of xs = map (λ (x : Parts). x.0) xs

  stmts_known : (here : Bool) (site : Site) (items : List Stmts) → all_stand site (map (stmt_fits limits) (stmts items)) ≡ true → all_placed here (map stmt_placed (stmts items)) ≡ true
      → all_true (map it_sound (stmts items)) ≡ true → Agree marks.counted vs (loops_of_all (map find (stmts items))) (row (map inside (stmts items))).loops
      → AllKnown here (map sound_of (stmts items))
  stmts_known here site [] fit placed so agreed = record { sound = refl; parts = λ is. refl }
  stmts_known here site (x ∷ items) fit placed so agreed =
      let f = and_parts (stmt_fits limits x.0 site) (all_stand site (map (stmt_fits limits) (stmts items))) fit in
      let l = and_parts (stmt_placed x.0 here) (all_placed here (map stmt_placed (stmts items))) placed in
      let o = and_parts (it_sound x.0) (all_true (map it_sound (stmts items))) so in
      let ys = loops_of_all (map find (stmts items)) in
      let ms = (row (map inside (stmts items))).loops in
      all_from here (sound_of x.0) (map sound_of (stmts items))
      (x.1.known here site f.0 l.0 o.0 (agree_front marks.counted vs (find x.0).loops ys (inside x.0).loops ms (stmt_alike x.0) agreed))
      (stmts_known here site items f.1 l.1 o.1 (agree_behind marks.counted vs (find x.0).loops ys (inside x.0).loops ms (stmt_alike x.0) agreed))

  stmts_jumps : (items : List Stmts) → flows.jumps_in (map sound_of (stmts items)) ≡ (row (map inside (stmts items))).jumps
  stmts_jumps [] = refl
  stmts_jumps (x ∷ items) = λ i. jumps_of_both (x.1.jumps i) (stmts_jumps items i)

  parts_known : (here : Bool) (site : Site) (items : List Parts) → all_stand site (map part_fits (parts_of items)) ≡ true → all_placed here (map part_placed (parts_of items)) ≡ true
      → all_true (map part_sound (parts_of items)) ≡ true → Agree marks.counted vs (loops_of_all (map find_part (parts_of items))) (row (map part_inside (parts_of items))).loops
      → AllKnown here (map part_sound_of (parts_of items))
  parts_known here site [] fit placed so agreed = record { sound = refl; parts = λ is. refl }
  parts_known here site (x ∷ items) fit placed so agreed =
      let f = and_parts (part_fits x.0 site) (all_stand site (map part_fits (parts_of items))) fit in
      let l = and_parts (part_placed x.0 here) (all_placed here (map part_placed (parts_of items))) placed in
      let o = and_parts (part_sound x.0) (all_true (map part_sound (parts_of items))) so in
      let ys = loops_of_all (map find_part (parts_of items)) in
      let ms = (row (map part_inside (parts_of items))).loops in
      all_from here (part_sound_of x.0) (map part_sound_of (parts_of items))
      (x.1.known here site f.0 l.0 o.0 (agree_front marks.counted vs (find_part x.0).loops ys (part_inside x.0).loops ms (part_alike x.0) agreed))
      (parts_known here site items f.1 l.1 o.1 (agree_behind marks.counted vs (find_part x.0).loops ys (part_inside x.0).loops ms (part_alike x.0) agreed))

  parts_jumps : (items : List Parts) → flows.jumps_in (map part_sound_of (parts_of items)) ≡ (row (map part_inside (parts_of items))).jumps
  parts_jumps [] = refl
  parts_jumps (x ∷ items) = λ i. jumps_of_both (x.1.jumps i) (parts_jumps items i)

  -- A LOOP whose body is sound and no declaration, of which the marks have whether it is counted
  loop_so : (number : ℕ) (test step : Option TExpr) (x : Soundness) (l : Loop) → option_sound count fits test ≡ true → option_sound count fits step ≡ true → Known false x → x.jumps ≡ l.body_jumps
      → slice_get marks.counted number ≡ Some (is_counted vs l) → loop_sound marks limits.gives count fits number test step x ≡ true
  loop_so number test step x l test_so step_so k jumps is =
      let runs : runs_through (flag (slice_get marks.counted number)) x.jumps ≡ true =
      subst (λ (j : Jumps). runs_through (flag (slice_get marks.counted number)) j ≡ true) (sym jumps) (marked_through marks.counted vs number l is) in
      and_from (option_sound count fits test) (option_sound count fits step && (is_part x && runs_through (flag (slice_get marks.counted number)) x.jumps)) test_so
      (and_from (option_sound count fits step) (is_part x && runs_through (flag (slice_get marks.counted number)) x.jumps) step_so
      (and_from (is_part x) (runs_through (flag (slice_get marks.counted number)) x.jumps) (part_from x k) runs))

  -- what no declaration is
  known_so : (here : Bool) (sound : Bool) (jumps : Jumps) → sound ≡ true → Known here (record { sound = sound; declares = false; jumps = jumps })
  known_so here sound jumps is = record { sound = is; declares = λ no. refl }

  abbrev PartLayer : TPart-F TPart TStmt → Type 0
  PartLayer z =
      Shown (fitting.part_step (map-TPart TPart TStmt Standing Standing part_fits (stmt_fits limits) z)) (placed_part (map-TPart TPart TStmt Placing Placing part_placed stmt_placed z))
      (sounds.part_step (map-TPart TPart TStmt Bool Bool part_sound it_sound z)) (regions.part_step (map-TPart TPart TStmt Located Located find_part find z))
      (contents.part_step (map-TPart TPart TStmt Inside Inside part_inside inside z))
      (flows.part_step marks limits.gives count fits (map-TPart TPart TStmt Soundness Soundness part_sound_of sound_of z))

  abbrev StmtLayer : TStmt-F TPart TStmt → Type 0
  StmtLayer z =
      Shown (fitting.stmt_step limits (map-TStmt TPart TStmt Standing Standing part_fits (stmt_fits limits) z)) (placed_step (map-TStmt TPart TStmt Placing Placing part_placed stmt_placed z))
      (sounds.stmt_step count fits (map-TStmt TPart TStmt Bool Bool part_sound it_sound z)) (regions.stmt_step (map-TStmt TPart TStmt Located Located find_part find z))
      (contents.inside_step (map-TStmt TPart TStmt Inside Inside part_inside inside z))
      (flows.stmt_step marks limits.gives count fits (map-TStmt TPart TStmt Soundness Soundness part_sound_of sound_of z))

  part_by : (y : TPart-F Parts Stmts) → PartLayer (map-TPart _ _ TPart TStmt (λ (x : Parts). x.0) (λ (x : Stmts). x.0) y)
  part_by (TPart-F.Case p z) = record { jumps = refl; known = λ here site fit placed so agreed. record { sound = refl; declares = λ is. refl } }
  part_by (TPart-F.Default p) = record { jumps = refl; known = λ here site fit placed so agreed. record { sound = refl; declares = λ is. refl } }
  part_by (TPart-F.Does p s) = record { jumps = s.1.jumps; known = λ here site fit placed so agreed. s.1.known here site fit placed so agreed }

  stmt_by : (y : TStmt-F Parts Stmts) → StmtLayer (map-TStmt _ _ TPart TStmt (λ (x : Parts). x.0) (λ (x : Stmts). x.0) y)
  stmt_by (TStmt-F.Expr spot e) = record { jumps = refl; known = λ here site fit placed so agreed. record { sound = so; declares = λ is. refl } }
  stmt_by (TStmt-F.Empty spot) = record { jumps = refl; known = λ here site fit placed so agreed. record { sound = refl; declares = λ is. refl } }
  stmt_by (TStmt-F.Block spot parts) = record {
    jumps = stmts_jumps parts;
    known = λ here site fit placed so agreed. record { sound = (stmts_known true site parts fit placed so agreed).sound; declares = λ is. refl };
  }
  stmt_by (TStmt-F.If spot test a None) = record {
    jumps = ap (λ (j : Jumps). jumps_of_both j no_jumps) a.1.jumps;
    known = λ here site fit placed so agreed.
        let f = and_parts (expr_fits limits test true) (stmt_fits limits a.0 site && true) fit in
        let l = and_parts (stmt_placed a.0 false) true placed in
        let o = and_parts (is_sound count fits test) (it_sound a.0 && true) so in
        let k = a.1.known false site (and_parts (stmt_fits limits a.0 site) true f.1).0 l.0 (and_parts (it_sound a.0) true o.1).0
        (agree_front marks.counted vs (find a.0).loops [] (inside a.0).loops [] (stmt_alike a.0) agreed) in
        record {
          sound = and_from (is_sound count fits test) (is_part (sound_of a.0) && true) o.0 (and_from (is_part (sound_of a.0)) true (part_from (sound_of a.0) k) refl);
          declares = λ is. refl;
        };
  }
  stmt_by (TStmt-F.If spot test a (Some b)) = record {
    jumps = λ i. jumps_of_both (a.1.jumps i) (b.1.jumps i);
    known = λ here site fit placed so agreed.
        let f = and_parts (expr_fits limits test true) (stmt_fits limits a.0 site && stmt_fits limits b.0 site) fit in
        let g = and_parts (stmt_fits limits a.0 site) (stmt_fits limits b.0 site) f.1 in
        let l = and_parts (stmt_placed a.0 false) (stmt_placed b.0 false) placed in
        let o = and_parts (is_sound count fits test) (it_sound a.0 && it_sound b.0) so in
        let q = and_parts (it_sound a.0) (it_sound b.0) o.1 in
        let k = a.1.known false site g.0 l.0 q.0 (agree_front marks.counted vs (find a.0).loops (find b.0).loops (inside a.0).loops (inside b.0).loops (stmt_alike a.0) agreed) in
        let m = b.1.known false site g.1 l.1 q.1 (agree_behind marks.counted vs (find a.0).loops (find b.0).loops (inside a.0).loops (inside b.0).loops (stmt_alike a.0) agreed) in
        record {
          sound = and_from (is_sound count fits test) (is_part (sound_of a.0) && is_part (sound_of b.0)) o.0
              (and_from (is_part (sound_of a.0)) (is_part (sound_of b.0)) (part_from (sound_of a.0) k) (part_from (sound_of b.0) m));
          declares = λ is. refl;
        };
  }
  stmt_by (TStmt-F.While spot n test a) = record {
    jumps = ap out_of_loop a.1.jumps;
    known = λ here site fit placed so agreed.
        let f = and_parts (expr_fits limits test true) (stmt_fits limits a.0 fitting.in_loop) fit in
        let o = and_parts (is_sound count fits test) (it_sound a.0) so in
        record {
          sound = loop_so n (Some test) None (sound_of a.0) (record { start = first.Nothing; test = Some test; step = None; body_uses = (inside a.0).uses; body_jumps = (inside a.0).jumps }) o.0 refl
              (a.1.known false fitting.in_loop f.1 placed o.1 agreed.1) a.1.jumps agreed.0;
          declares = λ is. refl;
        };
  }
  stmt_by (TStmt-F.DoWhile spot n a test) = record {
    jumps = ap out_of_loop a.1.jumps;
    known = λ here site fit placed so agreed.
        let f = and_parts (stmt_fits limits a.0 fitting.in_loop) (expr_fits limits test true) fit in
        let o = and_parts (is_sound count fits test) (it_sound a.0) so in
        record {
          sound = loop_so n (Some test) None (sound_of a.0) (record { start = first.Nothing; test = Some test; step = None; body_uses = (inside a.0).uses; body_jumps = (inside a.0).jumps }) o.0 refl
              (a.1.known false fitting.in_loop f.0 placed o.1 agreed.1) a.1.jumps agreed.0;
          declares = λ is. refl;
        };
  }
  stmt_by (TStmt-F.For spot n start test step a) = record {
    jumps = ap out_of_loop a.1.jumps;
    known = λ here site fit placed so agreed.
        let f = and_parts (fitting.first_fits limits start) (fitting.option_fits limits true test && (fitting.option_fits limits false step && stmt_fits limits a.0 fitting.in_loop)) fit in
        let g = and_parts (fitting.option_fits limits true test) (fitting.option_fits limits false step && stmt_fits limits a.0 fitting.in_loop) f.1 in
        let h = and_parts (fitting.option_fits limits false step) (stmt_fits limits a.0 fitting.in_loop) g.1 in
        let o = and_parts (first_sound count fits start) (option_sound count fits test && (option_sound count fits step && it_sound a.0)) so in
        let p = and_parts (option_sound count fits test) (option_sound count fits step && it_sound a.0) o.1 in
        let q = and_parts (option_sound count fits step) (it_sound a.0) p.1 in
        record {
          sound = and_from (first_sound count fits start) (loop_sound marks limits.gives count fits n test step (sound_of a.0)) o.0
              (loop_so n test step (sound_of a.0) (record { start = start; test = test; step = step; body_uses = (inside a.0).uses; body_jumps = (inside a.0).jumps }) p.0
              q.0 (a.1.known false fitting.in_loop h.1 placed q.1 agreed.1) a.1.jumps agreed.0);
          declares = λ is. refl;
        };
  }
  stmt_by (TStmt-F.Switch spot kind on parts) = record {
    jumps = ap out_of_switch (parts_jumps parts);
    known = λ here site fit placed so agreed.
        let f = and_parts (expr_fits limits on true) (all_stand (fitting.in_switch site) (map part_fits (parts_of parts))) fit in
        let o = and_parts (is_sound count fits on) (all_true (map part_sound (parts_of parts))) so in
        record {
          sound = and_from (is_sound count fits on) (all_parts (map part_sound_of (parts_of parts))) o.0 ((parts_known false (fitting.in_switch site) parts f.1 placed o.1 agreed).parts refl);
          declares = λ is. refl;
        };
  }
  stmt_by (TStmt-F.Break spot) = record { jumps = refl; known = λ here site fit placed so agreed. record { sound = refl; declares = λ is. refl } }
  stmt_by (TStmt-F.Continue spot) = record { jumps = refl; known = λ here site fit placed so agreed. record { sound = refl; declares = λ is. refl } }
  stmt_by (TStmt-F.Return spot None) = record { jumps = refl; known = λ here site fit placed so agreed. record { sound = fit; declares = λ is. refl } }
  stmt_by (TStmt-F.Return spot (Some e)) = record {
    jumps = refl;
    known = λ here site fit placed so agreed. record { sound = and_from limits.gives (is_sound count fits e) (and_parts limits.gives (expr_fits limits e true) fit).0 so; declares = λ is. refl };
  }
  stmt_by (TStmt-F.Declare spot list) = record {
    jumps = refl;
    known = λ here site fit placed so agreed. record { sound = so; declares = λ is. absurd (true≢false (sym placed ∙ is)) };
  }

  moved : (f g : Standing) (l m : Placing) (p q : Bool) (d e : Located) (i j : Inside) (x y : Soundness) → f ≡ g → l ≡ m → p ≡ q → d ≡ e → i ≡ j → x ≡ y → Shown g m q e j y → Shown f l p d i x
  moved f g l m p q d e i j x y ef el ep ed ei ex h =
      subst (λ (z : Standing). Shown z l p d i x) (sym ef)
      (subst (λ (z : Placing). Shown g z p d i x) (sym el)
      (subst (λ (z : Bool). Shown g m z d i x) (sym ep)
      (subst (λ (z : Located). Shown g m q z i x) (sym ed) (subst (λ (z : Inside). Shown g m q e z x) (sym ei) (subst (λ (z : Soundness). Shown g m q e j z) (sym ex) h)))))

  -- A STATEMENT
  stmt_shown : (s : TStmt) → StmtShown s
  stmt_shown =
      ind-TStmt PartShown StmtShown
      (λ x y is.
      moved _ _ _ _ _ _ _ _ _ _ _ _ (fold-roll-TPart Standing Standing fitting.part_step (fitting.stmt_step limits) x) (fold-roll-TPart Placing Placing placed_part placed_step x)
      (fold-roll-TPart Bool Bool sounds.part_step (sounds.stmt_step count fits) x) (fold-roll-TPart Located Located regions.part_step regions.stmt_step x)
      (fold-roll-TPart Inside Inside contents.part_step contents.inside_step x)
      (fold-roll-TPart Soundness Soundness (flows.part_step marks limits.gives count fits) (flows.stmt_step marks limits.gives count fits) x) (subst PartLayer is (part_by y)))
      (λ x y is.
      moved _ _ _ _ _ _ _ _ _ _ _ _ (fold-roll-TStmt Standing Standing fitting.part_step (fitting.stmt_step limits) x) (fold-roll-TStmt Placing Placing placed_part placed_step x)
      (fold-roll-TStmt Bool Bool sounds.part_step (sounds.stmt_step count fits) x) (fold-roll-TStmt Located Located regions.part_step regions.stmt_step x)
      (fold-roll-TStmt Inside Inside contents.part_step contents.inside_step x)
      (fold-roll-TStmt Soundness Soundness (flows.part_step marks limits.gives count fits) (flows.stmt_step marks limits.gives count fits) x) (subst StmtLayer is (stmt_by y)))

  -- THE BLOCK of a function
  pub body_sound : (body : List TStmt) → all_stand fitting.outermost (map (stmt_fits limits) body) ≡ true → all_placed true (map stmt_placed body) ≡ true → all_true (map it_sound body) ≡ true
      → Agree marks.counted vs (loops_of_all (map find body)) (row (map inside body)).loops → all_sound (map sound_of body) ≡ true
  body_sound [] fit placed so agreed = refl
  body_sound (s ∷ body) fit placed so agreed =
      let f = and_parts (stmt_fits limits s fitting.outermost) (all_stand fitting.outermost (map (stmt_fits limits) body)) fit in
      let l = and_parts (stmt_placed s true) (all_placed true (map stmt_placed body)) placed in
      let o = and_parts (it_sound s) (all_true (map it_sound body)) so in
      let ys = loops_of_all (map find body) in
      let ms = (row (map inside body)).loops in
      and_from (sound_of s).sound (all_sound (map sound_of body))
      ((stmt_shown s).known true fitting.outermost f.0 l.0 o.0 (agree_front marks.counted vs (find s).loops ys (inside s).loops ms (stmt_alike s) agreed)).sound
      (body_sound body f.1 l.1 o.1 (agree_behind marks.counted vs (find s).loops ys (inside s).loops ms (stmt_alike s) agreed))
