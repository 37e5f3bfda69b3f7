-- The jumps that lead out of a statement that fits have their targets around it.
use Rattle.std.proofs.Common.{ℕ, ◌≡◌, Bool, true, false, ◌&&◌, List, [], ◌∷◌, map, Some, None, refl, sym, ◌∙◌, subst}
use Rattle.std.proofs.lemmas.Bool.{and_parts, or_from}
use Rattle.k_types_meaning.specs.declared.tree.expression.Node.{Node}
use Rattle.k_types_meaning.specs.declared.tree.statement.TPart.{TPart, fold-TPart, fold-roll-TPart, map-TPart}
use Rattle.k_types_meaning.specs.declared.tree.statement.TPart.TheOpen.{TPart-F, TStmt-F}
use Rattle.k_types_meaning.specs.declared.tree.statement.TStmt.{TStmt, fold-roll-TStmt, ind-TStmt, map-TStmt}
use Rattle.k_marks_meaning.specs.declared.jumps.Jumps.{Jumps}
use Rattle.k_marks_meaning.specs.declared.Marks.{Marks}
use Rattle.k_marks_meaning.specs.Jumps.{jumps_of_both, no_jumps}
use Rattle.k_lower_fits.specs.Fits.{Limits, Site, Standing, all_stand, expr_fits, stmt_fits}
use Rattle.k_lower_fits.specs.Fits as fitting
use Rattle.k_lower_flows.specs.Sound.{Soundness, jumps_in, soundness}
use Rattle.k_lower_flows.specs.Sound as flows

-- JUMPS LAND: a `break` has something to leave, and a `continue` a loop
pub record Land (site : Site) (j : Jumps) : Type 0 where
  pub breaks : site.breaks ≡ false → j.breaks ≡ false
  pub continues : site.continues ≡ false → j.continues ≡ false

none_land : (site : Site) → Land site no_jumps
none_land site = record { breaks = λ is. refl; continues = λ is. refl }

both_land : (site : Site) (j k : Jumps) → Land site j → Land site k → Land site (jumps_of_both j k)
both_land site j k a b = record {
  breaks = λ is. or_from j.breaks k.breaks (a.breaks is) (b.breaks is);
  continues = λ is. or_from j.continues k.continues (a.continues is) (b.continues is);
}

-- the jumps of what fits land
abbrev Lands : Standing → Soundness → Type 0
Lands fit x = (site : Site) → fit site ≡ true → Land site x.jumps

all_land : {T : Type 0} (fit : T → Standing) (known : T → Soundness) (items : List ((x : T) × Lands (fit x) (known x))) (site : Site)
    → all_stand site (map fit (map (λ (x : (x : T) × Lands (fit x) (known x)). x.0) items)) ≡ true
    → Land site (jumps_in (map known (map (λ (x : (x : T) × Lands (fit x) (known x)). x.0) items)))
all_land fit known [] site h = none_land site
all_land {T} fit known (x ∷ items) site h =
    let trees : List T = map (λ (x : (x : T) × Lands (fit x) (known x)). x.0) items in
    let both = and_parts (fit x.0 site) (all_stand site (map fit trees)) h in
    both_land site (known x.0).jumps (jumps_in (map known trees)) (x.1 site both.0) (all_land fit known items site both.1)

module _ (marks : Marks) (limits : Limits) (fits : Node → ℕ → Bool) where
  abbrev sound_of : TStmt → Soundness
  sound_of = soundness marks limits.gives limits.variables fits

  abbrev part_sound_of : TPart → Soundness
  part_sound_of = fold-TPart Soundness Soundness (flows.part_step marks limits.gives limits.variables fits) (flows.stmt_step marks limits.gives limits.variables fits)

  abbrev part_fits : TPart → Standing
  part_fits = fold-TPart Standing Standing fitting.part_step (fitting.stmt_step limits)

  abbrev StmtLands : TStmt → Type 0
  StmtLands s = Lands (stmt_fits limits s) (sound_of s)

  abbrev PartLands : TPart → Type 0
  PartLands p = Lands (part_fits p) (part_sound_of p)

  abbrev Stmts : Type 0
  Stmts = (s : TStmt) × StmtLands s

  abbrev Parts : Type 0
  Parts = (p : TPart) × PartLands p

  abbrev PartLayer : TPart-F TPart TStmt → Type 0
  PartLayer z =
      Lands (fitting.part_step (map-TPart TPart TStmt Standing Standing part_fits (stmt_fits limits) z))
      (flows.part_step marks limits.gives limits.variables fits (map-TPart TPart TStmt Soundness Soundness part_sound_of sound_of z))

  abbrev StmtLayer : TStmt-F TPart TStmt → Type 0
  StmtLayer z =
      Lands (fitting.stmt_step limits (map-TStmt TPart TStmt Standing Standing part_fits (stmt_fits limits) z))
      (flows.stmt_step marks limits.gives limits.variables fits (map-TStmt TPart TStmt Soundness Soundness part_sound_of sound_of z))

  part_by : (y : TPart-F Parts Stmts) → PartLayer (map-TPart _ _ TPart TStmt (λ (x : Parts). x.0) (λ (x : Stmts). x.0) y)
  part_by (TPart-F.Case p z) site fit = none_land site
  part_by (TPart-F.Default p) site fit = none_land site
  part_by (TPart-F.Does p s) site fit = s.1 site fit

  stmt_by : (y : TStmt-F Parts Stmts) → StmtLayer (map-TStmt _ _ TPart TStmt (λ (x : Parts). x.0) (λ (x : Stmts). x.0) y)
  stmt_by (TStmt-F.Expr spot e) site fit = none_land site
  stmt_by (TStmt-F.Empty spot) site fit = none_land site
  stmt_by (TStmt-F.Block spot parts) site fit = all_land (stmt_fits limits) sound_of parts site fit
  stmt_by (TStmt-F.If spot test a None) site fit =
      let f = and_parts (expr_fits limits test true) (stmt_fits limits a.0 site && true) fit in
      both_land site (sound_of a.0).jumps no_jumps (a.1 site (and_parts (stmt_fits limits a.0 site) true f.1).0) (none_land site)
  stmt_by (TStmt-F.If spot test a (Some b)) site fit =
      let f = and_parts (expr_fits limits test true) (stmt_fits limits a.0 site && stmt_fits limits b.0 site) fit in
      let g = and_parts (stmt_fits limits a.0 site) (stmt_fits limits b.0 site) f.1 in
      both_land site (sound_of a.0).jumps (sound_of b.0).jumps (a.1 site g.0) (b.1 site g.1)
  stmt_by (TStmt-F.While spot n test a) site fit = record { breaks = λ is. refl; continues = λ is. refl }
  stmt_by (TStmt-F.DoWhile spot n a test) site fit = record { breaks = λ is. refl; continues = λ is. refl }
  stmt_by (TStmt-F.For spot n start test step a) site fit = record { breaks = λ is. refl; continues = λ is. refl }
  stmt_by (TStmt-F.Switch spot kind on parts) site fit =
      let trees : List TPart = map (λ (x : Parts). x.0) parts in
      let f = and_parts (expr_fits limits on true) (all_stand (fitting.in_switch site) (map part_fits trees)) fit in
      record { breaks = λ is. refl; continues = (all_land part_fits part_sound_of parts (fitting.in_switch site) f.1).continues }
  stmt_by (TStmt-F.Break spot) site fit = record { breaks = λ is. sym fit ∙ is; continues = λ is. refl }
  stmt_by (TStmt-F.Continue spot) site fit = record { breaks = λ is. refl; continues = λ is. sym fit ∙ is }
  stmt_by (TStmt-F.Return spot value) site fit = record { breaks = λ is. refl; continues = λ is. refl }
  stmt_by (TStmt-F.Declare spot list) site fit = none_land site

  moved : (f g : Standing) (x y : Soundness) → f ≡ g → x ≡ y → Lands g y → Lands f x
  moved f g x y ef ex h = subst (λ (z : Standing). Lands z x) (sym ef) (subst (λ (z : Soundness). Lands g z) (sym ex) h)

  -- A STATEMENT
  stmt_lands : (s : TStmt) → StmtLands s
  stmt_lands =
      ind-TStmt PartLands StmtLands
      (λ x y is.
      moved _ _ _ _ (fold-roll-TPart Standing Standing fitting.part_step (fitting.stmt_step limits) x)
      (fold-roll-TPart Soundness Soundness (flows.part_step marks limits.gives limits.variables fits) (flows.stmt_step marks limits.gives limits.variables fits) x) (subst PartLayer is (part_by y)))
      (λ x y is.
      moved _ _ _ _ (fold-roll-TStmt Standing Standing fitting.part_step (fitting.stmt_step limits) x)
      (fold-roll-TStmt Soundness Soundness (flows.part_step marks limits.gives limits.variables fits) (flows.stmt_step marks limits.gives limits.variables fits) x) (subst StmtLayer is (stmt_by y)))

  -- THE BLOCK of a function
  pub body_lands : (site : Site) (body : List TStmt) → all_stand site (map (stmt_fits limits) body) ≡ true → Land site (jumps_in (map sound_of body))
  body_lands site [] fit = none_land site
  body_lands site (s ∷ body) fit =
      let both = and_parts (stmt_fits limits s site) (all_stand site (map (stmt_fits limits) body)) fit in
      both_land site (sound_of s).jumps (jumps_in (map sound_of body)) (stmt_lands s site both.0) (body_lands site body both.1)
