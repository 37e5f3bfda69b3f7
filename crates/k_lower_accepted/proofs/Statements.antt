-- A statement that fits is right where it stands in the flat code, and it is sound.
use Rattle.std.proofs.Common.{ℕ, ◌≡◌, ◌+◌, ◌<◌, ◌≤◌, Bool, true, false, ◌&&◌, List, [], ◌∷◌, map, length, Option, Some, None, refl, sym, subst}
use Rattle.std.proofs.lemmas.Bool.{and_from, and_parts, lt-ltb}
use Rattle.k_types_meaning.specs.declared.tree.expression.TExpr.{TExpr}
use Rattle.k_types_meaning.specs.declared.tree.statement.TPart.{TPart, fold-TPart, fold-roll-TPart, map-TPart}
use Rattle.k_types_meaning.specs.declared.tree.statement.TPart.TheOpen.{TPart-F, TStmt-F}
use Rattle.k_types_meaning.specs.declared.tree.statement.TStmt.{TStmt, fold-roll-TStmt, ind-TStmt, map-TStmt}
use Rattle.k_types_meaning.specs.Numbered.{Numbers, before, expr_numbers, first_numbers, if_listed, listed, option_numbers, part_numbers_step, stmt_numbers, stmt_numbers_step}
use Rattle.k_types_meaning.proofs.Fine.{AllOf}
use Rattle.k_code.specs.declared.code.Code.{Code}
use Rattle.k_evaluation.specs.Loops.{loop_region}
use Rattle.k_evaluation.specs.Places.{string_number}
use Rattle.k_evaluation.specs.States.{Program}
use Rattle.k_lower_fits.specs.Fits.{Limits, Site, Standing, all_stand, expr_fits, first_fits, option_fits, stmt_fits}
use Rattle.k_lower_fits.specs.Fits as fitting
use Rattle.k_lower_fits.specs.Placed.{Placing, all_placed, placed_part, placed_step, stmt_placed}
use Rattle.k_lower_fits.proofs.Split.{behind, front}
use Rattle.k_lower_runs.specs.Sound.{all_true, calls_fit, first_sound, is_sound, option_sound}
use Rattle.k_lower_texts.specs.Passing.{Asks, all_pass, expr_passes, first_passes, option_passes, stmt_passes}
use Rattle.k_lower_texts.specs.Passing as passing
use Rattle.k_lower_valid.specs.Names.{Where, all_right, expr_named, first_named, option_named, option_right, regions_there, stmt_right}
use Rattle.k_lower_valid.specs.Names as names
use Rattle.k_lower_accepted.specs.Sound.{stmt_sound}
use Rattle.k_lower_accepted.specs.Sound as sounds
use Rattle.k_lower_accepted.proofs.Expressions.{both_of, declared_right, expr_right, first_right}
use Rattle.k_lower_accepted.proofs.Expressions as expressions
use Rattle.k_lower_accepted.proofs.Formats.{asks_of}

-- where a statement stands, by whether a declaration may stand there, and by what lies around it
abbrev pub where_of : Bool → Site → Where
where_of here site = record { declares = here; breaks = site.breaks; continues = site.continues }

module _ (program : Program) (code : Code) (limits : Limits) (strings loops number : ℕ)
    (functions : length limits.callees ≤ length code.funcs) (objects : limits.objects ≤ length code.objects) (texts : (n : ℕ) → n < strings → string_number program n < length code.objects)
    (regions : (n : ℕ) → n < loops → loop_region number n + 1 < length code.regions) where
  abbrev asks : Asks
  asks = asks_of program.unit

  abbrev sound : TExpr → Bool
  sound = is_sound limits.variables (calls_fit program.unit)

  abbrev named : TExpr → Bool
  named = expr_named program code

  abbrev IsString : ℕ → Type 0
  IsString n = n < strings

  abbrev IsLoop : ℕ → Type 0
  IsLoop n = n < loops

  -- the numbers of strings and loops are of the source
  abbrev Below : Numbers → Type 0
  Below n = AllOf IsString n.strings × AllOf IsLoop n.loops

  abbrev Good : Bool → Bool → Type 0
  Good a b = (a ≡ true) × (b ≡ true)

  first_below : (a b : Numbers) → Below (before a b) → Below a
  first_below a b h = (front IsString a.strings b.strings h.0, front IsLoop a.loops b.loops h.1)

  second_below : (a b : Numbers) → Below (before a b) → Below b
  second_below a b h = (behind IsString a.strings b.strings h.0, behind IsLoop a.loops b.loops h.1)

  expr_good : (e : TExpr) (used : Bool) → expr_fits limits e used ≡ true → expr_passes asks e ≡ true → Below (expr_numbers e) → Good (named e) (sound e)
  expr_good e used fit pass below = expr_right program code limits strings functions objects texts e used fit pass below.0

  option_good : (o : Option TExpr) (used : Bool) → option_fits limits used o ≡ true → option_passes asks o ≡ true → Below (option_numbers o)
      → Good (option_named program code o) (option_sound limits.variables (calls_fit program.unit) o)
  option_good o used fit pass below = expressions.option_right program code limits strings functions objects texts o used fit pass below.0

  -- STATEMENTS AND PARTS
  abbrev part_fits : TPart → Standing
  part_fits = fold-TPart Standing Standing fitting.part_step (fitting.stmt_step limits)

  abbrev part_placed : TPart → Placing
  part_placed = fold-TPart Placing Placing placed_part placed_step

  abbrev part_passes : TPart → Bool
  part_passes = fold-TPart Bool Bool passing.part_step (passing.stmt_step asks)

  abbrev part_numbers : TPart → Numbers
  part_numbers = fold-TPart Numbers Numbers part_numbers_step stmt_numbers_step

  abbrev part_right : TPart → Where → Bool
  part_right = fold-TPart (Where → Bool) (Where → Bool) names.part_step (names.stmt_step program code number)

  abbrev part_sound : TPart → Bool
  part_sound = fold-TPart Bool Bool sounds.part_step (sounds.stmt_step limits.variables (calls_fit program.unit))

  abbrev it_sound : TStmt → Bool
  it_sound = stmt_sound limits.variables (calls_fit program.unit)

  abbrev it_right : TStmt → Where → Bool
  it_right = stmt_right program code number

  abbrev it_passes : TStmt → Bool
  it_passes = stmt_passes asks

  -- what is given, and what is to be shown
  abbrev Shown : Standing → Placing → Bool → Numbers → (Where → Bool) → Bool → Type 0
  Shown fit placed pass numbers is_right is_so =
      (here : Bool) (site : Site) → fit site ≡ true → placed here ≡ true → pass ≡ true → Below numbers → Good (is_right (where_of here site)) is_so

  abbrev StmtShown : TStmt → Type 0
  StmtShown s = Shown (stmt_fits limits s) (stmt_placed s) (it_passes s) (stmt_numbers s) (it_right s) (it_sound s)

  abbrev PartShown : TPart → Type 0
  PartShown p = Shown (part_fits p) (part_placed p) (part_passes p) (part_numbers p) (part_right p) (part_sound p)

  abbrev Stmts : Type 0
  Stmts = (s : TStmt) × StmtShown s

  abbrev Parts : Type 0
  Parts = (p : TPart) × PartShown p

  all_shown : {B : Type 0} (items : List B) (stmt : B → TStmt) (here : Bool) (site : Site) → ((b : B) → StmtShown (stmt b))
      → all_stand site (map (stmt_fits limits) (map stmt items)) ≡ true → all_placed here (map stmt_placed (map stmt items)) ≡ true → all_pass (map it_passes (map stmt items)) ≡ true
      → Below (listed (map stmt_numbers (map stmt items))) → Good (all_right (where_of here site) (map it_right (map stmt items))) (all_true (map it_sound (map stmt items)))
  all_shown [] stmt here site each fit placed pass below = (refl, refl)
  all_shown (b ∷ items) stmt here site each fit placed pass below =
      let f = and_parts (stmt_fits limits (stmt b) site) (all_stand site (map (stmt_fits limits) (map stmt items))) fit in
      let l = and_parts (stmt_placed (stmt b) here) (all_placed here (map stmt_placed (map stmt items))) placed in
      let p = and_parts (it_passes (stmt b)) (all_pass (map it_passes (map stmt items))) pass in
      both_of (it_right (stmt b) (where_of here site)) (it_sound (stmt b)) (all_right (where_of here site) (map it_right (map stmt items))) (all_true (map it_sound (map stmt items)))
      (each b here site f.0 l.0 p.0 (first_below (stmt_numbers (stmt b)) (listed (map stmt_numbers (map stmt items))) below))
      (all_shown items stmt here site each f.1 l.1 p.1 (second_below (stmt_numbers (stmt b)) (listed (map stmt_numbers (map stmt items))) below))

  all_parts_shown : {B : Type 0} (items : List B) (part : B → TPart) (here : Bool) (site : Site) → ((b : B) → PartShown (part b))
      → all_stand site (map part_fits (map part items)) ≡ true → all_placed here (map part_placed (map part items)) ≡ true → all_pass (map part_passes (map part items)) ≡ true
      → Below (listed (map part_numbers (map part items))) → Good (all_right (where_of here site) (map part_right (map part items))) (all_true (map part_sound (map part items)))
  all_parts_shown [] part here site each fit placed pass below = (refl, refl)
  all_parts_shown (b ∷ items) part here site each fit placed pass below =
      let f = and_parts (part_fits (part b) site) (all_stand site (map part_fits (map part items))) fit in
      let l = and_parts (part_placed (part b) here) (all_placed here (map part_placed (map part items))) placed in
      let p = and_parts (part_passes (part b)) (all_pass (map part_passes (map part items))) pass in
      both_of (part_right (part b) (where_of here site)) (part_sound (part b)) (all_right (where_of here site) (map part_right (map part items))) (all_true (map part_sound (map part items)))
      (each b here site f.0 l.0 p.0 (first_below (part_numbers (part b)) (listed (map part_numbers (map part items))) below))
      (all_parts_shown items part here site each f.1 l.1 p.1 (second_below (part_numbers (part b)) (listed (map part_numbers (map part items))) below))

  -- the regions of a loop
  regions_are : (n : ℕ) → n < loops → regions_there code number n ≡ true
  regions_are n low = lt-ltb (loop_region number n + 1) (length code.regions) (regions n low)

  abbrev PartLayer : TPart-F TPart TStmt → Type 0
  PartLayer z =
      Shown (fitting.part_step (map-TPart TPart TStmt Standing Standing part_fits (stmt_fits limits) z)) (placed_part (map-TPart TPart TStmt Placing Placing part_placed stmt_placed z))
      (passing.part_step (map-TPart TPart TStmt Bool Bool part_passes it_passes z)) (part_numbers_step (map-TPart TPart TStmt Numbers Numbers part_numbers stmt_numbers z))
      (names.part_step (map-TPart TPart TStmt (Where → Bool) (Where → Bool) part_right it_right z)) (sounds.part_step (map-TPart TPart TStmt Bool Bool part_sound it_sound z))

  abbrev StmtLayer : TStmt-F TPart TStmt → Type 0
  StmtLayer z =
      Shown (fitting.stmt_step limits (map-TStmt TPart TStmt Standing Standing part_fits (stmt_fits limits) z)) (placed_step (map-TStmt TPart TStmt Placing Placing part_placed stmt_placed z))
      (passing.stmt_step asks (map-TStmt TPart TStmt Bool Bool part_passes it_passes z)) (stmt_numbers_step (map-TStmt TPart TStmt Numbers Numbers part_numbers stmt_numbers z))
      (names.stmt_step program code number (map-TStmt TPart TStmt (Where → Bool) (Where → Bool) part_right it_right z))
      (sounds.stmt_step limits.variables (calls_fit program.unit) (map-TStmt TPart TStmt Bool Bool part_sound it_sound z))

  part_by : (y : TPart-F Parts Stmts) → PartLayer (map-TPart _ _ TPart TStmt (λ (x : Parts). x.0) (λ (x : Stmts). x.0) y)
  part_by (TPart-F.Case p z) here site fit placed pass below = (refl, refl)
  part_by (TPart-F.Default p) here site fit placed pass below = (refl, refl)
  part_by (TPart-F.Does p s) here site fit placed pass below = s.1 here site fit placed pass below

  -- a loop's body and its test, of which the test is looked at first
  loop_good : (n : ℕ) (test : TExpr) (a : Stmts) → n < loops → expr_fits limits test true ≡ true → stmt_fits limits a.0 fitting.in_loop ≡ true → stmt_placed a.0 false ≡ true
      → expr_passes asks test ≡ true → it_passes a.0 ≡ true → Below (expr_numbers test) → Below (stmt_numbers a.0)
      → Good (regions_there code number n && (named test && it_right a.0 names.in_loop)) (sound test && it_sound a.0)
  loop_good n test a low fit as_fit placed pass also below under =
      let e = expr_good test true fit pass below in
      let s = a.1 false fitting.in_loop as_fit placed also under in
      let both = both_of (named test) (sound test) (it_right a.0 names.in_loop) (it_sound a.0) e s in
      (and_from (regions_there code number n) (named test && it_right a.0 names.in_loop) (regions_are n low) both.0, both.1)

  stmt_by : (y : TStmt-F Parts Stmts) → StmtLayer (map-TStmt _ _ TPart TStmt (λ (x : Parts). x.0) (λ (x : Stmts). x.0) y)
  stmt_by (TStmt-F.Expr spot e) here site fit placed pass below = expr_good e false fit pass below
  stmt_by (TStmt-F.Empty spot) here site fit placed pass below = (refl, refl)
  stmt_by (TStmt-F.Block spot parts) here site fit placed pass below = all_shown parts (λ x. x.0) true site (λ x. x.1) fit placed pass below
  stmt_by (TStmt-F.If spot test a None) here site fit placed pass below =
      let f = and_parts (expr_fits limits test true) (stmt_fits limits a.0 site && true) fit in
      let l = and_parts (stmt_placed a.0 false) true placed in
      let p = and_parts (expr_passes asks test) (it_passes a.0 && true) pass in
      let rest : Below (before (stmt_numbers a.0) (if_listed None)) = second_below (expr_numbers test) (before (stmt_numbers a.0) (if_listed None)) below in
      both_of (named test) (sound test) (it_right a.0 (where_of false site) && true) (it_sound a.0 && true)
      (expr_good test true f.0 p.0 (first_below (expr_numbers test) (before (stmt_numbers a.0) (if_listed None)) below))
      (both_of (it_right a.0 (where_of false site)) (it_sound a.0) true true
      (a.1 false site (and_parts (stmt_fits limits a.0 site) true f.1).0 l.0 (and_parts (it_passes a.0) true p.1).0 (first_below (stmt_numbers a.0) (if_listed None) rest)) (refl, refl))
  stmt_by (TStmt-F.If spot test a (Some b)) here site fit placed pass below =
      let f = and_parts (expr_fits limits test true) (stmt_fits limits a.0 site && stmt_fits limits b.0 site) fit in
      let g = and_parts (stmt_fits limits a.0 site) (stmt_fits limits b.0 site) f.1 in
      let l = and_parts (stmt_placed a.0 false) (stmt_placed b.0 false) placed in
      let p = and_parts (expr_passes asks test) (it_passes a.0 && it_passes b.0) pass in
      let q = and_parts (it_passes a.0) (it_passes b.0) p.1 in
      let rest : Below (before (stmt_numbers a.0) (stmt_numbers b.0)) = second_below (expr_numbers test) (before (stmt_numbers a.0) (stmt_numbers b.0)) below in
      both_of (named test) (sound test) (it_right a.0 (where_of false site) && it_right b.0 (where_of false site)) (it_sound a.0 && it_sound b.0)
      (expr_good test true f.0 p.0 (first_below (expr_numbers test) (before (stmt_numbers a.0) (stmt_numbers b.0)) below))
      (both_of (it_right a.0 (where_of false site)) (it_sound a.0) (it_right b.0 (where_of false site)) (it_sound b.0)
      (a.1 false site g.0 l.0 q.0 (first_below (stmt_numbers a.0) (stmt_numbers b.0) rest)) (b.1 false site g.1 l.1 q.1 (second_below (stmt_numbers a.0) (stmt_numbers b.0) rest)))
  stmt_by (TStmt-F.While spot n test a) here site fit placed pass below =
      let f = and_parts (expr_fits limits test true) (stmt_fits limits a.0 fitting.in_loop) fit in
      let p = and_parts (expr_passes asks test) (it_passes a.0) pass in
      loop_good n test a below.1.0 f.0 f.1 placed p.0 p.1 (first_below (expr_numbers test) (stmt_numbers a.0) (below.0, below.1.1)) (second_below (expr_numbers test) (stmt_numbers a.0) (below.0, below.1.1))
  stmt_by (TStmt-F.DoWhile spot n a test) here site fit placed pass below =
      let f = and_parts (stmt_fits limits a.0 fitting.in_loop) (expr_fits limits test true) fit in
      let p = and_parts (it_passes a.0) (expr_passes asks test) pass in
      loop_good n test a below.1.0 f.1 f.0 placed p.1 p.0 (second_below (stmt_numbers a.0) (expr_numbers test) (below.0, below.1.1)) (first_below (stmt_numbers a.0) (expr_numbers test) (below.0, below.1.1))
  stmt_by (TStmt-F.For spot n start test step a) here site fit placed pass below =
      let under : Below (before (first_numbers start) (before (option_numbers test) (before (option_numbers step) (stmt_numbers a.0)))) = (below.0, below.1.1) in
      let second : Below (before (option_numbers test) (before (option_numbers step) (stmt_numbers a.0))) = second_below (first_numbers start) (before (option_numbers test) (before (option_numbers step) (stmt_numbers a.0))) under in
      let third : Below (before (option_numbers step) (stmt_numbers a.0)) = second_below (option_numbers test) (before (option_numbers step) (stmt_numbers a.0)) second in
      let f = and_parts (first_fits limits start) (option_fits limits true test && (option_fits limits false step && stmt_fits limits a.0 fitting.in_loop)) fit in
      let g = and_parts (option_fits limits true test) (option_fits limits false step && stmt_fits limits a.0 fitting.in_loop) f.1 in
      let h = and_parts (option_fits limits false step) (stmt_fits limits a.0 fitting.in_loop) g.1 in
      let p = and_parts (first_passes asks start) (option_passes asks test && (option_passes asks step && it_passes a.0)) pass in
      let q = and_parts (option_passes asks test) (option_passes asks step && it_passes a.0) p.1 in
      let r = and_parts (option_passes asks step) (it_passes a.0) q.1 in
      let count : ℕ = limits.variables in
      let calls = calls_fit program.unit in
      let all = both_of (first_named program code start) (first_sound count calls start)
      (option_named program code test && (option_named program code step && it_right a.0 names.in_loop)) (option_sound count calls test && (option_sound count calls step && it_sound a.0))
      (first_right program code limits strings functions objects texts start f.0 p.0 (first_below (first_numbers start) (before (option_numbers test) (before (option_numbers step) (stmt_numbers a.0))) under).0)
      (both_of (option_named program code test) (option_sound count calls test) (option_named program code step && it_right a.0 names.in_loop) (option_sound count calls step && it_sound a.0)
      (option_good test true g.0 q.0 (first_below (option_numbers test) (before (option_numbers step) (stmt_numbers a.0)) second))
      (both_of (option_named program code step) (option_sound count calls step) (it_right a.0 names.in_loop) (it_sound a.0) (option_good step false h.0 r.0 (first_below (option_numbers step) (stmt_numbers a.0) third))
      (a.1 false fitting.in_loop h.1 placed r.1 (second_below (option_numbers step) (stmt_numbers a.0) third)))) in
      (and_from (regions_there code number n) (first_named program code start && (option_named program code test && (option_named program code step && it_right a.0 names.in_loop))) (regions_are n below.1.0) all.0, all.1)
  stmt_by (TStmt-F.Switch spot kind on parts) here site fit placed pass below =
      let trees : List TPart = map (λ (x : Parts). x.0) parts in
      let f = and_parts (expr_fits limits on true) (all_stand (fitting.in_switch site) (map part_fits trees)) fit in
      let p = and_parts (expr_passes asks on) (all_pass (map part_passes trees)) pass in
      both_of (named on) (sound on) (all_right (where_of false (fitting.in_switch site)) (map part_right trees)) (all_true (map part_sound trees))
      (expr_good on true f.0 p.0 (first_below (expr_numbers on) (listed (map part_numbers trees)) below))
      (all_parts_shown parts (λ x. x.0) false (fitting.in_switch site) (λ x. x.1) f.1 placed p.1 (second_below (expr_numbers on) (listed (map part_numbers trees)) below))
  stmt_by (TStmt-F.Break spot) here site fit placed pass below = (fit, refl)
  stmt_by (TStmt-F.Continue spot) here site fit placed pass below = (fit, refl)
  stmt_by (TStmt-F.Return spot None) here site fit placed pass below = (refl, refl)
  stmt_by (TStmt-F.Return spot (Some e)) here site fit placed pass below = expr_good e true (and_parts limits.gives (expr_fits limits e true) fit).1 pass below
  stmt_by (TStmt-F.Declare spot list) here site fit placed pass below =
      let all = declared_right program code limits strings functions objects texts list fit pass below.0 in
      (and_from (names.declared_named program code list) here all.0 placed, all.1)

  moved : (f g : Standing) (l m : Placing) (p q : Bool) (n k : Numbers) (r s : Where → Bool) (a b : Bool) → f ≡ g → l ≡ m → p ≡ q → n ≡ k → r ≡ s → a ≡ b → Shown g m q k s b → Shown f l p n r a
  moved f g l m p q n k r s a b ef el ep en er ea h here site fit placed pass below =
      let all = h here site (subst (λ (x : Standing). x site ≡ true) ef fit) (subst (λ (x : Placing). x here ≡ true) el placed) (subst (λ (x : Bool). x ≡ true) ep pass) (subst Below en below) in
      (subst (λ (x : Where → Bool). x (where_of here site) ≡ true) (sym er) all.0, subst (λ (x : Bool). x ≡ true) (sym ea) all.1)

  -- A STATEMENT
  stmt_shown : (s : TStmt) → StmtShown s
  stmt_shown =
      ind-TStmt PartShown StmtShown
      (λ x y is.
      moved _ _ _ _ _ _ _ _ _ _ _ _ (fold-roll-TPart Standing Standing fitting.part_step (fitting.stmt_step limits) x) (fold-roll-TPart Placing Placing placed_part placed_step x)
      (fold-roll-TPart Bool Bool passing.part_step (passing.stmt_step asks) x) (fold-roll-TPart Numbers Numbers part_numbers_step stmt_numbers_step x)
      (fold-roll-TPart (Where → Bool) (Where → Bool) names.part_step (names.stmt_step program code number) x)
      (fold-roll-TPart Bool Bool sounds.part_step (sounds.stmt_step limits.variables (calls_fit program.unit)) x) (subst PartLayer is (part_by y)))
      (λ x y is.
      moved _ _ _ _ _ _ _ _ _ _ _ _ (fold-roll-TStmt Standing Standing fitting.part_step (fitting.stmt_step limits) x) (fold-roll-TStmt Placing Placing placed_part placed_step x)
      (fold-roll-TStmt Bool Bool passing.part_step (passing.stmt_step asks) x) (fold-roll-TStmt Numbers Numbers part_numbers_step stmt_numbers_step x)
      (fold-roll-TStmt (Where → Bool) (Where → Bool) names.part_step (names.stmt_step program code number) x)
      (fold-roll-TStmt Bool Bool sounds.part_step (sounds.stmt_step limits.variables (calls_fit program.unit)) x) (subst StmtLayer is (stmt_by y)))

  -- THE BLOCK of a function
  pub body_shown : (body : List TStmt) → all_stand fitting.outermost (map (stmt_fits limits) body) ≡ true → all_placed true (map stmt_placed body) ≡ true → all_pass (map it_passes body) ≡ true
      → AllOf IsString (listed (map stmt_numbers body)).strings → AllOf IsLoop (listed (map stmt_numbers body)).loops
      → Good (all_right names.outermost (map it_right body)) (all_true (map it_sound body))
  body_shown [] fit placed pass below under = (refl, refl)
  body_shown (s ∷ body) fit placed pass below under =
      let f = and_parts (stmt_fits limits s fitting.outermost) (all_stand fitting.outermost (map (stmt_fits limits) body)) fit in
      let l = and_parts (stmt_placed s true) (all_placed true (map stmt_placed body)) placed in
      let p = and_parts (it_passes s) (all_pass (map it_passes body)) pass in
      let rest : Below (listed (map stmt_numbers body)) = second_below (stmt_numbers s) (listed (map stmt_numbers body)) (below, under) in
      both_of (it_right s names.outermost) (it_sound s) (all_right names.outermost (map it_right body)) (all_true (map it_sound body))
      (stmt_shown s true fitting.outermost f.0 l.0 p.0 (first_below (stmt_numbers s) (listed (map stmt_numbers body)) (below, under)))
      (body_shown body f.1 l.1 p.1 rest.0 rest.1)
