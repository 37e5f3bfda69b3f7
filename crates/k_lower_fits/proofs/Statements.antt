-- The typed tree of a statement fits where it stands, and its nodes pay for it: with the variables that it declares, its registers are at most two for each node.
use Rattle.std.proofs.Common.{◌≡◌, ℕ, ◌+◌, ◌-◌, ◌*◌, ◌<◌, ◌≤◌, max, Bool, true, false, ◌&&◌, ◌||◌, List, [], ◌∷◌, ◌++◌, map, length, Option, Some, None, refl, sym, ◌∙◌, ap, subst, arith, length-append}
use Rattle.std.specs.Prelude.{sum, nat_lt, not}
use Rattle.std.proofs.lemmas.Bool.{and_from, lt-ltb}
use Rattle.std.proofs.Math.Nat.{max-le}
use Rattle.k_num.specs.declared.numbers.Kind.{Kind}
use Rattle.k_num.specs.Kind.{converted, promoted}
use Rattle.k_tree.specs.declared.tree.declaration.Declarator.{Declarator}
use Rattle.k_tree.specs.declared.tree.expression.Expr.{Expr}
use Rattle.k_tree.specs.declared.tree.statement.First.{First}
use Rattle.k_tree.specs.declared.tree.statement.Part.{Part, fold-Part}
use Rattle.k_tree.specs.declared.tree.statement.Part.TheVariants as part
use Rattle.k_tree.specs.declared.tree.statement.Stmt.{Stmt}
use Rattle.k_tree.specs.declared.tree.statement.Stmt.TheVariants as stmt
use Rattle.k_tree.specs.Count.{expr_count, option_count, initialised_count, declarator_count, declarators_count, first_count, stmt_count, part_count}
use Rattle.k_tree.specs.Count as count
use Rattle.k_tree.proofs.Folds as folds
use Rattle.k_types_meaning.specs.declared.names.Meaning.TheVariants as meaning
use Rattle.k_types_meaning.specs.declared.types.CType.{CType}
use Rattle.k_types_meaning.specs.declared.tree.declaration.TDeclarator.{TDeclarator}
use Rattle.k_types_meaning.specs.declared.tree.expression.TExpr.{TExpr}
use Rattle.k_types_meaning.specs.declared.tree.statement.TFirst.{TFirst}
use Rattle.k_types_meaning.specs.declared.tree.statement.TPart.{TPart, fold-TPart}
use Rattle.k_types_meaning.specs.declared.tree.statement.TPart.TheVariants as typed_part
use Rattle.k_types_meaning.specs.declared.tree.statement.TStmt.{TStmt}
use Rattle.k_types_meaning.specs.declared.tree.statement.TStmt.TheVariants as typed
use Rattle.k_types_meaning.specs.Called.{Called, all_calls, dims_calls, start_calls, declarator_calls, declarators_calls, first_calls, option_calls, expr_calls, stmt_calls, stmt_calls_step, part_calls_step}
use Rattle.k_types_meaning.specs.Conversions.{Typed, in_kind}
use Rattle.k_types_meaning.specs.Declarations.{Object, Saying, saying, object_fixed}
use Rattle.k_types_meaning.specs.ElaboratedDeclarators.{ElabObject, ElabDeclared, object, none_declared, more_declared, variable_tree, with_variable, names_within}
use Rattle.k_types_meaning.specs.ElaboratedStatements.{ElabStmt, ElabStmts, ElabPart, ElabParts, ElabFirst, ElabTest, ElabStep, nothing_first, value_first, declared_first, no_test, tested, no_step, stepped, expression, empty, block, if_alone, if_else, while_loop, do_loop, for_loop, switch_on, break_within, continue_within, return_none, return_value, declaration, no_stmts, more_stmts, case_label, default_label, does, no_parts, more_parts, taking, leaving, breaks}
use Rattle.k_types_meaning.specs.ElaboratedUnits.{IsDefined}
use Rattle.k_types_meaning.specs.Elaborated.{Elab}
use Rattle.k_types_meaning.specs.Initialisers.{Beginning}
use Rattle.k_types_meaning.specs.Names.{Names}
use Rattle.k_types_meaning.specs.Statements.{Around, Known, Labels, Variable, spot, opened, inside_loop, inside_switch, no_labels}
use Rattle.k_types_meaning.specs.Types.{number_kind, told}
use Rattle.k_types_meaning.proofs.Fine.{AllOf, IfFine, IfThere}
use Rattle.k_types_meaning.proofs.Folds.{done_Expr, done_Empty, done_Block, done_alone, done_else, done_While, done_DoWhile, done_For, done_Switch, done_Break, done_Continue, done_Return, done_Declare, part_Case, part_Default, part_Does}
use Rattle.k_lower_fits.specs.Costs.{Cost, free, then_, above, and_own, with_registers, in_row, of_statement, of_part, of_declarator, expr_cost, option_cost, init_cost, declared_cost, first_cost, stmt_cost, stmt_cost_step, part_cost_step}
use Rattle.k_lower_fits.specs.Fits.{Limits, Site, Standing, expr_fits, option_fits, init_fits, declarator_fits, declared_fit, first_fits, return_fits, in_loop, in_switch, all_stand, stmt_fits, stmt_step, part_step, has_values}
use Rattle.k_lower_fits.proofs.Expressions.{NamesFit, expr_good}
use Rattle.k_lower_fits.proofs.Initialisers.{InitGood, begun_good}
use Rattle.k_lower_fits.proofs.Named.{entered_each}
use Rattle.k_lower_fits.proofs.Operands.{NameFits}
use Rattle.k_lower_fits.proofs.Operations.{passed_to}
use Rattle.k_lower_fits.proofs.Ready.{number_has_values, Ready, IfReady, Good, sum_cons, in_its_kind, is_passed, unused}
use Rattle.k_lower_fits.proofs.Split as split

-- SO MANY NODES pay for what stands between `before` variables and `after` variables
pub record Pays (before after n : ℕ) (c : Cost) : Type 0 where
  pub registers : after + c.registers ≤ before + 2 * n
  pub instructions : c.instructions ≤ 64 * n

-- the greater of two, above the same
pub max_above : (a x y k : ℕ) → a + x ≤ k → a + y ≤ k → a + max x y ≤ k
max_above a x y k h j =
    let low : max x y ≤ k - a = max-le {a = x} {b = y} {k = k - a} (omega (arith, h)) (omega (arith, j)) in
    omega (arith, low, h)

module _ (limits : Limits) (defined : List (List ℕ)) where
  abbrev pub Names_fit : Names → Type 0
  Names_fit names = NamesFit limits defined names

  abbrev D : List Called → Type 0
  D calls = AllOf (IsDefined defined) calls

  -- what holds behind a part where enough variables are there
  pub record Held (before : ℕ) (after : Known) (n : ℕ) (c : Cost) (fits : Bool) : Type 0 where
    pub fit : fits ≡ true
    pub names : Names_fit after.names
    pub pays : Pays before (length after.variables) n c

  -- A PART that goes from what is known before to what is known behind: with so many nodes it takes this, and fits
  pub record Comes (known after : Known) (n : ℕ) (c : Cost) (fits : Bool) : Type 0 where
    pub grows : length known.variables ≤ length after.variables
    pub holds : length after.variables ≤ limits.variables → Names_fit known.names → Held (length known.variables) after n c fits

  nothing : (known : Known) → Comes known known 0 free true
  nothing known = record {
    grows = omega arith;
    holds = λ less fit. record { fit = refl; names = fit; pays = record { registers = omega arith; instructions = omega arith } };
  }

  -- more nodes
  wider : (a b : Known) (m n : ℕ) (x : Cost) (f : Bool) → m ≤ n → Comes a b m x f → Comes a b n x f
  wider a b m n x f more h = record {
    grows = h.grows;
    holds = λ less fit.
        let k : Held (length a.variables) b m x f = h.holds less fit in
        let r : length b.variables + x.registers ≤ length a.variables + 2 * m = k.pays.registers in
        let i : x.instructions ≤ 64 * m = k.pays.instructions in
        record { fit = k.fit; names = k.names; pays = record { registers = omega (arith, r, more); instructions = omega (arith, i, more) } };
  }

  -- one part behind another
  both : (a b c : Known) (m n : ℕ) (x y : Cost) (f g : Bool) → Comes a b m x f → Comes b c n y g → Comes a c (m + n) (then_ x y) (f && g)
  both a b c m n x y f g h k =
      let up : length a.variables ≤ length b.variables = h.grows in
      let on : length b.variables ≤ length c.variables = k.grows in
      record {
        grows = omega (arith, up, on);
        holds = λ less fit.
            let first : Held (length a.variables) b m x f = h.holds (omega (arith, on, less)) fit in
            let second : Held (length b.variables) c n y g = k.holds less first.names in
            let r : length b.variables + x.registers ≤ length a.variables + 2 * m = first.pays.registers in
            let q : length c.variables + y.registers ≤ length b.variables + 2 * n = second.pays.registers in
            let i : x.instructions ≤ 64 * m = first.pays.instructions in
            let j : y.instructions ≤ 64 * n = second.pays.instructions in
            record {
              fit = and_from f g first.fit second.fit;
              names = second.names;
              pays = record {
                registers = max_above (length c.variables) x.registers y.registers (length a.variables + 2 * (m + n)) (omega (arith, r, q)) (omega (arith, r, q));
                instructions = omega (arith, i, j);
              };
            };
      }

  -- instructions of its own, for one node more
  own : (k : ℕ) (a b : Known) (m n : ℕ) (x : Cost) (f : Bool) → k ≤ 64 → 1 + m ≤ n → Comes a b m x f → Comes a b n (and_own k x) f
  own k a b m n x f few more h = record {
    grows = h.grows;
    holds = λ less fit.
        let j : Held (length a.variables) b m x f = h.holds less fit in
        let r : length b.variables + x.registers ≤ length a.variables + 2 * m = j.pays.registers in
        let i : x.instructions ≤ 64 * m = j.pays.instructions in
        record { fit = j.fit; names = j.names; pays = record { registers = omega (arith, r, more); instructions = omega (arith, i, more, few) } };
  }

  -- the first of two keeps a register, for a node of both
  switched : (a b c : Known) (m n all : ℕ) (x y : Cost) (f g : Bool) → 1 + m + n ≤ all → Comes a b m x f → Comes b c n y g
      → Comes a c all (and_own of_statement (then_ (above free x) y)) (f && g)
  switched a b c m n all x y f g more h k =
      let up : length a.variables ≤ length b.variables = h.grows in
      let on : length b.variables ≤ length c.variables = k.grows in
      record {
        grows = omega (arith, up, on);
        holds = λ less fit.
            let first : Held (length a.variables) b m x f = h.holds (omega (arith, on, less)) fit in
            let second : Held (length b.variables) c n y g = k.holds less first.names in
            let r : length b.variables + x.registers ≤ length a.variables + 2 * m = first.pays.registers in
            let q : length c.variables + y.registers ≤ length b.variables + 2 * n = second.pays.registers in
            let i : x.instructions ≤ 64 * m = first.pays.instructions in
            let j : y.instructions ≤ 64 * n = second.pays.instructions in
            record {
              fit = and_from f g first.fit second.fit;
              names = second.names;
              pays = record {
                registers = max_above (length c.variables) (max 0 (1 + x.registers)) y.registers (length a.variables + 2 * all)
                    (max_above (length c.variables) 0 (1 + x.registers) (length a.variables + 2 * all) (omega (arith, r, q, more)) (omega (arith, r, q, more))) (omega (arith, r, q, more));
                instructions = omega (arith, i, j, more);
              };
            };
      }

  -- a scope: behind it names mean what they meant before
  scope : (known inside : Known) (n : ℕ) (x : Cost) (f : Bool) → Comes (opened known) inside n x f → Comes known (leaving known inside) n x f
  scope known inside n x f h = record {
    grows = h.grows;
    holds = λ less fit. let k = h.holds less (tt, fit) in record { fit = k.fit; names = fit; pays = k.pays };
  }

  -- AN EXPRESSION, of which it is known that it is good
  good_comes : (known : Known) (v : Typed) (n : ℕ) (tree : TExpr) (used : Bool) → (Names_fit known.names → (expr_fits limits tree used ≡ true) × ((expr_cost tree).registers ≤ 2 * n) × ((expr_cost tree).instructions ≤ 20 * n))
      → Comes known (taking known v) n (expr_cost tree) (expr_fits limits tree used)
  good_comes known v n tree used good = record {
    grows = omega arith;
    holds = λ less fit.
        let g = good fit in
        let r : (expr_cost tree).registers ≤ 2 * n = g.1 in
        let i : (expr_cost tree).instructions ≤ 20 * n = g.2 in
        record { fit = g.0; names = fit; pays = record { registers = omega (arith, r); instructions = omega (arith, i) } };
  }

  -- whose value is used
  ready_comes : (known : Known) (v : Typed) (n : ℕ) (tree : TExpr) → (Names_fit known.names → Ready limits n tree) → Comes known (taking known v) n (expr_cost tree) (expr_fits limits tree true)
  ready_comes known v n tree each = good_comes known v n tree true (λ fit. let h = each fit in (h.fits, h.pays.registers, h.pays.instructions))

  -- whose value is not used
  dropped_comes : (known : Known) (e : Expr) (v : Typed) → D (expr_calls e) → Elab known.names e v → Comes known (taking known v) (expr_count e) (expr_cost v.tree) (expr_fits limits v.tree false)
  dropped_comes known e v calls x =
      good_comes known v (expr_count e) v.tree false
      (λ fit.
      let h : Good limits (expr_count e) v = expr_good limits defined known.names e v fit calls x in
      let i : (expr_cost v.tree).instructions + 4 ≤ 20 * expr_count e = h.pays.instructions in
      (unused limits (expr_count e) v h, h.pays.registers, omega (arith, i)))

  -- a number whose value is used
  used_comes : (known : Known) (e : Expr) (v : Typed) (kind : Kind) → D (expr_calls e) → Elab known.names e v → number_kind v.of ≡ Some kind
      → Comes known (taking known v) (expr_count e) (expr_cost v.tree) (expr_fits limits v.tree true)
  used_comes known e v kind calls x number =
      good_comes known v (expr_count e) v.tree true
      (λ fit.
      let h : Good limits (expr_count e) v = expr_good limits defined known.names e v fit calls x in
      let i : (expr_cost v.tree).instructions + 4 ≤ 20 * expr_count e = h.pays.instructions in
      (h.fits true (number_has_values v.of kind number), h.pays.registers, omega (arith, i)))

  -- DECLARATORS
  object_good : (file : Bool) (s : Saying) (n : ℕ) (names : Names) (d : Declarator) (o : Object) → ElabObject file s n names d o → Names_fit (names_within file s n names d o.of)
      → D (start_calls d.init) → InitGood limits (initialised_count d.init) o.init
  object_good _ _ _ _ _ _ (object file s n names d sizes of start init twice dims has declared gave is) fit calls =
      subst (IfThere (InitGood limits (initialised_count d.init))) is
      (subst (IfFine (λ (b : Beginning). IfThere (InitGood limits (initialised_count d.init)) b.init)) gave
      (begun_good limits defined (names_within file s n names d of) fit file of d.init calls))

  -- one declarator: a variable more
  declarator_comes : (s : Saying) (known : Known) (d : Declarator) (o : Object) → ElabObject false s (length known.variables) known.names d o → D (declarator_calls d)
      → Comes known (with_variable known o) (declarator_count d) (and_own of_declarator (init_cost o.init)) (declarator_fits limits (variable_tree known o))
  declarator_comes s known d o x calls =
      let n : ℕ = length known.variables in
      let v : Variable = record { place = o.place; of = o.of } in
      let count : length (known.variables ++ v ∷ []) ≡ n + 1 = length-append known.variables (v ∷ []) in
      record {
        grows = omega (arith, count);
        holds = λ less fit.
            let below : n < limits.variables = omega (arith, count, less) in
            let good : InitGood limits (initialised_count d.init) o.init =
            object_good false s n known.names d o x (entered_each (NameFits limits defined) d.name (meaning.Variable n o.of (object_fixed s.fixed d.stars)) known.names below fit)
            (split.behind (IsDefined defined) (dims_calls d.dims) (start_calls d.init) calls) in
            let r : (init_cost o.init).registers ≤ 2 * initialised_count d.init = good.pays.registers in
            let i : (init_cost o.init).instructions ≤ 20 * initialised_count d.init = good.pays.instructions in
            record {
              fit = and_from (nat_lt n limits.variables) (init_fits limits o.init) (lt-ltb n limits.variables below) good.fits;
              names = entered_each (NameFits limits defined) o.name (meaning.Variable n o.of o.fixed) known.names below fit;
              pays = record { registers = omega (arith, r, count); instructions = omega (arith, i) };
            };
      }

  declared_comes : (s : Saying) (known : Known) (ds : List Declarator) (ts : List TDeclarator) (after : Known) → ElabDeclared s known ds ts after → D (declarators_calls ds)
      → Comes known after (declarators_count ds) (declared_cost ts) (declared_fit limits ts)
  declared_comes _ _ _ _ _ (none_declared s known) calls = nothing known
  declared_comes _ _ _ _ _ (more_declared s known d ds o ts after x rest) calls =
      let c = split.two (IsDefined defined) (declarator_calls d ++ declarators_calls ds) (declarator_calls d) (declarators_calls ds) refl calls in
      let total : sum (declarator_count d ∷ map declarator_count ds) ≡ declarator_count d + declarators_count ds = sum_cons (declarator_count d) (map declarator_count ds) in
      wider known after (declarator_count d + declarators_count ds) (declarators_count (d ∷ ds)) (then_ (and_own of_declarator (init_cost o.init)) (declared_cost ts))
      (declarator_fits limits (variable_tree known o) && declared_fit limits ts) (omega (arith, total))
      (both known (with_variable known o) after (declarator_count d) (declarators_count ds) (and_own of_declarator (init_cost o.init)) (declared_cost ts)
      (declarator_fits limits (variable_tree known o)) (declared_fit limits ts) (declarator_comes s known d o x c.0) (declared_comes s (with_variable known o) ds ts after rest c.1))

  -- THE PARTS of a `for`
  first_comes : (known : Known) (f : First) (t : TFirst) (after : Known) → ElabFirst known f t after → D (first_calls f) → Comes known after (first_count f) (first_cost t) (first_fits limits t)
  first_comes _ _ _ _ (nothing_first known) calls = nothing known
  first_comes _ _ _ _ (value_first known e v x) calls = dropped_comes known e v calls x
  first_comes _ _ _ _ (declared_first known specs list ts after x) calls = declared_comes (saying false specs) known list ts after x calls

  test_comes : (known : Known) (e : Option Expr) (t : Option TExpr) (after : Known) → ElabTest known e t after → D (option_calls e) → Comes known after (option_count e) (option_cost t) (option_fits limits true t)
  test_comes _ _ _ _ (no_test known) calls = nothing known
  test_comes _ _ _ _ (tested known e v kind x number) calls = used_comes known e v kind calls x number

  step_comes : (known : Known) (e : Option Expr) (t : Option TExpr) (after : Known) → ElabStep known e t after → D (option_calls e) → Comes known after (option_count e) (option_cost t) (option_fits limits false t)
  step_comes _ _ _ _ (no_step known) calls = nothing known
  step_comes _ _ _ _ (stepped known e v x) calls = dropped_comes known e v calls x

  -- WHAT LIES AROUND a statement, as the relation of typing says it
  abbrev pub site_of : Around → Site
  site_of around = record { breaks = around.in_loop || around.in_switch; continues = around.in_loop }

  or_true : (b : Bool) → (b || true) ≡ true
  or_true true = refl
  or_true false = refl

  in_a_switch : (around : Around) → site_of (inside_switch around) ≡ in_switch (site_of around)
  in_a_switch around = λ i. record { breaks = or_true around.in_loop i; continues = around.in_loop }

  -- the function has a result where what lies around says so
  abbrev Gives : Around → Type 0
  Gives around = limits.gives ≡ has_values (told around.result)

  -- a statement, by its nodes and its tree
  abbrev pub StmtComes : Around → Known → Stmt → TStmt → Known → Type 0
  StmtComes around known s t after = Comes known after (stmt_count s) (stmt_cost t) (stmt_fits limits t (site_of around))

  stmt_by : (around : Around) (known : Known) (s : Stmt) (t : TStmt) (after : Known) (n : ℕ) (c : Cost) (f : Standing) → stmt_count s ≡ n → stmt_cost t ≡ c → stmt_fits limits t ≡ f
      → Comes known after n c (f (site_of around)) → StmtComes around known s t after
  stmt_by around known s t after n c f counts costs fits h =
      subst (λ (k : ℕ). Comes known after k (stmt_cost t) (stmt_fits limits t (site_of around))) (sym counts)
      (subst (λ (x : Cost). Comes known after n x (stmt_fits limits t (site_of around))) (sym costs)
      (subst (λ (g : Standing). Comes known after n c (g (site_of around))) (sym fits) h))

  -- a part of a switch
  abbrev part_cost : TPart → Cost
  part_cost = fold-TPart Cost Cost part_cost_step stmt_cost_step

  abbrev part_fits : TPart → Standing
  part_fits = fold-TPart Standing Standing part_step (stmt_step limits)

  abbrev part_calls : Part → List Called
  part_calls = fold-Part (List Called) (List Called) part_calls_step stmt_calls_step

  abbrev PartComes : Around → Known → Part → TPart → Known → Type 0
  PartComes around known x t after = Comes known after (part_count x) (part_cost t) (part_fits t (site_of around))

  part_by : (around : Around) (known : Known) (x : Part) (t : TPart) (after : Known) (n : ℕ) (c : Cost) (f : Standing) → part_count x ≡ n → part_cost t ≡ c → part_fits t ≡ f
      → Comes known after n c (f (site_of around)) → PartComes around known x t after
  part_by around known x t after n c f counts costs fits h =
      subst (λ (k : ℕ). Comes known after k (part_cost t) (part_fits t (site_of around))) (sym counts)
      (subst (λ (y : Cost). Comes known after n y (part_fits t (site_of around))) (sym costs)
      (subst (λ (g : Standing). Comes known after n c (g (site_of around))) (sym fits) h))

  -- a label
  label : (known after : Known) (n r : ℕ) → length known.variables ≡ length after.variables → known.names ≡ after.names → r ≤ 2 * (1 + n) → Comes known after (1 + n) (and_own of_part (with_registers r free)) true
  label known after n r same names few = record {
    grows = omega (arith, same);
    holds = λ less fit.
        let low : max r 0 ≤ 2 * (1 + n) = max-le {a = r} {b = 0} {k = 2 * (1 + n)} few (omega arith) in
        record { fit = refl; names = subst Names_fit names fit; pays = record { registers = omega (arith, low, same); instructions = omega arith } };
  }

  -- a statement with one part, and 64 instructions of its own
  one : (a b : Known) (m n : ℕ) (x : Cost) (f : Bool) → 1 + m ≤ n → Comes a b m x f → Comes a b n (and_own of_statement x) f
  one a b m n x f more h = own 64 a b m n x f (omega arith) more h

  -- a jump, a return without a value
  alone : (known : Known) (f : Bool) → f ≡ true → Comes known known 1 (and_own of_statement free) f
  alone known f is = subst (Comes known known 1 (and_own of_statement free)) (sym is) (one known known 0 1 free true (omega arith) (nothing known))

  mutual
    pub stmt_comes : (around : Around) (known : Known) (s : Stmt) (t : TStmt) (after : Known) → ElabStmt around known s t after → D (stmt_calls s) → Gives around → StmtComes around known s t after
    stmt_comes _ _ _ _ _ (expression around known p e v x) calls gives =
        let c = split.same (IsDefined defined) (stmt_calls (stmt.Expr p e)) (expr_calls e) (folds.stmt_Expr (List Called) (List Called) part_calls_step stmt_calls_step p e) calls in
        stmt_by around known (stmt.Expr p e) (typed.Expr (spot p) v.tree) (taking known v) (1 + expr_count e) (and_own of_statement (expr_cost v.tree)) (λ site. expr_fits limits v.tree false)
        (folds.stmt_Expr ℕ ℕ count.part_step count.stmt_step p e) (done_Expr Cost Cost part_cost_step stmt_cost_step (spot p) v.tree) (done_Expr Standing Standing part_step (stmt_step limits) (spot p) v.tree)
        (one known (taking known v) (expr_count e) (1 + expr_count e) (expr_cost v.tree) (expr_fits limits v.tree false) (omega arith) (dropped_comes known e v c x))
    stmt_comes _ _ _ _ _ (empty around known p) calls gives =
        stmt_by around known (stmt.Empty p) (typed.Empty (spot p)) known 1 (and_own of_statement free) (λ site. true)
        (folds.stmt_Empty ℕ ℕ count.part_step count.stmt_step p) (done_Empty Cost Cost part_cost_step stmt_cost_step (spot p)) (done_Empty Standing Standing part_step (stmt_step limits) (spot p))
        (alone known true refl)
    stmt_comes _ _ _ _ _ (block around known p parts trees inside xs) calls gives =
        let c = split.same (IsDefined defined) (stmt_calls (stmt.Block p parts)) (all_calls (map stmt_calls parts)) (folds.stmt_Block (List Called) (List Called) part_calls_step stmt_calls_step p parts) calls in
        stmt_by around known (stmt.Block p parts) (typed.Block (spot p) trees) (leaving known inside) (1 + sum (map stmt_count parts)) (and_own of_statement (in_row (map stmt_cost trees)))
        (λ site. all_stand site (map (stmt_fits limits) trees))
        (folds.stmt_Block ℕ ℕ count.part_step count.stmt_step p parts) (done_Block Cost Cost part_cost_step stmt_cost_step (spot p) trees) (done_Block Standing Standing part_step (stmt_step limits) (spot p) trees)
        (one known (leaving known inside) (sum (map stmt_count parts)) (1 + sum (map stmt_count parts)) (in_row (map stmt_cost trees)) (all_stand (site_of around) (map (stmt_fits limits) trees)) (omega arith)
        (scope known inside (sum (map stmt_count parts)) (in_row (map stmt_cost trees)) (all_stand (site_of around) (map (stmt_fits limits) trees)) (stmts_come around (opened known) parts trees inside xs c gives)))
    stmt_comes _ _ _ _ _ (if_alone around known p e s v kind t after x number a) calls gives =
        let c = split.two (IsDefined defined) (stmt_calls (stmt.If p e s None)) (expr_calls e) (stmt_calls s ++ []) (folds.if_alone (List Called) (List Called) part_calls_step stmt_calls_step p e s) calls in
        stmt_by around known (stmt.If p e s None) (typed.If (spot p) v.tree t None) after (1 + expr_count e + stmt_count s + 0) (and_own of_statement (then_ (expr_cost v.tree) (then_ (stmt_cost t) free)))
        (λ site. expr_fits limits v.tree true && (stmt_fits limits t site && true))
        (folds.if_alone ℕ ℕ count.part_step count.stmt_step p e s) (done_alone Cost Cost part_cost_step stmt_cost_step (spot p) v.tree t) (done_alone Standing Standing part_step (stmt_step limits) (spot p) v.tree t)
        (one known after (expr_count e + (stmt_count s + 0)) (1 + expr_count e + stmt_count s + 0) (then_ (expr_cost v.tree) (then_ (stmt_cost t) free))
        (expr_fits limits v.tree true && (stmt_fits limits t (site_of around) && true)) (omega arith)
        (both known (taking known v) after (expr_count e) (stmt_count s + 0) (expr_cost v.tree) (then_ (stmt_cost t) free) (expr_fits limits v.tree true) (stmt_fits limits t (site_of around) && true)
        (used_comes known e v kind c.0 x number)
        (both (taking known v) after after (stmt_count s) 0 (stmt_cost t) free (stmt_fits limits t (site_of around)) true
        (stmt_comes around (taking known v) s t after a (split.front (IsDefined defined) (stmt_calls s) [] c.1) gives) (nothing after))))
    stmt_comes _ _ _ _ _ (if_else around known p e s other v kind t u middle after x number a b) calls gives =
        let c = split.two (IsDefined defined) (stmt_calls (stmt.If p e s (Some other))) (expr_calls e) (stmt_calls s ++ stmt_calls other) (folds.if_else (List Called) (List Called) part_calls_step stmt_calls_step p e s other) calls in
        stmt_by around known (stmt.If p e s (Some other)) (typed.If (spot p) v.tree t (Some u)) after (1 + expr_count e + stmt_count s + stmt_count other)
        (and_own of_statement (then_ (expr_cost v.tree) (then_ (stmt_cost t) (stmt_cost u))))
        (λ site. expr_fits limits v.tree true && (stmt_fits limits t site && stmt_fits limits u site))
        (folds.if_else ℕ ℕ count.part_step count.stmt_step p e s other) (done_else Cost Cost part_cost_step stmt_cost_step (spot p) v.tree t u) (done_else Standing Standing part_step (stmt_step limits) (spot p) v.tree t u)
        (one known after (expr_count e + (stmt_count s + stmt_count other)) (1 + expr_count e + stmt_count s + stmt_count other) (then_ (expr_cost v.tree) (then_ (stmt_cost t) (stmt_cost u)))
        (expr_fits limits v.tree true && (stmt_fits limits t (site_of around) && stmt_fits limits u (site_of around))) (omega arith)
        (both known (taking known v) after (expr_count e) (stmt_count s + stmt_count other) (expr_cost v.tree) (then_ (stmt_cost t) (stmt_cost u)) (expr_fits limits v.tree true)
        (stmt_fits limits t (site_of around) && stmt_fits limits u (site_of around)) (used_comes known e v kind c.0 x number)
        (both (taking known v) middle after (stmt_count s) (stmt_count other) (stmt_cost t) (stmt_cost u) (stmt_fits limits t (site_of around)) (stmt_fits limits u (site_of around))
        (stmt_comes around (taking known v) s t middle a (split.front (IsDefined defined) (stmt_calls s) (stmt_calls other) c.1) gives)
        (stmt_comes around middle other u after b (split.behind (IsDefined defined) (stmt_calls s) (stmt_calls other) c.1) gives))))
    stmt_comes _ _ _ _ _ (while_loop around known p e s v kind t after x number a) calls gives =
        let c = split.two (IsDefined defined) (stmt_calls (stmt.While p e s)) (expr_calls e) (stmt_calls s) (folds.stmt_While (List Called) (List Called) part_calls_step stmt_calls_step p e s) calls in
        stmt_by around known (stmt.While p e s) (typed.While (spot p) 0 v.tree t) after (1 + expr_count e + stmt_count s) (and_own of_statement (then_ (expr_cost v.tree) (stmt_cost t)))
        (λ site. expr_fits limits v.tree true && stmt_fits limits t in_loop)
        (folds.stmt_While ℕ ℕ count.part_step count.stmt_step p e s) (done_While Cost Cost part_cost_step stmt_cost_step (spot p) 0 v.tree t) (done_While Standing Standing part_step (stmt_step limits) (spot p) 0 v.tree t)
        (one known after (expr_count e + stmt_count s) (1 + expr_count e + stmt_count s) (then_ (expr_cost v.tree) (stmt_cost t)) (expr_fits limits v.tree true && stmt_fits limits t in_loop) (omega arith)
        (both known (taking known v) after (expr_count e) (stmt_count s) (expr_cost v.tree) (stmt_cost t) (expr_fits limits v.tree true) (stmt_fits limits t in_loop)
        (used_comes known e v kind c.0 x number) (stmt_comes (inside_loop around) (taking known v) s t after a c.1 gives)))
    stmt_comes _ _ _ _ _ (do_loop around known p s e t middle v kind a x number) calls gives =
        let c = split.two (IsDefined defined) (stmt_calls (stmt.DoWhile p s e)) (stmt_calls s) (expr_calls e) (folds.stmt_DoWhile (List Called) (List Called) part_calls_step stmt_calls_step p s e) calls in
        stmt_by around known (stmt.DoWhile p s e) (typed.DoWhile (spot p) 0 t v.tree) (taking middle v) (1 + stmt_count s + expr_count e) (and_own of_statement (then_ (stmt_cost t) (expr_cost v.tree)))
        (λ site. stmt_fits limits t in_loop && expr_fits limits v.tree true)
        (folds.stmt_DoWhile ℕ ℕ count.part_step count.stmt_step p s e) (done_DoWhile Cost Cost part_cost_step stmt_cost_step (spot p) 0 t v.tree) (done_DoWhile Standing Standing part_step (stmt_step limits) (spot p) 0 t v.tree)
        (one known (taking middle v) (stmt_count s + expr_count e) (1 + stmt_count s + expr_count e) (then_ (stmt_cost t) (expr_cost v.tree)) (stmt_fits limits t in_loop && expr_fits limits v.tree true) (omega arith)
        (both known middle (taking middle v) (stmt_count s) (expr_count e) (stmt_cost t) (expr_cost v.tree) (stmt_fits limits t in_loop) (expr_fits limits v.tree true)
        (stmt_comes (inside_loop around) known s t middle a c.0 gives) (used_comes middle e v kind c.1 x number)))
    stmt_comes _ _ _ _ _ (for_loop around known p start test step s f a b t started tried went inside x y z body) calls gives =
        let c = split.two (IsDefined defined) (stmt_calls (stmt.For p start test step s)) (first_calls start) (option_calls test ++ (option_calls step ++ stmt_calls s))
        (folds.stmt_For (List Called) (List Called) part_calls_step stmt_calls_step p start test step s) calls in
        let d = split.two (IsDefined defined) (option_calls test ++ (option_calls step ++ stmt_calls s)) (option_calls test) (option_calls step ++ stmt_calls s) refl c.1 in
        let n : ℕ = first_count start + (option_count test + (option_count step + stmt_count s)) in
        let cost : Cost = then_ (first_cost f) (then_ (option_cost a) (then_ (option_cost b) (stmt_cost t))) in
        let fits : Bool = first_fits limits f && (option_fits limits true a && (option_fits limits false b && stmt_fits limits t in_loop)) in
        stmt_by around known (stmt.For p start test step s) (typed.For (spot p) 0 f a b t) (leaving known inside) (1 + first_count start + option_count test + option_count step + stmt_count s) (and_own of_statement cost)
        (λ site. first_fits limits f && (option_fits limits true a && (option_fits limits false b && stmt_fits limits t in_loop)))
        (folds.stmt_For ℕ ℕ count.part_step count.stmt_step p start test step s) (done_For Cost Cost part_cost_step stmt_cost_step (spot p) 0 f a b t) (done_For Standing Standing part_step (stmt_step limits) (spot p) 0 f a b t)
        (one known (leaving known inside) n (1 + first_count start + option_count test + option_count step + stmt_count s) cost fits (omega arith)
        (scope known inside n cost fits
        (both (opened known) started inside (first_count start) (option_count test + (option_count step + stmt_count s)) (first_cost f) (then_ (option_cost a) (then_ (option_cost b) (stmt_cost t)))
        (first_fits limits f) (option_fits limits true a && (option_fits limits false b && stmt_fits limits t in_loop)) (first_comes (opened known) start f started x c.0)
        (both started tried inside (option_count test) (option_count step + stmt_count s) (option_cost a) (then_ (option_cost b) (stmt_cost t)) (option_fits limits true a) (option_fits limits false b && stmt_fits limits t in_loop)
        (test_comes started test a tried y d.0)
        (both tried went inside (option_count step) (stmt_count s) (option_cost b) (stmt_cost t) (option_fits limits false b) (stmt_fits limits t in_loop)
        (step_comes tried step b went z (split.front (IsDefined defined) (option_calls step) (stmt_calls s) d.1))
        (stmt_comes (inside_loop around) went s t inside body (split.behind (IsDefined defined) (option_calls step) (stmt_calls s) d.1) gives))))))
    stmt_comes _ _ _ _ _ (switch_on around known p e parts v kind trees after x number xs) calls gives =
        let c = split.two (IsDefined defined) (stmt_calls (stmt.Switch p e parts)) (expr_calls e) (all_calls (map part_calls parts)) (folds.stmt_Switch (List Called) (List Called) part_calls_step stmt_calls_step p e parts) calls in
        let on : TExpr = in_kind kind (promoted kind) v.tree in
        stmt_by around known (stmt.Switch p e parts) (typed.Switch (spot p) (promoted kind) on trees) after (1 + expr_count e + sum (map part_count parts))
        (and_own of_statement (then_ (above free (expr_cost on)) (in_row (map part_cost trees)))) (λ site. expr_fits limits on true && all_stand (in_switch site) (map part_fits trees))
        (folds.stmt_Switch ℕ ℕ count.part_step count.stmt_step p e parts) (done_Switch Cost Cost part_cost_step stmt_cost_step (spot p) (promoted kind) on trees)
        (done_Switch Standing Standing part_step (stmt_step limits) (spot p) (promoted kind) on trees)
        (switched known (taking known v) after (expr_count e) (sum (map part_count parts)) (1 + expr_count e + sum (map part_count parts)) (expr_cost on) (in_row (map part_cost trees))
        (expr_fits limits on true) (all_stand (in_switch (site_of around)) (map part_fits trees)) (omega arith)
        (ready_comes known v (expr_count e) on
        (λ fit. in_its_kind limits (expr_count e) kind (promoted kind) v (number_has_values v.of kind number) (expr_good limits defined known.names e v fit c.0 x)))
        (subst (λ (site : Site). Comes (taking known v) after (sum (map part_count parts)) (in_row (map part_cost trees)) (all_stand site (map part_fits trees))) (in_a_switch around)
        (parts_come (inside_switch around) (promoted kind) no_labels (taking known v) parts trees after xs c.1 gives)))
    stmt_comes _ _ _ _ _ (break_within around known p in_one) calls gives =
        stmt_by around known (stmt.Break p) (typed.Break (spot p)) known 1 (and_own of_statement free) (λ site. site.breaks)
        (folds.stmt_Break ℕ ℕ count.part_step count.stmt_step p) (done_Break Cost Cost part_cost_step stmt_cost_step (spot p)) (done_Break Standing Standing part_step (stmt_step limits) (spot p))
        (alone known (breaks around) in_one)
    stmt_comes _ _ _ _ _ (continue_within around known p in_one) calls gives =
        stmt_by around known (stmt.Continue p) (typed.Continue (spot p)) known 1 (and_own of_statement free) (λ site. site.continues)
        (folds.stmt_Continue ℕ ℕ count.part_step count.stmt_step p) (done_Continue Cost Cost part_cost_step stmt_cost_step (spot p)) (done_Continue Standing Standing part_step (stmt_step limits) (spot p))
        (alone known around.in_loop in_one)
    stmt_comes _ _ _ _ _ (return_none around known p none) calls gives =
        stmt_by around known (stmt.Return p None) (typed.Return (spot p) None) known (1 + 0) (and_own of_statement free) (λ site. return_fits limits None)
        (folds.stmt_Return ℕ ℕ count.part_step count.stmt_step p None) (done_Return Cost Cost part_cost_step stmt_cost_step (spot p) None) (done_Return Standing Standing part_step (stmt_step limits) (spot p) None)
        (alone known (return_fits limits None) (ap not (gives ∙ ap (λ (c : CType). has_values (told c)) none)))
    stmt_comes _ _ _ _ _ (return_value around known p e v tree x gave) calls gives =
        let c = split.same (IsDefined defined) (stmt_calls (stmt.Return p (Some e))) (expr_calls e) (folds.stmt_Return (List Called) (List Called) part_calls_step stmt_calls_step p (Some e)) calls in
        stmt_by around known (stmt.Return p (Some e)) (typed.Return (spot p) (Some tree)) (taking known v) (1 + expr_count e) (and_own of_statement (expr_cost tree)) (λ site. return_fits limits (Some tree))
        (folds.stmt_Return ℕ ℕ count.part_step count.stmt_step p (Some e)) (done_Return Cost Cost part_cost_step stmt_cost_step (spot p) (Some tree)) (done_Return Standing Standing part_step (stmt_step limits) (spot p) (Some tree))
        (one known (taking known v) (expr_count e) (1 + expr_count e) (expr_cost tree) (return_fits limits (Some tree)) (omega arith)
        (subst (λ (b : Bool). Comes known (taking known v) (expr_count e) (expr_cost tree) (b && expr_fits limits tree true)) (sym (gives ∙ passed_to limits around.result v tree gave))
        (ready_comes known v (expr_count e) tree (λ fit. subst (IfReady limits (expr_count e)) gave (is_passed limits (expr_count e) around.result v (expr_good limits defined known.names e v fit c x))))))
    stmt_comes _ _ _ _ _ (declaration around known p specs list trees after x) calls gives =
        let c = split.same (IsDefined defined) (stmt_calls (stmt.Declare p specs list)) (declarators_calls list) (folds.stmt_Declare (List Called) (List Called) part_calls_step stmt_calls_step p specs list) calls in
        stmt_by around known (stmt.Declare p specs list) (typed.Declare (spot p) trees) after (1 + declarators_count list) (and_own of_statement (declared_cost trees)) (λ site. declared_fit limits trees)
        (folds.stmt_Declare ℕ ℕ count.part_step count.stmt_step p specs list) (done_Declare Cost Cost part_cost_step stmt_cost_step (spot p) trees) (done_Declare Standing Standing part_step (stmt_step limits) (spot p) trees)
        (one known after (declarators_count list) (1 + declarators_count list) (declared_cost trees) (declared_fit limits trees) (omega arith) (declared_comes (saying false specs) known list trees after x c))

    pub stmts_come : (around : Around) (known : Known) (ss : List Stmt) (ts : List TStmt) (after : Known) → ElabStmts around known ss ts after → D (all_calls (map stmt_calls ss)) → Gives around
        → Comes known after (sum (map stmt_count ss)) (in_row (map stmt_cost ts)) (all_stand (site_of around) (map (stmt_fits limits) ts))
    stmts_come _ _ _ _ _ (no_stmts around known) calls gives = nothing known
    stmts_come _ _ _ _ _ (more_stmts around known s ss t ts middle after x xs) calls gives =
        let c = split.two (IsDefined defined) (stmt_calls s ++ all_calls (map stmt_calls ss)) (stmt_calls s) (all_calls (map stmt_calls ss)) refl calls in
        let total : sum (stmt_count s ∷ map stmt_count ss) ≡ stmt_count s + sum (map stmt_count ss) = sum_cons (stmt_count s) (map stmt_count ss) in
        wider known after (stmt_count s + sum (map stmt_count ss)) (sum (stmt_count s ∷ map stmt_count ss)) (then_ (stmt_cost t) (in_row (map stmt_cost ts)))
        (stmt_fits limits t (site_of around) && all_stand (site_of around) (map (stmt_fits limits) ts)) (omega (arith, total))
        (both known middle after (stmt_count s) (sum (map stmt_count ss)) (stmt_cost t) (in_row (map stmt_cost ts)) (stmt_fits limits t (site_of around)) (all_stand (site_of around) (map (stmt_fits limits) ts))
        (stmt_comes around known s t middle x c.0 gives) (stmts_come around middle ss ts after xs c.1 gives))

    part_comes : (around : Around) (kind : Kind) (labels : Labels) (known : Known) (x : Part) (t : TPart) (labelled : Labels) (after : Known)
        → ElabPart around kind labels known x t labelled after → D (part_calls x) → Gives around → PartComes around known x t after
    part_comes _ _ _ _ _ _ _ _ (case_label around kind labels known p e v z x constant new) calls gives =
        part_by around known (part.Case p e) (typed_part.Case p (converted kind z)) (taking known v) (1 + expr_count e) (and_own of_part (with_registers 2 free)) (λ site. true)
        (folds.part_Case ℕ ℕ count.part_step count.stmt_step p e) (part_Case Cost Cost part_cost_step stmt_cost_step p (converted kind z)) (part_Case Standing Standing part_step (stmt_step limits) p (converted kind z))
        (label known (taking known v) (expr_count e) 2 refl refl (omega arith))
    part_comes _ _ _ _ _ _ _ _ (default_label around kind labels known p new) calls gives =
        part_by around known (part.Default p) (typed_part.Default p) known (1 + 0) (and_own of_part free) (λ site. true)
        (folds.part_Default ℕ ℕ count.part_step count.stmt_step p) (part_Default Cost Cost part_cost_step stmt_cost_step p) (part_Default Standing Standing part_step (stmt_step limits) p)
        (label known known 0 0 refl refl (omega arith))
    part_comes _ _ _ _ _ _ _ _ (does around kind labels known p s t after x) calls gives =
        let c = split.same (IsDefined defined) (part_calls (part.Does p s)) (stmt_calls s) (folds.part_Does (List Called) (List Called) part_calls_step stmt_calls_step p s) calls in
        part_by around known (part.Does p s) (typed_part.Does p t) after (1 + stmt_count s) (stmt_cost t) (stmt_fits limits t)
        (folds.part_Does ℕ ℕ count.part_step count.stmt_step p s) (part_Does Cost Cost part_cost_step stmt_cost_step p t) (part_Does Standing Standing part_step (stmt_step limits) p t)
        (wider known after (stmt_count s) (1 + stmt_count s) (stmt_cost t) (stmt_fits limits t (site_of around)) (omega arith) (stmt_comes around known s t after x c gives))

    parts_come : (around : Around) (kind : Kind) (labels : Labels) (known : Known) (xs : List Part) (ts : List TPart) (after : Known)
        → ElabParts around kind labels known xs ts after → D (all_calls (map part_calls xs)) → Gives around
        → Comes known after (sum (map part_count xs)) (in_row (map part_cost ts)) (all_stand (site_of around) (map part_fits ts))
    parts_come _ _ _ _ _ _ _ (no_parts around kind labels known) calls gives = nothing known
    parts_come _ _ _ _ _ _ _ (more_parts around kind labels known x xs t ts labelled middle after a b) calls gives =
        let c = split.two (IsDefined defined) (part_calls x ++ all_calls (map part_calls xs)) (part_calls x) (all_calls (map part_calls xs)) refl calls in
        let total : sum (part_count x ∷ map part_count xs) ≡ part_count x + sum (map part_count xs) = sum_cons (part_count x) (map part_count xs) in
        wider known after (part_count x + sum (map part_count xs)) (sum (part_count x ∷ map part_count xs)) (then_ (part_cost t) (in_row (map part_cost ts)))
        (part_fits t (site_of around) && all_stand (site_of around) (map part_fits ts)) (omega (arith, total))
        (both known middle after (part_count x) (sum (map part_count xs)) (part_cost t) (in_row (map part_cost ts)) (part_fits t (site_of around)) (all_stand (site_of around) (map part_fits ts))
        (part_comes around kind labels known x t labelled middle a c.0 gives) (parts_come around kind labelled middle xs ts after b c.1 gives))
