-- The typed tree of a statement passes where its strings do, and where its calls are of functions that are defined.
use Rattle.std.proofs.Common.{◌≡◌, ℕ, Bool, true, false, ◌&&◌, List, [], ◌++◌, map, length, Option, Some, None, refl, sym, ◌∙◌, subst}
use Rattle.std.proofs.lemmas.Bool.{and_from, and_parts}
use Rattle.k_num.specs.declared.numbers.Kind.{Kind}
use Rattle.k_num.specs.Kind.{converted, promoted}
use Rattle.k_tree.specs.declared.tokens.mark.Mark.TheVariants as mark
use Rattle.k_tree.specs.declared.tokens.TokenKind.{TokenKind}
use Rattle.k_tree.specs.declared.tokens.word.Word.{Word}
use Rattle.k_tree.specs.declared.tokens.word.Word.TheVariants.{While}
use Rattle.k_tree.specs.declared.tree.declaration.Declarator.{Declarator}
use Rattle.k_tree.specs.declared.tree.expression.Expr.{Expr}
use Rattle.k_tree.specs.declared.tree.statement.First.{First}
use Rattle.k_tree.specs.declared.tree.statement.Part.{Part, fold-Part}
use Rattle.k_tree.specs.declared.tree.statement.Part.TheVariants as part
use Rattle.k_tree.specs.declared.tree.statement.Stmt.{Stmt}
use Rattle.k_tree.specs.declared.tree.statement.Stmt.TheVariants as stmt
use Rattle.k_tree.specs.Spelling.{Spelled, in_braces, in_parens, in_row, spell_declarator, spell_declaration, spell_dims, spell_else, spell_expr, spell_first, spell_initialised, spell_option, spell_part_step, spell_specs, spell_stars, spell_stmt, spell_stmt_step, spell_part, the_mark, the_name, the_word, with_commas}
use Rattle.k_tree.proofs.Folds as folds
use Rattle.k_types_meaning.specs.declared.names.Meaning.TheVariants as meaning
use Rattle.k_types_meaning.specs.declared.tree.declaration.TDeclarator.{TDeclarator}
use Rattle.k_types_meaning.specs.declared.tree.expression.TExpr.{TExpr}
use Rattle.k_types_meaning.specs.declared.tree.statement.TFirst.{TFirst}
use Rattle.k_types_meaning.specs.declared.tree.statement.TPart.{TPart, fold-TPart}
use Rattle.k_types_meaning.specs.declared.tree.statement.TStmt.{TStmt}
use Rattle.k_types_meaning.specs.Called.{Called, all_calls, dims_calls, start_calls, declarator_calls, declarators_calls, first_calls, option_calls, expr_calls, stmt_calls, stmt_calls_step, part_calls_step}
use Rattle.k_types_meaning.specs.Conversions.{Typed, in_kind}
use Rattle.k_types_meaning.specs.Declarations.{Object, Saying, saying, object_fixed}
use Rattle.k_types_meaning.specs.ElaboratedDeclarators.{ElabObject, ElabDeclared, object, none_declared, more_declared, with_variable, names_within}
use Rattle.k_types_meaning.specs.ElaboratedStatements.{ElabStmt, ElabStmts, ElabPart, ElabParts, ElabFirst, ElabTest, ElabStep, nothing_first, value_first, declared_first, no_test, tested, no_step, stepped, expression, empty, block, if_alone, if_else, while_loop, do_loop, for_loop, switch_on, break_within, continue_within, return_none, return_value, declaration, no_stmts, more_stmts, case_label, default_label, does, no_parts, more_parts, taking, leaving}
use Rattle.k_types_meaning.specs.ElaboratedUnits.{IsDefined}
use Rattle.k_types_meaning.specs.Elaborated.{Elab}
use Rattle.k_types_meaning.specs.Initialisers.{Beginning}
use Rattle.k_types_meaning.specs.Names.{Names}
use Rattle.k_types_meaning.specs.Statements.{Around, Known, Labels, spot, opened, inside_loop, inside_switch, no_labels}
use Rattle.k_types_meaning.proofs.Fine.{AllOf, IfFine, IfThere}
use Rattle.k_types_meaning.proofs.Folds.{done_Expr, done_Empty, done_Block, done_alone, done_else, done_While, done_DoWhile, done_For, done_Switch, done_Break, done_Continue, done_Return, done_Declare, part_Case, part_Default, part_Does}
use Rattle.k_lower_fits.proofs.Named.{entered_each}
use Rattle.k_lower_fits.proofs.Split.{behind, front, same, two}
use Rattle.k_lower_texts.specs.Laws.{FormatsFollow, NumbersFollow, TokenPasses}
use Rattle.k_lower_texts.specs.Passing.{Asks, all_pass, expr_passes, option_passes, init_passes, declared_pass, first_passes, part_step, stmt_passes, stmt_step}
use Rattle.k_lower_texts.proofs.Calling.{NameAsks}
use Rattle.k_lower_texts.proofs.Conversions.{Passes, in_its_kind, is_passed}
use Rattle.k_lower_texts.proofs.Expressions.{NamesAsk, expr_good}
use Rattle.k_lower_texts.proofs.Initialisers.{begun_passes}
use Rattle.k_lower_texts.proofs.Split.{Each, commas_each, row_each}
use Rattle.k_lower_texts.proofs.Filled.{filled, filled_first, filled_list, filled_part, filled_start, filled_stmt, part_filled, start_gives}
use Rattle.k_lower_texts.proofs.Small.{SmallType, declared_small}

module _ (asks : Asks) (follow : FormatsFollow asks) (numbers : NumbersFollow asks) (defined : List (List ℕ)) where
  abbrev Ask : Names → Type 0
  Ask names = NamesAsk asks follow numbers defined names

  abbrev D : List Called → Type 0
  D calls = AllOf (IsDefined defined) calls

  abbrev P : TokenKind → Type 0
  P = TokenPasses asks

  abbrev T : Spelled → Type 0
  T tokens = AllOf (TokenPasses asks) tokens

  -- A PART that goes from what is known before to what is known behind passes
  abbrev pub Comes : Known → Known → Bool → Type 0
  Comes known after b = Ask known.names → (b ≡ true) × Ask after.names

  both : (a b c : Known) (f g : Bool) → Comes a b f → Comes b c g → Comes a c (f && g)
  both a b c f g h k fit =
      let first = h fit in
      let second = k first.1 in
      (and_from f g first.0 second.0, second.1)

  by_tree : (known after : Known) (f g : Bool) → f ≡ g → Comes known after g → Comes known after f
  by_tree known after f g is h fit = let k = h fit in (is ∙ k.0, k.1)

  nothing : (known after : Known) → known.names ≡ after.names → Comes known after true
  nothing known after names fit = (refl, subst Ask names fit)

  -- tokens in parentheses before others
  in_parens_two : (piece rest : Spelled) → T (in_parens piece ++ rest) → T piece × T rest
  in_parens_two piece rest h =
      (front P piece (the_mark mark.RightParen) (front P (piece ++ the_mark mark.RightParen) rest h.1), behind P (piece ++ the_mark mark.RightParen) rest h.1)

  -- AN EXPRESSION
  good : (known : Known) (e : Expr) (v : Typed) → D (expr_calls e) → T (spell_expr e) → Elab known.names e v → Comes known (taking known v) (expr_passes asks v.tree)
  good known e v calls texts x fit = ((expr_good asks follow numbers defined known.names e v fit calls texts x).0, fit)

  -- what is made of one
  made_of : (known : Known) (v : Typed) (tree : TExpr) → Comes known (taking known v) (expr_passes asks v.tree) → (Passes asks v.tree → Passes asks tree) → Comes known (taking known v) (expr_passes asks tree)
  made_of known v tree h each fit = let k = h fit in (each k.0, k.1)

  -- DECLARATORS
  pub object_passes : (file : Bool) (s : Saying) (n : ℕ) (names : Names) (d : Declarator) (o : Object) → ElabObject file s n names d o → Ask (names_within file s n names d o.of)
      → D (start_calls d.init) → T (spell_initialised d.init) → init_passes asks o.init ≡ true
  object_passes _ _ _ _ _ _ (object file s n names d sizes of start init twice dims has declared gave is) fit calls texts =
      subst (IfThere (λ i. init_passes asks i ≡ true)) is
      (subst (IfFine (λ (b : Beginning). IfThere (λ i. init_passes asks i ≡ true) b.init)) gave
      (begun_passes asks follow numbers defined (names_within file s n names d of) fit file of d.init calls texts))

  pub declarator_text : (d : Declarator) → T (spell_declarator d) → T (spell_initialised d.init)
  declarator_text d texts =
      behind P (spell_dims d.dims) (spell_initialised d.init) (behind P (spell_stars d.stars) (the_name d.name ++ (spell_dims d.dims ++ spell_initialised d.init)) texts).1

  declarator_comes : (s : Saying) (known : Known) (d : Declarator) (o : Object) → ElabObject false s (length known.variables) known.names d o → D (declarator_calls d) → T (spell_declarator d)
      → filled_start d.init ≡ true → Comes known (with_variable known o) (init_passes asks o.init)
  declarator_comes s known d o x calls texts full fit = let small : SmallType o.of = declared_small false s (length known.variables) known.names d o (start_gives d.init full) x in (
    object_passes false s (length known.variables) known.names d o x
        (entered_each (NameAsks asks defined) d.name (meaning.Variable (length known.variables) o.of (object_fixed s.fixed d.stars)) known.names small fit)
        (behind (IsDefined defined) (dims_calls d.dims) (start_calls d.init) calls) (declarator_text d texts),
    entered_each (NameAsks asks defined) o.name (meaning.Variable (length known.variables) o.of o.fixed) known.names small fit,
  )

  declared_comes : (s : Saying) (known : Known) (ds : List Declarator) (ts : List TDeclarator) (after : Known) → ElabDeclared s known ds ts after → D (declarators_calls ds) → Each P (map spell_declarator ds)
      → filled_list ds ≡ true → Comes known after (declared_pass asks ts)
  declared_comes _ _ _ _ _ (none_declared s known) calls texts full = nothing known known refl
  declared_comes _ _ _ _ _ (more_declared s known d ds o ts after x rest) calls texts full =
      let f = and_parts (filled_start d.init) (filled_list ds) full in
      let c = two (IsDefined defined) (declarator_calls d ++ declarators_calls ds) (declarator_calls d) (declarators_calls ds) refl calls in
      both known (with_variable known o) after (init_passes asks o.init) (declared_pass asks ts) (declarator_comes s known d o x c.0 texts.0 f.0) (declared_comes s (with_variable known o) ds ts after rest c.1 texts.1 f.1)

  pub declaration_text : (specs : List Word) (list : List Declarator) → T (spell_declaration specs list) → Each P (map spell_declarator list)
  declaration_text specs list texts =
      commas_each P (map spell_declarator list)
      (front P (with_commas (map spell_declarator list)) (the_mark mark.Semicolon)
      (behind P (spell_specs specs) (with_commas (map spell_declarator list) ++ the_mark mark.Semicolon) texts))

  -- THE PARTS of a `for`
  first_comes : (known : Known) (f : First) (t : TFirst) (after : Known) → ElabFirst known f t after → D (first_calls f) → T (spell_first f) → filled_first f ≡ true → Comes known after (first_passes asks t)
  first_comes _ _ _ _ (nothing_first known) calls texts full = nothing known known refl
  first_comes _ _ _ _ (value_first known e v x) calls texts full = good known e v calls (front P (spell_expr e) (the_mark mark.Semicolon) texts) x
  first_comes _ _ _ _ (declared_first known specs list ts after x) calls texts full = declared_comes (saying false specs) known list ts after x calls (declaration_text specs list texts) full

  test_comes : (known : Known) (e : Option Expr) (t : Option TExpr) (after : Known) → ElabTest known e t after → D (option_calls e) → T (spell_option e) → Comes known after (option_passes asks t)
  test_comes _ _ _ _ (no_test known) calls texts = nothing known known refl
  test_comes _ _ _ _ (tested known e v kind x number) calls texts = good known e v calls texts x

  step_comes : (known : Known) (e : Option Expr) (t : Option TExpr) (after : Known) → ElabStep known e t after → D (option_calls e) → T (spell_option e) → Comes known after (option_passes asks t)
  step_comes _ _ _ _ (no_step known) calls texts = nothing known known refl
  step_comes _ _ _ _ (stepped known e v x) calls texts = good known e v calls texts x

  abbrev part_passes : TPart → Bool
  part_passes = fold-TPart Bool Bool part_step (stmt_step asks)

  abbrev part_calls : Part → List Called
  part_calls = fold-Part (List Called) (List Called) part_calls_step stmt_calls_step

  mutual
    pub stmt_comes : (around : Around) (known : Known) (s : Stmt) (t : TStmt) (after : Known) → ElabStmt around known s t after → D (stmt_calls s) → T (spell_stmt s) → filled s ≡ true → Comes known after (stmt_passes asks t)
    stmt_comes _ _ _ _ _ (expression around known p e v x) calls texts full =
        by_tree known (taking known v) _ (expr_passes asks v.tree) (done_Expr Bool Bool part_step (stmt_step asks) (spot p) v.tree)
        (good known e v (same (IsDefined defined) (stmt_calls (stmt.Expr p e)) (expr_calls e) (folds.stmt_Expr (List Called) (List Called) part_calls_step stmt_calls_step p e) calls)
        (front P (spell_expr e) (the_mark mark.Semicolon) (subst T (folds.stmt_Expr Spelled Spelled spell_part_step spell_stmt_step p e) texts)) x)
    stmt_comes _ _ _ _ _ (empty around known p) calls texts full = by_tree known known _ true (done_Empty Bool Bool part_step (stmt_step asks) (spot p)) (nothing known known refl)
    stmt_comes _ _ _ _ _ (block around known p parts trees inside xs) calls texts full =
        let c = same (IsDefined defined) (stmt_calls (stmt.Block p parts)) (all_calls (map stmt_calls parts)) (folds.stmt_Block (List Called) (List Called) part_calls_step stmt_calls_step p parts) calls in
        let t = subst T (folds.stmt_Block Spelled Spelled spell_part_step spell_stmt_step p parts) texts in
        by_tree known (leaving known inside) _ (all_pass (map (stmt_passes asks) trees)) (done_Block Bool Bool part_step (stmt_step asks) (spot p) trees)
        (λ fit. ((stmts_come around (opened known) parts trees inside xs c (row_each P (map spell_stmt parts) (front P (in_row (map spell_stmt parts)) (the_mark mark.RightBrace) t.1)) (sym (folds.stmt_Block Bool Bool filled_part filled_stmt p parts) ∙ full) (tt, fit)).0, fit))
    stmt_comes _ _ _ _ _ (if_alone around known p e s v kind t after x number a) calls texts full =
        let c = two (IsDefined defined) (stmt_calls (stmt.If p e s None)) (expr_calls e) (stmt_calls s ++ []) (folds.if_alone (List Called) (List Called) part_calls_step stmt_calls_step p e s) calls in
        let u = in_parens_two (spell_expr e) (spell_stmt s ++ []) (subst T (folds.if_alone Spelled Spelled spell_part_step spell_stmt_step p e s) texts).1 in
        by_tree known after _ (expr_passes asks v.tree && (stmt_passes asks t && true)) (done_alone Bool Bool part_step (stmt_step asks) (spot p) v.tree t)
        (both known (taking known v) after (expr_passes asks v.tree) (stmt_passes asks t && true) (good known e v c.0 u.0 x)
        (both (taking known v) after after (stmt_passes asks t) true
        (stmt_comes around (taking known v) s t after a (front (IsDefined defined) (stmt_calls s) [] c.1) (front P (spell_stmt s) [] u.1)
        (and_parts (filled s) true (sym (folds.if_alone Bool Bool filled_part filled_stmt p e s) ∙ full)).0) (nothing after after refl)))
    stmt_comes _ _ _ _ _ (if_else around known p e s other v kind t w middle after x number a b) calls texts full =
        let c = two (IsDefined defined) (stmt_calls (stmt.If p e s (Some other))) (expr_calls e) (stmt_calls s ++ stmt_calls other) (folds.if_else (List Called) (List Called) part_calls_step stmt_calls_step p e s other) calls in
        let u = in_parens_two (spell_expr e) (spell_stmt s ++ spell_else (Some (spell_stmt other))) (subst T (folds.if_else Spelled Spelled spell_part_step spell_stmt_step p e s other) texts).1 in
        by_tree known after _ (expr_passes asks v.tree && (stmt_passes asks t && stmt_passes asks w)) (done_else Bool Bool part_step (stmt_step asks) (spot p) v.tree t w)
        (both known (taking known v) after (expr_passes asks v.tree) (stmt_passes asks t && stmt_passes asks w) (good known e v c.0 u.0 x)
        (both (taking known v) middle after (stmt_passes asks t) (stmt_passes asks w)
        (stmt_comes around (taking known v) s t middle a (front (IsDefined defined) (stmt_calls s) (stmt_calls other) c.1) (front P (spell_stmt s) (spell_else (Some (spell_stmt other))) u.1)
        (and_parts (filled s) (filled other) (sym (folds.if_else Bool Bool filled_part filled_stmt p e s other) ∙ full)).0)
        (stmt_comes around middle other w after b (behind (IsDefined defined) (stmt_calls s) (stmt_calls other) c.1) (behind P (spell_stmt s) (spell_else (Some (spell_stmt other))) u.1).1
        (and_parts (filled s) (filled other) (sym (folds.if_else Bool Bool filled_part filled_stmt p e s other) ∙ full)).1)))
    stmt_comes _ _ _ _ _ (while_loop around known p e s v kind t after x number a) calls texts full =
        let c = two (IsDefined defined) (stmt_calls (stmt.While p e s)) (expr_calls e) (stmt_calls s) (folds.stmt_While (List Called) (List Called) part_calls_step stmt_calls_step p e s) calls in
        let u = in_parens_two (spell_expr e) (spell_stmt s) (subst T (folds.stmt_While Spelled Spelled spell_part_step spell_stmt_step p e s) texts).1 in
        by_tree known after _ (expr_passes asks v.tree && stmt_passes asks t) (done_While Bool Bool part_step (stmt_step asks) (spot p) 0 v.tree t)
        (both known (taking known v) after (expr_passes asks v.tree) (stmt_passes asks t) (good known e v c.0 u.0 x) (stmt_comes (inside_loop around) (taking known v) s t after a c.1 u.1 (sym (folds.stmt_While Bool Bool filled_part filled_stmt p e s) ∙ full)))
    stmt_comes _ _ _ _ _ (do_loop around known p s e t middle v kind a x number) calls texts full =
        let c = two (IsDefined defined) (stmt_calls (stmt.DoWhile p s e)) (stmt_calls s) (expr_calls e) (folds.stmt_DoWhile (List Called) (List Called) part_calls_step stmt_calls_step p s e) calls in
        let u = (subst T (folds.stmt_DoWhile Spelled Spelled spell_part_step spell_stmt_step p s e) texts).1 in
        let last = behind P (spell_stmt s) (the_word While ++ (in_parens (spell_expr e) ++ the_mark mark.Semicolon)) u in
        by_tree known (taking middle v) _ (stmt_passes asks t && expr_passes asks v.tree) (done_DoWhile Bool Bool part_step (stmt_step asks) (spot p) 0 t v.tree)
        (both known middle (taking middle v) (stmt_passes asks t) (expr_passes asks v.tree)
        (stmt_comes (inside_loop around) known s t middle a c.0 (front P (spell_stmt s) (the_word While ++ (in_parens (spell_expr e) ++ the_mark mark.Semicolon)) u)
        (sym (folds.stmt_DoWhile Bool Bool filled_part filled_stmt p s e) ∙ full))
        (good middle e v c.1 (in_parens_two (spell_expr e) (the_mark mark.Semicolon) last.1).0 x))
    stmt_comes _ _ _ _ _ (for_loop around known p start test step s f a b t started tried went inside x y z body) calls texts full =
        let c = two (IsDefined defined) (stmt_calls (stmt.For p start test step s)) (first_calls start) (option_calls test ++ (option_calls step ++ stmt_calls s))
        (folds.stmt_For (List Called) (List Called) part_calls_step stmt_calls_step p start test step s) calls in
        let d = two (IsDefined defined) (option_calls test ++ (option_calls step ++ stmt_calls s)) (option_calls test) (option_calls step ++ stmt_calls s) refl c.1 in
        let u = in_parens_two (spell_first start ++ (spell_option test ++ (the_mark mark.Semicolon ++ spell_option step))) (spell_stmt s)
        (subst T (folds.stmt_For Spelled Spelled spell_part_step spell_stmt_step p start test step s) texts).1 in
        let second = behind P (spell_first start) (spell_option test ++ (the_mark mark.Semicolon ++ spell_option step)) u.0 in
        let f2 = and_parts (filled_first start) (filled s) (sym (folds.stmt_For Bool Bool filled_part filled_stmt p start test step s) ∙ full) in
        let third = behind P (spell_option test) (the_mark mark.Semicolon ++ spell_option step) second in
        by_tree known (leaving known inside) _ (first_passes asks f && (option_passes asks a && (option_passes asks b && stmt_passes asks t))) (done_For Bool Bool part_step (stmt_step asks) (spot p) 0 f a b t)
        (λ fit. (
          (both (opened known) started inside (first_passes asks f) (option_passes asks a && (option_passes asks b && stmt_passes asks t))
              (first_comes (opened known) start f started x c.0 (front P (spell_first start) (spell_option test ++ (the_mark mark.Semicolon ++ spell_option step)) u.0) f2.0)
              (both started tried inside (option_passes asks a) (option_passes asks b && stmt_passes asks t)
              (test_comes started test a tried y d.0 (front P (spell_option test) (the_mark mark.Semicolon ++ spell_option step) second))
              (both tried went inside (option_passes asks b) (stmt_passes asks t)
              (step_comes tried step b went z (front (IsDefined defined) (option_calls step) (stmt_calls s) d.1) third.1)
              (stmt_comes (inside_loop around) went s t inside body (behind (IsDefined defined) (option_calls step) (stmt_calls s) d.1) u.1 f2.1))) (tt, fit)).0,
          fit,
        ))
    stmt_comes _ _ _ _ _ (switch_on around known p e parts v kind trees after x number xs) calls texts full =
        let c = two (IsDefined defined) (stmt_calls (stmt.Switch p e parts)) (expr_calls e) (all_calls (map part_calls parts)) (folds.stmt_Switch (List Called) (List Called) part_calls_step stmt_calls_step p e parts) calls in
        let u = in_parens_two (spell_expr e) (in_braces (in_row (map spell_part parts))) (subst T (folds.stmt_Switch Spelled Spelled spell_part_step spell_stmt_step p e parts) texts).1 in
        let on : TExpr = in_kind kind (promoted kind) v.tree in
        by_tree known after _ (expr_passes asks on && all_pass (map part_passes trees)) (done_Switch Bool Bool part_step (stmt_step asks) (spot p) (promoted kind) on trees)
        (both known (taking known v) after (expr_passes asks on) (all_pass (map part_passes trees))
        (made_of known v on (good known e v c.0 u.0 x) (λ h. in_its_kind asks numbers kind (promoted kind) v.tree h))
        (parts_come (inside_switch around) (promoted kind) no_labels (taking known v) parts trees after xs c.1 (row_each P (map spell_part parts) (front P (in_row (map spell_part parts)) (the_mark mark.RightBrace) u.1.1))
        (sym (folds.stmt_Switch Bool Bool filled_part filled_stmt p e parts) ∙ full)))
    stmt_comes _ _ _ _ _ (break_within around known p in_one) calls texts full = by_tree known known _ true (done_Break Bool Bool part_step (stmt_step asks) (spot p)) (nothing known known refl)
    stmt_comes _ _ _ _ _ (continue_within around known p in_one) calls texts full = by_tree known known _ true (done_Continue Bool Bool part_step (stmt_step asks) (spot p)) (nothing known known refl)
    stmt_comes _ _ _ _ _ (return_none around known p none) calls texts full = by_tree known known _ true (done_Return Bool Bool part_step (stmt_step asks) (spot p) None) (nothing known known refl)
    stmt_comes _ _ _ _ _ (return_value around known p e v tree x gave) calls texts full =
        let c = same (IsDefined defined) (stmt_calls (stmt.Return p (Some e))) (expr_calls e) (folds.stmt_Return (List Called) (List Called) part_calls_step stmt_calls_step p (Some e)) calls in
        let u = front P (spell_expr e) (the_mark mark.Semicolon) (subst T (folds.stmt_Return Spelled Spelled spell_part_step spell_stmt_step p (Some e)) texts).1 in
        by_tree known (taking known v) _ (expr_passes asks tree) (done_Return Bool Bool part_step (stmt_step asks) (spot p) (Some tree))
        (made_of known v tree (good known e v c u x) (λ h. subst (IfThere (Passes asks)) gave (is_passed asks numbers around.result v h)))
    stmt_comes _ _ _ _ _ (declaration around known p specs list trees after x) calls texts full =
        let c = same (IsDefined defined) (stmt_calls (stmt.Declare p specs list)) (declarators_calls list) (folds.stmt_Declare (List Called) (List Called) part_calls_step stmt_calls_step p specs list) calls in
        by_tree known after _ (declared_pass asks trees) (done_Declare Bool Bool part_step (stmt_step asks) (spot p) trees)
        (declared_comes (saying false specs) known list trees after x c (declaration_text specs list (subst T (folds.stmt_Declare Spelled Spelled spell_part_step spell_stmt_step p specs list) texts))
        (sym (folds.stmt_Declare Bool Bool filled_part filled_stmt p specs list) ∙ full))

    pub stmts_come : (around : Around) (known : Known) (ss : List Stmt) (ts : List TStmt) (after : Known) → ElabStmts around known ss ts after → D (all_calls (map stmt_calls ss)) → Each P (map spell_stmt ss)
        → all_pass (map filled ss) ≡ true → Comes known after (all_pass (map (stmt_passes asks) ts))
    stmts_come _ _ _ _ _ (no_stmts around known) calls texts full = nothing known known refl
    stmts_come _ _ _ _ _ (more_stmts around known s ss t ts middle after x xs) calls texts full =
        let c = two (IsDefined defined) (stmt_calls s ++ all_calls (map stmt_calls ss)) (stmt_calls s) (all_calls (map stmt_calls ss)) refl calls in
        both known middle after (stmt_passes asks t) (all_pass (map (stmt_passes asks) ts)) (stmt_comes around known s t middle x c.0 texts.0 (and_parts (filled s) (all_pass (map filled ss)) full).0)
        (stmts_come around middle ss ts after xs c.1 texts.1 (and_parts (filled s) (all_pass (map filled ss)) full).1)

    part_comes : (around : Around) (kind : Kind) (labels : Labels) (known : Known) (x : Part) (t : TPart) (labelled : Labels) (after : Known)
        → ElabPart around kind labels known x t labelled after → D (part_calls x) → T (spell_part x) → part_filled x ≡ true → Comes known after (part_passes t)
    part_comes _ _ _ _ _ _ _ _ (case_label around kind labels known p e v z x constant new) calls texts full =
        by_tree known (taking known v) _ true (part_Case Bool Bool part_step (stmt_step asks) p (converted kind z)) (nothing known (taking known v) refl)
    part_comes _ _ _ _ _ _ _ _ (default_label around kind labels known p new) calls texts full =
        by_tree known known _ true (part_Default Bool Bool part_step (stmt_step asks) p) (nothing known known refl)
    part_comes _ _ _ _ _ _ _ _ (does around kind labels known p s t after x) calls texts full =
        by_tree known after _ (stmt_passes asks t) (part_Does Bool Bool part_step (stmt_step asks) p t)
        (stmt_comes around known s t after x (same (IsDefined defined) (part_calls (part.Does p s)) (stmt_calls s) (folds.part_Does (List Called) (List Called) part_calls_step stmt_calls_step p s) calls)
        (subst T (folds.part_Does Spelled Spelled spell_part_step spell_stmt_step p s) texts) (sym (folds.part_Does Bool Bool filled_part filled_stmt p s) ∙ full))

    parts_come : (around : Around) (kind : Kind) (labels : Labels) (known : Known) (xs : List Part) (ts : List TPart) (after : Known)
        → ElabParts around kind labels known xs ts after → D (all_calls (map part_calls xs)) → Each P (map spell_part xs)
        → all_pass (map part_filled xs) ≡ true → Comes known after (all_pass (map part_passes ts))
    parts_come _ _ _ _ _ _ _ (no_parts around kind labels known) calls texts full = nothing known known refl
    parts_come _ _ _ _ _ _ _ (more_parts around kind labels known x xs t ts labelled middle after a b) calls texts full =
        let c = two (IsDefined defined) (part_calls x ++ all_calls (map part_calls xs)) (part_calls x) (all_calls (map part_calls xs)) refl calls in
        both known middle after (part_passes t) (all_pass (map part_passes ts)) (part_comes around kind labels known x t labelled middle a c.0 texts.0 (and_parts (part_filled x) (all_pass (map part_filled xs)) full).0)
        (parts_come around kind labelled middle xs ts after b c.1 texts.1 (and_parts (part_filled x) (all_pass (map part_filled xs)) full).1)
