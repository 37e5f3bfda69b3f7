-- Statements that typing gives fit: where the names that are known do, and each variable has the sort of its type.
use Rattle.std.proofs.Common.{◌≡◌, ℕ, Bool, true, false, ◌&&◌, List, [], ◌∷◌, map, length, slice_get, Option, Some, None, refl, sym, ◌∙◌, ap, subst}
use Rattle.std.proofs.lemmas.Bool.{and_from}
use Rattle.k_num.specs.declared.numbers.Kind.{Kind}
use Rattle.k_num.specs.Kind.{converted, promoted}
use Rattle.k_tree.specs.declared.tree.declaration.Declarator.{Declarator}
use Rattle.k_tree.specs.declared.tree.expression.Expr.{Expr}
use Rattle.k_tree.specs.declared.tree.statement.First.{First}
use Rattle.k_tree.specs.declared.tree.statement.Part.{Part}
use Rattle.k_tree.specs.declared.tree.statement.Stmt.{Stmt}
use Rattle.k_types_meaning.specs.declared.names.Meaning.TheVariants as meaning
use Rattle.k_types_meaning.specs.declared.types.Base.{Base}
use Rattle.k_types_meaning.specs.declared.types.Base.TheVariants as base
use Rattle.k_types_meaning.specs.declared.types.CType.{CType}
use Rattle.k_types_meaning.specs.declared.types.CType.TheVariants as ctype
use Rattle.k_types_meaning.specs.declared.tree.declaration.TDeclarator.{TDeclarator}
use Rattle.k_types_meaning.specs.declared.tree.expression.TExpr.{TExpr}
use Rattle.k_types_meaning.specs.declared.tree.statement.TFirst.{TFirst}
use Rattle.k_types_meaning.specs.declared.tree.statement.TPart.{TPart, fold-TPart}
use Rattle.k_types_meaning.specs.declared.tree.statement.TStmt.{TStmt}
use Rattle.k_types_meaning.specs.Conversions.{Typed, in_kind, passed}
use Rattle.k_types_meaning.specs.Declarations.{Object, Saying, saying, object_fixed, object_type, no_pointer, where_sized, is_sized, declared_type}
use Rattle.k_types_meaning.specs.Dimensions.{Sizes, sizes_or_known, object_sizes}
use Rattle.k_types_meaning.specs.Elaborated.{Elab}
use Rattle.k_types_meaning.specs.ElaboratedDeclarators.{ElabObject, object, ElabDeclared, none_declared, more_declared, variable_tree, with_variable, names_within}
use Rattle.k_types_meaning.specs.ElaboratedStatements.{ElabStmt, ElabStmts, ElabPart, ElabParts, ElabFirst, ElabTest, ElabStep, nothing_first, value_first, declared_first, no_test, tested, no_step, stepped, expression, empty, block, if_alone, if_else, while_loop, do_loop, for_loop, switch_on, break_within, continue_within, return_none, return_value, declaration, no_stmts, more_stmts, case_label, default_label, does, no_parts, more_parts, taking}
use Rattle.k_types_meaning.specs.Initialisers.{Beginning, begun, first_given}
use Rattle.k_types_meaning.specs.Made.{Made, Fine}
use Rattle.k_types_meaning.specs.Names.{Names}
use Rattle.k_types_meaning.specs.Statements as statements
use Rattle.k_types_meaning.specs.Statements.{Known, Labels, Variable, spot, opened, inside_loop, inside_switch, no_labels}
use Rattle.k_types_meaning.proofs.Fine.{IfFine, IfThere}
use Rattle.k_types_meaning.proofs.Folds.{done_Expr, done_Empty, done_Block, done_alone, done_else, done_While, done_DoWhile, done_For, done_Switch, done_Break, done_Continue, done_Return, done_Declare, part_Case, part_Default, part_Does}
use Rattle.k_marks_laws.proofs.Growing.{Grows, grows_then, last_there, declared_grows, test_grows, step_grows, stmt_grows, stmts_grow, parts_grow}
use Rattle.k_lower_fits.proofs.Named.{NamesEach, entered_each}
use Rattle.k_evaluation_laws.specs.Kinds.{Sort}
use Rattle.k_evaluation_laws.proofs.Fits.{Around, is_nothing, value_fits, expr_fits, option_fits, init_of, declarator_fits, declared_fit, first_fits, return_fits, all_stand, stmt_step, part_step, stmt_fits}
use Rattle.k_evaluation_laws.proofs.Begun.{InitGood, begun_good, fits_as}
use Rattle.k_evaluation_laws.proofs.Judged.{sort_in, NameFits, Is, Good, IfIs, is_passed, passed_some, as_number, kind_is}
use Rattle.k_evaluation_laws.proofs.Operated.{expr_good}

-- DECLARED TYPES have values
abbrev pub HasValues : CType → Type 0
HasValues of = is_nothing (sort_in of) ≡ false

pub object_has : (fixed : Bool) (b : Option Base) (stars : List Bool) (dims : List ℕ) → IfThere HasValues (object_type fixed b stars dims)
object_has fixed None stars dims = tt
object_has fixed (Some base.Void) stars dims = tt
object_has fixed (Some (base.Of kind)) [] [] = refl
object_has fixed (Some (base.Of kind)) [] (d ∷ ds) = refl
object_has fixed (Some (base.Of kind)) (star ∷ []) [] = refl
object_has fixed (Some (base.Of kind)) (star ∷ []) (d ∷ ds) = tt
object_has fixed (Some (base.Of kind)) (star ∷ other ∷ stars) dims = tt

no_pointer_has : (file : Bool) (of : Option CType) → IfThere HasValues of → IfThere HasValues (no_pointer file of)
no_pointer_has false of h = h
no_pointer_has true None h = tt
no_pointer_has true (Some ctype.Void) h = tt
no_pointer_has true (Some (ctype.Number kind)) h = refl
no_pointer_has true (Some (ctype.Pointer e)) h = tt
no_pointer_has true (Some (ctype.Array count e)) h = refl

sized_has : (b : Bool) (of : Option CType) → IfThere HasValues of → IfThere HasValues (where_sized b of)
sized_has false of h = tt
sized_has true of h = h

declared_has : (file : Bool) (s : Saying) (sizes : Sizes) (d : Declarator) → IfThere HasValues (declared_type file s (Fine sizes) d)
declared_has file s sizes d =
    let dims : List ℕ = sizes_or_known sizes.sizes (object_sizes sizes.sizes (first_given d.init)) in
    sized_has (is_sized (Fine sizes) d) (no_pointer file (object_type s.fixed s.names_base d.stars dims))
    (no_pointer_has file (object_type s.fixed s.names_base d.stars dims) (object_has s.fixed s.names_base d.stars dims))

-- what is there has it
pub if_there_is : {A : Type 0} (P : A → Type 0) (o : Option A) (a : A) → IfThere P o → o ≡ Some a → P a
if_there_is P o a h is = subst (IfThere P) is h

if_fine_is : {A : Type 0} (P : A → Type 0) (m : Made A) (a : A) → IfFine P m → m ≡ Fine a → P a
if_fine_is P m a h is = subst (IfFine P) is h

pub typed_has : (file : Bool) (s : Saying) (n : ℕ) (names : Names) (d : Declarator) (o : Object) → ElabObject file s n names d o → HasValues o.of
typed_has _ _ _ _ _ _ (object file s n names d sizes of start init once sized typed_so is begins gives) =
    if_there_is HasValues (declared_type file s (Fine sizes) d) of (declared_has file s sizes d) is

module _ (site : Around) where
  -- the names that are known fit
  abbrev pub NamesFit : Known → Type 0
  NamesFit known = NamesEach (NameFits site) known.names

  -- each variable of the function is of the sort of its type
  abbrev pub AreThere : List Variable → Type 0
  AreThere final = (n : ℕ) (v : Variable) → slice_get final n ≡ Some v → slice_get site.variables n ≡ Some (sort_in v.of)

  -- a statement by what its tree comes to
  fits_by : (t : TStmt) (b : Bool) → stmt_fits site t ≡ b → b ≡ true → stmt_fits site t ≡ true
  fits_by t b is h = is ∙ h

  abbrev part_fits : TPart → Bool
  part_fits = fold-TPart Bool Bool part_step (stmt_step site)

  pass : (known : Known) (e : Expr) (v : Typed) → NamesFit known → Elab known.names e v → expr_fits site v.tree ≡ true
  pass known e v fit x = (expr_good site known.names e v fit x).fits

  -- DECLARATORS
  -- the variable that a declarator declares is there, in the end
  there_then : (final : List Variable) → AreThere final → (known : Known) (o : Object) → Grows (with_variable known o).variables final
      → slice_get site.variables (length known.variables) ≡ Some (sort_in o.of)
  there_then final are known o grows =
      let v : Variable = record { place = o.place; of = o.of } in
      are (length known.variables) v (grows.keeps (length known.variables) v (last_there known.variables v))

  object_names : (final : List Variable) → AreThere final → (s : Saying) (known : Known) (d : Declarator) (o : Object)
      → ElabObject false s (length known.variables) known.names d o → Grows (with_variable known o).variables final → NamesFit known → NamesFit (with_variable known o)
  object_names final are s known d o x grows fit =
      entered_each (NameFits site) o.name (meaning.Variable (length known.variables) o.of o.fixed) known.names
      (there_then final are known o grows, typed_has false s (length known.variables) known.names d o x) fit

  -- a declared object begins with what fits, where the names in its initialiser do
  init_good : (s : Saying) (n : ℕ) (names : Names) (d : Declarator) (o : Object) → ElabObject false s n names d o → NamesEach (NameFits site) names
      → slice_get site.variables n ≡ Some (sort_in o.of) → InitGood site o.of o.init
  init_good _ _ _ _ _ (object false s n names d sizes of start init once sized typed_so is begins gives) fit there =
      if_there_is (InitGood site of) start.init init
      (if_fine_is (λ (b : Beginning). IfThere (InitGood site of) b.init) (begun (names_within false s n names d of) false (Some of) d.init) start
      (begun_good site (names_within false s n names d of)
      (entered_each (NameFits site) d.name (meaning.Variable n of (object_fixed s.fixed d.stars)) names
      (there, if_there_is HasValues (declared_type false s (Fine sizes) d) of (declared_has false s sizes d) is) fit)
      false of d.init) begins) gives

  declarator_good : (final : List Variable) → AreThere final → (s : Saying) (known : Known) (d : Declarator) (o : Object)
      → ElabObject false s (length known.variables) known.names d o → Grows (with_variable known o).variables final → NamesFit known → declarator_fits site (variable_tree known o) ≡ true
  declarator_good final are s known d o x grows fit =
      let there : slice_get site.variables (length known.variables) ≡ Some (sort_in o.of) = there_then final are known o grows in
      ap (λ (at : Option Sort). init_of site at o.init) there ∙ init_good s (length known.variables) known.names d o x fit there

  -- what comes of a part: it fits, and so do the names that are known behind it
  abbrev Comes : Bool → Known → Type 0
  Comes b after = (b ≡ true) × NamesFit after

  declared_good : (final : List Variable) → AreThere final → (s : Saying) (known : Known) (ds : List Declarator) (ts : List TDeclarator) (after : Known)
      → ElabDeclared s known ds ts after → Grows after.variables final → NamesFit known → Comes (declared_fit site ts) after
  declared_good final are _ _ _ _ _ (none_declared s known) grows fit = (refl, fit)
  declared_good final are _ _ _ _ _ (more_declared s known d ds o ts after x rest) grows fit =
      let more = grows_then (with_variable known o).variables after.variables final (declared_grows s (with_variable known o) ds ts after rest) grows in
      let h = declared_good final are s (with_variable known o) ds ts after rest grows (object_names final are s known d o x more fit) in
      (and_from (declarator_fits site (variable_tree known o)) (declared_fit site ts) (declarator_good final are s known d o x more fit) h.0, h.1)

  -- THE PARTS OF A `for`
  first_good : (final : List Variable) → AreThere final → (known : Known) (f : First) (t : TFirst) (after : Known)
      → ElabFirst known f t after → Grows after.variables final → NamesFit known → Comes (first_fits site t) after
  first_good final are _ _ _ _ (nothing_first known) grows fit = (refl, fit)
  first_good final are _ _ _ _ (value_first known e v x) grows fit = (pass known e v fit x, fit)
  first_good final are _ _ _ _ (declared_first known specs list ts after x) grows fit = declared_good final are (saying false specs) known list ts after x grows fit

  test_good : (known : Known) (e : Option Expr) (t : Option TExpr) (after : Known) → ElabTest known e t after → NamesFit known → Comes (option_fits site t) after
  test_good _ _ _ _ (no_test known) fit = (refl, fit)
  test_good _ _ _ _ (tested known e v kind x number) fit = (pass known e v fit x, fit)

  step_good : (known : Known) (e : Option Expr) (t : Option TExpr) (after : Known) → ElabStep known e t after → NamesFit known → Comes (option_fits site t) after
  step_good _ _ _ _ (no_step known) fit = (refl, fit)
  step_good _ _ _ _ (stepped known e v x) fit = (pass known e v fit x, fit)

  -- A RETURNED VALUE is of the type of the result
  return_good : (result : CType) (v : Typed) (tree : TExpr) → site.result ≡ sort_in result → Good site v → passed result v ≡ Some tree → return_fits site (Some tree) ≡ true
  return_good result v tree is h gives =
      subst (λ (s : Sort). value_fits site s tree ≡ true) (sym is)
      (fits_as site (sort_in result) tree (passed_some site result v tree gives) (if_there_is (Is site (sort_in result)) (Some tree) tree (subst (IfIs site (sort_in result)) gives (is_passed site result v h)) refl))

  mutual
    pub stmt_good : (final : List Variable) → AreThere final → (around : statements.Around) → site.result ≡ sort_in around.result → (known : Known) (s : Stmt) (t : TStmt) (after : Known)
        → ElabStmt around known s t after → Grows after.variables final → NamesFit known → Comes (stmt_fits site t) after
    stmt_good final are _ res _ _ _ _ (expression around known p e v x) grows fit =
        (done_Expr Bool Bool part_step (stmt_step site) (spot p) v.tree ∙ pass known e v fit x, fit)
    stmt_good final are _ res _ _ _ _ (empty around known p) grows fit = (done_Empty Bool Bool part_step (stmt_step site) (spot p), fit)
    stmt_good final are _ res _ _ _ _ (block around known p parts trees inner xs) grows fit =
        (done_Block Bool Bool part_step (stmt_step site) (spot p) trees ∙ (stmts_good final are around res (opened known) parts trees inner xs grows (tt, fit)).0, fit)
    stmt_good final are _ res _ _ _ _ (if_alone around known p e s v kind t after x number a) grows fit =
        let h = stmt_good final are around res (taking known v) s t after a grows fit in (
          done_alone Bool Bool part_step (stmt_step site) (spot p) v.tree t
              ∙ and_from (expr_fits site v.tree) (stmt_fits site t && true) (pass known e v fit x) (and_from (stmt_fits site t) true h.0 refl),
          h.1,
        )
    stmt_good final are _ res _ _ _ _ (if_else around known p e s other v kind t u middle after x number a b) grows fit =
        let h = stmt_good final are around res (taking known v) s t middle a (grows_then middle.variables after.variables final (stmt_grows around middle other u after b) grows) fit in
        let k = stmt_good final are around res middle other u after b grows h.1 in (
          done_else Bool Bool part_step (stmt_step site) (spot p) v.tree t u
              ∙ and_from (expr_fits site v.tree) (stmt_fits site t && stmt_fits site u) (pass known e v fit x) (and_from (stmt_fits site t) (stmt_fits site u) h.0 k.0),
          k.1,
        )
    stmt_good final are _ res _ _ _ _ (while_loop around known p e s v kind t after x number a) grows fit =
        let h = stmt_good final are (inside_loop around) res (taking known v) s t after a grows fit in
        (done_While Bool Bool part_step (stmt_step site) (spot p) 0 v.tree t ∙ and_from (expr_fits site v.tree) (stmt_fits site t) (pass known e v fit x) h.0, h.1)
    stmt_good final are _ res _ _ _ _ (do_loop around known p s e t middle v kind a x number) grows fit =
        let h = stmt_good final are (inside_loop around) res known s t middle a grows fit in
        (done_DoWhile Bool Bool part_step (stmt_step site) (spot p) 0 t v.tree ∙ and_from (expr_fits site v.tree) (stmt_fits site t) (pass middle e v h.1 x) h.0, h.1)
    stmt_good final are _ res _ _ _ _ (for_loop around known p start test step s f a b t started tried went inner x y z body) grows fit =
        let in_body = stmt_grows (inside_loop around) went s t inner body in
        let from_step = grows_then tried.variables went.variables inner.variables (step_grows tried step b went z) in_body in
        let from_test = grows_then started.variables tried.variables inner.variables (test_grows started test a tried y) from_step in
        let one = first_good final are (opened known) start f started x (grows_then started.variables inner.variables final from_test grows) (tt, fit) in
        let two = test_good started test a tried y one.1 in
        let three = step_good tried step b went z two.1 in
        let four = stmt_good final are (inside_loop around) res went s t inner body grows three.1 in (
          done_For Bool Bool part_step (stmt_step site) (spot p) 0 f a b t
              ∙ and_from (first_fits site f) (option_fits site a && (option_fits site b && stmt_fits site t)) one.0
              (and_from (option_fits site a) (option_fits site b && stmt_fits site t) two.0 (and_from (option_fits site b) (stmt_fits site t) three.0 four.0)),
          fit,
        )
    stmt_good final are _ res _ _ _ _ (switch_on around known p e parts v kind trees after x number xs) grows fit =
        let h = parts_good final are (inside_switch around) res (promoted kind) no_labels (taking known v) parts trees after xs grows fit in (
          done_Switch Bool Bool part_step (stmt_step site) (spot p) (promoted kind) (in_kind kind (promoted kind) v.tree) trees
              ∙ and_from (expr_fits site (in_kind kind (promoted kind) v.tree)) (all_stand (map part_fits trees))
              (kind_is site kind (promoted kind) v.tree (as_number site v kind number (expr_good site known.names e v fit x))).fits h.0,
          h.1,
        )
    stmt_good final are _ res _ _ _ _ (break_within around known p in_one) grows fit = (done_Break Bool Bool part_step (stmt_step site) (spot p), fit)
    stmt_good final are _ res _ _ _ _ (continue_within around known p in_one) grows fit = (done_Continue Bool Bool part_step (stmt_step site) (spot p), fit)
    stmt_good final are _ res _ _ _ _ (return_none around known p none) grows fit = (done_Return Bool Bool part_step (stmt_step site) (spot p) None, fit)
    stmt_good final are _ res _ _ _ _ (return_value around known p e v tree x gives) grows fit =
        (done_Return Bool Bool part_step (stmt_step site) (spot p) (Some tree) ∙ return_good around.result v tree res (expr_good site known.names e v fit x) gives, fit)
    stmt_good final are _ res _ _ _ _ (declaration around known p specs list trees after x) grows fit =
        let h = declared_good final are (saying false specs) known list trees after x grows fit in
        (done_Declare Bool Bool part_step (stmt_step site) (spot p) trees ∙ h.0, h.1)

    pub stmts_good : (final : List Variable) → AreThere final → (around : statements.Around) → site.result ≡ sort_in around.result → (known : Known) (ss : List Stmt) (ts : List TStmt) (after : Known)
        → ElabStmts around known ss ts after → Grows after.variables final → NamesFit known → Comes (all_stand (map (stmt_fits site) ts)) after
    stmts_good final are _ res _ _ _ _ (no_stmts around known) grows fit = (refl, fit)
    stmts_good final are _ res _ _ _ _ (more_stmts around known s ss t ts middle after x xs) grows fit =
        let h = stmt_good final are around res known s t middle x (grows_then middle.variables after.variables final (stmts_grow around middle ss ts after xs) grows) fit in
        let k = stmts_good final are around res middle ss ts after xs grows h.1 in
        (and_from (stmt_fits site t) (all_stand (map (stmt_fits site) ts)) h.0 k.0, k.1)

    part_good : (final : List Variable) → AreThere final → (around : statements.Around) → site.result ≡ sort_in around.result → (kind : Kind) (labels : Labels) (known : Known) (x : Part) (t : TPart) (labelled : Labels) (after : Known)
        → ElabPart around kind labels known x t labelled after → Grows after.variables final → NamesFit known → Comes (part_fits t) after
    part_good final are _ res _ _ _ _ _ _ _ (case_label around kind labels known p e v z x constant new) grows fit =
        (part_Case Bool Bool part_step (stmt_step site) p (converted kind z), fit)
    part_good final are _ res _ _ _ _ _ _ _ (default_label around kind labels known p new) grows fit = (part_Default Bool Bool part_step (stmt_step site) p, fit)
    part_good final are _ res _ _ _ _ _ _ _ (does around kind labels known p s t after x) grows fit =
        let h = stmt_good final are around res known s t after x grows fit in
        (part_Does Bool Bool part_step (stmt_step site) p t ∙ h.0, h.1)

    parts_good : (final : List Variable) → AreThere final → (around : statements.Around) → site.result ≡ sort_in around.result → (kind : Kind) (labels : Labels) (known : Known) (xs : List Part) (ts : List TPart) (after : Known)
        → ElabParts around kind labels known xs ts after → Grows after.variables final → NamesFit known → Comes (all_stand (map part_fits ts)) after
    parts_good final are _ res _ _ _ _ _ _ (no_parts around kind labels known) grows fit = (refl, fit)
    parts_good final are _ res _ _ _ _ _ _ (more_parts around kind labels known x xs t ts labelled middle after a b) grows fit =
        let h = part_good final are around res kind labels known x t labelled middle a (grows_then middle.variables after.variables final (parts_grow around kind labelled middle xs ts after b) grows) fit in
        let k = parts_good final are around res kind labelled middle xs ts after b grows h.1 in
        (and_from (part_fits t) (all_stand (map part_fits ts)) h.0 k.0, k.1)
