-- What a statement has as its typed tree is sound: where the names that are known fit the kinds of all variables of the function.
use Rattle.std.proofs.Common.{◌≡◌, ℕ, ◌+◌, ◌<◌, ◌≤◌, List, [], ◌∷◌, ◌++◌, map, length, slice_get, append-nil, ℤ, false, Option, Some, None, sym, subst, arith, length-append}
use Rattle.k_num.specs.declared.numbers.Kind.{Kind}
use Rattle.k_num.specs.declared.place.Place.{Place}
use Rattle.k_num.specs.Kind.{converted, promoted}
use Rattle.k_tree.specs.declared.tree.declaration.Declarator.{Declarator}
use Rattle.k_tree.specs.declared.tree.expression.Expr.{Expr}
use Rattle.k_tree.specs.declared.tree.statement.First.{First}
use Rattle.k_tree.specs.declared.tree.statement.Part.{Part}
use Rattle.k_tree.specs.declared.tree.statement.Stmt.{Stmt}
use Rattle.k_types_meaning.specs.declared.names.Meaning.TheVariants as meaning
use Rattle.k_types_meaning.specs.declared.types.CType.TheVariants as ctype
use Rattle.k_types_meaning.specs.declared.tree.declaration.TDeclarator.{TDeclarator}
use Rattle.k_types_meaning.specs.declared.tree.expression.TExpr.{TExpr}
use Rattle.k_types_meaning.specs.declared.tree.statement.TFirst.{TFirst}
use Rattle.k_types_meaning.specs.declared.tree.statement.TPart.{TPart}
use Rattle.k_types_meaning.specs.declared.tree.statement.TPart.TheVariants as typed_part
use Rattle.k_types_meaning.specs.declared.tree.statement.TPart.TheOpen.{TPart-F, TStmt-F}
use Rattle.k_types_meaning.specs.declared.tree.statement.TStmt.{TStmt}
use Rattle.k_types_meaning.specs.declared.tree.statement.TStmt.TheVariants as typed
use Rattle.k_types_meaning.specs.Conversions.{in_kind}
use Rattle.k_types_meaning.specs.Declarations.{Object, Saying, saying}
use Rattle.k_types_meaning.proofs.Folds.{done_Expr, done_Empty, done_Block, done_alone, done_else, done_While, done_DoWhile, done_For, done_Switch, done_Break, done_Continue, done_Return, done_Declare, part_Case, part_Default, part_Does}
use Rattle.k_types_meaning.specs.Statements.{Around, Known, Labels, Variable, spot, opened, inside_loop, inside_switch, no_labels}
use Rattle.k_marks_meaning.specs.Uses.{uses_of, option_uses, first_uses, declared_uses}
use Rattle.k_marks_meaning.specs.Contents.{Inside, inside, part_inside, inside_step, part_step, row}
use Rattle.k_marks_laws.specs.Counted.{IsNotDeclared, EachNamed}
use Rattle.k_marks_laws.specs.Turns.{TLoop}
use Rattle.k_marks_laws.specs.Reduced.{joined, expressions_in, expressions_step, part_expressions}
use Rattle.k_types_meaning.specs.ElaboratedDeclarators.{ElabObject, ElabDeclared, none_declared, more_declared, variable_tree, with_variable}
use Rattle.k_types_meaning.specs.ElaboratedStatements.{ElabStmt, ElabStmts, ElabPart, ElabParts, ElabFirst, ElabTest, ElabStep, nothing_first, value_first, declared_first, no_test, tested, no_step, stepped, expression, empty, block, if_alone, if_else, while_loop, do_loop, for_loop, switch_on, break_within, continue_within, return_none, return_value, declaration, no_stmts, more_stmts, case_label, default_label, does, no_parts, more_parts, taking, leaving}
use Rattle.k_marks_laws.specs.Standing.{Standing, StandingPart, loops_in, loops_of_all, loops_of_parts, loop_at, tested_at, standing, standing_part, standing_part_step, standing_step}
use Rattle.k_marks_laws.proofs.Declared.{DeclaresFrom, expr_from, option_from, action_from, declarator_from, from_both, scopes_of}
use Rattle.k_marks_laws.proofs.Expressions.{meant}
use Rattle.k_marks_laws.proofs.Good.{Good, GoodOption, AllGood}
use Rattle.k_marks_laws.proofs.Growing.{Grows, KnownGrows, grows_then, last_there, declared_grows, first_grows, test_grows, step_grows, stmt_grows, stmts_grow, part_grows, parts_grow}
use Rattle.k_marks_laws.proofs.Scopes.{NamesEach, Fits, names_among, entered_each}
use Rattle.k_marks_laws.proofs.Sound.{GoodLoop, with_step, SoundOf, Sound, SoundAll, SoundPart, SoundParts, part_expressions_in, nothing_sound, sound_then, sound_behind, sound_by, part_sound_by, sound_lower}
use Rattle.k_marks_laws.proofs.Standing.{itself_is}

-- each variable of a function has the kinds of its type alone
abbrev pub AreOfKinds : (ℕ → Kind → Type 0) → List Variable → Type 0
AreOfKinds K vs = (n : ℕ) (v : Variable) (kind : Kind) → slice_get vs n ≡ Some v → K n kind → v.of ≡ ctype.Number kind

-- the names that are known fit
abbrev pub FitsKnown : (ℕ → Kind → Type 0) → Known → Type 0
FitsKnown K known = NamesEach (Fits K (length known.variables)) known.names

-- DECLARATORS
object_fits : (K : ℕ → Kind → Type 0) (final : List Variable) → AreOfKinds K final → (s : Saying) (known : Known) (d : Declarator) (o : Object)
    → ElabObject false s (length known.variables) known.names d o → Grows (with_variable known o).variables final → FitsKnown K known → FitsKnown K (with_variable known o)
object_fits K final are s known d o x grows fit =
    let v : Variable = record { place = o.place; of = o.of } in
    let count : length (known.variables ++ v ∷ []) ≡ length known.variables + 1 = length-append known.variables (v ∷ []) in
    entered_each (Fits K (length (known.variables ++ v ∷ []))) o.name (meaning.Variable (length known.variables) o.of o.fixed) known.names
    (omega (arith, count), λ kind has. are (length known.variables) v kind (grows.keeps (length known.variables) v (last_there known.variables v)) has)
    (names_among K (length known.variables) (length (known.variables ++ v ∷ [])) known.names (omega (arith, count)) fit)

pub declared_fits : (K : ℕ → Kind → Type 0) (final : List Variable) → AreOfKinds K final → (s : Saying) (known : Known) (ds : List Declarator) (ts : List TDeclarator) (after : Known)
    → ElabDeclared s known ds ts after → Grows after.variables final → FitsKnown K known → FitsKnown K after
declared_fits K final are _ _ _ _ _ (none_declared s known) grows fit = fit
declared_fits K final are _ _ _ _ _ (more_declared s known d ds o ts after x rest) grows fit =
    declared_fits K final are s (with_variable known o) ds ts after rest grows
    (object_fits K final are s known d o x
    (grows_then (with_variable known o).variables after.variables final (declared_grows s (with_variable known o) ds ts after rest) grows) fit)

pub declared_from : (low : ℕ) (s : Saying) (known : Known) (ds : List Declarator) (ts : List TDeclarator) (after : Known)
    → ElabDeclared s known ds ts after → low ≤ length known.variables → DeclaresFrom low (declared_uses ts)
declared_from low _ _ _ _ _ (none_declared s known) less = tt
declared_from low _ _ _ _ _ (more_declared s known d ds o ts after x rest) less =
    let v : Variable = record { place = o.place; of = o.of } in
    let count : length (known.variables ++ v ∷ []) ≡ length known.variables + 1 = length-append known.variables (v ∷ []) in
    declarator_from low (variable_tree known o) ts less (declared_from low s (with_variable known o) ds ts after rest (omega (arith, count, less)))

-- THE FIRST PART of a `for`
first_fits : (K : ℕ → Kind → Type 0) (final : List Variable) → AreOfKinds K final → (known : Known) (f : First) (t : TFirst) (after : Known)
    → ElabFirst known f t after → Grows after.variables final → FitsKnown K known → FitsKnown K after
first_fits K final are _ _ _ _ (nothing_first known) grows fit = fit
first_fits K final are _ _ _ _ (value_first known e v x) grows fit = fit
first_fits K final are _ _ _ _ (declared_first known specs list ts after x) grows fit = declared_fits K final are (saying false specs) known list ts after x grows fit

first_from : (low : ℕ) (known : Known) (f : First) (t : TFirst) (after : Known) → ElabFirst known f t after → low ≤ length known.variables → DeclaresFrom low (first_uses t)
first_from low _ _ _ _ (nothing_first known) less = tt
first_from low _ _ _ _ (value_first known e v x) less = expr_from low v.tree
first_from low _ _ _ _ (declared_first known specs list ts after x) less = declared_from low (saying false specs) known list ts after x less

-- ITS TEST AND ITS STEP know what is known before them
test_fits : (K : ℕ → Kind → Type 0) (known : Known) (e : Option Expr) (t : Option TExpr) (after : Known) → ElabTest known e t after → FitsKnown K known
    → FitsKnown K after × GoodOption K t × EachNamed (λ n. n < length after.variables) (option_uses t)
test_fits K _ _ _ _ (no_test known) fit = (fit, tt, tt)
test_fits K _ _ _ _ (tested known e v kind x number) fit =
    let m = meant K (length known.variables) known.names e v fit x in
    (fit, m.good, m.below)

step_fits : (K : ℕ → Kind → Type 0) (known : Known) (e : Option Expr) (t : Option TExpr) (after : Known) → ElabStep known e t after → FitsKnown K known
    → FitsKnown K after × GoodOption K t
step_fits K _ _ _ _ (no_step known) fit = (fit, tt)
step_fits K _ _ _ _ (stepped known e v x) fit = (fit, (meant K (length known.variables) known.names e v fit x).good)

-- STATEMENTS
module _ (K : ℕ → Kind → Type 0) (low : ℕ) where
  expr_sound : (p : Place) (e : TExpr) → AllGood K (e ∷ []) → Sound K low (typed.Expr (spot p) e)
  expr_sound p e good =
      sound_by K low (typed.Expr (spot p) e)
      (standing_step (TStmt-F.Expr (spot p) e))
      (e ∷ [])
      (inside_step (TStmt-F.Expr (spot p) e))
      (done_Expr StandingPart Standing standing_part_step standing_step (spot p) e) (done_Expr (List TExpr) (List TExpr) part_expressions expressions_step (spot p) e) (done_Expr Inside Inside part_step inside_step (spot p) e)
      (record { loops = tt; actions = good; declared = action_from low e })

  empty_sound : (p : Place) → Sound K low (typed.Empty (spot p))
  empty_sound p =
      sound_by K low (typed.Empty (spot p))
      (standing_step (TStmt-F.Empty (spot p)))
      ([])
      (inside_step (TStmt-F.Empty (spot p)))
      (done_Empty StandingPart Standing standing_part_step standing_step (spot p)) (done_Empty (List TExpr) (List TExpr) part_expressions expressions_step (spot p)) (done_Empty Inside Inside part_step inside_step (spot p))
      (nothing_sound K low)

  break_sound : (p : Place) → Sound K low (typed.Break (spot p))
  break_sound p =
      sound_by K low (typed.Break (spot p))
      (standing_step (TStmt-F.Break (spot p)))
      ([])
      (inside_step (TStmt-F.Break (spot p)))
      (done_Break StandingPart Standing standing_part_step standing_step (spot p)) (done_Break (List TExpr) (List TExpr) part_expressions expressions_step (spot p)) (done_Break Inside Inside part_step inside_step (spot p))
      (nothing_sound K low)

  continue_sound : (p : Place) → Sound K low (typed.Continue (spot p))
  continue_sound p =
      sound_by K low (typed.Continue (spot p))
      (standing_step (TStmt-F.Continue (spot p)))
      ([])
      (inside_step (TStmt-F.Continue (spot p)))
      (done_Continue StandingPart Standing standing_part_step standing_step (spot p)) (done_Continue (List TExpr) (List TExpr) part_expressions expressions_step (spot p)) (done_Continue Inside Inside part_step inside_step (spot p))
      (nothing_sound K low)

  return_sound : (p : Place) (e : Option TExpr) → Sound K low (typed.Return (spot p) e)
  return_sound p e =
      sound_by K low (typed.Return (spot p) e)
      (standing_step (TStmt-F.Return (spot p) e))
      ([])
      (inside_step (TStmt-F.Return (spot p) e))
      (done_Return StandingPart Standing standing_part_step standing_step (spot p) e) (done_Return (List TExpr) (List TExpr) part_expressions expressions_step (spot p) e) (done_Return Inside Inside part_step inside_step (spot p) e)
      (record { loops = tt; actions = tt; declared = option_from low e })

  declaration_sound : (p : Place) (list : List TDeclarator) → DeclaresFrom low (declared_uses list) → Sound K low (typed.Declare (spot p) list)
  declaration_sound p list h =
      sound_by K low (typed.Declare (spot p) list)
      (standing_step (TStmt-F.Declare (spot p) list))
      ([])
      (inside_step (TStmt-F.Declare (spot p) list))
      (done_Declare StandingPart Standing standing_part_step standing_step (spot p) list) (done_Declare (List TExpr) (List TExpr) part_expressions expressions_step (spot p) list) (done_Declare Inside Inside part_step inside_step (spot p) list)
      (record { loops = tt; actions = tt; declared = h })

  block_sound : (p : Place) (ts : List TStmt) → SoundAll K low ts → Sound K low (typed.Block (spot p) ts)
  block_sound p ts h =
      sound_by K low (typed.Block (spot p) ts)
      (standing_step (TStmt-F.Block (spot p) (map standing ts)))
      (joined (map expressions_in ts))
      (inside_step (TStmt-F.Block (spot p) (map inside ts)))
      (done_Block StandingPart Standing standing_part_step standing_step (spot p) ts) (done_Block (List TExpr) (List TExpr) part_expressions expressions_step (spot p) ts) (done_Block Inside Inside part_step inside_step (spot p) ts)
      (h)

  alone_sound : (p : Place) (e : TExpr) (t : TStmt) → Sound K low t → Sound K low (typed.If (spot p) e t None)
  alone_sound p e t h =
      sound_by K low (typed.If (spot p) e t None)
      (standing_step (TStmt-F.If (spot p) e (standing t) None))
      (expressions_in t ++ [])
      (inside_step (TStmt-F.If (spot p) e (inside t) None))
      (done_alone StandingPart Standing standing_part_step standing_step (spot p) e t) (done_alone (List TExpr) (List TExpr) part_expressions expressions_step (spot p) e t) (done_alone Inside Inside part_step inside_step (spot p) e t)
      (sound_behind K low (loops_in t) (expressions_in t ++ []) (uses_of e) ((inside t).uses ++ []) (expr_from low e)
      (subst (λ (fs : List TLoop). SoundOf K low fs (expressions_in t ++ []) ((inside t).uses ++ [])) (append-nil (loops_in t))
      (sound_then K low (loops_in t) [] (expressions_in t) [] (inside t).uses [] h (nothing_sound K low))))

  else_sound : (p : Place) (e : TExpr) (t u : TStmt) → Sound K low t → Sound K low u → Sound K low (typed.If (spot p) e t (Some u))
  else_sound p e t u h k =
      sound_by K low (typed.If (spot p) e t (Some u))
      (standing_step (TStmt-F.If (spot p) e (standing t) (Some (standing u))))
      (expressions_in t ++ expressions_in u)
      (inside_step (TStmt-F.If (spot p) e (inside t) (Some (inside u))))
      (done_else StandingPart Standing standing_part_step standing_step (spot p) e t u) (done_else (List TExpr) (List TExpr) part_expressions expressions_step (spot p) e t u) (done_else Inside Inside part_step inside_step (spot p) e t u)
      (sound_behind K low (loops_in t ++ loops_in u) (expressions_in t ++ expressions_in u) (uses_of e) ((inside t).uses ++ (inside u).uses) (expr_from low e)
      (sound_then K low (loops_in t) (loops_in u) (expressions_in t) (expressions_in u) (inside t).uses (inside u).uses h k))

  -- a loop with a test alone
  tested_good : (p : Place) (e : TExpr) (t : TStmt) → Good K e → Sound K low t → GoodLoop K (tested_at (spot p) 0 e (standing t).itself)
  tested_good p e t good h =
      subst (λ (s : TStmt). GoodLoop K (tested_at (spot p) 0 e s)) (sym (itself_is t)) (record { test = good; step = tt; scopes = tt; actions = h.actions })

  while_sound : (p : Place) (e : TExpr) (t : TStmt) → Good K e → Sound K low t → Sound K low (typed.While (spot p) 0 e t)
  while_sound p e t good h =
      sound_by K low (typed.While (spot p) 0 e t)
      (standing_step (TStmt-F.While (spot p) 0 e (standing t)))
      (expressions_in t)
      (inside_step (TStmt-F.While (spot p) 0 e (inside t)))
      (done_While StandingPart Standing standing_part_step standing_step (spot p) 0 e t) (done_While (List TExpr) (List TExpr) part_expressions expressions_step (spot p) 0 e t) (done_While Inside Inside part_step inside_step (spot p) 0 e t)
      (record { loops = (tested_good p e t good h, h.loops); actions = h.actions; declared = from_both low (uses_of e) (inside t).uses (expr_from low e) h.declared })

  do_sound : (p : Place) (t : TStmt) (e : TExpr) → Good K e → Sound K low t → Sound K low (typed.DoWhile (spot p) 0 t e)
  do_sound p t e good h =
      sound_by K low (typed.DoWhile (spot p) 0 t e)
      (standing_step (TStmt-F.DoWhile (spot p) 0 (standing t) e))
      (expressions_in t)
      (inside_step (TStmt-F.DoWhile (spot p) 0 (inside t) e))
      (done_DoWhile StandingPart Standing standing_part_step standing_step (spot p) 0 t e) (done_DoWhile (List TExpr) (List TExpr) part_expressions expressions_step (spot p) 0 t e) (done_DoWhile Inside Inside part_step inside_step (spot p) 0 t e)
      (record { loops = (tested_good p e t good h, h.loops); actions = h.actions; declared = from_both low (inside t).uses (uses_of e) h.declared (expr_from low e) })

  for_sound : (p : Place) (f : TFirst) (a b : Option TExpr) (t : TStmt) → DeclaresFrom low (first_uses f) → GoodLoop K (loop_at (spot p) 0 f a b t) → Sound K low t → Sound K low (typed.For (spot p) 0 f a b t)
  for_sound p f a b t h good k =
      sound_by K low (typed.For (spot p) 0 f a b t)
      (standing_step (TStmt-F.For (spot p) 0 f a b (standing t)))
      (expressions_in t)
      (inside_step (TStmt-F.For (spot p) 0 f a b (inside t)))
      (done_For StandingPart Standing standing_part_step standing_step (spot p) 0 f a b t) (done_For (List TExpr) (List TExpr) part_expressions expressions_step (spot p) 0 f a b t) (done_For Inside Inside part_step inside_step (spot p) 0 f a b t)
      (record {
        loops = (subst (λ (s : TStmt). GoodLoop K (loop_at (spot p) 0 f a b s)) (sym (itself_is t)) good, k.loops);
        actions = k.actions;
        declared = from_both low (first_uses f) (option_uses a ++ (option_uses b ++ (inside t).uses)) h
            (from_both low (option_uses a) (option_uses b ++ (inside t).uses) (option_from low a) (from_both low (option_uses b) (inside t).uses (option_from low b) k.declared));
      })

  switch_sound : (p : Place) (kind : Kind) (e : TExpr) (ts : List TPart) → SoundParts K low ts → Sound K low (typed.Switch (spot p) kind e ts)
  switch_sound p kind e ts h =
      sound_by K low (typed.Switch (spot p) kind e ts)
      (standing_step (TStmt-F.Switch (spot p) kind e (map standing_part ts)))
      (joined (map part_expressions_in ts))
      (inside_step (TStmt-F.Switch (spot p) kind e (map part_inside ts)))
      (done_Switch StandingPart Standing standing_part_step standing_step (spot p) kind e ts) (done_Switch (List TExpr) (List TExpr) part_expressions expressions_step (spot p) kind e ts) (done_Switch Inside Inside part_step inside_step (spot p) kind e ts)
      (sound_behind K low (loops_of_parts (map standing_part ts)) (joined (map part_expressions_in ts)) (uses_of e) (row (map part_inside ts)).uses (expr_from low e) h)

  case_sound : (p : Place) (z : ℤ) → SoundPart K low (typed_part.Case p z)
  case_sound p z =
      part_sound_by K low (typed_part.Case p z)
      (standing_part_step (TPart-F.Case p z))
      ([])
      (part_step (TPart-F.Case p z))
      (part_Case StandingPart Standing standing_part_step standing_step p z) (part_Case (List TExpr) (List TExpr) part_expressions expressions_step p z) (part_Case Inside Inside part_step inside_step p z)
      (nothing_sound K low)

  default_sound : (p : Place) → SoundPart K low (typed_part.Default p)
  default_sound p =
      part_sound_by K low (typed_part.Default p)
      (standing_part_step (TPart-F.Default p))
      ([])
      (part_step (TPart-F.Default p))
      (part_Default StandingPart Standing standing_part_step standing_step p) (part_Default (List TExpr) (List TExpr) part_expressions expressions_step p) (part_Default Inside Inside part_step inside_step p)
      (nothing_sound K low)

  does_sound : (p : Place) (t : TStmt) → Sound K low t → SoundPart K low (typed_part.Does p t)
  does_sound p t h =
      part_sound_by K low (typed_part.Does p t)
      (standing_part_step (TPart-F.Does p (standing t)))
      (expressions_in t)
      (part_step (TPart-F.Does p (inside t)))
      (part_Does StandingPart Standing standing_part_step standing_step p t) (part_Does (List TExpr) (List TExpr) part_expressions expressions_step p t) (part_Does Inside Inside part_step inside_step p t)
      (h)

-- WHAT A STATEMENT COMES TO: it is sound, and the names that are known behind it fit
abbrev pub Comes : (ℕ → Kind → Type 0) → Type 0 → Known → Type 0
Comes K sound after = sound × FitsKnown K after

-- behind a scope names mean what they meant before it
left_fits : (K : ℕ → Kind → Type 0) (known inner : Known) → KnownGrows known inner → FitsKnown K known → FitsKnown K (leaving known inner)
left_fits K known inner grows fit = names_among K (length known.variables) (length inner.variables) known.names grows.more fit

-- in a scope that is opened they mean what they mean around it
opened_fits : (K : ℕ → Kind → Type 0) (known : Known) → FitsKnown K known → FitsKnown K (opened known)
opened_fits K known fit = (tt, fit)

mutual
  pub stmt_comes : (K : ℕ → Kind → Type 0) (final : List Variable) → AreOfKinds K final → (low : ℕ) (around : Around) (known : Known) (s : Stmt) (t : TStmt) (after : Known)
      → ElabStmt around known s t after → Grows after.variables final → FitsKnown K known → low ≤ length known.variables → Comes K (Sound K low t) after
  stmt_comes K final are low _ _ _ _ _ (expression around known p e v x) grows fit less =
      (expr_sound K low p v.tree ((meant K (length known.variables) known.names e v fit x).good, tt), fit)
  stmt_comes K final are low _ _ _ _ _ (empty around known p) grows fit less = (empty_sound K low p, fit)
  stmt_comes K final are low _ _ _ _ _ (block around known p parts trees inner xs) grows fit less =
      let h = stmts_come K final are low around (opened known) parts trees inner xs grows (opened_fits K known fit) less in
      (block_sound K low p trees h.0, left_fits K known inner (stmts_grow around (opened known) parts trees inner xs) fit)
  stmt_comes K final are low _ _ _ _ _ (if_alone around known p e s v kind t after x number a) grows fit less =
      let h = stmt_comes K final are low around (taking known v) s t after a grows fit less in
      (alone_sound K low p v.tree t h.0, h.1)
  stmt_comes K final are low _ _ _ _ _ (if_else around known p e s other v kind t u middle after x number a b) grows fit less =
      let first : length known.variables ≤ length middle.variables = (stmt_grows around (taking known v) s t middle a).more in
      let h = stmt_comes K final are low around (taking known v) s t middle a
      (grows_then middle.variables after.variables final (stmt_grows around middle other u after b) grows) fit less in
      let k = stmt_comes K final are low around middle other u after b grows h.1 (omega (arith, first, less)) in
      (else_sound K low p v.tree t u h.0 k.0, k.1)
  stmt_comes K final are low _ _ _ _ _ (while_loop around known p e s v kind t after x number a) grows fit less =
      let h = stmt_comes K final are low (inside_loop around) (taking known v) s t after a grows fit less in
      (while_sound K low p v.tree t (meant K (length known.variables) known.names e v fit x).good h.0, h.1)
  stmt_comes K final are low _ _ _ _ _ (do_loop around known p s e t middle v kind a x number) grows fit less =
      let h = stmt_comes K final are low (inside_loop around) known s t middle a grows fit less in
      (do_sound K low p t v.tree (meant K (length middle.variables) middle.names e v h.1 x).good h.0, h.1)
  stmt_comes K final are low _ _ _ _ _ (for_loop around known p start test step s f a b t started tried went inner x y z body) grows fit less =
      let in_body = stmt_grows (inside_loop around) went s t inner body in
      let in_step = step_grows tried step b went z in
      let in_test = test_grows started test a tried y in
      let in_start = first_grows (opened known) start f started x in
      let from_step = grows_then tried.variables went.variables inner.variables in_step in_body in
      let from_test = grows_then started.variables tried.variables inner.variables in_test from_step in
      let one = first_fits K final are (opened known) start f started x (grows_then started.variables inner.variables final from_test grows) (opened_fits K known fit) in
      let two = test_fits K started test a tried y one in
      let three = step_fits K tried step b went z two.0 in
      let more : length tried.variables ≤ length went.variables = in_step.more in
      let h = stmt_comes K final are (length tried.variables) (inside_loop around) went s t inner body grows three.0 more in
      let lower : low ≤ length tried.variables = (let far : length known.variables ≤ length tried.variables = (grows_then known.variables started.variables tried.variables in_start in_test).more in omega (arith, far, less)) in
      let good : GoodLoop K (loop_at (spot p) 0 f a b t) =
      record { test = two.1; step = three.1; scopes = with_step b (EachNamed (λ n. IsNotDeclared n (inside t).uses) (option_uses a)) (scopes_of (length tried.variables) (inside t).uses (option_uses a) h.0.declared two.2); actions = h.0.actions } in (
        for_sound K low p f a b t (first_from low (opened known) start f started x less) good
            (sound_lower K low (length tried.variables) (loops_in t) (expressions_in t) (inside t).uses lower h.0),
        left_fits K known inner (grows_then known.variables started.variables inner.variables in_start from_test) fit,
      )
  stmt_comes K final are low _ _ _ _ _ (switch_on around known p e parts v kind trees after x number xs) grows fit less =
      let h = parts_come K final are low (inside_switch around) (promoted kind) no_labels (taking known v) parts trees after xs grows fit less in
      (switch_sound K low p (promoted kind) (in_kind kind (promoted kind) v.tree) trees h.0, h.1)
  stmt_comes K final are low _ _ _ _ _ (break_within around known p in_one) grows fit less = (break_sound K low p, fit)
  stmt_comes K final are low _ _ _ _ _ (continue_within around known p in_one) grows fit less = (continue_sound K low p, fit)
  stmt_comes K final are low _ _ _ _ _ (return_none around known p none) grows fit less = (return_sound K low p None, fit)
  stmt_comes K final are low _ _ _ _ _ (return_value around known p e v tree x gives) grows fit less = (return_sound K low p (Some tree), fit)
  stmt_comes K final are low _ _ _ _ _ (declaration around known p specs list trees after x) grows fit less =
      (declaration_sound K low p trees (declared_from low (saying false specs) known list trees after x less), declared_fits K final are (saying false specs) known list trees after x grows fit)

  pub stmts_come : (K : ℕ → Kind → Type 0) (final : List Variable) → AreOfKinds K final → (low : ℕ) (around : Around) (known : Known) (ss : List Stmt) (ts : List TStmt) (after : Known)
      → ElabStmts around known ss ts after → Grows after.variables final → FitsKnown K known → low ≤ length known.variables → Comes K (SoundAll K low ts) after
  stmts_come K final are low _ _ _ _ _ (no_stmts around known) grows fit less = (nothing_sound K low, fit)
  stmts_come K final are low _ _ _ _ _ (more_stmts around known s ss t ts middle after x xs) grows fit less =
      let first : length known.variables ≤ length middle.variables = (stmt_grows around known s t middle x).more in
      let h = stmt_comes K final are low around known s t middle x (grows_then middle.variables after.variables final (stmts_grow around middle ss ts after xs) grows) fit less in
      let k = stmts_come K final are low around middle ss ts after xs grows h.1 (omega (arith, first, less)) in
      (sound_then K low (loops_in t) (loops_of_all (map standing ts)) (expressions_in t) (joined (map expressions_in ts)) (inside t).uses (row (map inside ts)).uses h.0 k.0, k.1)

  part_comes : (K : ℕ → Kind → Type 0) (final : List Variable) → AreOfKinds K final → (low : ℕ) (around : Around) (kind : Kind) (labels : Labels) (known : Known) (x : Part) (t : TPart) (labelled : Labels) (after : Known)
      → ElabPart around kind labels known x t labelled after → Grows after.variables final → FitsKnown K known → low ≤ length known.variables → Comes K (SoundPart K low t) after
  part_comes K final are low _ _ _ _ _ _ _ _ (case_label around kind labels known p e v z x constant new) grows fit less = (case_sound K low p (converted kind z), fit)
  part_comes K final are low _ _ _ _ _ _ _ _ (default_label around kind labels known p new) grows fit less = (default_sound K low p, fit)
  part_comes K final are low _ _ _ _ _ _ _ _ (does around kind labels known p s t after x) grows fit less =
      let h = stmt_comes K final are low around known s t after x grows fit less in
      (does_sound K low p t h.0, h.1)

  parts_come : (K : ℕ → Kind → Type 0) (final : List Variable) → AreOfKinds K final → (low : ℕ) (around : Around) (kind : Kind) (labels : Labels) (known : Known) (xs : List Part) (ts : List TPart) (after : Known)
      → ElabParts around kind labels known xs ts after → Grows after.variables final → FitsKnown K known → low ≤ length known.variables → Comes K (SoundParts K low ts) after
  parts_come K final are low _ _ _ _ _ _ _ (no_parts around kind labels known) grows fit less = (nothing_sound K low, fit)
  parts_come K final are low _ _ _ _ _ _ _ (more_parts around kind labels known x xs t ts labelled middle after a b) grows fit less =
      let first : length known.variables ≤ length middle.variables = (part_grows around kind labels known x t labelled middle a).more in
      let h = part_comes K final are low around kind labels known x t labelled middle a
      (grows_then middle.variables after.variables final (parts_grow around kind labelled middle xs ts after b) grows) fit less in
      let k = parts_come K final are low around kind labelled middle xs ts after b grows h.1 (omega (arith, first, less)) in (
        sound_then K low (standing_part t).loops (loops_of_parts (map standing_part ts)) (part_expressions_in t) (joined (map part_expressions_in ts)) (part_inside t).uses
            (row (map part_inside ts)).uses h.0 k.0,
        k.1,
      )
