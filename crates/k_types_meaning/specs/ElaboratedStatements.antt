-- Believed with a public law.
-- *Typing* of statements as a relation: which typed trees a statement has, and what is known behind it, one case for each
-- construct (C17 6.8).
use Rattle.std.specs.Prelude.{◌≡◌, ℤ, Bool, true, false, ◌||◌, List, [], ◌∷◌, ◌++◌, Option, Some, None}
use Rattle.k_num.specs.declared.numbers.Kind.{Kind}
use Rattle.k_num.specs.declared.place.Place.{Place}
use Rattle.k_num.specs.Kind.{converted, promoted}
use Rattle.k_tree.specs.declared.tokens.word.Word.{Word}
use Rattle.k_tree.specs.declared.tree.declaration.Declarator.{Declarator}
use Rattle.k_tree.specs.declared.tree.expression.Expr.{Expr}
use Rattle.k_tree.specs.declared.tree.statement.First.{First}
use Rattle.k_tree.specs.declared.tree.statement.First.TheVariants as first
use Rattle.k_tree.specs.declared.tree.statement.Part.{Part}
use Rattle.k_tree.specs.declared.tree.statement.Part.TheVariants as part
use Rattle.k_tree.specs.declared.tree.statement.Stmt.{Stmt}
use Rattle.k_tree.specs.declared.tree.statement.Stmt.TheVariants as stmt
use Rattle.k_types_meaning.specs.declared.tree.declaration.TDeclarator.{TDeclarator}
use Rattle.k_types_meaning.specs.declared.tree.expression.TExpr.{TExpr}
use Rattle.k_types_meaning.specs.declared.tree.statement.TFirst.{TFirst}
use Rattle.k_types_meaning.specs.declared.tree.statement.TFirst.TheVariants as typed_first
use Rattle.k_types_meaning.specs.declared.tree.statement.TPart.{TPart}
use Rattle.k_types_meaning.specs.declared.tree.statement.TPart.TheVariants as typed_part
use Rattle.k_types_meaning.specs.declared.tree.statement.TStmt.{TStmt}
use Rattle.k_types_meaning.specs.declared.tree.statement.TStmt.TheVariants as typed
use Rattle.k_types_meaning.specs.declared.types.CType.TheVariants as ctype
use Rattle.k_types_meaning.specs.Constants.{constant}
use Rattle.k_types_meaning.specs.Conversions.{Typed, in_kind, passed}
use Rattle.k_types_meaning.specs.Declarations.{saying}
use Rattle.k_types_meaning.specs.Elaborated.{Elab}
use Rattle.k_types_meaning.specs.Statements.{Known, Around, Labels, no_labels, spot, opened, inside_loop, inside_switch, is_among}
use Rattle.k_types_meaning.specs.Types.{number_kind}
use Rattle.k_types_meaning.specs.ElaboratedDeclarators.{ElabDeclared}

-- what is known behind an expression that means this: `&` was applied in it to its variables too
abbrev pub taking : Known → Typed → Known
taking known v = record known { taken = known.taken ++ v.taken }

-- C17 6.2.1p4: what is known behind a scope that was opened where the first was known: names mean what they meant there
abbrev pub leaving : Known → Known → Known
leaving known inside = record inside { names = known.names }

-- C17 6.8.6.3p1: a loop or a switch lies around a statement
abbrev pub breaks : Around → Bool
breaks around = around.in_loop || around.in_switch

-- the labels behind a case of this value
abbrev pub with_case : Labels → ℤ → Labels
with_case labels z = record labels { cases = z ∷ labels.cases }

-- the labels behind a `default`
abbrev pub with_default : Labels → Labels
with_default labels = record labels { defaulted = true }

-- C17 6.8.5.3p1: the first part of a `for`: nothing, an expression or a declaration
pub data ElabFirst : Known → First → TFirst → Known → Type 0 where
  nothing_first : (known : Known) → ElabFirst known first.Nothing typed_first.Nothing known
  value_first : (known : Known) (e : Expr) (v : Typed) → Elab known.names e v
      → ElabFirst known (first.Value e) (typed_first.Value v.tree) (taking known v)
  declared_first : (known : Known) (specs : List Word) (list : List Declarator) (ts : List TDeclarator) (after : Known)
      → ElabDeclared (saying false specs) known list ts after
      → ElabFirst known (first.Declare specs list) (typed_first.Declare ts) after

-- C17 6.8.5p2, 6.8.5.3p2: the test of a `for`: a number, or left out
pub data ElabTest : Known → Option Expr → Option TExpr → Known → Type 0 where
  no_test : (known : Known) → ElabTest known None None known
  tested : (known : Known) (e : Expr) (v : Typed) (kind : Kind) → Elab known.names e v → number_kind v.of ≡ Some kind
      → ElabTest known (Some e) (Some v.tree) (taking known v)

-- C17 6.8.5.3p1: the step of a `for`: any expression, or left out
pub data ElabStep : Known → Option Expr → Option TExpr → Known → Type 0 where
  no_step : (known : Known) → ElabStep known None None known
  stepped : (known : Known) (e : Expr) (v : Typed) → Elab known.names e v → ElabStep known (Some e) (Some v.tree) (taking known v)

mutual
  -- C17 6.8: a statement means a typed one, where this lies around it and this is known; and what is known behind it
  pub data ElabStmt : Around → Known → Stmt → TStmt → Known → Type 0 where
    -- C17 6.8.3p2: an expression
    expression : (around : Around) (known : Known) (p : Place) (e : Expr) (v : Typed) → Elab known.names e v
        → ElabStmt around known (stmt.Expr p e) (typed.Expr (spot p) v.tree) (taking known v)
    -- C17 6.8.3p3: `;`
    empty : (around : Around) (known : Known) (p : Place) → ElabStmt around known (stmt.Empty p) (typed.Empty (spot p)) known
    -- C17 6.8.2, 6.2.1p4: a block, in a scope of its own: behind it names mean what they meant before
    block : (around : Around) (known : Known) (p : Place) (parts : List Stmt) (trees : List TStmt) (inside : Known)
        → ElabStmts around (opened known) parts trees inside
        → ElabStmt around known (stmt.Block p parts) (typed.Block (spot p) trees) (leaving known inside)
    -- C17 6.8.4.1p1: an `if` without an `else`, whose test is a number
    if_alone : (around : Around) (known : Known) (p : Place) (e : Expr) (s : Stmt) (v : Typed) (kind : Kind) (t : TStmt) (after : Known)
        → Elab known.names e v → number_kind v.of ≡ Some kind → ElabStmt around (taking known v) s t after
        → ElabStmt around known (stmt.If p e s None) (typed.If (spot p) v.tree t None) after
    -- C17 6.8.4.1p1: an `if` with an `else`, whose test is a number
    if_else : (around : Around) (known : Known) (p : Place) (e : Expr) (s other : Stmt) (v : Typed) (kind : Kind) (t u : TStmt) (middle after : Known)
        → Elab known.names e v → number_kind v.of ≡ Some kind → ElabStmt around (taking known v) s t middle → ElabStmt around middle other u after
        → ElabStmt around known (stmt.If p e s (Some other)) (typed.If (spot p) v.tree t (Some u)) after
    -- C17 6.8.5p2, 6.8.5.1: a `while` loop, whose test is a number
    while_loop : (around : Around) (known : Known) (p : Place) (e : Expr) (s : Stmt) (v : Typed) (kind : Kind) (t : TStmt) (after : Known)
        → Elab known.names e v → number_kind v.of ≡ Some kind → ElabStmt (inside_loop around) (taking known v) s t after
        → ElabStmt around known (stmt.While p e s) (typed.While (spot p) 0 v.tree t) after
    -- C17 6.8.5p2, 6.8.5.2: a `do` loop, whose test is a number
    do_loop : (around : Around) (known : Known) (p : Place) (s : Stmt) (e : Expr) (t : TStmt) (middle : Known) (v : Typed) (kind : Kind)
        → ElabStmt (inside_loop around) known s t middle → Elab middle.names e v → number_kind v.of ≡ Some kind
        → ElabStmt around known (stmt.DoWhile p s e) (typed.DoWhile (spot p) 0 t v.tree) (taking middle v)
    -- C17 6.8.5.3, 6.8.5p5: a `for` loop, in a scope of its own: behind it names mean what they meant before
    for_loop : (around : Around) (known : Known) (p : Place) (start : First) (test step : Option Expr) (s : Stmt)
        (f : TFirst) (a b : Option TExpr) (t : TStmt) (started tried went inside : Known)
        → ElabFirst (opened known) start f started → ElabTest started test a tried → ElabStep tried step b went
        → ElabStmt (inside_loop around) went s t inside
        → ElabStmt around known (stmt.For p start test step s) (typed.For (spot p) 0 f a b t) (leaving known inside)
    -- C17 6.8.4.2p1, p5: a `switch` on a number, which is promoted
    switch_on : (around : Around) (known : Known) (p : Place) (e : Expr) (parts : List Part) (v : Typed) (kind : Kind) (trees : List TPart) (after : Known)
        → Elab known.names e v → number_kind v.of ≡ Some kind
        → ElabParts (inside_switch around) (promoted kind) no_labels (taking known v) parts trees after
        → ElabStmt around known (stmt.Switch p e parts) (typed.Switch (spot p) (promoted kind) (in_kind kind (promoted kind) v.tree) trees) after
    -- C17 6.8.6.3p1: a `break`, in a loop or in a switch
    break_within : (around : Around) (known : Known) (p : Place) → breaks around ≡ true
        → ElabStmt around known (stmt.Break p) (typed.Break (spot p)) known
    -- C17 6.8.6.2p1: a `continue`, in a loop
    continue_within : (around : Around) (known : Known) (p : Place) → around.in_loop ≡ true
        → ElabStmt around known (stmt.Continue p) (typed.Continue (spot p)) known
    -- C17 6.8.6.4p1: a `return` without a value, in a function whose result is void
    return_none : (around : Around) (known : Known) (p : Place) → around.result ≡ ctype.Void
        → ElabStmt around known (stmt.Return p None) (typed.Return (spot p) None) known
    -- C17 6.8.6.4p1, p3: a `return` with a value, which is converted to the result of the function
    return_value : (around : Around) (known : Known) (p : Place) (e : Expr) (v : Typed) (tree : TExpr)
        → Elab known.names e v → passed around.result v ≡ Some tree
        → ElabStmt around known (stmt.Return p (Some e)) (typed.Return (spot p) (Some tree)) (taking known v)
    -- C17 6.7: a declaration
    declaration : (around : Around) (known : Known) (p : Place) (specs : List Word) (list : List Declarator) (trees : List TDeclarator) (after : Known)
        → ElabDeclared (saying false specs) known list trees after
        → ElabStmt around known (stmt.Declare p specs list) (typed.Declare (spot p) trees) after

  -- C17 6.8.2: statements in their order: what one declares is known to the next
  pub data ElabStmts : Around → Known → List Stmt → List TStmt → Known → Type 0 where
    no_stmts : (around : Around) (known : Known) → ElabStmts around known [] [] known
    more_stmts : (around : Around) (known : Known) (s : Stmt) (ss : List Stmt) (t : TStmt) (ts : List TStmt) (middle after : Known)
        → ElabStmt around known s t middle → ElabStmts around middle ss ts after → ElabStmts around known (s ∷ ss) (t ∷ ts) after

  -- C17 6.8.4.2: a part of a switch on this kind means a typed one, behind these labels; and the labels and what is known behind it
  pub data ElabPart : Around → Kind → Labels → Known → Part → TPart → Labels → Known → Type 0 where
    -- C17 6.8.4.2p3, p5: a `case`: a constant, which is converted to the kind and then differs from those before it
    case_label : (around : Around) (kind : Kind) (labels : Labels) (known : Known) (p : Place) (e : Expr) (v : Typed) (z : ℤ)
        → Elab known.names e v → constant v.tree ≡ Some z → is_among labels.cases (converted kind z) ≡ false
        → ElabPart around kind labels known (part.Case p e) (typed_part.Case p (converted kind z)) (with_case labels (converted kind z)) (taking known v)
    -- C17 6.8.4.2p3: a `default`, of which there is none before it
    default_label : (around : Around) (kind : Kind) (labels : Labels) (known : Known) (p : Place) → labels.defaulted ≡ false
        → ElabPart around kind labels known (part.Default p) (typed_part.Default p) (with_default labels) known
    -- C17 6.8.4.2p4: a statement
    does : (around : Around) (kind : Kind) (labels : Labels) (known : Known) (p : Place) (s : Stmt) (t : TStmt) (after : Known)
        → ElabStmt around known s t after
        → ElabPart around kind labels known (part.Does p s) (typed_part.Does p t) labels after

  -- C17 6.8.4.2: the parts of a switch in their order
  pub data ElabParts : Around → Kind → Labels → Known → List Part → List TPart → Known → Type 0 where
    no_parts : (around : Around) (kind : Kind) (labels : Labels) (known : Known) → ElabParts around kind labels known [] [] known
    more_parts : (around : Around) (kind : Kind) (labels : Labels) (known : Known) (x : Part) (xs : List Part) (t : TPart) (ts : List TPart)
        (labelled : Labels) (middle after : Known)
        → ElabPart around kind labels known x t labelled middle → ElabParts around kind labelled middle xs ts after
        → ElabParts around kind labels known (x ∷ xs) (t ∷ ts) after
