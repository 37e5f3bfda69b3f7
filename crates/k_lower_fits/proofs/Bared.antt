-- What a fold over a typed tree comes to does not depend on the numbers of the tree, where its steps don't.
use Rattle.std.proofs.Common.{◌≡◌, List, [], ◌∷◌, map, Some, None, refl, sym, ◌∙◌, ap, subst}
use Rattle.k_types_meaning.specs.declared.tree.expression.TExpr.{TExpr, fold-TExpr, fold-roll-TExpr, ind-TExpr, map-TExpr}
use Rattle.k_types_meaning.specs.declared.tree.expression.TExpr.TheOpen.{TExpr-F}
use Rattle.k_types_meaning.specs.declared.tree.statement.TPart.{TPart, fold-TPart, fold-roll-TPart, map-TPart}
use Rattle.k_types_meaning.specs.declared.tree.statement.TPart.TheOpen.{TPart-F, TStmt-F}
use Rattle.k_types_meaning.specs.declared.tree.statement.TStmt.{TStmt, fold-TStmt, fold-roll-TStmt, ind-TStmt, map-TStmt}
use Rattle.k_types_meaning.specs.Bare.{bare_node, bare_step, bare_expr, bare_option, bare_first, bare_declared, bare_spot, bare_part_step, bare_stmt_step, bare_stmt}
use Rattle.k_types_meaning.proofs.Folds.{typed_Number, typed_Str, typed_Object, typed_Variable, typed_Index, typed_Call, typed_Getchar, typed_Putchar, typed_Puts, typed_Printf, typed_Post, typed_Pre, typed_Address, typed_Deref, typed_Plus, typed_Unary, typed_Convert, typed_Cast, typed_Binary, typed_Both, typed_Either, typed_Forward, typed_Onto, typed_Back, typed_PtrCompare, typed_PtrDistance, typed_Cond, typed_Assign, typed_AssignBy, typed_Comma, done_Expr, done_Empty, done_Block, done_alone, done_else, done_While, done_DoWhile, done_For, done_Switch, done_Break, done_Continue, done_Return, done_Declare, part_Case, part_Default, part_Does}

-- a form of an expression without the number of its node
abbrev pub bare_form : {A : Type 0} → TExpr-F A → TExpr-F A
bare_form (TExpr-F.Number node value) = TExpr-F.Number (bare_node node) value
bare_form (TExpr-F.Str node n bytes) = TExpr-F.Str (bare_node node) 0 bytes
bare_form (TExpr-F.Object node n) = TExpr-F.Object (bare_node node) n
bare_form (TExpr-F.Variable node n) = TExpr-F.Variable (bare_node node) n
bare_form (TExpr-F.Index node a b) = TExpr-F.Index (bare_node node) a b
bare_form (TExpr-F.Call node f args) = TExpr-F.Call (bare_node node) f args
bare_form (TExpr-F.Getchar node) = TExpr-F.Getchar (bare_node node)
bare_form (TExpr-F.Putchar node a) = TExpr-F.Putchar (bare_node node) a
bare_form (TExpr-F.Puts node a) = TExpr-F.Puts (bare_node node) a
bare_form (TExpr-F.Printf node format args) = TExpr-F.Printf (bare_node node) format args
bare_form (TExpr-F.Post node change a) = TExpr-F.Post (bare_node node) change a
bare_form (TExpr-F.Pre node change a) = TExpr-F.Pre (bare_node node) change a
bare_form (TExpr-F.Address node a) = TExpr-F.Address (bare_node node) a
bare_form (TExpr-F.Deref node a) = TExpr-F.Deref (bare_node node) a
bare_form (TExpr-F.Plus node a) = TExpr-F.Plus (bare_node node) a
bare_form (TExpr-F.Unary node op kind a) = TExpr-F.Unary (bare_node node) op kind a
bare_form (TExpr-F.Convert node a) = TExpr-F.Convert (bare_node node) a
bare_form (TExpr-F.Cast node a) = TExpr-F.Cast (bare_node node) a
bare_form (TExpr-F.Binary node op kind a b) = TExpr-F.Binary (bare_node node) op kind a b
bare_form (TExpr-F.Both node a b) = TExpr-F.Both (bare_node node) a b
bare_form (TExpr-F.Either node a b) = TExpr-F.Either (bare_node node) a b
bare_form (TExpr-F.Forward node a b) = TExpr-F.Forward (bare_node node) a b
bare_form (TExpr-F.Onto node a b) = TExpr-F.Onto (bare_node node) a b
bare_form (TExpr-F.Back node a b) = TExpr-F.Back (bare_node node) a b
bare_form (TExpr-F.PtrCompare node op a b) = TExpr-F.PtrCompare (bare_node node) op a b
bare_form (TExpr-F.PtrDistance node a b) = TExpr-F.PtrDistance (bare_node node) a b
bare_form (TExpr-F.Cond node a b c) = TExpr-F.Cond (bare_node node) a b c
bare_form (TExpr-F.Assign node a b) = TExpr-F.Assign (bare_node node) a b
bare_form (TExpr-F.AssignBy node change a b) = TExpr-F.AssignBy (bare_node node) change a b
bare_form (TExpr-F.Comma node a b) = TExpr-F.Comma (bare_node node) a b

module _ (A : Type 0) (step : TExpr-F A → A) (keeps : (y : TExpr-F A) → step (bare_form y) ≡ step y) where
  abbrev Same : TExpr → Type 0
  Same e = fold-TExpr A step (bare_expr e) ≡ fold-TExpr A step e

  abbrev trees : List ((e : TExpr) × Same e) → List TExpr
  trees xs = map (λ (x : (e : TExpr) × Same e). x.0) xs

  all_same : (xs : List ((e : TExpr) × Same e)) → map (fold-TExpr A step) (map bare_expr (trees xs)) ≡ map (fold-TExpr A step) (trees xs)
  all_same [] = refl
  all_same (x ∷ xs) = λ i. x.1 i ∷ all_same xs i

  abbrev Layer : TExpr-F TExpr → Type 0
  Layer z = fold-TExpr A step (bare_step (map-TExpr TExpr TExpr bare_expr z)) ≡ step (map-TExpr TExpr A (fold-TExpr A step) z)

  layer : (y : TExpr-F ((e : TExpr) × Same e)) → Layer (map-TExpr _ TExpr (λ (x : (e : TExpr) × Same e). x.0) y)
  layer (TExpr-F.Number node value) = typed_Number A step (bare_node node) value ∙ keeps (TExpr-F.Number node value)
  layer (TExpr-F.Str node n bytes) = typed_Str A step (bare_node node) 0 bytes ∙ keeps (TExpr-F.Str node n bytes)
  layer (TExpr-F.Object node n) = typed_Object A step (bare_node node) n ∙ keeps (TExpr-F.Object node n)
  layer (TExpr-F.Variable node n) = typed_Variable A step (bare_node node) n ∙ keeps (TExpr-F.Variable node n)
  layer (TExpr-F.Index node a b) = typed_Index A step (bare_node node) (bare_expr a.0) (bare_expr b.0) ∙ (λ i. step (TExpr-F.Index (bare_node node) (a.1 i) (b.1 i))) ∙ keeps (TExpr-F.Index node (fold-TExpr A step a.0) (fold-TExpr A step b.0))
  layer (TExpr-F.Call node f args) = typed_Call A step (bare_node node) f (map bare_expr (trees args)) ∙ (λ i. step (TExpr-F.Call (bare_node node) f (all_same args i))) ∙ keeps (TExpr-F.Call node f (map (fold-TExpr A step) (trees args)))
  layer (TExpr-F.Getchar node) = typed_Getchar A step (bare_node node) ∙ keeps (TExpr-F.Getchar node)
  layer (TExpr-F.Putchar node a) = typed_Putchar A step (bare_node node) (bare_expr a.0) ∙ (λ i. step (TExpr-F.Putchar (bare_node node) (a.1 i))) ∙ keeps (TExpr-F.Putchar node (fold-TExpr A step a.0))
  layer (TExpr-F.Puts node a) = typed_Puts A step (bare_node node) (bare_expr a.0) ∙ (λ i. step (TExpr-F.Puts (bare_node node) (a.1 i))) ∙ keeps (TExpr-F.Puts node (fold-TExpr A step a.0))
  layer (TExpr-F.Printf node format args) = typed_Printf A step (bare_node node) format (map bare_expr (trees args)) ∙ (λ i. step (TExpr-F.Printf (bare_node node) format (all_same args i))) ∙ keeps (TExpr-F.Printf node format (map (fold-TExpr A step) (trees args)))
  layer (TExpr-F.Post node change a) = typed_Post A step (bare_node node) change (bare_expr a.0) ∙ (λ i. step (TExpr-F.Post (bare_node node) change (a.1 i))) ∙ keeps (TExpr-F.Post node change (fold-TExpr A step a.0))
  layer (TExpr-F.Pre node change a) = typed_Pre A step (bare_node node) change (bare_expr a.0) ∙ (λ i. step (TExpr-F.Pre (bare_node node) change (a.1 i))) ∙ keeps (TExpr-F.Pre node change (fold-TExpr A step a.0))
  layer (TExpr-F.Address node a) = typed_Address A step (bare_node node) (bare_expr a.0) ∙ (λ i. step (TExpr-F.Address (bare_node node) (a.1 i))) ∙ keeps (TExpr-F.Address node (fold-TExpr A step a.0))
  layer (TExpr-F.Deref node a) = typed_Deref A step (bare_node node) (bare_expr a.0) ∙ (λ i. step (TExpr-F.Deref (bare_node node) (a.1 i))) ∙ keeps (TExpr-F.Deref node (fold-TExpr A step a.0))
  layer (TExpr-F.Plus node a) = typed_Plus A step (bare_node node) (bare_expr a.0) ∙ (λ i. step (TExpr-F.Plus (bare_node node) (a.1 i))) ∙ keeps (TExpr-F.Plus node (fold-TExpr A step a.0))
  layer (TExpr-F.Unary node op kind a) = typed_Unary A step (bare_node node) op kind (bare_expr a.0) ∙ (λ i. step (TExpr-F.Unary (bare_node node) op kind (a.1 i))) ∙ keeps (TExpr-F.Unary node op kind (fold-TExpr A step a.0))
  layer (TExpr-F.Convert node a) = typed_Convert A step (bare_node node) (bare_expr a.0) ∙ (λ i. step (TExpr-F.Convert (bare_node node) (a.1 i))) ∙ keeps (TExpr-F.Convert node (fold-TExpr A step a.0))
  layer (TExpr-F.Cast node a) = typed_Cast A step (bare_node node) (bare_expr a.0) ∙ (λ i. step (TExpr-F.Cast (bare_node node) (a.1 i))) ∙ keeps (TExpr-F.Cast node (fold-TExpr A step a.0))
  layer (TExpr-F.Binary node op kind a b) = typed_Binary A step (bare_node node) op kind (bare_expr a.0) (bare_expr b.0) ∙ (λ i. step (TExpr-F.Binary (bare_node node) op kind (a.1 i) (b.1 i))) ∙ keeps (TExpr-F.Binary node op kind (fold-TExpr A step a.0) (fold-TExpr A step b.0))
  layer (TExpr-F.Both node a b) = typed_Both A step (bare_node node) (bare_expr a.0) (bare_expr b.0) ∙ (λ i. step (TExpr-F.Both (bare_node node) (a.1 i) (b.1 i))) ∙ keeps (TExpr-F.Both node (fold-TExpr A step a.0) (fold-TExpr A step b.0))
  layer (TExpr-F.Either node a b) = typed_Either A step (bare_node node) (bare_expr a.0) (bare_expr b.0) ∙ (λ i. step (TExpr-F.Either (bare_node node) (a.1 i) (b.1 i))) ∙ keeps (TExpr-F.Either node (fold-TExpr A step a.0) (fold-TExpr A step b.0))
  layer (TExpr-F.Forward node a b) = typed_Forward A step (bare_node node) (bare_expr a.0) (bare_expr b.0) ∙ (λ i. step (TExpr-F.Forward (bare_node node) (a.1 i) (b.1 i))) ∙ keeps (TExpr-F.Forward node (fold-TExpr A step a.0) (fold-TExpr A step b.0))
  layer (TExpr-F.Onto node a b) = typed_Onto A step (bare_node node) (bare_expr a.0) (bare_expr b.0) ∙ (λ i. step (TExpr-F.Onto (bare_node node) (a.1 i) (b.1 i))) ∙ keeps (TExpr-F.Onto node (fold-TExpr A step a.0) (fold-TExpr A step b.0))
  layer (TExpr-F.Back node a b) = typed_Back A step (bare_node node) (bare_expr a.0) (bare_expr b.0) ∙ (λ i. step (TExpr-F.Back (bare_node node) (a.1 i) (b.1 i))) ∙ keeps (TExpr-F.Back node (fold-TExpr A step a.0) (fold-TExpr A step b.0))
  layer (TExpr-F.PtrCompare node op a b) = typed_PtrCompare A step (bare_node node) op (bare_expr a.0) (bare_expr b.0) ∙ (λ i. step (TExpr-F.PtrCompare (bare_node node) op (a.1 i) (b.1 i))) ∙ keeps (TExpr-F.PtrCompare node op (fold-TExpr A step a.0) (fold-TExpr A step b.0))
  layer (TExpr-F.PtrDistance node a b) = typed_PtrDistance A step (bare_node node) (bare_expr a.0) (bare_expr b.0) ∙ (λ i. step (TExpr-F.PtrDistance (bare_node node) (a.1 i) (b.1 i))) ∙ keeps (TExpr-F.PtrDistance node (fold-TExpr A step a.0) (fold-TExpr A step b.0))
  layer (TExpr-F.Cond node a b c) = typed_Cond A step (bare_node node) (bare_expr a.0) (bare_expr b.0) (bare_expr c.0) ∙ (λ i. step (TExpr-F.Cond (bare_node node) (a.1 i) (b.1 i) (c.1 i))) ∙ keeps (TExpr-F.Cond node (fold-TExpr A step a.0) (fold-TExpr A step b.0) (fold-TExpr A step c.0))
  layer (TExpr-F.Assign node a b) = typed_Assign A step (bare_node node) (bare_expr a.0) (bare_expr b.0) ∙ (λ i. step (TExpr-F.Assign (bare_node node) (a.1 i) (b.1 i))) ∙ keeps (TExpr-F.Assign node (fold-TExpr A step a.0) (fold-TExpr A step b.0))
  layer (TExpr-F.AssignBy node change a b) = typed_AssignBy A step (bare_node node) change (bare_expr a.0) (bare_expr b.0) ∙ (λ i. step (TExpr-F.AssignBy (bare_node node) change (a.1 i) (b.1 i))) ∙ keeps (TExpr-F.AssignBy node change (fold-TExpr A step a.0) (fold-TExpr A step b.0))
  layer (TExpr-F.Comma node a b) = typed_Comma A step (bare_node node) (bare_expr a.0) (bare_expr b.0) ∙ (λ i. step (TExpr-F.Comma (bare_node node) (a.1 i) (b.1 i))) ∙ keeps (TExpr-F.Comma node (fold-TExpr A step a.0) (fold-TExpr A step b.0))

  pub expr_same : (e : TExpr) → fold-TExpr A step (bare_expr e) ≡ fold-TExpr A step e
  expr_same = ind-TExpr Same (λ x y is. ap (fold-TExpr A step) (fold-roll-TExpr TExpr bare_step x) ∙ subst Layer is (layer y) ∙ sym (fold-roll-TExpr A step x))

-- a form of a statement without its numbers
abbrev pub bare_stmt_form : {A B : Type 0} → TStmt-F A B → TStmt-F A B
bare_stmt_form (TStmt-F.Expr spot e) = TStmt-F.Expr (bare_spot spot) (bare_expr e)
bare_stmt_form (TStmt-F.Empty spot) = TStmt-F.Empty (bare_spot spot)
bare_stmt_form (TStmt-F.Block spot parts) = TStmt-F.Block (bare_spot spot) parts
bare_stmt_form (TStmt-F.If spot test a b) = TStmt-F.If (bare_spot spot) (bare_expr test) a b
bare_stmt_form (TStmt-F.While spot turns test body) = TStmt-F.While (bare_spot spot) 0 (bare_expr test) body
bare_stmt_form (TStmt-F.DoWhile spot turns body test) = TStmt-F.DoWhile (bare_spot spot) 0 body (bare_expr test)
bare_stmt_form (TStmt-F.For spot turns start test next body) = TStmt-F.For (bare_spot spot) 0 (bare_first start) (bare_option test) (bare_option next) body
bare_stmt_form (TStmt-F.Switch spot kind on parts) = TStmt-F.Switch (bare_spot spot) kind (bare_expr on) parts
bare_stmt_form (TStmt-F.Break spot) = TStmt-F.Break (bare_spot spot)
bare_stmt_form (TStmt-F.Continue spot) = TStmt-F.Continue (bare_spot spot)
bare_stmt_form (TStmt-F.Return spot value) = TStmt-F.Return (bare_spot spot) (bare_option value)
bare_stmt_form (TStmt-F.Declare spot list) = TStmt-F.Declare (bare_spot spot) (bare_declared list)

-- a part of a switch without its numbers
abbrev pub bare_part : TPart → TPart
bare_part = fold-TPart TPart TStmt bare_part_step bare_stmt_step

module _ (A B : Type 0) (ps : TPart-F A B → A) (ss : TStmt-F A B → B) (keeps : (y : TStmt-F A B) → ss (bare_stmt_form y) ≡ ss y) where
  abbrev S : TStmt → B
  S = fold-TStmt A B ps ss

  abbrev P : TPart → A
  P = fold-TPart A B ps ss

  abbrev SameStmt : TStmt → Type 0
  SameStmt s = S (bare_stmt s) ≡ S s

  abbrev SamePart : TPart → Type 0
  SamePart p = P (bare_part p) ≡ P p

  abbrev stmts : List ((s : TStmt) × SameStmt s) → List TStmt
  stmts xs = map (λ (x : (s : TStmt) × SameStmt s). x.0) xs

  abbrev parts_in : List ((p : TPart) × SamePart p) → List TPart
  parts_in xs = map (λ (x : (p : TPart) × SamePart p). x.0) xs

  stmts_same : (xs : List ((s : TStmt) × SameStmt s)) → map S (map bare_stmt (stmts xs)) ≡ map S (stmts xs)
  stmts_same [] = refl
  stmts_same (x ∷ xs) = λ i. x.1 i ∷ stmts_same xs i

  parts_same : (xs : List ((p : TPart) × SamePart p)) → map P (map bare_part (parts_in xs)) ≡ map P (parts_in xs)
  parts_same [] = refl
  parts_same (x ∷ xs) = λ i. x.1 i ∷ parts_same xs i

  abbrev PartLayer : TPart-F TPart TStmt → Type 0
  PartLayer z = P (bare_part_step (map-TPart TPart TStmt TPart TStmt bare_part bare_stmt z)) ≡ ps (map-TPart TPart TStmt A B P S z)

  abbrev StmtLayer : TStmt-F TPart TStmt → Type 0
  StmtLayer z = S (bare_stmt_step (map-TStmt TPart TStmt TPart TStmt bare_part bare_stmt z)) ≡ ss (map-TStmt TPart TStmt A B P S z)

  part_layer : (y : TPart-F ((p : TPart) × SamePart p) ((s : TStmt) × SameStmt s))
      → PartLayer (map-TPart _ _ TPart TStmt (λ (x : (p : TPart) × SamePart p). x.0) (λ (x : (s : TStmt) × SameStmt s). x.0) y)
  part_layer (TPart-F.Case p z) = part_Case A B ps ss p z
  part_layer (TPart-F.Default p) = part_Default A B ps ss p
  part_layer (TPart-F.Does p s) = part_Does A B ps ss p (bare_stmt s.0) ∙ ap (λ (x : B). ps (TPart-F.Does p x)) s.1

  stmt_layer : (y : TStmt-F ((p : TPart) × SamePart p) ((s : TStmt) × SameStmt s))
      → StmtLayer (map-TStmt _ _ TPart TStmt (λ (x : (p : TPart) × SamePart p). x.0) (λ (x : (s : TStmt) × SameStmt s). x.0) y)
  stmt_layer (TStmt-F.Expr spot e) = done_Expr A B ps ss (bare_spot spot) (bare_expr e) ∙ keeps (TStmt-F.Expr spot e)
  stmt_layer (TStmt-F.Empty spot) = done_Empty A B ps ss (bare_spot spot) ∙ keeps (TStmt-F.Empty spot)
  stmt_layer (TStmt-F.Block spot parts) =
      done_Block A B ps ss (bare_spot spot) (map bare_stmt (stmts parts)) ∙ (λ i. ss (TStmt-F.Block (bare_spot spot) (stmts_same parts i))) ∙ keeps (TStmt-F.Block spot (map S (stmts parts)))
  stmt_layer (TStmt-F.If spot test a None) =
      done_alone A B ps ss (bare_spot spot) (bare_expr test) (bare_stmt a.0) ∙ (λ i. ss (TStmt-F.If (bare_spot spot) (bare_expr test) (a.1 i) None)) ∙ keeps (TStmt-F.If spot test (S a.0) None)
  stmt_layer (TStmt-F.If spot test a (Some b)) =
      done_else A B ps ss (bare_spot spot) (bare_expr test) (bare_stmt a.0) (bare_stmt b.0) ∙ (λ i. ss (TStmt-F.If (bare_spot spot) (bare_expr test) (a.1 i) (Some (b.1 i)))) ∙ keeps (TStmt-F.If spot test (S a.0) (Some (S b.0)))
  stmt_layer (TStmt-F.While spot turns test a) =
      done_While A B ps ss (bare_spot spot) 0 (bare_expr test) (bare_stmt a.0) ∙ (λ i. ss (TStmt-F.While (bare_spot spot) 0 (bare_expr test) (a.1 i))) ∙ keeps (TStmt-F.While spot turns test (S a.0))
  stmt_layer (TStmt-F.DoWhile spot turns a test) =
      done_DoWhile A B ps ss (bare_spot spot) 0 (bare_stmt a.0) (bare_expr test) ∙ (λ i. ss (TStmt-F.DoWhile (bare_spot spot) 0 (a.1 i) (bare_expr test))) ∙ keeps (TStmt-F.DoWhile spot turns (S a.0) test)
  stmt_layer (TStmt-F.For spot turns start test next a) =
      done_For A B ps ss (bare_spot spot) 0 (bare_first start) (bare_option test) (bare_option next) (bare_stmt a.0)
      ∙ (λ i. ss (TStmt-F.For (bare_spot spot) 0 (bare_first start) (bare_option test) (bare_option next) (a.1 i))) ∙ keeps (TStmt-F.For spot turns start test next (S a.0))
  stmt_layer (TStmt-F.Switch spot kind on parts) =
      done_Switch A B ps ss (bare_spot spot) kind (bare_expr on) (map bare_part (parts_in parts)) ∙ (λ i. ss (TStmt-F.Switch (bare_spot spot) kind (bare_expr on) (parts_same parts i)))
      ∙ keeps (TStmt-F.Switch spot kind on (map P (parts_in parts)))
  stmt_layer (TStmt-F.Break spot) = done_Break A B ps ss (bare_spot spot) ∙ keeps (TStmt-F.Break spot)
  stmt_layer (TStmt-F.Continue spot) = done_Continue A B ps ss (bare_spot spot) ∙ keeps (TStmt-F.Continue spot)
  stmt_layer (TStmt-F.Return spot value) = done_Return A B ps ss (bare_spot spot) (bare_option value) ∙ keeps (TStmt-F.Return spot value)
  stmt_layer (TStmt-F.Declare spot list) = done_Declare A B ps ss (bare_spot spot) (bare_declared list) ∙ keeps (TStmt-F.Declare spot list)

  pub stmt_same : (s : TStmt) → fold-TStmt A B ps ss (bare_stmt s) ≡ fold-TStmt A B ps ss s
  stmt_same =
      ind-TStmt SamePart SameStmt
      (λ x y is. ap P (fold-roll-TPart TPart TStmt bare_part_step bare_stmt_step x) ∙ subst PartLayer is (part_layer y) ∙ sym (fold-roll-TPart A B ps ss x))
      (λ x y is. ap S (fold-roll-TStmt TPart TStmt bare_part_step bare_stmt_step x) ∙ subst StmtLayer is (stmt_layer y) ∙ sym (fold-roll-TStmt A B ps ss x))
