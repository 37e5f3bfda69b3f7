-- The pieces of a ranked tree, without their places, are its spelling.
use Rattle.std.proofs.Common.{ℕ, ◌≡◌, ◌+◌, List, [], ◌∷◌, ◌++◌, map, Option, Some, None, sym, ◌∙◌, ap, refl}
use Rattle.std.specs.Prelude.{All}
use Rattle.std.proofs.lemmas.List.{map-append}
use Rattle.std.proofs.lemmas.List.Elements.{All-head, All-tail}
use Rattle.k_num.specs.declared.place.Place.{Place}
use Rattle.k_tree.specs.declared.tokens.word.Word.{Word}
use Rattle.k_tree.specs.declared.tree.declaration.Init.{Init}
use Rattle.k_tree.specs.declared.tree.declaration.Declarator.{Declarator}
use Rattle.k_tree.specs.declared.tree.declaration.Param.{Param}
use Rattle.k_tree.specs.declared.tree.declaration.Params.{Params}
use Rattle.k_tree.specs.declared.tree.declaration.Params.TheVariants as params
use Rattle.k_tree.specs.declared.tree.statement.First.{First}
use Rattle.k_tree.specs.declared.tree.statement.First.TheVariants as first
use Rattle.k_tree.specs.declared.tree.statement.Stmt.{Stmt}
use Rattle.k_tree.specs.declared.tree.statement.Part.{Part}
use Rattle.k_tree.specs.declared.tree.statement.Stmt.TheVariants as stmt
use Rattle.k_tree.specs.declared.tree.unit.Head.{Head}
use Rattle.k_tree.specs.declared.tree.unit.Item.{Item}
use Rattle.k_tree.specs.declared.tree.unit.Item.TheVariants as item
use Rattle.k_tree.specs.declared.tree.unit.Unit as source
use Rattle.k_tree.proofs.Folds.{init_One, init_List, stmt_Expr, stmt_Empty, stmt_Block, if_alone as if_alone_folds, if_else as if_else_folds, stmt_While, stmt_DoWhile, stmt_For, stmt_Switch, part_Case, part_Default, part_Does, stmt_Break, stmt_Continue, stmt_Return, stmt_Declare}
use Rattle.k_tree.specs.Places.{lay_init, lay_initialised, lay_declarator, lay_declaration, lay_param, lay_params, lay_head, lay_first, lay_stmt, lay_stmt_step, lay_part_step, lay_switched, lay_stmts, lay_item, lay_unit}
use Rattle.k_tree.specs.Spelling.{spell_init, spell_initialised, spell_declarator, spell_declaration, spell_param, spell_params, spell_head, spell_first, spell_stmt, spell_stmt_step, spell_part_step, spell_switched, the_mark, in_braces, spell_stmts, spell_item, spelling}
use Rattle.k_tree.specs.Ranked.{RankedInit, RankedInits, one, braces, no_inits, more_inits, RankedDeclarator, RankedDeclaration, RankedParam, RankedParams, RankedHead, RankedFirst, RankedStmt, RankedParts, value, empty, block, if_alone, if_else, while_loop, do_loop, for_loop, switch_stmt, RankedSwitch, no_labels, case_label, default_label, does, break_loop, continue_loop, return_value, no_parts, statement, declaration, RankedItem, RankedUnit}
use Rattle.k_tree.specs.declared.tokens.mark.Mark.TheVariants as mark
use Rattle.k_tree.specs.declared.tree.expression.Expr.{Expr}
use Rattle.k_tree.proofs.Folds.{expr_Assign, expr_Binary, expr_Call, expr_Cast, expr_Char, expr_Comma, expr_Cond, expr_Index, expr_Name, expr_Number, expr_Paren, expr_Post, expr_Pre, expr_SizeofExpr, expr_SizeofType, expr_Str, expr_Unary}
use Rattle.k_tree.specs.Places.{Pieces, plain, at, kinds_of, lay_expr, lay_with_commas, lay_behind_commas, lay_option, lay_dims, lay_row}
use Rattle.k_tree.specs.Spelling.{Spelled, spell_expr, with_commas, behind_commas, spell_option, spell_dims, in_row}
use Rattle.k_tree.specs.Ranked.{Ranked, RankedArgs, IfGiven, RankedDims, no_args, more_args, comma, assignment, conditional, binary, cast, unary, prefix, sizeof_expr, sizeof_type, index, postfix, call, name, number, character, string, paren}

-- a place changes no token
pub kinds-at : (p : Place) (xs : Pieces) → kinds_of (at p xs) ≡ kinds_of xs
kinds-at p [] = refl
kinds-at p (x ∷ xs) = refl

pub kinds-plain : (tokens : Spelled) → kinds_of (plain tokens) ≡ tokens
kinds-plain [] = refl
kinds-plain (t ∷ tokens) = ap (λ rest. t ∷ rest) (kinds-plain tokens)

mutual
  pub expr_spelled : (k : ℕ) (e : Expr) → Ranked k e → kinds_of (lay_expr e) ≡ spell_expr e
  expr_spelled _ _ (comma k p a b h x y) = simp (expr_Comma, map-append, expr_spelled 0 a x, expr_spelled 1 b y)
  expr_spelled _ _ (assignment k p op a b h q x y) = simp (expr_Assign, map-append, expr_spelled 14 a x, expr_spelled 1 b y)
  expr_spelled _ _ (conditional k p a b c h x y z) = simp (expr_Cond, map-append, expr_spelled 3 a x, expr_spelled 0 b y, expr_spelled 2 c z)
  expr_spelled _ _ (binary k p op n a b h q x y) = simp (expr_Binary, map-append, expr_spelled n a x, expr_spelled (n + 1) b y)
  expr_spelled _ _ (cast k p specs stars a h q x) = simp (expr_Cast, map-append, kinds-plain, expr_spelled 13 a x)
  expr_spelled _ _ (unary k p op a h q x) = simp (expr_Unary, expr_spelled 13 a x)
  expr_spelled _ _ (prefix k p op a h q x) = simp (expr_Pre, expr_spelled 14 a x)
  expr_spelled _ _ (sizeof_expr k p a h x) = simp (expr_SizeofExpr, expr_spelled 14 a x)
  expr_spelled _ _ (sizeof_type k p specs stars h q) = simp (expr_SizeofType, kinds-plain)
  expr_spelled _ _ (index k p a b h x y) = simp (expr_Index, map-append, kinds-plain, expr_spelled 15 a x, expr_spelled 0 b y)
  expr_spelled _ _ (postfix k p op a h q x) = simp (expr_Post, map-append, expr_spelled 15 a x)
  expr_spelled _ _ (call k p f args h x) = simp (expr_Call, map-append, kinds-plain, args_spelled args x)
  expr_spelled _ _ (name k p t h) = simp (expr_Name)
  expr_spelled _ _ (number k p kind n h) = simp (expr_Number)
  expr_spelled _ _ (character k p t h) = simp (expr_Char)
  expr_spelled _ _ (string k p bytes h) = simp (expr_Str)
  expr_spelled _ _ (paren k p a h x) = simp (expr_Paren, map-append, kinds-plain, expr_spelled 0 a x)

  pub args_spelled : (args : List Expr) → RankedArgs args → kinds_of (lay_with_commas (map lay_expr args)) ≡ with_commas (map spell_expr args)
  args_spelled _ no_args = refl
  args_spelled _ (more_args a args x y) = simp (map-append, expr_spelled 1 a x, args_behind args y)

  pub args_behind : (args : List Expr) → RankedArgs args → kinds_of (lay_behind_commas (map lay_expr args)) ≡ behind_commas (map spell_expr args)
  args_behind _ no_args = refl
  args_behind _ (more_args a args x y) = simp (map-append, expr_spelled 1 a x, args_behind args y)

pub option_spelled : (k : ℕ) (e : Option Expr) → IfGiven (Ranked k) e → kinds_of (lay_option e) ≡ spell_option e
option_spelled k None h = refl
option_spelled k (Some e) h = expr_spelled k e h

pub dims_spelled : (dims : List (Option Expr)) → RankedDims dims → kinds_of (lay_dims dims) ≡ spell_dims dims
dims_spelled [] h = refl
dims_spelled (d ∷ dims) h =
    simp (map-append, option_spelled 2 d (All-head (IfGiven (Ranked 2)) d dims h), dims_spelled dims (All-tail (IfGiven (Ranked 2)) d dims h))

mutual
  pub init_spelled : (i : Init) → RankedInit i → kinds_of (lay_init i) ≡ spell_init i
  init_spelled _ (one p a x) = simp (init_One, kinds-at, expr_spelled 1 a x)
  init_spelled _ (braces p i is last x xs) = simp (init_List, map-append, kinds-plain, init_spelled i x, inits_behind is xs)

  pub inits_behind : (is : List Init) → RankedInits is → kinds_of (lay_behind_commas (map lay_init is)) ≡ behind_commas (map spell_init is)
  inits_behind _ no_inits = refl
  inits_behind _ (more_inits i is x xs) = simp (map-append, init_spelled i x, inits_behind is xs)

pub initialised_spelled : (i : Option Init) → IfGiven RankedInit i → kinds_of (lay_initialised i) ≡ spell_initialised i
initialised_spelled None h = refl
initialised_spelled (Some i) h = simp (init_spelled i h)

pub declarator_spelled : (d : Declarator) → RankedDeclarator d → kinds_of (lay_declarator d) ≡ spell_declarator d
declarator_spelled d h = simp (map-append, kinds-plain, dims_spelled d.dims h.0, initialised_spelled d.init h.1)

-- rows of pieces, where each piece is its spelling
behind_spelled : {A : Type 0} (P : A → Type 0) (lay : A → Pieces) (spell : A → Spelled)
    → ((x : A) → P x → kinds_of (lay x) ≡ spell x) → (xs : List A) → All P xs
    → kinds_of (lay_behind_commas (map lay xs)) ≡ behind_commas (map spell xs)
behind_spelled P lay spell each [] h = refl
behind_spelled P lay spell each (x ∷ xs) h =
    simp (map-append, each x (All-head P x xs h), behind_spelled P lay spell each xs (All-tail P x xs h))

commas_spelled : {A : Type 0} (P : A → Type 0) (lay : A → Pieces) (spell : A → Spelled)
    → ((x : A) → P x → kinds_of (lay x) ≡ spell x) → (xs : List A) → All P xs
    → kinds_of (lay_with_commas (map lay xs)) ≡ with_commas (map spell xs)
commas_spelled P lay spell each [] h = refl
commas_spelled P lay spell each (x ∷ xs) h =
    simp (map-append, each x (All-head P x xs h), behind_spelled P lay spell each xs (All-tail P x xs h))

both : (a b : Pieces) (x y : Spelled) → kinds_of a ≡ x → kinds_of b ≡ y → kinds_of (a ++ b) ≡ x ++ y
both a b x y p q = map-append (λ piece. piece.what) a b ∙ (ap (λ t. t ++ kinds_of b) p ∙ ap (λ t. x ++ t) q)

pub declarators_spelled : (list : List Declarator) → All RankedDeclarator list
    → kinds_of (lay_with_commas (map lay_declarator list)) ≡ with_commas (map spell_declarator list)
declarators_spelled list h = commas_spelled RankedDeclarator lay_declarator spell_declarator declarator_spelled list h

pub declaration_spelled : (specs : List Word) (list : List Declarator) → RankedDeclaration specs list
    → kinds_of (lay_declaration specs list) ≡ spell_declaration specs list
declaration_spelled specs list h = simp (map-append, kinds-plain, declarators_spelled list h.2)

pub param_spelled : (p : Param) → RankedParam p → kinds_of (lay_param p) ≡ spell_param p
param_spelled p h = simp (kinds-at, map-append, kinds-plain, dims_spelled p.dims h.1)

pub params_spelled : (list : Params) → RankedParams list → kinds_of (lay_params list) ≡ spell_params list
params_spelled params.Empty h = refl
params_spelled params.Void h = refl
params_spelled (params.List []) h = refl
params_spelled (params.List (p ∷ [])) h = simp (map-append, param_spelled p h.0)
params_spelled (params.List (p ∷ (q ∷ list))) h =
    commas_spelled RankedParam lay_param spell_param param_spelled (p ∷ (q ∷ list)) h

pub head_spelled : (h : Head) → RankedHead h → kinds_of (lay_head h) ≡ spell_head h
head_spelled h r = simp (map-append, kinds-plain, params_spelled h.params r.1)

pub first_spelled : (f : First) → RankedFirst f → kinds_of (lay_first f) ≡ spell_first f
first_spelled first.Nothing h = refl
first_spelled (first.Value e) h = simp (map-append, expr_spelled 0 e h)
first_spelled (first.Declare specs list) h = declaration_spelled specs list h

declare_spelled : (p : Place) (specs : List Word) (list : List Declarator) → RankedDeclaration specs list
    → kinds_of (lay_stmt (stmt.Declare p specs list)) ≡ spell_stmt (stmt.Declare p specs list)
declare_spelled p specs list h =
    ap (λ z. kinds_of z) (stmt_Declare Pieces Pieces lay_part_step lay_stmt_step p specs list)
    ∙ (kinds-at p (lay_declaration specs list)
    ∙ (declaration_spelled specs list h ∙ sym (stmt_Declare Spelled Spelled spell_part_step spell_stmt_step p specs list)))

mutual
  pub stmt_spelled : (s : Stmt) → RankedStmt s → kinds_of (lay_stmt s) ≡ spell_stmt s
  stmt_spelled _ (value p a x) = simp (stmt_Expr, kinds-at, map-append, expr_spelled 0 a x)
  stmt_spelled _ (empty p) = simp (stmt_Empty)
  stmt_spelled _ (block p parts x) = simp (stmt_Block, map-append, parts_spelled parts x)
  stmt_spelled _ (if_alone p a s x y) = simp (if_alone_folds, map-append, expr_spelled 0 a x, stmt_spelled s y)
  stmt_spelled _ (if_else p a s t x y q z) =
      simp (if_else_folds, map-append, expr_spelled 0 a x, stmt_spelled s y, stmt_spelled t z)
  stmt_spelled _ (while_loop p a s x y) = simp (stmt_While, map-append, expr_spelled 0 a x, stmt_spelled s y)
  stmt_spelled _ (do_loop p s a x y) = simp (stmt_DoWhile, map-append, expr_spelled 0 a y, stmt_spelled s x)
  stmt_spelled _ (for_loop p start a b s x y z w) =
      simp (stmt_For, map-append, first_spelled start x, option_spelled 0 a y, option_spelled 0 b z, stmt_spelled s w)
  stmt_spelled _ (switch_stmt p a parts x y) =
      simp (stmt_Switch, map-append, expr_spelled 0 a x, switched_spelled parts y)
  stmt_spelled _ (break_loop p) = simp (stmt_Break)
  stmt_spelled _ (continue_loop p) = simp (stmt_Continue)
  stmt_spelled _ (return_value p a x) = simp (stmt_Return, map-append, option_spelled 0 a x)

  pub parts_spelled : (parts : List Stmt) → RankedParts parts → kinds_of (lay_stmts parts) ≡ spell_stmts parts
  parts_spelled _ no_parts = refl
  parts_spelled _ (statement s parts x y) = simp (map-append, stmt_spelled s x, parts_spelled parts y)
  parts_spelled _ (declaration p specs list parts x y) =
      both (lay_stmt (stmt.Declare p specs list)) (lay_stmts parts) (spell_stmt (stmt.Declare p specs list)) (spell_stmts parts)
      (declare_spelled p specs list x) (parts_spelled parts y)

  pub switched_spelled : (parts : List Part) → RankedSwitch parts → kinds_of (lay_switched parts) ≡ spell_switched parts
  switched_spelled _ no_labels = refl
  switched_spelled _ (case_label p a parts x y) = simp (part_Case, map-append, expr_spelled 2 a x, switched_spelled parts y)
  switched_spelled _ (default_label p parts y) = simp (part_Default, map-append, switched_spelled parts y)
  switched_spelled _ (does p s parts x y) = simp (part_Does, map-append, kinds-at, stmt_spelled s x, switched_spelled parts y)

function_spelled : (p close : Place) (head body : Pieces)
    → kinds_of (at p head ++ (plain (the_mark mark.LeftBrace) ++ (body ++ at close (plain (the_mark mark.RightBrace)))))
    ≡ kinds_of head ++ in_braces (kinds_of body)
function_spelled p close head body = simp (map-append, kinds-at)

pub item_spelled : (i : Item) → RankedItem i → kinds_of (lay_item i) ≡ spell_item i
item_spelled (item.Function p h body close) r =
    function_spelled p close (lay_head h) (lay_stmts body)
    ∙ (ap (λ t. t ++ in_braces (kinds_of (lay_stmts body))) (head_spelled h r.0)
    ∙ ap (λ t. spell_head h ++ in_braces t) (parts_spelled body r.1))
item_spelled (item.Prototype p h) r =
    both (at p (lay_head h)) (plain (the_mark mark.Semicolon)) (spell_head h) (the_mark mark.Semicolon)
    (kinds-at p (lay_head h) ∙ head_spelled h r) refl
item_spelled (item.Objects p specs list) r = kinds-at p (lay_declaration specs list) ∙ declaration_spelled specs list r

items_spelled : (items : List Item) → All RankedItem items → kinds_of (lay_row (map lay_item items)) ≡ in_row (map spell_item items)
items_spelled [] h = refl
items_spelled (i ∷ items) h =
    simp (map-append, item_spelled i (All-head RankedItem i items h), items_spelled items (All-tail RankedItem i items h))

-- a source
pub unit_spelled : (u : source.Unit) → RankedUnit u → kinds_of (lay_unit u) ≡ spelling u
unit_spelled u h = simp (map-append, items_spelled u.items h)
