-- Declarations in the functions of a source that the grammar gives stand where they may.
use Rattle.std.proofs.Common.{◌≡◌, ℕ, zero, suc, Bool, true, false, ◌&&◌, List, [], ◌∷◌, map, slice_get, Some, None, refl, sym, ◌∙◌, ap, subst}
use Rattle.std.specs.Prelude.{All}
use Rattle.std.proofs.lemmas.Bool.{and_from}
use Rattle.std.proofs.lemmas.List.Elements.{All-head, All-tail}
use Rattle.std.proofs.lemmas.Option.{none-some, same_Some}
use Rattle.k_num.specs.declared.numbers.Kind.{Kind}
use Rattle.k_num.specs.Kind.{converted, promoted}
use Rattle.k_num.specs.declared.place.Place.{Place}
use Rattle.k_tree.specs.declared.tree.statement.Part.{Part, fold-Part}
use Rattle.k_tree.specs.declared.tree.statement.Part.TheOpen.{Part-F, Stmt-F}
use Rattle.k_tree.specs.declared.tree.statement.Part.TheVariants as part
use Rattle.k_tree.specs.declared.tree.statement.Stmt.{Stmt, fold-Stmt}
use Rattle.k_tree.specs.declared.tree.statement.Stmt.TheVariants as stmt
use Rattle.k_tree.specs.declared.tree.unit.Head.{Head}
use Rattle.k_tree.specs.declared.tree.unit.Item.{Item}
use Rattle.k_tree.specs.Ranked as ranked
use Rattle.k_tree.specs.Ranked.{RankedStmt, RankedParts, RankedSwitch, RankedItem}
use Rattle.k_tree.proofs.Folds as folds
use Rattle.k_types_meaning.specs.declared.tree.statement.TPart.{TPart, fold-TPart}
use Rattle.k_types_meaning.specs.declared.tree.statement.TPart.TheOpen.{TStmt-F}
use Rattle.k_types_meaning.specs.declared.tree.statement.TStmt.{TStmt}
use Rattle.k_types_meaning.specs.declared.tree.unit.TFunc.{TFunc}
use Rattle.k_types_meaning.specs.declared.tree.unit.TUnit.{TUnit}
use Rattle.k_types_meaning.specs.Bare.{bare_function, bare_stmt}
use Rattle.k_types_meaning.specs.Conversions.{in_kind}
use Rattle.k_types_meaning.specs.Declarations.{saying}
use Rattle.k_types_meaning.specs.Names.{Names}
use Rattle.k_types_meaning.specs.Statements.{Around, Known, Labels, spot, opened, inside_loop, inside_switch, no_labels}
use Rattle.k_types_meaning.specs.Units.{FileKnown, Parts, defined_by, is_name, nothing_known}
use Rattle.k_types_meaning.specs.ElaboratedStatements.{ElabStmt, ElabStmts, ElabPart, ElabParts, expression, empty, block, if_alone, if_else, while_loop, do_loop, for_loop, switch_on, break_within, continue_within, return_none, return_value, declaration, no_stmts, more_stmts, case_label, default_label, does, no_parts, more_parts, taking}
use Rattle.k_types_meaning.specs.ElaboratedFunctions.{ElabFunction, definition, within, known_to_body}
use Rattle.k_types_meaning.specs.ElaboratedUnits.{ElabItem, ElabItems, function, prototype_alone, objects, no_items, more_items}
use Rattle.k_types_meaning.proofs.Fine.{AllOf}
use Rattle.k_types_meaning.proofs.Folds.{done_Expr, done_Empty, done_Block, done_alone, done_else, done_While, done_DoWhile, done_For, done_Switch, done_Break, done_Continue, done_Return, done_Declare, part_Case, part_Default, part_Does}
use Rattle.k_types_meaning.proofs.SourcesElaborate.{typed_items_elaborate}
use Rattle.k_lower_fits.specs.Laws.{DeclarationsArePlaced}
use Rattle.k_lower_fits.specs.Placed.{Placing, all_placed, option_placed, placed_step, placed_part, stmt_placed, body_placed}
use Rattle.k_lower_fits.proofs.Bared.{bare_stmt_form, stmt_same}
use Rattle.k_lower_fits.proofs.Functions.{no_functions}
use Rattle.k_lower_fits.proofs.Split.{joined}

-- THE SAME of trees of syntax
abbrev source_step : Stmt-F Placing Placing → Placing
source_step (Stmt-F.Expr p e) here = true
source_step (Stmt-F.Empty p) here = true
source_step (Stmt-F.Block p parts) here = all_placed true parts
source_step (Stmt-F.If p test a b) here = a false && option_placed b
source_step (Stmt-F.While p test body) here = body false
source_step (Stmt-F.DoWhile p body test) here = body false
source_step (Stmt-F.For p start test step body) here = body false
source_step (Stmt-F.Switch p on parts) here = all_placed false parts
source_step (Stmt-F.Break p) here = true
source_step (Stmt-F.Continue p) here = true
source_step (Stmt-F.Return p value) here = true
source_step (Stmt-F.Declare p specs list) here = here

abbrev source_part : Part-F Placing Placing → Placing
source_part (Part-F.Case p e) here = true
source_part (Part-F.Default p) here = true
source_part (Part-F.Does p s) here = s here

abbrev in_source : Stmt → Placing
in_source = fold-Stmt Placing Placing source_part source_step

abbrev part_in_source : Part → Placing
part_in_source = fold-Part Placing Placing source_part source_step

at_here : (f g : Placing) (here : Bool) → f ≡ g → g here ≡ true → f here ≡ true
at_here f g here is h = ap (λ (k : Placing). k here) is ∙ h

-- WHAT THE GRAMMAR GIVES is right
mutual
  stmt_right : (s : Stmt) → RankedStmt s → (here : Bool) → in_source s here ≡ true
  stmt_right _ (ranked.value p a x) here = at_here (in_source (stmt.Expr p a)) (λ h. true) here (folds.stmt_Expr Placing Placing source_part source_step p a) refl
  stmt_right _ (ranked.empty p) here = at_here (in_source (stmt.Empty p)) (λ h. true) here (folds.stmt_Empty Placing Placing source_part source_step p) refl
  stmt_right _ (ranked.block p parts xs) here =
      at_here (in_source (stmt.Block p parts)) (λ h. all_placed true (map in_source parts)) here (folds.stmt_Block Placing Placing source_part source_step p parts) (parts_right parts xs)
  stmt_right _ (ranked.if_alone p a s e x) here =
      at_here (in_source (stmt.If p a s None)) (λ h. in_source s false && true) here (folds.if_alone Placing Placing source_part source_step p a s) (and_from (in_source s false) true (stmt_right s x false) refl)
  stmt_right _ (ranked.if_else p a s t e x shut y) here =
      at_here (in_source (stmt.If p a s (Some t))) (λ h. in_source s false && in_source t false) here (folds.if_else Placing Placing source_part source_step p a s t)
      (and_from (in_source s false) (in_source t false) (stmt_right s x false) (stmt_right t y false))
  stmt_right _ (ranked.while_loop p a s e x) here =
      at_here (in_source (stmt.While p a s)) (λ h. in_source s false) here (folds.stmt_While Placing Placing source_part source_step p a s) (stmt_right s x false)
  stmt_right _ (ranked.do_loop p s a x e) here =
      at_here (in_source (stmt.DoWhile p s a)) (λ h. in_source s false) here (folds.stmt_DoWhile Placing Placing source_part source_step p s a) (stmt_right s x false)
  stmt_right _ (ranked.for_loop p start a b s f e d x) here =
      at_here (in_source (stmt.For p start a b s)) (λ h. in_source s false) here (folds.stmt_For Placing Placing source_part source_step p start a b s) (stmt_right s x false)
  stmt_right _ (ranked.switch_stmt p a parts e xs) here =
      at_here (in_source (stmt.Switch p a parts)) (λ h. all_placed false (map part_in_source parts)) here (folds.stmt_Switch Placing Placing source_part source_step p a parts) (switch_right parts xs)
  stmt_right _ (ranked.break_loop p) here = at_here (in_source (stmt.Break p)) (λ h. true) here (folds.stmt_Break Placing Placing source_part source_step p) refl
  stmt_right _ (ranked.continue_loop p) here = at_here (in_source (stmt.Continue p)) (λ h. true) here (folds.stmt_Continue Placing Placing source_part source_step p) refl
  stmt_right _ (ranked.return_value p a x) here = at_here (in_source (stmt.Return p a)) (λ h. true) here (folds.stmt_Return Placing Placing source_part source_step p a) refl

  parts_right : (parts : List Stmt) → RankedParts parts → all_placed true (map in_source parts) ≡ true
  parts_right _ ranked.no_parts = refl
  parts_right _ (ranked.statement s parts x xs) = and_from (in_source s true) (all_placed true (map in_source parts)) (stmt_right s x true) (parts_right parts xs)
  parts_right _ (ranked.declaration p specs list parts x xs) =
      and_from (in_source (stmt.Declare p specs list) true) (all_placed true (map in_source parts))
      (at_here (in_source (stmt.Declare p specs list)) (λ h. h) true (folds.stmt_Declare Placing Placing source_part source_step p specs list) refl) (parts_right parts xs)

  switch_right : (parts : List Part) → RankedSwitch parts → all_placed false (map part_in_source parts) ≡ true
  switch_right _ ranked.no_labels = refl
  switch_right _ (ranked.case_label p a parts x xs) =
      and_from (part_in_source (part.Case p a) false) (all_placed false (map part_in_source parts))
      (at_here (part_in_source (part.Case p a)) (λ h. true) false (folds.part_Case Placing Placing source_part source_step p a) refl) (switch_right parts xs)
  switch_right _ (ranked.default_label p parts xs) =
      and_from (part_in_source (part.Default p) false) (all_placed false (map part_in_source parts))
      (at_here (part_in_source (part.Default p)) (λ h. true) false (folds.part_Default Placing Placing source_part source_step p) refl) (switch_right parts xs)
  switch_right _ (ranked.does p s parts x xs) =
      and_from (part_in_source (part.Does p s) false) (all_placed false (map part_in_source parts))
      (at_here (part_in_source (part.Does p s)) (in_source s) false (folds.part_Does Placing Placing source_part source_step p s) (stmt_right s x false)) (switch_right parts xs)

-- TYPING keeps what is right
abbrev part_placed : TPart → Placing
part_placed = fold-TPart Placing Placing placed_part placed_step

mutual
  stmt_kept : (around : Around) (known : Known) (s : Stmt) (t : TStmt) (after : Known) → ElabStmt around known s t after → stmt_placed t ≡ in_source s
  stmt_kept _ _ _ _ _ (expression around known p e v x) =
      done_Expr Placing Placing placed_part placed_step (spot p) v.tree ∙ sym (folds.stmt_Expr Placing Placing source_part source_step p e)
  stmt_kept _ _ _ _ _ (empty around known p) = done_Empty Placing Placing placed_part placed_step (spot p) ∙ sym (folds.stmt_Empty Placing Placing source_part source_step p)
  stmt_kept _ _ _ _ _ (block around known p parts trees inside xs) =
      done_Block Placing Placing placed_part placed_step (spot p) trees ∙ (λ i. λ here. all_placed true (stmts_kept around (opened known) parts trees inside xs i))
      ∙ sym (folds.stmt_Block Placing Placing source_part source_step p parts)
  stmt_kept _ _ _ _ _ (if_alone around known p e s v kind t after x number a) =
      done_alone Placing Placing placed_part placed_step (spot p) v.tree t ∙ (λ i. λ here. stmt_kept around (taking known v) s t after a i false && true)
      ∙ sym (folds.if_alone Placing Placing source_part source_step p e s)
  stmt_kept _ _ _ _ _ (if_else around known p e s other v kind t u middle after x number a b) =
      done_else Placing Placing placed_part placed_step (spot p) v.tree t u
      ∙ (λ i. λ here. stmt_kept around (taking known v) s t middle a i false && stmt_kept around middle other u after b i false)
      ∙ sym (folds.if_else Placing Placing source_part source_step p e s other)
  stmt_kept _ _ _ _ _ (while_loop around known p e s v kind t after x number a) =
      done_While Placing Placing placed_part placed_step (spot p) 0 v.tree t ∙ (λ i. λ here. stmt_kept (inside_loop around) (taking known v) s t after a i false)
      ∙ sym (folds.stmt_While Placing Placing source_part source_step p e s)
  stmt_kept _ _ _ _ _ (do_loop around known p s e t middle v kind a x number) =
      done_DoWhile Placing Placing placed_part placed_step (spot p) 0 t v.tree ∙ (λ i. λ here. stmt_kept (inside_loop around) known s t middle a i false)
      ∙ sym (folds.stmt_DoWhile Placing Placing source_part source_step p s e)
  stmt_kept _ _ _ _ _ (for_loop around known p start test step s f a b t started tried went inside x y z body) =
      done_For Placing Placing placed_part placed_step (spot p) 0 f a b t ∙ (λ i. λ here. stmt_kept (inside_loop around) went s t inside body i false)
      ∙ sym (folds.stmt_For Placing Placing source_part source_step p start test step s)
  stmt_kept _ _ _ _ _ (switch_on around known p e parts v kind trees after x number xs) =
      done_Switch Placing Placing placed_part placed_step (spot p) (promoted kind) (in_kind kind (promoted kind) v.tree) trees
      ∙ (λ i. λ here. all_placed false (parts_kept (inside_switch around) (promoted kind) no_labels (taking known v) parts trees after xs i))
      ∙ sym (folds.stmt_Switch Placing Placing source_part source_step p e parts)
  stmt_kept _ _ _ _ _ (break_within around known p in_one) = done_Break Placing Placing placed_part placed_step (spot p) ∙ sym (folds.stmt_Break Placing Placing source_part source_step p)
  stmt_kept _ _ _ _ _ (continue_within around known p in_one) = done_Continue Placing Placing placed_part placed_step (spot p) ∙ sym (folds.stmt_Continue Placing Placing source_part source_step p)
  stmt_kept _ _ _ _ _ (return_none around known p none) = done_Return Placing Placing placed_part placed_step (spot p) None ∙ sym (folds.stmt_Return Placing Placing source_part source_step p None)
  stmt_kept _ _ _ _ _ (return_value around known p e v tree x gave) =
      done_Return Placing Placing placed_part placed_step (spot p) (Some tree) ∙ sym (folds.stmt_Return Placing Placing source_part source_step p (Some e))
  stmt_kept _ _ _ _ _ (declaration around known p specs list trees after x) =
      done_Declare Placing Placing placed_part placed_step (spot p) trees ∙ sym (folds.stmt_Declare Placing Placing source_part source_step p specs list)

  stmts_kept : (around : Around) (known : Known) (ss : List Stmt) (ts : List TStmt) (after : Known) → ElabStmts around known ss ts after → map stmt_placed ts ≡ map in_source ss
  stmts_kept _ _ _ _ _ (no_stmts around known) = refl
  stmts_kept _ _ _ _ _ (more_stmts around known s ss t ts middle after x xs) = λ i. stmt_kept around known s t middle x i ∷ stmts_kept around middle ss ts after xs i

  part_kept : (around : Around) (kind : Kind) (labels : Labels) (known : Known) (x : Part) (t : TPart) (labelled : Labels) (after : Known)
      → ElabPart around kind labels known x t labelled after → part_placed t ≡ part_in_source x
  part_kept _ _ _ _ _ _ _ _ (case_label around kind labels known p e v z x constant new) =
      part_Case Placing Placing placed_part placed_step p (converted kind z) ∙ sym (folds.part_Case Placing Placing source_part source_step p e)
  part_kept _ _ _ _ _ _ _ _ (default_label around kind labels known p new) = part_Default Placing Placing placed_part placed_step p ∙ sym (folds.part_Default Placing Placing source_part source_step p)
  part_kept _ _ _ _ _ _ _ _ (does around kind labels known p s t after x) =
      part_Does Placing Placing placed_part placed_step p t ∙ stmt_kept around known s t after x ∙ sym (folds.part_Does Placing Placing source_part source_step p s)

  parts_kept : (around : Around) (kind : Kind) (labels : Labels) (known : Known) (xs : List Part) (ts : List TPart) (after : Known)
      → ElabParts around kind labels known xs ts after → map part_placed ts ≡ map part_in_source xs
  parts_kept _ _ _ _ _ _ _ (no_parts around kind labels known) = refl
  parts_kept _ _ _ _ _ _ _ (more_parts around kind labels known x xs t ts labelled middle after a b) =
      λ i. part_kept around kind labels known x t labelled middle a i ∷ parts_kept around kind labelled middle xs ts after b i

-- FUNCTIONS
abbrev IsPlaced : TFunc → Type 0
IsPlaced f = body_placed f.body ≡ true

function_placed : (listed : List (List ℕ)) (again : Bool) (names : Names) (p : Place) (head : Head) (body : List Stmt) (close : Place) (f : TFunc)
    → ElabFunction listed again names p head body close f → RankedParts body → IsPlaced f
function_placed _ _ _ _ _ _ _ _ (definition listed again names p head body close types inside of trees after given declares stmts) is =
    ap (all_placed true) (stmts_kept (within of) (known_to_body listed names head inside) body trees after stmts) ∙ parts_right body is

item_right : (listed : List (List ℕ)) (known : FileKnown) (i : Item) (parts : Parts) (after : FileKnown) → ElabItem listed known i parts after → RankedItem i → AllOf IsPlaced parts.functions
item_right _ _ _ _ _ (function listed known p head body close f x) is = (function_placed listed (is_name known.functions head.name) known.names p head body close f x is.1, tt)
item_right _ _ _ _ _ (prototype_alone listed known p head x) is = tt
item_right _ _ _ _ _ (objects listed known p specs list parts after x) is = subst (AllOf IsPlaced) (sym (no_functions (saying true specs) known list parts after x)) tt

items_right : (listed : List (List ℕ)) (known : FileKnown) (items : List Item) (parts : Parts) (after : FileKnown) → ElabItems listed known items parts after → All RankedItem items → AllOf IsPlaced parts.functions
items_right _ _ _ _ _ (no_items listed known) is = tt
items_right _ _ _ _ _ (more_items listed known i items a b middle after x xs) is =
    joined IsPlaced a.functions b.functions (item_right listed known i a middle x (All-head RankedItem i items is)) (items_right listed middle items b after xs (All-tail RankedItem i items is))

-- THEIR NUMBERS change nothing
keeps : (y : TStmt-F Placing Placing) → placed_step (bare_stmt_form y) ≡ placed_step y
keeps (TStmt-F.Empty spot) = refl
keeps _ = refl

bodies : (body : List TStmt) → map stmt_placed (map bare_stmt body) ≡ map stmt_placed body
bodies [] = refl
bodies (s ∷ body) = λ i. stmt_same Placing Placing placed_part placed_step keeps s i ∷ bodies body i

there : (fs : List TFunc) (n : ℕ) (f : TFunc) → slice_get fs n ≡ Some f → AllOf IsPlaced (map bare_function fs) → IsPlaced f
there [] n f is h = absurd (none-some f is)
there (g ∷ fs) zero f is h = subst IsPlaced (same_Some g f is) (sym (ap (all_placed true) (bodies g.body)) ∙ h.0)
there (g ∷ fs) (suc n) f is h = there fs n f is h.1

pub declarations_are_placed : DeclarationsArePlaced
declarations_are_placed unit typed n f right h is =
    let found = (typed_items_elaborate unit typed).0 h in
    there typed.functions n f is
    (subst (AllOf IsPlaced) (sym (ap (λ (u : TUnit). u.functions) (found.3).0)) (items_right (defined_by unit) nothing_known unit.items found.0 found.1 found.2 right))
