-- No braces of an initialiser that gives a dimension are empty, in a source that the grammar gives.
use Rattle.std.proofs.Common.{◌≡◌, ℕ, Bool, true, false, ◌&&◌, List, [], ◌∷◌, map, Option, Some, None, refl, sym, ◌∙◌, arith}
use Rattle.std.specs.Prelude.{All}
use Rattle.std.proofs.lemmas.Bool.{and_from, false≢true}
use Rattle.std.proofs.lemmas.List.Elements.{All-head, All-tail}
use Rattle.k_tree.specs.declared.tree.declaration.Declarator.{Declarator}
use Rattle.k_tree.specs.declared.tree.declaration.Init.{Init, fold-Init, fold_out-Init, map-Init, out-Init}
use Rattle.k_tree.specs.declared.tree.declaration.Init.TheOpen.{Init-F}
use Rattle.k_tree.specs.declared.tree.statement.First.{First}
use Rattle.k_tree.specs.declared.tree.statement.First.TheVariants as first
use Rattle.k_tree.specs.declared.tree.statement.Part.{Part, fold-Part}
use Rattle.k_tree.specs.declared.tree.statement.Part.TheOpen.{Part-F, Stmt-F}
use Rattle.k_tree.specs.declared.tree.statement.Part.TheVariants as part
use Rattle.k_tree.specs.declared.tree.statement.Stmt.{Stmt, fold-Stmt}
use Rattle.k_tree.specs.declared.tree.statement.Stmt.TheVariants as stmt
use Rattle.k_tree.specs.Ranked as ranked
use Rattle.k_tree.specs.Ranked.{IfGiven, RankedDeclarator, RankedFirst, RankedInit, RankedParts, RankedStmt, RankedSwitch}
use Rattle.k_tree.proofs.Folds as folds
use Rattle.k_types_meaning.specs.Initialisers.{first_given, first_step, length_with_end, string_of}
use Rattle.k_lower_texts.specs.Passing.{all_pass, if_passes}
use Rattle.k_lower_texts.proofs.Small.{GivesSome}

-- an initialiser's braces have something in them
abbrev filled_step : Init-F Bool → Bool
filled_step (Init-F.One p e) = true
filled_step (Init-F.List p [] comma) = false
filled_step (Init-F.List p (i ∷ items) comma) = true

abbrev pub filled_start : Option Init → Bool
filled_start None = true
filled_start (Some i) = fold-Init Bool filled_step i

-- so have those of declarators
abbrev pub filled_list : List Declarator → Bool
filled_list [] = true
filled_list (d ∷ ds) = filled_start d.init && filled_list ds

abbrev pub filled_first : First → Bool
filled_first first.Nothing = true
filled_first (first.Value e) = true
filled_first (first.Declare specs list) = filled_list list

-- of a statement, of whose statements and parts it is known
abbrev pub filled_stmt : Stmt-F Bool Bool → Bool
filled_stmt (Stmt-F.Expr p e) = true
filled_stmt (Stmt-F.Empty p) = true
filled_stmt (Stmt-F.Block p parts) = all_pass parts
filled_stmt (Stmt-F.If p e a b) = a && if_passes b
filled_stmt (Stmt-F.While p e a) = a
filled_stmt (Stmt-F.DoWhile p a e) = a
filled_stmt (Stmt-F.For p start test step a) = filled_first start && a
filled_stmt (Stmt-F.Switch p e parts) = all_pass parts
filled_stmt (Stmt-F.Break p) = true
filled_stmt (Stmt-F.Continue p) = true
filled_stmt (Stmt-F.Return p value) = true
filled_stmt (Stmt-F.Declare p specs list) = filled_list list

abbrev pub filled_part : Part-F Bool Bool → Bool
filled_part (Part-F.Case p e) = true
filled_part (Part-F.Default p) = true
filled_part (Part-F.Does p s) = s

abbrev pub filled : Stmt → Bool
filled = fold-Stmt Bool Bool filled_part filled_stmt

abbrev pub part_filled : Part → Bool
part_filled = fold-Part Bool Bool filled_part filled_stmt

-- WHAT SUCH AN INITIALISER GIVES to a first dimension is at least 1
string_gives : (o : Option (List ℕ)) → GivesSome (length_with_end o)
string_gives None = tt
string_gives (Some bytes) = omega arith

step_gives : (i : Init-F Init) → filled_step (map-Init Init Bool (fold-Init Bool filled_step) i) ≡ true → GivesSome (first_step i)
step_gives (Init-F.One p e) h = string_gives (string_of e)
step_gives (Init-F.List p [] comma) h = absurd (false≢true h)
step_gives (Init-F.List p (i ∷ items) comma) h = omega arith

pub start_gives : (o : Option Init) → filled_start o ≡ true → GivesSome (first_given o)
start_gives None h = tt
start_gives (Some i) h = step_gives (out-Init i) (sym (fold_out-Init Bool filled_step i) ∙ h)

-- THE GRAMMAR gives such initialisers alone
init_filled : (i : Init) → RankedInit i → fold-Init Bool filled_step i ≡ true
init_filled _ (ranked.one p a x) = folds.init_One Bool filled_step p a
init_filled _ (ranked.braces p x xs last one more) = folds.init_List Bool filled_step p (x ∷ xs) last

start_filled : (o : Option Init) → IfGiven RankedInit o → filled_start o ≡ true
start_filled None h = refl
start_filled (Some i) h = init_filled i h

pub list_filled : (ds : List Declarator) → All RankedDeclarator ds → filled_list ds ≡ true
list_filled [] h = refl
list_filled (d ∷ ds) h = and_from (filled_start d.init) (filled_list ds) (start_filled d.init (All-head RankedDeclarator d ds h).1) (list_filled ds (All-tail RankedDeclarator d ds h))

first_filled : (f : First) → RankedFirst f → filled_first f ≡ true
first_filled first.Nothing h = refl
first_filled (first.Value e) h = refl
first_filled (first.Declare specs list) h = list_filled list h.2

mutual
  stmt_filled : (s : Stmt) → RankedStmt s → filled s ≡ true
  stmt_filled _ (ranked.value p a x) = folds.stmt_Expr Bool Bool filled_part filled_stmt p a
  stmt_filled _ (ranked.empty p) = folds.stmt_Empty Bool Bool filled_part filled_stmt p
  stmt_filled _ (ranked.block p parts xs) = folds.stmt_Block Bool Bool filled_part filled_stmt p parts ∙ parts_filled parts xs
  stmt_filled _ (ranked.if_alone p a s e x) = folds.if_alone Bool Bool filled_part filled_stmt p a s ∙ and_from (filled s) true (stmt_filled s x) refl
  stmt_filled _ (ranked.if_else p a s t e x shut y) = folds.if_else Bool Bool filled_part filled_stmt p a s t ∙ and_from (filled s) (filled t) (stmt_filled s x) (stmt_filled t y)
  stmt_filled _ (ranked.while_loop p a s e x) = folds.stmt_While Bool Bool filled_part filled_stmt p a s ∙ stmt_filled s x
  stmt_filled _ (ranked.do_loop p s a x e) = folds.stmt_DoWhile Bool Bool filled_part filled_stmt p s a ∙ stmt_filled s x
  stmt_filled _ (ranked.for_loop p start a b s f e d x) = folds.stmt_For Bool Bool filled_part filled_stmt p start a b s ∙ and_from (filled_first start) (filled s) (first_filled start f) (stmt_filled s x)
  stmt_filled _ (ranked.switch_stmt p a parts e xs) = folds.stmt_Switch Bool Bool filled_part filled_stmt p a parts ∙ switch_filled parts xs
  stmt_filled _ (ranked.break_loop p) = folds.stmt_Break Bool Bool filled_part filled_stmt p
  stmt_filled _ (ranked.continue_loop p) = folds.stmt_Continue Bool Bool filled_part filled_stmt p
  stmt_filled _ (ranked.return_value p a x) = folds.stmt_Return Bool Bool filled_part filled_stmt p a

  pub parts_filled : (parts : List Stmt) → RankedParts parts → all_pass (map filled parts) ≡ true
  parts_filled _ ranked.no_parts = refl
  parts_filled _ (ranked.statement s parts x xs) = and_from (filled s) (all_pass (map filled parts)) (stmt_filled s x) (parts_filled parts xs)
  parts_filled _ (ranked.declaration p specs list parts x xs) =
      and_from (filled (stmt.Declare p specs list)) (all_pass (map filled parts)) (folds.stmt_Declare Bool Bool filled_part filled_stmt p specs list ∙ list_filled list x.2) (parts_filled parts xs)

  switch_filled : (parts : List Part) → RankedSwitch parts → all_pass (map part_filled parts) ≡ true
  switch_filled _ ranked.no_labels = refl
  switch_filled _ (ranked.case_label p a parts x xs) =
      and_from (part_filled (part.Case p a)) (all_pass (map part_filled parts)) (folds.part_Case Bool Bool filled_part filled_stmt p a) (switch_filled parts xs)
  switch_filled _ (ranked.default_label p parts xs) =
      and_from (part_filled (part.Default p)) (all_pass (map part_filled parts)) (folds.part_Default Bool Bool filled_part filled_stmt p) (switch_filled parts xs)
  switch_filled _ (ranked.does p s parts x xs) =
      and_from (part_filled (part.Does p s)) (all_pass (map part_filled parts)) (folds.part_Does Bool Bool filled_part filled_stmt p s ∙ stmt_filled s x) (switch_filled parts xs)
