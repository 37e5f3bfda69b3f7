-- Where functions and loops of a source stand, tokens stand, and their names are those of tokens.
use Rattle.std.proofs.Common.{◌≡◌, ℕ, suc, refl, sym, subst, List, [], ◌∷◌, ◌++◌, map, slice_get, Some, None}
use Rattle.std.specs.Prelude.{All}
use Rattle.std.proofs.lemmas.List.Elements.{All-head, All-tail}
use Rattle.k_num.specs.declared.place.Place.{Place}
use Rattle.k_tree.specs.declared.tokens.Token.{Token}
use Rattle.k_tree.specs.declared.tokens.TokenKind.{TokenKind}
use Rattle.k_tree.specs.declared.tokens.TokenKind.TheVariants as token
use Rattle.k_tree.specs.declared.tokens.mark.Mark.TheVariants as mark
use Rattle.k_tree.specs.declared.tree.statement.Part.{Part, fold-roll-Part, map-Part}
use Rattle.k_tree.specs.declared.tree.statement.Part.TheOpen.{Part-F, Stmt-F}
use Rattle.k_tree.specs.declared.tree.statement.Stmt.{Stmt, fold-roll-Stmt, ind-Stmt, map-Stmt}
use Rattle.k_tree.specs.declared.tree.unit.Item.{Item}
use Rattle.k_tree.specs.declared.tree.unit.Item.TheVariants as item
use Rattle.k_tree.specs.declared.tree.unit.Unit as source
use Rattle.k_tree.specs.Places.{Piece, Pieces, Placed, Stand, at, lay_else, lay_expr, lay_for, lay_head, lay_in_parens, lay_item, lay_part, lay_part_step, lay_row, lay_stmt, lay_stmt_step, lay_stmts, lay_unit, lay_with_commas, lay_declarator, plain}
use Rattle.k_tree.specs.Spelling.{spell_specs, spell_stars}
use Rattle.k_types_meaning.specs.Units.{all_names, defined_by, defined_in}
use Rattle.k_regions.proofs.Functions.{items_seen}
use Rattle.k_regions.proofs.Seen.{Pair, Shape, all_loops, see, see_part, see_part_step, see_stmt_step}

module _ (IsPlace : Place → Type 0) (IsKind : TokenKind → Type 0) where
  abbrev EachPlace : List Place → Type 0
  EachPlace [] = Unit {0}
  EachPlace (p ∷ places) = IsPlace p × EachPlace places

  abbrev AreGood : Pieces → Type 0
  AreGood [] = Unit {0}
  AreGood (piece ∷ pieces) = (EachPlace piece.places × IsKind piece.what) × AreGood pieces

  -- tokens, of whose places and kinds that holds
  abbrev pub AreTokens : List Token → Type 0
  AreTokens tokens = (n : ℕ) (t : Token) → slice_get tokens n ≡ Some t → IsPlace t.place × IsKind t.what

  places_good : (q : Place) (places : List Place) → All (λ p. p ≡ q) places → IsPlace q → EachPlace places
  places_good q [] h one = tt
  places_good q (p ∷ places) h one =
      (subst IsPlace (sym (All-head (λ p. p ≡ q) p places h)) one, places_good q places (All-tail (λ p. p ≡ q) p places h) one)

  stand_good : (pieces : Pieces) (tokens : List Token) → Stand pieces tokens → AreTokens tokens → AreGood pieces
  stand_good [] tokens h k = tt
  stand_good (piece ∷ pieces) [] h k = absurd h
  stand_good (piece ∷ pieces) (t ∷ tokens) h k =
      ((places_good t.place piece.places h.1 (k 0 t refl).0, subst IsKind h.0 (k 0 t refl).1), stand_good pieces tokens h.2 (λ n. k (suc n)))

  good_first : (xs ys : Pieces) → AreGood (xs ++ ys) → AreGood xs
  good_first [] ys h = tt
  good_first (x ∷ xs) ys h = (h.0, good_first xs ys h.1)

  good_second : (xs ys : Pieces) → AreGood (xs ++ ys) → AreGood ys
  good_second [] ys h = h
  good_second (x ∷ xs) ys h = good_second xs ys h.1

  -- a node at the first token of pieces
  at_rest : (place : Place) (pieces : Pieces) → AreGood (at place pieces) → AreGood pieces
  at_rest place [] h = tt
  at_rest place (piece ∷ pieces) h = ((h.0.0.1, h.0.1), h.1)

  at_before : (place : Place) (xs : Pieces) (y : Piece) → AreGood (at place (xs ++ y ∷ [])) → IsPlace place
  at_before place [] y h = h.0.0.0
  at_before place (x ∷ xs) y h = h.0.0.0

  at_before_two : (place : Place) (xs ys : Pieces) (z : Piece) → AreGood (at place (xs ++ (ys ++ z ∷ []))) → IsPlace place
  at_before_two place [] ys z h = at_before place ys z h
  at_before_two place (x ∷ xs) ys z h = h.0.0.0

  -- the semicolon behind a statement
  abbrev semicolon : Piece
  semicolon = record { what = token.Mark mark.Semicolon; places = [] }

  abbrev pub LoopsGood : List Pair → Type 0
  LoopsGood [] = Unit {0}
  LoopsGood (l ∷ loops) = (IsPlace l.0 × IsPlace l.1) × LoopsGood loops

  abbrev pub ShapeGood : Shape → Type 0
  ShapeGood s = IsPlace s.place × LoopsGood s.loops

  loops_both : (xs ys : List Pair) → LoopsGood xs → LoopsGood ys → LoopsGood (xs ++ ys)
  loops_both [] ys h k = k
  loops_both (x ∷ xs) ys h k = (h.0, loops_both xs ys h.1 k)

  -- STATEMENTS
  abbrev OfStmt : Stmt → Type 0
  OfStmt s = AreGood (lay_stmt s) → ShapeGood (see s)

  abbrev OfPart : Part → Type 0
  OfPart p = AreGood (lay_part p) → LoopsGood (see_part p).loops

  abbrev Stmts : Type 0
  Stmts = List ((s : Stmt) × OfStmt s)

  abbrev Parts : Type 0
  Parts = List ((p : Part) × OfPart p)

  abbrev stmts : Stmts → List Stmt
  stmts xs = map (λ (x : (s : Stmt) × OfStmt s). x.0) xs

  abbrev parts_in : Parts → List Part
  parts_in xs = map (λ (x : (p : Part) × OfPart p). x.0) xs

  all_good : (xs : Stmts) → AreGood (lay_row (map lay_stmt (stmts xs))) → LoopsGood (all_loops (map see (stmts xs)))
  all_good [] h = tt
  all_good (x ∷ xs) h =
      loops_both (see x.0).loops (all_loops (map see (stmts xs))) (x.1 (good_first (lay_stmt x.0) (lay_row (map lay_stmt (stmts xs))) h)).1
      (all_good xs (good_second (lay_stmt x.0) (lay_row (map lay_stmt (stmts xs))) h))

  parts_good : (xs : Parts) → AreGood (lay_row (map lay_part (parts_in xs))) → LoopsGood (all_loops (map see_part (parts_in xs)))
  parts_good [] h = tt
  parts_good (x ∷ xs) h =
      loops_both (see_part x.0).loops (all_loops (map see_part (parts_in xs))) (x.1 (good_first (lay_part x.0) (lay_row (map lay_part (parts_in xs))) h))
      (parts_good xs (good_second (lay_part x.0) (lay_row (map lay_part (parts_in xs))) h))

  abbrev PartLayer : Part-F Part Stmt → Type 0
  PartLayer z = AreGood (lay_part_step (map-Part Part Stmt Pieces Pieces lay_part lay_stmt z)) → LoopsGood (see_part_step (map-Part Part Stmt Shape Shape see_part see z)).loops

  abbrev StmtLayer : Stmt-F Part Stmt → Type 0
  StmtLayer z = AreGood (lay_stmt_step (map-Stmt Part Stmt Pieces Pieces lay_part lay_stmt z)) → ShapeGood (see_stmt_step (map-Stmt Part Stmt Shape Shape see_part see z))

  part_by : (y : Part-F ((p : Part) × OfPart p) ((s : Stmt) × OfStmt s))
      → PartLayer (map-Part _ _ Part Stmt (λ (x : (p : Part) × OfPart p). x.0) (λ (x : (s : Stmt) × OfStmt s). x.0) y)
  part_by (Part-F.Case p e) h = tt
  part_by (Part-F.Default p) h = tt
  part_by (Part-F.Does p s) h = (s.1 (at_rest p (lay_stmt s.0) h)).1

  -- a loop at a place, and what is known of its body
  loop_good : (p : Place) (s : Shape) → IsPlace p → ShapeGood s → IsPlace p × LoopsGood ((p, s.place) ∷ s.loops)
  loop_good p s one h = (one, ((one, h.0), h.1))

  stmt_by : (y : Stmt-F ((p : Part) × OfPart p) ((s : Stmt) × OfStmt s))
      → StmtLayer (map-Stmt _ _ Part Stmt (λ (x : (p : Part) × OfPart p). x.0) (λ (x : (s : Stmt) × OfStmt s). x.0) y)
  stmt_by (Stmt-F.Expr p e) h = (at_before p (lay_expr e) semicolon h, tt)
  stmt_by (Stmt-F.Empty p) h = (h.0.0.0, tt)
  stmt_by (Stmt-F.Block p parts) h = (h.0.0.0, all_good parts (good_first (lay_row (map lay_stmt (stmts parts))) _ h.1))
  stmt_by (Stmt-F.If p test a None) h =
      let rest = good_second (lay_in_parens (lay_expr test)) (lay_stmt a.0 ++ []) h.1 in
      (h.0.0.0, loops_both (see a.0).loops [] (a.1 (good_first (lay_stmt a.0) [] rest)).1 tt)
  stmt_by (Stmt-F.If p test a (Some b)) h =
      let rest = good_second (lay_in_parens (lay_expr test)) (lay_stmt a.0 ++ lay_else (Some (lay_stmt b.0))) h.1 in (
        h.0.0.0,
        loops_both (see a.0).loops (see b.0).loops (a.1 (good_first (lay_stmt a.0) (lay_else (Some (lay_stmt b.0))) rest)).1
            (b.1 (good_second (lay_stmt a.0) (lay_else (Some (lay_stmt b.0))) rest).1).1,
      )
  stmt_by (Stmt-F.While p test a) h = loop_good p (see a.0) h.0.0.0 (a.1 (good_second (lay_in_parens (lay_expr test)) (lay_stmt a.0) h.1))
  stmt_by (Stmt-F.DoWhile p a test) h = loop_good p (see a.0) h.0.0.0 (a.1 (good_first (lay_stmt a.0) _ h.1))
  stmt_by (Stmt-F.For p start test step a) h = loop_good p (see a.0) h.0.0.0 (a.1 (good_second (lay_for start test step) (lay_stmt a.0) h.1))
  stmt_by (Stmt-F.Switch p on parts) h =
      (h.0.0.0, parts_good parts (good_first (lay_row (map lay_part (parts_in parts))) _ (good_second (lay_in_parens (lay_expr on)) _ h.1).1))
  stmt_by (Stmt-F.Break p) h = (h.0.0.0, tt)
  stmt_by (Stmt-F.Continue p) h = (h.0.0.0, tt)
  stmt_by (Stmt-F.Return p e) h = (h.0.0.0, tt)
  stmt_by (Stmt-F.Declare p specs list) h = (at_before_two p (plain (spell_specs specs)) (lay_with_commas (map lay_declarator list)) semicolon h, tt)

  stmt_good : (s : Stmt) → AreGood (lay_stmt s) → ShapeGood (see s)
  stmt_good =
      ind-Stmt OfPart OfStmt
      (λ x y is h. subst (λ (f : Shape). LoopsGood f.loops) (sym (fold-roll-Part Shape Shape see_part_step see_stmt_step x))
      (subst PartLayer is (part_by y) (subst AreGood (fold-roll-Part Pieces Pieces lay_part_step lay_stmt_step x) h)))
      (λ x y is h. subst ShapeGood (sym (fold-roll-Stmt Shape Shape see_part_step see_stmt_step x))
      (subst StmtLayer is (stmt_by y) (subst AreGood (fold-roll-Stmt Pieces Pieces lay_part_step lay_stmt_step x) h)))

  body_good : (body : List Stmt) → AreGood (lay_stmts body) → LoopsGood (all_loops (map see body))
  body_good [] h = tt
  body_good (s ∷ body) h =
      loops_both (see s).loops (all_loops (map see body)) (stmt_good s (good_first (lay_stmt s) (lay_stmts body) h)).1 (body_good body (good_second (lay_stmt s) (lay_stmts body) h))

  -- ITEMS
  abbrev pub ShapesGood : List Shape → Type 0
  ShapesGood [] = Unit {0}
  ShapesGood (s ∷ ss) = ShapeGood s × ShapesGood ss

  abbrev pub NamesGood : List (List ℕ) → Type 0
  NamesGood [] = Unit {0}
  NamesGood (name ∷ names) = IsKind (token.Name name) × NamesGood names

  head_good : (i : Item) → AreGood (lay_item i) → ShapesGood (items_seen (i ∷ [])) × NamesGood (defined_in i)
  head_good (item.Function p head body close) h =
      let front = at_rest p (lay_head head) (good_first (at p (lay_head head)) _ h) in
      let name = good_second (plain (spell_stars head.stars)) _ (good_second (plain (spell_specs head.specs)) _ front) in
      let block = good_second (at p (lay_head head)) _ h in
      (((name.0.0.0, body_good body (good_first (lay_stmts body) _ block.1)), tt), (name.0.1, tt))
  head_good (item.Prototype p head) h = (tt, tt)
  head_good (item.Objects p specs list) h = (tt, tt)

  items_good : (items : List Item) → AreGood (lay_row (map lay_item items)) → ShapesGood (items_seen items) × NamesGood (all_names (map defined_in items))
  items_good [] h = (tt, tt)
  items_good (item.Function p head body close ∷ items) h =
      let one = head_good (item.Function p head body close) (good_first (lay_item (item.Function p head body close)) (lay_row (map lay_item items)) h) in
      let rest = items_good items (good_second (lay_item (item.Function p head body close)) (lay_row (map lay_item items)) h) in
      ((one.0.0, rest.0), (one.1.0, rest.1))
  items_good (item.Prototype p head ∷ items) h = items_good items (good_second (lay_item (item.Prototype p head)) (lay_row (map lay_item items)) h)
  items_good (item.Objects p specs list ∷ items) h = items_good items (good_second (lay_item (item.Objects p specs list)) (lay_row (map lay_item items)) h)

  -- where a source's functions and loops stand, and its functions' names
  pub source_good : (unit : source.Unit) (tokens : List Token) → Placed unit tokens → AreTokens tokens → ShapesGood (items_seen unit.items) × NamesGood (defined_by unit)
  source_good unit tokens placed good = items_good unit.items (good_first (lay_row (map lay_item unit.items)) _ (stand_good (lay_unit unit) tokens placed good))
