-- Believed with a public law.
-- Laws of ranked trees, as statements.
use Rattle.std.specs.Prelude.{ℕ, ◌≡◌, ◌≢◌, ◌≤◌, ◌*◌, IsTrue, IsFalse, [], length}
use Rattle.k_tree.specs.declared.tokens.TokenKind.TheVariants as token
use Rattle.k_tree.specs.declared.tokens.word.Word.{Word}
use Rattle.k_tree.specs.declared.tree.expression.Expr.{Expr}
use Rattle.k_tree.specs.declared.tree.statement.Stmt.{Stmt}
use Rattle.k_tree.specs.declared.tree.unit.Unit as source
use Rattle.k_tree.specs.Begins.{Begins, begins_expr, begins_stmt}
use Rattle.k_tree.specs.Count.{unit_count}
use Rattle.k_tree.specs.Places.{kinds_of, lay_unit}
use Rattle.k_tree.specs.Rank.{rank_of}
use Rattle.k_tree.specs.Ranked.{Ranked, RankedStmt, RankedUnit, is_spec}
use Rattle.k_tree.specs.Spelling.{spell_expr, spell_stmt, spelling}

-- C17 6.5: an expression has exactly the ranks from 0 to that of its form
abbrev pub RankByForm : Type 0
RankByForm = (j k : ℕ) (e : Expr) → Ranked k e → (k ≤ rank_of e) × (j ≤ rank_of e → Ranked j e)

-- C17 6.5: the spelling of an expression begins with one of its first tokens, so it is not empty
abbrev pub ExpressionsBegin : Type 0
ExpressionsBegin = (k : ℕ) (e : Expr) → Ranked k e → Begins begins_expr (spell_expr e) × (spell_expr e ≢ [])

-- C17 6.8: so does that of a statement
abbrev pub StatementsBegin : Type 0
StatementsBegin = (s : Stmt) → RankedStmt s → Begins begins_stmt (spell_stmt s) × (spell_stmt s ≢ [])

-- C17 6.8.2: a specifier begins a declaration and no statement
abbrev pub DeclarationsDiffer : Type 0
DeclarationsDiffer = (w : Word) → IsTrue (is_spec w) → IsFalse (begins_stmt (token.Word w))

-- the pieces of a source, without their places, are its spelling
abbrev pub PiecesSpell : Type 0
PiecesSpell = (u : source.Unit) → RankedUnit u → kinds_of (lay_unit u) ≡ spelling u

-- a source has at most twice as many nodes as tokens
abbrev pub NodesBounded : Type 0
NodesBounded = (u : source.Unit) → RankedUnit u → unit_count u ≤ 2 * length (spelling u)
