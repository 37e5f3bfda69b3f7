-- Believed with a public law.
-- Laws of typing as a relation.
use Rattle.std.specs.Prelude.{◌≡◌, List, []}
use Rattle.k_tree.specs.declared.tree.statement.Stmt.{Stmt}
use Rattle.k_tree.specs.declared.tree.unit.Unit as source
use Rattle.k_types_meaning.specs.declared.tree.statement.TStmt.{TStmt}
use Rattle.k_types_meaning.specs.declared.tree.unit.TUnit.{TUnit}
use Rattle.k_types_meaning.specs.Bare.{IsTyped, bare_unit}
use Rattle.k_types_meaning.specs.Made.{Fine}
use Rattle.k_types_meaning.specs.Numbered.{IsNumbered}
use Rattle.k_types_meaning.specs.Statements.{Around, Known, Judged, judge_stmt, judge_body}
use Rattle.k_types_meaning.specs.Units.{FileKnown, Parts, nothing_known, defined_by, faults, unit_placed, tree_of_parts}
use Rattle.k_types_meaning.specs.ElaboratedStatements.{ElabStmt, ElabStmts}
use Rattle.k_types_meaning.specs.ElaboratedUnits.{ElabItems, ElabUnit}

-- judging comes to this, without a fault, and this is known behind it
abbrev pub ComesTo : {A : Type 0} → Judged A → A → Known → Type 0
ComesTo j tree after = (j.made ≡ Fine tree) × (j.after ≡ after)

-- A statement has a typed tree exactly where judging it finds no fault, and then it is the one that judging makes; and what is known
-- behind it is what judging says.
abbrev pub StatementsElaborate : Type 0
StatementsElaborate =
    (around : Around) (known : Known) (s : Stmt) (tree : TStmt) (after : Known)
    → (ComesTo (judge_stmt s around known) tree after → ElabStmt around known s tree after)
    × (ElabStmt around known s tree after → ComesTo (judge_stmt s around known) tree after)

-- So do the statements of a function's block.
abbrev pub BodiesElaborate : Type 0
BodiesElaborate =
    (around : Around) (known : Known) (body : List Stmt) (trees : List TStmt) (after : Known)
    → (ComesTo (judge_body around known body) trees after → ElabStmts around known body trees after)
    × (ElabStmts around known body trees after → ComesTo (judge_body around known body) trees after)

-- A source means file objects and functions exactly where it has no fault, and then those that judging makes.
abbrev pub SourcesElaborate : Type 0
SourcesElaborate =
    (unit : source.Unit) (parts : Parts)
    → ((faults unit ≡ []) × ((unit_placed unit).made ≡ Fine parts) → ElabUnit unit parts)
    × (ElabUnit unit parts → (faults unit ≡ []) × ((unit_placed unit).made ≡ Fine parts))

-- a typed tree is numbered, and is that of these parts but for its numbers
abbrev pub IsTreeOf : source.Unit → Parts → TUnit → Type 0
IsTreeOf unit parts typed = (bare_unit typed ≡ tree_of_parts unit parts) × IsNumbered typed

-- a source means parts of which this is the numbered tree
abbrev pub MeansTree : source.Unit → TUnit → Type 0
MeansTree unit typed = (parts : Parts) × ElabUnit unit parts × IsTreeOf unit parts typed

-- the items of a source mean parts of which this is the numbered tree
abbrev pub ItemsMeanTree : source.Unit → TUnit → Type 0
ItemsMeanTree unit typed =
    (parts : Parts) × (after : FileKnown) × ElabItems (defined_by unit) nothing_known unit.items parts after × IsTreeOf unit parts typed

-- A source has a typed tree and no fault exactly where it means parts of which this is the numbered tree.
abbrev pub TypedTreesElaborate : Type 0
TypedTreesElaborate =
    (unit : source.Unit) (typed : TUnit)
    → (IsTyped unit typed × (faults unit ≡ []) → MeansTree unit typed) × (MeansTree unit typed → IsTyped unit typed × (faults unit ≡ []))

-- A source has a typed tree, whether it has main and each function that is called is defined or not, exactly where its items mean parts of
-- which this is the numbered tree.
abbrev pub TypedItemsElaborate : Type 0
TypedItemsElaborate =
    (unit : source.Unit) (typed : TUnit) → (IsTyped unit typed → ItemsMeanTree unit typed) × (ItemsMeanTree unit typed → IsTyped unit typed)

-- A statement has at most one typed tree, and one thing is known behind it.
abbrev pub StatementHasOneTree : Type 0
StatementHasOneTree =
    (around : Around) (known : Known) (s : Stmt) (a b : TStmt) (after later : Known)
    → ElabStmt around known s a after → ElabStmt around known s b later → (a ≡ b) × (after ≡ later)

-- A source means at most one list of file objects and one of functions.
abbrev pub SourceMeansOne : Type 0
SourceMeansOne = (unit : source.Unit) (a b : Parts) → ElabUnit unit a → ElabUnit unit b → a ≡ b
