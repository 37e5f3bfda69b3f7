-- Believed with the theorem on the top call.
-- What stands in the text of a statement and of a function: where variables occur, which assignments feed reads behind them, and the loops.
use Rattle.std.specs.Prelude.{ℕ, false, List, [], ◌∷◌, ◌++◌, map, Option, Some, None}
use Rattle.k_types_meaning.specs.declared.tree.expression.TExpr.{TExpr}
use Rattle.k_types_meaning.specs.declared.tree.statement.Spot.{Spot}
use Rattle.k_types_meaning.specs.declared.tree.statement.TFirst.{TFirst}
use Rattle.k_types_meaning.specs.declared.tree.statement.TPart.{TPart, fold-TPart}
use Rattle.k_types_meaning.specs.declared.tree.statement.TPart.TheOpen.{TPart-F, TStmt-F}
use Rattle.k_types_meaning.specs.declared.tree.statement.TStmt.{TStmt, fold-TStmt}
use Rattle.k_types_meaning.specs.declared.tree.unit.TFunc.{TFunc}
use Rattle.k_pragma_texts.specs.declared.occurrence.LoopText.{LoopText}
use Rattle.k_pragma_texts.specs.declared.occurrence.Occurrence.{Occurrence}
use Rattle.k_pragma_texts.specs.declared.occurrence.Setter.{Setter}
use Rattle.k_pragma_texts.specs.Occurrences.{occurs_in, last_in, sets}
use Rattle.k_pragma_texts.specs.Actions.{action_occurs, counted_by}
use Rattle.k_pragma_texts.specs.Canonical.{is_canonical}
use Rattle.k_pragma_texts.specs.Declarations.{option_occurs, option_last, declared_occurs, declared_last, first_last, first_occurs, first_sets}

-- what stands in a statement
pub record Held : Type 0 where
  -- its own node, and its last one
  pub node : ℕ
  pub last : ℕ
  -- the variable v, where it is an expression statement `v = e` and e does not name v
  pub sets : Option ℕ
  -- where variables occur in it, in text order
  pub occurs : List Occurrence
  -- the assignments in it that feed reads
  pub setters : List Setter
  -- its loops, in text order
  pub loops : List LoopText

-- where variables occur in statements, in text order
abbrev pub occurs_in_row : List Held → List Occurrence
occurs_in_row [] = []
occurs_in_row (s ∷ rest) = s.occurs ++ occurs_in_row rest

-- the loops of statements, in text order
abbrev pub loops_in_row : List Held → List LoopText
loops_in_row [] = []
loops_in_row (s ∷ rest) = s.loops ++ loops_in_row rest

-- the last node of statements, behind this one
abbrev pub last_in_row : ℕ → List Held → ℕ
last_in_row n [] = n
last_in_row n (s ∷ rest) = last_in_row s.last rest

-- an assignment of this variable at a node feeds reads up to the last node
abbrev pub setter : ℕ → ℕ → Option ℕ → List Setter
setter node last None = []
setter node last (Some v) = record { variable = v; node = node; last = last } ∷ []

-- the assignments that feed reads in a block with this last node: those in its statements, and its expression statements
abbrev pub setters_in_block : ℕ → List Held → List Setter
setters_in_block last [] = []
setters_in_block last (s ∷ rest) = setter s.node last s.sets ++ (s.setters ++ setters_in_block last rest)

-- a statement without statements in it
abbrev pub simple : Spot → ℕ → Option ℕ → List Occurrence → Held
simple spot last sets occurs = record { node = spot.number; last = last; sets = sets; occurs = occurs; setters = []; loops = [] }

-- the braces of a block
abbrev pub a_block : ℕ → List Held → Held
a_block node parts = record {
  node = node;
  last = last_in_row node parts;
  sets = None;
  occurs = occurs_in_row parts;
  setters = setters_in_block (last_in_row node parts) parts;
  loops = loops_in_row parts;
}

-- a loop, in which variables occur so, and which feeds reads in it by its first part
abbrev pub a_loop : Spot → LoopText → List Occurrence → Option ℕ → Held → Held
a_loop spot text occurs fed body = record {
  node = spot.number;
  last = text.last;
  sets = None;
  occurs = occurs;
  setters = setter spot.number text.last fed ++ body.setters;
  loops = text ∷ body.loops;
}

-- the text of a loop that is tested alone, with this last node
abbrev pub tested_text : Spot → ℕ → ℕ → LoopText
tested_text spot number last =
    record { number = number; node = spot.number; head = spot.number; test = spot.number; last = last; counter = None; canonical = false }

-- the text of a `for` with this last node
abbrev pub for_text : Spot → ℕ → ℕ → TFirst → Option TExpr → Option TExpr → LoopText
for_text spot number last start test step = record {
  number = number;
  node = spot.number;
  head = first_last spot.number start;
  test = option_last (first_last spot.number start) test;
  last = last;
  counter = counted_by step;
  canonical = is_canonical start test step;
}

-- where variables occur in a statement that may be left out
abbrev pub occurs_there : Option Held → List Occurrence
occurs_there None = []
occurs_there (Some s) = s.occurs

-- the assignments in it that feed reads
abbrev pub setters_there : Option Held → List Setter
setters_there None = []
setters_there (Some s) = s.setters

-- its loops
abbrev pub loops_there : Option Held → List LoopText
loops_there None = []
loops_there (Some s) = s.loops

-- its last node; where it is left out, the one before it
abbrev pub last_there : ℕ → Option Held → ℕ
last_there n None = n
last_there n (Some s) = s.last

-- the same of the statements among the parts of a switch
abbrev pub occurs_in_parts : List (Option Held) → List Occurrence
occurs_in_parts [] = []
occurs_in_parts (p ∷ rest) = occurs_there p ++ occurs_in_parts rest

-- the assignments of a whole variable in the statements among the parts of a switch, in order
abbrev pub setters_in_parts : List (Option Held) → List Setter
setters_in_parts [] = []
setters_in_parts (p ∷ rest) = setters_there p ++ setters_in_parts rest

-- the loops in the statements among the parts of a switch, in order
abbrev pub loops_in_parts : List (Option Held) → List LoopText
loops_in_parts [] = []
loops_in_parts (p ∷ rest) = loops_there p ++ loops_in_parts rest

-- the number of the last node of the parts of a switch, or this one where no statement is among them
abbrev pub last_in_parts : ℕ → List (Option Held) → ℕ
last_in_parts n [] = n
last_in_parts n (p ∷ rest) = last_in_parts (last_there n p) rest

-- an `if`
abbrev pub an_if : Spot → TExpr → Held → Option Held → Held
an_if spot test a b = record {
  node = spot.number;
  last = last_there a.last b;
  sets = None;
  occurs = occurs_in test ++ (a.occurs ++ occurs_there b);
  setters = a.setters ++ setters_there b;
  loops = a.loops ++ loops_there b;
}

-- a switch: its braces are no block, since a `case` may pass over the statements before it
abbrev pub a_switch : Spot → TExpr → List (Option Held) → Held
a_switch spot on parts = record {
  node = spot.number;
  last = last_in_parts (last_in on) parts;
  sets = None;
  occurs = occurs_in on ++ occurs_in_parts parts;
  setters = setters_in_parts parts;
  loops = loops_in_parts parts;
}

-- what stands in a statement, of whose statements and parts it is known
abbrev pub held_step : TStmt-F (Option Held) Held → Held
held_step (TStmt-F.Expr spot e) = simple spot (last_in e) (sets e) (action_occurs e)
held_step (TStmt-F.Empty spot) = simple spot spot.number None []
held_step (TStmt-F.Block spot parts) = a_block spot.number parts
held_step (TStmt-F.If spot test a b) = an_if spot test a b
held_step (TStmt-F.While spot number test body) = a_loop spot (tested_text spot number body.last) (occurs_in test ++ body.occurs) None body
held_step (TStmt-F.DoWhile spot number body test) = a_loop spot (tested_text spot number (last_in test)) (body.occurs ++ occurs_in test) None body
held_step (TStmt-F.For spot number start test step body) =
    a_loop spot (for_text spot number body.last start test step)
    (first_occurs spot.number start ++ (option_occurs test ++ (option_occurs step ++ body.occurs))) (first_sets start) body
held_step (TStmt-F.Switch spot kind on parts) = a_switch spot on parts
held_step (TStmt-F.Break spot) = simple spot spot.number None []
held_step (TStmt-F.Continue spot) = simple spot spot.number None []
held_step (TStmt-F.Return spot value) = simple spot (option_last spot.number value) None (option_occurs value)
held_step (TStmt-F.Declare spot list) = simple spot (declared_last spot.number list) None (declared_occurs spot.number list)

-- what stands in a part of a switch, of whose statement it is known
abbrev pub part_step : TPart-F (Option Held) Held → Option Held
part_step (TPart-F.Case p value) = None
part_step (TPart-F.Default p) = None
part_step (TPart-F.Does p s) = Some s

-- what stands in a statement
abbrev pub held : TStmt → Held
held = fold-TStmt (Option Held) Held part_step held_step

-- what stands in a part of a switch
abbrev pub part_held : TPart → Option Held
part_held = fold-TPart (Option Held) Held part_step held_step

-- what stands in a function, whose body is a block (C17 6.9.1)
abbrev pub function_held : TFunc → Held
function_held f = a_block 0 (map held f.body)
