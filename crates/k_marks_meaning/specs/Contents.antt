-- Believed with the theorem on the top call.
-- What a statement has in it: what it does with variables, the jumps that lead out of it, its loops, and its statements with their jumps.
use Rattle.std.specs.Prelude.{List, [], ◌∷◌, ◌++◌, Some, None, unwrap_or}
use Rattle.k_types_meaning.specs.declared.tree.statement.Spot.{Spot}
use Rattle.k_types_meaning.specs.declared.tree.statement.TFirst.TheVariants as first
use Rattle.k_types_meaning.specs.declared.tree.statement.TStmt.{TStmt, fold-TStmt}
use Rattle.k_types_meaning.specs.declared.tree.statement.TPart.{TPart, fold-TPart}
use Rattle.k_types_meaning.specs.declared.tree.statement.TPart.TheOpen.{TPart-F, TStmt-F}
use Rattle.k_marks_meaning.specs.declared.jumps.Jumps.{Jumps}
use Rattle.k_marks_meaning.specs.declared.jumps.StatementJumps.{StatementJumps}
use Rattle.k_marks_meaning.specs.declared.uses.Use.{Use}
use Rattle.k_marks_meaning.specs.Uses.{uses_of, option_uses, declared_uses, first_uses}
use Rattle.k_marks_meaning.specs.Reductions.{action_uses}
use Rattle.k_marks_meaning.specs.Jumps.{no_jumps, a_break, a_continue, a_return, jumps_of_both, out_of_loop, out_of_switch}
use Rattle.k_marks_meaning.specs.Loops.{Loop}

-- what a statement has in it
pub record Inside : Type 0 where
  -- what it does with variables, in text order
  pub uses : List Use
  -- the jumps that lead out of it
  pub jumps : Jumps
  -- its loops, in text order
  pub loops : List Loop
  -- the statements in it and itself, each behind those in it
  pub statements : List StatementJumps

-- nothing
abbrev pub nothing : Inside
nothing = record { uses = []; jumps = no_jumps; loops = []; statements = [] }

-- uses of variables alone
abbrev pub only : List Use → Inside
only uses = record { uses = uses; jumps = no_jumps; loops = []; statements = [] }

-- one part behind another
abbrev pub both : Inside → Inside → Inside
both a b = record {
  uses = a.uses ++ b.uses;
  jumps = jumps_of_both a.jumps b.jumps;
  loops = a.loops ++ b.loops;
  statements = a.statements ++ b.statements;
}

-- several parts, one behind another
abbrev pub row : List Inside → Inside
row [] = nothing
row (a ∷ rest) = both a (row rest)

-- a statement at this spot, by the jumps that lead out of its parts and those that lead out of it
abbrev pub with_jumps : Spot → Jumps → Jumps → StatementJumps
with_jumps spot parts itself = record { number = spot.number; parts = parts; itself = itself }

-- a statement at this spot with such parts, such jumps out of these and such out of it
abbrev pub statement : Spot → Inside → Jumps → Jumps → Inside
statement spot parts inner jumps = record {
  uses = parts.uses;
  jumps = jumps;
  loops = parts.loops;
  statements = parts.statements ++ with_jumps spot inner jumps ∷ [];
}

-- a loop at this spot with such a body, which does this with variables
abbrev pub a_loop : Spot → Loop → Inside → List Use → Inside
a_loop spot l body uses = record {
  uses = uses;
  jumps = out_of_loop body.jumps;
  loops = l ∷ body.loops;
  statements = body.statements ++ with_jumps spot body.jumps (out_of_loop body.jumps) ∷ [];
}

-- what a statement has in it, of whose statements and parts it is known
abbrev pub inside_step : TStmt-F Inside Inside → Inside
inside_step (TStmt-F.Expr spot e) = statement spot (only (action_uses e)) no_jumps no_jumps
inside_step (TStmt-F.Empty spot) = statement spot nothing no_jumps no_jumps
inside_step (TStmt-F.Block spot parts) = statement spot (row parts) (row parts).jumps (row parts).jumps
inside_step (TStmt-F.If spot test a b) =
    statement spot (both (only (uses_of test)) (both a (unwrap_or b nothing))) (jumps_of_both a.jumps (unwrap_or b nothing).jumps) (jumps_of_both a.jumps (unwrap_or b nothing).jumps)
inside_step (TStmt-F.While spot turns test body) =
    a_loop spot (record { start = first.Nothing; test = Some test; step = None; body_uses = body.uses; body_jumps = body.jumps }) body
    (uses_of test ++ body.uses)
inside_step (TStmt-F.DoWhile spot turns body test) =
    a_loop spot (record { start = first.Nothing; test = Some test; step = None; body_uses = body.uses; body_jumps = body.jumps }) body
    (body.uses ++ uses_of test)
inside_step (TStmt-F.For spot turns start test step body) =
    a_loop spot (record { start = start; test = test; step = step; body_uses = body.uses; body_jumps = body.jumps }) body
    (first_uses start ++ (option_uses test ++ (option_uses step ++ body.uses)))
inside_step (TStmt-F.Switch spot kind on parts) =
    statement spot (both (only (uses_of on)) (row parts)) (row parts).jumps (out_of_switch (row parts).jumps)
inside_step (TStmt-F.Break spot) = statement spot nothing no_jumps a_break
inside_step (TStmt-F.Continue spot) = statement spot nothing no_jumps a_continue
inside_step (TStmt-F.Return spot value) = statement spot (only (option_uses value)) no_jumps a_return
inside_step (TStmt-F.Declare spot list) = statement spot (only (declared_uses list)) no_jumps no_jumps

-- what a part of a switch has in it, of whose statement it is known
abbrev pub part_step : TPart-F Inside Inside → Inside
part_step (TPart-F.Case p value) = nothing
part_step (TPart-F.Default p) = nothing
part_step (TPart-F.Does p s) = s

-- what a statement has in it
abbrev pub inside : TStmt → Inside
inside = fold-TStmt Inside Inside part_step inside_step

-- what a part of a switch has in it
abbrev pub part_inside : TPart → Inside
part_inside = fold-TPart Inside Inside part_step inside_step
