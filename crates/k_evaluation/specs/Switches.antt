-- Believed with the theorem on the top call.
-- `switch`: which of its statements run, and the control source of each part (C17 6.8.4.2).
use Rattle.std.specs.Prelude.{Bool, true, false, if◌then◌else◌, ℤ, List, [], ◌∷◌}
use Rattle.k_num.specs.declared.numbers.Bin.TheVariants.{Eq}
use Rattle.k_num.specs.declared.numbers.Kind.{Kind}
use Rattle.k_num.specs.declared.place.Place.{Place}
use Rattle.k_optab.specs.declared.class.Class.TheVariants as class
use Rattle.k_types_meaning.specs.declared.tree.expression.TExpr.{TExpr}
use Rattle.k_marks_meaning.specs.declared.jumps.Jumps.{Jumps}
use Rattle.k_marks_meaning.specs.Jumps.{out_of_switch, is_left}
use Rattle.k_world.specs.declared.act.Act.TheVariants as act
use Rattle.k_world.specs.declared.value.Held.{Held}
use Rattle.k_world.specs.declared.value.Value.TheVariants as value
use Rattle.k_evaluation.specs.declared.operand.Operand.{Operand}
use Rattle.k_evaluation.specs.declared.operand.Operand.TheVariants.{Constant}
use Rattle.k_evaluation.specs.declared.flow.Flow.{Flow}
use Rattle.k_evaluation.specs.declared.flow.Flow.TheVariants.{Normal, Broke, Continued, Returned}
use Rattle.k_evaluation.specs.States.{Program, Part, ◌>>=◌, gives, makes, computes, settled}
use Rattle.k_evaluation.specs.Meanings.{holds}
use Rattle.k_evaluation.specs.Flows.{Doing, Within, means, in_order, jumps_of_all}

-- A part of the braces of a switch: a case with its value, a default, or a statement.
pub data PartDoing : Type 0 where
  ACase : Place → ℤ → PartDoing
  ADefault : PartDoing
  AStatement : Doing → PartDoing

-- the statements among these parts
abbrev pub statements_of : List PartDoing → List Doing
statements_of [] = []
statements_of (ACase place z ∷ parts) = statements_of parts
statements_of (ADefault ∷ parts) = statements_of parts
statements_of (AStatement s ∷ parts) = s ∷ statements_of parts

-- the statements behind the default, or none
abbrev pub behind_default : List PartDoing → List Doing
behind_default [] = []
behind_default (ACase place z ∷ parts) = behind_default parts
behind_default (ADefault ∷ parts) = statements_of parts
behind_default (AStatement s ∷ parts) = behind_default parts

-- there is a case
abbrev pub has_case : List PartDoing → Bool
has_case [] = false
has_case (ACase place z ∷ parts) = true
has_case (ADefault ∷ parts) = has_case parts
has_case (AStatement s ∷ parts) = has_case parts

-- A CASE: its comparison, and the select by it, which is the control source from then on; both at the case
abbrev pub selects : Program → Kind → Place → ℤ → Operand → Part Held
selects program kind place z on =
    computes program class.Simple place (act.Binary Eq kind) (on ∷ Constant (value.Number z) ∷ []) >>= λ same.
    makes program class.Select place act.Test (same ∷ [])

-- THE CASES in text order until one is equal: the statements behind it run, and where none is equal those behind the default, or none
abbrev pub chooses : Program → Kind → Operand → List Doing → List PartDoing → Part (List Doing)
chooses program kind on default [] = gives default
chooses program kind on default (ACase place z ∷ parts) =
    selects program kind place z on >>= λ select. if holds select then gives (statements_of parts) else chooses program kind on default parts
chooses program kind on default (ADefault ∷ parts) = chooses program kind on default parts
chooses program kind on default (AStatement s ∷ parts) = chooses program kind on default parts

-- C17 6.8.6.3p2: a `break` ends the switch
abbrev pub behind_switch : Flow → Flow
behind_switch Normal = Normal
behind_switch Broke = Normal
behind_switch Continued = Continued
behind_switch (Returned v) = Returned v

-- the statements that were chosen run, under the last select
abbrev pub runs_chosen : List Doing → Part Flow
runs_chosen chosen = in_order chosen >>= λ flow. gives (behind_switch flow)

-- a switch behind its value
abbrev pub switches : Program → Kind → List PartDoing → Operand → Part Flow
switches program kind parts on = chooses program kind on (behind_default parts) parts >>= runs_chosen

-- the jumps of a switch, which is the target of each `break` directly in it
abbrev pub switch_jumps : List PartDoing → Jumps
switch_jumps parts = out_of_switch (jumps_of_all (statements_of parts))

-- `switch (on) { parts }`: its value is used where there is a case; behind it the control source is as before, but where a jump of its text
-- leaves it, it stays
unfoldable pub switch : Within → Kind → TExpr → List PartDoing → Doing
switch w kind on parts = record {
  does = settled (is_left (switch_jumps parts)) ((means w on).value (has_case parts) >>= switches w.program kind parts);
  jumps = switch_jumps parts;
}
