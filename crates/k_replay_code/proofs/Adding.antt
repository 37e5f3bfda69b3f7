-- Operations more behind those that are recorded.
use Rattle.std.proofs.Common.{◌≡◌, ℕ, List, [], ◌∷◌, ◌++◌, map, Option, Some, None, refl, sym, ◌∙◌, ap, subst}
use Rattle.std.specs.Prelude.{pos, slice_get}
use Rattle.std.proofs.lemmas.List.{append-nil, map-append}
use Rattle.k_world.specs.declared.act.Act.{Act}
use Rattle.k_world.specs.declared.act.Act.TheVariants as does
use Rattle.k_world.specs.declared.answer.Done.{Done}
use Rattle.k_world.specs.declared.value.Held.{Held}
use Rattle.k_world.specs.declared.value.Read.{Read}
use Rattle.k_world.specs.declared.value.Value.{Value}
use Rattle.k_world.specs.declared.value.Value.TheVariants as value
use Rattle.k_world.specs.Deeds.{Deed}
use Rattle.k_replay_record.specs.declared.record.Datum.{Datum}
use Rattle.k_replay_record.specs.declared.record.Step.{Step}
use Rattle.k_replay_record.specs.Recorded.{IsRecorded, Recorded}
use Rattle.k_replay_record.specs.Serial.{serial, step_value, values_with}
use Rattle.k_replay_code.specs.Recorded.{step_for, value_for}
use Rattle.k_replay_code.specs.Steps.{Adds, IsTaped, called_by, held_alone, moved_by, moved_of}

values_push : (before : List Datum) (steps : List Step) (s : Step)
    → values_with before (steps ++ s ∷ []) ≡ values_with before steps ++ step_value (slice_get (values_with before steps)) s ∷ []
unfolding values_with
values_push before [] s = refl
values_push before (x ∷ steps) s = values_push (before ++ step_value (slice_get before) x ∷ []) steps s

-- none
pub adds_none : (r : Recorded) → Adds [] r r
adds_none r all is = subst (λ (ps : List Deed). IsTaped ps r) (sym (append-nil all)) is

-- one, whose step has its value
pub adds_one : (p : Deed) (old new : Recorded) (d : Datum) → d ≡ step_value (slice_get (serial old.steps)) (step_for p) → d ≡ value_for p
    → new.steps ≡ old.steps ++ step_for p ∷ [] → IsRecorded new → Adds (p ∷ []) old new
adds_one p old new d given value steps fits all is = record {
  steps = steps ∙ ap (λ (xs : List Step). xs ++ step_for p ∷ []) is.steps ∙ sym (map-append step_for all (p ∷ []));
  values = ap serial steps ∙ values_push [] old.steps (step_for p) ∙ (λ j. is.values j ++ (sym given ∙ value) j ∷ []) ∙ sym (map-append value_for all (p ∷ []));
  fits = fits;
}

-- the same by the step that was made
pub adds_step : (p : Deed) (s : Step) (old new : Recorded) (d : Datum) → s ≡ step_for p → d ≡ step_value (slice_get (serial old.steps)) s → d ≡ value_for p
    → new.steps ≡ old.steps ++ s ∷ [] → IsRecorded new → Adds (p ∷ []) old new
adds_step p s old new d same given value steps fits =
    adds_one p old new d (subst (λ (x : Step). d ≡ step_value (slice_get (serial old.steps)) x) same given) value
    (subst (λ (x : Step). new.steps ≡ old.steps ++ x ∷ []) same steps) fits

-- an operation without a hidden operand, as it was told
abbrev pub told_as : Act → List Read → Done → Deed
told_as what reads done = record { what = what; reads = reads; hidden = done.hidden; control = done.control; value = done.held.value }

told_same : (what : Act) (reads : List Read) (done : Done) (v : Value) (control : Option ℕ) → done.held.value ≡ v → done.hidden ≡ None → done.control ≡ control
    → told_as what reads done ≡ record { what = what; reads = reads; hidden = None; control = control; value = v }
told_same what reads done v control value hidden same = λ j. record { what = what; reads = reads; hidden = hidden j; control = same j; value = value j }

-- a call
pub adds_call : (reads : List Read) (done : Done) (control : Option ℕ) (old new : Recorded) → done.held.value ≡ value.Number (pos 0) → done.hidden ≡ None → done.control ≡ control
    → Adds (told_as does.Call reads done ∷ []) old new → Adds (called_by reads control ∷ []) old new
adds_call reads done control old new v hidden same adds =
    subst (λ (p : Deed). Adds (p ∷ []) old new) (told_same does.Call reads done (value.Number (pos 0)) control v hidden same) adds

-- the move of what was read
pub adds_move : (reads : List Read) (done : Done) (control : Option ℕ) (slot : Option Held) (held : Held) (old new : Recorded) → slot ≡ held_alone reads → slot ≡ Some held
    → done.held.value ≡ held.value → done.hidden ≡ None → done.control ≡ control → Adds (told_as does.Move reads done ∷ []) old new → Adds (moved_of reads control) old new
adds_move reads done control slot held old new alone is v hidden same adds =
    subst (λ (x : Option Held). Adds (moved_by reads control x) old new) (sym is ∙ alone)
    (subst (λ (p : Deed). Adds (p ∷ []) old new) (told_same does.Move reads done held.value control v hidden same) adds)

-- and none
pub adds_no_move : (reads : List Read) (control : Option ℕ) (slot : Option Held) (r : Recorded) → slot ≡ held_alone reads → slot ≡ None → Adds (moved_of reads control) r r
adds_no_move reads control slot r alone none = subst (λ (x : Option Held). Adds (moved_by reads control x) r r) (sym none ∙ alone) (adds_none r)
