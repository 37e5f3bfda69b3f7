-- The sources of an operation, as its step has them.
use Rattle.std.proofs.Common.{◌≡◌, ℕ, List, [], ◌∷◌, ◌++◌, map, Option, Some, None, Bool, false, refl, sym, ◌∙◌, ap, append_assoc}
use Rattle.k_optab.specs.declared.event.Src.{Src}
use Rattle.k_replay_record.specs.declared.record.Datum.{Datum}
use Rattle.k_replay_record.specs.declared.record.Datum.TheVariants as datum
use Rattle.k_replay_record.specs.declared.record.Operand.{Operand}
use Rattle.k_world.specs.declared.act.Act.{Act}
use Rattle.k_world.specs.declared.act.Act.TheVariants as does
use Rattle.k_world.specs.declared.value.Held.{Held}
use Rattle.k_world.specs.declared.value.Read.{Read}
use Rattle.k_world.specs.declared.value.Value.{Value}
use Rattle.k_world.specs.Acts.{hidden}
use Rattle.k_world.specs.Operands.{source_before, source_in, sources_before, values_of}
use Rattle.k_world.specs.Worlds.{World}
use Rattle.k_replay_recording.specs.Laws.{StepsHaveSources, from_numbers}
use Rattle.k_replay_recording.specs.Steps.{given_by, hidden_operands, operand_of}

abbrev numbers : List Src → List ℕ
numbers sources = map (λ (s : Src). s.number) sources

one : (source : Option ℕ) (d : Datum) (broken : Bool) (operands : List Operand) (sources : List Src) → from_numbers operands ≡ numbers sources
    → from_numbers (given_by source d ∷ operands) ≡ numbers (source_before source broken sources)
one None d broken operands sources rest = rest
one (Some k) d broken operands sources rest = ap (λ (ns : List ℕ). k ∷ ns) rest

read_one : (slot : Option Held) (broken : Bool) (operands : List Operand) (sources : List Src) → from_numbers operands ≡ numbers sources
    → from_numbers (operand_of slot ∷ operands) ≡ numbers (source_before (source_in slot) broken sources)
read_one None broken operands sources rest = rest
read_one (Some held) broken operands sources rest = one held.source _ broken operands sources rest

read_all : (reads : List Read) (operands : List Operand) (sources : List Src) → from_numbers operands ≡ numbers sources
    → from_numbers (map (λ (r : Read). operand_of r.slot) reads ++ operands) ≡ numbers (sources_before reads sources)
read_all [] operands sources rest = rest
read_all (r ∷ reads) operands sources rest =
    read_one r.slot r.broken (map (λ (x : Read). operand_of x.slot) reads ++ operands) (sources_before reads sources) (read_all reads operands sources rest)

-- the hidden operand, and behind it the control source
hidden_one : (what : Act) (values : List Value) (v : Value) (w : World) (control : Option ℕ)
    → from_numbers (hidden_operands what (hidden what values w) v ++ given_by control datum.Nothing ∷ [])
    ≡ numbers (source_before (hidden what values w) false (source_before control false []))
unfolding hidden
hidden_one does.Load values v w control = one _ _ false _ _ (one control datum.Nothing false [] [] refl)
hidden_one does.Input values v w control = one _ _ false _ _ (one control datum.Nothing false [] [] refl)
hidden_one (does.Output what) values v w control = one _ _ false _ _ (one control datum.Nothing false [] [] refl)
hidden_one _ values v w control = one control datum.Nothing false [] [] refl

pub steps_have_sources : StepsHaveSources
steps_have_sources what reads control v w =
    ap from_numbers (append_assoc (map (λ (r : Read). operand_of r.slot) reads) (hidden_operands what (hidden what (values_of reads) w) v) (given_by control datum.Nothing ∷ []))
    ∙ read_all reads (hidden_operands what (hidden what (values_of reads) w) v ++ given_by control datum.Nothing ∷ [])
    (source_before (hidden what (values_of reads) w) false (source_before control false [])) (hidden_one what (values_of reads) v w control)
