use Rattle.std.proofs.Common.{List, subst, sym}
use Rattle.k_types_meaning.specs.declared.tree.unit.TVariable.{TVariable}
use Rattle.k_lower_extents.specs.Extents.{AreAllExtents}
use Rattle.k_lower.specs.Sources.{program_of}
use Rattle.k_lower.proofs.functions.emit.Goals as goal

pub emit_function-requires-clause-known : goal.emit_function-requires-clause-known
emit_function-requires-clause-known c =
    let s = c.args.source.now in
    subst (λ (vs : List TVariable). AreAllExtents s.table.now (record { program = program_of s; function = c.args.number; vars = vs }) c.args.f.now.body)
    (sym c.as_slice-variables.ensures) c.requires
