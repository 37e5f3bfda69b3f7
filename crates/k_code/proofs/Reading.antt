-- An operation has no more sources than it reads.
use Rattle.std.proofs.Common.{ℕ, ◌+◌, ◌≤◌, List, [], ◌∷◌, length, Option, Some, None, Bool, false, arith}
use Rattle.k_optab.specs.declared.event.Src.{Src}
use Rattle.k_world.specs.declared.act.Act.{Act}
use Rattle.k_world.specs.declared.act.Act.TheVariants as does
use Rattle.k_world.specs.declared.value.Read.{Read}
use Rattle.k_world.specs.declared.value.Value.{Value}
use Rattle.k_world.specs.Acts.{hidden}
use Rattle.k_world.specs.Operands.{source_in, source_before, sources_before, sources, values_of}
use Rattle.k_world.specs.Worlds.{World}
use Rattle.k_code.specs.Reads.{beside, SourcesAreRead}

-- one source more, or none
one_more : (source : Option ℕ) (broken : Bool) (sources : List Src) → length (source_before source broken sources) ≤ length sources + 1
one_more None broken sources = omega arith
one_more (Some n) broken sources = omega arith

-- the operands' sources
before : (reads : List Read) (sources : List Src) → length (sources_before reads sources) ≤ length reads + length sources
before [] sources = omega arith
before (r ∷ reads) sources =
    let one = one_more (source_in r.slot) r.broken (sources_before reads sources) in
    let rest = before reads sources in
    omega (arith, one, rest)

-- the source of what an instruction does not name
hidden_few : (what : Act) (values : List Value) (w : World) (sources : List Src) → length (source_before (hidden what values w) false sources) ≤ length sources + beside what
unfolding hidden beside
hidden_few does.Load values w sources = one_more (hidden does.Load values w) false sources
hidden_few does.Input values w sources = one_more w.in_cell false sources
hidden_few (does.Output what) values w sources = one_more w.out_cell false sources
hidden_few what values w sources = omega arith

pub sources_are_read : SourcesAreRead
sources_are_read what reads w =
    let control : List Src = source_before w.control false [] in
    let all = before reads (source_before (hidden what (values_of reads) w) false control) in
    let hid = hidden_few what (values_of reads) w control in
    let one = one_more w.control false [] in
    omega (arith, all, hid, one)
