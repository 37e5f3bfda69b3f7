use Rattle.std.proofs.Common.{◌≡◌, map, drop}
use Rattle.std.specs.Prelude.{is_some}
use Rattle.k_wide_meaning.specs.Contents.{seen, member, kept_among}
use Rattle.k_wide_statements.proofs.statements.keeps_among.Given as goal

abbrev pub invariant-loop-stmt : goal.invariant-loop-stmt
invariant-loop-stmt l =
    is_some (kept_among l.test (map member (map seen (drop l.stmt-index l.stmt-items)))) ≡ is_some (kept_among l.test (map member (map seen l.stmts)))
