use Rattle.std.proofs.Common.{◌≡◌, true, get_or}
use Rattle.k_lex_pieces.specs.Bytes.{same}
use Rattle.k_lex_expanding.proofs.MacroLaws.{found}
use Rattle.k_lex_expanding.proofs.macros.find.Goals as goal

pub returns-then-is_same : goal.returns-then-is_same
returns-then-is_same c =
    let named : same (get_or c.args.macros.now c.loop-number.number c.index-macros-number.result).name c.args.name.now ≡ true = cc (c.if-is_same.true, c.is_same.ensures, c.as_slice.ensures, c.get.ensures) in
    found c.args.macros.now c.args.name.now c.loop-number.number c.index-macros-number.result c.loop-number-test.true named c.loop-number.invariant
