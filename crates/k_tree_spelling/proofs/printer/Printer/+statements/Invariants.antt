use Rattle.std.proofs.Common.{◌≡◌, ◌++◌, drop}
use Rattle.k_tree.specs.Spelling.{spell_stmts, spell_switched, the_mark}
use Rattle.k_tree.specs.declared.tokens.mark.Mark.TheVariants as mark
use Rattle.k_tree_spelling.proofs.printer.Printer.+statements.Given as goal

abbrev pub invariant-block-loop-part : goal.invariant-block-loop-part
invariant-block-loop-part l =
    l.self.tokens ++ spell_stmts (drop l.part-index l.part-items)
    ≡ l.fn.self.tokens ++ (the_mark mark.LeftBrace ++ spell_stmts l.parts)

abbrev pub invariant-switched-loop-part : goal.invariant-switched-loop-part
invariant-switched-loop-part l =
    l.self.tokens ++ spell_switched (drop l.part-index l.part-items)
    ≡ l.fn.self.tokens ++ (the_mark mark.LeftBrace ++ spell_switched l.parts)
