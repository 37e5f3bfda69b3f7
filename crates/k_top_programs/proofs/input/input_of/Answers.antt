use Rattle.std.proofs.Common.{◌∙◌, Ok, refl, sym, subst}
use Rattle.k_top_lemmas.specs.Parts.{ReadsNothing, ReadsWhere}
use Rattle.k_top_programs.proofs.input.input_of.Goals as goal

pub returns-then-calls_getchar : goal.returns-then-calls_getchar
returns-then-calls_getchar g c =
    let seen = g.S.Source.seen in
    subst (λ b. ReadsWhere b c.read_whole.result (seen c.args.input.now) (seen c.read_whole.new.input)) (sym c.if-calls_getchar.true ∙ c.calls_getchar.ensures) c.read_whole.ensures

pub returns-else-calls_getchar : goal.returns-else-calls_getchar
returns-else-calls_getchar g c =
    let seen = g.S.Source.seen in
    let nothing : ReadsNothing (Ok c.new.result) (seen c.args.input.now) (seen c.args.input.now) = (c.new.ensures.items, refl) in
    subst (λ b. ReadsWhere b (Ok c.new.result) (seen c.args.input.now) (seen c.args.input.now)) (sym c.if-calls_getchar.false ∙ c.calls_getchar.ensures) nothing
