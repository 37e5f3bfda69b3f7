use Rattle.std.proofs.Common.{ℕ, List, [], ◌∙◌, ap, subst}
use Rattle.k_types_meaning.specs.declared.tree.expression.TExpr.{TExpr}
use Rattle.k_world.specs.declared.act.Out.TheVariants as out
use Rattle.k_code.specs.declared.instruction.Arg.{Arg}
use Rattle.k_lower_code.specs.Library.{outputs}
use Rattle.k_lower_expressions.specs.Arounds.{lowered_in, program_of}
use Rattle.k_lower_expressions.proofs.Emitted.{Emits}
use Rattle.k_lower_expressions.proofs.expression.puts.Goals as goal

pub returns : goal.returns
returns c =
    let a = c.args.around.now in
    let p = program_of a in
    let emits : List ℕ → List Arg → Type 0 = λ text args. Emits c.output.result (outputs p c.args.at (out.Line text) c.args.r args) c.args.out.now.items c.output.new.out.items in
    subst (λ (text : List ℕ). emits text []) (c.in_ok-text.ensures p a.variables.now ∙ ap (λ (e : TExpr). (lowered_in a e).text) c.get.ensures)
    (subst (λ (args : List Arg). emits c.in_ok-text.text args) c.new-none.ensures c.output.ensures)
