use Rattle.std.proofs.Common.{ℕ, List, subst}
use Rattle.std.proofs.lemmas.Result.{IfOk-weaker}
use Rattle.k_code.specs.Valid.{IsValid}
use Rattle.k_carry.specs.Answer.{TellsOf}
use Rattle.k_top_lemmas.proofs.Machine.{RunsAs, loops_told, where_fit}
use Rattle.k_top_commands.proofs.carried.loops_of.Goals as goal

pub carried-requires-clause-code : goal.carried-requires-clause-code
carried-requires-clause-code c = where_fit c.args.ready.now c.args.depth c.requires (IsValid c.in_ok-code.code) c.in_ok-code.ensures.valid

pub returns : goal.returns
returns c =
    let ready = c.args.ready.now in
    IfOk-weaker c.carried.result _ _
    (λ found told.
    loops_told ready c.args.depth c.requires c.in_ok-code.code
    (where_fit ready c.args.depth c.requires (RunsAs ready.program c.in_ok-code.code) c.in_ok-code.ensures.runs) c.in_ok-code.ensures.regions found
    (subst (λ (input : List ℕ). TellsOf c.in_ok-code.code input ready.steps c.args.depth found) c.as_slice.ensures told))
    c.carried.ensures
