use Rattle.std.proofs.Common.{Some, Ok, sym, subst}
use Rattle.k_types_meaning.specs.Statements.{Known, option_judged}
use Rattle.k_types_declarations.specs.Results.{seen}
use Rattle.k_types_statements.specs.declared.valued.Valued.{Valued}
use Rattle.k_types_statements.specs.Results.{judged_at, valued_of, valued_option, RunsAs}
use Rattle.k_types_statements.proofs.Values.{option_runs}
use Rattle.k_types_statements.proofs.valued.judge_option.Goals as goal

pub returns-in_ok-found-in-Some : goal.returns-in_ok-found-in-Some
returns-in_ok-found-in-Some c =
    let known : Known = seen c.args.known.now in
    let newer : Known = seen c.judge_value.new.known in
    let found : Valued = c.in_ok-found-in-Some.found in
    subst (λ o. RunsAs valued_option (Ok (Some found)) known newer (option_judged known o)) (sym c.in-Some.is)
    (option_runs found c.in-Some.expr known newer
    (subst (λ e. RunsAs valued_of (Ok found) known newer (judged_at known e)) c.get.ensures c.in_ok-found-in-Some.ensures))
