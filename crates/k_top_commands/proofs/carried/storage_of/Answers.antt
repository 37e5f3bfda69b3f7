use Rattle.std.proofs.Common.{ℕ, List, subst}
use Rattle.std.proofs.lemmas.Result.{IfOk-weaker}
use Rattle.k_code.specs.Valid.{IsValid}
use Rattle.k_carry_storage.specs.Answer.{TellsAllOf}
use Rattle.k_top_lemmas.proofs.Machine.{RunsAs, deep_told, storage_told, where_fit}
use Rattle.k_top_commands.proofs.carried.storage_of.Goals as goal

pub storage_told-requires-clause-code : goal.storage_told-requires-clause-code
storage_told-requires-clause-code c = where_fit c.args.ready.now c.args.depth c.requires (IsValid c.in_ok-code.code) c.in_ok-code.ensures.valid

pub returns-clause-storage : goal.returns-clause-storage
returns-clause-storage c =
    let ready = c.args.ready.now in
    IfOk-weaker c.storage_told.result _ _
    (λ told all.
    storage_told ready c.args.depth c.requires c.in_ok-code.code c.in_ok-code.ensures.text told.pairs
    (let so = subst (λ (input : List ℕ). TellsAllOf c.in_ok-code.code input ready.steps c.args.depth told) c.as_slice.ensures all in so.pairs))
    c.storage_told.ensures

pub returns-clause-deep : goal.returns-clause-deep
returns-clause-deep c =
    let ready = c.args.ready.now in
    IfOk-weaker c.storage_told.result _ _
    (λ told all.
    deep_told ready c.args.depth c.requires c.in_ok-code.code
    (where_fit ready c.args.depth c.requires (RunsAs ready.program c.in_ok-code.code) c.in_ok-code.ensures.runs) told
    (subst (λ (input : List ℕ). TellsAllOf c.in_ok-code.code input ready.steps c.args.depth told) c.as_slice.ensures all))
    c.storage_told.ensures
