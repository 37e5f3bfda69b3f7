use Rattle.std.proofs.Common.{sym, ◌∙◌, ap, List}
use Rattle.k_hcpa_store.specs.declared.call.Caller.{Caller}
use Rattle.k_hcpa_store.specs.Calls.{dropped, resumed}
use Rattle.k_hcpa_store.specs.Kept.{Kept}
use Rattle.k_hcpa_store.proofs.state.State.leave.Goals as goal

pub returns-in-Some : goal.returns-in-Some
returns-in-Some c =
    let rest : List Caller = c.pop_caller.new.self.waiting in (
      c.returned-slot.result,
      (
        c.returned-slot.new.self,
        (
          c.in-Some.caller,
          (
            rest,
            (
              c.returned-slot.ensures.gives,
              ap (λ (m : Kept). m.waiting) c.in-Some.ensures,
              c.resume.ensures ∙ ap (resumed c.in-Some.caller c.returned-slot.result)
                  (c.drop_call.ensures ∙ ap dropped (sym (ap (λ (m : Kept). record m { waiting = rest }) c.in-Some.ensures))),
            ),
          ),
        ),
      ),
    )
