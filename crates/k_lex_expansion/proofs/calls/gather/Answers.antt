use Rattle.std.proofs.Common.{◌-◌, length, take, ◌≡◌, ℕ, List, Option, Some, None, Ok, drop, subst, ◌∙◌}
use Rattle.k_lex_expansion.specs.Gathering.{GathersList, GathersSource}
use Rattle.k_lex_expansion.proofs.GatherLaws.{by_source}
use Rattle.k_lex_expansion.proofs.calls.gather.Goals as goal

pub returns-in_ok-ended-in-Some-2 : goal.returns-in_ok-ended-in-Some-2
returns-in_ok-ended-in-Some-2 c =
    let first = c.take_first-first.result in
    let none : ◌≡◌ {A = Option (List (List ℕ))} c.in_ok-hidden.field-0 None = cc (c.in-None.is) in
    let count : ◌≡◌ {A = Option ℕ} c.in_ok-gather_source-in-None.field-0 (Some c.in-Some-2.count) = cc (c.in-Some-2.is) in
    let list = subst (λ o. GathersList (Ok o) c.take_first-first.new.list c.new-call.result c.gather_list.new.list c.gather_list.new.call) none c.in_ok-hidden.ensures in
    let call = subst (λ o. GathersSource (Ok o) (take (length c.args.source.now - first) (drop first c.args.source.now)) c.gather_list.new.call c.gather_source.new.call) count c.in_ok-gather_source-in-None.ensures in
    by_source c.in_ok-ended-in-Some-2.field-0 c.args.list.now c.take_first-first.new.list c.args.source.now c.gather_list.new.list first c.in-Some-2.count
    c.new-call.result c.gather_list.new.call c.gather_source.new.call c.in_ok-share-in-Some-2.field-0
    c.take_first-first.ensures.taken c.requires.open c.take_first-first.ensures.list c.new-call.ensures list call
    c.in_ok-ended-in-Some-2.ensures.0 (c.in_ok-ended-in-Some-2.ensures.1) (c.in_ok-share-in-Some-2.ensures ∙ c.requires.nothing) c.in_ok-ended-in-Some-2.ensures.2
