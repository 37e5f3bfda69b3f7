use Rattle.std.proofs.Common.{◌≡◌, ◌+◌, ◌≤◌, ◌++◌, length, rules}
use Rattle.std.proofs.lemmas.List.{length-append}
use Rattle.k_hcpa.proofs.Moving.{cut_passing, none_for_rest, none_passed, passing_on, rest_held}
use Rattle.k_hcpa.proofs.output.Outflow.hand_on.Goals as goal

pub loop-rest-preserved : goal.loop-rest-preserved
loop-rest-preserved g c =
    let full : length c.loop-rest.self.held.items + length c.split_at.result.0.now ≡ 65536 = search rules in
    passing_on _ _ c.loop-rest.rest.now _ _ _ _ _ _ _ c.loop-rest.invariant c.split_at.ensures.by_index.0 (search rules) full c.in-Ok.ensures.0 c.in-Ok.ensures.1

pub returns-in-Err : goal.returns-in-Err
returns-in-Err g c =
    cut_passing _ _ _ c.loop-rest.rest.now _ _ _ _ _ _ c.loop-rest.invariant c.split_at.ensures.by_index.0 c.in-Err.ensures

pub returns-in-Err-hold : goal.returns-in-Err-hold
returns-in-Err-hold g c = none_for_rest _ _ _ _ _ _ c.loop-rest.invariant

pub loop-rest-init : goal.loop-rest-init
loop-rest-init g c = none_passed c.args.self.now c.args.bytes.now (g.K.Sink.seen c.args.out.now) (search rules)

pub returns-in-Ok-hold : goal.returns-in-Ok-hold
returns-in-Ok-hold g c =
    let mid = c.loop-rest.self in
    let rest = c.loop-rest.rest.now in
    let both : length (mid.held.items ++ rest) ≡ length mid.held.items + length rest = length-append mid.held.items rest in
    let short : length (mid.held.items ++ rest) ≤ 65536 = search rules in
    rest_held c.args.self.now c.args.bytes.now rest mid c.hold.new.self (g.K.Sink.seen c.args.out.now) (g.K.Sink.seen c.loop-rest.out) c.loop-rest.invariant
    c.in-Ok-hold.ensures.put c.in-Ok-hold.ensures.ok short
