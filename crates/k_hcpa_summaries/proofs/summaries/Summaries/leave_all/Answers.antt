use Rattle.std.proofs.Common.{◌≡◌, ◌+◌, ◌-◌, ◌∙◌, ap, sym, min, length, take, drop, reverse, arith}
use Rattle.std.proofs.lemmas.List.{take_all, length-drop}
use Rattle.std.proofs.lemmas.Result.{on_ok_weaker}
use Rattle.k_hcpa_summaries.specs.Closing.{left_open}
use Rattle.k_hcpa_summaries.proofs.Events.{all_left}
use Rattle.k_hcpa_summaries.proofs.summaries.Summaries.leave_all.Goals as goal

pub returns-clause-ok : goal.returns-clause-ok
returns-clause-ok c =
    let s = c.args.self.now in
    let paths = c.args.paths.now in
    let closed = c.min-closed.result in
    let work : c.close.inside.work + c.args.latency ≡ s.work + c.args.latency = ap (λ x. x.work + c.args.latency) c.close.view_is in
    let opened : c.saturating_sub-2.result ≡ s.opened - c.args.count = c.saturating_sub-2.ensures ∙ ap (λ x. x.opened - c.args.count) c.close.view_is in
    let untracked : c.min-untracked.result ≡ min (s.opened - c.args.depth) c.args.count =
    c.min-untracked.ensures ∙ ap (λ n. min n c.args.count) (c.saturating_sub.ensures ∙ ap (λ x. x.opened - c.args.depth) c.self.view_is) in
    let as_many : closed ≡ min (c.args.count - min (s.opened - c.args.depth) c.args.count) (length paths) = c.min-closed.ensures ∙ ap (λ n. min (c.args.count - n) (length paths)) untracked in
    let k = length paths - closed in
    let tail : take (length paths - k) (drop k paths) ≡ drop k paths = take_all (length paths - k) (drop k paths) (omega (arith, length-drop k paths)) in
    on_ok_weaker c.close-2.result (λ is. is
    ∙ (λ i. left_open (work i) (opened i) (reverse (tail i)) s)
    ∙ sym (all_left c.args.depth c.args.latency c.args.count closed paths s c.requires.paths as_many)) c.close-2.ensures.ok
