use Rattle.std.proofs.Common.{◌≡◌, true, slice_get, Option, Some, Ok, subst, ap, ◌∙◌}
use Rattle.k_lex_expansion.specs.declared.calls.Closed.{Closed}
use Rattle.k_lex_expansion.specs.Calls.{fits}
use Rattle.k_lex_expansion.specs.Gathering.{Gathers}
use Rattle.k_lex_expanding.specs.declared.calls.OpenCall.{OpenCall}
use Rattle.k_lex_expanding.proofs.FirstLaws.{call_read}
use Rattle.k_lex_expanding.proofs.first.call_at.Goals as goal

pub returns-in_ok-call-in-Some : goal.returns-in_ok-call-in-Some
returns-in_ok-call-in-Some c =
    let there : ◌≡◌ {A = Option Closed} c.in_ok-gather.field-0 (Some c.in-Some.closed) = cc (c.in-Some.is) in
    let closed = subst (λ o. Gathers (Ok o) c.args.list.now c.args.source.now c.gather.new.list) there c.in_ok-gather.ensures in
    let fit : fits c.args.count c.in-Some.closed.arguments ≡ true = cc (c.if-not-fits.false, c.fits.ensures, c.as_slice.ensures) in
    let opened = c.in_ok-call-in-Some.ensures in
    λ macros m limit made at.
    call_read macros m c.args.count c.args.token.now c.args.list.now c.args.source.now c.args.ends made c.in-Some.closed c.gather.new.list c.in_ok-call-in-Some.call
    (ap (λ (x : OpenCall). slice_get macros x.number) opened ∙ at) closed fit
    (ap (λ (x : OpenCall). x.complete) opened) (ap (λ (x : OpenCall). x.waiting) opened) (ap (λ (x : OpenCall). x.names) opened) (ap (λ (x : OpenCall). x.spaced) opened)
