use Rattle.std.proofs.Common.{◌≡◌, ◌<◌, length, take, get_or, ap, sym, ◌∙◌, arith}
use Rattle.std.proofs.lemmas.List.{length-take, get_or-take}
use Rattle.k_shadow.proofs.Rows.{given_at, low_number}
use Rattle.k_shadow.proofs.versions.Versions.starts.Goals as goal

pub returns-clause-starts : goal.returns-clause-starts
returns-clause-starts c few k live =
    let s = c.self.inside in
    let same : take s.depth s.numbers ≡ c.args.self.now.live = ap (λ v. v.live) c.self.view_is in
    let counted : length (take s.depth s.numbers) ≡ length c.args.self.now.live = ap length same in
    let inside : k < s.depth = omega (arith, length-take s.depth s.numbers, counted, live) in
    let number : get_or s.numbers k 0 ≡ get_or (take s.depth s.numbers) k 0 = sym (get_or-take s.depth s.numbers k 0 inside) in
    let given = given_at s.given (take s.depth s.numbers) c.self.invariant.1 k (omega (arith, counted, live)) in
    let total : s.given ≡ c.args.self.now.given = ap (λ v. v.given) c.self.view_is in
    c.self.invariant.3 k inside ∙ low_number (get_or s.numbers k 0) (omega (arith, number, given, total, few)) ∙ number ∙ ap (λ ns. get_or ns k 0) same
