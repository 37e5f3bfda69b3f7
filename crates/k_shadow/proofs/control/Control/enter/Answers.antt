use Rattle.std.proofs.Common.{◌≡◌, ◌+◌, ◌<◌, ◌≤◌, true, [], ◌∷◌, ◌++◌, length, take, set, ◌∙◌, ap, sym, arith, nat_lt, vec_len}
use Rattle.std.proofs.lemmas.List.{length-set}
use Rattle.k_shadow.specs.Rows.{row_at, stack_in, times_of}
use Rattle.k_shadow.specs.Stack.{level_entered}
use Rattle.k_shadow.proofs.Rows.{WereStamped-later, WereStamped-take, WereGiven-next}
use Rattle.k_shadow.proofs.Entries.{kept-entered, stack_in-entered, levels_counted, one_level_more}
use Rattle.k_shadow.proofs.control.Control.enter.Goals as goal

pub invariant_of-self : goal.invariant_of-self
invariant_of-self c =
    let s = c.self.inside in
    let live = s.versions.live in
    let within : length live ≤ length s.current = omega (arith, c.self.invariant.0) in
    let same : length live ≡ length c.args.self.now.current = levels_counted s.current live c.args.self.now within (ap (λ x. x.current) c.self.view_is) in
    let fewer : length live < 32 = omega (arith, c.requires.shallow) in
    let front : length live < length s.current = omega (arith, fewer) in
    let kept : s.kept ≡ true → times_of (row_at s.rows.items s.count) (live ++ (s.versions.given + 1) ∷ []) ≡ take (length (live ++ (s.versions.given + 1) ∷ [])) (set s.current c.depth-depth.result 0) = λ on.
    kept-entered s.rows.items s.count s.current live s.versions.given front c.self.invariant.1 (c.self.invariant.4 on)
    ∙ ap (λ d. take (length (live ++ (s.versions.given + 1) ∷ [])) (set s.current d 0)) (sym c.depth-depth.ensures.count) in
    rw c.enter.ensures.entered (one_level_more live (s.versions.given + 1) fewer, WereStamped-later _ _ _ (omega arith) c.self.invariant.1, WereGiven-next _ _ c.self.invariant.2, c.self.invariant.3, kept, omega (arith, c.self.invariant.5, length-set s.current c.depth-depth.result 0))

pub returns : goal.returns
returns c =
    let s = c.self.inside in
    let rows = take s.count s.rows.items in
    let room = nat_lt s.count (vec_len s.rows) in
    let within : length s.versions.live ≤ length s.current = omega (arith, c.self.invariant.0) in
    let same : length s.versions.live ≡ length c.args.self.now.current = levels_counted s.current s.versions.live c.args.self.now within (ap (λ x. x.current) c.self.view_is) in
    let fewer : length s.versions.live < length s.current = omega (arith, c.requires.shallow) in
    let stamped = WereStamped-take s.versions.given s.count s.rows.items c.self.invariant.1 in
    record {
      entered = ap (λ d. stack_in (set s.current d 0) rows c.enter.new.self room) c.depth-depth.ensures.count ∙ ap (λ v. stack_in (set s.current (length s.versions.live) 0) rows v room) c.enter.ensures.entered ∙ stack_in-entered s.current rows s.versions room fewer stamped ∙ ap level_entered c.self.view_is;
    }
