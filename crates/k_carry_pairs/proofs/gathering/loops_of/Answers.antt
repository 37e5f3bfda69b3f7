use Rattle.std.proofs.Common.{◌+◌, ◌-◌, ◌<◌, ◌∷◌, [], ◌∙◌, List, Bool, length, rules, true, false, ap, sym, refl, subst}
use Rattle.std.proofs.lemmas.List.{append-nil}
use Rattle.k_carry_pairs.specs.declared.pairs.LoopPairs.{LoopPairs}
use Rattle.k_carry_pairs.specs.declared.pairs.Pair.{Pair}
use Rattle.k_carry_pairs.specs.Gathered.{loops_from}
use Rattle.k_carry_pairs.proofs.Lasting.{IsTelling, telling_goes, telling_number}
use Rattle.k_carry_pairs.proofs.gathering.loops_of.Goals as goal

pub overflow_cast-region : goal.overflow_cast-region
overflow_cast-region c =
    let small : length c.args.seen.now - length c.loop-is_seen.rest.now < 4294967296 =
    telling_number c.args.seen.now c.loop-is_seen.rest.now c.in-Some.later.now c.args.found.now c.loop-is_seen.loops c.requires c.loop-is_seen.invariant
    (c.in-Some.ensures.cases.0 ∙ ap (λ (b : Bool). b ∷ c.in-Some.later.now) c.if-is_seen.true) in
    search rules

pub loop-is_seen-preserved-in_ok-push : goal.loop-is_seen-preserved-in_ok-push
loop-is_seen-preserved-in_ok-push c =
    subst (λ (all : List LoopPairs). IsTelling c.args.seen.now c.in-Some.later.now c.args.found.now all) (sym c.in_ok-push.ensures.ok)
    (telling_goes c.args.seen.now c.loop-is_seen.rest.now c.in-Some.later.now c.args.found.now c.loop-is_seen.loops _ true c.loop-is_seen.invariant
    (c.in-Some.ensures.cases.0 ∙ ap (λ (b : Bool). b ∷ c.in-Some.later.now) c.if-is_seen.true)
    (ap (λ (pairs : List Pair). record { region = length c.args.seen.now - length c.loop-is_seen.rest.now; pairs = pairs }
    ∷ loops_from (length c.args.seen.now - length c.loop-is_seen.rest.now + 1) c.in-Some.later.now c.args.found.now) (sym c.in_ok-pairs_of.ensures)))

pub loop-is_seen-preserved : goal.loop-is_seen-preserved
loop-is_seen-preserved c =
    subst (λ (all : List LoopPairs). IsTelling c.args.seen.now c.in-Some.later.now c.args.found.now all) (append-nil c.loop-is_seen.loops)
    (telling_goes c.args.seen.now c.loop-is_seen.rest.now c.in-Some.later.now c.args.found.now c.loop-is_seen.loops [] false c.loop-is_seen.invariant
    (c.in-Some.ensures.cases.0 ∙ ap (λ (b : Bool). b ∷ c.in-Some.later.now) c.if-is_seen.false) refl)
