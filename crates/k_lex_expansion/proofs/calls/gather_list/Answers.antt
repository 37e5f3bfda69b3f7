use Rattle.std.proofs.Common.{◌-◌, List, ℕ, Some, Ok, length, ap, sym, subst, ◌∙◌, arith}
use Rattle.k_lex_expansion.specs.Gathering.{Feeds, all_of}
use Rattle.k_lex_expansion.proofs.CallLaws.{list_on, list_ends, list_left}
use Rattle.k_lex_expansion.proofs.calls.gather_list.Goals as goal

pub returns-then-branch : goal.returns-then-branch
returns-then-branch c =
    let fed = subst (λ b. Feeds (Ok b) c.loop-token.call c.in-Some.token c.feed.new.self) c.if-branch.true c.in_ok-feed.ensures in (
      λ behind.
          list_ends c.args.list.now c.loop-token.list c.pop.new.self c.in-Some.token c.args.call.now c.loop-token.call c.feed.new.self
          c.in-Some.ensures c.loop-token.invariant.short c.loop-token.invariant.read fed behind
          ∙ ap (λ (h : List (List ℕ)). Some (record { arguments = all_of c.feed.new.self; hidden = h; size = length c.args.list.now - length c.pop.new.self })) (sym c.in_ok-hidden.ensures),
      list_left c.args.list.now c.loop-token.list c.pop.new.self c.in-Some.token c.in-Some.ensures c.loop-token.invariant.short c.loop-token.invariant.left,
    )

pub loop-token-preserved : goal.loop-token-preserved
loop-token-preserved c =
    let fed = subst (λ b. Feeds (Ok b) c.loop-token.call c.in-Some.token c.feed.new.self) c.if-branch.false c.in_ok-feed.ensures in
    record {
      short = omega (arith, c.loop-token.invariant.short, ap length c.in-Some.ensures);
      left = list_left c.args.list.now c.loop-token.list c.pop.new.self c.in-Some.token c.in-Some.ensures c.loop-token.invariant.short c.loop-token.invariant.left;
      read = list_on c.args.list.now c.loop-token.list c.pop.new.self c.in-Some.token c.args.call.now c.loop-token.call c.feed.new.self
          c.in-Some.ensures c.loop-token.invariant.short c.loop-token.invariant.read fed;
    }
