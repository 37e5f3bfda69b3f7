use Rattle.std.proofs.Common.{◌≡◌, ◌∙◌, inr, sym, arith}
use Rattle.k_parse_steps.specs.Sources.{begin_source, feed_source}
use Rattle.k_parse.specs.Runs.{runs}
use Rattle.k_parse_steps.specs.declared.turn.Turn.TheVariants as turn
use Rattle.k_parse.specs.Parse.{nesting_limit}
use Rattle.k_parse.proofs.LastToken.{goes_ends}
use Rattle.k_parse.proofs.Turns.{done_leads, refused_leads, deep_leads, goes_leads}
use Rattle.k_parse.proofs.parser.read.Goals as goal

pub returns-then-reach-gt-NESTING-clause-refused : goal.returns-then-reach-gt-NESTING-clause-refused
returns-then-reach-gt-NESTING-clause-refused c =
    let fed : feed_source c.loop-token.source c.token-item.result ≡ turn.Goes c.in-Goes.source c.in-Goes.reach = sym c.in-Ok.ensures ∙ c.in-Goes.is in
    inr (deep_leads c.loop-token.source c.in-Goes.source c.args.tokens.now c.loop-token.token-index c.token-item.result c.in-Goes.reach
    (runs nesting_limit begin_source c.args.tokens.now) (omega arith) c.token-item.is fed (omega arith) c.loop-token.invariant.leads)

pub returns-in-Done-clause-tree : goal.returns-in-Done-clause-tree
returns-in-Done-clause-tree c =
    let fed : feed_source c.loop-token.source c.token-item.result ≡ turn.Done c.in-Done.unit = sym c.in-Ok.ensures ∙ c.in-Done.is in
    done_leads c.loop-token.source c.args.tokens.now c.loop-token.token-index c.token-item.result c.in-Done.unit
    (runs nesting_limit begin_source c.args.tokens.now) (omega arith) c.token-item.is fed c.loop-token.invariant.leads

pub returns-in-Refused-clause-refused : goal.returns-in-Refused-clause-refused
returns-in-Refused-clause-refused c =
    let fed : feed_source c.loop-token.source c.token-item.result ≡ turn.Refused = sym c.in-Ok.ensures ∙ c.in-Refused.is in
    inr (refused_leads c.loop-token.source c.args.tokens.now c.loop-token.token-index c.token-item.result
    (runs nesting_limit begin_source c.args.tokens.now) (omega arith) c.token-item.is fed c.loop-token.invariant.leads)

pub loop-token-preserved : goal.loop-token-preserved
loop-token-preserved c =
    let fed : feed_source c.loop-token.source c.token-item.result ≡ turn.Goes c.in-Goes.source c.in-Goes.reach = sym c.in-Ok.ensures ∙ c.in-Goes.is in
    record {
      leads = goes_leads c.loop-token.source c.in-Goes.source c.args.tokens.now c.loop-token.token-index c.token-item.result c.in-Goes.reach
          (runs nesting_limit begin_source c.args.tokens.now) (omega arith) c.token-item.is fed (omega arith) c.loop-token.invariant.leads;
      ends = goes_ends c.loop-token.source c.in-Goes.source c.args.tokens.now c.loop-token.token-index c.token-item.result c.in-Goes.reach
          (omega arith) c.token-item.is fed c.loop-token.invariant.ends;
    }
