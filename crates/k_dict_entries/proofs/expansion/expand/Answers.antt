use Rattle.std.proofs.Common.{◌≡◌, ◌<◌, ◌≤◌, ◌+◌, ap, ◌∙◌, sym, subst, arith, ◌∷◌, [], length, length-append}
use Rattle.k_dict_entries.specs.Entries.{label_of}
use Rattle.k_dict_entries.specs.Trees.{node_at}
use Rattle.k_dict_entries.proofs.Owed.{too_large, step_given, step_shallow}
use Rattle.k_dict_entries.proofs.expansion.expand.Goals as goal

pub returns-then-len-limit : goal.returns-then-len-limit
returns-then-len-limit c =
    let test = c.if-len-limit.true in let nodes = c.len-in-Some.ensures in let runs = c.len.ensures in
    too_large c.args.dict.now c.args.root c.args.limit c.loop-given.nodes c.in-Some.given c.loop-given.pending c.pop.new.self c.in-Some.ensures
    c.loop-given.invariant.given c.loop-given.invariant.shallow c.loop-given.invariant.few (omega arith)

pub loop-given-preserved : goal.loop-given-preserved
loop-given-preserved c =
    let test = c.if-len-limit.false in let nodes = c.len-in-Some.ensures in
    let more : length c.push-in-Some.new.self ≡ length c.loop-given.nodes + 1 =
    ap length c.in_default-push.ensures.ok ∙ length-append c.loop-given.nodes (node_at c.in-Some.given.depth (label_of c.entry-entry.result.now) ∷ []) in
    record {
      given = step_given c.args.dict.now c.args.root c.loop-given.nodes c.push-in-Some.new.self c.in-Some.given c.entry-entry.result.now c.loop-given.pending
          c.pop.new.self c.visit.new.pending c.in-Some.ensures c.in_default-push.ensures.ok c.in_default-visit.ensures c.loop-given.invariant.given
          c.entry-entry.ensures.value c.entry-entry.ensures.interned.earlier c.loop-given.invariant.shallow;
      shallow = step_shallow c.args.dict.now c.args.root c.in-Some.given c.entry-entry.result.now c.loop-given.pending c.pop.new.self c.visit.new.pending
          c.in-Some.ensures c.in_default-visit.ensures c.entry-entry.ensures.value c.entry-entry.ensures.interned.earlier c.loop-given.invariant.shallow;
      few = omega arith;
    }
