use Rattle.std.proofs.Common.{◌+◌, ◌*◌, ◌<◌, ◌^◌, sym, ap, ◌∙◌, subst, List}
use Rattle.k_dict_entries.specs.Tallies.{total as count_all}
use Rattle.k_dict_entries.specs.declared.entry.Run.{Run}
use Rattle.k_selfpar.specs.Grouping.{tallied}
use Rattle.k_selfpar.proofs.Grouped.{room_behind}
use Rattle.k_selfpar.proofs.grouping.count_runs.Goals as goal

pub add-requires : goal.add-requires
add-requires c =
    (room_behind c.loop-run.tally c.args.count c.in-Some.run'.now c.in-Some.later.now c.loop-run.rest.now c.in-Some.ensures.cases.0 c.loop-run.invariant.room).1

pub loop-run-preserved : goal.loop-run-preserved
loop-run-preserved c =
    let P : List Run → Type 0 = λ t. count_all t + c.args.count * count_all c.in-Some.later.now < 2 ^ 64 in
    record {
      done = ap (tallied c.args.count c.in-Some.later.now) c.in_ok-add.ensures.ok ∙ sym (ap (λ l. tallied c.args.count l c.loop-run.tally) c.in-Some.ensures.cases.0)
          ∙ c.loop-run.invariant.done;
      room = subst P (sym c.in_ok-add.ensures.ok)
          (room_behind c.loop-run.tally c.args.count c.in-Some.run'.now c.in-Some.later.now c.loop-run.rest.now c.in-Some.ensures.cases.0 c.loop-run.invariant.room).0;
    }
