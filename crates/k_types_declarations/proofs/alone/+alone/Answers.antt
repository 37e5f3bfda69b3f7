use Rattle.std.proofs.Common.{Ok, map, subst, sym}
use Rattle.k_types_meaning.specs.Initialisers.{Giving, giving}
use Rattle.k_types_meaning.specs.Made.{all_made}
use Rattle.k_types_rules.specs.Views.{Refuses}
use Rattle.k_types_declarations.specs.Braces.{GivesAllTaken, GivesTaken}
use Rattle.k_types_declarations.proofs.AloneLaws.{braces_give, list_alone, judges_more, judges_all, judges_refused}
use Rattle.k_types_declarations.proofs.alone.+alone.Goals as goal

pub judge_all_alone-loop-item-preserved : goal.judge_all_alone-loop-item-preserved
judge_all_alone-loop-item-preserved t c =
    judges_more c.args.names.now c.as_slice-item-items.result.now c.loop-item.item-index c.item-item.result c.args.taken.now c.loop-item.taken c.judge_alone.new.taken
    c.loop-item-test.true c.item-item.is c.loop-item.invariant c.in-Ok.ensures

pub judge_all_alone-returns-in-Err : goal.judge_all_alone-returns-in-Err
judge_all_alone-returns-in-Err t c =
    subst (λ items. Refuses c.in-Err.fault (all_made (map (λ (g : Giving). g.alone) (map (giving c.args.names.now) items)))) c.as_slice-item-items.ensures
    (judges_refused c.args.names.now c.as_slice-item-items.result.now c.loop-item.item-index c.item-item.result c.args.taken.now c.loop-item.taken
    c.in-Err.fault c.loop-item-test.true c.item-item.is c.loop-item.invariant c.in-Err.ensures)

pub judge_all_alone-returns : goal.judge_all_alone-returns
judge_all_alone-returns t c =
    subst (λ items. GivesAllTaken (Ok tt) c.args.taken.now c.loop-item.taken (all_made (map (λ (g : Giving). g.alone) (map (giving c.args.names.now) items)))) c.as_slice-item-items.ensures
    (judges_all c.args.names.now c.as_slice-item-items.result.now c.loop-item.item-index c.args.taken.now c.loop-item.taken c.loop-item-test.false c.loop-item.invariant)

pub judge_braces_alone-returns : goal.judge_braces_alone-returns
judge_braces_alone-returns t c =
    braces_give c.judge_all_alone.result (all_made (map (λ (g : Giving). g.alone) (map (giving c.args.names.now) c.args.items.now)))
    c.args.taken.now c.judge_all_alone.new.taken c.judge_all_alone.ensures

pub judge_alone-returns-in-List : goal.judge_alone-returns-in-List
judge_alone-returns-in-List t c =
    subst (λ i. GivesTaken c.judge_braces_alone.result c.args.taken.now c.judge_braces_alone.new.taken (giving c.args.names.now i).alone) (sym c.in-List.is)
    (list_alone c.args.names.now _ c.in-List.items _ c.judge_braces_alone.result c.args.taken.now c.judge_braces_alone.new.taken c.judge_braces_alone.ensures)
