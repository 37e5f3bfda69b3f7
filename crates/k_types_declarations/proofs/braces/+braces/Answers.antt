use Rattle.std.proofs.Common.{◌≡◌, ◌-◌, [], ap, map, subst, sym, arith}
use Rattle.std.proofs.lemmas.List.{nil_from_length}
use Rattle.k_types_meaning.specs.Initialisers.{giving, items_within}
use Rattle.k_types_declarations.specs.Braces.{Puts}
use Rattle.k_types_declarations.proofs.BracesLaws.{list_within, puts_none, puts_more, puts_all, puts_refused, puts_too_many}
use Rattle.k_types_declarations.proofs.braces.+braces.Goals as goal

pub put_all-loop-item-preserved : goal.put_all-loop-item-preserved
put_all-loop-item-preserved t c =
    puts_more c.args.names.now c.args.filled.file c.args.filled.kept c.args.filled.kind c.args.dims.now c.as_slice-item-items.result.now
    (items_within c.args.filled.file c.args.filled.kind c.args.dims.now c.args.count c.args.first (map (giving c.args.names.now) c.args.items.now))
    c.loop-item.item-index c.loop-item.left (c.loop-item.left - 1) c.loop-item.element c.in_ok-next.next c.args.each c.item-item.result
    c.args.found.now c.loop-item.found c.put.new.found
    c.loop-item-test.true c.item-item.is (omega arith) c.in_ok-next.ensures c.requires c.loop-item.invariant c.in-Ok.ensures

pub put_all-returns-in-Err : goal.put_all-returns-in-Err
put_all-returns-in-Err t c =
    puts_refused c.args.names.now c.args.filled.file c.args.filled.kept c.args.filled.kind c.args.dims.now c.as_slice-item-items.result.now
    (items_within c.args.filled.file c.args.filled.kind c.args.dims.now c.args.count c.args.first (map (giving c.args.names.now) c.args.items.now))
    c.loop-item.item-index c.loop-item.left (c.loop-item.left - 1) c.loop-item.element c.args.each c.item-item.result
    c.args.found.now c.loop-item.found c.in-Err.fault
    c.loop-item-test.true c.item-item.is (omega arith) c.requires c.loop-item.invariant c.in-Err.ensures

pub put_all-returns : goal.put_all-returns
put_all-returns t c =
    puts_all c.args.names.now c.args.filled.file c.args.filled.kept c.args.filled.kind c.args.dims.now c.as_slice-item-items.result.now
    (items_within c.args.filled.file c.args.filled.kind c.args.dims.now c.args.count c.args.first (map (giving c.args.names.now) c.args.items.now))
    c.loop-item.item-index c.loop-item.left c.loop-item.element c.args.found.now c.loop-item.found
    c.loop-item-test.false c.loop-item.invariant

pub put_all-loop-item-init : goal.put_all-loop-item-init
put_all-loop-item-init t c =
    puts_none c.args.names.now c.args.filled.file c.args.filled.kept c.args.filled.kind c.args.dims.now c.as_slice-item-items.result.now
    (items_within c.args.filled.file c.args.filled.kind c.args.dims.now c.args.count c.args.first (map (giving c.args.names.now) c.args.items.now))
    c.args.count c.args.first c.args.found.now
    (ap (λ l. items_within c.args.filled.file c.args.filled.kind c.args.dims.now c.args.count c.args.first (map (giving c.args.names.now) l)) c.as_slice-item-items.ensures)

pub put_all-returns-then-left-eq0 : goal.put_all-returns-then-left-eq0
put_all-returns-then-left-eq0 t c =
    puts_too_many c.args.names.now c.args.filled.file c.args.filled.kept c.args.filled.kind c.args.dims.now c.as_slice-item-items.result.now
    (items_within c.args.filled.file c.args.filled.kind c.args.dims.now c.args.count c.args.first (map (giving c.args.names.now) c.args.items.now))
    c.refuse.result c.loop-item.item-index c.loop-item.left c.loop-item.element c.item-item.result c.args.found.now c.loop-item.found c.refuse.new.found
    c.loop-item-test.true c.item-item.is (first_of (search (arith), omega (arith, c.if-left-eq0.true))) c.loop-item.invariant (c.refuse.ensures c.args.filled.kept)

pub put-returns-in_default : goal.put-returns-in_default
put-returns-in_default t c =
    let none : c.args.dims.now ≡ [] = nil_from_length c.args.dims.now c.in_default.ensures.cases in
    subst (λ dims. Puts c.refuse_all.result c.args.filled.kept c.args.found.now c.refuse_all.new.found ((giving c.args.names.now c.args.init.now).within c.args.filled.file c.args.filled.kind dims c.args.element)) (sym none)
    (subst (λ i. Puts c.refuse_all.result c.args.filled.kept c.args.found.now c.refuse_all.new.found ((giving c.args.names.now i).within c.args.filled.file c.args.filled.kind [] c.args.element)) (sym c.in-List.is)
    (subst (Puts c.refuse_all.result c.args.filled.kept c.args.found.now c.refuse_all.new.found) (sym (list_within c.args.names.now c.in-List.place c.in-List.items c.in-List.comma c.args.filled.file c.args.filled.kind [] c.args.element))
    (c.refuse_all.ensures c.args.filled.kept c.args.filled.file c.args.filled.kind c.args.element)))
