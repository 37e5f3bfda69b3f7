use Rattle.std.proofs.Common.{sym, arith}
use Rattle.k_selfpar.specs.Sums.{own_of, path_at, serial_in, work_at}
use Rattle.k_selfpar.proofs.Adding.{counted_once, item_adds, path_is, work_is}
use Rattle.k_selfpar.proofs.sums.with_item.Goals as goal

pub overflow_mul-result : goal.overflow_mul-result
overflow_mul-result c =
    let is = item_adds c.args.item.run.count (work_at c.args.dict.now c.args.item.run.entry) c.entry-entry.result.now.work c.args.sums.work (work_is c.args.dict.now c.requires.interned.earlier c.args.item.run.entry c.entry-entry.result.now c.entry-entry.ensures.value) in
    omega (arith, is, c.requires.small.work)

pub overflow_add-result-2 : goal.overflow_add-result-2
overflow_add-result-2 c =
    let is = item_adds c.args.item.run.count (work_at c.args.dict.now c.args.item.run.entry) c.entry-entry.result.now.work c.args.sums.work (work_is c.args.dict.now c.requires.interned.earlier c.args.item.run.entry c.entry-entry.result.now c.entry-entry.ensures.value) in
    omega (arith, is, c.requires.small.work)

pub overflow_mul-result-2 : goal.overflow_mul-result-2
overflow_mul-result-2 c =
    let is = item_adds c.args.item.run.count (path_at c.args.dict.now c.args.item.run.entry) c.entry-entry.result.now.path c.args.sums.path (path_is c.args.dict.now c.requires.interned.earlier c.args.item.run.entry c.entry-entry.result.now c.entry-entry.ensures.value) in
    omega (arith, is, c.requires.small.path)

pub overflow_add-result-3 : goal.overflow_add-result-3
overflow_add-result-3 c =
    let is = item_adds c.args.item.run.count (path_at c.args.dict.now c.args.item.run.entry) c.entry-entry.result.now.path c.args.sums.path (path_is c.args.dict.now c.requires.interned.earlier c.args.item.run.entry c.entry-entry.result.now c.entry-entry.ensures.value) in
    omega (arith, is, c.requires.small.path)

pub returns : goal.returns
returns c = λ i. record {
  instances = counted_once c.args.item.run.count c.args.sums.instances i;
  work = sym (item_adds c.args.item.run.count (work_at c.args.dict.now c.args.item.run.entry) c.entry-entry.result.now.work c.args.sums.work (work_is c.args.dict.now c.requires.interned.earlier c.args.item.run.entry c.entry-entry.result.now c.entry-entry.ensures.value)) i;
  path = sym (item_adds c.args.item.run.count (path_at c.args.dict.now c.args.item.run.entry) c.entry-entry.result.now.path c.args.sums.path (path_is c.args.dict.now c.requires.interned.earlier c.args.item.run.entry c.entry-entry.result.now c.entry-entry.ensures.value)) i;
  serial = item_adds c.args.item.run.count c.serial.result (own_of serial_in c.args.dict.now c.args.item.run.entry) c.args.sums.serial c.serial.ensures i;
}
