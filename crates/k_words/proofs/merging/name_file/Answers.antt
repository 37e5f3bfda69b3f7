use Rattle.std.proofs.Common.{arith}
use Rattle.k_words.proofs.Naming.{again, anew, few_times}
use Rattle.k_words.proofs.merging.name_file.Goals as goal

pub overflow_add-times : goal.overflow_add-times
overflow_add-times c =
    let few = few_times c.args.parts.now.items c.place_of-place.result c.index_mut.result.now (omega (arith, c.if-place-len.true, c.len.ensures)) c.index_mut.ensures.value c.requires in
    omega (arith, few)

pub returns-then-place-len : goal.returns-then-place-len
returns-then-place-len c =
    again c.args.parts.now.items c.as_slice.result.now c.args.file.now c.place_of-place.result c.place_of-place.ensures c.as_slice.ensures.value c.index_mut.result.now
    (omega (arith, c.if-place-len.true, c.len.ensures)) c.index_mut.ensures.value

pub returns-in_ok-push : goal.returns-in_ok-push
returns-in_ok-push c =
    anew c.args.parts.now.items c.as_slice.result.now c.args.file.now c.place_of-place.result c.place_of-place.ensures c.as_slice.ensures.value _ c.push.new.self.items
    (omega (arith, c.if-place-len.false, c.len.ensures)) (λ i. record { file = c.in_ok-file.ensures i; times = 1 }) c.in_ok-push.ensures.items
