use Rattle.std.proofs.Common.{◌≡◌, ◌-◌, ◌<◌, length, arith, refl}
use Rattle.std.specs.Vec.{vec_len}
use Rattle.std.proofs.lemmas.Result.{on_ok_weaker}
use Rattle.k_graph.specs.Passes.{state}
use Rattle.k_graph.proofs.Closings.{closes_around}
use Rattle.k_graph.proofs.pass.Pass.close.Goals as goal

pub returns-in-Some-last_mut : goal.returns-in-Some-last_mut
returns-in-Some-last_mut c =
    let size : vec_len c.pop.new.self ≡ length c.pop.new.self.items = c.pop.new.self.ok.0 in
    let some : 0 < vec_len c.pop.new.self = c.in-Some-last_mut.ensures.variant.0 refl in
    on_ok_weaker c.take_in.result
    (λ grown. closes_around (state c.args.self.now) c.pop.new.self.items c.in-Some.top c.in-Some-last_mut.below.now c.take_in.new.list
    (vec_len c.pop.new.self - 1) c.in-Some.ensures.items (omega arith) c.in-Some-last_mut.ensures.value (cc (grown, c.closed-closed.ensures, c.as_slice.ensures)))
    c.take_in.ensures
