use Rattle.std.proofs.Common.{◌≡◌, ◌+◌, ◌<◌, [], ◌∷◌, List, length, arith, ap}
use Rattle.k_optab.specs.declared.event.Event.{Event}
use Rattle.k_optab.specs.Events.{made_before, operations}
use Rattle.k_graph.proofs.Chaining.{event_there, made_more, no_operation}
use Rattle.k_graph.proofs.chain.place_of.Goals as goal
use Rattle.k_graph.proofs.chain.place_of.Goals.{in-Op, in_default}

-- an event stands at the place
pub bounds-list-place : goal.bounds-list-place
bounds-list-place c =
    let size : length (operations c.as_slice-list.result.now) ≡ length (operations c.args.events.now) = ap (λ es. length (operations es)) c.as_slice-list.ensures in
    event_there c.as_slice-list.result.now c.loop-so_far.place (omega (arith, c.loop-so_far.invariant.count, c.loop-so_far-test.true, c.requires.within))

pub loop-so_far-preserved : goal.loop-so_far-preserved
loop-so_far-preserved c =
    let list : List Event = c.as_slice-list.result.now in
    let event : Event = c.index-list-place.result in
    let size : length (operations list) ≡ length (operations c.args.events.now) = ap (λ es. length (operations es)) c.as_slice-list.ensures in
    let count : made_before c.loop-so_far.place list ≡ c.loop-so_far.so_far = c.loop-so_far.invariant.count in
    let low : c.loop-so_far.so_far < c.args.start = c.loop-so_far-test.true in
    let within : c.loop-so_far.place < length list = event_there list c.loop-so_far.place (omega (arith, c.requires.within)) in
    let more : made_before (c.loop-so_far.place + 1) list ≡ made_before c.loop-so_far.place list + length (operations (event ∷ [])) =
    made_more list c.loop-so_far.place event within c.index-list-place.is in
    elim c.match-list-place.branch [
      | in-Op w ↦
          (let one : length (operations (event ∷ [])) ≡ 1 = ap (λ e. length (operations (e ∷ []))) w.in-Op.is in
          let grows : c.match-list-place.so_far ≡ c.loop-so_far.so_far + 1 = w.so_far-is in
          record { from = omega (arith, c.loop-so_far.invariant.from); within = omega arith; count = omega arith; few = omega arith })
      | in_default w ↦
          (let none : length (operations (event ∷ [])) ≡ 0 = ap length (no_operation event [] w.in_default.not-Op) in
          let stays : c.match-list-place.so_far ≡ c.loop-so_far.so_far = w.so_far-is in
          record { from = omega (arith, c.loop-so_far.invariant.from); within = omega arith; count = omega arith; few = omega arith })
    ]
