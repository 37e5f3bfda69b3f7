use Rattle.k_carry.specs.Sources.{setting_of}
use Rattle.k_carry.proofs.Citing.{placed_numbers, placed_push}
use Rattle.k_carry.proofs.walk.place_all.Goals as goal

pub loop-one-preserved : goal.loop-one-preserved
loop-one-preserved c = record {
  numbers = placed_numbers c.loop-one.origins.items c.push.new.self.items c.in-Some.one.now c.in_ok-place.place c.loop-one.rest.now c.in-Some.later.now c.args.cited.now
      c.in_ok-push.ensures.items c.in-Some.ensures.cases.0 c.loop-one.invariant.numbers;
  placed = placed_push (setting_of c.args.program.now) c.loop-one.origins.items c.push.new.self.items _ c.in_ok-push.ensures.items c.loop-one.invariant.placed c.in_ok-place.ensures;
}
