use Rattle.std.proofs.Common.{◌≡◌, ◌^◌, ◌<◌, ℕ, List, ◌∷◌, subst}
use Rattle.k_dict_entries.specs.Gathering.{CanCount, weight}
use Rattle.k_dict_entries.specs.declared.gathering.Level.{Level}
use Rattle.k_dict_entries.proofs.Sound.{can_count, closed_is, closed_refused}
use Rattle.k_dict_entries.proofs.gathering.Gathering.close.Goals as goal

pub returns-in-Err-intern-clause-leads : goal.returns-in-Err-intern-clause-leads
returns-in-Err-intern-clause-leads c =
    closed_refused (Unit {0}) c.args.self.now.dict c.intern.new.self c.args.self.now.levels c.pop.new.self c.in-Some.level c.in-Ok.entry c.in-Err-intern.fault
    (record { dict = c.intern.new.self; levels = c.pop.new.self }) c.in-Some.ensures c.in-Ok.ensures c.in-Err-intern.ensures.interned c.in-Err-intern.ensures.answer

pub returns-in-Ok-count_child-clause-leads : goal.returns-in-Ok-count_child-clause-leads
returns-in-Ok-count_child-clause-leads c =
    closed_is c.args.self.now.dict c.intern.new.self c.args.self.now.levels c.pop.new.self c.count_child.new.levels c.in-Some.level c.in-Ok.entry
    c.in-Ok-intern.number c.in-Some.ensures c.in-Ok.ensures c.in-Ok-intern.ensures.interned c.in-Ok-intern.ensures.answer c.in-Ok-count_child.ensures

pub count_child-requires : goal.count_child-requires
count_child-requires c = needed c.in-Ok-intern.number c.in-Some.level c.args.self.now.levels c.pop.new.self c.in-Some.ensures c.requires.sound.small
  where
    needed : (n : ℕ) (l : Level) (levels rest : List Level) → levels ≡ l ∷ rest → weight levels < 2 ^ 64 → CanCount n rest
    needed n l levels rest is small = let P : List Level → Type 0 = λ list. weight list < 2 ^ 64 in can_count n l rest (subst P is small)
