use Rattle.std.proofs.Common.{◌∙◌, ℕ, nat_eq, Option, ap, sym, subst}
use Rattle.k_num.specs.declared.place.Place.{Place}
use Rattle.k_carry.specs.Running.{Searches, found_place}
use Rattle.k_carry.specs.Sources.{setting_of}
use Rattle.k_carry.proofs.Noticing.{searched}
use Rattle.k_carry.proofs.Stepping.{finds, regions_few}
use Rattle.k_carry.proofs.program.search.Goals as goal

pub instruction-instr-requires : goal.instruction-instr-requires
instruction-instr-requires c = finds (setting_of c.args.program.now) c.requires.stands.0 c.args.store.now c.requires.setting c.requires.stands.1

pub advance-requires-clause-few : goal.advance-requires-clause-few
advance-requires-clause-few c = regions_few (setting_of c.args.program.now) c.requires.stands.0 c.args.store.now c.requires.setting c.requires.stands.1

pub returns : goal.returns
returns c =
    subst (λ (r : Option Place). Searches (setting_of c.args.program.now) c.args.store.now c.args.number r c.drop_pending.new.self)
    (sym (c.found.ensures ∙ ap (λ (n : ℕ). found_place (nat_eq n c.args.number) c.in_ok-happened.happened.operation c.in_ok-happened.happened.end
    c.instruction-instr.result.now.place) c.made.ensures))
    (searched (setting_of c.args.program.now) c.requires.stands.0 c.args.store.now c.requires.setting c.requires.stands.1 c.instruction-instr.result.now c.in_ok-happened.ensures.0
    c.in_ok-happened.happened c.advance.new.store c.drop_pending.new.self c.args.number c.in_ok-happened.ensures.1 c.drop_pending.ensures.code c.drop_pending.ensures.dropped
    c.requires.fewer)
