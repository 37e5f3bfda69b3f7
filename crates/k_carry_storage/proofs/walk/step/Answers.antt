use Rattle.std.proofs.Common.{◌∙◌, Option, arith, subst}
use Rattle.k_carry.proofs.Stepping.{finds, made_few, made_is, regions_few}
use Rattle.k_carry_storage_pairs.specs.declared.access.Access.{Access}
use Rattle.k_carry_storage.specs.Noting.{IsNotedAll}
use Rattle.k_carry_storage.specs.Running.{setting_of}
use Rattle.k_carry_storage.proofs.Moving.{stepped}
use Rattle.k_carry_storage.proofs.walk.step.Goals as goal

pub instruction-instr-requires : goal.instruction-instr-requires
instruction-instr-requires c = finds (setting_of c.args.program.now) c.requires.kept.events c.args.store.now c.requires.setting c.requires.kept.stands

pub advance-requires-clause-few : goal.advance-requires-clause-few
advance-requires-clause-few c = regions_few (setting_of c.args.program.now) c.requires.kept.events c.args.store.now c.requires.setting c.requires.kept.stands

pub note-requires : goal.note-requires
note-requires c =
    omega (arith, c.made.ensures, made_few (setting_of c.args.program.now) c.requires.kept.events c.args.store.now c.requires.setting c.requires.kept.stands)

pub returns : goal.returns
returns c =
    stepped (setting_of c.args.program.now) c.requires.kept.events c.args.store.now c.requires.setting c.requires.kept.stands c.instruction-instr.result.now
    c.instruction-instr.ensures c.in_ok-happened.ensures.0 c.args.noted.now.gathering c.args.noted.now.loads c.args.noted.now.stores
    (record { keeps = c.requires.kept.keeps; knows = c.requires.kept.knows }) c.in_ok-happened.happened c.advance.new.store c.drop_pending.new.self
    (record { number = c.made.result; place = c.instruction-instr.result.now.place }) c.note.new.noted.gathering c.note.new.noted.loads c.note.new.noted.stores
    c.in_ok-happened.ensures.1 c.drop_pending.ensures.code c.drop_pending.ensures.dropped
    (let number = c.made.ensures ∙ made_is (setting_of c.args.program.now) c.requires.kept.events c.args.store.now c.requires.setting c.requires.kept.stands in
    (λ j. record { number = number j; place = c.instruction-instr.result.now.place }))
    (subst (λ (a : Option Access). IsNotedAll a (record { number = c.made.result; place = c.instruction-instr.result.now.place }) c.in_ok-happened.happened
    c.args.noted.now.gathering c.note.new.noted.gathering c.args.noted.now.loads c.note.new.noted.loads c.args.noted.now.stores c.note.new.noted.stores)
    c.in_ok-access.ensures c.in_ok-note.ensures)
