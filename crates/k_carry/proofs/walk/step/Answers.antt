use Rattle.std.proofs.Common.{◌≡◌, ◌++◌, ◌∙◌, ℕ, List, ap, arith, sym, subst}
use Rattle.k_code.specs.Named.{operands}
use Rattle.k_hcpa_store.specs.Kept.{configuration_of}
use Rattle.k_carry.specs.declared.cited.Cited.{Cited}
use Rattle.k_carry.specs.Noting.{IsNotedAll}
use Rattle.k_carry.specs.Sources.{IsPlaceOf, cited_numbers, operand_numbers, setting_of}
use Rattle.k_carry.proofs.Noticing.{stepped}
use Rattle.k_carry.proofs.Stepping.{finds, made_few, regions_few}
use Rattle.k_carry.proofs.walk.step.Goals as goal

pub instruction-requires : goal.instruction-requires
instruction-requires c = finds (setting_of c.args.program.now) c.requires.kept.events c.args.store.now c.requires.setting c.requires.kept.stands

pub advance-requires-clause-few : goal.advance-requires-clause-few
advance-requires-clause-few c = regions_few (setting_of c.args.program.now) c.requires.kept.events c.args.store.now c.requires.setting c.requires.kept.stands

pub note-requires-clause-few : goal.note-requires-clause-few
note-requires-clause-few c =
    omega (arith, c.made.ensures, made_few (setting_of c.args.program.now) c.requires.kept.events c.args.store.now c.requires.setting c.requires.kept.stands)

pub returns : goal.returns
returns c =
    let reads : cited_numbers c.cite_operands.new.cited.items ≡ operand_numbers (configuration_of c.args.store.now) (operands c.instruction.result.now.act) =
    c.in_ok-cite_operands.ensures
    ∙ ap (λ (xs : List Cited). cited_numbers xs ++ operand_numbers (configuration_of c.args.store.now) (operands c.instruction.result.now.act)) c.clear.ensures.items in
    stepped (setting_of c.args.program.now) c.requires.kept.events c.args.store.now c.requires.setting c.requires.kept.stands c.instruction.result.now c.in_ok-happened.ensures.0
    c.in_ok-happened.happened c.advance.new.store c.drop_pending.new.self c.cite_operands.new.cited.items c.args.noted.now.gathering c.note.new.noted.gathering
    c.note.new.noted.places c.in_ok-happened.ensures.1 c.drop_pending.ensures.code c.drop_pending.ensures.dropped reads
    (subst (λ (n : ℕ). IsNotedAll (setting_of c.args.program.now) c.cite_operands.new.cited.items n c.instruction.result.now.place c.in_ok-happened.happened
    c.args.noted.now.gathering c.note.new.noted.gathering) c.made.ensures c.in_ok-note.ensures.noted)
    c.requires.kept.gathers c.requires.kept.of
    (λ told. c.in_ok-note.ensures.places
    (λ m is. subst (λ (n : ℕ). IsPlaceOf (setting_of c.args.program.now) n c.instruction.result.now.place) (sym c.made.ensures) (told m is)))
