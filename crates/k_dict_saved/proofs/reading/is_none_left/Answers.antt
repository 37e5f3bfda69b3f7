use Rattle.std.proofs.Common.{◌↔◌, IsTrue, sym, subst}
use Rattle.std.specs.Prelude.{IfOk}
use Rattle.k_dict_saved.specs.Formats.{HaveRuns, NoneIsLeft}
use Rattle.k_dict_saved.specs.declared.format.Format.{Format}
use Rattle.k_dict_saved.proofs.reading.is_none_left.Goals as goal

pub are_in_post_order-requires-clause-runs : goal.are_in_post_order-requires-clause-runs
are_in_post_order-requires-clause-runs c =
    let P : Format → Type 0 = λ f. HaveRuns f c.args.entries.now in subst P c.in-One.is c.requires.runs

pub are_named-requires : goal.are_named-requires
are_named-requires c =
    let P : Format → Type 0 = λ f. HaveRuns f c.args.entries.now in subst P c.in-Two.is c.requires.runs

pub returns-in-Two : goal.returns-in-Two
returns-in-Two c =
    let P : Format → Type 0 = λ f. IfOk c.are_named.result (λ none. IsTrue none ↔ NoneIsLeft f c.args.entries.now) in
    subst P (sym c.in-Two.is) c.are_named.ensures
