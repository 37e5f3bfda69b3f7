use Rattle.std.proofs.Common.{ℤ, sym, subst, rules}
use Rattle.std.specs.Int.{w32}
use Rattle.std.proofs.lemmas.Int.{to_z-of_z}
use Rattle.k_dict_saved.specs.Reading.{HasHead}
use Rattle.k_dict_saved.proofs.HeadSteps.{exit_takes, has_head, no_count, no_exit, no_ops, wrong_fourth, wrong_third}
use Rattle.k_dict_saved.proofs.reading.head.Goals as goal

pub returns-in_default : goal.returns-in_default
returns-in_default c = λ format. no_exit format c.args.text.now c.in_default.ensures

pub returns-in_default-named : goal.returns-in_default-named
returns-in_default-named c = λ format.
    wrong_third c.args.text.now c.in-Some.exit c.in-Some.ops_text.now c.in-Some.ensures format _ (no_ops format c.in-Some.ops_text.now c.in_default-named.ensures.value)

pub returns-in_default-named-2 : goal.returns-in_default-named-2
returns-in_default-named-2 c = λ format.
    wrong_fourth c.args.text.now c.in-Some.exit c.in-Some.ops_text.now c.in-Some.ensures
    c.in-Some-named.ops c.in-Some-named.regions_text.now c.in-Some-named.ensures.value format _ (no_count format c.in-Some-named.regions_text.now c.in_default-named-2.ensures.value)

pub returns : goal.returns
returns c =
    let head = has_head c.args.text.now c.in-Some.exit c.in-Some.ops_text.now c.in-Some.ensures
    c.in-Some-named.ops c.in-Some-named.regions_text.now c.in-Some-named.ensures.value c.in-Some-named-2.count c.in-Some-named-2.rest.now c.in-Some-named-2.ensures.value in
    let fits = (exit_takes c.args.text.now c.in-Some.exit c.in-Some.ops_text.now c.in-Some.ensures).1 in
    let P : ℤ → Type 0 = λ exit. HasHead exit c.in-Some-named.ops c.in-Some-named-2.count c.args.text.now c.in-Some-named-2.rest.now in
    subst P (sym (to_z-of_z w32 c.in-Some.exit (search rules))) head
