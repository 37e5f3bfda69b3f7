use Rattle.std.proofs.Common.{◌≡◌, ◌∙◌, Some, ap, string_bytes, sym}
use Rattle.std.proofs.lemmas.List.{nil_from_length}
use Rattle.k_words.specs.Settings.{seen_words}
use Rattle.k_words.specs.Words.{demo_loops, demo_number}
use Rattle.k_words.proofs.Demos.{no_loops, one_more, wrong_loops}
use Rattle.k_words.proofs.job.demo_job.Goals as goal

pub returns-in_default-split_first : goal.returns-in_default-split_first
returns-in_default-split_first c =
    let number = string_bytes c.in-Some.number.now in
    let is : demo_number number ≡ Some c.in-Some-number_within.number =
    ap demo_number (sym c.as_str.ensures.value) ∙ sym c.number_within.ensures.value ∙ c.in-Some-number_within.is in
    no_loops (seen_words c.args.arguments.now) number (seen_words c.in-Some.rest.now) (ap seen_words c.in-Some.ensures.cases.0) c.in-Some-number_within.number is
    (ap seen_words (nil_from_length c.in-Some.rest.now c.in_default-split_first.ensures.cases))

pub returns-in_default-number_within-2 : goal.returns-in_default-number_within-2
returns-in_default-number_within-2 c =
    let number = string_bytes c.in-Some.number.now in
    let loops = string_bytes c.in-Some-split_first.loops.now in
    let is : demo_number number ≡ Some c.in-Some-number_within.number =
    ap demo_number (sym c.as_str.ensures.value) ∙ sym c.number_within.ensures.value ∙ c.in-Some-number_within.is in
    wrong_loops (seen_words c.args.arguments.now) number (seen_words c.in-Some.rest.now) (ap seen_words c.in-Some.ensures.cases.0) c.in-Some-number_within.number is
    loops (seen_words c.in-Some-split_first.rest.now) (ap seen_words c.in-Some-split_first.ensures.cases.0)
    (ap demo_loops (sym c.as_str-2.ensures.value) ∙ sym c.number_within-2.ensures.value ∙ c.in_default-number_within-2.is)

pub returns-in-Some-split_first-2 : goal.returns-in-Some-split_first-2
returns-in-Some-split_first-2 c =
    let number = string_bytes c.in-Some.number.now in
    let loops = string_bytes c.in-Some-split_first.loops.now in
    let is : demo_number number ≡ Some c.in-Some-number_within.number =
    ap demo_number (sym c.as_str.ensures.value) ∙ sym c.number_within.ensures.value ∙ c.in-Some-number_within.is in
    let are : demo_loops loops ≡ Some c.in-Some-number_within-2.loops =
    ap demo_loops (sym c.as_str-2.ensures.value) ∙ sym c.number_within-2.ensures.value ∙ c.in-Some-number_within-2.is in
    one_more (seen_words c.args.arguments.now) number (seen_words c.in-Some.rest.now) (ap seen_words c.in-Some.ensures.cases.0) c.in-Some-number_within.number is
    loops (seen_words c.in-Some-split_first.rest.now) (ap seen_words c.in-Some-split_first.ensures.cases.0) c.in-Some-number_within-2.loops are
    (string_bytes c.in-Some-split_first-2.field-0.0.now) (seen_words c.in-Some-split_first-2.field-0.1.now) (ap seen_words c.in-Some-split_first-2.ensures.cases.0)
