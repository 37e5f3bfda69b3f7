use Rattle.std.proofs.Common.{◌≡◌, ◌∷◌, ap, sym, ◌∙◌}
use Rattle.k_types_meaning.specs.Formats as formats
use Rattle.k_types_names.specs.Forms.{formed, read_from, reading_in}
use Rattle.k_types_names.proofs.Growth.{formed_new}
use Rattle.k_types_names.proofs.formats.marks_of.Goals as goal

pub loop-byte-init : goal.loop-byte-init
loop-byte-init c = ap (λ g. formed g (formats.marks_of c.args.text.now)) c.new-growing.ensures ∙ formed_new (formats.marks_of c.args.text.now)

pub returns-in_default-2 : goal.returns-in_default-2
returns-in_default-2 c =
    let j = c.loop-byte in
    let more = c.in-Some.more.now in
    let cons : j.rest.now ≡ c.in-Some.byte.now ∷ more = c.in-Some.ensures.cases.0 in
    ap (λ o. formed c.read.new.self (read_from o more)) (sym c.in_default-2.is)
    ∙ (c.in_ok-next.ensures more ∙ (ap (λ r. formed j.growing (formats.marks_from (reading_in j.reading) r)) (sym cons) ∙ j.invariant))

pub loop-byte-preserved : goal.loop-byte-preserved
loop-byte-preserved c =
    let j = c.loop-byte in
    let more = c.in-Some.more.now in
    let cons : j.rest.now ≡ c.in-Some.byte.now ∷ more = c.in-Some.ensures.cases.0 in
    ap (λ o. formed c.read.new.self (read_from o more)) (sym c.in-Some-2.is)
    ∙ (c.in_ok-next.ensures more ∙ (ap (λ r. formed j.growing (formats.marks_from (reading_in j.reading) r)) (sym cons) ∙ j.invariant))
