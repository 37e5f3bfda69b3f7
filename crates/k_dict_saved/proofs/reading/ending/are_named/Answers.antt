use Rattle.std.proofs.Common.{◌≡◌, Bool, false, List, length, replicate, sym, ap, ◌∙◌, subst}
use Rattle.k_dict_saved.specs.Reading.{AllNameBelow, are_marked, marked_all}
use Rattle.k_dict_saved.proofs.Marks.{below_marks, marks_tell}
use Rattle.k_dict_saved.proofs.reading.ending.are_named.Goals as goal

pub marks_tell-requires : goal.marks_tell-requires
marks_tell-requires c =
    let none : c.deref_mut.result.now ≡ replicate (length c.args.entries.now) false =
    c.deref_mut.ensures.value ∙ c.in_ok-marks.ensures.items_if_clones_equal (λ y same. same) in
    let P : List Bool → Type 0 = λ marks. AllNameBelow (length marks) c.args.entries.now in
    subst P (sym none) (below_marks c.args.entries.now c.requires)

pub returns : goal.returns
returns c =
    let none : c.deref_mut.result.now ≡ replicate (length c.args.entries.now) false =
    c.deref_mut.ensures.value ∙ c.in_ok-marks.ensures.items_if_clones_equal (λ y same. same) in
    let is : c.marks_tell.result ≡ are_marked (marked_all (replicate (length c.args.entries.now) false) c.args.entries.now) =
    c.marks_tell.ensures ∙ ap (λ marks. are_marked (marked_all marks c.args.entries.now)) none in
    let tell = marks_tell c.args.entries.now c.requires in
    (λ h. tell.0 (sym is ∙ h), λ named. is ∙ tell.1 named)
