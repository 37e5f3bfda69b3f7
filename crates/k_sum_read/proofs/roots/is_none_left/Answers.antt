use Rattle.std.proofs.Common.{◌≡◌, Bool, false, List, length, replicate, sym, ap, ◌∙◌, subst}
use Rattle.k_dict_entries.specs.Entries.{NameBelow}
use Rattle.k_dict_saved.specs.Reading.{AllNameBelow, marked, marked_all}
use Rattle.k_dict_saved.proofs.Marks.{below_marks}
use Rattle.k_sum_read.specs.Reading.{are_all}
use Rattle.k_sum_read.proofs.RootSteps.{marks_tell, roots_below_none}
use Rattle.k_sum_read.proofs.roots.is_none_left.Goals as goal

pub marks_tell-requires-clause-entries : goal.marks_tell-requires-clause-entries
marks_tell-requires-clause-entries c =
    let none : c.deref_mut.result.now ≡ replicate (length c.args.entries.now) false =
    c.deref_mut.ensures.value ∙ c.in_ok-marks.ensures.items_if_clones_equal (λ y same. same) in
    let P : List Bool → Type 0 = λ marks. AllNameBelow (length marks) c.args.entries.now in
    subst P (sym none) (below_marks c.args.entries.now c.requires.earlier)

pub marks_tell-requires-clause-roots : goal.marks_tell-requires-clause-roots
marks_tell-requires-clause-roots c =
    let none : c.deref_mut.result.now ≡ replicate (length c.args.entries.now) false =
    c.deref_mut.ensures.value ∙ c.in_ok-marks.ensures.items_if_clones_equal (λ y same. same) in
    let P : List Bool → Type 0 = λ marks. NameBelow (length marks) c.args.roots.now in
    subst P (sym none) (roots_below_none c.args.entries.now c.args.roots.now c.requires.earlier c.requires.roots)

pub returns : goal.returns
returns c =
    let none : c.deref_mut.result.now ≡ replicate (length c.args.entries.now) false =
    c.deref_mut.ensures.value ∙ c.in_ok-marks.ensures.items_if_clones_equal (λ y same. same) in
    let is : c.marks_tell.result ≡ are_all (marked (marked_all (replicate (length c.args.entries.now) false) c.args.entries.now) c.args.roots.now) =
    c.marks_tell.ensures ∙ ap (λ marks. are_all (marked (marked_all marks c.args.entries.now) c.args.roots.now)) none in
    let tell = marks_tell c.args.entries.now c.args.roots.now c.requires.earlier c.requires.roots in
    (λ h. tell.0 (sym is ∙ h), λ left. is ∙ tell.1 left)
