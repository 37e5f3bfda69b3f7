use Rattle.std.proofs.Common.{ℕ, ◌≡◌, ◌++◌, List, length, take, drop, vec_len, Option, Ok, Err, ℤ, rules, sym, ap, subst, ◌∙◌}
use Rattle.std.proofs.Math.Seq.{take-append_seam}
use Rattle.std.proofs.lemmas.Result.{err_from_is_err_and}
use Rattle.k_mem.specs.Layout.{AreKept, cells_set, fill_among, memory_in}
use Rattle.k_mem.proofs.Answers.{fill_answer, fill_found, fill_refused}
use Rattle.k_mem.proofs.Views.{laid_out, laid_out_seen}
use Rattle.k_mem.proofs.Written.{filled_within, memory_filled, kept_filled, length_filled}
use Rattle.k_mem.proofs.objects.Objects.fill.Goals as goal

-- a vector with as many items has those alone
whole : (new items : List (Option ℤ)) (n : ℕ) → length new ≡ n → take n (new ++ drop (length new) items) ≡ new
whole new items n same =
    ap (λ (k : ℕ). take k (new ++ drop (length new) items)) (sym same) ∙ take-append_seam new (drop (length new) items)

-- no object was found that may be written
pub returns-in_err-extent-clause-answer : goal.returns-in_err-extent-clause-answer
returns-in_err-extent-clause-answer c =
    let p = err_from_is_err_and c.from_residual.result c.from_residual.ensures.1 in
    let answer : fill_among c.self.inside.extents.items c.args.object ≡ Err c.in_err-extent.field-0.0 = rw (← c.deref.ensures.value) (sym c.in_err-extent.ensures) in
    rw (p.1, p.2, ← c.self.view_is) (sym (fill_answer _ _ c.self.inside.made c.self.invariant.fill c.args.object ∙ fill_refused _ _ answer))

pub returns-in_err-extent-clause-laid_out : goal.returns-in_err-extent-clause-laid_out
returns-in_err-extent-clause-laid_out c = laid_out_seen _ _ _ _ c.self.invariant c.self.view_is

-- its elements were set
pub set_part-requires : goal.set_part-requires
set_part-requires c =
    let answer : fill_among c.self.inside.extents.items c.args.object ≡ Ok c.in_ok-extent.extent = rw (← c.deref.ensures.value) (sym c.in_ok-extent.ensures) in
    rw c.deref_mut.ensures.value (filled_within _ _ c.self.inside.made c.self.invariant c.args.object _ (fill_found _ _ answer).0 c.args.values.now)

pub invariant_of-self : goal.invariant_of-self
invariant_of-self c =
    let answer : fill_among c.self.inside.extents.items c.args.object ≡ Ok c.in_ok-extent.extent = rw (← c.deref.ensures.value) (sym c.in_ok-extent.ensures) in
    let cells : vec_len c.self.inside.cells ≡ length c.self.inside.cells.items = search rules in
    let found = (fill_found _ _ answer).0 in
    let new : c.set_part.new.cells ≡ cells_set c.args.values.now c.self.inside.cells.items c.in_ok-extent.extent.first c.in_ok-extent.extent.length =
    rw (← c.deref_mut.ensures.value) c.set_part.ensures in
    let kept = kept_filled c.self.inside.extents.items c.self.inside.cells.items c.self.inside.made c.self.invariant c.args.object c.in_ok-extent.extent found c.args.values.now in
    let long = length_filled c.self.inside.extents.items c.self.inside.cells.items c.self.inside.made c.self.invariant c.args.object c.in_ok-extent.extent found c.args.values.now in
    subst (λ (items : List (Option ℤ)). AreKept c.self.inside.extents.items (length items) c.self.inside.made)
    (sym (whole c.set_part.new.cells c.self.inside.cells.items (vec_len c.self.inside.cells) (ap length new ∙ long ∙ sym cells) ∙ new)) kept

pub returns-clause-answer : goal.returns-clause-answer
returns-clause-answer c =
    let answer : fill_among c.self.inside.extents.items c.args.object ≡ Ok c.in_ok-extent.extent = rw (← c.deref.ensures.value) (sym c.in_ok-extent.ensures) in
    rw (← c.self.view_is) (sym (fill_answer _ _ c.self.inside.made c.self.invariant.fill c.args.object ∙ (fill_found _ _ answer).1))

pub returns-clause-ok : goal.returns-clause-ok
returns-clause-ok c =
    let answer : fill_among c.self.inside.extents.items c.args.object ≡ Ok c.in_ok-extent.extent = rw (← c.deref.ensures.value) (sym c.in_ok-extent.ensures) in
    let cells : vec_len c.self.inside.cells ≡ length c.self.inside.cells.items = search rules in
    let found = (fill_found _ _ answer).0 in
    let new : c.set_part.new.cells ≡ cells_set c.args.values.now c.self.inside.cells.items c.in_ok-extent.extent.first c.in_ok-extent.extent.length =
    rw (← c.deref_mut.ensures.value) c.set_part.ensures in
    let filled = memory_filled c.self.inside.extents.items c.self.inside.cells.items c.self.inside.made c.self.invariant c.args.object c.in_ok-extent.extent found c.args.values.now in
    let long = length_filled c.self.inside.extents.items c.self.inside.cells.items c.self.inside.made c.self.invariant c.args.object c.in_ok-extent.extent found c.args.values.now in
    rw (← c.self.view_is) (ap (λ (items : List (Option ℤ)). memory_in c.self.inside.extents.items items c.self.inside.made)
    (whole c.set_part.new.cells c.self.inside.cells.items (vec_len c.self.inside.cells) (ap length new ∙ long ∙ sym cells) ∙ new) ∙ filled)

pub returns-clause-laid_out : goal.returns-clause-laid_out
returns-clause-laid_out c = laid_out _ _ _ (invariant_of-self c)
