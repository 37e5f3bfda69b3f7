use Rattle.k_code.proofs.Decided.{without_main, without_numbers, without_room, all_entries}
use Rattle.k_code.proofs.validity.valid.Goals as goal

pub returns-then-funcs-code : goal.returns-then-funcs-code
returns-then-funcs-code c = without_main c.args.code.now (rw c.as_slice-funcs.ensures at c.if-funcs-code.true)

pub returns-then-not-all_numbers_fit : goal.returns-then-not-all_numbers_fit
returns-then-not-all_numbers_fit c = without_numbers c.args.code.now c.all_numbers_fit.result c.if-not-all_numbers_fit.true (rw c.as_slice-funcs.ensures at c.all_numbers_fit.ensures)

pub returns-then-not-all_extents_fit : goal.returns-then-not-all_extents_fit
returns-then-not-all_extents_fit c = without_room c.args.code.now c.all_extents_fit.result c.if-not-all_extents_fit.true (rw c.as_slice-funcs.ensures at c.all_extents_fit.ensures)

pub returns : goal.returns
returns c =
    all_entries c.args.code.now c.all_entries_fit.result (rw c.as_slice-funcs.ensures at c.if-funcs-code.false)
    (rw c.as_slice-funcs.ensures at (c.all_numbers_fit.ensures.0 c.if-not-all_numbers_fit.false))
    (rw c.as_slice-funcs.ensures at (c.all_extents_fit.ensures.0 c.if-not-all_extents_fit.false)) c.all_entries_fit.ensures
