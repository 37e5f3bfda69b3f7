use Rattle.std.proofs.Common.{◌≡◌, true, false, ◌++◌, List, Ok, map, sym, ap, ◌∙◌, append_assoc}
use Rattle.std.specs.Option.{option_map}
use Rattle.k_types_meaning.specs.declared.tree.statement.TPart.{TPart}
use Rattle.k_types_meaning.specs.declared.tree.statement.TPart.TheOpen.{TStmt-F}
use Rattle.k_types_meaning.specs.declared.tree.statement.TStmt.{TStmt, out-TStmt}
use Rattle.k_types_meaning.specs.declared.tree.statement.TStmt.TheVariants as stmt
use Rattle.k_lower_extents.specs.declared.extent.Extent.{Extent}
use Rattle.k_lower_extents.specs.declared.extent.NumberedExtent.{NumberedExtent}
use Rattle.k_lower_extents.specs.StatementSums.{if_else, loop_around, of_size, one_jump, option_within, summed_stmt, switch}
use Rattle.k_lower_extents.proofs.ListedRows.{answered, anyway, form_is, if_itself, if_within, listed_last, nothing_more, within_row}
use Rattle.k_lower_extents.proofs.statement.+statements.Goals as goal

pub list_stmt-returns : goal.list_stmt-returns
list_stmt-returns t c =
    listed_last c.args.variables.now c.args.counted.now c.args.stmt.now c.spot_of.result c.in_ok-extent.extent c.args.found.now.items c.list_within.new.found.items c.list.new.found.items c.list.result
    c.spot_of.ensures c.in_ok-extent.ensures.extent c.in_ok-extent.ensures.found c.list.ensures.extent c.list.ensures.found

pub list_within-returns-in_ok-e-in-Expr : goal.list_within-returns-in_ok-e-in-Expr
list_within-returns-in_ok-e-in-Expr t c =
    let at = c.in-Expr in
    let z : TStmt-F TPart TStmt = TStmt-F.Expr at.spot at.value in
    let is : out-TStmt c.args.stmt.now ≡ z = form_is c.args.stmt.now _ z at.is (stmt.rolls-Expr at.spot at.value) in
    within_row c.args.variables.now c.args.counted.now c.args.stmt.now z c.args.found.now.items c.args.found.now.items (Ok c.of_size.result) is
    (c.of_size.ensures ∙ (λ i. of_size (c.in_ok-e-in-Expr.ensures i).unused))
    (nothing_more c.args.found.now.items)

pub list_within-returns-in-Empty : goal.list_within-returns-in-Empty
list_within-returns-in-Empty t c =
    let at = c.in-Empty in
    let z : TStmt-F TPart TStmt = TStmt-F.Empty at.spot in
    let is : out-TStmt c.args.stmt.now ≡ z = form_is c.args.stmt.now _ z at.is (stmt.rolls-Empty at.spot) in
    within_row c.args.variables.now c.args.counted.now c.args.stmt.now z c.args.found.now.items c.args.found.now.items (Ok c.of_size-in-Empty.result) is
    (c.of_size-in-Empty.ensures)
    (nothing_more c.args.found.now.items)

pub list_within-returns-in-Block : goal.list_within-returns-in-Block
list_within-returns-in-Block t c =
    let at = c.in-Block in
    let z : TStmt-F TPart TStmt = TStmt-F.Block at.spot at.parts in
    let is : out-TStmt c.args.stmt.now ≡ z = form_is c.args.stmt.now _ z at.is (stmt.rolls-Block at.spot at.parts) in
    within_row c.args.variables.now c.args.counted.now c.args.stmt.now z c.args.found.now.items c.list_stmts.new.found.items c.list_stmts.result is
    (c.list_stmts.ensures.extent)
    (c.list_stmts.ensures.found)

pub list_within-returns-in_ok-other-in-If : goal.list_within-returns-in_ok-other-in-If
list_within-returns-in_ok-other-in-If t c =
    let at = c.in-If in
    let z : TStmt-F TPart TStmt = TStmt-F.If at.spot at.test at.then at.other in
    let is : out-TStmt c.args.stmt.now ≡ z = form_is c.args.stmt.now _ z at.is (stmt.rolls-If at.spot at.test at.then at.other) in
    within_row c.args.variables.now c.args.counted.now c.args.stmt.now z c.args.found.now.items _ c.if_else.result is
    (answered c.if_else.result _ _ c.if_else.ensures
    ((λ i. if_else (c.in_ok-test-in-If.ensures i).used (c.in_ok-one-in-If.ensures.extent i) (c.in_ok-other-in-If.ensures.extent i)) ∙ sym (if_itself c.args.variables.now c.args.counted.now at.spot at.test at.then at.other)))
    (anyway c.if_else.result
    (c.in_ok-other-in-If.ensures.found
    ∙ (ap (λ (xs : List NumberedExtent). xs ++ option_within (option_map (summed_stmt c.args.variables.now c.args.counted.now) at.other)) c.in_ok-one-in-If.ensures.found
    ∙ (append_assoc c.args.found.now.items (summed_stmt c.args.variables.now c.args.counted.now at.then).extents (option_within (option_map (summed_stmt c.args.variables.now c.args.counted.now) at.other))
    ∙ ap (λ (xs : List NumberedExtent). c.args.found.now.items ++ xs) (sym (if_within c.args.variables.now c.args.counted.now at.spot at.test at.then at.other))))))

pub list_within-returns-in-While : goal.list_within-returns-in-While
list_within-returns-in-While t c =
    let at = c.in-While in
    let z : TStmt-F TPart TStmt = TStmt-F.While at.spot at.turns at.test at.body in
    let is : out-TStmt c.args.stmt.now ≡ z = form_is c.args.stmt.now _ z at.is (stmt.rolls-While at.spot at.turns at.test at.body) in
    within_row c.args.variables.now c.args.counted.now c.args.stmt.now z c.args.found.now.items c.list_loop.new.found.items c.list_loop.result is
    (answered c.list_loop.result _ _ c.list_loop.ensures.extent (ap (loop_around c.args.variables.now c.args.counted.now (summed_stmt c.args.variables.now c.args.counted.now at.body).itself) is))
    (c.list_loop.ensures.found)

pub list_within-returns-in-DoWhile : goal.list_within-returns-in-DoWhile
list_within-returns-in-DoWhile t c =
    let at = c.in-DoWhile in
    let z : TStmt-F TPart TStmt = TStmt-F.DoWhile at.spot at.turns at.body at.test in
    let is : out-TStmt c.args.stmt.now ≡ z = form_is c.args.stmt.now _ z at.is (stmt.rolls-DoWhile at.spot at.turns at.body at.test) in
    within_row c.args.variables.now c.args.counted.now c.args.stmt.now z c.args.found.now.items c.list_loop-in-DoWhile.new.found.items c.list_loop-in-DoWhile.result is
    (answered c.list_loop-in-DoWhile.result _ _ c.list_loop-in-DoWhile.ensures.extent (ap (loop_around c.args.variables.now c.args.counted.now (summed_stmt c.args.variables.now c.args.counted.now at.body).itself) is))
    (c.list_loop-in-DoWhile.ensures.found)

pub list_within-returns-in-For : goal.list_within-returns-in-For
list_within-returns-in-For t c =
    let at = c.in-For in
    let z : TStmt-F TPart TStmt = TStmt-F.For at.spot at.turns at.first at.test at.step at.body in
    let is : out-TStmt c.args.stmt.now ≡ z = form_is c.args.stmt.now _ z at.is (stmt.rolls-For at.spot at.turns at.first at.test at.step at.body) in
    within_row c.args.variables.now c.args.counted.now c.args.stmt.now z c.args.found.now.items c.list_loop-in-For.new.found.items c.list_loop-in-For.result is
    (answered c.list_loop-in-For.result _ _ c.list_loop-in-For.ensures.extent (ap (loop_around c.args.variables.now c.args.counted.now (summed_stmt c.args.variables.now c.args.counted.now at.body).itself) is))
    (c.list_loop-in-For.ensures.found)

pub list_within-returns-in_ok-parts-in-Switch : goal.list_within-returns-in_ok-parts-in-Switch
list_within-returns-in_ok-parts-in-Switch t c =
    let at = c.in-Switch in
    let z : TStmt-F TPart TStmt = TStmt-F.Switch at.spot at.kind at.on at.parts in
    let is : out-TStmt c.args.stmt.now ≡ z = form_is c.args.stmt.now _ z at.is (stmt.rolls-Switch at.spot at.kind at.on at.parts) in
    within_row c.args.variables.now c.args.counted.now c.args.stmt.now z c.args.found.now.items _ c.switch.result is
    (answered c.switch.result _ _ c.switch.ensures (λ i. switch (c.in_ok-on-in-Switch.ensures i) ((c.as_slice.ensures.value ∙ c.in_ok-parts-in-Switch.ensures.extents) i)))
    (anyway c.switch.result c.in_ok-parts-in-Switch.ensures.found)

pub list_within-returns-in-Break : goal.list_within-returns-in-Break
list_within-returns-in-Break t c =
    let at = c.in-Break in
    let z : TStmt-F TPart TStmt = TStmt-F.Break at.spot in
    let is : out-TStmt c.args.stmt.now ≡ z = form_is c.args.stmt.now _ z at.is (stmt.rolls-Break at.spot) in
    within_row c.args.variables.now c.args.counted.now c.args.stmt.now z c.args.found.now.items c.args.found.now.items (Ok c.one_jump.result) is
    (c.one_jump.ensures ∙ ap one_jump c.a_break.ensures)
    (nothing_more c.args.found.now.items)

pub list_within-returns-in-Continue : goal.list_within-returns-in-Continue
list_within-returns-in-Continue t c =
    let at = c.in-Continue in
    let z : TStmt-F TPart TStmt = TStmt-F.Continue at.spot in
    let is : out-TStmt c.args.stmt.now ≡ z = form_is c.args.stmt.now _ z at.is (stmt.rolls-Continue at.spot) in
    within_row c.args.variables.now c.args.counted.now c.args.stmt.now z c.args.found.now.items c.args.found.now.items (Ok c.one_jump-in-Continue.result) is
    (c.one_jump-in-Continue.ensures ∙ ap one_jump c.a_continue.ensures)
    (nothing_more c.args.found.now.items)

pub list_within-returns-in-Return : goal.list_within-returns-in-Return
list_within-returns-in-Return t c =
    let at = c.in-Return in
    let z : TStmt-F TPart TStmt = TStmt-F.Return at.spot at.value in
    let is : out-TStmt c.args.stmt.now ≡ z = form_is c.args.stmt.now _ z at.is (stmt.rolls-Return at.spot at.value) in
    within_row c.args.variables.now c.args.counted.now c.args.stmt.now z c.args.found.now.items c.args.found.now.items c.returned.result is
    (c.returned.ensures)
    (anyway c.returned.result (nothing_more c.args.found.now.items))

pub list_within-returns-in-Declare : goal.list_within-returns-in-Declare
list_within-returns-in-Declare t c =
    let at = c.in-Declare in
    let z : TStmt-F TPart TStmt = TStmt-F.Declare at.spot at.list in
    let is : out-TStmt c.args.stmt.now ≡ z = form_is c.args.stmt.now _ z at.is (stmt.rolls-Declare at.spot at.list) in
    within_row c.args.variables.now c.args.counted.now c.args.stmt.now z c.args.found.now.items c.args.found.now.items c.all_declared.result is
    (c.all_declared.ensures)
    (anyway c.all_declared.result (nothing_more c.args.found.now.items))

pub list_loop-returns : goal.list_loop-returns
list_loop-returns t c = record {
  extent = answered c.loop_around.result _ _ c.loop_around.ensures (ap (λ (x : Extent). loop_around c.args.variables.now c.args.counted.now x (out-TStmt c.args.stmt.now)) c.in_ok-body.ensures.extent);
  found = anyway c.loop_around.result c.in_ok-body.ensures.found;
}
