use Rattle.std.proofs.Common.{ℕ, ◌∙◌, ◌+◌, true, false, List, Option, None, Some, map, slice_set, sym, ap, subst, rules, arith}
use Rattle.std.proofs.lemmas.Int.{to_z-of_z}
use Rattle.std.specs.Int.{w128}
use Rattle.k_num.specs.declared.numbers.Bin.TheVariants.{Ne}
use Rattle.k_num.specs.declared.numbers.Kind.{Kind}
use Rattle.k_types_meaning.specs.declared.tree.expression.TExpr.{TExpr}
use Rattle.k_types_meaning.specs.declared.types.TType.{TType}
use Rattle.k_world.specs.declared.act.Chunk.{Chunk}
use Rattle.k_world.specs.declared.act.Out.TheVariants as out
use Rattle.k_code.specs.declared.instruction.Arg.{Arg}
use Rattle.k_code.specs.declared.instruction.Arg.TheVariants.{Number, Reg}
use Rattle.k_code.specs.declared.instruction.Do.{Do}
use Rattle.k_code.specs.declared.instruction.Do.TheVariants as act
use Rattle.k_evaluation.specs.Meanings.{kind_of, scale_of}
use Rattle.k_evaluation.specs.Operators.{kind_or_int}
use Rattle.k_lower_code.specs.Assignments.{after_place, behind_changed, behind_place, changes_old, writes}
use Rattle.k_lower_code.specs.Assignments as assignments
use Rattle.k_lower_code.specs.Library.{calls_with, outputs, puts_byte}
use Rattle.k_lower_code.specs.Lowered.{Designated, InMemory, behind_one, in_turn, value_at}
use Rattle.k_lower_code.specs.Operators.{arm, chooses, converts, moves, tests_before, truth_of, unary_on}
use Rattle.k_lower_code.specs.Pieces.{Piece, ◌>>>◌, does, instruction, nothing, only}
use Rattle.k_lower_code.specs.Places.{address_at, behind_base, element_at}
use Rattle.k_lower_expressions.specs.Arounds.{designates, lowered_in, program_of}
use Rattle.k_lower_expressions.specs.Makings.{on_two_by}
use Rattle.k_lower_expressions.proofs.Emitted.{Emits, EmitsPlace, Emitted, behind, emitted_behind, ends, only_emitted, place_behind, same_emits, same_place, settled_emitted}
use Rattle.k_lower_expressions.proofs.LeftForms.{a_call_or_more, an_assignment_or_more, a_binary, no_more}
use Rattle.k_lower_expressions.proofs.NoPlaces.{no_place}
use Rattle.k_lower_expressions.proofs.Rows.{address_row, assign_by_row, assign_row, back_row, binary_row, both_row, call_row, cast_row, comma_row, compare_row, cond_row, convert_row, deref_place, deref_read, distance_row, either_row, forward_row, getchar_row, index_place, index_read, number_row, object_place, object_read, onto_row, plus_row, post_row, pre_row, printf_row, putchar_row, puts_row, string_row, unary_row, variable_place, variable_read}
use Rattle.k_lower_expressions.proofs.Tests.{chooses_emitted, tests_emitted}
use Rattle.k_lower_expressions.proofs.expression.+expressions.Goals as goal

pub value-call_value-requires : goal.value-call_value-requires
value-call_value-requires t c = (omega (arith, c.decreases), (omega (arith, c.if-most-r.false), a_call_or_more _ c.in_default.not-Number c.in_default.not-Str c.in_default.not-Object c.in_default.not-Variable c.in_default.not-Index c.in_default.not-Deref c.in_default.not-Address c.in_default.not-Plus c.in_default.not-Unary c.in_default.not-Convert c.in_default.not-Cast c.in_default.not-Both c.in_default.not-Either c.in_default.not-Cond c.in_default.not-Comma))

pub call_value-assignment_value-requires : goal.call_value-assignment_value-requires
call_value-assignment_value-requires t c = (omega (arith, c.decreases), (c.requires.room, an_assignment_or_more _ c.requires.family c.in_default.not-Call c.in_default.not-Getchar c.in_default.not-Putchar c.in_default.not-Puts c.in_default.not-Printf))

pub assignment_value-binary_value-requires : goal.assignment_value-binary_value-requires
assignment_value-binary_value-requires t c = (omega (arith, c.decreases), (c.requires.room, a_binary _ c.requires.family c.in_default.not-Post c.in_default.not-Pre c.in_default.not-Assign c.in_default.not-AssignBy))

pub binary_value-unreachable-requires : goal.binary_value-unreachable-requires
binary_value-unreachable-requires t c = no_more _ c.requires.family c.in_default.not-Binary c.in_default.not-Forward c.in_default.not-Onto c.in_default.not-Back c.in_default.not-PtrCompare c.in_default.not-PtrDistance

pub value-returns-in-Str : goal.value-returns-in-Str
value-returns-in-Str t c =
    let a = c.args.around.now in
    let at = c.in-Str in
    same_emits c.string_value.result _ _ c.args.out.now.items c.string_value.new.out.items (string_row a c.args.e.now at.node c.args.used c.args.r at.string at.bytes at.is) c.string_value.ensures

pub value-returns-in-Object : goal.value-returns-in-Object
value-returns-in-Object t c =
    let a = c.args.around.now in
    let at = c.in-Object in
    same_emits c.read.result _ _ c.args.out.now.items c.read.new.out.items (object_read a c.args.e.now at.node c.args.used c.args.r at.object at.is) c.read.ensures

pub value-returns-in-Variable : goal.value-returns-in-Variable
value-returns-in-Variable t c =
    let a = c.args.around.now in
    let at = c.in-Variable in
    same_emits c.read-in-Variable.result _ _ c.args.out.now.items c.read-in-Variable.new.out.items (variable_read a c.args.e.now at.node c.args.used c.args.r at.variable at.is) c.read-in-Variable.ensures

pub value-returns-in-Index : goal.value-returns-in-Index
value-returns-in-Index t c =
    let a = c.args.around.now in
    let at = c.in-Index in
    same_emits c.read-in-Index.result _ _ c.args.out.now.items c.read-in-Index.new.out.items (index_read a c.args.e.now at.node c.args.used c.args.r at.base at.index at.is) c.read-in-Index.ensures

pub call_value-returns-in-Call : goal.call_value-returns-in-Call
call_value-returns-in-Call t c =
    let a = c.args.around.now in
    let at = c.in-Call in
    same_emits c.call.result _ _ c.args.out.now.items c.call.new.out.items (call_row a c.args.e.now at.node c.args.used c.args.r at.function at.args at.is) c.call.ensures

pub call_value-returns-in-Getchar : goal.call_value-returns-in-Getchar
call_value-returns-in-Getchar t c =
    let a = c.args.around.now in
    let at = c.in-Getchar in
    same_emits c.sets.result _ _ c.args.out.now.items c.sets.new.out.items (getchar_row a c.args.e.now at.node c.args.used c.args.r at.is) c.sets.ensures

pub call_value-returns-in-Putchar : goal.call_value-returns-in-Putchar
call_value-returns-in-Putchar t c =
    let a = c.args.around.now in
    let at = c.in-Putchar in
    same_emits c.putchar.result _ _ c.args.out.now.items c.putchar.new.out.items (putchar_row a c.args.e.now at.node c.args.used c.args.r at.of at.is) c.putchar.ensures

pub call_value-returns-in-Puts : goal.call_value-returns-in-Puts
call_value-returns-in-Puts t c =
    let a = c.args.around.now in
    let at = c.in-Puts in
    same_emits c.puts.result _ _ c.args.out.now.items c.puts.new.out.items (puts_row a c.args.e.now at.node c.args.used c.args.r at.of at.is) c.puts.ensures

pub call_value-returns-in-Printf : goal.call_value-returns-in-Printf
call_value-returns-in-Printf t c =
    let a = c.args.around.now in
    let at = c.in-Printf in
    same_emits c.printf.result _ _ c.args.out.now.items c.printf.new.out.items (printf_row a c.args.e.now at.node c.args.used c.args.r at.format at.args at.is) c.printf.ensures

pub assignment_value-returns-in-Post : goal.assignment_value-returns-in-Post
assignment_value-returns-in-Post t c =
    let a = c.args.around.now in
    let at = c.in-Post in
    same_emits c.post.result _ _ c.args.out.now.items c.post.new.out.items (post_row a c.args.e.now at.node c.args.used c.args.r at.change at.of at.is) c.post.ensures

pub assignment_value-returns-in-Pre : goal.assignment_value-returns-in-Pre
assignment_value-returns-in-Pre t c =
    let a = c.args.around.now in
    let at = c.in-Pre in
    same_emits c.pre.result _ _ c.args.out.now.items c.pre.new.out.items (pre_row a c.args.e.now at.node c.args.used c.args.r at.change at.of at.is) c.pre.ensures

pub value-returns-in-Address : goal.value-returns-in-Address
value-returns-in-Address t c =
    let a = c.args.around.now in
    let at = c.in-Address in
    same_emits c.address.result _ _ c.args.out.now.items c.address.new.out.items (address_row a c.args.e.now at.node c.args.used c.args.r at.of at.is) c.address.ensures

pub value-returns-in-Deref : goal.value-returns-in-Deref
value-returns-in-Deref t c =
    let a = c.args.around.now in
    let at = c.in-Deref in
    same_emits c.read-in-Deref.result _ _ c.args.out.now.items c.read-in-Deref.new.out.items (deref_read a c.args.e.now at.node c.args.used c.args.r at.of at.is) c.read-in-Deref.ensures

pub value-returns-in-Plus : goal.value-returns-in-Plus
value-returns-in-Plus t c =
    let a = c.args.around.now in
    let at = c.in-Plus in
    same_emits c.boxed_value.result _ _ c.args.out.now.items c.boxed_value.new.out.items (plus_row a c.args.e.now at.node c.args.used c.args.r at.of at.is) c.boxed_value.ensures

pub value-returns-in-Unary : goal.value-returns-in-Unary
value-returns-in-Unary t c =
    let a = c.args.around.now in
    let at = c.in-Unary in
    same_emits c.one.result _ _ c.args.out.now.items c.one.new.out.items (unary_row a c.args.e.now at.node c.args.used c.args.r at.op at.kind at.of at.is) c.one.ensures

pub value-returns-in-Convert : goal.value-returns-in-Convert
value-returns-in-Convert t c =
    let a = c.args.around.now in
    let at = c.in-Convert in
    same_emits c.converted.result _ _ c.args.out.now.items c.converted.new.out.items (convert_row a c.args.e.now at.node c.args.used c.args.r at.of at.is)
    (subst (λ (kind : Option Kind). Emits c.converted.result ((lowered_in a at.of).value true c.args.r >>> converts (program_of a) at.node.place kind c.args.r) c.args.out.now.items c.converted.new.out.items) c.kind_of.ensures
    c.converted.ensures)

pub value-returns-in-Cast : goal.value-returns-in-Cast
value-returns-in-Cast t c =
    let a = c.args.around.now in
    let at = c.in-Cast in
    same_emits c.cast.result _ _ c.args.out.now.items c.cast.new.out.items (cast_row a c.args.e.now at.node c.args.used c.args.r at.of at.is) c.cast.ensures

pub binary_value-returns-in-Binary : goal.binary_value-returns-in-Binary
binary_value-returns-in-Binary t c =
    let a = c.args.around.now in
    let at = c.in-Binary in
    same_emits c.two.result _ _ c.args.out.now.items c.two.new.out.items (binary_row a c.args.e.now at.node c.args.used c.args.r at.op at.kind at.left at.right at.is) c.two.ensures

pub value-returns-in-Both : goal.value-returns-in-Both
value-returns-in-Both t c =
    let a = c.args.around.now in
    let at = c.in-Both in
    same_emits c.logic.result _ _ c.args.out.now.items c.logic.new.out.items (both_row a c.args.e.now at.node c.args.used c.args.r at.left at.right at.is) c.logic.ensures

pub value-returns-in-Either : goal.value-returns-in-Either
value-returns-in-Either t c =
    let a = c.args.around.now in
    let at = c.in-Either in
    same_emits c.logic-in-Either.result _ _ c.args.out.now.items c.logic-in-Either.new.out.items (either_row a c.args.e.now at.node c.args.used c.args.r at.left at.right at.is) c.logic-in-Either.ensures

pub binary_value-returns-in-Forward : goal.binary_value-returns-in-Forward
binary_value-returns-in-Forward t c =
    let a = c.args.around.now in
    let at = c.in-Forward in
    same_emits c.two-in-Forward.result _ _ c.args.out.now.items c.two-in-Forward.new.out.items (forward_row a c.args.e.now at.node c.args.used c.args.r at.left at.right at.is) c.two-in-Forward.ensures

pub binary_value-returns-in-Onto : goal.binary_value-returns-in-Onto
binary_value-returns-in-Onto t c =
    let a = c.args.around.now in
    let at = c.in-Onto in
    same_emits c.two-in-Onto.result _ _ c.args.out.now.items c.two-in-Onto.new.out.items (onto_row a c.args.e.now at.node c.args.used c.args.r at.left at.right at.is) c.two-in-Onto.ensures

pub binary_value-returns-in-Back : goal.binary_value-returns-in-Back
binary_value-returns-in-Back t c =
    let a = c.args.around.now in
    let at = c.in-Back in
    same_emits c.two-in-Back.result _ _ c.args.out.now.items c.two-in-Back.new.out.items (back_row a c.args.e.now at.node c.args.used c.args.r at.left at.right at.is) c.two-in-Back.ensures

pub binary_value-returns-in-PtrCompare : goal.binary_value-returns-in-PtrCompare
binary_value-returns-in-PtrCompare t c =
    let a = c.args.around.now in
    let at = c.in-PtrCompare in
    same_emits c.two-in-PtrCompare.result _ _ c.args.out.now.items c.two-in-PtrCompare.new.out.items (compare_row a c.args.e.now at.node c.args.used c.args.r at.op at.left at.right at.is) c.two-in-PtrCompare.ensures

pub binary_value-returns-in-PtrDistance : goal.binary_value-returns-in-PtrDistance
binary_value-returns-in-PtrDistance t c =
    let a = c.args.around.now in
    let at = c.in-PtrDistance in
    same_emits c.two-in-PtrDistance.result _ _ c.args.out.now.items c.two-in-PtrDistance.new.out.items (distance_row a c.args.e.now at.node c.args.used c.args.r at.left at.right at.is) c.two-in-PtrDistance.ensures

pub value-returns-in-Cond : goal.value-returns-in-Cond
value-returns-in-Cond t c =
    let a = c.args.around.now in
    let at = c.in-Cond in
    same_emits c.conditional.result _ _ c.args.out.now.items c.conditional.new.out.items (cond_row a c.args.e.now at.node c.args.used c.args.r at.test at.then at.other at.is) c.conditional.ensures

pub assignment_value-returns-in-Assign : goal.assignment_value-returns-in-Assign
assignment_value-returns-in-Assign t c =
    let a = c.args.around.now in
    let at = c.in-Assign in
    same_emits c.assign.result _ _ c.args.out.now.items c.assign.new.out.items (assign_row a c.args.e.now at.node c.args.used c.args.r at.left at.right at.is) c.assign.ensures

pub assignment_value-returns-in-AssignBy : goal.assignment_value-returns-in-AssignBy
assignment_value-returns-in-AssignBy t c =
    let a = c.args.around.now in
    let at = c.in-AssignBy in
    same_emits c.assign_by.result _ _ c.args.out.now.items c.assign_by.new.out.items (assign_by_row a c.args.e.now at.node c.args.used c.args.r at.change at.left at.right at.is) c.assign_by.ensures

pub value-returns-in-Comma : goal.value-returns-in-Comma
value-returns-in-Comma t c =
    let a = c.args.around.now in
    let at = c.in-Comma in
    same_emits c.comma.result _ _ c.args.out.now.items c.comma.new.out.items (comma_row a c.args.e.now at.node c.args.used c.args.r at.left at.right at.is) c.comma.ensures

pub place-returns-in-Object : goal.place-returns-in-Object
place-returns-in-Object t c =
    let a = c.args.around.now in
    let at = c.in-Object in
    same_place c.object_place.result _ _ c.args.out.now.items c.object_place.new.out.items (object_place a c.args.e.now at.node c.args.r at.object at.is) c.object_place.ensures

pub place-returns-in-Index : goal.place-returns-in-Index
place-returns-in-Index t c =
    let a = c.args.around.now in
    let at = c.in-Index in
    same_place c.element.result _ _ c.args.out.now.items c.element.new.out.items (index_place a c.args.e.now at.node c.args.r at.base at.index at.is) c.element.ensures

pub place-returns-in-Deref : goal.place-returns-in-Deref
place-returns-in-Deref t c =
    let a = c.args.around.now in
    let at = c.in-Deref in
    same_place c.pointed.result _ _ c.args.out.now.items c.pointed.new.out.items (deref_place a c.args.e.now at.node c.args.r at.of at.is) c.pointed.ensures

pub place-returns-in-Number : goal.place-returns-in-Number
place-returns-in-Number t c =
    no_place c.args.around.now c.args.e.now c.args.r c.args.out.now.items c.in-Number.is

pub place-returns-in-Number-2 : goal.place-returns-in-Number-2
place-returns-in-Number-2 t c =
    no_place c.args.around.now c.args.e.now c.args.r c.args.out.now.items c.in-Number.is

pub place-returns-in-Number-3 : goal.place-returns-in-Number-3
place-returns-in-Number-3 t c =
    no_place c.args.around.now c.args.e.now c.args.r c.args.out.now.items c.in-Number.is

pub place-returns-in-Number-4 : goal.place-returns-in-Number-4
place-returns-in-Number-4 t c =
    no_place c.args.around.now c.args.e.now c.args.r c.args.out.now.items c.in-Number.is

pub place-returns-in-Number-5 : goal.place-returns-in-Number-5
place-returns-in-Number-5 t c =
    no_place c.args.around.now c.args.e.now c.args.r c.args.out.now.items c.in-Number.is

pub place-returns-in-Number-6 : goal.place-returns-in-Number-6
place-returns-in-Number-6 t c =
    no_place c.args.around.now c.args.e.now c.args.r c.args.out.now.items c.in-Number.is

pub place-returns-in-Number-7 : goal.place-returns-in-Number-7
place-returns-in-Number-7 t c =
    no_place c.args.around.now c.args.e.now c.args.r c.args.out.now.items c.in-Number.is

pub place-returns-in-Number-8 : goal.place-returns-in-Number-8
place-returns-in-Number-8 t c =
    no_place c.args.around.now c.args.e.now c.args.r c.args.out.now.items c.in-Number.is

pub place-returns-in-Number-9 : goal.place-returns-in-Number-9
place-returns-in-Number-9 t c =
    no_place c.args.around.now c.args.e.now c.args.r c.args.out.now.items c.in-Number.is

pub place-returns-in-Number-10 : goal.place-returns-in-Number-10
place-returns-in-Number-10 t c =
    no_place c.args.around.now c.args.e.now c.args.r c.args.out.now.items c.in-Number.is

pub place-returns-in-Number-11 : goal.place-returns-in-Number-11
place-returns-in-Number-11 t c =
    no_place c.args.around.now c.args.e.now c.args.r c.args.out.now.items c.in-Number.is

pub place-returns-in-Number-12 : goal.place-returns-in-Number-12
place-returns-in-Number-12 t c =
    no_place c.args.around.now c.args.e.now c.args.r c.args.out.now.items c.in-Number.is

pub place-returns-in-Number-13 : goal.place-returns-in-Number-13
place-returns-in-Number-13 t c =
    no_place c.args.around.now c.args.e.now c.args.r c.args.out.now.items c.in-Number.is

pub place-returns-in-Number-14 : goal.place-returns-in-Number-14
place-returns-in-Number-14 t c =
    no_place c.args.around.now c.args.e.now c.args.r c.args.out.now.items c.in-Number.is

pub place-returns-in-Number-15 : goal.place-returns-in-Number-15
place-returns-in-Number-15 t c =
    no_place c.args.around.now c.args.e.now c.args.r c.args.out.now.items c.in-Number.is

pub place-returns-in-Number-16 : goal.place-returns-in-Number-16
place-returns-in-Number-16 t c =
    no_place c.args.around.now c.args.e.now c.args.r c.args.out.now.items c.in-Number.is

pub place-returns-in-Number-17 : goal.place-returns-in-Number-17
place-returns-in-Number-17 t c =
    no_place c.args.around.now c.args.e.now c.args.r c.args.out.now.items c.in-Number.is

pub place-returns-in-Number-18 : goal.place-returns-in-Number-18
place-returns-in-Number-18 t c =
    no_place c.args.around.now c.args.e.now c.args.r c.args.out.now.items c.in-Number.is

pub place-returns-in-Number-19 : goal.place-returns-in-Number-19
place-returns-in-Number-19 t c =
    no_place c.args.around.now c.args.e.now c.args.r c.args.out.now.items c.in-Number.is

pub place-returns-in-Number-20 : goal.place-returns-in-Number-20
place-returns-in-Number-20 t c =
    no_place c.args.around.now c.args.e.now c.args.r c.args.out.now.items c.in-Number.is

pub place-returns-in-Number-21 : goal.place-returns-in-Number-21
place-returns-in-Number-21 t c =
    no_place c.args.around.now c.args.e.now c.args.r c.args.out.now.items c.in-Number.is

pub place-returns-in-Number-22 : goal.place-returns-in-Number-22
place-returns-in-Number-22 t c =
    no_place c.args.around.now c.args.e.now c.args.r c.args.out.now.items c.in-Number.is

pub place-returns-in-Number-23 : goal.place-returns-in-Number-23
place-returns-in-Number-23 t c =
    no_place c.args.around.now c.args.e.now c.args.r c.args.out.now.items c.in-Number.is

pub place-returns-in-Number-24 : goal.place-returns-in-Number-24
place-returns-in-Number-24 t c =
    no_place c.args.around.now c.args.e.now c.args.r c.args.out.now.items c.in-Number.is

pub place-returns-in-Number-25 : goal.place-returns-in-Number-25
place-returns-in-Number-25 t c =
    no_place c.args.around.now c.args.e.now c.args.r c.args.out.now.items c.in-Number.is

pub place-returns-in-Number-26 : goal.place-returns-in-Number-26
place-returns-in-Number-26 t c =
    no_place c.args.around.now c.args.e.now c.args.r c.args.out.now.items c.in-Number.is

pub place-returns-in-Variable : goal.place-returns-in-Variable
place-returns-in-Variable t c =
    let a = c.args.around.now in
    let at = c.in-Variable in
    only_emitted (designates c.variable_place.result) _ ((lowered_in a c.args.e.now).place c.args.r) c.args.out.now.items (variable_place a c.args.e.now at.node c.args.r at.variable at.is) c.variable_place.ensures

pub value-returns-in-Number : goal.value-returns-in-Number
value-returns-in-Number t c =
    let a = c.args.around.now in
    let at = c.in-Number in
    only_emitted _ (Number at.value) ((lowered_in a c.args.e.now).value c.args.used c.args.r) c.args.out.now.items (number_row a c.args.e.now at.node c.args.used c.args.r at.value at.is)
    (ap Number (to_z-of_z w128 at.value (search rules)))

pub read-returns : goal.read-returns
read-returns t c =
    let p = program_of c.args.around.now in
    behind (value_at p c.args.node.now c.args.used c.args.r) c.value_at.result _ _ _ _ _ c.in_ok-target.ensures c.value_at.ensures

pub one-returns : goal.one-returns
one-returns t c =
    let p = program_of c.args.around.now in
    behind (unary_on p c.args.at c.args.op c.args.kind c.args.r) c.unary.result _ _ _ _ _ c.in_ok-a.ensures c.unary.ensures

pub converted-returns : goal.converted-returns
converted-returns t c =
    let p = program_of c.args.around.now in
    behind (converts p c.args.at c.args.kind c.args.r) c.convert.result _ _ _ _ _ c.in_ok-a.ensures c.convert.ensures

pub putchar-returns : goal.putchar-returns
putchar-returns t c =
    let p = program_of c.args.around.now in
    behind (puts_byte p c.args.at c.args.r) c.put_byte.result _ _ _ _ _ c.in_ok-a.ensures c.put_byte.ensures

pub moved-returns : goal.moved-returns
moved-returns t c =
    let p = program_of c.args.around.now in
    behind (moves p c.args.at c.args.r) c.move_value.result _ _ _ _ _ c.in_ok-a.ensures c.move_value.ensures

pub pre-returns : goal.pre-returns
pre-returns t c =
    let p = program_of c.args.around.now in
    behind (λ target. changes_old p c.args.node.now c.args.how None c.args.used c.args.r target assignments.one) c.change_old.result _ _ _ _ _ c.in_ok-target.ensures c.change_old.ensures

pub post-returns : goal.post-returns
post-returns t c =
    let p = program_of c.args.around.now in
    behind (after_place p c.args.node.now c.args.how c.args.used c.args.r) c.after_place.result _ _ _ _ _ c.in_ok-target.ensures c.after_place.ensures

pub comma-returns : goal.comma-returns
comma-returns t c =
    let p = program_of c.args.around.now in
    behind (λ a. (lowered_in c.args.around.now c.args.right.now).value c.args.used c.args.r) c.boxed_value-2.result _ _ _ _ _ c.in_ok-boxed_value.ensures c.boxed_value-2.ensures

pub choose-returns : goal.choose-returns
choose-returns t c =
    let p = program_of c.args.around.now in
    behind (λ a. chooses p c.args.node.now.place a (arm p c.args.node.now.place c.args.node.now.of c.args.r (lowered_in c.args.around.now c.args.then.now)) (arm p c.args.node.now.place c.args.node.now.of c.args.r (lowered_in c.args.around.now c.args.other.now))) c.arms.result _ _ _ _ _ c.in_ok-a.ensures c.arms.ensures

pub call-returns : goal.call-returns
call-returns t c =
    let p = program_of c.args.around.now in
    behind (calls_with p c.args.node.now c.args.function c.args.used c.args.r) c.call_with.result _ _ _ _ _ c.in_ok-given.ensures c.call_with.ensures

pub pointed-returns : goal.pointed-returns
pointed-returns t c =
    ends (λ pointer. InMemory pointer) _ _ _ _ c.in_ok-pointer.ensures

pub address-returns : goal.address-returns
address-returns t c =
    let a = c.args.around.now in
    subst (λ (x : Arg). Emitted x ((lowered_in a c.args.of.now).place c.args.r >>> λ target. only (address_at target)) c.args.out.now.items c.boxed_place.new.out.items) (sym c.address_at.ensures)
    (ends address_at _ _ _ _ c.in_ok-target.ensures)

pub unused-returns : goal.unused-returns
unused-returns t c =
    ends (λ a. nothing) _ _ _ _ c.in_ok-boxed_value.ensures

pub boxed_value-returns : goal.boxed_value-returns
boxed_value-returns t c =
    let a = c.args.around.now in
    subst (λ (e : TExpr). Emits c.value.result ((lowered_in a e).value c.args.used c.args.r) c.args.out.now.items c.value.new.out.items) c.get.ensures c.value.ensures

pub boxed_place-returns : goal.boxed_place-returns
boxed_place-returns t c =
    let a = c.args.around.now in
    subst (λ (e : TExpr). EmitsPlace c.place.result ((lowered_in a e).place c.args.r) c.args.out.now.items c.place.new.out.items) c.get.ensures c.place.ensures

pub two-returns : goal.two-returns
two-returns t c =
    let a = c.args.around.now in
    let p = program_of a in
    let left = lowered_in a c.args.left.now in
    let right = lowered_in a c.args.right.now in
    subst (λ (of : TType). Emits c.on_two.result (left.value true c.args.r >>> behind_one right (on_two_by p c.args.node.now of c.args.how) c.args.r) c.args.out.now.items c.on_two.new.out.items) (c.type_of-of.ensures p a.variables.now)
    (behind (behind_one right (on_two_by p c.args.node.now c.type_of-of.result c.args.how) c.args.r) c.on_two.result _ _ _ _ _ c.in_ok-a.ensures
    (behind (on_two_by p c.args.node.now c.type_of-of.result c.args.how c.args.r c.in_ok-a.a) c.on_two.result _ _ _ _ c.on_two.new.out.items c.in_ok-b.ensures c.on_two.ensures))

pub element-returns : goal.element-returns
element-returns t c =
    let a = c.args.around.now in
    let p = program_of a in
    let base = lowered_in a c.args.base.now in
    let index = lowered_in a c.args.index.now in
    subst (λ (scale : ℕ). EmitsPlace c.element_at.result (base.value true c.args.r >>> behind_base p c.args.at scale index c.args.r) c.args.out.now.items c.element_at.new.out.items)
    (c.scale_of-scale.ensures ∙ ap scale_of (c.type_of.ensures p a.variables.now))
    (place_behind (behind_base p c.args.at c.scale_of-scale.result index c.args.r) c.element_at.result _ _ _ _ _ c.in_ok-pointer.ensures
    (place_behind (element_at p c.args.at c.scale_of-scale.result c.args.r c.in_ok-pointer.pointer) c.element_at.result _ _ _ _ c.element_at.new.out.items c.in_ok-by.ensures c.element_at.ensures))

pub assign-returns : goal.assign-returns
assign-returns t c =
    let p = program_of c.args.around.now in
    behind (behind_place p c.args.at (lowered_in c.args.around.now c.args.right.now) c.args.used c.args.r) c.write.result _ _ _ _ _ c.in_ok-target.ensures
    (behind (writes p c.args.at c.args.used c.args.r (designates c.in_ok-target.target)) c.write.result _ _ _ _ c.write.new.out.items c.in_ok-a.ensures c.write.ensures)

pub assign_by-returns : goal.assign_by-returns
assign_by-returns t c =
    let a = c.args.around.now in
    let p = program_of a in
    let n = c.args.node.now in
    let right = lowered_in a c.args.right.now in
    let kind = c.kind_of-kind.result in
    let changes : Option Kind → Designated → Piece Arg = λ kind target. right.value true (c.args.r + 1) >>> changes_old p n c.args.how kind c.args.used c.args.r target in
    subst (λ (kind : Option Kind). Emits c.change_old.result ((lowered_in a c.args.left.now).place c.args.r >>> changes kind) c.args.out.now.items c.change_old.new.out.items)
    (c.kind_of-kind.ensures ∙ ap kind_of (c.type_of.ensures p a.variables.now))
    (behind (changes kind) c.change_old.result _ _ _ _ _ c.in_ok-target.ensures
    (behind (changes_old p n c.args.how kind c.args.used c.args.r (designates c.in_ok-target.target)) c.change_old.result _ _ _ _ c.change_old.new.out.items c.in_ok-by.ensures c.change_old.ensures))

pub logic-returns : goal.logic-returns
logic-returns t c =
    let p = program_of c.args.around.now in
    settled_emitted p c.args.node.now.place _ _ _ _ _ _ c.in_ok-does.ensures c.in_ok-a.ensures c.in_ok-does-2.ensures

pub conditional-returns : goal.conditional-returns
conditional-returns t c =
    let p = program_of c.args.around.now in
    settled_emitted p c.args.node.now.place _ _ _ _ _ _ c.in_ok-does.ensures c.in_ok-a.ensures c.in_ok-does-2.ensures

pub decide-returns : goal.decide-returns
decide-returns t c =
    let p = program_of c.args.around.now in
    emitted_behind _ (λ a. tests_before p c.args.node.now.place c.args.decides (Some c.args.r) a (truth_of p c.args.node.now (lowered_in c.args.around.now c.args.right.now) c.args.r) >>> λ done. only (Reg c.args.r false)) _ _ _ _ _ c.in_ok-a.ensures
    (ends {A = Unit {0}} (λ done. Reg c.args.r false) _ tt _ _ c.in_ok-under_test.ensures)

pub truth-returns : goal.truth-returns
truth-returns t c =
    let a = c.args.around.now in
    let p = program_of a in
    let r = c.args.r in
    let right = lowered_in a c.args.right.now in
    subst (λ (kind : Kind). Emits {A = Unit {0}} c.does.result (right.value true (r + 1) >>> λ b. does p c.args.node.now.place (act.Binary Ne kind b nothing r)) c.args.out.now.items c.does.new.out.items)
    (c.kind_or_int-kind.ensures ∙ ap kind_or_int (c.kind_of.ensures ∙ ap kind_of (c.type_of.ensures p a.variables.now)))
    (behind (λ b. does p c.args.node.now.place (act.Binary Ne c.kind_or_int-kind.result b nothing r)) c.does.result _ _ _ _ c.does.new.out.items c.in_ok-a.ensures c.does.ensures)

pub under_test-returns : goal.under_test-returns
under_test-returns t c =
    let p = program_of c.args.around.now in
    tests_emitted p c.args.node.now.place c.args.decides (Some c.args.r) c.args.a _ _ _ _ _ _ _ _ _ c.in_ok-does.ensures c.in_ok-truth.ensures c.in_ok-number.ensures c.in_ok-inner.ensures c.in_ok-behind.ensures
    (c.replace.ensures ∙ ap (λ (what : Do). slice_set c.truth.new.out.items c.in_ok-number.number (instruction p c.args.node.now.place what)) c.test-act.ensures)

pub arms-returns : goal.arms-returns
arms-returns t c =
    let p = program_of c.args.around.now in
    chooses_emitted p c.args.node.now.place c.args.a _ _ _ _ _ _ _ _ _ _ _ _ _ _ _ _ _ _ c.in_ok-does.ensures c.in_ok-arm.ensures c.in_ok-does-2.ensures c.in_ok-given.ensures c.in_ok-number.ensures c.in_ok-first.ensures c.in_ok-jump.ensures c.in_ok-second.ensures c.in_ok-behind.ensures
    (c.replace.ensures ∙ ap (λ (what : Do). slice_set c.arm-2.new.out.items c.in_ok-number.number (instruction p c.args.node.now.place what)) c.test-act.ensures) c.replace-2.ensures

pub printf-returns : goal.printf-returns
printf-returns t c =
    let a = c.args.around.now in
    let p = program_of a in
    let args = in_turn (map (lowered_in a) c.args.args.now) c.args.r in
    subst (λ (chunks : List Chunk). Emits c.output.result (args >>> outputs p c.args.at (out.Format chunks) c.args.r) c.args.out.now.items c.output.new.out.items) c.in_ok-chunks.ensures
    (behind (outputs p c.args.at (out.Format c.in_ok-chunks.chunks) c.args.r) c.output.result _ _ _ _ c.output.new.out.items c.in_ok-given.ensures c.output.ensures)
