use Rattle.std.proofs.Common.{◌∙◌, ◌<◌, length, refl, rules, arith}
use Rattle.std.proofs.lemmas.Result.{on_ok_weaker}
use Rattle.k_types_numbers.specs.Renumbering.{NumbersOne, NumbersTwo, NumbersThree}
use Rattle.k_types_numbers.specs.Steps.{string_counted}
use Rattle.k_types_meaning.specs.declared.tree.expression.TExpr.{out-TExpr}
use Rattle.k_types_meaning.specs.declared.tree.expression.TExpr.TheVariants as typed
use Rattle.k_types_numbers.proofs.CountingLaws.{ends_as, list_lent, list_more, numbered_of, renumbers_of, unvisited_more}
use Rattle.k_types_numbers.proofs.ExpressionForms.{with_number, pair_numbered, pair_of, numbers_same, numbers_Str, numbers_Object, numbers_Variable, numbers_Index, numbers_Getchar, numbers_Call, numbers_Printf, numbers_Pre, numbers_Unary, numbers_Putchar, numbers_Puts, numbers_Post, numbers_Address, numbers_Deref, numbers_Plus, numbers_Convert, numbers_Cast, numbers_Cond, numbers_Binary, numbers_Both, numbers_Either, numbers_Forward, numbers_Onto, numbers_Back, numbers_PtrCompare, numbers_PtrDistance, numbers_Assign, numbers_AssignBy, numbers_Comma}
use Rattle.k_types_numbers.proofs.LeftForms.{with_operands, an_operation, of_several, on_pointers, no_more}
use Rattle.k_types_numbers.proofs.expression.+expressions.Goals as goal

pub number_operands-returns-in-Number : goal.number_operands-returns-in-Number
unfolding out-TExpr denote.Hole.Carrier.out
number_operands-returns-in-Number t c = rw c.in-Number.is (numbers_same _ _ _ _ c.args.counts.now (search rules))

pub number_operands-returns-in-Object : goal.number_operands-returns-in-Object
number_operands-returns-in-Object t c =
    ends_as _ _ _ _ _ _ _ _ _ (numbered_of _ _ _ _ _ _ _ _ _ c.in-Object.is (numbers_Object _ _ _ c.args.counts.now)) (search rules)

pub number_operands-returns-in-Variable : goal.number_operands-returns-in-Variable
number_operands-returns-in-Variable t c =
    ends_as _ _ _ _ _ _ _ _ _ (numbered_of _ _ _ _ _ _ _ _ _ c.in-Variable.is (numbers_Variable _ _ _ c.args.counts.now)) (search rules)

pub number_operands-returns-in-Getchar : goal.number_operands-returns-in-Getchar
number_operands-returns-in-Getchar t c =
    ends_as _ _ _ _ _ _ _ _ _ (numbered_of _ _ _ _ _ _ _ _ _ c.in-Getchar.is (numbers_Getchar _ _ c.args.counts.now)) (search rules)

pub number_operands-returns-in_ok-string-in-Str : goal.number_operands-returns-in_ok-string-in-Str
number_operands-returns-in_ok-string-in-Str t c =
    ends_as _ _ _ _ _ _ _ _ _ (numbered_of _ _ _ _ _ _ _ _ _ c.in-Str.is (numbers_Str _ _ _ _ _ _ _ c.in_ok-string-in-Str.ensures.0
    (c.in_ok-string-in-Str.ensures.1 ∙ (λ i. string_counted (c.in-Str.node-is i).place (c.in-Str.bytes-is i) c.args.counts.now)))) (search rules)

pub number_call-returns-in-Call : goal.number_call-returns-in-Call
number_call-returns-in-Call t c =
    on_ok_weaker c.number_exprs.result (λ h. ends_as _ _ _ _ _ _ _ _ _ (numbered_of _ _ _ _ _ _ _ _ _ c.in-Call.is (numbers_Call _ _ _ _ _ _ _
    (list_lent _ _ _ c.in-Call.args _ _ _ _ (c.as_mut_slice.ensures.value ∙ c.in-Call.args-is) c.number_exprs.auto.exprs h))) (search rules)) c.number_exprs.ensures

pub number_call-returns-in-Printf : goal.number_call-returns-in-Printf
number_call-returns-in-Printf t c =
    on_ok_weaker c.number_exprs-in-Printf.result (λ h. ends_as _ _ _ _ _ _ _ _ _ (numbered_of _ _ _ _ _ _ _ _ _ c.in-Printf.is (numbers_Printf _ _ _ _ _ _ _
    (list_lent _ _ _ c.in-Printf.args _ _ _ _ (c.as_mut_slice-in-Printf.ensures.value ∙ c.in-Printf.args-is) c.number_exprs-in-Printf.auto.exprs h))) (search rules)) c.number_exprs-in-Printf.ensures

pub number_unary-returns-in-Pre : goal.number_unary-returns-in-Pre
number_unary-returns-in-Pre t c =
    on_ok_weaker c.give_one-in-Pre.result (λ (h : NumbersOne _ _ _ _ _ _ _). ends_as _ _ _ _ _ _ _ _ _ (numbered_of _ _ _ _ _ _ _ _ _ c.in-Pre.is (numbers_Pre _ _ _ _ _ _ _ (renumbers_of _ _ _ _ _ _ _ _ c.in-Pre.of-is h.operand)))
    (λ i. typed.Pre ((h.own ∙ (λ j. with_number (c.in-Pre.node-is j) c.args.number)) i) (c.in-Pre._change-is i) c.give_one-in-Pre.new.of)) c.give_one-in-Pre.ensures

pub number_unary-returns-in-Unary : goal.number_unary-returns-in-Unary
number_unary-returns-in-Unary t c =
    on_ok_weaker c.give_one-in-Unary.result (λ (h : NumbersOne _ _ _ _ _ _ _). ends_as _ _ _ _ _ _ _ _ _ (numbered_of _ _ _ _ _ _ _ _ _ c.in-Unary.is (numbers_Unary _ _ _ _ _ _ _ _ (renumbers_of _ _ _ _ _ _ _ _ c.in-Unary.of-is h.operand)))
    (λ i. typed.Unary ((h.own ∙ (λ j. with_number (c.in-Unary.node-is j) c.args.number)) i) (c.in-Unary._op-is i) (c.in-Unary._kind-is i) c.give_one-in-Unary.new.of)) c.give_one-in-Unary.ensures

pub number_pointers-returns-in-Index : goal.number_pointers-returns-in-Index
number_pointers-returns-in-Index t c =
    on_ok_weaker c.give_two.result (λ (h : NumbersTwo _ _ _ _ _ _ _ _ _). ends_as _ _ _ _ _ _ _ _ _ (numbered_of _ _ _ _ _ _ _ _ _ c.in-Index.is (numbers_Index _ _ _ _ _ _ _ _ (pair_of _ _ _ _ _ _ _ _ c.in-Index.base-is c.in-Index.index-is h.operands)))
    (λ i. typed.Index ((h.own ∙ (λ j. with_number (c.in-Index.node-is j) c.args.number)) i) c.give_two.new.left c.give_two.new.right)) c.give_two.ensures

pub number_several-returns-in-Binary : goal.number_several-returns-in-Binary
number_several-returns-in-Binary t c =
    on_ok_weaker c.give_two-in-Binary.result (λ (h : NumbersTwo _ _ _ _ _ _ _ _ _). ends_as _ _ _ _ _ _ _ _ _ (numbered_of _ _ _ _ _ _ _ _ _ c.in-Binary.is (numbers_Binary _ _ _ _ _ _ _ _ _ _ (pair_of _ _ _ _ _ _ _ _ c.in-Binary.left-is c.in-Binary.right-is h.operands)))
    (λ i. typed.Binary ((h.own ∙ (λ j. with_number (c.in-Binary.node-is j) c.args.number)) i) (c.in-Binary._op-is i) (c.in-Binary._kind-is i) c.give_two-in-Binary.new.left c.give_two-in-Binary.new.right)) c.give_two-in-Binary.ensures

pub number_several-returns-in-Both : goal.number_several-returns-in-Both
number_several-returns-in-Both t c =
    on_ok_weaker c.give_two.result (λ (h : NumbersTwo _ _ _ _ _ _ _ _ _). ends_as _ _ _ _ _ _ _ _ _ (numbered_of _ _ _ _ _ _ _ _ _ c.in-Both.is (numbers_Both _ _ _ _ _ _ _ _ (pair_of _ _ _ _ _ _ _ _ c.in-Both.left-is c.in-Both.right-is h.operands)))
    (λ i. typed.Both ((h.own ∙ (λ j. with_number (c.in-Both.node-is j) c.args.number)) i) c.give_two.new.left c.give_two.new.right)) c.give_two.ensures

pub number_several-returns-in-Either : goal.number_several-returns-in-Either
number_several-returns-in-Either t c =
    on_ok_weaker c.give_two-in-Either.result (λ (h : NumbersTwo _ _ _ _ _ _ _ _ _). ends_as _ _ _ _ _ _ _ _ _ (numbered_of _ _ _ _ _ _ _ _ _ c.in-Either.is (numbers_Either _ _ _ _ _ _ _ _ (pair_of _ _ _ _ _ _ _ _ c.in-Either.left-is c.in-Either.right-is h.operands)))
    (λ i. typed.Either ((h.own ∙ (λ j. with_number (c.in-Either.node-is j) c.args.number)) i) c.give_two-in-Either.new.left c.give_two-in-Either.new.right)) c.give_two-in-Either.ensures

pub number_pointers-returns-in-Forward : goal.number_pointers-returns-in-Forward
number_pointers-returns-in-Forward t c =
    on_ok_weaker c.give_two-in-Forward.result (λ (h : NumbersTwo _ _ _ _ _ _ _ _ _). ends_as _ _ _ _ _ _ _ _ _ (numbered_of _ _ _ _ _ _ _ _ _ c.in-Forward.is (numbers_Forward _ _ _ _ _ _ _ _ (pair_of _ _ _ _ _ _ _ _ c.in-Forward.left-is c.in-Forward.right-is h.operands)))
    (λ i. typed.Forward ((h.own ∙ (λ j. with_number (c.in-Forward.node-is j) c.args.number)) i) c.give_two-in-Forward.new.left c.give_two-in-Forward.new.right)) c.give_two-in-Forward.ensures

pub number_pointers-returns-in-Onto : goal.number_pointers-returns-in-Onto
number_pointers-returns-in-Onto t c =
    on_ok_weaker c.give_two-in-Onto.result (λ (h : NumbersTwo _ _ _ _ _ _ _ _ _). ends_as _ _ _ _ _ _ _ _ _ (numbered_of _ _ _ _ _ _ _ _ _ c.in-Onto.is (numbers_Onto _ _ _ _ _ _ _ _ (pair_of _ _ _ _ _ _ _ _ c.in-Onto.left-is c.in-Onto.right-is h.operands)))
    (λ i. typed.Onto ((h.own ∙ (λ j. with_number (c.in-Onto.node-is j) c.args.number)) i) c.give_two-in-Onto.new.left c.give_two-in-Onto.new.right)) c.give_two-in-Onto.ensures

pub number_pointers-returns-in-Back : goal.number_pointers-returns-in-Back
number_pointers-returns-in-Back t c =
    on_ok_weaker c.give_two-in-Back.result (λ (h : NumbersTwo _ _ _ _ _ _ _ _ _). ends_as _ _ _ _ _ _ _ _ _ (numbered_of _ _ _ _ _ _ _ _ _ c.in-Back.is (numbers_Back _ _ _ _ _ _ _ _ (pair_of _ _ _ _ _ _ _ _ c.in-Back.left-is c.in-Back.right-is h.operands)))
    (λ i. typed.Back ((h.own ∙ (λ j. with_number (c.in-Back.node-is j) c.args.number)) i) c.give_two-in-Back.new.left c.give_two-in-Back.new.right)) c.give_two-in-Back.ensures

pub number_pointers-returns-in-PtrCompare : goal.number_pointers-returns-in-PtrCompare
number_pointers-returns-in-PtrCompare t c =
    on_ok_weaker c.give_two-in-PtrCompare.result (λ (h : NumbersTwo _ _ _ _ _ _ _ _ _). ends_as _ _ _ _ _ _ _ _ _ (numbered_of _ _ _ _ _ _ _ _ _ c.in-PtrCompare.is (numbers_PtrCompare _ _ _ _ _ _ _ _ _ (pair_of _ _ _ _ _ _ _ _ c.in-PtrCompare.left-is c.in-PtrCompare.right-is h.operands)))
    (λ i. typed.PtrCompare ((h.own ∙ (λ j. with_number (c.in-PtrCompare.node-is j) c.args.number)) i) (c.in-PtrCompare._op-is i) c.give_two-in-PtrCompare.new.left c.give_two-in-PtrCompare.new.right)) c.give_two-in-PtrCompare.ensures

pub number_pointers-returns-in-PtrDistance : goal.number_pointers-returns-in-PtrDistance
number_pointers-returns-in-PtrDistance t c =
    on_ok_weaker c.give_two-in-PtrDistance.result (λ (h : NumbersTwo _ _ _ _ _ _ _ _ _). ends_as _ _ _ _ _ _ _ _ _ (numbered_of _ _ _ _ _ _ _ _ _ c.in-PtrDistance.is (numbers_PtrDistance _ _ _ _ _ _ _ _ (pair_of _ _ _ _ _ _ _ _ c.in-PtrDistance.left-is c.in-PtrDistance.right-is h.operands)))
    (λ i. typed.PtrDistance ((h.own ∙ (λ j. with_number (c.in-PtrDistance.node-is j) c.args.number)) i) c.give_two-in-PtrDistance.new.left c.give_two-in-PtrDistance.new.right)) c.give_two-in-PtrDistance.ensures

pub number_several-returns-in-Assign : goal.number_several-returns-in-Assign
number_several-returns-in-Assign t c =
    on_ok_weaker c.give_two-in-Assign.result (λ (h : NumbersTwo _ _ _ _ _ _ _ _ _). ends_as _ _ _ _ _ _ _ _ _ (numbered_of _ _ _ _ _ _ _ _ _ c.in-Assign.is (numbers_Assign _ _ _ _ _ _ _ _ (pair_of _ _ _ _ _ _ _ _ c.in-Assign.left-is c.in-Assign.right-is h.operands)))
    (λ i. typed.Assign ((h.own ∙ (λ j. with_number (c.in-Assign.node-is j) c.args.number)) i) c.give_two-in-Assign.new.left c.give_two-in-Assign.new.right)) c.give_two-in-Assign.ensures

pub number_several-returns-in-AssignBy : goal.number_several-returns-in-AssignBy
number_several-returns-in-AssignBy t c =
    on_ok_weaker c.give_two-in-AssignBy.result (λ (h : NumbersTwo _ _ _ _ _ _ _ _ _). ends_as _ _ _ _ _ _ _ _ _ (numbered_of _ _ _ _ _ _ _ _ _ c.in-AssignBy.is (numbers_AssignBy _ _ _ _ _ _ _ _ _ (pair_of _ _ _ _ _ _ _ _ c.in-AssignBy.left-is c.in-AssignBy.right-is h.operands)))
    (λ i. typed.AssignBy ((h.own ∙ (λ j. with_number (c.in-AssignBy.node-is j) c.args.number)) i) (c.in-AssignBy._change-is i) c.give_two-in-AssignBy.new.left c.give_two-in-AssignBy.new.right)) c.give_two-in-AssignBy.ensures

pub number_several-returns-in-Comma : goal.number_several-returns-in-Comma
number_several-returns-in-Comma t c =
    on_ok_weaker c.give_two-in-Comma.result (λ (h : NumbersTwo _ _ _ _ _ _ _ _ _). ends_as _ _ _ _ _ _ _ _ _ (numbered_of _ _ _ _ _ _ _ _ _ c.in-Comma.is (numbers_Comma _ _ _ _ _ _ _ _ (pair_of _ _ _ _ _ _ _ _ c.in-Comma.left-is c.in-Comma.right-is h.operands)))
    (λ i. typed.Comma ((h.own ∙ (λ j. with_number (c.in-Comma.node-is j) c.args.number)) i) c.give_two-in-Comma.new.left c.give_two-in-Comma.new.right)) c.give_two-in-Comma.ensures

pub number_several-returns-in-Cond : goal.number_several-returns-in-Cond
number_several-returns-in-Cond t c =
    on_ok_weaker c.give_three.result (λ (h : NumbersThree _ _ _ _ _ _ _ _ _ _ _). ends_as _ _ _ _ _ _ _ _ _ (numbered_of _ _ _ _ _ _ _ _ _ c.in-Cond.is (numbers_Cond _ _ _ _ _ _ _ _ _ _ _ (renumbers_of _ _ _ _ _ _ _ _ c.in-Cond.test-is h.test)
    (pair_of _ _ _ _ _ _ _ _ c.in-Cond.then-is c.in-Cond.other-is h.arms)))
    (λ i. typed.Cond ((h.own ∙ (λ j. with_number (c.in-Cond.node-is j) c.args.number)) i) c.give_three.new.test c.give_three.new.first c.give_three.new.second)) c.give_three.ensures

pub number_exprs-loop-expr-preserved : goal.number_exprs-loop-expr-preserved
number_exprs-loop-expr-preserved t c =
    let within : c.loop-expr.expr-index < length c.loop-expr.exprs = omega arith in (
      unvisited_more _ _ _ _ _ c.loop-expr.invariant.0,
      list_more _ _ _ _ _ _ _ _ _ _ _ within c.loop-expr.invariant.1 c.in_ok-number_expr.ensures,
    )

pub number_pair-returns : goal.number_pair-returns
number_pair-returns t c = pair_numbered _ _ _ _ _ _ _ c.in_ok-number_boxed.ensures c.in_ok-number_boxed-2.ensures

pub number_call-returns-in-Putchar : goal.number_call-returns-in-Putchar
number_call-returns-in-Putchar t c =
    on_ok_weaker c.give_one.result (λ (h : NumbersOne _ _ _ _ _ _ _). ends_as _ _ _ _ _ _ _ _ _ (numbered_of _ _ _ _ _ _ _ _ _ c.in-Putchar.is (numbers_Putchar _ _ _ _ _ _ (renumbers_of _ _ _ _ _ _ _ _ c.in-Putchar.of-is h.operand)))
    (λ i. typed.Putchar ((h.own ∙ (λ j. with_number (c.in-Putchar.node-is j) c.args.number)) i) c.give_one.new.of)) c.give_one.ensures

pub number_call-returns-in-Puts : goal.number_call-returns-in-Puts
number_call-returns-in-Puts t c =
    on_ok_weaker c.give_one-in-Puts.result (λ (h : NumbersOne _ _ _ _ _ _ _). ends_as _ _ _ _ _ _ _ _ _ (numbered_of _ _ _ _ _ _ _ _ _ c.in-Puts.is (numbers_Puts _ _ _ _ _ _ (renumbers_of _ _ _ _ _ _ _ _ c.in-Puts.of-is h.operand)))
    (λ i. typed.Puts ((h.own ∙ (λ j. with_number (c.in-Puts.node-is j) c.args.number)) i) c.give_one-in-Puts.new.of)) c.give_one-in-Puts.ensures

pub number_unary-returns-in-Post : goal.number_unary-returns-in-Post
number_unary-returns-in-Post t c =
    on_ok_weaker c.give_one-in-Post.result (λ (h : NumbersOne _ _ _ _ _ _ _). ends_as _ _ _ _ _ _ _ _ _ (numbered_of _ _ _ _ _ _ _ _ _ c.in-Post.is (numbers_Post _ _ _ _ _ _ _ (renumbers_of _ _ _ _ _ _ _ _ c.in-Post.of-is h.operand)))
    (λ i. typed.Post ((h.own ∙ (λ j. with_number (c.in-Post.node-is j) c.args.number)) i) (c.in-Post._change-is i) c.give_one-in-Post.new.of)) c.give_one-in-Post.ensures

pub number_unary-returns-in-Address : goal.number_unary-returns-in-Address
number_unary-returns-in-Address t c =
    on_ok_weaker c.give_one.result (λ (h : NumbersOne _ _ _ _ _ _ _). ends_as _ _ _ _ _ _ _ _ _ (numbered_of _ _ _ _ _ _ _ _ _ c.in-Address.is (numbers_Address _ _ _ _ _ _ (renumbers_of _ _ _ _ _ _ _ _ c.in-Address.of-is h.operand)))
    (λ i. typed.Address ((h.own ∙ (λ j. with_number (c.in-Address.node-is j) c.args.number)) i) c.give_one.new.of)) c.give_one.ensures

pub number_unary-returns-in-Deref : goal.number_unary-returns-in-Deref
number_unary-returns-in-Deref t c =
    on_ok_weaker c.give_one-in-Deref.result (λ (h : NumbersOne _ _ _ _ _ _ _). ends_as _ _ _ _ _ _ _ _ _ (numbered_of _ _ _ _ _ _ _ _ _ c.in-Deref.is (numbers_Deref _ _ _ _ _ _ (renumbers_of _ _ _ _ _ _ _ _ c.in-Deref.of-is h.operand)))
    (λ i. typed.Deref ((h.own ∙ (λ j. with_number (c.in-Deref.node-is j) c.args.number)) i) c.give_one-in-Deref.new.of)) c.give_one-in-Deref.ensures

pub number_unary-returns-in-Plus : goal.number_unary-returns-in-Plus
number_unary-returns-in-Plus t c =
    on_ok_weaker c.give_one-in-Plus.result (λ (h : NumbersOne _ _ _ _ _ _ _). ends_as _ _ _ _ _ _ _ _ _ (numbered_of _ _ _ _ _ _ _ _ _ c.in-Plus.is (numbers_Plus _ _ _ _ _ _ (renumbers_of _ _ _ _ _ _ _ _ c.in-Plus.of-is h.operand)))
    (λ i. typed.Plus ((h.own ∙ (λ j. with_number (c.in-Plus.node-is j) c.args.number)) i) c.give_one-in-Plus.new.of)) c.give_one-in-Plus.ensures

pub number_unary-returns-in-Convert : goal.number_unary-returns-in-Convert
number_unary-returns-in-Convert t c =
    on_ok_weaker c.give_one-in-Convert.result (λ (h : NumbersOne _ _ _ _ _ _ _). ends_as _ _ _ _ _ _ _ _ _ (numbered_of _ _ _ _ _ _ _ _ _ c.in-Convert.is (numbers_Convert _ _ _ _ _ _ (renumbers_of _ _ _ _ _ _ _ _ c.in-Convert.of-is h.operand)))
    (λ i. typed.Convert ((h.own ∙ (λ j. with_number (c.in-Convert.node-is j) c.args.number)) i) c.give_one-in-Convert.new.of)) c.give_one-in-Convert.ensures

pub number_unary-returns-in-Cast : goal.number_unary-returns-in-Cast
number_unary-returns-in-Cast t c =
    on_ok_weaker c.give_one-in-Cast.result (λ (h : NumbersOne _ _ _ _ _ _ _). ends_as _ _ _ _ _ _ _ _ _ (numbered_of _ _ _ _ _ _ _ _ _ c.in-Cast.is (numbers_Cast _ _ _ _ _ _ (renumbers_of _ _ _ _ _ _ _ _ c.in-Cast.of-is h.operand)))
    (λ i. typed.Cast ((h.own ∙ (λ j. with_number (c.in-Cast.node-is j) c.args.number)) i) c.give_one-in-Cast.new.of)) c.give_one-in-Cast.ensures

pub give_one-returns : goal.give_one-returns
give_one-returns t c = on_ok_weaker c.number_boxed.result (λ h. record { own = refl; operand = h }) c.number_boxed.ensures

pub give_two-returns : goal.give_two-returns
give_two-returns t c = on_ok_weaker c.number_pair.result (λ h. record { own = refl; operands = h }) c.number_pair.ensures

pub give_three-returns : goal.give_three-returns
give_three-returns t c =
    on_ok_weaker c.number_pair.result (λ h. record { own = refl; middle = _; test = c.in_ok-number_boxed.ensures; arms = h }) c.number_pair.ensures

pub number_operands-number_call-requires : goal.number_operands-number_call-requires
number_operands-number_call-requires t c = (omega (arith, c.decreases), with_operands _ c.in_default.not-Number c.in_default.not-Str c.in_default.not-Object c.in_default.not-Variable c.in_default.not-Getchar)

pub number_call-number_unary-requires : goal.number_call-number_unary-requires
number_call-number_unary-requires t c = (omega (arith, c.decreases), an_operation _ c.requires c.in_default.not-Call c.in_default.not-Printf c.in_default.not-Putchar c.in_default.not-Puts)

pub number_unary-number_several-requires : goal.number_unary-number_several-requires
number_unary-number_several-requires t c = (omega (arith, c.decreases), of_several _ c.requires c.in_default.not-Post c.in_default.not-Pre c.in_default.not-Address c.in_default.not-Deref c.in_default.not-Plus c.in_default.not-Unary c.in_default.not-Convert c.in_default.not-Cast)

pub number_several-number_pointers-requires : goal.number_several-number_pointers-requires
number_several-number_pointers-requires t c = (omega (arith, c.decreases), on_pointers _ c.requires c.in_default.not-Both c.in_default.not-Either c.in_default.not-Assign c.in_default.not-Comma c.in_default.not-Binary c.in_default.not-AssignBy c.in_default.not-Cond)

pub number_pointers-unreachable-requires : goal.number_pointers-unreachable-requires
number_pointers-unreachable-requires t c = no_more _ c.requires c.in_default.not-Index c.in_default.not-Forward c.in_default.not-Onto c.in_default.not-Back c.in_default.not-PtrCompare c.in_default.not-PtrDistance
