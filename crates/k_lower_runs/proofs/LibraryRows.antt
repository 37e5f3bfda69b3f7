-- The rows of calls do what they mean: of the library's functions, and of those of the source where their calls do.
use Rattle.std.proofs.Common.{ℕ, ◌+◌, ◌≤◌, Bool, true, List, [], ◌∷◌, map, refl, subst, arith}
use Rattle.k_optab.specs.declared.class.Class.TheVariants as class
use Rattle.k_num.specs.declared.place.Place.{Place}
use Rattle.k_types_meaning.specs.declared.tree.expression.Node.{Node}
use Rattle.k_types_meaning.specs.declared.tree.expression.Piece.{Piece as Written}
use Rattle.k_world.specs.declared.act.Act.TheVariants as act
use Rattle.k_world.specs.declared.act.Out.{Out}
use Rattle.k_world.specs.declared.act.Out.TheVariants as out
use Rattle.k_code.specs.declared.code.Code.{Code}
use Rattle.k_code.specs.declared.instruction.Arg.{Arg}
use Rattle.k_code.specs.declared.instruction.Do.TheVariants as do_
use Rattle.k_code.specs.Named.{operands, register_set}
use Rattle.k_code.specs.Steps.{behind, operation_of}
use Rattle.k_evaluation.specs.declared.operand.Operand.{Operand}
use Rattle.k_evaluation.specs.Expressions.{Calls}
use Rattle.k_evaluation.specs.Expressions as calling
use Rattle.k_evaluation.specs.Library.{chunk_of}
use Rattle.k_evaluation.specs.Library as row
use Rattle.k_evaluation.specs.Meanings.{Meaning}
use Rattle.k_evaluation.specs.Meanings as means
use Rattle.k_evaluation.specs.States.{Program, ◌>>=◌, gives, computes}
use Rattle.k_lower_code.specs.Library as code_of
use Rattle.k_lower_code.specs.Lowered.{Lowered}
use Rattle.k_lower_code.specs.Lowered as lowers
use Rattle.k_lower_code.specs.Pieces.{only, ◌>>>◌, sets}
use Rattle.k_lower_code.proofs.Sizes.{IsSized, binds_sized}
use Rattle.k_lower_runs.proofs.Combined.{only_value_does, used_follows, one_does, one_operation}
use Rattle.k_lower_runs.proofs.Leads.{Follows, only_follows, binds}
use Rattle.k_lower_runs.specs.Doing.{CallFollows}
use Rattle.k_lower_runs.proofs.Values.{Same, AllSame, all_read, same_kept, IfUsed, Always, also, under, computes_follow, Does}

module _ (code : Code) (deep count : ℕ) (program : Program) where
  -- several expressions do what they mean
  abbrev pub AllDo : List Meaning → List Lowered → Type 0
  AllDo [] [] = Unit {0}
  AllDo (m ∷ ms) [] = ⊥
  AllDo [] (e ∷ es) = ⊥
  AllDo (m ∷ ms) (e ∷ es) = Does code deep count m e × AllDo ms es

  in_turn_sized : (ms : List Meaning) (es : List Lowered) → AllDo ms es → (r : ℕ) → IsSized (lowers.in_turn es r)
  in_turn_sized [] [] all r = λ first. refl
  in_turn_sized (m ∷ ms) [] all r = absurd all
  in_turn_sized [] (e ∷ es) all r = absurd all
  in_turn_sized (m ∷ ms) (e ∷ es) all r = binds_sized (e.value true r) (λ a. lowers.in_turn es (r + 1) >>> λ rest. only (a ∷ rest)) (all.0.value_sized true r)
      (binds_sized (lowers.in_turn es (r + 1)) (λ rest. only ((e.value true r).gives ∷ rest)) (in_turn_sized ms es all.1 (r + 1)) (λ first. refl))

  in_turn_follows : (ms : List Meaning) (es : List Lowered) → AllDo ms es → (r : ℕ) → count ≤ r
      → Follows code deep count r Always (means.in_turn ms) (lowers.in_turn es r) (λ os args new. AllSame count r new os args)
  in_turn_follows [] [] all r low = only_follows code deep count r Always [] [] (λ os args new. AllSame count r new os args) (λ new p. tt)
  in_turn_follows (m ∷ ms) [] all r low = absurd all
  in_turn_follows [] (e ∷ es) all r low = absurd all
  in_turn_follows (m ∷ ms) (e ∷ es) all r low =
      binds code deep count r Always (m.value true) (e.value true r) (λ o a new. Same count r new o a) (λ a. means.in_turn ms >>= λ rest. gives (a ∷ rest))
      (λ a. lowers.in_turn es (r + 1) >>> λ rest. only (a ∷ rest)) (λ os args new. AllSame count r new os args) (all.0.value_sized true r) (used_follows code deep count m e all.0 r low)
      (λ o. binds code deep count r (λ new. Same count r new o (e.value true r).gives) (means.in_turn ms) (lowers.in_turn es (r + 1))
      (λ os args new. AllSame count (r + 1) new os args × Same count r new o (e.value true r).gives) (λ rest. gives (o ∷ rest)) (λ rest. only ((e.value true r).gives ∷ rest))
      (λ os args new. AllSame count r new os args) (in_turn_sized ms es all.1 (r + 1))
      (also code deep count r (means.in_turn ms) (lowers.in_turn es (r + 1)) (λ os args new. AllSame count (r + 1) new os args) (λ new. Same count r new o (e.value true r).gives)
      (λ old new keeps same. same_kept count r old new o (e.value true r).gives low keeps same) (in_turn_follows ms es all.1 (r + 1) (omega (arith, low))))
      (λ rest. only_follows code deep count r (λ new. AllSame count (r + 1) new rest (lowers.in_turn es (r + 1)).gives × Same count r new o (e.value true r).gives) (o ∷ rest)
      ((e.value true r).gives ∷ (lowers.in_turn es (r + 1)).gives) (λ os args new. AllSame count r new os args) (λ new both. (both.1, both.0))))

  pub getchar_does : (node : Node) → Does code deep count (row.getchar program node) (code_of.getchar program node)
  unfolding row.getchar code_of.getchar operation_of operands behind register_set
  getchar_does node = only_value_does code deep count node (λ used. computes program class.Input node.place act.Input []) (λ used r. sets program node.place (λ to. do_.Input to) r)
      (λ used r low. under code deep count r Always Always (computes program class.Input node.place act.Input []) (sets program node.place (λ to. do_.Input to) r) (λ v b new. Same count r new v b) (λ v b new. IfUsed used count r v b new) (λ registers p. p) (λ v new same is_used. same)
      (computes_follow code deep count r Always program node.place class.Input act.Input [] (λ to. do_.Input to) low refl (λ s registers agrees p. refl) (λ held c. refl)))
      (λ used r first. refl)

  pub putchar_does : (node : Node) (m : Meaning) (e : Lowered) → Does code deep count m e → Does code deep count (row.putchar program node m) (code_of.putchar program node e)
  unfolding row.putchar code_of.putchar operation_of operands behind register_set
  putchar_does node m e is = one_does code deep count node m e (row.puts_byte program node.place) (code_of.puts_byte program node.place) is
      (one_operation code deep count program node.place class.Output (act.Output out.Byte) (λ a r. do_.Output out.Byte (a ∷ []) r) (λ a r. refl) (λ a r. refl) (λ a r held c. refl))

  -- an output behind its arguments
  outputs_follow : (place : Place) (what : Out) (used : Bool) (r : ℕ) → count ≤ r → (os : List Operand) (args : List Arg)
      → Follows code deep count r (λ new. AllSame count r new os args) (row.outputs program place what os) (code_of.outputs program place what r args) (λ v b new. IfUsed used count r v b new)
  unfolding operation_of operands behind register_set
  outputs_follow place what used r low os args =
      under code deep count r (λ new. AllSame count r new os args) (λ new. AllSame count r new os args) (row.outputs program place what os) (code_of.outputs program place what r args)
      (λ v b new. Same count r new v b) (λ v b new. IfUsed used count r v b new) (λ registers p. p) (λ v new same is_used. same)
      (computes_follow code deep count r (λ new. AllSame count r new os args) program place class.Output (act.Output what) os (λ to. do_.Output what args to) low refl
      (λ s registers agrees same. all_read count r registers s os args same agrees) (λ held c. refl))

  pub puts_does : (node : Node) (m : Meaning) (e : Lowered) → Does code deep count m e → Does code deep count (row.puts program node m) (code_of.puts program node e)
  unfolding row.puts code_of.puts
  puts_does node m e is = subst (λ text. Does code deep count (means.only_value node (λ used. row.outputs program node.place (out.Line m.text) []))
      (lowers.only_value node (λ used r. code_of.outputs program node.place (out.Line text) r []))) is.text
      (only_value_does code deep count node (λ used. row.outputs program node.place (out.Line m.text) []) (λ used r. code_of.outputs program node.place (out.Line m.text) r [])
      (λ used r low. under code deep count r (λ new. AllSame count r new [] []) Always (row.outputs program node.place (out.Line m.text) []) (code_of.outputs program node.place (out.Line m.text) r [])
      (λ v b new. IfUsed used count r v b new) (λ v b new. IfUsed used count r v b new) (λ registers p. tt) (λ v new given. given) (outputs_follow node.place (out.Line m.text) used r low [] []))
      (λ used r first. refl))

  pub printf_does : (node : Node) (format : List Written) (ms : List Meaning) (es : List Lowered) → AllDo ms es
      → Does code deep count (row.printf program node format ms) (code_of.printf program node format es)
  unfolding row.printf code_of.printf
  printf_does node format ms es all = only_value_does code deep count node (λ used. means.in_turn ms >>= row.outputs program node.place (out.Format (map chunk_of format)))
      (λ used r. lowers.in_turn es r >>> code_of.outputs program node.place (out.Format (map chunk_of format)) r)
      (λ used r low. binds code deep count r Always (means.in_turn ms) (lowers.in_turn es r) (λ os args new. AllSame count r new os args)
      (row.outputs program node.place (out.Format (map chunk_of format))) (code_of.outputs program node.place (out.Format (map chunk_of format)) r) (λ v b new. IfUsed used count r v b new)
      (in_turn_sized ms es all r) (in_turn_follows ms es all r low)
      (λ os. outputs_follow node.place (out.Format (map chunk_of format)) used r low os (lowers.in_turn es r).gives))
      (λ used r. binds_sized (lowers.in_turn es r) (code_of.outputs program node.place (out.Format (map chunk_of format)) r) (in_turn_sized ms es all r) (λ first. refl))

  pub call_does : (calls : Calls) (node : Node) (f : ℕ) (ms : List Meaning) (es : List Lowered) → CallFollows code deep count program calls node f → AllDo ms es
      → Does code deep count (calling.call calls node f ms) (code_of.call program node f es)
  unfolding calling.call code_of.call
  call_does calls node f ms es follows all = only_value_does code deep count node (λ used. means.in_turn ms >>= calls f node.place)
      (λ used r. lowers.in_turn es r >>> code_of.calls_with program node f used r)
      (λ used r low. binds code deep count r Always (means.in_turn ms) (lowers.in_turn es r) (λ os args new. AllSame count r new os args) (calls f node.place)
      (code_of.calls_with program node f used r) (λ v b new. IfUsed used count r v b new) (in_turn_sized ms es all r) (in_turn_follows ms es all r low)
      (λ os. follows used r low os (lowers.in_turn es r).gives))
      (λ used r. binds_sized (lowers.in_turn es r) (code_of.calls_with program node f used r) (in_turn_sized ms es all r) (λ first. refl))
