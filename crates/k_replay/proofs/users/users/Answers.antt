use Rattle.std.proofs.Common.{◌≡◌, ◌<◌, All, length, arith, refl, sym, subst, List, slice_get, Some}
use Rattle.std.proofs.lemmas.Option.{slice_get_read}
use Rattle.k_replay_record.specs.declared.record.Operand.{Operand}
use Rattle.k_replay_record.specs.Records.{IsEarlier}
use Rattle.k_replay.specs.Kept.{Notes}
use Rattle.k_replay.proofs.Noted.{users_step, users_all, below_more}
use Rattle.k_replay_record.proofs.Serially.{earlier_at}
use Rattle.k_replay.proofs.users.users.Goals as goal

pub note-requires-clause-earlier : goal.note-requires-clause-earlier
note-requires-clause-earlier c =
    let h : c.loop-k.k < length c.args.steps.now = c.loop-k-test.true in
    let at : slice_get c.args.steps.now c.loop-k.k ≡ Some c.index-steps-k.result = slice_get_read c.args.steps.now (length c.args.steps.now) c.loop-k.k c.index-steps-k.result refl h c.index-steps-k.is in
    subst (λ (xs : List Operand). All (IsEarlier c.loop-k.k) xs) (sym c.as_slice.ensures)
    (earlier_at 0 c.args.steps.now c.requires c.loop-k.k c.loop-k.k c.index-steps-k.result at (omega arith))

pub loop-k-preserved : goal.loop-k-preserved
loop-k-preserved c =
    let noted : Notes c.loop-k.users.items c.note.new.users.items c.index-steps-k.result.operands c.loop-k.k
    = subst (λ (xs : List Operand). Notes c.loop-k.users.items c.note.new.users.items xs c.loop-k.k) c.as_slice.ensures c.in_ok-note.ensures in
    record {
      lists = grind (arith, noted.lengths);
      users = users_step c.loop-k.users.items c.note.new.users.items c.args.steps.now c.loop-k.k c.index-steps-k.result c.loop-k-test.true c.index-steps-k.is c.loop-k.invariant.users noted;
      named = below_more c.loop-k.users.items c.note.new.users.items c.index-steps-k.result.operands c.loop-k.k c.loop-k.invariant.named noted;
    }

pub returns-clause-users : goal.returns-clause-users
returns-clause-users c = users_all c.loop-k.users.items c.args.steps.now c.loop-k.k c.loop-k-test.false c.loop-k.invariant.users

pub returns-clause-named : goal.returns-clause-named
returns-clause-named c = λ j k n. let h = c.loop-k.invariant.named j k n in omega arith
