use Rattle.k_replay.proofs.Noted.{notes_pushed}
use Rattle.k_replay.proofs.users.note_one.Goals as goal

pub returns-in_ok-push : goal.returns-in_ok-push
returns-in_ok-push c =
    notes_pushed c.args.users.now.items c.args.operand.now c.in-From.j c.args.k c.index_mut-list.result.now c.push.new.self c.in-From.is c.requires.earlier
    c.requires.within c.index_mut-list.ensures.value c.in_ok-push.ensures.ok
