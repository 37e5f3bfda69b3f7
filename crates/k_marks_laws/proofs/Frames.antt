-- What runs leaves each variable that its text does not change.
use Rattle.k_evaluation.specs.Expressions.{eval}
use Rattle.k_evaluation.specs.Statements.{does}
use Rattle.k_evaluation.specs.Calls.{within, calls}
use Rattle.k_marks_laws.specs.Frames.{ExpressionsLeave, StatementsLeave, CallsLeave}
use Rattle.k_marks_laws.proofs.Parts.{leaves_of}
use Rattle.k_marks_laws.proofs.Evaluated.{eval_keeps}
use Rattle.k_marks_laws.proofs.Bodies.{calls_keep, does_keeps}

pub expressions_leave : ExpressionsLeave
expressions_leave program vs depth e n h used =
    leaves_of n ((eval program vs (calls depth program) e).value used) ((eval_keeps n program vs (calls depth program) (calls_keep n program depth) e h).0 used)

pub statements_leave : StatementsLeave
statements_leave program depth number f s n h =
    leaves_of n (does (within program (calls depth program) number f) s).does
    (does_keeps n (within program (calls depth program) number f) (calls_keep n program depth) s h)

pub calls_leave : CallsLeave
calls_leave program depth f place args n = leaves_of n (calls depth program f place args) (calls_keep n program depth f place args)
