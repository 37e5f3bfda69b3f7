use Rattle.std.proofs.Common.{ℤ, refl, rules, sym, subst}
use Rattle.std.specs.Prelude.{FitsSigned}
use Rattle.std.specs.Int.{w32}
use Rattle.std.proofs.lemmas.Int.{to_z-of_z}
use Rattle.k_ending.specs.declared.ending.End.{End}
use Rattle.k_replay_run.specs.Replayed.{TextBehind, TextOfRecord}
use Rattle.k_replay_run.proofs.replay.replayed.Goals as goal

pub returns-in_ok-text-in-Returned : goal.returns-in_ok-text-in-Returned
returns-in_ok-text-in-Returned c =
    let fits : FitsSigned w32 c.in-Returned.exit = search rules in
    record {
      end = refl;
      text = subst (λ (end : End). TextBehind c.args.seed c.args.workers c.args.tape.now end c.in_ok-text-in-Returned.text) (sym c.in-Returned.is)
          (subst (λ (z : ℤ). TextOfRecord c.args.seed c.args.workers c.args.tape.now z c.in_ok-text-in-Returned.text) (to_z-of_z w32 c.in-Returned.exit fits)
          c.in_ok-text-in-Returned.ensures);
    }
