-- What a turn tells.
use Rattle.std.proofs.Common.{ℕ, ◌+◌, Option, Some, None, Ok, sym, subst}
use Rattle.k_ending.specs.declared.ending.End.{End}
use Rattle.k_code.specs.declared.instruction.Do.{Do}
use Rattle.k_hcpa_standing.specs.Standing.{Setting}
use Rattle.k_hcpa_steps.specs.declared.turn.Turn.{Turn}
use Rattle.k_hcpa_steps.specs.declared.turn.Turn.TheVariants as turn
use Rattle.k_hcpa_steps.specs.Keeping.{ComesTo, GoesTo, IsTurn, Keeping, StopsAt}

-- a turn tells where the run stands
pub turns : (s : Setting) (count taken : ℕ) (old new : Keeping) (what : Do) (ended : Option End) (t : Turn) → IsTurn what ended t
    → GoesTo s count taken old (Ok ended) new → ComesTo s count taken old (Ok t) new
turns s count taken old new what None turn.Went is goes = goes
turns s count taken old new what None turn.Wrote is goes = goes
turns s count taken old new what None (turn.Ended end) is goes = absurd is
turns s count taken old new what (Some end) turn.Went is goes = absurd is
turns s count taken old new what (Some end) turn.Wrote is goes = absurd is
turns s count taken old new what (Some end) (turn.Ended told) is goes = subst (λ (e : End). StopsAt s (count + 1) taken e new) (sym is) goes
