-- Jumps of several parts may be put together in any grouping.
use Rattle.std.proofs.Common.{◌≡◌, Bool, true, false, refl}
use Rattle.std.specs.Prelude.{◌||◌}
use Rattle.k_marks_meaning.specs.declared.jumps.Jumps.{Jumps}
use Rattle.k_marks_meaning.specs.Jumps.{jumps_of_both}

-- `||` in another grouping
pub or_again : (a b c : Bool) → ((a || b) || c) ≡ (a || (b || c))
or_again true b c = refl
or_again false b c = refl

-- the same of jumps
pub both_again : (a b c : Jumps) → jumps_of_both (jumps_of_both a b) c ≡ jumps_of_both a (jumps_of_both b c)
both_again a b c = λ i. record {
  breaks = or_again a.breaks b.breaks c.breaks i;
  continues = or_again a.continues b.continues c.continues i;
  returns = or_again a.returns b.returns c.returns i;
}
