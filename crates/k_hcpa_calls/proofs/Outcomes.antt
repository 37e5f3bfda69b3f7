-- Runs that are equal go on in one configuration, or are over in one world with one end.
use Rattle.std.proofs.Common.{◌≡◌}
use Rattle.k_ending.specs.declared.ending.End.{End}
use Rattle.k_world.specs.Worlds.{World}
use Rattle.k_code.specs.Steps.{Configuration, Going, Over}

pub same_going : (c d : Configuration) → Going c ≡ Going d → c ≡ d
same_going c d is = cc

pub same_over : (e f : End) (v w : World) → Over e v ≡ Over f w → v ≡ w
same_over e f v w is = cc

pub same_end : (e f : End) (v w : World) → Over e v ≡ Over f w → e ≡ f
same_end e f v w is = cc

pub apart : (e : End) (w : World) (c : Configuration) → Over e w ≡ Going c → ⊥
apart e w c is = cc
