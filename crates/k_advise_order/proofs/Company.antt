-- What statements lead that stand alone, or beside others.
use Rattle.std.proofs.Common.{List, [], ◌++◌, Option, refl, ap}
use Rattle.k_wide_meaning.specs.declared.occurrences.Occurrence.{Occurrence}
use Rattle.k_wide_meaning.specs.Reductions.{kept_if}
use Rattle.k_advise_order.specs.Laws.{AloneIsFree, CompanyIsLed, OrderTells}
use Rattle.k_advise_order.specs.Order.{kept_scalar}

pub order_is_told : OrderTells
order_is_told = record { same = refl; twice = refl; once = refl }

pub alone : AloneIsFree
alone test action = refl

pub company : CompanyIsLed
company test action beside r os is = ap (λ (o : Option (List Occurrence)). kept_scalar o ++ (kept_scalar (kept_if test beside) ++ [])) is
