use Rattle.std.proofs.Common.{drop}
use Rattle.k_num.specs.declared.place.Place.{Place}
use Rattle.k_lower_code.specs.Declarations.{declares_all}
use Rattle.k_lower_expressions.specs.Arounds.{inside_of}
use Rattle.k_lower_statements.specs.Sites.{objects_at, site_of}
use Rattle.k_lower_statements.proofs.Left.{IsLeft}
use Rattle.k_lower_statements.proofs.declaration.declare_all.Given as goal

abbrev pub invariant-loop-d : goal.invariant-loop-d
invariant-loop-d l =
    (place : Place) → IsLeft (objects_at (site_of l.here) (declares_all (inside_of l.around) place (drop l.d-index l.d-items))) (objects_at (site_of l.fn.site) (declares_all (inside_of l.around) place l.list)) l.fn.out.items l.out.items
