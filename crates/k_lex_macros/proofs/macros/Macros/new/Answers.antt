use Rattle.std.proofs.Common.{List, sym, subst, map, ap}
use Rattle.k_lex_macros.specs.declared.macros.Definition.{Definition}
use Rattle.k_lex_macros.specs.Macros.{fulls}
use Rattle.k_lex_macros.specs.Table.{macro, bodies, EachPlan}
use Rattle.k_lex_macros.proofs.macros.Macros.new.Goals as goal

pub returns-clause-empty : goal.returns-clause-empty
returns-clause-empty c = ap (map macro) c.new.ensures.items

pub returns-clause-planned : goal.returns-clause-planned
unfolding fulls
returns-clause-planned c = (let P : List Definition → Type 0 = λ t. EachPlan (bodies (map macro t)) (fulls (map macro t)) t t (fulls (map macro t)) in subst P (sym c.new.ensures.items) tt)
