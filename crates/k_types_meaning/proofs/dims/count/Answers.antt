use Rattle.std.proofs.Common.{◌≡◌, ℕ, ◌*◌, List, [], ◌∷◌, length, sym, ap, ◌∙◌, mul_assoc, arith, rules}
use Rattle.k_types_meaning.specs.Counts.{elements}
use Rattle.k_types_meaning.proofs.dims.count.Goals as goal

-- the product goes on with the next size
regroup : (total first : ℕ) (more rest : List ℕ) (next whole : ℕ) → total * elements rest ≡ whole → rest ≡ first ∷ more → next ≡ total * first → next * elements more ≡ whole
regroup total first more rest next whole so_far is product =
    ap (λ n. n * elements more) product
    ∙ (mul_assoc total first (elements more) ∙ (ap (λ r. total * elements r) (sym is) ∙ so_far))

-- the product is whole where no size is left
finished : (total : ℕ) (rest : List ℕ) (whole : ℕ) → total * elements rest ≡ whole → length rest ≡ 0 → total ≡ whole
finished total [] whole so_far none = omega arith
finished total (d ∷ ds) whole _ none = omega arith

pub loop-first-init : goal.loop-first-init
loop-first-init c = let e : 1 * elements c.args.dims.now ≡ elements c.args.dims.now = omega arith in e

pub loop-first-preserved : goal.loop-first-preserved
loop-first-preserved c =
    let product : c.in_ok-total.total ≡ c.loop-first.total * c.in-Some.first.now = first_of (search rules, grind arith, cc) in
    regroup c.loop-first.total c.in-Some.first.now c.in-Some.more.now c.loop-first.rest.now c.in_ok-total.total (elements c.args.dims.now) c.loop-first.invariant c.in-Some.ensures.cases.0 product

pub returns : goal.returns
returns c =
    let none : length c.loop-first.rest.now ≡ 0 = first_of (search rules, grind arith, omega arith) in
    finished c.loop-first.total c.loop-first.rest.now (elements c.args.dims.now) c.loop-first.invariant none
