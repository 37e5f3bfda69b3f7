use Rattle.std.proofs.Common.{ℕ, ◌≡◌, ◌<◌, length, None, arith, sym, rules, ◌∙◌}
use Rattle.std.proofs.lemmas.List.{ext_get_or}
use Rattle.k_mem.specs.Calls.{with_values}
use Rattle.k_mem.proofs.Numbers.{length_with_values}
use Rattle.k_mem.proofs.Values.{get_or-with_values}
use Rattle.k_mem.proofs.cells.set_cells.Goals as goal

-- all cells were set
pub returns : goal.returns
returns c =
    let long : length c.loop-at.cells ≡ length c.args.cells.now = search rules in
    let same = length_with_values c.args.values.now c.args.cells.now in
    ext_get_or None c.loop-at.cells (with_values c.args.values.now c.args.cells.now) (long ∙ sym same) (λ i below.
    c.loop-at.invariant i (omega (arith, long)) ∙ sym (get_or-with_values c.args.values.now c.args.cells.now i (omega (arith, long))))
