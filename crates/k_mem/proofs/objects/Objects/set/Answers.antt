use Rattle.std.proofs.Common.{◌≡◌, length, vec_len, set, Ok, FitsSigned, rules, sym, ap, ◌∙◌}
use Rattle.std.specs.Int.{w128}
use Rattle.std.proofs.Math.ListN.{length-set}
use Rattle.std.proofs.lemmas.Int.{to_z-of_z}
use Rattle.k_mem.specs.Calls.{store_of}
use Rattle.k_mem.specs.Layout.{store_among}
use Rattle.k_mem.specs.Memory.{Memory}
use Rattle.k_mem.proofs.Answers.{store_answer}
use Rattle.k_mem.proofs.Views.{laid_out}
use Rattle.k_mem.proofs.Written.{written_within, memory_written}
use Rattle.k_mem.proofs.objects.Objects.set.Goals as goal

pub index_mut-requires : goal.index_mut-requires
index_mut-requires c =
    let cells : vec_len c.self.inside.cells ≡ length c.self.inside.cells.items = search rules in
    let answer : store_among c.self.inside.extents.items c.args.at ≡ Ok c.args.element =
    sym (store_answer _ _ c.self.inside.made c.self.invariant.fill c.args.at) ∙ ap (λ (m : Memory). store_of m c.args.at) c.self.view_is ∙ c.requires in
    rw cells (written_within _ _ c.self.inside.made c.self.invariant c.args.at _ answer)

pub returns-clause-written : goal.returns-clause-written
returns-clause-written c =
    let fits : FitsSigned w128 c.args.v = c.ranges.v in
    let answer : store_among c.self.inside.extents.items c.args.at ≡ Ok c.args.element =
    sym (store_answer _ _ c.self.inside.made c.self.invariant.fill c.args.at) ∙ ap (λ (m : Memory). store_of m c.args.at) c.self.view_is ∙ c.requires in
    rw (to_z-of_z w128 c.args.v fits, ← c.self.view_is) (memory_written _ _ c.self.inside.made c.self.invariant c.args.at _ answer c.args.v)

pub returns-clause-laid_out : goal.returns-clause-laid_out
returns-clause-laid_out c =
    laid_out c.self.inside.extents.items (set c.self.inside.cells.items c.args.element _) c.self.inside.made (rw length-set c.self.invariant)
