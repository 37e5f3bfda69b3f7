use Rattle.std.proofs.Common.{inl, refl, sym, ◌∙◌}
use Rattle.k_carry_storage_pairs.proofs.Firsting.{one_behind}
use Rattle.k_carry_storage_pairs.proofs.firsts.note.Goals as goal

pub returns-then-is_some : goal.returns-then-is_some
returns-then-is_some c = inl (
  refl,
  one_behind c.args.starts.now c.args.origins.now.items c.as_slice.result.now c.highest.result c.least_from.result c.as_slice.ensures.value c.highest.ensures c.least_from.ensures
      (sym c.is_some.ensures ∙ c.if-is_some.true),
)
