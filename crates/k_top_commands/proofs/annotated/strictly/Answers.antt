use Rattle.std.proofs.Common.{◌∙◌}
use Rattle.k_pragma_profile.specs.Strict.{strictly_markable}
use Rattle.k_top_commands.proofs.annotated.strictly.Goals as goal

pub returns : goal.returns
returns c = (
  c.in_ok-told.told.pairs.loops,
  c.in_ok-told.ensures.storage,
  (
    c.in_ok-told.told.deep,
    c.in_ok-told.ensures.deep,
    c.unshared.ensures.loops ∙ (λ i. strictly_markable (c.as_slice-deep.ensures i) (c.as_slice.ensures i) c.args.found.loops),
  ),
)
