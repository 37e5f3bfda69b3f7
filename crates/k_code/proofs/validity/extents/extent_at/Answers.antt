use Rattle.k_code.proofs.Marking.{marks_long, marked_is}
use Rattle.k_code.proofs.validity.extents.extent_at.Goals as goal

pub is_marked-requires : goal.is_marked-requires
is_marked-requires c = marks_long c.args.code.now c.args.marks.now c.requires.marks c.args.entry c.requires.entry

pub returns-then-is_marked : goal.returns-then-is_marked
returns-then-is_marked c = (
  marked_is c.args.code.now c.args.marks.now c.args.entry _ c.requires.marks c.requires.entry c.if-is_marked.ensures,
  c.extent_from.ensures,
)

pub returns : goal.returns
returns c = marked_is c.args.code.now c.args.marks.now c.args.entry _ c.requires.marks c.requires.entry c.if-is_marked.ensures
