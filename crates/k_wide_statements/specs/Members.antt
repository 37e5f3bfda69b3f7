-- For contracts between crates: nobody has to believe it.
-- What the statements behind a test do, one behind another: it is known whether an earlier one keeps the least or the greatest.
use Rattle.std.specs.Prelude.{Bool, if◌then◌else◌, List, unwrap_or}
use Rattle.k_types_meaning.specs.declared.tree.expression.TExpr.{TExpr}
use Rattle.k_wide_meaning.specs.declared.occurrences.Occurrence.{Occurrence}
use Rattle.k_wide_meaning.specs.Reductions.{kept_if}
use Rattle.k_wide_meaning.specs.Contents.{Member, members_occur, kept_among}

-- what a statement does
abbrev pub member_occurs : TExpr → Bool → Member → List Occurrence
member_occurs test kept m = if kept then m.occurs else unwrap_or (kept_if test m.action) m.occurs

-- what the statements from here on do
unfoldable pub rest_occurs : TExpr → Bool → List Member → List Occurrence
rest_occurs test kept ms = if kept then members_occur ms else unwrap_or (kept_among test ms) (members_occur ms)
