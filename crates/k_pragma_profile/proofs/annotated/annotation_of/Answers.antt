use Rattle.std.proofs.Common.{◌≤◌, List, length, subst, arith}
use Rattle.std.proofs.lemmas.Result.{IfOk-weaker}
use Rattle.k_optab.specs.declared.node.Node.{Node}
use Rattle.k_selfpar.specs.Rows.{AreRows}
use Rattle.k_report_profile.proofs.Reported.{at_root}
use Rattle.k_pragma_profile.proofs.annotated.annotation_of.Goals as goal

pub rows-requires-clause-root : goal.rows-requires-clause-root
rows-requires-clause-root c =
    let count = c.len-root.ensures.count in let some : 1 ≤ length c.args.saved.now.dict = c.requires.saved.profile.some in omega arith

pub rows-requires-clause-profile : goal.rows-requires-clause-profile
rows-requires-clause-profile c = c.requires.saved.profile

pub returns : goal.returns
returns c =
    let P : List Node → Type 0 = λ l. AreRows l c.in_ok-rows.rows in
    IfOk-weaker c.annotate.result _ _
    (λ text is. record {
      rows = c.in_ok-rows.rows;
      picked = c.in_ok-picked.picked;
      are_rows = subst P (at_root c.args.saved.now c.len-root.result c.len-root.ensures.count) c.in_ok-rows.ensures.rows;
      are_picked = c.in_ok-picked.ensures;
      written = is.0;
      reads = is.1;
      is = is.2;
    })
    c.annotate.ensures
