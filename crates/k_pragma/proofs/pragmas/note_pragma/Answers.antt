use Rattle.std.proofs.Common.{◌≡◌, ◌++◌, ◌∙◌, ℕ, List, OnOk, subst}
use Rattle.k_pragma.specs.declared.pragmas.Pragma.{Pragma}
use Rattle.k_pragma.specs.Marked.{is_ready, pragma_if, region_of_loop}
use Rattle.k_pragma.proofs.pragmas.note_pragma.Goals as goal

pub returns : goal.returns
returns c =
    let region : c.region_of-region.result ≡ region_of_loop c.args.number c.args.at.number = c.region_of-region.ensures in
    let is = λ (r : ℕ).
    is_ready c.args.among.now c.args.counted.now c.args.bare.now c.args.names.now r c.args.variables.now c.args.text.now.occurs.items c.args.text.now.setters.items c.args.at in
    let ready : c.in_ok-ready.ready ≡ is c.region_of-region.result = c.in_ok-ready.ensures in
    let occurs : c.as_slice-occurs.result.now ≡ c.args.text.now.occurs.items = c.as_slice-occurs.ensures.value in
    subst (λ (line : List Pragma). OnOk c.note_if.result (c.note_if.new.pragmas.items ≡ c.args.pragmas.now.items ++ line))
    ((λ i. pragma_if (ready i) c.region_of-region.result c.args.names.now (occurs i) c.args.at c.args.variables.now)
    ∙ (λ i. pragma_if (is (region i)) (region i) c.args.names.now c.args.text.now.occurs.items c.args.at c.args.variables.now))
    c.note_if.ensures
