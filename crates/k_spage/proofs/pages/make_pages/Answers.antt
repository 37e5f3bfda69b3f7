use Rattle.std.proofs.Common.{◌≡◌, ℕ, ◌<◌, ◌≤◌, ◌∙◌, subst, arith, ⊎_elim}
use Rattle.std.proofs.lemmas.Bool.{cases_lt}
use Rattle.k_spage.specs.Pages.{HasRowsFor}
use Rattle.k_spage.proofs.pages.make_pages.Goals as goal

pub loop-page-preserved : goal.loop-page-preserved
loop-page-preserved c =
    let e = c.make_page.ensures in
    let so_far = c.loop-page.invariant in
    let page = c.loop-page.page in
    let P : ℕ → Type 0 = λ p. HasRowsFor c.make_page.new.pages.slots c.make_page.new.table.items c.args.depth c.args.most p in
    record {
      pages = e.pages;
      same = λ loc. e.same loc ∙ so_far.same loc;
      kept = λ p there. e.kept p (so_far.kept p there);
      wider = λ p. omega (arith, e.wider p, so_far.wider p);
      greater = λ p. omega (arith, e.greater p, so_far.greater p);
      others = λ p out. e.others p (λ here. out c.if-first-end.true (omega (arith, here)) (omega (arith, here))) ∙ so_far.others p out;
      made = λ p low lt. ⊎_elim
          (λ (before : p < page). let m = so_far.made p low before in (e.kept p m.0, omega (arith, e.wider p, m.1), omega (arith, e.greater p, m.2)))
          (λ (ge : page ≤ p). let here : page ≡ p = omega arith in subst P here c.in_ok-make_page.ensures.ok)
          (cases_lt p page);
    }
