use Rattle.std.proofs.Common.{rules, ◌≡◌, ◌≤◌, sym, subst, ap, ◌∙◌, refl, lit≤}
use Rattle.k_shadow_rows.specs.Rows.{greatest, narrow_at, row_in, width}
use Rattle.k_shadow_rows.specs.declared.rows.Rows.{Rows}
use Rattle.k_shadow_rows.specs.declared.rows.Rows.TheVariants.{NarrowThirtyTwo}
use Rattle.k_shadow_rows.proofs.rows.Rows.enlarge.Goals as goal

pub returns-in_ok-wide-2 : goal.returns-in_ok-wide-2
returns-in_ok-wide-2 c =
    let is : c.args.self.now ≡ NarrowThirtyTwo c.in-NarrowThirtyTwo.rows = search rules in
    record {
      same = λ loc. c.in_ok-wide-2.ensures.ok.1 loc ∙ ap (λ rows. narrow_at {levels = 32} rows loc) c.deref-in-NarrowThirtyTwo.ensures.value ∙ ap (λ rows. row_in rows loc) (sym is);
      size = search rules;
      width = ap width (sym is);
      greater = subst (λ (r : Rows). greatest r ≤ 18446744073709551615) (sym is) (lit≤ tt);
      ok = refl;
    }
