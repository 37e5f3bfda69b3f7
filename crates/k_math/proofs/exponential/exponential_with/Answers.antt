use Rattle.std.proofs.Common.{ap, ◌∙◌}
use Rattle.std.proofs.lemmas.Int.{to_z-of_z}
use Rattle.std.specs.Int.{w32}
use Rattle.std.specs.Prelude.{drop}
use Rattle.k_math.specs.declared.tables.TheConstants.{FACTORIALS}
use Rattle.k_math.specs.Series.{series_of}
use Rattle.k_math.specs.Exponential.{exponential_by}
use Rattle.k_math.proofs.ScaledLaws.{same_parts}
use Rattle.k_math.proofs.exponential.exponential_with.Goals as goal

pub returns : goal.returns
unfolding exponential_by
returns c =
    let k = c.saturating_f64_to_i32.result in
    c.scaled_by.ensures
    ∙ same_parts (c.series_behind.ensures ∙ ap (λ z. series_of z (drop 2 FACTORIALS)) c.reduced.ensures)
    (to_z-of_z w32 k (record { sfits = c.saturating_f64_to_i32.type_inv }) ∙ c.saturating_f64_to_i32.ensures)
