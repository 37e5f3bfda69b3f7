use Rattle.std.proofs.Common.{ap, ◌∙◌}
use Rattle.std.specs.Prelude.{◌==◌, ◌-◌, ◌/◌, ◌%◌, ◌^◌}
use Rattle.k_real.specs.Digits.{value, up_by}
use Rattle.k_real.proofs.RoundingLaws.{up_is, taken_value}
use Rattle.k_real.proofs.digits.rounds_up.Goals as goal

pub returns : goal.returns
returns c =
    let w = value c.args.xs.now in
    let many = c.args.many in
    c.is_more.ensures
    ∙ ap (λ t. up_by t c.is_zero.result c.digit_at-2.result) c.digit_at.ensures.value
    ∙ ap (λ e. up_by (w / 10 ^ (many - 1) % 10) e c.digit_at-2.result) (c.is_zero.ensures ∙ ap (λ v. v == 0) (taken_value (many - 1) c.args.xs.now c.requires.digits))
    ∙ ap (up_by (w / 10 ^ (many - 1) % 10) (w % 10 ^ (many - 1) == 0)) c.digit_at-2.ensures.value
    ∙ up_is w many c.requires.some
