use Rattle.std.proofs.Common.{◌≡◌, ◌+◌, ◌/◌, ◌%◌, ◌++◌, ◌∙◌, ap, sym}
use Rattle.k_gen.specs.Draw.{next}
use Rattle.k_gen.specs.Text.{line_of}
use Rattle.k_gen.proofs.Draws.{loop_lines-next, loop_lines-none, state-two, state-zero}
use Rattle.k_gen.proofs.text.generate.Goals as goal

pub loop-k-init : goal.loop-k-init
loop-k-init c = (
  c.seed-state.ensures.value ∙ sym (state-zero c.args.number),
  c.seed-state.ensures.below,
  c.in_ok-text.ensures.items ∙ c.as_bytes.ensures.value ∙ c.head.ensures ∙ loop_lines-none c.args.number,
)

pub loop-k-preserved : goal.loop-k-preserved
loop-k-preserved c =
    let (at, below, so_far) = c.loop-k.invariant in
    let x = c.loop-k.state in
    let text = c.loop-k.text.items in
    let first : c.next-first.result ≡ next x = c.next-first.ensures.value in
    let second : c.next-state.result ≡ next (next x) = c.next-state.ensures.value ∙ ap next first in
    let form : c.drawn.result ≡ next x / 65536 = c.drawn.ensures ∙ ap (λ n. n / 65536) first in
    let number : c.drawn-in-loop-k.result ≡ next (next x) / 65536 = c.drawn-in-loop-k.ensures ∙ ap (λ n. n / 65536) second in (
      second ∙ state-two c.args.number c.loop-k.k x at,
      c.next-state.ensures.below,
      c.in_ok-push_loop.ensures ∙ (λ i. text ++ line_of (form i % 3) (1 + number i % 9)) ∙ loop_lines-next c.args.number c.loop-k.k x at text so_far,
    )
