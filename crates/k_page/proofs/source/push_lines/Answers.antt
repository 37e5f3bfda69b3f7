use Rattle.std.proofs.Common.{◌≡◌, ◌∙◌, ◌+◌, ◌<◌, ◌++◌, ℕ, List, take, drop, length, ap, arith}
use Rattle.std.proofs.lemmas.Grind.{common_steps}
use Rattle.k_optab.specs.declared.region.Region.{Region}
use Rattle.k_plan.specs.declared.advice.Pick.{Pick}
use Rattle.k_selfpar.specs.declared.context.Context.{Context}
use Rattle.k_selfpar.specs.declared.row.Row.{Row}
use Rattle.k_page.specs.Source.{count_to, line_row, line_rows, line_span, lines}
use Rattle.k_page.proofs.Lines.{behind_shorter, line_written}
use Rattle.k_page.proofs.source.push_lines.Goals as goal

pub loop-later-preserved : goal.loop-later-preserved
loop-later-preserved c =
    let regions : List Region = c.args.regions.now in
    let contexts : List Context = c.args.contexts.now in
    let picks : List Pick = c.args.picks.now in
    let whole : ℕ = c.args.whole in
    let n : ℕ = c.loop-later.number in
    let rows : List Row = c.loop-later.later.now in
    let rest : List ℕ = c.loop-later.rest.now in
    let some : 0 < length rest = grind (arith, common_steps) in
    let front_is : c.rows_front.result.now ≡ take (count_to regions n rows) rows =
    c.rows_front.ensures ∙ ap (λ k. take k rows) c.count_to-count.ensures.found in
    let later_is : c.rows_behind-later.result.now ≡ drop (count_to regions n rows) rows =
    c.rows_behind-later.ensures ∙ ap (λ k. drop k rows) c.count_to-count.ensures.found in
    let line_is : c.front-line.result.now ≡ take (line_span rest) rest = c.front-line.ensures ∙ ap (λ k. take k rest) c.line_span.ensures.found in
    let text_is : c.push_line.new.text.items
    ≡ c.loop-later.text.items ++ line_row regions contexts picks whole n (take (count_to regions n rows) rows) (take (line_span rest) rest) =
    c.in_ok-push_line.ensures ∙ (λ i. c.loop-later.text.items ++ line_row regions contexts picks whole n (front_is i) (line_is i)) in
    let shorter = behind_shorter rest some in
    let size : length c.behind_line-rest.result.now ≡ _ = ap length c.behind_line-rest.ensures in
    let few = c.loop-later.invariant.few in
    record {
      few = omega arith;
      left = (λ i. text_is i ++ line_rows regions contexts picks whole (n + 1) (later_is i) (lines (c.behind_line-rest.ensures i)))
          ∙ line_written regions contexts picks whole n rows rest c.loop-later.text.items _ some c.loop-later.invariant.left;
    }
