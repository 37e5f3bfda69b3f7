use Rattle.std.proofs.Common.{◌≡◌, ℕ, ◌-◌, List, length, take, drop, ap, sym, subst, ◌∙◌}
use Rattle.std.proofs.lemmas.List.{length-drop}
use Rattle.std.proofs.Math.Seq.{take-length}
use Rattle.k_edge.proofs.Handed.{HandedSoFar, handed_in_part, handed_kept, handed_more}
use Rattle.k_edge.proofs.host.streams.write_whole.Goals as goal
use Rattle.k_edge.proofs.host.streams.write_whole.Goals.{in-Ok, in-Err}

-- the slice from n on
part_is : (n : ℕ) (rest : List ℕ) → take (length rest - n) (drop n rest) ≡ drop n rest
part_is n rest = ap (λ (k : ℕ). take k (drop n rest)) (sym (length-drop n rest)) ∙ take-length (drop n rest)

-- the writer took nothing
pub returns-in-Ok-eq0 : goal.returns-in-Ok-eq0
returns-in-Ok-eq0 g c =
    let appended = rw c.in-Ok-eq0.is at c.write.ensures.bytes in
    handed_in_part _ _ _ _ (handed_more c.in-Ok-eq0.field-0 _ _ _ _ _ c.tries.invariant appended)

-- the write failed
pub returns-in-Err-2 : goal.returns-in-Err-2
returns-in-Err-2 g c = handed_in_part _ _ _ _ (handed_kept _ _ _ _ _ c.tries.invariant c.in-Err.ensures.bytes)

-- a part was written, or the write was interrupted
pub tries-preserved : goal.tries-preserved
tries-preserved g c = elim c.match-write.branch [
  | in-Ok w ↦
      let from = λ (rest : List ℕ). HandedSoFar c.args.piece.now rest (g.W.Write.contents c.args.writer.now) (g.W.Write.contents c.write.new.self) in
      rw w.rest-is (subst from (sym (part_is w.in-Ok.count c.tries.rest.now)) (handed_more w.in-Ok.count _ _ _ _ _ c.tries.invariant w.in-Ok.ensures.bytes))
  | in-Err w ↦ rw w.rest-is (handed_kept _ _ _ _ _ c.tries.invariant w.in-Err.ensures.bytes)
]

-- there were too many tries
pub returns : goal.returns
returns g c = handed_in_part _ _ _ _ c.tries.invariant
