-- What is taken by one read after another.
use Rattle.std.proofs.Common.{◌≡◌, ◌≢◌, ℕ, zero, suc, ◌≤◌, List, ◌++◌, length, take, drop, Option, Some, None, arith, refl, ap, sym, ◌∙◌, append_assoc}
use Rattle.std.proofs.lemmas.List.{length-append, length-take-le, take-append-drop}
use Rattle.k_edge.specs.SourceWords.{SourceState, Takes, ReadsBytes, ended_after}
use Rattle.k_edge.specs.ReadAll.{DrawsFrom, Draws}

-- n bytes taken behind these
taken_more : (n : ℕ) (old_buffer buffer bytes : List ℕ) (left mid new : Option (List ℕ)) → DrawsFrom left bytes mid
    → Takes n old_buffer buffer mid new → DrawsFrom left (bytes ++ take n buffer) new
taken_more n old_buffer buffer bytes None None new drawn takes = takes
taken_more n old_buffer buffer bytes None (Some rest) new drawn takes = absurd (cc)
taken_more n old_buffer buffer bytes (Some left) None new drawn takes = absurd (cc)
taken_more n old_buffer buffer bytes (Some left) (Some rest) new drawn takes =
    let rest_is : rest ≡ drawn.0 = cc in
    let halves : take n buffer ++ drop n rest ≡ rest = ap (λ (front : List ℕ). front ++ drop n rest) takes.first ∙ take-append-drop n rest in
    let split : left ≡ (bytes ++ take n buffer) ++ drop n rest =
    drawn.1 ∙ ap (λ (end : List ℕ). bytes ++ end) (sym rest_is ∙ sym halves) ∙ sym (append_assoc bytes (take n buffer) (drop n rest)) in
    (drop n rest, split, takes.rest)

-- a read behind others
pub draws_more : (n : ℕ) (old_buffer buffer bytes : List ℕ) (old mid new : SourceState) → Draws bytes old mid → n ≤ length buffer
    → ReadsBytes n old_buffer buffer mid new → Draws (bytes ++ take n buffer) old new
draws_more n old_buffer buffer bytes old mid new drawn within reads = record {
  left = taken_more n old_buffer buffer bytes old.left mid.left new.left drawn.left reads.takes;
  counted = omega (arith, drawn.counted, reads.counts, length-append bytes (take n buffer), length-take-le n buffer within);
}

-- a read of some bytes doesn't tell the end
pub not_ended : (count n size : ℕ) → n ≢ 0 → ended_after count n size ≡ count
not_ended count zero size some = absurd (some refl)
not_ended count (suc n) size some = refl
