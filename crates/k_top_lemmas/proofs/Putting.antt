-- Bytes that are put one part behind the other, and bytes that are put in part.
use Rattle.std.proofs.Common.{ℕ, ◌≡◌, ◌∙◌, refl, subst, List, [], ◌∷◌, ◌++◌, Ok, Err}
use Rattle.k_edge.specs.Fault.{Rose}
use Rattle.k_edge.specs.SinkWords.{SinkState}
use Rattle.k_edge.specs.declared.sink.PutFault.{PutFault}
use Rattle.k_edge.specs.declared.sink.PutFault.TheVariants as put
use Rattle.k_top_lemmas.specs.Parts.{PutsAll}
use Rattle.k_top_lemmas.specs.Streams.{IsCounted}
use Rattle.k_top_lemmas.proofs.Growing.{grows_in_part, grows_twice, part_of_first, part_of_second, second_empty}

-- TWO PARTS are put one behind the other
pub both_put : (first rest : List ℕ) (old mid new : SinkState) → PutsAll (Ok tt) first old mid → PutsAll (Ok tt) rest mid new → PutsAll (Ok tt) (first ++ rest) old new
both_put first rest old mid new (grows, calm) (on, still) = (grows_twice old.written mid.written new.written first rest grows on, still ∙ calm)

pub second_cut : (first rest : List ℕ) (old mid new : SinkState) (fault : PutFault) → PutsAll (Ok tt) first old mid → PutsAll (Err fault) rest mid new
    → PutsAll (Err fault) (first ++ rest) old new
second_cut first rest old mid new put.Failed (grows, calm) (some, part, rose) = (
  (λ none. some (second_empty first rest none)),
  part_of_second old.written mid.written new.written first rest grows part,
  subst (λ n. Rose n new.faults) calm rose,
)
second_cut first rest old mid new put.Memory (grows, calm) (part, still) =
    (part_of_second old.written mid.written new.written first rest grows part, still ∙ calm)

-- what was put in part of some bytes was put in part of more
pub more_cut : (bytes more : List ℕ) (old new : SinkState) (fault : PutFault) → PutsAll (Err fault) bytes old new → PutsAll (Err fault) (bytes ++ more) old new
more_cut bytes more old new put.Failed (some, part, rose) = ((λ none. some (first_empty bytes more none)), part_of_first old.written new.written bytes more part, rose)
  where
    first_empty : (first second : List ℕ) → first ++ second ≡ [] → first ≡ []
    first_empty [] second is = refl
    first_empty (byte ∷ first) second is = cc
more_cut bytes more old new put.Memory (part, calm) = (part_of_first old.written new.written bytes more part, calm)

-- no memory was found behind the first part
pub cut_behind : (first rest : List ℕ) (old mid : SinkState) → PutsAll (Ok tt) first old mid → PutsAll (Err put.Memory) (first ++ rest) old mid
cut_behind first rest old mid (grows, calm) = (part_of_first old.written mid.written first rest (grows_in_part old.written first mid.written grows), calm)

-- what it leaves of the count of faults
pub counted : (bytes : List ℕ) (old new : SinkState) (fault : PutFault) → PutsAll (Err fault) bytes old new → IsCounted fault old new
counted bytes old new put.Failed (some, part, rose) = rose
counted bytes old new put.Memory (part, calm) = calm
