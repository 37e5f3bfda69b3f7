-- Bytes are handed on piece by piece.
use Rattle.std.proofs.Common.{◌≡◌, ℕ, ◌+◌, ◌<◌, ◌≤◌, List, [], ◌++◌, length, Ok, refl, sym, ◌∙◌, ap, subst, arith}
use Rattle.std.proofs.lemmas.List.{append-nil, append_assoc, length-append}
use Rattle.k_edge.specs.Fault.{Rose}
use Rattle.k_edge.specs.SinkWords.{SinkState, GrowsInPart}
use Rattle.k_hcpa.specs.Outflows.{AreMoved, HandsOn, KeepsLast, WasCut}
use Rattle.k_hcpa.specs.Profiles.{AreWholePieces}
use Rattle.k_hcpa.specs.declared.output.Outflow.{Outflow}
use Rattle.k_hcpa.specs.declared.profile.RunFault.{RunFault}
use Rattle.k_hcpa.specs.declared.profile.RunFault.TheVariants as fault
use Rattle.k_hcpa.proofs.Empty.{first_none, long_some, second_none}
use Rattle.k_hcpa.proofs.Growing.{grows_in_second, grows_no_part, grows_nothing, grows_twice, part_of_longer}
use Rattle.k_hcpa.proofs.Pieces.{no_pieces, one_piece, pieces_twice}

-- a part of the bytes was handed on, in whole pieces, and this rest was not yet
pub record IsPassing (old : Outflow) (bytes rest : List ℕ) (now : Outflow) (before at : SinkState) : Type 0 where
  pub gone : List ℕ
  pub cut : bytes ≡ gone ++ rest
  pub moved : AreMoved old gone now before at
  pub pieces : AreWholePieces moved.piece
  pub short : length now.held.items ≤ 65536
  pub last : KeepsLast old moved.piece (now.held.items ++ rest)

abbrev pub none_moved : (old : Outflow) (at : SinkState) → AreMoved old [] old at at
none_moved old at = record {
  piece = [];
  grows = grows_nothing at.written;
  faults = refl;
  whole = sym (append-nil old.held.items);
  counted = omega arith;
}

pub none_passed : (old : Outflow) (bytes : List ℕ) (at : SinkState) → length old.held.items ≤ 65536 → IsPassing old bytes bytes old at at
none_passed old bytes at short =
    record {
      gone = [];
      cut = refl;
      moved = none_moved old at;
      pieces = no_pieces;
      short = short;
      last = λ none. (refl, first_none old.held.items bytes none);
    }

-- what is moved behind what was moved
abbrev moved_twice : (old mid new : Outflow) (first second : List ℕ) (before at behind : SinkState) → AreMoved old first mid before at → AreMoved mid second new at behind
    → AreMoved old (first ++ second) new before behind
moved_twice old mid new first second before at behind one two =
    let long : length (one.piece ++ two.piece) ≡ length one.piece + length two.piece = length-append one.piece two.piece in
    let put : mid.put ≡ old.put + length one.piece = one.counted in
    let put_then : new.put ≡ mid.put + length two.piece = two.counted in
    record {
      piece = one.piece ++ two.piece;
      grows = grows_twice before.written at.written behind.written one.piece two.piece one.grows two.grows;
      faults = two.faults ∙ one.faults;
      whole =
          append_assoc one.piece two.piece new.held.items
          ∙ (ap (λ (l : List ℕ). one.piece ++ l) two.whole
          ∙ (sym (append_assoc one.piece mid.held.items second)
          ∙ (ap (λ (l : List ℕ). l ++ second) one.whole ∙ append_assoc old.held.items first second)));
      counted = omega (arith, long, put, put_then);
    }

-- what was cut short behind what was moved
pub cut_behind : (why : RunFault) (old mid : Outflow) (first second : List ℕ) (before at behind : SinkState) → AreMoved old first mid before at
    → WasCut why (mid.held.items ++ second) at behind → WasCut why (old.held.items ++ (first ++ second)) before behind
cut_behind why old mid first second before at behind one cut = by why cut
  where
    same : one.piece ++ (mid.held.items ++ second) ≡ old.held.items ++ (first ++ second)
    same =
        sym (append_assoc one.piece mid.held.items second)
        ∙ (ap (λ (l : List ℕ). l ++ second) one.whole ∙ append_assoc old.held.items first second)

    part : GrowsInPart at.written (mid.held.items ++ second) behind.written → GrowsInPart before.written (old.held.items ++ (first ++ second)) behind.written
    part grown =
        subst (λ (l : List ℕ). GrowsInPart before.written l behind.written) same
        (grows_in_second before.written at.written behind.written one.piece (mid.held.items ++ second) one.grows grown)

    by : (w : RunFault) → WasCut w (mid.held.items ++ second) at behind → WasCut w (old.held.items ++ (first ++ second)) before behind
    by fault.Write (some, grown, rose) =
        (λ none. some (second_none one.piece (mid.held.items ++ second) (same ∙ none)), part grown, subst (λ n. Rose n behind.faults) one.faults rose)
    by fault.Memory (grown, unchanged) = (part grown, unchanged ∙ one.faults)

-- and before others
pub cut_longer : (why : RunFault) (bytes more : List ℕ) (before behind : SinkState) → WasCut why bytes before behind → WasCut why (bytes ++ more) before behind
cut_longer fault.Write bytes more before behind (some, grown, rose) =
    (λ none. some (first_none bytes more none), part_of_longer before.written behind.written bytes more grown, rose)
cut_longer fault.Memory bytes more before behind (grown, same) = (part_of_longer before.written behind.written bytes more grown, same)

-- what fills a piece is put as one
filled_piece : (old new : Outflow) (bytes : List ℕ) (before behind : SinkState) (moved : AreMoved old bytes new before behind) → new.held.items ≡ []
    → length old.held.items + length bytes ≡ 65536 → AreWholePieces moved.piece
filled_piece old new bytes before behind moved none full =
    let empty : length new.held.items ≡ 0 = ap (λ (l : List ℕ). length l) none in
    let put : length (moved.piece ++ new.held.items) ≡ length moved.piece + length new.held.items = length-append moved.piece new.held.items in
    let all : length (old.held.items ++ bytes) ≡ length old.held.items + length bytes = length-append old.held.items bytes in
    let same : length (moved.piece ++ new.held.items) ≡ length (old.held.items ++ bytes) = ap (λ (l : List ℕ). length l) moved.whole in
    one_piece moved.piece (omega (arith, empty, put, all, same, full))

-- a front of the rest that fills a piece was handed on
pub passing_on : (old : Outflow) (bytes rest front later : List ℕ) (mid new : Outflow) (before at behind : SinkState) → IsPassing old bytes rest mid before at
    → rest ≡ front ++ later → 0 < length later → length mid.held.items + length front ≡ 65536 → AreMoved mid front new at behind → new.held.items ≡ []
    → IsPassing old bytes later new before behind
passing_on old bytes rest front later mid new before at behind passing cut more full moved none =
    let empty : length new.held.items ≡ 0 = ap (λ (l : List ℕ). length l) none in
    record {
      gone = passing.gone ++ front;
      cut = passing.cut ∙ (ap (λ (l : List ℕ). passing.gone ++ l) cut ∙ sym (append_assoc passing.gone front later));
      moved = moved_twice old mid new passing.gone front before at behind passing.moved moved;
      pieces = pieces_twice passing.moved.piece moved.piece passing.pieces (filled_piece mid new front at behind moved none full);
      short = omega (arith, empty);
      last = λ nothing. absurd (long_some later more (second_none new.held.items later nothing));
    }

-- or was cut short
pub cut_passing : (why : RunFault) (old : Outflow) (bytes rest front later : List ℕ) (mid : Outflow) (before at behind : SinkState) → IsPassing old bytes rest mid before at
    → rest ≡ front ++ later → WasCut why (mid.held.items ++ front) at behind → WasCut why (old.held.items ++ bytes) before behind
cut_passing why old bytes rest front later mid before at behind passing cut short =
    let all : bytes ≡ (passing.gone ++ front) ++ later = passing.cut ∙ (ap (λ (l : List ℕ). passing.gone ++ l) cut ∙ sym (append_assoc passing.gone front later)) in
    let whole : (old.held.items ++ (passing.gone ++ front)) ++ later ≡ old.held.items ++ bytes =
    append_assoc old.held.items (passing.gone ++ front) later ∙ ap (λ (l : List ℕ). old.held.items ++ l) (sym all) in
    subst (λ (l : List ℕ). WasCut why l before behind) whole
    (cut_longer why (old.held.items ++ (passing.gone ++ front)) later before behind
    (cut_behind why old mid passing.gone front before at behind passing.moved short))

-- no memory was found for the rest
pub none_for_rest : (old : Outflow) (bytes rest : List ℕ) (mid : Outflow) (before at : SinkState) → IsPassing old bytes rest mid before at
    → WasCut fault.Memory (old.held.items ++ bytes) before at
none_for_rest old bytes rest mid before at passing =
    cut_passing fault.Memory old bytes rest [] rest mid before at at passing refl (grows_no_part at.written (mid.held.items ++ []), refl)

-- the rest is held
pub rest_held : (old : Outflow) (bytes rest : List ℕ) (mid new : Outflow) (before at : SinkState) → IsPassing old bytes rest mid before at
    → new.put ≡ mid.put → new.held.items ≡ mid.held.items ++ rest → length (mid.held.items ++ rest) ≤ 65536 → HandsOn old bytes (Ok tt) new before at
rest_held old bytes rest mid new before at passing put held short = (
  record {
    piece = passing.moved.piece;
    grows = passing.moved.grows;
    faults = passing.moved.faults;
    whole =
        ap (λ (l : List ℕ). passing.moved.piece ++ l) held
        ∙ (sym (append_assoc passing.moved.piece mid.held.items rest)
        ∙ (ap (λ (l : List ℕ). l ++ rest) passing.moved.whole
        ∙ (append_assoc old.held.items passing.gone rest ∙ ap (λ (l : List ℕ). old.held.items ++ l) (sym passing.cut))));
    counted = put ∙ passing.moved.counted;
  },
  subst (λ (l : List ℕ). length l ≤ 65536) (sym held) short,
  λ none. passing.last (sym held ∙ none),
  passing.pieces,
)
