-- What a string's text stands for, one character or escape after another.
use Rattle.std.proofs.Common.{◌≡◌, ℕ, zero, suc, ◌-◌, ◌≤◌, List, [], ◌∷◌, ◌++◌, Result, Ok, Err, length, take, drop, refl, sym, ap, ◌∙◌, append_assoc, arith}
use Rattle.k_num.specs.declared.place.Place.{Place}
use Rattle.k_lex_pieces.specs.declared.fault.Fault.{Fault}
use Rattle.k_lex_pieces.specs.Bytes.{after, behind}
use Rattle.k_lex_pieces.specs.Pieces.{item_length}
use Rattle.k_lex_pieces.specs.Literals.{content, item_at}
use Rattle.k_lex_pieces.specs.Outcome.{◌>>=◌}

pub content_skip : (p : Place) (k : ℕ) (bs : List ℕ) → k ≤ length bs → content p k bs ≡ content (behind p (take k bs)) 0 (drop k bs)
content_skip p zero bs le = refl
content_skip p (suc k) [] le = absurd (omega arith)
content_skip p (suc k) (b ∷ bs) le = content_skip (after p b) k bs (omega arith)

abbrev with_front : List ℕ → Result (List ℕ) Fault → Result (List ℕ) Fault
with_front front r = r >>= λ vs. Ok (front ++ vs)

pub content_turn : (p : Place) (text : List ℕ) (n : ℕ) → n ≡ item_length text → 1 ≤ n → n ≤ length text → content p 0 text ≡ (item_at p text >>= λ v. content (behind p (take n text)) 0 (drop n text) >>= λ vs. Ok (v ∷ vs))
content_turn p [] n e low high = absurd (omega arith)
content_turn p (b ∷ bs) zero e low high = absurd (omega arith)
content_turn p (b ∷ bs) (suc k) e low high =
    let count : item_length (b ∷ bs) - 1 ≡ k = omega arith in
    let rest : content (after p b) (item_length (b ∷ bs) - 1) bs ≡ content (behind (after p b) (take k bs)) 0 (drop k bs) =
    ap (λ j. content (after p b) j bs) count ∙ content_skip (after p b) k bs (omega arith) in
    ap (λ r. item_at p (b ∷ bs) >>= λ v. r >>= λ vs. Ok (v ∷ vs)) rest

pub front_turn : (out : List ℕ) (i : Result ℕ Fault) (r : Result (List ℕ) Fault) (v : ℕ) → i ≡ Ok v → ((i >>= λ w. r >>= λ vs. Ok (w ∷ vs)) >>= λ vs. Ok (out ++ vs)) ≡ (r >>= λ vs. Ok ((out ++ v ∷ []) ++ vs))
front_turn out i (Err f) v e = ap (λ j. (j >>= λ w. Err f >>= λ vs. Ok (w ∷ vs)) >>= λ vs. Ok (out ++ vs)) e
front_turn out i (Ok vs) v e =
    ap (λ j. (j >>= λ w. Ok vs >>= λ us. Ok (w ∷ us)) >>= λ us. Ok (out ++ us)) e ∙ ap (λ us. Ok us) (sym (append_assoc out (v ∷ []) vs))

-- a fault of the first character or escape is the fault of the text
pub front_stops : (out : List ℕ) (p : Place) (text : List ℕ) (f : Fault) → item_at p text ≡ Err f → 1 ≤ length text → (content p 0 text >>= λ vs. Ok (out ++ vs)) ≡ Err f
front_stops out p [] f e le = absurd (omega arith)
front_stops out p (b ∷ bs) f e le =
    ap (λ i. (i >>= λ v. content (after p b) (item_length (b ∷ bs) - 1) bs >>= λ vs. Ok (v ∷ vs)) >>= λ vs. Ok (out ++ vs)) e

-- one character or escape more
pub content_step : (p q : Place) (text front more : List ℕ) (n v : ℕ) (out new : List ℕ) (whole : Result (List ℕ) Fault)
    → n ≡ item_length text → 1 ≤ n → n ≤ length text → front ≡ take n text → more ≡ drop n text → q ≡ behind p front → item_at p text ≡ Ok v → new ≡ out ++ v ∷ []
    → (content p 0 text >>= λ vs. Ok (out ++ vs)) ≡ whole → (content q 0 more >>= λ vs. Ok (new ++ vs)) ≡ whole
content_step p q text front more n v out new whole count low high fe me qe ie ne e =
    let rest = content (behind p (take n text)) 0 (drop n text) in
    let there : content q 0 more ≡ rest = ap (λ x. content x 0 more) (qe ∙ ap (behind p) fe) ∙ ap (content (behind p (take n text)) 0) me in
    ap (λ r. r >>= λ vs. Ok (new ++ vs)) there
    ∙ ap (λ o. rest >>= λ vs. Ok (o ++ vs)) ne
    ∙ sym (front_turn out (item_at p text) rest v ie)
    ∙ ap (λ r. r >>= λ vs. Ok (out ++ vs)) (sym (content_turn p text n count low high))
    ∙ e
