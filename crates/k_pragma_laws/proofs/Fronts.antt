-- The longest piece at the front of a text, where what stands behind it is exchanged.
use Rattle.std.proofs.Common.{◌≡◌, ◌≢◌, ℕ, zero, suc, ◌+◌, ◌-◌, ◌<◌, ◌≤◌, Bool, true, false, ◌&&◌, ◌||◌, ◌⊎◌, if◌then◌else◌, eqb, leb, List, [], ◌∷◌, ◌++◌, length, take, refl, sym, ap, subst, ◌∙◌, inl, inr, arith}
use Rattle.std.proofs.lemmas.Bool.{and_left, and_right, cases_Bool, cases_eq, false≢true, true≢false, false_from_ne_true, lt-leb, eqb-false}
use Rattle.std.proofs.lemmas.List.{take_at, length-append}
use Rattle.k_lex_pieces.specs.declared.pieces.Piece.{Piece}
use Rattle.k_lex_pieces.specs.declared.pieces.Piece.TheVariants as piece
use Rattle.k_lex_pieces.specs.Bytes.{begins}
use Rattle.k_lex_pieces.specs.Pieces.{is_known, longest, piece_of_length, piece_by}
use Rattle.k_lex_pieces.proofs.Longest.{longest_is}
use Rattle.k_lex_pieces.proofs.PieceLaws.{test_fails}

-- a piece that the lexer goes on behind
abbrev pub is_sound : Piece → Bool
is_sound piece.OpenComment = false
is_sound piece.OpenLiteral = false
is_sound piece.Unknown = false
is_sound _ = true

pub sound_known : (c : Piece) → is_sound c ≡ true → is_known c ≡ true
sound_known piece.Unknown h = absurd (false≢true h)
sound_known piece.OpenComment h = refl
sound_known piece.OpenLiteral h = refl
sound_known piece.Name h = refl
sound_known piece.Number h = refl
sound_known piece.Character h = refl
sound_known piece.Str h = refl
sound_known piece.Comment h = refl
sound_known piece.Blank h = refl
sound_known piece.Newline h = refl
sound_known (piece.Mark m) h = refl
sound_known piece.Header h = refl

-- ---- the longest front

longest_last : (passes : List ℕ → Bool) (text : List ℕ) (k m : ℕ) → longest passes text k < m → m ≤ k → passes (take m text) ≡ false
longest_last passes text zero m lt le = absurd (omega arith)
longest_last passes text (suc k) m lt le = elim (cases_Bool (passes (take (suc k) text))) [
  | inl e ↦
      let whole : longest passes text (suc k) ≡ suc k = ap (λ (v : Bool). if v then suc k else longest passes text k) e in
      absurd (omega (arith, whole))
  | inr e ↦
      let less : longest passes text (suc k) ≡ longest passes text k = ap (λ (v : Bool). if v then suc k else longest passes text k) e in
      elim (cases_eq m (suc k)) [
        | inl at ↦ ap (λ j. passes (take j text)) at ∙ e
        | inr ne ↦ longest_last passes text k m (omega (arith, less)) (omega arith)
      ]
]

-- The piece at the front of a text is the front p, of this kind, behind which r stands.
pub record IsFront (class : List ℕ → Piece) (p r : List ℕ) (c : Piece) : Type 0 where
  pub kind : class p ≡ c
  pub some : 1 ≤ length p
  pub closed : (begins (47 ∷ 42 ∷ []) (p ++ r) && leb (length p) 1) ≡ false
  pub last : (m : ℕ) → length p < m → m ≤ length (p ++ r) → is_known (class (take m (p ++ r))) ≡ false

chosen : (b z q : Bool) (x c : Piece) (n k : ℕ)
    → ◌≡◌ {A = Piece × ℕ} (if b then (piece.OpenComment, 1) else (if z then ((if q then piece.OpenLiteral else piece.Unknown), 1) else (x, n))) (c, k)
    → is_sound c ≡ true → (b ≡ false) × (z ≡ false) × (x ≡ c) × (n ≡ k)
chosen true z q x c n k e h = absurd (false≢true (ap (λ (y : Piece × ℕ). is_sound y.0) e ∙ h))
chosen false true true x c n k e h = absurd (false≢true (ap (λ (y : Piece × ℕ). is_sound y.0) e ∙ h))
chosen false true false x c n k e h = absurd (false≢true (ap (λ (y : Piece × ℕ). is_sound y.0) e ∙ h))
chosen false false q x c n k e h = (refl, refl, ap (λ (y : Piece × ℕ). y.0) e, ap (λ (y : Piece × ℕ). y.1) e)

pub front_of : (class : List ℕ → Piece) (p r : List ℕ) (c : Piece) → piece_by class (p ++ r) ≡ (c, length p) → is_sound c ≡ true → IsFront class p r c
unfolding piece_by
front_of class p r c e h = by (longest (λ s. is_known (class s)) (p ++ r) (length (p ++ r))) refl e
  where
    by : (n : ℕ) → longest (λ s. is_known (class s)) (p ++ r) (length (p ++ r)) ≡ n → piece_of_length class (p ++ r) n ≡ (c, length p) → IsFront class p r c
    by n at e =
        let parts = chosen (begins (47 ∷ 42 ∷ []) (p ++ r) && leb n 1) (eqb n 0) (begins (39 ∷ []) (p ++ r) || begins (34 ∷ []) (p ++ r)) (class (take n (p ++ r))) c n (length p) e h in
        let count : n ≡ length p = parts.3 in
        let nonzero : n ≢ 0 = eqb-false n 0 parts.1 in
        record {
          kind = ap class (sym (take_at p r n (sym count))) ∙ parts.2;
          some = omega (arith, count, nonzero);
          closed = ap (λ j. begins (47 ∷ 42 ∷ []) (p ++ r) && leb j 1) (sym count) ∙ parts.0;
          last = λ m lt le. longest_last (λ s. is_known (class s)) (p ++ r) (length (p ++ r)) m (omega (arith, at, count)) le;
        }

pub piece_of : (class : List ℕ → Piece) (p r : List ℕ) (c : Piece) → IsFront class p r c → is_known c ≡ true → piece_by class (p ++ r) ≡ (c, length p)
unfolding piece_by
piece_of class p r c front h =
    let some = front.some in
    let whole : take (length p) (p ++ r) ≡ p = take_at p r (length p) refl in
    let found : longest (λ s. is_known (class s)) (p ++ r) (length (p ++ r)) ≡ length p =
    longest_is (λ s. is_known (class s)) (p ++ r) (length p) (length (p ++ r)) (omega (arith, length-append p r)) (λ _. ap (λ s. is_known (class s)) whole ∙ ap is_known front.kind ∙ h) front.last in
    let zero_not : eqb (length p) 0 ≡ false = test_fails (length p) 0 (λ e. absurd (omega (arith, e, some))) in
    ap (piece_of_length class (p ++ r)) found
    ∙ ap (λ (v : Bool). if v then (piece.OpenComment, 1) else (if eqb (length p) 0 then ((if begins (39 ∷ []) (p ++ r) || begins (34 ∷ []) (p ++ r) then piece.OpenLiteral else piece.Unknown), 1) else (class (take (length p) (p ++ r)), length p))) front.closed
    ∙ ap (λ (v : Bool). if v then ((if begins (39 ∷ []) (p ++ r) || begins (34 ∷ []) (p ++ r) then piece.OpenLiteral else piece.Unknown), 1) else (class (take (length p) (p ++ r)), length p)) zero_not
    ∙ ap (λ s. (class s, length p)) whole ∙ ap (λ x. (x, length p)) front.kind

-- ---- what stands behind a piece

-- What may come to stand behind a piece in place of a byte that is no end of line: a space, or a `/` unless the piece is one.
pub record IsParted (p : List ℕ) (b c : ℕ) : Type 0 where
  pub line : b ≢ 10
  pub byte : (c ≡ 32) ⊎ ((c ≡ 47) × (p ≡ 47 ∷ [] → ⊥))

-- what may come to stand behind a piece in place of another text: one that begins with the same byte, or with one that parts
abbrev pub Follows : List ℕ → List ℕ → List ℕ → Type 0
Follows p [] [] = Unit {0}
Follows p [] (c ∷ s) = ⊥
Follows p (b ∷ r) [] = ⊥
Follows p (b ∷ r) (c ∷ s) = (b ≡ c) ⊎ IsParted p b c

-- Where a piece can be made longer, one byte more already does it, unless `*` stands behind `/`; and what may come to stand there makes none longer
-- that the byte before it did not.
pub record IsCut (class : List ℕ → Piece) : Type 0 where
  pub front : (p : List ℕ) (b : ℕ) (s : List ℕ) → 1 ≤ length p → is_known (class p) ≡ true → (p ≡ 47 ∷ [] → b ≡ 42 → ⊥)
      → is_known (class (p ++ b ∷ s)) ≡ true → is_known (class (p ++ b ∷ [])) ≡ true
  pub parted : (p : List ℕ) (b c : ℕ) → 1 ≤ length p → is_known (class p) ≡ true → IsParted p b c
      → is_known (class (p ++ c ∷ [])) ≡ true → is_known (class (p ++ b ∷ [])) ≡ true

take_more : (p : List ℕ) (b : ℕ) (s : List ℕ) (k m : ℕ) → m ≡ length p + suc k → take m (p ++ b ∷ s) ≡ p ++ b ∷ take k s
take_more [] b s k zero e = absurd (omega arith)
take_more [] b s k (suc m) e = let at : m ≡ k = omega arith in ap (λ j. b ∷ take j s) at
take_more (x ∷ p) b s k zero e = absurd (omega arith)
take_more (x ∷ p) b s k (suc m) e = ap (λ t. x ∷ t) (take_more p b s k m (omega arith))

-- the byte behind the piece does not make it longer
not_longer : (class : List ℕ → Piece) (p : List ℕ) (b : ℕ) (r : List ℕ) (c : Piece) → IsFront class p (b ∷ r) c → is_known (class (p ++ b ∷ [])) ≡ true → ⊥
not_longer class p b r c front h =
    let long : length (p ++ b ∷ r) ≡ length p + suc (length r) = length-append p (b ∷ r) in
    let fails = front.last (length p + 1) (omega arith) (omega (arith, long)) in
    false≢true (sym fails ∙ ap (λ s. is_known (class s)) (take_more p b r 0 (length p + 1) (omega arith)) ∙ h)

-- a `*` behind a `/` would open a comment
closed_by : (p : List ℕ) (b c : ℕ) (r s : List ℕ) → 1 ≤ length p → (b ≡ c) ⊎ IsParted p b c
    → (begins (47 ∷ 42 ∷ []) (p ++ b ∷ r) && leb (length p) 1) ≡ false → (begins (47 ∷ 42 ∷ []) (p ++ c ∷ s) && leb (length p) 1) ≡ false
closed_by [] b c r s some e h = absurd (omega arith)
closed_by (x ∷ []) b c r s some (inl e) h = ap (λ y. (eqb 47 x && (eqb 42 y && true)) && leb (length (x ∷ [])) 1) (sym e) ∙ h
closed_by (x ∷ []) b c r s some (inr e) h = and_left _ (leb (length (x ∷ [])) 1) (and_right (eqb 47 x) _ (and_left (eqb 42 c) true (no_star e.byte)))
  where
    no_star : (c ≡ 32) ⊎ ((c ≡ 47) × (x ∷ [] ≡ 47 ∷ [] → ⊥)) → eqb 42 c ≡ false
    no_star (inl is) = ap (λ y. eqb 42 y) is
    no_star (inr is) = ap (λ y. eqb 42 y) is.0
closed_by (x ∷ y ∷ p) b c r s some e h = and_right _ _ (lt-leb (suc (suc (length p))) 1 (omega arith))

no_comment : (p : List ℕ) (c : ℕ) (s : List ℕ) → (begins (47 ∷ 42 ∷ []) (p ++ c ∷ s) && leb (length p) 1) ≡ false → p ≡ 47 ∷ [] → c ≡ 42 → ⊥
no_comment p c s h e d =
    let at : (begins (47 ∷ 42 ∷ []) (47 ∷ c ∷ s) && leb 1 1) ≡ false = subst (λ q. (begins (47 ∷ 42 ∷ []) (q ++ c ∷ s) && leb (length q) 1) ≡ false) e h in
    true≢false (subst (λ x. (begins (47 ∷ 42 ∷ []) (47 ∷ x ∷ s) && leb 1 1) ≡ false) d at)

-- what may follow makes a piece no longer
pub keep : (class : List ℕ → Piece) (p r s : List ℕ) (c : Piece) → IsCut class → is_known c ≡ true → Follows p r s → IsFront class p r c → IsFront class p s c
keep class p [] [] c cut known follows front = front
keep class p [] (x ∷ s) c cut known follows front = absurd follows
keep class p (b ∷ r) [] c cut known follows front = absurd follows
keep class p (b ∷ r) (x ∷ s) c cut known follows front = record { kind = front.kind; some = front.some; closed = shut; last = above }
  where
    itself : is_known (class p) ≡ true
    itself = ap is_known front.kind ∙ known

    shut : (begins (47 ∷ 42 ∷ []) (p ++ x ∷ s) && leb (length p) 1) ≡ false
    shut = closed_by p b x r s front.some follows front.closed

    no_more : (b ≡ x) ⊎ IsParted p b x → is_known (class (p ++ x ∷ [])) ≡ true → ⊥
    no_more (inl e) h = not_longer class p b r c front (subst (λ y. is_known (class (p ++ y ∷ [])) ≡ true) (sym e) h)
    no_more (inr e) h = not_longer class p b r c front (cut.parted p b x front.some itself e h)

    above : (m : ℕ) → length p < m → m ≤ length (p ++ x ∷ s) → is_known (class (take m (p ++ x ∷ s))) ≡ false
    above m lt le = by (m - (length p + 1)) (omega arith)
      where
        by : (k : ℕ) → m ≡ length p + suc k → is_known (class (take m (p ++ x ∷ s))) ≡ false
        by k e = false_from_ne_true _ (λ h. no_more follows
            (cut.front p x (take k s) front.some itself (no_comment p x s shut) (sym (ap (λ t. is_known (class t)) (take_more p x s k m e)) ∙ h)))
