-- What a growing format becomes by what is found.
use Rattle.std.proofs.Common.{◌≡◌, ℕ, List, [], ◌∷◌, ◌++◌, Option, Some, None, refl, sym, ap, ◌∙◌, append_assoc}
use Rattle.std.proofs.lemmas.List.{append-nil}
use Rattle.k_num.specs.declared.numbers.Kind.{Kind}
use Rattle.k_types_meaning.specs.Formats.{FormatMark, byte_before, kinds_taken, mark_before, pieces_of}
use Rattle.k_types_meaning.specs.declared.tree.expression.Piece.{Piece}
use Rattle.k_types_meaning.specs.declared.tree.expression.Piece.TheVariants as piece
use Rattle.k_types_meaning.specs.declared.tree.expression.Written.{Written}
use Rattle.k_types_names.specs.declared.formats.Format.{Format}
use Rattle.k_types_names.specs.declared.formats.FormatItem.{FormatItem}
use Rattle.k_types_names.specs.declared.formats.FormatItem.TheVariants as found
use Rattle.k_types_names.specs.declared.formats.Growing.{Growing}
use Rattle.k_types_names.specs.Forms.{bytes_before, format_of, formed, mark_in, run_of, with_marks}

bytes_before-append : (bytes : List ℕ) (b : ℕ) (pieces : List Piece) → bytes_before (bytes ++ b ∷ []) pieces ≡ bytes_before bytes (byte_before b pieces)
bytes_before-append [] b pieces = refl
bytes_before-append (a ∷ bytes) b pieces = ap (byte_before a) (bytes_before-append bytes b pieces)

-- bytes before what no byte joins are a piece of their own
run_apart : (tail : List Piece) → ((b : ℕ) → byte_before b tail ≡ piece.Bytes (b ∷ []) ∷ tail) → (bytes : List ℕ) → bytes_before bytes tail ≡ run_of bytes ++ tail
run_apart tail alone [] = refl
run_apart tail alone (b ∷ []) = alone b
run_apart tail alone (b ∷ a ∷ bytes) = ap (byte_before b) (run_apart tail alone (a ∷ bytes))

abbrev pub a_format : List Piece → List Kind → Format
a_format pieces kinds = record { pieces = pieces; kinds = kinds }

abbrev pub a_growing : List Piece → List ℕ → List Kind → Growing
a_growing pieces bytes kinds = record { pieces = pieces; bytes = bytes; kinds = kinds }

-- what is found goes before the marks to come
abbrev pub Adds : Growing → Growing → FormatItem → Type 0
Adds old new what = (marks : List FormatMark) → with_marks new marks ≡ with_marks old (mark_in what ∷ marks)

module _ (growing : Growing) (what : FormatItem) (marks : List FormatMark) where
  -- a byte is found
  pub byte_added : (b : ℕ) (bytes : List ℕ) → what ≡ found.Literal b → bytes ≡ growing.bytes ++ b ∷ []
      → with_marks (a_growing growing.pieces bytes growing.kinds) marks ≡ with_marks growing (mark_in what ∷ marks)
  byte_added b bytes is new =
      ap (λ bs. with_marks (a_growing growing.pieces bs growing.kinds) marks) new
      ∙ (ap (λ ps. a_format (growing.pieces ++ ps) (growing.kinds ++ kinds_taken marks)) (bytes_before-append growing.bytes b (pieces_of marks))
      ∙ ap (λ w. with_marks growing (mark_in w ∷ marks)) (sym is))

  module _ (written : Written) (kind : Kind) (is : what ≡ found.Takes written kind) where
    pieces_added : ((growing.pieces ++ run_of growing.bytes) ++ (piece.Argument written ∷ [])) ++ pieces_of marks
        ≡ growing.pieces ++ bytes_before growing.bytes (piece.Argument written ∷ pieces_of marks)
    pieces_added =
        append_assoc (growing.pieces ++ run_of growing.bytes) (piece.Argument written ∷ []) (pieces_of marks)
        ∙ (append_assoc growing.pieces (run_of growing.bytes) (piece.Argument written ∷ pieces_of marks)
        ∙ ap (λ ps. growing.pieces ++ ps) (sym (run_apart (piece.Argument written ∷ pieces_of marks) (λ b. refl) growing.bytes)))

    -- an argument is found
    pub argument_added : (ended pieces : List Piece) (bytes : List ℕ) (before kinds : List Kind) → ended ≡ growing.pieces ++ run_of growing.bytes
        → pieces ≡ ended ++ piece.Argument written ∷ [] → bytes ≡ [] → before ≡ growing.kinds → kinds ≡ before ++ kind ∷ []
        → with_marks (a_growing pieces bytes kinds) marks ≡ with_marks growing (mark_in what ∷ marks)
    argument_added ended pieces bytes before kinds end more none same taken =
        ap (λ ps. with_marks (a_growing ps bytes kinds) marks) (more ∙ ap (λ ps. ps ++ piece.Argument written ∷ []) end)
        ∙ (ap (λ bs. with_marks (a_growing ((growing.pieces ++ run_of growing.bytes) ++ piece.Argument written ∷ []) bs kinds) marks) none
        ∙ (ap (λ ks. with_marks (a_growing ((growing.pieces ++ run_of growing.bytes) ++ piece.Argument written ∷ []) [] ks) marks)
        (taken ∙ ap (λ ks. ks ++ kind ∷ []) same)
        ∙ (ap (λ ps. a_format ps ((growing.kinds ++ kind ∷ []) ++ kinds_taken marks)) pieces_added
        ∙ (ap (a_format (growing.pieces ++ bytes_before growing.bytes (piece.Argument written ∷ pieces_of marks)))
        (append_assoc growing.kinds (kind ∷ []) (kinds_taken marks))
        ∙ ap (λ w. with_marks growing (mark_in w ∷ marks)) (sym is)))))

-- a format is read to its end
pub ended : (growing : Growing) (pieces : List Piece) (kinds : List Kind) → pieces ≡ growing.pieces ++ run_of growing.bytes → kinds ≡ growing.kinds
    → a_format pieces kinds ≡ with_marks growing []
ended growing pieces kinds end same =
    ap (λ ps. a_format ps kinds) (end ∙ ap (λ ps. growing.pieces ++ ps) (sym (run_apart [] (λ b. refl) growing.bytes ∙ append-nil (run_of growing.bytes))))
    ∙ ap (a_format (growing.pieces ++ bytes_before growing.bytes [])) (same ∙ sym (append-nil growing.kinds))

-- a format of which nothing is read
pub formed_new : (o : Option (List FormatMark)) → formed (a_growing [] [] []) o ≡ format_of o
formed_new None = refl
formed_new (Some marks) = refl

-- a mark is found before others
pub formed_more : (old new : Growing) (what : FormatItem) → ((marks : List FormatMark) → with_marks new marks ≡ with_marks old (mark_in what ∷ marks)) → (o : Option (List FormatMark))
    → formed new o ≡ formed old (mark_before (Some (mark_in what)) o)
formed_more old new what same None = refl
formed_more old new what same (Some marks) = ap (λ (f : Format). Some f) (same marks)

-- nothing comes of no marks
pub formed_none : (one other : Growing) → formed one None ≡ formed other None
formed_none one other = refl
