-- The bytes of a file of runs tell one sum, or have one first wrong line.
use Rattle.std.proofs.Common.{ℕ, ◌≡◌, refl, ap, sym, subst, ◌∙◌, List, ◌++◌, drop, None, Ok, Err, inl, inr}
use Rattle.std.proofs.lemmas.Option.{none-some}
use Rattle.std.specs.Prelude.{codes}
use Rattle.k_scan.specs.Pieces.{word_at}
use Rattle.k_scan.proofs.Front.{word_again}
use Rattle.k_dict_saved.proofs.Files.{first_wrong_is_one}
use Rattle.k_dict_saved.proofs.Profiles.{one_migration, read_migrated, read_of_write}
use Rattle.k_dict_saved.specs.Profile.{Reads, Spells}
use Rattle.k_dict_saved.specs.SavedText.{old_text, saved_text}
use Rattle.k_dict_saved.specs.declared.fault.SavedFault.TheVariants.{NotSaved}
use Rattle.k_dict_saved.specs.declared.format.Accepts.TheVariants.{Both}
use Rattle.k_dict_saved.specs.declared.saved.Old.{Old}
use Rattle.k_dict_saved.specs.declared.saved.Saved.{Saved}
use Rattle.k_sum.specs.SumText.{sum_text}
use Rattle.k_sum.specs.Sums.{sum_of}
use Rattle.k_sum.specs.declared.sum.Sum.{Sum}
use Rattle.k_sum_read.proofs.Whole.{file_of_one, no_sum_wrong}
use Rattle.k_sum_read.specs.AnyFile.{BeginsSum, ReadsAny}
use Rattle.k_sum_read.specs.SumFile.{ReadsSum}
use Rattle.k_sum_saved.proofs.OneReading as sums
use Rattle.k_sum_saved.specs.SumLines as lines

-- ---- a saved profile

pub spelled_same : (bytes : List ℕ) (one other : Saved) → Reads bytes (Ok one) → Reads bytes (Ok other) → one ≡ other
spelled_same bytes one other (is, inl spelled) b = sym (read_of_write one (Ok other) is (subst (λ t. Reads t (Ok other)) spelled b))
spelled_same bytes one other (is, inr (old, is_old, spelled, migrated)) b =
    one_migration old one other migrated (read_migrated old (Ok other) is_old (subst (λ t. Reads t (Ok other)) spelled b))

pub not_refused : (bytes : List ℕ) (one : Saved) (place : ℕ) → Reads bytes (Ok one) → Reads bytes (Err (NotSaved place)) → ⊥
not_refused bytes one place (is, inl spelled) b = read_of_write one (Err (NotSaved place)) is (subst (λ t. Reads t (Err (NotSaved place))) spelled b)
not_refused bytes one place (is, inr (old, is_old, spelled, migrated)) b =
    read_migrated old (Err (NotSaved place)) is_old (subst (λ t. Reads t (Err (NotSaved place))) spelled b)

-- ---- a sum

pub begins_of : (bytes : List ℕ) (sum : Sum) → bytes ≡ sum_text sum → BeginsSum bytes
begins_of bytes sum spelled = (drop 14 (sum_text sum), spelled ∙ first)
  where
    first : sum_text sum ≡ codes "kremlin sum 1\n" ++ drop 14 (sum_text sum)
    first = refl

pub sum_same : (bytes : List ℕ) (one other : Sum) → ReadsSum bytes (Ok one) → ReadsSum bytes (Ok other) → one ≡ other
sum_same bytes one other (is, spelled) (is', spelled') = file_of_one one other is is' (sym spelled ∙ spelled')

pub sum_not_refused : (bytes : List ℕ) (one : Sum) (place : ℕ) → ReadsSum bytes (Ok one) → ReadsSum bytes (Err (NotSaved place)) → ⊥
sum_not_refused bytes one place (is, spelled) wrong = no_sum_wrong one place is (subst (λ b. lines.IsFirstWrong b place) spelled wrong)

pub one_wrong_line : (bytes : List ℕ) (one other : ℕ) → ReadsSum bytes (Err (NotSaved one)) → ReadsSum bytes (Err (NotSaved other)) → one ≡ other
one_wrong_line bytes one other a b = sums.first_wrong_is_one bytes one other a b

-- ---- either

-- a text that begins as a profile does not begin as a sum
no_sum : (bytes text : List ℕ) → word_at (codes "kremlin sum 1\n") text ≡ None → bytes ≡ text → BeginsSum bytes → ⊥
no_sum bytes text none spelled (rest, begins) =
    none-some rest (sym none ∙ ap (word_at (codes "kremlin sum 1\n")) (sym spelled ∙ begins) ∙ word_again (codes "kremlin sum 1\n") rest)

begins_two : (saved : Saved) → word_at (codes "kremlin sum 1\n") (saved_text saved) ≡ None
begins_two saved = refl

begins_one : (old : Old) → word_at (codes "kremlin sum 1\n") (old_text old) ≡ None
begins_one old = refl

pub spells_no_sum : (bytes : List ℕ) (saved : Saved) → Spells bytes saved → BeginsSum bytes → ⊥
spells_no_sum bytes saved (inl spelled) begins = no_sum bytes (saved_text saved) (begins_two saved) spelled begins
spells_no_sum bytes saved (inr (old, is, spelled, migrated)) begins = no_sum bytes (old_text old) (begins_one old) spelled begins

-- ONE SUM
pub one_read : (bytes : List ℕ) (one other : Sum) → ReadsAny bytes (Ok one) → ReadsAny bytes (Ok other) → one ≡ other
one_read bytes one other (inl a) (inl b) = sum_same bytes one other a b
one_read bytes one other (inl (is, spelled)) (inr (saved, is', spells, same)) = absurd (spells_no_sum bytes saved spells (begins_of bytes one spelled))
one_read bytes one other (inr (saved, is, spells, same)) (inl (is', spelled)) = absurd (spells_no_sum bytes saved spells (begins_of bytes other spelled))
one_read bytes one other (inr (saved, is, spells, same)) (inr (saved', is', spells', same')) =
    same ∙ ap sum_of (spelled_same bytes saved saved' (is, spells) (is', spells')) ∙ sym same'

-- or none
pub read_not_refused : (bytes : List ℕ) (one : Sum) (place : ℕ) → ReadsAny bytes (Ok one) → ReadsAny bytes (Err (NotSaved place)) → ⊥
read_not_refused bytes one place (inl a) (inl (begins, wrong)) = sum_not_refused bytes one place a wrong
read_not_refused bytes one place (inl (is, spelled)) (inr (not_begins, wrong)) = not_begins (begins_of bytes one spelled)
read_not_refused bytes one place (inr (saved, is, spells, same)) (inl (begins, wrong)) = spells_no_sum bytes saved spells begins
read_not_refused bytes one place (inr (saved, is, spells, same)) (inr (not_begins, wrong)) = not_refused bytes saved place (is, spells) wrong

-- which has one place then
pub one_refused : (bytes : List ℕ) (one other : ℕ) → ReadsAny bytes (Err (NotSaved one)) → ReadsAny bytes (Err (NotSaved other)) → one ≡ other
one_refused bytes one other (inl (begins, a)) (inl (begins', b)) = sums.first_wrong_is_one bytes one other a b
one_refused bytes one other (inl (begins, a)) (inr (not_begins, b)) = absurd (not_begins begins)
one_refused bytes one other (inr (not_begins, a)) (inl (begins, b)) = absurd (not_begins begins)
one_refused bytes one other (inr (not_begins, a)) (inr (not_begins', b)) = first_wrong_is_one Both bytes one other a b
