-- The bytes of a file spell a sum or the saved profile of a run, or they have a first wrong line.
use Rattle.std.proofs.Common.{◌≡◌, ◌⊎◌, inl, inr, ℕ, List, [], ◌++◌, length, Option, Some, None, Ok, Err, refl, sym, ap, ◌∙◌, arith}
use Rattle.std.specs.Prelude.{codes}
use Rattle.std.proofs.lemmas.Option.{none-some}
use Rattle.k_dict_saved.specs.declared.fault.SavedFault.TheVariants.{NotSaved}
use Rattle.k_dict_saved.specs.Lines.{IsFirstWrong, Opened, arrived}
use Rattle.k_dict_saved.specs.declared.format.Accepts.TheVariants.{Both}
use Rattle.k_scan.proofs.Front.{word_again, word_takes}
use Rattle.k_scan.specs.Pieces.{word_at}
use Rattle.k_sum.specs.Sums.{sum_of}
use Rattle.k_sum.specs.declared.sum.Sum.{Sum}
use Rattle.k_sum_read.specs.AnyFile.{BeginsSum, ReadsAny}
use Rattle.k_top_exists.specs.Files.{FileOfThreeIsAnswered, OtherFileIsRefused}
use Rattle.k_top_exists.proofs.Deciding.{Decided}
use Rattle.k_top_exists.proofs.SavedFiles.{saved_file_is_answered}
use Rattle.k_top_exists.proofs.SumLines.{sum_is_read}

-- the first line is that of a sum, or it is not
pub begins_decided : (bytes : List ℕ) → Decided (BeginsSum bytes)
begins_decided bytes = by (word_at (codes "kremlin sum 1\n") bytes) refl
  where
    by : (o : Option (List ℕ)) → word_at (codes "kremlin sum 1\n") bytes ≡ o → Decided (BeginsSum bytes)
    by None h = inr (λ begins. none-some begins.0 (sym h ∙ ap (word_at (codes "kremlin sum 1\n")) begins.1 ∙ word_again (codes "kremlin sum 1\n") begins.0))
    by (Some rest) h = inl (rest, word_takes (codes "kremlin sum 1\n") bytes rest h)

-- any bytes tell of runs, or have a first wrong line
pub runs_are_read : (bytes : List ℕ) → ((sum : Sum) × ReadsAny bytes (Ok sum)) ⊎ ((place : ℕ) × ReadsAny bytes (Err (NotSaved place)))
runs_are_read bytes = elim (begins_decided bytes) [
  | inl begins ↦ elim (sum_is_read bytes) [
    | inl found ↦ inl (found.0, inl found.1)
    | inr wrong ↦ inr (wrong.0, inl (begins, wrong.1))
  ]
  | inr begins_not ↦ elim (saved_file_is_answered bytes) [
    | inl found ↦ inl (sum_of found.0, inr (found.0, found.1.0, found.1.1, refl))
    | inr wrong ↦ inr (wrong.0, inr (begins_not, wrong.1))
  ]
]

-- any bytes spell a file of one of the three formats, or have a first wrong line by the rules of the one that their first line tells
pub file_of_three_is_answered : FileOfThreeIsAnswered
file_of_three_is_answered bytes = elim (begins_decided bytes) [
  | inl begins ↦ inl (begins, sum_is_read bytes)
  | inr begins_not ↦ inr (begins_not, saved_file_is_answered bytes)
]

-- a first line of none of them is the first wrong one
pub other_file_is_refused : OtherFileIsRefused
other_file_is_refused form bytes begins_not other = inr (begins_not, (Err 0, (first_wrong, refl)))
  where
    first_wrong : IsFirstWrong Both bytes 0
    first_wrong = (
      length bytes,
      omega arith,
      record {
        before = [];
        rest = bytes;
        stage = Opened Both;
        cut = refl;
        leads = arrived (Opened Both);
        wrong = record {
          no_line = λ line later next follows same. other follows.0 later (same ∙ ap (λ (l : List ℕ). l ++ later) follows.2);
          no_end = λ whole end. whole;
        };
        left_is = refl;
      },
    )
