-- What follows a text at the front of a word.
use Rattle.std.proofs.Common.{◌≡◌, ℕ, true, false, List, Bor, Option, Some, None, option_map, MatchOption, refl, subst, sym}
use Rattle.std.proofs.lemmas.Str.Pattern.{starts_text}
use Rattle.std.specs.Str.{IsCharBoundary}
use Rattle.std.specs.Str.Pattern.{FindsTextPrefix, StripsPrefix}
use Rattle.k_words.specs.Setting.{after}

-- a text is stripped where the word begins with it
pub after-stripped : (r : Option (Bor (List ℕ))) (front word : List ℕ)
    → MatchOption r (FindsTextPrefix front word None) (λ x. StripsPrefix (FindsTextPrefix front) word x.now) → option_map (λ x. x.now) r ≡ after front word
unfolding after
after-stripped None front word h = rw (← starts_text false front word h) refl
after-stripped (Some x) front word (n, (long, split, boundary), rest, len) =
    let at : IsCharBoundary word n = subst (λ m. IsCharBoundary word m) (sym long) boundary in
    rw (← starts_text true front word (n, (long, split, boundary), at), rest, long) refl
