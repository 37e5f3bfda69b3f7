-- The lines of regions, one by one.
use Rattle.std.proofs.Common.{◌≡◌, ◌≢◌, ℕ, ◌<◌, ◌≤◌, inl, inr, List, [], ◌∷◌, ◌++◌, length, Option, Some, None, Ok, Err, refl, sym, ap, ◌∙◌, subst, append-nil, append_assoc, length-append, arith}
use Rattle.std.specs.List.{flat_map}
use Rattle.std.proofs.lemmas.Grind.{flat_map-append}
use Rattle.std.proofs.lemmas.List.Concat.{flat_map-cons}
use Rattle.std.proofs.lemmas.Option.{none-some, same_Some}
use Rattle.k_optab.specs.declared.region.Region.{Region}
use Rattle.k_dict_saved.specs.Lines.{Follows, GoesWrong, InRegions, IsClosed, IsRegion, Leads, MayStand, Stage, arrived, last_behind, last_of}
use Rattle.k_dict_saved.specs.Files.{ArePaired}
use Rattle.k_dict_saved.specs.Reading.{AllRegions, AreEach, AreLinked, NextRegion}
use Rattle.k_dict_saved.specs.FileText.{region_line}
use Rattle.k_dict_saved.specs.Syntax.{Gives, region_at}
use Rattle.k_dict_saved.specs.declared.format.Format.{Format}
use Rattle.k_dict_saved.specs.declared.reading.stop.Stop.{Stop}
use Rattle.k_dict_saved.specs.declared.reading.stop.Stop.TheVariants as stops
use Rattle.k_dict_saved.proofs.Leading.{leads_on, wrong_behind, wrong_here}
use Rattle.k_dict_entries.proofs.Places.{place_of_push}
use Rattle.k_dict_saved.proofs.Spelled.{region_again}

-- a text for a list and one more
pub flat_map-push : {X : Type 0} (f : X → List ℕ) (xs : List X) (x : X) → flat_map f (xs ++ x ∷ []) ≡ flat_map f xs ++ f x
flat_map-push f xs x = flat_map-append f xs (x ∷ []) ∙ ap (λ l. flat_map f xs ++ l) (flat_map-cons f x [] ∙ append-nil (f x))

-- where no region is read none stands
pub no_region : (last : Option Region) (text : List ℕ) → region_at text ≡ None
    → (r : Region) (later : List ℕ) → IsRegion r → MayStand last r → text ≢ region_line r ++ later
no_region last text none r later right stands is = none-some (r, later) (sym none ∙ ap region_at is ∙ region_again r later right)

-- where one is read that may not stand there, no other may
pub no_other_region : (last : Option Region) (text rest : List ℕ) (found : Region) → region_at text ≡ Some (found, rest) → ¬ MayStand last found
    → (r : Region) (later : List ℕ) → IsRegion r → MayStand last r → text ≢ region_line r ++ later
no_other_region last text rest found read not_here r later right stands is =
    let pair = same_Some (found, rest) (r, later) (sym read ∙ ap region_at is ∙ region_again r later right) in
    let P : Region → Type 0 = MayStand last in not_here (subst P (sym (ap (λ p. p.0) pair)) stands)

-- the last of regions and one more
pub last_push : (last : Option Region) (regions : List Region) (r : Region) → last_behind last (regions ++ r ∷ []) ≡ Some r
last_push last [] r = refl
last_push last (s ∷ regions) r = last_push (Some s) regions r

-- one more region is linked
pub linked_more : (last : Option Region) (regions : List Region) (r : Region) → AreLinked last regions → MayStand (last_behind last regions) r
    → AreLinked last (regions ++ r ∷ [])
linked_more last [] r linked stands = (stands, tt)
linked_more last (s ∷ regions) r linked stands = (linked.0, linked_more (Some s) regions r linked.1 stands)

-- linked regions are paired where none is open
pub linked_paired : (last : Option Region) (regions : List Region) → AreLinked last regions → IsClosed (last_behind last regions) → ArePaired last regions
linked_paired last [] linked closed = closed
linked_paired last (r ∷ regions) linked closed = (linked.0, linked_paired (Some r) regions linked.1 closed)

-- one more region is one
pub each_more : (regions : List Region) (r : Region) → AreEach regions → IsRegion r → AreEach (regions ++ r ∷ [])
each_more regions r each right n x h = elim (place_of_push regions r n x h) [
  | inl k ↦ each n x k
  | inr k ↦ let P : Region → Type 0 = IsRegion in subst P (sym k.1) right
]

-- where the reading of regions stands: these were read, and this text is left
pub record AtRegions (format : Format) (count : ℕ) (text rest : List ℕ) (regions : List Region) : Type 0 where
  pub cut : text ≡ flat_map region_line regions ++ rest
  pub leads : Leads (InRegions format count []) (flat_map region_line regions) (InRegions format count regions)
  pub few : length regions ≤ count
  pub each : AreEach regions
  pub linked : AreLinked None regions

-- before the first
pub regions_start : (format : Format) (count : ℕ) (text : List ℕ) (regions : List Region) → regions ≡ [] → AtRegions format count text text regions
regions_start format count text regions none =
    let P : List Region → Type 0 = AtRegions format count text text in
    subst P (sym none) (record { cut = refl; leads = arrived (InRegions format count []); few = omega arith; each = λ n r h. absurd (none-some r h); linked = tt })

-- behind one more
pub regions_more : (format : Format) (count : ℕ) (text rest behind : List ℕ) (regions new : List Region) (r : Region) → AtRegions format count text rest regions → length regions < count
    → IsRegion r × MayStand (last_of regions) r × (rest ≡ region_line r ++ behind) → new ≡ regions ++ r ∷ [] → AtRegions format count text behind new
regions_more format count text rest behind regions new r at less next is =
    let Q : List ℕ → Type 0 = λ l. Leads (InRegions format count []) l (InRegions format count (regions ++ r ∷ [])) in
    let line : Follows (InRegions format count regions) (region_line r) (InRegions format count (regions ++ r ∷ [])) =
    inl (record { region = r; few = less; right = next.0; stands = next.1; line_is = refl; next_is = refl }) in
    let P : List Region → Type 0 = AtRegions format count text behind in
    subst P (sym is) (record {
      cut = at.cut ∙ ap (λ l. flat_map region_line regions ++ l) next.2 ∙ sym (append_assoc (flat_map region_line regions) (region_line r) behind)
          ∙ ap (λ l. l ++ behind) (sym (flat_map-push region_line regions r));
      leads = subst Q (sym (flat_map-push region_line regions r))
          (leads_on (InRegions format count []) (flat_map region_line regions) (InRegions format count regions) (region_line r) (InRegions format count (regions ++ r ∷ [])) at.leads line);
      few = omega (arith, length-append regions (r ∷ []));
      each = each_more regions r at.each next.0;
      linked = linked_more None regions r at.linked next.1;
    })

-- where no region's line stands
pub wrong_region : (format : Format) (count : ℕ) (text rest : List ℕ) (regions : List Region) (left : ℕ) → AtRegions format count text rest regions → length regions < count → left ≡ length rest
    → ((r : Region) (later : List ℕ) → IsRegion r → MayStand (last_of regions) r → rest ≢ region_line r ++ later) → GoesWrong (InRegions format count []) text left
wrong_region format count text rest regions left at less left_is none =
    let P : ℕ → Type 0 = GoesWrong (InRegions format count []) text in
    subst P (sym left_is) (wrong_behind (InRegions format count []) (flat_map region_line regions) (InRegions format count regions) text rest (length rest) at.leads at.cut
    (wrong_here (InRegions format count regions) rest (record { no_line = here; no_end = λ whole is. whole })))
  where
    here : (line later : List ℕ) (next : Stage) → Follows (InRegions format count regions) line next → rest ≢ line ++ later
    here line later next (inl one) is = none one.region later one.right one.stands (is ∙ ap (λ l. l ++ later) one.line_is)
    here line later next (inr other) is = let all = other.all in absurd (omega arith)

-- behind the last
pub regions_done : (format : Format) (count : ℕ) (text rest : List ℕ) (regions : List Region) → AtRegions format count text rest regions → count ≤ length regions
    → AllRegions format count text (Ok (regions, rest))
regions_done format count text rest regions at all = let few = at.few in (at.cut, omega arith, at.leads, at.each, at.linked)

-- what a refusal to read a region says
pub refused_region : {X : Type 0} (view : X → Region × List ℕ) (before : List Region) (text : List ℕ) (stop : Stop) → Gives view (Err stop) (region_at text)
    → NextRegion before text (Err stop)
refused_region view before text stops.Wrong none = no_region (last_of before) text none
refused_region view before text stops.Memory none = tt
