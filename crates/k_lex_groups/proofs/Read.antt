-- The lines of a block are read as its groups say.
use Rattle.std.proofs.Common.{◌≡◌, Bool, true, false, ◌&&◌, not, List, [], ◌∷◌, ◌++◌, Option, Some, None, refl, ap, sym, ◌∙◌, append_assoc}
use Rattle.std.proofs.lemmas.List.{append-nil}
use Rattle.k_num.specs.declared.place.Place.{Place}
use Rattle.k_lex_groups.specs.declared.groups.Group.{Group}
use Rattle.k_lex_groups.specs.Blocks.{Line, endif_line, Block, Rest, empty, line, section, endif, final, elif, lines, rest_lines, reads, rest_reads}
use Rattle.k_lex_groups.specs.Steps.{Opens, is_read, opened, in_front, outcome}
use Rattle.k_lex_groups.specs.Laws.{BlocksAreRead}

-- what is open, with flags
abbrev pub outcome_of : Opens → List Bool → Option (Opens × List Bool)
outcome_of s flags = Some (s, flags)

-- flags in front of flags
pub in_front_again : (xs ys : List Bool) (o : Option (Opens × List Bool)) → in_front xs (in_front ys o) ≡ in_front (xs ++ ys) o
in_front_again xs ys None = refl
in_front_again xs ys (Some (s, zs)) = ap (outcome_of s) (sym (append_assoc xs ys zs))

pub in_front_none : (o : Option (Opens × List Bool)) → in_front [] o ≡ o
in_front_none None = refl
in_front_none (Some (s, zs)) = refl

-- an open `#if` behind which more groups may follow
abbrev group : Place → Bool → Bool → Group
group place waits on = record { place = place; waits = waits; reads = on; ends = false }

mutual
  pub block_read : (b : Block) (s : Opens) (ts : List Line) → outcome s (lines b ++ ts) ≡ in_front (reads (is_read s) b) (outcome s ts)
  block_read empty s ts = sym (in_front_none (outcome s ts))
  block_read (line b) s ts =
      ap (in_front (is_read s ∷ [])) (block_read b s ts) ∙ in_front_again (is_read s ∷ []) (reads (is_read s) b) (outcome s ts)
  block_read (section place holds b r c) s ts =
      let waits = is_read s && not holds in
      let on = is_read s && holds in
      let flags = reads on b in
      let more = rest_reads waits r in
      in_front_none (outcome (opened place holds s) ((lines b ++ (rest_lines r ++ lines c)) ++ ts))
      ∙ (ap (outcome (opened place holds s)) (append_assoc (lines b) (rest_lines r ++ lines c) ts ∙ ap (λ z. lines b ++ z) (append_assoc (rest_lines r) (lines c) ts))
      ∙ (block_read b (opened place holds s) (rest_lines r ++ (lines c ++ ts))
      ∙ (ap (in_front flags) (rest_read r place waits on s (lines c ++ ts))
      ∙ (ap (λ o. in_front flags (in_front more o)) (block_read c s ts)
      ∙ (ap (in_front flags) (in_front_again more (reads (is_read s) c) (outcome s ts))
      ∙ in_front_again flags (more ++ reads (is_read s) c) (outcome s ts))))))

  rest_read : (r : Rest) (place : Place) (waits on : Bool) (s : Opens) (ts : List Line)
      → outcome (group place waits on ∷ s) (rest_lines r ++ ts) ≡ in_front (rest_reads waits r) (outcome s ts)
  rest_read endif place waits on s ts = refl
  rest_read (final b) place waits on s ts =
      in_front_none (outcome (record { place = place; waits = false; reads = waits; ends = true } ∷ s) ((lines b ++ endif_line ∷ []) ++ ts))
      ∙ (ap (outcome (record { place = place; waits = false; reads = waits; ends = true } ∷ s)) (append_assoc (lines b) (endif_line ∷ []) ts)
      ∙ (block_read b (record { place = place; waits = false; reads = waits; ends = true } ∷ s) (endif_line ∷ ts)
      ∙ ap (in_front (reads waits b)) (in_front_none (outcome s ts))))
  rest_read (elif holds b r) place waits on s ts =
      let flags = reads (waits && holds) b in
      let more = rest_reads (waits && not holds) r in
      in_front_none (outcome (group place (waits && not holds) (waits && holds) ∷ s) ((lines b ++ rest_lines r) ++ ts))
      ∙ (ap (outcome (group place (waits && not holds) (waits && holds) ∷ s)) (append_assoc (lines b) (rest_lines r) ts)
      ∙ (block_read b (group place (waits && not holds) (waits && holds) ∷ s) (rest_lines r ++ ts)
      ∙ (ap (in_front flags) (rest_read r place (waits && not holds) (waits && holds) s ts)
      ∙ in_front_again flags more (outcome s ts))))

-- the lines of a block are read as its groups say
pub blocks_read : BlocksAreRead
blocks_read b =
    ap (outcome []) (sym (append-nil (lines b))) ∙ (block_read b [] [] ∙ ap (outcome_of []) (append-nil (reads true b)))
