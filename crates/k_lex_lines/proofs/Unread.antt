-- Groups that aren't read give nothing.
use Rattle.std.proofs.Common.{◌≡◌, Bool, true, false, ◌&&◌, if◌then◌else◌, List, [], ◌∷◌, ◌++◌, Option, Some, None, ap, sym, subst, ◌∙◌, refl, append_assoc}
use Rattle.std.proofs.lemmas.Bool.{false≢true}
use Rattle.k_num.specs.declared.place.Place.{Place}
use Rattle.k_lex_groups.specs.declared.groups.Group.{Group}
use Rattle.k_lex_groups.specs.Steps.{Opens, is_read, opened}
use Rattle.k_lex_lines.specs.declared.lines.Fault.{Fault}
use Rattle.k_lex_lines.specs.declared.lines.Line.{Line}
use Rattle.k_lex_lines.specs.declared.rules.Rules.{Rules}
use Rattle.k_lex_lines.specs.declared.lines.Branch.TheVariants as parts
use Rattle.k_lex_lines.specs.declared.lines.Line.TheVariants as l
use Rattle.k_lex_lines.specs.declared.state.State.{State}
use Rattle.k_lex_lines.specs.Reading.{opening, Turn, stops, goes, reads, decides, formed, tested, obeyed, turn, Answer, Reads}
use Rattle.k_lex_lines.specs.Sections.{is_part, is_right, IsGroup, IsRest}
use Rattle.k_lex_lines.specs.Laws.{settled}

-- where a form isn't looked at, or is right, it changes nothing
by_form : (looked : Bool) (form : Option Fault) (t : Turn) → is_right looked form ≡ true → (if looked then formed form t else t) ≡ t
by_form false form t e = refl
by_form true None t e = refl
by_form true (Some fault) t e = absurd (false≢true e)

-- a part of a group that isn't read changes nothing
part_turn : (rules : Rules) (s : State) (line : Line) → is_part line ≡ true → is_read s.opens ≡ false → turn rules s line ≡ goes s
part_turn rules s (l.Text ts) p e = ap (λ b. if b then reads ts else goes s) e
part_turn rules s (l.Broken true fault) p e = absurd (false≢true p)
part_turn rules s (l.Broken false fault) p e = ap (λ b. if b then stops fault else goes s) e
part_turn rules s (l.Branch hash form it) p e = absurd (false≢true p)
part_turn rules s (l.Directive hash form it) p e = ap (λ b. if b then formed form (obeyed rules hash it s) else goes s) e

-- an open `#if` behind which more groups may follow
abbrev group : Place → Bool → Bool → Group
group place waits on = record { place = place; waits = waits; reads = on; ends = false }

-- the lines of a section in front of others
section_lines : (line : Line) (ts us vs ws : List Line) → line ∷ (ts ++ (us ++ (vs ++ ws))) ≡ (line ∷ (ts ++ (us ++ vs))) ++ ws
section_lines line ts us vs ws =
    ap (λ z. line ∷ z) (sym (append_assoc ts (us ++ vs) ws ∙ ap (λ z. ts ++ z) (append_assoc us vs ws)))

-- the `#endif` of any group
end_read : (rules : Rules) (s : State) (g : Group) (opens : Opens) (hash : Place) (form : Option Fault) (vs : List Line) (r : Answer) → is_right (is_read opens) form ≡ true
    → Reads rules (opening opens s) vs r → Reads rules (opening (g ∷ opens) s) (l.Branch hash form parts.Endif ∷ vs) r
end_read rules s g opens hash form vs r e d =
    Reads.moves (opening (g ∷ opens) s) (opening opens s) (l.Branch hash form parts.Endif) vs r (by_form (is_read opens) form (goes (opening opens s)) e) d

mutual
  group_skips : (rules : Rules) {ts : List Line} → IsGroup ts → (s : State) → is_read s.opens ≡ false → (us : List Line) (r : Answer) → Reads rules s us r → Reads rules s (ts ++ us) r
  group_skips rules IsGroup.empty s e us r d = d
  group_skips rules (IsGroup.part line ts p g) s e us r d =
      Reads.moves s s line (ts ++ us) r (part_turn rules s line p e) (group_skips rules g s e us r d)
  group_skips rules (IsGroup.section hash form test ts vs ws a b c) s e us r d =
      let new : State = opening (opened hash false s.opens) s in
      subst (λ z. Reads rules s z r) (section_lines (l.Branch hash form (parts.Starts test)) ts vs ws us)
      (Reads.moves s new (l.Branch hash form (parts.Starts test)) (ts ++ (vs ++ (ws ++ us))) r
      (ap (λ z. if z then formed form (tested rules hash test s) else goes new) e)
      (group_skips rules a new (ap (λ z. z && false) e) (vs ++ (ws ++ us)) r
      (rest_skips rules b s hash (is_read s.opens && true) (is_read s.opens && false) s.opens (ap (λ z. z && true) e) (λ form x. subst (λ z. is_right z form ≡ true) (sym e) x) (ws ++ us) r
      (group_skips rules c s e us r d))))

  rest_skips : (rules : Rules) {looked : Bool} {us : List Line} → IsRest looked us → (s : State) (place : Place) (waits on : Bool) (opens : Opens) → waits ≡ false
      → ((form : Option Fault) → is_right looked form ≡ true → is_right (is_read opens) form ≡ true) → (vs : List Line) (r : Answer)
      → Reads rules (opening opens s) vs r → Reads rules (opening (group place waits on ∷ opens) s) (us ++ vs) r
  rest_skips rules (IsRest.ended looked hash form p) s place waits on opens e right vs r d =
      end_read rules s (group place waits on) opens hash form vs r (right form p) d
  rest_skips rules (IsRest.last looked hash end form end_form ts p q a) s place waits on opens e right vs r d =
      let new : Group = record { place = place; waits = false; reads = waits; ends = true } in
      subst (λ z. Reads rules (opening (group place waits on ∷ opens) s) (l.Branch hash form parts.Final ∷ z) r) (sym (append_assoc ts (l.Branch end end_form parts.Endif ∷ []) vs))
      (Reads.moves (opening (group place waits on ∷ opens) s) (opening (new ∷ opens) s) (l.Branch hash form parts.Final) (ts ++ (l.Branch end end_form parts.Endif ∷ vs)) r
      (by_form (is_read opens) form (goes (opening (new ∷ opens) s)) (right form p))
      (group_skips rules a (opening (new ∷ opens) s) e (l.Branch end end_form parts.Endif ∷ vs) r
      (end_read rules s new opens end end_form vs r (right end_form q) d)))
  rest_skips rules (IsRest.other looked hash form asked ts us a b) s place waits on opens e right vs r d =
      let taken : Opens = group place (waits && false) (waits && true) ∷ opens in
      let passed : Opens = group place (waits && true) (waits && false) ∷ opens in
      subst (λ z. Reads rules (opening (group place waits on ∷ opens) s) (l.Branch hash form (parts.Elif asked) ∷ z) r) (sym (append_assoc ts us vs))
      (Reads.moves (opening (group place waits on ∷ opens) s) (opening passed s) (l.Branch hash form (parts.Elif asked)) (ts ++ (us ++ vs)) r
      (ap (λ z. if z then formed form (decides hash asked taken passed) else goes (opening passed s)) e)
      (group_skips rules a (opening passed s) (ap (λ z. z && false) e) (us ++ vs) r
      (rest_skips rules b s place (waits && true) (waits && false) opens (ap (λ z. z && true) e) right vs r d)))

-- a group that isn't read gives nothing
pub group_gives_nothing : (rules : Rules) (s : State) (ts us : List Line) (r : Answer) → is_read s.opens ≡ false → IsGroup ts → Reads rules s us r → Reads rules s (ts ++ us) r
group_gives_nothing rules s ts us r e g d = group_skips rules g s e us r d

-- what follows a group that is read gives nothing
pub rest_gives_nothing : (rules : Rules) (s : State) (place : Place) (on : Bool) (opens : Opens) (us vs : List Line) (r : Answer) → IsRest (is_read opens) us
    → Reads rules (opening opens s) vs r → Reads rules (opening (settled place on opens) s) (us ++ vs) r
rest_gives_nothing rules s place on opens us vs r x d = rest_skips rules x s place false on opens refl (λ form e. e) vs r d
