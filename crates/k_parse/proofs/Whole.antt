-- What a whole list is read to.
use Rattle.std.proofs.Common.{◌≡◌, List, Some, Ok, Err, inl, inr, sym, subst}
use Rattle.std.specs.Prelude.{◌⊎◌, Result, IfErr}
use Rattle.k_parse_steps.specs.Types.{Token}
use Rattle.k_parse.specs.declared.fault.ParseFault.{ParseFault}
use Rattle.k_tree.specs.declared.tree.unit.Unit as source
use Rattle.k_parse.specs.Beginnings.{IsFirstWrong}
use Rattle.k_tree.specs.Closed.{EndsOnce}
use Rattle.k_parse.specs.Runs.{runs}
use Rattle.k_parse_steps.specs.Sources.{begin_source}
use Rattle.k_parse.specs.declared.fault.ParseFault.TheVariants as fault
use Rattle.k_parse.proofs.FirstWrong.{first_wrong}
use Rattle.k_parse.proofs.RunSound.{tree_sound}
use Rattle.k_parse.specs.Parse.{IsTreeOf, IsRefused, nesting_limit}

-- the tree that a list is read to
pub tree_read : (tokens : List Token) (u : source.Unit) → EndsOnce tokens → runs nesting_limit begin_source tokens ≡ Some (Ok u) → IsTreeOf tokens u
tree_read tokens u once read =
    let unit = tree_sound nesting_limit tokens u once read in
    record { ranked = unit.ranked; placed = unit.placed; nests = unit.within }

-- a first wrong token is a refusal
wrong_refused : (tokens : List Token) (f : ParseFault) → IsFirstWrong nesting_limit tokens f → IsRefused tokens f
wrong_refused tokens (fault.Syntax p) is = is
wrong_refused tokens (fault.TooDeep p) is = is
wrong_refused tokens fault.NodesMany is = absurd is.refusal
wrong_refused tokens fault.Memory is = is

-- the refusal that a list is read to
pub refusal_read : (tokens : List Token) (f : ParseFault) → runs nesting_limit begin_source tokens ≡ Some (Err f) → IsRefused tokens f
refusal_read tokens f read = wrong_refused tokens f (first_wrong nesting_limit tokens f read)

-- the refusal of the reading is that of the whole
pub err_refused : (tokens read : List Token) (f : ParseFault) (result : Result source.Unit ParseFault) → result ≡ Err f → read ≡ tokens
    → (f ≡ fault.Memory) ⊎ (runs nesting_limit begin_source read ≡ Some (Err f)) → IfErr result (λ g. (g ≡ fault.Memory) ⊎ IsRefused tokens g)
err_refused tokens read f result is same h =
    subst (λ r. IfErr r (λ g. (g ≡ fault.Memory) ⊎ IsRefused tokens g)) (sym is)
    (elim h [
      | inl memory ↦ inl memory
      | inr e ↦ inr (refusal_read tokens f (subst (λ ts. runs nesting_limit begin_source ts ≡ Some (Err f)) same e))
    ])
