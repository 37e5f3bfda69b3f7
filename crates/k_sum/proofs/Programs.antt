-- `==` of lists of regions is equality.
use Rattle.std.proofs.Common.{◌≡◌, refl, sym, ap, ◌∙◌, Bool, true, false, ◌&&◌, nat_eq, true≢false}
use Rattle.std.specs.Bool.{Decides}
use Rattle.std.specs.Cmp.Lexicographic.{pointwise}
use Rattle.std.proofs.lemmas.Bool.Decides.{Decides-eqb, Decides-and, Decides-like}
use Rattle.std.proofs.lemmas.Slice.Eq.{slice_eq-Decides}
use Rattle.k_optab.specs.Regions.{is_body, is_loop}
use Rattle.k_optab.specs.declared.region.Region.{Region}
use Rattle.k_optab.specs.declared.region.RegionKind.{RegionKind}
use Rattle.k_optab.specs.declared.region.RegionKind.TheVariants.{Func, Loop, Body}
use Rattle.k_optab.specs.contracts.region.RegionKindPartialEq.TheImpl as kind_derived
use Rattle.k_optab.specs.contracts.region.RegionPartialEq.TheImpl as region_derived

-- `==` of kinds and of regions, as they are derived
abbrev kind_eq : RegionKind → RegionKind → Bool
kind_eq x y = kind_derived.eq-value.it x y

abbrev pub region_eq : Region → Region → Bool
region_eq x y = region_derived.eq-value.it x y

-- kinds that a test tells apart are two
apart : (test : RegionKind → Bool) (x y : RegionKind) → test x ≡ true → test y ≡ false → x ≡ y → ⊥
apart test x y one other same = true≢false (sym one ∙ ap test same ∙ other)

kind_decides : (x y : RegionKind) → Decides (kind_eq x y) (x ≡ y)
kind_decides Func Func = (λ h. refl, λ e. refl)
kind_decides Func Loop = (λ h. absurd (true≢false (sym h)), λ e. absurd (apart is_loop Loop Func refl refl (sym e)))
kind_decides Func Body = (λ h. absurd (true≢false (sym h)), λ e. absurd (apart is_body Body Func refl refl (sym e)))
kind_decides Loop Func = (λ h. absurd (true≢false (sym h)), λ e. absurd (apart is_loop Loop Func refl refl e))
kind_decides Loop Loop = (λ h. refl, λ e. refl)
kind_decides Loop Body = (λ h. absurd (true≢false (sym h)), λ e. absurd (apart is_loop Loop Body refl refl e))
kind_decides Body Func = (λ h. absurd (true≢false (sym h)), λ e. absurd (apart is_body Body Func refl refl e))
kind_decides Body Loop = (λ h. absurd (true≢false (sym h)), λ e. absurd (apart is_loop Loop Body refl refl (sym e)))
kind_decides Body Body = (λ h. refl, λ e. refl)

pub region_decides : (x y : Region) → Decides (region_eq x y) (x ≡ y)
region_decides x y =
    let func = slice_eq-Decides Decides-eqb x.func y.func (pointwise nat_eq x.func y.func) refl in
    Decides-like (region_eq x y) (λ h i. record { kind = h.0 i; func = h.1.0 i; place = record { line = h.1.1.0 i; column = h.1.1.1 i } })
    (λ e. (ap (λ r. r.kind) e, (ap (λ r. r.func) e, (ap (λ r. r.place.line) e, ap (λ r. r.place.column) e))))
    (Decides-and (kind_eq x.kind y.kind) (pointwise nat_eq x.func y.func && (nat_eq x.place.line y.place.line && nat_eq x.place.column y.place.column))
    (kind_decides x.kind y.kind)
    (Decides-and (pointwise nat_eq x.func y.func) (nat_eq x.place.line y.place.line && nat_eq x.place.column y.place.column) func
    (Decides-and (nat_eq x.place.line y.place.line) (nat_eq x.place.column y.place.column) (Decides-eqb x.place.line y.place.line)
    (Decides-eqb x.place.column y.place.column))))
