-- How `Box` holds its value: as that value, so that a type may hold itself in a `Box`.
-- The check asks for the names `the_former`, `the_weighed`, `the_places` and `the_codes_placed`.
use mathlib.Core.Path.{refl}
use mathlib.Core.Former.{Former, this, const, pair, via}
use base.Stored.{gnil}
use base.Fml.{ftrue}
use denote.RattleType.{RattleType}
use denote.Memory.{part_of}
use denote.RawPtr.{Ptr}
use denote.Sharing.{nothing}
use denote.HoleLaws.{Alike}
use denote.HolePlaces.{Recodes, struct_places, laid, one_value}
use denote.Hole.Fix.{over}
use denote.Param.Weighed.{Weighed}
use denote.Model.Placed.{view_places}
use Rattle.std.specs.declared.boxed.Box as std_box
use Rattle.std.specs.contracts.boxed.Box as std_row
use Rattle.std.specs.declared.alloc.Global.{Global}
use Rattle.std.specs.contracts.alloc.Global as global
use Rattle.std.specs.contracts.impls.GlobalAllocator.TheImpl.{ghosts}
use Rattle.k_num.specs.declared.boxed.Box.TheInside.{Inside}
use Rattle.k_num.specs.declared.boxed.Box.TheView.{view, invariant}
use Rattle.k_num.specs.contracts.boxed.Box as box
use Rattle.k_num.specs.contracts.boxed.Box.TheInside as inside

-- a Box is seen as what it holds
abbrev pub the_former : Former {0} → Former {0}
the_former value = value

-- it weighs what that weighs
abbrev pub the_weighed : {value : Former {0}} → Weighed value → Weighed (the_former value)
the_weighed weight = weight

-- its one field is std's box: a pointer, an allocator and the value
abbrev fields : Former {0}
fields = via (pair (const (Ptr × Global)) this) Inside (λ X b. ((b.inner.ptr, b.inner.alloc), b.inner.value))
    (λ X v. record { inner = record { ptr = v.0.0; alloc = v.0.1; value = v.1 } }) (λ X b. refl) (λ X v. refl)

-- std's box of values of a type
abbrev std_box_of : RattleType → RattleType
std_box_of R = std_row.the_row R global.the_row ghosts

-- the same box with another value
abbrev with_value : {X Y : Type 0} → std_box.Box X Global → Y → std_box.Box Y Global
with_value b y = record { ptr = b.ptr; alloc = b.alloc; value = y }

module _ (R S : RattleType) (h : R.Denot → S.Denot) where
  -- what a type states of its values is alike at a box of each
  std_box_places : Alike R S h → Alike (std_box_of R) (std_box_of S) (λ b. with_value b (h b.value))
  unfolding part_of
  std_box_places alike = record {
    mir_same = λ i. (std_box_of (one_value R (alike.mir_same i) (λ _. ftrue) (λ _ _. nothing) gnil)).mir;
    own_same = λ b i. (std_box_of (one_value R (alike.mir_same i) (alike.own_same b.value i) (alike.shr_same b.value i) gnil)).own_val (with_value b tt);
    shr_same = λ b i. (std_box_of (one_value R (alike.mir_same i) (alike.own_same b.value i) (alike.shr_same b.value i) gnil)).shr_at (with_value b tt);
  }

  -- so a Box is alike at a value of each
  pub the_places : Alike R S h → Alike (box.the_row R) (box.the_row S) ((the_former this).map R.Denot S.Denot h)
  the_places alike = view_places fields this view (λ X Y k u. refl) (λ X u. refl) R.Denot S.Denot h
      (box.the_row R).coded (box.the_row S).coded
      (invariant R.Denot) (invariant S.Denot) (λ u p q. refl) (λ u p q. refl) (λ u e. tt) (λ u e. tt)
      (over (inside.the_row R)) (over (inside.the_row S))
      (struct_places (inside.the_type R) (inside.the_type S) ((λ b. with_value b (h b.value)), tt) _ (λ d. refl) refl
      (laid _ _ _ (std_box_places alike), tt))

  -- a Box has the code of what it holds
  pub the_codes_placed : Recodes R S h → Recodes (box.the_row R) (box.the_row S) ((the_former this).map R.Denot S.Denot h)
  the_codes_placed same d = same d
