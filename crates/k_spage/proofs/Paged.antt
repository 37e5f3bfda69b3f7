-- What the calls make of pages and of the rows in them.
use Rattle.std.proofs.Common.{◌≡◌, ◌≢◌, ℕ, ◌+◌, ◌/◌, ◌%◌, ◌<◌, ◌≤◌, List, length, set, get_or, get_or-set_same, get_or-set_other, Option, Some, None, Bool, true, false, is_some, count_by, refl, ap, sym, ◌∙◌, subst, arith, ⊎_elim}
use Rattle.std.specs.Prelude.{IsSome}
use Rattle.std.proofs.lemmas.Bool.{cases_eq, cases_lt}
use Rattle.std.proofs.lemmas.List.{length-set, get_or_past}
use Rattle.k_shadow.specs.Rows.{Seen, unwritten}
use Rattle.k_shadow_rows.specs.Given.{IsGiven}
use Rattle.k_shadow_rows.specs.Rows.{row_in, size, width, greatest}
use Rattle.k_shadow_rows.specs.declared.rows.Rows.{Rows}
use Rattle.k_spage.specs.Pages.{Pages, rows_under, key_of, page_row, page_size, page_width, page_greatest, paged_row, ArePages, HasRowsFor, IsOnePage}
use Rattle.k_spage.proofs.Counted.{count_by-set}

-- a page that is there has a place in the table
pub named_within : (table : List (Option ℕ)) (page : ℕ) → IsSome (key_of table page) → page < length table
named_within table page h = ⊎_elim
    (λ (lt : page < length table). lt)
    (λ (ge : length table ≤ page). absurd (nothing (ap (λ o. is_some o) (sym (get_or_past table page None ge)) ∙ h)))
    (cases_lt page (length table))
  where
    nothing : ◌≡◌ {A = Bool} false true → ⊥
    nothing e = cc

same_keys : (k key : ℕ) → ◌≡◌ {A = Option ℕ} (Some k) (Some key) → k ≡ key
same_keys k key h = cc

key_elsewhere : (table : List (Option ℕ)) (page key other : ℕ) → other ≢ page → key_of (set table page (Some key)) other ≡ key_of table other
key_elsewhere table page key other ne = get_or-set_other table page other (Some key) None ne

-- a number that has another key is not the new page's
old-named : (table : List (Option ℕ)) (page key other k : ℕ) → page < length table → k ≢ key → key_of (set table page (Some key)) other ≡ Some k → other ≢ page
old-named table page key other k h ne named here =
    ne (same_keys k key (sym named ∙ ap (λ p. key_of (set table page (Some key)) p) here ∙ get_or-set_same table page (Some key) None h))

-- a page that has rows is there
pub some_rows : (o : Option Rows) → 0 < page_size o → IsSome o
some_rows None h = absurd (omega arith)
some_rows (Some rows) h = refl

-- the rows of the page at that key can have times of up to `most` for that many levels
pub rows_named : (pages : Pages) (table : List (Option ℕ)) (page key depth most : ℕ) → key_of table page ≡ Some key → depth ≤ page_width (rows_under pages (Some key)) → most ≤ page_greatest (rows_under pages (Some key)) → HasRowsFor pages table depth most page
rows_named pages table page key depth most named wide great =
    let P : Option ℕ → Type 0 = λ o. IsSome o × (depth ≤ page_width (rows_under pages o)) × (most ≤ page_greatest (rows_under pages o)) in
    subst P (sym named) (refl, wide, great)

-- a row of the page of that number
pub row_here : (pages : Pages) (table : List (Option ℕ)) (page key loc : ℕ) → key_of table page ≡ Some key → loc / 256 ≡ page → paged_row pages table loc ≡ page_row (rows_under pages (Some key)) (loc % 256)
row_here pages table page key loc named here = ap (λ o. page_row (rows_under pages o) (loc % 256)) (ap (λ p. key_of table p) here ∙ named)

-- one page was changed: the rows of the others are as they were
elsewhere : (old new : Pages) (table : List (Option ℕ)) (page key loc : ℕ) → ArePages old table → key_of table page ≡ Some key → IsOnePage old new key → loc / 256 ≢ page → (o : Option ℕ) → key_of table (loc / 256) ≡ o → page_row (rows_under new o) (loc % 256) ≡ page_row (rows_under old o) (loc % 256)
elsewhere old new table page key loc pages named one ne None e = refl
elsewhere old new table page key loc pages named one ne (Some k) e = ⊎_elim
    (λ (same : k ≡ key). absurd (ne (pages.apart (loc / 256) page key (e ∙ ap (λ n. Some n) same) named)))
    (λ (other : k ≢ key). ap (λ o. page_row o (loc % 256)) (one.others k other))
    (cases_eq k key)

-- and so is each row that stayed in that page
pub row_kept : (old new : Pages) (table : List (Option ℕ)) (page key loc : ℕ) → ArePages old table → key_of table page ≡ Some key → IsOnePage old new key → (loc / 256 ≡ page → page_row (rows_under new (Some key)) (loc % 256) ≡ page_row (rows_under old (Some key)) (loc % 256)) → paged_row new table loc ≡ paged_row old table loc
row_kept old new table page key loc pages named one stays = ⊎_elim
    (λ (here : loc / 256 ≡ page). row_here new table page key loc named here ∙ stays here ∙ sym (row_here old table page key loc named here))
    (λ (ne : loc / 256 ≢ page). elsewhere old new table page key loc pages named one ne (key_of table (loc / 256)) refl)
    (cases_eq (loc / 256) page)

-- what a new page at a key that was vacant needs
pub record IsNewPage (old new : Pages) (table : List (Option ℕ)) (page key : ℕ) (rows : Rows) : Type 0 where
  pub pages : ArePages old table
  pub named : page < length table
  pub absent : key_of table page ≡ None
  pub vacant : get_or old key None ≡ None
  pub made : get_or new key None ≡ Some rows
  pub counted : size rows ≡ 256
  pub blank : (place : ℕ) → row_in rows place ≡ unwritten
  pub others : (k : ℕ) → k ≢ key → get_or new k None ≡ get_or old k None
  pub count : count_by is_some new ≡ count_by is_some old + 1

-- no page that is there has the vacant key
not_vacant : (old new : Pages) (table : List (Option ℕ)) (page key : ℕ) (rows : Rows) (other : ℕ) → IsNewPage old new table page key rows → key_of table other ≡ Some key → ⊥
not_vacant old new table page key rows other n named =
    let all : page_size (rows_under old (Some key)) ≡ 256 = n.pages.sizes other key named in
    let none : page_size (rows_under old (Some key)) ≡ 0 = ap (λ o. page_size o) n.vacant in
    omega (arith, all, none)

others_same : (old new : Pages) (table : List (Option ℕ)) (page key : ℕ) (rows : Rows) (other : ℕ) → IsNewPage old new table page key rows → (o : Option ℕ) → key_of table other ≡ o → rows_under new o ≡ rows_under old o
others_same old new table page key rows other n None e = refl
others_same old new table page key rows other n (Some k) e = ⊎_elim
    (λ (same : k ≡ key). absurd (not_vacant old new table page key rows other n (e ∙ ap (λ m. Some m) same)))
    (λ (ne : k ≢ key). n.others k ne)
    (cases_eq k key)

-- each row is as it was
pub new_page_rows : (old new : Pages) (table : List (Option ℕ)) (page key : ℕ) (rows : Rows) → IsNewPage old new table page key rows → (loc : ℕ) → paged_row new (set table page (Some key)) loc ≡ paged_row old table loc
new_page_rows old new table page key rows n loc =
    let q = loc / 256 in
    ⊎_elim
    (λ (here : q ≡ page).
    let now : key_of (set table page (Some key)) q ≡ Some key = ap (λ p. key_of (set table page (Some key)) p) here ∙ get_or-set_same table page (Some key) None n.named in
    let before : key_of table q ≡ None = ap (λ p. key_of table p) here ∙ n.absent in
    ap (λ o. page_row (rows_under new o) (loc % 256)) now
    ∙ ap (λ o. page_row o (loc % 256)) n.made
    ∙ n.blank (loc % 256)
    ∙ ap (λ o. page_row (rows_under old o) (loc % 256)) (sym before))
    (λ (ne : q ≢ page).
    ap (λ o. page_row (rows_under new o) (loc % 256)) (key_elsewhere table page key q ne)
    ∙ ap (λ o. page_row o (loc % 256)) (others_same old new table page key rows q n (key_of table q) refl))
    (cases_eq q page)

-- and no page has less of what F gives: its width, or its greatest time
pub new_page_more : (F : Option Rows → ℕ) → F None ≡ 0 → (old new : Pages) (table : List (Option ℕ)) (page key : ℕ) (rows : Rows) → IsNewPage old new table page key rows → (other : ℕ) → F (rows_under old (key_of table other)) ≤ F (rows_under new (key_of (set table page (Some key)) other))
new_page_more F none old new table page key rows n other = ⊎_elim
    (λ (here : other ≡ page).
    let nothing : F (rows_under old (key_of table other)) ≡ 0 = ap (λ o. F (rows_under old o)) (ap (λ p. key_of table p) here ∙ n.absent) ∙ none in
    omega arith)
    (λ (ne : other ≢ page).
    let named : F (rows_under new (key_of (set table page (Some key)) other)) ≡ F (rows_under new (key_of table other)) = ap (λ o. F (rows_under new o)) (key_elsewhere table page key other ne) in
    let same : F (rows_under new (key_of table other)) ≡ F (rows_under old (key_of table other)) = ap F (others_same old new table page key rows other n (key_of table other) refl) in
    omega arith)
    (cases_eq other page)

-- and the new page can have what its rows can
pub HasRowsFor-new : (old new : Pages) (table : List (Option ℕ)) (page key : ℕ) (rows : Rows) → IsNewPage old new table page key rows → HasRowsFor new (set table page (Some key)) (width rows) (greatest rows) page
HasRowsFor-new old new table page key rows n =
    let wide : page_width (rows_under new (Some key)) ≡ width rows = ap (λ o. page_width o) n.made in
    let great : page_greatest (rows_under new (Some key)) ≡ greatest rows = ap (λ o. page_greatest o) n.made in
    rows_named new (set table page (Some key)) page key (width rows) (greatest rows) (get_or-set_same table page (Some key) None n.named) (omega (arith, wide)) (omega (arith, great))

new-sizes : (old new : Pages) (table : List (Option ℕ)) (page key : ℕ) (rows : Rows) → IsNewPage old new table page key rows → (other k : ℕ) → key_of (set table page (Some key)) other ≡ Some k → page_size (rows_under new (Some k)) ≡ 256
new-sizes old new table page key rows n other k named = ⊎_elim
    (λ (here : other ≡ page).
    let mine : ◌≡◌ {A = Option ℕ} (Some key) (Some k) = sym (get_or-set_same table page (Some key) None n.named) ∙ ap (λ p. key_of (set table page (Some key)) p) (sym here) ∙ named in
    ap (λ o. page_size (rows_under new o)) (sym mine) ∙ ap (λ o. page_size o) n.made ∙ n.counted)
    (λ (ne : other ≢ page).
    let before : key_of table other ≡ Some k = sym (key_elsewhere table page key other ne) ∙ named in
    ap (λ o. page_size o) (others_same old new table page key rows other n (Some k) before) ∙ n.pages.sizes other k before)
    (cases_eq other page)

-- a number that has the new key is the new page's
new-named : (old new : Pages) (table : List (Option ℕ)) (page key : ℕ) (rows : Rows) → IsNewPage old new table page key rows → (other : ℕ) → key_of (set table page (Some key)) other ≡ Some key → other ≡ page
new-named old new table page key rows n other named = ⊎_elim
    (λ (here : other ≡ page). here)
    (λ (ne : other ≢ page). absurd (not_vacant old new table page key rows other n (sym (key_elsewhere table page key other ne) ∙ named)))
    (cases_eq other page)

new-apart : (old new : Pages) (table : List (Option ℕ)) (page key : ℕ) (rows : Rows) → IsNewPage old new table page key rows → (p q k : ℕ) → key_of (set table page (Some key)) p ≡ Some k → key_of (set table page (Some key)) q ≡ Some k → p ≡ q
new-apart old new table page key rows n p q k a b = ⊎_elim
    (λ (same : k ≡ key). new-named old new table page key rows n p (a ∙ ap (λ m. Some m) same) ∙ sym (new-named old new table page key rows n q (b ∙ ap (λ m. Some m) same)))
    (λ (other : k ≢ key).
    n.pages.apart p q k
    (sym (key_elsewhere table page key p (old-named table page key p k n.named other a)) ∙ a)
    (sym (key_elsewhere table page key q (old-named table page key q k n.named other b)) ∙ b))
    (cases_eq k key)

-- they are the longer table's pages
pub ArePages-new : (old new : Pages) (table : List (Option ℕ)) (page key : ℕ) (rows : Rows) → IsNewPage old new table page key rows → ArePages new (set table page (Some key))
ArePages-new old new table page key rows n = record {
  sizes = new-sizes old new table page key rows n;
  apart = new-apart old new table page key rows n;
  counted = n.count ∙ ap (λ m. m + 1) n.pages.counted ∙ sym (count_by-set table page key n.named n.absent);
  few = omega (arith, length-set table page (Some key), n.pages.few);
}

-- a key that has a page lies in the slab
key_within : (pages : Pages) (key : ℕ) (rows : Rows) → get_or pages key None ≡ Some rows → key < length pages
key_within pages key rows h = ⊎_elim
    (λ (lt : key < length pages). lt)
    (λ (ge : length pages ≤ key). absurd (no_page rows (sym (get_or_past pages key None ge) ∙ h)))
    (cases_lt key (length pages))
  where
    no_page : (rows : Rows) → ◌≡◌ {A = Option Rows} None (Some rows) → ⊥
    no_page rows e = cc

page_here : (old : Pages) (key : ℕ) (rows changed : Rows) → get_or old key None ≡ Some rows → get_or (set old key (Some changed)) key None ≡ Some changed
page_here old key rows changed h = get_or-set_same old key (Some changed) None (key_within old key rows h)

-- and what is so of these rows is so of the page
pub page_changed : (R : (ℕ → Seen) → (ℕ → Seen) → Type 0) (old : Pages) (key : ℕ) (rows changed : Rows) → get_or old key None ≡ Some rows → R (row_in rows) (row_in changed) → R (page_row (rows_under old (Some key))) (page_row (rows_under (set old key (Some changed)) (Some key)))
page_changed R old key rows changed h r =
    let P : Option Rows → Type 0 = λ o. R (page_row o) (page_row (rows_under (set old key (Some changed)) (Some key))) in
    let Q : Option Rows → Type 0 = λ o. R (row_in rows) (page_row o) in
    subst P (sym h) (subst Q (sym (page_here old key rows changed h)) r)

-- a row of a page that was given times is its location's
pub given-paged : (f : ℕ → ℕ) (old new : Pages) (table : List (Option ℕ)) (loc key stamp depth : ℕ) → ArePages old table → key_of table (loc / 256) ≡ Some key → IsOnePage old new key → IsGiven f (loc % 256) stamp depth (page_row (rows_under old (Some key))) (page_row (rows_under new (Some key))) → IsGiven f loc stamp depth (paged_row old table) (paged_row new table)
given-paged f old new table loc key stamp depth pages named one is =
    let here : paged_row new table loc ≡ page_row (rows_under new (Some key)) (loc % 256) = row_here new table (loc / 256) key loc named refl in
    record {
      stamped = ap (λ r. r.stamp) here ∙ is.stamped;
      given = λ k lt. ap (λ r. r.time k) here ∙ is.given k lt;
      others = λ at ne. row_kept old new table (loc / 256) key at pages named one (λ same. is.others (at % 256) (λ place. ne (omega (arith, same, place))));
    }
