-- Numbers of rows that are out of range.
use Rattle.std.proofs.Common.{◌≡◌, ◌∙◌, ℕ, zero, suc, ◌<◌, ◌^◌, nat_abs, nat_lt, true, false, Bool, List, [], ◌∷◌, length, get_or, arith, ap, refl, sym}
use Rattle.std.specs.Prelude.{◌||◌}
use Rattle.std.proofs.lemmas.Bool.{or_from}
use Rattle.fd_cert.specs.fd_enclosure.Sound.{number_at}
use Rattle.fd_bounds.specs.fd_triangles.Rows.{entry_at}
use Rattle.fd_bounds.specs.fd_derived.Rows.{derived_row, entries_of, no_row, row_at}
use Rattle.fd_bounds.specs.fd_derived.declared.entries.Entry.{Entry}
use Rattle.fd_bounds.specs.fd_derived.declared.entries.Row.{Row}
use Rattle.fd_rowcert.specs.Rechecks.{has_large, is_large}
use Rattle.fd_rowcert.proofs.Lists.{at_read}

pub row_read : (rows : List Row) (i : ℕ) (x : Row) → i < length rows → row_at rows i ≡ derived_row (get_or rows i x)
row_read rows i x h = at_read derived_row no_row rows i x h

-- of what is read of a claim
pub large_at : (hs : List ℕ) (rows : List Row) (i h : ℕ) (x : Row) → i < length hs → i < length rows → h ≡ get_or hs i h
    → x ≡ get_or rows i x → is_large h (derived_row x) ≡ is_large (number_at hs i) (row_at rows i)
large_at hs rows i h x in_hs in_rows e f =
    let height : h ≡ number_at hs i = e ∙ any_default hs i h in_hs in
    let row : derived_row x ≡ row_at rows i = ap derived_row f ∙ sym (row_read rows i x in_rows) in
    λ t. is_large (height t) (row t)
  where
    any_default : (hs : List ℕ) (i d : ℕ) → i < length hs → get_or hs i d ≡ number_at hs i
    any_default [] i d l = absurd (omega arith)
    any_default (x ∷ hs) zero d l = refl
    any_default (x ∷ hs) (suc i) d l = any_default hs i d (omega arith)

pub none_large : (row : List Entry) → ((k : ℕ) → k < length row
    → nat_lt (2 ^ 62) (nat_abs (entry_at row k).units) ≡ false)
    → has_large (entries_of row) ≡ false
none_large [] h = refl
none_large (e ∷ row) h = or_from (nat_lt (2 ^ 62) (nat_abs e.units)) (has_large (entries_of row)) (h 0 (omega arith))
    (none_large row (λ k l. h (suc k) (omega arith)))

first_true : (a b : Bool) → a ≡ true → a || b ≡ true
first_true true b e = refl
first_true false b e = let no : ⊥ = cc in absurd no

second_true : (a b : Bool) → b ≡ true → a || b ≡ true
second_true true b e = refl
second_true false b e = e

pub one_large : (row : List Entry) (k : ℕ) → k < length row → nat_lt (2 ^ 62) (nat_abs (entry_at row k).units) ≡ true
    → has_large (entries_of row) ≡ true
one_large [] k l h = absurd (omega arith)
one_large (e ∷ row) zero l h = first_true (nat_lt (2 ^ 62) (nat_abs e.units)) (has_large (entries_of row)) h
one_large (e ∷ row) (suc k) l h = second_true (nat_lt (2 ^ 62) (nat_abs e.units)) (has_large (entries_of row))
    (one_large row k (omega arith) h)
