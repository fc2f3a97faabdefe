-- A row of version 1 in version 2, of which each entry has the text of its field.
use Rattle.std.proofs.Common.{◌≡◌, ℕ, ◌+◌, ◌≤◌, true, false, ℤ, pos, List, [], ◌∷◌, ◌++◌, length, inl, inr, Option, Some, None, refl, ap, sym, subst, ◌∙◌, arith, true≢false}
use Rattle.std.specs.Prelude.{IsSome, codes, count_by, option_map}
use Rattle.std.specs.Fmt.{signed_decimal}
use Rattle.std.specs.List.{slice_split}
use Rattle.std.proofs.lemmas.Bool.{cases_Bool, cond-true, cond-false}
use Rattle.std.proofs.lemmas.Fmt.{decimal_digit}
use Rattle.std.proofs.lemmas.List.{append_assoc, append-nil}
use Rattle.std.proofs.lemmas.List.Splits.{length-slice_split}
use Rattle.std.proofs.lemmas.List.Sums.{count_by-le-length}
use Rattle.fd_lines.specs.Numbers.{number_of, numbers_of, text_eq}
use Rattle.fd_certfile.specs.Lines.{is_blank, line_bytes, row}
use Rattle.fd_certfile.specs.Blocks.{Whole, is_entry, is_zero}
use Rattle.fd_certfile.specs.Texts.{entry_count, entry_text, field_text, fields_text, with_entries}
use Rattle.fd_certfile.specs.Upgrade.{upgraded}
use Rattle.fd_certfile.specs.Views.{or_other}
use Rattle.fd_lines.proofs.CallerLemmas.{number_again, number_found}
use Rattle.fd_certfile.proofs.PairReading.{count_append}
use Rattle.fd_certfile.proofs.RowForms.{is_zero_pos, pairs_from}
use Rattle.fd_certfile.proofs.RowTexts.{row_fields}
use Rattle.fd_lines.proofs.CallerLemmas.{and_then_some, map_some, same_from, same_self}

-- ---- the text of 0

zero_text : signed_decimal (pos 0) ≡ codes "0"
zero_text = decimal_digit 0 (omega arith)

zero_field : (field : List ℕ) (z : ℤ) → number_of field ≡ Some z → text_eq field (codes "0") ≡ true → z ≡ pos 0
zero_field field z e h =
    let same : Some z ≡ Some (pos 0) = sym e ∙ ap number_of (same_from field (codes "0") h ∙ sym zero_text) ∙ number_again (pos 0) (omega arith) in
    cc

entry_field : (field : List ℕ) (z : ℤ) → number_of field ≡ Some z → text_eq field (codes "0") ≡ false → is_zero z ≡ false
entry_field field z e h = elim (cases_Bool (is_zero z)) [
  | inl is ↦
      let same : field ≡ codes "0" = (number_found field z e).0 ∙ ap signed_decimal (is_zero_pos z is) ∙ zero_text in
      let k : text_eq field (codes "0") ≡ true = ap (λ (t : List ℕ). text_eq t (codes "0")) same ∙ same_self (codes "0") in
      absurd (true≢false (sym k ∙ h))
  | inr isnt ↦ isnt
]

-- ---- the entries, field by field

-- the first number of some fields, and the others
record AreNumbers (field : List ℕ) (more : List (List ℕ)) (zs : List ℤ) : Type 0 where
  pub first : ℤ
  pub others : List ℤ
  pub first_is : number_of field ≡ Some first
  pub others_are : numbers_of more ≡ Some others
  pub both : first ∷ others ≡ zs

numbers_parted : (field : List ℕ) (more : List (List ℕ)) (zs : List ℤ) → numbers_of (field ∷ more) ≡ Some zs → AreNumbers field more zs
numbers_parted field more zs e =
    let a = and_then_some (λ z. option_map (λ ys. z ∷ ys) (numbers_of more)) (number_of field) zs e in
    let b = map_some (λ ys. a.0 ∷ ys) (numbers_of more) zs a.2 in
    record { first = a.0; others = b.0; first_is = a.1; others_are = b.1; both = b.2 }

-- So many fields were read and so many of them aren't 0: what is written, and what the fields that are left give, is
-- what all give.
pub record AreWritten (base now : List ℕ) (all : List (List ℕ)) (place count : ℕ) (rest : List (List ℕ)) : Type 0 where
  pub entries : List ℤ
  pub left : List ℤ
  pub all_are : numbers_of all ≡ Some entries
  pub left_are : numbers_of rest ≡ Some left
  pub many : place + length rest ≡ length all
  pub within : count ≤ place
  pub counted : count + count_by is_entry left ≡ count_by is_entry entries
  pub text : now ++ fields_text (pairs_from place left) ≡ base ++ fields_text (pairs_from 0 entries)

some_is : {X : Type 0} (o : Option X) → IsSome o → (x : X) × (o ≡ Some x)
some_is None h = absurd cc
some_is (Some x) h = (x, refl)

pub written_start : (base : List ℕ) (all : List (List ℕ)) → IsSome (numbers_of all) → AreWritten base base all 0 0 all
written_start base all h =
    let zs = some_is (numbers_of all) h in
    record {
      entries = zs.0;
      left = zs.0;
      all_are = zs.1;
      left_are = zs.1;
      many = omega arith;
      within = omega arith;
      counted = omega arith;
      text = refl;
    }

module _ (base now : List ℕ) (all : List (List ℕ)) (place count : ℕ) where
  written_zero : (rest : List (List ℕ)) (field : List ℕ) (more : List (List ℕ)) → rest ≡ field ∷ more
      → AreWritten base now all place count rest → text_eq field (codes "0") ≡ true
      → AreWritten base now all (place + 1) count more
  written_zero rest field more r t h =
      let ns = numbers_parted field more t.left (sym (ap numbers_of r) ∙ t.left_are) in
      let left_is : t.left ≡ pos 0 ∷ ns.others =
      sym ns.both ∙ ap (λ (z : ℤ). z ∷ ns.others) (zero_field field ns.first ns.first_is h) in
      record {
        entries = t.entries;
        left = ns.others;
        all_are = t.all_are;
        left_are = ns.others_are;
        many = omega (arith, t.many, ap length r);
        within = omega (arith, t.within);
        counted = sym (ap (λ (zs : List ℤ). count + count_by is_entry zs) left_is) ∙ t.counted;
        text = sym (ap (λ (zs : List ℤ). now ++ fields_text (pairs_from place zs)) left_is) ∙ t.text;
      }

  written_entry : (rest : List (List ℕ)) (field : List ℕ) (more : List (List ℕ)) (placed next : List ℕ) → rest ≡ field ∷ more
      → AreWritten base now all place count rest → text_eq field (codes "0") ≡ false
      → placed ≡ now ++ field_text (pos place) → next ≡ placed ++ 32 ∷ field
      → AreWritten base next all (place + 1) (count + 1) more
  written_entry rest field more placed next r t h p n =
      let ns = numbers_parted field more t.left (sym (ap numbers_of r) ∙ t.left_are) in
      let some = entry_field field ns.first ns.first_is h in
      let after = fields_text (pairs_from (place + 1) ns.others) in
      let field_is : 32 ∷ field ≡ field_text ns.first = ap (λ (t : List ℕ). 32 ∷ t) (number_found field ns.first ns.first_is).0 in
      record {
        entries = t.entries;
        left = ns.others;
        all_are = t.all_are;
        left_are = ns.others_are;
        many = omega (arith, t.many, ap length r);
        within = omega (arith, t.within);
        counted = one_more ns.first ns.others some ∙ ap (λ (zs : List ℤ). count + count_by is_entry zs) ns.both ∙ t.counted;
        text = ap (λ (t : List ℕ). t ++ after) (n ∙ ap (λ (t : List ℕ). t ++ 32 ∷ field) p)
            ∙ append_assoc (now ++ field_text (pos place)) (32 ∷ field) after
            ∙ append_assoc now (field_text (pos place)) ((32 ∷ field) ++ after)
            ∙ ap (λ (f : List ℕ). now ++ (field_text (pos place) ++ (f ++ after))) field_is
            ∙ sym (ap (λ (zs : List ℤ). now ++ fields_text (zs ++ pairs_from (place + 1) ns.others)) (cond-false (is_zero ns.first) [] (pos place ∷ ns.first ∷ []) some))
            ∙ ap (λ (zs : List ℤ). now ++ fields_text (pairs_from place zs)) ns.both ∙ t.text;
      }
    where
      one_more : (z : ℤ) (zs : List ℤ) → is_zero z ≡ false → count + 1 + count_by is_entry zs ≡ count + count_by is_entry (z ∷ zs)
      one_more z zs s =
          let one : count_by is_entry (z ∷ []) ≡ 1 = rw s refl in
          omega (arith, one, count_append (z ∷ []) zs)

  pub written_more : (rest : List (List ℕ)) (field : List ℕ) (more : List (List ℕ)) (next : List ℕ) (ones : ℕ) → rest ≡ field ∷ more
      → AreWritten base now all place count rest → next ≡ now ++ entry_text place field → ones ≡ entry_count field
      → AreWritten base next all (place + 1) (count + ones) more
  written_more rest field more next ones r t n o = elim (cases_Bool (text_eq field (codes "0"))) [
    | inl is ↦
        let none : count ≡ count + ones = omega (arith, o ∙ cond-true (text_eq field (codes "0")) 0 1 is) in
        let same : now ≡ next = sym (append-nil now) ∙ sym (n ∙ ap (λ (t : List ℕ). now ++ t) (cond-true (text_eq field (codes "0")) [] _ is)) in
        subst (λ (k : ℕ). AreWritten base next all (place + 1) k more) none
        (subst (λ (t : List ℕ). AreWritten base t all (place + 1) count more) same (written_zero rest field more r t is))
    | inr isnt ↦
        let one : ones ≡ 1 = o ∙ cond-false (text_eq field (codes "0")) 0 1 isnt in
        let placed : next ≡ (now ++ field_text (pos place)) ++ 32 ∷ field =
        n ∙ ap (λ (t : List ℕ). now ++ t) (cond-false (text_eq field (codes "0")) [] (field_text (pos place) ++ 32 ∷ field) isnt)
        ∙ sym (append_assoc now (field_text (pos place)) (32 ∷ field)) in
        subst (λ (k : ℕ). AreWritten base next all (place + 1) (count + k) more) (sym one)
        (written_entry rest field more (now ++ field_text (pos place)) next r t isnt refl placed)
  ]

  pub written_all : (rest : List (List ℕ)) → rest ≡ [] → AreWritten base now all place count rest
      → Some (count, now) ≡ option_map (with_entries base) (numbers_of all)
  written_all rest r t =
      let none : Some [] ≡ Some t.left = sym (ap numbers_of r) ∙ t.left_are in
      let nil : [] ≡ t.left = cc in
      let counted : count ≡ count_by is_entry t.entries =
      omega (arith, t.counted, ap (count_by is_entry) nil) in
      let text : now ≡ base ++ fields_text (pairs_from 0 t.entries) =
      sym (append-nil now) ∙ ap (λ (zs : List ℤ). now ++ fields_text (pairs_from place zs)) nil ∙ t.text in
      (λ i. Some (counted i, text i)) ∙ sym (ap (option_map (with_entries base)) t.all_are)

-- ---- a row

pub entries_few : (text field : List ℕ) (more : List (List ℕ)) → slice_split is_blank text ≡ field ∷ more
    → length more ≤ length text
entries_few text field more e =
    omega (arith, ap length e, length-slice_split is_blank text, count_by-le-length is_blank text)

pub entries_known : (field : List ℕ) (fields more : List (List ℕ)) → fields ≡ field ∷ more → IsSome (numbers_of fields)
    → IsSome (numbers_of more)
entries_known field fields more e h =
    let zs = some_is (numbers_of fields) h in
    let ns = numbers_parted field more zs.0 (sym (ap numbers_of e) ∙ zs.1) in
    subst IsSome (sym ns.others_are) refl

pub row_written : (place : List ℕ) (fields more : List (List ℕ)) (count : ℕ) (none pairs with_place with_count with_pairs text : List ℕ)
    → fields ≡ place ∷ more → IsSome (numbers_of fields) → none ≡ []
    → Some (count, pairs) ≡ option_map (with_entries none) (numbers_of more)
    → with_place ≡ codes "c" ++ 32 ∷ place → with_count ≡ with_place ++ field_text (pos count)
    → with_pairs ≡ with_count ++ pairs → text ≡ with_pairs ++ 10 ∷ []
    → Some text ≡ option_map (λ zs. line_bytes (upgraded Whole (row zs))) (numbers_of fields)
row_written place fields more count none pairs with_place with_count with_pairs text e h nil found p c ps t =
    let zs = some_is (numbers_of fields) h in
    let ns = numbers_parted place more zs.0 (sym (ap numbers_of e) ∙ zs.1) in
    let pair : Some (count, pairs) ≡ Some (with_entries [] ns.others) =
    found ∙ ap (λ (b : List ℕ). option_map (with_entries b) (numbers_of more)) nil ∙ ap (option_map (with_entries [])) ns.others_are in
    let both : (count, pairs) ≡ with_entries [] ns.others = cc in
    let place_is : 32 ∷ place ≡ field_text ns.first = ap (λ (t : List ℕ). 32 ∷ t) (number_found place ns.first ns.first_is).0 in
    let whole : text ≡ line_bytes (upgraded Whole (row (ns.first ∷ ns.others))) =
    t ∙ ap (λ (t : List ℕ). t ++ 10 ∷ [])
    (ps ∙ ap (λ (t : List ℕ). t ++ pairs) (c ∙ ap (λ (t : List ℕ). t ++ field_text (pos count)) (p ∙ ap (λ (f : List ℕ). codes "c" ++ f) place_is))
    ∙ ap (λ (q : ℕ × List ℕ). ((codes "c" ++ field_text ns.first) ++ field_text (pos q.0)) ++ q.1) both)
    ∙ row_fields ns.first ns.others in
    ap Some whole ∙ ap (λ (ys : List ℤ). Some (line_bytes (upgraded Whole (row ys)))) ns.both
    ∙ sym (ap (option_map (λ ys. line_bytes (upgraded Whole (row ys)))) zs.1)

-- the line of a row
pub row_line_is : (o : Option (List ℤ)) (text : List ℕ) → Some text ≡ option_map (λ zs. line_bytes (upgraded Whole (row zs))) o
    → text ≡ line_bytes (upgraded Whole (or_other row o))
row_line_is None text e = absurd cc
row_line_is (Some zs) text e = cc
