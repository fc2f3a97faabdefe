-- The names of lines that short circuits add are legal.
use Rattle.std.proofs.Common.{◌≡◌, ◌∙◌, ℕ, zero, suc, ◌+◌, ◌<◌, ◌^◌, ◌%◌, true, false, ◌&&◌, List, [], ◌∷◌, ◌++◌, Option, Some, None, IsSome, is_none, nat_lt, length, refl, arith, codes}
use Rattle.std.specs.Char.{to_ascii_lowercase}
use Rattle.std.specs.Fmt.{decimal}
use Rattle.std.specs.List.{list_all}
use Rattle.std.proofs.lemmas.Bool.{lt-ltb}
use Rattle.std.proofs.lemmas.Fmt.{decimal_by_steps}
use Rattle.std.proofs.lemmas.List.{map-append}
use Rattle.std.proofs.lemmas.List.Folds.{list_all-append}
use Rattle.dss_ready.specs.dss_model.Names.{is_name, is_name_character, lower}
use Rattle.dss_ready.specs.dss_circuit.WellFormed.{IsKey}
use Rattle.fd_fault.specs.ShortNames.{line_name, short_name}

below_ten : (P : ℕ → Type 0) → P 0 → P 1 → P 2 → P 3 → P 4 → P 5 → P 6 → P 7 → P 8 → P 9 → (d : ℕ) → d < 10 → P d
below_ten P a b c d e f g h i j zero l = a
below_ten P a b c d e f g h i j (suc zero) l = b
below_ten P a b c d e f g h i j (suc (suc zero)) l = c
below_ten P a b c d e f g h i j (suc (suc (suc zero))) l = d
below_ten P a b c d e f g h i j (suc (suc (suc (suc zero)))) l = e
below_ten P a b c d e f g h i j (suc (suc (suc (suc (suc zero))))) l = f
below_ten P a b c d e f g h i j (suc (suc (suc (suc (suc (suc zero)))))) l = g
below_ten P a b c d e f g h i j (suc (suc (suc (suc (suc (suc (suc zero))))))) l = h
below_ten P a b c d e f g h i j (suc (suc (suc (suc (suc (suc (suc (suc zero)))))))) l = i
below_ten P a b c d e f g h i j (suc (suc (suc (suc (suc (suc (suc (suc (suc zero))))))))) l = j
below_ten P a b c d e f g h i j (suc (suc (suc (suc (suc (suc (suc (suc (suc (suc n)))))))))) l = absurd (omega arith)

-- characters of names, in lower case
record AreFine (ds : List ℕ) : Type 0 where
  legal : list_all is_name_character ds ≡ true
  low : lower ds ≡ ds

fine_digit : (d : ℕ) → d < 10 → AreFine ((48 + d) ∷ [])
fine_digit =
    let F : ℕ → Type 0 = λ d. AreFine ((48 + d) ∷ []) in
    below_ten F (record { legal = refl; low = refl }) (record { legal = refl; low = refl }) (record { legal = refl; low = refl })
    (record { legal = refl; low = refl }) (record { legal = refl; low = refl }) (record { legal = refl; low = refl })
    (record { legal = refl; low = refl }) (record { legal = refl; low = refl }) (record { legal = refl; low = refl })
    (record { legal = refl; low = refl })

fine_joined : (xs ys : List ℕ) → AreFine xs → AreFine ys → AreFine (xs ++ ys)
fine_joined xs ys h k = record {
  legal = list_all-append is_name_character xs ys ∙ (λ i. h.legal i && k.legal i);
  low = map-append to_ascii_lowercase xs ys ∙ (λ i. h.low i ++ k.low i);
}

fine_number : (n : ℕ) → n < 2 ^ 64 → AreFine (decimal n)
fine_number =
    decimal_by_steps (λ n ds. AreFine ds) (λ n l. fine_digit n l)
    (λ n ds l h. fine_joined ds ((48 + n % 10) ∷ []) h (fine_digit (n % 10) (omega arith)))

plain_fine : AreFine (codes "short")
plain_fine = record { legal = refl; low = refl }

stem_fine : AreFine (codes "short-")
stem_fine = record { legal = refl; low = refl }

fine_name : (k : ℕ) → k < 2 ^ 64 → AreFine (short_name k)
fine_name zero l = plain_fine
fine_name (suc k) l = fine_joined (codes "short-") (decimal (suc k)) stem_fine (fine_number (suc k) l)

some_length : (k : ℕ) → nat_lt 0 (length (short_name k)) ≡ true
some_length zero = refl
some_length (suc k) = lt-ltb 0 (length (short_name (suc k))) (omega arith)

pub short_key : (k : ℕ) → k < 2 ^ 64 → IsKey (line_name k)
unfolding is_name
short_key k l =
    let fine = fine_name k l in
    record { legal = λ i. some_length k i && fine.legal i; in_lower_case = fine.low }

pub none_where : {X : Type 0} (o : Option X) → is_none o ≡ true → o ≡ None
none_where None h = refl
none_where (Some x) h = cc h

pub some_where : {X : Type 0} (o : Option X) → is_none o ≡ false → IsSome o
some_where None h = cc h
some_where (Some x) h = refl
