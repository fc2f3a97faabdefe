-- The lines of a round are those of its block, and its block can be written.
use Rattle.std.proofs.Common.{◌≡◌, ℕ, zero, suc, ◌+◌, ◌<◌, ◌≤◌, ◌^◌, ℤ, pos, negsuc, nat_abs, List, [], ◌∷◌, ◌++◌, length, get_or, drop, take, All, inl, inr, refl, ap, sym, subst, ◌∙◌, arith}
use Rattle.std.specs.Prelude.{map}
use Rattle.std.specs.List.{AllByRecursion, range_with_len}
use Rattle.std.proofs.lemmas.List.{append_assoc, drop_more, get_or_default, get_or-take, length-take, map-append, map_push}
use Rattle.std.proofs.lemmas.Bool.{cases_eq}
use Rattle.std.proofs.lemmas.List.Elements.{recursion_from_All}
use Rattle.fd_settle.specs.fd_exact.States.{entry, part}
use Rattle.fd_settle.specs.fd_equations.Rounded.{list_of}
use Rattle.fd_settle.proofs.CallerLemmas.fd_equations.{length-list_of, list_of-ext, list_of-more}
use Rattle.fd_lines.specs.fd_outside.declared.bytes.Record.{Record}
use Rattle.fd_lines.specs.fd_outside.Emitted.{pieces_of}
use Rattle.fd_settle.specs.fd_mat.Rows.{row_of}
use Rattle.fd_settle.specs.fd_enclosure.Sound.{IsInverse}
use Rattle.fd_settle.proofs.CallerLemmas.fd_cert.{of_inverse}
use Rattle.fd_settle.specs.fd_cert.Claims.{claim_in, support_in}
use Rattle.fd_settle.specs.declared.round.Act.{Act as Made}
use Rattle.fd_settle.specs.declared.round.Round.{Round}
use Rattle.fd_lines.specs.Numbers.{IsNumber}
use Rattle.fd_certfile.specs.Lines.{Line, line_bytes, solution}
use Rattle.fd_certfile.specs.Blocks.{Sparse, Part, Block, part_line, row_line, act_line, numbered_lines, block_lines, IsSized, IsWritable}
use Rattle.fd_certfile.specs.Rounds.{AreNumbers, IsRoundOf, act_of, block_of, part_in, rows_in}

-- ---- lines

map-map : {X Y Z : Type 0} (g : Y → Z) (f : X → Y) (xs : List X) → map g (map f xs) ≡ map (λ x. g (f x)) xs
map-map g f [] = refl
map-map g f (x ∷ xs) = ap (λ ys. g (f x) ∷ ys) (map-map g f xs)

numbered_range : {X : Type 0} (line : ℕ → X → Line) (f : ℕ → X) (a n : ℕ)
    → numbered_lines line a (map f (range_with_len a n)) ≡ map (λ i. line i (f i)) (range_with_len a n)
numbered_range line f a zero = refl
numbered_range line f a (suc n) = ap (λ ls. line a (f a) ∷ ls) (numbered_range line f (a + 1) n)

pub numbered_list : {X : Type 0} (line : ℕ → X → Line) (f : ℕ → X) (n : ℕ)
    → map line_bytes (numbered_lines line 0 (list_of n f)) ≡ list_of n (λ i. line_bytes (line i (f i)))
numbered_list line f n = ap (map line_bytes) (numbered_range line f 0 n)
    ∙ map-map line_bytes (λ i. line i (f i)) (range_with_len 0 n)

pub numbered_rows : (rows : List (List ℤ))
    → map line_bytes (numbered_lines (row_line Sparse) 0 rows) ≡ list_of (length rows) (λ i. line_bytes (row_line Sparse i (row_of rows i)))
numbered_rows rows =
    ap (λ (rs : List (List ℤ)). map line_bytes (numbered_lines (row_line Sparse) 0 rs)) (list_of-ext rows (length rows) (row_of rows) [] refl (λ i h. refl))
    ∙ numbered_list (row_line Sparse) (row_of rows) (length rows)

module _ (size number hour round : ℕ) (made : Round) where
  block : Block
  block = block_of size number hour round made

  pub lines_together : (first parts rows acts : List (List ℕ))
      → first ≡ line_bytes (solution (pos number) (pos hour) (pos round) (pos size)) ∷ []
      → parts ≡ first ++ list_of size (λ i. line_bytes (part_line i (part_in (claim_in made.certified.value) i)))
      → length (rows_in made) ≡ size
      → rows ≡ parts ++ list_of (length (rows_in made)) (λ i. line_bytes (row_line Sparse i (row_of (rows_in made) i)))
      → acts ≡ rows ++ map line_bytes (map act_line (map act_of made.acts.items))
      → acts ≡ map line_bytes (block_lines Sparse (block_of size number hour round made))
  lines_together first parts rows acts f p l r a =
      let ps = numbered_lines part_line 0 (list_of size (part_in (claim_in made.certified.value))) in
      let rs = numbered_lines (row_line Sparse) 0 (rows_in made) in
      let s = line_bytes (solution (pos number) (pos hour) (pos round) (pos size)) in
      let bs = map line_bytes (map act_line (map act_of made.acts.items)) in
      let p' : parts ≡ s ∷ map line_bytes ps = p
      ∙ ap (λ t. t ++ list_of size (λ i. line_bytes (part_line i (part_in (claim_in made.certified.value) i)))) f
      ∙ ap (λ t. s ∷ t) (sym (numbered_list part_line (part_in (claim_in made.certified.value)) size)) in
      let r' : rows ≡ (s ∷ map line_bytes ps) ++ map line_bytes rs = r
      ∙ ap (λ t. t ++ list_of (length (rows_in made)) (λ i. line_bytes (row_line Sparse i (row_of (rows_in made) i)))) p'
      ∙ ap (λ t. (s ∷ map line_bytes ps) ++ t) (sym (numbered_rows (rows_in made))) in
      a ∙ ap (λ t. t ++ bs) r'
      ∙ append_assoc (s ∷ map line_bytes ps) (map line_bytes rs) bs
      ∙ ap (λ t. (s ∷ map line_bytes ps) ++ t) (sym (map-append line_bytes rs (map act_line (map act_of made.acts.items))))
      ∙ ap (λ t. s ∷ t) (sym (map-append line_bytes ps (rs ++ map act_line (map act_of made.acts.items))))

-- ---- sizes and bounds

all_by : {X : Type 0} (P : X → Type 0) (d : X) (xs : List X) → ((i : ℕ) → i < length xs → P (get_or xs i d))
    → AllByRecursion P xs
all_by P d [] h = tt
all_by P d (x ∷ xs) h = (h 0 (omega arith), all_by P d xs (λ i l. h (suc i) (omega (arith, l))))

all_of : {X : Type 0} (P : X → Type 0) (f : ℕ → X) (a n : ℕ) → ((i : ℕ) → i < a + n → P (f i))
    → AllByRecursion P (map f (range_with_len a n))
all_of P f a zero h = tt
all_of P f a (suc n) h = (h a (omega arith), all_of P f (a + 1) n (λ i l. h i (omega (arith, l))))

all_map : {X Y : Type 0} (P : Y → Type 0) (f : X → Y) (xs : List X) → AllByRecursion (λ x. P (f x)) xs
    → AllByRecursion P (map f xs)
all_map P f [] h = tt
all_map P f (x ∷ xs) h = (h.0, all_map P f xs h.1)

module _ (size number hour round : ℕ) (made : Round) (is : IsRoundOf size made)
    (wide : (i : ℕ) → i < length (rows_in made) → length (row_of (rows_in made) i) ≡ length (rows_in made))
  where
    inverse : IsInverse size (rows_in made)
    inverse = of_inverse size (support_in made.certified.value.support) is.inverse

    pub sized : IsSized (block_of size number hour round made)
    sized = record {
      parts = length-list_of size (part_in (claim_in made.certified.value));
      rows = inverse.long;
      entries = all_by (λ r. length r ≡ size) [] (rows_in made) (λ i l. wide i l ∙ inverse.long);
    }

    number_is : (z : ℤ) (n : ℕ) → nat_abs z ≤ n → n < 2 ^ 127 → IsNumber z
    number_is (pos k) n h l = omega (arith, h, l)
    number_is (negsuc k) n h l = omega (arith, h, l)

    row_numbers : (i : ℕ) → i < length (rows_in made)
        → AllByRecursion IsNumber (row_of (rows_in made) i)
    row_numbers i l = all_by IsNumber (pos 0) (row_of (rows_in made) i)
        (λ j m. number_is (entry (rows_in made) i j) (2 ^ 56) (inverse.small i j l (omega (arith, m, wide i l))) (omega arith))

    pub writable : number < 2 ^ 32 → hour < 2 ^ 32 → round < 2 ^ 32 → size < 2 ^ 32
        → All (λ (a : Made). AreNumbers (act_of a)) made.acts.items → IsWritable (block_of size number hour round made)
    writable n h r s acts = record {
      due = (omega (arith, n), (omega (arith, h), (omega (arith, r), (omega (arith, s), tt))));
      parts = all_of (λ (p : Part). AllByRecursion IsNumber (p.centre ∷ p.radius ∷ p.mismatch ∷ [])) (part_in (claim_in made.certified.value)) 0 size (λ i l. (
        number_is (part made.certified.value.ball.centre.items i) (2 ^ 40) (is.centre i (omega (arith, l))) (omega arith),
        (omega (arith, is.radii i (omega (arith, l))), (omega (arith, is.mismatches i (omega (arith, l))), tt)),
      ));
      inverse = all_by (AllByRecursion IsNumber) [] (rows_in made) row_numbers;
      acts = all_map AreNumbers act_of made.acts.items (recursion_from_All (λ (a : Made). AreNumbers (act_of a)) made.acts.items acts);
    }

-- ---- a line more

pub list_pushed : {X : Type 0} (base now next : List X) (n : ℕ) (f : ℕ → X) (x : X) → now ≡ base ++ list_of n f
    → next ≡ now ++ x ∷ [] → x ≡ f n → next ≡ base ++ list_of (n + 1) f
list_pushed base now next n f x e p s =
    p ∙ ap (λ t. t ++ x ∷ []) e ∙ append_assoc base (list_of n f) (x ∷ []) ∙ ap (λ y. base ++ (list_of n f ++ y ∷ [])) s
    ∙ ap (λ t. base ++ t) (sym (list_of-more n f))

pub pieces_pushed : (rs next : List Record) (r : Record) → next ≡ rs ++ r ∷ []
    → pieces_of next ≡ pieces_of rs ++ r.bytes ∷ []
pieces_pushed rs next r e = ap pieces_of e ∙ map_push (λ (q : Record). q.bytes) rs r

pub all_pushed : {X : Type 0} (P : X → Type 0) (xs : List X) (i : ℕ) (e : X) → P (get_or xs i e) → All P (take i xs)
    → i < length xs → All P (take (i + 1) xs)
all_pushed P xs i e h a l k d m =
    let below : k < i + 1 = omega (arith, m, length-take (i + 1) xs) in
    elim (cases_eq k i) [
      | inl same ↦ subst P (sym (get_or-take (i + 1) xs k d below ∙ ap (λ j. get_or xs j d) same ∙ get_or_default xs i d e l)) h
      | inr other ↦
          let less : k < i = omega (arith, below, other) in
          subst P (get_or-take i xs k d less ∙ sym (get_or-take (i + 1) xs k d below)) (a k d (omega (arith, less, l, length-take i xs)))
    ]

-- the lines of acts
abbrev pub lines_left : List Made → List (List ℕ)
lines_left acts = map line_bytes (map act_line (map act_of acts))

pub acts_pushed : (base now next : List (List ℕ)) (acts : List Made) (i : ℕ) (e : Made) (b : List ℕ)
    → now ++ lines_left (drop i acts) ≡ base ++ lines_left acts → next ≡ now ++ b ∷ []
    → b ≡ line_bytes (act_line (act_of (get_or acts i e))) → i < length acts
    → next ++ lines_left (drop (i + 1) acts) ≡ base ++ lines_left acts
acts_pushed base now next acts i e b so_far p q l =
    ap (λ t. t ++ lines_left (drop (i + 1) acts)) p ∙ append_assoc now (b ∷ []) (lines_left (drop (i + 1) acts))
    ∙ ap (λ c. now ++ c ∷ lines_left (drop (i + 1) acts)) q
    ∙ sym (ap (λ ds. now ++ lines_left ds) (drop_more acts i e l)) ∙ so_far
