-- A panel has one mark for each of its nodes.
use Rattle.std.proofs.Common.{◌≡◌, ◌∙◌, ◌+◌, ℕ, zero, suc, List, [], ◌∷◌, ◌++◌, length, map, Some, refl, ap, arith}
use Rattle.std.specs.List.{enumerate_from, flat_map, slice_get}
use Rattle.fd_picture.specs.Laws.{MarksLaw, mark_at}
use Rattle.fd_picture.specs.Marks.{mark_of}
use Rattle.fd_picture.specs.Panels.{marks_text, node_text}
use Rattle.fd_picture.specs.Texts.{numbered}

count_by : {A B : Type 0} (f : ℕ × A → B) (k : ℕ) (xs : List A) → length (map f (enumerate_from k xs)) ≡ length xs
count_by f k [] = refl
count_by f k (x ∷ xs) = ap suc (count_by f (k + 1) xs)

each_by : {A B : Type 0} (f : ℕ × A → B) (n : ℕ) (xs : List A) (k : ℕ) (x : A) → slice_get xs k ≡ Some x
    → slice_get (map f (enumerate_from n xs)) k ≡ Some (f (n + k, x))
each_by f n [] k x e = cc e
each_by f n (y ∷ ys) zero x e =
    let same : y ≡ x = cc e in
    let place : n ≡ n + 0 = omega arith in
    ap (λ z. Some (f (n, z))) same ∙ ap (λ m. Some (f (m, x))) place
each_by f n (y ∷ ys) (suc k) x e =
    let place : n + 1 + k ≡ n + suc k = omega arith in
    each_by f (n + 1) ys k x e ∙ ap (λ m. Some (f (m, x))) place

numbered_is : {A : Type 0} (text : ℕ → A → List ℕ) (k : ℕ) (xs : List A)
    → numbered text k xs ≡ flat_map (λ p. text p.0 p.1) (enumerate_from k xs)
numbered_is text k [] = refl
numbered_is text k (x ∷ xs) = ap (λ rest. text k x ++ rest) (numbered_is text (k + 1) xs)

pub marks_law_holds : MarksLaw
unfolding mark_of marks_text
marks_law_holds = record {
  count = λ bases scale nodes. count_by (λ p. mark_at bases scale p.0 p.1) 0 nodes;
  each = λ bases scale nodes k node e. each_by (λ p. mark_at bases scale p.0 p.1) 0 nodes k node e
      ∙ ap (λ m. Some (mark_at bases scale m node)) (let place : 0 + k ≡ k = omega arith in place);
  top = λ axis span per_unit k node. refl;
  height = λ axis span per_unit k node. refl;
  text = λ bases per_unit axis nodes. numbered_is (λ place node. node_text bases per_unit axis place node) 0 nodes;
}
