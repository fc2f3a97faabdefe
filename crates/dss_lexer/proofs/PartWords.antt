-- The words in the parts of a text.
use Rattle.std.proofs.Common.{◌≡◌, ◌∙◌, ◌+◌, ◌<◌, ◌≤◌, ℕ, List, [], ◌∷◌, ◌++◌, Bor, length, get_or, take, map, ap, sym}
use Rattle.std.specs.List.{flat_map, slice_split}
use Rattle.std.proofs.lemmas.List.{append-nil, map_more, take_all}
use Rattle.std.proofs.lemmas.List.Concat.{flat_map-append}
use Rattle.dss_lexer.specs.Arrays.{word_in, words_of}
use Rattle.dss_lexer.specs.Line.{is_separator}

-- one part more
pub words_more : (parts : List (Bor (List ℕ))) (words now : List (Bor (List ℕ))) (i : ℕ) (d : Bor (List ℕ))
    → i < length parts → map (λ word. word.now) now ≡ map (λ word. word.now) words ++ word_in (get_or parts i d).now
    → map (λ word. word.now) words ≡ flat_map word_in (map (λ part. part.now) (take i parts))
    → map (λ word. word.now) now ≡ flat_map word_in (map (λ part. part.now) (take (i + 1) parts))
words_more parts words now i d h e so_far =
    e
    ∙ ap (λ l. l ++ word_in (get_or parts i d).now) so_far
    ∙ ap (λ l. flat_map word_in (map (λ part. part.now) (take i parts)) ++ l) (sym (append-nil _))
    ∙ sym (ap (flat_map word_in) (map_more (λ part. part.now) parts i d h)
    ∙ flat_map-append word_in (map (λ part. part.now) (take i parts))
    ((get_or parts i d).now ∷ []))

-- all parts
pub words_whole : (text : List ℕ) (parts all words : List (Bor (List ℕ))) (i : ℕ) → length parts ≤ i → parts ≡ all
    → map (λ part. part.now) all ≡ slice_split is_separator text
    → map (λ word. word.now) words ≡ flat_map word_in (map (λ part. part.now) (take i parts))
    → map (λ word. word.now) words ≡ words_of text
words_whole text parts all words i h same split so_far =
    so_far
    ∙ ap (λ l. flat_map word_in (map (λ part. part.now) l)) (take_all i parts h ∙ same)
    ∙ ap (flat_map word_in) split
