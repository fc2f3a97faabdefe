-- What events are printed as in a certificate, as the lines of blocks.
use Rattle.std.proofs.Common.{◌≡◌, ◌∙◌, ℕ, pos, List, [], ◌∷◌, ◌++◌, map, Option, None, refl, sym, ap}
use Rattle.std.specs.List.{AllByRecursion, concat, flat_map}
use Rattle.std.proofs.lemmas.List.{append_assoc}
use Rattle.fd_checking.specs.fd_certfile.Blocks.{Block, block_lines}
use Rattle.fd_checking.specs.fd_certfile.declared.version.Version.TheVariants.{Sparse}
use Rattle.fd_checking.specs.fd_certfile.Certificates.{certificate_bytes, lines_behind}
use Rattle.fd_checking.specs.fd_certfile.Lines.{Line, bytes_of, header, line_bytes}
use Rattle.fd_checking.specs.fd_certfile.Lines as text
use Rattle.fd_checking.specs.fd_outcome.Calls.{Call, body, calls_of, certificate, opened, reads, texts_written, writes}
use Rattle.fd_checking.specs.fd_outcome.Certificates.{block_texts, blocks_of, blocks_texts, certificate_texts}
use Rattle.fd_checking.specs.fd_outcome.Events.{Event, History, asked, settle, waits, swept, row, line}
use Rattle.fd_app.specs.Printed.{bytes_by}

-- the blocks of the settles of events
abbrev pub blocks_at : Event → List Block
blocks_at (settle s) = blocks_of s
blocks_at other = []

abbrev pub blocks_in : List Event → List Block
blocks_in events = flat_map blocks_at events

-- no line of text of another kind is printed
abbrev pub IsNoLine : Event → Type 0
IsNoLine (line t) = ⊥
IsNoLine other = Unit {0}

pub all_blocks : (a b : List Event) → blocks_in (a ++ b) ≡ blocks_in a ++ blocks_in b
all_blocks [] b = refl
all_blocks (e ∷ a) b =
    ap (λ (bs : List Block). blocks_at e ++ bs) (all_blocks a b)
    ∙ sym (append_assoc (blocks_at e) (blocks_in a) (blocks_in b))

-- ---- texts among calls

names_aside : (names : List (List ℕ)) (calls : List Call)
    → texts_written (map reads names ++ calls) ≡ texts_written calls
names_aside [] calls = refl
names_aside (n ∷ names) calls = names_aside names calls

texts_first : (texts : List (List ℕ)) (calls : List Call)
    → texts_written (map writes texts ++ calls) ≡ texts ++ texts_written calls
texts_first [] calls = refl
texts_first (t ∷ texts) calls = ap (λ (ts : List (List ℕ)). t ∷ ts) (texts_first texts calls)

body_texts : (events : List Event) (calls : List Call)
    → texts_written (body certificate events ++ calls) ≡ flat_map certificate_texts events ++ texts_written calls
body_texts [] calls = refl
body_texts (e ∷ events) calls =
    let names : List (List ℕ) = certificate.asked_in e in
    let texts : List (List ℕ) = certificate_texts e in
    let more : List Call = body certificate events in
    ap texts_written
    (append_assoc (map reads names ++ map writes texts) more calls
    ∙ append_assoc (map reads names) (map writes texts) (more ++ calls))
    ∙ names_aside names (map writes texts ++ (more ++ calls))
    ∙ texts_first texts (more ++ calls)
    ∙ ap (λ (ts : List (List ℕ)). texts ++ ts) (body_texts events calls)
    ∙ sym (append_assoc texts (flat_map certificate_texts events) (texts_written calls))

opened_texts : (first : List (List ℕ)) (calls : List Call) (last : List ℕ)
    → texts_written (opened first (calls ++ writes last ∷ [])) ≡ first ++ texts_written (calls ++ writes last ∷ [])
opened_texts first [] last = texts_first first (writes last ∷ [])
opened_texts first (reads n ∷ calls) last = opened_texts first calls last
opened_texts first (writes t ∷ calls) last = texts_first first (writes t ∷ (calls ++ writes last ∷ []))

-- ---- bytes

lines_together : (a b : List Line) → bytes_of (a ++ b) ≡ bytes_of a ++ bytes_of b
lines_together [] b = refl
lines_together (l ∷ a) b =
    ap (λ (bs : List ℕ). line_bytes l ++ bs) (lines_together a b)
    ∙ sym (append_assoc (line_bytes l) (bytes_of a) (bytes_of b))

lines_written : (ls : List Line) (rest : List (List ℕ))
    → concat (map line_bytes ls ++ rest) ≡ bytes_of ls ++ concat rest
lines_written [] rest = refl
lines_written (l ∷ ls) rest =
    ap (λ (bs : List ℕ). line_bytes l ++ bs) (lines_written ls rest)
    ∙ sym (append_assoc (line_bytes l) (bytes_of ls) (concat rest))

blocks_written : (bs : List Block) (rest : List (List ℕ)) (later : List Block)
    → concat rest ≡ bytes_of (lines_behind Sparse later)
    → concat (blocks_texts bs ++ rest) ≡ bytes_of (lines_behind Sparse (bs ++ later))
blocks_written [] rest later h = h
blocks_written (b ∷ bs) rest later h =
    ap concat (append_assoc (block_texts b) (blocks_texts bs) rest)
    ∙ lines_written (block_lines Sparse b) (blocks_texts bs ++ rest)
    ∙ ap (λ (t : List ℕ). bytes_of (block_lines Sparse b) ++ t) (blocks_written bs rest later h)
    ∙ sym (lines_together (block_lines Sparse b) (lines_behind Sparse (bs ++ later)))

abbrev pub last_text : List ℕ
last_text = line_bytes text.end

events_written : (events : List Event) → AllByRecursion IsNoLine events
    → concat (flat_map certificate_texts events ++ last_text ∷ []) ≡ bytes_of (lines_behind Sparse (blocks_in events))
events_written [] h = refl
events_written (settle s ∷ events) h =
    ap concat (append_assoc (blocks_texts (blocks_of s)) (flat_map certificate_texts events) (last_text ∷ []))
    ∙ blocks_written (blocks_of s) (flat_map certificate_texts events ++ last_text ∷ []) (blocks_in events)
    (events_written events h.1)
events_written (asked n ∷ events) h = events_written events h.1
events_written (row fields ∷ events) h = events_written events h.1
events_written (waits c es ∷ events) h = events_written events h.1
events_written (swept c m l ∷ events) h = events_written events h.1
events_written (line t ∷ events) h = absurd h.0

by_end : (events : List Event) (end : Option _) → end ≡ None → AllByRecursion IsNoLine events
    → concat (texts_written (calls_of certificate events end)) ≡ certificate_bytes Sparse (blocks_in events)
by_end events end e h =
    let first : List ℕ = line_bytes (header (pos 2)) in
    ap (λ (o : Option _). concat (texts_written (calls_of certificate events o))) e
    ∙ ap concat (opened_texts (first ∷ []) (body certificate events) last_text
    ∙ ap (λ (ts : List (List ℕ)). first ∷ ts) (body_texts events (writes last_text ∷ [])))
    ∙ ap (λ (bs : List ℕ). first ++ bs) (events_written events h)

-- a history without a fault is printed as the bytes of a certificate of its blocks
pub bytes_are : (h : History) → h.end ≡ None → AllByRecursion IsNoLine h.events
    → bytes_by certificate h ≡ certificate_bytes Sparse (blocks_in h.events)
bytes_are h e none = by_end h.events h.end e none
