-- A block, part after part.
use Rattle.std.proofs.Common.{◌≡◌, ℤ, List, Result, Ok, Err, refl, ap, ◌∙◌}
use Rattle.std.specs.Prelude.{map}
use Rattle.fd_lines.specs.Numbered.{count_of, numbered_at, ◌>>=◌}
use Rattle.fd_lines.specs.WordLines.{Line}
use Rattle.fd_rowfile.specs.Blocks.{Act, Block, Bound, Part, Row, acts_at, block_at, block_with, bound_at, box_in, first_at, head_in, part_at, rows_at}
use Rattle.fd_rowfile.specs.Held.{AreRows, IsBlock, Stops}
use Rattle.fd_rowfile.specs.Views.{act, bound, head, part}
use Rattle.fd_rowfile.specs.declared.block.HeldBlock.{HeldBlock}
use Rattle.fd_rowfile.specs.declared.stop.Stop.{Stop}
use Rattle.fd_rowfile.specs.declared.stop.Stop.TheVariants as stop

abbrev pub Head : Type 0
Head = ℤ × ℤ × ℤ × ℤ

abbrev pub Read : Type 0
Read = Result (Block × List Line) (List Line)

abbrev pub bounds_then : Head → ℤ → List Part → List Row → List Bound × List Line → Read
bounds_then h d ps rs bs = Ok (block_with h d ps rs bs.0 (acts_at bs.1).0, (acts_at bs.1).1)

abbrev pub rows_then : Head → ℤ → List Part → List Row × List Line → Read
rows_then h d ps rs = numbered_at bound_at (count_of h.3) 0 rs.1 >>= bounds_then h d ps rs.0

abbrev pub parts_then : Head → ℤ → List Part × List Line → Read
parts_then h d ps = rows_at (count_of h.3) 0 ps.1 >>= rows_then h d ps.0

abbrev pub box_then : Head → ℤ × List Line → Read
box_then h d = numbered_at part_at (count_of h.3) 0 d.1 >>= parts_then h d.0

abbrev pub head_then : Head × List Line → Read
head_then h = first_at box_in h.1 >>= box_then h.0

pub block_by : (lines : List Line) → block_at lines ≡ (first_at head_in lines >>= head_then)
unfolding block_at
block_by lines = refl

-- a part that isn't read
pub stopped : {A B : Type 0} (r : Result A (List Line)) (f : A → Result B (List Line)) (e : Stop) → Stops e r → Stops e (r >>= f)
stopped r f stop.NoMemory s = tt
stopped r f (stop.Refused at) s = ap (λ x. x >>= f) s

pub same_stop : {Y : Type 0} (a b : Result Y (List Line)) (e : Stop) → a ≡ b → Stops e b → Stops e a
same_stop a b stop.NoMemory e s = tt
same_stop a b (stop.Refused at) e s = e ∙ s

module _ (lines : List Line) where
  pub no_head : (d : List Line) → first_at head_in lines ≡ Err d → block_at lines ≡ Err d
  no_head d e = block_by lines ∙ ap (λ x. x >>= head_then) e

  module _ (h : Head) (r1 : List Line) (e1 : first_at head_in lines ≡ Ok (h, r1)) where
    pub behind_head : block_at lines ≡ head_then (h, r1)
    behind_head = block_by lines ∙ ap (λ x. x >>= head_then) e1

    pub no_box : (d : List Line) → first_at box_in r1 ≡ Err d → block_at lines ≡ Err d
    no_box d e = behind_head ∙ ap (λ x. x >>= box_then h) e

    module _ (d : ℤ) (r2 : List Line) (e2 : first_at box_in r1 ≡ Ok (d, r2)) where
      pub behind_box : block_at lines ≡ box_then h (d, r2)
      behind_box = behind_head ∙ ap (λ x. x >>= box_then h) e2

      pub no_parts : (e : Stop) → Stops e (numbered_at part_at (count_of h.3) 0 r2) → Stops e (block_at lines)
      no_parts e s = same_stop (block_at lines) (box_then h (d, r2)) e behind_box
          (stopped (numbered_at part_at (count_of h.3) 0 r2) (parts_then h d) e s)

      module _ (ps : List Part) (r3 : List Line) (e3 : numbered_at part_at (count_of h.3) 0 r2 ≡ Ok (ps, r3)) where
        pub behind_parts : block_at lines ≡ parts_then h d (ps, r3)
        behind_parts = behind_box ∙ ap (λ x. x >>= parts_then h d) e3

        pub no_rows : (e : Stop) → Stops e (rows_at (count_of h.3) 0 r3) → Stops e (block_at lines)
        no_rows e s = same_stop (block_at lines) (parts_then h d (ps, r3)) e behind_parts
            (stopped (rows_at (count_of h.3) 0 r3) (rows_then h d ps) e s)

        module _ (rs : List Row) (r4 : List Line) (e4 : rows_at (count_of h.3) 0 r3 ≡ Ok (rs, r4)) where
          pub behind_rows : block_at lines ≡ rows_then h d ps (rs, r4)
          behind_rows = behind_parts ∙ ap (λ x. x >>= rows_then h d ps) e4

          pub no_bounds : (e : Stop) → Stops e (numbered_at bound_at (count_of h.3) 0 r4) → Stops e (block_at lines)
          no_bounds e s = same_stop (block_at lines) (rows_then h d ps (rs, r4)) e behind_rows
              (stopped (numbered_at bound_at (count_of h.3) 0 r4) (bounds_then h d ps rs) e s)

          pub behind_bounds : (bs : List Bound) (r5 : List Line) → numbered_at bound_at (count_of h.3) 0 r4 ≡ Ok (bs, r5)
              → block_at lines ≡ bounds_then h d ps rs (bs, r5)
          behind_bounds bs r5 e5 = behind_rows ∙ ap (λ x. x >>= bounds_then h d ps rs) e5

-- all of them
pub whole : (lines : List Line) (x : HeldBlock) (r1 r2 r3 r4 r5 r6 : List Line)
    → first_at head_in lines ≡ Ok (head x.head, r1) → first_at box_in r1 ≡ Ok (x.divisor, r2)
    → numbered_at part_at (count_of x.head.size) 0 r2 ≡ Ok (map part x.parts.items, r3)
    → AreRows (rows_at (count_of x.head.size) 0 r3) x.rows.items r4
    → numbered_at bound_at (count_of x.head.size) 0 r4 ≡ Ok (map bound x.bounds.items, r5)
    → acts_at r5 ≡ (map act x.acts.items, r6) → IsBlock (block_at lines) x r6
whole lines x r1 r2 r3 r4 r5 r6 e1 e2 e3 t e5 e6 = record {
  block = block_with (head x.head) x.divisor (map part x.parts.items) t.rows (map bound x.bounds.items) (map act x.acts.items);
  same = behind_bounds lines (head x.head) r1 e1 x.divisor r2 e2 (map part x.parts.items) r3 e3 t.rows r4 t.same (map bound x.bounds.items) r5 e5
      ∙ ap (λ (a : List Act × List Line). Ok (block_with (head x.head) x.divisor (map part x.parts.items) t.rows (map bound x.bounds.items) a.0, a.1)) e6;
  head_is = refl;
  divisor = refl;
  parts = refl;
  rows = t.held_are;
  bounds = refl;
  acts = refl;
}
