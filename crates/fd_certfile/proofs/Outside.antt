-- The first line that the grammar refuses, block after block.
use Rattle.std.proofs.Common.{◌≡◌, ℕ, ◌+◌, ◌<◌, ◌≤◌, true, false, List, [], ◌∷◌, length, Option, Some, None, Result, Ok, Err, IfOk, refl, ap, sym, subst, ◌∙◌, arith}
use Rattle.std.proofs.lemmas.List.{length-append}
use Rattle.fd_certfile.specs.Lines.{Line, header, solution, state, row, act, end, other, lines_of, rest_of}
use Rattle.fd_certfile.specs.Blocks.{Version, Block, block_at, block_lines}
use Rattle.fd_certfile.specs.Certificates.{Certificate, ends, trails, refuses, gives, Reads, IsNoEnd, behind_first, lines_count, version_in}
use Rattle.fd_certfile.specs.Reader.{is_end, starts_with_end}
use Rattle.fd_certfile.specs.Readings.{Fails, RefusedBehind, lines_before}
use Rattle.fd_certfile.specs.Upgrade.{IsFirstOutside, IsOutside, IsOutsideBy, IsRefusedLine, outside_at}
use Rattle.fd_certfile.specs.declared.fault.Stop.{Stop}
use Rattle.fd_certfile.specs.declared.fault.Stop.TheVariants as stop
use Rattle.fd_certfile.proofs.Blocks.{block_found, length-block}
use Rattle.fd_certfile.proofs.Endings.{first_alone}
use Rattle.fd_certfile.proofs.Lines.{lines_some}

-- what the lines that are left give, of which the first has this number, is what all give
pub record IsOn (v : Version) (all rest : List Line) (line : ℕ) : Type 0 where
  pub answer : (c : Certificate) (o : Option ℕ) → Reads v rest c → outside_at line c ≡ o → IsOutside v all o
  pub count : line + length rest ≡ 2 + length all

pub on_start : (v : Version) (all : List Line) → IsOn v all all 2
on_start v all = record { answer = λ c o r e. record { certificate = c; reads = r; line_is = e }; count = refl }

no_end : (lines : List Line) → false ≡ starts_with_end lines → IsNoEnd lines
no_end [] e = tt
no_end (end ∷ lines) e = absurd cc
no_end (header w ∷ lines) e = tt
no_end (solution m h r s ∷ lines) e = tt
no_end (state p c r m ∷ lines) e = tt
no_end (row fields ∷ lines) e = tt
no_end (act t c s ∷ lines) e = tt
no_end (other ∷ lines) e = tt

end_is : (line : Line) → true ≡ is_end line → line ≡ end
end_is end e = refl
end_is (header w) e = absurd cc
end_is (solution m h r s) e = absurd cc
end_is (state p c r m) e = absurd cc
end_is (row fields) e = absurd cc
end_is (act t c s) e = absurd cc
end_is other e = absurd cc

none_left : (bytes : List ℕ) → length bytes ≡ 0 → lines_of bytes ≡ []
unfolding lines_of
none_left [] e = refl
none_left (c ∷ bytes) e = absurd (omega (arith, e))

module _ (v : Version) (all rest : List Line) (line : ℕ) (on : IsOn v all rest line) where
  pub block_lines_left : (b : Block) (more : List Line) → block_at v rest ≡ Ok (b, more)
      → length rest ≡ lines_count b + length more
  block_lines_left b more e =
      ap length (block_found v rest b more e).lines_are ∙ length-append (block_lines v b) more ∙ ap (λ (k : ℕ). k + length more) (length-block v b)

  pub on_more : (b : Block) (more : List Line) (n : ℕ) → block_at v rest ≡ Ok (b, more) → n ≡ lines_count b
      → IsOn v all more (line + n)
  on_more b more n e f = record {
    answer = λ c o r g. on.answer (gives b c) o (more, e, r) (ap (λ (k : ℕ). outside_at (line + k) c) (sym f) ∙ g);
    count = omega (arith, on.count, block_lines_left b more e, f);
  }

  pub on_refused : (k : ℕ) → false ≡ starts_with_end rest → RefusedBehind k rest (block_at v rest)
      → IsOutside v all (Some (line + k))
  on_refused k e f = on.answer (refuses k) (Some (line + k))
      (record { rest = f.rest; refused = f.refused; behind = f.count; no_end = no_end rest e }) refl

  pub on_stop : (stop : Stop) (found : Option ℕ) → false ≡ starts_with_end rest → Fails stop rest (block_at v rest)
      → IsRefusedLine stop line found → IsOutside v all found
  on_stop stop.NoMemory found e f i = absurd i
  on_stop (stop.Refused k) found e f i = subst (IsOutside v all) (sym i) (on_refused k e f)

  module _ (first : Line) (bytes : List ℕ) (e : rest ≡ first ∷ lines_of bytes) (ended : true ≡ starts_with_end rest) where
    first_ends : first ≡ end
    first_ends = end_is first (ended ∙ ap starts_with_end e)

    pub on_ends : length bytes ≡ 0 → IsOutside v all None
    on_ends z = on.answer ends None (e ∙ (λ i. first_ends i ∷ none_left bytes z i)) refl

    trailing : (lines : List Line) → 0 < length lines → rest ≡ end ∷ lines → IsOutside v all (Some (line + 1))
    trailing [] l r = absurd (omega (arith, l))
    trailing (next ∷ more) l r = on.answer trails (Some (line + 1)) (next, more, r) refl

    pub on_trails : 0 < length bytes → IsOutside v all (Some (line + 1))
    on_trails l = trailing (lines_of bytes) (lines_some bytes l) (e ∙ ap (λ (q : Line). q ∷ lines_of bytes) first_ends)

pub never_ended : (bytes : List ℕ) (lines : List Line) → lines ≡ rest_of bytes → true ≡ starts_with_end lines → ⊥
never_ended [] lines e f = let g : true ≡ false = f ∙ ap starts_with_end e in cc
never_ended (c ∷ bytes) lines e f = let g : true ≡ false = f ∙ ap starts_with_end e in cc

-- ---- the first line

pub version_named : (lines : List Line) (line : Line) (rest : List Line) (o : Option Version) → lines ≡ line ∷ rest
    → o ≡ version_in (line ∷ []) → version_in lines ≡ o
version_named lines line rest o e f = ap version_in e ∙ first_alone line rest ∙ sym f

pub refused_rest : (bytes : List ℕ) (lines : List Line) → lines ≡ rest_of bytes → IsFirstOutside lines 1
refused_rest [] lines e = subst (λ (ls : List Line). IsFirstOutside ls 1) (sym e) refl
refused_rest (c ∷ bytes) lines e = subst (λ (ls : List Line). IsFirstOutside ls 1) (sym e) refl

pub refused_first : (lines : List Line) → version_in lines ≡ None → IsFirstOutside lines 1
refused_first lines e = subst (λ (o : Option Version). IsOutsideBy o lines 1) (sym e) refl

pub refused_line : (lines : List Line) (v : Version) (rest : List Line) (k : ℕ) → version_in lines ≡ Some v
    → behind_first lines ≡ rest → IsOutside v rest (Some k) → IsFirstOutside lines k
refused_line lines v rest k e f o =
    subst (λ (w : Option Version). IsOutsideBy w lines k) (sym e) (subst (λ (ls : List Line). IsOutside v ls (Some k)) (sym f) o)

-- ---- what a call answers

pub stop_within : {Y : Type 0} (s : Stop) (lines : List Line) (read : Result Y (List Line)) → Fails s lines read
    → lines_before s ≤ length lines
stop_within stop.NoMemory lines read f = omega arith
stop_within (stop.Refused behind) lines read f = omega (arith, f.count)

pub ok_map : {T E : Type 0} {P Q : T → Type 0} (r : Result T E) → ((t : T) → P t → Q t) → IfOk r P → IfOk r Q
ok_map (Ok t) f h = f t h
ok_map (Err e) f h = tt
