-- In a report that is read no node's low is above its high.
use Rattle.std.proofs.Common.{◌≡◌, ◌≤◌, ◌+◌, ◌-◌, ◌^◌, ◌==◌, ◌&&◌, ℕ, zero, suc, List, [], ◌∷◌, ◌++◌, map, take, drop, Bool, true, false, Option, Some, None, Result, Ok, Err, option_to_list, if◌then◌else◌, refl, sym, arith, subst}
use Rattle.std.specs.List.{slice_get}
use Rattle.std.specs.Prelude.{⊤, codes, is_some, length, nat_lt}
use Rattle.std.proofs.lemmas.Bool.Decides.{nat_tests}
use Rattle.std.proofs.lemmas.List.{take-append-drop}
use Rattle.csv.specs.Reading.{default_config, records_from, strip_bom}
use Rattle.csv.specs.declared.parser.State.TheVariants as st
use Rattle.fd_picture.specs.Drafts.{DraftView, ReportView, empty_draft}
use Rattle.fd_picture.specs.Numbers.{decimal_of, whole_of}
use Rattle.fd_picture.specs.Fields.{at}
use Rattle.fd_picture.specs.Lines.{is_at, unfit_in}
use Rattle.fd_picture.specs.Reading.{Bad, act_to, bank_to, base_to, counted, counts, fault_to, finished, has_branch_form, has_ladder_form, has_magnitude_form, has_pending_form, is_kind, kept_panels, node_in, node_to, other_record, passed_over, read_from, record_to, report_of, row_to, solution_to, tap_to, unless_unfit, with_base, with_entry, with_node, with_open, with_round}
use Rattle.fd_picture.specs.Strips.{drawn, rows_from, strip_by, strips_of}
use Rattle.fd_picture.specs.declared.fault.Cause.{Cause}
use Rattle.fd_picture.specs.declared.fault.Cause.TheVariants as cause
use Rattle.fd_picture.specs.declared.report.Entry.{Entry}
use Rattle.fd_picture.specs.declared.report.Node.{Node}
use Rattle.fd_picture.specs.declared.report.Panel.{Panel}

-- ---- what is kept

abbrev pub InOrder : List Node → Type 0
InOrder [] = ⊤
InOrder (node ∷ nodes) = (node.low ≤ node.high) × InOrder nodes

abbrev pub AllInOrder : List Panel → Type 0
AllInOrder [] = ⊤
AllInOrder (panel ∷ panels) = InOrder panel.nodes × AllInOrder panels

abbrev pub OpenInOrder : Option Panel → Type 0
OpenInOrder None = ⊤
OpenInOrder (Some panel) = InOrder panel.nodes

abbrev pub Holds : DraftView → Type 0
Holds d = AllInOrder d.done × OpenInOrder d.current

Keeps : Result DraftView Cause → Type 0
Keeps (Ok d) = Holds d
Keeps (Err e) = ⊤

keeps_ok : (d : DraftView) → Holds d → Keeps (Ok d)
unfolding Keeps
keeps_ok d h = h

keeps_err : (e : Cause) → Keeps (Err e)
unfolding Keeps
keeps_err e = tt

keeps_if : (b : Bool) (x y : Result DraftView Cause) → Keeps x → Keeps y → Keeps (if b then x else y)
keeps_if true x y hx hy = hx
keeps_if false x y hx hy = hy

nodes_more : (nodes : List Node) (node : Node) → InOrder nodes → node.low ≤ node.high → InOrder (nodes ++ node ∷ [])
nodes_more [] node h le = (le, tt)
nodes_more (n ∷ nodes) node h le = (h.0, nodes_more nodes node h.1 le)

panels_more : (panels : List Panel) (panel : Panel) → AllInOrder panels → InOrder panel.nodes
    → AllInOrder (panels ++ panel ∷ [])
panels_more [] panel h one = (one, tt)
panels_more (p ∷ panels) panel h one = (h.0, panels_more panels panel h.1 one)

-- ---- a record

kept_in_order : (done : List Panel) (current : Option Panel) (settle hour : ℕ) → AllInOrder done → OpenInOrder current
    → AllInOrder (kept_panels done current settle hour)
kept_in_order done None settle hour h o = h
kept_in_order done (Some last) settle hour h o = cases ((last.settle == settle) && (last.hour == hour))
  where
    cases : (b : Bool) → AllInOrder (if b then done else done ++ last ∷ [])
    cases true = h
    cases false = panels_more done last h o

round_kept : (d : DraftView) (settle hour round : Option ℕ) → Holds d → Keeps (with_round d settle hour round)
unfolding Keeps
round_kept d None hour round h = tt
round_kept d (Some settle) None round h = tt
round_kept d (Some settle) (Some hour) None h = tt
round_kept d (Some settle) (Some hour) (Some round) h = (kept_in_order d.done d.current settle hour h.0 h.1, tt)

node_kept : (d : DraftView) (panel : Panel) (node : Option Node) → Holds d → InOrder panel.nodes
    → Keeps (with_open d (with_node panel node))
unfolding Keeps
node_kept d panel None h o = tt
node_kept d panel (Some node) h o = cases (nat_lt node.high node.low) refl
  where
    cases : (b : Bool) → nat_lt node.high node.low ≡ b
        → Keeps (with_open d (if b then Err cause.LowAboveHigh else Ok (record panel { nodes = panel.nodes ++ node ∷ [] })))
    cases true e = tt
    cases false e =
        let le : node.low ≤ node.high = grind (arith, nat_tests, e) in
        (h.0, nodes_more panel.nodes node o le)

open_kept : (current : Option Panel) (answer : Panel → Result DraftView Cause) → OpenInOrder current
    → ((panel : Panel) → InOrder panel.nodes → Keeps (answer panel))
    → Keeps (elim current [ None ↦ Err cause.NoSolution | Some panel ↦ answer panel ])
open_kept None answer o f = keeps_err _
open_kept (Some panel) answer o f = f panel o

entry_kept : (d : DraftView) (form : Bool) (entry : Entry) → Holds d → Keeps (with_entry d form entry)
entry_kept d form entry h = keeps_if _ _ _ (keeps_ok _ h) (keeps_err _)

base_kept : (d : DraftView) (bus : List ℕ) (base : Option ℕ) → Holds d → Keeps (with_base d bus base)
base_kept d bus None h = keeps_err _
base_kept d bus (Some base) h = keeps_if _ _ _ (keeps_ok _ h) (keeps_err _)

counted_kept : (right : Bool) (answer : Result DraftView Cause) → Keeps answer → Keeps (counted right answer)
counted_kept right answer h = keeps_if right answer _ h (keeps_err _)

passed_kept : (d : DraftView) (form : Bool) → Holds d → Keeps (passed_over d form)
passed_kept d form h = open_kept d.current _ h.1 (λ panel o. keeps_if form (Ok d) _ (keeps_ok d h) (keeps_err _))

other_kept : (d : DraftView) (fields : List (List ℕ)) → Holds d → Keeps (other_record d fields)
unfolding other_record
other_kept d fields h =
    keeps_if (is_kind fields (codes "act")) _ _
    (counted_kept (counts fields 5) (act_to d fields) (open_kept d.current _ h.1 (λ panel o. entry_kept d _ _ h)))
    (keeps_if (is_kind fields (codes "tap")) _ _
    (counted_kept (counts fields 3) (tap_to d fields) (open_kept d.current _ h.1 (λ panel o. entry_kept d _ _ h)))
    (keeps_if (is_kind fields (codes "bank")) _ _
    (counted_kept (counts fields 3) (bank_to d fields) (open_kept d.current _ h.1 (λ panel o. entry_kept d _ _ h)))
    (keeps_if (is_kind fields (codes "pending")) _ _
    (counted_kept (counts fields 4) (passed_over d (has_pending_form fields)) (passed_kept d (has_pending_form fields) h))
    (keeps_if (is_kind fields (codes "base")) _ _
    (counted_kept (counts fields 3) (base_to d fields) (base_kept d (at fields 1) (decimal_of 6 (at fields 2)) h))
    (keeps_if (is_kind fields (codes "fault")) _ _
    (counted_kept (nat_lt 1 (length fields)) (fault_to d fields) (keeps_if _ _ _ (keeps_ok _ h) (keeps_err _)))
    (keeps_err cause.UnknownRecord))))))

record_kept : (d : DraftView) (fields : List (List ℕ)) → Holds d → Keeps (record_to d fields)
unfolding record_to
record_kept d fields h =
    keeps_if (is_kind fields (codes "solution")) _ _
    (counted_kept (counts fields 4) (solution_to d fields)
    (round_kept d (whole_of (at fields 1)) (whole_of (at fields 2)) (whole_of (at fields 3)) h))
    (keeps_if (is_kind fields (codes "node")) _ _
    (counted_kept (counts fields 10) (node_to d fields) (open_kept d.current _ h.1 (λ panel o. node_kept d panel (node_in fields) h o)))
    (keeps_if (is_kind fields (codes "branch")) _ _ (counted_kept (counts fields 8) _ (passed_kept d (has_branch_form fields) h))
    (keeps_if (is_kind fields (codes "magnitude")) _ _ (counted_kept (counts fields 7) _ (passed_kept d (has_magnitude_form fields) h))
    (keeps_if (is_kind fields (codes "short")) _ _ (counted_kept (counts fields 8) _ (passed_kept d (has_branch_form fields) h))
    (keeps_if (is_kind fields (codes "ladder")) _ _ (passed_kept d (has_ladder_form fields) h) (other_kept d fields h))))))

row_kept : (d : DraftView) (fields : List (List ℕ)) → Holds d → Keeps (row_to d fields)
unfolding row_to
row_kept d fields h = keeps_if (is_some d.fault) _ _ (keeps_err cause.BehindFault) (record_kept d fields h)

-- ---- the report

abbrev pub ReadInOrder : Result ReportView Bad → Type 0
ReadInOrder (Ok r) = AllInOrder r.panels
ReadInOrder (Err e) = ⊤

fit_in_order : (unfit : Option ℕ) (n : ℕ) (answer : Result ReportView Bad) → ReadInOrder answer
    → ReadInOrder (unless_unfit unfit n answer)
fit_in_order unfit n answer h = cases (is_at unfit n)
  where
    cases : (b : Bool) → ReadInOrder (if b then Err (record { line = n; cause = cause.NotOneRecord }) else answer)
    cases true = tt
    cases false = h

finished_in_order : (done : List Panel) (current : Option Panel) → AllInOrder done → OpenInOrder current
    → AllInOrder (done ++ option_to_list current)
finished_in_order [] None h o = tt
finished_in_order [] (Some panel) h o = (o, tt)
finished_in_order (p ∷ done) current h o = (h.0, finished_in_order done current h.1 o)

next_in_order : (answer : Result DraftView Cause) (n : ℕ) (read : DraftView → Result ReportView Bad) → Keeps answer
    → ((d : DraftView) → Holds d → ReadInOrder (read d))
    → ReadInOrder (elim answer [ Ok next ↦ read next | Err cause ↦ Err (record { line = n; cause = cause }) ])
unfolding Keeps
next_in_order (Ok d) n read k f = f d k
next_in_order (Err e) n read k f = tt

read_in_order : (unfit : Option ℕ) (n : ℕ) (d : DraftView) (rows : List (List (List ℕ))) → Holds d
    → ReadInOrder (read_from unfit n d rows)
read_in_order unfit n d [] h = fit_in_order unfit n (Ok (finished d)) (finished_in_order d.done d.current h.0 h.1)
read_in_order unfit n d (row ∷ rows) h =
    fit_in_order unfit n _
    (next_in_order (row_to d row) n (λ next. read_from unfit (n + 1) next rows) (row_kept d row h) (λ next k. read_in_order unfit (n + 1) next rows k))

report_in_order : (bytes : List ℕ) → ReadInOrder (report_of bytes)
unfolding report_of
report_in_order bytes =
    read_in_order (unfit_in bytes) 1 empty_draft (records_from default_config (2 ^ 64 - 2) st.StartRecord (strip_bom bytes)) (tt, tt)

-- ---- its strips

in_front : (xs ys : List Node) → InOrder (xs ++ ys) → InOrder xs
in_front [] ys h = tt
in_front (x ∷ xs) ys h = (h.0, in_front xs ys h.1)

behind : (xs ys : List Node) → InOrder (xs ++ ys) → InOrder ys
behind [] ys h = h
behind (x ∷ xs) ys h = behind xs ys h.1

rows_in_order : (panel : Panel) (more : ℕ) (nodes : List Node) → InOrder nodes
    → AllInOrder (map (λ nodes. strip_by panel nodes) (rows_from more nodes))
rows_in_order panel zero nodes h = (h, tt)
rows_in_order panel (suc more) nodes h =
    let both = subst InOrder (sym (take-append-drop 42 nodes)) h in
    (in_front (take 42 nodes) (drop 42 nodes) both, rows_in_order panel more (drop 42 nodes) (behind (take 42 nodes) (drop 42 nodes) both))

strips_in_order : (panel : Panel) → InOrder panel.nodes → AllInOrder (strips_of panel)
unfolding strips_of
strips_in_order panel h = rows_in_order panel _ panel.nodes h

joined_in_order : (xs ys : List Panel) → AllInOrder xs → AllInOrder ys → AllInOrder (xs ++ ys)
joined_in_order [] ys h k = k
joined_in_order (x ∷ xs) ys h k = (h.0, joined_in_order xs ys h.1 k)

drawn_in_order : (panels : List Panel) → AllInOrder panels → AllInOrder (drawn panels)
drawn_in_order [] h = tt
drawn_in_order (panel ∷ panels) h = joined_in_order (strips_of panel) (drawn panels) (strips_in_order panel h.0) (drawn_in_order panels h.1)

node_of : (nodes : List Node) (k : ℕ) (node : Node) → InOrder nodes → slice_get nodes k ≡ Some node
    → node.low ≤ node.high
node_of [] k node h e = cc e
node_of (n ∷ nodes) zero node h e =
    let same : n ≡ node = cc e in
    subst (λ (m : Node). m.low ≤ m.high) same h.0
node_of (n ∷ nodes) (suc k) node h e = node_of nodes k node h.1 e

strip_in : (strips : List Panel) (j : ℕ) (strip : Panel) → AllInOrder strips → slice_get strips j ≡ Some strip
    → InOrder strip.nodes
strip_in [] j strip h e = cc e
strip_in (s ∷ strips) zero strip h e =
    let same : s ≡ strip = cc e in
    subst (λ (m : Panel). InOrder m.nodes) same h.0
strip_in (s ∷ strips) (suc j) strip h e = strip_in strips j strip h.1 e

pub drawn_in_range : (bytes : List ℕ) (r : ReportView) (strip : Panel) (j k : ℕ) (node : Node) → report_of bytes ≡ Ok r
    → slice_get (drawn r.panels) j ≡ Some strip → slice_get strip.nodes k ≡ Some node → node.low ≤ node.high
drawn_in_range bytes r strip j k node reads there has =
    let all : AllInOrder r.panels = subst ReadInOrder reads (report_in_order bytes) in
    node_of strip.nodes k node (strip_in (drawn r.panels) j strip (drawn_in_order r.panels all) there) has
