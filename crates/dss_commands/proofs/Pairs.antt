-- The pairs of an element keep its class, and the elements that it names in the circuit.
use Rattle.std.proofs.Common.{◌≡◌, ℕ, List, [], ◌∷◌, Result, Ok, Err, OnOk, sym, ap, subst, ◌∙◌}
use Rattle.std.proofs.lemmas.Result.{IfOk-at_ok}
use Rattle.dss_circuit.specs.dss_lexer.declared.pair.Pair.{Pair}
use Rattle.dss_circuit.specs.dss_model.declared.element.Element.{Element}
use Rattle.dss_circuit.specs.dss_model.declared.names.Class.{Class}
use Rattle.dss_circuit.specs.dss_model.declared.fault.ModelError.{ModelError}
use Rattle.dss_circuit.specs.dss_model.Answers.{◌>>=◌, Makes}
use Rattle.dss_circuit.specs.dss_model.Element.{class_of}
use Rattle.dss_profile.specs.Element.{with_pair}
use Rattle.dss_profile.proofs.CallerLemmas.{class_kept}
use Rattle.dss_circuit.specs.Circuit.{Elements}
use Rattle.dss_circuit.specs.WellFormed.{NamesAreThere}
use Rattle.dss_commands.specs.Commands.{referred, with_pairs}
use Rattle.dss_commands.proofs.Named.{pair_there}
use Rattle.dss_commands.proofs.Steps.{through}

-- pairs keep an element's class
pub pairs_keep_class : (solves : ℕ) (elements : Elements) (kind : Class) (pairs : List Pair) (e new : Element)
    → with_pairs solves elements kind pairs e ≡ Ok new → class_of new ≡ class_of e
pairs_keep_class solves elements kind [] e new h = let same : e ≡ new = cc h in ap class_of (sym same)
pairs_keep_class solves elements kind (p ∷ ps) e new h =
    let t = through (referred elements kind p) (λ found. with_pair solves found p e >>= with_pairs solves elements kind ps) new h in
    let u = through (with_pair solves t.value p e) (with_pairs solves elements kind ps) new t.next in
    pairs_keep_class solves elements kind ps u.value new u.next ∙ class_kept solves t.value p e u.value u.first

-- each element that one names after its pairs is in the circuit, as those that it named before are
pub pairs_keep_names : (solves : ℕ) (elements : Elements) (kind : Class) (pairs : List Pair) (e new : Element)
    → kind ≡ class_of e → with_pairs solves elements kind pairs e ≡ Ok new → NamesAreThere elements e
    → NamesAreThere elements new
pairs_keep_names solves elements kind [] e new k h names = let same : e ≡ new = cc h in subst (NamesAreThere elements) same names
pairs_keep_names solves elements kind (p ∷ ps) e new k h names =
    let t = through (referred elements kind p) (λ found. with_pair solves found p e >>= with_pairs solves elements kind ps) new h in
    let u = through (with_pair solves t.value p e) (with_pairs solves elements kind ps) new t.next in
    let own = subst (λ class. referred elements class p ≡ Ok t.value) k t.first in
    let named = IfOk-at_ok (NamesAreThere elements) u.first (pair_there elements t.value p solves e own names) in
    pairs_keep_names solves elements kind ps u.value new (k ∙ sym (class_kept solves t.value p e u.value u.first)) u.next named

-- what a draft has become, where each pair was set
pub kept_class : (solves : ℕ) (elements : Elements) (kind : Class) (pairs : List Pair) (e new : Element)
    (r : Result Unit ModelError) → kind ≡ class_of e → Makes new r (with_pairs solves elements kind pairs e)
    → OnOk r (kind ≡ class_of new)
kept_class solves elements kind pairs e new (Ok done) k h = k ∙ sym (pairs_keep_class solves elements kind pairs e new h)
kept_class solves elements kind pairs e new (Err error) k h = tt

pub kept_names : (solves : ℕ) (elements : Elements) (kind : Class) (pairs : List Pair) (e new : Element)
    (r : Result Unit ModelError) → kind ≡ class_of e → Makes new r (with_pairs solves elements kind pairs e)
    → NamesAreThere elements e → OnOk r (NamesAreThere elements new)
kept_names solves elements kind pairs e new (Ok done) k h names = pairs_keep_names solves elements kind pairs e new k h names
kept_names solves elements kind pairs e new (Err error) k h names = tt
