-- What holds of each value of a map holds of one that is looked up, and stays so where a value with it is inserted.
use Rattle.std.proofs.Common.{Bool, true, false, List, [], ◌∷◌, Option, Some, IfSome, All, if◌then◌else◌}
use Rattle.std.specs.Map.{lookup}
use Rattle.std.proofs.lemmas.List.Elements.{All-nil, All-cons, All-head, All-tail}
use Rattle.indexmap.specs.IndexMap.{insert_entry}

first_or : {V : Type 0} (P : V → Type 0) (b : Bool) (v : V) (rest : Option V) → P v → IfSome rest P
    → IfSome (if b then Some v else rest) P
first_or P true v rest p h = p
first_or P false v rest p h = h

module _ {K V : Type 0} (P : V → Type 0) where
  -- P holds of the value of an entry
  abbrev pub OfValue : K × V → Type 0
  OfValue entry = P entry.1

  pub of_found : (test : K → Bool) (entries : List (K × V)) → All OfValue entries → IfSome (lookup test entries) P
  of_found test [] h = tt
  of_found test (e ∷ es) h = first_or P (test e.0) e.1 (lookup test es) (All-head OfValue e es h) (of_found test es (All-tail OfValue e es h))

  inserted_or : (b : Bool) (entries others : List (K × V)) → All OfValue entries → All OfValue others
      → All OfValue (if b then entries else others)
  inserted_or true entries others p q = p
  inserted_or false entries others p q = q

  pub of_inserted : (same : K → K → Bool) (entries : List (K × V)) (k : K) (v : V) → All OfValue entries → P v
      → All OfValue (insert_entry same entries k v)
  of_inserted same [] k v h p = All-cons OfValue (k, v) [] p (All-nil OfValue)
  of_inserted same (e ∷ es) k v h p =
      let rest = of_inserted same es k v (All-tail OfValue e es h) p in
      inserted_or (same k e.0) ((e.0, v) ∷ es) (e ∷ insert_entry same es k v)
      (All-cons OfValue (e.0, v) es p (All-tail OfValue e es h))
      (All-cons OfValue e (insert_entry same es k v) (All-head OfValue e es h) rest)
