-- The elements up to a place in order.
use Rattle.std.proofs.Common.{◌≡◌, ℕ, ◌+◌, ◌<◌, ◌≤◌, Bool, true, false, nat_lt, if◌then◌else◌, List, [], ◌∷◌, ◌++◌, length, take, drop, slice_get, Some, None, Ok, Err, refl, sym, ap, ◌∙◌, add-one, arith, position}
use Rattle.std.proofs.Math.Seq.{take-suc, drop-cons}
use Rattle.std.proofs.lemmas.Option.{slice_get_within, get_or_from_slice_get}
use Rattle.std.proofs.lemmas.List.Sums.{prefix_len-le-length}
use Rattle.std.proofs.lemmas.List.{take_all}
use borrow.Author.Count.{below_more}
use Rattle.dss_model.specs.fd_exact.FirstLaws.{first_none, first_some}
use Rattle.std.proofs.lemmas.Grind.{common_steps}
use Rattle.std.specs.List.{position_or_len}
use Rattle.dss_model.specs.declared.element.Element.{Element}
use Rattle.dss_model.specs.declared.names.ElementName.{ElementName}
use Rattle.dss_layout.specs.declared.limits.LayoutFault.TheVariants.{TooMany}
use Rattle.dss_layout.specs.Layout.{Elements, LayoutView, layout_of, added, passes_limit, is_past_limit_at, first_too_many, laid_out, laid_out_unless}
use Rattle.dss_layout.proofs.Adding.{layout_of-push}

-- one more element
pub take-more : {X : Type 0} (xs : List X) (k : ℕ) (x : X) → slice_get xs k ≡ Some x
    → take (k + 1) xs ≡ take k xs ++ x ∷ []
take-more xs k x h =
    ap (λ n. take n xs) (add-one k) ∙ take-suc xs k x (slice_get_within xs k x h) ∙ ap (λ y. take k xs ++ y ∷ []) (get_or_from_slice_get xs k x x h)

pub drop-more : {X : Type 0} (xs : List X) (k : ℕ) (x : X) → slice_get xs k ≡ Some x → drop k xs ≡ x ∷ drop (k + 1) xs
drop-more xs k x h =
    drop-cons xs k x (slice_get_within xs k x h) ∙ (λ i. get_or_from_slice_get xs k x x h i ∷ drop (sym (add-one k) i) xs)

-- the layout of the elements up to this one
pub added_next : (es : Elements) (k : ℕ) (name : ElementName) (e : Element) (v : LayoutView)
    → slice_get es k ≡ Some (name, e) → v ≡ layout_of (take k es) → added v name e ≡ layout_of (take (k + 1) es)
added_next es k name e v h so_far =
    ap (λ l. added l name e) so_far ∙ sym (layout_of-push (take k es) name e) ∙ ap layout_of (sym (take-more es k (name, e) h))

-- no limit is passed by the elements up to any of the places before this one
pub record IsPassedBy (es : Elements) (k : ℕ) : Type 0 where
  pub below : (j : ℕ) → j < k → is_past_limit_at es j ≡ false

pub none_passed : (es : Elements) → IsPassedBy es 0
none_passed es = record { below = λ j h. absurd (omega arith) }

decided : (es : Elements) (k : ℕ) (name : ElementName) (e : Element) (v : LayoutView) (b : Bool)
    → slice_get es k ≡ Some (name, e) → v ≡ layout_of (take k es)
    → b ≡ passes_limit (added v name e) → is_past_limit_at es k ≡ b
decided es k name e v b h so_far passes = ap passes_limit (sym (added_next es k name e v h so_far)) ∙ sym passes

-- a limit is passed with the element at this place
pub too_many_at : (es : Elements) (k : ℕ) (name : ElementName) (e : Element) (v : LayoutView) (b : Bool)
    → slice_get es k ≡ Some (name, e) → v ≡ layout_of (take k es)
    → IsPassedBy es k → b ≡ passes_limit (added v name e) → b ≡ true → laid_out es ≡ Err (TooMany k)
too_many_at es k name e v b h so_far before passes is_true =
    ap (λ o. laid_out_unless o es) (first_some (is_past_limit_at es) (length es) k (slice_get_within es k (name, e) h)
    before.below (decided es k name e v b h so_far passes ∙ is_true))

-- no limit is passed with the element at this place
pub passed_more : (es : Elements) (k : ℕ) (name : ElementName) (e : Element) (v : LayoutView) (b : Bool)
    → slice_get es k ≡ Some (name, e) → v ≡ layout_of (take k es)
    → IsPassedBy es k → b ≡ passes_limit (added v name e) → b ≡ false → IsPassedBy es (k + 1)
passed_more es k name e v b h so_far before passes is_false = record {
  below = below_more (λ j. is_past_limit_at es j ≡ false) k before.below (decided es k name e v b h so_far passes ∙ is_false);
}

-- no limit is passed with any element
pub laid_out_whole : (es : Elements) (k : ℕ) (v : LayoutView) → length es ≤ k → v ≡ layout_of (take k es)
    → IsPassedBy es k → laid_out es ≡ Ok v
laid_out_whole es k v all so_far before =
    let none : first_too_many es ≡ None = first_none (is_past_limit_at es) (length es) (λ j low. before.below j (omega arith)) in
    ap (λ o. laid_out_unless o es) none ∙ ap Ok (ap layout_of (sym (take_all k es all)) ∙ sym so_far)

-- a value that is nowhere in a list
pub position_or_len-absent : {X : Type 0} (p : X → Bool) (xs : List X) → position p xs ≡ None
    → position_or_len p xs ≡ length xs
position_or_len-absent p xs h = by (nat_lt (position_or_len p xs) (length xs)) refl
  where
    by : (b : Bool) → nat_lt (position_or_len p xs) (length xs) ≡ b → position_or_len p xs ≡ length xs
    by true e = let found : Some (position_or_len p xs) ≡ None = ap (λ b. if b then Some (position_or_len p xs) else None) (sym e) ∙ h in cc
    by false e = let low : position_or_len p xs ≤ length xs = prefix_len-le-length _ xs in grind (arith, common_steps)
