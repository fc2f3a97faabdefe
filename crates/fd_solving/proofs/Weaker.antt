-- What follows from what a result holds.
use Rattle.std.proofs.Common.{◌≡◌, Option, Some, None, refl}
use Rattle.std.specs.Prelude.{IfNone, IfSome, false, is_some}

pub if_some_weaker : {A : Type 0} (o : Option A) (P Q : A → Type 0) → ((x : A) → P x → Q x) → IfSome o P → IfSome o Q
if_some_weaker None P Q f p = tt
if_some_weaker (Some x) P Q f p = f x p

pub if_some_with : {A : Type 0} (o : Option A) (P Q R : A → Type 0) → ((x : A) → P x → Q x → R x) → IfSome o P
    → IfSome o Q → IfSome o R
if_some_with None P Q R f p q = tt
if_some_with (Some x) P Q R f p q = f x p q

pub if_none_with : {A : Type 0} (o : Option A) (P Q : Type 0) → (o ≡ None → P → Q) → IfNone o P → IfNone o Q
if_none_with None P Q f p = f refl p
if_none_with (Some x) P Q f p = tt

pub none_goes : {A : Type 0} (o : Option A) (P : Type 0) → o ≡ None → IfNone o P → P
none_goes None P e p = p
none_goes (Some x) P e p = cc e

pub is_none_by : {A : Type 0} (o : Option A) → is_some o ≡ false → o ≡ None
is_none_by None e = cc
is_none_by (Some x) e = absurd (cc e)
