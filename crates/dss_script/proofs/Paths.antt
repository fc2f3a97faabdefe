-- The folder of a name, from its end.
use Rattle.std.proofs.Common.{◌≡◌, ℕ, ◌-◌, ◌<◌, ◌≤◌, List, length, take, get_or, true, false, arith}
use Rattle.std.specs.List.{suffix_len}
use Rattle.std.proofs.lemmas.List.Sums.{suffix_len-take_yes, suffix_len-take_no}
use Rattle.dss_script.specs.Paths.{is_slash, is_no_slash}

pub step_back : (name : List ℕ) (n d : ℕ) → 0 < n → n ≤ length name → is_slash (get_or name (n - 1) d) ≡ false
    → n - suffix_len is_no_slash (take n name) ≡ (n - 1) - suffix_len is_no_slash (take (n - 1) name)
step_back name n d some within h = let e = suffix_len-take_yes is_no_slash name n d some within (rw h) in omega arith

pub at_slash : (name : List ℕ) (n d : ℕ) → 0 < n → n ≤ length name → is_slash (get_or name (n - 1) d) ≡ true
    → n - suffix_len is_no_slash (take n name) ≡ n
at_slash name n d some within h = let e = suffix_len-take_no is_no_slash name n d some within (rw h) in omega arith
