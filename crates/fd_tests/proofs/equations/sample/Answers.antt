use Rattle.std.proofs.Common.{pos, negsuc, [], ◌∷◌, refl, sym, subst, arith, lit<}
use Rattle.std.proofs.lemmas.Int.{ints}
use Rattle.std.proofs.lemmas.List.Elements.{All-cons, All-nil}
use Rattle.dss_script.specs.fd_arith.declared.terms.Term.{Term}
use Rattle.fd_settings.specs.fd_pattern.Conditions.{AreLinear, IsLinear}
use Rattle.fd_tests.proofs.equations.sample.Goals as goal

third : Term
third = record { row = 0; col = 0; num = pos 1; den = pos 3 }

other : Term
other = record { row = 0; col = 1; num = negsuc 1; den = pos 7 }

third_linear : IsLinear 2 third
unfolding third
third_linear = record {
  term = record { row = lit< tt; col = lit< tt; positive = omega (arith, ints); most = omega (arith, ints) };
  within = refl;
}

other_linear : IsLinear 2 other
unfolding other
other_linear = record {
  term = record { row = lit< tt; col = lit< tt; positive = omega (arith, ints); most = omega (arith, ints) };
  within = refl;
}

all_linear : AreLinear 2 (third ∷ third ∷ other ∷ [])
all_linear = record {
  each = All-cons (IsLinear 2) third (third ∷ other ∷ []) third_linear (All-cons (IsLinear 2) third (other ∷ [])
      third_linear (All-cons (IsLinear 2) other [] other_linear (All-nil (IsLinear 2))));
  few = lit< tt;
}

pub of-requires-clause-linear : goal.of-requires-clause-linear
unfolding third other
of-requires-clause-linear c = subst (AreLinear 2) (sym c.in_ok-terms.ensures.items) all_linear
