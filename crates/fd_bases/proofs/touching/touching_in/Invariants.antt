use Rattle.std.proofs.Common.{◌≡◌, ◌≤◌, ℕ, List, length, take, drop}
use Rattle.fd_bases.specs.Due.{is_noted, touches_at}
use Rattle.fd_bases.proofs.touching.touching_in.Given as goal

-- the elements so far are noted, at the buses that they touch
abbrev pub invariant-loop-name : goal.invariant-loop-name
invariant-loop-name l = record {
  noted : (bus : List ℕ) (place : ℕ) → is_noted l.touching.entries bus place ≡ touches_at (take l.place l.elements.entries) place bus;
  rest : drop l.place l.elements.entries ≡ l._name-iterator;
  within : l.place ≤ length l.elements.entries;
}
