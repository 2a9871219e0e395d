use Rattle.std.proofs.Common.{◌≡◌, ◌≤◌, Bool, length}
use Rattle.std.specs.Fn.{FnReturnsAt}
use Rattle.std.proofs.lemmas.List.Filters.{FiltersInPlace}
use Rattle.mte_translate.specs.declared.translation.Translation.{Translation}
use Rattle.mte_translate.proofs.standing.Standing.retain.Given as goal

abbrev pub invariant-loop-place : goal.invariant-loop-place
invariant-loop-place g l = record {
  front : l.self-inside.first ≡ 0;
  behind : l.kept ≤ l.place;
  long : length l.self-inside.places ≡ 128;
  kept : (test : Translation → Bool)
      → ((t : Translation) (b : Bool) → FnReturnsAt g.F.Fn l.keeps t b → b ≡ test t)
      → FiltersInPlace test l.initial.self-inside.places l.self-inside.places l.kept l.place;
}
