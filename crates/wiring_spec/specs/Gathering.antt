-- What a bit that code gathers along steps says: one of some nets passes a test, or leads to a net that does.
use Rattle.std.specs.Prelude.{ℕ, ◌≡◌, Bool, true, List}
use Rattle.verdict.specs.Paths.{In, Leads}

pub record Gathers (next : ℕ → List ℕ) (own : ℕ → Bool) (xs : List ℕ) (b : Bool) : Type 0 where
  pub sound : b ≡ true → (x : ℕ) × In x xs × (y : ℕ) × (own y ≡ true) × Leads next y x
  pub complete : (x y : ℕ) → In x xs → own y ≡ true → Leads next y x → b ≡ true
