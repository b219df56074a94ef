-- 31, output by output.
use Rattle.std.specs.Prelude.{ℕ, zero, suc, Bool, false, cond, ◌||◌, List, [], ◌∷◌, eqb}
use Rattle.netlist.specs.Content.{Pair}
use Rattle.text_spec.specs.ToText.{straight, named}

-- an output that is no input pair names the nets of its rails
abbrev pub names_net : ℕ → Pair → ℕ → Bool
names_net n p v = cond (straight n p) false (eqb v p.rail1 || eqb v p.rail0)

-- the nets that the outputs before output j name
abbrev pub given : ℕ → (ℕ → Pair) → ℕ → List ℕ
given n outputs zero = []
given n outputs (suc j) = cond (straight n (outputs j)) (given n outputs j) ((outputs j).rail1 ∷ (outputs j).rail0 ∷ given n outputs j)

-- an output would give a net a second name, where these nets have one
abbrev pub second : ℕ → List ℕ → Pair → Bool
second n nets p = cond (straight n p) false (named n nets p.rail0 || named n (p.rail0 ∷ nets) p.rail1)
