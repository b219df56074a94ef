-- The order of lists of numbers, and that of the numbered stages: a greater number has greater bytes.
-- Assumes nothing.
use Prim.Native.Nat.{ℕ, zero, suc, ◌*◌, ◌/◌, ◌%◌, ◌≤◌, ◌<◌}
use native.Mathlib.Omega.{arith}
use native.Mathlib.Nat.{mod-lt, mul-le-mul}
use mathlib.Core.Path.{◌≡◌, refl, ap}
use mathlib.Core.Logic.{inl, inr, ⊎_elim}
use mathlib.Core.List.{List, [], ◌∷◌, ◌++◌, flat_map}
use Rattle.netlist.specs.declared.File.TheVariants.{Stage}
use Rattle.netlist.specs.declared.Sort.TheVariants as sort
use Rattle.netlist.specs.Commands.{command_table, own_commands, form_in}
use Rattle.netlist.specs.Coded.{Coded}
use Rattle.check_spec.specs.Writing.{row_for, command, write_file}
use Rattle.next_spec.specs.Numbered.{nets_of, stages, lists, gates_numbered, stage_numbered}
use Rattle.next_spec.proofs.Bytes.{two_bytes, gate_bytes, list_bytes, output_bytes}
use Rattle.next_spec.specs.Family.{file_of, Less}
use Rattle.next_spec.proofs.Digits.{quotient_low, digits_less, square, lists_some}

pub less_refl : (xs : List ℕ) → Less xs xs → ⊥
less_refl [] h = h
less_refl (x ∷ xs) (inl l) = omega arith
less_refl (x ∷ xs) (inr r) = less_refl xs r.1

pub less_both : (xs ys : List ℕ) → Less xs ys → Less ys xs → ⊥
less_both [] [] h k = h
less_both [] (y ∷ ys) h k = k
less_both (x ∷ xs) [] h k = h
less_both (x ∷ xs) (y ∷ ys) (inl l) (inl m) = omega arith
less_both (x ∷ xs) (y ∷ ys) (inl l) (inr m) = let e = m.0 in omega arith
less_both (x ∷ xs) (y ∷ ys) (inr l) (inl m) = let e = l.0 in omega arith
less_both (x ∷ xs) (y ∷ ys) (inr l) (inr m) = less_both xs ys l.1 m.1

-- ---- two nets

module _ (m : ℕ) (some : 1 ≤ m) (low : m ≤ 256) where
  pub two_less : (y z : ℕ) (r t : List ℕ) → y < z → z < m * m → Less (two_bytes m y r) (two_bytes m z t)
  two_less y z r t l b =
      let zq : z / m < m = quotient_low m some z m b in
      let ym : y % m < m = mod-lt y some in
      let zm : z % m < m = mod-lt z some in
      ⊎_elim
      (λ q. inl (omega arith))
      (λ e. let f = e.0 in let g = e.1 in rw f (inr (refl, inr (refl, inl (omega arith)))))
      (digits_less m some y z l)

  -- ---- gates

  pub gate_less : (x y : ℕ) (r t : List ℕ) → x < y → Less (gate_bytes m x r) (gate_bytes m y t)
  gate_less x y r t l =
      ⊎_elim
      (λ q. inr (refl, inl (omega arith)))
      (λ e. let f = e.0 in rw f
      (inr (
        refl,
        inr (
          refl,
          two_less (x % (m * m)) (y % (m * m)) (0xFF ∷ 0xFF ∷ 0xFF ∷ 0xFF ∷ r) (0xFF ∷ 0xFF ∷ 0xFF ∷ 0xFF ∷ t) e.1
              (mod-lt y (square m some)),
        ),
      )))
      (digits_less (m * m) (square m some) x y l)

  less_same : (x : ℕ) (r t : List ℕ) → Less r t → Less (gate_bytes m x r) (gate_bytes m x t)
  less_same x r t h = inr (refl, inr (refl, inr (refl, inr (refl, inr (refl, inr (refl, inr (refl, inr (refl, inr (refl, inr (refl, h))))))))))

  list_same : (g x : ℕ) (r t : List ℕ) → Less r t → Less (list_bytes m g x r) (list_bytes m g x t)
  unfolding list_bytes
  list_same zero x r t h = h
  list_same (suc g) x r t h = less_same (x / lists m g) (list_bytes m g (x % lists m g) r) (list_bytes m g (x % lists m g) t) (list_same g (x % lists m g) r t h)

  pub list_less : (g x y : ℕ) (r t : List ℕ) → x < y → y < lists m g → Less (list_bytes m g x r) (list_bytes m g y t)
  unfolding list_bytes lists
  list_less zero x y r t l b = absurd (omega arith)
  list_less (suc g) x y r t l b =
      ⊎_elim
      (λ q. gate_less (x / lists m g) (y / lists m g) (list_bytes m g (x % lists m g) r) (list_bytes m g (y % lists m g) t) q)
      (λ e. let f = e.0 in rw f (less_same (y / lists m g) (list_bytes m g (x % lists m g) r) (list_bytes m g (y % lists m g) t)
      (list_less g (x % lists m g) (y % lists m g) r t e.1 (mod-lt y (lists_some m some g)))))
      (digits_less (lists m g) (lists_some m some g) x y l)

-- ---- stages

-- the bytes of a numbered stage
gates-bytes : (m g x : ℕ) (rest : List ℕ) → flat_map (λ (g : Coded). command Stage sort.Gate g.code g.operands) (gates_numbered m g x) ++ rest ≡ list_bytes m g x rest
unfolding gates_numbered list_bytes flat_map command row_for command_table own_commands form_in
gates-bytes m zero x rest = refl
gates-bytes m (suc g) x rest = ap (gate_bytes m (x / lists m g)) (gates-bytes m g (x % lists m g) rest)

pub stage_bytes : (n g z : ℕ)
    → file_of (stage_numbered n g z) ≡ 0x01 ∷ n ∷ list_bytes (nets_of n g) g (z / (nets_of n g * nets_of n g))
    (output_bytes (nets_of n g) (z % (nets_of n g * nets_of n g)))
unfolding write_file stage_numbered flat_map command row_for command_table own_commands form_in
stage_bytes n g z = ap (λ (l : List ℕ). 0x01 ∷ n ∷ l) (gates-bytes (nets_of n g) g (z / (nets_of n g * nets_of n g)) (output_bytes (nets_of n g) (z % (nets_of n g * nets_of n g))))

module _ (n g : ℕ) (some : 1 ≤ nets_of n g) (low : nets_of n g ≤ 256) where
  pub stage_less : (y z : ℕ) → y < z → z < stages n g → Less (file_of (stage_numbered n g y)) (file_of (stage_numbered n g z))
  stage_less y z l b =
      let m = nets_of n g in
      let k : 1 ≤ m * m = mul-le-mul some some in
      rw (stage_bytes n g y, stage_bytes n g z)
      (inr (
        refl,
        inr (
          refl,
          ⊎_elim
              (λ q. list_less m some low g (y / (m * m)) (z / (m * m)) (output_bytes m (y % (m * m))) (output_bytes m (z % (m * m))) q
              (quotient_low (m * m) k z (lists m g) b))
              (λ e. let f = e.0 in rw f (list_same m some low g (z / (m * m)) (output_bytes m (y % (m * m))) (output_bytes m (z % (m * m)))
              (inr (refl, two_less m some low (y % (m * m)) (z % (m * m)) (0x00 ∷ []) (0x00 ∷ []) e.1 (mod-lt z k)))))
              (digits_less (m * m) k y z l),
        ),
      ))
