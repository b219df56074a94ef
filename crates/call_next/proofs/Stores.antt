-- The file of a numbered stage, put command by command.
-- Assumes nothing.
use Prim.Native.Nat.{ℕ, ◌+◌, ◌*◌, ◌/◌, ◌%◌, ◌≤◌, ◌<◌}
use native.Mathlib.Omega.{arith}
use native.Mathlib.Nat.{mod-lt, div-one}
use mathlib.Core.Path.{◌≡◌, refl, sym, ◌∙◌}
use mathlib.Core.List.{List, [], ◌∷◌, ◌++◌}
use lib.ListN.{length-append}
use Rattle.netlist.specs.declared.File.TheVariants as file
use Rattle.netlist.specs.Coded.{Coded}
use Rattle.netlist.specs.Writing.{gate, output, write_item}
use Rattle.write_command.specs.Put.{Put, coded}
use Rattle.write_command.specs.Parts.{bytes_of}
use Rattle.write_command.proofs.Joining.{put-++, put_none}
use Rattle.write_command.proofs.Putting.{put_same}
use Rattle.write_command.proofs.Files.{gate_absent, bytes_length, stage_gate_width, stage_output_width, file_parts}
use Rattle.check_spec.proofs.Writing.{stage_bytes}
use Rattle.next_spec.specs.Family.{file_of}
use Rattle.next_spec.specs.Numbered.{nets_of, lists, gate_numbered, gates_numbered, stage_numbered}
use Rattle.next_spec.specs.Listing.{InShape}
use Rattle.next_spec.proofs.Bytes.{gate_bytes, list_bytes}
use Rattle.next_spec.proofs.Digits.{quotient_low, square}
use Rattle.next_spec.proofs.Members.{gates_long}

-- ---- gates by their bytes

pub list_one : (m x : ℕ) (rest : List ℕ) → list_bytes m 1 x rest ≡ gate_bytes m x rest
unfolding list_bytes lists
list_one m x rest = rw (div-one x)

pub list_two : (m x k : ℕ) (rest : List ℕ) → k ≡ 2 * (m * m) → list_bytes m 2 x rest ≡ gate_bytes m (x / k) (gate_bytes m (x % k) rest)
unfolding list_bytes lists
list_two m x k rest e = let f : 2 * (m * m) * 1 ≡ k = omega arith in rw (f, div-one (x % k))

-- ---- a gate

-- the bytes of kind and pins fit
pub gate_small : (m x k : ℕ) → 1 ≤ m → m ≤ 6 → x < 2 * (m * m) → k ≡ m * m → (x / k < 2) × (x % k / m < 6) × (x % k % m < 6)
gate_small m x k some low l e =
    let s : 1 ≤ m * m = square m some in
    let y : x % (m * m) < m * m = mod-lt x s in
    let q : x % (m * m) / m < m = quotient_low m some (x % (m * m)) m y in
    let r : x % (m * m) % m < m = mod-lt (x % (m * m)) some in
    rw e (quotient_low (m * m) s x 2 l, omega arith, omega arith)

pub gate_put : {buffer after : List ℕ} {at : ℕ} (m x k : ℕ) → k ≡ m * m
    → Put buffer at (write_item file.Stage (gate (coded (1 + x / k) (x % k / m ∷ x % k % m ∷ 65535 ∷ 65535 ∷ [])))) after
    → Put buffer at (write_item file.Stage (gate (gate_numbered m x))) after
gate_put m x k e p = put_same (gate_absent file.Stage (1 + x / (m * m)) (x % (m * m) / m ∷ x % (m * m) % m ∷ []) 2) (rw e at p)

-- ---- the gates of a shape

one-item : (g : Coded) → bytes_of file.Stage gate (g ∷ []) ≡ write_item file.Stage (gate g) ++ []
unfolding bytes_of
one-item g = refl

two_items : (g h : Coded) → bytes_of file.Stage gate (g ∷ h ∷ []) ≡ write_item file.Stage (gate g) ++ (write_item file.Stage (gate h) ++ [])
unfolding bytes_of
two_items g h = refl

numbered-one : (m x : ℕ) → gates_numbered m 1 x ≡ gate_numbered m x ∷ []
unfolding gates_numbered lists
numbered-one m x = rw (div-one x)

numbered-two : (m x k : ℕ) → k ≡ 2 * (m * m) → gates_numbered m 2 x ≡ gate_numbered m (x / k) ∷ gate_numbered m (x % k) ∷ []
unfolding gates_numbered lists
numbered-two m x k e = let f : 2 * (m * m) * 1 ≡ k = omega arith in rw (f, div-one (x % k))

module _ {buffer : List ℕ} (m g x : ℕ) where
  pub gates_none : g ≡ 0 → Put buffer 2 (bytes_of file.Stage gate (gates_numbered m g x)) buffer
  unfolding gates_numbered bytes_of
  gates_none e = rw e (put_none buffer 2)

  pub gates_one : {after : List ℕ} → g ≡ 1 → Put buffer 2 (write_item file.Stage (gate (gate_numbered m x))) after
      → Put buffer 2 (bytes_of file.Stage gate (gates_numbered m g x)) after
  gates_one {after} e p = rw (e, numbered-one m x, one-item (gate_numbered m x))
      (put-++ p (put_none after 12) (omega (arith, stage_gate_width (gate_numbered m x))))

  pub gates_two : {between after : List ℕ} (k : ℕ) → g ≡ 2 → k ≡ 2 * (m * m) → Put buffer 2 (write_item file.Stage (gate (gate_numbered m (x / k)))) between
      → Put between 12 (write_item file.Stage (gate (gate_numbered m (x % k)))) after → Put buffer 2 (bytes_of file.Stage gate (gates_numbered m g x)) after
  gates_two {after = after} k e f p q =
      rw (e, numbered-two m x k f, two_items (gate_numbered m (x / k)) (gate_numbered m (x % k)))
      (put-++ p (put-++ q (put_none after 22) (omega (arith, stage_gate_width (gate_numbered m (x % k)))))
      (omega (arith, stage_gate_width (gate_numbered m (x / k)))))

-- which numbers the gates have
pub one_below : (m g x : ℕ) → g ≡ 1 → x < lists m g → x < 2 * (m * m)
unfolding lists
one_below m g x e l = let h : x < lists m 1 = rw e at l in omega arith

pub two_below : (m g x k : ℕ) → 1 ≤ m → g ≡ 2 → k ≡ 2 * (m * m) → x < lists m g → (x / k < 2 * (m * m)) × (x % k < 2 * (m * m))
unfolding lists
two_below m g x k some e f l =
    let h : x < 2 * (m * m) * (2 * (m * m) * 1) = rw e at l in
    let one : 2 * (m * m) * 1 ≡ k = omega arith in
    let i : x < 2 * (m * m) * k = rw one at h in
    let s : 1 ≤ m * m = square m some in
    let r : x % k < k = mod-lt x (omega arith) in
    (quotient_low k (omega arith) x (2 * (m * m)) i, omega arith)

-- ---- the whole file

pub below : (m g z k : ℕ) → k ≡ m * m → z < lists m g * (m * m) → z < lists m g * k
below m g z k e l = rw e l

pub output_small : (m z k : ℕ) → 1 ≤ m → m ≤ 6 → k ≡ m * m → (z % k / m < 6) × (z % k % m < 6)
output_small m z k some low e =
    let y : z % (m * m) < m * m = mod-lt z (square m some) in
    let q : z % (m * m) / m < m = quotient_low m some (z % (m * m)) m y in
    let r : z % (m * m) % m < m = mod-lt (z % (m * m)) some in
    rw e (omega arith, omega arith)

pub stage_put : {b0 b1 b2 b3 b4 : List ℕ} (n g z k : ℕ) → InShape n g → k ≡ nets_of n g * nets_of n g → Put b0 0 (0x01 ∷ n ∷ []) b1
    → Put b1 2 (bytes_of file.Stage gate (gates_numbered (nets_of n g) g (z / k))) b2
    → Put b2 (2 + 10 * g) (write_item file.Stage (output (z % k / nets_of n g ∷ z % k % nets_of n g ∷ []))) b3 → Put b3 (7 + 10 * g) (0x00 ∷ []) b4
    → Put b0 0 (file_of (stage_numbered n g z)) b4
unfolding stage_numbered bytes_of
stage_put {b3 = b3} n g z k i e p q o w =
    let m = nets_of n g in
    let x = z / (m * m) in
    let long = bytes_length file.Stage gate 10 stage_gate_width (gates_numbered m g x) in
    put_same (sym (stage_bytes (stage_numbered n g z) ∙ file_parts file.Stage gate output n [] (gates_numbered m g x) ((z % (m * m) / m ∷ z % (m * m) % m ∷ []) ∷ [])))
    (put-++ p
    (put-++ (rw e at q)
    (put-++ (put-++ (rw e at o) (put_none b3 (7 + 10 * g)) (omega (arith, stage_output_width (z % (m * m) / m ∷ z % (m * m) % m ∷ []))))
    w
    (omega (
      arith,
      length-append (write_item file.Stage (output (z % (m * m) / m ∷ z % (m * m) % m ∷ []))) [],
      stage_output_width
          (z % (m * m) / m ∷ z % (m * m) % m ∷ []),
    )))
    (omega (arith, long, gates_long m g x)))
    refl)
