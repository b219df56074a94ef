-- Small calls and their answers, computed from the definitions alone.
-- Assumes nothing.
use Prim.Native.Nat.{ℕ}
use mathlib.Core.Path.{◌≡◌, refl}
use mathlib.Core.List.{List, [], ◌∷◌, map, flat_map}
use lib.ListN.{replicate}
use Rattle.netlist.specs.Commands as k
use Rattle.verdict.specs.FourNumbers.{verdict}
use Rattle.verdict.specs.Written as o
use Rattle.verdict.specs.Written.{Written, refuse, write}
use Rattle.check_spec.specs.Lists as l
use Rattle.check_spec.specs.Writing as w
use Rattle.draw_spec.specs.Draws as d
use Rattle.draw_spec.specs.Drawn as a
use Rattle.draw_spec.specs.Drawn.{drawn_bytes, drawn}

-- a buffer of so many bytes
abbrev lent : ℕ → List ℕ
lent room = replicate room 7

-- a seed, the inputs, the gates, how many bytes are lent, and what the call leaves of these
pub record Case : Type 0 where
  pub seed : ℕ
  pub inputs : ℕ
  pub gates : ℕ
  pub room : ℕ
  pub leaves : List ℕ → Written

abbrev case : ℕ → ℕ → ℕ → ℕ → (List ℕ → Written) → Case
case seed inputs gates room leaves = record { seed = seed; inputs = inputs; gates = gates; room = room; leaves = leaves }

-- seed 1, one input, four gates
abbrev four_gates : List ℕ
four_gates =
    1 ∷ 1 ∷
    0x11 ∷ 4 ∷ 0 ∷ 0 ∷ 0 ∷ 0 ∷
    0x11 ∷ 1 ∷ 1 ∷ 0 ∷ 0xFF ∷ 0xFF ∷
    0x11 ∷ 6 ∷ 1 ∷ 0 ∷ 2 ∷ 0 ∷
    0x11 ∷ 4 ∷ 1 ∷ 0 ∷ 2 ∷ 0 ∷
    0x12 ∷ 3 ∷ 0 ∷ 0x12 ∷ 4 ∷ 0 ∷
    0 ∷ []

pub seed_1 : drawn_bytes 1 1 4 ≡ four_gates
unfolding k.own_commands k.command_table k.form_in k.needed l.numbers l.select l.some w.row_for w.command w.write_file flat_map
    d.advance d.yield d.after d.operands_from d.gate_from d.after_gate d.gates_from a.used_by a.drawn_reference
seed_1 = refl

pub cases : List Case
cases =
    -- in a buffer of just its length, of one byte less, and of two more
    case 1 1 4 33 (write four_gates) ∷
    case 1 1 4 32 (refuse (verdict 41 3 0 0)) ∷
    case 1 1 4 35 (write four_gates) ∷
    -- no gates: all inputs are outputs
    case 0 3 0 12 (write (1 ∷ 3 ∷ 0x12 ∷ 0 ∷ 0 ∷ 0x12 ∷ 1 ∷ 0 ∷ 0x12 ∷ 2 ∷ 0 ∷ 0 ∷ [])) ∷
    -- the highest seed
    case 4294967295 2 2 21 (write (1 ∷ 2 ∷ 0x11 ∷ 6 ∷ 1 ∷ 0 ∷ 0 ∷ 0 ∷ 0x11 ∷ 1 ∷ 0 ∷ 0 ∷ 0xFF ∷ 0xFF ∷ 0x12 ∷ 2 ∷ 0 ∷ 0x12 ∷ 3 ∷ 0 ∷ 0 ∷ [])) ∷
    -- the first sum is 4,294,967,296; input 1 is an output too
    case 1640531527 2 2 24
    (write (1 ∷ 2 ∷ 0x11 ∷ 1 ∷ 0 ∷ 0 ∷ 0xFF ∷ 0xFF ∷ 0x11 ∷ 1 ∷ 0 ∷ 0 ∷ 0xFF ∷ 0xFF ∷ 0x12 ∷ 1 ∷ 0 ∷ 0x12 ∷ 2 ∷ 0 ∷ 0x12 ∷ 3 ∷ 0 ∷ 0 ∷ [])) ∷
    -- 39: no input, one too many, many too many, one gate too many; outputs and buffer are not looked at
    case 1 0 4 0 (refuse (verdict 39 0 0 0)) ∷
    case 1 11 0 0 (refuse (verdict 39 0 0 0)) ∷
    case 1 17 0 0 (refuse (verdict 39 0 0 0)) ∷
    case 1 1 41 400 (refuse (verdict 39 0 0 0)) ∷
    -- 40: 19 outputs, and 17; it comes before 41. With 16 outputs it does not come
    case 1 10 40 400 (refuse (verdict 40 0 0 0)) ∷
    case 2613 10 19 0 (refuse (verdict 40 0 0 0)) ∷
    case 311 10 17 0 (refuse (verdict 41 3 0 0)) ∷
    []

pub computed : map (λ (x : Case). drawn x.seed x.inputs x.gates (lent x.room)) cases ≡ map (λ (x : Case). x.leaves (lent x.room)) cases
unfolding cases k.own_commands k.command_table k.form_in k.needed l.numbers l.select l.some w.row_for w.command w.write_file flat_map o.write_or
    d.advance d.yield d.after d.operands_from d.gate_from d.after_gate d.gates_from a.used_by a.drawn_reference a.drawn
computed = refl
