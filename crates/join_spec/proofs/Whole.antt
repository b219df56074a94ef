-- The joined content: its gates by number, its stage as a net, and that a file can hold it.
-- Assumes nothing.
use Prim.Native.Nat.{ℕ, zero, suc, ◌+◌, ◌-◌, ◌*◌, ◌≤◌, ◌<◌}
use native.Mathlib.Omega.{arith}
use mathlib.Core.Path.{◌≡◌, refl, sym, ap, ◌∙◌, subst}
use mathlib.Core.Bool.{true}
use mathlib.Core.List.{List, [], ◌∷◌, ◌++◌, map}
use lib.ListN.{length, get_or, length-append, length-map, get_or-append}
use lib.Seq.{get_or-append-add}
use Rattle.netlist.specs.declared.File.{File}
use Rattle.netlist.specs.declared.Sort.TheVariants as sort
use Rattle.netlist.specs.declared.Limits.{Limits}
use Rattle.netlist.specs.Reading.{Nets, asked}
use Rattle.netlist.specs.Coded.{Coded}
use Rattle.netlist.specs.Writing.{EachFrom}
use Rattle.netlist.proofs.Formed.{GateFormed, GatesFormed, OutputFormed}
use Rattle.check_spec.specs.Content.{Content}
use Rattle.check_spec.specs.Rows.{no_gate}
use Rattle.check_spec.proofs.Formed.{Formed, nets_of}
use Rattle.join_spec.specs.Joining.{joined_by}
use Rattle.join_spec.proofs.Lists.{All-mapped, Each-mapped, map_get}

-- a gate whose operands are moved
abbrev pub moved : (ℕ → ℕ) → Coded → Coded
moved move g = record { code = g.code; operands = map move g.operands }

-- limits of a whole that have room for two parts
pub record RoomForTwo (part whole : Limits) : Type 0 where
  pub inputs : part.inputs ≤ whole.inputs
  pub gates : part.gates + part.gates ≤ whole.gates
  pub outputs : part.outputs ≤ whole.outputs

module _ (move : ℕ → ℕ) (one two : Content) where
  pub gates_length : length (joined_by move one two).gates ≡ length one.gates + length two.gates
  unfolding joined_by
  gates_length = length-append one.gates (map (moved move) two.gates) ∙ ap (λ (n : ℕ). length one.gates + n) (length-map two.gates (moved move))

  pub outputs_length : length (joined_by move one two).outputs ≡ length two.outputs
  unfolding joined_by
  outputs_length = length-map two.outputs (map move)

  pub gate_first : (k : ℕ) → k < length one.gates → get_or (joined_by move one two).gates k no_gate ≡ get_or one.gates k no_gate
  unfolding joined_by
  gate_first k h = get_or-append one.gates (map (moved move) two.gates) no_gate k h

  pub gate_second : (k : ℕ) → k < length two.gates → get_or (joined_by move one two).gates (length one.gates + k) no_gate ≡ moved move (get_or two.gates k no_gate)
  unfolding joined_by
  gate_second k h = get_or-append-add one.gates (map (moved move) two.gates) k no_gate ∙ map_get (moved move) two.gates k no_gate no_gate h

-- ---- a file can hold it

module _ (f : File) (N : Nets) where
  -- gate i of some well-formed gates
  pub gate_formed : (k : ℕ) (cs : List Coded) → GatesFormed f N k cs → (i : ℕ) → i < length cs → GateFormed f N (k + i) (get_or cs i no_gate)
  gate_formed k [] h i l = absurd (omega arith)
  gate_formed k (c ∷ cs) h zero l = let z : k + 0 ≡ k = omega arith in rw z h.0
  gate_formed k (c ∷ cs) h (suc i) l = let z : k + suc i ≡ suc k + i = omega arith in rw z (gate_formed (suc k) cs h.1 i (omega arith))

  gates-++ : (k : ℕ) (cs ds : List Coded) → GatesFormed f N k cs → GatesFormed f N (k + length cs) ds → GatesFormed f N k (cs ++ ds)
  gates-++ k [] ds h l = let z : k + 0 ≡ k = omega arith in rw z at l
  gates-++ k (c ∷ cs) ds h l = let z : k + suc (length cs) ≡ suc k + length cs = omega arith in (h.0, gates-++ (suc k) cs ds h.1 (rw z at l))

module _ (f : File) (move : ℕ → ℕ) (one two : Content) where
  abbrev N : Nets
  N = nets_of one

  abbrev M : Nets
  M = nets_of two

  -- of the whole
  abbrev W : Nets
  W = record { inputs = one.inputs; gates = N.gates + M.gates; parts = [] }

  -- what the parts may name, the whole may, where the second part is moved
  pub record Moves : Type 0 where
    pub first : (k i v : ℕ) → asked f sort.Gate N k i v ≡ true → asked f sort.Gate W k i v ≡ true
    pub second : (k i v : ℕ) → asked f sort.Gate M k i v ≡ true → asked f sort.Gate W (N.gates + k) i (move v) ≡ true
    pub outputs : (i v : ℕ) → asked f sort.Output M M.gates i v ≡ true → asked f sort.Output W W.gates i (move v) ≡ true

  pub joined_formed : (most whole : Limits) → RoomForTwo most whole → Formed f most one → Formed f most two → Moves → Formed f whole (joined_by move one two)
  unfolding joined_by
  joined_formed most whole room h h' names = record {
    inputs_in = omega (arith, h.inputs_in, room.inputs);
    gates_in_holds = omega (arith, gates_length move one two, h.gates_in_holds, h'.gates_in_holds, room.gates);
    outputs_in_holds = omega (arith, outputs_length move one two, h'.outputs_in_holds, room.outputs);
    gates = rw (gates_length move one two) (gates-++ f W 0 one.gates (map (moved move) two.gates) (firsts 0 one.gates h.gates)
        (let z : N.gates + 0 ≡ 0 + N.gates = omega arith in rw z at (seconds 0 two.gates h'.gates)));
    outputs = rw (gates_length move one two) (All-mapped (OutputFormed f M) (OutputFormed f W) (map move)
        (λ vs o. record { whole = length-map vs move ∙ o.whole; named = Each-mapped _ _ move names.outputs 0 vs o.named }) two.outputs h'.outputs);
    care_in_holds = h.care_in_holds;
    care_stage = h.care_stage;
    plain = refl;
  }
    where
      same-named : (k i : ℕ) (vs : List ℕ) → EachFrom (asked f sort.Gate N k) i vs → EachFrom (asked f sort.Gate W k) i vs
      same-named k i [] a = tt
      same-named k i (v ∷ vs) a = (names.first k i v a.0, same-named k (suc i) vs a.1)

      firsts : (k : ℕ) (cs : List Coded) → GatesFormed f N k cs → GatesFormed f W k cs
      firsts k [] a = tt
      firsts k (c ∷ cs) a = (record { known = a.0.known; whole = a.0.whole; named = same-named k 0 c.operands a.0.named }, firsts (suc k) cs a.1)

      seconds : (k : ℕ) (cs : List Coded) → GatesFormed f M k cs → GatesFormed f W (N.gates + k) (map (moved move) cs)
      seconds k [] a = tt
      seconds k (c ∷ cs) a =
          let z : suc (N.gates + k) ≡ N.gates + suc k = omega arith in (
            record { known = a.0.known; whole = length-map c.operands move ∙ a.0.whole; named = Each-mapped _ _ move (names.second k) 0 c.operands a.0.named },
            rw z (seconds (suc k) cs a.1),
          )
