-- Contents without registers that a file can hold: what a readable file holds is one, and one that is written reads as itself.
-- Assumes nothing.
use Prim.Native.Nat.{ℕ, suc, ◌+◌, ◌-◌, ◌*◌, ◌^◌, ◌≤◌, ◌<◌}
use native.Mathlib.Omega.{arith}
use mathlib.Core.Path.{◌≡◌, refl, sym, ap, ◌∙◌, subst}
use mathlib.Core.Bool.{Bool, true, false, ◌||◌}
use mathlib.Core.Logic.{◌⊎◌, inl, inr, ⊎_elim}
use mathlib.Core.List.{List, [], ◌∷◌, ◌++◌, map}
use lib.ListN.{length, get_or, length-map}
use lib.Dec.{ltb}
use lib.Pow.{pow_mono}
use borrow.Author.Tests.{ltb-true}
use Rattle.gates.specs.Cell.{kind_byte}
use Rattle.runs.proofs.Test.{clash, or_cases}
use Rattle.netlist.specs.declared.File.{File}
use Rattle.netlist.specs.declared.File.TheVariants.{Stage, Pipeline, Reference}
use Rattle.netlist.specs.declared.Sort.TheVariants as sort
use Rattle.netlist.specs.declared.Limits.{Limits}
use Rattle.netlist.specs.Bytes.{operands, absent}
use Rattle.netlist.specs.Commands.{role_of, needed}
use Rattle.netlist.specs.Reading as read
use Rattle.netlist.specs.Reading.{Nets, names, asked, Places, Reading, Ascending, refused, readable, read_file}
use Rattle.netlist.specs.Content.{Coded, coded_at}
use Rattle.netlist.specs.Writing as items
use Rattle.netlist.specs.Writing.{Has, Item, gate, output, care, gates_in, outputs_in, care_in, All, nets_in, ItemsFit, FileFits}
use Rattle.netlist.proofs.Operands.{same_asked}
use Rattle.netlist.proofs.Encoding.{each_file, kind_in_holds, operation_needs, reference_careless, has_gate, has_output, stage_care_holds, pipeline_care}
use Rattle.netlist.proofs.Laid.{wired_at}
use Rattle.netlist.proofs.ReadBack.{read-write}
use Rattle.netlist.proofs.Readable.{readable_read, output_names_holds}
use Rattle.netlist.proofs.Formed.{GatesFormed, OutputFormed, readable_formed}
use Rattle.netlist.proofs.References.{no_care}
use Rattle.wiring_spec.specs.Parts.{part_at}
use Rattle.check_spec.specs.Content.{Content, content_at, content_of, rails_of_output}
use Rattle.check_spec.specs.Verdicts.{refusal, reading}
use Rattle.check_spec.specs.Demands.{Pass}
use Rattle.check_spec.specs.Writing.{write_file}
use Rattle.check_spec.proofs.Writing.{items_of, gates_of, outputs_of, cares_of, parts_of, map-none, wired, stage_bytes, pipeline_bytes, reference_bytes, content_write}

-- a file whose reading passes was read
pub read_of : (f : File) (most : Limits) (bytes : List ℕ) → Pass (reading f most bytes) → (p : Places) × (read_file f most bytes ≡ readable p)
unfolding refusal
read_of f most bytes = go (read_file f most bytes)
  where
    go : (x : Reading) → Pass (refusal f x) → (p : Places) × (x ≡ readable p)
    go (refused number at) h = absurd (clash refl h.0)
    go (readable p) h = (p, refl)

-- what there is to name in a content without registers
abbrev pub nets_of : Content → Nets
nets_of c = record { inputs = c.inputs; gates = length c.gates; parts = [] }

-- Counts within limits; codes that are known, whose operands are complete and name something; and rising care words, where a file has such.
pub record Formed (f : File) (most : Limits) (c : Content) : Type 0 where
  pub inputs_in : (1 ≤ c.inputs) × (c.inputs ≤ most.inputs)
  pub gates_in_holds : length c.gates ≤ most.gates
  pub outputs_in_holds : (1 ≤ length c.outputs) × (length c.outputs ≤ most.outputs)
  pub gates : GatesFormed f (nets_of c) 0 c.gates
  pub outputs : All (OutputFormed f (nets_of c)) c.outputs
  pub care_in_holds : Ascending (2 ^ c.inputs) 0 c.care
  pub care_stage : (c.care ≡ []) ⊎ Has f sort.Care
  pub plain : c.parts ≡ []

pub read_formed : (f : File) (most : Limits) (bytes : List ℕ) → Pass (reading f most bytes) → (content_of f most bytes).parts ≡ [] → Formed f most (content_of f most bytes)
unfolding content_at
read_formed f most bytes h none =
    let p = (read_of f most bytes h).0 in
    let e = (read_of f most bytes h).1 in
    let r = readable_read f most bytes p e in
    let bare : p.parts ≡ [] = map-none (part_at bytes) p.parts (sym (ap (λ (x : Reading). (content_at f bytes x).parts) e) ∙ none) in
    let N : read.nets_of p ≡ record { inputs = p.inputs; gates = length p.gates; parts = [] } = λ i. record { inputs = p.inputs; gates = length p.gates; parts = read.sorts_of (bare i) } in
    let formed = readable_formed f most bytes p e in
    let g : length (map (coded_at f bytes) p.gates) ≡ length p.gates = length-map p.gates (coded_at f bytes) in
    let o : length (map (λ at. operands bytes (at + 1) (rails_of_output f)) p.outputs) ≡ length p.outputs = length-map p.outputs (λ at. operands bytes (at + 1) (rails_of_output f)) in
    rw e (record {
      inputs_in = r.inputs_in;
      gates_in_holds = rw g r.gates_in_holds;
      outputs_in_holds = rw o r.outputs_in_holds;
      gates = rw g (rw N at formed.0);
      outputs = rw g (outs _ p.outputs (rw N at formed.1));
      care_in_holds = r.care_in_holds;
      care_stage = cares f p e;
      plain = ap (map (part_at bytes)) bare;
    })
  where
    outs : (N : Nets) (l : List ℕ) → All (OutputFormed f N) (map (wired_at f bytes) l) → All (OutputFormed f N) (map (λ at. operands bytes (at + 1) (rails_of_output f)) l)
    outs N [] a = tt
    outs N (at ∷ l) a = (subst (OutputFormed f N) (sym (wired f bytes at)) a.0, outs N l a.1)

    cares : (f : File) (p : Places) → read_file f most bytes ≡ readable p → (p.care ≡ []) ⊎ Has f sort.Care
    cares Stage p e = inr stage_care_holds
    cares Pipeline p e = inr pipeline_care
    cares Reference p e = inl (no_care most bytes p e)

-- ---- it fits a file

-- limits within which every word, net and signal is an operand
pub record Small (most : Limits) : Type 0 where
  pub words : most.inputs ≤ 16
  pub nets : 2 * most.inputs + most.gates ≤ absent

small_kind : (hold : Bool) (c : ℕ) → c ≤ 27 → kind_byte c hold < 256
small_kind true c h = omega arith
small_kind false c h = omega arith

known_kind : (code : ℕ) → 1 ≤ needed Stage code → code < 256
known_kind code h = let k = kind_in_holds code h in rw k.kind_is (small_kind k.hold k.cell k.cell_in.1)

known_byte : (f : File) (code : ℕ) → 1 ≤ needed f code → code < 256
unfolding needed
known_byte Stage code h = known_kind code h
known_byte Pipeline code h = known_kind code h
known_byte Reference code h = omega (arith, (operation_needs code).1 h)

-- what a gate or an output may name is below the number of nets
few_names : (f : File) (N : Nets) → N.parts ≡ [] → (k i v : ℕ) → k ≤ N.gates →
    (asked f sort.Gate N k i v ≡ true → v < 2 * N.inputs + N.gates) × (asked f sort.Output N k i v ≡ true → v < 2 * N.inputs + N.gates)
unfolding names role_of read.carries_data read.part_nets
few_names Stage N none k i v h = (ltb-true v (2 * N.inputs + N.gates), ltb-true v (2 * N.inputs + N.gates))
few_names Pipeline N none k i v h = (below, below)
  where
    below : (ltb v (2 * N.inputs + N.gates) || get_or (read.part_nets N.parts) (v - (2 * N.inputs + N.gates)) false) ≡ true → v < 2 * N.inputs + N.gates
    below e = ⊎_elim (ltb-true v (2 * N.inputs + N.gates)) (λ q. absurd (clash (rw none at q) refl)) (or_cases (ltb v (2 * N.inputs + N.gates)) _ e)
few_names Reference N none k i v h = ((λ e. omega (arith, ltb-true v (N.inputs + k) e)), λ e. omega (arith, ltb-true v (N.inputs + N.gates) e))

care_named : (f : File) (N : Nets) (w : ℕ) → asked f sort.Care N 0 0 w ≡ true
unfolding names role_of
care_named f N w = each_file (λ f. asked f sort.Care N 0 0 w ≡ true) (refl, refl, refl) f

module _ (f : File) (most : Limits) (c : Content) (small : Small most) (h : Formed f most c) where
  abbrev n : ℕ
  n = c.inputs

  abbrev N : Nets
  N = nets_of c

  inside : 2 * n + N.gates ≤ absent
  inside = omega (arith, h.inputs_in, h.gates_in_holds, small.nets)

  outputs-fit : (k : ℕ) → k ≤ N.gates → (vss : List (List ℕ)) → All (OutputFormed f N) vss → ItemsFit f N k (map output vss)
  outputs-fit k l [] a = tt
  outputs-fit k l (vs ∷ vss) a = (
    record {
      has = has_output f;
      whole = a.0.whole;
      u16s = same_asked (asked f sort.Output N N.gates) (λ v. v < 65536) (λ i v b. omega (arith, inside, (few_names f N refl N.gates i v (omega arith)).1 b)) 0 vs a.0.named;
      named = rw (output_names_holds f N k) at a.0.named;
    },
    outputs-fit k l vss a.1,
  )

  gates-fit : (k : ℕ) (cs : List Coded) → k + length cs ≡ N.gates → GatesFormed f N k cs → ItemsFit f N k (map gate cs ++ map output c.outputs)
  gates-fit k [] l a = outputs-fit k (omega arith) c.outputs h.outputs
  gates-fit k (x ∷ cs) l a =
      let below : (m : ℕ) → absent ≤ m → All (λ v. v < m) x.operands = λ m b. same_asked (asked f sort.Gate N k) (λ v. v < m) (λ i v d. omega (arith, inside, (few_names f N refl k i v (omega arith)).0 d)) 0 x.operands a.0.named in (
        record {
          has = has_gate f;
          whole = (known_byte f x.code a.0.known, a.0.known, a.0.whole, below absent (omega arith));
          u16s = below 65536 (omega arith);
          named = a.0.named;
        },
        gates-fit (suc k) cs (omega arith) a.1,
      )

  cares_fit : (floor : ℕ) (ws : List ℕ) (rest : List Item) → Ascending (2 ^ n) floor ws → (ws ≡ []) ⊎ Has f sort.Care → ItemsFit f N 0 rest → ItemsFit f N 0 (map care ws ++ rest)
  unfolding names role_of
  cares_fit floor [] rest a s r = r
  cares_fit floor (w ∷ ws) rest a (inl e) r = absurd (omega (arith, ap length e))
  cares_fit floor (w ∷ ws) rest a (inr s) r = (
    record { has = s; whole = tt; u16s = (omega (arith, a.1, pow_mono {i = n} {j = 16} (omega (arith, h.inputs_in, small.words))), tt); named = (care_named f N w, tt) },
    cares_fit (w + 1) ws rest a.2 (inr s) r,
  )

  formed-fits : FileFits f most n (items_of c)
  unfolding read.count_of
  formed-fits = record {
    inputs_in = h.inputs_in;
    inputs_byte = omega (arith, h.inputs_in, small.words);
    gates_in_holds = rw (gates_of c) h.gates_in_holds;
    outputs_in_holds = rw (outputs_of c) h.outputs_in_holds;
    care_in_holds = rw (cares_of c) h.care_in_holds;
    registers_in = rw (parts_of c) (omega arith);
    elements_in = rw (parts_of c) (omega arith);
    items_fit = rw (gates_of c, parts_of c) (cares_fit 0 c.care (map gate c.gates ++ map output c.outputs) h.care_in_holds h.care_stage (gates-fit 0 c.gates (omega arith) h.gates));
  }

  bytes_are : (f : File) (c : Content) → (c.care ≡ []) ⊎ Has f sort.Care → write_file f c ≡ items.write_file f c.inputs (items_of c)
  bytes_are Stage c e = stage_bytes c
  bytes_are Pipeline c e = pipeline_bytes c
  bytes_are Reference c (inl e) = reference_bytes c e
  bytes_are Reference c (inr e) = absurd (reference_careless e)

  -- written, it is read, and read as itself
  pub written_reads : Pass (reading f most (write_file f c)) × (content_of f most (write_file f c) ≡ c)
  unfolding refusal
  written_reads = rw (bytes_are f c h.care_stage) (rw (read-write f most n (items_of c) formed-fits) tt, content_write f most c h.plain formed-fits)
