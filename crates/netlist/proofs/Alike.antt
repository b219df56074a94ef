-- A stage file reads alike as a pipeline, also where it is refused: only one that is refused at the command of a register or of a C-element does not. The two
-- readers are followed side by side; the test of 9 begins again at the first command, so what is known of it is carried along.
-- Assumes nothing.
use Rattle.std.specs.Prelude.{Option, Some}
use Prim.Native.Nat.{ℕ, zero, suc, ◌+◌, ◌≤◌, ◌<◌}
use native.Mathlib.Omega.{arith}
use native.Mathlib.Decide.{ℕ_discrete, dec_lt}
use mathlib.Core.Path.{◌≡◌, refl, ap, ap₂, ◌∙◌, subst, fun_ext}
use mathlib.Core.Bool.{Bool, true, false, cond, ◌||◌}
use mathlib.Core.Logic.{◌⊎◌, inl, inr}
use mathlib.Core.List.{List, []}
use lib.ListN.{length, get_or-eq_default}
use lib.Dec.{eqb, ltb}
use borrow.Author.Tests.{ne_eqb, lt-leb, ltb-false}
use Rattle.netlist.specs.Types.{File, Sort, Form, Limits, Counts, Next, Command, Refused}
use Rattle.netlist.specs.Types.file
use Rattle.netlist.specs.Types.sort
use Rattle.netlist.specs.Bytes.{byte}
use Rattle.netlist.specs.Commands.{when_found, is_sort, command_table, own_commands, form_in, form_of, role_of, width, needed, used, stray, take_gate, take_sort, take_command, next_at}
use Rattle.netlist.specs.Reading.{Nets, first_part, part_nets, carries_data, names, asked, nameless, nameless_at, nameless_from, Places, no_places, sorts_of, counts_of, nets_of, noted}
use Rattle.netlist.specs.Reading.{Reading, refused, readable, finish, on_next, read_from, read_file, RefusedAtPart}
use Rattle.netlist.specs.Writing.{width_for}
use Rattle.netlist.proofs.Encoding.{clash, table_all}
use Rattle.netlist.proofs.OneCommand.{There, next_there}

-- ---- the command table

-- a sort of command that is not of a register or a C-element
abbrev Plain : Sort → Type 0
Plain sort.Inputs = Unit {0}
Plain sort.Gate = Unit {0}
Plain sort.Output = Unit {0}
Plain sort.Care = Unit {0}
Plain sort.Register = ⊥
Plain sort.Element = ⊥
Plain sort.End = Unit {0}
Plain sort.Unknown = Unit {0}

stage_plain : (b : ℕ) → Plain (form_of file.Stage b).sort
unfolding command_table own_commands form_in
stage_plain = table_all (λ b form. Plain form.sort) (λ b. tt) (command_table file.Stage) (tt, (tt, (tt, (tt, (tt, tt)))))

form_alike : (b : ℕ) → ¬ (b ≡ 0x04) → ¬ (b ≡ 0x05) → form_of file.Pipeline b ≡ form_of file.Stage b
unfolding command_table own_commands form_in
form_alike b h h' = rw (ne_eqb b 0x04 h, ne_eqb b 0x05 h')

-- ---- the test of 9, where there are no nets of registers

or-false : (b : Bool) → (b || false) ≡ b
or-false true = refl
or-false false = refl

module _ (s : List ℕ) where
  module _ (n g : ℕ) where
    abbrev plain_nets : Nets
    plain_nets = record { inputs = n; gates = g; parts = [] }

    asked-alike : (c : Sort) (k : ℕ) → Plain c → asked file.Pipeline c plain_nets k ≡ asked file.Stage c plain_nets k
    unfolding names role_of carries_data part_nets
    asked-alike sort.Gate k h = fun_ext (λ i. fun_ext (λ v. or-false (ltb v (first_part plain_nets))))
    asked-alike sort.Output k h = fun_ext (λ i. fun_ext (λ v. or-false (ltb v (first_part plain_nets))))
    asked-alike sort.Care k h = refl
    asked-alike sort.Inputs k h = refl
    asked-alike sort.End k h = refl
    asked-alike sort.Unknown k h = refl
    asked-alike sort.Register k h = absurd h
    asked-alike sort.Element k h = absurd h

    abbrev Same : ℕ → ℕ → ℕ → Type 0
    Same fuel at k = nameless_from fuel file.Pipeline plain_nets s at k ≡ nameless_from fuel file.Stage plain_nets s at k

    same_step : (fuel at : ℕ) → ¬ (byte s at ≡ 0x04) → ¬ (byte s at ≡ 0x05) → ((k : ℕ) → Same fuel (at + width (form_of file.Stage (byte s at))) k) → (k : ℕ) → Same (suc fuel) at k
    unfolding nameless_from nameless_at used needed
    same_step fuel at h h' later k =
        let form = form_of file.Stage (byte s at) in
        rw (form_alike (byte s at) h h')
        (ap₂ (λ (test : ℕ → ℕ → Bool) (rest : Option ℕ). when_found (nameless test 0 s (at + form.lead) (used file.Stage s at form)) Some rest)
        (asked-alike form.sort k (stage_plain (byte s at))) (later (cond (is_sort sort.Gate form.sort) (suc k) k)))

    past_end : (fuel at : ℕ) → length s ≤ at → (k : ℕ) → Same fuel at k
    unfolding nameless_from
    past_end zero at h k = refl
    past_end (suc fuel) at h k =
        let none = get_or-eq_default s 0 h in
        same_step fuel at (λ e. omega arith) (λ e. omega arith) (past_end fuel (at + width (form_of file.Stage (byte s at))) (omega arith)) k

  -- what is alike from a position on is alike from the first on
  abbrev Through : ℕ → Type 0
  Through at = (n g : ℕ) → ((fuel k : ℕ) → Same n g fuel at k) → (fuel k : ℕ) → Same n g fuel 0 k

  through_more : (at : ℕ) → ¬ (byte s at ≡ 0x04) → ¬ (byte s at ≡ 0x05) → Through at → Through (at + width (form_of file.Stage (byte s at)))
  unfolding nameless_from
  through_more at h h' t n g later = t n g here
    where
      here : (fuel k : ℕ) → Same n g fuel at k
      here zero k = refl
      here (suc fuel) k = same_step n g fuel at h h' (later fuel) k

  finish-alike : (at : ℕ) (p : Places) → p.parts ≡ [] → Through (at + 1) → finish file.Pipeline s at p ≡ finish file.Stage s at p
  unfolding finish
  finish-alike at p none t = ap (cond (eqb (length p.outputs) 0) (refused 8 at)) (go (ltb (at + 1) (length s)) refl)
    where
      plain : nets_of p ≡ plain_nets p.inputs (length p.gates)
      plain = ap (λ (ps : List (Sort × ℕ)). record { inputs = p.inputs; gates = length p.gates; parts = sorts_of ps }) none

      ends : File → Reading
      ends f = when_found (nameless_from (length s) f (nets_of p) s 0 0) (refused 9) (readable p)

      go : (b : Bool) → ltb (at + 1) (length s) ≡ b → cond b (refused 7 (at + 1)) (ends file.Pipeline) ≡ cond b (refused 7 (at + 1)) (ends file.Stage)
      go true e = refl
      go false e = ap (λ (x : Option ℕ). when_found x (refused 9) (readable p)) (rw plain
          (t p.inputs (length p.gates) (λ fuel k. past_end p.inputs (length p.gates) fuel (at + 1) (ltb-false (at + 1) (length s) e) k) (length s) 0))

  -- ---- command by command

  -- the two readings are one, or the stage's is refused at a register or C-element
  abbrev Alike : Reading → Reading → Type 0
  Alike stage pipeline = (pipeline ≡ stage) ⊎ ((at : ℕ) × (stage ≡ refused 2 at) × ((byte s at ≡ 0x04) ⊎ (byte s at ≡ 0x05)))

  module _ (most : Limits) where
    take-alike : (at : ℕ) (before : Counts) (form : Form) (taken : Next) (c : Sort) → take_sort file.Pipeline most s at before form taken c ≡ take_sort file.Stage most s at before form taken c
    unfolding take_sort take_gate needed
    take-alike at before form taken sort.Inputs = refl
    take-alike at before form taken sort.Gate = refl
    take-alike at before form taken sort.Output = refl
    take-alike at before form taken sort.Care = refl
    take-alike at before form taken sort.Register = refl
    take-alike at before form taken sort.Element = refl
    take-alike at before form taken sort.End = refl
    take-alike at before form taken sort.Unknown = refl

    next-alike : (at : ℕ) (before : Counts) → ¬ (byte s at ≡ 0x04) → ¬ (byte s at ≡ 0x05) → next_at file.Pipeline most s at before ≡ next_at file.Stage most s at before
    unfolding next_at take_command
    next-alike at before h h' =
        let form = form_of file.Stage (byte s at) in
        rw (form_alike (byte s at) h h', take-alike at before form (Command form.sort (record { at = at + width form })) form.sort)

    -- no stage has a command 04 or 05
    next-part : (at : ℕ) (before : Counts) → (byte s at ≡ 0x04) ⊎ (byte s at ≡ 0x05) → next_at file.Stage most s at before ≡ Refused 2 at
    unfolding next_at command_table own_commands form_in stray
    next-part at before b = rw (lt-leb (length s) at (inside (dec_lt at (length s)))) (go b)
      where
        some : (byte s at ≡ 0x04) ⊎ (byte s at ≡ 0x05) → byte s at ≡ 0 → ⊥
        some (inl e) z = omega arith
        some (inr e) z = omega arith

        inside : Dec (at < length s) → at < length s
        inside (yes h) = h
        inside (no h) = absurd (some b (get_or-eq_default s 0 (omega arith)))

        go : (byte s at ≡ 0x04) ⊎ (byte s at ≡ 0x05) → cond (stray at (form_of file.Stage (byte s at)).sort) (Refused 2 at)
            (cond (ltb (length s) (at + width (form_of file.Stage (byte s at)))) (Refused 1 (length s)) (take_command file.Stage most s at before (form_of file.Stage (byte s at)))) ≡ Refused 2 at
        go (inl e) = rw e
        go (inr e) = rw e

    noted-partless : (c : Sort) (at : ℕ) (p : Places) → Plain c → p.parts ≡ [] → (noted c s at p).parts ≡ []
    unfolding noted
    noted-partless sort.Inputs at p h none = none
    noted-partless sort.Gate at p h none = none
    noted-partless sort.Output at p h none = none
    noted-partless sort.Care at p h none = none
    noted-partless sort.End at p h none = none
    noted-partless sort.Unknown at p h none = none
    noted-partless sort.Register at p h none = absurd h
    noted-partless sort.Element at p h none = absurd h

    abbrev From : ℕ → Type 0
    From fuel = (at : ℕ) (p : Places) → p.parts ≡ [] → Through at → Alike (read_from fuel file.Stage most s at p) (read_from fuel file.Pipeline most s at p)

    step_alike : (fuel : ℕ) → From fuel → From (suc fuel)
    unfolding read_from on_next form_in command_table
    step_alike fuel later at p none t = byte-cases (ℕ_discrete (byte s at) 0x04) (ℕ_discrete (byte s at) 0x05)
      where
        Result : Type 0
        Result = Alike (read_from (suc fuel) file.Stage most s at p) (read_from (suc fuel) file.Pipeline most s at p)

        after : (f : File) → Next → Reading
        after f = on_next (read_from fuel f most s) f s at p

        part : (byte s at ≡ 0x04) ⊎ (byte s at ≡ 0x05) → Result
        part b = inr (at, ap (after file.Stage) (next-part at (counts_of p) b), b)

        go : ¬ (byte s at ≡ 0x04) → ¬ (byte s at ≡ 0x05) → (x : Next) → next_at file.Stage most s at (counts_of p) ≡ x → Alike (after file.Stage x) (after file.Pipeline x)
        go h h' (Refused number place) e = inl refl
        go h h' (Command c next) e = at_command (is_sort sort.End c) refl
          where
            there : (next.at ≡ at + width_for file.Stage c) × There file.Stage most s at (counts_of p) c
            there = next_there file.Stage most s at (counts_of p) c next e

            moved : Through (at + width_for file.Stage c)
            moved = subst (λ (form : Form). Through (at + width form)) there.1.command (through_more at h h' t)

            plain : Plain c
            plain = subst Plain (ap (λ (form : Form). form.sort) there.1.command ∙ there.1.own) (stage_plain (byte s at))

            at_command : (b : Bool) → is_sort sort.End c ≡ b → Alike (cond b (finish file.Stage s at p) (read_from fuel file.Stage most s next.at (noted c s at p)))
                (cond b (finish file.Pipeline s at p) (read_from fuel file.Pipeline most s next.at (noted c s at p)))
            at_command true q = inl (finish-alike at p none (ended c q moved))
              where
                ended : (c : Sort) → is_sort sort.End c ≡ true → Through (at + width_for file.Stage c) → Through (at + 1)
                ended sort.End q m = m
                ended sort.Inputs q m = absurd (clash (cc))
                ended sort.Gate q m = absurd (clash (cc))
                ended sort.Output q m = absurd (clash (cc))
                ended sort.Care q m = absurd (clash (cc))
                ended sort.Register q m = absurd (clash (cc))
                ended sort.Element q m = absurd (clash (cc))
                ended sort.Unknown q m = absurd (clash (cc))
            at_command false q = rw there.0 (later (at + width_for file.Stage c) (noted c s at p) (noted-partless c at p plain none) moved)

        byte-cases : Dec (byte s at ≡ 0x04) → Dec (byte s at ≡ 0x05) → Result
        byte-cases (yes e) d = part (inl e)
        byte-cases (no h) (yes e) = part (inr e)
        byte-cases (no h) (no h') = rw (next-alike at (counts_of p) h h') (go h h' (next_at file.Stage most s at (counts_of p)) refl)

    from_alike : (fuel : ℕ) → From fuel
    unfolding read_from
    from_alike zero at p none t = inl refl
    from_alike (suc fuel) at p none t = step_alike fuel (from_alike fuel) at p none t

-- "only the check reads these two commands; every other call answers 2": to all others, and in a file without them, a pipeline is a stage
pub read_alike : (most : Limits) (s : List ℕ) → (read_file file.Pipeline most s ≡ read_file file.Stage most s) ⊎ RefusedAtPart most s
unfolding read_file
read_alike most s = go (from_alike s most (suc (length s)) 0 no_places refl (λ n g later. later))
  where
    go : Alike s (read_file file.Stage most s) (read_file file.Pipeline most s) → (read_file file.Pipeline most s ≡ read_file file.Stage most s) ⊎ RefusedAtPart most s
    go (inl e) = inl e
    go (inr (at, e, b)) = inr (record { at = at; refused_is = e; part = b })

pub stage_as_pipeline : (most : Limits) (s : List ℕ) (p : Places) → read_file file.Stage most s ≡ readable p → read_file file.Pipeline most s ≡ readable p
stage_as_pipeline most s p e = go (read_alike most s)
  where
    go : (read_file file.Pipeline most s ≡ read_file file.Stage most s) ⊎ RefusedAtPart most s → read_file file.Pipeline most s ≡ readable p
    go (inl q) = q ∙ e
    go (inr r) = let z = r.refused_is in absurd (clash (cc))
