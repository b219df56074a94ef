-- Reading a whole file, as the code does it: the walk from one command to the next, with the places in one lent list, and the tests
-- at the end command.
-- Assumes nothing.
use Rattle.std.specs.Prelude.{Option, Some, None}
use Prim.Native.Nat.{ℕ, zero, suc, ◌+◌, ◌-◌, ◌^◌, ◌≤◌, ◌<◌}
use native.Mathlib.Omega.{arith}
use native.Mathlib.Nat.{mul-le-mul_right}
use lib.Pow.{pow_mono}
use mathlib.Core.Path.{◌≡◌, refl, sym, ap, ap₂, subst, ◌∙◌}
use mathlib.Core.Bool.{Bool, true, false, cond}
use mathlib.Core.List.{List, map}
use lib.ListN.{length}
use lib.Dec.{eqb, ltb}
use borrow.Author.Tests.{lt-ltb, le-ltb, eq-eqb, ne_eqb}
use Rattle.netlist.specs.declared.File.{File}
use Rattle.netlist.specs.declared.File.TheVariants as file
use Rattle.netlist.specs.declared.Sort.{Sort}
use Rattle.netlist.specs.declared.Sort.TheVariants as sort
use Rattle.netlist.specs.declared.Form.{Form}
use Rattle.netlist.specs.declared.Limits.{Limits}
use Rattle.netlist.specs.declared.Cursor.{Cursor}
use Rattle.netlist.specs.declared.Counts.{Counts}
use Rattle.netlist.specs.declared.Next.{Next}
use Rattle.netlist.specs.declared.Next.TheVariants.{Command, Refused}
use Rattle.netlist.specs.Bytes.{byte}
use Rattle.netlist.specs.Commands.{when_found, is_sort, form_of, width, next_at}
use Rattle.netlist.specs.Reading.{nameless_from, Places, floor_after, count_of, sorts_of, counts_of, nets_of, Reading, refused, readable, finish, on_next, read_from, read_file}
use Rattle.netlist.specs.Writing.{Has, command_byte, width_for}
use Rattle.read_file.specs.Files.{part_noted, nets_with, Follow, FilledTo, Countable, Settled, Stands, Topped, most_care, first_part, RoomFor, standing, Placed, RoomOf, WordAt, Notable, NotedIn}
use Rattle.netlist.proofs.Encoding.{reference_careless, care_form, width_in, width_inputs, width_end}
use Rattle.netlist.proofs.OneCommand.{There, there_next, next_there}
use Rattle.read_file.proofs.Noting.{counts}
use Rattle.read_file.proofs.Search.{gates_after}
use Rattle.read_file.proofs.Passing.{gates_noted, inputs_noted, Passing, there_stands, word_there, care_topped, passes, settled}
use Rattle.netlist.proofs.Walk.{most_parts_holds, care_taken, Near, near_start, near_far, near_noted}

-- where a file has care words, there may be as many as words of its inputs
words-most : (f : File) (most : Limits) → Has f sort.Care → most_care f most ≡ 2 ^ most.inputs
unfolding most_care
words-most file.Stage most e = refl
words-most file.Pipeline most e = refl
words-most file.Reference most e = absurd (reference_careless e)

-- ---- at the end command

-- the counts are those of some places, and the notes those of their registers and C-elements
module _ (f : File) (s : List ℕ) (at : ℕ) (p : Places) (c : Counts) (e : counts_of p ≡ c) (notes : List ℕ) (kept : p.parts ≡ map part_noted notes) where
  outputs-same : length p.outputs ≡ c.outputs
  outputs-same = ap (λ (x : Counts). x.outputs) e

  pub finish_8 : c.outputs ≡ 0 → finish f s at p ≡ refused 8 at
  unfolding finish
  finish_8 z = rw (eq-eqb (length p.outputs) 0 (outputs-same ∙ z))

  module _ (some : c.outputs ≡ 0 → ⊥) where
    tested : eqb (length p.outputs) 0 ≡ false
    tested = ne_eqb (length p.outputs) 0 (λ z. some (sym outputs-same ∙ z))

    pub finish_7 : at + 1 < length s → finish f s at p ≡ refused 7 (at + 1)
    unfolding finish
    finish_7 h = rw (tested, lt-ltb (at + 1) (length s) h)

    module _ (last : length s ≤ at + 1) (found : Option ℕ) (is : found ≡ nameless_from (length s) f (nets_with c.inputs c.gates notes) s 0 0) where
      searched : nameless_from (length s) f (nets_of p) s 0 0 ≡ found
      searched =
          ap₂ (λ (x : Counts) (ps : List (Sort × ℕ)). nameless_from (length s) f (record { inputs = x.inputs; gates = x.gates; parts = sorts_of ps }) s 0 0) e kept
          ∙ sym is

      pub finish_9 : (place : ℕ) → found ≡ Some place → finish f s at p ≡ refused 9 place
      unfolding finish when_found
      finish_9 place q = rw (tested, le-ltb (at + 1) (length s) last, searched, q)

      pub finish_readable : found ≡ None → finish f s at p ≡ readable p
      unfolding finish when_found
      finish_readable q = rw (tested, le-ltb (at + 1) (length s) last, searched, q)

module _ (most : Limits) (places : List ℕ) where
  pub refused_placed : (r : Reading) (number at : ℕ) → r ≡ refused number at → Placed most r places
  unfolding Placed
  refused_placed r number at e = subst (λ (x : Reading). Placed most x places) (sym e) tt

  finish-placed : (f : File) (s : List ℕ) (at : ℕ) (p : Places) → Placed most (readable p) places → Placed most (finish f s at p) places
  unfolding finish when_found Placed
  finish-placed f s at p h = go (eqb (length p.outputs) 0) (ltb (at + 1) (length s)) (nameless_from (length s) f (nets_of p) s 0 0)
    where
      go : (x y : Bool) (found : Option ℕ) → Placed most (cond x (refused 8 at) (cond y (refused 7 (at + 1)) (when_found found (refused 9) (readable p)))) places
      go true y found = tt
      go false true found = tt
      go false false (Some place) = tt
      go false false None = h

-- ---- whole commands fill the file

module _ (f : File) (s : List ℕ) where
  follow_next : (k from to : ℕ) → Follow f s from k to → to + width (form_of f (byte s to)) ≤ length s → Follow f s from (suc k) (to + width (form_of f (byte s to)))
  unfolding Follow
  follow_next zero from to h l = rw h (l, refl)
  follow_next (suc k) from to h l = (h.0, follow_next k (from + width (form_of f (byte s from))) to h.1 l)

  filled_next : {at : ℕ} → FilledTo f s at → at + width (form_of f (byte s at)) ≤ length s → FilledTo f s (at + width (form_of f (byte s at)))
  filled_next {at} h l = record { count = suc h.count; commands = follow_next h.count 0 at h.commands l }

  filled_none : FilledTo f s 0
  unfolding Follow
  filled_none = record { count = 0; commands = refl }

-- ---- the walk over the commands

-- The reading goes on from a position with what stands in the lent list. The position is near enough to 0 for a u16, whole commands fill
-- the file up to it, and the fuel lasts to the end of the file.
pub record Walking (f : File) (most : Limits) (s : List ℕ) (long : ℕ) (places : List ℕ) (at : ℕ) (c : Counts) : Type 0 where
  pub within : at ≤ length s
  pub near : Near f most at c
  pub long_same : length places ≡ long
  pub counted : counts_of (standing most places c) ≡ c
  pub filled : FilledTo f s at
  pub fuel : ℕ
  pub enough : length s < at + fuel
  pub same : read_file f most s ≡ read_from fuel f most s at (standing most places c)

pub walk_starts : (f : File) (most : Limits) (s places : List ℕ) → Walking f most s (length places) places 0 (counts 0 0 0 0 0 0 0)
unfolding read_file floor_after count_of
walk_starts f most s places = record {
  within = omega arith;
  near = near_start f most;
  long_same = refl;
  counted = refl;
  filled = filled_none f s;
  fuel = suc (length s);
  enough = omega arith;
  same = refl;
}

-- a list as long as another
pub walk_long : {f : File} {most : Limits} {s : List ℕ} {long long' : ℕ} {places : List ℕ} {at : ℕ} {c : Counts} → long ≡ long' → Walking f most s long places at c → Walking f most s long' places at c
walk_long e w = rw e at w

pub room_long : {f : File} {most : Limits} {long long' : ℕ} → long ≡ long' → RoomFor f most long → RoomFor f most long'
room_long e h = rw e at h

-- the code's match tells the sort of a command that was read
pub read_as : {x : Next} {c c' : Sort} {next : Cursor} → x ≡ Command c next → c ≡ c' → x ≡ Command c' next
read_as {next} e told = e ∙ ap (λ (y : Sort). Command y next) told

-- the code's test for the end command
pub goes_on : (k : Sort) → (k ≡ sort.End → ⊥) → is_sort sort.End k ≡ false
goes_on sort.End e = absurd (e refl)
goes_on sort.Inputs e = refl
goes_on sort.Gate e = refl
goes_on sort.Output e = refl
goes_on sort.Care e = refl
goes_on sort.Unknown e = refl
goes_on sort.Register e = refl
goes_on sort.Element e = refl

module _ {f : File} {most : Limits} {s : List ℕ} {long : ℕ} {places : List ℕ} {at : ℕ} {c : Counts} (room : RoomFor f most long) (w : Walking f most s long places at c) where
  pub standing_counts : counts_of (standing most places c) ≡ c
  standing_counts = w.counted

  -- the notes stand in the lent list
  pub notes_room : first_part most + (c.registers + c.elements) ≤ length places
  notes_room = omega (arith, w.near.registers_in, w.near.elements_in, most_parts_holds f, room.space, w.long_same)

  -- the sums that the search for 9 takes fit
  pub sums_fit : Countable c.inputs c.gates
  sums_fit = omega (arith, w.near.inputs_in, room.few_inputs, w.near.gates_in_holds, room.u16s, mul-le-mul_right (most.gates + 1) (width_in f (command_byte f sort.Gate)).0)

  -- x is what stands at the position
  module _ {x : Next} (is : x ≡ next_at f most s at c) where
    walk_step : read_file f most s ≡ on_next (read_from (w.fuel - 1) f most s) f s at (standing most places c) x
    unfolding read_from
    walk_step =
        let p : w.fuel ≡ suc (w.fuel - 1) = omega (arith, w.enough, w.within) in
        w.same ∙ ap (λ (k : ℕ). read_from k f most s at (standing most places c)) p
        ∙ ap (on_next (read_from (w.fuel - 1) f most s) f s at (standing most places c)) (ap (next_at f most s at) w.counted ∙ sym is)

    pub walk_stops : (number place : ℕ) → x ≡ Refused number place → read_file f most s ≡ refused number place
    unfolding on_next
    walk_stops number place e = walk_step ∙ rw e

    -- a command of the sort k was read
    module _ {k : Sort} {next : Cursor} (read : x ≡ Command k next) where
      after : next.at ≡ at + width_for f k
      after = (next_there f most s at c k next (sym is ∙ read)).0

      there : There f most s at c k
      there = (next_there f most s at c k next (sym is ∙ read)).1

      form_wide : width (form_of f (byte s at)) ≡ width_for f k
      form_wide = ap width there.command

      pub walk_further : (at < next.at) × (next.at ≤ length s)
      walk_further = omega (arith, after, there.room, form_wide, width_in f (byte s at))

      filled_after : FilledTo f s next.at
      filled_after =
          let e : at + width (form_of f (byte s at)) ≡ next.at = omega (arith, after, form_wide) in
          rw e at (filled_next f s w.filled (omega (arith, walk_further)))

      -- it can be noted
      pub walk_room : Notable k most s at c (length places)
      unfolding RoomOf
      walk_room =
          let n = w.near in
          record {
            u16 = omega (arith, near_far f most n, room.u16s, width_in f (command_byte f sort.Gate));
            space = omega (arith, room.space, w.long_same);
            gates_in_holds = n.gates_in_holds;
            outputs_in_holds = n.outputs_in_holds;
            parts_in = omega (arith, n.registers_in, n.elements_in, most_parts_holds f);
            more = go k there;
          }
        where
          go : (k : Sort) → There f most s at c k → RoomOf k most s at c (length places)
          go sort.Inputs t = omega (arith, t.room, width_inputs f)
          go sort.Gate t = t.taken.0
          go sort.Output t = t.taken
          go sort.Register t = omega (arith, t.taken, w.near.elements_in, most_parts_holds f)
          go sort.Element t = omega (arith, t.taken.0, w.near.registers_in, most_parts_holds f)
          go sort.End t = tt
          go sort.Unknown t = tt
          -- a care word follows those before it, and there are no more than words of the inputs
          go sort.Care t =
              let taken = care_taken f most s at c t in
              let most-words = words-most f most t.own in
              omega (
                arith,
                t.room,
                ap width (care_form f t.own),
                taken,
                w.near.care_in_holds,
                most-words,
                pow_mono {i = c.inputs} {j = most.inputs} w.near.inputs_in,
                room.space,
                w.long_same,
              )

      -- the reading goes on with what was noted
      pub walk_on : is_sort sort.End k ≡ false → {places' : List ℕ} {c' : Counts} → NotedIn k most s at places c places' c' → Walking f most s long places' next.at c'
      unfolding on_next
      walk_on more {places'} {c'} noted_in =
          let stood = standing most places c in
          let made = noted_in.counted w.counted in
          let near = subst (λ (x : Counts). Near f most at x × There f most s at x k) (sym w.counted) (w.near, there) in
          let nearer = subst (Near f most (at + width_for f k)) made (near_noted f most s at stood k more near.0 near.1) in
          record {
            within = walk_further.1;
            near = rw after nearer;
            long_same = noted_in.long ∙ w.long_same;
            counted = ap counts_of noted_in.same ∙ made;
            filled = filled_after;
            fuel = w.fuel - 1;
            enough = omega (arith, walk_further, w.enough);
            same = walk_step ∙ rw (read, more) (ap (read_from (w.fuel - 1) f most s next.at) (sym noted_in.same));
          }

      -- and the search for 9 goes on with it
      pub walk_stands : Stands f s at k
      walk_stands = there_stands there

      pub walk_inputs : is_sort sort.Inputs k ≡ false → {places' : List ℕ} {c' : Counts} → NotedIn k most s at places c places' c' → c'.inputs ≡ c.inputs
      walk_inputs other noted_in =
          ap (λ (x : Counts). x.inputs) (sym (noted_in.counted w.counted)) ∙ inputs_noted k s at (standing most places c) other ∙ ap (λ (x : Counts). x.inputs) w.counted

      pub walk_passes : {top top' : ℕ} → Passing f s at c top → Topped f s at c top top' → {places' : List ℕ} {c' : Counts} → NotedIn k most s at places c places' c' → Passing f s next.at c' top'
      walk_passes p more noted_in =
          rw after (passes p k there more
          (ap (λ (x : Counts). x.gates) (sym (noted_in.counted w.counted)) ∙ gates_noted k s at (standing most places c) ∙ ap (λ (x : Counts). gates_after x.gates k) w.counted)
          (λ other. walk_inputs other noted_in))

    module _ {next : Cursor} where
      pub walk_has : {k : Sort} → x ≡ Command k next → Has f k
      walk_has read = (there read).own

      module _ (read : x ≡ Command sort.End next) where
        pub walk_settled : {top : ℕ} → Passing f s at c top → length s ≤ at + 1 → Settled f s c.inputs top
        walk_settled p last = settled p (there read) last

        pub walk_ends : read_file f most s ≡ finish f s at (standing most places c)
        unfolding on_next
        walk_ends = walk_step ∙ rw read

        pub walk_filled : FilledTo f s (at + 1)
        walk_filled = let e : next.at ≡ at + 1 = omega (arith, after read, width_end f) in rw e at (filled_after read)

        pub walk_placed : Placed most (read_file f most s) places
        unfolding Placed
        walk_placed = rw walk_ends (finish-placed most places f s at (standing most places c) (ap (standing most places) w.counted))

  -- a care word that follows others is read as one
  module _ (own : Has f sort.Care) (later : 1 ≤ at) {below : ℕ} (few : below ≤ 2 ^ c.inputs) (h : WordAt s at c.floor below) where
    word_read : Command sort.Care (record { at = at + 3 }) ≡ next_at f most s at c
    word_read =
        let z : at + width_for f sort.Care ≡ at + 3 = ap (λ (form : Form). at + width form) (care_form f own) in
        sym (there_next f most s at c sort.Care (word_there own later few h) ∙ ap (λ (x : ℕ). Command sort.Care (record { at = x })) z)

    pub word_room : Notable sort.Care most s at c (length places)
    word_room = walk_room word_read refl

    pub word_on : {places' : List ℕ} {c' : Counts} → NotedIn sort.Care most s at places c places' c' → Walking f most s long places' (at + 3) c'
    word_on noted_in = walk_on word_read refl refl noted_in

    pub word_inputs : {places' : List ℕ} {c' : Counts} → NotedIn sort.Care most s at places c places' c' → c'.inputs ≡ c.inputs
    word_inputs noted_in = walk_inputs word_read refl refl noted_in

    pub word_passes : {top : ℕ} → Passing f s at c top → {places' : List ℕ} {c' : Counts} → NotedIn sort.Care most s at places c places' c' → Passing f s (at + 3) c' top
    word_passes {top} p noted_in = walk_passes word_read refl p (care_topped (word_there {most = most} {c = c} own later few h) top) noted_in
