-- What is written reads back as itself, and bytes that are readable are what writing their content gives.
-- Assumes nothing.
use Prim.Native.Nat.{ℕ, ◌+◌, ◌*◌, ◌≤◌, ◌<◌}
use native.Mathlib.Omega.{arith}
use mathlib.Core.Path.{◌≡◌, refl, sym, ap, ap₂, ◌∙◌}
use mathlib.Core.Logic.{◌↔◌}
use mathlib.Core.Bool.{false}
use mathlib.Core.List.{List, [], ◌∷◌, ◌++◌, append_assoc, map}
use lib.ListN.{length, drop, get_or, length-append, drop_of_length-le}
use Rattle.netlist.specs.Types.{File, Form, Limits}
use Rattle.netlist.specs.Types.sort
use Rattle.netlist.specs.Bytes.{byte, operand, operands, absent}
use Rattle.netlist.specs.Commands.{is_sort, form_of, needed, pins_used}
use Rattle.netlist.specs.Reading.{Nets, asked, Places, read_file, readable}
use Rattle.netlist.specs.Content.{Coded, coded_at}
use Rattle.netlist.specs.Writing.{command_byte, width_for, operand_count, Has, Item, gate, output, care, register, element, gates_in, outputs_in, care_in, sort_of, codes_of, operands_of}
use Rattle.netlist.specs.Writing.{gate_places, output_places, places_of, write_operands, write_item, write_items, write_file, EachFrom, Whole, ItemFits, gates_after}
use Rattle.netlist.specs.Writing.{nets_in, ItemsFit, FileFits}
use Rattle.netlist.proofs.Lists.{Bytes, All-++, byte_small}
use Rattle.netlist.proofs.Operands.{bytes_written, operand_small, misfit_none, needed_there, bare_absent, pins_used_in, pins_are, length_operands, each_operands, byte_after, drop_after, length_after}
use Rattle.netlist.proofs.Operands.{length_written, operands_written, fits_written, drop-one, drop_two, written_operands}
use Rattle.netlist.proofs.Encoding.{each_file, byte_for, has_end, has_inputs, care_form, element_form, item_width, needed_in}
use Rattle.netlist.proofs.Laid.{Shown, ItemLaid, Laid, Named, FileLaid, wired_at, laid_code, laid_operands, laid_used, laid_bare}
use Rattle.netlist.proofs.Laid.{operands_from, operands_shown, laid_gates, laid_outputs, laid_length}
use Rattle.netlist.proofs.Walk.{readable_laid, laid_readable}

abbrev coded : ℕ → List ℕ → Coded
coded c vs = record { code = c; operands = vs }

abbrev operand_bytes : File → Item → List ℕ
operand_bytes f i = write_operands (operand_count f (sort_of i)) (operands_of i)

length-item : (f : File) (i : Item) → Has f (sort_of i) → length (write_item f i) ≡ width_for f (sort_of i)
length-item f i has = omega (arith, item_width f i has, length-append (codes_of i) (operand_bytes f i), length_written (operand_count f (sort_of i)) (operands_of i))

-- the operands of a care command
care_one : (f : File) → Has f sort.Care → operand_count f sort.Care ≡ 1
care_one f e = ap (λ (x : Form). x.operands) (care_form f e)

-- the pins of a C-element
element_four : (f : File) → Has f sort.Element → operand_count f sort.Element ≡ 4
element_four f e = ap (λ (x : Form). x.operands) (element_form f e)

-- an item has no more operands than its command, and where it uses all of them as many
few_operands : (f : File) (i : Item) → Has f (sort_of i) → Whole f i → length (operands_of i) ≤ operand_count f (sort_of i)
few_operands f (gate c) has h = omega (arith, h.2, needed_in f c.code)
few_operands f (output vs) has h = omega (arith, h)
few_operands f (care w) has h = omega (arith, care_one f has)
few_operands f (register vs) has h = omega (arith, h)
few_operands f (element vs) has h = h.1

-- ---- written items are laid

module _ (f : File) (s : List ℕ) where
  byte_at : (at b : ℕ) (tail : List ℕ) → drop at s ≡ b ∷ tail → byte s at ≡ b
  byte_at at b tail e = let z : at + 0 ≡ at = omega arith in rw z at (byte_after s at (b ∷ tail) e 0)

  module _ (N : Nets) (k at : ℕ) (rest : List ℕ) where
    -- what is written after the command byte
    tail_of : Item → List ℕ
    tail_of i = codes_of i ++ (operand_bytes f i ++ rest)

    item_then : (i : Item) → drop at s ≡ write_item f i ++ rest → drop at s ≡ command_byte f (sort_of i) ∷ codes_of i ++ (operand_bytes f i ++ rest)
    item_then i e = e ∙ ap (λ (l : List ℕ). command_byte f (sort_of i) ∷ l) (append_assoc (codes_of i) (operand_bytes f i) rest)

    operands-then : (i : Item) → drop at s ≡ write_item f i ++ rest → drop (operands_from at i) s ≡ operand_bytes f i ++ rest
    operands-then i e = drop_after s at (command_byte f (sort_of i) ∷ codes_of i) (operand_bytes f i ++ rest) (1 + length (codes_of i)) (item_then i e) (omega arith)

    operands-there : (i : Item) → Has f (sort_of i) → Whole f i → drop at s ≡ write_item f i ++ rest → operands s (operands_from at i) (length (operands_of i)) ≡ operands_of i
    operands-there i has whole e = operands_written s rest (operands_from at i) (operand_count f (sort_of i)) (operands_of i) (few_operands f i has whole) (operands-then i e)

    written-shown : (i : Item) → Has f (sort_of i) → Whole f i → drop at s ≡ write_item f i ++ rest → Shown f s at i
    unfolding operands
    written-shown (gate c) has h e =
        let m = operand_count f sort.Gate in
        let code : byte s (at + 1) ≡ c.code = byte_after s at (command_byte f sort.Gate ∷ c.code ∷ (operand_bytes f (gate c) ++ rest)) e 1 in
        record {
          content = ap₂ coded code (rw (code, ← h.2) (operands-there (gate c) has h e));
          known = rw code h.1;
          fits = rw code (fits_written s rest (at + 2) m (needed f c.code) 0 c.operands (omega (arith, h.2)) h.3 (operands-then (gate c) e));
        }
    written-shown (output vs) has h e = ap (operands s (at + 1)) (sym h) ∙ operands-there (output vs) has h e
    written-shown (care w) has h e = ap (λ (l : List ℕ). get_or l 0 0) (operands-there (care w) has h e)
    written-shown (register vs) has h e = ap (operands s (at + 1)) (sym h) ∙ operands-there (register vs) has h e
    written-shown (element vs) has h e =
        let fits = fits_written s rest (at + 1) (operand_count f sort.Element) (length vs) 0 vs (omega arith) h.2 (operands-then (element vs) e) in
        let pins : pins_used s (at + 1) ≡ length vs = pins_are s (at + 1) (length vs) h.0 (omega (arith, h.1, element_four f has)) (rw (element_four f has) at fits) in
        record { content = ap (operands s (at + 1)) pins ∙ operands-there (element vs) has h e; fits = rw pins fits }

    written-item : (i : Item) → ItemFits f N k i → drop at s ≡ write_item f i ++ rest → ItemLaid f s at i
    written-item i h e =
        let size = length_after s at (command_byte f (sort_of i)) (codes_of i ++ (operand_bytes f i ++ rest)) (item_then i e) in
        let codes = length-append (codes_of i) (operand_bytes f i ++ rest) in
        let more = length-append (operand_bytes f i) rest in
        record {
          has = h.has;
          command = ap (form_of f) (byte_at at (command_byte f (sort_of i)) (codes_of i ++ (operand_bytes f i ++ rest)) (item_then i e));
          room = omega (arith, item_width f i h.has, size, codes, more, length_written (operand_count f (sort_of i)) (operands_of i));
          shown = written-shown i h.has h.whole e;
        }

  -- an item stands first, and the others after it
  module _ (at : ℕ) (i : Item) (items : List Item) (e : drop at s ≡ write_items f (i ∷ items) ++ (0 ∷ [])) where
    item-first : drop at s ≡ write_item f i ++ (write_items f items ++ (0 ∷ []))
    item-first = e ∙ append_assoc (write_item f i) (write_items f items) (0 ∷ [])

    items_after : Has f (sort_of i) → drop (at + width_for f (sort_of i)) s ≡ write_items f items ++ (0 ∷ [])
    items_after has = drop_after s at (write_item f i) (write_items f items ++ (0 ∷ [])) (width_for f (sort_of i)) item-first (length-item f i has)

  written-laid : (N : Nets) (k at : ℕ) (items : List Item) → ItemsFit f N k items → drop at s ≡ write_items f items ++ (0 ∷ []) → Laid f s at items × Named f N k items
  written-laid N k at [] h e = (record { command = ap (form_of f) (byte_at at 0 [] e); last = length_after s at 0 [] e }, tt)
  written-laid N k at (i ∷ items) h e =
      let r = written-laid N (gates_after k i) (at + width_for f (sort_of i)) items h.1 (items_after at i items e h.0.has) in
      ((written-item N k at (write_items f items ++ (0 ∷ [])) i h.0 (item-first at i items e), r.0), (h.0.named, r.1))

-- a command byte and what follows it up to the operands are bytes
byte-codes : (f : File) (i : Item) → Whole f i → Bytes (command_byte f (sort_of i) ∷ codes_of i)
byte-codes f (gate c) h = (each_file (λ f. command_byte f sort.Gate < 256) (omega arith) f, (h.0, tt))
byte-codes f (output vs) h = (each_file (λ f. command_byte f sort.Output < 256) (omega arith) f, tt)
byte-codes f (care w) h = (omega arith, tt)
byte-codes f (register vs) h = (omega arith, tt)
byte-codes f (element vs) h = (omega arith, tt)

bytes_items : (f : File) (N : Nets) (k : ℕ) (items : List Item) → ItemsFit f N k items → Bytes (write_items f items)
bytes_items f N k [] h = tt
bytes_items f N k (i ∷ items) h =
    let codes = byte-codes f i h.0.whole in
    let item = All-++ (λ b. b < 256) (codes_of i) (operand_bytes f i) codes.1 (bytes_written (operand_count f (sort_of i)) (operands_of i) h.0.u16s) in
    (codes.0, All-++ (λ b. b < 256) (codes_of i ++ operand_bytes f i) (write_items f items) item (bytes_items f N (gates_after k i) items h.1))

-- ---- items that are laid are what is written

-- an operand past those that an item uses is FFFF
bare-shown : (f : File) (s : List ℕ) (at : ℕ) (i : Item) → Has f (sort_of i) → Shown f s at i → (j : ℕ) → length (operands_of i) ≤ j → j < operand_count f (sort_of i) →
    operand s (operands_from at i + 2 * j) ≡ absent
bare-shown f s at (gate c) has h j a b =
    let k : length c.operands ≡ needed f (byte s (at + 1)) = ap length (sym (laid_operands h)) ∙ length_operands s (at + 2) (needed f (byte s (at + 1))) in
    laid_bare h j (omega arith) b
bare-shown f s at (output vs) has h j a b = absurd (omega (arith, ap length h, length_operands s (at + 1) (operand_count f sort.Output)))
bare-shown f s at (care w) has h j a b = absurd (omega (arith, care_one f has))
bare-shown f s at (register vs) has h j a b = absurd (omega (arith, ap length h, length_operands s (at + 1) (operand_count f sort.Register)))
bare-shown f s at (element vs) has h j a b =
    let k = pins_used s (at + 1) in
    let z : 0 + j ≡ j = omega arith in
    bare_absent k j (operand s (at + 1 + 2 * j)) (rw z at (misfit_none k 0 s (at + 1) (operand_count f sort.Element) h.fits j b))
    (omega (arith, ap length h.content, length_operands s (at + 1) k))

not_unknown : (i : Item) → is_sort sort.Unknown (sort_of i) ≡ false
not_unknown (gate c) = refl
not_unknown (output vs) = refl
not_unknown (care w) = refl
not_unknown (register vs) = refl
not_unknown (element vs) = refl

module _ (f : File) (s : List ℕ) (small : Bytes s) where
  module _ (at : ℕ) where
    -- from the command byte on to the operands
    codes_then : (i : Item) → Shown f s at i → at + (1 + length (codes_of i)) ≤ length s → drop (at + 1) s ≡ codes_of i ++ drop (operands_from at i) s
    codes_then (gate c) h room = let e : at + 1 + 1 ≡ at + 2 = omega arith in rw (e, laid_code h) at (drop-one s (at + 1) (omega arith))
    codes_then (output vs) h room = refl
    codes_then (care w) h room = refl
    codes_then (register vs) h room = refl
    codes_then (element vs) h room = refl

    laid_item : (i : Item) → ItemLaid f s at i → drop at s ≡ write_item f i ++ drop (at + width_for f (sort_of i)) s
    laid_item i h =
        let m = operand_count f (sort_of i) in
        let wide = item_width f i h.has in
        let is : byte s at ≡ command_byte f (sort_of i) = byte_for f (byte s at) (sort_of i) h.command h.has (not_unknown i) in
        let w : operands_from at i + 2 * m ≡ at + width_for f (sort_of i) = omega arith in
        let ops = rw (operands_shown f s at i h.has h.shown, w) at
        (written_operands s small (operands_from at i) m (length (operands_of i)) (omega (arith, h.room)) (bare-shown f s at i h.has h.shown)) in
        drop-one s at (omega (arith, h.room))
        ∙ ap₂ (λ (x : ℕ) (xs : List ℕ). x ∷ xs) is
        (codes_then i h.shown (omega (arith, h.room)) ∙ ap (λ (l : List ℕ). codes_of i ++ l) ops ∙ sym (append_assoc (codes_of i) (operand_bytes f i) (drop (at + width_for f (sort_of i)) s)))

    laid_whole : (i : Item) → Has f (sort_of i) → Shown f s at i → Whole f i
    laid_whole (gate c) has h =
        let p = needed f (byte s (at + 1)) in (
          rw (laid_code h) at (byte_small s small (at + 1)),
          rw (laid_code h) at h.known,
          ap length (sym (laid_operands h)) ∙ length_operands s (at + 2) p ∙ ap (needed f) (laid_code h),
          rw (laid_operands h) at (each_operands (λ v. v < absent) s (at + 2) p (λ i l. let d = laid_used h i l in omega (arith, operand_small s small (at + 2 + 2 * i)))),
        )
    laid_whole (output vs) has h = ap length (sym h) ∙ length_operands s (at + 1) (operand_count f sort.Output)
    laid_whole (care w) has h = tt
    laid_whole (register vs) has h = ap length (sym h) ∙ length_operands s (at + 1) (operand_count f sort.Register)
    laid_whole (element vs) has h =
        let k = pins_used s (at + 1) in
        let long : length vs ≡ k = ap length (sym h.content) ∙ length_operands s (at + 1) k in
        let few = pins_used_in s (at + 1) in (
          omega (arith, few.0),
          omega (arith, few.1, element_four f has),
          rw h.content at (each_operands (λ v. v < absent) s (at + 1) k (λ j l.
              let z : 0 + j ≡ j = omega arith in
              let d = needed_there k j (operand s (at + 1 + 2 * j)) (rw z at (misfit_none k 0 s (at + 1) (operand_count f sort.Element) h.fits j (omega (arith, few.1, element_four f has)))) l in
              omega (arith, operand_small s small (at + 1 + 2 * j)))),
        )

    item_fits : (N : Nets) (k : ℕ) (i : Item) → ItemLaid f s at i → EachFrom (asked f (sort_of i) N k) 0 (operands_of i) → ItemFits f N k i
    item_fits N k i h named = record {
      has = h.has;
      whole = laid_whole i h.has h.shown;
      u16s = rw (operands_shown f s at i h.has h.shown) at
          (each_operands (λ v. v < 65536) s (operands_from at i) (length (operands_of i)) (λ j l. operand_small s small (operands_from at i + 2 * j)));
      named = named;
    }

  laid_fits : (N : Nets) (k at : ℕ) (items : List Item) → Laid f s at items → Named f N k items → ItemsFit f N k items
  laid_fits N k at [] h m = tt
  laid_fits N k at (i ∷ items) h m = (item_fits at N k i h.0 m.0, laid_fits N (gates_after k i) (at + width_for f (sort_of i)) items h.1 m.1)

  laid_written : (at : ℕ) (items : List Item) → Laid f s at items → drop at s ≡ write_items f items ++ (0 ∷ [])
  laid_written at [] h =
      let is : byte s at ≡ 0 = byte_for f (byte s at) sort.End h.command (has_end f) refl in
      drop-one s at (omega (arith, h.last)) ∙ ap₂ (λ (x : ℕ) (xs : List ℕ). x ∷ xs) is (drop_of_length-le s {i = at + 1} (omega (arith, h.last)))
  laid_written at (i ∷ items) h =
      laid_item at i h.0 ∙ ap (λ (l : List ℕ). write_item f i ++ l) (laid_written (at + width_for f (sort_of i)) items h.1)
      ∙ sym (append_assoc (write_item f i) (write_items f items) (0 ∷ []))

-- ---- the whole file

module _ (f : File) (most : Limits) where
  written-file : (n : ℕ) (items : List Item) → FileFits f most n items → FileLaid f most (write_file f n items) n items
  unfolding write_file
  written-file n items h =
      let r = written-laid f (write_file f n items) (nets_in n items) 0 2 items h.items_fit refl in
      record {
        command = refl;
        count = refl;
        inputs_in = h.inputs_in;
        gates_in_holds = h.gates_in_holds;
        outputs_in_holds = h.outputs_in_holds;
        care_in_holds = h.care_in_holds;
        registers_in = h.registers_in;
        elements_in = h.elements_in;
        laid = r.0;
        named = r.1;
      }

  laid_file : (s : List ℕ) → Bytes s → (n : ℕ) (items : List Item) → FileLaid f most s n items → (s ≡ write_file f n items) × FileFits f most n items
  unfolding write_file
  laid_file s small n items h =
      let is : byte s 0 ≡ 1 = byte_for f (byte s 0) sort.Inputs h.command (has_inputs f) refl in
      let size = laid_length f s 2 items h.laid in (
        drop_two s 0 (omega arith) ∙ rw (is, h.count) (ap (λ (l : List ℕ). 1 ∷ n ∷ l) (laid_written f s small 2 items h.laid)),
        record {
          inputs_in = h.inputs_in;
          inputs_byte = rw h.count at (byte_small s small 1);
          gates_in_holds = h.gates_in_holds;
          outputs_in_holds = h.outputs_in_holds;
          care_in_holds = h.care_in_holds;
          registers_in = h.registers_in;
          elements_in = h.elements_in;
          items_fit = laid_fits f s small (nets_in n items) 0 2 items h.laid h.named;
        },
      )

  -- ---- what is written reads back

  module _ (n : ℕ) (items : List Item) (fits : FileFits f most n items) where
    pub read-write : read_file f most (write_file f n items) ≡ readable (places_of f n items)
    read-write = laid_readable f most (write_file f n items) n items (written-file n items fits)

    -- through the places of its commands the written file shows the content
    pub gates_write : map (coded_at f (write_file f n items)) (gate_places f 2 items) ≡ gates_in items
    gates_write = laid_gates f (write_file f n items) 2 items (written-file n items fits).laid

    pub outputs_write : map (wired_at f (write_file f n items)) (output_places f 2 items) ≡ outputs_in items
    outputs_write = laid_outputs f (write_file f n items) 2 items (written-file n items fits).laid

    -- and its elements are bytes
    pub bytes_write : Bytes (write_file f n items)
    unfolding write_file
    bytes_write = (omega arith, (fits.inputs_byte, All-++ (λ b. b < 256) (write_items f items) (0 ∷ []) (bytes_items f (nets_in n items) 0 items fits.items_fit) (omega arith, tt)))

  -- ---- what is readable was written

  -- the items that a readable file holds, in the order of their commands
  pub record Holds (s : List ℕ) (p : Places) : Type 0 where
    pub items : List Item
    pub item_places_holds : p ≡ places_of f p.inputs items
    pub gates : map (coded_at f s) p.gates ≡ gates_in items
    pub outputs : map (wired_at f s) p.outputs ≡ outputs_in items
    pub cares : p.care ≡ care_in items
    pub fits : Bytes s → FileFits f most p.inputs items
    pub bytes : Bytes s → s ≡ write_file f p.inputs items

  pub write_read : (s : List ℕ) (p : Places) → read_file f most s ≡ readable p → Holds s p
  write_read s p e =
      let r = readable_laid f most s p e in
      let i = r.items in
      record {
        items = i;
        item_places_holds = r.item_places_holds;
        gates = ap (λ (x : Places). map (coded_at f s) x.gates) r.item_places_holds ∙ laid_gates f s 2 i r.file_laid.laid;
        outputs = ap (λ (x : Places). map (wired_at f s) x.outputs) r.item_places_holds ∙ laid_outputs f s 2 i r.file_laid.laid;
        cares = ap (λ (x : Places). x.care) r.item_places_holds;
        fits = λ small. (laid_file s small p.inputs i r.file_laid).1;
        bytes = λ small. (laid_file s small p.inputs i r.file_laid).0;
      }

  -- A file is refused in reading exactly where no content was written.
  abbrev pub Readable : List ℕ → Type 0
  Readable s = (p : Places) × (read_file f most s ≡ readable p)

  abbrev pub IsWritten : List ℕ → Type 0
  IsWritten s = (n : ℕ) × (items : List Item) × FileFits f most n items × (s ≡ write_file f n items)

  pub readable_iff_written : (s : List ℕ) → Bytes s → Readable s ↔ IsWritten s
  readable_iff_written s small = (
    (λ r. let h = write_read s r.0 r.1 in (r.0.inputs, h.items, h.fits small, h.bytes small)),
    (λ w. (places_of f w.0 w.1, rw w.3 (read-write w.0 w.1 w.2))),
  )
