-- The inputs and gates of a text of the line form, counted by its commas and newlines, and the names that it drives.
-- Assumes nothing.
use Rattle.std.specs.Prelude.{None}
use Prim.Native.Nat.{ℕ, suc, ◌+◌, ◌*◌, ◌-◌, ◌≤◌}
use native.Mathlib.Omega.{arith}
use mathlib.Core.Path.{◌≡◌, refl, ap, ◌∙◌}
use mathlib.Core.Bool.{Bool, true, false, cond}
use mathlib.Core.List.{List, [], ◌∷◌, ◌++◌, map}
use lib.ListN.{length, take, drop, length-append, length-map}
use lib.Seq.{length-take-le, take_at}
use lib.Dec.{eqb}
use Rattle.text_spec.specs.Characters.{newline, comma}
use Rattle.text_spec.specs.Lines.{split, other_form, GateLine, gate_lines, Text, text_of}
use Rattle.text_spec.specs.FromText.{rails}
use Rattle.text_scan.specs.Pieces.{before}
use Rattle.text_scan.proofs.Pieces.{split_more}
use Rattle.text_lines.specs.Names.{separators}
use Rattle.text_lines.proofs.LineForms.{split_length}
use Rattle.text_names.specs.Tailed.{drivers_of}
use Rattle.text_names.proofs.Ends.{first_ends, second_ends, more_lines, text_parts}
use Rattle.text_table.specs.Table.{Full}
use Rattle.call_text_read.specs.Counted.{saying, TextCounted, Few, TableFor}

separators-few : (c : ℕ) (s : List ℕ) → separators c s ≤ length s
unfolding separators
separators-few c [] = omega arith
separators-few c (b ∷ s) = go (eqb b c) (separators-few c s)
  where
    go : (t : Bool) → separators c s ≤ length s → cond t (suc (separators c s)) (separators c s) ≤ suc (length s)
    go true h = omega arith
    go false h = omega arith

-- all pieces but the last are gate lines
lines-count : (l : List ℕ) (ls : List (List ℕ)) → length (gate_lines (l ∷ ls)) ≡ length ls
lines-count l [] = refl
lines-count l (m ∷ ls) = ap suc (lines-count m ls)

rails-count : (ns : List (List ℕ)) → length (rails ns) ≡ 2 * length ns
rails-count [] = refl
rails-count (n ∷ ns) = omega (arith, rails-count ns)

module _ (s : List ℕ) (fine : other_form 0 (split newline s) ≡ None) where
  -- line 0, line 1, and the rest
  lines : split newline s ≡ take (before newline s) s ∷ take (before newline (drop (before newline s + 1) s)) (drop (before newline s + 1) s)
      ∷ split newline (drop (suc (before newline (drop (before newline s + 1) s))) (drop (before newline s + 1) s))
  lines =
      more_lines s fine ∙ ap (λ (ls : List (List ℕ)). take (before newline s) s ∷ ls) (split_more newline (drop (before newline s + 1) s) (second_ends s fine))

  gate_count : length (saying s).gates + 2 ≡ separators newline s
  unfolding text_of
  gate_count = go _ (ap (λ (ls : List (List ℕ)). length (text_of ls).gates) lines) (ap length lines)
    where
      go : (rest : List ℕ) → length (saying s).gates ≡ length (gate_lines (split newline rest)) →
          length (split newline s) ≡ suc (suc (length (split newline rest))) →
          length (saying s).gates + 2 ≡ separators newline s
      go rest g l =
          omega (arith, split_length newline s, split_length newline rest, counted (split newline rest) (separators newline rest) (split_length newline rest))
        where
          counted : (ls : List (List ℕ)) (k : ℕ) → length ls ≡ suc k → length (gate_lines ls) ≡ k
          counted [] k e = absurd (omega arith)
          counted (l ∷ ls) k e = omega (arith, lines-count l ls)

  -- n is the length of line 0
  module _ (n : ℕ) (e : n ≡ before newline s) where
    input_count : length (saying s).inputs ≡ separators comma (take n s) + 1
    input_count =
        omega (
          arith,
          ap (λ (t : Text). length t.inputs) (text_parts s fine n (before newline (take (length s - (n + 1)) (drop (n + 1) s))) e refl),
          split_length comma (take n s),
        )

    pub inputs_fit : separators comma (take n s) + 1 ≤ length s
    inputs_fit = omega (arith, separators-few comma (take n s), first_ends s fine, length-take-le n s (omega (arith, first_ends s fine)))

    pub counted : {inputs gates : ℕ} → inputs ≡ separators comma (take n s) + 1 → gates ≡ separators newline s - 2 → TextCounted s inputs gates
    counted i g = record { formed = fine; inputs_are = omega (arith, input_count); gates_are = omega (arith, gate_count) }

  pub two_newlines : 2 ≤ separators newline s
  two_newlines = omega (arith, gate_count)

module _ {s : List ℕ} {inputs gates : ℕ} (h : TextCounted s inputs gates) where
  pub counted_few : inputs ≤ length s
  counted_few = omega (arith, h.inputs_are, input_count s h.formed (before newline s) refl, inputs_fit s h.formed (before newline s) refl)

  pub counted_rails : 2 * inputs ≡ length (rails (saying s).inputs)
  counted_rails = omega (arith, h.inputs_are, rails-count (saying s).inputs)

  pub counted_drivers : length (drivers_of s) ≡ 2 * inputs + gates
  counted_drivers =
      omega (
        arith,
        h.inputs_are,
        h.gates_are,
        rails-count (saying s).inputs,
        length-append (rails (saying s).inputs) (map (λ g. g.net) (saying s).gates),
        length-map (saying s).gates (λ (g : GateLine). g.net),
      )

  -- ---- the table of the names driven

  pub table_none : {table : List ℕ} → (Few inputs gates → ⊥) → TableFor s inputs gates 0 table
  table_none many = record { inside = omega arith; tabled = λ l. absurd (omega arith); full = λ few. absurd (many few) }

  pub table_filled : (t rest : List ℕ) → Full s t → TableFor s inputs gates (5 * (2 * inputs + gates) + 256) (t ++ rest)
  table_filled t rest f =
      let long : length t ≡ 5 * (2 * inputs + gates) + 256 = omega (arith, f.long, counted_drivers) in
      let own : take (5 * (2 * inputs + gates) + 256) (t ++ rest) ≡ t = take_at t rest (5 * (2 * inputs + gates) + 256) long in
      record { inside = omega (arith, length-append t rest); tabled = λ l. rw own f; full = λ few. rw own f }
