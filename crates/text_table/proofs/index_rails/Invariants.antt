-- `text_table::index_rails` meets its contract. The loop's invariant: the rails of the names so far are entries, and `at` is where the next begins.
-- Assumes nothing.
use Prim.Native.Nat.{◌*◌, ◌<◌}
use mathlib.Core.Path.{◌≡◌}
use lib.ListN.{length, drop}
use Rattle.text_spec.specs.Characters.{comma}
use Rattle.text_spec.specs.Lines.{split}
use Rattle.text_names.specs.Tailed.{rails_in}
use Rattle.text_table.specs.Table.{Entries}
use Rattle.text_table.proofs.Tables.{RailsTo}
use Rattle.text_table.proofs.index_rails.Given as goal

abbrev pub invariant-loop-i : goal.invariant-loop-i
invariant-loop-i l =
    record {
      can : (goal.iterator-loop-i).can_next l.i-iterator;
      finite : (goal.iterator-loop-i).is_finite l.i-iterator;
      more : length l.yielded < length (split comma l.line) →
          RailsTo l.line l.initial.table l.table l.at (2 * length l.yielded) × (drop (length l.yielded) (split comma l.line) ≡ split comma (drop l.at l.line));
      all : length l.yielded ≡ length (split comma l.line) → Entries l.line l.table 0 (rails_in l.line) × (length l.table ≡ length l.initial.table);
    }
