-- A text of the line form whose inputs and gates are counted, the table of the names that it drives, and the file that is made of it.
use Rattle.std.specs.Prelude.{ℕ, ◌+◌, ◌*◌, ◌≤◌, ◌≡◌, List, length, take, None}
use Rattle.netlist.specs.declared.File.TheVariants as file
use Rattle.netlist.specs.Reading.{stage_limits, read_file}
use Rattle.verdict.specs.Written.{Written}
use Rattle.text_spec.specs.Characters.{newline}
use Rattle.text_spec.specs.Lines.{split, other_form, Text, text_of}
use Rattle.text_spec.specs.FromText.{file_of, unless_refused, if_room}
use Rattle.text_spec.specs.Call.{leaves}
use Rattle.text_table.specs.Table.{Full, Tabled}

-- what a text says
abbrev pub saying : List ℕ → Text
saying s = text_of (split newline s)

-- a text in which 29 finds nothing, with so many inputs and gates
pub record TextCounted (s : List ℕ) (inputs gates : ℕ) : Type 0 where
  pub formed : other_form 0 (split newline s) ≡ None
  pub inputs_are : inputs ≡ length (saying s).inputs
  pub gates_are : gates ≡ length (saying s).gates

-- no more of them than a stage may have
pub record Few (inputs gates : ℕ) : Type 0 where
  pub inputs_in : inputs ≤ stage_limits.inputs
  pub gates_in_holds : gates ≤ stage_limits.gates

-- the length of the table of the most names that a stage drives, the rails of its inputs and its gates
abbrev pub table_length : ℕ
table_length = 5 * (2 * stage_limits.inputs + stage_limits.gates) + 256

-- the length of the workspace: inputs, the most gates, the outputs that are put, end
abbrev pub work_length : ℕ
work_length = 3 + 10 * stage_limits.gates + 5 * 1145

-- the part of a table that is used: all names that a text drives, or nothing where its inputs or gates are more than a stage may have
pub record TableFor (s : List ℕ) (inputs gates used : ℕ) (table : List ℕ) : Type 0 where
  pub inside : used ≤ length table
  pub tabled : Tabled s (take used table)
  pub full : Few inputs gates → Full s (take used table)

-- what is left in a buffer once 29, 30, 31, 3 and 6 found nothing in a text
abbrev pub file_leaves : Text → List ℕ → Written
file_leaves t buffer = leaves (unless_refused (read_file file.Stage stage_limits (file_of t)) (if_room (length buffer) (file_of t))) buffer
