-- The types that the code and the definitions share, by their short names.
use Rattle.std.specs.Prelude.{ℕ, Result}
pub use Rattle.netlist.specs.declared.File.{File}
pub use Rattle.netlist.specs.declared.File.TheVariants as file
pub use Rattle.netlist.specs.declared.Sort.{Sort}
pub use Rattle.netlist.specs.declared.Sort.TheVariants as sort
pub use Rattle.netlist.specs.declared.Role.{Role}
pub use Rattle.netlist.specs.declared.Role.TheVariants.{AnyNet, EarlierSignal, AnySignal, Number, Data, Pin, Request}
pub use Rattle.netlist.specs.declared.Form.{Form}
pub use Rattle.netlist.specs.declared.Limits.{Limits}
pub use Rattle.netlist.specs.declared.Counts.{Counts}
pub use Rattle.netlist.specs.declared.Cursor.{Cursor}
pub use Rattle.netlist.specs.declared.Next.{Next}
pub use Rattle.netlist.specs.declared.Next.TheVariants.{Command, Refused}
pub use Rattle.netlist.specs.declared.Refusal.{Refusal}

-- how the reading of a file ends: with its counts, or refused
abbrev pub Outcome : Type 0
Outcome = Result Counts Refusal

abbrev pub refusal : ℕ → ℕ → Refusal
refusal number at = record { number = number; at = at }
