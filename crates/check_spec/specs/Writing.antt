-- Writing a file, and what a call that writes leaves in the buffer that its caller lends.
use Rattle.std.specs.Prelude.{ℕ, ◌-◌, cond, take, eqb}
use mathlib.Core.List.{List, [], ◌∷◌, ◌++◌, flat_map}
use Rattle.netlist.specs.declared.File.{File}
use Rattle.netlist.specs.declared.Sort.{Sort}
use Rattle.netlist.specs.declared.Sort.TheVariants as sort
use Rattle.netlist.specs.declared.Form.{Form}
use Rattle.netlist.specs.Commands.{is_sort, as_form, command_table}
use Rattle.netlist.specs.Coded.{Coded}
use Rattle.netlist.specs.Bytes.{write_operands}
use Rattle.verdict.specs.declared.Verdict.{Verdict}
use Rattle.verdict.specs.Written.{Written, refuse, write}
use Rattle.check_spec.specs.Content.{Content}

-- the row of a sort of command
unfoldable pub row_for : List (ℕ × Form) → Sort → ℕ × Form
row_for [] c = (0xFF, as_form sort.Unknown 1 0)
row_for (r ∷ rs) c = let later = row_for rs c in cond (is_sort c r.1.sort) r later

-- a command: its byte, what else stands before the operands, and these
unfoldable pub command : File → Sort → ℕ → List ℕ → List ℕ
command f c code vs = let r = row_for (command_table f) c in r.0 ∷ take (r.1.lead - 1) (code ∷ []) ++ write_operands r.1.operands vs

-- inputs, care list, gates, outputs, end; no call writes registers or C-elements, and the parts of a content are not written
unfoldable pub write_file : File → Content → List ℕ
write_file f c =
    command f sort.Inputs c.inputs []
    ++ (flat_map (λ w. command f sort.Care 0 (w ∷ [])) c.care
    ++ (flat_map (λ (g : Coded). command f sort.Gate g.code g.operands) c.gates
    ++ (flat_map (command f sort.Output 0) c.outputs
    ++ command f sort.End 0 [])))

-- "A call that writes a file or text writes it from the start of its lent buffer. Bytes past each end keep their values, and refusals write nothing."
unfoldable pub leaving : Verdict → List ℕ → List ℕ → Written
leaving v bytes buffer = let wrote = write bytes buffer in cond (eqb v.number 0) wrote (refuse v buffer)
