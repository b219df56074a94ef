-- `check_files::wire_registers` meets its contract. Assumes nothing.
use native.Mathlib.Omega.{arith}
use mathlib.Core.Path.{sym, ◌∙◌}
use Rattle.verdict.proofs.HandedOn.{handed_on}
use Rattle.check_files.proofs.Findings.{not_passed}
use Rattle.check_files.proofs.Wiring.{bare_fits, cut_stage, loop-found, loop_none, gates_ordered, wiring_found, loaded_still, connect_fits, wires_loaded, wires_found, wires_ordered}
use Rattle.check_files.proofs.wire_registers.Goals as goal

pub wire_stage-requires : goal.wire_stage-requires
wire_stage-requires c = bare_fits c.requires c.bare_counts-bare.ensures (omega arith)

pub find_loop-requires : goal.find_loop-requires
find_loop-requires c =
    cut_stage c.requires c.bare_counts-bare.ensures c.wire_stage.ensures (omega arith)

pub returns-in_err-find_loop : goal.returns-in_err-find_loop
returns-in_err-find_loop c =
    let is = handed_on _ _ c.from_residual.ensures.1 in
    record { found = λ h. is ∙ loop-found h c.bare_counts-bare.ensures c.wire_stage.ensures (sym c.in_err-find_loop.was ∙ c.find_loop.ensures.found); passed = λ h e. not_passed (sym is ∙ e) }

pub check_registers-requires : goal.check_registers-requires
check_registers-requires c =
    ((gates_ordered c.requires c.bare_counts-bare.ensures c.wire_stage.ensures (c.find_loop.ensures.passed c.in_ok-find_loop.was)).0, c.requires.unplaced)

pub returns-in-Err : goal.returns-in-Err
returns-in-Err c =
    let is = c.bare_counts-bare.ensures in
    let bare = c.wire_stage.ensures in
    let none = c.in_ok-find_loop.was in record {
      found = λ h.
          let l = gates_ordered h is bare (c.find_loop.ensures.passed none) in
          wiring_found l (loop_none h is bare (sym none ∙ c.find_loop.ensures.found)) (sym c.in-Err.is ∙ c.check_registers.ensures.found l.0);
      passed = λ h. not_passed;
    }

pub connect-requires : goal.connect-requires
connect-requires c =
    let l = gates_ordered c.requires c.bare_counts-bare.ensures c.wire_stage.ensures (c.find_loop.ensures.passed c.in_ok-find_loop.was) in
    connect_fits (loaded_still l (c.check_registers.ensures.kept l.0))

pub find_loop-requires-2 : goal.find_loop-requires-2
find_loop-requires-2 c =
    let h = c.requires in
    let is = c.bare_counts-bare.ensures in
    let bare = c.wire_stage.ensures in
    let none = c.in_ok-find_loop.was in
    let l = gates_ordered h is bare (c.find_loop.ensures.passed none) in
    let found = wiring_found l (loop_none h is bare (sym none ∙ c.find_loop.ensures.found)) (sym c.in_default.is ∙ c.check_registers.ensures.found l.0) in
    wires_loaded (loaded_still l (c.check_registers.ensures.kept l.0)) found c.connect.ensures.resolved c.connect.ensures.wired

pub returns : goal.returns
returns c =
    let is = c.bare_counts-bare.ensures in
    let bare = c.wire_stage.ensures in
    let none = c.in_ok-find_loop.was in
    let nothing = c.in_default.is in record {
      found = λ h.
          let l = gates_ordered h is bare (c.find_loop.ensures.passed none) in
          let found = wiring_found l (loop_none h is bare (sym none ∙ c.find_loop.ensures.found)) (sym nothing ∙ c.check_registers.ensures.found l.0) in
          wires_found (loaded_still l (c.check_registers.ensures.kept l.0)) found c.connect.ensures.resolved c.connect.ensures.wired c.find_loop-2.ensures.found;
      passed = λ h passed.
          let l = gates_ordered h is bare (c.find_loop.ensures.passed none) in
          let found = wiring_found l (loop_none h is bare (sym none ∙ c.find_loop.ensures.found)) (sym nothing ∙ c.check_registers.ensures.found l.0) in
          wires_ordered (loaded_still l (c.check_registers.ensures.kept l.0)) found c.connect.ensures.resolved c.connect.ensures.wired
          (c.find_loop-2.ensures.passed passed);
    }
