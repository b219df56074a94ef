-- `check_files::check` meets its contract. Assumes nothing.
use Rattle.check_spec.specs.Content.{files}
use Rattle.check_files.proofs.Files.{checked}
use Rattle.check_files.proofs.check.Goals as goal

pub returns : goal.returns
returns c =
    let d = checked c.args.order (files c.args.stage.now c.args.reference.now) _ c.verdict_on.ensures in
    record { verdict = d.0; demand2 = d.1.0; runs = d.1.1 }
