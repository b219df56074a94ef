-- `check_words::find_suspect` meets its contract: in a word that the mask does not name nothing is found. Assumes nothing.
use mathlib.Core.Path.{sym}
use Rattle.circuit.specs.Reference.{reference_in}
use Rattle.check_words.proofs.find_suspect.Goals as goal

pub returns-then-is_named : goal.returns-then-is_named
returns-then-is_named c =
    let narrowed = c.narrow in
    let clean = narrowed.ensures.clean (reference_in c.args.sizes c.args.reference.now) c.requires.1 in
    record { long = narrowed.ensures.long; clean = clean; found = c.find.ensures }

pub returns : goal.returns
returns c =
    let narrowed = c.narrow in
    let clean = narrowed.ensures.clean (reference_in c.args.sizes c.args.reference.now) c.requires.1 in
    record { long = narrowed.ensures.long; clean = clean; found = sym (clean c.args.w (c.is_named.ensures.0 c.if-is_named.false)) }
