-- `text_read::pin_net` meets its contract. Assumes nothing.
use mathlib.Core.Path.{◌≡◌, sym, ap, ◌∙◌}
use mathlib.Core.List.{List}
use Prim.Native.Nat.{ℕ}
use lib.Dec.{eqb}
use denote.Ref.{Bor}
use Rattle.std.specs.Option.{option_map}
use Rattle.std.specs.declared.option.Option.TheVariants.{None, Some}
use Rattle.std.proofs.Common.{rules, tests}
use Rattle.std.proofs.lemmas.Iterator.Consumers.{nth_from_yields_List}
use Rattle.std.proofs.lemmas.Iterator.Splits.{YieldsList-from_slice_split}
use Rattle.std.specs.List.{slice_get}
use Rattle.text_spec.specs.Characters.{comma}
use Rattle.text_spec.specs.Lines.{split}
use Rattle.text_spec.specs.FromText.{net}
use Rattle.text_scan.proofs.Pieces.{split_list}
use Rattle.text_names.specs.Tailed.{drivers_of}
use Rattle.text_names.proofs.Driven.{tailed_bare}
use Rattle.text_read.proofs.Making.{pin_there, pin_none}
use Rattle.text_read.proofs.pin_net.Goals as goal

pub returns-in-Some : goal.returns-in-Some
returns-in-Some c =
    let i = c.args.i in let pins = c.args.pins.now in
    let got =
    nth_from_yields_List c.nth.result _ i c.nth.ensures.ran
    (YieldsList-from_slice_split _ (λ b. eqb b comma) pins c.split.ensures.rest c.split.ensures.done c.split.ensures.closure (λ x r q k. search (rules, tests))) in
    let here : Some c.in-Some.pin.now ≡ slice_get (split comma pins) i =
    ap (option_map (λ (x : Bor (List ℕ)). x.now)) (sym c.in-Some.is) ∙ got ∙ ap (λ ps. slice_get ps i) (split_list comma pins) in
    c.table_place.ensures.0
    ∙ ap (λ x. net x (drivers_of c.args.s.now)) (tailed_bare c.in-Some.pin.now)
    ∙ pin_there (λ x. net x (drivers_of c.args.s.now)) (split comma pins) i c.in-Some.pin.now here

pub returns-in-None : goal.returns-in-None
returns-in-None c =
    let i = c.args.i in let pins = c.args.pins.now in
    let got =
    nth_from_yields_List c.nth.result _ i c.nth.ensures.ran
    (YieldsList-from_slice_split _ (λ b. eqb b comma) pins c.split.ensures.rest c.split.ensures.done c.split.ensures.closure (λ x r q k. search (rules, tests))) in
    let here : None ≡ slice_get (split comma pins) i =
    ap (option_map (λ (x : Bor (List ℕ)). x.now)) (sym c.in-None.is) ∙ got ∙ ap (λ ps. slice_get ps i) (split_list comma pins) in
    pin_none (λ x. net x (drivers_of c.args.s.now)) (split comma pins) i here
