-- `check_wiring::check_registers` meets its contract. Assumes nothing.
use mathlib.Core.Path.{refl, ◌∙◌}
use Rattle.check_wiring.proofs.Placed.{loaded_placed, ordered_placed, circular_at, circular_nowhere, others_follow}
use Rattle.check_wiring.proofs.check_registers.Goals as goal

pub find_circular-requires : goal.find_circular-requires
find_circular-requires c =
    let l = c.requires.0 in
    let s = c.sources_of-sources.ensures in
    ((l.pipeline, ordered_placed _ _ _ _ _ l _ (_, c.place_elements.ensures), s.are l), s.long)

pub returns-in-Some : goal.returns-in-Some
returns-in-Some c =
    let w = c.place_elements.ensures in record {
      found = λ l.
          c.fault.ensures ∙ circular_at l.pipeline _ (c.find_circular.ensures l.pipeline (ordered_placed _ _ _ _ _ l _ (_, w)) (c.sources_of-sources.ensures.are l)) _ c.in-Some.is;
      kept = λ l. (loaded_placed _ _ _ _ _ l _ (_, w), refl);
    }

pub find_others-requires : goal.find_others-requires
find_others-requires c =
    let l = c.requires.0 in
    let w = c.place_elements.ensures in
    let s = c.sources_of-sources.ensures in
    let o = ordered_placed _ _ _ _ _ l _ (_, w) in (
      record {
        loaded = loaded_placed _ _ _ _ _ l _ (_, w);
        ordered = o;
        none = circular_nowhere l.pipeline _ (c.find_circular.ensures l.pipeline o (s.are l)) c.in_default.is;
        sources_are = s.are l;
      },
      s.long,
    )

pub returns : goal.returns
returns c =
    let w = c.place_elements.ensures in
    let s = c.sources_of-sources.ensures in record {
      found = λ l.
          let o = ordered_placed _ _ _ _ _ l _ (_, w) in
          let is = c.find_circular.ensures l.pipeline o (s.are l) in
          let none = c.in_default.is in
          c.find_others.ensures (record { loaded = loaded_placed _ _ _ _ _ l _ (_, w); ordered = o; none = circular_nowhere l.pipeline _ is none; sources_are = s.are l })
          ∙ others_follow l.pipeline _ is none;
      kept = λ l. (loaded_placed _ _ _ _ _ l _ (_, w), refl);
    }
