-- The steps of a list, taken one after the other. Assumes nothing.
use Prim.Native.Nat.{ℕ, suc, ◌+◌, ◌-◌, ◌*◌, ◌≤◌, ◌<◌}
use native.Mathlib.Omega.{arith}
use native.Mathlib.Decide.{dec_lt, ℕ_discrete}
use mathlib.Core.Path.{◌≡◌, refl, sym, ap, ap₂, ◌∙◌, subst}
use mathlib.Core.Bool.{Bool, true, false, cond, ◌&&◌}
use mathlib.Core.List.{List, [], ◌∷◌}
use lib.ListN.{drop_of_length-le, length, get_or, take, drop, length-drop}
use lib.Seq.{drop-cons, take-suc, take_all, take-take, take-add, length-take-le}
use lib.Dec.{eqb}
use borrow.Author.Tests.{eq-eqb, ne_eqb}
use Rattle.runs.specs.Row.{Row, Rule, low, toggle, after, Legal}
use Rattle.runs.specs.Net.{Net, nets, rise_step, fall_step}
use Rattle.runs.proofs.Test.{clash}
use Rattle.runs.proofs.Row.{after-++}
use Rattle.netlist.specs.declared.Counts.{Counts}
use Rattle.check_spec.specs.Words.{rails_for}
use Rattle.circuit.specs.Stage.{net_count}
use Rattle.circuit.proofs.Settling.{length_stage_gates}
use Rattle.circuit_steps.specs.Moves.{moves, loaded_net, row_in}
use Rattle.circuit_steps.proofs.Rules.{RailsBelow, rise_free, fall_free, free_stays}
use Rattle.run_spec.specs.Play.{allowed, none_left, steps_of}
use Rattle.run_spec.proofs.Play.{allowed_within, allowed_legal, allowed_alike, left_alike, kept_after}
use Rattle.call_play.specs.Steps.{Taken, Begins, Played}

-- ---- a list that is taken from a row, step by step

module _ (can : Rule) (r₀ : Row) (list : List ℕ) where
  -- so many steps were taken
  pub record StepsTo (i : ℕ) (r : Row) : Type 0 where
    pub within : i ≤ length list
    pub so_far : allowed can r₀ list ≡ i + allowed can r (drop i list)
    pub row_is : r ≡ after r₀ (take i list)

  pub steps_start : StepsTo 0 r₀
  steps_start = record { within = omega arith; so_far = omega arith; row_is = refl }

  module _ (i : ℕ) (r : Row) (s : StepsTo i r) where
    pub steps_end : length list ≤ i → (length list ≡ allowed can r₀ list) × (r ≡ after r₀ (take (length list) list))
    unfolding allowed
    steps_end h =
        let e : drop i list ≡ [] = drop_of_length-le list h in
        let all : length list ≡ i = omega (arith, s.within) in
        (all ∙ sym (s.so_far ∙ ap (λ (l : List ℕ). i + allowed can r l) e ∙ omega arith), s.row_is ∙ ap (λ (n : ℕ). after r₀ (take n list)) (sym all))

    module _ (more : i < length list) where
      abbrev k : ℕ
      k = get_or list i 0

      next-is : allowed can r₀ list ≡ i + cond (can r k) (suc (allowed can (toggle r k) (drop (suc i) list))) 0
      unfolding allowed
      next-is = s.so_far ∙ ap (λ (l : List ℕ). i + allowed can r l) (drop-cons list i 0 more)

      pub steps_barred : can r k ≡ false → i ≡ allowed can r₀ list
      steps_barred e = sym (next-is ∙ ap (λ (b : Bool). i + cond b (suc (allowed can (toggle r k) (drop (suc i) list))) 0) e ∙ omega arith)

      pub steps_on : can r k ≡ true → StepsTo (i + 1) (toggle r k)
      steps_on e =
          let z : i + 1 ≡ suc i = omega arith in
          rw z (record {
            within = omega arith;
            so_far = next-is ∙ ap (λ (b : Bool). i + cond b (suc (allowed can (toggle r k) (drop (suc i) list))) 0) e ∙ omega arith;
            row_is =
                ap (λ (x : Row). toggle x k) s.row_is
                ∙ sym (ap (after r₀) (take-suc list i 0 more) ∙ after-++ r₀ (take i list) (k ∷ []));
          })

-- ---- a list that is a rise up to a place, and from there on a fall

module _ (fall : ℕ) (list : List ℕ) (rise : ℕ) (b : Begins fall (length list) rise) where
  pub rise_part : take fall list ≡ take rise list
  rise_part = go (dec_lt rise fall)
    where
      go : Dec (rise < fall) → take fall list ≡ take rise list
      go (yes l) = take_all fall list (omega (arith, b.else_end l)) ∙ sym (take_all rise list (omega (arith, b.else_end l)))
      go (no l) = let e : fall ≡ rise = omega (arith, b.not_behind) in ap (λ (n : ℕ). take n list) e

  pub fall_part : drop fall list ≡ drop rise list
  fall_part = go (dec_lt rise fall)
    where
      go : Dec (rise < fall) → drop fall list ≡ drop rise list
      go (yes l) = drop_of_length-le list {i = fall} (omega (arith, b.else_end l)) ∙ sym (drop_of_length-le list {i = rise} (omega (arith, b.else_end l)))
      go (no l) = let e : fall ≡ rise = omega (arith, b.not_behind) in ap (λ (n : ℕ). drop n list) e

  module _ (c : Counts) (code : List ℕ) (w : ℕ) (goal : Row) (spells : (k : ℕ) → k < 2 * c.inputs → goal k ≡ rails_for w k) where
    abbrev N : Net
    N = loaded_net c code

    abbrev C : Row
    C = rails_for w

    abbrev R : List ℕ
    R = take rise list

    -- towards the goal of a rise the rules are those of a rise
    same : (r : Row) → RailsBelow N C r → (k : ℕ) → moves N goal r k ≡ rise_step N C r k
    same r below k = rise_free N r k C goal spells below

    stays : (r : Row) (k : ℕ) → RailsBelow N C r → moves N goal r k ≡ true → RailsBelow N C (toggle r k)
    stays r k below e = free_stays N C r k below (sym (same r below k) ∙ e)

    at_start : RailsBelow N C low
    at_start k h e = absurd (clash e refl)

    up_is : allowed (moves N goal) low R ≡ allowed (rise_step N C) low (take fall list)
    up_is = allowed_alike (moves N goal) (rise_step N C) (RailsBelow N C) same stays low R at_start ∙ ap (allowed (rise_step N C) low) (sym rise_part)

    all_nets_holds : net_count c ≡ nets N
    all_nets_holds = ap (λ (g : ℕ). 2 * c.inputs + g) (sym (length_stage_gates c code))

    abbrev up : ℕ
    up = allowed (rise_step N C) low (take fall list)

    abbrev down : ℕ
    down = allowed (fall_step N) (after low (take fall list)) (drop fall list)

    abbrev whole : Bool
    whole = eqb up (length (take fall list)) && none_left (rise_step N C) (nets N) (after low (take fall list))

    steps_if : (x : Bool) → whole ≡ x → steps_of N C fall list ≡ cond x (up + down) up
    unfolding steps_of
    steps_if x e = ap (λ (y : Bool). cond y (up + down) up) e

    rise_long : length R ≡ rise
    rise_long = length-take-le rise list b.within

    module _ (taken : ℕ) (is : taken ≡ allowed (moves N goal) low R) where
      taken_is : taken ≡ up
      taken_is = is ∙ up_is

      few : taken ≤ rise
      few = omega (arith, is, allowed_within (moves N goal) low R, rise_long)

      pub row_short : after low (take taken R) ≡ after low (take taken list)
      row_short = ap (after low) (take-take taken rise list few)

      -- a step of the rise is barred
      pub ends_short : taken < rise → taken ≡ steps_of N C fall list
      ends_short h =
          let e : eqb up (length (take fall list)) ≡ false = ne_eqb up (length (take fall list)) (λ q. omega (arith, taken_is, ap length rise_part, rise_long)) in
          taken_is ∙ sym (steps_if false (ap (λ (x : Bool). x && none_left (rise_step N C) (nets N) (after low (take fall list))) e))

      module _ (all : ¬ (taken < rise)) where
        taken_all : taken ≡ rise
        taken_all = omega (arith, few)

        whole-rise : take taken R ≡ R
        whole-rise = take_all taken R (omega (arith, taken_all, rise_long))

        below : RailsBelow N C (after low R)
        below = kept_after (moves N goal) (rise_step N C) (RailsBelow N C) same stays low R
            (subst (Legal (moves N goal) low) (ap (λ (n : ℕ). take n R) (sym is) ∙ whole-rise) (allowed_legal (moves N goal) low R)) at_start

        left_is : none_left (moves N goal) (net_count c) (after low (take taken R)) ≡ none_left (rise_step N C) (nets N) (after low (take fall list))
        left_is =
            ap (λ (l : List ℕ). none_left (moves N goal) (net_count c) (after low l)) whole-rise
            ∙ ap (λ (n : ℕ). none_left (moves N goal) n (after low R)) all_nets_holds
            ∙ left_alike (moves N goal) (rise_step N C) (RailsBelow N C) same stays (nets N) (after low R) below
            ∙ ap (λ (l : List ℕ). none_left (rise_step N C) (nets N) (after low l)) (sym rise_part)

        both_are : (x : Bool) → x ≡ none_left (moves N goal) (net_count c) (after low (take taken R)) → whole ≡ x
        both_are x e =
            ap (λ (y : Bool). y && none_left (rise_step N C) (nets N) (after low (take fall list))) (eq-eqb up (length (take fall list)) (omega (arith, taken_is, taken_all, ap length rise_part, rise_long)))
            ∙ sym (e ∙ left_is)

        -- the rise has not ended
        pub not_ended : false ≡ none_left (moves N goal) (net_count c) (after low (take taken R)) → taken ≡ steps_of N C fall list
        not_ended e = taken_is ∙ sym (steps_if false (both_are false e))

        -- it has, and steps of the fall follow
        module _ (e : true ≡ none_left (moves N goal) (net_count c) (after low (take taken R))) (none : Row) (is_low : (k : ℕ) → k < 2 * c.inputs → none k ≡ false)
            (more : ℕ) (more-is : more ≡ allowed (moves N none) (after low (take taken R)) (drop rise list)) where
          down_is : more ≡ down
          down_is =
              more-is
              ∙ ap (λ (l : List ℕ). allowed (moves N none) (after low l) (drop rise list)) whole-rise
              ∙ allowed_alike (moves N none) (fall_step N) (λ r. Unit {0}) (λ r t k. fall_free N r k none is_low) (λ r k t q. tt) (after low R) (drop rise list) tt
              ∙ ap₂ (λ (l m : List ℕ). allowed (fall_step N) (after low l) m) (sym rise_part) (sym fall_part)

          pub with_fall : taken + more ≡ steps_of N C fall list
          with_fall = ap₂ (λ (x y : ℕ). x + y) taken_is down_is ∙ sym (steps_if true (both_are true e))

          pub row_long : after (after low (take taken R)) (take more (drop rise list)) ≡ after low (take (taken + more) list)
          row_long =
              ap (λ (l : List ℕ). after (after low l) (take more (drop rise list))) whole-rise
              ∙ sym (after-++ low R (take more (drop rise list)))
              ∙ ap (after low) (sym (take-add rise more list) ∙ ap (λ (n : ℕ). take (n + more) list) (sym taken_all))

-- ---- the code's steps

pub none_more : (test : ℕ → Bool) (n : ℕ) → ((k : ℕ) → k < n → test k ≡ false) → test n ≡ false → (k : ℕ) → k < n + 1 → test k ≡ false
none_more test n h e k l = go (ℕ_discrete k n)
  where
    go : Dec (k ≡ n) → test k ≡ false
    go (yes q) = ap test q ∙ e
    go (no d) = h k (omega (arith, d))

taken_few : {can : Rule} {c : Counts} {list before : List ℕ} {steps : ℕ} {row : List ℕ} → Taken can c list before steps row → steps ≤ length list
taken_few {can} {c} {list} {before} t = omega (arith, t.steps_are, allowed_within can (row_in c before) list)

module _ (fall : ℕ) (list : List ℕ) (rise : ℕ) (b : Begins fall (length list) rise) where
  -- the steps behind the rise
  abbrev part : List ℕ
  part = take (length list - rise) (drop rise list)

  part-is : part ≡ drop rise list
  part-is = take_all (length list - rise) (drop rise list) (omega (arith, length-drop rise list))

  pub steps_few : {can can' : Rule} {c : Counts} {before row row' : List ℕ} {taken more : ℕ} → Taken can c (take rise list) before taken row → Taken can' c part row more row'
      → taken + more ≤ length list
  steps_few t u = omega (arith, taken_few t, taken_few u, length-take-le rise list b.within, ap length part-is, length-drop rise list, b.within)

  module _ (c : Counts) (code : List ℕ) (w : ℕ) (goal : Row) (spells : (k : ℕ) → k < 2 * c.inputs → goal k ≡ rails_for w k) (row₀ row : List ℕ) (start : row_in c row₀ ≡ low)
      (taken : ℕ) (t : Taken (moves (loaded_net c code) goal) c (take rise list) row₀ taken row) where
    abbrev M : Net
    M = loaded_net c code

    is : taken ≡ allowed (moves M goal) low (take rise list)
    is = t.steps_are ∙ ap (λ (s : Row). allowed (moves M goal) s (take rise list)) start

    left : row_in c row ≡ after low (take taken (take rise list))
    left = t.row_is ∙ ap (λ (s : Row). after s (take taken (take rise list))) start

    pub played_short : taken < rise → Played c code w fall list taken row
    played_short h = record {
      row_for_holds = t.row_for_holds;
      steps_are = ends_short fall list rise b c code w goal spells taken is h;
      row_is = left ∙ row_short fall list rise b c code w goal spells taken is;
    }

    module _ (all : ¬ (taken < rise)) where
      pub played_unended : (x : Bool) → x ≡ none_left (moves M goal) (net_count c) (row_in c row) → x ≡ false → Played c code w fall list taken row
      played_unended x e f = record {
        row_for_holds = t.row_for_holds;
        steps_are = not_ended fall list rise b c code w goal spells taken is all (sym f ∙ e ∙ ap (none_left (moves M goal) (net_count c)) left);
        row_is = left ∙ row_short fall list rise b c code w goal spells taken is;
      }

      pub played_on : (x : Bool) → x ≡ none_left (moves M goal) (net_count c) (row_in c row) → x ≡ true → (none : Row) → none ≡ low → (more : ℕ) (row' : List ℕ)
          → Taken (moves M none) c part row more row' → Played c code w fall list (taken + more) row'
      played_on x e f none z more row' u =
          let ended = sym f ∙ e ∙ ap (none_left (moves M goal) (net_count c)) left in
          let still : (k : ℕ) → k < 2 * c.inputs → none k ≡ false = λ k h. ap (λ (s : Row). s k) z in
          let steps = u.steps_are ∙ ap₂ (λ (s : Row) (l : List ℕ). allowed (moves M none) s l) left part-is in
          record {
            row_for_holds = u.row_for_holds;
            steps_are = with_fall fall list rise b c code w goal spells taken is all ended none still more steps;
            row_is =
                u.row_is ∙ ap₂ (λ (s : Row) (l : List ℕ). after s (take more l)) left part-is
                ∙ row_long fall list rise b c code w goal spells taken is all ended none still more steps;
          }
