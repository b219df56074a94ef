-- `words::turned` meets its contract: ten bits are turned, of which those of the inputs are the highest. Assumes nothing.
use Prim.Native.Nat.{ℕ, ◌+◌, ◌-◌, ◌*◌, ◌/◌, ◌%◌, ◌^◌}
use native.Mathlib.Omega.{arith}
use mathlib.Core.Path.{◌≡◌, sym, ap, ◌∙◌}
use Rattle.verdict.specs.declared.WordOrder.TheVariants.{FirstHighest}
use Rattle.verdict.specs.Words.{spelled}
use Rattle.words.proofs.Turning.{turned_highest, turned_ten, turned_below}
use Rattle.words.proofs.turned.Goals as goal

pub overflow_mul-result : goal.overflow_mul-result
overflow_mul-result c = record { fits = omega (arith, c.turned_five-first.ensures, turned_below 5 (c.args.name % 32)) }

pub overflow_add-result : goal.overflow_add-result
overflow_add-result c = record {
  fits =
      omega (
        arith,
        c.turned_five-first.ensures,
        turned_below 5 (c.args.name % 32),
        c.turned_five-last.ensures,
        turned_below 5 (c.args.name / 32 % 32),
      );
}

pub returns : goal.returns
returns c =
    let n = c.args.inputs in
    let name = c.args.name in
    let first = c.turned_five-first.result in
    let last = c.turned_five-last.result in
    let ten : n + (10 - n) ≡ 10 = omega arith in
    let all : last + 32 * first ≡ spelled FirstHighest (n + (10 - n)) name =
    ap (λ (x : ℕ). last + 32 * x) c.turned_five-first.ensures
    ∙ ap (λ (x : ℕ). x + 32 * spelled FirstHighest 5 (name % 32)) c.turned_five-last.ensures
    ∙ sym (ap (λ (k : ℕ). spelled FirstHighest k name) ten ∙ turned_ten name) in
    ap (λ (x : ℕ). x / 2 ^ (10 - n)) all ∙ turned_highest n (10 - n) name
