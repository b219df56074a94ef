-- A loop that puts items one after the other, of whatever widths and in whatever way it comes to the next: the first of those that are left stands
-- where the loop has come.
-- Assumes nothing.
use Prim.Native.Nat.{ℕ, ◌+◌, ◌≤◌}
use mathlib.Core.Path.{◌≡◌, ap, subst}
use mathlib.Core.List.{List, [], ◌∷◌, ◌++◌}
use lib.ListN.{length}
use Rattle.netlist.specs.declared.File.{File}
use Rattle.netlist.specs.Writing.{Item, write_item}
use Rattle.write_command.specs.Put.{Put}
use Rattle.write_command.specs.Parts.{bytes_of}
use Rattle.write_command.proofs.Joining.{Left, left_all, left_put, left_room, left_none}

-- of some items that a loop puts from a place of a buffer on, the rest is left
pub record ItemsLeft {X : Type 0} (f : File) (item : X → Item) (buffer₀ : List ℕ) (from : ℕ) (whole : List X)
    (buffer : List ℕ) (at : ℕ) (rest : List X) : Type 0 where
  pub left : Left buffer₀ from (bytes_of f item whole) buffer at (bytes_of f item rest)

module _ {X : Type 0} {f : File} {item : X → Item} where
  pub items_all : {buffer₀ : List ℕ} {from at : ℕ} {whole rest : List X} → at ≡ from → rest ≡ whole
      → from + length (bytes_of f item whole) ≤ length buffer₀ → ItemsLeft f item buffer₀ from whole buffer₀ at rest
  items_all {buffer₀} {from} {at} {whole} e r room = record { left = rw r (left_all e room) }

module _ {X : Type 0} {f : File} {item : X → Item} {buffer₀ buffer : List ℕ} {from at : ℕ} {whole rest : List X}
    (l : ItemsLeft f item buffer₀ from whole buffer at rest) where
  first : {x : X} {later : List X} → rest ≡ x ∷ later → bytes_of f item rest ≡ write_item f (item x) ++ bytes_of f item later
  unfolding bytes_of
  first e = ap (bytes_of f item) e

  pub items_long : length buffer ≡ length buffer₀
  items_long = l.left.long

  -- there is room for the next one
  pub items_room : {x : X} {later : List X} → rest ≡ x ∷ later → at + length (write_item f (item x)) ≤ length buffer
  items_room {x} {later} e = left_room (write_item f (item x)) (bytes_of f item later) l.left (first e)

  -- the next one is put
  pub items_put : {after : List ℕ} {next : ℕ} {x : X} {later : List X} → rest ≡ x ∷ later → Put buffer at (write_item f (item x)) after
      → next ≡ at + length (write_item f (item x)) → ItemsLeft f item buffer₀ from whole after next later
  items_put {x = x} {later} e p n = record { left = left_put (write_item f (item x)) (bytes_of f item later) l.left (first e) p n }

  -- nothing is put
  pub items_skip : {after : List ℕ} {next : ℕ} {rest' : List X} → rest ≡ rest' → after ≡ buffer → next ≡ at
      → ItemsLeft f item buffer₀ from whole after next rest'
  items_skip e b n = rw (b, n) (subst (λ (xs : List X). ItemsLeft f item buffer₀ from whole buffer at xs) e l)

  pub items_done : rest ≡ [] → Put buffer₀ from (bytes_of f item whole) buffer
  unfolding bytes_of
  items_done e = left_none l.left (ap (bytes_of f item) e)
