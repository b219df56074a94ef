-- Bytes that are put one part after the other are the whole; a loop that writes keeps to "putting what is left gives the whole".
-- Assumes nothing.
use Prim.Native.Nat.{ℕ, suc, ◌+◌, ◌≤◌, ◌<◌}
use native.Mathlib.Omega.{arith}
use mathlib.Core.Path.{◌≡◌, refl, sym, ap, ◌∙◌}
use mathlib.Core.Logic.{◌⊎◌, inl, inr, ⊎_elim}
use mathlib.Core.List.{List, [], ◌∷◌, ◌++◌}
use borrow.Rule.Slice.PartMut.{put_mid}
use Rattle.std.proofs.Common.{append_assoc}
use Rattle.std.proofs.lemmas.Slice.{put_mid-paste}
use Rattle.std.proofs.lemmas.List.Edits.{paste_all}
use lib.ListN.{length, get_or, set, take, drop, length-append}
use lib.Seq.{sets, length-sets, sets-eq, get_or-set_other}
use Rattle.write_command.specs.Put.{Put}
use Rattle.verdict.specs.Written.{holding}

-- ---- parts

pub sets-++ : (l : List ℕ) (at : ℕ) (xs ys : List ℕ) → sets l at (xs ++ ys) ≡ sets (sets l at xs) (at + length xs) ys
sets-++ l at [] ys = let e : at + 0 ≡ at = omega arith in rw e
sets-++ l at (x ∷ xs) ys = let e : at + suc (length xs) ≡ suc at + length xs = omega arith in rw e (sets-++ (set l at x) (suc at) xs ys)

-- the stores give the record
pub put : (before after : List ℕ) (at : ℕ) (bytes : List ℕ) → after ≡ sets before at bytes → Put before at bytes after
put before after at bytes e = record { stored = e; long = ap length e ∙ length-sets before at bytes }

-- a copy over a part of the buffer, as `copy_from_slice` leaves it
pub put_copied : (before bytes part : List ℕ) (at count : ℕ) → at + length bytes ≤ length before → part ≡ bytes → count ≡ length bytes →
    Put before at bytes (put_mid at count before part)
put_copied before bytes part at count room same long =
    put _ _ _ _
    (put_mid-paste at count before part bytes (length bytes) same (sym long) refl ∙ paste_all before at bytes (length bytes) refl
    ∙ sym (append_assoc (take at before) bytes (drop (at + length bytes) before)) ∙ sym (sets-eq bytes before at room))

-- two parts, of which the second begins where the first ends
pub put-++ : {before between after : List ℕ} {at next : ℕ} {xs ys : List ℕ} → Put before at xs between → Put between next ys after →
    next ≡ at + length xs → Put before at (xs ++ ys) after
put-++ {before} {between} {after} {at} {next} {xs} {ys} p q e = record {
  stored = q.stored ∙ rw (p.stored, e) (sym (sets-++ before at xs ys));
  long = q.long ∙ p.long;
}

-- nothing
pub put_none : (buffer : List ℕ) (at : ℕ) → Put buffer at [] buffer
put_none buffer at = record { stored = refl; long = refl }

-- ---- what the record says, byte by byte

-- a byte outside of the part keeps its value
pub sets_other : (l : List ℕ) (at : ℕ) (xs : List ℕ) (i d : ℕ) → (i < at) ⊎ (at + length xs ≤ i) → get_or (sets l at xs) i d ≡ get_or l i d
sets_other l at [] i d h = refl
sets_other l at (x ∷ xs) i d h =
    sets_other (set l at x) (suc at) xs i d (⊎_elim (λ low. inl (omega arith)) (λ high. inr (omega arith)) h)
    ∙ get_or-set_other l at i x d (λ e. ⊎_elim (λ low. omega arith) (λ high. omega arith) h)

-- from the start of a buffer that has room
pub sets_holding : (bytes buffer : List ℕ) → length bytes ≤ length buffer → sets buffer 0 bytes ≡ holding bytes buffer
sets_holding bytes buffer room = let e : 0 + length bytes ≡ length bytes = omega arith in sets-eq bytes buffer 0 (omega arith) ∙ rw e

pub put_holding : {buffer after bytes : List ℕ} → Put buffer 0 bytes after → length bytes ≤ length buffer → after ≡ holding bytes buffer
put_holding {buffer} {after} {bytes} p room = p.stored ∙ sets_holding bytes buffer room

-- ---- what is left

-- Where a loop stands that puts a whole from a place of a buffer on: there is room for what is left, and putting it, from where the loop
-- has come, gives the whole.
pub record Left (buffer₀ : List ℕ) (from : ℕ) (whole buffer : List ℕ) (at : ℕ) (rest : List ℕ) : Type 0 where
  pub room : at + length rest ≤ length buffer
  pub long : length buffer ≡ length buffer₀
  pub finishes : sets buffer at rest ≡ sets buffer₀ from whole

module _ {buffer₀ : List ℕ} {from : ℕ} {whole : List ℕ} where
  pub left_all : {at : ℕ} → at ≡ from → from + length whole ≤ length buffer₀ → Left buffer₀ from whole buffer₀ at whole
  left_all e room = record { room = omega arith; long = refl; finishes = rw e }

  -- the next part is put
  pub left_put : {buffer after : List ℕ} {at next : ℕ} {rest : List ℕ} (bytes rest' : List ℕ) → Left buffer₀ from whole buffer at rest →
      rest ≡ bytes ++ rest' → Put buffer at bytes after → next ≡ at + length bytes → Left buffer₀ from whole after next rest'
  left_put {buffer} {after} {at} {next} {rest} bytes rest' l e p n = record {
    room = omega (arith, l.room, ap length e, length-append bytes rest', p.long);
    long = p.long ∙ l.long;
    finishes = rw (p.stored, n) (sym (sets-++ buffer at bytes rest') ∙ ap (sets buffer at) (sym e) ∙ l.finishes);
  }

  -- there is room for the next part
  pub left_room : {buffer : List ℕ} {at : ℕ} {rest : List ℕ} (bytes rest' : List ℕ) → Left buffer₀ from whole buffer at rest → rest ≡ bytes ++ rest' →
      at + length bytes ≤ length buffer
  left_room bytes rest' l e = omega (arith, l.room, ap length e, length-append bytes rest')

  pub left_none : {buffer : List ℕ} {at : ℕ} {rest : List ℕ} → Left buffer₀ from whole buffer at rest → rest ≡ [] → Put buffer₀ from whole buffer
  left_none {buffer} {at} l e = record { stored = sym (ap (sets buffer at) e) ∙ l.finishes; long = l.long }
