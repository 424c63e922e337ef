-- A walk over a list by pieces of one length. Assumes nothing.
use Prim.Native.Nat.{ℕ, ◌+◌, ◌*◌, ◌/◌, ◌≤◌, ◌<◌}
use mathlib.Core.Path.{◌≡◌, sym, ap, ◌∙◌}
use mathlib.Core.List.{List, [], ◌∷◌, ◌++◌, append_assoc}
use native.Mathlib.Nat.{add_assoc, suc-mul}
use native.Mathlib.Numerals.{add-one}
use native.Mathlib.Omega.{arith}
use lib.ListN.{length, get_or, length-append}
use Rattle.std.specs.Borrow.{Bor}
use Rattle.std.proofs.Common.{Some, None, subst}
use Rattle.std.proofs.lemmas.Nat.{div-mul-add}
use Rattle.std.specs.Slice.Iter.{chunks_exact_rest, chunks_exact_size, chunks_exact_steps}
use Rattle.std.specs.declared.slice.ChunksExact.{ChunksExact}
use Rattle.lists.specs.Lists.{part}
use Rattle.lists.proofs.Pieces.{joined_same, get_d_singles, part_middle}

-- i pieces have come
pub record Chunked {A : Type 0} (xs : List A) (size : ℕ) (s : ChunksExact A) (i : ℕ) : Type 0 where
  pub each : chunks_exact_size s ≡ size
  pub done : List A
  pub split : xs ≡ done ++ chunks_exact_rest s
  pub long : length done ≡ i * size

module _ {A : Type 0} {xs : List A} {size : ℕ} where
  pub chunked_none : (s : ChunksExact A) → chunks_exact_rest s ≡ xs → chunks_exact_size s ≡ size → Chunked xs size s 0
  chunked_none s e z = record { each = z; done = []; split = sym e; long = omega arith }

  module _ {s : ChunksExact A} {i : ℕ} (w : Chunked xs size s i) where
    module _ (t : ChunksExact A) (x : Bor (List A)) (h : chunks_exact_steps s (Some x) t) where
      split_more : xs ≡ w.done ++ (x.now ++ chunks_exact_rest t)
      split_more = w.split ∙ ap (λ (l : List A). w.done ++ l) h.1.0

      pub chunked_more : Chunked xs size t (i + 1)
      chunked_more = record {
        each = h.0 ∙ w.each;
        done = w.done ++ x.now;
        split = split_more ∙ sym (append_assoc w.done x.now (chunks_exact_rest t));
        long = rw (length-append, add-one, suc-mul) (omega (arith, w.long, w.each, h.1.1));
      }

      -- what has come, and that it stands in the list
      pub piece : (d : A) → x.now ≡ part d xs (i * size) size
      piece d =
          sym (subst (λ (l : List A). part d l (i * size) size ≡ x.now) (sym split_more)
          (part_middle d w.done x.now (chunks_exact_rest t) (i * size) size w.long (h.1.1 ∙ w.each)))

      pub inside : i * size + size ≤ length xs
      inside = rw (ap length split_more, length-append, length-append) (omega (arith, w.long, w.each, h.1.1))

    pub chunked_all : (t : ChunksExact A) → 0 < size → chunks_exact_steps s None t → i ≡ length xs / size
    chunked_all t p h =
        rw (ap length w.split, length-append, w.long)
        (sym (div-mul-add i size (length (chunks_exact_rest s)) (omega (arith, h.1.0, w.each))))

-- a part of a part
pub part_part : {A : Type 0} (d : A) (xs : List A) (p size q k : ℕ) → q + k ≤ size → part d (part d xs p size) q k ≡ part d xs (p + q) k
unfolding part
part_part d xs p size q k h =
    joined_same k _ _
    (λ j l. ap (λ (v : _). v ∷ []) (get_d_singles (λ (i : ℕ). get_or xs (p + i) d) d size (q + j) (omega arith) ∙ ap (λ (i : ℕ). get_or xs i d) (sym (add_assoc p q j))))
