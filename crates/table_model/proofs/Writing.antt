-- What a put of an entry makes of a buffer that is filled with 0xff. Assumes nothing.
--     next_entry                       one turn of the writing loop, in the buffer
--     written_none, written_next       THE LOOP'S START AND TURN, as `written_over` says them
--     written_table                    the loop's end: a buffer with a table's items written is the table's bytes and the rest of the buffer
use Rattle.std.proofs.Common.{ℕ, ◌+◌, ◌-◌, ◌≤◌, ◌≡◌, refl, sym, ap, ap₂, ◌∙◌, List, [], ◌∷◌, ◌++◌, append_assoc, append-nil, arith, length, drop, replicate, length-append}
use native.Mathlib.Nat.{sub-zero}
use Rattle.std.proofs.Math.ListN.{length-replicate, replicate-append-replicate}
use Rattle.layout_bytes.specs.inner.Bytes.{put_at}
use Rattle.layout_bytes.proofs.Put.{put_seam}
use Rattle.layout_node.specs.Header.{header_bytes}
use Rattle.layout_node.proofs.RoundTrip.{header_length}
use Rattle.dirtab_entry.specs.Entry.{rounded}
use Rattle.avl_model.specs.Tree.{Tree}
use Rattle.table_model.specs.Entry.{Entry, Item, length_of, header_for, entry_bytes}
use Rattle.table_model.specs.Place.{items}
use Rattle.table_model.specs.Table.{stop, bytes_from, size_of, table_bytes}
use Rattle.table_model.specs.inner.Writing.{stored, end_over, written_over, Spaced}
use Rattle.table_model.proofs.Bytes.{entry_length, bytes_over, end_over_lem, end_items}

pub stored-length : (x : Item) → length (stored x) ≡ 14 + length x.entry.name
stored-length x = length-append (header_bytes (header_for x)) x.entry.name ∙ ap (λ (h : ℕ). h + length x.entry.name) (header_length (header_for x))

split : (a b c : ℕ) → a ≡ b + c → replicate {A = ℕ} a 255 ≡ replicate b 255 ++ replicate c 255
split a b c e = ap (λ (k : ℕ). replicate {A = ℕ} k 255) e ∙ sym (replicate-append-replicate b c 255)

-- after B, of e bytes, stands 0xff up to n; the entry x is stored at its offset
pub next_entry : (B tail : List ℕ) (e n : ℕ) (x : Item) → length B ≡ e → e ≤ x.offset → stop x ≤ n
    → put_at (B ++ (replicate (n - e) 255 ++ tail)) x.offset (stored x)
    ≡ (B ++ (replicate (x.offset - e) 255 ++ entry_bytes x)) ++ (replicate (n - stop x) 255 ++ tail)
unfolding entry_bytes
next_entry B tail e n x long after fits =
    let k : ℕ = length x.entry.name in
    let gap : List ℕ = replicate (x.offset - e) 255 in
    let pad : ℕ = length_of x.entry - (14 + k) in
    let left : ℕ = n - stop x in
    let cut : replicate (n - e) 255 ≡ gap ++ (replicate (14 + k) 255 ++ (replicate pad 255 ++ replicate left 255)) =
    split (n - e) (x.offset - e) (14 + k + (pad + left)) (omega arith)
    ∙ ap (λ (r : List ℕ). gap ++ r) (split (14 + k + (pad + left)) (14 + k) (pad + left) refl ∙ ap (λ (r : List ℕ). replicate (14 + k) 255 ++ r) (split (pad + left) pad left refl)) in
    ap (λ (r : List ℕ). put_at (B ++ (r ++ tail)) x.offset (stored x)) cut
    ∙ ap (λ (r : List ℕ). put_at r x.offset (stored x)) (simp append_assoc)
    ∙ put_seam (B ++ gap) (replicate (14 + k) 255) (replicate pad 255 ++ (replicate left 255 ++ tail)) (stored x) x.offset
    (length-append B gap ∙ ap₂ ◌+◌ long (length-replicate (x.offset - e) 255) ∙ omega arith) (length-replicate (14 + k) 255 ∙ sym (stored-length x))
    ∙ simp append_assoc

spaced_length : (xs : List Item) (e n : ℕ) → Spaced e n xs → e + length (bytes_from e xs) ≡ end_over e xs
unfolding bytes_from
spaced_length [] e n s = omega arith
spaced_length (x ∷ xs) e n s =
    let h = s.0 in
    let k = spaced_length xs (stop x) n s.2 in
    simp (length-append, length-replicate, entry_length) (omega arith)

spaced_left : (xs ys : List Item) (e n : ℕ) → Spaced e n (xs ++ ys) → Spaced e n xs
spaced_left [] ys e n s = tt
spaced_left (x ∷ xs) ys e n s = (s.0, s.1, spaced_left xs ys (stop x) n s.2)

-- of spaced items each starts where those before it have ended, and ends within n
pub spaced_at : (xs : List Item) (y : Item) (ys : List Item) (e n : ℕ) → Spaced e n (xs ++ (y ∷ ys)) → (end_over e xs ≤ y.offset) × (stop y ≤ n)
spaced_at [] y ys e n s = (s.0, s.1)
spaced_at (x ∷ xs) y ys e n s = spaced_at xs y ys (stop x) n s.2

-- before the loop: 0xff in the first n bytes
pub written_none : (n : ℕ) (d : List ℕ) → written_over n [] d ≡ replicate n 255 ++ drop n d
unfolding written_over bytes_from
written_none n d = rw sub-zero

-- a turn of it: one more item is stored
pub written_next : (xs : List Item) (y : Item) (ys : List Item) (n : ℕ) (d : List ℕ) → Spaced 0 n (xs ++ (y ∷ ys))
    → put_at (written_over n xs d) y.offset (stored y) ≡ written_over n (xs ++ (y ∷ [])) d
unfolding written_over bytes_from
written_next xs y ys n d s =
    let at = spaced_at xs y ys 0 n s in
    let e : ℕ = end_over 0 xs in
    next_entry (bytes_from 0 xs) (drop n d) e n y (omega (arith, spaced_length xs 0 n (spaced_left xs (y ∷ ys) 0 n s))) at.0 at.1
    ∙ rw (bytes_over 0 xs (y ∷ []), end_over_lem 0 xs (y ∷ [])) (simp append-nil)

-- after it: the table's bytes, and what the buffer had past them
pub written_table : (entry : ℕ → Entry) (align : ℕ) (t : Tree) (s : ℕ) (d : List ℕ)
    → written_over (rounded (size_of entry t)) (items entry align 0 s t) d ≡ table_bytes entry align s t ++ drop (rounded (size_of entry t)) d
unfolding written_over table_bytes
written_table entry align t s d = rw (end_items entry align t 0 s) (simp append_assoc)
