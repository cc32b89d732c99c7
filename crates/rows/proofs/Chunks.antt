-- The words of a row: a chunk of ten, and words put there. Assumes nothing.
use Prim.Native.Nat.{ℕ, zero, suc, ◌+◌, ◌*◌, ◌/◌, ◌≤◌, ◌<◌}
use mathlib.Core.Path.{◌≡◌, refl, sym, ap, ◌∙◌}
use mathlib.Core.List.{List, append_assoc}
use native.Mathlib.Omega.{arith}
use lib.ListN.{length, get_or, take, drop}
use Rattle.std.proofs.lemmas.List.{get_or-take, get_or-drop}
use lib.Seq.{sets, sets-eq, drop-drop}
use borrow.Rule.Slice.PartMut.{put_mid}
use Rattle.std.specs.Simd.{first_chunks}
use Rattle.format.specs.Rows.{row_words, word, row_at, rows_in}

-- one of the first chunks of n
chunk_at : (n k : ℕ) (ws : List ℕ) (i : ℕ) (d : List ℕ) → i < k → get_or (first_chunks n k ws) i d ≡ take n (drop (i * n) ws)
chunk_at n zero ws i d h = absurd (omega arith)
chunk_at n (suc k) ws zero d h = let z : zero * n ≡ 0 = omega arith in rw z refl
chunk_at n (suc k) ws (suc i) d h =
    let m : n + i * n ≡ suc i * n = omega arith in
    chunk_at n k (drop n ws) i d (omega arith) ∙ rw (drop-drop (i * n) n ws, m) refl

-- a row by its chunk
pub row_there : (ws words : List ℕ) (row : ℕ) → words ≡ get_or (first_chunks row_words (length ws / row_words) ws) row words → row < rows_in ws
    → record { kind = get_or words 0 0; mark = get_or words 1 0; first = get_or words 2 0; payload = get_or words 3 0; extent = get_or words 4 0; count = get_or words 5 0; link = get_or words 6 0; order = get_or words 7 0; parent = get_or words 8 0; depth = get_or words 9 0 } ≡ row_at ws row
unfolding row_at word rows_in
row_there ws words row e h =
    let w : words ≡ take row_words (drop (row * row_words) ws) = e ∙ chunk_at row_words (length ws / row_words) ws row words h in
    let at : (k : ℕ) → k < 10 → get_or words k 0 ≡ get_or ws (row * row_words + k) 0 = λ k l. ap (λ x. get_or x k 0) w ∙ get_or-take row_words (drop (row * row_words) ws) k 0 l ∙ get_or-drop (row * row_words) ws k 0 in
    rw (at 0 (omega arith), at 1 (omega arith), at 2 (omega arith), at 3 (omega arith), at 4 (omega arith), at 5 (omega arith), at 6 (omega arith), at 7 (omega arith), at 8 (omega arith), at 9 (omega arith))

-- words put at a place
pub put_at : (ws ys : List ℕ) (at k : ℕ) → k ≡ length ys → at + k ≤ length ws → put_mid at k ws ys ≡ sets ws at ys
put_at ws ys at k e h = rw (drop-drop k at ws, e) (sym (append_assoc (take at ws) ys (drop (at + length ys) ws)) ∙ sym (sets-eq ys ws at (omega arith)))
