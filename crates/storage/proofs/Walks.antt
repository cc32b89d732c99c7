-- The steps of an address's way, in words that have the rows it meets. Assumes nothing.
use Prim.Native.Nat.{ℕ, zero, suc, ◌+◌, ◌-◌, ◌≤◌, ◌<◌}
use mathlib.Core.Path.{◌≡◌, refl, ap}
use mathlib.Core.Bool.{Bool, true, false, ◌&&◌}
use mathlib.Core.List.{List, [], ◌∷◌}
use native.Mathlib.Omega.{arith}
use lib.ListN.{length}
use lib.Dec.{ltb, leb, eqb}
use borrow.Author.Tests.{lt-ltb, le-ltb, le-leb, lt-leb, eq-eqb, ne_eqb}
use Rattle.format.specs.Conditions.{when◌then◌else◌, between}
use Rattle.format.specs.Outcome.{fault, done, ◌>>=◌, ◌>>◌, guard}
use Rattle.format.specs.Limits.{dimension_limit}
use Rattle.format.specs.Refusals.{rows_dont_fit}
use Rattle.format.specs.Tokens.{Token, Kind, kind_number, plain_count, Forest, size, counts}
use Rattle.format.specs.Rows.{Row, Ancestry, held_by, row_at, row_of}
use Rattle.format.specs.Bytes.{within}
use Rattle.format.specs.Addresses.{is_a, is_dimension, child_of, along, dimensions_from, dimensions, inside}
use Rattle.laws.proofs.Schemas.{Is}
use Rattle.format.proofs.KindNumbers.{same_number}
use Rattle.storage.specs.Places.{Rowed}
use Rattle.storage.proofs.Places.{rowed_own, rowed_later}
use Rattle.laws.proofs.Counts.{Dimensioned, no_dimension, one_dimension, Vector, counts-length, Shaped, plain, vector}

-- ---- what a row on the way must be

module _ (kind : Kind) (marks : ℕ → Bool) (highest : ℕ) (t : Token) (link : ℕ) (a : Ancestry) where
  -- a token's row is what its kind, mark and order make it
  pub is_a_lem : t.kind ≡ kind → marks t.mark ≡ true → t.order ≤ highest → is_a kind marks highest (row_of t link a) ≡ true
  unfolding is_a row_of
  is_a_lem k m o = rw (k, eq-eqb (kind_number kind) (kind_number kind) refl, m, le-leb t.order highest o)

  -- and no other
  pub isnt_a : (t.kind ≡ kind → ⊥) → is_a kind marks highest (row_of t link a) ≡ false
  unfolding is_a row_of
  isnt_a c = rw (ne_eqb (kind_number t.kind) (kind_number kind) (λ e. c (same_number t.kind kind e)))

-- of a row that has the kind's number and no order
pub is_one : {kind : Kind} {marks : ℕ → Bool} {t : Token} (highest link : ℕ) (a : Ancestry) → Is kind marks t → is_a kind marks highest (row_of t link a) ≡ true
is_one {kind} {marks} {t} highest link a i = is_a_lem kind marks highest t link a i.kind_is i.mark_is (let e = i.order_is in omega arith)

module _ (ws : List ℕ) where
  -- ---- a step

  -- a row that fits: to its link
  pub along-done : (fits : Row → Bool) (stop k link : ℕ) (t : Token) (a : Ancestry) → row_at ws k ≡ row_of t link a → fits (row_of t link a) ≡ true → k < link → link ≤ stop
      → along ws fits stop k ≡ done link
  unfolding along row_of guard ◌>>◌
  along-done fits stop k link t a e h p q = rw (e, h, lt-ltb k stop (omega arith), lt-ltb k link p, le-leb link stop q)

  -- a row that fits and names its container
  pub child_done : (fits : Row → Bool) (container stop k link : ℕ) (t : Token) (a : Ancestry) → row_at ws k ≡ row_of t link (held_by container a) → fits (row_of t link (held_by container a)) ≡ true
      → k < link → link ≤ stop → along ws (child_of container fits) stop k ≡ done link
  unfolding child_of held_by row_of
  child_done fits container stop k link t a e h p q = along-done (child_of container fits) stop k link t (held_by container a) e (rw (eq-eqb (container + 1) (container + 1) refl, h)) p q

  -- no row before `stop`
  pub along_over : (fits : Row → Bool) (stop k : ℕ) → stop ≤ k → along ws fits stop k ≡ fault rows_dont_fit 0
  unfolding along guard ◌>>◌
  along_over fits stop k h = rw (le-ltb k stop h)

  -- a row that doesn't fit
  pub along_unfit : (fits : Row → Bool) (stop k : ℕ) → fits (row_at ws k) ≡ false → along ws fits stop k ≡ fault rows_dont_fit 0
  unfolding along guard ◌>>◌
  along_unfit fits stop k e = rw e (go (ltb k stop))
    where
      go : (b : Bool) → (guard (b && false) rows_dont_fit 0 >> (guard (ltb k (row_at ws k).link && leb (row_at ws k).link stop) rows_dont_fit 0 >> done (row_at ws k).link))
          ≡ fault rows_dont_fit 0
      go true = refl
      go false = refl

  -- ---- dimensions

  module _ (container stop : ℕ) (link-is : (row_at ws container).link ≡ stop) where
    from_done : {f : Forest} (a : Ancestry) (fuel n : ℕ) → Dimensioned f → Rowed ws n (held_by container a) f → stop ≡ n + size f → size f ≤ fuel → dimensions_from ws fuel container n ≡ done (counts f)
    unfolding dimensions_from counts size when◌then◌else◌ ◌>>=◌ is_dimension row_of
    from_done a zero n no_dimension r e h = refl
    from_done a (suc fuel) n no_dimension r e h = rw (link-is, le-leb stop n (omega arith))
    from_done a zero n (one_dimension i d) r e h = absurd (omega arith)
    from_done a (suc fuel) n (one_dimension {t = t} {after = after} i d) r e h =
        let own = rowed_own r in
        rw (
          link-is,
          lt-leb stop n (omega arith),
          child_done is_dimension container stop n _ t a own (is_one plain_count _ _ i) (omega arith) (omega arith),
          from_done {f = after} a fuel _ d (rowed_later r) (omega arith) (omega arith),
          own,
        )

    vector_done : {f : Forest} (a : Ancestry) (n : ℕ) → Vector 1 dimension_limit f → Rowed ws n (held_by container a) f → stop ≡ n + size f → size f ≤ length ws
        → (dimensions_from ws (length ws) container n >>= (λ ds. guard (between 1 dimension_limit (length ds)) rows_dont_fit 0 >> done ds)) ≡ done (counts f)
    unfolding guard ◌>>◌ ◌>>=◌ between
    vector_done {f} a n v r e h =
        let c = counts-length v.dimensioned in
        let x = v.enough in
        let y = v.few in
        rw (from_done a (length ws) n v.dimensioned r e h, le-leb 1 (length (counts f)) (omega arith), le-leb (length (counts f)) dimension_limit (omega arith))

    shaped_done : {highest order count : ℕ} {f : Forest} (a : Ancestry) (n : ℕ) → Shaped highest order count f → Rowed ws n (held_by container a) f → stop ≡ n + size f → size f ≤ length ws
        → (when eqb order plain_count then done (count ∷ []) else
        (dimensions_from ws (length ws) container n >>= (λ ds. guard (between 1 dimension_limit (length ds)) rows_dont_fit 0 >> done ds)))
        ≡ done (when eqb order plain_count then count ∷ [] else counts f)
    unfolding when◌then◌else◌
    shaped_done a n plain r e h = refl
    shaped_done a n (vector o _ v) r e h = rw o (vector_done a n v r e h)

  -- what a container's indexes are for
  pub dimensions-done : {highest : ℕ} {f : Forest} (container n stop : ℕ) (t : Token) (b a : Ancestry) → row_at ws container ≡ row_of t stop b → Shaped highest t.order t.count f
      → Rowed ws n (held_by container a) f → stop ≡ n + size f → size f ≤ length ws
      → dimensions ws container n ≡ done (when eqb t.order plain_count then t.count ∷ [] else counts f)
  unfolding dimensions row_of
  dimensions-done container n stop t b a e s r q h = rw e (shaped_done container stop (ap (λ x. x.link) e) a n s r q h)

  -- a slot that is inside the message
  pub inside-done : (message_bytes mark start less wide first : ℕ) → start ≡ first + less → first + wide ≤ message_bytes
      → inside ws message_bytes mark start less wide ≡ done (record { mark = mark; first = first; wide = wide })
  unfolding inside within guard ◌>>◌
  inside-done message_bytes mark start less wide first e h =
      let q : start - less ≡ first = omega arith in
      rw (le-leb less start (omega arith), q, le-leb (first + wide) message_bytes h)
