-- A count, read at one row, is read at any other that has rows enough after it. Assumes nothing.
use Prim.Native.Nat.{ℕ, zero, suc, ◌+◌, ◌≤◌, ◌<◌}
use mathlib.Core.Path.{◌≡◌, sym, ◌∙◌, ap}
use mathlib.Core.Bool.{Bool, true, false, ◌&&◌}
use mathlib.Core.List.{List}
use native.Mathlib.Omega.{arith}
use lib.ListN.{length}
use lib.Dec.{eqb}
use borrow.Author.Tests.{lt-ltb}
use Rattle.format.specs.Conditions.{when◌then◌else◌}
use Rattle.format.specs.Outcome.{Outcome, fault, done, ◌>>=◌, ◌>>◌, guard}
use Rattle.format.specs.Marks.{is_integer, '#', '[', ']'}
use Rattle.format.specs.Tokens.{Forest, size}
use Rattle.format.specs.Bytes.{byte, one_of}
use Rattle.format.specs.Integers.{number, integer}
use Rattle.format.specs.Sequences.{Reader, row_left, ◌⨾◌, repeat}
use Rattle.format.specs.Dimensions.{Shape, shaped, dimension, marked, bare, listed, counted, counted_bare, vector, slowest, fastest, plain, shape}
use Rattle.format.proofs.Forests.{size_append}
use Rattle.laws.proofs.Holds.{of_done}
use Rattle.laws.proofs.Order.{order_size}
use Rattle.laws.proofs.Bounds.{shape_bounded}
use Rattle.columns.proofs.Inverse.{done_pair, bind_done, then_done, seq_done}

-- ---- what follows a part that is the same

bind_moves : {A B : Type 0} (o : Outcome A) (k k' : A → Outcome B) {b : B} → (o >>= k) ≡ done b → ((a : A) → k a ≡ done b → k' a ≡ done b) → (o >>= k') ≡ done b
unfolding ◌>>=◌
bind_moves (fault n p) k k' e h = e
bind_moves (done a) k k' e h = h a e

then_moves : {B : Type 0} (o : Outcome (Unit {0})) (r r' : Outcome B) {b : B} → (o >> r) ≡ done b → (r ≡ done b → r' ≡ done b) → (o >> r') ≡ done b
unfolding ◌>>◌
then_moves (fault n p) r r' e h = e
then_moves (done tt) r r' e h = h e

if_moves : {B : Type 0} (t : Bool) (x y x' y' : Outcome B) {b : B} → (when t then x else y) ≡ done b → (x ≡ done b → x' ≡ done b) → (y ≡ done b → y' ≡ done b) → (when t then x' else y') ≡ done b
unfolding when◌then◌else◌
if_moves true x y x' y' e h k = h e
if_moves false x y x' y' e h k = k e

module _ (m : List ℕ) (lent lent' : ℕ) where
  -- what a reader reads at a row, another reads at a row that has rows enough after it
  abbrev Moves : Reader → Reader → Type 0
  Moves one one' = (at row row' next : ℕ) (f : Forest) → one at row ≡ done (f, next) → row' + size f ≤ lent' → one' at row' ≡ done (f, next)

  seq_moves : {one one' other other' : Reader} → Moves one one' → Moves other other' → Moves (one ⨾ other) (one' ⨾ other')
  unfolding ◌⨾◌ ◌>>=◌
  seq_moves {one} {one'} {other} {other'} a b at row row' next f e h =
      let x = seq_done one other at row f next e in
      let z = ap size x.is ∙ size_append x.former x.latter in
      let p = a at row row' x.mid x.former x.first (omega arith) in
      let q = b x.mid (row + size x.former) (row' + size x.former) next x.latter x.second (omega arith) in
      rw (p, q) (ap (λ (g : Forest). done (g, next)) (sym x.is))

  repeat_moves : (n : ℕ) {item item' : Reader} → Moves item item' → Moves (repeat n item) (repeat n item')
  unfolding repeat
  repeat_moves zero a at row row' next f e h = e
  repeat_moves (suc n) a at row row' next f e h = seq_moves a (repeat_moves n a) at row row' next f e h

  -- ---- dimensions

  dimension_moves : (mark start : ℕ) → Moves (dimension m lent mark start) (dimension m lent' mark start)
  unfolding dimension row_left guard ◌>>◌ size
  dimension_moves mark start at row row' next f e h =
      let x = (then_done (row_left lent at row) _ e).1 in
      let z = ap size (done_pair (bind_done (number m _ mark at start) _ x).2).0 in
      rw (lt-ltb row' lent' (omega arith)) x

  marked_moves : Moves (marked m lent) (marked m lent')
  unfolding marked
  marked_moves at row row' next f e h = bind_moves (one_of m is_integer at) _ _ e λ mark q. dimension_moves mark (at + 1) at row row' next f q h

  bare_moves : (mark : ℕ) → Moves (bare m lent mark) (bare m lent' mark)
  unfolding bare
  bare_moves mark at row row' next f e h = bind_moves (byte m at) _ _ e λ _ q. dimension_moves mark at at row row' next f q h

  listed_moves : (left place : ℕ) → Moves (listed m lent left place) (listed m lent' left place)
  unfolding listed
  listed_moves zero place at row row' next f e h = e
  listed_moves (suc left) place at row row' next f e h = bind_moves (byte m at) _ _ e λ b q.
      if_moves (eqb b ']') _ _ _ _ q (λ z. z) λ z. seq_moves marked_moves (listed_moves left place) at row row' next f z h

  counted_moves : (place : ℕ) {item item' : Reader} → Moves item item' → Moves (counted m lent place item) (counted m lent' place item')
  unfolding counted
  counted_moves place a at row row' next f e h = bind_moves (integer m at) _ _ e λ n q.
      then_moves _ _ _ q λ z. repeat_moves n.0 a n.1 row row' next f z h

  vector_moves : (place : ℕ) → Moves (vector m lent place) (vector m lent' place)
  unfolding vector counted_bare
  vector_moves place at row row' next f e h = bind_moves (byte m at) _ _ e λ b q.
      if_moves _ _ _ _ _ q (λ z. z) λ q. if_moves _ _ _ _ _ q (λ z. counted_moves place marked_moves (at + 1) row row' next f z h) λ q.
      if_moves _ _ _ _ _ q
      (λ z. bind_moves (one_of m is_integer (at + 1)) _ _ z λ mark z. bind_moves (one_of m (eqb '#') (at + 1 + 1)) _ _ z λ _ z.
      counted_moves place (bare_moves mark) (at + 1 + 2) row row' next f z h)
      λ z. seq_moves marked_moves (listed_moves _ place) at row row' next f z h

  -- ---- counts

  slowest_moves : (at row row' start : ℕ) (n : Shape) → slowest m lent at row ≡ done (n, start) → row' + size n.dimensions ≤ lent' → slowest m lent' at row' ≡ done (n, start)
  unfolding slowest shaped ◌>>=◌
  slowest_moves at row row' start n e h =
      let x = bind_done (vector m lent at (at + 1) row) _ e in
      let z = ap (λ (s : Shape). size s.dimensions) (done_pair x.2).0 in
      rw (vector_moves at (at + 1) row row' x.0.1 x.0.0 x.1 (omega arith)) x.2

  -- a table's count, which isn't wrapped
  unwrapped_moves : (t : Bool) (at row row' start : ℕ) (n : Shape) → (when t && false then fastest m lent at row else slowest m lent at row) ≡ done (n, start) → row' + size n.dimensions ≤ lent'
      → (when t && false then fastest m lent' at row' else slowest m lent' at row') ≡ done (n, start)
  unfolding when◌then◌else◌
  unwrapped_moves true at row row' start n e h = slowest_moves at row row' start n e h
  unwrapped_moves false at row row' start n e h = slowest_moves at row row' start n e h

  pub shape_moves : (at row row' start : ℕ) (n : Shape) → shape m lent false at row ≡ done (n, start) → row' + size n.dimensions ≤ lent' → shape m lent' false at row' ≡ done (n, start)
  unfolding shape plain
  shape_moves at row row' start n e h = bind_moves (byte m at) _ _ e λ b q. if_moves _ _ _ _ _ q (λ z. z) λ q.
      bind_moves (byte m (at + 1)) _ _ q λ c z. unwrapped_moves (eqb c '[') at row row' start n z h

-- its dimensions are no more than the message's bytes
pub shape_few : (m : List ℕ) (lent at row start : ℕ) (n : Shape) → row ≤ lent → shape m lent false at row ≡ done (n, start) → (at < length m) × (size n.dimensions ≤ length m)
shape_few m lent at row start n l e =
    let s = of_done (n, start) (shape_bounded m lent false at row l) e in
    let k = order_size s.order in
    let i = s.inside in
    let o = s.on in
    (omega arith, omega arith)
